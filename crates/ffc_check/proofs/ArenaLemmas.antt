-- Clauses in one buffer.
use Rattle.std.proofs.Common.{◌≡◌, ◌≢◌, ne_eqb, ℕ, zero, suc, ◌-◌, ◌<◌, ◌≤◌, true, false, ◌==◌, List, [], ◌∷◌, ◌++◌, length, get_or, take, drop, Option, Some, option_map, unwrap_or, slice_get, slice_range, refl, sym, ap, ap₂, ◌∙◌, subst, arith}
use Rattle.std.proofs.lemmas.List.{length-append, length-drop, length-take-le, take-append-le, take-append-drop, drop-append-le, take_all, drop_at}
use Rattle.ffc_clause.specs.Clauses.{Literal, Clause}
use Rattle.ffc_rules.specs.Entries.{ends_empty}
use Rattle.ffc_check.specs.Arena.{clauses_in, AreEnds, last_end, start_of, IsArena}

pub length-clauses_in : (literals : List Literal) (start : ℕ) (ends : List ℕ) → length (clauses_in literals start ends) ≡ length ends
length-clauses_in literals start [] = refl
length-clauses_in literals start (end ∷ ends) = ap suc (length-clauses_in literals end ends)

start_later : (start end : ℕ) (ends : List ℕ) (k : ℕ) → start_of end ends k ≡ start_of start (end ∷ ends) (suc k)
start_later start end ends zero = refl
start_later start end ends (suc k) = refl

pub clause_at : (literals : List Literal) (start : ℕ) (ends : List ℕ) (k : ℕ) → k < length ends → slice_get (clauses_in literals start ends) k ≡ Some (slice_range literals (start_of start ends k) (get_or ends k 0))
clause_at literals start [] k inside = absurd (omega (arith, inside))
clause_at literals start (end ∷ ends) zero inside = refl
clause_at literals start (end ∷ ends) (suc k) inside =
    clause_at literals end ends k (omega (arith, inside)) ∙ ap (λ s. Some (slice_range literals s (get_or ends k 0))) (start_later start end ends k)

pub start_le_end : (start : ℕ) (ends : List ℕ) (k : ℕ) → k < length ends → AreEnds start ends → start_of start ends k ≤ get_or ends k 0
start_le_end start [] k inside in_order = absurd (omega (arith, inside))
start_le_end start (end ∷ ends) zero inside in_order = in_order.0
start_le_end start (end ∷ ends) (suc k) inside in_order = subst (λ s. s ≤ get_or ends k 0) (start_later start end ends k) (start_le_end end ends k (omega (arith, inside)) in_order.1)

start_le_last : (start : ℕ) (ends : List ℕ) → AreEnds start ends → start ≤ last_end start ends
start_le_last start [] in_order = omega arith
start_le_last start (end ∷ ends) in_order = omega (arith, in_order.0, start_le_last end ends in_order.1)

pub end_le_last : (start : ℕ) (ends : List ℕ) (k : ℕ) → k < length ends → AreEnds start ends → get_or ends k 0 ≤ last_end start ends
end_le_last start [] k inside in_order = absurd (omega (arith, inside))
end_le_last start (end ∷ ends) zero inside in_order = start_le_last end ends in_order.1
end_le_last start (end ∷ ends) (suc k) inside in_order = end_le_last end ends k (omega (arith, inside)) in_order.1

-- a part of the front of a buffer
front_part : (literals more : List Literal) (n start end : ℕ) → n ≤ length literals → start ≤ end → end ≤ n → slice_range (take n literals ++ more) start end ≡ take (end - start) (drop start (take n literals))
front_part literals more n start end inside up within =
    let long : length (take n literals) ≡ n = length-take-le n literals inside in
    ap (take (end - start)) (drop-append-le start (take n literals) more (omega arith))
    ∙ take-append-le (end - start) (drop start (take n literals)) more (omega (arith, length-drop start (take n literals)))

slice_alike : (literals more : List Literal) (n start end : ℕ) → n ≤ length literals → start ≤ end → end ≤ n → slice_range (take n literals ++ more) start end ≡ slice_range literals start end
slice_alike literals more n start end inside up within =
    front_part literals more n start end inside up within
    ∙ sym (front_part literals (drop n literals) n start end inside up within)
    ∙ ap (λ (xs : List Literal). slice_range xs start end) (take-append-drop n literals)

-- a buffer that begins with what another begins with
pub clauses_alike : (literals more : List Literal) (n start : ℕ) (ends : List ℕ) → n ≤ length literals → AreEnds start ends → last_end start ends ≤ n
    → clauses_in (take n literals ++ more) start ends ≡ clauses_in literals start ends
clauses_alike literals more n start [] inside in_order within = refl
clauses_alike literals more n start (end ∷ ends) inside in_order within =
    ap₂ (λ x xs. x ∷ xs) (slice_alike literals more n start end inside in_order.0 (omega (arith, start_le_last end ends in_order.1, within))) (clauses_alike literals more n end ends inside in_order.1 within)

-- one clause more
pub clauses_in-push : (literals : List Literal) (start : ℕ) (ends : List ℕ) (end : ℕ) → clauses_in literals start (ends ++ end ∷ []) ≡ clauses_in literals start ends ++ slice_range literals (last_end start ends) end ∷ []
clauses_in-push literals start [] end = refl
clauses_in-push literals start (e ∷ ends) end = ap (λ xs. slice_range literals start e ∷ xs) (clauses_in-push literals e ends end)

pub last_end-push : (start : ℕ) (ends : List ℕ) (end : ℕ) → last_end start (ends ++ end ∷ []) ≡ end
last_end-push start [] end = refl
last_end-push start (e ∷ ends) end = last_end-push e ends end

pub AreEnds-push : (start : ℕ) (ends : List ℕ) (end : ℕ) → AreEnds start ends → last_end start ends ≤ end → AreEnds start (ends ++ end ∷ [])
AreEnds-push start [] end in_order up = (up, tt)
AreEnds-push start (e ∷ ends) end in_order up = (in_order.0, AreEnds-push e ends end in_order.1 up)

pub last_end-is : (start : ℕ) (ends : List ℕ) → 0 < length ends → last_end start ends ≡ get_or ends (length ends - 1) 0
last_end-is start [] some = absurd (omega (arith, some))
last_end-is start (e ∷ []) some = refl
last_end-is start (e ∷ f ∷ ends) some = last_end-is e (f ∷ ends) (omega arith) ∙ ap (λ k. get_or (e ∷ f ∷ ends) k 0) (length_less ends)
  where
    length_less : (xs : List ℕ) → suc (length (f ∷ xs) - 1) ≡ length (e ∷ f ∷ xs) - 1
    length_less xs = omega arith

-- the last clause decides
pub ends_empty-last : (clauses : List Clause) (clause : Clause) → 0 < length clauses → slice_get clauses (length clauses - 1) ≡ Some clause → ends_empty clauses ≡ (length clause == 0)
ends_empty-last [] clause some at = absurd (omega (arith, some))
ends_empty-last ([] ∷ []) clause some at = ap (λ (o : Option Clause). unwrap_or (option_map (λ c. length c == 0) o) true) at
ends_empty-last ((x ∷ xs) ∷ []) clause some at =
    let other : length (x ∷ xs) ≢ 0 = omega arith in
    sym (ne_eqb (length (x ∷ xs)) 0 other) ∙ ap (λ (o : Option Clause). unwrap_or (option_map (λ c. length c == 0) o) false) at
ends_empty-last (c ∷ d ∷ clauses) clause some at = ends_empty-last (d ∷ clauses) clause (omega arith) (ap (λ k. slice_get (c ∷ d ∷ clauses) k) (less clauses) ∙ at)
  where
    less : (xs : List Clause) → suc (length (d ∷ xs) - 1) ≡ length (c ∷ d ∷ xs) - 1
    less xs = omega arith

-- what one clause more makes of the buffer
module _ (old buffer clause : List Literal) (ends new_ends : List ℕ) (end : ℕ) (arena : IsArena old ends) (last : end ≡ last_end 0 ends) (appended : buffer ≡ take end old ++ clause) (pushed : new_ends ≡ ends ++ length buffer ∷ []) where
  inside : end ≤ length old
  inside = subst (λ e. e ≤ length old) (sym last) arena.within

  long : length (take end old) ≡ end
  long = length-take-le end old inside

  grown : end ≤ length buffer
  grown = omega (arith, ap length appended, length-append (take end old) clause, long)

  pub IsArena-push : IsArena buffer new_ends
  IsArena-push = record {
    in_order = subst (AreEnds 0) (sym pushed) (AreEnds-push 0 ends (length buffer) arena.in_order (subst (λ e. e ≤ length buffer) last grown));
    within = omega (arith, ap (last_end 0) pushed, last_end-push 0 ends (length buffer));
  }

  last_part : slice_range buffer (last_end 0 ends) (length buffer) ≡ clause
  last_part =
      ap₂ (λ (xs : List Literal) s. take (length buffer - s) (drop s xs)) appended (sym last)
      ∙ ap (take (length buffer - end)) (drop_at (take end old) clause end long)
      ∙ take_all (length buffer - end) clause (omega (arith, ap length appended, length-append (take end old) clause, long))

  pub clauses_in-more : clauses_in buffer 0 new_ends ≡ clauses_in old 0 ends ++ clause ∷ []
  clauses_in-more =
      ap (clauses_in buffer 0) pushed ∙ clauses_in-push buffer 0 ends (length buffer)
      ∙ ap₂ (λ (cs : List Clause) c. cs ++ c ∷ [])
      (ap (λ xs. clauses_in xs 0 ends) appended ∙ clauses_alike old clause end 0 ends inside arena.in_order (omega (arith, last)))
      last_part
