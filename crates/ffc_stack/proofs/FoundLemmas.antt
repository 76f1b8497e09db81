-- The marked generators are those that a line leads to.
use Rattle.std.proofs.Common.{◌≡◌, ◌&&◌, ◌==◌, ℕ, zero, suc, ◌+◌, ◌<◌, Bool, true, false, cond, List, [], ◌∷◌, ◌++◌, length, get_or, refl, sym, ap, ap₂, ◌∙◌, subst, inl, inr, arith, add-one, ne_eqb}
use Rattle.std.specs.List.{Contains, filter, range_with_len}
use Rattle.std.specs.List.Sorted.{IsStrictlyIncreasing}
use Rattle.std.proofs.lemmas.Bool.{cases_eq, false≢true}
use Rattle.std.proofs.lemmas.List.Elements.{All-contains, Contains-append_left, Contains-push, filter-append, filter_passes}
use Rattle.std.proofs.lemmas.List.FromFn.{length-range_with_len, get_or-range_with_len}
use Rattle.std.proofs.lemmas.List.Kept.{IsStrictlyIncreasing-filter}
use Rattle.ffc_line.specs.declared.line.Line.{Line}
use Rattle.ffc_line.specs.Lines.{Parts}
use Rattle.ffc_stack.specs.Generators.{parts_at, AreGeneratorsOf}
use Rattle.ffc_stack.specs.Marks.{IsReachedTo, are_none, is_marked_generator}
use Rattle.ffc_stack.proofs.MarkLemmas.{marked_within, reached_all}

range_last : (a n : ℕ) → range_with_len a (suc n) ≡ range_with_len a n ++ (a + n) ∷ []
range_last a zero = ap (λ k. k ∷ []) (omega arith)
range_last a (suc n) = ap (λ xs. a ∷ xs) (range_last (a + 1) n) ∙ ap (λ k. (a ∷ range_with_len (a + 1) n) ++ k ∷ []) (omega arith)

kept_last : (p : ℕ → Bool) (n : ℕ) → filter p (range_with_len 0 (suc n)) ≡ filter p (range_with_len 0 n) ++ cond (p n) (n ∷ []) []
kept_last p n =
    ap (filter p) (range_last 0 n ∙ ap (λ k. range_with_len 0 n ++ k ∷ []) (omega arith)) ∙ filter-append p (range_with_len 0 n) (n ∷ [])

pub kept_next : (p : ℕ → Bool) (n : ℕ) → filter p (range_with_len 0 (n + 1)) ≡ filter p (range_with_len 0 n) ++ cond (p n) (n ∷ []) []
kept_next p n = ap (λ k. filter p (range_with_len 0 k)) (add-one n) ∙ kept_last p n

-- what passes the test is kept

kept_all : (p : ℕ → Bool) (n k : ℕ) → k < n → p k ≡ true → Contains (filter p (range_with_len 0 n)) k
kept_all p zero k h e = absurd (omega arith)
kept_all p (suc n) k h e =
    subst (λ xs. Contains xs k) (sym (kept_last p n)) (
    elim (cases_eq k n) [
      | inl here ↦
          subst (λ xs. Contains (filter p (range_with_len 0 n) ++ xs) k) (sym (ap (λ b. cond b (n ∷ []) []) (ap p (sym here) ∙ e)))
          (subst (Contains (filter p (range_with_len 0 n) ++ n ∷ [])) (sym here) (Contains-push (filter p (range_with_len 0 n)) n))
      | inr other ↦ Contains-append_left (filter p (range_with_len 0 n)) (cond (p n) (n ∷ []) []) k (kept_all p n k (omega arith) e)
    ]
    )

range_increases : (n : ℕ) → IsStrictlyIncreasing (range_with_len 0 n)
range_increases n = λ k h.
    let long : length (range_with_len 0 n) ≡ n = length-range_with_len 0 n in
    let low : get_or (range_with_len 0 n) k 0 ≡ 0 + k = get_or-range_with_len 0 n k 0 (omega (arith, h, long)) in
    let high : get_or (range_with_len 0 n) (k + 1) 0 ≡ 0 + (k + 1) = get_or-range_with_len 0 n (k + 1) 0 (omega (arith, h, long)) in
    omega (arith, low, high)

both : (a b : Bool) → (a && b) ≡ true → (a ≡ true) × (b ≡ true)
both true b e = (refl, e)
both false b e = absurd (false≢true e)

pub no_parts : (ps : Parts) → are_none ps ≡ true → ps ≡ []
no_parts [] e = refl
no_parts (t ∷ ps) e = absurd (false≢true e)

pub none_by_length : (ps : Parts) → are_none ps ≡ (length ps == 0)
none_by_length [] = refl
none_by_length (t ∷ ps) = sym (ne_eqb (length (t ∷ ps)) 0 (λ e. absurd (omega (arith, e))))

pub found_generators : {F O : Type 0} (ls : List (Line F O)) (i : ℕ) (marks : List Bool) → IsReachedTo ls i 0 marks → AreGeneratorsOf ls i (filter (is_marked_generator ls marks) (range_with_len 0 (length ls)))
found_generators ls i marks reached =
    let p = is_marked_generator ls marks in
    let test : (n : ℕ) → Contains (filter p (range_with_len 0 (length ls))) n → p n ≡ true = λ n v.
    All-contains (λ k. p k ≡ true) (filter p (range_with_len 0 (length ls))) n (filter_passes p (range_with_len 0 (length ls))) v in
    record {
      increasing = IsStrictlyIncreasing-filter p (range_with_len 0 (length ls)) (range_increases (length ls));
      each = λ n v.
          let parts = both (get_or marks n false) (are_none (parts_at ls n)) (test n v) in
          ((omega (arith, reached.len, marked_within marks n parts.0), no_parts (parts_at ls n) parts.1), reached.leads n parts.0);
      all = λ n is leads.
          kept_all p (length ls) n is.0 (ap₂ (λ (a b : Bool). a && b) (reached_all ls i marks reached n is.0 leads) (ap are_none is.1));
    }
