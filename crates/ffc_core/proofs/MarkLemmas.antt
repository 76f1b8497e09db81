-- What is marked so far, against what is reached.
use Rattle.std.proofs.Common.{◌≡◌, ◌⊎◌, ℕ, zero, suc, ◌+◌, ◌-◌, ◌<◌, ◌≤◌, ◌==◌, ◌||◌, Bool, true, false, cond, List, [], ◌∷◌, ◌++◌, length, get_or, drop, refl, sym, ap, ap₂, ◌∙◌, arith, add-one, drop-cons, inl, inr}
use Rattle.std.specs.List.{filter, range_with_len}
use Rattle.std.proofs.lemmas.Bool.{cond-true, cond-false}
use Rattle.std.proofs.lemmas.List.Folds.{list_any-append}
use Rattle.std.proofs.lemmas.List.Elements.{filter-append}
use Rattle.ffc_cert.specs.declared.entries.CertLine.{CertLine}
use Rattle.ffc_cert.specs.Spelling.{is_clause}
use Rattle.ffc_rules.specs.Cones.{is_listed}
use Rattle.ffc_rules.specs.Cores.{clause_lines, hints_of, reached_clauses}

-- what is left from a place on begins with the element there
pub left_at : {A : Type 0} (xs : List A) (i : ℕ) (x : A) → i < length xs → x ≡ get_or xs i x → drop i xs ≡ x ∷ drop (i + 1) xs
left_at xs i x h e = drop-cons xs i x h ∙ ap₂ ◌∷◌ (sym e) (ap (λ k. drop k xs) (sym (add-one i)))

cases_bool : (b : Bool) → (b ≡ true) ⊎ (b ≡ false)
cases_bool true = inl refl
cases_bool false = inr refl

or_turned : (a b : Bool) → (a || b) ≡ (b || a)
or_turned true true = refl
or_turned true false = refl
or_turned false true = refl
or_turned false false = refl

-- clauses of a list of lines

pub clause_first : (x : CertLine) (rest : List CertLine) → is_clause x ≡ true → clause_lines (x ∷ rest) ≡ x ∷ clause_lines rest
clause_first x rest e = cond-true _ _ _ e

pub clause_passed : (x : CertLine) (rest : List CertLine) → is_clause x ≡ false → clause_lines (x ∷ rest) ≡ clause_lines rest
clause_passed x rest e = cond-false _ _ _ e

-- one clause more is looked at, from the last to the first

listed_if : (b : Bool) (xs ys : List ℕ) (h : ℕ) → is_listed (cond b (xs ++ ys) ys) h ≡ cond b (is_listed xs h || is_listed ys h) (is_listed ys h)
listed_if true xs ys h = list_any-append (λ k. h == k) xs ys
listed_if false xs ys h = refl

pub reached_step : (k : ℕ) (x : CertLine) (rest : List CertLine) (h : ℕ) → is_listed (reached_clauses k (x ∷ rest)) h
    ≡ cond (is_listed (reached_clauses (k + 1) rest) k) (is_listed (hints_of x) h || is_listed (reached_clauses (k + 1) rest) h) (is_listed (reached_clauses (k + 1) rest) h)
unfolding reached_clauses
reached_step k x rest h = listed_if (is_listed (reached_clauses (k + 1) rest) k) (hints_of x) (reached_clauses (k + 1) rest) h

pub reached_last : (k h : ℕ) → is_listed (reached_clauses k []) h ≡ ((h == k - 1) || false)
unfolding reached_clauses
reached_last k h = refl

-- one clause more is looked at, from the first to the last

-- tests that agree below a number keep the same numbers

pub same_kept : (p q : ℕ → Bool) (a n : ℕ) → ((k : ℕ) → a ≤ k → k < a + n → p k ≡ q k) → filter p (range_with_len a n) ≡ filter q (range_with_len a n)
same_kept p q a zero h = refl
same_kept p q a (suc n) h =
    ap₂ (λ (b : Bool) (xs : List ℕ). cond b (a ∷ xs) xs) (h a (omega arith) (omega arith)) (same_kept p q (a + 1) n (λ k low high. h k (omega arith) (omega arith)))

pub range_next : (n : ℕ) → range_with_len 0 (n + 1) ≡ range_with_len 0 n ++ n ∷ []
range_next n = ap (range_with_len 0) (add-one n) ∙ range_last 0 n ∙ ap (λ k. range_with_len 0 n ++ k ∷ []) (omega arith)
  where
    range_last : (a n : ℕ) → range_with_len a (suc n) ≡ range_with_len a n ++ (a + n) ∷ []
    range_last a zero = ap (λ k. k ∷ []) (omega arith)
    range_last a (suc n) =
        ap (λ xs. a ∷ xs) (range_last (a + 1) n) ∙ ap (λ k. (a ∷ range_with_len (a + 1) n) ++ k ∷ []) (omega arith)

pub kept_next : (p : ℕ → Bool) (n : ℕ) → filter p (range_with_len 0 (n + 1)) ≡ filter p (range_with_len 0 n) ++ cond (p n) (n ∷ []) []
kept_next p n = ap (filter p) (range_next n) ∙ filter-append p (range_with_len 0 n) (n ∷ [])

pub left_before : {A : Type 0} (xs : List A) (i : ℕ) (x : A) → 0 < i → i ≤ length xs → x ≡ get_or xs (i - 1) x → drop (i - 1) xs ≡ x ∷ drop i xs
left_before xs i x some inside e = left_at xs (i - 1) x (omega arith) e ∙ ap (λ k. x ∷ drop k xs) (omega arith)

pub fewer_left : (j : ℕ) (xs : List CertLine) → length (clause_lines (drop j xs)) ≤ length (clause_lines xs)
fewer_left zero xs = omega arith
fewer_left (suc j) [] = omega arith
fewer_left (suc j) (x ∷ xs) =
    elim (cases_bool (is_clause x)) [
      | inl e ↦ omega (arith, fewer_left j xs, ap length (clause_first x xs e))
      | inr e ↦ omega (arith, fewer_left j xs, ap length (clause_passed x xs e))
    ]

pub reached_more : (k : ℕ) (x : CertLine) (rest whole : List CertLine) (h : ℕ) (own old new : Bool) → 1 ≤ k → whole ≡ x ∷ rest
    → own ≡ is_listed (reached_clauses k rest) (k - 1) → old ≡ is_listed (reached_clauses k rest) h
    → new ≡ cond own (is_listed (hints_of x) h || old) old → new ≡ is_listed (reached_clauses (k - 1) whole) h
reached_more k x rest whole h own old new some e f g n =
    let same : k - 1 + 1 ≡ k = omega arith in
    n ∙ ap₂ (λ o d. cond o (is_listed (hints_of x) h || d) d) f g
    ∙ sym (ap (λ w. is_listed (reached_clauses (k - 1) w) h) e ∙ reached_step (k - 1) x rest h
    ∙ ap (λ j. cond (is_listed (reached_clauses j rest) (k - 1)) (is_listed (hints_of x) h || is_listed (reached_clauses j rest) h) (is_listed (reached_clauses j rest) h)) same)

or_false : (b : Bool) → (b || false) ≡ b
or_false true = refl
or_false false = refl

-- the last mark is the one from which clauses are reached
pub first_reached : (marks held : List Bool) (count h : ℕ) → marks ≡ held → length held ≡ count → get_or held h false ≡ (h == count - 1)
    → get_or marks h false ≡ is_listed (reached_clauses (length marks) []) h
first_reached marks held count h same long last =
    ap (λ m. get_or m h false) same ∙ last ∙ sym (or_false (h == count - 1)) ∙ sym (reached_last count h)
    ∙ ap (λ n. is_listed (reached_clauses n []) h) (sym (ap length same ∙ long))
