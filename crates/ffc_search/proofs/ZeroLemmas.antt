-- Common zeros of generators.
use Rattle.std.proofs.Common.{◌≡◌, ℕ, zero, suc, ◌+◌, ◌*◌, ◌^◌, ◌%◌, ◌<◌, ◌==◌, ◌&&◌, ◌||◌, not, Bool, true, false, List, [], ◌∷◌, ◌++◌, All, length, take, ◌≤◌, refl, sym, ap, ap₂, ◌∙◌, inl, inr, ne_eqb, eq-eqb, arith, if◌then◌else◌}
use Rattle.std.specs.Prelude.{slice_set}
use Rattle.std.proofs.Math.ListN.{replicate}
use Rattle.std.proofs.lemmas.List.{take_all}
use Rattle.std.proofs.lemmas.Bool.{cond-true, cond-false, cases_eq}
use Rattle.std.specs.List.{list_all}
use Rattle.std.proofs.lemmas.List.Elements.{All-nil, All-cons}
use Rattle.ffc_ring.specs.Monomial.{Monomial, mono_value}
use Rattle.ffc_ring.specs.Polynomial.{Terms, value_sum, poly_value}
use Rattle.ffc_line.specs.declared.line.Line.{Line}
use Rattle.ffc_line.specs.Lines.{Parts}
use Rattle.ffc_stack.specs.Stacks.{own, generators}
use Rattle.ffc_poly.specs.Ordered.{point_of}
use Rattle.ffc_search.specs.Finding.{is_generator, is_zero_line}

-- the value of a polynomial depends on the coordinates alone
mono_alike : (a b : ℕ → ℕ) → ((x : ℕ) → a x ≡ b x) → (m : Monomial) → mono_value a m ≡ mono_value b m
mono_alike a b same [] = refl
mono_alike a b same (q ∷ m) = ap₂ (λ u v. u ^ q.1 * v) (same q.0) (mono_alike a b same m)

sum_alike : (a b : ℕ → ℕ) → ((x : ℕ) → a x ≡ b x) → (ts : Terms) → value_sum a ts ≡ value_sum b ts
sum_alike a b same [] = refl
sum_alike a b same (t ∷ ts) = ap₂ (λ u v. t.0 * u + v) (mono_alike a b same t.1) (sum_alike a b same ts)

pub value_alike : (p : ℕ) (a b : ℕ → ℕ) → ((x : ℕ) → a x ≡ b x) → (ts : Terms) → poly_value p a ts ≡ poly_value p b ts
value_alike p a b same ts = ap (λ n. n % p) (sum_alike a b same ts)

pub all_alike : (p : ℕ) (a b : ℕ → ℕ) → ((x : ℕ) → a x ≡ b x) → (gs : List Terms) → All (λ g. poly_value p a g ≡ 0) gs → All (λ g. poly_value p b g ≡ 0) gs
all_alike p a b same gs all = λ i d h. sym (value_alike p a b same _) ∙ all i d h

first_true : (a b : Bool) → a && b ≡ true → a ≡ true
first_true true b e = refl
first_true false b e = e

second_true : (a b : Bool) → a && b ≡ true → b ≡ true
second_true true b e = e
second_true false b e = cc

-- a line without parts that passes the test is 0
zero_own : (p : ℕ) (point : ℕ → ℕ) (parts : Parts) (ts : Terms) (rest : List Terms) → (not (is_generator parts) || (poly_value p point ts == 0)) ≡ true → All (λ g. poly_value p point g ≡ 0) rest → All (λ g. poly_value p point g ≡ 0) (own parts ts ++ rest)
zero_own p point [] ts rest test all = All-cons (λ g. poly_value p point g ≡ 0) ts rest (grind (arith, test)) all
zero_own p point (t ∷ parts) ts rest test all = all

-- generators that pass the test are 0
pub all_zero : {F O : Type 0} (p : ℕ) (point : ℕ → ℕ) (lines : List (Line F O)) → list_all (is_zero_line p point) lines ≡ true → All (λ g. poly_value p point g ≡ 0) (generators lines)
all_zero p point [] test = All-nil (λ g. poly_value p point g ≡ 0)
all_zero p point (l ∷ lines) test =
    zero_own p point l.parts.items l.poly (generators lines)
    (first_true (is_zero_line p point l) (list_all (is_zero_line p point) lines) test)
    (all_zero p point lines (second_true (is_zero_line p point l) (list_all (is_zero_line p point) lines) test))

-- Points as rows of coordinates

zeros : {F : Type 0} (value : F → ℕ) (none : F) → value none ≡ 0 → (n y : ℕ) → point_of value (replicate n none) y ≡ 0
zeros value none is zero y = refl
zeros value none is (suc n) zero = is
zeros value none is (suc n) (suc y) = zeros value none is n y

padded : {F : Type 0} (value : F → ℕ) (none : F) → value none ≡ 0 → (xs : List F) (n y : ℕ) → point_of value (xs ++ replicate n none) y ≡ point_of value xs y
padded value none is [] n y = zeros value none is n y
padded value none is (x ∷ xs) n zero = refl
padded value none is (x ∷ xs) n (suc y) = padded value none is xs n y

-- zeros at the end change no coordinate
pub point_filled : {F : Type 0} (value : F → ℕ) (none : F) → value none ≡ 0 → (xs : List F) (n room y : ℕ) → length xs ≤ n → point_of value (take n xs ++ replicate room none) y ≡ point_of value xs y
point_filled value none is xs n room y short =
    ap (λ l. point_of value (l ++ replicate room none) y) (take_all n xs short) ∙ padded value none is xs room y

-- a coordinate that is set
pub point_set : {F : Type 0} (value : F → ℕ) (xs : List F) (k : ℕ) (a : F) (y : ℕ) → k < length xs → point_of value (slice_set xs k a) y ≡ (if y == k then value a else point_of value xs y)
point_set value [] k a y h = absurd (omega arith)
point_set value (x ∷ xs) zero a zero h = refl
point_set value (x ∷ xs) zero a (suc y) h = sym (cond-false _ _ _ (ne_eqb (suc y) zero (omega arith)))
point_set value (x ∷ xs) (suc k) a zero h = sym (cond-false _ _ _ (ne_eqb zero (suc k) (omega arith)))
point_set value (x ∷ xs) (suc k) a (suc y) h = elim (cases_eq y k) [
  | inl here ↦ point_set value xs k a y (omega arith) ∙ (cond-true _ _ _ (eq-eqb y k here) ∙ sym (cond-true _ _ _ (eq-eqb (suc y) (suc k) (ap suc here))))
  | inr there ↦ point_set value xs k a y (omega arith) ∙ (cond-false _ _ _ (ne_eqb y k there) ∙ sym (cond-false _ _ _ (ne_eqb (suc y) (suc k) (omega arith))))
]
