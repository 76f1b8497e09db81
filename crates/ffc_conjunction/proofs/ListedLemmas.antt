-- Which numbers are listed.
use Rattle.std.proofs.Common.{inl, inr, ◌≡◌, ℕ, ◌==◌, Bool, true, false, ◌||◌, List, [], ◌∷◌, ◌++◌, Contains, refl, sym, ap, ◌∙◌}
use Rattle.std.proofs.lemmas.Bool.{cases_Bool, or_left, eqb-true, false_from_ne_true}
use Rattle.std.proofs.lemmas.List.Folds.{list_any-append}
use Rattle.ffc_rules.specs.Cones.{is_listed}
use Rattle.ffc_rules.proofs.ConeLemmas.{Contains-from_listed}

or_swap : (a b c : Bool) → (a || (b || c)) ≡ (b || (a || c))
or_swap true true c = refl
or_swap true false c = refl
or_swap false b c = refl

-- an element in the midst of a list may come first
pub is_listed-moved : (xs ys : List ℕ) (x j : ℕ) → is_listed (x ∷ (xs ++ ys)) j ≡ is_listed ((xs ++ x ∷ []) ++ ys) j
is_listed-moved [] ys x j = refl
is_listed-moved (z ∷ xs) ys x j =
    or_swap (j == x) (j == z) (is_listed (xs ++ ys) j) ∙ ap (λ b. (j == z) || b) (is_listed-moved xs ys x j)

-- an element that is listed once more
pub is_listed-again : (xs : List ℕ) (x j : ℕ) → is_listed xs x ≡ true → is_listed xs j ≡ is_listed (x ∷ xs) j
is_listed-again xs x j has =
    elim (cases_Bool (j == x)) as (λ _. is_listed xs j ≡ ((j == x) || is_listed xs j)) [
      | inl same ↦ ap (is_listed xs) (eqb-true j x same) ∙ has ∙ sym (or_left (j == x) (is_listed xs j) same)
      | inr other ↦ sym (ap (λ b. b || is_listed xs j) other)
    ]

-- what is not among the first numbers is among all where it is among the others
pub is_listed-past : (xs ys : List ℕ) (j : ℕ) → is_listed xs j ≡ false → is_listed (xs ++ ys) j ≡ is_listed ys j
is_listed-past xs ys j none = list_any-append (λ k. j == k) xs ys ∙ ap (λ b. b || is_listed ys j) none

pub is_listed-none : (xs : List ℕ) (j : ℕ) → (Contains xs j → ⊥) → is_listed xs j ≡ false
is_listed-none xs j none = false_from_ne_true (is_listed xs j) (λ is. none (Contains-from_listed xs j is))
