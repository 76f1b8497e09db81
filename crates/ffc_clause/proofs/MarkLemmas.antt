-- Assumed literals by their marks.
use Rattle.std.proofs.Common.{◌≡◌, ℕ, ◌+◌, ◌*◌, ◌==◌, ◌||◌, ◌&&◌, not, Bool, true, false, List, [], ◌∷◌, reverse, refl, ap, ap₂, ◌∙◌, arith}
use Rattle.std.specs.List.{list_any}
use Rattle.std.proofs.lemmas.Bool.Decides.{nat_tests}
use Rattle.std.proofs.lemmas.List.{reverse-append}
use Rattle.std.proofs.lemmas.List.Folds.{list_any-append}
use Rattle.ffc_clause.specs.Clauses.{Literal, same_literal, is_among}
use Rattle.ffc_clause.specs.Marks.{place_of}

-- literals are one where they have one place
same_place : (a b : Bool) (m n : ℕ) → same_literal (a, m) (b, n) ≡ (place_of (b, n) == place_of (a, m))
same_place true true m n = same_odd m n
  where
    same_odd : (x y : ℕ) → (x == y) ≡ (2 * y + 1 == 2 * x + 1)
    same_odd x y = grind (arith, nat_tests)
same_place true false m n = other m n
  where
    other : (x y : ℕ) → false ≡ (2 * y + 0 == 2 * x + 1)
    other x y = grind (arith, nat_tests)
same_place false true m n = other m n
  where
    other : (x y : ℕ) → false ≡ (2 * y + 1 == 2 * x + 0)
    other x y = grind (arith, nat_tests)
same_place false false m n = same_even m n
  where
    same_even : (x y : ℕ) → (x == y) ≡ (2 * y + 0 == 2 * x + 0)
    same_even x y = grind (arith, nat_tests)

or_turned : (a b : Bool) → (a || b) ≡ (b || a)
or_turned true true = refl
or_turned true false = refl
or_turned false true = refl
or_turned false false = refl

or_false : (b : Bool) → (b || false) ≡ b
or_false true = refl
or_false false = refl

-- among literals in turned order
among_reverse : (xs : List Literal) (l : Literal) → is_among (reverse xs) l ≡ list_any (λ x. place_of x == place_of l) xs
among_reverse [] l = refl
among_reverse (x ∷ xs) l =
    ap (λ ys. is_among ys l) (reverse-append (x ∷ []) xs) ∙ list_any-append (same_literal l) (reverse xs) (x ∷ [])
    ∙ ap₂ (λ (a b : Bool). a || b) (among_reverse xs l) (or_false (same_literal l x) ∙ same_place l.0 x.0 l.1 x.1)
    ∙ or_turned (list_any (λ y. place_of y == place_of l) xs) (place_of x == place_of l)

never_both : (b : Bool) → (b && not b) ≡ false
never_both true = refl
never_both false = refl

-- after all marks were cleared
pub all_cleared : (xs : List Literal) (l : Literal) (old new : Bool) → old ≡ is_among (reverse xs) l → new ≡ (old && not (list_any (λ x. place_of x == place_of l) xs)) → new ≡ false
all_cleared xs l old new was cleared =
    cleared ∙ ap (λ b. b && not (list_any (λ x. place_of x == place_of l) xs)) (was ∙ among_reverse xs l) ∙ never_both (list_any (λ x. place_of x == place_of l) xs)
