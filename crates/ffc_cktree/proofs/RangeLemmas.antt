-- What the ranges of a line's numbers say of its polynomials.
use Rattle.std.proofs.Common.{◌≡◌, ℕ, zero, suc, ◌+◌, ◌≤◌, nat_lt, true, List, [], ◌∷◌, get_or, All, refl, arith}
use Rattle.std.specs.List.{AllByRecursion, range_with_len}
use Rattle.std.proofs.lemmas.Bool.{lt-ltb, and_from}
use Rattle.ffc_cert.specs.Ranges.{IsPower, VariablesIncrease, IsTerm, IsMultiple, IsCounted}
use Rattle.ffc_ring.specs.Monomial.{Monomial, IsMonomialFrom}
use Rattle.ffc_ring.specs.Polynomial.{Terms, AreTerms}
use Rattle.ffc_trees.specs.TreeLines.{are_below, Multiple}

pub all_at : {A : Type 0} (P : A → Type 0) (xs : List A) → AllByRecursion P xs → All P xs
all_at P [] are i d h = absurd (omega arith)
all_at P (x ∷ xs) are zero d h = are.0
all_at P (x ∷ xs) are (suc i) d h = all_at P xs are.1 i d (omega arith)

monomial_from : (low : ℕ) (m : Monomial) → AllByRecursion (λ q. low ≤ q.0) m → AllByRecursion IsPower m → VariablesIncrease m → IsMonomialFrom low m
monomial_from low [] above powers increase = tt
monomial_from low (q ∷ m) above powers increase = (above.0, powers.0.positive, monomial_from (suc q.0) m increase.0 powers.1 increase.1)

from_zero : (m : Monomial) → AllByRecursion (λ q. 0 ≤ q.0) m
from_zero [] = tt
from_zero (q ∷ m) = (omega arith, from_zero m)

pub terms_from : (ts : Terms) → AllByRecursion IsTerm ts → AreTerms ts
terms_from [] are = tt
terms_from (t ∷ ts) are = (monomial_from 0 t.1 (from_zero t.1) are.0.monomial.counted.each are.0.monomial.increasing, terms_from ts are.1)

pub multiples_from : (ms : List Multiple) → IsCounted IsMultiple ms → All (λ m. AreTerms m.1) ms
multiples_from ms are = λ i d h. terms_from (get_or ms i d).1 (all_at IsMultiple ms are.each i d h).polynomial.each

-- all numbers of a range are below its end
range_below : (p a n : ℕ) → a + n ≤ p → are_below p (range_with_len a n) ≡ true
range_below p a zero h = refl
range_below p a (suc n) h =
    and_from (nat_lt a p) (are_below p (range_with_len (a + 1) n)) (lt-ltb a p (omega arith)) (range_below p (a + 1) n (omega arith))

pub values_below : (p : ℕ) → are_below p (range_with_len 0 p) ≡ true
values_below p = range_below p 0 p (omega arith)
