-- Monomials in some variables up to a degree: what is left of them where powers are taken off, and how long they are.
use Rattle.std.proofs.Common.{◌≡◌, ◌≢◌, inl, inr, ℕ, zero, suc, ◌+◌, ◌<◌, ◌≤◌, List, [], ◌∷◌, ◌++◌, length, Contains, refl, sym, ◌∙◌, subst, arith}
use Rattle.std.specs.List.{AllByRecursion}
use Rattle.std.specs.List.Sorted.{IsStrictlyIncreasing}
use Rattle.std.proofs.lemmas.Bool.{cases_eq}
use Rattle.ffc_ring.specs.Monomial.{Monomial, IsMonomial, IsMonomialFrom, exponent, degree}
use Rattle.ffc_ring.specs.Counting.{IsAmong, IsIn}
use Rattle.ffc_ring.proofs.MonomialLemmas.{exponent-here, exponent-there, exponent-below, from_lower}
use Rattle.ffc_bounds.specs.Monomials.{power, monomials}
use Rattle.ffc_macaulay.proofs.CountLemmas.{short_monomials}
use Rattle.ffc_macaulay.proofs.MemberLemmas.{contained_each, up_to_at, are_all}

-- a monomial in these variables of at most this degree
pub record IsWithin (d : ℕ) (xs : List ℕ) (m : Monomial) : Type 0 where
  pub monomial : IsMonomial m
  pub among : AllByRecursion (λ f. IsAmong xs f.0) m
  pub low : degree m ≤ d

each_among : (xs : List ℕ) (low : ℕ) (m : Monomial) → IsMonomialFrom low m → IsIn xs m → AllByRecursion (λ f. IsAmong xs f.0) m
each_among xs low [] is within = tt
each_among xs low (f ∷ m) is within =
    let first : exponent (f ∷ m) f.0 ≢ 0 = λ none. let here = exponent-here f m f.0 refl in omega (arith, here, none, is.1) in (
      within f.0 first,
      each_among xs (suc f.0) m is.2 (λ y some.
          let other : y ≢ f.0 = λ e. some (exponent-below (suc f.0) m y is.2 (omega (arith, e))) in
          within y (λ none. some (sym (exponent-there f m y other) ∙ none))),
    )

all_in : (xs : List ℕ) (m : Monomial) → AllByRecursion (λ f. IsAmong xs f.0) m → IsIn xs m
all_in xs [] all y some = absurd (some refl)
all_in xs (f ∷ m) all y some =
    elim (cases_eq y f.0) as (λ _. IsAmong xs y) [
      | inl same ↦ subst (IsAmong xs) (sym same) all.0
      | inr other ↦ all_in xs m all.1 y (λ none. some (exponent-there f m y other ∙ none))
    ]

pub listed_within : (d : ℕ) (xs : List ℕ) (m : Monomial) → Contains (monomials d xs) m → IsWithin d xs m
listed_within d xs m listed =
    let is = up_to_at d xs m listed in
    record { monomial = is.monomial; among = each_among xs 0 m is.monomial is.variables; low = is.low }

pub within_listed : (d : ℕ) (xs : List ℕ) (m : Monomial) → IsStrictlyIncreasing xs → IsWithin d xs m → Contains (monomials d xs) m
within_listed d xs m up is = are_all d xs up m (record { monomial = is.monomial; variables = all_in xs m is.among; low = is.low })

-- of a lower degree
pub within_lower : (d e : ℕ) (xs : List ℕ) (m : Monomial) → degree m ≤ e → IsWithin d xs m → IsWithin e xs m
within_lower d e xs m low is = record { monomial = is.monomial; among = is.among; low = low }

-- ---- taking powers off

pub within_tail : (d : ℕ) (xs : List ℕ) (f : ℕ × ℕ) (m : Monomial) → IsWithin d xs (f ∷ m) → IsWithin d xs m
within_tail d xs f m is = record {
  monomial = from_lower 0 (suc f.0) m is.monomial.2 (omega arith);
  among = is.among.1;
  low = (let low = is.low in omega arith);
}

pub within_less : (d : ℕ) (xs : List ℕ) (x e : ℕ) (m : Monomial) → IsWithin d xs (power x (suc e) ++ m) → IsWithin d xs (power x e ++ m)
within_less d xs x zero m is = within_tail d xs (x, 1) m is
within_less d xs x (suc e) m is = record { monomial = (omega arith, omega arith, is.monomial.2); among = is.among; low = (let low = is.low in omega arith) }

-- ---- lengths

each_positive : (low : ℕ) (m : Monomial) → IsMonomialFrom low m → length m ≤ degree m
each_positive low [] is = omega arith
each_positive low (f ∷ m) is = (let rest = each_positive (suc f.0) m is.2 in let one = is.1 in omega arith)

pub length_below_degree : (m : Monomial) → IsMonomial m → length m ≤ degree m
length_below_degree m is = each_positive 0 m is

pub within_short : (d : ℕ) (xs : List ℕ) (m : Monomial) → IsStrictlyIncreasing xs → IsWithin d xs m → length m ≤ length xs
within_short d xs m up is = contained_each (λ k. length k ≤ length xs) (monomials d xs) m (short_monomials d xs) (within_listed d xs m up is)

-- ---- with a monomial of later variables

pub after_all : (nodes low : ℕ) (m u : Monomial) → low ≤ nodes → IsMonomialFrom low m → AllByRecursion (λ f. f.0 < nodes) m → IsMonomialFrom nodes u → IsMonomialFrom low (m ++ u)
after_all nodes low [] u above is all later = from_lower low nodes u later above
after_all nodes low (f ∷ m) u above is all later = (is.0, is.1, after_all nodes (suc f.0) m u all.0 is.2 all.1 later)

pub degree-append : (m u : Monomial) → degree (m ++ u) ≡ degree m + degree u
degree-append [] u = omega arith
degree-append (f ∷ m) u = omega (arith, degree-append m u)
