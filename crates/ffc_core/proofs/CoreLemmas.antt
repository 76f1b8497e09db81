-- Numbers of cores.
use Rattle.std.proofs.Common.{◌≡◌, ◌⊎◌, inl, inr, ℕ, zero, suc, ◌+◌, ◌<◌, ◌==◌, ◌||◌, Bool, true, false, cond, List, ◌∷◌, get_or, All, refl, arith}
use Rattle.std.specs.List.{filter, range_with_len}
use Rattle.std.proofs.lemmas.Bool.{false≢true, eqb-true}
use Rattle.std.proofs.lemmas.List.{get_or_default}
use Rattle.std.proofs.lemmas.List.Elements.{All-contains}
use Rattle.ffc_cert.specs.declared.entries.Entry.{Entry}
use Rattle.ffc_cert.specs.declared.entries.Entry.TheVariants.{Sat, UnsatCases, UnsatSteps, Unknown}
use Rattle.ffc_rules.specs.Cones.{is_listed}
use Rattle.ffc_rules.specs.Cores.{numbers_reached, core}
use Rattle.ffc_rules.proofs.ConeLemmas.{listed-from_Contains, Contains-from_listed}
use Rattle.ffc_core.specs.Outside.{AreListed}

or_cases : (a b : Bool) → (a || b) ≡ true → (a ≡ true) ⊎ (b ≡ true)
or_cases true b e = inl refl
or_cases false b e = inr e

in_range : (a n k : ℕ) → is_listed (range_with_len a n) k ≡ true → k < a + n
in_range a zero k e = absurd (false≢true e)
in_range a (suc n) k e =
    elim (or_cases (k == a) (is_listed (range_with_len (a + 1) n) k) e) [
      | inl here ↦ omega (arith, eqb-true k a here)
      | inr later ↦ omega (arith, in_range (a + 1) n k later)
    ]

listed_if : (b : Bool) (a k : ℕ) (xs : List ℕ) → is_listed (cond b (a ∷ xs) xs) k ≡ true → (k ≡ a) ⊎ (is_listed xs k ≡ true)
listed_if true a k xs e = elim (or_cases (k == a) (is_listed xs k) e) [ inl here ↦ inl (eqb-true k a here) | inr later ↦ inr later ]
listed_if false a k xs e = inr e

kept_in_range : (p : ℕ → Bool) (a n k : ℕ) → is_listed (filter p (range_with_len a n)) k ≡ true → k < a + n
kept_in_range p a zero k e = absurd (false≢true e)
kept_in_range p a (suc n) k e =
    elim (listed_if (p a) a k (filter p (range_with_len (a + 1) n)) e) [
      | inl here ↦ omega (arith, here)
      | inr later ↦ omega (arith, kept_in_range p (a + 1) n k later)
    ]

-- a core has numbers of the active list alone
pub core_below : (entry : Entry) (n k : ℕ) → is_listed (core entry n) k ≡ true → k < n
unfolding core
core_below (Sat pairs) n k e = absurd (false≢true e)
core_below UnsatCases n k e = omega (arith, in_range 0 n k e)
core_below (UnsatSteps lines) n k e = omega (arith, kept_in_range (λ j. is_listed (numbers_reached lines) j) 0 n k e)
core_below (Unknown cause) n k e = absurd (false≢true e)

-- what holds of each listed number holds of some of them
pub All-listed : (P : ℕ → Type 0) (numbers listed : List ℕ) → AreListed numbers listed → All P listed → All P numbers
All-listed P numbers listed are all k d inside =
    let x = get_or numbers k d in
    All-contains P listed x all (Contains-from_listed listed x (are x (listed-from_Contains numbers x (k, inside, get_or_default numbers k x d inside))))
