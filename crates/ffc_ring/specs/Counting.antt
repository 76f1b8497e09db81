-- How many monomials there are in given variables up to a degree (Cox, Little and O'Shea, chapter 5, section 3).
use Rattle.std.specs.Prelude.{◌≡◌, ◌≢◌, ℕ, ◌+◌, ◌≤◌, ◌⊎◌, List, [], ◌∷◌, length}
use Rattle.ffc_field.specs.Binomial.{choose}
use Rattle.ffc_ring.specs.Monomial.{Monomial, IsMonomial, exponent, degree}
use Rattle.ffc_ring.specs.Polynomial.{IsNoneOf}

-- the variable is one of these
abbrev pub IsAmong : List ℕ → ℕ → Type 0
IsAmong [] x = ⊥
IsAmong (v ∷ vs) x = (x ≡ v) ⊎ IsAmong vs x

-- only these variables occur
abbrev pub IsIn : List ℕ → Monomial → Type 0
IsIn vs m = (x : ℕ) → exponent m x ≢ 0 → IsAmong vs x

-- each is a monomial in these variables of at most this total degree
abbrev pub AreUpTo : List ℕ → ℕ → List Monomial → Type 0
AreUpTo vs d [] = Unit {0}
AreUpTo vs d (m ∷ ms) = IsMonomial m × IsIn vs m × (degree m ≤ d) × AreUpTo vs d ms

-- no monomial is listed twice
abbrev pub AreDifferent : List Monomial → Type 0
AreDifferent [] = Unit {0}
AreDifferent (m ∷ ms) = IsNoneOf ms m × AreDifferent ms

-- in v variables up to degree d there are at most (v + d) choose d different monomials
abbrev pub CountOfMonomials : Type 0
CountOfMonomials =
    (vs : List ℕ) (d : ℕ) (ms : List Monomial) → AreDifferent ms → AreUpTo vs d ms → length ms ≤ choose (length vs + d) d

-- no variable is listed twice
abbrev pub AreApart : List ℕ → Type 0
AreApart [] = Unit {0}
AreApart (v ∷ vs) = (IsAmong vs v → ⊥) × AreApart vs

-- and there are as many
abbrev pub CountIsReached : Type 0
CountIsReached =
    (vs : List ℕ) (d : ℕ) → AreApart vs → (ms : List Monomial) × AreDifferent ms × AreUpTo vs d ms × (length ms ≡ choose (length vs + d) d)
