-- Monomials by number, and polynomials as coefficients by number.
use Rattle.std.specs.Prelude.{◌≡◌, ◌≢◌, ℕ, ◌<◌, ◌≤◌, List, [], ◌∷◌, ◌++◌, All, Contains, length, take, drop, get_or}
use Rattle.std.specs.declared.cmp.Ordering.{Ordering}
use Rattle.std.specs.declared.cmp.Ordering.TheVariants.{Greater}
use Rattle.ffc_ring.specs.Monomial.{Monomial}
use Rattle.ffc_ring.specs.Polynomial.{Terms, SamePolynomial}

-- the monomial of the first number is above those of the others, and so on
abbrev pub IsDescending : (Monomial → Monomial → Ordering) → List Monomial → List ℕ → Type 0
IsDescending cmp ms [] = Unit {0}
IsDescending cmp ms (n ∷ ns) =
    All (λ k. cmp (get_or ms n []) (get_or ms k []) ≡ Greater) ns × IsDescending cmp ms ns

-- the numbers of all these monomials, from the greatest one to the least
pub record AreColumns (cmp : Monomial → Monomial → Ordering) (ms : List Monomial) (ns : List ℕ) : Type 0 where
  pub long : length ns ≡ length ms
  pub within : All (λ n. n < length ms) ns
  pub all : (n : ℕ) → n < length ms → Contains ns n
  pub descending : IsDescending cmp ms ns

-- it is none of them
abbrev pub IsNew : List Monomial → Monomial → Type 0
IsNew ms m = (n : ℕ) → n < length ms → get_or ms n [] ≢ m

-- the monomials before the place are above this one, and the others below it
pub record IsPlaceFor (cmp : Monomial → Monomial → Ordering) (ms : List Monomial) (ns : List ℕ) (m : Monomial) (place : ℕ) : Type 0 where
  pub inside : place ≤ length ns
  pub above : All (λ k. cmp (get_or ms k []) m ≡ Greater) (take place ns)
  pub below : All (λ k. cmp m (get_or ms k []) ≡ Greater) (drop place ns)

-- the monomials of these numbers, with the coefficients that are kept for the numbers
abbrev pub listed : List ℕ → List Monomial → List ℕ → Terms
listed ks ms [] = []
listed ks ms (n ∷ ns) = (get_or ks n 0, get_or ms n []) ∷ listed ks ms ns

-- coefficients with numbers, as terms
abbrev pub terms_of : {F : Type 0} → (F → ℕ) → List Monomial → List (ℕ × F) → Terms
terms_of value ms [] = []
terms_of value ms (t ∷ ts) = (value t.1, get_or ms t.0 []) ∷ terms_of value ms ts

-- each number is that of a monomial
abbrev pub AreNumbers : {F : Type 0} → ℕ → List (ℕ × F) → Type 0
AreNumbers count ts = All (λ t. t.0 < count) ts

-- the numbers differ
abbrev pub AreApart : List ℕ → Type 0
AreApart [] = Unit {0}
AreApart (n ∷ ns) = All (λ k. k ≢ n) ns × AreApart ns

-- more monomials have numbers, and the polynomial is the same
pub record Grows (p : ℕ) (old new : List Monomial × Terms) : Type 0 where
  pub more : (ms : List Monomial) × (new.0 ≡ old.0 ++ ms)
  pub same : SamePolynomial p new.1 old.1

-- the one list begins with the other
abbrev pub IsLonger : List Monomial → List Monomial → Type 0
IsLonger old new = (ms : List Monomial) × (new ≡ old ++ ms)
