-- Monomials, apart from any order: products of powers of variables (Cox, Little and O'Shea, "Ideals,
-- Varieties, and Algorithms", chapter 1, section 1).
--
-- A monomial is a finite map from variables to exponents of at least 1. It is written as the list of its
-- pairs of variable and exponent with strictly increasing variables, so equal maps are equal lists, and the
-- empty list is 1.
use Rattle.std.specs.Prelude.{◌≡◌, ◌≢◌, ℕ, suc, ◌+◌, ◌-◌, ◌*◌, ◌^◌, ◌≤◌, max, List, [], ◌∷◌, Bool, true, false, ◌&&◌, ◌==◌, nat_lt, if◌then◌else◌}

abbrev pub Monomial : Type 0
Monomial = List (ℕ × ℕ)

-- the variables increase strictly from `low` on, and each exponent is at least 1
abbrev pub IsMonomialFrom : ℕ → Monomial → Type 0
IsMonomialFrom low [] = Unit {0}
IsMonomialFrom low (p ∷ m) = (low ≤ p.0) × (1 ≤ p.1) × IsMonomialFrom (suc p.0) m

abbrev pub IsMonomial : Monomial → Type 0
IsMonomial m = IsMonomialFrom 0 m

-- the exponent of a variable, which is 0 where the variable does not occur
abbrev pub exponent : Monomial → ℕ → ℕ
exponent [] x = 0
exponent (p ∷ m) x = if x == p.0 then p.1 else exponent m x

-- the total degree: the sum of the exponents
abbrev pub degree : Monomial → ℕ
degree [] = 0
degree (p ∷ m) = p.1 + degree m

-- a monomial with the power x^e merged in: where x occurs already, f makes its exponent of the two
abbrev pub with_power : (ℕ → ℕ → ℕ) → ℕ → ℕ → Monomial → Monomial
with_power f x e [] = (x, e) ∷ []
with_power f x e (p ∷ m) =
    if nat_lt x p.0
    then (x, e) ∷ p ∷ m
    else (if x == p.0 then (x, f e p.1) ∷ m else p ∷ with_power f x e m)

-- two monomials merged, one power after another
abbrev pub joined : (ℕ → ℕ → ℕ) → Monomial → Monomial → Monomial
joined f [] n = n
joined f (p ∷ m) n = with_power f p.0 p.1 (joined f m n)

-- the product adds the exponents
abbrev pub mono_mul : Monomial → Monomial → Monomial
mono_mul m n = joined ◌+◌ m n

-- the least common multiple has of each two exponents the greater
abbrev pub mono_lcm : Monomial → Monomial → Monomial
mono_lcm m n = joined max m n

-- the first divides the second: no exponent is greater
abbrev pub Divides : Monomial → Monomial → Type 0
Divides m n = (x : ℕ) → exponent m x ≤ exponent n x

-- no variable occurs in both
abbrev pub AreCoprime : Monomial → Monomial → Type 0
AreCoprime m n = (x : ℕ) → exponent m x ≢ 0 → exponent n x ≡ 0

-- the quotient subtracts the exponents of the divisor, and drops a variable whose exponent becomes 0
abbrev pub mono_quotient : Monomial → Monomial → Monomial
mono_quotient [] n = []
mono_quotient (p ∷ m) n =
    if nat_lt (exponent n p.0) p.1 then (p.0, p.1 - exponent n p.0) ∷ mono_quotient m n else mono_quotient m n

-- the value at a point, which gives each variable a number: the product of the powers' values
abbrev pub mono_value : (ℕ → ℕ) → Monomial → ℕ
mono_value point [] = 1
mono_value point (p ∷ m) = point p.0 ^ p.1 * mono_value point m

-- the test for equality
abbrev pub same_monomial : Monomial → Monomial → Bool
same_monomial [] [] = true
same_monomial [] (q ∷ n) = false
same_monomial (p ∷ m) [] = false
same_monomial (p ∷ m) (q ∷ n) = (p.0 == q.0) && (p.1 == q.1) && same_monomial m n
