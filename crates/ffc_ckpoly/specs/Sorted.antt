-- Terms in strictly decreasing order of their monomials, by the order of their lists of powers.
use Rattle.std.specs.Prelude.{◌≡◌, ℕ, zero, suc, ◌<◌, ◌^◌, List, [], ◌∷◌, ◌==◌, if◌then◌else◌}
use Rattle.std.specs.Borrow.{Bor}
use Rattle.std.specs.declared.cmp.Ordering.{Ordering}
use Rattle.std.specs.declared.cmp.Ordering.TheVariants.{Greater}
use Rattle.std.specs.Ordering.{nat_cmp, ordering_then}
use Rattle.std.specs.Cmp.Lexicographic.{slice_cmp}
use Rattle.ffc_field.specs.Modular.{mul_mod}
use Rattle.ffc_ring.specs.Monomial.{Monomial, IsMonomial, degree}
use Rattle.ffc_ring.specs.Polynomial.{Terms}

-- terms with borrowed monomials, with the residues of their coefficients
abbrev pub residues : {F : Type 0} → (F → ℕ) → List (F × Bor Monomial) → Terms
residues value [] = []
residues value (t ∷ ts) = (value t.0, t.1.now) ∷ residues value ts

-- powers by their variable, then by their exponent
abbrev pub power_order : (ℕ × ℕ) → (ℕ × ℕ) → Ordering
power_order p q = ordering_then (nat_cmp p.0 q.0) (nat_cmp p.1 q.1)

-- monomials as words of powers
abbrev pub word_order : Monomial → Monomial → Ordering
word_order m n = slice_cmp power_order m n

-- the monomial is above those of all the terms
abbrev pub IsAbove : (Monomial → Monomial → Ordering) → Monomial → Terms → Type 0
IsAbove cmp m [] = Unit {0}
IsAbove cmp m (t ∷ ts) = (cmp m t.1 ≡ Greater) × IsAbove cmp m ts

-- Terms in strictly decreasing order, with residues other than 0 as coefficients, and degrees that fit 64 bits.
abbrev pub IsSortedBy : ℕ → (Monomial → Monomial → Ordering) → Terms → Type 0
IsSortedBy p cmp [] = Unit {0}
IsSortedBy p cmp (t ∷ ts) =
    (0 < t.0) × (t.0 < p) × IsMonomial t.1 × (degree t.1 < 2 ^ 64) × IsAbove cmp t.1 ts × IsSortedBy p cmp ts

abbrev pub IsSorted : ℕ → Terms → Type 0
IsSorted p ts = IsSortedBy p word_order ts

-- c times each term, with residues as coefficients
abbrev pub multiplied : ℕ → ℕ → Terms → Terms
multiplied p c [] = []
multiplied p c (t ∷ ts) = (mul_mod p c t.0, t.1) ∷ multiplied p c ts

-- a term in front, unless its coefficient is 0
abbrev pub kept : ℕ → Monomial → Terms → Terms
kept k m ts = if k == 0 then ts else (k, m) ∷ ts

-- the point that a list of elements gives: a variable past its end is 0
abbrev pub point_of : {F : Type 0} → (F → ℕ) → List F → ℕ → ℕ
point_of value [] x = 0
point_of value (y ∷ ys) zero = value y
point_of value (y ∷ ys) (suc x) = point_of value ys x
