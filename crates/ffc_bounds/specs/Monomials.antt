-- The monomials in given variables up to a degree, which are the columns of Macaulay's matrix ("Some formulae in elimination",
-- 1902; Lazard, "Gröbner bases, Gaussian elimination and resolution of systems of algebraic equations", 1983), and how many
-- columns and rows it has.
use Rattle.std.specs.Prelude.{ℕ, zero, suc, ◌+◌, ◌-◌, List, [], ◌∷◌, length, map, flat_map, sum_by}
use Rattle.std.specs.List.{range_with_len}
use Rattle.ffc_ring.specs.Monomial.{Monomial, degree, mono_mul}

-- x^e
abbrev pub power : ℕ → ℕ → Monomial
power x zero = []
power x (suc e) = (x, suc e) ∷ []

-- a monomial times the powers of a variable, as far as the degree is at most d
abbrev pub with_powers : ℕ → ℕ → Monomial → List Monomial
with_powers d x m = map (λ e. mono_mul (power x e) m) (range_with_len 0 (suc (d - degree m)))

-- the monomials in variables up to a degree: those without the first variable, times its powers
abbrev pub monomials : ℕ → List ℕ → List Monomial
monomials d [] = [] ∷ []
monomials d (x ∷ xs) = flat_map (with_powers d x) (monomials d xs)

-- how many columns the matrix of degree d has
abbrev pub columns : ℕ → List ℕ → ℕ
columns d xs = length (monomials d xs)

-- how many rows: for each generator, of a stated degree, the monomials that it is multiplied by
abbrev pub rows : ℕ → List ℕ → List ℕ → ℕ
rows d xs degrees = sum_by (λ e. columns (d - e) xs) degrees
