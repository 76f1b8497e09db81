-- Terms in one buffer: the powers of all their monomials one after another, and for each term a mark with its coefficient
-- and the place where its powers end.
use Rattle.std.specs.Prelude.{◌≡◌, ℕ, ◌-◌, ◌^◌, ◌+◌, ◌<◌, ◌≤◌, List, [], ◌∷◌, ◌++◌, length, take, drop}
use Rattle.ffc_field.specs.Modular.{mul_mod}
use Rattle.ffc_ring.specs.Monomial.{Monomial, IsMonomial, degree, mono_mul}
use Rattle.ffc_ring.specs.Polynomial.{Terms}

-- the terms of these marks, where the first one's powers begin at this place of the whole buffer
abbrev pub cut : {F : Type 0} → (F → ℕ) → ℕ → List (F × ℕ) → List (ℕ × ℕ) → Terms
cut value start [] powers = []
cut value start (k ∷ marks) powers =
    (value k.0, take (k.1 - start) powers) ∷ cut value k.1 marks (drop (k.1 - start) powers)

-- the marks part the buffer
abbrev pub Parts : {F : Type 0} → ℕ → List (F × ℕ) → List (ℕ × ℕ) → Type 0
Parts start [] powers = length powers ≡ 0
Parts start (k ∷ marks) powers = (start ≤ k.1) × (k.1 - start ≤ length powers) × Parts k.1 marks (drop (k.1 - start) powers)

-- each term has a monomial, whose degree fits 64 bits
abbrev pub HaveMonomials : Terms → Type 0
HaveMonomials [] = Unit {0}
HaveMonomials (t ∷ ts) = IsMonomial t.1 × (degree t.1 < 2 ^ 64) × HaveMonomials ts

-- the terms of elements with monomials of another form
abbrev pub as_written : {F V : Type 0} → (F → ℕ) → List (F × V) → (V → Monomial) → Terms
as_written value [] powers = []
as_written value (t ∷ ts) powers = (value t.0, powers t.1) ∷ as_written value ts powers

-- c*m times each term, with residues as coefficients
abbrev pub times : ℕ → ℕ → Monomial → Terms → Terms
times p c m [] = []
times p c m (t ∷ ts) = (mul_mod p c t.0, mono_mul m t.1) ∷ times p c m ts

-- the products of each two terms
abbrev pub rows : ℕ → Terms → Terms → Terms
rows p [] b = []
rows p (t ∷ a) b = times p t.0 t.1 b ++ rows p a b

-- the products of a monomial and each term are monomials whose degrees fit 64 bits
abbrev pub RowFits : Monomial → Terms → Type 0
RowFits m [] = Unit {0}
RowFits m (t ∷ ts) = IsMonomial t.1 × (degree m + degree t.1 < 2 ^ 64) × RowFits m ts

abbrev pub ProductFits : Terms → Terms → Type 0
ProductFits [] b = Unit {0}
ProductFits (t ∷ a) b = IsMonomial t.1 × RowFits t.1 b × ProductFits a b
