-- Rows of monomials in one buffer: the powers of all of them, one after another, and beside them a mark for each.
use Rattle.std.specs.Prelude.{◌≡◌, ℕ, zero, suc, ◌+◌, ◌-◌, ◌≤◌, List, [], ◌∷◌, ◌++◌, length, get_or, take, drop}
use Rattle.ffc_ring.specs.Monomial.{Monomial, IsMonomial, degree}
use Rattle.ffc_mono.specs.Masks.{mask_of}
use Rattle.ffc_mono.specs.declared.row.Mark.{Mark}

-- the powers of all
abbrev pub flat : List Monomial → List (ℕ × ℕ)
flat [] = []
flat (m ∷ ms) = m ++ flat ms

-- their marks, where the first begins at this place: each has the place where its monomial ends, its total degree and
-- its divisor mask
abbrev pub marks_from : ℕ → List Monomial → List Mark
marks_from start [] = []
marks_from start (m ∷ ms) =
    record { end = start + length m; total_degree = degree m; mask = mask_of m } ∷ marks_from (start + length m) ms

-- the buffer cut at the marks
abbrev pub cut_at : ℕ → List Mark → List (ℕ × ℕ) → List Monomial
cut_at start [] ps = []
cut_at start (k ∷ ks) ps = take (k.end - start) ps ∷ cut_at k.end ks (drop (k.end - start) ps)

-- each is a monomial of total degree at most 1,024
abbrev pub AreMonomials : List Monomial → Type 0
AreMonomials [] = Unit {0}
AreMonomials (m ∷ ms) = IsMonomial m × (degree m ≤ 1024) × AreMonomials ms

-- the buffer and the marks are those of these monomials
pub record IsRow (ps : List (ℕ × ℕ)) (ks : List Mark) (ms : List Monomial) : Type 0 where
  pub powers : ps ≡ flat ms
  pub marks : ks ≡ marks_from 0 ms
  pub monomials : AreMonomials ms

-- where the powers of the monomial at a place begin
abbrev pub start_at : List Mark → ℕ → ℕ
start_at ks zero = 0
start_at ks (suc i) = (get_or ks i record { end = 0; total_degree = 0; mask = 0 }).end

-- the mark of a monomial that is moved from one place to another
abbrev pub moved : ℕ → ℕ → Mark → Mark
moved start place k = record { end = k.end - start + place; total_degree = k.total_degree; mask = k.mask }
