-- What is left of a polynomial between two steps of a reduction, and how many steps were taken.
use Rattle.std.specs.Prelude.{◌≡◌, ◌≢◌, ℕ, ◌+◌, ◌≤◌, ◌⊎◌, List, [], ◌∷◌, ◌++◌, length}
use Rattle.std.specs.declared.cmp.Ordering.{Ordering}
use Rattle.std.specs.declared.cmp.Ordering.TheVariants.{Greater}
use Rattle.ffc_base.specs.Metering.{Spending}
use Rattle.ffc_ring.specs.Monomial.{Monomial}
use Rattle.ffc_ring.specs.Polynomial.{Terms, coefficient, SamePolynomial}
use Rattle.ffc_ring.specs.Counting.{AreDifferent, AreUpTo as AreMonomialsUpTo}
use Rattle.ffc_mono.specs.Leading.{IsLeading}
use Rattle.ffc_mono.specs.Graded.{IsGradedIn}
use Rattle.ffc_poly.specs.Ordered.{residues}
use Rattle.ffc_basis.specs.declared.remainder.Remainder.{Remainder}
use Rattle.ffc_line.specs.Lines.{Parts, combination, AreBefore, IsPolynomial}
use Rattle.ffc_basis.specs.Records.{AreOfDifferentLines}
use Rattle.ffc_basis.specs.Reduction.{IsIrreducible, IsAtMostLead, ArePartsAtMost, IsStep}
use Rattle.ffc_basis.specs.Units.{TakesReductions, AreInVariables, IsUpTo, IsReductionBound}

-- what is left of a polynomial, as terms in any order, and what was subtracted
pub record IsRemainder (p : ℕ) (cmp : Monomial → Monomial → Ordering) (gs : List Terms) (poly rest : Terms) (parts : Parts) : Type 0 where
  pub whole : SamePolynomial p poly (rest ++ combination gs parts)
  pub before : AreBefore (length gs) parts
  pub at_most : ArePartsAtMost p cmp gs poly parts
  pub lower : (m : Monomial) → coefficient p rest m ≢ 0 → IsAtMostLead p cmp poly m

-- what is left of a polynomial, with its terms in order, and the record of what was subtracted
pub record IsRecordedReduction (p : ℕ) (cmp : Monomial → Monomial → Ordering) (gs : List Terms) (poly rest : Terms) (parts : Parts) : Type 0 where
  pub remainder : IsRemainder p cmp gs poly rest parts
  pub left : IsPolynomial p cmp rest
  pub lines : AreOfDifferentLines parts

-- each of these monomials is above that one
abbrev pub AreAbove : (Monomial → Monomial → Ordering) → List Monomial → Monomial → Type 0
AreAbove cmp [] x = Unit {0}
AreAbove cmp (m ∷ ms) x = (cmp m x ≡ Greater) × AreAbove cmp ms x

-- The monomials that a reduction has cancelled, the last one first: they differ, each monomial that is left is irreducible or
-- below them, and they have no other variable and no higher degree than the polynomial, where the order is graded.
pub record AreCancelled (p : ℕ) (cmp : Monomial → Monomial → Ordering) (gs : List Terms) (poly rest : Terms) (ms : List Monomial) : Type 0 where
  pub different : AreDifferent ms
  pub below : (x : Monomial) → coefficient p rest x ≢ 0 → IsIrreducible p cmp gs x ⊎ AreAbove cmp ms x
  pub within : (vs : List ℕ) (d : ℕ) → IsGradedIn vs cmp → AreInVariables p vs gs → IsUpTo p vs d poly → AreMonomialsUpTo vs d ms × IsUpTo p vs d rest

-- so many units were taken of it
abbrev pub IsCounted : ℕ → (Monomial → Monomial → Ordering) → List Terms → Terms → Terms → Spending → Spending → Type 0
IsCounted p cmp gs poly rest old new =
    (ms : List Monomial) × AreCancelled p cmp gs poly rest ms × (new.reductions ≡ old.reductions + length ms)

-- a reduction between two steps
pub record IsUnderway (p : ℕ) (cmp : Monomial → Monomial → Ordering) (gs : List Terms) (poly rest : Terms) (parts : Parts) (old new : Spending) : Type 0 where
  pub remainder : IsRemainder p cmp gs poly rest parts
  pub lines : AreOfDifferentLines parts
  pub counted : IsCounted p cmp gs poly rest old new

-- a reduction that has come to the one remainder has come to the other
abbrev pub Continues : ℕ → (Monomial → Monomial → Ordering) → List Terms → Terms → Parts → Spending → Terms → Parts → Spending → Type 0
Continues p cmp gs rest parts s next others t =
    (poly : Terms) (old : Spending) → IsUnderway p cmp gs poly rest parts old s → IsUnderway p cmp gs poly next others old t

-- a reduction that goes on from this remainder has taken no more units than it may
abbrev pub StaysBounded : ℕ → (Monomial → Monomial → Ordering) → List Terms → Terms → Parts → Spending → Spending → Type 0
StaysBounded p cmp gs rest parts s t =
    (poly : Terms) (old : Spending) → TakesReductions old s → IsUnderway p cmp gs poly rest parts old s → IsReductionBound p cmp gs poly old t

-- the finished terms of a remainder, and all its terms
abbrev pub front_of : {F O : Type 0} → (F → ℕ) → Remainder F O → Terms
front_of value r = residues value r.finished.items

abbrev pub whole_of : {F O : Type 0} → (F → ℕ) → Remainder F O → Terms
whole_of value r = front_of value r ++ r.left.0

-- the polynomial can be written with at most so many terms
abbrev pub HasAtMost : ℕ → ℕ → Terms → Type 0
HasAtMost p most ts = (all : Terms) × SamePolynomial p ts all × (length all ≤ most)

-- each monomial of the first terms is above each of the others, and there are not too many terms in all
pub record IsSplit (p : ℕ) (cmp : Monomial → Monomial → Ordering) (front left : Terms) (most : ℕ) : Type 0 where
  pub above : (y x : Monomial) → coefficient p front y ≢ 0 → coefficient p left x ≢ 0 → cmp y x ≡ Greater
  pub few : HasAtMost p most (front ++ left)
  pub within : most ≤ 131072

-- k*q times line i has the leading term of the polynomial
abbrev pub IsStepOfLead : ℕ → (Monomial → Monomial → Ordering) → List Terms → Terms → ℕ → ℕ → Monomial → Type 0
IsStepOfLead p cmp gs ts i k q =
    (c : ℕ) × (m : Monomial) × IsLeading p cmp ts c m × IsStep p cmp gs c m i k q
