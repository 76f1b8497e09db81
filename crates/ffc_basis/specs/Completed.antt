-- What completing a basis adds to its lines, and what it answers.
use Rattle.std.specs.Prelude.{◌≡◌, ◌≢◌, ℕ, ◌+◌, ◌≤◌, List, [], ◌∷◌, ◌++◌}
use Rattle.std.specs.declared.cmp.Ordering.{Ordering}
use Rattle.ffc_base.specs.Metering.{Spending, total}
use Rattle.ffc_ring.specs.Monomial.{Monomial}
use Rattle.ffc_ring.specs.Polynomial.{Terms}
use Rattle.ffc_mono.specs.Leading.{IsLeading}
use Rattle.ffc_line.specs.declared.line.Line.{Line}
use Rattle.ffc_basis.specs.declared.completion.Completion.{Completion as Answer}
use Rattle.ffc_basis.specs.declared.completion.Completion.TheVariants.{Constant, Closed, SetAside}
use Rattle.ffc_basis.specs.declared.completion.Progress.{Progress}
use Rattle.ffc_basis.specs.declared.completion.Progress.TheVariants.{Done, Left}
use Rattle.ffc_line.specs.Lines.{polys_of}
use Rattle.ffc_basis.specs.Reduction.{IsIrreducible}
use Rattle.ffc_basis.specs.Completion.{IsClosed, IsSetAside, IsConstantLine}

-- the line has parts, is not 0, and has no leading monomial that is divisible by that of one of these polynomials
pub record IsAddedLine {F O : Type 0} (p : ℕ) (cmp : Monomial → Monomial → Ordering) (gs : List Terms) (l : Line F O) : Type 0 where
  pub has_parts : l.parts.items ≢ []
  pub nonzero : l.poly ≢ []
  pub irreducible : (c : ℕ) (m : Monomial) → IsLeading p cmp l.poly c m → IsIrreducible p cmp gs m

-- so is each line of these, by all lines before it
abbrev pub AreAdded : {F O : Type 0} → ℕ → (Monomial → Monomial → Ordering) → List Terms → List (Line F O) → Type 0
AreAdded p cmp gs [] = Unit {0}
AreAdded p cmp gs (l ∷ ls) = IsAddedLine p cmp gs l × AreAdded p cmp (gs ++ l.poly ∷ []) ls

-- the new lines are the old ones and added ones after them
abbrev pub IsFront : {F O : Type 0} → ℕ → (Monomial → Monomial → Ordering) → List (Line F O) → List (Line F O) → Type 0
IsFront {F} {O} p cmp old new = (more : List (Line F O)) × (new ≡ old ++ more) × AreAdded p cmp (polys_of old) more

-- the answer is right of these lines
abbrev pub IsCompletion : ℕ → (Monomial → Monomial → Ordering) → List Terms → Answer → Type 0
IsCompletion p cmp gs (Constant line) = IsConstantLine p gs line
IsCompletion p cmp gs Closed = IsClosed p cmp gs
IsCompletion p cmp gs (SetAside pairs) = IsSetAside p cmp gs pairs

-- so is an answer of a part of the work
abbrev pub IsProgress : ℕ → (Monomial → Monomial → Ordering) → List Terms → Progress → Type 0
IsProgress p cmp gs (Done answer) = IsCompletion p cmp gs answer
IsProgress p cmp gs Left = Unit {0}

-- pairs are left only where so many units were taken
abbrev pub HasTaken : Spending → Spending → ℕ → Progress → Type 0
HasTaken old new units (Done answer) = Unit {0}
HasTaken old new units Left = total old + units ≤ total new
