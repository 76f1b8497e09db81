-- Levels above a stack, which a search pushes and pops.
use Rattle.std.specs.Prelude.{◌≡◌, ℕ, ◌≤◌, List, [], ◌∷◌, ◌++◌, length}
use Rattle.std.specs.List.{AllByRecursion}
use Rattle.ffc_line.specs.declared.line.Line.{Line}
use Rattle.ffc_stack.specs.Stacks.{Stack}

-- Without a level there are no further lines; the first level begins after the n lines that were there before, and no later
-- one begins before it.
abbrev pub Begin : {A : Type 0} → ℕ → List A → List ℕ → Type 0
Begin n rest [] = rest ≡ []
Begin n rest (m ∷ ms) = (m ≡ n) × AllByRecursion (λ k. n ≤ k) ms

-- the second stack is the first one with levels above it
pub record IsAbove {F O : Type 0} (base now : Stack F O) : Type 0 where
  pub rest : List (Line F O)
  pub more : List ℕ
  pub lines : now.lines ≡ base.lines ++ rest
  pub marks : now.marks ≡ base.marks ++ more
  pub begin : Begin (length base.lines) rest more

-- a stack of this many levels is still below
abbrev pub StaysAbove : {F O : Type 0} → ℕ → Stack F O → Stack F O → Type 0
StaysAbove {F} {O} floor old new = (base : Stack F O) → length base.marks ≡ floor → IsAbove base old → IsAbove base new

-- a stack of this many levels is there again
abbrev pub ComesDown : {F O : Type 0} → ℕ → Stack F O → Stack F O → Type 0
ComesDown {F} {O} floor old new = (base : Stack F O) → length base.marks ≡ floor → IsAbove base old → new ≡ base
