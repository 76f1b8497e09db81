-- The generators that a line's parts lead to.
use Rattle.std.specs.Prelude.{◌≡◌, ℕ, zero, suc, ◌<◌, ◌⊎◌, List, [], ◌∷◌, length}
use Rattle.std.specs.List.{Contains}
use Rattle.std.specs.List.Sorted.{IsStrictlyIncreasing}
use Rattle.ffc_line.specs.declared.line.Line.{Line}
use Rattle.ffc_line.specs.Lines.{Parts}

-- the parts of the line with this number; past the end there are none
abbrev pub parts_at : {F O : Type 0} → List (Line F O) → ℕ → Parts
parts_at [] i = []
parts_at (l ∷ ls) zero = l.parts.items
parts_at (l ∷ ls) (suc i) = parts_at ls i

-- a part names this line
abbrev pub Names : Parts → ℕ → Type 0
Names [] k = ⊥
Names (t ∷ ts) k = (t.0 ≡ k) ⊎ Names ts k

-- from line i through these lines to line j, each named by a part of the one before it
abbrev pub IsPath : {F O : Type 0} → List (Line F O) → ℕ → List ℕ → ℕ → Type 0
IsPath ls i [] j = i ≡ j
IsPath ls i (k ∷ ks) j = Names (parts_at ls i) k × IsPath ls k ks j

-- the parts of line i lead to line j
abbrev pub LeadsTo : {F O : Type 0} → List (Line F O) → ℕ → ℕ → Type 0
LeadsTo ls i j = (ks : List ℕ) × IsPath ls i ks j

-- the line is a generator, which has no parts
abbrev pub IsGenerator : {F O : Type 0} → List (Line F O) → ℕ → Type 0
IsGenerator ls n = (n < length ls) × (parts_at ls n ≡ [])

-- the numbers of the generators that line i leads to, in increasing order
pub record AreGeneratorsOf {F O : Type 0} (ls : List (Line F O)) (i : ℕ) (ns : List ℕ) : Type 0 where
  pub increasing : IsStrictlyIncreasing ns
  pub each : (n : ℕ) → Contains ns n → IsGenerator ls n × LeadsTo ls i n
  pub all : (n : ℕ) → IsGenerator ls n → LeadsTo ls i n → Contains ns n
