-- Choices of generators.
use Rattle.std.specs.Prelude.{◌≡◌, ℕ, ◌+◌, ◌≤◌, ◌<◌, Bool, nat_lt, if◌then◌else◌, List, [], ◌++◌, length, slice_index, slice_index_or, All, Contains, Option, Some, None, IfSome}
use Rattle.std.specs.List.{range_with_len}
use Rattle.std.specs.List.Sorted.{IsStrictlyIncreasing}
use Rattle.ffc_bounds.specs.Combinations.{literals_of, degrees_of}
use Rattle.ffc_bounds.specs.Monomials.{monomials}
use Rattle.ffc_combination.specs.declared.choices.Choice.{Choice}
use Rattle.ffc_combination.specs.Forced.{IsUsable}
use Rattle.ffc_term.specs.declared.node.Node.{Node}
use Rattle.ffc_term.specs.Measuring.{degree_at}
use Rattle.ffc_term.specs.Tables.{IsTable}
use Rattle.ffc_trees.specs.FirstLines.{first_lines}

-- how many constants there are to be solved for in a check with these variables, where it is flat
abbrev pub constants_if : Bool → List ℕ → Option ℕ
constants_if flat own = if flat then Some (length own) else None

-- how many are to be solved for at a degree: none below the lowest one
abbrev pub constants_at : ℕ → Choice → Option ℕ
constants_at d x = if nat_lt d x.lowest then None else x.constants

-- the literals, degrees and variables are those of these equalities and disequations
pub record HasParts (nodes : List Node) (own equal unequal : List ℕ) (flat : Bool) (from : ℕ) (x : Choice) : Type 0 where
  pub literals : x.literals.items ≡ literals_of equal unequal
  pub degrees : x.degrees.items ≡ degrees_of nodes equal unequal
  pub variables : x.variables.items ≡ own ++ range_with_len (length nodes + length equal) (length unequal)
  pub constants : x.constants ≡ constants_if flat own
  pub lowest : x.lowest ≡ from
  pub bound : All (λ e. e ≤ x.greatest) x.degrees.items
  pub least : (d : ℕ) → All (λ e. e ≤ d) x.degrees.items → x.greatest ≤ d

-- the number is the greatest of the degrees, and 0 where there is none
pub record IsBounded (x : Choice) : Type 0 where
  pub bound : All (λ e. e ≤ x.greatest) x.degrees.items
  pub least : (d : ℕ) → All (λ e. e ≤ d) x.degrees.items → x.greatest ≤ d

-- The literals are on equalities of the order p within the limits. The line of each has only monomials in the variables, up to its
-- degree. The constants to be solved for are some of the variables.
pub record IsChoice (p : ℕ) (nodes : List Node) (x : Choice) : Type 0 where
  pub table : IsTable nodes
  pub usable : All (λ l. IsUsable p nodes l.1) x.literals.items
  pub rises : IsStrictlyIncreasing x.variables.items
  pub long : length x.degrees.items ≡ length x.literals.items
  pub within : (i : ℕ) → i < length x.literals.items
      → All (λ t. Contains (monomials (slice_index x.degrees.items i) x.variables.items) t.1) (slice_index_or (first_lines nodes p x.literals.items) i [])
  pub bound : All (λ e. e ≤ x.greatest) x.degrees.items
  pub least : (d : ℕ) → All (λ e. e ≤ d) x.degrees.items → x.greatest ≤ d
  pub constants : IfSome x.constants (λ count. (0 < count) × (count ≤ length x.variables.items))

-- the greatest degree of these nodes, and 0 where there is none
pub record IsGreatestDegree (nodes : List Node) (ids : List ℕ) (lowest : ℕ) : Type 0 where
  pub bound : All (λ id. degree_at nodes id ≤ lowest) ids
  pub least : (d : ℕ) → All (λ id. degree_at nodes id ≤ d) ids → lowest ≤ d
  pub low : lowest ≤ 255
