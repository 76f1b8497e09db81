-- What is kept of each node of a table beside it.
use Rattle.std.specs.Prelude.{◌≡◌, ℕ, min, List, map}
use Rattle.ffc_term.specs.declared.node.Node.{Node}
use Rattle.ffc_term.specs.declared.node.Sort.{Sort}
use Rattle.ffc_term.specs.declared.kept.Kept.{Kept}
use Rattle.ffc_term.specs.Nodes.{sorts, sort_of_node}
use Rattle.ffc_term.specs.Measuring.{degrees, lengths, degree_of_node, length_of_node, measure_cap}

abbrev pub kept_sorts : List Kept → List Sort
kept_sorts kept = map (λ k. k.sort) kept

abbrev pub kept_degrees : List Kept → List ℕ
kept_degrees kept = map (λ k. k.degree) kept

abbrev pub kept_lengths : List Kept → List ℕ
kept_lengths kept = map (λ k. k.length) kept

-- a measure as it is kept
abbrev pub capped : ℕ → ℕ
capped n = min n measure_cap

-- of each node its sort, its degree and its length are kept
pub record AreKept (nodes : List Node) (kept : List Kept) : Type 0 where
  pub sorts_are : kept_sorts kept ≡ sorts nodes
  pub degrees_are : kept_degrees kept ≡ map capped (degrees nodes)
  pub lengths_are : kept_lengths kept ≡ map capped (lengths nodes)

-- k is what is kept of a node that comes after those of which this is kept
pub record IsKeptOf (kept : List Kept) (n : Node) (k : Kept) : Type 0 where
  pub sort_is : k.sort ≡ sort_of_node (kept_sorts kept) n
  pub degree_is : k.degree ≡ capped (degree_of_node (kept_degrees kept) n)
  pub length_is : k.length ≡ capped (length_of_node (kept_lengths kept) n)
