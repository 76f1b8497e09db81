-- How the nodes of a check are found: by marks, one for each node.
use Rattle.std.specs.Prelude.{◌≡◌, ℕ, ◌+◌, ◌/◌, ◌%◌, ◌<◌, ◌≤◌, ◌⊎◌, ◌==◌, Bool, true, false, List, length, map, Contains, slice_index, slice_index_or}
use Rattle.std.specs.Int.{bit_at}
use Rattle.std.specs.List.{range_with_len}
use Rattle.std.specs.List.Sorted.{IsStrictlyIncreasing}
use Rattle.ffc_term.specs.declared.node.Node.{Node}
use Rattle.ffc_term.specs.declared.node.Node.TheVariants.{IteField}
use Rattle.ffc_term.specs.Nodes.{IsNodeAt, children}
use Rattle.ffc_term.specs.Tables.{second_equality}
use Rattle.ffc_term.specs.Checks.{IsNodeOf}

abbrev pub IsMarked : List Bool → ℕ → Type 0
IsMarked marks id = slice_index_or marks id false ≡ true

-- no number from the first up to the second is marked
abbrev pub IsNoneMarked : List Bool → ℕ → ℕ → Type 0
IsNoneMarked marks from to = (k : ℕ) → from ≤ k → k < to → ¬ (IsMarked marks k)

-- the mark of a number is one bit; 64 are in a word
abbrev pub mark_in : List ℕ → ℕ → Bool
mark_in words id = bit_at (slice_index words (id / 64)) (id % 64) == 1

-- the marks of the numbers below a bound
abbrev pub marks_in : List ℕ → ℕ → List Bool
marks_in words bound = map (mark_in words) (range_with_len 0 bound)

-- k numbers an equality of the node n, numbered id, with one of its branches
abbrev pub IsEqualityOf : Node → ℕ → ℕ → Type 0
IsEqualityOf (IteField c a b) id k = (k ≡ id + 1) ⊎ (k ≡ second_equality id a b)
IsEqualityOf _ id k = ⊥

-- what the node n, numbered id, adds to a check
abbrev pub IsBroughtBy : Node → ℕ → ℕ → Type 0
IsBroughtBy n id k = Contains (children n) k ⊎ IsEqualityOf n id k

-- the new marks are the old ones and those that P says
pub record Marks (P : ℕ → Type 0) (old new : List Bool) : Type 0 where
  pub long : length new ≡ length old
  pub kept : (k : ℕ) → IsMarked old k → IsMarked new k
  pub made : (k : ℕ) → P k → IsMarked new k
  pub only : (k : ℕ) → IsMarked new k → IsMarked old k ⊎ P k

-- All listed nodes are marked, marked nodes are nodes of the check, and what the marked nodes from the number `from` on
-- add is marked.
pub record IsMarking (nodes : List Node) (ids : List ℕ) (marks : List Bool) (from : ℕ) : Type 0 where
  pub long : length marks ≡ length nodes
  pub listed : (k : ℕ) → Contains ids k → IsMarked marks k
  pub sound : (k : ℕ) → IsMarked marks k → IsNodeOf nodes ids k
  pub closed : (id : ℕ) (n : Node) (k : ℕ) → from ≤ id → IsMarked marks id → IsNodeAt nodes id n → IsBroughtBy n id k → IsMarked marks k

-- the marked numbers from `from` on, in increasing order
pub record AreMarkedFrom (marks : List Bool) (from : ℕ) (found : List ℕ) : Type 0 where
  pub increasing : IsStrictlyIncreasing found
  pub above : (k : ℕ) → Contains found k → (from ≤ k) × IsMarked marks k
  pub each : (k : ℕ) → from ≤ k → IsMarked marks k → Contains found k
