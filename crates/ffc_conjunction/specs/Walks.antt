-- What a walk over the nodes of a check finds, from the last node to the first.
use Rattle.std.specs.Prelude.{◌≡◌, ℕ, Bool, true, false, List, [], ◌∷◌, ◌++◌, reverse, filter, flat_map, if◌then◌else◌}
use Rattle.std.specs.List.{list_all}
use Rattle.ffc_term.specs.declared.node.Node.{Node}
use Rattle.ffc_term.specs.Nodes.{node_at}
use Rattle.ffc_rules.specs.Cones.{is_listed, is_equality}
use Rattle.ffc_bounds.specs.Conjunctions.{conjuncts, is_plain, negated_node}
use Rattle.ffc_rules.specs.Entries.{NodeCheck}
use Rattle.ffc_conjunction.specs.Forced.{IsForcing}
use Rattle.ffc_conjunction.specs.declared.walk.Walk.{Walk}

-- the listed nodes with the parts of each `and` among them, where the nodes that are looked at are these, in increasing order
unfoldable pub found_from : List Node → List ℕ → List ℕ → List ℕ
found_from nodes ids [] = ids
found_from nodes ids (x ∷ xs) =
    let above = found_from nodes ids xs in if is_listed above x then conjuncts (node_at nodes x) ++ above else above

-- those of the nodes looked at that are found
unfoldable pub kept_from : List Node → List ℕ → List ℕ → List ℕ
kept_from nodes ids [] = []
kept_from nodes ids (x ∷ xs) =
    let above = kept_from nodes ids xs in if is_listed (found_from nodes ids xs) x then x ∷ above else above

abbrev pub equations_from : List Node → List ℕ → List ℕ → List ℕ
equations_from nodes ids xs = filter (λ id. is_equality (node_at nodes id)) (kept_from nodes ids xs)

abbrev pub disequations_from : List Node → List ℕ → List ℕ → List ℕ
disequations_from nodes ids xs =
    filter (λ id. is_equality (node_at nodes id)) (flat_map (λ id. negated_node (node_at nodes id)) (kept_from nodes ids xs))

-- the node where it is an equality, and what it negates where that is one
abbrev pub equations_of : List Node → ℕ → List ℕ
equations_of nodes id = if is_equality (node_at nodes id) then id ∷ [] else []

abbrev pub disequations_of : List Node → ℕ → List ℕ
disequations_of nodes id = filter (λ a. is_equality (node_at nodes a)) (negated_node (node_at nodes id))

-- what is asserted by one node is forced, and it is listed where it is an equation or a disequation
pub record IsVisit (c : NodeCheck) (found denied : List ℕ) (id : ℕ) (old new : Walk) : Type 0 where
  pub plain : is_plain c.nodes (node_at c.nodes id) ≡ true
  pub forcing : IsForcing c (conjuncts (node_at c.nodes id) ++ found) (disequations_of c.nodes id ++ denied) new.forcing
  pub equations : new.equations.items ≡ old.equations.items ++ equations_of c.nodes id
  pub disequations : new.disequations.items ≡ old.disequations.items ++ disequations_of c.nodes id

-- the same, or the node is none that a conjunction has
abbrev pub Visits : NodeCheck → List ℕ → List ℕ → ℕ → Walk → Walk → Bool → Type 0
Visits c found denied id old new true = IsVisit c found denied id old new
Visits c found denied id old new false = is_plain c.nodes (node_at c.nodes id) ≡ false

-- all nodes that are found among these may be in a conjunction
abbrev pub are_plain : List Node → List ℕ → List ℕ → Bool
are_plain nodes ids xs = list_all (λ id. is_plain nodes (node_at nodes id)) (kept_from nodes ids xs)

-- what the walk has when these nodes were looked at, in increasing order
pub record IsWalk (c : NodeCheck) (ids xs : List ℕ) (w : Walk) : Type 0 where
  pub forcing : IsForcing c (found_from c.nodes ids xs) (disequations_from c.nodes ids xs) w.forcing
  pub equations : reverse w.equations.items ≡ equations_from c.nodes ids xs
  pub disequations : reverse w.disequations.items ≡ disequations_from c.nodes ids xs
  pub plain : are_plain c.nodes ids xs ≡ true

-- the same, or some found node is none that a conjunction has
abbrev pub Walks : NodeCheck → List ℕ → List ℕ → Walk → Bool → Type 0
Walks c ids xs w true = IsWalk c ids xs w
Walks c ids xs w false = are_plain c.nodes ids xs ≡ false
