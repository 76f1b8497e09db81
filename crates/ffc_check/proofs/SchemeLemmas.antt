-- The clause of a scheme, from the node.
use Rattle.std.proofs.Common.{◌≡◌, ℕ, [], List, Option, Some, None, slice_get, ap, ◌∙◌, refl}
use Rattle.ffc_term.specs.declared.node.Node.{Node}
use Rattle.ffc_term.specs.Nodes.{IsNodeAt}
use Rattle.ffc_clause.specs.Clauses.{Clause}
use Rattle.ffc_rules.specs.Schemes.{schemes, scheme_clause}
use Rattle.ffc_check.specs.Patterns.{scheme_in}

-- the schemes of a node that may be there
of_node : ℕ → Option Node → List (List Clause)
of_node v None = []
of_node v (Some n) = schemes v n

pub scheme_at : (ns : List Node) (v scheme index : ℕ) (n : Node) → IsNodeAt ns v n → scheme_clause ns v scheme index ≡ slice_get (scheme_in (schemes v n) scheme) index
unfolding scheme_clause of_node
scheme_at ns v scheme index n at = by_node (slice_get ns v) ∙ ap (λ o. slice_get (scheme_in (of_node v o) scheme) index) at
  where
    by_node : (o : Option Node) → slice_get (scheme_in (elim o [ None ↦ [] | Some m ↦ schemes v m ]) scheme) index ≡ slice_get (scheme_in (of_node v o) scheme) index
    by_node None = refl
    by_node (Some m) = refl
