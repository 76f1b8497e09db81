-- What is found at the end of each step.
use Rattle.std.proofs.Common.{◌≡◌, ℕ, Bool, true, false, All, List, length, sym, ap, ◌∙◌}
use Rattle.std.proofs.lemmas.List.Elements.{All-weaker}
use Rattle.ffc_clause.specs.Clauses.{plus, is_among}
use Rattle.ffc_encode.specs.Clauses.{node_clauses}
use Rattle.ffc_rules.specs.Cones.{cone}
use Rattle.ffc_rules.specs.Entries.{NodeCheck}
use Rattle.ffc_rules.specs.Laws.{IsValid}
use Rattle.ffc_propagation.specs.Answers.{IsFound}
use Rattle.ffc_propagation.specs.Forcing.{IsForcing, IsRefuting, Forced}
use Rattle.ffc_propagation.specs.Settling.{clauses_of, Completes}
use Rattle.ffc_propagation.specs.Trails.{IsEnded, IsGrown}
use Rattle.ffc_propagation.specs.declared.occurrences.Occurrences.{Occurrences}
use Rattle.ffc_propagation.specs.declared.trail.Trail.{Trail}
use Rattle.ffc_propagation.proofs.FoundLemmas.{found_conflict, found_forced}
use Rattle.ffc_propagation.proofs.TrailLemmas.{among_grown}

-- an assertion is false
pub active_found : (c : NodeCheck) → IsValid c → (old t : Trail) → length old.marks.items ≡ length c.nodes → IsEnded old t → IsRefuting c t → IsFound c t true
active_found c valid old t long ended refuting =
    found_conflict c valid t (ended.long ∙ long) ended.marked ended.few refuting.sound ended.reasons refuting

-- a clause is false, or all are settled
pub settled_found : (c : NodeCheck) → IsValid c → (old t : Trail) (o : Occurrences) → length old.marks.items ≡ length c.nodes → All (λ id. is_among old.literals.items (plus id) ≡ true) c.in_force
    → (b : Bool) → Completes (clauses_of (node_clauses c.nodes (cone c.nodes c.in_force))) old t o b → Forced c t b → IsFound c t b
settled_found c valid old t o long active true ended refuting =
    found_conflict c valid t (ended.long ∙ long) ended.marked ended.few refuting.sound ended.reasons refuting
settled_found c valid old t o long active false (grown, settled) forcing =
    found_forced c valid t (grown.long ∙ long) settled.state.trail.marked settled.state.trail.few forcing.sound o settled
    (All-weaker (λ id. is_among old.literals.items (plus id) ≡ true) (λ id. is_among t.literals.items (plus id) ≡ true) (λ id. among_grown old t (plus id) grown) c.in_force active) forcing
