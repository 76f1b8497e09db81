use Rattle.std.proofs.Common.{◌≡◌, filter, drop}
use Rattle.ffc_bounds.specs.Conjunctions.{first_order_of}
use Rattle.ffc_trials.proofs.FieldLemmas.{is_field}
use Rattle.ffc_trials.proofs.field.first_order.Given as goal

abbrev pub invariant-loop-id : goal.invariant-loop-id
invariant-loop-id l = first_order_of l.table (filter (is_field l.table) (drop l.id-index l.nodes)) ≡ first_order_of l.table (filter (is_field l.table) l.nodes)
