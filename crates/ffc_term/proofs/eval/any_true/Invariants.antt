use Rattle.std.proofs.Common.{◌≡◌, false, take}
use Rattle.std.specs.List.{list_any}
use Rattle.ffc_term.specs.Values.{truth_in}
use Rattle.ffc_term.proofs.eval.any_true.Given as goal

abbrev pub invariant-loop-id : goal.invariant-loop-id
invariant-loop-id l = list_any (truth_in l.known) (take l.id-index l.ids) ≡ false
