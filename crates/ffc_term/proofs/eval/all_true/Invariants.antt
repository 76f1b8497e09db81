use Rattle.std.proofs.Common.{◌≡◌, true, take}
use Rattle.std.specs.List.{list_all}
use Rattle.ffc_term.specs.Values.{truth_in}
use Rattle.ffc_term.proofs.eval.all_true.Given as goal

abbrev pub invariant-loop-id : goal.invariant-loop-id
invariant-loop-id l = list_all (truth_in l.known) (take l.id-index l.ids) ≡ true
