use Rattle.std.proofs.Common.{◌≡◌, ◌%◌, sum_by, take}
use Rattle.ffc_term.specs.Values.{residue_in}
use Rattle.ffc_term.proofs.modular.sum.Given as goal

abbrev pub invariant-loop-id : goal.invariant-loop-id
invariant-loop-id g l = g.F.Field.value l.sum ≡ sum_by (residue_in l.known) (take l.id-index l.ids) % g.F.Field.ORDER
