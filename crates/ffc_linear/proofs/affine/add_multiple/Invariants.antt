use Rattle.std.proofs.Common.{map, take}
use Rattle.ffc_linear.proofs.DenseLemmas.{IsSum}
use Rattle.ffc_linear.proofs.affine.add_multiple.Given as goal

abbrev pub invariant-loop-i : goal.invariant-loop-i
invariant-loop-i g l =
    let value = g.F.Field.value in
    IsSum g.F.Field.ORDER l.constants (map value l.initial.dense) (value l.scale) (take l.i l.poly) (map value l.dense)
