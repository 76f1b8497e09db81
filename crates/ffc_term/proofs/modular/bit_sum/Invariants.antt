use Rattle.std.proofs.Common.{◌≡◌, ◌%◌, ◌^◌, take}
use Rattle.ffc_term.specs.Values.{residue_in, bit_sum_from}
use Rattle.ffc_term.proofs.modular.bit_sum.Given as goal

abbrev pub invariant-loop-id : goal.invariant-loop-id
invariant-loop-id g l = record {
  sum : g.F.Field.value l.sum ≡ bit_sum_from 0 (residue_in l.known) (take l.id-index l.ids) % g.F.Field.ORDER;
  weight : g.F.Field.value l.weight ≡ 2 ^ l.id-index % g.F.Field.ORDER;
}
