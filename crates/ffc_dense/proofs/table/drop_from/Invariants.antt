use Rattle.ffc_dense.proofs.TableLemmas.{AreDropped}
use Rattle.ffc_dense.proofs.table.drop_from.Given as goal

abbrev pub invariant-loop-slot : goal.invariant-loop-slot
invariant-loop-slot g l = AreDropped l.len l.slot l.initial.kept.items l.kept.items
