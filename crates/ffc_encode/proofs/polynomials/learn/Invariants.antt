use Rattle.std.specs.BTreeSet.{btree_set_len}
use Rattle.ffc_encode.proofs.LearningLemmas.{AreLeft}
use Rattle.ffc_encode.proofs.polynomials.learn.Given as goal

abbrev pub invariant-loop-next : goal.invariant-loop-next
invariant-loop-next g l = AreLeft l.table g.F.Field.ORDER l.id l.known l.to_make

abbrev pub decreases-loop-next : goal.decreases-loop-next
decreases-loop-next g l = btree_set_len l.to_make
