use Rattle.std.proofs.Common.{refl}
use Rattle.ffc_propagation.proofs.RowLemmas.{lower_within, lower_positive, lower_more}
use Rattle.ffc_propagation.proofs.occurrences.lower.Goals as goal

pub bounds-counts-clause : goal.bounds-counts-clause
bounds-counts-clause c = lower_within c.args.counts.now c.loop-clause.counts c.args.row.now c.loop-clause.clause-index c.loop-clause-test.true c.requires c.loop-clause.invariant

pub overflow_sub-counts : goal.overflow_sub-counts
overflow_sub-counts c = lower_positive c.args.counts.now c.loop-clause.counts c.args.row.now c.loop-clause.clause-index c.loop-clause-test.true c.requires c.loop-clause.invariant

pub loop-clause-preserved : goal.loop-clause-preserved
loop-clause-preserved c = lower_more c.args.counts.now c.loop-clause.counts c.args.row.now c.loop-clause.clause-index c.loop-clause-test.true c.requires c.loop-clause.invariant _ refl
