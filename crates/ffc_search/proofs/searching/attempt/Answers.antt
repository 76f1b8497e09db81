use Rattle.std.proofs.Common.{sym, subst}
use Rattle.ffc_search.specs.Above.{IsAbove}
use Rattle.ffc_search.proofs.AboveLemmas.{above_itself}
use Rattle.ffc_search.proofs.MeterLemmas.{takes_both, takes_unit}
use Rattle.ffc_search.proofs.searching.attempt.Goals as goal

pub loop-weights-preserved : goal.loop-weights-preserved
loop-weights-preserved g c = record {
  above = λ base deep above.
      subst (IsAbove base) (sym (c.pop_to.ensures base deep (c.turn_round.ensures.above base deep (c.loop-weights.invariant.above base deep above)))) (above_itself base);
  takes = takes_both c.args.meter.now c.take.new.self c.turn_round.new.meter
      (takes_both c.args.meter.now c.loop-weights.meter c.take.new.self c.loop-weights.invariant.takes (takes_unit c.loop-weights.meter c.take.new.self c.in_ok-take.ensures.same_budget c.in_ok-take.ensures.one_unit))
      c.turn_round.ensures.metered.0;
}
