use Rattle.std.proofs.Common.{◌+◌, false, Ok, length, refl, ap, ◌∙◌, arith}
use Rattle.std.proofs.lemmas.List.Sums.{count_by_more_yes}
use Rattle.ffc_base.specs.declared.meter.Unit.TheVariants as unit
use Rattle.ffc_base.specs.declared.stop.Stop.TheVariants as stops
use Rattle.ffc_echelon.specs.Placing.{is_marked}
use Rattle.ffc_echelon.proofs.TrialLemmas.{takes_freely, takes_all, not_spent, refused, full_still, one_more_taken, taken_more}
use Rattle.ffc_echelon.proofs.placing.first_unmarked.Goals as goal

pub returns-in_err-take-clause-units : goal.returns-in_err-take-clause-units
returns-in_err-take-clause-units c =
    takes_all unit.Trial c.loop-place.place (length c.args.marks.now) stops.Spent c.from_residual.result c.args.meter.now c.take.new.self (omega arith)
    (refused unit.Trial c.loop-place.place c.args.meter.now c.loop-place.meter c.take.new.self c.loop-place.invariant.taken c.in_err-take.ensures.kept)
    (full_still c.loop-place.meter c.take.new.self c.in_err-take.ensures.kept (c.in_err-take.ensures.spent.0 refl))

pub returns-then-not-marked-clause-units : goal.returns-then-not-marked-clause-units
returns-then-not-marked-clause-units c =
    takes_freely unit.Trial (length c.args.marks.now) stops.Spent (Ok c.loop-place.place) c.args.meter.now c.take.new.self (not_spent c.loop-place.place stops.Spent)
    (taken_more unit.Trial (c.loop-place.place + 1) (length c.args.marks.now) c.args.meter.now c.take.new.self (omega arith)
    (one_more_taken unit.Trial c.loop-place.place c.args.meter.now c.loop-place.meter c.take.new.self c.loop-place.invariant.taken c.in_ok-take.ensures.taken))

pub loop-place-preserved : goal.loop-place-preserved
loop-place-preserved c = record {
  marked =
      count_by_more_yes is_marked c.args.marks.now c.loop-place.place false (omega arith) c.if-not-marked.false
      ∙ ap (λ n. n + 1) c.loop-place.invariant.marked;
  taken = one_more_taken unit.Trial c.loop-place.place c.args.meter.now c.loop-place.meter c.take.new.self c.loop-place.invariant.taken c.in_ok-take.ensures.taken;
}
