use Rattle.std.proofs.Common.{◌≡◌, subst, rules}
use Rattle.ffc_propagation.specs.Forcing.{Forced}
use Rattle.ffc_propagation.specs.Settling.{clauses_of, TakesAt}
use Rattle.ffc_propagation.proofs.SettlingLemmas.{settled_more}
use Rattle.ffc_propagation.proofs.TrailLemmas.{grown_then}
use Rattle.ffc_propagation.proofs.settling.take_units.Goals as goal

pub loop-number-preserved : goal.loop-number-preserved
loop-number-preserved c =
    let clauses = clauses_of c.args.clauses.now in
    let taken = subst (TakesAt clauses c.loop-number.number c.loop-number.trail c.take_unit.new.trail c.args.occurrences.now) c.if-branch.false c.in_ok-take_unit.ensures.taken in
    record {
      grown = grown_then c.args.trail.now c.loop-number.trail c.take_unit.new.trail c.loop-number.invariant.grown taken.0;
      settled = settled_more clauses c.loop-number.trail c.take_unit.new.trail c.args.occurrences.now c.loop-number.number taken.0 c.loop-number.invariant.settled taken.1;
      forced = λ k given f. subst (Forced k c.take_unit.new.trail) c.if-branch.false (c.in_ok-take_unit.ensures.forced k given (c.loop-number.invariant.forced k given f));
    }
