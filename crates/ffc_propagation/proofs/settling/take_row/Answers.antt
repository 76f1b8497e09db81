use Rattle.std.proofs.Common.{◌≡◌, ℕ, get_or, length, subst, rules}
use Rattle.ffc_propagation.specs.Forcing.{Forced}
use Rattle.ffc_propagation.specs.Settling.{clauses_of, TakesAt}
use Rattle.ffc_propagation.proofs.SettlingLemmas.{settling_grown, settled_in_row}
use Rattle.ffc_propagation.proofs.TrailLemmas.{grown_then}
use Rattle.ffc_propagation.proofs.settling.take_row.Goals as goal

pub take_unit-requires-clause-state : goal.take_unit-requires-clause-state
take_unit-requires-clause-state c = record {
  looked = c.requires.state.looked;
  state = settling_grown (clauses_of c.args.clauses.now) c.requires.state.looked c.args.trail.now c.args.occurrences.now c.requires.state.state c.loop-number.trail c.loop-number.invariant.grown;
}

pub loop-number-preserved : goal.loop-number-preserved
loop-number-preserved c =
    let clauses = clauses_of c.args.clauses.now in
    let i = c.loop-number.number-index in
    let taken = subst (TakesAt clauses (get_or c.args.row.now i 0) c.loop-number.trail c.take_unit.new.trail c.args.occurrences.now) c.if-branch.false c.in_ok-take_unit.ensures.taken in
    record {
      grown = grown_then c.args.trail.now c.loop-number.trail c.take_unit.new.trail c.loop-number.invariant.grown taken.0;
      settled = settled_in_row clauses c.loop-number.trail c.take_unit.new.trail c.args.occurrences.now c.args.row.now i (length c.args.clauses.now) c.loop-number-test.true taken.0 c.loop-number.invariant.settled taken.1;
      forced = λ k given f. subst (Forced k c.take_unit.new.trail) c.if-branch.false (c.in_ok-take_unit.ensures.forced k given (c.loop-number.invariant.forced k given f));
    }
