use Rattle.std.proofs.Common.{◌≡◌, [], ◌∷◌, Bool, get_or, Some, slice_get, sym, ap, ◌∙◌, subst, rules}
use Rattle.std.proofs.lemmas.Option.{slice_get-get_or}
use Rattle.ffc_clause.specs.Clauses.{plus}
use Rattle.ffc_refutation.specs.declared.reason.Reason.TheVariants.{Assertion}
use Rattle.ffc_propagation.specs.Forcing.{IsGiven, Forced}
use Rattle.ffc_propagation.specs.Trails.{HasTaken}
use Rattle.ffc_propagation.proofs.GivenLemmas.{assertion_given}
use Rattle.ffc_propagation.proofs.TrailLemmas.{active_more}
use Rattle.ffc_propagation.proofs.trail.Trail.take_active.Goals as goal

pub returns-then-branch-clause-forced : goal.returns-then-branch-clause-forced
returns-then-branch-clause-forced c = λ k e f.
    let i = c.loop-number.number in
    let id = get_or c.args.ids.now i 0 in
    let same : c.in-Ok.number ≡ i = search rules in
    let at : slice_get k.in_force i ≡ Some id = ap (λ ids. slice_get ids i) e ∙ slice_get-get_or c.args.ids.now i 0 c.loop-number-test.true in
    let given = subst (λ n. IsGiven k (Assertion n) (plus id ∷ [])) (sym same) (assertion_given k i id at) in
    subst (Forced k c.take.new.self) c.if-branch.true (c.in_ok-take.ensures.forced k given (c.loop-number.invariant.forced k e f))

pub loop-number-preserved : goal.loop-number-preserved
loop-number-preserved c =
    let i = c.loop-number.number in
    let id = get_or c.args.ids.now i 0 in
    record {
      taken = active_more c.args.ids.now i c.args.self.now c.loop-number.self c.take.new.self c.loop-number-test.true c.loop-number.invariant.taken
          (subst (HasTaken (plus id ∷ []) c.loop-number.self c.take.new.self) c.if-branch.false c.in_ok-take.ensures.taken);
      forced = λ k e f.
          let same : c.in-Ok.number ≡ i = search rules in
          let at : slice_get k.in_force i ≡ Some id = ap (λ ids. slice_get ids i) e ∙ slice_get-get_or c.args.ids.now i 0 c.loop-number-test.true in
          let given = subst (λ n. IsGiven k (Assertion n) (plus id ∷ [])) (sym same) (assertion_given k i id at) in
          subst (Forced k c.take.new.self) c.if-branch.false (c.in_ok-take.ensures.forced k given (c.loop-number.invariant.forced k e f));
    }
