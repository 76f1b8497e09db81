use Rattle.std.proofs.Common.{◌++◌, ◌∷◌, [], map, ◌∙◌, subst, refl, sym}
use Rattle.ffc_clause.specs.Clauses.{negated}
use Rattle.ffc_cdcl.specs.State.{IsKept}
use Rattle.ffc_cdcl.specs.Steps.{Names, FollowsBy, clauses_of, AreNamed}
use Rattle.ffc_cdcl.specs.Walking.{IsAt}
use Rattle.ffc_cdcl.proofs.StepLemmas.{named_push}
use Rattle.ffc_cdcl.proofs.solver.Solver.step.Goals as goal

pub loop-hint-preserved : goal.loop-hint-preserved
loop-hint-preserved c =
    let was = c.loop-hint.invariant in
    let Named = Names (IsKept c.args.self.now.lemmas) c.args.self.now.added (clauses_of c.args.steps.now) in (
      was.0 ++ c.in-Some.clause.now ∷ [],
      c.in_ok-take.ensures (map negated c.args.learned.now.clause) was.0 was.1,
      subst (λ hints. AreNamed Named hints (was.0 ++ c.in-Some.clause.now ∷ [])) (sym c.in_ok-push.ensures.items)
          (named_push Named c.loop-hint.hints.items was.0 c.in-Some.named c.in-Some.clause.now was.2 c.in-Some.ensures),
    )

pub returns : goal.returns
returns c =
    let was = c.loop-hint.invariant in
    let same = c.in_ok-lits.ensures ∙ c.as_slice-2.ensures in
    subst (λ lits. FollowsBy (Names (IsKept c.args.self.now.lemmas) c.args.self.now.added (clauses_of c.args.steps.now)) lits c.loop-hint.hints.items) (sym same) (record {
      named = was.0;
      are_named = was.2;
      follows = subst (λ p. IsAt (map negated c.args.learned.now.clause) was.0 c.loop-hint.walk.assumed p) (c.if-not-follows.ensures refl) was.1;
    })
