use Rattle.std.proofs.Common.{◌≡◌, ◌<◌, ◌-◌, length, arith, List, Option, IfSome, subst, sym}
use Rattle.ffc_cdcl.specs.declared.answer.HintedClause.{HintedClause}
use Rattle.ffc_cdcl.specs.State.{IsKept}
use Rattle.ffc_cdcl.specs.Steps.{Names, FollowsBy, clauses_of, IsDerivation}
use Rattle.ffc_cdcl.proofs.StepLemmas.{derivation_push, refutation_by}
use Rattle.ffc_cdcl.proofs.solver.Solver.refutation.Goals as goal

pub loop-k-preserved : goal.loop-k-preserved
loop-k-preserved c =
    let lemmas = c.args.self.now.lemmas in
    let added = c.args.self.now.added in
    let Follows = λ (earlier : List HintedClause) (step : HintedClause). FollowsBy (Names (IsKept lemmas) added (clauses_of earlier)) step.lits step.hints.items in
    let at_step = let P = λ (o : Option HintedClause). IfSome o (Follows c.as_slice.result.now) in subst P c.in-Some.is c.in_ok-step.ensures in
    let follows = subst (λ earlier. Follows earlier c.in-Some.step) c.as_slice.ensures.value at_step in
    subst (IsDerivation (IsKept lemmas) added) (sym c.in_ok-push.ensures.items)
    (derivation_push (IsKept lemmas) added c.loop-k.steps.items c.in-Some.step c.loop-k.invariant follows)

pub returns : goal.returns
returns c =
    let steps = c.loop-k.steps in
    let last = c.index-else-count-eq0.result.now in
    let k = c.len-count.result - 1 in
    let at_end : k ≡ length steps.items - 1 = omega (arith, c.len-count.ensures, steps.ok.0) in
    let inside : k < length steps.items = omega (arith, c.if-count-eq0.false, c.len-count.ensures, steps.ok.0) in
    let empty : length last.lits ≡ 0 = omega (arith, c.if-len-gt0.false, c.len-else-count-eq0.ensures) in
    refutation_by (IsKept c.args.self.now.lemmas) c.args.self.now.added steps.items last k c.loop-k.invariant at_end inside c.index-else-count-eq0.ensures empty
