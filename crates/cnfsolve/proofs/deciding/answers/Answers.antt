use Rattle.std.proofs.Common.{◌≡◌, [], ◌∷◌, ◌++◌, subst, sym, rules}
use Rattle.std.proofs.lemmas.Iterator.Adapters.{YieldsList-from_vec}
use Rattle.std.proofs.lemmas.Iterator.Consumers.{YieldsList-end}
use Rattle.cnfsolve.specs.Answers.{AreRight}
use Rattle.cnfsolve.proofs.FreshLemmas.{right_with_last, right_of_all}
use Rattle.cnfsolve.proofs.deciding.answers.Goals as goal

pub loop-formula-preserved : goal.loop-formula-preserved
loop-formula-preserved c =
    let e : c.push.new.self.items ≡ c.loop-formula.answers.items ++ c.decide.result ∷ [] = search rules in
    subst (AreRight c.args.budget (c.loop-formula.yielded ++ c.in-Some.formula ∷ [])) (sym e)
    (right_with_last c.args.budget c.loop-formula.yielded c.loop-formula.answers.items c.in-Some.formula c.decide.result c.loop-formula.invariant c.decide.ensures)

pub returns-clause-right : goal.returns-clause-right
returns-clause-right c =
    let all = c.in_ok-formulas.formulas.items in
    let e = YieldsList-end (YieldsList-from_vec {s = c.into_iter-formula-iterator.result} all (search rules) (search rules)) c.loop-formula.yielded c.loop-formula.formula-iterator c.loop-formula.yielded_by c.next.result c.next.new.self c.in-None.is c.next.ensures.steps in
    record { formulas = all; are_read = c.in_ok-formulas.ensures.ok; are_right = right_of_all c.args.budget c.loop-formula.yielded all c.loop-formula.answers.items e.0 c.loop-formula.invariant }
