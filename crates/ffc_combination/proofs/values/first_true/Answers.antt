use Rattle.std.proofs.Common.{◌≡◌, false, All, sym, ◌∙◌, subst}
use Rattle.std.proofs.lemmas.List.{take_all}
use Rattle.std.proofs.lemmas.List.Elements.{All-more}
use Rattle.ffc_clause.specs.Clauses.{Literal}
use Rattle.ffc_combination.specs.Values.{truth_by}
use Rattle.ffc_combination.proofs.values.first_true.Goals as goal

pub loop-place-preserved : goal.loop-place-preserved
loop-place-preserved c =
    All-more (λ (l : Literal). truth_by c.args.values.now l ≡ false) c.args.literals.now c.loop-place.place (false, 0) c.loop-place-test.true c.loop-place.invariant (sym c.is_true.ensures ∙ c.if-is_true.false)

pub returns-clause-none : goal.returns-clause-none
returns-clause-none c _ =
    subst (All (λ (l : Literal). truth_by c.args.values.now l ≡ false)) (take_all c.loop-place.place c.args.literals.now c.loop-place-test.false) c.loop-place.invariant
