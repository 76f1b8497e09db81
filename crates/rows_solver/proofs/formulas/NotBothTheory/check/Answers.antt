use Rattle.std.proofs.Common.{◌∷◌, [], false, Contains, All, ap₂, ◌∙◌, refl, subst, sym}
use Rattle.std.proofs.lemmas.List.Elements.{All-cons, All-nil}
use Rattle.ffc_clause.specs.Clauses.{Literal, negated}
use Rattle.rows_solver.proofs.formulas.NotBothTheory.check.Goals as goal

pub returns-clause-refuted : goal.returns-clause-refuted
returns-clause-refuted c =
    let trail = c.args.trail.now in
    let zero = subst (Contains trail) c.plus.ensures (c.if-not-has.ensures refl) in
    let one = subst (Contains trail) c.plus-else-not-has.ensures (c.if-not-has-2.ensures refl) in
    let clause = c.in_ok-lemma.ensures ∙ ap₂ (λ (a b : Literal). a ∷ b ∷ []) c.minus.ensures c.minus-2.ensures in
    let False = λ (l : Literal). Contains trail (negated l) in
    subst (All False) (sym clause) (All-cons False (false, 0) ((false, 1) ∷ []) zero (All-cons False (false, 1) [] one (All-nil False)))
