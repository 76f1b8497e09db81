use Rattle.std.proofs.Common.{map, sym, ap, ◌∙◌}
use Rattle.ffc_cktree.proofs.RowLemmas.{differ_here, agree_here}
use Rattle.ffc_cktree.proofs.rows.are_same.Goals as goal

pub returns-then-residue : goal.returns-then-residue
returns-then-residue g c =
    let value = g.F.Field.value in
    let at = c.in-Some-Some in
    differ_here g.F.Field.ORDER _ _ _ _ (value at.x.now) (value at.y.now) (ap (map value) at.ensures.cases.0) (ap (map value) at.ensures'.cases.0)
    (g.met.F.Field.below at.x.now) (g.met.F.Field.below at.y.now) _ (λ e. c.if-residue.true (c.residue.ensures.value ∙ e ∙ sym c.residue-in-Some-Some.ensures.value)) c.loop-x.invariant

pub loop-x-preserved : goal.loop-x-preserved
loop-x-preserved g c =
    let value = g.F.Field.value in
    let at = c.in-Some-Some in
    agree_here g.F.Field.ORDER _ _ _ _ (value at.x.now) (value at.y.now) (ap (map value) at.ensures.cases.0) (ap (map value) at.ensures'.cases.0)
    (g.met.F.Field.below at.x.now) (g.met.F.Field.below at.y.now) _ (sym c.residue.ensures.value ∙ c.if-residue.false ∙ c.residue-in-Some-Some.ensures.value) c.loop-x.invariant
