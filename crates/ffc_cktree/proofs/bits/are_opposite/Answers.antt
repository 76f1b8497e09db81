use Rattle.std.proofs.Common.{◌∙◌}
use Rattle.ffc_cktree.proofs.BitLemmas.{opposite}
use Rattle.ffc_cktree.proofs.bits.are_opposite.Goals as goal

pub returns-then-residue-ne0 : goal.returns-then-residue-ne0
returns-then-residue-ne0 g c =
    let value = g.F.Field.value in
    opposite g.F.Field.ORDER (value c.args.c) (value c.args.d) c.residue-then-residue-ne0.result (g.met.F.Field.below c.args.c)
    (λ e. c.if-residue-ne0.true (c.residue.ensures.value ∙ e)) (c.residue-then-residue-ne0.ensures.value ∙ c.add.ensures)
