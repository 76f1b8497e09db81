use Rattle.std.proofs.Common.{arith}
use Rattle.ffc_ckpoly.specs.Sorted.{residues}
use Rattle.ffc_ckpoly.proofs.Lists.{length-residues}
use Rattle.ffc_cktree.proofs.BitLemmas.{not_two}
use Rattle.ffc_cktree.proofs.bits.are_bit.Goals as goal

pub returns-in_default : goal.returns-in_default
returns-in_default g c =
    let value = g.F.Field.value in
    not_two g.F.Field.ORDER c.args.x (residues value c.args.terms.now) (omega (arith, length-residues value c.args.terms.now, c.in_default.len_below))

pub returns-in_default-2 : goal.returns-in_default-2
returns-in_default-2 g c =
    let value = g.F.Field.value in
    not_two g.F.Field.ORDER c.args.x (residues value c.args.terms.now) (omega (arith, length-residues value c.args.terms.now, c.in_default.len_at_least))
