use Rattle.std.proofs.Common.{ap, arith}
use Rattle.ffc_poly.specs.Ordered.{residues}
use Rattle.ffc_basis.proofs.SplitLemmas.{begins_split}
use Rattle.ffc_basis.proofs.remainder.begun.Goals as goal

pub returns-clause-split : goal.returns-clause-split
returns-clause-split g c =
    begins_split g.F.Field.ORDER g.O.MonoOrder.cmp (residues g.F.Field.value c.new.result.items) c.args.left.0 c.args.poly.now c.len.result
    (ap (residues g.F.Field.value) c.new.ensures.items) c.requires c.len.ensures.value (omega (arith, c.len.ensures.value, c.len.ensures.fits))
