use Rattle.ffc_basis.proofs.DivisorLemmas.{lines_within}
use Rattle.ffc_basis.proofs.represented.is_represented_by_divisor.Goals as goal

pub is_represented_by_any-requires-clause-thirds : goal.is_represented_by_any-requires-clause-thirds
is_represented_by_any-requires-clause-thirds g c =
    lines_within g.F.Field.ORDER g.O.MonoOrder.cmp g.met.O.MonoOrder.laws c.args.lines.now c.args.index.now c.begun_by.result.now _ c.requires.index c.begun_by.ensures
