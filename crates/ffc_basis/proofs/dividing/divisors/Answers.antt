use Rattle.ffc_basis.proofs.DivisorLemmas.{lines_within}
use Rattle.ffc_basis.proofs.dividing.divisors.Goals as goal

pub append_divisors-requires-clause-numbers : goal.append_divisors-requires-clause-numbers
append_divisors-requires-clause-numbers g c =
    lines_within g.F.Field.ORDER g.O.MonoOrder.cmp g.met.O.MonoOrder.laws c.args.lines.now c.args.index.now c.begun_by.result.now _ c.requires c.begun_by.ensures
