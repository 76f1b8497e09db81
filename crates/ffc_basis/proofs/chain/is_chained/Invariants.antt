use Rattle.std.proofs.Common.{[], get_or}
use Rattle.ffc_basis.specs.Chains.{IsTop}
use Rattle.ffc_line.specs.Lines.{polys_of}
use Rattle.ffc_basis.proofs.chain.is_chained.Given as goal

abbrev pub invariant-loop-third : goal.invariant-loop-third
invariant-loop-third g l =
    IsTop g.F.Field.ORDER g.O.MonoOrder.cmp (get_or (polys_of l.lines) l.i []) (get_or (polys_of l.lines) l.j []) l.top
