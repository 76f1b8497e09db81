use Rattle.std.proofs.Common.{All, take}
use Rattle.ffc_basis.specs.Dividing.{LeadsNoDivisor}
use Rattle.ffc_line.specs.Lines.{polys_of}
use Rattle.ffc_basis.proofs.dividing.first_divisor.Given as goal

abbrev pub invariant-loop-number : goal.invariant-loop-number
invariant-loop-number g l =
    All (LeadsNoDivisor g.F.Field.ORDER g.O.MonoOrder.cmp (polys_of l.lines) l.m.powers.now) (take l.number-index l.numbers)
