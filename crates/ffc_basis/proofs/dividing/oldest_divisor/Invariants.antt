use Rattle.std.proofs.Common.{◌≡◌, ℕ, ◌<◌, All, None, get_or, IfSome, IfNone}
use Rattle.ffc_basis.specs.Dividing.{LeadsDivisor, LeadsNoDivisor}
use Rattle.ffc_basis.specs.Indexing.{listed}
use Rattle.ffc_line.specs.Lines.{polys_of}
use Rattle.ffc_basis.proofs.dividing.oldest_divisor.Given as goal

abbrev pub invariant-loop-power : goal.invariant-loop-power
invariant-loop-power g l = record {
  some : IfSome l.oldest (LeadsDivisor g.F.Field.ORDER g.O.MonoOrder.cmp (polys_of l.lines) l.m.powers.now);
  none : IfNone l.oldest ((l.index.constant ≡ None) × ((k : ℕ) → k < l.power-index
      → All (LeadsNoDivisor g.F.Field.ORDER g.O.MonoOrder.cmp (polys_of l.lines) l.m.powers.now) (listed l.index.by_first (get_or l.power-items k (0, 0)).0)));
}
