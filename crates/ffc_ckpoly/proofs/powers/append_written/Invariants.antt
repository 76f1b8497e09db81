use Rattle.std.proofs.Common.{◌≡◌, ◌++◌, take}
use Rattle.ffc_ckpoly.proofs.powers.append_written.Given as goal

abbrev pub invariant-loop-power : goal.invariant-loop-power
invariant-loop-power l = l.out.items ≡ l.fn.out.items ++ take l.power-index l.m
