use Rattle.std.proofs.Common.{length, ◌-◌, drop}
use Rattle.ffc_answer.proofs.ConstantLemmas.{AreListed}
use Rattle.ffc_answer.proofs.constants.give_listed.Given as goal

abbrev pub invariant-loop-i : goal.invariant-loop-i
invariant-loop-i l = AreListed l.table (drop (length l.pairs - l.i) l.pairs) (length l.values) l.values
