use Rattle.std.proofs.Common.{take}
use Rattle.ffc_refutation.specs.Written.{AreNumbered}
use Rattle.ffc_lemmatree.proofs.tree.have_numbers.Given as goal

abbrev pub invariant-loop-lit : goal.invariant-loop-lit
invariant-loop-lit l = AreNumbered (take l.lit-index l.lits)
