use Rattle.std.proofs.Common.{false, sym, subst}
use Rattle.ffc_script.specs.Kept.{IsKept}
use Rattle.ffc_script.proofs.KeptLemmas.{kept_new}
use Rattle.ffc_script.proofs.reader.ScriptReader.new.Goals as goal

pub invariant_of-result : goal.invariant_of-result
invariant_of-result c = subst (λ forms. IsKept c.new.result forms false) (sym c.in_ok-new.ensures) (kept_new c.new.result c.new.ensures)
