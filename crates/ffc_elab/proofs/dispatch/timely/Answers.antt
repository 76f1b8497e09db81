use Rattle.std.proofs.Common.{inl, sym, ap, ◌∙◌}
use Rattle.ffc_smt.specs.Meaning.{found}
use Rattle.ffc_smt.specs.CommandReading.{limits, readers}
use Rattle.ffc_elab.proofs.dispatch.timely.Goals as goal

pub returns-in-None : goal.returns-in-None
returns-in-None c = inl (c.fault.ensures, λ s. ap (found (readers limits s)) (sym c.bytes.ensures) ∙ c.in-None.ensures.unknown limits s)
