use Rattle.std.proofs.Common.{All, subst, ap, ◌∙◌}
use Rattle.ffc_cdcl.specs.Settled.{IsSettled}
use Rattle.ffc_cdcl.proofs.SettledLemmas.{not_refuted}
use Rattle.ffc_cdcl.proofs.solver.Solver.refute_at_once.Goals as goal

pub returns-in-None-clause-settled : goal.returns-in-None-clause-settled
returns-in-None-clause-settled c = λ _.
    let t = c.settle.new.self.trail in
    let settled = c.in_ok-conflict.ensures.settled c.in-None.is in
    let added = c.as_slice.ensures.value ∙ ap (λ s. s.added) c.self.view_is in
    not_refuted t c.in_ok-conflict.ensures.distinct c.args.self.now.added (subst (All (IsSettled t)) added settled)
