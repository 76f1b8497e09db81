use Rattle.std.proofs.Common.{sym, ap, ◌∙◌, subst}
use Rattle.ffc_smt.specs.TableChecks.{nodes_in_force}
use Rattle.ffc_elab.specs.Histories.{check_now, known_of}
use Rattle.ffc_elab.specs.Contexts.{AreInScope}
use Rattle.ffc_elab.proofs.ContextLemmas.{in_force_in_scope}
use Rattle.ffc_elab.proofs.context.Context.in_force.Goals as goal

pub returns-clause-scope : goal.returns-clause-scope
returns-clause-scope c =
    subst (AreInScope (known_of c.args.self.now)) (sym (c.deref.ensures.value ∙ c.self.invariant.0.in_force ∙ ap (λ forms. nodes_in_force (check_now (known_of forms))) c.self.view_is)) (in_force_in_scope c.args.self.now)
