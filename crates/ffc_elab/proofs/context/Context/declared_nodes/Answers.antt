use Rattle.std.proofs.Common.{sym, ap, ◌∙◌, subst}
use Rattle.std.specs.List.Sorted.{IsStrictlyIncreasing}
use Rattle.ffc_smt.specs.TableChecks.{declared_nodes}
use Rattle.ffc_elab.specs.Histories.{check_now, known_of}
use Rattle.ffc_elab.proofs.ContextLemmas.{declared_increase}
use Rattle.ffc_elab.proofs.context.Context.declared_nodes.Goals as goal

pub returns-clause-increasing : goal.returns-clause-increasing
returns-clause-increasing c =
    subst IsStrictlyIncreasing (sym (c.deref.ensures.value ∙ c.self.invariant.0.declared_nodes ∙ ap (λ forms. declared_nodes (check_now (known_of forms))) c.self.view_is)) (declared_increase c.args.self.now)
