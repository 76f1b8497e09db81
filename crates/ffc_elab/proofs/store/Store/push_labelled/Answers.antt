use Rattle.std.proofs.Common.{Some, refl, sym, ap, ◌∙◌, subst}
use Rattle.ffc_term.specs.declared.node.Sort.TheVariants as sort
use Rattle.ffc_smt.specs.Scopes.{AsTerm, with_name, with_assertion}
use Rattle.ffc_smt.specs.TableChecks.{node_of}
use Rattle.ffc_elab.specs.Kept.{IsKept}
use Rattle.ffc_elab.specs.Changes.{in_state, with_state}
use Rattle.ffc_elab.proofs.AssertCommand.{an_assertion, label_then_assertion, name_nodes}
use Rattle.ffc_elab.proofs.SameLemmas.{same_keeps}
use Rattle.ffc_elab.proofs.store.Store.push_labelled.Goals as goal

pub returns-in-Ok-clause-ok : goal.returns-in-Ok-clause-ok
returns-in-Ok-clause-ok c = λ k t global known is h.
    let s = k.state in
    let name = c.args.name.now in
    let m = AsTerm sort.Bool t in
    let reserved = same_keeps k c.args.self.now c.reserve_assertion.new.self c.in_ok-reserve_assertion.ensures.same h in
    let named = c.in_ok-push_name.ensures.ok k m global tt (refl, known) reserved in
    let asserted = c.in-Ok.ensures.ok (with_state k (with_name name m s)) t (is ∙ ap (λ ns. node_of ns t) (sym (name_nodes name m s))) named in
    let labelled = subst (λ n. IsKept (in_state (with_assertion (an_assertion (Some n) t) (with_name name m s))) c.push_assertion.new.self) c.in_ok-text.ensures asserted in
    subst (λ v. IsKept (in_state v) c.push_assertion.new.self) (label_then_assertion (an_assertion (Some name) t) name m s) labelled
