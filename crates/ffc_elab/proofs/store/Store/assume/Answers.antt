use Rattle.std.proofs.Common.{◌≡◌, ◌-◌, ◌++◌, length, take, map, None, ap, ◌∙◌}
use Rattle.ffc_elab.proofs.AssumingLemmas.{assumed_kept}
use Rattle.ffc_elab.proofs.store.Store.assume.Goals as goal

pub returns-clause-ok : goal.returns-clause-ok
returns-clause-ok c = λ k terms is h.
    let x = c.args.self.now in
    let asked = c.args.asked.now in
    let count : c.saturating_sub-count.result ≡ length x.in_force.items - x.assumed = c.saturating_sub-count.ensures ∙ ap (λ n. n - x.assumed) (c.len.ensures ∙ x.in_force.ok.0) in
    assumed_kept k terms asked x h is c.put_unnamed_after.new.nodes c.put_unnamed_after.new.names
    (c.in_ok-put_unnamed_after.ensures.nodes ∙ ap (λ n. take n x.in_force.items ++ map (λ a. a.node) asked) count)
    (c.in_ok-put_unnamed_after.ensures.names ∙ ap (λ n. take n x.names.items ++ map (λ _. None) asked) count)
