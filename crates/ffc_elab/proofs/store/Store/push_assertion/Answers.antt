use Rattle.std.proofs.Common.{◌≡◌, ◌≤◌, ◌-◌, ◌^◌, ◌∷◌, [], ◌++◌, length, take, ap, subst, ◌∙◌, arith}
use Rattle.ffc_elab.specs.Changes.{LastIsMore}
use Rattle.ffc_elab.proofs.AssertionLemmas.{assertion_kept}
use Rattle.ffc_elab.proofs.store.Store.push_assertion.Goals as goal

pub returns-clause-ok : goal.returns-clause-ok
returns-clause-ok c = λ k t is h.
    let x = c.args.self.now in
    let count : c.saturating_sub-count.result ≡ length x.in_force.items - x.assumed = c.saturating_sub-count.ensures ∙ ap (λ n. n - x.assumed) (c.len.ensures ∙ x.in_force.ok.0) in
    let forced = c.in_ok-put_after.ensures.nodes ∙ ap (λ n. take n x.in_force.items ++ c.args.node ∷ []) count in
    let names = c.in_ok-put_after.ensures.names ∙ ap (λ n. take n x.names.items ++ c.args.name ∷ []) count in
    let room : length c.put_after.new.nodes.items ≤ 2 ^ 64 - 1 = omega (arith, c.len-count.ensures, c.len-count.type_inv, c.put_after.new.nodes.ok.0) in
    let marks : LastIsMore (record { names = 0; sorts = 0; declared = 0; asserted = 1 }) x.marks.items c.count_more.new.marks.items = subst (λ m. LastIsMore m x.marks.items c.count_more.new.marks.items) c.of_assertion.ensures c.count_more.ensures in
    assertion_kept k t c.args.name x h c.args.node is c.put_after.new.nodes c.put_after.new.names c.count_more.new.marks forced names room marks
