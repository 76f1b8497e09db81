use Rattle.std.proofs.Common.{◌≡◌, [], ◌∷◌, ◌++◌, length, ap, ◌∙◌}
use Rattle.ffc_stack.specs.Stacks.{levels}
use Rattle.ffc_stack.proofs.StackLemmas.{begun_invariant, begun_levels}
use Rattle.ffc_stack.proofs.stack.BasisStack.begin.Goals as goal

pub invariant_of-self-in-Ok : goal.invariant_of-self-in-Ok
invariant_of-self-in-Ok g c =
    let inside = c.self.inside in
    let marks : c.push.new.self.items ≡ inside.marks.items ++ length inside.basis ∷ [] =
    c.in_ok-push.ensures.items ∙ ap (λ n. inside.marks.items ++ n ∷ []) (ap length c.lines-count.ensures.value) in
    begun_invariant inside.basis c.add.new.self inside.marks.items c.push.new.self.items c.args.gens.now marks c.in-Ok.ensures.added c.self.invariant

pub returns-in-Ok-clause-level : goal.returns-in-Ok-clause-level
returns-in-Ok-clause-level g c =
    let inside = c.self.inside in
    let marks : c.push.new.self.items ≡ inside.marks.items ++ length inside.basis ∷ [] =
    c.in_ok-push.ensures.items ∙ ap (λ n. inside.marks.items ++ n ∷ []) (ap length c.lines-count.ensures.value) in
    begun_levels inside.basis c.add.new.self inside.marks.items c.push.new.self.items c.args.gens.now marks c.in-Ok.ensures.added c.self.invariant.0
    ∙ ap (λ s. levels s ++ c.args.gens.now ∷ []) c.self.view_is
