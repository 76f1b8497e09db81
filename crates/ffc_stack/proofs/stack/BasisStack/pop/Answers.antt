use Rattle.std.proofs.Common.{[], ◌∷◌, ◌++◌, length, drop, sym, ap, ◌∙◌, subst}
use Rattle.ffc_stack.specs.Stacks.{generators, AreMarks, HaveNoneBelow, levels_from, levels}
use Rattle.ffc_stack.proofs.StackLemmas.{popped_within, popped_invariant, popped_levels}
use Rattle.ffc_stack.proofs.stack.BasisStack.pop.Goals as goal

pub cut-requires : goal.cut-requires
cut-requires g c =
    popped_within c.self.inside.basis c.self.inside.marks.items c.pop.new.self.items c.in-Some.count c.in-Some.ensures.items c.self.invariant.0

pub invariant_of-self : goal.invariant_of-self
invariant_of-self g c =
    let ns = c.pop.new.self.items in
    subst (λ ls. AreMarks 0 (length ls) ns × HaveNoneBelow ls ns) (sym c.cut.ensures)
    (popped_invariant c.self.inside.basis c.self.inside.marks.items ns c.in-Some.count c.in-Some.ensures.items c.self.invariant)

pub returns-in-Some-clause-level : goal.returns-in-Some-clause-level
returns-in-Some-clause-level g c =
    let ns = c.pop.new.self.items in
    let last = generators (drop c.in-Some.count c.self.inside.basis) in (
      last,
      ap levels (sym c.self.view_is)
          ∙ popped_levels c.self.inside.basis c.self.inside.marks.items ns c.in-Some.count c.in-Some.ensures.items c.self.invariant.0
          ∙ ap (λ ls. levels_from ls ns ++ last ∷ []) (sym c.cut.ensures),
    )
