use Rattle.std.proofs.Common.{sym, ap, ◌∙◌, subst}
use Rattle.ffc_basis.specs.Completed.{IsFront}
use Rattle.ffc_stack.specs.Stacks.{Stack, stack_of, levels, GoesOn}
use Rattle.ffc_stack.proofs.StackLemmas.{front_invariant, front_levels, front_goes_on}
use Rattle.ffc_stack.proofs.stack.BasisStack.go_on.Goals as goal

pub invariant_of-self : goal.invariant_of-self
invariant_of-self g c =
    front_invariant g.F.Field.ORDER g.O.MonoOrder.cmp c.self.inside.basis c.complete_within.new.self c.self.inside.marks.items c.complete_within.ensures.stays c.self.invariant

pub returns-in-Ok-clause-stays : goal.returns-in-Ok-clause-stays
returns-in-Ok-clause-stays g c =
    let inside = c.self.inside in
    subst (λ (s : Stack g.row.F.Denot g.row.O.Denot). GoesOn s (stack_of c.complete_within.new.self inside.marks.items)) c.self.view_is
    (front_goes_on g.F.Field.ORDER g.O.MonoOrder.cmp inside.basis c.complete_within.new.self inside.marks.items c.complete_within.ensures.stays)

pub returns-in-Ok-clause-level : goal.returns-in-Ok-clause-level
returns-in-Ok-clause-level g c =
    front_levels g.F.Field.ORDER g.O.MonoOrder.cmp c.self.inside.basis c.complete_within.new.self c.self.inside.marks.items c.complete_within.ensures.stays c.self.invariant.0
    ∙ ap levels c.self.view_is

pub returns-in-Ok-clause-added : goal.returns-in-Ok-clause-added
returns-in-Ok-clause-added g c =
    subst (λ (s : Stack g.row.F.Denot g.row.O.Denot). IsFront g.F.Field.ORDER g.O.MonoOrder.cmp s.lines c.complete_within.new.self) c.self.view_is c.complete_within.ensures.stays

pub returns-in-Err-clause-stopped : goal.returns-in-Err-clause-stopped
returns-in-Err-clause-stopped g c = λ spent. (
  c.complete_within.new.self,
  subst (λ (s : Stack g.row.F.Denot g.row.O.Denot). IsFront g.F.Field.ORDER g.O.MonoOrder.cmp s.lines c.complete_within.new.self) c.self.view_is c.complete_within.ensures.stays,
  c.in-Err.ensures.bound (λ memory. absurd (cc (sym spent ∙ memory))),
)
