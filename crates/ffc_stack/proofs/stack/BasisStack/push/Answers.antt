use Rattle.std.proofs.Common.{sym, ap, ◌∙◌, subst}
use Rattle.ffc_stack.specs.Stacks.{Stack, stack_of, levels, IsBegun}
use Rattle.ffc_stack.proofs.StackLemmas.{front_invariant, front_levels, front_pushed, front_completed}
use Rattle.ffc_stack.proofs.stack.BasisStack.push.Goals as goal

pub invariant_of-self : goal.invariant_of-self
invariant_of-self g c =
    front_invariant g.F.Field.ORDER g.O.MonoOrder.cmp c.self.inside.basis c.complete.new.self c.self.inside.marks.items c.complete.ensures.stays c.self.invariant

pub invariant_of-self-in-Err : goal.invariant_of-self-in-Err
invariant_of-self-in-Err g c =
    front_invariant g.F.Field.ORDER g.O.MonoOrder.cmp c.self.inside.basis c.complete.new.self c.self.inside.marks.items c.complete.ensures.stays c.self.invariant

pub returns-in-Ok-clause-pushed : goal.returns-in-Ok-clause-pushed
returns-in-Ok-clause-pushed g c =
    let inside = c.self.inside in
    let old : Stack g.row.F.Denot g.row.O.Denot = c.args.self.now in
    let begun : IsBegun old (stack_of inside.basis inside.marks.items) c.args.gens.now =
    subst (λ (s : Stack g.row.F.Denot g.row.O.Denot). IsBegun old s c.args.gens.now) (sym c.self.view_is) c.in_ok-begin.ensures.begun in
    front_pushed g.F.Field.ORDER g.O.MonoOrder.cmp old inside.basis c.complete.new.self inside.marks.items c.args.gens.now begun c.complete.ensures.stays

pub returns-in-Ok-clause-level : goal.returns-in-Ok-clause-level
returns-in-Ok-clause-level g c =
    front_levels g.F.Field.ORDER g.O.MonoOrder.cmp c.self.inside.basis c.complete.new.self c.self.inside.marks.items c.complete.ensures.stays c.self.invariant.0
    ∙ ap levels c.self.view_is ∙ c.in_ok-begin.ensures.level

pub returns-in-Ok-clause-added : goal.returns-in-Ok-clause-added
returns-in-Ok-clause-added g c =
    let inside = c.self.inside in
    let old : Stack g.row.F.Denot g.row.O.Denot = c.args.self.now in
    let begun : IsBegun old (stack_of inside.basis inside.marks.items) c.args.gens.now =
    subst (λ (s : Stack g.row.F.Denot g.row.O.Denot). IsBegun old s c.args.gens.now) (sym c.self.view_is) c.in_ok-begin.ensures.begun in
    front_completed g.F.Field.ORDER g.O.MonoOrder.cmp old inside.basis c.complete.new.self inside.marks.items c.args.gens.now begun c.complete.ensures.stays

pub returns-in-Err-clause-stopped : goal.returns-in-Err-clause-stopped
returns-in-Err-clause-stopped g c = λ spent.
    let p = g.F.Field.ORDER in
    let cmp = g.O.MonoOrder.cmp in
    let inside = c.self.inside in
    let old : Stack g.row.F.Denot g.row.O.Denot = c.args.self.now in
    let begun : IsBegun old (stack_of inside.basis inside.marks.items) c.args.gens.now =
    subst (λ (s : Stack g.row.F.Denot g.row.O.Denot). IsBegun old s c.args.gens.now) (sym c.self.view_is) c.in_ok-begin.ensures.begun in (
      stack_of c.complete.new.self inside.marks.items,
      front_completed p cmp old inside.basis c.complete.new.self inside.marks.items c.args.gens.now begun c.complete.ensures.stays,
      c.in-Err.ensures.bound (λ memory. absurd (cc (sym spent ∙ memory))),
    )
