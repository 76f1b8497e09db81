use Rattle.std.proofs.Common.{◌≡◌, subst}
use Rattle.ffc_stack.specs.Stacks.{Stack, generators, levels, joined, LeadToLive}
use Rattle.ffc_stack.proofs.StackLemmas.{generators_joined, lead_to_live}
use Rattle.ffc_stack.proofs.stack.BasisStack.lines.Goals as goal

pub returns-clause-generators : goal.returns-clause-generators
returns-clause-generators g c =
    subst (λ (s : Stack g.row.F.Denot g.row.O.Denot). generators s.lines ≡ joined (levels s)) c.self.view_is
    (generators_joined c.self.inside.basis c.self.inside.marks.items c.self.invariant.0 c.self.invariant.1)

pub returns-clause-live : goal.returns-clause-live
returns-clause-live g c =
    subst (λ (s : Stack g.row.F.Denot g.row.O.Denot). LeadToLive s) c.self.view_is
    (lead_to_live g.F.Field.ORDER c.self.inside.basis c.self.inside.marks.items c.lines.ensures.lines
    (generators_joined c.self.inside.basis c.self.inside.marks.items c.self.invariant.0 c.self.invariant.1))
