use Rattle.ffc_poly.specs.declared.poly.TheConstants.{TERM_LIMIT}
use Rattle.ffc_poly.specs.Ordered.{sum_of}
use Rattle.ffc_poly.proofs.Coefficients.{PassesTerms-same}
use Rattle.ffc_poly.proofs.accumulator.Accumulator.lead.Goals as goal

pub invariant_of-self : goal.invariant_of-self
invariant_of-self g c = (
  c.settled_lead.ensures.ordered,
  λ passes. c.self.invariant.1 (PassesTerms-same g.F.Field.ORDER TERM_LIMIT (sum_of c.settled_lead.new.tails.items) (sum_of c.self.inside.tails.items) c.settled_lead.ensures.same passes),
)

pub invariant_of-self-in_default : goal.invariant_of-self-in_default
invariant_of-self-in_default g c = (
  c.settled_lead.ensures.ordered,
  λ passes. c.self.invariant.1 (PassesTerms-same g.F.Field.ORDER TERM_LIMIT (sum_of c.settled_lead.new.tails.items) (sum_of c.self.inside.tails.items) c.settled_lead.ensures.same passes),
)

pub invariant_of-self-2 : goal.invariant_of-self-2
invariant_of-self-2 g c = (
  c.settled_lead.ensures.ordered,
  λ passes. c.self.invariant.1 (PassesTerms-same g.F.Field.ORDER TERM_LIMIT (sum_of c.settled_lead.new.tails.items) (sum_of c.self.inside.tails.items) c.settled_lead.ensures.same passes),
)
