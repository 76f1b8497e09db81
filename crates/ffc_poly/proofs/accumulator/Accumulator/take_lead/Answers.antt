use Rattle.std.proofs.Common.{◌≡◌, ℕ, ◌%◌, [], ◌∷◌, get_or, sym, ap, ◌∙◌}
use Rattle.ffc_ring.specs.Monomial.{Monomial}
use Rattle.ffc_ring.specs.Polynomial.{written}
use Rattle.ffc_poly.specs.declared.poly.TheConstants.{TERM_LIMIT}
use Rattle.ffc_poly.specs.Ordered.{sum_of}
use Rattle.ffc_poly.proofs.Coefficients.{PassesTerms-same}
use Rattle.ffc_poly.proofs.accumulator.Accumulator.take_lead.Goals as goal

pub invariant_of-self : goal.invariant_of-self
invariant_of-self g c = (
  c.settled_lead.ensures.ordered,
  λ passes. c.self.invariant.1 (PassesTerms-same g.F.Field.ORDER TERM_LIMIT (sum_of c.settled_lead.new.tails.items) (sum_of c.self.inside.tails.items) c.settled_lead.ensures.same passes),
)

pub invariant_of-self-in_default : goal.invariant_of-self-in_default
invariant_of-self-in_default g c = (
  c.settled_lead.ensures.ordered,
  λ passes. c.self.invariant.1 (PassesTerms-same g.F.Field.ORDER TERM_LIMIT (sum_of c.settled_lead.new.tails.items) (sum_of c.self.inside.tails.items) c.settled_lead.ensures.same passes),
)

pub invariant_of-self-2 : goal.invariant_of-self-2
invariant_of-self-2 g c = (
  c.drop_lead.ensures.ordered,
  λ passes. c.self.invariant.1
      (PassesTerms-same g.F.Field.ORDER TERM_LIMIT (sum_of c.settled_lead.new.tails.items) (sum_of c.self.inside.tails.items) c.settled_lead.ensures.same (c.drop_lead.ensures.fewer TERM_LIMIT passes)),
)

pub returns-clause-rest : goal.returns-clause-rest
returns-clause-rest g c =
    let p = g.F.Field.ORDER in
    let xs = c.settled_lead.new.tails.items in
    let first : (g.F.Field.value c.in-Some.first.0, c.in-Some.first.1) ≡ get_or (get_or xs c.in-Some.i []) 0 (0, []) = rw c.in-Some.is at c.in_ok-i.ensures.first in
    λ m. ap (λ ts. written ts m % p) (sym c.self.view_is) ∙ sym (c.settled_lead.ensures.same m) ∙ c.drop_lead.ensures.rest m
    ∙ ap (λ (t : ℕ × Monomial). written (t ∷ sum_of c.drop_lead.new.tails.items) m % p) (sym first)
