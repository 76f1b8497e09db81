use Rattle.std.proofs.Common.{length, sym, ap, subst, arith}
use Rattle.ffc_poly.specs.Ordered.{sum_of}
use Rattle.ffc_poly.specs.Tails.{AreOrdered}
use Rattle.ffc_poly.proofs.Coefficients.{PassesTerms-length}
use Rattle.ffc_poly.proofs.accumulator.Accumulator.new.Goals as goal

pub invariant_of-result : goal.invariant_of-result
invariant_of-result g c = (
  subst (AreOrdered g.F.Field.ORDER g.O.MonoOrder.cmp 1024) (sym c.new.ensures.items) tt,
  PassesTerms-length _ _ _ (omega (arith, ap (λ k. length (sum_of k)) c.new.ensures.items)),
)
