use Rattle.std.proofs.Common.{◌≤◌, ◌+◌, ◌%◌, ◌++◌, [], length, sym, ap, ap₂, ◌∙◌, subst, arith}
use Rattle.ffc_mono.specs.declared.mono.TheConstants.{DEGREE_LIMIT}
use Rattle.ffc_ring.specs.Polynomial.{SamePolynomial, scaled, written}
use Rattle.ffc_poly.specs.declared.poly.TheConstants.{TERM_LIMIT}
use Rattle.ffc_poly.specs.Ordered.{sum_of}
use Rattle.ffc_poly.specs.Tails.{AreOrdered}
use Rattle.ffc_poly.proofs.Clauses.{sum_is_short}
use Rattle.ffc_poly.proofs.Coefficients.{PassesTerms-short, PassesTerms-long}
use Rattle.ffc_poly.proofs.accumulator.Accumulator.put.Goals as goal

pub invariant_of-self-then-is_within : goal.invariant_of-self-then-is_within
invariant_of-self-then-is_within g c =
    let p = g.F.Field.ORDER in
    let k = g.F.Field.value c.args.k in
    let now = c.args.self.now in
    let q = c.args.p.now in
    let room : length now + length q ≤ TERM_LIMIT =
    omega (arith, c.is_within.ensures c.if-is_within.true, ap (λ t. length (sum_of t)) c.as_slice.ensures.value, ap length c.self.view_is, c.len.ensures.value, c.len.ensures.fits) in
    let same : SamePolynomial p (sum_of c.append_multiple.new.tails.items) (now ++ scaled k q) =
    λ m. c.in_ok-append_multiple.ensures.same m ∙ ap₂ (λ x y. written (x ++ scaled k y) m % p) c.self.view_is c.listed-terms.ensures.value in
    (c.append_multiple.ensures.ordered, sum_is_short p TERM_LIMIT k [] now q (sum_of c.append_multiple.new.tails.items) room same)

pub returns-then-is_within-clause-fits : goal.returns-then-is_within-clause-fits
returns-then-is_within-clause-fits g c =
    let now = c.args.self.now in
    let q = c.args.p.now in
    let room : length now + length q ≤ TERM_LIMIT =
    omega (arith, c.is_within.ensures c.if-is_within.true, ap (λ t. length (sum_of t)) c.as_slice.ensures.value, ap length c.self.view_is, c.len.ensures.value, c.len.ensures.fits) in
    λ all same. sum_is_short g.F.Field.ORDER TERM_LIMIT (g.F.Field.value c.args.k) [] now q all room (λ m. sym (same m))

pub returns-then-len-gt-TERM_LIMIT-clause-over : goal.returns-then-len-gt-TERM_LIMIT-clause-over
returns-then-len-gt-TERM_LIMIT-clause-over g c =
    let p = g.F.Field.ORDER in
    let k = g.F.Field.value c.args.k in
    let sums = ap sum_of c.as_slice-2.ensures.value ∙ c.self.view_is in
    let same : SamePolynomial p c.in_ok-whole.whole (c.args.self.now ++ scaled k c.args.p.now) =
    λ m. c.in_ok-whole.ensures.same m ∙ ap₂ (λ x y. written (x ++ scaled k y) m % p) sums c.listed-terms.ensures.value in
    λ _ all e. PassesTerms-long p g.O.MonoOrder.cmp g.met.O.MonoOrder.laws DEGREE_LIMIT TERM_LIMIT c.in_ok-whole.whole all c.in_ok-whole.ensures.ordered (λ m. same m ∙ e m)
    (omega (arith, c.len-2.ensures, c.if-len-gt-TERM_LIMIT.true))

pub invariant_of-self-2 : goal.invariant_of-self-2
invariant_of-self-2 g c =
    let p = g.F.Field.ORDER in
    let cmp = g.O.MonoOrder.cmp in
    let single = c.in_ok-self-inside.ensures in (
      subst (AreOrdered p cmp DEGREE_LIMIT) (sym single.items) (c.in_ok-whole.ensures.ordered, tt),
      PassesTerms-short p cmp g.met.O.MonoOrder.laws DEGREE_LIMIT TERM_LIMIT c.in_ok-whole.whole (sum_of c.in_ok-self-inside.field-0.items) (λ m. ap (λ t. written t m % p) (sym single.sum))
          (omega (arith, c.len-2.ensures, c.if-len-gt-TERM_LIMIT.false)),
    )

pub returns-clause-fits : goal.returns-clause-fits
returns-clause-fits g c =
    let p = g.F.Field.ORDER in
    let k = g.F.Field.value c.args.k in
    let sums = ap sum_of c.as_slice-2.ensures.value ∙ c.self.view_is in
    let same : SamePolynomial p c.in_ok-whole.whole (c.args.self.now ++ scaled k c.args.p.now) =
    λ m. c.in_ok-whole.ensures.same m ∙ ap₂ (λ x y. written (x ++ scaled k y) m % p) sums c.listed-terms.ensures.value in
    λ all e. PassesTerms-short p g.O.MonoOrder.cmp g.met.O.MonoOrder.laws DEGREE_LIMIT TERM_LIMIT c.in_ok-whole.whole all (λ m. same m ∙ e m)
    (omega (arith, c.len-2.ensures, c.if-len-gt-TERM_LIMIT.false))
