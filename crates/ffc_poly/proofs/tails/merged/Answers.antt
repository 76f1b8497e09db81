use Rattle.std.proofs.Common.{◌≡◌, ◌∷◌, ◌++◌, [], ◌%◌, refl, sym, ap, ◌∙◌, subst, arith, append_assoc, append-nil}
use Rattle.ffc_mono.specs.declared.mono.TheConstants.{DEGREE_LIMIT}
use Rattle.ffc_ring.specs.Polynomial.{SamePolynomial, scaled, written}
use Rattle.ffc_ring.proofs.PolynomialLemmas.{same_sums}
use Rattle.ffc_poly.specs.Ordered.{sum_of, IsOrdered}
use Rattle.ffc_poly.specs.Tails.{AreOrdered}
use Rattle.ffc_poly.proofs.Clauses.{sum_by_one}
use Rattle.ffc_poly.proofs.TailLemmas.{AreOrdered-split}
use Rattle.ffc_poly.proofs.TermLemmas.{sum_of-append}
use Rattle.ffc_poly.proofs.tails.merged.Goals as goal

pub add_scaled_from-requires-clause-a_is : goal.add_scaled_from-requires-clause-a_is
add_scaled_from-requires-clause-a_is g c =
    let p = g.F.Field.ORDER in
    let cmp = g.O.MonoOrder.cmp in
    subst (IsOrdered p cmp DEGREE_LIMIT) (sym c.last.view_is)
    (AreOrdered-split p cmp DEGREE_LIMIT c.in-Some.rest.now c.in-Some.last.now (subst (AreOrdered p cmp DEGREE_LIMIT) c.in-Some.ensures.cases.0 c.loop-last.invariant.left_is)).1

pub loop-last-preserved : goal.loop-last-preserved
loop-last-preserved g c =
    let value = g.F.Field.value in
    let p = g.F.Field.ORDER in
    let cmp = g.O.MonoOrder.cmp in
    let rest = c.in-Some.rest.now in
    let last = c.in-Some.last.now in
    let left : c.loop-last.left.now ≡ rest ++ last ∷ [] = c.in-Some.ensures.cases.0 in
    let both : SamePolynomial p c.in_ok-whole.whole (last ++ c.loop-last.whole) =
    λ m. c.in_ok-whole.ensures.same m ∙ ap (λ x. written (x ++ scaled (value c.of.result) c.loop-last.whole) m % p) c.last.view_is
    ∙ sum_by_one p (value c.of.result) last c.loop-last.whole (omega (arith, g.met.F.Field.prime.least)) c.of.ensures m in
    let sums : sum_of rest ++ (last ++ c.loop-last.whole) ≡ sum_of c.loop-last.left.now ++ c.loop-last.whole =
    sym (append_assoc (sum_of rest) last c.loop-last.whole)
    ∙ ap (λ k. k ++ c.loop-last.whole) (sym (ap sum_of left ∙ sum_of-append rest (last ∷ []) ∙ ap (λ k. sum_of rest ++ k) (append-nil last))) in
    record {
      left_is = (AreOrdered-split p cmp DEGREE_LIMIT rest last (subst (AreOrdered p cmp DEGREE_LIMIT) left c.loop-last.invariant.left_is)).0;
      whole_is = c.in_ok-whole.ensures.ordered;
      same = λ m.
          same_sums p (sum_of rest) (sum_of rest) c.in_ok-whole.whole (last ++ c.loop-last.whole) (λ n. refl) both m
          ∙ ap (λ k. written k m % p) sums ∙ c.loop-last.invariant.same m;
    }
