use Rattle.std.proofs.Common.{◌≡◌, ◌-◌, ◌%◌, ◌++◌, length, take, set, sym, ap, ap₂, ◌∙◌, subst, arith}
use Rattle.ffc_mono.specs.declared.mono.TheConstants.{DEGREE_LIMIT}
use Rattle.ffc_ring.specs.Polynomial.{SamePolynomial, scaled, written}
use Rattle.ffc_poly.specs.Ordered.{sum_of, IsOrdered}
use Rattle.ffc_poly.specs.Tails.{AreOrdered}
use Rattle.ffc_poly.proofs.Clauses.{sum_by_one}
use Rattle.ffc_poly.proofs.TailLemmas.{ordered_item, AreOrdered-set, AreOrdered-take, merged_last}
use Rattle.ffc_poly.proofs.tails.merge_last.Goals as goal

pub add_scaled_from-requires-clause-a_is : goal.add_scaled_from-requires-clause-a_is
add_scaled_from-requires-clause-a_is g c =
    let p = g.F.Field.ORDER in
    let cmp = g.O.MonoOrder.cmp in
    let n = c.len-count.result in
    subst (IsOrdered p cmp DEGREE_LIMIT) (sym c.a.view_is)
    (ordered_item p cmp DEGREE_LIMIT c.args.tails.now.items (n - 2) c.index-a.result.now c.requires (omega (arith, c.len-count.ensures, c.args.tails.now.ok, c.if-count-lt2.false)) c.index-a.ensures)

pub add_scaled_from-requires-clause-b_is : goal.add_scaled_from-requires-clause-b_is
add_scaled_from-requires-clause-b_is g c =
    let p = g.F.Field.ORDER in
    let cmp = g.O.MonoOrder.cmp in
    let n = c.len-count.result in
    subst (IsOrdered p cmp DEGREE_LIMIT) (sym c.b.view_is)
    (ordered_item p cmp DEGREE_LIMIT c.args.tails.now.items (n - 1) c.index-b.result.now c.requires (omega (arith, c.len-count.ensures, c.args.tails.now.ok, c.if-count-lt2.false)) c.index-b.ensures)

pub returns-clause-ordered : goal.returns-clause-ordered
returns-clause-ordered g c =
    let p = g.F.Field.ORDER in
    let cmp = g.O.MonoOrder.cmp in
    let xs = c.args.tails.now.items in
    let n = c.len-count.result in
    AreOrdered-set p cmp DEGREE_LIMIT c.pop.new.self.items (n - 2) c.new.result
    (subst (AreOrdered p cmp DEGREE_LIMIT) (sym (c.pop.ensures.rest ∙ ap (λ k. take (k - 1) xs) (sym c.len-count.ensures))) (AreOrdered-take p cmp DEGREE_LIMIT (n - 1) xs c.requires))
    (subst (IsOrdered p cmp DEGREE_LIMIT) (sym c.new.ensures) c.in-Ok.ensures.ordered)

pub returns-clause-same : goal.returns-clause-same
returns-clause-same g c =
    let p = g.F.Field.ORDER in
    let xs = c.args.tails.now.items in
    let n = c.len-count.result in
    let size : n ≡ length xs = omega (arith, c.len-count.ensures, c.args.tails.now.ok) in
    let one = g.F.Field.value c.of.result in
    let a = c.index-a.result.now in
    let b = c.index-b.result.now in
    let both : SamePolynomial p c.in-Ok.merged (a ++ b) =
    λ m. c.in-Ok.ensures.same m ∙ ap₂ (λ x y. written (x ++ scaled one y) m % p) c.a.view_is c.b.view_is ∙ sum_by_one p one a b (omega (arith, g.met.F.Field.prime.least)) c.of.ensures m in
    let rest : c.pop.new.self.items ≡ take (n - 1) xs = c.pop.ensures.rest ∙ ap (λ k. take (k - 1) xs) (sym c.len-count.ensures) in
    λ m. ap₂ (λ x y. written (sum_of (set x (n - 2) y)) m % p) rest c.new.ensures
    ∙ merged_last p (omega (arith, g.met.F.Field.prime.least)) xs n a b c.in-Ok.merged (sym size) (omega (arith, c.if-count-lt2.false)) c.index-a.ensures c.index-b.ensures both m
