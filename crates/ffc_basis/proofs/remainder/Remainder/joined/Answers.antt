use Rattle.std.proofs.Common.{sym, ap, ◌∙◌, subst, Err}
use Rattle.ffc_ring.specs.Polynomial.{Terms, SamePolynomial, PassesTerms}
use Rattle.ffc_ring.proofs.PolynomialLemmas.{same_sums}
use Rattle.ffc_dense.specs.Tables.{AreMultiplesOf}
use Rattle.ffc_poly.specs.Ordered.{residues}
use Rattle.ffc_basis.specs.Reduction.{AreIrreducible}
use Rattle.ffc_basis.specs.Remainders.{front_of}
use Rattle.ffc_basis.proofs.Lists.{only_memory}
use Rattle.ffc_basis.proofs.SplitLemmas.{front_passes_no_limit, whole_passes_no_limit, joined_irreducible}
use Rattle.ffc_basis.proofs.remainder.Remainder.joined.Goals as goal

pub only_memory-requires : goal.only_memory-requires
only_memory-requires g c =
    let p = g.F.Field.ORDER in
    let front : Terms = front_of g.F.Field.value c.args.self in
    only_memory c.in-Err.stop (λ e. c.in-Err.ensures.no_product (ap (λ stop. Err stop) e))
    (λ e. front_passes_no_limit p g.met.F.Field.prime g.O.MonoOrder.cmp g.met.O.MonoOrder.laws front c.args.self.left.0 c.args.self.most c.requires
    (subst (λ xs. PassesTerms p 131072 (residues g.F.Field.value xs)) c.as_slice.ensures.value (c.in-Err.ensures.terms_over (ap (λ stop. Err stop) e))))

pub only_memory-requires-in-Err-add : goal.only_memory-requires-in-Err-add
only_memory-requires-in-Err-add g c =
    let p = g.F.Field.ORDER in
    let value = g.F.Field.value in
    let front : Terms = front_of value c.args.self in
    let first : SamePolynomial p c.in-Ok.head front = subst (λ xs. SamePolynomial p c.in-Ok.head (residues value xs)) c.as_slice.ensures.value c.in-Ok.ensures.sum in
    only_memory c.in-Err-add.stop (λ e. c.in-Err-add.ensures.no_product (ap (λ stop. Err stop) e))
    (λ e. whole_passes_no_limit p g.met.F.Field.prime g.O.MonoOrder.cmp g.met.O.MonoOrder.laws front c.args.self.left.0 c.in-Ok.head c.in_ok-tail.tail c.args.self.most c.requires
    first c.in_ok-tail.ensures.same (c.in-Err-add.ensures.terms_over (ap (λ stop. Err stop) e)))

pub returns-clause-same : goal.returns-clause-same
returns-clause-same g c = λ m.
    let p = g.F.Field.ORDER in
    let value = g.F.Field.value in
    let front : Terms = front_of value c.args.self in
    let first : SamePolynomial p c.in-Ok.head front = subst (λ xs. SamePolynomial p c.in-Ok.head (residues value xs)) c.as_slice.ensures.value c.in-Ok.ensures.sum in
    c.in-Ok-add.ensures.sum m ∙ same_sums p c.in-Ok.head front c.in_ok-tail.tail c.args.self.left.0 first c.in_ok-tail.ensures.same m

pub returns-clause-first : goal.returns-clause-first
returns-clause-first g c = λ gs reduced.
    let p = g.F.Field.ORDER in
    let value = g.F.Field.value in
    let cmp = g.O.MonoOrder.cmp in
    let front : Terms = front_of value c.args.self in
    let first : SamePolynomial p c.in-Ok.head front = subst (λ xs. SamePolynomial p c.in-Ok.head (residues value xs)) c.as_slice.ensures.value c.in-Ok.ensures.sum in
    subst (AreIrreducible p cmp gs c.in-Ok-add.whole) (sym c.len-place.ensures.value)
    (joined_irreducible p g.met.F.Field.prime cmp g.met.O.MonoOrder.laws 1024 gs front c.args.self.left.0 c.in-Ok.head c.in_ok-tail.tail c.in-Ok-add.whole c.args.self.most c.requires
    first c.in_ok-tail.ensures.same c.in-Ok-add.ensures.sum c.len-place.ensures.ordered c.len.ensures.ordered c.len-2.ensures.ordered reduced)

pub returns-clause-multiples : goal.returns-clause-multiples
returns-clause-multiples g c = λ gs all others. subst (AreMultiplesOf g.F.Field.ORDER gs) (sym c.in_ok-tail.ensures.given) all
