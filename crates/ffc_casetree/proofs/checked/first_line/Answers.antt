use Rattle.std.proofs.Common.{◌≡◌, ◌++◌, sym, ap, ◌∙◌, subst, arith}
use Rattle.ffc_ring.specs.Polynomial.{AreTerms}
use Rattle.ffc_ckpoly.specs.Flat.{as_written}
use Rattle.ffc_casetree.proofs.LineLemmas.{written_whole, term_written, ordered_terms, same_line, low_line}
use Rattle.ffc_casetree.proofs.checked.first_line.Goals as goal

pub loop-i-preserved : goal.loop-i-preserved
loop-i-preserved g c =
    term_written g.F.Field.value (λ v. v.items) c.loop-i.terms.items c.push.new.self.items c.term-c.result.0 c.extend_from_slice.new.self c.args.poly.now c.loop-i.i
    (omega (arith, c.loop-i-test.true, c.len-i-end.ensures.value)) c.in_ok-push.ensures.items c.loop-i.invariant c.term-c.ensures.coefficient
    (c.in_ok-extend_from_slice.ensures.items ∙ (ap (λ xs. xs ++ c.pairs.result.now) c.new-powers.ensures.items ∙ (c.pairs.ensures.value ∙ c.term-c.ensures.monomial)))

pub from_terms-requires : goal.from_terms-requires
from_terms-requires g c =
    let poly = c.args.poly.now in
    let whole : as_written g.F.Field.value c.deref.result.now (λ v. v.items) ≡ poly =
    written_whole g.F.Field.value (λ v. v.items) c.deref.result.now c.loop-i.terms.items poly c.loop-i.i c.deref.ensures.value c.loop-i.invariant
    (omega (arith, c.loop-i-test.false, c.loop-i.auto.i-end, c.len-i-end.ensures.value)) in
    subst AreTerms (sym whole) (ordered_terms g.F.Field.ORDER g.O.MonoOrder.cmp 1024 poly c.len-i-end.ensures.ordered)

pub returns-clause-same : goal.returns-clause-same
returns-clause-same g c =
    let poly = c.args.poly.now in
    let whole : as_written g.F.Field.value c.deref.result.now (λ v. v.items) ≡ poly =
    written_whole g.F.Field.value (λ v. v.items) c.deref.result.now c.loop-i.terms.items poly c.loop-i.i c.deref.ensures.value c.loop-i.invariant
    (omega (arith, c.loop-i-test.false, c.loop-i.auto.i-end, c.len-i-end.ensures.value)) in
    same_line g.F.Field.ORDER g.O.MonoOrder.cmp g.met.O.MonoOrder.laws 1024 c.in_ok-line.line poly (as_written g.F.Field.value c.deref.result.now (λ v. v.items))
    c.len-i-end.ensures.ordered whole c.in_ok-line.ensures.sum c.in_ok-line.ensures.normal

pub returns-clause-low : goal.returns-clause-low
returns-clause-low g c =
    low_line g.F.Field.ORDER g.O.MonoOrder.cmp 1024 c.in_ok-line.line c.args.poly.now (omega (arith, g.met.F.Field.prime.least))
    c.len-i-end.ensures.ordered (returns-clause-same g c)
