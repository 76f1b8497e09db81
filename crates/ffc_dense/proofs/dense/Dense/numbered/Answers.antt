use Rattle.std.proofs.Common.{◌≡◌, ◌<◌, ◌+◌, length, take, sym, ◌∙◌, subst, arith}
use Rattle.ffc_dense.specs.Columns.{AreNumbers, terms_of}
use Rattle.ffc_dense.proofs.DenseLemmas.{grows_on, numbered_more}
use Rattle.ffc_dense.proofs.dense.Dense.numbered.Goals as goal

pub returns-in_err-number-clause-grows : goal.returns-in_err-number-clause-grows
returns-in_err-number-clause-grows g c = grows_on g.F.Field.ORDER c.args.self.now c.loop-place.self c.number.new.self c.loop-place.invariant.3 c.number.ensures.grows

pub returns-in_err-push-clause-grows : goal.returns-in_err-push-clause-grows
returns-in_err-push-clause-grows g c = grows_on g.F.Field.ORDER c.args.self.now c.loop-place.self c.number.new.self c.loop-place.invariant.3 c.number.ensures.grows

pub loop-place-preserved : goal.loop-place-preserved
loop-place-preserved g c =
    let i = c.loop-place.place in
    let inside : i < length c.args.p.now = omega (arith, c.loop-place-test.true, c.len-place-end.ensures.value) in
    let next = numbered_more g.F.Field.value g.F.Field.ORDER c.args.self.now c.loop-place.self c.number.new.self c.loop-place.terms.items c.in_ok-number.number c.term-c.result.0 c.args.p.now i
    c.loop-place.invariant.3 c.number.ensures.grows c.loop-place.invariant.1 c.loop-place.invariant.2 c.in_ok-number.ensures.number.0
    (c.in_ok-number.ensures.number.1 ∙ c.term-c.ensures.monomial) c.term-c.ensures.coefficient inside in
    let back = sym c.in_ok-push.ensures.items in (
      omega (arith, c.loop-place.invariant.0, c.number.ensures.one),
      subst (λ ts. terms_of g.F.Field.value c.number.new.self.0 ts ≡ take (i + 1) c.args.p.now) back next.0,
      subst (λ ts. AreNumbers (length c.number.new.self.0) ts) back next.1,
      next.2,
    )
