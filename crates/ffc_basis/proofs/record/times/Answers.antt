use Rattle.std.proofs.Common.{◌≡◌, ℕ, ◌≤◌, [], ◌∷◌, ◌++◌, length, get_or, sym, ap, ◌∙◌, subst, arith}
use Rattle.ffc_ring.specs.Polynomial.{Terms}
use Rattle.ffc_line.specs.Lines.{Parts}
use Rattle.ffc_basis.proofs.Lists.{any_default}
use Rattle.ffc_basis.proofs.RecordLemmas.{short_at, each_push, polynomials_of_scaled, scaled_all}
use Rattle.ffc_basis.proofs.SPolynomialLemmas.{scaled_next}
use Rattle.ffc_basis.proofs.record.times.Goals as goal

pub times-requires : goal.times-requires
times-requires g c =
    let ts : Parts = c.args.multiples.now in
    let i = c.loop-part.part-index in
    let t : ℕ × Terms = c.part-item.result in
    let is : t ≡ get_or ts i (0, []) = c.part-item.is ∙ any_default ts i t (0, []) c.loop-part-test.true in
    subst (λ (x : ℕ × Terms). length x.1 ≤ 131072) (sym is) (short_at ts i c.requires c.loop-part-test.true).1

pub loop-part-preserved : goal.loop-part-preserved
loop-part-preserved g c =
    let p = g.F.Field.ORDER in
    let k = g.F.Field.value c.args.c in
    let ts : Parts = c.args.multiples.now in
    let us : Parts = c.loop-part.parts.items in
    let vs : Parts = c.push.new.self.items in
    let t : ℕ × Terms = c.part-item.result in
    let u : Terms = c.in_ok-multiple.multiple in
    let are : vs ≡ us ++ (t.0, u) ∷ [] = c.in_ok-push.ensures.items ∙ ap (λ (n : ℕ). us ++ (n, u) ∷ []) c.line.ensures in
    record {
      scaled = scaled_next p k ts us vs c.loop-part.part-index t u c.loop-part-test.true c.part-item.is are c.in_ok-multiple.ensures c.loop-part.invariant.scaled;
      each = each_push p g.O.MonoOrder.cmp us vs t.0 u are (c.len-length.ensures.ordered, omega (arith, c.len-length.ensures.value, c.len-length.ensures.fits)) c.loop-part.invariant.each;
    }

pub returns-clause-polynomials : goal.returns-clause-polynomials
returns-clause-polynomials g c = λ v.
    let p = g.F.Field.ORDER in
    let k = g.F.Field.value c.args.c in
    let ts : Parts = c.args.multiples.now in
    let us : Parts = c.loop-part.parts.items in
    polynomials_of_scaled p k g.O.MonoOrder.cmp ts us (scaled_all p k ts us c.loop-part.part-index (omega arith) c.loop-part.invariant.scaled) c.loop-part.invariant.each v
