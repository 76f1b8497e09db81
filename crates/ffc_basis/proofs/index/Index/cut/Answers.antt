use Rattle.std.proofs.Common.{◌≡◌, ◌+◌, ◌-◌, ◌≤◌, ◌++◌, ◌∷◌, [], take, length, get_or, ap, ◌∙◌, subst, arith}
use Rattle.ffc_ring.specs.Polynomial.{Terms}
use Rattle.ffc_basis.specs.Indexing.{IsIndexOf}
use Rattle.ffc_line.specs.Lines.{polys_of}
use Rattle.ffc_basis.proofs.IndexLemmas.{taken_more, length-taken}
use Rattle.ffc_basis.proofs.Lists.{poly_at, length-polys}
use Rattle.ffc_basis.proofs.index.Index.cut.Goals as goal

pub loop-number-preserved : goal.loop-number-preserved
loop-number-preserved g c =
    let p = g.F.Field.ORDER in
    let cmp = g.O.MonoOrder.cmp in
    let lines = c.args.lines.now in
    let gs = polys_of lines in
    let last = c.loop-number.number - 1 in
    let next : c.loop-number.number ≡ last + 1 = omega (arith, c.loop-number-test.true) in
    let below : last + 1 ≤ length lines = omega (arith, next, c.loop-number.auto.number) in
    let whole : take c.loop-number.number gs ≡ take last gs ++ (get_or lines last c.index-lines-number.result).poly ∷ [] =
    ap (λ n. take n gs) next ∙ taken_more gs last [] (omega (arith, below, length-polys lines)) ∙ ap (λ (x : Terms). take last gs ++ x ∷ []) (poly_at lines last c.index-lines-number.result (omega (arith, below))) in
    record {
      from = omega (arith, next, c.loop-number-test.true);
      index = λ is. c.pop.ensures (take last gs) (length-taken gs last (omega (arith, below, length-polys lines))) (subst (λ xs. IsIndexOf p cmp xs c.loop-number.self) whole (c.loop-number.invariant.index is));
    }

pub returns : goal.returns
returns g c = λ is.
    let p = g.F.Field.ORDER in
    let cmp = g.O.MonoOrder.cmp in
    let gs = polys_of c.args.lines.now in
    let same : c.loop-number.number ≡ c.args.len = omega (arith, c.loop-number-test.false, c.loop-number.invariant.from) in
    subst (λ n. IsIndexOf p cmp (take n gs) c.loop-number.self) same (c.loop-number.invariant.index is)
