use Rattle.std.proofs.Common.{◌≡◌, ◌≢◌, ◌≤◌, ◌<◌, ◌+◌, ◌-◌, ◌/◌, [], ℕ, length, get_or, sym, ap, ◌∙◌, arith}
use Rattle.std.specs.declared.cmp.Ordering.TheVariants.{Less, Greater}
use Rattle.ffc_dense.proofs.ColumnLemmas.{above_more, below_more}
use Rattle.ffc_dense.proofs.columns.Columns.place_for.Goals as goal

pub loop-low-preserved-in-Greater : goal.loop-low-preserved-in-Greater
loop-low-preserved-in-Greater g c =
    let ms = c.args.self.now.0 in
    let ns = c.args.self.now.1 in
    let middle = c.loop-low.low + (c.loop-low.high - c.loop-low.low) / 2 in
    let low : middle < c.loop-low.high = omega (arith, c.loop-low-test.true) in
    let inside : middle < length ns = omega (arith, low, c.loop-low.invariant.1) in (
      omega (arith, low),
      c.loop-low.invariant.1,
      above_more g.O.MonoOrder.cmp g.met.O.MonoOrder.laws ms ns c.args.m.now middle c.len-count.ensures.columns.descending inside
          (ap (λ k. g.O.MonoOrder.cmp k c.args.m.now) (sym (c.monomial-other.ensures ∙ ap (λ k. get_or ms k []) c.at.ensures.value)) ∙ sym c.in-Greater.ensures),
      c.loop-low.invariant.3,
    )

pub loop-low-preserved : goal.loop-low-preserved
loop-low-preserved g c =
    let ms = c.args.self.now.0 in
    let ns = c.args.self.now.1 in
    let middle = c.loop-low.low + (c.loop-low.high - c.loop-low.low) / 2 in
    let low : middle < c.loop-low.high = omega (arith, c.loop-low-test.true) in
    let inside : middle < length ns = omega (arith, low, c.loop-low.invariant.1) in
    let is = c.monomial-other.ensures ∙ ap (λ k. get_or ms k []) c.at.ensures.value in (
      omega arith,
      omega (arith, inside),
      c.loop-low.invariant.2,
      below_more g.O.MonoOrder.cmp g.met.O.MonoOrder.laws ms ns c.args.m.now middle c.len-count.ensures.columns.descending inside
          (λ greater. absurd (cc (c.in-Less.ensures ∙ ap (λ k. g.O.MonoOrder.cmp k c.args.m.now) is ∙ greater)))
          (λ same. c.requires (get_or ns middle 0) (omega (arith, c.at.ensures.value, c.at.ensures.within)) same),
    )
