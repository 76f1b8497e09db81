use Rattle.std.proofs.Common.{◌≡◌, ◌+◌, ◌-◌, ◌*◌, ◌%◌, ◌^◌, ◌<◌, ◌≤◌, inl, inr, suc, [], length, map, drop, sym, ap, ap₂, ◌∙◌, arith}
use Rattle.std.proofs.lemmas.Bool.{cases_lt}
use Rattle.std.proofs.lemmas.List.{drop_all}
use Rattle.ffc_uni.specs.Rows.{shifted}
use Rattle.ffc_uni.specs.Univariate.{coefficient_at, times}
use Rattle.ffc_uni.proofs.Coefficients.{coefficient_at-shifted_zero}
use Rattle.ffc_uni.proofs.Convolutions.{coefficient_read, product_next, shifted_before}
use Rattle.ffc_uni.proofs.Rows.{length-residues}
use Rattle.ffc_uni.proofs.coefficient.coefficient_from.Goals as goal

pub loop-i-preserved : goal.loop-i-preserved
loop-i-preserved g c =
    let value = g.F.Field.value in
    let a = map value c.args.a.now in
    let b = map value c.args.b.now in
    let place = c.args.place in
    let i = c.loop-i.i in
    let x = c.index-a-i.result in
    let y = c.index-b-below.result in
    let first : coefficient_at a i ≡ c.residue-x.result = coefficient_read value c.args.a.now i x (omega arith) c.index-a-i.is ∙ sym c.residue-x.ensures.value in
    let second : coefficient_at b (place - i) ≡ c.residue-y.result = coefficient_read value c.args.b.now (place - i) y (omega arith) c.index-b-below.is ∙ sym c.residue-y.ensures.value in
    let step = product_next i a b place (omega arith) in
    let product : coefficient_at a i * coefficient_at b (place - i) ≡ c.residue-x.result * c.residue-y.result = ap₂ ◌*◌ first second in
    let next : suc i ≡ i + 1 = omega arith in
    let later : coefficient_at (shifted (suc i) (times (drop (suc i) a) b)) place ≡ coefficient_at (shifted (i + 1) (times (drop (i + 1) a) b)) place =
    ap (λ n. coefficient_at (shifted n (times (drop n a) b)) place) next in
    record {
      sum = omega (arith, step, product, later, c.halves-product.ensures.product, c.loop-i.invariant.sum);
      top = omega arith;
      low = omega (arith, c.halves-product.ensures.low, c.loop-i.invariant.low);
      high = omega (arith, c.halves-product.ensures.high, c.loop-i.invariant.high);
    }

pub reduced-requires : goal.reduced-requires
reduced-requires g c = omega (arith, c.ranges.place, c.loop-i.invariant.top, c.loop-i.invariant.high)

pub returns : goal.returns
returns g c =
    let value = g.F.Field.value in
    let p = g.F.Field.ORDER in
    let a = map value c.args.a.now in
    let b = map value c.args.b.now in
    let place = c.args.place in
    let i = c.loop-i.i in
    let none : coefficient_at (shifted i (times (drop i a) b)) place ≡ 0 = elim (cases_lt place i) [
      | inl h ↦ shifted_before i (times (drop i a) b) place h
      | inr h ↦
          ap (λ l. coefficient_at (shifted i (times l b)) place) (drop_all i a (omega (arith, length-residues value c.args.a.now)))
          ∙ coefficient_at-shifted_zero i place
    ] in
    let sum : c.loop-i.low + 2 ^ 64 * c.loop-i.high ≡ coefficient_at (shifted c.args.from (times (drop c.args.from a) b)) place = omega (arith, none, c.loop-i.invariant.sum) in
    c.reduced.ensures ∙ ap (λ n. n % p) sum
