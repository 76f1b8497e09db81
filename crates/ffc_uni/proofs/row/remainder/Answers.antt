use Rattle.std.proofs.Common.{◌≡◌, ◌+◌, ◌∷◌, ◌%◌, [], length, map, sym, ap, ap₂, ◌∙◌, arith}
use Rattle.std.proofs.lemmas.List.{length_push}
use Rattle.ffc_field.specs.Modular.{sub_mod}
use Rattle.ffc_uni.specs.Univariate.{coefficient_at, times}
use Rattle.ffc_uni.proofs.Convolutions.{coefficient_read, coefficients_pushed}
use Rattle.ffc_uni.proofs.Passes.{restored}
use Rattle.ffc_uni.proofs.row.remainder.Goals as goal

pub loop-place-preserved : goal.loop-place-preserved
loop-place-preserved g c =
    let value = g.F.Field.value in
    let p = g.F.Field.ORDER in
    let row = map value c.args.row.now in
    let whole = times (map value c.args.quotient.now) (map value c.args.by.now) in
    let place = c.loop-place.place in
    let x = c.index-row-place.result in
    let out = c.loop-place.out.items in
    let next = c.sub-left.result in
    let read : coefficient_at row place ≡ value x = coefficient_read value c.args.row.now place x (omega arith) c.index-row-place.is in
    let now : value next ≡ sub_mod p (coefficient_at row place) (coefficient_at whole place % p) =
    c.sub-left.ensures ∙ ap₂ (sub_mod p) (sym read) c.coefficient-product.ensures in
    record {
      long = ap length c.in_ok-push.ensures.items ∙ omega (arith, length_push out next, c.loop-place.invariant.long);
      left = λ k h.
          ap (λ l. coefficient_at (map value l) k) c.in_ok-push.ensures.items
          ∙ coefficients_pushed value out next (λ j. sub_mod p (coefficient_at row j) (coefficient_at whole j % p))
          (λ j l. c.loop-place.invariant.left j (omega (arith, l, c.loop-place.invariant.long)))
          (now ∙ ap (λ n. sub_mod p (coefficient_at row n) (coefficient_at whole n % p)) (sym c.loop-place.invariant.long)) k (omega (arith, h, c.loop-place.invariant.long));
    }

pub returns-clause-left : goal.returns-clause-left
returns-clause-left g c = λ k h.
    let value = g.F.Field.value in
    let p = g.F.Field.ORDER in
    let row = map value c.args.row.now in
    let whole = times (map value c.args.quotient.now) (map value c.args.by.now) in
    ap (λ n. (coefficient_at whole k + n) % p) (c.loop-place.invariant.left k (omega (arith, h, c.loop-place.invariant.long)))
    ∙ restored p (coefficient_at whole k) (coefficient_at row k) (omega (arith, g.met.F.Field.prime.least))
