use Rattle.std.proofs.Common.{◌≡◌, ◌+◌, ◌∷◌, ◌%◌, [], length, map, ap, ◌∙◌, sym, arith}
use Rattle.std.proofs.lemmas.List.{length_push}
use Rattle.ffc_uni.specs.Univariate.{coefficient_at, times}
use Rattle.ffc_uni.proofs.Convolutions.{coefficients_pushed, product_past, same_by_coefficients}
use Rattle.ffc_uni.proofs.Rows.{length-residues}
use Rattle.ffc_uni.proofs.row.append_square.Goals as goal

pub loop-place-init : goal.loop-place-init
loop-place-init g c = record {
  long = ap length c.requires.empty;
  so_far = λ k h. absurd (omega (arith, h));
}

pub loop-place-preserved : goal.loop-place-preserved
loop-place-preserved g c =
    let value = g.F.Field.value in
    let p = g.F.Field.ORDER in
    let whole = times (map value c.args.a.now) (map value c.args.a.now) in
    let out = c.loop-place.out.items in
    let next = c.coefficient_of_square-next.result in
    record {
      long = ap length c.in_ok-push.ensures.items ∙ omega (arith, length_push out next, c.loop-place.invariant.long);
      so_far = λ k h.
          ap (λ l. coefficient_at (map value l) k) c.in_ok-push.ensures.items
          ∙ coefficients_pushed value out next (λ j. coefficient_at whole j % p)
          (λ j l. c.loop-place.invariant.so_far j (omega (arith, l, c.loop-place.invariant.long)))
          (c.coefficient_of_square-next.ensures ∙ ap (λ n. coefficient_at whole n % p) (sym c.loop-place.invariant.long)) k (omega (arith, h, c.loop-place.invariant.long));
    }

pub returns-clause-square : goal.returns-clause-square
returns-clause-square g c =
    let value = g.F.Field.value in
    let p = g.F.Field.ORDER in
    let a = map value c.args.a.now in
    let b = map value c.args.a.now in
    let first = length-residues value c.args.a.now in
    let second = length-residues value c.args.a.now in
    same_by_coefficients p c.loop-place.place (map value c.loop-place.out.items) (times a b)
    (length-residues value c.loop-place.out.items ∙ c.loop-place.invariant.long) c.loop-place.invariant.so_far
    (λ k h. product_past a b k (omega (arith, second, c.requires.some)) (omega (arith, first, second, h, c.requires.all, c.requires.some, c.loop-place-test.false)))
