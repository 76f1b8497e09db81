use Rattle.std.proofs.Common.{◌≡◌, ℕ, ◌+◌, ◌-◌, ◌*◌, ◌%◌, ◌<◌, ◌≤◌, inl, inr, length, map, drop, set, sym, ap, ◌∙◌, subst, arith}
use Rattle.std.proofs.lemmas.Bool.{cases_eq, cases_lt}
use Rattle.std.proofs.lemmas.List.{length-set}
use Rattle.ffc_field.specs.Modular.{sub_mod, mul_mod}
use Rattle.ffc_uni.specs.Rows.{leading, shifted}
use Rattle.ffc_uni.specs.Univariate.{coefficient_at, times}
use Rattle.ffc_uni.proofs.Convolutions.{coefficient_leading, coefficient_past, coefficient_read, product_from, product_past, product_written, unwritten}
use Rattle.ffc_uni.proofs.Divisions.{quotient_cancels}
use Rattle.ffc_uni.proofs.Rows.{length-residues}
use Rattle.ffc_uni.proofs.row.quotient.Goals as goal

pub loop-place-preserved : goal.loop-place-preserved
loop-place-preserved g c =
    let value = g.F.Field.value in
    let p = g.F.Field.ORDER in
    let q = c.loop-place.quotient.items in
    let row = map value c.args.row.now in
    let by = map value c.args.by.now in
    let d = length c.args.by.now - 1 in
    let i = c.loop-place.place - 1 in
    let x = c.index-row-place.result in
    let y = c.mul.result in
    let known = c.loop-place.invariant in
    let places = c.saturating_sub-places.ensures in
    let within : i < length q = omega (arith, known.long, places, c.loop-place.auto.place, c.loop-place-test.true) in
    let above = coefficient_at (shifted (i + 1) (times (drop (i + 1) (map value q)) by)) (i + d) in
    let lead : coefficient_at by d ≡ leading by = coefficient_leading by d (omega (arith, length-residues value c.args.by.now, c.requires.nonzero)) in
    let read : coefficient_at row (i + d) ≡ value x = coefficient_read value c.args.row.now (i + d) x (omega (arith, known.long, within)) c.index-row-place.is in
    let sum : value c.coefficient_from-above.result ≡ above % p =
    c.coefficient_from-above.ensures ∙ ap (λ l. coefficient_at (shifted (i + 1) (times (drop (i + 1) (map value l)) by)) (i + d) % p) c.as_slice.ensures.value in
    let quotient : value y ≡ mul_mod p (sub_mod p (value x) (above % p)) (value c.args.inverse) =
    c.mul.ensures ∙ ap (λ n. mul_mod p n (value c.args.inverse)) (c.sub-top.ensures ∙ ap (sub_mod p (value x)) sum) in
    let here : coefficient_at (shifted i (times (drop i (map value (set q i y))) by)) (i + d) % p ≡ coefficient_at row (i + d) % p =
    ap (λ n. n % p) (product_written value q by i d y within ∙ ap (λ n. value y * n + above) lead)
    ∙ quotient_cancels p (value x) above (value c.args.inverse) (leading by) (value y) (omega (arith, g.met.F.Field.prime.least)) c.requires.inverse quotient
    ∙ ap (λ n. n % p) (sym read) in
    record {
      long = length-set q i y ∙ known.long;
      cancels = λ j low high. elim (cases_eq j i) [
        | inl same ↦ subst (λ n. coefficient_at (shifted n (times (drop n (map value (set q i y))) by)) (n + d) % p ≡ coefficient_at row (n + d) % p) (sym same) here
        | inr other ↦
            ap (λ l. coefficient_at (shifted j (times l by)) (j + d) % p) (unwritten value q i j y (omega (arith, low, other)))
            ∙ known.cancels j (omega (arith, low, other)) high
      ];
    }

pub returns-clause-cancels : goal.returns-clause-cancels
returns-clause-cancels g c = λ k h.
    let value = g.F.Field.value in
    let p = g.F.Field.ORDER in
    let q = map value c.loop-place.quotient.items in
    let row = map value c.args.row.now in
    let by = map value c.args.by.now in
    let d = length c.args.by.now - 1 in
    let j = k - d in
    let known = c.loop-place.invariant in
    let of_by = length-residues value c.args.by.now in
    let of_row = length-residues value c.args.row.now in
    let of_q = length-residues value c.loop-place.quotient.items in
    let some : 1 ≤ length by = omega (arith, of_by, c.requires.nonzero) in
    let whole : j + d ≡ k = omega (arith, h) in
    elim (cases_lt j (length c.args.row.now - d)) [
      | inl less ↦
          sym (ap (λ n. n % p) (product_from j q by k some (omega (arith, of_by, whole, c.requires.nonzero))))
          ∙ subst (λ n. coefficient_at (shifted j (times (drop j q) by)) n % p ≡ coefficient_at row n % p) whole (known.cancels j (omega (arith, c.loop-place-test.false)) less)
      | inr more ↦
          ap (λ n. n % p)
          (product_past q by k some (omega (arith, of_q, of_by, known.long, more, whole, c.requires.nonzero))
          ∙ sym (coefficient_past row k (omega (arith, of_row, more, whole))))
    ]
