use Rattle.std.proofs.Common.{◌≡◌, ◌+◌, ◌-◌, ◌%◌, ◌<◌, ◌≤◌, ◌++◌, [], ◌∷◌, length, map, take, replicate, vec_len, refl, ap, ◌∙◌, arith, mod-eq_of_lt}
use Rattle.std.proofs.Math.Nat.{mod-mod}
use Rattle.ffc_uni.specs.Rows.{shifted}
use Rattle.ffc_uni.specs.Univariate.{SameUnivariate, coefficient_at}
use Rattle.ffc_uni.proofs.Coefficients.{plus_alike}
use Rattle.ffc_roots.proofs.SparseLemmas.{added_at, filled_length, filled_same}
use Rattle.ffc_roots.proofs.sparse.add_at.Goals as goal
use Rattle.ffc_roots.proofs.sparse.add_at.Goals.{then-place-len+in_ok-resize, else-place-len}

pub returns : goal.returns
returns g c =
    let value = g.F.Field.value in
    let p = g.F.Field.ORDER in
    let old = c.args.row.now.items in
    let row = c.if-place-len.row.items in
    let n = c.args.place + 1 in
    let room = n - vec_len c.args.row.now in
    let more = shifted c.args.place (value c.args.c ∷ []) in
    let known : (c.args.place < length row) × SameUnivariate p (map value row) (map value old) = elim c.if-place-len.branch [
      | then-place-len+in_ok-resize w ↦
          let short : length old ≤ n = omega (arith, w.if-place-len.true, c.len.ensures) in
          let none : value w.of.result ≡ 0 = w.of.ensures ∙ mod-eq_of_lt (omega (arith, g.met.F.Field.prime.least)) in
          let grown : w.resize.new.self.items ≡ take n old ++ replicate room w.of.result = w.in_ok-resize.ensures.items in
          let filled : row ≡ take n old ++ replicate room w.of.result = ap (λ r. r.items) w.row-is ∙ grown in (
            omega (arith, ap length filled, filled_length n room old w.of.result short (omega (arith, w.if-place-len.true, c.len.ensures))),
            λ k. ap (λ l. coefficient_at (map value l) k % p) filled ∙ filled_same value p n room old w.of.result short none k,
          )
      | else-place-len w ↦ (
        omega (arith, ap (λ r. length r.items) w.row-is, w.if-place-len.false, c.len.ensures),
        λ k. ap (λ r. coefficient_at (map value r.items) k % p) w.row-is,
      )
    ] in
    λ k. added_at value p (value c.args.c) row c.args.place c.add.result c.index.result.now known.0 c.index.ensures
    (ap (λ m. m % p) c.add.ensures ∙ mod-mod (value c.index.result.now + value c.args.c) p) k
    ∙ plus_alike p (map value row) (map value old) more more known.1 (λ _. refl) k
