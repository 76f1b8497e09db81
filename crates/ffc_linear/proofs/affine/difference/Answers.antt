use Rattle.std.proofs.Common.{◌≡◌, ◌+◌, ◌-◌, ◌%◌, ◌++◌, get_or, length, map, take, drop, vec_len, ap, ◌∙◌, subst, arith, mod-eq_of_lt}
use Rattle.ffc_echelon.proofs.Buffers.{written_back}
use Rattle.ffc_linear.proofs.DenseLemmas.{IsSum, filled_with_zeros, difference_in_columns}
use Rattle.ffc_linear.proofs.affine.difference.Goals as goal

pub returns-clause-same : goal.returns-clause-same
returns-clause-same g c = λ m k at.
    let value = g.F.Field.value in
    let p = g.F.Field.ORDER in
    let ids = c.args.constants.now in
    let zero = c.of.result in
    let n = c.resize.new.self.len in
    let start = c.as_mut_slice.result.now in
    let half = c.add_multiple.new.dense in
    let whole = c.add_multiple-2.new.dense in
    let none : value zero ≡ 0 = c.of.ensures ∙ mod-eq_of_lt (omega (arith, g.met.F.Field.prime.least)) in
    let one : value c.of-2.result ≡ 1 = c.of-2.ensures ∙ mod-eq_of_lt (omega (arith, g.met.F.Field.prime.least)) in
    let also : value c.of-3.result ≡ 1 = c.of-3.ensures ∙ mod-eq_of_lt (omega (arith, g.met.F.Field.prime.least)) in
    let minus : value c.neg.result ≡ p - 1 = c.neg.ensures ∙ ap (λ x. (p - x) % p) also ∙ mod-eq_of_lt (omega (arith, g.met.F.Field.prime.least)) in
    let zeros = filled_with_zeros value (length ids + 1) (vec_len c.new-dense.result) zero c.new-dense.result.items c.resize.new.self.items start none c.new-dense.ensures.items c.new-dense.ensures.len c.in_ok-resize.ensures.items c.as_mut_slice.ensures.value in
    let back = written_back n half c.resize.new.self.items (c.add_multiple.auto.dense ∙ c.as_mut_slice.ensures.len) in
    let inner = take n (half ++ drop (length half) c.resize.new.self.items) in
    let again = written_back n whole inner (c.add_multiple-2.auto.dense ∙ c.as_mut_slice-2.ensures.len) in
    let first : IsSum p ids (map value start) 1 c.args.left.now (map value half) = subst (λ s. IsSum p ids (map value start) s c.args.left.now (map value half)) one c.add_multiple.ensures in
    let second : IsSum p ids (map value half) (p - 1) c.args.right.now (map value whole) =
    subst (λ s. IsSum p ids (map value half) s c.args.right.now (map value whole)) minus
    (subst (λ xs. IsSum p ids (map value xs) (value c.neg.result) c.args.right.now (map value whole)) (c.as_mut_slice-2.ensures.value ∙ back) c.add_multiple-2.ensures) in
    ap (λ l. get_or (map value l) k 0) again
    ∙ difference_in_columns p ids (map value start) (map value half) (map value whole) c.args.left.now c.args.right.now
    zeros first second m k at
