use Rattle.std.proofs.Common.{◌≡◌, ◌+◌, ◌-◌, ◌%◌, length, map, take, sym, ap, ◌∙◌, subst, arith, add-one}
use Rattle.std.proofs.lemmas.List.{take_all}
use Rattle.ffc_uni.specs.Univariate.{coefficient_at, IsNormal}
use Rattle.ffc_uni.proofs.Rows.{zero_left_out, normal_up_to}
use Rattle.ffc_cktree.proofs.rows.without_zeros.Goals as goal

pub loop-place-init : goal.loop-place-init
loop-place-init g c = λ k.
    ap (λ l. coefficient_at (map g.F.Field.value l) k % g.F.Field.ORDER) (take_all (length c.args.row.now) c.args.row.now (omega arith))

pub loop-place-preserved : goal.loop-place-preserved
loop-place-preserved g c =
    let value = g.F.Field.value in
    let p = g.F.Field.ORDER in
    let row = c.args.row.now in
    let place = c.loop-place.place in
    let zero_there : value c.index-row-place.result ≡ 0 = sym c.residue.ensures.value ∙ c.if-residue-ne0.false in
    let same : place - 1 + 1 ≡ place = omega arith in
    λ k.
    zero_left_out value p row (place - 1) c.index-row-place.result (omega arith) c.index-row-place.is zero_there k
    ∙ ap (λ n. coefficient_at (map value (take n row)) k % p) same
    ∙ c.loop-place.invariant k

pub returns-then-residue-ne0-clause-normal : goal.returns-then-residue-ne0-clause-normal
returns-then-residue-ne0-clause-normal g c =
    let value = g.F.Field.value in
    let p = g.F.Field.ORDER in
    let row = c.args.row.now in
    let last = c.loop-place.place - 1 in
    subst (λ n. IsNormal p (map value (take n row))) (sym (add-one last))
    (normal_up_to value p g.met.F.Field.below row last c.index-row-place.result (omega arith) c.index-row-place.is (λ none. c.if-residue-ne0.true (c.residue.ensures.value ∙ none)))

pub returns-then-residue-ne0-clause-same : goal.returns-then-residue-ne0-clause-same
returns-then-residue-ne0-clause-same g c =
    let same : c.loop-place.place - 1 + 1 ≡ c.loop-place.place = omega arith in
    λ k. ap (λ n. coefficient_at (map g.F.Field.value (take n c.args.row.now)) k % g.F.Field.ORDER) same ∙ c.loop-place.invariant k
