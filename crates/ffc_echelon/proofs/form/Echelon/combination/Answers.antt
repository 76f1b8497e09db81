use Rattle.std.proofs.Common.{◌≡◌, ◌∙◌, List, map, sym, ap, subst, arith, mod-eq_of_lt}
use Rattle.std.proofs.lemmas.Result.{IfOk-weaker}
use Rattle.ffc_echelon.specs.Forms.{Kept, IsRestOf}
use Rattle.ffc_echelon.specs.Progress.{AreKeptOf}
use Rattle.ffc_echelon.proofs.Contradictions.{combination_is_sum}
use Rattle.ffc_echelon.proofs.form.Echelon.combination.Goals as goal

pub returns : goal.returns
returns g c =
    let value = g.F.Field.value in
    let p = g.F.Field.ORDER in
    let form = c.args.self.now in
    let rows : List Kept = c.as_slice.result.now in
    let same : rows ≡ form.kept = c.as_slice.ensures.value ∙ ap (λ f. f.kept) c.self.view_is in
    let inputs : c.self.inside.inputs ≡ form.inputs = ap (λ f. f.inputs) c.self.view_is in
    let one : value c.of.result ≡ 1 = c.of.ensures ∙ mod-eq_of_lt (omega (arith, g.met.F.Field.prime.least)) in
    let ms = map (λ m. (m.0, value m.1)) c.args.reduction.now.multipliers.items in
    IfOk-weaker c.combine.result _ _ (λ coefficients sums. λ vectors vector is rest.
    let here : IsRestOf p rows vector c.args.reduction.now.rest (map (λ m. (m.0, value m.1)) c.as_slice-2.result.now) =
    subst (λ l. IsRestOf p rows vector c.args.reduction.now.rest (map (λ m. (m.0, value m.1)) l)) (sym c.as_slice-2.ensures.value)
    (subst (λ k. IsRestOf p k vector c.args.reduction.now.rest ms) (sym same) rest) in
    combination_is_sum p vectors rows vector c.args.reduction.now.rest (map (λ m. (m.0, value m.1)) c.as_slice-2.result.now) (map value coefficients.items) (value c.of.result) one here
    (sums vectors (sym (inputs ∙ is.inputs_are)) (subst (AreKeptOf p vectors) (sym same) is.kept) here.there)) c.combine.ensures
