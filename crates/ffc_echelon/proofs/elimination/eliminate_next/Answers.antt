use Rattle.std.proofs.Common.{◌≡◌, ◌+◌, ◌<◌, ◌≤◌, ◌∷◌, ◌++◌, ◌∙◌, [], List, Some, eqb-true, length, map, refl, sym, ap, subst, arith}
use Rattle.std.specs.Prelude.{slice_get}
use Rattle.std.proofs.lemmas.Bool.{eqb-false}
use Rattle.std.proofs.lemmas.List.{nil_from_length}
use Rattle.std.proofs.lemmas.List.Elements.{All-head}
use Rattle.std.proofs.lemmas.Option.{slice_get_read}
use Rattle.ffc_echelon.specs.Vectors.{Coordinates, IsBelow}
use Rattle.ffc_echelon.specs.Forms.{Kept, Multiplier, IsReduced, IsRestOf}
use Rattle.ffc_echelon.specs.Progress.{AreCoefficientsOf, AreKeptOf, IsFormOfFirst}
use Rattle.ffc_echelon.proofs.Combining.{held}
use Rattle.ffc_echelon.proofs.Contradictions.{constant_is_contradiction}
use Rattle.ffc_echelon.proofs.Growing.{first_leads, form_grows, form_keeps, starts_with}
use Rattle.ffc_echelon.proofs.elimination.eliminate_next.Goals as goal

pub returns-then-is_empty-clause-form : goal.returns-then-is_empty-clause-form
returns-then-is_empty-clause-form g c =
    let value = g.F.Field.value in
    let p = g.F.Field.ORDER in
    let n = length c.args.leads.now.items in
    let inputs : List Coordinates = c.args.inputs.now in
    let vector : Coordinates = c.index-inputs-number.result in
    let at : slice_get inputs c.args.number ≡ Some vector = slice_get_read inputs (length inputs) c.args.number vector refl c.requires.next c.index-inputs-number.is in
    let rows : List Kept = c.args.rows.now.items in
    let rest : Coordinates = c.in_ok-reduction.reduction.rest in
    let ms : List Multiplier = map (λ m. (m.0, value m.1)) c.in_ok-reduction.reduction.multipliers.items in
    let coordinates = c.coordinates-coordinates.result.now in
    let none : rest ≡ [] =
    sym c.coordinates-coordinates.ensures.value
    ∙ ap (map (λ e. (e.0, value e.1))) (nil_from_length coordinates (eqb-true (length coordinates) 0 (sym c.is_empty.ensures ∙ c.if-is_empty.true))) in
    form_keeps p n inputs c.args.number rows c.args.leads.now.items vector rest ms at c.in_ok-reduction.ensures.valid
    (held (IsBelow (n + 1)) inputs c.args.number vector c.requires.within at)
    (subst (λ l. IsRestOf p l vector rest ms) c.as_slice.ensures.value c.in_ok-reduction.ensures.rest) none c.requires.form

pub overflow_cast-lead : goal.overflow_cast-lead
overflow_cast-lead g c =
    let value = g.F.Field.value in
    let rest : Coordinates = c.in_ok-reduction.reduction.rest in
    let coordinates = c.coordinates-coordinates.result.now in
    let lead = c.index-coordinates-0.result in
    let filled : length coordinates ≡ 0 → ⊥ = eqb-false (length coordinates) 0 (sym c.is_empty.ensures ∙ c.if-is_empty.false) in
    let some : 0 < length coordinates = omega (arith, filled) in
    let starts = starts_with value coordinates lead some c.index-coordinates-0.is in
    let is : rest ≡ (lead.0, value lead.1) ∷ starts.0 = sym c.coordinates-coordinates.ensures.value ∙ starts.1 in
    let n = length c.as_slice-2.result.now in
    let below : lead.0 < n + 1 = All-head (λ e. e.0 < n + 1) (lead.0, value lead.1) starts.0 (subst (IsBelow (n + 1)) is c.in_ok-reduction.ensures.below) in
    omega (arith, below, ap length c.as_slice-2.ensures.value, c.requires.columns)

pub returns-then-lead-len-clause-form : goal.returns-then-lead-len-clause-form
returns-then-lead-len-clause-form g c =
    let value = g.F.Field.value in
    let p = g.F.Field.ORDER in
    let leads = c.args.leads.now.items in
    let n = length leads in
    let inputs : List Coordinates = c.args.inputs.now in
    let vector : Coordinates = c.index-inputs-number.result in
    let at : slice_get inputs c.args.number ≡ Some vector = slice_get_read inputs (length inputs) c.args.number vector refl c.requires.next c.index-inputs-number.is in
    let rows : List Kept = c.args.rows.now.items in
    let rest : Coordinates = c.in_ok-reduction.reduction.rest in
    let ms : List Multiplier = map (λ m. (m.0, value m.1)) c.in_ok-reduction.reduction.multipliers.items in
    let coordinates = c.coordinates-coordinates.result.now in
    let lead = c.index-coordinates-0.result in
    let filled : length coordinates ≡ 0 → ⊥ = eqb-false (length coordinates) 0 (sym c.is_empty.ensures ∙ c.if-is_empty.false) in
    let some : 0 < length coordinates = omega (arith, filled) in
    let starts = starts_with value coordinates lead some c.index-coordinates-0.is in
    let is : rest ≡ (lead.0, value lead.1) ∷ starts.0 = sym c.coordinates-coordinates.ensures.value ∙ starts.1 in
    let column : lead.0 < n = omega (arith, c.if-lead-len.true, c.len.ensures) in
    let row = c.in_ok-keep.ensures.row in
    subst (λ l. IsFormOfFirst p n inputs (c.args.number + 1) l c.keep.new.leads.items) (sym row.1)
    (subst (IsFormOfFirst p n inputs (c.args.number + 1) (rows ++ row.0 ∷ [])) (sym c.in_ok-keep.ensures.lead)
    (form_grows p n inputs c.args.number rows leads vector rest ms (value lead.1) lead.0 row.0 g.met.F.Field.prime at c.in_ok-reduction.ensures.valid
    (held (IsBelow (n + 1)) inputs c.args.number vector c.requires.within at)
    (subst (λ l. IsRestOf p l vector rest ms) c.as_slice.ensures.value c.in_ok-reduction.ensures.rest)
    c.coordinates-coordinates.ensures.valid
    (subst (λ l. IsBelow (length l + 1) rest) c.as_slice-2.ensures.value c.in_ok-reduction.ensures.below)
    (subst (λ l. IsReduced l rest) c.as_slice.ensures.value c.in_ok-reduction.ensures.reduced)
    (first_leads p n (lead.0, value lead.1) starts.0 rest is c.coordinates-coordinates.ensures.valid column)
    row.2 c.requires.form))

pub returns-clause-contradiction : goal.returns-clause-contradiction
returns-clause-contradiction g c =
    let value = g.F.Field.value in
    let p = g.F.Field.ORDER in
    let n = length c.args.leads.now.items in
    let inputs : List Coordinates = c.args.inputs.now in
    let vector : Coordinates = c.index-inputs-number.result in
    let at : slice_get inputs c.args.number ≡ Some vector = slice_get_read inputs (length inputs) c.args.number vector refl c.requires.next c.index-inputs-number.is in
    let rows : List Kept = c.args.rows.now.items in
    let rest : Coordinates = c.in_ok-reduction.reduction.rest in
    let ms : List Multiplier = map (λ m. (m.0, value m.1)) c.in_ok-reduction.reduction.multipliers.items in
    let coordinates = c.coordinates-coordinates.result.now in
    let lead = c.index-coordinates-0.result in
    let filled : length coordinates ≡ 0 → ⊥ = eqb-false (length coordinates) 0 (sym c.is_empty.ensures ∙ c.if-is_empty.false) in
    let some : 0 < length coordinates = omega (arith, filled) in
    let starts = starts_with value coordinates lead some c.index-coordinates-0.is in
    let is : rest ≡ (lead.0, value lead.1) ∷ starts.0 = sym c.coordinates-coordinates.ensures.value ∙ starts.1 in
    let past : n ≤ lead.0 = omega (arith, c.if-lead-len.false, c.len.ensures) in
    let made : AreKeptOf p inputs c.as_slice-3.result.now = subst (AreKeptOf p inputs) (sym c.as_slice-3.ensures.value) c.requires.form.made in
    let sum : IsRestOf p c.as_slice-3.result.now vector rest (map (λ m. (m.0, value m.1)) c.as_slice-multipliers.result.now) =
    subst (λ l. IsRestOf p c.as_slice-3.result.now vector rest (map (λ m. (m.0, value m.1)) l)) (sym c.as_slice-multipliers.ensures.value)
    (subst (λ l. IsRestOf p l vector rest ms) (c.as_slice.ensures.value ∙ sym c.as_slice-3.ensures.value) c.in_ok-reduction.ensures.rest) in
    let coefficients : AreCoefficientsOf p inputs rest (map value c.in_ok-coefficients.coefficients.items) = c.in_ok-coefficients.ensures inputs vector rest refl made at sum in
    constant_is_contradiction p n inputs rest (lead.0, value lead.1) starts.0 (map value c.in_ok-coefficients.coefficients.items) is c.coordinates-coordinates.ensures.valid
    (subst (λ l. IsBelow (length l + 1) rest) c.as_slice-2.ensures.value c.in_ok-reduction.ensures.below) past coefficients
