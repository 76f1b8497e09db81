use Rattle.std.proofs.Common.{◌%◌, ◌<◌, List, [], ◌∷◌, length, map, get_or, sym, ap, ap₂, ◌∙◌, subst}
use Rattle.std.proofs.lemmas.List.{length-map}
use Rattle.std.proofs.lemmas.List.Elements.{All-map}
use Rattle.ffc_field.specs.Modular.{add_mod}
use Rattle.ffc_echelon.specs.Forms.{IsCombination, IsFormOf}
use Rattle.ffc_echelon.specs.Vectors.{Coordinates, coordinate, sum_in}
use Rattle.ffc_macaulay.specs.Refuting.{summands_of}
use Rattle.ffc_macaulay.proofs.solving.value_in.Goals as goal

pub summands_of-requires : goal.summands_of-requires
summands_of-requires g c =
    let p = g.F.Field.ORDER in
    let value = g.F.Field.value in
    let form = c.args.form.now in
    let vs : List Coordinates = c.args.matrix.now.rows.items in
    let combined : IsCombination p vs c.in_ok-unit_vector.field-0 c.in_ok-reduction.reduction.rest (map value c.in_ok-coefficients.coefficients.items) =
    c.in_ok-coefficients.ensures vs c.in_ok-unit_vector.field-0 (subst (λ n. IsFormOf p n vs form) (sym c.requires.form.unknowns) c.requires.form) c.in_ok-reduction.ensures.rest in
    ap length c.as_slice.ensures.value ∙ sym (length-map c.in_ok-coefficients.coefficients.items value) ∙ combined.long ∙ c.requires.rows ∙ ap length (sym c.as_slice-multiples.ensures.value)

pub returns-clause-some : goal.returns-clause-some
returns-clause-some g c =
    let p = g.F.Field.ORDER in
    let value = g.F.Field.value in
    let form = c.args.form.now in
    let vs : List Coordinates = c.args.matrix.now.rows.items in
    let items = c.in_ok-coefficients.coefficients.items in
    let combined : IsCombination p vs c.in_ok-unit_vector.field-0 c.in_ok-reduction.reduction.rest (map value items) =
    c.in_ok-coefficients.ensures vs c.in_ok-unit_vector.field-0 (subst (λ n. IsFormOf p n vs form) (sym c.requires.form.unknowns) c.requires.form) c.in_ok-reduction.ensures.rest in
    record {
      coefficients = map value items;
      residues = All-map (λ x. x < p) value items (λ k i inside. g.met.F.Field.below (get_or items k i));
      value = c.in-Some.ensures.residue;
      sum = record {
        long = combined.long;
        sum = λ k.
            ap (λ r. add_mod p r (sum_in (map value items) vs k))
            (ap (λ n. coordinate ((n, c.in-Some.value) ∷ []) k) (sym c.len.ensures.len) ∙ sym (c.in-Some.ensures.same k))
            ∙ combined.sum k ∙ ap (λ (v : Coordinates). coordinate v k % p) c.in_ok-unit_vector.ensures;
      };
      summands_are = c.in_ok-summands.ensures ∙ ap₂ (λ a b. summands_of a (map value b)) c.as_slice-multiples.ensures.value c.as_slice.ensures.value;
    }
