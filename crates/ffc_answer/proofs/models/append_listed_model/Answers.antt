use Rattle.std.proofs.Common.{ℕ, ◌<◌, ◌++◌, length, map, All, sym, ap, ◌∙◌, subst}
use Rattle.std.proofs.lemmas.List.Elements.{All-map}
use Rattle.std.proofs.lemmas.Result.{on_ok_weaker}
use Rattle.ffc_answer.proofs.ModelLemmas.{AreValuesAt, definitions_same, appended_three}
use Rattle.ffc_answer.proofs.models.append_listed_model.Goals as goal

pub values_of-requires-clause-ids : goal.values_of-requires-clause-ids
values_of-requires-clause-ids c =
    let P : ℕ → Type 0 = λ id. id < length c.args.table.now in
    subst (All P) (sym (c.as_slice.ensures.value ∙ c.in_ok-ids.ensures)) (All-map P (λ d. d.node) c.args.declared.now c.requires.declared)

pub returns : goal.returns
returns c =
    let nodes = c.args.table.now in
    let pairs = c.args.pairs.now in
    let are = subst (AreValuesAt nodes pairs c.in_ok-values.values.items) (c.as_slice.ensures.value ∙ c.in_ok-ids.ensures) c.in_ok-values.ensures.at in
    let seen = subst (λ vs. AreValuesAt nodes pairs vs (map (λ d. d.node) c.args.declared.now)) (sym c.as_slice-2.ensures.value) are in
    on_ok_weaker c.append_line-2.result
    (λ last. appended_three c.args.out.now.items _ _ _ _ _ _ c.in_ok-append_line.ensures (c.in_ok-append_definitions.ensures ∙ ap (λ t. c.append_line.new.out.items ++ t) (definitions_same nodes pairs c.as_slice-2.result.now c.args.declared.now seen)) last)
    c.append_line-2.ensures
