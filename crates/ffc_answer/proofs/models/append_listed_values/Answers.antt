use Rattle.std.proofs.Common.{ℕ, ◌<◌, ◌++◌, length, map, All, sym, ap, ◌∙◌, subst}
use Rattle.std.proofs.lemmas.List.Elements.{All-map}
use Rattle.ffc_answer.specs.Answers.{listed}
use Rattle.std.proofs.lemmas.Result.{on_ok_weaker}
use Rattle.ffc_answer.proofs.ModelLemmas.{AreValuesAt, pairs_same}
use Rattle.ffc_answer.proofs.models.append_listed_values.Goals as goal

pub values_of-requires-clause-ids : goal.values_of-requires-clause-ids
values_of-requires-clause-ids c =
    let P : ℕ → Type 0 = λ id. id < length c.args.table.now in
    subst (All P) (sym (c.as_slice.ensures.value ∙ c.in_ok-ids.ensures)) (All-map P (λ a. a.node) c.args.asked.now c.requires.asked)

pub returns : goal.returns
returns c =
    let nodes = c.args.table.now in
    let pairs = c.args.pairs.now in
    let are = subst (AreValuesAt nodes pairs c.in_ok-values.values.items) (c.as_slice.ensures.value ∙ c.in_ok-ids.ensures) c.in_ok-values.ensures.at in
    let seen = subst (λ vs. AreValuesAt nodes pairs vs (map (λ d. d.node) c.args.asked.now)) (sym c.as_slice-2.ensures.value) are in
    let texts = c.as_slice-3.ensures.value ∙ c.in_ok-texts.ensures ∙ pairs_same nodes pairs c.as_slice-2.result.now c.args.asked.now seen in
    on_ok_weaker c.append_list.result (λ last. last ∙ ap (λ ts. c.args.out.now.items ++ listed ts) texts) c.append_list.ensures
