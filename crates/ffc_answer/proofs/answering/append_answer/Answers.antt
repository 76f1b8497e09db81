use Rattle.std.proofs.Common.{ℕ, length, ◌<◌, All, sym, subst}
use Rattle.ffc_elab.specs.declared.answers.Asked.{Asked}
use Rattle.ffc_elab.specs.Contexts.{asked_nodes}
use Rattle.ffc_elab.proofs.ContextLemmas.{from_map}
use Rattle.ffc_answer.specs.Seen.{nodes_seen}
use Rattle.ffc_answer.proofs.answering.append_answer.Goals as goal

pub append_values-requires-clause-asked : goal.append_values-requires-clause-asked
append_values-requires-clause-asked c =
    let v = c.args.view.now in
    let P : ℕ → Type 0 = λ id. id < length (nodes_seen v) in
    subst (All (λ (a : Asked). P a.node)) (sym c.as_slice.ensures.value) (from_map P (λ (a : Asked). a.node) c.in-GetValue.asked.items (subst (λ m. All P (asked_nodes m)) c.in-GetValue.is c.requires.asked))
