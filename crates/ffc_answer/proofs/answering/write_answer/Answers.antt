use Rattle.std.proofs.Common.{◌≡◌, ◌++◌, ap, ◌∙◌}
use Rattle.std.proofs.lemmas.Result.{on_ok_weaker}
use Rattle.ffc_answer.specs.Seen.{answer_seen}
use Rattle.ffc_answer.proofs.ListLemmas.{appended_or_not}
use Rattle.ffc_answer.proofs.ViewLemmas.{seen_is_answer}
use Rattle.ffc_answer.proofs.answering.write_answer.Goals as goal

pub returns-clause-seen : goal.returns-clause-seen
returns-clause-seen c =
    let v = c.args.view.now in
    let command = c.args.command.now in
    let text : c.as_slice.result.now ≡ answer_seen v command = c.as_slice.ensures.value ∙ c.in_ok-append_answer.ensures ∙ ap (λ t. t ++ answer_seen v command) c.new-answer.ensures.items in
    on_ok_weaker c.extend_from_slice.result (λ appended. appended ∙ ap (λ t. c.args.out.now.items ++ t) text)
    (appended_or_not c.extend_from_slice.result c.args.out.now.items c.extend_from_slice.new.self.items c.as_slice.result.now c.extend_from_slice.ensures.items)

pub returns-clause-ok : goal.returns-clause-ok
returns-clause-ok c =
    let v = c.args.view.now in
    let command = c.args.command.now in
    on_ok_weaker c.extend_from_slice.result (λ seen l x view. seen ∙ ap (λ t. c.args.out.now.items ++ t) (seen_is_answer v command l x view)) (returns-clause-seen c)
