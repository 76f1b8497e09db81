use Rattle.ffc_solve.proofs.ViewLemmas.{view_is}
use Rattle.std.proofs.Common.{◌∙◌, ap, ◌++◌}
use Rattle.ffc_answer.specs.Answers.{answer_of}
use Rattle.ffc_answer.proofs.ViewLemmas.{view_can_answer}
use Rattle.ffc_solve.proofs.dialogue.Dialogue.answer_to.Goals as goal

pub write_answer-requires : goal.write_answer-requires
write_answer-requires c =
    let (l, x, asked) = c.requires.asked in
    let v = c.view.ensures in
    view_can_answer c.view.result c.args.command.now l x (view_is c.args.self.now c.view.result c.args.command.now l x asked v.context v.last v.fresh v.core v.asked)

pub returns : goal.returns
returns c = λ l x asked.
    let v = c.view.ensures in
    c.in_ok-write_answer.ensures.ok l x (view_is c.args.self.now c.view.result c.args.command.now l x asked v.context v.last v.fresh v.core v.asked) ∙ ap (λ b. b ++ answer_of l x) c.new-text.ensures.items
