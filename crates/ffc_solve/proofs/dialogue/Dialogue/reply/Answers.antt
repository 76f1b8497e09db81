use Rattle.std.proofs.lemmas.Bool.{eqb-true}
use Rattle.std.proofs.Common.{vec_len, arith, ◌≡◌, sym, ap₂, ◌∙◌, subst}
use Rattle.ffc_base.specs.Outside.{Appends, AppendsPrefix}
use Rattle.ffc_answer.specs.Answers.{answer_of, last_after}
use Rattle.ffc_solve.specs.Remembering.{remembered_after}
use Rattle.ffc_solve.proofs.AdvanceLemmas.{asked_next}
use Rattle.ffc_solve.proofs.ListLemmas.{on_err, Appends-nil, AppendsPrefix-none, empty_from}
use Rattle.ffc_solve.proofs.dialogue.Dialogue.reply.Goals as goal
use Rattle.ffc_solve.proofs.dialogue.Dialogue.reply.Goals.{then-not-is_empty+in_ok-write_out, else-not-is_empty}

pub answer_to-requires : goal.answer_to-requires
answer_to-requires g c =
    let s = c.args.self.now in
    let (p, entries, l, n) = c.requires.next in
    let last = c.after_effect.ensures ∙ ap₂ remembered_after c.effect_of.ensures c.take-last.ensures.value in
    record { asked = (last_after l n.gives.step.command, n.gives.step, asked_next p s (record s { last = c.after_effect.result }) entries l c.args.command.now c.steps_come_first.ensures (λ i. record s { last = last i }) n) }

pub returns-in_err-text-clause-err : goal.returns-in_err-text-clause-err
returns-in_err-text-clause-err g c = on_err c.from_residual.result _ (λ p entries l n. AppendsPrefix-none (answer_of (last_after l n.gives.step.command) n.gives.step) (g.O.Sink.holds c.args.out.now))

pub returns-in_err-write_out-clause-err : goal.returns-in_err-write_out-clause-err
returns-in_err-write_out-clause-err g c = on_err c.from_residual-in_err-write_out.result _ (λ p entries l n.
    let s = c.args.self.now in
    let last = c.after_effect.ensures ∙ ap₂ remembered_after c.effect_of.ensures c.take-last.ensures.value in
    let text = c.as_slice.ensures.value ∙ c.in_ok-text.ensures (last_after l n.gives.step.command) n.gives.step
    (asked_next p s (record s { last = c.after_effect.result }) entries l c.args.command.now c.steps_come_first.ensures (λ i. record s { last = last i }) n) in
    subst (λ b. AppendsPrefix b (g.O.Sink.holds c.args.out.now) (g.O.Sink.holds c.write_out.new.out)) text c.in_err-write_out.ensures.err)

pub returns-clause-ok : goal.returns-clause-ok
returns-clause-ok g c = λ p entries l n.
    let s = c.args.self.now in
    let last = c.after_effect.ensures ∙ ap₂ remembered_after c.effect_of.ensures c.take-last.ensures.value in
    let answer = answer_of (last_after l n.gives.step.command) n.gives.step in
    let text : c.in_ok-text.text.items ≡ answer = c.in_ok-text.ensures (last_after l n.gives.step.command) n.gives.step
    (asked_next p s (record s { last = c.after_effect.result }) entries l c.args.command.now c.steps_come_first.ensures (λ i. record s { last = last i }) n) in
    elim c.if-not-is_empty.branch [
      | then-not-is_empty+in_ok-write_out w ↦
          subst (λ o. Appends answer (g.O.Sink.holds c.args.out.now) (g.O.Sink.holds o)) (sym w.out-is)
          (subst (λ b. Appends b (g.O.Sink.holds c.args.out.now) (g.O.Sink.holds w.write_out.new.out)) (w.as_slice.ensures.value ∙ text) w.in_ok-write_out.ensures.ok)
      | else-not-is_empty w ↦
          subst (λ o. Appends answer (g.O.Sink.holds c.args.out.now) (g.O.Sink.holds o)) (sym w.out-is)
          (subst (λ b. Appends b (g.O.Sink.holds c.args.out.now) (g.O.Sink.holds c.args.out.now)) (sym (empty_from c.in_ok-text.text.items (let e : vec_len c.in_ok-text.text ≡ 0 = eqb-true (vec_len c.in_ok-text.text) 0 (sym c.is_empty.ensures ∙ w.if-not-is_empty.false) in omega (arith, c.in_ok-text.text.ok.0))) ∙ text) (Appends-nil (g.O.Sink.holds c.args.out.now)))
    ]
