use Rattle.std.proofs.Common.{get_or, refl, ap, ◌∙◌}
use Rattle.std.proofs.lemmas.List.{take_all}
use Rattle.ffc_lemmatree.specs.Written.{appended, written_in}
use Rattle.ffc_lemmatree.proofs.Writing.{term_left_out, term_written}
use Rattle.ffc_lemmatree.proofs.written.terms_before.Goals as goal
use Rattle.ffc_lemmatree.proofs.written.terms_before.Goals.{then-coefficient-ne0+in_ok-power_before+in_ok-push, else-coefficient-ne0}

pub loop-place-preserved : goal.loop-place-preserved
loop-place-preserved c =
    let a = c.args.coefficients.now in
    let i = c.loop-place.place in
    elim c.if-coefficient-ne0.branch [
      | then-coefficient-ne0+in_ok-power_before+in_ok-push w ↦
          ap (λ v. v.items) w.terms-is
          ∙ term_written c.args.last.now c.args.x a i (get_or a i 0) c.loop-place.terms.items w.push.new.self.items w.in_ok-power_before.field-0 c.loop-place-test.true refl w.if-coefficient-ne0.true c.loop-place.invariant w.in_ok-power_before.ensures w.in_ok-push.ensures.items
      | else-coefficient-ne0 w ↦
          ap (λ v. v.items) w.terms-is
          ∙ term_left_out c.args.last.now c.args.x a i (get_or a i 0) c.loop-place.terms.items c.loop-place-test.true refl w.if-coefficient-ne0.false c.loop-place.invariant
    ]

pub returns : goal.returns
returns c = c.loop-place.invariant ∙ ap (λ a. appended c.args.last.now (written_in c.args.x a)) (take_all c.loop-place.place c.args.coefficients.now c.loop-place-test.false)
