use Rattle.std.proofs.Common.{◌≡◌, ◌+◌, ◌++◌, sym, ap, ◌∙◌, append_assoc, string_bytes}
use Rattle.ffc_solve.specs.Generated.{head_text, step_text, steps_text}
use Rattle.ffc_solve.proofs.GeneratedLemmas.{steps-next}
use Rattle.ffc_solve.proofs.generated.make_script.Goals as goal

pub loop-i-preserved : goal.loop-i-preserved
loop-i-preserved c =
    let i = c.loop-i.i in
    let said : string_bytes c.loop-i.text ≡ head_text ++ steps_text 1 i = c.loop-i.invariant in
    let more : string_bytes c.push_step.new.text ≡ string_bytes c.loop-i.text ++ step_text (i + 1) = c.in_ok-push_step.ensures in
    more ∙ ap (λ a. a ++ step_text (i + 1)) said ∙ append_assoc head_text (steps_text 1 i) (step_text (i + 1)) ∙ ap (λ a. head_text ++ a) (sym (steps-next i))
