use Rattle.std.proofs.Common.{ℕ, false, cond, get_or, ◌++◌, ◌∷◌, [], sym, ap, ◌∙◌, append-nil}
use Rattle.std.specs.List.{filter, range_with_len}
use Rattle.ffc_core.proofs.MarkLemmas.{kept_next}
use Rattle.ffc_core.proofs.marks.marked.Goals as goal
use Rattle.ffc_core.proofs.marks.marked.Goals.{then-marks-i+in_ok-push, else-marks-i}

pub loop-i-preserved : goal.loop-i-preserved
loop-i-preserved c =
    let i = c.loop-i.i in
    let p = λ (k : ℕ). get_or c.args.marks.now k false in
    let front = filter p (range_with_len 0 i) in
    elim c.if-marks-i.branch [
      | then-marks-i+in_ok-push w ↦
          ap (λ v. v.items) w.out-is ∙ w.in_ok-push.ensures.items ∙ ap (λ v. v ++ i ∷ []) c.loop-i.invariant
          ∙ sym (kept_next p i ∙ ap (λ b. front ++ cond b (i ∷ []) []) w.if-marks-i.true)
      | else-marks-i w ↦
          ap (λ v. v.items) w.out-is ∙ c.loop-i.invariant
          ∙ sym (kept_next p i ∙ ap (λ b. front ++ cond b (i ∷ []) []) w.if-marks-i.false ∙ append-nil front)
    ]
