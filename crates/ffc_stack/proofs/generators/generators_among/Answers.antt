use Rattle.std.proofs.Common.{cond, [], ◌∷◌, ◌++◌, sym, ap, ◌∙◌, append-nil}
use Rattle.std.specs.List.{filter, range_with_len}
use Rattle.ffc_stack.specs.Marks.{is_marked_generator}
use Rattle.ffc_stack.proofs.FoundLemmas.{kept_next}
use Rattle.ffc_stack.proofs.generators.generators_among.Goals as goal
use Rattle.ffc_stack.proofs.generators.generators_among.Goals.{then-is_found+in_ok-push, else-is_found}

pub loop-place-preserved : goal.loop-place-preserved
loop-place-preserved g c =
    let i = c.loop-place.place in
    let p = is_marked_generator c.args.lines.now c.args.reached.now in
    let front = filter p (range_with_len 0 i) in
    elim c.if-is_found.branch [
      | then-is_found+in_ok-push w ↦
          ap (λ v. v.items) w.numbers-is ∙ w.in_ok-push.ensures.items ∙ ap (λ v. v ++ i ∷ []) c.loop-place.invariant
          ∙ sym (kept_next p i ∙ ap (λ b. front ++ cond b (i ∷ []) []) (sym c.is_found.ensures ∙ w.if-is_found.true))
      | else-is_found w ↦
          ap (λ v. v.items) w.numbers-is ∙ c.loop-place.invariant
          ∙ sym (kept_next p i ∙ ap (λ b. front ++ cond b (i ∷ []) []) (sym c.is_found.ensures ∙ w.if-is_found.false) ∙ append-nil front)
    ]
