use Rattle.std.proofs.Common.{◌≡◌, [], ◌∷◌, ◌++◌, ap, ◌∙◌}
use Rattle.ffc_uni.specs.Univariate.{power_of}
use Rattle.ffc_lemmatree.proofs.Writing.{power_none, power_some}
use Rattle.ffc_lemmatree.proofs.written.power_before.Goals as goal
use Rattle.ffc_lemmatree.proofs.written.power_before.Goals.{then-exponent-gt0+in_ok-push, else-exponent-gt0}

pub returns : goal.returns
returns c =
    let power : c.if-exponent-gt0.powers.items ≡ power_of c.args.x c.args.exponent = elim c.if-exponent-gt0.branch [
      | then-exponent-gt0+in_ok-push w ↦
          ap (λ v. v.items) w.powers-is ∙ w.in_ok-push.ensures.items ∙ ap (λ ps. ps ++ (c.args.x, c.args.exponent) ∷ []) c.new-powers.ensures.items ∙ power_some c.args.x c.args.exponent w.if-exponent-gt0.true
      | else-exponent-gt0 w ↦ ap (λ v. v.items) w.powers-is ∙ c.new-powers.ensures.items ∙ power_none c.args.x c.args.exponent w.if-exponent-gt0.false
    ] in
    c.from_vec.ensures ∙ c.in_ok-extend_from_slice.ensures.items ∙ ap (λ m. m ++ c.args.last.now) power
