use Rattle.std.proofs.Common.{subst}
use Rattle.ffc_elab.specs.Kept.{IsKept}
use Rattle.ffc_elab.specs.Changes.{in_state, opened, with_state}
use Rattle.ffc_elab.proofs.ChangeLemmas.{settled_opened}
use Rattle.ffc_elab.proofs.store.Store.take_plain.Goals as goal

pub returns-clause-ok : goal.returns-clause-ok
returns-clause-ok c = λ k within h.
    let p = c.args.plain in
    let s = opened p k.state in
    (subst (λ v. IsKept (in_state v) c.settle.new.self) (settled_opened p k.state) (c.settle.ensures s (c.forget_assumptions.ensures (with_state k s) (c.in_ok-open.ensures.ok k within h))), c.in_ok-answer.ensures k h)
