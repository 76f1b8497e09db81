use Rattle.std.proofs.Common.{◌≡◌, ◌≤◌, arith, ℕ, ◌+◌, ◌-◌, false, get_or, sym, ap, ◌∙◌}
use Rattle.ffc_lex.specs.Scan.{IsFacing, is_ended_by}
use Rattle.ffc_lex.proofs.HeldLemmas.{faced, kept_le_at}
use Rattle.ffc_lex.proofs.StepLemmas.{limit_fault}
use Rattle.ffc_lex.proofs.BetweenLemmas.{stop_after, stop_at}
use Rattle.ffc_lex.proofs.scanning.Scanner.take.Goals as goal

pub returns-then-self-eq-MAX_BYTES-clause-read : goal.returns-then-self-eq-MAX_BYTES-clause-read
returns-then-self-eq-MAX_BYTES-clause-read c n text window ready =
    let byte : ℕ = get_or c.args.window.now (c.self.inside.at.index - c.self.inside.kept) 0 in
    let facing : IsFacing n text byte c.args.self.now = faced n text c.args.window.now c.self.inside.at.index c.self.inside.kept c.args.self.now window ready
    (ap (λ v. v.at.index) c.self.view_is) (ap (λ v. v.kept) c.self.view_is)
    (kept_le_at c.self.inside.kept c.self.inside.at c.self.inside.start c.self.inside.mode c.self.inside.depth c.self.inside.tokens.items c.self.invariant) c.requires in
    let after : IsFacing n text byte c.end_before.new.self × (is_ended_by c.end_before.new.self.mode byte ≡ false) = c.in_ok-end_before.ensures.ended n text window facing in
    stop_at c.fault_at.result 17 c.self-2.inside.at c.end_before.new.self.at n text c.end_before.new.self c.fault_at.ensures (ap (λ v. v.at) c.self-2.view_is)
    (limit_fault n text byte c.end_before.new.self after.0 (sym (ap (λ v. v.at.index) c.self-2.view_is) ∙ c.if-self-eq-MAX_BYTES.true) after.1)

pub returns-in-Between-clause-read : goal.returns-in-Between-clause-read
returns-in-Between-clause-read c n text window ready =
    let byte : ℕ = get_or c.args.window.now (c.self.inside.at.index - c.self.inside.kept) 0 in
    let facing : IsFacing n text byte c.args.self.now = faced n text c.args.window.now c.self.inside.at.index c.self.inside.kept c.args.self.now window ready
    (ap (λ v. v.at.index) c.self.view_is) (ap (λ v. v.kept) c.self.view_is)
    (kept_le_at c.self.inside.kept c.self.inside.at c.self.inside.start c.self.inside.mode c.self.inside.depth c.self.inside.tokens.items c.self.invariant) c.requires in
    let after : IsFacing n text byte c.end_before.new.self × (is_ended_by c.end_before.new.self.mode byte ≡ false) = c.in_ok-end_before.ensures.ended n text window facing in
    c.take_between.ensures.read n text after.0 (sym (ap (λ v. v.mode) c.self-2.view_is) ∙ c.in-Between.is)

pub returns-in-Ok : goal.returns-in-Ok
returns-in-Ok c = record {
  kept = c.in-Ok.ensures.kept ∙ c.in_ok-end_before.ensures.kept;
  held = tt;
  step = c.in-Ok.ensures.step ∙ ap (λ p. p.index + 1) c.in_ok-end_before.ensures.same;
  read = λ n text window ready.
      let byte : ℕ = get_or c.args.window.now (c.self.inside.at.index - c.self.inside.kept) 0 in
      let facing : IsFacing n text byte c.args.self.now = faced n text c.args.window.now c.self.inside.at.index c.self.inside.kept c.args.self.now window ready
      (ap (λ v. v.at.index) c.self.view_is) (ap (λ v. v.kept) c.self.view_is)
      (kept_le_at c.self.inside.kept c.self.inside.at c.self.inside.start c.self.inside.mode c.self.inside.depth c.self.inside.tokens.items c.self.invariant) c.requires in
      let after : IsFacing n text byte c.end_before.new.self × (is_ended_by c.end_before.new.self.mode byte ≡ false) = c.in_ok-end_before.ensures.ended n text window facing in
      c.in-Ok.ensures.read n text after.0 after.1 (λ between. c.in_default.not-Between (ap (λ v. v.mode) c.self-2.view_is ∙ between));
}

pub returns-in-Err : goal.returns-in-Err
returns-in-Err c = record {
  kept = c.in-Err.ensures.kept ∙ c.in_ok-end_before.ensures.kept;
  held = tt;
  step = tt;
  read = λ n text window ready.
      let byte : ℕ = get_or c.args.window.now (c.self.inside.at.index - c.self.inside.kept) 0 in
      let facing : IsFacing n text byte c.args.self.now = faced n text c.args.window.now c.self.inside.at.index c.self.inside.kept c.args.self.now window ready
      (ap (λ v. v.at.index) c.self.view_is) (ap (λ v. v.kept) c.self.view_is)
      (kept_le_at c.self.inside.kept c.self.inside.at c.self.inside.start c.self.inside.mode c.self.inside.depth c.self.inside.tokens.items c.self.invariant) c.requires in
      let after : IsFacing n text byte c.end_before.new.self × (is_ended_by c.end_before.new.self.mode byte ≡ false) = c.in_ok-end_before.ensures.ended n text window facing in
      c.in-Err.ensures.read n text after.0 after.1 (λ between. c.in_default.not-Between (ap (λ v. v.mode) c.self-2.view_is ∙ between));
}

pub overflow_sub-byte : goal.overflow_sub-byte
overflow_sub-byte c = kept_le_at c.self.inside.kept c.self.inside.at c.self.inside.start c.self.inside.mode c.self.inside.depth c.self.inside.tokens.items c.self.invariant

pub bounds-window-self-inside : goal.bounds-window-self-inside
bounds-window-self-inside c =
    let low : c.self.inside.kept ≤ c.self.inside.at.index = kept_le_at c.self.inside.kept c.self.inside.at c.self.inside.start c.self.inside.mode c.self.inside.depth c.self.inside.tokens.items c.self.invariant in
    omega (arith, low, c.requires, ap (λ v. v.at.index) c.self.view_is, ap (λ v. v.kept) c.self.view_is)

pub returns-in_err-end_before-clause-read : goal.returns-in_err-end_before-clause-read
returns-in_err-end_before-clause-read c n text window ready =
    let byte : ℕ = get_or c.args.window.now (c.self.inside.at.index - c.self.inside.kept) 0 in
    let facing : IsFacing n text byte c.args.self.now = faced n text c.args.window.now c.self.inside.at.index c.self.inside.kept c.args.self.now window ready
    (ap (λ v. v.at.index) c.self.view_is) (ap (λ v. v.kept) c.self.view_is)
    (kept_le_at c.self.inside.kept c.self.inside.at c.self.inside.start c.self.inside.mode c.self.inside.depth c.self.inside.tokens.items c.self.invariant) c.requires in
    stop_after c.from_residual.result c.in_err-end_before.field-0.0 n text c.end_before.new.self c.from_residual.ensures.1 (c.in_err-end_before.ensures.ended n text window facing)
