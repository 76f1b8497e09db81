use Rattle.std.proofs.Common.{◌≡◌, ◌-◌, ◌≤◌, drop, length, sym, ap, ◌∙◌, subst, arith, Ok}
use Rattle.std.proofs.lemmas.List.{length-drop}
use Rattle.ffc_lex.proofs.HeldLemmas.{kept_le_at}
use Rattle.ffc_lex.specs.Scan.{AfterTake, IsReady}
use Rattle.ffc_lex.proofs.scanning.Scanner.scan.Goals as goal

pub loop-self-preserved : goal.loop-self-preserved
loop-self-preserved c = record {
  kept = c.in-Ok-None.ensures.kept ∙ c.loop-self.invariant.kept;
  within = omega (arith, c.in-Ok-None.ensures.step, c.in-Ok-None.ensures.kept, ap (λ v. v.at.index) c.self.view_is, ap (λ v. v.kept) c.self.view_is, c.loop-self-test.true);
  read = λ n text window ready.
      subst (λ o. AfterTake (Ok o) n text c.take.new.self) c.in-Ok-None.field-0-is
      (c.in-Ok-None.ensures.read n text (window ∙ ap (λ k. drop k text) (sym c.loop-self.invariant.kept)) (c.loop-self.invariant.read n text window ready));
}

pub returns-in-Ok-Some-clause-read : goal.returns-in-Ok-Some-clause-read
returns-in-Ok-Some-clause-read c n text window ready =
    subst (λ o. AfterTake (Ok o) n text c.take.new.self) c.in-Ok-Some.field-0-is
    (c.in-Ok-Some.ensures.read n text (window ∙ ap (λ k. drop k text) (sym c.loop-self.invariant.kept)) (c.loop-self.invariant.read n text window ready))

pub returns-in-Err-clause-read : goal.returns-in-Err-clause-read
returns-in-Err-clause-read c n text window ready =
    c.in-Err.ensures.read n text (window ∙ ap (λ k. drop k text) (sym c.loop-self.invariant.kept)) (c.loop-self.invariant.read n text window ready)

pub returns-clause-read : goal.returns-clause-read
returns-clause-read c n text window ready =
    let now : IsReady n text c.loop-self.self = c.loop-self.invariant.read n text window ready in
    let len : length c.args.window.now ≡ length text - c.args.self.now.kept = ap length window ∙ length-drop c.args.self.now.kept text in
    let kept : c.loop-self.self.kept ≡ c.args.self.now.kept = c.loop-self.invariant.kept in
    let low : c.self.inside.kept ≤ c.self.inside.at.index = kept_le_at c.self.inside.kept c.self.inside.at c.self.inside.start c.self.inside.mode c.self.inside.depth c.self.inside.tokens.items c.self.invariant in
    (now, omega (arith, len, kept, low, now.within, c.loop-self.invariant.within, ap (λ v. v.at.index) c.self.view_is, ap (λ v. v.kept) c.self.view_is, c.loop-self-test.false))

pub overflow_sub-self-inside : goal.overflow_sub-self-inside
overflow_sub-self-inside c = kept_le_at c.self.inside.kept c.self.inside.at c.self.inside.start c.self.inside.mode c.self.inside.depth c.self.inside.tokens.items c.self.invariant
