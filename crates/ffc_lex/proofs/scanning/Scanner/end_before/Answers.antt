use Rattle.std.proofs.Common.{◌≡◌, ◌≤◌, refl, sym, ap, ◌∙◌, subst, false, arith}
use Rattle.ffc_lex.specs.Scan.{IsFacing, is_ended_by, reach}
use Rattle.ffc_lex.proofs.HeldLemmas.{ended_reach, kept_le_reach}
use Rattle.ffc_lex.proofs.StepLemmas.{ended_token, ended_fault}
use Rattle.ffc_lex.proofs.BetweenLemmas.{stop_at}
use Rattle.ffc_lex.proofs.scanning.Scanner.end_before.Goals as goal

pub returns-in_ok-push-in-Some-clause-ended : goal.returns-in_ok-push-in-Some-clause-ended
returns-in_ok-push-in-Some-clause-ended c n text window facing =
    subst (λ s. IsFacing n text c.args.byte s × (is_ended_by s.mode c.args.byte ≡ false)) (sym c.in_ok-push-in-Some.ensures.ok) (
      ended_token n text c.args.byte c.args.self.now c.in-Some.kind facing (sym c.ends_before.ensures ∙ c.if-not-ends_before.false)
          (sym (c.kind_so_far.ensures text window) ∙ c.in-Some.is),
      refl,
    )

pub returns-in-None-clause-ended : goal.returns-in-None-clause-ended
returns-in-None-clause-ended c n text window facing =
    stop_at c.fault_at.result 1 c.self.inside.start c.args.self.now.start n text c.args.self.now c.fault_at.ensures (ap (λ v. v.start) c.self.view_is)
    (ended_fault n text c.args.byte c.args.self.now facing (sym c.ends_before.ensures ∙ c.if-not-ends_before.false) (sym (c.kind_so_far.ensures text window) ∙ c.in-None.is))

pub push-requires : goal.push-requires
push-requires c =
    let low : c.self.inside.kept ≤ reach c.self.inside.mode c.self.inside.at c.self.inside.start = kept_le_reach c.self.inside.kept c.self.inside.at c.self.inside.start c.self.inside.mode c.self.inside.depth c.self.inside.tokens.items c.self.invariant in
    let here : reach c.self.inside.mode c.self.inside.at c.self.inside.start ≡ c.self.inside.start.index =
    ended_reach c.self.inside.mode c.args.byte c.self.inside.at c.self.inside.start (ap (λ v. is_ended_by v.mode c.args.byte) c.self.view_is ∙ (sym c.ends_before.ensures ∙ c.if-not-ends_before.false)) in
    record { held = omega (arith, low, here, ap (λ v. v.kept) c.self.view_is, ap (λ v. v.start.index) c.self.view_is) }
