use Rattle.std.proofs.Common.{◌≡◌, ℕ, Bool, List, map, sym, ap, ◌∙◌, subst, Bor}
use Rattle.std.specs.Result.{IfOk}
use Rattle.ffc_verify.specs.Arguments.{wants_bits}
use Rattle.ffc_report.specs.declared.judging.Judged.{Judged}
use Rattle.ffc_report.specs.declared.judging.Verdict.TheVariants.{Decided}
use Rattle.ffc_report.specs.Decided.{IsDecided}
use Rattle.ffc_report.proofs.WordLemmas.{bits_are_wanted, no_bits_are_wanted}
use Rattle.ffc_report.proofs.judging.judge_in_memory.Goals as goal

pub returns-then-bits : goal.returns-then-bits
returns-then-bits c =
    let wanted : wants_bits (map (λ (w : Bor (List ℕ)). w.now) c.as_slice.result.now) ≡ c.args.bits =
    ap (λ (words : List (Bor (List ℕ))). wants_bits (map (λ w. w.now) words)) c.as_slice.ensures ∙ bits_are_wanted ∙ sym c.if-bits.true in
    subst (λ (bits : Bool). IfOk c.judge_with.result (λ (judged : Judged). judged.verdict ≡ Decided → IsDecided bits c.args.script.now c.args.certificate.now)) wanted c.judge_with.ensures

pub returns-else-bits : goal.returns-else-bits
returns-else-bits c =
    let wanted : wants_bits (map (λ (w : Bor (List ℕ)). w.now) c.as_slice-else-bits.result.now) ≡ c.args.bits =
    ap (λ (words : List (Bor (List ℕ))). wants_bits (map (λ w. w.now) words)) c.as_slice-else-bits.ensures ∙ no_bits_are_wanted ∙ sym c.if-bits.false in
    subst (λ (bits : Bool). IfOk c.judge_with-else-bits.result (λ (judged : Judged). judged.verdict ≡ Decided → IsDecided bits c.args.script.now c.args.certificate.now)) wanted c.judge_with-else-bits.ensures
