use Rattle.std.proofs.Common.{List, ℕ, map, subst, refl, inl, inr}
use Rattle.std.specs.Option.{IfSome}
use Rattle.std.specs.Borrow.{Bor}
use Rattle.ffc_verify.specs.declared.verify.CheckStatus.TheVariants as status
use Rattle.ffc_verify.specs.Arguments.{cert_name, wants_bits, wants_cores}
use Rattle.ffc_verify.specs.Status.{AllHaveEntries}
use Rattle.ffc_verify.proofs.DueLemmas.{left_same, left_nothing, left_accepted}
use Rattle.ffc_verify.proofs.StopLemmas.{if_any}
use Rattle.ffc_verify.proofs.PieceLemmas.{nothing_takes}
use Rattle.ffc_verify.proofs.verify.check_main.Goals as goal

pub returns-in-Err-Usage-clause-left : goal.returns-in-Err-Usage-clause-left
returns-in-Err-Usage-clause-left g c =
    let words = map (λ (w : Bor (List ℕ)). w.now) c.args.words.now in
    let out = g.O.Sink.holds c.args.out.now in
    left_same status.Usage (wants_bits words) (wants_cores words) (g.S.Source.left c.args.script.now) (g.C.NamedSource.contents c.args.cert.now (cert_name words)) out (λ d. left_nothing status.Usage (inl refl) out d)

pub returns-in-Err-Usage-clause-script : goal.returns-in-Err-Usage-clause-script
returns-in-Err-Usage-clause-script g c = if_any _ _ (λ bytes. tt)

pub returns-in-Err-Memory-clause-left : goal.returns-in-Err-Memory-clause-left
returns-in-Err-Memory-clause-left g c =
    let words = map (λ (w : Bor (List ℕ)). w.now) c.args.words.now in
    let out = g.O.Sink.holds c.args.out.now in
    left_same status.Memory (wants_bits words) (wants_cores words) (g.S.Source.left c.args.script.now) (g.C.NamedSource.contents c.args.cert.now (cert_name words)) out (λ d. left_nothing status.Memory (inr (inr (inr refl))) out d)

pub returns-in-Err-Memory-clause-script : goal.returns-in-Err-Memory-clause-script
returns-in-Err-Memory-clause-script g c = if_any _ _ (λ bytes. tt)

pub returns-clause-accepted_means : goal.returns-clause-accepted_means
returns-clause-accepted_means g c = λ e.
    let left = g.S.Source.left c.args.script.now in
    let contents = g.C.NamedSource.contents c.args.cert.now in
    let plan = c.in-Ok.plan in
    subst (λ b. IfSome left (λ bytes. IfSome (contents (cert_name (map (λ (w : Bor (List ℕ)). w.now) c.args.words.now))) (λ certificate. AllHaveEntries b bytes certificate))) c.in-Ok.ensures.bits
    (subst (λ n. IfSome left (λ bytes. IfSome (contents n) (λ certificate. AllHaveEntries plan.bits bytes certificate))) c.in-Ok.ensures.cert
    (left_accepted plan.bits plan.cores left (contents plan.cert.now) c.run_plan.result (g.O.Sink.holds c.args.out.now) (g.O.Sink.holds c.run_plan.new.out) e c.run_plan.ensures.left))

pub returns-in-Err-Usage-clause-taken : goal.returns-in-Err-Usage-clause-taken
returns-in-Err-Usage-clause-taken g c = nothing_takes (g.S.Source.left c.args.script.now)

pub returns-in-Err-Memory-clause-taken : goal.returns-in-Err-Memory-clause-taken
returns-in-Err-Memory-clause-taken g c = nothing_takes (g.S.Source.left c.args.script.now)
