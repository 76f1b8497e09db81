use Rattle.std.proofs.Common.{◌≡◌, ◌-◌, ◌≤◌, length, refl, ap, ◌∙◌, subst, sym, arith}
use Rattle.std.proofs.lemmas.Result.{err_from_is_err_and}
use Rattle.ffc_base.specs.Metering.{Spending, total}
use Rattle.ffc_check.specs.Judged.{judged_check}
use Rattle.ffc_trials.proofs.LimitLemmas.{memory_caused, stopped_by_memory, all_spent, first-is}
use Rattle.ffc_theory.proofs.deciding.decide_large.Goals as goal

pub returns-in_err-enumeration-clause-caused : goal.returns-in_err-enumeration-clause-caused
returns-in_err-enumeration-clause-caused c = let p = err_from_is_err_and c.from_residual.result c.from_residual.ensures.1 in rw (p.1, p.2) (memory_caused (judged_check c.args.check.now) c.args.steps)

pub returns-in_err-entry-clause-caused : goal.returns-in_err-entry-clause-caused
returns-in_err-entry-clause-caused c =
    let p = err_from_is_err_and c.from_residual-in_err-entry.result c.from_residual-in_err-entry.ensures.1 in
    rw (p.1, p.2) (stopped_by_memory (judged_check c.args.check.now) c.args.steps c.in_err-entry.field-0.0 c.in_err-entry.ensures.only)

pub returns-clause-caused : goal.returns-clause-caused
returns-clause-caused c =
    let check = judged_check c.args.check.now in
    let first = first-is check c.args.steps c.len.result c.first_count-first.result
    (c.len.ensures ∙ c.args.cone.now.nodes.ok.0 ∙ ap length c.requires.cone.all) c.first_count-first.ensures.count in
    let tried = total c.go_on-2.new.meter in
    let enough : c.first_count-first.result ≤ tried =
    let within = c.first_count-first.ensures.within in
    let early = c.min-early.ensures in
    let begun = ap total c.new-trials.ensures in
    let once = c.if-go_on.ensures.spent refl in
    let twice = c.if-go_on-2.ensures.spent refl in
    let budget : c.proposed.new.meter.budget ≡ c.args.steps - c.first_count-first.result = c.in_ok-entry.ensures.same_budget ∙ ap (λ (m : Spending). m.budget) c.new-engine.ensures in
    let units = c.spent.ensures.within in
    omega arith in
    all_spent check c.args.steps c.requires.large c.spent_by.result tried c.requires.within c.spent_by.ensures (subst (λ n. n ≤ tried) (sym first) enough) (c.if-go_on-2.ensures.none refl).none
