use Rattle.std.proofs.Common.{◌-◌, ◌++◌, get_or, drop, reverse, length, sym, ap, ◌∙◌, arith}
use Rattle.std.proofs.lemmas.List.{drop_all}
use Rattle.ffc_uni.proofs.Rows.{left_before}
use Rattle.ffc_cktree.specs.Waiting.{cases_at}
use Rattle.ffc_cktree.proofs.SumLemmas.{get_or-any}
use Rattle.ffc_cktree.proofs.CaseLemmas.{case_pushed}
use Rattle.ffc_cktree.proofs.cases.push_cases.Goals as goal

pub loop-place-init : goal.loop-place-init
loop-place-init c =
    let roots = c.args.roots.now in
    sym (ap (λ l. cases_at c.args.mark c.args.x l ++ reverse c.args.waiting.now.items) (drop_all (length roots) roots (omega arith)))

pub loop-place-preserved : goal.loop-place-preserved
loop-place-preserved c =
    let roots = c.args.roots.now in
    let place = c.loop-place.place in
    let root = get_or roots (place - 1) 0 in
    let left = left_before roots place root c.loop-place-test.true c.loop-place.auto.place (get_or-any roots (place - 1) 0 root (omega (arith, c.loop-place-test.true, c.loop-place.auto.place))) in
    let old = reverse c.args.waiting.now.items in
    case_pushed c.loop-place.waiting.items c.push.new.self.items (record { mark = c.args.mark; variable = c.args.x; root = root }) (cases_at c.args.mark c.args.x (drop place roots)) old c.in_ok-push.ensures.items c.loop-place.invariant
    ∙ ap (λ l. cases_at c.args.mark c.args.x l ++ old) (sym left)
