use Rattle.std.proofs.Common.{ℕ, ◌*◌, ◌<◌, ◌≤◌, ◌^◌, List, length, min, All, sym, ap, ◌∙◌, subst, arith}
use Rattle.ffc_term.specs.Measuring.{span_of}
use Rattle.ffc_check.specs.Judged.{judged_check}
use Rattle.ffc_trials.proofs.EnumerateLemmas.{constants_within}
use Rattle.ffc_trials.proofs.LimitLemmas.{too_much_work, too_many, is_small_span}
use Rattle.ffc_trials.proofs.limits.small_span.Goals as goal

pub span_among-span-requires : goal.span_among-span-requires
span_among-span-requires c =
    subst (All (λ id. id < length c.args.check.now.table.now)) (sym c.as_slice.ensures.value) (constants_within (judged_check c.args.check.now) c.requires.valid c.args.cone.now c.requires.cone)

pub returns-then-span-len-gt-MOST_WORK-clause-large : goal.returns-then-span-len-gt-MOST_WORK-clause-large
returns-then-span-len-gt-MOST_WORK-clause-large c =
    let cone = c.args.cone.now in
    let span = c.span_among-span.result in
    let is = c.span_among-span.ensures ∙ ap (λ (ids : List ℕ). min (span_of c.args.check.now.table.now ids) (2 ^ 64)) c.as_slice.ensures.value in
    too_much_work (judged_check c.args.check.now) cone c.requires.cone span c.args.steps is
    (subst (λ n. 16777216 < span * n) (c.len.ensures ∙ cone.nodes.ok.0) c.if-span-len-gt-MOST_WORK.true)

pub returns-then-span-from-clause-large : goal.returns-then-span-from-clause-large
returns-then-span-from-clause-large c =
    let is = c.span_among-span.ensures ∙ ap (λ (ids : List ℕ). min (span_of c.args.check.now.table.now ids) (2 ^ 64)) c.as_slice.ensures.value in
    let same = c.from.ensures in
    too_many (judged_check c.args.check.now) c.args.cone.now c.requires.cone c.span_among-span.result c.args.steps is (omega (arith, c.if-span-from.true))

pub returns-clause-small : goal.returns-clause-small
returns-clause-small c =
    let cone = c.args.cone.now in
    let span = c.span_among-span.result in
    let is = c.span_among-span.ensures ∙ ap (λ (ids : List ℕ). min (span_of c.args.check.now.table.now ids) (2 ^ 64)) c.as_slice.ensures.value in
    let same = c.from.ensures in
    let fits = c.ranges.steps in
    is_small_span (judged_check c.args.check.now) cone c.requires.cone span c.args.steps is (omega arith)
    (subst (λ n. span * n ≤ 16777216) (c.len.ensures ∙ cone.nodes.ok.0) c.if-span-len-gt-MOST_WORK.false) (omega (arith, c.if-span-from.false))
