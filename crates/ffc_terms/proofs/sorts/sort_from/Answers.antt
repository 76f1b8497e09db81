use Rattle.std.proofs.Common.{◌+◌, ◌<◌, ◌≤◌, length, Err, rules, arith, sym, ap, ◌∙◌}
use Rattle.ffc_smt.specs.Faults.{word_fault}
use Rattle.ffc_words.specs.Words.{fault_of}
use Rattle.ffc_terms.proofs.SortLemmas.{run_more, run_whole, run_failed, run_past, no_word_at}
use Rattle.ffc_terms.proofs.sorts.sort_from.Goals as goal

pub returns-in-Err : goal.returns-in-Err
returns-in-Err c =
    let more : c.loop-i.i < length c.args.words.now = search rules in
    sym c.loop-i.invariant ∙ run_failed c.args.sorts.now c.args.words.now c.loop-i.i c.loop-i.stage (fault_of c.in-Err.fault) more (search rules)

pub returns-in-Ok-Whole : goal.returns-in-Ok-Whole
returns-in-Ok-Whole c =
    let more : c.loop-i.i < length c.args.words.now = search rules in
    let within : c.loop-i.i + 1 ≤ length c.args.words.now = omega arith in
    (sym c.loop-i.invariant ∙ run_whole c.args.sorts.now c.args.words.now c.loop-i.i c.loop-i.stage c.in-Ok-Whole.sort more (search rules), within)

pub loop-i-preserved : goal.loop-i-preserved
loop-i-preserved c =
    let more : c.loop-i.i < length c.args.words.now = search rules in
    sym (run_more c.args.sorts.now c.args.words.now c.loop-i.i c.loop-i.stage c.in-Ok-More.next more (search rules)) ∙ c.loop-i.invariant

pub returns : goal.returns
returns c =
    let past : length c.args.words.now ≤ c.loop-i.i = search rules in
    let after : length c.args.words.now ≤ c.len.result = search rules in
    sym c.loop-i.invariant ∙ run_past c.args.sorts.now c.args.words.now c.loop-i.i c.loop-i.stage past
    ∙ ap Err (sym (c.fault.ensures ∙ ap (word_fault 5) (no_word_at c.args.words.now c.len.result after)))
