use Rattle.std.proofs.Common.{◌<◌, ◌≤◌, ◌+◌, length, Err, rules, arith, refl, sym, ap, ◌∙◌}
use Rattle.ffc_smt.specs.Faults.{word_fault}
use Rattle.ffc_words.specs.Words.{word_at}
use Rattle.ffc_terms.proofs.BelowLemmas.{going_below, below_least}
use Rattle.ffc_terms.proofs.SortLemmas.{no_word_at}
use Rattle.ffc_terms.proofs.WalkLemmas.{run_going, run_done, run_past, run_stopped}
use Rattle.ffc_terms.proofs.terms.term_from.Goals as goal

pub step-requires : goal.step-requires
step-requires c = below_least c.loop-i.i _ c.loop-i.walk (search rules) c.loop-i.invariant.below

pub returns-in-Ok-Some : goal.returns-in-Ok-Some
returns-in-Ok-Some c =
    let more : c.loop-i.i < length c.args.reader.now.words.now = search rules in
    let done = run_done c.args.reader.now.limit c.args.reader.now.symbols.now c.args.reader.now.words.now c.loop-i.i c.loop-i.walk c.in-Ok-Some.value c.step.new.self.code more (search rules) in
    let within : c.loop-i.i + 1 ≤ length c.args.reader.now.words.now = omega arith in (
      (c.in-Ok-Some.value, c.step.new.self.code, _),
      sym c.loop-i.invariant.same ∙ done,
      record { sort = refl; height = refl; weight = refl; code = search rules; within = within; rest = refl },
    )

pub returns-in-Err : goal.returns-in-Err
returns-in-Err c =
    let more : c.loop-i.i < length c.args.reader.now.words.now = search rules in
    run_stopped c.args.reader.now.limit c.args.reader.now.symbols.now c.args.reader.now.words.now c.loop-i.i c.loop-i.walk c.in-Err.stop c.step.new.self _ more c.in-Err.ensures c.loop-i.invariant.same

pub loop-i-preserved : goal.loop-i-preserved
loop-i-preserved c =
    let more : c.loop-i.i < length c.args.reader.now.words.now = search rules in
    record {
      same = sym (run_going c.args.reader.now.limit c.args.reader.now.symbols.now c.args.reader.now.words.now c.loop-i.i c.loop-i.walk c.step.new.self more (search rules)) ∙ c.loop-i.invariant.same;
      below = going_below c.args.reader.now.limit c.args.reader.now.symbols.now c.loop-i.i (word_at c.args.reader.now.words.now c.loop-i.i) c.loop-i.walk c.step.new.self c.loop-i.invariant.below (search rules);
    }

pub returns : goal.returns
returns c =
    let past : length c.args.reader.now.words.now ≤ c.loop-i.i = search rules in
    let after : length c.args.reader.now.words.now ≤ c.len.result = search rules in
    sym c.loop-i.invariant.same ∙ run_past c.args.reader.now.limit c.args.reader.now.symbols.now c.args.reader.now.words.now c.loop-i.i c.loop-i.walk past
    ∙ ap Err (sym (c.fault.ensures ∙ ap (word_fault 5) (no_word_at c.args.reader.now.words.now c.len.result after)))
