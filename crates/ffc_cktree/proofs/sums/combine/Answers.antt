use Rattle.std.proofs.Common.{◌<◌, refl, ap, ◌∙◌, arith}
use Rattle.ffc_trees.specs.TreeLines.{are_residues, combined}
use Rattle.ffc_cktree.proofs.SumLemmas.{same_line, not_there, not_written, not_within, not_residues, all_kept, few_and_low, too_many, too_high, sum_within, sum_high, sum_long, rule_is}
use Rattle.ffc_cktree.proofs.sums.combine.Goals as goal

pub returns-then-not-are_there-clause-broken : goal.returns-then-not-are_there-clause-broken
returns-then-not-are_there-clause-broken g c rule e =
    rule_is 12 rule _ _ (not_there g.F.Field.ORDER c.args.lines.now c.args.multiples.now c.if-not-are_there.ensures) e refl

pub returns-then-not-are_few-clause-broken : goal.returns-then-not-are_few-clause-broken
returns-then-not-are_few-clause-broken g c rule e =
    rule_is 11 rule _ _ (not_written g.F.Field.ORDER c.args.lines.now c.args.multiples.now c.if-not-are_there.ensures (too_many g.F.Field.ORDER c.args.lines.now c.args.multiples.now c.if-not-are_few.ensures)) e refl

pub returns-then-not-all_low-clause-broken : goal.returns-then-not-all_low-clause-broken
returns-then-not-all_low-clause-broken g c rule e =
    rule_is 11 rule _ _ (not_written g.F.Field.ORDER c.args.lines.now c.args.multiples.now c.if-not-are_there.ensures (too_high g.F.Field.ORDER c.args.lines.now c.args.multiples.now c.if-not-are_few.ensures c.if-not-all_low.ensures)) e refl

pub returns-then-degree-gt-MOST_DEGREE-clause-broken : goal.returns-then-degree-gt-MOST_DEGREE-clause-broken
returns-then-degree-gt-MOST_DEGREE-clause-broken g c rule e =
    let p = g.F.Field.ORDER in
    let lines = c.args.lines.now in
    let ms = c.args.multiples.now in
    let some : 0 < p = omega (arith, g.met.F.Field.prime.least) in
    let r = c.in_ok-line.line in
    let same = same_line p lines ms r some c.in_ok-line.ensures.normal c.in_ok-line.ensures.sum in
    let written = few_and_low p lines ms c.if-not-are_few.ensures c.if-not-all_low.ensures in
    rule_is 11 rule _ _ (not_within p lines ms c.if-not-are_there.ensures written (sum_high p lines ms r some same (omega (arith, c.degree.ensures, c.if-degree-gt-MOST_DEGREE.true)))) e refl

pub returns-then-terms-gt-MOST_TERMS-clause-broken : goal.returns-then-terms-gt-MOST_TERMS-clause-broken
returns-then-terms-gt-MOST_TERMS-clause-broken g c rule e =
    let p = g.F.Field.ORDER in
    let lines = c.args.lines.now in
    let ms = c.args.multiples.now in
    let some : 0 < p = omega (arith, g.met.F.Field.prime.least) in
    let r = c.in_ok-line.line in
    let same = same_line p lines ms r some c.in_ok-line.ensures.normal c.in_ok-line.ensures.sum in
    let written = few_and_low p lines ms c.if-not-are_few.ensures c.if-not-all_low.ensures in
    rule_is 11 rule _ _ (not_within p lines ms c.if-not-are_there.ensures written
    (sum_long p lines ms r some same (omega (arith, c.degree.ensures, c.if-degree-gt-MOST_DEGREE.false)) (omega (arith, c.terms.ensures.count, c.if-terms-gt-MOST_TERMS.true)))) e refl

pub returns-then-not-all_below-clause-broken : goal.returns-then-not-all_below-clause-broken
returns-then-not-all_below-clause-broken g c rule e =
    let p = g.F.Field.ORDER in
    let lines = c.args.lines.now in
    let ms = c.args.multiples.now in
    let some : 0 < p = omega (arith, g.met.F.Field.prime.least) in
    let r = c.in_ok-line.line in
    let same = same_line p lines ms r some c.in_ok-line.ensures.normal c.in_ok-line.ensures.sum in
    let written = few_and_low p lines ms c.if-not-are_few.ensures c.if-not-all_low.ensures in
    let within = sum_within p lines ms r some same (omega (arith, c.degree.ensures, c.if-degree-gt-MOST_DEGREE.false)) (omega (arith, c.terms.ensures.count, c.if-terms-gt-MOST_TERMS.false)) in
    rule_is 5 rule _ _ (not_residues p lines ms c.if-not-are_there.ensures written within (c.if-not-all_below.ensures ∙ ap (λ k. are_residues k ms) c.ORDER.ensures)) e refl

pub returns-clause-kept : goal.returns-clause-kept
returns-clause-kept g c =
    let p = g.F.Field.ORDER in
    let lines = c.args.lines.now in
    let ms = c.args.multiples.now in
    let some : 0 < p = omega (arith, g.met.F.Field.prime.least) in
    let r = c.in_ok-line.line in
    let same = same_line p lines ms r some c.in_ok-line.ensures.normal c.in_ok-line.ensures.sum in
    let written = few_and_low p lines ms c.if-not-are_few.ensures c.if-not-all_low.ensures in
    let within = sum_within p lines ms r some same (omega (arith, c.degree.ensures, c.if-degree-gt-MOST_DEGREE.false)) (omega (arith, c.terms.ensures.count, c.if-terms-gt-MOST_TERMS.false)) in
    record {
      line = combined p lines ms;
      kept = all_kept p lines ms c.if-not-are_there.ensures written within (c.if-not-all_below.ensures ∙ ap (λ k. are_residues k ms) c.ORDER.ensures);
      same = same;
    }
