use Rattle.std.proofs.Common.{◌≡◌, ◌<◌, ◌&&◌, true, false, [], length, refl, sym, ap, ◌∙◌, arith}
use Rattle.std.proofs.lemmas.Bool.{ltb-true, ltb-false}
use Rattle.ffc_trees.specs.Normal.{normal}
use Rattle.ffc_trees.specs.TreeLines.{limits, line_at}
use Rattle.ffc_trees.specs.BitLines.{is_written_in, is_of_bits, follows, are_choices_within}
use Rattle.ffc_cktree.proofs.SumLemmas.{rule_is}
use Rattle.ffc_cktree.proofs.BitLemmas.{no_line, no_bit, many_choices, large, not_written, not_shown, shown, written_line, written_high, written_fits, written_long}
use Rattle.ffc_cktree.proofs.bits.bits.Goals as goal

pub returns-in_default-clause-broken : goal.returns-in_default-clause-broken
returns-in_default-clause-broken g c rule e =
    let p = g.F.Field.ORDER in
    let lines = c.args.lines.now in
    let k = c.args.k in
    let chosen = c.args.chosen.now in
    let written = c.args.written.now in
    let bits = c.args.bits.now in
    rule_is 12 rule _ _ (no_line p lines k chosen written bits (ltb-false k (length lines) (sym c.in_default.ensures.lookup.0))) e refl

pub returns-then-not-all_there-clause-broken : goal.returns-then-not-all_there-clause-broken
returns-then-not-all_there-clause-broken g c rule e =
    let p = g.F.Field.ORDER in
    let lines = c.args.lines.now in
    let k = c.args.k in
    let chosen = c.args.chosen.now in
    let written = c.args.written.now in
    let bits = c.args.bits.now in
    let line : c.in-Some.line.now ≡ line_at lines k = c.in-Some.ensures.lookup.4 (omega arith) [] in
    let within : k < length lines = ltb-true k (length lines) (sym c.in-Some.ensures.lookup.0) in
    rule_is 12 rule _ _ (no_bit p lines k chosen written bits within c.if-not-all_there.ensures) e refl

pub returns-then-not-are_few-clause-broken : goal.returns-then-not-are_few-clause-broken
returns-then-not-are_few-clause-broken g c rule e =
    let p = g.F.Field.ORDER in
    let lines = c.args.lines.now in
    let k = c.args.k in
    let chosen = c.args.chosen.now in
    let written = c.args.written.now in
    let bits = c.args.bits.now in
    let line : c.in-Some.line.now ≡ line_at lines k = c.in-Some.ensures.lookup.4 (omega arith) [] in
    let within : k < length lines = ltb-true k (length lines) (sym c.in-Some.ensures.lookup.0) in
    let size = ap length (sym line) ∙ sym c.terms.ensures.count in
    let many : false ≡ are_choices_within limits (line_at lines k) chosen written = c.if-not-are_few.ensures chosen (line_at lines k) written refl size refl in
    rule_is 11 rule _ _ (many_choices p lines k chosen written bits within c.if-not-all_there.ensures many) e refl

pub returns-then-not-are_low-clause-broken : goal.returns-then-not-are_low-clause-broken
returns-then-not-are_low-clause-broken g c rule e =
    let p = g.F.Field.ORDER in
    let lines = c.args.lines.now in
    let k = c.args.k in
    let chosen = c.args.chosen.now in
    let written = c.args.written.now in
    let bits = c.args.bits.now in
    let line : c.in-Some.line.now ≡ line_at lines k = c.in-Some.ensures.lookup.4 (omega arith) [] in
    let within : k < length lines = ltb-true k (length lines) (sym c.in-Some.ensures.lookup.0) in
    let size = ap length (sym line) ∙ sym c.terms.ensures.count in
    let few : true ≡ are_choices_within limits (line_at lines k) chosen written = c.if-not-are_few.ensures chosen (line_at lines k) written refl size refl in
    rule_is 11 rule _ _ (large p lines k chosen written bits within c.if-not-all_there.ensures few (written_high p written c.if-not-are_low.ensures)) e refl

pub returns-then-terms-gt-MOST_TERMS-clause-broken : goal.returns-then-terms-gt-MOST_TERMS-clause-broken
returns-then-terms-gt-MOST_TERMS-clause-broken g c rule e =
    let p = g.F.Field.ORDER in
    let lines = c.args.lines.now in
    let k = c.args.k in
    let chosen = c.args.chosen.now in
    let written = c.args.written.now in
    let bits = c.args.bits.now in
    let line : c.in-Some.line.now ≡ line_at lines k = c.in-Some.ensures.lookup.4 (omega arith) [] in
    let within : k < length lines = ltb-true k (length lines) (sym c.in-Some.ensures.lookup.0) in
    let size = ap length (sym line) ∙ sym c.terms.ensures.count in
    let few : true ≡ are_choices_within limits (line_at lines k) chosen written = c.if-not-are_few.ensures chosen (line_at lines k) written refl size refl in
    let some : 0 < p = omega (arith, g.met.F.Field.prime.least) in
    let r = c.in_ok-polynomial.polynomial in
    let same = written_line p written r some c.in_ok-polynomial.ensures.normal c.in_ok-polynomial.ensures.same in
    rule_is 11 rule _ _ (large p lines k chosen written bits within c.if-not-all_there.ensures few
    (written_long p written r some same c.if-not-are_low.ensures (omega (arith, c.terms-2.ensures.count, c.if-terms-gt-MOST_TERMS.true)))) e refl

pub returns-then-not-is_written_in-clause-broken : goal.returns-then-not-is_written_in-clause-broken
returns-then-not-is_written_in-clause-broken g c rule e =
    let p = g.F.Field.ORDER in
    let lines = c.args.lines.now in
    let k = c.args.k in
    let chosen = c.args.chosen.now in
    let written = c.args.written.now in
    let bits = c.args.bits.now in
    let line : c.in-Some.line.now ≡ line_at lines k = c.in-Some.ensures.lookup.4 (omega arith) [] in
    let within : k < length lines = ltb-true k (length lines) (sym c.in-Some.ensures.lookup.0) in
    let size = ap length (sym line) ∙ sym c.terms.ensures.count in
    let few : true ≡ are_choices_within limits (line_at lines k) chosen written = c.if-not-are_few.ensures chosen (line_at lines k) written refl size refl in
    let some : 0 < p = omega (arith, g.met.F.Field.prime.least) in
    let r = c.in_ok-polynomial.polynomial in
    let same = written_line p written r some c.in_ok-polynomial.ensures.normal c.in_ok-polynomial.ensures.same in
    let fits = written_fits p written r some same c.if-not-are_low.ensures (omega (arith, c.terms-2.ensures.count, c.if-terms-gt-MOST_TERMS.false)) in
    let others : false ≡ is_written_in p chosen written = c.if-not-is_written_in.ensures ∙ ap (λ q. is_written_in q chosen written) c.ORDER.ensures in
    rule_is 13 rule _ _ (not_written p lines k chosen written bits within c.if-not-all_there.ensures few fits others) e refl

pub returns-then-not-branch-clause-broken : goal.returns-then-not-branch-clause-broken
returns-then-not-branch-clause-broken g c rule e =
    let p = g.F.Field.ORDER in
    let lines = c.args.lines.now in
    let k = c.args.k in
    let chosen = c.args.chosen.now in
    let written = c.args.written.now in
    let bits = c.args.bits.now in
    let line : c.in-Some.line.now ≡ line_at lines k = c.in-Some.ensures.lookup.4 (omega arith) [] in
    let within : k < length lines = ltb-true k (length lines) (sym c.in-Some.ensures.lookup.0) in
    let size = ap length (sym line) ∙ sym c.terms.ensures.count in
    let few : true ≡ are_choices_within limits (line_at lines k) chosen written = c.if-not-are_few.ensures chosen (line_at lines k) written refl size refl in
    let some : 0 < p = omega (arith, g.met.F.Field.prime.least) in
    let r = c.in_ok-polynomial.polynomial in
    let same = written_line p written r some c.in_ok-polynomial.ensures.normal c.in_ok-polynomial.ensures.same in
    let fits = written_fits p written r some same c.if-not-are_low.ensures (omega (arith, c.terms-2.ensures.count, c.if-terms-gt-MOST_TERMS.false)) in
    let residues : true ≡ is_written_in p chosen written = c.if-not-is_written_in.ensures ∙ ap (λ q. is_written_in q chosen written) c.ORDER.ensures in
    let tests = c.in_ok-shows.ensures ∙ ap (λ l. is_of_bits p lines l bits && follows p l chosen written) line in
    rule_is 13 rule _ _ (not_shown p lines k chosen written bits within c.if-not-all_there.ensures few fits residues (sym c.if-not-branch.true ∙ tests)) e refl

pub returns-clause-kept : goal.returns-clause-kept
returns-clause-kept g c =
    let p = g.F.Field.ORDER in
    let lines = c.args.lines.now in
    let k = c.args.k in
    let chosen = c.args.chosen.now in
    let written = c.args.written.now in
    let bits = c.args.bits.now in
    let line : c.in-Some.line.now ≡ line_at lines k = c.in-Some.ensures.lookup.4 (omega arith) [] in
    let within : k < length lines = ltb-true k (length lines) (sym c.in-Some.ensures.lookup.0) in
    let size = ap length (sym line) ∙ sym c.terms.ensures.count in
    let few : true ≡ are_choices_within limits (line_at lines k) chosen written = c.if-not-are_few.ensures chosen (line_at lines k) written refl size refl in
    let some : 0 < p = omega (arith, g.met.F.Field.prime.least) in
    let r = c.in_ok-polynomial.polynomial in
    let same = written_line p written r some c.in_ok-polynomial.ensures.normal c.in_ok-polynomial.ensures.same in
    let fits = written_fits p written r some same c.if-not-are_low.ensures (omega (arith, c.terms-2.ensures.count, c.if-terms-gt-MOST_TERMS.false)) in
    let residues : true ≡ is_written_in p chosen written = c.if-not-is_written_in.ensures ∙ ap (λ q. is_written_in q chosen written) c.ORDER.ensures in
    let tests = c.in_ok-shows.ensures ∙ ap (λ l. is_of_bits p lines l bits && follows p l chosen written) line in
    record {
      line = normal p written;
      kept = shown p lines k chosen written bits within c.if-not-all_there.ensures few fits residues (sym c.if-not-branch.false ∙ tests);
      same = same;
    }
