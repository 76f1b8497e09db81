use Rattle.std.proofs.Common.{◌≡◌, ◌≢◌, ◌<◌, length, false, true, [], ℕ, Result, Ok, map, sym, ap, ◌∙◌, arith, refl}
use Rattle.std.proofs.lemmas.Bool.{ltb-true, ltb-false}
use Rattle.ffc_uni.specs.Univariate.{Coefficients}
use Rattle.ffc_uni.specs.Chains.{pair_count, digits_of}
use Rattle.ffc_trees.specs.TreeLines.{is_in, line_at, coefficients_of, factors_over}
use Rattle.ffc_cktree.proofs.SumLemmas.{rule_is, at_some, at_none}
use Rattle.ffc_cktree.proofs.ChainLemmas.{chain_missing, chain_elsewhere, chain_other_length, chain_begun, count_is}
use Rattle.ffc_cktree.proofs.chain.begin.Goals as goal

pub returns-in_default-clause-broken : goal.returns-in_default-clause-broken
returns-in_default-clause-broken g c rule e =
    let lines = c.args.lines.now in
    rule_is 12 rule _ _ (chain_missing g.F.Field.ORDER lines c.args.k c.args.x c.args.steps (ltb-false c.args.k (length lines) (sym c.in_default.ensures.lookup.0))) e refl

pub returns-in_default-2-clause-broken : goal.returns-in_default-2-clause-broken
returns-in_default-2-clause-broken g c rule e =
    let lines = c.args.lines.now in
    let k = c.args.k in
    let line : c.in-Some.line.now ≡ line_at lines k = c.in-Some.ensures.lookup.4 (omega arith) [] in
    let within : k < length lines = ltb-true k (length lines) (sym c.in-Some.ensures.lookup.0) in
    let other = at_none (is_in c.args.x c.in-Some.line.now ≡ false) c.in_ok-modulus.field-0 c.in_default-2.is c.in_ok-modulus.ensures.other in
    rule_is 6 rule _ _ (chain_elsewhere g.F.Field.ORDER lines k c.args.x c.args.steps within (ap (is_in c.args.x) (sym line) ∙ other)) e refl

pub returns-then-len-from-clause-broken : goal.returns-then-len-from-clause-broken
returns-then-len-from-clause-broken g c rule e =
    let p = g.F.Field.ORDER in
    let lines = c.args.lines.now in
    let k = c.args.k in
    let line : c.in-Some.line.now ≡ line_at lines k = c.in-Some.ensures.lookup.4 (omega arith) [] in
    let within : k < length lines = ltb-true k (length lines) (sym c.in-Some.ensures.lookup.0) in
    let alone = at_some (λ v. is_in c.args.x c.in-Some.line.now ≡ true) c.in_ok-modulus.field-0 c.in-Some-2.modulus c.in-Some-2.is c.in_ok-modulus.ensures.alone in
    let count = count_is p c.in_ok-factors.factors.items (c.in_ok-factors.ensures ∙ ap (λ q. factors_over (digits_of q)) c.ORDER.ensures) in
    let differ : c.args.steps ≢ pair_count p = λ same. c.if-len-from.true (omega (arith, count, same, c.len.ensures, c.from.ensures, c.in_ok-factors.factors.ok)) in
    rule_is 6 rule _ _ (chain_other_length p lines k c.args.x c.args.steps within (ap (is_in c.args.x) (sym line) ∙ alone) differ) e refl

pub returns-clause-line : goal.returns-clause-line
returns-clause-line g c =
    let value = g.F.Field.value in
    let p = g.F.Field.ORDER in
    let lines = c.args.lines.now in
    let k = c.args.k in
    let line : c.in-Some.line.now ≡ line_at lines k = c.in-Some.ensures.lookup.4 (omega arith) [] in
    let within : k < length lines = ltb-true k (length lines) (sym c.in-Some.ensures.lookup.0) in
    let alone = at_some (λ v. is_in c.args.x c.in-Some.line.now ≡ true) c.in_ok-modulus.field-0 c.in-Some-2.modulus c.in-Some-2.is c.in_ok-modulus.ensures.alone in
    let row = at_some (λ v. map value v.items ≡ coefficients_of c.in-Some.line.now) c.in_ok-modulus.field-0 c.in-Some-2.modulus c.in-Some-2.is c.in_ok-modulus.ensures.row in
    let count = count_is p c.in_ok-factors.factors.items (c.in_ok-factors.ensures ∙ ap (λ q. factors_over (digits_of q)) c.ORDER.ensures) in
    let same : c.args.steps ≡ pair_count p = omega (arith, count, c.if-len-from.false, c.len.ensures, c.from.ensures, c.in_ok-factors.factors.ok) in
    chain_begun p lines k c.args.x c.args.steps within (ap (is_in c.args.x) (sym line) ∙ alone) same
    ∙ ap (λ (f : Coefficients). let r : Result Coefficients ℕ = Ok f in r) (sym (row ∙ ap coefficients_of line))
