use Rattle.std.proofs.Common.{◌≡◌, ◌∙◌, ap, subst, arith, ℕ, List, ◌<◌, ◌^◌}
use Rattle.std.specs.Str.Parse.{digits_value}
use Rattle.std.proofs.lemmas.List.{take_all}
use Rattle.ffc_cert.proofs.NumberLemmas.{digit_at, digits_parts, value_next, value_small}
use Rattle.ffc_cert.proofs.items.value_of.Goals as goal

pub with_digit-requires-clause-low : goal.with_digit-requires-clause-low
with_digit-requires-clause-low c = (digit_at c.args.digits.now c.loop-digit.digit-index (digits_parts c.args.digits.now c.requires).1 c.loop-digit-test.true).0

pub with_digit-requires-clause-high : goal.with_digit-requires-clause-high
with_digit-requires-clause-high c = (digit_at c.args.digits.now c.loop-digit.digit-index (digits_parts c.args.digits.now c.requires).1 c.loop-digit-test.true).1

pub returns-in-None : goal.returns-in-None
returns-in-None c = λ small.
    c.in-None.ensures (value_small c.args.digits.now c.loop-digit.digit-index c.loop-digit.number (digits_parts c.args.digits.now c.requires).1 c.loop-digit-test.true c.loop-digit.invariant.0 small)

pub loop-digit-preserved : goal.loop-digit-preserved
loop-digit-preserved c =
    let next = value_next c.args.digits.now c.loop-digit.digit-index c.loop-digit.number (digits_parts c.args.digits.now c.requires).1 c.loop-digit-test.true c.loop-digit.invariant.0 in
    let size = c.in-Some.ensures.0 in
    let is = c.in-Some.ensures.1 in
    (is ∙ next, omega (arith, size, is))

pub returns : goal.returns
returns c =
    let all : c.loop-digit.number ≡ digits_value 10 c.args.digits.now = c.loop-digit.invariant.0 ∙ ap (λ (ds : List ℕ). digits_value 10 ds) (take_all c.loop-digit.digit-index c.args.digits.now c.loop-digit-test.false) in
    (subst (λ (n : ℕ). n < 2 ^ 64) all c.loop-digit.invariant.1, all)
