use Rattle.std.proofs.Common.{◌-◌, ◌%◌, ◌/◌, ◌<◌, ◌≤◌, [], ◌∷◌, length, sym, ap, ◌∙◌, subst, arith, mod-eq_of_lt}
use Rattle.ffc_uni.specs.Univariate.{IsRemainder, SameUnivariate, coefficient_at, raised, value_of}
use Rattle.ffc_roots.specs.Separation.{SeparatesNone}
use Rattle.ffc_roots.proofs.Apart.{linear_divides}
use Rattle.ffc_roots.proofs.Cases.{IfNone-weaker}
use Rattle.ffc_roots.proofs.Turns.{separated_divides}
use Rattle.ffc_roots.proofs.split.part_by.Goals as goal

pub parted-requires : goal.parted-requires
parted-requires g c =
    let p = g.F.Field.ORDER in
    let value = g.F.Field.value in
    linear_divides p (value c.args.c) c.args.f.now c.in_ok-linear.linear (omega (arith, g.met.F.Field.prime.least)) (g.met.F.Field.below c.args.c) c.in_ok-linear.ensures.same
    (ap (λ x. value_of p x c.args.f.now) (sym c.neg.ensures) ∙ sym c.eval.ensures ∙ sym c.residue.ensures.value ∙ c.if-residue-eq0.true)

pub returns-then-residue-eq0-clause-none : goal.returns-then-residue-eq0-clause-none
returns-then-residue-eq0-clause-none g c =
    let p = g.F.Field.ORDER in
    let linear = c.in_ok-linear.linear in
    let two : 2 ≤ length linear = omega (arith, c.in_ok-linear.ensures.long) in
    let less : length linear < length c.args.f.now = omega (arith, c.in_ok-linear.ensures.long, c.requires.long) in
    IfNone-weaker c.in_ok-parted.field-0 ((2 ≤ length linear) × (length linear < length c.args.f.now) → ⊥) (SeparatesNone p c.args.f.now (g.F.Field.value c.args.c))
    (λ impossible. absurd (impossible (two, less))) c.in_ok-parted.ensures.none

pub returns-clause-none : goal.returns-clause-none
returns-clause-none g c =
    let p = g.F.Field.ORDER in
    let value = g.F.Field.value in
    let f = c.args.f.now in
    let linear = c.in_ok-linear.linear in
    let power = c.in_ok-power.power in
    let one = c.in_ok-constant.field-0 in
    let divisor = c.in_ok-common.common.value in
    let unit : SameUnivariate p one (1 ∷ []) = λ k. c.in_ok-constant.ensures k ∙ ap (λ n. coefficient_at (n ∷ []) k % p) (c.of.ensures ∙ mod-eq_of_lt (omega (arith, g.met.F.Field.prime.least))) in
    let remainder : IsRemainder p f (raised linear ((p - 1) / 2)) power = subst (λ n. IsRemainder p f (raised linear ((n - 1) / 2)) power) c.ORDER.ensures c.in_ok-power.ensures.power in
    IfNone-weaker c.in_ok-parted-2.field-0 ((2 ≤ length divisor) × (length divisor < length f) → ⊥) (SeparatesNone p f (value c.args.c))
    (λ impossible s t s_root t_root differ separates.
    impossible
    (separated_divides p s t (value c.args.c) f linear power one c.in_ok-other.other c.in_ok-common.common.b divisor g.met.F.Field.prime (g.met.F.Field.below c.args.c) c.requires.normal (omega (arith, c.requires.long)) c.parted-2.ensures.normal
    c.in_ok-linear.ensures.same remainder unit c.in_ok-other.ensures.difference c.in_ok-common.ensures.divisor
    (λ none. c.if-residue-eq0.false (c.residue.ensures.value ∙ c.eval.ensures ∙ ap (λ x. value_of p x f) c.neg.ensures ∙ none)) s_root t_root separates))
    c.in_ok-parted-2.ensures.none
