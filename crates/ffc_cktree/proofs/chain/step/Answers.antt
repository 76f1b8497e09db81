use Rattle.std.proofs.Common.{◌≡◌, ◌&&◌, map, false, true, ℕ, Result, Ok, sym, ap, ap₂, ◌∙◌, refl}
use Rattle.ffc_uni.specs.Univariate.{Coefficients}
use Rattle.ffc_trees.specs.TreeLines.{are_below}
use Rattle.ffc_cktree.specs.Identities.{is_identity}
use Rattle.ffc_cktree.specs.Factors.{factor_of}
use Rattle.ffc_cktree.proofs.SumLemmas.{rule_is}
use Rattle.ffc_cktree.proofs.ChainLemmas.{long_quotient, long_remainder, no_residues, no_identity, step_kept}
use Rattle.ffc_cktree.proofs.chain.step.Goals as goal
use Rattle.ffc_cktree.proofs.chain.step.Goals.{then-quotient-gt-MOST_COEFFICIENTS-via-then-quotient-gt-MOST_COEFFICIENTS, then-quotient-gt-MOST_COEFFICIENTS-via-else-quotient-gt-MOST_COEFFICIENTS+then-remainder-gt-MOST_COEFFICIENTS, then-not-are_below-via-then-not-are_below, then-not-are_below-via-else-not-are_below+then-not-are_below-2}

pub returns-then-quotient-gt-MOST_COEFFICIENTS-clause-broken : goal.returns-then-quotient-gt-MOST_COEFFICIENTS-clause-broken
returns-then-quotient-gt-MOST_COEFFICIENTS-clause-broken g c rule e =
    let p = g.F.Field.ORDER in
    let f = map g.F.Field.value c.args.modulus.now in
    let r = map g.F.Field.value c.args.power.now in
    elim c.then-quotient-gt-MOST_COEFFICIENTS.branch [
      | then-quotient-gt-MOST_COEFFICIENTS-via-then-quotient-gt-MOST_COEFFICIENTS w ↦
          rule_is 11 rule _ _ (long_quotient p f (factor_of c.args.factor) r c.args.quotient.now c.args.remainder.now w.if-quotient-gt-MOST_COEFFICIENTS.true) e refl
      | then-quotient-gt-MOST_COEFFICIENTS-via-else-quotient-gt-MOST_COEFFICIENTS+then-remainder-gt-MOST_COEFFICIENTS w ↦
          rule_is 11 rule _ _ (long_remainder p f (factor_of c.args.factor) r c.args.quotient.now c.args.remainder.now w.if-quotient-gt-MOST_COEFFICIENTS.false w.if-remainder-gt-MOST_COEFFICIENTS.true) e refl
    ]

pub returns-then-not-are_below-clause-broken : goal.returns-then-not-are_below-clause-broken
returns-then-not-are_below-clause-broken g c rule e =
    let p = g.F.Field.ORDER in
    let f = map g.F.Field.value c.args.modulus.now in
    let r = map g.F.Field.value c.args.power.now in
    let quotient = c.args.quotient.now in
    let remainder = c.args.remainder.now in
    elim c.then-not-are_below.branch [
      | then-not-are_below-via-then-not-are_below w ↦
          let none : are_below p quotient ≡ false = ap (λ q. are_below q quotient) (sym c.ORDER.ensures) ∙ sym w.if-not-are_below.ensures in
          rule_is 6 rule _ _ (no_residues p f (factor_of c.args.factor) r quotient remainder c.if-quotient-gt-MOST_COEFFICIENTS.false c.if-remainder-gt-MOST_COEFFICIENTS.false
          (ap (λ b. b && are_below p remainder) none)) e refl
      | then-not-are_below-via-else-not-are_below+then-not-are_below-2 w ↦
          let all : are_below p quotient ≡ true = ap (λ q. are_below q quotient) (sym c.ORDER.ensures) ∙ sym w.if-not-are_below.ensures in
          let none : are_below p remainder ≡ false = ap (λ q. are_below q remainder) (sym w.ORDER-else-not-are_below.ensures) ∙ sym w.if-not-are_below-2.ensures in
          rule_is 6 rule _ _ (no_residues p f (factor_of c.args.factor) r quotient remainder c.if-quotient-gt-MOST_COEFFICIENTS.false c.if-remainder-gt-MOST_COEFFICIENTS.false
          (ap₂ (λ a b. a && b) all none)) e refl
    ]

pub returns-then-not-holds-clause-broken : goal.returns-then-not-holds-clause-broken
returns-then-not-holds-clause-broken g c rule e =
    let value = g.F.Field.value in
    let p = g.F.Field.ORDER in
    let f = map value c.args.modulus.now in
    let r = map value c.args.power.now in
    let quotient = c.args.quotient.now in
    let remainder = c.args.remainder.now in
    let factor = factor_of c.args.factor in
    let first : are_below p quotient ≡ true = ap (λ q. are_below q quotient) (sym c.ORDER.ensures) ∙ sym c.if-not-are_below.ensures in
    let second : are_below p remainder ≡ true = ap (λ q. are_below q remainder) (sym c.ORDER-else-not-are_below.ensures) ∙ sym c.if-not-are_below-2.ensures in
    let tested : c.in_ok-holds.holds ≡ is_identity p f factor r quotient remainder =
    c.in_ok-holds.ensures ∙ ap₂ (is_identity p f factor r) (ap (map value) c.as_slice-q.ensures.value ∙ c.in_ok-quotient.ensures) (ap (map value) c.as_slice-r.ensures.value ∙ c.in_ok-rest.ensures) in
    rule_is 6 rule _ _ (no_identity p f factor r quotient remainder c.if-quotient-gt-MOST_COEFFICIENTS.false c.if-remainder-gt-MOST_COEFFICIENTS.false
    (ap₂ (λ a b. a && b) first second) (sym tested ∙ c.if-not-holds.true)) e refl

pub returns-clause-kept : goal.returns-clause-kept
returns-clause-kept g c =
    let value = g.F.Field.value in
    let p = g.F.Field.ORDER in
    let f = map value c.args.modulus.now in
    let r = map value c.args.power.now in
    let quotient = c.args.quotient.now in
    let remainder = c.args.remainder.now in
    let factor = factor_of c.args.factor in
    let first : are_below p quotient ≡ true = ap (λ q. are_below q quotient) (sym c.ORDER.ensures) ∙ sym c.if-not-are_below.ensures in
    let second : are_below p remainder ≡ true = ap (λ q. are_below q remainder) (sym c.ORDER-else-not-are_below.ensures) ∙ sym c.if-not-are_below-2.ensures in
    let tested : c.in_ok-holds.holds ≡ is_identity p f factor r quotient remainder =
    c.in_ok-holds.ensures ∙ ap₂ (is_identity p f factor r) (ap (map value) c.as_slice-q.ensures.value ∙ c.in_ok-quotient.ensures) (ap (map value) c.as_slice-r.ensures.value ∙ c.in_ok-rest.ensures) in
    step_kept p f factor r quotient remainder c.if-quotient-gt-MOST_COEFFICIENTS.false c.if-remainder-gt-MOST_COEFFICIENTS.false
    (ap₂ (λ a b. a && b) first second) (sym tested ∙ c.if-not-holds.false)
    ∙ ap (λ (k : Coefficients). let q : Result Coefficients ℕ = Ok k in q) (sym c.in_ok-rest.ensures)
