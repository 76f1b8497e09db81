use Rattle.std.proofs.Common.{◌≡◌, ◌-◌, ◌%◌, ◌≤◌, inl, length, map, refl, sym, ap, ◌∙◌, subst, arith}
use Rattle.std.specs.List.Sorted.{IsStrictlyIncreasing}
use Rattle.ffc_uni.specs.Univariate.{coefficient_at, SameUnivariate, minus, multiple, times, indeterminate, product_of_roots}
use Rattle.ffc_uni.specs.Chains.{last_remainder, pair_count}
use Rattle.ffc_uni.proofs.ChainLemmas.{zeros_of_chains}
use Rattle.ffc_uni.proofs.Coefficients.{plus_alike, multiple_alike, times_alike_second}
use Rattle.ffc_uni.proofs.StepLemmas.{last_short, same_last}
use Rattle.ffc_uni.proofs.DigitLemmas.{few_pairs}
use Rattle.ffc_roots.specs.Parts.{AreRising, HasRoots, splits_of}
use Rattle.ffc_roots.specs.Roots.{AreRoots, IsAnswer, IsCombination, without_x}
use Rattle.ffc_roots.specs.Separation.{AreSeparated}
use Rattle.ffc_roots.proofs.Apart.{separated_of_divisor}
use Rattle.ffc_roots.proofs.Bounds.{chain_left, few_left, only_few}
use Rattle.ffc_roots.proofs.Cases.{part_was_spent}
use Rattle.ffc_roots.proofs.Chained.{chained_after}
use Rattle.ffc_roots.proofs.Cofactors.{roots_vanish}
use Rattle.ffc_roots.proofs.Degrees.{divisor_is_short}
use Rattle.ffc_roots.proofs.Powers.{divides_field_polynomial}
use Rattle.ffc_roots.proofs.Rising.{below_from_rising, increasing_from_rising}
use Rattle.ffc_roots.proofs.RootLemmas.{answer_has_roots}
use Rattle.ffc_roots.proofs.finding.roots.Goals as goal

pub common_divisor-requires : goal.common_divisor-requires
common_divisor-requires g c = λ none. let short = ap length none in omega (arith, c.requires, short)

pub split-requires : goal.split-requires
split-requires g c =
    let p = g.F.Field.ORDER in
    let x = c.in_ok-x.x in
    let steps = c.in_ok-chain.chain.steps in
    let last = last_remainder indeterminate steps in
    let same : SameUnivariate p c.in_ok-h.h (without_x p last) = λ k.
    c.in_ok-h.ensures.difference k
    ∙ ap (λ l. coefficient_at (minus p l x) k % p) c.last_remainder.ensures
    ∙ plus_alike p (last_remainder x steps) last (multiple (p - 1) x) (multiple (p - 1) indeterminate) (same_last p x indeterminate steps c.in_ok-x.ensures.same) (multiple_alike p (p - 1) x indeterminate c.in_ok-x.ensures.same) k in
    divides_field_polynomial p c.args.f.now c.in_ok-common.common.value c.in_ok-h.h steps (omega (arith, g.met.F.Field.prime.least)) g.met.F.Field.fits c.in_ok-chain.ensures.chain same
    c.in_ok-common.ensures.divisor.of_first c.in_ok-common.ensures.divisor.of_second

pub elements_of-requires : goal.elements_of-requires
elements_of-requires g c = subst (AreRising g.F.Field.ORDER 0) (sym c.as_slice.ensures.value) c.in_ok-residues.ensures.rising

pub cofactors-requires : goal.cofactors-requires
cofactors-requires g c =
    let p = g.F.Field.ORDER in
    let value = g.F.Field.value in
    let steps = c.in_ok-chain.chain.steps in
    let x = c.in_ok-x.x in
    let last_low : length (last_remainder x steps) ≤ length c.args.f.now = last_short c.args.f.now x steps (let low = c.in_ok-x.ensures.short in omega (arith, low, c.requires)) c.in_ok-chain.ensures.lower in
    let listed : map value c.as_slice-2.result.now ≡ c.in_ok-residues.residues.items =
    ap (map value) c.as_slice-2.ensures.value ∙ c.in_ok-zeros.ensures ∙ c.as_slice.ensures.value in
    record {
      f = c.requires;
      normal = c.coefs-normal.ensures.normal;
      h = omega (arith, c.in_ok-h.ensures.short, ap length c.last_remainder.ensures, last_low, c.in_ok-x.ensures.short, c.requires);
      common = c.in_ok-common.ensures.divisor;
      some = c.in_ok-common.ensures.some;
      roots = subst (HasRoots p c.in_ok-common.common.value) (sym listed) c.in_ok-residues.ensures.roots;
    }

pub returns-clause-roots : goal.returns-clause-roots
returns-clause-roots g c =
    let field = g.F.Field in
    let p = field.ORDER in
    let f = c.args.f.now in
    let x = c.in_ok-x.x in
    let h = c.in_ok-h.h in
    let steps = c.in_ok-chain.chain.steps in
    let last = last_remainder indeterminate steps in
    let common = c.in_ok-common.common in
    let residues = c.in_ok-residues.residues.items in
    let listed : map field.value c.as_slice-2.result.now ≡ residues = ap (map field.value) c.as_slice-2.ensures.value ∙ c.in_ok-zeros.ensures ∙ c.as_slice.ensures.value in
    let shown : c.new.result ≡ residues = c.new.ensures ∙ c.in_ok-zeros.ensures ∙ c.as_slice.ensures.value in
    let rising = c.in_ok-residues.ensures.rising in
    let same : SameUnivariate p h (without_x p last) = λ k.
    c.in_ok-h.ensures.difference k
    ∙ ap (λ l. coefficient_at (minus p l x) k % p) c.last_remainder.ensures
    ∙ plus_alike p (last_remainder x steps) last (multiple (p - 1) x) (multiple (p - 1) indeterminate) (same_last p x indeterminate steps c.in_ok-x.ensures.same) (multiple_alike p (p - 1) x indeterminate c.in_ok-x.ensures.same) k in
    let answer : IsAnswer p f h c.in_ok-a.a c.in_ok-a.b residues = record {
      increasing = increasing_from_rising p 0 residues rising;
      roots = roots_vanish p 0 f common.value residues rising c.in_ok-residues.ensures.roots c.in_ok-common.ensures.divisor.of_first;
      identity = subst (λ l. IsCombination p f h c.in_ok-a.a c.in_ok-a.b (product_of_roots p l)) listed c.in_ok-a.ensures.identity;
      short = c.in_ok-a.ensures.short;
    } in
    subst (AreRoots p f) (sym shown)
    (answer_has_roots p f h c.in_ok-a.a c.in_ok-a.b last residues g.met.F.Field.prime (below_from_rising p 0 residues rising) answer same
    (λ y below none. zeros_of_chains p g.met.F.Field.prime g.met.F.Field.fits f steps y below c.in_ok-chain.ensures.chain none))

pub returns-clause-identity : goal.returns-clause-identity
returns-clause-identity g c =
    let field = g.F.Field in
    let p = field.ORDER in
    let x = c.in_ok-x.x in
    let steps = c.in_ok-chain.chain.steps in
    let last = last_remainder indeterminate steps in
    let first = times c.in_ok-a.a c.args.f.now in
    let b = c.in_ok-a.b in
    let residues = c.in_ok-residues.residues.items in
    let listed : map field.value c.as_slice-2.result.now ≡ residues = ap (map field.value) c.as_slice-2.ensures.value ∙ c.in_ok-zeros.ensures ∙ c.as_slice.ensures.value in
    let shown : c.new.result ≡ residues = c.new.ensures ∙ c.in_ok-zeros.ensures ∙ c.as_slice.ensures.value in
    let same : SameUnivariate p c.in_ok-h.h (without_x p last) = λ k.
    c.in_ok-h.ensures.difference k
    ∙ ap (λ l. coefficient_at (minus p l x) k % p) c.last_remainder.ensures
    ∙ plus_alike p (last_remainder x steps) last (multiple (p - 1) x) (multiple (p - 1) indeterminate) (same_last p x indeterminate steps c.in_ok-x.ensures.same) (multiple_alike p (p - 1) x indeterminate c.in_ok-x.ensures.same) k in
    λ k.
    plus_alike p first first (times b (without_x p last)) (times b c.in_ok-h.h) (λ j. refl) (times_alike_second p b (without_x p last) c.in_ok-h.h (λ j. sym (same j))) k
    ∙ c.in_ok-a.ensures.identity k
    ∙ ap (λ l. coefficient_at (product_of_roots p l) k % p) (listed ∙ sym shown)

pub returns-clause-short : goal.returns-clause-short
returns-clause-short g c = c.in_ok-a.ensures.short

pub returns-clause-increasing : goal.returns-clause-increasing
returns-clause-increasing g c =
    let shown : c.new.result ≡ c.in_ok-residues.residues.items = c.new.ensures ∙ c.in_ok-zeros.ensures ∙ c.as_slice.ensures.value in
    subst IsStrictlyIncreasing (sym shown) (increasing_from_rising g.F.Field.ORDER 0 c.in_ok-residues.residues.items c.in_ok-residues.ensures.rising)

pub returns-clause-chained : goal.returns-clause-chained
returns-clause-chained g c =
    chained_after c.args.meter.now c.pow_mod_chain.new.meter c.split.new.meter
    (c.pow_mod_chain.ensures.only_chains.0, c.pow_mod_chain.ensures.only_chains.2) c.split.ensures.chained

pub returns-in_err-residues-clause-chained : goal.returns-in_err-residues-clause-chained
returns-in_err-residues-clause-chained g c =
    chained_after c.args.meter.now c.pow_mod_chain.new.meter c.split.new.meter
    (c.pow_mod_chain.ensures.only_chains.0, c.pow_mod_chain.ensures.only_chains.2) c.split.ensures.chained

pub returns-in_err-zeros-clause-chained : goal.returns-in_err-zeros-clause-chained
returns-in_err-zeros-clause-chained g c =
    chained_after c.args.meter.now c.pow_mod_chain.new.meter c.split.new.meter
    (c.pow_mod_chain.ensures.only_chains.0, c.pow_mod_chain.ensures.only_chains.2) c.split.ensures.chained

pub returns-in_err-a-clause-chained : goal.returns-in_err-a-clause-chained
returns-in_err-a-clause-chained g c =
    chained_after c.args.meter.now c.pow_mod_chain.new.meter c.split.new.meter
    (c.pow_mod_chain.ensures.only_chains.0, c.pow_mod_chain.ensures.only_chains.2) c.split.ensures.chained

pub returns-in_err-chain-clause-few : goal.returns-in_err-chain-clause-few
returns-in_err-chain-clause-few g c = λ spent one.
    let out = c.in_err-chain.ensures.spent (part_was_spent _ _ c.from_residual.result c.in_err-chain.field-0.0 c.from_residual.ensures.1 spent) in
    chain_left (length c.args.f.now - 1) (pair_count g.F.Field.ORDER) c.args.meter.now (few_pairs g.F.Field.ORDER) out

pub returns-in_err-chain-clause-many : goal.returns-in_err-chain-clause-many
returns-in_err-chain-clause-many g c = λ spent bound separated.
    let out = c.in_err-chain.ensures.spent (part_was_spent _ _ c.from_residual.result c.in_err-chain.field-0.0 c.from_residual.ensures.1 spent) in
    inl (chain_left (length c.args.f.now - 1) (pair_count g.F.Field.ORDER) c.args.meter.now (few_pairs g.F.Field.ORDER) out)

pub returns-in_err-residues-clause-few : goal.returns-in_err-residues-clause-few
returns-in_err-residues-clause-few g c = λ spent one.
    let p = g.F.Field.ORDER in
    let f = c.args.f.now in
    let common = c.in_ok-common.common.value in
    let divides = c.in_ok-common.ensures.divisor.of_first in
    let short = divisor_is_short p f common divides.0 g.met.F.Field.prime c.coefs-normal.ensures.normal c.coefs-normal_divisor.ensures.normal (omega (arith, c.requires)) divides.1 in
    let separated : AreSeparated p f 0 = λ s t first second differ. absurd (differ (one s t first second)) in
    let pairs = c.pow_mod_chain.ensures.only_chains in
    only_few (length f - 1) c.args.meter.now
    (few_left (length f - 1) 0 (splits_of (length common)) pairs.0 c.args.meter.now c.pow_mod_chain.new.meter c.split.new.meter (omega (arith, short, c.requires)) (let few = few_pairs p in let most = pairs.1 in omega (arith, few, most)) pairs.2
    (c.split.ensures.units 0 (separated_of_divisor p 0 common f divides separated)) (c.in_err-residues.ensures.metered.1 (part_was_spent _ _ c.from_residual-in_err-residues.result c.in_err-residues.field-0.0 c.from_residual-in_err-residues.ensures.1 spent)))

pub returns-in_err-residues-clause-many : goal.returns-in_err-residues-clause-many
returns-in_err-residues-clause-many g c = λ spent bound separated.
    let p = g.F.Field.ORDER in
    let f = c.args.f.now in
    let common = c.in_ok-common.common.value in
    let divides = c.in_ok-common.ensures.divisor.of_first in
    let short = divisor_is_short p f common divides.0 g.met.F.Field.prime c.coefs-normal.ensures.normal c.coefs-normal_divisor.ensures.normal (omega (arith, c.requires)) divides.1 in
    let pairs = c.pow_mod_chain.ensures.only_chains in
    few_left (length f - 1) bound (splits_of (length common)) pairs.0 c.args.meter.now c.pow_mod_chain.new.meter c.split.new.meter (omega (arith, short, c.requires)) (let few = few_pairs p in let most = pairs.1 in omega (arith, few, most)) pairs.2
    (c.split.ensures.units bound (separated_of_divisor p bound common f divides separated))
    (c.in_err-residues.ensures.metered.1 (part_was_spent _ _ c.from_residual-in_err-residues.result c.in_err-residues.field-0.0 c.from_residual-in_err-residues.ensures.1 spent))
