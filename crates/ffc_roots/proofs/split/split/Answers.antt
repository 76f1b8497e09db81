use Rattle.std.proofs.Common.{◌≡◌, ℕ, ◌+◌, ◌-◌, [], ◌∷◌, ◌++◌, length, take, min, sym, ap, ◌∙◌, subst, arith}
use Rattle.std.specs.Prelude.{MatchOption, vec_len}
use Rattle.std.specs.Option.{option_to_list}
use Rattle.std.proofs.lemmas.List.Sums.{sum_by-append}
use Rattle.ffc_uni.specs.Univariate.{Coefficients, SameUnivariate, multiple, product_of_roots, times}
use Rattle.ffc_roots.specs.Divisors.{field_polynomial}
use Rattle.ffc_roots.specs.Parts.{AreRising, joined, splits_in, splits_of}
use Rattle.ffc_roots.proofs.Apart.{nothing_taken, in_front, front_divides, front_with_roots_divides, taken_further, all_taken, separated_of_divisor}
use Rattle.ffc_roots.proofs.Bounds.{at_most_chained, turns_later, turns_more}
use Rattle.ffc_roots.proofs.Bounds as units
use Rattle.ffc_roots.proofs.Chained.{chained_after}
use Rattle.ffc_roots.proofs.Euclid.{divisor_of_divisor}
use Rattle.ffc_roots.proofs.split.split.Goals as goal

pub loop-f-init : goal.loop-f-init
loop-f-init g c =
    let p = g.F.Field.ORDER in
    let product = c.args.product.now in
    let pending = c.push.new.self.items in
    let single : pending ≡ product ∷ [] =
    c.in_ok-push.ensures.items ∙ ap (λ l. l ++ c.in_ok-clone.field-0 ∷ []) c.new-pending.ensures.items ∙ ap (λ (f : Coefficients). f ∷ []) c.in_ok-clone.ensures.cases in
    record {
      product = subst (λ r. (d : ℕ) × SameUnivariate p product (multiple d (joined p r pending))) (sym c.new-roots.ensures.items) (nothing_taken p product pending single);
      rising = subst (AreRising p 0) (sym c.new-roots.ensures.items) tt;
      units = λ bound separated. (0, omega (arith, ap splits_in single), units.nothing_taken _ c.args.meter.now);
      chained = at_most_chained 0 c.args.meter.now c.args.meter.now (units.nothing_taken 0 c.args.meter.now);
    }

pub take_apart-requires : goal.take_apart-requires
take_apart-requires g c =
    let p = g.F.Field.ORDER in
    let product = c.args.product.now in
    let known = c.loop-f.invariant in
    let f = c.in-Some.f in
    let roots = c.loop-f.roots.items in
    let rest = c.pop.new.self.items in
    let front = in_front p known.product.0 product f roots rest c.loop-f.pending.items known.product.1 c.in-Some.ensures.items in
    record {
      rising = known.rising;
      divides = divisor_of_divisor p (times f (product_of_roots p roots)) product (field_polynomial p) (front_with_roots_divides p known.product.0 product f roots rest front) c.requires;
    }

pub loop-f-preserved : goal.loop-f-preserved
loop-f-preserved g c =
    let p = g.F.Field.ORDER in
    let product = c.args.product.now in
    let known = c.loop-f.invariant in
    let f = c.in-Some.f in
    let roots = c.loop-f.roots.items in
    let rest = c.pop.new.self.items in
    let front = in_front p known.product.0 product f roots rest c.loop-f.pending.items known.product.1 c.in-Some.ensures.items in
    let s = min 1 (splits_of (length f)) in
    let parts : splits_in c.loop-f.pending.items ≡ splits_in rest + (0 + splits_of (length f)) = ap splits_in c.in-Some.ensures.items ∙ sum_by-append (λ (h : Coefficients). splits_of (length h)) rest (f ∷ []) in
    record {
      product = taken_further p known.product.0 product f roots c.take_apart.new.roots.items rest c.take_apart.new.pending.items front c.in_ok-take_apart.ensures.product;
      rising = c.in_ok-take_apart.ensures.rising;
      units = λ bound separated.
          let before = known.units bound separated in (
            before.0 + s,
            omega (arith, before.1, parts, c.in_ok-take_apart.ensures.splits),
            turns_later bound before.0 s (before.0 + s) c.args.meter.now c.loop-f.meter c.take_apart.new.meter (omega arith) before.2
                (c.take_apart.ensures.units bound (separated_of_divisor p bound f product (front_divides p known.product.0 product f roots rest front) separated)),
          );
      chained = chained_after c.args.meter.now c.loop-f.meter c.take_apart.new.meter known.chained c.take_apart.ensures.chained;
    }

pub returns-in_err-take_apart-clause-units : goal.returns-in_err-take_apart-clause-units
returns-in_err-take_apart-clause-units g c = λ bound separated.
    let p = g.F.Field.ORDER in
    let product = c.args.product.now in
    let known = c.loop-f.invariant in
    let f = c.in-Some.f in
    let roots = c.loop-f.roots.items in
    let rest = c.pop.new.self.items in
    let front = in_front p known.product.0 product f roots rest c.loop-f.pending.items known.product.1 c.in-Some.ensures.items in
    let s = min 1 (splits_of (length f)) in
    let before = known.units bound separated in
    let parts : splits_in c.loop-f.pending.items ≡ splits_in rest + (0 + splits_of (length f)) = ap splits_in c.in-Some.ensures.items ∙ sum_by-append (λ (h : Coefficients). splits_of (length h)) rest (f ∷ []) in
    turns_later bound before.0 s (splits_of (length product)) c.args.meter.now c.loop-f.meter c.take_apart.new.meter (omega (arith, before.1, parts)) before.2
    (c.take_apart.ensures.units bound (separated_of_divisor p bound f product (front_divides p known.product.0 product f roots rest front) separated))

pub returns-in_err-take_apart-clause-chained : goal.returns-in_err-take_apart-clause-chained
returns-in_err-take_apart-clause-chained g c =
    chained_after c.args.meter.now c.loop-f.meter c.take_apart.new.meter c.loop-f.invariant.chained c.take_apart.ensures.chained

pub returns-clause-roots : goal.returns-clause-roots
returns-clause-roots g c =
    let known = c.loop-f.invariant in
    let pending = c.loop-f.pending.items in
    let count = vec_len c.loop-f.pending in
    let empty : (count ≡ 0) × (vec_len c.pop.new.self ≡ 0) = subst (λ o. MatchOption o ((count ≡ 0) × (vec_len c.pop.new.self ≡ 0)) (λ _. vec_len c.pop.new.self + 1 ≡ count)) c.in_default.is c.pop.ensures.cases in
    let none : pending ≡ [] =
    c.pop.ensures.items ∙ ap (λ o. c.pop.new.self.items ++ option_to_list o) c.in_default.is ∙ ap (λ l. l ++ []) (c.pop.ensures.rest ∙ ap (λ n. take (n - 1) pending) empty.0) in
    all_taken g.F.Field.ORDER known.product.0 c.args.product.now c.loop-f.roots.items pending known.product.1 none

pub returns-clause-units : goal.returns-clause-units
returns-clause-units g c = λ bound separated.
    let before = c.loop-f.invariant.units bound separated in
    turns_more bound before.0 (splits_of (length c.args.product.now)) c.args.meter.now c.loop-f.meter (let within = before.1 in omega (arith, within)) before.2
