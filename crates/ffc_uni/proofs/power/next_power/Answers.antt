use Rattle.std.proofs.Common.{sym, subst, arith, refl}
use Rattle.ffc_uni.specs.Univariate.{IsRemainder, times, with_factor}
use Rattle.ffc_uni.proofs.Products.{remainder_of_product, remainder_itself}
use Rattle.ffc_uni.proofs.UnitLemmas.{at_most_later, stopped_at_most}
use Rattle.ffc_uni.proofs.power.next_power.Goals as goal

pub returns-then-not-one_more-clause-power : goal.returns-then-not-one_more-clause-power
returns-then-not-one_more-clause-power g c = λ a of.
    let p = g.F.Field.ORDER in
    let f = c.args.f.now in
    let power = c.args.power.now in
    let square = c.in_ok-square.square in
    subst (λ d. IsRemainder p f (with_factor c.args.base.now d a) square) (sym c.if-not-one_more.true)
    (remainder_of_product p f a a power power square of of (c.in_ok-square.field-0-0, c.in_ok-square.ensures.division))

pub returns-in_err-product-clause-units : goal.returns-in_err-product-clause-units
returns-in_err-product-clause-units g c =
    at_most_later 1 1 c.args.meter.now c.divided_square.new.meter c.divided_product.new.meter
    (1, omega arith, c.in_ok-square.ensures.counted.0)
    (stopped_at_most 1 c.divided_square.new.meter c.divided_product.new.meter _ c.in_err-product.ensures.counted)

pub returns-clause-units : goal.returns-clause-units
returns-clause-units g c =
    at_most_later 1 1 c.args.meter.now c.divided_square.new.meter c.divided_product.new.meter
    (1, omega arith, c.in_ok-square.ensures.counted.0)
    (1, omega arith, c.in_ok-product.ensures.counted.0)

pub returns-clause-power : goal.returns-clause-power
returns-clause-power g c = λ a of.
    let p = g.F.Field.ORDER in
    let f = c.args.f.now in
    let base = c.args.base.now in
    let power = c.args.power.now in
    let square = c.in_ok-square.square in
    let product = c.in_ok-product.product in
    let squared : IsRemainder p f (times a a) square = remainder_of_product p f a a power power square of of (c.in_ok-square.field-0-0, c.in_ok-square.ensures.division) in
    subst (λ d. IsRemainder p f (with_factor base d a) product) (sym c.if-not-one_more.false)
    (remainder_of_product p f base (times a a) base square product (remainder_itself p f base base (λ k. refl)) squared (c.in_ok-product.field-0-0, c.in_ok-product.ensures.division))
