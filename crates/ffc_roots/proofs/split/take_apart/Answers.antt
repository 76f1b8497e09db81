use Rattle.std.proofs.Common.{◌≡◌, ◌*◌, ◌≤◌, length, min, sym, ap, arith}
use Rattle.ffc_uni.specs.Univariate.{product_of_roots, times}
use Rattle.ffc_uni.proofs.UnitLemmas.{at_most_more}
use Rattle.ffc_roots.specs.Divisors.{field_polynomial}
use Rattle.ffc_roots.specs.Parts.{splits_of}
use Rattle.ffc_roots.proofs.Apart.{root_taken, constant_taken, parts_taken, root_is_new}
use Rattle.ffc_roots.proofs.Bounds.{nothing_taken}
use Rattle.ffc_roots.proofs.Euclid.{divisor_of_divisor}
use Rattle.ffc_roots.proofs.FieldPolynomial.{commuted}
use Rattle.ffc_roots.proofs.Lists.{length-residues}
use Rattle.ffc_roots.proofs.split.take_apart.Goals as goal

pub linear_root-requires : goal.linear_root-requires
linear_root-requires g c = omega (arith, c.if-length-eq2.true, sym (ap length c.coefs-length.ensures.value), length-residues g.F.Field.value c.coefs-length.result.now)

pub insert_root-requires : goal.insert_root-requires
insert_root-requires g c = record {
  rising = c.requires.rising;
  absent = root_is_new g.F.Field.ORDER (g.F.Field.value c.linear_root.result) c.args.f.now c.args.roots.now.items g.met.F.Field.prime (g.met.F.Field.below c.linear_root.result) c.linear_root.ensures c.requires.divides;
}

pub part-requires : goal.part-requires
part-requires g c =
    let p = g.F.Field.ORDER in
    let f = c.args.f.now in
    let old = product_of_roots p c.args.roots.now.items in
    record {
      long = omega (arith, c.if-length-eq2.false, c.if-length-lt2.false, sym (ap length c.coefs-length.ensures.value), length-residues g.F.Field.value c.coefs-length.result.now);
      normal = c.coefs-length.ensures.normal;
      divides = divisor_of_divisor p f (times f old) (field_polynomial p) (old, commuted p f old) c.requires.divides;
    }

pub returns-then-length-eq2-clause-product : goal.returns-then-length-eq2-clause-product
returns-then-length-eq2-clause-product g c =
    root_taken g.F.Field.ORDER (g.F.Field.value c.linear_root.result) c.args.f.now c.args.roots.now.items c.insert_root.new.roots.items c.args.pending.now.items c.linear_root.ensures c.in_ok-insert_root.ensures.product

pub returns-then-length-eq2-clause-units : goal.returns-then-length-eq2-clause-units
returns-then-length-eq2-clause-units g c = λ bound separated. nothing_taken _ c.args.meter.now

pub returns-in_err-insert_root-clause-units : goal.returns-in_err-insert_root-clause-units
returns-in_err-insert_root-clause-units g c = λ bound separated. nothing_taken _ c.args.meter.now

pub returns-then-length-lt2-clause-product : goal.returns-then-length-lt2-clause-product
returns-then-length-lt2-clause-product g c =
    constant_taken g.F.Field.ORDER c.args.f.now c.args.roots.now.items c.args.pending.now.items
    (omega (arith, c.if-length-lt2.true, sym (ap length c.coefs-length.ensures.value), length-residues g.F.Field.value c.coefs-length.result.now))

pub returns-then-length-lt2-clause-units : goal.returns-then-length-lt2-clause-units
returns-then-length-lt2-clause-units g c = λ bound separated. nothing_taken _ c.args.meter.now

pub returns-in_err-parts-clause-units : goal.returns-in_err-parts-clause-units
returns-in_err-parts-clause-units g c = λ bound separated.
    let long : 3 ≤ length c.args.f.now = omega (arith, c.if-length-eq2.false, c.if-length-lt2.false, sym (ap length c.coefs-length.ensures.value), length-residues g.F.Field.value c.coefs-length.result.now) in
    let one : min 1 (splits_of (length c.args.f.now)) ≡ 1 = omega arith in
    at_most_more (128 * bound) (128 * (bound * min 1 (splits_of (length c.args.f.now)))) c.args.meter.now c.part.new.meter (omega (arith, ap (λ k. bound * k) one)) (c.part.ensures.units bound separated)

pub returns-in_err-push-clause-units : goal.returns-in_err-push-clause-units
returns-in_err-push-clause-units g c = λ bound separated.
    let long : 3 ≤ length c.args.f.now = omega (arith, c.if-length-eq2.false, c.if-length-lt2.false, sym (ap length c.coefs-length.ensures.value), length-residues g.F.Field.value c.coefs-length.result.now) in
    let one : min 1 (splits_of (length c.args.f.now)) ≡ 1 = omega arith in
    at_most_more (128 * bound) (128 * (bound * min 1 (splits_of (length c.args.f.now)))) c.args.meter.now c.part.new.meter (omega (arith, ap (λ k. bound * k) one)) (c.part.ensures.units bound separated)

pub returns-in_err-push-2-clause-units : goal.returns-in_err-push-2-clause-units
returns-in_err-push-2-clause-units g c = λ bound separated.
    let long : 3 ≤ length c.args.f.now = omega (arith, c.if-length-eq2.false, c.if-length-lt2.false, sym (ap length c.coefs-length.ensures.value), length-residues g.F.Field.value c.coefs-length.result.now) in
    let one : min 1 (splits_of (length c.args.f.now)) ≡ 1 = omega arith in
    at_most_more (128 * bound) (128 * (bound * min 1 (splits_of (length c.args.f.now)))) c.args.meter.now c.part.new.meter (omega (arith, ap (λ k. bound * k) one)) (c.part.ensures.units bound separated)

pub returns-clause-units : goal.returns-clause-units
returns-clause-units g c = λ bound separated.
    let long : 3 ≤ length c.args.f.now = omega (arith, c.if-length-eq2.false, c.if-length-lt2.false, sym (ap length c.coefs-length.ensures.value), length-residues g.F.Field.value c.coefs-length.result.now) in
    let one : min 1 (splits_of (length c.args.f.now)) ≡ 1 = omega arith in
    at_most_more (128 * bound) (128 * (bound * min 1 (splits_of (length c.args.f.now)))) c.args.meter.now c.part.new.meter (omega (arith, ap (λ k. bound * k) one)) (c.part.ensures.units bound separated)

pub returns-clause-product : goal.returns-clause-product
returns-clause-product g c =
    parts_taken g.F.Field.ORDER c.args.f.now c.in_ok-parts.parts.first c.in_ok-parts.parts.second c.args.roots.now.items c.args.pending.now.items c.push.new.self.items c.push-2.new.self.items
    c.in_ok-parts.ensures.parts.product c.in_ok-push.ensures.items c.in_ok-push-2.ensures.items
