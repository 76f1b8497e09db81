-- The laws of a field hold modulo a prime; those of a ring, modulo any number but 0.
use Rattle.std.proofs.Common.{◌≡◌, ℕ, ◌+◌, ◌-◌, ◌*◌, ◌%◌, ◌<◌, sym, ap, ◌∙◌, arith, mod-lt, mod-eq_of_lt}
use Rattle.ffc_field.specs.Modular.{IsPrime, mul_mod}
use Rattle.ffc_field.specs.Laws.{IsCommutativeRing, HasPowers, HasNoZeroDivisors, ObeysFermat, HasInverses}
use Rattle.ffc_field.proofs.ModularLaws.{add_mod-comm, add_mod-assoc, add_mod-zero, add_mod-neg, sub_mod-add_neg, mul_mod-comm, mul_mod-assoc, mul_mod-one, mul_mod-add, pow_mod-zero, pow_mod-suc, pow_mod-add, pow_mod-mul}
use Rattle.ffc_field.proofs.Primes.{no_zero_product, fermat, fermat_residue, inverse_residue}

pub commutative_ring : (p : ℕ) → 0 < p → IsCommutativeRing p
commutative_ring p positive = record {
  add_below = λ x y. mod-lt (x + y) positive;
  add_comm = add_mod-comm p;
  add_assoc = add_mod-assoc p;
  add_zero = add_mod-zero p;
  neg_below = λ x. mod-lt (p - x) positive;
  add_neg = λ x below. add_mod-neg p x (omega arith);
  sub_is = sub_mod-add_neg p;
  mul_below = λ x y. mod-lt (x * y) positive;
  mul_comm = mul_mod-comm p;
  mul_assoc = mul_mod-assoc p;
  mul_one = mul_mod-one p;
  mul_add = mul_mod-add p;
}

pub powers : (p : ℕ) → 1 < p → HasPowers p
powers p two = record {
  pow_zero = λ x. pow_mod-zero p x two;
  pow_suc = pow_mod-suc p;
  pow_add = pow_mod-add p;
  pow_mul = pow_mod-mul p;
}

pub zero_products : (p : ℕ) → IsPrime p → HasNoZeroDivisors p
zero_products p prime x y x_below y_below product = no_zero_product p x y prime x_below y_below product

pub obeys_fermat : (p : ℕ) → IsPrime p → ObeysFermat p
obeys_fermat p prime = record {
  residues = λ x below. fermat_residue p x prime below;
  numbers = fermat p prime;
}

-- y = y * (x * z) = (x * y) * z = z
one_inverse : (p x y z : ℕ) → y < p → z < p → mul_mod p x y ≡ 1 → mul_mod p x z ≡ 1 → y ≡ z
one_inverse p x y z y_below z_below xy xz =
    sym (mul_mod-one p y y_below)
    ∙ ap (λ n. mul_mod p y n) (sym xz)
    ∙ sym (mul_mod-assoc p y x z)
    ∙ ap (λ n. mul_mod p n z) (mul_mod-comm p y x ∙ xy)
    ∙ mul_mod-comm p 1 z
    ∙ mul_mod-one p z z_below

pub inverses : (p : ℕ) → IsPrime p → HasInverses p
inverses p prime = record {
  one_not_zero = prime.least;
  power = λ x below rest. inverse_residue p x prime below rest;
  itself = λ two x below rest.
      let one : x ≡ 1 = omega (arith, rest)
      in ap (λ n. n * n % p) one ∙ mod-eq_of_lt prime.least;
  only = one_inverse p;
}
