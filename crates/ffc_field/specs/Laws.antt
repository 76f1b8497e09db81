-- The laws of a field of p elements, on the residues of p: the numbers below p. See a text on algebra, as S. Lang,
-- Algebra, chapters II and V.
use Rattle.std.specs.Prelude.{◌≡◌, ℕ, suc, ◌+◌, ◌*◌, ◌-◌, ◌%◌, ◌^◌, ◌<◌, ◌⊎◌}
use Rattle.ffc_field.specs.Modular.{add_mod, sub_mod, mul_mod, neg_mod, pow_mod}

-- residues are a commutative ring
pub record IsCommutativeRing (p : ℕ) : Type 0 where
  pub add_below : (x y : ℕ) → add_mod p x y < p
  pub add_comm : (x y : ℕ) → add_mod p x y ≡ add_mod p y x
  pub add_assoc : (x y z : ℕ) → add_mod p (add_mod p x y) z ≡ add_mod p x (add_mod p y z)
  pub add_zero : (x : ℕ) → x < p → add_mod p x 0 ≡ x
  pub neg_below : (x : ℕ) → neg_mod p x < p
  pub add_neg : (x : ℕ) → x < p → add_mod p x (neg_mod p x) ≡ 0
  pub sub_is : (x y : ℕ) → sub_mod p x y ≡ add_mod p x (neg_mod p y)
  pub mul_below : (x y : ℕ) → mul_mod p x y < p
  pub mul_comm : (x y : ℕ) → mul_mod p x y ≡ mul_mod p y x
  pub mul_assoc : (x y z : ℕ) → mul_mod p (mul_mod p x y) z ≡ mul_mod p x (mul_mod p y z)
  pub mul_one : (x : ℕ) → x < p → mul_mod p x 1 ≡ x
  pub mul_add : (x y z : ℕ) → mul_mod p x (add_mod p y z) ≡ add_mod p (mul_mod p x y) (mul_mod p x z)

-- a power is a repeated product
pub record HasPowers (p : ℕ) : Type 0 where
  pub pow_zero : (x : ℕ) → pow_mod p x 0 ≡ 1
  pub pow_suc : (x e : ℕ) → pow_mod p x (suc e) ≡ mul_mod p x (pow_mod p x e)
  pub pow_add : (x e f : ℕ) → pow_mod p x (e + f) ≡ mul_mod p (pow_mod p x e) (pow_mod p x f)
  pub pow_mul : (x e f : ℕ) → pow_mod p x (e * f) ≡ pow_mod p (pow_mod p x e) f

-- a product is 0 only where a factor is
abbrev pub HasNoZeroDivisors : ℕ → Type 0
HasNoZeroDivisors p = (x y : ℕ) → x < p → y < p → mul_mod p x y ≡ 0 → (x ≡ 0) ⊎ (y ≡ 0)

-- the p-th power of a residue is the residue (Fermat), and that of any number leaves what the number leaves
pub record ObeysFermat (p : ℕ) : Type 0 where
  pub residues : (x : ℕ) → x < p → pow_mod p x p ≡ x
  pub numbers : (x : ℕ) → x ^ p % p ≡ x % p

-- Each residue but 0 has one inverse, its power to p - 2. In the field of two elements it is the residue itself.
pub record HasInverses (p : ℕ) : Type 0 where
  pub one_not_zero : 1 < p
  pub power : (x : ℕ) → x < p → (x ≡ 0 → ⊥) → mul_mod p x (pow_mod p x (p - 2)) ≡ 1
  pub itself : p ≡ 2 → (x : ℕ) → x < p → (x ≡ 0 → ⊥) → mul_mod p x x ≡ 1
  pub only : (x y z : ℕ) → y < p → z < p → mul_mod p x y ≡ 1 → mul_mod p x z ≡ 1 → y ≡ z
