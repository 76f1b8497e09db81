-- The laws of monomials.
use Rattle.std.proofs.Common.{◌≡◌, ◌≢◌, ℕ, suc, ◌+◌, ◌-◌, ◌*◌, ◌^◌, ◌<◌, ◌≤◌, max, cond, ltb, [], ◌∷◌, refl, sym, ap, ap₂, ◌∙◌, inl, inr, ne_eqb, eq-eqb, lt-ltb, le-ltb, arith, mul_assoc, mul_left_comm, one-mul, pow-add}
use Rattle.std.proofs.lemmas.Bool.{cond-true, cond-false, cases_order, cases_eq, cases_lt}
use Rattle.ffc_ring.specs.Monomial.{Monomial, IsMonomialFrom, IsMonomial, exponent, degree, with_power, joined, mono_mul, mono_lcm, mono_quotient, Divides, AreCoprime, mono_value}

-- ---- exponents

-- the exponent of the first variable
pub exponent-here : (p : ℕ × ℕ) (m : Monomial) (x : ℕ) → x ≡ p.0 → exponent (p ∷ m) x ≡ p.1
exponent-here p m x e = cond-true _ _ _ (eq-eqb x p.0 e)

pub exponent-there : (p : ℕ × ℕ) (m : Monomial) (x : ℕ) → x ≢ p.0 → exponent (p ∷ m) x ≡ exponent m x
exponent-there p m x e = cond-false _ _ _ (ne_eqb x p.0 e)

-- below the first variable each exponent is 0
pub exponent-below : (low : ℕ) (m : Monomial) (x : ℕ) → IsMonomialFrom low m → x < low → exponent m x ≡ 0
exponent-below low [] x v h = refl
exponent-below low (p ∷ m) x v h =
    exponent-there p m x (omega arith) ∙ exponent-below (suc p.0) m x v.2 (omega arith)

-- a monomial from one place on is one from each lower place on
pub from_lower : (low high : ℕ) (m : Monomial) → IsMonomialFrom high m → low ≤ high → IsMonomialFrom low m
from_lower low high [] v h = tt
from_lower low high (p ∷ m) v h = (omega arith, v.1, v.2)

-- the exponents after equal first powers
tails_alike : (p q : ℕ × ℕ) (m n : Monomial) → IsMonomialFrom (suc p.0) m → IsMonomialFrom (suc p.0) n → p.0 ≡ q.0 → ((x : ℕ) → exponent (p ∷ m) x ≡ exponent (q ∷ n) x) → (x : ℕ) → exponent m x ≡ exponent n x
tails_alike p q m n v w same h x =
    elim (cases_eq x p.0) [
      | inl here ↦ exponent-below (suc p.0) m x v (omega arith) ∙ sym (exponent-below (suc p.0) n x w (omega arith))
      | inr there ↦ sym (exponent-there p m x there) ∙ h x ∙ exponent-there q n x (λ e. there (e ∙ sym same))
    ]

-- equal exponents, equal monomials
pub one_monomial : (low : ℕ) (m n : Monomial) → IsMonomialFrom low m → IsMonomialFrom low n → ((x : ℕ) → exponent m x ≡ exponent n x) → m ≡ n
one_monomial low [] [] v w h = refl
one_monomial low [] (q ∷ n) v w h =
    let e : 0 ≡ q.1 = h q.0 ∙ exponent-here q n q.0 refl in absurd (omega arith)
one_monomial low (p ∷ m) [] v w h =
    let e : p.1 ≡ 0 = sym (exponent-here p m p.0 refl) ∙ h p.0 in absurd (omega arith)
one_monomial low (p ∷ m) (q ∷ n) v w h =
    elim (cases_order p.0 q.0) [
      | inl same ↦
          let d : p.1 ≡ q.1 = sym (exponent-here p m p.0 refl) ∙ h p.0 ∙ exponent-here q n p.0 same in
          let w' : IsMonomialFrom (suc p.0) n = from_lower (suc p.0) (suc q.0) n w.2 (omega arith) in
          let tail : (x : ℕ) → exponent m x ≡ exponent n x = tails_alike p q m n v.2 w' same h in
          ap₂ ◌∷◌ (ap₂ (λ a b. (a, b)) same d) (one_monomial (suc p.0) m n v.2 w' tail)
      | inr (inl less) ↦
          let e : p.1 ≡ 0 = sym (exponent-here p m p.0 refl) ∙ h p.0 ∙ exponent-there q n p.0 (omega arith) ∙ exponent-below (suc q.0) n p.0 w.2 (omega arith) in
          absurd (omega arith)
      | inr (inr more) ↦
          let e : 0 ≡ q.1 = sym (exponent-there p m q.0 (omega arith) ∙ exponent-below (suc p.0) m q.0 v.2 (omega arith)) ∙ h q.0 ∙ exponent-here q n q.0 refl in
          absurd (omega arith)
    ]

-- ---- one power merged in

pub with_power-less : (f : ℕ → ℕ → ℕ) (x e : ℕ) (p : ℕ × ℕ) (m : Monomial) → x < p.0 → with_power f x e (p ∷ m) ≡ (x, e) ∷ p ∷ m
with_power-less f x e p m h = cond-true _ _ _ (lt-ltb x p.0 h)

pub with_power-same : (f : ℕ → ℕ → ℕ) (x e : ℕ) (p : ℕ × ℕ) (m : Monomial) → x ≡ p.0 → with_power f x e (p ∷ m) ≡ (x, f e p.1) ∷ m
with_power-same f x e p m h =
    cond-false _ _ _ (le-ltb x p.0 (omega arith)) ∙ cond-true _ _ _ (eq-eqb x p.0 h)

pub with_power-more : (f : ℕ → ℕ → ℕ) (x e : ℕ) (p : ℕ × ℕ) (m : Monomial) → p.0 < x → with_power f x e (p ∷ m) ≡ p ∷ with_power f x e m
with_power-more f x e p m h =
    cond-false _ _ _ (le-ltb x p.0 (omega arith)) ∙ cond-false _ _ _ (ne_eqb x p.0 (omega arith))

-- how two exponents join: at least 1 where the first is, and 0 joins as nothing
pub record Joins (f : ℕ → ℕ → ℕ) : Type 0 where
  pub positive : (e d : ℕ) → 1 ≤ e → 1 ≤ f e d
  pub with_zero : (e : ℕ) → f e 0 ≡ e
  pub zero_with : (e : ℕ) → f 0 e ≡ e

pub sums : Joins ◌+◌
sums = record { positive = λ e d h. omega arith; with_zero = λ e. omega arith; zero_with = λ e. omega arith }

pub greater_ones : Joins max
greater_ones = record { positive = λ e d h. omega arith; with_zero = λ e. omega arith; zero_with = λ e. omega arith }

module _ (f : ℕ → ℕ → ℕ) (j : Joins f) where
  pub IsMonomialFrom-with_power : (low x e : ℕ) (m : Monomial) → IsMonomialFrom low m → low ≤ x → 1 ≤ e → IsMonomialFrom low (with_power f x e m)
  IsMonomialFrom-with_power low x e [] v h g = (h, g, tt)
  IsMonomialFrom-with_power low x e (p ∷ m) v h g =
      elim (cases_order x p.0) [
        | inl same ↦ rw (with_power-same f x e p m same) (h, j.positive e p.1 g, from_lower (suc x) (suc p.0) m v.2 (omega arith))
        | inr (inl less) ↦ rw (with_power-less f x e p m less) (h, g, (less, v.1, v.2))
        | inr (inr more) ↦ rw (with_power-more f x e p m more) (v.0, v.1, IsMonomialFrom-with_power (suc p.0) x e m v.2 more g)
      ]

  pub exponent-with_power_here : (low x e : ℕ) (m : Monomial) → IsMonomialFrom low m → exponent (with_power f x e m) x ≡ f e (exponent m x)
  exponent-with_power_here low x e [] v = exponent-here (x, e) [] x refl ∙ sym (j.with_zero e)
  exponent-with_power_here low x e (p ∷ m) v =
      elim (cases_order x p.0) [
        | inl same ↦ rw (with_power-same f x e p m same) (exponent-here (x, f e p.1) m x refl ∙ ap (f e) (sym (exponent-here p m x same)))
        | inr (inl less) ↦
            rw (with_power-less f x e p m less)
            (exponent-here (x, e) (p ∷ m) x refl ∙ sym (j.with_zero e)
            ∙ ap (f e) (sym (exponent-there p m x (omega arith) ∙ exponent-below (suc p.0) m x v.2 (omega arith))))
        | inr (inr more) ↦
            rw (with_power-more f x e p m more)
            (exponent-there p (with_power f x e m) x (omega arith) ∙ exponent-with_power_here (suc p.0) x e m v.2
            ∙ ap (f e) (sym (exponent-there p m x (omega arith))))
      ]

  pub exponent-with_power_there : (x e y : ℕ) (m : Monomial) → y ≢ x → exponent (with_power f x e m) y ≡ exponent m y
  exponent-with_power_there x e y [] h = exponent-there (x, e) [] y h
  exponent-with_power_there x e y (p ∷ m) h =
      elim (cases_order x p.0) [
        | inl same ↦
            rw (with_power-same f x e p m same)
            (exponent-there (x, f e p.1) m y h ∙ sym (exponent-there p m y (λ k. h (k ∙ sym same))))
        | inr (inl less) ↦ rw (with_power-less f x e p m less) (exponent-there (x, e) (p ∷ m) y h)
        | inr (inr more) ↦
            rw (with_power-more f x e p m more)
            (elim (cases_eq y p.0) [
              | inl at_p ↦ exponent-here p (with_power f x e m) y at_p ∙ sym (exponent-here p m y at_p)
              | inr off ↦ exponent-there p (with_power f x e m) y off ∙ exponent-with_power_there x e y m h ∙ sym (exponent-there p m y off)
            ])
      ]

  -- ---- merged monomials

  pub IsMonomialFrom-joined : (low : ℕ) (m n : Monomial) → IsMonomialFrom low m → IsMonomialFrom low n → IsMonomialFrom low (joined f m n)
  IsMonomialFrom-joined low [] n v w = w
  IsMonomialFrom-joined low (p ∷ m) n v w =
      IsMonomialFrom-with_power low p.0 p.1 (joined f m n) (IsMonomialFrom-joined low m n (from_lower low (suc p.0) m v.2 (omega arith)) w) v.0 v.1

  exponent-joined_here : (low : ℕ) (p : ℕ × ℕ) (m n : Monomial) (x : ℕ) → IsMonomialFrom low (p ∷ m) → IsMonomialFrom low n → x ≡ p.0 → exponent (joined f m n) x ≡ f (exponent m x) (exponent n x) → exponent (joined f (p ∷ m) n) x ≡ f (exponent (p ∷ m) x) (exponent n x)
  exponent-joined_here low p m n x v w here rest =
      let tail : IsMonomialFrom low m = from_lower low (suc p.0) m v.2 (omega arith) in
      let both : IsMonomialFrom low (joined f m n) = IsMonomialFrom-joined low m n tail w in
      let none : exponent m x ≡ 0 = exponent-below (suc p.0) m x v.2 (omega arith) in
      ap (exponent (joined f (p ∷ m) n)) here ∙ exponent-with_power_here low p.0 p.1 (joined f m n) both
      ∙ ap (f p.1) (ap (exponent (joined f m n)) (sym here) ∙ rest ∙ ap (λ k. f k (exponent n x)) none ∙ j.zero_with (exponent n x))
      ∙ ap (λ k. f k (exponent n x)) (sym (exponent-here p m x here))

  pub exponent-joined : (low : ℕ) (m n : Monomial) (x : ℕ) → IsMonomialFrom low m → IsMonomialFrom low n → exponent (joined f m n) x ≡ f (exponent m x) (exponent n x)
  exponent-joined low [] n x v w = sym (j.zero_with (exponent n x))
  exponent-joined low (p ∷ m) n x v w =
      let tail : IsMonomialFrom low m = from_lower low (suc p.0) m v.2 (omega arith) in
      let both : IsMonomialFrom low (joined f m n) = IsMonomialFrom-joined low m n tail w in
      let rest : exponent (joined f m n) x ≡ f (exponent m x) (exponent n x) = exponent-joined low m n x tail w in
      elim (cases_eq x p.0) [
        | inl here ↦ exponent-joined_here low p m n x v w here rest
        | inr there ↦
            exponent-with_power_there p.0 p.1 x (joined f m n) there ∙ rest ∙ ap (λ k. f k (exponent n x)) (sym (exponent-there p m x there))
      ]

-- ---- products

pub IsMonomial-mono_mul : (m n : Monomial) → IsMonomial m → IsMonomial n → IsMonomial (mono_mul m n)
IsMonomial-mono_mul m n v w = IsMonomialFrom-joined ◌+◌ sums 0 m n v w

pub exponent-mono_mul : (m n : Monomial) → IsMonomial m → IsMonomial n → (x : ℕ) → exponent (mono_mul m n) x ≡ exponent m x + exponent n x
exponent-mono_mul m n v w x = exponent-joined ◌+◌ sums 0 m n x v w

pub IsMonomial-mono_lcm : (m n : Monomial) → IsMonomial m → IsMonomial n → IsMonomial (mono_lcm m n)
IsMonomial-mono_lcm m n v w = IsMonomialFrom-joined max greater_ones 0 m n v w

pub exponent-mono_lcm : (m n : Monomial) → IsMonomial m → IsMonomial n → (x : ℕ) → exponent (mono_lcm m n) x ≡ max (exponent m x) (exponent n x)
exponent-mono_lcm m n v w x = exponent-joined max greater_ones 0 m n x v w

degree-with_power : (x e : ℕ) (m : Monomial) → degree (with_power ◌+◌ x e m) ≡ e + degree m
degree-with_power x e [] = refl
degree-with_power x e (p ∷ m) =
    elim (cases_order x p.0) [
      | inl same ↦ rw (with_power-same ◌+◌ x e p m same) (omega arith)
      | inr (inl less) ↦ rw (with_power-less ◌+◌ x e p m less) refl
      | inr (inr more) ↦ rw (with_power-more ◌+◌ x e p m more) (omega (arith, degree-with_power x e m))
    ]

pub degree-mono_mul : (m n : Monomial) → degree (mono_mul m n) ≡ degree m + degree n
degree-mono_mul [] n = omega arith
degree-mono_mul (p ∷ m) n = degree-with_power p.0 p.1 (joined ◌+◌ m n) ∙ omega (arith, degree-mono_mul m n)

mono_value-with_power : (point : ℕ → ℕ) (x e : ℕ) (m : Monomial) → mono_value point (with_power ◌+◌ x e m) ≡ point x ^ e * mono_value point m
mono_value-with_power point x e [] = refl
mono_value-with_power point x e (p ∷ m) =
    elim (cases_order x p.0) [
      | inl same ↦
          rw (with_power-same ◌+◌ x e p m same)
          (ap (λ k. k * mono_value point m) (pow-add (point x) e p.1) ∙ mul_assoc (point x ^ e) (point x ^ p.1) (mono_value point m)
          ∙ ap (λ y. point x ^ e * (point y ^ p.1 * mono_value point m)) same)
      | inr (inl less) ↦ rw (with_power-less ◌+◌ x e p m less) refl
      | inr (inr more) ↦
          rw (with_power-more ◌+◌ x e p m more)
          (ap (λ k. point p.0 ^ p.1 * k) (mono_value-with_power point x e m)
          ∙ mul_left_comm (point p.0 ^ p.1) (point x ^ e) (mono_value point m))
    ]

pub mono_value-mono_mul : (point : ℕ → ℕ) (m n : Monomial) → mono_value point (mono_mul m n) ≡ mono_value point m * mono_value point n
mono_value-mono_mul point [] n = sym (one-mul (mono_value point n))
mono_value-mono_mul point (p ∷ m) n =
    mono_value-with_power point p.0 p.1 (joined ◌+◌ m n) ∙ ap (λ k. point p.0 ^ p.1 * k) (mono_value-mono_mul point m n)
    ∙ sym (mul_assoc (point p.0 ^ p.1) (mono_value point m) (mono_value point n))

pub mono_mul_comm : (m n : Monomial) → IsMonomial m → IsMonomial n → mono_mul m n ≡ mono_mul n m
mono_mul_comm m n v w =
    one_monomial 0 (mono_mul m n) (mono_mul n m) (IsMonomial-mono_mul m n v w) (IsMonomial-mono_mul n m w v)
    (λ x. omega (arith, exponent-mono_mul m n v w x, exponent-mono_mul n m w v x))

pub mono_mul_assoc : (m n k : Monomial) → IsMonomial m → IsMonomial n → IsMonomial k → mono_mul (mono_mul m n) k ≡ mono_mul m (mono_mul n k)
mono_mul_assoc m n k v w u =
    let mn : IsMonomial (mono_mul m n) = IsMonomial-mono_mul m n v w in
    let nk : IsMonomial (mono_mul n k) = IsMonomial-mono_mul n k w u in
    one_monomial 0 (mono_mul (mono_mul m n) k) (mono_mul m (mono_mul n k)) (IsMonomial-mono_mul (mono_mul m n) k mn u) (IsMonomial-mono_mul m (mono_mul n k) v nk)
    (λ x. omega (arith, exponent-mono_mul (mono_mul m n) k mn u x, exponent-mono_mul m n v w x, exponent-mono_mul m (mono_mul n k) v nk x, exponent-mono_mul n k w u x))

pub mono_mul_one : (m : Monomial) → IsMonomial m → mono_mul m [] ≡ m
mono_mul_one m v = mono_mul_comm m [] v tt

pub mono_mul_cancel : (m n k : Monomial) → IsMonomial m → IsMonomial n → IsMonomial k → mono_mul m n ≡ mono_mul m k → n ≡ k
mono_mul_cancel m n k v w u e =
    one_monomial 0 n k w u
    (λ x. omega (arith, exponent-mono_mul m n v w x, exponent-mono_mul m k v u x, ap (λ a. exponent a x) e))

pub Divides-mono_mul : (m n : Monomial) → IsMonomial m → IsMonomial n → Divides m (mono_mul m n)
Divides-mono_mul m n v w x = omega (arith, exponent-mono_mul m n v w x)

-- ---- quotients

-- divisibility after equal first variables
pub tail_divides : (p q : ℕ × ℕ) (m n : Monomial) → IsMonomialFrom (suc p.0) m → IsMonomialFrom (suc p.0) n → p.0 ≡ q.0 → Divides (p ∷ m) (q ∷ n) → Divides m n
tail_divides p q m n v w same d x =
    elim (cases_eq x p.0) [
      | inl here ↦ omega (arith, exponent-below (suc p.0) m x v (omega arith))
      | inr there ↦ omega (arith, d x, exponent-there p m x there, exponent-there q n x (omega arith))
    ]

-- a monomial whose variables lie above q's variable divides what is after q
pub divides_tail : (q : ℕ × ℕ) (m n : Monomial) → IsMonomialFrom (suc q.0) m → Divides m (q ∷ n) → Divides m n
divides_tail q m n v d x =
    elim (cases_eq x q.0) [
      | inl here ↦ omega (arith, exponent-below (suc q.0) m x v (omega arith))
      | inr there ↦ omega (arith, d x, exponent-there q n x there)
    ]

-- a divisor has no higher degree
pub degree_of_divisor : (low : ℕ) (m n : Monomial) → IsMonomialFrom low m → IsMonomialFrom low n → Divides m n → degree m ≤ degree n
degree_of_divisor low [] n v w d = omega arith
degree_of_divisor low (p ∷ m) [] v w d =
    let e : p.1 ≤ 0 = rw (sym (exponent-here p m p.0 refl)) (d p.0) in absurd (omega arith)
degree_of_divisor low (p ∷ m) (q ∷ n) v w d =
    elim (cases_order p.0 q.0) [
      | inl same ↦
          let w' : IsMonomialFrom (suc p.0) n = from_lower (suc p.0) (suc q.0) n w.2 (omega arith) in
          let first : p.1 ≤ q.1 = rw (sym (exponent-here p m p.0 refl), sym (exponent-here q n p.0 same)) (d p.0) in
          let rest : degree m ≤ degree n = degree_of_divisor (suc p.0) m n v.2 w' (tail_divides p q m n v.2 w' same d) in
          omega arith
      | inr (inl less) ↦
          let none : exponent (q ∷ n) p.0 ≡ 0 = exponent-there q n p.0 (omega arith) ∙ exponent-below (suc q.0) n p.0 w.2 (omega arith) in
          absurd (omega (arith, d p.0, exponent-here p m p.0 refl))
      | inr (inr more) ↦
          let v' : IsMonomialFrom (suc q.0) (p ∷ m) = (more, v.1, v.2) in
          let rest : degree (p ∷ m) ≤ degree n = degree_of_divisor (suc q.0) (p ∷ m) n v' w.2 (divides_tail q (p ∷ m) n v' d) in
          omega arith
    ]

-- ---- quotients by exponents

pub mono_quotient-kept : (p : ℕ × ℕ) (m n : Monomial) → exponent n p.0 < p.1 → mono_quotient (p ∷ m) n ≡ (p.0, p.1 - exponent n p.0) ∷ mono_quotient m n
mono_quotient-kept p m n h = cond-true _ _ _ (lt-ltb (exponent n p.0) p.1 h)

pub mono_quotient-dropped : (p : ℕ × ℕ) (m n : Monomial) → p.1 ≤ exponent n p.0 → mono_quotient (p ∷ m) n ≡ mono_quotient m n
mono_quotient-dropped p m n h = cond-false _ _ _ (le-ltb (exponent n p.0) p.1 h)

pub IsMonomialFrom-mono_quotient : (low : ℕ) (m n : Monomial) → IsMonomialFrom low m → IsMonomialFrom low (mono_quotient m n)
IsMonomialFrom-mono_quotient low [] n v = tt
IsMonomialFrom-mono_quotient low (p ∷ m) n v =
    elim (cases_lt (exponent n p.0) p.1) [
      | inl kept ↦ rw (mono_quotient-kept p m n kept) (v.0, omega arith, IsMonomialFrom-mono_quotient (suc p.0) m n v.2)
      | inr dropped ↦
          rw (mono_quotient-dropped p m n dropped)
          (from_lower low (suc p.0) (mono_quotient m n) (IsMonomialFrom-mono_quotient (suc p.0) m n v.2) (omega arith))
    ]

pub exponent-mono_quotient : (low : ℕ) (m n : Monomial) (x : ℕ) → IsMonomialFrom low m → exponent (mono_quotient m n) x ≡ exponent m x - exponent n x
exponent-mono_quotient low [] n x v = omega arith
exponent-mono_quotient low (p ∷ m) n x v =
    let rest : exponent (mono_quotient m n) x ≡ exponent m x - exponent n x = exponent-mono_quotient (suc p.0) m n x v.2 in
    let above : IsMonomialFrom (suc p.0) (mono_quotient m n) = IsMonomialFrom-mono_quotient (suc p.0) m n v.2 in
    elim (cases_lt (exponent n p.0) p.1) [
      | inl kept ↦
          rw (mono_quotient-kept p m n kept)
          (elim (cases_eq x p.0) [
            | inl here ↦
                exponent-here (p.0, p.1 - exponent n p.0) (mono_quotient m n) x here ∙ ap (λ k. p.1 - exponent n k) (sym here)
                ∙ ap (λ k. k - exponent n x) (sym (exponent-here p m x here))
            | inr there ↦
                exponent-there (p.0, p.1 - exponent n p.0) (mono_quotient m n) x there ∙ rest
                ∙ ap (λ k. k - exponent n x) (sym (exponent-there p m x there))
          ])
      | inr dropped ↦
          rw (mono_quotient-dropped p m n dropped)
          (elim (cases_eq x p.0) [
            | inl here ↦
                let k : exponent n x ≡ exponent n p.0 = ap (exponent n) here in
                omega (arith, exponent-below (suc p.0) (mono_quotient m n) x above (omega arith), exponent-here p m x here)
            | inr there ↦ rest ∙ ap (λ k. k - exponent n x) (sym (exponent-there p m x there))
          ])
    ]

pub mono_mul-mono_quotient : (m n : Monomial) → IsMonomial m → IsMonomial n → Divides n m → mono_mul n (mono_quotient m n) ≡ m
mono_mul-mono_quotient m n v w d =
    let u : IsMonomial (mono_quotient m n) = IsMonomialFrom-mono_quotient 0 m n v in
    one_monomial 0 (mono_mul n (mono_quotient m n)) m (IsMonomial-mono_mul n (mono_quotient m n) w u) v
    (λ x. omega (arith, exponent-mono_mul n (mono_quotient m n) w u x, exponent-mono_quotient 0 m n x v, d x))

-- ---- exponents and degrees

-- no exponent is above the total degree
pub exponent_within_degree : (m : Monomial) (x : ℕ) → exponent m x ≤ degree m
exponent_within_degree [] x = omega arith
exponent_within_degree (p ∷ m) x =
    elim (cases_eq x p.0) [
      | inl here ↦ omega (arith, exponent-here p m x here)
      | inr there ↦ omega (arith, exponent-there p m x there, exponent_within_degree m x)
    ]

-- ---- joining from the front

-- a power of an earlier variable is in front
pub with_power-front : (f : ℕ → ℕ → ℕ) (p : ℕ × ℕ) (m : Monomial) → IsMonomialFrom (suc p.0) m → with_power f p.0 p.1 m ≡ p ∷ m
with_power-front f p [] v = refl
with_power-front f p (q ∷ m) v = with_power-less f p.0 p.1 q m v.0

-- the second monomial's first power is in front where all of the first come later
pub joined-second : (f : ℕ → ℕ → ℕ) (q : ℕ × ℕ) (m n : Monomial) → IsMonomialFrom (suc q.0) m → joined f m (q ∷ n) ≡ q ∷ joined f m n
joined-second f q [] n v = refl
joined-second f q (p ∷ m) n v =
    ap (with_power f p.0 p.1) (joined-second f q m n (from_lower (suc q.0) (suc p.0) m v.2 (omega arith)))
    ∙ with_power-more f p.0 p.1 q (joined f m n) (omega arith)

module _ (f : ℕ → ℕ → ℕ) (j : Joins f) where
  -- the first monomial's first power is in front where all of the second come later
  pub joined-first : (p : ℕ × ℕ) (m n : Monomial) → IsMonomialFrom (suc p.0) m → IsMonomialFrom (suc p.0) n → joined f (p ∷ m) n ≡ p ∷ joined f m n
  joined-first p m n v w = with_power-front f p (joined f m n) (IsMonomialFrom-joined f j (suc p.0) m n v w)

  -- first powers of one variable are merged
  pub joined-both : (p q : ℕ × ℕ) (m n : Monomial) → IsMonomialFrom (suc p.0) m → p.0 ≡ q.0 → joined f (p ∷ m) (q ∷ n) ≡ (p.0, f p.1 q.1) ∷ joined f m n
  joined-both p q m n v same =
      ap (with_power f p.0 p.1) (joined-second f q m n (from_lower (suc q.0) (suc p.0) m v (omega arith)))
      ∙ with_power-same f p.0 p.1 q (joined f m n) same

  -- nothing merged
  pub joined-nothing : (low : ℕ) (m : Monomial) → IsMonomialFrom low m → joined f m [] ≡ m
  joined-nothing low [] v = refl
  joined-nothing low (p ∷ m) v = ap (with_power f p.0 p.1) (joined-nothing (suc p.0) m v.2) ∙ with_power-front f p m v.2

-- a power of a variable that comes before all of the divided monomial does not count
pub mono_quotient-behind : (q : ℕ × ℕ) (m n : Monomial) → IsMonomialFrom (suc q.0) m → mono_quotient m (q ∷ n) ≡ mono_quotient m n
mono_quotient-behind q [] n v = refl
mono_quotient-behind q (p ∷ m) n v =
    let same : exponent (q ∷ n) p.0 ≡ exponent n p.0 = exponent-there q n p.0 (omega arith) in
    let rest : mono_quotient m (q ∷ n) ≡ mono_quotient m n = mono_quotient-behind q m n (from_lower (suc q.0) (suc p.0) m v.2 (omega arith)) in
    ap₂ (λ k l. cond (ltb k p.1) ((p.0, p.1 - k) ∷ l) l) same rest

-- ---- divisibility, and least common multiples

pub degree-mono_quotient : (m n : Monomial) → IsMonomial m → IsMonomial n → Divides n m → degree (mono_quotient m n) ≡ degree m - degree n
degree-mono_quotient m n v w d =
    omega (arith, degree-mono_mul n (mono_quotient m n), ap degree (mono_mul-mono_quotient m n v w d))

pub divides_itself : (m : Monomial) → Divides m m
divides_itself m x = omega arith

pub divides_through : (m n k : Monomial) → Divides m n → Divides n k → Divides m k
divides_through m n k d e x = omega (arith, d x, e x)

pub mutual_divisors : (m n : Monomial) → IsMonomial m → IsMonomial n → Divides m n → Divides n m → m ≡ n
mutual_divisors m n v w d e = one_monomial 0 m n v w (λ x. omega (arith, d x, e x))

pub first_divides_lcm : (m n : Monomial) → IsMonomial m → IsMonomial n → Divides m (mono_lcm m n)
first_divides_lcm m n v w x = omega (arith, exponent-mono_lcm m n v w x)

pub second_divides_lcm : (m n : Monomial) → IsMonomial m → IsMonomial n → Divides n (mono_lcm m n)
second_divides_lcm m n v w x = omega (arith, exponent-mono_lcm m n v w x)

pub lcm_divides : (m n k : Monomial) → IsMonomial m → IsMonomial n → Divides m k → Divides n k → Divides (mono_lcm m n) k
lcm_divides m n k v w d e x = omega (arith, exponent-mono_lcm m n v w x, d x, e x)

one_is_none : (x y : ℕ) → (x ≢ 0 → y ≡ 0) → max x y ≡ x + y
one_is_none x y h =
    elim (cases_eq x 0) [
      | inl none ↦ omega arith
      | inr some ↦
          let other : y ≡ 0 = h some in omega arith
    ]

pub coprime_lcm : (m n : Monomial) → IsMonomial m → IsMonomial n → AreCoprime m n → mono_lcm m n ≡ mono_mul m n
coprime_lcm m n v w c =
    one_monomial 0 (mono_lcm m n) (mono_mul m n) (IsMonomial-mono_lcm m n v w) (IsMonomial-mono_mul m n v w)
    (λ x. exponent-mono_lcm m n v w x ∙ one_is_none (exponent m x) (exponent n x) (c x) ∙ sym (exponent-mono_mul m n v w x))
