-- The laws of divisor masks.
use Rattle.std.proofs.Common.{◌≡◌, ◌≢◌, ◌⊎◌, ℕ, suc, ◌+◌, ◌-◌, ◌%◌, ◌^◌, ◌<◌, ◌≤◌, min, max, [], ◌∷◌, ◌++◌, refl, sym, ap, ◌∙◌, inl, inr, arith}
use Rattle.std.proofs.lemmas.Bool.{cases_eq, cases_lt}
use Rattle.std.proofs.lemmas.Nat.Bits.{same_from_bits, bit_at_or, bit_at_and, bit_at_not, bit_at-zero, bit_at-lt, bit_at-pow_same, bit_at-pow_other, bit_at_above}
use Rattle.std.specs.Int.{bit_at, bit_not, w32}
use Rattle.std.specs.Int.RustNames.{bit_or}
use Rattle.std.specs.Prelude.{bit_and}
use Rattle.ffc_ring.specs.Monomial.{Monomial, IsMonomialFrom, IsMonomial, exponent, mono_mul, mono_lcm, Divides}
use Rattle.ffc_ring.proofs.MonomialLemmas.{exponent-here, exponent-there, exponent-below, IsMonomial-mono_mul, exponent-mono_mul, IsMonomial-mono_lcm, exponent-mono_lcm}
use Rattle.ffc_mono.specs.Masks.{mask_of}

max_three : (x y z : ℕ) → max (max x y) z ≡ max x (max y z)
max_three x y z = omega arith

or_three : (a b c : ℕ) → bit_or (bit_or a b) c ≡ bit_or a (bit_or b c)
or_three a b c =
    same_from_bits (bit_or (bit_or a b) c) (bit_or a (bit_or b c))
    (λ i.
    bit_at_or (bit_or a b) c i ∙ ap (λ k. max k (bit_at c i)) (bit_at_or a b i) ∙ max_three (bit_at a i) (bit_at b i) (bit_at c i)
    ∙ sym (bit_at_or a (bit_or b c) i ∙ ap (max (bit_at a i)) (bit_at_or b c i)))

max_none : (x : ℕ) → max x 0 ≡ x
max_none x = omega arith

max_first_none : (x : ℕ) → max 0 x ≡ x
max_first_none x = omega arith

or_none : (a : ℕ) → bit_or a 0 ≡ a
or_none a = same_from_bits (bit_or a 0) a (λ i. bit_at_or a 0 i ∙ ap (max (bit_at a i)) (bit_at-zero i) ∙ max_none (bit_at a i))

or_first_none : (a : ℕ) → bit_or 0 a ≡ a
or_first_none a = same_from_bits (bit_or 0 a) a (λ i. bit_at_or 0 a i ∙ ap (λ k. max k (bit_at a i)) (bit_at-zero i) ∙ max_first_none (bit_at a i))

-- the mask of a list of powers with one more at its end
pub mask-push : (m : Monomial) (p : ℕ × ℕ) → mask_of (m ++ p ∷ []) ≡ bit_or (mask_of m) (2 ^ (p.0 % 32))
mask-push [] p = or_none (2 ^ (p.0 % 32)) ∙ sym (or_first_none (2 ^ (p.0 % 32)))
mask-push (q ∷ m) p =
    ap (bit_or (2 ^ (q.0 % 32))) (mask-push m p) ∙ sym (or_three (2 ^ (q.0 % 32)) (mask_of m) (2 ^ (p.0 % 32)))

-- ---- which bits are set

at_most_one : (x y : ℕ) → x ≡ 1 → y < 2 → max x y ≡ 1
at_most_one x y e h = omega arith

one_not_none : (x : ℕ) → x ≡ 1 → x ≡ 0 → ⊥
one_not_none x e f = omega arith

after : (low : ℕ) (p : ℕ × ℕ) (m : Monomial) {i : ℕ} → IsMonomialFrom low (p ∷ m) → (x : ℕ) × (exponent m x ≢ 0) × (x % 32 ≡ i) → (x : ℕ) × (exponent (p ∷ m) x ≢ 0) × (x % 32 ≡ i)
after low p m v (x, h, e) =
    elim (cases_eq x p.0) [
      | inl here ↦ absurd (h (exponent-below (suc p.0) m x v.2 (omega arith)))
      | inr there ↦ (x, (λ none. h (sym (exponent-there p m x there) ∙ none)), e)
    ]

bit_of_first : (p : ℕ × ℕ) (m : Monomial) (i : ℕ) → p.0 % 32 ≡ i → bit_at (mask_of (p ∷ m)) i ≡ 1
bit_of_first p m i e =
    let one : bit_at (2 ^ (p.0 % 32)) i ≡ 1 = ap (bit_at (2 ^ (p.0 % 32))) (sym e) ∙ bit_at-pow_same (p.0 % 32) in
    bit_at_or (2 ^ (p.0 % 32)) (mask_of m) i ∙ at_most_one (bit_at (2 ^ (p.0 % 32)) i) (bit_at (mask_of m) i) one (bit_at-lt (mask_of m) i)

bit_of_others : (p : ℕ × ℕ) (m : Monomial) (i : ℕ) → p.0 % 32 ≢ i → bit_at (mask_of (p ∷ m)) i ≡ bit_at (mask_of m) i
bit_of_others p m i ne =
    bit_at_or (2 ^ (p.0 % 32)) (mask_of m) i ∙ ap (λ k. max k (bit_at (mask_of m) i)) (bit_at-pow_other (p.0 % 32) i (λ e. ne (sym e)))
    ∙ max_first_none (bit_at (mask_of m) i)

-- a variable that occurs sets its bit
pub bit_of_variable : (m : Monomial) (x i : ℕ) → exponent m x ≢ 0 → x % 32 ≡ i → bit_at (mask_of m) i ≡ 1
bit_of_variable [] x i h e = absurd (h refl)
bit_of_variable (p ∷ m) x i h e =
    elim (cases_eq (p.0 % 32) i) [
      | inl here ↦ bit_of_first p m i here
      | inr there ↦
          bit_of_others p m i there
          ∙ bit_of_variable m x i (λ none. h (exponent-there p m x (λ same. there (ap (λ k. k % 32) (sym same) ∙ e)) ∙ none)) e
    ]

-- a set bit is that of a variable that occurs
pub variable_of_bit : (low : ℕ) (m : Monomial) (i : ℕ) → IsMonomialFrom low m → bit_at (mask_of m) i ≢ 0 → (x : ℕ) × (exponent m x ≢ 0) × (x % 32 ≡ i)
variable_of_bit low [] i v h = absurd (h (bit_at-zero i))
variable_of_bit low (p ∷ m) i v h =
    elim (cases_eq (p.0 % 32) i) [
      | inl here ↦ (p.0, (λ none. omega (arith, exponent-here p m p.0 refl, none, v.1)), here)
      | inr there ↦ after low p m v (variable_of_bit (suc p.0) m i v.2 (λ none. h (bit_of_others p m i there ∙ none)))
    ]

-- ---- masks of products, least common multiples and multiples

grown : (m k : Monomial) (i : ℕ) → ((x : ℕ) → exponent m x ≢ 0 → exponent k x ≢ 0) → (x : ℕ) × (exponent m x ≢ 0) × (x % 32 ≡ i) → bit_at (mask_of k) i ≡ 1
grown m k i from (x, h, e) = bit_of_variable k x i (from x h) e

both_none : (x y : ℕ) → x ≡ 0 → y ≡ 0 → max x y ≡ 0
both_none x y e f = omega arith

first_some : (x y : ℕ) → x ≢ 0 → x < 2 → y < 2 → max x y ≡ 1
first_some x y e f g = omega arith

second_some : (x y : ℕ) → y ≢ 0 → x < 2 → y < 2 → max x y ≡ 1
second_some x y e f g = omega arith

none_le : (x y : ℕ) → x ≡ 0 → x ≤ y
none_le x y e = omega arith

one_ge : (x y : ℕ) → x < 2 → y ≡ 1 → x ≤ y
one_ge x y h e = omega arith

none_of : (x y : ℕ) → x ≤ y → y ≡ 0 → x ≡ 0
none_of x y h e = omega arith

min_none : (x y : ℕ) → x ≤ y → x < 2 → y < 2 → min x (1 - y) ≡ 0
min_none x y h f g = omega arith

min_first_none : (y : ℕ) → min 0 y ≡ 0
min_first_none y = omega arith

found : (m n k : Monomial) (i : ℕ) → ((x : ℕ) → exponent k x ≢ 0 → (exponent m x ≢ 0) ⊎ (exponent n x ≢ 0)) → bit_at (mask_of m) i ≡ 0 → bit_at (mask_of n) i ≡ 0 → (x : ℕ) × (exponent k x ≢ 0) × (x % 32 ≡ i) → ⊥
found m n k i parts a b (x, h, e) =
    elim (parts x h) [
      | inl in_m ↦ one_not_none (bit_at (mask_of m) i) (bit_of_variable m x i in_m e) a
      | inr in_n ↦ one_not_none (bit_at (mask_of n) i) (bit_of_variable n x i in_n e) b
    ]

no_bit : (m n k : Monomial) (i : ℕ) → IsMonomial k → ((x : ℕ) → exponent k x ≢ 0 → (exponent m x ≢ 0) ⊎ (exponent n x ≢ 0)) → bit_at (mask_of m) i ≡ 0 → bit_at (mask_of n) i ≡ 0 → bit_at (mask_of k) i ≡ 0
no_bit m n k i v parts a b =
    elim (cases_eq (bit_at (mask_of k) i) 0) [
      | inl none ↦ none
      | inr some ↦ absurd (found m n k i parts a b (variable_of_bit 0 k i v some))
    ]

-- the variables of a monomial are those of two others, so the mask is their masks together
pub mask-union : (m n k : Monomial) → IsMonomial m → IsMonomial n → IsMonomial k → ((x : ℕ) → exponent k x ≢ 0 → (exponent m x ≢ 0) ⊎ (exponent n x ≢ 0)) → ((x : ℕ) → exponent m x ≢ 0 → exponent k x ≢ 0) → ((x : ℕ) → exponent n x ≢ 0 → exponent k x ≢ 0) → bit_or (mask_of m) (mask_of n) ≡ mask_of k
mask-union m n k v w u parts from_m from_n =
    same_from_bits (bit_or (mask_of m) (mask_of n)) (mask_of k)
    (λ i.
    bit_at_or (mask_of m) (mask_of n) i
    ∙ elim (cases_eq (bit_at (mask_of m) i) 0) [
      | inl none_m ↦
          elim (cases_eq (bit_at (mask_of n) i) 0) [
            | inl none_n ↦ both_none _ _ none_m none_n ∙ sym (no_bit m n k i u parts none_m none_n)
            | inr some_n ↦ second_some _ _ some_n (bit_at-lt (mask_of m) i) (bit_at-lt (mask_of n) i) ∙ sym (grown n k i from_n (variable_of_bit 0 n i w some_n))
          ]
      | inr some_m ↦ first_some _ _ some_m (bit_at-lt (mask_of m) i) (bit_at-lt (mask_of n) i) ∙ sym (grown m k i from_m (variable_of_bit 0 m i v some_m))
    ])

some_of_sum : (x y : ℕ) → x + y ≢ 0 → (x ≢ 0) ⊎ (y ≢ 0)
some_of_sum x y h =
    elim (cases_eq x 0) [
      | inl none ↦ inr (λ e. h (omega (arith, none, e)))
      | inr some ↦ inl some
    ]

some_of_max : (x y : ℕ) → max x y ≢ 0 → (x ≢ 0) ⊎ (y ≢ 0)
some_of_max x y h =
    elim (cases_eq x 0) [
      | inl none ↦ inr (λ e. h (omega (arith, none, e)))
      | inr some ↦ inl some
    ]

some_in_sum : (x y z : ℕ) → z ≡ x + y → (x ≢ 0) ⊎ (y ≢ 0) → z ≢ 0
some_in_sum x y z e (inl some) none = some (omega arith)
some_in_sum x y z e (inr some) none = some (omega arith)

some_in_max : (x y z : ℕ) → z ≡ max x y → (x ≢ 0) ⊎ (y ≢ 0) → z ≢ 0
some_in_max x y z e (inl some) none = some (omega arith)
some_in_max x y z e (inr some) none = some (omega arith)

pub mask-product : (m n : Monomial) → IsMonomial m → IsMonomial n → bit_or (mask_of m) (mask_of n) ≡ mask_of (mono_mul m n)
mask-product m n v w =
    mask-union m n (mono_mul m n) v w (IsMonomial-mono_mul m n v w)
    (λ x h. some_of_sum (exponent m x) (exponent n x) (λ e. h (exponent-mono_mul m n v w x ∙ e)))
    (λ x h. some_in_sum (exponent m x) (exponent n x) _ (exponent-mono_mul m n v w x) (inl h))
    (λ x h. some_in_sum (exponent m x) (exponent n x) _ (exponent-mono_mul m n v w x) (inr h))

pub mask-lcm : (m n : Monomial) → IsMonomial m → IsMonomial n → bit_or (mask_of m) (mask_of n) ≡ mask_of (mono_lcm m n)
mask-lcm m n v w =
    mask-union m n (mono_lcm m n) v w (IsMonomial-mono_lcm m n v w)
    (λ x h. some_of_max (exponent m x) (exponent n x) (λ e. h (exponent-mono_lcm m n v w x ∙ e)))
    (λ x h. some_in_max (exponent m x) (exponent n x) _ (exponent-mono_lcm m n v w x) (inl h))
    (λ x h. some_in_max (exponent m x) (exponent n x) _ (exponent-mono_lcm m n v w x) (inr h))

-- a divisor's bits are set in the mask of what it divides
pub mask-divisor : (m n : Monomial) → IsMonomial m → Divides m n → (i : ℕ) → bit_at (mask_of m) i ≤ bit_at (mask_of n) i
mask-divisor m n v d i =
    elim (cases_eq (bit_at (mask_of m) i) 0) [
      | inl none ↦ none_le _ _ none
      | inr some ↦
          one_ge _ _ (bit_at-lt (mask_of m) i)
          (grown m n i (λ x h e. h (none_of (exponent m x) (exponent n x) (d x) e)) (variable_of_bit 0 m i v some))
    ]

-- bits that are all in another number leave nothing of it
pub masked_none : (a b : ℕ) → a < 2 ^ 32 → b < 2 ^ 32 → ((i : ℕ) → bit_at a i ≤ bit_at b i) → bit_and a (bit_not w32 b) ≡ 0
masked_none a b fa fb h =
    same_from_bits (bit_and a (bit_not w32 b)) 0
    (λ i.
    bit_at_and a (bit_not w32 b) i
    ∙ elim (cases_lt i 32) [
      | inl low ↦ ap (min (bit_at a i)) (bit_at_not w32 b i fb low) ∙ min_none _ _ (h i) (bit_at-lt a i) (bit_at-lt b i) ∙ sym (bit_at-zero i)
      | inr high ↦ ap (λ k. min k (bit_at (bit_not w32 b) i)) (bit_at_above a 32 i fa high) ∙ min_first_none _ ∙ sym (bit_at-zero i)
    ])
