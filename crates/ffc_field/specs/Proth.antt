-- Proth's theorem (F. Proth, Théorèmes sur les nombres premiers, 1878): p = k * 2^e + 1 with k < 2^e is prime where
-- some a has a^((p - 1) / 2) = -1 modulo p.
use Rattle.std.specs.Prelude.{◌≡◌, ℕ, zero, suc, ◌+◌, ◌-◌, ◌*◌, ◌/◌, ◌%◌, ◌^◌, ◌<◌, ◌≤◌}
use Rattle.std.proofs.Common.{inl, inr, sym, ap, ap₂, ◌∙◌, arith, subst, add-one}
use Rattle.std.proofs.Math.Nat.{mod-eq_of_lt, zero-mod, div-add-mod, mul-add-mod_self_left, pow-zero, pow-suc, pow-succ', mul_comm, mul_assoc, mul-zero, mul-suc, zero-mul, one-mul, mul_right_comm, le_trans, le_of_lt, le_refl, mul-pos, mul-le-mul}
use Rattle.std.proofs.lemmas.Nat.{mul-mod, pow-mod, pow-add, pow_pos}
use Rattle.std.proofs.lemmas.Bool.{cases_lt, cases_eq}
use Rattle.ffc_field.specs.Modular.{IsPrime}
use Rattle.ffc_field.specs.Fermat.{fermat_one}

-- ---- powers

pub pow-mul : (x a b : ℕ) → x ^ (a * b) ≡ (x ^ a) ^ b
pow-mul x a zero = ap (λ n. x ^ n) (mul-zero a) ∙ pow-zero x ∙ sym (pow-zero (x ^ a))
pow-mul x a (suc b) =
    ap (λ n. x ^ n) (mul-suc a b)
    ∙ pow-add x (a * b) a
    ∙ ap (λ n. n * x ^ a) (pow-mul x a b)
    ∙ sym (pow-suc (x ^ a) b)

one-pow : (n : ℕ) → 1 ^ n ≡ 1
one-pow zero = pow-zero 1
one-pow (suc n) = pow-suc 1 n ∙ ap (λ m. m * 1) (one-pow n)

pub pow-one_exponent : (x : ℕ) → x ^ 1 ≡ x
pow-one_exponent x = pow-suc x 0 ∙ ap (λ y. y * x) (pow-zero x) ∙ one-mul x

-- a power of what leaves 1
pow-one : (q x n : ℕ) → 1 < q → x % q ≡ 1 → x ^ n % q ≡ 1
pow-one q x n two one =
    sym (pow-mod x n q) ∙ ap (λ m. m ^ n % q) one ∙ ap (λ m. m % q) (one-pow n) ∙ mod-eq_of_lt two

-- (q - 1)^2 = q * (q - 2) + 1
square_below : (q : ℕ) → 1 < q → (q - 1) * (q - 1) ≡ q * (q - 2) + 1
square_below q two =
    let one_less : q - 1 ≡ q - 2 + 1 = omega arith
    in let whole : q - 2 + 2 ≡ q = omega arith
    in let r : ℕ = q - 2
    in let squares : (r + 1) * (r + 1) ≡ (r + 2) * r + 1 = omega arith
    in ap (λ x. x * x) one_less ∙ squares ∙ ap (λ x. x * r + 1) whole

square-minus_one : (q c : ℕ) → 1 < q → c % q ≡ q - 1 → c ^ 2 % q ≡ 1
square-minus_one q c two minus =
    sym (pow-mod c 2 q)
    ∙ ap (λ x. x ^ 2 % q) minus
    ∙ ap (λ x. x % q) (pow-suc (q - 1) 1 ∙ ap (λ x. x * (q - 1)) (pow-one_exponent (q - 1)) ∙ square_below q two)
    ∙ mul-add-mod_self_left q (q - 2) 1
    ∙ mod-eq_of_lt two

pow-even_minus_one : (q c v : ℕ) → 1 < q → c % q ≡ q - 1 → c ^ (2 * v) % q ≡ 1
pow-even_minus_one q c v two minus =
    ap (λ x. x % q) (pow-mul c 2 v) ∙ pow-one q (c ^ 2) v two (square-minus_one q c two minus)

-- an odd power of what leaves -1
pow-minus_one : (q c v : ℕ) → 1 < q → c % q ≡ q - 1 → c ^ (2 * v + 1) % q ≡ q - 1
pow-minus_one q c v two minus =
    ap (λ x. x % q) (pow-add c (2 * v) 1 ∙ ap (λ x. c ^ (2 * v) * x) (pow-one_exponent c))
    ∙ mul-mod (c ^ (2 * v)) c q
    ∙ ap₂ (λ x y. x * y % q) (pow-even_minus_one q c v two minus) minus
    ∙ ap (λ x. x % q) (one-mul (q - 1))
    ∙ mod-eq_of_lt (omega arith)

-- ---- a prime divisor q of p, where p divides c + 1

minus_one_below : (p q m c : ℕ) → p ≡ q * m → 0 < p → c % p ≡ p - 1 → c % q ≡ q - 1
minus_one_below p q zero c product positive minus = absurd (omega arith)
minus_one_below p zero (suc n) c product positive minus = absurd (omega (arith, zero-mul (suc n)))
minus_one_below p (suc r) (suc n) c product positive minus =
    let q : ℕ = suc r
    in let t : ℕ = c / p
    in let scaled : p * t ≡ q * suc n * t = ap (λ x. x * t) product
    in let split : p * t + c % p ≡ c = div-add-mod c p
    in let parts : c ≡ q * (suc n * t + n) + r = omega arith
    in ap (λ x. x % q) parts
    ∙ mul-add-mod_self_left q (suc n * t + n) r
    ∙ mod-eq_of_lt (omega arith)
    ∙ (let less : r ≡ q - 1 = omega arith in less)

pow-zero_rest : (q b n : ℕ) → b % q ≡ 0 → b ^ suc n % q ≡ 0
pow-zero_rest q b n divided =
    sym (pow-mod b (suc n) q)
    ∙ ap (λ x. x ^ suc n % q) divided
    ∙ ap (λ x. x % q) (pow-succ' 0 n ∙ zero-mul (0 ^ n))
    ∙ zero-mod q

not_divided : (q b n : ℕ) → 1 < q → 0 < n → b ^ n % q ≡ q - 1 → b % q ≡ 0 → ⊥
not_divided q b zero two positive minus divided = absurd (omega arith)
not_divided q b (suc n) two positive minus divided =
    omega (arith, pow-zero_rest q b n divided)

-- 2^j divides q - 1, for each j up to f + 1: otherwise the odd part of q - 1 would give 1 = -1.
record Multiple (n d : ℕ) : Type 0 where
  times : ℕ
  product : n ≡ d * times

-- 2^j * v, times what is missing of 2^f
completed_power : (f j v : ℕ) → j ≤ f → 2 ^ j * v * 2 ^ (f - j) ≡ 2 ^ f * v
completed_power f j v within =
    mul_right_comm (2 ^ j) v (2 ^ (f - j))
    ∙ ap (λ x. x * v) (sym (pow-add 2 j (f - j)))
    ∙ ap (λ x. 2 ^ x * v) (let sum : j + (f - j) ≡ f = omega arith in sum)

-- b^n to the power m, where n * m is e * v
pow-regrouped : (b n m e v : ℕ) → n * m ≡ e * v → (b ^ n) ^ m ≡ (b ^ e) ^ v
pow-regrouped b n m e v same = sym (pow-mul b n m) ∙ ap (λ x. b ^ x) same ∙ pow-mul b e v

odd_part_refused : (q b f j u : ℕ) → IsPrime q → (q ≡ 2 → ⊥) → b ^ (2 ^ f) % q ≡ q - 1 → j ≤ f →
    q - 1 ≡ 2 ^ j * (2 * u + 1) → ⊥
odd_part_refused q b f j u prime odd minus within product =
    let two : 1 < q = prime.least
    in let v : ℕ = 2 * u + 1
    in let n : ℕ = 2 ^ (f - j)
    in let exponents : (q - 1) * n ≡ 2 ^ f * v = ap (λ x. x * n) product ∙ completed_power f j v within
    in let powers : (b ^ (q - 1)) ^ n ≡ (b ^ (2 ^ f)) ^ v = pow-regrouped b (q - 1) n (2 ^ f) v exponents
    in let rest : b % q ≡ 0 → ⊥ = not_divided q b (2 ^ f) two (pow_pos f) minus
    in let one : (b ^ (q - 1)) ^ n % q ≡ 1 = pow-one q (b ^ (q - 1)) n two (fermat_one q prime b rest)
    in let less : (b ^ (2 ^ f)) ^ v % q ≡ q - 1 = pow-minus_one q (b ^ (2 ^ f)) u two minus
    in let same : 1 ≡ q - 1 = sym one ∙ ap (λ x. x % q) powers ∙ less
    in odd (omega (arith, two, same))

two_powers : (q b f : ℕ) → IsPrime q → (q ≡ 2 → ⊥) → b ^ (2 ^ f) % q ≡ q - 1 →
    (j : ℕ) → j ≤ f + 1 → Multiple (q - 1) (2 ^ j)
two_powers q b f prime odd minus zero within = record { times = q - 1; product = omega arith }
two_powers q b f prime odd minus (suc j) within =
    let before : Multiple (q - 1) (2 ^ j) = two_powers q b f prime odd minus j (omega arith)
    in let u : ℕ = before.times
    in elim (cases_eq (u % 2) 0) [
      | inl even ↦ record {
        times = u / 2;
        product =
            before.product
            ∙ ap (λ x. 2 ^ j * x) (let halves : u ≡ 2 * (u / 2) = omega arith in halves)
            ∙ sym (mul_assoc (2 ^ j) 2 (u / 2))
            ∙ ap (λ x. x * (u / 2)) (sym (pow-suc 2 j));
      }
      | inr rest ↦ absurd (odd_part_refused q b f j (u / 2) prime odd minus (omega arith)
          (before.product ∙ ap (λ x. 2 ^ j * x) (let halves : u ≡ 2 * (u / 2) + 1 = omega arith in halves)))
    ]

-- ---- the theorem

-- A divisor d with d - 1 a multiple of n, where p is k * n + 1 and k is below n, has a square above p.
larger_square : (p k n d t : ℕ) → p ≡ k * n + 1 → k < n → 1 < d → d - 1 ≡ n * t → d * d ≤ p → ⊥
larger_square p k n d zero form small more product root = omega arith
larger_square p k n d (suc t) form small more product root =
    let above : n + 1 ≤ d = omega arith
    in let square : (n + 1) * (n + 1) ≤ d * d = mul-le-mul above above
    in let below : k * n ≤ n * n = mul-le-mul (le_of_lt small) (le_refl n)
    in omega arith

cofactor_below : (p d m : ℕ) → p ≡ d * m → p < d * d → m < d
cofactor_below p d m product above =
    elim (cases_lt m d) [
      | inl below ↦ below
      | inr within ↦ absurd (omega (arith, mul-le-mul (le_refl d) within))
    ]

cofactor_more : (p d m : ℕ) → p ≡ d * m → d < p → 1 < m
cofactor_more p d zero product less = absurd (omega arith)
cofactor_more p d (suc zero) product less = absurd (omega arith)
cofactor_more p d (suc (suc m)) product less = omega arith

not_two : (p d m k f : ℕ) → p ≡ d * m → p ≡ k * 2 ^ (f + 1) + 1 → d ≡ 2 → ⊥
not_two p d m k f product form two =
    let even : p ≡ 2 * m = product ∙ ap (λ x. x * m) two
    in let power : 2 ^ (f + 1) ≡ 2 ^ f * 2 = ap (λ x. 2 ^ x) (add-one f) ∙ pow-suc 2 f
    in let odd : p ≡ k * (2 ^ f * 2) + 1 = form ∙ ap (λ x. k * x + 1) power
    in omega (arith, even, odd)

-- the divisors of p up to its root: the least of them would be prime
no_divisor : (p k f a most d m : ℕ) →
    p ≡ k * 2 ^ (f + 1) + 1 → k < 2 ^ (f + 1) → (a ^ k) ^ (2 ^ f) % p ≡ p - 1 →
    d ≤ most → 1 < d → d * d ≤ p → p ≡ d * m → ⊥
no_divisor p k f a zero d m form small minus within more root product = omega arith
no_divisor p k f a (suc most) d m form small minus within more root product =
    let prime : IsPrime d = record {
      least = more;
      undivided = λ d' m' more' less e.
          no_divisor p k f a most d' (m' * m) form small minus (omega arith) more'
          (le_trans (mul-le-mul (le_of_lt less) (le_of_lt less)) root)
          (product ∙ ap (λ x. x * m) e ∙ mul_assoc d' m' m);
    }
    in let c : ℕ = (a ^ k) ^ (2 ^ f)
    in let odd : d ≡ 2 → ⊥ = not_two p d m k f product form
    in let less : c % d ≡ d - 1 = minus_one_below p d m c product (omega arith) minus
    in let powers : (j : ℕ) → j ≤ f + 1 → Multiple (d - 1) (2 ^ j) = two_powers d (a ^ k) f prime odd less
    in let multiple : Multiple (d - 1) (2 ^ (f + 1)) = powers (f + 1) (le_refl (f + 1))
    in larger_square p k (2 ^ (f + 1)) d multiple.times form small more multiple.product root

-- Proth's theorem. That k is odd is not needed.
abbrev pub ProthTheorem : Type 0
ProthTheorem = (p k e a : ℕ) →
    0 < k → 0 < e → p ≡ k * 2 ^ e + 1 → k < 2 ^ e → a ^ ((p - 1) / 2) % p ≡ p - 1 → IsPrime p

pub proth : ProthTheorem
proth p k zero a positive exponent form small minus = absurd (omega arith)
proth p k (suc f) a positive exponent form small minus =
    let power : 2 ^ (f + 1) ≡ 2 ^ suc f = ap (λ x. 2 ^ x) (add-one f)
    in let form' : p ≡ k * 2 ^ (f + 1) + 1 = form ∙ ap (λ x. k * x + 1) (sym power)
    in let small' : k < 2 ^ (f + 1) = omega (arith, power)
    in let doubled : p ≡ k * (2 ^ f * 2) + 1 = form ∙ ap (λ x. k * x + 1) (pow-suc 2 f)
    in let half : (p - 1) / 2 ≡ k * 2 ^ f = omega arith
    in let powers : a ^ ((p - 1) / 2) ≡ (a ^ k) ^ (2 ^ f) = ap (λ x. a ^ x) half ∙ pow-mul a k (2 ^ f)
    in let minus' : (a ^ k) ^ (2 ^ f) % p ≡ p - 1 = ap (λ x. x % p) (sym powers) ∙ minus
    in record {
      least = omega (arith, mul-pos positive (pow_pos (suc f)));
      undivided = λ d m more less product. elim (cases_lt p (d * d)) [
        | inl above ↦
            let turned : p ≡ m * d = product ∙ mul_comm d m
            in let m_less : m < d = cofactor_below p d m product above
            in no_divisor p k f a m m d form' small' minus' (le_refl m) (cofactor_more p d m product less)
            (subst (λ (x : ℕ). m * m ≤ x) (sym turned) (mul-le-mul (le_refl m) (le_of_lt m_less))) turned
        | inr root ↦ no_divisor p k f a d d m form' small' minus' (le_refl d) more root product
      ];
    }
