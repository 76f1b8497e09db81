-- Which residues are roots of combinations and of products of factors X - root.
use Rattle.std.proofs.Common.{◌≡◌, ℕ, suc, ◌+◌, ◌-◌, ◌*◌, ◌%◌, ◌<◌, inl, inr, List, [], ◌∷◌, Contains, All, sym, ap, ap₂, ◌∙◌, subst, arith, mod-eq_of_lt, mod-lt}
use Rattle.std.proofs.Math.Nat.{mod-mod, add-mod, add-mod_right, mul-mod_right, zero-mod}
use Rattle.std.proofs.lemmas.Bool.{cases_lt}
use Rattle.ffc_field.specs.Modular.{IsPrime, add_mod, mul_mod}
use Rattle.ffc_field.proofs.Primes.{no_zero_product, zero_multiple}
use Rattle.ffc_uni.specs.Univariate.{Coefficients, SameUnivariate, plus, multiple, times, product_of_roots, sum_at, value_of, indeterminate}
use Rattle.ffc_uni.proofs.ValueLemmas.{one_value, sum_at-multiple, sum_at-plus, value_of-plus, value_of-times}
use Rattle.ffc_roots.specs.Roots.{AreRoots, IsAnswer, IsCombination, without_x}

-- p times a number leaves nothing
whole_multiple : (p x : ℕ) → 0 < p → (x + (p - 1) * x) % p ≡ 0
whole_multiple p x some =
    let split : suc (p - 1) ≡ p = omega arith in
    let all : x + (p - 1) * x ≡ suc (p - 1) * x = omega arith in
    ap (λ n. n % p) (all ∙ ap (λ n. n * x) split) ∙ mul-mod_right p x

-- where a polynomial has x as its value at x, less X it is 0
pub value_of-without_x : (p x : ℕ) (r : Coefficients) → 0 < p → value_of p x r ≡ x → value_of p x (without_x p r) ≡ 0
value_of-without_x p x r some itself =
    let other = (p - 1) * x in
    let single : sum_at x indeterminate ≡ x = omega arith in
    let below : x % p ≡ x = ap (λ n. n % p) (sym itself) ∙ mod-mod (sum_at x r) p ∙ itself in
    ap (λ n. n % p) (sum_at-plus x r (multiple (p - 1) indeterminate) ∙ ap (λ n. sum_at x r + n) (sum_at-multiple x (p - 1) indeterminate ∙ ap (λ n. (p - 1) * n) single))
    ∙ add-mod (sum_at x r) other p
    ∙ ap (λ n. (n + other % p) % p) (itself ∙ sym below)
    ∙ sym (add-mod x other p)
    ∙ whole_multiple p x some

-- a combination of two polynomials is 0 where both are
pub combination_at : (p x : ℕ) (f h a b c : Coefficients) → 0 < p → IsCombination p f h a b c → value_of p x f ≡ 0 → value_of p x h ≡ 0 → value_of p x c ≡ 0
combination_at p x f h a b c some combination first second =
    let product : (q g : Coefficients) → value_of p x g ≡ 0 → value_of p x (times q g) ≡ 0 = λ q g none.
    value_of-times p x q g ∙ ap (mul_mod p (value_of p x q)) none ∙ zero_multiple p (value_of p x q) 0 (zero-mod p) in
    sym (one_value p x (plus (times a f) (times b h)) c combination)
    ∙ value_of-plus p x (times a f) (times b h)
    ∙ ap₂ (add_mod p) (product a f first) (product b h second)
    ∙ zero-mod p

contains_rest : {A : Type 0} (y : A) (xs : List A) (x : A) → Contains xs x → Contains (y ∷ xs) x
contains_rest y xs x there = (suc there.0, omega (arith, there.1), there.2)

contains_first : {A : Type 0} (y : A) (xs : List A) (x : A) → y ≡ x → Contains (y ∷ xs) x
contains_first y xs x e = (0, omega arith, e)

-- a factor X - a is 0 at a alone
factor_root : (p x a : ℕ) → x < p → a < p → value_of p x ((p - a) ∷ 1 ∷ []) ≡ 0 → a ≡ x
factor_root p x a below small none =
    let value : sum_at x ((p - a) ∷ 1 ∷ []) ≡ p - a + x = omega arith in
    let zero_there : (p - a + x) % p ≡ 0 = ap (λ n. n % p) (sym value) ∙ none in
    elim (cases_lt x a) [
      | inl less ↦ absurd (let some : (p - a + x) % p ≡ p - a + x = mod-eq_of_lt (omega arith) in omega arith)
      | inr more ↦
          let rest : p - a + x ≡ x - a + p = omega arith in
          let left : (x - a) % p ≡ 0 = sym (add-mod_right (x - a) p) ∙ ap (λ n. n % p) (sym rest) ∙ zero_there in
          let same : (x - a) % p ≡ x - a = mod-eq_of_lt (omega arith) in
          omega arith
    ]

-- a product of factors X - root is 0 at these alone
pub product_root : (p x : ℕ) (roots : List ℕ) → IsPrime p → x < p → All (λ a. a < p) roots → value_of p x (product_of_roots p roots) ≡ 0 → Contains roots x
product_root p x [] prime below small none =
    absurd (let one : 1 % p ≡ 1 = mod-eq_of_lt (omega (arith, prime.least)) in
    let value : sum_at x (1 ∷ []) ≡ 1 = omega arith in
    omega (arith, sym one ∙ ap (λ n. n % p) (sym value) ∙ none))
product_root p x (a ∷ roots) prime below small none =
    let factor = (p - a) ∷ 1 ∷ [] in
    let rest = product_of_roots p roots in
    elim (no_zero_product p (value_of p x factor) (value_of p x rest) prime (mod-lt (sum_at x factor) (omega (arith, prime.least))) (mod-lt (sum_at x rest) (omega (arith, prime.least))) (sym (value_of-times p x factor rest) ∙ none)) [
      | inl first ↦ contains_first a roots x (factor_root p x a below (small 0 a (omega arith)) first)
      | inr later ↦ contains_rest a roots x (product_root p x roots prime below (λ k d within. small (suc k) d (omega arith)) later)
    ]

-- what the test of an answer says
pub answer_has_roots : (p : ℕ) (f h a b r : Coefficients) (xs : List ℕ) → IsPrime p → All (λ x. x < p) xs → IsAnswer p f h a b xs → SameUnivariate p h (without_x p r)
    → ((x : ℕ) → x < p → value_of p x f ≡ 0 → value_of p x r ≡ x) → AreRoots p f xs
answer_has_roots p f h a b r xs prime small answer same chain x =
    let some : 0 < p = omega (arith, prime.least) in (
      λ there. (
        subst (λ y. y < p) there.2 (small there.0 x there.1),
        subst (λ y. value_of p y f ≡ 0) there.2 (answer.roots there.0 x there.1),
      ),
      λ root.
          let other : value_of p x h ≡ 0 = one_value p x h (without_x p r) same ∙ value_of-without_x p x r some (chain x root.0 root.1) in
          product_root p x xs prime root.0 small (combination_at p x f h a b (product_of_roots p xs) some answer.identity root.1 other),
    )
