-- What a chain's remainders are at a zero of the modulus.
use Rattle.std.proofs.Common.{◌≡◌, ℕ, suc, ◌+◌, ◌*◌, ◌%◌, ◌^◌, ◌<◌, Bool, true, false, List, [], ◌∷◌, sym, ap, ◌∙◌, arith}
use Rattle.std.proofs.Math.Nat.{add-mod, mod-mod, pow-succ', pow-zero, mul-one}
use Rattle.std.proofs.lemmas.Nat.{mul-mod, mul-mod_second, pow-add}
use Rattle.ffc_field.specs.Modular.{IsPrime}
use Rattle.ffc_field.proofs.Primes.{zero_multiple, fermat_residue}
use Rattle.ffc_uni.specs.Univariate.{Coefficients, indeterminate, plus, times, sum_at, value_of}
use Rattle.ffc_uni.specs.Chains.{Pair, digits_of, IsDivision, IsChainFrom, IsChain, last_remainder}
use Rattle.ffc_uni.proofs.DigitLemmas.{spelled, spelled-digits_of}
use Rattle.ffc_uni.proofs.ValueLemmas.{sum_at-plus, sum_at-times, one_value}

-- at a zero of the divisor a remainder has the value of what was divided
value_of_remainder : (p x : ℕ) (f a : Coefficients) (s : Pair) → IsDivision p f a s → value_of p x f ≡ 0 → value_of p x s.1 ≡ value_of p x a
value_of_remainder p x f a s division none =
    let product : sum_at x (times s.0 f) % p ≡ 0 =
    ap (λ n. n % p) (sum_at-times x s.0 f) ∙ zero_multiple p (sum_at x s.0) (sum_at x f) none
    in sym (one_value p x a (plus (times s.0 f) s.1) division
    ∙ ap (λ n. n % p) (sum_at-plus x (times s.0 f) s.1)
    ∙ add-mod (sum_at x (times s.0 f)) (sum_at x s.1) p
    ∙ ap (λ n. (n + sum_at x s.1 % p) % p) product
    ∙ ap (λ n. n % p) (let rest : 0 + sum_at x s.1 % p ≡ sum_at x s.1 % p = omega arith in rest)
    ∙ mod-mod (sum_at x s.1) p)

sum_at-indeterminate : (x : ℕ) → sum_at x indeterminate ≡ x
sum_at-indeterminate x = omega arith

-- the square of x^e, and x times it
value_of_square : (p x e : ℕ) (r : Coefficients) → value_of p x r ≡ x ^ e % p → value_of p x (times r r) ≡ x ^ (2 * e) % p
value_of_square p x e r power =
    ap (λ n. n % p) (sum_at-times x r r)
    ∙ mul-mod (sum_at x r) (sum_at x r) p
    ∙ ap (λ n. n * n % p) power
    ∙ sym (mul-mod (x ^ e) (x ^ e) p)
    ∙ ap (λ n. n % p) (sym (pow-add x e e) ∙ ap (λ n. x ^ n) (let double : e + e ≡ 2 * e = omega arith in double))

value_of_next : (p x e : ℕ) (r : Coefficients) → value_of p x r ≡ x ^ e % p → value_of p x (times indeterminate r) ≡ x ^ suc e % p
value_of_next p x e r power =
    ap (λ n. n % p) (sum_at-times x indeterminate r ∙ ap (λ n. n * sum_at x r) (sum_at-indeterminate x))
    ∙ sym (mul-mod_second x (sum_at x r) p)
    ∙ ap (λ n. x * n % p) power
    ∙ mul-mod_second x (x ^ e) p
    ∙ ap (λ n. n % p) (sym (pow-succ' x e))

-- At a zero of f a remainder is the power of x to the number of the digits so far.
chain_at_zero : (p x e : ℕ) (f r : Coefficients) (ds : List Bool) (steps : List Pair) →
    IsChainFrom p f r ds steps → value_of p x f ≡ 0 → value_of p x r ≡ x ^ e % p
    → value_of p x (last_remainder r steps) ≡ x ^ spelled e ds % p
chain_at_zero p x e f r [] [] chain none power = power
chain_at_zero p x e f r [] (s ∷ steps) chain none power = absurd chain
chain_at_zero p x e f r (d ∷ ds) [] chain none power = absurd chain
chain_at_zero p x e f r (false ∷ ds) (s ∷ steps) chain none power =
    chain_at_zero p x (2 * e + 0) f s.1 ds steps chain.1 none
    (value_of_remainder p x f (times r r) s chain.0 none ∙ value_of_square p x e r power
    ∙ ap (λ n. x ^ n % p) (let same : 2 * e ≡ 2 * e + 0 = omega arith in same))
chain_at_zero p x e f r (true ∷ ds) (s ∷ []) chain none power = absurd chain
chain_at_zero p x e f r (true ∷ ds) (s ∷ t ∷ steps) chain none power =
    let square : value_of p x s.1 ≡ x ^ (2 * e) % p =
    value_of_remainder p x f (times r r) s chain.0 none ∙ value_of_square p x e r power
    in chain_at_zero p x (2 * e + 1) f t.1 ds steps chain.2 none
    (value_of_remainder p x f (times indeterminate s.1) t chain.1 none ∙ value_of_next p x (2 * e) s.1 square
    ∙ ap (λ n. x ^ n % p) (let same : suc (2 * e) ≡ 2 * e + 1 = omega arith in same))

pub zeros_of_chains : (p : ℕ) → IsPrime p → p < 2 ^ 64 → (f : Coefficients) (steps : List Pair) (x : ℕ) → x < p → IsChain p f steps → value_of p x f ≡ 0 → value_of p x (last_remainder indeterminate steps) ≡ x
zeros_of_chains p prime fits f steps x below chain none =
    let first : value_of p x indeterminate ≡ x ^ 1 % p =
    ap (λ n. n % p) (sum_at-indeterminate x ∙ sym (pow-succ' x 0 ∙ ap (λ n. x * n) (pow-zero x) ∙ mul-one x))
    in chain_at_zero p x 1 f indeterminate (digits_of p) steps chain none first
    ∙ ap (λ n. x ^ n % p) (spelled-digits_of p (omega (arith, prime.least)) fits)
    ∙ fermat_residue p x prime below
