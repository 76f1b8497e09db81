-- Binomial coefficients by Pascal's rule, and the binomial theorem for (x + 1)^n.
use Rattle.std.proofs.Common.{◌≡◌, ℕ, zero, suc, ◌+◌, ◌*◌, ◌^◌, ◌<◌, refl, ap₂, ◌∙◌, arith}
use Rattle.std.proofs.Math.Nat.{pow-zero, pow-succ'}

-- how many sets of k things there are among n
unfoldable pub choose : ℕ → ℕ → ℕ
choose n zero = 1
choose zero (suc k) = 0
choose (suc n) (suc k) = choose n k + choose n (suc k)

-- the first m terms of (x + 1)^n
unfoldable pub terms : ℕ → ℕ → ℕ → ℕ
terms n zero x = 0
terms n (suc m) x = terms n m x + choose n m * x ^ m

pub choose-none : (n : ℕ) → choose n 0 ≡ 1
unfolding choose
choose-none zero = refl
choose-none (suc n) = refl

pub choose-above : (n k : ℕ) → n < k → choose n k ≡ 0
unfolding choose
choose-above n zero above = absurd (omega arith)
choose-above zero (suc k) above = refl
choose-above (suc n) (suc k) above =
    ap₂ (λ a b. a + b) (choose-above n k (omega arith)) (choose-above n (suc k) (omega arith))

pub choose-all : (n : ℕ) → choose n n ≡ 1
unfolding choose
choose-all zero = refl
choose-all (suc n) = ap₂ (λ a b. a + b) (choose-all n) (choose-above n (suc n) (omega arith))

-- k of n + 1 things, with one of them named
pub choose-absorb : (n k : ℕ) → suc k * choose (suc n) (suc k) ≡ suc n * choose n k
unfolding choose
choose-absorb zero zero = refl
choose-absorb zero (suc k) = omega arith
choose-absorb (suc n) zero =
    omega (arith, choose-absorb n zero, choose-none n)
choose-absorb (suc n) (suc k) =
    omega (arith, choose-absorb n k, choose-absorb n (suc k))

pub terms-suc : (n m x : ℕ) → terms (suc n) (suc m) x ≡ terms n (suc m) x + x * terms n m x
unfolding choose terms
terms-suc n zero x = omega arith
terms-suc n (suc m) x =
    let left : choose n m * x ^ suc m ≡ x * (choose n m * x ^ m) = rw pow-succ' (omega arith)
    in omega (arith, terms-suc n m x, left)

pub binomial : (n x : ℕ) → terms n (suc n) x ≡ (x + 1) ^ n
unfolding choose terms
binomial zero x = omega (arith, pow-zero x, pow-zero (x + 1))
binomial (suc n) x =
    terms-suc n (suc n) x
    ∙ (let top : terms n (suc (suc n)) x ≡ terms n (suc n) x + choose n (suc n) * x ^ suc n = refl
    in let none : choose n (suc n) * x ^ suc n ≡ 0 = rw (choose-above n (suc n) (omega arith)) (omega arith)
    in let power : (x + 1) ^ suc n ≡ (x + 1) * (x + 1) ^ n = pow-succ' (x + 1) n
    in let all : terms n (suc n) x ≡ (x + 1) ^ n = binomial n x
    in rw (power, ← all) (omega (arith, top, none)))
