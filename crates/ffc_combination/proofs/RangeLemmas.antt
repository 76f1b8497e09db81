-- Sums over ranges of numbers.
use Rattle.std.proofs.Common.{◌≡◌, ℕ, zero, suc, ◌+◌, ◌-◌, ◌<◌, ◌≤◌, List, [], ◌∷◌, ◌++◌, length, take, get_or, All, sum_by, refl, sym, ap, ◌∙◌, subst, arith}
use Rattle.std.specs.List.{range_with_len}
use Rattle.std.proofs.lemmas.List.Elements.{All-more, All-weaker}
use Rattle.std.proofs.lemmas.List.Sums.{sum_by_push, sum_by-cons}

pub range_more : (a n : ℕ) → range_with_len a (suc n) ≡ range_with_len a n ++ (a + n) ∷ []
range_more a zero = ap (λ k. k ∷ []) (let e : a ≡ a + 0 = omega arith in e)
range_more a (suc n) =
    ap (λ ks. a ∷ ks) (range_more (a + 1) n ∙ ap (λ k. range_with_len (a + 1) n ++ k ∷ []) (let e : a + 1 + n ≡ a + suc n = omega arith in e))

pub sum_more : (f : ℕ → ℕ) (a n : ℕ) → sum_by f (range_with_len a (suc n)) ≡ sum_by f (range_with_len a n) + f (a + n)
sum_more f a n = ap (sum_by f) (range_more a n) ∙ sum_by_push f (range_with_len a n) (a + n)

sum_grows : (f : ℕ → ℕ) (a n k : ℕ) → sum_by f (range_with_len a n) ≤ sum_by f (range_with_len a (n + k))
sum_grows f a n zero = let e : n + 0 ≡ n = omega arith in subst (λ m. sum_by f (range_with_len a n) ≤ sum_by f (range_with_len a m)) (sym e) (omega arith)
sum_grows f a n (suc k) =
    let e : n + suc k ≡ suc (n + k) = omega arith in
    subst (λ m. sum_by f (range_with_len a n) ≤ sum_by f (range_with_len a m)) (sym e) (omega (arith, sum_grows f a n k, sum_more f a (n + k)))

pub sum_upto : (f : ℕ → ℕ) (a n m : ℕ) → n ≤ m → sum_by f (range_with_len a n) ≤ sum_by f (range_with_len a m)
sum_upto f a n m less = subst (λ k. sum_by f (range_with_len a n) ≤ sum_by f (range_with_len a k)) (let e : n + (m - n) ≡ m = omega arith in e) (sum_grows f a n (m - n))

pub sum_of_sums : (f g : ℕ → ℕ) (ks : List ℕ) → sum_by (λ k. f k + g k) ks ≡ sum_by f ks + sum_by g ks
sum_of_sums f g [] = refl
sum_of_sums f g (k ∷ ks) = omega (arith, sum_by-cons (λ j. f j + g j) k ks, sum_by-cons f k ks, sum_by-cons g k ks, sum_of_sums f g ks)

pub sum_alike : (f g : ℕ → ℕ) (ks : List ℕ) → ((k : ℕ) → f k ≡ g k) → sum_by f ks ≡ sum_by g ks
sum_alike f g [] same = refl
sum_alike f g (k ∷ ks) same = omega (arith, sum_by-cons f k ks, sum_by-cons g k ks, sum_alike f g ks same, same k)

-- one more number that is not above a bound
pub bound_more : (f : ℕ → ℕ) (xs : List ℕ) (i old new : ℕ) → i < length xs → All (λ n. f n ≤ old) (take i xs) → old ≤ new → f (get_or xs i 0) ≤ new → All (λ n. f n ≤ new) (take (i + 1) xs)
bound_more f xs i old new inside each more here =
    All-more (λ n. f n ≤ new) xs i 0 inside (All-weaker (λ n. f n ≤ old) (λ n. f n ≤ new) (λ n low. omega (arith, low, more)) (take i xs) each) here
