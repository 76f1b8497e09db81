-- The square of a row, one coefficient after the other: that of x + X*r is x*x, X times 2*x*r, and X*X times the square of r.
use Rattle.std.proofs.Common.{◌≡◌, ℕ, zero, suc, ◌+◌, ◌%◌, [], ◌∷◌, refl, sym, ap, ◌∙◌, arith}
use Rattle.ffc_uni.specs.Univariate.{Coefficients, coefficient_at, SameUnivariate, plus, multiple, times}
use Rattle.ffc_uni.specs.Rows.{shifted}
use Rattle.ffc_uni.proofs.Coefficients.{coefficient_at-plus, coefficient_at-multiple, plus_alike, cons_alike, factor_alike}
use Rattle.ffc_uni.proofs.Products.{times_commutes}

shifted_inside : (m : ℕ) (a : Coefficients) → shifted m (0 ∷ a) ≡ shifted (suc m) a
shifted_inside zero a = refl
shifted_inside (suc m) a = ap (λ b. 0 ∷ b) (shifted_inside m a)

shifted_alike : (p m : ℕ) (a b : Coefficients) → SameUnivariate p a b → SameUnivariate p (shifted m a) (shifted m b)
shifted_alike p zero a b h = h
shifted_alike p (suc m) a b h = cons_alike p 0 (shifted m a) (shifted m b) (shifted_alike p m a b h)

shifted_plus : (p m : ℕ) (a b : Coefficients) → SameUnivariate p (shifted m (plus a b)) (plus (shifted m a) (shifted m b))
shifted_plus p zero a b k = refl
shifted_plus p (suc m) a b zero = refl
shifted_plus p (suc m) a b (suc k) = shifted_plus p m a b k

plus_associates : (p : ℕ) (a b c : Coefficients) → SameUnivariate p (plus (plus a b) c) (plus a (plus b c))
plus_associates p a b c k =
    ap (λ j. j % p)
    (let e : coefficient_at (plus (plus a b) c) k ≡ coefficient_at (plus a (plus b c)) k =
    omega (arith, coefficient_at-plus (plus a b) c k, coefficient_at-plus a b k, coefficient_at-plus a (plus b c) k, coefficient_at-plus b c k) in e)

twice_added : (p x : ℕ) (r z : Coefficients) → SameUnivariate p (plus (multiple x r) (plus (multiple x r) z)) (plus (multiple (x + x) r) z)
twice_added p x r z k =
    ap (λ j. j % p)
    (let e : coefficient_at (plus (multiple x r) (plus (multiple x r) z)) k ≡ coefficient_at (plus (multiple (x + x) r) z) k =
    omega (arith, coefficient_at-plus (multiple x r) (plus (multiple x r) z) k, coefficient_at-plus (multiple x r) z k, coefficient_at-plus (multiple (x + x) r) z k, coefficient_at-multiple x r k, coefficient_at-multiple (x + x) r k) in e)

square_opened : (p x : ℕ) (r : Coefficients) → SameUnivariate p (times (x ∷ r) (x ∷ r)) (plus (multiple x (x ∷ [])) (plus (0 ∷ multiple (x + x) r) (0 ∷ 0 ∷ times r r)))
square_opened p x r zero = refl
square_opened p x r (suc k) =
    plus_alike p (multiple x r) (multiple x r) (times r (x ∷ r)) (times (x ∷ r) r) (λ j. refl) (times_commutes p r (x ∷ r)) k
    ∙ twice_added p x r (0 ∷ times r r) k

module _ (p n x y : ℕ) (old r : Coefficients) where
  opened : SameUnivariate p
      (plus (plus (plus old (shifted (n + n) (multiple x (x ∷ [])))) (shifted (n + n + 1) (multiple (x + x) r))) (shifted (n + 1 + (n + 1)) (times r r)))
      (plus old (shifted (n + n) (times (x ∷ r) (x ∷ r))))
  opened k =
      let m = n + n in
      let one = shifted m (multiple x (x ∷ [])) in
      let two = shifted m (0 ∷ multiple (x + x) r) in
      let three = shifted m (0 ∷ 0 ∷ times r r) in
      let first : m + 1 ≡ suc m = omega arith in
      let second : n + 1 + (n + 1) ≡ suc (suc m) = omega arith in
      let two_is : shifted (m + 1) (multiple (x + x) r) ≡ two = ap (λ j. shifted j (multiple (x + x) r)) first ∙ sym (shifted_inside m (multiple (x + x) r)) in
      let three_is : shifted (n + 1 + (n + 1)) (times r r) ≡ three =
      ap (λ j. shifted j (times r r)) second ∙ sym (shifted_inside (suc m) (times r r)) ∙ sym (shifted_inside m (0 ∷ times r r)) in
      ap (λ b. coefficient_at (plus (plus (plus old one) b) (shifted (n + 1 + (n + 1)) (times r r))) k % p) two_is
      ∙ ap (λ b. coefficient_at (plus (plus (plus old one) two) b) k % p) three_is
      ∙ plus_associates p (plus old one) two three k
      ∙ plus_associates p old one (plus two three) k
      ∙ plus_alike p old old (plus one (plus two three)) (shifted m (times (x ∷ r) (x ∷ r))) (λ j. refl)
      (λ j.
      plus_alike p one one (plus two three) (shifted m (plus (0 ∷ multiple (x + x) r) (0 ∷ 0 ∷ times r r))) (λ i. refl)
      (λ i. sym (shifted_plus p m (0 ∷ multiple (x + x) r) (0 ∷ 0 ∷ times r r) i)) j
      ∙ sym (shifted_plus p m (multiple x (x ∷ [])) (plus (0 ∷ multiple (x + x) r) (0 ∷ 0 ∷ times r r)) j)
      ∙ sym (shifted_alike p m (times (x ∷ r) (x ∷ r)) (plus (multiple x (x ∷ [])) (plus (0 ∷ multiple (x + x) r) (0 ∷ 0 ∷ times r r))) (square_opened p x r) j))
      k

  -- one coefficient more of a square
  pub square_step : (one two all : Coefficients) → y % p ≡ (x + x) % p
      → SameUnivariate p one (plus old (shifted (n + n) (multiple x (x ∷ [])))) → SameUnivariate p two (plus one (shifted (n + n + 1) (multiple y r)))
      → SameUnivariate p (plus old (shifted (n + n) (times (x ∷ r) (x ∷ r)))) all → SameUnivariate p (plus two (shifted (n + 1 + (n + 1)) (times r r))) all
  square_step one two all twice first second so_far k =
      let z = shifted (n + 1 + (n + 1)) (times r r) in
      let head = plus old (shifted (n + n) (multiple x (x ∷ []))) in
      plus_alike p two (plus head (shifted (n + n + 1) (multiple (x + x) r))) z z
      (λ j. second j
      ∙ plus_alike p one head (shifted (n + n + 1) (multiple y r)) (shifted (n + n + 1) (multiple (x + x) r)) first
      (shifted_alike p (n + n + 1) (multiple y r) (multiple (x + x) r) (factor_alike p y (x + x) r twice)) j)
      (λ j. refl) k
      ∙ opened k ∙ so_far k
