-- Buchberger's first criterion: two lines whose leading monomials share no variable are a closed pair (Cox, Little and
-- O'Shea, chapter 2, section 9, proposition 4). With f = c*m + a and g = d*n + b, where c*m and d*n lead, k*c = 1 and l*d = 1,
-- the S-polynomial k*n*f - l*m*g is k*l*(a*g - b*f), and the leading monomials of a*g and b*f are different.
use Rattle.std.proofs.Common.{◌≡◌, ◌≢◌, ◌⊎◌, ℕ, ◌+◌, ◌-◌, ◌*◌, ◌%◌, ◌<◌, ◌≤◌, List, [], ◌∷◌, ◌++◌, length, get_or, refl, sym, ap, ap₂, ◌∙◌, subst, inl, inr, arith, append-nil, mod-lt, mul-add, add-mul, one-mul, mul-one, mul_left_comm, mul_assoc}
use Rattle.std.proofs.Math.Nat.{zero-mod, mod-mod, mul-mod_right}
use Rattle.std.proofs.lemmas.Nat.{mul-mod_first, mul-mod_second}
use Rattle.std.proofs.lemmas.Bool.{cases_eq}
use Rattle.std.specs.declared.cmp.Ordering.{Ordering}
use Rattle.std.specs.declared.cmp.Ordering.TheVariants.{Less, Equal, Greater}
use Rattle.ffc_field.specs.Modular.{IsPrime, mul_mod}
use Rattle.ffc_field.proofs.ModularLaws.{mul_mod-comm, mul_mod-zero_first, mul_mod-mod_first}
use Rattle.ffc_ring.specs.Monomial.{Monomial, IsMonomial, exponent, degree, mono_mul, mono_lcm, mono_quotient, Divides, AreCoprime}
use Rattle.ffc_ring.specs.Polynomial.{Terms, AreTerms, coefficient, SamePolynomial, product, term_product, scaled, difference}
use Rattle.ffc_ring.proofs.MonomialLemmas.{one_monomial, IsMonomial-mono_mul, exponent-mono_mul, mono_mul_comm, IsMonomialFrom-mono_quotient, exponent-mono_quotient, coprime_lcm}
use Rattle.ffc_ring.proofs.PolynomialLemmas.{weighted, weighted-append, weighted-term_product, weighted-product, weighted-sum, weighted-times, weighted-alike, weighted-swap, SamePolynomial-from_weighted, sum_alike, times_alike, sum_commutes, monomial_of_coefficient}
use Rattle.ffc_mono.specs.MonomialOrder.{IsMonomialOrder}
use Rattle.ffc_mono.specs.Leading.{IsLeading}
use Rattle.ffc_mono.proofs.LeadingLemmas.{turned, greater_trans, not_itself, leading_at_most, one_leading, leading_of_product, leading_of_multiple, leading_of_sum, divisor_is_no_greater}
use Rattle.ffc_poly.specs.Ordered.{IsOrdered}
use Rattle.ffc_basis.proofs.OrderedTerms.{AreTerms-ordered, coefficient-none, IsLeading-first, AreTerms-scaled}
use Rattle.ffc_basis.proofs.PairLemmas.{dropped_mod, some_of_scaled, at_most_same, nothing_leads_none}
use Rattle.ffc_basis.specs.Completion.{ReducesToZero, IsPairClosed}
use Rattle.ffc_line.specs.Lines.{Parts, combination}
use Rattle.ffc_basis.specs.Reduction.{IsAtMostLead}

-- ---- numbers modulo p

-- k*c is 1, so that k*(c*g + x) is g + k*x
inverse_drops : (p k c g x : ℕ) → mul_mod p k c ≡ 1 → (k * (c * g + x)) % p ≡ (g + k * x) % p
inverse_drops p k c g x e =
    ap (λ y. y % p) (mul-add k (c * g) x ∙ ap (λ y. y + k * x) (sym (mul_assoc k c g)))
    ∙ sum_alike p (k * c * g) (1 * g) (k * x) (k * x) (times_alike p (k * c) 1 g (sym (mod-mod (k * c) p) ∙ ap (λ y. y % p) e)) refl
    ∙ ap (λ y. (y + k * x) % p) (one-mul g)

product_times : (p k l x : ℕ) → (mul_mod p k l * x) % p ≡ (k * (l * x)) % p
product_times p k l x = mul-mod_first (k * l) x p ∙ ap (λ y. y % p) (mul_assoc k l x)

-- l*d is 1, so that k*l*(d*x + r) is k*x + k*l*r
second_drops : (p k l d x r : ℕ) → mul_mod p l d ≡ 1 → (mul_mod p k l * (d * x + r)) % p ≡ (k * x + k * (l * r)) % p
second_drops p k l d x r e =
    product_times p k l (d * x + r) ∙ sym (mul-mod_second k (l * (d * x + r)) p) ∙ ap (λ y. (k * y) % p) (inverse_drops p l d x r e)
    ∙ mul-mod_second k (x + l * r) p ∙ ap (λ y. y % p) (mul-add k x (l * r))

-- what makes p times a number is 0
makes_none : (p q r x y : ℕ) → q + r ≡ p → y % p ≡ (r * x) % p → (q * x + y) % p ≡ 0 % p
makes_none p q r x y e same =
    sum_alike p (q * x) (q * x) y (r * x) refl same ∙ ap (λ z. z % p) (sym (add-mul q r x) ∙ ap (λ z. z * x) e) ∙ mul-mod_right p x ∙ sym (zero-mod p)

gathered_left : (x w g q r : ℕ) → x + w + (g + q + r) ≡ x + (w + (g + q)) + r
gathered_left x w g q r = omega arith

gathered_right : (f e g q r : ℕ) → f + e + (g + q + r) ≡ f + (q + r) + (e + g)
gathered_right f e g q r = omega arith

left_sum : (p k l c d g x y r : ℕ) → 0 < p → mul_mod p k c ≡ 1 → mul_mod p l d ≡ 1
    → (k * (c * g + x) + (p - 1) * (l * (d * g + y)) + (g + l * y + l * (k * r))) % p ≡ (g + k * x + l * (k * r)) % p
left_sum p k l c d g x y r h kc ld =
    let first = k * (c * g + x) in
    let second = (p - 1) * (l * (d * g + y)) in
    let none : (second + (g + l * y)) % p ≡ 0 % p =
    makes_none p (p - 1) 1 (l * (d * g + y)) (g + l * y) (omega arith) (sym (inverse_drops p l d g y ld) ∙ ap (λ z. z % p) (sym (one-mul (l * (d * g + y))))) in
    ap (λ z. z % p) (gathered_left first second g (l * y) (l * (k * r)))
    ∙ sum_alike p (first + (second + (g + l * y))) (g + k * x) (l * (k * r)) (l * (k * r))
    (sum_alike p first (g + k * x) (second + (g + l * y)) 0 (inverse_drops p k c g x kc) none ∙ ap (λ z. z % p) (omega arith)) refl

right_sum : (p e k l c d g x y r : ℕ) → e ≤ p → e ≡ mul_mod p k l → mul_mod p k c ≡ 1 → mul_mod p l d ≡ 1
    → ((p - e) * (c * y + r) + e * (d * x + r) + (g + l * y + l * (k * r))) % p ≡ (g + k * x + l * (k * r)) % p
right_sum p e k l c d g x y r h is kc ld =
    let first = (p - e) * (c * y + r) in
    let second = e * (d * x + r) in
    let none : (first + (l * y + l * (k * r))) % p ≡ 0 % p =
    makes_none p (p - e) e (c * y + r) (l * y + l * (k * r)) (omega arith)
    (sym (second_drops p l k c y r kc) ∙ ap (λ z. (z * (c * y + r)) % p) (mul_mod-comm p l k ∙ sym is)) in
    let some : second % p ≡ (k * x + l * (k * r)) % p =
    ap (λ z. (z * (d * x + r)) % p) is ∙ second_drops p k l d x r ld ∙ ap (λ z. (k * x + z) % p) (mul_left_comm k l r) in
    ap (λ z. z % p) (gathered_right first second g (l * y) (l * (k * r)))
    ∙ sum_alike p (first + (l * y + l * (k * r))) 0 (second + g) (k * x + l * (k * r) + g) none (sum_alike p second (k * x + l * (k * r)) g g some refl)
    ∙ ap (λ z. z % p) (omega arith)

-- k*(c*g + x) - l*(d*g + y) is k*l*(d*x + r) - k*l*(c*y + r)
crossed_sums : (p k l c d g x y r : ℕ) → 0 < p → mul_mod p k c ≡ 1 → mul_mod p l d ≡ 1
    → (k * (c * g + x) + (p - 1) * (l * (d * g + y))) % p ≡ ((p - mul_mod p k l) * (c * y + r) + mul_mod p k l * (d * x + r)) % p
crossed_sums p k l c d g x y r h kc ld =
    let e = mul_mod p k l in
    let low : e < p = mod-lt _ h in
    dropped_mod p (k * (c * g + x) + (p - 1) * (l * (d * g + y))) ((p - e) * (c * y + r) + e * (d * x + r)) (g + l * y + l * (k * r)) h
    (left_sum p k l c d g x y r h kc ld ∙ sym (right_sum p e k l c d g x y r (omega arith) refl kc ld))

-- the product of two inverses is not 0
inverses_some : (p k l c d : ℕ) → mul_mod p k c ≡ 1 → mul_mod p l d ≡ 1 → mul_mod p k l ≢ 0
inverses_some p k l c d kc ld none =
    let nothing : k % p ≡ 0 =
    ap (λ z. z % p) (sym (mul-one k)) ∙ ap (λ z. (k * z) % p) (sym ld) ∙ mul-mod_second k (l * d) p ∙ sym (product_times p k l d) ∙ ap (λ z. (z * d) % p) none ∙ mul_mod-zero_first p d in
    let zero_is_one : 0 ≡ 1 = sym (mul_mod-zero_first p c) ∙ ap (λ z. mul_mod p z c) (sym nothing) ∙ mul_mod-mod_first p k c ∙ kc in
    absurd (omega (arith, zero_is_one))

-- ---- the S-polynomial

-- the sum of the products of q*b and t + a
weighted-multiple : (g : Monomial → ℕ) (q : ℕ) (t : ℕ × Monomial) (a b : Terms) → IsMonomial t.1 → AreTerms b
    → weighted g (product (scaled q b) (t ∷ a)) ≡ q * (t.0 * weighted (λ y. g (mono_mul t.1 y)) b + weighted (λ x. weighted (λ y. g (mono_mul x y)) a) b)
weighted-multiple g q t a b u v =
    let w : Monomial → ℕ = λ x. weighted (λ y. g (mono_mul x y)) (t ∷ a) in
    let first : Monomial → ℕ = λ x. t.0 * g (mono_mul x t.1) in
    let rest : Monomial → ℕ = λ x. weighted (λ y. g (mono_mul x y)) a in
    let turned_round : weighted (λ x. g (mono_mul x t.1)) b ≡ weighted (λ y. g (mono_mul t.1 y)) b =
    weighted-alike (λ x. g (mono_mul x t.1)) (λ y. g (mono_mul t.1 y)) b v (λ x ux. ap g (mono_mul_comm x t.1 ux u)) in
    weighted-product g (scaled q b) (t ∷ a) ∙ weighted-term_product w q [] b
    ∙ ap (λ k. q * k)
    (weighted-sum first rest b ∙ ap (λ k. k + weighted rest b) (weighted-times (λ x. g (mono_mul x t.1)) t.0 b ∙ ap (λ k. t.0 * k) turned_round))

-- the order of both sums does not matter
weighted-both : (g : Monomial → ℕ) (a b : Terms) → AreTerms a → AreTerms b → weighted (λ x. weighted (λ y. g (mono_mul x y)) b) a ≡ weighted (λ x. weighted (λ y. g (mono_mul x y)) a) b
weighted-both g a b v w =
    weighted-swap (λ x y. g (mono_mul x y)) a b
    ∙ weighted-alike (λ y. weighted (λ x. g (mono_mul x y)) a) (λ y. weighted (λ x. g (mono_mul y x)) a) b w
    (λ y uy. weighted-alike (λ x. g (mono_mul x y)) (λ x. g (mono_mul y x)) a v (λ x ux. ap g (mono_mul_comm x y ux uy)))

-- k*n*f - l*m*g is k*l*(a*g - b*f)
crossed_multiples : (p : ℕ) → 0 < p → (k l : ℕ) (t s : ℕ × Monomial) (a b : Terms) → AreTerms (t ∷ a) → AreTerms (s ∷ b) → mul_mod p k t.0 ≡ 1 → mul_mod p l s.0 ≡ 1
    → SamePolynomial p (difference p (term_product k s.1 (t ∷ a)) (term_product l t.1 (s ∷ b))) (product (scaled (p - mul_mod p k l) b) (t ∷ a) ++ product (scaled (mul_mod p k l) a) (s ∷ b))
crossed_multiples p h k l t s a b v w kc ld =
    let e = mul_mod p k l in
    let x = term_product k s.1 (t ∷ a) in
    let y = term_product l t.1 (s ∷ b) in
    let left = product (scaled (p - e) b) (t ∷ a) in
    let right = product (scaled e a) (s ∷ b) in
    SamePolynomial-from_weighted p (difference p x y) (left ++ right)
    (λ g.
    let top = g (mono_mul t.1 s.1) in
    let in_a = weighted (λ z. g (mono_mul s.1 z)) a in
    let in_b = weighted (λ z. g (mono_mul t.1 z)) b in
    let in_both = weighted (λ m. weighted (λ n. g (mono_mul m n)) a) b in
    let first : weighted g x ≡ k * (t.0 * top + in_a) =
    weighted-term_product g k s.1 (t ∷ a) ∙ ap (λ z. k * (t.0 * g z + in_a)) (mono_mul_comm s.1 t.1 w.0 v.0) in
    let second : weighted g (scaled (p - 1) y) ≡ (p - 1) * (l * (s.0 * top + in_b)) =
    weighted-term_product g (p - 1) [] y ∙ ap (λ z. (p - 1) * z) (weighted-term_product g l t.1 (s ∷ b)) in
    let third : weighted g left ≡ (p - e) * (t.0 * in_b + in_both) = weighted-multiple g (p - e) t a b v.0 w.1 in
    let fourth : weighted g right ≡ e * (s.0 * in_a + in_both) =
    weighted-multiple g e s b a w.0 v.1 ∙ ap (λ z. e * (s.0 * in_a + z)) (weighted-both g a b v.1 w.1) in
    ap (λ z. z % p) (weighted-append g x (scaled (p - 1) y) ∙ ap₂ ◌+◌ first second)
    ∙ crossed_sums p k l t.0 s.0 top in_a in_b in_both h kc ld
    ∙ ap (λ z. z % p) (sym (weighted-append g left right ∙ ap₂ ◌+◌ third fourth)))

-- ---- monomials that share no variable

first_quotient : (m n : Monomial) → IsMonomial m → IsMonomial n → mono_quotient (mono_mul m n) m ≡ n
first_quotient m n v w =
    let u = IsMonomial-mono_mul m n v w in
    one_monomial 0 (mono_quotient (mono_mul m n) m) n (IsMonomialFrom-mono_quotient 0 (mono_mul m n) m u) w
    (λ x. omega (arith, exponent-mono_quotient 0 (mono_mul m n) m x u, exponent-mono_mul m n v w x))

second_quotient : (m n : Monomial) → IsMonomial m → IsMonomial n → mono_quotient (mono_mul m n) n ≡ m
second_quotient m n v w =
    let u = IsMonomial-mono_mul m n v w in
    one_monomial 0 (mono_quotient (mono_mul m n) n) m (IsMonomialFrom-mono_quotient 0 (mono_mul m n) n u) v
    (λ x. omega (arith, exponent-mono_quotient 0 (mono_mul m n) n x u, exponent-mono_mul m n v w x))

coprime_turned : (m n : Monomial) → AreCoprime m n → AreCoprime n m
coprime_turned m n apart x some =
    elim (cases_eq (exponent m x) 0) [ inl none ↦ none | inr other ↦ absurd (some (apart x other)) ]

-- where x*m = y*n and m and n share no variable, n divides x
coprime_divides : (m n x y : Monomial) → IsMonomial m → IsMonomial n → IsMonomial x → IsMonomial y → AreCoprime m n → mono_mul x m ≡ mono_mul y n → Divides n x
coprime_divides m n x y v w u t apart same z =
    let sums : exponent x z + exponent m z ≡ exponent y z + exponent n z =
    sym (exponent-mono_mul x m u v z) ∙ ap (λ q. exponent q z) same ∙ exponent-mono_mul y n t w z in
    elim (cases_eq (exponent m z) 0) [
      | inl none ↦ omega arith
      | inr some ↦
          let other : exponent n z ≡ 0 = apart z some in omega arith
    ]

-- ---- the leading monomials of both multiples

module _ (p : ℕ) (prime : IsPrime p) (cmp : Monomial → Monomial → Ordering) (laws : IsMonomialOrder cmp) (limit : ℕ) where
  lead_covers : (ts : Terms) (f : ℕ) (u w : Monomial) → IsLeading p cmp ts f u → (w ≡ u) ⊎ (cmp u w ≡ Greater) → IsAtMostLead p cmp ts w
  lead_covers ts f u w lead (inl same) = (f, u, lead, λ above. not_itself cmp laws w u above same)
  lead_covers ts f u w lead (inr below) = (f, u, lead, λ above. not_itself cmp laws w w (greater_trans cmp laws w u w above below) refl)

  below_other : (v u w : Monomial) → cmp v u ≡ Greater → (w ≡ u) ⊎ (cmp u w ≡ Greater) → cmp v w ≡ Greater
  below_other v u w above (inl same) = ap (cmp v) same ∙ above
  below_other v u w above (inr below) = greater_trans cmp laws v u w above below

  -- leading monomials that are different do not cancel
  sum_covers_by : (x y : Terms) (f h : ℕ) (u v w : Monomial) → IsLeading p cmp x f u → IsLeading p cmp y h v → u ≢ v → (w ≡ u) ⊎ (cmp u w ≡ Greater) → (o : Ordering) → cmp u v ≡ o → IsAtMostLead p cmp (x ++ y) w
  sum_covers_by x y f h u v w first second apart low Greater e = lead_covers (x ++ y) f u w (leading_of_sum cmp laws p x y f h u v first second e) low
  sum_covers_by x y f h u v w first second apart low Equal e = absurd (apart (laws.exact u v e))
  sum_covers_by x y f h u v w first second apart low Less e =
      let above : cmp v u ≡ Greater = turned cmp laws u v e in
      at_most_same p cmp (y ++ x) (x ++ y) (sum_commutes p y x) w
      (lead_covers (y ++ x) h v w (leading_of_sum cmp laws p y x h f v u second first above) (inr (below_other v u w above low)))

  times_at_most : (m x n : Monomial) → IsMonomial m → IsMonomial x → IsMonomial n → (x ≡ m) ⊎ (cmp m x ≡ Greater) → (mono_mul x n ≡ mono_mul m n) ⊎ (cmp (mono_mul m n) (mono_mul x n) ≡ Greater)
  times_at_most m x n v u w (inl same) = inl (ap (λ k. mono_mul k n) same)
  times_at_most m x n v u w (inr below) = inr (laws.kept m x n v u w ∙ below)

  -- the leading term of q times terms in order
  scaled_leads : (q : ℕ) → 0 < q → q < p → (t : ℕ × Monomial) (a : Terms) → IsOrdered p cmp limit (t ∷ a) → IsLeading p cmp (scaled q (t ∷ a)) (mul_mod p q t.0) t.1
  scaled_leads q h g t a o =
      leading_of_multiple cmp laws p prime (t ∷ a) (AreTerms-ordered p cmp limit (t ∷ a) o) q t.0 [] t.1 tt h g (IsLeading-first p cmp laws limit t a o)

  -- the leading term of a product of q times terms in order with a line
  multiple_leads : (q : ℕ) → 0 < q → q < p → (t s : ℕ × Monomial) (a b : Terms) → IsOrdered p cmp limit (t ∷ a) → IsOrdered p cmp limit (s ∷ b) → IsLeading p cmp (product (scaled q (s ∷ b)) (t ∷ a)) (mul_mod p (mul_mod p q s.0) t.0) (mono_mul s.1 t.1)
  multiple_leads q h g t s a b o w =
      leading_of_product cmp laws p prime (scaled q (s ∷ b)) (t ∷ a) (AreTerms-scaled q (s ∷ b) (AreTerms-ordered p cmp limit (s ∷ b) w)) (AreTerms-ordered p cmp limit (t ∷ a) o)
      (mul_mod p q s.0) t.0 s.1 t.1 (scaled_leads q h g s b w) (IsLeading-first p cmp laws limit t a o)

  -- the leading monomials of both products are different
  leads_apart : (t s x y : ℕ × Monomial) (a b : Terms) → IsOrdered p cmp limit (t ∷ y ∷ a) → IsOrdered p cmp limit (s ∷ x ∷ b) → AreCoprime t.1 s.1 → mono_mul x.1 t.1 ≢ mono_mul y.1 s.1
  leads_apart t s x y a b o w apart same =
      divisor_is_no_greater cmp laws s.1 x.1 w.2 w.5.2 (coprime_divides t.1 s.1 x.1 y.1 o.2 w.2 w.5.2 o.5.2 apart same) w.4.0

  -- each monomial of q*b times the leading one of t + a is at most that of q*b*(t + a) + r*a*(s + b)
  part_at_most : (q r : ℕ) → 0 < q → q < p → 0 < r → r < p → (t s : ℕ × Monomial) (a b : Terms) → IsOrdered p cmp limit (t ∷ a) → IsOrdered p cmp limit (s ∷ b) → AreCoprime t.1 s.1
      → (x : Monomial) → coefficient p (scaled q b) x ≢ 0 → IsAtMostLead p cmp (product (scaled q b) (t ∷ a) ++ product (scaled r a) (s ∷ b)) (mono_mul x t.1)
  part_at_most q r h g i j t s a [] o w apart x some = absurd (some (coefficient-none p x))
  part_at_most q r h g i j t s [] (z ∷ b) o w apart x some =
      let v = AreTerms-ordered p cmp limit (z ∷ b) w.5 in
      let u : IsMonomial x = monomial_of_coefficient p (z ∷ b) x v (some_of_scaled p q (z ∷ b) x some) in
      let left = product (scaled q (z ∷ b)) (t ∷ []) in
      subst (λ ts. IsAtMostLead p cmp ts (mono_mul x t.1)) (sym (append-nil left))
      (lead_covers left (mul_mod p (mul_mod p q z.0) t.0) (mono_mul z.1 t.1) (mono_mul x t.1) (multiple_leads q h g t z [] b o w.5)
      (times_at_most z.1 x t.1 w.5.2 u o.2 (leading_at_most cmp laws p (scaled q (z ∷ b)) (mul_mod p q z.0) z.1 (scaled_leads q h g z b w.5) x some)))
  part_at_most q r h g i j t s (y ∷ a) (z ∷ b) o w apart x some =
      let v = AreTerms-ordered p cmp limit (z ∷ b) w.5 in
      let u : IsMonomial x = monomial_of_coefficient p (z ∷ b) x v (some_of_scaled p q (z ∷ b) x some) in
      let left = product (scaled q (z ∷ b)) (t ∷ y ∷ a) in
      let right = product (scaled r (y ∷ a)) (s ∷ z ∷ b) in
      sum_covers_by left right (mul_mod p (mul_mod p q z.0) t.0) (mul_mod p (mul_mod p r y.0) s.0) (mono_mul z.1 t.1) (mono_mul y.1 s.1) (mono_mul x t.1)
      (multiple_leads q h g t z (y ∷ a) b o w.5) (multiple_leads r i j s y (z ∷ b) a w o.5) (leads_apart t s z y a b o w apart)
      (times_at_most z.1 x t.1 w.5.2 u o.2 (leading_at_most cmp laws p (scaled q (z ∷ b)) (mul_mod p q z.0) z.1 (scaled_leads q h g z b w.5) x some))
      (cmp (mono_mul z.1 t.1) (mono_mul y.1 s.1)) refl

  -- ---- the criterion

  -- the S-polynomial of lines with these first terms
  module _ (gs : List Terms) (i j : ℕ) (within : i < length gs) (also_within : j < length gs) (t s : ℕ × Monomial) (a b : Terms) (first : get_or gs i [] ≡ t ∷ a) (second : get_or gs j [] ≡ s ∷ b) (o : IsOrdered p cmp limit (t ∷ a)) (w : IsOrdered p cmp limit (s ∷ b)) (apart : AreCoprime t.1 s.1) where
    crossed_reduces : (k l : ℕ) (ts : Terms) → mul_mod p k t.0 ≡ 1 → mul_mod p l s.0 ≡ 1 → SamePolynomial p ts (difference p (term_product k s.1 (t ∷ a)) (term_product l t.1 (s ∷ b))) → ReducesToZero p cmp gs ts
    crossed_reduces k l ts kc ld is =
        let h : 0 < p = omega (arith, prime.least) in
        let e = mul_mod p k l in
        let low : e < p = mod-lt _ h in
        let some : 0 < e = omega (arith, inverses_some p k l t.0 s.0 kc ld) in
        let r_some : 0 < p - e = omega arith in
        let r_low : p - e < p = omega arith in
        let left = product (scaled (p - e) b) (t ∷ a) in
        let right = product (scaled e a) (s ∷ b) in
        let parts : Parts = (i, scaled (p - e) b) ∷ (j, scaled e a) ∷ [] in
        let sum : SamePolynomial p ts (left ++ right) =
        λ m. is m ∙ crossed_multiples p h k l t s a b (AreTerms-ordered p cmp limit (t ∷ a) o) (AreTerms-ordered p cmp limit (s ∷ b) w) kc ld m in
        let whole : combination gs parts ≡ left ++ right =
        ap₂ (λ f g. product (scaled (p - e) b) f ++ (product (scaled e a) g ++ [])) first second ∙ ap (λ x. left ++ x) (append-nil right) in (
          parts,
          (within, (also_within, tt)),
          (λ n x has.
              elim has [
                | inl (here, found) ↦
                    subst (λ z. (c : ℕ) × (m : Monomial) × IsLeading p cmp (get_or gs z []) c m × IsAtMostLead p cmp ts (mono_mul x m)) here (
                      t.0,
                      t.1,
                      subst (λ f. IsLeading p cmp f t.0 t.1) (sym first) (IsLeading-first p cmp laws limit t a o),
                      at_most_same p cmp (left ++ right) ts (λ m. sym (sum m)) (mono_mul x t.1) (part_at_most (p - e) e r_some r_low some low t s a b o w apart x found),
                    )
                | inr (inl (here, found)) ↦
                    subst (λ z. (c : ℕ) × (m : Monomial) × IsLeading p cmp (get_or gs z []) c m × IsAtMostLead p cmp ts (mono_mul x m)) here (
                      s.0,
                      s.1,
                      subst (λ f. IsLeading p cmp f s.0 s.1) (sym second) (IsLeading-first p cmp laws limit s b w),
                      at_most_same p cmp (right ++ left) ts (λ m. sum_commutes p right left m ∙ sym (sum m)) (mono_mul x s.1)
                          (part_at_most e (p - e) some low r_some r_low s t b a w o (coprime_turned t.1 s.1 apart) x found),
                    )
                | inr (inr none) ↦ absurd none
              ]),
          (λ m. sum m ∙ ap (λ x. coefficient p x m) (sym whole)),
          (AreTerms-scaled (p - e) b (AreTerms-ordered p cmp limit b w.5), (AreTerms-scaled e a (AreTerms-ordered p cmp limit a o.5), tt)),
        )

    crossed_pair_closes : IsPairClosed p cmp gs i j
    crossed_pair_closes ts (c, m, d, n, lead, other, k, l, kc, ld, is) =
        let one = one_leading cmp laws p (t ∷ a) t.0 c t.1 m (IsLeading-first p cmp laws limit t a o) (subst (λ f. IsLeading p cmp f c m) first lead) in
        let two = one_leading cmp laws p (s ∷ b) s.0 d s.1 n (IsLeading-first p cmp laws limit s b w) (subst (λ f. IsLeading p cmp f d n) second other) in
        let lcm : mono_lcm t.1 s.1 ≡ mono_mul t.1 s.1 = coprime_lcm t.1 s.1 o.2 w.2 apart in
        let over : mono_quotient (mono_lcm m n) m ≡ s.1 =
        ap₂ (λ x y. mono_quotient (mono_lcm x y) x) (sym one.1) (sym two.1) ∙ ap (λ x. mono_quotient x t.1) lcm ∙ first_quotient t.1 s.1 o.2 w.2 in
        let under : mono_quotient (mono_lcm m n) n ≡ t.1 =
        ap₂ (λ x y. mono_quotient (mono_lcm x y) y) (sym one.1) (sym two.1) ∙ ap (λ x. mono_quotient x s.1) lcm ∙ second_quotient t.1 s.1 o.2 w.2 in
        crossed_reduces k l ts (ap (mul_mod p k) one.0 ∙ kc) (ap (mul_mod p l) two.0 ∙ ld)
        (λ x.
        is x
        ∙ ap₂ (λ f g. coefficient p (difference p (term_product k (mono_quotient (mono_lcm m n) m) f) (term_product l (mono_quotient (mono_lcm m n) n) g)) x) first second
        ∙ ap₂ (λ f g. coefficient p (difference p (term_product k f (t ∷ a)) (term_product l g (s ∷ b))) x) over under)

  -- lines whose leading monomials share no variable are a closed pair, their polynomials given by equations
  pub coprime_lines_close : (gs : List Terms) (i j : ℕ) → i < length gs → j < length gs → (f g : Terms) → get_or gs i [] ≡ f → get_or gs j [] ≡ g → IsOrdered p cmp limit f → IsOrdered p cmp limit g
      → (c d : ℕ) (m n : Monomial) → IsLeading p cmp f c m → IsLeading p cmp g d n → AreCoprime m n → IsPairClosed p cmp gs i j
  coprime_lines_close gs i j h k [] g first second o w c d m n lead other apart = absurd (nothing_leads_none p cmp [] refl c m lead)
  coprime_lines_close gs i j h k (t ∷ a) [] first second o w c d m n lead other apart = absurd (nothing_leads_none p cmp [] refl d n other)
  coprime_lines_close gs i j h k (t ∷ a) (s ∷ b) first second o w c d m n lead other apart =
      let one = one_leading cmp laws p (t ∷ a) t.0 c t.1 m (IsLeading-first p cmp laws limit t a o) lead in
      let two = one_leading cmp laws p (s ∷ b) s.0 d s.1 n (IsLeading-first p cmp laws limit s b w) other in
      crossed_pair_closes gs i j h k t s a b first second o w (subst (λ x. AreCoprime x s.1) (sym one.1) (subst (AreCoprime m) (sym two.1) apart))

  -- the same of the lines at both places
  pub coprime_pairs_close : (gs : List Terms) (i j : ℕ) → i < length gs → j < length gs → IsOrdered p cmp limit (get_or gs i []) → IsOrdered p cmp limit (get_or gs j [])
      → (c d : ℕ) (m n : Monomial) → IsLeading p cmp (get_or gs i []) c m → IsLeading p cmp (get_or gs j []) d n → AreCoprime m n → IsPairClosed p cmp gs i j
  coprime_pairs_close gs i j h k o w c d m n lead other apart =
      coprime_lines_close gs i j h k (get_or gs i []) (get_or gs j []) refl refl o w c d m n lead other apart

-- ---- the test by degrees

no_degree : (m : Monomial) → IsMonomial m → degree m ≡ 0 → m ≡ []
no_degree [] v none = refl
no_degree (q ∷ m) v none = absurd (omega (arith, v.1))
