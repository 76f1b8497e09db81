-- The division of a polynomial by variables less their values, as an identity modulo the order: what every sum with weights says.
use Rattle.std.proofs.Common.{◌≡◌, ℕ, zero, suc, ◌+◌, ◌-◌, ◌*◌, ◌%◌, ◌^◌, ◌<◌, ◌≤◌, List, [], ◌∷◌, ◌++◌, Option, Some, None, refl, sym, ap, ap₂, ◌∙◌, subst, arith, mul_comm, mul_assoc, mul_left_comm, mul-add, add-mul, add_assoc, add_comm}
use Rattle.std.specs.List.{AllByRecursion}
use Rattle.std.proofs.Math.Nat.{zero-mod, pow-zero, pow-suc, add-mul-mod_self_left, mod-mod, suc-mul, mod-add-mod, mod_self}
use Rattle.std.proofs.lemmas.Nat.{mul-mod_first}
use Rattle.std.proofs.lemmas.List.{append-nil}
use Rattle.ffc_field.specs.Modular.{mul_mod, neg_mod}
use Rattle.ffc_ring.specs.Monomial.{Monomial, IsMonomial, IsMonomialFrom, mono_mul, mono_value, with_power}
use Rattle.ffc_ring.specs.Polynomial.{Terms, SamePolynomial, term_product, product, scaled, difference, value_sum, poly_value}
use Rattle.ffc_ring.proofs.MonomialLemmas.{sums, from_lower, joined-second, joined-both, joined-nothing, mono_mul_one, with_power-front}
use Rattle.ffc_ring.proofs.PolynomialLemmas.{weighted, weighted-append, weighted-term_product, one_weighted, sum_alike, times_alike, SamePolynomial-from_weighted}
use Rattle.ffc_trees.specs.TreeLines.{line_at}
use Rattle.ffc_trees.specs.NodePolynomials.{variable, constant}
use Rattle.ffc_bounds.specs.Monomials.{power}
use Rattle.ffc_refutation.specs.Combinations.{Summand, sum_of}
use Rattle.ffc_values.specs.declared.dividing.Known.{Known}
use Rattle.ffc_values.specs.Written.{known_of, power_summands, power_rest, term_summands, quotients, last_summands}

-- ---- monomials

-- a power in front of powers of later variables
pub front_is : (x e : ℕ) (m : Monomial) → IsMonomialFrom (suc x) m → IsMonomial (power x e ++ m)
front_is x zero m is = from_lower 0 (suc x) m is (omega arith)
front_is x (suc e) m is = (omega arith, omega arith, is)

-- one power more
pub one_power_more : (x e : ℕ) (m : Monomial) → IsMonomialFrom (suc x) m → mono_mul (power x e ++ m) ((x, 1) ∷ []) ≡ power x (suc e) ++ m
one_power_more x zero m is = joined-second ◌+◌ (x, 1) m [] is ∙ ap (λ k. (x, 1) ∷ k) (joined-nothing ◌+◌ sums (suc x) m is)
one_power_more x (suc e) m is =
    joined-both ◌+◌ sums (x, suc e) (x, 1) m [] is refl
    ∙ ap₂ (λ i k. (x, i) ∷ k) (let more : suc e + 1 ≡ suc (suc e) = omega arith in more) (joined-nothing ◌+◌ sums (suc x) m is)

-- a power of a later variable is behind
pub behind : (w low : ℕ) (m : Monomial) → IsMonomialFrom low (m ++ (w, 1) ∷ []) → mono_mul m ((w, 1) ∷ []) ≡ m ++ (w, 1) ∷ []
behind w low [] is = refl
behind w low (f ∷ m) is = ap (with_power ◌+◌ f.0 f.1) (behind w (suc f.0) m is.2) ∙ with_power-front ◌+◌ f (m ++ (w, 1) ∷ []) is.2

-- ---- arithmetic modulo p

-- c * (h - a * n) + r + v, where r + v is c * a * n, is c * h
step_mod : (p a c l h n r v : ℕ) → 0 < p → l % p ≡ (h + (p - 1) * a * n) % p → (r + v) % p ≡ (mul_mod p c a * n) % p → (c * l + r + v) % p ≡ (c * h) % p
step_mod p a c l h n r v positive line rest =
    let first : (c * l) % p ≡ (c * (h + (p - 1) * a * n)) % p =
    ap (λ k. k % p) (mul_comm c l) ∙ times_alike p l (h + (p - 1) * a * n) c line ∙ ap (λ k. k % p) (mul_comm (h + (p - 1) * a * n) c) in
    let second : (r + v) % p ≡ (c * a * n) % p = rest ∙ mul-mod_first (c * a) n p in
    let whole : c * (h + (p - 1) * a * n) + c * a * n ≡ c * h + p * (c * a * n) = whole_is p a c h n positive in
    ap (λ k. k % p) (let e : c * l + r + v ≡ c * l + (r + v) = omega arith in e)
    ∙ sum_alike p (c * l) (c * (h + (p - 1) * a * n)) (r + v) (c * a * n) first second
    ∙ ap (λ k. k % p) whole
    ∙ add-mul-mod_self_left (c * h) p (c * a * n)
  where
    whole_is : (p a c h n : ℕ) → 0 < p → c * (h + (p - 1) * a * n) + c * a * n ≡ c * h + p * (c * a * n)
    whole_is zero a c h n positive = absurd (omega arith)
    whole_is (suc q) a c h n positive =
        let less : suc q - 1 ≡ q = omega arith in
        let split : c * (h + q * a * n) ≡ c * h + c * (q * a * n) = mul-add c h (q * a * n) in
        let moved : c * (q * a * n) ≡ q * (c * a * n) =
        ap (λ k. c * k) (mul_assoc q a n) ∙ mul_left_comm c q (a * n) ∙ ap (λ k. q * k) (sym (mul_assoc c a n)) in
        ap (λ k. c * (h + k * a * n) + c * a * n) less ∙ ap (λ k. k + c * a * n) (split ∙ ap (λ k. c * h + k) moved)
        ∙ (let last : c * h + q * (c * a * n) + c * a * n ≡ c * h + (q * (c * a * n) + c * a * n) = omega arith in last)
        ∙ ap (λ k. c * h + k) (sym (suc-mul q (c * a * n)))

-- the coefficient of the rest
pub power_rest_is : (p a c e : ℕ) → power_rest p a c e % p ≡ (c * a ^ e) % p
power_rest_is p a c zero = ap (λ k. k % p) (let e : c ≡ c * 1 = omega arith in e ∙ ap (λ k. c * k) (sym (pow-zero a)))
power_rest_is p a c (suc e) =
    power_rest_is p a (mul_mod p c a) e ∙ mul-mod_first (c * a) (a ^ e) p
    ∙ ap (λ k. k % p) (mul_assoc c a (a ^ e) ∙ ap (λ k. c * k) (mul_comm a (a ^ e) ∙ sym (pow-suc a e)))

-- a residue and its negation
negation : (p c x : ℕ) → 0 < p → c < p → (neg_mod p c * x + c * x) % p ≡ 0
negation p c x positive below =
    let sum : (neg_mod p c + c) % p ≡ 0 % p =
    mod-add-mod (p - c) p c ∙ ap (λ k. k % p) (let e : p - c + c ≡ p = omega arith in e) ∙ mod_self p ∙ sym (zero-mod p) in
    ap (λ k. k % p) (sym (add-mul (neg_mod p c) c x)) ∙ times_alike p (neg_mod p c + c) 0 x sum ∙ ap (λ k. k % p) (let e : 0 * x ≡ 0 = omega arith in e) ∙ zero-mod p

-- w is -c * (h - v)
negated : (p c w h v : ℕ) → 0 < p → c < p → (w + neg_mod p c * v) % p ≡ (neg_mod p c * h) % p → (w + c * h) % p ≡ (c * v) % p
negated p c w h v positive below is =
    let n : ℕ = neg_mod p c in
    let before : (w + c * h + (n * v + c * v)) % p ≡ (w + c * h) % p =
    sum_alike p (w + c * h) (w + c * h) (n * v + c * v) 0 refl (negation p c v positive below ∙ sym (zero-mod p)) ∙ ap (λ k. k % p) (let e : w + c * h + 0 ≡ w + c * h = omega arith in e) in
    let after : (n * h + c * h + c * v) % p ≡ (c * v) % p =
    sum_alike p (n * h + c * h) 0 (c * v) (c * v) (negation p c h positive below ∙ sym (zero-mod p)) refl ∙ ap (λ k. k % p) (let e : 0 + c * v ≡ c * v = omega arith in e) in
    sym before
    ∙ ap (λ k. k % p) (let e : w + c * h + (n * v + c * v) ≡ w + n * v + (c * h + c * v) = omega arith in e)
    ∙ sum_alike p (w + n * v) (n * h) (c * h + c * v) (c * h + c * v) is refl
    ∙ ap (λ k. k % p) (let e : n * h + (c * h + c * v) ≡ n * h + c * h + c * v = omega arith in e)
    ∙ after

-- ---- what is divided

module _ (p : ℕ) (lines : List Terms) where
  -- the line of a variable less its value
  abbrev pub IsLineOf : Known → Type 0
  IsLineOf k = SamePolynomial p (line_at lines k.line) (difference p (variable k.variable) (constant k.value))

  module _ (ks : List Known) (point : ℕ → ℕ) where
    -- a variable whose value is known, with its line
    pub record IsKnownAt (x : ℕ) : Type 0 where
      pub known : Known
      pub found : known_of ks x ≡ Some known
      pub variable : known.variable ≡ x
      pub value : point x ≡ known.value
      pub line : IsLineOf known

    -- a term that may be divided, times a monomial of later variables
    pub record IsDivisible (u : Monomial) (t : ℕ × Monomial) : Type 0 where
      pub residue : t.0 < p
      pub monomial : IsMonomial (t.1 ++ u)
      pub known : AllByRecursion (λ f. IsKnownAt f.0) t.1

-- ---- weights of sums

module _ (p : ℕ) (positive : 0 < p) (lines : List Terms) (g : Monomial → ℕ) where
  -- the weight of a sum of multiples
  pub weight : List Summand → ℕ
  weight ss = weighted g (sum_of lines ss)

  pub weight-append : (ss rs : List Summand) → weight (ss ++ rs) ≡ weight ss + weight rs
  unfolding weight
  weight-append [] rs = omega arith
  weight-append (s ∷ ss) rs =
      let piece : Terms = term_product s.1.0 s.1.1 (line_at lines s.0) in
      let all = weighted-append g piece (sum_of lines (ss ++ rs)) in
      let front = weighted-append g piece (sum_of lines ss) in
      let rest = weight-append ss rs in
      omega arith

  line_weight : (k : Known) (c : ℕ) (n : Monomial) → IsLineOf p lines k → IsMonomial n
      → weighted (λ m. g (mono_mul n m)) (line_at lines k.line) % p ≡ (g (mono_mul n ((k.variable, 1) ∷ [])) + (p - 1) * k.value * g n) % p
  line_weight k c n is monomial =
      one_weighted p (λ m. g (mono_mul n m)) (line_at lines k.line) (difference p (variable k.variable) (constant k.value)) is
      ∙ ap (λ i. i % p) (ap (λ m. 1 * g (mono_mul n ((k.variable, 1) ∷ [])) + ((p - 1) * k.value * g m + 0)) (mono_mul_one n monomial) ∙ omega arith)

  -- c * x^e * m is its quotients and its rest
  power_weight : (k : Known) (m : Monomial) (c e : ℕ) → IsLineOf p lines k → IsMonomialFrom (suc k.variable) m
      → (weight (power_summands p k m c e) + power_rest p k.value c e * g m) % p ≡ (c * g (power k.variable e ++ m)) % p
  unfolding weight
  power_weight k m c zero is from = ap (λ i. i % p) (omega arith)
  power_weight k m c (suc e) is from =
      let n : Monomial = power k.variable e ++ m in
      let c2 : ℕ = mul_mod p c k.value in
      let line : Terms = line_at lines k.line in
      let rest : List Summand = power_summands p k m c2 e in
      let l : ℕ = weighted (λ i. g (mono_mul n i)) line in
      let value : ℕ = power_rest p k.value c2 e * g m in
      let parts : weight ((k.line, (c, n)) ∷ rest) ≡ c * l + weight rest =
      weighted-append g (term_product c n line) (sum_of lines rest) ∙ ap (λ i. i + weighted g (sum_of lines rest)) (weighted-term_product g c n line) in
      ap (λ i. (i + value) % p) parts
      ∙ step_mod p k.value c l (g (mono_mul n ((k.variable, 1) ∷ []))) (g n) (weight rest) value positive
      (line_weight k c n is (front_is k.variable e m from)) (power_weight k m c2 e is from)
      ∙ ap (λ i. (c * g i) % p) (one_power_more k.variable e m from)

  -- ---- a term

  module _ (ks : List Known) (point : ℕ → ℕ) (u : Monomial) where
    -- c * m is its quotients and its value
    pub term_weight : (low c : ℕ) (m : Monomial) → IsMonomialFrom low (m ++ u) → AllByRecursion (λ f. IsKnownAt p lines ks point f.0) m
        → (weight (term_summands p ks u c m) + c * mono_value point m * g u) % p ≡ (c * g (m ++ u)) % p
    unfolding weight
    term_weight low c [] is known = ap (λ i. i % p) (let e : 0 + c * 1 * g u ≡ c * g u = omega arith in e)
    term_weight low c ((x, zero) ∷ m) is known = absurd (omega (arith, is.1))
    term_weight low c ((x, suc e) ∷ m) is known =
        let at = known.0 in
        let k : Known = at.known in
        let r : ℕ = power_rest p k.value c (suc e) in
        let first : List Summand = power_summands p k (m ++ u) c (suc e) in
        let rest : List Summand = term_summands p ks u r m in
        let whole : term_summands p ks u c ((x, suc e) ∷ m) ≡ first ++ rest =
        ap (λ (o : Option Known). elim o as (λ _. List Summand) [ None ↦ [] | Some j ↦ power_summands p j (m ++ u) c (suc e) ++ term_summands p ks u (power_rest p j.value c (suc e)) m ]) at.found in
        let from : IsMonomialFrom (suc k.variable) (m ++ u) = subst (λ y. IsMonomialFrom (suc y) (m ++ u)) (sym at.variable) is.2 in
        let one : (weight first + r * g (m ++ u)) % p ≡ (c * g ((x, suc e) ∷ (m ++ u))) % p =
        power_weight k (m ++ u) c (suc e) at.line from ∙ ap (λ y. (c * g ((y, suc e) ∷ (m ++ u))) % p) at.variable in
        let later : (weight rest + r * mono_value point m * g u) % p ≡ (r * g (m ++ u)) % p = term_weight (suc x) r m is.2 known.1 in
        let value : (c * mono_value point ((x, suc e) ∷ m) * g u) % p ≡ (r * mono_value point m * g u) % p =
        value_is c (k.value ^ suc e) (point x ^ suc e) r (mono_value point m) (g u) (ap (λ i. i ^ suc e) at.value) (power_rest_is p k.value c (suc e)) in
        ap (λ i. (i + c * mono_value point ((x, suc e) ∷ m) * g u) % p) (ap weight whole ∙ weight-append first rest)
        ∙ ap (λ i. i % p) (add_assoc (weight first) (weight rest) (c * mono_value point ((x, suc e) ∷ m) * g u))
        ∙ sum_alike p (weight first) (weight first) (weight rest + c * mono_value point ((x, suc e) ∷ m) * g u) (r * g (m ++ u)) refl
        (sum_alike p (weight rest) (weight rest) (c * mono_value point ((x, suc e) ∷ m) * g u) (r * mono_value point m * g u) refl value ∙ later)
        ∙ one
      where
        value_is : (c b y r v w : ℕ) → y ≡ b → r % p ≡ (c * b) % p → (c * (y * v) * w) % p ≡ (r * v * w) % p
        value_is c b y r v w same rest =
            ap (λ i. (c * (i * v) * w) % p) same
            ∙ ap (λ i. i % p) (ap (λ i. i * w) (sym (mul_assoc c b v)) ∙ mul_assoc (c * b) v w)
            ∙ times_alike p (c * b) r (v * w) (sym rest)
            ∙ ap (λ i. i % p) (sym (mul_assoc r v w))

    -- the quotients of the negated polynomial, with the polynomial, are its value
    pub quotients_weight : (ts : Terms) → AllByRecursion (IsDivisible p lines ks point u) ts
        → (weight (quotients p ks u ts) + weighted (λ m. g (m ++ u)) ts) % p ≡ (value_sum point ts * g u) % p
    unfolding weight
    quotients_weight [] all = ap (λ i. i % p) (let e : 0 ≡ 0 * g u = omega arith in e)
    quotients_weight (t ∷ ts) all =
        let n : ℕ = neg_mod p t.0 in
        let first : List Summand = term_summands p ks u n t.1 in
        let rest : List Summand = quotients p ks u ts in
        let h : ℕ = g (t.1 ++ u) in
        let v : ℕ = mono_value point t.1 * g u in
        let one : (weight first + t.0 * h) % p ≡ (t.0 * v) % p =
        negated p t.0 (weight first) h v positive all.0.residue
        (ap (λ i. (weight first + i) % p) (sym (mul_assoc n (mono_value point t.1) (g u))) ∙ term_weight 0 n t.1 all.0.monomial all.0.known) in
        let later : (weight rest + weighted (λ m. g (m ++ u)) ts) % p ≡ (value_sum point ts * g u) % p = quotients_weight ts all.1 in
        ap (λ i. (i + (t.0 * h + weighted (λ m. g (m ++ u)) ts)) % p) (weight-append first rest)
        ∙ ap (λ i. i % p) (let e : weight first + weight rest + (t.0 * h + weighted (λ m. g (m ++ u)) ts) ≡ weight first + t.0 * h + (weight rest + weighted (λ m. g (m ++ u)) ts) = omega arith in e)
        ∙ sum_alike p (weight first + t.0 * h) (t.0 * v) (weight rest + weighted (λ m. g (m ++ u)) ts) (value_sum point ts * g u) one later
        ∙ ap (λ i. i % p) (ap (λ i. i + value_sum point ts * g u) (sym (mul_assoc t.0 (mono_value point t.1) (g u))) ∙ sym (add-mul (t.0 * mono_value point t.1) (value_sum point ts) (g u)))

-- ---- the line of a literal, less the quotients

module _ (p : ℕ) (least : 2 ≤ p) (lines : List Terms) (ks : List Known) (point : ℕ → ℕ) (line : ℕ) (sides : Terms) where
  positive : 0 < p
  positive = omega arith

  whole_weight : (g : Monomial → ℕ) (ss : List Summand) → weighted g (sum_of lines ((line, (1, [])) ∷ ss)) ≡ weighted g (line_at lines line) + weighted g (sum_of lines ss)
  whole_weight g ss =
      weighted-append g (term_product 1 [] (line_at lines line)) (sum_of lines ss)
      ∙ ap (λ i. i + weighted g (sum_of lines ss)) (weighted-term_product g 1 [] (line_at lines line) ∙ (let e : 1 * weighted g (line_at lines line) ≡ weighted g (line_at lines line) = omega arith in e))

  nothing_after : (g : Monomial → ℕ) (ts : Terms) → weighted (λ m. g (m ++ [])) ts ≡ weighted g ts
  nothing_after g [] = refl
  nothing_after g (t ∷ ts) = ap₂ (λ m i. t.0 * g m + i) (append-nil t.1) (nothing_after g ts)

  -- an equality: what is left is its value
  pub equality_left : SamePolynomial p (line_at lines line) sides → AllByRecursion (IsDivisible p lines ks point []) sides
      → SamePolynomial p (sum_of lines (last_summands p ks [] line sides)) (constant (poly_value p point sides))
  unfolding weight
  equality_left same all = SamePolynomial-from_weighted p (sum_of lines (last_summands p ks [] line sides)) (constant (poly_value p point sides)) (λ g.
      let quotient : List Summand = quotients p ks [] sides in
      let rest : ℕ = weight p positive lines g quotient in
      let value : ℕ = value_sum point sides in
      ap (λ i. i % p) (whole_weight g quotient)
      ∙ sum_alike p (weighted g (line_at lines line)) (weighted (λ m. g (m ++ [])) sides) rest rest
      (one_weighted p g (line_at lines line) sides same ∙ ap (λ i. i % p) (sym (nothing_after g sides))) refl
      ∙ ap (λ i. i % p) (add_comm (weighted (λ m. g (m ++ [])) sides) rest)
      ∙ quotients_weight p positive lines g ks point [] sides all
      ∙ times_alike p value (value % p) (g []) (sym (mod-mod value p))
      ∙ ap (λ i. i % p) (let e : value % p * g [] ≡ value % p * g [] + 0 = omega arith in e))

  inverse_weight : (g : Monomial → ℕ) (w : ℕ) (ts : Terms) → AllByRecursion (IsDivisible p lines ks point ((w, 1) ∷ [])) ts
      → weighted g (product ts (variable w)) ≡ weighted (λ m. g (m ++ (w, 1) ∷ [])) ts
  inverse_weight g w [] all = refl
  inverse_weight g w (t ∷ ts) all =
      ap₂ (λ m i. t.0 * 1 * g m + i) (behind w 0 t.1 all.0.monomial) (inverse_weight g w ts all.1)
      ∙ ap (λ i. i * g (t.1 ++ (w, 1) ∷ []) + weighted (λ m. g (m ++ (w, 1) ∷ [])) ts) (let e : t.0 * 1 ≡ t.0 = omega arith in e)

  -- a disequality whose sides are equal: what is left is -1
  pub disequality_left : (w : ℕ) → SamePolynomial p (line_at lines line) (difference p (product sides (variable w)) (constant 1))
      → AllByRecursion (IsDivisible p lines ks point ((w, 1) ∷ [])) sides → poly_value p point sides ≡ 0
      → SamePolynomial p (sum_of lines (last_summands p ks ((w, 1) ∷ []) line sides)) (constant (p - 1))
  unfolding weight
  disequality_left w same all none = SamePolynomial-from_weighted p (sum_of lines (last_summands p ks ((w, 1) ∷ []) line sides)) (constant (p - 1)) (λ g.
      let u : Monomial = (w, 1) ∷ [] in
      let quotient : List Summand = quotients p ks u sides in
      let rest : ℕ = weight p positive lines g quotient in
      let value : ℕ = value_sum point sides in
      let one : ℕ = weighted g (scaled (p - 1) (constant 1)) in
      let whole : ℕ = weighted (λ m. g (m ++ u)) sides in
      ap (λ i. i % p) (whole_weight g quotient)
      ∙ sum_alike p (weighted g (line_at lines line)) (whole + one) rest rest
      (one_weighted p g (line_at lines line) (difference p (product sides (variable w)) (constant 1)) same
      ∙ ap (λ i. i % p) (weighted-append g (product sides (variable w)) (scaled (p - 1) (constant 1)) ∙ ap (λ i. i + one) (inverse_weight g w sides all))) refl
      ∙ ap (λ i. i % p) (let e : whole + one + rest ≡ rest + whole + one = omega arith in e)
      ∙ sum_alike p (rest + whole) 0 one ((p - 1) * g [] + 0)
      (quotients_weight p positive lines g ks point u sides all ∙ times_alike p value 0 (g u) (none ∙ sym (zero-mod p)) ∙ ap (λ i. i % p) (let e : 0 * g u ≡ 0 = omega arith in e))
      (ap (λ i. i % p) (let e : (p - 1) * 1 * g [] + 0 ≡ (p - 1) * g [] + 0 = omega arith in e))
      ∙ ap (λ i. i % p) (let e : 0 + ((p - 1) * g [] + 0) ≡ (p - 1) * g [] + 0 = omega arith in e))
