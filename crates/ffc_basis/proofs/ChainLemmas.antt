-- Buchberger's second criterion. Where the leading monomial of line k divides the least common multiple of those of
-- lines i and j, S(i, j) is u*S(i, k) + w*S(k, j) for monomials u and w; so it reduces to zero as both do, where no
-- leading monomial of the multiples is above its own. That is so where no monomial of the three lines but their leading
-- ones is, each line times what makes its leading monomial the least common multiple.
use Rattle.std.proofs.Common.{◌≡◌, ◌≢◌, ◌⊎◌, ℕ, ◌+◌, ◌-◌, ◌*◌, ◌%◌, ◌<◌, List, [], ◌∷◌, ◌++◌, length, get_or, refl, sym, ap, ap₂, ◌∙◌, subst, inl, inr, arith, mod-lt, one-mul, Option, Some, None, IfSome, IfNone}
use Rattle.std.proofs.Math.Nat.{mul-mod_right, zero-mod}
use Rattle.std.proofs.lemmas.Nat.{mul-mod_second}
use Rattle.std.specs.declared.cmp.Ordering.{Ordering}
use Rattle.std.specs.declared.cmp.Ordering.TheVariants.{Greater}
use Rattle.ffc_field.specs.Modular.{IsPrime, mul_mod, pow_mod}
use Rattle.ffc_field.proofs.ModularLaws.{mul_mod-comm}
use Rattle.ffc_field.proofs.Primes.{inverse_residue}
use Rattle.ffc_ring.specs.Monomial.{Monomial, IsMonomial, mono_mul, mono_lcm, mono_quotient, Divides}
use Rattle.ffc_ring.specs.Polynomial.{Terms, AreTerms, coefficient, SamePolynomial, product, term_product, scaled, difference}
use Rattle.ffc_ring.proofs.MonomialLemmas.{IsMonomial-mono_mul, IsMonomial-mono_lcm, mono_mul_comm, mono_mul_assoc, mono_mul-mono_quotient, IsMonomialFrom-mono_quotient, first_divides_lcm, second_divides_lcm, lcm_divides}
use Rattle.ffc_ring.proofs.PolynomialLemmas.{weighted, weighted-append, weighted-term_product, weighted-product, weighted-alike, SamePolynomial-from_weighted, sum_alike, times_alike, same_sums, same_term_products, shifted_monomial, monomial_of_coefficient}
use Rattle.ffc_mono.specs.MonomialOrder.{IsMonomialOrder}
use Rattle.ffc_mono.specs.Leading.{IsLeading}
use Rattle.ffc_mono.proofs.LeadingLemmas.{one_leading}
use Rattle.ffc_basis.specs.declared.chain.Top.{Top}
use Rattle.ffc_basis.specs.declared.leads.Whole.{Whole}
use Rattle.ffc_basis.specs.Chains.{IsUnder, IsTop, IsWholeOfPair, IsNoHigher}
use Rattle.ffc_basis.specs.Completion.{IsSPolynomial, ReducesToZero, IsPairClosed}
use Rattle.ffc_line.specs.Lines.{Parts, AreLists, combination, AreBefore, AreTermLists, HasMonomial}
use Rattle.ffc_basis.specs.PairTable.{AreBothClosed}
use Rattle.ffc_basis.specs.Reduction.{ArePartsAtMost}
use Rattle.ffc_basis.proofs.OrderedTerms.{AreTerms-scaled}
use Rattle.ffc_basis.proofs.PartLemmas.{combination-append}
use Rattle.ffc_basis.proofs.PairLemmas.{whole_times, inverse_only, nothing_leads_none, one_s_polynomial_closes, symmetric_pairs_close}
use Rattle.ffc_basis.proofs.RaisedLemmas.{raised_quotient, lead_monomial, no_greater_trans, s_polynomial_under}

-- ---- parts times a monomial

abbrev pub raised : Monomial → Parts → Parts
raised u [] = []
raised u (t ∷ ts) = (t.0, term_product 1 u t.1) ∷ raised u ts

term_product-append : (c : ℕ) (u : Monomial) (a b : Terms) → term_product c u (a ++ b) ≡ term_product c u a ++ term_product c u b
term_product-append c u [] b = refl
term_product-append c u (t ∷ a) b = ap (λ l. (c * t.0, mono_mul u t.1) ∷ l) (term_product-append c u a b)

AreTerms-raised : (c : ℕ) (u : Monomial) (a : Terms) → IsMonomial u → AreTerms a → AreTerms (term_product c u a)
AreTerms-raised c u [] v w = tt
AreTerms-raised c u (t ∷ a) v w = (IsMonomial-mono_mul u t.1 v w.0, AreTerms-raised c u a v w.1)

weighted-raised_product : (g : Monomial → ℕ) (u : Monomial) (a b : Terms) → IsMonomial u → AreTerms a → AreTerms b → weighted g (product (term_product 1 u a) b) ≡ weighted g (term_product 1 u (product a b))
weighted-raised_product g u a b v w x =
    let inner : Monomial → ℕ = λ m. weighted (λ n. g (mono_mul m n)) b in
    let under : Monomial → ℕ = λ m. weighted (λ n. g (mono_mul u (mono_mul m n))) b in
    weighted-product g (term_product 1 u a) b
    ∙ weighted-term_product inner 1 u a
    ∙ ap (λ k. 1 * k)
    (weighted-alike (λ m. inner (mono_mul u m)) under a w
    (λ m um. weighted-alike (λ n. g (mono_mul (mono_mul u m) n)) (λ n. g (mono_mul u (mono_mul m n))) b x (λ n un. ap g (mono_mul_assoc u m n v um un)))
    ∙ sym (weighted-product (λ k. g (mono_mul u k)) a b))
    ∙ sym (weighted-term_product g 1 u (product a b))

weighted-raised : (g : Monomial → ℕ) (u : Monomial) (gs : List Terms) (ts : Parts) → IsMonomial u → AreLists gs → AreTermLists ts → weighted g (combination gs (raised u ts)) ≡ weighted g (term_product 1 u (combination gs ts))
weighted-raised g u gs [] v lists w = refl
weighted-raised g u gs (t ∷ ts) v lists w =
    let b = get_or gs t.0 [] in
    weighted-append g (product (term_product 1 u t.1) b) (combination gs (raised u ts))
    ∙ ap₂ ◌+◌ (weighted-raised_product g u t.1 b v w.0 (lists t.0)) (weighted-raised g u gs ts v lists w.1)
    ∙ sym (weighted-append g (term_product 1 u (product t.1 b)) (term_product 1 u (combination gs ts)))
    ∙ ap (weighted g) (sym (term_product-append 1 u (product t.1 b) (combination gs ts)))

pub combination-raised : (p : ℕ) (u : Monomial) (gs : List Terms) (ts : Parts) → IsMonomial u → AreLists gs → AreTermLists ts → SamePolynomial p (combination gs (raised u ts)) (term_product 1 u (combination gs ts))
combination-raised p u gs ts v lists w =
    SamePolynomial-from_weighted p (combination gs (raised u ts)) (term_product 1 u (combination gs ts)) (λ g. ap (λ k. k % p) (weighted-raised g u gs ts v lists w))

pub AreBefore-raised : (n : ℕ) (u : Monomial) (ts : Parts) → AreBefore n ts → AreBefore n (raised u ts)
AreBefore-raised n u [] v = tt
AreBefore-raised n u (t ∷ ts) v = (v.0, AreBefore-raised n u ts v.1)

pub AreTermLists-raised : (u : Monomial) (ts : Parts) → IsMonomial u → AreTermLists ts → AreTermLists (raised u ts)
AreTermLists-raised u [] v w = tt
AreTermLists-raised u (t ∷ ts) v w = (AreTerms-raised 1 u t.1 v w.0, AreTermLists-raised u ts v w.1)

pub HasMonomial-raised : (p : ℕ) (u : Monomial) (ts : Parts) (i : ℕ) (m : Monomial) → IsMonomial u → AreTermLists ts → HasMonomial p (raised u ts) i m → (q : Monomial) × IsMonomial q × (m ≡ mono_mul u q) × HasMonomial p ts i q
HasMonomial-raised p u [] i m v w has = absurd has
HasMonomial-raised p u (t ∷ ts) i m v w (inl (here, some)) =
    let found = shifted_monomial p 1 u m t.1 v w.0 some in (found.0, found.1, found.3, inl (here, found.2))
HasMonomial-raised p u (t ∷ ts) i m v w (inr there) =
    let found = HasMonomial-raised p u ts i m v w.1 there in (found.0, found.1, found.2, inr found.3)

AreTerms-append : (a b : Terms) → AreTerms a → AreTerms b → AreTerms (a ++ b)
AreTerms-append [] b v w = w
AreTerms-append (t ∷ a) b v w = (v.0, AreTerms-append a b v.1 w)

-- so is a difference of multiples
pub AreTerms-difference : (p k l : ℕ) (u w : Monomial) (a b : Terms) → IsMonomial u → IsMonomial w → AreTerms a → AreTerms b → AreTerms (difference p (term_product k u a) (term_product l w b))
AreTerms-difference p k l u w a b v z x y =
    AreTerms-append (term_product k u a) (scaled (p - 1) (term_product l w b)) (AreTerms-raised k u a v x)
    (AreTerms-scaled (p - 1) (term_product l w b) (AreTerms-raised l w b z y))

-- ---- parts one after another

pub AreBefore-append : (n : ℕ) (xs ys : Parts) → AreBefore n xs → AreBefore n ys → AreBefore n (xs ++ ys)
AreBefore-append n [] ys v w = w
AreBefore-append n (x ∷ xs) ys v w = (v.0, AreBefore-append n xs ys v.1 w)

pub AreTermLists-append : (xs ys : Parts) → AreTermLists xs → AreTermLists ys → AreTermLists (xs ++ ys)
AreTermLists-append [] ys v w = w
AreTermLists-append (x ∷ xs) ys v w = (v.0, AreTermLists-append xs ys v.1 w)

pub HasMonomial-append : (p : ℕ) (xs ys : Parts) (i : ℕ) (m : Monomial) → HasMonomial p (xs ++ ys) i m → HasMonomial p xs i m ⊎ HasMonomial p ys i m
HasMonomial-append p [] ys i m has = inr has
HasMonomial-append p (x ∷ xs) ys i m (inl here) = inl (inl here)
HasMonomial-append p (x ∷ xs) ys i m (inr there) =
    elim (HasMonomial-append p xs ys i m there) [ inl first ↦ inl (inr first) | inr second ↦ inr second ]

-- ---- numbers modulo p

gathered : (x a b y : ℕ) → x + a + (b + y) ≡ x + y + (b + a)
gathered x a b y = omega arith

-- k1*x - f1*e + f2*e - l2*y is k*x - l*y
chain_numbers : (p k k1 f1 f2 l l2 x e y : ℕ) → 0 < p → k1 % p ≡ k % p → f2 % p ≡ f1 % p → l2 % p ≡ l % p
    → (k1 * x + (p - 1) * (f1 * e) + (f2 * e + (p - 1) * (l2 * y))) % p ≡ (k * x + (p - 1) * (l * y)) % p
chain_numbers p k k1 f1 f2 l l2 x e y h same_k same_f same_l =
    let last : ((p - 1) * (l2 * y)) % p ≡ ((p - 1) * (l * y)) % p =
    sym (mul-mod_second (p - 1) (l2 * y) p) ∙ ap (λ z. ((p - 1) * z) % p) (times_alike p l2 l y same_l) ∙ mul-mod_second (p - 1) (l * y) p in
    let none : (f2 * e + (p - 1) * (f1 * e)) % p ≡ 0 % p =
    sum_alike p (f2 * e) (f1 * e) ((p - 1) * (f1 * e)) ((p - 1) * (f1 * e)) (times_alike p f2 f1 e same_f) refl
    ∙ ap (λ z. z % p) (whole_times p (f1 * e) h) ∙ mul-mod_right p (f1 * e) ∙ sym (zero-mod p) in
    ap (λ z. z % p) (gathered (k1 * x) ((p - 1) * (f1 * e)) (f2 * e) ((p - 1) * (l2 * y)))
    ∙ sum_alike p (k1 * x + (p - 1) * (l2 * y)) (k * x + (p - 1) * (l * y)) (f2 * e + (p - 1) * (f1 * e)) 0
    (sum_alike p (k1 * x) (k * x) ((p - 1) * (l2 * y)) ((p - 1) * (l * y)) (times_alike p k1 k x same_k) last) none
    ∙ ap (λ z. z % p) (omega arith)

-- ---- weights of the S-polynomials

weighted-multiple : (g : Monomial → ℕ) (u q top : Monomial) (k : ℕ) (a : Terms) → IsMonomial u → IsMonomial q → AreTerms a → mono_mul u q ≡ top
    → weighted (λ n. g (mono_mul u n)) (term_product k q a) ≡ k * weighted (λ n. g (mono_mul top n)) a
weighted-multiple g u q top k a v w x is =
    weighted-term_product (λ n. g (mono_mul u n)) k q a
    ∙ ap (λ z. k * z)
    (weighted-alike (λ n. g (mono_mul u (mono_mul q n))) (λ n. g (mono_mul top n)) a x
    (λ n un. ap g (sym (mono_mul_assoc u q n v w un) ∙ ap (λ z. mono_mul z n) is)))

weighted-difference : (p : ℕ) (g : Monomial → ℕ) (a b : Terms) → weighted g (difference p a b) ≡ weighted g a + (p - 1) * weighted g b
weighted-difference p g a b =
    weighted-append g a (scaled (p - 1) b) ∙ ap (λ z. weighted g a + z) (weighted-term_product g (p - 1) [] b)

-- u times a difference of multiples
weighted-raised_difference : (p : ℕ) (g : Monomial → ℕ) (u q t q_top t_top : Monomial) (k l : ℕ) (a b : Terms) → IsMonomial u → IsMonomial q → IsMonomial t → AreTerms a → AreTerms b → mono_mul u q ≡ q_top → mono_mul u t ≡ t_top
    → weighted g (term_product 1 u (difference p (term_product k q a) (term_product l t b))) ≡ k * weighted (λ n. g (mono_mul q_top n)) a + (p - 1) * (l * weighted (λ n. g (mono_mul t_top n)) b)
weighted-raised_difference p g u q t q_top t_top k l a b v w x y z is also =
    let up : Monomial → ℕ = λ n. g (mono_mul u n) in
    weighted-term_product g 1 u (difference p (term_product k q a) (term_product l t b))
    ∙ one-mul (weighted up (difference p (term_product k q a) (term_product l t b)))
    ∙ weighted-difference p up (term_product k q a) (term_product l t b)
    ∙ ap₂ (λ i j. i + (p - 1) * j) (weighted-multiple g u q q_top k a v w y is) (weighted-multiple g u t t_top l b v x z also)

-- ---- the criterion

module _ (p : ℕ) (prime : IsPrime p) (cmp : Monomial → Monomial → Ordering) (laws : IsMonomialOrder cmp) where
  -- an S-polynomial by given leading terms
  pub made_of : (a b s : Terms) (c : ℕ) (m : Monomial) (d : ℕ) (n : Monomial) → IsLeading p cmp a c m → IsLeading p cmp b d n → IsSPolynomial p cmp a b s
      → (k : ℕ) × (l : ℕ) × (mul_mod p k c ≡ 1) × (mul_mod p l d ≡ 1) × SamePolynomial p s (difference p (term_product k (mono_quotient (mono_lcm m n) m) a) (term_product l (mono_quotient (mono_lcm m n) n) b))
  made_of a b s c m d n first second (e, u, f, v, third, fourth, x, y, xe, yf, is) =
      let one = one_leading cmp laws p a c e m u first third in
      let two = one_leading cmp laws p b d f n v second fourth in (
        x,
        y,
        ap (mul_mod p x) one.0 ∙ xe,
        ap (mul_mod p y) two.0 ∙ yf,
        subst (λ z. SamePolynomial p s (difference p (term_product x (mono_quotient (mono_lcm z n) z) a) (term_product y (mono_quotient (mono_lcm z n) n) b))) (sym one.1)
            (subst (λ z. SamePolynomial p s (difference p (term_product x (mono_quotient (mono_lcm u z) u) a) (term_product y (mono_quotient (mono_lcm u z) z) b))) (sym two.1) is),
      )

  -- the sum of both multiples
  pub chain_sum : (a b e s s1 s2 : Terms) (c d f : ℕ) (m n r u w : Monomial) → AreTerms a → AreTerms b → AreTerms e
      → IsLeading p cmp a c m → IsLeading p cmp b d n → IsLeading p cmp e f r → IsMonomial u → IsMonomial w
      → mono_mul (mono_lcm m r) u ≡ mono_lcm m n → mono_mul (mono_lcm r n) w ≡ mono_lcm m n
      → IsSPolynomial p cmp a b s → IsSPolynomial p cmp a e s1 → IsSPolynomial p cmp e b s2
      → SamePolynomial p s (term_product 1 u s1 ++ term_product 1 w s2)
  chain_sum a b e s s1 s2 c d f m n r u w x y z first second third v t up also whole one two =
      let h : 0 < p = omega (arith, prime.least) in
      let mm : IsMonomial m = monomial_of_coefficient p a m x (λ none. first.1 (sym first.0 ∙ none)) in
      let nm : IsMonomial n = monomial_of_coefficient p b n y (λ none. second.1 (sym second.0 ∙ none)) in
      let rm : IsMonomial r = monomial_of_coefficient p e r z (λ none. third.1 (sym third.0 ∙ none)) in
      let top = mono_lcm m n in
      let left = mono_lcm m r in
      let right = mono_lcm r n in
      let tm : IsMonomial top = IsMonomial-mono_lcm m n mm nm in
      let lm : IsMonomial left = IsMonomial-mono_lcm m r mm rm in
      let gm : IsMonomial right = IsMonomial-mono_lcm r n rm nm in
      let mq : mono_mul u (mono_quotient left m) ≡ mono_quotient top m = raised_quotient left top m u lm tm mm v (first_divides_lcm m r mm rm) up in
      let lr : mono_mul u (mono_quotient left r) ≡ mono_quotient top r = raised_quotient left top r u lm tm rm v (second_divides_lcm m r mm rm) up in
      let rr : mono_mul w (mono_quotient right r) ≡ mono_quotient top r = raised_quotient right top r w gm tm rm t (first_divides_lcm r n rm nm) also in
      let nq : mono_mul w (mono_quotient right n) ≡ mono_quotient top n = raised_quotient right top n w gm tm nm t (second_divides_lcm r n rm nm) also in
      let s_made = made_of a b s c m d n first second whole in
      let s1_made = made_of a e s1 c m f r first third one in
      let s2_made = made_of e b s2 f r d n third second two in
      let k = s_made.0 in
      let l = s_made.1 in
      let k1 = s1_made.0 in
      let f1 = s1_made.1 in
      let f2 = s2_made.0 in
      let l2 = s2_made.1 in
      let whole_list = difference p (term_product k (mono_quotient top m) a) (term_product l (mono_quotient top n) b) in
      let left_list = difference p (term_product k1 (mono_quotient left m) a) (term_product f1 (mono_quotient left r) e) in
      let right_list = difference p (term_product f2 (mono_quotient right r) e) (term_product l2 (mono_quotient right n) b) in
      let lists : SamePolynomial p whole_list (term_product 1 u left_list ++ term_product 1 w right_list) =
      SamePolynomial-from_weighted p whole_list (term_product 1 u left_list ++ term_product 1 w right_list)
      (λ g.
      let xa = weighted (λ i. g (mono_mul (mono_quotient top m) i)) a in
      let xb = weighted (λ i. g (mono_mul (mono_quotient top n) i)) b in
      let xe = weighted (λ i. g (mono_mul (mono_quotient top r) i)) e in
      let whole_is : weighted g whole_list ≡ k * xa + (p - 1) * (l * xb) =
      weighted-difference p g (term_product k (mono_quotient top m) a) (term_product l (mono_quotient top n) b)
      ∙ ap₂ (λ i j. i + (p - 1) * j) (weighted-term_product g k (mono_quotient top m) a) (weighted-term_product g l (mono_quotient top n) b) in
      let sum_is : weighted g (term_product 1 u left_list ++ term_product 1 w right_list) ≡ k1 * xa + (p - 1) * (f1 * xe) + (f2 * xe + (p - 1) * (l2 * xb)) =
      weighted-append g (term_product 1 u left_list) (term_product 1 w right_list)
      ∙ ap₂ ◌+◌
      (weighted-raised_difference p g u (mono_quotient left m) (mono_quotient left r) (mono_quotient top m) (mono_quotient top r) k1 f1 a e v (IsMonomialFrom-mono_quotient 0 left m lm) (IsMonomialFrom-mono_quotient 0 left r lm) x z mq lr)
      (weighted-raised_difference p g w (mono_quotient right r) (mono_quotient right n) (mono_quotient top r) (mono_quotient top n) f2 l2 e b t (IsMonomialFrom-mono_quotient 0 right r gm) (IsMonomialFrom-mono_quotient 0 right n gm) z y rr nq) in
      ap (λ i. i % p) whole_is
      ∙ sym (chain_numbers p k k1 f1 f2 l l2 xa xe xb h (inverse_only p k1 k c s1_made.2 s_made.2) (inverse_only p f2 f1 f s2_made.2 s1_made.3) (inverse_only p l2 l d s2_made.3 s_made.3))
      ∙ ap (λ i. i % p) (sym sum_is)) in
      λ i.
      s_made.4 i ∙ lists i
      ∙ same_sums p (term_product 1 u left_list) (term_product 1 u s1) (term_product 1 w right_list) (term_product 1 w s2)
      (same_term_products p 1 u left_list s1 (λ j. sym (s1_made.4 j))) (same_term_products p 1 w right_list s2 (λ j. sym (s2_made.4 j))) i

  -- Where no monomial of a raised polynomial is above this one, no multiple of a line in its raised parts is.
  raised_at_most : (gs : List Terms) → AreLists gs → (s : Terms) → AreTerms s → (parts : Parts) → AreTermLists parts → ArePartsAtMost p cmp gs s parts → (u lead : Monomial) → IsMonomial u
      → ((d : ℕ) (k : Monomial) → IsLeading p cmp s d k → cmp (mono_mul u k) lead ≢ Greater)
      → (i : ℕ) (m : Monomial) → HasMonomial p (raised u parts) i m → (c : ℕ) × (n : Monomial) × IsLeading p cmp (get_or gs i []) c n × (cmp (mono_mul m n) lead ≢ Greater)
  raised_at_most gs lists s terms parts w at_most u lead v low i m has =
      let found = HasMonomial-raised p u parts i m v w has in
      let q = found.0 in
      let there = at_most i q found.3 in
      let n = there.1 in
      let nm : IsMonomial n = monomial_of_coefficient p (get_or gs i []) n (lists i) (λ none. there.2.1 (sym there.2.0 ∙ none)) in
      let under = there.3 in
      let k = under.1 in
      let km : IsMonomial k = monomial_of_coefficient p s k terms (λ none. under.2.1 (sym under.2.0 ∙ none)) in
      let qn = mono_mul q n in
      let qm : IsMonomial qn = IsMonomial-mono_mul q n found.1 nm in
      let same : mono_mul m n ≡ mono_mul u qn = ap (λ z. mono_mul z n) found.2 ∙ mono_mul_assoc u q n v found.1 nm in
      let kept : cmp (mono_mul u qn) (mono_mul u k) ≡ cmp qn k =
      ap₂ cmp (mono_mul_comm u qn v qm) (mono_mul_comm u k v km) ∙ laws.kept qn k u qm km v in (
        there.0,
        n,
        there.2,
        (λ above. no_greater_trans p prime cmp laws (mono_mul u qn) (mono_mul u k) lead (λ more. under.3 (sym kept ∙ more)) (low under.0 k under.2) (ap (λ z. cmp z lead) (sym same) ∙ above)),
      )

  -- an inverse of a leading coefficient
  pub inverse_of : (ts : Terms) (c : ℕ) (m : Monomial) → IsLeading p cmp ts c m → (k : ℕ) × (mul_mod p k c ≡ 1)
  inverse_of ts c m lead =
      let low : c < p = subst (λ x. x < p) lead.0 (mod-lt _ (omega (arith, prime.least))) in
      let k = pow_mod p c (p - 2) in
      (k, mul_mod-comm p k c ∙ inverse_residue p c prime low lead.1)

  -- the S-polynomial of two lines reduces to zero as those of both with a third one do
  pub chain_closes : (gs : List Terms) → AreLists gs → (i j k : ℕ) (t : Top) → IsTop p cmp (get_or gs i []) (get_or gs j []) t → IsUnder p cmp (get_or gs k []) t.lcm t.lead → IsPairClosed p cmp gs i k → IsPairClosed p cmp gs k j → AreBothClosed p cmp gs i j
  chain_closes gs lists i j k t is third one_closed two_closed =
      let h : 0 < p = omega (arith, prime.least) in
      let a = get_or gs i [] in
      let b = get_or gs j [] in
      let e = get_or gs k [] in
      let lead = t.lead in
      let (c, m, d, n, a_leads, b_leads, multiple) = is.multiple in
      let f = third.coefficient_first in
      let r = third.first in
      let mm : IsMonomial m = lead_monomial p cmp a c m (lists i) a_leads in
      let nm : IsMonomial n = lead_monomial p cmp b d n (lists j) b_leads in
      let rm : IsMonomial r = lead_monomial p cmp e f r (lists k) third.leads in
      let top = mono_lcm m n in
      let left = mono_lcm m r in
      let right = mono_lcm r n in
      let tm : IsMonomial top = IsMonomial-mono_lcm m n mm nm in
      let lm : IsMonomial left = IsMonomial-mono_lcm m r mm rm in
      let gm : IsMonomial right = IsMonomial-mono_lcm r n rm nm in
      let a_under : IsUnder p cmp a top lead = subst (λ z. IsUnder p cmp a z lead) multiple is.first in
      let b_under : IsUnder p cmp b top lead = subst (λ z. IsUnder p cmp b z lead) multiple is.second in
      let e_under : IsUnder p cmp e top lead = subst (λ z. IsUnder p cmp e z lead) multiple third in
      let r_divides : Divides r top = subst (Divides r) multiple third.divides in
      let u = mono_quotient top left in
      let w = mono_quotient top right in
      let um : IsMonomial u = IsMonomialFrom-mono_quotient 0 top left tm in
      let wm : IsMonomial w = IsMonomialFrom-mono_quotient 0 top right tm in
      let left_up : mono_mul left u ≡ top = mono_mul-mono_quotient top left tm lm (lcm_divides m r top mm rm (first_divides_lcm m n mm nm) r_divides) in
      let right_up : mono_mul right w ≡ top = mono_mul-mono_quotient top right tm gm (lcm_divides r n top rm nm r_divides (second_divides_lcm m n mm nm)) in
      let x = inverse_of a c m a_leads in
      let y = inverse_of b d n b_leads in
      let z = inverse_of e f r third.leads in
      let s = difference p (term_product x.0 (mono_quotient top m) a) (term_product y.0 (mono_quotient top n) b) in
      let s1 = difference p (term_product x.0 (mono_quotient left m) a) (term_product z.0 (mono_quotient left r) e) in
      let s2 = difference p (term_product z.0 (mono_quotient right r) e) (term_product y.0 (mono_quotient right n) b) in
      let s_is : IsSPolynomial p cmp a b s = (c, m, d, n, a_leads, b_leads, x.0, y.0, x.1, y.1, λ _. refl) in
      let s1_is : IsSPolynomial p cmp a e s1 = (c, m, f, r, a_leads, third.leads, x.0, z.0, x.1, z.1, λ _. refl) in
      let s2_is : IsSPolynomial p cmp e b s2 = (f, r, d, n, third.leads, b_leads, z.0, y.0, z.1, y.1, λ _. refl) in
      let s1_terms : AreTerms s1 =
      AreTerms-difference p x.0 z.0 (mono_quotient left m) (mono_quotient left r) a e (IsMonomialFrom-mono_quotient 0 left m lm) (IsMonomialFrom-mono_quotient 0 left r lm) (lists i) (lists k) in
      let s2_terms : AreTerms s2 =
      AreTerms-difference p z.0 y.0 (mono_quotient right r) (mono_quotient right n) e b (IsMonomialFrom-mono_quotient 0 right r gm) (IsMonomialFrom-mono_quotient 0 right n gm) (lists k) (lists j) in
      let s_leads = is.leading s s_is in
      let sum : SamePolynomial p s (term_product 1 u s1 ++ term_product 1 w s2) =
      chain_sum a b e s s1 s2 c d f m n r u w (lists i) (lists j) (lists k) a_leads b_leads third.leads um wm left_up right_up s_is s1_is s2_is in
      let v1 : ReducesToZero p cmp gs s1 = one_closed s1 s1_is in
      let v2 : ReducesToZero p cmp gs s2 = two_closed s2 s2_is in
      let xs = raised u v1.0 in
      let ys = raised w v2.0 in
      let reduces : ReducesToZero p cmp gs s = (
        xs ++ ys,
        AreBefore-append (length gs) xs ys (AreBefore-raised (length gs) u v1.0 v1.1) (AreBefore-raised (length gs) w v2.0 v2.1),
        (λ l q has.
            let there : (o : ℕ) × (g : Monomial) × IsLeading p cmp (get_or gs l []) o g × (cmp (mono_mul q g) lead ≢ Greater) =
            elim (HasMonomial-append p xs ys l q has) [
              | inl here ↦
                  raised_at_most gs lists s1 s1_terms v1.0 v1.4 v1.2 u lead um
                  (λ o g leads.
                  s_polynomial_under p prime cmp laws a e (lists i) (lists k) c f m r a_leads third.leads x.0 z.0 x.1 z.1 u top lead um tm left_up a_under e_under g (λ none. leads.1 (sym leads.0 ∙ none)))
                  l q here
              | inr here ↦
                  raised_at_most gs lists s2 s2_terms v2.0 v2.4 v2.2 w lead wm
                  (λ o g leads.
                  s_polynomial_under p prime cmp laws e b (lists k) (lists j) f d r n third.leads b_leads z.0 y.0 z.1 y.1 w top lead wm tm right_up e_under b_under g (λ none. leads.1 (sym leads.0 ∙ none)))
                  l q here
            ] in
            (there.0, there.1, there.2, (s_leads.0, lead, s_leads.1, there.3))),
        (λ q.
            sum q
            ∙ same_sums p (term_product 1 u s1) (combination gs xs) (term_product 1 w s2) (combination gs ys)
            (λ l. same_term_products p 1 u s1 (combination gs v1.0) v1.3 l ∙ sym (combination-raised p u gs v1.0 um lists v1.4 l))
            (λ l. same_term_products p 1 w s2 (combination gs v2.0) v2.3 l ∙ sym (combination-raised p w gs v2.0 wm lists v2.4 l)) q
            ∙ ap (λ ts. coefficient p ts q) (sym (combination-append gs xs ys))),
        AreTermLists-append xs ys (AreTermLists-raised u v1.0 um v1.4) (AreTermLists-raised w v2.0 wm v2.4),
      ) in
      let closed : IsPairClosed p cmp gs i j = one_s_polynomial_closes p cmp laws gs i j s s_is reduces in
      (closed, symmetric_pairs_close p cmp h gs i j (lists i) (lists j) closed)

  -- a raised S-polynomial has no leading monomial above
  below_lead : (o : Option Monomial) (s : Terms) (u lead : Monomial) → IfNone o (s ≡ []) → IfSome o (λ k. (e : ℕ) × IsLeading p cmp s e k) → IfSome o (λ k. cmp (mono_mul u k) lead ≢ Greater)
      → (d : ℕ) (k : Monomial) → IsLeading p cmp s d k → cmp (mono_mul u k) lead ≢ Greater
  below_lead None s u lead none some low d k is = absurd (nothing_leads_none p cmp s none d k is)
  below_lead (Some x) s u lead none some low d k is = λ above.
      low (ap (λ y. cmp (mono_mul u y) lead) (one_leading cmp laws p s some.0 d x k some.1 is).1 ∙ above)

  -- the same by the leading monomials of the S-polynomials
  pub whole_chain_closes : (gs : List Terms) → AreLists gs → (i j k : ℕ) (whole first second : Whole) (lead : Monomial) → IsWholeOfPair p cmp gs i j whole → IsWholeOfPair p cmp gs i k first → IsWholeOfPair p cmp gs k j second → whole.lead ≡ Some lead
      → IsNoHigher cmp first whole.lcm lead → IsNoHigher cmp second whole.lcm lead → IsPairClosed p cmp gs i k → IsPairClosed p cmp gs k j → AreBothClosed p cmp gs i j
  whole_chain_closes gs lists i j k whole first second lead is one two leads (u, v, up, below) (w, t, also, under) one_closed two_closed =
      let a = get_or gs i [] in
      let b = get_or gs j [] in
      let e = get_or gs k [] in
      let m = is.first in
      let n = is.second in
      let r = one.second in
      let s = is.polynomial in
      let s1 = one.polynomial in
      let s2 = two.polynomial in
      let top : (d : ℕ) × IsLeading p cmp s d lead = subst (λ o. IfSome o (λ z. (d : ℕ) × IsLeading p cmp s d z)) leads is.some in
      let m_is : one.first ≡ m = (one_leading cmp laws p a one.first_coefficient is.first_coefficient one.first m one.first_leads is.first_leads).1 in
      let r_is : two.first ≡ r = (one_leading cmp laws p e two.first_coefficient one.second_coefficient two.first r two.first_leads one.second_leads).1 in
      let n_is : two.second ≡ n = (one_leading cmp laws p b two.second_coefficient is.second_coefficient two.second n two.second_leads is.second_leads).1 in
      let first_up : mono_mul (mono_lcm m r) u ≡ mono_lcm m n =
      ap (λ z. mono_mul (mono_lcm z r) u) (sym m_is) ∙ ap (λ z. mono_mul z u) (sym one.multiple) ∙ up ∙ is.multiple in
      let second_up : mono_mul (mono_lcm r n) w ≡ mono_lcm m n =
      ap₂ (λ y z. mono_mul (mono_lcm y z) w) (sym r_is) (sym n_is) ∙ ap (λ z. mono_mul z w) (sym two.multiple) ∙ also ∙ is.multiple in
      let sum : SamePolynomial p s (term_product 1 u s1 ++ term_product 1 w s2) =
      chain_sum a b e s s1 s2 is.first_coefficient is.second_coefficient one.second_coefficient m n r u w (lists i) (lists j) (lists k) is.first_leads is.second_leads one.second_leads v t first_up second_up is.s_polynomial one.s_polynomial two.s_polynomial in
      let x : ReducesToZero p cmp gs s1 = one_closed s1 one.s_polynomial in
      let y : ReducesToZero p cmp gs s2 = two_closed s2 two.s_polynomial in
      let xs = raised u x.0 in
      let ys = raised w y.0 in
      let reduces : ReducesToZero p cmp gs s = (
        xs ++ ys,
        AreBefore-append (length gs) xs ys (AreBefore-raised (length gs) u x.0 x.1) (AreBefore-raised (length gs) w y.0 y.1),
        (λ z q has.
            let there : (c : ℕ) × (o : Monomial) × IsLeading p cmp (get_or gs z []) c o × (cmp (mono_mul q o) lead ≢ Greater) =
            elim (HasMonomial-append p xs ys z q has) [
              | inl here ↦
                  raised_at_most gs lists s1 one.lists x.0 x.4 x.2 u lead v (below_lead first.lead s1 u lead one.none one.some below) z q here
              | inr here ↦
                  raised_at_most gs lists s2 two.lists y.0 y.4 y.2 w lead t (below_lead second.lead s2 w lead two.none two.some under) z q here
            ] in
            (there.0, there.1, there.2, (top.0, lead, top.1, there.3))),
        (λ q.
            sum q
            ∙ same_sums p (term_product 1 u s1) (combination gs xs) (term_product 1 w s2) (combination gs ys)
            (λ z. same_term_products p 1 u s1 (combination gs x.0) x.3 z ∙ sym (combination-raised p u gs x.0 v lists x.4 z))
            (λ z. same_term_products p 1 w s2 (combination gs y.0) y.3 z ∙ sym (combination-raised p w gs y.0 t lists y.4 z)) q
            ∙ ap (λ ts. coefficient p ts q) (sym (combination-append gs xs ys))),
        AreTermLists-append xs ys (AreTermLists-raised u x.0 v x.4) (AreTermLists-raised w y.0 t y.4),
      ) in
      let closed : IsPairClosed p cmp gs i j = one_s_polynomial_closes p cmp laws gs i j s is.s_polynomial reduces in
      (closed, symmetric_pairs_close p cmp (omega (arith, prime.least)) gs i j (lists i) (lists j) closed)
