-- Pairs of lines that are closed without a reduction: turned round, of one line, of a line that is 0, and by a reduction of
-- another list of the same S-polynomial (Cox, Little and O'Shea, chapter 2, sections 6 and 9).
use Rattle.std.proofs.Common.{◌≡◌, ◌≢◌, ℕ, ◌+◌, ◌-◌, ◌*◌, ◌%◌, ◌<◌, ◌≤◌, List, [], ◌∷◌, ◌++◌, length, get_or, refl, sym, ap, ap₂, ◌∙◌, subst, inl, inr, arith, mod-lt, mod-eq_of_lt, mul-add, add-mul, one-mul, mul-one, mul_left_comm}
use Rattle.std.proofs.Math.Nat.{zero-mod, mul-mod_right, add-mul-mod_self_left}
use Rattle.std.proofs.Math.ListN.{get_or-append}
use Rattle.std.proofs.lemmas.Nat.{mul-mod_second}
use Rattle.std.specs.declared.cmp.Ordering.{Ordering}
use Rattle.ffc_field.specs.Modular.{sub_mod, mul_mod}
use Rattle.ffc_field.proofs.ModularLaws.{mul_mod-zero, sub_mod-self}
use Rattle.ffc_ring.specs.Monomial.{Monomial, IsMonomial, mono_mul, mono_lcm, mono_quotient}
use Rattle.ffc_ring.specs.Polynomial.{Terms, AreTerms, written, coefficient, SamePolynomial, product, term_product, scaled, difference}
use Rattle.ffc_ring.proofs.MonomialLemmas.{one_monomial, IsMonomial-mono_lcm, exponent-mono_lcm}
use Rattle.ffc_ring.proofs.PolynomialLemmas.{weighted, weighted-append, weighted-term_product, weighted-product, SamePolynomial-from_weighted, written-append, written-scaled, coefficient-scaled, coefficient-difference, sum_alike, times_alike, negated_mod, same_sums, same_term_products, monomial_of_coefficient}
use Rattle.ffc_mono.specs.MonomialOrder.{IsMonomialOrder}
use Rattle.ffc_mono.specs.Leading.{IsLeading}
use Rattle.ffc_mono.proofs.LeadingLemmas.{one_leading}
use Rattle.ffc_poly.specs.Ordered.{IsOrdered}
use Rattle.ffc_basis.proofs.OrderedTerms.{AreTerms-ordered, AreTerms-scaled}
use Rattle.ffc_basis.specs.Completion.{IsSPolynomial, ReducesToZero, IsPairClosed}
use Rattle.ffc_line.specs.Lines.{Parts, combination, AreBefore, AreTermLists, HasMonomial}
use Rattle.ffc_basis.specs.Reduction.{IsAtMostLead}

-- ---- numbers modulo p

-- a number and p - 1 times it are p times it
pub whole_times : (p x : ℕ) → 0 < p → x + (p - 1) * x ≡ p * x
whole_times p x h = sym (ap (λ k. k + (p - 1) * x) (one-mul x)) ∙ sym (add-mul 1 (p - 1) x) ∙ ap (λ k. k * x) (omega arith)

-- what is added to both sides may be dropped
pub dropped_mod : (p a b r : ℕ) → 0 < p → (a + r) % p ≡ (b + r) % p → a % p ≡ b % p
dropped_mod p a b r h e =
    let whole : (n : ℕ) → (n + r + (p - 1) * r) % p ≡ n % p =
    λ n. ap (λ k. k % p) (let turned : n + r + (p - 1) * r ≡ n + p * r = omega (arith, whole_times p r h) in turned) ∙ add-mul-mod_self_left n p r in
    sym (whole a) ∙ sum_alike p (a + r) (b + r) ((p - 1) * r) ((p - 1) * r) e refl ∙ whole b

-- the negation of a negation is the number
twice_negated : (p x : ℕ) → 0 < p → ((p - 1) * ((p - 1) * x)) % p ≡ x % p
twice_negated p x h =
    let y = (p - 1) * x in
    let first : (p - 1) * y + y ≡ p * y = omega (arith, whole_times p y h) in
    dropped_mod p ((p - 1) * y) x y h (ap (λ k. k % p) first ∙ mul-mod_right p y ∙ sym (ap (λ k. k % p) (whole_times p x h) ∙ mul-mod_right p x))

-- inverses of one number are the same
pub inverse_only : (p k l c : ℕ) → mul_mod p k c ≡ 1 → mul_mod p l c ≡ 1 → k % p ≡ l % p
inverse_only p k l c e f =
    ap (λ x. x % p) (sym (mul-one k) ∙ ap (λ x. k * x) (sym f)) ∙ mul-mod_second k (l * c) p ∙ ap (λ x. x % p) (mul_left_comm k l c)
    ∙ sym (mul-mod_second l (k * c) p) ∙ ap (λ x. (l * x) % p) e ∙ ap (λ x. x % p) (mul-one l)

-- p - 1 times a coefficient other than 0 is not 0
negated_some : (p d : ℕ) → 0 < d → d < p → mul_mod p (p - 1) d ≢ 0
negated_some p d h g none =
    let is : p - d ≡ 0 = sym (mod-eq_of_lt (let low : p - d < p = omega arith in low)) ∙ ap (λ k. (p - k) % p) (sym (mod-eq_of_lt g)) ∙ sym (negated_mod p d (omega arith)) ∙ none in
    omega arith

-- ---- multiples

-- factors that are the same modulo p
pub same_multiples : (p k l : ℕ) (q : Monomial) (a : Terms) → k % p ≡ l % p → SamePolynomial p (term_product k q a) (term_product l q a)
same_multiples p k l q a e =
    SamePolynomial-from_weighted p (term_product k q a) (term_product l q a)
    (λ g. ap (λ x. x % p) (weighted-term_product g k q a) ∙ times_alike p k l (weighted (λ n. g (mono_mul q n)) a) e
    ∙ ap (λ x. x % p) (sym (weighted-term_product g l q a)))

same_differences : (p : ℕ) (a b c d : Terms) → SamePolynomial p a b → SamePolynomial p c d → SamePolynomial p (difference p a c) (difference p b d)
same_differences p a b c d e f = same_sums p a b (scaled (p - 1) c) (scaled (p - 1) d) e (same_term_products p (p - 1) [] c d f)

-- the negation of a difference is the difference turned round
turned_difference : (p : ℕ) → 0 < p → (a b : Terms) → SamePolynomial p (scaled (p - 1) (difference p a b)) (difference p b a)
turned_difference p h a b m =
    let x = written a m in
    let y = written b m in
    ap (λ k. k % p) (written-scaled (p - 1) (difference p a b) m ∙ ap (λ k. (p - 1) * k) (written-append a (scaled (p - 1) b) m ∙ ap (λ k. x + k) (written-scaled (p - 1) b m)) ∙ mul-add (p - 1) x ((p - 1) * y))
    ∙ sum_alike p ((p - 1) * x) ((p - 1) * x) ((p - 1) * ((p - 1) * y)) y refl (twice_negated p y h)
    ∙ ap (λ k. k % p) (let turned : (p - 1) * x + y ≡ y + (p - 1) * x = omega arith in turned ∙ sym (written-append b (scaled (p - 1) a) m ∙ ap (λ k. y + k) (written-scaled (p - 1) a m)))

negated_back : (p : ℕ) → 0 < p → (a : Terms) → SamePolynomial p (scaled (p - 1) (scaled (p - 1) a)) a
negated_back p h a m =
    ap (λ k. k % p) (written-scaled (p - 1) (scaled (p - 1) a) m ∙ ap (λ k. (p - 1) * k) (written-scaled (p - 1) a m)) ∙ twice_negated p (written a m) h

pub some_of_scaled : (p c : ℕ) (a : Terms) (m : Monomial) → coefficient p (scaled c a) m ≢ 0 → coefficient p a m ≢ 0
some_of_scaled p c a m some none = some (coefficient-scaled p c a m ∙ ap (mul_mod p c) none ∙ mul_mod-zero p c)

-- ---- leading terms

pub leading_same : (p : ℕ) (cmp : Monomial → Monomial → Ordering) (a b : Terms) → SamePolynomial p a b → (c : ℕ) (m : Monomial) → IsLeading p cmp a c m → IsLeading p cmp b c m
leading_same p cmp a b same c m lead = (sym (same m) ∙ lead.0, lead.1, λ n some off. lead.2 n (λ none. some (sym (same n) ∙ none)) off)

pub leading_of_scaled : (p : ℕ) (cmp : Monomial → Monomial → Ordering) (k : ℕ) (a : Terms) (c : ℕ) (m : Monomial) → mul_mod p k c ≢ 0 → IsLeading p cmp a c m → IsLeading p cmp (scaled k a) (mul_mod p k c) m
leading_of_scaled p cmp k a c m some lead = (
  coefficient-scaled p k a m ∙ ap (mul_mod p k) lead.0,
  some,
  λ n found off. lead.2 n (some_of_scaled p k a n found) off,
)

pub at_most_same : (p : ℕ) (cmp : Monomial → Monomial → Ordering) (a b : Terms) → SamePolynomial p a b → (m : Monomial) → IsAtMostLead p cmp a m → IsAtMostLead p cmp b m
at_most_same p cmp a b same m (d, k, lead, low) = (d, k, leading_same p cmp a b same d k lead, low)

at_most_negated : (p : ℕ) (cmp : Monomial → Monomial → Ordering) → 0 < p → (a : Terms) (m : Monomial) → IsAtMostLead p cmp a m → IsAtMostLead p cmp (scaled (p - 1) a) m
at_most_negated p cmp h a m (d, k, lead, low) =
    let below : d < p = subst (λ x. x < p) lead.0 (mod-lt _ h) in
    let positive : 0 < d = omega (arith, lead.1) in
    (mul_mod p (p - 1) d, k, leading_of_scaled p cmp (p - 1) a d k (negated_some p d positive below) lead, low)

-- ---- combinations

-- each part times a constant
abbrev scaled_parts : ℕ → Parts → Parts
scaled_parts c [] = []
scaled_parts c (t ∷ ts) = (t.0, scaled c t.1) ∷ scaled_parts c ts

weighted-scaled_parts : (g : Monomial → ℕ) (c : ℕ) (gs : List Terms) (ts : Parts) → weighted g (combination gs (scaled_parts c ts)) ≡ c * weighted g (combination gs ts)
weighted-scaled_parts g c gs [] = omega arith
weighted-scaled_parts g c gs (t ∷ ts) =
    let b = get_or gs t.0 [] in
    let w : Monomial → ℕ = λ m. weighted (λ n. g (mono_mul m n)) b in
    weighted-append g (product (scaled c t.1) b) (combination gs (scaled_parts c ts))
    ∙ ap₂ ◌+◌ (weighted-product g (scaled c t.1) b ∙ weighted-term_product w c [] t.1 ∙ ap (λ k. c * k) (sym (weighted-product g t.1 b))) (weighted-scaled_parts g c gs ts)
    ∙ sym (mul-add c (weighted g (product t.1 b)) (weighted g (combination gs ts)))
    ∙ ap (λ k. c * k) (sym (weighted-append g (product t.1 b) (combination gs ts)))

combination-scaled : (p c : ℕ) (gs : List Terms) (ts : Parts) → SamePolynomial p (combination gs (scaled_parts c ts)) (scaled c (combination gs ts))
combination-scaled p c gs ts =
    SamePolynomial-from_weighted p (combination gs (scaled_parts c ts)) (scaled c (combination gs ts))
    (λ g. ap (λ k. k % p) (weighted-scaled_parts g c gs ts ∙ sym (weighted-term_product g c [] (combination gs ts))))

AreBefore-scaled : (n c : ℕ) (ts : Parts) → AreBefore n ts → AreBefore n (scaled_parts c ts)
AreBefore-scaled n c [] v = tt
AreBefore-scaled n c (t ∷ ts) v = (v.0, AreBefore-scaled n c ts v.1)

AreTermLists-scaled : (c : ℕ) (ts : Parts) → AreTermLists ts → AreTermLists (scaled_parts c ts)
AreTermLists-scaled c [] v = tt
AreTermLists-scaled c (t ∷ ts) v = (AreTerms-scaled c t.1 v.0, AreTermLists-scaled c ts v.1)

HasMonomial-scaled : (p c : ℕ) (ts : Parts) (i : ℕ) (m : Monomial) → HasMonomial p (scaled_parts c ts) i m → HasMonomial p ts i m
HasMonomial-scaled p c [] i m has = absurd has
HasMonomial-scaled p c (t ∷ ts) i m (inl (here, some)) = inl (here, some_of_scaled p c t.1 m some)
HasMonomial-scaled p c (t ∷ ts) i m (inr there) = inr (HasMonomial-scaled p c ts i m there)

-- a part's line is below the bound
pub part_is_before : (p n : ℕ) (ts : Parts) (i : ℕ) (m : Monomial) → AreBefore n ts → HasMonomial p ts i m → i < n
part_is_before p n [] i m v has = absurd has
part_is_before p n (t ∷ ts) i m v (inl (here, some)) = subst (λ k. k < n) here v.0
part_is_before p n (t ∷ ts) i m v (inr there) = part_is_before p n ts i m v.1 there

-- ---- reductions to zero

-- what reduces to zero does so however its terms are written
pub reduces_same : (p : ℕ) (cmp : Monomial → Monomial → Ordering) (gs : List Terms) (a b : Terms) → SamePolynomial p a b → ReducesToZero p cmp gs a → ReducesToZero p cmp gs b
reduces_same p cmp gs a b same (parts, before, at_most, whole, lists) = (
  parts,
  before,
  (λ i m has. let there = at_most i m has in (there.0, there.1, there.2, at_most_same p cmp a b same (mono_mul m there.1) there.3)),
  (λ m. sym (same m) ∙ whole m),
  lists,
)

-- so does its negation
reduces_negated : (p : ℕ) (cmp : Monomial → Monomial → Ordering) → 0 < p → (gs : List Terms) (a : Terms) → ReducesToZero p cmp gs a → ReducesToZero p cmp gs (scaled (p - 1) a)
reduces_negated p cmp h gs a (parts, before, at_most, whole, lists) = (
  scaled_parts (p - 1) parts,
  AreBefore-scaled (length gs) (p - 1) parts before,
  (λ i m has.
      let there = at_most i m (HasMonomial-scaled p (p - 1) parts i m has) in
      (there.0, there.1, there.2, at_most_negated p cmp h a (mono_mul m there.1) there.3)),
  (λ m. same_term_products p (p - 1) [] a (combination gs parts) whole m ∙ sym (combination-scaled p (p - 1) gs parts m)),
  AreTermLists-scaled (p - 1) parts lists,
)

pub combination-grown : (gs more : List Terms) (ts : Parts) → AreBefore (length gs) ts → combination gs ts ≡ combination (gs ++ more) ts
combination-grown gs more [] v = refl
combination-grown gs more (t ∷ ts) v = ap₂ (λ b r. product t.1 b ++ r) (sym (get_or-append gs more [] t.0 v.0)) (combination-grown gs more ts v.1)

pub AreBefore-grown : (n k : ℕ) (ts : Parts) → n ≤ k → AreBefore n ts → AreBefore k ts
AreBefore-grown n k [] h v = tt
AreBefore-grown n k (t ∷ ts) h v = (omega (arith, v.0), AreBefore-grown n k ts h v.1)

pub length-more : (gs more : List Terms) → length gs ≤ length (gs ++ more)
length-more [] more = omega arith
length-more (g ∷ gs) more = omega (arith, length-more gs more)

-- what reduces to zero by some lines does so by these and more
pub grown_lines_reduce : (p : ℕ) (cmp : Monomial → Monomial → Ordering) (gs more : List Terms) (ts : Terms) → ReducesToZero p cmp gs ts → ReducesToZero p cmp (gs ++ more) ts
grown_lines_reduce p cmp gs more ts (parts, before, at_most, whole, lists) = (
  parts,
  AreBefore-grown (length gs) (length (gs ++ more)) parts (length-more gs more) before,
  (λ i m has.
      let there = at_most i m has in
      let within : i < length gs = part_is_before p (length gs) parts i m before has in
      (there.0, there.1, subst (λ b. IsLeading p cmp b there.0 there.1) (sym (get_or-append gs more [] i within)) there.2, there.3)),
  (λ m. whole m ∙ ap (λ l. coefficient p l m) (combination-grown gs more parts before)),
  lists,
)

-- ---- pairs

-- a pair of lines that is closed stays so where lines are appended
pub grown_pairs_close : (p : ℕ) (cmp : Monomial → Monomial → Ordering) (gs more : List Terms) (i j : ℕ) → i < length gs → j < length gs → IsPairClosed p cmp gs i j → IsPairClosed p cmp (gs ++ more) i j
grown_pairs_close p cmp gs more i j h g closed s is =
    grown_lines_reduce p cmp gs more s
    (closed s
    (subst (λ a. IsSPolynomial p cmp a (get_or gs j []) s) (get_or-append gs more [] i h)
    (subst (λ b. IsSPolynomial p cmp (get_or (gs ++ more) i []) b s) (get_or-append gs more [] j g) is)))

-- the polynomial without terms has no leading monomial
pub nothing_leads_none : (p : ℕ) (cmp : Monomial → Monomial → Ordering) (ts : Terms) → ts ≡ [] → (c : ℕ) (m : Monomial) → IsLeading p cmp ts c m → ⊥
nothing_leads_none p cmp ts none c m lead = lead.1 (sym lead.0 ∙ ap (λ l. coefficient p l m) none ∙ zero-mod p)

pub lcm_commutes : (m n : Monomial) → IsMonomial m → IsMonomial n → mono_lcm m n ≡ mono_lcm n m
lcm_commutes m n v w =
    one_monomial 0 (mono_lcm m n) (mono_lcm n m) (IsMonomial-mono_lcm m n v w) (IsMonomial-mono_lcm n m w v)
    (λ x. omega (arith, exponent-mono_lcm m n v w x, exponent-mono_lcm n m w v x))

-- the negation of an S-polynomial is one of the same polynomials the other way round
turned_s_polynomial : (p : ℕ) (cmp : Monomial → Monomial → Ordering) → 0 < p → (a b s : Terms) → AreTerms a → AreTerms b → IsSPolynomial p cmp a b s → IsSPolynomial p cmp b a (scaled (p - 1) s)
turned_s_polynomial p cmp h a b s v w (c, m, d, n, first, second, k, l, kc, ld, is) =
    let u : IsMonomial m = monomial_of_coefficient p a m v (λ none. first.1 (sym first.0 ∙ none)) in
    let t : IsMonomial n = monomial_of_coefficient p b n w (λ none. second.1 (sym second.0 ∙ none)) in
    let top = mono_lcm m n in
    let x = term_product k (mono_quotient top m) a in
    let y = term_product l (mono_quotient top n) b in (
      d,
      n,
      c,
      m,
      second,
      first,
      l,
      k,
      ld,
      kc,
      subst (λ z. SamePolynomial p (scaled (p - 1) s) (difference p (term_product l (mono_quotient z n) b) (term_product k (mono_quotient z m) a))) (lcm_commutes m n u t)
          (λ q. same_term_products p (p - 1) [] s (difference p x y) is q ∙ turned_difference p h x y q),
    )

-- a pair that is closed is so the other way round, where both lines have monomials
pub symmetric_pairs_close : (p : ℕ) (cmp : Monomial → Monomial → Ordering) → 0 < p → (gs : List Terms) (i j : ℕ) → AreTerms (get_or gs i []) → AreTerms (get_or gs j []) → IsPairClosed p cmp gs i j → IsPairClosed p cmp gs j i
symmetric_pairs_close p cmp h gs i j v w closed s is =
    reduces_same p cmp gs (scaled (p - 1) (scaled (p - 1) s)) s (negated_back p h s)
    (reduces_negated p cmp h gs (scaled (p - 1) s) (closed (scaled (p - 1) s) (turned_s_polynomial p cmp h (get_or gs j []) (get_or gs i []) s w v is)))

-- the same of lines in order, their polynomials given by equations
pub symmetric_lines_close : (p : ℕ) (cmp : Monomial → Monomial → Ordering) (limit : ℕ) → 0 < p → (gs : List Terms) (i j : ℕ) (f g : Terms) → get_or gs i [] ≡ f → get_or gs j [] ≡ g → IsOrdered p cmp limit f → IsOrdered p cmp limit g
    → IsPairClosed p cmp gs i j → IsPairClosed p cmp gs j i
symmetric_lines_close p cmp limit h gs i j f g first second o w closed =
    symmetric_pairs_close p cmp h gs i j (subst AreTerms (sym first) (AreTerms-ordered p cmp limit f o)) (subst AreTerms (sym second) (AreTerms-ordered p cmp limit g w)) closed

-- two multiples by inverses of one leading coefficient, subtracted from one another, are 0
same_s_polynomial_is_zero : (p : ℕ) → 0 < p → (a s : Terms) (k l c : ℕ) (q : Monomial) → mul_mod p k c ≡ 1 → mul_mod p l c ≡ 1 → SamePolynomial p s (difference p (term_product k q a) (term_product l q a)) → SamePolynomial p s []
same_s_polynomial_is_zero p h a s k l c q kc lc is m =
    let b = term_product l q a in
    is m ∙ coefficient-difference p h (term_product k q a) b m
    ∙ ap (λ x. sub_mod p x (coefficient p b m)) (same_multiples p k l q a (inverse_only p k l c kc lc) m)
    ∙ sub_mod-self p (coefficient p b m) (let low : coefficient p b m < p = mod-lt _ h in omega arith) ∙ sym (zero-mod p)

-- the S-polynomial of a line with itself is 0
pub same_line_closes : (p : ℕ) (cmp : Monomial → Monomial → Ordering) → IsMonomialOrder cmp → 0 < p → (gs : List Terms) (i : ℕ) → IsPairClosed p cmp gs i i
same_line_closes p cmp laws h gs i s (c, m, d, n, first, second, k, l, kc, ld, is) =
    let a = get_or gs i [] in
    let one = one_leading cmp laws p a c d m n first second in
    let lc : mul_mod p l c ≡ 1 = ap (mul_mod p l) one.0 ∙ ld in
    let alike : SamePolynomial p s (difference p (term_product k (mono_quotient (mono_lcm m n) m) a) (term_product l (mono_quotient (mono_lcm m n) m) a)) =
    subst (λ x. SamePolynomial p s (difference p (term_product k (mono_quotient (mono_lcm m n) m) a) (term_product l (mono_quotient (mono_lcm m n) x) a))) (sym one.1) is in
    ([], tt, (λ _ _ has. absurd has), same_s_polynomial_is_zero p h a s k l c (mono_quotient (mono_lcm m n) m) kc lc alike, tt)

-- two S-polynomials of the same polynomials are the same polynomial
pub one_s_polynomial : (p : ℕ) (cmp : Monomial → Monomial → Ordering) → IsMonomialOrder cmp → (a b s t : Terms) → IsSPolynomial p cmp a b s → IsSPolynomial p cmp a b t → SamePolynomial p s t
one_s_polynomial p cmp laws a b s t (c, m, d, n, first, second, k, l, kc, ld, is) (e, u, f, v, third, fourth, x, y, xe, yf, as_well) =
    let one = one_leading cmp laws p a c e m u first third in
    let two = one_leading cmp laws p b d f n v second fourth in
    let xc : mul_mod p x c ≡ 1 = ap (mul_mod p x) one.0 ∙ xe in
    let yd : mul_mod p y d ≡ 1 = ap (mul_mod p y) two.0 ∙ yf in
    let over = mono_quotient (mono_lcm m n) m in
    let under = mono_quotient (mono_lcm m n) n in
    let other : SamePolynomial p t (difference p (term_product x over a) (term_product y under b)) =
    subst (λ z. SamePolynomial p t (difference p (term_product x (mono_quotient (mono_lcm z n) z) a) (term_product y (mono_quotient (mono_lcm z n) n) b))) (sym one.1)
    (subst (λ z. SamePolynomial p t (difference p (term_product x (mono_quotient (mono_lcm u z) u) a) (term_product y (mono_quotient (mono_lcm u z) z) b))) (sym two.1) as_well) in
    λ z.
    is z
    ∙ same_differences p (term_product k over a) (term_product x over a) (term_product l under b) (term_product y under b)
    (same_multiples p k x over a (inverse_only p k x c kc xc)) (same_multiples p l y under b (inverse_only p l y d ld yd)) z
    ∙ sym (other z)

-- so a pair is closed where one S-polynomial of it reduces to zero
pub one_s_polynomial_closes : (p : ℕ) (cmp : Monomial → Monomial → Ordering) → IsMonomialOrder cmp → (gs : List Terms) (i j : ℕ) (s : Terms) → IsSPolynomial p cmp (get_or gs i []) (get_or gs j []) s → ReducesToZero p cmp gs s → IsPairClosed p cmp gs i j
one_s_polynomial_closes p cmp laws gs i j s is reduces t other =
    reduces_same p cmp gs s t (one_s_polynomial p cmp laws (get_or gs i []) (get_or gs j []) s t is other) reduces
