-- Of two multiples with one top, the one is a multiple of the other's line and multiples with lower tops: their S-polynomial,
-- which is a sum of multiples below the least common multiple, multiplied by a term (Cox, Little and O'Shea, chapter 2, section 6, lemma 5 and theorem 6).
use Rattle.std.proofs.Common.{◌≡◌, ℕ, ◌+◌, ◌-◌, ◌*◌, ◌%◌, ◌<◌, List, [], ◌∷◌, ◌++◌, get_or, refl, sym, ap, ap₂, ◌∙◌, subst, inl, inr, arith, mod-lt, mod-eq_of_lt, mul_assoc, one-mul}
use Rattle.std.proofs.Math.Nat.{zero-mod, mul-mod_right}
use Rattle.std.proofs.lemmas.Bool.{cases_eq}
use Rattle.std.specs.List.{AllByRecursion}
use Rattle.std.specs.declared.cmp.Ordering.{Ordering}
use Rattle.std.specs.declared.cmp.Ordering.TheVariants.{Greater}
use Rattle.ffc_field.specs.Modular.{IsPrime, mul_mod, pow_mod}
use Rattle.ffc_field.proofs.ModularLaws.{mul_mod-comm, mul_mod-zero_first}
use Rattle.ffc_field.proofs.Primes.{inverse_residue}
use Rattle.ffc_ring.specs.Monomial.{Monomial, IsMonomial, exponent, mono_mul, mono_lcm, mono_quotient, Divides}
use Rattle.ffc_ring.specs.Polynomial.{Terms, AreTerms, written, coefficient, SamePolynomial, term_product, scaled, difference}
use Rattle.ffc_ring.specs.Counting.{IsIn}
use Rattle.ffc_ring.proofs.MonomialLemmas.{one_monomial, IsMonomial-mono_mul, exponent-mono_mul, mono_mul_comm, mono_mul_assoc, mono_mul-mono_quotient, IsMonomialFrom-mono_quotient, exponent-mono_quotient, IsMonomial-mono_lcm, first_divides_lcm, second_divides_lcm, lcm_divides}
use Rattle.ffc_ring.proofs.PolynomialLemmas.{weighted, one_at, sum_alike, times_alike, written-append, same_term_products, monomial_of_coefficient}
use Rattle.ffc_mono.specs.MonomialOrder.{IsMonomialOrder}
use Rattle.ffc_mono.specs.Leading.{IsLeading}
use Rattle.ffc_mono.proofs.LeadingLemmas.{one_leading}
use Rattle.ffc_line.specs.Lines.{AreLists}
use Rattle.ffc_basis.specs.Representations.{IsPairRepresented}
use Rattle.ffc_basis.proofs.Each.{each_both}
use Rattle.ffc_basis.proofs.Multiples.{Multiple, top, polynomial, sum_of, IsMultiple, HasVariables, IsBelow, IsOfParts, written-term_product, more_variables, variables_of_all, lead_is_monomial, multiples_of}
use Rattle.ffc_basis.proofs.Variables.{AreAmong, in_product, in_quotient}

-- ---- multiples of multiples

term_product-append : (c : ℕ) (m : Monomial) (a b : Terms) → term_product c m (a ++ b) ≡ term_product c m a ++ term_product c m b
term_product-append c m [] b = refl
term_product-append c m (t ∷ a) b = ap (λ l. (c * t.0, mono_mul m t.1) ∷ l) (term_product-append c m a b)

pub term_product-twice : (c d : ℕ) (m n : Monomial) (ts : Terms) → IsMonomial m → IsMonomial n → AreTerms ts → term_product c m (term_product d n ts) ≡ term_product (c * d) (mono_mul m n) ts
term_product-twice c d m n [] v w u = refl
term_product-twice c d m n (t ∷ ts) v w u =
    ap₂ ◌∷◌ (ap₂ (λ (k : ℕ) (q : Monomial). (k, q)) (sym (mul_assoc c d t.0)) (sym (mono_mul_assoc m n t.1 v w u.0)))
    (term_product-twice c d m n ts v w u.1)

-- a multiple times a term
abbrev raised : ℕ → Monomial → Multiple → Multiple
raised c m t = record {
  line = t.line;
  factor = c * t.factor;
  monomial = mono_mul m t.monomial;
  coefficient = t.coefficient;
  lead = t.lead;
}

abbrev all_raised : ℕ → Monomial → List Multiple → List Multiple
all_raised c m [] = []
all_raised c m (t ∷ ts) = raised c m t ∷ all_raised c m ts

-- ---- numbers modulo p

-- the two sums of multiples differ by a multiple of p and the product of two inverses
gathered : (q e d k l a b : ℕ) → e * d * l * a + (e * d * k * b + e * d * (q * l) * a) ≡ k * d * (e * b) + (1 + q) * (e * d * l * a)
gathered q e d k l a b = grind arith

exchanged : (p e d k l a b : ℕ) → 0 < p → mul_mod p k d ≡ 1 % p → (e * b) % p ≡ (e * d * l * a + (e * d * k * b + e * d * ((p - 1) * l) * a)) % p
exchanged p e d k l a b h inverse =
    let whole : e * d * l * a + (e * d * k * b + e * d * ((p - 1) * l) * a) ≡ k * d * (e * b) + p * (e * d * l * a) =
    gathered (p - 1) e d k l a b ∙ ap (λ n. k * d * (e * b) + n * (e * d * l * a)) (let is : 1 + (p - 1) ≡ p = omega arith in is) in
    sym
    (ap (λ n. n % p) whole
    ∙ sum_alike p (k * d * (e * b)) (1 * (e * b)) (p * (e * d * l * a)) 0 (times_alike p (k * d) 1 (e * b) inverse) (mul-mod_right p (e * d * l * a) ∙ sym (zero-mod p))
    ∙ ap (λ n. n % p) (let one_is : 1 * (e * b) + 0 ≡ e * b = omega (arith, one-mul (e * b)) in one_is))

-- ---- monomials

-- the common multiple of two monomials times what makes it a multiple of both
quotient_of_multiple : (low m n v : Monomial) → IsMonomial low → IsMonomial m → IsMonomial n → IsMonomial v → mono_mul v n ≡ m → Divides low m → Divides n low → mono_mul (mono_quotient m low) (mono_quotient low n) ≡ v
quotient_of_multiple low m n v lm mm nm vm is divides under =
    let x = mono_quotient m low in
    let y = mono_quotient low n in
    let xm : IsMonomial x = IsMonomialFrom-mono_quotient 0 m low mm in
    let ym : IsMonomial y = IsMonomialFrom-mono_quotient 0 low n lm in
    one_monomial 0 (mono_mul x y) v (IsMonomial-mono_mul x y xm ym) vm
    (λ i. omega (arith, exponent-mono_mul x y xm ym i, exponent-mono_quotient 0 m low i mm, exponent-mono_quotient 0 low n i lm, exponent-mono_mul v n vm nm i, ap (λ k. exponent k i) is, divides i, under i))

pub factor_divides : (v n m : Monomial) → IsMonomial v → IsMonomial n → mono_mul v n ≡ m → Divides n m
factor_divides v n m vm nm is i = omega (arith, exponent-mono_mul v n vm nm i, ap (λ k. exponent k i) is)

-- ---- S-polynomials

-- the S-polynomial of a and b, with the leading terms c*m and d*n, for these inverses of c and d
abbrev pub s_polynomial : ℕ → Terms → Terms → Monomial → Monomial → ℕ → ℕ → Terms
s_polynomial p a b m n k l =
    difference p (term_product k (mono_quotient (mono_lcm m n) m) a) (term_product l (mono_quotient (mono_lcm m n) n) b)

-- The S-polynomial of two lines is a sum of multiples of lines in these variables, whose tops are below the least common multiple
-- of both leading monomials.
pub record IsReplaced (p : ℕ) (cmp : Monomial → Monomial → Ordering) (gs : List Terms) (vs : List ℕ) (i j c : ℕ) (m : Monomial) (d : ℕ) (n : Monomial) : Type 0 where
  pub k : ℕ
  pub l : ℕ
  pub k_inverse : mul_mod p k c ≡ 1
  pub l_inverse : mul_mod p l d ≡ 1
  pub multiples : List Multiple
  pub are : AllByRecursion (IsMultiple p cmp gs) multiples
  pub variables : AllByRecursion (HasVariables vs) multiples
  pub below : AllByRecursion (IsBelow cmp (mono_lcm m n)) multiples
  pub sum : SamePolynomial p (s_polynomial p (get_or gs i []) (get_or gs j []) m n k l) (sum_of gs multiples)

pub replaced_in_more : (p : ℕ) (cmp : Monomial → Monomial → Ordering) (gs : List Terms) (vs ws : List ℕ) (i j c : ℕ) (m : Monomial) (d : ℕ) (n : Monomial) → AreAmong vs ws → IsReplaced p cmp gs vs i j c m d n → IsReplaced p cmp gs ws i j c m d n
replaced_in_more p cmp gs vs ws i j c m d n among r = record {
  k = r.k;
  l = r.l;
  k_inverse = r.k_inverse;
  l_inverse = r.l_inverse;
  multiples = r.multiples;
  are = r.are;
  variables = more_variables vs ws r.multiples among r.variables;
  below = r.below;
  sum = r.sum;
}

module _ (p : ℕ) (prime : IsPrime p) (cmp : Monomial → Monomial → Ordering) (laws : IsMonomialOrder cmp) (gs : List Terms) (lists : AreLists gs) where
  positive : 0 < p
  positive = omega (arith, prime.least)

  -- the inverse of a leading coefficient
  inverse : (ts : Terms) (c : ℕ) (m : Monomial) → IsLeading p cmp ts c m → (k : ℕ) × (k < p) × (mul_mod p k c ≡ 1)
  inverse ts c m leads =
      let low : c < p = subst (λ x. x < p) leads.0 (mod-lt _ positive) in
      let k = pow_mod p c (p - 2) in
      (k, mod-lt _ positive, mul_mod-comm p k c ∙ inverse_residue p c prime low leads.1)

  inverse_is_some : (k c : ℕ) → mul_mod p k c ≡ 1 → 0 < k
  inverse_is_some k c is =
      elim (cases_eq k 0) [
        | inl none ↦
            let nothing : 0 ≡ 1 = sym (mul_mod-zero_first p c) ∙ ap (λ x. mul_mod p x c) (sym none) ∙ is in
            absurd (omega (arith, nothing))
        | inr some ↦ omega (arith, some)
      ]

  lead_monomial : (i c : ℕ) (m : Monomial) → IsLeading p cmp (get_or gs i []) c m → IsMonomial m
  lead_monomial i c m leads = monomial_of_coefficient p (get_or gs i []) m (lists i) (λ none. leads.1 (sym leads.0 ∙ none))

  quotient_times : (low m : Monomial) → IsMonomial low → IsMonomial m → Divides m low → mono_mul (mono_quotient low m) m ≡ low
  quotient_times low m v w divides =
      mono_mul_comm (mono_quotient low m) m (IsMonomialFrom-mono_quotient 0 low m v) w ∙ mono_mul-mono_quotient low m v w divides

  module _ (i j c : ℕ) (m : Monomial) (d : ℕ) (n : Monomial) (first : IsLeading p cmp (get_or gs i []) c m) (second : IsLeading p cmp (get_or gs j []) d n) where
    abbrev low : Monomial
    low = mono_lcm m n

    abbrev a : Terms
    a = get_or gs i []

    abbrev b : Terms
    b = get_or gs j []

    m_monomial : IsMonomial m
    m_monomial = lead_monomial i c m first

    n_monomial : IsMonomial n
    n_monomial = lead_monomial j d n second

    low_monomial : IsMonomial low
    low_monomial = IsMonomial-mono_lcm m n m_monomial n_monomial

    -- the S-polynomial by the list of multiples that it is the sum of
    pub replaced : IsPairRepresented p cmp gs i j → (vs : List ℕ) × IsReplaced p cmp gs vs i j c m d n
    replaced represented =
        let (k, kp, kc) = inverse a c m first in
        let (l, lp, ld) = inverse b d n second in
        let s = s_polynomial p a b m n k l in
        let (parts, before, under, same, terms) = represented c m d n first second s (c, m, d, n, first, second, k, l, kc, ld, (λ _. refl)) in
        let (ts, are, of, sum) = multiples_of cmp laws p gs lists parts before terms in
        let (vs, variables) = variables_of_all ts in
        let is_below : (t : Multiple) → IsMultiple p cmp gs t → IsOfParts cmp laws p gs lists parts t → IsBelow cmp low t = λ t v has.
        let (e, q, leads, lower) = under t.line t.monomial has in
        let q_is : q ≡ t.lead = (one_leading cmp laws p (get_or gs t.line []) e t.coefficient q t.lead leads v.leads).1 in
        subst (λ x. cmp low (mono_mul t.monomial x) ≡ Greater) q_is lower in (
          vs,
          record {
            k = k;
            l = l;
            k_inverse = kc;
            l_inverse = ld;
            multiples = ts;
            are = are;
            variables = variables;
            below = each_both (IsMultiple p cmp gs) (IsOfParts cmp laws p gs lists parts) (IsBelow cmp low) is_below ts are of;
            sum = λ z. same z ∙ sum z;
          },
        )

  -- ---- multiples of an S-polynomial

  sum_of-raised : (e : ℕ) (x : Monomial) → IsMonomial x → (ts : List Multiple) → AllByRecursion (IsMultiple p cmp gs) ts → sum_of gs (all_raised e x ts) ≡ term_product e x (sum_of gs ts)
  sum_of-raised e x v [] w = refl
  sum_of-raised e x v (t ∷ ts) w =
      ap₂ ◌++◌ (sym (term_product-twice e t.factor x t.monomial (get_or gs t.line []) v w.0.monomial (lists t.line))) (sum_of-raised e x v ts w.1)
      ∙ sym (term_product-append e x (polynomial gs t) (sum_of gs ts))

  -- a term times what is below a monomial is below the product
  raised_below : (x low : Monomial) → IsMonomial x → IsMonomial low → (t : Multiple) (e : ℕ) → IsMultiple p cmp gs t → IsBelow cmp low t → IsBelow cmp (mono_mul low x) (raised e x t)
  raised_below x low v w t e is below =
      let u : IsMonomial t.lead = lead_is_monomial cmp laws p gs lists t is in
      let s : IsMonomial (top t) = IsMonomial-mono_mul t.monomial t.lead is.monomial u in
      ap (cmp (mono_mul low x)) (mono_mul_assoc x t.monomial t.lead v is.monomial u ∙ mono_mul_comm x (top t) v s) ∙ laws.kept low (top t) x w s v ∙ below

  -- a multiple in these variables whose top is below a monomial
  abbrev pub IsLower : List ℕ → Monomial → Multiple → Type 0
  IsLower vs m t = IsMultiple p cmp gs t × HasVariables vs t × IsBelow cmp m t

  all_lower : (vs : List ℕ) (x base m : Monomial) (e : ℕ) → IsMonomial x → IsMonomial base → IsIn vs x → mono_mul base x ≡ m → (ts : List Multiple)
      → AllByRecursion (IsMultiple p cmp gs) ts → AllByRecursion (HasVariables vs) ts → AllByRecursion (IsBelow cmp base) ts → AllByRecursion (IsLower vs m) (all_raised e x ts)
  all_lower vs x base m e v w in_x is [] are variables below = tt
  all_lower vs x base m e v w in_x is (t ∷ ts) are variables below = (
    (
      record { within = are.0.within; monomial = IsMonomial-mono_mul x t.monomial v are.0.monomial; leads = are.0.leads },
      (in_product vs x t.monomial v are.0.monomial in_x variables.0.0, variables.0.1),
      subst (λ y. IsBelow cmp y (raised e x t)) is (raised_below x base v w t e are.0 below.0),
    ),
    all_lower vs x base m e v w in_x is ts are.1 variables.1 below.1,
  )

  -- The multiple of a line by e*v is one of another line by the monomial u, and multiples with lower tops.
  module _ (vs : List ℕ) (t s : Multiple) (is_t : IsMultiple p cmp gs t) (is_s : IsMultiple p cmp gs s) (m : Monomial) (t_at : top t ≡ m) (s_at : top s ≡ m) (in_m : IsIn vs m)
      (r : IsReplaced p cmp gs vs t.line s.line t.coefficient t.lead s.coefficient s.lead) where
    abbrev lcm : Monomial
    lcm = mono_lcm t.lead s.lead

    abbrev x : Monomial
    x = mono_quotient m lcm

    abbrev e : ℕ
    e = t.factor * t.coefficient

    abbrev g : Terms
    g = get_or gs t.line []

    abbrev h : Terms
    h = get_or gs s.line []

    t_lead : IsMonomial t.lead
    t_lead = lead_is_monomial cmp laws p gs lists t is_t

    s_lead : IsMonomial s.lead
    s_lead = lead_is_monomial cmp laws p gs lists s is_s

    lcm_monomial : IsMonomial lcm
    lcm_monomial = IsMonomial-mono_lcm t.lead s.lead t_lead s_lead

    m_is_monomial : IsMonomial m
    m_is_monomial = subst IsMonomial t_at (IsMonomial-mono_mul t.monomial t.lead is_t.monomial t_lead)

    x_monomial : IsMonomial x
    x_monomial = IsMonomialFrom-mono_quotient 0 m lcm m_is_monomial

    divides : Divides lcm m
    divides =
        lcm_divides t.lead s.lead m t_lead s_lead (factor_divides t.monomial t.lead m is_t.monomial t_lead t_at) (factor_divides s.monomial s.lead m is_s.monomial s_lead s_at)

    -- the S-polynomial times e*x
    raised_s_polynomial : term_product e x (s_polynomial p g h t.lead s.lead r.k r.l) ≡ term_product (e * r.k) t.monomial g ++ term_product (e * ((p - 1) * r.l)) s.monomial h
    raised_s_polynomial =
        let y = mono_quotient lcm t.lead in
        let z = mono_quotient lcm s.lead in
        let ym : IsMonomial y = IsMonomialFrom-mono_quotient 0 lcm t.lead lcm_monomial in
        let zm : IsMonomial z = IsMonomialFrom-mono_quotient 0 lcm s.lead lcm_monomial in
        let at_t : mono_mul x y ≡ t.monomial =
        quotient_of_multiple lcm m t.lead t.monomial lcm_monomial m_is_monomial t_lead is_t.monomial t_at divides (first_divides_lcm t.lead s.lead t_lead s_lead) in
        let at_s : mono_mul x z ≡ s.monomial =
        quotient_of_multiple lcm m s.lead s.monomial lcm_monomial m_is_monomial s_lead is_s.monomial s_at divides (second_divides_lcm t.lead s.lead t_lead s_lead) in
        term_product-append e x (term_product r.k y g) (scaled (p - 1) (term_product r.l z h))
        ∙ ap₂ ◌++◌
        (term_product-twice e r.k x y g x_monomial ym (lists t.line) ∙ ap (λ q. term_product (e * r.k) q g) at_t)
        (ap (term_product e x) (term_product-twice (p - 1) r.l [] z h tt zm (lists s.line))
        ∙ term_product-twice e ((p - 1) * r.l) x z h x_monomial zm (lists s.line) ∙ ap (λ q. term_product (e * ((p - 1) * r.l)) q h) at_s)

    one_left : 1 % p ≡ 1
    one_left = mod-eq_of_lt (omega (arith, prime.least))

    same_sum : SamePolynomial p (polynomial gs t) (term_product (e * r.l) s.monomial h ++ sum_of gs (all_raised e x r.multiples))
    same_sum z =
        let under = weighted (λ n. one_at z (mono_mul s.monomial n)) h in
        let over = weighted (λ n. one_at z (mono_mul t.monomial n)) g in
        let own = term_product (e * r.l) s.monomial h in
        let rest : coefficient p (sum_of gs (all_raised e x r.multiples)) z ≡ (e * r.k * over + e * ((p - 1) * r.l) * under) % p =
        ap (λ l. coefficient p l z) (sum_of-raised e x x_monomial r.multiples r.are)
        ∙ sym (same_term_products p e x (s_polynomial p g h t.lead s.lead r.k r.l) (sum_of gs r.multiples) r.sum z)
        ∙ ap (λ l. coefficient p l z) raised_s_polynomial
        ∙ ap (λ k. k % p)
        (written-append (term_product (e * r.k) t.monomial g) (term_product (e * ((p - 1) * r.l)) s.monomial h) z
        ∙ ap₂ ◌+◌ (written-term_product (e * r.k) t.monomial g z) (written-term_product (e * ((p - 1) * r.l)) s.monomial h z)) in
        ap (λ k. k % p) (written-term_product t.factor t.monomial g z)
        ∙ exchanged p t.factor t.coefficient r.k r.l under over positive (r.k_inverse ∙ sym one_left)
        ∙ sum_alike p (e * r.l * under) (written own z) (e * r.k * over + e * ((p - 1) * r.l) * under) (written (sum_of gs (all_raised e x r.multiples)) z)
        (ap (λ k. k % p) (sym (written-term_product (e * r.l) s.monomial h z))) (sym rest)
        ∙ ap (λ k. k % p) (sym (written-append own (sum_of gs (all_raised e x r.multiples)) z))

    pub exchange : (f : ℕ) × (lower : List Multiple) × AllByRecursion (IsLower vs m) lower × SamePolynomial p (polynomial gs t) (term_product f s.monomial h ++ sum_of gs lower)
    exchange = (
      e * r.l,
      all_raised e x r.multiples,
      all_lower vs x lcm m e x_monomial lcm_monomial (in_quotient vs m lcm m_is_monomial in_m) (mono_mul-mono_quotient m lcm m_is_monomial lcm_monomial divides) r.multiples r.are r.variables r.below,
      same_sum,
    )
