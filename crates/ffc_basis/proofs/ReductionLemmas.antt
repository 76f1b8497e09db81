-- A step of a reduction.
use Rattle.std.proofs.Common.{◌≡◌, ◌≢◌, ◌⊎◌, ℕ, zero, suc, ◌+◌, ◌-◌, ◌*◌, ◌%◌, ◌<◌, ◌≤◌, List, [], ◌∷◌, ◌++◌, length, get_or, refl, sym, ap, ap₂, ◌∙◌, subst, inl, inr, arith, append-nil, add-mul, one-mul, mod-lt}
use Rattle.std.proofs.Math.Nat.{zero-mod, add-mod_right}
use Rattle.std.proofs.lemmas.Nat.{mul-mod_first}
use Rattle.std.proofs.lemmas.Bool.{cases_eq, cases_order}
use Rattle.std.specs.declared.cmp.Ordering.{Ordering}
use Rattle.std.specs.declared.cmp.Ordering.TheVariants.{Greater}
use Rattle.ffc_field.specs.Modular.{IsPrime, sub_mod, mul_mod}
use Rattle.ffc_field.proofs.ModularLaws.{sub_mod-zero, mul_mod-zero_first, sub_mod-self}
use Rattle.ffc_ring.specs.Monomial.{Monomial, IsMonomial, exponent, degree, mono_mul}
use Rattle.ffc_ring.specs.Counting.{IsIn}
use Rattle.ffc_ring.specs.Polynomial.{Terms, AreTerms, written, coefficient, SamePolynomial, term_product, scaled, difference, PassesDegree, PassesTerms}
use Rattle.ffc_ring.proofs.MonomialLemmas.{mono_mul_comm, IsMonomial-mono_mul, exponent-mono_mul}
use Rattle.ffc_ring.proofs.PolynomialLemmas.{cases_monomial, written-append, written-scaled, coefficient-difference, sum_alike, monomial_of_coefficient, shifted_monomial}
use Rattle.ffc_mono.specs.MonomialOrder.{IsMonomialOrder}
use Rattle.ffc_mono.specs.Leading.{IsLeading}
use Rattle.ffc_mono.specs.Graded.{IsGradedIn}
use Rattle.ffc_mono.proofs.LeadingLemmas.{greater_trans, not_itself, leading_at_most, leading_of_multiple}
use Rattle.ffc_poly.specs.Ordered.{IsAbove, IsOrdered}
use Rattle.ffc_basis.proofs.OrderedTerms.{AreTerms-ordered, IsOrdered-at, coefficient-none, coefficient-other, coefficient-above, coefficient-first, first_nonzero, IsLeading-first}
use Rattle.ffc_line.specs.Lines.{Parts, combination, IsPolynomial}
use Rattle.ffc_basis.specs.Records.{AreOfDifferentLines}
use Rattle.ffc_basis.specs.Remainders.{IsRemainder, IsRecordedReduction}
use Rattle.ffc_basis.specs.Units.{AreInVariables, IsUpTo}
use Rattle.ffc_basis.specs.Reduction.{IsIrreducible, IsReduced, IsAtMostLead, IsStep, AreIrreducible, SameFirst, IsCancelled, IsRecorded, IsStopped, PassesLimit}

-- ---- sums modulo p

self_mod : (p : ℕ) → p % p ≡ 0
self_mod p =
    let e : (0 + p) % p ≡ 0 % p = add-mod_right 0 p in
    let same : p ≡ 0 + p = omega arith in
    ap (λ k. k % p) same ∙ e ∙ zero-mod p

cancelled : (p x y : ℕ) → 0 < p → (x + (y + (p - 1) * y)) % p ≡ x % p
cancelled p x y h =
    let product : y + (p - 1) * y ≡ p * y = sym (ap (λ k. k + (p - 1) * y) (one-mul y)) ∙ sym (add-mul 1 (p - 1) y) ∙ ap (λ k. k * y) (omega arith) in
    let none : (p * y) % p ≡ 0 % p = sym (mul-mod_first p y p) ∙ ap (λ k. (k * y) % p) (self_mod p) ∙ ap (λ k. k % p) (omega arith) in
    ap (λ k. (x + k) % p) product ∙ sum_alike p x x (p * y) 0 refl none ∙ ap (λ k. k % p) (omega arith)

-- what is left and the parts' sum, after a multiple is subtracted and recorded
pub whole_after : (p : ℕ) → 0 < p → (poly rest next old new multiple : Terms) → SamePolynomial p poly (rest ++ old) → SamePolynomial p next (difference p rest multiple) → SamePolynomial p new (old ++ multiple) → SamePolynomial p poly (next ++ new)
whole_after p h poly rest next old new multiple whole left more m =
    let r = written rest m in
    let o = written old m in
    let t = written multiple m in
    let n = written next m in
    let w = written new m in
    let subtracted : n % p ≡ (r + (p - 1) * t) % p = left m ∙ ap (λ k. k % p) (written-append rest (scaled (p - 1) multiple) m ∙ ap (λ k. r + k) (written-scaled (p - 1) multiple m)) in
    let added : w % p ≡ (o + t) % p = more m ∙ ap (λ k. k % p) (written-append old multiple m) in
    whole m
    ∙ ap (λ k. k % p) (written-append rest old m)
    ∙ sym (cancelled p (r + o) t h)
    ∙ ap (λ k. k % p) (let turned : r + o + (t + (p - 1) * t) ≡ r + (p - 1) * t + (o + t) = omega arith in turned)
    ∙ sym (sum_alike p n (r + (p - 1) * t) w (o + t) subtracted added)
    ∙ ap (λ k. k % p) (sym (written-append next new m))

-- so what is left is the polynomial minus the parts' sum
pub rest_is_difference : (p : ℕ) → 0 < p → (poly rest parts : Terms) → SamePolynomial p poly (rest ++ parts) → SamePolynomial p rest (difference p poly parts)
rest_is_difference p h poly rest parts whole m =
    let r = written rest m in
    let o = written parts m in
    sym (cancelled p r o h)
    ∙ ap (λ k. k % p) (let turned : r + (o + (p - 1) * o) ≡ r + o + (p - 1) * o = omega arith in turned)
    ∙ sum_alike p (r + o) (written poly m) ((p - 1) * o) ((p - 1) * o) (sym (whole m ∙ ap (λ k. k % p) (written-append rest parts m))) refl
    ∙ ap (λ k. k % p) (sym (written-append poly (scaled (p - 1) parts) m ∙ ap (λ k. written poly m + k) (written-scaled (p - 1) parts m)))

-- ---- places of terms

-- a monomial with a coefficient other than 0 is that of a term
pub place_of_monomial : (p : ℕ) (ts : Terms) (m : Monomial) → coefficient p ts m ≢ 0 → (j : ℕ) × (j < length ts) × ((get_or ts j (0, [])).1 ≡ m)
place_of_monomial p [] m some = absurd (some (coefficient-none p m))
place_of_monomial p (t ∷ ts) m some =
    elim (cases_monomial t.1 m) [
      | inl here ↦ (0, omega arith, here)
      | inr other ↦
          let there = place_of_monomial p ts m (λ none. some (coefficient-other p t ts m other ∙ none)) in
          (suc there.0, omega (arith, there.1), there.2)
    ]

-- irreducible terms make a reduced polynomial
pub reduced_from_terms : (p : ℕ) (cmp : Monomial → Monomial → Ordering) (gs : List Terms) (ts : Terms) (place : ℕ) → length ts ≤ place → AreIrreducible p cmp gs ts place → IsReduced p cmp gs ts
reduced_from_terms p cmp gs ts place h all m some =
    let there = place_of_monomial p ts m some in
    subst (IsIrreducible p cmp gs) there.2 (all there.0 (omega (arith, there.1, h)))

module _ (p : ℕ) (prime : IsPrime p) (cmp : Monomial → Monomial → Ordering) (laws : IsMonomialOrder cmp) (limit : ℕ) where
  above_at : (m : Monomial) (ts : Terms) (j : ℕ) → IsAbove cmp m ts → j < length ts → cmp m (get_or ts j (0, [])).1 ≡ Greater
  above_at m [] j v h = absurd (omega arith)
  above_at m (t ∷ ts) zero v h = v.0
  above_at m (t ∷ ts) (suc j) v h = above_at m ts j v.1 (omega arith)

  pub coefficient-at : (ts : Terms) (j : ℕ) → IsOrdered p cmp limit ts → j < length ts → coefficient p ts (get_or ts j (0, [])).1 ≡ (get_or ts j (0, [])).0
  coefficient-at [] j o h = absurd (omega arith)
  coefficient-at (t ∷ ts) zero o h = coefficient-first p cmp laws limit t ts o
  coefficient-at (t ∷ ts) (suc j) o h =
      coefficient-other p t ts (get_or ts j (0, [])).1 (not_itself cmp laws t.1 (get_or ts j (0, [])).1 (above_at t.1 ts j o.4 (omega arith)))
      ∙ coefficient-at ts j o.5 (omega arith)

  pub some_at : (ts : Terms) (j : ℕ) → IsOrdered p cmp limit ts → j < length ts → coefficient p ts (get_or ts j (0, [])).1 ≢ 0
  some_at ts j o h none = omega (arith, (IsOrdered-at p cmp limit ts j o h).0, coefficient-at ts j o h, none)

  nonzero_at : (ts : Terms) (j : ℕ) → IsOrdered p cmp limit ts → j < length ts → (get_or ts j (0, [])).0 ≢ 0
  nonzero_at ts j o h none = omega (arith, (IsOrdered-at p cmp limit ts j o h).0, none)

  -- nothing is above itself, nor both above and below
  no_circle : (m k : Monomial) → cmp m k ≡ Greater → cmp k m ≡ Greater → ⊥
  no_circle m k e f = not_itself cmp laws m m (greater_trans cmp laws m k m e f) refl

  -- each monomial is at most the leading one
  at_most_lead : (ts : Terms) (d : ℕ) (k m : Monomial) → IsLeading p cmp ts d k → coefficient p ts m ≢ 0 → cmp m k ≢ Greater
  at_most_lead ts d k m lead some above =
      elim (leading_at_most cmp laws p ts d k lead m some) [
        | inl same ↦ not_itself cmp laws m k above same
        | inr below ↦ no_circle m k above below
      ]

  pub lead_of_ordered : (ts : Terms) → IsOrdered p cmp limit ts → (m : Monomial) → coefficient p ts m ≢ 0 → IsAtMostLead p cmp ts m
  lead_of_ordered [] o m some = absurd (some (coefficient-none p m))
  lead_of_ordered (t ∷ ts) o m some =
      let lead = IsLeading-first p cmp laws limit t ts o in
      (t.0, t.1, lead, at_most_lead (t ∷ ts) t.0 t.1 m lead some)

  -- nothing is subtracted yet
  pub reduction_begins : (gs : List Terms) (poly rest : Terms) (parts : Parts) → IsOrdered p cmp limit poly → IsPolynomial p cmp poly → rest ≡ poly → parts ≡ [] → IsRecordedReduction p cmp gs poly rest parts
  reduction_begins gs poly rest parts o within is none =
      subst (λ r. IsRecordedReduction p cmp gs poly r parts) (sym is) (subst (IsRecordedReduction p cmp gs poly poly) (sym none) record {
        remainder = record {
          whole = λ m. ap (λ l. coefficient p l m) (sym (append-nil poly));
          before = tt;
          at_most = λ i m has. absurd has;
          lower = lead_of_ordered poly o;
        };
        left = within;
        lines = tt;
      })

  -- ---- a step

  module _ (gs : List Terms) (i k : ℕ) (q : Monomial) (rest : Terms) (c : ℕ) (m : Monomial) (is : coefficient p rest m ≡ c) (present : c ≢ 0) (u : IsMonomial q) (below : k < p) (v : AreTerms (get_or gs i [])) (step : IsStep p cmp gs c m i k q) where
    abbrev g : Terms
    g = get_or gs i []

    abbrev multiple : Terms
    multiple = term_product k q g

    n_monomial : IsMonomial step.leading.1
    n_monomial = monomial_of_coefficient p g step.leading.1 v (λ none. step.leading.2.1 (sym step.leading.2.0 ∙ none))

    product_is : mono_mul q step.leading.1 ≡ m
    product_is = mono_mul_comm q step.leading.1 u n_monomial ∙ step.leading.3

    factor_some : 0 < k
    factor_some =
        elim (cases_eq k 0) [
          | inl none ↦
              absurd (present (sym step.leading.4 ∙ ap (λ x. mul_mod p x step.leading.0) none ∙ mul_mod-zero_first p step.leading.0))
          | inr some ↦ omega arith
        ]

    multiple_leads : IsLeading p cmp multiple c m
    multiple_leads =
        subst (IsLeading p cmp multiple c) product_is
        (subst (λ x. IsLeading p cmp multiple x (mono_mul q step.leading.1)) step.leading.4
        (leading_of_multiple cmp laws p prime g v k step.leading.0 q step.leading.1 u factor_some below step.leading.2))

    positive : 0 < p
    positive = omega (arith, prime.least)

    m_some : coefficient p rest m ≢ 0
    m_some none = present (sym is ∙ none)

    -- each monomial of what is left was there, or is one of the multiple
    some_of_next : (next : Terms) → SamePolynomial p next (difference p rest multiple) → (x : Monomial) → coefficient p next x ≢ 0 → (coefficient p rest x ≢ 0) ⊎ (coefficient p multiple x ≢ 0)
    some_of_next next left x some =
        elim (cases_eq (coefficient p rest x) 0) [
          | inl none ↦
              inr (λ nothing. some (left x ∙ coefficient-difference p positive rest multiple x ∙ ap₂ (sub_mod p) none nothing ∙ sub_mod-self p 0 (omega arith)))
          | inr found ↦ inl found
        ]

    next_is_lower : (poly next : Terms) → SamePolynomial p next (difference p rest multiple) → ((x : Monomial) → coefficient p rest x ≢ 0 → IsAtMostLead p cmp poly x) → (x : Monomial) → coefficient p next x ≢ 0 → IsAtMostLead p cmp poly x
    next_is_lower poly next left lower x some =
        elim (some_of_next next left x some) [
          | inl old ↦ lower x old
          | inr new ↦
              let top = lower m m_some in
              elim (leading_at_most cmp laws p multiple c m multiple_leads x new) [
                | inl same ↦ subst (IsAtMostLead p cmp poly) (sym same) top
                | inr under ↦ (top.0, top.1, top.2, λ above. top.3 (greater_trans cmp laws m x top.1 under above))
              ]
        ]

    pub step_keeps : (next : Terms) (old new : Parts) → SamePolynomial p next (difference p rest multiple) → IsRecorded p old new i k q → (poly : Terms) → IsRemainder p cmp gs poly rest old → IsRemainder p cmp gs poly next new
    step_keeps next old new left recorded poly so_far = record {
      whole = whole_after p positive poly rest next (combination gs old) (combination gs new) multiple so_far.whole left (recorded.sum gs);
      before = recorded.before (length gs) step.within so_far.before;
      at_most = λ j x has.
          elim (recorded.monomials j x has) [
            | inl before ↦ so_far.at_most j x before
            | inr (here, is) ↦
                subst (λ a. (d : ℕ) × (n : Monomial) × IsLeading p cmp (get_or gs a []) d n × IsAtMostLead p cmp poly (mono_mul x n)) (sym here)
                (subst (λ y. (d : ℕ) × (n : Monomial) × IsLeading p cmp (get_or gs i []) d n × IsAtMostLead p cmp poly (mono_mul y n)) (sym is)
                (step.leading.0, step.leading.1, step.leading.2, subst (IsAtMostLead p cmp poly) (sym product_is) (so_far.lower m m_some)))
          ];
      lower = next_is_lower poly next left so_far.lower;
    }

    -- each monomial of what is left was there and is another one, or is below the cancelled one
    pub next_is_below : (next : Terms) → SamePolynomial p next (difference p rest multiple) → (x : Monomial) → coefficient p next x ≢ 0 → ((coefficient p rest x ≢ 0) × (x ≢ m)) ⊎ (cmp m x ≡ Greater)
    next_is_below next left x some =
        elim (cases_monomial x m) [
          | inl same ↦
              let gone : coefficient p next m ≡ 0 =
              left m ∙ coefficient-difference p positive rest multiple m ∙ ap₂ (sub_mod p) is multiple_leads.0
              ∙ sub_mod-self p c (let low : coefficient p rest m < p = mod-lt _ positive in omega (arith, is)) in
              absurd (some (ap (coefficient p next) same ∙ gone))
          | inr other ↦
              elim (some_of_next next left x some) [
                | inl old ↦ inl (old, other)
                | inr new ↦
                    elim (leading_at_most cmp laws p multiple c m multiple_leads x new) [ inl same ↦ absurd (other same) | inr under ↦ inr under ]
              ]
        ]

    pub m_monomial : IsMonomial m
    m_monomial = subst IsMonomial step.leading.3 (IsMonomial-mono_mul step.leading.1 q n_monomial u)

    -- the line's leading monomial divides the cancelled one
    pub m_reducible : IsIrreducible p cmp gs m → ⊥
    m_reducible none =
        none i step.within step.leading.0 step.leading.1 step.leading.2 (λ x.
        let sum : exponent m x ≡ exponent step.leading.1 x + exponent q x = ap (λ y. exponent y x) (sym step.leading.3) ∙ exponent-mono_mul step.leading.1 q n_monomial u x in omega arith)

    -- the variables of the factor are those of the cancelled monomial
    factor_in : (vs : List ℕ) → IsIn vs m → IsIn vs q
    factor_in vs in_m z some =
        in_m z (λ none. let sum : exponent m z ≡ exponent step.leading.1 z + exponent q z = ap (λ y. exponent y z) (sym step.leading.3) ∙ exponent-mono_mul step.leading.1 q n_monomial u z in omega arith)

    product_in : (vs : List ℕ) (y : Monomial) → IsMonomial y → IsIn vs q → IsIn vs y → IsIn vs (mono_mul q y)
    product_in vs y w in_q in_y z some =
        elim (cases_eq (exponent y z) 0) [
          | inl none ↦ in_q z (λ nothing. some (exponent-mono_mul q y u w z ∙ ap₂ ◌+◌ nothing none ∙ omega arith))
          | inr found ↦ in_y z found
        ]

    -- no variable and no higher degree comes in
    pub next_up_to : (next : Terms) → SamePolynomial p next (difference p rest multiple) → (vs : List ℕ) (d : ℕ) → IsGradedIn vs cmp → AreInVariables p vs gs → IsUpTo p vs d rest → IsUpTo p vs d next
    next_up_to next left vs d graded in_lines up x some =
        elim (some_of_next next left x some) [
          | inl old ↦ up x old
          | inr new ↦
              let shifted = shifted_monomial p k q x g u v new in
              let top = up m m_some in
              let in_x : IsIn vs x = subst (IsIn vs) (sym shifted.3) (product_in vs shifted.0 shifted.1 (factor_in vs top.0) (in_lines i shifted.0 shifted.2)) in
              let x_monomial : IsMonomial x = subst IsMonomial (sym shifted.3) (IsMonomial-mono_mul q shifted.0 u shifted.1) in
              elim (leading_at_most cmp laws p multiple c m multiple_leads x new) [
                | inl same ↦ (in_x, omega (arith, ap degree same, top.1))
                | inr under ↦
                    elim (cases_order (degree m) (degree x)) [
                      | inl alike ↦ (in_x, omega (arith, top.1))
                      | inr (inl less) ↦ absurd (no_circle m x under (graded x m x_monomial m_monomial in_x top.0 less))
                      | inr (inr more) ↦ (in_x, omega (arith, top.1))
                    ]
              ]
        ]

    -- a monomial above the cancelled one keeps its coefficient
    kept_above : (next : Terms) → SamePolynomial p next (difference p rest multiple) → (x : Monomial) → cmp x m ≡ Greater → coefficient p rest x ≡ coefficient p next x
    kept_above next left x above =
        elim (cases_eq (coefficient p multiple x) 0) [
          | inl none ↦
              sym (left x ∙ coefficient-difference p positive rest multiple x ∙ ap₂ (sub_mod p) refl none ∙ sub_mod-zero p (coefficient p rest x) (mod-lt _ positive))
          | inr some ↦ absurd (at_most_lead multiple c m x multiple_leads some above)
        ]

  heads_same : (t s : ℕ × Monomial) (a b : Terms) (i : ℕ) → IsOrdered p cmp limit (t ∷ a) → IsOrdered p cmp limit (s ∷ b) → i < length a → ((x : Monomial) → cmp x (get_or a i (0, [])).1 ≡ Greater → coefficient p (t ∷ a) x ≡ coefficient p (s ∷ b) x) → t ≡ s
  heads_same t s a b i o w h alike =
      let over : cmp t.1 (get_or a i (0, [])).1 ≡ Greater = above_at t.1 a i o.4 h in
      let there : coefficient p (s ∷ b) t.1 ≢ 0 = λ none. first_nonzero p cmp laws limit t a o (alike t.1 over ∙ none) in
      let same : t.1 ≡ s.1 =
      elim (leading_at_most cmp laws p (s ∷ b) s.0 s.1 (IsLeading-first p cmp laws limit s b w) t.1 there) [
        | inl is ↦ is
        | inr higher ↦
            let also : coefficient p (t ∷ a) s.1 ≢ 0 =
            λ none. first_nonzero p cmp laws limit s b w (sym (alike s.1 (greater_trans cmp laws s.1 t.1 (get_or a i (0, [])).1 higher over)) ∙ none) in
            absurd (at_most_lead (t ∷ a) t.0 t.1 s.1 (IsLeading-first p cmp laws limit t a o) also higher)
      ] in
      ap₂ (λ (k : ℕ) (n : Monomial). (k, n))
      (sym (coefficient-first p cmp laws limit t a o) ∙ alike t.1 over ∙ ap (coefficient p (s ∷ b)) same ∙ coefficient-first p cmp laws limit s b w) same

  first_same_from : (t s : ℕ × Monomial) (a b : Terms) (i : ℕ) → IsOrdered p cmp limit (t ∷ a) → IsOrdered p cmp limit (s ∷ b) → ((x : Monomial) → cmp x (get_or a i (0, [])).1 ≡ Greater → coefficient p (t ∷ a) x ≡ coefficient p (s ∷ b) x) → t ≡ s
      → (((x : Monomial) → cmp x (get_or a i (0, [])).1 ≡ Greater → coefficient p a x ≡ coefficient p b x) → SameFirst a b i) → SameFirst (t ∷ a) (s ∷ b) (suc i)
  first_same_from t s a b i o w alike heads rest zero low = (omega arith, heads)
  first_same_from t s a b i o w alike heads rest (suc j) low =
      let tails = rest (λ x over.
      elim (cases_monomial t.1 x) [
        | inl here ↦
            let none : coefficient p a x ≡ 0 = subst (λ y. coefficient p a y ≡ 0) here (coefficient-above p cmp laws limit t.1 a o.4) in
            let other : coefficient p b x ≡ 0 = subst (λ y. coefficient p b y ≡ 0) (sym (ap (λ r. r.1) heads) ∙ here) (coefficient-above p cmp laws limit s.1 b w.4) in
            none ∙ sym other
        | inr apart ↦
            sym (coefficient-other p t a x apart) ∙ alike x over ∙ coefficient-other p s b x (λ e. apart (ap (λ r. r.1) heads ∙ e))
      ]) j (omega arith) in
      (omega (arith, tails.0), tails.1)

  -- two ordered lists with the same coefficients above a term of the first are the same before it
  first_same : (a b : Terms) (i : ℕ) → IsOrdered p cmp limit a → IsOrdered p cmp limit b → i < length a → ((x : Monomial) → cmp x (get_or a i (0, [])).1 ≡ Greater → coefficient p a x ≡ coefficient p b x) → SameFirst a b i
  first_same a b zero o w h alike j low = absurd (omega arith)
  first_same [] b (suc i) o w h alike j low = absurd (omega arith)
  first_same (t ∷ a) [] (suc i) o w h alike j low =
      absurd (first_nonzero p cmp laws limit t a o (alike t.1 (above_at t.1 a i o.4 (omega arith)) ∙ coefficient-none p t.1))
  first_same (t ∷ a) (s ∷ b) (suc i) o w h alike j low =
      first_same_from t s a b i o w alike (heads_same t s a b i o w (omega arith) alike) (first_same a b i o.5 w.5 (omega arith)) j low

  -- of two terms in order the later one is below
  later_below : (ts : Terms) (i j : ℕ) → IsOrdered p cmp limit ts → i < j → j < length ts → cmp (get_or ts i (0, [])).1 (get_or ts j (0, [])).1 ≡ Greater
  later_below [] i j o l h = absurd (omega arith)
  later_below (t ∷ ts) i zero o l h = absurd (omega arith)
  later_below (t ∷ ts) zero (suc j) o l h = above_at t.1 ts j o.4 (omega arith)
  later_below (t ∷ ts) (suc i) (suc j) o l h = later_below ts i j o.5 (omega arith) (omega arith)

  -- a monomial that is left is below the cancelled one, where it does not stand before it
  below_cancelled : (rest next : Terms) (place j : ℕ) → IsOrdered p cmp limit rest → IsOrdered p cmp limit next → SameFirst rest next place → place ≤ j → j < length next
      → coefficient p rest (get_or next j (0, [])).1 ≢ 0 → (get_or next j (0, [])).1 ≢ (get_or rest place (0, [])).1 → cmp (get_or rest place (0, [])).1 (get_or next j (0, [])).1 ≡ Greater
  below_cancelled rest next place j o w first beyond h some other =
      let x = (get_or next j (0, [])).1 in
      let there = place_of_monomial p rest x some in
      elim (cases_order there.0 place) [
        | inl same ↦ absurd (other (sym there.2 ∙ ap (λ i. (get_or rest i (0, [])).1) same))
        | inr (inl before) ↦
            let kept = first there.0 before in
            absurd (not_itself cmp laws (get_or next there.0 (0, [])).1 x (later_below next there.0 j w (omega arith) h) (sym (ap (λ t. t.1) kept.1) ∙ there.2))
        | inr (inr after) ↦ subst (λ y. cmp (get_or rest place (0, [])).1 y ≡ Greater) there.2 (later_below rest place there.0 o after there.1)
      ]

  pub step_cancels : (gs : List Terms) (i k : ℕ) (q : Monomial) (rest next : Terms) (place : ℕ) → IsOrdered p cmp limit rest → IsOrdered p cmp limit next → place < length rest → IsMonomial q → k < p → AreTerms (get_or gs i [])
      → IsStep p cmp gs (get_or rest place (0, [])).0 (get_or rest place (0, [])).1 i k q → SamePolynomial p next (difference p rest (term_product k q (get_or gs i []))) → SameFirst rest next place → IsCancelled p cmp gs rest next place
  step_cancels gs i k q rest next place o w within u below v step left first = record {
    monomial = m_monomial gs i k q rest (get_or rest place (0, [])).0 (get_or rest place (0, [])).1 (coefficient-at rest place o within) (nonzero_at rest place o within) u below v step;
    some = some_at rest place o within;
    below = λ j beyond h.
        elim (next_is_below gs i k q rest (get_or rest place (0, [])).0 (get_or rest place (0, [])).1 (coefficient-at rest place o within) (nonzero_at rest place o within) u below v step next left (get_or next j (0, [])).1 (some_at next j w h)) [
          | inl (old, other) ↦ below_cancelled rest next place j o w first beyond h old other
          | inr under ↦ under
        ];
    up_to = next_up_to gs i k q rest (get_or rest place (0, [])).0 (get_or rest place (0, [])).1 (coefficient-at rest place o within) (nonzero_at rest place o within) u below v step next left;
  }

  pub step_first : (gs : List Terms) (i k : ℕ) (q : Monomial) (rest next : Terms) (place : ℕ) → IsOrdered p cmp limit rest → IsOrdered p cmp limit next → place < length rest → IsMonomial q → k < p → AreTerms (get_or gs i [])
      → IsStep p cmp gs (get_or rest place (0, [])).0 (get_or rest place (0, [])).1 i k q → SamePolynomial p next (difference p rest (term_product k q (get_or gs i []))) → SameFirst rest next place
  step_first gs i k q rest next place o w within u below v step left =
      first_same rest next place o w within (kept_above gs i k q rest (get_or rest place (0, [])).0 (get_or rest place (0, [])).1 (coefficient-at rest place o within) (nonzero_at rest place o within) u below v step next left)

  -- a step that passes a limit
  pub stopped : (gs : List Terms) (rest : Terms) (parts : Parts) (place i k : ℕ) (q : Monomial) → IsOrdered p cmp limit rest → place < length rest → IsStep p cmp gs (get_or rest place (0, [])).0 (get_or rest place (0, [])).1 i k q → PassesLimit p gs rest parts i k q → IsStopped p cmp gs rest parts i q
  stopped gs rest parts place i k q o within step passes =
      let m = (get_or rest place (0, [])).1 in
      (m, k, some_at rest place o within, subst (λ c. IsStep p cmp gs c m i k q) (sym (coefficient-at rest place o within)) step, passes)

  -- a step by a line's polynomial and a monomial that are written otherwise
  pub line_step : (gs : List Terms) (i k : ℕ) (q q' : Monomial) (line rest next : Terms) (place : ℕ) (old new : Parts) → get_or gs i [] ≡ line → q' ≡ q → IsOrdered p cmp limit rest → place < length rest → IsMonomial q' → k < p → IsOrdered p cmp limit line
      → IsStep p cmp gs (get_or rest place (0, [])).0 (get_or rest place (0, [])).1 i k q → SamePolynomial p next (difference p rest (term_product k q' line)) → IsRecorded p old new i k q
      → IsPolynomial p cmp next → (AreOfDifferentLines old → AreOfDifferentLines new) → (poly : Terms) → IsRecordedReduction p cmp gs poly rest old → IsRecordedReduction p cmp gs poly next new
  line_step gs i k q q' line rest next place old new is same o within u below v step left recorded is_polynomial are_lines poly so_far = record {
    remainder = step_keeps gs i k q rest (get_or rest place (0, [])).0 (get_or rest place (0, [])).1 (coefficient-at rest place o within) (nonzero_at rest place o within) (subst IsMonomial same u) below (subst AreTerms (sym is) (AreTerms-ordered p cmp limit line v)) step next old new
        (subst (λ x. SamePolynomial p next (difference p rest (term_product k x (get_or gs i [])))) same
        (subst (λ ts. SamePolynomial p next (difference p rest (term_product k q' ts))) (sym is) left)) recorded poly so_far.remainder;
    left = is_polynomial;
    lines = are_lines so_far.lines;
  }

  pub line_first : (gs : List Terms) (i k : ℕ) (q q' : Monomial) (line rest next : Terms) (place : ℕ) → get_or gs i [] ≡ line → q' ≡ q → IsOrdered p cmp limit rest → IsOrdered p cmp limit next → place < length rest → IsMonomial q' → k < p → IsOrdered p cmp limit line
      → IsStep p cmp gs (get_or rest place (0, [])).0 (get_or rest place (0, [])).1 i k q → SamePolynomial p next (difference p rest (term_product k q' line)) → SameFirst rest next place
  line_first gs i k q q' line rest next place is same o w within u below v step left =
      step_first gs i k q rest next place o w within (subst IsMonomial same u) below (subst AreTerms (sym is) (AreTerms-ordered p cmp limit line v)) step
      (subst (λ x. SamePolynomial p next (difference p rest (term_product k x (get_or gs i [])))) same
      (subst (λ ts. SamePolynomial p next (difference p rest (term_product k q' ts))) (sym is) left))

  pub line_cancels : (gs : List Terms) (i k : ℕ) (q q' : Monomial) (line rest next : Terms) (place : ℕ) → get_or gs i [] ≡ line → q' ≡ q → IsOrdered p cmp limit rest → IsOrdered p cmp limit next → place < length rest → IsMonomial q' → k < p → IsOrdered p cmp limit line
      → IsStep p cmp gs (get_or rest place (0, [])).0 (get_or rest place (0, [])).1 i k q → SamePolynomial p next (difference p rest (term_product k q' line)) → IsCancelled p cmp gs rest next place
  line_cancels gs i k q q' line rest next place is same o w within u below v step left =
      step_cancels gs i k q rest next place o w within (subst IsMonomial same u) below (subst AreTerms (sym is) (AreTerms-ordered p cmp limit line v)) step
      (subst (λ x. SamePolynomial p next (difference p rest (term_product k x (get_or gs i [])))) same
      (subst (λ ts. SamePolynomial p next (difference p rest (term_product k q' ts))) (sym is) left))
      (line_first gs i k q q' line rest next place is same o w within u below v step left)

-- a multiple of a line that passes a limit
pub line_passes : (p : ℕ) (gs : List Terms) (i k : ℕ) (q q' : Monomial) (line rest : Terms) (parts : Parts) → get_or gs i [] ≡ line → q' ≡ q
    → PassesDegree p 1024 ((k, q') ∷ []) line ⊎ PassesTerms p 131072 (difference p rest (term_product k q' line)) → PassesLimit p gs rest parts i k q
line_passes p gs i k q q' line rest parts is same (inl over) =
    inl (subst (λ x. PassesDegree p 1024 ((k, x) ∷ []) (get_or gs i [])) same (subst (λ ts. PassesDegree p 1024 ((k, q') ∷ []) ts) (sym is) over))
line_passes p gs i k q q' line rest parts is same (inr over) =
    inr (inl (subst (λ x. PassesTerms p 131072 (difference p rest (term_product k x (get_or gs i [])))) same
    (subst (λ ts. PassesTerms p 131072 (difference p rest (term_product k q' ts))) (sym is) over)))
