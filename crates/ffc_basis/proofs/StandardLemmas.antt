-- Buchberger's criterion (Cox, Little and O'Shea, chapter 2, section 6, theorem 6, and section 9, theorems 3 and 6), of lines
-- whose S-polynomials are sums of multiples below the least common multiples. A combination of the lines is a sum of multiples
-- by terms. Where the greatest top of these is not cancelled, it is the leading monomial of the sum, so a line's leading
-- monomial divides that, and no top is above it. Where it is cancelled, all multiples with this top are exchanged for one, whose
-- factor is 0, and others with lower tops. The descent of the greatest top ends.
use Rattle.std.proofs.Common.{◌≡◌, ◌≢◌, ℕ, ◌+◌, ◌*◌, ◌%◌, ◌<◌, List, [], ◌∷◌, ◌++◌, length, get_or, refl, sym, ap, ap₂, ◌∙◌, subst, inl, inr, arith, mod-lt, mod-eq_of_lt, add-mul, append-nil}
use Rattle.std.proofs.Math.Nat.{zero-mod, mod-mod}
use Rattle.std.proofs.lemmas.Bool.{cases_eq}
use Rattle.std.specs.List.{AllByRecursion}
use Rattle.std.specs.declared.cmp.Ordering.{Ordering}
use Rattle.std.specs.declared.cmp.Ordering.TheVariants.{Greater}
use Rattle.ffc_field.specs.Modular.{IsPrime, add_mod, mul_mod}
use Rattle.ffc_field.proofs.Primes.{no_zero_divisors}
use Rattle.ffc_ring.specs.Monomial.{Monomial, IsMonomial, mono_mul, mono_lcm, mono_quotient, Divides}
use Rattle.ffc_ring.specs.Polynomial.{Terms, AreTerms, written, coefficient, SamePolynomial, term_product, difference}
use Rattle.ffc_ring.specs.Counting.{IsIn}
use Rattle.ffc_ring.proofs.MonomialLemmas.{IsMonomial-mono_mul, IsMonomial-mono_lcm, IsMonomialFrom-mono_quotient}
use Rattle.ffc_ring.proofs.PolynomialLemmas.{weighted, one_at, sum_alike, times_alike, written-append, coefficient-append, coefficient-term_product, cases_monomial}
use Rattle.ffc_mono.specs.MonomialOrder.{IsMonomialOrder}
use Rattle.ffc_mono.specs.Leading.{IsLeading}
use Rattle.ffc_mono.proofs.LeadingLemmas.{not_itself, leading_at_most, one_leading, greater_trans}
use Rattle.ffc_line.specs.Lines.{Parts, combination, AreBefore, AreTermLists, AreLists}
use Rattle.ffc_basis.specs.Completion.{IsSPolynomial, IsClosed, ReducesToZero}
use Rattle.ffc_basis.specs.Dividing.{LeadsDivisor}
use Rattle.ffc_basis.specs.Representations.{AreAllRepresented}
use Rattle.ffc_basis.proofs.OrderedTerms.{coefficient-none, coefficient-other}
use Rattle.ffc_basis.proofs.PartLemmas.{some_of_sum}
use Rattle.ffc_basis.specs.Reduction.{ArePartsAtMost}
use Rattle.ffc_basis.proofs.ChainLemmas.{AreTerms-difference}
use Rattle.ffc_basis.proofs.PairLemmas.{one_s_polynomial_closes}
use Rattle.ffc_basis.proofs.RaisedLemmas.{lead_monomial}
use Rattle.ffc_basis.proofs.Descent.{descent_induction}
use Rattle.ffc_basis.proofs.Exchange.{IsReplaced, replaced_in_more, replaced, IsLower, exchange, factor_divides}
use Rattle.ffc_basis.proofs.Greatest.{IsUpTo, below_trans, greatest}
use Rattle.ffc_basis.proofs.NormalForms.{leading_or_zero}
use Rattle.ffc_basis.proofs.Each.{each_append, each_weaker, each_both}
use Rattle.ffc_basis.proofs.Multiples.{Multiple, top, polynomial, sum_of, IsMultiple, HasVariables, IsBelow, sum_of-append, written-term_product, more_variables, variables_of_all, lead_is_monomial, up_to_top, sum_below, multiples_of}
use Rattle.ffc_basis.proofs.Variables.{AreAmong, among_first, among_second, in_product, serve_all}

-- each S-polynomial of two lines is a sum of lower multiples in these variables
abbrev AreReplaced : ℕ → (Monomial → Monomial → Ordering) → List Terms → List ℕ → ℕ → ℕ → Type 0
AreReplaced p cmp gs vs i j =
    (c : ℕ) (m : Monomial) (d : ℕ) (n : Monomial) → IsLeading p cmp (get_or gs i []) c m → IsLeading p cmp (get_or gs j []) d n → IsReplaced p cmp gs vs i j c m d n

-- ---- one multiple in place of all that have the greatest top

module _ (p : ℕ) (prime : IsPrime p) (cmp : Monomial → Monomial → Ordering) (laws : IsMonomialOrder cmp) (gs : List Terms) (lists : AreLists gs) (vs : List ℕ) where
  abbrev IsIn-variables : Multiple → Type 0
  IsIn-variables t = IsMultiple p cmp gs t × HasVariables vs t

  abbrev IsUpToTop : Monomial → Multiple → Type 0
  IsUpToTop m t = IsUpTo cmp m (top t)

  abbrev IsUnder : Monomial → Multiple → Type 0
  IsUnder m t = IsLower p prime cmp laws gs lists vs m t

  -- a multiple of a line by this monomial, and multiples with lower tops
  abbrev IsGathered : Monomial → Multiple → Terms → Type 0
  IsGathered m s ts =
      (f : ℕ) × (lower : List Multiple) × AllByRecursion (IsUnder m) lower
      × SamePolynomial p ts (term_product f s.monomial (get_or gs s.line []) ++ sum_of gs lower)

  none_gathered : (m : Monomial) (s : Multiple) → IsGathered m s []
  none_gathered m s = (
    0,
    [],
    tt,
    λ z. ap (λ k. k % p)
        (let nothing : 0 ≡ 0 * weighted (λ n. one_at z (mono_mul s.monomial n)) (get_or gs s.line []) + 0 = omega arith in
        nothing ∙ ap (λ k. k + 0) (sym (written-term_product 0 s.monomial (get_or gs s.line []) z))
        ∙ sym (written-append (term_product 0 s.monomial (get_or gs s.line [])) [] z)),
  )

  with_lower : (m : Monomial) (s t : Multiple) (ts : Terms) → IsUnder m t → IsGathered m s ts → IsGathered m s (polynomial gs t ++ ts)
  with_lower m s t ts low (f, lower, are, same) =
      let own = term_product f s.monomial (get_or gs s.line []) in
      let first = polynomial gs t in
      let rest = sum_of gs lower in (
        f,
        t ∷ lower,
        (low, are),
        λ z. ap (λ k. k % p) (written-append first ts z)
            ∙ sum_alike p (written first z) (written first z) (written ts z) (written (own ++ rest) z) refl (same z)
            ∙ ap (λ k. k % p)
            (let turned : written first z + written (own ++ rest) z ≡ written (own ++ (first ++ rest)) z =
            omega (arith, written-append own rest z, written-append own (first ++ rest) z, written-append first rest z) in turned),
      )

  both_gathered : (m : Monomial) (s : Multiple) (us ts : Terms) → IsGathered m s us → IsGathered m s ts → IsGathered m s (us ++ ts)
  both_gathered m s us ts (f, xs, are, same) (g, ys, also, alike) =
      let h = get_or gs s.line [] in
      let first = term_product f s.monomial h in
      let second = term_product g s.monomial h in
      let both = term_product (f + g) s.monomial h in (
        f + g,
        xs ++ ys,
        each_append (IsUnder m) xs ys are also,
        λ z.
            let w = weighted (λ n. one_at z (mono_mul s.monomial n)) h in
            let sum : written both z ≡ written first z + written second z =
            written-term_product (f + g) s.monomial h z ∙ add-mul f g w ∙ sym (ap₂ ◌+◌ (written-term_product f s.monomial h z) (written-term_product g s.monomial h z)) in
            let rest : written (sum_of gs (xs ++ ys)) z ≡ written (sum_of gs xs) z + written (sum_of gs ys) z =
            ap (λ l. written l z) (sum_of-append gs xs ys) ∙ written-append (sum_of gs xs) (sum_of gs ys) z in
            ap (λ k. k % p) (written-append us ts z)
            ∙ sum_alike p (written us z) (written (first ++ sum_of gs xs) z) (written ts z) (written (second ++ sum_of gs ys) z) (same z) (alike z)
            ∙ ap (λ k. k % p)
            (let whole : written (first ++ sum_of gs xs) z + written (second ++ sum_of gs ys) z ≡ written (both ++ sum_of gs (xs ++ ys)) z =
            omega (arith, written-append first (sum_of gs xs) z, written-append second (sum_of gs ys) z, written-append both (sum_of gs (xs ++ ys)) z, sum, rest) in whole),
      )

  module _ (replaced_all : (i j : ℕ) → i < length gs → j < length gs → AreReplaced p cmp gs vs i j) where
    pub gather : (m : Monomial) → IsIn vs m → (s : Multiple) → IsMultiple p cmp gs s → top s ≡ m → (ts : List Multiple) → AllByRecursion IsIn-variables ts → AllByRecursion (IsUpToTop m) ts → IsGathered m s (sum_of gs ts)
    gather m in_m s is_s s_at [] are up = none_gathered m s
    gather m in_m s is_s s_at (t ∷ ts) are up =
        let rest = gather m in_m s is_s s_at ts are.1 up.1 in
        elim up.0 [
          | inl same ↦
              both_gathered m s (polynomial gs t) (sum_of gs ts)
              (exchange p prime cmp laws gs lists vs t s are.0.0 is_s m same s_at in_m
              (replaced_all t.line s.line are.0.0.within is_s.within t.coefficient t.lead s.coefficient s.lead are.0.0.leads is_s.leads)) rest
          | inr below ↦ with_lower m s t (sum_of gs ts) (are.0.0, are.0.1, below) rest
        ]

    -- ---- the leading monomial of a member

    module _ (f : Terms) (c : ℕ) (l : Monomial) (leads : IsLeading p cmp f c l) where
      -- a line's leading monomial divides that of the sum, and the sum is one of multiples with no higher tops
      abbrev Answer : Type 0
      Answer =
          ((i : ℕ) × LeadsDivisor p cmp gs l i)
          × ((ts : List Multiple) × AllByRecursion (IsMultiple p cmp gs) ts × AllByRecursion (IsUpToTop l) ts × SamePolynomial p f (sum_of gs ts))

      -- a sum with no multiples is 0
      none_is_zero : SamePolynomial p f [] → ⊥
      none_is_zero same = leads.1 (sym leads.0 ∙ same l ∙ coefficient-none p l)

      not_above_itself : (m : Monomial) → cmp m m ≡ Greater → ⊥
      not_above_itself m above = not_itself cmp laws m m above refl

      -- where the multiple with the greatest top is not cancelled, its top leads
      top_leads : (m : Monomial) (s : Multiple) → IsMultiple p cmp gs s → top s ≡ m → (e : ℕ) (lower : List Multiple) → AllByRecursion (IsMultiple p cmp gs) lower → AllByRecursion (IsBelow cmp m) lower
          → SamePolynomial p f (term_product e s.monomial (get_or gs s.line []) ++ sum_of gs lower) → e % p ≢ 0 → m ≡ l
      top_leads m s is s_at e lower are below same some =
          let g = get_or gs s.line [] in
          let own = term_product e s.monomial g in
          let rest = sum_of gs lower in
          let u : IsMonomial s.lead = lead_is_monomial cmp laws p gs lists s is in
          let own_at : coefficient p own m ≡ mul_mod p e s.coefficient =
          ap (coefficient p own) (sym s_at) ∙ coefficient-term_product p e s.monomial s.lead g is.monomial u (lists s.line) ∙ ap (mul_mod p e) is.leads.0 in
          let low : s.coefficient < p = subst (λ k. k < p) is.leads.0 (mod-lt _ (omega (arith, prime.least))) in
          let own_some : coefficient p own m ≢ 0 = λ none.
          elim (no_zero_divisors p prime e s.coefficient (sym own_at ∙ none)) [
            | inl zero ↦ some zero
            | inr zero ↦ is.leads.1 (sym (mod-eq_of_lt low) ∙ zero)
          ] in
          let rest_none : coefficient p rest m ≡ 0 =
          elim (cases_eq (coefficient p rest m) 0) [
            | inl none ↦ none
            | inr found ↦ absurd (not_above_itself m (sum_below cmp laws p gs lists m lower are below m found))
          ] in
          let f_at : coefficient p f m ≡ coefficient p own m =
          same m ∙ coefficient-append p own rest m ∙ ap (add_mod p (coefficient p own m)) rest_none
          ∙ ap (λ k. k % p) (let drop : coefficient p own m + 0 ≡ coefficient p own m = omega arith in drop) ∙ mod-mod (written own m) p in
          elim (leading_at_most cmp laws p f c l leads m (λ none. own_some (sym f_at ∙ none))) [
            | inl is_lead ↦ is_lead
            | inr above ↦
                elim (some_of_sum p own rest l (λ none. leads.1 (sym leads.0 ∙ same l ∙ none))) [
                  | inl in_own ↦
                      absurd
                      (not_above_itself l
                      (below_trans cmp laws l m l above (subst (λ k. IsUpTo cmp k l) s_at (up_to_top cmp laws p gs lists s is e l in_own))))
                  | inr in_rest ↦
                      absurd
                      (not_above_itself l
                      (below_trans cmp laws l m l above (inr (sum_below cmp laws p gs lists m lower are below l in_rest))))
                ]
          ]

      -- what holds where all tops are at most that of a multiple
      from_greatest : (P : Multiple → Type 0) (ts : List Multiple) → AllByRecursion P ts → SamePolynomial p f (sum_of gs ts)
          → ((s : Multiple) → P s → AllByRecursion (IsUpToTop (top s)) ts → Answer) → Answer
      from_greatest P [] are same answer = absurd (none_is_zero same)
      from_greatest P (t ∷ ts) are same answer =
          let (s, is, all) = greatest cmp laws top P t ts are.0 are.1 in answer s is all

      abbrev HasAnswer : Monomial → Type 0
      HasAnswer m =
          (ts : List Multiple) → AllByRecursion IsIn-variables ts → AllByRecursion (IsUpToTop m) ts → SamePolynomial p f (sum_of gs ts)
          → (s : Multiple) → IsIn-variables s → top s ≡ m → Answer

      -- a factor that is 0 leaves the lower multiples
      without_top : (m : Monomial) (s : Multiple) (e : ℕ) (lower : List Multiple) → SamePolynomial p f (term_product e s.monomial (get_or gs s.line []) ++ sum_of gs lower) → e % p ≡ 0 → SamePolynomial p f (sum_of gs lower)
      without_top m s e lower same none z =
          let g = get_or gs s.line [] in
          let own = term_product e s.monomial g in
          let w = weighted (λ n. one_at z (mono_mul s.monomial n)) g in
          let nothing : written own z % p ≡ 0 % p =
          ap (λ k. k % p) (written-term_product e s.monomial g z) ∙ times_alike p e 0 w (none ∙ sym (zero-mod p)) ∙ ap (λ k. k % p) (let drop : 0 * w ≡ 0 = omega arith in drop) in
          same z ∙ ap (λ k. k % p) (written-append own (sum_of gs lower) z)
          ∙ sum_alike p (written own z) 0 (written (sum_of gs lower) z) (written (sum_of gs lower) z) nothing refl
          ∙ ap (λ k. k % p) (let drop : 0 + written (sum_of gs lower) z ≡ written (sum_of gs lower) z = omega arith in drop)

      top_in : (s : Multiple) → IsIn-variables s → IsMonomial (top s) × IsIn vs (top s)
      top_in s is =
          let u : IsMonomial s.lead = lead_is_monomial cmp laws p gs lists s is.0 in
          (IsMonomial-mono_mul s.monomial s.lead is.0.monomial u, in_product vs s.monomial s.lead is.0.monomial u is.1.0 is.1.1)

      step : (m : Monomial) → IsMonomial m → IsIn vs m → ((n : Monomial) → IsMonomial n → IsIn vs n → cmp m n ≡ Greater → HasAnswer n) → HasAnswer m
      step m v in_m lower_answer ts are up same s is s_at =
          let (e, lower, low, gathered) = gather m in_m s is.0 s_at ts are up in
          let whole : SamePolynomial p f (term_product e s.monomial (get_or gs s.line []) ++ sum_of gs lower) = λ z. same z ∙ gathered z in
          elim (cases_eq (e % p) 0) [
            | inl none ↦
                from_greatest (IsUnder m) lower low (without_top m s e lower whole none)
                (λ t is_t all.
                let in_t = top_in t (is_t.0, is_t.1) in
                lower_answer (top t) in_t.0 in_t.1 is_t.2 lower (each_weaker (IsUnder m) IsIn-variables (λ x h. (h.0, h.1)) lower low) all
                (without_top m s e lower whole none) t (is_t.0, is_t.1) refl)
            | inr some ↦
                let multiples = each_weaker (IsUnder m) (IsMultiple p cmp gs) (λ x h. h.0) lower low in
                let m_is : m ≡ l =
                top_leads m s is.0 s_at e lower multiples (each_weaker (IsUnder m) (IsBelow cmp m) (λ x h. h.2) lower low) whole some in
                let first : Multiple = record { line = s.line; factor = e; monomial = s.monomial; coefficient = s.coefficient; lead = s.lead } in (
                  (
                    s.line,
                    record {
                      within = is.0.within;
                      coefficient = s.coefficient;
                      monomial = s.lead;
                      leads = is.0.leads;
                      divides = subst (Divides s.lead) m_is (factor_divides s.monomial s.lead m is.0.monomial (lead_is_monomial cmp laws p gs lists s is.0) s_at);
                    },
                  ),
                  (
                    first ∷ lower,
                    (record { within = is.0.within; monomial = is.0.monomial; leads = is.0.leads }, multiples),
                    (
                      inl (s_at ∙ m_is),
                      each_weaker (IsUnder m) (IsUpToTop l) (λ x h. subst (λ y. IsUpTo cmp y (top x)) m_is (inr h.2)) lower low,
                    ),
                    whole,
                  ),
                )
          ]

      pub answered : (ts : List Multiple) → AllByRecursion IsIn-variables ts → SamePolynomial p f (sum_of gs ts) → Answer
      answered ts are same =
          from_greatest IsIn-variables ts are same
          (λ s is all.
          let in_s = top_in s is in
          descent_induction cmp laws vs HasAnswer step (top s) in_s.0 in_s.1 ts are all same s is refl)

-- ---- finitely many variables

module _ (p : ℕ) (prime : IsPrime p) (cmp : Monomial → Monomial → Ordering) (laws : IsMonomialOrder cmp) (gs : List Terms) (lists : AreLists gs) where
  in_more_variables : (i j : ℕ) (vs ws : List ℕ) → AreAmong vs ws → AreReplaced p cmp gs vs i j → AreReplaced p cmp gs ws i j
  in_more_variables i j vs ws among all c m d n first second =
      replaced_in_more p cmp gs vs ws i j c m d n among (all c m d n first second)

  of_leads : (vs : List ℕ) (i j a : ℕ) (x : Monomial) (b : ℕ) (y : Monomial) → IsLeading p cmp (get_or gs i []) a x → IsLeading p cmp (get_or gs j []) b y → IsReplaced p cmp gs vs i j a x b y → AreReplaced p cmp gs vs i j
  of_leads vs i j a x b y left right is c m d n first second =
      let (a_is, x_is) = one_leading cmp laws p (get_or gs i []) a c x m left first in
      let (b_is, y_is) = one_leading cmp laws p (get_or gs j []) b d y n right second in
      subst (λ k. IsReplaced p cmp gs vs i j k m d n) a_is
      (subst (λ k. IsReplaced p cmp gs vs i j a k d n) x_is
      (subst (λ k. IsReplaced p cmp gs vs i j a x k n) b_is (subst (λ k. IsReplaced p cmp gs vs i j a x b k) y_is is)))

  -- Two lines have one S-polynomial for their one pair of leading terms, or none.
  pair_replaced : AreAllRepresented p cmp gs → (i j : ℕ) → i < length gs → j < length gs → (vs : List ℕ) × AreReplaced p cmp gs vs i j
  pair_replaced represented i j h k =
      elim (leading_or_zero cmp laws p (get_or gs i []) (lists i)) [
        | inr zero ↦ ([], λ c m d n first second. absurd (first.1 (sym first.0 ∙ zero m)))
        | inl left ↦
            elim (leading_or_zero cmp laws p (get_or gs j []) (lists j)) [
              | inr zero ↦ ([], λ c m d n first second. absurd (second.1 (sym second.0 ∙ zero n)))
              | inl right ↦
                  let found = replaced p prime cmp laws gs lists i j left.0 left.1 right.0 right.1 left.2 right.2 (represented i j h k) in
                  (found.0, λ c m d n first second. of_leads found.0 i j left.0 left.1 right.0 right.1 left.2 right.2 found.1 c m d n first second)
            ]
      ]

  variables_for_all : AreAllRepresented p cmp gs → (vs : List ℕ) × ((i : ℕ) → i < length gs → (j : ℕ) → j < length gs → AreReplaced p cmp gs vs i j)
  variables_for_all represented =
      serve_all (length gs) (λ i vs. (j : ℕ) → j < length gs → AreReplaced p cmp gs vs i j)
      (λ i vs ws among all j h. in_more_variables i j vs ws among (all j h))
      (λ i h. serve_all (length gs) (λ j vs. AreReplaced p cmp gs vs i j) (λ j vs ws among all. in_more_variables i j vs ws among all) (λ j k. pair_replaced represented i j h k))

  abbrev pub IsStandard : Terms → Monomial → Type 0
  IsStandard f l =
      (ts : List Multiple) × AllByRecursion (IsMultiple p cmp gs) ts × AllByRecursion (λ t. IsUpTo cmp l (top t)) ts × SamePolynomial p f (sum_of gs ts)

  -- Buchberger's criterion, of combinations of lines
  pub of_combination : AreAllRepresented p cmp gs → (parts : Parts) → AreBefore (length gs) parts → AreTermLists parts → (f : Terms) → SamePolynomial p f (combination gs parts)
      → (c : ℕ) (l : Monomial) → IsLeading p cmp f c l → ((i : ℕ) × LeadsDivisor p cmp gs l i) × IsStandard f l
  of_combination represented parts before terms f same c l leads =
      let first = variables_for_all represented in
      let (ts, are, of, sum) = multiples_of cmp laws p gs lists parts before terms in
      let second = variables_of_all ts in
      let vs = first.0 ++ second.0 in
      answered p prime cmp laws gs lists vs
      (λ i j h k. in_more_variables i j first.0 vs (among_first first.0 second.0) (first.1 i h j k))
      f c l leads ts
      (each_both (IsMultiple p cmp gs) (HasVariables vs) (IsIn-variables p prime cmp laws gs lists vs) (λ t h k. (h, k)) ts are
      (more_variables second.0 vs ts (among_second first.0 second.0) second.1))
      (λ z. same z ∙ sum z)

  -- ---- multiples as parts

  abbrev parts_of : List Multiple → Parts
  parts_of [] = []
  parts_of (t ∷ ts) = (t.line, (t.factor, t.monomial) ∷ []) ∷ parts_of ts

  combination-parts_of : (ts : List Multiple) → combination gs (parts_of ts) ≡ sum_of gs ts
  combination-parts_of [] = refl
  combination-parts_of (t ∷ ts) =
      ap₂ ◌++◌ (append-nil (term_product t.factor t.monomial (get_or gs t.line []))) (combination-parts_of ts)

  parts_before : (ts : List Multiple) → AllByRecursion (IsMultiple p cmp gs) ts → AreBefore (length gs) (parts_of ts)
  parts_before [] v = tt
  parts_before (t ∷ ts) v = (v.0.within, parts_before ts v.1)

  parts_terms : (ts : List Multiple) → AllByRecursion (IsMultiple p cmp gs) ts → AreTermLists (parts_of ts)
  parts_terms [] v = tt
  parts_terms (t ∷ ts) v = ((v.0.monomial, tt), parts_terms ts v.1)

  -- a single term has one monomial
  only_monomial : (k : ℕ) (q m : Monomial) → coefficient p ((k, q) ∷ []) m ≢ 0 → m ≡ q
  only_monomial k q m some =
      elim (cases_monomial q m) [
        | inl is ↦ sym is
        | inr other ↦ absurd (some (coefficient-other p (k, q) [] m other ∙ coefficient-none p m))
      ]

  not_above : (l x : Monomial) → IsUpTo cmp l x → cmp x l ≢ Greater
  not_above l x (inl same) above = not_itself cmp laws x l above same
  not_above l x (inr below) above = not_itself cmp laws l l (greater_trans cmp laws l x l below above) refl

  parts_at_most : (f : Terms) (e : ℕ) (l : Monomial) → IsLeading p cmp f e l → (ts : List Multiple) → AllByRecursion (IsMultiple p cmp gs) ts → AllByRecursion (λ t. IsUpTo cmp l (top t)) ts → ArePartsAtMost p cmp gs f (parts_of ts)
  parts_at_most f e l leads [] v up i m has = absurd has
  parts_at_most f e l leads (t ∷ ts) v up i m (inl (here, some)) = (
    t.coefficient,
    t.lead,
    subst (λ n. IsLeading p cmp (get_or gs n []) t.coefficient t.lead) here v.0.leads,
    (e, l, leads, subst (λ q. cmp (mono_mul q t.lead) l ≢ Greater) (sym (only_monomial t.factor t.monomial m some)) (not_above l (top t) up.0)),
  )
  parts_at_most f e l leads (t ∷ ts) v up i m (inr there) = parts_at_most f e l leads ts v.1 up.1 i m there

  standard_reduces : (f : Terms) (e : ℕ) (l : Monomial) → IsLeading p cmp f e l → IsStandard f l → ReducesToZero p cmp gs f
  standard_reduces f e l leads (ts, are, up, same) = (
    parts_of ts,
    parts_before ts are,
    parts_at_most f e l leads ts are up,
    (λ z. same z ∙ ap (λ us. coefficient p us z) (sym (combination-parts_of ts))),
    parts_terms ts are,
  )

  zero_reduces : (f : Terms) → ((m : Monomial) → coefficient p f m ≡ 0) → ReducesToZero p cmp gs f
  zero_reduces f zero = ([], tt, (λ i m has. absurd has), (λ m. zero m ∙ sym (coefficient-none p m)), tt)

  -- Where all pairs are represented, all are closed.
  pub all_closed : AreAllRepresented p cmp gs → IsClosed p cmp gs
  all_closed represented i j h g s (c, m, d, n, first, second, k, l, kc, ld, same) =
      let a = get_or gs i [] in
      let b = get_or gs j [] in
      let mm : IsMonomial m = lead_monomial p cmp a c m (lists i) first in
      let nm : IsMonomial n = lead_monomial p cmp b d n (lists j) second in
      let low = mono_lcm m n in
      let lm : IsMonomial low = IsMonomial-mono_lcm m n mm nm in
      let whole = difference p (term_product k (mono_quotient low m) a) (term_product l (mono_quotient low n) b) in
      let whole_is : IsSPolynomial p cmp a b whole = (c, m, d, n, first, second, k, l, kc, ld, λ _. refl) in
      let terms : AreTerms whole =
      AreTerms-difference p k l (mono_quotient low m) (mono_quotient low n) a b (IsMonomialFrom-mono_quotient 0 low m lm) (IsMonomialFrom-mono_quotient 0 low n lm) (lists i) (lists j) in
      let (parts, before, below, sum, are) = represented i j h g c m d n first second whole whole_is in
      let reduces : ReducesToZero p cmp gs whole =
      elim (leading_or_zero cmp laws p whole terms) [
        | inl lead ↦
            standard_reduces whole lead.0 lead.1 lead.2 (of_combination represented parts before are whole sum lead.0 lead.1 lead.2).1
        | inr zero ↦ zero_reduces whole zero
      ] in
      one_s_polynomial_closes p cmp laws gs i j whole whole_is reduces s (c, m, d, n, first, second, k, l, kc, ld, same)
