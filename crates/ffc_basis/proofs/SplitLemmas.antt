-- Steps on a remainder that is split into finished terms and a sum of others, all of them below.
use Rattle.std.proofs.Common.{◌≡◌, ◌≢◌, ◌⊎◌, ℕ, ◌+◌, ◌-◌, ◌%◌, ◌<◌, ◌≤◌, List, [], ◌∷◌, ◌++◌, length, get_or, refl, sym, ap, ap₂, ◌∙◌, subst, inl, inr, arith, append_assoc, mod-lt, mod-eq_of_lt, length-append}
use Rattle.std.proofs.lemmas.Bool.{cases_eq}
use Rattle.std.proofs.lemmas.List.{get_or_append_left}
use Rattle.std.specs.declared.cmp.Ordering.{Ordering}
use Rattle.std.specs.declared.cmp.Ordering.TheVariants.{Greater}
use Rattle.ffc_base.specs.Metering.{Spending, one_more}
use Rattle.ffc_base.specs.declared.meter.Unit.TheVariants.{Reduction}
use Rattle.ffc_field.specs.Modular.{IsPrime, add_mod, mul_mod}
use Rattle.ffc_field.proofs.ModularLaws.{add_mod-comm, add_mod-zero, add_mod-cancel}
use Rattle.ffc_ring.specs.Monomial.{Monomial, IsMonomial, mono_mul}
use Rattle.ffc_ring.specs.Polynomial.{Terms, AreTerms, coefficient, SamePolynomial, term_product, scaled, difference, PassesTerms, AreItsMonomials}
use Rattle.ffc_ring.proofs.PolynomialLemmas.{cases_monomial, written-at, coefficient-append, same_sums}
use Rattle.ffc_mono.specs.MonomialOrder.{IsMonomialOrder}
use Rattle.ffc_mono.specs.Leading.{IsLeading}
use Rattle.ffc_mono.proofs.LeadingLemmas.{greater_trans, not_itself, one_leading}
use Rattle.ffc_poly.specs.Ordered.{IsAbove, IsOrdered, residues}
use Rattle.ffc_dense.specs.Tables.{LeadsMultiple}
use Rattle.ffc_line.specs.Lines.{Parts, combination, IsPolynomial}
use Rattle.ffc_basis.specs.Records.{AreOfDifferentLines}
use Rattle.ffc_basis.specs.Reduction.{IsIrreducible, IsReduced, IsStep, AreIrreducible, IsRecorded}
use Rattle.ffc_basis.specs.Remainders.{IsRemainder, IsRecordedReduction, IsCounted, IsUnderway, Continues, StaysBounded, IsSplit, IsStepOfLead}
use Rattle.ffc_basis.specs.Units.{TakesReductions}
use Rattle.ffc_basis.proofs.OrderedTerms.{coefficient-none, coefficient-other, coefficient-above, first_nonzero, above_with, IsLeading-first}
use Rattle.ffc_basis.proofs.PartLemmas.{some_of_sum, only_monomial}
use Rattle.ffc_basis.proofs.ReductionLemmas.{some_at, step_keeps, next_is_below, next_up_to, m_monomial, m_reducible}
use Rattle.ffc_basis.proofs.BoundLemmas.{counted_same, counted_cancel, counted_is_bounded}
use Rattle.ffc_basis.proofs.UnitLemmas.{takes_both}
use Rattle.ffc_basis.proofs.TermCounts.{few_terms_pass_no_limit, length-term_product}

-- ---- from one remainder to another

remainder_same : (p : ℕ) (cmp : Monomial → Monomial → Ordering) (gs : List Terms) (poly rest next : Terms) (parts : Parts) → SamePolynomial p rest next → IsRemainder p cmp gs poly rest parts → IsRemainder p cmp gs poly next parts
remainder_same p cmp gs poly rest next parts same r = record {
  whole = λ m. r.whole m ∙ same_sums p rest next (combination gs parts) (combination gs parts) same (λ _. refl) m;
  before = r.before;
  at_most = r.at_most;
  lower = λ m some. r.lower m (λ none. some (sym (same m) ∙ none));
}

-- the same polynomial with the same parts
pub continues_same : (p : ℕ) (cmp : Monomial → Monomial → Ordering) (gs : List Terms) (rest next : Terms) (parts others : Parts) (s t : Spending) → SamePolynomial p rest next → others ≡ parts → t ≡ s → Continues p cmp gs rest parts s next others t
continues_same p cmp gs rest next parts others s t same is unpaid poly old h =
    subst (λ ts. IsUnderway p cmp gs poly next ts old t) (sym is)
    (subst (λ u. IsUnderway p cmp gs poly next parts old u) (sym unpaid) record {
      remainder = remainder_same p cmp gs poly rest next parts same h.remainder;
      lines = h.lines;
      counted = counted_same p cmp gs poly rest next old s same h.counted;
    })

pub continues_both : (p : ℕ) (cmp : Monomial → Monomial → Ordering) (gs : List Terms) (a b c : Terms) (parts others more : Parts) (s t u : Spending) → Continues p cmp gs a parts s b others t → Continues p cmp gs b others t c more u → Continues p cmp gs a parts s c more u
continues_both p cmp gs a b c parts others more s t u first second poly old h = second poly old (first poly old h)

pub stays_bounded : (p : ℕ) (cmp : Monomial → Monomial → Ordering) (gs : List Terms) (rest next : Terms) (parts others : Parts) (s t u : Spending) → Continues p cmp gs rest parts s next others t → TakesReductions s t → u ≡ t → StaysBounded p cmp gs rest parts s u
stays_bounded p cmp gs rest next parts others s t u goes taken is poly old takes h =
    counted_is_bounded p cmp gs poly next old t u is (takes_both old s t takes taken) (goes poly old h).counted

-- a reduction with its count, between two steps
pub begins_underway : (p : ℕ) (cmp : Monomial → Monomial → Ordering) (gs : List Terms) (poly rest : Terms) (parts : Parts) (old s : Spending) → IsRecordedReduction p cmp gs poly rest parts → IsCounted p cmp gs poly rest old s → IsUnderway p cmp gs poly rest parts old s
begins_underway p cmp gs poly rest parts old s r counted = record { remainder = r.remainder; lines = r.lines; counted = counted }

-- and with its terms in order again
pub ends_underway : (p : ℕ) (cmp : Monomial → Monomial → Ordering) (gs : List Terms) (poly rest : Terms) (parts : Parts) (old s : Spending) → IsUnderway p cmp gs poly rest parts old s → IsPolynomial p cmp rest → IsRecordedReduction p cmp gs poly rest parts
ends_underway p cmp gs poly rest parts old s h is = record { remainder = h.remainder; left = is; lines = h.lines }

-- ---- finished terms

residues_push : {F : Type 0} (value : F → ℕ) (xs : List (F × Monomial)) (x : F × Monomial) → residues value (xs ++ x ∷ []) ≡ residues value xs ++ (value x.0, x.1) ∷ []
residues_push value [] x = refl
residues_push value (y ∷ xs) x = ap (λ l. (value y.0, y.1) ∷ l) (residues_push value xs x)

pub front_pushed : {F : Type 0} (value : F → ℕ) (xs ys : List (F × Monomial)) (x : F × Monomial) → ys ≡ xs ++ x ∷ [] → residues value ys ≡ residues value xs ++ (value x.0, x.1) ∷ []
front_pushed value xs ys x is = ap (residues value) is ∙ residues_push value xs x

pub nothing_is_reduced : (p : ℕ) (cmp : Monomial → Monomial → Ordering) (gs : List Terms) (front : Terms) → front ≡ [] → IsReduced p cmp gs front
nothing_is_reduced p cmp gs front is m some = absurd (some (ap (λ l. coefficient p l m) is ∙ coefficient-none p m))

leading_same : (p : ℕ) (cmp : Monomial → Monomial → Ordering) (a b : Terms) (c : ℕ) (m : Monomial) → SamePolynomial p a b → IsLeading p cmp a c m → IsLeading p cmp b c m
leading_same p cmp a b c m same l = (sym (same m) ∙ l.0, l.1, λ n some off. l.2 n (λ none. some (sym (same n) ∙ none)) off)

-- the multiple of a line that has the leading term of the same polynomial is a step
pub held_leads : (p : ℕ) (cmp : Monomial → Monomial → Ordering) (gs : List Terms) (old new line : Terms) (i c k d : ℕ) (n q : Monomial) → get_or gs i [] ≡ line → SamePolynomial p new old → LeadsMultiple p cmp gs old i c q → AreTerms line → IsMonomial n → IsLeading p cmp line d n → mul_mod p k d ≡ c → IsStepOfLead p cmp gs new i k q
held_leads p cmp gs old new line i c k d n q is same held terms monomial leads quotient =
    let own : IsLeading p cmp (get_or gs i []) d n = subst (λ ts. IsLeading p cmp ts d n) (sym is) leads in (
      c,
      mono_mul n q,
      leading_same p cmp old new c (mono_mul n q) (λ m. sym (same m)) (held.1 d n (subst AreTerms (sym is) terms) monomial own),
      record {
        within = held.0;
        leading = (d, n, own, refl, quotient);
      },
    )

-- all of a polynomial is left
pub begins_split : (p : ℕ) (cmp : Monomial → Monomial → Ordering) (front left poly : Terms) (most : ℕ) → front ≡ [] → SamePolynomial p left poly → most ≡ length poly → length poly ≤ 131072 → IsSplit p cmp front left most
begins_split p cmp front left poly most is same many fits = record {
  above = λ y x some other. absurd (some (ap (λ l. coefficient p l y) is ∙ coefficient-none p y));
  few = (poly, (λ m. ap (λ l. coefficient p (l ++ left) m) is ∙ same m), omega arith);
  within = omega arith;
}

-- there are as few terms as are counted
pub tightened : (p : ℕ) (cmp : Monomial → Monomial → Ordering) (front left : Terms) (most n : ℕ) → IsSplit p cmp front left most → (n ≡ most) ⊎ ((length front + length left ≤ n) × (n ≤ most)) → IsSplit p cmp front left n
tightened p cmp front left most n s (inl same) = subst (IsSplit p cmp front left) (sym same) s
tightened p cmp front left most n s (inr fewer) = record {
  above = s.above;
  few = (front ++ left, (λ m. refl), omega (arith, fewer.0, length-append front left));
  within = omega (arith, fewer.1, s.within);
}

module _ (p : ℕ) (prime : IsPrime p) (cmp : Monomial → Monomial → Ordering) (laws : IsMonomialOrder cmp) where
  positive : 0 < p
  positive = omega (arith, prime.least)

  -- a leading monomial of the same polynomial is irreducible, where one is
  pub lead_irreducible : (gs : List Terms) (a b : Terms) (c d : ℕ) (m n : Monomial) → SamePolynomial p b a → IsLeading p cmp a c m → IsIrreducible p cmp gs m → IsLeading p cmp b d n → IsIrreducible p cmp gs n
  lead_irreducible gs a b c d m n same l none k =
      subst (IsIrreducible p cmp gs) (one_leading cmp laws p a c d m n l (leading_same p cmp b a d n same k)).1 none

  -- the step of a leading term is one of the same polynomial's
  pub step_same : (gs : List Terms) (a b : Terms) (c : ℕ) (m : Monomial) (i k : ℕ) (q : Monomial) → SamePolynomial p b a → IsLeading p cmp a c m → IsStep p cmp gs c m i k q → IsStepOfLead p cmp gs b i k q
  step_same gs a b c m i k q same l step = (c, m, leading_same p cmp a b c m (λ n. sym (same n)) l, step)

  -- ---- coefficients of a sum where one of both has none

  sum_of_none : (a b : Terms) (x : Monomial) → coefficient p a x ≡ 0 → coefficient p (a ++ b) x ≡ coefficient p b x
  sum_of_none a b x none =
      coefficient-append p a b x ∙ ap (λ k. add_mod p k (coefficient p b x)) none ∙ add_mod-comm p 0 (coefficient p b x) ∙ add_mod-zero p (coefficient p b x) (mod-lt _ positive)

  sum_with_none : (a b : Terms) (x : Monomial) → coefficient p b x ≡ 0 → coefficient p (a ++ b) x ≡ coefficient p a x
  sum_with_none a b x none =
      coefficient-append p a b x ∙ ap (λ k. add_mod p (coefficient p a x) k) none ∙ add_mod-zero p (coefficient p a x) (mod-lt _ positive)

  none_before : (front left : Terms) (most : ℕ) → IsSplit p cmp front left most → (x : Monomial) → coefficient p left x ≢ 0 → coefficient p front x ≡ 0
  none_before front left most s x some =
      elim (cases_eq (coefficient p front x) 0) [
        | inl none ↦ none
        | inr found ↦ absurd (not_itself cmp laws x x (s.above x x found some) refl)
      ]

  none_after : (front left : Terms) (most : ℕ) → IsSplit p cmp front left most → (x : Monomial) → coefficient p front x ≢ 0 → coefficient p left x ≡ 0
  none_after front left most s x some =
      elim (cases_eq (coefficient p left x) 0) [
        | inl none ↦ none
        | inr found ↦ absurd (not_itself cmp laws x x (s.above x x some found) refl)
      ]

  -- ---- the same polynomial, split otherwise

  pub split_same : (front a b : Terms) (most : ℕ) → SamePolynomial p b a → IsSplit p cmp front a most → IsSplit p cmp front b most
  split_same front a b most same s = record {
    above = λ y x some other. s.above y x some (λ none. other (same x ∙ none));
    few = (s.few.0, (λ m. same_sums p front front b a (λ _. refl) same m ∙ s.few.1 m), s.few.2);
    within = s.within;
  }

  pub whole_same : (front a b : Terms) → SamePolynomial p b a → SamePolynomial p (front ++ b) (front ++ a)
  whole_same front a b same = same_sums p front front b a (λ _. refl) same

  pub whole_stays : (front others left next : Terms) → others ≡ front → SamePolynomial p next left → SamePolynomial p (front ++ left) (others ++ next)
  whole_stays front others left next is same m = sym (ap (λ ts. coefficient p (ts ++ next) m) is ∙ whole_same front left next same m)

  -- ---- a term more is finished

  single_at : (c : ℕ) (m : Monomial) → c < p → coefficient p ((c, m) ∷ []) m ≡ c
  single_at c m low = ap (λ k. k % p) (written-at m (c, m) [] refl ∙ omega arith) ∙ mod-eq_of_lt low

  -- a monomial that is still left was left, and is not the finished one
  still_left : (left next : Terms) (c : ℕ) (m : Monomial) → IsLeading p cmp left c m → SamePolynomial p left ((c, m) ∷ next) → (x : Monomial) → coefficient p next x ≢ 0 → (coefficient p left x ≢ 0) × (x ≢ m)
  still_left left next c m lead same x some =
      let low : coefficient p left m < p = mod-lt _ positive in
      let below : c < p = omega (arith, lead.0) in
      let sum : add_mod p c (coefficient p next m) ≡ c =
      ap (λ k. add_mod p k (coefficient p next m)) (sym (single_at c m below)) ∙ sym (coefficient-append p ((c, m) ∷ []) next m) ∙ sym (same m) ∙ lead.0 in
      let none : coefficient p next m ≡ 0 =
      add_mod-cancel p (coefficient p next m) 0 c (mod-lt _ positive) positive (omega arith)
      (add_mod-comm p (coefficient p next m) c ∙ sum ∙ sym (add_mod-comm p 0 c ∙ add_mod-zero p c below)) in
      let apart : x ≢ m = λ e. some (ap (coefficient p next) e ∙ none) in (
        (λ nothing. some (sym (coefficient-other p (c, m) next x (λ e. apart (sym e))) ∙ sym (same x) ∙ nothing)),
        apart,
      )

  pub finished_same : (front left next : Terms) (c : ℕ) (m : Monomial) → SamePolynomial p left ((c, m) ∷ next) → SamePolynomial p ((front ++ (c, m) ∷ []) ++ next) (front ++ left)
  finished_same front left next c m same x =
      ap (λ l. coefficient p l x) (append_assoc front ((c, m) ∷ []) next) ∙ same_sums p front front ((c, m) ∷ next) left (λ _. refl) (λ n. sym (same n)) x

  pub finished_splits : (front left next : Terms) (most c : ℕ) (m : Monomial) → IsSplit p cmp front left most → IsLeading p cmp left c m → SamePolynomial p left ((c, m) ∷ next) → IsSplit p cmp (front ++ (c, m) ∷ []) next most
  finished_splits front left next most c m s lead same = record {
    above = λ y x some other.
        let was = still_left left next c m lead same x other in
        elim (some_of_sum p front ((c, m) ∷ []) y some) [
          | inl old ↦ s.above y x old was.0
          | inr new ↦ subst (λ n. cmp n x ≡ Greater) (sym (only_monomial p c m y ((c, m) ∷ []) (λ _. refl) new)) (lead.2 x was.0 was.1)
        ];
    few = (s.few.0, (λ n. finished_same front left next c m same n ∙ s.few.1 n), s.few.2);
    within = s.within;
  }

  pub finished_reduced : (gs : List Terms) (front : Terms) (c : ℕ) (m : Monomial) → IsReduced p cmp gs front → IsIrreducible p cmp gs m → IsReduced p cmp gs (front ++ (c, m) ∷ [])
  finished_reduced gs front c m reduced none y some =
      elim (some_of_sum p front ((c, m) ∷ []) y some) [
        | inl old ↦ reduced y old
        | inr new ↦ subst (IsIrreducible p cmp gs) (sym (only_monomial p c m y ((c, m) ∷ []) (λ _. refl) new)) none
      ]

  -- ---- the leading term is cancelled

  whole_next : (front left next multiple : Terms) → SamePolynomial p next (difference p left multiple) → SamePolynomial p (front ++ next) (difference p (front ++ left) multiple)
  whole_next front left next multiple same m =
      same_sums p front front next (difference p left multiple) (λ _. refl) same m ∙ ap (λ l. coefficient p l m) (sym (append_assoc front left (scaled (p - 1) multiple)))

  module _ (gs : List Terms) (i k : ℕ) (q : Monomial) (front left next : Terms) (most : ℕ) (split : IsSplit p cmp front left most) (leading : IsStepOfLead p cmp gs left i k q) (u : IsMonomial q) (below : k < p) (v : AreTerms (get_or gs i [])) (same : SamePolynomial p next (difference p left (term_product k q (get_or gs i [])))) where
    abbrev c : ℕ
    c = leading.0

    abbrev m : Monomial
    m = leading.1

    m_left : coefficient p left m ≢ 0
    m_left none = leading.2.1 (sym leading.2.0 ∙ none)

    -- each monomial that is left is below the cancelled one
    under_cancelled : (x : Monomial) → coefficient p next x ≢ 0 → cmp m x ≡ Greater
    under_cancelled x some =
        elim (next_is_below p prime cmp laws 1024 gs i k q left c m leading.2.0 leading.2.1 u below v leading.3 next same x some) [
          | inl (old, other) ↦ leading.2.2 x old other
          | inr under ↦ under
        ]

    in_whole : coefficient p (front ++ left) m ≡ c
    in_whole = sum_of_none front left m (none_before front left most split m m_left) ∙ leading.2.0

    in_whole_some : coefficient p (front ++ left) m ≢ 0
    in_whole_some none = leading.2.1 (sym in_whole ∙ none)

    pub cancelled_continues : (old new : Parts) (s t : Spending) → IsReduced p cmp gs front → IsRecorded p old new i k q → (AreOfDifferentLines old → AreOfDifferentLines new) → t ≡ one_more s Reduction → Continues p cmp gs (front ++ left) old s (front ++ next) new t
    cancelled_continues old new s t reduced recorded are_lines taken poly begun h =
        let whole = whole_next front left next (term_product k q (get_or gs i [])) same in record {
          remainder = step_keeps p prime cmp laws 1024 gs i k q (front ++ left) c m in_whole leading.2.1 u below v leading.3 (front ++ next) old new whole recorded poly h.remainder;
          lines = are_lines h.lines;
          counted = counted_cancel cmp laws p gs poly (front ++ left) (front ++ next) m begun s t
              (m_monomial p prime cmp laws 1024 gs i k q (front ++ left) c m in_whole leading.2.1 u below v leading.3) in_whole_some
              (m_reducible p prime cmp laws 1024 gs i k q (front ++ left) c m in_whole leading.2.1 u below v leading.3)
              (λ x some. elim (some_of_sum p front next x some) [ inl first ↦ inl (reduced x first) | inr after ↦ inr (under_cancelled x after) ])
              (next_up_to p prime cmp laws 1024 gs i k q (front ++ left) c m in_whole leading.2.1 u below v leading.3 (front ++ next) whole)
              taken h.counted;
        }

    pub cancelled_splits : (sum : ℕ) → sum ≡ most + length (get_or gs i []) → sum ≤ 131072 → IsSplit p cmp front next sum
    cancelled_splits sum many fits =
        let multiple = term_product k q (get_or gs i []) in
        let all = split.few.0 in
        let long : length (all ++ scaled (p - 1) multiple) ≡ length all + length (get_or gs i []) =
        length-append all (scaled (p - 1) multiple) ∙ ap (λ n. length all + n) (length-term_product (p - 1) [] multiple ∙ length-term_product k q (get_or gs i [])) in record {
          above = λ y x some other. greater_trans cmp laws y m x (split.above y m some m_left) (under_cancelled x other);
          few = (
            all ++ scaled (p - 1) multiple,
            (λ n. whole_next front left next multiple same n ∙ same_sums p (front ++ left) all (scaled (p - 1) multiple) (scaled (p - 1) multiple) split.few.1 (λ _. refl) n),
            omega (arith, split.few.2),
          );
          within = fits;
        }

  -- ---- both as one list of terms

  monomials_of_front : (front left : Terms) (most : ℕ) → IsSplit p cmp front left most → (ms : List Monomial) → AreItsMonomials p front ms → AreItsMonomials p (front ++ left) ms
  monomials_of_front front left most s [] are = tt
  monomials_of_front front left most s (m ∷ ms) are =
      ((λ none. are.0 (sym (sum_with_none front left m (none_after front left most s m are.0)) ∙ none)), are.1, monomials_of_front front left most s ms are.2)

  pub front_passes_no_limit : (front left : Terms) (most : ℕ) → IsSplit p cmp front left most → PassesTerms p 131072 front → ⊥
  front_passes_no_limit front left most s (ms, long, are) =
      few_terms_pass_no_limit p 131072 (front ++ left) s.few.0 s.few.1 (omega (arith, s.few.2, s.within)) (ms, long, monomials_of_front front left most s ms are)

  pub whole_passes_no_limit : (front left head tail : Terms) (most : ℕ) → IsSplit p cmp front left most → SamePolynomial p head front → SamePolynomial p tail left → PassesTerms p 131072 (head ++ tail) → ⊥
  whole_passes_no_limit front left head tail most s first second =
      few_terms_pass_no_limit p 131072 (head ++ tail) s.few.0 (λ m. same_sums p head front tail left first second m ∙ s.few.1 m) (omega (arith, s.few.2, s.within))

  module _ (limit : ℕ) where
    above_sum : (m : Monomial) (a b : Terms) → IsAbove cmp m a → IsAbove cmp m b → IsAbove cmp m (a ++ b)
    above_sum m [] b v w = w
    above_sum m (t ∷ a) b v w = (v.0, above_sum m a b v.1 w)

    other_than_first : (t : ℕ × Monomial) (a : Terms) → IsOrdered p cmp limit (t ∷ a) → (x : Monomial) → coefficient p a x ≢ 0 → t.1 ≢ x
    other_than_first t a o x some = not_itself cmp laws t.1 x (above_with p cmp laws limit t.1 a o.4 x some)

    in_longer : (t : ℕ × Monomial) (a : Terms) → IsOrdered p cmp limit (t ∷ a) → (x : Monomial) → coefficient p a x ≢ 0 → coefficient p (t ∷ a) x ≢ 0
    in_longer t a o x some none = some (sym (coefficient-other p t a x (other_than_first t a o x some)) ∙ none)

    above_monomials : (m : Monomial) (b : Terms) → IsOrdered p cmp limit b → ((x : Monomial) → coefficient p b x ≢ 0 → cmp m x ≡ Greater) → IsAbove cmp m b
    above_monomials m [] o h = tt
    above_monomials m (t ∷ b) o h = (h t.1 (first_nonzero p cmp laws limit t b o), above_monomials m b o.5 (λ x some. h x (in_longer t b o x some)))

    ordered_sum : (a b : Terms) → IsOrdered p cmp limit a → IsOrdered p cmp limit b → ((y x : Monomial) → coefficient p a y ≢ 0 → coefficient p b x ≢ 0 → cmp y x ≡ Greater) → IsOrdered p cmp limit (a ++ b)
    ordered_sum [] b o w h = w
    ordered_sum (t ∷ a) b o w h = (
      o.0,
      o.1,
      o.2,
      o.3,
      above_sum t.1 a b o.4 (above_monomials t.1 b w (λ x other. h t.1 x (first_nonzero p cmp laws limit t a o) other)),
      ordered_sum a b o.5 w (λ y x some other. h y x (in_longer t a o y some) other),
    )

    same_tails : (t s : ℕ × Monomial) (a b : Terms) → IsOrdered p cmp limit (t ∷ a) → IsOrdered p cmp limit (s ∷ b) → t ≡ s → SamePolynomial p (t ∷ a) (s ∷ b) → SamePolynomial p a b
    same_tails t s a b o w heads same x =
        elim (cases_monomial t.1 x) [
          | inl here ↦
              let none : coefficient p a x ≡ 0 = subst (λ y. coefficient p a y ≡ 0) here (coefficient-above p cmp laws limit t.1 a o.4) in
              let other : coefficient p b x ≡ 0 = subst (λ y. coefficient p b y ≡ 0) (sym (ap (λ r. r.1) heads) ∙ here) (coefficient-above p cmp laws limit s.1 b w.4) in
              none ∙ sym other
          | inr apart ↦
              sym (coefficient-other p t a x apart) ∙ same x ∙ coefficient-other p s b x (λ e. apart (ap (λ r. r.1) heads ∙ e))
        ]

    -- one list of terms in order belongs to each polynomial
    one_list : (a b : Terms) → IsOrdered p cmp limit a → IsOrdered p cmp limit b → SamePolynomial p a b → a ≡ b
    one_list [] [] o w same = refl
    one_list [] (s ∷ b) o w same = absurd (first_nonzero p cmp laws limit s b w (sym (same s.1) ∙ coefficient-none p s.1))
    one_list (t ∷ a) [] o w same = absurd (first_nonzero p cmp laws limit t a o (same t.1 ∙ coefficient-none p t.1))
    one_list (t ∷ a) (s ∷ b) o w same =
        let one = one_leading cmp laws p (s ∷ b) t.0 s.0 t.1 s.1 (leading_same p cmp (t ∷ a) (s ∷ b) t.0 t.1 same (IsLeading-first p cmp laws limit t a o)) (IsLeading-first p cmp laws limit s b w) in
        let heads : t ≡ s = ap₂ (λ (k : ℕ) (n : Monomial). (k, n)) one.0 one.1 in
        ap₂ (λ (x : ℕ × Monomial) (l : Terms). x ∷ l) heads (one_list a b o.5 w.5 (same_tails t s a b o w heads same))

    -- the finished terms stand first
    pub joined_irreducible : (gs : List Terms) (front left head tail whole : Terms) (most : ℕ) → IsSplit p cmp front left most → SamePolynomial p head front → SamePolynomial p tail left → SamePolynomial p whole (head ++ tail)
        → IsOrdered p cmp limit head → IsOrdered p cmp limit tail → IsOrdered p cmp limit whole → IsReduced p cmp gs front → AreIrreducible p cmp gs whole (length head)
    joined_irreducible gs front left head tail whole most s first second same o w v reduced j low =
        let split : (y x : Monomial) → coefficient p head y ≢ 0 → coefficient p tail x ≢ 0 → cmp y x ≡ Greater =
        λ y x some other. s.above y x (λ none. some (first y ∙ none)) (λ none. other (second x ∙ none)) in
        let is : whole ≡ head ++ tail = one_list whole (head ++ tail) v (ordered_sum head tail o w split) same in
        let here : get_or whole j (0, []) ≡ get_or head j (0, []) = ap (λ l. get_or l j (0, [])) is ∙ get_or_append_left head tail (0, []) j low in
        let n = (get_or head j (0, [])).1 in
        subst (λ t. IsIrreducible p cmp gs t.1) (sym here) (reduced n (λ none. some_at p prime cmp laws limit head j o low (first n ∙ none)))
