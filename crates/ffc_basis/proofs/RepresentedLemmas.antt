-- S-polynomials that are sums of multiples of lines below the least common multiple of the two leading monomials. One that
-- reduces to zero is such a sum. Where the leading monomial of line k divides the least common multiple of those of lines i
-- and j, S(i, j) is u*S(i, k) + w*S(k, j) for monomials u and w, and such a sum as both are.
use Rattle.std.proofs.Common.{◌≡◌, ◌≢◌, ℕ, ◌<◌, List, [], ◌++◌, length, get_or, refl, sym, ap, ap₂, ◌∙◌, subst, inl, inr}
use Rattle.std.proofs.Math.ListN.{get_or-append}
use Rattle.std.specs.declared.cmp.Ordering.{Ordering}
use Rattle.std.specs.declared.cmp.Ordering.TheVariants.{Greater}
use Rattle.ffc_field.specs.Modular.{IsPrime}
use Rattle.ffc_ring.specs.Monomial.{Monomial, IsMonomial, mono_mul, mono_lcm, mono_quotient, Divides}
use Rattle.ffc_ring.specs.Polynomial.{Terms, coefficient, SamePolynomial, term_product, difference}
use Rattle.ffc_ring.proofs.MonomialLemmas.{IsMonomial-mono_mul, IsMonomial-mono_lcm, mono_mul_comm, mono_mul_assoc, mono_mul-mono_quotient, IsMonomialFrom-mono_quotient, first_divides_lcm, second_divides_lcm, lcm_divides}
use Rattle.ffc_ring.proofs.PolynomialLemmas.{same_sums, same_term_products}
use Rattle.ffc_mono.specs.MonomialOrder.{IsMonomialOrder}
use Rattle.ffc_mono.specs.Leading.{IsLeading}
use Rattle.ffc_mono.proofs.LeadingLemmas.{one_leading}
use Rattle.ffc_basis.specs.Chains.{IsLeadLcm}
use Rattle.ffc_basis.specs.Completion.{IsSPolynomial, IsPairClosed}
use Rattle.ffc_basis.specs.Dividing.{LeadsDivisor}
use Rattle.ffc_line.specs.Lines.{Parts, AreLists, combination, AreTermLists}
use Rattle.ffc_basis.specs.PairTable.{AreBothClosed}
use Rattle.ffc_basis.specs.Representations.{ArePartsBelow, IsSumBelow, IsPairRepresented, AreBothRepresented}
use Rattle.ffc_basis.proofs.ChainLemmas.{raised, combination-raised, AreBefore-raised, AreTermLists-raised, HasMonomial-raised, AreBefore-append, AreTermLists-append, HasMonomial-append, made_of, chain_sum, inverse_of}
use Rattle.ffc_basis.proofs.Greatest.{IsUpTo, compared, below_trans}
use Rattle.ffc_basis.proofs.PairLemmas.{AreBefore-grown, combination-grown, lcm_commutes, length-more, part_is_before}
use Rattle.ffc_basis.proofs.PartLemmas.{combination-append}
use Rattle.ffc_basis.proofs.RaisedLemmas.{lead_monomial, below_lcm}

-- ---- lines are appended

module _ (p : ℕ) (cmp : Monomial → Monomial → Ordering) where
  grown_sum : (gs more : List Terms) (top : Monomial) (ts : Terms) → IsSumBelow p cmp gs top ts → IsSumBelow p cmp (gs ++ more) top ts
  grown_sum gs more top ts (parts, before, below, whole, lists) = (
    parts,
    AreBefore-grown (length gs) (length (gs ++ more)) parts (length-more gs more) before,
    (λ i m has.
        let there = below i m has in
        let within : i < length gs = part_is_before p (length gs) parts i m before has in
        (there.0, there.1, subst (λ b. IsLeading p cmp b there.0 there.1) (sym (get_or-append gs more [] i within)) there.2, there.3)),
    (λ m. whole m ∙ ap (λ l. coefficient p l m) (combination-grown gs more parts before)),
    lists,
  )

  pub grown_pairs_represented : (gs more : List Terms) (i j : ℕ) → i < length gs → j < length gs → IsPairRepresented p cmp gs i j → IsPairRepresented p cmp (gs ++ more) i j
  grown_pairs_represented gs more i j h g known c m d n first second s is =
      let a : get_or (gs ++ more) i [] ≡ get_or gs i [] = get_or-append gs more [] i h in
      let b : get_or (gs ++ more) j [] ≡ get_or gs j [] = get_or-append gs more [] j g in
      grown_sum gs more (mono_lcm m n) s
      (known c m d n (subst (λ t. IsLeading p cmp t c m) a first) (subst (λ t. IsLeading p cmp t d n) b second) s
      (subst (λ t. IsSPolynomial p cmp t (get_or gs j []) s) a (subst (λ t. IsSPolynomial p cmp (get_or (gs ++ more) i []) t s) b is)))

module _ (p : ℕ) (prime : IsPrime p) (cmp : Monomial → Monomial → Ordering) (laws : IsMonomialOrder cmp) (gs : List Terms) (lists : AreLists gs) where
  -- what is not above a monomial is it, or below it
  pub no_higher : (m x : Monomial) → cmp x m ≢ Greater → IsUpTo cmp m x
  no_higher m x low =
      elim (compared cmp laws m x) [
        | inl at ↦ at
        | inr (inl same) ↦ inl (sym same)
        | inr (inr above) ↦ absurd (low above)
      ]

  -- ---- what reduces to zero

  pub closed_is_represented : (i j : ℕ) → IsPairClosed p cmp gs i j → IsPairRepresented p cmp gs i j
  closed_is_represented i j closed c m d n first second s is =
      let a = get_or gs i [] in
      let b = get_or gs j [] in
      let (parts, before, at_most, whole, terms) = closed s is in
      let (k, l, kc, ld, made) = made_of p prime cmp laws a b s c m d n first second is in (
        parts,
        before,
        (λ o q has.
            let (e, r, leads, (f, t, t_leads, low)) = at_most o q has in
            let some : coefficient p s t ≢ 0 = λ none. t_leads.1 (sym t_leads.0 ∙ none) in
            let under : cmp (mono_lcm m n) t ≡ Greater =
            below_lcm p prime cmp laws a b (lists i) (lists j) c d m n first second k l kc ld t (λ none. some (made t ∙ none)) in
            (e, r, leads, below_trans cmp laws (mono_lcm m n) t (mono_mul q r) under (no_higher t (mono_mul q r) low))),
        whole,
        terms,
      )

  pub both_closed_are_represented : (i j : ℕ) → AreBothClosed p cmp gs i j → AreBothRepresented p cmp gs i j
  both_closed_are_represented i j (one, other) = (closed_is_represented i j one, closed_is_represented j i other)

  -- ---- the criterion

  -- parts times a monomial
  parts_raised : (base u top : Monomial) (parts : Parts) → IsMonomial base → IsMonomial u → AreTermLists parts → mono_mul base u ≡ top → ArePartsBelow p cmp gs base parts → ArePartsBelow p cmp gs top (raised u parts)
  parts_raised base u top parts v w terms up below i m has =
      let found = HasMonomial-raised p u parts i m w terms has in
      let q = found.0 in
      let there = below i q found.3 in
      let n = there.1 in
      let nm : IsMonomial n = lead_monomial p cmp (get_or gs i []) there.0 n (lists i) there.2 in
      let qn = mono_mul q n in
      let qm : IsMonomial qn = IsMonomial-mono_mul q n found.1 nm in
      let same : mono_mul m n ≡ mono_mul qn u =
      ap (λ z. mono_mul z n) found.2 ∙ mono_mul_assoc u q n w found.1 nm ∙ mono_mul_comm u qn w qm in
      (there.0, n, there.2, ap₂ cmp (sym up) same ∙ laws.kept base qn u v qm w ∙ there.3)

  chain_is_represented : (i j k f : ℕ) (r : Monomial) → IsLeading p cmp (get_or gs k []) f r
      → ((c : ℕ) (m : Monomial) (d : ℕ) (n : Monomial) → IsLeading p cmp (get_or gs i []) c m → IsLeading p cmp (get_or gs j []) d n → Divides r (mono_lcm m n))
      → IsPairRepresented p cmp gs i k → IsPairRepresented p cmp gs k j → IsPairRepresented p cmp gs i j
  chain_is_represented i j k f r third divides one two c m d n first second s is =
      let a = get_or gs i [] in
      let b = get_or gs j [] in
      let e = get_or gs k [] in
      let mm : IsMonomial m = lead_monomial p cmp a c m (lists i) first in
      let nm : IsMonomial n = lead_monomial p cmp b d n (lists j) second in
      let rm : IsMonomial r = lead_monomial p cmp e f r (lists k) third in
      let r_divides : Divides r (mono_lcm m n) = divides c m d n first second in
      let top = mono_lcm m n in
      let left = mono_lcm m r in
      let right = mono_lcm r n in
      let tm : IsMonomial top = IsMonomial-mono_lcm m n mm nm in
      let lm : IsMonomial left = IsMonomial-mono_lcm m r mm rm in
      let gm : IsMonomial right = IsMonomial-mono_lcm r n rm nm in
      let u = mono_quotient top left in
      let w = mono_quotient top right in
      let um : IsMonomial u = IsMonomialFrom-mono_quotient 0 top left tm in
      let wm : IsMonomial w = IsMonomialFrom-mono_quotient 0 top right tm in
      let left_up : mono_mul left u ≡ top = mono_mul-mono_quotient top left tm lm (lcm_divides m r top mm rm (first_divides_lcm m n mm nm) r_divides) in
      let right_up : mono_mul right w ≡ top = mono_mul-mono_quotient top right tm gm (lcm_divides r n top rm nm r_divides (second_divides_lcm m n mm nm)) in
      let x = inverse_of p prime cmp laws a c m first in
      let y = inverse_of p prime cmp laws b d n second in
      let z = inverse_of p prime cmp laws e f r third in
      let s1 = difference p (term_product x.0 (mono_quotient left m) a) (term_product z.0 (mono_quotient left r) e) in
      let s2 = difference p (term_product z.0 (mono_quotient right r) e) (term_product y.0 (mono_quotient right n) b) in
      let s1_is : IsSPolynomial p cmp a e s1 = (c, m, f, r, first, third, x.0, z.0, x.1, z.1, λ _. refl) in
      let s2_is : IsSPolynomial p cmp e b s2 = (f, r, d, n, third, second, z.0, y.0, z.1, y.1, λ _. refl) in
      let sum : SamePolynomial p s (term_product 1 u s1 ++ term_product 1 w s2) =
      chain_sum p prime cmp laws a b e s s1 s2 c d f m n r u w (lists i) (lists j) (lists k) first second third um wm left_up right_up is s1_is s2_is in
      let v1 : IsSumBelow p cmp gs left s1 = one c m f r first third s1 s1_is in
      let v2 : IsSumBelow p cmp gs right s2 = two f r d n third second s2 s2_is in
      let xs = raised u v1.0 in
      let ys = raised w v2.0 in (
        xs ++ ys,
        AreBefore-append (length gs) xs ys (AreBefore-raised (length gs) u v1.0 v1.1) (AreBefore-raised (length gs) w v2.0 v2.1),
        (λ l q has.
            elim (HasMonomial-append p xs ys l q has) [
              | inl here ↦ parts_raised left u top v1.0 lm um v1.4 left_up v1.2 l q here
              | inr here ↦ parts_raised right w top v2.0 gm wm v2.4 right_up v2.2 l q here
            ]),
        (λ q.
            sum q
            ∙ same_sums p (term_product 1 u s1) (combination gs xs) (term_product 1 w s2) (combination gs ys)
            (λ l. same_term_products p 1 u s1 (combination gs v1.0) v1.3 l ∙ sym (combination-raised p u gs v1.0 um lists v1.4 l))
            (λ l. same_term_products p 1 w s2 (combination gs v2.0) v2.3 l ∙ sym (combination-raised p w gs v2.0 wm lists v2.4 l)) q
            ∙ ap (λ ts. coefficient p ts q) (sym (combination-append gs xs ys))),
        AreTermLists-append xs ys (AreTermLists-raised u v1.0 um v1.4) (AreTermLists-raised w v2.0 wm v2.4),
      )

  -- two lines have one pair of leading monomials
  pub divides_each : (a b : Terms) (r top : Monomial) → IsLeadLcm p cmp a b top → Divides r top
      → (c : ℕ) (m : Monomial) (d : ℕ) (n : Monomial) → IsLeading p cmp a c m → IsLeading p cmp b d n → Divides r (mono_lcm m n)
  divides_each a b r top (e, x, f, y, left, right, is) divides c m d n first second =
      let one = one_leading cmp laws p a e c x m left first in
      let two = one_leading cmp laws p b f d y n right second in
      subst (Divides r) (is ∙ ap₂ mono_lcm one.1 two.1) divides

  -- the pair of two lines is represented as both with a third one are
  pub follows_from_both : (i j k : ℕ) (top : Monomial) → IsLeadLcm p cmp (get_or gs i []) (get_or gs j []) top → LeadsDivisor p cmp gs top k → AreBothRepresented p cmp gs i k → AreBothRepresented p cmp gs k j → AreBothRepresented p cmp gs i j
  follows_from_both i j k top multiple third one two =
      let a = get_or gs i [] in
      let b = get_or gs j [] in
      let r = third.monomial in
      let each = divides_each a b r top multiple third.divides in (
        chain_is_represented i j k third.coefficient r third.leads each one.0 two.0,
        chain_is_represented j i k third.coefficient r third.leads
            (λ d n c m second first.
            subst (Divides r) (lcm_commutes m n (lead_monomial p cmp a c m (lists i) first) (lead_monomial p cmp b d n (lists j) second)) (each c m d n first second))
            two.1 one.1,
      )
