-- How many units a reduction takes: each cancels a monomial, and they all differ.
use Rattle.std.proofs.Common.{◌≡◌, ◌≢◌, ℕ, zero, suc, ◌+◌, ◌*◌, ◌<◌, ◌≤◌, ◌⊎◌, List, [], ◌∷◌, ◌++◌, length, get_or, sym, ap, ap₂, ◌∙◌, subst, inl, inr, arith}
use Rattle.std.proofs.Math.Nat.{mul-le-mul_right}
use Rattle.std.proofs.lemmas.Bool.{cases_eq, cases_lt}
use Rattle.std.specs.declared.cmp.Ordering.{Ordering}
use Rattle.std.specs.declared.cmp.Ordering.TheVariants.{Greater}
use Rattle.ffc_base.specs.Metering.{Spending, total, one_more}
use Rattle.ffc_base.specs.declared.meter.Unit.TheVariants.{Reduction}
use Rattle.ffc_field.specs.Binomial.{choose}
use Rattle.ffc_field.specs.Modular.{IsPrime, sub_mod}
use Rattle.ffc_field.proofs.ModularLaws.{sub_mod-self}
use Rattle.ffc_ring.specs.Monomial.{Monomial, IsMonomial, exponent, degree, Divides, mono_lcm, mono_quotient}
use Rattle.ffc_ring.specs.Polynomial.{Terms, AreTerms, coefficient, SamePolynomial, IsNoneOf, term_product}
use Rattle.ffc_ring.specs.Counting.{IsIn}
use Rattle.ffc_ring.proofs.CountingLemmas.{count_of_monomials}
use Rattle.ffc_ring.proofs.MonomialLemmas.{exponent-mono_mul, degree-mono_mul, degree_of_divisor, IsMonomialFrom-mono_quotient, exponent-mono_quotient, IsMonomial-mono_lcm, exponent-mono_lcm}
use Rattle.ffc_ring.proofs.PolynomialLemmas.{coefficient-difference, monomial_of_coefficient, shifted_monomial}
use Rattle.ffc_mono.specs.Graded.{IsGradedIn}
use Rattle.ffc_mono.specs.MonomialOrder.{IsMonomialOrder}
use Rattle.ffc_mono.proofs.LeadingLemmas.{greater_trans, not_itself}
use Rattle.ffc_line.specs.declared.line.Line.{Line}
use Rattle.ffc_line.specs.Lines.{polys_of}
use Rattle.ffc_basis.specs.Reduction.{IsIrreducible, AreIrreducible, IsCancelled}
use Rattle.ffc_basis.specs.Remainders.{AreAbove, AreCancelled, IsCounted}
use Rattle.ffc_basis.specs.Completion.{IsSPolynomial}
use Rattle.ffc_basis.specs.Completed.{IsFront}
use Rattle.ffc_basis.specs.Units.{TakesReductions, AreInVariables, IsUpTo, AreUpTo, IsReductionBound, IsPairBound, IsPairsBound, IsCompletionBound}
use Rattle.ffc_basis.specs.declared.pair.PairRecord.{PairRecord}
use Rattle.ffc_basis.specs.PairTable.{ArePairs, AreFew, IsPendingAt, seconds, settled_count}
use Rattle.ffc_basis.proofs.FewLemmas.{settled_square, pending_square}
use Rattle.ffc_poly.specs.Ordered.{IsOrdered}
use Rattle.ffc_basis.proofs.OrderedTerms.{AreTerms-ordered, coefficient-none}
use Rattle.ffc_basis.proofs.ReductionLemmas.{place_of_monomial, some_at}
use Rattle.ffc_basis.proofs.AddedLemmas.{polys-append_all}

-- nothing was taken yet
pub counted_begins : (p : ℕ) (cmp : Monomial → Monomial → Ordering) (gs : List Terms) (poly rest : Terms) (s : Spending) → rest ≡ poly → IsCounted p cmp gs poly rest s s
counted_begins p cmp gs poly rest s is = (
  [],
  record {
    different = tt;
    below = λ x some. inr tt;
    within = λ vs d graded lines up. (tt, subst (IsUpTo p vs d) (sym is) up);
  },
  omega arith,
)

-- the same of other terms of the same polynomial
pub counted_same : (p : ℕ) (cmp : Monomial → Monomial → Ordering) (gs : List Terms) (poly rest next : Terms) (old new : Spending) → SamePolynomial p rest next → IsCounted p cmp gs poly rest old new → IsCounted p cmp gs poly next old new
counted_same p cmp gs poly rest next old new same (ms, c, n) = (
  ms,
  record {
    different = c.different;
    below = λ x some. c.below x (λ none. some (sym (same x) ∙ none));
    within = λ vs d graded lines up.
        let within = c.within vs d graded lines up in
        (within.0, λ x some. within.1 x (λ none. some (sym (same x) ∙ none)));
  },
  n,
)

module _ (cmp : Monomial → Monomial → Ordering) (laws : IsMonomialOrder cmp) where
  none_of_above : (ms : List Monomial) (x : Monomial) → AreAbove cmp ms x → IsNoneOf ms x
  none_of_above [] x v = tt
  none_of_above (m ∷ ms) x v = (not_itself cmp laws m x v.0, none_of_above ms x v.1)

  above_through : (ms : List Monomial) (m x : Monomial) → AreAbove cmp ms m → cmp m x ≡ Greater → AreAbove cmp ms x
  above_through [] m x v h = tt
  above_through (n ∷ ms) m x v h = (greater_trans cmp laws n m x v.0 h, above_through ms m x v.1 h)

  -- the monomials that were cancelled are above one that is left and that a line divides
  above_reducible : (p : ℕ) (gs : List Terms) (poly rest : Terms) (ms : List Monomial) (m : Monomial) → AreCancelled p cmp gs poly rest ms → coefficient p rest m ≢ 0 → (IsIrreducible p cmp gs m → ⊥) → AreAbove cmp ms m
  above_reducible p gs poly rest ms m c some reducible =
      elim (c.below m some) [ inl none ↦ absurd (reducible none) | inr above ↦ above ]

  -- a monomial more
  pub counted_cancel : (p : ℕ) (gs : List Terms) (poly rest next : Terms) (m : Monomial) (old mid new : Spending) → IsMonomial m → coefficient p rest m ≢ 0 → (IsIrreducible p cmp gs m → ⊥)
      → ((x : Monomial) → coefficient p next x ≢ 0 → IsIrreducible p cmp gs x ⊎ (cmp m x ≡ Greater))
      → ((vs : List ℕ) (d : ℕ) → IsGradedIn vs cmp → AreInVariables p vs gs → IsUpTo p vs d rest → IsUpTo p vs d next)
      → new ≡ one_more mid Reduction → IsCounted p cmp gs poly rest old mid → IsCounted p cmp gs poly next old new
  counted_cancel p gs poly rest next m old mid new monomial some reducible below up_to taken (ms, c, n) =
      let above = above_reducible p gs poly rest ms m c some reducible in
      let more : new.reductions ≡ mid.reductions + 1 = ap (λ s. s.reductions) taken in (
        m ∷ ms,
        record {
          different = (none_of_above ms m above, c.different);
          below = λ x there.
              elim (below x there) [ inl none ↦ inl none | inr under ↦ inr (under, above_through ms m x above under) ];
          within = λ vs d graded lines up.
              let old_within = c.within vs d graded lines up in
              let top = old_within.1 m some in
              ((monomial, top.0, top.1, old_within.0), up_to vs d graded lines old_within.1);
        },
        omega arith,
      )

  -- the same of a term at a place, where the terms before it are irreducible
  pub counted_next : (p : ℕ) (gs : List Terms) (poly rest next : Terms) (place : ℕ) (old mid new : Spending) → IsCancelled p cmp gs rest next place → (IsIrreducible p cmp gs (get_or rest place (0, [])).1 → ⊥) → AreIrreducible p cmp gs next place
      → new ≡ one_more mid Reduction → IsCounted p cmp gs poly rest old mid → IsCounted p cmp gs poly next old new
  counted_next p gs poly rest next place old mid new step reducible irreducible taken counted =
      let m = (get_or rest place (0, [])).1 in
      counted_cancel p gs poly rest next m old mid new step.monomial step.some reducible
      (λ x some.
      let there = place_of_monomial p next x some in
      elim (cases_lt there.0 place) [
        | inl before ↦ inl (subst (IsIrreducible p cmp gs) there.2 (irreducible there.0 before))
        | inr after ↦ inr (subst (λ y. cmp m y ≡ Greater) there.2 (step.below there.0 after there.1))
      ])
      step.up_to taken counted

  -- the units for the monomials and one more, which is being cancelled
  pub attempt_is_bounded : (p : ℕ) (gs : List Terms) (poly rest : Terms) (m : Monomial) (old mid new : Spending) → IsMonomial m → coefficient p rest m ≢ 0 → (IsIrreducible p cmp gs m → ⊥)
      → new ≡ one_more mid Reduction → TakesReductions old mid → IsCounted p cmp gs poly rest old mid → IsReductionBound p cmp gs poly old new
  attempt_is_bounded p gs poly rest m old mid new monomial some reducible taken t (ms, c, n) vs d graded lines up =
      let within = c.within vs d graded lines up in
      let top = within.1 m some in
      let most : suc (length ms) ≤ choose (length vs + d) d =
      count_of_monomials vs d (m ∷ ms) (none_of_above ms m (above_reducible p gs poly rest ms m c some reducible), c.different) (monomial, top.0, top.1, within.0) in
      let reductions : new.reductions ≡ mid.reductions + 1 = ap (λ s. s.reductions) taken in
      let trials : new.trials ≡ mid.trials = ap (λ s. s.trials) taken in
      let assignments : new.assignments ≡ mid.assignments = ap (λ s. s.assignments) taken in
      let chains : new.chains ≡ mid.chains = ap (λ s. s.chains) taken in
      omega (arith, t.trials, t.assignments, t.chains)

-- the same of ordered terms
pub attempt_at : (p : ℕ) → IsPrime p → (cmp : Monomial → Monomial → Ordering) → IsMonomialOrder cmp → (limit : ℕ) (gs : List Terms) (poly rest : Terms) (place : ℕ) (old mid new : Spending) → IsOrdered p cmp limit rest → place < length rest
    → (IsIrreducible p cmp gs (get_or rest place (0, [])).1 → ⊥) → new ≡ one_more mid Reduction → TakesReductions old mid → IsCounted p cmp gs poly rest old mid → IsReductionBound p cmp gs poly old new
attempt_at p prime cmp laws limit gs poly rest place old mid new o h reducible taken t counted =
    let some = some_at p prime cmp laws limit rest place o h in
    attempt_is_bounded cmp laws p gs poly rest (get_or rest place (0, [])).1 old mid new (monomial_of_coefficient p rest (get_or rest place (0, [])).1 (AreTerms-ordered p cmp limit rest o) some) some reducible taken t counted

pub counted_is_bounded : (p : ℕ) (cmp : Monomial → Monomial → Ordering) (gs : List Terms) (poly rest : Terms) (old mid new : Spending) → new ≡ mid → TakesReductions old mid → IsCounted p cmp gs poly rest old mid → IsReductionBound p cmp gs poly old new
counted_is_bounded p cmp gs poly rest old mid new same t (ms, c, n) vs d graded lines up =
    let most : length ms ≤ choose (length vs + d) d = count_of_monomials vs d ms c.different (c.within vs d graded lines up).0 in
    let whole : total mid ≤ total old + choose (length vs + d) d = omega (arith, t.trials, t.assignments, t.chains) in
    subst (λ s. total s ≤ total old + choose (length vs + d) d) (sym same) whole

-- ---- S-polynomials

-- a multiple has no other variables, and at most the sum of both degrees
multiple_up_to : (p : ℕ) (vs : List ℕ) (d e k : ℕ) (u n : Monomial) (a : Terms) → IsMonomial u → IsMonomial n → Divides u n → IsIn vs n → degree n ≤ e → AreTerms a → IsUpTo p vs d a → IsUpTo p vs (e + d) (term_product k u a)
multiple_up_to p vs d e k u n a w x divides in_n low v up m some =
    let shifted = shifted_monomial p k u m a w v some in
    let y = shifted.0 in
    let top = up y shifted.2 in
    let u_low : degree u ≤ degree n = degree_of_divisor 0 u n w x divides in
    let sum : degree m ≡ degree u + degree y = ap degree shifted.3 ∙ degree-mono_mul u y in (
      (λ z there.
          elim (cases_eq (exponent y z) 0) [
            | inl none ↦
                in_n z (λ nothing. there (ap (λ t. exponent t z) shifted.3 ∙ exponent-mono_mul u y w shifted.1 z ∙ (let low_z : exponent u z ≤ exponent n z = divides z in omega arith)))
            | inr found ↦ top.0 z found
          ]),
      omega (arith, top.1),
    )

s_quotient_divides : (m n : Monomial) → IsMonomial m → IsMonomial n → Divides (mono_quotient (mono_lcm m n) m) n
s_quotient_divides m n v w x =
    omega (arith, exponent-mono_quotient 0 (mono_lcm m n) m x (IsMonomial-mono_lcm m n v w), exponent-mono_lcm m n v w x)

s_second_divides : (m n : Monomial) → IsMonomial m → IsMonomial n → Divides (mono_quotient (mono_lcm m n) n) m
s_second_divides m n v w x =
    omega (arith, exponent-mono_quotient 0 (mono_lcm m n) n x (IsMonomial-mono_lcm m n v w), exponent-mono_lcm m n v w x)

-- an S-polynomial has at most twice the degree of the two
pub s_polynomial_up_to : (p : ℕ) (cmp : Monomial → Monomial → Ordering) → 0 < p → (vs : List ℕ) (d : ℕ) (a b s : Terms) → AreTerms a → AreTerms b → IsUpTo p vs d a → IsUpTo p vs d b → IsSPolynomial p cmp a b s → IsUpTo p vs (d + d) s
s_polynomial_up_to p cmp positive vs d a b s v w up_a up_b (c, m, e, n, first, second, k, l, kc, le, is) x some =
    let some_m : coefficient p a m ≢ 0 = λ none. first.1 (sym first.0 ∙ none) in
    let some_n : coefficient p b n ≢ 0 = λ none. second.1 (sym second.0 ∙ none) in
    let m_is : IsMonomial m = monomial_of_coefficient p a m v some_m in
    let n_is : IsMonomial n = monomial_of_coefficient p b n w some_n in
    let top = mono_lcm m n in
    let top_is : IsMonomial top = IsMonomial-mono_lcm m n m_is n_is in
    let f = term_product k (mono_quotient top m) a in
    let g = term_product l (mono_quotient top n) b in
    elim (cases_eq (coefficient p f x) 0) [
      | inl none ↦
          multiple_up_to p vs d d l (mono_quotient top n) m b (IsMonomialFrom-mono_quotient 0 top n top_is) m_is (s_second_divides m n m_is n_is) (up_a m some_m).0 (up_a m some_m).1 w up_b x
          (λ nothing. some (is x ∙ coefficient-difference p positive f g x ∙ ap₂ (sub_mod p) none nothing ∙ sub_mod-self p 0 (omega arith)))
      | inr found ↦
          multiple_up_to p vs d d k (mono_quotient top m) n a (IsMonomialFrom-mono_quotient 0 top m top_is) n_is (s_quotient_divides m n m_is n_is) (up_b n some_n).0 (up_b n some_n).1 v up_a x found
    ]

-- so its reduction takes at most as many units as there are monomials up to that
pub pair_is_bounded : (p : ℕ) (cmp : Monomial → Monomial → Ordering) → 0 < p → (gs : List Terms) (i j : ℕ) (s : Terms) (old new : Spending) → AreTerms (get_or gs i []) → AreTerms (get_or gs j []) → IsSPolynomial p cmp (get_or gs i []) (get_or gs j []) s
    → IsReductionBound p cmp gs s old new → IsPairBound p cmp gs old new
pair_is_bounded p cmp positive gs i j s old new v w is bound vs d graded up =
    bound vs (d + d) graded (λ h m some. (up h m some).0) (s_polynomial_up_to p cmp positive vs d (get_or gs i []) (get_or gs j []) s v w (up i) (up j) is)

-- ---- several pairs

-- a pair is one unit and its reduction
pub one_pair : (p : ℕ) (cmp : Monomial → Monomial → Ordering) (gs : List Terms) (old mid new : Spending) → mid ≡ one_more old Reduction → IsPairBound p cmp gs mid new → IsPairsBound p cmp gs 1 old new
one_pair p cmp gs old mid new taken bound vs d graded up =
    let reductions : mid.reductions ≡ old.reductions + 1 = ap (λ s. s.reductions) taken in
    let trials : mid.trials ≡ old.trials = ap (λ s. s.trials) taken in
    let assignments : mid.assignments ≡ old.assignments = ap (λ s. s.assignments) taken in
    let chains : mid.chains ≡ old.chains = ap (λ s. s.chains) taken in
    omega (arith, bound vs d graded up)

pub no_pairs : (p : ℕ) (cmp : Monomial → Monomial → Ordering) (gs : List Terms) (n : ℕ) (old new : Spending) → new ≡ old → IsPairsBound p cmp gs n old new
no_pairs p cmp gs n old new same vs d graded up =
    subst (λ s. total s ≤ total old + n * (1 + choose (length vs + (d + d)) (d + d))) (sym same) (omega arith)

pub more_pairs : (p : ℕ) (cmp : Monomial → Monomial → Ordering) (gs : List Terms) (n k : ℕ) (old new : Spending) → n ≤ k → IsPairsBound p cmp gs n old new → IsPairsBound p cmp gs k old new
more_pairs p cmp gs n k old new h bound vs d graded up =
    let unit = 1 + choose (length vs + (d + d)) (d + d) in
    omega (arith, bound vs d graded up, mul-le-mul_right unit h)

pub both_pairs : (p : ℕ) (cmp : Monomial → Monomial → Ordering) (gs : List Terms) (n k : ℕ) (a b c : Spending) → IsPairsBound p cmp gs n a b → IsPairsBound p cmp gs k b c → IsPairsBound p cmp gs (n + k) a c
both_pairs p cmp gs n k a b c first second vs d graded up =
    omega (arith, first vs d graded up, second vs d graded up)

up_to_front : (p : ℕ) (vs : List ℕ) (d : ℕ) (gs more : List Terms) → AreUpTo p vs d (gs ++ more) → AreUpTo p vs d gs
up_to_front p vs d [] more up i m some = absurd (some (coefficient-none p m))
up_to_front p vs d (g ∷ gs) more up zero m some = up 0 m some
up_to_front p vs d (g ∷ gs) more up (suc i) m some = up_to_front p vs d gs more (λ j. up (suc j)) i m some

-- the bound of the first lines is one of more lines
pub front_pairs : {F O : Type 0} (p : ℕ) (cmp : Monomial → Monomial → Ordering) (ls ks : List (Line F O)) (n : ℕ) (old new : Spending) → IsFront p cmp ls ks → IsPairsBound p cmp (polys_of ls) n old new → IsPairsBound p cmp (polys_of ks) n old new
front_pairs p cmp ls ks n old new (more, is, _) bound vs d graded up =
    bound vs d graded (up_to_front p vs d (polys_of ls) (polys_of more) (subst (AreUpTo p vs d) (ap polys_of is ∙ polys-append_all ls more) up))

-- ---- a completion

pub settled_is_bounded : (p : ℕ) (cmp : Monomial → Monomial → Ordering) (gs : List Terms) (rs : List PairRecord) (paired : ℕ) (old new : Spending) → ArePairs p cmp gs rs paired → AreFew (seconds rs) paired → IsPairsBound p cmp gs (settled_count rs) old new → IsCompletionBound p cmp gs old new
settled_is_bounded p cmp gs rs paired old new pairs few bound =
    more_pairs p cmp gs (settled_count rs) (length gs * length gs) old new (settled_square rs paired (length gs) pairs.paired_within few) bound

-- a pair more, of which the lines may have grown
pub bound_next : {F O : Type 0} (p : ℕ) (cmp : Monomial → Monomial → Ordering) (ls ks : List (Line F O)) (n : ℕ) (a b c : Spending) → IsFront p cmp ls ks → IsPairsBound p cmp (polys_of ls) n a b → IsPairsBound p cmp (polys_of ls) 1 b c → IsPairsBound p cmp (polys_of ks) (n + 1) a c
bound_next p cmp ls ks n a b c front first second = front_pairs p cmp ls ks (n + 1) a c front (both_pairs p cmp (polys_of ls) n 1 a b c first second)

pub pending_is_bounded : (p : ℕ) (cmp : Monomial → Monomial → Ordering) (gs : List Terms) (rs qs : List PairRecord) (paired again place : ℕ) (old new : Spending) → again ≡ paired → ArePairs p cmp gs qs again → IsPendingAt rs place → AreFew (seconds rs) paired
    → IsPairsBound p cmp gs (settled_count rs + 1) old new → IsCompletionBound p cmp gs old new
pending_is_bounded p cmp gs rs qs paired again place old new same pairs pending few bound =
    let within : paired ≤ length gs = omega (arith, pairs.paired_within, same) in
    more_pairs p cmp gs (settled_count rs + 1) (length gs * length gs) old new (pending_square rs paired (length gs) place within pending few) bound
