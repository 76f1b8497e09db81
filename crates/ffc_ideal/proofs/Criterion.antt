-- Buchberger's criterion (Cox, Little and O'Shea, chapter 2, section 9, theorem 3), of ideals.
use Rattle.std.proofs.Common.{◌≡◌, ◌≢◌, ℕ, suc, ◌+◌, ◌*◌, ◌%◌, ◌<◌, ◌≤◌, List, [], ◌∷◌, ◌++◌, length, get_or, refl, sym, ap, ap₂, ◌∙◌, inl, inr, arith, mod-eq_of_lt}
use Rattle.std.specs.declared.cmp.Ordering.{Ordering}
use Rattle.std.specs.declared.cmp.Ordering.TheVariants.{Greater}
use Rattle.ffc_field.specs.Modular.{IsPrime}
use Rattle.ffc_ring.specs.Monomial.{Monomial, IsMonomial}
use Rattle.ffc_ring.specs.Polynomial.{Terms, coefficient, SamePolynomial, product}
use Rattle.ffc_ring.proofs.MonomialLemmas.{mutual_divisors}
use Rattle.ffc_ring.proofs.PolynomialLemmas.{written-at, monomial_of_coefficient}
use Rattle.ffc_mono.specs.MonomialOrder.{IsMonomialOrder}
use Rattle.ffc_mono.specs.Leading.{IsLeading}
use Rattle.ffc_mono.proofs.LeadingLemmas.{leading_at_most}
use Rattle.ffc_line.specs.Lines.{Parts, combination, AreBefore, AreTermLists, AreLists}
use Rattle.ffc_basis.specs.Completion.{IsClosed, IsConstantLine}
use Rattle.ffc_basis.proofs.OrderedTerms.{coefficient-none, coefficient-other}
use Rattle.ffc_basis.proofs.RepresentedLemmas.{closed_is_represented}
use Rattle.ffc_basis.proofs.StandardLemmas.{of_combination as of_represented}
use Rattle.ffc_ideal.specs.Ideals.{AreAllTerms, sum_of_products, Ideal, one, IsLedByLine}

-- ---- combinations of lines

pub of_combination : (p : ℕ) → IsPrime p → (cmp : Monomial → Monomial → Ordering) → IsMonomialOrder cmp → (gs : List Terms) → AreLists gs → IsClosed p cmp gs → (parts : Parts) → AreBefore (length gs) parts → AreTermLists parts
    → (f : Terms) → SamePolynomial p f (combination gs parts) → (c : ℕ) (l : Monomial) → IsLeading p cmp f c l → IsLedByLine p cmp gs l
of_combination p prime cmp laws gs lists closed parts before terms f same c l leads =
    let found = of_represented p prime cmp laws gs lists (λ i j h g. closed_is_represented p prime cmp laws gs lists i j (closed i j h g)) parts before terms f same c l leads in
    let led = found.0.1 in
    (found.0.0, led.within, led.coefficient, led.monomial, led.leads, led.divides)

-- ---- members of ideals

-- the multipliers of lines from a number on
abbrev pub numbered : ℕ → List Terms → Parts
numbered i [] = []
numbered i (q ∷ qs) = (i, q) ∷ numbered (suc i) qs

pub numbered_before : (n i : ℕ) (qs : List Terms) → i + length qs ≤ n → AreBefore n (numbered i qs)
numbered_before n i [] h = tt
numbered_before n i (q ∷ qs) h = (omega (arith, h), numbered_before n (suc i) qs (omega (arith, h)))

pub numbered_terms : (i : ℕ) (qs : List Terms) → AreAllTerms qs → AreTermLists (numbered i qs)
numbered_terms i [] v = tt
numbered_terms i (q ∷ qs) v = (v.0, numbered_terms (suc i) qs v.1)

-- the lines from a number on are these generators
pub combination-numbered : (gs : List Terms) (i : ℕ) (qs hs : List Terms) → length qs ≡ length hs → ((j : ℕ) → j < length hs → get_or gs (i + j) [] ≡ get_or hs j []) → combination gs (numbered i qs) ≡ sum_of_products qs hs
combination-numbered gs i [] hs e alike = refl
combination-numbered gs i (q ∷ qs) [] e alike = absurd (omega (arith, e))
combination-numbered gs i (q ∷ qs) (h ∷ hs) e alike =
    ap₂ (λ g l. product q g ++ l)
    (ap (λ k. get_or gs k []) (let same : i ≡ i + 0 = omega arith in same) ∙ alike 0 (omega arith))
    (combination-numbered gs (suc i) qs hs (omega (arith, e))
    (λ j k. ap (λ n. get_or gs n []) (let same : suc i + j ≡ i + suc j = omega arith in same) ∙ alike (suc j) (omega (arith, k))))

pub criterion : (p : ℕ) → IsPrime p → (cmp : Monomial → Monomial → Ordering) → IsMonomialOrder cmp → (gs : List Terms) → AreLists gs → IsClosed p cmp gs
    → (f : Terms) → Ideal p gs f → (c : ℕ) (m : Monomial) → IsLeading p cmp f c m → IsLedByLine p cmp gs m
criterion p prime cmp laws gs lists closed f (qs, as_many, terms, same) c m leads =
    of_combination p prime cmp laws gs lists closed (numbered 0 qs)
    (numbered_before (length gs) 0 qs (omega (arith, as_many))) (numbered_terms 0 qs terms) f
    (λ z. same z ∙ ap (λ l. coefficient p l z) (sym (combination-numbered gs 0 qs gs as_many (λ j h. ap (λ k. get_or gs k []) (let is : 0 + j ≡ j = omega arith in is))))) c m leads

-- ---- 1

pub one_leads : (p : ℕ) (cmp : Monomial → Monomial → Ordering) → 1 < p → IsLeading p cmp one 1 []
one_leads p cmp h = (
  ap (λ k. k % p) (written-at [] (1, []) [] refl) ∙ mod-eq_of_lt h,
  (λ e. omega (arith, e)),
  λ n some off. absurd (some (coefficient-other p (1, []) [] n (λ e. off (sym e)) ∙ coefficient-none p n)),
)

-- a line that leads 1 is a constant
pub constant_line : (p : ℕ) (cmp : Monomial → Monomial → Ordering) → IsMonomialOrder cmp → (gs : List Terms) → AreLists gs → (led : IsLedByLine p cmp gs []) → IsConstantLine p gs led.0
constant_line p cmp laws gs lists (i, h, c, n, leads, divides) =
    let g = get_or gs i [] in
    let v : IsMonomial n = monomial_of_coefficient p g n (lists i) (λ none. leads.1 (sym leads.0 ∙ none)) in
    let n_is : n ≡ [] = mutual_divisors n [] v tt divides (λ x. omega arith) in (
      h,
      (λ none. leads.1 (sym leads.0 ∙ ap (λ l. coefficient p l n) none ∙ coefficient-none p n)),
      λ m some.
          elim (leading_at_most cmp laws p g c n leads m some) [
            | inl same ↦ same ∙ n_is
            | inr above ↦ absurd (laws.least m (monomial_of_coefficient p g m (lists i) some) (ap (λ k. cmp k m) (sym n_is) ∙ above))
          ],
    )

pub closed_without_constant : (p : ℕ) → IsPrime p → (cmp : Monomial → Monomial → Ordering) → IsMonomialOrder cmp → (gs : List Terms) → AreLists gs → IsClosed p cmp gs
    → ((i : ℕ) → IsConstantLine p gs i → ⊥) → Ideal p gs one → ⊥
closed_without_constant p prime cmp laws gs lists closed none member =
    let led = criterion p prime cmp laws gs lists closed one member 1 [] (one_leads p cmp (omega (arith, prime.least))) in
    none led.0 (constant_line p cmp laws gs lists led)
