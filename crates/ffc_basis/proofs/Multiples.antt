-- A sum of multiples of lines as a list of multiples by one term each. The top of a multiple is the product of its monomial and
-- the leading monomial of its line (Cox, Little and O'Shea, chapter 2, section 6: the multidegrees m(i)).
use Rattle.std.proofs.Common.{◌≡◌, ◌≢◌, ℕ, ◌*◌, ◌<◌, List, [], ◌∷◌, ◌++◌, length, get_or, refl, sym, ap, ap₂, ◌∙◌, inl, inr, append_assoc}
use Rattle.std.specs.List.{AllByRecursion}
use Rattle.std.specs.declared.cmp.Ordering.{Ordering}
use Rattle.std.specs.declared.cmp.Ordering.TheVariants.{Greater}
use Rattle.ffc_ring.specs.Monomial.{Monomial, IsMonomial, mono_mul}
use Rattle.ffc_ring.specs.Polynomial.{Terms, AreTerms, written, coefficient, SamePolynomial, term_product, product}
use Rattle.ffc_ring.specs.Counting.{IsIn}
use Rattle.ffc_ring.proofs.MonomialLemmas.{mono_mul_comm}
use Rattle.ffc_ring.proofs.PolynomialLemmas.{weighted, one_at, written-is_weighted, weighted-term_product, same_sums, same_products, shifted_monomial, monomial_of_coefficient}
use Rattle.ffc_mono.specs.MonomialOrder.{IsMonomialOrder}
use Rattle.ffc_mono.specs.Leading.{IsLeading}
use Rattle.ffc_mono.proofs.LeadingLemmas.{leading_at_most}
use Rattle.ffc_line.specs.Lines.{Parts, combination, AreBefore, AreTermLists, AreLists, HasMonomial}
use Rattle.ffc_basis.proofs.OrderedTerms.{coefficient-none}
use Rattle.ffc_basis.proofs.PartLemmas.{some_of_sum}
use Rattle.ffc_basis.proofs.Greatest.{IsUpTo, below_trans}
use Rattle.ffc_basis.proofs.NormalForms.{IsSome, normal_form, leading_or_zero}
use Rattle.ffc_basis.proofs.Each.{each_append, each_weaker}
use Rattle.ffc_basis.proofs.Variables.{AreAmong, among_first, among_second, in_more, variables_of, in_own_variables}

-- a factor and a monomial by which a line is multiplied, and the line's leading term
pub record Multiple : Type 0 where
  pub line : ℕ
  pub factor : ℕ
  pub monomial : Monomial
  pub coefficient : ℕ
  pub lead : Monomial

abbrev pub top : Multiple → Monomial
top t = mono_mul t.monomial t.lead

abbrev pub polynomial : List Terms → Multiple → Terms
polynomial gs t = term_product t.factor t.monomial (get_or gs t.line [])

abbrev pub sum_of : List Terms → List Multiple → Terms
sum_of gs [] = []
sum_of gs (t ∷ ts) = polynomial gs t ++ sum_of gs ts

pub record IsMultiple (p : ℕ) (cmp : Monomial → Monomial → Ordering) (gs : List Terms) (t : Multiple) : Type 0 where
  pub within : t.line < length gs
  pub monomial : IsMonomial t.monomial
  pub leads : IsLeading p cmp (get_or gs t.line []) t.coefficient t.lead

-- only these variables occur in its top
abbrev pub HasVariables : List ℕ → Multiple → Type 0
HasVariables vs t = IsIn vs t.monomial × IsIn vs t.lead

-- its top is below this monomial
abbrev pub IsBelow : (Monomial → Monomial → Ordering) → Monomial → Multiple → Type 0
IsBelow cmp m t = cmp m (top t) ≡ Greater

pub sum_of-append : (gs : List Terms) (xs ys : List Multiple) → sum_of gs (xs ++ ys) ≡ sum_of gs xs ++ sum_of gs ys
sum_of-append gs [] ys = refl
sum_of-append gs (x ∷ xs) ys =
    ap (λ l. polynomial gs x ++ l) (sum_of-append gs xs ys) ∙ sym (append_assoc (polynomial gs x) (sum_of gs xs) (sum_of gs ys))

-- what is written for a monomial in a multiple grows with the factor
pub written-term_product : (c : ℕ) (m : Monomial) (ts : Terms) (z : Monomial) → written (term_product c m ts) z ≡ c * weighted (λ n. one_at z (mono_mul m n)) ts
written-term_product c m ts z = written-is_weighted (term_product c m ts) z ∙ weighted-term_product (one_at z) c m ts

-- ---- variables

pub more_variables : (vs ws : List ℕ) (ts : List Multiple) → AreAmong vs ws → AllByRecursion (HasVariables vs) ts → AllByRecursion (HasVariables ws) ts
more_variables vs ws ts among v =
    each_weaker (HasVariables vs) (HasVariables ws) (λ t h. (in_more vs ws t.monomial among h.0, in_more vs ws t.lead among h.1)) ts v

-- finitely many variables occur in finitely many multiples
pub variables_of_all : (ts : List Multiple) → (vs : List ℕ) × AllByRecursion (HasVariables vs) ts
variables_of_all [] = ([], tt)
variables_of_all (t ∷ ts) =
    let rest = variables_of_all ts in
    let own = variables_of t.monomial ++ variables_of t.lead in
    let all = own ++ rest.0 in (
      all,
      (
        (
          in_more (variables_of t.monomial) all t.monomial
              (λ x h. among_first own rest.0 x (among_first (variables_of t.monomial) (variables_of t.lead) x h)) (in_own_variables t.monomial),
          in_more (variables_of t.lead) all t.lead
              (λ x h. among_first own rest.0 x (among_second (variables_of t.monomial) (variables_of t.lead) x h)) (in_own_variables t.lead),
        ),
        more_variables rest.0 all ts (among_second own rest.0) rest.1,
      ),
    )

module _ (cmp : Monomial → Monomial → Ordering) (laws : IsMonomialOrder cmp) (p : ℕ) (gs : List Terms) (lists : AreLists gs) where
  pub lead_is_monomial : (t : Multiple) → IsMultiple p cmp gs t → IsMonomial t.lead
  lead_is_monomial t v =
      monomial_of_coefficient p (get_or gs t.line []) t.lead (lists t.line) (λ none. v.leads.1 (sym v.leads.0 ∙ none))

  -- ---- monomials of multiples

  -- no monomial of a multiple is above its top
  pub up_to_top : (t : Multiple) → IsMultiple p cmp gs t → (c : ℕ) (z : Monomial) → coefficient p (term_product c t.monomial (get_or gs t.line [])) z ≢ 0 → IsUpTo cmp (top t) z
  up_to_top t v c z some =
      let g = get_or gs t.line [] in
      let (n, w, found, is) = shifted_monomial p c t.monomial z g v.monomial (lists t.line) some in
      elim (leading_at_most cmp laws p g t.coefficient t.lead v.leads n found) [
        | inl same ↦ inl (is ∙ ap (mono_mul t.monomial) same)
        | inr lower ↦
            let u : IsMonomial t.lead = lead_is_monomial t v in
            inr (
            ap (cmp (top t)) is ∙ ap₂ cmp (mono_mul_comm t.monomial t.lead v.monomial u) (mono_mul_comm t.monomial n v.monomial w)
            ∙ laws.kept t.lead n t.monomial u w v.monomial ∙ lower
            )
      ]

  -- a sum of multiples whose tops are below a monomial has no other monomials than those below it
  pub sum_below : (m : Monomial) (ts : List Multiple) → AllByRecursion (IsMultiple p cmp gs) ts → AllByRecursion (IsBelow cmp m) ts → (z : Monomial) → coefficient p (sum_of gs ts) z ≢ 0 → cmp m z ≡ Greater
  sum_below m [] v below z some = absurd (some (coefficient-none p z))
  sum_below m (t ∷ ts) v below z some =
      elim (some_of_sum p (polynomial gs t) (sum_of gs ts) z some) [
        | inl first ↦ below_trans cmp laws m (top t) z below.0 (up_to_top t v.0 t.factor z first)
        | inr rest ↦ sum_below m ts v.1 below.1 z rest
      ]

  -- ---- parts of lines as multiples

  -- the multiples of a line with the leading term d*n by these terms
  abbrev of_terms : ℕ → ℕ → Monomial → Terms → List Multiple
  of_terms i d n [] = []
  of_terms i d n (u ∷ us) =
      record { line = i; factor = u.0; monomial = u.1; coefficient = d; lead = n } ∷ of_terms i d n us

  sum_of-of_terms : (i d : ℕ) (n : Monomial) (us : Terms) → sum_of gs (of_terms i d n us) ≡ product us (get_or gs i [])
  sum_of-of_terms i d n [] = refl
  sum_of-of_terms i d n (u ∷ us) = ap (λ l. term_product u.0 u.1 (get_or gs i []) ++ l) (sum_of-of_terms i d n us)

  terms_are_multiples : (i d : ℕ) (n : Monomial) (us : Terms) → i < length gs → IsLeading p cmp (get_or gs i []) d n → AreTerms us → AllByRecursion (IsMultiple p cmp gs) (of_terms i d n us)
  terms_are_multiples i d n [] h leads v = tt
  terms_are_multiples i d n (u ∷ us) h leads v =
      (record { within = h; monomial = v.0; leads = leads }, terms_are_multiples i d n us h leads v.1)

  -- the multiple is by a monomial of these parts
  abbrev pub IsOfParts : Parts → Multiple → Type 0
  IsOfParts parts t = HasMonomial p parts t.line t.monomial

  terms_are_of_parts : (t : ℕ × Terms) (ts : Parts) (d : ℕ) (n : Monomial) (us : Terms) → AllByRecursion (IsSome p t.1) us → AllByRecursion (IsOfParts (t ∷ ts)) (of_terms t.0 d n us)
  terms_are_of_parts t ts d n [] v = tt
  terms_are_of_parts t ts d n (u ∷ us) v = (inl (refl, v.0), terms_are_of_parts t ts d n us v.1)

  product_with_none : (q : Terms) → product q [] ≡ []
  product_with_none [] = refl
  product_with_none (t ∷ q) = product_with_none q

  abbrev IsSumOfMultiples : Parts → Type 0
  IsSumOfMultiples parts =
      (ts : List Multiple) × AllByRecursion (IsMultiple p cmp gs) ts × AllByRecursion (IsOfParts parts) ts
      × SamePolynomial p (combination gs parts) (sum_of gs ts)

  later : (t : ℕ × Terms) (parts : Parts) (ms : List Multiple) → AllByRecursion (IsOfParts parts) ms → AllByRecursion (IsOfParts (t ∷ parts)) ms
  later t parts ms v = each_weaker (IsOfParts parts) (IsOfParts (t ∷ parts)) (λ s h. inr h) ms v

  -- a part of a line that is 0
  part_of_zero : (t : ℕ × Terms) (parts : Parts) → ((m : Monomial) → coefficient p (get_or gs t.0 []) m ≡ 0) → IsSumOfMultiples parts → IsSumOfMultiples (t ∷ parts)
  part_of_zero t parts zero (ms, are, of, same) =
      let g = get_or gs t.0 [] in
      let none : SamePolynomial p (product t.1 g) [] = λ m.
      same_products p t.1 t.1 g [] (λ _. refl) (λ n. zero n ∙ sym (coefficient-none p n)) m ∙ ap (λ l. coefficient p l m) (product_with_none t.1) in
      (ms, are, later t parts ms of, same_sums p (product t.1 g) [] (combination gs parts) (sum_of gs ms) none same)

  -- a part of another line
  part_of_some : (t : ℕ × Terms) (parts : Parts) → t.0 < length gs → AreTerms t.1 → (d : ℕ) (n : Monomial) → IsLeading p cmp (get_or gs t.0 []) d n → IsSumOfMultiples parts → IsSumOfMultiples (t ∷ parts)
  part_of_some t parts h v d n leads (ms, are, of, same) =
      let g = get_or gs t.0 [] in
      let (us, w, alike, some) = normal_form p t.1 v in
      let first = of_terms t.0 d n us in
      let whole : sum_of gs (first ++ ms) ≡ product us g ++ sum_of gs ms =
      sum_of-append gs first ms ∙ ap (λ l. l ++ sum_of gs ms) (sum_of-of_terms t.0 d n us) in (
        first ++ ms,
        each_append (IsMultiple p cmp gs) first ms (terms_are_multiples t.0 d n us h leads w) are,
        each_append (IsOfParts (t ∷ parts)) first ms (terms_are_of_parts t parts d n us some) (later t parts ms of),
        λ z.
            same_sums p (product t.1 g) (product us g) (combination gs parts) (sum_of gs ms) (same_products p t.1 us g g alike (λ _. refl)) same z
            ∙ ap (λ l. coefficient p l z) (sym whole),
      )

  pub multiples_of : (parts : Parts) → AreBefore (length gs) parts → AreTermLists parts
      → (ts : List Multiple) × AllByRecursion (IsMultiple p cmp gs) ts × AllByRecursion (IsOfParts parts) ts × SamePolynomial p (combination gs parts) (sum_of gs ts)
  multiples_of [] before v = ([], tt, tt, (λ _. refl))
  multiples_of (t ∷ parts) before v =
      elim (leading_or_zero cmp laws p (get_or gs t.0 []) (lists t.0)) [
        | inl lead ↦ part_of_some t parts before.0 v.0 lead.0 lead.1 lead.2 (multiples_of parts before.1 v.1)
        | inr zero ↦ part_of_zero t parts zero (multiples_of parts before.1 v.1)
      ]
