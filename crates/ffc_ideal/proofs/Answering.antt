-- What the lines of a basis say of the ideal of its generators.
use Rattle.std.proofs.Common.{◌≡◌, ◌≢◌, ℕ, zero, suc, ◌+◌, ◌-◌, ◌*◌, ◌%◌, ◌<◌, ◌≤◌, List, [], ◌∷◌, ◌++◌, length, get_or, refl, sym, ap, ap₂, ◌∙◌, subst, inl, inr, arith, eqb-true, eq-eqb, mod-lt, mod-eq_of_lt, append_assoc, append-nil, length-append}
use Rattle.std.proofs.lemmas.Bool.{cases_eq}
use Rattle.std.specs.Prelude.{Result, Err, Option, Some, None, IfSome, IfNone, Bool, true, false, ◌==◌}
use Rattle.std.specs.Option.{is_some}
use Rattle.std.proofs.lemmas.Bool.{false≢true}
use Rattle.ffc_base.specs.declared.stop.Stop.{Stop}
use Rattle.ffc_base.specs.declared.stop.Stop.TheVariants.{Spent, Memory}
use Rattle.std.specs.declared.cmp.Ordering.{Ordering}
use Rattle.std.specs.declared.cmp.Ordering.TheVariants.{Greater}
use Rattle.ffc_base.specs.Metering.{Spending, total}
use Rattle.ffc_field.specs.Modular.{IsPrime, mul_mod}
use Rattle.ffc_field.proofs.ModularLaws.{same_from_sub_mod, mul_mod-one_first, mul_mod-mod_first}
use Rattle.ffc_ring.specs.Monomial.{Monomial, IsMonomial, degree}
use Rattle.ffc_ring.specs.Counting.{IsIn}
use Rattle.ffc_ring.specs.Polynomial.{Terms, AreTerms, coefficient, SamePolynomial, term_product, product, scaled, difference}
use Rattle.ffc_ring.proofs.PolynomialLemmas.{coefficient-difference, coefficient-scaled, same_sums, same_products, product_commutes, cases_monomial, written-at}
use Rattle.ffc_mono.specs.MonomialOrder.{IsMonomialOrder}
use Rattle.ffc_mono.specs.Graded.{IsGraded}
use Rattle.ffc_mono.specs.Leading.{IsLeading}
use Rattle.ffc_poly.specs.Ordered.{IsOrdered, IsConstant}
use Rattle.ffc_line.specs.declared.line.Line.{Line}
use Rattle.ffc_line.specs.Lines.{Parts, polys_of, combination, AreBefore, AreLists, AreTermLists, AreLinesFrom, AreLines, AreGenerators}
use Rattle.ffc_basis.specs.Reduction.{IsReduced, ArePartsAtMost}
use Rattle.ffc_basis.specs.Completion.{IsClosed, IsSetAside, IsConstantLine}
use Rattle.ffc_basis.specs.Completed.{AreAdded, IsFront}
use Rattle.ffc_basis.specs.Outcomes.{AreScaled}
use Rattle.ffc_basis.specs.Units.{TakesReductions, IsReductionBound, IsCompletionBound}
use Rattle.ffc_basis.proofs.AddedLemmas.{polys-append_all}
use Rattle.ffc_basis.proofs.LineLemmas.{polys-append}
use Rattle.ffc_basis.proofs.Lists.{length-polys}
use Rattle.ffc_basis.proofs.OrderedTerms.{AreTerms-scaled, IsLeading-first, coefficient-none, coefficient-other}
use Rattle.ffc_basis.proofs.PairLemmas.{combination-grown, AreBefore-grown}
use Rattle.ffc_basis.proofs.PartLemmas.{combination-append}
use Rattle.ffc_basis.proofs.SPolynomialLemmas.{scaled_combination, scaled_before}
use Rattle.ffc_ideal.specs.Ideals.{Ideal, one}
use Rattle.ffc_ideal.specs.Answers.{IsSumLine, AreSumsFrom, HaveParts, AreLinesOf, ShowSums, ShowOne, ShowMember, AreBasisLines, HasNoConstant, IsWithinCompletion, IsWithinMembership, IsRest, ArePairsOf}
use Rattle.ffc_basis.proofs.Exchange.{term_product-twice}
use Rattle.ffc_ideal.proofs.Criterion.{numbered, numbered_before, numbered_terms, combination-numbered, of_combination, one_leads, constant_line}

-- ---- generators

polys_of_generators : {F O : Type 0} (ls : List (Line F O)) (gens : List Terms) → AreGenerators ls gens → polys_of ls ≡ gens
polys_of_generators [] [] v = refl
polys_of_generators [] (g ∷ gens) v = absurd v
polys_of_generators (l ∷ ls) [] v = absurd v
polys_of_generators (l ∷ ls) (g ∷ gens) v = ap₂ ◌∷◌ v.0 (polys_of_generators ls gens v.2)

count_of_generators : {F O : Type 0} (ls : List (Line F O)) (gens : List Terms) → AreGenerators ls gens → length ls ≡ length gens
count_of_generators ls gens v = sym (length-polys ls) ∙ ap length (polys_of_generators ls gens v)

-- ---- lines

lines_after : {F O : Type 0} (p : ℕ) (gs : List Terms) (i : ℕ) (xs ys : List (Line F O)) → AreLinesFrom p gs i (xs ++ ys) → AreLinesFrom p gs (i + length xs) ys
lines_after p gs i [] ys v = subst (λ n. AreLinesFrom p gs n ys) (omega arith) v
lines_after p gs i (x ∷ xs) ys v =
    subst (λ n. AreLinesFrom p gs n ys) (let same : suc i + length xs ≡ i + length (x ∷ xs) = omega arith in same) (lines_after p gs (suc i) xs ys v.1)

sums_of_added : {F O : Type 0} (p : ℕ) (cmp : Monomial → Monomial → Ordering) (gs hs : List Terms) (i : ℕ) (ls : List (Line F O)) → AreAdded p cmp hs ls → AreLinesFrom p gs i ls → AreSumsFrom p gs i ls
sums_of_added p cmp gs hs i [] added v = tt
sums_of_added p cmp gs hs i (l ∷ ls) added v =
    ((v.0.0, v.0.1 added.0.has_parts), sums_of_added p cmp gs (hs ++ l.poly ∷ []) (suc i) ls added.1 v.1)

pub parts_of_added : {F O : Type 0} (p : ℕ) (cmp : Monomial → Monomial → Ordering) (hs : List Terms) (ls : List (Line F O)) → AreAdded p cmp hs ls → HaveParts ls
parts_of_added p cmp hs [] added = tt
parts_of_added p cmp hs (l ∷ ls) added = (added.0.has_parts, parts_of_added p cmp (hs ++ l.poly ∷ []) ls added.1)

-- a completion keeps the generators first
pub basis_lines : {F O : Type 0} (p : ℕ) (cmp : Monomial → Monomial → Ordering) (gens : List Terms) (old new : List (Line F O)) → AreGenerators old gens → IsFront p cmp old new → AreLines p new → AreBasisLines p cmp gens new
basis_lines p cmp gens old new generators (more, is, added) lines =
    let from : AreLinesFrom p (polys_of new) (0 + length old) more =
    lines_after p (polys_of new) 0 old more (subst (AreLinesFrom p (polys_of new) 0) is lines) in (
      more,
      record {
        generators = old;
        whole = is;
        are_generators = generators;
        sums = sums_of_added p cmp (polys_of new) (polys_of old) (length gens) more added
            (subst (λ n. AreLinesFrom p (polys_of new) n more) (let same : 0 + length old ≡ length gens = omega (arith, count_of_generators old gens generators) in same) from);
      },
      subst (λ hs. AreAdded p cmp hs more) (polys_of_generators old gens generators) added,
    )

-- ---- a line more

sums_grown : {F O : Type 0} (p : ℕ) (gs more : List Terms) (i : ℕ) (ls : List (Line F O)) → i + length ls ≤ length gs → AreSumsFrom p gs i ls → AreSumsFrom p (gs ++ more) i ls
sums_grown p gs more i [] h v = tt
sums_grown p gs more i (l ∷ ls) h v = (
  (
    v.0.0,
    λ m. v.0.1 m ∙ ap (λ ts. coefficient p ts m) (combination-grown gs more l.parts.items (AreBefore-grown i (length gs) l.parts.items (omega (arith, h)) v.0.0)),
  ),
  sums_grown p gs more (suc i) ls (omega (arith, h)) v.1,
)

sums_push : {F O : Type 0} (p : ℕ) (gs : List Terms) (i : ℕ) (ls : List (Line F O)) (l : Line F O) → AreSumsFrom p gs i ls → IsSumLine p gs (i + length ls) l → AreSumsFrom p gs i (ls ++ l ∷ [])
sums_push p gs i [] l v w = (subst (λ n. IsSumLine p gs n l) (omega arith) w, tt)
sums_push p gs i (k ∷ ls) l v w =
    (v.0, sums_push p gs (suc i) ls l v.1 (subst (λ n. IsSumLine p gs n l) (let same : i + length (k ∷ ls) ≡ suc i + length ls = omega arith in same) w))

parts_push : {F O : Type 0} (ls : List (Line F O)) (l : Line F O) → HaveParts ls → l.parts.items ≢ [] → HaveParts (ls ++ l ∷ [])
parts_push [] l v some = (some, tt)
parts_push (k ∷ ls) l v some = (v.0, parts_push ls l v.1 some)

length_of_lines : {F O : Type 0} (p : ℕ) (gens : List Terms) (lines further : List (Line F O)) → AreLinesOf p gens lines further → length gens + length further ≡ length lines
length_of_lines p gens lines further v =
    omega (arith, ap length v.whole, length-append v.generators further, count_of_generators v.generators gens v.are_generators)

pub line_more : {F O : Type 0} (p : ℕ) (gens : List Terms) (lines further : List (Line F O)) (l : Line F O) → AreLinesOf p gens lines further → AreBefore (length lines) l.parts.items → SamePolynomial p l.poly (combination (polys_of lines) l.parts.items)
    → AreLinesOf p gens (lines ++ l ∷ []) (further ++ l ∷ [])
line_more p gens lines further l v before sum =
    let gs = polys_of lines in
    let more = l.poly ∷ [] in
    let all : polys_of (lines ++ l ∷ []) ≡ gs ++ more = polys-append_all lines (l ∷ []) in
    let count : length gens + length further ≡ length lines = length_of_lines p gens lines further v in
    let counted : length gs ≡ length lines = length-polys lines in
    let old : AreSumsFrom p (gs ++ more) (length gens) further = sums_grown p gs more (length gens) further (omega (arith, count, counted)) v.sums in
    let last : IsSumLine p (gs ++ more) (length gens + length further) l = (
      subst (λ n. AreBefore n l.parts.items) (sym count) before,
      λ m. sum m ∙ ap (λ ts. coefficient p ts m) (combination-grown gs more l.parts.items (subst (λ n. AreBefore n l.parts.items) (sym counted) before)),
    ) in
    record {
      generators = v.generators;
      whole = ap (λ ls. ls ++ l ∷ []) v.whole ∙ append_assoc v.generators further (l ∷ []);
      are_generators = v.are_generators;
      sums = subst (λ hs. AreSumsFrom p hs (length gens) (further ++ l ∷ [])) (sym all) (sums_push p (gs ++ more) (length gens) further l old last);
    }

pub member_shown : {F O : Type 0} (p : ℕ) (cmp : Monomial → Monomial → Ordering) (lines : List (Line F O)) (l : Line F O) (poly : Terms) (gens : List Terms) → l.poly ≡ poly → AreBefore (length lines) l.parts.items → SamePolynomial p poly (combination (polys_of lines) l.parts.items)
    → AreBasisLines p cmp gens lines → ShowMember p gens poly (lines ++ l ∷ []) × (l.parts.items ≢ [] → ShowSums p gens (lines ++ l ∷ []))
member_shown p cmp lines l poly gens is before sum (further, v, added) =
    let grown = line_more p gens lines further l v before (λ m. ap (λ ts. coefficient p ts m) is ∙ sum m) in (
      (further ++ l ∷ [], grown, (lines, l, refl, is)),
      λ some. (further ++ l ∷ [], grown, parts_push further l (parts_of_added p cmp gens further added) some),
    )

-- ---- members

-- a member of the ideal of the generators is a combination of the lines
member_of_lines : {F O : Type 0} (p : ℕ) (gens : List Terms) (lines further : List (Line F O)) → AreLinesOf p gens lines further → (f : Terms) → Ideal p gens f
    → (parts : Parts) × AreBefore (length (polys_of lines)) parts × AreTermLists parts × SamePolynomial p f (combination (polys_of lines) parts)
member_of_lines p gens lines further v f (qs, as_many, terms, same) =
    let gs = polys_of lines in
    let count : length gens + length further ≡ length lines = length_of_lines p gens lines further v in
    let alike : (j : ℕ) → j < length gens → get_or gs (0 + j) [] ≡ get_or gens j [] = λ j h.
    ap (λ k. get_or gs k []) (let is : 0 + j ≡ j = omega arith in is)
    ∙ ap (λ ls. get_or (polys_of ls) j []) v.whole
    ∙ sym (polys-append v.generators further j (omega (arith, h, count_of_generators v.generators gens v.are_generators)))
    ∙ ap (λ hs. get_or hs j []) (polys_of_generators v.generators gens v.are_generators) in (
      numbered 0 qs,
      numbered_before (length gs) 0 qs (omega (arith, as_many, count, length-polys lines)),
      numbered_terms 0 qs terms,
      λ m. same m ∙ ap (λ ts. coefficient p ts m) (sym (combination-numbered gs 0 qs gens as_many alike)),
    )

-- the negated parts
abbrev negated : ℕ → Parts → Parts
negated p [] = []
negated p (t ∷ ts) = (t.0, scaled (p - 1) t.1) ∷ negated p ts

negated_are_scaled : (p : ℕ) (ts : Parts) → AreScaled p (p - 1) ts (negated p ts)
negated_are_scaled p [] = tt
negated_are_scaled p (t ∷ ts) = (refl, (λ _. refl), negated_are_scaled p ts)

negated_terms : (p : ℕ) (ts : Parts) → AreTermLists ts → AreTermLists (negated p ts)
negated_terms p [] v = tt
negated_terms p (t ∷ ts) v = (AreTerms-scaled (p - 1) t.1 v.0, negated_terms p ts v.1)

terms_append : (xs ys : Parts) → AreTermLists xs → AreTermLists ys → AreTermLists (xs ++ ys)
terms_append [] ys v w = w
terms_append (x ∷ xs) ys v w = (v.0, terms_append xs ys v.1 w)

before_append : (n : ℕ) (xs ys : Parts) → AreBefore n xs → AreBefore n ys → AreBefore n (xs ++ ys)
before_append n [] ys v w = w
before_append n (x ∷ xs) ys v w = (v.0, before_append n xs ys v.1 w)

module _ (p : ℕ) (prime : IsPrime p) (cmp : Monomial → Monomial → Ordering) (laws : IsMonomialOrder cmp) where
  -- what is left of a member is a combination of the lines, so that it is not reduced unless it is 0
  rest_is_zero : {F O : Type 0} (gens : List Terms) (lines further : List (Line F O)) → AreLinesOf p gens lines further → AreLists (polys_of lines) → IsClosed p cmp (polys_of lines) → (poly rest : Terms) (parts : Parts)
      → SamePolynomial p rest (difference p poly (combination (polys_of lines) parts)) → AreBefore (length lines) parts → AreTermLists parts → IsReduced p cmp (polys_of lines) rest
      → Ideal p gens poly → (c : ℕ) (m : Monomial) → IsLeading p cmp rest c m → ⊥
  rest_is_zero gens lines further v lists closed poly rest parts same before terms reduced member c m leads =
      let gs = polys_of lines in
      let (own, own_before, own_terms, sum) = member_of_lines p gens lines further v poly member in
      let opposite = negated p parts in
      let whole : SamePolynomial p rest (combination gs (own ++ opposite)) = λ z.
      same z
      ∙ same_sums p poly (combination gs own) (scaled (p - 1) (combination gs parts)) (combination gs opposite) sum
      (λ n. sym (scaled_combination p (p - 1) gs parts opposite (negated_are_scaled p parts) n)) z
      ∙ ap (λ ts. coefficient p ts z) (sym (combination-append gs own opposite)) in
      let counted : AreBefore (length gs) parts = subst (λ n. AreBefore n parts) (sym (length-polys lines)) before in
      let (i, h, d, n, lead, divides) =
      of_combination p prime cmp laws gs lists closed (own ++ opposite)
      (before_append (length gs) own opposite own_before (scaled_before p (p - 1) (length gs) parts opposite (negated_are_scaled p parts) counted))
      (terms_append own opposite own_terms (negated_terms p parts terms)) rest whole c m leads in
      reduced m (λ none. leads.1 (sym leads.0 ∙ none)) i h d n lead divides

  -- a polynomial of which something is left is no member
  pub outside : {F O : Type 0} (limit : ℕ) (gens : List Terms) (lines : List (Line F O)) → AreBasisLines p cmp gens lines → AreLists (polys_of lines) → IsClosed p cmp (polys_of lines) → (poly rest : Terms) (parts : Parts)
      → SamePolynomial p rest (difference p poly (combination (polys_of lines) parts)) → AreBefore (length lines) parts → AreTermLists parts → IsReduced p cmp (polys_of lines) rest
      → IsOrdered p cmp limit rest → rest ≢ [] → Ideal p gens poly → ⊥
  outside limit gens lines basis lists closed poly [] parts same before terms reduced ordered some member = some refl
  outside limit gens lines basis lists closed poly (t ∷ rest) parts same before terms reduced ordered some member =
      rest_is_zero gens lines basis.0 basis.1 lists closed poly (t ∷ rest) parts same before terms reduced member t.0 t.1 (IsLeading-first p cmp laws limit t rest ordered)

  -- closed lines without a constant have no 1 in their ideal
  pub free : {F O : Type 0} (gens : List Terms) (lines : List (Line F O)) → AreBasisLines p cmp gens lines → AreLists (polys_of lines) → IsClosed p cmp (polys_of lines) → HasNoConstant p (polys_of lines) → Ideal p gens one → ⊥
  free gens lines basis lists closed none member =
      let gs = polys_of lines in
      let (own, before, terms, sum) = member_of_lines p gens lines basis.0 basis.1 one member in
      let led = of_combination p prime cmp laws gs lists closed own before terms one sum 1 [] (one_leads p cmp (omega (arith, prime.least))) in
      none led.0 (constant_line p cmp laws gs lists led)

-- nothing is left
pub whole_combination : (p : ℕ) → 0 < p → (poly rest sum : Terms) → rest ≡ [] → SamePolynomial p rest (difference p poly sum) → SamePolynomial p poly sum
whole_combination p h poly rest sum none same m =
    same_from_sub_mod p (coefficient p poly m) (coefficient p sum m) (mod-lt _ h) (mod-lt _ h)
    (sym (coefficient-difference p h poly sum m) ∙ sym (same m) ∙ ap (λ ts. coefficient p ts m) none ∙ coefficient-none p m)

-- ---- constants

last_line : {F O : Type 0} (ls : List (Line F O)) (i : ℕ) → suc i ≡ length ls → (before : List (Line F O)) × (last : Line F O) × (ls ≡ before ++ last ∷ []) × (get_or (polys_of ls) i [] ≡ last.poly)
last_line [] i e = absurd (omega (arith, e))
last_line (l ∷ []) zero e = ([], l, refl, refl)
last_line (l ∷ []) (suc i) e = absurd (omega (arith, e))
last_line (l ∷ k ∷ ls) zero e = absurd (omega (arith, e))
last_line (l ∷ k ∷ ls) (suc i) e =
    let (before, last, is, at) = last_line (k ∷ ls) i (omega (arith, e)) in
    (l ∷ before, last, ap (λ xs. l ∷ xs) is, at)

-- the last line is a constant other than 0
pub last_is_constant : {F O : Type 0} (p : ℕ) (cmp : Monomial → Monomial → Ordering) (lines : List (Line F O)) (i : ℕ) (gens : List Terms) → IsConstantLine p (polys_of lines) i → suc i ≡ length lines → AreBasisLines p cmp gens lines → ShowOne p gens lines
last_is_constant p cmp lines i gens constant at_end (further, v, added) =
    let (before, last, is, at) = last_line lines i at_end in (
      (further, v, parts_of_added p cmp gens further added),
      (before, last, is, (subst (λ ts. ts ≢ []) at constant.1, subst (IsConstant p) at constant.2)),
    )

-- a member that is a constant other than 0 shows 1
pub constant_is_shown : {F O : Type 0} (p : ℕ) (gens : List Terms) (poly : Terms) (lines : List (Line F O)) → poly ≢ [] → IsConstant p poly → ShowMember p gens poly lines × ShowSums p gens lines → ShowOne p gens lines
constant_is_shown p gens poly lines nonzero constant (member, sums) =
    let (further, v, (before, last, is, last_is)) = member in
    (sums, (before, last, is, (subst (λ ts. ts ≢ []) (sym last_is) nonzero, subst (IsConstant p) (sym last_is) constant)))

-- a constant polynomial is its leading coefficient
is_coefficient : (p : ℕ) (cmp : Monomial → Monomial → Ordering) → 0 < p → (g : Terms) → IsConstant p g → (c : ℕ) (m : Monomial) → IsLeading p cmp g c m → SamePolynomial p g ((c, []) ∷ [])
is_coefficient p cmp h g constant c m leads n =
    let m_is : m ≡ [] = constant m (λ none. leads.1 (sym leads.0 ∙ none)) in
    let low : c < p = subst (λ k. k < p) leads.0 (mod-lt _ h) in
    elim (cases_monomial [] n) [
      | inl here ↦
          ap (coefficient p g) (sym here ∙ sym m_is) ∙ leads.0 ∙ sym (mod-eq_of_lt low)
          ∙ ap (λ k. k % p) (let same : c ≡ c + 0 = omega arith in same) ∙ ap (λ k. k % p) (sym (written-at n (c, []) [] here))
      | inr there ↦
          elim (cases_eq (coefficient p g n) 0) [
            | inl none ↦ none ∙ sym (coefficient-other p (c, []) [] n there ∙ coefficient-none p n)
            | inr some ↦ absurd (there (sym (constant n some)))
          ]
    ]

-- the inverse of a constant times a polynomial is its quotient by the constant
pub quotient_by_constant : (p : ℕ) (cmp : Monomial → Monomial → Ordering) → 0 < p → (poly q g : Terms) → AreTerms poly → IsConstant p g → (c : ℕ) (m : Monomial) → IsLeading p cmp g c m → (k : ℕ) → mul_mod p c k ≡ 1 → SamePolynomial p q (scaled k poly)
    → SamePolynomial p poly (product q g)
quotient_by_constant p cmp h poly q g v constant c m leads k inverse is n =
    let single : Terms = (c, []) ∷ [] in
    let x = coefficient p poly n in
    let whole : product single (scaled k poly) ≡ scaled (c * k) poly =
    append-nil (term_product c [] (term_product k [] poly)) ∙ term_product-twice c k [] [] poly tt tt v in
    sym
    (same_products p q (scaled k poly) g single is (is_coefficient p cmp h g constant c m leads) n
    ∙ product_commutes p (scaled k poly) single (AreTerms-scaled k poly v) (tt, tt) n
    ∙ ap (λ ts. coefficient p ts n) whole ∙ coefficient-scaled p (c * k) poly n
    ∙ sym (mul_mod-mod_first p (c * k) x) ∙ ap (λ e. mul_mod p e x) inverse ∙ mul_mod-one_first p x (mod-lt _ h))

-- ---- units

module _ (p : ℕ) (cmp : Monomial → Monomial → Ordering) (graded : IsGraded cmp) where
  pub within_completion : (gs : List Terms) (old new : Spending) → TakesReductions old new → total new ≡ new.budget → IsCompletionBound p cmp gs old new → IsWithinCompletion p old gs
  within_completion gs old new takes spent bound vs d up =
      omega (arith, takes.same_budget, spent, bound vs d (λ m n v w _ _ h. graded m n v w h) up)

  pub within_membership : (gs : List Terms) (poly : Terms) (old mid new : Spending) → TakesReductions old mid → TakesReductions mid new → total new ≡ new.budget → IsCompletionBound p cmp gs old mid → IsReductionBound p cmp gs poly mid new
      → IsWithinMembership p poly old gs
  within_membership gs poly old mid new takes also spent bound more vs d e up poly_up =
      let in_all : (m n : Monomial) → IsMonomial m → IsMonomial n → IsIn vs m → IsIn vs n → degree n < degree m → cmp m n ≡ Greater = λ m n v w _ _ h. graded m n v w h in
      omega (arith, takes.same_budget, also.same_budget, spent, bound vs d in_all up, more vs e in_all (λ i m some. (up i m some).0) poly_up)

  -- a completion that was spent is within both
  pub completion_within_membership : (gs : List Terms) (poly : Terms) (old : Spending) → IsWithinCompletion p old gs → IsWithinMembership p poly old gs
  completion_within_membership gs poly old within vs d e up poly_up = omega (arith, within vs d up)

-- ---- calls

abbrev AreSame : {A : Type 0} → Result A Stop → Result A Stop → Type 0
AreSame r s = r ≡ s

pub spent_is_not_memory : {A : Type 0} (s : Stop) → s ≡ Spent → AreSame {A = A} (Err s) (Err Memory) → ⊥
spent_is_not_memory Spent e h = absurd (cc h)
spent_is_not_memory Memory e h = absurd (cc e)

pub pushed_is_some : {A : Type 0} (xs ys : List A) (x : A) → ys ≡ xs ++ x ∷ [] → ys ≢ []
pushed_is_some [] ys x is none = let both : x ∷ [] ≡ [] = sym is ∙ none in absurd (cc both)
pushed_is_some (z ∷ xs) ys x is none = let both : z ∷ (xs ++ x ∷ []) ≡ [] = sym is ∙ none in absurd (cc both)

pub empty_list : {A : Type 0} (xs ys : List A) (b : Bool) → b ≡ (length xs == 0) → b ≡ true → xs ≡ ys → ys ≡ []
empty_list [] ys b is holds same = sym same
empty_list (x ∷ xs) ys b is holds same =
    let none : length (x ∷ xs) ≡ 0 = eqb-true (length (x ∷ xs)) 0 (sym is ∙ holds) in absurd (omega arith)

pub full_list : {A : Type 0} (xs ys : List A) (b : Bool) → b ≡ (length xs == 0) → b ≡ false → xs ≡ ys → ys ≢ []
full_list xs ys b is fails same none =
    let nothing : length xs ≡ 0 = ap length (same ∙ none) in
    false≢true (sym fails ∙ is ∙ eq-eqb (length xs) 0 nothing)

-- the answer names the limit
pub over_named : (o : Option (ℕ × Monomial)) (P : (ℕ × Monomial) → Type 0) → true ≡ is_some o → IfSome o P → (i : ℕ) × (q : Monomial) × (o ≡ Some (i, q)) × P (i, q)
over_named None P e h = absurd (cc e)
over_named (Some t) P e h = (t.0, t.1, refl, h)

pub not_over : (o : Option (ℕ × Monomial)) (P : Type 0) → false ≡ is_some o → IfNone o P → P
not_over None P e h = h
not_over (Some t) P e h = absurd (cc e)

pub rest_of : {F O : Type 0} (p : ℕ) (cmp : Monomial → Monomial → Ordering) (lines : List (Line F O)) (poly rest : Terms) (parts : Parts) → rest ≢ [] → SamePolynomial p rest (difference p poly (combination (polys_of lines) parts)) → AreBefore (length lines) parts → ArePartsAtMost p cmp (polys_of lines) poly parts
    → IsRest p cmp (polys_of lines) poly rest parts
rest_of p cmp lines poly rest parts some same before at_most = record {
  nonzero = some;
  difference = same;
  before = subst (λ n. AreBefore n parts) (sym (length-polys lines)) before;
  at_most = at_most;
}

pub pairs_of_closed : (p : ℕ) (cmp : Monomial → Monomial → Ordering) (gs : List Terms) (pairs : List (ℕ × ℕ)) → pairs ≡ [] → IsClosed p cmp gs → ArePairsOf p cmp gs pairs
pairs_of_closed p cmp gs [] none closed = closed
pairs_of_closed p cmp gs (t ∷ ts) none closed = absurd (cc none)

pub pairs_of_set_aside : (p : ℕ) (cmp : Monomial → Monomial → Ordering) (gs : List Terms) (pairs : List (ℕ × ℕ)) → IsSetAside p cmp gs pairs → ArePairsOf p cmp gs pairs
pairs_of_set_aside p cmp gs [] v = absurd (v.some refl)
pairs_of_set_aside p cmp gs (t ∷ ts) v = v

pub constant_there : (p : ℕ) (gs : List Terms) (i place : ℕ) (poly : Terms) → i ≡ place → get_or gs place [] ≡ poly → IsConstantLine p gs i → (poly ≢ []) × IsConstant p poly
constant_there p gs i place poly here at constant =
    let is : get_or gs i [] ≡ poly = ap (λ k. get_or gs k []) here ∙ at in
    (subst (λ ts. ts ≢ []) is constant.1, subst (IsConstant p) is constant.2)
