-- The lists of a record, and the polynomials that are made of them.
use Rattle.std.proofs.Common.{◌≡◌, ℕ, zero, suc, ◌%◌, ◌<◌, ◌≤◌, List, [], ◌∷◌, ◌++◌, length, get_or, set, take, refl, sym, ap, ◌∙◌, subst, inl, inr, arith, one-mul}
use Rattle.std.specs.declared.cmp.Ordering.{Ordering}
use Rattle.ffc_ring.specs.Monomial.{Monomial, IsMonomial}
use Rattle.ffc_ring.specs.Polynomial.{Terms, AreTerms, written, coefficient, SamePolynomial, scaled}
use Rattle.ffc_ring.proofs.PolynomialLemmas.{written-scaled, same_sums}
use Rattle.ffc_poly.specs.Ordered.{residues}
use Rattle.ffc_line.specs.Lines.{Parts, combination, AreTermLists, IsPolynomial, IsLineOfNone, ArePolynomials, HasMonomial, HasPart}
use Rattle.ffc_basis.specs.Records.{AreShort, AreOfDifferentLines}
use Rattle.ffc_basis.specs.Reduction.{IsReduction, IsStopped, PassesLimit}
use Rattle.ffc_basis.specs.Remainders.{IsRecordedReduction}
use Rattle.ffc_basis.specs.Outcomes.{AreScaled}
use Rattle.ffc_basis.proofs.OrderedTerms.{PassesTerms-same}
use Rattle.ffc_basis.proofs.SPolynomialLemmas.{scaled_combination, scaled_before}

pub terms_push : (ts : Terms) (t : ℕ × Monomial) → AreTerms ts → IsMonomial t.1 → AreTerms (ts ++ t ∷ [])
terms_push [] t v w = (w, tt)
terms_push (x ∷ ts) t v w = (v.0, terms_push ts t v.1 w)

-- ---- short lists

pub length-residues : {F : Type 0} (value : F → ℕ) (ts : List (F × Monomial)) → length (residues value ts) ≡ length ts
length-residues value [] = refl
length-residues value (t ∷ ts) = ap suc (length-residues value ts)

pub short_at : (xs : Parts) (j : ℕ) → AreShort xs → j < length xs → AreTerms (get_or xs j (0, [])).1 × (length (get_or xs j (0, [])).1 ≤ 131072)
short_at [] j v h = absurd (omega arith)
short_at (x ∷ xs) zero v h = (v.0, v.1)
short_at (x ∷ xs) (suc j) v h = short_at xs j v.2 (omega arith)

pub short_set : (xs : Parts) (j line : ℕ) (s : Terms) → AreShort xs → AreTerms s → length s ≤ 131072 → AreShort (set xs j (line, s))
short_set [] j line s v w h = tt
short_set (x ∷ xs) zero line s v w h = (w, h, v.2)
short_set (x ∷ xs) (suc j) line s v w h = (v.0, v.1, short_set xs j line s v.2 w h)

pub short_push : (xs : Parts) (line : ℕ) (t : ℕ × Monomial) → AreShort xs → IsMonomial t.1 → AreShort (xs ++ (line, t ∷ []) ∷ [])
short_push [] line t v w = ((w, tt), omega arith, tt)
short_push (x ∷ xs) line t v w = (v.0, v.1, short_push xs line t v.2 w)

pub lists_of_short : (xs : Parts) → AreShort xs → AreTermLists xs
lists_of_short [] v = tt
lists_of_short (x ∷ xs) v = (v.0, lists_of_short xs v.2)

-- ---- parts as polynomials

scaled_by_one : (p : ℕ) (ts : Terms) → SamePolynomial p (scaled 1 ts) ts
scaled_by_one p ts m = ap (λ k. k % p) (written-scaled 1 ts m ∙ one-mul (written ts m))

same_one : (p : ℕ) (a b : Terms) → SamePolynomial p a (scaled 1 b) → SamePolynomial p a b
same_one p a b same m = same m ∙ scaled_by_one p b m

pub one_combination : (p : ℕ) (gs : List Terms) (ts us : Parts) → AreScaled p 1 ts us → SamePolynomial p (combination gs ts) (combination gs us)
one_combination p gs ts us are m = sym (scaled_combination p 1 gs ts us are m ∙ scaled_by_one p (combination gs ts) m)

one_monomial : (p : ℕ) (ts us : Parts) → AreScaled p 1 ts us → (i : ℕ) (m : Monomial) → HasMonomial p us i m → HasMonomial p ts i m
one_monomial p [] [] are i m has = absurd has
one_monomial p [] (u ∷ us) are i m has = absurd are
one_monomial p (t ∷ ts) [] are i m has = absurd are
one_monomial p (t ∷ ts) (u ∷ us) are i m (inl (here, some)) = inl (sym are.0 ∙ here, λ none. some (same_one p u.1 t.1 are.1 m ∙ none))
one_monomial p (t ∷ ts) (u ∷ us) are i m (inr there) = inr (one_monomial p ts us are.2 i m there)

-- the part of a line as a polynomial
one_part : (p : ℕ) (ts us : Parts) → AreScaled p 1 ts us → (i : ℕ) (t : Terms) → HasPart ts i t → (u : Terms) × HasPart us i u × SamePolynomial p t u
one_part p [] us are i t (j, low, is) = absurd (omega arith)
one_part p (x ∷ ts) [] are i t has = absurd are
one_part p (x ∷ ts) (u ∷ us) are i t (zero, low, is) =
    (u.1, (zero, omega arith, ap (λ (n : ℕ). (n, u.1)) (are.0 ∙ ap (λ r. r.0) is)), λ m. ap (λ r. coefficient p r.1 m) (sym is) ∙ sym (same_one p u.1 x.1 are.1 m))
one_part p (x ∷ ts) (u ∷ us) are i t (suc j, low, is) =
    let found = one_part p ts us are.2 i t (j, omega arith, is) in
    (found.0, (suc found.1.0, (let up : suc found.1.0 < length (u ∷ us) = omega (arith, found.1.1) in up), found.1.2), found.2)

pub finished_reduction : (p : ℕ) (cmp : Monomial → Monomial → Ordering) (gs : List Terms) (poly rest : Terms) (ts us : Parts) → AreScaled p 1 ts us → (AreOfDifferentLines ts → ArePolynomials p cmp us) → IsRecordedReduction p cmp gs poly rest ts → IsReduction p cmp gs poly rest us
finished_reduction p cmp gs poly rest ts us are polynomials r = record {
  whole = λ m. r.remainder.whole m ∙ same_sums p rest rest (combination gs ts) (combination gs us) (λ _. refl) (one_combination p gs ts us are) m;
  before = scaled_before p 1 (length gs) ts us are r.remainder.before;
  at_most = λ i m has. r.remainder.at_most i m (one_monomial p ts us are i m has);
  lower = r.remainder.lower;
  left = r.left;
  polynomials = polynomials r.lines;
}

finished_passes : (p : ℕ) (gs : List Terms) (rest : Terms) (ts us : Parts) (i k : ℕ) (q : Monomial) → AreScaled p 1 ts us → PassesLimit p gs rest ts i k q → PassesLimit p gs rest us i k q
finished_passes p gs rest ts us i k q are (inl over) = inl over
finished_passes p gs rest ts us i k q are (inr (inl over)) = inr (inl over)
finished_passes p gs rest ts us i k q are (inr (inr (t, has, over))) =
    let found = one_part p ts us are i t has in
    inr (inr (found.0, found.1, PassesTerms-same p 131072 (t ++ (k, q) ∷ []) (found.0 ++ (k, q) ∷ []) (same_sums p t found.0 ((k, q) ∷ []) ((k, q) ∷ []) found.2 (λ _. refl)) over))

pub finished_stops : (p : ℕ) (cmp : Monomial → Monomial → Ordering) (gs : List Terms) (rest : Terms) (ts us : Parts) (i : ℕ) (q : Monomial) → AreScaled p 1 ts us → IsStopped p cmp gs rest ts i q → IsStopped p cmp gs rest us i q
finished_stops p cmp gs rest ts us i q are (m, k, some, step, over) = (m, k, some, step, finished_passes p gs rest ts us i k q are over)

-- ---- the lists up to a place

no_line_scaled : (p c line : ℕ) (ts us : Parts) → AreScaled p c ts us → IsLineOfNone line ts → IsLineOfNone line us
no_line_scaled p c line [] [] are v = tt
no_line_scaled p c line [] (u ∷ us) are v = absurd are
no_line_scaled p c line (t ∷ ts) [] are v = absurd are
no_line_scaled p c line (t ∷ ts) (u ∷ us) are v = ((λ e. v.0 (sym are.0 ∙ e)), no_line_scaled p c line ts us are.2 v.1)

-- each of these parts is a polynomial
abbrev pub AreEachPolynomials : ℕ → (Monomial → Monomial → Ordering) → Parts → Type 0
AreEachPolynomials p cmp [] = Unit {0}
AreEachPolynomials p cmp (t ∷ ts) = IsPolynomial p cmp t.1 × AreEachPolynomials p cmp ts

pub each_push : (p : ℕ) (cmp : Monomial → Monomial → Ordering) (ts us : Parts) (line : ℕ) (u : Terms) → us ≡ ts ++ (line, u) ∷ [] → IsPolynomial p cmp u → AreEachPolynomials p cmp ts → AreEachPolynomials p cmp us
each_push p cmp ts us line u is w v = subst (AreEachPolynomials p cmp) (sym is) (pushed ts v)
  where
    pushed : (xs : Parts) → AreEachPolynomials p cmp xs → AreEachPolynomials p cmp (xs ++ (line, u) ∷ [])
    pushed [] v = (w, tt)
    pushed (x ∷ xs) v = (v.0, pushed xs v.1)

pub polynomials_of_scaled : (p c : ℕ) (cmp : Monomial → Monomial → Ordering) (ts us : Parts) → AreScaled p c ts us → AreEachPolynomials p cmp us → AreOfDifferentLines ts → ArePolynomials p cmp us
polynomials_of_scaled p c cmp [] [] are v w = tt
polynomials_of_scaled p c cmp [] (u ∷ us) are v w = absurd are
polynomials_of_scaled p c cmp (t ∷ ts) [] are v w = absurd are
polynomials_of_scaled p c cmp (t ∷ ts) (u ∷ us) are v w =
    (v.0, subst (λ n. IsLineOfNone n us) (sym are.0) (no_line_scaled p c t.0 ts us are.2 w.0), polynomials_of_scaled p c cmp ts us are.2 v.1 w.1)

pub scaled_all : (p c : ℕ) (ts us : Parts) (i : ℕ) → length ts ≤ i → AreScaled p c (take i ts) us → AreScaled p c ts us
scaled_all p c [] us zero h v = v
scaled_all p c [] us (suc i) h v = v
scaled_all p c (t ∷ ts) us zero h v = absurd (omega arith)
scaled_all p c (t ∷ ts) [] (suc i) h v = absurd v
scaled_all p c (t ∷ ts) (u ∷ us) (suc i) h v = (v.0, v.1, scaled_all p c ts us i (omega arith) v.2)
