-- The terms of an equality's difference, and of a normal polynomial.
use Rattle.std.proofs.Common.{inl, inr, ◌≡◌, ◌≢◌, ℕ, ◌+◌, ◌-◌, ◌%◌, ◌<◌, ◌≤◌, true, false, List, [], ◌∷◌, ◌++◌, length, take, refl, sym, ap, ◌∙◌, subst, arith, length-take}
use Rattle.std.specs.Cmp.{IsEquivalence, both_ways}
use Rattle.std.specs.List.{AllByRecursion, IsDistinct, list_any}
use Rattle.std.proofs.Math.Nat.{mod-eq_of_lt}
use Rattle.std.proofs.lemmas.Bool.{false≢true, or_cases}
use Rattle.std.proofs.lemmas.Map.Made.{length-le_from_is_member}
use Rattle.ffc_ring.specs.Monomial.{Monomial, same_monomial}
use Rattle.ffc_ring.specs.Polynomial.{Terms, AreTerms, written, coefficient, IsNoneOf, scaled}
use Rattle.ffc_ring.specs.Counting.{AreDifferent}
use Rattle.ffc_ring.proofs.PolynomialLemmas.{same_monomial-true, same_monomial-self, same_monomial-equal, same_monomial-other, written-at, written-off}
use Rattle.ffc_rules.specs.Entries.{is_equality_at}
use Rattle.ffc_rules.proofs.GivenLemmas.{equality_at}
use Rattle.ffc_rules.proofs.AssignmentLemmas.{node_at-is}
use Rattle.ffc_term.specs.declared.node.Node.{Node}
use Rattle.ffc_term.specs.declared.node.Node.TheVariants.{Eq}
use Rattle.ffc_term.specs.declared.node.Sort.TheVariants as sort
use Rattle.ffc_term.specs.Nodes.{IsNodeAt, node_at}
use Rattle.ffc_term.specs.Tables.{IsTable, IsFieldAt, AreOfOneField}
use Rattle.ffc_term.proofs.TableLemmas.{sort_at-take}
use Rattle.ffc_trees.specs.Normal.{IsNormal, monomials_of}
use Rattle.ffc_trees.specs.NodePolynomials.{poly_at}
use Rattle.ffc_trees.specs.FirstLines.{difference_of}
use Rattle.ffc_trees.proofs.ProductLemmas.{poly_terms}

pub terms-append : (a b : Terms) → AreTerms a → AreTerms b → AreTerms (a ++ b)
terms-append [] b h k = k
terms-append (t ∷ a) b h k = (h.0, terms-append a b h.1 k)

pub terms-scaled : (c : ℕ) (ts : Terms) → AreTerms ts → AreTerms (scaled c ts)
terms-scaled c [] h = tt
terms-scaled c (t ∷ ts) h = (h.0, terms-scaled c ts h.1)

-- both sides of an equality are of its order
pub other_side : (nodes : List Node) (v p s t : ℕ) → IsTable nodes → IsNodeAt nodes v (Eq s t) → IsFieldAt nodes p s → IsFieldAt nodes p t
other_side nodes v p s t table at is =
    let fits : AreOfOneField (take v nodes) (s ∷ t ∷ []) = table.well_formed.fits v (Eq s t) at in
    let one : IsFieldAt (take v nodes) fits.order s = fits.each 0 0 (omega arith) in
    let two : IsFieldAt (take v nodes) fits.order t = fits.each 1 0 (omega arith) in
    let before : s < v = omega (arith, one.0, length-take v nodes) in
    let also : t < v = omega (arith, two.0, length-take v nodes) in
    let same : sort.Field fits.order ≡ sort.Field p = sym one.1 ∙ sort_at-take v nodes s before ∙ is.1 in
    (omega (arith, two.0, length-take v nodes), sym (sort_at-take v nodes t also) ∙ two.1 ∙ same)

pub difference_terms : (nodes : List Node) (p id : ℕ) → IsTable nodes → is_equality_at nodes p id ≡ true → AreTerms (difference_of p nodes (node_at nodes id))
difference_terms nodes p id table is =
    let (s, t, at, side) = equality_at nodes p (true, id) table is in
    subst (λ n. AreTerms (difference_of p nodes n)) (sym (node_at-is nodes id (Eq s t) at))
    (terms-append (poly_at nodes s) (scaled (p - 1) (poly_at nodes t)) (poly_terms nodes p s table side)
    (terms-scaled (p - 1) (poly_at nodes t) (poly_terms nodes p t table (other_side nodes id p s t table at side))))

-- a monomial that is none of those of the terms has no coefficient
none_written : (m : Monomial) (ts : Terms) → IsNoneOf (monomials_of ts) m → written ts m ≡ 0
none_written m [] none = refl
none_written m (t ∷ ts) none = written-off m t ts none.0 ∙ none_written m ts none.1

more_written : (n : ℕ × Monomial) (us ts : Terms) → IsNoneOf (monomials_of ts) n.1 → AllByRecursion (λ t. written us t.1 ≡ t.0) ts → AllByRecursion (λ t. written (n ∷ us) t.1 ≡ t.0) ts
more_written n us [] none are = tt
more_written n us (t ∷ ts) none are = (written-off t.1 n us (λ e. none.0 (sym e)) ∙ are.0, more_written n us ts none.1 are.1)

-- what is written for the monomial of a term is its coefficient
pub normal_written : (p : ℕ) (ts : Terms) → IsNormal p ts → AllByRecursion (λ t. written ts t.1 ≡ t.0) ts
normal_written p [] is = tt
normal_written p (t ∷ ts) is =
    let none : written ts t.1 ≡ 0 = none_written t.1 ts is.2 in
    (written-at t.1 t ts refl ∙ (let e : t.0 + written ts t.1 ≡ t.0 = omega arith in e), more_written t ts ts is.2 (normal_written p ts is.3))

-- terms with coefficients from 1 to p - 1
positive_each : (p : ℕ) (ts : Terms) → IsNormal p ts → AllByRecursion (λ t. (0 < t.0) × (t.0 < p)) ts
positive_each p [] is = tt
positive_each p (t ∷ ts) is = ((is.0, is.1), positive_each p ts is.3)

both_each : (p : ℕ) (us ts : Terms) → AllByRecursion (λ t. written us t.1 ≡ t.0) ts → AllByRecursion (λ t. (0 < t.0) × (t.0 < p)) ts → AllByRecursion (λ t. coefficient p us t.1 ≢ 0) ts
both_each p us [] one two = tt
both_each p us (t ∷ ts) one two = (
  (λ none. let e : t.0 ≡ 0 = sym (mod-eq_of_lt two.0.1) ∙ ap (λ x. x % p) (sym one.0) ∙ none in omega (arith, two.0.0)),
  both_each p us ts one.1 two.1,
)

-- each monomial of a normal polynomial has a coefficient other than 0
pub normal_nonzero : (p : ℕ) (ts : Terms) → IsNormal p ts → AllByRecursion (λ t. coefficient p ts t.1 ≢ 0) ts
normal_nonzero p ts is = both_each p ts ts (normal_written p ts is) (positive_each p ts is)

-- Different monomials that are among others are no more than these.

same_laws : IsEquivalence same_monomial
same_laws = record {
  refl = same_monomial-self;
  symm = λ m n. both_ways (same_monomial m n) (same_monomial n m) (λ e. same_monomial-equal n m (sym (same_monomial-true m n e))) (λ e. same_monomial-equal m n (sym (same_monomial-true n m e)));
  congr = λ m n k e. ap (λ x. same_monomial x k) (same_monomial-true m n e);
}

none_equal : (m : Monomial) (ms : List Monomial) → IsNoneOf ms m → AllByRecursion (λ n. same_monomial m n ≡ false) ms
none_equal m [] none = tt
none_equal m (n ∷ ms) none = (same_monomial-other m n (λ e. none.0 (sym e)), none_equal m ms none.1)

are_distinct : (ms : List Monomial) → AreDifferent ms → IsDistinct same_monomial ms
unfolding IsDistinct
are_distinct [] are = tt
are_distinct (m ∷ ms) are = (none_equal m ms are.0, are_distinct ms are.1)

among_from_each : (ms others : List Monomial) → AllByRecursion (λ m. list_any (same_monomial m) others ≡ true) ms → (q : Monomial) → list_any (same_monomial q) ms ≡ true → list_any (same_monomial q) others ≡ true
among_from_each [] others each q is = absurd (false≢true is)
among_from_each (m ∷ ms) others each q is =
    elim (or_cases (same_monomial q m) (list_any (same_monomial q) ms) is) as (λ _. list_any (same_monomial q) others ≡ true) [
      | inl here ↦ ap (λ n. list_any (same_monomial n) others) (same_monomial-true q m here) ∙ each.0
      | inr later ↦ among_from_each ms others each.1 q later
    ]

pub few_different : (ms others : List Monomial) → AreDifferent ms → AllByRecursion (λ m. list_any (same_monomial m) others ≡ true) ms → length ms ≤ length others
few_different ms others are each = length-le_from_is_member same_laws ms others (are_distinct ms are) (among_from_each ms others each)
