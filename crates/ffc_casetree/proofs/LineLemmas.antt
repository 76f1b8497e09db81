-- Ordered polynomials as the checker has them.
use Rattle.std.proofs.Common.{◌≡◌, ℕ, ◌+◌, ◌<◌, ◌≤◌, max, fold, List, [], ◌∷◌, ◌++◌, length, get_or, take, refl, sym, ap, ap₂, ◌∙◌, subst, arith}
use Rattle.std.proofs.Math.Seq.{take-length}
use Rattle.std.proofs.lemmas.List.{get_or_default}
use Rattle.std.specs.declared.cmp.Ordering.{Ordering}
use Rattle.ffc_ring.specs.Monomial.{Monomial, degree}
use Rattle.ffc_ring.specs.Polynomial.{Terms, AreTerms, IsNoneOf, SamePolynomial}
use Rattle.ffc_mono.specs.MonomialOrder.{IsMonomialOrder}
use Rattle.ffc_mono.proofs.LeadingLemmas.{not_itself}
use Rattle.ffc_poly.specs.Ordered.{IsAbove, IsOrdered}
use Rattle.ffc_uni.proofs.Rows.{taken_at}
use Rattle.ffc_trees.specs.Normal.{IsNormal, monomials_of, degree_of}
use Rattle.ffc_trees.specs.Same.{IsSameLine}
use Rattle.ffc_trees.proofs.SameLemmas.{one_degree}
use Rattle.ffc_ckpoly.specs.Flat.{as_written}

module _ (p : ℕ) (cmp : Monomial → Monomial → Ordering) (laws : IsMonomialOrder cmp) where
  none_of_above : (m : Monomial) (ts : Terms) → IsAbove cmp m ts → IsNoneOf (monomials_of ts) m
  none_of_above m [] h = tt
  none_of_above m (t ∷ ts) h = ((λ e. not_itself cmp laws m t.1 h.0 (sym e)), none_of_above m ts h.1)

  pub ordered_normal : (limit : ℕ) (ts : Terms) → IsOrdered p cmp limit ts → IsNormal p ts
  ordered_normal limit [] h = tt
  ordered_normal limit (t ∷ ts) h = (h.0, h.1, none_of_above t.1 ts h.4, ordered_normal limit ts h.5)

pub ordered_terms : (p : ℕ) (cmp : Monomial → Monomial → Ordering) (limit : ℕ) (ts : Terms) → IsOrdered p cmp limit ts → AreTerms ts
ordered_terms p cmp limit [] h = tt
ordered_terms p cmp limit (t ∷ ts) h = (h.2, ordered_terms p cmp limit ts h.5)

low_from : (p : ℕ) (cmp : Monomial → Monomial → Ordering) (limit a : ℕ) (ts : Terms) → a ≤ limit → IsOrdered p cmp limit ts → fold (λ b (t : ℕ × Monomial). max b (degree t.1)) a ts ≤ limit
low_from p cmp limit a [] start h = start
low_from p cmp limit a (t ∷ ts) start h = low_from p cmp limit (max a (degree t.1)) ts (omega (arith, start, h.3)) h.5

-- the degree of an ordered polynomial is within the limit
pub ordered_low : (p : ℕ) (cmp : Monomial → Monomial → Ordering) (limit : ℕ) (ts : Terms) → IsOrdered p cmp limit ts → degree_of ts ≤ limit
ordered_low p cmp limit ts h = low_from p cmp limit 0 ts (omega arith) h

-- a list of the checker's that is the polynomial of these terms
pub same_line : (p : ℕ) (cmp : Monomial → Monomial → Ordering) → IsMonomialOrder cmp → (limit : ℕ) (r ts written : Terms) → IsOrdered p cmp limit ts → written ≡ ts → SamePolynomial p r written → IsNormal p r → IsSameLine p r ts
same_line p cmp laws limit r ts written ordered e same normal = record {
  one = normal;
  other = ordered_normal p cmp laws limit ts ordered;
  same = subst (λ k. SamePolynomial p r k) e same;
}

pub low_line : (p : ℕ) (cmp : Monomial → Monomial → Ordering) (limit : ℕ) (r ts : Terms) → 0 < p → IsOrdered p cmp limit ts → IsSameLine p r ts → degree_of r ≤ limit
low_line p cmp limit r ts positive ordered same = omega (arith, one_degree p r ts positive same, ordered_low p cmp limit ts ordered)

-- one more term is written
pub written_last : {F V : Type 0} (value : F → ℕ) (powers : V → Monomial) (ts : List (F × V)) (c : F) (v : V) → as_written value (ts ++ (c, v) ∷ []) powers ≡ as_written value ts powers ++ (value c, powers v) ∷ []
written_last value powers [] c v = refl
written_last value powers (t ∷ ts) c v = ap (λ k. (value t.0, powers t.1) ∷ k) (written_last value powers ts c v)

pub term_written : {F V : Type 0} (value : F → ℕ) (powers : V → Monomial) (items new : List (F × V)) (c : F) (v : V) (poly : Terms) (i : ℕ) → i < length poly → new ≡ items ++ (c, v) ∷ [] → as_written value items powers ≡ take i poly
    → value c ≡ (get_or poly i (0, [])).0 → powers v ≡ (get_or poly i (0, [])).1 → as_written value new powers ≡ take (i + 1) poly
term_written value powers items new c v poly i inside added so_far coefficient monomial =
    let last : ℕ × Monomial = get_or poly i (0, []) in
    let here : (value c, powers v) ≡ last = ap₂ (λ (a : ℕ) (b : Monomial). (a, b)) coefficient monomial in
    ap (λ ts. as_written value ts powers) added
    ∙ (written_last value powers items c v
    ∙ (ap₂ (λ ts t. ts ++ t ∷ []) so_far here
    ∙ sym (taken_at poly i last inside (get_or_default poly i (0, []) last inside))))

pub written_whole : {F V : Type 0} (value : F → ℕ) (powers : V → Monomial) (items all : List (F × V)) (poly : Terms) (i : ℕ) → items ≡ all → as_written value all powers ≡ take i poly → i ≡ length poly → as_written value items powers ≡ poly
written_whole value powers items all poly i same so_far end =
    ap (λ ts. as_written value ts powers) same ∙ (so_far ∙ (ap (λ k. take k poly) end ∙ take-length poly))
