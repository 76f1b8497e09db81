-- Kept multiples of lines, where lines are appended.
use Rattle.std.proofs.Common.{◌≡◌, Bool, true, false, if◌then◌else◌, ℕ, ◌<◌, List, [], ◌++◌, length, get_or, sym, ap, ◌∙◌, subst, arith, length-append}
use Rattle.std.proofs.lemmas.Bool.{false≢true}
use Rattle.std.proofs.lemmas.List.{get_or_append_left}
use Rattle.std.proofs.lemmas.List.Elements.{All-nil, All-weaker}
use Rattle.std.specs.declared.cmp.Ordering.{Ordering}
use Rattle.ffc_ring.specs.Monomial.{Monomial}
use Rattle.ffc_ring.specs.Polynomial.{Terms, SamePolynomial, term_product}
use Rattle.ffc_dense.specs.Tables.{Multiple, AreMultiplesOf, IsLineOf}
use Rattle.ffc_line.specs.declared.line.Line.{Line}
use Rattle.ffc_line.specs.Lines.{polys_of}
use Rattle.ffc_basis.specs.Completed.{IsFront}
use Rattle.ffc_basis.proofs.AddedLemmas.{polys-append_all}
use Rattle.ffc_basis.proofs.Lists.{length-polys, poly_at}

pub no_multiples : (p : ℕ) (gs : List Terms) (ks : List Multiple) → ks ≡ [] → AreMultiplesOf p gs ks
no_multiples p gs ks none = subst (AreMultiplesOf p gs) (sym none) (All-nil (λ k. (k.0 < length gs) × SamePolynomial p k.2 (term_product 1 k.1 (get_or gs k.0 []))))

multiples-more : (p : ℕ) (gs more : List Terms) (ks : List Multiple) → AreMultiplesOf p gs ks → AreMultiplesOf p (gs ++ more) ks
multiples-more p gs more ks all =
    All-weaker (λ (k : Multiple). (k.0 < length gs) × SamePolynomial p k.2 (term_product 1 k.1 (get_or gs k.0 [])))
    (λ (k : Multiple). (k.0 < length (gs ++ more)) × SamePolynomial p k.2 (term_product 1 k.1 (get_or (gs ++ more) k.0 [])))
    (λ k h. (
      omega (arith, h.0, length-append gs more),
      subst (λ ts. SamePolynomial p k.2 (term_product 1 k.1 ts)) (sym (get_or_append_left gs more [] k.0 h.0)) h.1,
    ))
    ks all

-- multiples of lines are multiples of these and of others after them
pub multiples_appended : {F O : Type 0} (p : ℕ) (old new more : List (Line F O)) (ks : List Multiple) → new ≡ old ++ more → AreMultiplesOf p (polys_of old) ks → AreMultiplesOf p (polys_of new) ks
multiples_appended p old new more ks is all =
    subst (λ gs. AreMultiplesOf p gs ks) (sym (ap polys_of is ∙ polys-append_all old more)) (multiples-more p (polys_of old) (polys_of more) ks all)

pub multiples_in_front : {F O : Type 0} (p : ℕ) (cmp : Monomial → Monomial → Ordering) (old new : List (Line F O)) (ks : List Multiple) → IsFront p cmp old new → AreMultiplesOf p (polys_of old) ks → AreMultiplesOf p (polys_of new) ks
multiples_in_front p cmp old new ks (more, is, added) all = multiples_appended p old new more ks is all

-- the polynomial of a line
pub line_is : {F O : Type 0} (ls : List (Line F O)) (i : ℕ) (l : Line F O) → i < length (polys_of ls) → IsLineOf (polys_of ls) i (get_or ls i l).poly
line_is ls i l inside = (inside, poly_at ls i l (omega (arith, inside, length-polys ls)))

-- ---- a polynomial in the table, or a sum beside it

-- what is changed alike, in the table
pub in_table : (P : Terms → Terms → Type 0) (b : Bool) (table others sum old : Terms) → b ≡ true → (if b then table else sum) ≡ old → P others table → P (if b then others else sum) old
in_table P true table others sum old e is h = subst (P others) is h
in_table P false table others sum old e is h = absurd (false≢true e)

-- or as a sum
pub in_sum : (P : Terms → Terms → Type 0) (b : Bool) (table sum others old : Terms) → b ≡ false → (if b then table else sum) ≡ old → P others sum → P (if b then table else others) old
in_sum P true table sum others old e is h = absurd (false≢true (sym e))
in_sum P false table sum others old e is h = subst (P others) is h

-- what holds of the table's polynomial and multiples
pub multiple_in_table : (P : Terms → List Multiple → Type 0) (b : Bool) (table sum : Terms) (ks : List Multiple) (old : Terms) (kept : List Multiple) → b ≡ true → (if b then table else sum) ≡ old → ks ≡ kept → P table ks → P old kept
multiple_in_table P true table sum ks old kept e is same h = subst (P old) same (subst (λ ts. P ts ks) is h)
multiple_in_table P false table sum ks old kept e is same h = absurd (false≢true e)
