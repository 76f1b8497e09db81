-- Sums of multiples of lines, one part after another.
use Rattle.std.proofs.Common.{◌≡◌, ℕ, zero, suc, ◌+◌, ◌<◌, ◌≤◌, List, [], ◌∷◌, ◌++◌, length, get_or, take, refl, sym, ap, ◌∙◌, subst, arith, append-nil}
use Rattle.ffc_ring.specs.Polynomial.{Terms, coefficient, SamePolynomial, product}
use Rattle.ffc_ring.proofs.PolynomialLemmas.{same_sums}
use Rattle.ffc_line.specs.declared.line.Line.{Line}
use Rattle.ffc_line.specs.Lines.{Parts, polys_of, combination, AreBefore}
use Rattle.ffc_basis.proofs.LineLemmas.{taken_more}
use Rattle.ffc_basis.proofs.Lists.{poly_at}
use Rattle.ffc_basis.proofs.PartLemmas.{combination-append}

before_push : (n : ℕ) (ts : Parts) (t : ℕ × Terms) → AreBefore n ts → t.0 < n → AreBefore n (ts ++ t ∷ [])
before_push n [] t v h = (h, tt)
before_push n (s ∷ ts) t v h = (v.0, before_push n ts t v.1 h)

-- one part more
pub sum_next : {F O : Type 0} (p : ℕ) (lines : List (Line F O)) (ts : Parts) (i : ℕ) (t : ℕ × Terms) (l : Line F O) (sum next : Terms) → i < length ts → t ≡ get_or ts i t
    → t.0 < length lines → l ≡ get_or lines t.0 l
    → SamePolynomial p next (sum ++ product t.1 l.poly)
    → SamePolynomial p sum (combination (polys_of lines) (take i ts)) → SamePolynomial p next (combination (polys_of lines) (take (i + 1) ts))
sum_next p lines ts i t l sum next low is within at more so_far m =
    let gs = polys_of lines in
    let line : l.poly ≡ get_or gs t.0 [] = ap (λ k. k.poly) at ∙ sym (poly_at lines t.0 l within) in
    more m
    ∙ ap (λ g. coefficient p (sum ++ product t.1 g) m) line
    ∙ same_sums p sum (combination gs (take i ts)) (product t.1 (get_or gs t.0 [])) (combination gs (t ∷ [])) so_far (λ n. ap (λ k. coefficient p k n) (sym (append-nil (product t.1 (get_or gs t.0 []))))) m
    ∙ ap (λ k. coefficient p k m) (sym (combination-append gs (take i ts) (t ∷ [])))
    ∙ ap (λ k. coefficient p (combination gs k) m) (sym (taken_more ts i t low is))

pub before_next : (n : ℕ) (ts : Parts) (i : ℕ) (t : ℕ × Terms) → i < length ts → t ≡ get_or ts i t → t.0 < n → AreBefore n (take i ts) → AreBefore n (take (i + 1) ts)
before_next n ts i t low is h v = subst (AreBefore n) (sym (taken_more ts i t low is)) (before_push n (take i ts) t v h)
