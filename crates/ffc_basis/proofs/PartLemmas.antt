-- A multiple recorded in a part.
use Rattle.std.proofs.Common.{◌≡◌, ◌≢◌, ◌⊎◌, ℕ, zero, suc, ◌+◌, ◌%◌, ◌<◌, ◌≤◌, List, [], ◌∷◌, ◌++◌, length, get_or, set, take, refl, sym, ap, ap₂, ◌∙◌, subst, inl, inr, arith, append_assoc, append-nil}
use Rattle.std.proofs.Math.Nat.{zero-mod}
use Rattle.std.proofs.lemmas.Bool.{cases_eq}
use Rattle.ffc_field.specs.Modular.{add_mod}
use Rattle.ffc_ring.specs.Monomial.{Monomial}
use Rattle.ffc_ring.specs.Polynomial.{Terms, written, coefficient, SamePolynomial, product, term_product}
use Rattle.ffc_ring.proofs.PolynomialLemmas.{cases_monomial, written-append, coefficient-append, sum_alike, same_sums, same_products, product-append}
use Rattle.ffc_basis.proofs.OrderedTerms.{coefficient-none, coefficient-other}
use Rattle.ffc_line.specs.Lines.{Parts, combination, AreBefore, IsLineOfNone, HasMonomial}
use Rattle.ffc_basis.specs.Records.{AreOfDifferentLines}
use Rattle.ffc_basis.specs.Reduction.{IsRecorded, IsAddedAt}

pub some_of_sum : (p : ℕ) (a b : Terms) (n : Monomial) → coefficient p (a ++ b) n ≢ 0 → (coefficient p a n ≢ 0) ⊎ (coefficient p b n ≢ 0)
some_of_sum p a b n some =
    elim (cases_eq (coefficient p a n) 0) [
      | inl none ↦
          inr (λ nothing. some (coefficient-append p a b n ∙ ap₂ (add_mod p) none nothing ∙ ap (λ k. k % p) (omega arith) ∙ zero-mod p))
      | inr found ↦ inl found
    ]

-- a single term has one monomial
pub only_monomial : (p k : ℕ) (q m : Monomial) (single : Terms) → SamePolynomial p single ((k, q) ∷ []) → coefficient p single m ≢ 0 → m ≡ q
only_monomial p k q m single same some =
    elim (cases_monomial q m) [
      | inl is ↦ sym is
      | inr other ↦ absurd (some (same m ∙ coefficient-other p (k, q) [] m other ∙ coefficient-none p m))
    ]

single_product : (p k : ℕ) (q : Monomial) (single g : Terms) → SamePolynomial p single ((k, q) ∷ []) → SamePolynomial p (product single g) (term_product k q g)
single_product p k q single g same m =
    same_products p single ((k, q) ∷ []) g g same (λ _. refl) m ∙ ap (λ l. coefficient p l m) (append-nil (term_product k q g))

-- a summand in the middle
middle : (p : ℕ) (a o t r : Terms) → SamePolynomial p a (o ++ t) → SamePolynomial p (a ++ r) ((o ++ r) ++ t)
middle p a o t r same m =
    ap (λ k. k % p) (written-append a r m)
    ∙ sum_alike p (written a m) (written o m + written t m) (written r m) (written r m) (same m ∙ ap (λ k. k % p) (written-append o t m)) refl
    ∙ ap (λ k. k % p)
    (let whole : written o m + written t m + written r m ≡ written ((o ++ r) ++ t) m =
    omega (arith, written-append (o ++ r) t m, written-append o r m) in whole)

pub combination-append : (gs : List Terms) (xs ys : Parts) → combination gs (xs ++ ys) ≡ combination gs xs ++ combination gs ys
combination-append gs [] ys = refl
combination-append gs (x ∷ xs) ys =
    ap (λ k. product x.1 (get_or gs x.0 []) ++ k) (combination-append gs xs ys)
    ∙ sym (append_assoc (product x.1 (get_or gs x.0 [])) (combination gs xs) (combination gs ys))

-- ---- a part more

AreBefore-push : (n i : ℕ) (t : Terms) (xs : Parts) → i < n → AreBefore n xs → AreBefore n (xs ++ (i, t) ∷ [])
AreBefore-push n i t [] h v = (h, tt)
AreBefore-push n i t (x ∷ xs) h v = (v.0, AreBefore-push n i t xs h v.1)

HasMonomial-push : (p i k : ℕ) (q : Monomial) (single : Terms) → SamePolynomial p single ((k, q) ∷ []) → (xs : Parts) (j : ℕ) (m : Monomial) → HasMonomial p (xs ++ (i, single) ∷ []) j m → HasMonomial p xs j m ⊎ ((j ≡ i) × (m ≡ q))
HasMonomial-push p i k q single same [] j m (inl (here, some)) = inr (sym here, only_monomial p k q m single same some)
HasMonomial-push p i k q single same [] j m (inr none) = absurd none
HasMonomial-push p i k q single same (x ∷ xs) j m (inl here) = inl (inl here)
HasMonomial-push p i k q single same (x ∷ xs) j m (inr there) =
    elim (HasMonomial-push p i k q single same xs j m there) [ inl old ↦ inl (inr old) | inr new ↦ inr new ]

pub recorded_push : (p i k : ℕ) (q : Monomial) (single : Terms) (xs : Parts) → SamePolynomial p single ((k, q) ∷ []) → IsRecorded p xs (xs ++ (i, single) ∷ []) i k q
recorded_push p i k q single xs same = record {
  sum = λ gs m.
      let g = get_or gs i [] in
      ap (λ l. coefficient p l m) (combination-append gs xs ((i, single) ∷ []))
      ∙ same_sums p (combination gs xs) (combination gs xs) (product single g ++ []) (term_product k q g) (λ _. refl)
      (λ n. ap (λ l. coefficient p l n) (append-nil (product single g)) ∙ single_product p k q single g same n) m;
  before = λ n h v. AreBefore-push n i single xs h v;
  monomials = λ j m has. HasMonomial-push p i k q single same xs j m has;
}

-- ---- a part that grows

AreBefore-set : (n j : ℕ) (s : Terms) (xs : Parts) → AreBefore n xs → AreBefore n (set xs j ((get_or xs j (0, [])).0, s))
AreBefore-set n j s [] v = tt
AreBefore-set n zero s (x ∷ xs) v = (v.0, v.1)
AreBefore-set n (suc j) s (x ∷ xs) v = (v.0, AreBefore-set n j s xs v.1)

HasMonomial-set : (p i k : ℕ) (q : Monomial) (single s : Terms) → SamePolynomial p single ((k, q) ∷ []) → (xs : Parts) (j : ℕ) → (get_or xs j (0, [])).0 ≡ i → SamePolynomial p s ((get_or xs j (0, [])).1 ++ single)
    → (a : ℕ) (m : Monomial) → HasMonomial p (set xs j ((get_or xs j (0, [])).0, s)) a m → HasMonomial p xs a m ⊎ ((a ≡ i) × (m ≡ q))
HasMonomial-set p i k q single s same [] j e sum a m has = absurd has
HasMonomial-set p i k q single s same (x ∷ xs) zero e sum a m (inl (here, some)) =
    elim (some_of_sum p x.1 single m (λ none. some (sum m ∙ none))) [
      | inl old ↦ inl (inl (here, old))
      | inr new ↦ inr (sym here ∙ e, only_monomial p k q m single same new)
    ]
HasMonomial-set p i k q single s same (x ∷ xs) zero e sum a m (inr there) = inl (inr there)
HasMonomial-set p i k q single s same (x ∷ xs) (suc j) e sum a m (inl here) = inl (inl here)
HasMonomial-set p i k q single s same (x ∷ xs) (suc j) e sum a m (inr there) =
    elim (HasMonomial-set p i k q single s same xs j e sum a m there) [ inl old ↦ inl (inr old) | inr new ↦ inr new ]

grown_product : (p k : ℕ) (q : Monomial) (t single s g : Terms) → SamePolynomial p single ((k, q) ∷ []) → SamePolynomial p s (t ++ single) → SamePolynomial p (product s g) (product t g ++ term_product k q g)
grown_product p k q t single s g same sum m =
    same_products p s (t ++ single) g g sum (λ _. refl) m
    ∙ ap (λ l. coefficient p l m) (product-append t single g)
    ∙ same_sums p (product t g) (product t g) (product single g) (term_product k q g) (λ _. refl) (single_product p k q single g same) m

combination-set : (p i k : ℕ) (q : Monomial) (single s : Terms) → SamePolynomial p single ((k, q) ∷ []) → (gs : List Terms) (xs : Parts) (j : ℕ) → j < length xs → (get_or xs j (0, [])).0 ≡ i → SamePolynomial p s ((get_or xs j (0, [])).1 ++ single)
    → SamePolynomial p (combination gs (set xs j ((get_or xs j (0, [])).0, s))) (combination gs xs ++ term_product k q (get_or gs i []))
combination-set p i k q single s same gs [] j h e sum m = absurd (omega arith)
combination-set p i k q single s same gs (x ∷ xs) zero h e sum m =
    subst (λ n. SamePolynomial p (product s (get_or gs x.0 []) ++ combination gs xs) ((product x.1 (get_or gs x.0 []) ++ combination gs xs) ++ term_product k q (get_or gs n []))) e
    (middle p (product s (get_or gs x.0 [])) (product x.1 (get_or gs x.0 [])) (term_product k q (get_or gs x.0 [])) (combination gs xs)
    (grown_product p k q x.1 single s (get_or gs x.0 []) same sum)) m
combination-set p i k q single s same gs (x ∷ xs) (suc j) h e sum m =
    let first = product x.1 (get_or gs x.0 []) in
    let more = term_product k q (get_or gs i []) in
    same_sums p first first (combination gs (set xs j ((get_or xs j (0, [])).0, s))) (combination gs xs ++ more) (λ _. refl)
    (combination-set p i k q single s same gs xs j (omega arith) e sum) m
    ∙ ap (λ l. coefficient p l m) (sym (append_assoc first (combination gs xs) more))

pub recorded_add : (p i k : ℕ) (q : Monomial) (single : Terms) (xs ys : Parts) (j : ℕ) → SamePolynomial p single ((k, q) ∷ []) → j < length xs → (get_or xs j (0, [])).0 ≡ i → IsAddedAt p xs ys j single → IsRecorded p xs ys i k q
recorded_add p i k q single xs ys j same h e (s, is, sum) =
    subst (λ zs. IsRecorded p xs zs i k q) (sym is) record {
      sum = λ gs. combination-set p i k q single s same gs xs j h e sum;
      before = λ n _ v. AreBefore-set n j s xs v;
      monomials = HasMonomial-set p i k q single s same xs j e sum;
    }

-- ---- one part of a line

pub no_line_next : (line : ℕ) (ts : Parts) (i : ℕ) (d : ℕ × Terms) → i < length ts → IsLineOfNone line (take i ts) → (get_or ts i d).0 ≢ line → IsLineOfNone line (take (suc i) ts)
no_line_next line [] i d h v other = absurd (omega arith)
no_line_next line (t ∷ ts) zero d h v other = (other, tt)
no_line_next line (t ∷ ts) (suc i) d h v other = (v.0, no_line_next line ts i d (omega arith) v.1 other)

pub no_line_all : (line : ℕ) (ts : Parts) (i : ℕ) → length ts ≤ i → IsLineOfNone line (take i ts) → IsLineOfNone line ts
no_line_all line [] zero h v = tt
no_line_all line [] (suc i) h v = tt
no_line_all line (t ∷ ts) zero h v = absurd (omega arith)
no_line_all line (t ∷ ts) (suc i) h v = (v.0, no_line_all line ts i (omega arith) v.1)

no_line_push : (i line : ℕ) (t : Terms) (xs : Parts) → IsLineOfNone i xs → line ≢ i → IsLineOfNone i (xs ++ (line, t) ∷ [])
no_line_push i line t [] v other = (other, tt)
no_line_push i line t (x ∷ xs) v other = (v.0, no_line_push i line t xs v.1 other)

pub lines_push : (line : ℕ) (t : Terms) (xs : Parts) → IsLineOfNone line xs → AreOfDifferentLines xs → AreOfDifferentLines (xs ++ (line, t) ∷ [])
lines_push line t [] none v = (tt, tt)
lines_push line t (x ∷ xs) none v = (no_line_push x.0 line t xs v.0 (λ e. none.0 (sym e)), lines_push line t xs none.1 v.1)

no_line_set : (i : ℕ) (s : Terms) (xs : Parts) (j : ℕ) → IsLineOfNone i xs → IsLineOfNone i (set xs j ((get_or xs j (0, [])).0, s))
no_line_set i s [] j v = tt
no_line_set i s (x ∷ xs) zero v = (v.0, v.1)
no_line_set i s (x ∷ xs) (suc j) v = (v.0, no_line_set i s xs j v.1)

pub lines_set : (s : Terms) (xs : Parts) (j : ℕ) → AreOfDifferentLines xs → AreOfDifferentLines (set xs j ((get_or xs j (0, [])).0, s))
lines_set s [] j v = tt
lines_set s (x ∷ xs) zero v = (v.0, v.1)
lines_set s (x ∷ xs) (suc j) v = (no_line_set x.0 s xs j v.0, lines_set s xs j v.1)
