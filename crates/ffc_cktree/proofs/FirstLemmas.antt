-- The first lines of a lemma's tree.
use Rattle.std.proofs.Common.{◌≡◌, ℕ, zero, suc, ◌+◌, ◌%◌, ◌<◌, ◌≤◌, Bool, true, false, not, cond, List, [], ◌∷◌, ◌++◌, length, All, refl, sym, ap, ◌∙◌, subst, arith}
use Rattle.std.proofs.Math.Nat.{mod-mod}
use Rattle.std.proofs.lemmas.Option.{get_or_from_slice_get}
use Rattle.ffc_cert.specs.declared.entries.CertLine.{CertLine}
use Rattle.ffc_ring.specs.Monomial.{same_monomial}
use Rattle.ffc_ring.specs.Polynomial.{Terms, SamePolynomial, written, product, difference}
use Rattle.ffc_ring.proofs.PolynomialLemmas.{same_products}
use Rattle.ffc_term.specs.declared.node.Node.{Node}
use Rattle.ffc_term.specs.declared.node.Node.TheVariants.{True, Eq}
use Rattle.ffc_term.specs.Nodes.{IsNodeAt, node_at}
use Rattle.ffc_term.specs.Tables.{IsTable, IsFieldAt}
use Rattle.ffc_term.specs.Measuring.{degree_at}
use Rattle.ffc_term.proofs.NodeLemmas.{IsNodeAt-unique}
use Rattle.ffc_uni.specs.Univariate.{Coefficients, SameUnivariate, indeterminate, terms_in}
use Rattle.ffc_uni.proofs.RingLemmas.{same_in_ring}
use Rattle.ffc_trees.specs.Normal.{IsNormal, degree_of, normal}
use Rattle.ffc_trees.specs.NodePolynomials.{variable, constant, poly_at}
use Rattle.ffc_trees.specs.FirstLines.{Literal, difference_of, first_line, first_lines_from}
use Rattle.ffc_trees.specs.Laws.{IsOnEquality}
use Rattle.ffc_trees.specs.Same.{IsSameLine, AreSameLines}
use Rattle.ffc_trees.specs.TreeLines.{Limits}
use Rattle.ffc_trees.specs.Trees.{Open, tree_read}
use Rattle.ffc_trees.proofs.AlikeLemmas.{stages_read_alike}
use Rattle.ffc_trees.proofs.NormalLemmas.{normal_same, normal_is_normal}
use Rattle.ffc_ckpoly.specs.Parts.{IsWithin}
use Rattle.ffc_ckpoly.proofs.DegreeLemmas.{degree_within, within_degree, degree_of_difference}
use Rattle.ffc_ckpoly.proofs.PartLemmas.{sides_within, difference_alike, within-product}

-- ---- the sides of a literal's equality

pub sides_of : (ns : List Node) (p : ℕ) (lit : Literal) (n : Node) (s t : ℕ) → IsTable ns → IsNodeAt ns lit.1 n → n ≡ Eq s t → IsOnEquality ns p lit → degree_at ns lit.1 ≤ 255 → IsWithin ns p s × IsWithin ns p t
sides_of ns p lit n s t table at is on low =
    let made : IsNodeAt ns lit.1 (Eq s t) = subst (IsNodeAt ns lit.1) is at in
    let same : Eq on.0 on.1 ≡ Eq s t = IsNodeAt-unique ns lit.1 (Eq on.0 on.1) (Eq s t) on.2 made in
    let left : on.0 ≡ s = cc same in
    sides_within ns p lit.1 s t table made (subst (IsFieldAt ns p) left on.3) low

-- ---- the line of a literal

difference_is : (ns : List Node) (p : ℕ) (lit : Literal) (s t : ℕ) → IsNodeAt ns lit.1 (Eq s t) → difference_of p ns (node_at ns lit.1) ≡ difference p (poly_at ns s) (poly_at ns t)
difference_is ns p lit s t at = ap (difference_of p ns) (get_or_from_slice_get ns lit.1 (Eq s t) True at)

pub negative_line : (ns : List Node) (p w : ℕ) (lit : Literal) (s t : ℕ) (r : Terms) → 0 < p → lit.0 ≡ false → IsNodeAt ns lit.1 (Eq s t) → IsNormal p r → SamePolynomial p r (difference p (poly_at ns s) (poly_at ns t)) → IsSameLine p r (first_line p ns w lit)
unfolding first_line
negative_line ns p w lit s t r some sign at n same =
    let made = difference_of p ns (node_at ns lit.1) in
    let line : IsSameLine p r (normal p made) = record {
      one = n;
      other = normal_is_normal p made some;
      same = λ m. same m ∙ ap (λ ts. written ts m % p) (sym (difference_is ns p lit s t at)) ∙ sym (normal_same p made m);
    } in
    subst (λ b. IsSameLine p r (cond b (normal p (difference p (product made (variable w)) (constant 1))) (normal p made))) (sym sign) line

pub positive_line : (ns : List Node) (p w : ℕ) (lit : Literal) (s t : ℕ) (f r : Terms) → 0 < p → lit.0 ≡ true → IsNodeAt ns lit.1 (Eq s t) → SamePolynomial p f (difference p (poly_at ns s) (poly_at ns t)) → IsNormal p r → SamePolynomial p r (difference p (product f (variable w)) (constant 1)) → IsSameLine p r (first_line p ns w lit)
unfolding first_line
positive_line ns p w lit s t f r some sign at g n same =
    let made = difference_of p ns (node_at ns lit.1) in
    let all = difference p (product made (variable w)) (constant 1) in
    let f_is : SamePolynomial p f made = λ m. g m ∙ ap (λ ts. written ts m % p) (sym (difference_is ns p lit s t at)) in
    let line : IsSameLine p r (normal p all) = record {
      one = n;
      other = normal_is_normal p all some;
      same = λ m. same m
          ∙ difference_alike p (product f (variable w)) (constant 1) (product made (variable w)) (constant 1) (same_products p f made (variable w) (variable w) f_is (λ k. refl)) (λ k. refl) m
          ∙ sym (normal_same p all m);
    } in
    subst (λ b. IsSameLine p r (cond b (normal p all) (normal p made))) (sym sign) line

-- ---- a polynomial times a variable, less 1

zero_term : (b : Bool) (k : ℕ) → cond b 0 0 + k ≡ k
zero_term true k = omega arith
zero_term false k = omega arith

variable_is : (p w : ℕ) (row : Coefficients) (r : Terms) → SamePolynomial p r (terms_in w row) → SameUnivariate p row indeterminate → SamePolynomial p r (variable w)
variable_is p w row r same is m =
    same m ∙ same_in_ring p w row indeterminate is m ∙ ap (λ k. k % p) (zero_term (same_monomial [] m) (written (variable w) m))

one_is : (p w : ℕ) (row : Coefficients) (r : Terms) → SamePolynomial p r (terms_in w row) → SameUnivariate p row (1 ∷ 0 ∷ []) → SamePolynomial p r (constant 1)
one_is p w row r same is m =
    same m ∙ same_in_ring p w row (1 ∷ 0 ∷ []) is m
    ∙ ap (λ k. (cond (same_monomial [] m) 1 0 + k) % p) (zero_term (same_monomial ((w, 1) ∷ []) m) 0)

pub inverted_is : (p w : ℕ) (f inverse one all r : Terms) (row unit : Coefficients) → SamePolynomial p inverse (terms_in w row) → SameUnivariate p row indeterminate → SamePolynomial p one (terms_in w unit) → SameUnivariate p unit (1 ∷ 0 ∷ [])
    → SamePolynomial p all (product f inverse) → SamePolynomial p r (difference p all one) → SamePolynomial p r (difference p (product f (variable w)) (constant 1))
inverted_is p w f inverse one all r row unit i row_is u unit_is a same m =
    same m ∙ difference_alike p all one (product f (variable w)) (constant 1)
    (λ k. a k ∙ same_products p f f inverse (variable w) (λ n. refl) (variable_is p w row inverse i row_is) k) (one_is p w unit one u unit_is) m

pub inverted_low : (p : ℕ) (f inverse one all r : Terms) → 0 < p → degree_of f ≤ 255 → degree_of inverse ≤ 1 → degree_of one ≤ 1 → IsNormal p all → SamePolynomial p all (product f inverse) → IsNormal p r → SamePolynomial p r (difference p all one) → degree_of r ≤ 1024
inverted_low p f inverse one all r some df di dn na a nr same =
    let high : degree_of all ≤ degree_of f + degree_of inverse = degree_within (degree_of f + degree_of inverse) p all (product f inverse) some na a (within-product (degree_of f) (degree_of inverse) f inverse (within_degree f) (within_degree inverse)) in
    degree_of_difference 1024 p r all one some nr same (omega (arith, high, df, di)) (omega (arith, dn))

-- ---- all first lines

pub first_lines-push : (p : ℕ) (ns : List Node) (w : ℕ) (lits : List Literal) (lit : Literal) → first_lines_from p ns w (lits ++ lit ∷ []) ≡ first_lines_from p ns w lits ++ first_line p ns (w + length lits) lit ∷ []
first_lines-push p ns w [] lit = ap (λ n. first_line p ns n lit ∷ []) (let same : w ≡ w + 0 = omega arith in same)
first_lines-push p ns w (l ∷ lits) lit =
    ap (λ ls. first_line p ns w l ∷ ls)
    (first_lines-push p ns (suc w) lits lit ∙ ap (λ n. first_lines_from p ns (suc w) lits ++ first_line p ns n lit ∷ []) (let same : suc w + length lits ≡ w + suc (length lits) = omega arith in same))

pub same_push : (p : ℕ) (a b : List Terms) (f g : Terms) → AreSameLines p a b → IsSameLine p f g → AreSameLines p (a ++ f ∷ []) (b ++ g ∷ [])
same_push p [] [] f g are is = (is, tt)
same_push p [] (h ∷ b) f g are is = absurd are
same_push p (h ∷ a) [] f g are is = absurd are
same_push p (h ∷ a) (k ∷ b) f g are is = (are.0, same_push p a b f g are.1 is)

-- what is read from the same first lines
pub read_alike : (l : Limits) (p : ℕ) (first other : List Terms) (tree : List CertLine) → 0 < p → AreSameLines p first other → tree_read l p first tree ≡ tree_read l p other tree
read_alike l p first other tree some same = stages_read_alike p some l tree 0 (Open (first ∷ [])) (Open (other ∷ [])) (same, tt)

-- the row of 1, with residues
pub unit_row : (p one none : ℕ) → one ≡ 1 % p → none ≡ 0 % p → SameUnivariate p (one ∷ none ∷ []) (1 ∷ 0 ∷ [])
unit_row p one none e f zero = ap (λ k. k % p) e ∙ mod-mod 1 p
unit_row p one none e f (suc zero) = ap (λ k. k % p) f ∙ mod-mod 0 p
unit_row p one none e f (suc (suc k)) = refl

pub not-false : (b : Bool) → not b ≡ false → b ≡ true
not-false true e = refl
not-false false e = cc

-- the same literals over the same nodes and order
pub equalities_moved : (ns ms : List Node) (p q : ℕ) (lits : List Literal) → ns ≡ ms → p ≡ q → All (IsOnEquality ns p) lits → All (IsOnEquality ms q) lits
equalities_moved ns ms p q lits e f are = subst (λ (k : List Node). All (IsOnEquality k q) lits) e (subst (λ o. All (IsOnEquality ns o) lits) f are)
