-- The lines of a lemma's literals.
use Rattle.std.proofs.Common.{◌≡◌, ℕ, zero, suc, ◌+◌, ◌<◌, Bool, true, false, List, [], ◌∷◌, ◌++◌, length, take, get_or, refl, sym, ap, ◌∙◌, subst, arith}
use Rattle.std.specs.List.{AllZip}
use Rattle.std.proofs.lemmas.List.{take_more}
use Rattle.ffc_clause.specs.Clauses.{Literal}
use Rattle.ffc_ring.specs.Polynomial.{Terms, SamePolynomial, coefficient, difference, product, term_product}
use Rattle.ffc_rules.specs.Entries.{is_equality_at}
use Rattle.ffc_term.specs.Tables.{IsTable}
use Rattle.ffc_term.specs.declared.node.Node.{Node}
use Rattle.ffc_term.specs.Nodes.{node_at}
use Rattle.ffc_trees.specs.FirstLines.{difference_of, first_line, first_lines_from, first_lines}
use Rattle.ffc_trees.specs.NodePolynomials.{variable, constant}
use Rattle.ffc_trees.specs.Normal.{normal, IsNormal}
use Rattle.ffc_trees.proofs.NormalLemmas.{normal_same, normal_is_normal}
use Rattle.ffc_combination.proofs.SideLemmas.{same_inverse, difference_terms}
use Rattle.ffc_combination.specs.Generators.{IsGenerator, AreGeneratorsOf}

-- what a line is the polynomial of
abbrev pub line_terms : ℕ → List Node → ℕ → Literal → Terms
line_terms p nodes w (false, id) = difference_of p nodes (node_at nodes id)
line_terms p nodes w (true, id) = difference p (product (difference_of p nodes (node_at nodes id)) (variable w)) (constant 1)

pub line_is : (p : ℕ) (nodes : List Node) (w : ℕ) (l : Literal) → first_line p nodes w l ≡ normal p (line_terms p nodes w l)
unfolding first_line
line_is p nodes w (false, id) = refl
line_is p nodes w (true, id) = refl

pub line_same : (p : ℕ) (nodes : List Node) (w : ℕ) (l : Literal) → SamePolynomial p (first_line p nodes w l) (line_terms p nodes w l)
line_same p nodes w l = subst (λ ts. SamePolynomial p ts (line_terms p nodes w l)) (sym (line_is p nodes w l)) (normal_same p (line_terms p nodes w l))

pub line_normal : (p : ℕ) (nodes : List Node) (w : ℕ) (l : Literal) → 0 < p → IsNormal p (first_line p nodes w l)
line_normal p nodes w l positive = subst (IsNormal p) (sym (line_is p nodes w l)) (normal_is_normal p (line_terms p nodes w l) positive)

-- the difference of an equality is the line of its negation
pub plain_line : (p : ℕ) (nodes : List Node) (w : ℕ) (l : Literal) (poly : Terms) → l.0 ≡ false → SamePolynomial p poly (difference_of p nodes (node_at nodes l.1)) → SamePolynomial p poly (first_line p nodes w l)
plain_line p nodes w l poly is same m =
    same m ∙ sym (line_same p nodes w (false, l.1) m) ∙ ap (λ (b : Bool). coefficient p (first_line p nodes w (b, l.1)) m) (sym is)

-- with an inverse it is the line of the equality
pub inverse_line : (p : ℕ) (nodes : List Node) (w : ℕ) (l : Literal) (poly : Terms) → IsTable nodes → is_equality_at nodes p l.1 ≡ true → l.0 ≡ true → SamePolynomial p poly (difference_of p nodes (node_at nodes l.1))
    → SamePolynomial p (difference p (term_product 1 ((w, 1) ∷ []) poly) (constant 1)) (first_line p nodes w l)
inverse_line p nodes w l poly table equal is same m =
    same_inverse p w poly (difference_of p nodes (node_at nodes l.1)) (difference_terms p nodes l.1 table equal) same m
    ∙ sym (line_same p nodes w (true, l.1) m) ∙ ap (λ (b : Bool). coefficient p (first_line p nodes w (b, l.1)) m) (sym is)

-- ---- the lines of all

pub length-lines : (p : ℕ) (nodes : List Node) (w : ℕ) (ls : List Literal) → length (first_lines_from p nodes w ls) ≡ length ls
length-lines p nodes w [] = refl
length-lines p nodes w (l ∷ ls) = let e : length (first_lines_from p nodes (suc w) ls) ≡ length ls = length-lines p nodes (suc w) ls in omega (arith, e)

pub line_at_place : (p : ℕ) (nodes : List Node) (w : ℕ) (ls : List Literal) (i : ℕ) (d : Literal) → i < length ls → get_or (first_lines_from p nodes w ls) i [] ≡ first_line p nodes (w + i) (get_or ls i d)
line_at_place p nodes w [] i d inside = absurd (omega arith)
line_at_place p nodes w (l ∷ ls) zero d inside = ap (λ k. first_line p nodes k l) (let e : w ≡ w + 0 = omega arith in e)
line_at_place p nodes w (l ∷ ls) (suc i) d inside =
    line_at_place p nodes (suc w) ls i d (omega arith) ∙ ap (λ k. first_line p nodes k (get_or ls i d)) (let e : suc w + i ≡ w + suc i = omega arith in e)

pub lines-push : (p : ℕ) (nodes : List Node) (w : ℕ) (ls : List Literal) (l : Literal) → first_lines_from p nodes w (ls ++ l ∷ []) ≡ first_lines_from p nodes w ls ++ first_line p nodes (w + length ls) l ∷ []
lines-push p nodes w [] l = ap (λ k. first_line p nodes k l ∷ []) (let e : w ≡ w + 0 = omega arith in e)
lines-push p nodes w (k ∷ ls) l =
    ap (λ ts. first_line p nodes w k ∷ ts)
    (lines-push p nodes (suc w) ls l
    ∙ ap (λ n. first_lines_from p nodes (suc w) ls ++ first_line p nodes n l ∷ []) (let e : suc w + length ls ≡ w + suc (length ls) = omega arith in e))

zip-push : {A B : Type 0} (R : A → B → Type 0) (xs : List A) (ys : List B) (x : A) (y : B) → AllZip R xs ys → R x y → AllZip R (xs ++ x ∷ []) (ys ++ y ∷ [])
zip-push R [] [] x y are is = (is, tt)
zip-push R [] (z ∷ ys) x y are is = absurd are
zip-push R (z ∷ xs) [] x y are is = absurd are
zip-push R (z ∷ xs) (u ∷ ys) x y are is = (are.0, zip-push R xs ys x y are.1 is)

-- one more generator
pub generators_more : (p : ℕ) (nodes : List Node) (ls : List Literal) (i w : ℕ) (old new : List Terms) (g : Terms) → i < length ls → length (take i ls) ≡ i → w ≡ length nodes + i
    → AreGeneratorsOf p (first_lines nodes p (take i ls)) old → IsGenerator p (first_line p nodes w (get_or ls i (false, 0))) g → new ≡ old ++ g ∷ []
    → AreGeneratorsOf p (first_lines nodes p (take (i + 1) ls)) new
generators_more p nodes ls i w old new g inside long w_is are is new_is =
    let l = get_or ls i (false, 0) in
    let place : length nodes + length (take i ls) ≡ w = omega (arith, long, w_is) in
    let all : first_lines nodes p (take (i + 1) ls) ≡ first_lines nodes p (take i ls) ++ first_line p nodes w l ∷ [] =
    ap (first_lines nodes p) (take_more ls i (false, 0) inside) ∙ lines-push p nodes (length nodes) (take i ls) l
    ∙ ap (λ k. first_lines nodes p (take i ls) ++ first_line p nodes k l ∷ []) place in
    subst (λ gs. AreGeneratorsOf p (first_lines nodes p (take (i + 1) ls)) gs) (sym new_is)
    (subst (λ lines. AreGeneratorsOf p lines (old ++ g ∷ [])) (sym all) (zip-push (IsGenerator p) (first_lines nodes p (take i ls)) old (first_line p nodes w l) g are is))
