-- A node's polynomial is the one that is written from those of its parts.
use Rattle.std.proofs.Common.{◌≡◌, ℕ, ◌+◌, ◌*◌, ◌%◌, ◌<◌, ◌≤◌, cond, Bool, true, false, List, [], ◌∷◌, ◌++◌, length, take, All, sym, ap, ◌∙◌, arith, one-mul}
use Rattle.std.proofs.Math.Nat.{mod-mod}
use Rattle.std.proofs.lemmas.Nat.{mul-mod_second}
use Rattle.ffc_ring.specs.Monomial.{Monomial, same_monomial}
use Rattle.ffc_ring.specs.Polynomial.{Terms, SamePolynomial, written, scaled}
use Rattle.ffc_ring.proofs.PolynomialLemmas.{written-scaled, times_alike, same_term_products, one_value}
use Rattle.ffc_term.specs.declared.node.Node.{Node}
use Rattle.ffc_term.specs.declared.node.Node.TheVariants.{FieldConst, Num, IteField, Mul}
use Rattle.ffc_term.specs.Nodes.{IsNodeAt, order_at, order_of_sort}
use Rattle.ffc_term.specs.Tables.{IsFieldAt, IsTable}
use Rattle.ffc_poly.specs.Ordered.{residues}
use Rattle.ffc_encode.specs.Values.{HasValues}
use Rattle.ffc_trees.specs.NodePolynomials.{product_of, expanded, poly_of_node, node_polys, poly_at}
use Rattle.ffc_trees.proofs.ProductLemmas.{product_before}
use Rattle.ffc_trees.proofs.NormalLemmas.{normal_same}
use Rattle.ffc_trees.proofs.NodePolyLemmas.{poly_at-is, poly_at-value}

pub node_expands : (ns : List Node) (p id : ℕ) (n : Node) → IsFieldAt ns p id → IsNodeAt ns id n → SamePolynomial p (poly_at ns id) (expanded p id (take id (node_polys ns)) n)
node_expands ns p id n is at m =
    let made = expanded p id (take id (node_polys ns)) n in
    let order : order_at ns id ≡ p = ap order_of_sort is.1 in
    ap (λ ts. written ts m % p) (poly_at-is ns id n at ∙ ap (λ q. poly_of_node q id (take id (node_polys ns)) n) order) ∙ normal_same p made m

-- ---- single terms

weigh : (p v w c : ℕ) (b : Bool) → v % p ≡ w * c % p → (cond b v 0 + 0) % p ≡ w * (cond b c 0 + 0) % p
weigh p v w c true e =
    ap (λ k. k % p) (let same : v + 0 ≡ v = omega arith in same) ∙ e ∙ ap (λ k. k % p) (let same : w * c ≡ w * (c + 0) = omega arith in same)
weigh p v w c false e = ap (λ k. k % p) (let same : 0 ≡ w * (0 + 0) = omega arith in same)

-- a multiple of one term
pub term_scaled : (p v w c : ℕ) (m : Monomial) (f : Terms) → v % p ≡ w * c % p → SamePolynomial p f ((c, m) ∷ []) → SamePolynomial p ((v, m) ∷ []) (scaled w f)
term_scaled p v w c m f e is k =
    weigh p v w c (same_monomial m k) e
    ∙ ap (λ j. j % p) (sym (written-scaled w ((c, m) ∷ []) k))
    ∙ sym (same_term_products p w [] f ((c, m) ∷ []) is k)

module _ (ns : List Node) (p id : ℕ) (is : IsFieldAt ns p id) where
  -- w times a variable
  pub constant_scaled : (k q w : ℕ) (r : Terms) → IsNodeAt ns id (FieldConst k q) → SamePolynomial p r ((w, (id, 1) ∷ []) ∷ []) → SamePolynomial p r (scaled w (poly_at ns id))
  constant_scaled k q w r at same m =
      same m ∙ term_scaled p w w 1 ((id, 1) ∷ []) (poly_at ns id) (ap (λ j. j % p) (let once : w ≡ w * 1 = omega arith in once)) (node_expands ns p id (FieldConst k q) is at) m

  pub ite_scaled : (c a b w : ℕ) (r : Terms) → IsNodeAt ns id (IteField c a b) → SamePolynomial p r ((w, (id, 1) ∷ []) ∷ []) → SamePolynomial p r (scaled w (poly_at ns id))
  ite_scaled c a b w r at same m =
      same m ∙ term_scaled p w w 1 ((id, 1) ∷ []) (poly_at ns id) (ap (λ j. j % p) (let once : w ≡ w * 1 = omega arith in once)) (node_expands ns p id (IteField c a b) is at) m

  -- w times a number
  pub number_scaled : (n q w v k : ℕ) (r : Terms) → IsNodeAt ns id (Num n q) → k ≡ n % p → v ≡ w * k % p → SamePolynomial p r ((v, []) ∷ []) → SamePolynomial p r (scaled w (poly_at ns id))
  number_scaled n q w v k r at e f same m =
      let none : Monomial = [] in
      same m ∙ term_scaled p v w n none (poly_at ns id) (ap (λ j. j % p) f ∙ mod-mod (w * k) p ∙ ap (λ j. w * j % p) e ∙ mul-mod_second w n p) (node_expands ns p id (Num n q) is at) m

-- once a polynomial
pub once : (p w : ℕ) (r f : Terms) → w ≡ 1 % p → SamePolynomial p r (scaled w f) → SamePolynomial p r f
once p w r f e same m =
    same m ∙ ap (λ k. k % p) (written-scaled w f m) ∙ times_alike p w 1 (written f m) (ap (λ k. k % p) e ∙ mod-mod 1 p) ∙ ap (λ k. k % p) (one-mul (written f m))

-- the product of all factors is the polynomial of the node
pub product_expands : (ns : List Node) (p id : ℕ) (ids : List ℕ) (r : Terms) → IsFieldAt ns p id → IsNodeAt ns id (Mul ids) → All (λ c. c < id) ids → SamePolynomial p r (product_of (node_polys ns) ids) → SamePolynomial p r (poly_at ns id)
product_expands ns p id ids r is at before same m =
    same m ∙ ap (λ ts. written ts m % p) (product_before ns id ids before) ∙ sym (node_expands ns p id (Mul ids) is at m)

-- ---- one term in a list

pub one_term : {F : Type 0} (value : F → ℕ) (p : ℕ) (r : Terms) (k : F) (m n : Monomial) (slice items old : List (F × Monomial)) → slice ≡ items → items ≡ old ++ (k, m) ∷ [] → old ≡ [] → m ≡ n → SamePolynomial p r (residues value slice) → SamePolynomial p r ((value k, n) ∷ [])
one_term value p r k m n slice items old e f h i same x =
    same x ∙ ap (λ l. written (residues value l) x % p) (e ∙ f ∙ ap (λ l. l ++ (k, m) ∷ []) h) ∙ ap (λ (q : Monomial). written ((value k, q) ∷ []) x % p) i

pub one_long : {X : Type 0} (slice items old : List X) (x : X) → slice ≡ items → items ≡ old ++ x ∷ [] → old ≡ [] → length slice ≤ 131072
one_long slice items old x e f h = omega (arith, ap length (e ∙ f ∙ ap (λ l. l ++ x ∷ []) h))

-- ---- values

-- a node's polynomial has the node's values
pub values_of_node : (ns : List Node) (p id : ℕ) (r : Terms) → IsTable ns → IsFieldAt ns p id → SamePolynomial p r (poly_at ns id) → HasValues p ns id r
values_of_node ns p id r table is same = λ assignment point points.
    one_value p point r (poly_at ns id) same ∙ poly_at-value ns assignment p point id table points is
