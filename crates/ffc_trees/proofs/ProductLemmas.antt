-- Products of the polynomials of nodes.
use Rattle.std.proofs.Common.{◌≡◌, ℕ, ◌<◌, ◌%◌, List, [], ◌∷◌, ◌++◌, take, All, refl, sym, ap, ap₂, ◌∙◌, get_or-take}
use Rattle.std.proofs.lemmas.List.Elements.{All-head, All-tail}
use Rattle.ffc_ring.specs.Monomial.{Monomial, IsMonomial}
use Rattle.ffc_ring.specs.Polynomial.{Terms, AreTerms, SamePolynomial, written, term_product, product}
use Rattle.ffc_ring.proofs.MonomialLemmas.{IsMonomial-mono_mul}
use Rattle.ffc_ring.proofs.PolynomialLemmas.{same_products, product_with_one, product_associates, product_commutes}
use Rattle.ffc_term.specs.declared.node.Node.{Node}
use Rattle.ffc_term.specs.Tables.{IsFieldAt, IsTable}
use Rattle.ffc_trees.specs.NodePolynomials.{poly_in, product_of, constant, node_polys, poly_at, EachMonomial}
use Rattle.ffc_trees.proofs.VariableLemmas.{poly_at-variables}

-- the polynomials before a node are those of all nodes
pub poly_before : (ns : List Node) (id c : ℕ) → c < id → poly_in (take id (node_polys ns)) c ≡ poly_in (node_polys ns) c
poly_before ns id c h = get_or-take id (node_polys ns) c [] h

pub product_before : (ns : List Node) (id : ℕ) (ids : List ℕ) → All (λ c. c < id) ids → product_of (node_polys ns) ids ≡ product_of (take id (node_polys ns)) ids
product_before ns id [] are = refl
product_before ns id (c ∷ ids) are =
    ap₂ product (sym (poly_before ns id c (All-head (λ k. k < id) c ids are))) (product_before ns id ids (All-tail (λ k. k < id) c ids are))

each_terms : (P : Monomial → Type 0) → ((m : Monomial) → P m → IsMonomial m) → (ts : Terms) → EachMonomial P ts → AreTerms ts
each_terms P f [] h = tt
each_terms P f (t ∷ ts) h = (f t.1 h.0, each_terms P f ts h.1)

pub poly_terms : (ns : List Node) (p id : ℕ) → IsTable ns → IsFieldAt ns p id → AreTerms (poly_at ns id)
poly_terms ns p id table is = each_terms _ (λ m h. h.0) (poly_at ns id) (poly_at-variables ns p id table is)

terms-append : (a b : Terms) → AreTerms a → AreTerms b → AreTerms (a ++ b)
terms-append [] b h k = k
terms-append (t ∷ a) b h k = (h.0, terms-append a b h.1 k)

terms-term_product : (c : ℕ) (m : Monomial) (ts : Terms) → IsMonomial m → AreTerms ts → AreTerms (term_product c m ts)
terms-term_product c m [] v h = tt
terms-term_product c m (t ∷ ts) v h = (IsMonomial-mono_mul m t.1 v h.0, terms-term_product c m ts v h.1)

terms-product : (a b : Terms) → AreTerms a → AreTerms b → AreTerms (product a b)
terms-product [] b h k = tt
terms-product (t ∷ a) b h k = terms-append (term_product t.0 t.1 b) (product a b) (terms-term_product t.0 t.1 b h.0 k) (terms-product a b h.1 k)

module _ (ns : List Node) (p : ℕ) (table : IsTable ns) where
  product_terms : (ids : List ℕ) → All (IsFieldAt ns p) ids → AreTerms (product_of (node_polys ns) ids)
  product_terms [] are = (tt, tt)
  product_terms (c ∷ ids) are =
      terms-product (poly_at ns c) (product_of (node_polys ns) ids) (poly_terms ns p c table (All-head (IsFieldAt ns p) c ids are)) (product_terms ids (All-tail (IsFieldAt ns p) c ids are))

  product-append : (a b : List ℕ) → All (IsFieldAt ns p) a → All (IsFieldAt ns p) b → SamePolynomial p (product (product_of (node_polys ns) a) (product_of (node_polys ns) b)) (product_of (node_polys ns) (a ++ b))
  product-append [] b are is m = product_with_one p (product_of (node_polys ns) b) m
  product-append (c ∷ a) b are is m =
      let f = poly_at ns c in
      let g = product_of (node_polys ns) a in
      let h = product_of (node_polys ns) b in
      product_associates p f g h (poly_terms ns p c table (All-head (IsFieldAt ns p) c a are)) (product_terms a (All-tail (IsFieldAt ns p) c a are)) (product_terms b is) m
      ∙ same_products p f f (product g h) (product_of (node_polys ns) (a ++ b)) (λ n. refl) (product-append a b (All-tail (IsFieldAt ns p) c a are) is) m

  -- two halves of a product
  pub product_halves : (x y r : Terms) (front back ids : List ℕ) → All (IsFieldAt ns p) front → All (IsFieldAt ns p) back → front ++ back ≡ ids
      → SamePolynomial p x (product_of (node_polys ns) front) → SamePolynomial p y (product_of (node_polys ns) back) → SamePolynomial p r (product x y) → SamePolynomial p r (product_of (node_polys ns) ids)
  product_halves x y r front back ids are is whole f g h m =
      h m ∙ same_products p x (product_of (node_polys ns) front) y (product_of (node_polys ns) back) f g m
      ∙ product-append front back are is m ∙ ap (λ l. written (product_of (node_polys ns) l) m % p) whole

  -- a product of one
  pub product_single : (f : Terms) (id : ℕ) (ids : List ℕ) → ids ≡ id ∷ [] → IsFieldAt ns p id → SamePolynomial p f (poly_at ns id) → SamePolynomial p f (product_of (node_polys ns) ids)
  product_single f id ids one is same m =
      same m ∙ sym (product_with_one p (poly_at ns id) m) ∙ sym (product_commutes p (poly_at ns id) (constant 1) (poly_terms ns p id table is) (tt, tt) m)
      ∙ ap (λ l. written (product_of (node_polys ns) l) m % p) (sym one)
