-- The polynomial of a multiple.
use Rattle.std.proofs.Common.{◌≡◌, ℕ, ◌%◌, List, [], ◌∷◌, All, Option, Some, None, refl, sym, ap, ◌∙◌, subst, arith, append-nil}
use Rattle.std.proofs.Math.Nat.{mod-mod}
use Rattle.std.proofs.lemmas.Option.{same_Some}
use Rattle.ffc_ring.specs.Polynomial.{SamePolynomial, written, product, scaled}
use Rattle.ffc_ring.proofs.PolynomialLemmas.{same_products, product_commutes}
use Rattle.ffc_term.specs.declared.node.Node.{Node}
use Rattle.ffc_term.specs.declared.node.Node.TheVariants.{Num, Mul}
use Rattle.ffc_term.specs.Nodes.{IsNodeAt}
use Rattle.ffc_term.specs.Tables.{IsFieldAt, IsTable}
use Rattle.ffc_trees.specs.NodePolynomials.{constant, product_of, node_polys, poly_at}
use Rattle.ffc_trees.proofs.PartLemmas.{parts_are}
use Rattle.ffc_trees.proofs.ProductLemmas.{poly_terms, product_before, product_single}
use Rattle.ffc_ckpoly.specs.Parts.{weighted}
use Rattle.ffc_ckpoly.specs.Multiples.{number_at, this_or, with_node, multiple_of}
use Rattle.ffc_ckpoly.proofs.PartLemmas.{scaled_alike}
use Rattle.ffc_ckpoly.proofs.OpeningLemmas.{node_expands}
use Rattle.ffc_ckpoly.proofs.MultipleLemmas.{number_node}

module _ (ns : List Node) (p : ℕ) (table : IsTable ns) where
  number_poly : (id k : ℕ) → IsFieldAt ns p id → number_at ns id ≡ Some k → SamePolynomial p (poly_at ns id) (constant k)
  number_poly id k is e = let at = number_node ns id k e in node_expands ns p id (Num k at.0) is at.1

  first_multiple : (a b k : ℕ) → IsFieldAt ns p a → IsFieldAt ns p b → number_at ns a ≡ Some k → SamePolynomial p (product_of (node_polys ns) (a ∷ b ∷ [])) (scaled k (poly_at ns b))
  first_multiple a b k is other e m =
      let f = poly_at ns b in
      same_products p (poly_at ns a) (constant k) (product f (constant 1)) f (number_poly a k is e) (λ n. sym (product_single ns p table f b (b ∷ []) refl other (λ i. refl) n)) m
      ∙ ap (λ ts. written ts m % p) (append-nil (scaled k f))

  second_multiple : (a b k : ℕ) → IsFieldAt ns p a → IsFieldAt ns p b → number_at ns b ≡ Some k → SamePolynomial p (product_of (node_polys ns) (a ∷ b ∷ [])) (scaled k (poly_at ns a))
  second_multiple a b k is other e m =
      let f = poly_at ns a in
      let g = poly_at ns b in
      same_products p f f (product g (constant 1)) (constant k) (λ n. refl) (λ n. sym (product_single ns p table g b (b ∷ []) refl other (λ i. refl) n) ∙ number_poly b k other e n) m
      ∙ product_commutes p f (constant k) (poly_terms ns p a table is) (tt, tt) m
      ∙ ap (λ ts. written ts m % p) (append-nil (scaled k f))

  abbrev IsTimes : List ℕ → ℕ × ℕ → Type 0
  IsTimes ids x = SamePolynomial p (product_of (node_polys ns) ids) (scaled x.0 (poly_at ns x.1))

  -- a multiple is the number times the other node
  multiple_product : (ids : List ℕ) (x : ℕ × ℕ) → All (IsFieldAt ns p) ids → multiple_of ns ids ≡ Some x → IsTimes ids x
  multiple_product [] x are e = absurd (cc)
  multiple_product (a ∷ []) x are e = absurd (cc)
  multiple_product (a ∷ b ∷ []) x are e = by_numbers (number_at ns a) refl (number_at ns b) refl e
    where
      by_numbers : (o : Option ℕ) → number_at ns a ≡ o → (q : Option ℕ) → number_at ns b ≡ q → this_or (with_node o b) (with_node q a) ≡ Some x → IsTimes (a ∷ b ∷ []) x
      by_numbers (Some k) f q g h = subst (IsTimes (a ∷ b ∷ [])) (same_Some (k, b) x h) (first_multiple a b k (are 0 0 (omega arith)) (are 1 0 (omega arith)) f)
      by_numbers None f (Some k) g h = subst (IsTimes (a ∷ b ∷ [])) (same_Some (k, a) x h) (second_multiple a b k (are 0 0 (omega arith)) (are 1 0 (omega arith)) g)
      by_numbers None f None g h = absurd (cc)
  multiple_product (a ∷ b ∷ c ∷ ids) x are e = absurd (cc)

  pub multiple_expands : (id a r : ℕ) (ids : List ℕ) (x : ℕ × ℕ) → IsFieldAt ns p id → IsNodeAt ns id (Mul ids) → multiple_of ns ids ≡ Some x → a ≡ x.0 % p → SamePolynomial p (poly_at ns id) (weighted a r (node_polys ns) (x.1 ∷ []))
  multiple_expands id a r ids x is at e reduced m =
      let parts = parts_are ns p id table is (Mul ids) at in
      let f = poly_at ns x.1 in
      node_expands ns p id (Mul ids) is at m
      ∙ ap (λ ts. written ts m % p) (sym (product_before ns id ids (λ k d h. (parts k d h).1)))
      ∙ multiple_product ids x (λ k d h. (parts k d h).0) e m
      ∙ sym (scaled_alike p a x.0 f (ap (λ k. k % p) reduced ∙ mod-mod x.0 p) m)
      ∙ ap (λ ts. written ts m % p) (sym (append-nil (scaled a f)))
