-- The difference of an equality's sides as an affine form.
use Rattle.std.proofs.Common.{◌≡◌, ℕ, ◌+◌, ◌-◌, ◌<◌, ◌≤◌, true, List, [], ◌∷◌, ◌++◌, length, take, get_or, Contains, Option, Some, None, refl, sym, ap, ◌∙◌, subst, ⊎_elim, arith, length-take, get_or-take}
use Rattle.std.proofs.lemmas.List.Elements.{Contains-push_cases}
use Rattle.std.proofs.lemmas.Option.{same_Some, slice_get_within}
use Rattle.ffc_echelon.specs.Vectors.{Coordinates, coordinate, IsBelow}
use Rattle.ffc_ring.specs.Monomial.{Monomial}
use Rattle.ffc_ring.specs.Polynomial.{Terms, coefficient, SamePolynomial, scaled, difference}
use Rattle.ffc_ring.proofs.PolynomialLemmas.{same_sums, same_term_products}
use Rattle.ffc_rules.proofs.AssignmentLemmas.{node_at-is}
use Rattle.ffc_rules.proofs.GivenLemmas.{equality_at}
use Rattle.ffc_term.specs.declared.node.Node.{Node}
use Rattle.ffc_term.specs.declared.node.Node.TheVariants.{Eq}
use Rattle.ffc_term.specs.Nodes.{IsNodeAt, children}
use Rattle.ffc_term.specs.Tables.{IsFieldAt, IsTable, AreOfOneField}
use Rattle.ffc_term.specs.Checks.{IsNodeOf}
use Rattle.ffc_term.specs.Checks.IsNodeOf.{listed, child, first, second}
use Rattle.ffc_term.specs.Measuring.{number_in, length_of_node, degrees, lengths, degree_at, length_at}
use Rattle.ffc_term.proofs.InTurn.{get_or-in_turn}
use Rattle.ffc_term.proofs.ListLemmas.{nothing_in}
use Rattle.ffc_term.proofs.TableLemmas.{sort_at-take}
use Rattle.ffc_trees.specs.FirstLines.{difference_of}
use Rattle.ffc_trees.specs.NodePolynomials.{poly_at, EachMonomial, IsVariableAt}
use Rattle.ffc_trees.proofs.BoundLemmas.{poly_at-bounded}
use Rattle.ffc_trees.proofs.NodePolyLemmas.{first_order, of_order}
use Rattle.ffc_trees.proofs.PartLemmas.{degree_at-is}
use Rattle.ffc_trees.proofs.VariableLemmas.{poly_at-variables}
use Rattle.ffc_linear.specs.Affine.{monomial_column, coordinate_if, IsAffineForm, AreAffineForms}
use Rattle.ffc_linear.specs.Forming.{IsAffineIn}
use Rattle.ffc_linear.proofs.LowLemmas.{HasColumn, low_columns, difference_without_column}

-- ---- the sides

-- a field node whose polynomial is within the limits and has columns alone
pub record IsLow (p : ℕ) (nodes : List Node) (constants : List ℕ) (id : ℕ) : Type 0 where
  pub field : IsFieldAt nodes p id
  pub low : degree_at nodes id ≤ 1
  pub short : length_at nodes id ≤ 65536
  pub columns : EachMonomial (HasColumn constants) (poly_at nodes id)

length_at-is : (ns : List Node) (id : ℕ) (n : Node) → IsNodeAt ns id n → length_at ns id ≡ length_of_node (take id (lengths ns)) n
unfolding lengths
length_at-is ns id n at = get_or-in_turn length_of_node ns id n 0 at

only_one : (c x : ℕ) → Contains (c ∷ []) x → c ≡ x
only_one c x has = ⊎_elim (λ none. absurd (nothing_in x none)) (λ e. e) (Contains-push_cases [] c x has)

-- the nodes of the check over a child are among those of the check over its parent
nodes_of_child : (ns : List Node) (id c x : ℕ) (n : Node) → IsNodeAt ns id n → Contains (children n) c → IsNodeOf ns (c ∷ []) x → IsNodeOf ns (id ∷ []) x
nodes_of_child ns id c x n at has (listed is) = subst (IsNodeOf ns (id ∷ [])) (only_one c x is) (child n (listed (0, omega arith, refl)) at has)
nodes_of_child ns id c x n at has (child m of there is) = child m (nodes_of_child ns id c _ n at has of) there is
nodes_of_child ns id c x n at has (first d a b of there e) = first d a b (nodes_of_child ns id c _ n at has of) there e
nodes_of_child ns id c x n at has (second d a b of there e) = second d a b (nodes_of_child ns id c _ n at has of) there e

module _ (p : ℕ) (ns : List Node) (constants : List ℕ) (id : ℕ) (table : IsTable ns) (affine : IsAffineIn p ns constants id) (s t : ℕ) (at : IsNodeAt ns id (Eq s t)) where
  first_side : IsFieldAt ns p s
  first_side =
      let (u, v, there, is) = equality_at ns p (true, id) table affine.equality in
      let same : Eq u v ≡ Eq s t = same_Some (Eq u v) (Eq s t) (sym there ∙ at) in
      let e : u ≡ s = cc in
      subst (IsFieldAt ns p) e is

  side_low : (c : ℕ) → Contains (s ∷ t ∷ []) c → IsFieldAt ns p c → c < id → number_in (take id (degrees ns)) c ≤ 1 → number_in (take id (lengths ns)) c ≤ 65536 → IsLow p ns constants c
  side_low c has field before low short =
      let low_side : degree_at ns c ≤ 1 = omega (arith, low, get_or-take id (degrees ns) c 0 before) in
      let bound = poly_at-bounded ns p c table field in
      record {
        field = field;
        low = low_side;
        short = omega (arith, short, get_or-take id (lengths ns) c 0 before);
        columns = low_columns (λ x. IsVariableAt ns p x × IsNodeOf ns (c ∷ []) x) constants
            (λ x there. affine.variables x (nodes_of_child ns id c x (Eq s t) at has there.1) there.0)
            (poly_at ns c) (omega (arith, bound.0, low_side)) (poly_at-variables ns p c table field);
      }

  pub sides_low : IsLow p ns constants s × IsLow p ns constants t
  sides_low =
      let inside : id < length ns = slice_get_within ns id (Eq s t) at in
      let before : List Node = take id ns in
      let short : length before ≡ id = omega (arith, length-take id ns, inside) in
      let fits : AreOfOneField before (s ∷ t ∷ []) = table.well_formed.fits id (Eq s t) at in
      let left : s < id = omega (arith, (fits.each 0 0 (omega arith)).0, short) in
      let order : fits.order ≡ p = first_order before p (s ∷ t ∷ []) fits (sort_at-take id ns s left ∙ first_side.1) in
      let other : IsFieldAt before p t = of_order before p (s ∷ t ∷ []) fits order 1 0 (omega arith) in
      let right : t < id = omega (arith, other.0, short) in
      let second_side : IsFieldAt ns p t = (omega (arith, inside, right), sym (sort_at-take id ns t right) ∙ other.1) in
      let degree_is = degree_at-is ns id (Eq s t) at in
      let length_is = length_at-is ns id (Eq s t) at in (
        side_low s (0, omega arith, refl) first_side left (omega (arith, affine.low, degree_is)) (omega (arith, affine.short, length_is)),
        side_low t (1, omega arith, refl) second_side right (omega (arith, affine.low, degree_is)) (omega (arith, affine.short, length_is)),
      )

-- ---- the form

-- the coordinates are the coefficients of the difference
pub form_of_sides : (p : ℕ) (ns : List Node) (constants : List ℕ) (id s t : ℕ) (a b : Terms) (dense : List ℕ) (v : Coordinates) → IsNodeAt ns id (Eq s t) → IsLow p ns constants s → IsLow p ns constants t
    → SamePolynomial p a (poly_at ns s) → SamePolynomial p b (poly_at ns t) → length dense ≡ length constants + 1
    → ((m : Monomial) (k : ℕ) → monomial_column constants m ≡ Some k → get_or dense k 0 ≡ coefficient p (difference p a b) m)
    → ((k : ℕ) → coordinate v k ≡ get_or dense k 0) → IsBelow (length dense) v → IsAffineForm p ns constants id v
form_of_sides p ns constants id s t a b dense v at left right one two width columns coordinates below = record {
  below = subst (λ n. IsBelow n v) width below;
  same = λ m is. ap (λ n. coefficient p (difference_of p ns n) m) (node_at-is ns id (Eq s t) at) ∙ by_column m (monomial_column constants m) refl;
}
  where
    by_column : (m : Monomial) (o : Option ℕ) → monomial_column constants m ≡ o → coefficient p (difference p (poly_at ns s) (poly_at ns t)) m ≡ coordinate_if v o
    by_column m None e = difference_without_column p constants (poly_at ns s) (poly_at ns t) m left.columns right.columns e
    by_column m (Some k) e =
        sym (same_sums p a (poly_at ns s) (scaled (p - 1) b) (scaled (p - 1) (poly_at ns t)) one (same_term_products p (p - 1) [] b (poly_at ns t) two) m)
        ∙ sym (columns m k e) ∙ sym (coordinates k)

-- one more form
pub forms_push : (p : ℕ) (ns : List Node) (constants ids : List ℕ) (vs : List Coordinates) (id : ℕ) (v : Coordinates) → AreAffineForms p ns constants ids vs → IsAffineForm p ns constants id v
    → AreAffineForms p ns constants (ids ++ id ∷ []) (vs ++ v ∷ [])
forms_push p ns constants [] [] id v are is = (is, tt)
forms_push p ns constants [] (w ∷ vs) id v are is = absurd are
forms_push p ns constants (i ∷ ids) [] id v are is = absurd are
forms_push p ns constants (i ∷ ids) (w ∷ vs) id v are is = (are.0, forms_push p ns constants ids vs id v are.1 is)
