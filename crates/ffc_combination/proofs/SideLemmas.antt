-- The sides of an equality, and the difference of their polynomials.
use Rattle.std.proofs.Common.{◌≡◌, ℕ, ◌-◌, ◌*◌, ◌%◌, ◌<◌, ◌≤◌, true, List, [], ◌∷◌, ◌++◌, length, take, refl, sym, ap, ◌∙◌, subst, arith, Result, Ok, Err, IfOk, length-take, length-append, get_or-take, append-nil}
use Rattle.std.proofs.Math.Nat.{mod-eq_of_lt}
use Rattle.std.proofs.lemmas.Option.{same_Some}
use Rattle.ffc_encode.proofs.LimitLemmas.{terms_few, within_degree, degree_low}
use Rattle.ffc_field.specs.Modular.{neg_mod}
use Rattle.ffc_mono.specs.Orders.{graded_reverse_lex_cmp}
use Rattle.ffc_mono.specs.OrderLaws.{graded_reverse_lex_laws}
use Rattle.ffc_mono.proofs.LeadingLemmas.{not_itself}
use Rattle.ffc_poly.specs.Ordered.{AreWithin, IsAbove, IsOrdered, residues}
use Rattle.ffc_ring.specs.Monomial.{Monomial}
use Rattle.ffc_ring.specs.Polynomial.{Terms, AreTerms, SamePolynomial, PassesTerms, PassesDegree, IsNoneOf, AreItsMonomials, coefficient, difference, product, scaled, term_product}
use Rattle.ffc_ring.proofs.PolynomialLemmas.{same_sums, same_term_products, product_commutes, sum_commutes}
use Rattle.ffc_rules.specs.Entries.{is_equality_at}
use Rattle.ffc_rules.proofs.AssignmentLemmas.{node_at-is}
use Rattle.ffc_rules.proofs.GivenLemmas.{equality_at}
use Rattle.ffc_term.specs.declared.node.Node.{Node}
use Rattle.ffc_term.specs.declared.node.Node.TheVariants.{Eq}
use Rattle.ffc_term.specs.declared.node.Sort.TheVariants as sort
use Rattle.ffc_term.specs.Measuring.{degrees, lengths, degree_at, length_at, length_of_node}
use Rattle.ffc_term.specs.Nodes.{IsNodeAt, node_at}
use Rattle.ffc_term.specs.Tables.{IsTable, IsFieldAt, AreOfOneField}
use Rattle.ffc_term.proofs.InTurn.{get_or-in_turn}
use Rattle.ffc_term.proofs.TableLemmas.{sort_at-take}
use Rattle.ffc_term.proofs.WalkLemmas.{child_below}
use Rattle.ffc_trees.specs.FirstLines.{difference_of}
use Rattle.ffc_trees.specs.NodePolynomials.{variable, constant, poly_at}
use Rattle.ffc_trees.specs.Normal.{IsNormal, monomials_of}
use Rattle.ffc_trees.proofs.BoundLemmas.{poly_at-bounded}
use Rattle.ffc_trees.proofs.PartLemmas.{degree_at-is}
use Rattle.ffc_trees.proofs.ProductLemmas.{poly_terms}

-- ---- the sides

-- field nodes with measures of at most the equality's
pub record AreSides (p : ℕ) (nodes : List Node) (id s t : ℕ) : Type 0 where
  pub first : IsFieldAt nodes p s
  pub second : IsFieldAt nodes p t
  pub first_low : degree_at nodes s ≤ degree_at nodes id
  pub second_low : degree_at nodes t ≤ degree_at nodes id
  pub first_short : length_at nodes s ≤ length_at nodes id
  pub second_short : length_at nodes t ≤ length_at nodes id

length_at-is : (ns : List Node) (id : ℕ) (n : Node) → IsNodeAt ns id n → length_at ns id ≡ length_of_node (take id (lengths ns)) n
unfolding lengths
length_at-is ns id n at = get_or-in_turn length_of_node ns id n 0 at

-- both sides of an equality are of its order
other_side : (nodes : List Node) (v p s t : ℕ) → IsTable nodes → IsNodeAt nodes v (Eq s t) → IsFieldAt nodes p s → IsFieldAt nodes p t
other_side nodes v p s t table at is =
    let fits : AreOfOneField (take v nodes) (s ∷ t ∷ []) = table.well_formed.fits v (Eq s t) at in
    let one : IsFieldAt (take v nodes) fits.order s = fits.each 0 0 (omega arith) in
    let two : IsFieldAt (take v nodes) fits.order t = fits.each 1 0 (omega arith) in
    let before : s < v = omega (arith, one.0, length-take v nodes) in
    let also : t < v = omega (arith, two.0, length-take v nodes) in
    let same : sort.Field fits.order ≡ sort.Field p = sym one.1 ∙ sort_at-take v nodes s before ∙ is.1 in
    (omega (arith, two.0, length-take v nodes), sym (sort_at-take v nodes t also) ∙ two.1 ∙ same)

pub sides_are : (p : ℕ) (ns : List Node) (id s t : ℕ) → IsTable ns → is_equality_at ns p id ≡ true → IsNodeAt ns id (Eq s t) → AreSides p ns id s t
sides_are p ns id s t table is at =
    let (u, v, there, side) = equality_at ns p (true, id) table is in
    let same : Eq u v ≡ Eq s t = same_Some (Eq u v) (Eq s t) (sym there ∙ at) in
    let e : u ≡ s = cc in
    let one : IsFieldAt ns p s = subst (IsFieldAt ns p) e side in
    let left : s < id = child_below ns id s (Eq s t) table.well_formed at (0, omega arith, refl) in
    let right : t < id = child_below ns id t (Eq s t) table.well_formed at (1, omega arith, refl) in
    let degree_is = degree_at-is ns id (Eq s t) at in
    let length_is = length_at-is ns id (Eq s t) at in
    record {
      first = one;
      second = other_side ns id p s t table at one;
      first_low = omega (arith, degree_is, get_or-take id (degrees ns) s 0 left);
      second_low = omega (arith, degree_is, get_or-take id (degrees ns) t 0 right);
      first_short = omega (arith, length_is, get_or-take id (lengths ns) s 0 left);
      second_short = omega (arith, length_is, get_or-take id (lengths ns) t 0 right);
    }

-- an equality with its sides
pub record HasSides (p : ℕ) (nodes : List Node) (id : ℕ) : Type 0 where
  pub left : ℕ
  pub right : ℕ
  pub at : IsNodeAt nodes id (Eq left right)
  pub sides : AreSides p nodes id left right

pub has_sides : (p : ℕ) (ns : List Node) (id : ℕ) → IsTable ns → is_equality_at ns p id ≡ true → HasSides p ns id
has_sides p ns id table is =
    let (s, t, at, side) = equality_at ns p (true, id) table is in
    record { left = s; right = t; at = at; sides = sides_are p ns id s t table is at }

-- ---- the difference

terms-append : (a b : Terms) → AreTerms a → AreTerms b → AreTerms (a ++ b)
terms-append [] b h k = k
terms-append (t ∷ a) b h k = (h.0, terms-append a b h.1 k)

terms-scaled : (c : ℕ) (ts : Terms) → AreTerms ts → AreTerms (scaled c ts)
terms-scaled c [] h = tt
terms-scaled c (t ∷ ts) h = (h.0, terms-scaled c ts h.1)

pub low-append : (d : ℕ) (a b : Terms) → AreWithin d a → AreWithin d b → AreWithin d (a ++ b)
low-append d [] b h k = k
low-append d (t ∷ a) b h k = (h.0, low-append d a b h.1 k)

pub low-scaled : (d c : ℕ) (ts : Terms) → AreWithin d ts → AreWithin d (scaled c ts)
low-scaled d c [] h = tt
low-scaled d c (t ∷ ts) h = (h.0, low-scaled d c ts h.1)

low_more : (d e : ℕ) (ts : Terms) → d ≤ e → AreWithin d ts → AreWithin e ts
low_more d e [] less h = tt
low_more d e (t ∷ ts) less h = (omega (arith, less, h.0), low_more d e ts less h.1)

length-scaled : (c : ℕ) (ts : Terms) → length (scaled c ts) ≡ length ts
length-scaled c [] = refl
length-scaled c (t ∷ ts) = let e : length (scaled c ts) ≡ length ts = length-scaled c ts in omega (arith, e)

-- differences of the same polynomials
pub same_differences : (p : ℕ) (a b c d : Terms) → SamePolynomial p a c → SamePolynomial p b d → SamePolynomial p (difference p a b) (difference p c d)
same_differences p a b c d one two = same_sums p a c (scaled (p - 1) b) (scaled (p - 1) d) one (same_term_products p (p - 1) [] b d two)

module _ (p : ℕ) (ns : List Node) (id s t : ℕ) (table : IsTable ns) (at : IsNodeAt ns id (Eq s t)) (sides : AreSides p ns id s t) where
  -- the difference of an equality is that of its sides
  pub difference_is : difference_of p ns (node_at ns id) ≡ difference p (poly_at ns s) (poly_at ns t)
  difference_is = ap (difference_of p ns) (node_at-is ns id (Eq s t) at)

  -- it has few terms
  pub difference_few : (left right : Terms) → SamePolynomial p left (poly_at ns s) → SamePolynomial p right (poly_at ns t) → length_at ns id ≤ 65536 → PassesTerms p 131072 (difference p left right) → ⊥
  difference_few left right one two short =
      terms_few p 131072 (difference p left right) (difference p (poly_at ns s) (poly_at ns t)) (same_differences p left right (poly_at ns s) (poly_at ns t) one two)
      (omega (
        arith,
        length-append (poly_at ns s) (scaled (p - 1) (poly_at ns t)),
        length-scaled (p - 1) (poly_at ns t),
        (poly_at-bounded ns p s table sides.first).1,
        (poly_at-bounded ns p t table sides.second).1,
        sides.first_short,
        sides.second_short,
        short,
      ))

  sides_low : AreWithin (degree_at ns id) (difference p (poly_at ns s) (poly_at ns t))
  sides_low =
      low-append (degree_at ns id) (poly_at ns s) (scaled (p - 1) (poly_at ns t))
      (low_more (degree_at ns s) (degree_at ns id) (poly_at ns s) sides.first_low (within_degree (degree_at ns s) (poly_at ns s) (poly_at-bounded ns p s table sides.first).0))
      (low-scaled (degree_at ns id) (p - 1) (poly_at ns t)
      (low_more (degree_at ns t) (degree_at ns id) (poly_at ns t) sides.second_low (within_degree (degree_at ns t) (poly_at ns t) (poly_at-bounded ns p t table sides.second).0)))

  sides_terms : AreTerms (difference p (poly_at ns s) (poly_at ns t))
  sides_terms = terms-append (poly_at ns s) (scaled (p - 1) (poly_at ns t)) (poly_terms ns p s table sides.first) (terms-scaled (p - 1) (poly_at ns t) (poly_terms ns p t table sides.second))

-- its monomials have at most the equality's degree
pub difference_low : (p : ℕ) (ns : List Node) (id : ℕ) → IsTable ns → is_equality_at ns p id ≡ true → AreWithin (degree_at ns id) (difference_of p ns (node_at ns id))
difference_low p ns id table is =
    let h = has_sides p ns id table is in
    subst (AreWithin (degree_at ns id)) (sym (difference_is p ns id h.left h.right table h.at h.sides)) (sides_low p ns id h.left h.right table h.at h.sides)

pub difference_terms : (p : ℕ) (ns : List Node) (id : ℕ) → IsTable ns → is_equality_at ns p id ≡ true → AreTerms (difference_of p ns (node_at ns id))
difference_terms p ns id table is =
    let h = has_sides p ns id table is in
    subst AreTerms (sym (difference_is p ns id h.left h.right table h.at h.sides)) (sides_terms p ns id h.left h.right table h.at h.sides)

-- ---- ordered polynomials

none_of_above : (m : Monomial) (ts : Terms) → IsAbove graded_reverse_lex_cmp m ts → IsNoneOf (monomials_of ts) m
none_of_above m [] h = tt
none_of_above m (t ∷ ts) h = ((λ e. not_itself graded_reverse_lex_cmp graded_reverse_lex_laws m t.1 h.0 (sym e)), none_of_above m ts h.1)

-- terms in order have different monomials
pub ordered_normal : (p limit : ℕ) (ts : Terms) → IsOrdered p graded_reverse_lex_cmp limit ts → IsNormal p ts
ordered_normal p limit [] h = tt
ordered_normal p limit (t ∷ ts) h = (h.0, h.1, none_of_above t.1 ts h.4, ordered_normal p limit ts h.5)

-- ---- with an inverse

-- the residue of -1
pub minus_one_is : (p k v : ℕ) → 2 ≤ p → k ≡ 1 % p → v ≡ neg_mod p k → v ≡ (p - 1) * 1
minus_one_is p k v least one is =
    let k_is : k ≡ 1 = one ∙ mod-eq_of_lt (let less : 1 < p = omega (arith, least) in less) in
    is ∙ ap (λ n. (p - n) % p) k_is ∙ mod-eq_of_lt (let less : p - 1 < p = omega (arith, least) in less) ∙ omega arith

-- one term, as residues
pub one_residue : {F : Type 0} (value : F → ℕ) (slice new old : List (F × Monomial)) (x : F) (m : Monomial) → slice ≡ new → new ≡ old ++ (x, m) ∷ [] → old ≡ [] → residues value slice ≡ (value x, m) ∷ []
one_residue value slice new old x m one two none = ap (residues value) (one ∙ two ∙ ap (λ ts. ts ++ (x, m) ∷ []) none)

-- -1 and the product, in either order
pub inverse_turned : (p : ℕ) (one m : Terms) → SamePolynomial p one (scaled (p - 1) (constant 1)) → SamePolynomial p (one ++ m) (difference p m (constant 1))
inverse_turned p one m one_is n = same_sums p one (scaled (p - 1) (constant 1)) m m one_is (λ k. refl) n ∙ sum_commutes p (scaled (p - 1) (constant 1)) m n

alike : (p : ℕ) (ts us : Terms) (ms : List Monomial) → SamePolynomial p ts us → AreItsMonomials p ts ms → AreItsMonomials p us ms
alike p ts us [] same are = tt
alike p ts us (m ∷ ms) same are = ((λ none. are.0 (same m ∙ none)), are.1, alike p ts us ms same are.2)

-- one polynomial has one number of terms
pub passes_alike : (p limit : ℕ) (ts us : Terms) → SamePolynomial p ts us → PassesTerms p limit ts → PassesTerms p limit us
passes_alike p limit ts us same (ms, over, are) = (ms, over, alike p ts us ms same are)

-- what holds of both clauses
pub both_ok : {T E : Type 0} (r : Result T E) (P Q R : T → Type 0) → ((x : T) → P x → Q x → R x) → IfOk r P → IfOk r Q → IfOk r R
both_ok (Ok x) P Q R f one two = f x one two
both_ok (Err d) P Q R f one two = tt

-- the product with a variable, on either side
pub same_inverse : (p w : ℕ) (poly d : Terms) → AreTerms d → SamePolynomial p poly d → SamePolynomial p (difference p (term_product 1 ((w, 1) ∷ []) poly) (constant 1)) (difference p (product d (variable w)) (constant 1))
same_inverse p w poly d terms same =
    same_differences p (term_product 1 ((w, 1) ∷ []) poly) (constant 1) (product d (variable w)) (constant 1)
    (λ m.
    same_term_products p 1 ((w, 1) ∷ []) poly d same m
    ∙ ap (λ ts. coefficient p ts m) (sym (append-nil (term_product 1 ((w, 1) ∷ []) d)))
    ∙ sym (product_commutes p d (variable w) terms ((omega arith, omega arith, tt), tt) m))
    (λ m. refl)

-- the degree of the product is not too high
pub inverse_low : (p w e : ℕ) (poly d : Terms) → SamePolynomial p poly d → AreWithin e d → e ≤ 255 → PassesDegree p 1024 ((1, (w, 1) ∷ []) ∷ []) poly → ⊥
inverse_low p w e poly d same low limit =
    degree_low p 1 e 1024 ((1, (w, 1) ∷ []) ∷ []) poly ((1, (w, 1) ∷ []) ∷ []) d (λ m. refl) same (omega arith, tt) low (omega (arith, limit))
