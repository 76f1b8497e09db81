-- Where no literal of a lemma is true, its first lines are 0 at a point; so a lemma whose tree closes is true.
use Rattle.std.proofs.Common.{◌≡◌, ℕ, suc, ◌+◌, ◌-◌, ◌%◌, ◌<◌, Bool, true, false, ◌||◌, ◌==◌, nat_lt, if◌then◌else◌, List, [], ◌∷◌, length, get_or, All, Ok, refl, sym, ap, ap₂, ◌∙◌, subst, arith, eq-eqb, eqb-true}
use Rattle.std.proofs.Math.Nat.{mod-lt, mod-eq_of_lt}
use Rattle.std.proofs.lemmas.Bool.{false≢true, not-false, true_from_ne_false, lt-ltb, le-ltb}
use Rattle.std.proofs.lemmas.List.Elements.{All-head, All-tail, All-cons, All-nil}
use Rattle.std.proofs.lemmas.Option.{get_or_from_slice_get}
use Rattle.ffc_cert.specs.declared.entries.CertLine.{CertLine}
use Rattle.ffc_field.specs.Modular.{IsPrime, sub_mod, mul_mod, pow_mod}
use Rattle.ffc_field.specs.Orders.{IsOrder}
use Rattle.ffc_field.proofs.ModularLaws.{sub_mod-self, same_from_sub_mod}
use Rattle.ffc_field.proofs.Primes.{inverse_residue}
use Rattle.ffc_ring.specs.Polynomial.{Terms, product, difference, poly_value}
use Rattle.ffc_ring.proofs.PolynomialLemmas.{poly_value-difference, poly_value-product}
use Rattle.ffc_term.specs.declared.node.Node.{Node}
use Rattle.ffc_term.specs.declared.node.Node.TheVariants.{True, Eq}
use Rattle.ffc_term.specs.declared.node.Sort.TheVariants as sort
use Rattle.ffc_term.specs.declared.value.Value.{Value}
use Rattle.ffc_term.specs.Nodes.{IsNodeAt, node_at}
use Rattle.ffc_term.specs.Values.{value_at, truth, residue}
use Rattle.ffc_term.specs.Tables.{IsTable, IsFieldAt, AreOfOneField}
use Rattle.ffc_term.proofs.TableLemmas.{sort_at-take}
use Rattle.ffc_term.proofs.ValueLemmas.{value_at-is}
use Rattle.std.proofs.Common.{take, length-take}
use Rattle.ffc_trees.specs.NodePolynomials.{variable, constant, poly_at}
use Rattle.ffc_trees.specs.TreeLines.{Limits}
use Rattle.ffc_trees.specs.Trees.{tree_read}
use Rattle.ffc_trees.specs.FirstLines.{Literal, literal_truth, clause_truth, difference_of, first_line, first_lines_from, first_lines}
use Rattle.ffc_trees.specs.Laws.{IsPoint, IsPointOf, AreZeroAt, IsOnEquality, Vanishes}
use Rattle.ffc_trees.proofs.NormalLemmas.{poly_value-normal}
use Rattle.ffc_trees.proofs.NodePolyLemmas.{poly_at-value, node_below, variable_value}
use Rattle.ffc_trees.proofs.RefuteLemmas.{order_prime, closes_refutes}
use Rattle.ffc_trees.proofs.ReadLemmas.{tree_read-closes}

or_false : (a b : Bool) → (a || b) ≡ false → (a ≡ false) × (b ≡ false)
or_false true b h = absurd (false≢true (sym h))
or_false false b h = (refl, h)

-- the node of a literal on an equality
equality_at : (nodes : List Node) (v : ℕ) (n : Node) → IsNodeAt nodes v n → node_at nodes v ≡ n
equality_at nodes v n at = get_or_from_slice_get nodes v n True at

-- both sides are of the order
other_side : (nodes : List Node) (v p s t : ℕ) → IsTable nodes → IsNodeAt nodes v (Eq s t) → IsFieldAt nodes p s → IsFieldAt nodes p t
other_side nodes v p s t table at is =
    let fits : AreOfOneField (take v nodes) (s ∷ t ∷ []) = table.well_formed.fits v (Eq s t) at in
    let one : IsFieldAt (take v nodes) fits.order s = fits.each 0 0 (omega arith) in
    let two : IsFieldAt (take v nodes) fits.order t = fits.each 1 0 (omega arith) in
    let before : s < v = omega (arith, one.0, length-take v nodes) in
    let also : t < v = omega (arith, two.0, length-take v nodes) in
    let same : sort.Field fits.order ≡ sort.Field p = sym one.1 ∙ sort_at-take v nodes s before ∙ is.1 in
    (omega (arith, two.0, length-take v nodes), sym (sort_at-take v nodes t also) ∙ two.1 ∙ same)

module _ (nodes : List Node) (A : List Value) (p : ℕ) (order : IsOrder p) (table : IsTable nodes) where
  -- the difference of the values of the sides of an equality
  gap_of : Node → ℕ
  gap_of (Eq s t) = sub_mod p (residue (value_at nodes A s)) (residue (value_at nodes A t))
  gap_of _ = 0

  gap : Literal → ℕ
  gap lit = gap_of (node_at nodes lit.1)

  -- its inverse, where it has one
  inverse : Literal → ℕ
  inverse lit = pow_mod p (gap lit) (p - 2)

  -- each node has its value, and the variables after them the inverses
  the_point : List Literal → ℕ → ℕ
  the_point lits x = if nat_lt x (length nodes) then residue (value_at nodes A x) % p else inverse (get_or lits (x - length nodes) (false, 0))

  positive : 0 < p
  positive = let prime : IsPrime p = order_prime p order in omega (arith, prime.least)

  either_below : (b : Bool) (x y : ℕ) → x < p → y < p → (if b then x else y) < p
  either_below true x y one two = one
  either_below false x y one two = two

  the_point-below : (lits : List Literal) → IsPoint p (the_point lits)
  unfolding the_point inverse
  the_point-below lits x = either_below (nat_lt x (length nodes)) (residue (value_at nodes A x) % p) (inverse (get_or lits (x - length nodes) (false, 0))) (mod-lt _ positive) (mod-lt _ positive)

  the_point-nodes : (lits : List Literal) → IsPointOf nodes A p (the_point lits)
  unfolding the_point
  the_point-nodes lits id is = rw (lt-ltb id (length nodes) is.0) (mod-eq_of_lt (node_below nodes A p id table is))

  the_point-inverses : (lits : List Literal) (j : ℕ) → the_point lits (length nodes + j) ≡ inverse (get_or lits j (false, 0))
  unfolding the_point
  the_point-inverses lits j =
      rw (le-ltb (length nodes + j) (length nodes) (omega arith)) (ap (λ k. inverse (get_or lits k (false, 0))) (let same : length nodes + j - length nodes ≡ j = omega arith in same))

  module _ (point : ℕ → ℕ) (below : IsPoint p point) (points : IsPointOf nodes A p point) where
    -- a literal on an equality: the value of the difference, and its truth
    difference_value : (lit : Literal) → IsOnEquality nodes p lit → poly_value p point (difference_of p nodes (node_at nodes lit.1)) ≡ gap lit
    unfolding gap gap_of
    difference_value lit on =
        let s : ℕ = on.0 in
        let t : ℕ = on.1 in
        let node : node_at nodes lit.1 ≡ Eq s t = equality_at nodes lit.1 (Eq s t) on.2 in
        ap (λ n. poly_value p point (difference_of p nodes n)) node
        ∙ poly_value-difference p positive point (poly_at nodes s) (poly_at nodes t)
        ∙ ap₂ (sub_mod p) (poly_at-value nodes A p point s table points on.3) (poly_at-value nodes A p point t table points (other_side nodes lit.1 p s t table on.2 on.3))
        ∙ sym (ap gap_of node)

    truth_of_equality : (lit : Literal) (on : IsOnEquality nodes p lit) → truth (value_at nodes A lit.1) ≡ (residue (value_at nodes A on.0) == residue (value_at nodes A on.1))
    truth_of_equality lit on = ap truth (value_at-is nodes A lit.1 (Eq on.0 on.1) table.well_formed on.2)

    gap-is : (lit : Literal) (on : IsOnEquality nodes p lit) → gap lit ≡ sub_mod p (residue (value_at nodes A on.0)) (residue (value_at nodes A on.1))
    unfolding gap gap_of
    gap-is lit on = ap gap_of (equality_at nodes lit.1 (Eq on.0 on.1) on.2)

    equal_gap : (lit : Literal) → IsOnEquality nodes p lit → truth (value_at nodes A lit.1) ≡ true → gap lit ≡ 0
    equal_gap lit on is =
        let same : residue (value_at nodes A on.0) ≡ residue (value_at nodes A on.1) = eqb-true (residue (value_at nodes A on.0)) (residue (value_at nodes A on.1)) (sym (truth_of_equality lit on) ∙ is) in
        let small : residue (value_at nodes A on.1) < p = node_below nodes A p on.1 table (other_side nodes lit.1 p on.0 on.1 table on.2 on.3) in
        gap-is lit on ∙ ap (λ r. sub_mod p r (residue (value_at nodes A on.1))) same ∙ sub_mod-self p (residue (value_at nodes A on.1)) (omega arith)

    other_gap : (lit : Literal) → IsOnEquality nodes p lit → truth (value_at nodes A lit.1) ≡ false → gap lit ≡ 0 → ⊥
    other_gap lit on is none =
        let one : residue (value_at nodes A on.0) < p = node_below nodes A p on.0 table on.3 in
        let two : residue (value_at nodes A on.1) < p = node_below nodes A p on.1 table (other_side nodes lit.1 p on.0 on.1 table on.2 on.3) in
        let same : residue (value_at nodes A on.0) ≡ residue (value_at nodes A on.1) = same_from_sub_mod p (residue (value_at nodes A on.0)) (residue (value_at nodes A on.1)) one two (sym (gap-is lit on) ∙ none) in
        false≢true (sym is ∙ truth_of_equality lit on ∙ eq-eqb (residue (value_at nodes A on.0)) (residue (value_at nodes A on.1)) same)

    gap-below : (lit : Literal) → IsOnEquality nodes p lit → gap lit < p
    gap-below lit on = subst (λ n. n < p) (sym (gap-is lit on)) (mod-lt _ positive)

    one_value : poly_value p point (constant 1) ≡ 1
    one_value = mod-eq_of_lt (let prime : IsPrime p = order_prime p order in let least : 1 < p = prime.least in least)

    -- the line of a literal that is not true
    negative_is_zero : (v w : ℕ) → IsOnEquality nodes p (false, v) → literal_truth nodes A (false, v) ≡ false → poly_value p point (first_line p nodes w (false, v)) ≡ 0
    unfolding first_line
    negative_is_zero v w on off =
        poly_value-normal p point (difference_of p nodes (node_at nodes v)) ∙ difference_value (false, v) on ∙ equal_gap (false, v) on (not-false (truth (value_at nodes A v)) off)

    positive_is_zero : (v w : ℕ) → IsOnEquality nodes p (true, v) → literal_truth nodes A (true, v) ≡ false → point w ≡ inverse (true, v) → poly_value p point (first_line p nodes w (true, v)) ≡ 0
    unfolding first_line inverse
    positive_is_zero v w on off at =
        let d : ℕ = gap (true, v) in
        let diff : Terms = difference_of p nodes (node_at nodes v) in
        let inverted : mul_mod p d (pow_mod p d (p - 2)) ≡ 1 = inverse_residue p d (order_prime p order) (gap-below (true, v) on) (other_gap (true, v) on off) in
        poly_value-normal p point (difference p (product diff (variable w)) (constant 1))
        ∙ poly_value-difference p positive point (product diff (variable w)) (constant 1)
        ∙ ap₂ (sub_mod p) (poly_value-product p point diff (variable w) ∙ ap₂ (mul_mod p) (difference_value (true, v) on) (variable_value p point w (below w) ∙ at) ∙ inverted) one_value
        ∙ sub_mod-self p 1 (omega (arith, positive))

    first_is_zero : (lit : Literal) (w : ℕ) → IsOnEquality nodes p lit → literal_truth nodes A lit ≡ false → point w ≡ inverse lit → poly_value p point (first_line p nodes w lit) ≡ 0
    first_is_zero (true, v) w on off at = positive_is_zero v w on off at
    first_is_zero (false, v) w on off at = negative_is_zero v w on off

    firsts_are_zero : (lits : List Literal) (w : ℕ) → All (IsOnEquality nodes p) lits → clause_truth nodes A lits ≡ false → ((j : ℕ) → j < length lits → point (w + j) ≡ inverse (get_or lits j (false, 0))) → AreZeroAt p point (first_lines_from p nodes w lits)
    firsts_are_zero [] w on off at = All-nil (λ f. poly_value p point f ≡ 0)
    firsts_are_zero (lit ∷ lits) w on off at =
        let both = or_false (literal_truth nodes A lit) (clause_truth nodes A lits) off in
        let here : point w ≡ inverse lit = ap point (let same : w ≡ w + 0 = omega arith in same) ∙ at 0 (omega arith) in
        All-cons (λ f. poly_value p point f ≡ 0) (first_line p nodes w lit) (first_lines_from p nodes (suc w) lits)
        (first_is_zero lit w (All-head (IsOnEquality nodes p) lit lits on) both.0 here)
        (firsts_are_zero lits (suc w) (All-tail (IsOnEquality nodes p) lit lits on) both.1 (λ j inside. ap point (let same : suc w + j ≡ w + suc j = omega arith in same) ∙ at (suc j) (omega arith)))

  pub first_lines_vanish : (lits : List Literal) → All (IsOnEquality nodes p) lits → clause_truth nodes A lits ≡ false → Vanishes nodes A p lits
  first_lines_vanish lits on off = record {
    point = the_point lits;
    below = the_point-below lits;
    nodes_at = the_point-nodes lits;
    zero = firsts_are_zero (the_point lits) (the_point-below lits) (the_point-nodes lits) lits (length nodes) on off (λ j inside. the_point-inverses lits j);
  }

-- a lemma whose tree is read to its end is true
pub lemma_is_true : (l : Limits) (nodes : List Node) (A : List Value) (p : ℕ) (lits : List Literal) (tree rest : List CertLine) → IsTable nodes → IsOrder p → All (IsOnEquality nodes p) lits → tree_read l p (first_lines nodes p lits) tree ≡ Ok rest → clause_truth nodes A lits ≡ true
lemma_is_true l nodes A p lits tree rest table order on read =
    true_from_ne_false (clause_truth nodes A lits) (λ off.
    let v : Vanishes nodes A p lits = first_lines_vanish nodes A p order table lits on off in
    closes_refutes l p (first_lines nodes p lits) tree rest v.point order (tree_read-closes l p (first_lines nodes p lits) tree rest read) v.below v.zero)
