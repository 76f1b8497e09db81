-- The equalities of a check that are forced, and its variables.
use Rattle.std.proofs.Common.{◌≡◌, ℕ, ◌-◌, ◌<◌, ◌==◌, nat_lt, Bool, true, false, List, [], ◌∷◌, length, take, filter, reverse, get_or, All, Contains, refl, sym, ap, ◌∙◌, subst, arith}
use Rattle.std.specs.List.{list_any, list_all}
use Rattle.std.specs.List.Sorted.{IsStrictlyIncreasing}
use Rattle.std.proofs.lemmas.Bool.{false≢true, and_parts, and_from, eqb-true, lt-ltb, ltb-false, false_from_ne_true}
use Rattle.std.proofs.lemmas.List.{get_or-reverse, length-reverse}
use Rattle.std.proofs.lemmas.List.Elements.{All-contains, Contains-get_or}
use Rattle.std.proofs.lemmas.List.Folds.{Any-from_list_any, list_any_at}
use Rattle.std.proofs.lemmas.List.Kept.{IsStrictlyIncreasing-filter}
use Rattle.std.proofs.lemmas.List.Sums.{AllPass-from_list_all}
use Rattle.std.proofs.lemmas.Option.{slice_get-get_or, slice_get_within}
use Rattle.ffc_bounds.specs.Combinations.{AreForcedEqualities, node_variables}
use Rattle.ffc_bounds.specs.Conjunctions.{field_nodes, field_order, first_order_of, has_order}
use Rattle.ffc_bounds.specs.Forced.{IsForced}
use Rattle.ffc_check.proofs.CaseLemmas.{within}
use Rattle.ffc_clause.specs.Clauses.{Literal, same_literal, is_among}
use Rattle.ffc_field.specs.Orders.{IsOrder}
use Rattle.ffc_propagation.specs.Answers.{AreAllForced}
use Rattle.ffc_refutation.specs.declared.reason.Reason.{Reason}
use Rattle.ffc_rules.proofs.AssignmentLemmas.{node_at-is}
use Rattle.ffc_rules.proofs.ConeLemmas.{cone_nodes}
use Rattle.ffc_rules.specs.Cones.{cone, is_equality, atoms}
use Rattle.ffc_rules.specs.Entries.{NodeCheck, is_equality_at, is_equality_over}
use Rattle.ffc_rules.specs.Laws.{IsValid}
use Rattle.ffc_smt.proofs.ConeLemmas.{cone_through}
use Rattle.ffc_smt.proofs.OrderLemmas.{order_tested}
use Rattle.ffc_smt.specs.Numbers.{is_order}
use Rattle.ffc_term.proofs.LawLemmas.{same_increasing}
use Rattle.ffc_term.proofs.ListLemmas.{nothing_in, Contains-filter, Contains-from_filter}
use Rattle.ffc_term.proofs.TableLemmas.{sort_at-is, sort_at-take}
use Rattle.ffc_term.proofs.ValueLemmas.{IsOrder-positive, IsOrder-from_IsFieldAt}
use Rattle.ffc_term.proofs.WalkLemmas.{child_below, IsNodeOf-within}
use Rattle.ffc_term.specs.Checks.{IsNodeOf}
use Rattle.ffc_term.specs.Checks.IsNodeOf.{child, listed}
use Rattle.ffc_term.specs.declared.node.Node.{Node}
use Rattle.ffc_term.specs.declared.node.Node.TheVariants.{True, FieldConst, IteField, Eq}
use Rattle.ffc_term.specs.declared.node.Sort.TheVariants as sort
use Rattle.ffc_term.specs.Measuring.{degree_at, length_at}
use Rattle.ffc_term.specs.Nodes.{IsNodeAt, children, node_at, order_at, sort_at, order_of_sort}
use Rattle.ffc_term.specs.Tables.{IsFieldAt, IsWellFormed, AreOfOneField}
use Rattle.ffc_trees.specs.NodePolynomials.{is_variable, IsVariableAt}
use Rattle.ffc_trials.proofs.FieldLemmas.{one_of_eight}
use Rattle.ffc_trials.specs.Stops.{IsWithinLimits}
use Rattle.ffc_combination.specs.Forced.{is_forced_equality, IsUsable}

-- an equality is one of two nodes
equality_is : (n : Node) → is_equality n ≡ true → (a : ℕ) × (b : ℕ) × (n ≡ Eq a b)
equality_is (Eq a b) is = (a, b, refl)
equality_is _ is = absurd (false≢true is)

-- a variable is a field node
variable_field : (ns : List Node) (id : ℕ) (n : Node) → IsWellFormed ns → IsNodeAt ns id n → is_variable n ≡ true → (q : ℕ) × IsFieldAt ns q id
variable_field ns id (FieldConst k q) formed at is = (q, (slice_get_within ns id (FieldConst k q) at, sort_at-is ns id (FieldConst k q) at))
variable_field ns id (IteField d a b) formed at is =
    let fits = formed.fits id (IteField d a b) at in
    (fits.1.order, (slice_get_within ns id (IteField d a b) at, sort_at-is ns id (IteField d a b) at ∙ (fits.1.each 0 0 (omega arith)).1))
variable_field ns id _ formed at is = absurd (false≢true is)

-- where all field nodes are of an order, that is the first one's
first_order : (ns : List Node) (p : ℕ) (xs : List ℕ) (x : ℕ) → list_all (λ id. order_at ns id == p) xs ≡ true → Contains xs x → first_order_of ns xs ≡ p
first_order ns p [] x are has = absurd (nothing_in x has)
first_order ns p (y ∷ xs) x are has = eqb-true (order_at ns y) p (and_parts (order_at ns y == p) (list_all (λ id. order_at ns id == p) xs) are).0

-- no element passes a test that none passes
none_passes : (test : ℕ → Bool) (xs : List ℕ) (x : ℕ) → list_any test xs ≡ false → Contains xs x → test x ≡ false
none_passes test xs x none has =
    false_from_ne_true (test x) (λ yes. false≢true (sym none ∙ list_any_at test xs has.0 x has.1 (ap test has.2 ∙ yes)))

-- a literal is among those that are listed backwards
among_reversed : (ls : List Literal) (l : Literal) → is_among ls l ≡ true → is_among (reverse ls) l ≡ true
among_reversed ls l is =
    let (k, x, inside, at, on) = Any-from_list_any (same_literal l) ls is in
    let long = length-reverse ls in
    let place : length ls - 1 - (length ls - 1 - k) ≡ k = omega (arith, inside) in
    list_any_at (same_literal l) (reverse ls) (length ls - 1 - k) x (omega (arith, inside, long))
    (ap (same_literal l) (get_or-reverse ls (length ls - 1 - k) x (omega (arith, inside)) ∙ ap (λ i. get_or ls i x) place ∙ at) ∙ on)

-- an equality with one side, which is a field node
record HasSide (ns : List Node) (ids : List ℕ) (id : ℕ) : Type 0 where
  one : ℕ
  other : ℕ
  at : IsNodeAt ns id (Eq one other)
  side : Contains (field_nodes ns ids) one

module _ (c : NodeCheck) (valid : IsValid c) where
  abbrev pub IsInCone : ℕ → Type 0
  IsInCone id = Contains (cone c.nodes c.in_force) id

  in_cone_of : (id : ℕ) → IsInCone id → IsNodeOf c.nodes c.in_force id
  in_cone_of id = ((cone_nodes c.nodes c.in_force valid.table (within c valid)).each id).0

  pub cone_inside : (id : ℕ) → IsInCone id → id < length c.nodes
  cone_inside id has = IsNodeOf-within c.nodes c.in_force id valid.table (within c valid) (in_cone_of id has)

  pub node_in_cone : (id : ℕ) → IsInCone id → IsNodeAt c.nodes id (node_at c.nodes id)
  node_in_cone id has = slice_get-get_or c.nodes id True (cone_inside id has)

  pub child_in_cone : (id d : ℕ) (n : Node) → IsInCone id → IsNodeAt c.nodes id n → Contains (children n) d → IsInCone d
  child_in_cone id d n has at of = ((cone_nodes c.nodes c.in_force valid.table (within c valid)).each d).1 (child n (in_cone_of id has) at of)

  pub active_in_cone : (id : ℕ) → Contains c.in_force id → IsInCone id
  active_in_cone id has = ((cone_nodes c.nodes c.in_force valid.table (within c valid)).each id).1 (listed has)

  pub field_listed : (id q : ℕ) → IsInCone id → IsFieldAt c.nodes q id → Contains (field_nodes c.nodes c.in_force) id
  field_listed id q has is =
      let some : 0 < q = IsOrder-positive q (IsOrder-from_IsFieldAt c.nodes id q valid.table.well_formed is) in
      Contains-filter (λ x. nat_lt 0 (order_at c.nodes x)) (cone c.nodes c.in_force) id has (ap (λ s. nat_lt 0 (order_of_sort s)) is.1 ∙ lt-ltb 0 q some)

  pub cone_rises : IsStrictlyIncreasing (cone c.nodes c.in_force)
  cone_rises = (cone_nodes c.nodes c.in_force valid.table (within c valid)).increasing

  -- ---- atoms

  atom_side : (id : ℕ) → Contains (atoms c.nodes c.in_force) id → HasSide c.nodes c.in_force id
  atom_side id has =
      let was = Contains-from_filter (λ x. is_equality (node_at c.nodes x)) (cone c.nodes c.in_force) id has in
      let (a, b, is) = equality_is (node_at c.nodes id) was.1 in
      let at : IsNodeAt c.nodes id (Eq a b) = subst (IsNodeAt c.nodes id) is (node_in_cone id was.0) in
      let fits : AreOfOneField (take id c.nodes) (a ∷ b ∷ []) = valid.table.well_formed.fits id (Eq a b) at in
      let first : IsFieldAt (take id c.nodes) fits.order a = fits.each 0 0 (omega arith) in
      let below : a < id = child_below c.nodes id a (Eq a b) valid.table.well_formed at (0, omega arith, refl) in
      let of : sort_at c.nodes a ≡ sort.Field fits.order = sym (sort_at-take id c.nodes a below) ∙ first.1 in
      let in_cone : IsInCone a = child_in_cone id a (Eq a b) was.0 at (0, omega arith, refl) in
      record { one = a; other = b; at = at; side = field_listed a fits.order in_cone (cone_inside a in_cone, of) }

  module _ (p : ℕ) (field : has_order c.nodes c.in_force p ≡ true) where
    atom_equality : (id : ℕ) → Contains (atoms c.nodes c.in_force) id → is_equality_at c.nodes p id ≡ true
    atom_equality id has =
        let s = atom_side id has in
        ap (is_equality_over c.nodes p) (node_at-is c.nodes id (Eq s.one s.other) s.at)
        ∙ All-contains (λ x. (order_at c.nodes x == p) ≡ true) (field_nodes c.nodes c.in_force) s.one (AllPass-from_list_all (λ x. order_at c.nodes x == p) (field_nodes c.nodes c.in_force) field) s.side

    pub atom_usable : IsWithinLimits c → (id : ℕ) → Contains (atoms c.nodes c.in_force) id → IsUsable p c.nodes id
    atom_usable limit id has = record {
      equality = atom_equality id has;
      low = ltb-false 255 (degree_at c.nodes id) (none_passes (λ x. nat_lt 255 (degree_at c.nodes x)) (atoms c.nodes c.in_force) id limit.degree has);
      short = ltb-false 65536 (length_at c.nodes id) (none_passes (λ x. nat_lt 65536 (length_at c.nodes x)) (atoms c.nodes c.in_force) id limit.length has);
    }

    -- where there is a variable, the field of the check is that of order p
    pub order_is : 0 < length (node_variables c.nodes c.in_force) → field_order c.nodes c.in_force ≡ p
    order_is some =
        let x = get_or (node_variables c.nodes c.in_force) 0 0 in
        let was = Contains-from_filter (λ id. is_variable (node_at c.nodes id)) (cone c.nodes c.in_force) x (Contains-get_or (node_variables c.nodes c.in_force) 0 0 some) in
        let (q, is) = variable_field c.nodes x (node_at c.nodes x) valid.table.well_formed (node_in_cone x was.0) was.1 in
        first_order c.nodes p (field_nodes c.nodes c.in_force) x field (field_listed x q was.0 is)

    pub order_known : 0 < length (node_variables c.nodes c.in_force) → is_order p ≡ true
    order_known some = order_tested p (subst IsOrder (order_is some) (one_of_eight c.nodes (cone c.nodes c.in_force) valid.table.well_formed all_inside))
      where
        all_inside : All (λ id. id < length c.nodes) (cone c.nodes c.in_force)
        all_inside k d inside = cone_inside (get_or (cone c.nodes c.in_force) k d) (Contains-get_or (cone c.nodes c.in_force) k d inside)

    -- the variables of an equality's polynomials are among those of the check
    pub variable_listed : (id : ℕ) → Contains (atoms c.nodes c.in_force) id → (x : ℕ) → IsNodeOf c.nodes (id ∷ []) x → IsVariableAt c.nodes p x → Contains (node_variables c.nodes c.in_force) x
    variable_listed id has x of variable =
        let nodes = (cone_nodes c.nodes c.in_force valid.table (within c valid)).each in
        let root = (nodes id).0 (Contains-from_filter (λ y. is_equality (node_at c.nodes y)) (cone c.nodes c.in_force) id has).0 in
        let there : Contains (cone c.nodes c.in_force) x = (nodes x).1 (cone_through c.nodes c.in_force id root x of) in
        Contains-filter (λ y. is_variable (node_at c.nodes y)) (cone c.nodes c.in_force) x there variable.1

  pub variables_rise : IsStrictlyIncreasing (node_variables c.nodes c.in_force)
  variables_rise = IsStrictlyIncreasing-filter (λ id. is_variable (node_at c.nodes id)) (cone c.nodes c.in_force) cone_rises

  pub variables_inside : (x : ℕ) → Contains (node_variables c.nodes c.in_force) x → x < length c.nodes
  variables_inside x has = cone_inside x (Contains-from_filter (λ id. is_variable (node_at c.nodes id)) (cone c.nodes c.in_force) x has).0

  -- ---- what is forced

  module _ (literals : List Literal) (reasons : List Reason) (all : AreAllForced c literals reasons) where
    found_is : (truth : Bool) (id : ℕ) → Contains (filter (is_forced_equality c.nodes literals truth) (cone c.nodes c.in_force)) id → Contains (atoms c.nodes c.in_force) id × IsForced c (truth, id)
    found_is truth id has =
        let was = Contains-from_filter (is_forced_equality c.nodes literals truth) (cone c.nodes c.in_force) id has in
        let parts = and_parts (is_equality (node_at c.nodes id)) (is_among literals (truth, id)) was.1 in
        (Contains-filter (λ x. is_equality (node_at c.nodes x)) (cone c.nodes c.in_force) id was.0 parts.0, all.sound (truth, id) parts.1)

    is_found : (truth : Bool) (id : ℕ) → Contains (atoms c.nodes c.in_force) id × IsForced c (truth, id) → Contains (filter (is_forced_equality c.nodes literals truth) (cone c.nodes c.in_force)) id
    is_found truth id (has, forced) =
        let was = Contains-from_filter (λ x. is_equality (node_at c.nodes x)) (cone c.nodes c.in_force) id has in
        Contains-filter (is_forced_equality c.nodes literals truth) (cone c.nodes c.in_force) id was.0
        (and_from (is_equality (node_at c.nodes id)) (is_among literals (truth, id)) was.1 (all.complete (truth, id) forced))

    -- the lists that are found are those of all that is forced
    pub forced_are : AreForcedEqualities c (filter (is_forced_equality c.nodes literals true) (cone c.nodes c.in_force)) (filter (is_forced_equality c.nodes literals false) (cone c.nodes c.in_force))
    forced_are = record {
      equal_increase = IsStrictlyIncreasing-filter (is_forced_equality c.nodes literals true) (cone c.nodes c.in_force) cone_rises;
      unequal_increase = IsStrictlyIncreasing-filter (is_forced_equality c.nodes literals false) (cone c.nodes c.in_force) cone_rises;
      equal_are = λ id. (found_is true id, is_found true id);
      unequal_are = λ id. (found_is false id, is_found false id);
    }

    -- a literal that is forced is among those that the reasons force
    pub forced_among : (l : Literal) → IsForced c l → is_among (reverse literals) l ≡ true
    forced_among l forced = among_reversed literals l (all.complete l forced)

-- what is forced is one pair of lists
pub one_equal : (c : NodeCheck) (equal unequal other more : List ℕ) → AreForcedEqualities c equal unequal → AreForcedEqualities c other more → equal ≡ other
one_equal c equal unequal other more one two =
    same_increasing equal other one.equal_increase two.equal_increase (λ k has. (two.equal_are k).1 ((one.equal_are k).0 has)) (λ k has. (one.equal_are k).1 ((two.equal_are k).0 has))

pub one_unequal : (c : NodeCheck) (equal unequal other more : List ℕ) → AreForcedEqualities c equal unequal → AreForcedEqualities c other more → unequal ≡ more
one_unequal c equal unequal other more one two =
    same_increasing unequal more one.unequal_increase two.unequal_increase (λ k has. (two.unequal_are k).1 ((one.unequal_are k).0 has)) (λ k has. (one.unequal_are k).1 ((two.unequal_are k).0 has))
