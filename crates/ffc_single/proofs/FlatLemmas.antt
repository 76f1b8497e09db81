-- What holds of the equalities of a flat check in one constant.
use Rattle.std.proofs.Common.{inl, inr, ◌≡◌, ℕ, zero, suc, ◌<◌, ◌≤◌, ◌==◌, ◌||◌, nat_lt, Bool, true, false, cond, if◌then◌else◌, List, [], ◌∷◌, length, take, All, Contains, refl, sym, ap, ap₂, ◌∙◌, subst, arith}
use Rattle.std.specs.List.{list_all, list_any}
use Rattle.std.proofs.lemmas.Bool.{false≢true, and_parts, eqb-true, lt-ltb, le-ltb, cases_lt}
use Rattle.std.proofs.lemmas.List.Elements.{All-contains}
use Rattle.std.proofs.lemmas.List.Sums.{AllPass-from_list_all}
use Rattle.std.proofs.lemmas.Option.{slice_get-get_or}
use Rattle.ffc_bounds.specs.Conjunctions.{equations, field_nodes, field_order, first_order_of, is_field_constant, field_constants, is_field_ite}
use Rattle.ffc_check.proofs.CaseLemmas.{within}
use Rattle.ffc_conjunction.specs.declared.conjunction.Conjunction.{Conjunction}
use Rattle.ffc_linear.proofs.SystemLemmas.{each_equation, each_disequation, order_known}
use Rattle.ffc_rules.proofs.AssignmentLemmas.{node_at-is}
use Rattle.ffc_rules.proofs.ConeLemmas.{cone_nodes}
use Rattle.ffc_rules.specs.Cones.{cone, is_equality, atoms}
use Rattle.ffc_rules.specs.Entries.{NodeCheck, limits, is_equality_at, is_equality_over, is_within}
use Rattle.ffc_smt.proofs.ConeLemmas.{cone_through}
use Rattle.ffc_smt.specs.Numbers.{is_order}
use Rattle.ffc_term.proofs.ListLemmas.{nothing_in, Contains-filter, Contains-from_filter}
use Rattle.ffc_term.proofs.TableLemmas.{sort_at-take}
use Rattle.ffc_term.proofs.ValueLemmas.{IsOrder-positive, IsOrder-from_IsFieldAt}
use Rattle.ffc_term.proofs.WalkLemmas.{child_below, IsNodeOf-within}
use Rattle.ffc_term.specs.Checks.{IsNodeOf}
use Rattle.ffc_term.specs.Checks.IsNodeOf.{child}
use Rattle.ffc_term.specs.declared.node.Node.{Node}
use Rattle.ffc_term.specs.declared.node.Node.TheVariants.{True, FieldConst, IteField, Eq}
use Rattle.ffc_term.specs.declared.node.Sort.TheVariants as sort
use Rattle.ffc_term.specs.Measuring.{degree_at, length_at}
use Rattle.ffc_term.specs.Nodes.{IsNodeAt, node_at, order_at, sort_at, order_of_sort}
use Rattle.ffc_term.specs.Tables.{IsTable, IsFieldAt, AreOfOneField}
use Rattle.ffc_trees.specs.NodePolynomials.{is_variable, IsVariableAt}
use Rattle.ffc_single.specs.Decisions.{IsFlatInOne}
use Rattle.ffc_single.specs.Univariate.{IsEqualityIn}

-- ---- lists

only_one : (c x : ℕ) → Contains (c ∷ []) x → c ≡ x
only_one c x (zero, inside, is) = is
only_one c x (suc k, inside, is) = absurd (omega arith)

-- where no element passes a test, each fails it
none_passes : (f : ℕ → Bool) (xs : List ℕ) (x : ℕ) → list_any f xs ≡ false → Contains xs x → f x ≡ false
none_passes f [] x none has = absurd (nothing_in x has)
none_passes f (y ∷ xs) x none (zero, inside, is) = subst (λ z. f z ≡ false) is (by_case (f y) none)
  where
    by_case : (b : Bool) → (b || list_any f xs) ≡ false → b ≡ false
    by_case true e = e
    by_case false e = refl
none_passes f (y ∷ xs) x none (suc k, inside, is) = none_passes f xs x (by_case (f y) none) (k, omega arith, is)
  where
    by_case : (b : Bool) → (b || list_any f xs) ≡ false → list_any f xs ≡ false
    by_case true e = absurd (false≢true (sym e))
    by_case false e = e

not_above : (limit n : ℕ) → nat_lt limit n ≡ false → n ≤ limit
not_above limit n none = elim (cases_lt limit n) as (λ _. n ≤ limit) [
  | inl above ↦ absurd (false≢true (sym none ∙ lt-ltb limit n above))
  | inr within ↦ within
]

-- ---- nodes

-- an equality is one of two nodes
equality_is : (n : Node) → is_equality n ≡ true → (a : ℕ) × (b : ℕ) × (n ≡ Eq a b)
equality_is (Eq a b) is = (a, b, refl)
equality_is _ is = absurd (false≢true is)

-- a variable is a constant where there is no `ite`
variable_constant : (n : Node) → is_variable n ≡ true → (if is_field_ite n then false else true) ≡ true → is_field_constant n ≡ true
variable_constant (FieldConst k q) is none = refl
variable_constant (IteField c a b) is none = absurd (false≢true none)
variable_constant _ is none = absurd (false≢true is)

-- where all field nodes are of an order, that is the first one's
first_order : (ns : List Node) (p : ℕ) (xs : List ℕ) (x : ℕ) → list_all (λ id. order_at ns id == p) xs ≡ true → Contains xs x → first_order_of ns xs ≡ p
first_order ns p [] x are has = absurd (nothing_in x has)
first_order ns p (y ∷ xs) x are has = eqb-true (order_at ns y) p (and_parts (order_at ns y == p) (list_all (λ id. order_at ns id == p) xs) are).0

-- an equality with one side, which is a field node of the check
record HasSide (ns : List Node) (ids : List ℕ) (id : ℕ) : Type 0 where
  one : ℕ
  other : ℕ
  at : IsNodeAt ns id (Eq one other)
  side : Contains (field_nodes ns ids) one

module _ (ns : List Node) (ids : List ℕ) (table : IsTable ns) (inside : All (λ id. id < length ns) ids) where
  abbrev IsInCone : ℕ → Type 0
  IsInCone id = Contains (cone ns ids) id

  in_cone_of : (id : ℕ) → IsInCone id → IsNodeOf ns ids id
  in_cone_of id = ((cone_nodes ns ids table inside).each id).0

  atom_side : (id : ℕ) → Contains (atoms ns ids) id → HasSide ns ids id
  atom_side id has =
      let was = Contains-from_filter (λ x. is_equality (node_at ns x)) (cone ns ids) id has in
      let (a, b, is) = equality_is (node_at ns id) was.1 in
      let here : IsNodeAt ns id (node_at ns id) = slice_get-get_or ns id True (IsNodeOf-within ns ids id table inside (in_cone_of id was.0)) in
      let at : IsNodeAt ns id (Eq a b) = subst (IsNodeAt ns id) is here in
      let fits : AreOfOneField (take id ns) (a ∷ b ∷ []) = table.well_formed.fits id (Eq a b) at in
      let first : IsFieldAt (take id ns) fits.order a = fits.each 0 0 (omega arith) in
      let below : a < id = child_below ns id a (Eq a b) table.well_formed at (0, omega arith, refl) in
      let of : sort_at ns a ≡ sort.Field fits.order = sym (sort_at-take id ns a below) ∙ first.1 in
      let in_cone : IsInCone a = ((cone_nodes ns ids table inside).each a).1 (child (Eq a b) (in_cone_of id was.0) at (0, omega arith, refl)) in
      let some : 0 < fits.order =
      IsOrder-positive fits.order (IsOrder-from_IsFieldAt ns a fits.order table.well_formed (IsNodeOf-within ns ids a table inside (in_cone_of a in_cone), of)) in
      record {
        one = a;
        other = b;
        at = at;
        side = Contains-filter (λ x. nat_lt 0 (order_at ns x)) (cone ns ids) a in_cone (ap (λ s. nat_lt 0 (order_of_sort s)) of ∙ lt-ltb 0 fits.order some);
      }

-- ---- a flat check in one constant

module _ (c : NodeCheck) (p x : ℕ) (conjunction : Conjunction) (flat : IsFlatInOne c p x conjunction) where
  abbrev IsAtom : ℕ → Type 0
  IsAtom id = Contains (atoms c.nodes c.in_force) id

  inside_table : All (λ id. id < length c.nodes) c.in_force
  inside_table = within c flat.valid

  atom_equality : (id : ℕ) → IsAtom id → is_equality_at c.nodes p id ≡ true
  atom_equality id has =
      let s = atom_side c.nodes c.in_force flat.valid.table inside_table id has in
      ap (is_equality_over c.nodes p) (node_at-is c.nodes id (Eq s.one s.other) s.at)
      ∙ All-contains (λ y. (order_at c.nodes y == p) ≡ true) (field_nodes c.nodes c.in_force) s.one (AllPass-from_list_all (λ y. order_at c.nodes y == p) (field_nodes c.nodes c.in_force) flat.field) s.side

  atom_order : (id : ℕ) → IsAtom id → field_order c.nodes c.in_force ≡ p
  atom_order id has =
      let s = atom_side c.nodes c.in_force flat.valid.table inside_table id has in
      first_order c.nodes p (field_nodes c.nodes c.in_force) s.one flat.field s.side

  atom_low : (id : ℕ) → IsAtom id → degree_at c.nodes id ≤ 255
  atom_low id has = not_above 255 (degree_at c.nodes id) (none_passes (λ y. nat_lt 255 (degree_at c.nodes y)) (atoms c.nodes c.in_force) id flat.within.degree has)

  atom_short : (id : ℕ) → IsAtom id → length_at c.nodes id ≤ 65536
  atom_short id has = not_above 65536 (length_at c.nodes id) (none_passes (λ y. nat_lt 65536 (length_at c.nodes y)) (atoms c.nodes c.in_force) id flat.within.length has)

  variable_is : (id : ℕ) → IsAtom id → (y : ℕ) → IsNodeOf c.nodes (id ∷ []) y → IsVariableAt c.nodes p y → y ≡ x
  variable_is id has y of variable =
      let nodes = (cone_nodes c.nodes c.in_force flat.valid.table inside_table).each in
      let root = (nodes id).0 (Contains-from_filter (λ z. is_equality (node_at c.nodes z)) (cone c.nodes c.in_force) id has).0 in
      let there : Contains (cone c.nodes c.in_force) y = (nodes y).1 (cone_through c.nodes c.in_force id root y of) in
      let test : (if is_field_ite (node_at c.nodes y) then false else true) ≡ true =
      All-contains (λ z. (if is_field_ite (node_at c.nodes z) then false else true) ≡ true) (cone c.nodes c.in_force) y (AllPass-from_list_all (λ z. if is_field_ite (node_at c.nodes z) then false else true) (cone c.nodes c.in_force) flat.no_ite) there in
      let listed : Contains (field_constants c.nodes c.in_force) y =
      Contains-filter (λ z. is_field_constant (node_at c.nodes z)) (cone c.nodes c.in_force) y there (variable_constant (node_at c.nodes y) variable.1 test) in
      sym (only_one x y (subst (λ ids. Contains ids y) flat.constant listed))

  atom_in : (id : ℕ) → IsAtom id → IsEqualityIn p c.nodes x id
  atom_in id has = record {
    equality = atom_equality id has;
    low = atom_low id has;
    short = atom_short id has;
    variables = variable_is id has;
  }

  -- an equality of the order within the limits
  abbrev pub IsUsable : ℕ → Type 0
  IsUsable id = (is_equality_at c.nodes p id ≡ true) × (is_within limits c.nodes id ≡ true)

  atom_usable : (id : ℕ) → IsAtom id → IsUsable id
  atom_usable id has = (
    atom_equality id has,
    ap₂ (λ a b. cond a false (cond b false true)) (le-ltb 255 (degree_at c.nodes id) (atom_low id has)) (le-ltb 65536 (length_at c.nodes id) (atom_short id has)),
  )

  pub equations_in : All (IsEqualityIn p c.nodes x) conjunction.equations.items
  equations_in = subst (All (IsEqualityIn p c.nodes x)) (sym flat.literals.equations_are) (each_equation c.nodes c.in_force flat.valid.table inside_table (IsEqualityIn p c.nodes x) atom_in)

  pub disequations_in : All (IsEqualityIn p c.nodes x) conjunction.disequations.items
  disequations_in = subst (All (IsEqualityIn p c.nodes x)) (sym flat.literals.disequations_are) (each_disequation c.nodes c.in_force flat.valid.table inside_table (IsEqualityIn p c.nodes x) atom_in)

  pub equations_usable : All IsUsable conjunction.equations.items
  equations_usable = subst (All IsUsable) (sym flat.literals.equations_are) (each_equation c.nodes c.in_force flat.valid.table inside_table IsUsable atom_usable)

  pub disequations_usable : All IsUsable conjunction.disequations.items
  disequations_usable = subst (All IsUsable) (sym flat.literals.disequations_are) (each_disequation c.nodes c.in_force flat.valid.table inside_table IsUsable atom_usable)

  -- its field is the one of order p
  pub order_is : field_order c.nodes c.in_force ≡ p
  order_is =
      let ids = equations c.nodes c.in_force in
      each_equation c.nodes c.in_force flat.valid.table inside_table (λ id. field_order c.nodes c.in_force ≡ p) atom_order 0 0 (let some = flat.some in omega arith)

  pub is_known_order : is_order p ≡ true
  is_known_order = order_known c p flat.valid order_is
