-- The clauses of a check: what gives them, and which nodes they have.
use Rattle.std.proofs.Common.{inl, inr, ◌⊎◌, ◌≡◌, ℕ, ◌+◌, ◌<◌, ◌==◌, nat_lt, Bool, true, false, cond, ◌&&◌, ◌||◌, List, [], ◌∷◌, ◌++◌, length, map, filter, get_or, All, Contains, Option, Some, None, option_map, slice_get, refl, sym, ap, ap₂, ◌∙◌, subst, arith}
use Rattle.std.specs.Prelude.{flat_map}
use Rattle.std.specs.List.{list_all, range_with_len}
use Rattle.std.proofs.lemmas.Bool.{false≢true, cases_Bool, cases_lt, and_from, and_parts, lt-ltb}
use Rattle.std.proofs.lemmas.List.{get_or-map, length-map}
use Rattle.std.proofs.lemmas.List.Elements.{All-nil, All-cons, All-append, All-filter, All-weaker, All-from_get_or, All-get_or, Contains-append_left, Contains-append_right, Contains-append_cases, Contains-get_or, All-contains}
use Rattle.std.proofs.lemmas.List.FromFn.{get_or-range_with_len, length-range_with_len}
use Rattle.std.proofs.lemmas.Option.{slice_get-map, slice_get_within, get_or_from_slice_get, slice_get-get_or}
use Rattle.ffc_term.specs.declared.node.Node.{Node}
use Rattle.ffc_term.specs.declared.node.Node.TheVariants.{True, False, BoolConst, FieldConst, Num, Not, And, Or, Iff, Xor, IteBool, IteField, Eq, Add, Mul, Neg, Bitsum}
use Rattle.ffc_term.specs.Nodes.{IsNodeAt, children}
use Rattle.ffc_term.specs.Tables.{IsTable, IsBooleanAt, second_equality}
use Rattle.ffc_term.specs.Checks.{IsNodeOf, AreNodesOf}
use Rattle.ffc_term.specs.Checks.IsNodeOf.{listed, child, first, second}
use Rattle.ffc_clause.specs.Clauses.{Literal, Clause, plus, minus}
use Rattle.ffc_clause.specs.Propagation.Propagates.{unit}
use Rattle.ffc_rules.specs.Cones.{is_listed, reached, is_equality_among, cone}
use Rattle.ffc_rules.specs.Entries.{NodeCheck}
use Rattle.ffc_rules.specs.Laws.{IsValid}
use Rattle.ffc_rules.specs.Schemes.{schemes, schemes_at, scheme_clause, all_schemes}
use Rattle.ffc_rules.proofs.ConeLemmas.{cone_nodes, listed-from_Contains, Contains-from_listed}
use Rattle.ffc_refutation.specs.declared.reason.Reason.TheVariants.{Assertion, Scheme}
use Rattle.ffc_refutation.specs.Forcing.{reason_clause}
use Rattle.ffc_encode.specs.declared.clauses.NodeClause.{NodeClause}
use Rattle.ffc_encode.specs.Clauses.{clause_of, clause_if, clauses_at, node_clauses}
use Rattle.ffc_encode.specs.Listing.{indexed, numbered}
use Rattle.ffc_encode.proofs.ListingLemmas.{clauses_listed, schemes_of_node}
use Rattle.ffc_bounds.specs.Forced.{scheme_clauses_at, check_clauses, IsForced}
use Rattle.ffc_bounds.proofs.ForcedLemmas.{all_at, all_from}
use Rattle.ffc_propagation.specs.Forcing.{IsGiven, IsGivenClause}
use Rattle.ffc_propagation.specs.Settling.{clauses_of}
use Rattle.ffc_propagation.specs.Trails.{IsWithin}

-- ---- lists

contains_at : {X : Type 0} (xs : List X) (k : ℕ) (x : X) → slice_get xs k ≡ Some x → Contains xs x
contains_at xs k x at = (k, slice_get_within xs k x at, get_or_from_slice_get xs k x x at)

contains_mapped : {X Y : Type 0} (f : X → Y) (xs : List X) (k : ℕ) (d : X) → k < length xs → Contains (map f xs) (f (get_or xs k d))
contains_mapped f xs k d inside =
    contains_at (map f xs) k (f (get_or xs k d)) (slice_get-map f xs k ∙ ap (option_map f) (slice_get-get_or xs k d inside))

map-append : {X Y : Type 0} (f : X → Y) (xs ys : List X) → map f (xs ++ ys) ≡ map f xs ++ map f ys
map-append f [] ys = refl
map-append f (x ∷ xs) ys = ap (λ zs. f x ∷ zs) (map-append f xs ys)

pub all_append : {X : Type 0} (p : X → Bool) (xs ys : List X) → list_all p xs ≡ true → list_all p ys ≡ true → list_all p (xs ++ ys) ≡ true
all_append p [] ys one two = two
all_append p (x ∷ xs) ys one two =
    let parts = and_parts (p x) (list_all p xs) one in
    and_from (p x) (list_all p (xs ++ ys)) parts.0 (all_append p xs ys parts.1 two)

all_flat : {X Y : Type 0} (p : Y → Bool) (f : X → List Y) (xs : List X) → ((x : X) → Contains xs x → list_all p (f x) ≡ true) → list_all p (flat_map f xs) ≡ true
all_flat p f [] each = refl
all_flat p f (x ∷ xs) each = all_append p (f x) (flat_map f xs) (each x (0, omega arith, refl)) (all_flat p f xs (λ y has. each y (Contains-append_right (x ∷ []) xs y has)))

All_flat : {X Y : Type 0} (P : Y → Type 0) (f : X → List Y) (xs : List X) → ((x : X) → Contains xs x → All P (f x)) → All P (flat_map f xs)
All_flat P f [] each = All-nil P
All_flat P f (x ∷ xs) each = All-append P (f x) (flat_map f xs) (each x (0, omega arith, refl)) (All_flat P f xs (λ y has. each y (Contains-append_right (x ∷ []) xs y has)))

-- ---- the clauses of nodes

clauses_indexed : (v scheme k : ℕ) (clauses : List Clause) → clauses_of (indexed v scheme k clauses) ≡ clauses
clauses_indexed v scheme k [] = refl
clauses_indexed v scheme k (clause ∷ clauses) = ap (λ cs. clause ∷ cs) (clauses_indexed v scheme (k + 1) clauses)

clauses_numbered : (v k : ℕ) (ss : List (List Clause)) → clauses_of (numbered v k ss) ≡ flat_map (λ clauses. clauses) ss
clauses_numbered v k [] = refl
clauses_numbered v k (s ∷ ss) =
    map-append (λ c. c.lits) (indexed v k 0 s) (numbered v (k + 1) ss) ∙ ap₂ (λ a b. a ++ b) (clauses_indexed v k 0 s) (clauses_numbered v (k + 1) ss)

module _ (c : NodeCheck) where
  pub clauses_are : (ids : List ℕ) → clauses_of (node_clauses c.nodes ids) ≡ flat_map (scheme_clauses_at c) ids
  clauses_are [] = refl
  clauses_are (id ∷ ids) =
      map-append (λ k. k.lits) (clauses_at c.nodes id) (node_clauses c.nodes ids)
      ∙ ap₂ (λ a b. a ++ b) (ap clauses_of (clauses_listed c.nodes id) ∙ clauses_numbered id 0 (schemes_at c.nodes id)) (clauses_are ids)

  -- the nodes of a check are in the table
  pub cone_within : All (λ id. id < length c.nodes) (cone c.nodes c.in_force)
  unfolding cone
  cone_within =
      All-filter (λ id. is_listed (reached c.in_force 0 c.nodes) id || is_equality_among c.nodes (reached c.in_force 0 c.nodes) id) (λ id. id < length c.nodes) (range_with_len 0 (length c.nodes))
      (λ k d inside.
      let long = length-range_with_len 0 (length c.nodes) in
      let at = get_or-range_with_len 0 (length c.nodes) k d (omega arith) in
      omega arith)

  -- ---- what gives them

  pub assertion_given : (k id : ℕ) → slice_get c.in_force k ≡ Some id → IsGiven c (Assertion k) (plus id ∷ [])
  assertion_given k id at = record {
    given = ap (option_map (λ i. plus i ∷ [])) at;
    listed = Contains-append_left (map (λ i. plus i ∷ []) c.in_force) (flat_map (scheme_clauses_at c) (cone c.nodes c.in_force)) (plus id ∷ [])
        (contains_at (map (λ i. plus i ∷ []) c.in_force) k (plus id ∷ []) (slice_get-map (λ i. plus i ∷ []) c.in_force k ∙ ap (option_map (λ i. plus i ∷ [])) at));
  }

  abbrev Gives : NodeClause → Type 0
  Gives k = reason_clause c (Scheme k.node k.scheme k.index) ≡ Some k.lits

  given_if : (v scheme index : ℕ) (o : Option Clause) → v < length c.nodes → scheme_clause c.nodes v scheme index ≡ o → All Gives (clause_if v scheme index o)
  given_if v scheme index None inside e = All-nil Gives
  given_if v scheme index (Some lits) inside e =
      All-cons Gives (clause_of v scheme index lits) []
      (ap (λ b. cond b (scheme_clause c.nodes v scheme index) None) (lt-ltb v (length c.nodes) inside) ∙ e) (All-nil Gives)

  all_give : (ids : List ℕ) → All (λ id. id < length c.nodes) ids → All Gives (node_clauses c.nodes ids)
  all_give ids within =
      All_flat Gives (clauses_at c.nodes) ids (λ v has.
      All_flat Gives (λ s. clause_if v s.0 s.1 (scheme_clause c.nodes v s.0 s.1)) (all_schemes c.nodes v) (λ s _.
      given_if v s.0 s.1 (scheme_clause c.nodes v s.0 s.1) (All-contains (λ id. id < length c.nodes) ids v within has) refl))

  pub all_given : All (IsGivenClause c) (node_clauses c.nodes (cone c.nodes c.in_force))
  all_given k d inside =
      let xs = node_clauses c.nodes (cone c.nodes c.in_force) in
      record {
        given = all_give (cone c.nodes c.in_force) cone_within k d inside;
        listed = Contains-append_right (map (λ i. plus i ∷ []) c.in_force) (flat_map (scheme_clauses_at c) (cone c.nodes c.in_force)) (get_or xs k d).lits
            (subst (λ cs. Contains cs (get_or xs k d).lits) (clauses_are (cone c.nodes c.in_force)) (contains_mapped (λ x. x.lits) xs k d inside));
      }

-- ---- the nodes of the literals

module _ (test : ℕ → Bool) where
  -- each node of a clause passes
  abbrev passes : Clause → Bool
  passes clause = list_all (λ l. test l.1) clause

  pairs_pass : (a b : Bool) (v : ℕ) (ids : List ℕ) → test v ≡ true → list_all test ids ≡ true → list_all passes (map (λ i. (a, v) ∷ (b, i) ∷ []) ids) ≡ true
  pairs_pass a b v [] own all = refl
  pairs_pass a b v (i ∷ ids) own all =
      let parts = and_parts (test i) (list_all test ids) all in
      and_from _ _ (and_from (test v) _ own (and_from (test i) true parts.0 refl)) (pairs_pass a b v ids own parts.1)

  literals_pass : (b : Bool) (ids : List ℕ) → list_all test ids ≡ true → passes (map (λ i. (b, i)) ids) ≡ true
  literals_pass b [] all = refl
  literals_pass b (i ∷ ids) all = let parts = and_parts (test i) (list_all test ids) all in and_from (test i) _ parts.0 (literals_pass b ids parts.1)

  two : (x y : ℕ) → test x ≡ true → test y ≡ true → (test x && (test y && true)) ≡ true
  two x y a b = and_from (test x) _ a (and_from (test y) true b refl)

  three : (x y z : ℕ) → test x ≡ true → test y ≡ true → test z ≡ true → (test x && (test y && (test z && true))) ≡ true
  three x y z a b c = and_from (test x) _ a (two y z b c)

  -- one clause, and the clauses of one scheme
  alone : (b : Bool) → b ≡ true → (b && true) ≡ true
  alone b e = and_from b true e refl

  four_schemes : (a b c d : Bool) → a ≡ true → b ≡ true → c ≡ true → d ≡ true → ((a && true) && ((b && true) && ((c && true) && ((d && true) && true)))) ≡ true
  four_schemes a b c d p q r s = and_from _ _ (alone a p) (and_from _ _ (alone b q) (and_from _ _ (alone c r) (alone (d && true) (alone d s))))

  two_schemes : (a b : Bool) → a ≡ true → b ≡ true → ((a && true) && ((b && true) && true)) ≡ true
  two_schemes a b p q = and_from _ _ (alone a p) (alone (b && true) (alone b q))

  -- the nodes of a node's clauses are the node, its children, and the equalities of an `ite` of field sort
  schemes_pass : (v : ℕ) (n : Node) → test v ≡ true → list_all test (children n) ≡ true → ((c a b : ℕ) → n ≡ IteField c a b → (test (v + 1) ≡ true) × (test (second_equality v a b) ≡ true))
      → list_all (λ s. list_all passes s) (schemes v n) ≡ true
  schemes_pass v True own all after = alone _ (alone _ (alone (test v) own))
  schemes_pass v False own all after = alone _ (alone _ (alone (test v) own))
  schemes_pass v (Not a) own all after =
      let x = (and_parts (test a) true all).0 in
      two_schemes _ _ (two v a own x) (two v a own x)
  schemes_pass v (And ids) own all after = and_from _ _ (pairs_pass false true v ids own all) (alone _ (alone _ (and_from (test v) _ own (literals_pass false ids all))))
  schemes_pass v (Or ids) own all after = and_from _ _ (pairs_pass true false v ids own all) (alone _ (alone _ (and_from (test v) _ own (literals_pass true ids all))))
  schemes_pass v (Iff a b) own all after =
      let parts = and_parts (test a) (test b && true) all in
      let y = (and_parts (test b) true parts.1).0 in
      let t = three v a b own parts.0 y in
      four_schemes _ _ _ _ t t t t
  schemes_pass v (Xor a b) own all after =
      let parts = and_parts (test a) (test b && true) all in
      let y = (and_parts (test b) true parts.1).0 in
      let t = three v a b own parts.0 y in
      four_schemes _ _ _ _ t t t t
  schemes_pass v (IteBool c a b) own all after =
      let parts = and_parts (test c) (test a && (test b && true)) all in
      let more = and_parts (test a) (test b && true) parts.1 in
      let z = (and_parts (test b) true more.1).0 in
      let t = three v c a own parts.0 more.0 in
      let u = three v c b own parts.0 z in
      four_schemes _ _ _ _ t u t u
  schemes_pass v (IteField c a b) own all after =
      let x = (and_parts (test c) (test a && (test b && true)) all).0 in
      let r = after c a b refl in
      two_schemes _ _ (two c (v + 1) x r.0) (two c (second_equality v a b) x r.1)
  schemes_pass v (BoolConst k) own all after = refl
  schemes_pass v (FieldConst k p) own all after = refl
  schemes_pass v (Num n p) own all after = refl
  schemes_pass v (Eq a b) own all after = refl
  schemes_pass v (Add ids) own all after = refl
  schemes_pass v (Mul ids) own all after = refl
  schemes_pass v (Neg a) own all after = refl
  schemes_pass v (Bitsum ids) own all after = refl

module _ (c : NodeCheck) (valid : IsValid c) where
  abbrev in_cone : ℕ → Bool
  in_cone id = is_listed (cone c.nodes c.in_force) id

  active_within : All (λ id. id < length c.nodes) c.in_force
  active_within = All-weaker (IsBooleanAt c.nodes) (λ id. id < length c.nodes) (λ id is. is.0) c.in_force valid.boolean

  are_nodes : AreNodesOf c.nodes c.in_force (cone c.nodes c.in_force)
  are_nodes = cone_nodes c.nodes c.in_force valid.table active_within

  node_in_cone : (id : ℕ) → IsNodeOf c.nodes c.in_force id → in_cone id ≡ true
  node_in_cone id of = listed-from_Contains (cone c.nodes c.in_force) id ((are_nodes.each id).1 of)

  scheme_in_cone : (v : ℕ) → Contains (cone c.nodes c.in_force) v → list_all (passes in_cone) (scheme_clauses_at c v) ≡ true
  scheme_in_cone v has =
      let inside : v < length c.nodes = All-contains (λ id. id < length c.nodes) (cone c.nodes c.in_force) v (cone_within c) has in
      let at : IsNodeAt c.nodes v (get_or c.nodes v True) = slice_get-get_or c.nodes v True inside in
      by_node (get_or c.nodes v True) at
    where
      of : IsNodeOf c.nodes c.in_force v
      of = (are_nodes.each v).0 has

      by_node : (n : Node) → IsNodeAt c.nodes v n → list_all (passes in_cone) (flat_map (λ clauses. clauses) (schemes_at c.nodes v)) ≡ true
      by_node n at =
          let all = schemes_pass in_cone v n (node_in_cone v of)
          (all_from in_cone (children n) (λ i mine. node_in_cone i (child n of at mine)))
          (λ k a b is.
          let there : IsNodeAt c.nodes v (IteField k a b) = subst (IsNodeAt c.nodes v) is at in
          let after = valid.table.equalities v k a b there in
          (node_in_cone (v + 1) (first k a b of there after.0), node_in_cone (second_equality v a b) (second k a b of there after.1))) in
          ap (λ ss. list_all (passes in_cone) (flat_map (λ clauses. clauses) ss)) (schemes_of_node c.nodes v n at)
          ∙ all_flat (passes in_cone) (λ clauses. clauses) (schemes v n) (λ s mine. all_at (λ t. list_all (passes in_cone) t) (schemes v n) s all mine)

  -- each literal of a clause of the check has a node of the check
  pub clauses_in_cone : list_all (passes in_cone) (check_clauses c) ≡ true
  clauses_in_cone =
      all_append (passes in_cone) (map (λ id. plus id ∷ []) c.in_force) (flat_map (scheme_clauses_at c) (cone c.nodes c.in_force))
      (active c.in_force (λ id has. node_in_cone id (listed has)))
      (all_flat (passes in_cone) (scheme_clauses_at c) (cone c.nodes c.in_force) scheme_in_cone)
    where
      active : (ids : List ℕ) → ((id : ℕ) → Contains ids id → in_cone id ≡ true) → list_all (passes in_cone) (map (λ id. plus id ∷ []) ids) ≡ true
      active [] each = refl
      active (id ∷ ids) each = and_from _ _ (alone in_cone (in_cone id) (each id (0, omega arith, refl))) (active ids (λ i has. each i (Contains-append_right (id ∷ []) ids i has)))

  clause_in_cone : (clause : Clause) → Contains (check_clauses c) clause → (l : Literal) → Contains clause l → in_cone l.1 ≡ true
  clause_in_cone clause of l has = all_at (λ m. in_cone m.1) clause l (all_at (passes in_cone) (check_clauses c) clause clauses_in_cone of) has

  -- what is forced is of a node of the check
  pub forced_in_cone : (l : Literal) → IsForced c l → in_cone l.1 ≡ true
  forced_in_cone l (unit clause of has others) = clause_in_cone clause of l has

  -- the clauses of nodes have nodes of the table
  pub clauses_within : All (IsWithin (length c.nodes)) (clauses_of (node_clauses c.nodes (cone c.nodes c.in_force)))
  clauses_within =
      let xs = cone c.nodes c.in_force in
      subst (All (IsWithin (length c.nodes))) (sym (clauses_are c xs)) (λ k d inside i e more.
      let clause = get_or (flat_map (scheme_clauses_at c) xs) k d in
      let of = Contains-append_right (map (λ id. plus id ∷ []) c.in_force) (flat_map (scheme_clauses_at c) xs) clause (Contains-get_or (flat_map (scheme_clauses_at c) xs) k d inside) in
      let l = get_or clause i e in
      All-contains (λ id. id < length c.nodes) xs l.1 (cone_within c) (Contains-from_listed xs l.1 (clause_in_cone clause of l (Contains-get_or clause i e more))))
