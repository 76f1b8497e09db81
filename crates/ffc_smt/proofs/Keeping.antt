-- Every node that a term makes means the term.
use Rattle.std.proofs.Common.{◌≡◌, ℕ, ◌<◌, ◌&&◌, ◌||◌, not, if◌then◌else◌, Bool, true, false, List, [], ◌∷◌, ◌++◌, Some, None, Option, zip, unwrap_or, refl, sym, ap, ap₂, ◌∙◌, subst, arith}
use Rattle.std.specs.List.{list_all}
use Rattle.std.specs.Str.{bytes_eq}
use Rattle.ffc_term.specs.declared.node.Node.{Node}
use Rattle.ffc_term.specs.declared.node.Node.TheVariants as node
use Rattle.ffc_term.specs.declared.node.Sort.{Sort}
use Rattle.ffc_term.specs.declared.node.Sort.TheVariants as sort
use Rattle.ffc_term.specs.declared.value.Value.{Value}
use Rattle.ffc_term.specs.Nodes.{IsNodeAt, sort_at}
use Rattle.ffc_term.specs.Tables.{IsWellFormed}
use Rattle.ffc_smt.specs.Terms.{Name, Operator, Not, And, Or, Xor, Implies, Equal, Distinct, Ite, Add, Mul, Neg, Bitsum, Term, Truth, Number, Constant, Variable, Defined, Applied, Let, Called, Terms, NoTerm, AndTerm}
use Rattle.ffc_smt.specs.Meaning.{Env, found, Element, TruthValue, truth, is_equal, are_neighbours_equal, are_distinct, exclusive_or, xor_left, implied, applied, constant_value, residue_of_number, val, vals}
use Rattle.ffc_smt.specs.Making.{Made, AllMade, interned, placeholder, constant_node, equality_of, equality, neighbours, difference, differences_from, differences, exclusive, implication, implications, choice, conjoined, applied_made, variable_made, truth_node, made, all_made}
use Rattle.ffc_smt.specs.Law.{Means, Agree}
use Rattle.ffc_smt.proofs.Extends.{Extends, extends_further, means_stays, front_well_formed, interned_extends, interned_at, equality_extends, difference_extends, implication_extends, neighbours_extend, differences_from_extend, differences_extend, exclusive_extends, implications_extend, applied_extends, made_extends, all_made_extends}
use Rattle.ffc_smt.proofs.NodeMeanings.{AllMean, true_means, false_means, bool_constant_means, field_constant_means, number_means, not_means, and_means, or_means, xor_means, equality_means, bool_ite_means, field_ite_means, add_means, mul_means, neg_means, bitsum_means}

module _ (A : List Value) where
  pub all_mean_stays : (ids : List ℕ) (xs : List Element) (old new : List Node) → Extends old new → AllMean old A ids xs → AllMean new A ids xs
  all_mean_stays [] [] old new further h = tt
  all_mean_stays [] (x ∷ xs) old new further h = absurd h
  all_mean_stays (a ∷ ids) [] old new further h = absurd h
  all_mean_stays (a ∷ ids) (x ∷ xs) old new further h = (means_stays old new A a x further h.0, all_mean_stays ids xs old new further h.1)

  all_mean_append : (ids : List ℕ) (xs : List Element) (more : List ℕ) (ys : List Element) (ns : List Node) → AllMean ns A ids xs → AllMean ns A more ys → AllMean ns A (ids ++ more) (xs ++ ys)
  all_mean_append [] [] more ys ns h g = g
  all_mean_append [] (x ∷ xs) more ys ns h g = absurd h
  all_mean_append (a ∷ ids) [] more ys ns h g = absurd h
  all_mean_append (a ∷ ids) (x ∷ xs) more ys ns h g = (h.0, all_mean_append ids xs more ys ns h.1 g)

  -- a node that was asked for, and whose children mean what they meant
  at_last : (ns : List Node) (n : Node) → IsNodeAt (interned ns n).nodes (interned ns n).id n
  at_last ns n = interned_at ns n

  kept : (ns : List Node) (n : Node) (a : ℕ) (x : Element) → Means ns A a x → Means (interned ns n).nodes A a x
  kept ns n a x h = means_stays ns (interned ns n).nodes A a x (interned_extends ns n) h

  all_kept : (ns : List Node) (n : Node) (ids : List ℕ) (xs : List Element) → AllMean ns A ids xs → AllMean (interned ns n).nodes A ids xs
  all_kept ns n ids xs h = all_mean_stays ids xs ns (interned ns n).nodes (interned_extends ns n) h

  -- no table has the node of a placeholder
  placeholder_absurd : (ns : List Node) → IsWellFormed (placeholder ns).nodes → ⊥
  placeholder_absurd ns formed = let none : 0 < 0 = (formed.fits (placeholder ns).id (node.And []) (interned_at ns (node.And []))).some in omega arith

  abbrev pub MadeMeans : Made → Element → Type 0
  MadeMeans m x = Means m.nodes A m.id x

  no_table : (ns : List Node) (x : Element) → IsWellFormed (placeholder ns).nodes → MadeMeans (placeholder ns) x
  no_table ns x formed = absurd (placeholder_absurd ns formed)

  equality_kept : (ns : List Node) (a b : ℕ) (x y : Element) → Means ns A a x → Means ns A b y → IsWellFormed (equality ns a b).nodes → MadeMeans (equality ns a b) (TruthValue (is_equal x y))
  unfolding equality
  equality_kept ns a b x y g h formed =
      let n = equality_of (sort_at ns a) a b in
      equality_means (interned ns n).nodes A formed (interned ns n).id a b x y
      (subst (λ s. IsNodeAt (interned ns n).nodes (interned ns n).id (equality_of s a b)) g.sort (at_last ns n)) (kept ns n a x g) (kept ns n b y h)

  difference_kept : (ns : List Node) (a b : ℕ) (x y : Element) → Means ns A a x → Means ns A b y → IsWellFormed (difference ns a b).nodes → MadeMeans (difference ns a b) (TruthValue (not (is_equal x y)))
  unfolding difference
  difference_kept ns a b x y g h formed =
      let e = equality ns a b in
      let n = node.Not e.id in
      let before = front_well_formed e.nodes (interned e.nodes n).nodes (interned_extends e.nodes n) formed in
      not_means (interned e.nodes n).nodes A formed (interned e.nodes n).id e.id (TruthValue (is_equal x y)) (at_last e.nodes n)
      (kept e.nodes n e.id _ (equality_kept ns a b x y g h before))

  -- each beside the next
  abbrev neighbour_elements : Element → List Element → List Element
  neighbour_elements x [] = []
  neighbour_elements x (y ∷ rest) = TruthValue (is_equal x y) ∷ neighbour_elements y rest

  neighbour_truth : (x : Element) (ys : List Element) → list_all truth (neighbour_elements x ys) ≡ are_neighbours_equal (x ∷ ys)
  neighbour_truth x [] = refl
  neighbour_truth x (y ∷ rest) = ap (λ b. is_equal x y && b) (neighbour_truth y rest)

  neighbours_kept : (ids : List ℕ) (ys : List Element) (ns : List Node) (a : ℕ) (x : Element) → Means ns A a x → AllMean ns A ids ys → IsWellFormed (neighbours ns a ids).nodes
      → AllMean (neighbours ns a ids).nodes A (neighbours ns a ids).ids (neighbour_elements x ys)
  unfolding neighbours
  neighbours_kept [] [] ns a x g h formed = tt
  neighbours_kept [] (y ∷ ys) ns a x g h formed = absurd h
  neighbours_kept (b ∷ ids) [] ns a x g h formed = absurd h
  neighbours_kept (b ∷ ids) (y ∷ ys) ns a x g h formed =
      let e = equality ns a b in
      let further = neighbours_extend ids e.nodes b in
      let before = front_well_formed e.nodes (neighbours e.nodes b ids).nodes further formed in (
        means_stays e.nodes (neighbours e.nodes b ids).nodes A e.id (TruthValue (is_equal x y)) further (equality_kept ns a b x y g h.0 before),
        neighbours_kept ids ys e.nodes b y (means_stays ns e.nodes A b y (equality_extends ns a b) h.0) (all_mean_stays ids ys ns e.nodes (equality_extends ns a b) h.1) formed,
      )

  abbrev differences_of : Element → List Element → List Element
  differences_of x [] = []
  differences_of x (y ∷ rest) = TruthValue (not (is_equal x y)) ∷ differences_of x rest

  abbrev all_differences : List Element → List Element
  all_differences [] = []
  all_differences (x ∷ rest) = differences_of x rest ++ all_differences rest

  differences_truth : (x : Element) (ys : List Element) → list_all truth (differences_of x ys) ≡ list_all (λ y. not (is_equal x y)) ys
  differences_truth x [] = refl
  differences_truth x (y ∷ rest) = ap (λ b. not (is_equal x y) && b) (differences_truth x rest)

  and_associates : (a b c : Bool) → ((a && b) && c) ≡ (a && (b && c))
  and_associates true b c = refl
  and_associates false b c = refl

  all_append : (xs ys : List Element) → list_all truth (xs ++ ys) ≡ (list_all truth xs && list_all truth ys)
  all_append [] ys = refl
  all_append (x ∷ xs) ys = ap (λ b. truth x && b) (all_append xs ys) ∙ sym (and_associates (truth x) (list_all truth xs) (list_all truth ys))

  all_differences_truth : (xs : List Element) → list_all truth (all_differences xs) ≡ are_distinct xs
  all_differences_truth [] = refl
  all_differences_truth (x ∷ rest) =
      all_append (differences_of x rest) (all_differences rest) ∙ ap₂ (λ b c. b && c) (differences_truth x rest) (all_differences_truth rest)

  differences_from_kept : (ids : List ℕ) (ys : List Element) (ns : List Node) (a : ℕ) (x : Element) → Means ns A a x → AllMean ns A ids ys → IsWellFormed (differences_from ns a ids).nodes
      → AllMean (differences_from ns a ids).nodes A (differences_from ns a ids).ids (differences_of x ys)
  unfolding differences_from
  differences_from_kept [] [] ns a x g h formed = tt
  differences_from_kept [] (y ∷ ys) ns a x g h formed = absurd h
  differences_from_kept (b ∷ ids) [] ns a x g h formed = absurd h
  differences_from_kept (b ∷ ids) (y ∷ ys) ns a x g h formed =
      let d = difference ns a b in
      let further = differences_from_extend ids d.nodes a in
      let before = front_well_formed d.nodes (differences_from d.nodes a ids).nodes further formed in
      let step = difference_extends ns a b in (
        means_stays d.nodes (differences_from d.nodes a ids).nodes A d.id (TruthValue (not (is_equal x y))) further (difference_kept ns a b x y g h.0 before),
        differences_from_kept ids ys d.nodes a x (means_stays ns d.nodes A a x step g) (all_mean_stays ids ys ns d.nodes step h.1) formed,
      )

  differences_kept : (ids : List ℕ) (xs : List Element) (ns : List Node) → AllMean ns A ids xs → IsWellFormed (differences ns ids).nodes
      → AllMean (differences ns ids).nodes A (differences ns ids).ids (all_differences xs)
  unfolding differences
  differences_kept [] [] ns h formed = tt
  differences_kept [] (x ∷ xs) ns h formed = absurd h
  differences_kept (a ∷ ids) [] ns h formed = absurd h
  differences_kept (a ∷ ids) (x ∷ xs) ns h formed =
      let first = differences_from ns a ids in
      let others = differences first.nodes ids in
      let further = differences_extend ids first.nodes in
      let before = front_well_formed first.nodes others.nodes further formed in
      let step = differences_from_extend ids ns a in
      all_mean_append first.ids (differences_of x xs) others.ids (all_differences xs) others.nodes
      (all_mean_stays first.ids (differences_of x xs) first.nodes others.nodes further (differences_from_kept ids xs ns a x h.0 h.1 before))
      (differences_kept ids xs first.nodes (all_mean_stays ids xs ns first.nodes step h.1) formed)

  conjoined_kept : (m : AllMade) (xs : List Element) → IsWellFormed (conjoined m).nodes → AllMean m.nodes A m.ids xs → MadeMeans (conjoined m) (TruthValue (list_all truth xs))
  conjoined_kept m xs formed h =
      and_means (conjoined m).nodes A formed (conjoined m).id m.ids xs (at_last m.nodes (node.And m.ids)) (all_kept m.nodes (node.And m.ids) m.ids xs h)

  exclusive_kept : (ids : List ℕ) (ys : List Element) (ns : List Node) (a : ℕ) (t : Bool) → Means ns A a (TruthValue t) → AllMean ns A ids ys → IsWellFormed (exclusive ns a ids).nodes
      → MadeMeans (exclusive ns a ids) (TruthValue (xor_left t ys))
  unfolding exclusive
  exclusive_kept [] [] ns a t g h formed = g
  exclusive_kept [] (y ∷ ys) ns a t g h formed = absurd h
  exclusive_kept (b ∷ ids) [] ns a t g h formed = absurd h
  exclusive_kept (b ∷ ids) (y ∷ ys) ns a t g h formed =
      let n = node.Xor a b in
      let m = interned ns n in
      let before = front_well_formed m.nodes (exclusive m.nodes m.id ids).nodes (exclusive_extends ids m.nodes m.id) formed in
      exclusive_kept ids ys m.nodes m.id (exclusive_or t (truth y))
      (xor_means m.nodes A before m.id a b (TruthValue t) y (at_last ns n) (kept ns n a (TruthValue t) g) (kept ns n b y h.0))
      (all_kept ns n ids ys h.1) formed

  -- from any first element: the first step makes a truth value of it
  exclusive_all : (ids : List ℕ) (ys : List Element) (ns : List Node) (a b : ℕ) (x y : Element) → Means ns A a x → AllMean ns A (b ∷ ids) (y ∷ ys) → IsWellFormed (exclusive ns a (b ∷ ids)).nodes
      → MadeMeans (exclusive ns a (b ∷ ids)) (TruthValue (xor_left (truth x) (y ∷ ys)))
  unfolding exclusive
  exclusive_all ids ys ns a b x y g h formed =
      let n = node.Xor a b in
      let m = interned ns n in
      let before = front_well_formed m.nodes (exclusive m.nodes m.id ids).nodes (exclusive_extends ids m.nodes m.id) formed in
      exclusive_kept ids ys m.nodes m.id (exclusive_or (truth x) (truth y))
      (xor_means m.nodes A before m.id a b x y (at_last ns n) (kept ns n a x g) (kept ns n b y h.0))
      (all_kept ns n ids ys h.1) formed

  or_false : (a b : Bool) → (a || (b || false)) ≡ (a || b)
  or_false true b = refl
  or_false false true = refl
  or_false false false = refl

  implication_kept : (ns : List Node) (a b : ℕ) (x y : Element) → Means ns A a x → Means ns A b y → IsWellFormed (implication ns a b).nodes
      → MadeMeans (implication ns a b) (TruthValue (not (truth x) || truth y))
  unfolding implication
  implication_kept ns a b x y g h formed =
      let n = node.Not a in
      let m = interned ns n in
      let o = node.Or (m.id ∷ b ∷ []) in
      let last = interned m.nodes o in
      let before = front_well_formed m.nodes last.nodes (interned_extends m.nodes o) formed in
      let z = TruthValue (not (truth x)) in
      subst (λ t. Means last.nodes A last.id (TruthValue t)) (or_false (not (truth x)) (truth y))
      (or_means last.nodes A formed last.id (m.id ∷ b ∷ []) (z ∷ y ∷ []) (at_last m.nodes o)
      (all_kept m.nodes o (m.id ∷ b ∷ []) (z ∷ y ∷ [])
      (not_means m.nodes A before m.id a x (at_last ns n) (kept ns n a x g), (kept ns n b y h, tt))))

  implications_kept : (ids : List ℕ) (ys : List Element) (ns : List Node) (a : ℕ) (x : Element) → Means ns A a x → AllMean ns A ids ys → IsWellFormed (implications ns a ids).nodes
      → (e : Element) × MadeMeans (implications ns a ids) e × (truth e ≡ implied x ys)
  unfolding implications
  implications_kept [] [] ns a x g h formed = (x, g, refl)
  implications_kept [] (y ∷ ys) ns a x g h formed = absurd h
  implications_kept (b ∷ ids) [] ns a x g h formed = absurd h
  implications_kept (b ∷ ids) (y ∷ ys) ns a x g h formed =
      let last = implications ns b ids in
      let before = front_well_formed last.nodes (implication last.nodes a last.id).nodes (implication_extends last.nodes a last.id) formed in
      let rest = implications_kept ids ys ns b y h.0 h.1 before in (
        TruthValue (not (truth x) || truth rest.0),
        implication_kept last.nodes a last.id x rest.0 (means_stays ns last.nodes A a x (implications_extend ids ns b) g) rest.1 formed,
        ap (λ t. not (truth x) || t) rest.2,
      )

  implications_all : (ids : List ℕ) (ys : List Element) (ns : List Node) (a b : ℕ) (x y : Element) → Means ns A a x → AllMean ns A (b ∷ ids) (y ∷ ys) → IsWellFormed (implications ns a (b ∷ ids)).nodes
      → MadeMeans (implications ns a (b ∷ ids)) (TruthValue (implied x (y ∷ ys)))
  unfolding implications
  implications_all ids ys ns a b x y g h formed =
      let last = implications ns b ids in
      let before = front_well_formed last.nodes (implication last.nodes a last.id).nodes (implication_extends last.nodes a last.id) formed in
      let rest = implications_kept ids ys ns b y h.0 h.1 before in
      subst (λ t. MadeMeans (implication last.nodes a last.id) (TruthValue (not (truth x) || t))) rest.2
      (implication_kept last.nodes a last.id x rest.0 (means_stays ns last.nodes A a x (implications_extend ids ns b) g) rest.1 formed)

  choice_by : (s : Sort) (ns : List Node) (c a b : ℕ) (z x y : Element) → Means ns A c z → Means ns A a x → Means ns A b y → IsWellFormed (choice s ns c a b).nodes
      → MadeMeans (choice s ns c a b) (if truth z then x else y)
  choice_by sort.Bool ns c a b z x y f g h formed =
      let n = node.IteBool c a b in
      bool_ite_means (interned ns n).nodes A formed (interned ns n).id c a b z x y (at_last ns n) (kept ns n c z f) (kept ns n a x g) (kept ns n b y h)
  choice_by (sort.Field p) ns c a b z x y f g h formed =
      let n = node.IteField c a b in
      let t = interned ns n in
      let one = node.Eq t.id a in
      let first = interned t.nodes one in
      let two = node.Eq t.id b in
      let second = interned first.nodes two in
      let further = extends_further t.nodes first.nodes second.nodes (interned_extends t.nodes one) (interned_extends first.nodes two) in
      let before = front_well_formed t.nodes second.nodes further formed in
      means_stays t.nodes second.nodes A t.id (if truth z then x else y) further
      (field_ite_means t.nodes A before t.id c a b z x y (at_last ns n) (kept ns n c z f) (kept ns n a x g) (kept ns n b y h))

  abbrev AppliedKept : Operator → List ℕ → List Element → Type 0
  AppliedKept op ids xs = (ns : List Node) → AllMean ns A ids xs → IsWellFormed (applied_made op ns ids).nodes → MadeMeans (applied_made op ns ids) (applied op xs)

  not_kept : (ids : List ℕ) (xs : List Element) → AppliedKept Not ids xs
  unfolding applied_made
  not_kept [] [] ns h formed = no_table ns _ formed
  not_kept [] (x ∷ xs) ns h formed = absurd h
  not_kept (a ∷ ids) [] ns h formed = absurd h
  not_kept (a ∷ []) (x ∷ []) ns h formed = not_means (interned ns (node.Not a)).nodes A formed (interned ns (node.Not a)).id a x (at_last ns _) (kept ns _ a x h.0)
  not_kept (a ∷ []) (x ∷ y ∷ xs) ns h formed = absurd h.1
  not_kept (a ∷ b ∷ ids) (x ∷ []) ns h formed = absurd h.1
  not_kept (a ∷ b ∷ ids) (x ∷ y ∷ xs) ns h formed = no_table ns _ formed

  and_kept : (ids : List ℕ) (xs : List Element) → AppliedKept And ids xs
  unfolding applied_made
  and_kept [] [] ns h formed = no_table ns _ formed
  and_kept [] (x ∷ xs) ns h formed = absurd h
  and_kept (a ∷ ids) [] ns h formed = absurd h
  and_kept (a ∷ ids) (x ∷ xs) ns h formed = and_means (interned ns (node.And (a ∷ ids))).nodes A formed _ (a ∷ ids) (x ∷ xs) (at_last ns _) (all_kept ns _ (a ∷ ids) (x ∷ xs) h)

  or_kept : (ids : List ℕ) (xs : List Element) → AppliedKept Or ids xs
  unfolding applied_made
  or_kept [] [] ns h formed = no_table ns _ formed
  or_kept [] (x ∷ xs) ns h formed = absurd h
  or_kept (a ∷ ids) [] ns h formed = absurd h
  or_kept (a ∷ ids) (x ∷ xs) ns h formed = or_means (interned ns (node.Or (a ∷ ids))).nodes A formed _ (a ∷ ids) (x ∷ xs) (at_last ns _) (all_kept ns _ (a ∷ ids) (x ∷ xs) h)

  xor_kept : (ids : List ℕ) (xs : List Element) → AppliedKept Xor ids xs
  unfolding applied_made
  xor_kept [] [] ns h formed = no_table ns _ formed
  xor_kept [] (x ∷ xs) ns h formed = absurd h
  xor_kept (a ∷ ids) [] ns h formed = absurd h
  xor_kept (a ∷ []) (x ∷ []) ns h formed = no_table ns _ formed
  xor_kept (a ∷ []) (x ∷ y ∷ xs) ns h formed = absurd h.1
  xor_kept (a ∷ b ∷ ids) (x ∷ []) ns h formed = absurd h.1
  xor_kept (a ∷ b ∷ ids) (x ∷ y ∷ xs) ns h formed = exclusive_all ids xs ns a b x y h.0 h.1 formed

  implies_kept : (ids : List ℕ) (xs : List Element) → AppliedKept Implies ids xs
  unfolding applied_made
  implies_kept [] [] ns h formed = no_table ns _ formed
  implies_kept [] (x ∷ xs) ns h formed = absurd h
  implies_kept (a ∷ ids) [] ns h formed = absurd h
  implies_kept (a ∷ []) (x ∷ []) ns h formed = no_table ns _ formed
  implies_kept (a ∷ []) (x ∷ y ∷ xs) ns h formed = absurd h.1
  implies_kept (a ∷ b ∷ ids) (x ∷ []) ns h formed = absurd h.1
  implies_kept (a ∷ b ∷ ids) (x ∷ y ∷ xs) ns h formed = implications_all ids xs ns a b x y h.0 h.1 formed

  and_true : (b : Bool) → b ≡ (b && true)
  and_true true = refl
  and_true false = refl

  equal_kept : (ids : List ℕ) (xs : List Element) → AppliedKept Equal ids xs
  unfolding applied_made
  equal_kept [] [] ns h formed = no_table ns _ formed
  equal_kept [] (x ∷ xs) ns h formed = absurd h
  equal_kept (a ∷ ids) [] ns h formed = absurd h
  equal_kept (a ∷ []) (x ∷ []) ns h formed = no_table ns _ formed
  equal_kept (a ∷ []) (x ∷ y ∷ xs) ns h formed = absurd h.1
  equal_kept (a ∷ b ∷ ids) (x ∷ []) ns h formed = absurd h.1
  equal_kept (a ∷ b ∷ []) (x ∷ y ∷ []) ns h formed =
      subst (λ t. MadeMeans (equality ns a b) (TruthValue t)) (and_true (is_equal x y)) (equality_kept ns a b x y h.0 h.1.0 formed)
  equal_kept (a ∷ b ∷ []) (x ∷ y ∷ z ∷ xs) ns h formed = absurd h.1.1
  equal_kept (a ∷ b ∷ c ∷ ids) (x ∷ y ∷ []) ns h formed = absurd h.1.1
  equal_kept (a ∷ b ∷ c ∷ ids) (x ∷ y ∷ z ∷ xs) ns h formed =
      let m = neighbours ns a (b ∷ c ∷ ids) in
      let before = front_well_formed m.nodes (conjoined m).nodes (interned_extends m.nodes (node.And m.ids)) formed in
      subst (λ t. MadeMeans (conjoined m) (TruthValue t)) (neighbour_truth x (y ∷ z ∷ xs))
      (conjoined_kept m (neighbour_elements x (y ∷ z ∷ xs)) formed (neighbours_kept (b ∷ c ∷ ids) (y ∷ z ∷ xs) ns a x h.0 h.1 before))

  two_distinct : (b : Bool) → b ≡ ((b && true) && true)
  two_distinct true = refl
  two_distinct false = refl

  distinct_kept : (ids : List ℕ) (xs : List Element) → AppliedKept Distinct ids xs
  unfolding applied_made
  distinct_kept [] [] ns h formed = no_table ns _ formed
  distinct_kept [] (x ∷ xs) ns h formed = absurd h
  distinct_kept (a ∷ ids) [] ns h formed = absurd h
  distinct_kept (a ∷ []) (x ∷ []) ns h formed = no_table ns _ formed
  distinct_kept (a ∷ []) (x ∷ y ∷ xs) ns h formed = absurd h.1
  distinct_kept (a ∷ b ∷ ids) (x ∷ []) ns h formed = absurd h.1
  distinct_kept (a ∷ b ∷ []) (x ∷ y ∷ []) ns h formed =
      subst (λ t. MadeMeans (difference ns a b) (TruthValue t)) (two_distinct (not (is_equal x y))) (difference_kept ns a b x y h.0 h.1.0 formed)
  distinct_kept (a ∷ b ∷ []) (x ∷ y ∷ z ∷ xs) ns h formed = absurd h.1.1
  distinct_kept (a ∷ b ∷ c ∷ ids) (x ∷ y ∷ []) ns h formed = absurd h.1.1
  distinct_kept (a ∷ b ∷ c ∷ ids) (x ∷ y ∷ z ∷ xs) ns h formed =
      let m = differences ns (a ∷ b ∷ c ∷ ids) in
      let before = front_well_formed m.nodes (conjoined m).nodes (interned_extends m.nodes (node.And m.ids)) formed in
      subst (λ t. MadeMeans (conjoined m) (TruthValue t)) (all_differences_truth (x ∷ y ∷ z ∷ xs))
      (conjoined_kept m (all_differences (x ∷ y ∷ z ∷ xs)) formed (differences_kept (a ∷ b ∷ c ∷ ids) (x ∷ y ∷ z ∷ xs) ns h before))

  ite_kept : (ids : List ℕ) (xs : List Element) → AppliedKept Ite ids xs
  unfolding applied_made
  ite_kept [] [] ns h formed = no_table ns _ formed
  ite_kept [] (x ∷ xs) ns h formed = absurd h
  ite_kept (a ∷ ids) [] ns h formed = absurd h
  ite_kept (a ∷ []) (x ∷ []) ns h formed = no_table ns _ formed
  ite_kept (a ∷ []) (x ∷ y ∷ xs) ns h formed = absurd h.1
  ite_kept (a ∷ b ∷ ids) (x ∷ []) ns h formed = absurd h.1
  ite_kept (a ∷ b ∷ []) (x ∷ y ∷ []) ns h formed = no_table ns _ formed
  ite_kept (a ∷ b ∷ []) (x ∷ y ∷ z ∷ xs) ns h formed = absurd h.1.1
  ite_kept (a ∷ b ∷ c ∷ ids) (x ∷ y ∷ []) ns h formed = absurd h.1.1
  ite_kept (c ∷ a ∷ b ∷ []) (z ∷ x ∷ y ∷ []) ns h formed = choice_by (sort_at ns a) ns c a b z x y h.0 h.1.0 h.1.1.0 formed
  ite_kept (c ∷ a ∷ b ∷ []) (z ∷ x ∷ y ∷ w ∷ xs) ns h formed = absurd h.1.1.1
  ite_kept (c ∷ a ∷ b ∷ d ∷ ids) (z ∷ x ∷ y ∷ []) ns h formed = absurd h.1.1.1
  ite_kept (c ∷ a ∷ b ∷ d ∷ ids) (z ∷ x ∷ y ∷ w ∷ xs) ns h formed = no_table ns _ formed

  add_kept : (ids : List ℕ) (xs : List Element) → AppliedKept Add ids xs
  unfolding applied_made
  add_kept [] [] ns h formed = no_table ns _ formed
  add_kept [] (x ∷ xs) ns h formed = absurd h
  add_kept (a ∷ ids) [] ns h formed = absurd h
  add_kept (a ∷ ids) (x ∷ xs) ns h formed = add_means (interned ns (node.Add (a ∷ ids))).nodes A formed _ a ids x xs (at_last ns _) (all_kept ns _ (a ∷ ids) (x ∷ xs) h)

  mul_kept : (ids : List ℕ) (xs : List Element) → AppliedKept Mul ids xs
  unfolding applied_made
  mul_kept [] [] ns h formed = no_table ns _ formed
  mul_kept [] (x ∷ xs) ns h formed = absurd h
  mul_kept (a ∷ ids) [] ns h formed = absurd h
  mul_kept (a ∷ ids) (x ∷ xs) ns h formed = mul_means (interned ns (node.Mul (a ∷ ids))).nodes A formed _ a ids x xs (at_last ns _) (all_kept ns _ (a ∷ ids) (x ∷ xs) h)

  neg_kept : (ids : List ℕ) (xs : List Element) → AppliedKept Neg ids xs
  unfolding applied_made
  neg_kept [] [] ns h formed = no_table ns _ formed
  neg_kept [] (x ∷ xs) ns h formed = absurd h
  neg_kept (a ∷ ids) [] ns h formed = absurd h
  neg_kept (a ∷ []) (x ∷ []) ns h formed = neg_means (interned ns (node.Neg a)).nodes A formed (interned ns (node.Neg a)).id a x (at_last ns _) (kept ns _ a x h.0)
  neg_kept (a ∷ []) (x ∷ y ∷ xs) ns h formed = absurd h.1
  neg_kept (a ∷ b ∷ ids) (x ∷ []) ns h formed = absurd h.1
  neg_kept (a ∷ b ∷ ids) (x ∷ y ∷ xs) ns h formed = no_table ns _ formed

  bitsum_kept : (ids : List ℕ) (xs : List Element) → AppliedKept Bitsum ids xs
  unfolding applied_made
  bitsum_kept [] [] ns h formed = no_table ns _ formed
  bitsum_kept [] (x ∷ xs) ns h formed = absurd h
  bitsum_kept (a ∷ ids) [] ns h formed = absurd h
  bitsum_kept (a ∷ ids) (x ∷ xs) ns h formed = bitsum_means (interned ns (node.Bitsum (a ∷ ids))).nodes A formed _ a ids x xs (at_last ns _) (all_kept ns _ (a ∷ ids) (x ∷ xs) h)

  applied_kept : (op : Operator) (ids : List ℕ) (xs : List Element) → AppliedKept op ids xs
  applied_kept Not ids xs = not_kept ids xs
  applied_kept And ids xs = and_kept ids xs
  applied_kept Or ids xs = or_kept ids xs
  applied_kept Xor ids xs = xor_kept ids xs
  applied_kept Implies ids xs = implies_kept ids xs
  applied_kept Equal ids xs = equal_kept ids xs
  applied_kept Distinct ids xs = distinct_kept ids xs
  applied_kept Ite ids xs = ite_kept ids xs
  applied_kept Add ids xs = add_kept ids xs
  applied_kept Mul ids xs = mul_kept ids xs
  applied_kept Neg ids xs = neg_kept ids xs
  applied_kept Bitsum ids xs = bitsum_kept ids xs

  -- Names

  abbrev FoundMean : List Node → Option ℕ → Option Element → Type 0
  FoundMean ns None None = Unit {0}
  FoundMean ns None (Some y) = ⊥
  FoundMean ns (Some x) None = ⊥
  FoundMean ns (Some x) (Some y) = Means ns A x y

  found_by : (ns : List Node) (b : Bool) (x : ℕ) (y : Element) (o : Option ℕ) (p : Option Element) → Means ns A x y → FoundMean ns o p
      → FoundMean ns (if b then Some x else o) (if b then Some y else p)
  found_by ns true x y o p g h = g
  found_by ns false x y o p g h = h

  found_kept : (ids : Env ℕ) (env : Env Element) (ns : List Node) (name : Name) → Agree ns A ids env → FoundMean ns (found ids name) (found env name)
  found_kept [] [] ns name h = tt
  found_kept [] (y ∷ ys) ns name h = absurd h
  found_kept (x ∷ xs) [] ns name h = absurd h
  found_kept (x ∷ xs) (y ∷ ys) ns name h =
      subst (λ n. FoundMean ns (found (x ∷ xs) name) (if bytes_eq n name then Some y.1 else found ys name)) h.0
      (found_by ns (bytes_eq x.0 name) x.1 y.1 (found xs name) (found ys name) h.1 (found_kept xs ys ns name h.2))

  variable_kept : (ns : List Node) (o : Option ℕ) (p : Option Element) → FoundMean ns o p → IsWellFormed (variable_made ns o).nodes → MadeMeans (variable_made ns o) (unwrap_or p (TruthValue false))
  variable_kept ns None None h formed = no_table ns _ formed
  variable_kept ns None (Some y) h formed = absurd h
  variable_kept ns (Some x) None h formed = absurd h
  variable_kept ns (Some x) (Some y) h formed = h

  pub agree_stays : (ids : Env ℕ) (env : Env Element) (old new : List Node) → Extends old new → Agree old A ids env → Agree new A ids env
  agree_stays [] [] old new further h = tt
  agree_stays [] (y ∷ ys) old new further h = absurd h
  agree_stays (x ∷ xs) [] old new further h = absurd h
  agree_stays (x ∷ xs) (y ∷ ys) old new further h = (h.0, means_stays old new A x.1 y.1 further h.1, agree_stays xs ys old new further h.2)

  -- new names in front
  pub zip_agrees : (names : List Name) (ids : List ℕ) (xs : List Element) (more : Env ℕ) (env : Env Element) (ns : List Node) → AllMean ns A ids xs → Agree ns A more env
      → Agree ns A (zip names ids ++ more) (zip names xs ++ env)
  zip_agrees [] ids xs more env ns h g = g
  zip_agrees (n ∷ names) [] [] more env ns h g = g
  zip_agrees (n ∷ names) [] (x ∷ xs) more env ns h g = absurd h
  zip_agrees (n ∷ names) (a ∷ ids) [] more env ns h g = absurd h
  zip_agrees (n ∷ names) (a ∷ ids) (x ∷ xs) more env ns h g = (refl, h.0, zip_agrees names ids xs more env ns h.1 g)

  pub zip_alone : (names : List Name) (ids : List ℕ) (xs : List Element) (ns : List Node) → AllMean ns A ids xs → Agree ns A (zip names ids) (zip names xs)
  zip_alone [] ids xs ns h = tt
  zip_alone (n ∷ names) [] [] ns h = tt
  zip_alone (n ∷ names) [] (x ∷ xs) ns h = absurd h
  zip_alone (n ∷ names) (a ∷ ids) [] ns h = absurd h
  zip_alone (n ∷ names) (a ∷ ids) (x ∷ xs) ns h = (refl, h.0, zip_alone names ids xs ns h.1)

  -- Terms

  truth_kept : (b : Bool) (ns : List Node) → IsWellFormed (interned ns (truth_node b)).nodes → MadeMeans (interned ns (truth_node b)) (TruthValue b)
  truth_kept true ns formed = true_means _ A formed _ (at_last ns node.True)
  truth_kept false ns formed = false_means _ A formed _ (at_last ns node.False)

  constant_kept : (k : ℕ) (s : Sort) (ns : List Node) → IsWellFormed (interned ns (constant_node k s)).nodes → MadeMeans (interned ns (constant_node k s)) (constant_value A k s)
  constant_kept k sort.Bool ns formed = bool_constant_means _ A formed _ k (at_last ns (node.BoolConst k))
  constant_kept k (sort.Field p) ns formed = field_constant_means _ A formed _ k p _ (at_last ns (node.FieldConst k p)) refl

  mutual
    unfolding made val

    pub made_kept : (t : Term) (ids : Env ℕ) (env : Env Element) (ns : List Node) → Agree ns A ids env → IsWellFormed (made ids ns t).nodes → MadeMeans (made ids ns t) (val env A t)
    made_kept (Truth b) ids env ns agree formed = truth_kept b ns formed
    made_kept (Number negative size p) ids env ns agree formed =
        number_means _ A formed _ (residue_of_number negative size p) p (at_last ns (node.Num (residue_of_number negative size p) p))
    made_kept (Constant k s) ids env ns agree formed = constant_kept k s ns formed
    made_kept (Variable name) ids env ns agree formed = variable_kept ns (found ids name) (found env name) (found_kept ids env ns name agree) formed
    made_kept (Defined t) ids env ns agree formed = made_kept t [] [] ns tt formed
    made_kept (Applied op ts) ids env ns agree formed =
        let m = all_made ids ns ts in
        let before = front_well_formed m.nodes (applied_made op m.nodes m.ids).nodes (applied_extends op m.ids m.nodes) formed in
        applied_kept op m.ids (vals env A ts) m.nodes (all_made_kept ts ids env ns agree before) formed
    made_kept (Let names ts t) ids env ns agree formed =
        let m = all_made ids ns ts in
        let before = front_well_formed m.nodes (made (zip names m.ids ++ ids) m.nodes t).nodes (made_extends t (zip names m.ids ++ ids) m.nodes) formed in
        made_kept t (zip names m.ids ++ ids) (zip names (vals env A ts) ++ env) m.nodes
        (zip_agrees names m.ids (vals env A ts) ids env m.nodes (all_made_kept ts ids env ns agree before) (agree_stays ids env ns m.nodes (all_made_extends ts ids ns) agree)) formed
    made_kept (Called names t ts) ids env ns agree formed =
        let m = all_made ids ns ts in
        let before = front_well_formed m.nodes (made (zip names m.ids) m.nodes t).nodes (made_extends t (zip names m.ids) m.nodes) formed in
        made_kept t (zip names m.ids) (zip names (vals env A ts)) m.nodes
        (zip_alone names m.ids (vals env A ts) m.nodes (all_made_kept ts ids env ns agree before)) formed

    pub all_made_kept : (ts : Terms) (ids : Env ℕ) (env : Env Element) (ns : List Node) → Agree ns A ids env → IsWellFormed (all_made ids ns ts).nodes → AllMean (all_made ids ns ts).nodes A (all_made ids ns ts).ids (vals env A ts)
    all_made_kept NoTerm ids env ns agree formed = tt
    all_made_kept (AndTerm t ts) ids env ns agree formed =
        let m = made ids ns t in
        let rest = all_made ids m.nodes ts in
        let further = all_made_extends ts ids m.nodes in
        let before = front_well_formed m.nodes rest.nodes further formed in (
          means_stays m.nodes rest.nodes A m.id (val env A t) further (made_kept t ids env ns agree before),
          all_made_kept ts ids env m.nodes (agree_stays ids env ns m.nodes (made_extends t ids ns) agree) formed,
        )
