-- Orders of field nodes, and values of nodes from those of their children.
use Rattle.std.proofs.Common.{◌≡◌, ℕ, zero, suc, ◌+◌, ◌*◌, ◌^◌, ◌%◌, ◌<◌, ◌≤◌, inl, inr, ⊎_elim, false, not, ◌&&◌, ◌||◌, ◌==◌, if◌then◌else◌, List, [], ◌∷◌, ◌++◌, length, take, set, get_or, fold, slice_get, Some, All, Contains, refl, sym, ap, ap₂, ◌∙◌, subst, arith, length-take, length-set, get_or-take, get_or-set_same, lit<}
use Rattle.std.specs.List.{list_all, list_any}
use Rattle.std.specs.List.Sorted.{IsStrictlyIncreasing}
use Rattle.std.proofs.lemmas.Bool.{cases_lt, cases_eq}
use Rattle.std.proofs.lemmas.List.{take_more, get_or_default}
use Rattle.std.proofs.lemmas.List.Elements.{All-contains, Contains-append_right, Contains-append_left, Contains-push, Contains-push_cases, Contains-get_or}
use Rattle.std.proofs.lemmas.List.Kept.{AllPairs-from_increasing}
use Rattle.std.proofs.lemmas.Option.{slice_get_within, slice_get-get_or, get_or_from_slice_get}
use Rattle.ffc_field.specs.Orders.{IsOrder, order_of_id}
use Rattle.ffc_field.specs.Modular.{neg_mod}
use Rattle.ffc_field.specs.declared.id.FieldId.{FieldId}
use Rattle.ffc_field.specs.declared.id.FieldId.TheVariants.{F2, F3, F5, F17, F65537, BabyBear, KoalaBear, Goldilocks}
use Rattle.ffc_term.specs.declared.node.Node.{Node}
use Rattle.ffc_term.specs.declared.node.Node.TheVariants.{True, False, BoolConst, FieldConst, Num, Not, And, Or, Iff, Xor, IteBool, IteField, Eq, Add, Mul, Neg, Bitsum}
use Rattle.ffc_term.specs.declared.node.Sort.TheVariants as sort
use Rattle.ffc_term.specs.declared.value.Value.{Value}
use Rattle.ffc_term.specs.declared.value.Value.TheVariants as value
use Rattle.ffc_term.specs.Nodes.{IsNodeAt, IsComputed, children, sorts, sort_of_node, order_at, order_of_sort}
use Rattle.ffc_term.specs.Tables.{Fits, IsFieldAt, IsWellFormed, IsTable}
use Rattle.ffc_term.specs.Checks.{IsClosed}
use Rattle.ffc_term.specs.Values.{values, value_at, value_in, truth_in, residue_in, truth, residue, bit_sum_from, value_of_node, is_same_truth, HoldsValues}
use Rattle.ffc_term.proofs.InTurn.{get_or-in_turn, length-in_turn}
use Rattle.ffc_term.proofs.NodeLemmas.{IsNodeAt-get_or}
use Rattle.ffc_term.proofs.TableLemmas.{sort_at-is, sort_at-take}
use Rattle.ffc_term.proofs.WalkLemmas.{child_below}

order_positive : (id : FieldId) → 0 < order_of_id id
order_positive F2 = lit< tt
order_positive F3 = lit< tt
order_positive F5 = lit< tt
order_positive F17 = lit< tt
order_positive F65537 = lit< tt
order_positive BabyBear = lit< tt
order_positive KoalaBear = lit< tt
order_positive Goldilocks = lit< tt

-- an order is not 0
pub IsOrder-positive : (p : ℕ) → IsOrder p → 0 < p
IsOrder-positive p is = subst (λ q. 0 < q) is.1 (order_positive is.0)

boolean_field : (p : ℕ) → ¬ (sort.Bool ≡ sort.Field p)
boolean_field p e = cc

same_field : (p q : ℕ) → sort.Field q ≡ sort.Field p → q ≡ p
same_field p q e = cc

-- the order of a field node that fits, from the orders of the nodes before it
order_from_fit : (ns : List Node) (n : Node) (p : ℕ) → Fits ns n → sort_of_node (sorts ns) n ≡ sort.Field p → ((c : ℕ) → IsFieldAt ns p c → IsOrder p) → IsOrder p
order_from_fit ns (FieldConst k q) p fits is rest = subst IsOrder (same_field p q is) fits
order_from_fit ns (Num n q) p fits is rest = subst IsOrder (same_field p q is) fits.0
order_from_fit ns (IteField c a b) p fits is rest = rest a ((fits.1.each 0 0 (omega arith)).0, is)
order_from_fit ns (Add ids) p fits is rest = rest (get_or ids 0 0) ((fits.each 0 0 fits.some).0, is)
order_from_fit ns (Mul ids) p fits is rest = rest (get_or ids 0 0) ((fits.each 0 0 fits.some).0, is)
order_from_fit ns (Neg a) p fits is rest = rest a ((fits.each 0 0 (omega arith)).0, is)
order_from_fit ns (Bitsum ids) p fits is rest = rest (get_or ids 0 0) ((fits.each 0 0 fits.some).0, is)
order_from_fit ns _ p fits is rest = absurd (boolean_field p is)

order_below : (k : ℕ) (ns : List Node) (id p : ℕ) → id < k → IsWellFormed ns → IsFieldAt ns p id → IsOrder p
order_below zero ns id p below formed is = absurd (omega arith)
order_below (suc k) ns id p below formed is =
    let n = get_or ns id True in
    let at : IsNodeAt ns id n = IsNodeAt-get_or ns id True is.0 in
    order_from_fit (take id ns) n p (formed.fits id n at) (sym (sort_at-is ns id n at) ∙ is.1) (λ c there.
    let short : c < length (take id ns) = there.0 in
    let before : c < id = omega (arith, length-take id ns) in
    order_below k ns c p (omega arith) formed (omega arith, sym (sort_at-take id ns c before) ∙ there.1))

-- the order of a field node is one of the eight
pub IsOrder-from_IsFieldAt : (ns : List Node) (id p : ℕ) → IsWellFormed ns → IsFieldAt ns p id → IsOrder p
IsOrder-from_IsFieldAt ns id p formed is = order_below (suc id) ns id p (omega arith) formed is

pub IsOrder-order_at : (ns : List Node) (id p : ℕ) → IsWellFormed ns → IsFieldAt ns p id → IsOrder (order_at ns id)
IsOrder-order_at ns id p formed is = subst IsOrder (sym (ap order_of_sort is.1)) (IsOrder-from_IsFieldAt ns id p formed is)

-- a node whose value is computed modulo its order is of field sort
computed_field : (ns : List Node) (n : Node) → Fits ns n → IsComputed n → (p : ℕ) × (sort_of_node (sorts ns) n ≡ sort.Field p)
computed_field ns (Add ids) fits is = (fits.order, (fits.each 0 0 fits.some).1)
computed_field ns (Mul ids) fits is = (fits.order, (fits.each 0 0 fits.some).1)
computed_field ns (Neg a) fits is = (fits.order, (fits.each 0 0 (omega arith)).1)
computed_field ns (Bitsum ids) fits is = (fits.order, (fits.each 0 0 fits.some).1)
computed_field ns _ fits is = absurd is

pub IsOrder-computed : (ns : List Node) (id : ℕ) (n : Node) → IsWellFormed ns → IsNodeAt ns id n → IsComputed n → IsOrder (order_at ns id)
IsOrder-computed ns id n formed at is =
    let field = computed_field (take id ns) n (formed.fits id n at) is in
    let there : IsFieldAt ns field.0 id = (slice_get_within ns id n at, sort_at-is ns id n at ∙ field.1) in
    IsOrder-order_at ns id field.0 formed there

module _ (vs ws : List Value) where
  -- two lists of values agree on some nodes
  abbrev pub Agree : List ℕ → Type 0
  Agree ids = (c : ℕ) → Contains ids c → value_in vs c ≡ value_in ws c

  Agree-tail : (x : ℕ) (ids : List ℕ) → Agree (x ∷ ids) → Agree ids
  Agree-tail x ids same c has = same c (Contains-append_right (x ∷ []) ids c has)

  Agree-head : (x : ℕ) (ids : List ℕ) → Agree (x ∷ ids) → value_in vs x ≡ value_in ws x
  Agree-head x ids same = same x (0, omega arith, refl)

  list_all_agree : (ids : List ℕ) → Agree ids → list_all (truth_in vs) ids ≡ list_all (truth_in ws) ids
  list_all_agree [] same = refl
  list_all_agree (x ∷ ids) same = ap₂ (λ a b. a && b) (ap truth (Agree-head x ids same)) (list_all_agree ids (Agree-tail x ids same))

  list_any_agree : (ids : List ℕ) → Agree ids → list_any (truth_in vs) ids ≡ list_any (truth_in ws) ids
  list_any_agree [] same = refl
  list_any_agree (x ∷ ids) same = ap₂ (λ a b. a || b) (ap truth (Agree-head x ids same)) (list_any_agree ids (Agree-tail x ids same))

  fold_agree : (f : ℕ → ℕ → ℕ) (a : ℕ) (ids : List ℕ) → Agree ids → fold (λ b x. f b (residue_in vs x)) a ids ≡ fold (λ b x. f b (residue_in ws x)) a ids
  fold_agree f a [] same = refl
  fold_agree f a (x ∷ ids) same =
      fold_agree f (f a (residue_in vs x)) ids (Agree-tail x ids same) ∙ ap (λ r. fold (λ b y. f b (residue_in ws y)) (f a r) ids) (ap residue (Agree-head x ids same))

  bit_sum_agree : (i : ℕ) (ids : List ℕ) → Agree ids → bit_sum_from i (residue_in vs) ids ≡ bit_sum_from i (residue_in ws) ids
  bit_sum_agree i [] same = refl
  bit_sum_agree i (x ∷ ids) same =
      ap₂ (λ r s. 2 ^ i * r + s) (ap residue (Agree-head x ids same)) (bit_sum_agree (i + 1) ids (Agree-tail x ids same))

  truth_agree : (c : ℕ) → value_in vs c ≡ value_in ws c → truth_in vs c ≡ truth_in ws c
  truth_agree c e = ap truth e

  residue_agree : (c : ℕ) → value_in vs c ≡ value_in ws c → residue_in vs c ≡ residue_in ws c
  residue_agree c e = ap residue e

  -- a node's value depends on the values of its children alone
  pub value_of_node-agree : (p : ℕ) (assignment : List Value) (n : Node) → Agree (children n) → value_of_node p assignment vs n ≡ value_of_node p assignment ws n
  value_of_node-agree p A True same = refl
  value_of_node-agree p A False same = refl
  value_of_node-agree p A (BoolConst k) same = refl
  value_of_node-agree p A (FieldConst k q) same = refl
  value_of_node-agree p A (Num n q) same = refl
  value_of_node-agree p A (Not a) same = ap (λ v. value.Bool (not (truth v))) (same a (0, omega arith, refl))
  value_of_node-agree p A (And ids) same = ap value.Bool (list_all_agree ids same)
  value_of_node-agree p A (Or ids) same = ap value.Bool (list_any_agree ids same)
  value_of_node-agree p A (Iff a b) same = ap₂ (λ v w. value.Bool (is_same_truth (truth v) (truth w))) (same a (0, omega arith, refl)) (same b (1, omega arith, refl))
  value_of_node-agree p A (Xor a b) same = ap₂ (λ v w. value.Bool (not (is_same_truth (truth v) (truth w)))) (same a (0, omega arith, refl)) (same b (1, omega arith, refl))
  value_of_node-agree p A (IteBool c a b) same =
      ap₂ (λ v w. value.Bool (if truth v then truth w else truth_in vs b)) (same c (0, omega arith, refl)) (same a (1, omega arith, refl)) ∙ ap (λ v. value.Bool (if truth_in ws c then truth_in ws a else truth v)) (same b (2, omega arith, refl))
  value_of_node-agree p A (IteField c a b) same =
      ap₂ (λ v w. value.Field (if truth v then residue w else residue_in vs b)) (same c (0, omega arith, refl)) (same a (1, omega arith, refl)) ∙ ap (λ v. value.Field (if truth_in ws c then residue_in ws a else residue v)) (same b (2, omega arith, refl))
  value_of_node-agree p A (Eq a b) same = ap₂ (λ v w. value.Bool (residue v == residue w)) (same a (0, omega arith, refl)) (same b (1, omega arith, refl))
  value_of_node-agree p A (Add ids) same = ap (λ s. value.Field (s % p)) (fold_agree (λ a x. a + x) 0 ids same)
  value_of_node-agree p A (Mul ids) same = ap (λ s. value.Field (s % p)) (fold_agree (λ a x. a * x) 1 ids same)
  value_of_node-agree p A (Neg a) same = ap (λ v. value.Field (neg_mod p (residue v))) (same a (0, omega arith, refl))
  value_of_node-agree p A (Bitsum ids) same = ap (λ s. value.Field (s % p)) (bit_sum_agree 0 ids same)

pub length-values : (ns : List Node) (A : List Value) → length (values ns A) ≡ length ns
unfolding values
length-values ns A = length-in_turn (λ found n. value_of_node (order_at ns (length found)) A found n) ns

value_at_turn : (ns : List Node) (A : List Value) (id : ℕ) (n : Node) → IsNodeAt ns id n → value_at ns A id ≡ value_of_node (order_at ns (length (take id (values ns A)))) A (take id (values ns A)) n
unfolding values
value_at_turn ns A id n at = get_or-in_turn (λ found m. value_of_node (order_at ns (length found)) A found m) ns id n (value.Bool false) at

-- the value of a node from those of the nodes before it
value_at_front : (ns : List Node) (A : List Value) (id : ℕ) (n : Node) → IsNodeAt ns id n → value_at ns A id ≡ value_of_node (order_at ns id) A (take id (values ns A)) n
value_at_front ns A id n at =
    let inside : id < length ns = slice_get_within ns id n at in
    let long : length (take id (values ns A)) ≡ id = omega (arith, length-take id (values ns A), length-values ns A) in
    value_at_turn ns A id n at ∙ ap (λ k. value_of_node (order_at ns k) A (take id (values ns A)) n) long

-- the value of a node is that of its variant, from the values of its children
pub value_at-is : (ns : List Node) (A : List Value) (id : ℕ) (n : Node) → IsWellFormed ns → IsNodeAt ns id n → value_at ns A id ≡ value_of_node (order_at ns id) A (values ns A) n
value_at-is ns A id n formed at =
    value_at_front ns A id n at ∙ value_of_node-agree (take id (values ns A)) (values ns A) (order_at ns id) A n (λ c has.
    get_or-take id (values ns A) c (value.Bool false) (child_below ns id c n formed at has))

-- a list that holds the values of a node's children gives the node's value
pub value_at-from_children : (ns : List Node) (A known : List Value) (id : ℕ) (n : Node) → IsWellFormed ns → IsNodeAt ns id n → ((c : ℕ) → Contains (children n) c → slice_get known c ≡ Some (value_at ns A c)) → value_of_node (order_at ns id) A known n ≡ value_at ns A id
value_at-from_children ns A known id n formed at found =
    value_of_node-agree known (values ns A) (order_at ns id) A n (λ c has. get_or_from_slice_get known c (value_at ns A c) (value.Bool false) (found c has)) ∙ sym (value_at-is ns A id n formed at)

slice_get-set_other : (xs : List Value) (i k : ℕ) (v : Value) → ¬ (k ≡ i) → slice_get (set xs i v) k ≡ slice_get xs k
slice_get-set_other [] i k v other = refl
slice_get-set_other (x ∷ xs) zero zero v other = absurd (other refl)
slice_get-set_other (x ∷ xs) zero (suc k) v other = refl
slice_get-set_other (x ∷ xs) (suc i) zero v other = refl
slice_get-set_other (x ∷ xs) (suc i) (suc k) v other = slice_get-set_other xs i k v (λ e. other (ap suc e))

-- one more value
pub HoldsValues-more : (ns : List Node) (A : List Value) (nodes : List ℕ) (i : ℕ) (old new : List Value) (v : Value) → i < length nodes → get_or nodes i 0 < length new → HoldsValues ns A (take i nodes) old new → v ≡ value_at ns A (get_or nodes i 0) → HoldsValues ns A (take (i + 1) nodes) old (set new (get_or nodes i 0) v)
HoldsValues-more ns A nodes i old new v inside within found is =
    let x : ℕ = get_or nodes i 0 in
    let front : take (i + 1) nodes ≡ take i nodes ++ x ∷ [] = take_more nodes i 0 inside in
    let here : slice_get (set new x v) x ≡ Some (value_at ns A x) = slice_get-get_or (set new x v) x v (omega (arith, length-set new x v)) ∙ ap Some (get_or-set_same new x v v within ∙ is) in
    rw front (record {
      long = length-set new x v ∙ found.long;
      written = λ id has. elim (cases_eq id x) as (λ _. slice_get (set new x v) id ≡ Some (value_at ns A id)) [
        | inl same ↦ subst (λ k. slice_get (set new x v) k ≡ Some (value_at ns A k)) (sym same) here
        | inr other ↦ slice_get-set_other new x id v other ∙ found.written id (⊎_elim (λ before. before) (λ e. absurd (other (sym e))) (Contains-push_cases (take i nodes) x id has))
      ];
      kept = λ id none. elim (cases_eq id x) as (λ _. slice_get (set new x v) id ≡ slice_get old id) [
        | inl same ↦ absurd (none (subst (Contains (take i nodes ++ x ∷ [])) (sym same) (Contains-push (take i nodes) x)))
        | inr other ↦ slice_get-set_other new x id v other ∙ found.kept id (λ before. none (Contains-append_left (take i nodes) (x ∷ []) id before))
      ];
    })

late : (nodes : List ℕ) (i c : ℕ) → IsStrictlyIncreasing nodes → i < length nodes → (has : Contains nodes c) → i ≤ has.0 → ¬ (c < get_or nodes i 0)
late nodes i c rises inside has after below =
    let read : get_or nodes has.0 0 ≡ c = get_or_default nodes has.0 0 c has.1 ∙ has.2 in
    elim (cases_eq i has.0) as (λ _. ⊥) [
      | inl same ↦ let e : get_or nodes i 0 ≡ c = ap (λ k. get_or nodes k 0) same ∙ read in omega arith
      | inr other ↦ let less : get_or nodes i 0 < get_or nodes has.0 0 = AllPairs-from_increasing nodes rises i has.0 0 (omega arith) has.1 in omega arith
    ]

-- in an increasing list a smaller number comes before
pub Contains-take : (nodes : List ℕ) (i c : ℕ) → IsStrictlyIncreasing nodes → i < length nodes → Contains nodes c → c < get_or nodes i 0 → Contains (take i nodes) c
Contains-take nodes i c rises inside has below =
    elim (cases_lt has.0 i) as (λ _. Contains (take i nodes) c) [
      | inl before ↦ (has.0, omega (arith, length-take i nodes, has.1), get_or-take i nodes has.0 c before ∙ has.2)
      | inr after ↦ absurd (late nodes i c rises inside has after below)
    ]

-- the children of the nodes of a closed list are in the table
pub closed_children_within : (ns : List Node) (nodes : List ℕ) (i len : ℕ) (n : Node) → IsClosed ns nodes → i < length nodes → len ≡ length ns → IsNodeAt ns (get_or nodes i 0) n → All (λ c. c < len) (children n)
closed_children_within ns nodes i len n closed inside long at k d within =
    let c : ℕ = get_or (children n) k d in
    let has : Contains nodes c = closed.closed (get_or nodes i 0) c n (Contains-get_or nodes i 0 inside) at (Contains-get_or (children n) k d within) in
    subst (λ m. c < m) (sym long) (All-contains (λ id. id < length ns) nodes c closed.within has)

-- the next node of a closed list gets its value from those of the nodes before it
pub next_value : (ns : List Node) (A : List Value) (nodes : List ℕ) (i : ℕ) (old out : List Value) (v : Value) → IsClosed ns nodes → IsTable ns → i < length nodes → HoldsValues ns A (take i nodes) old out → ((n : Node) → IsNodeAt ns (get_or nodes i 0) n → v ≡ value_of_node (order_at ns (get_or nodes i 0)) A out n) → v ≡ value_at ns A (get_or nodes i 0)
next_value ns A nodes i old out v closed table inside found is =
    let x : ℕ = get_or nodes i 0 in
    let n : Node = get_or ns x True in
    let at : IsNodeAt ns x n = IsNodeAt-get_or ns x True (closed.within i 0 inside) in
    let known = λ (c : ℕ) (has : Contains (children n) c).
    found.written c (Contains-take nodes i c closed.increasing inside (closed.closed x c n (Contains-get_or nodes i 0 inside) at has) (child_below ns x c n table.well_formed at has)) in
    is n at ∙ value_at-from_children ns A out x n table.well_formed at known

-- one more node of a closed list is evaluated
pub eval_step : (ns : List Node) (A : List Value) (nodes : List ℕ) (i : ℕ) (old out : List Value) (v : Value) → IsClosed ns nodes → IsTable ns → length old ≡ length ns → i < length nodes → HoldsValues ns A (take i nodes) old out → ((n : Node) → IsNodeAt ns (get_or nodes i 0) n → v ≡ value_of_node (order_at ns (get_or nodes i 0)) A out n) → HoldsValues ns A (take (i + 1) nodes) old (set out (get_or nodes i 0) v)
eval_step ns A nodes i old out v closed table long inside found is =
    let x : ℕ = get_or nodes i 0 in
    HoldsValues-more ns A nodes i old out v inside (subst (λ m. x < m) (sym (found.long ∙ long)) (closed.within i 0 inside)) found (next_value ns A nodes i old out v closed table inside found is)
