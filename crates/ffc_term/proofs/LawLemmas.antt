-- Values have their sorts, stay when nodes come after, and depend on the constants among a check's nodes alone; a check has
-- one list of nodes.
use Rattle.std.proofs.Common.{◌≡◌, ℕ, zero, suc, ◌+◌, ◌*◌, ◌^◌, ◌%◌, ◌-◌, ◌<◌, ◌≤◌, ◌⊎◌, inl, inr, ⊎_elim, Bool, true, false, if◌then◌else◌, nat_lt, min, List, [], ◌∷◌, ◌++◌, length, take, get_or, Contains, refl, sym, ap, ap₂, ◌∙◌, subst, arith, length-take, get_or-take, mod-lt, sum_by, lt-ltb, le-ltb}
use Rattle.std.specs.List.Sorted.{IsStrictlyIncreasing}
use Rattle.std.proofs.lemmas.Bool.{cases_lt, false≢true}
use Rattle.std.proofs.lemmas.List.{take_at, get_or_past, get_or_default}
use Rattle.std.proofs.lemmas.List.Elements.{Contains-append_right, Contains-append_cases, Contains-push_cases}
use Rattle.std.proofs.lemmas.List.Kept.{AllPairs-from_increasing}
use Rattle.ffc_term.specs.declared.node.Node.{Node}
use Rattle.ffc_term.specs.declared.node.Node.TheVariants.{True, False, BoolConst, FieldConst, Num, Not, And, Or, Iff, Xor, IteBool, IteField, Eq, Add, Mul, Neg, Bitsum}
use Rattle.ffc_term.specs.declared.node.Sort.TheVariants as sort
use Rattle.ffc_term.specs.declared.value.Value.{Value}
use Rattle.ffc_term.specs.declared.value.Value.TheVariants as value
use Rattle.ffc_term.specs.Nodes.{IsNodeAt, is_constant, in_turn, sorts, sort_at, sort_of_node, order_at, order_of_sort}
use Rattle.ffc_term.specs.Values.{values, value_at, value_in, truth_in, residue_in, residue, value_of_node, constant_residue, product_by, bit_sum_from}
use Rattle.ffc_term.specs.Tables.{Fits, IsFieldAt, IsWellFormed, IsTable}
use Rattle.ffc_term.specs.Checks.{IsNodeOf, AreNodesOf, AreConstantsOf}
use Rattle.ffc_term.specs.Checks.IsNodeOf.{child}
use Rattle.ffc_term.specs.Measuring.{AreMeasuresOf, span_of}
use Rattle.ffc_term.specs.Laws.{IsOfSort, AgreeAt}
use Rattle.ffc_term.proofs.ListLemmas.{nothing_in}
use Rattle.ffc_term.proofs.InTurn.{in_turn_from-agree, in_turn-take}
use Rattle.ffc_term.proofs.NodeLemmas.{IsNodeAt-get_or}
use Rattle.ffc_term.proofs.TableLemmas.{sort_at-append, sort_at-take, sort_at-is, IsWellFormed-take}
use Rattle.ffc_term.proofs.WalkLemmas.{child_below, brought_within}
use Rattle.ffc_term.proofs.ValueLemmas.{value_at-is, value_of_node-agree, length-values, IsOrder-from_IsFieldAt, IsOrder-positive}

order_at-append : (ns ms : List Node) (id : ℕ) → id < length ns → order_at (ns ++ ms) id ≡ order_at ns id
order_at-append ns ms id inside = ap order_of_sort (sort_at-append ns ms id inside)

-- with further nodes the values of the first ones are stated as before
values_front : (ns ms : List Node) (A : List Value) → take (length ns) (values (ns ++ ms) A) ≡ values ns A
unfolding values
values_front ns ms A =
    let long = λ (known : List Value) (n : Node). value_of_node (order_at (ns ++ ms) (length known)) A known n in
    let short = λ (known : List Value) (n : Node). value_of_node (order_at ns (length known)) A known n in
    sym (in_turn-take long (length ns) (ns ++ ms)) ∙ ap (in_turn long) (take_at ns ms (length ns) refl)
    ∙ in_turn_from-agree long short [] ns (λ xs n within. ap (λ p. value_of_node p A xs n) (order_at-append ns ms (length xs) (omega arith)))

pub value_at-append : (ns ms : List Node) (A : List Value) (id : ℕ) → id < length ns → value_at (ns ++ ms) A id ≡ value_at ns A id
value_at-append ns ms A id inside =
    sym (get_or-take (length ns) (values (ns ++ ms) A) id (value.Bool false) inside) ∙ ap (λ xs. get_or xs id (value.Bool false)) (values_front ns ms A)

-- where a node is no constant its value depends on the assignment by its children alone
value_of_node-other : (p : ℕ) (A B vs : List Value) (n : Node) → is_constant n ≡ false → value_of_node p A vs n ≡ value_of_node p B vs n
value_of_node-other p A B vs (BoolConst k) off = absurd (false≢true (sym off))
value_of_node-other p A B vs (FieldConst k q) off = absurd (false≢true (sym off))
value_of_node-other p A B vs _ off = refl

is_constant_cases : (n : Node) → (is_constant n ≡ true) ⊎ (is_constant n ≡ false)
is_constant_cases (BoolConst k) = inl refl
is_constant_cases (FieldConst k p) = inl refl
is_constant_cases _ = inr refl

decided_below : (k : ℕ) (ns : List Node) (ids constants : List ℕ) (A B : List Value) → IsTable ns → AreConstantsOf ns ids constants → AgreeAt ns A B constants → (id : ℕ) (n : Node) → id < k → IsNodeAt ns id n → IsNodeOf ns ids id → value_at ns A id ≡ value_at ns B id
decided_below zero ns ids constants A B table are same id n below at of = absurd (omega arith)
decided_below (suc k) ns ids constants A B table are same id n below at of =
    elim (is_constant_cases n) as (λ _. value_at ns A id ≡ value_at ns B id) [
      | inl constant ↦ same id ((are.each id).1 (of, (n, at, constant)))
      | inr other ↦
          value_at-is ns A id n table.well_formed at ∙ value_of_node-other (order_at ns id) A B (values ns A) n other
          ∙ value_of_node-agree (values ns A) (values ns B) (order_at ns id) B n (λ c has.
          let before : c < id = child_below ns id c n table.well_formed at has in
          let inside : c < length ns = brought_within ns id c n table at (inl has) in
          decided_below k ns ids constants A B table are same c (get_or ns c True) (omega arith) (IsNodeAt-get_or ns c True inside) (child n of at has))
          ∙ sym (value_at-is ns B id n table.well_formed at)
    ]

-- two assignments that agree on the constants among a check's nodes agree on all its nodes
pub value_at-decided : (ns : List Node) (ids constants : List ℕ) (A B : List Value) → IsTable ns → AreConstantsOf ns ids constants → AgreeAt ns A B constants → (id : ℕ) → id < length ns → IsNodeOf ns ids id → value_at ns A id ≡ value_at ns B id
value_at-decided ns ids constants A B table are same id inside of =
    decided_below (suc id) ns ids constants A B table are same id (get_or ns id True) (omega arith) (IsNodeAt-get_or ns id True inside) of

-- a node past the end has the value false
past_end : (ns : List Node) (A : List Value) (id : ℕ) → length ns ≤ id → value_at ns A id ≡ value.Bool false
past_end ns A id past = get_or_past (values ns A) id (value.Bool false) (omega (arith, length-values ns A))

pub constants_decide : (ns : List Node) (ids constants : List ℕ) (A B : List Value) → IsTable ns → AreConstantsOf ns ids constants → AgreeAt ns A B constants → (id : ℕ) → IsNodeOf ns ids id → value_at ns A id ≡ value_at ns B id
constants_decide ns ids constants A B table are same id of =
    elim (cases_lt id (length ns)) as (λ _. value_at ns A id ≡ value_at ns B id) [
      | inl inside ↦ value_at-decided ns ids constants A B table are same id inside of
      | inr past ↦ past_end ns A id past ∙ sym (past_end ns B id past)
    ]

-- a residue of a value of a field sort
residue_below : (p : ℕ) (v : Value) → IsOfSort (sort.Field p) v → residue v < p
residue_below p (value.Bool b) is = absurd is
residue_below p (value.Field n) is = is

below_or_zero : (r p : ℕ) → 0 < p → (if nat_lt r p then r else 0) < p
below_or_zero r p positive =
    elim (cases_lt r p) as (λ _. (if nat_lt r p then r else 0) < p) [
      | inl below ↦ rw (lt-ltb r p below) below
      | inr above ↦ rw (le-ltb r p above) positive
    ]

constant_residue_below : (A : List Value) (k p : ℕ) → 0 < p → constant_residue A k p < p
constant_residue_below A k p positive = below_or_zero (residue_in A k) p positive

either_below : (b : Bool) (x y p : ℕ) → x < p → y < p → (if b then x else y) < p
either_below true x y p one two = one
either_below false x y p one two = two

-- what is stated of the children of a node, of their sorts and values
module _ (ns : List Node) (A : List Value) (vs : List Value) (known : (c p : ℕ) → IsFieldAt ns p c → IsOfSort (sort.Field p) (value_in vs c)) (orders : (c p : ℕ) → IsFieldAt ns p c → 0 < p) where
  computed : (c p n : ℕ) → IsFieldAt ns p c → IsOfSort (sort_at ns c) (value.Field (n % order_of_sort (sort_at ns c)))
  computed c p n is = subst (λ s. IsOfSort s (value.Field (n % order_of_sort s))) (sym is.1) (mod-lt n (orders c p is))

  computed_neg : (c p r : ℕ) → IsFieldAt ns p c → IsOfSort (sort_at ns c) (value.Field ((order_of_sort (sort_at ns c) - r) % order_of_sort (sort_at ns c)))
  computed_neg c p r is = subst (λ s. IsOfSort s (value.Field ((order_of_sort s - r) % order_of_sort s))) (sym is.1) (mod-lt (p - r) (orders c p is))

  value_is_of_sort : (n : Node) → Fits ns n → IsOfSort (sort_of_node (sorts ns) n) (value_of_node (order_of_sort (sort_of_node (sorts ns) n)) A vs n)
  value_is_of_sort True fits = tt
  value_is_of_sort False fits = tt
  value_is_of_sort (BoolConst k) fits = tt
  value_is_of_sort (FieldConst k p) fits = constant_residue_below A k p (IsOrder-positive p fits)
  value_is_of_sort (Num n p) fits = fits.1
  value_is_of_sort (Not a) fits = tt
  value_is_of_sort (And ids) fits = tt
  value_is_of_sort (Or ids) fits = tt
  value_is_of_sort (Iff a b) fits = tt
  value_is_of_sort (Xor a b) fits = tt
  value_is_of_sort (IteBool c a b) fits = tt
  value_is_of_sort (IteField c a b) fits =
      let p : ℕ = fits.1.order in
      let left : IsFieldAt ns p a = fits.1.each 0 0 (omega arith) in
      let right : IsFieldAt ns p b = fits.1.each 1 0 (omega arith) in
      subst (λ s. IsOfSort s (value.Field (if truth_in vs c then residue_in vs a else residue_in vs b))) (sym left.1) (either_below (truth_in vs c) (residue_in vs a) (residue_in vs b) p (residue_below p (value_in vs a) (known a p left)) (residue_below p (value_in vs b) (known b p right)))
  value_is_of_sort (Eq a b) fits = tt
  value_is_of_sort (Add ids) fits = computed (get_or ids 0 0) fits.order (sum_by (residue_in vs) ids) (fits.each 0 0 fits.some)
  value_is_of_sort (Mul ids) fits = computed (get_or ids 0 0) fits.order (product_by (residue_in vs) ids) (fits.each 0 0 fits.some)
  value_is_of_sort (Neg a) fits = computed_neg a fits.order (residue_in vs a) (fits.each 0 0 (omega arith))
  value_is_of_sort (Bitsum ids) fits = computed (get_or ids 0 0) fits.order (bit_sum_from 0 (residue_in vs) ids) (fits.each 0 0 fits.some)

of_sort_below : (k : ℕ) (ns : List Node) (A : List Value) (id : ℕ) → IsWellFormed ns → id < k → id < length ns → IsOfSort (sort_at ns id) (value_at ns A id)
of_sort_below zero ns A id formed below inside = absurd (omega arith)
of_sort_below (suc k) ns A id formed below inside =
    let n : Node = get_or ns id True in
    let at : IsNodeAt ns id n = IsNodeAt-get_or ns id True inside in
    let before : List Node = take id ns in
    let is : sort_at ns id ≡ sort_of_node (sorts before) n = sort_at-is ns id n at in
    let short : length before ≡ id = omega (arith, length-take id ns) in
    let known = λ (c p : ℕ) (there : IsFieldAt before p c).
    let early : c < id = omega (arith, there.0, short) in
    subst (λ s. IsOfSort s (value_at ns A c)) (sym (sort_at-take id ns c early) ∙ there.1) (of_sort_below k ns A c formed (omega arith) (omega arith)) in
    let orders = λ (c p : ℕ) (there : IsFieldAt before p c). IsOrder-positive p (IsOrder-from_IsFieldAt before c p (IsWellFormed-take id ns formed) there) in
    let all : IsOfSort (sort_of_node (sorts before) n) (value_of_node (order_of_sort (sort_of_node (sorts before) n)) A (values ns A) n) = value_is_of_sort before A (values ns A) known orders n (formed.fits id n at) in
    subst (λ v. IsOfSort (sort_at ns id) v) (sym (value_at-is ns A id n formed at)) (subst (λ s. IsOfSort s (value_of_node (order_of_sort s) A (values ns A) n)) (sym is) all)

-- the value of each node is of the node's sort
pub value_at-of_sort : (ns : List Node) (A : List Value) (id : ℕ) → IsTable ns → id < length ns → IsOfSort (sort_at ns id) (value_at ns A id)
value_at-of_sort ns A id table inside = of_sort_below (suc id) ns A id table.well_formed (omega arith) inside

-- two increasing lists of the same numbers are one
tail_increasing : (x : ℕ) (xs : List ℕ) → IsStrictlyIncreasing (x ∷ xs) → IsStrictlyIncreasing xs
tail_increasing x xs rises k inside =
    let e : suc k + 1 ≡ suc (k + 1) = omega arith in
    subst (λ j. get_or (x ∷ xs) (suc k) 0 < get_or (x ∷ xs) j 0) e (rises (suc k) (omega arith))

head_least : (x : ℕ) (xs : List ℕ) → IsStrictlyIncreasing (x ∷ xs) → (k : ℕ) → Contains xs k → x < k
head_least x xs rises k has =
    let less : x < get_or xs has.0 0 = AllPairs-from_increasing (x ∷ xs) rises 0 (suc has.0) 0 (omega arith) (omega (arith, has.1)) in
    let read : get_or xs has.0 0 ≡ k = get_or_default xs has.0 0 k has.1 ∙ has.2 in
    omega arith

in_rest : (x : ℕ) (xs : List ℕ) (k : ℕ) → Contains (x ∷ xs) k → (k ≡ x) ⊎ Contains xs k
in_rest x xs k has = ⊎_elim (λ first. ⊎_elim (λ none. absurd (nothing_in k none)) (λ e. inl (sym e)) (Contains-push_cases [] x k first)) (λ later. inr later) (Contains-append_cases (x ∷ []) xs k has)

same_head : (x y : ℕ) (xs ys : List ℕ) → IsStrictlyIncreasing (x ∷ xs) → IsStrictlyIncreasing (y ∷ ys) → ((k : ℕ) → Contains (x ∷ xs) k → Contains (y ∷ ys) k) → ((k : ℕ) → Contains (y ∷ ys) k → Contains (x ∷ xs) k) → x ≡ y
same_head x y xs ys one two to from =
    ⊎_elim (λ e. e) (λ later.
    let above : y < x = head_least y ys two x later in
    ⊎_elim (λ e. sym e) (λ other. let below : x < y = head_least x xs one y other in absurd (omega arith)) (in_rest x xs y (from y (0, omega arith, refl))))
    (in_rest y ys x (to x (0, omega arith, refl)))

pub same_increasing : (xs ys : List ℕ) → IsStrictlyIncreasing xs → IsStrictlyIncreasing ys → ((k : ℕ) → Contains xs k → Contains ys k) → ((k : ℕ) → Contains ys k → Contains xs k) → xs ≡ ys
same_increasing [] [] one two to from = refl
same_increasing [] (y ∷ ys) one two to from = absurd (nothing_in y (from y (0, omega arith, refl)))
same_increasing (x ∷ xs) [] one two to from = absurd (nothing_in x (to x (0, omega arith, refl)))
same_increasing (x ∷ xs) (y ∷ ys) one two to from =
    let first : x ≡ y = same_head x y xs ys one two to from in
    ap₂ (λ a b. a ∷ b) first (same_increasing xs ys (tail_increasing x xs one) (tail_increasing y ys two)
    (λ k has. ⊎_elim (λ e. absurd (let low : x < k = head_least x xs one k has in omega arith)) (λ in_ys. in_ys) (in_rest y ys k (to k (Contains-append_right (x ∷ []) xs k has))))
    (λ k has. ⊎_elim (λ e. absurd (let low : y < k = head_least y ys two k has in omega arith)) (λ in_xs. in_xs) (in_rest x xs k (from k (Contains-append_right (y ∷ []) ys k has)))))

pub AreNodesOf-one : (ns : List Node) (ids among other : List ℕ) → AreNodesOf ns ids among → AreNodesOf ns ids other → among ≡ other
AreNodesOf-one ns ids among other one two =
    same_increasing among other one.increasing two.increasing (λ k has. (two.each k).1 ((one.each k).0 has)) (λ k has. (one.each k).1 ((two.each k).0 has))

pub AreMeasuresOf-one : (ns : List Node) (ids : List ℕ) (span work other more : ℕ) → AreMeasuresOf ns ids span work → AreMeasuresOf ns ids other more → (span ≡ other) × (work ≡ more)
AreMeasuresOf-one ns ids span work other more one two =
    let same : one.among ≡ two.among = AreNodesOf-one ns ids one.among two.among one.all two.all in
    (one.span_is ∙ ap (λ xs. min (span_of ns xs) (2 ^ 64)) same ∙ sym two.span_is, one.work_is ∙ ap (λ xs. min (span_of ns xs * length xs) (2 ^ 64)) same ∙ sym two.work_is)
