-- Sums that are opened: which nodes give way to their parts, and how many are reached from them.
use Rattle.std.proofs.Common.{◌≡◌, ℕ, zero, suc, ◌+◌, ◌<◌, cond, Bool, true, false, List, [], ◌∷◌, ◌++◌, length, take, get_or, get_or-take, map, sum_by, All, Option, None, is_some, ◌⊎◌, inl, inr, ⊎_elim, refl, sym, ap, ap₂, ◌∙◌, subst, arith}
use Rattle.std.specs.List.Sorted.{IsPermutation}
use Rattle.std.proofs.lemmas.List.Sorted.{sum_by-IsPermutation}
use Rattle.std.proofs.lemmas.List.Sums.{sum_by-append, sum_by-cons}
use Rattle.std.proofs.lemmas.Option.{same_Some, slice_get-get_or}
use Rattle.std.specs.Ordering.{nat_cmp}
use Rattle.std.specs.BTreeMap.{BTreeMap, get}
use Rattle.ffc_ring.specs.Polynomial.{Terms}
use Rattle.ffc_term.specs.declared.node.Node.{Node}
use Rattle.ffc_term.specs.declared.node.Node.TheVariants.{True, FieldConst, Num, IteField, Add, Mul, Neg, Bitsum}
use Rattle.ffc_term.specs.declared.node.Sort.TheVariants as sort
use Rattle.ffc_term.specs.Nodes.{IsNodeAt, sorts, sort_of_node}
use Rattle.ffc_term.proofs.TableLemmas.{sort_at-is}
use Rattle.ffc_term.specs.Tables.{IsFieldAt, IsTable}
use Rattle.ffc_term.specs.Measuring.{number_in}
use Rattle.ffc_term.proofs.InTurn.{get_or-in_turn}
use Rattle.ffc_trees.proofs.NodePolyLemmas.{boolean_field}
use Rattle.ffc_trees.specs.Parts.{parts_of}
use Rattle.ffc_trees.proofs.PartLemmas.{parts_are}
use Rattle.ffc_encode.specs.declared.sums.Owed.{Owed}
use Rattle.ffc_encode.specs.Waiting.{owed_size, Takes}
use Rattle.ffc_encode.specs.Opening.{is_product, is_leaf, IsLeafAt, IsSumAt, IsReady, size_of_node, sizes, size_at, CanOpen, CanMake, IsOpenable}
use Rattle.ffc_encode.specs.Opening.CanOpen.{There, Opened}

-- ---- kinds of nodes

pub no_product : (n : Node) → ((ids : List ℕ) → n ≡ Mul ids → ⊥) → is_product n ≡ false
no_product (Mul ids) h = absurd (h ids refl)
no_product _ h = refl

pub no_leaf : (n : Node) → ((k q : ℕ) → n ≡ FieldConst k q → ⊥) → ((k q : ℕ) → n ≡ Num k q → ⊥) → ((c a b : ℕ) → n ≡ IteField c a b → ⊥) → is_leaf n ≡ false
no_leaf (FieldConst k q) a b c = absurd (a k q refl)
no_leaf (Num k q) a b c = absurd (b k q refl)
no_leaf (IteField k x y) a b c = absurd (c k x y refl)
no_leaf _ a b c = refl

pub leaf_plain : (n : Node) → is_leaf n ≡ true → is_product n ≡ false
leaf_plain (Mul ids) h = cc
leaf_plain _ h = refl

pub leaf_no_parts : (n : Node) → is_leaf n ≡ true → parts_of n ≡ []
leaf_no_parts (FieldConst k q) h = refl
leaf_no_parts (Num k q) h = refl
leaf_no_parts (IteField c a b) h = refl
leaf_no_parts _ h = cc

-- a node is a single term or not
pub not_leaf : (ns : List Node) (id : ℕ) (n : Node) → IsNodeAt ns id n → is_leaf n ≡ false → IsLeafAt ns id → ⊥
not_leaf ns id n at other is =
    let same : is.node ≡ n = same_Some is.node n (sym is.at ∙ at) in
    let never : true ≡ false = sym is.leaf ∙ ap is_leaf same ∙ other in
    cc

-- ---- what opens

-- a node that is not there is no product, and its parts can be opened
opened : (ns : List Node) (has : ℕ → Type 0) (id : ℕ) (n : Node) → IsNodeAt ns id n → (has id → ⊥) → CanOpen ns has id → (is_product n ≡ false) × All (CanOpen ns has) (parts_of n)
opened ns has _ n at none (There id h) = absurd (none h)
opened ns has _ n at none (Opened id m there plain parts) =
    subst (λ k. (is_product k ≡ false) × All (CanOpen ns has) (parts_of k)) (same_Some m n (sym there ∙ at)) (plain, parts)

pub parts_openable : (ns : List Node) (p : ℕ) (has : ℕ → Type 0) (id : ℕ) (n : Node) → IsTable ns → IsNodeAt ns id n → (has id → ⊥) → IsOpenable ns p has id → All (IsOpenable ns p has) (parts_of n)
parts_openable ns p has id n table at none is = λ k d inside. record {
  field = (parts_are ns p id table is.field n at k d inside).0;
  opens = (opened ns has id n at none is.opens).1 k d inside;
}

-- a node that is not there is a sum
pub is_sum : (ns : List Node) (p : ℕ) (has : ℕ → Type 0) (id : ℕ) → ((q : ℕ) → IsLeafAt ns q → has q) → (has id → ⊥) → IsOpenable ns p has id → IsSumAt ns id
is_sum ns p has id leaves none is =
    let n : Node = get_or ns id True in
    let at : IsNodeAt ns id n = slice_get-get_or ns id True is.field.0 in
    record { node = n; at = at; plain = (opened ns has id n at none is.opens).0; no_leaf = by_case n at (is_leaf n) refl }
  where
    by_case : (n : Node) → IsNodeAt ns id n → (b : Bool) → is_leaf n ≡ b → is_leaf n ≡ false
    by_case n at true e = absurd (none (leaves id (record { node = n; at = at; leaf = e })))
    by_case n at false e = e

-- neither known nor a single term
pub not_ready : (ns : List Node) (known : BTreeMap ℕ Terms) (id : ℕ) → get nat_cmp known id ≡ None → (IsLeafAt ns id → ⊥) → IsReady ns known id → ⊥
not_ready ns known id none apart (inl is) = let never = sym (ap is_some none) ∙ is in cc
not_ready ns known id none apart (inr l) = apart l

-- a node that is no product can be opened, where its parts can
pub openable : (ns : List Node) (p : ℕ) (has : ℕ → Type 0) (id : ℕ) (n : Node) → IsFieldAt ns p id → IsNodeAt ns id n → is_product n ≡ false → CanMake ns has has id → IsOpenable ns p has id
openable ns p has id n is at plain can = record { field = is; opens = Opened id n at plain (can.parts n at plain) }

-- a single term can be made
pub leaf_can : (ns : List Node) (has : ℕ → Type 0) (id : ℕ) → IsLeafAt ns id → CanMake ns has has id
leaf_can ns has id is = record {
  factors = λ ids at k d inside. absurd (never ids at);
  parts = λ n at plain k d inside. absurd (nothing n at k inside);
}
  where
    never : (ids : List ℕ) → IsNodeAt ns id (Mul ids) → ⊥
    never ids at = let same : is.node ≡ Mul ids = same_Some is.node (Mul ids) (sym is.at ∙ at) in let wrong : true ≡ false = sym is.leaf ∙ ap is_leaf same in cc

    nothing : (n : Node) → IsNodeAt ns id n → (k : ℕ) → k < length (parts_of n) → ⊥
    nothing n at k inside =
        let same : n ≡ is.node = same_Some n is.node (sym at ∙ is.at) in
        let none : length (parts_of n) ≡ 0 = ap length (ap parts_of same ∙ leaf_no_parts is.node is.leaf) in
        omega (arith, none, inside)

-- a field node that is no product and no single term is opened
pub nothing_else : (ns : List Node) (p id : ℕ) (n : Node) → IsFieldAt ns p id → IsNodeAt ns id n → IsSumAt ns id
    → ((ids : List ℕ) → n ≡ Add ids → ⊥) → ((ids : List ℕ) → n ≡ Bitsum ids → ⊥) → ((a : ℕ) → n ≡ Neg a → ⊥) → ⊥
nothing_else ns p id n is at sum d g f =
    let same : sum.node ≡ n = same_Some sum.node n (sym sum.at ∙ at) in
    by_kind n (sym (sort_at-is ns id n at) ∙ is.1) (ap is_product (sym same) ∙ sum.plain) (ap is_leaf (sym same) ∙ sum.no_leaf) d g f
  where
    by_kind : (m : Node) → sort_of_node (sorts (take id ns)) m ≡ sort.Field p → is_product m ≡ false → is_leaf m ≡ false
        → ((ids : List ℕ) → m ≡ Add ids → ⊥) → ((ids : List ℕ) → m ≡ Bitsum ids → ⊥) → ((a : ℕ) → m ≡ Neg a → ⊥) → ⊥
    by_kind (FieldConst k q) s plain other d g f = cc
    by_kind (Num k q) s plain other d g f = cc
    by_kind (IteField k x y) s plain other d g f = cc
    by_kind (Add ids) s plain other d g f = d ids refl
    by_kind (Mul ids) s plain other d g f = cc
    by_kind (Neg x) s plain other d g f = f x refl
    by_kind (Bitsum ids) s plain other d g f = g ids refl
    by_kind _ s plain other d g f = boolean_field p s

-- ---- sizes

sums_alike : {X : Type 0} (f g : X → ℕ) (xs : List X) → ((i : ℕ) (d : X) → i < length xs → f (get_or xs i d) ≡ g (get_or xs i d)) → sum_by f xs ≡ sum_by g xs
sums_alike f g [] h = refl
sums_alike f g (x ∷ xs) h =
    sum_by-cons f x xs ∙ ap₂ (λ a b. a + b) (h 0 x (omega arith)) (sums_alike f g xs (λ i d inside. h (suc i) d (omega (arith, inside)))) ∙ sym (sum_by-cons g x xs)

size_at-is : (ns : List Node) (id : ℕ) (n : Node) → IsNodeAt ns id n → size_at ns id ≡ size_of_node (take id (sizes ns)) n
unfolding sizes
size_at-is ns id n at = get_or-in_turn size_of_node ns id n 0 at

-- a node is one more than its parts together
size_at-parts : (ns : List Node) (p id : ℕ) (n : Node) → IsTable ns → IsFieldAt ns p id → IsNodeAt ns id n → size_at ns id ≡ suc (sum_by (size_at ns) (parts_of n))
size_at-parts ns p id n table is at =
    size_at-is ns id n at
    ∙ ap suc (sums_alike (number_in (take id (sizes ns))) (size_at ns) (parts_of n) (λ i d inside. get_or-take id (sizes ns) (get_or (parts_of n) i d) 0 (parts_are ns p id table is n at i d inside).1))

pub some_size : (ns : List Node) (p id : ℕ) → IsFieldAt ns p id → 0 < size_at ns id
some_size ns p id is = omega (arith, size_at-is ns id (get_or ns id True) (slice_get-get_or ns id True is.0))

node_sizes : (ns : List Node) (xs : List Owed) → owed_size ns xs ≡ sum_by (size_at ns) (map (λ (x : Owed). x.node) xs)
node_sizes ns [] = refl
node_sizes ns (x ∷ xs) =
    sum_by-cons (λ (y : Owed). size_at ns y.node) x xs ∙ ap (λ k. size_at ns x.node + k) (node_sizes ns xs) ∙ sym (sum_by-cons (size_at ns) x.node (map (λ (y : Owed). y.node) xs))

-- the parts of a node in its place
pub opened_less : (ns : List Node) (p id : ℕ) (n : Node) (added old new : List Owed) → IsTable ns → IsFieldAt ns p id → IsNodeAt ns id n → map (λ (x : Owed). x.node) added ≡ parts_of n → IsPermutation (added ++ old) new
    → owed_size ns new < owed_size ns old + size_at ns id
opened_less ns p id n added old new table is at parts all =
    let f : Owed → ℕ = λ x. size_at ns x.node in
    let whole : owed_size ns new ≡ owed_size ns (added ++ old) = sum_by-IsPermutation f (added ++ old) new all in
    let split : owed_size ns (added ++ old) ≡ owed_size ns added + owed_size ns old = sum_by-append f added old in
    let sum : owed_size ns added ≡ sum_by (size_at ns) (parts_of n) = node_sizes ns added ∙ ap (sum_by (size_at ns)) parts in
    omega (arith, whole, split, sum, size_at-parts ns p id n table is at)

-- a node is taken at least once
pub taken_size : (ns : List Node) (p : ℕ) (old : List Owed) (x : Owed) (new : List Owed) → Takes p old x new → owed_size ns new + size_at ns x.node < suc (owed_size ns old)
taken_size ns p old x new takes =
    let f : Owed → ℕ = λ y. size_at ns y.node in
    let whole : owed_size ns old ≡ owed_size ns (takes.taken ++ new) = sym (sum_by-IsPermutation f old (takes.taken ++ new) takes.all) in
    let split : owed_size ns (takes.taken ++ new) ≡ owed_size ns takes.taken + owed_size ns new = sum_by-append f takes.taken new in
    omega (arith, whole, split, first takes.taken takes.some takes.of_one)
  where
    first : (ys : List Owed) → 0 < length ys → All (λ y. y.node ≡ x.node) ys → size_at ns x.node < suc (owed_size ns ys)
    first [] some ones = absurd (omega arith)
    first (y ∷ ys) some ones =
        let same : size_at ns y.node ≡ size_at ns x.node = ap (size_at ns) (ones 0 y (omega arith)) in
        omega (arith, same, sum_by-cons (λ (z : Owed). size_at ns z.node) y ys)
