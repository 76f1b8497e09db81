-- Sorts, degrees and lengths follow from the children's, and stay.
use Rattle.std.proofs.Common.{◌≡◌, ℕ, ◌+◌, ◌*◌, ◌<◌, max, List, [], ◌∷◌, ◌++◌, length, take, fold, get_or, slice_index, All, Contains, refl, sym, ap, ap₂, ◌∙◌, subst, arith, get_or-take, length-take}
use Rattle.std.proofs.lemmas.List.Elements.{All-nil, All-weaker, All-contains, Contains-append_right, Contains-get_or}
use Rattle.ffc_term.specs.declared.node.Node.{Node}
use Rattle.ffc_term.specs.declared.node.Node.TheVariants.{True, False, BoolConst, FieldConst, Num, Not, And, Or, Iff, Xor, IteBool, IteField, Eq, Add, Mul, Neg, Bitsum}
use Rattle.ffc_term.specs.declared.node.Sort.{Sort}
use Rattle.ffc_term.specs.declared.node.Sort.TheVariants as sort
use Rattle.ffc_term.specs.Nodes.{IsNodeAt, children, sorts, sort_in, sort_at, sort_of_node}
use Rattle.ffc_term.specs.Measuring.{number_in, degrees, lengths, degree_at, length_at, degree_of_node, length_of_node}
use Rattle.ffc_term.specs.Tables.{Fits, AreOfOneField, IsFieldAt, IsWellFormed}
use Rattle.ffc_term.specs.Growth.{field_children}
use Rattle.ffc_term.proofs.InTurn.{get_or-in_turn, take-in_turn-append}
use Rattle.ffc_term.proofs.TableLemmas.{sort_at-is, sort_at-take}
use Rattle.ffc_term.proofs.WalkLemmas.{child_below}

-- Children

fold_same : (op : ℕ → ℕ → ℕ) (f g : ℕ → ℕ) (start : ℕ) (ids : List ℕ) → ((c : ℕ) → Contains ids c → f c ≡ g c) → fold (λ a x. op a (f x)) start ids ≡ fold (λ a x. op a (g x)) start ids
fold_same op f g start [] same = refl
fold_same op f g start (x ∷ ids) same =
    ap (λ v. fold (λ a y. op a (f y)) (op start v) ids) (same x (0, omega arith, refl)) ∙ fold_same op f g (op start (g x)) ids (λ c has. same c (Contains-append_right (x ∷ []) ids c has))

degree_same : (ds es : List ℕ) (n : Node) → ((c : ℕ) → Contains (children n) c → number_in ds c ≡ number_in es c) → degree_of_node ds n ≡ degree_of_node es n
degree_same ds es True same = refl
degree_same ds es False same = refl
degree_same ds es (BoolConst k) same = refl
degree_same ds es (FieldConst k p) same = refl
degree_same ds es (Num n p) same = refl
degree_same ds es (Not a) same = refl
degree_same ds es (And ids) same = refl
degree_same ds es (Or ids) same = refl
degree_same ds es (Iff a b) same = refl
degree_same ds es (Xor a b) same = refl
degree_same ds es (IteBool c a b) same = refl
degree_same ds es (IteField c a b) same = refl
degree_same ds es (Eq a b) same = ap₂ (λ x y. max x y) (same a (0, omega arith, refl)) (same b (1, omega arith, refl))
degree_same ds es (Add ids) same = fold_same (λ a x. max a x) (number_in ds) (number_in es) 0 ids same
degree_same ds es (Mul ids) same = fold_same (λ a x. a + x) (number_in ds) (number_in es) 0 ids same
degree_same ds es (Neg a) same = same a (0, omega arith, refl)
degree_same ds es (Bitsum ids) same = fold_same (λ a x. max a x) (number_in ds) (number_in es) 0 ids same

length_same : (ds es : List ℕ) (n : Node) → ((c : ℕ) → Contains (children n) c → number_in ds c ≡ number_in es c) → length_of_node ds n ≡ length_of_node es n
length_same ds es True same = refl
length_same ds es False same = refl
length_same ds es (BoolConst k) same = refl
length_same ds es (FieldConst k p) same = refl
length_same ds es (Num n p) same = refl
length_same ds es (Not a) same = refl
length_same ds es (And ids) same = refl
length_same ds es (Or ids) same = refl
length_same ds es (Iff a b) same = refl
length_same ds es (Xor a b) same = refl
length_same ds es (IteBool c a b) same = refl
length_same ds es (IteField c a b) same = refl
length_same ds es (Eq a b) same = ap₂ (λ x y. max x y) (same a (0, omega arith, refl)) (same b (1, omega arith, refl))
length_same ds es (Add ids) same = fold_same (λ a x. a + x) (number_in ds) (number_in es) 0 ids same
length_same ds es (Mul ids) same = fold_same (λ a x. a * x) (number_in ds) (number_in es) 1 ids same
length_same ds es (Neg a) same = same a (0, omega arith, refl)
length_same ds es (Bitsum ids) same = fold_same (λ a x. a + x) (number_in ds) (number_in es) 0 ids same

first_child : (ids : List ℕ) → 0 < length ids → Contains ids (slice_index ids 0)
first_child ids some = Contains-get_or ids 0 0 some

sort_same : (before : List Node) (ss ts : List Sort) (n : Node) → Fits before n → ((c : ℕ) → Contains (children n) c → sort_in ss c ≡ sort_in ts c) → sort_of_node ss n ≡ sort_of_node ts n
sort_same before ss ts True fits same = refl
sort_same before ss ts False fits same = refl
sort_same before ss ts (BoolConst k) fits same = refl
sort_same before ss ts (FieldConst k p) fits same = refl
sort_same before ss ts (Num n p) fits same = refl
sort_same before ss ts (Not a) fits same = refl
sort_same before ss ts (And ids) fits same = refl
sort_same before ss ts (Or ids) fits same = refl
sort_same before ss ts (Iff a b) fits same = refl
sort_same before ss ts (Xor a b) fits same = refl
sort_same before ss ts (IteBool c a b) fits same = refl
sort_same before ss ts (IteField c a b) fits same = same a (1, omega arith, refl)
sort_same before ss ts (Eq a b) fits same = refl
sort_same before ss ts (Add ids) fits same = same (slice_index ids 0) (first_child ids fits.some)
sort_same before ss ts (Mul ids) fits same = same (slice_index ids 0) (first_child ids fits.some)
sort_same before ss ts (Neg a) fits same = same a (0, omega arith, refl)
sort_same before ss ts (Bitsum ids) fits same = same (slice_index ids 0) (first_child ids fits.some)

-- Sorts, degrees and lengths of a table

pub sort_follows : (ns : List Node) (id : ℕ) (n : Node) → IsWellFormed ns → IsNodeAt ns id n → sort_at ns id ≡ sort_of_node (sorts ns) n
sort_follows ns id n formed at =
    sort_at-is ns id n at ∙ sort_same (take id ns) (sorts (take id ns)) (sorts ns) n (formed.fits id n at) (λ c has. sort_at-take id ns c (child_below ns id c n formed at has))

pub degree_follows : (ns : List Node) (id : ℕ) (n : Node) → IsWellFormed ns → IsNodeAt ns id n → degree_at ns id ≡ degree_of_node (degrees ns) n
unfolding degrees
degree_follows ns id n formed at =
    get_or-in_turn degree_of_node ns id n 0 at ∙ degree_same (take id (degrees ns)) (degrees ns) n (λ c has. get_or-take id (degrees ns) c 0 (child_below ns id c n formed at has))

pub length_follows : (ns : List Node) (id : ℕ) (n : Node) → IsWellFormed ns → IsNodeAt ns id n → length_at ns id ≡ length_of_node (lengths ns) n
unfolding lengths
length_follows ns id n formed at =
    get_or-in_turn length_of_node ns id n 0 at ∙ length_same (take id (lengths ns)) (lengths ns) n (λ c has. get_or-take id (lengths ns) c 0 (child_below ns id c n formed at has))

pub degree_stays : (ns ms : List Node) (id : ℕ) → id < length ns → degree_at (ns ++ ms) id ≡ degree_at ns id
unfolding degrees
degree_stays ns ms id inside = sym (get_or-take (length ns) (degrees (ns ++ ms)) id 0 inside) ∙ ap (λ xs. get_or xs id 0) (take-in_turn-append degree_of_node ns ms)

pub length_stays : (ns ms : List Node) (id : ℕ) → id < length ns → length_at (ns ++ ms) id ≡ length_at ns id
unfolding lengths
length_stays ns ms id inside = sym (get_or-take (length ns) (lengths (ns ++ ms)) id 0 inside) ∙ ap (λ xs. get_or xs id 0) (take-in_turn-append length_of_node ns ms)

-- Orders

field_before : (ns : List Node) (id p a : ℕ) → IsFieldAt (take id ns) p a → IsFieldAt ns p a
field_before ns id p a h =
    let short = length-take id ns in
    (let inside : a < length (take id ns) = h.0 in omega arith, sym (sort_at-take id ns a (let inside : a < length (take id ns) = h.0 in omega arith)) ∙ h.1)

all_before : (ns : List Node) (id : ℕ) (ids : List ℕ) → (fits : AreOfOneField (take id ns) ids) → All (IsFieldAt ns fits.order) ids
all_before ns id ids fits = All-weaker (IsFieldAt (take id ns) fits.order) (IsFieldAt ns fits.order) (λ a h. field_before ns id fits.order a h) ids fits.each

sort_same_order : (s : Sort) (p q : ℕ) → s ≡ sort.Field p → s ≡ sort.Field q → q ≡ p
sort_same_order s p q e f = cc

-- the order of a node is that of its children
part_order : (ns : List Node) (id p a : ℕ) (ids : List ℕ) → (fits : AreOfOneField (take id ns) ids) → sort_at ns id ≡ sort_at ns a → Contains ids a → sort_at ns id ≡ sort.Field p → All (IsFieldAt ns p) ids
part_order ns id p a ids fits same has is =
    let all = all_before ns id ids fits in
    let here = All-contains (IsFieldAt ns fits.order) ids a all has in
    subst (λ q. All (IsFieldAt ns q) ids) (sort_same_order (sort_at ns id) p fits.order is (same ∙ here.1)) all

no_field : (p : ℕ) → sort.Bool ≡ sort.Field p → ⊥
no_field p e = cc

pub parts_of_one_order : (ns : List Node) (id p : ℕ) (n : Node) → IsWellFormed ns → IsNodeAt ns id n → sort_at ns id ≡ sort.Field p → All (IsFieldAt ns p) (field_children n)
parts_of_one_order ns id p (IteField c a b) formed at is = part_order ns id p a (a ∷ b ∷ []) (formed.fits id (IteField c a b) at).1 (sort_follows ns id (IteField c a b) formed at) (0, omega arith, refl) is
parts_of_one_order ns id p (Eq a b) formed at is = absurd (no_field p (sym (sort_follows ns id (Eq a b) formed at) ∙ is))
parts_of_one_order ns id p (Add ids) formed at is =
    let fits = formed.fits id (Add ids) at in part_order ns id p (slice_index ids 0) ids fits (sort_follows ns id (Add ids) formed at) (first_child ids fits.some) is
parts_of_one_order ns id p (Mul ids) formed at is =
    let fits = formed.fits id (Mul ids) at in part_order ns id p (slice_index ids 0) ids fits (sort_follows ns id (Mul ids) formed at) (first_child ids fits.some) is
parts_of_one_order ns id p (Neg a) formed at is = part_order ns id p a (a ∷ []) (formed.fits id (Neg a) at) (sort_follows ns id (Neg a) formed at) (0, omega arith, refl) is
parts_of_one_order ns id p (Bitsum ids) formed at is =
    let fits = formed.fits id (Bitsum ids) at in part_order ns id p (slice_index ids 0) ids fits (sort_follows ns id (Bitsum ids) formed at) (first_child ids fits.some) is
parts_of_one_order ns id p _ formed at is = All-nil (IsFieldAt ns p)

pub sides_of_one_order : (ns : List Node) (id a b : ℕ) → IsWellFormed ns → IsNodeAt ns id (Eq a b) → (p : ℕ) × IsFieldAt ns p a × IsFieldAt ns p b
sides_of_one_order ns id a b formed at =
    let fits = formed.fits id (Eq a b) at in
    let all = all_before ns id (a ∷ b ∷ []) fits in
    (fits.order, All-contains (IsFieldAt ns fits.order) (a ∷ b ∷ []) a all (0, omega arith, refl), All-contains (IsFieldAt ns fits.order) (a ∷ b ∷ []) b all (1, omega arith, refl))
