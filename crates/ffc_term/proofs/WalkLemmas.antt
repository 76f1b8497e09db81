-- Marks, and the nodes of a check that they find.
use Rattle.std.proofs.Common.{◌≡◌, ℕ, ◌+◌, ◌<◌, ◌≤◌, ◌⊎◌, inl, inr, ⊎_elim, zero, suc, Bool, true, false, List, [], ◌∷◌, ◌++◌, length, take, set, get_or, replicate, All, Contains, refl, sym, ap, ◌∙◌, subst, arith, add-one, length-take, length-set, get_or-set_same, get_or-set_other}
use Rattle.std.specs.List.Sorted.{IsStrictlyIncreasing}
use Rattle.std.proofs.lemmas.Bool.{false≢true, cases_eq, cases_lt}
use Rattle.std.proofs.lemmas.List.{take_more, get_or_past, get_or-replicate, length-replicate}
use Rattle.std.proofs.lemmas.List.Elements.{Contains-push, Contains-push_cases, Contains-append_left, Contains-append_right, Contains-append_cases, Contains-get_or, All-contains, All-cons, All-nil, All-weaker}
use Rattle.std.proofs.lemmas.Option.{slice_get_within}
use Rattle.ffc_term.specs.declared.node.Node.{Node}
use Rattle.ffc_term.specs.declared.node.Node.TheVariants.{True, False, BoolConst, FieldConst, Num, Not, And, Or, Iff, Xor, IteBool, IteField, Eq, Add, Mul, Neg, Bitsum}
use Rattle.ffc_term.specs.Nodes.{IsNodeAt, children}
use Rattle.ffc_term.specs.Tables.{Fits, IsBooleanAt, IsFieldAt, AreBoolean, AreOfOneField, IsTable, IsWellFormed, second_equality}
use Rattle.ffc_term.specs.Checks.{IsNodeOf, AreNodesOf, IsClosed}
use Rattle.ffc_term.specs.Checks.IsNodeOf.{listed, child, first, second}
use Rattle.ffc_term.proofs.NodeLemmas.{IsNodeAt-unique}
use Rattle.ffc_term.specs.Marking.{IsMarked, IsNoneMarked, IsEqualityOf, IsBroughtBy, Marks, IsMarking, AreMarkedFrom}

nothing_in : (k : ℕ) → ¬ (Contains [] k)
nothing_in k has = let inside : has.0 < length {A = ℕ} [] = has.1 in absurd (omega arith)

-- a number that is marked has a mark
pub IsMarked-within : (marks : List Bool) (k : ℕ) → IsMarked marks k → k < length marks
IsMarked-within marks k is =
    elim (cases_lt k (length marks)) as (λ _. k < length marks) [
      | inl inside ↦ inside
      | inr past ↦ absurd (false≢true (sym (get_or_past marks k false past) ∙ is))
    ]

IsMarked-set_same : (marks : List Bool) (i : ℕ) → i < length marks → IsMarked (set marks i true) i
IsMarked-set_same marks i inside = get_or-set_same marks i true false inside

IsMarked-set_other : (marks : List Bool) (i k : ℕ) → IsMarked marks k → i < length marks → IsMarked (set marks i true) k
IsMarked-set_other marks i k is inside =
    elim (cases_eq k i) as (λ _. IsMarked (set marks i true) k) [
      | inl same ↦ subst (IsMarked (set marks i true)) (sym same) (IsMarked-set_same marks i inside)
      | inr other ↦ get_or-set_other marks i k true false other ∙ is
    ]

IsMarked-from_set : (marks : List Bool) (i k : ℕ) → IsMarked (set marks i true) k → IsMarked marks k ⊎ (k ≡ i)
IsMarked-from_set marks i k is =
    elim (cases_eq k i) as (λ _. IsMarked marks k ⊎ (k ≡ i)) [
      | inl same ↦ inr same
      | inr other ↦ inl (sym (get_or-set_other marks i k true false other) ∙ is)
    ]

-- one more mark
pub Marks-set : (P Q : ℕ → Type 0) (old new : List Bool) (i : ℕ) → Marks P old new → i < length new → ((k : ℕ) → P k → Q k) → Q i → ((k : ℕ) → Q k → P k ⊎ (k ≡ i)) → Marks Q old (set new i true)
Marks-set P Q old new i known inside more here only = record {
  long = length-set new i true ∙ known.long;
  kept = λ k is. IsMarked-set_other new i k (known.kept k is) inside;
  made = λ k q. ⊎_elim (λ p. IsMarked-set_other new i k (known.made k p) inside) (λ e. subst (IsMarked (set new i true)) (sym e) (IsMarked-set_same new i inside)) (only k q);
  only = λ k is. ⊎_elim (λ was. ⊎_elim (λ m. inl m) (λ p. inr (more k p)) (known.only k was)) (λ e. inr (subst Q (sym e) here)) (IsMarked-from_set new i k is);
}

-- the marks of one more element of a list
pub Marks-more : (ids : List ℕ) (old new : List Bool) (i : ℕ) → i < length ids → Marks (Contains (take i ids)) old new → get_or ids i 0 < length new → Marks (Contains (take (i + 1) ids)) old (set new (get_or ids i 0) true)
Marks-more ids old new i inside known within =
    let x : ℕ = get_or ids i 0 in
    let front : take (i + 1) ids ≡ take i ids ++ x ∷ [] = take_more ids i 0 inside in
    rw front (
    Marks-set (Contains (take i ids)) (Contains (take i ids ++ x ∷ [])) old new x known within
    (λ k has. Contains-append_left (take i ids) (x ∷ []) k has)
    (Contains-push (take i ids) x)
    (λ k has. ⊎_elim (λ old_one. inl old_one) (λ e. inr (sym e)) (Contains-push_cases (take i ids) x k has))
    )

-- a child comes before its node
All-one : (P : ℕ → Type 0) (a : ℕ) → P a → All P (a ∷ [])
All-one P a p = All-cons P a [] p (All-nil P)

pub All-two : (P : ℕ → Type 0) (a b : ℕ) → P a → P b → All P (a ∷ b ∷ [])
All-two P a b p q = All-cons P a (b ∷ []) p (All-one P b q)

All-three : (P : ℕ → Type 0) (a b c : ℕ) → P a → P b → P c → All P (a ∷ b ∷ c ∷ [])
All-three P a b c p q r = All-cons P a (b ∷ c ∷ []) p (All-two P b c q r)

boolean_within : (ns : List Node) (ids : List ℕ) → AreBoolean ns ids → All (λ c. c < length ns) ids
boolean_within ns ids are = All-weaker (IsBooleanAt ns) (λ c. c < length ns) (λ c is. is.0) ids are.each

field_within : (ns : List Node) (ids : List ℕ) → AreOfOneField ns ids → All (λ c. c < length ns) ids
field_within ns ids are = All-weaker (IsFieldAt ns are.order) (λ c. c < length ns) (λ c is. is.0) ids are.each

-- the children of a node that fits are among the nodes before it
pub children_within : (ns : List Node) (n : Node) → Fits ns n → All (λ c. c < length ns) (children n)
children_within ns True fits = All-nil (λ c. c < length ns)
children_within ns False fits = All-nil (λ c. c < length ns)
children_within ns (BoolConst k) fits = All-nil (λ c. c < length ns)
children_within ns (FieldConst k p) fits = All-nil (λ c. c < length ns)
children_within ns (Num n p) fits = All-nil (λ c. c < length ns)
children_within ns (Not a) fits = All-one (λ c. c < length ns) a fits.0
children_within ns (And ids) fits = boolean_within ns ids fits
children_within ns (Or ids) fits = boolean_within ns ids fits
children_within ns (Iff a b) fits = All-two (λ c. c < length ns) a b fits.0.0 fits.1.0
children_within ns (Xor a b) fits = All-two (λ c. c < length ns) a b fits.0.0 fits.1.0
children_within ns (IteBool c a b) fits = All-three (λ c. c < length ns) c a b fits.0.0 fits.1.0 fits.2.0
children_within ns (IteField c a b) fits = All-cons (λ c. c < length ns) c (a ∷ b ∷ []) fits.0.0 (field_within ns (a ∷ b ∷ []) fits.1)
children_within ns (Eq a b) fits = field_within ns (a ∷ b ∷ []) fits
children_within ns (Add ids) fits = field_within ns ids fits
children_within ns (Mul ids) fits = field_within ns ids fits
children_within ns (Neg a) fits = field_within ns (a ∷ []) fits
children_within ns (Bitsum ids) fits = field_within ns ids fits

pub child_below : (ns : List Node) (id c : ℕ) (n : Node) → IsWellFormed ns → IsNodeAt ns id n → Contains (children n) c → c < id
child_below ns id c n formed at has =
    let inside : id < length ns = slice_get_within ns id n at in
    let below : c < length (take id ns) = All-contains (λ k. k < length (take id ns)) (children n) c (children_within (take id ns) n (formed.fits id n at)) has in
    omega (arith, length-take id ns)

equality_within : (ns : List Node) (id k : ℕ) (n : Node) → IsTable ns → IsNodeAt ns id n → IsEqualityOf n id k → k < length ns
equality_within ns id k (IteField c a b) table at is =
    let rest = table.equalities id c a b at in
    ⊎_elim (λ e. subst (λ j. j < length ns) (sym e) (slice_get_within ns (id + 1) (Eq id a) rest.0)) (λ e. subst (λ j. j < length ns) (sym e) (slice_get_within ns (second_equality id a b) (Eq id b) rest.1)) is
equality_within ns id k _ table at is = absurd is

-- what a node adds is in the table
pub brought_within : (ns : List Node) (id k : ℕ) (n : Node) → IsTable ns → IsNodeAt ns id n → IsBroughtBy n id k → k < length ns
brought_within ns id k n table at is =
    let inside : id < length ns = slice_get_within ns id n at in
    ⊎_elim (λ has. let below : k < id = child_below ns id k n table.well_formed at has in omega arith) (λ e. equality_within ns id k n table at e) is

equality_of : (ns : List Node) (ids : List ℕ) (id k : ℕ) (n : Node) → IsTable ns → IsNodeAt ns id n → IsNodeOf ns ids id → IsEqualityOf n id k → IsNodeOf ns ids k
equality_of ns ids id k (IteField c a b) table at of is =
    let rest = table.equalities id c a b at in
    ⊎_elim (λ e. subst (IsNodeOf ns ids) (sym e) (first c a b of at rest.0)) (λ e. subst (IsNodeOf ns ids) (sym e) (second c a b of at rest.1)) is
equality_of ns ids id k _ table at of is = absurd is

-- what a node of a check adds is of the check
pub IsNodeOf-brought : (ns : List Node) (ids : List ℕ) (id k : ℕ) (n : Node) → IsTable ns → IsNodeAt ns id n → IsNodeOf ns ids id → IsBroughtBy n id k → IsNodeOf ns ids k
IsNodeOf-brought ns ids id k n table at of is =
    ⊎_elim (λ has. child n of at has) (λ e. equality_of ns ids id k n table at of e) is

-- at the start the listed nodes alone are marked
pub IsMarking-start : (ns : List Node) (ids : List ℕ) (old marks : List Bool) → old ≡ replicate (length ns) false → Marks (Contains ids) old marks → IsMarking ns ids marks (length ns)
IsMarking-start ns ids old marks clear known =
    let long : length marks ≡ length ns = known.long ∙ ap length clear ∙ length-replicate (length ns) false in
    let none : (k : ℕ) → ¬ (IsMarked old k) = λ k is.
    let inside : k < length ns = subst (λ n. k < n) (ap length clear ∙ length-replicate (length ns) false) (IsMarked-within old k is) in
    absurd (false≢true (sym (ap (λ xs. get_or xs k false) clear ∙ get_or-replicate (length ns) k false false inside) ∙ is)) in
    record {
      long = long;
      listed = known.made;
      sound = λ k is. ⊎_elim (λ was. absurd (none k was)) (λ has. listed has) (known.only k is);
      closed = λ id n k from is at brings. let inside : id < length ns = slice_get_within ns id n at in absurd (omega arith);
    }

-- numbers with no mark add nothing
pub IsMarking-lower : (ns : List Node) (ids : List ℕ) (marks : List Bool) (from to : ℕ) → IsMarking ns ids marks to → IsNoneMarked marks from to → IsMarking ns ids marks from
IsMarking-lower ns ids marks from to known none = record {
  long = known.long;
  listed = known.listed;
  sound = known.sound;
  closed = λ id n k above is at brings.
      elim (cases_lt id to) as (λ _. IsMarked marks k) [
        | inl below ↦ absurd (none id above below is)
        | inr past ↦ known.closed id n k past is at brings
      ];
}

two_in : (x y k : ℕ) → Contains (x ∷ y ∷ []) k → (k ≡ x) ⊎ (k ≡ y)
two_in x y k has =
    ⊎_elim (λ before. ⊎_elim (λ none. absurd (nothing_in k none)) (λ e. inl (sym e)) (Contains-push_cases [] x k before)) (λ e. inr (sym e)) (Contains-push_cases (x ∷ []) y k has)

-- an equality adds its two sides
eq_brings : (x y id k : ℕ) → IsBroughtBy (Eq x y) id k → (k ≡ x) ⊎ (k ≡ y)
eq_brings x y id k brings = ⊎_elim (λ has. two_in x y k has) (λ no. absurd no) brings

equality_closed : (ns : List Node) (marks later : List Bool) (i id k : ℕ) (n m : Node) → IsTable ns → IsNodeAt ns i n → IsNodeAt ns id m → IsMarked marks i → Marks (IsBroughtBy n i) marks later → IsEqualityOf n i id → IsBroughtBy m id k → IsMarked later k
equality_closed ns marks later i id k (IteField c a b) m table at at' marked new is brings =
    let rest = table.equalities i c a b at in
    let side : (x : ℕ) → m ≡ Eq i x → Contains (c ∷ a ∷ b ∷ []) x → IsMarked later k = λ x e has.
    ⊎_elim (λ e1. subst (IsMarked later) (sym e1) (new.kept i marked)) (λ e2. subst (IsMarked later) (sym e2) (new.made x (inl has))) (eq_brings i x id k (subst (λ y. IsBroughtBy y id k) e brings)) in
    ⊎_elim
    (λ e. side a (IsNodeAt-unique ns id m (Eq i a) at' (subst (λ j. IsNodeAt ns j (Eq i a)) (sym e) rest.0)) (1, omega arith, refl))
    (λ e. side b (IsNodeAt-unique ns id m (Eq i b) at' (subst (λ j. IsNodeAt ns j (Eq i b)) (sym e) rest.1)) (2, omega arith, refl))
    is
equality_closed ns marks later i id k _ m table at at' marked new is brings = absurd is

-- the numbers that an equality of a marked `ite` adds are marked after the visit of the `ite`
closed_above : (ns : List Node) (marks later : List Bool) (i id k : ℕ) (n m : Node) → IsTable ns → IsNodeAt ns i n → IsNodeAt ns id m → ¬ (id ≡ i) → i ≤ id → IsMarked marks i → Marks (IsBroughtBy n i) marks later → IsBroughtBy n i id → IsBroughtBy m id k → IsMarked later k
closed_above ns marks later i id k n m table at at' other from marked new brought brings =
    ⊎_elim
    (λ has. let below : id < i = child_below ns i id n table.well_formed at has in absurd (omega arith))
    (λ is. equality_closed ns marks later i id k n m table at at' marked new is brings)
    brought

-- The marks after a visit of the number i. What it adds above i are equalities, which add i and one of its children.
pub IsMarking-visit : (ns : List Node) (ids : List ℕ) (marks later : List Bool) (i j : ℕ) (n : Node) → j ≡ i + 1 → IsTable ns → IsMarking ns ids marks j → IsMarked marks i → IsNodeAt ns i n → Marks (IsBroughtBy n i) marks later → IsMarking ns ids later i
IsMarking-visit ns ids marks later i j n next table known marked at new = record {
  long = new.long ∙ known.long;
  listed = λ k has. new.kept k (known.listed k has);
  sound = λ k is. ⊎_elim (λ was. known.sound k was) (λ brings. IsNodeOf-brought ns ids i k n table at (known.sound i marked) brings) (new.only k is);
  closed = λ id m k from is at' brings.
      elim (cases_eq id i) as (λ _. IsMarked later k) [
        | inl same ↦ new.made k (subst (λ x. IsBroughtBy x i k) (IsNodeAt-unique ns i m n (subst (λ j. IsNodeAt ns j m) same at') at) (subst (λ j. IsBroughtBy m j k) same brings))
        | inr other ↦ ⊎_elim
            (λ was. new.kept k (known.closed id m k (omega arith) was at' brings))
            (λ brought. closed_above ns marks later i id k n m table at at' other from marked new brought brings)
            (new.only id is)
      ];
}

-- when all numbers were looked at, exactly the nodes of the check are marked
pub IsMarked-from_IsNodeOf : (ns : List Node) (ids : List ℕ) (marks : List Bool) (k : ℕ) → IsTable ns → IsMarking ns ids marks 0 → IsNodeOf ns ids k → IsMarked marks k
IsMarked-from_IsNodeOf ns ids marks k table known (listed has) = known.listed k has
IsMarked-from_IsNodeOf ns ids marks k table known (child {id} n of at has) =
    known.closed id n k (omega arith) (IsMarked-from_IsNodeOf ns ids marks id table known of) at (inl has)
IsMarked-from_IsNodeOf ns ids marks k table known (first {t} c a b of at eq) =
    let rest = table.equalities t c a b at in
    known.closed t (IteField c a b) k (omega arith) (IsMarked-from_IsNodeOf ns ids marks t table known of) at (inr (inl (table.well_formed.single k (t + 1) (Eq t a) eq rest.0)))
IsMarked-from_IsNodeOf ns ids marks k table known (second {t} c a b of at eq) =
    let rest = table.equalities t c a b at in
    known.closed t (IteField c a b) k (omega arith) (IsMarked-from_IsNodeOf ns ids marks t table known of) at (inr (inr (table.well_formed.single k (second_equality t a b) (Eq t b) eq rest.1)))

-- a lower number before the others
IsStrictlyIncreasing-cons : (x : ℕ) (xs : List ℕ) → ((k : ℕ) → Contains xs k → x < k) → IsStrictlyIncreasing xs → IsStrictlyIncreasing (x ∷ xs)
IsStrictlyIncreasing-cons x xs above old zero inside = above (get_or xs 0 0) (Contains-get_or xs 0 0 (omega arith))
IsStrictlyIncreasing-cons x xs above old (suc k) inside =
    subst (λ j. get_or xs k 0 < get_or (x ∷ xs) j 0) (sym (add-one (suc k))) (subst (λ j. get_or xs k 0 < get_or xs j 0) (add-one k) (old k (omega arith)))

Contains-cons_cases : (x : ℕ) (xs : List ℕ) (k : ℕ) → Contains (x ∷ xs) k → (x ≡ k) ⊎ Contains xs k
Contains-cons_cases x xs k has =
    ⊎_elim
    (λ first. ⊎_elim (λ none. absurd (nothing_in k none)) (λ e. inl e) (Contains-push_cases [] x k first))
    (λ rest. inr rest) (Contains-append_cases (x ∷ []) xs k has)

pub AreMarkedFrom-none : (marks : List Bool) (bound : ℕ) → length marks ≡ bound → AreMarkedFrom marks bound []
AreMarkedFrom-none marks bound long = record {
  increasing = λ k inside. absurd (omega arith);
  above = λ k has. absurd (nothing_in k has);
  each = λ k past is. let inside = IsMarked-within marks k is in absurd (omega arith);
}

pub AreMarkedFrom-lower : (marks : List Bool) (from to : ℕ) (found : List ℕ) → AreMarkedFrom marks to found → IsNoneMarked marks from to → from ≤ to → AreMarkedFrom marks from found
AreMarkedFrom-lower marks from to found known none order = record {
  increasing = known.increasing;
  above = λ k has. let was = known.above k has in (omega arith, was.1);
  each = λ k past is.
      elim (cases_lt k to) as (λ _. Contains found k) [
        | inl below ↦ absurd (none k past below is)
        | inr higher ↦ known.each k higher is
      ];
}

pub AreMarkedFrom-more : (marks : List Bool) (i : ℕ) (found : List ℕ) → AreMarkedFrom marks (i + 1) found → IsMarked marks i → AreMarkedFrom marks i (i ∷ found)
AreMarkedFrom-more marks i found known on = record {
  increasing = IsStrictlyIncreasing-cons i found (λ k has. let was = known.above k has in omega arith) known.increasing;
  above = λ k has.
      ⊎_elim
      (λ e. subst (λ j. (i ≤ j) × IsMarked marks j) e (omega arith, on))
      (λ rest. let was = known.above k rest in (omega arith, was.1)) (Contains-cons_cases i found k has);
  each = λ k past is.
      elim (cases_eq k i) as (λ _. Contains (i ∷ found) k) [
        | inl same ↦ subst (Contains (i ∷ found)) (sym same) (Contains-append_left (i ∷ []) found i (Contains-push [] i))
        | inr other ↦ Contains-append_right (i ∷ []) found k (known.each k (omega arith) is)
      ];
}

pub AreNodesOf-from_marks : (ns : List Node) (ids : List ℕ) (marks : List Bool) (found : List ℕ) → IsTable ns → IsMarking ns ids marks 0 → AreMarkedFrom marks 0 found → AreNodesOf ns ids found
AreNodesOf-from_marks ns ids marks found table known all = record {
  increasing = all.increasing;
  each = λ k. (
    (λ has. known.sound k (all.above k has).1),
    (λ of. let is = IsMarked-from_IsNodeOf ns ids marks k table known of in all.each k (omega arith) is),
  );
}

-- a node of a check is in the table
pub IsNodeOf-within : (ns : List Node) (ids : List ℕ) (k : ℕ) → IsTable ns → All (λ id. id < length ns) ids → IsNodeOf ns ids k → k < length ns
IsNodeOf-within ns ids k table within (listed has) = All-contains (λ id. id < length ns) ids k within has
IsNodeOf-within ns ids k table within (child {id} n of at has) = brought_within ns id k n table at (inl has)
IsNodeOf-within ns ids k table within (first {t} c a b of at eq) = slice_get_within ns k (Eq t a) eq
IsNodeOf-within ns ids k table within (second {t} c a b of at eq) = slice_get_within ns k (Eq t b) eq

pub IsClosed-from_AreNodesOf : (ns : List Node) (ids found : List ℕ) → IsTable ns → All (λ id. id < length ns) ids → AreNodesOf ns ids found → IsClosed ns found
IsClosed-from_AreNodesOf ns ids found table within are = record {
  increasing = are.increasing;
  within = λ k d inside. IsNodeOf-within ns ids (get_or found k d) table within ((are.each (get_or found k d)).0 (Contains-get_or found k d inside));
  closed = λ id c n has at is. (are.each c).1 (child n ((are.each id).0 has) at is);
}
