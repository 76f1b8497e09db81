-- The clauses of a node, listed in turn, are those of its schemes.
use Rattle.std.proofs.Common.{◌≡◌, ℕ, zero, suc, ◌+◌, ◌<◌, Bool, List, [], ◌∷◌, ◌++◌, length, map, take, drop, get_or, All, Option, Some, None, slice_get, refl, sym, ap, ap₂, ◌∙◌, arith, append_assoc, append-nil, length-take, not}
use Rattle.std.specs.Prelude.{flat_map}
use Rattle.std.specs.List.{range_with_len}
use Rattle.std.proofs.lemmas.List.{take_more, length-map}
use Rattle.std.proofs.lemmas.Grind.{flat_map-append}
use Rattle.std.proofs.lemmas.List.Elements.{All-append, All-nil, All-cons}
use Rattle.ffc_term.specs.declared.node.Node.{Node}
use Rattle.ffc_term.specs.declared.node.Node.TheVariants.{True, False, Not, And, Or, Iff, Xor, IteBool, IteField, Eq}
use Rattle.ffc_term.specs.declared.value.Value.{Value}
use Rattle.ffc_term.specs.Nodes.{IsNodeAt}
use Rattle.ffc_term.specs.Tables.{IsTable, second_equality}
use Rattle.ffc_clause.specs.Clauses.{Clause}
use Rattle.ffc_rules.specs.Schemes.{schemes, schemes_at, scheme_clauses, scheme_clause, all_schemes}
use Rattle.ffc_rules.specs.Clauses.{IsTrueClause}
use Rattle.ffc_rules.proofs.SchemeLemmas.{scheme_true}
use Rattle.ffc_encode.specs.declared.clauses.NodeClause.{NodeClause}
use Rattle.ffc_encode.specs.Clauses.{clause_of, clause_if, clauses_at, node_clauses, IsTrueAlways}
use Rattle.ffc_encode.specs.Listing.{counted, indexed, numbered, child_clauses}

-- ---- lists by number

module _ {A B : Type 0} (f : ℕ → A → List B) where
  pub counted_more : (k : ℕ) (xs : List A) (x : A) → counted f k (xs ++ x ∷ []) ≡ counted f k xs ++ f (k + length xs) x
  counted_more k [] x = append-nil (f k x) ∙ ap (λ n. f n x) (let same : k ≡ k + 0 = omega arith in same)
  counted_more k (y ∷ xs) x =
      ap (λ l. f k y ++ l) (counted_more (k + 1) xs x)
      ∙ sym (append_assoc (f k y) (counted f (k + 1) xs) (f (k + 1 + length xs) x))
      ∙ ap (λ n. (f k y ++ counted f (k + 1) xs) ++ f n x) (let same : k + 1 + length xs ≡ k + suc (length xs) = omega arith in same)

  abbrev pub if_there : ℕ → Option A → List B
  if_there k None = []
  if_there k (Some x) = f k x

  drop_first : (k : ℕ) (all xs : List A) (x : A) → drop k all ≡ x ∷ xs → slice_get all k ≡ Some x
  drop_first k [] xs x e = absurd (no_drop k e)
    where
      no_drop : (n : ℕ) → drop n [] ≡ x ∷ xs → ⊥
      no_drop zero h = cc
      no_drop (suc n) h = cc
  drop_first zero (y ∷ all) xs x e = cc
  drop_first (suc k) (y ∷ all) xs x e = drop_first k all xs x e

  drop_rest : (k : ℕ) (all xs : List A) (x : A) → drop k all ≡ x ∷ xs → drop (k + 1) all ≡ xs
  drop_rest k [] xs x e = absurd (no_drop k e)
    where
      no_drop : (n : ℕ) → drop n [] ≡ x ∷ xs → ⊥
      no_drop zero h = cc
      no_drop (suc n) h = cc
  drop_rest zero (y ∷ all) xs x e = ap (λ n. drop n (y ∷ all)) (let same : 0 + 1 ≡ suc 0 = refl in same) ∙ cc
  drop_rest (suc k) (y ∷ all) xs x e = ap (λ n. drop n (y ∷ all)) (let same : suc k + 1 ≡ suc (k + 1) = omega arith in same) ∙ drop_rest k all xs x e

  -- going through the numbers of a list is going through the list
  by_number : (g : ℕ → List B) (all : List A) → ((k : ℕ) → g k ≡ if_there k (slice_get all k)) → (k : ℕ) (xs : List A) → drop k all ≡ xs → flat_map g (range_with_len k (length xs)) ≡ counted f k xs
  by_number g all is k [] e = refl
  by_number g all is k (x ∷ xs) e =
      ap₂ (λ a b. a ++ b) (is k ∙ ap (if_there k) (drop_first k all xs x e)) (by_number g all is (k + 1) xs (drop_rest k all xs x e))

  pub all_by_number : (g : ℕ → List B) (all : List A) → ((k : ℕ) → g k ≡ if_there k (slice_get all k)) → flat_map g (range_with_len 0 (length all)) ≡ counted f 0 all
  all_by_number g all is = by_number g all is 0 all refl

flat_map_of_map : {X Y Z : Type 0} (f : X → Y) (g : Y → List Z) (xs : List X) → flat_map g (map f xs) ≡ flat_map (λ x. g (f x)) xs
flat_map_of_map f g [] = refl
flat_map_of_map f g (x ∷ xs) = ap (λ l. g (f x) ++ l) (flat_map_of_map f g xs)

flat_map_twice : {X Y Z : Type 0} (f : X → List Y) (g : Y → List Z) (xs : List X) → flat_map g (flat_map f xs) ≡ flat_map (λ x. flat_map g (f x)) xs
flat_map_twice f g [] = refl
flat_map_twice f g (x ∷ xs) = flat_map-append g (f x) (flat_map f xs) ∙ ap (λ l. flat_map g (f x) ++ l) (flat_map_twice f g xs)

flat_map_alike : {X Y : Type 0} (f g : X → List Y) → ((x : X) → f x ≡ g x) → (xs : List X) → flat_map f xs ≡ flat_map g xs
flat_map_alike f g e [] = refl
flat_map_alike f g e (x ∷ xs) = ap₂ (λ a b. a ++ b) (e x) (flat_map_alike f g e xs)

-- ---- the clauses of a node

one_scheme : (v scheme : ℕ) (clauses : List Clause) → flat_map (λ index. clause_if v scheme index (slice_get clauses index)) (range_with_len 0 (length clauses)) ≡ indexed v scheme 0 clauses
one_scheme v scheme clauses =
    all_by_number (λ index lits. clause_of v scheme index lits ∷ []) (λ index. clause_if v scheme index (slice_get clauses index)) clauses (λ k. as_list k (slice_get clauses k))
  where
    as_list : (k : ℕ) (o : Option Clause) → clause_if v scheme k o ≡ if_there (λ index lits. clause_of v scheme index lits ∷ []) k o
    as_list k None = refl
    as_list k (Some lits) = refl

pub clauses_listed : (ns : List Node) (v : ℕ) → clauses_at ns v ≡ numbered v 0 (schemes_at ns v)
unfolding all_schemes scheme_clause
clauses_listed ns v =
    let at = λ (s : ℕ × ℕ). clause_if v s.0 s.1 (scheme_clause ns v s.0 s.1) in
    let of = λ (scheme : ℕ). map (λ (index : ℕ). (scheme, index)) (range_with_len 0 (length (scheme_clauses ns v scheme))) in
    let each = λ (scheme : ℕ). flat_map_of_map (λ (index : ℕ). (scheme, index)) at (range_with_len 0 (length (scheme_clauses ns v scheme))) ∙ one_scheme v scheme (scheme_clauses ns v scheme) in
    flat_map_twice of at (range_with_len 0 (length (schemes_at ns v)))
    ∙ flat_map_alike (λ scheme. flat_map at (of scheme)) (λ scheme. indexed v scheme 0 (scheme_clauses ns v scheme)) each (range_with_len 0 (length (schemes_at ns v)))
    ∙ all_by_number (λ scheme clauses. indexed v scheme 0 clauses) (λ scheme. indexed v scheme 0 (scheme_clauses ns v scheme)) (schemes_at ns v) (λ k. as_list k (slice_get (schemes_at ns v) k))
  where
    as_list : (k : ℕ) (o : Option (List Clause)) → indexed v k 0 (elim o [ None ↦ [] | Some clauses ↦ clauses ]) ≡ if_there (λ scheme clauses. indexed v scheme 0 clauses) k o
    as_list k None = refl
    as_list k (Some clauses) = refl

-- the schemes of a node that is there
pub schemes_of_node : (ns : List Node) (v : ℕ) (n : Node) → IsNodeAt ns v n → schemes_at ns v ≡ schemes v n
schemes_of_node ns v n at = by_node (slice_get ns v) at
  where
    by_node : (o : Option Node) → o ≡ Some n → elim o [ None ↦ [] | Some m ↦ schemes v m ] ≡ schemes v n
    by_node o e = ap (λ (q : Option Node). elim q as (λ _. List (List Clause)) [ None ↦ [] | Some m ↦ schemes v m ]) e

-- ---- truth

true_if : (ns : List Node) (v scheme index : ℕ) (o : Option Clause) → ((clause : Clause) → o ≡ Some clause → (assignment : List Value) → IsTrueClause ns assignment clause) → All (IsTrueAlways ns) (clause_if v scheme index o)
true_if ns v scheme index None h = All-nil (IsTrueAlways ns)
true_if ns v scheme index (Some lits) h = All-cons (IsTrueAlways ns) (clause_of v scheme index lits) [] (h lits refl) (All-nil (IsTrueAlways ns))

all_flat : {X Y : Type 0} (P : Y → Type 0) (f : X → List Y) → ((x : X) → All P (f x)) → (xs : List X) → All P (flat_map f xs)
all_flat P f h [] = All-nil P
all_flat P f h (x ∷ xs) = All-append P (f x) (flat_map f xs) (h x) (all_flat P f h xs)

pub clauses_true : (ns : List Node) (ids : List ℕ) → IsTable ns → All (IsTrueAlways ns) (node_clauses ns ids)
clauses_true ns ids table =
    all_flat (IsTrueAlways ns) (clauses_at ns)
    (λ v. all_flat (IsTrueAlways ns) (λ s. clause_if v s.0 s.1 (scheme_clause ns v s.0 s.1))
    (λ s. true_if ns v s.0 s.1 (scheme_clause ns v s.0 s.1) (λ clause is assignment. scheme_true ns assignment v s.0 s.1 clause table is)) (all_schemes ns v))
    ids

-- ---- the equalities of an `ite` of field sort

pub first_equality : (ns : List Node) (v c a b e : ℕ) → IsTable ns → IsNodeAt ns v (IteField c a b) → IsNodeAt ns e (Eq v a) → e ≡ v + 1
first_equality ns v c a b e table at is = table.well_formed.single e (v + 1) (Eq v a) is (table.equalities v c a b at).0

pub other_equality : (ns : List Node) (v c a b e : ℕ) → IsTable ns → IsNodeAt ns v (IteField c a b) → IsNodeAt ns e (Eq v b) → e ≡ second_equality v a b
other_equality ns v c a b e table at is = table.well_formed.single e (second_equality v a b) (Eq v b) is (table.equalities v c a b at).1

-- ---- clauses that are pushed in turn

pub map_push : {X Y : Type 0} (f : X → Y) (xs : List X) (x : X) → map f (xs ++ x ∷ []) ≡ map f xs ++ f x ∷ []
map_push f [] x = refl
map_push f (y ∷ xs) x = ap (λ l. f y ∷ l) (map_push f xs x)

pub children_more : (v i : ℕ) (all : Bool) (ids : List ℕ) (id : ℕ) (old now new : List NodeClause) → i < length ids → id ≡ get_or ids i id → now ≡ old ++ indexed v 0 0 (child_clauses v all (take i ids)) → new ≡ now ++ clause_of v 0 i ((not all, v) ∷ (all, id) ∷ []) ∷ [] → new ≡ old ++ indexed v 0 0 (child_clauses v all (take (i + 1) ids))
children_more v i all ids id old now new inside is e f =
    let f_of = λ (index : ℕ) (lits : Clause). clause_of v 0 index lits ∷ [] in
    let of = λ (a : ℕ). (not all, v) ∷ (all, a) ∷ [] in
    let before : List Clause = map of (take i ids) in
    let many : 0 + length before ≡ i = omega (arith, length-map (take i ids) of, length-take i ids) in
    let longer : map of (take (i + 1) ids) ≡ before ++ of id ∷ [] = ap (map of) (take_more ids i id inside ∙ ap (λ x. take i ids ++ x ∷ []) (sym is)) ∙ map_push of (take i ids) id in
    f ∙ ap (λ l. l ++ clause_of v 0 i (of id) ∷ []) e
    ∙ append_assoc old (indexed v 0 0 before) (clause_of v 0 i (of id) ∷ [])
    ∙ ap (λ l. old ++ l) (sym (ap (indexed v 0 0) longer ∙ counted_more f_of 0 before (of id) ∙ ap (λ k. indexed v 0 0 before ++ clause_of v 0 k (of id) ∷ []) many))

-- the clauses of a node that is there
pub node_listed : (ns : List Node) (v : ℕ) (n : Node) (old new : List NodeClause) → IsNodeAt ns v n → new ≡ old ++ numbered v 0 (schemes v n) → new ≡ old ++ clauses_at ns v
node_listed ns v n old new at e = e ∙ ap (λ l. old ++ l) (sym (clauses_listed ns v ∙ ap (numbered v 0) (schemes_of_node ns v n at)))

pub other_schemes : (v : ℕ) (n : Node) → (n ≡ True → ⊥) → (n ≡ False → ⊥) → ((a : ℕ) → n ≡ Not a → ⊥) → ((ids : List ℕ) → n ≡ And ids → ⊥) → ((ids : List ℕ) → n ≡ Or ids → ⊥) → ((a b : ℕ) → n ≡ Iff a b → ⊥) → ((a b : ℕ) → n ≡ Xor a b → ⊥) → ((c a b : ℕ) → n ≡ IteBool c a b → ⊥) → ((c a b : ℕ) → n ≡ IteField c a b → ⊥) → schemes v n ≡ []
other_schemes v True a b c d e f g h k = absurd (a refl)
other_schemes v False a b c d e f g h k = absurd (b refl)
other_schemes v (Not x) a b c d e f g h k = absurd (c x refl)
other_schemes v (And ids) a b c d e f g h k = absurd (d ids refl)
other_schemes v (Or ids) a b c d e f g h k = absurd (e ids refl)
other_schemes v (Iff x y) a b c d e f g h k = absurd (f x y refl)
other_schemes v (Xor x y) a b c d e f g h k = absurd (g x y refl)
other_schemes v (IteBool x y z) a b c d e f g h k = absurd (h x y z refl)
other_schemes v (IteField x y z) a b c d e f g h k = absurd (k x y z refl)
other_schemes v _ a b c d e f g h k = refl
