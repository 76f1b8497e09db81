-- Nodes that `==` finds equal are equal, and a list's nodes by number.
use Rattle.std.proofs.Common.{◌≡◌, ℕ, ◌+◌, ◌<◌, ◌⊎◌, inl, inr, ◌&&◌, Bool, true, false, List, [], ◌∷◌, ◌++◌, length, take, get_or, Contains, Some, refl, sym, ap, ap₂, ◌∙◌, subst, nat_eq, MatchBool, not, if◌then◌else◌, arith, length-append, get_or-take, position, length-take}
use Rattle.std.proofs.lemmas.Bool.{cases_lt}
use Rattle.std.specs.List.{list_any}
use Rattle.std.proofs.lemmas.List.{get_or_append_left, get_or_push}
use Rattle.std.proofs.lemmas.List.Quantifiers.{position-Some}
use Rattle.std.proofs.lemmas.Map.Views.{list_any-from_Contains, Contains-from_any}
use Rattle.std.proofs.lemmas.Option.{slice_get_within, get_or_from_slice_get, slice_get-get_or}
use Rattle.std.proofs.lemmas.Bool.{false≢true}
use Rattle.std.proofs.lemmas.Slice.Eq.{slice_eq-Decides}
use Rattle.std.proofs.lemmas.Bool.Decides.{Decides-eqb}
use lib.Pointwise.{pointwise}
use Rattle.ffc_term.specs.declared.node.Node.{Node}
use Rattle.ffc_term.specs.declared.node.Node.TheVariants.{True, False, BoolConst, FieldConst, Num, Not, And, Or, Iff, Xor, IteBool, IteField, Eq, Add, Mul, Neg, Bitsum}
use Rattle.ffc_term.specs.contracts.node.NodePartialEq.TheImpl as by_parts
use Rattle.ffc_term.specs.contracts.node.NodeEq.TheImpl.Laws as eq_laws
use Rattle.ffc_term.specs.Nodes.{IsNodeAt}
use Rattle.ffc_term.specs.Tables.{IsInterned}
use Rattle.indexmap.specs.IndexSet.{insert_key}

-- lists that `==` finds equal
same_ids : (xs ys : List ℕ) → pointwise nat_eq xs ys ≡ true → xs ≡ ys
same_ids xs ys h = (slice_eq-Decides Decides-eqb xs ys (pointwise nat_eq xs ys) refl).0 h

and_first : (a b : Bool) → (a && b) ≡ true → a ≡ true
and_first true b h = refl
and_first false b h = absurd (false≢true h)

and_second : (a b : Bool) → (a && b) ≡ true → b ≡ true
and_second true b h = h
and_second false b h = absurd (false≢true h)

same_number : (a b : ℕ) → nat_eq a b ≡ true → a ≡ b
same_number a b h = (Decides-eqb a b).0 h

-- nodes that `==` finds equal
pub same_node : (x y : Node) → (by_parts.ghosts).eq x y ≡ true → x ≡ y
same_node True True h = refl
same_node True _ h = absurd (false≢true h)
same_node False False h = refl
same_node False _ h = absurd (false≢true h)
same_node (BoolConst k) (BoolConst l) h = ap BoolConst (same_number k l h)
same_node (BoolConst k) _ h = absurd (false≢true h)
same_node (FieldConst k p) (FieldConst l q) h = ap₂ FieldConst (same_number k l (and_first _ _ h)) (same_number p q (and_second _ _ h))
same_node (FieldConst k p) _ h = absurd (false≢true h)
same_node (Num k p) (Num l q) h = ap₂ Num (same_number k l (and_first _ _ h)) (same_number p q (and_second _ _ h))
same_node (Num k p) _ h = absurd (false≢true h)
same_node (Not a) (Not b) h = ap Not (same_number a b h)
same_node (Not a) _ h = absurd (false≢true h)
same_node (And xs) (And ys) h = ap And (same_ids xs ys h)
same_node (And xs) _ h = absurd (false≢true h)
same_node (Or xs) (Or ys) h = ap Or (same_ids xs ys h)
same_node (Or xs) _ h = absurd (false≢true h)
same_node (Iff a b) (Iff c d) h = ap₂ Iff (same_number a c (and_first _ _ h)) (same_number b d (and_second _ _ h))
same_node (Iff a b) _ h = absurd (false≢true h)
same_node (Xor a b) (Xor c d) h = ap₂ Xor (same_number a c (and_first _ _ h)) (same_number b d (and_second _ _ h))
same_node (Xor a b) _ h = absurd (false≢true h)
same_node (IteBool c a b) (IteBool f d e) h =
    let rest = and_second (nat_eq c f) (nat_eq a d && nat_eq b e) h in
    let one : c ≡ f = same_number c f (and_first _ _ h) in
    let two : a ≡ d = same_number a d (and_first _ _ rest) in
    let three : b ≡ e = same_number b e (and_second (nat_eq a d) (nat_eq b e) rest) in
    cc
same_node (IteBool c a b) _ h = absurd (false≢true h)
same_node (IteField c a b) (IteField f d e) h =
    let rest = and_second (nat_eq c f) (nat_eq a d && nat_eq b e) h in
    let one : c ≡ f = same_number c f (and_first _ _ h) in
    let two : a ≡ d = same_number a d (and_first _ _ rest) in
    let three : b ≡ e = same_number b e (and_second (nat_eq a d) (nat_eq b e) rest) in
    cc
same_node (IteField c a b) _ h = absurd (false≢true h)
same_node (Eq a b) (Eq c d) h = ap₂ Eq (same_number a c (and_first _ _ h)) (same_number b d (and_second _ _ h))
same_node (Eq a b) _ h = absurd (false≢true h)
same_node (Add xs) (Add ys) h = ap Add (same_ids xs ys h)
same_node (Add xs) _ h = absurd (false≢true h)
same_node (Mul xs) (Mul ys) h = ap Mul (same_ids xs ys h)
same_node (Mul xs) _ h = absurd (false≢true h)
same_node (Neg a) (Neg b) h = ap Neg (same_number a b h)
same_node (Neg a) _ h = absurd (false≢true h)
same_node (Bitsum xs) (Bitsum ys) h = ap Bitsum (same_ids xs ys h)
same_node (Bitsum xs) _ h = absurd (false≢true h)

-- the place at which a node is found
pub IsNodeAt-from_position : (nodes : List Node) (n : Node) (id : ℕ) → position ((by_parts.ghosts).eq n) nodes ≡ Some id → IsNodeAt nodes id n
IsNodeAt-from_position nodes n id found =
    let known = position-Some ((by_parts.ghosts).eq n) nodes id n found in
    slice_get-get_or nodes id n known.0 ∙ ap Some (sym (same_node n (get_or nodes id n) known.1))

-- a node that is not found is nowhere
pub not_Contains-from_any : (nodes : List Node) (n : Node) → list_any ((by_parts.ghosts).eq n) nodes ≡ false → ¬ (Contains nodes n)
not_Contains-from_any nodes n none has = absurd (false≢true (sym none ∙ list_any-from_Contains eq_laws.laws-law n nodes has))

pub Contains-from_IsNodeAt : (nodes : List Node) (id : ℕ) (n : Node) → IsNodeAt nodes id n → Contains nodes n
Contains-from_IsNodeAt nodes id n at = (id, slice_get_within nodes id n at, get_or_from_slice_get nodes id n n at)

pub IsNodeAt-from_Contains : (nodes : List Node) (n : Node) → Contains nodes n → (id : ℕ) × IsNodeAt nodes id n
IsNodeAt-from_Contains nodes n has = (has.0, slice_get-get_or nodes has.0 n has.1 ∙ ap Some has.2)

-- one number has one node
pub IsNodeAt-unique : (nodes : List Node) (id : ℕ) (m n : Node) → IsNodeAt nodes id m → IsNodeAt nodes id n → m ≡ n
IsNodeAt-unique nodes id m n p q = cc

-- a number in the table has a node
pub IsNodeAt-get_or : (nodes : List Node) (id : ℕ) (d : Node) → id < length nodes → IsNodeAt nodes id (get_or nodes id d)
IsNodeAt-get_or nodes id d inside = slice_get-get_or nodes id d inside

pub IsNodeAt-append : (ns ms : List Node) (id : ℕ) (n : Node) → IsNodeAt ns id n → IsNodeAt (ns ++ ms) id n
IsNodeAt-append ns ms id n at =
    let inside : id < length ns = slice_get_within ns id n at in
    slice_get-get_or (ns ++ ms) id n (omega (arith, length-append ns ms)) ∙ ap Some (get_or_append_left ns ms n id inside ∙ get_or_from_slice_get ns id n n at)

pub IsNodeAt-append_left : (ns ms : List Node) (id : ℕ) (n : Node) → id < length ns → IsNodeAt (ns ++ ms) id n → IsNodeAt ns id n
IsNodeAt-append_left ns ms id n inside at =
    slice_get-get_or ns id n inside ∙ ap Some (sym (get_or_append_left ns ms n id inside) ∙ get_or_from_slice_get (ns ++ ms) id n n at)

pub IsNodeAt-last : (ns : List Node) (n : Node) → IsNodeAt (ns ++ n ∷ []) (length ns) n
IsNodeAt-last ns n =
    slice_get-get_or (ns ++ n ∷ []) (length ns) n (omega (arith, length-append ns (n ∷ []))) ∙ ap Some (get_or_push ns n n (length ns) refl)

-- a node of a longer table is in the shorter one, or is the last
pub IsNodeAt-push : (ns : List Node) (n : Node) (id : ℕ) (m : Node) → IsNodeAt (ns ++ n ∷ []) id m → IsNodeAt ns id m ⊎ ((id ≡ length ns) × (m ≡ n))
IsNodeAt-push ns n id m at =
    let inside : id < length (ns ++ n ∷ []) = slice_get_within (ns ++ n ∷ []) id m at in
    let bound : id < length ns + 1 = omega (arith, length-append ns (n ∷ [])) in
    elim (cases_lt id (length ns)) as (λ _. IsNodeAt ns id m ⊎ ((id ≡ length ns) × (m ≡ n))) [
      | inl before ↦ inl (IsNodeAt-append_left ns (n ∷ []) id m before at)
      | inr after ↦
          let here : id ≡ length ns = omega arith in
          inr (here, IsNodeAt-unique (ns ++ n ∷ []) id m n at (subst (λ i. IsNodeAt (ns ++ n ∷ []) i n) (sym here) (IsNodeAt-last ns n)))
    ]

pub IsNodeAt-from_take : (k : ℕ) (ns : List Node) (id : ℕ) (n : Node) → IsNodeAt (take k ns) id n → (id < k) × IsNodeAt ns id n
IsNodeAt-from_take k ns id n at =
    let inside : id < length (take k ns) = slice_get_within (take k ns) id n at in
    let short : id < k = omega (arith, length-take k ns) in
    let here : id < length ns = omega (arith, length-take k ns) in
    (short, slice_get-get_or ns id n here ∙ ap Some (sym (get_or-take k ns id n short) ∙ get_or_from_slice_get (take k ns) id n n at))

-- what an insertion by `==` leaves
pub record IsInserted (old new : List Node) (n : Node) (id : ℕ) (added : Bool) : Type 0 where
  pub put : IsInterned old new n id
  pub split : MatchBool added (¬ (Contains old n) × (new ≡ old ++ n ∷ [])) (new ≡ old)

IsInserted-new : (old new : List Node) (n : Node) (id : ℕ) → IsNodeAt new id n → ¬ (Contains old n) → new ≡ old ++ n ∷ [] → IsInserted old new n id true
IsInserted-new old new n id at none longer = record {
  put = record {
    at = at;
    added = inr (
      none,
      longer,
      elim (IsNodeAt-push old n id n (subst (λ xs. IsNodeAt xs id n) longer at)) as (λ _. id ≡ length old) [
        | inl before ↦ absurd (none (Contains-from_IsNodeAt old id n before))
        | inr last ↦ last.0
      ],
    );
  };
  split = (none, longer);
}

IsInserted-old : (old new : List Node) (n : Node) (id : ℕ) → IsNodeAt new id n → Contains old n → new ≡ old → IsInserted old new n id false
IsInserted-old old new n id at has same = record {
  put = record { at = at; added = inl (has, same) };
  split = same;
}

inserted_by : (found : Bool) (old new : List Node) (n : Node) (id : ℕ) → list_any ((by_parts.ghosts).eq n) old ≡ found → new ≡ (if found then old else old ++ n ∷ []) → IsNodeAt new id n → IsInserted old new n id (not found)
inserted_by true old new n id is keys at = IsInserted-old old new n id at (Contains-from_any same_node n old is) keys
inserted_by false old new n id is keys at = IsInserted-new old new n id at (not_Contains-from_any old n is) keys

pub IsInserted-from_keys : (old new : List Node) (n : Node) (id : ℕ) (added : Bool) → added ≡ not (list_any ((by_parts.ghosts).eq n) old) → new ≡ insert_key (by_parts.ghosts).eq old n → (k : Node) × (IsNodeAt new id k) × ((by_parts.ghosts).eq n k ≡ true) → IsInserted old new n id added
IsInserted-from_keys old new n id added is keys stored =
    let at : IsNodeAt new id n = stored.1 ∙ ap Some (sym (same_node n stored.0 stored.2)) in
    subst (IsInserted old new n id) (sym is) (inserted_by (list_any ((by_parts.ghosts).eq n) old) old new n id refl keys at)
