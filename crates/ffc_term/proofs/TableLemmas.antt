-- Sorts in longer and shorter tables, and what keeps a table well formed.
use Rattle.std.proofs.Common.{◌≡◌, ℕ, ◌+◌, ◌<◌, ◌≤◌, ◌⊎◌, inl, inr, ⊎_elim, Result, Ok, Err, IfOk, OnErr, List, [], ◌∷◌, ◌++◌, length, take, get_or, Contains, refl, sym, ap, ◌∙◌, subst, arith, length-append, take-take, take_at, get_or-take, length-take}
use Rattle.std.proofs.lemmas.List.{take-append-le, map_push, take-map, get_or_push, length-map, get_or-map}
use Rattle.std.proofs.lemmas.Option.{slice_get_within}
use Rattle.ffc_term.specs.declared.node.Node.{Node}
use Rattle.ffc_term.specs.declared.node.Node.TheVariants.{IteField, Eq}
use Rattle.ffc_term.specs.declared.node.Sort.TheVariants as sort
use Rattle.ffc_term.specs.declared.kept.Kept.{Kept}
use Rattle.ffc_term.specs.declared.table.TermStop.{TermStop}
use Rattle.ffc_term.specs.Nodes.{IsNodeAt, sorts, sort_at, sort_of_node}
use Rattle.ffc_term.specs.Tables.{Fits, IsNumbered, IsWellFormed, HasEqualities, IsFieldIte, IsInterned, second_equality, most_nodes}
use Rattle.ffc_term.specs.Keeping.{AreKept, IsKeptOf, kept_sorts, kept_degrees, kept_lengths, capped}
use Rattle.ffc_term.specs.Measuring.{degrees, lengths, degree_at, length_at}
use Rattle.ffc_term.proofs.MeasureLemmas.{degrees_more, lengths_more, degrees_less, lengths_less, length-degrees, length-lengths}
use Rattle.ffc_term.proofs.InTurn.{in_turn-push, in_turn-take, length-in_turn, take-in_turn-append, get_or-in_turn}
use Rattle.ffc_term.proofs.NodeLemmas.{IsNodeAt-push, IsNodeAt-from_take, IsNodeAt-append, Contains-from_IsNodeAt}

pub length-sorts : (ns : List Node) → length (sorts ns) ≡ length ns
unfolding sorts
length-sorts ns = length-in_turn sort_of_node ns

pub sorts-push : (ns : List Node) (n : Node) → sorts (ns ++ n ∷ []) ≡ sorts ns ++ sort_of_node (sorts ns) n ∷ []
unfolding sorts
sorts-push ns n = in_turn-push sort_of_node ns n

pub sorts-take : (k : ℕ) (ns : List Node) → sorts (take k ns) ≡ take k (sorts ns)
unfolding sorts
sorts-take k ns = in_turn-take sort_of_node k ns

pub take-sorts-append : (ns ms : List Node) → take (length ns) (sorts (ns ++ ms)) ≡ sorts ns
unfolding sorts
take-sorts-append ns ms = take-in_turn-append sort_of_node ns ms

sort_at_is : (ns : List Node) (id : ℕ) (n : Node) → IsNodeAt ns id n → sort_at ns id ≡ sort_of_node (take id (sorts ns)) n
unfolding sorts
sort_at_is ns id n at = get_or-in_turn sort_of_node ns id n sort.Bool at

-- the sort of a node from those of the nodes before it
pub sort_at-is : (ns : List Node) (id : ℕ) (n : Node) → IsNodeAt ns id n → sort_at ns id ≡ sort_of_node (sorts (take id ns)) n
sort_at-is ns id n at = sort_at_is ns id n at ∙ ap (λ xs. sort_of_node xs n) (sym (sorts-take id ns))

pub sort_at-take : (k : ℕ) (ns : List Node) (id : ℕ) → id < k → sort_at (take k ns) id ≡ sort_at ns id
sort_at-take k ns id short = ap (λ xs. get_or xs id sort.Bool) (sorts-take k ns) ∙ get_or-take k (sorts ns) id sort.Bool short

pub sort_at-append : (ns ms : List Node) (id : ℕ) → id < length ns → sort_at (ns ++ ms) id ≡ sort_at ns id
sort_at-append ns ms id inside =
    sym (get_or-take (length ns) (sorts (ns ++ ms)) id sort.Bool inside) ∙ ap (λ xs. get_or xs id sort.Bool) (take-sorts-append ns ms)

pub sort_at-last : (ns : List Node) (n : Node) → sort_at (ns ++ n ∷ []) (length ns) ≡ sort_of_node (sorts ns) n
sort_at-last ns n =
    ap (λ xs. get_or xs (length ns) sort.Bool) (sorts-push ns n) ∙ get_or_push (sorts ns) (sort_of_node (sorts ns) n) sort.Bool (length ns) (length-sorts ns)

none_at : (id : ℕ) (n : Node) → ¬ (IsNodeAt [] id n)
none_at id n at = let inside : id < length {A = Node} [] = slice_get_within [] id n at in absurd (omega arith)

pub IsWellFormed-nil : IsWellFormed []
IsWellFormed-nil = record {
  fits = λ id n at. absurd (none_at id n at);
  numbered = λ id n at. absurd (none_at id n at);
  single = λ id other n at. absurd (none_at id n at);
  within = omega arith;
}

pub AreKept-nil : AreKept [] []
unfolding sorts degrees lengths
AreKept-nil = record { sorts_are = refl; degrees_are = refl; lengths_are = refl }

-- what holds of each node and the nodes before it holds in a longer table too, where it holds of the new node
kept_by_push : (P : List Node → Node → Type 0) (ns : List Node) (n : Node) → ((id : ℕ) (m : Node) → IsNodeAt ns id m → P (take id ns) m) → P ns n → (id : ℕ) (m : Node) → IsNodeAt (ns ++ n ∷ []) id m → P (take id (ns ++ n ∷ [])) m
kept_by_push P ns n old new id m at =
    elim (IsNodeAt-push ns n id m at) as (λ _. P (take id (ns ++ n ∷ [])) m) [
      | inl before ↦
          let inside : id < length ns = slice_get_within ns id m before in
          subst (λ xs. P xs m) (sym (take-append-le id ns (n ∷ []) (omega arith))) (old id m before)
      | inr last ↦
          subst (λ x. P (take id (ns ++ n ∷ [])) x) (sym last.1) (subst (λ xs. P xs n) (sym (take_at ns (n ∷ []) id (sym last.0))) new)
    ]

kept_by_take : (P : List Node → Node → Type 0) (k : ℕ) (ns : List Node) → ((id : ℕ) (m : Node) → IsNodeAt ns id m → P (take id ns) m) → (id : ℕ) (m : Node) → IsNodeAt (take k ns) id m → P (take id (take k ns)) m
kept_by_take P k ns old id m at =
    let there = IsNodeAt-from_take k ns id m at in
    subst (λ xs. P xs m) (sym (take-take id k ns (omega (arith, there.0)))) (old id m there.1)

single_push : (ns : List Node) (n : Node) → IsWellFormed ns → ¬ (Contains ns n) → (id other : ℕ) (m : Node) → IsNodeAt (ns ++ n ∷ []) id m → IsNodeAt (ns ++ n ∷ []) other m → id ≡ other
single_push ns n old new id other m p q =
    elim (IsNodeAt-push ns n id m p) as (λ _. id ≡ other) [
      | inl first ↦ elim (IsNodeAt-push ns n other m q) as (λ _. id ≡ other) [
        | inl second ↦ old.single id other m first second
        | inr last ↦ absurd (new (subst (Contains ns) last.1 (Contains-from_IsNodeAt ns id m first)))
      ]
      | inr last ↦ elim (IsNodeAt-push ns n other m q) as (λ _. id ≡ other) [
        | inl second ↦ absurd (new (subst (Contains ns) last.1 (Contains-from_IsNodeAt ns other m second)))
        | inr also ↦ last.0 ∙ sym also.0
      ]
    ]

-- a new node that fits may come after the others
pub IsWellFormed-push : (ns : List Node) (n : Node) → IsWellFormed ns → Fits ns n → IsNumbered ns n → ¬ (Contains ns n) → length ns < most_nodes → IsWellFormed (ns ++ n ∷ [])
IsWellFormed-push ns n old fits numbered new room = record {
  fits = kept_by_push Fits ns n old.fits fits;
  numbered = kept_by_push IsNumbered ns n old.numbered numbered;
  single = single_push ns n old new;
  within = omega (arith, length-append ns (n ∷ []));
}

-- the first nodes of a table
pub IsWellFormed-take : (k : ℕ) (ns : List Node) → IsWellFormed ns → IsWellFormed (take k ns)
IsWellFormed-take k ns old = record {
  fits = kept_by_take Fits k ns old.fits;
  numbered = kept_by_take IsNumbered k ns old.numbered;
  single = λ id other m p q. old.single id other m (IsNodeAt-from_take k ns id m p).1 (IsNodeAt-from_take k ns other m q).1;
  within = omega (arith, length-take k ns, old.within);
}

pub AreKept-push : (ns : List Node) (kept : List Kept) (n : Node) (k : Kept) → AreKept ns kept → IsKeptOf kept n k → AreKept (ns ++ n ∷ []) (kept ++ k ∷ [])
AreKept-push ns kept n k old known = record {
  sorts_are =
      map_push (λ (x : Kept). x.sort) kept k ∙ ap (λ s. kept_sorts kept ++ s ∷ []) known.sort_is
      ∙ ap (λ xs. xs ++ sort_of_node xs n ∷ []) old.sorts_are ∙ sym (sorts-push ns n);
  degrees_are = map_push (λ (x : Kept). x.degree) kept k ∙ degrees_more ns n (kept_degrees kept) k.degree old.degrees_are known.degree_is;
  lengths_are = map_push (λ (x : Kept). x.length) kept k ∙ lengths_more ns n (kept_lengths kept) k.length old.lengths_are known.length_is;
}

pub AreKept-take : (i : ℕ) (ns : List Node) (kept : List Kept) → AreKept ns kept → AreKept (take i ns) (take i kept)
AreKept-take i ns kept old = record {
  sorts_are = sym (take-map (λ (x : Kept). x.sort) i kept) ∙ ap (take i) old.sorts_are ∙ sym (sorts-take i ns);
  degrees_are = sym (take-map (λ (x : Kept). x.degree) i kept) ∙ degrees_less i ns (kept_degrees kept) old.degrees_are;
  lengths_are = sym (take-map (λ (x : Kept). x.length) i kept) ∙ lengths_less i ns (kept_lengths kept) old.lengths_are;
}

-- a new node with what is kept of it, put after the others
pub Store-push : (keys new : List Node) (kept later : List Kept) (n : Node) (k : Kept) → IsWellFormed keys → AreKept keys kept → Fits keys n → Contains keys n ⊎ IsNumbered keys n → ¬ (length keys ≡ most_nodes) → ¬ (Contains keys n) → new ≡ keys ++ n ∷ [] → IsKeptOf kept n k → later ≡ kept ++ k ∷ [] → IsWellFormed new × AreKept new later
Store-push keys new kept later n k old known fits numbered room none longer kept_of rest =
    let bound : length keys ≤ most_nodes = old.within in
    let number : IsNumbered keys n = ⊎_elim (λ has. absurd (none has)) (λ is. is) numbered in
    rw (longer, rest) (IsWellFormed-push keys n old fits number none (omega arith), AreKept-push keys kept n k known kept_of)

pub AreKept-length : (ns : List Node) (kept : List Kept) → AreKept ns kept → length kept ≡ length ns
AreKept-length ns kept known = sym (length-map kept (λ k. k.sort)) ∙ ap length known.sorts_are ∙ length-sorts ns

-- the sort that is kept of a node
pub AreKept-sort : (ns : List Node) (kept : List Kept) → AreKept ns kept → (id : ℕ) (k : Kept) → id < length ns → k ≡ get_or kept id k → k.sort ≡ sort_at ns id
AreKept-sort ns kept known id k inside read =
    let within : id < length kept = omega (arith, AreKept-length ns kept known) in
    ap (λ (x : Kept). x.sort) read ∙ sym (get_or-map (λ (x : Kept). x.sort) kept id k sort.Bool within) ∙ ap (λ xs. get_or xs id sort.Bool) known.sorts_are

-- a new node that is no `ite` of field sort needs no equalities
pub HasEqualities-push : (ns : List Node) (n : Node) → HasEqualities ns → ¬ (IsFieldIte n) → HasEqualities (ns ++ n ∷ [])
HasEqualities-push ns n old plain t c a b at =
    elim (IsNodeAt-push ns n t (IteField c a b) at) as (λ _. IsNodeAt (ns ++ n ∷ []) (t + 1) (Eq t a) × IsNodeAt (ns ++ n ∷ []) (second_equality t a b) (Eq t b)) [
      | inl before ↦ (IsNodeAt-append ns (n ∷ []) (t + 1) (Eq t a) (old t c a b before).0, IsNodeAt-append ns (n ∷ []) (second_equality t a b) (Eq t b) (old t c a b before).1)
      | inr last ↦ absurd (plain (subst IsFieldIte last.1 tt))
    ]

pub HasEqualities-nil : HasEqualities []
HasEqualities-nil t c a b at = absurd (none_at t (IteField c a b) at)

-- what `intern` leaves of a node that is no `ite` of field sort
pub HasEqualities-interned : (old new : List Node) (n : Node) (id : ℕ) → HasEqualities old → ¬ (IsFieldIte n) → IsInterned old new n id → HasEqualities new
HasEqualities-interned old new n id known plain interned =
    ⊎_elim (λ same. subst HasEqualities (sym same.1) known) (λ longer. subst HasEqualities (sym longer.1) (HasEqualities-push old n known plain)) interned.added

-- the same for what the call answers
pub HasEqualities-result : (r : Result ℕ TermStop) (old new : List Node) (n : Node) → HasEqualities old → ¬ (IsFieldIte n) → IfOk r (IsInterned old new n) → OnErr r (new ≡ old) → HasEqualities new
HasEqualities-result (Ok id) old new n known plain interned same = HasEqualities-interned old new n id known plain interned
HasEqualities-result (Err e) old new n known plain interned same = subst HasEqualities (sym same) known

-- the degree and the length that are kept of a node
pub AreKept-degree : (ns : List Node) (kept : List Kept) → AreKept ns kept → (id : ℕ) (k : Kept) → id < length ns → k ≡ get_or kept id k → k.degree ≡ capped (degree_at ns id)
AreKept-degree ns kept known id k inside read =
    let within : id < length kept = omega (arith, AreKept-length ns kept known) in
    ap (λ (x : Kept). x.degree) read ∙ sym (get_or-map (λ (x : Kept). x.degree) kept id k 0 within) ∙ ap (λ xs. get_or xs id 0) known.degrees_are
    ∙ get_or-map capped (degrees ns) id 0 0 (omega (arith, length-degrees ns))

pub AreKept-long : (ns : List Node) (kept : List Kept) → AreKept ns kept → (id : ℕ) (k : Kept) → id < length ns → k ≡ get_or kept id k → k.length ≡ capped (length_at ns id)
AreKept-long ns kept known id k inside read =
    let within : id < length kept = omega (arith, AreKept-length ns kept known) in
    ap (λ (x : Kept). x.length) read ∙ sym (get_or-map (λ (x : Kept). x.length) kept id k 0 within) ∙ ap (λ xs. get_or xs id 0) known.lengths_are
    ∙ get_or-map capped (lengths ns) id 0 0 (omega (arith, length-lengths ns))
