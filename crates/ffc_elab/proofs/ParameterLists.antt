-- The parameters of a definition while they are read.
use Rattle.std.proofs.Common.{◌≡◌, ℕ, suc, ◌+◌, ◌-◌, ◌^◌, ◌<◌, ◌≤◌, min, false, List, [], ◌∷◌, ◌++◌, All, map, drop, length, reverse, Result, Ok, Err, refl, sym, ap, ◌∙◌, subst, arith, append_assoc, append-nil, length-append}
use Rattle.std.proofs.lemmas.List.{map-append, reverse-append}
use Rattle.std.proofs.lemmas.List.Elements.{All-nil, All-cons, All-head, All-tail}
use Rattle.ffc_lex.specs.declared.tokens.TokenKind.TheVariants as kinds
use Rattle.ffc_term.specs.declared.node.Sort.{Sort}
use Rattle.ffc_smt.specs.Trees.{Word, Tree, Leaf, Group, Trees, Empty, First, items_of, tokens_of, tokens_of_items}
use Rattle.ffc_smt.specs.FaultLaws.{IsWordBefore}
use Rattle.ffc_smt.specs.TreeShapes.{is_parenthesis}
use Rattle.ffc_smt.specs.Meaning.{Env}
use Rattle.ffc_smt.specs.Terms.{Name, Parameter}
use Rattle.ffc_smt.specs.Faults.{Fault, word_fault, Read}
use Rattle.ffc_smt.specs.Scopes.{State, scope_of}
use Rattle.ffc_smt.specs.TermReading.{Named}
use Rattle.ffc_smt.specs.CommandReading.{parameters_of, parameters_read}
use Rattle.ffc_lex.specs.declared.faults.ScriptFault.{ScriptFault}
use Rattle.ffc_words.specs.declared.faults.TakeStop.{TakeStop}
use Rattle.ffc_words.specs.declared.faults.TakeStop.TheVariants as stop
use Rattle.ffc_words.specs.Words.{IsTreeAt, AreItemsAt, word_at, fault_of}
use Rattle.ffc_words.specs.Outcomes.{outcome}
use Rattle.ffc_elab.specs.declared.parameters.Parameters.{Parameters}
use Rattle.ffc_elab.specs.Reading.{AreInOrder, and_then}
use Rattle.ffc_elab.specs.Defining.{parameter_after, pair_of, Adds, AreParameters, ReadsParameters, ReadsInside, ReadsParameterItem}
use Rattle.ffc_elab.proofs.ChangeLemmas.{sound_of}
use Rattle.ffc_elab.proofs.OutcomeLemmas.{tokens_front, drop_plus, word_at_items, front_kind}
use Rattle.ffc_elab.proofs.ItemLemmas.{first_tree, after_first, order_drop}
use Rattle.ffc_elab.proofs.ParameterLemmas.{after, read_one, parameter_stops, parameter_goes}
use Rattle.ffc_elab.proofs.ParameterReading.{items_inside, inside_of}

-- some parameters are read, and others are left
pub record IsUnderway (s : State) (words : List Word) (at : ℕ) (items : Trees) (closing : Word) (rest : List Word) (p : Parameters) (next : ℕ) : Type 0 where
  pub left : Trees
  pub here : AreItemsAt words next left closing rest
  pub order : AreInOrder (drop next words)
  pub done : List Parameter
  pub before : List Named
  pub same : map (λ n. n.name) before ≡ map (λ x. x.0) p.names
  pub names : p.names ≡ reverse (map pair_of done)
  pub sorts_are : p.sorts.items ≡ map (λ q. q.sort) done
  pub whole : outcome (parameters_of (map (read_one s) (items_of items))) ≡ and_then (outcome (after s before (map (read_one s) (items_of left)))) (λ qs. Ok (done ++ qs))
  pub next_is : next + length (tokens_of_items left) ≡ at + length (tokens_of_items items)

same_ok : {A : Type 0} (r : Result A Fault) → r ≡ and_then r (λ qs. Ok qs)
same_ok (Ok a) = refl
same_ok (Err e) = refl

more_ok : (r : Result (List Parameter) Fault) (done : List Parameter) (p : Parameter) → and_then (and_then r (λ qs. Ok (p ∷ qs))) (λ qs. Ok (done ++ qs)) ≡ and_then r (λ qs. Ok ((done ++ p ∷ []) ++ qs))
more_ok (Ok qs) done p = ap Ok (sym (append_assoc done (p ∷ []) qs))
more_ok (Err e) done p = refl

first_length : (t : Tree) (ts : Trees) → length (tokens_of_items (First t ts)) ≡ length (tokens_of t) + length (tokens_of_items ts)
unfolding tokens_of
first_length t ts = length-append (tokens_of t) (tokens_of_items ts)

all_left : {A : Type 0} (P : A → Type 0) (xs ys : List A) → All P (xs ++ ys) → All P xs
all_left P [] ys h = All-nil P
all_left P (x ∷ xs) ys h = All-cons P x xs (All-head P x (xs ++ ys) h) (all_left P xs ys (All-tail P x (xs ++ ys) h))

order_first : (xs ys : List Word) → AreInOrder (xs ++ ys) → AreInOrder xs
order_first [] ys h = tt
order_first (x ∷ xs) ys h = (all_left (IsWordBefore x) xs ys h.0, order_first xs ys h.1)

more_reversed : (done : List Parameter) (p : Parameter) → reverse (map pair_of (done ++ p ∷ [])) ≡ pair_of p ∷ reverse (map pair_of done)
more_reversed done p = ap reverse (map-append pair_of done (p ∷ [])) ∙ reverse-append (map pair_of done) (pair_of p ∷ [])

module _ (s : State) (words : List Word) (at : ℕ) (items : Trees) (closing : Word) (rest : List Word) where
  pub begins : AreItemsAt words at items closing rest → AreInOrder (drop at words) → (p : Parameters) → p.names ≡ [] → p.sorts.items ≡ [] → IsUnderway s words at items closing rest p at
  begins there order p names sorts = record {
    left = items;
    here = there;
    order = order;
    done = [];
    before = [];
    same = ap (map (λ (x : Name × Sort). x.0)) (sym names);
    names = names;
    sorts_are = sorts;
    whole = same_ok (outcome (parameters_of (map (read_one s) (items_of items))));
    next_is = refl;
  }

  module _ (sorts : Env Sort) (sorts_is : sorts ≡ (scope_of s).sorts) (p : Parameters) (next : ℕ) where
    ended : (left : Trees) → AreItemsAt words next left closing rest → (word_at words next).kind ≡ kinds.RightParen → left ≡ Empty
    ended Empty here e = refl
    ended (First t ts) here e = absurd (front_kind t here.proper.0 (ap (λ w. w.kind) (sym (word_at_items words next (First t ts) closing rest here)) ∙ e))

    -- the list ends here
    pub ends : IsUnderway s words at items closing rest p next → (word_at words next).kind ≡ kinds.RightParen → length words ≤ 2 ^ 64 - 1 → (stop : ℕ) → stop ≡ min (next + 1) (2 ^ 64 - 1)
        → AreParameters (parameters_of (map (read_one s) (items_of items))) at (length (tokens_of_items items ++ closing ∷ [])) p stop
    unfolding items_of tokens_of
    ends h e few stop is =
        let empty = ended h.left h.here e in
        let inside = items_inside words next h.left closing rest h.here in
        let none = ap (λ ts. length (tokens_of_items ts)) empty in
        let place = h.next_is in
        record {
          parameters = h.done;
          sound = sound_of (parameters_of (map (read_one s) (items_of items))) h.done
              (h.whole ∙ ap (λ ts. and_then (outcome (after s h.before (map (read_one s) (items_of ts)))) (λ qs. Ok (h.done ++ qs))) empty ∙ ap Ok (append-nil h.done));
          names = h.names;
          sorts_are = h.sorts_are;
          next_is = omega (arith, few, inside, none, place, is, length-append (tokens_of_items items) (closing ∷ []));
        }

    module _ (n : (word_at words next).kind ≡ kinds.RightParen → ⊥) where
      some_left : (A : Type 0) → AreItemsAt words next Empty closing rest → A
      some_left A here = absurd (n (ap (λ w. w.kind) (word_at_items words next Empty closing rest here) ∙ here.closed))

      left_order : (left : Trees) → AreItemsAt words next left closing rest → AreInOrder (drop next words) → AreInOrder (tokens_of_items left)
      left_order left here order = order_first (tokens_of_items left) (closing ∷ rest) (subst AreInOrder here.text order)

      -- a fault of the next one is the first of all
      pub stops_at : (old new : Parameters) (why : TakeStop) → old ≡ p → IsUnderway s words at items closing rest p next → ((t : Tree) (more : List Word) → IsTreeAt words next t more → Adds sorts old new t next (Err why))
          → ReadsInside s items closing at (Err why)
      stops_at old new stop.Memory e h adds = tt
      stops_at old new (stop.Fault f) e h adds = h.whole ∙ ap (λ r. and_then r (λ qs. Ok (h.done ++ qs))) (by_left h.left h.here)
        where
          by_left : (left : Trees) → AreItemsAt words next left closing rest → outcome (after s h.before (map (read_one s) (items_of left))) ≡ Err (fault_of f)
          by_left Empty here = some_left _ here
          by_left (First t ts) here =
              parameter_stops s h.before p.names h.same t ts (fault_of f) (left_order (First t ts) here h.order)
              (ap (λ v. parameter_after v p.names t) (sym sorts_is) ∙ ap (λ q. parameter_after sorts q.names t) (sym e) ∙ adds t (tokens_of_items ts ++ closing ∷ rest) (first_tree words next t ts closing rest here))

      -- one more is read
      pub goes_on : (old new : Parameters) (later : ℕ) → old ≡ p → IsUnderway s words at items closing rest p next → ((t : Tree) (more : List Word) → IsTreeAt words next t more → Adds sorts old new t next (Ok later))
          → IsUnderway s words at items closing rest new later
      goes_on old new later e h adds = by_left h.left h.here h.whole h.next_is
        where
          by_left : (left : Trees) → AreItemsAt words next left closing rest
              → outcome (parameters_of (map (read_one s) (items_of items))) ≡ and_then (outcome (after s h.before (map (read_one s) (items_of left)))) (λ qs. Ok (h.done ++ qs))
              → next + length (tokens_of_items left) ≡ at + length (tokens_of_items items) → IsUnderway s words at items closing rest new later
          by_left Empty here whole place = some_left _ here
          by_left (First t ts) here whole place =
              let it = adds t (tokens_of_items ts ++ closing ∷ rest) (first_tree words next t ts closing rest here) in
              let one : Parameter = record { name = it.name; sort = it.sort } in
              let reads = ap (λ v. parameter_after v p.names t) (sym sorts_is) ∙ ap (λ q. parameter_after sorts q.names t) (sym e) ∙ it.it.reads in
              let g = parameter_goes s h.before p.names h.same t ts it.name it.sort (left_order (First t ts) here h.order) reads in
              let places = it.it.next_is in
              record {
                left = ts;
                here = subst (λ k. AreItemsAt words k ts closing rest) (sym it.it.next_is) (after_first words next t ts closing rest here);
                order = subst (λ k. AreInOrder (drop k words)) (sym it.it.next_is) (subst AreInOrder (sym (drop_plus (length (tokens_of t)) next words)) (order_drop (length (tokens_of t)) (drop next words) h.order));
                done = h.done ++ one ∷ [];
                before = g.named ∷ h.before;
                same = ap (λ v. v ∷ map (λ (m : Named). m.name) h.before) g.is ∙ ap (λ v. it.name ∷ v) (h.same ∙ ap (λ q. map (λ (x : Name × Sort). x.0) q.names) (sym e)) ∙ ap (map (λ (x : Name × Sort). x.0)) (sym it.names);
                names = it.names ∙ ap (λ q. (it.name, it.sort) ∷ q.names) e ∙ ap (λ v. (it.name, it.sort) ∷ v) h.names ∙ sym (more_reversed h.done one);
                sorts_are = it.sorts_are ∙ ap (λ q. q.sorts.items ++ it.sort ∷ []) e ∙ ap (λ v. v ++ it.sort ∷ []) h.sorts_are ∙ sym (map-append (λ (q : Parameter). q.sort) h.done (one ∷ []));
                whole = whole ∙ ap (λ r. and_then r (λ qs. Ok (h.done ++ qs))) g.others ∙ more_ok (outcome (after s (g.named ∷ h.before) (map (read_one s) (items_of ts)))) h.done one;
                next_is = let first_long = first_length t ts in omega (arith, places, place, first_long);
              }

-- a place that goes on is greater
pub goes_further : (s : State) (words : List Word) (at : ℕ) (items : Trees) (closing : Word) (rest : List Word) (p new : Parameters) (next later : ℕ) → (h : IsUnderway s words at items closing rest p next)
    → ((word_at words next).kind ≡ kinds.RightParen → ⊥) → (sorts : Env Sort) → ((t : Tree) (more : List Word) → IsTreeAt words next t more → Adds sorts p new t next (Ok later)) → next < later
goes_further s words at items closing rest p new next later h n sorts adds = by_left h.left h.here
  where
    by_left : (left : Trees) → AreItemsAt words next left closing rest → next < later
    by_left Empty here = absurd (n (ap (λ w. w.kind) (word_at_items words next Empty closing rest here) ∙ here.closed))
    by_left (First t ts) here =
        let it = adds t (tokens_of_items ts ++ closing ∷ rest) (first_tree words next t ts closing rest here) in
        let place = it.it.next_is in
        let some = ap (λ (ws : List Word). length ws) (tokens_front t) in
        omega (arith, place, some)

-- The list as an item

moved : (read : Read (List Parameter)) (i m k n : ℕ) (r : Result (Parameters × ℕ) TakeStop) → m + k ≡ i + n → ReadsParameters read m k r → ReadsParameters read i n r
moved read i m k n (Ok (p, next)) e h = let place = h.next_is in record { parameters = h.parameters; sound = h.sound; names = h.names; sorts_are = h.sorts_are; next_is = omega (arith, place, e) }
moved read i m k n (Err (stop.Fault f)) e h = h
moved read i m k n (Err stop.Memory) e h = tt

group_length : (o : Word) (is : Trees) (c : Word) → length (tokens_of (Group o is c)) ≡ 1 + length (tokens_of_items is ++ c ∷ [])
unfolding tokens_of
group_length o is c = omega arith

module _ (s : State) (words : List Word) (i : ℕ) (closing : Word) (rest : List Word) where
  pub item_none : (items : Trees) (f : ScriptFault) → AreItemsAt words i items closing rest → ((word_at words i).kind ≡ kinds.LeftParen → ⊥) → fault_of f ≡ word_fault 5 (word_at words i)
      → ReadsParameterItem s items closing i (Err (stop.Fault f))
  item_none Empty f at n e = sym (e ∙ ap (word_fault 5) (word_at_items words i Empty closing rest at))
  item_none (First (Leaf w) ts) f at n e = ap Err (sym (e ∙ ap (word_fault 5) (word_at_items words i (First (Leaf w) ts) closing rest at)))
  item_none (First (Group o is c) ts) f at n e = absurd (n (ap (λ w. w.kind) (word_at_items words i (First (Group o is c) ts) closing rest at) ∙ at.proper.0.0))

  pub item_some : (items : Trees) (r : Result (Parameters × ℕ) TakeStop) (m : ℕ) → AreItemsAt words i items closing rest → AreInOrder (drop i words) → (word_at words i).kind ≡ kinds.LeftParen → length words ≤ 2 ^ 64 - 1
      → m ≡ min (i + 1) (2 ^ 64 - 1) → ((is : Trees) (c : Word) (more : List Word) → AreItemsAt words m is c more → AreInOrder (drop m words) → ReadsInside s is c m r) → ReadsParameterItem s items closing i r
  item_some Empty r m at order e few is_m h = let q : kinds.RightParen ≡ kinds.LeftParen = sym at.closed ∙ ap (λ w. w.kind) (sym (word_at_items words i Empty closing rest at)) ∙ e in cc
  item_some (First (Leaf w) ts) r m at order e few is_m h =
      let q : is_parenthesis kinds.LeftParen ≡ false = ap is_parenthesis (sym e) ∙ ap (λ v. is_parenthesis v.kind) (word_at_items words i (First (Leaf w) ts) closing rest at) ∙ at.proper.0 in cc
  item_some (First (Group o is c) ts) r m at order e few is_m h =
      let more = tokens_of_items ts ++ closing ∷ rest in
      let inner = inside_of [] [] words i few o c is more (first_tree words i (Group o is c) ts closing rest at) in
      let inside = items_inside words (suc i) is c more inner in
      let place : m ≡ suc i = omega (arith, few, inside, is_m) in
      let one_more : m ≡ i + 1 = omega (arith, place) in
      let long = group_length o is c in
      moved (parameters_read s (Group o is c)) i m (length (tokens_of_items is ++ c ∷ [])) (length (tokens_of (Group o is c))) r (omega (arith, place, long))
      (h is c more (subst (λ k. AreItemsAt words k is c more) (sym place) inner) (subst (λ k. AreInOrder (drop k words)) (sym one_more) (subst AreInOrder (sym (drop_plus 1 i words)) (order_drop 1 (drop i words) order))))
