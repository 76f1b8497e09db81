-- What a function makes of a table is a table.
use Rattle.std.proofs.Common.{◌≡◌, ℕ, ◌+◌, ◌<◌, ◌≤◌, ◌⊎◌, inl, inr, ⊎_elim, ◌==◌, if◌then◌else◌, Bool, true, false, cond, List, [], ◌∷◌, ◌++◌, length, take, All, Contains, refl, sym, ap, ◌∙◌, subst, arith, append_assoc, length-append}
use Rattle.std.specs.List.{list_any}
use Rattle.std.proofs.lemmas.Bool.{cases_eq}
use Rattle.std.proofs.lemmas.List.Elements.{All-cons, All-nil}
use Rattle.std.proofs.lemmas.List.Sums.{sum_by_push}
use Rattle.std.proofs.lemmas.Map.Views.{Contains-from_any}
use Rattle.std.proofs.lemmas.Option.{slice_get_within}
use Rattle.ffc_term.specs.declared.node.Node.{Node}
use Rattle.ffc_term.specs.declared.node.Node.TheVariants as node
use Rattle.ffc_term.specs.declared.node.Sort.{Sort}
use Rattle.ffc_term.specs.declared.node.Sort.TheVariants as sort
use Rattle.ffc_term.specs.contracts.node.NodePartialEq.TheImpl as by_parts
use Rattle.ffc_term.specs.Nodes.{IsNodeAt, sort_at, sort_in, sorts, sort_of_node, children, is_constant}
use Rattle.ffc_term.specs.Tables.{IsWellFormed, Fits, IsNumbered, IsFieldIte, AreBoolean, AreOfOneField, constant_count, ite_nodes, most_nodes}
use Rattle.ffc_term.proofs.NodeLemmas.{same_node, not_Contains-from_any, IsNodeAt-from_Contains, Contains-from_IsNodeAt, IsNodeAt-append, IsNodeAt-last}
use Rattle.ffc_term.proofs.TableLemmas.{sort_at-is, sort_at-take, IsWellFormed-push, HasEqualities-push}
use Rattle.ffc_term.proofs.WalkLemmas.{child_below}
use Rattle.ffc_term.proofs.IteLemmas.{no_equality, no_second_equality, fits_first, fits_second, HasEqualities-ite}
use Rattle.ffc_smt.specs.Terms.{Operator, Not, And, Or, Xor, Implies, Equal, Distinct, Ite, Add, Mul, Neg, Bitsum}
use Rattle.ffc_smt.specs.Making.{Made, AllMade, interned, constant_node, equality_of, equality, neighbours, difference, differences_from, differences, exclusive, implication, implications, choice, conjoined, applied_made}
use Rattle.ffc_smt.specs.WellSorted.{AreAll, Takes}
use Rattle.ffc_smt.specs.States.{IsTableWith}
use Rattle.ffc_smt.proofs.Extends.{Extends, extends_same, longer, sort_stays, node_stays, interned_at, interned_extends, equality_extends, difference_extends, implication_extends, neighbours_extend, differences_from_extend, differences_extend, exclusive_extends, implications_extend}
use Rattle.ffc_smt.proofs.Again.{interned_there, with_second, with_equalities}
use Rattle.ffc_smt.proofs.InterningLemmas.{with_table, interned_absent, choice_there, nodes_same, nodes_other, two_behind, three_behind}

-- the node numbered id is of this sort
abbrev pub IsAt : List Node → Sort → ℕ → Type 0
IsAt ns s id = (id < length ns) × (sort_at ns id ≡ s)

abbrev pub AllAt : List Node → Sort → List ℕ → Type 0
AllAt ns s [] = Unit {0}
AllAt ns s (a ∷ ids) = IsAt ns s a × AllAt ns s ids

-- each is of its sort
abbrev pub EachAt : List Node → List Sort → List ℕ → Type 0
EachAt ns [] [] = Unit {0}
EachAt ns [] (a ∷ ids) = ⊥
EachAt ns (s ∷ ss) [] = ⊥
EachAt ns (s ∷ ss) (a ∷ ids) = IsAt ns s a × EachAt ns ss ids

pub at_stays : (old new : List Node) (s : Sort) (a : ℕ) → Extends old new → IsAt old s a → IsAt new s a
at_stays old new s a further h = (let long = longer old new further in omega (arith, h.0), sort_stays old new a further h.0 ∙ h.1)

pub all_at_stays : (ids : List ℕ) (old new : List Node) (s : Sort) → Extends old new → AllAt old s ids → AllAt new s ids
all_at_stays [] old new s further h = tt
all_at_stays (a ∷ ids) old new s further h = (at_stays old new s a further h.0, all_at_stays ids old new s further h.1)

all_at_append : (ids more : List ℕ) (ns : List Node) (s : Sort) → AllAt ns s ids → AllAt ns s more → AllAt ns s (ids ++ more)
all_at_append [] more ns s h g = g
all_at_append (a ∷ ids) more ns s h g = (h.0, all_at_append ids more ns s h.1 g)

pub each_all : (ss : List Sort) (ids : List ℕ) (ns : List Node) (s : Sort) → AreAll s ss → EachAt ns ss ids → AllAt ns s ids
each_all [] [] ns s h g = tt
each_all [] (a ∷ ids) ns s h g = absurd g
each_all (t ∷ ss) [] ns s h g = absurd g
each_all (t ∷ ss) (a ∷ ids) ns s h g = (subst (λ u. IsAt ns u a) h.0 g.0, each_all ss ids ns s h.1 g.1)

all_from : (ids : List ℕ) (ns : List Node) (s : Sort) → AllAt ns s ids → All (IsAt ns s) ids
all_from [] ns s h = All-nil (IsAt ns s)
all_from (a ∷ ids) ns s h = All-cons (IsAt ns s) a ids h.0 (all_from ids ns s h.1)

pub booleans : (ids : List ℕ) (ns : List Node) → 0 < length ids → AllAt ns sort.Bool ids → AreBoolean ns ids
booleans ids ns some h = record { some = some; each = all_from ids ns sort.Bool h }

pub one_field : (ids : List ℕ) (ns : List Node) (p : ℕ) → 0 < length ids → AllAt ns (sort.Field p) ids → AreOfOneField ns ids
one_field ids ns p some h = record { some = some; order = p; each = all_from ids ns (sort.Field p) h }

-- no constant, and no `ite` of field sort
abbrev pub IsPlain : Node → Type 0
IsPlain (node.BoolConst k) = ⊥
IsPlain (node.FieldConst k p) = ⊥
IsPlain (node.IteField c a b) = ⊥
IsPlain _ = Unit {0}

pub plain_numbered : (ns : List Node) (n : Node) → IsPlain n → IsNumbered ns n
plain_numbered ns (node.BoolConst k) h = absurd h
plain_numbered ns (node.FieldConst k p) h = absurd h
plain_numbered ns (node.IteField c a b) h = absurd h
plain_numbered ns _ h = tt

plain_uncounted : (n : Node) → IsPlain n → is_constant n ≡ false
plain_uncounted (node.BoolConst k) h = absurd h
plain_uncounted (node.FieldConst k p) h = absurd h
plain_uncounted (node.IteField c a b) h = absurd h
plain_uncounted _ h = refl

plain_no_ite : (n : Node) → IsPlain n → ¬ (IsFieldIte n)
plain_no_ite (node.IteField c a b) h = λ i. h
plain_no_ite _ h = λ i. i

uncounted : (ns : List Node) (n : Node) → is_constant n ≡ false → constant_count (ns ++ n ∷ []) ≡ constant_count ns
uncounted ns n e = sum_by_push (λ x. cond (is_constant x) 1 0) ns n ∙ ap (λ b. constant_count ns + cond b 1 0) e ∙ omega arith

pub contains_behind : (ns more : List Node) (n : Node) → Contains ns n → Contains (ns ++ more) n
contains_behind ns more n has = let there = IsNodeAt-from_Contains ns n has in Contains-from_IsNodeAt (ns ++ more) there.0 n (IsNodeAt-append ns more there.0 n there.1)

-- a node is in a table, or is not
pub there_or_not : (ns : List Node) (n : Node) → ((id : ℕ) × IsNodeAt ns id n) ⊎ ¬ (Contains ns n)
there_or_not ns n = by_test (list_any ((by_parts.ghosts).eq n) ns) refl
  where
    by_test : (b : Bool) → list_any ((by_parts.ghosts).eq n) ns ≡ b → ((id : ℕ) × IsNodeAt ns id n) ⊎ ¬ (Contains ns n)
    by_test true e = inl (IsNodeAt-from_Contains ns n (Contains-from_any same_node n ns e))
    by_test false e = inr (not_Contains-from_any ns n e)

pub room_before : (old new : List Node) → Extends old new → length new ≤ most_nodes → length old ≤ most_nodes
room_before old new further room = let long = longer old new further in omega (arith, room)

module _ (cs : List Sort) (count : ℕ) where
  abbrev pub Good : List Node → Type 0
  Good ns = IsTableWith cs count ns

  abbrev pub Room : List Node → Type 0
  Room ns = length ns ≤ most_nodes

  -- a table, and in it a node of this sort
  abbrev pub Makes : Made → Sort → Type 0
  Makes m s = Good m.nodes × IsAt m.nodes s m.id

  good_push : (ns : List Node) (n : Node) → Good ns → Fits ns n → IsPlain n → ¬ (Contains ns n) → Room (ns ++ n ∷ []) → Good (ns ++ n ∷ [])
  good_push ns n good fits plain absent room = record {
    table = record {
      well_formed = IsWellFormed-push ns n good.table.well_formed fits (plain_numbered ns n plain) absent (omega (arith, room, length-append ns (n ∷ [])));
      equalities = HasEqualities-push ns n good.table.equalities (plain_no_ite n plain);
    };
    declared = λ k s e. contains_behind ns (n ∷ []) (constant_node k s) (good.declared k s e);
    counted = uncounted ns n (plain_uncounted n plain) ∙ good.counted;
  }

  interned_good : (ns : List Node) (n : Node) → Good ns → Fits ns n → IsPlain n → Room (interned ns n).nodes → Good (interned ns n).nodes
  interned_good ns n good fits plain room =
      ⊎_elim
      (λ there. subst (λ m. Good m.nodes) (sym (interned_there ns n there.0 good.table.well_formed there.1)) good)
      (λ absent.
      let is = interned_absent ns n absent in
      subst (λ m. Good m.nodes) (sym is) (good_push ns n good fits plain absent (subst (λ m. Room m.nodes) is room)))
      (there_or_not ns n)

  -- a node whose sort its kind tells
  pub fixed_made : (ns : List Node) (n : Node) (s : Sort) → ((ss : List Sort) → sort_of_node ss n ≡ s) → Good ns → Fits ns n → IsPlain n → Room (interned ns n).nodes → Makes (interned ns n) s
  fixed_made ns n s is good fits plain room =
      let m = interned ns n in
      let at = interned_at ns n in
      (interned_good ns n good fits plain room, (slice_get_within m.nodes m.id n at, sort_at-is m.nodes m.id n at ∙ is (sorts (take m.id m.nodes))))

  bool_made : (ns : List Node) (n : Node) → ((ss : List Sort) → sort_of_node ss n ≡ sort.Bool) → Good ns → Fits ns n → IsPlain n → Room (interned ns n).nodes → Makes (interned ns n) sort.Bool
  bool_made ns n is good fits plain room = fixed_made ns n sort.Bool is good fits plain room

  -- a node has the sort of a child where it is so by its kind
  child_sort : (ns new : List Node) (id a : ℕ) (n : Node) (s : Sort) → Extends ns new → IsWellFormed new → IsNodeAt new id n → Contains (children n) a
      → ((ss : List Sort) → sort_of_node ss n ≡ sort_in ss a) → IsAt ns s a → IsAt new s id
  child_sort ns new id a n s further formed at child is h =
      let below : a < id = child_below new id a n formed at child in (
        slice_get_within new id n at,
        sort_at-is new id n at ∙ is (sorts (take id new)) ∙ sort_at-take id new a below ∙ (at_stays ns new s a further h).1,
      )

  child_made : (ns : List Node) (n : Node) (a : ℕ) (s : Sort) → Contains (children n) a → ((ss : List Sort) → sort_of_node ss n ≡ sort_in ss a) → IsAt ns s a
      → Good ns → Fits ns n → IsPlain n → Room (interned ns n).nodes → Makes (interned ns n) s
  child_made ns n a s child is h good fits plain room =
      let m = interned ns n in
      let all = interned_good ns n good fits plain room in
      (all, child_sort ns m.nodes m.id a n s (interned_extends ns n) all.table.well_formed (interned_at ns n) child is h)

  pub equality_by : (s : Sort) (ns : List Node) (a b : ℕ) → IsAt ns s a → IsAt ns s b → Good ns → Room (interned ns (equality_of s a b)).nodes → Makes (interned ns (equality_of s a b)) sort.Bool
  equality_by sort.Bool ns a b g h good room = bool_made ns (node.Iff a b) (λ ss. refl) good (g, h) tt room
  equality_by (sort.Field p) ns a b g h good room = bool_made ns (node.Eq a b) (λ ss. refl) good (one_field (a ∷ b ∷ []) ns p (omega arith) (g, (h, tt))) tt room

  pub equality_good : (ns : List Node) (a b : ℕ) (s : Sort) → IsAt ns s a → IsAt ns s b → Good ns → Room (equality ns a b).nodes → Makes (equality ns a b) sort.Bool
  unfolding equality
  equality_good ns a b s g h good room =
      subst (λ t. Room (interned ns (equality_of t a b)).nodes → Makes (interned ns (equality_of t a b)) sort.Bool) (sym g.1) (λ short. equality_by s ns a b g h good short) room

  pub not_good : (ns : List Node) (a : ℕ) → IsAt ns sort.Bool a → Good ns → Room (interned ns (node.Not a)).nodes → Makes (interned ns (node.Not a)) sort.Bool
  not_good ns a h good room = bool_made ns (node.Not a) (λ ss. refl) good h tt room

  pub difference_good : (ns : List Node) (a b : ℕ) (s : Sort) → IsAt ns s a → IsAt ns s b → Good ns → Room (difference ns a b).nodes → Makes (difference ns a b) sort.Bool
  unfolding difference
  difference_good ns a b s g h good room =
      let e = equality ns a b in
      let before = equality_good ns a b s g h good (room_before e.nodes (interned e.nodes (node.Not e.id)).nodes (interned_extends e.nodes (node.Not e.id)) room) in
      not_good e.nodes e.id before.1 before.0 room

  -- the same of several nodes
  abbrev pub AllMakes : AllMade → Sort → Type 0
  AllMakes m s = Good m.nodes × AllAt m.nodes s m.ids

  pub neighbours_good : (ids : List ℕ) (ns : List Node) (a : ℕ) (s : Sort) → IsAt ns s a → AllAt ns s ids → Good ns → Room (neighbours ns a ids).nodes → AllMakes (neighbours ns a ids) sort.Bool
  unfolding neighbours
  neighbours_good [] ns a s g h good room = (good, tt)
  neighbours_good (b ∷ rest) ns a s g h good room =
      let e = equality ns a b in
      let more = neighbours_extend rest e.nodes b in
      let step = equality_extends ns a b in
      let before = equality_good ns a b s g h.0 good (room_before e.nodes (neighbours e.nodes b rest).nodes more room) in
      let others = neighbours_good rest e.nodes b s (at_stays ns e.nodes s b step h.0) (all_at_stays rest ns e.nodes s step h.1) before.0 room in
      (others.0, (at_stays e.nodes (neighbours e.nodes b rest).nodes sort.Bool e.id more before.1, others.1))

  pub differences_from_good : (ids : List ℕ) (ns : List Node) (a : ℕ) (s : Sort) → IsAt ns s a → AllAt ns s ids → Good ns → Room (differences_from ns a ids).nodes → AllMakes (differences_from ns a ids) sort.Bool
  unfolding differences_from
  differences_from_good [] ns a s g h good room = (good, tt)
  differences_from_good (b ∷ rest) ns a s g h good room =
      let d = difference ns a b in
      let more = differences_from_extend rest d.nodes a in
      let step = difference_extends ns a b in
      let before = difference_good ns a b s g h.0 good (room_before d.nodes (differences_from d.nodes a rest).nodes more room) in
      let others = differences_from_good rest d.nodes a s (at_stays ns d.nodes s a step g) (all_at_stays rest ns d.nodes s step h.1) before.0 room in
      (others.0, (at_stays d.nodes (differences_from d.nodes a rest).nodes sort.Bool d.id more before.1, others.1))

  pub differences_good : (ids : List ℕ) (ns : List Node) (s : Sort) → AllAt ns s ids → Good ns → Room (differences ns ids).nodes → AllMakes (differences ns ids) sort.Bool
  unfolding differences
  differences_good [] ns s h good room = (good, tt)
  differences_good (a ∷ rest) ns s h good room =
      let first = differences_from ns a rest in
      let others = differences first.nodes rest in
      let more = differences_extend rest first.nodes in
      let before = differences_from_good rest ns a s h.0 h.1 good (room_before first.nodes others.nodes more room) in
      let after = differences_good rest first.nodes s (all_at_stays rest ns first.nodes s (differences_from_extend rest ns a) h.1) before.0 room in
      (after.0, all_at_append first.ids others.ids others.nodes sort.Bool (all_at_stays first.ids first.nodes others.nodes sort.Bool more before.1) after.1)

  conjoined_good : (m : AllMade) → 0 < length m.ids → AllMakes m sort.Bool → Room (conjoined m).nodes → Makes (conjoined m) sort.Bool
  conjoined_good m some h room = bool_made m.nodes (node.And m.ids) (λ ss. refl) h.0 (booleans m.ids m.nodes some h.1) tt room

  pub exclusive_good : (ids : List ℕ) (ns : List Node) (a : ℕ) → IsAt ns sort.Bool a → AllAt ns sort.Bool ids → Good ns → Room (exclusive ns a ids).nodes → Makes (exclusive ns a ids) sort.Bool
  unfolding exclusive
  exclusive_good [] ns a g h good room = (good, g)
  exclusive_good (b ∷ rest) ns a g h good room =
      let x = interned ns (node.Xor a b) in
      let before = bool_made ns (node.Xor a b) (λ ss. refl) good (g, h.0) tt (room_before x.nodes (exclusive x.nodes x.id rest).nodes (exclusive_extends rest x.nodes x.id) room) in
      exclusive_good rest x.nodes x.id before.1 (all_at_stays rest ns x.nodes sort.Bool (interned_extends ns (node.Xor a b)) h.1) before.0 room

  pub implication_good : (ns : List Node) (a b : ℕ) → IsAt ns sort.Bool a → IsAt ns sort.Bool b → Good ns → Room (implication ns a b).nodes → Makes (implication ns a b) sort.Bool
  unfolding implication
  implication_good ns a b g h good room =
      let m = interned ns (node.Not a) in
      let o = node.Or (m.id ∷ b ∷ []) in
      let before = not_good ns a g good (room_before m.nodes (interned m.nodes o).nodes (interned_extends m.nodes o) room) in
      bool_made m.nodes o (λ ss. refl) before.0
      (booleans (m.id ∷ b ∷ []) m.nodes (omega arith) (before.1, (at_stays ns m.nodes sort.Bool b (interned_extends ns (node.Not a)) h, tt))) tt room

  pub implications_good : (ids : List ℕ) (ns : List Node) (a : ℕ) → IsAt ns sort.Bool a → AllAt ns sort.Bool ids → Good ns → Room (implications ns a ids).nodes → Makes (implications ns a ids) sort.Bool
  unfolding implications
  implications_good [] ns a g h good room = (good, g)
  implications_good (b ∷ rest) ns a g h good room =
      let last = implications ns b rest in
      let before = implications_good rest ns b h.0 h.1 good (room_before last.nodes (implication last.nodes a last.id).nodes (implication_extends last.nodes a last.id) room) in
      implication_good last.nodes a last.id (at_stays ns last.nodes sort.Bool a (implications_extend rest ns b) g) before.1 before.0 room

  -- to the sort that is wanted
  of_sort : (m : Made) (s t : Sort) → s ≡ t → Makes m t → Makes m s
  of_sort m s t e h = subst (Makes m) (sym e) h

  -- An `ite` of field sort that is new, with its equalities

  abbrev IsPut : List Node → List Node → Type 0
  IsPut ns new = IsWellFormed new × (constant_count new ≡ constant_count ns)

  ite_put : (ns : List Node) (c a b : ℕ) → Good ns → Fits ns (node.IteField c a b) → ¬ (Contains ns (node.IteField c a b))
      → Room (with_equalities a b (with_table (length ns) (ns ++ node.IteField c a b ∷ []))).nodes
      → (with_equalities a b (with_table (length ns) (ns ++ node.IteField c a b ∷ [])) ≡ with_table (length ns) (ns ++ ite_nodes (length ns) c a b)) × IsPut ns (ns ++ ite_nodes (length ns) c a b)
  ite_put ns c a b good fits absent room =
      let t = length ns in
      let x = node.IteField c a b in
      let one = ns ++ x ∷ [] in
      let two = one ++ node.Eq t a ∷ [] in
      let first = interned one (node.Eq t a) in
      let second = interned first.nodes (node.Eq t b) in
      let short_first = room_before first.nodes second.nodes (interned_extends first.nodes (node.Eq t b)) room in
      let short_one = room_before one first.nodes (interned_extends one (node.Eq t a)) short_first in
      let long_one : length one ≡ t + 1 = omega (arith, length-append ns (x ∷ [])) in
      let formed_one = IsWellFormed-push ns x good.table.well_formed fits tt absent (omega (arith, short_one, long_one)) in
      let no_first = no_equality one t a formed_one (omega (arith, long_one)) in
      let is_first = interned_absent one (node.Eq t a) no_first in
      let short_two : length two ≤ most_nodes = subst (λ m. length m.nodes ≤ most_nodes) is_first short_first in
      let formed_two = IsWellFormed-push one (node.Eq t a) formed_one (fits_first ns c a b fits) tt no_first (omega (arith, short_two, length-append one (node.Eq t a ∷ []))) in
      let counted_two = uncounted one (node.Eq t a) refl ∙ uncounted ns x refl in
      ⊎_elim
      (λ same.
      let whole : two ≡ ns ++ ite_nodes t c a b = two_behind ns x (node.Eq t a) ∙ ap (λ r. ns ++ r) (sym (nodes_same t c a b same)) in
      let at : IsNodeAt two (length one) (node.Eq t b) = subst (λ k. IsNodeAt two (length one) (node.Eq t k)) same (IsNodeAt-last one (node.Eq t a)) in (
        ap (with_second t b) is_first ∙ ap (λ m. with_table t m.nodes) (interned_there two (node.Eq t b) (length one) formed_two at) ∙ ap (with_table t) whole,
        subst (IsPut ns) whole (formed_two, counted_two),
      ))
      (λ other.
      let three = two ++ node.Eq t b ∷ [] in
      let whole : three ≡ ns ++ ite_nodes t c a b = three_behind ns x (node.Eq t a) (node.Eq t b) ∙ ap (λ r. ns ++ r) (sym (nodes_other t c a b other)) in
      let no_second = no_second_equality one t a b formed_two long_one other in
      let is_second = interned_absent two (node.Eq t b) no_second in
      let short_three : length three ≤ most_nodes = subst (λ m. length m.nodes ≤ most_nodes) (ap (with_second t b) is_first ∙ ap (λ m. with_table t m.nodes) is_second) room in
      let formed_three = IsWellFormed-push two (node.Eq t b) formed_two (fits_second ns c a b fits) tt no_second (omega (arith, short_three, length-append two (node.Eq t b ∷ []))) in (
        ap (with_second t b) is_first ∙ ap (λ m. with_table t m.nodes) is_second ∙ ap (with_table t) whole,
        subst (IsPut ns) whole (formed_three, uncounted two (node.Eq t b) refl ∙ counted_two),
      ))
      (cases_eq a b)

  ite_made : (ns : List Node) (c a b p : ℕ) → Good ns → Fits ns (node.IteField c a b) → IsAt ns (sort.Field p) a → ¬ (Contains ns (node.IteField c a b))
      → Room (choice (sort.Field p) ns c a b).nodes → Makes (choice (sort.Field p) ns c a b) (sort.Field p)
  ite_made ns c a b p good fits h absent room =
      let t = length ns in
      let x = node.IteField c a b in
      let new = ns ++ ite_nodes t c a b in
      let start = ap (with_equalities a b) (interned_absent ns x absent) in
      let put = ite_put ns c a b good fits absent (subst (λ m. Room m.nodes) start room) in
      let rest = node.Eq t a ∷ (if a == b then [] else node.Eq t b ∷ []) in
      let at : IsNodeAt new t x = node_stays (ns ++ x ∷ []) new t x (rest, sym (append_assoc ns (x ∷ []) rest)) (IsNodeAt-last ns x) in
      subst (λ m. Makes m (sort.Field p)) (sym (start ∙ put.0)) (
        record {
          table = record { well_formed = put.1.0; equalities = HasEqualities-ite ns c a b new t good.table.equalities (refl, refl) };
          declared = λ k s e. contains_behind ns (ite_nodes t c a b) (constant_node k s) (good.declared k s e);
          counted = put.1.1 ∙ good.counted;
        },
        child_sort ns new t a x (sort.Field p) (ite_nodes t c a b, refl) put.1.0 at (1, omega arith, refl) (λ ss. refl) h,
      )

  pub choice_good : (s : Sort) (ns : List Node) (c a b : ℕ) → IsAt ns sort.Bool c → IsAt ns s a → IsAt ns s b → Good ns → Room (choice s ns c a b).nodes → Makes (choice s ns c a b) s
  choice_good sort.Bool ns c a b f g h good room = bool_made ns (node.IteBool c a b) (λ ss. refl) good (f, g, h) tt room
  choice_good (sort.Field p) ns c a b f g h good room =
      ⊎_elim
      (λ there.
      subst (λ m. Makes m (sort.Field p)) (sym (choice_there ns p c a b there.0 good.table there.1))
      (good, child_sort ns ns there.0 a (node.IteField c a b) (sort.Field p) (extends_same ns) good.table.well_formed there.1 (1, omega arith, refl) (λ ss. refl) g))
      (λ absent. ite_made ns c a b p good (f, one_field (a ∷ b ∷ []) ns p (omega arith) (g, (h, tt))) g absent room)
      (there_or_not ns (node.IteField c a b))

  -- Functions

  abbrev AppliedGood : Operator → List Sort → List ℕ → Type 0
  AppliedGood op ss ids = (ns : List Node) (s : Sort) → Takes op ss s → EachAt ns ss ids → Good ns → Room (applied_made op ns ids).nodes → Makes (applied_made op ns ids) s

  not_applied : (ss : List Sort) (ids : List ℕ) → AppliedGood Not ss ids
  unfolding applied_made
  not_applied [] ids ns s takes each good room = absurd takes
  not_applied (x ∷ y ∷ ss) ids ns s takes each good room = absurd takes
  not_applied (x ∷ []) [] ns s takes each good room = absurd each
  not_applied (x ∷ []) (a ∷ b ∷ ids) ns s takes each good room = absurd each.1
  not_applied (x ∷ []) (a ∷ []) ns s takes each good room = of_sort _ s sort.Bool takes.1 (not_good ns a (subst (λ u. IsAt ns u a) takes.0 each.0) good room)

  and_applied : (ss : List Sort) (ids : List ℕ) → AppliedGood And ss ids
  unfolding applied_made
  and_applied [] ids ns s takes each good room = absurd takes
  and_applied (x ∷ ss) [] ns s takes each good room = absurd each
  and_applied (x ∷ ss) (a ∷ ids) ns s takes each good room =
      of_sort _ s sort.Bool takes.1
      (bool_made ns (node.And (a ∷ ids)) (λ us. refl) good (booleans (a ∷ ids) ns (omega arith) (each_all (x ∷ ss) (a ∷ ids) ns sort.Bool takes.0 each)) tt room)

  or_applied : (ss : List Sort) (ids : List ℕ) → AppliedGood Or ss ids
  unfolding applied_made
  or_applied [] ids ns s takes each good room = absurd takes
  or_applied (x ∷ ss) [] ns s takes each good room = absurd each
  or_applied (x ∷ ss) (a ∷ ids) ns s takes each good room =
      of_sort _ s sort.Bool takes.1
      (bool_made ns (node.Or (a ∷ ids)) (λ us. refl) good (booleans (a ∷ ids) ns (omega arith) (each_all (x ∷ ss) (a ∷ ids) ns sort.Bool takes.0 each)) tt room)

  xor_applied : (ss : List Sort) (ids : List ℕ) → AppliedGood Xor ss ids
  unfolding applied_made
  xor_applied [] ids ns s takes each good room = absurd takes
  xor_applied (x ∷ []) ids ns s takes each good room = absurd takes
  xor_applied (x ∷ y ∷ ss) [] ns s takes each good room = absurd each
  xor_applied (x ∷ y ∷ ss) (a ∷ []) ns s takes each good room = absurd each.1
  xor_applied (x ∷ y ∷ ss) (a ∷ b ∷ ids) ns s takes each good room =
      let all = each_all (x ∷ y ∷ ss) (a ∷ b ∷ ids) ns sort.Bool takes.0 each in
      of_sort _ s sort.Bool takes.1 (exclusive_good (b ∷ ids) ns a all.0 all.1 good room)

  implies_applied : (ss : List Sort) (ids : List ℕ) → AppliedGood Implies ss ids
  unfolding applied_made
  implies_applied [] ids ns s takes each good room = absurd takes
  implies_applied (x ∷ []) ids ns s takes each good room = absurd takes
  implies_applied (x ∷ y ∷ ss) [] ns s takes each good room = absurd each
  implies_applied (x ∷ y ∷ ss) (a ∷ []) ns s takes each good room = absurd each.1
  implies_applied (x ∷ y ∷ ss) (a ∷ b ∷ ids) ns s takes each good room =
      let all = each_all (x ∷ y ∷ ss) (a ∷ b ∷ ids) ns sort.Bool takes.0 each in
      of_sort _ s sort.Bool takes.1 (implications_good (b ∷ ids) ns a all.0 all.1 good room)

  pub neighbours_some : (ids : List ℕ) (ns : List Node) (a b : ℕ) → 0 < length (neighbours ns a (b ∷ ids)).ids
  unfolding neighbours
  neighbours_some ids ns a b = omega arith

  equal_applied : (ss : List Sort) (ids : List ℕ) → AppliedGood Equal ss ids
  unfolding applied_made
  equal_applied [] ids ns s takes each good room = absurd takes
  equal_applied (x ∷ []) ids ns s takes each good room = absurd takes
  equal_applied (x ∷ y ∷ ss) [] ns s takes each good room = absurd each
  equal_applied (x ∷ y ∷ ss) (a ∷ []) ns s takes each good room = absurd each.1
  equal_applied (x ∷ y ∷ ss) (a ∷ b ∷ []) ns s takes each good room =
      of_sort _ s sort.Bool takes.1 (equality_good ns a b x each.0 (subst (λ u. IsAt ns u b) takes.0.0 each.1.0) good room)
  equal_applied (x ∷ y ∷ ss) (a ∷ b ∷ c ∷ ids) ns s takes each good room =
      let m = neighbours ns a (b ∷ c ∷ ids) in
      of_sort _ s sort.Bool takes.1
      (conjoined_good m (neighbours_some (c ∷ ids) ns a b)
      (neighbours_good (b ∷ c ∷ ids) ns a x each.0 (each_all (y ∷ ss) (b ∷ c ∷ ids) ns x takes.0 each.1) good (room_before m.nodes (conjoined m).nodes (interned_extends m.nodes (node.And m.ids)) room)) room)

  pub differences_some : (ids : List ℕ) (ns : List Node) (a b : ℕ) → 0 < length (differences ns (a ∷ b ∷ ids)).ids
  unfolding differences differences_from
  differences_some ids ns a b = omega arith

  distinct_applied : (ss : List Sort) (ids : List ℕ) → AppliedGood Distinct ss ids
  unfolding applied_made
  distinct_applied [] ids ns s takes each good room = absurd takes
  distinct_applied (x ∷ []) ids ns s takes each good room = absurd takes
  distinct_applied (x ∷ y ∷ ss) [] ns s takes each good room = absurd each
  distinct_applied (x ∷ y ∷ ss) (a ∷ []) ns s takes each good room = absurd each.1
  distinct_applied (x ∷ y ∷ ss) (a ∷ b ∷ []) ns s takes each good room =
      of_sort _ s sort.Bool takes.1 (difference_good ns a b x each.0 (subst (λ u. IsAt ns u b) takes.0.0 each.1.0) good room)
  distinct_applied (x ∷ y ∷ ss) (a ∷ b ∷ c ∷ ids) ns s takes each good room =
      let m = differences ns (a ∷ b ∷ c ∷ ids) in
      of_sort _ s sort.Bool takes.1
      (conjoined_good m (differences_some (c ∷ ids) ns a b)
      (differences_good (a ∷ b ∷ c ∷ ids) ns x (each.0, each_all (y ∷ ss) (b ∷ c ∷ ids) ns x takes.0 each.1) good (room_before m.nodes (conjoined m).nodes (interned_extends m.nodes (node.And m.ids)) room)) room)

  ite_applied : (ss : List Sort) (ids : List ℕ) → AppliedGood Ite ss ids
  unfolding applied_made
  ite_applied [] ids ns s takes each good room = absurd takes
  ite_applied (z ∷ []) ids ns s takes each good room = absurd takes
  ite_applied (z ∷ x ∷ []) ids ns s takes each good room = absurd takes
  ite_applied (z ∷ x ∷ y ∷ w ∷ ss) ids ns s takes each good room = absurd takes
  ite_applied (z ∷ x ∷ y ∷ []) [] ns s takes each good room = absurd each
  ite_applied (z ∷ x ∷ y ∷ []) (c ∷ []) ns s takes each good room = absurd each.1
  ite_applied (z ∷ x ∷ y ∷ []) (c ∷ a ∷ []) ns s takes each good room = absurd each.1.1
  ite_applied (z ∷ x ∷ y ∷ []) (c ∷ a ∷ b ∷ d ∷ ids) ns s takes each good room = absurd each.1.1.1
  ite_applied (z ∷ x ∷ y ∷ []) (c ∷ a ∷ b ∷ []) ns s takes each good room =
      of_sort _ s x takes.2
      (subst (λ u. Room (choice u ns c a b).nodes → Makes (choice u ns c a b) x) (sym each.1.0.1)
      (λ short. choice_good x ns c a b (subst (λ u. IsAt ns u c) takes.0 each.0) each.1.0 (subst (λ u. IsAt ns u b) takes.1 each.1.1.0) good short) room)

  add_applied : (ss : List Sort) (ids : List ℕ) → AppliedGood Add ss ids
  unfolding applied_made
  add_applied [] ids ns s takes each good room = absurd takes
  add_applied (x ∷ []) ids ns s takes each good room = absurd takes
  add_applied (x ∷ y ∷ ss) [] ns s takes each good room = absurd each
  add_applied (sort.Bool ∷ y ∷ ss) (a ∷ ids) ns s takes each good room = absurd takes.0
  add_applied (sort.Field p ∷ y ∷ ss) (a ∷ ids) ns s takes each good room =
      let all = each_all (y ∷ ss) ids ns (sort.Field p) takes.1 each.1 in
      of_sort _ s (sort.Field p) takes.2
      (child_made ns (node.Add (a ∷ ids)) a (sort.Field p) (0, omega arith, refl) (λ us. refl) each.0 good (one_field (a ∷ ids) ns p (omega arith) (each.0, all)) tt room)

  mul_applied : (ss : List Sort) (ids : List ℕ) → AppliedGood Mul ss ids
  unfolding applied_made
  mul_applied [] ids ns s takes each good room = absurd takes
  mul_applied (x ∷ []) ids ns s takes each good room = absurd takes
  mul_applied (x ∷ y ∷ ss) [] ns s takes each good room = absurd each
  mul_applied (sort.Bool ∷ y ∷ ss) (a ∷ ids) ns s takes each good room = absurd takes.0
  mul_applied (sort.Field p ∷ y ∷ ss) (a ∷ ids) ns s takes each good room =
      let all = each_all (y ∷ ss) ids ns (sort.Field p) takes.1 each.1 in
      of_sort _ s (sort.Field p) takes.2
      (child_made ns (node.Mul (a ∷ ids)) a (sort.Field p) (0, omega arith, refl) (λ us. refl) each.0 good (one_field (a ∷ ids) ns p (omega arith) (each.0, all)) tt room)

  neg_applied : (ss : List Sort) (ids : List ℕ) → AppliedGood Neg ss ids
  unfolding applied_made
  neg_applied [] ids ns s takes each good room = absurd takes
  neg_applied (x ∷ y ∷ ss) ids ns s takes each good room = absurd takes
  neg_applied (x ∷ []) [] ns s takes each good room = absurd each
  neg_applied (x ∷ []) (a ∷ b ∷ ids) ns s takes each good room = absurd each.1
  neg_applied (sort.Bool ∷ []) (a ∷ []) ns s takes each good room = absurd takes.0
  neg_applied (sort.Field p ∷ []) (a ∷ []) ns s takes each good room =
      of_sort _ s (sort.Field p) takes.1
      (child_made ns (node.Neg a) a (sort.Field p) (0, omega arith, refl) (λ us. refl) each.0 good (one_field (a ∷ []) ns p (omega arith) (each.0, tt)) tt room)

  bitsum_applied : (ss : List Sort) (ids : List ℕ) → AppliedGood Bitsum ss ids
  unfolding applied_made
  bitsum_applied [] ids ns s takes each good room = absurd takes
  bitsum_applied (x ∷ ss) [] ns s takes each good room = absurd each
  bitsum_applied (sort.Bool ∷ ss) (a ∷ ids) ns s takes each good room = absurd takes.0
  bitsum_applied (sort.Field p ∷ ss) (a ∷ ids) ns s takes each good room =
      let all = each_all ss ids ns (sort.Field p) takes.1 each.1 in
      of_sort _ s (sort.Field p) takes.2
      (child_made ns (node.Bitsum (a ∷ ids)) a (sort.Field p) (0, omega arith, refl) (λ us. refl) each.0 good (one_field (a ∷ ids) ns p (omega arith) (each.0, all)) tt room)

  pub applied_good : (op : Operator) (ss : List Sort) (ids : List ℕ) → AppliedGood op ss ids
  applied_good Not ss ids = not_applied ss ids
  applied_good And ss ids = and_applied ss ids
  applied_good Or ss ids = or_applied ss ids
  applied_good Xor ss ids = xor_applied ss ids
  applied_good Implies ss ids = implies_applied ss ids
  applied_good Equal ss ids = equal_applied ss ids
  applied_good Distinct ss ids = distinct_applied ss ids
  applied_good Ite ss ids = ite_applied ss ids
  applied_good Add ss ids = add_applied ss ids
  applied_good Mul ss ids = mul_applied ss ids
  applied_good Neg ss ids = neg_applied ss ids
  applied_good Bitsum ss ids = bitsum_applied ss ids
