-- Nodes are interned up to the limit of the table.
use Rattle.std.proofs.Common.{ℕ, ◌<◌, ◌≤◌, List, [], ◌∷◌, ◌++◌, length, get_or, All, refl, sym, subst, arith}
use Rattle.std.proofs.lemmas.List.Elements.{All-cons, All-nil, All-append, All-weaker}
use Rattle.ffc_term.specs.declared.node.Node.{Node}
use Rattle.ffc_term.specs.declared.node.Node.TheVariants as node
use Rattle.ffc_term.specs.declared.node.Sort.{Sort}
use Rattle.ffc_term.specs.declared.node.Sort.TheVariants as sort
use Rattle.ffc_term.specs.Nodes.{sort_at}
use Rattle.ffc_term.specs.Tables.{IsTable, Fits, IsNumbered, most_nodes, constant_count}
use Rattle.ffc_smt.specs.Terms.{Operator, Not, And, Or, Xor, Implies, Equal, Distinct, Ite, Add, Mul, Neg, Bitsum}
use Rattle.ffc_smt.specs.Making.{AllMade, interned, equality_of, equality, neighbours, difference, differences_from, differences, exclusive, implication, implications, choice, conjoined, applied_made}
use Rattle.ffc_smt.specs.WellSorted.{Takes}
use Rattle.ffc_smt.specs.States.{IsTableWith}
use Rattle.ffc_smt.specs.Asking.{Ask, ask, equality_asks, neighbours_asks, difference_asks, differences_from_asks, differences_asks, exclusive_asks, implication_asks, implications_asks, choice_asks, applied_asks, AreSortsAt, FitsThere, IsAskedOnTheWay, AsksFit}
use Rattle.ffc_smt.proofs.Extends.{Extends, extends_same, extends_further, interned_extends, equality_extends, difference_extends, neighbours_extend, differences_from_extend, differences_extend, exclusive_extends, implication_extends, implications_extend}
use Rattle.ffc_smt.proofs.TableMaking.{IsAt, AllAt, EachAt, IsPlain, Good, at_stays, all_at_stays, each_all, booleans, one_field, plain_numbered, room_before, equality_good, not_good, difference_good, neighbours_good, differences_from_good, differences_good, implications_good, neighbours_some, differences_some, fixed_made, applied_good}

-- Steps: each node is asked for after the first nodes, and before the last

abbrev IsStep : List Node → List Node → Ask → Type 0
IsStep start final k = Extends start k.before × Extends (interned k.before k.node).nodes final

abbrev AreSteps : List Node → List Node → List Ask → Type 0
AreSteps start final asks = All (IsStep start final) asks

one_step : (ns : List Node) (n : Node) → AreSteps ns (interned ns n).nodes (ask ns n ∷ [])
one_step ns n = All-cons (IsStep ns (interned ns n).nodes) (ask ns n) [] (extends_same ns, extends_same (interned ns n).nodes) (All-nil (IsStep ns (interned ns n).nodes))

wider : (start first last final : List Node) (asks : List Ask) → Extends start first → Extends last final → AreSteps first last asks → AreSteps start final asks
wider start first last final asks before later h =
    All-weaker (IsStep first last) (IsStep start final) (λ k g. (extends_further start first k.before before g.0, extends_further (interned k.before k.node).nodes last final g.1 later)) asks h

then_steps : (start mid final : List Node) (asks more : List Ask) → Extends start mid → Extends mid final → AreSteps start mid asks → AreSteps mid final more → AreSteps start final (asks ++ more)
then_steps start mid final asks more before later h g =
    All-append (IsStep start final) asks more (wider start start mid final asks (extends_same start) later h) (wider start mid final final more before (extends_same final) g)

equality_steps : (ns : List Node) (a b : ℕ) → AreSteps ns (equality ns a b).nodes (equality_asks ns a b)
unfolding equality
equality_steps ns a b = one_step ns (equality_of (sort_at ns a) a b)

neighbours_steps : (ids : List ℕ) (ns : List Node) (a : ℕ) → AreSteps ns (neighbours ns a ids).nodes (neighbours_asks ns a ids)
unfolding neighbours neighbours_asks
neighbours_steps [] ns a = All-nil (IsStep ns ns)
neighbours_steps (b ∷ rest) ns a =
    let e = equality ns a b in
    then_steps ns e.nodes (neighbours e.nodes b rest).nodes (equality_asks ns a b) (neighbours_asks e.nodes b rest) (equality_extends ns a b) (neighbours_extend rest e.nodes b) (equality_steps ns a b) (neighbours_steps rest e.nodes b)

difference_steps : (ns : List Node) (a b : ℕ) → AreSteps ns (difference ns a b).nodes (difference_asks ns a b)
unfolding difference
difference_steps ns a b =
    let e = equality ns a b in
    then_steps ns e.nodes (interned e.nodes (node.Not e.id)).nodes (equality_asks ns a b) (ask e.nodes (node.Not e.id) ∷ []) (equality_extends ns a b) (interned_extends e.nodes (node.Not e.id)) (equality_steps ns a b) (one_step e.nodes (node.Not e.id))

differences_from_steps : (ids : List ℕ) (ns : List Node) (a : ℕ) → AreSteps ns (differences_from ns a ids).nodes (differences_from_asks ns a ids)
unfolding differences_from differences_from_asks
differences_from_steps [] ns a = All-nil (IsStep ns ns)
differences_from_steps (b ∷ rest) ns a =
    let d = difference ns a b in
    then_steps ns d.nodes (differences_from d.nodes a rest).nodes (difference_asks ns a b) (differences_from_asks d.nodes a rest) (difference_extends ns a b) (differences_from_extend rest d.nodes a) (difference_steps ns a b) (differences_from_steps rest d.nodes a)

differences_steps : (ids : List ℕ) (ns : List Node) → AreSteps ns (differences ns ids).nodes (differences_asks ns ids)
unfolding differences differences_asks
differences_steps [] ns = All-nil (IsStep ns ns)
differences_steps (a ∷ rest) ns =
    let d = differences_from ns a rest in
    then_steps ns d.nodes (differences d.nodes rest).nodes (differences_from_asks ns a rest) (differences_asks d.nodes rest) (differences_from_extend rest ns a) (differences_extend rest d.nodes) (differences_from_steps rest ns a) (differences_steps rest d.nodes)

exclusive_steps : (ids : List ℕ) (ns : List Node) (a : ℕ) → AreSteps ns (exclusive ns a ids).nodes (exclusive_asks ns a ids)
unfolding exclusive exclusive_asks
exclusive_steps [] ns a = All-nil (IsStep ns ns)
exclusive_steps (b ∷ rest) ns a =
    let x = interned ns (node.Xor a b) in
    then_steps ns x.nodes (exclusive x.nodes x.id rest).nodes (ask ns (node.Xor a b) ∷ []) (exclusive_asks x.nodes x.id rest) (interned_extends ns (node.Xor a b)) (exclusive_extends rest x.nodes x.id) (one_step ns (node.Xor a b)) (exclusive_steps rest x.nodes x.id)

implication_steps : (ns : List Node) (a b : ℕ) → AreSteps ns (implication ns a b).nodes (implication_asks ns a b)
unfolding implication
implication_steps ns a b =
    let n = interned ns (node.Not a) in
    let m = node.Or (n.id ∷ b ∷ []) in
    then_steps ns n.nodes (interned n.nodes m).nodes (ask ns (node.Not a) ∷ []) (ask n.nodes m ∷ []) (interned_extends ns (node.Not a)) (interned_extends n.nodes m) (one_step ns (node.Not a)) (one_step n.nodes m)

implications_steps : (ids : List ℕ) (ns : List Node) (a : ℕ) → AreSteps ns (implications ns a ids).nodes (implications_asks ns a ids)
unfolding implications implications_asks
implications_steps [] ns a = All-nil (IsStep ns ns)
implications_steps (b ∷ rest) ns a =
    let last = implications ns b rest in
    then_steps ns last.nodes (implication last.nodes a last.id).nodes (implications_asks ns b rest) (implication_asks last.nodes a last.id) (implications_extend rest ns b)
    (implication_extends last.nodes a last.id) (implications_steps rest ns b) (implication_steps last.nodes a last.id)

choice_steps : (s : Sort) (ns : List Node) (c a b : ℕ) → AreSteps ns (choice s ns c a b).nodes (choice_asks s ns c a b)
choice_steps sort.Bool ns c a b = one_step ns (node.IteBool c a b)
choice_steps (sort.Field p) ns c a b =
    let t = interned ns (node.IteField c a b) in
    let one = interned t.nodes (node.Eq t.id a) in
    let two = interned one.nodes (node.Eq t.id b) in
    wider ns ns t.nodes two.nodes (ask ns (node.IteField c a b) ∷ []) (extends_same ns)
    (extends_further t.nodes one.nodes two.nodes (interned_extends t.nodes (node.Eq t.id a)) (interned_extends one.nodes (node.Eq t.id b))) (one_step ns (node.IteField c a b))

conjoined_steps : (ns : List Node) (m : AllMade) (asks : List Ask) → Extends ns m.nodes → AreSteps ns m.nodes asks → AreSteps ns (conjoined m).nodes (asks ++ ask m.nodes (node.And m.ids) ∷ [])
conjoined_steps ns m asks further h =
    then_steps ns m.nodes (conjoined m).nodes asks (ask m.nodes (node.And m.ids) ∷ []) further (interned_extends m.nodes (node.And m.ids)) h (one_step m.nodes (node.And m.ids))

none_steps : (ns final : List Node) → AreSteps ns final []
none_steps ns final = All-nil (IsStep ns final)

applied_steps : (op : Operator) (ids : List ℕ) (ns : List Node) → AreSteps ns (applied_made op ns ids).nodes (applied_asks op ns ids)
unfolding applied_made applied_asks
applied_steps Not (a ∷ []) ns = one_step ns (node.Not a)
applied_steps And (a ∷ ids) ns = one_step ns (node.And (a ∷ ids))
applied_steps Or (a ∷ ids) ns = one_step ns (node.Or (a ∷ ids))
applied_steps Xor (a ∷ b ∷ rest) ns = exclusive_steps (b ∷ rest) ns a
applied_steps Implies (a ∷ b ∷ rest) ns = implications_steps (b ∷ rest) ns a
applied_steps Equal (a ∷ b ∷ []) ns = equality_steps ns a b
applied_steps Equal (a ∷ b ∷ c ∷ rest) ns = conjoined_steps ns (neighbours ns a (b ∷ c ∷ rest)) (neighbours_asks ns a (b ∷ c ∷ rest)) (neighbours_extend (b ∷ c ∷ rest) ns a) (neighbours_steps (b ∷ c ∷ rest) ns a)
applied_steps Distinct (a ∷ b ∷ []) ns = difference_steps ns a b
applied_steps Distinct (a ∷ b ∷ c ∷ rest) ns = conjoined_steps ns (differences ns (a ∷ b ∷ c ∷ rest)) (differences_asks ns (a ∷ b ∷ c ∷ rest)) (differences_extend (a ∷ b ∷ c ∷ rest) ns) (differences_steps (a ∷ b ∷ c ∷ rest) ns)
applied_steps Ite (c ∷ a ∷ b ∷ []) ns = choice_steps (sort_at ns a) ns c a b
applied_steps Add (a ∷ ids) ns = one_step ns (node.Add (a ∷ ids))
applied_steps Mul (a ∷ ids) ns = one_step ns (node.Mul (a ∷ ids))
applied_steps Neg (a ∷ []) ns = one_step ns (node.Neg a)
applied_steps Bitsum (a ∷ ids) ns = one_step ns (node.Bitsum (a ∷ ids))
applied_steps _ _ ns = none_steps ns _

-- Each node fits, as long as those before it are not too many

each_at : (ns : List Node) (ss : List Sort) (ids : List ℕ) → AreSortsAt ns ss ids → EachAt ns ss ids
each_at ns [] [] h = tt
each_at ns [] (a ∷ ids) h = absurd h
each_at ns (s ∷ ss) [] h = absurd h
each_at ns (s ∷ ss) (a ∷ ids) h = (h.0, each_at ns ss ids h.1)

module _ (count : ℕ) where
  abbrev IsGood : List Node → Type 0
  IsGood ns = Good [] count ns

  abbrev Fine : Ask → Type 0
  Fine k = length k.before ≤ most_nodes → FitsThere k

  one_fine : (ns : List Node) (n : Node) → IsGood ns → Fits ns n → IsNumbered ns n → All Fine (ask ns n ∷ [])
  one_fine ns n good fits numbered = All-cons Fine (ask ns n) [] (λ room. record { table = good.table; fits = fits; numbered = numbered }) (All-nil Fine)

  plain_fine : (ns : List Node) (n : Node) → IsGood ns → Fits ns n → IsPlain n → All Fine (ask ns n ∷ [])
  plain_fine ns n good fits plain = one_fine ns n good fits (plain_numbered ns n plain)

  -- what is asked for after these nodes, where they are not too many
  by_room : (ms final : List Node) (asks : List Ask) → AreSteps ms final asks → (length ms ≤ most_nodes → All Fine asks) → All Fine asks
  by_room ms final asks steps h i d inside room = h (room_before ms (get_or asks i d).before (steps i d inside).0 room) i d inside room

  equality_fits : (s : Sort) (ns : List Node) (a b : ℕ) → IsAt ns s a → IsAt ns s b → IsGood ns → All Fine (ask ns (equality_of s a b) ∷ [])
  equality_fits sort.Bool ns a b g h good = plain_fine ns (node.Iff a b) good (g, h) tt
  equality_fits (sort.Field p) ns a b g h good = plain_fine ns (node.Eq a b) good (one_field (a ∷ b ∷ []) ns p (omega arith) (g, (h, tt))) tt

  equality_fine : (ns : List Node) (a b : ℕ) (s : Sort) → IsAt ns s a → IsAt ns s b → IsGood ns → All Fine (equality_asks ns a b)
  equality_fine ns a b s g h good = subst (λ t. All Fine (ask ns (equality_of t a b) ∷ [])) (sym g.1) (equality_fits s ns a b g h good)

  neighbours_fine : (ids : List ℕ) (ns : List Node) (a : ℕ) (s : Sort) → IsAt ns s a → AllAt ns s ids → IsGood ns → All Fine (neighbours_asks ns a ids)
  unfolding neighbours neighbours_asks
  neighbours_fine [] ns a s g h good = All-nil Fine
  neighbours_fine (b ∷ rest) ns a s g h good =
      let e = equality ns a b in
      let more = equality_extends ns a b in
      All-append Fine (equality_asks ns a b) (neighbours_asks e.nodes b rest) (equality_fine ns a b s g h.0 good)
      (by_room e.nodes (neighbours e.nodes b rest).nodes (neighbours_asks e.nodes b rest) (neighbours_steps rest e.nodes b)
      (λ room. neighbours_fine rest e.nodes b s (at_stays ns e.nodes s b more h.0) (all_at_stays rest ns e.nodes s more h.1) (equality_good [] count ns a b s g h.0 good room).0))

  difference_fine : (ns : List Node) (a b : ℕ) (s : Sort) → IsAt ns s a → IsAt ns s b → IsGood ns → All Fine (difference_asks ns a b)
  difference_fine ns a b s g h good =
      let e = equality ns a b in
      let last = ask e.nodes (node.Not e.id) ∷ [] in
      All-append Fine (equality_asks ns a b) last (equality_fine ns a b s g h good)
      (by_room e.nodes (interned e.nodes (node.Not e.id)).nodes last (one_step e.nodes (node.Not e.id))
      (λ room. let before = equality_good [] count ns a b s g h good room in plain_fine e.nodes (node.Not e.id) before.0 before.1 tt))

  differences_from_fine : (ids : List ℕ) (ns : List Node) (a : ℕ) (s : Sort) → IsAt ns s a → AllAt ns s ids → IsGood ns → All Fine (differences_from_asks ns a ids)
  unfolding differences_from differences_from_asks
  differences_from_fine [] ns a s g h good = All-nil Fine
  differences_from_fine (b ∷ rest) ns a s g h good =
      let d = difference ns a b in
      let more = difference_extends ns a b in
      All-append Fine (difference_asks ns a b) (differences_from_asks d.nodes a rest) (difference_fine ns a b s g h.0 good)
      (by_room d.nodes (differences_from d.nodes a rest).nodes (differences_from_asks d.nodes a rest) (differences_from_steps rest d.nodes a)
      (λ room. differences_from_fine rest d.nodes a s (at_stays ns d.nodes s a more g) (all_at_stays rest ns d.nodes s more h.1) (difference_good [] count ns a b s g h.0 good room).0))

  differences_fine : (ids : List ℕ) (ns : List Node) (s : Sort) → AllAt ns s ids → IsGood ns → All Fine (differences_asks ns ids)
  unfolding differences differences_asks
  differences_fine [] ns s h good = All-nil Fine
  differences_fine (a ∷ rest) ns s h good =
      let d = differences_from ns a rest in
      All-append Fine (differences_from_asks ns a rest) (differences_asks d.nodes rest) (differences_from_fine rest ns a s h.0 h.1 good)
      (by_room d.nodes (differences d.nodes rest).nodes (differences_asks d.nodes rest) (differences_steps rest d.nodes)
      (λ room. differences_fine rest d.nodes s (all_at_stays rest ns d.nodes s (differences_from_extend rest ns a) h.1) (differences_from_good [] count rest ns a s h.0 h.1 good room).0))

  exclusive_fine : (ids : List ℕ) (ns : List Node) (a : ℕ) → IsAt ns sort.Bool a → AllAt ns sort.Bool ids → IsGood ns → All Fine (exclusive_asks ns a ids)
  unfolding exclusive exclusive_asks
  exclusive_fine [] ns a g h good = All-nil Fine
  exclusive_fine (b ∷ rest) ns a g h good =
      let x = interned ns (node.Xor a b) in
      All-append Fine (ask ns (node.Xor a b) ∷ []) (exclusive_asks x.nodes x.id rest) (plain_fine ns (node.Xor a b) good (g, h.0) tt)
      (by_room x.nodes (exclusive x.nodes x.id rest).nodes (exclusive_asks x.nodes x.id rest) (exclusive_steps rest x.nodes x.id)
      (λ room.
      let before = fixed_made [] count ns (node.Xor a b) sort.Bool (λ ss. refl) good (g, h.0) tt room in
      exclusive_fine rest x.nodes x.id before.1 (all_at_stays rest ns x.nodes sort.Bool (interned_extends ns (node.Xor a b)) h.1) before.0))

  implication_fine : (ns : List Node) (a b : ℕ) → IsAt ns sort.Bool a → IsAt ns sort.Bool b → IsGood ns → All Fine (implication_asks ns a b)
  implication_fine ns a b g h good =
      let m = interned ns (node.Not a) in
      let o = node.Or (m.id ∷ b ∷ []) in
      All-append Fine (ask ns (node.Not a) ∷ []) (ask m.nodes o ∷ []) (plain_fine ns (node.Not a) good g tt)
      (by_room m.nodes (interned m.nodes o).nodes (ask m.nodes o ∷ []) (one_step m.nodes o)
      (λ room.
      let before = not_good [] count ns a g good room in
      plain_fine m.nodes o before.0 (booleans (m.id ∷ b ∷ []) m.nodes (omega arith) (before.1, (at_stays ns m.nodes sort.Bool b (interned_extends ns (node.Not a)) h, tt))) tt))

  implications_fine : (ids : List ℕ) (ns : List Node) (a : ℕ) → IsAt ns sort.Bool a → AllAt ns sort.Bool ids → IsGood ns → All Fine (implications_asks ns a ids)
  unfolding implications implications_asks
  implications_fine [] ns a g h good = All-nil Fine
  implications_fine (b ∷ rest) ns a g h good =
      let last = implications ns b rest in
      All-append Fine (implications_asks ns b rest) (implication_asks last.nodes a last.id) (implications_fine rest ns b h.0 h.1 good)
      (by_room last.nodes (implication last.nodes a last.id).nodes (implication_asks last.nodes a last.id) (implication_steps last.nodes a last.id)
      (λ room.
      let before = implications_good [] count rest ns b h.0 h.1 good room in
      implication_fine last.nodes a last.id (at_stays ns last.nodes sort.Bool a (implications_extend rest ns b) g) before.1 before.0))

  choice_fine : (s : Sort) (ns : List Node) (c a b : ℕ) → IsAt ns sort.Bool c → IsAt ns s a → IsAt ns s b → IsGood ns → All Fine (choice_asks s ns c a b)
  choice_fine sort.Bool ns c a b f g h good = plain_fine ns (node.IteBool c a b) good (f, g, h) tt
  choice_fine (sort.Field p) ns c a b f g h good = one_fine ns (node.IteField c a b) good (f, one_field (a ∷ b ∷ []) ns p (omega arith) (g, (h, tt))) tt

  conjoined_fine : (m : AllMade) (asks : List Ask) → 0 < length m.ids → All Fine asks → (length m.nodes ≤ most_nodes → IsGood m.nodes × AllAt m.nodes sort.Bool m.ids) → All Fine (asks ++ ask m.nodes (node.And m.ids) ∷ [])
  conjoined_fine m asks some h good =
      All-append Fine asks (ask m.nodes (node.And m.ids) ∷ []) h
      (by_room m.nodes (conjoined m).nodes (ask m.nodes (node.And m.ids) ∷ []) (one_step m.nodes (node.And m.ids))
      (λ room. let all = good room in plain_fine m.nodes (node.And m.ids) all.0 (booleans m.ids m.nodes some all.1) tt))

  -- Functions

  abbrev AppliedFine : Operator → List Sort → List ℕ → Type 0
  AppliedFine op ss ids = (ns : List Node) (s : Sort) → Takes op ss s → EachAt ns ss ids → IsGood ns → All Fine (applied_asks op ns ids)

  not_fine : (ss : List Sort) (ids : List ℕ) → AppliedFine Not ss ids
  unfolding applied_asks
  not_fine [] ids ns s takes each good = absurd takes
  not_fine (x ∷ y ∷ ss) ids ns s takes each good = absurd takes
  not_fine (x ∷ []) [] ns s takes each good = absurd each
  not_fine (x ∷ []) (a ∷ b ∷ ids) ns s takes each good = absurd each.1
  not_fine (x ∷ []) (a ∷ []) ns s takes each good = plain_fine ns (node.Not a) good (subst (λ u. IsAt ns u a) takes.0 each.0) tt

  and_fine : (ss : List Sort) (ids : List ℕ) → AppliedFine And ss ids
  unfolding applied_asks
  and_fine [] ids ns s takes each good = absurd takes
  and_fine (x ∷ ss) [] ns s takes each good = absurd each
  and_fine (x ∷ ss) (a ∷ ids) ns s takes each good = plain_fine ns (node.And (a ∷ ids)) good (booleans (a ∷ ids) ns (omega arith) (each_all (x ∷ ss) (a ∷ ids) ns sort.Bool takes.0 each)) tt

  or_fine : (ss : List Sort) (ids : List ℕ) → AppliedFine Or ss ids
  unfolding applied_asks
  or_fine [] ids ns s takes each good = absurd takes
  or_fine (x ∷ ss) [] ns s takes each good = absurd each
  or_fine (x ∷ ss) (a ∷ ids) ns s takes each good = plain_fine ns (node.Or (a ∷ ids)) good (booleans (a ∷ ids) ns (omega arith) (each_all (x ∷ ss) (a ∷ ids) ns sort.Bool takes.0 each)) tt

  xor_fine : (ss : List Sort) (ids : List ℕ) → AppliedFine Xor ss ids
  unfolding applied_asks
  xor_fine [] ids ns s takes each good = absurd takes
  xor_fine (x ∷ []) ids ns s takes each good = absurd takes
  xor_fine (x ∷ y ∷ ss) [] ns s takes each good = absurd each
  xor_fine (x ∷ y ∷ ss) (a ∷ []) ns s takes each good = absurd each.1
  xor_fine (x ∷ y ∷ ss) (a ∷ b ∷ ids) ns s takes each good =
      let all = each_all (x ∷ y ∷ ss) (a ∷ b ∷ ids) ns sort.Bool takes.0 each in exclusive_fine (b ∷ ids) ns a all.0 all.1 good

  implies_fine : (ss : List Sort) (ids : List ℕ) → AppliedFine Implies ss ids
  unfolding applied_asks
  implies_fine [] ids ns s takes each good = absurd takes
  implies_fine (x ∷ []) ids ns s takes each good = absurd takes
  implies_fine (x ∷ y ∷ ss) [] ns s takes each good = absurd each
  implies_fine (x ∷ y ∷ ss) (a ∷ []) ns s takes each good = absurd each.1
  implies_fine (x ∷ y ∷ ss) (a ∷ b ∷ ids) ns s takes each good =
      let all = each_all (x ∷ y ∷ ss) (a ∷ b ∷ ids) ns sort.Bool takes.0 each in implications_fine (b ∷ ids) ns a all.0 all.1 good

  equal_fine : (ss : List Sort) (ids : List ℕ) → AppliedFine Equal ss ids
  unfolding applied_asks
  equal_fine [] ids ns s takes each good = absurd takes
  equal_fine (x ∷ []) ids ns s takes each good = absurd takes
  equal_fine (x ∷ y ∷ ss) [] ns s takes each good = absurd each
  equal_fine (x ∷ y ∷ ss) (a ∷ []) ns s takes each good = absurd each.1
  equal_fine (x ∷ y ∷ ss) (a ∷ b ∷ []) ns s takes each good = equality_fine ns a b x each.0 (subst (λ u. IsAt ns u b) takes.0.0 each.1.0) good
  equal_fine (x ∷ y ∷ ss) (a ∷ b ∷ c ∷ ids) ns s takes each good =
      let all = each_all (y ∷ ss) (b ∷ c ∷ ids) ns x takes.0 each.1 in
      conjoined_fine (neighbours ns a (b ∷ c ∷ ids)) (neighbours_asks ns a (b ∷ c ∷ ids)) (neighbours_some [] count (c ∷ ids) ns a b) (neighbours_fine (b ∷ c ∷ ids) ns a x each.0 all good)
      (λ room. neighbours_good [] count (b ∷ c ∷ ids) ns a x each.0 all good room)

  distinct_fine : (ss : List Sort) (ids : List ℕ) → AppliedFine Distinct ss ids
  unfolding applied_asks
  distinct_fine [] ids ns s takes each good = absurd takes
  distinct_fine (x ∷ []) ids ns s takes each good = absurd takes
  distinct_fine (x ∷ y ∷ ss) [] ns s takes each good = absurd each
  distinct_fine (x ∷ y ∷ ss) (a ∷ []) ns s takes each good = absurd each.1
  distinct_fine (x ∷ y ∷ ss) (a ∷ b ∷ []) ns s takes each good = difference_fine ns a b x each.0 (subst (λ u. IsAt ns u b) takes.0.0 each.1.0) good
  distinct_fine (x ∷ y ∷ ss) (a ∷ b ∷ c ∷ ids) ns s takes each good =
      let all : AllAt ns x (a ∷ b ∷ c ∷ ids) = (each.0, each_all (y ∷ ss) (b ∷ c ∷ ids) ns x takes.0 each.1) in
      conjoined_fine (differences ns (a ∷ b ∷ c ∷ ids)) (differences_asks ns (a ∷ b ∷ c ∷ ids)) (differences_some [] count (c ∷ ids) ns a b) (differences_fine (a ∷ b ∷ c ∷ ids) ns x all good)
      (λ room. differences_good [] count (a ∷ b ∷ c ∷ ids) ns x all good room)

  ite_fine : (ss : List Sort) (ids : List ℕ) → AppliedFine Ite ss ids
  unfolding applied_asks
  ite_fine [] ids ns s takes each good = absurd takes
  ite_fine (z ∷ []) ids ns s takes each good = absurd takes
  ite_fine (z ∷ x ∷ []) ids ns s takes each good = absurd takes
  ite_fine (z ∷ x ∷ y ∷ w ∷ ss) ids ns s takes each good = absurd takes
  ite_fine (z ∷ x ∷ y ∷ []) [] ns s takes each good = absurd each
  ite_fine (z ∷ x ∷ y ∷ []) (c ∷ []) ns s takes each good = absurd each.1
  ite_fine (z ∷ x ∷ y ∷ []) (c ∷ a ∷ []) ns s takes each good = absurd each.1.1
  ite_fine (z ∷ x ∷ y ∷ []) (c ∷ a ∷ b ∷ d ∷ ids) ns s takes each good = absurd each.1.1.1
  ite_fine (z ∷ x ∷ y ∷ []) (c ∷ a ∷ b ∷ []) ns s takes each good =
      subst (λ u. All Fine (choice_asks u ns c a b)) (sym each.1.0.1)
      (choice_fine x ns c a b (subst (λ u. IsAt ns u c) takes.0 each.0) each.1.0 (subst (λ u. IsAt ns u b) takes.1 each.1.1.0) good)

  add_fine : (ss : List Sort) (ids : List ℕ) → AppliedFine Add ss ids
  unfolding applied_asks
  add_fine [] ids ns s takes each good = absurd takes
  add_fine (x ∷ []) ids ns s takes each good = absurd takes
  add_fine (x ∷ y ∷ ss) [] ns s takes each good = absurd each
  add_fine (sort.Bool ∷ y ∷ ss) (a ∷ ids) ns s takes each good = absurd takes.0
  add_fine (sort.Field p ∷ y ∷ ss) (a ∷ ids) ns s takes each good =
      plain_fine ns (node.Add (a ∷ ids)) good (one_field (a ∷ ids) ns p (omega arith) (each.0, each_all (y ∷ ss) ids ns (sort.Field p) takes.1 each.1)) tt

  mul_fine : (ss : List Sort) (ids : List ℕ) → AppliedFine Mul ss ids
  unfolding applied_asks
  mul_fine [] ids ns s takes each good = absurd takes
  mul_fine (x ∷ []) ids ns s takes each good = absurd takes
  mul_fine (x ∷ y ∷ ss) [] ns s takes each good = absurd each
  mul_fine (sort.Bool ∷ y ∷ ss) (a ∷ ids) ns s takes each good = absurd takes.0
  mul_fine (sort.Field p ∷ y ∷ ss) (a ∷ ids) ns s takes each good =
      plain_fine ns (node.Mul (a ∷ ids)) good (one_field (a ∷ ids) ns p (omega arith) (each.0, each_all (y ∷ ss) ids ns (sort.Field p) takes.1 each.1)) tt

  neg_fine : (ss : List Sort) (ids : List ℕ) → AppliedFine Neg ss ids
  unfolding applied_asks
  neg_fine [] ids ns s takes each good = absurd takes
  neg_fine (x ∷ y ∷ ss) ids ns s takes each good = absurd takes
  neg_fine (x ∷ []) [] ns s takes each good = absurd each
  neg_fine (x ∷ []) (a ∷ b ∷ ids) ns s takes each good = absurd each.1
  neg_fine (sort.Bool ∷ []) (a ∷ []) ns s takes each good = absurd takes.0
  neg_fine (sort.Field p ∷ []) (a ∷ []) ns s takes each good = plain_fine ns (node.Neg a) good (one_field (a ∷ []) ns p (omega arith) (each.0, tt)) tt

  bitsum_fine : (ss : List Sort) (ids : List ℕ) → AppliedFine Bitsum ss ids
  unfolding applied_asks
  bitsum_fine [] ids ns s takes each good = absurd takes
  bitsum_fine (x ∷ ss) [] ns s takes each good = absurd each
  bitsum_fine (sort.Bool ∷ ss) (a ∷ ids) ns s takes each good = absurd takes.0
  bitsum_fine (sort.Field p ∷ ss) (a ∷ ids) ns s takes each good =
      plain_fine ns (node.Bitsum (a ∷ ids)) good (one_field (a ∷ ids) ns p (omega arith) (each.0, each_all ss ids ns (sort.Field p) takes.1 each.1)) tt

  applied_fine : (op : Operator) (ss : List Sort) (ids : List ℕ) → AppliedFine op ss ids
  applied_fine Not ss ids = not_fine ss ids
  applied_fine And ss ids = and_fine ss ids
  applied_fine Or ss ids = or_fine ss ids
  applied_fine Xor ss ids = xor_fine ss ids
  applied_fine Implies ss ids = implies_fine ss ids
  applied_fine Equal ss ids = equal_fine ss ids
  applied_fine Distinct ss ids = distinct_fine ss ids
  applied_fine Ite ss ids = ite_fine ss ids
  applied_fine Add ss ids = add_fine ss ids
  applied_fine Mul ss ids = mul_fine ss ids
  applied_fine Neg ss ids = neg_fine ss ids
  applied_fine Bitsum ss ids = bitsum_fine ss ids

table_with : (ns : List Node) → IsTable ns → IsTableWith [] (constant_count ns) ns
table_with ns table = record { table = table; declared = λ k s e. cc; counted = refl }

pub asks_fit : (op : Operator) (ss : List Sort) (s : Sort) (ns : List Node) (ids : List ℕ) → Takes op ss s → IsTable ns → AreSortsAt ns ss ids → AsksFit op ns ids s
asks_fit op ss s ns ids takes table each =
    let good = table_with ns table in
    let at = each_at ns ss ids each in
    record {
      each = applied_fine (constant_count ns) op ss ids ns s takes at good;
      way =
          All-weaker (IsStep ns (applied_made op ns ids).nodes) (IsAskedOnTheWay (applied_made op ns ids).nodes) (λ k h. h.1) (applied_asks op ns ids) (applied_steps op ids ns);
      made = λ room. let all = applied_good [] (constant_count ns) op ss ids ns s takes at good room in (all.0.table, all.1);
    }
