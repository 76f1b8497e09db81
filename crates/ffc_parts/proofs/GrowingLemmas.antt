-- Nodes that are put into a table one after another.
use Rattle.std.proofs.Common.{◌≡◌, ℕ, ◌+◌, ◌<◌, ◌≤◌, ◌↔◌, ◌⊎◌, inl, inr, List, [], ◌∷◌, ◌++◌, length, take, drop, get_or, zero, suc, Result, Ok, Err, IfOk, OnErr, IsErrOf, Contains, refl, sym, ap, ◌∙◌, subst, arith, append_assoc, append-nil, length-append}
use Rattle.ffc_term.specs.declared.node.Node.{Node}
use Rattle.ffc_term.specs.declared.node.Node.TheVariants as node
use Rattle.ffc_term.specs.declared.node.Sort.{Sort}
use Rattle.ffc_term.specs.declared.node.Sort.TheVariants as sort
use Rattle.ffc_term.specs.declared.table.TermStop.{TermStop}
use Rattle.ffc_term.specs.declared.table.TermStop.TheVariants as stop
use Rattle.std.proofs.lemmas.List.{drop_more, drop_all}
use Rattle.std.proofs.lemmas.Option.{slice_get_within}
use Rattle.std.proofs.lemmas.List.Elements.{All-weaker}
use Rattle.ffc_term.specs.Nodes.{IsNodeAt, sort_at, sorts, sort_of_node}
use Rattle.ffc_term.proofs.TableLemmas.{sort_at-is}
use Rattle.ffc_term.specs.Tables.{IsTable, IsInterned, most_nodes}
use Rattle.ffc_smt.specs.Making.{Made, interned, equality, equality_of, difference, implication, implications, exclusive, AllMade, with_id, neighbours, differences_from, differences}
use Rattle.ffc_smt.specs.Asking.{IsSortAt}
use Rattle.ffc_smt.proofs.Extends.{Extends, longer, sort_stays, interned_at, interned_extends, exclusive_extends, implication_extends, extends_same, extends_further, neighbours_extend, differences_from_extend, differences_extend}
use Rattle.ffc_smt.proofs.InterningLemmas.{interned_absent, interning_is_one}
use Rattle.ffc_parts.specs.Growing.{Grows, IsLeft, Makes, AreAllAt, AreDone, AreLeft, IsGoing, implied}

abbrev the_all : List Node → List ℕ → AllMade
the_all nodes ids = record { nodes = nodes; ids = ids }

pub grows_same : (ns : List Node) → IsTable ns → Grows ns ns
grows_same ns table = record { more = []; put = sym (append-nil ns); table = table }

pub grows_further : (one two three : List Node) → Grows one two → Grows two three → Grows one three
grows_further one two three g h = record {
  more = g.more ++ h.more;
  put = h.put ∙ ap (λ t. t ++ h.more) g.put ∙ append_assoc one g.more h.more;
  table = h.table;
}

pub extended : (old new : List Node) → Grows old new → Extends old new
extended old new g = (g.more, g.put)

interned_grows : (old new : List Node) (n : Node) (id : ℕ) → IsTable new → IsInterned old new n id → Grows old new
interned_grows old new n id table h = by_added h.added
  where
    by_added : (Contains old n × (new ≡ old)) ⊎ (¬ (Contains old n) × (new ≡ old ++ n ∷ []) × (id ≡ length old)) → Grows old new
    by_added (inl there) = record { more = []; put = there.1 ∙ sym (append-nil old); table = table }
    by_added (inr put) = record { more = n ∷ []; put = put.1; table = table }

pub put_makes : (old new : List Node) (n : Node) (r : Result ℕ TermStop) → IsTable old → IsTable new → IfOk r (IsInterned old new n)
    → (IsErrOf r stop.Nodes ↔ (¬ (Contains old n) × (length old ≡ most_nodes))) → OnErr r (new ≡ old) → Makes old new (interned old n) r
put_makes old new n (Ok id) before after ok full err =
    record { made = interning_is_one old new n id after.well_formed ok; grows = interned_grows old new n id after ok }
put_makes old new n (Err cause) before after ok full err = record {
  full = λ e.
      let h = full.0 (ap Err e) in
      let is = interned_absent old n h.0 in
      let long : length (interned old n).nodes ≡ length old + 1 = ap (λ m. length m.nodes) is ∙ length-append old (n ∷ []) in omega (arith, long, h.1);
  grows = record { more = []; put = err ∙ sym (append-nil old); table = after };
}

pub makes_after : (old mid new : List Node) (w v : Made) (r : Result ℕ TermStop) → Grows old mid → w ≡ v → Makes mid new v r → Makes old new w r
makes_after old mid new w v (Ok id) g e h = record { made = e ∙ h.made; grows = grows_further old mid new g h.grows }
makes_after old mid new w v (Err cause) g e h =
    record { full = λ c. subst (λ (m : Made). most_nodes < length m.nodes) (sym e) (h.full c); grows = grows_further old mid new g h.grows }

pub left_wider : (old mid new : List Node) (part whole : Made) (cause : TermStop) → Grows old mid → Extends part.nodes whole.nodes → IsLeft mid new part cause → IsLeft old new whole cause
left_wider old mid new part whole cause g further h = record {
  full = λ c. let long = longer part.nodes whole.nodes further in omega (arith, h.full c, long);
  grows = grows_further old mid new g h.grows;
}

pub sort_at_stays : (old new : List Node) (s : Sort) (a : ℕ) → Grows old new → IsSortAt old s a → IsSortAt new s a
sort_at_stays old new s a g h = (let long = longer old new (extended old new g) in omega (arith, h.0, long), sort_stays old new a (extended old new g) h.0 ∙ h.1)

-- Nodes of Boolean sort

pub bool_at : (ns new : List Node) (n : Node) (id : ℕ) → interned ns n ≡ record { nodes = new; id = id } → ((ss : List Sort) → sort_of_node ss n ≡ sort.Bool) → IsSortAt new sort.Bool id
bool_at ns new n id e is =
    let at : IsNodeAt new id n = subst (λ (m : Made). IsNodeAt m.nodes m.id n) e (interned_at ns n) in (slice_get_within new id n at, sort_at-is new id n at ∙ is (sorts (take id new)))

equality_by_sort : (s : Sort) (ns new : List Node) (a b id : ℕ) → interned ns (equality_of s a b) ≡ record { nodes = new; id = id } → IsSortAt new sort.Bool id
equality_by_sort sort.Bool ns new a b id e = bool_at ns new (node.Iff a b) id e (λ ss. refl)
equality_by_sort (sort.Field p) ns new a b id e = bool_at ns new (node.Eq a b) id e (λ ss. refl)

pub equality_at : (ns new : List Node) (a b id : ℕ) → equality ns a b ≡ record { nodes = new; id = id } → IsSortAt new sort.Bool id
unfolding equality
equality_at ns new a b id e = equality_by_sort (sort_at ns a) ns new a b id e

pub implication_at : (ns new : List Node) (a b id : ℕ) → implication ns a b ≡ record { nodes = new; id = id } → IsSortAt new sort.Bool id
unfolding implication
implication_at ns new a b id e = let m = interned ns (node.Not a) in bool_at m.nodes new (node.Or (m.id ∷ b ∷ [])) id e (λ ss. refl)

-- Two steps

pub difference_then : (ns mid : List Node) (a b id : ℕ) → equality ns a b ≡ record { nodes = mid; id = id } → difference ns a b ≡ interned mid (node.Not id)
unfolding difference
difference_then ns mid a b id e = ap (λ (m : Made). interned m.nodes (node.Not m.id)) e

pub difference_begins : (ns : List Node) (a b : ℕ) → Extends (equality ns a b).nodes (difference ns a b).nodes
unfolding difference
difference_begins ns a b = let m = equality ns a b in interned_extends m.nodes (node.Not m.id)

pub implication_then : (ns mid : List Node) (a b id : ℕ) → interned ns (node.Not a) ≡ record { nodes = mid; id = id } → implication ns a b ≡ interned mid (node.Or (id ∷ b ∷ []))
unfolding implication
implication_then ns mid a b id e = ap (λ (m : Made). interned m.nodes (node.Or (m.id ∷ b ∷ []))) e

pub implication_begins : (ns : List Node) (a b : ℕ) → Extends (interned ns (node.Not a)).nodes (implication ns a b).nodes
unfolding implication
implication_begins ns a b = let m = interned ns (node.Not a) in interned_extends m.nodes (node.Or (m.id ∷ b ∷ []))

-- Lists

pub all_at_stays : (old new : List Node) (s : Sort) (ids : List ℕ) → Grows old new → AreAllAt old s ids → AreAllAt new s ids
all_at_stays old new s ids g h = All-weaker (IsSortAt old s) (IsSortAt new s) (λ a k. sort_at_stays old new s a g k) ids h

pub exclusive_then : (ns new : List Node) (a b id : ℕ) (rest : List ℕ) → interned ns (node.Xor a b) ≡ record { nodes = new; id = id } → exclusive ns a (b ∷ rest) ≡ exclusive new id rest
unfolding exclusive
exclusive_then ns new a b id rest e = ap (λ (m : Made). exclusive m.nodes m.id rest) e

pub exclusive_begins : (ns : List Node) (a b : ℕ) (rest : List ℕ) → Extends (interned ns (node.Xor a b)).nodes (exclusive ns a (b ∷ rest)).nodes
unfolding exclusive
exclusive_begins ns a b rest = let m = interned ns (node.Xor a b) in exclusive_extends rest m.nodes m.id

pub exclusive_none : (ns : List Node) (a : ℕ) → exclusive ns a [] ≡ record { nodes = ns; id = a }
unfolding exclusive
exclusive_none ns a = refl

-- a part that did not fit is a part of the whole
pub left_of_whole : (old new : List Node) (part whole : Made) (cause : TermStop) → Extends part.nodes whole.nodes → IsLeft old new part cause → IsLeft old new whole cause
left_of_whole old new part whole cause further h = record { full = λ c. let long = longer part.nodes whole.nodes further in omega (arith, h.full c, long); grows = h.grows }

-- `Xor` from the left, as far as it has come

pub exclusive_goes : (ns : List Node) (a : ℕ) (rest : List ℕ) (i : ℕ) → i < length rest → exclusive ns a (drop i rest) ≡ exclusive ns a (get_or rest i 0 ∷ drop (i + 1) rest)
exclusive_goes ns a rest i h = ap (exclusive ns a) (drop_more rest i 0 h)

pub exclusive_ends : (ns : List Node) (a : ℕ) (rest : List ℕ) (i : ℕ) → length rest ≤ i → exclusive ns a (drop i rest) ≡ record { nodes = ns; id = a }
exclusive_ends ns a rest i h = ap (exclusive ns a) (drop_all i rest h) ∙ exclusive_none ns a

-- Implications from the right

pub implied_last : (ns : List Node) (a : ℕ) → implied ns (a ∷ []) ≡ record { nodes = ns; id = a }
unfolding implications
implied_last ns a = refl

pub implied_then : (old mid : List Node) (a made : ℕ) (rest : List ℕ) → 0 < length rest → implied old rest ≡ record { nodes = mid; id = made } → implied old (a ∷ rest) ≡ implication mid a made
unfolding implications
implied_then old mid a made [] h e = absurd (omega arith)
implied_then old mid a made (b ∷ rest) h e = ap (λ (m : Made). implication m.nodes a m.id) e

implied_tail : (old : List Node) (a : ℕ) (rest : List ℕ) → 0 < length rest → Extends (implied old rest).nodes (implied old (a ∷ rest)).nodes
unfolding implications
implied_tail old a [] h = absurd (omega arith)
implied_tail old a (b ∷ rest) h = let last = implications old b rest in implication_extends last.nodes a last.id

pub implied_front : (old : List Node) (ids : List ℕ) (k : ℕ) → k < length ids → Extends (implied old (drop k ids)).nodes (implied old ids).nodes
implied_front old [] k h = absurd (omega arith)
implied_front old (a ∷ rest) zero h = extends_same (implied old (a ∷ rest)).nodes
implied_front old (a ∷ rest) (suc k) h =
    extends_further (implied old (drop k rest)).nodes (implied old rest).nodes (implied old (a ∷ rest)).nodes (implied_front old rest k (omega arith)) (implied_tail old a rest (omega arith))

-- Several nodes

pub going_more : (old mid new : List Node) (wanted now next : AllMade) (before so_far after more : List ℕ) → IsGoing old mid wanted now before so_far → Grows mid new
    → now ≡ record { nodes = next.nodes; ids = more ++ next.ids } → after ≡ so_far ++ more → IsGoing old new wanted next before after
going_more old mid new wanted now next before so_far after more g h e l = record {
  ids = g.ids ++ more;
  whole = g.whole ∙ ap (λ (m : AllMade). the_all m.nodes (g.ids ++ m.ids)) e ∙ ap (the_all next.nodes) (sym (append_assoc g.ids more next.ids));
  listed = l ∙ ap (λ t. t ++ more) g.listed ∙ append_assoc before g.ids more;
  grows = grows_further old mid new g.grows h;
}

pub going_ends : (old now : List Node) (wanted : AllMade) (before after : List ℕ) → IsGoing old now wanted (record { nodes = now; ids = [] }) before after → AreDone old now wanted before after
going_ends old now wanted before after g = record { ids = g.ids; made = g.whole ∙ ap (the_all now) (append-nil g.ids); listed = g.listed; grows = g.grows }

whole_nodes : (wanted others : AllMade) (ids : List ℕ) → wanted ≡ record { nodes = others.nodes; ids = ids ++ others.ids } → length wanted.nodes ≡ length others.nodes
whole_nodes wanted others ids e = ap (λ (m : AllMade). length m.nodes) e

pub going_left : (old mid new : List Node) (wanted now : AllMade) (before so_far : List ℕ) (part : Made) (cause : TermStop) → IsGoing old mid wanted now before so_far
    → Extends part.nodes now.nodes → IsLeft mid new part cause → AreLeft old new wanted cause
going_left old mid new wanted now before so_far part cause g further h = record {
  full = λ c. let long = longer part.nodes now.nodes further in let same = whole_nodes wanted now g.ids g.whole in omega (arith, h.full c, long, same);
  grows = grows_further old mid new g.grows h.grows;
}

pub going_left_all : (old mid new : List Node) (wanted now part : AllMade) (before so_far : List ℕ) (cause : TermStop) → IsGoing old mid wanted now before so_far
    → Extends part.nodes now.nodes → AreLeft mid new part cause → AreLeft old new wanted cause
going_left_all old mid new wanted now part before so_far cause g further h = record {
  full = λ c. let long = longer part.nodes now.nodes further in let same = whole_nodes wanted now g.ids g.whole in omega (arith, h.full c, long, same);
  grows = grows_further old mid new g.grows h.grows;
}

pub left_all_memory : (old new : List Node) (wanted : AllMade) → Grows old new → AreLeft old new wanted stop.Memory
left_all_memory old new wanted g = record { full = λ c. cc; grows = g }

-- The equality of each with the next

pub neighbours_then : (ns new : List Node) (a b id : ℕ) (rest : List ℕ) → equality ns a b ≡ record { nodes = new; id = id }
    → neighbours ns a (b ∷ rest) ≡ record { nodes = (neighbours new b rest).nodes; ids = (id ∷ []) ++ (neighbours new b rest).ids }
unfolding neighbours
neighbours_then ns new a b id rest e = ap (λ (m : Made). with_id m.id (neighbours m.nodes b rest)) e

pub neighbours_begins : (ns : List Node) (a b : ℕ) (rest : List ℕ) → Extends (equality ns a b).nodes (neighbours ns a (b ∷ rest)).nodes
unfolding neighbours
neighbours_begins ns a b rest = let m = equality ns a b in neighbours_extend rest m.nodes b

pub neighbours_goes : (ns : List Node) (a : ℕ) (rest : List ℕ) (i : ℕ) → i < length rest → neighbours ns a (drop i rest) ≡ neighbours ns a (get_or rest i 0 ∷ drop (i + 1) rest)
neighbours_goes ns a rest i h = ap (neighbours ns a) (drop_more rest i 0 h)

neighbours_none : (ns : List Node) (a : ℕ) → neighbours ns a [] ≡ record { nodes = ns; ids = [] }
unfolding neighbours
neighbours_none ns a = refl

pub neighbours_ends : (ns : List Node) (a : ℕ) (rest : List ℕ) (i : ℕ) → length rest ≤ i → neighbours ns a (drop i rest) ≡ record { nodes = ns; ids = [] }
neighbours_ends ns a rest i h = ap (neighbours ns a) (drop_all i rest h) ∙ neighbours_none ns a

-- The difference of a node from each

pub differences_from_then : (ns new : List Node) (a b id : ℕ) (rest : List ℕ) → difference ns a b ≡ record { nodes = new; id = id }
    → differences_from ns a (b ∷ rest) ≡ record { nodes = (differences_from new a rest).nodes; ids = (id ∷ []) ++ (differences_from new a rest).ids }
unfolding differences_from
differences_from_then ns new a b id rest e = ap (λ (m : Made). with_id m.id (differences_from m.nodes a rest)) e

pub differences_from_begins : (ns : List Node) (a b : ℕ) (rest : List ℕ) → Extends (difference ns a b).nodes (differences_from ns a (b ∷ rest)).nodes
unfolding differences_from
differences_from_begins ns a b rest = let m = difference ns a b in differences_from_extend rest m.nodes a

pub differences_from_goes : (ns : List Node) (a : ℕ) (rest : List ℕ) (i : ℕ) → i < length rest → differences_from ns a (drop i rest) ≡ differences_from ns a (get_or rest i 0 ∷ drop (i + 1) rest)
differences_from_goes ns a rest i h = ap (differences_from ns a) (drop_more rest i 0 h)

differences_from_none : (ns : List Node) (a : ℕ) → differences_from ns a [] ≡ record { nodes = ns; ids = [] }
unfolding differences_from
differences_from_none ns a = refl

pub differences_from_ends : (ns : List Node) (a : ℕ) (rest : List ℕ) (i : ℕ) → length rest ≤ i → differences_from ns a (drop i rest) ≡ record { nodes = ns; ids = [] }
differences_from_ends ns a rest i h = ap (differences_from ns a) (drop_all i rest h) ∙ differences_from_none ns a

-- The differences of all pairs

pub differences_then : (ns new : List Node) (a : ℕ) (rest ids : List ℕ) → differences_from ns a rest ≡ record { nodes = new; ids = ids }
    → differences ns (a ∷ rest) ≡ record { nodes = (differences new rest).nodes; ids = ids ++ (differences new rest).ids }
unfolding differences
differences_then ns new a rest ids e = ap (λ (m : AllMade). the_all (differences m.nodes rest).nodes (m.ids ++ (differences m.nodes rest).ids)) e

pub differences_begins : (ns : List Node) (a : ℕ) (rest : List ℕ) → Extends (differences_from ns a rest).nodes (differences ns (a ∷ rest)).nodes
unfolding differences
differences_begins ns a rest = let m = differences_from ns a rest in differences_extend rest m.nodes

pub differences_goes : (ns : List Node) (ids : List ℕ) (i : ℕ) → i < length ids → differences ns (drop i ids) ≡ differences ns (get_or ids i 0 ∷ drop (i + 1) ids)
differences_goes ns ids i h = ap (differences ns) (drop_more ids i 0 h)

differences_none : (ns : List Node) → differences ns [] ≡ record { nodes = ns; ids = [] }
unfolding differences
differences_none ns = refl

pub differences_ends : (ns : List Node) (ids : List ℕ) (i : ℕ) → length ids ≤ i → differences ns (drop i ids) ≡ record { nodes = ns; ids = [] }
differences_ends ns ids i h = ap (differences ns) (drop_all i ids h) ∙ differences_none ns

-- several nodes that did not fit are a part of the whole
pub left_part : (old new : List Node) (part : AllMade) (whole : Made) (cause : TermStop) → Extends part.nodes whole.nodes → AreLeft old new part cause → IsLeft old new whole cause
left_part old new part whole cause further h = record { full = λ c. let long = longer part.nodes whole.nodes further in omega (arith, h.full c, long); grows = h.grows }
