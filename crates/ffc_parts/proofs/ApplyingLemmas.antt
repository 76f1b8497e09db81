-- What a function makes of the nodes of its arguments, by how many they are.
use Rattle.std.proofs.Common.{◌≡◌, ℕ, ◌-◌, ◌<◌, ◌≤◌, List, [], ◌∷◌, length, take, drop, get_or, Result, refl, sym, ap, subst, arith}
use Rattle.std.proofs.lemmas.List.{take_all, length-drop}
use Rattle.std.proofs.lemmas.List.Elements.{All-cons, All-nil, All-head, All-tail}
use Rattle.ffc_term.specs.declared.node.Node.{Node}
use Rattle.ffc_term.specs.declared.node.Node.TheVariants as node
use Rattle.ffc_term.specs.declared.node.Sort.{Sort}
use Rattle.ffc_term.specs.declared.node.Sort.TheVariants as sort
use Rattle.ffc_term.specs.declared.table.TermStop.{TermStop}
use Rattle.ffc_term.specs.Nodes.{sort_at}
use Rattle.ffc_term.specs.Tables.{IsTable, AreBoolean, AreOfOneField, constant_count, most_nodes}
use Rattle.ffc_smt.specs.Terms.{Not, And, Or, Xor, Implies, Equal, Distinct, Ite, Add, Mul, Neg, Bitsum}
use Rattle.ffc_smt.specs.Making.{Made, AllMade, interned, equality, difference, neighbours, differences, exclusive, conjoined, choice, applied_made}
use Rattle.ffc_smt.specs.WellSorted.{AreAll, IsField, Takes}
use Rattle.ffc_smt.specs.States.{IsTableWith}
use Rattle.ffc_smt.specs.Asking.{IsSortAt, AreSortsAt}
use Rattle.ffc_smt.proofs.Extends.{Extends, interned_extends}
use Rattle.ffc_smt.proofs.TableMaking.{AllAt, booleans, neighbours_good, differences_good, neighbours_some, differences_some}
use Rattle.ffc_parts.specs.Growing.{AreAlike, AreAllAt, Makes, implied}

-- a slice up to the end
pub up_to_end : (ids : List ℕ) (k : ℕ) → take (length ids - k) (drop k ids) ≡ drop k ids
up_to_end ids k = take_all (length ids - k) (drop k ids) (omega (arith, length-drop k ids))

pub all_from : (ns : List Node) (s : Sort) (ids : List ℕ) → AreAllAt ns s ids → AllAt ns s ids
all_from ns s [] h = tt
all_from ns s (a ∷ ids) h = (All-head (IsSortAt ns s) a ids h, all_from ns s ids (All-tail (IsSortAt ns s) a ids h))

pub others_all : (ns : List Node) (s : Sort) (ids : List ℕ) → AreAllAt ns s ids → AreAllAt ns s (drop 1 ids)
others_all ns s [] h = h
others_all ns s (a ∷ ids) h = All-tail (IsSortAt ns s) a ids h

table_with : (ns : List Node) → IsTable ns → IsTableWith [] (constant_count ns) ns
table_with ns table = record { table = table; declared = λ k s e. cc; counted = refl }

-- Equalities

pub equal_two : (ids : List ℕ) (ns : List Node) → length ids ≡ 2 → applied_made Equal ns ids ≡ equality ns (get_or ids 0 0) (get_or ids 1 0)
unfolding applied_made
equal_two [] ns h = absurd (omega arith)
equal_two (a ∷ []) ns h = absurd (omega arith)
equal_two (a ∷ b ∷ []) ns h = refl
equal_two (a ∷ b ∷ c ∷ rest) ns h = absurd (omega arith)

pub equal_many : (ids : List ℕ) (ns : List Node) → 2 < length ids → applied_made Equal ns ids ≡ conjoined (neighbours ns (get_or ids 0 0) (drop 1 ids))
unfolding applied_made
equal_many [] ns h = absurd (omega arith)
equal_many (a ∷ []) ns h = absurd (omega arith)
equal_many (a ∷ b ∷ []) ns h = absurd (omega arith)
equal_many (a ∷ b ∷ c ∷ rest) ns h = refl

neighbours_any : (rest : List ℕ) (ns : List Node) (a : ℕ) → 0 < length rest → 0 < length (neighbours ns a rest).ids
neighbours_any [] ns a h = absurd (omega arith)
neighbours_any (b ∷ rest) ns a h = neighbours_some [] 0 rest ns a b

-- several Boolean nodes
together : (m : AllMade) (new : List Node) (ids : List ℕ) → m ≡ record { nodes = new; ids = ids } → 0 < length m.ids → AllAt m.nodes sort.Bool m.ids → AreBoolean new ids
together m new ids e some all = subst (λ (k : AllMade). AreBoolean k.nodes k.ids) e (booleans m.ids m.nodes some all)

room : (m : AllMade) (new : List Node) (ids : List ℕ) → m ≡ record { nodes = new; ids = ids } → IsTable new → length m.nodes ≤ most_nodes
room m new ids e table = subst (λ (k : AllMade). length k.nodes ≤ most_nodes) (sym e) table.well_formed.within

pub neighbours_boolean : (old new : List Node) (a : ℕ) (rest ids : List ℕ) (s : Sort) → IsTable old → IsSortAt old s a → AreAllAt old s rest → 0 < length rest
    → neighbours old a rest ≡ record { nodes = new; ids = ids } → IsTable new → AreBoolean new ids
neighbours_boolean old new a rest ids s table at all some e after =
    together (neighbours old a rest) new ids e (neighbours_any rest old a some)
    (neighbours_good [] (constant_count old) rest old a s at (all_from old s rest all) (table_with old table) (room (neighbours old a rest) new ids e after)).1

pub conjoined_then : (m : AllMade) (new : List Node) (ids : List ℕ) → m ≡ record { nodes = new; ids = ids } → conjoined m ≡ interned new (node.And ids)
conjoined_then m new ids e = ap (λ (k : AllMade). interned k.nodes (node.And k.ids)) e

pub conjoined_begins : (m : AllMade) → Extends m.nodes (conjoined m).nodes
conjoined_begins m = interned_extends m.nodes (node.And m.ids)

-- Differences

pub distinct_two : (ids : List ℕ) (ns : List Node) → length ids ≡ 2 → applied_made Distinct ns ids ≡ difference ns (get_or ids 0 0) (get_or ids 1 0)
unfolding applied_made
distinct_two [] ns h = absurd (omega arith)
distinct_two (a ∷ []) ns h = absurd (omega arith)
distinct_two (a ∷ b ∷ []) ns h = refl
distinct_two (a ∷ b ∷ c ∷ rest) ns h = absurd (omega arith)

pub distinct_many : (ids : List ℕ) (ns : List Node) → 2 < length ids → applied_made Distinct ns ids ≡ conjoined (differences ns ids)
unfolding applied_made
distinct_many [] ns h = absurd (omega arith)
distinct_many (a ∷ []) ns h = absurd (omega arith)
distinct_many (a ∷ b ∷ []) ns h = absurd (omega arith)
distinct_many (a ∷ b ∷ c ∷ rest) ns h = refl

differences_any : (ids : List ℕ) (ns : List Node) → 1 < length ids → 0 < length (differences ns ids).ids
differences_any [] ns h = absurd (omega arith)
differences_any (a ∷ []) ns h = absurd (omega arith)
differences_any (a ∷ b ∷ ids) ns h = differences_some [] 0 ids ns a b

pub differences_boolean : (old new : List Node) (list ids : List ℕ) (s : Sort) → IsTable old → AreAllAt old s list → 1 < length list
    → differences old list ≡ record { nodes = new; ids = ids } → IsTable new → AreBoolean new ids
differences_boolean old new list ids s table all some e after =
    together (differences old list) new ids e (differences_any list old some)
    (differences_good [] (constant_count old) list old s (all_from old s list all) (table_with old table) (room (differences old list) new ids e after)).1

-- How many arguments a function takes

pub one_of : (ids : List ℕ) → length ids ≡ 1 → ids ≡ get_or ids 0 0 ∷ []
one_of [] h = absurd (omega arith)
one_of (a ∷ []) h = refl
one_of (a ∷ b ∷ ids) h = absurd (omega arith)

pub same_length : (ns : List Node) (ss : List Sort) (ids : List ℕ) → AreSortsAt ns ss ids → length ids ≡ length ss
same_length ns [] [] h = refl
same_length ns [] (a ∷ ids) h = absurd h
same_length ns (s ∷ ss) [] h = absurd h
same_length ns (s ∷ ss) (a ∷ ids) h = let e = same_length ns ss ids h.1 in omega arith

-- arguments that are all of one sort
pub all_of : (ns : List Node) (ss : List Sort) (ids : List ℕ) (s : Sort) → AreAll s ss → AreSortsAt ns ss ids → AreAllAt ns s ids
all_of ns [] [] s h g = All-nil (IsSortAt ns s)
all_of ns [] (a ∷ ids) s h g = absurd g
all_of ns (t ∷ ss) [] s h g = absurd g
all_of ns (t ∷ ss) (a ∷ ids) s h g = All-cons (IsSortAt ns s) a ids (subst (λ u. IsSortAt ns u a) h.0 g.0) (all_of ns ss ids s h.1 g.1)

-- what a function that takes so many arguments of one sort makes
pub record AreAlikeOf (ns : List Node) (s : Sort) (n : ℕ) (ids : List ℕ) : Type 0 where
  pub each : AreAllAt ns s ids
  pub long : n ≤ length ids

abbrev pub Booleans : List Node → ℕ → List ℕ → Type 0
Booleans ns n ids = AreAlikeOf ns sort.Bool n ids

one_bool : (ns : List Node) (ss : List Sort) (ids : List ℕ) (n : ℕ) → n ≤ length ss → AreAll sort.Bool ss → AreSortsAt ns ss ids → Booleans ns n ids
one_bool ns ss ids n h all each = record { each = all_of ns ss ids sort.Bool all each; long = let e = same_length ns ss ids each in omega (arith, h, e) }

pub not_takes : (ns : List Node) (ss : List Sort) (ids : List ℕ) (s : Sort) → Takes Not ss s → AreSortsAt ns ss ids → (length ids ≡ 1) × Booleans ns 1 ids
not_takes ns [] ids s h g = absurd h
not_takes ns (x ∷ y ∷ ss) ids s h g = absurd h
not_takes ns (x ∷ []) ids s h g = (same_length ns (x ∷ []) ids g, one_bool ns (x ∷ []) ids 1 (omega arith) (h.0, tt) g)

pub and_takes : (ns : List Node) (ss : List Sort) (ids : List ℕ) (s : Sort) → Takes And ss s → AreSortsAt ns ss ids → Booleans ns 1 ids
and_takes ns [] ids s h g = absurd h
and_takes ns (x ∷ ss) ids s h g = one_bool ns (x ∷ ss) ids 1 (omega arith) h.0 g

pub or_takes : (ns : List Node) (ss : List Sort) (ids : List ℕ) (s : Sort) → Takes Or ss s → AreSortsAt ns ss ids → Booleans ns 1 ids
or_takes ns [] ids s h g = absurd h
or_takes ns (x ∷ ss) ids s h g = one_bool ns (x ∷ ss) ids 1 (omega arith) h.0 g

pub xor_takes : (ns : List Node) (ss : List Sort) (ids : List ℕ) (s : Sort) → Takes Xor ss s → AreSortsAt ns ss ids → Booleans ns 2 ids
xor_takes ns [] ids s h g = absurd h
xor_takes ns (x ∷ []) ids s h g = absurd h
xor_takes ns (x ∷ y ∷ ss) ids s h g = one_bool ns (x ∷ y ∷ ss) ids 2 (omega arith) h.0 g

pub implies_takes : (ns : List Node) (ss : List Sort) (ids : List ℕ) (s : Sort) → Takes Implies ss s → AreSortsAt ns ss ids → Booleans ns 2 ids
implies_takes ns [] ids s h g = absurd h
implies_takes ns (x ∷ []) ids s h g = absurd h
implies_takes ns (x ∷ y ∷ ss) ids s h g = one_bool ns (x ∷ y ∷ ss) ids 2 (omega arith) h.0 g

-- of some one sort
abbrev pub AlikeOf : List Node → ℕ → List ℕ → Type 0
AlikeOf ns n ids = (s : Sort) × AreAlikeOf ns s n ids

pub equal_takes : (ns : List Node) (ss : List Sort) (ids : List ℕ) (s : Sort) → Takes Equal ss s → AreSortsAt ns ss ids → AlikeOf ns 2 ids
equal_takes ns [] ids s h g = absurd h
equal_takes ns (x ∷ []) ids s h g = absurd h
equal_takes ns (x ∷ y ∷ ss) ids s h g =
    let e = same_length ns (x ∷ y ∷ ss) ids g in (x, record { each = all_of ns (x ∷ y ∷ ss) ids x (refl, h.0) g; long = omega (arith, e) })

pub distinct_takes : (ns : List Node) (ss : List Sort) (ids : List ℕ) (s : Sort) → Takes Distinct ss s → AreSortsAt ns ss ids → AlikeOf ns 2 ids
distinct_takes ns [] ids s h g = absurd h
distinct_takes ns (x ∷ []) ids s h g = absurd h
distinct_takes ns (x ∷ y ∷ ss) ids s h g =
    let e = same_length ns (x ∷ y ∷ ss) ids g in (x, record { each = all_of ns (x ∷ y ∷ ss) ids x (refl, h.0) g; long = omega (arith, e) })

-- of some field
abbrev pub FieldsOf : List Node → ℕ → List ℕ → Type 0
FieldsOf ns n ids = (p : ℕ) × AreAlikeOf ns (sort.Field p) n ids

fields : (ns : List Node) (x : Sort) (ss : List Sort) (ids : List ℕ) (n : ℕ) → n ≤ length (x ∷ ss) → IsField x → AreAll x ss → AreSortsAt ns (x ∷ ss) ids → FieldsOf ns n ids
fields ns sort.Bool ss ids n h is all g = absurd is
fields ns (sort.Field p) ss ids n h is all g =
    let e = same_length ns (sort.Field p ∷ ss) ids g in (p, record { each = all_of ns (sort.Field p ∷ ss) ids (sort.Field p) (refl, all) g; long = omega (arith, e, h) })

pub add_takes : (ns : List Node) (ss : List Sort) (ids : List ℕ) (s : Sort) → Takes Add ss s → AreSortsAt ns ss ids → FieldsOf ns 1 ids
add_takes ns [] ids s h g = absurd h
add_takes ns (x ∷ []) ids s h g = absurd h
add_takes ns (x ∷ y ∷ ss) ids s h g = fields ns x (y ∷ ss) ids 1 (omega arith) h.0 h.1 g

pub mul_takes : (ns : List Node) (ss : List Sort) (ids : List ℕ) (s : Sort) → Takes Mul ss s → AreSortsAt ns ss ids → FieldsOf ns 1 ids
mul_takes ns [] ids s h g = absurd h
mul_takes ns (x ∷ []) ids s h g = absurd h
mul_takes ns (x ∷ y ∷ ss) ids s h g = fields ns x (y ∷ ss) ids 1 (omega arith) h.0 h.1 g

pub bitsum_takes : (ns : List Node) (ss : List Sort) (ids : List ℕ) (s : Sort) → Takes Bitsum ss s → AreSortsAt ns ss ids → FieldsOf ns 1 ids
bitsum_takes ns [] ids s h g = absurd h
bitsum_takes ns (x ∷ ss) ids s h g = fields ns x ss ids 1 (omega arith) h.0 h.1 g

pub neg_takes : (ns : List Node) (ss : List Sort) (ids : List ℕ) (s : Sort) → Takes Neg ss s → AreSortsAt ns ss ids → (length ids ≡ 1) × FieldsOf ns 1 ids
neg_takes ns [] ids s h g = absurd h
neg_takes ns (x ∷ y ∷ ss) ids s h g = absurd h
neg_takes ns (x ∷ []) ids s h g = (same_length ns (x ∷ []) ids g, fields ns x [] ids 1 (omega arith) h.0 tt g)

-- a condition and two of one sort
pub record AreChoice (ns : List Node) (ids : List ℕ) : Type 0 where
  pub long : length ids ≡ 3
  pub condition : IsSortAt ns sort.Bool (get_or ids 0 0)
  pub alike : AreAlike ns (get_or ids 1 0) (get_or ids 2 0)

pub ite_takes : (ns : List Node) (ss : List Sort) (ids : List ℕ) (s : Sort) → Takes Ite ss s → AreSortsAt ns ss ids → AreChoice ns ids
ite_takes ns [] ids s h g = absurd h
ite_takes ns (z ∷ []) ids s h g = absurd h
ite_takes ns (z ∷ x ∷ []) ids s h g = absurd h
ite_takes ns (z ∷ x ∷ y ∷ w ∷ ss) ids s h g = absurd h
ite_takes ns (z ∷ x ∷ y ∷ []) [] s h g = absurd g
ite_takes ns (z ∷ x ∷ y ∷ []) (c ∷ []) s h g = absurd g.1
ite_takes ns (z ∷ x ∷ y ∷ []) (c ∷ a ∷ []) s h g = absurd g.1.1
ite_takes ns (z ∷ x ∷ y ∷ []) (c ∷ a ∷ b ∷ d ∷ ids) s h g = absurd g.1.1.1
ite_takes ns (z ∷ x ∷ y ∷ []) (c ∷ a ∷ b ∷ []) s h g = record {
  long = refl;
  condition = subst (λ u. IsSortAt ns u c) h.0 g.0;
  alike = record { sort = x; first = g.1.0; second = subst (λ u. IsSortAt ns u b) h.1 g.1.1.0 };
}

-- What each makes

pub not_made : (ids : List ℕ) (ns : List Node) → length ids ≡ 1 → applied_made Not ns ids ≡ interned ns (node.Not (get_or ids 0 0))
unfolding applied_made
not_made [] ns h = absurd (omega arith)
not_made (a ∷ []) ns h = refl
not_made (a ∷ b ∷ ids) ns h = absurd (omega arith)

pub neg_made : (ids : List ℕ) (ns : List Node) → length ids ≡ 1 → applied_made Neg ns ids ≡ interned ns (node.Neg (get_or ids 0 0))
unfolding applied_made
neg_made [] ns h = absurd (omega arith)
neg_made (a ∷ []) ns h = refl
neg_made (a ∷ b ∷ ids) ns h = absurd (omega arith)

pub and_made : (ids : List ℕ) (ns : List Node) → 1 ≤ length ids → applied_made And ns ids ≡ interned ns (node.And ids)
unfolding applied_made
and_made [] ns h = absurd (omega arith)
and_made (a ∷ ids) ns h = refl

pub or_made : (ids : List ℕ) (ns : List Node) → 1 ≤ length ids → applied_made Or ns ids ≡ interned ns (node.Or ids)
unfolding applied_made
or_made [] ns h = absurd (omega arith)
or_made (a ∷ ids) ns h = refl

pub add_made : (ids : List ℕ) (ns : List Node) → 1 ≤ length ids → applied_made Add ns ids ≡ interned ns (node.Add ids)
unfolding applied_made
add_made [] ns h = absurd (omega arith)
add_made (a ∷ ids) ns h = refl

pub mul_made : (ids : List ℕ) (ns : List Node) → 1 ≤ length ids → applied_made Mul ns ids ≡ interned ns (node.Mul ids)
unfolding applied_made
mul_made [] ns h = absurd (omega arith)
mul_made (a ∷ ids) ns h = refl

pub bitsum_made : (ids : List ℕ) (ns : List Node) → 1 ≤ length ids → applied_made Bitsum ns ids ≡ interned ns (node.Bitsum ids)
unfolding applied_made
bitsum_made [] ns h = absurd (omega arith)
bitsum_made (a ∷ ids) ns h = refl

pub xor_made : (ids : List ℕ) (ns : List Node) → 2 ≤ length ids → applied_made Xor ns ids ≡ exclusive ns (get_or ids 0 0) (drop 1 ids)
unfolding applied_made
xor_made [] ns h = absurd (omega arith)
xor_made (a ∷ []) ns h = absurd (omega arith)
xor_made (a ∷ b ∷ ids) ns h = refl

pub implies_made : (ids : List ℕ) (ns : List Node) → 2 ≤ length ids → applied_made Implies ns ids ≡ implied ns ids
unfolding applied_made
implies_made [] ns h = absurd (omega arith)
implies_made (a ∷ []) ns h = absurd (omega arith)
implies_made (a ∷ b ∷ ids) ns h = refl

pub ite_made : (ids : List ℕ) (ns : List Node) → length ids ≡ 3 → applied_made Ite ns ids ≡ choice (sort_at ns (get_or ids 1 0)) ns (get_or ids 0 0) (get_or ids 1 0) (get_or ids 2 0)
unfolding applied_made
ite_made [] ns h = absurd (omega arith)
ite_made (a ∷ []) ns h = absurd (omega arith)
ite_made (a ∷ b ∷ []) ns h = absurd (omega arith)
ite_made (a ∷ b ∷ c ∷ []) ns h = refl
ite_made (a ∷ b ∷ c ∷ d ∷ ids) ns h = absurd (omega arith)

pub as_made : (old new : List Node) (w v : Made) (r : Result ℕ TermStop) → w ≡ v → Makes old new v r → Makes old new w r
as_made old new w v r e h = subst (λ (m : Made). Makes old new m r) (sym e) h

pub booleans_of : (ns : List Node) (n : ℕ) (ids : List ℕ) → 0 < n → Booleans ns n ids → AreBoolean ns ids
booleans_of ns n ids some h = record { some = omega (arith, some, h.long); each = h.each }

pub field_of : (ns : List Node) (n : ℕ) (ids : List ℕ) → 0 < n → FieldsOf ns n ids → AreOfOneField ns ids
field_of ns n ids some h = record { some = omega (arith, some, h.1.long); order = h.0; each = h.1.each }
