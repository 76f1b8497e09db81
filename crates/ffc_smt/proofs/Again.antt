-- A term that is made again makes nothing.
use Rattle.std.proofs.Common.{◌≡◌, ℕ, suc, ◌+◌, ◌<◌, ◌||◌, not, cond, ltb, Bool, true, false, List, [], ◌∷◌, ◌++◌, length, ◌≤◌, Some, None, Option, position, zip, refl, sym, ap, ◌∙◌, subst, arith, ⊎_elim, if◌then◌else◌, append_assoc, length-append}
use Rattle.std.specs.List.{list_any, position_or_len}
use Rattle.std.specs.Str.{bytes_eq}
use Rattle.std.proofs.lemmas.Bool.{cases_lt}
use Rattle.std.proofs.lemmas.Bool.Decides.{nat_tests}
use Rattle.std.proofs.lemmas.Option.{slice_get_within}
use Rattle.std.proofs.lemmas.Map.Views.{list_any-from_Contains}
use Rattle.ffc_term.specs.declared.node.Node.{Node}
use Rattle.ffc_term.specs.declared.node.Node.TheVariants as node
use Rattle.ffc_term.specs.declared.node.Sort.{Sort}
use Rattle.ffc_term.specs.declared.node.Sort.TheVariants as sort
use Rattle.ffc_term.specs.declared.value.Value.{Value}
use Rattle.ffc_term.specs.contracts.node.NodePartialEq.TheImpl as by_parts
use Rattle.ffc_term.specs.contracts.node.NodeEq.TheImpl.Laws as eq_laws
use Rattle.ffc_term.specs.Nodes.{IsNodeAt, sort_at}
use Rattle.ffc_term.specs.Tables.{IsWellFormed}
use Rattle.ffc_term.proofs.NodeLemmas.{IsNodeAt-from_position, Contains-from_IsNodeAt}
use Rattle.ffc_smt.specs.Terms.{Name, Operator, Not, And, Or, Xor, Implies, Equal, Distinct, Ite, Add, Mul, Neg, Bitsum, Term, Truth, Number, Constant, Variable, Defined, Applied, Let, Called, Terms, NoTerm, AndTerm}
use Rattle.ffc_smt.specs.Meaning.{Env, found, Element}
use Rattle.ffc_smt.specs.Making.{Made, AllMade, placed, interned, with_id, equality_of, equality, neighbours, difference, differences_from, differences, exclusive, implication, implications, choice, conjoined, applied_made, variable_made, made, all_made}
use Rattle.ffc_smt.specs.Again.{AreWithin}
use Rattle.ffc_smt.specs.Law.{Agree}
use Rattle.ffc_smt.proofs.Extends.{Extends, extends_further, interned_at, sort_stays, longer, interned_extends, equality_extends, difference_extends, implication_extends, neighbours_extend, differences_from_extend, differences_extend, exclusive_extends, applied_extends, made_extends, all_made_extends}
use Rattle.ffc_smt.proofs.SameNodes.{interned_by_parts}

first_case : (b : Bool) (n len : ℕ) (rest : Bool) → (b || rest) ≡ true → (rest ≡ true → n < len) → cond (not b) (1 + n) 0 < suc len
first_case true n len rest h k = omega arith
first_case false n len rest h k = let i : n < len = k h in omega arith

any_found : (p : Node → Bool) (ns : List Node) → list_any p ns ≡ true → position_or_len p ns < length ns
any_found p [] h = cc
any_found p (n ∷ ns) h = first_case (p n) (position_or_len p ns) (length ns) (list_any p ns) h (any_found p ns)

below_some : (n len : ℕ) → n < len → cond (ltb n len) (Some n) None ≡ Some n
below_some n len h = grind (arith, nat_tests)

found_position : (p : Node → Bool) (ns : List Node) → list_any p ns ≡ true → position p ns ≡ Some (position_or_len p ns)
found_position p ns h = below_some (position_or_len p ns) (length ns) (any_found p ns h)

-- a node that is in a table is found there
pub interned_there : (ns : List Node) (n : Node) (id : ℕ) → IsWellFormed ns → IsNodeAt ns id n → interned ns n ≡ record { nodes = ns; id = id }
interned_there ns n id formed at =
    let p = (by_parts.ghosts).eq n in
    let found = found_position p ns (list_any-from_Contains eq_laws.laws-law n ns (Contains-from_IsNodeAt ns id n at)) in
    interned_by_parts ns n ∙ ap (placed ns n) found
    ∙ ap (λ k. record { nodes = ns; id = k }) (formed.single (position_or_len p ns) id n (IsNodeAt-from_position ns n (position_or_len p ns) found) at)

-- and leaves the table as it was, whatever else is there
pub interned_present : (ns : List Node) (n : Node) (id : ℕ) → IsNodeAt ns id n → (interned ns n).nodes ≡ ns
interned_present ns n id at =
    let p = (by_parts.ghosts).eq n in
    ap (λ m. m.nodes) (interned_by_parts ns n) ∙ ap (λ o. (placed ns n o).nodes) (found_position p ns (list_any-from_Contains eq_laws.laws-law n ns (Contains-from_IsNodeAt ns id n at)))

-- a result with another table
abbrev pub again : List Node → Made → Made
again new m = record { nodes = new; id = m.id }

abbrev pub all_again : List Node → AllMade → AllMade
all_again new m = record { nodes = new; ids = m.ids }

abbrev AllInside : List Node → List ℕ → Type 0
AllInside ns [] = Unit {0}
AllInside ns (a ∷ ids) = (a < length ns) × AllInside ns ids

inside_stays : (ids : List ℕ) (old new : List Node) → Extends old new → AllInside old ids → AllInside new ids
inside_stays [] old new further h = tt
inside_stays (a ∷ ids) old new further h = (let long = longer old new further in omega (arith, h.0), inside_stays ids old new further h.1)

-- where the first one is stays, when others come after
first_stays : (p : Node → Bool) (xs ys : List Node) → position_or_len p xs < length xs → position_or_len p (xs ++ ys) ≡ position_or_len p xs
first_stays p [] ys h = absurd (omega arith)
first_stays p (x ∷ xs) ys h = by_test (p x) h (λ k. first_stays p xs ys k)
  where
    by_test : (b : Bool) → cond (not b) (1 + position_or_len p xs) 0 < suc (length xs) → (position_or_len p xs < length xs → position_or_len p (xs ++ ys) ≡ position_or_len p xs)
        → cond (not b) (1 + position_or_len p (xs ++ ys)) 0 ≡ cond (not b) (1 + position_or_len p xs) 0
    by_test true h k = refl
    by_test false h k = ap (λ n. 1 + n) (k (omega arith))

-- the first one after some that are none
first_after : (p : Node → Bool) (xs : List Node) (n : Node) (ys : List Node) → length xs ≤ position_or_len p xs → p n ≡ true → position_or_len p (xs ++ n ∷ ys) ≡ length xs
first_after p [] n ys h e = ap (λ b. cond (not b) (1 + position_or_len p ys) 0) e
first_after p (x ∷ xs) n ys h e = by_test (p x) h (λ k. first_after p xs n ys k e)
  where
    by_test : (b : Bool) → suc (length xs) ≤ cond (not b) (1 + position_or_len p xs) 0 → (length xs ≤ position_or_len p xs → position_or_len p (xs ++ n ∷ ys) ≡ length xs)
        → cond (not b) (1 + position_or_len p (xs ++ n ∷ ys)) 0 ≡ suc (length xs)
    by_test true h k = absurd (omega arith)
    by_test false h k = let same : position_or_len p (xs ++ n ∷ ys) ≡ length xs = k (omega arith) in omega arith

itself : (n : Node) → (by_parts.ghosts).eq n n ≡ true
itself n = alone ((by_parts.ghosts).eq n n) (list_any-from_Contains eq_laws.laws-law n (n ∷ []) (0, omega arith, refl))
  where
    alone : (b : Bool) → (b || false) ≡ true → b ≡ true
    alone true e = refl
    alone false e = e

none_below : (n len : ℕ) → len ≤ n → cond (ltb n len) (Some n) None ≡ None
none_below n len h = grind (arith, nat_tests)

there_again : (ns more : List Node) (n : Node) → position_or_len ((by_parts.ghosts).eq n) ns < length ns → interned (ns ++ more) n ≡ again (ns ++ more) (interned ns n)
there_again ns more n h =
    let p = (by_parts.ghosts).eq n in
    let k = position_or_len p ns in
    let one : position p ns ≡ Some k = below_some k (length ns) h in
    let two : position p (ns ++ more) ≡ Some k =
    ap (λ j. cond (ltb j (length (ns ++ more))) (Some j) None) (first_stays p ns more h) ∙ below_some k (length (ns ++ more)) (omega (arith, length-append ns more)) in
    interned_by_parts (ns ++ more) n ∙ ap (placed (ns ++ more) n) two ∙ ap (λ o. again (ns ++ more) (placed ns n o)) (sym one)
    ∙ ap (again (ns ++ more)) (sym (interned_by_parts ns n))

absent_again : (ns more : List Node) (n : Node) → length ns ≤ position_or_len ((by_parts.ghosts).eq n) ns → interned (ns ++ n ∷ more) n ≡ again (ns ++ n ∷ more) (interned ns n)
absent_again ns more n h =
    let p = (by_parts.ghosts).eq n in
    let all = ns ++ n ∷ more in
    let one : position p ns ≡ None = none_below (position_or_len p ns) (length ns) h in
    let two : position p all ≡ Some (length ns) =
    ap (λ j. cond (ltb j (length all)) (Some j) None) (first_after p ns n more h (itself n)) ∙ below_some (length ns) (length all) (omega (arith, length-append ns (n ∷ more))) in
    interned_by_parts all n ∙ ap (placed all n) two ∙ ap (λ o. again all (placed ns n o)) (sym one) ∙ ap (again all) (sym (interned_by_parts ns n))

nodes_there : (ns : List Node) (n : Node) → position_or_len ((by_parts.ghosts).eq n) ns < length ns → (interned ns n).nodes ≡ ns
nodes_there ns n h = ap (λ m. m.nodes) (interned_by_parts ns n) ∙ ap (λ o. (placed ns n o).nodes) (below_some (position_or_len ((by_parts.ghosts).eq n) ns) (length ns) h)

nodes_absent : (ns : List Node) (n : Node) → length ns ≤ position_or_len ((by_parts.ghosts).eq n) ns → (interned ns n).nodes ≡ ns ++ n ∷ []
nodes_absent ns n h = ap (λ m. m.nodes) (interned_by_parts ns n) ∙ ap (λ o. (placed ns n o).nodes) (none_below (position_or_len ((by_parts.ghosts).eq n) ns) (length ns) h)

-- whatever else is in the table
interned_again : (ns new : List Node) (n : Node) → Extends (interned ns n).nodes new → interned new n ≡ again new (interned ns n)
interned_again ns new n (more, e) =
    let k = position_or_len ((by_parts.ghosts).eq n) ns in
    ⊎_elim
    (λ there.
    let whole : new ≡ ns ++ more = e ∙ ap (λ ms. ms ++ more) (nodes_there ns n there) in
    subst (λ ms. interned ms n ≡ again ms (interned ns n)) (sym whole) (there_again ns more n there))
    (λ absent.
    let whole : new ≡ ns ++ n ∷ more = e ∙ ap (λ ms. ms ++ more) (nodes_absent ns n absent) ∙ append_assoc ns (n ∷ []) more in
    subst (λ ms. interned ms n ≡ again ms (interned ns n)) (sym whole) (absent_again ns more n absent))
    (cases_lt k (length ns))

equality_again : (ns new : List Node) (a b : ℕ) → a < length ns → Extends (equality ns a b).nodes new → equality new a b ≡ again new (equality ns a b)
unfolding equality
equality_again ns new a b inside further =
    let whole = extends_further ns (equality ns a b).nodes new (equality_extends ns a b) further in
    ap (λ s. interned new (equality_of s a b)) (sort_stays ns new a whole inside) ∙ interned_again ns new (equality_of (sort_at ns a) a b) further

difference_again : (ns new : List Node) (a b : ℕ) → a < length ns → Extends (difference ns a b).nodes new → difference new a b ≡ again new (difference ns a b)
unfolding difference
difference_again ns new a b inside further =
    let e = equality ns a b in
    let n = node.Not e.id in
    let mid = extends_further e.nodes (interned e.nodes n).nodes new (interned_extends e.nodes n) further in
    ap (λ m. interned m.nodes (node.Not m.id)) (equality_again ns new a b inside mid) ∙ interned_again e.nodes new n further

neighbours_again : (ids : List ℕ) (ns new : List Node) (a : ℕ) → a < length ns → AllInside ns ids → Extends (neighbours ns a ids).nodes new
    → neighbours new a ids ≡ all_again new (neighbours ns a ids)
unfolding neighbours
neighbours_again [] ns new a inside all further = refl
neighbours_again (b ∷ rest) ns new a inside all further =
    let e = equality ns a b in
    let mid = extends_further e.nodes (neighbours e.nodes b rest).nodes new (neighbours_extend rest e.nodes b) further in
    let step = equality_extends ns a b in
    let there : b < length e.nodes = let long = longer ns e.nodes step in omega (arith, all.0) in
    ap (λ m. with_id m.id (neighbours m.nodes b rest)) (equality_again ns new a b inside mid)
    ∙ ap (with_id e.id) (neighbours_again rest e.nodes new b there (inside_stays rest ns e.nodes step all.1) further)

differences_from_again : (ids : List ℕ) (ns new : List Node) (a : ℕ) → a < length ns → Extends (differences_from ns a ids).nodes new
    → differences_from new a ids ≡ all_again new (differences_from ns a ids)
unfolding differences_from
differences_from_again [] ns new a inside further = refl
differences_from_again (b ∷ rest) ns new a inside further =
    let d = difference ns a b in
    let mid = extends_further d.nodes (differences_from d.nodes a rest).nodes new (differences_from_extend rest d.nodes a) further in
    let there : a < length d.nodes = let long = longer ns d.nodes (difference_extends ns a b) in omega arith in
    ap (λ m. with_id m.id (differences_from m.nodes a rest)) (difference_again ns new a b inside mid)
    ∙ ap (with_id d.id) (differences_from_again rest d.nodes new a there further)

abbrev with_first : List ℕ → AllMade → AllMade
with_first rest m = let more = differences m.nodes rest in record { nodes = more.nodes; ids = m.ids ++ more.ids }

abbrev with_others : List ℕ → AllMade → AllMade
with_others ids m = record { nodes = m.nodes; ids = ids ++ m.ids }

differences_again : (ids : List ℕ) (ns new : List Node) → AllInside ns ids → Extends (differences ns ids).nodes new → differences new ids ≡ all_again new (differences ns ids)
unfolding differences
differences_again [] ns new all further = refl
differences_again (a ∷ rest) ns new all further =
    let first = differences_from ns a rest in
    let others = differences first.nodes rest in
    let mid = extends_further first.nodes others.nodes new (differences_extend rest first.nodes) further in
    ap (with_first rest) (differences_from_again rest ns new a all.0 mid)
    ∙ ap (with_others first.ids) (differences_again rest first.nodes new (inside_stays rest ns first.nodes (differences_from_extend rest ns a) all.1) further)

exclusive_again : (ids : List ℕ) (ns new : List Node) (a : ℕ) → Extends (exclusive ns a ids).nodes new → exclusive new a ids ≡ again new (exclusive ns a ids)
unfolding exclusive
exclusive_again [] ns new a further = refl
exclusive_again (b ∷ rest) ns new a further =
    let n = node.Xor a b in
    let m = interned ns n in
    let mid = extends_further m.nodes (exclusive m.nodes m.id rest).nodes new (exclusive_extends rest m.nodes m.id) further in
    ap (λ k. exclusive k.nodes k.id rest) (interned_again ns new n mid) ∙ exclusive_again rest m.nodes new m.id further

implication_again : (ns new : List Node) (a b : ℕ) → Extends (implication ns a b).nodes new → implication new a b ≡ again new (implication ns a b)
unfolding implication
implication_again ns new a b further =
    let n = node.Not a in
    let m = interned ns n in
    let o = node.Or (m.id ∷ b ∷ []) in
    let mid = extends_further m.nodes (interned m.nodes o).nodes new (interned_extends m.nodes o) further in
    ap (λ k. interned k.nodes (node.Or (k.id ∷ b ∷ []))) (interned_again ns new n mid) ∙ interned_again m.nodes new o further

implications_again : (ids : List ℕ) (ns new : List Node) (a : ℕ) → Extends (implications ns a ids).nodes new → implications new a ids ≡ again new (implications ns a ids)
unfolding implications
implications_again [] ns new a further = refl
implications_again (b ∷ rest) ns new a further =
    let last = implications ns b rest in
    let mid = extends_further last.nodes (implication last.nodes a last.id).nodes new (implication_extends last.nodes a last.id) further in
    ap (λ k. implication k.nodes a k.id) (implications_again rest ns new b mid) ∙ implication_again last.nodes new a last.id further

abbrev pub with_number : ℕ → Made → Made
with_number id g = record { nodes = g.nodes; id = id }

abbrev pub with_second : ℕ → ℕ → Made → Made
with_second id b f = with_number id (interned f.nodes (node.Eq id b))

abbrev pub with_equalities : ℕ → ℕ → Made → Made
with_equalities a b k = with_second k.id b (interned k.nodes (node.Eq k.id a))

choice_again : (s : Sort) (ns new : List Node) (c a b : ℕ) → Extends (choice s ns c a b).nodes new → choice s new c a b ≡ again new (choice s ns c a b)
choice_again sort.Bool ns new c a b further = interned_again ns new (node.IteBool c a b) further
choice_again (sort.Field p) ns new c a b further =
    let t = interned ns (node.IteField c a b) in
    let one = node.Eq t.id a in
    let first = interned t.nodes one in
    let two = node.Eq t.id b in
    let second = interned first.nodes two in
    let mid = extends_further first.nodes second.nodes new (interned_extends first.nodes two) further in
    let before = extends_further t.nodes first.nodes new (interned_extends t.nodes one) mid in
    ap (with_equalities a b) (interned_again ns new (node.IteField c a b) before)
    ∙ ap (with_second t.id b) (interned_again t.nodes new one mid)
    ∙ ap (with_number t.id) (interned_again first.nodes new two further)

conjoined_again : (m : AllMade) (k : AllMade) (new : List Node) → k ≡ all_again new m → Extends (conjoined m).nodes new → conjoined k ≡ again new (conjoined m)
conjoined_again m k new e further = ap conjoined e ∙ interned_again m.nodes new (node.And m.ids) further

applied_again : (op : Operator) (ids : List ℕ) (ns new : List Node) → AllInside ns ids → Extends (applied_made op ns ids).nodes new
    → applied_made op new ids ≡ again new (applied_made op ns ids)
unfolding applied_made
applied_again Not (a ∷ []) ns new all further = interned_again ns new _ further
applied_again And (a ∷ ids) ns new all further = interned_again ns new _ further
applied_again Or (a ∷ ids) ns new all further = interned_again ns new _ further
applied_again Xor (a ∷ b ∷ rest) ns new all further = exclusive_again (b ∷ rest) ns new a further
applied_again Implies (a ∷ b ∷ rest) ns new all further = implications_again (b ∷ rest) ns new a further
applied_again Equal (a ∷ b ∷ []) ns new all further = equality_again ns new a b all.0 further
applied_again Equal (a ∷ b ∷ c ∷ rest) ns new all further =
    let m = neighbours ns a (b ∷ c ∷ rest) in
    let mid = extends_further m.nodes (conjoined m).nodes new (interned_extends m.nodes (node.And m.ids)) further in
    conjoined_again m (neighbours new a (b ∷ c ∷ rest)) new (neighbours_again (b ∷ c ∷ rest) ns new a all.0 all.1 mid) further
applied_again Distinct (a ∷ b ∷ []) ns new all further = difference_again ns new a b all.0 further
applied_again Distinct (a ∷ b ∷ c ∷ rest) ns new all further =
    let m = differences ns (a ∷ b ∷ c ∷ rest) in
    let mid = extends_further m.nodes (conjoined m).nodes new (interned_extends m.nodes (node.And m.ids)) further in
    conjoined_again m (differences new (a ∷ b ∷ c ∷ rest)) new (differences_again (a ∷ b ∷ c ∷ rest) ns new all mid) further
applied_again Ite (c ∷ a ∷ b ∷ []) ns new all further =
    let whole = extends_further ns (applied_made Ite ns (c ∷ a ∷ b ∷ [])).nodes new (applied_extends Ite (c ∷ a ∷ b ∷ []) ns) further in
    ap (λ s. choice s new c a b) (sort_stays ns new a whole all.1.0) ∙ choice_again (sort_at ns a) ns new c a b further
applied_again Add (a ∷ ids) ns new all further = interned_again ns new _ further
applied_again Mul (a ∷ ids) ns new all further = interned_again ns new _ further
applied_again Neg (a ∷ []) ns new all further = interned_again ns new _ further
applied_again Bitsum (a ∷ ids) ns new all further = interned_again ns new _ further
applied_again _ _ ns new all further = interned_again ns new (node.And []) further

variable_again : (ns new : List Node) (o : Option ℕ) → Extends (variable_made ns o).nodes new → variable_made new o ≡ again new (variable_made ns o)
variable_again ns new (Some id) further = refl
variable_again ns new None further = interned_again ns new (node.And []) further

-- Nodes that are made are in the table

interned_inside : (ns : List Node) (n : Node) → (interned ns n).id < length (interned ns n).nodes
interned_inside ns n = slice_get_within (interned ns n).nodes (interned ns n).id n (interned_at ns n)

equality_inside : (ns : List Node) (a b : ℕ) → (equality ns a b).id < length (equality ns a b).nodes
unfolding equality
equality_inside ns a b = interned_inside ns _

difference_inside : (ns : List Node) (a b : ℕ) → (difference ns a b).id < length (difference ns a b).nodes
unfolding difference
difference_inside ns a b = interned_inside (equality ns a b).nodes _

exclusive_inside : (ids : List ℕ) (ns : List Node) (a : ℕ) → a < length ns → (exclusive ns a ids).id < length (exclusive ns a ids).nodes
unfolding exclusive
exclusive_inside [] ns a h = h
exclusive_inside (b ∷ rest) ns a h = let x = interned ns (node.Xor a b) in exclusive_inside rest x.nodes x.id (interned_inside ns (node.Xor a b))

implications_inside : (ids : List ℕ) (ns : List Node) (a : ℕ) → a < length ns → (implications ns a ids).id < length (implications ns a ids).nodes
unfolding implications implication
implications_inside [] ns a h = h
implications_inside (b ∷ rest) ns a h = interned_inside (interned (implications ns b rest).nodes (node.Not a)).nodes _

choice_inside : (s : Sort) (ns : List Node) (c a b : ℕ) → (choice s ns c a b).id < length (choice s ns c a b).nodes
choice_inside sort.Bool ns c a b = interned_inside ns (node.IteBool c a b)
choice_inside (sort.Field p) ns c a b =
    let t = interned ns (node.IteField c a b) in
    let one = interned t.nodes (node.Eq t.id a) in
    let two = interned one.nodes (node.Eq t.id b) in
    let first = interned_inside ns (node.IteField c a b) in
    let long = longer t.nodes two.nodes (extends_further t.nodes one.nodes two.nodes (interned_extends t.nodes (node.Eq t.id a)) (interned_extends one.nodes (node.Eq t.id b))) in
    omega arith

applied_inside : (op : Operator) (ids : List ℕ) (ns : List Node) → AllInside ns ids → (applied_made op ns ids).id < length (applied_made op ns ids).nodes
unfolding applied_made
applied_inside Not (a ∷ []) ns h = interned_inside ns _
applied_inside And (a ∷ ids) ns h = interned_inside ns _
applied_inside Or (a ∷ ids) ns h = interned_inside ns _
applied_inside Xor (a ∷ b ∷ rest) ns h = exclusive_inside (b ∷ rest) ns a h.0
applied_inside Implies (a ∷ b ∷ rest) ns h = implications_inside (b ∷ rest) ns a h.0
applied_inside Equal (a ∷ b ∷ []) ns h = equality_inside ns a b
applied_inside Equal (a ∷ b ∷ c ∷ rest) ns h = interned_inside (neighbours ns a (b ∷ c ∷ rest)).nodes _
applied_inside Distinct (a ∷ b ∷ []) ns h = difference_inside ns a b
applied_inside Distinct (a ∷ b ∷ c ∷ rest) ns h = interned_inside (differences ns (a ∷ b ∷ c ∷ rest)).nodes _
applied_inside Ite (c ∷ a ∷ b ∷ []) ns h = choice_inside (sort_at ns a) ns c a b
applied_inside Add (a ∷ ids) ns h = interned_inside ns _
applied_inside Mul (a ∷ ids) ns h = interned_inside ns _
applied_inside Neg (a ∷ []) ns h = interned_inside ns _
applied_inside Bitsum (a ∷ ids) ns h = interned_inside ns _
applied_inside _ _ ns h = interned_inside ns _

env_stays : (ids : Env ℕ) (old new : List Node) → Extends old new → AreWithin old ids → AreWithin new ids
env_stays [] old new further h = tt
env_stays (x ∷ xs) old new further h = (let long = longer old new further in omega (arith, h.0), env_stays xs old new further h.1)

zip_inside : (names : List Name) (ids : List ℕ) (env : Env ℕ) (ns : List Node) → AllInside ns ids → AreWithin ns env → AreWithin ns (zip names ids ++ env)
zip_inside [] ids env ns h g = g
zip_inside (name ∷ names) [] env ns h g = g
zip_inside (name ∷ names) (a ∷ ids) env ns h g = (h.0, zip_inside names ids env ns h.1 g)

zip_only : (names : List Name) (ids : List ℕ) (ns : List Node) → AllInside ns ids → AreWithin ns (zip names ids)
zip_only [] ids ns h = tt
zip_only (name ∷ names) [] ns h = tt
zip_only (name ∷ names) (a ∷ ids) ns h = (h.0, zip_only names ids ns h.1)

variable_inside : (env : Env ℕ) (name : Name) (ns : List Node) → AreWithin ns env → (variable_made ns (found env name)).id < length (variable_made ns (found env name)).nodes
variable_inside [] name ns h = interned_inside ns (node.And [])
variable_inside (x ∷ xs) name ns h = by_test (bytes_eq x.0 name) (variable_inside xs name ns h.1)
  where
    by_test : (b : Bool) → (variable_made ns (found xs name)).id < length (variable_made ns (found xs name)).nodes
        → (variable_made ns (if b then Some x.1 else found xs name)).id < length (variable_made ns (if b then Some x.1 else found xs name)).nodes
    by_test true k = h.0
    by_test false k = k

mutual
  unfolding made

  made_inside : (t : Term) (ids : Env ℕ) (ns : List Node) → AreWithin ns ids → (made ids ns t).id < length (made ids ns t).nodes
  made_inside (Truth b) ids ns h = interned_inside ns _
  made_inside (Number negative size p) ids ns h = interned_inside ns _
  made_inside (Constant k s) ids ns h = interned_inside ns _
  made_inside (Variable name) ids ns h = variable_inside ids name ns h
  made_inside (Defined t) ids ns h = made_inside t [] ns tt
  made_inside (Applied op ts) ids ns h = let m = all_made ids ns ts in applied_inside op m.ids m.nodes (all_inside ts ids ns h)
  made_inside (Let names ts t) ids ns h =
      let m = all_made ids ns ts in
      made_inside t (zip names m.ids ++ ids) m.nodes (zip_inside names m.ids ids m.nodes (all_inside ts ids ns h) (env_stays ids ns m.nodes (all_made_extends ts ids ns) h))
  made_inside (Called names t ts) ids ns h =
      let m = all_made ids ns ts in
      made_inside t (zip names m.ids) m.nodes (zip_only names m.ids m.nodes (all_inside ts ids ns h))

  all_inside : (ts : Terms) (ids : Env ℕ) (ns : List Node) → AreWithin ns ids → AllInside (all_made ids ns ts).nodes (all_made ids ns ts).ids
  all_inside NoTerm ids ns h = tt
  all_inside (AndTerm t ts) ids ns h =
      let m = made ids ns t in
      let rest = all_made ids m.nodes ts in
      let more = all_made_extends ts ids m.nodes in (
        let inside = made_inside t ids ns h in let long = longer m.nodes rest.nodes more in omega arith,
        all_inside ts ids m.nodes (env_stays ids ns m.nodes (made_extends t ids ns) h),
      )

-- Terms

mutual
  unfolding made

  pub made_anew : (t : Term) (ids : Env ℕ) (ns new : List Node) → AreWithin ns ids → Extends (made ids ns t).nodes new → made ids new t ≡ again new (made ids ns t)
  made_anew (Truth b) ids ns new h further = interned_again ns new _ further
  made_anew (Number negative size p) ids ns new h further = interned_again ns new _ further
  made_anew (Constant k s) ids ns new h further = interned_again ns new _ further
  made_anew (Variable name) ids ns new h further = variable_again ns new (found ids name) further
  made_anew (Defined t) ids ns new h further = made_anew t [] ns new tt further
  made_anew (Applied op ts) ids ns new h further =
      let m = all_made ids ns ts in
      let mid = extends_further m.nodes (applied_made op m.nodes m.ids).nodes new (applied_extends op m.ids m.nodes) further in
      ap (λ k. applied_made op k.nodes k.ids) (all_anew ts ids ns new h mid) ∙ applied_again op m.ids m.nodes new (all_inside ts ids ns h) further
  made_anew (Let names ts t) ids ns new h further =
      let m = all_made ids ns ts in
      let mid = extends_further m.nodes (made (zip names m.ids ++ ids) m.nodes t).nodes new (made_extends t (zip names m.ids ++ ids) m.nodes) further in
      ap (λ k. made (zip names k.ids ++ ids) k.nodes t) (all_anew ts ids ns new h mid)
      ∙ made_anew t (zip names m.ids ++ ids) m.nodes new (zip_inside names m.ids ids m.nodes (all_inside ts ids ns h) (env_stays ids ns m.nodes (all_made_extends ts ids ns) h)) further
  made_anew (Called names t ts) ids ns new h further =
      let m = all_made ids ns ts in
      let mid = extends_further m.nodes (made (zip names m.ids) m.nodes t).nodes new (made_extends t (zip names m.ids) m.nodes) further in
      ap (λ k. made (zip names k.ids) k.nodes t) (all_anew ts ids ns new h mid) ∙ made_anew t (zip names m.ids) m.nodes new (zip_only names m.ids m.nodes (all_inside ts ids ns h)) further

  all_anew : (ts : Terms) (ids : Env ℕ) (ns new : List Node) → AreWithin ns ids → Extends (all_made ids ns ts).nodes new → all_made ids new ts ≡ all_again new (all_made ids ns ts)
  all_anew NoTerm ids ns new h further = refl
  all_anew (AndTerm t ts) ids ns new h further =
      let m = made ids ns t in
      let mid = extends_further m.nodes (all_made ids m.nodes ts).nodes new (all_made_extends ts ids m.nodes) further in
      ap (λ k. with_id k.id (all_made ids k.nodes ts)) (made_anew t ids ns new h mid) ∙ ap (with_id m.id) (all_anew ts ids m.nodes new (env_stays ids ns m.nodes (made_extends t ids ns) h) further)

agree_inside : (A : List Value) (ids : Env ℕ) (env : Env Element) (ns : List Node) → Agree ns A ids env → AreWithin ns ids
agree_inside A [] [] ns h = tt
agree_inside A [] (y ∷ ys) ns h = absurd h
agree_inside A (x ∷ xs) [] ns h = absurd h
agree_inside A (x ∷ xs) (y ∷ ys) ns h = (h.1.within, agree_inside A xs ys ns h.2)

-- where the variables' nodes mean what the variables mean
pub made_again : (A : List Value) (t : Term) (ids : Env ℕ) (env : Env Element) (ns new : List Node) → Agree ns A ids env → Extends (made ids ns t).nodes new → IsWellFormed new
    → made ids new t ≡ again new (made ids ns t)
made_again A t ids env ns new agree further formed = made_anew t ids ns new (agree_inside A ids env ns agree) further
