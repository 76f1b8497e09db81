-- A sound term makes a table of a table, and stays sound when names, constants and nodes are added.
use Rattle.std.proofs.Common.{◌≡◌, ℕ, zero, suc, ◌-◌, ◌%◌, ◌<◌, ◌≤◌, if◌then◌else◌, Bool, true, false, List, [], ◌∷◌, ◌++◌, length, mod-lt, Some, None, Option, slice_get, zip, refl, sym, ◌∙◌, subst, arith}
use Rattle.std.specs.Str.{bytes_eq}
use Rattle.std.proofs.lemmas.Option.{slice_get_within}
use Rattle.ffc_field.specs.declared.id.FieldId.TheVariants.{F2, F3, F5, F17, F65537, BabyBear, KoalaBear, Goldilocks}
use Rattle.ffc_field.specs.Orders.{IsOrder}
use Rattle.ffc_term.specs.declared.node.Node.{Node}
use Rattle.ffc_term.specs.declared.node.Node.TheVariants as node
use Rattle.ffc_term.specs.declared.node.Sort.{Sort}
use Rattle.ffc_term.specs.declared.node.Sort.TheVariants as sort
use Rattle.ffc_term.specs.declared.value.Value.{Value}
use Rattle.ffc_term.specs.Nodes.{IsNodeAt, sort_at}
use Rattle.ffc_term.specs.Tables.{most_nodes}
use Rattle.ffc_term.proofs.NodeLemmas.{IsNodeAt-from_Contains}
use Rattle.ffc_term.proofs.TableLemmas.{sort_at-is}
use Rattle.ffc_smt.specs.Terms.{Name, Term, Truth, Number, Constant, Variable, Defined, Applied, Let, Called, Terms, NoTerm, AndTerm}
use Rattle.ffc_smt.specs.Meaning.{Env, found, Element, residue_of_number, val}
use Rattle.ffc_smt.specs.Making.{interned, constant_node, applied_made, variable_made, truth_node, made, all_made}
use Rattle.ffc_smt.specs.Law.{Means, Agree}
use Rattle.ffc_smt.specs.Bounds.{AreDefined, AllDefined}
use Rattle.ffc_smt.specs.Sorting.{AreOfSorts}
use Rattle.ffc_smt.specs.WellSorted.{IsSoundTerm, AreSoundTerms}
use Rattle.ffc_smt.specs.States.{IsTableWith}
use Rattle.ffc_smt.proofs.Extends.{Extends, applied_extends, made_extends, all_made_extends}
use Rattle.ffc_smt.proofs.Again.{interned_there}
use Rattle.ffc_smt.proofs.Bounds.{made_stays}
use Rattle.ffc_smt.proofs.Keeping.{made_kept}
use Rattle.ffc_smt.proofs.TableMaking.{IsAt, EachAt, at_stays, room_before, Good, Makes, fixed_made, applied_good}

-- the variables' nodes are of the variables' sorts
abbrev pub AreAt : List Node → Env Sort → Env ℕ → Type 0
AreAt ns [] [] = Unit {0}
AreAt ns [] (y ∷ ys) = ⊥
AreAt ns (x ∷ xs) [] = ⊥
AreAt ns (x ∷ xs) (y ∷ ys) = (x.0 ≡ y.0) × IsAt ns x.1 y.1 × AreAt ns xs ys

are_stay : (locals : Env Sort) (ids : Env ℕ) (old new : List Node) → Extends old new → AreAt old locals ids → AreAt new locals ids
are_stay [] [] old new further h = tt
are_stay [] (y ∷ ys) old new further h = absurd h
are_stay (x ∷ xs) [] old new further h = absurd h
are_stay (x ∷ xs) (y ∷ ys) old new further h = (h.0, at_stays old new x.1 y.1 further h.1, are_stay xs ys old new further h.2)

zip_at : (names : List Name) (ss : List Sort) (ids : List ℕ) (locals : Env Sort) (more : Env ℕ) (ns : List Node) → EachAt ns ss ids → AreAt ns locals more
    → AreAt ns (zip names ss ++ locals) (zip names ids ++ more)
zip_at [] ss ids locals more ns h g = g
zip_at (n ∷ names) [] [] locals more ns h g = g
zip_at (n ∷ names) [] (a ∷ ids) locals more ns h g = absurd h
zip_at (n ∷ names) (s ∷ ss) [] locals more ns h g = absurd h
zip_at (n ∷ names) (s ∷ ss) (a ∷ ids) locals more ns h g = (refl, h.0, zip_at names ss ids locals more ns h.1 g)

zip_alone_at : (names : List Name) (ss : List Sort) (ids : List ℕ) (ns : List Node) → EachAt ns ss ids → AreAt ns (zip names ss) (zip names ids)
zip_alone_at [] ss ids ns h = tt
zip_alone_at (n ∷ names) [] [] ns h = tt
zip_alone_at (n ∷ names) [] (a ∷ ids) ns h = absurd h
zip_alone_at (n ∷ names) (s ∷ ss) [] ns h = absurd h
zip_alone_at (n ∷ names) (s ∷ ss) (a ∷ ids) ns h = (refl, h.0, zip_alone_at names ss ids ns h.1)

abbrev FoundAt : List Node → Option Sort → Option ℕ → Type 0
FoundAt ns None None = Unit {0}
FoundAt ns None (Some y) = ⊥
FoundAt ns (Some x) None = ⊥
FoundAt ns (Some x) (Some y) = IsAt ns x y

found_test : (ns : List Node) (b : Bool) (x : Sort) (y : ℕ) (o : Option Sort) (p : Option ℕ) → IsAt ns x y → FoundAt ns o p → FoundAt ns (if b then Some x else o) (if b then Some y else p)
found_test ns true x y o p h g = h
found_test ns false x y o p h g = g

found_at : (locals : Env Sort) (ids : Env ℕ) (ns : List Node) (name : Name) → AreAt ns locals ids → FoundAt ns (found locals name) (found ids name)
found_at [] [] ns name h = tt
found_at [] (y ∷ ys) ns name h = absurd h
found_at (x ∷ xs) [] ns name h = absurd h
found_at (x ∷ xs) (y ∷ ys) ns name h =
    subst (λ n. FoundAt ns (found (x ∷ xs) name) (if bytes_eq n name then Some y.1 else found ys name)) h.0
    (found_test ns (bytes_eq x.0 name) x.1 y.1 (found xs name) (found ys name) h.1 (found_at xs ys ns name h.2))

pub order_positive : (p : ℕ) → IsOrder p → 0 < p
order_positive p (F2, e) = omega (arith, e)
order_positive p (F3, e) = omega (arith, e)
order_positive p (F5, e) = omega (arith, e)
order_positive p (F17, e) = omega (arith, e)
order_positive p (F65537, e) = omega (arith, e)
order_positive p (BabyBear, e) = omega (arith, e)
order_positive p (KoalaBear, e) = omega (arith, e)
order_positive p (Goldilocks, e) = omega (arith, e)

pub residue_below : (negative : Bool) (size p : ℕ) → 0 < p → residue_of_number negative size p < p
residue_below true size p some = mod-lt (p - size % p) some
residue_below false size p some = mod-lt size some

constant_at : (s : Sort) (ns : List Node) (id k : ℕ) → IsNodeAt ns id (constant_node k s) → IsAt ns s id
constant_at sort.Bool ns id k at = (slice_get_within ns id (node.BoolConst k) at, sort_at-is ns id (node.BoolConst k) at)
constant_at (sort.Field p) ns id k at = (slice_get_within ns id (node.FieldConst k p) at, sort_at-is ns id (node.FieldConst k p) at)

module _ (cs : List Sort) (count : ℕ) (defined : List Node) where
  truth_good : (b : Bool) (ns : List Node) → Good cs count ns → length (interned ns (truth_node b)).nodes ≤ most_nodes → Makes cs count (interned ns (truth_node b)) sort.Bool
  truth_good true ns good room = fixed_made cs count ns node.True sort.Bool (λ ss. refl) good tt tt room
  truth_good false ns good room = fixed_made cs count ns node.False sort.Bool (λ ss. refl) good tt tt room

  number_good : (ns : List Node) (r p : ℕ) → IsOrder p → r < p → Good cs count ns → length (interned ns (node.Num r p)).nodes ≤ most_nodes → Makes cs count (interned ns (node.Num r p)) (sort.Field p)
  number_good ns r p is below good room = fixed_made cs count ns (node.Num r p) (sort.Field p) (λ ss. refl) good (is, below) tt room

  constant_good : (ns : List Node) (k : ℕ) (s : Sort) → slice_get cs k ≡ Some s → Good cs count ns → Makes cs count (interned ns (constant_node k s)) s
  constant_good ns k s e good =
      let there = IsNodeAt-from_Contains ns (constant_node k s) (good.declared k s e) in
      subst (λ m. Makes cs count m s) (sym (interned_there ns (constant_node k s) there.0 good.table.well_formed there.1)) (good, constant_at s ns there.0 k there.1)

  variable_good : (ns : List Node) (s : Sort) (o : Option Sort) (p : Option ℕ) → o ≡ Some s → FoundAt ns o p → Good cs count ns → Makes cs count (variable_made ns p) s
  variable_good ns s None p e h good = cc
  variable_good ns s (Some x) None e h good = absurd h
  variable_good ns s (Some x) (Some y) e h good = let same : x ≡ s = cc in (good, subst (λ u. IsAt ns u y) same h)

  mutual
    unfolding made

    pub made_good : (t : Term) (locals : Env Sort) (s : Sort) (ids : Env ℕ) (ns : List Node) → IsSoundTerm cs defined locals t s → AreAt ns locals ids → Good cs count ns
        → length (made ids ns t).nodes ≤ most_nodes → Makes cs count (made ids ns t) s
    made_good (Truth b) locals s ids ns h are good room = subst (Makes cs count (made ids ns (Truth b))) (sym h) (truth_good b ns good room)
    made_good (Number negative size p) locals s ids ns h are good room =
        subst (Makes cs count (made ids ns (Number negative size p))) (sym h.0)
        (number_good ns (residue_of_number negative size p) p h.1 (residue_below negative size p (order_positive p h.1)) good room)
    made_good (Constant k t) locals s ids ns h are good room = subst (Makes cs count (made ids ns (Constant k t))) (sym h.0) (constant_good ns k t h.1 good)
    made_good (Variable name) locals s ids ns h are good room = variable_good ns s (found locals name) (found ids name) h (found_at locals ids ns name are) good
    made_good (Defined t) locals s ids ns h are good room = made_good t [] s [] ns h.0 tt good room
    made_good (Applied op ts) locals s ids ns h are good room =
        let m = all_made ids ns ts in
        let before = all_made_good ts locals h.0 ids ns h.1 are good (room_before m.nodes (applied_made op m.nodes m.ids).nodes (applied_extends op m.ids m.nodes) room) in
        applied_good cs count op h.0 m.ids m.nodes s h.2 before.1 before.0 room
    made_good (Let names ts t) locals s ids ns h are good room =
        let m = all_made ids ns ts in
        let more = made_extends t (zip names m.ids ++ ids) m.nodes in
        let before = all_made_good ts locals h.0 ids ns h.1 are good (room_before m.nodes (made (zip names m.ids ++ ids) m.nodes t).nodes more room) in
        made_good t (zip names h.0 ++ locals) s (zip names m.ids ++ ids) m.nodes h.2
        (zip_at names h.0 m.ids locals ids m.nodes before.1 (are_stay locals ids ns m.nodes (all_made_extends ts ids ns) are)) before.0 room
    made_good (Called names t ts) locals s ids ns h are good room =
        let m = all_made ids ns ts in
        let more = made_extends t (zip names m.ids) m.nodes in
        let before = all_made_good ts locals h.0 ids ns h.1 are good (room_before m.nodes (made (zip names m.ids) m.nodes t).nodes more room) in
        made_good t (zip names h.0) s (zip names m.ids) m.nodes h.2 (zip_alone_at names h.0 m.ids m.nodes before.1) before.0 room

    all_made_good : (ts : Terms) (locals : Env Sort) (ss : List Sort) (ids : Env ℕ) (ns : List Node) → AreSoundTerms cs defined locals ts ss → AreAt ns locals ids → Good cs count ns
        → length (all_made ids ns ts).nodes ≤ most_nodes → Good cs count (all_made ids ns ts).nodes × EachAt (all_made ids ns ts).nodes ss (all_made ids ns ts).ids
    all_made_good NoTerm locals [] ids ns h are good room = (good, tt)
    all_made_good NoTerm locals (s ∷ ss) ids ns h are good room = absurd h
    all_made_good (AndTerm t ts) locals [] ids ns h are good room = absurd h
    all_made_good (AndTerm t ts) locals (s ∷ ss) ids ns h are good room =
        let m = made ids ns t in
        let rest = all_made ids m.nodes ts in
        let more = all_made_extends ts ids m.nodes in
        let first = made_good t locals s ids ns h.0 are good (room_before m.nodes rest.nodes more room) in
        let others = all_made_good ts locals ss ids m.nodes h.1 (are_stay locals ids ns m.nodes (made_extends t ids ns) are) first.0 room in
        (others.0, (at_stays m.nodes rest.nodes s m.id more first.1, others.1))

-- from what the variables mean
agree_at : (locals : Env Sort) (ids : Env ℕ) (env : Env Element) (ns : List Node) (A : List Value) → Agree ns A ids env → AreOfSorts locals env → AreAt ns locals ids
agree_at [] [] [] ns A h g = tt
agree_at [] [] (y ∷ ys) ns A h g = absurd h
agree_at [] (x ∷ xs) [] ns A h g = absurd h
agree_at [] (x ∷ xs) (y ∷ ys) ns A h g = absurd g
agree_at (l ∷ ls) [] [] ns A h g = absurd g
agree_at (l ∷ ls) [] (y ∷ ys) ns A h g = absurd h
agree_at (l ∷ ls) (x ∷ xs) [] ns A h g = absurd h
agree_at (l ∷ ls) (x ∷ xs) (y ∷ ys) ns A h g = (g.0 ∙ sym h.0, (h.1.within, h.1.sort ∙ g.1), agree_at ls xs ys ns A h.2 g.2)

pub sound_terms_make_tables : (t : Term) (s : Sort) (cs : List Sort) (before : List Node) (locals : Env Sort) → IsSoundTerm cs before locals t s
    → (ids : Env ℕ) (env : Env Element) (nodes : List Node) (count : ℕ) (A : List Value)
    → Agree nodes A ids env → AreOfSorts locals env → IsTableWith cs count nodes → length (made ids nodes t).nodes ≤ most_nodes
    → IsTableWith cs count (made ids nodes t).nodes × Means (made ids nodes t).nodes A (made ids nodes t).id (val env A t) × (sort_at (made ids nodes t).nodes (made ids nodes t).id ≡ s)
sound_terms_make_tables t s cs before locals h ids env nodes count A agree are good room =
    let m = made_good cs count before t locals s ids nodes h (agree_at locals ids env nodes A agree are) good room in
    (m.0, made_kept A t ids env nodes agree m.0.table.well_formed, m.1.1)

-- Later states

pub stays_get : (cs more : List Sort) (k : ℕ) (s : Sort) → slice_get cs k ≡ Some s → slice_get (cs ++ more) k ≡ Some s
stays_get [] more k s e = cc
stays_get (c ∷ cs) more zero s e = e
stays_get (c ∷ cs) more (suc k) s e = stays_get cs more k s e

module _ (cs more : List Sort) (old new : List Node) (further : Extends old new) where
  mutual
    pub sound_stays : (t : Term) (locals : Env Sort) (s : Sort) → IsSoundTerm cs old locals t s → IsSoundTerm (cs ++ more) new locals t s
    sound_stays (Truth b) locals s h = h
    sound_stays (Number negative size p) locals s h = h
    sound_stays (Constant k t) locals s h = (h.0, stays_get cs more k t h.1)
    sound_stays (Variable name) locals s h = h
    sound_stays (Defined t) locals s h = (sound_stays t [] s h.0, made_stays t old new further h.1)
    sound_stays (Applied op ts) locals s h = (h.0, all_sound_stay ts locals h.0 h.1, h.2)
    sound_stays (Let names ts t) locals s h = (h.0, all_sound_stay ts locals h.0 h.1, sound_stays t (zip names h.0 ++ locals) s h.2)
    sound_stays (Called names t ts) locals s h = (h.0, all_sound_stay ts locals h.0 h.1, sound_stays t (zip names h.0) s h.2)

    all_sound_stay : (ts : Terms) (locals : Env Sort) (ss : List Sort) → AreSoundTerms cs old locals ts ss → AreSoundTerms (cs ++ more) new locals ts ss
    all_sound_stay NoTerm locals [] h = tt
    all_sound_stay NoTerm locals (s ∷ ss) h = absurd h
    all_sound_stay (AndTerm t ts) locals [] h = absurd h
    all_sound_stay (AndTerm t ts) locals (s ∷ ss) h = (sound_stays t locals s h.0, all_sound_stay ts locals ss h.1)

module _ (cs : List Sort) (ns : List Node) where
  mutual
    pub sound_defined : (t : Term) (locals : Env Sort) (s : Sort) → IsSoundTerm cs ns locals t s → AreDefined ns t
    sound_defined (Truth b) locals s h = tt
    sound_defined (Number negative size p) locals s h = tt
    sound_defined (Constant k t) locals s h = tt
    sound_defined (Variable name) locals s h = tt
    sound_defined (Defined t) locals s h = h.1
    sound_defined (Applied op ts) locals s h = all_sound_defined ts locals h.0 h.1
    sound_defined (Let names ts t) locals s h = (all_sound_defined ts locals h.0 h.1, sound_defined t (zip names h.0 ++ locals) s h.2)
    sound_defined (Called names t ts) locals s h = (all_sound_defined ts locals h.0 h.1, sound_defined t (zip names h.0) s h.2)

    all_sound_defined : (ts : Terms) (locals : Env Sort) (ss : List Sort) → AreSoundTerms cs ns locals ts ss → AllDefined ns ts
    all_sound_defined NoTerm locals ss h = tt
    all_sound_defined (AndTerm t ts) locals [] h = absurd h
    all_sound_defined (AndTerm t ts) locals (s ∷ ss) h = (sound_defined t locals s h.0, all_sound_defined ts locals ss h.1)
