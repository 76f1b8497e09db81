-- What a table does when it is asked for a node is what the definitions say.
use Rattle.std.proofs.Common.{◌≡◌, ℕ, ◌+◌, ◌<◌, ⊎_elim, ◌==◌, if◌then◌else◌, true, false, List, [], ◌∷◌, ◌++◌, length, Some, None, Option, Contains, position, refl, sym, ap, ◌∙◌, subst, arith, append_assoc, length-append}
use Rattle.std.proofs.lemmas.Bool.{cases_eq}
use Rattle.std.proofs.lemmas.Bool.Decides.{nat_tests}
use Rattle.std.proofs.lemmas.Option.{slice_get_within}
use Rattle.ffc_term.specs.declared.node.Node.{Node}
use Rattle.ffc_term.specs.declared.node.Node.TheVariants.{IteField, Eq}
use Rattle.ffc_term.specs.declared.node.Sort.TheVariants as sort
use Rattle.ffc_term.specs.contracts.node.NodePartialEq.TheImpl as by_parts
use Rattle.ffc_term.specs.Nodes.{IsNodeAt}
use Rattle.ffc_term.specs.Tables.{IsWellFormed, IsTable, IsInterned, IsIteInterned, ite_nodes, second_equality}
use Rattle.ffc_term.proofs.NodeLemmas.{IsNodeAt-from_position, IsNodeAt-from_Contains, IsNodeAt-append, Contains-from_IsNodeAt}
use Rattle.ffc_smt.specs.Making.{Made, placed, interned, choice}
use Rattle.ffc_smt.proofs.Again.{interned_there, with_second, with_equalities}
use Rattle.ffc_smt.proofs.SameNodes.{interned_by_parts}

-- a table with a number
abbrev pub with_table : ℕ → List Node → Made
with_table id ns = record { nodes = ns; id = id }

absent_placed : (ns : List Node) (n : Node) (o : Option ℕ) → position ((by_parts.ghosts).eq n) ns ≡ o → (Contains ns n → ⊥) → placed ns n o ≡ record { nodes = ns ++ n ∷ []; id = length ns }
absent_placed ns n (Some k) e absent = absurd (absent (Contains-from_IsNodeAt ns k n (IsNodeAt-from_position ns n k e)))
absent_placed ns n None e absent = refl

-- a node that is not in a table is put after the others
pub interned_absent : (ns : List Node) (n : Node) → (Contains ns n → ⊥) → interned ns n ≡ record { nodes = ns ++ n ∷ []; id = length ns }
interned_absent ns n absent = interned_by_parts ns n ∙ absent_placed ns n (position ((by_parts.ghosts).eq n) ns) refl absent

pub interning_is_one : (old new : List Node) (n : Node) (id : ℕ) → IsWellFormed new → IsInterned old new n id → interned old n ≡ record { nodes = new; id = id }
interning_is_one old new n id formed h =
    ⊎_elim
    (λ there. subst (λ ns. interned ns n ≡ with_table id new) there.1 (interned_there new n id formed h.at))
    (λ put. interned_absent old n put.0 ∙ ap (λ ns. with_table (length old) ns) (sym put.1) ∙ ap (λ k. with_table k new) (sym put.2))
    h.added

-- a node that is in a table from a number on is not before it
absent_before : (front rest new : List Node) (n : Node) (k : ℕ) → IsWellFormed new → new ≡ front ++ rest → IsNodeAt new k n → length front < k + 1 → Contains front n → ⊥
absent_before front rest new n k formed e at late has =
    let there = IsNodeAt-from_Contains front n has in
    let inside : there.0 < length front = slice_get_within front there.0 n there.1 in
    let same : there.0 ≡ k = formed.single there.0 k n (subst (λ ns. IsNodeAt ns there.0 n) (sym e) (IsNodeAt-append front rest there.0 n there.1)) at in
    omega arith

second_other : (t a b : ℕ) → (a ≡ b → ⊥) → second_equality t a b ≡ t + 2
second_other t a b e = grind (arith, nat_tests)

pub nodes_same : (t c a b : ℕ) → a ≡ b → ite_nodes t c a b ≡ IteField c a b ∷ Eq t a ∷ []
nodes_same t c a b e = ap (λ r. IteField c a b ∷ Eq t a ∷ r) (let test : (a == b) ≡ true = grind (arith, nat_tests) in ap (λ x. if x then [] else Eq t b ∷ []) test)

pub nodes_other : (t c a b : ℕ) → (a ≡ b → ⊥) → ite_nodes t c a b ≡ IteField c a b ∷ Eq t a ∷ Eq t b ∷ []
nodes_other t c a b e = ap (λ r. IteField c a b ∷ Eq t a ∷ r) (let test : (a == b) ≡ false = grind (arith, nat_tests) in ap (λ x. if x then [] else Eq t b ∷ []) test)

-- where the `ite` is there, so are its equalities
pub choice_there : (ns : List Node) (p c a b id : ℕ) → IsTable ns → IsNodeAt ns id (IteField c a b) → choice (sort.Field p) ns c a b ≡ record { nodes = ns; id = id }
choice_there ns p c a b id table at =
    let later = table.equalities id c a b at in
    ap (with_equalities a b) (interned_there ns (IteField c a b) id table.well_formed at)
    ∙ ap (with_second id b) (interned_there ns (Eq id a) (id + 1) table.well_formed later.0)
    ∙ ap (λ m. with_table id m.nodes) (interned_there ns (Eq id b) (second_equality id a b) table.well_formed later.1)

pub two_behind : (old : List Node) (x y : Node) → (old ++ x ∷ []) ++ y ∷ [] ≡ old ++ x ∷ y ∷ []
two_behind old x y = append_assoc old (x ∷ []) (y ∷ [])

pub three_behind : (old : List Node) (x y z : Node) → ((old ++ x ∷ []) ++ y ∷ []) ++ z ∷ [] ≡ old ++ x ∷ y ∷ z ∷ []
three_behind old x y z = append_assoc (old ++ x ∷ []) (y ∷ []) (z ∷ []) ∙ append_assoc old (x ∷ []) (y ∷ z ∷ [])

-- else all are put after the others
choice_put : (old new : List Node) (p c a b : ℕ) → IsTable new → IsNodeAt new (length old) (IteField c a b) → (Contains old (IteField c a b) → ⊥) → new ≡ old ++ ite_nodes (length old) c a b
    → choice (sort.Field p) old c a b ≡ record { nodes = new; id = length old }
choice_put old new p c a b table at absent is =
    let t = length old in
    let x = IteField c a b in
    let formed = table.well_formed in
    let later = table.equalities t c a b at in
    let one = old ++ x ∷ [] in
    let two = one ++ Eq t a ∷ [] in
    let more = (if a == b then [] else Eq t b ∷ []) in
    let long_one : length one ≡ t + 1 = omega (arith, length-append old (x ∷ [])) in
    let long_two : length two ≡ t + 2 = omega (arith, long_one, length-append one (Eq t a ∷ [])) in
    let from_one : new ≡ one ++ Eq t a ∷ more = is ∙ sym (append_assoc old (x ∷ []) (Eq t a ∷ more)) in
    let from_two : new ≡ two ++ more = from_one ∙ sym (append_assoc one (Eq t a ∷ []) more) in
    let no_first : Contains one (Eq t a) → ⊥ = absent_before one (Eq t a ∷ more) new (Eq t a) (t + 1) formed from_one later.0 (omega (arith, long_one)) in
    ap (with_equalities a b) (interned_absent old x absent)
    ∙ ap (with_second t b) (interned_absent one (Eq t a) no_first)
    ∙ ⊎_elim
    (λ same.
    let whole : new ≡ two = is ∙ ap (λ r. old ++ r) (nodes_same t c a b same) ∙ sym (two_behind old x (Eq t a)) in
    let there : IsNodeAt new (second_equality t a b) (Eq t b) = later.1 in
    ap (λ m. with_table t m.nodes) (subst (λ ns. interned ns (Eq t b) ≡ with_table (second_equality t a b) new) whole (interned_there new (Eq t b) (second_equality t a b) formed there)))
    (λ other.
    let whole : new ≡ two ++ Eq t b ∷ [] = is ∙ ap (λ r. old ++ r) (nodes_other t c a b other) ∙ sym (three_behind old x (Eq t a) (Eq t b)) in
    let no_second : Contains two (Eq t b) → ⊥ = absent_before two (Eq t b ∷ []) new (Eq t b) (t + 2) formed whole (subst (λ k. IsNodeAt new k (Eq t b)) (second_other t a b other) later.1) (omega (arith, long_two)) in
    ap (λ m. with_table t m.nodes) (interned_absent two (Eq t b) no_second) ∙ ap (with_table t) (sym whole))
    (cases_eq a b)

pub choosing_is_one : (old new : List Node) (p c a b id : ℕ) → IsTable new → IsIteInterned old new c a b id → choice (sort.Field p) old c a b ≡ record { nodes = new; id = id }
choosing_is_one old new p c a b id table h =
    ⊎_elim
    (λ there. subst (λ ns. choice (sort.Field p) ns c a b ≡ with_table id new) there.1 (choice_there new p c a b id table h.at))
    (λ put.
    choice_put old new p c a b table (subst (λ k. IsNodeAt new k (IteField c a b)) put.2 h.at) put.0 (put.1 ∙ ap (λ k. old ++ ite_nodes k c a b) put.2)
    ∙ ap (λ k. with_table k new) (sym put.2))
    h.added
