-- Nodes are only put after the others.
use Rattle.std.proofs.Common.{◌≡◌, ℕ, ◌<◌, ◌≤◌, List, [], ◌∷◌, ◌++◌, length, take, Some, None, Option, position, refl, sym, ap, ◌∙◌, subst, arith, append_assoc, append-nil, length-append}
use Rattle.std.proofs.lemmas.List.{take-append-le, take_all}
use Rattle.ffc_term.specs.declared.node.Node.{Node}
use Rattle.ffc_term.specs.declared.node.Node.TheVariants as node
use Rattle.ffc_term.specs.declared.node.Sort.{Sort}
use Rattle.ffc_term.specs.declared.node.Sort.TheVariants as sort
use Rattle.ffc_term.specs.declared.value.Value.{Value}
use Rattle.ffc_term.specs.contracts.node.NodePartialEq.TheImpl as by_parts
use Rattle.ffc_term.specs.Nodes.{IsNodeAt, sort_at}
use Rattle.ffc_term.specs.Values.{value_at}
use Rattle.ffc_term.specs.Tables.{IsWellFormed}
use Rattle.ffc_term.proofs.NodeLemmas.{IsNodeAt-append, IsNodeAt-from_position, IsNodeAt-last}
use Rattle.ffc_term.proofs.TableLemmas.{IsWellFormed-take, sort_at-append}
use Rattle.ffc_term.proofs.LawLemmas.{value_at-append}
use Rattle.ffc_smt.specs.Terms.{Operator, Not, And, Or, Xor, Implies, Equal, Distinct, Ite, Add, Mul, Neg, Bitsum, Term, Truth, Number, Constant, Variable, Defined, Applied, Let, Called, Terms, NoTerm, AndTerm}
use Rattle.ffc_smt.specs.Meaning.{Env, found, Element}
use Rattle.ffc_smt.specs.Making.{AllMade, placed, interned, equality, neighbours, difference, differences_from, differences, exclusive, implication, implications, choice, conjoined, applied_made, variable_made, made, all_made, is_same_node}
use Rattle.ffc_smt.specs.Law.{Means}
use Rattle.ffc_smt.proofs.SameNodes.{interned_by_parts}

-- the table was extended
abbrev pub Extends : List Node → List Node → Type 0
Extends old new = (more : List Node) × (new ≡ old ++ more)

pub extends_same : (ns : List Node) → Extends ns ns
extends_same ns = ([], sym (append-nil ns))

pub extends_further : (one two three : List Node) → Extends one two → Extends two three → Extends one three
extends_further one two three (more, e) (most, f) = (more ++ most, f ∙ ap (λ t. t ++ most) e ∙ append_assoc one more most)

-- what stays in an extended table
pub node_stays : (old new : List Node) (id : ℕ) (n : Node) → Extends old new → IsNodeAt old id n → IsNodeAt new id n
node_stays old new id n (more, e) at = rw e (IsNodeAt-append old more id n at)

pub longer : (old new : List Node) → Extends old new → length old ≤ length new
longer old new (more, e) = rw e (omega (arith, length-append old more))

pub sort_stays : (old new : List Node) (id : ℕ) → Extends old new → id < length old → sort_at new id ≡ sort_at old id
sort_stays old new id (more, e) inside = rw e (sort_at-append old more id inside)

pub value_stays : (old new : List Node) (A : List Value) (id : ℕ) → Extends old new → id < length old → value_at new A id ≡ value_at old A id
value_stays old new A id (more, e) inside = rw e (value_at-append old more A id inside)

pub means_stays : (old new : List Node) (A : List Value) (id : ℕ) (x : Element) → Extends old new → Means old A id x → Means new A id x
means_stays old new A id x further h = record {
  within = let long = longer old new further in omega (arith, h.within);
  sort = sort_stays old new id further h.within ∙ h.sort;
  value = value_stays old new A id further h.within ∙ h.value;
}

-- the first nodes of a table
pub front_well_formed : (old new : List Node) → Extends old new → IsWellFormed new → IsWellFormed old
front_well_formed old new (more, e) h =
    let front : take (length old) new ≡ old = rw e (take-append-le (length old) old more (omega arith) ∙ take_all (length old) old (omega arith)) in
    subst IsWellFormed front (IsWellFormed-take (length old) new h)

placed_extends : (ns : List Node) (n : Node) (o : Option ℕ) → Extends ns (placed ns n o).nodes
placed_extends ns n (Some id) = extends_same ns
placed_extends ns n None = (n ∷ [], refl)

pub interned_extends : (ns : List Node) (n : Node) → Extends ns (interned ns n).nodes
unfolding interned
interned_extends ns n = placed_extends ns n (position (is_same_node n) ns)

placed_at : (ns : List Node) (n : Node) (o : Option ℕ) → position ((by_parts.ghosts).eq n) ns ≡ o → IsNodeAt (placed ns n o).nodes (placed ns n o).id n
placed_at ns n (Some id) e = IsNodeAt-from_position ns n id e
placed_at ns n None e = IsNodeAt-last ns n

-- the node that was asked for
pub interned_at : (ns : List Node) (n : Node) → IsNodeAt (interned ns n).nodes (interned ns n).id n
interned_at ns n = subst (λ m. IsNodeAt m.nodes m.id n) (sym (interned_by_parts ns n)) (placed_at ns n (position ((by_parts.ghosts).eq n) ns) refl)

pub equality_extends : (ns : List Node) (a b : ℕ) → Extends ns (equality ns a b).nodes
unfolding equality
equality_extends ns a b = interned_extends ns _

pub difference_extends : (ns : List Node) (a b : ℕ) → Extends ns (difference ns a b).nodes
unfolding difference
difference_extends ns a b = extends_further ns (equality ns a b).nodes _ (equality_extends ns a b) (interned_extends (equality ns a b).nodes _)

pub implication_extends : (ns : List Node) (a b : ℕ) → Extends ns (implication ns a b).nodes
unfolding implication
implication_extends ns a b = extends_further ns (interned ns (node.Not a)).nodes _ (interned_extends ns _) (interned_extends (interned ns (node.Not a)).nodes _)

pub neighbours_extend : (ids : List ℕ) (ns : List Node) (a : ℕ) → Extends ns (neighbours ns a ids).nodes
unfolding neighbours
neighbours_extend [] ns a = extends_same ns
neighbours_extend (b ∷ rest) ns a =
    extends_further ns (equality ns a b).nodes _ (equality_extends ns a b) (neighbours_extend rest (equality ns a b).nodes b)

pub differences_from_extend : (ids : List ℕ) (ns : List Node) (a : ℕ) → Extends ns (differences_from ns a ids).nodes
unfolding differences_from
differences_from_extend [] ns a = extends_same ns
differences_from_extend (b ∷ rest) ns a =
    extends_further ns (difference ns a b).nodes _ (difference_extends ns a b) (differences_from_extend rest (difference ns a b).nodes a)

pub differences_extend : (ids : List ℕ) (ns : List Node) → Extends ns (differences ns ids).nodes
unfolding differences
differences_extend [] ns = extends_same ns
differences_extend (a ∷ rest) ns =
    extends_further ns (differences_from ns a rest).nodes _ (differences_from_extend rest ns a) (differences_extend rest (differences_from ns a rest).nodes)

pub exclusive_extends : (ids : List ℕ) (ns : List Node) (a : ℕ) → Extends ns (exclusive ns a ids).nodes
unfolding exclusive
exclusive_extends [] ns a = extends_same ns
exclusive_extends (b ∷ rest) ns a =
    let x = interned ns (node.Xor a b) in
    extends_further ns x.nodes _ (interned_extends ns (node.Xor a b)) (exclusive_extends rest x.nodes x.id)

pub implications_extend : (ids : List ℕ) (ns : List Node) (a : ℕ) → Extends ns (implications ns a ids).nodes
unfolding implications
implications_extend [] ns a = extends_same ns
implications_extend (b ∷ rest) ns a =
    let last = implications ns b rest in
    extends_further ns last.nodes _ (implications_extend rest ns b) (implication_extends last.nodes a last.id)

pub choice_extends : (s : Sort) (ns : List Node) (c a b : ℕ) → Extends ns (choice s ns c a b).nodes
choice_extends sort.Bool ns c a b = interned_extends ns _
choice_extends (sort.Field p) ns c a b =
    let t = interned ns (node.IteField c a b) in
    let first = interned t.nodes (node.Eq t.id a) in
    extends_further ns first.nodes _ (extends_further ns t.nodes _ (interned_extends ns _) (interned_extends t.nodes _)) (interned_extends first.nodes (node.Eq t.id b))

conjoined_extends : (ns : List Node) (m : AllMade) → Extends ns m.nodes → Extends ns (conjoined m).nodes
conjoined_extends ns m further = extends_further ns m.nodes _ further (interned_extends m.nodes (node.And m.ids))

pub applied_extends : (op : Operator) (ids : List ℕ) (ns : List Node) → Extends ns (applied_made op ns ids).nodes
unfolding applied_made
applied_extends Not (a ∷ []) ns = interned_extends ns _
applied_extends And (a ∷ ids) ns = interned_extends ns _
applied_extends Or (a ∷ ids) ns = interned_extends ns _
applied_extends Xor (a ∷ b ∷ rest) ns = exclusive_extends (b ∷ rest) ns a
applied_extends Implies (a ∷ b ∷ rest) ns = implications_extend (b ∷ rest) ns a
applied_extends Equal (a ∷ b ∷ []) ns = equality_extends ns a b
applied_extends Equal (a ∷ b ∷ c ∷ rest) ns = conjoined_extends ns _ (neighbours_extend (b ∷ c ∷ rest) ns a)
applied_extends Distinct (a ∷ b ∷ []) ns = difference_extends ns a b
applied_extends Distinct (a ∷ b ∷ c ∷ rest) ns = conjoined_extends ns _ (differences_extend (a ∷ b ∷ c ∷ rest) ns)
applied_extends Ite (c ∷ a ∷ b ∷ []) ns = choice_extends (sort_at ns a) ns c a b
applied_extends Add (a ∷ ids) ns = interned_extends ns _
applied_extends Mul (a ∷ ids) ns = interned_extends ns _
applied_extends Neg (a ∷ []) ns = interned_extends ns _
applied_extends Bitsum (a ∷ ids) ns = interned_extends ns _
applied_extends _ _ ns = interned_extends ns _

variable_extends : (ns : List Node) (o : Option ℕ) → Extends ns (variable_made ns o).nodes
variable_extends ns (Some id) = extends_same ns
variable_extends ns None = interned_extends ns _

mutual
  unfolding made

  pub made_extends : (t : Term) (ids : Env ℕ) (ns : List Node) → Extends ns (made ids ns t).nodes
  made_extends (Truth b) ids ns = interned_extends ns _
  made_extends (Number negative size p) ids ns = interned_extends ns _
  made_extends (Constant k s) ids ns = interned_extends ns _
  made_extends (Variable name) ids ns = variable_extends ns (found ids name)
  made_extends (Defined t) ids ns = made_extends t [] ns
  made_extends (Applied op ts) ids ns =
      extends_further ns (all_made ids ns ts).nodes _ (all_made_extends ts ids ns) (applied_extends op (all_made ids ns ts).ids (all_made ids ns ts).nodes)
  made_extends (Let names ts t) ids ns = extends_further ns (all_made ids ns ts).nodes _ (all_made_extends ts ids ns) (made_extends t _ (all_made ids ns ts).nodes)
  made_extends (Called names t ts) ids ns = extends_further ns (all_made ids ns ts).nodes _ (all_made_extends ts ids ns) (made_extends t _ (all_made ids ns ts).nodes)

  pub all_made_extends : (ts : Terms) (ids : Env ℕ) (ns : List Node) → Extends ns (all_made ids ns ts).nodes
  all_made_extends NoTerm ids ns = extends_same ns
  all_made_extends (AndTerm t ts) ids ns = extends_further ns (made ids ns t).nodes _ (made_extends t ids ns) (all_made_extends ts ids (made ids ns t).nodes)
