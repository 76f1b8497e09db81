-- How many nodes a term makes.
use Rattle.std.proofs.Common.{◌≡◌, ℕ, ◌+◌, ◌*◌, ◌≤◌, List, [], ◌∷◌, ◌++◌, length, Some, None, Option, position, zip, refl, sym, ap, ◌∙◌, subst, arith, append_assoc, length-append}
use Rattle.std.proofs.Math.Nat.{mul-le-mul_right}
use Rattle.ffc_term.specs.declared.node.Node.{Node}
use Rattle.ffc_term.specs.declared.node.Node.TheVariants as node
use Rattle.ffc_term.specs.declared.node.Sort.{Sort}
use Rattle.ffc_term.specs.declared.node.Sort.TheVariants as sort
use Rattle.ffc_term.specs.Nodes.{sort_at}
use Rattle.ffc_smt.specs.Terms.{Operator, Not, And, Or, Xor, Implies, Equal, Distinct, Ite, Add, Mul, Neg, Bitsum, Term, Truth, Number, Constant, Variable, Defined, Applied, Let, Called, Terms, NoTerm, AndTerm, weight, weights}
use Rattle.ffc_smt.specs.Meaning.{Env, found}
use Rattle.ffc_smt.specs.Making.{AllMade, placed, interned, equality, neighbours, difference, differences_from, differences, exclusive, implication, implications, choice, conjoined, applied_made, variable_made, made, all_made, is_same_node}
use Rattle.ffc_smt.specs.Bounds.{IsMade, AreDefined, AllDefined}
use Rattle.ffc_smt.proofs.Extends.{Extends, made_extends, all_made_extends}
use Rattle.ffc_smt.proofs.Again.{made_anew}

placed_bound : (ns : List Node) (n : Node) (o : Option ℕ) → length (placed ns n o).nodes ≤ length ns + 1
placed_bound ns n (Some id) = omega arith
placed_bound ns n None = omega (arith, length-append ns (n ∷ []))

pub interned_bound : (ns : List Node) (n : Node) → length (interned ns n).nodes ≤ length ns + 1
unfolding interned
interned_bound ns n = placed_bound ns n (position (is_same_node n) ns)

equality_bound : (ns : List Node) (a b : ℕ) → length (equality ns a b).nodes ≤ length ns + 1
unfolding equality
equality_bound ns a b = interned_bound ns _

difference_bound : (ns : List Node) (a b : ℕ) → length (difference ns a b).nodes ≤ length ns + 2
unfolding difference
difference_bound ns a b =
    let e = equality ns a b in
    let one = equality_bound ns a b in
    let two = interned_bound e.nodes (node.Not e.id) in
    omega arith

neighbours_bound : (ids : List ℕ) (ns : List Node) (a : ℕ) → length (neighbours ns a ids).nodes ≤ length ns + length ids
unfolding neighbours
neighbours_bound [] ns a = omega arith
neighbours_bound (b ∷ rest) ns a =
    let one = equality_bound ns a b in
    let two = neighbours_bound rest (equality ns a b).nodes b in
    omega arith

differences_from_bound : (ids : List ℕ) (ns : List Node) (a : ℕ) → length (differences_from ns a ids).nodes ≤ length ns + 2 * length ids
unfolding differences_from
differences_from_bound [] ns a = omega arith
differences_from_bound (b ∷ rest) ns a =
    let one = difference_bound ns a b in
    let two = differences_from_bound rest (difference ns a b).nodes a in
    omega arith

differences_step : (d e n k j : ℕ) → j ≡ k + 1 → d ≤ n + 2 * k → e + k ≤ d + k * k → e + j ≤ n + j * j
differences_step d e n k j next one two = rw next (omega arith)

differences_bound : (ids : List ℕ) (ns : List Node) → length (differences ns ids).nodes + length ids ≤ length ns + length ids * length ids
unfolding differences
differences_bound [] ns = omega arith
differences_bound (a ∷ rest) ns =
    differences_step (length (differences_from ns a rest).nodes) (length (differences (differences_from ns a rest).nodes rest).nodes) (length ns) (length rest) (length (a ∷ rest)) (omega arith)
    (differences_from_bound rest ns a) (differences_bound rest (differences_from ns a rest).nodes)

exclusive_bound : (ids : List ℕ) (ns : List Node) (a : ℕ) → length (exclusive ns a ids).nodes ≤ length ns + length ids
unfolding exclusive
exclusive_bound [] ns a = omega arith
exclusive_bound (b ∷ rest) ns a =
    let one = interned_bound ns (node.Xor a b) in
    let two = exclusive_bound rest (interned ns (node.Xor a b)).nodes (interned ns (node.Xor a b)).id in
    omega arith

implication_bound : (ns : List Node) (a b : ℕ) → length (implication ns a b).nodes ≤ length ns + 2
unfolding implication
implication_bound ns a b =
    let m = interned ns (node.Not a) in
    let one = interned_bound ns (node.Not a) in
    let two = interned_bound m.nodes (node.Or (m.id ∷ b ∷ [])) in
    omega arith

implications_bound : (ids : List ℕ) (ns : List Node) (a : ℕ) → length (implications ns a ids).nodes ≤ length ns + 2 * length ids
unfolding implications
implications_bound [] ns a = omega arith
implications_bound (b ∷ rest) ns a =
    let last = implications ns b rest in
    let one = implications_bound rest ns b in
    let two = implication_bound last.nodes a last.id in
    omega arith

choice_bound : (s : Sort) (ns : List Node) (c a b : ℕ) → length (choice s ns c a b).nodes ≤ length ns + 3
choice_bound sort.Bool ns c a b = let one = interned_bound ns (node.IteBool c a b) in omega arith
choice_bound (sort.Field p) ns c a b =
    let t = interned ns (node.IteField c a b) in
    let first = interned t.nodes (node.Eq t.id a) in
    let one = interned_bound ns (node.IteField c a b) in
    let two = interned_bound t.nodes (node.Eq t.id a) in
    let three = interned_bound first.nodes (node.Eq t.id b) in
    omega arith

conjoined_bound : (m : AllMade) → length (conjoined m).nodes ≤ length m.nodes + 1
conjoined_bound m = interned_bound m.nodes (node.And m.ids)

-- n arguments
one_of : (a l n : ℕ) → a ≤ l + 1 → a ≤ l + n * n + 1
one_of a l n h = omega arith

some_of : (a l r : ℕ) → a ≤ l + 2 * (r + 1) → a ≤ l + (r + 2) * (r + 2) + 1
some_of a l r h = omega arith

each_of : (a m l r : ℕ) → a ≤ m + 1 → m ≤ l + (r + 2) → a ≤ l + (r + 3) * (r + 3) + 1
each_of a m l r h g = omega arith

pairs_of : (a m l n : ℕ) → a ≤ m + 1 → m + n ≤ l + n * n → a ≤ l + n * n + 1
pairs_of a m l n h g = omega arith

length_two : (a b : ℕ) (rest : List ℕ) → length (a ∷ b ∷ rest) ≡ length rest + 2
length_two a b rest = omega arith

length_three : (a b c : ℕ) (rest : List ℕ) → length (a ∷ b ∷ c ∷ rest) ≡ length rest + 3
length_three a b c rest = omega arith

applied_bound : (op : Operator) (ids : List ℕ) (ns : List Node) → length (applied_made op ns ids).nodes ≤ length ns + length ids * length ids + 1
unfolding applied_made
applied_bound Not (a ∷ []) ns = one_of _ _ 1 (interned_bound ns _)
applied_bound And (a ∷ ids) ns = one_of _ _ (length (a ∷ ids)) (interned_bound ns _)
applied_bound Or (a ∷ ids) ns = one_of _ _ (length (a ∷ ids)) (interned_bound ns _)
applied_bound Xor (a ∷ b ∷ rest) ns =
    subst (λ n. length (exclusive ns a (b ∷ rest)).nodes ≤ length ns + n * n + 1) (sym (length_two a b rest))
    (some_of _ _ (length rest) (let h = exclusive_bound (b ∷ rest) ns a in omega arith))
applied_bound Implies (a ∷ b ∷ rest) ns =
    subst (λ n. length (implications ns a (b ∷ rest)).nodes ≤ length ns + n * n + 1) (sym (length_two a b rest))
    (some_of _ _ (length rest) (let h = implications_bound (b ∷ rest) ns a in omega arith))
applied_bound Equal (a ∷ b ∷ []) ns = one_of _ _ 2 (equality_bound ns a b)
applied_bound Equal (a ∷ b ∷ c ∷ rest) ns =
    let m = neighbours ns a (b ∷ c ∷ rest) in
    subst (λ n. length (conjoined m).nodes ≤ length ns + n * n + 1) (sym (length_three a b c rest))
    (each_of _ (length m.nodes) _ (length rest) (conjoined_bound m) (let h = neighbours_bound (b ∷ c ∷ rest) ns a in omega arith))
applied_bound Distinct (a ∷ b ∷ []) ns = let h = difference_bound ns a b in omega arith
applied_bound Distinct (a ∷ b ∷ c ∷ rest) ns =
    let m = differences ns (a ∷ b ∷ c ∷ rest) in
    pairs_of _ (length m.nodes) _ (length (a ∷ b ∷ c ∷ rest)) (conjoined_bound m) (differences_bound (a ∷ b ∷ c ∷ rest) ns)
applied_bound Ite (c ∷ a ∷ b ∷ []) ns = let h = choice_bound (sort_at ns a) ns c a b in omega arith
applied_bound Add (a ∷ ids) ns = one_of _ _ (length (a ∷ ids)) (interned_bound ns _)
applied_bound Mul (a ∷ ids) ns = one_of _ _ (length (a ∷ ids)) (interned_bound ns _)
applied_bound Neg (a ∷ []) ns = one_of _ _ 1 (interned_bound ns _)
applied_bound Bitsum (a ∷ ids) ns = one_of _ _ (length (a ∷ ids)) (interned_bound ns _)
applied_bound _ ids ns = one_of _ _ (length ids) (interned_bound ns (node.And []))

variable_bound : (ns : List Node) (o : Option ℕ) → length (variable_made ns o).nodes ≤ length ns + 1
variable_bound ns (Some id) = omega arith
variable_bound ns None = interned_bound ns (node.And [])

weight_positive : (t : Term) → 1 ≤ weight t
unfolding weight
weight_positive (Truth b) = omega arith
weight_positive (Number negative size p) = omega arith
weight_positive (Constant k s) = omega arith
weight_positive (Variable name) = omega arith
weight_positive (Defined t) = omega arith
weight_positive (Applied op ts) = omega arith
weight_positive (Let names ts t) = omega arith
weight_positive (Called names t ts) = omega arith

abbrev count : Terms → ℕ
count NoTerm = 0
count (AndTerm t ts) = count ts + 1

count_made : (ts : Terms) (ids : Env ℕ) (ns : List Node) → length (all_made ids ns ts).ids ≡ count ts
unfolding made
count_made NoTerm ids ns = refl
count_made (AndTerm t ts) ids ns = let h = count_made ts ids (made ids ns t).nodes in omega arith

count_weighs : (ts : Terms) → count ts ≤ weights ts
unfolding weight
count_weighs NoTerm = omega arith
count_weighs (AndTerm t ts) = let one = weight_positive t in let two = count_weighs ts in omega arith

pub made_stays : (t : Term) (old new : List Node) → Extends old new → IsMade old t → IsMade new t
made_stays t old new (more, e) h = record { before = h.before; more = h.more ++ more; made_then = e ∙ ap (λ ns. ns ++ more) h.made_then ∙ append_assoc (made [] h.before t).nodes h.more more }

mutual
  pub defined_stays : (t : Term) (old new : List Node) → Extends old new → AreDefined old t → AreDefined new t
  defined_stays (Truth b) old new further h = tt
  defined_stays (Number negative size p) old new further h = tt
  defined_stays (Constant k s) old new further h = tt
  defined_stays (Variable name) old new further h = tt
  defined_stays (Defined t) old new further h = made_stays t old new further h
  defined_stays (Applied op ts) old new further h = all_defined_stays ts old new further h
  defined_stays (Let names ts t) old new further h = (all_defined_stays ts old new further h.0, defined_stays t old new further h.1)
  defined_stays (Called names t ts) old new further h = (all_defined_stays ts old new further h.0, defined_stays t old new further h.1)

  all_defined_stays : (ts : Terms) (old new : List Node) → Extends old new → AllDefined old ts → AllDefined new ts
  all_defined_stays NoTerm old new further h = tt
  all_defined_stays (AndTerm t ts) old new further h = (defined_stays t old new further h.0, all_defined_stays ts old new further h.1)

-- a term that was made makes nothing
pub made_nothing : (t : Term) (ns : List Node) → IsMade ns t → (made [] ns t).nodes ≡ ns
made_nothing t ns h = ap (λ m. m.nodes) (made_anew t [] h.before ns tt (h.more, h.made_then))

more_weight : (w s : ℕ) → 1 ≤ w → s ≤ w * s
more_weight w s h = let e = mul-le-mul_right s h in omega arith

one_more : (r m n c w s : ℕ) → m ≤ n + w * w → r + c * c ≤ m + s * s + s → c ≤ s → 1 ≤ w → r + (c + 1) * (c + 1) ≤ n + (w + s) * (w + s) + (w + s)
one_more r m n c w s one two three four = let e = more_weight w s four in omega arith

whole_term : (a m n c s : ℕ) → a ≤ m + c * c + 1 → m + c * c ≤ n + s * s + s → a ≤ n + (1 + s) * (1 + s)
whole_term a m n c s one two = omega arith

with_body : (a m n c s w : ℕ) → a ≤ m + w * w → m + c * c ≤ n + s * s + s → a ≤ n + (1 + s + w) * (1 + s + w)
with_body a m n c s w one two = omega arith

mutual
  unfolding made weight

  pub made_bound : (t : Term) (ids : Env ℕ) (ns : List Node) → AreDefined ns t → length (made ids ns t).nodes ≤ length ns + weight t * weight t
  made_bound (Truth b) ids ns h = interned_bound ns _
  made_bound (Number negative size p) ids ns h = interned_bound ns _
  made_bound (Constant k s) ids ns h = interned_bound ns _
  made_bound (Variable name) ids ns h = variable_bound ns (found ids name)
  made_bound (Defined t) ids ns h =
      let e = ap (length {A = Node}) (made_nothing t ns h) in omega (arith, e)
  made_bound (Applied op ts) ids ns h =
      let m = all_made ids ns ts in
      whole_term _ (length m.nodes) (length ns) (count ts) (weights ts)
      (subst (λ n. length (applied_made op m.nodes m.ids).nodes ≤ length m.nodes + n * n + 1) (count_made ts ids ns) (applied_bound op m.ids m.nodes))
      (all_made_bound ts ids ns h)
  made_bound (Let names ts t) ids ns h =
      let m = all_made ids ns ts in
      with_body _ (length m.nodes) (length ns) (count ts) (weights ts) (weight t)
      (made_bound t (zip names m.ids ++ ids) m.nodes (defined_stays t ns m.nodes (all_made_extends ts ids ns) h.1)) (all_made_bound ts ids ns h.0)
  made_bound (Called names t ts) ids ns h =
      let m = all_made ids ns ts in
      with_body _ (length m.nodes) (length ns) (count ts) (weights ts) (weight t)
      (made_bound t (zip names m.ids) m.nodes (defined_stays t ns m.nodes (all_made_extends ts ids ns) h.1)) (all_made_bound ts ids ns h.0)

  pub all_made_bound : (ts : Terms) (ids : Env ℕ) (ns : List Node) → AllDefined ns ts
      → length (all_made ids ns ts).nodes + count ts * count ts ≤ length ns + weights ts * weights ts + weights ts
  all_made_bound NoTerm ids ns h = omega arith
  all_made_bound (AndTerm t ts) ids ns h =
      let m = made ids ns t in
      let rest = all_made ids m.nodes ts in
      one_more (length rest.nodes) (length m.nodes) (length ns) (count ts) (weight t) (weights ts)
      (made_bound t ids ns h.0) (all_made_bound ts ids m.nodes (all_defined_stays ts ns m.nodes (made_extends t ids ns) h.1)) (count_weighs ts) (weight_positive t)
