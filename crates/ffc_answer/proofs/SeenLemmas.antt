-- What is seen of a view is the answer to its step.
use Rattle.std.proofs.Common.{◌≡◌, ℕ, zero, suc, ◌<◌, Bool, true, false, cond, ◌==◌, List, [], ◌∷◌, ◌++◌, length, map, replicate, All, Option, Some, None, refl, sym, ap, ap₂, ◌∙◌, append_assoc}
use Rattle.std.specs.List.{flat_map, filter_map, range_with_len, cons_option}
use Rattle.std.proofs.Math.ListN.{get_or-append}
use Rattle.std.proofs.lemmas.List.Elements.{All-head, All-tail}
use Rattle.ffc_lex.specs.Names.{written_symbol}
use Rattle.ffc_cert.specs.declared.entries.Entry.{Entry}
use Rattle.ffc_cert.specs.declared.entries.Entry.TheVariants.{Sat, UnsatCases, UnsatSteps, Unknown}
use Rattle.ffc_term.specs.declared.node.Node.{Node}
use Rattle.ffc_term.specs.declared.node.Node.TheVariants.{True}
use Rattle.ffc_term.specs.declared.node.Sort.{Sort}
use Rattle.ffc_term.specs.declared.node.Sort.TheVariants as sort
use Rattle.ffc_term.specs.declared.value.Value.{Value}
use Rattle.ffc_term.specs.Nodes.{IsNodeAt, node_at, sort_at, order_at}
use Rattle.ffc_term.specs.Tables.{IsWellFormed, constant_count}
use Rattle.ffc_term.specs.Values.{values, value_at, value_of_node}
use Rattle.ffc_term.proofs.ValueLemmas.{value_at-is}
use Rattle.ffc_smt.specs.Terms.{Name, Constant}
use Rattle.ffc_smt.specs.Terms as smt
use Rattle.ffc_smt.specs.Meaning.{Element, TruthValue, FieldValue, sort_of, value_of, constant_value, val}
use Rattle.ffc_smt.specs.Making.{constant_node}
use Rattle.ffc_smt.specs.Scopes.{Declared}
use Rattle.ffc_smt.specs.ScriptLaw.{HasNode}
use Rattle.ffc_smt.specs.TableChecks.{TableCheck, node_of, nodes_in_force}
use Rattle.ffc_smt.specs.Answering.{asked_text}
use Rattle.ffc_rules.specs.Assignments.{listed_assignment, listed_value, number_of_constant, value_of_number}
use Rattle.ffc_rules.specs.Cores.{core, names_at}
use Rattle.ffc_elab.specs.Answers.{asked_as, declared_as}
use Rattle.ffc_answer.specs.Answers.{line, sort_text, value_text, definition_line, pair_text, assignment_listed, core_used}
use Rattle.ffc_answer.specs.Seen.{printed, typed_text, definition_head, definition_at, pair_at, pairs_of, is_refutation, name_at}

-- Values

pub printed_value : (e : Element) → printed (sort_of e) (value_of e) ≡ value_text e
printed_value (TruthValue b) = refl
printed_value (FieldValue p n) = refl

sort_of_constant : (A : List Value) (k : ℕ) (s : Sort) → sort_of (constant_value A k s) ≡ s
sort_of_constant A k sort.Bool = refl
sort_of_constant A k (sort.Field p) = refl

value_of_constant_node : (o : ℕ) (A known : List Value) (k : ℕ) (s : Sort) → value_of_node o A known (constant_node k s) ≡ value_of (constant_value A k s)
value_of_constant_node o A known k sort.Bool = refl
value_of_constant_node o A known k (sort.Field p) = refl

-- the value of a constant's node
constant_at : (ns : List Node) (A : List Value) (k : ℕ) (s : Sort) (id : ℕ) → IsWellFormed ns → IsNodeAt ns id (constant_node k s) → printed s (value_at ns A id) ≡ value_text (val [] A (Constant k s))
unfolding val
constant_at ns A k s id formed at =
    let e = constant_value A k s in
    let is : value_at ns A id ≡ value_of e = value_at-is ns A id (constant_node k s) formed at ∙ value_of_constant_node (order_at ns id) A (values ns A) k s in
    ap₂ printed (sym (sort_of_constant A k s)) is ∙ printed_value e

-- the value of the node of a term
term_at : (ns : List Node) (A : List Value) (t : smt.Term) → HasNode ns t → printed (sort_at ns (node_of ns t)) (value_at ns A (node_of ns t)) ≡ value_text (val [] A t)
term_at ns A t has = let m = has.means A in ap₂ printed m.sort m.value ∙ printed_value (val [] A t)

-- An assignment that is listed in a table is the same in a longer one that has no more constants.

node_same : (ns more : List Node) (id : ℕ) → id < length ns → node_at (ns ++ more) id ≡ node_at ns id
node_same ns more id inside = get_or-append ns more True id inside

listed_same : (ns more : List Node) (pairs : List (ℕ × ℕ)) (k : ℕ) → All (λ p. p.0 < length ns) pairs → listed_value (ns ++ more) pairs k ≡ listed_value ns pairs k
listed_same ns more [] k inside = refl
listed_same ns more (p ∷ pairs) k inside =
    let P : ℕ × ℕ → Type 0 = λ q. q.0 < length ns in
    let here = node_same ns more p.0 (All-head P p pairs inside) in
    rw here (ap (λ (v : Value). cond (number_of_constant (node_at ns p.0) == k) (value_of_number (node_at ns p.0) p.1) v) (listed_same ns more pairs k (All-tail P p pairs inside)))

map_same : {A B : Type 0} (f g : A → B) (xs : List A) → ((x : A) → f x ≡ g x) → map f xs ≡ map g xs
map_same f g [] e = refl
map_same f g (x ∷ xs) e = ap₂ (λ y ys. y ∷ ys) (e x) (map_same f g xs e)

pub listed_stays : (ns more : List Node) (pairs : List (ℕ × ℕ)) → constant_count (ns ++ more) ≡ constant_count ns → All (λ p. p.0 < length ns) pairs → listed_assignment (ns ++ more) pairs ≡ listed_assignment ns pairs
unfolding listed_assignment
listed_stays ns more pairs counted inside =
    ap (λ n. map (listed_value (ns ++ more) pairs) (range_with_len 0 n)) counted
    ∙ map_same (listed_value (ns ++ more) pairs) (listed_value ns pairs) (range_with_len 0 (constant_count ns)) (λ k. listed_same ns more pairs k inside)

-- Models

definition_shape : (h s c v d : List ℕ) → (h ++ ((s ++ c) ++ v)) ++ d ≡ (((h ++ s) ++ c) ++ v) ++ d
definition_shape h s c v d = ap (λ t. t ++ d) (sym (append_assoc h (s ++ c) v) ∙ ap (λ t. t ++ v) (sym (append_assoc h s c)))

definition_is : (ns : List Node) (pairs : List (ℕ × ℕ)) (A : List Value) (d : Declared) → listed_assignment ns pairs ≡ A → IsWellFormed ns → IsNodeAt ns (node_of ns (Constant d.number d.sort)) (constant_node d.number d.sort)
    → definition_at ns pairs (declared_as ns d) ≡ definition_line A d
unfolding definition_at definition_head typed_text
definition_is ns pairs A d same formed at =
    let id = node_of ns (Constant d.number d.sort) in
    let text = ap (λ B. printed d.sort (value_at ns B id)) same ∙ constant_at ns A d.number d.sort id formed at in
    let head = definition_head (written_symbol d.name) in
    ap (λ v. line ((head ++ ((sort_text d.sort ++ 32 ∷ []) ++ v)) ++ 41 ∷ [])) text
    ∙ ap line (definition_shape head (sort_text d.sort) (32 ∷ []) (value_text (val [] A (Constant d.number d.sort))) (41 ∷ []))

pub definitions_are : (ns : List Node) (pairs : List (ℕ × ℕ)) (A : List Value) (ds : List Declared) → listed_assignment ns pairs ≡ A → IsWellFormed ns
    → All (λ d. IsNodeAt ns (node_of ns (Constant d.number d.sort)) (constant_node d.number d.sort)) ds
    → flat_map (definition_at ns pairs) (map (declared_as ns) ds) ≡ flat_map (definition_line A) ds
definitions_are ns pairs A [] same formed are = refl
definitions_are ns pairs A (d ∷ ds) same formed are =
    let P : Declared → Type 0 = λ x. IsNodeAt ns (node_of ns (Constant x.number x.sort)) (constant_node x.number x.sort) in
    ap₂ (λ (t u : List ℕ). t ++ u) (definition_is ns pairs A d same formed (All-head P d ds are)) (definitions_are ns pairs A ds same formed (All-tail P d ds are))

pair_is : (ns : List Node) (pairs : List (ℕ × ℕ)) (A : List Value) (a : smt.Asked) → listed_assignment ns pairs ≡ A → HasNode ns a.term → pair_at ns pairs (asked_as ns a) ≡ pair_text A a
pair_is ns pairs A a same has =
    let id = node_of ns a.term in
    ap (λ (v : List ℕ). 40 ∷ (asked_text a ++ 32 ∷ [] ++ v ++ 41 ∷ [])) (ap (λ B. printed (sort_at ns id) (value_at ns B id)) same ∙ term_at ns A a.term has)

pub pairs_are : (ns : List Node) (pairs : List (ℕ × ℕ)) (A : List Value) (asked : List smt.Asked) → listed_assignment ns pairs ≡ A → All (λ a. HasNode ns a.term) asked
    → map (pair_at ns pairs) (map (asked_as ns) asked) ≡ map (pair_text A) asked
pairs_are ns pairs A [] same has = refl
pairs_are ns pairs A (a ∷ rest) same has =
    let P : smt.Asked → Type 0 = λ x. HasNode ns x.term in
    ap₂ (λ t ts. t ∷ ts) (pair_is ns pairs A a same (All-head P a rest has)) (pairs_are ns pairs A rest same (All-tail P a rest has))

-- whether there is a model, by the entry and whether it is still one
pub by_model : (P : Option (List (ℕ × ℕ)) → Option (List Value) → Type 0) (check : TableCheck) (entry : Entry) (fresh : Bool) → P None None
    → ((pairs : List (ℕ × ℕ)) → entry ≡ Sat pairs → fresh ≡ true → P (Some pairs) (Some (listed_assignment check.nodes pairs)))
    → P (cond fresh (pairs_of (Some entry)) None) (cond fresh (assignment_listed check entry) None)
by_model P check entry false none some = none
by_model P check (Sat pairs) true none some = some pairs refl refl
by_model P check UnsatCases true none some = none
by_model P check (UnsatSteps lines) true none some = none
by_model P check (Unknown cause) true none some = none

-- Cores

pub by_core : (P : Bool → Option (List ℕ) → Type 0) (check : TableCheck) (entry : Entry) (fresh : Bool) → P false None
    → (fresh ≡ true → P true (Some (core entry (length (nodes_in_force check)))))
    → P (is_refutation (Some entry) fresh) (cond fresh (core_used check entry) None)
by_core P check (Sat pairs) true none some = none
by_core P check (Sat pairs) false none some = none
by_core P check UnsatCases true none some = some refl
by_core P check UnsatCases false none some = none
by_core P check (UnsatSteps lines) true none some = some refl
by_core P check (UnsatSteps lines) false none some = none
by_core P check (Unknown cause) true none some = none
by_core P check (Unknown cause) false none some = none

-- numbers past the names have none, and so have names that are none
nothing_there : {A : Type 0} (others : List A) (k : ℕ) → name_at (map (λ _. None) others) k ≡ None
nothing_there [] k = refl
nothing_there (a ∷ others) zero = refl
nothing_there (a ∷ others) (suc k) = nothing_there others k

one_without : {A : Type 0} (names : List (Option Name)) (others : List A) (k : ℕ) → name_at (names ++ map (λ _. None) others) k ≡ name_at names k
one_without [] others k = nothing_there others k
one_without (n ∷ ns) others zero = refl
one_without (n ∷ ns) others (suc k) = one_without ns others k

filter_same : {A B : Type 0} (f g : A → Option B) (xs : List A) → ((x : A) → f x ≡ g x) → filter_map f xs ≡ filter_map g xs
filter_same f g [] e = refl
filter_same f g (x ∷ xs) e = ap₂ cons_option (e x) (filter_same f g xs e)

pub names_without : {A : Type 0} (names : List (Option Name)) (others : List A) (numbers : List ℕ) → names_at (names ++ map (λ _. None) others) numbers ≡ names_at names numbers
names_without names others numbers = filter_same (name_at (names ++ map (λ _. None) others)) (name_at names) numbers (one_without names others)

abbrev pub nones : ℕ → List (Option Name)
nones n = replicate n None

pub none_for_each : {A : Type 0} (others : List A) → nones (length others) ≡ map (λ _. None) others
none_for_each [] = refl
none_for_each (a ∷ others) = ap (λ names. None ∷ names) (none_for_each others)
