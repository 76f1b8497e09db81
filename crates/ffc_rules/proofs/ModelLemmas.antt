-- Listed values are those of some assignment: the one that gives the other constants 0 or false.
use Rattle.std.proofs.Common.{◌≡◌, ℕ, zero, suc, ◌+◌, ◌<◌, ltb, false, cond, List, [], ◌∷◌, All, Contains, Option, Some, None, refl, sym, ap, ◌∙◌, subst, arith, slice_get}
use Rattle.std.specs.List.{AllByRecursion}
use Rattle.std.proofs.lemmas.Bool.{ltb-true, lt-ltb, cond_both}
use Rattle.std.proofs.lemmas.List.Elements.{All-nil, All-cons, All-head, All-tail, All-map, All-weaker, All-from_recursion, recursion_from_All}
use Rattle.std.proofs.lemmas.Option.{none-some, same_Some, slice_get_within, get_or_from_slice_get}
use Rattle.ffc_term.specs.declared.node.Node.{Node}
use Rattle.ffc_term.specs.declared.node.Sort.{Sort}
use Rattle.ffc_term.specs.declared.node.Sort.TheVariants as sort
use Rattle.ffc_term.specs.declared.value.Value.{Value}
use Rattle.ffc_term.specs.declared.value.Value.TheVariants as value
use Rattle.ffc_term.specs.Nodes.{node_at}
use Rattle.ffc_term.specs.Tables.{IsTable}
use Rattle.ffc_term.specs.Values.{value_in}
use Rattle.ffc_term.specs.Laws.{IsOfSort}
use Rattle.ffc_term.specs.Measuring.{value_count}
use Rattle.ffc_term.proofs.NodeLemmas.{IsNodeAt-from_Contains}
use Rattle.ffc_term.proofs.ValueLemmas.{IsOrder-positive}
use Rattle.ffc_smt.specs.Terms.{Command, CheckSat, CheckSatAssuming, Constant}
use Rattle.ffc_smt.specs.Making.{constant_node}
use Rattle.ffc_smt.specs.Scopes.{Declared, State, declared_of}
use Rattle.ffc_smt.specs.Scripts.{Check, Step, IsAssignment, after, check_at, check_of, reads}
use Rattle.ffc_smt.specs.States.{IsSoundState}
use Rattle.ffc_smt.specs.TableChecks.{TableCheck, declared_nodes, node_of, nodes_in_force, table_check_of, table_checks}
use Rattle.ffc_smt.specs.CheckLaws.{HasConstantNode, KeepsCheck}
use Rattle.ffc_smt.specs.CommandReading.{limits as script_limits}
use Rattle.ffc_smt.proofs.ScriptLemmas.{scripts_keep_states}
use Rattle.ffc_rules.specs.Assignments.{listed_value, number_of_constant, value_of_constant, value_of_number}
use Rattle.ffc_rules.specs.Laws.{Agrees, AreValues}
use Rattle.ffc_rules.proofs.AssignmentLemmas.{Among, from_each, each_among, node_at-is, value_listed}
use Rattle.ffc_rules.proofs.CaseLemmas.{named_each, pairs_constants, pairs_different}

-- Values of a sort

-- the sort has values
abbrev pub HasValues : Sort → Type 0
HasValues sort.Bool = Unit {0}
HasValues (sort.Field p) = 0 < p

-- the value, or 0 or false where it is not of the sort
abbrev fitted : Sort → Value → Value
fitted sort.Bool (value.Bool b) = value.Bool b
fitted sort.Bool (value.Field n) = value.Bool false
fitted (sort.Field p) (value.Bool b) = value.Field 0
fitted (sort.Field p) (value.Field n) = value.Field (cond (ltb n p) n 0)

fitted_fits : (s : Sort) (v : Value) → HasValues s → IsOfSort s (fitted s v)
fitted_fits sort.Bool (value.Bool b) h = tt
fitted_fits sort.Bool (value.Field n) h = tt
fitted_fits (sort.Field p) (value.Bool b) h = h
fitted_fits (sort.Field p) (value.Field n) h = cond_both (ltb n p) n 0 (λ x. x < p) (λ e. ltb-true n p e) (λ e. h)

fitted_same : (s : Sort) (v : Value) → IsOfSort s v → fitted s v ≡ v
fitted_same sort.Bool (value.Bool b) h = refl
fitted_same sort.Bool (value.Field n) h = absurd h
fitted_same (sort.Field p) (value.Bool b) h = absurd h
fitted_same (sort.Field p) (value.Field n) h = ap (λ b. value.Field (cond b n 0)) (lt-ltb n p h)

-- a value for each constant from a number on
abbrev assigned : (ℕ → Value) → ℕ → List Sort → List Value
assigned f k [] = []
assigned f k (s ∷ ss) = fitted s (f k) ∷ assigned f (k + 1) ss

assigned_fits : (f : ℕ → Value) (k : ℕ) (ss : List Sort) → AllByRecursion HasValues ss → IsAssignment ss (assigned f k ss)
assigned_fits f k [] h = tt
assigned_fits f k (s ∷ ss) h = (fitted_fits s (f k) h.0, assigned_fits f (k + 1) ss h.1)

assigned_at : (f : ℕ → Value) (k i : ℕ) (ss : List Sort) (s : Sort) → slice_get ss i ≡ Some s → value_in (assigned f k ss) i ≡ fitted s (f (k + i))
assigned_at f k i [] s at = absurd (none-some s at)
assigned_at f k zero (t ∷ ss) s at = let e : k ≡ k + 0 = omega arith in ap (λ x. fitted x (f k)) (same_Some t s at) ∙ ap (λ n. fitted s (f n)) e
assigned_at f k (suc i) (t ∷ ss) s at = let e : k + 1 + i ≡ k + suc i = omega arith in assigned_at f (k + 1) i ss s at ∙ ap (λ n. fitted s (f n)) e

constant_number : (k : ℕ) (s : Sort) → number_of_constant (constant_node k s) ≡ k
constant_number k sort.Bool = refl
constant_number k (sort.Field p) = refl

constant_value : (k : ℕ) (s : Sort) (m : ℕ) → m < value_count (constant_node k s) → IsOfSort s (value_of_number (constant_node k s) m)
constant_value k sort.Bool m fits = tt
constant_value k (sort.Field p) m fits = fits

-- The assignment of a check

-- the node is that of a constant in scope
abbrev IsDeclared : TableCheck → ℕ → Type 0
IsDeclared c id = (d : Declared) × HasConstantNode c d × (node_of c.nodes (Constant d.number d.sort) ≡ id)

each_declared : (c : TableCheck) → KeepsCheck c → AllByRecursion (IsDeclared c) (declared_nodes c)
each_declared c keeps =
    recursion_from_All (IsDeclared c) (declared_nodes c)
    (All-map (IsDeclared c) (λ d. node_of c.nodes (Constant d.number d.sort)) c.declared
    (All-weaker (HasConstantNode c) (λ d. IsDeclared c (node_of c.nodes (Constant d.number d.sort))) (λ d has. (d, has, refl)) c.declared keeps.declared))

-- the listed values, and 0 or false for the other constants
abbrev pub completed : TableCheck → List (ℕ × ℕ) → List Value
completed c pairs = assigned (listed_value c.nodes pairs) 0 c.check.constants

pub completed_fits : (c : TableCheck) (pairs : List (ℕ × ℕ)) → AllByRecursion HasValues c.check.constants → IsAssignment c.check.constants (completed c pairs)
completed_fits c pairs h = assigned_fits (listed_value c.nodes pairs) 0 c.check.constants h

module _ (c : TableCheck) (keeps : KeepsCheck c) (pairs : List (ℕ × ℕ)) (are : AreValues c.nodes (declared_nodes c) pairs) where
  gives_at : (p : ℕ × ℕ) → Among p pairs → value_of_constant c.nodes (completed c pairs) p.0 ≡ value_of_number (node_at c.nodes p.0) p.1
  gives_at p has =
      let nodes = declared_nodes c in
      let order = c.check.first_order in
      let (d, there, is) = from_each (λ q. IsDeclared c q.0) pairs p (named_each (IsDeclared c) pairs (subst (AllByRecursion (IsDeclared c)) (sym are.names) (each_declared c keeps))) has in
      let fit = from_each (λ q. q.1 < value_count (node_at c.nodes q.0)) pairs p (recursion_from_All _ pairs are.fit) has in
      let n = node_at c.nodes p.0 in
      let at : n ≡ constant_node d.number d.sort = ap (node_at c.nodes) (sym is) ∙ node_at-is c.nodes _ _ there.at in
      let number : number_of_constant n ≡ d.number = ap number_of_constant at ∙ constant_number d.number d.sort in
      let from_zero : 0 + d.number ≡ number_of_constant n = omega (arith, number) in
      ap (value_in (completed c pairs)) number
      ∙ assigned_at (listed_value c.nodes pairs) 0 d.number c.check.constants d.sort there.counted
      ∙ ap (λ j. fitted d.sort (listed_value c.nodes pairs j)) from_zero
      ∙ ap (fitted d.sort)
      (value_listed c.nodes pairs p keeps.valid.table.well_formed (pairs_constants c.nodes nodes (nodes_in_force c) order keeps.valid pairs are.names)
      (pairs_different c.nodes nodes (nodes_in_force c) order keeps.valid pairs are.names) has)
      ∙ fitted_same d.sort (value_of_number n p.1) (subst (λ m. IsOfSort d.sort (value_of_number m p.1)) (sym at) (constant_value d.number d.sort p.1 (subst (λ m. p.1 < value_count m) at fit)))

  pub completed_agrees : Agrees c.nodes pairs (completed c pairs)
  completed_agrees = All-from_recursion _ pairs (each_among _ pairs gives_at)

-- The constants of a script have sorts with values.

each_sort : (P : Sort → Type 0) (ss : List Sort) → ((k : ℕ) (s : Sort) → slice_get ss k ≡ Some s → P s) → AllByRecursion P ss
each_sort P [] h = tt
each_sort P (s ∷ ss) h = (h 0 s refl, each_sort P ss (λ k t at. h (suc k) t at))

-- the sort of a constant of a table
table_sort : (ns : List Node) (k : ℕ) (s : Sort) → IsTable ns → Contains ns (constant_node k s) → HasValues s
table_sort ns k sort.Bool table has = tt
table_sort ns k (sort.Field p) table has = let at = IsNodeAt-from_Contains ns (constant_node k (sort.Field p)) has in IsOrder-positive p (table.well_formed.fits at.0 (constant_node k (sort.Field p)) at.1)

state_sorts : (s : State) → IsSoundState s → AllByRecursion HasValues s.constants
state_sorts s h = each_sort HasValues s.constants (λ k t at. table_sort s.nodes k t h.nodes.table (h.nodes.declared k t at))

abbrev SortsHaveValues : TableCheck → Type 0
SortsHaveValues c = AllByRecursion HasValues c.check.constants

-- a check sees the constants of the state before it
sees_constants : (x : Step) (k : Check) → check_of x ≡ Some k → k.constants ≡ x.before.constants
sees_constants x k = by_command x.command k
  where
    by_command : (d : Command) → (k : Check) → check_of (record { before = x.before; tree = x.tree; command = d }) ≡ Some k → k.constants ≡ x.before.constants
    by_command CheckSat k e = ap (λ (j : Check). j.constants) (sym (same_Some (check_at x.before []) k e))
    by_command (CheckSatAssuming asked) k e = ap (λ (j : Check). j.constants) (sym (same_Some (check_at x.before asked) k e))
    by_command _ k e = absurd (none-some k e)

step_sorts : (x : Step) (c : TableCheck) → IsSoundState x.before → table_check_of x ≡ Some c → SortsHaveValues c
step_sorts x c h is = by_check (check_of x) refl is
  where
    by_check : (o : Option Check) → check_of x ≡ o → (elim o as (λ _. Option TableCheck) [ None ↦ None | Some k ↦ Some (record { check = k; nodes = (after x.before x.tree x.command).nodes; declared = declared_of x.before }) ]) ≡ Some c → SortsHaveValues c
    by_check None e is = absurd (none-some c is)
    by_check (Some k) e is =
        let same = same_Some (record { check = k; nodes = (after x.before x.tree x.command).nodes; declared = declared_of x.before }) c is in
        subst SortsHaveValues same (subst (AllByRecursion HasValues) (sym (sees_constants x k e)) (state_sorts x.before h))

abbrev IsSoundBefore : Step → Type 0
IsSoundBefore x = IsSoundState x.before × IsSoundState (after x.before x.tree x.command)

all_sorts : (xs : List Step) → All IsSoundBefore xs → All SortsHaveValues (table_checks xs)
all_sorts [] h = All-nil SortsHaveValues
all_sorts (x ∷ xs) h = by_check (table_check_of x) refl (all_sorts xs (All-tail IsSoundBefore x xs h))
  where
    by_check : (o : Option TableCheck) → table_check_of x ≡ o → All SortsHaveValues (table_checks xs) → All SortsHaveValues (elim o [ None ↦ table_checks xs | Some c ↦ c ∷ table_checks xs ])
    by_check None e rest = rest
    by_check (Some c) e rest = All-cons SortsHaveValues c (table_checks xs) (step_sorts x c (All-head IsSoundBefore x xs h).0 e) rest

pub check_sorts : (script : List ℕ) (k : ℕ) (c : TableCheck) → slice_get (table_checks (reads script).steps) k ≡ Some c → AllByRecursion HasValues c.check.constants
check_sorts script k c at =
    subst SortsHaveValues (get_or_from_slice_get (table_checks (reads script).steps) k c c at)
    (all_sorts (reads script).steps (scripts_keep_states script_limits script (omega arith)) k c (slice_get_within (table_checks (reads script).steps) k c at))
