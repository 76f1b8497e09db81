-- Every check of a script is valid, and its nodes are true exactly where its terms are.
use Rattle.std.proofs.Common.{◌≡◌, ℕ, zero, suc, ◌+◌, ◌≤◌, true, List, [], ◌∷◌, ◌++◌, length, map, Some, None, Option, All, Contains, slice_get, refl, sym, ap, ap₂, ◌∙◌, subst, length-append}
use Rattle.std.proofs.lemmas.List.{length-map}
use Rattle.std.proofs.lemmas.List.Elements.{All-cons, All-nil, All-head, All-tail, All-append, All-weaker, All-map, All-contains}
use Rattle.std.proofs.lemmas.Option.{slice_get-map}
use Rattle.std.specs.Option.{option_map}
use Rattle.std.specs.List.Sorted.{IsStrictlyIncreasing}
use Rattle.ffc_field.specs.Orders.{IsOrder}
use Rattle.ffc_field.specs.declared.id.FieldId.TheVariants.{F2}
use Rattle.ffc_term.specs.declared.node.Node.{Node}
use Rattle.ffc_term.specs.declared.node.Sort.{Sort}
use Rattle.ffc_term.specs.declared.node.Sort.TheVariants as sort
use Rattle.ffc_term.specs.declared.value.Value.{Value}
use Rattle.ffc_term.specs.declared.value.Value.TheVariants as value
use Rattle.ffc_term.specs.Nodes.{IsConstantAt}
use Rattle.ffc_term.specs.Values.{value_at}
use Rattle.ffc_term.specs.Tables.{IsTable, IsBooleanAt, most_nodes}
use Rattle.ffc_term.specs.Checks.{IsNodeOf, IsValidCheck}
use Rattle.ffc_term.proofs.NodeLemmas.{IsNodeAt-from_Contains}
use Rattle.ffc_smt.specs.Trees.{Tree}
use Rattle.ffc_smt.specs.Terms.{Name, Term, Constant, Asked, Command, Declare, Define, Assert, CheckSat, CheckSatAssuming, GetValue}
use Rattle.ffc_smt.specs.Meaning.{Env, TruthValue, val}
use Rattle.ffc_smt.specs.Making.{constant_node}
use Rattle.ffc_smt.specs.Scopes.{Meant, AsConstant, AsTerm, AsMacro, State, Declared, scope_of, declared_of, assertions_of}
use Rattle.ffc_smt.specs.Faults.{Sound}
use Rattle.ffc_smt.specs.CommandReading.{Limits, command_read, nodes_after}
use Rattle.ffc_smt.specs.Scripts.{Check, Step, check_at, check_of, in_force, order_or_two, after, reads_within}
use Rattle.ffc_smt.specs.TableChecks.{TableCheck, node_of, declared_nodes, nodes_in_force, table_check_of, table_checks}
use Rattle.ffc_smt.specs.ScriptLaw.{HasNode, nodes_at, KeepsValues}
use Rattle.ffc_smt.specs.States.{IsSoundMeant, IsSoundLevel, IsSoundState}
use Rattle.ffc_smt.specs.ScopedStates.{IsDeclaredIn, SpeaksOf, IsScopedState}
use Rattle.ffc_smt.specs.CheckLaws.{TermsHoldAt, NodesHoldAt, HasConstantNode, KeepsCheck, constants_in, KeepsAsked}
use Rattle.ffc_smt.proofs.ReadLemmas.{IfSound}
use Rattle.ffc_smt.proofs.CommandLemmas.{all_steps}
use Rattle.ffc_smt.proofs.Extends.{Extends, extends_same, node_stays, interned_extends, made_extends}
use Rattle.ffc_smt.proofs.SoundStates.{all_levels, flat_all, constant_counts, asked_extends, first_is_sound, next_is_sound}
use Rattle.ffc_smt.proofs.ScriptLemmas.{HasNodeOf, true_there, true_term, keeps_values}
use Rattle.ffc_smt.proofs.ConstantLemmas.{constants_weaker}
use Rattle.ffc_smt.proofs.ConeLemmas.{cone_root, IsCovered, IsListed, made_covered}
use Rattle.ffc_smt.proofs.DeclaredLemmas.{contains_from_get, contains_map, declared_has, IfConstant, declared_all, HasItsNode, node_there, has_its_node, declared_rises}
use Rattle.ffc_smt.proofs.ScopeStates.{Speaks, command_speaks, scoped_assertions, first_is_scoped, next_is_scoped}

-- What holds at one step

module _ (s : State) (h : IsSoundState s) (g : IsScopedState s) (ns : List Node) (table : IsTable ns) (further : Extends s.nodes ns) where
  abbrev Names : Env Meant
  Names = (scope_of s).names

  names_sound : All (λ x. IsSoundMeant s.constants s.nodes x.1) Names
  names_sound =
      let P = λ (x : Name × Meant). IsSoundMeant s.constants s.nodes x.1 in
      flat_all (λ l. l.names) P (s.levels ++ s.base ∷ []) (All-weaker (IsSoundLevel s.constants s.nodes) (λ l. All P l.names) (λ l k. k.names) (s.levels ++ s.base ∷ []) (all_levels s h))

  abbrev IsFoundConstant : Declared → Type 0
  IsFoundConstant d = HasItsNode ns table.well_formed d × (slice_get s.constants d.number ≡ Some d.sort)

  constant_found : (x : Name × Meant) → IsSoundMeant s.constants s.nodes x.1 → IfConstant IsFoundConstant x
  constant_found (name, AsConstant k u) e =
      let there = IsNodeAt-from_Contains s.nodes (constant_node k u) (h.nodes.declared k u e) in
      (has_its_node ns table.well_formed (record { name = name; number = k; sort = u }) there.0 (node_stays s.nodes ns there.0 (constant_node k u) further there.1), e)
  constant_found (name, AsTerm u t) e = tt
  constant_found (name, AsMacro ps u t) e = tt

  all_found : All (IfConstant IsFoundConstant) Names
  all_found = All-weaker (λ x. IsSoundMeant s.constants s.nodes x.1) (IfConstant IsFoundConstant) constant_found Names names_sound

  only_node : (x : Name × Meant) → IfConstant IsFoundConstant x → IfConstant (HasItsNode ns table.well_formed) x
  only_node (name, AsConstant k u) e = e.0
  only_node (name, AsTerm u t) e = tt
  only_node (name, AsMacro ps u t) e = tt

  abbrev Constants : List ℕ
  Constants = constants_in ns s

  rises : IsStrictlyIncreasing Constants
  rises = declared_rises ns table.well_formed (length s.constants) Names g.numbered (All-weaker (IfConstant IsFoundConstant) (IfConstant (HasItsNode ns table.well_formed)) only_node Names all_found)

  declared_found : All IsFoundConstant (declared_of s)
  declared_found = declared_all IsFoundConstant Names all_found

  are_constants : All (IsConstantAt ns) Constants
  are_constants =
      All-map (IsConstantAt ns) (λ d. node_of ns (Constant d.number d.sort)) (declared_of s)
      (All-weaker IsFoundConstant (λ d. IsConstantAt ns (node_of ns (Constant d.number d.sort))) (λ d k. (constant_node d.number d.sort, k.0, constant_counts d.number d.sort)) (declared_of s) declared_found)

  listed_here : (k : ℕ) (u : Sort) → IsDeclaredIn Names k u → IsListed ns Constants k u
  listed_here k u d id at =
      subst (Contains Constants) (node_there ns table.well_formed k u id at)
      (contains_map (λ e. node_of ns (Constant e.number e.sort)) (declared_of s) (record { name = d.0; number = k; sort = u }) (declared_has Names d.0 k u d.1))

  -- the cone of a term's node
  term_covered : (t : Term) → SpeaksOf Names t → HasNode ns t → IsCovered ns Constants (node_of ns t)
  term_covered t speaks has =
      made_covered ns Constants t [] ns (constants_weaker (IsDeclaredIn Names) (IsListed ns Constants) listed_here t speaks) tt (subst (λ ms. Extends ms ns) (sym has.there) (extends_same ns))

  covered_by : (ids : List ℕ) → All (IsCovered ns Constants) ids → (id : ℕ) → IsNodeOf ns ids id → IsConstantAt ns id → Contains Constants id
  covered_by ids all id of constant = let r = cone_root ns ids id of in All-contains (IsCovered ns Constants) ids r.0 all r.1 id r.2 constant

  all_covered : {A : Type 0} (term : A → Term) (xs : List A) → All (λ x. SpeaksOf Names (term x)) xs → All (λ x. HasNode ns (term x)) xs → All (IsCovered ns Constants) (map (λ x. node_of ns (term x)) xs)
  all_covered term xs speak has = All-map (IsCovered ns Constants) (λ x. node_of ns (term x)) xs (λ k d inside. term_covered _ (speak k d inside) (has k d inside))

-- numbers of terms and of nodes

at_map : {A B : Type 0} (f : A → B) (xs : List A) (k : ℕ) (y : B) → slice_get (map f xs) k ≡ Some y → (x : A) × (slice_get xs k ≡ Some x) × (f x ≡ y)
at_map f [] k y e = cc
at_map f (x ∷ xs) zero y e = (x, refl, cc)
at_map f (x ∷ xs) (suc k) y e = at_map f xs k y e

module _ (c : TableCheck) (each : (A : List Value) (t : Term) (k : ℕ) → slice_get (in_force c.check) k ≡ Some t → (val [] A t ≡ TruthValue true → value_at c.nodes A (node_of c.nodes t) ≡ value.Bool true) × (value_at c.nodes A (node_of c.nodes t) ≡ value.Bool true → val [] A t ≡ TruthValue true)) where
  terms_to_nodes : (numbers : List ℕ) (A : List Value) → TermsHoldAt c numbers A → NodesHoldAt c numbers A
  terms_to_nodes numbers A holds k d inside id at =
      let t = at_map (node_of c.nodes) (in_force c.check) _ id at in
      subst (λ i. value_at c.nodes A i ≡ value.Bool true) t.2 ((each A t.0 _ t.1).0 (holds k d inside t.0 t.1))

  nodes_to_terms : (numbers : List ℕ) (A : List Value) → NodesHoldAt c numbers A → TermsHoldAt c numbers A
  nodes_to_terms numbers A holds k d inside t at =
      (each A t _ at).1 (holds k d inside (node_of c.nodes t) (slice_get-map (node_of c.nodes) (in_force c.check) _ ∙ ap (λ o. option_map (node_of c.nodes) o) at))

from_map : {A B : Type 0} (P : B → Type 0) (f : A → B) (xs : List A) → All P (map f xs) → All (λ x. P (f x)) xs
from_map P f [] h = All-nil (λ x. P (f x))
from_map P f (x ∷ xs) h = All-cons (λ y. P (f y)) x xs (All-head P (f x) (map f xs) h) (from_map P f xs (All-tail P (f x) (map f xs) h))

first_order_good : (o : Option ℕ) → ((p : ℕ) → o ≡ Some p → IsOrder p) → IsOrder (order_or_two o)
first_order_good None h = (F2, refl)
first_order_good (Some p) h = h p refl

names_as_long : {A B C : Type 0} (one : List A) (two : List B) (f : A → C) (g : B → C) (v : A → Term) (w : B → Term) → length (map f one ++ map g two) ≡ length (map v one ++ map w two)
names_as_long one two f g v w =
    length-append (map f one) (map g two) ∙ ap₂ (λ a b. a + b) (length-map one f ∙ sym (length-map one v)) (length-map two g ∙ sym (length-map two w)) ∙ sym (length-append (map v one) (map w two))

nodes_extend : (s : State) (c : Command) → Extends s.nodes (nodes_after s c)
unfolding nodes_after
nodes_extend s (Declare name t) = interned_extends s.nodes (constant_node (length s.constants) t)
nodes_extend s (Define name [] u t) = made_extends t [] s.nodes
nodes_extend s (Assert label t) = made_extends t [] s.nodes
nodes_extend s (CheckSatAssuming asked) = asked_extends asked s.nodes
nodes_extend s (GetValue asked) = asked_extends asked s.nodes
nodes_extend s _ = extends_same s.nodes

-- The check of a state and of its assumptions

module _ (s : State) (h : IsSoundState s) (g : IsScopedState s) (ns : List Node) (table : IsTable ns) (further : Extends s.nodes ns) (asked : List Asked) where
  abbrev Now : TableCheck
  Now = record { check = check_at s asked; nodes = ns; declared = declared_of s }

  abbrev Terms : List Term
  Terms = in_force (check_at s asked)

  terms_speak : All (λ a. SpeaksOf (scope_of s).names a.term) asked → All (SpeaksOf (scope_of s).names) Terms
  terms_speak speaks =
      let P = SpeaksOf (scope_of s).names in
      All-append P (map (λ a. a.term) (assertions_of s)) (map (λ a. a.term) asked) (All-map P (λ a. a.term) (assertions_of s) (scoped_assertions s g.scoped)) (All-map P (λ a. a.term) asked speaks)

  now_valid : All (λ a. SpeaksOf (scope_of s).names a.term) asked → All (λ t. HasNodeOf ns t sort.Bool) Terms → IsValidCheck ns (declared_nodes Now) (nodes_in_force Now) (order_or_two s.first_order)
  now_valid speaks checked = record {
    table = table;
    order = first_order_good s.first_order g.order;
    increasing = rises s h g ns table further;
    constants = are_constants s h g ns table further;
    boolean = All-map (IsBooleanAt ns) (node_of ns) Terms (All-weaker (λ t. HasNodeOf ns t sort.Bool) (λ t. IsBooleanAt ns (node_of ns t)) (λ t k. ((k.0.means []).within, k.1)) Terms checked);
    covered =
        covered_by s h g ns table further (nodes_in_force Now)
        (all_covered s h g ns table further (λ t. t) Terms (terms_speak speaks) (All-weaker (λ t. HasNodeOf ns t sort.Bool) (HasNode ns) (λ t k. k.0) Terms checked));
  }

  now_keeps : All (λ a. SpeaksOf (scope_of s).names a.term) asked → All (λ t. HasNodeOf ns t sort.Bool) Terms → KeepsCheck Now
  now_keeps speaks checked =
      let at = λ (t : Term) (k : ℕ) (e : slice_get Terms k ≡ Some t). All-contains (λ u. HasNodeOf ns u sort.Bool) Terms t checked (contains_from_get Terms k t e) in
      let each : (A : List Value) (t : Term) (k : ℕ) → slice_get Terms k ≡ Some t → (val [] A t ≡ TruthValue true → value_at ns A (node_of ns t) ≡ value.Bool true) × (value_at ns A (node_of ns t) ≡ value.Bool true → val [] A t ≡ TruthValue true) =
      λ A t k e. ((λ v. true_there ns t A (at t k e) v), (λ v. true_term ns t A (at t k e) v)) in
      record {
        valid = now_valid speaks checked;
        each = All-weaker (λ t. HasNodeOf ns t sort.Bool) (HasNode ns) (λ t k. k.0) Terms checked;
        declared = All-weaker (IsFoundConstant s h g ns table further) (HasConstantNode Now) (λ d k. record { at = k.0; counted = k.1 }) (declared_of s) (declared_found s h g ns table further);
        holds = λ A. (
          (λ holds. (holds.0, All-map (λ id. value_at ns A id ≡ value.Bool true) (node_of ns) Terms (λ i d inside. true_there ns _ A (checked i d inside) (holds.1 i d inside)))),
          (λ true_nodes.
              let nodes = from_map (λ id. value_at ns A id ≡ value.Bool true) (node_of ns) Terms true_nodes.1 in
              (true_nodes.0, λ i d inside. true_term ns _ A (checked i d inside) (nodes i d inside))),
        );
        some = λ numbers A. ((λ v. terms_to_nodes Now each numbers A v), (λ v. nodes_to_terms Now each numbers A v));
        core = λ numbers none A assigned holds. none A assigned (terms_to_nodes Now each numbers A holds);
        nodes_long = length-map Terms (node_of ns);
        names_long = names_as_long (assertions_of s) asked (λ a. a.label) (λ a. None) (λ a. a.term) (λ a. a.term);
      }

-- Steps

module _ (l : Limits) (s : State) (tree : Tree) (d : Command) (small : l.nodes ≤ most_nodes) (h : IsSoundState s) (g : IsScopedState s) (e : command_read l s tree ≡ Sound d) where
  abbrev Here : Step
  Here = record { before = s; tree = tree; command = d }

  speaks : Speaks l s g d
  speaks = subst (λ r. IfSound r (Speaks l s g)) e (command_speaks l s g tree)

  values : KeepsValues Here
  values = keeps_values l s tree d small h e

  there : Extends s.nodes (nodes_at Here)
  unfolding after
  there = nodes_extend s d

  shape : (k : Check) → check_of Here ≡ Some k → (asked : List Asked) × (check_at s asked ≡ k) × All (λ a. SpeaksOf (scope_of s).names a.term) asked
  shape k = by_command d speaks k
    where
      by_command : (d : Command) → Speaks l s g d → (k : Check) → check_of (record { before = s; tree = tree; command = d }) ≡ Some k → (asked : List Asked) × (check_at s asked ≡ k) × All (λ a. SpeaksOf (scope_of s).names a.term) asked
      by_command CheckSat h k e = ([], cc, All-nil (λ a. SpeaksOf (scope_of s).names a.term))
      by_command (CheckSatAssuming asked) h k e = (asked, cc, h)
      by_command _ h k e = cc

  check_keeps : (k : Check) → check_of Here ≡ Some k → KeepsCheck (record { check = k; nodes = nodes_at Here; declared = declared_of s })
  check_keeps k is =
      let at = shape k is in
      let ns = nodes_at Here in
      subst (λ j. KeepsCheck (record { check = j; nodes = nodes_at Here; declared = declared_of s })) at.1
      (now_keeps s h g ns values.table there at.0 at.2 (subst (λ j. All (λ t. HasNodeOf ns t sort.Bool) (in_force j)) (sym at.1) (values.checked k is)))

  pub step_keeps_check : (c : TableCheck) → table_check_of Here ≡ Some c → KeepsCheck c
  step_keeps_check c is = by_check (check_of Here) refl is
    where
      by_check : (o : Option Check) → check_of Here ≡ o → (elim o [ None ↦ None | Some k ↦ Some (record { check = k; nodes = nodes_at Here; declared = declared_of s }) ]) ≡ Some c → KeepsCheck c
      by_check None e is = cc
      by_check (Some k) e is =
          let same : record { check = k; nodes = nodes_at Here; declared = declared_of s } ≡ c = cc in
          subst KeepsCheck same (check_keeps k e)

  pub step_keeps_asked : KeepsAsked Here
  step_keeps_asked asked is =
      let ns = nodes_at Here in
      let P : Asked → Type 0 = λ a. SpeaksOf (scope_of s).names a.term in
      let speak : All (λ a. (u : Sort) × P a) asked = subst (Speaks l s g) is speaks in
      covered_by s h g ns values.table there (map (λ a. node_of ns a.term) asked)
      (all_covered s h g ns values.table there (λ a. a.term) asked (All-weaker (λ a. (u : Sort) × P a) P (λ a k. k.1) asked speak) (values.asked asked is))

-- Scripts

abbrev BothKept : State → Type 0
BothKept s = IsSoundState s × IsScopedState s

abbrev StepKeeps : Step → Type 0
StepKeeps x = ((c : TableCheck) → table_check_of x ≡ Some c → KeepsCheck c) × KeepsAsked x

checks_kept : (xs : List Step) → All StepKeeps xs → All KeepsCheck (table_checks xs)
checks_kept [] h = All-nil KeepsCheck
checks_kept (x ∷ xs) h = by_check (table_check_of x) refl (checks_kept xs (All-tail StepKeeps x xs h))
  where
    by_check : (o : Option TableCheck) → table_check_of x ≡ o → All KeepsCheck (table_checks xs) → All KeepsCheck (elim o [ None ↦ table_checks xs | Some c ↦ c ∷ table_checks xs ])
    by_check None e rest = rest
    by_check (Some c) e rest = All-cons KeepsCheck c (table_checks xs) ((All-head StepKeeps x xs h).0 c e) rest

all_keep : (l : Limits) (text : List ℕ) → l.nodes ≤ most_nodes → All StepKeeps (reads_within l text).steps
all_keep l text small =
    all_steps l BothKept StepKeeps
    (λ s t c h e. ((next_is_sound l s t c small h.0 e, next_is_scoped l s h.1 t c e), (step_keeps_check l s t c small h.0 h.1 e, step_keeps_asked l s t c small h.0 h.1 e))) text (first_is_sound, first_is_scoped)

pub scripts_keep_checks : (l : Limits) (text : List ℕ) → l.nodes ≤ most_nodes → All StepKeeps (reads_within l text).steps × All KeepsCheck (table_checks (reads_within l text).steps)
scripts_keep_checks l text small = let all = all_keep l text small in (all, checks_kept (reads_within l text).steps all)
