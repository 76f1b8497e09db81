-- Every context is sound, its check is valid, and the terms of each command have their nodes.
use Rattle.std.proofs.Common.{◌≡◌, ℕ, ◌<◌, ◌≤◌, true, if◌then◌else◌, List, [], ◌∷◌, ◌++◌, length, map, fold, codes, All, Contains, Option, Some, None, Ok, refl, sym, ap, ◌∙◌, subst, arith}
use Rattle.std.specs.List.Sorted.{IsStrictlyIncreasing}
use Rattle.std.proofs.lemmas.Bool.{le-ltb}
use Rattle.std.proofs.lemmas.List.{map-append}
use Rattle.std.proofs.lemmas.List.Elements.{All-cons, All-nil, All-head, All-tail, All-map, All-weaker, Contains-append_right}
use Rattle.std.proofs.lemmas.Option.{slice_get_within}
use Rattle.ffc_lex.specs.declared.tokens.TokenKind.{TokenKind}
use Rattle.ffc_lex.specs.declared.tokens.TokenKind.TheVariants.{LeftParen, RightParen, Symbol}
use Rattle.ffc_term.specs.declared.node.Sort.TheVariants as sort
use Rattle.ffc_term.specs.Nodes.{sort_at}
use Rattle.ffc_term.specs.Tables.{IsBooleanAt, most_nodes}
use Rattle.ffc_term.specs.Checks.IsNodeOf.{listed}
use Rattle.ffc_smt.specs.Trees.{Word, Tree, Leaf, Group, Empty, First, front, items_of, tree_of}
use Rattle.ffc_smt.specs.Terms.{Term, Constant}
use Rattle.ffc_smt.specs.Terms as smt
use Rattle.ffc_smt.specs.Making.{made}
use Rattle.ffc_smt.specs.Faults.{Read, Sound, Faulty, faulty}
use Rattle.ffc_smt.specs.Scopes.{State, first_state, declared_of, assertions_of}
use Rattle.ffc_smt.specs.CommandReading.{limits, form_read, command_read, command_weight, nodes_after}
use Rattle.ffc_smt.specs.Scripts.{after, check_at, first_named, named_orders, order_or_two}
use Rattle.ffc_smt.specs.TableChecks.{node_of, declared_nodes, nodes_in_force, table_check_of}
use Rattle.ffc_smt.specs.ScriptLaw.{HasNode, nodes_at}
use Rattle.ffc_smt.specs.States.{IsSoundState}
use Rattle.ffc_smt.specs.ScopedStates.{IsScopedState}
use Rattle.ffc_smt.specs.CheckLaws.{HasConstantNode, KeepsCheck}
use Rattle.ffc_smt.proofs.SoundStates.{first_is_sound, next_is_sound}
use Rattle.ffc_smt.proofs.ScopeStates.{first_is_scoped, next_is_scoped}
use Rattle.ffc_smt.proofs.ScriptLemmas.{keeps_values}
use Rattle.ffc_smt.proofs.StepLemmas.{steps_keep_values}
use Rattle.ffc_smt.proofs.CheckLemmas.{step_keeps_asked, step_keeps_check}
use Rattle.ffc_smt.proofs.ConeLemmas.{cone_root, cone_through}
use Rattle.ffc_elab.specs.declared.answers.Asked.{Asked}
use Rattle.ffc_elab.specs.declared.answers.Effect.{Effect}
use Rattle.ffc_elab.specs.declared.answers.Command.{Command}
use Rattle.ffc_elab.specs.declared.answers.Command.TheVariants as command
use Rattle.ffc_elab.specs.Histories.{Known, first_known, known_by, known_as, known_with, known_after, known_of, state_of, check_now}
use Rattle.ffc_elab.specs.Answers.{asked_as, declared_as, IsQuiet, Says, ChecksUnder, AsksFor, IsAnswered, TakesAs}
use Rattle.ffc_elab.specs.Contexts.{IsSoundContext, AreInScope, asked_in, asked_nodes, terms_of}
use Rattle.ffc_elab.specs.Kept.{IsKnown}
use Rattle.ffc_elab.specs.Changes.{in_state}
use Rattle.ffc_elab.proofs.HistoryLemmas.{first_is_known, next_is_known}
use Rattle.ffc_elab.proofs.LevelLemmas.{map_twice}

-- Lists

one : {A : Type 0} (P : A → Type 0) (x : A) → P x → All P (x ∷ [])
one P x h = All-cons P x [] h (All-nil P)

pub from_map : {A B : Type 0} (P : B → Type 0) (f : A → B) (xs : List A) → All P (map f xs) → All (λ x. P (f x)) xs
from_map P f [] h = All-nil (λ x. P (f x))
from_map P f (x ∷ xs) h = All-cons (λ y. P (f y)) x xs (All-head P (f x) (map f xs) h) (from_map P f xs (All-tail P (f x) (map f xs) h))

back_of : {A : Type 0} (P : A → Type 0) (xs ys : List A) → All P (xs ++ ys) → All P ys
back_of P [] ys h = h
back_of P (x ∷ xs) ys h = back_of P xs ys (All-tail P x (xs ++ ys) h)

-- The check of a state without assumptions is that of a `check-sat`, which may come where the logic is set.

abbrev word : TokenKind → List ℕ → Word
word kind bytes = record { kind = kind; bytes = bytes; line = 1; column = 1 }

abbrev check_form : Tree
check_form = Group (word LeftParen (codes "(")) (First (Leaf (word Symbol (codes "check-sat"))) Empty) (word RightParen (codes ")"))

abbrev with_logic : State → State
with_logic s = record s { logic = true }

check_is_read : (s : State) → length s.nodes ≤ most_nodes → command_read limits (with_logic s) check_form ≡ Sound smt.CheckSat
unfolding command_read form_read nodes_after command_weight items_of
check_is_read s room = ap (λ b. if b then faulty 15 (front check_form) else Sound smt.CheckSat) (le-ltb limits.nodes (length s.nodes) room)

module _ (s : State) (h : IsSoundState s) (g : IsScopedState s) where
  sound_then : IsSoundState (with_logic s)
  sound_then = record { nodes = h.nodes; levels = h.levels; base = h.base }

  scoped_then : IsScopedState (with_logic s)
  scoped_then = record { early = λ e. cc; global = g.global; numbered = g.numbered; scoped = g.scoped; order = g.order }

  check_then : table_check_of (record { before = with_logic s; tree = check_form; command = smt.CheckSat }) ≡ Some (check_now (in_state s))
  unfolding after nodes_after
  check_then = refl

  plain_check_keeps : KeepsCheck (check_now (in_state s))
  plain_check_keeps =
      step_keeps_check limits (with_logic s) check_form smt.CheckSat (omega arith) sound_then scoped_then (check_is_read s h.nodes.table.well_formed.within)
      (check_now (in_state s)) check_then

-- The check after a command

pub order_stays : (o : Option ℕ) → first_named o [] ≡ o
order_stays None = refl
order_stays (Some p) = refl

-- after a check under assumptions it is that check
pub assuming_same : (k : Known) (t : Tree) (asked : List smt.Asked) → table_check_of (record { before = k.state; tree = t; command = smt.CheckSatAssuming asked }) ≡ Some (check_now (known_by k t (smt.CheckSatAssuming asked)))
unfolding after named_orders
assuming_same k t asked =
    ap (λ o. Some (record {
      check = record { constants = k.state.constants; assertions = assertions_of k.state; assumptions = asked; first_order = order_or_two o };
      nodes = nodes_after k.state (smt.CheckSatAssuming asked);
      declared = declared_of k.state;
    })) (sym (order_stays k.state.first_order))

next_check_keeps : (k : Known) (t : Tree) (c : smt.Command) → command_read limits k.state t ≡ Sound c → IsKnown k → KeepsCheck (check_now (known_by k t c))
next_check_keeps k t (smt.CheckSatAssuming asked) e h =
    step_keeps_check limits k.state t (smt.CheckSatAssuming asked) (omega arith) h.sound h.scoped e (check_now (known_by k t (smt.CheckSatAssuming asked))) (assuming_same k t asked)
next_check_keeps k t c e h = plain_check_keeps (after k.state t c) (next_is_sound limits k.state t c (omega arith) h.sound e) (next_is_scoped limits k.state h.scoped t c e)

-- Whatever forms were taken

abbrev IsChecked : Known → Type 0
IsChecked k = IsKnown k × KeepsCheck (check_now k)

checked_as : (k : Known) (t : Tree) (r : Read smt.Command) → command_read limits k.state t ≡ r → IsChecked k → IsChecked (known_as k t r)
checked_as k t (Sound c) e h = (next_is_known k t c e h.0, next_check_keeps k t c e h.0)
checked_as k t (Faulty f fs) e h = h

checked_with : (k : Known) (o : Option Tree) → IsChecked k → IsChecked (known_with k o)
checked_with k None h = h
checked_with k (Some t) h = checked_as k t (command_read limits k.state t) refl h

checked_after : (k : Known) (form : List Word) → IsChecked k → IsChecked (known_after k form)
unfolding known_after
checked_after k form h = checked_with k (tree_of form) h

checked_further : (k : Known) (forms : List (List Word)) → IsChecked k → IsChecked (fold known_after k forms)
checked_further k [] h = h
checked_further k (form ∷ forms) h = checked_further (known_after k form) forms (checked_after k form h)

checked_always : (forms : List (List Word)) → IsChecked (known_of forms)
unfolding known_of
checked_always forms = checked_further first_known forms (first_is_known, plain_check_keeps first_state first_is_sound first_is_scoped)

pub history_is_known : (forms : List (List Word)) → IsKnown (known_of forms)
history_is_known forms = (checked_always forms).0

pub context_is_sound : (forms : List (List Word)) → IsSoundContext forms
context_is_sound forms = let h = checked_always forms in record { state = h.0.sound; check = h.1 }

-- What is active and declared is in scope

in_force_of : (k : Known) → KeepsCheck (check_now k) → AreInScope k (nodes_in_force (check_now k))
in_force_of k h = record {
  within = All-weaker (IsBooleanAt k.state.nodes) (λ id. id < length k.state.nodes) (λ id b. b.0) (nodes_in_force (check_now k)) h.valid.boolean;
  covered = h.valid.covered;
}

pub in_force_in_scope : (forms : List (List Word)) → AreInScope (known_of forms) (nodes_in_force (check_now (known_of forms)))
in_force_in_scope forms = in_force_of (known_of forms) (context_is_sound forms).check

pub declared_increase : (forms : List (List Word)) → IsStrictlyIncreasing (declared_nodes (check_now (known_of forms)))
declared_increase forms = (context_is_sound forms).check.valid.increasing

pub declared_within : (forms : List (List Word)) → All (λ d. d.node < length (state_of forms).nodes) (map (declared_as (state_of forms).nodes) (declared_of (state_of forms)))
declared_within forms =
    let s = state_of forms in
    All-map (λ (d : _). d.node < length s.nodes) (declared_as s.nodes) (declared_of s)
    (All-weaker (HasConstantNode (check_now (known_of forms))) (λ d. node_of s.nodes (Constant d.number d.sort) < length s.nodes) (λ d h. slice_get_within s.nodes _ _ h.at) (declared_of s) (context_is_sound forms).check.declared)

-- The terms of a command have nodes

pub terms_have_nodes : (s : State) (t : Tree) (c : smt.Command) → IsSoundState s → command_read limits s t ≡ Sound c → All (HasNode (after s t c).nodes) (terms_of c)
terms_have_nodes s t (smt.Define name [] u b) h e =
    let c = smt.Define name [] u b in
    one (HasNode (after s t c).nodes) b ((steps_keep_values limits s t c (omega arith) h e).2.defined name u b refl).has
terms_have_nodes s t (smt.Assert label b) h e =
    let c = smt.Assert label b in
    one (HasNode (after s t c).nodes) b ((steps_keep_values limits s t c (omega arith) h e).2.asserted label b refl).has
terms_have_nodes s t (smt.CheckSatAssuming asked) h e =
    let c = smt.CheckSatAssuming asked in
    let ns = (after s t c).nodes in
    let P : Term → Type 0 = λ u. HasNode ns u × (sort_at ns (made [] ns u).id ≡ sort.Bool) in
    All-weaker P (HasNode ns) (λ u h. h.0) (map (λ a. a.term) asked)
    (back_of P (map (λ a. a.term) (assertions_of s)) (map (λ a. a.term) asked) ((keeps_values limits s t c (omega arith) h e).checked (check_at s asked) refl))
terms_have_nodes s t (smt.GetValue asked) h e =
    let c = smt.GetValue asked in
    All-map (HasNode (after s t c).nodes) (λ (a : smt.Asked). a.term) asked ((keeps_values limits s t c (omega arith) h e).asked asked refl)
terms_have_nodes s t c h e = All-nil (HasNode (after s t c).nodes)

-- What is asked for is in scope

none_in_scope : (k : Known) → AreInScope k []
none_in_scope k = record {
  within = All-nil (λ id. id < length k.state.nodes);
  covered = λ id of constant. absurd (of_none (cone_root k.state.nodes [] id of).1);
}
  where
    of_none : {x : ℕ} → Contains [] x → ⊥
    of_none (i, inside, e) = absurd (omega arith)

back_in_scope : (k : Known) (xs ys : List ℕ) → AreInScope k (xs ++ ys) → AreInScope k ys
back_in_scope k xs ys h = record {
  within = back_of (λ id. id < length k.state.nodes) xs ys h.within;
  covered = λ id of constant.
      let r = cone_root k.state.nodes ys id of in
      h.covered id (cone_through k.state.nodes (xs ++ ys) r.0 (listed (Contains-append_right xs ys r.0 r.1)) id r.2) constant;
}

assumed_in_scope : (s : State) (asked : List smt.Asked) → KeepsCheck (check_now (record { state = s; assumptions = asked })) → AreInScope (record { state = s; assumptions = asked }) (map (λ a. node_of s.nodes a.term) asked)
assumed_in_scope s asked h =
    let now : Known = record { state = s; assumptions = asked } in
    let node = node_of s.nodes in
    let before = map (λ a. a.term) (assertions_of s) in
    back_in_scope now (map node before) (map (λ a. node a.term) asked)
    (subst (AreInScope now) (map-append node before (map (λ a. a.term) asked) ∙ ap (λ ids. map node before ++ ids) (map_twice node (λ (a : smt.Asked). a.term) asked)) (in_force_of now h))

module _ (k : Known) (t : Tree) (known : IsKnown k) where
  values_in_scope : (asked : List smt.Asked) → command_read limits k.state t ≡ Sound (smt.GetValue asked)
      → AreInScope (known_by k t (smt.GetValue asked)) (map (λ a. node_of (after k.state t (smt.GetValue asked)).nodes a.term) asked)
  unfolding after
  values_in_scope asked e =
      let c = smt.GetValue asked in
      let ns = nodes_at (record { before = k.state; tree = t; command = c }) in
      record {
        within =
            All-map (λ id. id < length ns) (λ a. node_of ns a.term) asked
            (All-weaker (λ a. HasNode ns a.term) (λ a. node_of ns a.term < length ns) (λ a has. (has.means []).within) asked ((keeps_values limits k.state t c (omega arith) known.sound e).asked asked refl));
        covered = step_keeps_asked limits k.state t c (omega arith) known.sound known.scoped e asked refl;
      }

-- the terms that a command asks for, as it was read
abbrev asked_of : smt.Command → List smt.Asked
asked_of (smt.CheckSatAssuming asked) = asked
asked_of (smt.GetValue asked) = asked
asked_of _ = []

asked_of_in_scope : (k : Known) (t : Tree) (c : smt.Command) → command_read limits k.state t ≡ Sound c → IsKnown k → AreInScope (known_by k t c) (map (λ a. node_of (after k.state t c).nodes a.term) (asked_of c))
asked_of_in_scope k t (smt.CheckSatAssuming asked) e h =
    assumed_in_scope (after k.state t (smt.CheckSatAssuming asked)) asked (next_check_keeps k t (smt.CheckSatAssuming asked) e h)
asked_of_in_scope k t (smt.GetValue asked) e h = values_in_scope k t h asked e
asked_of_in_scope k t c e h = none_in_scope (known_by k t c)

-- the same as the answer has them

quiet_asks : (f : Effect) (r : Command) → IsQuiet f r → asked_in r ≡ []
quiet_asks f (command.Quiet g) h = refl
quiet_asks f _ h = absurd h

saying_asks : (text : List ℕ) (r : Command) → Says text r → asked_in r ≡ []
saying_asks text (command.Say t) h = refl
saying_asks text _ h = absurd h

check_asks : (asked : List Asked) (r : Command) → ChecksUnder asked r → asked_in r ≡ asked
check_asks asked (command.CheckAssuming terms) h = h
check_asks asked _ h = absurd h

values_ask : (asked : List Asked) (r : Command) → AsksFor asked r → asked_in r ≡ asked
values_ask asked (command.GetValue terms) h = h
values_ask asked _ h = absurd h

answer_asks : (s : State) (c : smt.Command) (r : Command) → IsAnswered s c r → asked_in r ≡ map (asked_as s.nodes) (asked_of c)
answer_asks s (smt.GetOption o) r h = saying_asks _ r h
answer_asks s (smt.GetInfo smt.SolverName) r h = saying_asks _ r h
answer_asks s (smt.GetInfo smt.Version) r h = saying_asks _ r h
answer_asks s (smt.GetInfo smt.AssertionStackLevels) r h = saying_asks _ r h
answer_asks s (smt.GetInfo smt.ReasonUnknown) r h = ap asked_in h
answer_asks s smt.Unsupported r h = ap asked_in h
answer_asks s (smt.Echo bytes) r h = saying_asks bytes r h
answer_asks s smt.CheckSat r h = ap asked_in h
answer_asks s (smt.CheckSatAssuming asked) r h = check_asks _ r h
answer_asks s smt.GetModel r h = ap asked_in h
answer_asks s (smt.GetValue asked) r h = values_ask _ r h
answer_asks s smt.GetUnsatCore r h = ap asked_in h
answer_asks s smt.GetUnsatAssumptions r h = ap asked_in h
answer_asks s smt.Exit r h = ap asked_in h
answer_asks s c r h = quiet_asks _ r h

answer_asks_nodes : (s : State) (c : smt.Command) (r : Command) → IsAnswered s c r → asked_nodes r ≡ map (λ a. node_of s.nodes a.term) (asked_of c)
answer_asks_nodes s c r answered = ap (map (λ (a : Asked). a.node)) (answer_asks s c r answered) ∙ map_twice (λ (a : Asked). a.node) (asked_as s.nodes) (asked_of c)

asked_terms : (P : Term → Type 0) (c : smt.Command) → All P (terms_of c) → All (λ a. P a.term) (asked_of c)
asked_terms P (smt.CheckSatAssuming asked) h = from_map P (λ (a : smt.Asked). a.term) asked h
asked_terms P (smt.GetValue asked) h = from_map P (λ (a : smt.Asked). a.term) asked h
asked_terms P c h = All-nil (λ (a : smt.Asked). P a.term)

-- where the terms of a command have nodes, what is asked for is in the table
pub asked_have_nodes : (s : State) (c : smt.Command) (r : Command) → IsAnswered s c r → All (HasNode s.nodes) (terms_of c) → All (λ id. id < length s.nodes) (asked_nodes r)
asked_have_nodes s c r answered has =
    let In : ℕ → Type 0 = λ id. id < length s.nodes in
    subst (All In) (sym (answer_asks_nodes s c r answered))
    (All-map In (λ a. node_of s.nodes a.term) (asked_of c)
    (All-weaker (λ a. HasNode s.nodes a.term) (λ a. In (node_of s.nodes a.term)) (λ a h. (h.means []).within) (asked_of c) (asked_terms (HasNode s.nodes) c has)))

answer_in_scope : (k : Known) (t : Tree) (c : smt.Command) (r : Command) → command_read limits k.state t ≡ Sound c → IsKnown k → IsAnswered (known_by k t c).state c r → AreInScope (known_by k t c) (asked_nodes r)
answer_in_scope k t c r e h answered =
    subst (AreInScope (known_by k t c)) (sym (answer_asks_nodes (known_by k t c).state c r answered)) (asked_of_in_scope k t c e h)

-- of a form that was taken

module _ (k : Known) (t : Tree) (r : Command) (new : Known) (known : IsKnown k) where
  pub taken_in_scope : TakesAs k t (command_read limits k.state t) (Ok r) new → AreInScope new (asked_nodes r)
  taken_in_scope = by_read (command_read limits k.state t) refl
    where
      by_read : (read : Read smt.Command) → command_read limits k.state t ≡ read → TakesAs k t read (Ok r) new → AreInScope new (asked_nodes r)
      by_read (Sound c) e taken = subst (λ m. AreInScope m (asked_nodes r)) (sym taken.0) (answer_in_scope k t c r e known (subst (λ (m : Known). IsAnswered m.state c r) taken.0 taken.1))
      by_read (Faulty f fs) e taken = absurd taken

  pub taken_has_nodes : (c : smt.Command) → TakesAs k t (command_read limits k.state t) (Ok r) new → command_read limits k.state t ≡ Sound c → All (HasNode new.state.nodes) (terms_of c)
  taken_has_nodes c takes e =
      let taken = subst (λ read. TakesAs k t read (Ok r) new) e takes in
      subst (λ (m : Known). All (HasNode m.state.nodes) (terms_of c)) (sym taken.0) (terms_have_nodes k.state t c known.sound e)
