-- What is remembered of the last check stays so after each command.
use Rattle.std.proofs.Common.{◌≡◌, ℕ, ◌+◌, ◌<◌, ◌^◌, ◌==◌, not, true, List, [], ◌∷◌, ◌++◌, length, Option, Some, None, refl, sym, ap, ◌∙◌, subst, arith, append_assoc, append-nil}
use Rattle.std.proofs.lemmas.Bool.{false≢true, and_parts, eqb-true}
use Rattle.std.proofs.lemmas.Option.{none-some}
use Rattle.ffc_cert.specs.declared.entries.Entry.{Entry}
use Rattle.ffc_cert.specs.declared.entries.Entry.TheVariants.{Sat, UnsatCases, UnsatSteps, Unknown}
use Rattle.ffc_cert.specs.declared.entries.Cause.{Cause}
use Rattle.ffc_cert.specs.declared.entries.Cause.TheVariants.{Degree, Terms, Steps, Memory}
use Rattle.ffc_term.specs.declared.node.Node.{Node}
use Rattle.ffc_smt.specs.Trees.{Tree}
use Rattle.ffc_smt.specs.Terms.{Command, Asked, Declare, Define, Assert, CheckSat, CheckSatAssuming, GetValue}
use Rattle.ffc_smt.specs.Scopes.{State, declared_of, assertions_of}
use Rattle.ffc_smt.specs.CommandReading.{nodes_after}
use Rattle.ffc_smt.specs.CommandReading.{asked_made}
use Rattle.ffc_smt.specs.Making.{constant_node, made}
use Rattle.ffc_smt.specs.Scripts.{after, check_at}
use Rattle.ffc_smt.specs.States.{IsSoundState}
use Rattle.ffc_smt.specs.TableChecks.{TableCheck, table_check_of}
use Rattle.ffc_smt.specs.CheckLaws.{KeepsCheck}
use Rattle.ffc_smt.specs.Answering.{Effect, Keeps, EndsModel, Forgets, effect_of}
use Rattle.ffc_smt.proofs.EffectLemmas.{keeping_keeps}
use Rattle.ffc_smt.proofs.Extends.{Extends, extends_same, extends_further, interned_extends, made_extends}
use Rattle.ffc_rules.specs.Causes.{is_cause_within, is_small, passes_degree, passes_length}
use Rattle.ffc_rules.specs.Entries.{NodeCheck, limits}
use Rattle.ffc_rules.proofs.EntryLemmas.{entry_true}
use Rattle.ffc_rules.specs.Judging.{node_check}
use Rattle.ffc_answer.specs.Answers.{Last, after_effect, answer_of, checked, last_after, no_more_fresh, verdict}
use Rattle.ffc_answer.specs.Seen.{HasBudget}
use Rattle.ffc_answer.specs.Views.{IsEntryFor, IsRemembered, IsRememberedAt, IsUnchanged}
use Rattle.ffc_solve.specs.declared.arguments.Task.{Task}
use Rattle.ffc_solve.specs.Solving.{IsRight}

-- Nodes stay

asked_extends : (asked : List Asked) (ns : List Node) → Extends ns (asked_made ns asked)
unfolding asked_made
asked_extends [] ns = extends_same ns
asked_extends (a ∷ asked) ns = extends_further ns (made [] ns a.term).nodes (asked_made (made [] ns a.term).nodes asked) (made_extends a.term [] ns) (asked_extends asked (made [] ns a.term).nodes)

nodes_extend : (s : State) (c : Command) → Extends s.nodes (nodes_after s c)
unfolding nodes_after
nodes_extend s (Declare name t) = interned_extends s.nodes (constant_node (length s.constants) t)
nodes_extend s (Define name [] u t) = made_extends t [] s.nodes
nodes_extend s (Assert label t) = made_extends t [] s.nodes
nodes_extend s (CheckSatAssuming asked) = asked_extends asked s.nodes
nodes_extend s (GetValue asked) = asked_extends asked s.nodes
nodes_extend s _ = extends_same s.nodes

pub state_extends : (s : State) (t : Tree) (c : Command) → Extends s.nodes (after s t c).nodes
unfolding after
state_extends s t c = nodes_extend s c

-- what a model speaks of, by the parts of a state
parts_unchanged : (check : TableCheck) (s t : State) → t.levels ≡ s.levels → t.base ≡ s.base → t.constants ≡ s.constants → IsUnchanged check s → IsUnchanged check t
parts_unchanged check s t levels base constants h =
    record {
      constants = constants ∙ h.constants;
      declared = (λ i. declared_of (record s { levels = levels i; base = base i })) ∙ h.declared;
      asserted = (λ i. assertions_of (record s { levels = levels i; base = base i })) ∙ h.asserted;
    }

keeping_unchanged : (check : TableCheck) (s : State) (t : Tree) (c : Command) → effect_of c ≡ Keeps → IsUnchanged check s → IsUnchanged check (after s t c)
unfolding after
keeping_unchanged check s t c keeps h =
    let k = keeping_keeps c s keeps in
    parts_unchanged check s (after s t c) k.levels k.base k.constants h

-- after a command that is no check
remembered_on : (l : Last) (s : State) (t : Tree) (c : Command) → IsRemembered l s → (l.fresh ≡ true → IsUnchanged l.check (after s t c)) → IsRemembered l (after s t c)
remembered_on l s t c h unchanged =
    let (more, e) = state_extends s t c in
    let (before, f) = h.grown in
    record {
      entry = h.entry;
      kept = h.kept;
      counted = h.counted;
      grown = (before ++ more, e ∙ ap (λ ns. ns ++ more) f ∙ append_assoc l.check.nodes before more);
      unchanged = unchanged;
    }

stale : (l : Last) (s : State) → IsRemembered l s → IsRemembered (no_more_fresh l) s
stale l s h = record { entry = h.entry; kept = h.kept; counted = h.counted; grown = h.grown; unchanged = λ fresh. absurd (false≢true fresh) }

by_effect : (e : Effect) (l : Option Last) (s : State) (t : Tree) (c : Command) → effect_of c ≡ e → IsRememberedAt l s → IsRememberedAt (last_after l c) (after s t c)
by_effect Keeps None s t c is h = subst (λ e. IsRememberedAt (after_effect e None) (after s t c)) (sym is) tt
by_effect Keeps (Some l) s t c is h =
    subst (λ e. IsRememberedAt (after_effect e (Some l)) (after s t c)) (sym is) (remembered_on l s t c h (λ fresh. keeping_unchanged l.check s t c is (h.unchanged fresh)))
by_effect EndsModel None s t c is h = subst (λ e. IsRememberedAt (after_effect e None) (after s t c)) (sym is) tt
by_effect EndsModel (Some l) s t c is h =
    subst (λ e. IsRememberedAt (after_effect e (Some l)) (after s t c)) (sym is) (remembered_on (no_more_fresh l) s t c (stale l s h) (λ fresh. absurd (false≢true fresh)))
by_effect Forgets l s t c is h = subst (λ e. IsRememberedAt (after_effect e l) (after s t c)) (sym is) tt

pub remembered_next : (l : Option Last) (s : State) (t : Tree) (c : Command) → IsRememberedAt l s → IsRememberedAt (last_after l c) (after s t c)
remembered_next l s t c h = by_effect (effect_of c) l s t c refl h

-- Checks

same_sum : (a b : ℕ) → (a == b) ≡ true → a ≡ b
same_sum a b e = eqb-true a b e

pub cause_for : (budget : ℕ) (c : NodeCheck) (cause : Cause) → budget < 2 ^ 64 → is_cause_within limits c budget cause ≡ true → HasBudget cause
unfolding is_cause_within
cause_for budget c Degree few is = tt
cause_for budget c Terms few is = tt
cause_for budget c Memory few is = tt
cause_for budget c (Steps t r a k) few is =
    let one = and_parts (not (is_small limits c budget)) _ is in
    let two = and_parts (not (passes_degree limits c)) _ one.1 in
    let three = and_parts (not (passes_length limits c)) _ two.1 in
    let four = and_parts (t + r + a + k == budget) _ three.1 in
    let sum : t + r + a + k ≡ budget = same_sum (t + r + a + k) budget four.0 in
    omega arith

-- an entry that is right lists the declared constants, and has a budget
pub entry_for : (task : Task) (check : TableCheck) (entry : Entry) → task.steps < 2 ^ 64 → KeepsCheck check → IsRight task check entry → IsEntryFor check entry
entry_for task check (Sat pairs) few kept is = (entry_true limits (node_check check) (Sat pairs) 0 kept.valid (is.right 0)).0.names
entry_for task check UnsatCases few kept is = tt
entry_for task check (UnsatSteps lines) few kept is = tt
entry_for task check (Unknown cause) few kept is = cause_for task.steps (node_check check) cause few is.caused

-- the check of a state with these assumptions, before a command
abbrev pub check_under : State → Tree → Command → List Asked → TableCheck
check_under s t c asked = record { check = check_at s asked; nodes = (after s t c).nodes; declared = declared_of s }

at_check : (s : State) (t : Tree) (c : Command) (asked : List Asked) (entry : Entry) (task : Task) → task.steps < 2 ^ 64 → effect_of c ≡ Keeps → IsSoundState (after s t c) → KeepsCheck (check_under s t c asked) → IsRight task (check_under s t c asked) entry
    → IsRemembered (checked c (check_under s t c asked) entry) (after s t c)
unfolding after
at_check s t c asked entry task few keeps later kept right =
    let k = keeping_keeps c s keeps in
    record {
      entry = entry_for task (check_under s t c asked) entry few kept right;
      kept = kept;
      counted = later.nodes.counted ∙ ap length k.constants;
      grown = ([], sym (append-nil (after s t c).nodes));
      unchanged = λ _. parts_unchanged (check_under s t c asked) s (after s t c) k.levels k.base k.constants (record { constants = refl; declared = refl; asserted = refl });
    }

some_same : {A : Type 0} (a b : A) → Some a ≡ Some b → a ≡ b
some_same a b e = cc

-- what is remembered of a check
pub after_check : (s : State) (t : Tree) (c : Command) (check : TableCheck) (entry : Entry) (task : Task) → task.steps < 2 ^ 64 → IsSoundState (after s t c) → table_check_of (record { before = s; tree = t; command = c }) ≡ Some check
    → KeepsCheck check → IsRight task check entry → IsRemembered (checked c check entry) (after s t c)
after_check s t CheckSat check entry task few later is kept right =
    let e : check_under s t CheckSat [] ≡ check = some_same (check_under s t CheckSat []) check is in
    subst (λ k. KeepsCheck k → IsRight task k entry → IsRemembered (checked CheckSat k entry) (after s t CheckSat)) e (at_check s t CheckSat [] entry task few refl later) kept right
after_check s t (CheckSatAssuming asked) check entry task few later is kept right =
    let e : check_under s t (CheckSatAssuming asked) asked ≡ check = some_same (check_under s t (CheckSatAssuming asked) asked) check is in
    subst (λ k. KeepsCheck k → IsRight task k entry → IsRemembered (checked (CheckSatAssuming asked) k entry) (after s t (CheckSatAssuming asked))) e (at_check s t (CheckSatAssuming asked) asked entry task few refl later) kept right
after_check s t _ check entry task few later is kept right = absurd (none-some check is)

-- a check is answered by its verdict
pub verdict_answered : (s : State) (t : Tree) (c : Command) (check : TableCheck) (entry : Entry) → table_check_of (record { before = s; tree = t; command = c }) ≡ Some check
    → answer_of (Some (checked c check entry)) (record { before = s; tree = t; command = c }) ≡ verdict entry
verdict_answered s t CheckSat check entry is = refl
verdict_answered s t (CheckSatAssuming asked) check entry is = refl
verdict_answered s t _ check entry is = absurd (none-some check is)
