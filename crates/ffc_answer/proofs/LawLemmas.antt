-- What is remembered, from step to step, and answers that go on.
use Rattle.std.proofs.Common.{◌≡◌, List, [], ◌∷◌, ◌++◌, length, reverse, Option, Some, None, refl, sym, ap, ap₂, ◌∙◌, subst, arith, append_assoc, append-nil, lit≤}
use Rattle.std.specs.List.{flat_map, filter_map}
use Rattle.std.proofs.lemmas.Bool.{false≢true}
use Rattle.ffc_cert.specs.declared.entries.Entry.{Entry}
use Rattle.ffc_smt.specs.Faults.{Sound}
use Rattle.ffc_smt.specs.Trees.{Tree}
use Rattle.ffc_smt.specs.Terms.{Asked, Command, Declare, Define, Assert, CheckSat, CheckSatAssuming, GetValue}
use Rattle.ffc_smt.specs.Making.{constant_node}
use Rattle.ffc_term.specs.Tables.{constant_count}
use Rattle.ffc_smt.specs.CommandReading.{limits, command_read, nodes_after}
use Rattle.ffc_smt.specs.Scopes.{Assertion, Declared, Level, State, declared_of, assertions_of, as_declared}
use Rattle.ffc_smt.specs.States.{IsSoundState}
use Rattle.ffc_smt.specs.ScopedStates.{IsScopedState}
use Rattle.ffc_smt.specs.Scripts.{Step, after, check_at}
use Rattle.ffc_smt.specs.TableChecks.{TableCheck, table_check_of, table_checks}
use Rattle.ffc_smt.specs.Answering.{Effect, Keeps, EndsModel, Forgets, effect_of, KeepsScopes}
use Rattle.ffc_smt.proofs.Extends.{Extends, extends_same, extends_further, interned_extends, made_extends}
use Rattle.ffc_smt.proofs.EffectLemmas.{keeping_keeps}
use Rattle.ffc_smt.proofs.CheckLemmas.{step_keeps_check}
use Rattle.ffc_smt.proofs.SoundStates.{asked_extends, next_is_sound}
use Rattle.ffc_answer.specs.Answers.{Last, after_effect, checked, last_after, answer_of, answers_from, last_from}
use Rattle.ffc_answer.specs.Views.{IsEntryFor, IsUnchanged, IsRemembered, IsRememberedAt}

-- What a command leaves

nodes_grow : (s : State) (c : Command) → Extends s.nodes (nodes_after s c)
unfolding nodes_after
nodes_grow s (Declare name t) = interned_extends s.nodes (constant_node (length s.constants) t)
nodes_grow s (Define name [] u t) = made_extends t [] s.nodes
nodes_grow s (Assert label t) = made_extends t [] s.nodes
nodes_grow s (CheckSatAssuming asked) = asked_extends asked s.nodes
nodes_grow s (GetValue asked) = asked_extends asked s.nodes
nodes_grow s _ = extends_same s.nodes

declared_by : List Level → Level → List Declared
declared_by levels base = filter_map as_declared (reverse (flat_map (λ l. l.names) (levels ++ base ∷ [])))

asserted_by : List Level → Level → List Assertion
asserted_by levels base = base.asserted ++ flat_map (λ l. l.asserted) (reverse levels)

module _ (s : State) (tree : Tree) (c : Command) where
  abbrev New : State
  New = after s tree c

  grown : Extends s.nodes New.nodes
  unfolding after
  grown = nodes_grow s c

  same_constants : KeepsScopes c s → New.constants ≡ s.constants
  unfolding after
  same_constants keeps = keeps.constants

  same_levels : KeepsScopes c s → New.levels ≡ s.levels
  unfolding after
  same_levels keeps = keeps.levels

  same_base : KeepsScopes c s → New.base ≡ s.base
  unfolding after
  same_base keeps = keeps.base

  same_declared : KeepsScopes c s → declared_of New ≡ declared_of s
  unfolding declared_by
  same_declared keeps = ap₂ declared_by (same_levels keeps) (same_base keeps)

  same_asserted : KeepsScopes c s → assertions_of New ≡ assertions_of s
  unfolding asserted_by
  same_asserted keeps = ap₂ asserted_by (same_levels keeps) (same_base keeps)

  kept_unchanged : (check : TableCheck) → effect_of c ≡ Keeps → IsUnchanged check s → IsUnchanged check New
  kept_unchanged check keeps h =
      let k = keeping_keeps c s keeps in
      record { constants = same_constants k ∙ h.constants; declared = same_declared k ∙ h.declared; asserted = same_asserted k ∙ h.asserted }

  by_effect : (e : Effect) → effect_of c ≡ e → (l : Option Last) → IsRememberedAt l s → IsRememberedAt (after_effect e l) New
  by_effect Keeps is None h = tt
  by_effect EndsModel is None h = tt
  by_effect Forgets is None h = tt
  by_effect Forgets is (Some k) h = tt
  by_effect Keeps is (Some k) h =
      record { entry = h.entry; kept = h.kept; counted = h.counted; grown = extends_further k.check.nodes s.nodes New.nodes h.grown grown; unchanged = λ yes. kept_unchanged k.check is (h.unchanged yes) }
  by_effect EndsModel is (Some k) h =
      record { entry = h.entry; kept = h.kept; counted = h.counted; grown = extends_further k.check.nodes s.nodes New.nodes h.grown grown; unchanged = λ yes. absurd (false≢true yes) }

  pub remembered_on : (l : Option Last) → IsRememberedAt l s → IsRememberedAt (last_after l c) New
  remembered_on l h = by_effect (effect_of c) refl l h

-- Checks

record IsCheckOf (s : State) (tree : Tree) (c : Command) (check : TableCheck) : Type 0 where
  nodes : check.nodes ≡ (after s tree c).nodes
  constants : (after s tree c).constants ≡ check.check.constants
  declared : declared_of (after s tree c) ≡ check.declared
  asserted : assertions_of (after s tree c) ≡ check.check.assertions

abbrev At : State → Tree → Command → Step
At s tree c = record { before = s; tree = tree; command = c }

abbrev Made : State → Tree → Command → List Asked → TableCheck
Made s tree c asked = record { check = check_at s asked; nodes = (after s tree c).nodes; declared = declared_of s }

made_check : (s : State) (tree : Tree) (c : Command) (asked : List Asked) → KeepsScopes c s → IsCheckOf s tree c (Made s tree c asked)
made_check s tree c asked keeps = record { nodes = refl; constants = same_constants s tree c keeps; declared = same_declared s tree c keeps; asserted = same_asserted s tree c keeps }

check_is : (s : State) (tree : Tree) (c : Command) (check : TableCheck) → table_check_of (At s tree c) ≡ Some check → IsCheckOf s tree c check
check_is s tree CheckSat check e =
    let same : Made s tree CheckSat [] ≡ check = cc in
    subst (IsCheckOf s tree CheckSat) same (made_check s tree CheckSat [] (keeping_keeps CheckSat s refl))
check_is s tree (CheckSatAssuming asked) check e =
    let same : Made s tree (CheckSatAssuming asked) asked ≡ check = cc in
    subst (IsCheckOf s tree (CheckSatAssuming asked)) same (made_check s tree (CheckSatAssuming asked) asked (keeping_keeps (CheckSatAssuming asked) s refl))
check_is s tree _ check e = cc

pub remembered_check : (x : Step) (check : TableCheck) (entry : Entry) → IsSoundState x.before → IsScopedState x.before → command_read limits x.before x.tree ≡ Sound x.command → table_check_of x ≡ Some check → IsEntryFor check entry
    → IsRemembered (checked x.command check entry) (after x.before x.tree x.command)
remembered_check x check entry sound scoped read is fits =
    let now = check_is x.before x.tree x.command check is in
    let after_it = next_is_sound limits x.before x.tree x.command (lit≤ tt) sound read in
    record {
      entry = fits;
      kept = step_keeps_check limits x.before x.tree x.command (lit≤ tt) sound scoped read check is;
      counted = ap constant_count now.nodes ∙ after_it.nodes.counted ∙ ap length now.constants;
      grown = ([], sym now.nodes ∙ sym (append-nil check.nodes));
      unchanged = λ yes. record { constants = now.constants; declared = now.declared; asserted = now.asserted };
    }

-- Answers

pub answers_on : (l : Option Last) (xs ys : List Step) (es fs : List Entry) → length (table_checks xs) ≡ length es
    → answers_from l (xs ++ ys) (es ++ fs) ≡ answers_from l xs es ++ answers_from (last_from l xs es) ys fs
unfolding answers_from last_from
answers_on l [] ys [] fs e = refl
answers_on l [] ys (entry ∷ es) fs e = absurd (omega arith)
answers_on l (x ∷ xs) ys es fs e = step (λ k rest f. answers_on k xs ys rest fs f) (table_check_of x) es e
  where
    step : ((k : Option Last) (rest : List Entry) → length (table_checks xs) ≡ length rest → answers_from k (xs ++ ys) (rest ++ fs) ≡ answers_from k xs rest ++ answers_from (last_from k xs rest) ys fs)
        → (o : Option TableCheck) (es : List Entry) → length {A = TableCheck} (elim o [ None ↦ table_checks xs | Some c ↦ c ∷ table_checks xs ]) ≡ length es
        → (elim o [ None ↦ answer_of (last_after l x.command) x ++ answers_from (last_after l x.command) (xs ++ ys) (es ++ fs) | Some check ↦ elim (es ++ fs) [ [] ↦ [] | entry ∷ rest ↦ answer_of (Some (checked x.command check entry)) x ++ answers_from (Some (checked x.command check entry)) (xs ++ ys) rest ] ])
        ≡ (elim o [ None ↦ answer_of (last_after l x.command) x ++ answers_from (last_after l x.command) xs es | Some check ↦ elim es [ [] ↦ [] | entry ∷ rest ↦ answer_of (Some (checked x.command check entry)) x ++ answers_from (Some (checked x.command check entry)) xs rest ] ])
        ++ answers_from (elim o [ None ↦ last_from (last_after l x.command) xs es | Some check ↦ elim es [ [] ↦ l | entry ∷ rest ↦ last_from (Some (checked x.command check entry)) xs rest ] ]) ys fs
    step ih None es e = ap (λ t. answer_of (last_after l x.command) x ++ t) (ih (last_after l x.command) es e) ∙ sym (append_assoc (answer_of (last_after l x.command) x) _ _)
    step ih (Some check) [] e = absurd (omega arith)
    step ih (Some check) (entry ∷ rest) e =
        let k = Some (checked x.command check entry) in
        ap (λ t. answer_of k x ++ t) (ih k rest (omega arith)) ∙ sym (append_assoc (answer_of k x) _ _)

pub last_on : (l : Option Last) (xs ys : List Step) (es fs : List Entry) → length (table_checks xs) ≡ length es → last_from l (xs ++ ys) (es ++ fs) ≡ last_from (last_from l xs es) ys fs
unfolding last_from
last_on l [] ys [] fs e = refl
last_on l [] ys (entry ∷ es) fs e = absurd (omega arith)
last_on l (x ∷ xs) ys es fs e = step (λ k rest f. last_on k xs ys rest fs f) (table_check_of x) es e
  where
    step : ((k : Option Last) (rest : List Entry) → length (table_checks xs) ≡ length rest → last_from k (xs ++ ys) (rest ++ fs) ≡ last_from (last_from k xs rest) ys fs)
        → (o : Option TableCheck) (es : List Entry) → length {A = TableCheck} (elim o [ None ↦ table_checks xs | Some c ↦ c ∷ table_checks xs ]) ≡ length es
        → (elim o [ None ↦ last_from (last_after l x.command) (xs ++ ys) (es ++ fs) | Some check ↦ elim (es ++ fs) [ [] ↦ l | entry ∷ rest ↦ last_from (Some (checked x.command check entry)) (xs ++ ys) rest ] ])
        ≡ last_from (elim o [ None ↦ last_from (last_after l x.command) xs es | Some check ↦ elim es [ [] ↦ l | entry ∷ rest ↦ last_from (Some (checked x.command check entry)) xs rest ] ]) ys fs
    step ih None es e = ih (last_after l x.command) es e
    step ih (Some check) [] e = absurd (omega arith)
    step ih (Some check) (entry ∷ rest) e = ih (Some (checked x.command check entry)) rest (omega arith)

pub one_quiet : (l : Option Last) (x : Step) → table_check_of x ≡ None → (answers_from l (x ∷ []) [] ≡ answer_of (last_after l x.command) x) × (last_from l (x ∷ []) [] ≡ last_after l x.command)
unfolding answers_from last_from
one_quiet l x e = rw (e, answers_from, last_from) (append-nil (answer_of (last_after l x.command) x), refl)

pub one_check : (l : Option Last) (x : Step) (c : TableCheck) (entry : Entry) → table_check_of x ≡ Some c
    → (answers_from l (x ∷ []) (entry ∷ []) ≡ answer_of (Some (checked x.command c entry)) x) × (last_from l (x ∷ []) (entry ∷ []) ≡ Some (checked x.command c entry))
unfolding answers_from last_from
one_check l x c entry e = rw (e, answers_from, last_from) (append-nil (answer_of (Some (checked x.command c entry)) x), refl)

pub ends_there : (l : Option Last) (x : Step) (xs : List Step) (c : TableCheck) → table_check_of x ≡ Some c → answers_from l (x ∷ xs) [] ≡ []
unfolding answers_from
ends_there l x xs c e = rw (e, answers_from) refl
