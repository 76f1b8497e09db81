-- One more command.
use Rattle.std.proofs.Common.{◌≡◌, ℕ, Bool, true, false, List, [], ◌∷◌, ◌++◌, fold, Some, None, Option, refl, sym, ap, ◌∙◌, subst, append-nil, append_assoc}
use Rattle.ffc_smt.specs.Trees.{Word, Tree, tree_of}
use Rattle.ffc_smt.specs.Terms as smt
use Rattle.ffc_smt.specs.Scopes.{State, declared_of, assertions_of}
use Rattle.ffc_smt.specs.Faults.{Fault, Read, Sound, Faulty, first_fault}
use Rattle.ffc_smt.specs.CommandReading.{limits, command_read, nodes_after}
use Rattle.ffc_smt.specs.Scripts.{Step, Script, Done, ended, end_at, with_step, after, named_orders, order_or_two}
use Rattle.ffc_smt.specs.GoingOn.{Run, Going, Over, after_step, run_from}
use Rattle.ffc_smt.specs.TableChecks.{TableCheck, table_check_of, table_checks}
use Rattle.ffc_elab.specs.declared.answers.Asked.{Asked}
use Rattle.ffc_elab.specs.declared.answers.Effect.{Effect}
use Rattle.ffc_elab.specs.declared.answers.Command.{Command}
use Rattle.ffc_elab.specs.declared.answers.Command.TheVariants as command
use Rattle.ffc_elab.specs.Histories.{Known, first_known, known_by, known_after, known_of, check_now}
use Rattle.ffc_elab.specs.Answers.{IsQuiet, Says, ChecksUnder, AsksFor, IsInfo, IsAnswered}
use Rattle.ffc_elab.proofs.ContextLemmas.{assuming_same, order_stays}
use Rattle.ffc_elab.proofs.HistoryLemmas.{known_further, known_by_form as known_after_form}
use Rattle.ffc_script.specs.Progress.{step_read, step_with, steps_from}
use Rattle.ffc_script.specs.Answers.{ends, check_by}

-- The steps of forms

steps_append : (k : Known) (fs gs : List (List Word)) → steps_from k (fs ++ gs) ≡ steps_from k fs ++ steps_from (fold known_after k fs) gs
unfolding steps_from
steps_append k [] gs = refl
steps_append k (f ∷ fs) gs =
    ap (λ xs. step_with k (tree_of f) ++ xs) (steps_append (known_after k f) fs gs)
    ∙ sym (append_assoc (step_with k (tree_of f)) (steps_from (known_after k f) fs) (steps_from (fold known_after (known_after k f) fs) gs))

steps_one : (k : Known) (form : List Word) → steps_from k (form ∷ []) ≡ step_with k (tree_of form)
unfolding steps_from
steps_one k form = append-nil (step_with k (tree_of form))

pub steps_further : (forms : List (List Word)) (form : List Word) → steps_from first_known (forms ++ form ∷ []) ≡ steps_from first_known forms ++ step_with (known_of forms) (tree_of form)
unfolding known_of
steps_further forms form = steps_append first_known forms (form ∷ []) ∙ ap (λ xs. steps_from first_known forms ++ xs) (steps_one (fold known_after first_known forms) form)

pub steps_by_form : (forms : List (List Word)) (form : List Word) (tree : Tree) (c : smt.Command) → tree_of form ≡ Some tree → command_read limits (known_of forms).state tree ≡ Sound c
    → steps_from first_known (forms ++ form ∷ []) ≡ steps_from first_known forms ++ record { before = (known_of forms).state; tree = tree; command = c } ∷ []
steps_by_form forms form tree c is e =
    steps_further forms form ∙ ap (λ xs. steps_from first_known forms ++ xs) (ap (step_with (known_of forms)) is ∙ ap (step_read (known_of forms) tree) e)

pub known_by_form : (forms : List (List Word)) (form : List Word) (tree : Tree) (c : smt.Command) → tree_of form ≡ Some tree → command_read limits (known_of forms).state tree ≡ Sound c
    → known_of (forms ++ form ∷ []) ≡ known_by (known_of forms) tree c
known_by_form forms form tree c is e = known_further forms form ∙ known_after_form (known_of forms) form tree c is e

-- The run of one form

abbrev pub is_exit : smt.Command → Bool
is_exit smt.Exit = true
is_exit _ = false

abbrev One : State → Tree → Read smt.Command → Run
One s t r = elim r [
  | Faulty f fs ↦ Over (ended (end_at (first_fault f fs)))
  | Sound smt.Exit ↦ Over (with_step (record { before = s; tree = t; command = smt.Exit }) (ended Done))
  | Sound c ↦ Going (record { before = s; tree = t; command = c } ∷ []) (after s t c)
]

run_one : (s : State) (t : Tree) → run_from limits s (t ∷ []) ≡ One s t (command_read limits s t)
unfolding run_from
run_one s t = by_read (command_read limits s t)
  where
    by_read : (r : Read smt.Command) → (elim r [
      | Faulty f fs ↦ Over (ended (end_at (first_fault f fs)))
      | Sound smt.Exit ↦ Over (with_step (record { before = s; tree = t; command = smt.Exit }) (ended Done))
      | Sound c ↦ after_step (record { before = s; tree = t; command = c }) (run_from limits (after s t c) [])
    ]) ≡ One s t r
    by_read (Faulty f fs) = refl
    by_read (Sound smt.Exit) = refl
    by_read (Sound c) = refl

goes_one : (s : State) (t : Tree) (c : smt.Command) → is_exit c ≡ false → One s t (Sound c) ≡ Going (record { before = s; tree = t; command = c } ∷ []) (after s t c)
goes_one s t smt.Exit e = cc
goes_one s t c e = refl

ends_one : (s : State) (t : Tree) (c : smt.Command) → is_exit c ≡ true → One s t (Sound c) ≡ Over (record { steps = record { before = s; tree = t; command = c } ∷ []; end = Done })
ends_one s t smt.Exit e = refl
ends_one s t c e = cc

pub run_command : (s : State) (t : Tree) (c : smt.Command) → command_read limits s t ≡ Sound c → is_exit c ≡ false → run_from limits s (t ∷ []) ≡ Going (record { before = s; tree = t; command = c } ∷ []) (after s t c)
run_command s t c e not = run_one s t ∙ ap (One s t) e ∙ goes_one s t c not

pub run_exit : (s : State) (t : Tree) (c : smt.Command) → command_read limits s t ≡ Sound c → is_exit c ≡ true → run_from limits s (t ∷ []) ≡ Over (record { steps = record { before = s; tree = t; command = c } ∷ []; end = Done })
run_exit s t c e exit = run_one s t ∙ ap (One s t) e ∙ ends_one s t c exit

pub run_fault : (s : State) (t : Tree) (f : Fault) (fs : List Fault) → command_read limits s t ≡ Faulty f fs → run_from limits s (t ∷ []) ≡ Over (ended (end_at (first_fault f fs)))
run_fault s t f fs e = run_one s t ∙ ap (One s t) e

-- What an answer says of its command

-- neither a check nor the end
abbrev IsOther : Command → Type 0
IsOther r = (k : Known) → (check_by r k ≡ None) × (ends r ≡ false)

quiet_other : (e : Effect) (r : Command) → IsQuiet e r → IsOther r
quiet_other e (command.Quiet f) h = λ k. (refl, refl)
quiet_other e _ h = absurd h

says_other : (text : List ℕ) (r : Command) → Says text r → IsOther r
says_other text (command.Say t) h = λ k. (refl, refl)
says_other text _ h = absurd h

asks_other : (asked : List Asked) (r : Command) → AsksFor asked r → IsOther r
asks_other asked (command.GetValue terms) h = λ k. (refl, refl)
asks_other asked _ h = absurd h

same_other : (r other : Command) → r ≡ other → IsOther other → IsOther r
same_other r other e h = subst IsOther (sym e) h

info_other : (s : State) (i : smt.Info) (r : Command) → IsInfo s i r → IsOther r
info_other s smt.SolverName r h = says_other _ r h
info_other s smt.Version r h = says_other _ r h
info_other s smt.AssertionStackLevels r h = says_other _ r h
info_other s smt.ReasonUnknown r h = same_other r command.GetReason h (λ k. (refl, refl))

check_same : (k : Known) (t : Tree) → table_check_of (record { before = k.state; tree = t; command = smt.CheckSat }) ≡ Some (check_now (known_by k t smt.CheckSat))
unfolding after named_orders
check_same k t =
    ap (λ o. Some (record {
      check = record { constants = k.state.constants; assertions = assertions_of k.state; assumptions = []; first_order = order_or_two o };
      nodes = nodes_after k.state smt.CheckSat;
      declared = declared_of k.state;
    })) (sym (order_stays k.state.first_order))

assuming_is : (asked : List Asked) (r : Command) → ChecksUnder asked r → (k : Known) → (Some (check_now k) ≡ check_by r k) × (ends r ≡ false)
assuming_is asked (command.CheckAssuming terms) h k = (refl, refl)
assuming_is asked _ h k = absurd h

abbrev SaysCheck : Known → Tree → smt.Command → Command → Type 0
SaysCheck k t c r = (table_check_of (record { before = k.state; tree = t; command = c }) ≡ check_by r (known_by k t c)) × (ends r ≡ is_exit c)

other_says : (k : Known) (r : Command) → IsOther r → (None ≡ check_by r k) × (ends r ≡ false)
other_says k r h = let both = h k in (sym both.0, both.1)

pub answer_says : (k : Known) (t : Tree) (c : smt.Command) (r : Command) → IsAnswered (known_by k t c).state c r → SaysCheck k t c r
answer_says k t smt.SetLogic r h = other_says _ r (quiet_other _ r h)
answer_says k t (smt.SetOption o b) r h = other_says _ r (quiet_other _ r h)
answer_says k t (smt.GetOption o) r h = other_says _ r (says_other _ r h)
answer_says k t smt.SetInfo r h = other_says _ r (quiet_other _ r h)
answer_says k t (smt.GetInfo i) r h = other_says _ r (info_other (known_by k t (smt.GetInfo i)).state i r h)
answer_says k t smt.Unsupported r h = other_says _ r (same_other r command.Unsupported h (λ k. (refl, refl)))
answer_says k t (smt.Echo bytes) r h = other_says _ r (says_other _ r h)
answer_says k t (smt.Declare name sort) r h = other_says _ r (quiet_other _ r h)
answer_says k t (smt.DefineSort name sort) r h = other_says _ r (quiet_other _ r h)
answer_says k t (smt.Define name parameters sort term) r h = other_says _ r (quiet_other _ r h)
answer_says k t (smt.Assert label term) r h = other_says _ r (quiet_other _ r h)
answer_says k t smt.CheckSat r h = (check_same k t ∙ ap (λ a. check_by a (known_by k t smt.CheckSat)) (sym h), ap ends h)
answer_says k t (smt.CheckSatAssuming asked) r h =
    let is = assuming_is _ r h (known_by k t (smt.CheckSatAssuming asked)) in
    (assuming_same k t asked ∙ is.0, is.1)
answer_says k t smt.GetModel r h = other_says _ r (same_other r command.GetModel h (λ k. (refl, refl)))
answer_says k t (smt.GetValue asked) r h = other_says _ r (asks_other _ r h)
answer_says k t smt.GetUnsatCore r h = other_says _ r (same_other r command.GetCore h (λ k. (refl, refl)))
answer_says k t smt.GetUnsatAssumptions r h = other_says _ r (same_other r command.GetAssumptions h (λ k. (refl, refl)))
answer_says k t (smt.Push n) r h = other_says _ r (quiet_other _ r h)
answer_says k t (smt.Pop n) r h = other_says _ r (quiet_other _ r h)
answer_says k t smt.ResetAssertions r h = other_says _ r (quiet_other _ r h)
answer_says k t smt.Reset r h = other_says _ r (quiet_other _ r h)
answer_says k t smt.Exit r h = (ap (λ a. check_by a (known_by k t smt.Exit)) (sym h), ap ends h)

-- The checks of steps

abbrev pub with_check : Option TableCheck → List TableCheck → List TableCheck
with_check None cs = cs
with_check (Some c) cs = c ∷ cs

checks_cons : (x : Step) (xs : List Step) → table_checks (x ∷ xs) ≡ with_check (table_check_of x) (table_checks xs)
checks_cons x xs = by_check (table_check_of x)
  where
    by_check : (o : Option TableCheck) → (elim o [ None ↦ table_checks xs | Some c ↦ c ∷ table_checks xs ]) ≡ with_check o (table_checks xs)
    by_check None = refl
    by_check (Some c) = refl

with_check_append : (o : Option TableCheck) (xs ys : List TableCheck) → with_check o (xs ++ ys) ≡ with_check o xs ++ ys
with_check_append None xs ys = refl
with_check_append (Some c) xs ys = refl

pub checks_append : (xs ys : List Step) → table_checks (xs ++ ys) ≡ table_checks xs ++ table_checks ys
checks_append [] ys = refl
checks_append (x ∷ xs) ys =
    checks_cons x (xs ++ ys) ∙ ap (with_check (table_check_of x)) (checks_append xs ys)
    ∙ with_check_append (table_check_of x) (table_checks xs) (table_checks ys) ∙ ap (λ cs. cs ++ table_checks ys) (sym (checks_cons x xs))

-- the checks after one more command
pub checks_more : (xs : List Step) (x : Step) (o : Option TableCheck) → table_check_of x ≡ o → table_checks (xs ++ x ∷ []) ≡ table_checks xs ++ with_check o []
checks_more xs x o e = checks_append xs (x ∷ []) ∙ ap (λ cs. table_checks xs ++ cs) (checks_cons x [] ∙ ap (λ o. with_check o []) e)
