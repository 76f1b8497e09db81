-- How soon taking ends: while no form is `exit` or at fault, no front of the text has an end.
use Rattle.std.proofs.Common.{◌≡◌, ℕ, ◌+◌, ◌<◌, ◌≤◌, inl, inr, false, List, [], ◌∷◌, ◌++◌, length, take, drop, None, refl, sym, ap, ◌∙◌, subst, arith, append-nil, length-append}
use Rattle.std.proofs.lemmas.Bool.{false≢true, cases_lt}
use Rattle.std.proofs.lemmas.List.{take-append-le, take-append-drop, take_all}
use Rattle.ffc_lex.specs.Reading.{End, Between, Within, Stopped, Reading, fault_of, forms_of, reading_of, stop_fault}
use Rattle.ffc_lex.proofs.GoesOnLemmas.{goes_on as text_goes_on}
use Rattle.ffc_smt.specs.Trees.{Tree}
use Rattle.ffc_smt.specs.Terms.{Command, Exit}
use Rattle.ffc_smt.specs.Scopes.{State, first_state}
use Rattle.ffc_smt.specs.Faults.{Read, Sound, Faulty, first_fault}
use Rattle.ffc_smt.specs.CommandReading.{limits, command_read}
use Rattle.ffc_smt.specs.Scripts.{Done, Script, Step, after, end_at, end_of_text, ended, reads, trees_of, with_step}
use Rattle.ffc_smt.specs.GoingOn.{Going, Over, Run, after_step, goes_on, run_from, run_of, runs_on}
use Rattle.ffc_smt.proofs.GoingOnLemmas.{reads_are, run_goes, steps_go}
use Rattle.ffc_script.specs.Answers.{HasRun}
use Rattle.ffc_script.specs.Progress.{Progress, known_at, steps_of}
use Rattle.ffc_script.proofs.StepLemmas.{is_exit}
use Rattle.ffc_script.proofs.RunLemmas.{run_stays, trees_append, with_steps_is}
use Rattle.ffc_solve.specs.Solving.{EndsSoon, HasExit, HasNoEnd}

-- Commands that do not end a script

abbrev HasNone : List Step → Type 0
HasNone [] = Unit {0}
HasNone (x ∷ xs) = (is_exit x.command ≡ false) × HasNone xs

abbrev GoesWithout : Run → Type 0
GoesWithout (Going xs s) = HasNone xs
GoesWithout (Over script) = Unit {0}

without_step : (x : Step) (r : Run) → is_exit x.command ≡ false → GoesWithout r → GoesWithout (after_step x r)
without_step x (Going xs s) h k = (h, k)
without_step x (Over script) h k = tt

without_next : (s : State) (t : Tree) (runs : Command → Run) (r : Read Command) → ((c : Command) → GoesWithout (runs c)) → GoesWithout (elim r [
  | Faulty f fs ↦ Over (ended (end_at (first_fault f fs)))
  | Sound Exit ↦ Over (with_step (record { before = s; tree = t; command = Exit }) (ended Done))
  | Sound c ↦ after_step (record { before = s; tree = t; command = c }) (runs c)
])
without_next s t runs (Faulty f fs) h = tt
without_next s t runs (Sound Exit) h = tt
without_next s t runs (Sound c) h = without_step (record { before = s; tree = t; command = c }) (runs c) refl (h c)

-- a run that goes on has no `exit`
without_exit : (ts : List Tree) (s : State) → GoesWithout (run_from limits s ts)
unfolding run_from
without_exit [] s = tt
without_exit (t ∷ ts) s = without_next s t (λ c. run_from limits (after s t c) ts) (command_read limits s t) (λ c. without_exit ts (after s t c))

none_at : (before : List Step) (x : Step) (rest : List Step) → HasNone ((before ++ x ∷ []) ++ rest) → is_exit x.command ≡ false
none_at [] x rest h = h.0
none_at (y ∷ ys) x rest h = none_at ys x rest h.1

-- Fronts of a text that goes on

went : (r : Run) (next : State → Run) (steps : List Step) (state : State) → runs_on r next ≡ Going steps state → (xs : List Step) × (s : State) × (r ≡ Going xs s)
went (Going xs s) next steps state e = (xs, s, refl)
went (Over script) next steps state e = cc

front_run : (text more : List ℕ) → (next : State → Run) × (run_of limits (text ++ more) ≡ runs_on (run_of limits text) next)
front_run text more =
    let n = length (forms_of text) in
    let forms = forms_of (text ++ more) in
    let next : State → Run = λ now. run_from limits now (trees_of (text ++ more) (drop n forms)) in (
      next,
      ap (λ fs. run_from limits first_state (trees_of (text ++ more) fs)) (sym (take-append-drop n forms))
          ∙ ap (run_from limits first_state) (trees_append (text ++ more) (take n forms) (drop n forms))
          ∙ run_goes limits (trees_of (text ++ more) (take n forms)) (trees_of (text ++ more) (drop n forms)) first_state
          ∙ ap (λ r. runs_on r next) (run_stays text more n (omega arith) ∙ ap (λ fs. run_from limits first_state (trees_of text fs)) (take_all n (forms_of text) (omega arith))),
    )

front_sound : (text more : List ℕ) → fault_of (text ++ more) ≡ None → fault_of text ≡ None
front_sound text more h = by_end (reading_of text).end refl
  where
    by_end : (e : End) → (reading_of text).end ≡ e → fault_of text ≡ None
    by_end Between is = ap stop_fault is
    by_end (Within fault) is = ap stop_fault is
    by_end (Stopped fault) is = sym (ap (λ (r : Reading). stop_fault r.end) ((text_goes_on text more).fault fault is)) ∙ h

front_open : (text more : List ℕ) → HasNoEnd (text ++ more) → HasNoEnd text
front_open text more h =
    let runs = front_run text more in
    let on = went (run_of limits text) runs.0 h.steps h.state (sym runs.1 ∙ h.run) in
    record { steps = on.0; state = on.1; run = on.2; sound = front_sound text more h.sound }

-- the commands of a text that goes on are those of its run
steps_are : (text : List ℕ) (h : HasNoEnd text) → (reads text).steps ≡ h.steps
steps_are text h =
    let last = ended (end_of_text (reading_of text).end) in
    ap (λ (x : Script). x.steps) (reads_are limits text ∙ ap (λ r. goes_on r (λ now. last)) h.run ∙ with_steps_is h.steps last) ∙ append-nil h.steps

no_exit_before : (text more : List ℕ) → HasNoEnd (text ++ more) → HasExit text → ⊥
no_exit_before text more h has =
    let longer = steps_go limits text_goes_on text more in
    let steps : h.steps ≡ (has.before ++ has.exit ∷ []) ++ longer.0 = sym (steps_are (text ++ more) h) ∙ longer.1 ∙ ap (λ xs. xs ++ longer.0) has.steps in
    let none : HasNone h.steps = subst GoesWithout h.run (without_exit (trees_of (text ++ more) (forms_of (text ++ more))) first_state) in
    false≢true (sym (none_at has.before has.exit longer.0 (subst HasNone steps none)) ∙ ap is_exit has.is)

-- What was taken

pub none_run : (p : Progress) → HasRun p → HasNoEnd p.text
none_run p run = record { steps = steps_of p; state = (known_at p).state; run = run.run; sound = run.sound }

-- the commands of a front of the text are the first of those that were given
pub first_steps : (p : Progress) → HasRun p → (n : ℕ) → (rest : List Step) × (steps_of p ≡ (reads (take n p.text)).steps ++ rest)
unfolding none_run
first_steps p run n =
    let longer = steps_go limits text_goes_on (take n p.text) (drop n p.text) in
    (longer.0, sym (steps_are p.text (none_run p run)) ∙ ap (λ t. (reads t).steps) (sym (take-append-drop n p.text)) ∙ longer.1)

pub soon_none : EndsSoon []
soon_none = record { after_exit = λ n h. omega arith; after_fault = λ n h. omega arith }

-- a piece was read where the text so far has no end
pub soon_fed : (text piece : List ℕ) → HasNoEnd text → length piece ≤ 4096 → EndsSoon (text ++ piece)
soon_fed text piece h short = record { after_exit = after_exit; after_fault = after_fault }
  where
    longer : (n : ℕ) → length text < n → length (text ++ piece) ≤ n + 4095
    longer n k = omega (arith, length-append text piece)

    open_at : (n : ℕ) → HasNoEnd (take n text ++ drop n text)
    open_at n = subst HasNoEnd (sym (take-append-drop n text)) h

    after_exit : (n : ℕ) → HasExit (take n (text ++ piece)) → length (text ++ piece) ≤ n + 4095
    after_exit n has = elim (cases_lt (length text) n) [
      | inl past ↦ longer n past
      | inr in_text ↦ absurd (no_exit_before (take n text) (drop n text) (open_at n) (subst HasExit (take-append-le n text piece in_text) has))
    ]

    after_fault : (n : ℕ) → (HasNoEnd (take n (text ++ piece)) → ⊥) → length (text ++ piece) ≤ n + 4095
    after_fault n none = elim (cases_lt (length text) n) [
      | inl past ↦ longer n past
      | inr in_text ↦ absurd (none (subst HasNoEnd (sym (take-append-le n text piece in_text)) (front_open (take n text) (drop n text) (open_at n))))
    ]
