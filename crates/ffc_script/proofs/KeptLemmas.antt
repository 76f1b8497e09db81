-- What a reader keeps true.
use Rattle.std.proofs.Common.{◌≡◌, ℕ, zero, suc, ◌+◌, ◌-◌, ◌<◌, ◌≤◌, Bool, true, false, List, [], ◌∷◌, ◌++◌, length, take, map, Some, None, Option, Result, Ok, Err, All, slice_get, refl, sym, ap, ◌∙◌, subst, arith, append-nil, append_assoc}
use Rattle.std.proofs.lemmas.List.{take_all, length-take, length-take-le, length-append}
use Rattle.std.proofs.lemmas.List.Elements.{All-nil, All-cons, All-head, All-tail, All-take}
use Rattle.std.proofs.lemmas.Option.{slice_get_within, slice_get-get_or, slice_get_past, get_or_from_slice_get}
use Rattle.ffc_lex.specs.Limits.{max_bytes}
use Rattle.ffc_lex.specs.declared.tokens.Token.{Token}
use Rattle.ffc_lex.specs.declared.faults.ScriptFault.{ScriptFault}
use Rattle.ffc_lex.specs.Lexing.{Lexing, extended, next_form_of, due_fault, fault_behind, end_fault}
use Rattle.ffc_lex.specs.Reading.{End as TextEnd, Between, Within, Stopped, stop_fault, within_fault, forms_of, fault_of, end_fault_of, reading_of}
use Rattle.ffc_smt.specs.Trees.{Word, Tree, word_of, tree_of, form_tree}
use Rattle.ffc_smt.specs.Terms as smt
use Rattle.ffc_smt.specs.Scopes.{State, first_state}
use Rattle.ffc_smt.specs.Faults.{Fault, Read, Sound, Faulty, first_fault}
use Rattle.ffc_smt.specs.CommandReading.{limits, command_read}
use Rattle.ffc_smt.specs.Scripts.{Step, Script, End, Done, AtFault, ended, with_step, end_at, end_of_text, after, script_from, trees_of, reads}
use Rattle.ffc_smt.specs.GoingOn.{Run, Going, Over, after_step, run_from, run_of, with_steps, goes_on, runs_on}
use Rattle.ffc_smt.specs.TableChecks.{table_check_of, table_checks}
use Rattle.ffc_smt.specs.CheckLaws.{KeepsCheck}
use Rattle.ffc_smt.proofs.CheckLemmas.{scripts_keep_checks}
use Rattle.ffc_smt.proofs.GoingOnLemmas.{reads_are, stopped_goes}
use Rattle.ffc_lex.proofs.GoesOnLemmas.{goes_on as text_goes_on}
use Rattle.ffc_smt.proofs.FormLemmas.{forms_good}
use Rattle.ffc_words.specs.declared.faults.TakeStop.{TakeStop}
use Rattle.ffc_words.specs.declared.faults.TakeStop.TheVariants as stop
use Rattle.ffc_words.specs.Given.{IsGiven}
use Rattle.ffc_words.specs.Words.{fault_of as fault_meant}
use Rattle.ffc_elab.specs.declared.answers.Command.{Command}
use Rattle.ffc_elab.specs.Histories.{Known, first_known, known_by, known_of}
use Rattle.ffc_elab.specs.Answers.{IsAnswered, TakesAs}
use Rattle.ffc_elab.proofs.ContextLemmas.{history_is_known, taken_has_nodes}
use Rattle.ffc_elab.proofs.GivenLemmas.{given_tree}
use Rattle.ffc_script.specs.Progress.{Progress, steps_from, steps_of, known_at}
use Rattle.ffc_script.specs.Answers.{ends, check_by, SaysOnly, end_at_fault, Gives, HasRun}
use Rattle.ffc_script.specs.Kept.{AreFirst, IsGoing, IsKept}
use Rattle.ffc_script.specs.Laws.{GoesOnFrom}
use Rattle.ffc_script.proofs.RunLemmas.{run_to, first_trees, run_stays, more_forms, first_forms_stay, reads_from, run_more, trees_length, with_steps_is, going_on, going_over}
use Rattle.ffc_script.proofs.StepLemmas.{steps_by_form, known_by_form, is_exit, run_command, run_exit, run_fault, answer_says, checks_append}

-- From a run to the text

steps_are : (xs : List Step) (script : Script) → (with_steps xs script).steps ≡ xs ++ script.steps
steps_are xs script = ap (λ s. s.steps) (with_steps_is xs script)

pub going_first : (text : List ℕ) (n : ℕ) (xs : List Step) (s : State) → n ≤ length (forms_of text) → run_to text n ≡ Going xs s → AreFirst text xs
going_first text n xs s h run = λ more.
    let from = reads_from text more n h in
    let next = script_from limits s from.0 (end_of_text (reading_of (text ++ more)).end) in
    (next.steps, ap (λ r. r.steps) (from.1 ∙ ap (λ r. goes_on r (λ now. script_from limits now from.0 (end_of_text (reading_of (text ++ more)).end))) run) ∙ steps_are xs next)

pub over_only : (text : List ℕ) (n : ℕ) (xs : List Step) (end : End) → n ≤ length (forms_of text) → run_to text n ≡ Over (record { steps = xs; end = end }) → SaysOnly text xs end
over_only text n xs end h run = λ more.
    let from = reads_from text more n h in
    from.1 ∙ ap (λ r. goes_on r (λ now. script_from limits now from.0 (end_of_text (reading_of (text ++ more)).end))) run

pub only_first : (text : List ℕ) (xs : List Step) (end : End) → SaysOnly text xs end → AreFirst text xs
only_first text xs end h = λ more. ([], ap (λ s. s.steps) (h more) ∙ sym (append-nil xs))

first_stays : (text piece : List ℕ) (xs : List Step) → AreFirst text xs → AreFirst (text ++ piece) xs
first_stays text piece xs h = λ more. let first = h (piece ++ more) in (first.0, ap (λ t. (reads t).steps) (append_assoc text piece more) ∙ first.1)

-- Nothing has come

pub kept_new : (l : Lexing) → l ≡ record { text = []; given = 0; fault = None; finished = false } → IsKept l [] false
unfolding steps_from known_of run_from
kept_new l e = subst (λ l. IsKept l [] false) (sym e) (record {
  limit = omega arith;
  first = λ more. ((reads ([] ++ more)).steps, refl);
  going = λ _. record { fault = refl; unfinished = refl; within = omega arith; run = refl };
})

-- A piece comes

take_front : (n : ℕ) (xs ys : List ℕ) → length xs ≤ n → take n (xs ++ ys) ≡ xs ++ take (n - length xs) ys
take_front zero [] ys h = refl
take_front zero (x ∷ xs) ys h = absurd (omega arith)
take_front (suc n) [] ys h = let e : suc n ≡ suc n - length {A = ℕ} [] = omega arith in ap (λ m. take m ys) e
take_front (suc n) (x ∷ xs) ys h =
    let e : suc n - length (x ∷ xs) ≡ n - length xs = omega arith in
    ap (λ zs. x ∷ zs) (take_front n xs ys (omega arith)) ∙ ap (λ m. x ∷ (xs ++ take m ys)) (sym e)

-- How many commands were run

abbrev CountedAs : List Tree → State → Type 0
CountedAs ts s = (xs : List Step) (now : State) → run_from limits s ts ≡ Going xs now → length xs ≡ length ts

counted_run : (n : ℕ) (x : Step) (r : Run) (xs : List Step) (now : State) → ((ys : List Step) (last : State) → r ≡ Going ys last → length ys ≡ n) → after_step x r ≡ Going xs now → length xs ≡ suc n
counted_run n x (Going ys last) xs now h e = let same : x ∷ ys ≡ xs = cc in ap length (sym same) ∙ ap suc (h ys last refl)
counted_run n x (Over script) xs now h e = cc

counted_more : (t : Tree) (ts : List Tree) (s : State) → ((c : smt.Command) → CountedAs ts (after s t c)) → CountedAs (t ∷ ts) s
unfolding run_from
counted_more t ts s h xs now e = by_read (command_read limits s t) e
  where
    by_read : (r : Read smt.Command) → (elim r [
      | Faulty f fs ↦ Over (ended (end_at (first_fault f fs)))
      | Sound smt.Exit ↦ Over (with_step (record { before = s; tree = t; command = smt.Exit }) (ended Done))
      | Sound c ↦ after_step (record { before = s; tree = t; command = c }) (run_from limits (after s t c) ts)
    ]) ≡ Going xs now → length xs ≡ suc (length ts)
    by_read (Faulty f fs) h2 = cc
    by_read (Sound smt.Exit) h2 = cc
    by_read (Sound c) h2 = counted_run (length ts) (record { before = s; tree = t; command = c }) (run_from limits (after s t c) ts) xs now (λ ys last is. h c ys last is) h2

counted_none : (s : State) → CountedAs [] s
unfolding run_from
counted_none s xs now e = let same : [] ≡ xs = cc in ap length (sym same)

run_count : (ts : List Tree) (s : State) → CountedAs ts s
run_count [] s = counted_none s
run_count (t ∷ ts) s = counted_more t ts s (λ c. run_count ts (after s t c))

no_form : (forms : List (List Token)) (n : ℕ) → slice_get forms n ≡ None → length forms ≤ n
no_form [] n e = omega arith
no_form (f ∷ fs) zero e = cc
no_form (f ∷ fs) (suc n) e = let rest = no_form fs n e in omega arith

behind_is : (o : Option (List Token)) (text : List ℕ) (f : ScriptFault) → fault_behind o text ≡ Some f → (o ≡ None) × (fault_of text ≡ Some f)
behind_is None text f e = (refl, e)
behind_is (Some form) text f e = cc

stopped_is : (end : TextEnd) (f : ScriptFault) → stop_fault end ≡ Some f → end ≡ Stopped f
stopped_is Between f e = cc
stopped_is (Within g) f e = cc
stopped_is (Stopped g) f e = let same : g ≡ f = cc in ap Stopped same

within_is : (end : TextEnd) (f : ScriptFault) → within_fault end ≡ Some f → end ≡ Within f
within_is Between f e = cc
within_is (Within g) f e = let same : g ≡ f = cc in ap Within same
within_is (Stopped g) f e = cc

between_is : (end : TextEnd) → stop_fault end ≡ None → within_fault end ≡ None → end ≡ Between
between_is Between e h = refl
between_is (Within g) e h = cc
between_is (Stopped g) e h = cc

-- What taking a form says

takes_sound : (k : Known) (tree : Tree) (read : Read smt.Command) (r : Command) (new : Known) → TakesAs k tree read (Ok r) new
    → (c : smt.Command) × (read ≡ Sound c) × (new ≡ known_by k tree c) × IsAnswered new.state c r
takes_sound k tree (Sound c) r new h = (c, refl, h.0, h.1)
takes_sound k tree (Faulty f fs) r new h = absurd h

takes_faulty : (k : Known) (tree : Tree) (read : Read smt.Command) (g : ScriptFault) (new : Known) → TakesAs k tree read (Err (stop.Fault g)) new
    → (f : Fault) × (fs : List Fault) × (read ≡ Faulty f fs) × (fault_meant g ≡ first_fault f fs)
takes_faulty k tree (Sound c) g new h = absurd h
takes_faulty k tree (Faulty f fs) g new h = (f, fs, refl, h.0)

module _ (l : Lexing) (forms : List (List Word)) (k : IsKept l forms false) where
  abbrev Steps : List Step
  Steps = steps_from first_known forms

  abbrev Now : State
  Now = (known_of forms).state

  pub going : IsGoing l Steps (known_of forms)
  going = k.going refl

  pub kept_fed : (piece : List ℕ) → IsKept (record l { text = extended l.text piece }) forms false
  kept_fed piece =
      let more = take (max_bytes + 1 - length l.text) piece in
      let e : extended l.text piece ≡ l.text ++ more = take_front (max_bytes + 1) l.text piece k.limit in
      let kept : IsKept (record l { text = l.text ++ more }) forms false = record {
        limit = subst (λ t. length t ≤ max_bytes + 1) e (omega (arith, length-take (max_bytes + 1) (l.text ++ piece)));
        first = first_stays l.text more Steps k.first;
        going = λ _. record {
          fault = going.fault;
          unfinished = going.unfinished;
          within = omega (arith, going.within, more_forms l.text more);
          run = run_stays l.text more l.given going.within ∙ going.run;
        };
      } in
      subst (λ text. IsKept (record l { text = text }) forms false) (sym e) kept

  pub kept_over : (new : Lexing) → new.text ≡ l.text → IsKept new forms true
  kept_over new e = record {
    limit = subst (λ t. length t ≤ max_bytes + 1) (sym e) k.limit;
    first = subst (λ t. AreFirst t Steps) (sym e) k.first;
    going = λ h. cc;
  }

  -- The text so far

  all_given : length (forms_of l.text) ≤ l.given → run_of limits l.text ≡ Going Steps Now
  all_given h = ap (λ fs. run_from limits first_state (trees_of l.text fs)) (sym (take_all l.given (forms_of l.text) h)) ∙ going.run

  pub has_run : next_form_of l.text l.given ≡ None → fault_of l.text ≡ None → HasRun (record { text = l.text; forms = forms; over = false })
  has_run e sound = record { going = refl; run = all_given (no_form (forms_of l.text) l.given e); sound = sound }

  run_says : run_of limits l.text ≡ Going Steps Now → (end : TextEnd) → (reading_of l.text).end ≡ end → reads l.text ≡ record { steps = Steps; end = end_of_text end }
  run_says run end e =
      reads_are limits l.text ∙ ap (λ r. goes_on r (λ now. ended (end_of_text (reading_of l.text).end))) run
      ∙ with_steps_is Steps (ended (end_of_text (reading_of l.text).end)) ∙ ap (λ xs. record { steps = xs; end = end_of_text (reading_of l.text).end }) (append-nil Steps)
      ∙ ap (λ (n : TextEnd). record { steps = Steps; end = end_of_text n }) e

  pub text_fault : (f : ScriptFault) → fault_behind (next_form_of l.text l.given) l.text ≡ Some f → SaysOnly l.text Steps (AtFault f.line f.column f.code)
  text_fault f e = λ more.
      let is = behind_is (next_form_of l.text l.given) l.text f e in
      let end = stopped_is (reading_of l.text).end f is.1 in
      stopped_goes limits text_goes_on l.text more f end ∙ run_says (all_given (no_form (forms_of l.text) l.given is.0)) (Stopped f) end

  -- The text ends

  module _ (h : HasRun (record { text = l.text; forms = forms; over = false })) where
    pub none_next : next_form_of l.text l.given ≡ None
    none_next =
        let first = run_count (first_trees l.text l.given) first_state Steps Now going.run in
        let all = run_count (trees_of l.text (forms_of l.text)) first_state Steps Now h.run in
        let good = forms_good l.text in
        let counted : length (first_trees l.text l.given) ≡ l.given =
        trees_length l.text (take l.given (forms_of l.text)) (All-take (λ form. (tree : Tree) × (form_tree l.text form ≡ Some tree)) l.given (forms_of l.text) good) ∙ length-take-le l.given (forms_of l.text) going.within in
        slice_get_past (forms_of l.text) l.given (omega (arith, first, all, counted, trees_length l.text (forms_of l.text) good))

    pub ends_well : end_fault_of l.text ≡ None → reads l.text ≡ record { steps = Steps; end = Done }
    ends_well e = run_says h.run Between (between_is (reading_of l.text).end h.sound e)

    pub ends_within : (f : ScriptFault) → end_fault_of l.text ≡ Some f → reads l.text ≡ record { steps = Steps; end = AtFault f.line f.column f.code }
    ends_within f e = run_says h.run (Within f) (within_is (reading_of l.text).end f e)

  -- A form was given

  module _ (form : List Token) (next : next_form_of l.text l.given ≡ Some form) where
    abbrev After : Lexing
    After = record l { given = l.given + 1 }

    pub is_given : IsGiven form After
    is_given = record { before = l.given; count = omega arith; last = next }

    abbrev IsTakenAs : Result Command TakeStop → List (List Word) → Type 0
    IsTakenAs r new = (tree : Tree) → form_tree l.text form ≡ Some tree → TakesAs (known_of forms) tree (command_read limits Now tree) r (known_of new)

    inside : l.given < length (forms_of l.text)
    inside = slice_get_within (forms_of l.text) l.given form next

    the_tree : (tree : Tree) × (form_tree l.text form ≡ Some tree)
    the_tree = given_tree form After is_given

    run_then : run_to l.text (l.given + 1) ≡ runs_on (Going Steps Now) (λ now. run_from limits now (the_tree.0 ∷ []))
    run_then = run_more l.text l.given form the_tree.0 next the_tree.1 ∙ ap (λ r. runs_on r (λ now. run_from limits now (the_tree.0 ∷ []))) going.run

    pub command_fault : (g : ScriptFault) (new : List (List Word)) → IsTakenAs (Err (stop.Fault g)) new → SaysOnly l.text Steps (end_at_fault g)
    command_fault g new takes =
        let is = takes_faulty (known_of forms) the_tree.0 (command_read limits Now the_tree.0) g (known_of new) (takes the_tree.0 the_tree.1) in
        let end = ap end_at (sym is.3) in
        over_only l.text (l.given + 1) Steps (end_at_fault g) (omega (arith, inside))
        (run_then ∙ going_over Steps Now (ended (end_at (first_fault is.0 is.1))) (λ now. run_from limits now (the_tree.0 ∷ [])) (run_fault Now the_tree.0 is.0 is.1 is.2)
        ∙ ap (λ xs. Over (record { steps = xs; end = end_at (first_fault is.0 is.1) })) (append-nil Steps) ∙ ap (λ e. Over (record { steps = Steps; end = e })) end)

    module _ (r : Command) (new : List (List Word)) (takes : IsTakenAs (Ok r) new) (longer : new ≡ forms ++ map (word_of l.text) form ∷ []) where
      read : (c : smt.Command) × (command_read limits Now the_tree.0 ≡ Sound c) × (known_of new ≡ known_by (known_of forms) the_tree.0 c) × IsAnswered (known_of new).state c r
      read = takes_sound (known_of forms) the_tree.0 (command_read limits Now the_tree.0) r (known_of new) (takes the_tree.0 the_tree.1)

      abbrev x : Step
      x = record { before = Now; tree = the_tree.0; command = read.0 }

      steps : steps_from first_known new ≡ Steps ++ x ∷ []
      steps = ap (steps_from first_known) longer ∙ steps_by_form forms (map (word_of l.text) form) the_tree.0 read.0 the_tree.1 read.1

      says : (table_check_of x ≡ check_by r (known_by (known_of forms) the_tree.0 read.0)) × (ends r ≡ is_exit read.0)
      says = answer_says (known_of forms) the_tree.0 read.0 r (subst (λ (k : Known). IsAnswered k.state read.0 r) read.2 read.3)

      goes : is_exit read.0 ≡ false → run_to l.text (l.given + 1) ≡ Going (steps_from first_known new) (known_of new).state
      goes not =
          run_then ∙ going_on Steps (x ∷ []) Now (after Now the_tree.0 read.0) (λ now. run_from limits now (the_tree.0 ∷ [])) (run_command Now the_tree.0 read.0 read.1 not)
          ∙ ap (λ xs. Going xs (after Now the_tree.0 read.0)) (sym steps) ∙ ap (λ (k : Known). Going (steps_from first_known new) k.state) (sym read.2)

      exits : is_exit read.0 ≡ true → SaysOnly l.text (steps_from first_known new) Done
      exits exit =
          over_only l.text (l.given + 1) (steps_from first_known new) Done (omega (arith, inside))
          (run_then ∙ going_over Steps Now (record { steps = x ∷ []; end = Done }) (λ now. run_from limits now (the_tree.0 ∷ [])) (run_exit Now the_tree.0 read.0 read.1 exit)
          ∙ ap (λ xs. Over (record { steps = xs; end = Done })) (sym steps))

      first_then : AreFirst l.text (steps_from first_known new)
      first_then = by_exit (is_exit read.0) refl
        where
          by_exit : (b : Bool) → is_exit read.0 ≡ b → AreFirst l.text (steps_from first_known new)
          by_exit true e = only_first l.text (steps_from first_known new) Done (exits e)
          by_exit false e = going_first l.text (l.given + 1) (steps_from first_known new) (known_of new).state (omega (arith, inside)) (goes e)

      pub kept_taken : IsKept After new (ends r)
      kept_taken = record {
        limit = k.limit;
        first = first_then;
        going = λ e. record { fault = going.fault; unfinished = going.unfinished; within = omega (arith, inside); run = goes (sym says.1 ∙ e) };
      }

      pub gives : Gives (record { text = l.text; forms = forms; over = false }) (record { text = l.text; forms = new; over = ends r }) r
      gives = record {
        step = x;
        before = refl;
        read = read.1;
        text = refl;
        steps = steps;
        known = read.2;
        answered = read.3;
        values = taken_has_nodes (known_of forms) the_tree.0 r (known_of new) (history_is_known forms) read.0 (takes the_tree.0 the_tree.1) read.1;
        check = says.0 ∙ ap (check_by r) (sym read.2);
        over = refl;
        ended = λ e. exits (sym says.1 ∙ e);
      }

  pub goes_from : GoesOnFrom (record { text = l.text; forms = forms; over = false })
  goes_from = λ more.
      let from = reads_from l.text more l.given going.within in
      (from.0, from.1 ∙ ap (λ r. goes_on r (λ now. script_from limits now from.0 (end_of_text (reading_of (l.text ++ more)).end))) going.run)

-- Checks

front_of : {A : Type 0} (P : A → Type 0) (xs ys : List A) → All P (xs ++ ys) → All P xs
front_of P [] ys h = All-nil P
front_of P (x ∷ xs) ys h = All-cons P x xs (All-head P x (xs ++ ys) h) (front_of P xs ys (All-tail P x (xs ++ ys) h))

pub checks_kept : (text : List ℕ) (xs : List Step) → AreFirst text xs → All KeepsCheck (table_checks xs)
checks_kept text xs h =
    let first = h [] in
    let all = (scripts_keep_checks limits (text ++ []) (omega arith)).1 in
    front_of KeepsCheck (table_checks xs) (table_checks first.0) (subst (All KeepsCheck) (ap table_checks first.1 ∙ checks_append xs first.0) all)
