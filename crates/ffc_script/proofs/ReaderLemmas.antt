-- What the calls of a reader answer, from what the calls below them do.
use Rattle.std.proofs.Common.{◌≡◌, ℕ, ◌+◌, Bool, true, false, List, [], ◌∷◌, ◌++◌, map, Some, None, Option, MatchOption, Result, Ok, Err, refl, sym, ap, ◌∙◌, subst}
use Rattle.ffc_lex.specs.declared.tokens.Token.{Token}
use Rattle.ffc_lex.specs.declared.faults.ScriptFault.{ScriptFault}
use Rattle.ffc_lex.specs.declared.faults.LexStop.{LexStop}
use Rattle.ffc_lex.specs.declared.faults.LexStop.TheVariants as lex
use Rattle.ffc_lex.specs.Lexing.{Lexing, IsRead, MatchStop, next_form_of, due_form, due_fault, end_fault, fault_behind}
use Rattle.ffc_lex.specs.Reading.{fault_of}
use Rattle.ffc_smt.specs.Trees.{Word, Tree, word_of, form_tree}
use Rattle.ffc_smt.specs.CommandReading.{limits, command_read}
use Rattle.ffc_smt.specs.Scripts.{Done, AtFault, reads}
use Rattle.ffc_words.specs.declared.faults.TakeStop.{TakeStop}
use Rattle.ffc_words.specs.declared.faults.TakeStop.TheVariants as stop
use Rattle.ffc_words.specs.Given.{IsGiven}
use Rattle.ffc_elab.specs.declared.answers.Command.{Command}
use Rattle.ffc_elab.specs.Histories.{known_of}
use Rattle.ffc_elab.specs.Answers.{TakesAs}
use Rattle.ffc_script.specs.Stops.{lexing_stop, taking_stop}
use Rattle.ffc_script.specs.Progress.{Progress}
use Rattle.ffc_script.specs.Answers.{ends, Gives, HasRun, SaysAll, StopsAt, EndsAt}
use Rattle.ffc_script.specs.Kept.{IsKept}
use Rattle.ffc_script.proofs.KeptLemmas.{going, kept_over, kept_taken, has_run, text_fault, is_given, command_fault, gives, none_next, ends_well, ends_within}

abbrev pub seen : Lexing → List (List Word) → Bool → Progress
seen l forms over = record { text = l.text; forms = forms; over = over }

module _ (l : Lexing) (forms : List (List Word)) (over : Bool) (now : Progress) (view : seen l forms over ≡ now) (closed : now.over ≡ false) (was : IsKept l forms over) where
  pub open_now : over ≡ false
  open_now = ap (λ p. p.over) view ∙ closed

  pub kept_now : IsKept l forms false
  kept_now = subst (IsKept l forms) open_now was

  now_is : seen l forms false ≡ now
  now_is = ap (seen l forms) (sym open_now) ∙ view

  fault_none : l.fault ≡ None
  fault_none = (going l forms kept_now).fault

  pub over_is : (new : Lexing) (more : List (List Word)) → new.text ≡ l.text → more ≡ forms → seen new more true ≡ record now { over = true }
  over_is new more e f = ap (λ t. record { text = t; forms = more; over = true }) e ∙ ap (λ fs. record { text = l.text; forms = fs; over = true }) f ∙ ap (λ (p : Progress). record p { over = true }) view

  -- The lexer stops

  abbrev LexStops : Lexing → LexStop → Type 0
  LexStops new s = MatchStop s (λ fault. (due_fault l.fault l.text l.given ≡ Some fault) × (new ≡ record l { fault = Some fault })) (new ≡ l)

  pub lex_text : (new : Lexing) (s : LexStop) → LexStops new s → new.text ≡ l.text
  lex_text new (lex.Fault f) h = ap (λ l. l.text) h.1
  lex_text new lex.Memory h = ap (λ l. l.text) h

  stops_open : (new : Lexing) (s : LexStop) → LexStops new s → StopsAt (seen l forms false) (lexing_stop s)
  stops_open new (lex.Fault f) h = text_fault l forms kept_now f (ap (λ o. due_fault o l.text l.given) (sym fault_none) ∙ h.0)
  stops_open new lex.Memory h = tt

  pub lex_stops : (new : Lexing) (s : LexStop) → LexStops new s → StopsAt now (lexing_stop s)
  lex_stops new s h = subst (λ p. StopsAt p (lexing_stop s)) now_is (stops_open new s h)

  -- No form is left

  pub runs : None ≡ due_form l.fault l.text l.given → due_fault l.fault l.text l.given ≡ None → HasRun now
  runs none sound =
      let next : next_form_of l.text l.given ≡ None = ap (λ o. due_form o l.text l.given) (sym fault_none) ∙ sym none in
      let fault : fault_of l.text ≡ None = ap (λ o. fault_behind o l.text) (sym next) ∙ ap (λ o. due_fault o l.text l.given) (sym fault_none) ∙ sound in
      subst HasRun now_is (has_run l forms kept_now next fault)

  -- A form was given

  module _ (form : List Token) (due : Some form ≡ due_form l.fault l.text l.given) where
    next : next_form_of l.text l.given ≡ Some form
    next = ap (λ o. due_form o l.text l.given) (sym fault_none) ∙ sym due

    pub given_now : (new : Lexing) → new ≡ record l { given = l.given + 1 } → IsGiven form new
    given_now new e = subst (IsGiven form) (sym e) (is_given l forms kept_now form next)

    abbrev TakenBy : Lexing → Result Command TakeStop → List (List Word) → Type 0
    TakenBy new r more = (tree : Tree) → form_tree new.text form ≡ Some tree → TakesAs (known_of forms) tree (command_read limits (known_of forms).state tree) r (known_of more)

    abbrev Longer : Lexing → List (List Word) → Type 0
    Longer new more = more ≡ forms ++ map (word_of new.text) form ∷ []

    pub kept_then : (new : Lexing) (r : Command) (more : List (List Word)) (b : Bool) → new ≡ record l { given = l.given + 1 } → TakenBy new (Ok r) more → Longer new more → b ≡ ends r → IsKept new more b
    kept_then new r more b e takes longer is =
        subst (IsKept new more) (sym is)
        (subst (λ (n : Lexing). TakenBy n (Ok r) more → Longer n more → IsKept n more (ends r)) (sym e) (λ t m. kept_taken l forms kept_now form next r more t m) takes longer)

    pub gives_then : (new : Lexing) (r : Command) (more : List (List Word)) (b : Bool) → new ≡ record l { given = l.given + 1 } → TakenBy new (Ok r) more → Longer new more → b ≡ ends r → Gives now (seen new more b) r
    gives_then new r more b e takes longer is =
        subst (λ c. Gives now (seen new more c) r) (sym is)
        (subst (λ p. Gives p (seen new more (ends r)) r) now_is
        (subst (λ (n : Lexing). TakenBy n (Ok r) more → Longer n more → Gives (seen l forms false) (seen n more (ends r)) r) (sym e) (λ t m. gives l forms kept_now form next r more t m) takes longer))

    command_stops : (new : Lexing) (s : TakeStop) (more : List (List Word)) → new.text ≡ l.text → TakenBy new (Err s) more → StopsAt (seen l forms false) (taking_stop s)
    command_stops new (stop.Fault g) more e takes =
        command_fault l forms kept_now form next g more
        (subst (λ t. (tree : Tree) → form_tree t form ≡ Some tree → TakesAs (known_of forms) tree (command_read limits (known_of forms).state tree) (Err (stop.Fault g)) (known_of more)) e takes)
    command_stops new stop.Memory more e takes = tt

    pub take_stops : (new : Lexing) (s : TakeStop) (more : List (List Word)) → new.text ≡ l.text → TakenBy new (Err s) more → StopsAt now (taking_stop s)
    take_stops new s more e takes = subst (λ p. StopsAt p (taking_stop s)) now_is (command_stops new s more e takes)

  -- The text ends

  module _ (h : HasRun now) where
    here : HasRun (seen l forms false)
    here = subst HasRun (sym now_is) h

    pub all_read : IsRead l
    all_read = read_by l.fault fault_none
      where
        read_by : (o : Option ScriptFault) → o ≡ None → MatchOption o ((next_form_of l.text l.given ≡ None) × (fault_of l.text ≡ None)) (λ _. Unit {0})
        read_by None e = (none_next l forms kept_now here, here.sound)
        read_by (Some f) e = tt

    pub says_all : end_fault l.fault l.text ≡ None → SaysAll now
    says_all e = subst SaysAll now_is (ends_well l forms kept_now here (ap (λ o. end_fault o l.text) (sym fault_none) ∙ e))

    abbrev EndStops : Lexing → LexStop → Type 0
    EndStops new s = MatchStop s (λ fault. (end_fault l.fault l.text ≡ Some fault) × (new ≡ record l { fault = Some fault; finished = true })) (new ≡ l)

    pub end_text : (new : Lexing) (s : LexStop) → EndStops new s → new.text ≡ l.text
    end_text new (lex.Fault f) h = ap (λ l. l.text) h.1
    end_text new lex.Memory h = ap (λ l. l.text) h

    ends_open : (new : Lexing) (s : LexStop) → EndStops new s → EndsAt (seen l forms false) (lexing_stop s)
    ends_open new (lex.Fault f) h = ends_within l forms kept_now here f (ap (λ o. end_fault o l.text) (sym fault_none) ∙ h.0)
    ends_open new lex.Memory h = tt

    pub end_stops : (new : Lexing) (s : LexStop) → EndStops new s → EndsAt now (lexing_stop s)
    end_stops new s h = subst (λ p. EndsAt p (lexing_stop s)) now_is (ends_open new s h)
