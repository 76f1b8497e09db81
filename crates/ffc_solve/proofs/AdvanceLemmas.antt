-- One more command of a dialogue.
use Rattle.std.proofs.Common.{◌≡◌, ℕ, inl, true, false, List, [], ◌∷◌, ◌++◌, length, take, drop, All, Option, Some, None, refl, sym, ap, ap₂, ◌∙◌, subst, append_assoc, append-nil, length-append}
use Rattle.std.specs.Global.{Vec}
use Rattle.std.proofs.Common.{Result, Ok, Err, OnOk, OnErr}
use Rattle.std.specs.Result.{IfOk}
use Rattle.std.proofs.lemmas.Bool.{false≢true}
use Rattle.std.proofs.lemmas.List.{take-append-drop}
use Rattle.ffc_base.specs.Outside.{Appends, AppendsPrefix}
use Rattle.ffc_cert.specs.declared.entries.Entry.{Entry}
use Rattle.ffc_smt.specs.Terms.{SetLogic, SetOption, GetOption, GetInfo, SolverName, Version, AssertionStackLevels, ReasonUnknown, Unsupported, Echo, CheckSat, CheckSatAssuming, GetModel, GetValue, GetUnsatCore, GetUnsatAssumptions, Exit}
use Rattle.ffc_smt.specs.Terms as smt
use Rattle.ffc_smt.specs.Scopes.{State}
use Rattle.ffc_smt.specs.Scripts.{Step, after, reads}
use Rattle.ffc_smt.specs.ScriptLaw.{HasNode}
use Rattle.ffc_smt.specs.TableChecks.{table_check_of, table_checks}
use Rattle.ffc_smt.specs.Answering.{asked_text, effect_of, Keeps, EndsModel, Forgets}
use Rattle.ffc_smt.specs.Answering as answering
use Rattle.ffc_elab.specs.declared.answers.Asked.{Asked}
use Rattle.ffc_elab.specs.declared.answers.Command.{Command}
use Rattle.ffc_elab.specs.declared.answers.Command.TheVariants as command
use Rattle.ffc_elab.specs.declared.answers.Effect.{Effect}
use Rattle.ffc_elab.specs.declared.answers.Effect.TheVariants as effect
use Rattle.ffc_elab.specs.Histories.{Known, assumptions_of}
use Rattle.ffc_elab.specs.Contexts.{terms_of}
use Rattle.ffc_elab.specs.Answers.{AsksFor, ChecksUnder, IsAnswered, IsInfo, IsQuiet, Says, effect_as}
use Rattle.ffc_answer.specs.Answers.{Last, after_effect, answer_of, answer_to, answers, answers_from, last_after, last_from}
use Rattle.ffc_answer.specs.Views.{IsRememberedAt}
use Rattle.ffc_script.specs.Answers.{Gives, check_by, ends}
use Rattle.ffc_script.specs.Kept.{AreFirst}
use Rattle.ffc_script.specs.Progress.{Progress, known_at, steps_of}
use Rattle.ffc_solve.specs.declared.remembered.Remembered.{Remembered}
use Rattle.ffc_solve.specs.declared.dialogue.Dialogue.{Dialogue}
use Rattle.ffc_solve.specs.declared.dialogue.Advance.{Advance}
use Rattle.ffc_solve.specs.declared.dialogue.Advance.TheVariants as advance
use Rattle.ffc_solve.specs.declared.stop.Stop.{Stop}
use Rattle.ffc_solve.specs.Changes.{Change}
use Rattle.ffc_solve.specs.Solving.{AreEntries}
use Rattle.ffc_solve.specs.Remembering.{Holds, IsAsked, IsNext, Remembers, effect_by, is_plain, remembered_after}
use Rattle.ffc_solve.specs.Underway.{GoesOn, IsCutAt, IsTold}
use Rattle.ffc_solve.proofs.ListLemmas.{between, Appends-nil, Appends-same, front_of, checks-append, checks-none, AreEntries-more, AnswersSplit, answers-append, answers-none, last-none, last_end}
use Rattle.ffc_solve.proofs.RememberLemmas.{remembered_next}

-- Commands and their answers

plain_no_check : (c : Command) (k : Known) → is_plain c ≡ true → check_by c k ≡ None
plain_no_check command.Check k e = absurd (false≢true e)
plain_no_check (command.CheckAssuming asked) k e = absurd (false≢true e)
plain_no_check command.Exit k e = refl
plain_no_check _ k e = refl

pub plain_goes_on : (c : Command) → is_plain c ≡ true → ends c ≡ false
plain_goes_on command.Exit e = absurd (false≢true e)
plain_goes_on _ e = refl

said_keeps : (text : List ℕ) (c : Command) → Says text c → effect_by c ≡ effect.Keeps
said_keeps text (command.Say t) h = refl
said_keeps text (command.Quiet e) h = absurd h
said_keeps text _ h = refl

quiet_effect : (e : Effect) (c : Command) → IsQuiet e c → effect_by c ≡ e
quiet_effect e (command.Quiet f) h = h
quiet_effect e command.Check h = absurd h
quiet_effect e (command.CheckAssuming asked) h = absurd h
quiet_effect e command.GetModel h = absurd h
quiet_effect e (command.GetValue asked) h = absurd h
quiet_effect e command.GetReason h = absurd h
quiet_effect e command.GetCore h = absurd h
quiet_effect e command.GetAssumptions h = absurd h
quiet_effect e (command.Say t) h = absurd h
quiet_effect e command.Unsupported h = absurd h
quiet_effect e command.Exit h = absurd h

info_keeps : (s : State) (i : smt.Info) (c : Command) → IsInfo s i c → effect_by c ≡ effect.Keeps
info_keeps s SolverName c h = said_keeps _ c h
info_keeps s Version c h = said_keeps _ c h
info_keeps s AssertionStackLevels c h = said_keeps _ c h
info_keeps s ReasonUnknown c h = ap effect_by h

under_keeps : (asked : List Asked) (c : Command) → ChecksUnder asked c → effect_by c ≡ effect.Keeps
under_keeps asked (command.Quiet e) h = absurd h
under_keeps asked _ h = refl

asks_keeps : (asked : List Asked) (c : Command) → AsksFor asked c → effect_by c ≡ effect.Keeps
asks_keeps asked (command.Quiet e) h = absurd h
asks_keeps asked _ h = refl

-- the effect that an answer names is that of the command
same_effect : (s : State) (d : smt.Command) (c : Command) → IsAnswered s d c → effect_by c ≡ effect_as (effect_of d)
same_effect s (GetOption o) c h = said_keeps _ c h
same_effect s (GetInfo i) c h = info_keeps s i c h
same_effect s smt.Unsupported c h = ap effect_by h
same_effect s (Echo bytes) c h = said_keeps _ c h
same_effect s CheckSat c h = ap effect_by h
same_effect s (CheckSatAssuming asked) c h = under_keeps _ c h
same_effect s GetModel c h = ap effect_by h
same_effect s (GetValue asked) c h = asks_keeps _ c h
same_effect s GetUnsatCore c h = ap effect_by h
same_effect s GetUnsatAssumptions c h = ap effect_by h
same_effect s Exit c h = ap effect_by h
same_effect s d c h = quiet_effect _ c h

remembers_after : (e : answering.Effect) (r : Option Remembered) (l : Option Last) → Remembers r l → Remembers (remembered_after (effect_as e) r) (after_effect e l)
remembers_after answering.Keeps r l h = h
remembers_after answering.EndsModel None None h = tt
remembers_after answering.EndsModel None (Some l) h = absurd h
remembers_after answering.EndsModel (Some r) None h = absurd h
remembers_after answering.EndsModel (Some r) (Some l) h = record { entry = h.entry; fresh = refl; core = h.core; asked = h.asked }
remembers_after answering.Forgets r l h = tt

-- What was given

module _ (p : Progress) (s : Dialogue) (entries : List Entry) (l : Option Last) (c : Command) (holds : Holds p s entries l) (gives : Gives p s.reader c) (first : AreFirst s.reader.text (steps_of s.reader)) where
  abbrev x : Step
  x = gives.step

  abbrev now : State
  now = after x.before x.tree x.command

  pub known_is : known_at s.reader ≡ record { state = now; assumptions = assumptions_of x.command }
  known_is = gives.known ∙ ap (λ st. record { state = after st x.tree x.command; assumptions = assumptions_of x.command }) (sym gives.before)

  pub state_is : (known_at s.reader).state ≡ now
  state_is = ap (λ k. k.state) known_is

  pub answered_is : IsAnswered now x.command c
  answered_is = subst (λ st. IsAnswered st x.command c) state_is gives.answered

  values_are : All (HasNode now.nodes) (terms_of x.command)
  values_are = subst (λ st. All (HasNode st.nodes) (terms_of x.command)) state_is gives.values

  kept_then : IsRememberedAt l x.before
  kept_then = subst (IsRememberedAt l) (sym gives.before) holds.kept

  -- a command that is no check
  module _ (none : table_check_of x ≡ None) where
    same_checks : table_checks (steps_of s.reader) ≡ table_checks (steps_of p)
    same_checks = ap table_checks gives.steps ∙ checks-append (steps_of p) (x ∷ []) ∙ ap (λ cs. table_checks (steps_of p) ++ cs) (checks-none x [] None none) ∙ append-nil (table_checks (steps_of p))

    split : (rest : List Step) → AnswersSplit None (steps_of p) (x ∷ rest) entries []
    split rest = answers-append (steps_of p) (x ∷ rest) None entries [] holds.count

    pub answers_plain : (rest : List Step) → answers ((steps_of p ++ x ∷ []) ++ rest) entries ≡ answers (steps_of p) entries ++ (answer_of (last_after l x.command) x ++ answers_from (last_after l x.command) rest [])
    answers_plain rest =
        ap₂ (λ xs es. answers_from None xs es) (append_assoc (steps_of p) (x ∷ []) rest) (sym (append-nil entries)) ∙ (split rest).answers_are
        ∙ ap (λ k. answers_from None (steps_of p) entries ++ answers_from k (x ∷ rest) []) holds.last
        ∙ ap (λ t. answers_from None (steps_of p) entries ++ t) (answers-none x rest l [] none)

    last_plain : last_from None (steps_of s.reader) entries ≡ last_after l x.command
    last_plain =
        ap₂ (λ xs es. last_from None xs es) gives.steps (sym (append-nil entries)) ∙ (split []).last_is
        ∙ ap (λ k. last_from k (x ∷ []) []) holds.last ∙ last-none x [] l [] none ∙ last_end (last_after l x.command)

    pub kept_plain : IsRememberedAt (last_after l x.command) now
    kept_plain = remembered_next l x.before x.tree x.command kept_then

    pub remembers_plain : Remembers (remembered_after (effect_by c) s.last) (last_after l x.command)
    remembers_plain =
        subst (λ e. Remembers (remembered_after e s.last) (last_after l x.command)) (sym (same_effect now x.command c answered_is))
        (remembers_after (effect_of x.command) s.last l holds.remembers)

    pub holds_plain : (t : Dialogue) → t ≡ record s { last = remembered_after (effect_by c) s.last } → Holds t.reader t entries (last_after l x.command)
    holds_plain t is = subst (λ (u : Dialogue). Holds u.reader u entries (last_after l x.command)) (sym is) (record {
      each = subst (λ cs. AreEntries s.task cs entries) (sym same_checks) holds.each;
      count = holds.count ∙ ap length (sym same_checks);
      last = last_plain;
      remembers = remembers_plain;
      kept = subst (IsRememberedAt (last_after l x.command)) (sym state_is) kept_plain;
      tally = holds.tally;
    })

    pub asked_plain : (t : Dialogue) → t ≡ record s { last = remembered_after (effect_by c) s.last } → IsAsked t c (last_after l x.command) x
    asked_plain t is = subst (λ (u : Dialogue). IsAsked u c (last_after l x.command) x) (sym is) (record {
      values = values_are;
      known = known_is;
      answered = answered_is;
      kept = kept_plain;
      remembers = remembers_plain;
    })

    checks_on : (rest : List Step) → table_checks ((steps_of p ++ x ∷ []) ++ rest) ≡ table_checks (steps_of p) ++ table_checks rest
    checks_on rest = ap table_checks (append_assoc (steps_of p) (x ∷ []) rest) ∙ checks-append (steps_of p) (x ∷ rest) ∙ ap (λ cs. table_checks (steps_of p) ++ cs) (checks-none x rest None none)

    pub told_plain : (t : Dialogue) (cert out : Change) → t ≡ record s { last = remembered_after (effect_by c) s.last } → cert.new ≡ cert.old → Appends (answer_of (last_after l x.command) x) out.old out.new
        → IsTold (record s { reader = p }) t entries cert out
    unfolding answers_from
    told_plain t cert out is same written =
        let answer = answer_of (last_after l x.command) x in
        record {
          more = [];
          last = last_after l x.command;
          holds = subst (λ es. Holds t.reader t es (last_after l x.command)) (sym (append-nil entries)) (holds_plain t is);
          certificate = Appends-same [] cert.old cert.old cert.new same (Appends-nil cert.old);
          text = answer;
          answered = written;
          answers_are = ap₂ (λ xs es. answers xs es) (ap (λ (u : Dialogue). steps_of u.reader) is ∙ gives.steps ∙ sym (append-nil (steps_of p ++ x ∷ []))) (append-nil entries) ∙ answers_plain []
              ∙ ap (λ a. answers (steps_of p) entries ++ a) (append-nil answer);
          same_text = ap (λ (u : Dialogue). u.reader.text) is ∙ gives.text;
          longer = ap (λ (u : Dialogue). length (steps_of u.reader)) is ∙ ap (λ (xs : List Step). length xs) gives.steps ∙ length-append (steps_of p) (x ∷ []);
          task = ap (λ (u : Dialogue). u.task) is;
          taken = ap (λ (u : Dialogue). u.taken) is;
        }

    pub cut_plain : (more : List ℕ) (cert out : Change) → cert.new ≡ cert.old → AppendsPrefix (answer_of (last_after l x.command) x) out.old out.new → IsCutAt (record s { reader = p }) entries more cert out
    cut_plain more cert out same written =
        let (rest, e) = first more in
        let steps_are : (reads (p.text ++ more)).steps ≡ (steps_of p ++ x ∷ []) ++ rest = ap (λ t. (reads (t ++ more)).steps) (sym gives.text) ∙ e ∙ ap (λ xs. xs ++ rest) gives.steps in
        let answer = answer_of (last_after l x.command) x in
        let later = answers_from (last_after l x.command) rest [] in
        let front = front_of answer out.old out.new written in
        record {
          later = [];
          each = subst (λ xs. AreEntries s.task (table_checks xs) (entries ++ [])) (sym steps_are)
              (subst (λ cs. AreEntries s.task cs (entries ++ [])) (sym (checks_on rest)) (subst (AreEntries s.task (table_checks (steps_of p) ++ table_checks rest)) (sym (append-nil entries)) (AreEntries-more s.task (table_checks (steps_of p)) (table_checks rest) entries holds.each)));
          part = [];
          rest = inl refl;
          certificate = Appends-same [] cert.old cert.old cert.new same (Appends-nil cert.old);
          text = take front.size answer;
          answered = front.appended;
          behind = drop front.size answer ++ later;
          answers_are = ap₂ (λ xs es. answers xs es) steps_are (append-nil entries) ∙ answers_plain rest
              ∙ ap (λ a. answers (steps_of p) entries ++ (a ++ later)) (sym (take-append-drop front.size answer))
              ∙ ap (λ a. answers (steps_of p) entries ++ a) (append_assoc (take front.size answer) (drop front.size answer) later);
        }

-- Commands that are answered at once

pub plain_from : (c : Command) → (c ≡ command.Check → ⊥) → ((asked : Vec Asked) → c ≡ command.CheckAssuming asked → ⊥) → (c ≡ command.Exit → ⊥) → is_plain c ≡ true
plain_from command.Check a b d = absurd (a refl)
plain_from (command.CheckAssuming asked) a b d = absurd (b asked refl)
plain_from command.Exit a b d = absurd (d refl)
plain_from _ a b d = refl

pub plain_ok : (r : Result Advance Stop) (s t : Dialogue) (c : Command) (co : Option (List ℕ)) (out : Change) → AreFirst s.reader.text (steps_of s.reader) → t ≡ record s { last = remembered_after (effect_by c) s.last } → is_plain c ≡ true
    → OnOk r ((p : Progress) (entries : List Entry) (l : Option Last) (n : IsNext p s entries l c) → Appends (answer_of (last_after l n.gives.step.command) n.gives.step) out.old out.new) → IfOk r (λ a. a ≡ advance.Answered)
    → IfOk r (λ a. (p : Progress) (entries : List Entry) (l : Option Last) → Holds p s entries l → Gives p s.reader c → GoesOn (record s { reader = p }) t entries (between co co) out a)
plain_ok (Err e) s t c co out first is plain ok answered = tt
plain_ok (Ok a) s t c co out first is plain ok answered = λ p entries l holds gives.
    subst (GoesOn (record s { reader = p }) t entries (between co co) out) (sym answered) (
      told_plain p s entries l c holds gives first (gives.check ∙ plain_no_check c (known_at s.reader) plain) t (between co co) out is refl (ok p entries l (record { holds = holds; gives = gives; plain = plain })),
      ap (λ (u : Dialogue). u.reader.over) is ∙ gives.over ∙ plain_goes_on c plain,
    )

pub plain_err : (r : Result Advance Stop) (s : Dialogue) (c : Command) (co : Option (List ℕ)) (out : Change) → AreFirst s.reader.text (steps_of s.reader) → is_plain c ≡ true
    → OnErr r ((p : Progress) (entries : List Entry) (l : Option Last) (n : IsNext p s entries l c) → AppendsPrefix (answer_of (last_after l n.gives.step.command) n.gives.step) out.old out.new)
    → OnErr r ((p : Progress) (entries : List Entry) (l : Option Last) (more : List ℕ) → Holds p s entries l → Gives p s.reader c → IsCutAt (record s { reader = p }) entries more (between co co) out)
plain_err (Ok a) s c co out first plain err = tt
plain_err (Err e) s c co out first plain err = λ p entries l more holds gives.
    cut_plain p s entries l c holds gives first (gives.check ∙ plain_no_check c (known_at s.reader) plain) more (between co co) out refl (err p entries l (record { holds = holds; gives = gives; plain = plain }))

-- the end of a script is not answered
exit_silent : (k : Option Last) (s t : State) (d : smt.Command) → IsAnswered t d command.Exit → answer_to k s d ≡ []
exit_silent k s t Exit h = refl
exit_silent k s t (GetInfo SolverName) h = absurd h
exit_silent k s t (GetInfo Version) h = absurd h
exit_silent k s t (GetInfo AssertionStackLevels) h = absurd h
exit_silent k s t (GetInfo ReasonUnknown) h = cc
exit_silent k s t smt.Unsupported h = cc
exit_silent k s t CheckSat h = cc
exit_silent k s t GetModel h = cc
exit_silent k s t GetUnsatCore h = cc
exit_silent k s t GetUnsatAssumptions h = cc
exit_silent k s t _ h = absurd h

pub exit_told : (p : Progress) (s : Dialogue) (entries : List Entry) (l : Option Last) (c : Command) (co oo : Option (List ℕ)) → Holds p s entries l → (gives : Gives p s.reader c) → AreFirst s.reader.text (steps_of s.reader) → c ≡ command.Exit
    → GoesOn (record s { reader = p }) s entries (between co co) (between oo oo) advance.Ended
exit_told p s entries l c co oo holds gives first e =
    let none = gives.check ∙ ap (λ d. check_by d (known_at s.reader)) e in
    let same : s ≡ record s { last = remembered_after (effect_by c) s.last } = λ i. record s { last = remembered_after (effect_by (sym e i)) s.last } in
    let x = gives.step in
    let answered = subst (IsAnswered (after x.before x.tree x.command) x.command) e (answered_is p s entries l c holds gives first) in
    let silent = exit_silent (last_after l x.command) (after x.before x.tree x.command) (after x.before x.tree x.command) x.command answered in
    (told_plain p s entries l c holds gives first none s (between co co) (between oo oo) same refl (subst (λ a. Appends a oo oo) (sym silent) (Appends-nil oo)), gives.ended (ap ends e))

-- nothing was written
pub cut_here : (s : Dialogue) (entries : List Entry) (l : Option Last) (more : List ℕ) (co oo : Option (List ℕ)) → Holds s.reader s entries l → AreFirst s.reader.text (steps_of s.reader) → IsCutAt s entries more (between co co) (between oo oo)
cut_here s entries l more co oo holds first =
    let (rest, e) = first more in
    let steps_are : (reads (s.reader.text ++ more)).steps ≡ steps_of s.reader ++ rest = e in
    let split = answers-append (steps_of s.reader) rest None entries [] holds.count in
    record {
      later = [];
      each = subst (λ xs. AreEntries s.task (table_checks xs) (entries ++ [])) (sym steps_are)
          (subst (λ cs. AreEntries s.task cs (entries ++ [])) (sym (checks-append (steps_of s.reader) rest))
          (subst (AreEntries s.task (table_checks (steps_of s.reader) ++ table_checks rest)) (sym (append-nil entries)) (AreEntries-more s.task (table_checks (steps_of s.reader)) (table_checks rest) entries holds.each)));
      part = [];
      rest = inl refl;
      certificate = Appends-nil co;
      text = [];
      answered = Appends-nil oo;
      behind = answers_from (last_from None (steps_of s.reader) entries) rest [];
      answers_are = ap (λ xs. answers xs (entries ++ [])) steps_are ∙ split.answers_are;
    }

-- what a dialogue remembers stays where its reader goes on
pub holds_moved : (p q : Progress) (s : Dialogue) (entries : List Entry) (l : Option Last) → Holds p s entries l → Holds p (record s { reader = q }) entries l
holds_moved p q s entries l h = record { each = h.each; count = h.count; last = h.last; remembers = h.remembers; kept = h.kept; tally = h.tally }

pub ok_weaker : {T E : Type 0} (r : Result T E) (P Q : T → Type 0) → ((x : T) → P x → Q x) → IfOk r P → IfOk r Q
ok_weaker (Ok x) P Q f h = f x h
ok_weaker (Err e) P Q f h = tt

pub err_weaker : {T E : Type 0} (r : Result T E) (P Q : Type 0) → (P → Q) → OnErr r P → OnErr r Q
err_weaker (Ok x) P Q f h = tt
err_weaker (Err e) P Q f h = f h

-- a dialogue that is to answer a command, after its effect
pub asked_next : (p : Progress) (s t : Dialogue) (entries : List Entry) (l : Option Last) (c : Command) → AreFirst s.reader.text (steps_of s.reader) → t ≡ record s { last = remembered_after (effect_by c) s.last } → (n : IsNext p s entries l c)
    → IsAsked t c (last_after l n.gives.step.command) n.gives.step
asked_next p s t entries l c first is n = asked_plain p s entries l c n.holds n.gives first (n.gives.check ∙ plain_no_check c (known_at s.reader) n.plain) t is
