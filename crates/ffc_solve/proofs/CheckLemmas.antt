-- A check of a dialogue.
use Rattle.std.proofs.Common.{◌≡◌, ℕ, ◌+◌, ◌<◌, ◌≤◌, ◌^◌, inl, inr, List, [], ◌∷◌, ◌++◌, length, map, take, drop, Option, Some, None, option_map, slice_get, Contains, refl, sym, ap, ap₂, ◌∙◌, subst, arith, append_assoc, append-nil, length-append}
use Rattle.std.specs.Global.{Vec}
use Rattle.std.proofs.lemmas.Bool.{cases_lt}
use Rattle.std.proofs.lemmas.List.{take-append-drop, take_all}
use Rattle.std.proofs.lemmas.List.Elements.{All-contains, Contains-append_left, Contains-append_right}
use Rattle.ffc_base.specs.Outside.{Appends}
use Rattle.ffc_cert.specs.declared.entries.Entry.{Entry}
use Rattle.ffc_cert.specs.declared.entries.Entry.TheVariants.{Sat, UnsatCases, UnsatSteps, Unknown}
use Rattle.ffc_cert.specs.Spelling.{entry_text}
use Rattle.ffc_smt.specs.Terms.{SetLogic, SetOption, GetOption, GetInfo, SolverName, Version, AssertionStackLevels, ReasonUnknown, Unsupported, Echo, CheckSat, CheckSatAssuming, GetModel, GetValue, GetUnsatCore, GetUnsatAssumptions, Exit}
use Rattle.ffc_smt.specs.Terms as smt
use Rattle.ffc_smt.specs.Scopes.{State}
use Rattle.ffc_smt.specs.CommandReading.{limits}
use Rattle.ffc_smt.specs.Scripts.{Step, after, reads}
use Rattle.ffc_smt.specs.States.{IsSoundState}
use Rattle.ffc_smt.specs.TableChecks.{TableCheck, nodes_in_force, table_check_of, table_checks}
use Rattle.ffc_smt.specs.CheckLaws.{KeepsCheck}
use Rattle.ffc_smt.specs.Answering.{asked_text}
use Rattle.ffc_smt.proofs.ScriptLemmas.{scripts_keep_states}
use Rattle.ffc_rules.specs.Cores.{core}
use Rattle.ffc_elab.specs.declared.answers.Asked.{Asked}
use Rattle.ffc_elab.specs.declared.answers.Command.{Command}
use Rattle.ffc_elab.specs.declared.answers.Command.TheVariants as command
use Rattle.ffc_elab.specs.Histories.{check_now}
use Rattle.ffc_elab.specs.Answers.{IsAnswered, asked_as}
use Rattle.ffc_answer.specs.Answers.{Last, answer_of, answers, answers_from, assumptions_in, checked, last_from, sat_count, unsat_count, unknown_count, verdict}
use Rattle.ffc_answer.specs.Views.{IsRememberedAt}
use Rattle.ffc_script.specs.Answers.{Gives}
use Rattle.ffc_script.specs.Kept.{AreFirst}
use Rattle.ffc_script.specs.Progress.{Progress, known_at, steps_of}
use Rattle.ffc_script.proofs.KeptLemmas.{checks_kept}
use Rattle.ffc_solve.specs.declared.remembered.Tally.{Tally}
use Rattle.ffc_solve.specs.declared.dialogue.Dialogue.{Dialogue}
use Rattle.ffc_solve.specs.Changes.{Change}
use Rattle.ffc_solve.specs.Solving.{AreEntries, IsRight}
use Rattle.ffc_solve.specs.Remembering.{Counts, HasRoom, Holds, IsChecked, Remembers, counted, texts_of}
use Rattle.ffc_solve.specs.Underway.{IsCutAt, IsHalfTold, IsTold}
use Rattle.ffc_solve.proofs.ListLemmas.{Appends-nil, Appends-same, front_of, checks-append, checks-some, AreEntries-more, AreEntries-push, check_at_end, AnswersSplit, answers-append, answers-some, answers-end, last-some, last_end, counts-push, sat-more, unsat-more, unknown-more, sat-few, unsat-few, unknown-few, checks-few}
use Rattle.ffc_solve.proofs.RememberLemmas.{after_check, verdict_answered}
use Rattle.ffc_solve.proofs.AdvanceLemmas.{state_is}

-- Assumptions as they are answered

texts_same : (nodes : State) (terms : List smt.Asked) → map (λ (a : Asked). a.text) (map (asked_as nodes.nodes) terms) ≡ map asked_text terms
texts_same s [] = refl
texts_same s (a ∷ terms) = ap (λ ts. asked_text a ∷ ts) (texts_same s terms)

pub asked_texts : (s : State) (d : smt.Command) (asked : Vec Asked) → IsAnswered s d (command.CheckAssuming asked) → texts_of (Some asked) ≡ option_map (map asked_text) (assumptions_in d)
asked_texts s (CheckSatAssuming terms) asked h = ap Some (ap (map (λ (a : Asked). a.text)) h ∙ texts_same s terms)
asked_texts s (GetInfo SolverName) asked h = absurd h
asked_texts s (GetInfo Version) asked h = absurd h
asked_texts s (GetInfo AssertionStackLevels) asked h = absurd h
asked_texts s (GetInfo ReasonUnknown) asked h = cc
asked_texts s smt.Unsupported asked h = cc
asked_texts s CheckSat asked h = cc
asked_texts s GetModel asked h = cc
asked_texts s GetUnsatCore asked h = cc
asked_texts s GetUnsatAssumptions asked h = cc
asked_texts s Exit asked h = cc
asked_texts s _ asked h = absurd h

pub no_texts : (s : State) (d : smt.Command) → IsAnswered s d command.Check → None ≡ option_map (map asked_text) (assumptions_in d)
no_texts s CheckSat h = refl
no_texts s (CheckSatAssuming terms) h = absurd h
no_texts s _ h = refl

add-none : (n : ℕ) → n ≡ n + 0
add-none n = omega arith

-- one more entry can be counted
pub room_for : (p : Progress) (s : Dialogue) (entries : List Entry) (l : Option Last) (c : Command) → Holds p s entries l → Gives p s.reader c → length (steps_of s.reader) ≤ length s.reader.text → length s.reader.text ≤ 67108865 → HasRoom s.tally
room_for p s entries l c holds gives few short =
    let one = sat-few entries in
    let two = unsat-few entries in
    let three = unknown-few entries in
    let checks = checks-few (steps_of p) in
    let long : length (steps_of s.reader) ≡ length (steps_of p) + 1 = ap (λ (xs : List Step). length xs) gives.steps ∙ length-append (steps_of p) (gives.step ∷ []) in
    let all = holds.count in
    let a = holds.tally.sat in
    let b = holds.tally.unsat in
    let d = holds.tally.unknown in
    record { sat = omega arith; unsat = omega arith; unknown = omega arith }

module _ (p : Progress) (s : Dialogue) (entries : List Entry) (l : Option Last) (c : Command) (holds : Holds p s entries l) (gives : Gives p s.reader c) (first : AreFirst s.reader.text (steps_of s.reader))
    (is : table_check_of gives.step ≡ Some (check_now (known_at s.reader))) (entry : Entry) (right : IsRight s.task (check_now (known_at s.reader)) entry) where
  abbrev x : Step
  x = gives.step

  abbrev now : State
  now = after x.before x.tree x.command

  abbrev check : TableCheck
  check = check_now (known_at s.reader)

  abbrev then : Option Last
  then = Some (checked x.command check entry)

  pub checks_then : table_checks (steps_of s.reader) ≡ table_checks (steps_of p) ++ check ∷ []
  checks_then = ap table_checks gives.steps ∙ checks-append (steps_of p) (x ∷ []) ∙ ap (λ cs. table_checks (steps_of p) ++ cs) (checks-some x [] None check is)

  pub at_end : Contains (table_checks (steps_of s.reader)) check
  at_end = subst (λ cs. Contains cs check) (sym checks_then) (Contains-append_right (table_checks (steps_of p)) (check ∷ []) check (0, omega arith, refl))

  kept_check : KeepsCheck check
  kept_check = All-contains KeepsCheck (table_checks (steps_of s.reader)) check (checks_kept s.reader.text (steps_of s.reader) first) at_end

  sound_now : IsSoundState now
  sound_now =
      let (rest, e) = first [] in
      let all = scripts_keep_states limits (s.reader.text ++ []) (omega arith) in
      let has : Contains ((steps_of p ++ x ∷ []) ++ rest) x = Contains-append_left (steps_of p ++ x ∷ []) rest x (Contains-append_right (steps_of p) (x ∷ []) x (0, omega arith, refl)) in
      (All-contains (λ (y : Step). IsSoundState y.before × IsSoundState (after y.before y.tree y.command)) (reads (s.reader.text ++ [])).steps x all (subst (λ xs. Contains xs x) (sym (e ∙ ap (λ xs. xs ++ rest) gives.steps)) has)).1

  checks_on : (rest : List Step) → table_checks ((steps_of p ++ x ∷ []) ++ rest) ≡ (table_checks (steps_of p) ++ check ∷ []) ++ table_checks rest
  checks_on rest =
      ap table_checks (append_assoc (steps_of p) (x ∷ []) rest) ∙ checks-append (steps_of p) (x ∷ rest) ∙ ap (λ cs. table_checks (steps_of p) ++ cs) (checks-some x rest None check is)
      ∙ sym (append_assoc (table_checks (steps_of p)) (check ∷ []) (table_checks rest))

  each_then : AreEntries s.task (table_checks (steps_of p) ++ check ∷ []) (entries ++ entry ∷ [])
  each_then = AreEntries-push s.task (table_checks (steps_of p)) entries check entry holds.count holds.each right

  split : (rest : List Step) (fs : List Entry) → AnswersSplit None (steps_of p) (x ∷ rest) entries fs
  split rest fs = answers-append (steps_of p) (x ∷ rest) None entries fs holds.count

  verdict_is : answer_of then x ≡ verdict entry
  verdict_is = verdict_answered x.before x.tree x.command check entry is

  answers_then : (rest : List Step) → answers ((steps_of p ++ x ∷ []) ++ rest) (entries ++ entry ∷ []) ≡ answers (steps_of p) entries ++ (verdict entry ++ answers_from then rest [])
  answers_then rest =
      ap (λ xs. answers_from None xs (entries ++ entry ∷ [])) (append_assoc (steps_of p) (x ∷ []) rest) ∙ (split rest (entry ∷ [])).answers_are
      ∙ ap (λ k. answers_from None (steps_of p) entries ++ answers_from k (x ∷ rest) (entry ∷ [])) holds.last
      ∙ ap (λ t. answers_from None (steps_of p) entries ++ t) (answers-some x rest l check entry [] is)
      ∙ ap (λ v. answers_from None (steps_of p) entries ++ (v ++ answers_from then rest [])) verdict_is

  answers_before : (rest : List Step) → answers ((steps_of p ++ x ∷ []) ++ rest) entries ≡ answers (steps_of p) entries ++ []
  answers_before rest =
      ap₂ (λ xs es. answers_from None xs es) (append_assoc (steps_of p) (x ∷ []) rest) (sym (append-nil entries)) ∙ (split rest []).answers_are
      ∙ ap (λ k. answers_from None (steps_of p) entries ++ answers_from k (x ∷ rest) []) holds.last
      ∙ ap (λ t. answers_from None (steps_of p) entries ++ t) (answers-end x rest l check is)

  last_then : last_from None (steps_of s.reader) (entries ++ entry ∷ []) ≡ then
  last_then =
      ap (λ xs. last_from None xs (entries ++ entry ∷ [])) gives.steps ∙ (split [] (entry ∷ [])).last_is
      ∙ ap (λ k. last_from k (x ∷ []) (entry ∷ [])) holds.last ∙ last-some x [] l check entry [] is ∙ last_end then

  counts_then : (t : Tally) → t ≡ counted entry s.tally → Counts t (entries ++ entry ∷ [])
  counts_then t e = by_entry entry e
    where
      sums : (en : Entry) → (sat_count (entries ++ en ∷ []) ≡ s.tally.sat + sat_count (en ∷ [])) × (unsat_count (entries ++ en ∷ []) ≡ s.tally.unsat + unsat_count (en ∷ [])) × (unknown_count (entries ++ en ∷ []) ≡ s.tally.unknown + unknown_count (en ∷ []))
      sums en = (
        counts-push sat_count sat-more refl entries en ∙ ap (λ n. n + sat_count (en ∷ [])) (sym holds.tally.sat),
        counts-push unsat_count unsat-more refl entries en ∙ ap (λ n. n + unsat_count (en ∷ [])) (sym holds.tally.unsat),
        counts-push unknown_count unknown-more refl entries en ∙ ap (λ n. n + unknown_count (en ∷ [])) (sym holds.tally.unknown),
      )

      by_entry : (en : Entry) → t ≡ counted en s.tally → Counts t (entries ++ en ∷ [])
      by_entry (Sat pairs) e = let h = sums (Sat pairs) in record { sat = ap (λ (u : Tally). u.sat) e ∙ sym h.0; unsat = ap (λ (u : Tally). u.unsat) e ∙ add-none s.tally.unsat ∙ sym h.1; unknown = ap (λ (u : Tally). u.unknown) e ∙ add-none s.tally.unknown ∙ sym h.2 }
      by_entry UnsatCases e = let h = sums UnsatCases in record { sat = ap (λ (u : Tally). u.sat) e ∙ add-none s.tally.sat ∙ sym h.0; unsat = ap (λ (u : Tally). u.unsat) e ∙ sym h.1; unknown = ap (λ (u : Tally). u.unknown) e ∙ add-none s.tally.unknown ∙ sym h.2 }
      by_entry (UnsatSteps lines) e = let h = sums (UnsatSteps lines) in record { sat = ap (λ (u : Tally). u.sat) e ∙ add-none s.tally.sat ∙ sym h.0; unsat = ap (λ (u : Tally). u.unsat) e ∙ sym h.1; unknown = ap (λ (u : Tally). u.unknown) e ∙ add-none s.tally.unknown ∙ sym h.2 }
      by_entry (Unknown cause) e = let h = sums (Unknown cause) in record { sat = ap (λ (u : Tally). u.sat) e ∙ add-none s.tally.sat ∙ sym h.0; unsat = ap (λ (u : Tally). u.unsat) e ∙ add-none s.tally.unsat ∙ sym h.1; unknown = ap (λ (u : Tally). u.unknown) e ∙ sym h.2 }

  pub holds_then : (t : Dialogue) (asked : Option (Vec Asked)) → s.task.steps < 2 ^ 64 → IsChecked s t asked entry → texts_of asked ≡ option_map (map asked_text) (assumptions_in x.command) → Holds t.reader t (entries ++ entry ∷ []) then
  holds_then t asked few h texts = record {
    each = subst (λ n. AreEntries n (table_checks (steps_of t.reader)) (entries ++ entry ∷ [])) (sym h.task)
        (subst (λ r. AreEntries s.task (table_checks (steps_of r)) (entries ++ entry ∷ [])) (sym h.reader) (subst (λ cs. AreEntries s.task cs (entries ++ entry ∷ [])) (sym checks_then) each_then));
    count = length-append entries (entry ∷ []) ∙ ap (λ n. n + 1) holds.count ∙ sym (length-append (table_checks (steps_of p)) (check ∷ [])) ∙ ap (λ (cs : List TableCheck). length cs) (sym checks_then) ∙ ap (λ r. length (table_checks (steps_of r))) (sym h.reader);
    last = ap (λ r. last_from None (steps_of r) (entries ++ entry ∷ [])) h.reader ∙ last_then;
    remembers = subst (λ r. Remembers r then) (sym h.last_is) (record { entry = h.remembers.entry_is; fresh = h.remembers.fresh; core = h.remembers.core_is ∙ ap (λ e. core e (length (nodes_in_force check))) refl; asked = ap texts_of h.remembers.asked_is ∙ texts });
    kept = subst (λ r. IsRememberedAt then (known_at r).state) (sym h.reader) (subst (IsRememberedAt then) (sym (state_is p s entries l c holds gives first))
        (after_check x.before x.tree x.command check entry s.task few sound_now is kept_check right));
    tally = counts_then t.tally h.tally;
  }

  pub told_then : (t : Dialogue) (asked : Option (Vec Asked)) (cert out : Change) → s.task.steps < 2 ^ 64 → IsChecked s t asked entry → texts_of asked ≡ option_map (map asked_text) (assumptions_in x.command)
      → Appends (entry_text entry) cert.old cert.new → Appends (verdict entry) out.old out.new → IsTold (record s { reader = p }) t entries cert out
  unfolding answers_from
  told_then t asked cert out few h texts entry_put verdict_put =
      record {
        more = entry ∷ [];
        last = then;
        holds = holds_then t asked few h texts;
        certificate = subst (λ b. Appends b cert.old cert.new) (sym (append-nil (entry_text entry))) entry_put;
        text = verdict entry;
        answered = verdict_put;
        answers_are = ap (λ xs. answers xs (entries ++ entry ∷ [])) (ap steps_of h.reader ∙ gives.steps ∙ sym (append-nil (steps_of p ++ x ∷ []))) ∙ answers_then []
            ∙ ap (λ a. answers (steps_of p) entries ++ a) (append-nil (verdict entry));
        same_text = ap (λ r. r.text) h.reader ∙ gives.text;
        longer = ap (λ r. length (steps_of r)) h.reader ∙ ap (λ (xs : List Step). length xs) gives.steps ∙ length-append (steps_of p) (x ∷ []);
        task = h.task;
        taken = h.taken;
      }

  -- the rest of the script, however it goes on
  steps_on : (more : List ℕ) → (rest : List Step) × ((reads (p.text ++ more)).steps ≡ (steps_of p ++ x ∷ []) ++ rest)
  steps_on more =
      let (rest, e) = first more in
      (rest, ap (λ t. (reads (t ++ more)).steps) (sym gives.text) ∙ e ∙ ap (λ xs. xs ++ rest) gives.steps)

  -- the entry was written in part
  cut_entry : (more : List ℕ) (size : ℕ) (cert out : Change) → size < length (entry_text entry) → Appends (take size (entry_text entry)) cert.old cert.new → out.new ≡ out.old → IsCutAt (record s { reader = p }) entries more cert out
  cut_entry more size cert out small put same =
      let on_steps = steps_on more in
      let rest = on_steps.0 in
      let all = ap table_checks on_steps.1 ∙ checks_on rest in
      record {
        later = [];
        each = subst (λ cs. AreEntries s.task cs (entries ++ [])) (sym all)
            (subst (AreEntries s.task ((table_checks (steps_of p) ++ check ∷ []) ++ table_checks rest)) (sym (append-nil entries))
            (AreEntries-more s.task (table_checks (steps_of p) ++ check ∷ []) (table_checks rest) entries (AreEntries-more s.task (table_checks (steps_of p)) (check ∷ []) entries holds.each)));
        part = take size (entry_text entry);
        rest = inr (record {
          check = check;
          at = subst (λ es. slice_get (table_checks (reads (p.text ++ more)).steps) (length es) ≡ Some check) (sym (append-nil entries))
              (ap (λ cs. slice_get cs (length entries)) (all ∙ append_assoc (table_checks (steps_of p)) (check ∷ []) (table_checks rest)) ∙ check_at_end (table_checks (steps_of p)) (table_checks rest) check (length entries) holds.count);
          entry = entry;
          right = right;
          size = size;
          short = small;
          is = refl;
        });
        certificate = put;
        text = [];
        answered = Appends-same [] out.old out.old out.new same (Appends-nil out.old);
        behind = [];
        answers_are = ap₂ (λ xs es. answers xs es) on_steps.1 (append-nil entries) ∙ answers_before rest;
      }

  -- the whole entry was written, and its verdict in part
  cut_verdict : (more : List ℕ) (size : ℕ) (cert out : Change) → Appends (entry_text entry) cert.old cert.new → Appends (take size (verdict entry)) out.old out.new → IsCutAt (record s { reader = p }) entries more cert out
  cut_verdict more size cert out entry_put verdict_put =
      let on_steps = steps_on more in
      let rest = on_steps.0 in
      let all = ap table_checks on_steps.1 ∙ checks_on rest in
      record {
        later = entry ∷ [];
        each = subst (λ cs. AreEntries s.task cs (entries ++ entry ∷ [])) (sym all) (AreEntries-more s.task (table_checks (steps_of p) ++ check ∷ []) (table_checks rest) (entries ++ entry ∷ []) each_then);
        part = [];
        rest = inl refl;
        certificate = subst (λ b. Appends b cert.old cert.new) (sym (append-nil (entry_text entry ++ []) ∙ append-nil (entry_text entry))) entry_put;
        text = take size (verdict entry);
        answered = verdict_put;
        behind = drop size (verdict entry) ++ answers_from then rest [];
        answers_are = ap (λ xs. answers xs (entries ++ entry ∷ [])) on_steps.1 ∙ answers_then rest
            ∙ ap (λ a. answers (steps_of p) entries ++ (a ++ answers_from then rest [])) (sym (take-append-drop size (verdict entry)))
            ∙ ap (λ a. answers (steps_of p) entries ++ a) (append_assoc (take size (verdict entry)) (drop size (verdict entry)) (answers_from then rest []));
      }

  pub cut_check : (more : List ℕ) (cert out : Change) → IsHalfTold entry cert out → IsCutAt (record s { reader = p }) entries more cert out
  cut_check more cert out (inl (put, same)) =
      let front = front_of (entry_text entry) cert.old cert.new put in
      elim (cases_lt front.size (length (entry_text entry))) as (λ _. IsCutAt (record s { reader = p }) entries more cert out) [
        | inl small ↦ cut_entry more front.size cert out small front.appended same
        | inr whole ↦
            cut_verdict more 0 cert out
            (subst (λ b. Appends b cert.old cert.new) (take_all front.size (entry_text entry) whole) front.appended)
            (Appends-same [] out.old out.old out.new same (Appends-nil out.old))
      ]
  cut_check more cert out (inr (entry_put, verdict_put)) =
      let front = front_of (verdict entry) out.old out.new verdict_put in cut_verdict more front.size cert out entry_put front.appended
