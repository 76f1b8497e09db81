-- Whole runs over a script.
use Rattle.std.proofs.Common.{◌≡◌, ℕ, ◌+◌, ◌≤◌, inl, inr, Bool, true, false, cond, List, [], ◌++◌, length, take, drop, Option, Some, None, refl, sym, ap, ◌∙◌, subst, arith, append_assoc, append-nil, length-append}
use Rattle.std.specs.List.{flat_map}
use Rattle.std.specs.Option.{IfSome}
use Rattle.std.proofs.lemmas.Bool.{le-leb}
use Rattle.std.proofs.lemmas.List.{take-append-le, take_all, take-append-drop}
use Rattle.ffc_base.specs.Outside.{Appends, AppendsPrefix}
use Rattle.ffc_cert.specs.declared.entries.Entry.{Entry}
use Rattle.ffc_cert.specs.Spelling.{entry_text}
use Rattle.ffc_smt.specs.Scripts.{End, Done, Script, Step, reads}
use Rattle.ffc_smt.specs.TableChecks.{table_checks}
use Rattle.ffc_answer.specs.Answers.{Last, answers, answers_from, end_answer, last_from, has_all_entries, script_answers}
use Rattle.ffc_answer.specs.Views.{IsRememberedAt}
use Rattle.ffc_script.specs.Answers.{HasRun, SaysOnly}
use Rattle.ffc_script.specs.Kept.{AreFirst}
use Rattle.ffc_script.specs.Progress.{Progress, known_at, steps_from, steps_of}
use Rattle.ffc_solve.specs.declared.arguments.Task.{Task}
use Rattle.ffc_solve.specs.declared.dialogue.Dialogue.{Dialogue}
use Rattle.ffc_solve.specs.Changes.{Change, IsSilent}
use Rattle.ffc_solve.specs.Solving.{AreEntries, EndsSoon, IsTaken}
use Rattle.ffc_solve.specs.Remembering.{Counts, Holds, Remembers}
use Rattle.ffc_solve.specs.Underway.{AnswersSoonAt, HasFed, HasRead, IsAnswered, IsAtEnd, IsCut, IsCutAt, IsEnd, IsFinished, IsFirst, IsPausedAt, IsTold, IsUnfinished, is_fault}
use Rattle.ffc_solve.proofs.ListLemmas.{between, Appends-more, Appends-nil, Appends-same, front_of, front_is_prefix, texts-append}
use Rattle.ffc_solve.proofs.AdvanceLemmas.{cut_here}
use Rattle.ffc_solve.proofs.ReadLemmas.{HasRead-more, HasRead-none, taken_read}
use Rattle.ffc_solve.proofs.SoonLemmas.{Grows, grows_none, soon_answered, soon_answered_none, soon_still}
use Rattle.ffc_solve.proofs.TakenLemmas.{none_run, soon_fed, soon_none}

-- What a loop over commands keeps: the commands so far are answered.
pub record IsGoing (s : Dialogue) (cert out : Change) (lo ln : Option (List ℕ)) : Type 0 where
  pub entries : List Entry
  pub last : Option Last
  pub holds : Holds s.reader s entries last
  pub certificate : Appends (flat_map entry_text entries) cert.old cert.new
  pub answered : Appends (answers (steps_of s.reader) entries) out.old out.new
  pub read : HasRead lo ln s.reader.text
  pub few : length s.reader.text ≤ 67108865
  pub taken : s.taken ≡ length s.reader.text
  pub active : s.reader.over ≡ false
  pub soon : EndsSoon s.reader.text
  pub answers_soon : AnswersSoonAt s.reader.text cert out

pub going_first : (s : Dialogue) (co oo lo : Option (List ℕ)) → IsFirst s → IsGoing s (between co co) (between oo oo) lo lo
unfolding answers_from last_from steps_from
going_first s co oo lo first =
    let none : steps_of s.reader ≡ [] = ap steps_of first.reader in
    record {
      entries = [];
      last = None;
      holds = record {
        each = tt;
        count = ap (λ xs. length (table_checks xs)) (sym none);
        last = ap (λ xs. last_from None xs []) none;
        remembers = subst (λ r. Remembers r None) (sym first.last) tt;
        kept = tt;
        tally = subst (λ t. Counts t []) (sym first.tally) (record { sat = refl; unsat = refl; unknown = refl });
      };
      certificate = Appends-nil co;
      answered = subst (λ xs. Appends (answers xs []) oo oo) (sym none) (Appends-nil oo);
      read = subst (HasRead lo lo) (sym (ap (λ (p : Progress). p.text) first.reader)) (HasRead-none lo);
      few = let e = ap (λ (p : Progress). length p.text) first.reader in omega arith;
      taken = first.taken ∙ ap (λ (p : Progress). length p.text) (sym first.reader);
      active = ap (λ (p : Progress). p.over) first.reader;
      soon = subst EndsSoon (sym (ap (λ (p : Progress). p.text) first.reader)) soon_none;
      answers_soon = subst (λ b. AnswersSoonAt b (between co co) (between oo oo)) (sym (ap (λ (p : Progress). p.text) first.reader)) (soon_answered_none (between co co) (between oo oo));
    }

-- one more command
module _ (s t : Dialogue) (cert out : Change) (c1 o1 lo ln : Option (List ℕ)) (h : IsGoing s (between cert.old c1) (between out.old o1) lo ln) (told : IsTold s t h.entries (between c1 cert.new) (between o1 out.new)) where
  pub certificate_then : Appends (flat_map entry_text (h.entries ++ told.more)) cert.old cert.new
  certificate_then = subst (λ b. Appends b cert.old cert.new) (sym (texts-append h.entries told.more)) (Appends-more (flat_map entry_text h.entries) (flat_map entry_text told.more) cert.old c1 cert.new h.certificate told.certificate)

  pub answered_then : Appends (answers (steps_of t.reader) (h.entries ++ told.more)) out.old out.new
  answered_then = subst (λ b. Appends b out.old out.new) (sym told.answers_are) (Appends-more (answers (steps_of s.reader) h.entries) told.text out.old o1 out.new h.answered told.answered)

  pub going_told : t.reader.over ≡ false → IsGoing t cert out lo ln
  going_told active = record {
    entries = h.entries ++ told.more;
    last = told.last;
    holds = told.holds;
    certificate = certificate_then;
    answered = answered_then;
    read = subst (HasRead lo ln) (sym told.same_text) h.read;
    few = subst (λ b. length b ≤ 67108865) (sym told.same_text) h.few;
    taken = told.taken ∙ h.taken ∙ ap (λ (b : List ℕ). length b) (sym told.same_text);
    active = active;
    soon = subst EndsSoon (sym told.same_text) h.soon;
    answers_soon = subst (λ b. AnswersSoonAt b cert out) (sym told.same_text)
        (soon_still cert.old c1 cert.new out.old o1 out.new (flat_map entry_text told.more, told.certificate) (told.text, told.answered) s.reader.text h.answers_soon);
  }

-- one more piece
pub going_fed : (s t : Dialogue) (cert out : Change) (lo l1 ln : Option (List ℕ)) → IsGoing s cert out lo l1 → HasRun s.reader → HasFed s t (between l1 ln) → IsGoing t cert out lo ln
going_fed s t cert out lo l1 ln h run fed =
    let text : t.reader.text ≡ s.reader.text ++ fed.piece = ap (λ (p : Progress). p.text) fed.reader in
    let steps : steps_of t.reader ≡ steps_of s.reader = ap steps_of fed.reader in
    let known = ap known_at fed.reader in
    record {
      entries = h.entries;
      last = h.last;
      holds = record {
        each = subst (λ n. AreEntries n (table_checks (steps_of t.reader)) h.entries) (sym fed.same.0) (subst (λ xs. AreEntries s.task (table_checks xs) h.entries) (sym steps) h.holds.each);
        count = h.holds.count ∙ ap (λ xs. length (table_checks xs)) (sym steps);
        last = ap (λ xs. last_from None xs h.entries) steps ∙ h.holds.last;
        remembers = subst (λ r. Remembers r h.last) (sym fed.same.1) h.holds.remembers;
        kept = subst (λ k. IsRememberedAt h.last k.state) (sym known) h.holds.kept;
        tally = subst (λ y. Counts y h.entries) (sym fed.same.2) h.holds.tally;
      };
      certificate = h.certificate;
      answered = subst (λ xs. Appends (answers xs h.entries) out.old out.new) (sym steps) h.answered;
      read = subst (HasRead lo ln) (sym text) (HasRead-more lo l1 ln s.reader.text fed.piece h.read fed.read);
      few = let e = ap (λ (b : List ℕ). length b) text in let k = fed.few in omega (arith, length-append s.reader.text fed.piece);
      taken = fed.taken ∙ ap (λ n. n + length fed.piece) h.taken ∙ sym (ap (λ (b : List ℕ). length b) text ∙ length-append s.reader.text fed.piece);
      active = ap (λ (p : Progress). p.over) fed.reader ∙ h.active;
      soon = subst EndsSoon (sym text) (soon_fed s.reader.text fed.piece (none_run s.reader run) fed.short);
      answers_soon = subst (λ b. AnswersSoonAt b cert out) (sym text) (soon_answered s.reader fed.piece h.entries cert out run fed.short h.holds.count h.certificate h.answered);
    }

-- Whole scripts

-- what a script reads as, of which this text was read
pub says_only : (lo ln : Option (List ℕ)) (text : List ℕ) (steps : List Step) (end : End) → HasRead lo ln text → SaysOnly text steps end → IfSome lo (λ b. reads b ≡ record { steps = steps; end = end })
says_only None ln text steps end h says = tt
says_only (Some b) ln text steps end (rest, e, left) says = ap reads e ∙ says rest

pub says_all : (lo l1 ln : Option (List ℕ)) (s : Dialogue) (steps : List Step) (end : End) → ((t : List ℕ) → reads t ≡ reads (take 67108865 t)) → HasRead lo l1 s.reader.text → IsEnd s (between l1 ln) → reads s.reader.text ≡ record { steps = steps; end = end }
    → IfSome lo (λ b. reads b ≡ record { steps = steps; end = end })
says_all None l1 ln s steps end cut h at says = tt
says_all (Some b) l1 ln s steps end cut (rest, e, left) (inl at) says =
    let now : IsAtEnd (Some rest) ln = subst (λ o. IsAtEnd o ln) left at in
    ap reads (e ∙ ap (λ r. s.reader.text ++ r) now.0 ∙ append-nil s.reader.text) ∙ says
says_all (Some b) l1 ln s steps end cut (rest, e, left) (inr at) says =
    let front : take 67108865 b ≡ s.reader.text = ap (take 67108865) e ∙ take-append-le 67108865 s.reader.text rest (omega (arith, at.1)) ∙ take_all 67108865 s.reader.text (omega (arith, at.1)) in
    cut b ∙ ap reads front ∙ says

pub all_there : (xs : List Step) (entries : List Entry) → length entries ≡ length (table_checks xs) → has_all_entries xs entries ≡ true
all_there xs entries e = le-leb (length (table_checks xs)) (length entries) (omega arith)

-- the answers to a script whose checks all have entries
answers_whole : (script : Script) (xs : List Step) (end : End) (entries : List Entry) → script ≡ record { steps = xs; end = end } → length entries ≡ length (table_checks xs) → script_answers script entries ≡ answers xs entries ++ end_answer end
answers_whole script xs end entries e count =
    ap (λ (r : Script). script_answers r entries) e ∙ ap (λ b. answers xs entries ++ cond b (end_answer end) []) (all_there xs entries count)

pub answered_whole : (t : Dialogue) (b : List ℕ) (end : End) (entries : List Entry) (l : Option Last) (task : Task) (cert : Change) (oo o1 on : Option (List ℕ)) → reads b ≡ record { steps = steps_of t.reader; end = end } → t.task ≡ task → Holds t.reader t entries l
    → Appends (flat_map entry_text entries) cert.old cert.new → Appends (answers (steps_of t.reader) entries) oo o1 → Appends (end_answer end) o1 on → (u : Dialogue) → u.tally ≡ t.tally → IsAnswered task b (is_fault end) u cert (between oo on)
answered_whole t b end entries l task cert oo o1 on says same holds put told last u tally = record {
  entries = entries;
  each = subst (λ (r : Script). AreEntries task (table_checks r.steps) entries) (sym says) (subst (λ n. AreEntries n (table_checks (steps_of t.reader)) entries) same holds.each);
  all = holds.count ∙ ap (λ (r : Script). length (table_checks r.steps)) (sym says);
  certificate = put;
  answered = subst (λ a. Appends a oo on) (sym (answers_whole (reads b) (steps_of t.reader) end entries says holds.count)) (Appends-more (answers (steps_of t.reader) entries) (end_answer end) oo o1 on told last);
  tally = subst (λ y. Counts y entries) (sym tally) holds.tally;
  ended = ap (λ (r : Script). is_fault r.end) (sym says);
}

-- the run stopped in a command
pub cut_in : (s : Dialogue) (rest : List ℕ) (b : List ℕ) (task : Task) (cert out : Change) (c1 o1 lo ln : Option (List ℕ)) → b ≡ s.reader.text ++ rest → s.task ≡ task → (h : IsGoing s (between cert.old c1) (between out.old o1) lo ln) → IsCutAt s h.entries rest (between c1 cert.new) (between o1 out.new) → IsCut task b cert out
cut_in s rest b task cert out c1 o1 lo ln e same h k =
    let R = reads (s.reader.text ++ rest) in
    let all = h.entries ++ k.later in
    let tail = cond (has_all_entries R.steps all) (end_answer R.end) [] in
    let done = answers (steps_of s.reader) h.entries in
    let parts : script_answers R all ≡ (done ++ k.text) ++ (k.behind ++ tail) =
    ap (λ a. a ++ tail) (k.answers_are ∙ sym (append_assoc done k.text k.behind)) ∙ append_assoc (done ++ k.text) k.behind tail in
    let texts : flat_map entry_text h.entries ++ (flat_map entry_text k.later ++ k.part) ≡ flat_map entry_text all ++ k.part =
    sym (append_assoc (flat_map entry_text h.entries) (flat_map entry_text k.later) k.part) ∙ ap (λ a. a ++ k.part) (sym (texts-append h.entries k.later)) in
    let cut : IsCut s.task (s.reader.text ++ rest) cert out = record {
      entries = all;
      each = k.each;
      part = k.part;
      rest = k.rest;
      certificate = subst (λ a. Appends a cert.old cert.new) texts (Appends-more (flat_map entry_text h.entries) (flat_map entry_text k.later ++ k.part) cert.old c1 cert.new h.certificate k.certificate);
      answered = front_is_prefix (script_answers R all) out.old out.new (done ++ k.text) (k.behind ++ tail) parts (Appends-more done k.text out.old o1 out.new h.answered k.answered);
    } in
    subst (λ n. IsCut n b cert out) same (subst (λ t. IsCut s.task t cert out) (sym e) cut)

-- the same, where the script's contents are stated
pub cut_told : (s : Dialogue) (task : Task) (cert out : Change) (c1 o1 lo ln : Option (List ℕ)) → s.task ≡ task → (h : IsGoing s (between cert.old c1) (between out.old o1) lo ln) → ((more : List ℕ) → IsCutAt s h.entries more (between c1 cert.new) (between o1 out.new)) → IfSome lo (λ b. IsCut task b cert out)
cut_told s task cert out c1 o1 lo ln same h k = by_told lo h.read
  where
    by_told : (o : Option (List ℕ)) → HasRead o ln s.reader.text → IfSome o (λ b. IsCut task b cert out)
    by_told None r = tt
    by_told (Some b) (rest, e, left) = cut_in s rest b task cert out c1 o1 lo ln e same h (k rest)

-- the end was answered in part
pub cut_end : (s : Dialogue) (b : List ℕ) (end : End) (entries : List Entry) (l : Option Last) (task : Task) (cert : Change) (oo o1 on : Option (List ℕ)) → reads b ≡ record { steps = steps_of s.reader; end = end } → s.task ≡ task → Holds s.reader s entries l
    → Appends (flat_map entry_text entries) cert.old cert.new → Appends (answers (steps_of s.reader) entries) oo o1 → AppendsPrefix (end_answer end) o1 on → IsCut task b cert (between oo on)
cut_end s b end entries l task cert oo o1 on says same holds put told last =
    let front = front_of (end_answer end) o1 on last in
    let done = answers (steps_of s.reader) entries in
    let parts : script_answers (reads b) entries ≡ (done ++ take front.size (end_answer end)) ++ drop front.size (end_answer end) =
    answers_whole (reads b) (steps_of s.reader) end entries says holds.count ∙ ap (λ a. done ++ a) (sym (take-append-drop front.size (end_answer end)))
    ∙ sym (append_assoc done (take front.size (end_answer end)) (drop front.size (end_answer end))) in
    record {
      entries = entries;
      each = subst (λ (r : Script). AreEntries task (table_checks r.steps) entries) (sym says) (subst (λ n. AreEntries n (table_checks (steps_of s.reader)) entries) same holds.each);
      part = [];
      rest = inl refl;
      certificate = subst (λ a. Appends a cert.old cert.new) (sym (append-nil (flat_map entry_text entries))) put;
      answered = front_is_prefix (script_answers (reads b) entries) oo on (done ++ take front.size (end_answer end)) (drop front.size (end_answer end)) parts
          (Appends-more done (take front.size (end_answer end)) oo o1 on told front.appended);
    }

-- reading failed
pub paused_at : (s : Dialogue) (task : Task) (cert out : Change) (lo ln : Option (List ℕ)) → s.task ≡ task → IsGoing s cert out lo ln → HasRun s.reader → IfSome lo (λ b. (text : List ℕ) × IsTaken text b ln × IsPausedAt task text cert out)
paused_at s task cert out lo ln same h run = by_told lo h.read
  where
    paused : IsPausedAt task s.reader.text cert out
    paused = record {
      steps = steps_of s.reader;
      state = (known_at s.reader).state;
      run = run.run;
      sound = run.sound;
      entries = h.entries;
      each = subst (λ n. AreEntries n (table_checks (steps_of s.reader)) h.entries) same h.holds.each;
      all = h.holds.count;
      certificate = h.certificate;
      answered = h.answered;
    }

    by_told : (o : Option (List ℕ)) → HasRead o ln s.reader.text → IfSome o (λ b. (text : List ℕ) × IsTaken text b ln × IsPausedAt task text cert out)
    by_told None r = tt
    by_told (Some b) (rest, e, left) = (s.reader.text, record { rest = rest; split = e; left = left; few = h.few }, paused)

-- a piece was taken that was not fed
pub taken_more : (s : Dialogue) (cert out : Change) (lo l1 ln : Option (List ℕ)) → IsGoing s cert out lo l1 → HasRun s.reader → IfSome l1 (λ b. (piece : List ℕ) × IsTaken piece b ln × (length s.reader.text + length piece ≤ 67108865) × (length piece ≤ 4096))
    → IfSome lo (λ b. (t : List ℕ) × IsTaken t b ln × EndsSoon t × AnswersSoonAt t cert out)
taken_more s cert out lo l1 ln h run k = by_told lo h.read
  where
    text : List ℕ
    text = s.reader.text

    by_told : (o : Option (List ℕ)) → HasRead o l1 text → IfSome o (λ b. (t : List ℕ) × IsTaken t b ln × EndsSoon t × AnswersSoonAt t cert out)
    by_told None r = tt
    by_told (Some b) (rest, e, left) =
        let (piece, is, few, short) = (let P : Option (List ℕ) → Type 0 = λ o. IfSome o (λ c. (piece : List ℕ) × IsTaken piece c ln × (length text + length piece ≤ 67108865) × (length piece ≤ 4096)) in subst P left k) in (
          text ++ piece,
          record {
            rest = is.rest;
            split = e ∙ ap (λ r. text ++ r) is.split ∙ sym (append_assoc text piece is.rest);
            left = is.left;
            few = omega (arith, length-append text piece);
          },
          soon_fed text piece (none_run s.reader run) short,
          soon_answered s.reader piece h.entries cert out run short h.holds.count h.certificate h.answered,
        )

-- How a run ends

told_if : (o : Option (List ℕ)) (P Q : List ℕ → Type 0) → ((b : List ℕ) → P b → Q b) → IfSome o P → IfSome o Q
told_if None P Q f h = tt
told_if (Some b) P Q f h = f b h

pub ended_whole : (s t : Dialogue) (task : Task) (cert out : Change) (c1 o1 lo ln : Option (List ℕ)) → s.task ≡ task → (h : IsGoing s (between cert.old c1) (between out.old o1) lo ln) → (told : IsTold s t h.entries (between c1 cert.new) (between o1 out.new)) → SaysOnly t.reader.text (steps_of t.reader) Done
    → IfSome lo (λ b. IsAnswered task b false t cert out)
ended_whole s t task cert out c1 o1 lo ln same h told says =
    told_if lo _ _ (λ b e. answered_whole t b Done (h.entries ++ told.more) told.last task cert out.old out.new out.new e (told.task ∙ same) told.holds
    (certificate_then s t cert out c1 o1 lo ln h told) (answered_then s t cert out c1 o1 lo ln h told) (Appends-nil out.new) t refl)
    (says_only lo ln t.reader.text (steps_of t.reader) Done (subst (HasRead lo ln) (sym told.same_text) h.read) says)

-- a fault in the script
module _ (s : Dialogue) (task : Task) (cert out : Change) (on lo ln : Option (List ℕ)) (same : s.task ≡ task) (h : IsGoing s cert out lo ln) (end : End) where
  pub fault_whole : (u : Dialogue) → u.tally ≡ s.tally → SaysOnly s.reader.text (steps_of s.reader) end → Appends (end_answer end) out.new on → IfSome lo (λ b. IsAnswered task b (is_fault end) u cert (between out.old on))
  fault_whole u tally says last =
      told_if lo _ _ (λ b e. answered_whole s b end h.entries h.last task cert out.old out.new on e same h.holds h.certificate h.answered last u tally) (says_only lo ln s.reader.text (steps_of s.reader) end h.read says)

  pub fault_cut : SaysOnly s.reader.text (steps_of s.reader) end → AppendsPrefix (end_answer end) out.new on → IfSome lo (λ b. IsCut task b cert (between out.old on))
  fault_cut says last =
      told_if lo _ _ (λ b e. cut_end s b end h.entries h.last task cert out.old out.new on e same h.holds h.certificate h.answered last) (says_only lo ln s.reader.text (steps_of s.reader) end h.read says)

pub going_cut : (s : Dialogue) (task : Task) (cert out : Change) (lo ln : Option (List ℕ)) → s.task ≡ task → IsGoing s cert out lo ln → AreFirst s.reader.text (steps_of s.reader) → IfSome lo (λ b. IsCut task b cert out)
going_cut s task cert out lo ln same h first = cut_told s task cert out cert.new out.new lo ln same h (λ more. cut_here s h.entries h.last more cert.new out.new h.holds first)

-- the end of the text
module _ (s : Dialogue) (task : Task) (cert out : Change) (on lo l1 ln : Option (List ℕ)) (cut : (t : List ℕ) → reads t ≡ reads (take 67108865 t)) (same : s.task ≡ task) (h : IsGoing s cert out lo l1) (at : IsEnd s (between l1 ln)) where
  pub finished_whole : (u : Dialogue) (refused : Bool) → u.tally ≡ s.tally → IsFinished s.reader refused (between out.new on) → IfSome lo (λ b. IsAnswered task b refused u cert (between out.old on))
  finished_whole u refused tally f =
      subst (λ r. IfSome lo (λ b. IsAnswered task b r u cert (between out.old on))) (sym f.ended)
      (told_if lo _ _ (λ b e. answered_whole s b f.end h.entries h.last task cert out.old out.new on e same h.holds h.certificate h.answered f.answered u tally)
      (says_all lo l1 ln s (steps_of s.reader) f.end cut h.read at f.says))

  pub finished_cut : AreFirst s.reader.text (steps_of s.reader) → IsUnfinished s.reader (between out.new on) → IfSome lo (λ b. IsCut task b cert (between out.old on))
  finished_cut first (inl none) = subst (λ o. IfSome lo (λ b. IsCut task b cert (between out.old o))) (sym none) (going_cut s task cert out lo l1 same h first)
  finished_cut first (inr (end, says, last)) =
      told_if lo _ _ (λ b e. cut_end s b end h.entries h.last task cert out.old out.new on e same h.holds h.certificate h.answered last) (says_all lo l1 ln s (steps_of s.reader) end cut h.read at says)

-- While the next command is not whole

pub going_silent : (s t : Dialogue) (co c1 cn oo o1 on lo ln : Option (List ℕ)) → t ≡ s → IsSilent (between c1 cn) (between o1 on) → IsGoing s (between co c1) (between oo o1) lo ln → IsGoing t (between co cn) (between oo on) lo ln
going_silent s t co c1 cn oo o1 on lo ln e silent h =
    subst (λ u. IsGoing u (between co cn) (between oo on) lo ln) (sym e) (record {
      entries = h.entries;
      last = h.last;
      holds = h.holds;
      certificate = Appends-same (flat_map entry_text h.entries) co c1 cn silent.0 h.certificate;
      answered = Appends-same (answers (steps_of s.reader) h.entries) oo o1 on silent.1 h.answered;
      read = h.read;
      few = h.few;
      taken = h.taken;
      active = h.active;
      soon = h.soon;
      answers_soon = soon_still co c1 cn oo o1 on (grows_none c1 cn silent.0) (grows_none o1 on silent.1) s.reader.text h.answers_soon;
    })

pub going_left : (s : Dialogue) (cert out : Change) (lo l1 ln : Option (List ℕ)) → ln ≡ l1 → IsGoing s cert out lo l1 → IsGoing s cert out lo ln
going_left s cert out lo l1 ln e h = subst (λ o. IsGoing s cert out lo o) (sym e) h

-- What was taken

-- after this only the certificate and the output have grown
module _ (s : Dialogue) (co c1 cn oo o1 on : Option (List ℕ)) (cert_grows : Grows c1 cn) (out_grows : Grows o1 on) (lo l1 : Option (List ℕ)) (h : IsGoing s (between co c1) (between oo o1) lo l1) where
  still : AnswersSoonAt s.reader.text (between co cn) (between oo on)
  still = soon_still co c1 cn oo o1 on cert_grows out_grows s.reader.text h.answers_soon

  pub going_taken : IfSome lo (λ b. (t : List ℕ) × IsTaken t b l1 × EndsSoon t × AnswersSoonAt t (between co cn) (between oo on))
  going_taken = taken_read lo l1 s.reader.text EndsSoon (λ t. AnswersSoonAt t (between co cn) (between oo on)) h.few h.soon still h.read

  pub taken_end : (ln : Option (List ℕ)) → IsEnd s (between l1 ln) → IfSome lo (λ b. (t : List ℕ) × IsTaken t b ln × EndsSoon t × AnswersSoonAt t (between co cn) (between oo on))
  taken_end ln at = by_told lo h.read at
    where
      by_told : (o : Option (List ℕ)) → HasRead o l1 s.reader.text → IsEnd s (between l1 ln) → IfSome o (λ b. (t : List ℕ) × IsTaken t b ln × EndsSoon t × AnswersSoonAt t (between co cn) (between oo on))
      by_told None r e = tt
      by_told (Some b) (rest, e, left) (inl none) =
          let now : IsAtEnd (Some rest) ln = subst (λ o. IsAtEnd o ln) left none in
          (s.reader.text, record { rest = []; split = e ∙ ap (λ r. s.reader.text ++ r) now.0; left = now.1; few = h.few }, h.soon, still)
      by_told (Some b) (rest, e, left) (inr full) = (s.reader.text, record { rest = rest; split = e; left = full.0 ∙ left; few = h.few }, h.soon, still)
