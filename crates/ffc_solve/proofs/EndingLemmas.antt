-- From what was written after the first line to what a run leaves.
use Rattle.std.proofs.Common.{◌≡◌, ℕ, ◌+◌, ◌≤◌, ◌⊎◌, inl, inr, Bool, true, false, cond, List, [], ◌∷◌, ◌++◌, length, take, drop, Option, Some, None, refl, sym, ap, ◌∙◌, subst, arith, append_assoc, append-nil, Result, Ok, Err, OnOk, OnErr}
use Rattle.std.specs.List.{flat_map}
use Rattle.std.specs.Option.{IfSome}
use Rattle.std.specs.Result.{IfOk}
use Rattle.ffc_base.specs.Outside.{Appends, AppendsPrefix, Becomes, Rose}
use Rattle.ffc_cert.specs.declared.entries.Entry.{Entry}
use Rattle.ffc_cert.specs.Spelling.{entry_text, header, text_of}
use Rattle.ffc_smt.specs.Scripts.{Script, reads}
use Rattle.ffc_smt.specs.TableChecks.{table_checks}
use Rattle.ffc_trials.specs.Versions.{written_version}
use Rattle.ffc_answer.specs.Answers.{has_all_entries, made_answer, run_answers, script_answers}
use Rattle.ffc_solve.specs.declared.dialogue.Dialogue.{Dialogue}
use Rattle.ffc_solve.specs.Changes.{Change}
use Rattle.ffc_solve.specs.Solving.{AnswersSoon, EndsSoon, IsPaused, IsStopped, IsTaken, IsWhole}
use Rattle.ffc_solve.specs.Underway.{AnswersSoonAt, IsAnswered, IsCut, IsPausedAt, is_fault}
use Rattle.ffc_solve.proofs.ListLemmas.{between, AppendsPrefix-none, Becomes-more, front_is_prefix, front_of}
use Rattle.std.proofs.lemmas.Bool.{false≢true}
use Rattle.std.proofs.lemmas.List.{take-append-drop, take_all, length-map}
use Rattle.std.specs.List.{AllByRecursion}
use Rattle.std.proofs.Common.{map}
use Rattle.ffc_cert.specs.Laws.{IsVersion, line_count, numbered_from}
use Rattle.ffc_cert.proofs.BackLemmas.{reads_back}
use Rattle.ffc_cert.specs.Reading.{reading_of}
use Rattle.ffc_cert.specs.WellFormed.{IsReadable}
use Rattle.ffc_smt.specs.Scripts as scripts
use Rattle.ffc_smt.specs.Scripts.{End}
use Rattle.ffc_smt.specs.TableChecks.{TableCheck}
use Rattle.ffc_rules.specs.Entries.{Broken, limits}
use Rattle.ffc_rules.specs.Judging.{Accepted, Accepts, Judgement, Refused, Rule, counts_of, first_broken, judgement_of, node_check}
use Rattle.ffc_solve.specs.Solving.{AreEntries}
use Rattle.ffc_solve.specs.Status.{EndsAs, IsAccepted, IsLeft, IsNamed, IsScript, IsUntouchedOrNamed, Leaves, script_given, status_of}
use Rattle.ffc_solve.specs.declared.solve.SolveStatus.{SolveStatus}
use Rattle.clap.specs.Words.{Text}
use Rattle.ffc_solve.specs.declared.arguments.Plan.{Plan}
use Rattle.ffc_solve.specs.declared.arguments.Task.{Task}
use Rattle.ffc_solve.specs.Arguments.{HasPlan, task_of}
use Rattle.std.specs.Result.{IsErrOf}
use Rattle.ffc_solve.specs.declared.solve.SolveStatus.TheVariants as status
use Rattle.ffc_solve.specs.declared.stop.Stop.{Stop}
use Rattle.ffc_solve.specs.declared.stop.Stop.TheVariants as stops

no_made : (b : Bool) → (let none : List ℕ = [] in cond b none none ≡ none)
no_made true = refl
no_made false = refl

-- a script that is not generated has no more answers
run_plain : (script : Script) (entries : List Entry) → run_answers None script entries ≡ script_answers script entries
run_plain script entries = ap (λ a. script_answers script entries ++ a) (no_made (has_all_entries script.steps entries)) ∙ append-nil (script_answers script entries)

text_is : (version : ℕ) (entries : List Entry) → header version ++ flat_map entry_text entries ≡ text_of version entries
unfolding text_of
text_is version entries = refl

-- entries and more after the first line
text_then : (version : ℕ) (entries : List Entry) (part : List ℕ) (cert : Change) (c1 : Option (List ℕ)) → Becomes (header version) cert.old c1 → Appends (flat_map entry_text entries ++ part) c1 cert.new → Becomes (text_of version entries ++ part) cert.old cert.new
text_then version entries part cert c1 first more =
    subst (λ a. Becomes a cert.old cert.new) (sym (append_assoc (header version) (flat_map entry_text entries) part) ∙ ap (λ a. a ++ part) (text_is version entries))
    (Becomes-more (header version) (flat_map entry_text entries ++ part) cert.old c1 cert.new first more)

-- the whole text after the first line
pub text_from : (version : ℕ) (entries : List Entry) (cert : Change) (c1 : Option (List ℕ)) → Becomes (header version) cert.old c1 → Appends (flat_map entry_text entries) c1 cert.new → Becomes (text_of version entries) cert.old cert.new
text_from version entries cert c1 first more = subst (λ a. Becomes a cert.old cert.new) (text_is version entries) (Becomes-more (header version) (flat_map entry_text entries) cert.old c1 cert.new first more)

pub whole_from : (task : Task) (b : List ℕ) (refused : Bool) (s : Dialogue) (cert out : Change) (c1 : Option (List ℕ)) → Becomes (header (written_version task.bits)) cert.old c1 → IsAnswered task b refused s (between c1 cert.new) out → IsWhole task None b cert out
whole_from task b refused s cert out c1 first h = record {
  entries = h.entries;
  each = h.each;
  all = h.all;
  certificate = text_from (written_version task.bits) h.entries cert c1 first h.certificate;
  answered = subst (λ a. Appends a out.old out.new) (sym (run_plain (reads b) h.entries)) h.answered;
}

longer_prefix : (a tail : List ℕ) (x y : Option (List ℕ)) → AppendsPrefix a x y → AppendsPrefix (a ++ tail) x y
longer_prefix a tail x y h =
    let front = front_of a x y h in
    front_is_prefix (a ++ tail) x y (take front.size a) (drop front.size a ++ tail)
    (ap (λ b. b ++ tail) (sym (take-append-drop front.size a)) ∙ append_assoc (take front.size a) (drop front.size a) tail) front.appended

pub stopped_from : (task : Task) (make : Option ℕ) (b : List ℕ) (cert out : Change) (c1 : Option (List ℕ)) → Becomes (header (written_version task.bits)) cert.old c1 → IsCut task b (between c1 cert.new) out → IsStopped task make b cert out
stopped_from task make b cert out c1 first h = inr (record {
  entries = h.entries;
  each = h.each;
  text = text_of (written_version task.bits) h.entries ++ h.part;
  part = inr (h.part, refl, h.rest);
  certificate = text_then (written_version task.bits) h.entries h.part cert c1 first h.certificate;
  answered = longer_prefix (script_answers (reads b) h.entries) (cond (has_all_entries (reads b).steps h.entries) (made_answer make h.entries) []) out.old out.new h.answered;
})

-- a certificate with its first line alone, or a front of it
pub stopped_early : (task : Task) (make : Option ℕ) (b : List ℕ) (n : ℕ) (cert : Change) (oo : Option (List ℕ)) → Becomes (take n (header (written_version task.bits))) cert.old cert.new → IsStopped task make b cert (between oo oo)
stopped_early task make b n cert oo h = inr (record {
  entries = [];
  each = tt;
  text = take n (header (written_version task.bits));
  part = inl (refl, (n, refl));
  certificate = h;
  answered = AppendsPrefix-none (run_answers make (reads b) []) oo;
})

pub paused_from : (task : Task) (text : List ℕ) (cert out : Change) (c1 : Option (List ℕ)) → Becomes (header (written_version task.bits)) cert.old c1 → IsPausedAt task text (between c1 cert.new) out → IsPaused task text cert out
paused_from task text cert out c1 first h = record {
  steps = h.steps;
  state = h.state;
  run = h.run;
  sound = h.sound;
  entries = h.entries;
  each = h.each;
  all = h.all;
  certificate = text_from (written_version task.bits) h.entries cert c1 first h.certificate;
  answered = h.answered;
}

pub soon_from : (bits : Bool) (text : List ℕ) (cert out : Change) (c1 : Option (List ℕ)) → Becomes (header (written_version bits)) cert.old c1 → AnswersSoonAt text (between c1 cert.new) out → AnswersSoon bits text cert out
soon_from bits text cert out c1 first h = λ n far.
    let a = h n far in
    record {
      entries = a.entries;
      all = a.all;
      more_entries = a.more_entries;
      certificate = text_then (written_version bits) a.entries a.more_entries cert c1 first a.certificate;
      more_answers = a.more_answers;
      answered = a.answered;
    }

-- where a script is told

pub if_any : (o : Option (List ℕ)) (P : List ℕ → Type 0) → ((b : List ℕ) → P b) → IfSome o P
if_any None P f = tt
if_any (Some b) P f = f b

pub told_if : (o : Option (List ℕ)) (P Q : List ℕ → Type 0) → ((b : List ℕ) → P b → Q b) → IfSome o P → IfSome o Q
told_if None P Q f h = tt
told_if (Some b) P Q f h = f b h

-- where nothing was taken, nothing had to be answered
pub taken_none : (left : Option (List ℕ)) (bits : Bool) (cert out : Change) → IfSome left (λ bytes. (text : List ℕ) × IsTaken text bytes left × EndsSoon text × AnswersSoon bits text cert out)
taken_none None bits cert out = tt
taken_none (Some bytes) bits cert out = (
  [],
  record { rest = bytes; split = refl; left = refl; few = omega arith },
  record { after_exit = λ n has. omega arith; after_fault = λ n has. omega arith },
  λ n far. absurd (omega arith),
)

-- the first line alone
pub stopped_headed : (task : Task) (make : Option ℕ) (b : List ℕ) (cert : Change) (oo : Option (List ℕ)) → Becomes (header (written_version task.bits)) cert.old cert.new → IsStopped task make b cert (between oo oo)
stopped_headed task make b cert oo h = stopped_early task make b (length (header (written_version task.bits))) cert oo (subst (λ a. Becomes a cert.old cert.new) (sym (take_all (length (header (written_version task.bits))) (header (written_version task.bits)) (omega arith))) h)

pub stopped_creating : (task : Task) (make : Option ℕ) (b : List ℕ) (cert : Change) (oo : Option (List ℕ)) (P Q : Type 0) → (((cert.new ≡ cert.old) × P) ⊎ (((n : ℕ) × Becomes (take n (header (written_version task.bits))) cert.old cert.new) × Q)) → IsStopped task make b cert (between oo oo)
stopped_creating task make b cert oo P Q (inl same) = inl (same.0, refl)
stopped_creating task make b cert oo P Q (inr begun) = stopped_early task make b begun.0.0 cert oo begun.0.1

pub on_ok : {T E : Type 0} (r : Result T E) (P : T → Type 0) (Q : Type 0) → ((x : T) → P x → Q) → IfOk r P → OnOk r Q
on_ok (Ok x) P Q f h = f x h
on_ok (Err e) P Q f h = tt

-- What is written is accepted

-- the version that is written is one that is read
written_is_read : (bits : Bool) → IsVersion bits (written_version bits)
written_is_read true = inr (inr (refl, refl))
written_is_read false = inr (inl refl)

none_broken : (task : Task) (checks : List TableCheck) (entries : List Entry) (number line : ℕ) → AreEntries task checks entries → first_broken limits (map node_check checks) (numbered_from number line entries) ≡ None
unfolding first_broken
none_broken task checks [] number line each = refl
none_broken task [] (e ∷ es) number line each = absurd each
none_broken task (c ∷ cs) (e ∷ es) number line each =
    ap (λ (o : Option Broken). elim o as (λ _. Option Judgement) [ Some broken ↦ Some (Refused number broken.line (Rule broken.rule)) | None ↦ first_broken limits (map node_check cs) (numbered_from (number + 1) (line + line_count e) es) ]) (each.0.right line)
    ∙ none_broken task cs es (number + 1) (line + line_count e) each.1

all_readable : (task : Task) (checks : List TableCheck) (entries : List Entry) → AreEntries task checks entries → AllByRecursion (IsReadable (written_version task.bits)) entries
all_readable task checks [] each = tt
all_readable task [] (e ∷ es) each = absurd each
all_readable task (c ∷ cs) (e ∷ es) each = (each.0.readable, all_readable task cs es each.1)

pub whole_accepted : (task : Task) (b : List ℕ) (entries : List Entry) → AreEntries task (table_checks (reads b).steps) entries → length entries ≡ length (table_checks (reads b).steps) → (reads b).end ≡ scripts.Done → Accepts task.bits b (text_of (written_version task.bits) entries)
unfolding judgement_of
whole_accepted task b entries each all done =
    let checks = table_checks (reads b).steps in
    let count : length (map node_check checks) ≡ length entries = length-map checks node_check ∙ sym all in
    let back = reads_back task.bits (written_version task.bits) entries (written_is_read task.bits) (all_readable task checks entries each) in
    let reading = ap (λ n. reading_of task.bits n (text_of (written_version task.bits) entries)) count ∙ back in
    record {
      done = done;
      counts = counts_of (numbered_from 1 2 entries);
      accepted = ap (judgement_of limits (map node_check checks)) reading
          ∙ ap (λ (o : Option Judgement). elim o as (λ _. Judgement) [ Some refused ↦ refused | None ↦ Accepted (counts_of (numbered_from 1 2 entries)) ]) (none_broken task checks entries 1 2 each);
    }

pub accepted_from : (task : Task) (make : Option ℕ) (b : List ℕ) (cert out : Change) → IsWhole task make b cert out → is_fault (reads b).end ≡ false → (held : List ℕ) → cert.old ≡ Some held → IsAccepted task.bits b cert.new
accepted_from task make b cert out h sound held told =
    let now : cert.new ≡ Some (text_of (written_version task.bits) h.entries) = (let P : Option (List ℕ) → Type 0 = λ o. Becomes (text_of (written_version task.bits) h.entries) o cert.new in subst P told h.certificate) in
    subst (IsAccepted task.bits b) (sym now) (whole_accepted task b h.entries h.each h.all (no_fault (reads b).end sound))
  where
    no_fault : (e : End) → is_fault e ≡ false → e ≡ scripts.Done
    no_fault scripts.Done s = refl
    no_fault (scripts.AtFault l c k) s = absurd (false≢true (sym s))

-- a count that rose later has risen
pub rose_later : (a b c : ℕ) → a ≤ b → Rose b c → Rose a c
rose_later a b c le (inl rose) = inl (omega arith)
rose_later a b c le (inr last) = inr last

-- Statuses

pub left_by : (r : Result Bool Stop) (task : Task) (make : Option ℕ) (lo : Option (List ℕ)) (cert out : Change) → OnOk r (IfSome lo (λ b. IsWhole task make b cert out)) → IfOk r (λ refused. IfSome lo (λ b. refused ≡ is_fault (reads b).end))
    → OnErr r (IfSome lo (λ b. IsStopped task make b cert out)) → IfSome lo (λ b. IsLeft (status_of r) task make b cert out)
left_by (Ok true) task make None cert out whole ended stopped = tt
left_by (Ok true) task make (Some b) cert out whole ended stopped = (whole, sym ended)
left_by (Ok false) task make None cert out whole ended stopped = tt
left_by (Ok false) task make (Some b) cert out whole ended stopped = (whole, sym ended)
left_by (Err stops.ReadFault) task make lo cert out whole ended stopped = stopped
left_by (Err stops.WriteFault) task make lo cert out whole ended stopped = stopped
left_by (Err stops.CertFault) task make lo cert out whole ended stopped = stopped
left_by (Err stops.Memory) task make lo cert out whole ended stopped = stopped

pub named_by : (r : Result Bool Stop) (given : List ℕ) (cert out name : Change) → OnOk r (Becomes given name.old name.new) → OnErr r (IsUntouchedOrNamed given cert out name) → IsNamed (status_of r) given cert out name
named_by (Ok true) given cert out name named begun = named
named_by (Ok false) given cert out name named begun = named
named_by (Err stops.ReadFault) given cert out name named begun = begun
named_by (Err stops.WriteFault) given cert out name named begun = begun
named_by (Err stops.CertFault) given cert out name named begun = begun
named_by (Err stops.Memory) given cert out name named begun = begun

pub accepted_by : (r : Result Bool Stop) (task : Task) (make : Option ℕ) (lo : Option (List ℕ)) (cert out : Change) → OnOk r (IfSome lo (λ b. IsWhole task make b cert out)) → IfOk r (λ refused. IfSome lo (λ b. refused ≡ is_fault (reads b).end))
    → status_of r ≡ status.Done → IfSome lo (λ b. (held : List ℕ) → cert.old ≡ Some held → IsAccepted task.bits b cert.new)
accepted_by (Ok false) task make None cert out whole ended done = tt
accepted_by (Ok false) task make (Some b) cert out whole ended done = accepted_from task make b cert out whole (sym ended)
accepted_by (Ok true) task make lo cert out whole ended done = cc
accepted_by (Err stops.ReadFault) task make lo cert out whole ended done = cc
accepted_by (Err stops.WriteFault) task make lo cert out whole ended done = cc
accepted_by (Err stops.CertFault) task make lo cert out whole ended done = cc
accepted_by (Err stops.Memory) task make lo cert out whole ended done = cc

pub planned : (words : List Text) (plan : Plan) (make : Option ℕ) (r : Result Bool Stop) (left : Option (List ℕ)) (cert out name : Change) (s : SolveStatus) → HasPlan words plan → plan.make ≡ make → s ≡ status_of r
    → OnOk r (IfSome (script_given make left) (λ b. IsWhole (task_of plan) make b cert out)) → IfOk r (λ refused. IfSome (script_given make left) (λ b. refused ≡ is_fault (reads b).end))
    → OnErr r (IfSome (script_given make left) (λ b. IsStopped (task_of plan) make b cert out)) → OnOk r (Becomes plan.cert_name name.old name.new)
    → OnErr r (IsUntouchedOrNamed plan.cert_name cert out name) → Leaves words s left cert out name
planned words plan make r left cert out name s has made is whole ended stopped named begun = inr (record {
  plan = plan;
  has = has;
  leaves = subst (λ t. IfSome (script_given plan.make left) (λ b. IsLeft t (task_of plan) plan.make b cert out)) (sym is)
      (subst (λ m. IfSome (script_given m left) (λ b. IsLeft (status_of r) (task_of plan) m b cert out)) (sym made) (left_by r (task_of plan) make (script_given make left) cert out whole ended stopped));
  named = subst (λ t. IsNamed t plan.cert_name cert out name) (sym is) (named_by r plan.cert_name cert out name named begun);
  accepted = λ done. subst (λ m. IfSome (script_given m left) (λ b. (held : List ℕ) → cert.old ≡ Some held → IsAccepted plan.bits b cert.new)) (sym made)
      (accepted_by r (task_of plan) make (script_given make left) cert out whole ended (sym is ∙ done));
})

-- a certificate whose creation failed was not touched, or has its name
pub begun_creating : (given told : List ℕ) (cert name : Change) (oo : Option (List ℕ)) (P : Type 0) → told ≡ given → (((cert.new ≡ cert.old) × (name.new ≡ name.old)) ⊎ (P × Becomes told name.old name.new)) → IsUntouchedOrNamed given cert (between oo oo) name
begun_creating given told cert name oo P is (inl same) = inl (same.0, refl, same.1)
begun_creating given told cert name oo P is (inr begun) = inr (subst (λ n. Becomes n name.old name.new) is begun.1)

-- what was created has its name for as long as writes go there
pub begun_named : (given told : List ℕ) (cert out : Change) (n0 n1 n2 : Option (List ℕ)) → told ≡ given → Becomes told n0 n1 → n2 ≡ n1 → IsUntouchedOrNamed given cert out (between n0 n2)
begun_named given told cert out n0 n1 n2 is named same = inr (subst (λ n. Becomes n n0 n2) is (subst (Becomes told n0) (sym same) named))

-- the name that was given stays
pub named_still : {T E : Type 0} (r : Result T E) (given told : List ℕ) (n0 n1 n2 : Option (List ℕ)) → told ≡ given → Becomes told n0 n1 → n2 ≡ n1 → OnOk r (Becomes given n0 n2)
named_still (Ok x) given told n0 n1 n2 is named same = subst (λ n. Becomes n n0 n2) is (subst (Becomes told n0) (sym same) named)
named_still (Err e) given told n0 n1 n2 is named same = tt

-- Ends

ends_memory_at : (e : End) → EndsAs status.Memory e
ends_memory_at scripts.Done = inr refl
ends_memory_at (scripts.AtFault l c k) = inr refl

pub ends_memory : (s : SolveStatus) (e : End) → s ≡ status.Memory → EndsAs s e
ends_memory s e is = subst (λ t. EndsAs t e) (sym is) (ends_memory_at e)

ends_whole : (refused : Bool) (e : End) → refused ≡ is_fault e → EndsAs (status_of (Ok refused)) e
ends_whole false scripts.Done is = inl refl
ends_whole true scripts.Done is = absurd (false≢true (sym is))
ends_whole false (scripts.AtFault l c k) is = absurd (false≢true is)
ends_whole true (scripts.AtFault l c k) is = inl refl

ends_by : (r : Result Bool Stop) (e : End) → IfOk r (λ refused. refused ≡ is_fault e) → (IsErrOf r stops.ReadFault → ⊥) → (IsErrOf r stops.WriteFault → ⊥) → (IsErrOf r stops.CertFault → ⊥) → EndsAs (status_of r) e
ends_by (Ok refused) e ended read write cert = ends_whole refused e ended
ends_by (Err stops.ReadFault) e ended read write cert = absurd (read refl)
ends_by (Err stops.WriteFault) e ended read write cert = absurd (write refl)
ends_by (Err stops.CertFault) e ended read write cert = absurd (cert refl)
ends_by (Err stops.Memory) e ended read write cert = ends_memory_at e

ended_at : (r : Result Bool Stop) (o : Option (List ℕ)) (b : List ℕ) → o ≡ Some b → IfOk r (λ refused. IfSome o (λ b. refused ≡ is_fault (reads b).end)) → IfOk r (λ refused. refused ≡ is_fault (reads b).end)
ended_at (Ok refused) o b is ended = subst (λ o. IfSome o (λ b. refused ≡ is_fault (reads b).end)) is ended
ended_at (Err stop) o b is ended = tt

-- a run that no fault stops ends as the script does that the words ask for
pub ends_as : (words : List Text) (plan : Plan) (make : Option ℕ) (r : Result Bool Stop) (s : SolveStatus) (left : Option (List ℕ)) (b : List ℕ) → HasPlan words plan → plan.make ≡ make → s ≡ status_of r → IsScript words left b
    → IfOk r (λ refused. IfSome (script_given make left) (λ b. refused ≡ is_fault (reads b).end)) → (IsErrOf r stops.ReadFault → ⊥) → (IsErrOf r stops.WriteFault → ⊥) → (IsErrOf r stops.CertFault → ⊥) → EndsAs s (reads b).end
ends_as words plan make r s left b has made is script ended read write cert =
    let given : script_given make left ≡ Some b = subst (λ m. script_given m left ≡ Some b) (sym has.make ∙ made) script in
    subst (λ t. EndsAs t (reads b).end) (sym is) (ends_by r (reads b).end (ended_at r (script_given make left) b given ended) read write cert)
