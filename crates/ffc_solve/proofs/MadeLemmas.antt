-- What is left where a generated script is answered, and the line after its answers.
use Rattle.std.proofs.Common.{◌≡◌, ℕ, inl, inr, Bool, cond, List, [], ◌++◌, length, take, drop, Option, Some, refl, sym, ap, ◌∙◌, subst, append_assoc, append-nil}
use Rattle.std.specs.Option.{IfSome}
use Rattle.std.proofs.lemmas.List.{take-append-drop}
use Rattle.ffc_base.specs.Outside.{Appends, AppendsPrefix, Becomes}
use Rattle.ffc_cert.specs.declared.entries.Entry.{Entry}
use Rattle.ffc_cert.specs.Spelling.{header, text_of}
use Rattle.ffc_smt.specs.Scripts.{Script, reads}
use Rattle.ffc_smt.specs.TableChecks.{table_checks}
use Rattle.ffc_trials.specs.Versions.{written_version}
use Rattle.ffc_answer.specs.Answers.{made_answer, run_answers, script_answers}
use Rattle.ffc_solve.specs.declared.arguments.Task.{Task}
use Rattle.ffc_solve.specs.declared.dialogue.Dialogue.{Dialogue}
use Rattle.ffc_solve.specs.Changes.{Change}
use Rattle.ffc_solve.specs.Solving.{IsStopped, IsWhole}
use Rattle.ffc_solve.specs.Underway.{IsAnswered}
use Rattle.ffc_solve.proofs.EndingLemmas.{text_from}
use Rattle.ffc_solve.proofs.ListLemmas.{between, Appends-more, AppendsPrefix-none, front_is_prefix, front_of}
use Rattle.ffc_solve.proofs.RunLemmas.{all_there}

run_made : (size : ℕ) (script : Script) (entries : List Entry) → length entries ≡ length (table_checks script.steps) → run_answers (Some size) script entries ≡ script_answers script entries ++ made_answer (Some size) entries
run_made size script entries all = ap (λ b. script_answers script entries ++ cond b (made_answer (Some size) entries) []) (all_there script.steps entries all)

pub made_whole : (task : Task) (size : ℕ) (b : List ℕ) (refused : Bool) (s : Dialogue) (cert out : Change) (c1 o1 : Option (List ℕ)) → Becomes (header (written_version task.bits)) cert.old c1 → (h : IsAnswered task b refused s (between c1 cert.new) (between out.old o1)) → Appends (made_answer (Some size) h.entries) o1 out.new
    → IsWhole task (Some size) b cert out
made_whole task size b refused s cert out c1 o1 first h told = record {
  entries = h.entries;
  each = h.each;
  all = h.all;
  certificate = text_from (written_version task.bits) h.entries cert c1 first h.certificate;
  answered = subst (λ a. Appends a out.old out.new) (sym (run_made size (reads b) h.entries h.all)) (Appends-more (script_answers (reads b) h.entries) (made_answer (Some size) h.entries) out.old o1 out.new h.answered told);
}

pub made_cut : (task : Task) (size : ℕ) (b : List ℕ) (refused : Bool) (s : Dialogue) (cert out : Change) (c1 o1 : Option (List ℕ)) → Becomes (header (written_version task.bits)) cert.old c1 → (h : IsAnswered task b refused s (between c1 cert.new) (between out.old o1)) → AppendsPrefix (made_answer (Some size) h.entries) o1 out.new
    → IsStopped task (Some size) b cert out
made_cut task size b refused s cert out c1 o1 first h told =
    let whole = script_answers (reads b) h.entries in
    let made = made_answer (Some size) h.entries in
    let front = front_of made o1 out.new told in
    inr (record {
      entries = h.entries;
      each = h.each;
      text = text_of (written_version task.bits) h.entries ++ [];
      part = inr ([], refl, inl refl);
      certificate = subst (λ a. Becomes a cert.old cert.new) (sym (append-nil (text_of (written_version task.bits) h.entries))) (text_from (written_version task.bits) h.entries cert c1 first h.certificate);
      answered = front_is_prefix (run_answers (Some size) (reads b) h.entries) out.old out.new (whole ++ take front.size made) (drop front.size made)
          (run_made size (reads b) h.entries h.all ∙ ap (λ a. whole ++ a) (sym (take-append-drop front.size made)) ∙ sym (append_assoc whole (take front.size made) (drop front.size made)))
          (Appends-more whole (take front.size made) out.old o1 out.new h.answered front.appended);
    })

pub made_silent : (task : Task) (size : ℕ) (b : List ℕ) (refused : Bool) (s : Dialogue) (cert out : Change) (c1 : Option (List ℕ)) → Becomes (header (written_version task.bits)) cert.old c1 → IsAnswered task b refused s (between c1 cert.new) out → IsStopped task (Some size) b cert out
made_silent task size b refused s cert out c1 first h = made_cut task size b refused s cert out c1 out.new first h (AppendsPrefix-none (made_answer (Some size) h.entries) out.new)

pub told_at : (o : Option (List ℕ)) (b : List ℕ) (P : List ℕ → Type 0) → o ≡ Some b → IfSome o P → P b
told_at o b P e h = subst (λ o. IfSome o P) e h
