-- How soon commands are answered: all commands of a text are answered before a further piece of it is taken.
use Rattle.std.proofs.Common.{◌≡◌, ℕ, ◌+◌, ◌≤◌, inl, inr, Bool, List, [], ◌++◌, length, take, drop, Option, None, sym, ap, ◌∙◌, subst, arith, append_assoc, length-append, Result, Ok, Err, OnErr}
use Rattle.std.specs.List.{flat_map}
use Rattle.std.specs.Result.{IfOk}
use Rattle.std.proofs.lemmas.List.{take-append-le, take-append-drop, length-take}
use Rattle.ffc_base.specs.Outside.{Appends, AppendsPrefix}
use Rattle.ffc_cert.specs.declared.entries.Entry.{Entry}
use Rattle.ffc_cert.specs.Spelling.{entry_text}
use Rattle.ffc_smt.specs.Scripts.{Step, reads}
use Rattle.ffc_smt.specs.TableChecks.{table_checks}
use Rattle.ffc_answer.specs.Answers.{answers, answers_from, end_answer, last_from}
use Rattle.ffc_script.specs.Answers.{HasRun}
use Rattle.ffc_script.specs.Progress.{Progress, steps_of}
use Rattle.ffc_solve.specs.declared.stop.Stop.{Stop}
use Rattle.ffc_solve.specs.Changes.{Change}
use Rattle.ffc_solve.specs.Underway.{AnswersSoonAt, AreAnsweredAt, IsFinished, IsUnfinished}
use Rattle.ffc_solve.proofs.ListLemmas.{between, Appends-more, Appends-nil, Appends-same, answers-append, checks-append, front_of, texts-append}
use Rattle.ffc_solve.proofs.TakenLemmas.{first_steps}

-- Texts that grow

-- something was appended, or nothing
abbrev pub Grows : Option (List ℕ) → Option (List ℕ) → Type 0
Grows x y = (more : List ℕ) × Appends more x y

pub grows_none : (x y : Option (List ℕ)) → y ≡ x → Grows x y
grows_none x y e = ([], Appends-same [] x x y e (Appends-nil x))

pub grows_in_part : (text : List ℕ) (x y : Option (List ℕ)) → AppendsPrefix text x y → Grows x y
grows_in_part text x y h = let front = front_of text x y h in (take front.size text, front.appended)

pub grows_finished : (r : Result Bool Stop) (p : Progress) (out : Change) → IfOk r (λ refused. IsFinished p refused out) → OnErr r (IsUnfinished p out) → Grows out.old out.new
grows_finished (Ok refused) p out ok err = (_, ok.answered)
grows_finished (Err stop) p out ok (inl none) = grows_none out.old out.new none
grows_finished (Err stop) p out ok (inr (end, says, last)) = grows_in_part (end_answer end) out.old out.new last

-- what is answered stays so
module _ (co c1 cn oo o1 on : Option (List ℕ)) (cert_grows : Grows c1 cn) (out_grows : Grows o1 on) where
  answered_still : (steps : List Step) → AreAnsweredAt steps (between co c1) (between oo o1) → AreAnsweredAt steps (between co cn) (between oo on)
  answered_still steps h =
      let texts = flat_map entry_text h.entries in
      let told = answers steps h.entries in
      record {
        entries = h.entries;
        all = h.all;
        more_entries = h.more_entries ++ cert_grows.0;
        certificate = subst (λ a. Appends a co cn) (append_assoc texts h.more_entries cert_grows.0) (Appends-more (texts ++ h.more_entries) cert_grows.0 co c1 cn h.certificate cert_grows.1);
        more_answers = h.more_answers ++ out_grows.0;
        answered = subst (λ a. Appends a oo on) (append_assoc told h.more_answers out_grows.0) (Appends-more (told ++ h.more_answers) out_grows.0 oo o1 on h.answered out_grows.1);
      }

  pub soon_still : (text : List ℕ) → AnswersSoonAt text (between co c1) (between oo o1) → AnswersSoonAt text (between co cn) (between oo on)
  soon_still text h = λ n far. answered_still (reads (take n text)).steps (h n far)

-- Pieces

-- nothing was taken
pub soon_answered_none : (cert out : Change) → AnswersSoonAt [] cert out
soon_answered_none cert out = λ n far. absurd (omega arith)

-- where commands are answered, the first ones of them are
first_answered : (xs ys : List Step) (entries : List Entry) (cert out : Change) → length entries ≡ length (table_checks (xs ++ ys)) → Appends (flat_map entry_text entries) cert.old cert.new → Appends (answers (xs ++ ys) entries) out.old out.new → AreAnsweredAt xs cert out
first_answered xs ys entries cert out count put told =
    let k = length (table_checks xs) in
    let es = take k entries in
    let fs = drop k entries in
    let parts : entries ≡ es ++ fs = sym (take-append-drop k entries) in
    let long : length entries ≡ k + length (table_checks ys) = count ∙ ap length (checks-append xs ys) ∙ length-append (table_checks xs) (table_checks ys) in
    let all : length es ≡ k = omega (arith, length-take k entries) in
    record {
      entries = es;
      all = all;
      more_entries = flat_map entry_text fs;
      certificate = subst (λ a. Appends a cert.old cert.new) (ap (flat_map entry_text) parts ∙ texts-append es fs) put;
      more_answers = answers_from (last_from None xs es) ys fs;
      answered = subst (λ a. Appends a out.old out.new) (ap (answers (xs ++ ys)) parts ∙ (answers-append xs ys None es fs all).answers_are) told;
    }

-- a piece was taken where all commands of the text so far are answered
pub soon_answered : (p : Progress) (piece : List ℕ) (entries : List Entry) (cert out : Change) → HasRun p → length piece ≤ 4096 → length entries ≡ length (table_checks (steps_of p)) → Appends (flat_map entry_text entries) cert.old cert.new → Appends (answers (steps_of p) entries) out.old out.new
    → AnswersSoonAt (p.text ++ piece) cert out
soon_answered p piece entries cert out run short count put told = λ n far.
    let in_text : n ≤ length p.text = omega (arith, length-append p.text piece) in
    let first = first_steps p run n in
    let xs = (reads (take n p.text)).steps in
    subst (λ t. AreAnsweredAt (reads t).steps cert out) (sym (take-append-le n p.text piece in_text))
    (first_answered xs first.0 entries cert out (count ∙ ap (λ steps. length (table_checks steps)) first.1) put (subst (λ steps. Appends (answers steps entries) out.old out.new) first.1 told))
