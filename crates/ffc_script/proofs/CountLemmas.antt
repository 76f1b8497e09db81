-- A script has no more commands than bytes.
use Rattle.std.proofs.Common.{◌≡◌, ℕ, zero, suc, ◌+◌, ◌-◌, ◌≤◌, List, [], ◌∷◌, ◌++◌, length, Some, refl, sym, ap, ◌∙◌, subst, arith}
use Rattle.std.proofs.lemmas.List.{length-append, append-nil}
use Rattle.ffc_lex.specs.declared.tokens.Place.{Place}
use Rattle.ffc_lex.specs.Reading.{Open, Next, Halt, Move, Give, past, outside, origin, next_at, read, forms_of, reading_of}
use Rattle.ffc_lex.proofs.ReadingLemmas.{read_on, read_form, read_end}
use Rattle.ffc_smt.specs.Trees.{Tree}
use Rattle.ffc_smt.specs.Terms as smt
use Rattle.ffc_smt.specs.Scopes.{State, first_state}
use Rattle.ffc_smt.specs.Faults.{Read, Sound, Faulty, first_fault}
use Rattle.ffc_smt.specs.CommandReading.{limits, command_read}
use Rattle.ffc_smt.specs.Scripts.{Step, Script, End, Done, ended, with_step, end_at, end_of_text, after, script_from, trees_of, reads_within, reads}
use Rattle.ffc_smt.proofs.FormLemmas.{forms_good}
use Rattle.ffc_script.specs.Kept.{AreFirst}
use Rattle.ffc_script.proofs.RunLemmas.{trees_length}

read_skip : (c : ℕ) (cs : List ℕ) (k : ℕ) (place : Place) (o : Open) → read (c ∷ cs) (suc k) place o ≡ read cs k (past c place) o
unfolding read
read_skip c cs k place o = refl

read_none : (k : ℕ) (place : Place) (o : Open) → length (read [] k place o).forms ≤ 0
unfolding read
read_none k place o = omega arith

step_few : (c : ℕ) (cs : List ℕ) (place : Place) (o : Open) (next : Next) → next_at (c ∷ cs) place o ≡ next
    → ((k : ℕ) (p : Place) (left : Open) → length (read cs k p left).forms ≤ length cs) → length (read (c ∷ cs) 0 place o).forms ≤ suc (length cs)
step_few c cs place o (Halt end) e on = rw (read_end c cs place o end e) (omega arith)
step_few c cs place o (Move n left) e on = let rest = on (n - 1) (past c place) left in rw (read_on c cs place o n left e) (omega (arith, rest))
step_few c cs place o (Give form) e on = let rest = on 0 (past c place) (outside (past c place)) in rw (read_form c cs place o form e) (omega (arith, rest))

read_few : (bytes : List ℕ) (k : ℕ) (place : Place) (o : Open) → length (read bytes k place o).forms ≤ length bytes
read_few [] k place o = read_none k place o
read_few (c ∷ cs) (suc k) place o = let rest = read_few cs k (past c place) o in rw (read_skip c cs k place o) (omega (arith, rest))
read_few (c ∷ cs) zero place o = step_few c cs place o (next_at (c ∷ cs) place o) refl (λ k p left. read_few cs k p left)

forms_few : (text : List ℕ) → length (forms_of text) ≤ length text
unfolding reading_of
forms_few text = read_few text 0 origin (outside origin)

abbrev Fewer : ℕ → Script → Type 0
Fewer n script = length script.steps ≤ n

script_more : (t : Tree) (ts : List Tree) (s : State) (end : End) → ((c : smt.Command) → Fewer (length ts) (script_from limits (after s t c) ts end)) → Fewer (suc (length ts)) (script_from limits s (t ∷ ts) end)
unfolding script_from
script_more t ts s end h = by_read (command_read limits s t)
  where
    by_read : (r : Read smt.Command) → Fewer (suc (length ts)) (elim r [
      | Faulty f fs ↦ ended (end_at (first_fault f fs))
      | Sound smt.Exit ↦ with_step (record { before = s; tree = t; command = smt.Exit }) (ended Done)
      | Sound c ↦ with_step (record { before = s; tree = t; command = c }) (script_from limits (after s t c) ts end)
    ])
    by_read (Faulty f fs) = omega arith
    by_read (Sound smt.Exit) = omega arith
    by_read (Sound c) = let rest = h c in omega (arith, rest)

script_none : (s : State) (end : End) → Fewer 0 (script_from limits s [] end)
unfolding script_from
script_none s end = omega arith

script_few : (ts : List Tree) (s : State) (end : End) → Fewer (length ts) (script_from limits s ts end)
script_few [] s end = script_none s end
script_few (t ∷ ts) s end = script_more t ts s end (λ c. script_few ts (after s t c) end)

reads_few : (text : List ℕ) → length (reads text).steps ≤ length text
unfolding reads_within
reads_few text =
    let few = script_few (trees_of text (forms_of text)) first_state (end_of_text (reading_of text).end) in
    omega (arith, few, trees_length text (forms_of text) (forms_good text), forms_few text)

pub steps_few : (text : List ℕ) (xs : List Step) → AreFirst text xs → length xs ≤ length text
steps_few text xs h =
    let first = h [] in
    let few : length (reads (text ++ [])).steps ≤ length text = subst (λ t. length (reads t).steps ≤ length text) (sym (append-nil text)) (reads_few text) in
    omega (arith, few, ap length first.1, length-append xs first.0)
