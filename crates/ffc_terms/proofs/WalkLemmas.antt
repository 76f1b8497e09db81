-- Walking over words.
use Rattle.std.proofs.Common.{◌≡◌, ℕ, suc, ◌+◌, ◌-◌, ◌<◌, ◌≤◌, Result, Ok, Err, List, ◌∷◌, length, drop, refl, sym, ap, ◌∙◌, arith}
use Rattle.ffc_term.specs.declared.node.Sort.{Sort}
use Rattle.ffc_smt.specs.Meaning.{Env}
use Rattle.std.proofs.lemmas.List.{drop_all}
use Rattle.ffc_smt.specs.Trees.{Word}
use Rattle.ffc_smt.specs.Faults.{Fault, word_fault}
use Rattle.ffc_words.specs.Words.{word_at, no_word, fault_of}
use Rattle.ffc_words.specs.declared.faults.TakeStop.{TakeStop}
use Rattle.ffc_words.specs.declared.faults.TakeStop.TheVariants as stops
use Rattle.ffc_terms.specs.declared.codes.Op.{Op}
use Rattle.ffc_terms.specs.declared.scope.Symbols.{Symbols}
use Rattle.ffc_terms.specs.declared.values.Value.{Value}
use Rattle.ffc_terms.specs.Walking.{Walking, Going, Done, Failed, moved, step, goes_on, Steps, run, RunsAs}
use Rattle.ffc_terms.proofs.SortLemmas.{words_from}

-- one more is moved
pub moved_one : (x : List ℕ × Sort) (from rest onto more : Env Sort) (count i : ℕ) → i < count → from ≡ x ∷ rest → more ≡ x ∷ onto
    → moved (count - (i + 1)) rest more ≡ moved (count - i) from onto
moved_one x from rest onto more count i h e f =
    let n : count - i ≡ suc (count - (i + 1)) = omega arith in
    ap (λ v. moved (count - (i + 1)) rest v) f ∙ sym (ap (λ k. moved k from onto) n ∙ ap (λ v. moved (suc (count - (i + 1))) v onto) e)

-- Reading on, a word

module _ (limit : ℕ) (symbols : Symbols) (words : List Word) (i : ℕ) (w : Walking) where
  run_one : i < length words → run limit symbols w (drop i words) ≡ goes_on (λ next. run limit symbols next (drop (i + 1) words)) (drop (i + 1) words) (step limit symbols (word_at words i) w)
  unfolding run
  run_one h = rw (words_from words i h) refl

  pub run_going : (next : Walking) → i < length words → step limit symbols (word_at words i) w ≡ Going next
      → run limit symbols w (drop i words) ≡ run limit symbols next (drop (i + 1) words)
  run_going next h e = run_one h ∙ ap (goes_on (λ n. run limit symbols n (drop (i + 1) words)) (drop (i + 1) words)) e

  pub run_done : (v : Value) (code : List Op) → i < length words → step limit symbols (word_at words i) w ≡ Done v code
      → run limit symbols w (drop i words) ≡ Ok (v, code, drop (i + 1) words)
  run_done v code h e = run_one h ∙ ap (goes_on (λ n. run limit symbols n (drop (i + 1) words)) (drop (i + 1) words)) e

  pub run_failed : (f : Fault) → i < length words → step limit symbols (word_at words i) w ≡ Failed f → run limit symbols w (drop i words) ≡ Err f
  run_failed f h e = run_one h ∙ ap (goes_on (λ n. run limit symbols n (drop (i + 1) words)) (drop (i + 1) words)) e

  pub run_past : length words ≤ i → run limit symbols w (drop i words) ≡ Err (word_fault 5 no_word)
  unfolding run
  run_past h = rw (drop_all i words h) refl

  pub run_stopped : (stop : TakeStop) (next : Walking) (r : Result (Value × List Op × List Word) Fault) → i < length words → Steps (step limit symbols (word_at words i) w) (Err stop) next
      → run limit symbols w (drop i words) ≡ r → RunsAs words r (Err stop)
  run_stopped (stops.Fault f) next r h e same = sym same ∙ run_failed (fault_of f) h e
  run_stopped stops.Memory next r h e same = tt
