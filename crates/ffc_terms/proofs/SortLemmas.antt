-- Sorts word by word, and by their trees.
use Rattle.std.proofs.Common.{◌≡◌, ℕ, ◌+◌, ◌<◌, List, ◌∷◌, drop, length, ◌≤◌, Ok, Err, refl, ap, ◌∙◌, add-one}
use Rattle.std.proofs.lemmas.List.{get_or_past, drop_all}
use Rattle.ffc_smt.specs.Faults.{Fault, word_fault}
use Rattle.ffc_terms.specs.declared.sorts.SortStep.TheVariants as then
use Rattle.std.proofs.Math.Seq.{drop-cons}
use Rattle.ffc_term.specs.declared.node.Sort.{Sort}
use Rattle.ffc_smt.specs.Trees.{Word}
use Rattle.ffc_smt.specs.Meaning.{Env}
use Rattle.ffc_words.specs.Words.{word_at, no_word}
use Rattle.ffc_terms.specs.declared.sorts.SortStage.{SortStage}
use Rattle.ffc_terms.specs.SortSteps.{run, step, goes_on}

pub words_from : (words : List Word) (i : ℕ) → i < length words → drop i words ≡ word_at words i ∷ drop (i + 1) words
words_from words i h = rw (add-one, drop-cons words i no_word) refl

module _ (sorts : Env Sort) (words : List Word) (i : ℕ) (stage : SortStage) where
  run_one : i < length words → run sorts stage (drop i words) ≡ goes_on (λ next. run sorts next (drop (i + 1) words)) (drop (i + 1) words) (step sorts stage (word_at words i))
  unfolding run
  run_one h = rw (words_from words i h) refl

  pub run_more : (next : SortStage) → i < length words → step sorts stage (word_at words i) ≡ Ok (then.More next) → run sorts stage (drop i words) ≡ run sorts next (drop (i + 1) words)
  run_more next h e = run_one h ∙ ap (goes_on (λ n. run sorts n (drop (i + 1) words)) (drop (i + 1) words)) e

  pub run_whole : (s : Sort) → i < length words → step sorts stage (word_at words i) ≡ Ok (then.Whole s) → run sorts stage (drop i words) ≡ Ok (s, drop (i + 1) words)
  run_whole s h e = run_one h ∙ ap (goes_on (λ n. run sorts n (drop (i + 1) words)) (drop (i + 1) words)) e

  pub run_failed : (f : Fault) → i < length words → step sorts stage (word_at words i) ≡ Err f → run sorts stage (drop i words) ≡ Err f
  run_failed f h e = run_one h ∙ ap (goes_on (λ n. run sorts n (drop (i + 1) words)) (drop (i + 1) words)) e

  pub run_past : length words ≤ i → run sorts stage (drop i words) ≡ Err (word_fault 5 no_word)
  unfolding run
  run_past h = rw (drop_all i words h) refl

pub no_word_at : (words : List Word) (i : ℕ) → length words ≤ i → word_at words i ≡ no_word
no_word_at words i h = get_or_past words i no_word h
