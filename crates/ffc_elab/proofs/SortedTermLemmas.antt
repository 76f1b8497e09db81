-- A term of a known sort.
use Rattle.std.proofs.Common.{◌≡◌, ℕ, true, false, List, ◌∷◌, ◌++◌, map, if◌then◌else◌, Result, Ok, Err, sym, ap, ◌∙◌, subst, []}
use Rattle.ffc_term.specs.declared.node.Node.{Node}
use Rattle.ffc_term.specs.declared.node.Sort.{Sort}
use Rattle.ffc_smt.specs.Trees.{Word, Tree, Leaf, Group, front, tokens_of, tokens_of_items}
use Rattle.ffc_smt.specs.Terms.{Parameter}
use Rattle.ffc_smt.specs.Meaning.{Env}
use Rattle.ffc_smt.specs.Faults.{Read, Sound, faulty, word_fault, behind}
use Rattle.ffc_smt.specs.Scopes.{State, scope_of}
use Rattle.ffc_smt.specs.TermReading.{Sorted, is_sort, term_read}
use Rattle.ffc_smt.specs.CommandReading.{limits, of_sort, term_of_sort}
use Rattle.ffc_smt.proofs.SortLemmas.{same_sort}
use Rattle.ffc_words.specs.declared.faults.TakeStop.{TakeStop}
use Rattle.ffc_words.specs.declared.faults.TakeStop.TheVariants as stop
use Rattle.ffc_words.specs.Outcomes.{outcome}
use Rattle.ffc_words.specs.Words.{IsTreeAt, word_at}
use Rattle.ffc_terms.specs.declared.scope.Symbols.{Symbols}
use Rattle.ffc_terms.specs.declared.terms.TermRead.{TermRead}
use Rattle.ffc_terms.specs.TermAnswers.{IsTerm, ReadsTerm}
use Rattle.ffc_elab.specs.Reading.{and_then}
use Rattle.ffc_elab.specs.SortedTerms.{IsTermOfSort, ReadsOfSort}
use Rattle.ffc_elab.proofs.OutcomeLemmas.{word_is, outcome_behind}

pub front_at : (words : List Word) (i : ℕ) (t : Tree) (rest : List Word) → IsTreeAt words i t rest → word_at words i ≡ front t
unfolding tokens_of
front_at words i (Leaf w) rest h = word_is words i w rest h.text
front_at words i (Group opening items closing) rest h = word_is words i opening ((tokens_of_items items ++ closing ∷ []) ++ rest) h.text

module _ (nodes : List Node) (symbols : Symbols) (locals : Env Sort) (s : State) (parameters : List Parameter) (wanted : Sort) (tree : Tree) (at : ℕ) (same : locals ≡ map (λ p. (p.name, p.sort)) parameters) where
  abbrev read : Read Sorted
  read = term_read 65536 (scope_of s) (map (λ p. (p.name, p.sort)) parameters) tree

  moved : (r : Result TermRead TakeStop) → ReadsTerm nodes symbols locals (term_read 65536 (scope_of s) locals tree) tree at r → ReadsTerm nodes symbols locals read tree at r
  moved r h = subst (λ (v : Env Sort). ReadsTerm nodes symbols locals (term_read 65536 (scope_of s) v tree) tree at r) same h

  by_stop : (e : TakeStop) → ReadsTerm nodes symbols locals read tree at (Err e) → ReadsOfSort nodes symbols locals wanted (term_of_sort limits s parameters wanted tree) tree at (Err e)
  by_stop (stop.Fault f) h = outcome_behind read (of_sort wanted (front tree)) ∙ ap (λ r. and_then r (λ t. outcome (of_sort wanted (front tree) t))) h
  by_stop stop.Memory h = tt

  pub sorted_stop : (e : TakeStop) → ReadsTerm nodes symbols locals (term_read 65536 (scope_of s) locals tree) tree at (Err e)
      → ReadsOfSort nodes symbols locals wanted (term_of_sort limits s parameters wanted tree) tree at (Err e)
  sorted_stop e h = by_stop e (moved (Err e) h)

  module _ (t : TermRead) (h : ReadsTerm nodes symbols locals (term_read 65536 (scope_of s) locals tree) tree at (Ok t)) where
    it : IsTerm nodes symbols locals read tree at t
    it = moved (Ok t) h

    pub sorted_right : is_sort wanted t.sort ≡ true → IsTermOfSort nodes symbols locals wanted (term_of_sort limits s parameters wanted tree) tree at t
    sorted_right e = record {
      term = it.term.term;
      sound = ap (λ r. behind r (of_sort wanted (front tree))) it.sound
          ∙ ap (λ b. if b then Sound it.term.term else faulty 10 (front tree)) (ap (is_sort wanted) (sym it.sort) ∙ e);
      code = it.code;
      sort = same_sort wanted t.sort e;
      height_is = it.height_is;
      weight_is = it.weight_is;
      next = it.next;
    }

    pub sorted_wrong : is_sort wanted t.sort ≡ false → outcome (term_of_sort limits s parameters wanted tree) ≡ Err (word_fault 10 (front tree))
    sorted_wrong e =
        ap (λ r. outcome (behind r (of_sort wanted (front tree)))) it.sound
        ∙ ap (λ b. outcome (if b then Sound it.term.term else faulty 10 (front tree))) (ap (is_sort wanted) (sym it.sort) ∙ e)
