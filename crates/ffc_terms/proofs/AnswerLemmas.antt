-- What a call that runs over the words of a term answers.
use Rattle.std.proofs.Common.{◌≡◌, ℕ, List, [], drop, Result, Ok, Err, refl, sym, ap, ◌∙◌, subst}
use Rattle.ffc_term.specs.declared.node.Node.{Node}
use Rattle.ffc_term.specs.declared.node.Sort.{Sort}
use Rattle.ffc_smt.specs.Trees.{Word, Tree, tokens_of, front}
use Rattle.ffc_smt.specs.Meaning.{Env}
use Rattle.ffc_smt.specs.Scopes.{Scope}
use Rattle.ffc_smt.specs.Faults.{Fault}
use Rattle.ffc_smt.specs.TermReading.{Sorted, term_read}
use Rattle.ffc_words.specs.declared.faults.TakeStop.{TakeStop}
use Rattle.ffc_words.specs.declared.faults.TakeStop.TheVariants as stop
use Rattle.ffc_words.specs.Outcomes.{outcome}
use Rattle.ffc_words.specs.Words.{IsTreeAt, fault_of}
use Rattle.ffc_terms.specs.declared.codes.Op.{Op}
use Rattle.ffc_terms.specs.declared.scope.Symbols.{Symbols}
use Rattle.ffc_terms.specs.declared.terms.TermRead.{TermRead}
use Rattle.ffc_terms.specs.declared.values.Value.{Value}
use Rattle.ffc_terms.specs.Codes.{IsCode, IsScope}
use Rattle.ffc_terms.specs.TermAnswers.{ReadsTerm}
use Rattle.ffc_terms.specs.Walking.{given, run, first_walking, at, RunsAs}
use Rattle.ffc_terms.proofs.FirstLemmas.{AreInOrder, order_left, order_drop, outcome_sound}
use Rattle.ffc_terms.proofs.ItemLemmas.{place_after}
use Rattle.ffc_terms.proofs.RunLemmas.{value_of, TermRuns}
use Rattle.ffc_terms.proofs.SortTreeLemmas.{ok_is}
use Rattle.ffc_terms.proofs.TermLemmas.{term_runs}

module _ (limit : ℕ) (nodes : List Node) (symbols : Symbols) (scope : Scope) (is : IsScope nodes symbols scope) (locals : Env Sort) (words : List Word) (i : ℕ) (t : Tree) (rest : List Word)
    (here : IsTreeAt words i t rest) where
  abbrev Answer : Type 0
  Answer = Value × List Op × List Word

  by_result : (o : Result Sorted Fault) → outcome (term_read limit scope locals t) ≡ o → TermRuns limit nodes symbols scope is locals t o → (r : Result TermRead TakeStop)
      → RunsAs words (at limit symbols locals words i) r → ReadsTerm nodes symbols locals (term_read limit scope locals t) t i r
  unfolding given
  by_result (Ok s) e h (Ok x) runs =
      let whole : ◌≡◌ {A = Result Answer Fault} (Ok runs.0) (Ok (value_of (front t) s, h.0, rest)) =
      sym runs.1 ∙ ap (run limit symbols (first_walking locals)) here.text ∙ h.2 [] [] [] rest refl in
      let same = ok_is whole in
      let value : runs.0.0 ≡ value_of (front t) s = ap (λ y. y.0) same in
      let ops : x.code.items ≡ h.0 = runs.2.code ∙ ap (λ y. y.1) same in
      let after : drop x.next words ≡ rest = runs.2.rest ∙ ap (λ y. y.2) same in
      record {
        term = s;
        sound = outcome_sound (term_read limit scope locals t) s e;
        code = subst (IsCode nodes symbols.terms _ s.term) (sym ops) h.1;
        sort = runs.2.sort ∙ ap (λ v. v.sort) value;
        height_is = runs.2.height ∙ ap (λ v. v.height) value;
        weight_is = runs.2.weight ∙ ap (λ v. v.weight) value;
        next = place_after words i x.next t rest here.text after runs.2.within;
      }
  by_result (Ok s) e h (Err (stop.Fault f)) runs = let wrong = sym runs ∙ ap (run limit symbols (first_walking locals)) here.text ∙ h.2 [] [] [] rest refl in cc
  by_result (Ok s) e h (Err stop.Memory) runs = tt
  by_result (Err g) e h (Ok x) runs = let wrong = sym runs.1 ∙ ap (run limit symbols (first_walking locals)) here.text ∙ h [] [] [] rest refl in cc
  by_result (Err g) e h (Err (stop.Fault f)) runs =
      let same = sym runs ∙ ap (run limit symbols (first_walking locals)) here.text ∙ h [] [] [] rest refl in
      let one : g ≡ fault_of f = cc in
      e ∙ ap (λ y. Err y) one
  by_result (Err g) e h (Err stop.Memory) runs = tt

  pub term_answered : AreInOrder words → (r : Result TermRead TakeStop) → RunsAs words (at limit symbols locals words i) r → ReadsTerm nodes symbols locals (term_read limit scope locals t) t i r
  term_answered order r runs =
      let ordered = order_left (tokens_of t) rest (subst AreInOrder here.text (order_drop i words order)) in
      by_result (outcome (term_read limit scope locals t)) refl (term_runs limit nodes symbols scope is t locals here.proper ordered) r runs
