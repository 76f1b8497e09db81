-- From what taking a command leaves of what is kept to what taking a form does.
use Rattle.std.proofs.Common.{◌≡◌, Some, Ok, Err, List, [], ◌∷◌, ◌++◌, refl, sym, ◌∙◌, subst}
use Rattle.ffc_smt.specs.Trees.{Word, Tree, tree_of}
use Rattle.ffc_smt.specs.Faults.{Read, Sound, Faulty, first_fault}
use Rattle.ffc_smt.specs.Terms as smt
use Rattle.ffc_smt.specs.CommandReading.{limits, command_read}
use Rattle.ffc_lex.specs.declared.faults.ScriptFault.{ScriptFault}
use Rattle.ffc_words.specs.declared.faults.TakeStop.{TakeStop}
use Rattle.ffc_words.specs.declared.faults.TakeStop.TheVariants as stop
use Rattle.ffc_words.specs.Words.{fault_of}
use Rattle.ffc_words.specs.Outcomes.{outcome}
use Rattle.ffc_elab.specs.declared.answers.Command.{Command}
use Rattle.ffc_elab.specs.declared.store.Store.{Store}
use Rattle.ffc_elab.specs.Histories.{Known, known_by, known_of}
use Rattle.ffc_elab.specs.Answers.{TakesAs, IsAnswered}
use Rattle.ffc_elab.specs.Kept.{IsKept, IsKnown}
use Rattle.ffc_elab.specs.Taking.{IsCommandTaken, TakesKept}
use Rattle.ffc_elab.proofs.HistoryLemmas.{known_further, known_by_form, next_is_known}

fault_as : (k : Known) (tree : Tree) (r : Read smt.Command) (f : ScriptFault) → outcome r ≡ Err (fault_of f) → TakesAs k tree r (Err (stop.Fault f)) k
fault_as k tree (Sound c) f e = cc
fault_as k tree (Faulty g gs) f e = let same : fault_of f ≡ first_fault g gs = cc in (same, refl)

memory_as : (k : Known) (tree : Tree) (r : Read smt.Command) → TakesAs k tree r (Err stop.Memory) k
memory_as k tree (Sound c) = refl
memory_as k tree (Faulty g gs) = refl

module _ (k : Known) (tree : Tree) where
  pub refused_as : (f : ScriptFault) → outcome (command_read limits k.state tree) ≡ Err (fault_of f) → TakesAs k tree (command_read limits k.state tree) (Err (stop.Fault f)) k
  refused_as f e = fault_as k tree (command_read limits k.state tree) f e

  pub stopped_as : (s : TakeStop) (new : Store) → TakesKept k tree new (Err s) → TakesAs k tree (command_read limits k.state tree) (Err s) k
  stopped_as (stop.Fault f) new h = refused_as f h.0
  stopped_as stop.Memory new h = memory_as k tree (command_read limits k.state tree)

  pub stopped_keeps : (s : TakeStop) (new : Store) → TakesKept k tree new (Err s) → IsKept k new
  stopped_keeps (stop.Fault f) new h = h.1
  stopped_keeps stop.Memory new h = h

module _ (forms : List (List Word)) (form : List Word) (tree : Tree) (new : Store) (r : Command) (is : tree_of form ≡ Some tree) (h : IsCommandTaken (known_of forms) tree new r) where
  abbrev k : Known
  k = known_of forms

  known_then : known_of (forms ++ form ∷ []) ≡ known_by k tree h.command
  known_then = known_further forms form ∙ known_by_form k form tree h.command is h.read

  pub taken_keeps : IsKnown k → IsKept (known_of (forms ++ form ∷ [])) new × IsKnown (known_of (forms ++ form ∷ []))
  taken_keeps known = (subst (λ v. IsKept v new) (sym known_then) h.kept, subst IsKnown (sym known_then) (next_is_known k tree h.command h.read known))

  pub taken_as : TakesAs k tree (command_read limits k.state tree) (Ok r) (known_of (forms ++ form ∷ []))
  taken_as =
      subst (λ v. TakesAs k tree v (Ok r) (known_of (forms ++ form ∷ []))) (sym h.read)
      (known_then, subst (λ (v : Known). IsAnswered v.state h.command r) (sym known_then) h.answered)
