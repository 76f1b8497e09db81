-- What is known after forms, one by one, and that every state of a history is sound.
use Rattle.std.proofs.Common.{◌≡◌, List, [], ◌∷◌, ◌++◌, Some, refl, ap, ◌∙◌, arith}
use Rattle.std.proofs.lemmas.List.Sums.{fold-append}
use Rattle.std.proofs.lemmas.List.Elements.{All-nil}
use Rattle.ffc_smt.specs.Trees.{Word, Tree, tree_of}
use Rattle.ffc_smt.specs.Terms.{Asked, Command}
use Rattle.ffc_smt.specs.Bounds.{IsMade}
use Rattle.ffc_smt.specs.Faults.{Sound}
use Rattle.ffc_smt.specs.CommandReading.{limits, command_read}
use Rattle.ffc_smt.proofs.SoundStates.{first_is_sound, next_is_sound}
use Rattle.ffc_smt.proofs.ScopeStates.{first_is_scoped, next_is_scoped}
use Rattle.ffc_elab.specs.Histories.{Known, first_known, known_by, known_as, known_with, known_after, known_of}
use Rattle.ffc_elab.specs.Kept.{IsKnown}
use Rattle.ffc_elab.proofs.GlobalLemmas.{next_global}
use Rattle.ffc_elab.proofs.GrowthLemmas.{assumed_made}

pub known_at_first : known_of [] ≡ first_known
unfolding known_of
known_at_first = refl

pub known_further : (forms : List (List Word)) (form : List Word) → known_of (forms ++ form ∷ []) ≡ known_after (known_of forms) form
unfolding known_of
known_further forms form = fold-append known_after first_known forms (form ∷ [])

-- a form that is a command
pub known_by_form : (k : Known) (form : List Word) (tree : Tree) (c : Command) → tree_of form ≡ Some tree → command_read limits k.state tree ≡ Sound c → known_after k form ≡ known_by k tree c
unfolding known_after
known_by_form k form tree c is e = ap (known_with k) is ∙ ap (known_as k tree) e

pub first_is_known : IsKnown first_known
first_is_known = record { sound = first_is_sound; scoped = first_is_scoped; sorts = λ g. All-nil (λ l. l.sorts ≡ []); assumed = All-nil (λ (a : Asked). IsMade [] a.term) }

pub next_is_known : (k : Known) (tree : Tree) (c : Command) → command_read limits k.state tree ≡ Sound c → IsKnown k → IsKnown (known_by k tree c)
next_is_known k tree c e h = record {
  sound = next_is_sound limits k.state tree c (omega arith) h.sound e;
  scoped = next_is_scoped limits k.state h.scoped tree c e;
  sorts = next_global k.state tree c e h.scoped h.sorts;
  assumed = assumed_made k.state tree c;
}
