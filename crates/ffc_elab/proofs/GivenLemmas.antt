-- The form that a lexer gave last.
use Rattle.std.proofs.Common.{◌≡◌, suc, List, [], ◌∷◌, map, Some, Contains, ap, ◌∙◌, arith}
use Rattle.std.specs.List.{AllPairs}
use Rattle.std.proofs.lemmas.List.Elements.{All-contains}
use Rattle.std.proofs.lemmas.Option.{slice_get_within, get_or_from_slice_get}
use Rattle.ffc_lex.specs.declared.tokens.Token.{Token}
use Rattle.ffc_lex.specs.Lexing.{Lexing}
use Rattle.ffc_lex.specs.Order.{IsInOrder}
use Rattle.ffc_lex.specs.Reading.{forms_of}
use Rattle.ffc_lex.proofs.OrderLemmas.{forms_in_order}
use Rattle.ffc_smt.specs.Trees.{Word, Tree, word_of, form_tree}
use Rattle.ffc_smt.specs.FaultLaws.{IsWordBefore}
use Rattle.ffc_smt.proofs.FormLemmas.{forms_good}
use Rattle.ffc_smt.proofs.ShapeLemmas.{form_proper}
use Rattle.ffc_smt.proofs.TreeLemmas.{tree_spelled}
use Rattle.ffc_words.specs.Given.{IsGiven}
use Rattle.ffc_words.proofs.OrderLemmas.{given_in_order}
use Rattle.ffc_elab.specs.Reading.{AreInOrder, IsFormOf}
use Rattle.ffc_elab.proofs.OutcomeLemmas.{word_is}

in_order : (ws : List Word) → AllPairs IsWordBefore ws → AreInOrder ws
in_order [] h = tt
in_order (w ∷ ws) h = (λ k d inside. h 0 (suc k) d (omega arith) (omega arith), in_order ws (λ i j d less inside. h (suc i) (suc j) d (omega arith) (omega arith)))

module _ (form : List Token) (l : Lexing) (given : IsGiven form l) where
  has : Contains (forms_of l.text) form
  has = (given.before, slice_get_within (forms_of l.text) given.before form given.last, get_or_from_slice_get (forms_of l.text) given.before form form given.last)

  pub given_tree : (tree : Tree) × (form_tree l.text form ≡ Some tree)
  given_tree = All-contains (λ f. (tree : Tree) × (form_tree l.text f ≡ Some tree)) (forms_of l.text) form (forms_good l.text) has

  pub given_form : (tree : Tree) → form_tree l.text form ≡ Some tree → IsFormOf (map (word_of l.text) form) tree
  given_form tree e =
      let placed : IsInOrder l.text form = All-contains (IsInOrder l.text) (forms_of l.text) form (forms_in_order l.text) has in
      record {
        spelled = tree_spelled (map (word_of l.text) form) tree e;
        proper = form_proper l.text form tree has e;
        opened = ap (λ w. w.kind) (word_is (map (word_of l.text) form) 0 (word_of l.text placed.first) (map (word_of l.text) placed.others) (ap (map (word_of l.text)) placed.split)) ∙ placed.opened;
        places = in_order (map (word_of l.text) form) (given_in_order form l given);
      }
