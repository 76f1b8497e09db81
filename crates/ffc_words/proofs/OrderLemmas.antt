-- The words of a form are in order.
use Rattle.std.proofs.Common.{suc, List, [], ◌∷◌, map, get_or, Contains, arith}
use Rattle.std.specs.List.{AllPairs}
use Rattle.std.proofs.lemmas.List.Kept.{AllPairs-cons}
use Rattle.std.proofs.lemmas.List.Elements.{All-contains, All-map}
use Rattle.std.proofs.lemmas.Option.{slice_get_within, get_or_from_slice_get}
use Rattle.ffc_lex.specs.declared.tokens.Token.{Token}
use Rattle.ffc_lex.specs.Lexing.{Lexing}
use Rattle.ffc_lex.specs.Order.{IsLeftOf, IsInOrder}
use Rattle.ffc_lex.specs.Reading.{forms_of}
use Rattle.ffc_lex.proofs.OrderLemmas.{forms_in_order}
use Rattle.ffc_smt.specs.Trees.{word_of}
use Rattle.ffc_smt.specs.FaultLaws.{IsWordBefore}
use Rattle.ffc_words.specs.Given.{IsGiven}

pairs_map : {A B : Type 0} (R : A → A → Type 0) (S : B → B → Type 0) (f : A → B) (xs : List A) → ((x y : A) → R x y → S (f x) (f y)) → AllPairs R xs → AllPairs S (map f xs)
pairs_map R S f [] h pairs = λ i j d less inside. absurd (omega arith)
pairs_map R S f (x ∷ xs) h pairs =
    AllPairs-cons S (f x) (map f xs) (All-map (S (f x)) f xs (λ k d inside. h x (get_or xs k d) (pairs 0 (suc k) d (omega arith) (omega arith))))
    (pairs_map R S f xs h (λ i j d less inside. pairs (suc i) (suc j) d (omega arith) (omega arith)))

pub given_in_order : (form : List Token) (l : Lexing) → IsGiven form l → AllPairs IsWordBefore (map (word_of l.text) form)
given_in_order form l given =
    let has : Contains (forms_of l.text) form = (given.before, slice_get_within (forms_of l.text) given.before form given.last, get_or_from_slice_get (forms_of l.text) given.before form form given.last) in
    let placed : IsInOrder l.text form = All-contains (IsInOrder l.text) (forms_of l.text) form (forms_in_order l.text) has in
    pairs_map IsLeftOf IsWordBefore (word_of l.text) form (λ x y left. left.1) placed.places
