-- Every fault of a tree is at a token of it, and the tokens are in order.
use Rattle.std.proofs.Common.{◌≡◌, ℕ, suc, List, [], ◌∷◌, ◌++◌, map, get_or, Some, All, Contains, refl, sym, subst, arith}
use Rattle.std.specs.List.{AllPairs}
use Rattle.std.proofs.lemmas.List.Kept.{AllPairs-cons}
use Rattle.std.proofs.lemmas.List.Elements.{All-contains, All-map, Contains-append_left, Contains-append_right, Contains-push}
use Rattle.ffc_lex.specs.declared.tokens.Token.{Token}
use Rattle.ffc_lex.specs.Order.{IsLeftOf, IsInOrder}
use Rattle.ffc_lex.specs.Reading.{forms_of}
use Rattle.ffc_lex.proofs.OrderLemmas.{forms_in_order}
use Rattle.ffc_term.specs.declared.node.Sort.{Sort}
use Rattle.ffc_smt.specs.Trees.{Word, word_of, Tree, Leaf, Group, Trees, Empty, First, tokens_of, tokens_of_items, form_tree}
use Rattle.ffc_smt.specs.Meaning.{Env}
use Rattle.ffc_smt.specs.Scopes.{Scope, State}
use Rattle.ffc_smt.specs.Faults.{Fault, faults}
use Rattle.ffc_smt.specs.TermReading.{sort_read, term_read}
use Rattle.ffc_smt.specs.CommandReading.{Limits, command_read}
use Rattle.ffc_smt.specs.FaultLaws.{IsAtOneOf, IsWordBefore}
use Rattle.ffc_smt.proofs.ConstantLemmas.{meant_constants_any}
use Rattle.ffc_smt.proofs.TreeLemmas.{tree_spelled}
use Rattle.ffc_smt.proofs.WalkLemmas.{EachToken, EachTokens, MayFail}
use Rattle.ffc_smt.proofs.TermWalk.{reads_sort, reads_term}
use Rattle.ffc_smt.proofs.CommandWalk.{reads_command}

module _ (M : Word → Type 0) where
  mutual
    unfolding tokens_of

    pub each_from : (t : Tree) → ((w : Word) → Contains (tokens_of t) w → M w) → EachToken M t
    each_from (Leaf w) h = h w (0, omega arith, refl)
    each_from (Group opening items closing) h = (
      h opening (0, omega arith, refl),
      each_from_items items (λ w has. h w (Contains-append_right (opening ∷ []) (tokens_of_items items ++ closing ∷ []) w (Contains-append_left (tokens_of_items items) (closing ∷ []) w has))),
      h closing (Contains-append_right (opening ∷ []) (tokens_of_items items ++ closing ∷ []) closing (Contains-push (tokens_of_items items) closing)),
    )

    pub each_from_items : (ts : Trees) → ((w : Word) → Contains (tokens_of_items ts) w → M w) → EachTokens M ts
    each_from_items Empty h = tt
    each_from_items (First t ts) h =
        (each_from t (λ w has. h w (Contains-append_left (tokens_of t) (tokens_of_items ts) w has)), each_from_items ts (λ w has. h w (Contains-append_right (tokens_of t) (tokens_of_items ts) w has)))

abbrev At : Tree → Fault → Type 0
At t f = IsAtOneOf (tokens_of t) f

marked : (t : Tree) → EachToken (MayFail (At t)) t
marked t = each_from (MayFail (At t)) t (λ w has code. record { word = w; among = has; line = refl; column = refl })

pub sort_faults : (sorts : Env Sort) (t : Tree) → All (At t) (faults (sort_read sorts t))
sort_faults sorts t = (reads_sort (At t) sorts t (marked t)).0

pub term_faults : (limit : ℕ) (scope : Scope) (locals : Env Sort) (t : Tree) → All (At t) (faults (term_read limit scope locals t))
term_faults limit scope locals t = (reads_term (At t) (λ k s. Unit {0}) limit scope (λ name m e. meant_constants_any (λ k s. Unit {0}) (λ k s. tt) m) t locals (marked t)).0

pub command_faults : (l : Limits) (s : State) (t : Tree) → All (At t) (faults (command_read l s t))
command_faults l s t = (reads_command (At t) l s t (marked t)).0

pairs_map : {A B : Type 0} (R : A → A → Type 0) (S : B → B → Type 0) (f : A → B) (xs : List A) → ((x y : A) → R x y → S (f x) (f y)) → AllPairs R xs → AllPairs S (map f xs)
pairs_map R S f [] h pairs = λ i j d less inside. absurd (omega arith)
pairs_map R S f (x ∷ xs) h pairs =
    AllPairs-cons S (f x) (map f xs) (All-map (S (f x)) f xs (λ k d inside. h x (get_or xs k d) (pairs 0 (suc k) d (omega arith) (omega arith))))
    (pairs_map R S f xs h (λ i j d less inside. pairs (suc i) (suc j) d (omega arith) (omega arith)))

pub trees_in_order : (text : List ℕ) (form : List Token) (t : Tree) → Contains (forms_of text) form → form_tree text form ≡ Some t → AllPairs IsWordBefore (tokens_of t)
trees_in_order text form t has e =
    let placed : IsInOrder text form = All-contains (IsInOrder text) (forms_of text) form (forms_in_order text) has in
    subst (AllPairs IsWordBefore) (sym (tree_spelled (map (word_of text) form) t e)) (pairs_map IsLeftOf IsWordBefore (word_of text) form (λ x y left. left.1) placed.places)
