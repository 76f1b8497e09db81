-- Every form of a text is one tree.
use Rattle.std.proofs.Common.{◌≡◌, List, [], ◌∷◌, ◌++◌, Some, refl, sym, ap, ◌∙◌, append_assoc}
use Rattle.ffc_lex.specs.declared.tokens.TokenKind.{TokenKind}
use Rattle.ffc_lex.specs.declared.tokens.TokenKind.TheVariants.{LeftParen, RightParen, Numeral, Decimal, Symbol, Quoted, Keyword, Str, FieldLiteral}
use Rattle.ffc_smt.specs.Trees.{Word, Tree, Leaf, Group, tokens_of, tokens_of_items, Inside, Ended, Items, Torn, with_item, opened_by, closed_by, before_inside, inside_of, whole, tree_of}

-- the tokens of what is inside parentheses
abbrev spelled : Inside → List Word
spelled Ended = []
spelled (Items items closing rest) = tokens_of_items items ++ closing ∷ spelled rest
spelled Torn = []

-- where it isn't torn, and nothing in it is
abbrev IsSpelled : Inside → List Word → Type 0
IsSpelled Ended ws = [] ≡ ws
IsSpelled (Items items closing rest) ws = tokens_of_items items ++ closing ∷ spelled rest ≡ ws
IsSpelled Torn ws = Unit {0}

item_spelled : (t : Tree) (i : Inside) (ws : List Word) → IsSpelled i ws → IsSpelled (with_item t i) (tokens_of t ++ ws)
unfolding tokens_of
item_spelled t Ended ws h = tt
item_spelled t (Items items closing rest) ws h = append_assoc (tokens_of t) (tokens_of_items items) (closing ∷ spelled rest) ∙ ap (λ xs. tokens_of t ++ xs) h
item_spelled t Torn ws h = tt

leaf_spelled : (w : Word) (i : Inside) (ws : List Word) → IsSpelled i ws → IsSpelled (with_item (Leaf w) i) (w ∷ ws)
unfolding tokens_of
leaf_spelled w i ws h = item_spelled (Leaf w) i ws h

group_spelled : (w c : Word) (ts ms ls : List Word) → ((w ∷ (ts ++ c ∷ [])) ++ ms) ++ ls ≡ w ∷ (ts ++ c ∷ (ms ++ ls))
group_spelled w c ts ms ls = ap (λ xs. w ∷ xs) (append_assoc (ts ++ c ∷ []) ms ls ∙ append_assoc ts (c ∷ []) (ms ++ ls))

opened_spelled : (w : Word) (i : Inside) (ws : List Word) → IsSpelled i ws → IsSpelled (opened_by w i) (w ∷ ws)
unfolding tokens_of
opened_spelled w Ended ws h = tt
opened_spelled w (Items items closing Ended) ws h = tt
opened_spelled w (Items items closing (Items more last rest)) ws h =
    group_spelled w closing (tokens_of_items items) (tokens_of_items more) (last ∷ spelled rest) ∙ ap (λ xs. w ∷ xs) h
opened_spelled w (Items items closing Torn) ws h = tt
opened_spelled w Torn ws h = tt

closed_spelled : (w : Word) (i : Inside) (ws : List Word) → IsSpelled i ws → IsSpelled (closed_by w i) (w ∷ ws)
unfolding tokens_of
closed_spelled w Ended ws h = ap (λ xs. w ∷ xs) h
closed_spelled w (Items items closing rest) ws h = ap (λ xs. w ∷ xs) h
closed_spelled w Torn ws h = tt

before_spelled : (k : TokenKind) (w : Word) (i : Inside) (ws : List Word) → IsSpelled i ws → IsSpelled (before_inside k w i) (w ∷ ws)
before_spelled LeftParen w i ws h = opened_spelled w i ws h
before_spelled RightParen w i ws h = closed_spelled w i ws h
before_spelled Numeral w i ws h = leaf_spelled w i ws h
before_spelled Decimal w i ws h = leaf_spelled w i ws h
before_spelled Symbol w i ws h = leaf_spelled w i ws h
before_spelled Quoted w i ws h = leaf_spelled w i ws h
before_spelled Keyword w i ws h = leaf_spelled w i ws h
before_spelled Str w i ws h = leaf_spelled w i ws h
before_spelled FieldLiteral w i ws h = leaf_spelled w i ws h

inside_spelled : (ws : List Word) → IsSpelled (inside_of ws) ws
unfolding inside_of
inside_spelled [] = refl
inside_spelled (w ∷ ws) = before_spelled w.kind w (inside_of ws) ws (inside_spelled ws)

whole_spelled : (opening : Word) (i : Inside) (ws : List Word) (t : Tree) → IsSpelled i ws → whole opening i ≡ Some t → tokens_of t ≡ opening ∷ ws
unfolding tokens_of
whole_spelled opening Ended ws t h e = cc
whole_spelled opening (Items items closing Ended) ws t h e =
    let same : Group opening items closing ≡ t = cc in
    ap tokens_of (sym same) ∙ ap (λ xs. opening ∷ xs) h
whole_spelled opening (Items items closing (Items more last rest)) ws t h e = cc
whole_spelled opening (Items items closing Torn) ws t h e = cc
whole_spelled opening Torn ws t h e = cc

pub tree_spelled : (ws : List Word) (t : Tree) → tree_of ws ≡ Some t → tokens_of t ≡ ws
unfolding tree_of
tree_spelled [] t e = cc
tree_spelled (opening ∷ ws) t e = whole_spelled opening (inside_of ws) ws t (inside_spelled ws) e
