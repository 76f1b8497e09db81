-- The tree of a form is proper, and read from its tokens from the left.
use Rattle.std.proofs.Common.{◌≡◌, ℕ, false, List, [], ◌∷◌, ◌++◌, map, Option, Some, Contains, refl, sym, ap, ◌∙◌, subst, append_assoc}
use Rattle.std.proofs.lemmas.List.Elements.{All-contains}
use Rattle.ffc_lex.specs.declared.tokens.TokenKind.{TokenKind}
use Rattle.ffc_lex.specs.declared.tokens.TokenKind.TheVariants as kinds
use Rattle.ffc_lex.specs.declared.tokens.Token.{Token}
use Rattle.ffc_lex.specs.Order.{IsInOrder}
use Rattle.ffc_lex.specs.Reading.{forms_of}
use Rattle.ffc_lex.proofs.OrderLemmas.{forms_in_order}
use Rattle.ffc_smt.specs.Trees.{Word, word_of, Tree, Leaf, Group, Trees, Empty, First, tokens_of, tokens_of_items, Inside, Ended, Items, Torn, with_item, opened_by, closed_by, before_inside, inside_of, whole, tree_of, form_tree}
use Rattle.ffc_smt.specs.TreeShapes.{is_parenthesis, IsProper, AreProper, Part, with_tree, trees_onto, closed_part, by_token, from_left}

-- Trees of forms are proper

abbrev AllProper : Inside → Type 0
AllProper Ended = Unit {0}
AllProper (Items items closing rest) = AreProper items × (closing.kind ≡ kinds.RightParen) × AllProper rest
AllProper Torn = Unit {0}

item_proper : (t : Tree) (i : Inside) → IsProper t → AllProper i → AllProper (with_item t i)
item_proper t Ended h g = tt
item_proper t (Items items closing rest) h g = ((h, g.0), g.1, g.2)
item_proper t Torn h g = tt

opened_proper : (w : Word) (i : Inside) → w.kind ≡ kinds.LeftParen → AllProper i → AllProper (opened_by w i)
opened_proper w Ended e g = tt
opened_proper w (Items items closing rest) e g = item_proper (Group w items closing) rest (e, g.0, g.1) g.2
opened_proper w Torn e g = tt

closed_proper : (w : Word) (i : Inside) → w.kind ≡ kinds.RightParen → AllProper i → AllProper (closed_by w i)
closed_proper w Ended e g = (tt, e, tt)
closed_proper w (Items items closing rest) e g = (tt, e, g)
closed_proper w Torn e g = tt

leaf_proper : (k : TokenKind) (w : Word) (i : Inside) → w.kind ≡ k → is_parenthesis k ≡ false → AllProper i → AllProper (with_item (Leaf w) i)
leaf_proper k w i e p g = item_proper (Leaf w) i (ap is_parenthesis e ∙ p) g

before_proper : (k : TokenKind) (w : Word) (i : Inside) → w.kind ≡ k → AllProper i → AllProper (before_inside k w i)
before_proper kinds.LeftParen w i e g = opened_proper w i e g
before_proper kinds.RightParen w i e g = closed_proper w i e g
before_proper kinds.Numeral w i e g = leaf_proper kinds.Numeral w i e refl g
before_proper kinds.Decimal w i e g = leaf_proper kinds.Decimal w i e refl g
before_proper kinds.Symbol w i e g = leaf_proper kinds.Symbol w i e refl g
before_proper kinds.Quoted w i e g = leaf_proper kinds.Quoted w i e refl g
before_proper kinds.Keyword w i e g = leaf_proper kinds.Keyword w i e refl g
before_proper kinds.Str w i e g = leaf_proper kinds.Str w i e refl g
before_proper kinds.FieldLiteral w i e g = leaf_proper kinds.FieldLiteral w i e refl g

inside_proper : (ws : List Word) → AllProper (inside_of ws)
unfolding inside_of
inside_proper [] = tt
inside_proper (w ∷ ws) = before_proper w.kind w (inside_of ws) refl (inside_proper ws)

whole_proper : (opening : Word) (i : Inside) (t : Tree) → opening.kind ≡ kinds.LeftParen → AllProper i → whole opening i ≡ Some t → IsProper t
whole_proper opening Ended t e g is = cc
whole_proper opening (Items items closing Ended) t e g is =
    let same : Group opening items closing ≡ t = cc in subst IsProper same (e, g.0, g.1)
whole_proper opening (Items items closing (Items more last rest)) t e g is = cc
whole_proper opening (Items items closing Torn) t e g is = cc
whole_proper opening Torn t e g is = cc

tree_proper : (opening : Word) (ws : List Word) (t : Tree) → opening.kind ≡ kinds.LeftParen → tree_of (opening ∷ ws) ≡ Some t → IsProper t
unfolding tree_of
tree_proper opening ws t e is = whole_proper opening (inside_of ws) t e (inside_proper ws) is

pub form_proper : (text : List ℕ) (form : List Token) (t : Tree) → Contains (forms_of text) form → form_tree text form ≡ Some t → IsProper t
form_proper text form t has e =
    let placed : IsInOrder text form = All-contains (IsInOrder text) (forms_of text) form (forms_in_order text) has in
    tree_proper (word_of text placed.first) (map (word_of text) placed.others) t placed.opened (ap (λ tokens. form_tree text tokens) (sym placed.split) ∙ e)

-- Reading from the left

token_leaf : (next : List Part → Option Tree) (k : TokenKind) (w : Word) (p : Part) (parts : List Part) (ws : List Word) → is_parenthesis k ≡ false → by_token next k w (p ∷ parts) ws ≡ next (with_tree (Leaf w) p ∷ parts)
token_leaf next kinds.LeftParen w p parts ws e = cc
token_leaf next kinds.RightParen w p parts ws e = cc
token_leaf next kinds.Numeral w p parts ws e = refl
token_leaf next kinds.Decimal w p parts ws e = refl
token_leaf next kinds.Symbol w p parts ws e = refl
token_leaf next kinds.Quoted w p parts ws e = refl
token_leaf next kinds.Keyword w p parts ws e = refl
token_leaf next kinds.Str w p parts ws e = refl
token_leaf next kinds.FieldLiteral w p parts ws e = refl

token_alone : (next : List Part → Option Tree) (k : TokenKind) (w : Word) → is_parenthesis k ≡ false → by_token next k w [] [] ≡ Some (Leaf w)
token_alone next kinds.LeftParen w e = cc
token_alone next kinds.RightParen w e = cc
token_alone next kinds.Numeral w e = refl
token_alone next kinds.Decimal w e = refl
token_alone next kinds.Symbol w e = refl
token_alone next kinds.Quoted w e = refl
token_alone next kinds.Keyword w e = refl
token_alone next kinds.Str w e = refl
token_alone next kinds.FieldLiteral w e = refl

-- the items of a part, and after them others
abbrev onto : Trees → Part → Part
onto Empty p = p
onto (First t ts) p = onto ts (with_tree t p)

onto_opening : (ts : Trees) (p : Part) → (onto ts p).opening ≡ p.opening
onto_opening Empty p = refl
onto_opening (First t ts) p = onto_opening ts (with_tree t p)

-- one tree after another list of trees
abbrev joined : Trees → Trees → Trees
joined Empty us = us
joined (First t ts) us = First t (joined ts us)

onto_items : (ts us : Trees) (p : Part) → trees_onto (onto ts p).items us ≡ trees_onto p.items (joined ts us)
onto_items Empty us p = refl
onto_items (First t ts) us p = onto_items ts us (with_tree t p)

joined_empty : (ts : Trees) → joined ts Empty ≡ ts
joined_empty Empty = refl
joined_empty (First t ts) = ap (λ us. First t us) (joined_empty ts)

closes : (opening closing : Word) (items : Trees) → closed_part (onto items (record { opening = opening; items = [] })) closing ≡ Group opening items closing
closes opening closing items =
    let p : Part = record { opening = opening; items = [] } in
    ap (λ w. Group w (trees_onto (onto items p).items Empty) closing) (onto_opening items p) ∙ ap (λ ts. Group opening ts closing) (onto_items items Empty p ∙ joined_empty items)

mutual
  unfolding from_left tokens_of

  -- inside of a part
  tree_read : (t : Tree) (p : Part) (parts : List Part) (ws : List Word) → IsProper t → from_left (p ∷ parts) (tokens_of t ++ ws) ≡ from_left (with_tree t p ∷ parts) ws
  tree_read (Leaf w) p parts ws h = token_leaf (λ now. from_left now ws) w.kind w p parts ws h
  tree_read (Group opening items closing) p parts ws h =
      let q : Part = record { opening = opening; items = [] } in
      let more = tokens_of_items items ++ closing ∷ [] in
      ap (λ k. by_token (λ now. from_left now (more ++ ws)) k opening (p ∷ parts) (more ++ ws)) h.0
      ∙ ap (λ xs. from_left (q ∷ p ∷ parts) xs) (append_assoc (tokens_of_items items) (closing ∷ []) ws)
      ∙ trees_read items q (p ∷ parts) (closing ∷ ws) h.1
      ∙ ap (λ k. by_token (λ now. from_left now ws) k closing (onto items q ∷ p ∷ parts) ws) h.2
      ∙ ap (λ t. from_left (with_tree t p ∷ parts) ws) (closes opening closing items)

  trees_read : (ts : Trees) (p : Part) (parts : List Part) (ws : List Word) → AreProper ts → from_left (p ∷ parts) (tokens_of_items ts ++ ws) ≡ from_left (onto ts p ∷ parts) ws
  trees_read Empty p parts ws h = refl
  trees_read (First t ts) p parts ws h =
      ap (λ xs. from_left (p ∷ parts) xs) (append_assoc (tokens_of t) (tokens_of_items ts) ws) ∙ tree_read t p parts (tokens_of_items ts ++ ws) h.0 ∙ trees_read ts (with_tree t p) parts ws h.1

pub read_from_left : (t : Tree) → IsProper t → from_left [] (tokens_of t) ≡ Some t
unfolding from_left tokens_of
read_from_left (Leaf w) h = token_alone (λ now. from_left now []) w.kind w h
read_from_left (Group opening items closing) h =
    let q : Part = record { opening = opening; items = [] } in
    let more = tokens_of_items items ++ closing ∷ [] in
    ap (λ k. by_token (λ now. from_left now more) k opening [] more) h.0
    ∙ trees_read items q [] (closing ∷ []) h.1
    ∙ ap (λ k. by_token (λ now. from_left now []) k closing (onto items q ∷ []) []) h.2
    ∙ ap (λ t. Some t) (closes opening closing items)

some_same : (t u : Tree) → Some t ≡ Some u → t ≡ u
some_same t u e = cc

pub one_tree : (t u : Tree) → IsProper t → IsProper u → tokens_of t ≡ tokens_of u → t ≡ u
one_tree t u h g e = some_same t u (sym (read_from_left t h) ∙ ap (from_left []) e ∙ read_from_left u g)
