-- The forms that a text is read to are trees: their parentheses match.
use Rattle.std.proofs.Common.{◌≡◌, ℕ, zero, suc, ◌+◌, ◌-◌, ◌<◌, ◌⊎◌, inl, inr, ⊎_elim, ◌==◌, Bool, true, false, if◌then◌else◌, List, [], ◌∷◌, ◌++◌, map, Some, All, refl, sym, ap, ◌∙◌, subst, arith, append_assoc, append-nil}
use Rattle.std.proofs.lemmas.Bool.{cases_eq}
use Rattle.std.proofs.lemmas.Bool.Decides.{nat_tests}
use Rattle.std.proofs.lemmas.List.Elements.{All-cons, All-nil}
use Rattle.std.proofs.lemmas.List.{map-append}
use Rattle.ffc_lex.specs.declared.tokens.TokenKind.{TokenKind}
use Rattle.ffc_lex.specs.declared.tokens.TokenKind.TheVariants as kinds
use Rattle.ffc_lex.specs.declared.tokens.Token.{Token}
use Rattle.ffc_lex.specs.declared.tokens.Place.{Place}
use Rattle.ffc_lex.specs.Limits.{max_depth}
use Rattle.ffc_lex.specs.Lexeme.{Lexeme, Skip, Token as Lexed, Bad, Unended, lexeme_at}
use Rattle.ffc_lex.specs.Reading.{Open, Next, Halt, Move, Give, End, Reading, outside, past, origin, token_at, after_token, after_left, after_right, after_kind, after_lexeme, next_at, read, reading_of, forms_of, with_form}
use Rattle.ffc_lex.proofs.DepthLemmas.{FitsDepth, LexemeFits, lexeme_fits}
use Rattle.ffc_smt.specs.Trees.{Word, word_of, Tree, Leaf, Group, Inside, Ended, Items, Torn, with_item, opened_by, closed_by, before_inside, inside_of, whole, tree_of, form_tree}

-- so many pairs of parentheses are closed
abbrev Nested : Inside → ℕ → Type 0
Nested Ended n = n ≡ 0
Nested (Items items closing rest) n = (m : ℕ) × (n ≡ m + 1) × Nested rest m
Nested Torn n = ⊥

-- A token that is inside n pairs is inside n pairs with what is after it, but for a parenthesis.
nested_item : (t : Tree) (i : Inside) (n : ℕ) → 0 < n → Nested i n → Nested (with_item t i) n
nested_item t Ended n some h = absurd (omega arith)
nested_item t (Items items closing rest) n some h = h
nested_item t Torn n some h = absurd h

nested_opened : (w : Word) (i : Inside) (n : ℕ) → 0 < n → Nested i (n + 1) → Nested (opened_by w i) n
nested_opened w Ended n some h = absurd (omega arith)
nested_opened w (Items items closing rest) n some (m, e, h) =
    let same : m ≡ n = omega arith in
    nested_item (Group w items closing) rest n some (subst (Nested rest) same h)
nested_opened w Torn n some h = absurd h

nested_closed : (w : Word) (i : Inside) (n : ℕ) → Nested i n → Nested (closed_by w i) (n + 1)
nested_closed w Ended n h = (n, refl, h)
nested_closed w (Items items closing rest) n h = (n, refl, h)
nested_closed w Torn n h = absurd h

module _ (text : List ℕ) where
  abbrev words : List Token → List Word
  words tokens = map (word_of text) tokens

  abbrev inside_tokens : List Token → List Word → Inside
  inside_tokens tokens ws = inside_of (words tokens ++ ws)

  -- where what follows closes n pairs, these tokens and it close one
  abbrev Nests : List Token → ℕ → Type 0
  Nests tokens n = (ws : List Word) → Nested (inside_of ws) n → Nested (inside_tokens tokens ws) 1

  -- one more token, with what it does to what follows
  nests_more : (tokens : List Token) (t : Token) (n m : ℕ) → Nests tokens n → ((i : Inside) → Nested i m → Nested (before_inside t.kind (word_of text t) i) n) → Nests (tokens ++ t ∷ []) m
  unfolding inside_of
  nests_more tokens t n m h step ws g =
      let same : words (tokens ++ t ∷ []) ++ ws ≡ words tokens ++ (word_of text t ∷ ws) =
      ap (λ xs. xs ++ ws) (map-append (word_of text) tokens (t ∷ [])) ∙ append_assoc (words tokens) (word_of text t ∷ []) ws in
      subst (λ xs. Nested (inside_of xs) 1) (sym same) (h (word_of text t ∷ ws) (step (inside_of ws) g))

  -- the form that isn't ended
  abbrev IsOpen : Open → Type 0
  IsOpen o = ((o.depth ≡ 0) × (o.tokens ≡ [])) ⊎ ((0 < o.depth) × (first : Token) × (body : List Token) × (o.tokens ≡ first ∷ body) × Nests body o.depth)

  abbrev HasTree : List Token → Type 0
  HasTree form = (tree : Tree) × (form_tree text form ≡ Some tree)

  whole_tree : (w : Word) (i : Inside) → Nested i 1 → (tree : Tree) × (whole w i ≡ Some tree)
  whole_tree w Ended h = absurd (omega arith)
  whole_tree w (Items items closing Ended) h = (Group w items closing, refl)
  whole_tree w (Items items closing (Items more last rest)) (m, e, (k, f, h)) = absurd (omega arith)
  whole_tree w (Items items closing Torn) (m, e, h) = absurd h
  whole_tree w Torn h = absurd h

  form_has_tree : (first : Token) (body : List Token) (t : Token) → t.kind ≡ kinds.RightParen → Nests body 1 → HasTree (first ∷ (body ++ t ∷ []))
  unfolding tree_of inside_of
  form_has_tree first body t right h =
      let last = nests_more body t 1 0 h (λ i g. subst (λ k. Nested (before_inside k (word_of text t) i) 1) (sym right) (nested_closed (word_of text t) i 0 g)) [] refl in
      let same : words (body ++ t ∷ []) ++ [] ≡ words (body ++ t ∷ []) = append-nil (words (body ++ t ∷ [])) in
      whole_tree (word_of text first) (inside_of (words (body ++ t ∷ []))) (subst (λ xs. Nested (inside_of xs) 1) same last)

  abbrev IsGood : Next → Type 0
  IsGood (Halt e) = Unit {0}
  IsGood (Move n left) = IsOpen left
  IsGood (Give form) = HasTree form

  halts_or : (b : Bool) (e : End) (next : Next) → IsGood next → IsGood (if b then Halt e else next)
  halts_or true e next h = tt
  halts_or false e next h = h

  -- a token inside a form that leaves it at this depth
  one_token : (o : Open) (t : Token) (m : ℕ) (f : Place) → 0 < m → 0 < o.depth → IsOpen o
      → ((i : Inside) → Nested i m → Nested (before_inside t.kind (word_of text t) i) o.depth) → IsOpen (record { depth = m; first = f; tokens = o.tokens ++ t ∷ [] })
  one_token o t m f some inside (inl (none, e)) step = absurd (omega arith)
  one_token o t m f some inside (inr (some', first, body, is, h)) step =
      inr (some, first, body ++ t ∷ [], ap (λ xs. xs ++ t ∷ []) is, nests_more body t o.depth m h step)

  atom_good : (k : TokenKind) (n : ℕ) (place : Place) (o : Open) → 0 < o.depth → IsOpen o → ((w : Word) (i : Inside) → before_inside k w i ≡ with_item (Leaf w) i) → IsGood (after_token k n place o)
  atom_good k n place o inside h is =
      one_token o (token_at k n place) o.depth o.first inside inside h
      (λ i g. subst (λ j. Nested j o.depth) (sym (is (word_of text (token_at k n place)) i)) (nested_item (Leaf (word_of text (token_at k n place))) i o.depth inside g))

  nests_none : Nests [] 1
  nests_none ws h = h

  left_good : (place : Place) (o : Open) → IsOpen o → IsGood (after_left place o)
  left_good place o (inl (none, e)) =
      halts_or (o.depth == max_depth) _ _
      (inr (omega arith, token_at kinds.LeftParen 1 place, [], ap (λ xs. xs ++ token_at kinds.LeftParen 1 place ∷ []) e, subst (Nests []) (let one : 1 ≡ o.depth + 1 = omega arith in one) nests_none))
  left_good place o (inr h) =
      halts_or (o.depth == max_depth) _ _
      (one_token o (token_at kinds.LeftParen 1 place) (o.depth + 1) (if o.depth == 0 then place else o.first) (omega arith) h.0 (inr h) (λ i g. nested_opened _ i o.depth h.0 g))

  is_one : (n : ℕ) → n ≡ 1 → (n == 1) ≡ true
  is_one n e = grind (arith, nat_tests)

  not_one : (n : ℕ) → (n ≡ 1 → ⊥) → (n == 1) ≡ false
  not_one n d = grind (arith, nat_tests)

  by_one : (n : ℕ) (P : Bool → Type 0) → (n ≡ 1 → P true) → ((n ≡ 1 → ⊥) → P false) → P (n == 1)
  by_one n P one other = ⊎_elim (λ e. subst P (sym (is_one n e)) (one e)) (λ d. subst P (sym (not_one n d)) (other d)) (cases_eq n 1)

  is_zero : (n : ℕ) → n ≡ 0 → (n == 0) ≡ true
  is_zero n e = grind (arith, nat_tests)

  halts_at_zero : (n : ℕ) (e : End) (next : Next) → n ≡ 0 → IsGood (if n == 0 then Halt e else next)
  halts_at_zero n e next none = subst (λ b. IsGood (if b then Halt e else next)) (sym (is_zero n none)) tt

  right_good : (place : Place) (o : Open) → IsOpen o → IsGood (after_right place o)
  right_good place o (inl (none, e)) = halts_at_zero o.depth _ _ none
  right_good place o (inr (some, first, body, is, h)) =
      let t = token_at kinds.RightParen 1 place in
      halts_or (o.depth == 0) _ _
      (by_one o.depth (λ b. IsGood (if b then Give (o.tokens ++ t ∷ []) else Move 1 (record { depth = o.depth - 1; first = o.first; tokens = o.tokens ++ t ∷ [] })))
      (λ one. subst HasTree (sym (ap (λ xs. xs ++ t ∷ []) is)) (form_has_tree first body t refl (subst (Nests body) one h)))
      (λ more. one_token o t (o.depth - 1) o.first (omega arith) some (inr (some, first, body, is, h))
      (λ i g. let next : o.depth - 1 + 1 ≡ o.depth = omega arith in subst (Nested (closed_by (word_of text t) i)) next (nested_closed (word_of text t) i (o.depth - 1) g))))

  kind_good : (k : TokenKind) (n : ℕ) (place : Place) (o : Open) → FitsDepth k o.depth → IsOpen o → IsGood (after_kind k n place o)
  kind_good kinds.LeftParen n place o fits h = left_good place o h
  kind_good kinds.RightParen n place o fits h = right_good place o h
  kind_good kinds.Numeral n place o fits h = atom_good kinds.Numeral n place o fits h (λ w i. refl)
  kind_good kinds.Decimal n place o fits h = atom_good kinds.Decimal n place o fits h (λ w i. refl)
  kind_good kinds.Symbol n place o fits h = atom_good kinds.Symbol n place o fits h (λ w i. refl)
  kind_good kinds.Quoted n place o fits h = atom_good kinds.Quoted n place o fits h (λ w i. refl)
  kind_good kinds.Keyword n place o fits h = atom_good kinds.Keyword n place o fits h (λ w i. refl)
  kind_good kinds.Str n place o fits h = atom_good kinds.Str n place o fits h (λ w i. refl)
  kind_good kinds.FieldLiteral n place o fits h = atom_good kinds.FieldLiteral n place o fits h (λ w i. refl)

  lexeme_good : (l : Lexeme) (bytes : List ℕ) (place : Place) (o : Open) → LexemeFits l o.depth → IsOpen o → IsGood (after_lexeme l bytes place o)
  unfolding after_lexeme
  lexeme_good (Skip n) bytes place o fits h = h
  lexeme_good (Lexed kind n) bytes place o fits h = kind_good kind n place o fits h
  lexeme_good (Bad n size) bytes place o fits h = tt
  lexeme_good (Unended more) bytes place o fits h = tt

  next_good : (bytes : List ℕ) (place : Place) (o : Open) → IsOpen o → IsGood (next_at bytes place o)
  unfolding next_at
  next_good bytes place o h = halts_or _ _ _ (lexeme_good (lexeme_at o.depth bytes) bytes place o (lexeme_fits o.depth bytes) h)

  outside_open : (place : Place) → IsOpen (outside place)
  outside_open place = inl (refl, refl)

  abbrev AllTrees : Reading → Type 0
  AllTrees reading = All HasTree reading.forms

  pub read_good : (bytes : List ℕ) (later : ℕ) (place : Place) (o : Open) → IsOpen o → AllTrees (read bytes later place o)
  unfolding read
  read_good [] later place o h = All-nil HasTree
  read_good (c ∷ cs) (suc later) place o h = read_good cs later (past c place) o h
  read_good (c ∷ cs) zero place o h =
      by_next (next_at (c ∷ cs) place o) (next_good (c ∷ cs) place o h) (λ n left g. read_good cs n (past c place) left g)
      (read_good cs 0 (past c place) (outside (past c place)) (outside_open (past c place)))
    where
      by_next : (next : Next) → IsGood next → ((n : ℕ) (left : Open) → IsOpen left → AllTrees (read cs n (past c place) left)) → AllTrees (read cs 0 (past c place) (outside (past c place)))
          → AllTrees (elim next [ Halt e ↦ record { forms = []; end = e } | Move n left ↦ read cs (n - 1) (past c place) left | Give form ↦ with_form form (read cs 0 (past c place) (outside (past c place))) ])
      by_next (Halt e) g f rest = All-nil HasTree
      by_next (Move n left) g f rest = f (n - 1) left g
      by_next (Give form) g f rest = All-cons HasTree form _ g rest

  pub forms_good : All HasTree (forms_of text)
  unfolding reading_of
  forms_good = read_good text 0 origin (outside origin) (outside_open origin)
