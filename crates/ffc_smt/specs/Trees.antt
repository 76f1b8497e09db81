-- Forms as trees: SMT-LIB 2.6, section 3.2 (s-expressions). A form is the list of its tokens, from the parenthesis that
-- opens it to the one that closes it. Every token keeps its bytes as written and its place.
use Rattle.std.specs.Prelude.{ℕ, Bool, true, false, ◌-◌, ◌&&◌, List, [], ◌∷◌, ◌++◌, length, take, drop, map, if◌then◌else◌, Option, Some, None}
use Rattle.ffc_lex.specs.declared.tokens.TokenKind.{TokenKind}
use Rattle.ffc_lex.specs.declared.tokens.TokenKind.TheVariants.{LeftParen, RightParen, Numeral, Decimal, Symbol, Quoted, Keyword, Str, FieldLiteral}
use Rattle.ffc_lex.specs.declared.tokens.Token.{Token}
use Rattle.ffc_lex.specs.Names.{is_reserved_word}

-- a token with its bytes
pub record Word : Type 0 where
  pub kind : TokenKind
  pub bytes : List ℕ
  pub line : ℕ
  pub column : ℕ

abbrev pub word_of : List ℕ → Token → Word
word_of text token = record { kind = token.kind; bytes = take token.length (drop token.start text); line = token.line; column = token.column }

mutual
  pub data Tree : Type 0 where
    -- a token other than a parenthesis
    Leaf : Word → Tree
    -- the parenthesis that opens it, the items, the parenthesis that closes it
    Group : Word → Trees → Word → Tree

  pub data Trees : Type 0 where
    Empty : Trees
    First : Tree → Trees → Trees

-- the items as a list
unfoldable pub items_of : Trees → List Tree
items_of Empty = []
items_of (First t ts) = t ∷ items_of ts

-- where a tree begins
abbrev pub front : Tree → Word
front (Leaf w) = w
front (Group opening items closing) = opening

unfoldable mutual
  -- the tokens of a tree, in the order of the text
  pub tokens_of : Tree → List Word
  tokens_of (Leaf w) = w ∷ []
  tokens_of (Group opening items closing) = opening ∷ (tokens_of_items items ++ closing ∷ [])

  pub tokens_of_items : Trees → List Word
  tokens_of_items Empty = []
  tokens_of_items (First t ts) = tokens_of t ++ tokens_of_items ts

-- What tokens are inside parentheses: the items before the parenthesis that closes the innermost pair,
-- that parenthesis, and what the tokens after it are inside the next pair.
pub data Inside : Type 0 where
  Ended : Inside
  Items : Trees → Word → Inside → Inside
  -- an item comes after the last parenthesis, or one is not closed
  Torn : Inside

abbrev pub with_item : Tree → Inside → Inside
with_item t Ended = Torn
with_item t (Items items closing rest) = Items (First t items) closing rest
with_item t Torn = Torn

-- a parenthesis opens what comes after it
abbrev pub opened_by : Word → Inside → Inside
opened_by opening Ended = Torn
opened_by opening (Items items closing rest) = with_item (Group opening items closing) rest
opened_by opening Torn = Torn

abbrev pub closed_by : Word → Inside → Inside
closed_by closing Ended = Items Empty closing Ended
closed_by closing (Items items next rest) = Items Empty closing (Items items next rest)
closed_by closing Torn = Torn

abbrev pub before_inside : TokenKind → Word → Inside → Inside
before_inside LeftParen w rest = opened_by w rest
before_inside RightParen w rest = closed_by w rest
before_inside Numeral w rest = with_item (Leaf w) rest
before_inside Decimal w rest = with_item (Leaf w) rest
before_inside Symbol w rest = with_item (Leaf w) rest
before_inside Quoted w rest = with_item (Leaf w) rest
before_inside Keyword w rest = with_item (Leaf w) rest
before_inside Str w rest = with_item (Leaf w) rest
before_inside FieldLiteral w rest = with_item (Leaf w) rest

unfoldable pub inside_of : List Word → Inside
inside_of [] = Ended
inside_of (w ∷ ws) = before_inside w.kind w (inside_of ws)

abbrev pub whole : Word → Inside → Option Tree
whole opening Ended = None
whole opening (Items items closing Ended) = Some (Group opening items closing)
whole opening (Items items closing (Items more last rest)) = None
whole opening (Items items closing Torn) = None
whole opening Torn = None

-- the tree of a form, whose first token is the parenthesis that opens it
unfoldable pub tree_of : List Word → Option Tree
tree_of [] = None
tree_of (opening ∷ ws) = whole opening (inside_of ws)

abbrev pub form_tree : List ℕ → List Token → Option Tree
form_tree text form = tree_of (map (word_of text) form)

abbrev pub is_symbol : TokenKind → Bool
is_symbol Symbol = true
is_symbol _ = false

-- a reserved word; a quoted symbol never is one
abbrev pub is_reserved : Word → Bool
is_reserved w = is_symbol w.kind && is_reserved_word w.bytes

abbrev pub name_by_kind : TokenKind → List ℕ → Option (List ℕ)
name_by_kind Symbol bytes = if is_reserved_word bytes then None else Some bytes
name_by_kind Quoted bytes = Some (take (length bytes - 2) (drop 1 bytes))
name_by_kind _ bytes = None

-- the name that a symbol is, unless it is reserved; that of a quoted symbol is what is between the bars
abbrev pub name_of : Word → Option (List ℕ)
name_of w = name_by_kind w.kind w.bytes
