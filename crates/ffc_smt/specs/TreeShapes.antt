-- The tree of a form is determined by its tokens, and how it is read from the left.
use Rattle.std.specs.Prelude.{◌≡◌, ℕ, Bool, true, false, List, [], ◌∷◌, Option, Some, None, Contains}
use Rattle.ffc_lex.specs.declared.tokens.TokenKind.{TokenKind}
use Rattle.ffc_lex.specs.declared.tokens.TokenKind.TheVariants.{LeftParen, RightParen}
use Rattle.ffc_lex.specs.declared.tokens.Token.{Token}
use Rattle.ffc_lex.specs.Reading.{forms_of}
use Rattle.ffc_smt.specs.Trees.{Word, Tree, Leaf, Group, Trees, Empty, First, tokens_of, form_tree}

abbrev pub is_parenthesis : TokenKind → Bool
is_parenthesis LeftParen = true
is_parenthesis RightParen = true
is_parenthesis _ = false

abbrev mutual
  -- no leaf is a parenthesis, and each group is between a left and a right one
  pub IsProper : Tree → Type 0
  IsProper (Leaf w) = is_parenthesis w.kind ≡ false
  IsProper (Group opening items closing) = (opening.kind ≡ LeftParen) × AreProper items × (closing.kind ≡ RightParen)

  pub AreProper : Trees → Type 0
  AreProper Empty = Unit {0}
  AreProper (First t ts) = IsProper t × AreProper ts

-- Reading from the left: the groups that are not closed, the innermost first

-- a parenthesis and the items after it, the newest first
pub record Part : Type 0 where
  pub opening : Word
  pub items : List Tree

abbrev pub with_tree : Tree → Part → Part
with_tree t p = record p { items = t ∷ p.items }

-- these items, and before them others, the newest first
abbrev pub trees_onto : List Tree → Trees → Trees
trees_onto [] ts = ts
trees_onto (t ∷ rest) ts = trees_onto rest (First t ts)

abbrev pub closed_part : Part → Word → Tree
closed_part p closing = Group p.opening (trees_onto p.items Empty) closing

-- a tree that ends, inside of these parts, and what follows it
abbrev pub tree_ends : (List Part → Option Tree) → Tree → List Part → List Word → Option Tree
tree_ends next t [] [] = Some t
tree_ends next t [] (w ∷ ws) = None
tree_ends next t (p ∷ parts) ws = next (with_tree t p ∷ parts)

abbrev pub part_closes : (List Part → Option Tree) → Word → List Part → List Word → Option Tree
part_closes next closing [] ws = None
part_closes next closing (p ∷ parts) ws = tree_ends next (closed_part p closing) parts ws

abbrev pub by_token : (List Part → Option Tree) → TokenKind → Word → List Part → List Word → Option Tree
by_token next LeftParen w parts ws = next (record { opening = w; items = [] } ∷ parts)
by_token next RightParen w parts ws = part_closes next w parts ws
by_token next _ w parts ws = tree_ends next (Leaf w) parts ws

-- the tree that is complete with the last of these tokens
unfoldable pub from_left : List Part → List Word → Option Tree
from_left parts [] = None
from_left parts (w ∷ ws) = by_token (λ now. from_left now ws) w.kind w parts ws

pub record TreesAreDetermined : Type 0 where
  -- the tree of a form is proper
  pub proper : (text : List ℕ) (form : List Token) (tree : Tree) → Contains (forms_of text) form → form_tree text form ≡ Some tree → IsProper tree
  -- a proper tree is what is read from its tokens, from the left
  pub read : (tree : Tree) → IsProper tree → from_left [] (tokens_of tree) ≡ Some tree
  -- so it is the only one of these tokens
  pub one : (t u : Tree) → IsProper t → IsProper u → tokens_of t ≡ tokens_of u → t ≡ u
