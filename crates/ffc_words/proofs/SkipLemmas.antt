-- A tree has as many words as its parentheses say.
use Rattle.std.proofs.Common.{◌≡◌, ℕ, zero, suc, ◌+◌, ◌<◌, ◌≤◌, false, List, [], ◌∷◌, ◌++◌, length, drop, refl, ap, ◌∙◌, arith, append_assoc, length-append}
use Rattle.std.proofs.lemmas.List.{drop_all, length-drop}
use Rattle.std.proofs.Math.Seq.{drop-cons}
use Rattle.ffc_lex.specs.declared.tokens.TokenKind.{TokenKind}
use Rattle.ffc_lex.specs.declared.tokens.TokenKind.TheVariants as kinds
use Rattle.ffc_smt.specs.Trees.{Word, Tree, Leaf, Group, Trees, Empty, First, tokens_of, tokens_of_items}
use Rattle.ffc_smt.specs.TreeShapes.{IsProper, AreProper, is_parenthesis}
use Rattle.ffc_words.specs.Words.{IsTreeAt, word_at, no_word}
use Rattle.ffc_words.specs.Skipping.{depth_after, size_with, size_from}

leaf_depth : (k : TokenKind) (d : ℕ) → is_parenthesis k ≡ false → depth_after k d ≡ d
leaf_depth kinds.LeftParen d e = cc
leaf_depth kinds.RightParen d e = cc
leaf_depth kinds.Numeral d e = refl
leaf_depth kinds.Decimal d e = refl
leaf_depth kinds.Symbol d e = refl
leaf_depth kinds.Quoted d e = refl
leaf_depth kinds.Keyword d e = refl
leaf_depth kinds.Str d e = refl
leaf_depth kinds.FieldLiteral d e = refl

going_on : (d e : ℕ) (w : Word) (ws : List Word) → depth_after w.kind d ≡ suc e → size_from d (w ∷ ws) ≡ suc (size_from (suc e) ws)
unfolding size_from
going_on d e w ws h = ap (λ n. size_with n (size_from n ws)) h

ending : (d : ℕ) (w : Word) (ws : List Word) → depth_after w.kind d ≡ zero → size_from d (w ∷ ws) ≡ 1
unfolding size_from
ending d w ws h = ap (λ n. size_with n (size_from n ws)) h

mutual
  unfolding tokens_of

  inside_size : (t : Tree) (d : ℕ) (rest : List Word) → IsProper t → size_from (suc d) (tokens_of t ++ rest) ≡ size_from (suc d) rest + length (tokens_of t)
  inside_size (Leaf w) d rest p = let first = going_on (suc d) d w rest (leaf_depth w.kind (suc d) p) in omega (arith, first)
  inside_size (Group opening items closing) d rest p =
      let opened : depth_after opening.kind (suc d) ≡ suc (suc d) = ap (λ k. depth_after k (suc d)) p.0 in
      let closed : depth_after closing.kind (suc (suc d)) ≡ suc d = ap (λ k. depth_after k (suc (suc d))) p.2 in
      let after = going_on (suc (suc d)) d closing rest closed in
      let within = items_size items (suc d) (closing ∷ rest) p.1 in
      let same : (tokens_of_items items ++ closing ∷ []) ++ rest ≡ tokens_of_items items ++ (closing ∷ rest) = append_assoc (tokens_of_items items) (closing ∷ []) rest in
      let first = going_on (suc d) (suc d) opening (tokens_of_items items ++ (closing ∷ rest)) opened in
      let long = length-append (tokens_of_items items) (closing ∷ []) in
      ap (λ ws. size_from (suc d) (opening ∷ ws)) same ∙ omega (arith, first, within, after, long)

  items_size : (ts : Trees) (d : ℕ) (rest : List Word) → AreProper ts → size_from (suc d) (tokens_of_items ts ++ rest) ≡ size_from (suc d) rest + length (tokens_of_items ts)
  items_size Empty d rest p = omega arith
  items_size (First t ts) d rest p =
      let one = inside_size t d (tokens_of_items ts ++ rest) p.0 in
      let others = items_size ts d rest p.1 in
      let long = length-append (tokens_of t) (tokens_of_items ts) in
      ap (size_from (suc d)) (append_assoc (tokens_of t) (tokens_of_items ts) rest) ∙ omega (arith, one, others, long)

pub tree_size : (t : Tree) (rest : List Word) → IsProper t → size_from 0 (tokens_of t ++ rest) ≡ length (tokens_of t)
unfolding tokens_of
tree_size (Leaf w) rest p = ending 0 w rest (leaf_depth w.kind 0 p)
tree_size (Group opening items closing) rest p =
    let opened : depth_after opening.kind 0 ≡ 1 = ap (λ k. depth_after k 0) p.0 in
    let closed : depth_after closing.kind 1 ≡ 0 = ap (λ k. depth_after k 1) p.2 in
    let after = ending 1 closing rest closed in
    let within = items_size items 0 (closing ∷ rest) p.1 in
    let same : (tokens_of_items items ++ closing ∷ []) ++ rest ≡ tokens_of_items items ++ (closing ∷ rest) = append_assoc (tokens_of_items items) (closing ∷ []) rest in
    let first = going_on 0 0 opening (tokens_of_items items ++ (closing ∷ rest)) opened in
    let long = length-append (tokens_of_items items) (closing ∷ []) in
    ap (λ ws. size_from 0 (opening ∷ ws)) same ∙ omega (arith, first, within, after, long)

-- one word more

at_word : (d : ℕ) (words : List Word) (i : ℕ) → i < length words → size_from d (drop i words) ≡ size_with (depth_after (word_at words i).kind d) (size_from (depth_after (word_at words i).kind d) (drop (suc i) words))
unfolding size_from
at_word d words i within = ap (size_from d) (drop-cons words i no_word within)

pub word_goes_on : (d e : ℕ) (words : List Word) (i : ℕ) → i < length words → depth_after (word_at words i).kind d ≡ e → 0 < e → size_from d (drop i words) ≡ size_from e (drop (i + 1) words) + 1
word_goes_on d zero words i within h some = absurd (omega arith)
word_goes_on d (suc e) words i within h some =
    let next : suc i ≡ i + 1 = omega arith in
    let one = at_word d words i within ∙ ap (λ n. size_with n (size_from n (drop (suc i) words))) h in
    omega (arith, one, ap (λ n. size_from (suc e) (drop n words)) next)

pub word_ends : (d e : ℕ) (words : List Word) (i : ℕ) → i < length words → depth_after (word_at words i).kind d ≡ e → e ≡ 0 → size_from d (drop i words) ≡ 1
word_ends d e words i within h none = at_word d words i within ∙ ap (λ n. size_with n (size_from n (drop (suc i) words))) (h ∙ none)

pub none_left : (d : ℕ) (words : List Word) (i : ℕ) → length words ≤ i → size_from d (drop i words) ≡ 0
unfolding size_from
none_left d words i h = ap (size_from d) (drop_all i words h)

-- a tree that begins at this place: so many words up to its end
pub size_at : (words : List Word) (i : ℕ) (t : Tree) (rest : List Word) → IsTreeAt words i t rest → size_from 0 (drop i words) ≡ length (tokens_of t)
size_at words i t rest h = ap (size_from 0) h.text ∙ tree_size t rest h.proper

pub some_word : (t : Tree) → 0 < length (tokens_of t)
unfolding tokens_of
some_word (Leaf w) = omega arith
some_word (Group opening items closing) = omega arith

pub one_deeper : (k : TokenKind) (d : ℕ) → depth_after k d ≤ d + 1
one_deeper kinds.LeftParen d = omega arith
one_deeper kinds.RightParen zero = omega arith
one_deeper kinds.RightParen (suc d) = omega arith
one_deeper kinds.Numeral d = omega arith
one_deeper kinds.Decimal d = omega arith
one_deeper kinds.Symbol d = omega arith
one_deeper kinds.Quoted d = omega arith
one_deeper kinds.Keyword d = omega arith
one_deeper kinds.Str d = omega arith
one_deeper kinds.FieldLiteral d = omega arith

pub place_within : (words : List Word) (i : ℕ) (t : Tree) (rest : List Word) → IsTreeAt words i t rest → i < length words
place_within words i t rest h = omega (arith, some_word t, ap length h.text, length-drop i words, length-append (tokens_of t) rest)
