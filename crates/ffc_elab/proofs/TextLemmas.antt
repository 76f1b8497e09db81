-- The text of words, one by one.
use Rattle.std.proofs.Common.{◌≡◌, ℕ, suc, ◌+◌, ◌-◌, ◌<◌, ◌≤◌, List, [], ◌∷◌, ◌++◌, length, take, drop, refl, sym, ap, ◌∙◌, arith, append_assoc, append-nil, drop-cons, length-append, length-drop}
use Rattle.std.proofs.Math.Seq.{take-append_seam}
use Rattle.ffc_lex.specs.declared.tokens.TokenKind.{TokenKind}
use Rattle.ffc_lex.specs.declared.tokens.TokenKind.TheVariants as kinds
use Rattle.ffc_smt.specs.Trees.{Word, Tree, tokens_of}
use Rattle.ffc_smt.specs.Answering.{space_between, text_after, text_of}
use Rattle.ffc_words.specs.Words.{IsTreeAt, no_word, word_at}
use Rattle.ffc_elab.proofs.OutcomeLemmas.{tokens_front}

-- the text of words after one of this kind
abbrev pub spelled : TokenKind → List Word → List ℕ
spelled k ws = text_after (record no_word { kind = k }) ws

kind_alone : (v w : Word) (ws : List Word) → v.kind ≡ w.kind → text_after v ws ≡ text_after w ws
kind_alone v w [] e = refl
kind_alone v w (u ∷ us) e = ap (λ k. space_between k u.kind ++ u.bytes ++ text_after u us) e

text_is : (ws : List Word) → text_of ws ≡ spelled kinds.LeftParen ws
text_is [] = refl
text_is (w ∷ ws) = refl

-- the words that are to come
abbrev pub coming : List Word → ℕ → ℕ → List Word
coming words i end = take (end - i) (drop i words)

next_coming : (words : List Word) (i end : ℕ) → i < end → end ≤ length words → coming words i end ≡ word_at words i ∷ coming words (i + 1) end
next_coming words i end less few =
    let one : end - i ≡ suc (end - (i + 1)) = omega arith in
    let next : suc i ≡ i + 1 = omega arith in
    let here : drop i words ≡ word_at words i ∷ drop (suc i) words = drop-cons words i no_word (omega arith) in
    ap (λ n. take n (drop i words)) one ∙ ap (take (suc (end - (i + 1)))) here ∙ ap (λ k. word_at words i ∷ take (end - (i + 1)) (drop k words)) next

pub text_goes_on : (words : List Word) (i end : ℕ) (k : TokenKind) (bytes more : List ℕ) → i < end → end ≤ length words
    → more ≡ bytes ++ (space_between k (word_at words i).kind ++ (word_at words i).bytes) → more ++ spelled (word_at words i).kind (coming words (i + 1) end) ≡ bytes ++ spelled k (coming words i end)
text_goes_on words i end k bytes more less few e =
    let w = word_at words i in
    let rest = coming words (i + 1) end in
    ap (λ v. v ++ spelled w.kind rest) e
    ∙ append_assoc bytes (space_between k w.kind ++ w.bytes) (spelled w.kind rest)
    ∙ ap (λ v. bytes ++ ((space_between k w.kind ++ w.bytes) ++ v)) (kind_alone (record no_word { kind = w.kind }) w rest refl)
    ∙ ap (λ ws. bytes ++ spelled k ws) (sym (next_coming words i end less few))

none_coming : (words : List Word) (end : ℕ) → coming words end end ≡ []
none_coming words end = let e : end - end ≡ 0 = omega arith in ap (λ n. take n (drop end words)) e

pub text_ends : (words : List Word) (start end : ℕ) (k : TokenKind) (bytes : List ℕ) (tree : Tree) (rest : List Word) → IsTreeAt words start tree rest → end ≡ start + length (tokens_of tree)
    → (end ≤ length words → bytes ++ spelled k (coming words end end) ≡ text_of (coming words start end)) → bytes ≡ text_of (tokens_of tree)
text_ends words start end k bytes tree rest at long h =
    let some : length (drop start words) ≡ length (tokens_of tree) + length rest = ap length at.text ∙ length-append (tokens_of tree) rest in
    let first : length (tokens_of tree) ≡ suc (length (Rattle.ffc_elab.proofs.OutcomeLemmas.tail_of tree)) = ap length (tokens_front tree) in
    let few : end ≤ length words = omega (arith, some, first, long, length-drop start words) in
    let count : end - start ≡ length (tokens_of tree) = omega (arith, long) in
    sym (append-nil bytes) ∙ ap (λ ws. bytes ++ spelled k ws) (sym (none_coming words end)) ∙ h few
    ∙ ap text_of (ap (λ n. take n (drop start words)) count ∙ ap (take (length (tokens_of tree))) at.text ∙ take-append_seam (tokens_of tree) rest)
