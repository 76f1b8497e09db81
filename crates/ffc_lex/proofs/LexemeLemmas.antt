-- What a text begins with, by the bytes that were looked at and the next one.
use Rattle.std.proofs.Common.{◌≡◌, ℕ, ◌+◌, ◌<◌, ◌≤◌, zero, suc, Bool, true, false, not, cond, List, [], ◌∷◌, ◌++◌, length, take, get_or, refl, sym, ap, ◌∙◌, subst, arith, Option, Some, None, eq-eqb, eqb, ltb, inl, inr}
use Rattle.std.specs.List.{prefix_len}
use Rattle.std.specs.Option.{is_some}
use Rattle.std.proofs.lemmas.Bool.{le-ltb, lt-ltb}
use Rattle.std.proofs.lemmas.Bool.Decides.{eqb_tells}
use Rattle.std.proofs.lemmas.List.{length-append}
use Rattle.std.proofs.lemmas.List.Folds.{prefix_len-append}
use Rattle.std.proofs.Math.Seq.{take-append_seam}
use Rattle.ffc_lex.specs.declared.byte_classes.ByteClass.{ByteClass}
use Rattle.ffc_lex.specs.declared.byte_classes.ByteClass.TheVariants as classes
use Rattle.ffc_lex.specs.declared.tokens.TokenKind.{TokenKind}
use Rattle.ffc_lex.specs.declared.tokens.TokenKind.TheVariants as kinds
use Rattle.ffc_lex.specs.Bytes.{byte_class, is_word_byte, is_line_end, is_text_byte, is_quoted_byte}
use Rattle.ffc_lex.specs.Lexeme.{Lexeme, Skip, Token, Bad, Unended, judged, word_at, comment_at, closed, quoted_at, string_at, inside_at, outside_at, lexeme_at, size_of}

-- a run that ends
pub prefix_stop : (p : ℕ → Bool) (xs : List ℕ) (c : ℕ) (cs : List ℕ) → prefix_len p xs ≡ length xs → p c ≡ false → prefix_len p (xs ++ c ∷ cs) ≡ length xs
prefix_stop p xs c cs all stop =
    let same : eqb (prefix_len p xs) (length xs) ≡ true = eq-eqb (prefix_len p xs) (length xs) all in
    let e : length xs + 0 ≡ length xs = omega arith in
    prefix_len-append p xs (c ∷ cs) ∙ rw (same, stop) e

-- one that goes on
pub prefix_on : (p : ℕ → Bool) (xs : List ℕ) (c : ℕ) → prefix_len p xs ≡ length xs → p c ≡ true → prefix_len p (xs ++ c ∷ []) ≡ length (xs ++ c ∷ [])
prefix_on p xs c all on =
    let same : eqb (prefix_len p xs) (length xs) ≡ true = eq-eqb (prefix_len p xs) (length xs) all in
    let e : length xs + (1 + 0) ≡ length (xs ++ c ∷ []) = omega (arith, length-append xs (c ∷ [])) in
    prefix_len-append p xs (c ∷ []) ∙ rw (same, on) e

pub prefix_least : (p : ℕ → Bool) (xs ys : List ℕ) → prefix_len p xs ≡ length xs → length xs ≤ prefix_len p (xs ++ ys)
prefix_least p xs ys all =
    let same : eqb (prefix_len p xs) (length xs) ≡ true = eq-eqb (prefix_len p xs) (length xs) all in
    let e : length xs ≤ length xs + prefix_len p ys = omega arith in
    rw (prefix_len-append p xs ys, same) e

pub prefix_more : (p : ℕ → Bool) (xs : List ℕ) (c : ℕ) (cs : List ℕ) → prefix_len p xs ≡ length xs → p c ≡ true → length xs < prefix_len p (xs ++ c ∷ cs)
prefix_more p xs c cs all on =
    let same : eqb (prefix_len p xs) (length xs) ≡ true = eq-eqb (prefix_len p xs) (length xs) all in
    let e : length xs < length xs + (1 + prefix_len p cs) = omega arith in
    rw (prefix_len-append p xs (c ∷ cs), same, on) e

-- the element after a front
pub get_seam : (xs : List ℕ) (c : ℕ) (cs : List ℕ) → get_or (xs ++ c ∷ cs) (length xs) 0 ≡ c
get_seam [] c cs = refl
get_seam (x ∷ xs) c cs = get_seam xs c cs

seam : (xs : List ℕ) (c : ℕ) (cs : List ℕ) → ltb (length xs) (length (xs ++ c ∷ cs)) ≡ true
seam xs c cs = lt-ltb (length xs) (length (xs ++ c ∷ cs)) (omega (arith, length-append xs (c ∷ cs)))

positive : (d : ℕ) → 0 < d → eqb d 0 ≡ false
positive d p = elim (eqb_tells d 0) [ inl h ↦ absurd (omega (arith, h.1)) | inr h ↦ h.0 ]

-- inside a form
pub at_inside : (depth c : ℕ) (cs : List ℕ) (class : ByteClass) → 0 < depth → byte_class c ≡ class → lexeme_at depth (c ∷ cs) ≡ inside_at class c cs
unfolding lexeme_at
at_inside depth c cs class p e = rw (positive depth p) (ap (λ k. inside_at k c cs) e)

pub at_outside : (c : ℕ) (cs : List ℕ) (class : ByteClass) → byte_class c ≡ class → lexeme_at 0 (c ∷ cs) ≡ outside_at class cs
unfolding lexeme_at
at_outside c cs class e = ap (λ k. outside_at k cs) e

-- a comment, inside or outside
pub at_comment : (depth c : ℕ) (cs : List ℕ) → byte_class c ≡ classes.Semicolon → lexeme_at depth (c ∷ cs) ≡ comment_at cs
at_comment zero c cs e = at_outside c cs classes.Semicolon e
at_comment (suc depth) c cs e = at_inside (suc depth) c cs classes.Semicolon (omega arith) e

pub comment_ends : (xs : List ℕ) (c : ℕ) (cs : List ℕ) → prefix_len (λ d. not (is_line_end d)) xs ≡ length xs → is_line_end c ≡ true → comment_at (xs ++ c ∷ cs) ≡ Skip (length xs + 2)
unfolding comment_at
comment_ends xs c cs all e = rw (prefix_stop (λ d. not (is_line_end d)) xs c cs all (ap not e), seam xs c cs) refl

-- a word that ends before a byte
pub word_ends : (kind : List ℕ → Option TokenKind) (before : ℕ) (xs : List ℕ) (c : ℕ) (cs : List ℕ) → prefix_len is_word_byte xs ≡ length xs → is_word_byte c ≡ false
    → word_at kind before (xs ++ c ∷ cs) ≡ judged (kind xs) (before + length xs)
unfolding word_at
word_ends kind before xs c cs all e = rw (prefix_stop is_word_byte xs c cs all e, seam xs c cs, take-append_seam xs (c ∷ cs)) refl

pub word_cut : (kind : List ℕ → Option TokenKind) (before : ℕ) (xs : List ℕ) → prefix_len is_word_byte xs ≡ length xs → word_at kind before xs ≡ Unended (is_some (kind xs))
unfolding word_at
word_cut kind before xs all = rw (all, le-ltb (length xs) (length xs) (omega arith)) refl

-- the text of a quoted symbol that ends before a byte
pub quoted_ends : (xs : List ℕ) (c : ℕ) (cs : List ℕ) → prefix_len is_quoted_byte xs ≡ length xs → is_quoted_byte c ≡ false → quoted_at (xs ++ c ∷ cs) ≡ closed c (length xs)
unfolding quoted_at
quoted_ends xs c cs all e = rw (prefix_stop is_quoted_byte xs c cs all e, seam xs c cs, get_seam xs c cs) refl

pub quoted_cut : (xs : List ℕ) → prefix_len is_quoted_byte xs ≡ length xs → quoted_at xs ≡ Unended true
unfolding quoted_at
quoted_cut xs all = rw (all, le-ltb (length xs) (length xs) (omega arith)) refl

pub comment_cut : (xs : List ℕ) → prefix_len (λ d. not (is_line_end d)) xs ≡ length xs → comment_at xs ≡ Unended true
unfolding comment_at
comment_cut xs all = rw (all, le-ltb (length xs) (length xs) (omega arith)) refl

-- one byte of a string
pub string_mark : (n c : ℕ) (cs : List ℕ) → eqb c 34 ≡ true → string_at n false (c ∷ cs) ≡ string_at (n + 1) true cs
unfolding string_at
string_mark n c cs e = rw e refl

pub string_text : (n c : ℕ) (cs : List ℕ) → eqb c 34 ≡ false → is_text_byte c ≡ true → string_at n false (c ∷ cs) ≡ string_at (n + 1) false cs
unfolding string_at
string_text n c cs e t = rw (e, t) refl

pub string_bad : (n c : ℕ) (cs : List ℕ) → eqb c 34 ≡ false → is_text_byte c ≡ false → string_at n false (c ∷ cs) ≡ Bad n (n + 1)
unfolding string_at
string_bad n c cs e t = rw (e, t) refl

pub string_pair : (n c : ℕ) (cs : List ℕ) → eqb c 34 ≡ true → string_at n true (c ∷ cs) ≡ string_at (n + 1) false cs
unfolding string_at
string_pair n c cs e = rw e refl

pub string_ends : (n c : ℕ) (cs : List ℕ) → eqb c 34 ≡ false → string_at n true (c ∷ cs) ≡ Token kinds.Str n
unfolding string_at
string_ends n c cs e = rw e refl

pub string_cut : (n : ℕ) (mark : Bool) → string_at n mark [] ≡ Unended true
unfolding string_at
string_cut n false = refl
string_cut n true = refl

size_cond : (b : Bool) (bytes : List ℕ) (x y : Lexeme) (n : ℕ) → n ≤ size_of bytes x → n ≤ size_of bytes y → n ≤ size_of bytes (cond b x y)
size_cond true bytes x y n p q = p
size_cond false bytes x y n p q = q

size_judged : (bytes : List ℕ) (kind : Option TokenKind) (n : ℕ) → size_of bytes (judged kind n) ≡ n
unfolding size_of
size_judged bytes None n = refl
size_judged bytes (Some kind) n = refl

-- at least so many bytes tell what a string is
pub string_size : (n : ℕ) (mark : Bool) (cs bytes : List ℕ) → n + length cs ≤ length bytes → n ≤ size_of bytes (string_at n mark cs)
unfolding string_at size_of
string_size n false [] bytes h = omega arith
string_size n true [] bytes h = omega arith
string_size n false (c ∷ cs) bytes h =
    let marked : n ≤ size_of bytes (string_at (n + 1) true cs) = omega (arith, string_size (n + 1) true cs bytes (omega arith)) in
    let texted : n ≤ size_of bytes (string_at (n + 1) false cs) = omega (arith, string_size (n + 1) false cs bytes (omega arith)) in
    size_cond (eqb c 34) bytes (string_at (n + 1) true cs) (cond (is_text_byte c) (string_at (n + 1) false cs) (Bad n (n + 1))) n marked
    (size_cond (is_text_byte c) bytes (string_at (n + 1) false cs) (Bad n (n + 1)) n texted (omega arith))
string_size n true (c ∷ cs) bytes h =
    let texted : n ≤ size_of bytes (string_at (n + 1) false cs) = omega (arith, string_size (n + 1) false cs bytes (omega arith)) in
    size_cond (eqb c 34) bytes (string_at (n + 1) false cs) (Token kinds.Str n) n texted (omega arith)

-- and so many tell what a word is
pub word_size : (kind : List ℕ → Option TokenKind) (before : ℕ) (word bytes : List ℕ) (n : ℕ) → n ≤ before + prefix_len is_word_byte word → n ≤ length bytes
    → n ≤ size_of bytes (word_at kind before word)
unfolding word_at size_of
word_size kind before word bytes n h k =
    let whole : n ≤ size_of bytes (judged (kind (take (prefix_len is_word_byte word) word)) (before + prefix_len is_word_byte word)) =
    subst (λ m. n ≤ m) (sym (size_judged bytes (kind (take (prefix_len is_word_byte word) word)) (before + prefix_len is_word_byte word))) h in
    size_cond (ltb (prefix_len is_word_byte word) (length word)) bytes
    (judged (kind (take (prefix_len is_word_byte word) word)) (before + prefix_len is_word_byte word)) (Unended (is_some (kind word))) n whole k

pub comment_size : (body bytes : List ℕ) (n : ℕ) → n ≤ prefix_len (λ d. not (is_line_end d)) body + 2 → n ≤ length bytes → n ≤ size_of bytes (comment_at body)
unfolding comment_at size_of
comment_size body bytes n h k =
    size_cond (ltb (prefix_len (λ d. not (is_line_end d)) body) (length body)) bytes (Skip (prefix_len (λ d. not (is_line_end d)) body + 2)) (Unended true) n h k

pub quoted_size : (body bytes : List ℕ) (n : ℕ) → n ≤ prefix_len is_quoted_byte body + 2 → n ≤ length bytes → n ≤ size_of bytes (quoted_at body)
unfolding quoted_at size_of
quoted_size body bytes n h k =
    let m : ℕ = prefix_len is_quoted_byte body in
    size_cond (ltb m (length body)) bytes (closed (get_or body m 0) m) (Unended true) n
    (size_cond (eqb (get_or body m 0) 124) bytes (Token kinds.Quoted (m + 2)) (Bad (m + 1) (m + 2)) n h h) k
