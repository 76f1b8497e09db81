-- One step of a reading.
use Rattle.std.proofs.Common.{◌≡◌, ℕ, ◌+◌, ◌-◌, ◌<◌, ◌≤◌, zero, suc, Bool, true, List, [], ◌∷◌, length, take, drop, refl, ap, ◌∙◌, arith}
use Rattle.std.proofs.lemmas.Bool.{le-ltb, lt-ltb}
use Rattle.ffc_lex.specs.declared.tokens.TokenKind.{TokenKind}
use Rattle.ffc_lex.specs.declared.tokens.Place.{Place}
use Rattle.ffc_lex.specs.declared.tokens.Token.{Token as TokenRecord}
use Rattle.ffc_lex.specs.Limits.{max_bytes}
use Rattle.ffc_lex.specs.Lexeme.{Lexeme, Skip, Token, Bad, Unended, lexeme_at, size_of}
use Rattle.ffc_lex.specs.Reading.{Open, End, Stopped, Halt, Move, Give, past, place_after, fault_at, halted, with_form, outside, unended, after_kind, after_lexeme, next_at, read}

-- bytes that belong to what was read before
pub read_behind : (k : ℕ) (bytes : List ℕ) (place : Place) (o : Open) → k ≤ length bytes
    → read bytes k place o ≡ read (drop k bytes) 0 (place_after (take k bytes) place) o
unfolding read
read_behind zero [] place o h = refl
read_behind zero (c ∷ cs) place o h = refl
read_behind (suc k) [] place o h = absurd (omega arith)
read_behind (suc k) (c ∷ cs) place o h = read_behind k cs (past c place) o (omega arith)

pub read_on : (c : ℕ) (cs : List ℕ) (place : Place) (o : Open) (n : ℕ) (left : Open) → next_at (c ∷ cs) place o ≡ Move n left
    → read (c ∷ cs) 0 place o ≡ read cs (n - 1) (past c place) left
unfolding read
read_on c cs place o n left e = rw (e, read) refl

-- a lexeme that is read
pub read_after : (k : ℕ) (bytes : List ℕ) (place : Place) (o left : Open) → 0 < k → k ≤ length bytes → next_at bytes place o ≡ Move k left
    → read bytes 0 place o ≡ read (drop k bytes) 0 (place_after (take k bytes) place) left
read_after zero bytes place o left p h e = absurd (omega arith)
read_after (suc k) [] place o left p h e = absurd (omega arith)
read_after (suc k) (c ∷ cs) place o left p h e =
    let n : suc k - 1 ≡ k = omega arith in
    read_on c cs place o (suc k) left e ∙ (ap (λ m. read cs m (past c place) left) n ∙ read_behind k cs (past c place) left (omega arith))

-- the end of a form
pub read_form : (c : ℕ) (cs : List ℕ) (place : Place) (o : Open) (form : List TokenRecord) → next_at (c ∷ cs) place o ≡ Give form
    → read (c ∷ cs) 0 place o ≡ with_form form (read cs 0 (past c place) (outside (past c place)))
unfolding read
read_form c cs place o form e = rw (e, read) refl

-- the end of the reading
pub read_end : (c : ℕ) (cs : List ℕ) (place : Place) (o : Open) (end : End) → next_at (c ∷ cs) place o ≡ Halt end
    → read (c ∷ cs) 0 place o ≡ halted end
unfolding read
read_end c cs place o end e = rw (e, read) refl

pub read_nothing : (place : Place) (o : Open) → read [] 0 place o ≡ halted (unended true place o)
unfolding read
read_nothing place o = refl

-- a lexeme before the limit
pub next_within : (bytes : List ℕ) (place : Place) (o : Open) (l : Lexeme) → lexeme_at o.depth bytes ≡ l → place.index + size_of bytes l ≤ max_bytes
    → next_at bytes place o ≡ after_lexeme l bytes place o
unfolding next_at
next_within bytes place o l e h = rw e (rw (le-ltb max_bytes (place.index + size_of bytes l) h) refl)

-- one that holds the byte past the limit
pub next_past : (bytes : List ℕ) (place : Place) (o : Open) → max_bytes < place.index + size_of bytes (lexeme_at o.depth bytes)
    → next_at bytes place o ≡ Halt (Stopped (fault_at 17 (place_after (take (max_bytes - place.index) bytes) place)))
unfolding next_at
next_past bytes place o h = rw (lt-ltb max_bytes (place.index + size_of bytes (lexeme_at o.depth bytes)) h) refl

pub next_skip : (bytes : List ℕ) (place : Place) (o : Open) (n : ℕ) → lexeme_at o.depth bytes ≡ Skip n → place.index + n ≤ max_bytes
    → next_at bytes place o ≡ Move n o
unfolding after_lexeme size_of
next_skip bytes place o n e h = next_within bytes place o (Skip n) e h

pub next_token : (bytes : List ℕ) (place : Place) (o : Open) (kind : TokenKind) (n : ℕ) → lexeme_at o.depth bytes ≡ Token kind n → place.index + n ≤ max_bytes
    → next_at bytes place o ≡ after_kind kind n place o
unfolding after_lexeme size_of
next_token bytes place o kind n e h = next_within bytes place o (Token kind n) e h

pub next_bad : (bytes : List ℕ) (place : Place) (o : Open) (n size : ℕ) → lexeme_at o.depth bytes ≡ Bad n size → place.index + size ≤ max_bytes
    → next_at bytes place o ≡ Halt (Stopped (fault_at 1 (place_after (take n bytes) place)))
unfolding after_lexeme size_of
next_bad bytes place o n size e h = next_within bytes place o (Bad n size) e h

pub next_unended : (bytes : List ℕ) (place : Place) (o : Open) (whole : Bool) → lexeme_at o.depth bytes ≡ Unended whole → place.index + length bytes ≤ max_bytes
    → next_at bytes place o ≡ Halt (unended whole place o)
unfolding after_lexeme size_of
next_unended bytes place o whole e h = next_within bytes place o (Unended whole) e h
