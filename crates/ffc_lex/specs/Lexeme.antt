-- What a text begins with: a token, white space, a comment, or a byte that is not allowed there. SMT-LIB 2.6, section 3.1,
-- by cases on the first byte and by longest words. The bytes of a text are all that has come; more may follow.
use Rattle.std.specs.Prelude.{ℕ, ◌+◌, Bool, true, false, ◌==◌, nat_lt, List, [], ◌∷◌, length, take, if◌then◌else◌, Option, Some, None, is_some, slice_index}
use Rattle.std.specs.List.{prefix_len, position_or_len}
use Rattle.ffc_lex.specs.declared.byte_classes.ByteClass.{ByteClass}
use Rattle.ffc_lex.specs.declared.byte_classes.ByteClass.TheVariants.{White, Semicolon, LeftParen, RightParen, Bar, Quote, Colon, Hash, Word, Other}
use Rattle.ffc_lex.specs.declared.tokens.TokenKind.{TokenKind}
use Rattle.ffc_lex.specs.declared.tokens.TokenKind.TheVariants.{LeftParen as Left, RightParen as Right, Quoted, Str}
use Rattle.ffc_lex.specs.Bytes.{byte_class, is_word_byte, is_line_end, is_text_byte, is_quoted_byte}
use Rattle.ffc_lex.specs.Words.{word_kind, keyword_kind, hash_kind}

pub data Lexeme : Type 0 where
  -- so many bytes of white space, or a comment with the byte that ends it
  Skip : ℕ → Lexeme
  -- a token of so many bytes
  Token : TokenKind → ℕ → Lexeme
  -- after so many bytes none is allowed; the second number is of the bytes that say so
  Bad : ℕ → ℕ → Lexeme
  -- all bytes that have come belong to it, and more may; whether they would be a whole token, or a part that may go on
  Unended : Bool → Lexeme

-- the word at the front and what comes before it, of so many bytes, are a token of this kind or none
abbrev pub judged : Option TokenKind → ℕ → Lexeme
judged None size = Bad 0 size
judged (Some kind) size = Token kind size

-- the longest word at the front, after so many bytes of the token
unfoldable pub word_at : (List ℕ → Option TokenKind) → ℕ → List ℕ → Lexeme
word_at kind before bytes =
    let n = prefix_len is_word_byte bytes in
    if nat_lt n (length bytes) then judged (kind (take n bytes)) (before + n) else Unended (is_some (kind bytes))

-- after a semicolon
unfoldable pub comment_at : List ℕ → Lexeme
comment_at bytes =
    let n = position_or_len is_line_end bytes in
    if nat_lt n (length bytes) then Skip (n + 2) else Unended true

-- the byte after the text of a quoted symbol
abbrev pub closed : ℕ → ℕ → Lexeme
closed c n = if c == 124 then Token Quoted (n + 2) else Bad (n + 1) (n + 2)

-- after a bar
unfoldable pub quoted_at : List ℕ → Lexeme
quoted_at bytes =
    let n = prefix_len is_quoted_byte bytes in
    if nat_lt n (length bytes) then closed (slice_index bytes n) n else Unended true

-- after so many bytes of a string, the last of them a quotation mark that may be the first of two or not
unfoldable pub string_at : ℕ → Bool → List ℕ → Lexeme
string_at n mark [] = Unended true
string_at n false (c ∷ cs) =
    if c == 34 then string_at (n + 1) true cs else
    if is_text_byte c then string_at (n + 1) false cs else Bad n (n + 1)
string_at n true (c ∷ cs) = if c == 34 then string_at (n + 1) false cs else Token Str n

-- by the class of the first byte, inside a form
abbrev pub inside_at : ByteClass → ℕ → List ℕ → Lexeme
inside_at White c cs = Skip 1
inside_at Semicolon c cs = comment_at cs
inside_at LeftParen c cs = Token Left 1
inside_at RightParen c cs = Token Right 1
inside_at Bar c cs = quoted_at cs
inside_at Quote c cs = string_at 1 false cs
inside_at Colon c cs = word_at keyword_kind 1 cs
inside_at Hash c cs = word_at hash_kind 1 cs
inside_at Word c cs = word_at word_kind 0 (c ∷ cs)
inside_at Other c cs = Bad 0 1

-- and outside of one
abbrev pub outside_at : ByteClass → List ℕ → Lexeme
outside_at White cs = Skip 1
outside_at Semicolon cs = comment_at cs
outside_at LeftParen cs = Token Left 1
outside_at RightParen cs = Token Right 1
outside_at Bar cs = Bad 0 1
outside_at Quote cs = Bad 0 1
outside_at Colon cs = Bad 0 1
outside_at Hash cs = Bad 0 1
outside_at Word cs = Bad 0 1
outside_at Other cs = Bad 0 1

-- what a text begins with, inside so many open parentheses
unfoldable pub lexeme_at : ℕ → List ℕ → Lexeme
lexeme_at depth [] = Unended true
lexeme_at depth (c ∷ cs) = if depth == 0 then outside_at (byte_class c) cs else inside_at (byte_class c) c cs

-- how many bytes it has
unfoldable pub size_of : List ℕ → Lexeme → ℕ
size_of bytes (Skip n) = n
size_of bytes (Token kind n) = n
size_of bytes (Bad n size) = size
size_of bytes (Unended whole) = length bytes
