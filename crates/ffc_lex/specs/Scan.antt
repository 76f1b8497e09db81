-- A scanner's state, and when it has read a text up to its next byte. It is private to the scanner: the lexer's contracts
-- are over the whole text.
use Rattle.std.specs.Prelude.{◌≡◌, ℕ, ◌+◌, ◌-◌, ◌<◌, ◌≤◌, Bool, true, false, not, ◌==◌, List, [], ◌∷◌, ◌++◌, All, length, take, drop, Option, Some, None, Result, Ok, Err, slice_get}
use Rattle.std.specs.List.{prefix_len}
use Rattle.ffc_lex.specs.declared.byte_classes.ByteClass.{ByteClass}
use Rattle.ffc_lex.specs.declared.byte_classes.ByteClass.TheVariants.{Semicolon, Bar, Quote, Colon, Hash}
use Rattle.ffc_lex.specs.declared.byte_classes.ByteClass.TheVariants as classes
use Rattle.ffc_lex.specs.declared.tokens.TokenKind.{TokenKind}
use Rattle.ffc_lex.specs.declared.tokens.Token.{Token}
use Rattle.ffc_lex.specs.declared.tokens.Place.{Place}
use Rattle.ffc_lex.specs.declared.faults.ScriptFault.{ScriptFault}
use Rattle.ffc_lex.specs.declared.faults.LexStop.{LexStop}
use Rattle.ffc_lex.specs.declared.faults.LexStop.TheVariants.{Fault, Memory}
use Rattle.ffc_lex.specs.declared.modes.Mode.{Mode}
use Rattle.ffc_lex.specs.declared.modes.Mode.TheVariants.{Between, Comment, Word, Keyword, FieldLiteral, Quoted, Str, StrMark}
use Rattle.ffc_lex.specs.Limits.{max_bytes, max_depth}
use Rattle.ffc_lex.specs.declared.tokens.TokenKind.TheVariants as kinds
use Rattle.ffc_lex.specs.Words.{word_kind, keyword_kind, hash_kind}
use Rattle.ffc_lex.specs.Bytes.{byte_class, is_word_byte, is_line_end, is_quoted_byte}
use Rattle.ffc_lex.specs.Lexeme.{Bad, lexeme_at, string_at}
use Rattle.ffc_lex.specs.Reading.{past, place_after, token_at, Open, Reading, Stopped, halted, read, reading_of, forms_of}

pub record Scan : Type 0 where
  -- how many bytes of the text were dropped
  pub kept : ℕ
  pub at : Place
  pub start : Place
  pub mode : Mode
  pub depth : ℕ
  pub first : Place
  pub tokens : List Token

-- the first byte that is still to be read: of a comment the next one, else that from which a token may begin
abbrev pub reach : Mode → Place → Place → ℕ
reach Between at start = start.index
reach Comment at start = at.index
reach Word at start = start.index
reach Keyword at start = start.index
reach FieldLiteral at start = start.index
reach Quoted at start = start.index
reach Str at start = start.index
reach StrMark at start = start.index

-- where the first of these tokens begins, or another place where there is none
abbrev pub first_start : List Token → ℕ → ℕ
first_start [] otherwise = otherwise
first_start (t ∷ ts) otherwise = t.start

abbrev pub IsBetween : ℕ → ℕ → Token → Type 0
IsBetween low high t = (low ≤ t.start) × (t.start + t.length ≤ high)

-- The tokens end before a place, none begins before the first, and no byte from that one on, or from where the next token
-- may begin, was dropped.
pub record IsHeld (gone next high : ℕ) (tokens : List Token) : Type 0 where
  pub kept : gone ≤ first_start tokens next
  pub between : All (IsBetween (first_start tokens next) high) tokens

-- so that no counter can overflow, and what is still wanted is held
pub record IsInRange (kept : ℕ) (at start : Place) (mode : Mode) (opened : ℕ) (tokens : List Token) : Type 0 where
  pub index : at.index ≤ max_bytes
  pub line : at.line ≤ at.index + 1
  pub column : at.column ≤ at.index + 1
  pub order : start.index ≤ at.index
  pub depth : opened ≤ max_depth
  pub held : IsHeld kept (reach mode at start) start.index tokens

-- the first byte that is still wanted
abbrev pub floor_of : Scan → ℕ
floor_of s = first_start s.tokens (reach s.mode s.at s.start)

abbrev pub open_of : Scan → Open
open_of s = record { depth = s.depth; first = s.first; tokens = s.tokens }

-- before the first byte
abbrev pub begun : ℕ → Place → Scan
begun kept place = record { kept = kept; at = place; start = place; mode = Between; depth = 0; first = place; tokens = [] }

-- a byte is looked at
abbrev pub moved : ℕ → Scan → Scan
moved c s = record s { at = past c s.at }

-- what was being scanned ends before the next byte
abbrev pub settled : Scan → Scan
settled s = record s { start = s.at; mode = Between }

-- and is a token
abbrev pub with_token : TokenKind → Scan → Scan
with_token kind s = record s { tokens = s.tokens ++ token_at kind (s.at.index - s.start.index) s.start ∷ []; start = s.at; mode = Between }

-- the next byte is looked at, and ends a token
abbrev pub with_token_through : TokenKind → ℕ → Scan → Scan
with_token_through kind c s = record s {
  tokens = s.tokens ++ token_at kind (s.at.index - s.start.index + 1) s.start ∷ [];
  at = past c s.at;
  start = past c s.at;
  mode = Between;
}

-- the bytes from the start of what is being scanned, and those of them that were looked at
abbrev pub ahead : List ℕ → Scan → List ℕ
ahead text s = drop s.start.index text

abbrev pub scanned : List ℕ → Scan → List ℕ
scanned text s = take (s.at.index - s.start.index) (drop s.start.index text)

-- A byte of this class, and then bytes that pass.
pub record IsLed (class : ByteClass) (p : ℕ → Bool) (depth : ℕ) (bytes : List ℕ) : Type 0 where
  pub head : ℕ
  pub body : List ℕ
  pub split : bytes ≡ head ∷ body
  pub led : byte_class head ≡ class
  pub passed : prefix_len p body ≡ length body
  pub inside : 0 < depth

-- the same, in a comment, which may be outside a form
pub record IsComment (bytes : List ℕ) : Type 0 where
  pub head : ℕ
  pub body : List ℕ
  pub split : bytes ≡ head ∷ body
  pub led : byte_class head ≡ Semicolon
  pub passed : prefix_len (λ c. not (is_line_end c)) body ≡ length body

-- a word's bytes
pub record IsWord (depth : ℕ) (bytes : List ℕ) : Type 0 where
  pub head : ℕ
  pub body : List ℕ
  pub split : bytes ≡ head ∷ body
  pub led : byte_class head ≡ classes.Word
  pub passed : prefix_len is_word_byte bytes ≡ length bytes
  pub inside : 0 < depth

-- a string that isn't ended; whether its last byte is a quotation mark that may end it
pub record IsString (mark : Bool) (depth : ℕ) (bytes : List ℕ) : Type 0 where
  pub head : ℕ
  pub body : List ℕ
  pub split : bytes ≡ head ∷ body
  pub led : byte_class head ≡ Quote
  pub goes_on : (more : List ℕ) → string_at 1 false (body ++ more) ≡ string_at (1 + length body) mark more
  pub inside : 0 < depth

-- what the bytes that were looked at are, in each mode
abbrev pub Fits : Mode → ℕ → List ℕ → Type 0
Fits Between depth bytes = bytes ≡ []
Fits Comment depth bytes = IsComment bytes
Fits Word depth bytes = IsWord depth bytes
Fits Keyword depth bytes = IsLed Colon is_word_byte depth bytes
Fits FieldLiteral depth bytes = IsLed Hash is_word_byte depth bytes
Fits Quoted depth bytes = IsLed Bar is_quoted_byte depth bytes
Fits Str depth bytes = IsString false depth bytes
Fits StrMark depth bytes = IsString true depth bytes

-- a reading without its first forms
abbrev pub without : ℕ → Reading → Reading
without n reading = record { forms = drop n reading.forms; end = reading.end }

-- However the text goes on, it is read by giving its first n forms and then reading on from here.
pub record IsReady (n : ℕ) (text : List ℕ) (s : Scan) : Type 0 where
  pub within : s.at.index ≤ length text
  pub few : n ≤ s.at.index
  pub order : s.start.index ≤ s.at.index
  pub limit : s.at.index ≤ max_bytes
  pub place : s.at ≡ place_after (scanned text s) s.start
  pub reads : (more : List ℕ) → without n (reading_of (text ++ more)) ≡ read (ahead text s ++ more) 0 s.start (open_of s)
  pub fits : Fits s.mode s.depth (scanned text s)

-- the text is at fault, however it goes on, and its first n forms are all
abbrev pub IsStopped : ℕ → List ℕ → ScriptFault → Type 0
IsStopped n text fault = (more : List ℕ) → without n (reading_of (text ++ more)) ≡ halted (Stopped fault)

-- the form of this number, however the text goes on
abbrev pub IsForm : ℕ → List ℕ → List Token → Type 0
IsForm n text form = (more : List ℕ) → slice_get (forms_of (text ++ more)) n ≡ Some form

-- whether a byte ends what is being scanned before itself
abbrev pub is_ended_by : Mode → ℕ → Bool
is_ended_by Between c = false
is_ended_by Comment c = false
is_ended_by Word c = not (is_word_byte c)
is_ended_by Keyword c = not (is_word_byte c)
is_ended_by FieldLiteral c = not (is_word_byte c)
is_ended_by Quoted c = false
is_ended_by Str c = false
is_ended_by StrMark c = not (c == 34)

-- what token bytes are where they end so, if they are one. Where they end otherwise, there is nothing to judge.
abbrev pub kind_in : Mode → List ℕ → Option TokenKind
kind_in Between bytes = Some kinds.Str
kind_in Comment bytes = Some kinds.Str
kind_in Word bytes = word_kind bytes
kind_in Keyword bytes = keyword_kind (drop 1 bytes)
kind_in FieldLiteral bytes = hash_kind (drop 1 bytes)
kind_in Quoted bytes = Some kinds.Str
kind_in Str bytes = Some kinds.Str
kind_in StrMark bytes = Some kinds.Str

-- a byte that begins what is scanned in this mode inside a form, and is not allowed outside of one
pub record Begins (mode : Mode) (c : ℕ) : Type 0 where
  pub inside : (depth : ℕ) → 0 < depth → Fits mode depth (c ∷ [])
  pub outside : (rest : List ℕ) → lexeme_at 0 (c ∷ rest) ≡ Bad 0 1

-- the classes of the bytes between two tokens, but for parentheses
abbrev pub IsNoParenthesis : ByteClass → Type 0
IsNoParenthesis classes.White = Unit {0}
IsNoParenthesis classes.Semicolon = Unit {0}
IsNoParenthesis classes.LeftParen = ⊥
IsNoParenthesis classes.RightParen = ⊥
IsNoParenthesis classes.Bar = Unit {0}
IsNoParenthesis classes.Quote = Unit {0}
IsNoParenthesis classes.Colon = Unit {0}
IsNoParenthesis classes.Hash = Unit {0}
IsNoParenthesis classes.Word = Unit {0}
IsNoParenthesis classes.Other = Unit {0}

-- the text may be read on from here, after this byte of it
pub record IsFacing (n : ℕ) (text : List ℕ) (c : ℕ) (s : Scan) : Type 0 where
  pub ready : IsReady n text s
  pub next : slice_get text s.at.index ≡ Some c

-- what is left after a call that has stopped: where memory ran out, the same text may be read on
abbrev pub AfterStop : LexStop → ℕ → List ℕ → Scan → Type 0
AfterStop (Fault fault) n text s = IsStopped n text fault
AfterStop Memory n text s = IsReady n text s

-- after a byte that ends no form
abbrev pub AfterByte : {X : Type 0} → Result X LexStop → ℕ → List ℕ → Scan → Type 0
AfterByte (Ok x) n text s = IsReady n text s
AfterByte (Err stop) n text s = AfterStop stop n text s

-- after what the next byte ends was ended
abbrev pub AfterEnd : {X : Type 0} → Result X LexStop → ℕ → List ℕ → ℕ → Scan → Type 0
AfterEnd (Ok x) n text c s = IsFacing n text c s × (is_ended_by s.mode c ≡ false)
AfterEnd (Err stop) n text c s = AfterStop stop n text s

-- after a byte
abbrev pub AfterTake : Result (Option (List Token)) LexStop → ℕ → List ℕ → Scan → Type 0
AfterTake (Ok None) n text s = IsReady n text s
AfterTake (Ok (Some form)) n text s = IsForm n text form × IsReady (n + 1) text s
AfterTake (Err stop) n text s = AfterStop stop n text s

-- after all bytes up to the end of a form
abbrev pub AfterScan : Result (Option (List Token)) LexStop → ℕ → List ℕ → Scan → Type 0
AfterScan (Ok None) n text s = IsReady n text s × (s.at.index ≡ length text)
AfterScan (Ok (Some form)) n text s = IsForm n text form × IsReady (n + 1) text s
AfterScan (Err stop) n text s = AfterStop stop n text s
