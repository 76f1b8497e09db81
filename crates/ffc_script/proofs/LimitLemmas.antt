-- A text with a byte past the limit is at fault as a text.
use Rattle.std.proofs.Common.{◌≡◌, ℕ, zero, suc, ◌+◌, ◌-◌, ◌<◌, ◌≤◌, Bool, true, false, not, cond, List, [], ◌∷◌, ◌++◌, length, take, drop, Some, None, Option, eqb, ltb, ◌⊎◌, inl, inr, refl, sym, ap, ◌∙◌, subst, arith}
use Rattle.std.specs.List.{prefix_len}
use Rattle.std.proofs.lemmas.Bool.{ltb-true, ltb-false}
use Rattle.std.proofs.lemmas.List.{take-append-drop, take_all, length-take}
use Rattle.ffc_lex.specs.declared.byte_classes.ByteClass.{ByteClass}
use Rattle.ffc_lex.specs.declared.byte_classes.ByteClass.TheVariants as classes
use Rattle.ffc_lex.specs.declared.tokens.TokenKind.{TokenKind}
use Rattle.ffc_lex.specs.declared.tokens.TokenKind.TheVariants as kinds
use Rattle.ffc_lex.specs.declared.tokens.Place.{Place}
use Rattle.ffc_lex.specs.declared.tokens.Token.{Token as TokenRecord}
use Rattle.ffc_lex.specs.declared.faults.ScriptFault.{ScriptFault}
use Rattle.ffc_lex.specs.Limits.{max_bytes, max_depth}
use Rattle.ffc_lex.specs.Bytes.{byte_class, is_word_byte, is_line_end, is_quoted_byte}
use Rattle.ffc_lex.specs.Words.{word_kind, keyword_kind, hash_kind}
use Rattle.ffc_lex.specs.Lexeme.{Lexeme, Skip, Token, Bad, Unended, inside_at, outside_at, lexeme_at, size_of}
use Rattle.ffc_lex.specs.Reading.{Open, Reading, End, Stopped, Next, Halt, Move, Give, past, place_after, fault_at, halted, with_form, outside, origin, after_kind, after_left, after_right, after_token, after_lexeme, next_at, read, reading_of}
use Rattle.ffc_lex.proofs.LexemeLemmas.{at_inside, at_outside, string_size, word_size, comment_size, quoted_size}
use Rattle.ffc_lex.proofs.FitsLemmas.{word_class}
use Rattle.ffc_lex.proofs.ReadingLemmas.{read_on, read_form, read_end, next_past, next_within}
use Rattle.ffc_lex.proofs.GoesOnLemmas.{goes_on as text_goes_on}
use Rattle.ffc_smt.specs.CommandReading.{limits}
use Rattle.ffc_smt.specs.Scripts.{reads}
use Rattle.ffc_smt.proofs.GoingOnLemmas.{stopped_goes}

-- A lexeme has a byte

first_word : (c : ℕ) (cs : List ℕ) → is_word_byte c ≡ true → 1 ≤ prefix_len is_word_byte (c ∷ cs)
first_word c cs h = rw h (omega arith)

inside_size : (class : ByteClass) (c : ℕ) (cs : List ℕ) → byte_class c ≡ class → 1 ≤ size_of (c ∷ cs) (inside_at class c cs)
unfolding size_of
inside_size classes.White c cs e = omega arith
inside_size classes.Semicolon c cs e = comment_size cs (c ∷ cs) 1 (omega arith) (omega arith)
inside_size classes.LeftParen c cs e = omega arith
inside_size classes.RightParen c cs e = omega arith
inside_size classes.Bar c cs e = quoted_size cs (c ∷ cs) 1 (omega arith) (omega arith)
inside_size classes.Quote c cs e = string_size 1 false cs (c ∷ cs) (omega arith)
inside_size classes.Colon c cs e = word_size keyword_kind 1 cs (c ∷ cs) 1 (omega arith) (omega arith)
inside_size classes.Hash c cs e = word_size hash_kind 1 cs (c ∷ cs) 1 (omega arith) (omega arith)
inside_size classes.Word c cs e = let first = first_word c cs (word_class c e) in word_size word_kind 0 (c ∷ cs) (c ∷ cs) 1 (omega arith) (omega arith)
inside_size classes.Other c cs e = omega arith

outside_size : (class : ByteClass) (c : ℕ) (cs : List ℕ) → 1 ≤ size_of (c ∷ cs) (outside_at class cs)
unfolding size_of
outside_size classes.White c cs = omega arith
outside_size classes.Semicolon c cs = comment_size cs (c ∷ cs) 1 (omega arith) (omega arith)
outside_size classes.LeftParen c cs = omega arith
outside_size classes.RightParen c cs = omega arith
outside_size classes.Bar c cs = omega arith
outside_size classes.Quote c cs = omega arith
outside_size classes.Colon c cs = omega arith
outside_size classes.Hash c cs = omega arith
outside_size classes.Word c cs = omega arith
outside_size classes.Other c cs = omega arith

lexeme_size : (depth c : ℕ) (cs : List ℕ) → 1 ≤ size_of (c ∷ cs) (lexeme_at depth (c ∷ cs))
lexeme_size zero c cs = rw (at_outside c cs (byte_class c) refl) (outside_size (byte_class c) c cs)
lexeme_size (suc depth) c cs = rw (at_inside (suc depth) c cs (byte_class c) (omega arith) refl) (inside_size (byte_class c) c cs refl)

-- One step within the limit

-- the step stops the text, or is one byte, or so many that they are within the limit
abbrev Goes : ℕ → Next → Type 0
Goes index (Halt end) = (f : ScriptFault) × (end ≡ Stopped f)
Goes index (Move n left) = index + 1 + (n - 1) ≤ max_bytes
Goes index (Give form) = index + 1 ≤ max_bytes

goes_cond : (b : Bool) (index : ℕ) (x y : Next) → Goes index x → Goes index y → Goes index (cond b x y)
goes_cond true index x y h g = h
goes_cond false index x y h g = g

kind_goes : (kind : TokenKind) (n : ℕ) (place : Place) (o : Open) → 1 ≤ n → place.index + n ≤ max_bytes → Goes place.index (after_kind kind n place o)
kind_goes kinds.LeftParen n place o p h =
    goes_cond (eqb o.depth max_depth) place.index (Halt (Stopped (fault_at 14 place))) _ (fault_at 14 place, refl) (omega arith)
kind_goes kinds.RightParen n place o p h =
    goes_cond (eqb o.depth 0) place.index (Halt (Stopped (fault_at 3 place))) _ (fault_at 3 place, refl)
    (goes_cond (eqb o.depth 1) place.index (Give _) _ (omega arith) (omega arith))
kind_goes kinds.Numeral n place o p h = omega arith
kind_goes kinds.Decimal n place o p h = omega arith
kind_goes kinds.Symbol n place o p h = omega arith
kind_goes kinds.Quoted n place o p h = omega arith
kind_goes kinds.Keyword n place o p h = omega arith
kind_goes kinds.Str n place o p h = omega arith
kind_goes kinds.FieldLiteral n place o p h = omega arith

lexeme_goes : (l : Lexeme) (bytes : List ℕ) (place : Place) (o : Open) → 1 ≤ size_of bytes l → place.index + size_of bytes l ≤ max_bytes → max_bytes < place.index + length bytes → Goes place.index (after_lexeme l bytes place o)
unfolding after_lexeme size_of
lexeme_goes (Skip n) bytes place o p h long = omega arith
lexeme_goes (Token kind n) bytes place o p h long = kind_goes kind n place o p h
lexeme_goes (Bad n size) bytes place o p h long = (fault_at 1 (place_after (take n bytes) place), refl)
lexeme_goes (Unended whole) bytes place o p h long = absurd (omega arith)

either : (b : Bool) → (b ≡ true) ⊎ (b ≡ false)
either true = inl refl
either false = inr refl

next_goes : (c : ℕ) (cs : List ℕ) (place : Place) (o : Open) → max_bytes < place.index + length (c ∷ cs) → Goes place.index (next_at (c ∷ cs) place o)
next_goes c cs place o long =
    let l = lexeme_at o.depth (c ∷ cs) in
    elim (either (ltb max_bytes (place.index + size_of (c ∷ cs) l))) [
      | inl t ↦
          let stop = next_past (c ∷ cs) place o (ltb-true max_bytes (place.index + size_of (c ∷ cs) l) t) in
          subst (Goes place.index) (sym stop) (fault_at 17 (place_after (take (max_bytes - place.index) (c ∷ cs)) place), refl)
      | inr t ↦
          let within = ltb-false max_bytes (place.index + size_of (c ∷ cs) l) t in
          subst (Goes place.index) (sym (next_within (c ∷ cs) place o l refl within)) (lexeme_goes l (c ∷ cs) place o (lexeme_size o.depth c cs) within long)
    ]

-- The reading stops

abbrev Stops : Reading → Type 0
Stops r = (f : ScriptFault) × (r.end ≡ Stopped f)

read_skip : (c : ℕ) (cs : List ℕ) (k : ℕ) (place : Place) (o : Open) → read (c ∷ cs) (suc k) place o ≡ read cs k (past c place) o
unfolding read
read_skip c cs k place o = refl

step_stops : (c : ℕ) (cs : List ℕ) (place : Place) (o : Open) (next : Next) → next_at (c ∷ cs) place o ≡ next → Goes place.index next
    → ((k : ℕ) (left : Open) → place.index + 1 + k ≤ max_bytes → Stops (read cs k (past c place) left)) → Stops (read (c ∷ cs) 0 place o)
step_stops c cs place o (Halt end) e goes on = subst Stops (sym (read_end c cs place o end e)) goes
step_stops c cs place o (Move n left) e goes on = subst Stops (sym (read_on c cs place o n left e)) (on (n - 1) left goes)
step_stops c cs place o (Give form) e goes on = subst Stops (sym (read_form c cs place o form e)) (on 0 (outside (past c place)) (omega arith))

read_stops : (bytes : List ℕ) (k : ℕ) (place : Place) (o : Open) → place.index + k ≤ max_bytes → max_bytes < place.index + length bytes → Stops (read bytes k place o)
read_stops [] k place o h long = absurd (omega arith)
read_stops (c ∷ cs) (suc k) place o h long = subst Stops (sym (read_skip c cs k place o)) (read_stops cs k (past c place) o (omega arith) (omega arith))
read_stops (c ∷ cs) zero place o h long =
    step_stops c cs place o (next_at (c ∷ cs) place o) refl (next_goes c cs place o long)
    (λ k left room. read_stops cs k (past c place) left room (omega arith))

long_stops : (text : List ℕ) → max_bytes < length text → Stops (reading_of text)
unfolding reading_of
long_stops text h = read_stops text 0 origin (outside origin) (omega arith) (omega arith)

pub long_text_cut : (text : List ℕ) → reads text ≡ reads (take 67108865 text)
long_text_cut text = elim (either (ltb max_bytes (length (take 67108865 text)))) [
  | inl t ↦
      let front = take 67108865 text in
      let stops = long_stops front (ltb-true max_bytes (length front) t) in
      ap reads (sym (take-append-drop 67108865 text)) ∙ stopped_goes limits text_goes_on front (drop 67108865 text) stops.0 stops.1
  | inr t ↦
      let short = ltb-false max_bytes (length (take 67108865 text)) t in
      ap reads (sym (take_all 67108865 text (omega (arith, length-take 67108865 text))))
]
