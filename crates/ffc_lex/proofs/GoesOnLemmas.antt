-- How a reading goes on where its text does.
use Rattle.std.proofs.Common.{◌≡◌, ℕ, ◌+◌, ◌-◌, ◌<◌, ◌≤◌, zero, suc, Bool, true, false, not, cond, List, [], ◌∷◌, ◌++◌, length, take, get_or, refl, sym, ap, ◌∙◌, arith, Option, Some, None, eqb, ltb, ◌⊎◌, inl, inr}
use Rattle.std.specs.List.{prefix_len}
use Rattle.std.specs.Option.{is_some}
use Rattle.std.proofs.lemmas.Bool.{lt-ltb, ltb-true, ltb-false}
use Rattle.std.proofs.lemmas.List.{length-append, take-append-le}
use Rattle.std.proofs.lemmas.List.Folds.{prefix_len-append}
use Rattle.std.proofs.lemmas.List.Sums.{prefix_len-le-length}
use Rattle.std.proofs.Math.ListN.{get_or-append}
use Rattle.ffc_lex.specs.declared.byte_classes.ByteClass.{ByteClass}
use Rattle.ffc_lex.specs.declared.byte_classes.ByteClass.TheVariants as classes
use Rattle.ffc_lex.specs.declared.tokens.TokenKind.{TokenKind}
use Rattle.ffc_lex.specs.declared.tokens.TokenKind.TheVariants as kinds
use Rattle.ffc_lex.specs.declared.tokens.Place.{Place}
use Rattle.ffc_lex.specs.declared.tokens.Token.{Token as TokenRecord}
use Rattle.ffc_lex.specs.declared.faults.ScriptFault.{ScriptFault}
use Rattle.ffc_lex.specs.Limits.{max_bytes}
use Rattle.ffc_lex.specs.Bytes.{byte_class, is_word_byte, is_line_end, is_text_byte, is_quoted_byte}
use Rattle.ffc_lex.specs.Words.{word_kind, keyword_kind, hash_kind}
use Rattle.ffc_lex.specs.Lexeme.{Lexeme, Skip, Token, Bad, Unended, judged, word_at, comment_at, quoted_at, string_at, inside_at, outside_at, lexeme_at, size_of}
use Rattle.ffc_lex.specs.Reading.{Open, Reading, Between, Within, Stopped, Next, Halt, Move, Give, past, place_after, fault_at, halted, with_form, outside, origin, unended, after_lexeme, next_at, read, reading_of}
use Rattle.ffc_lex.specs.GoingOn.{IsFront}
use Rattle.ffc_lex.proofs.ReadingLemmas.{read_on, read_form, read_end, next_past, next_within, next_unended}
use Rattle.ffc_lex.proofs.LexemeLemmas.{prefix_least, at_inside, at_outside, string_mark, string_text, string_bad, string_pair, string_ends, string_cut, string_size, word_size, comment_size, quoted_size}
use Rattle.ffc_lex.proofs.BetweenLemmas.{other_test}

-- a lexeme that more bytes don't change
abbrev IsDecided : ℕ → Lexeme → Type 0
IsDecided count (Skip n) = n ≤ count
IsDecided count (Token kind n) = n ≤ count
IsDecided count (Bad n size) = (n ≤ count) × (size ≤ count)
IsDecided count (Unended whole) = ⊥

-- with more bytes it is the same, or it has all of those that have come
Goes : List ℕ → List ℕ → Lexeme → Lexeme → Type 0
Goes bytes more now later = ((later ≡ now) × IsDecided (length bytes) now) ⊎ ((whole : Bool) × (now ≡ Unended whole) × (length bytes ≤ size_of (bytes ++ more) later))

either : (b : Bool) → (b ≡ true) ⊎ (b ≡ false)
either true = inl refl
either false = inr refl

prefix_kept : (p : ℕ → Bool) (xs ys : List ℕ) → prefix_len p xs < length xs → prefix_len p (xs ++ ys) ≡ prefix_len p xs
prefix_kept p xs ys lt =
    let other : eqb (prefix_len p xs) (length xs) ≡ false = other_test (prefix_len p xs) (length xs) (λ e. absurd (omega arith)) in
    prefix_len-append p xs ys ∙ rw other refl

decided_judged : (count n : ℕ) (kind : Option TokenKind) → n ≤ count → IsDecided count (judged kind n)
decided_judged count n None h = (omega arith, h)
decided_judged count n (Some kind) h = h

word_goes : (kind : List ℕ → Option TokenKind) (before : ℕ) (word more bytes : List ℕ) → length bytes ≡ before + length word → Goes bytes more (word_at kind before word) (word_at kind before (word ++ more))
unfolding Goes word_at
word_goes kind before word more bytes len =
    let n : ℕ = prefix_len is_word_byte word in
    let le : n ≤ length word = prefix_len-le-length is_word_byte word in
    elim (either (ltb n (length word))) [
      | inl t ↦
          let lt : n < length word = ltb-true n (length word) t in
          let on : ltb n (length (word ++ more)) ≡ true = lt-ltb n (length (word ++ more)) (omega (arith, length-append word more)) in
          rw (prefix_kept is_word_byte word more lt, t, on, take-append-le n word more le)
          (inl (refl, decided_judged (length bytes) (before + n) (kind (take n word)) (omega arith)))
      | inr t ↦
          let ge : length word ≤ n = ltb-false n (length word) t in
          let all : n ≡ length word = omega arith in
          let least : length word ≤ prefix_len is_word_byte (word ++ more) = prefix_least is_word_byte word more all in
          rw t (inr (is_some (kind word), refl, word_size kind before (word ++ more) (bytes ++ more) (length bytes) (omega arith) (omega (arith, length-append bytes more))))
    ]

comment_goes : (body more bytes : List ℕ) → length bytes ≡ 1 + length body → Goes bytes more (comment_at body) (comment_at (body ++ more))
unfolding Goes comment_at
comment_goes body more bytes len =
    let n : ℕ = prefix_len (λ d. not (is_line_end d)) body in
    let le : n ≤ length body = prefix_len-le-length (λ d. not (is_line_end d)) body in
    elim (either (ltb n (length body))) [
      | inl t ↦
          let lt : n < length body = ltb-true n (length body) t in
          let on : ltb n (length (body ++ more)) ≡ true = lt-ltb n (length (body ++ more)) (omega (arith, length-append body more)) in
          rw (prefix_kept (λ d. not (is_line_end d)) body more lt, t, on) (inl (refl, omega arith))
      | inr t ↦
          let ge : length body ≤ n = ltb-false n (length body) t in
          let all : n ≡ length body = omega arith in
          let least : length body ≤ prefix_len (λ d. not (is_line_end d)) (body ++ more) = prefix_least (λ d. not (is_line_end d)) body more all in
          rw t (inr (true, refl, comment_size (body ++ more) (bytes ++ more) (length bytes) (omega arith) (omega (arith, length-append bytes more))))
    ]

decided_closed : (b : Bool) (count n : ℕ) → n + 2 ≤ count → IsDecided count (cond b (Token kinds.Quoted (n + 2)) (Bad (n + 1) (n + 2)))
decided_closed true count n h = h
decided_closed false count n h = (omega arith, h)

quoted_goes : (body more bytes : List ℕ) → length bytes ≡ 1 + length body → Goes bytes more (quoted_at body) (quoted_at (body ++ more))
unfolding Goes quoted_at
quoted_goes body more bytes len =
    let n : ℕ = prefix_len is_quoted_byte body in
    let le : n ≤ length body = prefix_len-le-length is_quoted_byte body in
    elim (either (ltb n (length body))) [
      | inl t ↦
          let lt : n < length body = ltb-true n (length body) t in
          let on : ltb n (length (body ++ more)) ≡ true = lt-ltb n (length (body ++ more)) (omega (arith, length-append body more)) in
          rw (prefix_kept is_quoted_byte body more lt, t, on, get_or-append body more 0 n lt) (inl (refl, decided_closed (eqb (get_or body n 0) 124) (length bytes) n (omega arith)))
      | inr t ↦
          let ge : length body ≤ n = ltb-false n (length body) t in
          let all : n ≡ length body = omega arith in
          let least : length body ≤ prefix_len is_quoted_byte (body ++ more) = prefix_least is_quoted_byte body more all in
          rw t (inr (true, refl, quoted_size (body ++ more) (bytes ++ more) (length bytes) (omega arith) (omega (arith, length-append bytes more))))
    ]

string_goes : (n : ℕ) (mark : Bool) (cs more bytes : List ℕ) → length bytes ≡ n + length cs → Goes bytes more (string_at n mark cs) (string_at n mark (cs ++ more))
unfolding Goes
string_goes n mark [] more bytes len =
    inr (true, string_cut n mark, omega (arith, len, string_size n mark more (bytes ++ more) (omega (arith, length-append bytes more))))
string_goes n false (c ∷ cs) more bytes len = elim (either (eqb c 34)) [
  | inl e ↦ rw (string_mark n c cs e, string_mark n c (cs ++ more) e) (string_goes (n + 1) true cs more bytes (omega arith))
  | inr e ↦ elim (either (is_text_byte c)) [
    | inl t ↦ rw (string_text n c cs e t, string_text n c (cs ++ more) e t) (string_goes (n + 1) false cs more bytes (omega arith))
    | inr t ↦ rw (string_bad n c cs e t, string_bad n c (cs ++ more) e t) (inl (refl, (omega arith, omega arith)))
  ]
]
string_goes n true (c ∷ cs) more bytes len = elim (either (eqb c 34)) [
  | inl e ↦ rw (string_pair n c cs e, string_pair n c (cs ++ more) e) (string_goes (n + 1) false cs more bytes (omega arith))
  | inr e ↦ rw (string_ends n c cs e, string_ends n c (cs ++ more) e) (inl (refl, omega arith))
]

inside_goes : (class : ByteClass) (c : ℕ) (cs more : List ℕ) → Goes (c ∷ cs) more (inside_at class c cs) (inside_at class c (cs ++ more))
unfolding Goes
inside_goes classes.White c cs more = inl (refl, omega arith)
inside_goes classes.Semicolon c cs more = comment_goes cs more (c ∷ cs) (omega arith)
inside_goes classes.LeftParen c cs more = inl (refl, omega arith)
inside_goes classes.RightParen c cs more = inl (refl, omega arith)
inside_goes classes.Bar c cs more = quoted_goes cs more (c ∷ cs) (omega arith)
inside_goes classes.Quote c cs more = string_goes 1 false cs more (c ∷ cs) (omega arith)
inside_goes classes.Colon c cs more = word_goes keyword_kind 1 cs more (c ∷ cs) (omega arith)
inside_goes classes.Hash c cs more = word_goes hash_kind 1 cs more (c ∷ cs) (omega arith)
inside_goes classes.Word c cs more = word_goes word_kind 0 (c ∷ cs) more (c ∷ cs) (omega arith)
inside_goes classes.Other c cs more = inl (refl, (omega arith, omega arith))

outside_goes : (class : ByteClass) (c : ℕ) (cs more : List ℕ) → Goes (c ∷ cs) more (outside_at class cs) (outside_at class (cs ++ more))
unfolding Goes
outside_goes classes.White c cs more = inl (refl, omega arith)
outside_goes classes.Semicolon c cs more = comment_goes cs more (c ∷ cs) (omega arith)
outside_goes classes.LeftParen c cs more = inl (refl, omega arith)
outside_goes classes.RightParen c cs more = inl (refl, omega arith)
outside_goes classes.Bar c cs more = inl (refl, (omega arith, omega arith))
outside_goes classes.Quote c cs more = inl (refl, (omega arith, omega arith))
outside_goes classes.Colon c cs more = inl (refl, (omega arith, omega arith))
outside_goes classes.Hash c cs more = inl (refl, (omega arith, omega arith))
outside_goes classes.Word c cs more = inl (refl, (omega arith, omega arith))
outside_goes classes.Other c cs more = inl (refl, (omega arith, omega arith))

lexeme_goes : (depth c : ℕ) (cs more : List ℕ) → Goes (c ∷ cs) more (lexeme_at depth (c ∷ cs)) (lexeme_at depth (c ∷ (cs ++ more)))
lexeme_goes zero c cs more = rw (at_outside c cs (byte_class c) refl, at_outside c (cs ++ more) (byte_class c) refl) (outside_goes (byte_class c) c cs more)
lexeme_goes (suc depth) c cs more =
    rw (at_inside (suc depth) c cs (byte_class c) (omega arith) refl, at_inside (suc depth) c (cs ++ more) (byte_class c) (omega arith) refl) (inside_goes (byte_class c) c cs more)

decided_size : (count : ℕ) (bytes : List ℕ) (l : Lexeme) → IsDecided count l → size_of bytes l ≤ count
unfolding size_of
decided_size count bytes (Skip n) d = d
decided_size count bytes (Token kind n) d = d
decided_size count bytes (Bad n size) d = d.1
decided_size count bytes (Unended whole) d = absurd d

same_size : (count : ℕ) (xs ys : List ℕ) (l : Lexeme) → IsDecided count l → size_of xs l ≡ size_of ys l
unfolding size_of
same_size count xs ys (Skip n) d = refl
same_size count xs ys (Token kind n) d = refl
same_size count xs ys (Bad n size) d = refl
same_size count xs ys (Unended whole) d = absurd d

same_after : (bytes more : List ℕ) (l : Lexeme) (place : Place) (o : Open) → IsDecided (length bytes) l → after_lexeme l (bytes ++ more) place o ≡ after_lexeme l bytes place o
unfolding after_lexeme
same_after bytes more (Skip n) place o d = refl
same_after bytes more (Token kind n) place o d = refl
same_after bytes more (Bad n size) place o d = ap (λ xs. Halt (Stopped (fault_at 1 (place_after xs place)))) (take-append-le n bytes more d.0)
same_after bytes more (Unended whole) place o d = absurd d

unended_size : (bytes : List ℕ) (whole : Bool) → size_of bytes (Unended whole) ≡ length bytes
unfolding size_of
unended_size bytes whole = refl

past_limit : (bytes more : List ℕ) (place : Place) (o : Open) → max_bytes < place.index + size_of bytes (lexeme_at o.depth bytes) → max_bytes < place.index + size_of (bytes ++ more) (lexeme_at o.depth (bytes ++ more))
    → max_bytes - place.index ≤ length bytes → next_at (bytes ++ more) place o ≡ next_at bytes place o
past_limit bytes more place o now later h =
    next_past (bytes ++ more) place o later
    ∙ (ap (λ xs. Halt (Stopped (fault_at 17 (place_after xs place)))) (take-append-le (max_bytes - place.index) bytes more h) ∙ sym (next_past bytes place o now))

next_goes : (bytes more : List ℕ) (place : Place) (o : Open) → Goes bytes more (lexeme_at o.depth bytes) (lexeme_at o.depth (bytes ++ more))
    → (next_at (bytes ++ more) place o ≡ next_at bytes place o) ⊎ ((whole : Bool) × (next_at bytes place o ≡ Halt (unended whole place o)))
unfolding Goes
next_goes bytes more place o (inl kept) =
    let now : Lexeme = lexeme_at o.depth bytes in
    let count : size_of bytes now ≤ length bytes = decided_size (length bytes) bytes now kept.1 in
    let later : size_of (bytes ++ more) (lexeme_at o.depth (bytes ++ more)) ≡ size_of bytes now =
    ap (λ l. size_of (bytes ++ more) l) kept.0 ∙ same_size (length bytes) (bytes ++ more) bytes now kept.1 in
    elim (either (ltb max_bytes (place.index + size_of bytes now))) [
      | inl t ↦
          let past : max_bytes < place.index + size_of bytes now = ltb-true max_bytes (place.index + size_of bytes now) t in
          inl (past_limit bytes more place o past (omega (arith, past, later)) (omega (arith, past, count)))
      | inr t ↦
          let within : place.index + size_of bytes now ≤ max_bytes = ltb-false max_bytes (place.index + size_of bytes now) t in
          inl (next_within (bytes ++ more) place o now kept.0 (omega (arith, within, same_size (length bytes) (bytes ++ more) bytes now kept.1))
          ∙ (same_after bytes more now place o kept.1 ∙ sym (next_within bytes place o now refl within)))
    ]
next_goes bytes more place o (inr left) =
    let size : size_of bytes (lexeme_at o.depth bytes) ≡ length bytes = ap (λ l. size_of bytes l) left.1 ∙ unended_size bytes left.0 in
    elim (either (ltb max_bytes (place.index + length bytes))) [
      | inl t ↦
          let past : max_bytes < place.index + length bytes = ltb-true max_bytes (place.index + length bytes) t in
          inl (past_limit bytes more place o (omega (arith, past, size)) (omega (arith, past, left.2)) (omega (arith, past)))
      | inr t ↦ inr (left.0, next_unended bytes place o left.0 left.1 (ltb-false max_bytes (place.index + length bytes) t))
    ]

nil_right : {A : Type 0} (xs : List A) → xs ++ [] ≡ xs
nil_right [] = refl
nil_right (x ∷ xs) = ap (λ ys. x ∷ ys) (nil_right xs)

front_same : (r : Reading) → IsFront r r
front_same r = record { rest = []; forms = sym (nil_right r.forms); fault = λ f e. refl }

not_stopped : (b : Bool) (within f : ScriptFault) → cond b Between (Within within) ≡ Stopped f → ⊥
not_stopped true within f e = cc
not_stopped false within f e = cc

front_open : (whole : Bool) (place : Place) (o : Open) (r : Reading) → IsFront (halted (unended whole place o)) r
front_open whole place o r = record {
  rest = r.forms;
  forms = refl;
  fault = λ f e. absurd (not_stopped (eqb o.depth 0) (cond whole (fault_at 2 o.first) (fault_at 1 place)) f e);
}

front_form : (form : List TokenRecord) (a b : Reading) → IsFront a b → IsFront (with_form form a) (with_form form b)
front_form form a b f = record {
  rest = f.rest;
  forms = ap (λ forms. form ∷ forms) f.forms;
  fault = λ fault e. ap (λ r. with_form form r) (f.fault fault e);
}

front_step : (c : ℕ) (cs more : List ℕ) (place : Place) (o : Open) (next : Next) → next_at (c ∷ cs) place o ≡ next → next_at (c ∷ (cs ++ more)) place o ≡ next
    → ((k : ℕ) (p : Place) (left : Open) → IsFront (read cs k p left) (read (cs ++ more) k p left))
    → IsFront (read (c ∷ cs) 0 place o) (read (c ∷ (cs ++ more)) 0 place o)
front_step c cs more place o (Halt end) now later on = rw (read_end c cs place o end now, read_end c (cs ++ more) place o end later) (front_same (halted end))
front_step c cs more place o (Move n left) now later on = rw (read_on c cs place o n left now, read_on c (cs ++ more) place o n left later) (on (n - 1) (past c place) left)
front_step c cs more place o (Give form) now later on =
    rw (read_form c cs place o form now, read_form c (cs ++ more) place o form later)
    (front_form form (read cs 0 (past c place) (outside (past c place))) (read (cs ++ more) 0 (past c place) (outside (past c place))) (on 0 (past c place) (outside (past c place))))

read_none : (k : ℕ) (place : Place) (o : Open) → read [] k place o ≡ halted (unended true place o)
unfolding read
read_none k place o = refl

read_skip : (c : ℕ) (cs : List ℕ) (k : ℕ) (place : Place) (o : Open) → read (c ∷ cs) (suc k) place o ≡ read cs k (past c place) o
unfolding read
read_skip c cs k place o = refl

read_goes : (text more : List ℕ) (k : ℕ) (place : Place) (o : Open) → IsFront (read text k place o) (read (text ++ more) k place o)
read_goes [] more k place o = rw (read_none k place o) (front_open true place o (read more k place o))
read_goes (c ∷ cs) more (suc k) place o = rw (read_skip c cs k place o, read_skip c (cs ++ more) k place o) (read_goes cs more k (past c place) o)
read_goes (c ∷ cs) more zero place o = elim (next_goes (c ∷ cs) more place o (lexeme_goes o.depth c cs more)) [
  | inl same ↦ front_step c cs more place o (next_at (c ∷ cs) place o) refl same (λ k p left. read_goes cs more k p left)
  | inr left ↦ rw (read_end c cs place o (unended left.0 place o) left.1) (front_open left.0 place o (read (c ∷ (cs ++ more)) 0 place o))
]

pub goes_on : (text more : List ℕ) → IsFront (reading_of text) (reading_of (text ++ more))
unfolding reading_of
goes_on text more = read_goes text more 0 origin (outside origin)
