-- What the bytes that were looked at are, with one byte more, before one, or at the end of the text.
use Rattle.std.proofs.Common.{◌≡◌, ℕ, ◌+◌, ◌<◌, ◌≤◌, zero, suc, Bool, true, false, not, cond, List, [], ◌∷◌, ◌++◌, length, drop, refl, sym, ap, ◌∙◌, arith, append_assoc, eqb, ◌⊎◌, inl, inr}
use Rattle.std.specs.List.{prefix_len}
use Rattle.std.specs.Option.{is_some}
use Rattle.std.proofs.lemmas.List.{length-append}
use Rattle.ffc_lex.specs.declared.byte_classes.ByteClass.{ByteClass}
use Rattle.ffc_lex.specs.declared.byte_classes.ByteClass.TheVariants as classes
use Rattle.ffc_lex.specs.declared.tokens.TokenKind.TheVariants as kinds
use Rattle.ffc_lex.specs.declared.modes.Mode.{Mode}
use Rattle.ffc_lex.specs.declared.modes.Mode.TheVariants as modes
use Rattle.ffc_lex.specs.Bytes.{byte_class, is_word_byte, is_line_end, is_text_byte, is_quoted_byte, is_white}
use Rattle.ffc_lex.specs.Words.{word_kind, keyword_kind, hash_kind}
use Rattle.ffc_lex.specs.Lexeme.{Skip, Token, Bad, Unended, judged, word_at, comment_at, closed, quoted_at, string_at, inside_at, outside_at, lexeme_at, size_of}
use Rattle.ffc_lex.specs.Scan.{IsLed, IsComment, IsWord, IsString, Fits, Begins, is_ended_by, kind_in}
use Rattle.ffc_lex.proofs.LexemeLemmas.{prefix_on, prefix_least, prefix_more, at_inside, at_outside, at_comment, comment_ends, word_ends, word_cut, quoted_ends, quoted_cut, comment_cut, string_mark, string_text, string_bad, string_pair, string_ends, string_cut, string_size, word_size, comment_size, quoted_size}

not_true : (b : Bool) → not b ≡ true → b ≡ false
not_true true e = absurd (cc)
not_true false e = refl

not_false : (b : Bool) → not b ≡ false → b ≡ true
not_false true e = refl
not_false false e = absurd (cc)

bool_cases : (b : Bool) → (b ≡ true) ⊎ (b ≡ false)
bool_cases true = inl refl
bool_cases false = inr refl

-- each case of an if-chain but the one before the last is another class
chain : (b1 b2 b3 b4 b5 b6 b7 b8 b9 : Bool)
    → cond b1 classes.White (cond b2 classes.Semicolon (cond b3 classes.LeftParen (cond b4 classes.RightParen (cond b5 classes.Bar (cond b6 classes.Quote (cond b7 classes.Colon (cond b8 classes.Hash (cond b9 classes.Word classes.Other)))))))) ≡ classes.Word
    → b9 ≡ true
chain true b2 b3 b4 b5 b6 b7 b8 b9 e = absurd (cc)
chain false true b3 b4 b5 b6 b7 b8 b9 e = absurd (cc)
chain false false true b4 b5 b6 b7 b8 b9 e = absurd (cc)
chain false false false true b5 b6 b7 b8 b9 e = absurd (cc)
chain false false false false true b6 b7 b8 b9 e = absurd (cc)
chain false false false false false true b7 b8 b9 e = absurd (cc)
chain false false false false false false true b8 b9 e = absurd (cc)
chain false false false false false false false true b9 e = absurd (cc)
chain false false false false false false false false true e = refl
chain false false false false false false false false false e = absurd (cc)

pub word_class : (c : ℕ) → byte_class c ≡ classes.Word → is_word_byte c ≡ true
unfolding byte_class
word_class c e = chain (is_white c) (eqb c 59) (eqb c 40) (eqb c 41) (eqb c 124) (eqb c 34) (eqb c 58) (eqb c 35) (is_word_byte c) e

-- one byte more

pub comment_on : (xs : List ℕ) (c : ℕ) → IsComment xs → is_line_end c ≡ false → IsComment (xs ++ c ∷ [])
comment_on xs c f e = record {
  head = f.head;
  body = f.body ++ c ∷ [];
  split = ap (λ ys. ys ++ c ∷ []) f.split;
  led = f.led;
  passed = prefix_on (λ d. not (is_line_end d)) f.body c f.passed (ap not e);
}

pub led_on : (class : ByteClass) (p : ℕ → Bool) (depth : ℕ) (xs : List ℕ) (c : ℕ) → IsLed class p depth xs → p c ≡ true → IsLed class p depth (xs ++ c ∷ [])
led_on class p depth xs c f e = record {
  head = f.head;
  body = f.body ++ c ∷ [];
  split = ap (λ ys. ys ++ c ∷ []) f.split;
  led = f.led;
  passed = prefix_on p f.body c f.passed e;
  inside = f.inside;
}

pub word_on : (depth : ℕ) (xs : List ℕ) (c : ℕ) → IsWord depth xs → is_word_byte c ≡ true → IsWord depth (xs ++ c ∷ [])
word_on depth xs c f e = record {
  head = f.head;
  body = f.body ++ c ∷ [];
  split = ap (λ ys. ys ++ c ∷ []) f.split;
  led = f.led;
  passed = prefix_on is_word_byte xs c f.passed e;
  inside = f.inside;
}

-- one byte more of a string
string_on : (mark after : Bool) (depth : ℕ) (xs : List ℕ) (c : ℕ) → IsString mark depth xs
    → ((n : ℕ) (cs : List ℕ) → string_at n mark (c ∷ cs) ≡ string_at (n + 1) after cs) → IsString after depth (xs ++ c ∷ [])
string_on mark after depth xs c f step = record {
  head = f.head;
  body = f.body ++ c ∷ [];
  split = ap (λ ys. ys ++ c ∷ []) f.split;
  led = f.led;
  goes_on = λ more.
      let n : 1 + length f.body + 1 ≡ 1 + length (f.body ++ c ∷ []) = omega (arith, length-append f.body (c ∷ [])) in
      ap (λ ys. string_at 1 false ys) (append_assoc f.body (c ∷ []) more) ∙ (f.goes_on (c ∷ more) ∙ (step (1 + length f.body) more ∙ ap (λ k. string_at k after more) n));
  inside = f.inside;
}

pub string_marked : (depth : ℕ) (xs : List ℕ) (c : ℕ) → IsString false depth xs → eqb c 34 ≡ true → IsString true depth (xs ++ c ∷ [])
string_marked depth xs c f e = string_on false true depth xs c f (λ n cs. string_mark n c cs e)

pub string_texted : (depth : ℕ) (xs : List ℕ) (c : ℕ) → IsString false depth xs → eqb c 34 ≡ false → is_text_byte c ≡ true → IsString false depth (xs ++ c ∷ [])
string_texted depth xs c f e t = string_on false false depth xs c f (λ n cs. string_text n c cs e t)

pub string_paired : (depth : ℕ) (xs : List ℕ) (c : ℕ) → IsString true depth xs → eqb c 34 ≡ true → IsString false depth (xs ++ c ∷ [])
string_paired depth xs c f e = string_on true false depth xs c f (λ n cs. string_pair n c cs e)

-- the lexeme after the byte that leads it

led_at : (class : ByteClass) (p : ℕ → Bool) (depth : ℕ) (xs ys : List ℕ) → (f : IsLed class p depth xs) → lexeme_at depth (xs ++ ys) ≡ inside_at class f.head (f.body ++ ys)
led_at class p depth xs ys f = ap (λ zs. lexeme_at depth (zs ++ ys)) f.split ∙ at_inside depth f.head (f.body ++ ys) class f.inside f.led

comment_led : (depth : ℕ) (xs ys : List ℕ) → (f : IsComment xs) → lexeme_at depth (xs ++ ys) ≡ comment_at (f.body ++ ys)
comment_led depth xs ys f = ap (λ zs. lexeme_at depth (zs ++ ys)) f.split ∙ at_comment depth f.head (f.body ++ ys) f.led

word_led : (depth : ℕ) (xs ys : List ℕ) → (f : IsWord depth xs) → lexeme_at depth (xs ++ ys) ≡ word_at word_kind 0 (xs ++ ys)
word_led depth xs ys f =
    ap (λ zs. lexeme_at depth (zs ++ ys)) f.split ∙ (at_inside depth f.head (f.body ++ ys) classes.Word f.inside f.led ∙ ap (λ zs. word_at word_kind 0 (zs ++ ys)) (sym f.split))

string_led : (mark : Bool) (depth : ℕ) (xs ys : List ℕ) → (f : IsString mark depth xs) → lexeme_at depth (xs ++ ys) ≡ string_at (1 + length f.body) mark ys
string_led mark depth xs ys f =
    ap (λ zs. lexeme_at depth (zs ++ ys)) f.split ∙ (at_inside depth f.head (f.body ++ ys) classes.Quote f.inside f.led ∙ f.goes_on ys)

-- what ends with a byte

pub comment_through : (depth : ℕ) (xs : List ℕ) (c : ℕ) (cs : List ℕ) → IsComment xs → is_line_end c ≡ true → lexeme_at depth (xs ++ c ∷ cs) ≡ Skip (length xs + 1)
comment_through depth xs c cs f e =
    let n : length f.body + 2 ≡ length xs + 1 = omega (arith, ap length f.split) in
    comment_led depth xs (c ∷ cs) f ∙ (comment_ends f.body c cs f.passed e ∙ ap (λ k. Skip k) n)

quoted_closed : (depth : ℕ) (xs : List ℕ) (c : ℕ) (cs : List ℕ) (f : IsLed classes.Bar is_quoted_byte depth xs) → is_quoted_byte c ≡ false
    → lexeme_at depth (xs ++ c ∷ cs) ≡ closed c (length f.body)
quoted_closed depth xs c cs f e = led_at classes.Bar is_quoted_byte depth xs (c ∷ cs) f ∙ quoted_ends f.body c cs f.passed e

bar_not_quoted : (c : ℕ) → eqb c 124 ≡ true → is_quoted_byte c ≡ false
unfolding is_quoted_byte
bar_not_quoted c e = rw e refl

pub quoted_through : (depth : ℕ) (xs : List ℕ) (c : ℕ) (cs : List ℕ) → IsLed classes.Bar is_quoted_byte depth xs → eqb c 124 ≡ true
    → lexeme_at depth (xs ++ c ∷ cs) ≡ Token kinds.Quoted (length xs + 1)
quoted_through depth xs c cs f e =
    let n : length f.body + 2 ≡ length xs + 1 = omega (arith, ap length f.split) in
    quoted_closed depth xs c cs f (bar_not_quoted c e) ∙ rw e (ap (λ k. Token kinds.Quoted k) n)

pub quoted_bad : (depth : ℕ) (xs : List ℕ) (c : ℕ) (cs : List ℕ) → IsLed classes.Bar is_quoted_byte depth xs → eqb c 124 ≡ false → is_quoted_byte c ≡ false
    → lexeme_at depth (xs ++ c ∷ cs) ≡ Bad (length xs) (length xs + 1)
quoted_bad depth xs c cs f e q =
    let m : length f.body + 1 ≡ length xs = omega (arith, ap length f.split) in
    let n : length f.body + 2 ≡ length xs + 1 = omega (arith, ap length f.split) in
    quoted_closed depth xs c cs f q ∙ rw e (ap (λ k. Bad k (length f.body + 2)) m ∙ ap (λ k. Bad (length xs) k) n)

pub string_wrong : (depth : ℕ) (xs : List ℕ) (c : ℕ) (cs : List ℕ) → IsString false depth xs → eqb c 34 ≡ false → is_text_byte c ≡ false
    → lexeme_at depth (xs ++ c ∷ cs) ≡ Bad (length xs) (length xs + 1)
string_wrong depth xs c cs f e t =
    let m : 1 + length f.body ≡ length xs = omega (arith, ap length f.split) in
    string_led false depth xs (c ∷ cs) f ∙ (string_bad (1 + length f.body) c cs e t ∙ ap (λ k. Bad k (k + 1)) m)

-- what ends before a byte
pub ended : (mode : Mode) (depth : ℕ) (xs : List ℕ) (c : ℕ) (cs : List ℕ) → Fits mode depth xs → is_ended_by mode c ≡ true
    → lexeme_at depth (xs ++ c ∷ cs) ≡ judged (kind_in mode xs) (length xs)
ended modes.Between depth xs c cs f e = absurd (cc)
ended modes.Comment depth xs c cs f e = absurd (cc)
ended modes.Quoted depth xs c cs f e = absurd (cc)
ended modes.Str depth xs c cs f e = absurd (cc)
ended modes.Word depth xs c cs f e =
    let n : 0 + length xs ≡ length xs = omega arith in
    word_led depth xs (c ∷ cs) f ∙ (word_ends word_kind 0 xs c cs f.passed (not_true (is_word_byte c) e) ∙ ap (λ k. judged (word_kind xs) k) n)
ended modes.Keyword depth xs c cs f e =
    let n : 1 + length f.body ≡ length xs = omega (arith, ap length f.split) in
    led_at classes.Colon is_word_byte depth xs (c ∷ cs) f ∙ (word_ends keyword_kind 1 f.body c cs f.passed (not_true (is_word_byte c) e)
    ∙ (ap (λ k. judged (keyword_kind f.body) k) n ∙ ap (λ ys. judged (keyword_kind ys) (length xs)) (sym (ap (λ ys. drop 1 ys) f.split))))
ended modes.FieldLiteral depth xs c cs f e =
    let n : 1 + length f.body ≡ length xs = omega (arith, ap length f.split) in
    led_at classes.Hash is_word_byte depth xs (c ∷ cs) f ∙ (word_ends hash_kind 1 f.body c cs f.passed (not_true (is_word_byte c) e)
    ∙ (ap (λ k. judged (hash_kind f.body) k) n ∙ ap (λ ys. judged (hash_kind ys) (length xs)) (sym (ap (λ ys. drop 1 ys) f.split))))
ended modes.StrMark depth xs c cs f e =
    let n : 1 + length f.body ≡ length xs = omega (arith, ap length f.split) in
    string_led true depth xs (c ∷ cs) f ∙ (string_ends (1 + length f.body) c cs (not_true (eqb c 34) e) ∙ ap (λ k. Token kinds.Str k) n)

pub append_nil : (xs : List ℕ) → xs ++ [] ≡ xs
append_nil [] = refl
append_nil (x ∷ xs) = ap (λ ys. x ∷ ys) (append_nil xs)

pub nothing : (depth : ℕ) → lexeme_at depth [] ≡ Unended true
unfolding lexeme_at
nothing depth = refl

cut_before_nothing : (mode : Mode) (depth : ℕ) (xs : List ℕ) → Fits mode depth xs → lexeme_at depth (xs ++ []) ≡ Unended (is_some (kind_in mode xs))
cut_before_nothing modes.Between depth xs f = ap (λ ys. lexeme_at depth (ys ++ [])) f ∙ nothing depth
cut_before_nothing modes.Comment depth xs f = comment_led depth xs [] f ∙ (ap (λ ys. comment_at ys) (append_nil f.body) ∙ comment_cut f.body f.passed)
cut_before_nothing modes.Word depth xs f = word_led depth xs [] f ∙ (ap (λ ys. word_at word_kind 0 ys) (append_nil xs) ∙ word_cut word_kind 0 xs f.passed)
cut_before_nothing modes.Keyword depth xs f =
    led_at classes.Colon is_word_byte depth xs [] f ∙ (ap (λ ys. word_at keyword_kind 1 ys) (append_nil f.body) ∙ (word_cut keyword_kind 1 f.body f.passed
    ∙ ap (λ ys. Unended (is_some (keyword_kind ys))) (sym (ap (λ ys. drop 1 ys) f.split))))
cut_before_nothing modes.FieldLiteral depth xs f =
    led_at classes.Hash is_word_byte depth xs [] f ∙ (ap (λ ys. word_at hash_kind 1 ys) (append_nil f.body) ∙ (word_cut hash_kind 1 f.body f.passed
    ∙ ap (λ ys. Unended (is_some (hash_kind ys))) (sym (ap (λ ys. drop 1 ys) f.split))))
cut_before_nothing modes.Quoted depth xs f =
    led_at classes.Bar is_quoted_byte depth xs [] f ∙ (ap (λ ys. quoted_at ys) (append_nil f.body) ∙ quoted_cut f.body f.passed)
cut_before_nothing modes.Str depth xs f = string_led false depth xs [] f ∙ string_cut (1 + length f.body) false
cut_before_nothing modes.StrMark depth xs f = string_led true depth xs [] f ∙ string_cut (1 + length f.body) true

-- what the text ends in
pub cut : (mode : Mode) (depth : ℕ) (xs : List ℕ) → Fits mode depth xs → lexeme_at depth xs ≡ Unended (is_some (kind_in mode xs))
cut mode depth xs f = ap (λ ys. lexeme_at depth ys) (sym (append_nil xs)) ∙ cut_before_nothing mode depth xs f

-- what holds a byte that doesn't end it before itself

outside_size : (class : ByteClass) (c : ℕ) (cs : List ℕ) → 1 ≤ size_of (c ∷ cs) (outside_at class cs)
unfolding size_of
outside_size classes.White c cs = omega arith
outside_size classes.Semicolon c cs = comment_size cs (c ∷ cs) 1 (omega arith) (omega arith)
outside_size classes.LeftParen c cs = omega arith
outside_size classes.RightParen c cs = omega arith
outside_size classes.Bar c cs = omega arith
outside_size classes.Quote c cs = omega arith
outside_size classes.Colon c cs = omega arith
outside_size classes.Hash c cs = omega arith
outside_size classes.Word c cs = omega arith
outside_size classes.Other c cs = omega arith

inside_size : (class : ByteClass) (c : ℕ) (cs : List ℕ) → (class ≡ classes.Word → is_word_byte c ≡ true) → 1 ≤ size_of (c ∷ cs) (inside_at class c cs)
unfolding size_of
inside_size classes.White c cs h = omega arith
inside_size classes.Semicolon c cs h = comment_size cs (c ∷ cs) 1 (omega arith) (omega arith)
inside_size classes.LeftParen c cs h = omega arith
inside_size classes.RightParen c cs h = omega arith
inside_size classes.Bar c cs h = quoted_size cs (c ∷ cs) 1 (omega arith) (omega arith)
inside_size classes.Quote c cs h = string_size 1 false cs (c ∷ cs) (omega arith)
inside_size classes.Colon c cs h = word_size keyword_kind 1 cs (c ∷ cs) 1 (omega arith) (omega arith)
inside_size classes.Hash c cs h = word_size hash_kind 1 cs (c ∷ cs) 1 (omega arith) (omega arith)
inside_size classes.Word c cs h =
    let n : 0 < prefix_len is_word_byte (c ∷ cs) = prefix_more is_word_byte [] c cs refl (h refl) in
    word_size word_kind 0 (c ∷ cs) (c ∷ cs) 1 (omega arith) (omega arith)
inside_size classes.Other c cs h = omega arith

first_size : (depth c : ℕ) (cs : List ℕ) → 1 ≤ size_of (c ∷ cs) (lexeme_at depth (c ∷ cs))
first_size zero c cs = rw (at_outside c cs (byte_class c) refl) (outside_size (byte_class c) c cs)
first_size (suc depth) c cs = rw (at_inside (suc depth) c cs (byte_class c) (omega arith) refl) (inside_size (byte_class c) c cs (λ e. word_class c e))

string_more : (n c : ℕ) (cs bytes : List ℕ) → n + 1 + length cs ≤ length bytes → n + 1 ≤ size_of bytes (string_at n false (c ∷ cs))
unfolding size_of
string_more n c cs bytes h = elim (bool_cases (eqb c 34)) [
  | inl e ↦ rw (string_mark n c cs e) (string_size (n + 1) true cs bytes h)
  | inr e ↦ elim (bool_cases (is_text_byte c)) [
    | inl t ↦ rw (string_text n c cs e t) (string_size (n + 1) false cs bytes h)
    | inr t ↦ rw (string_bad n c cs e t) (omega arith)
  ]
]

pub holds : (mode : Mode) (depth : ℕ) (xs : List ℕ) (c : ℕ) (cs : List ℕ) → Fits mode depth xs → is_ended_by mode c ≡ false
    → length xs + 1 ≤ size_of (xs ++ c ∷ cs) (lexeme_at depth (xs ++ c ∷ cs))
holds modes.Between depth xs c cs f e = rw f (first_size depth c cs)
holds modes.Comment depth xs c cs f e =
    let n : length f.body ≤ prefix_len (λ d. not (is_line_end d)) (f.body ++ c ∷ cs) = prefix_least (λ d. not (is_line_end d)) f.body (c ∷ cs) f.passed in
    let len : length xs ≡ 1 + length f.body = omega (arith, ap length f.split) in
    rw (comment_led depth xs (c ∷ cs) f) (comment_size (f.body ++ c ∷ cs) (xs ++ c ∷ cs) (length xs + 1) (omega arith) (omega (arith, length-append xs (c ∷ cs))))
holds modes.Word depth xs c cs f e =
    let n : length xs < prefix_len is_word_byte (xs ++ c ∷ cs) = prefix_more is_word_byte xs c cs f.passed (not_false (is_word_byte c) e) in
    rw (word_led depth xs (c ∷ cs) f) (word_size word_kind 0 (xs ++ c ∷ cs) (xs ++ c ∷ cs) (length xs + 1) (omega arith) (omega (arith, length-append xs (c ∷ cs))))
holds modes.Keyword depth xs c cs f e =
    let n : length f.body < prefix_len is_word_byte (f.body ++ c ∷ cs) = prefix_more is_word_byte f.body c cs f.passed (not_false (is_word_byte c) e) in
    let len : length xs ≡ 1 + length f.body = omega (arith, ap length f.split) in
    rw (led_at classes.Colon is_word_byte depth xs (c ∷ cs) f)
    (word_size keyword_kind 1 (f.body ++ c ∷ cs) (xs ++ c ∷ cs) (length xs + 1) (omega arith) (omega (arith, length-append xs (c ∷ cs))))
holds modes.FieldLiteral depth xs c cs f e =
    let n : length f.body < prefix_len is_word_byte (f.body ++ c ∷ cs) = prefix_more is_word_byte f.body c cs f.passed (not_false (is_word_byte c) e) in
    let len : length xs ≡ 1 + length f.body = omega (arith, ap length f.split) in
    rw (led_at classes.Hash is_word_byte depth xs (c ∷ cs) f)
    (word_size hash_kind 1 (f.body ++ c ∷ cs) (xs ++ c ∷ cs) (length xs + 1) (omega arith) (omega (arith, length-append xs (c ∷ cs))))
holds modes.Quoted depth xs c cs f e =
    let n : length f.body ≤ prefix_len is_quoted_byte (f.body ++ c ∷ cs) = prefix_least is_quoted_byte f.body (c ∷ cs) f.passed in
    let len : length xs ≡ 1 + length f.body = omega (arith, ap length f.split) in
    rw (led_at classes.Bar is_quoted_byte depth xs (c ∷ cs) f)
    (quoted_size (f.body ++ c ∷ cs) (xs ++ c ∷ cs) (length xs + 1) (omega arith) (omega (arith, length-append xs (c ∷ cs))))
holds modes.Str depth xs c cs f e =
    let len : length xs ≡ 1 + length f.body = omega (arith, ap length f.split) in
    rw (string_led false depth xs (c ∷ cs) f, len) (string_more (1 + length f.body) c cs (xs ++ c ∷ cs) (omega (arith, length-append xs (c ∷ cs))))
holds modes.StrMark depth xs c cs f e =
    let len : length xs ≡ 1 + length f.body = omega (arith, ap length f.split) in
    rw (string_led true depth xs (c ∷ cs) f, string_pair (1 + length f.body) c cs (not_false (eqb c 34) e), len)
    (string_size (1 + length f.body + 1) false cs (xs ++ c ∷ cs) (omega (arith, length-append xs (c ∷ cs))))

-- what a byte begins

led_first : (class : ByteClass) (p : ℕ → Bool) (depth c : ℕ) → 0 < depth → byte_class c ≡ class → IsLed class p depth (c ∷ [])
led_first class p depth c inside e = record { head = c; body = []; split = refl; led = e; passed = refl; inside = inside }

pub begins_quoted : (c : ℕ) → byte_class c ≡ classes.Bar → Begins modes.Quoted c
begins_quoted c e = record { inside = λ depth p. led_first classes.Bar is_quoted_byte depth c p e; outside = λ cs. at_outside c cs classes.Bar e }

pub begins_keyword : (c : ℕ) → byte_class c ≡ classes.Colon → Begins modes.Keyword c
begins_keyword c e = record { inside = λ depth p. led_first classes.Colon is_word_byte depth c p e; outside = λ cs. at_outside c cs classes.Colon e }

pub begins_field : (c : ℕ) → byte_class c ≡ classes.Hash → Begins modes.FieldLiteral c
begins_field c e = record { inside = λ depth p. led_first classes.Hash is_word_byte depth c p e; outside = λ cs. at_outside c cs classes.Hash e }

pub begins_word : (c : ℕ) → byte_class c ≡ classes.Word → Begins modes.Word c
begins_word c e = record {
  inside = λ depth p. record { head = c; body = []; split = refl; led = e; passed = prefix_on is_word_byte [] c refl (word_class c e); inside = p };
  outside = λ cs. at_outside c cs classes.Word e;
}

pub begins_string : (c : ℕ) → byte_class c ≡ classes.Quote → Begins modes.Str c
begins_string c e = record {
  inside = λ depth p. record { head = c; body = []; split = refl; led = e; goes_on = λ more. refl; inside = p };
  outside = λ cs. at_outside c cs classes.Quote e;
}

pub comment_first : (c : ℕ) → byte_class c ≡ classes.Semicolon → IsComment (c ∷ [])
comment_first c e = record { head = c; body = []; split = refl; led = e; passed = refl }

pub white_at : (depth c : ℕ) (cs : List ℕ) → byte_class c ≡ classes.White → lexeme_at depth (c ∷ cs) ≡ Skip 1
white_at zero c cs e = at_outside c cs classes.White e
white_at (suc depth) c cs e = at_inside (suc depth) c cs classes.White (omega arith) e

pub other_at : (depth c : ℕ) (cs : List ℕ) → byte_class c ≡ classes.Other → lexeme_at depth (c ∷ cs) ≡ Bad 0 1
other_at zero c cs e = at_outside c cs classes.Other e
other_at (suc depth) c cs e = at_inside (suc depth) c cs classes.Other (omega arith) e

pub left_at : (depth c : ℕ) (cs : List ℕ) → byte_class c ≡ classes.LeftParen → lexeme_at depth (c ∷ cs) ≡ Token kinds.LeftParen 1
left_at zero c cs e = at_outside c cs classes.LeftParen e
left_at (suc depth) c cs e = at_inside (suc depth) c cs classes.LeftParen (omega arith) e

pub right_at : (depth c : ℕ) (cs : List ℕ) → byte_class c ≡ classes.RightParen → lexeme_at depth (c ∷ cs) ≡ Token kinds.RightParen 1
right_at zero c cs e = at_outside c cs classes.RightParen e
right_at (suc depth) c cs e = at_inside (suc depth) c cs classes.RightParen (omega arith) e
