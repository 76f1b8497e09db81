-- What each step of the scanner keeps, by its mode and the next byte.
use Rattle.std.proofs.Common.{◌≡◌, ℕ, ◌+◌, ◌-◌, ◌<◌, ◌≤◌, Bool, true, false, not, cond, List, [], ◌∷◌, ◌++◌, length, take, drop, refl, sym, ap, ◌∙◌, subst, arith, append_assoc, Option, Some, None, eqb}
use Rattle.std.proofs.Math.Seq.{take-append_seam}
use Rattle.ffc_lex.specs.declared.byte_classes.ByteClass.TheVariants as classes
use Rattle.ffc_lex.specs.declared.tokens.TokenKind.{TokenKind}
use Rattle.ffc_lex.specs.declared.tokens.TokenKind.TheVariants as kinds
use Rattle.ffc_lex.specs.declared.tokens.Place.{Place}
use Rattle.ffc_lex.specs.declared.tokens.Token.{Token as TokenRecord}
use Rattle.ffc_lex.specs.declared.faults.ScriptFault.{ScriptFault}
use Rattle.ffc_lex.specs.declared.modes.Mode.{Mode}
use Rattle.ffc_lex.specs.declared.modes.Mode.TheVariants as modes
use Rattle.ffc_lex.specs.Limits.{max_bytes}
use Rattle.ffc_lex.specs.Bytes.{is_word_byte, is_line_end, is_text_byte, is_quoted_byte}
use Rattle.ffc_lex.specs.Words.{is_symbol_word, is_numeral, is_decimal, is_field_word, word_kind, keyword_kind, hash_kind}
use Rattle.ffc_lex.specs.Lexeme.{Skip, Token, Bad, judged, lexeme_at, size_of}
use Rattle.ffc_lex.specs.Reading.{Open, Stopped, Halt, Move, past, place_after, fault_at, token_at, after_kind, after_token, next_at}
use Rattle.ffc_lex.specs.Scan.{Scan, Fits, IsReady, IsFacing, IsStopped, is_ended_by, kind_in, ahead, scanned, open_of, moved, settled, with_token, with_token_through}
use Rattle.ffc_lex.proofs.ReadingLemmas.{next_skip, next_token, next_bad, next_past}
use Rattle.ffc_lex.proofs.FitsLemmas.{comment_on, led_on, word_on, string_marked, string_texted, string_paired, comment_through, quoted_through, quoted_bad, string_wrong, ended, holds}
use Rattle.ffc_lex.proofs.ReadyLemmas.{place_after-snoc, within_text, ahead_split, length-scanned, scanned-snoc, stays, arrived, consumed, stopped}

ahead_more : (n : ℕ) (text : List ℕ) (c : ℕ) (s : Scan) (more : List ℕ) → IsFacing n text c s → ahead text s ++ more ≡ scanned text s ++ c ∷ (drop (s.at.index + 1) text ++ more)
ahead_more n text c s more f = ap (λ xs. xs ++ more) (ahead_split n text c s f) ∙ append_assoc (scanned text s) (c ∷ drop (s.at.index + 1) text) more

-- bytes that are read, the next one with them
pub through : (n : ℕ) (text : List ℕ) (c : ℕ) (s : Scan) (left : Open) → IsFacing n text c s → s.at.index < max_bytes
    → ((cs : List ℕ) → next_at (scanned text s ++ c ∷ cs) s.start (open_of s) ≡ Move (s.at.index - s.start.index + 1) left)
    → IsReady n text (arrived s.kept (past c s.at) left)
through n text c s left f l next =
    let lt : s.at.index < length text = within_text n text c s f in
    let le : s.start.index ≤ s.at.index = f.ready.order in
    let few : n ≤ s.at.index = f.ready.few in
    let k : s.at.index + 1 - s.start.index ≡ s.at.index - s.start.index + 1 = omega arith in
    consumed n text s (s.at.index - s.start.index + 1) (past c s.at) left f.ready (omega arith) (omega arith) (omega arith) (omega arith) (omega arith)
    (ap (λ p. past c p) f.ready.place ∙ (sym (place_after-snoc (scanned text s) c s.start)
    ∙ (ap (λ xs. place_after xs s.start) (sym (scanned-snoc n text c s f)) ∙ ap (λ i. place_after (take i (ahead text s)) s.start) k)))
    (λ more. ap (λ xs. next_at xs s.start (open_of s)) (ahead_more n text c s more f) ∙ next (drop (s.at.index + 1) text ++ more))

-- bytes that are read, but not the next one
before : (n : ℕ) (text : List ℕ) (c : ℕ) (s : Scan) (left : Open) → IsFacing n text c s → 0 < length (scanned text s)
    → ((cs : List ℕ) → next_at (scanned text s ++ c ∷ cs) s.start (open_of s) ≡ Move (s.at.index - s.start.index) left)
    → IsFacing n text c (arrived s.kept s.at left)
before n text c s left f some next =
    let lt : s.at.index < length text = within_text n text c s f in
    let le : s.start.index ≤ s.at.index = f.ready.order in
    let few : n ≤ s.at.index = f.ready.few in
    let limit : s.at.index ≤ max_bytes = f.ready.limit in
    let len : length (scanned text s) ≡ s.at.index - s.start.index = length-scanned n text s f.ready in
    record {
      ready = consumed n text s (s.at.index - s.start.index) s.at left f.ready (omega arith) (omega arith) (omega arith) limit few f.ready.place
          (λ more. ap (λ xs. next_at xs s.start (open_of s)) (ahead_more n text c s more f) ∙ next (drop (s.at.index + 1) text ++ more));
      next = f.next;
    }

first_of_some : (xs : List ℕ) (c : ℕ) (cs : List ℕ) → (h : ℕ) × (t : List ℕ) × (xs ++ c ∷ cs ≡ h ∷ t)
first_of_some [] c cs = (c, cs, refl)
first_of_some (x ∷ xs) c cs = (x, xs ++ c ∷ cs, refl)

-- a text fault at or before the next byte
pub halts : (n : ℕ) (text : List ℕ) (c : ℕ) (s : Scan) (fault : ScriptFault) → IsFacing n text c s
    → ((cs : List ℕ) → next_at (scanned text s ++ c ∷ cs) s.start (open_of s) ≡ Halt (Stopped fault))
    → IsStopped n text fault
halts n text c s fault f next =
    let some : (h : ℕ) × (t : List ℕ) × (scanned text s ++ c ∷ drop (s.at.index + 1) text ≡ h ∷ t) = first_of_some (scanned text s) c (drop (s.at.index + 1) text) in
    stopped n text s some.0 some.1 fault f.ready (ahead_split n text c s f ∙ some.2)
    (λ more. ap (λ xs. next_at xs s.start (open_of s)) (ahead_more n text c s more f) ∙ next (drop (s.at.index + 1) text ++ more))

-- the place of the next byte, from the bytes that were looked at and any that follow
place_so_far : (n : ℕ) (text : List ℕ) (s : Scan) (i : ℕ) (ys : List ℕ) → IsReady n text s → i ≡ length (scanned text s) → place_after (take i (scanned text s ++ ys)) s.start ≡ s.at
place_so_far n text s i ys r e =
    ap (λ k. place_after (take k (scanned text s ++ ys)) s.start) e ∙ (ap (λ xs. place_after xs s.start) (take-append_seam (scanned text s) ys) ∙ sym r.place)

-- the byte past the limit
pub limit_fault : (n : ℕ) (text : List ℕ) (c : ℕ) (s : Scan) → IsFacing n text c s → s.at.index ≡ max_bytes → is_ended_by s.mode c ≡ false → IsStopped n text (fault_at 17 s.at)
limit_fault n text c s f limit e =
    let le : s.start.index ≤ s.at.index = f.ready.order in
    let len : length (scanned text s) ≡ s.at.index - s.start.index = length-scanned n text s f.ready in
    let i : max_bytes - s.start.index ≡ length (scanned text s) = omega arith in
    halts n text c s (fault_at 17 s.at) f (λ cs.
    let size : length (scanned text s) + 1 ≤ size_of (scanned text s ++ c ∷ cs) (lexeme_at s.depth (scanned text s ++ c ∷ cs)) = holds s.mode s.depth (scanned text s) c cs f.ready.fits e in
    next_past (scanned text s ++ c ∷ cs) s.start (open_of s) (omega arith)
    ∙ ap (λ p. Halt (Stopped (fault_at 17 p))) (place_so_far n text s (max_bytes - s.start.index) (c ∷ cs) f.ready i))

-- a byte that is not allowed there
pub bad_fault : (n : ℕ) (text : List ℕ) (c : ℕ) (s : Scan) → IsFacing n text c s → s.at.index < max_bytes
    → ((cs : List ℕ) → lexeme_at s.depth (scanned text s ++ c ∷ cs) ≡ Bad (length (scanned text s)) (length (scanned text s) + 1))
    → IsStopped n text (fault_at 1 s.at)
bad_fault n text c s f limit bad =
    let le : s.start.index ≤ s.at.index = f.ready.order in
    let len : length (scanned text s) ≡ s.at.index - s.start.index = length-scanned n text s f.ready in
    halts n text c s (fault_at 1 s.at) f (λ cs.
    next_bad (scanned text s ++ c ∷ cs) s.start (open_of s) (length (scanned text s)) (length (scanned text s) + 1) (bad cs) (omega arith)
    ∙ ap (λ p. Halt (Stopped (fault_at 1 p))) (place_so_far n text s (length (scanned text s)) (c ∷ cs) f.ready refl))

-- comments

pub comment_stays : (n : ℕ) (text : List ℕ) (c : ℕ) (s : Scan) → IsFacing n text c s → s.at.index < max_bytes → s.mode ≡ modes.Comment → is_line_end c ≡ false → IsReady n text (moved c s)
comment_stays n text c s f l mode e =
    let fits : Fits modes.Comment s.depth (scanned text s) = subst (λ m. Fits m s.depth (scanned text s)) mode f.ready.fits in
    stays n text c s s.mode f l (subst (λ m. Fits m s.depth (scanned text s ++ c ∷ [])) (sym mode) (comment_on (scanned text s) c fits e))

pub skips : (n : ℕ) (text : List ℕ) (c : ℕ) (s : Scan) → IsFacing n text c s → s.at.index < max_bytes
    → ((cs : List ℕ) → lexeme_at s.depth (scanned text s ++ c ∷ cs) ≡ Skip (length (scanned text s) + 1))
    → IsReady n text (settled (moved c s))
skips n text c s f l skip =
    let le : s.start.index ≤ s.at.index = f.ready.order in
    let len : length (scanned text s) ≡ s.at.index - s.start.index = length-scanned n text s f.ready in
    let k : length (scanned text s) + 1 ≡ s.at.index - s.start.index + 1 = omega arith in
    through n text c s (open_of s) f l (λ cs. next_skip (scanned text s ++ c ∷ cs) s.start (open_of s) (s.at.index - s.start.index + 1) (skip cs ∙ ap (λ i. Skip i) k) (omega arith))

pub comment_ends_here : (n : ℕ) (text : List ℕ) (c : ℕ) (s : Scan) → IsFacing n text c s → s.at.index < max_bytes → s.mode ≡ modes.Comment → is_line_end c ≡ true → IsReady n text (settled (moved c s))
comment_ends_here n text c s f l mode e =
    let fits : Fits modes.Comment s.depth (scanned text s) = subst (λ m. Fits m s.depth (scanned text s)) mode f.ready.fits in
    skips n text c s f l (λ cs. comment_through s.depth (scanned text s) c cs fits e)

-- quoted symbols

pub quoted_stays : (n : ℕ) (text : List ℕ) (c : ℕ) (s : Scan) → IsFacing n text c s → s.at.index < max_bytes → s.mode ≡ modes.Quoted → is_quoted_byte c ≡ true → IsReady n text (moved c s)
quoted_stays n text c s f l mode e =
    let fits : Fits modes.Quoted s.depth (scanned text s) = subst (λ m. Fits m s.depth (scanned text s)) mode f.ready.fits in
    stays n text c s s.mode f l (subst (λ m. Fits m s.depth (scanned text s ++ c ∷ [])) (sym mode) (led_on classes.Bar is_quoted_byte s.depth (scanned text s) c fits e))

pub quoted_fault : (n : ℕ) (text : List ℕ) (c : ℕ) (s : Scan) → IsFacing n text c s → s.at.index < max_bytes → s.mode ≡ modes.Quoted → eqb c 124 ≡ false → is_quoted_byte c ≡ false
    → IsStopped n text (fault_at 1 s.at)
quoted_fault n text c s f l mode e q =
    let fits : Fits modes.Quoted s.depth (scanned text s) = subst (λ m. Fits m s.depth (scanned text s)) mode f.ready.fits in
    bad_fault n text c s f l (λ cs. quoted_bad s.depth (scanned text s) c cs fits e q)

pub quoted_ends_here : (n : ℕ) (text : List ℕ) (c : ℕ) (s : Scan) → IsFacing n text c s → s.at.index < max_bytes → s.mode ≡ modes.Quoted → eqb c 124 ≡ true
    → IsReady n text (with_token_through kinds.Quoted c s)
quoted_ends_here n text c s f l mode e =
    let fits : Fits modes.Quoted s.depth (scanned text s) = subst (λ m. Fits m s.depth (scanned text s)) mode f.ready.fits in
    let le : s.start.index ≤ s.at.index = f.ready.order in
    let len : length (scanned text s) ≡ s.at.index - s.start.index = length-scanned n text s f.ready in
    let k : length (scanned text s) + 1 ≡ s.at.index - s.start.index + 1 = omega arith in
    let tokens : List TokenRecord = s.tokens ++ token_at kinds.Quoted (s.at.index - s.start.index + 1) s.start ∷ [] in
    let left : Open = record { depth = s.depth; first = s.first; tokens = tokens } in
    through n text c s left f l (λ cs.
    next_token (scanned text s ++ c ∷ cs) s.start (open_of s) kinds.Quoted (s.at.index - s.start.index + 1) (quoted_through s.depth (scanned text s) c cs fits e ∙ ap (λ i. Token kinds.Quoted i) k) (omega arith))

-- strings

pub string_marks : (n : ℕ) (text : List ℕ) (c : ℕ) (s : Scan) → IsFacing n text c s → s.at.index < max_bytes → s.mode ≡ modes.Str → eqb c 34 ≡ true
    → IsReady n text (moved c (record s { mode = modes.StrMark }))
string_marks n text c s f l mode e =
    let fits : Fits modes.Str s.depth (scanned text s) = subst (λ m. Fits m s.depth (scanned text s)) mode f.ready.fits in
    stays n text c s modes.StrMark f l (string_marked s.depth (scanned text s) c fits e)

pub string_stays : (n : ℕ) (text : List ℕ) (c : ℕ) (s : Scan) → IsFacing n text c s → s.at.index < max_bytes → s.mode ≡ modes.Str → eqb c 34 ≡ false → is_text_byte c ≡ true → IsReady n text (moved c s)
string_stays n text c s f l mode e t =
    let fits : Fits modes.Str s.depth (scanned text s) = subst (λ m. Fits m s.depth (scanned text s)) mode f.ready.fits in
    stays n text c s s.mode f l (subst (λ m. Fits m s.depth (scanned text s ++ c ∷ [])) (sym mode) (string_texted s.depth (scanned text s) c fits e t))

pub string_fault : (n : ℕ) (text : List ℕ) (c : ℕ) (s : Scan) → IsFacing n text c s → s.at.index < max_bytes → s.mode ≡ modes.Str → eqb c 34 ≡ false → is_text_byte c ≡ false
    → IsStopped n text (fault_at 1 s.at)
string_fault n text c s f l mode e t =
    let fits : Fits modes.Str s.depth (scanned text s) = subst (λ m. Fits m s.depth (scanned text s)) mode f.ready.fits in
    bad_fault n text c s f l (λ cs. string_wrong s.depth (scanned text s) c cs fits e t)

not_false : (b : Bool) → not b ≡ false → b ≡ true
not_false true e = refl
not_false false e = absurd (cc)

pub string_pairs : (n : ℕ) (text : List ℕ) (c : ℕ) (s : Scan) → IsFacing n text c s → s.at.index < max_bytes → s.mode ≡ modes.StrMark → is_ended_by s.mode c ≡ false
    → IsReady n text (moved c (record s { mode = modes.Str }))
string_pairs n text c s f l mode e =
    let fits : Fits modes.StrMark s.depth (scanned text s) = subst (λ m. Fits m s.depth (scanned text s)) mode f.ready.fits in
    let pair : eqb c 34 ≡ true = not_false (eqb c 34) (subst (λ m. is_ended_by m c ≡ false) mode e) in
    stays n text c s modes.Str f l (string_paired s.depth (scanned text s) c fits pair)

-- words

pub word_stays : (n : ℕ) (text : List ℕ) (c : ℕ) (s : Scan) → IsFacing n text c s → s.at.index < max_bytes → s.mode ≡ modes.Word → is_ended_by s.mode c ≡ false
    → IsReady n text (moved c s)
word_stays n text c s f l mode e =
    let fits : Fits modes.Word s.depth (scanned text s) = subst (λ m. Fits m s.depth (scanned text s)) mode f.ready.fits in
    let on : is_word_byte c ≡ true = not_false (is_word_byte c) (subst (λ m. is_ended_by m c ≡ false) mode e) in
    stays n text c s s.mode f l (subst (λ m. Fits m s.depth (scanned text s ++ c ∷ [])) (sym mode) (word_on s.depth (scanned text s) c fits on))

pub keyword_stays : (n : ℕ) (text : List ℕ) (c : ℕ) (s : Scan) → IsFacing n text c s → s.at.index < max_bytes → s.mode ≡ modes.Keyword → is_ended_by s.mode c ≡ false
    → IsReady n text (moved c s)
keyword_stays n text c s f l mode e =
    let fits : Fits modes.Keyword s.depth (scanned text s) = subst (λ m. Fits m s.depth (scanned text s)) mode f.ready.fits in
    let on : is_word_byte c ≡ true = not_false (is_word_byte c) (subst (λ m. is_ended_by m c ≡ false) mode e) in
    stays n text c s s.mode f l (subst (λ m. Fits m s.depth (scanned text s ++ c ∷ [])) (sym mode) (led_on classes.Colon is_word_byte s.depth (scanned text s) c fits on))

pub field_stays : (n : ℕ) (text : List ℕ) (c : ℕ) (s : Scan) → IsFacing n text c s → s.at.index < max_bytes → s.mode ≡ modes.FieldLiteral → is_ended_by s.mode c ≡ false
    → IsReady n text (moved c s)
field_stays n text c s f l mode e =
    let fits : Fits modes.FieldLiteral s.depth (scanned text s) = subst (λ m. Fits m s.depth (scanned text s)) mode f.ready.fits in
    let on : is_word_byte c ≡ true = not_false (is_word_byte c) (subst (λ m. is_ended_by m c ≡ false) mode e) in
    stays n text c s s.mode f l (subst (λ m. Fits m s.depth (scanned text s ++ c ∷ [])) (sym mode) (led_on classes.Hash is_word_byte s.depth (scanned text s) c fits on))

-- what the next byte ends before itself

ended_some : (mode : Mode) (depth : ℕ) (xs : List ℕ) (c : ℕ) → Fits mode depth xs → is_ended_by mode c ≡ true → 0 < length xs
ended_some modes.Between depth xs c f e = absurd (cc)
ended_some modes.Comment depth xs c f e = absurd (cc)
ended_some modes.Quoted depth xs c f e = absurd (cc)
ended_some modes.Str depth xs c f e = absurd (cc)
ended_some modes.Word depth xs c f e = omega (arith, ap length f.split)
ended_some modes.Keyword depth xs c f e = omega (arith, ap length f.split)
ended_some modes.FieldLiteral depth xs c f e = omega (arith, ap length f.split)
ended_some modes.StrMark depth xs c f e = omega (arith, ap length f.split)

-- a kind of token that is no parenthesis
abbrev IsPlain : TokenKind → Type 0
IsPlain kinds.LeftParen = ⊥
IsPlain kinds.RightParen = ⊥
IsPlain kinds.Numeral = Unit {0}
IsPlain kinds.Decimal = Unit {0}
IsPlain kinds.Symbol = Unit {0}
IsPlain kinds.Quoted = Unit {0}
IsPlain kinds.Keyword = Unit {0}
IsPlain kinds.Str = Unit {0}
IsPlain kinds.FieldLiteral = Unit {0}

abbrev IsPlainIfSome : Option TokenKind → Type 0
IsPlainIfSome None = Unit {0}
IsPlainIfSome (Some kind) = IsPlain kind

plain_word : (b1 b2 b3 : Bool) → IsPlainIfSome (cond b1 (Some kinds.Symbol) (cond b2 (Some kinds.Numeral) (cond b3 (Some kinds.Decimal) None)))
plain_word true b2 b3 = tt
plain_word false true b3 = tt
plain_word false false true = tt
plain_word false false false = tt

plain_one : (b : Bool) (kind : TokenKind) → IsPlain kind → IsPlainIfSome (cond b (Some kind) None)
plain_one true kind p = p
plain_one false kind p = tt

plain_kind : (mode : Mode) (xs : List ℕ) → IsPlainIfSome (kind_in mode xs)
unfolding word_kind keyword_kind hash_kind
plain_kind modes.Between xs = tt
plain_kind modes.Comment xs = tt
plain_kind modes.Word xs = plain_word (is_symbol_word xs) (is_numeral xs) (is_decimal xs)
plain_kind modes.Keyword xs = plain_one (is_symbol_word (drop 1 xs)) kinds.Keyword tt
plain_kind modes.FieldLiteral xs = plain_one (is_field_word (drop 1 xs)) kinds.FieldLiteral tt
plain_kind modes.Quoted xs = tt
plain_kind modes.Str xs = tt
plain_kind modes.StrMark xs = tt

after_plain : (kind : TokenKind) (k : ℕ) (place : Place) (o : Open) → IsPlain kind → after_kind kind k place o ≡ after_token kind k place o
after_plain kinds.LeftParen k place o p = absurd p
after_plain kinds.RightParen k place o p = absurd p
after_plain kinds.Numeral k place o p = refl
after_plain kinds.Decimal k place o p = refl
after_plain kinds.Symbol k place o p = refl
after_plain kinds.Quoted k place o p = refl
after_plain kinds.Keyword k place o p = refl
after_plain kinds.Str k place o p = refl
after_plain kinds.FieldLiteral k place o p = refl

pub ended_token : (n : ℕ) (text : List ℕ) (c : ℕ) (s : Scan) (kind : TokenKind) → IsFacing n text c s → is_ended_by s.mode c ≡ true → kind_in s.mode (scanned text s) ≡ Some kind
    → IsFacing n text c (with_token kind s)
ended_token n text c s kind f e k =
    let le : s.start.index ≤ s.at.index = f.ready.order in
    let limit : s.at.index ≤ max_bytes = f.ready.limit in
    let len : length (scanned text s) ≡ s.at.index - s.start.index = length-scanned n text s f.ready in
    let plain : IsPlain kind = subst (λ o. IsPlainIfSome o) k (plain_kind s.mode (scanned text s)) in
    let tokens : List TokenRecord = s.tokens ++ token_at kind (s.at.index - s.start.index) s.start ∷ [] in
    let left : Open = record { depth = s.depth; first = s.first; tokens = tokens } in
    before n text c s left f (ended_some s.mode s.depth (scanned text s) c f.ready.fits e) (λ cs.
    next_token (scanned text s ++ c ∷ cs) s.start (open_of s) kind (s.at.index - s.start.index)
    (ended s.mode s.depth (scanned text s) c cs f.ready.fits e ∙ (ap (λ o. judged o (length (scanned text s))) k ∙ ap (λ i. Token kind i) len)) (omega arith)
    ∙ after_plain kind (s.at.index - s.start.index) s.start (open_of s) plain)

pub ended_fault : (n : ℕ) (text : List ℕ) (c : ℕ) (s : Scan) → IsFacing n text c s → is_ended_by s.mode c ≡ true → kind_in s.mode (scanned text s) ≡ None
    → IsStopped n text (fault_at 1 s.start)
ended_fault n text c s f e k =
    let le : s.start.index ≤ s.at.index = f.ready.order in
    let limit : s.at.index ≤ max_bytes = f.ready.limit in
    let len : length (scanned text s) ≡ s.at.index - s.start.index = length-scanned n text s f.ready in
    halts n text c s (fault_at 1 s.start) f (λ cs.
    next_bad (scanned text s ++ c ∷ cs) s.start (open_of s) 0 (length (scanned text s))
    (ended s.mode s.depth (scanned text s) c cs f.ready.fits e ∙ ap (λ o. judged o (length (scanned text s))) k) (omega arith))
