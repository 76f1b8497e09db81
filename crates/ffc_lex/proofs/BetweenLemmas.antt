-- What each step of the scanner keeps between two tokens, and what holds of it at the end of the text.
use Rattle.std.proofs.Common.{◌≡◌, ℕ, ◌+◌, ◌-◌, ◌<◌, ◌≤◌, Bool, true, false, cond, List, [], ◌∷◌, ◌++◌, length, take, drop, refl, sym, ap, ◌∙◌, subst, arith, Option, Some, None, Result, Ok, Err, eqb, inl, inr}
use Rattle.std.specs.Option.{is_some}
use Rattle.std.specs.Result.{IsErrAnd}
use Rattle.std.proofs.Math.Seq.{take-length}
use Rattle.std.proofs.lemmas.List.{length-drop}
use Rattle.std.proofs.lemmas.Bool.Decides.{eqb_tells}
use Rattle.ffc_lex.specs.declared.byte_classes.ByteClass.{ByteClass}
use Rattle.ffc_lex.specs.declared.byte_classes.ByteClass.TheVariants as classes
use Rattle.ffc_lex.specs.declared.tokens.TokenKind.{TokenKind}
use Rattle.ffc_lex.specs.declared.tokens.TokenKind.TheVariants as kinds
use Rattle.ffc_lex.specs.declared.tokens.Place.{Place}
use Rattle.ffc_lex.specs.declared.tokens.Token.{Token as TokenRecord}
use Rattle.ffc_lex.specs.declared.faults.ScriptFault.{ScriptFault}
use Rattle.ffc_lex.specs.declared.faults.LexStop.{LexStop}
use Rattle.ffc_lex.specs.declared.faults.LexStop.TheVariants.{Fault}
use Rattle.ffc_lex.specs.declared.modes.Mode.{Mode}
use Rattle.ffc_lex.specs.declared.modes.Mode.TheVariants as modes
use Rattle.ffc_lex.specs.Limits.{max_bytes, max_depth}
use Rattle.ffc_lex.specs.Bytes.{byte_class}
use Rattle.ffc_lex.specs.Lexeme.{Lexeme, Skip, Token, Bad, Unended, lexeme_at}
use Rattle.ffc_lex.specs.Reading.{Open, Between, Within, Stopped, Halt, Move, Give, past, fault_at, token_at, halted, unended, after_kind, next_at, read, reading_of, forms_of, fault_of, end_fault_of, within_fault, stop_fault}
use Rattle.ffc_lex.specs.Scan.{Scan, Fits, Begins, IsReady, IsFacing, IsStopped, IsForm, AfterStop, AfterTake, IsNoParenthesis, kind_in, without, ahead, scanned, open_of, begun, moved, settled}
use Rattle.ffc_lex.specs.Lexing.{next_form_of, due_fault}
use Rattle.ffc_lex.proofs.ListLemmas.{none_from}
use Rattle.ffc_lex.proofs.ReadingLemmas.{next_token, next_unended, read_end, read_nothing}
use Rattle.ffc_lex.proofs.FitsLemmas.{append_nil, nothing, cut, comment_first, white_at, other_at, left_at, right_at}
use Rattle.ffc_lex.proofs.ReadyLemmas.{stays, arrived, at_start, ahead_first, given}
use Rattle.ffc_lex.proofs.StepLemmas.{through, halts, skips, bad_fault}

-- a byte between two tokens, before which there is nothing
pub record IsFirst (n : ℕ) (text : List ℕ) (c : ℕ) (s : Scan) : Type 0 where
  pub facing : IsFacing n text c s
  pub limit : s.at.index < max_bytes
  pub mode : s.mode ≡ modes.Between

none_scanned : (n : ℕ) (text : List ℕ) (c : ℕ) (s : Scan) → IsFirst n text c s → scanned text s ≡ []
none_scanned n text c s f = subst (λ m. Fits m s.depth (scanned text s)) f.mode f.facing.ready.fits

same_place : (n : ℕ) (text : List ℕ) (c : ℕ) (s : Scan) → IsFirst n text c s → s.at ≡ s.start
same_place n text c s f = at_start n text s f.facing.ready f.mode

first_lexeme : (n : ℕ) (text : List ℕ) (c : ℕ) (s : Scan) (cs : List ℕ) (l : Lexeme) → IsFirst n text c s → lexeme_at s.depth (c ∷ cs) ≡ l → lexeme_at s.depth (scanned text s ++ c ∷ cs) ≡ l
first_lexeme n text c s cs l f e = ap (λ xs. lexeme_at s.depth (xs ++ c ∷ cs)) (none_scanned n text c s f) ∙ e

pub white_skips : (n : ℕ) (text : List ℕ) (c : ℕ) (s : Scan) → IsFirst n text c s → byte_class c ≡ classes.White → IsReady n text (settled (moved c s))
white_skips n text c s f e =
    skips n text c s f.facing f.limit (λ cs. first_lexeme n text c s cs (Skip (length (scanned text s) + 1)) f
    (white_at s.depth c cs e ∙ ap (λ xs. Skip (length xs + 1)) (sym (none_scanned n text c s f))))

pub comment_begins : (n : ℕ) (text : List ℕ) (c : ℕ) (s : Scan) → IsFirst n text c s → byte_class c ≡ classes.Semicolon → IsReady n text (moved c (record s { mode = modes.Comment }))
comment_begins n text c s f e =
    stays n text c s modes.Comment f.facing f.limit (subst (λ xs. Fits modes.Comment s.depth (xs ++ c ∷ [])) (sym (none_scanned n text c s f)) (comment_first c e))

pub token_begins : (n : ℕ) (text : List ℕ) (c : ℕ) (s : Scan) (mode : Mode) → IsFirst n text c s → 0 < s.depth → Begins mode c → IsReady n text (moved c (record s { mode = mode }))
token_begins n text c s mode f depth b =
    stays n text c s mode f.facing f.limit (subst (λ xs. Fits mode s.depth (xs ++ c ∷ [])) (sym (none_scanned n text c s f)) (b.inside s.depth depth))

first_fault : (n : ℕ) (text : List ℕ) (c : ℕ) (s : Scan) → IsFirst n text c s → ((cs : List ℕ) → lexeme_at s.depth (c ∷ cs) ≡ Bad 0 1) → IsStopped n text (fault_at 1 s.at)
first_fault n text c s f bad =
    bad_fault n text c s f.facing f.limit (λ cs. first_lexeme n text c s cs (Bad (length (scanned text s)) (length (scanned text s) + 1)) f
    (bad cs ∙ ap (λ xs. Bad (length xs) (length xs + 1)) (sym (none_scanned n text c s f))))

pub outside_fault : (n : ℕ) (text : List ℕ) (c : ℕ) (s : Scan) (mode : Mode) → IsFirst n text c s → s.depth ≡ 0 → Begins mode c → IsStopped n text (fault_at 1 s.at)
outside_fault n text c s mode f depth b = first_fault n text c s f (λ cs. ap (λ d. lexeme_at d (c ∷ cs)) depth ∙ b.outside cs)

pub other_fault : (n : ℕ) (text : List ℕ) (c : ℕ) (s : Scan) → IsFirst n text c s → byte_class c ≡ classes.Other → IsStopped n text (fault_at 1 s.at)
other_fault n text c s f e = first_fault n text c s f (λ cs. other_at s.depth c cs e)

-- a parenthesis
paren_next : (n : ℕ) (text : List ℕ) (c : ℕ) (s : Scan) (kind : TokenKind) (cs : List ℕ) → IsFirst n text c s → ((ds : List ℕ) → lexeme_at s.depth (c ∷ ds) ≡ Token kind 1)
    → next_at (scanned text s ++ c ∷ cs) s.start (open_of s) ≡ after_kind kind 1 s.start (open_of s)
paren_next n text c s kind cs f at =
    let i : s.at.index ≡ s.start.index = ap (λ p. p.index) (same_place n text c s f) in
    let l : s.at.index < max_bytes = f.limit in
    next_token (scanned text s ++ c ∷ cs) s.start (open_of s) kind 1 (first_lexeme n text c s cs (Token kind 1) f (at cs)) (omega arith)

one_byte : (n : ℕ) (text : List ℕ) (c : ℕ) (s : Scan) → IsFirst n text c s → 1 ≡ s.at.index - s.start.index + 1
one_byte n text c s f = let i : s.at.index ≡ s.start.index = ap (λ p. p.index) (same_place n text c s f) in omega arith

pub left_fault : (n : ℕ) (text : List ℕ) (c : ℕ) (s : Scan) → IsFirst n text c s → byte_class c ≡ classes.LeftParen → eqb s.depth max_depth ≡ true → IsStopped n text (fault_at 14 s.at)
left_fault n text c s f e full =
    halts n text c s (fault_at 14 s.at) f.facing (λ cs.
    paren_next n text c s kinds.LeftParen cs f (λ ds. left_at s.depth c ds e)
    ∙ (rw full refl ∙ ap (λ p. Halt (Stopped (fault_at 14 p))) (sym (same_place n text c s f))))

abbrev pub opened_at : ℕ → Place → Scan → Open
opened_at k place s = record { depth = s.depth + 1; first = cond (eqb s.depth 0) place s.first; tokens = s.tokens ++ token_at kinds.LeftParen k s.start ∷ [] }

pub left_opens : (n : ℕ) (text : List ℕ) (c : ℕ) (s : Scan) → IsFirst n text c s → byte_class c ≡ classes.LeftParen → eqb s.depth max_depth ≡ false
    → IsReady n text (arrived s.kept (past c s.at) (opened_at (s.at.index - s.start.index + 1) s.at s))
left_opens n text c s f e room =
    through n text c s (opened_at (s.at.index - s.start.index + 1) s.at s) f.facing f.limit (λ cs.
    paren_next n text c s kinds.LeftParen cs f (λ ds. left_at s.depth c ds e)
    ∙ (rw room refl ∙ (ap (λ k. Move k (opened_at k s.start s)) (one_byte n text c s f)
    ∙ ap (λ p. Move (s.at.index - s.start.index + 1) (opened_at (s.at.index - s.start.index + 1) p s)) (sym (same_place n text c s f)))))

pub right_fault : (n : ℕ) (text : List ℕ) (c : ℕ) (s : Scan) → IsFirst n text c s → byte_class c ≡ classes.RightParen → eqb s.depth 0 ≡ true → IsStopped n text (fault_at 3 s.at)
right_fault n text c s f e none =
    halts n text c s (fault_at 3 s.at) f.facing (λ cs.
    paren_next n text c s kinds.RightParen cs f (λ ds. right_at s.depth c ds e)
    ∙ (rw none refl ∙ ap (λ p. Halt (Stopped (fault_at 3 p))) (sym (same_place n text c s f))))

abbrev pub closed_tokens : ℕ → Scan → List TokenRecord
closed_tokens k s = s.tokens ++ token_at kinds.RightParen k s.start ∷ []

abbrev pub closed_at : ℕ → Scan → Open
closed_at k s = record { depth = s.depth - 1; first = s.first; tokens = closed_tokens k s }

pub right_closes : (n : ℕ) (text : List ℕ) (c : ℕ) (s : Scan) → IsFirst n text c s → byte_class c ≡ classes.RightParen → eqb s.depth 0 ≡ false → eqb s.depth 1 ≡ false
    → IsReady n text (arrived s.kept (past c s.at) (closed_at (s.at.index - s.start.index + 1) s))
right_closes n text c s f e some more =
    through n text c s (closed_at (s.at.index - s.start.index + 1) s) f.facing f.limit (λ cs.
    paren_next n text c s kinds.RightParen cs f (λ ds. right_at s.depth c ds e)
    ∙ (rw (some, more) refl ∙ ap (λ k. Move k (closed_at k s)) (one_byte n text c s f)))

pub right_ends : (n : ℕ) (text : List ℕ) (c : ℕ) (s : Scan) → IsFirst n text c s → byte_class c ≡ classes.RightParen → eqb s.depth 0 ≡ false → eqb s.depth 1 ≡ true
    → IsForm n text (closed_tokens (s.at.index - s.start.index + 1) s) × IsReady (n + 1) text (begun s.kept (past c s.at))
right_ends n text c s f e some one =
    let place : s.at ≡ s.start = same_place n text c s f in
    let form : List TokenRecord = closed_tokens (s.at.index - s.start.index + 1) s in
    let front : ahead text s ≡ c ∷ drop (s.start.index + 1) text = ahead_first n text c s f.facing place in
    let next : (more : List ℕ) → next_at (ahead text s ++ more) s.start (open_of s) ≡ Give form = λ more.
    ap (λ xs. next_at (xs ++ more) s.start (open_of s)) front
    ∙ (ap (λ xs. next_at (xs ++ c ∷ (drop (s.start.index + 1) text ++ more)) s.start (open_of s)) (sym (none_scanned n text c s f))
    ∙ (paren_next n text c s kinds.RightParen (drop (s.start.index + 1) text ++ more) f (λ ds. right_at s.depth c ds e)
    ∙ (rw (some, one) refl ∙ ap (λ k. Give (closed_tokens k s)) (one_byte n text c s f)))) in
    let both : IsForm n text form × IsReady (n + 1) text (begun s.kept (past c s.start)) = given n text s c form f.facing place f.limit next in
    (both.0, subst (λ p. IsReady (n + 1) text (begun s.kept (past c p))) (sym place) both.1)

-- the end of the text

read_unended : (bytes : List ℕ) (place : Place) (o : Open) (whole : Bool) → lexeme_at o.depth bytes ≡ Unended whole → place.index + length bytes ≤ max_bytes
    → read bytes 0 place o ≡ halted (unended whole place o)
read_unended [] place o whole e h =
    let w : Unended true ≡ Unended whole = sym (nothing o.depth) ∙ e in
    let v : true ≡ whole = cc in
    read_nothing place o ∙ ap (λ b. halted (unended b place o)) v
read_unended (c ∷ cs) place o whole e h = read_end c cs place o (unended whole place o) (next_unended (c ∷ cs) place o whole e h)

pub at_end : (n : ℕ) (text : List ℕ) (s : Scan) → IsReady n text s → s.at.index ≡ length text
    → without n (reading_of text) ≡ halted (unended (is_some (kind_in s.mode (scanned text s))) s.start (open_of s))
at_end n text s r end =
    let le : s.start.index ≤ s.at.index = r.order in
    let limit : s.at.index ≤ max_bytes = r.limit in
    let len : length (ahead text s) ≡ s.at.index - s.start.index = length-drop s.start.index text ∙ ap (λ k. k - s.start.index) (sym end) in
    let all : scanned text s ≡ ahead text s = ap (λ k. take k (ahead text s)) (sym len) ∙ take-length (ahead text s) in
    let lexeme : lexeme_at s.depth (ahead text s) ≡ Unended (is_some (kind_in s.mode (scanned text s))) =
    ap (λ xs. lexeme_at s.depth xs) (sym all) ∙ cut s.mode s.depth (scanned text s) r.fits in
    ap (λ xs. without n (reading_of xs)) (sym (append_nil text)) ∙ (r.reads [] ∙ (ap (λ xs. read xs 0 s.start (open_of s)) (append_nil (ahead text s))
    ∙ read_unended (ahead text s) s.start (open_of s) (is_some (kind_in s.mode (scanned text s))) lexeme (omega arith)))

no_stop : (b whole : Bool) (place first : Place) → stop_fault (cond b Between (Within (cond whole (fault_at 2 first) (fault_at 1 place)))) ≡ None
no_stop true whole place first = refl
no_stop false whole place first = refl

-- Nothing is due at the end of the text.
pub none_at_end : (n : ℕ) (text : List ℕ) (s : Scan) → IsReady n text s → s.at.index ≡ length text → (next_form_of text n ≡ None) × (fault_of text ≡ None)
none_at_end n text s r end =
    let e : without n (reading_of text) ≡ halted (unended (is_some (kind_in s.mode (scanned text s))) s.start (open_of s)) = at_end n text s r end in (
      none_from n (forms_of text) (ap (λ r. r.forms) e),
      ap (λ r. stop_fault r.end) e ∙ no_stop (eqb s.depth 0) (is_some (kind_in s.mode (scanned text s))) s.start s.first,
    )

pub outside_at_end : (n : ℕ) (text : List ℕ) (s : Scan) → IsReady n text s → s.at.index ≡ length text → eqb s.depth 0 ≡ true → None ≡ end_fault_of text
outside_at_end n text s r end e =
    let w : end_fault_of text ≡ within_fault (unended (is_some (kind_in s.mode (scanned text s))) s.start (open_of s)) = ap (λ r. within_fault r.end) (at_end n text s r end) in
    sym (w ∙ rw e refl)

pub inside_at_end : (n : ℕ) (text : List ℕ) (s : Scan) (whole : Bool) → IsReady n text s → s.at.index ≡ length text → eqb s.depth 0 ≡ false → is_some (kind_in s.mode (scanned text s)) ≡ whole
    → Some (cond whole (fault_at 2 s.first) (fault_at 1 s.start)) ≡ end_fault_of text
inside_at_end n text s whole r end e k =
    let w : end_fault_of text ≡ within_fault (unended (is_some (kind_in s.mode (scanned text s))) s.start (open_of s)) = ap (λ r. within_fault r.end) (at_end n text s r end) in
    sym (w ∙ rw (e, k) refl)

-- a fault of the text is due once its forms were given
pub fault_due : (n : ℕ) (text : List ℕ) (fault : ScriptFault) → IsStopped n text fault → due_fault None text n ≡ Some fault
fault_due n text fault stopped =
    let e : without n (reading_of text) ≡ halted (Stopped fault) = ap (λ xs. without n (reading_of xs)) (sym (append_nil text)) ∙ stopped [] in
    let none : next_form_of text n ≡ None = none_from n (forms_of text) (ap (λ r. r.forms) e) in
    rw none (ap (λ r. stop_fault r.end) e)

pub form_due : (n : ℕ) (text : List ℕ) (form : List TokenRecord) → IsForm n text form → next_form_of text n ≡ Some form
form_due n text form is = ap (λ xs. next_form_of xs n) (sym (append_nil text)) ∙ is []

-- a fault that a call returns, and its place as the clauses name it
pub stop_at : (stop : LexStop) (code : ℕ) (p q : Place) (n : ℕ) (text : List ℕ) (s : Scan) → stop ≡ Fault (fault_at code p) → p ≡ q → IsStopped n text (fault_at code q) → AfterStop stop n text s
stop_at stop code p q n text s e place h = subst (λ t. AfterStop t n text s) (sym e) (subst (λ r. IsStopped n text (fault_at code r)) (sym place) h)

-- a stop that is handed on
pub stop_after : (r : Result (Option (List TokenRecord)) LexStop) (stop : LexStop) (n : ℕ) (text : List ℕ) (s : Scan) → IsErrAnd r (λ e. e ≡ stop) → AfterStop stop n text s → AfterTake r n text s
stop_after (Ok x) stop n text s e h = absurd e
stop_after (Err other) stop n text s e h = subst (λ t. AfterStop t n text s) (sym e) h

-- the state with one more open parenthesis, with one fewer, and without a form that was given
abbrev pub deepened : Place → Scan → Scan
deepened first s = record s { depth = s.depth + 1; first = first }

abbrev pub risen : Scan → Scan
risen s = record s { depth = s.depth - 1 }

abbrev pub taken : Scan → Scan
taken s = record s { first = s.at; tokens = [] }

-- the class that is left where it is none of those that begin something
pub other_class : (class : ByteClass) → IsNoParenthesis class → (class ≡ classes.White → ⊥) → (class ≡ classes.Semicolon → ⊥) → (class ≡ classes.Bar → ⊥)
    → (class ≡ classes.Quote → ⊥) → (class ≡ classes.Colon → ⊥) → (class ≡ classes.Hash → ⊥) → (class ≡ classes.Word → ⊥) → class ≡ classes.Other
other_class classes.White p a b c d e f g = absurd (a refl)
other_class classes.Semicolon p a b c d e f g = absurd (b refl)
other_class classes.LeftParen p a b c d e f g = absurd p
other_class classes.RightParen p a b c d e f g = absurd p
other_class classes.Bar p a b c d e f g = absurd (c refl)
other_class classes.Quote p a b c d e f g = absurd (d refl)
other_class classes.Colon p a b c d e f g = absurd (e refl)
other_class classes.Hash p a b c d e f g = absurd (f refl)
other_class classes.Word p a b c d e f g = absurd (g refl)
other_class classes.Other p a b c d e f g = refl

pub no_parenthesis : (class : ByteClass) → (class ≡ classes.LeftParen → ⊥) → (class ≡ classes.RightParen → ⊥) → IsNoParenthesis class
no_parenthesis classes.White a b = tt
no_parenthesis classes.Semicolon a b = tt
no_parenthesis classes.LeftParen a b = a refl
no_parenthesis classes.RightParen a b = b refl
no_parenthesis classes.Bar a b = tt
no_parenthesis classes.Quote a b = tt
no_parenthesis classes.Colon a b = tt
no_parenthesis classes.Hash a b = tt
no_parenthesis classes.Word a b = tt
no_parenthesis classes.Other a b = tt

-- a test that fails
pub other_test : (a b : ℕ) → (a ≡ b → ⊥) → eqb a b ≡ false
other_test a b ne = elim (eqb_tells a b) [ inl h ↦ absurd (ne h.1) | inr h ↦ h.0 ]
