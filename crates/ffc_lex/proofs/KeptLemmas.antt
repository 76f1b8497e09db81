-- What a lexer keeps, at its start and where a piece comes.
use Rattle.std.proofs.Common.{◌≡◌, ℕ, ◌+◌, ◌-◌, ◌≤◌, suc, List, [], ◌++◌, length, take, drop, refl, sym, ap, ◌∙◌, subst, arith, append_assoc, min, Option, Some, None, unwrap_or}
use Rattle.std.specs.Prelude.{MatchOption, All, Contains}
use Rattle.std.proofs.Math.Nat.{min_comm}
use Rattle.std.proofs.Math.Seq.{take-append-add, drop-nil}
use Rattle.std.proofs.lemmas.List.{append-nil, drop-append-le, take-append-le, length-append, length-drop, take_min}
use Rattle.std.proofs.lemmas.List.Elements.{All-nil, All-same}
use Rattle.ffc_lex.specs.declared.tokens.Token.{Token}
use Rattle.ffc_lex.specs.declared.faults.ScriptFault.{ScriptFault}
use Rattle.ffc_lex.specs.Limits.{max_bytes}
use Rattle.ffc_lex.specs.Reading.{place_after, origin, read, reading_of, fault_of}
use Rattle.ffc_lex.specs.Scan.{Scan, Fits, IsBetween, IsForm, IsHeld, IsReady, first_start, without, ahead, scanned, open_of, begun}
use Rattle.ffc_lex.specs.Kept.{IsKept, IsLastForm}
use Rattle.ffc_lex.specs.Lexing.{Lexing, IsRead, extended, last_form_of, next_form_of, due_fault}
use Rattle.ffc_lex.proofs.HeldLemmas.{first_le}

pub ready_first : IsReady 0 [] (begun 0 origin)
unfolding reading_of
ready_first = record {
  within = omega arith;
  few = omega arith;
  order = omega arith;
  limit = omega arith;
  place = refl;
  reads = λ more. refl;
  fits = refl;
}

pub ready_extends : (n : ℕ) (text piece : List ℕ) (s : Scan) → IsReady n text s → IsReady n (text ++ piece) s
ready_extends n text piece s r =
    let within : s.at.index ≤ length text = r.within in
    let order : s.start.index ≤ s.at.index = r.order in
    let front : ahead (text ++ piece) s ≡ ahead text s ++ piece = drop-append-le s.start.index text piece (omega arith) in
    let len : length (ahead text s) ≡ length text - s.start.index = length-drop s.start.index text in
    let same : scanned (text ++ piece) s ≡ scanned text s =
    ap (λ xs. take (s.at.index - s.start.index) xs) front ∙ take-append-le (s.at.index - s.start.index) (ahead text s) piece (omega arith) in
    record {
      within = omega (arith, length-append text piece);
      few = r.few;
      order = r.order;
      limit = r.limit;
      place = r.place ∙ ap (λ xs. place_after xs s.start) (sym same);
      reads = λ more.
          ap (λ xs. without n (reading_of xs)) (append_assoc text piece more)
          ∙ (r.reads (piece ++ more) ∙ ap (λ xs. read xs 0 s.start (open_of s)) (sym (append_assoc (ahead text s) piece more) ∙ ap (λ xs. xs ++ more) (sym front)));
      fits = subst (λ xs. Fits s.mode s.depth xs) (sym same) r.fits;
    }

-- a text with a piece after it, up to the first byte past the limit
front_of : (text piece : List ℕ) (limit room : ℕ) → limit ≡ length text + room → text ++ take (min (length piece) room) piece ≡ take limit (text ++ piece)
front_of text piece limit room e =
    let front : take (min (length piece) room) piece ≡ take room piece = ap (λ k. take k piece) (min_comm (length piece) room) ∙ take_min room piece in
    ap (λ xs. text ++ xs) front ∙ (sym (take-append-add text piece room) ∙ ap (λ k. take k (text ++ piece)) (sym e))

pub extended_by : (text piece : List ℕ) (limit : ℕ) → length text ≤ limit → text ++ take (min (length piece) (limit - length text)) piece ≡ take limit (text ++ piece)
extended_by text piece limit few = front_of text piece limit (limit - length text) (omega arith)

-- a lexer's value after a piece, and after a fault
pub fed : (inner outer : Lexing) (piece text : List ℕ) → inner ≡ outer → text ≡ extended inner.text piece → (let x : Lexing = record inner { text = text } in x) ≡ (let y : Lexing = record outer { text = extended outer.text piece } in y)
fed inner outer piece text same e =
    ap (λ xs. let x : Lexing = record inner { text = xs } in x) e ∙ ap (λ (l : Lexing). let x : Lexing = record l { text = extended l.text piece } in x) same

-- what a lexer keeps, where nothing has come
pub kept_first : (text held bytes : List ℕ) (s : Scan) → text ≡ [] → held ≡ [] → s ≡ begun 0 origin → IsKept text 0 None s held bytes 0 0
kept_first text held bytes s none empty first =
    let low : s.kept ≡ 0 = ap (λ v. v.kept) first in
    record {
      limit = omega (arith, ap length none);
      ready = λ _. subst (λ xs. IsReady 0 xs s) (sym none) (subst (λ v. IsReady 0 [] v) (sym first) ready_first);
      window = empty ∙ sym (ap (λ xs. drop s.kept xs) none ∙ drop-nil s.kept);
      form = record { tokens = λ more. All-nil (IsBetween 0 0); order = omega arith; ended = omega arith; beside = λ lt. absurd (omega (arith, lt, low)) };
    }

-- where the scanner has gone on
pub kept_on : (text : List ℕ) (given : ℕ) (fault later : Option ScriptFault) (s t : Scan) (held bytes : List ℕ) (start end : ℕ)
    → IsKept text given fault s held bytes start end → t.kept ≡ s.kept → (later ≡ None → IsReady given text t) → IsKept text given later t held bytes start end
kept_on text given fault later s t held bytes start end k same ready = record {
  limit = k.limit;
  ready = ready;
  window = k.window ∙ ap (λ i. drop i text) (sym same);
  form = record { tokens = k.form.tokens; order = k.form.order; ended = k.form.ended; beside = λ lt. k.form.beside (omega (arith, lt, same)) };
}

-- where it has given a form
pub kept_gives : (text : List ℕ) (given : ℕ) (fault : Option ScriptFault) (s t : Scan) (held bytes : List ℕ) (start end first last : ℕ) (form : List Token)
    → IsKept text given fault s held bytes start end → t.kept ≡ s.kept → IsForm given text form → IsReady (given + 1) text t → IsHeld s.kept t.at.index t.at.index form
    → last ≡ t.at.index → first ≡ first_start form last → IsKept text (given + 1) fault t held bytes first last
kept_gives text given fault s t held bytes start end first last form k same is ready spans last_is first_is =
    let span : IsHeld s.kept last last form = subst (λ i. IsHeld s.kept i i form) (sym last_is) spans in
    let order : first_start form last ≤ last = first_le s.kept last last form (omega arith) span in
    let within : t.at.index ≤ length text = ready.within in
    let next : given + 1 ≡ suc given = omega arith in
    record {
      limit = k.limit;
      ready = λ _. ready;
      window = k.window ∙ ap (λ i. drop i text) (sym same);
      form = record {
        tokens = λ more.
            let it : last_form_of (text ++ more) (given + 1) ≡ form = ap (λ i. last_form_of (text ++ more) i) next ∙ ap (λ o. unwrap_or o []) (is more) in
            subst (λ low. All (IsBetween low last) (last_form_of (text ++ more) (given + 1))) (sym first_is)
            (All-same (IsBetween (first_start form last) last) (last_form_of (text ++ more) (given + 1)) form it span.between);
        order = omega (arith, order, first_is);
        ended = omega (arith, within, last_is);
        beside = λ lt. absurd (omega (arith, lt, span.kept, first_is, same));
      };
    }

-- where a piece has come
pub kept_fed : (text piece more : List ℕ) (given : ℕ) (fault : Option ScriptFault) (s : Scan) (held wider bytes : List ℕ) (start end : ℕ)
    → IsKept text given fault s held bytes start end → s.kept ≤ length text → wider ≡ held ++ piece → more ≡ text ++ piece → length text + length piece ≤ max_bytes + 1
    → IsKept more given fault s wider bytes start end
kept_fed text piece more given fault s held wider bytes start end k low wider_is more_is few =
    let ended : end ≤ length text = k.form.ended in
    let order : start ≤ end = k.form.order in
    let len : length (drop start text) ≡ length text - start = length-drop start text in
    let all : IsKept (text ++ piece) given fault s wider bytes start end = record {
      limit = omega (arith, few, length-append text piece);
      ready = λ none. ready_extends given text piece s (k.ready none);
      window = wider_is ∙ (ap (λ xs. xs ++ piece) k.window ∙ sym (drop-append-le s.kept text piece low));
      form = record {
        tokens = λ rest. subst (λ xs. All (IsBetween start end) (last_form_of xs given)) (sym (append_assoc text piece rest)) (k.form.tokens (piece ++ rest));
        order = order;
        ended = omega (arith, ended, length-append text piece);
        beside = λ lt. k.form.beside lt ∙ (sym (take-append-le (end - start) (drop start text) piece (omega (arith, ended, order, len)))
            ∙ ap (λ xs. take (end - start) xs) (sym (drop-append-le start text piece (omega (arith, ended, order)))));
      };
    } in
    subst (λ xs. IsKept xs given fault s wider bytes start end) (sym more_is) all

-- where a token of the last form is
pub token_within : (token : Token) (text : List ℕ) (given kept : ℕ) (bytes : List ℕ) (start end : ℕ) → IsLastForm text given kept bytes start end
    → Contains (last_form_of text given) token → IsBetween start end token
token_within token text given kept bytes start end form is =
    let all : All (IsBetween start end) (last_form_of text given) = subst (λ xs. All (IsBetween start end) (last_form_of xs given)) (append-nil text) (form.tokens []) in
    subst (λ t. IsBetween start end t) is.2 (all is.0 token is.1)

-- no fault is due before a form, nor where the text has none
pub no_fault_before : (n : ℕ) (text : List ℕ) (form : List Token) → next_form_of text n ≡ Some form → due_fault None text n ≡ None
no_fault_before n text form e = rw e refl

pub no_fault_after : (n : ℕ) (text : List ℕ) → (next_form_of text n ≡ None) × (fault_of text ≡ None) → due_fault None text n ≡ None
no_fault_after n text e = rw e.0 e.1

-- what is known where the text so far was read
pub read_out : (l : Lexing) → IsRead l → l.fault ≡ None → (next_form_of l.text l.given ≡ None) × (fault_of l.text ≡ None)
read_out l read none = subst (λ o. MatchOption o ((next_form_of l.text l.given ≡ None) × (fault_of l.text ≡ None)) (λ _. Unit {0})) none read
