-- What a step of the scanner keeps.
use Rattle.std.proofs.Common.{◌≡◌, ℕ, ◌+◌, ◌-◌, ◌<◌, ◌≤◌, List, [], ◌∷◌, ◌++◌, length, take, drop, refl, sym, ap, ◌∙◌, subst, arith, Some}
use Rattle.std.specs.List.{slice_get}
use Rattle.std.proofs.Math.Nat.{sub_self}
use Rattle.std.proofs.Math.Seq.{take-append-add}
use Rattle.std.proofs.lemmas.List.{drop-append-le, take-append-le, take-append-drop, length-drop, length-take-le, drop_more, length-append}
use Rattle.std.proofs.lemmas.Option.{slice_get_within, get_or_from_slice_get}
use Rattle.ffc_lex.specs.declared.tokens.Place.{Place}
use Rattle.ffc_lex.specs.declared.tokens.Token.{Token as TokenRecord}
use Rattle.ffc_lex.specs.declared.faults.ScriptFault.{ScriptFault}
use Rattle.ffc_lex.specs.declared.modes.Mode.{Mode}
use Rattle.ffc_lex.specs.declared.modes.Mode.TheVariants as modes
use Rattle.ffc_lex.specs.Limits.{max_bytes}
use Rattle.ffc_lex.specs.Reading.{Open, Reading, End, Stopped, Halt, Move, Give, past, place_after, with_form, outside, next_at, read, reading_of, forms_of}
use Rattle.ffc_lex.specs.Scan.{Scan, Fits, IsReady, IsFacing, IsStopped, IsForm, without, ahead, scanned, open_of, begun, moved}
use Rattle.ffc_lex.proofs.ListLemmas.{drop-drop, rest_from}
use Rattle.ffc_lex.proofs.ReadingLemmas.{read_after, read_form, read_end}

-- the place after one more byte
pub place_after-snoc : (xs : List ℕ) (c : ℕ) (place : Place) → place_after (xs ++ c ∷ []) place ≡ past c (place_after xs place)
place_after-snoc [] c place = refl
place_after-snoc (x ∷ xs) c place = place_after-snoc xs c (past x place)

pub within_text : (n : ℕ) (text : List ℕ) (c : ℕ) (s : Scan) → IsFacing n text c s → s.at.index < length text
within_text n text c s f = slice_get_within text s.at.index c f.next

-- the text from the start of what is being scanned on, at the next byte
pub ahead_split : (n : ℕ) (text : List ℕ) (c : ℕ) (s : Scan) → IsFacing n text c s → ahead text s ≡ scanned text s ++ c ∷ drop (s.at.index + 1) text
ahead_split n text c s f =
    let lt : s.at.index < length text = within_text n text c s f in
    let le : s.start.index ≤ s.at.index = f.ready.order in
    let i : s.start.index + (s.at.index - s.start.index) ≡ s.at.index = omega arith in
    let front : scanned text s ++ drop (s.at.index - s.start.index) (ahead text s) ≡ ahead text s = take-append-drop (s.at.index - s.start.index) (ahead text s) in
    let back : drop (s.at.index - s.start.index) (ahead text s) ≡ c ∷ drop (s.at.index + 1) text =
    drop-drop (s.at.index - s.start.index) s.start.index text ∙ (ap (λ k. drop k text) i ∙ (drop_more text s.at.index c lt
    ∙ ap (λ d. d ∷ drop (s.at.index + 1) text) (get_or_from_slice_get text s.at.index c c f.next))) in
    sym front ∙ ap (λ xs. scanned text s ++ xs) back

pub length-scanned : (n : ℕ) (text : List ℕ) (s : Scan) → IsReady n text s → length (scanned text s) ≡ s.at.index - s.start.index
length-scanned n text s r =
    let a : s.at.index ≤ length text = r.within in
    let b : s.start.index ≤ s.at.index = r.order in
    length-take-le (s.at.index - s.start.index) (ahead text s) (rw length-drop (omega arith))

-- the bytes that were looked at, and one more
pub scanned-snoc : (n : ℕ) (text : List ℕ) (c : ℕ) (s : Scan) → IsFacing n text c s → take (s.at.index + 1 - s.start.index) (ahead text s) ≡ scanned text s ++ c ∷ []
scanned-snoc n text c s f =
    let lt : s.at.index < length text = within_text n text c s f in
    let le : s.start.index ≤ s.at.index = f.ready.order in
    let i : s.at.index + 1 - s.start.index ≡ length (scanned text s) + 1 = omega (arith, length-scanned n text s f.ready) in
    ap (λ k. take k (ahead text s)) i ∙ (ap (λ xs. take (length (scanned text s) + 1) xs) (ahead_split n text c s f)
    ∙ take-append-add (scanned text s) (c ∷ drop (s.at.index + 1) text) 1)

-- a byte that stays in what is being scanned
pub stays : (n : ℕ) (text : List ℕ) (c : ℕ) (s : Scan) (mode : Mode) → IsFacing n text c s → s.at.index < max_bytes → Fits mode s.depth (scanned text s ++ c ∷ [])
    → IsReady n text (moved c (record s { mode = mode }))
stays n text c s mode f l fits =
    let lt : s.at.index < length text = within_text n text c s f in
    let le : s.start.index ≤ s.at.index = f.ready.order in
    let few : n ≤ s.at.index = f.ready.few in
    record {
      within = omega arith;
      few = omega arith;
      order = omega arith;
      limit = omega arith;
      place = ap (λ p. past c p) f.ready.place ∙ (sym (place_after-snoc (scanned text s) c s.start) ∙ ap (λ xs. place_after xs s.start) (sym (scanned-snoc n text c s f)));
      reads = f.ready.reads;
      fits = subst (λ xs. Fits mode s.depth xs) (sym (scanned-snoc n text c s f)) fits;
    }

-- the place after so many bytes, and what is scanned from there on
abbrev pub arrived : ℕ → Place → Open → Scan
arrived kept place left = record { kept = kept; at = place; start = place; mode = modes.Between; depth = left.depth; first = left.first; tokens = left.tokens }

-- bytes that are read
pub consumed : (n : ℕ) (text : List ℕ) (s : Scan) (k : ℕ) (place : Place) (left : Open)
    → IsReady n text s → 0 < k → s.start.index + k ≤ length text → place.index ≡ s.start.index + k → place.index ≤ max_bytes → n ≤ place.index
    → place ≡ place_after (take k (ahead text s)) s.start
    → ((more : List ℕ) → next_at (ahead text s ++ more) s.start (open_of s) ≡ Move k left)
    → IsReady n text (arrived s.kept place left)
consumed n text s k place left r some inside index limit few at next =
    let len : length (ahead text s) ≡ length text - s.start.index = length-drop s.start.index text in
    let fits : k ≤ length (ahead text s) = omega arith in
    let none : place.index - place.index ≡ 0 = sub_self place.index in
    record {
      within = omega arith;
      few = few;
      order = omega arith;
      limit = limit;
      place = sym (ap (λ i. place_after (take i (drop place.index text)) place) none);
      reads = λ more.
          let room : k ≤ length (ahead text s ++ more) = omega (arith, length-append (ahead text s) more) in
          let rest : drop k (ahead text s ++ more) ≡ drop place.index text ++ more =
          drop-append-le k (ahead text s) more fits ∙ ap (λ xs. xs ++ more) (drop-drop k s.start.index text ∙ ap (λ i. drop i text) (sym index)) in
          let before : place_after (take k (ahead text s ++ more)) s.start ≡ place =
          ap (λ xs. place_after xs s.start) (take-append-le k (ahead text s) more fits) ∙ sym at in
          r.reads more ∙ (read_after k (ahead text s ++ more) s.start (open_of s) left some room (next more)
          ∙ (ap (λ xs. read xs 0 (place_after (take k (ahead text s ++ more)) s.start) left) rest ∙ ap (λ p. read (drop place.index text ++ more) 0 p left) before));
      fits = ap (λ i. take i (drop place.index text)) none;
    }

-- a text fault
pub stopped : (n : ℕ) (text : List ℕ) (s : Scan) (c : ℕ) (cs : List ℕ) (fault : ScriptFault) → IsReady n text s → ahead text s ≡ c ∷ cs
    → ((more : List ℕ) → next_at (ahead text s ++ more) s.start (open_of s) ≡ Halt (Stopped fault))
    → IsStopped n text fault
stopped n text s c cs fault r e next more =
    let e' : ahead text s ++ more ≡ c ∷ (cs ++ more) = ap (λ xs. xs ++ more) e in
    r.reads more ∙ (ap (λ xs. read xs 0 s.start (open_of s)) e'
    ∙ read_end c (cs ++ more) s.start (open_of s) (Stopped fault) (subst (λ xs. next_at xs s.start (open_of s) ≡ Halt (Stopped fault)) e' (next more)))

reading_same : (r s : Reading) → r.forms ≡ s.forms → r.end ≡ s.end → r ≡ s
reading_same r s forms end =
    let half : Reading = record { forms = s.forms; end = r.end } in
    let first : r ≡ half = ap (λ (f : List (List TokenRecord)). let x : Reading = record { forms = f; end = r.end } in x) forms in
    let second : half ≡ s = ap (λ (e : End). let x : Reading = record { forms = s.forms; end = e } in x) end in
    first ∙ second

-- between two tokens nothing is being scanned
pub at_start : (n : ℕ) (text : List ℕ) (s : Scan) → IsReady n text s → s.mode ≡ modes.Between → s.at ≡ s.start
at_start n text s r mode =
    let none : scanned text s ≡ [] = subst (λ m. Fits m s.depth (scanned text s)) mode r.fits in
    r.place ∙ ap (λ xs. place_after xs s.start) none

-- the text from the next byte on, where nothing is being scanned
pub ahead_first : (n : ℕ) (text : List ℕ) (c : ℕ) (s : Scan) → IsFacing n text c s → s.at ≡ s.start → ahead text s ≡ c ∷ drop (s.start.index + 1) text
ahead_first n text c s f same =
    let i : s.at.index ≡ s.start.index = ap (λ p. p.index) same in
    let none : s.at.index - s.start.index ≡ 0 = omega arith in
    ahead_split n text c s f ∙ (ap (λ k. take k (ahead text s) ++ c ∷ drop (s.at.index + 1) text) none ∙ ap (λ k. c ∷ drop (k + 1) text) i)

-- the end of a form
pub given : (n : ℕ) (text : List ℕ) (s : Scan) (c : ℕ) (form : List TokenRecord) → IsFacing n text c s → s.at ≡ s.start → s.at.index < max_bytes
    → ((more : List ℕ) → next_at (ahead text s ++ more) s.start (open_of s) ≡ Give form)
    → IsForm n text form × IsReady (n + 1) text (begun s.kept (past c s.start))
given n text s c form f same limit next =
    let place : Place = past c s.start in
    let rest : List ℕ = drop (s.start.index + 1) text in
    let i : s.at.index ≡ s.start.index = ap (λ p. p.index) same in
    let lt : s.at.index < length text = within_text n text c s f in
    let few : n ≤ s.at.index = f.ready.few in
    let e : ahead text s ≡ c ∷ rest = ahead_first n text c s f same in
    let none : place.index - place.index ≡ 0 = sub_self place.index in
    let reads : (more : List ℕ) → without n (reading_of (text ++ more)) ≡ with_form form (read (rest ++ more) 0 place (outside place)) =
    λ more. f.ready.reads more ∙ (ap (λ xs. read (xs ++ more) 0 s.start (open_of s)) e
    ∙ read_form c (rest ++ more) s.start (open_of s) form (subst (λ xs. next_at (xs ++ more) s.start (open_of s) ≡ Give form) e (next more))) in
    let parts : (more : List ℕ) → (drop (n + 1) (forms_of (text ++ more)) ≡ (read (rest ++ more) 0 place (outside place)).forms) × (slice_get (forms_of (text ++ more)) n ≡ Some form) =
    λ more. rest_from n (forms_of (text ++ more)) form (read (rest ++ more) 0 place (outside place)).forms (ap (λ r. r.forms) (reads more)) in (
      (λ more. (parts more).1),
      record {
        within = omega arith;
        few = omega arith;
        order = omega arith;
        limit = omega arith;
        place = sym (ap (λ k. place_after (take k (drop place.index text)) place) none);
        reads = λ more. reading_same (without (n + 1) (reading_of (text ++ more))) (read (rest ++ more) 0 place (outside place)) (parts more).0 (ap (λ r. r.end) (reads more));
        fits = ap (λ k. take k (drop place.index text)) none;
      },
    )
