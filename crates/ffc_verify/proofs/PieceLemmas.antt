-- Reading a text piece by piece.
use Rattle.std.proofs.Common.{Bool, ◌≡◌, ℕ, ◌+◌, ◌≤◌, inl, inr, List, [], ◌++◌, length, take, drop, Option, Some, None, MatchOption, Result, Ok, Err, OnErr, refl, sym, ap, subst, ◌∙◌, append_assoc, append-nil, arith, length-append}
use Rattle.std.specs.Option.{IfSome}
use Rattle.std.proofs.lemmas.List.{take-append-drop, take-append-le, take_all, length-take}
use Rattle.ffc_base.specs.Outside.{MovesFront}
use Rattle.ffc_cert.specs.declared.entries.CertFault.{CertFault}
use Rattle.ffc_cert.specs.declared.entries.Entry.{Entry}
use Rattle.ffc_cert.specs.declared.entries.Numbered.{Numbered}
use Rattle.ffc_cert.specs.Certificate.{Certificate, IsRead, next_entry_of, due_entry, due_fault, fault_behind, version_of}
use Rattle.ffc_cert.specs.Reading.{End, Complete, Open, Stopped, stop_fault, reading_of}
use Rattle.ffc_cert.specs.WellFormed.{IsReadableIn}
use Rattle.ffc_check.specs.Judged.{IsReadableEntry}
use Rattle.ffc_verify.specs.declared.entries.NextEntry.{NextEntry}
use Rattle.ffc_verify.specs.declared.entries.NextEntry.TheVariants as next
use Rattle.ffc_verify.specs.Status.{TakesFront}
use Rattle.ffc_verify.specs.Reading.{MovesOn, IsAtEnd, IsReadWhole, IsOpen, Grows, IsNext, EndsAs}

-- the text is what was read of the bytes that were left first, and the others are left now
abbrev pub HasRead : Option (List ℕ) → Option (List ℕ) → List ℕ → Type 0
HasRead None now text = Unit {0}
HasRead (Some bytes) now text = (rest : List ℕ) × (bytes ≡ text ++ rest) × (now ≡ Some rest)

-- what a read says, where this was left before it
moved : (n : ℕ) (buffer rest : List ℕ) (now new : Option (List ℕ)) → now ≡ Some rest → MovesFront n buffer now new → MovesFront n buffer (Some rest) new
moved n buffer rest now new e m = let P : Option (List ℕ) → Type 0 = λ o. MovesFront n buffer o new in subst P e m

-- a piece that was read comes after the text
pub HasRead-more : (first now new : Option (List ℕ)) (text buffer : List ℕ) (n : ℕ) → HasRead first now text → MovesFront n buffer now new
    → HasRead first new (text ++ take n buffer)
HasRead-more None now new text buffer n h m = tt
HasRead-more (Some bytes) now new text buffer n (rest, e, left) m =
    let step = moved n buffer rest now new left m in
    (drop n rest, e ∙ ap (λ piece. text ++ piece) (sym (take-append-drop n rest)) ∙ rw (step.1, append_assoc) refl, step.2)

-- all that may be read was read
pub HasRead-enough : (first now : Option (List ℕ)) (text : List ℕ) → HasRead first now text → length text ≡ 67108865
    → IfSome first (λ bytes. text ≡ take 67108865 bytes)
HasRead-enough None now text h e = tt
HasRead-enough (Some bytes) now text (rest, is, left) e =
    rw is (sym (take-append-le 67108865 text rest (omega arith) ∙ take_all 67108865 text (omega arith)))

-- there is no more to read
pub HasRead-all : (first now new : Option (List ℕ)) (text buffer : List ℕ) (n : ℕ) → HasRead first now text → MovesFront n buffer now new → n ≡ 0
    → length text ≤ 67108865 → IfSome first (λ bytes. text ≡ take 67108865 bytes)
HasRead-all None now new text buffer n h m e few = tt
HasRead-all (Some bytes) now new text buffer n (rest, is, left) m e few =
    let step = moved n buffer rest now new left m in
    let whole : bytes ≡ text = is ∙ rw (step.3 e) (append-nil text) in
    rw whole (sym (take_all 67108865 text few))

-- what was read was taken
read_takes : (first now : Option (List ℕ)) (text : List ℕ) → HasRead first now text → length text ≤ 67108865 → IfSome first (λ bytes. TakesFront bytes now)
read_takes None now text h few = tt
read_takes (Some bytes) now text (rest, is, left) few = record { text = text; rest = rest; split = is; left = left; few = few }

-- so it was where nothing more is taken
pub same_takes : (first now last : Option (List ℕ)) (text : List ℕ) → HasRead first now text → last ≡ now → length text ≤ 67108865 → IfSome first (λ bytes. TakesFront bytes last)
same_takes first now last text h e few = read_takes first last text (let P : Option (List ℕ) → Type 0 = λ o. HasRead first o text in subst P (sym e) h) few

-- and with one more piece
pub piece_takes : (first now new last : Option (List ℕ)) (text buffer : List ℕ) (n : ℕ) → HasRead first now text → MovesFront n buffer now new → last ≡ new → length text + n ≤ 67108865
    → IfSome first (λ bytes. TakesFront bytes last)
piece_takes first now new last text buffer n h m e few =
    let short : length (take n buffer) ≤ n = let e = length-take n buffer in omega arith in
    same_takes first new last (text ++ take n buffer) (HasRead-more first now new text buffer n h m) e (omega (arith, length-append text (take n buffer)))

-- a call that read nothing took nothing
pub nothing_takes : (left : Option (List ℕ)) → IfSome left (λ bytes. TakesFront bytes left)
nothing_takes None = tt
nothing_takes (Some bytes) = record { text = []; rest = bytes; split = refl; left = refl; few = omega arith }

-- what holds anyway holds at an error
pub on_err : {T E : Type 0} (r : Result T E) (P : Type 0) → P → OnErr r P
on_err (Ok x) P h = tt
on_err (Err e) P h = h

-- The entries of a certificate

readable_in : (version : Option ℕ) (entry : Entry) → IsReadableIn version entry → IsReadableEntry entry
readable_in None entry h = absurd h
readable_in (Some version) entry h = (version, h)

behind_is : (o : Option Numbered) (bits : Bool) (wanted : ℕ) (text : List ℕ) (f : CertFault) → fault_behind o bits wanted text ≡ Some f → (o ≡ None) × (stop_fault (reading_of bits wanted text).end ≡ Some f)
behind_is None bits wanted text f e = (refl, e)
behind_is (Some entry) bits wanted text f e = cc

stopped_is : (end : End) (f : CertFault) → stop_fault end ≡ Some f → end ≡ Stopped f
stopped_is Complete f e = cc
stopped_is (Open g) f e = cc
stopped_is (Stopped g) f e = let same : g ≡ f = cc in ap Stopped same

-- the reader has read on, and has met no fault
pub record HasReadOn (old : Certificate) (left : Option (List ℕ)) (new : Certificate) (now : Option (List ℕ)) : Type 0 where
  pub same : new ≡ record old { text = new.text }
  pub grows : Grows old new
  pub moves : MovesOn old.text left new.text now

pub moves_further : (a b c : List ℕ) (l m n : Option (List ℕ)) → MovesOn a l b m → MovesOn b m c n → MovesOn a l c n
moves_further a b c l m n one two = λ rest e.
    let first = one rest e in
    let second = two first.0 first.1 in
    (second.0, second.1, first.2 ∙ second.2)

pub grows_further : (a b c : Certificate) → Grows a b → Grows b c → Grows a c
grows_further a b c one two = (one.0 ++ two.0, two.1 ∙ ap (λ t. t ++ two.0) one.1 ∙ append_assoc a.text one.0 two.0)

-- at the end of what is left the text is whole
pub whole_at_end : (text later : List ℕ) (left now : Option (List ℕ)) → MovesOn text left later now → IsAtEnd now → IsReadWhole text left later
whole_at_end text later left now moves end = λ rest e.
    let m = moves rest e in
    sym (m.2 ∙ ap (λ more. later ++ more) (end m.0 m.1) ∙ append-nil later)

module _ (old : Certificate) (left : Option (List ℕ)) (ready : IsOpen old) (now : Certificate) (left_now : Option (List ℕ)) (on : HasReadOn old left now left_now) where
  pub still_open : IsOpen now
  still_open = subst IsOpen (sym on.same) (record { fault = ready.fault; unfinished = ready.unfinished })

  no_fault : now.fault ≡ None
  no_fault = still_open.fault

  -- an entry is given
  pub entry_next : (new : Certificate) (e : Numbered) → IsReadableIn (version_of now.bits now.text) e.entry → Some e ≡ due_entry now.fault now.bits now.wanted now.text now.given → new ≡ record now { given = now.given + 1 }
      → IsNext old new left (next.Entry e)
  entry_next new e readable due is =
      let here : next_entry_of now.bits now.wanted now.text now.given ≡ Some e = ap (λ o. due_entry o now.bits now.wanted now.text now.given) (sym no_fault) ∙ sym due in
      let text : new.text ≡ now.text = ap (λ c. c.text) is in
      let wanted : now.wanted ≡ old.wanted = ap (λ c. c.wanted) on.same in
      let bits : now.bits ≡ old.bits = ap (λ (c : Certificate). c.bits) on.same in
      let given : now.given ≡ old.given = ap (λ c. c.given) on.same in (
        ap (λ t. next_entry_of old.bits old.wanted t old.given) text ∙ ap (λ w. next_entry_of old.bits w now.text old.given) (sym wanted) ∙ ap (λ b. next_entry_of b now.wanted now.text old.given) (sym bits) ∙ ap (λ n. next_entry_of now.bits now.wanted now.text n) (sym given) ∙ here,
        readable_in (version_of now.bits now.text) e.entry readable,
        is ∙ ap (λ (c : Certificate). record c { given = c.given + 1 }) on.same ∙ ap (λ t. record old { text = t; given = old.given + 1 }) (sym text),
      )

  -- the text is at fault, once each of its entries was given
  pub fault_next : (new : Certificate) (f : CertFault) → due_fault now.fault now.bits now.wanted now.text now.given ≡ Some f → new.text ≡ now.text → IsNext old new left (next.Fault f)
  fault_next new f due text =
      let here : fault_behind (next_entry_of now.bits now.wanted now.text now.given) now.bits now.wanted now.text ≡ Some f = ap (λ o. due_fault o now.bits now.wanted now.text now.given) (sym no_fault) ∙ due in
      let both = behind_is (next_entry_of now.bits now.wanted now.text now.given) now.bits now.wanted now.text f here in
      let wanted : now.wanted ≡ old.wanted = ap (λ c. c.wanted) on.same in
      let bits : now.bits ≡ old.bits = ap (λ (c : Certificate). c.bits) on.same in
      let given : now.given ≡ old.given = ap (λ c. c.given) on.same in (
        ap (λ t. next_entry_of old.bits old.wanted t old.given) text ∙ ap (λ w. next_entry_of old.bits w now.text old.given) (sym wanted) ∙ ap (λ b. next_entry_of b now.wanted now.text old.given) (sym bits) ∙ ap (λ n. next_entry_of now.bits now.wanted now.text n) (sym given) ∙ both.0,
        inl (ap (λ t. (reading_of old.bits old.wanted t).end) text ∙ ap (λ w. (reading_of old.bits w now.text).end) (sym wanted) ∙ ap (λ b. (reading_of b now.wanted now.text).end) (sym bits) ∙ stopped_is (reading_of now.bits now.wanted now.text).end f both.1),
      )

  pub read_here : None ≡ due_entry now.fault now.bits now.wanted now.text now.given → due_fault now.fault now.bits now.wanted now.text now.given ≡ None → IsRead now
  read_here none sound =
      let entry : next_entry_of now.bits now.wanted now.text now.given ≡ None = ap (λ o. due_entry o now.bits now.wanted now.text now.given) (sym no_fault) ∙ sym none in
      let end : stop_fault (reading_of now.bits now.wanted now.text).end ≡ None =
      ap (λ o. fault_behind o now.bits now.wanted now.text) (sym entry) ∙ ap (λ o. due_fault o now.bits now.wanted now.text now.given) (sym no_fault) ∙ sound in
      read_by now.fault (entry, end)
    where
      read_by : (o : Option CertFault) → (next_entry_of now.bits now.wanted now.text now.given ≡ None) × (stop_fault (reading_of now.bits now.wanted now.text).end ≡ None)
          → MatchOption o ((next_entry_of now.bits now.wanted now.text now.given ≡ None) × (stop_fault (reading_of now.bits now.wanted now.text).end ≡ None)) (λ _. Unit {0})
      read_by None h = h
      read_by (Some f) h = tt

  -- the text ends here
  pub end_next : (new : Certificate) (x : NextEntry) → None ≡ due_entry now.fault now.bits now.wanted now.text now.given → EndsAs now x → new.text ≡ now.text → IsAtEnd left_now → IsNext old new left x
  end_next new (next.Entry e) none ends text end = absurd ends
  end_next new next.Complete none ends text end =
      let wanted : now.wanted ≡ old.wanted = ap (λ c. c.wanted) on.same in
      let bits : now.bits ≡ old.bits = ap (λ (c : Certificate). c.bits) on.same in
      let given : now.given ≡ old.given = ap (λ c. c.given) on.same in
      let entry : next_entry_of now.bits now.wanted now.text now.given ≡ None = ap (λ o. due_entry o now.bits now.wanted now.text now.given) (sym no_fault) ∙ sym none in (
        ap (λ t. next_entry_of old.bits old.wanted t old.given) text ∙ ap (λ w. next_entry_of old.bits w now.text old.given) (sym wanted) ∙ ap (λ b. next_entry_of b now.wanted now.text old.given) (sym bits) ∙ ap (λ n. next_entry_of now.bits now.wanted now.text n) (sym given) ∙ entry,
        ap (λ t. (reading_of old.bits old.wanted t).end) text ∙ ap (λ w. (reading_of old.bits w now.text).end) (sym wanted) ∙ ap (λ b. (reading_of b now.wanted now.text).end) (sym bits) ∙ ends,
        subst (IsReadWhole old.text left) (sym text) (whole_at_end old.text now.text left left_now on.moves end),
      )
  end_next new (next.Fault f) none ends text end =
      let wanted : now.wanted ≡ old.wanted = ap (λ c. c.wanted) on.same in
      let bits : now.bits ≡ old.bits = ap (λ (c : Certificate). c.bits) on.same in
      let given : now.given ≡ old.given = ap (λ c. c.given) on.same in
      let entry : next_entry_of now.bits now.wanted now.text now.given ≡ None = ap (λ o. due_entry o now.bits now.wanted now.text now.given) (sym no_fault) ∙ sym none in (
        ap (λ t. next_entry_of old.bits old.wanted t old.given) text ∙ ap (λ w. next_entry_of old.bits w now.text old.given) (sym wanted) ∙ ap (λ b. next_entry_of b now.wanted now.text old.given) (sym bits) ∙ ap (λ n. next_entry_of now.bits now.wanted now.text n) (sym given) ∙ entry,
        inr (
          ap (λ t. (reading_of old.bits old.wanted t).end) text ∙ ap (λ w. (reading_of old.bits w now.text).end) (sym wanted) ∙ ap (λ b. (reading_of b now.wanted now.text).end) (sym bits) ∙ ends,
          subst (IsReadWhole old.text left) (sym text) (whole_at_end old.text now.text left left_now on.moves end),
        ),
      )

  -- one more piece was read
  pub read_further : (new : Certificate) (left_new : Option (List ℕ)) → new ≡ record now { text = new.text } → Grows now new → MovesOn now.text left_now new.text left_new → HasReadOn old left new left_new
  read_further new left_new only grows moves = record {
    same = only ∙ ap (λ (c : Certificate). record c { text = new.text }) on.same;
    grows = grows_further old now new on.grows grows;
    moves = moves_further old.text now.text new.text left left_now left_new on.moves moves;
  }
