-- A fault is decided by the lines up to its own.
use Rattle.std.proofs.Common.{◌≡◌, ℕ, zero, suc, ◌+◌, ◌<◌, ◌≤◌, ◌==◌, ◌&&◌, Bool, true, false, cond, List, [], ◌∷◌, ◌++◌, length, take, ltb, Result, Ok, Err, ◌⊎◌, inl, inr, refl, sym, ap, ◌∙◌, arith, append_assoc}
use Rattle.std.specs.Prelude.{codes, nat_lt, if◌then◌else◌}
use Rattle.std.specs.List.{position_or_len, before_first, after_first}
use Rattle.std.specs.Str.{bytes_eq}
use Rattle.std.proofs.lemmas.Bool.{ltb-true, ltb-false}
use Rattle.std.proofs.lemmas.List.{take_all}
use Rattle.ffc_cert.specs.declared.TheConstants.{MAX_BYTES}
use Rattle.ffc_cert.specs.declared.flaws.Flaw.{Flaw}
use Rattle.ffc_cert.specs.declared.entries.CertFault.{CertFault}
use Rattle.ffc_cert.specs.declared.forms.Opening.{Opening}
use Rattle.ffc_cert.specs.declared.forms.Opening.TheVariants as openings
use Rattle.ffc_cert.specs.declared.progress.Place.{Place}
use Rattle.ffc_cert.specs.declared.progress.Place.TheVariants.{Header, Between, Assignment, Refutation}
use Rattle.ffc_cert.specs.declared.progress.Progress.{Progress}
use Rattle.ffc_cert.specs.Lines.{line_at, value_at, opening_at}
use Rattle.ffc_cert.specs.Reading.{Reading, Open, Stopped, Next, Halt, Move, Give, is_whole, awaited_after, fault_at, begun, with_value, with_line, limited, after, header_line, opening_line, assignment_line, refutation_line, next_in, next_at, read_parts, read_text, reading_of, origin, is_line_end, end_at, cut_end, end_after, is_complete}
use Rattle.ffc_cert.specs.FirstFault.{lines_of, ended_line, HasLine, first_line_of, IsDecided, LinesDecide}
use Rattle.ffc_cert.proofs.Codes.{IsPlain}
use Rattle.ffc_cert.proofs.NumberCodes.{is_same}
use Rattle.ffc_cert.proofs.ReadLemmas.{after_next, through}
use Rattle.ffc_cert.proofs.SplitLemmas.{parts_of}
use Rattle.ffc_cert.proofs.BackLemmas.{split_line}
use Rattle.ffc_cert.proofs.GoesOnLemmas.{either, line_here, read_alone, after_shorter, text_front}
use Rattle.ffc_cert.proofs.NextLines.{spread}
use Rattle.ffc_cert.proofs.FaultLemmas.{line_plain, line_split, count_more}

-- one line further, or a fault of this line
abbrev IsAtLine : Progress → Next → Type 0
IsAtLine p (Halt fault) = fault.line ≡ p.line
IsAtLine p (Move q) = q.line ≡ p.line + 1
IsAtLine p (Give x q) = q.line ≡ p.line + 1

module _ (p : Progress) where
  at_if : (b : Bool) (n m : Next) → IsAtLine p n → IsAtLine p m → IsAtLine p (if b then n else m)
  at_if true n m h k = h
  at_if false n m h k = k

  at_after : {A : Type 0} (r : Result A CertFault) (next : A → Next) → ((fault : CertFault) → r ≡ Err fault → fault.line ≡ p.line) → ((x : A) → IsAtLine p (next x)) → IsAtLine p (after r next)
  at_after (Err fault) next h k = h fault refl
  at_after (Ok x) next h k = k x

  err_line : (code : ℕ) (fault : CertFault) → fault_at code p ≡ fault → fault.line ≡ p.line
  err_line code fault h = ap (λ (f : CertFault). f.line) (sym h)

  limited_line : {A : Type 0} (line : List ℕ) (r : Result A Flaw) (fault : CertFault) → limited line p r ≡ Err fault → fault.line ≡ p.line
  unfolding limited
  limited_line {A = A} line (Err flaw) fault h = let same = err_is _ _ h in ap (λ (f : CertFault). f.line) (sym same)
    where
      err_is : (a b : CertFault) → (let r : Result A CertFault = Err a in r) ≡ Err b → a ≡ b
      err_is a b h = cc
  limited_line {A = A} line (Ok x) fault h = by (nat_lt MAX_BYTES (p.bytes + (length line + 1))) h
    where
      by : (over : Bool) → (let r : Result A CertFault = if over then Err (fault_at 5 p) else Ok x in r) ≡ Err fault → fault.line ≡ p.line
      by true h = err_line 5 fault (cc)
      by false h = absurd (cc)

  begun_line : (size : ℕ) (o : Opening) → IsAtLine p (begun size p o)
  unfolding begun
  begun_line size (openings.Assignment n) = at_if (n == 0) _ _ refl refl
  begun_line size (openings.Refutation n) = at_if (n == 0) _ _ refl refl
  begun_line size (openings.Whole e) = refl

  place_line : (place : Place) (wanted : ℕ) (line : List ℕ) → IsAtLine p (next_in place wanted p line)
  unfolding next_in header_line opening_line assignment_line refutation_line with_value with_line
  place_line Header wanted line = at_if (bytes_eq line (codes "ffcert 1")) _ _ refl (at_if (bytes_eq line (codes "ffcert 2")) _ _ refl (at_if (p.bits && bytes_eq line (codes "ffcert 3")) _ _ refl refl))
  place_line Between wanted line = at_if (p.complete == wanted) _ _ refl (at_after (limited line p (opening_at line)) (begun (length line + 1) p) (limited_line line (opening_at line)) (begun_line (length line + 1)))
  place_line (Assignment left) wanted line = at_after (limited line p (value_at line)) (with_value left (length line + 1) p) (limited_line line (value_at line)) (λ v. at_if (left == 1) _ _ refl refl)
  place_line (Refutation a) wanted line = at_after (limited line p (line_at p.version a line)) (with_line a (length line + 1) p) (limited_line line (line_at p.version a line)) (λ l. at_if (is_whole (awaited_after l a)) _ _ refl refl)

next_line : (wanted : ℕ) (p : Progress) (line : List ℕ) → IsAtLine p (next_at wanted p line)
unfolding next_at
next_line wanted p line = place_line p p.place wanted (take (MAX_BYTES + 1) line)

-- a line with its LF, and then other bytes
read_first : (wanted : ℕ) (p : Progress) (line other : List ℕ) (n : Next) → IsPlain line → next_at wanted p line ≡ n → read_text wanted p (line ++ (10 ∷ other)) ≡ after_next n (λ q. read_text wanted q other)
read_first wanted p line other n plain h = ap (read_parts wanted p) (split_line line other plain) ∙ through wanted p line other n h (parts_of is_line_end other)

first_by : (over : Bool) (c : ℕ) (bytes : List ℕ) → is_line_end c ≡ over → position_or_len is_line_end (c ∷ bytes) < suc (length bytes) → (HasLine bytes → first_line_of bytes ≡ ended_line (before_first is_line_end bytes))
    → first_line_of (c ∷ bytes) ≡ ended_line (before_first is_line_end (c ∷ bytes))
first_by true c bytes e lt h = let same : c ≡ 10 = is_same c 10 e in rw e (ap (λ (x : ℕ). x ∷ []) same)
first_by false c bytes e lt h =
    let more : 1 + position_or_len is_line_end bytes ≡ suc (position_or_len is_line_end bytes) = omega arith in
    let further : suc (position_or_len is_line_end bytes) + 1 ≡ suc (position_or_len is_line_end bytes + 1) = omega arith in
    let inside : position_or_len is_line_end bytes < length bytes = (let here = rw (e, more) at lt in omega (arith, here)) in
    rw (e, more, further) (ap (λ (xs : List ℕ). c ∷ xs) (h inside))

first_is : (bytes : List ℕ) → HasLine bytes → first_line_of bytes ≡ ended_line (before_first is_line_end bytes)
first_is [] lt = absurd (omega arith)
first_is (c ∷ bytes) lt = first_by (is_line_end c) c bytes refl lt (first_is bytes)

-- a place in a text that is read so whatever follows
record IsReached (bits : Bool) (wanted : ℕ) (front : List ℕ) (p : Progress) : Type 0 where
  leads : (more : List ℕ) → (reading_of bits wanted (front ++ more)).end ≡ (read_text wanted p more).end
  line : p.line ≡ lines_of front + 1
  ends : (front ≡ []) ⊎ ((body : List ℕ) × (front ≡ ended_line body))

stopped_is : (a b : CertFault) → Stopped a ≡ Stopped b → a ≡ b
stopped_is a b h = cc

cut_line : (p : Progress) (n : Next) (fault : CertFault) → IsAtLine p n → cut_end n p ≡ Stopped fault → fault.line ≡ p.line
unfolding cut_end
cut_line p (Halt f) fault at h = ap (λ (x : CertFault). x.line) (sym (stopped_is f fault h)) ∙ at
cut_line p (Move q) fault at h = absurd (cc)
cut_line p (Give x q) fault at h = absurd (cc)

after_line : (p : Progress) (rest : List ℕ) (fault : CertFault) → end_after rest p ≡ Stopped fault → fault.line ≡ p.line
unfolding end_after
after_line p [] fault h = absurd (cc)
after_line p (c ∷ cs) fault h = ap (λ (x : CertFault). x.line) (sym (stopped_is (fault_at 2 p) fault h))

end_line : (wanted : ℕ) (p : Progress) (rest : List ℕ) (fault : CertFault) → end_at wanted p rest ≡ Stopped fault → fault.line ≡ p.line
unfolding end_at
end_line wanted p rest fault h = by (nat_lt MAX_BYTES (length rest)) (is_complete p.place p.complete wanted) h
  where
    by : (cut all : Bool) → cond cut (cut_end (next_at wanted p rest) p) (cond all (end_after rest p) (Open (fault_at 4 p))) ≡ Stopped fault → fault.line ≡ p.line
    by true all h = cut_line p (next_at wanted p rest) fault (next_line wanted p rest) h
    by false true h = after_line p rest fault h
    by false false h = absurd (cc)

module _ (bits : Bool) (wanted : ℕ) (front : List ℕ) (p : Progress) (bytes text : List ℕ) (fault : CertFault) (r : IsReached bits wanted front p) (is : text ≡ front ++ bytes) where
  alone_decided : length bytes ≤ position_or_len is_line_end bytes → (read_text wanted p bytes).end ≡ Stopped fault → IsDecided bits wanted text fault
  alone_decided alone h =
      let all : first_line_of bytes ≡ bytes = take_all (position_or_len is_line_end bytes + 1) bytes (omega (arith, alone)) in
      record {
        front = front;
        rest = bytes;
        text_is = is;
        ends = r.ends;
        line = end_line wanted p bytes fault (ap (λ (x : Reading). x.end) (sym (read_alone wanted p bytes alone)) ∙ h) ∙ r.line;
        decided = λ other. r.leads (first_line_of bytes ++ other) ∙ ap (λ (xs : List ℕ). (read_text wanted p (xs ++ other)).end) all
            ∙ ap (λ (x : Reading). x.end) ((text_front (length bytes) wanted p bytes other (omega arith)).stopped fault h) ∙ h;
      }

  reached : (q : Progress) → ((other : List ℕ) → (read_text wanted p (before_first is_line_end bytes ++ (10 ∷ other))).end ≡ (read_text wanted q other).end) → q.line ≡ p.line + 1
      → IsReached bits wanted (front ++ ended_line (before_first is_line_end bytes)) q
  reached q reads at = record {
    leads = λ other. ap (λ (xs : List ℕ). (reading_of bits wanted xs).end) (spread front (before_first is_line_end bytes) other) ∙ r.leads (before_first is_line_end bytes ++ (10 ∷ other)) ∙ reads other;
    line = omega (arith, at, r.line, count_more front (before_first is_line_end bytes) (line_plain bytes));
    ends = inr (front ++ before_first is_line_end bytes, sym (append_assoc front (before_first is_line_end bytes) (10 ∷ [])));
  }

  line_decided : HasLine bytes → (n : Next) → next_at wanted p (before_first is_line_end bytes) ≡ n → IsAtLine p n
      → ((q : Progress) → IsReached bits wanted (front ++ ended_line (before_first is_line_end bytes)) q → (read_text wanted q (after_first is_line_end bytes)).end ≡ Stopped fault → IsDecided bits wanted text fault)
      → (after_next n (λ q. read_text wanted q (after_first is_line_end bytes))).end ≡ Stopped fault → IsDecided bits wanted text fault
  line_decided lt (Halt f) e at more h =
      let line = before_first is_line_end bytes in
      record {
        front = front;
        rest = bytes;
        text_is = is;
        ends = r.ends;
        line = ap (λ (x : CertFault). x.line) (sym (stopped_is f fault h)) ∙ at ∙ r.line;
        decided = λ other. r.leads (first_line_of bytes ++ other)
            ∙ ap (λ (xs : List ℕ). (read_text wanted p xs).end) (ap (λ (xs : List ℕ). xs ++ other) (first_is bytes lt) ∙ append_assoc line (10 ∷ []) other)
            ∙ ap (λ (x : Reading). x.end) (read_first wanted p line other (Halt f) (line_plain bytes) e) ∙ h;
      }
  line_decided lt (Move q) e at more h = more q (reached q (λ other. ap (λ (x : Reading). x.end) (read_first wanted p (before_first is_line_end bytes) other (Move q) (line_plain bytes) e)) at) h
  line_decided lt (Give x q) e at more h = more q (reached q (λ other. ap (λ (x : Reading). x.end) (read_first wanted p (before_first is_line_end bytes) other (Give x q) (line_plain bytes) e)) at) h

decide : (n : ℕ) (bits : Bool) (wanted : ℕ) (front : List ℕ) (p : Progress) (bytes text : List ℕ) (fault : CertFault) → length bytes ≤ n → IsReached bits wanted front p → text ≡ front ++ bytes
    → (read_text wanted p bytes).end ≡ Stopped fault → IsDecided bits wanted text fault
decide zero bits wanted front p bytes text fault few r is h = alone_decided bits wanted front p bytes text fault r is (omega arith) h
decide (suc n) bits wanted front p bytes text fault few r is h = elim (either (ltb (position_or_len is_line_end bytes) (length bytes))) [
  | inr t ↦ alone_decided bits wanted front p bytes text fault r is (ltb-false (position_or_len is_line_end bytes) (length bytes) t) h
  | inl t ↦
      let lt = ltb-true (position_or_len is_line_end bytes) (length bytes) t in
      let line = before_first is_line_end bytes in
      line_decided bits wanted front p bytes text fault r is lt (next_at wanted p line) refl (next_line wanted p line)
      (λ q k e. decide n bits wanted (front ++ ended_line line) q (after_first is_line_end bytes) text fault (after_shorter n bytes few lt) k
      (is ∙ ap (λ (xs : List ℕ). front ++ xs) (line_split bytes lt) ∙ sym (spread front line (after_first is_line_end bytes))) e)
      (ap (λ (x : Reading). x.end) (sym (line_here wanted p bytes lt)) ∙ h)
]

pub lines_decide : LinesDecide
lines_decide bits wanted text fault h = decide (length text) bits wanted [] (origin bits) text text fault (omega arith) (record { leads = λ more. refl; line = refl; ends = inl refl }) refl h
