-- What is read of a certificate so far stays where its text goes on.
use Rattle.std.proofs.Common.{◌≡◌, ℕ, zero, suc, ◌+◌, ◌<◌, ◌≤◌, Bool, true, false, cond, List, [], ◌∷◌, ◌++◌, length, ltb, ◌⊎◌, inl, inr, refl, sym, ap, ◌∙◌, subst, arith, append-nil, length-drop}
use Rattle.std.specs.Prelude.{nat_lt}
use Rattle.std.specs.List.{position_or_len, after_first, before_first}
use Rattle.std.proofs.lemmas.Bool.{ltb-true, ltb-false}
use Rattle.ffc_cert.specs.declared.TheConstants.{MAX_BYTES}
use Rattle.ffc_cert.specs.declared.entries.CertFault.{CertFault}
use Rattle.ffc_cert.specs.declared.entries.Numbered.{Numbered}
use Rattle.ffc_cert.specs.declared.progress.Progress.{Progress}
use Rattle.ffc_cert.specs.Reading.{Reading, End, Complete, Open, Stopped, Next, Halt, Move, Give, ending, with_entry, end_at, end_after, cut_end, is_complete, next_at, read, read_text, reading_of, origin, is_line_end, fault_at}
use Rattle.ffc_cert.proofs.ReadLemmas.{after_next, read_line}
use Rattle.ffc_cert.proofs.RestLemmas.{split_alone, rest_halts, cut_halts, complete_halts}

-- a reading of the front of a text, and one of the whole
pub record IsFront (front whole : Reading) : Type 0 where
  pub rest : List Numbered
  pub entries : whole.entries ≡ front.entries ++ rest
  pub stopped : (f : CertFault) → front.end ≡ Stopped f → whole ≡ front

front_same : (r : Reading) → IsFront r r
front_same r = record { rest = []; entries = sym (append-nil r.entries); stopped = λ f e. refl }

front_entry : (e : Numbered) (a b : Reading) → IsFront a b → IsFront (with_entry e a) (with_entry e b)
front_entry e a b f = record { rest = f.rest; entries = ap (λ es. e ∷ es) f.entries; stopped = λ fault s. ap (with_entry e) (f.stopped fault s) }

abbrev NotStopped : End → Type 0
NotStopped end = (f : CertFault) → end ≡ Stopped f → ⊥

front_open : (end : End) (r : Reading) → NotStopped end → IsFront (ending end) r
front_open end r h = record { rest = r.entries; entries = refl; stopped = λ f e. absurd (h f e) }

front_stopped : (f : CertFault) (r : Reading) → r ≡ ending (Stopped f) → IsFront (ending (Stopped f)) r
front_stopped f r e = subst (IsFront (ending (Stopped f))) (sym e) (front_same (ending (Stopped f)))

either : (b : Bool) → (b ≡ true) ⊎ (b ≡ false)
either true = inl refl
either false = inr refl

-- the bytes after the last line

module _ (wanted : ℕ) (p : Progress) (bytes more : List ℕ) (alone : length bytes ≤ position_or_len is_line_end bytes) where
  abbrev Fronts : End → Type 0
  Fronts end = IsFront (ending end) (read_text wanted p (bytes ++ more))

  long_front : (n : Next) → next_at wanted p bytes ≡ n → MAX_BYTES < length bytes → Fronts (cut_end n p)
  unfolding cut_end
  long_front (Halt f) e long = front_stopped f _ (rest_halts wanted p bytes more f alone (cut_halts wanted p bytes f long e))
  long_front (Move q) e long = front_open (Open (fault_at 4 p)) _ (λ f h. cc)
  long_front (Give x q) e long = front_open (Open (fault_at 4 p)) _ (λ f h. cc)

behind_front : (wanted : ℕ) (p : Progress) (bytes more : List ℕ) → length bytes ≤ position_or_len is_line_end bytes → is_complete p.place p.complete wanted ≡ true
    → IsFront (ending (end_after bytes p)) (read_text wanted p (bytes ++ more))
unfolding end_after
behind_front wanted p [] more alone e = front_open Complete _ (λ f h. cc)
behind_front wanted p (c ∷ cs) more alone e = front_stopped (fault_at 2 p) _ (rest_halts wanted p (c ∷ cs) more (fault_at 2 p) alone (complete_halts wanted p c cs e))

end_front : (wanted : ℕ) (p : Progress) (bytes more : List ℕ) → length bytes ≤ position_or_len is_line_end bytes → IsFront (ending (end_at wanted p bytes)) (read_text wanted p (bytes ++ more))
unfolding end_at
end_front wanted p bytes more alone = by_size (nat_lt MAX_BYTES (length bytes)) refl (is_complete p.place p.complete wanted) refl
  where
    by_size : (long : Bool) → nat_lt MAX_BYTES (length bytes) ≡ long → (later : Bool) → is_complete p.place p.complete wanted ≡ later
        → IsFront (ending (cond long (cut_end (next_at wanted p bytes) p) (cond later (end_after bytes p) (Open (fault_at 4 p))))) (read_text wanted p (bytes ++ more))
    by_size true e later f = long_front wanted p bytes more alone (next_at wanted p bytes) refl (ltb-true MAX_BYTES (length bytes) e)
    by_size false e true f = behind_front wanted p bytes more alone f
    by_size false e false f = front_open (Open (fault_at 4 p)) _ (λ g h. cc)

read_alone : (wanted : ℕ) (p : Progress) (bytes : List ℕ) → length bytes ≤ position_or_len is_line_end bytes → read_text wanted p bytes ≡ ending (end_at wanted p bytes)
unfolding read
read_alone wanted p bytes alone = rw (split_alone bytes alone) refl

-- a line at the front

step_front : (n : Next) (one two : Progress → Reading) → ((q : Progress) → IsFront (one q) (two q)) → IsFront (after_next n one) (after_next n two)
step_front (Halt f) one two h = front_same (ending (Stopped f))
step_front (Move q) one two h = h q
step_front (Give e q) one two h = front_entry e (one q) (two q) (h q)

line_here : (wanted : ℕ) (p : Progress) (bytes : List ℕ) → position_or_len is_line_end bytes < length bytes
    → read_text wanted p bytes ≡ after_next (next_at wanted p (before_first is_line_end bytes)) (λ q. read_text wanted q (after_first is_line_end bytes))
line_here wanted p bytes lt =
    ap (read_text wanted p) (sym (append-nil bytes)) ∙ read_line wanted p bytes [] (next_at wanted p (before_first is_line_end bytes)) lt refl
    ∙ ap (λ bs. after_next (next_at wanted p (before_first is_line_end bytes)) (λ q. read_text wanted q bs)) (append-nil (after_first is_line_end bytes))

after_shorter : (n : ℕ) (bytes : List ℕ) → length bytes ≤ suc n → position_or_len is_line_end bytes < length bytes → length (after_first is_line_end bytes) ≤ n
after_shorter n bytes few lt = omega (arith, length-drop (position_or_len is_line_end bytes + 1) bytes)

module _ (wanted : ℕ) (p : Progress) (bytes more : List ℕ) where
  alone_front : length bytes ≤ position_or_len is_line_end bytes → IsFront (read_text wanted p bytes) (read_text wanted p (bytes ++ more))
  alone_front alone = subst (λ r. IsFront r (read_text wanted p (bytes ++ more))) (sym (read_alone wanted p bytes alone)) (end_front wanted p bytes more alone)

  line_front : position_or_len is_line_end bytes < length bytes
      → ((q : Progress) → IsFront (read_text wanted q (after_first is_line_end bytes)) (read_text wanted q (after_first is_line_end bytes ++ more)))
      → IsFront (read_text wanted p bytes) (read_text wanted p (bytes ++ more))
  line_front lt h =
      let n = next_at wanted p (before_first is_line_end bytes) in
      subst (λ r. IsFront r (read_text wanted p (bytes ++ more))) (sym (line_here wanted p bytes lt))
      (subst (IsFront (after_next n (λ q. read_text wanted q (after_first is_line_end bytes)))) (sym (read_line wanted p bytes more n lt refl))
      (step_front n (λ q. read_text wanted q (after_first is_line_end bytes)) (λ q. read_text wanted q (after_first is_line_end bytes ++ more)) h))

text_front : (n : ℕ) (wanted : ℕ) (p : Progress) (bytes more : List ℕ) → length bytes ≤ n → IsFront (read_text wanted p bytes) (read_text wanted p (bytes ++ more))
text_front zero wanted p bytes more few = alone_front wanted p bytes more (omega arith)
text_front (suc n) wanted p bytes more few = elim (either (ltb (position_or_len is_line_end bytes) (length bytes))) [
  | inr t ↦ alone_front wanted p bytes more (ltb-false (position_or_len is_line_end bytes) (length bytes) t)
  | inl t ↦
      let lt = ltb-true (position_or_len is_line_end bytes) (length bytes) t in
      line_front wanted p bytes more lt (λ q. text_front n wanted q (after_first is_line_end bytes) more (after_shorter n bytes few lt))
]

pub reading_front : (bits : Bool) (wanted : ℕ) (text more : List ℕ) → IsFront (reading_of bits wanted text) (reading_of bits wanted (text ++ more))
reading_front bits wanted text more = text_front (length text) wanted (origin bits) text more (omega arith)
