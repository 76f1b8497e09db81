-- How a text is read on after a line, and that a line that is too long is at fault.
use Rattle.std.proofs.Common.{◌≡◌, ℕ, ◌<◌, List, ◌∷◌, ◌++◌, length, refl}
use Rattle.std.specs.List.{slice_split, position_or_len, before_first, after_first}
use Rattle.ffc_cert.specs.declared.progress.Progress.{Progress}
use Rattle.ffc_cert.specs.Reading.{Reading, Next, Halt, Move, Give, Stopped, ending, with_entry, next_at, read, read_parts, read_text, is_line_end}
use Rattle.ffc_cert.proofs.SplitLemmas.{Parts, parts_of, split_stays}

-- the state after a line, and then the reading of what follows it
abbrev pub after_next : Next → (Progress → Reading) → Reading
after_next (Halt fault) more = ending (Stopped fault)
after_next (Move q) more = more q
after_next (Give entry q) more = with_entry entry (more q)

pub read_next : (wanted : ℕ) (p : Progress) (part next : List ℕ) (parts : List (List ℕ)) (n : Next) → next_at wanted p part ≡ n
    → read wanted p part (next ∷ parts) ≡ after_next n (λ q. read wanted q next parts)
unfolding read
read_next wanted p part next parts (Halt fault) h = rw (read, h) refl
read_next wanted p part next parts (Move q) h = rw (read, h) refl
read_next wanted p part next parts (Give entry q) h = rw (read, h) refl

pub through : (wanted : ℕ) (p : Progress) (part : List ℕ) (bytes : List ℕ) (n : Next) → next_at wanted p part ≡ n → Parts is_line_end bytes
    → read_parts wanted p (part ∷ slice_split is_line_end bytes) ≡ after_next n (λ q. read_text wanted q bytes)
through wanted p part bytes n h parts = rw parts.split (read_next wanted p part parts.first parts.others n h)

-- a text that has a line at its front
pub read_line : (wanted : ℕ) (p : Progress) (bytes more : List ℕ) (n : Next) → position_or_len is_line_end bytes < length bytes
    → next_at wanted p (before_first is_line_end bytes) ≡ n
    → read_text wanted p (bytes ++ more) ≡ after_next n (λ q. read_text wanted q (after_first is_line_end bytes ++ more))
read_line wanted p bytes more n lt h =
    rw (split_stays is_line_end bytes more lt) (through wanted p (before_first is_line_end bytes) (after_first is_line_end bytes ++ more) n h (parts_of is_line_end _))
