-- What a writer holds while the bytes of a text are handed to it piece by piece.
use Rattle.std.proofs.Common.{◌≡◌, ℕ, ◌≤◌, ◌⊎◌, inl, inr, List, [], ◌++◌, length, take, drop, Option, Some, None, refl, sym, ◌∙◌, ap, arith}
use Rattle.std.proofs.lemmas.List.{take-append-drop, append_assoc, append-nil, length-append}
use Rattle.std.proofs.Math.Seq.{take-append_seam}
use Rattle.std.specs.Io.KnownBytes.{Keeps, Appends as Grows}
use Rattle.ffc_base.specs.Outside.{Appends, AppendsPrefix}

front_is_short : (front left bytes : List ℕ) → bytes ≡ front ++ left → length front ≤ length bytes
front_is_short front left bytes split = omega (arith, ap length split ∙ length-append front left)

front_is_taken : (front left bytes : List ℕ) → bytes ≡ front ++ left → front ≡ take (length front) bytes
front_is_taken front left bytes split = sym (take-append_seam front left) ∙ ap (take (length front)) (sym split)

-- some first bytes were written, and the others are left
pub record IsWritten (bytes left : List ℕ) (held now : Option (List ℕ)) : Type 0 where
  pub front : List ℕ
  pub split : bytes ≡ front ++ left
  pub appended : Appends front held now

-- at first it is none
pub none_is_written : (bytes : List ℕ) (held : Option (List ℕ)) → IsWritten bytes bytes held held
none_is_written bytes None = record { front = []; split = refl; appended = tt }
none_is_written bytes (Some xs) = record { front = []; split = refl; appended = ap Some (sym (append-nil xs)) }

-- a write that takes n bytes makes it more
pub more_is_written : (bytes left : List ℕ) (n : ℕ) (held now next : Option (List ℕ)) → IsWritten bytes left held now → Grows now next (take n left)
    → IsWritten bytes (drop n left) held next
more_is_written bytes left n None now next w grows = record {
  front = w.front ++ take n left;
  split = w.split ∙ (ap (λ xs. w.front ++ xs) (sym (take-append-drop n left)) ∙ sym (append_assoc w.front (take n left) (drop n left)));
  appended = tt;
}
more_is_written bytes left n (Some xs) (Some ys) (Some zs) w grows = record {
  front = w.front ++ take n left;
  split = w.split ∙ (ap (λ xs. w.front ++ xs) (sym (take-append-drop n left)) ∙ sym (append_assoc w.front (take n left) (drop n left)));
  appended = grind (arith, w.appended, grows, append_assoc);
}
more_is_written bytes left n (Some xs) (Some ys) None w grows = absurd grows
more_is_written bytes left n (Some xs) None next w grows = cc (w.appended)

-- where the writer keeps what it holds, so it stays
pub kept_is_written : (bytes left : List ℕ) (held now next : Option (List ℕ)) → IsWritten bytes left held now → Keeps now next → IsWritten bytes left held next
kept_is_written bytes left None now next w keeps = record { front = w.front; split = w.split; appended = tt }
kept_is_written bytes left (Some xs) (Some ys) (Some zs) w keeps = record { front = w.front; split = w.split; appended = grind (arith, w.appended, keeps) }
kept_is_written bytes left (Some xs) (Some ys) None w keeps = absurd keeps
kept_is_written bytes left (Some xs) None next w keeps = cc (w.appended)

-- where none is left, all are written
pub all_are_written : (bytes left : List ℕ) (held now : Option (List ℕ)) → IsWritten bytes left held now → left ≡ [] → Appends bytes held now
all_are_written bytes left None now w empty = tt
all_are_written bytes left (Some xs) now w empty = grind (arith, w.split, w.appended, empty, append-nil)

-- and before it is some first ones
pub some_are_written : (bytes left : List ℕ) (held now : Option (List ℕ)) → IsWritten bytes left held now → AppendsPrefix bytes held now
some_are_written bytes left None now w = tt
some_are_written bytes left (Some xs) now w =
    (length w.front, front_is_short w.front left bytes w.split, w.appended ∙ ap (λ ys. Some (xs ++ ys)) (front_is_taken w.front left bytes w.split))

-- where a write that takes no byte adds none, what was written stays so
unchanged_is_written : (bytes left : List ℕ) (held now next : Option (List ℕ)) → IsWritten bytes left held now → Grows now next [] → IsWritten bytes left held next
unchanged_is_written bytes left held now next w grows = more_is_written bytes left 0 held now next w grows

-- a write that took n bytes, or was interrupted, goes on
pub goes_on : (bytes left : List ℕ) (n : ℕ) (held now next : Option (List ℕ)) → IsWritten bytes left held now → (Grows now next (take n left)) ⊎ ((n ≡ 0) × Keeps now next)
    → IsWritten bytes (drop n left) held next
goes_on bytes left n held now next w (inl grows) = more_is_written bytes left n held now next w grows
goes_on bytes left n held now next w (inr (none, keeps)) = rw none (kept_is_written bytes left held now next w keeps)

-- and one that failed leaves what was written
pub stops : (bytes left : List ℕ) (held now next : Option (List ℕ)) → IsWritten bytes left held now → Keeps now next ⊎ Grows now next []
    → AppendsPrefix bytes held next
stops bytes left held now next w (inl keeps) = some_are_written bytes left held next (kept_is_written bytes left held now next w keeps)
stops bytes left held now next w (inr grows) = some_are_written bytes left held next (unchanged_is_written bytes left held now next w grows)
