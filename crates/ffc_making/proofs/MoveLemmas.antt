-- The last elements of a list are moved, one by one.
use Rattle.std.proofs.Common.{◌≡◌, ℕ, ◌+◌, ◌<◌, ◌≤◌, List, [], ◌∷◌, ◌++◌, length, reverse, refl, sym, ap, ◌∙◌, arith, append_assoc, append-nil, length-append}
use Rattle.std.proofs.lemmas.List.{reverse-append}
use Rattle.ffc_making.specs.Machine.{AreLast}

-- so many of these are moved already
pub record IsMoving (stack locals before kept ids : List ℕ) (count : ℕ) : Type 0 where
  pub left : List ℕ
  pub done : List ℕ
  pub split : ids ≡ left ++ done
  pub stack_is : stack ≡ kept ++ left
  pub locals_is : locals ≡ before ++ reverse done
  pub many : length done ≡ count

pub split_last : (kept left new : List ℕ) (id : ℕ) → 0 < length left → kept ++ left ≡ new ++ id ∷ [] → (l : List ℕ) × (left ≡ l ++ id ∷ []) × (new ≡ kept ++ l)
split_last [] left new id some e = (new, e, refl)
split_last (k ∷ ks) left [] id some e =
    let tail : ks ++ left ≡ [] = cc in
    let short : length ks + length left ≡ 0 = sym (length-append ks left) ∙ ap length tail in
    absurd (omega (arith, short, some))
split_last (k ∷ ks) left (n ∷ ns) id some e =
    let tail : ks ++ left ≡ ns ++ id ∷ [] = cc in
    let same : n ≡ k = cc in
    let rest = split_last ks left ns id some tail in
    (rest.0, rest.1, ap (λ x. x ∷ ns) same ∙ ap (λ xs. k ∷ xs) rest.2)

pub not_moved : (stack locals before kept ids whole : List ℕ) (count all : ℕ) → count < all → AreLast whole kept ids all → (m : IsMoving stack locals before kept ids count) → 0 < length m.left
not_moved stack locals before kept ids whole count all less last m =
    let long : length m.left + length m.done ≡ all = sym (length-append m.left m.done) ∙ ap length (sym m.split) ∙ last.many in
    omega (arith, long, m.many, less)

pub move_one : (stack locals before kept ids whole new : List ℕ) (id count all : ℕ) → count < all → AreLast whole kept ids all → stack ≡ new ++ id ∷ [] → IsMoving stack locals before kept ids count
    → IsMoving new (locals ++ id ∷ []) before kept ids (count + 1)
move_one stack locals before kept ids whole new id count all less last e m =
    let s = split_last kept m.left new id (not_moved stack locals before kept ids whole count all less last m) (sym m.stack_is ∙ e) in
    record {
      left = s.0;
      done = id ∷ m.done;
      split = m.split ∙ ap (λ xs. xs ++ m.done) s.1 ∙ append_assoc s.0 (id ∷ []) m.done;
      stack_is = s.2;
      locals_is = ap (λ xs. xs ++ id ∷ []) m.locals_is ∙ append_assoc before (reverse m.done) (id ∷ []) ∙ ap (λ xs. before ++ xs) (sym (reverse-append (id ∷ []) m.done));
      many = (let l = m.many in omega (arith, l));
    }

pub moved_all : (stack locals before kept ids whole : List ℕ) (count all : ℕ) → all ≤ count → AreLast whole kept ids all → IsMoving stack locals before kept ids count
    → (stack ≡ kept) × (locals ≡ before ++ reverse ids)
moved_all stack locals before kept ids whole count all more last m =
    let long : length m.left + length m.done ≡ all = sym (length-append m.left m.done) ∙ ap length (sym m.split) ∙ last.many in
    let none : length m.left ≡ 0 = omega (arith, long, m.many, more) in
    let empty = nothing m.left none in
    let same : m.done ≡ ids = sym (m.split ∙ ap (λ xs. xs ++ m.done) empty) in
    (m.stack_is ∙ ap (λ xs. kept ++ xs) empty ∙ append-nil kept, m.locals_is ∙ ap (λ xs. before ++ reverse xs) same)
  where
    nothing : (xs : List ℕ) → length xs ≡ 0 → xs ≡ []
    nothing [] e = refl
    nothing (x ∷ xs) e = absurd (omega (arith, e))
