-- The first line of a text, and the lines after it.
use Rattle.std.proofs.Common.{◌≡◌, ℕ, zero, suc, ◌+◌, ◌-◌, ◌≤◌, ◌<◌, Bool, true, false, List, [], ◌∷◌, ◌++◌, length, drop, refl, sym, ap, ◌∙◌, arith, zero-add, length-append}
use Rattle.std.specs.List.{slice_split, onto_first, position_or_len, before_first, after_first}
use Rattle.std.proofs.lemmas.List.Splits.{slice_split_first, slice_split-cons_yes, slice_split-cons_no}
use Rattle.std.proofs.lemmas.List.{take-append-le, drop-append-le, drop-drop}

-- a split has a first part
pub record Parts (p : ℕ → Bool) (xs : List ℕ) : Type 0 where
  pub first : List ℕ
  pub others : List (List ℕ)
  pub split : slice_split p xs ≡ first ∷ others

cons_parts : (p : ℕ → Bool) (x : ℕ) (xs : List ℕ) (b : Bool) → p x ≡ b → Parts p xs → Parts p (x ∷ xs)
cons_parts p x xs true h r = record { first = []; others = slice_split p xs; split = slice_split-cons_yes p x xs h }
cons_parts p x xs false h r = record {
  first = x ∷ r.first;
  others = r.others;
  split = slice_split-cons_no p x xs h ∙ ap (onto_first x) r.split;
}

pub parts_of : (p : ℕ → Bool) (xs : List ℕ) → Parts p xs
parts_of p [] = record { first = []; others = []; split = refl }
parts_of p (x ∷ xs) = cons_parts p x xs (p x) refl (parts_of p xs)

-- where the first element that passes is, in a longer list
pub first_stays : (p : ℕ → Bool) (xs ys : List ℕ) → position_or_len p xs < length xs → position_or_len p (xs ++ ys) ≡ position_or_len p xs
first_stays p [] ys lt = absurd (omega arith)
first_stays p (x ∷ xs) ys lt = grind (arith, first_stays p xs ys)

pub before_stays : (p : ℕ → Bool) (xs ys : List ℕ) → position_or_len p xs < length xs → before_first p (xs ++ ys) ≡ before_first p xs
before_stays p xs ys lt = rw (first_stays p xs ys lt) (take-append-le (position_or_len p xs) xs ys (omega arith))

pub after_stays : (p : ℕ → Bool) (xs ys : List ℕ) → position_or_len p xs < length xs → after_first p (xs ++ ys) ≡ after_first p xs ++ ys
after_stays p xs ys lt = rw (first_stays p xs ys lt) (drop-append-le (position_or_len p xs + 1) xs ys (omega arith))

pub split_stays : (p : ℕ → Bool) (xs ys : List ℕ) → position_or_len p xs < length xs
    → slice_split p (xs ++ ys) ≡ before_first p xs ∷ slice_split p (after_first p xs ++ ys)
split_stays p xs ys lt =
    let longer : position_or_len p (xs ++ ys) < length (xs ++ ys) = rw (first_stays p xs ys lt) (omega (arith, length-append xs ys)) in
    slice_split_first p (xs ++ ys) 0 longer ∙ rw (before_stays p xs ys lt, after_stays p xs ys lt) refl

-- a list is searched on from where no element has passed
pub searched_on : (p : ℕ → Bool) (k : ℕ) (xs : List ℕ) → k ≤ position_or_len p xs → position_or_len p xs ≡ k + position_or_len p (drop k xs)
searched_on p zero xs le = sym (zero-add _)
searched_on p (suc k) [] le = absurd (omega arith)
searched_on p (suc k) (x ∷ xs) le = grind (arith, searched_on p k xs)

pub searched_behind : (p : ℕ → Bool) (start scanned : ℕ) (xs : List ℕ) → start ≤ scanned → scanned ≤ start + position_or_len p (drop start xs)
    → scanned + position_or_len p (drop scanned xs) ≡ start + position_or_len p (drop start xs)
searched_behind p start scanned xs le unended =
    let k : ℕ = scanned - start in
    let there : drop k (drop start xs) ≡ drop scanned xs = rw (drop-drop k start xs) (ap (λ (n : ℕ). drop n xs) (omega arith)) in
    let e : position_or_len p (drop start xs) ≡ k + position_or_len p (drop k (drop start xs)) = searched_on p k (drop start xs) (omega arith) in
    let f : position_or_len p (drop start xs) ≡ k + position_or_len p (drop scanned xs) = rw there at e in
    omega (arith, f)
