-- Pieces of a script.
use Rattle.std.proofs.Common.{◌≡◌, ℕ, ◌+◌, ◌≤◌, List, [], ◌++◌, length, take, drop, Option, Some, None, refl, sym, ap, ◌∙◌, subst, arith, append_assoc, length-append}
use Rattle.std.specs.Option.{IfSome}
use Rattle.std.proofs.lemmas.List.{take-append-drop, take_all, length-take}
use Rattle.ffc_base.specs.Outside.{MovesFront}
use Rattle.ffc_lex.specs.Lexing.{extended}
use Rattle.ffc_solve.specs.Solving.{IsTaken}
use Rattle.ffc_solve.specs.Underway.{HasRead}

-- what a read moved was read
pub HasRead-moved : (n : ℕ) (buffer : List ℕ) (x y : Option (List ℕ)) → MovesFront n buffer x y → HasRead x y (take n buffer)
HasRead-moved n buffer None y m = tt
HasRead-moved n buffer (Some bytes) y m = (drop n bytes, sym (take-append-drop n bytes) ∙ ap (λ p. p ++ drop n bytes) (sym m.1), m.2)

pub taken_moved : (n : ℕ) (buffer : List ℕ) (x y : Option (List ℕ)) (before : ℕ) → MovesFront n buffer x y → before + n ≤ 67108865 → n ≤ 4096 → IfSome x (λ bytes. (piece : List ℕ) × IsTaken piece bytes y × (before + length piece ≤ 67108865) × (length piece ≤ 4096))
taken_moved n buffer None y before m few short = tt
taken_moved n buffer (Some bytes) y before m few short =
    let long : length (take n bytes) ≤ n = let e = length-take n bytes in omega arith in
    (take n bytes, record { rest = drop n bytes; split = sym (take-append-drop n bytes); left = m.2; few = omega arith }, omega arith, omega arith)

abbrev none_left : List ℕ
none_left = []

-- one piece after another
pub HasRead-more : (first now new : Option (List ℕ)) (text piece : List ℕ) → HasRead first now text → HasRead now new piece → HasRead first new (text ++ piece)
HasRead-more None now new text piece h m = tt
HasRead-more (Some bytes) now new text piece (rest, e, left) m =
    let (after, f, g) = (let P : Option (List ℕ) → Type 0 = λ o. HasRead o new piece in subst P left m) in
    (after, e ∙ ap (λ r. text ++ r) f ∙ sym (append_assoc text piece after), g)

pub HasRead-none : (x : Option (List ℕ)) → HasRead x x []
HasRead-none None = tt
HasRead-none (Some bytes) = (bytes, refl, refl)

-- what was read is what was taken
pub taken_read : (first now : Option (List ℕ)) (text : List ℕ) (P Q : List ℕ → Type 0) → length text ≤ 67108865 → P text → Q text → HasRead first now text → IfSome first (λ bytes. (t : List ℕ) × IsTaken t bytes now × P t × Q t)
taken_read None now text P Q few p q h = tt
taken_read (Some bytes) now text P Q few p q (rest, e, left) = (text, record { rest = rest; split = e; left = left; few = few }, p, q)

pub within_limit : (text piece : List ℕ) → length text + length piece ≤ 67108865 → extended text piece ≡ text ++ piece
within_limit text piece few = take_all 67108865 (text ++ piece) (omega (arith, length-append text piece))
