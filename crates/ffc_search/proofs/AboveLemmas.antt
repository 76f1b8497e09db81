-- Levels above a stack.
use Rattle.std.proofs.Common.{◌≡◌, ℕ, ◌+◌, ◌-◌, ◌<◌, ◌≤◌, List, [], ◌∷◌, ◌++◌, length, take, refl, sym, ap, ap₂, ◌∙◌, subst, append_assoc, length-append, arith}
use Rattle.std.specs.List.{AllByRecursion}
use Rattle.std.proofs.lemmas.List.{append-nil}
use Rattle.std.proofs.Math.Seq.{take-append-add}
use Rattle.ffc_ring.specs.Polynomial.{Terms}
use Rattle.ffc_stack.specs.Stacks.{Stack, stack_of, IsPushed, IsPopped}
use Rattle.ffc_search.specs.Above.{Begin, IsAbove, StaysAbove, ComesDown}

all_last : {A : Type 0} (P : A → Type 0) (xs : List A) (x : A) → AllByRecursion P xs → P x → AllByRecursion P (xs ++ x ∷ [])
all_last P [] x all last = (last, tt)
all_last P (y ∷ xs) x all last = (all.0, all_last P xs x all.1 last)

last_of : {A : Type 0} (P : A → Type 0) (xs : List A) (x : A) → AllByRecursion P (xs ++ x ∷ []) → AllByRecursion P xs × P x
last_of P [] x all = (tt, all.0)
last_of P (y ∷ xs) x all = let h = last_of P xs x all.1 in ((all.0, h.0), h.1)

empty_of : {A : Type 0} (xs : List A) → length xs ≡ 0 → xs ≡ []
empty_of [] none = refl
empty_of (x ∷ xs) none = absurd (omega (arith, none))

-- the stack itself is above it
pub above_itself : {F O : Type 0} (base : Stack F O) → IsAbove base base
above_itself base = record { rest = []; more = []; lines = sym (append-nil base.lines); marks = sym (append-nil base.marks); begin = refl }

begin_more : {A : Type 0} (n : ℕ) (rest added : List A) (more : List ℕ) (k : ℕ) → k ≡ n + length rest → Begin n rest more → Begin n added (more ++ k ∷ [])
begin_more n rest added [] k at begin = (omega (arith, at, ap length begin), tt)
begin_more n rest added (m ∷ ms) k at begin = (begin.0, all_last (λ j. n ≤ j) ms k begin.1 (omega (arith, at)))

-- a level that is pushed is above
pub above_pushed : {F O : Type 0} (base old new : Stack F O) (gens : List Terms) → IsAbove base old → IsPushed old new gens → IsAbove base new
above_pushed base old new gens above pushed = record {
  rest = (above.rest ++ pushed.0) ++ pushed.1;
  more = above.more ++ length old.lines ∷ [];
  lines = pushed.2 ∙ (ap (λ ls. (ls ++ pushed.0) ++ pushed.1) above.lines ∙ simp append_assoc);
  marks = pushed.5 ∙ (ap (λ ms. ms ++ length old.lines ∷ []) above.marks ∙ append_assoc base.marks above.more (length old.lines ∷ []));
  begin = begin_more (length base.lines) above.rest ((above.rest ++ pushed.0) ++ pushed.1) above.more (length old.lines) (ap length above.lines ∙ length-append base.lines above.rest) above.begin;
}

-- there is a level above where there are more levels
some_above : {F O : Type 0} (base now : Stack F O) (above : IsAbove base now) → length base.marks < length now.marks → 0 < length above.more
some_above base now above deeper = omega (arith, deeper, ap length above.marks ∙ length-append base.marks above.more)

-- what is left of levels without the newest
record IsShorter (front more left : List ℕ) (last : ℕ) : Type 0 where
  pub ms : List ℕ
  pub whole : left ≡ front ++ ms
  pub parts : more ≡ ms ++ last ∷ []

head_of : (x y : ℕ) (xs ys : List ℕ) → x ∷ xs ≡ y ∷ ys → x ≡ y
head_of x y xs ys e = cc

tail_of : (x y : ℕ) (xs ys : List ℕ) → x ∷ xs ≡ y ∷ ys → xs ≡ ys
tail_of x y xs ys e = cc

shorter : (front more left : List ℕ) (last : ℕ) → front ++ more ≡ left ++ last ∷ [] → 0 < length more → IsShorter front more left last
shorter [] more left last e some = record { ms = left; whole = refl; parts = e }
shorter (x ∷ front) more [] last e some =
    absurd (omega (arith, some, ap length (tail_of x last (front ++ more) [] e), length-append front more))
shorter (x ∷ front) more (y ∷ left) last e some =
    let h = shorter front more left last (tail_of x y (front ++ more) (left ++ last ∷ []) e) some in
    record { ms = h.ms; whole = ap₂ (λ a b. a ∷ b) (sym (head_of x y (front ++ more) (left ++ last ∷ []) e)) h.whole; parts = h.parts }

-- the newest level begins after the lines
begin_last : {A : Type 0} (n : ℕ) (rest : List A) (ms : List ℕ) (last : ℕ) → Begin n rest (ms ++ last ∷ []) → n ≤ last
begin_last n rest [] last begin = omega (arith, begin.0)
begin_last n rest (m ∷ ms) last begin = (last_of (λ j. n ≤ j) ms last begin.1).1

-- and without it the levels begin where they did
begin_left : {A : Type 0} (n : ℕ) (rest : List A) (ms : List ℕ) (last : ℕ) → Begin n rest (ms ++ last ∷ []) → Begin n (take (last - n) rest) ms
begin_left n rest [] last begin = let none : last - n ≡ 0 = omega (arith, begin.0) in rw none refl
begin_left n rest (m ∷ ms) last begin = (begin.0, (last_of (λ j. n ≤ j) ms last begin.1).0)

take_past : {A : Type 0} (xs ys : List A) (k : ℕ) → length xs ≤ k → take k (xs ++ ys) ≡ xs ++ take (k - length xs) ys
take_past xs ys k past =
    let whole : k ≡ length xs + (k - length xs) = omega arith in
    ap (λ n. take n (xs ++ ys)) whole ∙ take-append-add xs ys (k - length xs)

-- without the newest level, which is above, the others are
pub above_popped : {F O : Type 0} (base old new : Stack F O) → length base.marks < length old.marks → IsAbove base old → IsPopped old new → IsAbove base new
above_popped base old new deeper above popped =
    let last = popped.0 in
    let h = shorter base.marks above.more new.marks last (sym above.marks ∙ popped.1) (some_above base old above deeper) in
    let n = length base.lines in
    let begin : Begin n above.rest (h.ms ++ last ∷ []) = subst (Begin n above.rest) h.parts above.begin in
    record {
      rest = take (last - n) above.rest;
      more = h.ms;
      lines = popped.2 ∙ (ap (take last) above.lines ∙ take_past base.lines above.rest last (begin_last n above.rest h.ms last begin));
      marks = h.whole;
      begin = begin_left n above.rest h.ms last begin;
    }

begin_none : {A : Type 0} (n : ℕ) (rest : List A) (more : List ℕ) → more ≡ [] → Begin n rest more → rest ≡ []
begin_none n rest [] none begin = begin
begin_none n rest (m ∷ ms) none begin = cc

-- without levels above it the stack is there again
pub above_ends : {F O : Type 0} (base now : Stack F O) → length now.marks ≤ length base.marks → IsAbove base now → now ≡ base
above_ends base now down above =
    let none : above.more ≡ [] = empty_of above.more (omega (arith, down, ap length above.marks ∙ length-append base.marks above.more)) in
    let rest : above.rest ≡ [] = begin_none (length base.lines) above.rest above.more none above.begin in
    ap₂ stack_of
    (above.lines ∙ (ap (λ ls. base.lines ++ ls) rest ∙ append-nil base.lines))
    (above.marks ∙ (ap (λ ms. base.marks ++ ms) none ∙ append-nil base.marks))

-- Steps of a search

pub stays_both : {F O : Type 0} (floor : ℕ) (a b c : Stack F O) → StaysAbove floor a b → StaysAbove floor b c → StaysAbove floor a c
stays_both floor a b c first second = λ base deep above. second base deep (first base deep above)

pub stays_pushed : {F O : Type 0} (floor : ℕ) (old new : Stack F O) (gens : List Terms) → IsPushed old new gens → StaysAbove floor old new
stays_pushed floor old new gens pushed = λ base deep above. above_pushed base old new gens above pushed

pub stays_popped : {F O : Type 0} (floor : ℕ) (old new : Stack F O) → floor < length old.marks → IsPopped old new → StaysAbove floor old new
stays_popped floor old new deeper popped = λ base deep above. above_popped base old new (omega (arith, deep, deeper)) above popped

pub comes_down : {F O : Type 0} (floor : ℕ) (old new : Stack F O) → length new.marks ≤ floor → StaysAbove floor old new → ComesDown floor old new
comes_down floor old new down stays = λ base deep above. above_ends base new (omega (arith, deep, down)) (stays base deep above)
