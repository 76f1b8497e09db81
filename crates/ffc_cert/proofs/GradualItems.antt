-- Numbers, literals, lists and polynomials, item by item.
use Rattle.std.proofs.Common.{◌≡◌, ℕ, suc, ◌+◌, ◌<◌, ◌≤◌, ◌==◌, ◌^◌, ◌&&◌, Bool, true, false, List, [], ◌∷◌, ◌++◌, Result, Ok, Err, ◌⊎◌, inl, inr, refl, sym, ap, ◌∙◌, subst, arith, append-nil}
use Rattle.std.specs.Prelude.{if◌then◌else◌, nat_lt, decimal}
use Rattle.std.specs.List.{position_or_len}
use Rattle.std.specs.Str.Parse.{digits_value}
use Rattle.std.proofs.lemmas.Bool.Decides.{nat_tests}
use Rattle.ffc_cert.specs.declared.flaws.Flaw.{Flaw}
use Rattle.ffc_cert.specs.declared.flaws.Flaw.TheVariants.{Form, Number, Missing}
use Rattle.ffc_cert.specs.Items.{◌>>=◌, is_blank, first_item, behind_item, item_at, is_digits, is_canonical, number_of, number_in, number_at, narrow_at, wide_at, sign_of, literal_in, literal_at, variable_at, exponent_at}
use Rattle.ffc_cert.specs.LineItems.{Item, Below, Signed, Variable, Exponent, item_text, IsRight, AreBadDigits, IsBadNumber, spaced, narrow, wide, signed}
use Rattle.ffc_cert.specs.Cuts.{IsCut}
use Rattle.ffc_cert.proofs.Codes.{Is, bound, same_parts}
use Rattle.ffc_cert.proofs.NumberCodes.{IsItem, is_same, item_reads, item_gives, decimal_item, number_in_reads, number_in_gives, sign_reads, sign_item, literal_in_gives}
use Rattle.ffc_cert.proofs.Gradual.{Stops, IsSure, Fails, Gives, IsGradual, same_gradual}

-- the first item of bytes

first_by : (over : Bool) (c : ℕ) (bytes : List ℕ) → is_blank c ≡ over → IsItem (first_item bytes) → IsItem (first_item (c ∷ bytes))
first_by true c bytes e h = rw e tt
first_by false c bytes e h =
    let more : 1 + position_or_len is_blank bytes ≡ suc (position_or_len is_blank bytes) = omega arith in
    rw (e, more) (e, h)

pub first_whole : (bytes : List ℕ) → IsItem (first_item bytes)
first_whole [] = tt
first_whole (c ∷ bytes) = first_by (is_blank c) c bytes refl (first_whole bytes)

behind_by : (over : Bool) (c : ℕ) (bytes : List ℕ) → is_blank c ≡ over → IsCut (behind_item bytes) → IsCut (behind_item (c ∷ bytes))
behind_by true c bytes e h = rw e (is_same c 32 e)
behind_by false c bytes e h =
    let more : 1 + position_or_len is_blank bytes ≡ suc (position_or_len is_blank bytes) = omega arith in
    rw (e, more) h

pub behind_cut : (bytes : List ℕ) → IsCut (behind_item bytes)
behind_cut [] = tt
behind_cut (c ∷ bytes) = behind_by (is_blank c) c bytes refl (behind_cut bytes)

-- What the next item is.
pub record IsNextItem (bytes item after : List ℕ) : Type 0 where
  pub bytes_are : bytes ≡ 32 ∷ (item ++ after)
  pub whole : IsItem item
  pub cut : IsCut after

pub next_item : (bytes item after : List ℕ) → item_at bytes ≡ Ok (item, after) → IsNextItem bytes item after
unfolding item_at
next_item [] item after h = absurd (cc)
next_item (c ∷ bytes) item after h = next_by (c == 32) c bytes item after refl h
  where
    next_by : (blank : Bool) (c : ℕ) (bytes item after : List ℕ) → (c == 32) ≡ blank → Is {A = List ℕ × List ℕ} (if blank then Ok (first_item bytes, behind_item bytes) else Err Form) (item, after) → IsNextItem (c ∷ bytes) item after
    next_by true c bytes item after e h =
        let parts = same_parts (first_item bytes) item (behind_item bytes) after h in
        record {
          bytes_are = item_gives (c ∷ bytes) item after (rw e h);
          whole = subst IsItem parts.0 (first_whole bytes);
          cut = subst IsCut parts.1 (behind_cut bytes);
        }
    next_by false c bytes item after e h = absurd (cc)

pub no_item : (bytes : List ℕ) (flaw : Flaw) → IsCut bytes → item_at bytes ≡ Err flaw → (bytes ≡ []) × (flaw ≡ Missing)
unfolding item_at
no_item [] flaw k h = (refl, cc)
no_item (c ∷ bytes) flaw k h = absurd (let blank : (c == 32) ≡ true = rw k refl in let here = rw blank at h in cc)

pub missing_item : item_at [] ≡ Err Missing
unfolding item_at
missing_item = refl

one_item : (x due : Item) (front others : List Item) → x ∷ [] ≡ front ++ due ∷ others → (front ≡ []) × (x ≡ due)
one_item x due [] others h = (refl, cc)
one_item x due (y ∷ []) others h = absurd (cc)
one_item x due (y ∷ z ∷ front) others h = absurd (cc)

-- A reader of one item.
pub record IsJudge {A : Type 0} (judge : List ℕ → Result A Flaw) (kind : A → Item) (filler : A) : Type 0 where
  pub whole : (x : A) → IsRight (kind x) → IsItem (item_text (kind x))
  pub reads : (x : A) → IsRight (kind x) → judge (item_text (kind x)) ≡ Ok x
  pub text_is : (item : List ℕ) (x : A) → judge item ≡ Ok x → item ≡ item_text (kind x)
  pub right : (item : List ℕ) (x : A) → judge item ≡ Ok x → IsRight (kind x)
  pub bad : (x : A) (item : List ℕ) → IsBadNumber (kind x) item → judge item ≡ Err Number
  pub other : (item : List ℕ) → judge item ≡ Err Missing → ⊥
  pub number : (item : List ℕ) → judge item ≡ Err Number → IsBadNumber (kind filler) item

module _ {A : Type 0} (judge : List ℕ → Result A Flaw) (kind : A → Item) (filler : A) (j : IsJudge judge kind filler) where
  abbrev pub judged_at : List ℕ → Result (A × List ℕ) Flaw
  judged_at bytes = item_at bytes >>= λ item. judge item.0 >>= λ x. Ok (x, item.1)

  at_item : (item after : List ℕ) → IsItem item → IsCut after → judged_at (32 ∷ (item ++ after)) ≡ (judge item >>= λ x. Ok (x, after))
  at_item item after h k = rw (item_reads item after h k) refl

  judged_sure : (x : A) (tail : List ℕ) (flaw : Flaw) → IsSure (kind x) tail flaw → judged_at tail ≡ Err flaw
  judged_sure x tail flaw (inl h) = rw (h.0, missing_item) (ap Err (sym h.1))
  judged_sure x tail flaw (inr h) = rw (h.tail_is, at_item h.item h.after h.whole h.cut, j.bad x h.item h.bad) (ap Err (sym h.flaw_is))

  judged_gives : (bytes : List ℕ) (x : A) (rest : List ℕ) → IsCut bytes → judged_at bytes ≡ Ok (x, rest) → Gives (λ y. kind y ∷ []) (λ y. y) (λ _. Unit {0}) bytes x rest
  judged_gives bytes x rest k h =
      let item = bound (item_at bytes) (λ item. judge item.0 >>= λ y. Ok (y, item.1)) (x, rest) h in
      let v = bound (judge item.value.0) (λ y. Ok (y, item.value.1)) (x, rest) item.second in
      let parts = same_parts v.value x item.value.1 rest v.second in
      let n = next_item bytes item.value.0 item.value.1 item.first in
      record {
        shape = v.value;
        holds = tt;
        value_is = parts.0;
        right = (j.right item.value.0 v.value v.first, tt);
        bytes_are = n.bytes_are ∙ ap (λ (xs : List ℕ). 32 ∷ (xs ++ item.value.1)) (j.text_is item.value.0 v.value v.first ∙ sym (append-nil (item_text (kind v.value))))
            ∙ ap (λ (xs : List ℕ). 32 ∷ ((item_text (kind v.value) ++ []) ++ xs)) parts.1;
        cut = subst IsCut parts.1 n.cut;
      }

  fails_item : (bytes item after : List ℕ) (flaw : Flaw) → IsNextItem bytes item after → judge item ≡ Err flaw → Fails judged_at (λ y. kind y ∷ []) (λ _. Unit {0}) bytes flaw
  fails_item bytes item after flaw n h = record {
    shape = filler;
    holds = tt;
    front = [];
    due = kind filler;
    others = [];
    items_are = refl;
    right = tt;
    tail = bytes;
    bytes_are = refl;
    why = inr (record {
      item = item;
      after = after;
      tail_is = n.bytes_are;
      whole = n.whole;
      cut = n.cut;
      other = λ e. j.other item (h ∙ ap Err e);
      number = λ e. j.number item (h ∙ ap Err e);
      stays = ap (λ (xs : List ℕ). judged_at (32 ∷ xs)) (sym (append-nil item)) ∙ at_item item [] n.whole tt ∙ rw h refl;
    });
  }

  fails_none : (bytes : List ℕ) (flaw : Flaw) → (bytes ≡ []) × (flaw ≡ Missing) → Fails judged_at (λ y. kind y ∷ []) (λ _. Unit {0}) bytes flaw
  fails_none bytes flaw h = record {
    shape = filler;
    holds = tt;
    front = [];
    due = kind filler;
    others = [];
    items_are = refl;
    right = tt;
    tail = bytes;
    bytes_are = refl;
    why = inl h;
  }

  judged_fails : (bytes : List ℕ) (flaw : Flaw) → IsCut bytes → (r : Result (List ℕ × List ℕ) Flaw) → item_at bytes ≡ r → Stops {A = A × List ℕ} (r >>= λ item. judge item.0 >>= λ x. Ok (x, item.1)) flaw
      → Fails judged_at (λ y. kind y ∷ []) (λ _. Unit {0}) bytes flaw
  judged_fails bytes flaw k (Err e) is h = let same : e ≡ flaw = cc in fails_none bytes flaw (no_item bytes flaw k (is ∙ ap Err same))
  judged_fails bytes flaw k (Ok item) is h = by_judge (judge item.0) refl h
    where
      by_judge : (q : Result A Flaw) → judge item.0 ≡ q → Stops {A = A × List ℕ} (q >>= λ x. Ok (x, item.1)) flaw → Fails judged_at (λ y. kind y ∷ []) (λ _. Unit {0}) bytes flaw
      by_judge (Err e) is' h' = let same : e ≡ flaw = cc in fails_item bytes item.0 item.1 flaw (next_item bytes item.0 item.1 is) (is' ∙ ap Err same)
      by_judge (Ok x) is' h' = absurd (cc)

  pub judged_gradual : IsGradual judged_at (λ y. kind y ∷ []) (λ y. y) (λ _. Unit {0})
  judged_gradual = record {
    filler = filler;
    filler_holds = tt;
    reads = λ x rest p r k.
        let regrouped : spaced (kind x ∷ []) ++ rest ≡ 32 ∷ (item_text (kind x) ++ rest) = ap (λ (xs : List ℕ). 32 ∷ (xs ++ rest)) (append-nil (item_text (kind x))) in
        ap judged_at regrouped ∙ at_item (item_text (kind x)) rest (j.whole x r.0) k ∙ rw (j.reads x r.0) refl;
    sure = λ x front due others tail flaw p is r k.
        let one = one_item (kind x) due front others is in
        ap (λ (xs : List Item). judged_at (spaced xs ++ tail)) one.0 ∙ judged_sure x tail flaw (subst (λ (y : Item). IsSure y tail flaw) (sym one.1) k);
    gives = judged_gives;
    fails = λ bytes flaw k h. judged_fails bytes flaw k (item_at bytes) refl h;
  }

-- numbers

digits_bad : (limit : ℕ) (item : List ℕ) → AreBadDigits limit item → number_in limit item ≡ Err Number
unfolding number_in number_of
digits_bad limit item h = rw (h.0, h.1) refl

record IsFlawOf (limit : ℕ) (item : List ℕ) (flaw : Flaw) : Type 0 where
  other : flaw ≡ Missing → ⊥
  number : flaw ≡ Number → AreBadDigits limit item

flaw_of_number : (limit : ℕ) (item : List ℕ) (flaw : Flaw) → number_in limit item ≡ Err flaw → IsFlawOf limit item flaw
unfolding number_in number_of
flaw_of_number limit item flaw h = by (is_digits item) (is_canonical item && nat_lt (digits_value 10 item) limit) refl refl h
  where
    by : (digits fits : Bool) → is_digits item ≡ digits → (is_canonical item && nat_lt (digits_value 10 item) limit) ≡ fits
        → Stops {A = ℕ} (if digits then (if fits then Ok (digits_value 10 item) else Err Number) else Err Form) flaw → IsFlawOf limit item flaw
    by true true d f h = absurd (cc)
    by true false d f h = record { other = λ e. cc; number = λ e. (d, f) }
    by false fits d f h = record { other = λ e. cc; number = λ e. absurd (cc) }

pub number_judge : (limit : ℕ) → limit ≤ 2 ^ 64 → IsJudge (number_in limit) (Below limit) 0
number_judge limit wide = record {
  whole = λ n h. decimal_item n (omega (arith, h));
  reads = λ n h. number_in_reads limit wide n h;
  text_is = λ item n h. (number_in_gives limit wide item n h).text_is ∙ append-nil (decimal n);
  right = λ item n h. (number_in_gives limit wide item n h).holds;
  bad = λ n item h. digits_bad limit item h;
  other = λ item h. (flaw_of_number limit item Missing h).other refl;
  number = λ item h. (flaw_of_number limit item Number h).number refl;
}

number_gradual : (limit : ℕ) → limit ≤ 2 ^ 64 → IsGradual (number_at limit) (λ n. Below limit n ∷ []) (λ n. n) (λ _. Unit {0})
unfolding number_at
number_gradual limit wide = judged_gradual (number_in limit) (Below limit) 0 (number_judge limit wide)

pub narrow_gradual : IsGradual narrow_at narrow (λ n. n) (λ _. Unit {0})
narrow_gradual = number_gradual (2 ^ 32) (omega arith)

pub wide_gradual : IsGradual wide_at wide (λ n. n) (λ _. Unit {0})
wide_gradual = number_gradual (2 ^ 64) (omega arith)

-- literals

literal_bad : (l : Bool × ℕ) (item : List ℕ) → IsBadNumber (Signed l) item → literal_in item ≡ Err Number
unfolding literal_in sign_of
literal_bad l [] h = absurd h
literal_bad l (c ∷ digits) (inl plus, h) = let bad = digits_bad (2 ^ 32) digits h in rw (plus, bad) refl
literal_bad l (c ∷ digits) (inr minus, h) = let bad = digits_bad (2 ^ 32) digits h in rw (minus, bad) refl

literal_flaw : (item : List ℕ) (flaw : Flaw) → literal_in item ≡ Err flaw → (flaw ≡ Missing → ⊥) × (flaw ≡ Number → IsBadNumber (Signed (true, 0)) item)
unfolding literal_in sign_of
literal_flaw [] flaw h = ((λ e. cc), (λ e. absurd (cc)))
literal_flaw (c ∷ digits) flaw h = by (c == 43) (c == 45) refl refl h
  where
    of_sign : (sign : Bool) → ((c ≡ 43) ⊎ (c ≡ 45)) → (q : Result ℕ Flaw) → number_in (2 ^ 32) digits ≡ q → Stops {A = Bool × ℕ} (q >>= λ n. Ok (sign, n)) flaw
        → (flaw ≡ Missing → ⊥) × (flaw ≡ Number → IsBadNumber (Signed (true, 0)) (c ∷ digits))
    of_sign sign s (Err e) is h =
        let same : e ≡ flaw = cc in
        let f = flaw_of_number (2 ^ 32) digits flaw (is ∙ ap Err same) in
        (f.other, λ n. (s, f.number n))
    of_sign sign s (Ok n) is h = absurd (cc)

    by : (plus minus : Bool) → (c == 43) ≡ plus → (c == 45) ≡ minus
        → Stops {A = Bool × ℕ} ((if plus then Ok true else if minus then Ok false else Err Form) >>= λ sign. number_in (2 ^ 32) digits >>= λ n. Ok (sign, n)) flaw
        → (flaw ≡ Missing → ⊥) × (flaw ≡ Number → IsBadNumber (Signed (true, 0)) (c ∷ digits))
    by true minus p m h = of_sign true (inl (is_same c 43 p)) (number_in (2 ^ 32) digits) refl h
    by false true p m h = of_sign false (inr (is_same c 45 m)) (number_in (2 ^ 32) digits) refl h
    by false false p m h = ((λ e. cc), (λ e. absurd (cc)))

literal_reads_in : (l : Bool × ℕ) → l.1 < 2 ^ 32 → literal_in ((if l.0 then 43 else 45) ∷ decimal l.1) ≡ Ok l
unfolding literal_in
literal_reads_in l h = rw (sign_reads l.0, number_in_reads (2 ^ 32) (omega arith) l.1 h) refl

literal_judge : IsJudge literal_in Signed (true, 0)
literal_judge = record {
  whole = λ l h. let s = sign_item l.0 in (s.0, decimal_item l.1 (omega (arith, h)));
  reads = literal_reads_in;
  text_is = λ item l h. (literal_in_gives item l h).text_is ∙ append-nil ((if l.0 then 43 else 45) ∷ decimal l.1);
  right = λ item l h. (literal_in_gives item l h).holds;
  bad = literal_bad;
  other = λ item h. (literal_flaw item Missing h).0 refl;
  number = λ item h. (literal_flaw item Number h).1 refl;
}

pub literal_gradual : IsGradual literal_at signed (λ l. l) (λ _. Unit {0})
unfolding literal_at
literal_gradual = judged_gradual literal_in Signed (true, 0) literal_judge

-- variables and exponents

-- a number that a further test may bar
abbrev barred_in : (ℕ → Bool) → List ℕ → Result ℕ Flaw
barred_in test item = number_in (2 ^ 32) item >>= λ n. if test n then Err Form else Ok n

module _ (test : ℕ → Bool) where
  barred_ok : (b : Bool) (n : ℕ) (x : ℕ) → test n ≡ b → Is {A = ℕ} (if b then Err Form else Ok n) x → (test x ≡ false) × (n ≡ x)
  barred_ok true n x e h = absurd (cc)
  barred_ok false n x e h = let same : n ≡ x = cc in (subst (λ (m : ℕ). test m ≡ false) same e, same)

  pub record IsBarredNumber (item : List ℕ) (x : ℕ) : Type 0 where
    pub first : number_in (2 ^ 32) item ≡ Ok x
    pub passes : test x ≡ false

  pub barred_gives : (item : List ℕ) (x : ℕ) → barred_in test item ≡ Ok x → IsBarredNumber item x
  barred_gives item x h =
      let n = bound (number_in (2 ^ 32) item) (λ m. if test m then Err Form else Ok m) x h in
      let t = barred_ok (test n.value) n.value x refl n.second in
      record { first = n.first ∙ ap Ok t.1; passes = t.0 }

  barred_flaw : (item : List ℕ) (flaw : Flaw) → barred_in test item ≡ Err flaw → IsFlawOf (2 ^ 32) item flaw
  barred_flaw item flaw h = by (number_in (2 ^ 32) item) refl h
    where
      by_test : (b : Bool) (n : ℕ) → Stops {A = ℕ} (if b then Err Form else Ok n) flaw → IsFlawOf (2 ^ 32) item flaw
      by_test true n h = record { other = λ e. cc; number = λ e. absurd (cc) }
      by_test false n h = absurd (cc)

      by : (q : Result ℕ Flaw) → number_in (2 ^ 32) item ≡ q → Stops {A = ℕ} (q >>= λ n. if test n then Err Form else Ok n) flaw → IsFlawOf (2 ^ 32) item flaw
      by (Err e) is h = let same : e ≡ flaw = cc in flaw_of_number (2 ^ 32) item flaw (is ∙ ap Err same)
      by (Ok n) is h = by_test (test n) n h

  barred_reads : (n : ℕ) → n < 2 ^ 32 → test n ≡ false → barred_in test (decimal n) ≡ Ok n
  barred_reads n h passes = rw (number_in_reads (2 ^ 32) (omega arith) n h, passes) refl

  barred_bad : (item : List ℕ) → AreBadDigits (2 ^ 32) item → barred_in test item ≡ Err Number
  barred_bad item h = rw (digits_bad (2 ^ 32) item h) refl

  -- the test comes after the number was taken off the bytes
  tested_by : (b : Bool) (n : ℕ) (rest : List ℕ) → (let r : Result (ℕ × List ℕ) Flaw = if b then Err Form else Ok (n, rest) in r) ≡ ((if b then Err Form else Ok n) >>= λ x. Ok (x, rest))
  tested_by true n rest = refl
  tested_by false n rest = refl

  tested_at : (bytes : List ℕ) → (let r : Result (ℕ × List ℕ) Flaw = narrow_at bytes >>= λ n. if test n.0 then Err Form else Ok n in r) ≡ (item_at bytes >>= λ item. barred_in test item.0 >>= λ x. Ok (x, item.1))
  unfolding number_at
  tested_at bytes = by (item_at bytes)
    where
      by_number : (q : Result ℕ Flaw) (rest : List ℕ) → (let r : Result (ℕ × List ℕ) Flaw = (q >>= λ n. Ok (n, rest)) >>= λ n. if test n.0 then Err Form else Ok n in r)
          ≡ ((q >>= λ n. if test n then Err Form else Ok n) >>= λ x. Ok (x, rest))
      by_number (Err e) rest = refl
      by_number (Ok n) rest = tested_by (test n) n rest

      by : (q : Result (List ℕ × List ℕ) Flaw) → (let r : Result (ℕ × List ℕ) Flaw = (q >>= λ item. number_in (2 ^ 32) item.0 >>= λ n. Ok (n, item.1)) >>= λ n. if test n.0 then Err Form else Ok n in r)
          ≡ (q >>= λ item. barred_in test item.0 >>= λ x. Ok (x, item.1))
      by (Err e) = refl
      by (Ok item) = by_number (number_in (2 ^ 32) item.0) item.1

narrow_text : (item : List ℕ) (n : ℕ) → number_in (2 ^ 32) item ≡ Ok n → (item ≡ decimal n) × (n < 2 ^ 32)
narrow_text item n h = let t = number_in_gives (2 ^ 32) (omega arith) item n h in (t.text_is ∙ append-nil (decimal n), t.holds)

not_below : (n least : ℕ) → nat_lt n least ≡ false → least ≤ n
not_below n least h = grind (arith, nat_tests, h)

from_least : (n least : ℕ) → least ≤ n → nat_lt n least ≡ false
from_least n least h = grind (arith, nat_tests, h)

not_zero : (n : ℕ) → (n == 0) ≡ false → 0 < n
not_zero n h = grind (arith, nat_tests, h)

some_number : (n : ℕ) → 0 < n → (n == 0) ≡ false
some_number n h = grind (arith, nat_tests, h)

variable_judge : (least : ℕ) → IsJudge (barred_in (λ n. nat_lt n least)) (Variable least) 0
variable_judge least = record {
  whole = λ n h. decimal_item n (omega (arith, h.1));
  reads = λ n h. barred_reads (λ n. nat_lt n least) n h.1 (from_least n least h.0);
  text_is = λ item n h. (narrow_text item n (barred_gives (λ n. nat_lt n least) item n h).first).0;
  right = λ item n h. let g = barred_gives (λ n. nat_lt n least) item n h in (not_below n least g.passes, (narrow_text item n g.first).1);
  bad = λ n item h. barred_bad (λ n. nat_lt n least) item h;
  other = λ item h. (barred_flaw (λ n. nat_lt n least) item Missing h).other refl;
  number = λ item h. (barred_flaw (λ n. nat_lt n least) item Number h).number refl;
}

pub variable_gradual : (least : ℕ) → IsGradual (variable_at least) (λ n. Variable least n ∷ []) (λ n. n) (λ _. Unit {0})
unfolding variable_at
variable_gradual least = same_gradual (tested_at (λ n. nat_lt n least)) (judged_gradual (barred_in (λ n. nat_lt n least)) (Variable least) 0 (variable_judge least))

exponent_judge : IsJudge (barred_in (λ n. n == 0)) Exponent 0
exponent_judge = record {
  whole = λ n h. decimal_item n (omega (arith, h.1));
  reads = λ n h. barred_reads (λ n. n == 0) n h.1 (some_number n h.0);
  text_is = λ item n h. (narrow_text item n (barred_gives (λ n. n == 0) item n h).first).0;
  right = λ item n h. let g = barred_gives (λ n. n == 0) item n h in (not_zero n g.passes, (narrow_text item n g.first).1);
  bad = λ n item h. barred_bad (λ n. n == 0) item h;
  other = λ item h. (barred_flaw (λ n. n == 0) item Missing h).other refl;
  number = λ item h. (barred_flaw (λ n. n == 0) item Number h).number refl;
}

pub exponent_gradual : IsGradual exponent_at (λ n. Exponent n ∷ []) (λ n. n) (λ _. Unit {0})
unfolding exponent_at
exponent_gradual = same_gradual (tested_at (λ n. n == 0)) (judged_gradual (barred_in (λ n. n == 0)) Exponent 0 exponent_judge)
