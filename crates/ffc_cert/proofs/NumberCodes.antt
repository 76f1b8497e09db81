-- Numbers and literals.
use Rattle.std.proofs.Common.{◌≡◌, ℕ, zero, suc, ◌<◌, ◌≤◌, ◌==◌, ◌^◌, Bool, true, false, List, [], ◌∷◌, ◌++◌, length, take, drop, get_or, Result, Ok, Err, refl, sym, ap, ◌∙◌, subst, arith}
use Rattle.std.proofs.lemmas.List.{append-nil}
use Rattle.std.specs.Prelude.{if◌then◌else◌, nat_lt, decimal}
use Rattle.std.specs.Char.{is_ascii_digit}
use Rattle.std.specs.List.{AllByRecursion, position_or_len, list_all}
use Rattle.std.specs.Str.Parse.{digits_value}
use Rattle.std.proofs.lemmas.Fmt.{digits_decimal, digits_value-decimal, decimal-digits_value, decimal_nonempty, first_decimal, decimal_digit}
use Rattle.std.proofs.lemmas.Bool.Decides.{nat_tests}
use borrow.Author.Tests.{ltb-true}
use Rattle.ffc_cert.specs.declared.flaws.Flaw.{Flaw}
use Rattle.ffc_cert.specs.declared.flaws.Flaw.TheVariants.{Form}
use Rattle.ffc_cert.specs.Items.{is_blank, first_item, behind_item, item_at, is_digits, is_canonical, number_of, number_in, number_at, narrow_at, wide_at, sign_of, literal_in, literal_at}
use Rattle.ffc_cert.specs.Spelling.{number, literal}
use Rattle.ffc_cert.specs.Ranges.{IsNarrow, IsWide, IsLiteral}
use Rattle.ffc_cert.proofs.NumberLemmas.{AreDigits, own, both, digits_parts}
use Rattle.ffc_cert.specs.Cuts.{IsCut, BeginsWith}
use Rattle.ffc_cert.proofs.Codes.{IsPlain, IsText, IsCode, bound, chosen, Is, same_parts}

-- an item without a space
abbrev pub IsItem : List ℕ → Type 0
IsItem bytes = AllByRecursion (λ c. is_blank c ≡ false) bytes

place : (item rest : List ℕ) → IsItem item → IsCut rest → position_or_len is_blank (item ++ rest) ≡ length item
place [] [] h k = refl
place [] (c ∷ rest) h k = rw k refl
place (c ∷ item) rest h k = let one = place item rest h.1 k in grind (arith, one, h.0)

take_front : (item rest : List ℕ) → take (length item) (item ++ rest) ≡ item
take_front [] rest = refl
take_front (c ∷ item) rest = ap (λ (xs : List ℕ). c ∷ xs) (take_front item rest)

drop_front : (item rest : List ℕ) → drop (length item) (item ++ rest) ≡ rest
drop_front [] rest = refl
drop_front (c ∷ item) rest = drop_front item rest

-- a line that begins with a word
pub word_front : (word rest : List ℕ) → IsItem word → IsCut rest → first_item (word ++ rest) ≡ word
word_front word rest h k = rw (place word rest h k) (take_front word rest)

pub word_behind : (word rest : List ℕ) → IsItem word → IsCut rest → behind_item (word ++ rest) ≡ rest
word_behind word rest h k = rw (place word rest h k) (drop_front word rest)

pub item_reads : (item rest : List ℕ) → IsItem item → IsCut rest → item_at (32 ∷ (item ++ rest)) ≡ Ok (item, rest)
unfolding item_at
item_reads item rest h k = rw (place item rest h k, take_front item rest, drop_front item rest) refl

take_drop : (n : ℕ) (xs : List ℕ) → take n xs ++ drop n xs ≡ xs
take_drop zero xs = refl
take_drop (suc n) [] = refl
take_drop (suc n) (x ∷ xs) = ap (λ (ys : List ℕ). x ∷ ys) (take_drop n xs)

pub front_behind : (bytes : List ℕ) → first_item bytes ++ behind_item bytes ≡ bytes
front_behind bytes = take_drop (position_or_len is_blank bytes) bytes

pub is_same : (a b : ℕ) → (a == b) ≡ true → a ≡ b
is_same a b h = grind (arith, nat_tests, h)

pub item_gives : (bytes item rest : List ℕ) → item_at bytes ≡ Ok (item, rest) → bytes ≡ 32 ∷ (item ++ rest)
unfolding item_at
item_gives [] item rest h = absurd (cc)
item_gives (c ∷ bytes) item rest h =
    let k = chosen (c == 32) (Ok (first_item bytes, behind_item bytes)) Form (item, rest) h in
    let one : first_item bytes ≡ item = ap (λ (r : Result (List ℕ × List ℕ) Flaw). elim r [ Ok x ↦ x.0 | Err e ↦ [] ]) k.1 in
    let two : behind_item bytes ≡ rest = ap (λ (r : Result (List ℕ × List ℕ) Flaw). elim r [ Ok x ↦ x.1 | Err e ↦ [] ]) k.1 in
    let blank : c ≡ 32 = is_same c 32 k.0 in
    rw (blank, ← one, ← two, take_drop) refl

digit_plain : (c : ℕ) → is_ascii_digit c ≡ true → ((c == 10) ≡ false) × (is_blank c ≡ false)
digit_plain c h = (grind (arith, nat_tests), grind (arith, nat_tests))

digits_plain : (ds : List ℕ) → AreDigits ds → IsPlain ds × IsItem ds
digits_plain [] h = (tt, tt)
digits_plain (d ∷ ds) h =
    let k = both (is_ascii_digit d) (list_all is_ascii_digit ds) h in
    let one = digit_plain d k.0 in
    let others = digits_plain ds k.1 in
    ((one.0, others.0), (one.1, others.1))

module _ (n : ℕ) (h : n < 2 ^ 64) where
  decimal_digits : AreDigits (decimal n)
  decimal_digits = digits_decimal own n h

  pub decimal_plain : IsPlain (decimal n)
  decimal_plain = (digits_plain (decimal n) decimal_digits).0

  pub decimal_item : IsItem (decimal n)
  decimal_item = (digits_plain (decimal n) decimal_digits).1

  pub decimal_is_digits : is_digits (decimal n) ≡ true
  unfolding is_digits
  decimal_is_digits =
      let some = decimal_nonempty n h in
      let tested : nat_lt 0 (length (decimal n)) ≡ true = grind (arith, nat_tests, some) in
      rw (tested, decimal_digits) refl

canonical_from : (ds : List ℕ) → 0 < length ds → (length ds ≡ 1 → ⊥) → 48 < get_or ds 0 0 → is_canonical ds ≡ true
unfolding is_canonical
canonical_from [] some many h = absurd (omega arith)
canonical_from (c ∷ []) some many h = refl
canonical_from (c ∷ d ∷ ds) some many h = grind (arith, nat_tests, h)

canonical_one : (ds : List ℕ) → length ds ≡ 1 → is_canonical ds ≡ true
unfolding is_canonical
canonical_one [] h = absurd (omega arith)
canonical_one (c ∷ []) h = refl
canonical_one (c ∷ d ∷ ds) h = absurd (omega arith)

pub differs : (a b : ℕ) → (a == b) ≡ false → a ≡ b → ⊥
differs a b h same = absurd (grind (arith, nat_tests, h, same))

-- 0 alone begins with 0
leading : (item : List ℕ) → is_canonical item ≡ true → get_or item 0 0 ≡ 48 → length item ≡ 1
unfolding is_canonical
leading [] h first = absurd (cc)
leading (c ∷ []) h first = refl
leading (c ∷ d ∷ ds) h first = absurd (grind (arith, nat_tests, h, first))

canonical_positive : (n : ℕ) → n < 2 ^ 64 → 48 < get_or (decimal n) 0 0 → (one : Bool) → (length (decimal n) == 1) ≡ one → is_canonical (decimal n) ≡ true
canonical_positive n h first true e = canonical_one (decimal n) (is_same _ _ e)
canonical_positive n h first false e = canonical_from (decimal n) (decimal_nonempty n h) (λ same. differs _ _ e same) first

canonical_decimal : (n : ℕ) → n < 2 ^ 64 → is_canonical (decimal n) ≡ true
canonical_decimal zero h = canonical_one (decimal 0) (ap (λ (ds : List ℕ). length ds) (decimal_digit 0 (omega arith)))
canonical_decimal (suc n) h = canonical_positive (suc n) h (first_decimal (suc n) (omega arith) h) (length (decimal (suc n)) == 1) refl

-- a number below a limit that is at most 2^64
module _ (limit : ℕ) (wide : limit ≤ 2 ^ 64) where
  pub number_in_reads : (n : ℕ) → n < limit → number_in limit (decimal n) ≡ Ok n
  unfolding number_in number_of
  number_in_reads n h =
      let small : n < 2 ^ 64 = omega arith in
      let value : digits_value 10 (decimal n) ≡ n = digits_value-decimal own n small in
      let below : nat_lt n limit ≡ true = grind (arith, nat_tests) in
      rw (decimal_is_digits n small, canonical_decimal n small, value, below) refl

  written : (n : ℕ) → (item : List ℕ) → AreDigits item → 0 < length item → is_canonical item ≡ true → digits_value 10 item ≡ n → n < limit → item ≡ decimal n
  written n item digits some canonical value h =
      let small : digits_value 10 item < 2 ^ 64 = omega arith in
      sym (decimal-digits_value own item digits some (leading item canonical) small) ∙ ap decimal value

  number_of_gives : (item : List ℕ) (n : ℕ) → is_digits item ≡ true → number_of limit item ≡ Ok n → IsText item (decimal n) [] (n < limit)
  unfolding number_of
  number_of_gives item n digits h =
      let k = chosen _ _ _ _ h in
      let parts = both _ _ k.0 in
      let value : digits_value 10 item ≡ n = cc (k.1) in
      let tested : digits_value 10 item < limit = ltb-true _ _ parts.1 in
      let below : n < limit = rw value at tested in
      let d = digits_parts item digits in
      record { text_is = written n item d.1 d.0 parts.0 value below ∙ sym (append-nil (decimal n)); holds = below }

  pub number_in_gives : (item : List ℕ) (n : ℕ) → number_in limit item ≡ Ok n → IsText item (decimal n) [] (n < limit)
  unfolding number_in
  number_in_gives item n h = let k = chosen _ _ _ _ h in number_of_gives item n k.0 k.1

  number_gives : (bytes : List ℕ) (n : ℕ) (rest : List ℕ) → number_at limit bytes ≡ Ok (n, rest) → IsText bytes (number n) rest (n < limit)
  unfolding number_at
  number_gives bytes n rest h =
      let item = bound _ _ _ h in
      let value = bound _ _ _ item.second in
      let parts = same_parts value.value n item.value.1 rest value.second in
      let text = number_in_gives item.value.0 value.value value.first in
      let here : bytes ≡ 32 ∷ (item.value.0 ++ item.value.1) = item_gives bytes item.value.0 item.value.1 item.first in
      let spelled : item.value.0 ≡ decimal n = text.text_is ∙ append-nil (decimal value.value) ∙ ap decimal parts.0 in
      record {
        text_is = here ∙ ap (λ (xs : List ℕ). 32 ∷ (xs ++ item.value.1)) spelled ∙ ap (λ (xs : List ℕ). 32 ∷ (decimal n ++ xs)) parts.1;
        holds = subst (λ m. m < limit) parts.0 text.holds;
      }

  pub number_code : IsCode (number_at limit) number (λ n. n < limit)
  unfolding number_at
  number_code = record {
    cut = λ n rest k. refl;
    plain = λ n h. (refl, decimal_plain n (omega arith));
    reads = λ n rest h k. rw (item_reads (decimal n) rest (decimal_item n (omega arith)) k, number_in_reads n h) refl;
    gives = λ bytes n rest h. number_gives bytes n rest h;
  }

canonical_digits : (ds : List ℕ) → AreDigits ds → is_canonical ds ≡ true → is_digits ds ≡ true
unfolding is_digits is_canonical
canonical_digits [] all h = absurd (cc)
canonical_digits (d ∷ ds) all h = let tested : nat_lt 0 (length (d ∷ ds)) ≡ true = grind (arith, nat_tests) in rw (tested, all) refl

-- a number at the front of a line, after a space
pub number_reads : (bytes : List ℕ) (n : ℕ) (rest : List ℕ) → BeginsWith bytes n rest → (limit : ℕ) → n < limit → number_at limit (32 ∷ bytes) ≡ Ok (n, rest)
unfolding number_at number_in number_of
number_reads bytes n rest b limit small =
    let some = canonical_digits b.digits b.are_digits b.canonical in
    let value = b.value in
    let below : nat_lt (digits_value 10 b.digits) limit ≡ true = grind (arith, nat_tests, value, small) in
    rw (b.bytes_are, item_reads b.digits rest (digits_plain b.digits b.are_digits).1 b.cut, some, b.canonical, below) (ap (λ (m : ℕ). Ok (m, rest)) (sym value))

pub narrow_code : IsCode narrow_at number IsNarrow
narrow_code = number_code (2 ^ 32) (omega arith)

pub wide_code : IsCode wide_at number IsWide
wide_code = number_code (2 ^ 64) (omega arith)

pub sign_reads : (sign : Bool) → sign_of (if sign then 43 else 45) ≡ Ok sign
unfolding sign_of
sign_reads true = refl
sign_reads false = refl

sign_is : (plus minus : Bool) (c : ℕ) (sign : Bool) → (c == 43) ≡ plus → (c == 45) ≡ minus
    → Is (if plus then Ok true else if minus then Ok false else Err Form) sign → c ≡ (if sign then 43 else 45)
sign_is true minus c true p m h = is_same c 43 p
sign_is true minus c false p m h = absurd (cc)
sign_is false true c true p m h = absurd (cc)
sign_is false true c false p m h = is_same c 45 m
sign_is false false c sign p m h = absurd (cc)

pub sign_gives : (c : ℕ) (sign : Bool) → sign_of c ≡ Ok sign → c ≡ (if sign then 43 else 45)
unfolding sign_of
sign_gives c sign h = sign_is (c == 43) (c == 45) c sign refl refl h

pub sign_item : (sign : Bool) → (is_blank (if sign then 43 else 45) ≡ false) × (((if sign then 43 else 45) == 10) ≡ false)
sign_item true = (refl, refl)
sign_item false = (refl, refl)

pub literal_in_gives : (item : List ℕ) (l : Bool × ℕ) → literal_in item ≡ Ok l → IsText item ((if l.0 then 43 else 45) ∷ decimal l.1) [] (IsLiteral l)
unfolding literal_in
literal_in_gives [] l h = absurd (cc)
literal_in_gives (c ∷ item) l h =
    let sign = bound _ _ _ h in
    let node = bound (number_in (2 ^ 32) item) (λ x. Ok (sign.value, x)) l sign.second in
    let both_are : Ok (sign.value, node.value) ≡ Ok l = node.second in
    let one : (sign.value, node.value) ≡ l = cc (both_are) in
    let text = number_in_gives (2 ^ 32) (omega arith) item node.value node.first in
    subst (λ m. IsText (c ∷ item) ((if m.0 then 43 else 45) ∷ decimal m.1) [] (IsLiteral m)) one (record {
      text_is = ap (λ (x : ℕ). x ∷ item) (sign_gives c sign.value sign.first) ∙ ap (λ (xs : List ℕ). (if sign.value then 43 else 45) ∷ xs) text.text_is;
      holds = text.holds;
    })

literal_gives : (bytes : List ℕ) (l : Bool × ℕ) (rest : List ℕ) → literal_at bytes ≡ Ok (l, rest) → IsText bytes (literal l) rest (IsLiteral l)
unfolding literal_at
literal_gives bytes l rest h =
    let item = bound _ _ _ h in
    let value = bound (literal_in item.value.0) (λ x. Ok (x, item.value.1)) (l, rest) item.second in
    let parts = same_parts value.value l item.value.1 rest value.second in
    let text = literal_in_gives item.value.0 value.value value.first in
    let here : bytes ≡ 32 ∷ (item.value.0 ++ item.value.1) = item_gives bytes item.value.0 item.value.1 item.first in
    subst (λ m. IsText bytes (literal m) rest (IsLiteral m)) parts.0 (record {
      text_is = here ∙ ap (λ (xs : List ℕ). 32 ∷ (xs ++ item.value.1)) (text.text_is ∙ append-nil ((if value.value.0 then 43 else 45) ∷ decimal value.value.1)) ∙ ap (λ (xs : List ℕ). literal value.value ++ xs) parts.1;
      holds = text.holds;
    })

literal_reads : (l : Bool × ℕ) (rest : List ℕ) → IsLiteral l → IsCut rest → literal_at (literal l ++ rest) ≡ Ok (l, rest)
unfolding literal_at literal_in
literal_reads l rest h k =
    let sign = sign_item l.0 in
    let item : IsItem ((if l.0 then 43 else 45) ∷ decimal l.1) = (sign.0, decimal_item l.1 (omega (arith, h))) in
    rw (item_reads ((if l.0 then 43 else 45) ∷ decimal l.1) rest item k, sign_reads l.0, number_in_reads (2 ^ 32) (omega arith) l.1 h) refl

pub literal_code : IsCode literal_at literal IsLiteral
literal_code = record {
  cut = λ l rest k. refl;
  plain = λ l h. (refl, ((sign_item l.0).1, decimal_plain l.1 (omega (arith, h))));
  reads = literal_reads;
  gives = literal_gives;
}

-- a literal at the front of a line, after a space
pub literal_follows : (c : ℕ) (sign : Bool) → sign_of c ≡ Ok sign → (bytes : List ℕ) (n : ℕ) (rest : List ℕ) → BeginsWith bytes n rest → n < 2 ^ 32 → literal_at (32 ∷ (c ∷ bytes)) ≡ Ok ((sign, n), rest)
unfolding literal_at literal_in number_in number_of
literal_follows c sign h bytes n rest b small =
    let some = canonical_digits b.digits b.are_digits b.canonical in
    let value = b.value in
    let below : nat_lt (digits_value 10 b.digits) (2 ^ 32) ≡ true = grind (arith, nat_tests, value, small) in
    let plain : is_blank c ≡ false = subst (λ (x : ℕ). is_blank x ≡ false) (sym (sign_gives c sign h)) (sign_item sign).0 in
    rw (b.bytes_are, item_reads (c ∷ b.digits) rest (plain, (digits_plain b.digits b.are_digits).1) b.cut, h, some, b.canonical, below) (ap (λ (m : ℕ). Ok ((sign, m), rest)) (sym value))
