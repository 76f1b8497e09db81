-- Digits, and places of bytes.
use Rattle.std.proofs.Common.{◌≡◌, ℕ, ◌<◌, ◌≤◌, ◌==◌, ◌^◌, ◌&&◌, Bool, true, false, zero, suc, ◌+◌, ◌*◌, ◌-◌, leb, ◌∷◌, [], List, length, get_or, take, refl, sym, ap, subst, ◌∙◌, rules, arith, Option, Some, None}
use Rattle.std.specs.Prelude.{unwrap_or}
use Rattle.std.specs.Char.{is_ascii_digit, digit_value}
use Rattle.std.proofs.lemmas.Str.{digit_value_digit}
use Rattle.std.proofs.lemmas.Bool.{leb-true}
use Rattle.std.proofs.lemmas.Int.Digits.{digits_value_more}
use Rattle.std.specs.List.{position_or_len, list_all}
use Rattle.std.specs.Str.Parse.{digits_value}
use Rattle.std.proofs.lemmas.List.Sums.{position_or_len_is}
use Rattle.std.proofs.lemmas.Str.Parse.{IsNumeralModel, numerals_by_value, digits_value-take-le}
use borrow.Author.Tests.{ltb-true}
use Rattle.ffc_cert.specs.Items.{is_digits}
use Rattle.memchr.specs.Find.{IsFirstByte, is_byte}

abbrev pub AreDigits : List ℕ → Type 0
AreDigits ds = list_all is_ascii_digit ds ≡ true

pub own : IsNumeralModel AreDigits (digits_value 10)
own = numerals_by_value AreDigits (search rules)

is_false : (b : Bool) → (b ≡ true → ⊥) → b ≡ false
is_false true h = absurd (h refl)
is_false false h = refl

pub place_is : (c : ℕ) (bytes : List ℕ) (r : Option ℕ) → IsFirstByte (is_byte c) bytes r → unwrap_or r (length bytes) ≡ position_or_len (λ x. x == c) bytes
place_is c bytes None h =
    sym (position_or_len_is (λ x. x == c) bytes (length bytes) 0 (omega arith) (λ k lt. is_false (get_or bytes k 0 == c) (h k (omega arith) lt)) (λ lt. absurd (omega (arith, lt))))
place_is c bytes (Some k) h =
    sym (position_or_len_is (λ x. x == c) bytes k 0 (omega (arith, h.0.high)) (λ j lt. is_false (get_or bytes j 0 == c) (h.0.before j (omega arith) lt)) (λ lt. h.1))

pub place_within : (bytes : List ℕ) (r : Option ℕ) (c : ℕ) → IsFirstByte (is_byte c) bytes r → unwrap_or r (length bytes) ≤ length bytes
place_within bytes None c h = omega arith
place_within bytes (Some k) c h = omega (arith, h.0.high)

pub both : (a b : Bool) → (a && b) ≡ true → (a ≡ true) × (b ≡ true)
both true b h = (refl, h)
both false b h = absurd (cc)

pub digits_parts : (ds : List ℕ) → is_digits ds ≡ true → (0 < length ds) × AreDigits ds
unfolding is_digits
digits_parts ds h = let p = both _ _ h in (ltb-true 0 (length ds) p.0, p.1)

digit_range : (c : ℕ) → is_ascii_digit c ≡ true → (48 ≤ c) × (c < 58)
digit_range c h = let p = both (leb 48 c) (leb c 57) h in (leb-true 48 c p.0, let le = leb-true c 57 p.1 in omega arith)

-- each digit of digits
pub digit_at : (ds : List ℕ) (i : ℕ) → AreDigits ds → i < length ds → (48 ≤ get_or ds i 0) × (get_or ds i 0 < 58)
digit_at [] i h lt = absurd (omega arith)
digit_at (d ∷ ds) zero h lt = digit_range d (both (is_ascii_digit d) (list_all is_ascii_digit ds) h).0
digit_at (d ∷ ds) (suc i) h lt = digit_at ds i (both (is_ascii_digit d) (list_all is_ascii_digit ds) h).1 (omega arith)

digit_is : (c : ℕ) → 48 ≤ c → c < 58 → digit_value c ≡ c - 48
digit_is c low high = let e = digit_value_digit c (low, omega (arith, high)) in omega (arith, e)

-- one more digit
pub value_more : (ds : List ℕ) (i : ℕ) → AreDigits ds → i < length ds → digits_value 10 (take (i + 1) ds) ≡ digits_value 10 (take i ds) * 10 + (get_or ds i 0 - 48)
value_more ds i h lt =
    let d = digit_at ds i h lt in
    digits_value_more 10 ds i lt ∙ ap (λ (n : ℕ). digits_value 10 (take i ds) * 10 + n) (digit_is (get_or ds i 0) d.0 d.1)

-- a number that the first digits write, with one more
pub value_next : (ds : List ℕ) (i n : ℕ) → AreDigits ds → i < length ds → n ≡ digits_value 10 (take i ds) → n * 10 + (get_or ds i 0 - 48) ≡ digits_value 10 (take (i + 1) ds)
value_next ds i n h lt same = ap (λ (m : ℕ). m * 10 + (get_or ds i 0 - 48)) same ∙ sym (value_more ds i h lt)

-- it is below a limit where that of all digits is
pub value_small : (ds : List ℕ) (i n : ℕ) → AreDigits ds → i < length ds → n ≡ digits_value 10 (take i ds) → digits_value 10 ds < 2 ^ 64 → n * 10 + (get_or ds i 0 - 48) < 2 ^ 64
value_small ds i n h lt same small = omega (arith, value_next ds i n h lt same, digits_value-take-le 10 ds (i + 1) (omega arith), small)

conj : (a b : Bool) → a ≡ true → b ≡ true → (a && b) ≡ true
conj true b p q = q
conj false b p q = absurd (cc)

digits_more : (bytes : List ℕ) (k m : ℕ) → m ≡ k + 1 → k < length bytes → AreDigits (take k bytes) → is_ascii_digit (get_or bytes k 0) ≡ true → AreDigits (take m bytes)
digits_more bytes k zero e lt h d = absurd (omega arith)
digits_more [] k (suc m) e lt h d = absurd (omega arith)
digits_more (c ∷ cs) zero (suc m) e lt h d =
    let none : m ≡ 0 = omega arith in
    conj (is_ascii_digit c) (list_all is_ascii_digit (take m cs)) d (subst (λ (j : ℕ). AreDigits (take j cs)) (sym none) refl)
digits_more (c ∷ cs) (suc k) (suc m) e lt h d =
    let p = both (is_ascii_digit c) (list_all is_ascii_digit (take k cs)) h in
    conj (is_ascii_digit c) (list_all is_ascii_digit (take m cs)) p.0 (digits_more cs k m (omega arith) (omega arith) p.1 d)

-- digits at the front, with one more
pub front_more : (bytes : List ℕ) (count i n longer : ℕ) → count ≡ i → i < length bytes → n ≡ digits_value 10 (take count bytes) → AreDigits (take count bytes)
    → is_ascii_digit (get_or bytes i 0) ≡ true → longer ≡ n * 10 + (get_or bytes i 0 - 48) → (longer ≡ digits_value 10 (take (count + 1) bytes)) × AreDigits (take (count + 1) bytes)
front_more bytes count i n longer same lt value digits digit is =
    let here = subst (λ (j : ℕ). is_ascii_digit (get_or bytes j 0) ≡ true) (sym same) digit in
    let more = subst (λ (j : ℕ). longer ≡ n * 10 + (get_or bytes j 0 - 48)) (sym same) is in
    let inside : count < length bytes = omega (arith, same, lt) in
    let range = digit_range (get_or bytes count 0) here in
    let last = digits_value_more 10 bytes count inside ∙ ap (λ (m : ℕ). digits_value 10 (take count bytes) * 10 + m) (digit_is (get_or bytes count 0) range.0 range.1) in (
      more ∙ (ap (λ (m : ℕ). m * 10 + (get_or bytes count 0 - 48)) value ∙ sym last),
      digits_more bytes count (count + 1) refl inside digits here,
    )
