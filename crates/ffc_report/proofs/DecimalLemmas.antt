-- The last digits of a number.
use Rattle.std.proofs.Common.{◌≡◌, ℕ, zero, suc, ◌+◌, ◌/◌, ◌%◌, ◌≤◌, ◌==◌, Bool, true, false, List, [], ◌∷◌, ◌++◌, refl, sym, ap, ◌∙◌, arith, decimal, get_or, nat_lt, if◌then◌else◌, reverse}
use Rattle.std.specs.Fmt.{digit_glyph, digits_onto, digits}
use Rattle.std.proofs.lemmas.List.{append_assoc, reverse-append}

-- a digit comes before this at the end of the text
record HasDigitBefore (text after : List ℕ) : Type 0 where
  front : List ℕ
  digit : ℕ
  low : 48 ≤ digit
  is : text ≡ front ++ (digit ∷ after)

glyph_low_by : (b : Bool) (d : ℕ) → 48 ≤ (if b then 48 + d else (if false then 55 + d else 87 + d))
glyph_low_by true d = omega arith
glyph_low_by false d = omega arith

glyph_low : (d : ℕ) → 48 ≤ digit_glyph false d
glyph_low d = glyph_low_by (nat_lt d 10) d

glyph_zero_by : (b : Bool) (d : ℕ) → (if b then 48 + d else (if false then 55 + d else 87 + d)) ≡ 48 → d ≡ 0
glyph_zero_by true d e = omega (arith, e)
glyph_zero_by false d e = omega (arith, e)

glyph_zero : (d : ℕ) → digit_glyph false d ≡ 48 → d ≡ 0
glyph_zero d e = glyph_zero_by (nat_lt d 10) d e

one_digit : (d : ℕ) (after : List ℕ) → HasDigitBefore (digit_glyph false d ∷ after) after
one_digit d after = record { front = []; digit = digit_glyph false d; low = glyph_low d; is = refl }

more_digits : (d : ℕ) (after text : List ℕ) → HasDigitBefore text (digit_glyph false d ∷ after) → HasDigitBefore text after
more_digits d after text h =
    record { front = h.front ++ (h.digit ∷ []); digit = digit_glyph false d; low = glyph_low d; is = h.is ∙ sym (append_assoc h.front (h.digit ∷ []) (digit_glyph false d ∷ after)) }

onto_by : (b : Bool) (d : ℕ) (after text : List ℕ) → HasDigitBefore text (digit_glyph false d ∷ after) → HasDigitBefore (if b then digit_glyph false d ∷ after else text) after
onto_by true d after text h = one_digit d after
onto_by false d after text h = more_digits d after text h

onto_last : (b : Bool) (d : ℕ) (after : List ℕ) → HasDigitBefore (if b then digit_glyph false d ∷ after else digit_glyph false d ∷ after) after
onto_last true d after = one_digit d after
onto_last false d after = one_digit d after

onto_digit : (k n : ℕ) (after : List ℕ) → HasDigitBefore (digits_onto (suc k) 10 false n after) after
onto_digit zero n after = onto_last (n / 10 == 0) (n % 10) after
onto_digit (suc k) n after = onto_by (n / 10 == 0) (n % 10) after _ (onto_digit k (n / 10) (digit_glyph false (n % 10) ∷ after))

last_three : (s : List ℕ) (a b c : ℕ) → reverse (s ++ (a ∷ b ∷ c ∷ [])) ≡ c ∷ b ∷ a ∷ reverse s
last_three s a b c = reverse-append s (a ∷ b ∷ c ∷ [])

same_three : (s t : List ℕ) (a b c d e f : ℕ) → s ++ (a ∷ b ∷ c ∷ []) ≡ t ++ (d ∷ e ∷ f ∷ []) → (a ≡ d) × (b ≡ e)
same_three s t a b c d e f h =
    let turned = sym (last_three s a b c) ∙ ap reverse h ∙ last_three t d e f in
    (ap (λ l. get_or l 2 0) turned, ap (λ l. get_or l 1 0) turned)

is_small : (n : ℕ) → n / 10 ≡ 0 → n % 10 ≡ 0 → n ≡ 0
is_small n a b = omega (arith, a, b)

zero_by : (b : Bool) (front other rest : List ℕ) (n : ℕ) → (n / 10 == 0) ≡ b → HasDigitBefore rest (digit_glyph false (n % 10) ∷ [])
    → front ++ (32 ∷ 48 ∷ 10 ∷ []) ≡ other ++ (32 ∷ ((if b then digit_glyph false (n % 10) ∷ [] else rest) ++ (10 ∷ []))) → n ≡ 0
zero_by true front other rest n small h e =
    let same = same_three front other 32 48 10 32 (digit_glyph false (n % 10)) 10 e in
    is_small n (search (small, arith)) (glyph_zero (n % 10) (sym same.1))
zero_by false front other rest n small h e =
    let text : other ++ (32 ∷ (rest ++ (10 ∷ []))) ≡ (other ++ (32 ∷ h.front)) ++ (h.digit ∷ digit_glyph false (n % 10) ∷ 10 ∷ []) =
    ap (λ r. other ++ (32 ∷ (r ++ (10 ∷ [])))) h.is
    ∙ ap (λ r. other ++ (32 ∷ r)) (append_assoc h.front (h.digit ∷ digit_glyph false (n % 10) ∷ []) (10 ∷ []))
    ∙ sym (append_assoc other (32 ∷ h.front) (h.digit ∷ digit_glyph false (n % 10) ∷ 10 ∷ [])) in
    let same = same_three front (other ++ (32 ∷ h.front)) 32 48 10 h.digit (digit_glyph false (n % 10)) 10 (e ∙ text) in
    let low = h.low in absurd (omega (arith, low, same.0))

pub zero_by_end : (front other : List ℕ) (n : ℕ) → front ++ (32 ∷ 48 ∷ 10 ∷ []) ≡ other ++ (32 ∷ (decimal n ++ (10 ∷ []))) → n ≡ 0
unfolding digits
zero_by_end front other n e = zero_by (n / 10 == 0) front other _ n refl (onto_digit 62 (n / 10) (digit_glyph false (n % 10) ∷ [])) e
