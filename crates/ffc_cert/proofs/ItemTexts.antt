-- A line is its items, and it is right exactly where they are.
use Rattle.std.proofs.Common.{◌≡◌, ℕ, ◌+◌, ◌<◌, ◌≤◌, ◌^◌, Bool, List, [], ◌∷◌, ◌++◌, length, Option, None, Some, refl, sym, ap, ◌∙◌, arith, append_assoc, append-nil}
use Rattle.std.specs.Prelude.{◌↔◌, codes, decimal}
use Rattle.std.specs.List.{AllByRecursion, flat_map}
use Rattle.ffc_cert.specs.declared.entries.Cause.{Cause}
use Rattle.ffc_cert.specs.declared.entries.Cause.TheVariants.{Degree, Terms, Steps, Memory}
use Rattle.ffc_cert.specs.declared.entries.Entry.{Entry}
use Rattle.ffc_cert.specs.declared.entries.Entry.TheVariants.{Sat, UnsatCases, UnsatSteps, Unknown}
use Rattle.ffc_cert.specs.declared.entries.CertLine.{CertLine}
use Rattle.ffc_cert.specs.declared.entries.CertLine.TheVariants.{Assume, Scheme, Hinted, Lemma, Combine, Bits, Chain, Step, Split, Values, Close}
use Rattle.ffc_cert.specs.Spelling.{number, literal, counted, power, term, multiple, order_item, line_items, cause_items, clauses}
use Rattle.ffc_cert.specs.Ranges.{IsNarrow, IsWide, IsLiteral, IsCounted, IsPower, VariablesIncrease, Increase, AreVariables, IsTerm, IsMultiple, IsOrder, IsLine, IsCause}
use Rattle.ffc_cert.specs.WellFormed.{IsWellFormed}
use Rattle.ffc_cert.specs.LineItems.{Item, Word, Below, spaced, narrow, wide, signed, counted_items, power_items, powers_items, variables_items, term_items, multiple_items, order_items, items_of, first_items, AreRight, LinesAreItems, ValuesAreItems, FirstLinesAreItems}
use Rattle.ffc_cert.specs.LineItems.{cause_items as items_of_cause}
use Rattle.ffc_cert.proofs.ListCodes.{all_map}
use Rattle.ffc_cert.proofs.VariableCodes.{all_from_zero}
use Rattle.ffc_cert.proofs.PrefixLemmas.{first_of, body_of, entry_is}
use Rattle.ffc_cert.proofs.Gradual.{right_front, right_rest, right_both, spaced_append}

-- items of one text, right where it is
record IsSame {A : Type 0} (items : A → List Item) (text : A → List ℕ) (P : A → Type 0) : Type 0 where
  spelled : (x : A) → spaced (items x) ≡ text x
  to : (x : A) → P x → AreRight (items x)
  from : (x : A) → AreRight (items x) → P x

below_same : (limit : ℕ) → IsSame (λ n. Below limit n ∷ []) number (λ n. n < limit)
below_same limit = record { spelled = λ n. ap (λ (xs : List ℕ). 32 ∷ xs) (append-nil (decimal n)); to = λ n h. (h, tt); from = λ n h. h.0 }

narrow_same : IsSame narrow number IsNarrow
narrow_same = below_same (2 ^ 32)

wide_same : IsSame wide number IsWide
wide_same = below_same (2 ^ 64)

signed_same : IsSame signed literal IsLiteral
signed_same = record { spelled = λ l. append-nil (literal l); to = λ l h. (h, tt); from = λ l h. h.0 }

-- two, one after the other
both_spelled : (xs ys : List Item) (s t : List ℕ) → spaced xs ≡ s → spaced ys ≡ t → spaced (xs ++ ys) ≡ s ++ t
both_spelled xs ys s t h k = spaced_append xs ys ∙ ap (λ (bs : List ℕ). bs ++ spaced ys) h ∙ ap (λ (bs : List ℕ). s ++ bs) k

module _ {A : Type 0} {items : A → List Item} {text : A → List ℕ} {P : A → Type 0} (c : IsSame items text P) where
  flat_spelled : (xs : List A) → spaced (flat_map items xs) ≡ flat_map text xs
  flat_spelled [] = refl
  flat_spelled (x ∷ xs) = both_spelled (items x) (flat_map items xs) (text x) (flat_map text xs) (c.spelled x) (flat_spelled xs)

  flat_to : (xs : List A) → AllByRecursion P xs → AreRight (flat_map items xs)
  flat_to [] h = tt
  flat_to (x ∷ xs) h = right_both (items x) (flat_map items xs) (c.to x h.0) (flat_to xs h.1)

  flat_from : (xs : List A) → AreRight (flat_map items xs) → AllByRecursion P xs
  flat_from [] h = tt
  flat_from (x ∷ xs) h = (c.from x (right_front (items x) (flat_map items xs) h), flat_from xs (right_rest (items x) (flat_map items xs) h))

  counted_same : IsSame (counted_items items) (counted text) (IsCounted P)
  unfolding counted
  counted_same = record {
    spelled = λ xs. both_spelled (narrow (length xs)) (flat_map items xs) (number (length xs)) (flat_map text xs) (narrow_same.spelled (length xs)) (flat_spelled xs);
    to = λ xs h. (h.few, flat_to xs h.each);
    from = λ xs h. record { few = h.0; each = flat_from xs h.1 };
  }

-- powers of variables that increase from a number on
power_spelled : (least : ℕ) (p : ℕ × ℕ) → spaced (power_items least p) ≡ power p
power_spelled least p =
    ap (λ (xs : List ℕ). 32 ∷ (decimal p.0 ++ (32 ∷ xs))) (append-nil (decimal p.1))

powers_spelled : (least : ℕ) (ps : List (ℕ × ℕ)) → spaced (powers_items least ps) ≡ flat_map power ps
powers_spelled least [] = refl
powers_spelled least (p ∷ ps) = both_spelled (power_items least p) (powers_items (p.0 + 1) ps) (power p) (flat_map power ps) (power_spelled least p) (powers_spelled (p.0 + 1) ps)

powers_to : (least : ℕ) (ps : List (ℕ × ℕ)) → AllByRecursion IsPower ps → AllByRecursion (λ q. least ≤ q.0) ps → VariablesIncrease ps → AreRight (powers_items least ps)
powers_to least [] h k i = tt
powers_to least (p ∷ ps) h k i =
    ((k.0, h.0.variable), ((h.0.positive, h.0.exponent), powers_to (p.0 + 1) ps h.1 (all_map (λ (q : ℕ × ℕ). p.0 < q.0) (λ (q : ℕ × ℕ). p.0 + 1 ≤ q.0) ps (λ q lt. omega arith) i.0) i.1))

record ArePowers (least : ℕ) (ps : List (ℕ × ℕ)) : Type 0 where
  each : AllByRecursion IsPower ps
  above : AllByRecursion (λ q. least ≤ q.0) ps
  increasing : VariablesIncrease ps

powers_from : (least : ℕ) (ps : List (ℕ × ℕ)) → AreRight (powers_items least ps) → ArePowers least ps
powers_from least [] h = record { each = tt; above = tt; increasing = tt }
powers_from least (p ∷ ps) h =
    let more = powers_from (p.0 + 1) ps h.1.1 in
    let low = h.0.0 in
    record {
      each = (record { variable = h.0.1; positive = h.1.0.0; exponent = h.1.0.1 }, more.each);
      above = (low, all_map (λ (q : ℕ × ℕ). p.0 + 1 ≤ q.0) (λ (q : ℕ × ℕ). least ≤ q.0) ps (λ q le. omega (arith, low)) more.above);
      increasing = (all_map (λ (q : ℕ × ℕ). p.0 + 1 ≤ q.0) (λ (q : ℕ × ℕ). p.0 < q.0) ps (λ q le. omega arith) more.above, more.increasing);
    }

from_zero : (ps : List (ℕ × ℕ)) → AllByRecursion (λ q. 0 ≤ q.0) ps
from_zero [] = tt
from_zero (p ∷ ps) = (omega arith, from_zero ps)

-- variables that increase from a number on
variables_spelled : (least : ℕ) (xs : List ℕ) → spaced (variables_items least xs) ≡ flat_map number xs
variables_spelled least [] = refl
variables_spelled least (x ∷ xs) = ap (λ (bs : List ℕ). number x ++ bs) (variables_spelled (x + 1) xs)

variables_to : (least : ℕ) (xs : List ℕ) → AllByRecursion IsNarrow xs → AllByRecursion (λ y. least ≤ y) xs → Increase xs → AreRight (variables_items least xs)
variables_to least [] h k i = tt
variables_to least (x ∷ xs) h k i = ((k.0, h.0), variables_to (x + 1) xs h.1 (all_map (λ (y : ℕ). x < y) (λ (y : ℕ). x + 1 ≤ y) xs (λ y lt. omega arith) i.0) i.1)

record AreAbove (least : ℕ) (xs : List ℕ) : Type 0 where
  each : AllByRecursion IsNarrow xs
  above : AllByRecursion (λ y. least ≤ y) xs
  increasing : Increase xs

variables_from : (least : ℕ) (xs : List ℕ) → AreRight (variables_items least xs) → AreAbove least xs
variables_from least [] h = record { each = tt; above = tt; increasing = tt }
variables_from least (x ∷ xs) h =
    let more = variables_from (x + 1) xs h.1 in
    let low = h.0.0 in
    record {
      each = (h.0.1, more.each);
      above = (low, all_map (λ (y : ℕ). x + 1 ≤ y) (λ (y : ℕ). least ≤ y) xs (λ y le. omega (arith, low)) more.above);
      increasing = (all_map (λ (y : ℕ). x + 1 ≤ y) (λ (y : ℕ). x < y) xs (λ y le. omega arith) more.above, more.increasing);
    }

chosen_same : IsSame {A = List ℕ} (λ xs. narrow (length xs) ++ variables_items 0 xs) (counted number) AreVariables
unfolding counted
chosen_same = record {
  spelled = λ xs. both_spelled (narrow (length xs)) (variables_items 0 xs) (number (length xs)) (flat_map number xs) (narrow_same.spelled (length xs)) (variables_spelled 0 xs);
  to = λ xs h. (h.counted.few, variables_to 0 xs h.counted.each (all_from_zero xs) h.increasing);
  from = λ xs h. let a = variables_from 0 xs h.1 in record { counted = record { few = h.0; each = a.each }; increasing = a.increasing };
}

term_same : IsSame term_items term IsTerm
unfolding counted
term_same = record {
  spelled = λ t. both_spelled (wide t.0) (narrow (length t.1) ++ powers_items 0 t.1) (number t.0) (number (length t.1) ++ flat_map power t.1) (wide_same.spelled t.0)
      (both_spelled (narrow (length t.1)) (powers_items 0 t.1) (number (length t.1)) (flat_map power t.1) (narrow_same.spelled (length t.1)) (powers_spelled 0 t.1));
  to = λ t h. (h.coefficient, (h.monomial.counted.few, powers_to 0 t.1 h.monomial.counted.each (from_zero t.1) h.monomial.increasing));
  from = λ t h. let p = powers_from 0 t.1 h.1.1 in record { coefficient = h.0; monomial = record { counted = record { few = h.1.0; each = p.each }; increasing = p.increasing } };
}

multiple_same : IsSame multiple_items multiple IsMultiple
multiple_same =
    let c = counted_same term_same in
    record {
      spelled = λ m. both_spelled (narrow m.0) (counted_items term_items m.1) (number m.0) (counted term m.1) (narrow_same.spelled m.0) (c.spelled m.1);
      to = λ m h. (h.line, c.to m.1 h.polynomial);
      from = λ m h. record { line = h.0; polynomial = c.from m.1 h.1 };
    }

order_same : IsSame order_items order_item IsOrder
order_same = record { spelled = spelled; to = to; from = from }
  where
    spelled : (o : Option ℕ) → spaced (order_items o) ≡ order_item o
    spelled None = refl
    spelled (Some p) = wide_same.spelled p

    to : (o : Option ℕ) → IsOrder o → AreRight (order_items o)
    to None h = tt
    to (Some p) h = (h, tt)

    from : (o : Option ℕ) → AreRight (order_items o) → IsOrder o
    from None h = tt
    from (Some p) h = h.0

-- Two items, or three.
module _ {A B : Type 0} {f : A → List Item} {t : A → List ℕ} {P : A → Type 0} (c : IsSame f t P) {g : B → List Item} {u : B → List ℕ} {Q : B → Type 0} (d : IsSame g u Q) where
  pair_same : IsSame {A = A × B} (λ x. f x.0 ++ g x.1) (λ x. t x.0 ++ u x.1) (λ x. P x.0 × Q x.1)
  pair_same = record {
    spelled = λ x. both_spelled (f x.0) (g x.1) (t x.0) (u x.1) (c.spelled x.0) (d.spelled x.1);
    to = λ x h. right_both (f x.0) (g x.1) (c.to x.0 h.0) (d.to x.1 h.1);
    from = λ x h. (c.from x.0 (right_front (f x.0) (g x.1) h), d.from x.1 (right_rest (f x.0) (g x.1) h));
  }

-- a line after its word
module _ {A : Type 0} {items : A → List Item} {text : A → List ℕ} {P : A → Type 0} (c : IsSame items text P) (word : List ℕ) (x : A) where
  same_line : 32 ∷ (word ++ text x) ≡ spaced (Word word ∷ items x)
  same_line = ap (λ (bs : List ℕ). 32 ∷ (word ++ bs)) (sym (c.spelled x))

  same_right : P x ↔ AreRight (Word word ∷ items x)
  same_right = ((λ h. (tt, c.to x h)), (λ h. c.from x h.1))

-- three texts, grouped either way
grouped : (word s t u : List ℕ) → ((word ++ s) ++ t) ++ u ≡ word ++ (s ++ (t ++ u))
grouped word s t u = append_assoc (word ++ s) t u ∙ append_assoc word s (t ++ u)

narrow_three : IsSame {A = ℕ × (ℕ × ℕ)} (λ x. narrow x.0 ++ (narrow x.1.0 ++ narrow x.1.1)) (λ x. number x.0 ++ (number x.1.0 ++ number x.1.1)) (λ x. IsNarrow x.0 × (IsNarrow x.1.0 × IsNarrow x.1.1))
narrow_three = pair_same narrow_same (pair_same narrow_same narrow_same)

hinted_same : IsSame {A = List (Bool × ℕ) × List ℕ} (λ x. counted_items signed x.0 ++ counted_items narrow x.1) (λ x. counted literal x.0 ++ counted number x.1) (λ x. IsCounted IsLiteral x.0 × IsCounted IsNarrow x.1)
hinted_same = pair_same (counted_same signed_same) (counted_same narrow_same)

lemma_same : IsSame {A = Option ℕ × List (Bool × ℕ)} (λ x. order_items x.0 ++ counted_items signed x.1) (λ x. order_item x.0 ++ counted literal x.1) (λ x. IsOrder x.0 × IsCounted IsLiteral x.1)
lemma_same = pair_same order_same (counted_same signed_same)

step_same : IsSame {A = List ℕ × List ℕ} (λ x. counted_items wide x.0 ++ counted_items wide x.1) (λ x. counted number x.0 ++ counted number x.1) (λ x. IsCounted IsWide x.0 × IsCounted IsWide x.1)
step_same = pair_same (counted_same wide_same) (counted_same wide_same)

split_same : IsSame {A = ℕ × (ℕ × List ℕ)} (λ x. narrow x.0 ++ (narrow x.1.0 ++ counted_items wide x.1.1)) (λ x. number x.0 ++ (number x.1.0 ++ counted number x.1.1)) (λ x. IsNarrow x.0 × (IsNarrow x.1.0 × IsCounted IsWide x.1.1))
split_same = pair_same narrow_same (pair_same narrow_same (counted_same wide_same))

bits_same : IsSame {A = ℕ × (List ℕ × (List (ℕ × List (ℕ × ℕ)) × List ℕ))} (λ x. narrow x.0 ++ ((narrow (length x.1.0) ++ variables_items 0 x.1.0) ++ (counted_items term_items x.1.1.0 ++ counted_items narrow x.1.1.1)))
    (λ x. number x.0 ++ (counted number x.1.0 ++ (counted term x.1.1.0 ++ counted number x.1.1.1))) (λ x. IsNarrow x.0 × (AreVariables x.1.0 × (IsCounted IsTerm x.1.1.0 × IsCounted IsNarrow x.1.1.1)))
bits_same = pair_same narrow_same (pair_same chosen_same (pair_same (counted_same term_same) (counted_same narrow_same)))

narrow_pair : IsSame {A = ℕ × ℕ} (λ x. narrow x.0 ++ narrow x.1) (λ x. number x.0 ++ number x.1) (λ x. IsNarrow x.0 × IsNarrow x.1)
narrow_pair = pair_same narrow_same narrow_same

value_same : IsSame {A = ℕ × ℕ} (λ x. narrow x.0 ++ wide x.1) (λ x. number x.0 ++ number x.1) (λ x. IsNarrow x.0 × IsWide x.1)
value_same = pair_same narrow_same wide_same

line_text_is : (l : CertLine) → 32 ∷ line_items l ≡ spaced (items_of l)
unfolding line_items
line_text_is (Assume k) = same_line narrow_same (codes "a") k
line_text_is (Scheme node scheme index) =
    ap (λ (bs : List ℕ). 32 ∷ bs) (grouped (codes "n") (number node) (number scheme) (number index)) ∙ same_line narrow_three (codes "n") (node, (scheme, index))
line_text_is (Hinted lits hints) = same_line hinted_same (codes "r") (lits, hints)
line_text_is (Lemma order lits) = same_line lemma_same (codes "f") (order, lits)
line_text_is (Combine multiples) = same_line (counted_same multiple_same) (codes "c") multiples
line_text_is (Bits line chosen polynomial bits) =
    ap (λ (bs : List ℕ). 32 ∷ bs) (grouped (codes "b" ++ number line) (counted number chosen) (counted term polynomial) (counted number bits) ∙ append_assoc (codes "b") (number line) (counted number chosen ++ (counted term polynomial ++ counted number bits)))
    ∙ same_line bits_same (codes "b") (line, (chosen, (polynomial, bits)))
line_text_is (Chain line variable steps) =
    ap (λ (bs : List ℕ). 32 ∷ bs) (grouped (codes "p") (number line) (number variable) (number steps)) ∙ same_line narrow_three (codes "p") (line, (variable, steps))
line_text_is (Step quotient remainder) = same_line step_same (codes "u") (quotient, remainder)
line_text_is (Split line variable zeros) =
    ap (λ (bs : List ℕ). 32 ∷ bs) (grouped (codes "s") (number line) (number variable) (counted number zeros)) ∙ same_line split_same (codes "s") (line, (variable, zeros))
line_text_is (Values variable trees) = same_line narrow_pair (codes "v") (variable, trees)
line_text_is Close = refl

line_right : (l : CertLine) → IsLine l ↔ AreRight (items_of l)
line_right (Assume k) = same_right narrow_same (codes "a") k
line_right (Scheme node scheme index) = same_right narrow_three (codes "n") (node, (scheme, index))
line_right (Hinted lits hints) = same_right hinted_same (codes "r") (lits, hints)
line_right (Lemma order lits) = same_right lemma_same (codes "f") (order, lits)
line_right (Combine multiples) = same_right (counted_same multiple_same) (codes "c") multiples
line_right (Bits line chosen polynomial bits) = same_right bits_same (codes "b") (line, (chosen, (polynomial, bits)))
line_right (Chain line variable steps) = same_right narrow_three (codes "p") (line, (variable, steps))
line_right (Step quotient remainder) = same_right step_same (codes "u") (quotient, remainder)
line_right (Split line variable zeros) = same_right split_same (codes "s") (line, (variable, zeros))
line_right (Values variable trees) = same_right narrow_pair (codes "v") (variable, trees)
line_right Close = ((λ h. (tt, tt)), (λ h. tt))

pub lines_are_items : LinesAreItems
lines_are_items l = (line_text_is l, line_right l)

pub values_are_items : ValuesAreItems
values_are_items v = (
  ap (λ (bs : List ℕ). 32 ∷ (bs ++ 10 ∷ [])) (append_assoc (codes "=") (number v.0) (number v.1)) ∙ ap (λ (bs : List ℕ). bs ++ 10 ∷ []) (same_line value_same (codes "=") v),
  same_right value_same (codes "=") v,
)

steps_same : IsSame {A = ℕ × (ℕ × (ℕ × ℕ))} (λ x. wide x.0 ++ (wide x.1.0 ++ (wide x.1.1.0 ++ wide x.1.1.1))) (λ x. number x.0 ++ (number x.1.0 ++ (number x.1.1.0 ++ number x.1.1.1)))
    (λ x. IsWide x.0 × (IsWide x.1.0 × (IsWide x.1.1.0 × IsWide x.1.1.1)))
steps_same = pair_same wide_same (pair_same wide_same (pair_same wide_same wide_same))

cause_text_is : (c : Cause) → spaced (items_of_cause c) ≡ cause_items c
unfolding cause_items
cause_text_is Degree = refl
cause_text_is Terms = refl
cause_text_is (Steps t r a c) =
    sym (same_line steps_same (codes "steps") (t, (r, (a, c))))
    ∙ ap (λ (bs : List ℕ). 32 ∷ bs) (sym (grouped (codes "steps" ++ number t) (number r) (number a) (number c) ∙ append_assoc (codes "steps") (number t) (number r ++ (number a ++ number c))))
cause_text_is Memory = refl

cause_right : (c : Cause) → IsCause c → AreRight (items_of_cause c)
cause_right Degree h = (tt, tt)
cause_right Terms h = (tt, tt)
cause_right (Steps t r a c) h = (tt, steps_same.to (t, (r, (a, c))) h)
cause_right Memory h = (tt, tt)

first_text_is : (e : Entry) → 32 ∷ first_of e ≡ spaced (first_items e)
first_text_is (Sat values) = same_line narrow_same (codes "sat") (length values)
first_text_is UnsatCases = refl
first_text_is (UnsatSteps lines) = same_line narrow_same (codes "unsat") (clauses lines)
first_text_is (Unknown cause) = ap (λ (bs : List ℕ). 32 ∷ (codes "unknown" ++ bs)) (sym (cause_text_is cause))

first_right : (version : ℕ) (e : Entry) → IsWellFormed version e → AreRight (first_items e)
first_right version (Sat values) h = (tt, (h.few, tt))
first_right version UnsatCases h = (tt, (tt, tt))
first_right version (UnsatSteps lines) h = (tt, (h.few, tt))
first_right version (Unknown cause) h = (tt, cause_right cause h)

pub first_lines_are_items : FirstLinesAreItems
first_lines_are_items version e = (
  record { later = body_of e; text_is = ap (λ (bs : List ℕ). 32 ∷ bs) (entry_is e) ∙ ap (λ (bs : List ℕ). bs ++ (10 ∷ body_of e)) (first_text_is e) },
  first_right version e,
)
