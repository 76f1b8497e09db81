-- Variables that increase.
use Rattle.std.proofs.Common.{◌≡◌, ℕ, zero, suc, ◌+◌, ◌<◌, ◌≤◌, false, List, [], ◌∷◌, ◌++◌, length, Ok, refl, sym, ap, ◌∙◌, subst, arith, append_assoc}
use Rattle.std.specs.Prelude.{nat_lt}
use Rattle.std.specs.List.{AllByRecursion, flat_map}
use Rattle.std.proofs.lemmas.Bool.Decides.{nat_tests}
use Rattle.ffc_cert.specs.declared.flaws.Flaw.TheVariants.{Form}
use Rattle.ffc_cert.specs.Items.{variable_at, variables_at, chosen_at}
use Rattle.ffc_cert.specs.Spelling.{number, counted}
use Rattle.ffc_cert.specs.Ranges.{IsNarrow, Increase, AreVariables}
use Rattle.ffc_cert.specs.Cuts.{IsCut}
use Rattle.ffc_cert.proofs.Codes.{IsPlain, plain_append, IsText, IsCode, bound, barred, same_parts}
use Rattle.ffc_cert.proofs.NumberCodes.{narrow_code}
use Rattle.ffc_cert.proofs.ListCodes.{all_map, flat_cut, flat_plain}
use Rattle.ffc_cert.proofs.TermCodes.{not_below}

variable_reads : (least x : ℕ) (rest : List ℕ) → least ≤ x → IsNarrow x → IsCut rest → variable_at least (number x ++ rest) ≡ Ok (x, rest)
unfolding variable_at
variable_reads least x rest le h k = let above : nat_lt x least ≡ false = grind (arith, nat_tests, le) in rw (narrow_code.reads x rest h k, above) refl

record IsVariableText (least : ℕ) (bytes : List ℕ) (x : ℕ) (rest : List ℕ) : Type 0 where
  text_is : bytes ≡ number x ++ rest
  above : least ≤ x
  holds : IsNarrow x

variable_gives : (least : ℕ) (bytes : List ℕ) (x : ℕ) (rest : List ℕ) → variable_at least bytes ≡ Ok (x, rest) → IsVariableText least bytes x rest
unfolding variable_at
variable_gives least bytes x rest h =
    let v = bound _ _ _ h in
    let low = barred (nat_lt v.value.0 least) (Ok v.value) Form (x, rest) v.second in
    let is : v.value ≡ (x, rest) = cc (low.1) in
    let one = narrow_code.gives bytes v.value.0 v.value.1 v.first in
    let x_is : v.value.0 ≡ x = ap (λ (q : ℕ × List ℕ). q.0) is in
    record {
      text_is = one.text_is ∙ ap (λ (n : ℕ). number n ++ v.value.1) x_is ∙ ap (λ (ys : List ℕ). number x ++ ys) (ap (λ (q : ℕ × List ℕ). q.1) is);
      above = subst (λ n. least ≤ n) x_is (not_below _ _ low.0);
      holds = subst IsNarrow x_is one.holds;
    }

variables_reads : (least : ℕ) (xs rest : List ℕ) → AllByRecursion IsNarrow xs → AllByRecursion (λ y. least ≤ y) xs → Increase xs → IsCut rest
    → variables_at least (length xs) (flat_map number xs ++ rest) ≡ Ok (xs, rest)
unfolding variables_at
variables_reads least [] rest h above inc k = refl
variables_reads least (x ∷ xs) rest h above inc k =
    let further = all_map (λ (y : ℕ). x < y) (λ (y : ℕ). x + 1 ≤ y) xs (λ y lt. omega arith) inc.0 in
    rw (append_assoc (number x) (flat_map number xs) rest, variable_reads least x (flat_map number xs ++ rest) above.0 h.0 (flat_cut narrow_code xs rest k), variables_reads (x + 1) xs rest h.1 further inc.1 k) refl

record AreVariableTexts (least : ℕ) (bytes : List ℕ) (n : ℕ) (xs rest : List ℕ) : Type 0 where
  text_is : bytes ≡ flat_map number xs ++ rest
  count : length xs ≡ n
  each : AllByRecursion IsNarrow xs
  above : AllByRecursion (λ y. least ≤ y) xs
  increasing : Increase xs

variables_gives : (least n : ℕ) (bytes xs rest : List ℕ) → variables_at least n bytes ≡ Ok (xs, rest) → AreVariableTexts least bytes n xs rest
unfolding variables_at
variables_gives least zero bytes xs rest h =
    let parts = same_parts [] xs bytes rest h in
    subst (λ ys. AreVariableTexts least bytes zero ys rest) parts.0 (record { text_is = parts.1; count = refl; each = tt; above = tt; increasing = tt })
variables_gives least (suc n) bytes xs rest h =
    let first = bound _ _ _ h in
    let others = bound _ _ _ first.second in
    let parts = same_parts (first.value.0 ∷ others.value.0) xs others.value.1 rest others.second in
    let one = variable_gives least bytes first.value.0 first.value.1 first.first in
    let more = variables_gives (first.value.0 + 1) n first.value.1 others.value.0 others.value.1 others.first in
    subst (λ ys. AreVariableTexts least bytes (suc n) ys rest) parts.0 (record {
      text_is = one.text_is ∙ ap (λ (ys : List ℕ). number first.value.0 ++ ys) (more.text_is ∙ ap (λ (ys : List ℕ). flat_map number others.value.0 ++ ys) parts.1)
          ∙ sym (append_assoc (number first.value.0) (flat_map number others.value.0) rest);
      count = ap suc more.count;
      each = (one.holds, more.each);
      above = (one.above, all_map (λ (y : ℕ). first.value.0 + 1 ≤ y) (λ (y : ℕ). least ≤ y) others.value.0 (λ y le. omega (arith, one.above)) more.above);
      increasing = (all_map (λ (y : ℕ). first.value.0 + 1 ≤ y) (λ (y : ℕ). first.value.0 < y) others.value.0 (λ y le. omega arith) more.above, more.increasing);
    })

pub all_from_zero : (xs : List ℕ) → AllByRecursion (λ y. 0 ≤ y) xs
all_from_zero [] = tt
all_from_zero (x ∷ xs) = (omega arith, all_from_zero xs)

chosen_reads : (xs rest : List ℕ) → AreVariables xs → IsCut rest → chosen_at (counted number xs ++ rest) ≡ Ok (xs, rest)
unfolding chosen_at counted
chosen_reads xs rest h k =
    rw (
      append_assoc (number (length xs)) (flat_map number xs) rest,
      narrow_code.reads (length xs) (flat_map number xs ++ rest) h.counted.few (flat_cut narrow_code xs rest k),
    ) (variables_reads 0 xs rest h.counted.each (all_from_zero xs) h.increasing k)

chosen_gives : (bytes xs rest : List ℕ) → chosen_at bytes ≡ Ok (xs, rest) → IsText bytes (counted number xs) rest (AreVariables xs)
unfolding chosen_at counted
chosen_gives bytes xs rest h =
    let n = bound _ _ _ h in
    let one = narrow_code.gives bytes n.value.0 n.value.1 n.first in
    let many = variables_gives 0 n.value.0 n.value.1 xs rest n.second in
    record {
      text_is = one.text_is ∙ ap (λ (ys : List ℕ). number n.value.0 ++ ys) many.text_is
          ∙ ap (λ (m : ℕ). number m ++ (flat_map number xs ++ rest)) (sym many.count)
          ∙ sym (append_assoc (number (length xs)) (flat_map number xs) rest);
      holds = record { counted = record { few = subst IsNarrow (sym many.count) one.holds; each = many.each }; increasing = many.increasing };
    }

chosen_plain : (xs : List ℕ) → AreVariables xs → IsPlain (counted number xs)
unfolding counted
chosen_plain xs h = plain_append (number (length xs)) (flat_map number xs) (narrow_code.plain (length xs) h.counted.few) (flat_plain narrow_code xs h.counted.each)

chosen_cut : (xs rest : List ℕ) → IsCut rest → IsCut (counted number xs ++ rest)
unfolding counted
chosen_cut xs rest k = refl

pub chosen_code : IsCode chosen_at (counted number) AreVariables
chosen_code = record { cut = chosen_cut; plain = chosen_plain; reads = chosen_reads; gives = chosen_gives }
