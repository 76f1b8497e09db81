-- How long the texts of lines are.
use Rattle.std.proofs.Common.{◌≡◌, ℕ, zero, suc, ◌+◌, ◌*◌, ◌^◌, ◌<◌, ◌≤◌, List, [], ◌∷◌, ◌++◌, length, map, Some, codes, ap, ◌∙◌, inl, inr, arith, length-append, mul-suc}
use Rattle.std.proofs.lemmas.List.{append-nil, length_push}
use Rattle.std.proofs.lemmas.List.FromFn.{length-range_with_len}
use Rattle.std.specs.List.{AllByRecursion, range_with_len, flat_map}
use Rattle.std.proofs.lemmas.Bool.{cases_lt, cond-true, cond-false, lt-ltb, le-ltb}
use Rattle.std.proofs.lemmas.Fmt.{length-decimal-le}
use Rattle.std.proofs.lemmas.List.Concat.{flat_map-append}
use Rattle.ffc_cert.specs.declared.entries.CertLine.TheVariants.{Lemma, Combine, Close}
use Rattle.ffc_cert.specs.Ranges.{IsNarrow, IsWide, IsPower, IsMultiple, IsLine}
use Rattle.ffc_cert.specs.Spelling.{number, literal, counted, power, multiple, line_items, line_text}
use Rattle.ffc_clause.specs.Clauses.{Literal}
use Rattle.ffc_trees.specs.TreeLines.{Multiple}
use Rattle.ffc_refutation.specs.declared.reason.Reason.{Reason}
use Rattle.ffc_refutation.specs.declared.reason.Reason.TheVariants as reason
use Rattle.ffc_refutation.specs.Forcing.{line_of}
use Rattle.ffc_refutation.specs.Combinations.{Summand}
use Rattle.ffc_refutation.specs.Written.{empty_by, multiple_of, whole_line, sums_tree}

-- ---- items

pub number_short : (n : ℕ) → IsNarrow n → length (number n) ≤ 11
number_short n narrow = let h = length-decimal-le 10 n (omega arith) (omega arith) (omega arith) in omega arith

pub number_long : (n : ℕ) → IsWide n → length (number n) ≤ 21
number_long n wide = let h = length-decimal-le 20 n (omega arith) (omega arith) wide in omega arith

each_short : {A : Type 0} (f : A → List ℕ) (bound : ℕ) (xs : List A) → AllByRecursion (λ x. length (f x) ≤ bound) xs → length (flat_map f xs) ≤ bound * length xs
each_short f bound [] all = omega arith
each_short f bound (x ∷ xs) all =
    let rest : length (flat_map f xs) ≤ bound * length xs = each_short f bound xs all.1 in
    let long : length (f x ++ flat_map f xs) ≡ length (f x) + length (flat_map f xs) = length-append (f x) (flat_map f xs) in
    let times : bound * suc (length xs) ≡ bound * length xs + bound = mul-suc bound (length xs) in
    omega (arith, all.0)

length-counted : {A : Type 0} (f : A → List ℕ) (xs : List A) → length (counted f xs) ≡ length (number (length xs)) + length (flat_map f xs)
unfolding counted
length-counted f xs = length-append (number (length xs)) (flat_map f xs)

-- a list that is written after its count
counted_short : {A : Type 0} (f : A → List ℕ) (bound : ℕ) (xs : List A) → length xs < 2 ^ 32 → AllByRecursion (λ x. length (f x) ≤ bound) xs → length (counted f xs) ≤ 11 + bound * length xs
counted_short f bound xs few all =
    let long = length-counted f xs in
    let count = number_short (length xs) few in
    let rest = each_short f bound xs all in
    omega arith

-- ---- reasons

pub reason_short : (r : Reason) → IsLine (line_of r) → length (line_text (line_of r)) ≤ 35
unfolding line_items
reason_short (reason.Assertion k) is =
    let one = number_short k is in
    let long : length ((codes "a" ++ number k) ++ 10 ∷ []) ≡ 1 + length (number k) + 1 = length-append (codes "a" ++ number k) (10 ∷ []) ∙ ap (λ n. n + 1) (length-append (codes "a") (number k)) in
    omega arith
reason_short (reason.Scheme node scheme index) is =
    let one = number_short node is.0 in
    let two = number_short scheme is.1.0 in
    let three = number_short index is.1.1 in
    let long : length ((codes "n" ++ number node ++ number scheme ++ number index) ++ 10 ∷ []) ≡ 1 + length (number node) + length (number scheme) + length (number index) + 1 =
    length-append (codes "n" ++ number node ++ number scheme ++ number index) (10 ∷ [])
    ∙ ap (λ n. n + 1) (length-append (codes "n" ++ number node ++ number scheme) (number index)
    ∙ ap (λ n. n + length (number index)) (length-append (codes "n" ++ number node) (number scheme) ∙ ap (λ n. n + length (number scheme)) (length-append (codes "n") (number node)))) in
    omega arith

pub reasons_short : (rs : List Reason) → AllByRecursion (λ r. IsLine (line_of r)) rs → length (flat_map line_text (map line_of rs)) ≤ 35 * length rs
reasons_short [] all = omega arith
reasons_short (r ∷ rs) all =
    let rest = reasons_short rs all.1 in
    let one = reason_short r all.0 in
    let long = length-append (line_text (line_of r)) (flat_map line_text (map line_of rs)) in
    omega arith

-- ---- clauses

-- the text of a line is that of its first item, one more list, and LF
length-line : (word items : List ℕ) → length ((word ++ items) ++ 10 ∷ []) ≡ length word + length items + 1
length-line word items = length-append (word ++ items) (10 ∷ []) ∙ ap (λ n. n + 1) (length-append word items)

hints_short : (a n : ℕ) → a + n < 2 ^ 32 → AllByRecursion (λ h. length (number h) ≤ 11) (range_with_len a n)
hints_short a zero h = tt
hints_short a (suc n) h = (number_short a (omega arith), hints_short (a + 1) n (omega arith))

pub empty_short : (n : ℕ) → n < 2 ^ 32 → length (line_text (empty_by n)) ≤ 24 + 11 * n
unfolding line_items
empty_short n few =
    let hints : List ℕ = range_with_len 0 n in
    let size : length hints ≡ n = length-range_with_len 0 n in
    let none : length (counted literal []) ≤ 11 + 1 * 0 = counted_short literal 1 [] (omega arith) tt in
    let all : length (counted number hints) ≤ 11 + 11 * length hints = counted_short number 11 hints (omega arith) (hints_short 0 n (omega arith)) in
    let long : length (((codes "r" ++ counted literal []) ++ counted number hints) ++ 10 ∷ []) ≡ 1 + length (counted literal []) + length (counted number hints) + 1 =
    length-line (codes "r" ++ counted literal []) (counted number hints) ∙ ap (λ k. k + length (counted number hints) + 1) (length-append (codes "r") (counted literal [])) in
    omega arith

literals_short : (lits : List Literal) → AllByRecursion (λ l. IsNarrow l.1) lits → AllByRecursion (λ l. length (literal l) ≤ 12) lits
literals_short [] all = tt
literals_short (l ∷ lits) all = (let one = number_short l.1 all.0 in omega arith, literals_short lits all.1)

pub lemma_short : (p : ℕ) (lits : List Literal) → IsWide p → length lits < 2 ^ 32 → AllByRecursion (λ l. IsNarrow l.1) lits → length (line_text (Lemma (Some p) lits)) ≤ 34 + 12 * length lits
unfolding line_items
lemma_short p lits wide few all =
    let order = number_long p wide in
    let each = counted_short literal 12 lits few (literals_short lits all) in
    let long : length (((codes "f" ++ number p) ++ counted literal lits) ++ 10 ∷ []) ≡ 1 + length (number p) + length (counted literal lits) + 1 =
    length-line (codes "f" ++ number p) (counted literal lits) ∙ ap (λ k. k + length (counted literal lits) + 1) (length-append (codes "f") (number p)) in
    omega arith

-- ---- sums

powers_short : (powers : List (ℕ × ℕ)) → AllByRecursion IsPower powers → AllByRecursion (λ f. length (power f) ≤ 22) powers
powers_short [] all = tt
powers_short (f ∷ powers) all = (
  let one = number_short f.0 all.0.variable in
      let two = number_short f.1 all.0.exponent in
      let long = length-append (number f.0) (number f.1) in
      omega arith,
  powers_short powers all.1,
)

-- of one term with few powers
multiple_short : (line c : ℕ) (m : List (ℕ × ℕ)) → IsMultiple (line, (c, m) ∷ []) → length m ≤ 16 → length (multiple (line, (c, m) ∷ [])) ≤ 512
unfolding counted
multiple_short line c m is low =
    let one_term = is.polynomial.each.0 in
    let number_one = number_short line is.line in
    let number_two = number_short 1 (omega arith) in
    let number_three = number_long c one_term.coefficient in
    let powers : length (counted power m) ≤ 11 + 22 * length m = counted_short power 22 m (omega arith) (powers_short m one_term.monomial.counted.each) in
    let long : length (number line ++ (number 1 ++ ((number c ++ counted power m) ++ []))) ≡ length (number line) + (length (number 1) + (length (number c) + length (counted power m))) =
    length-append (number line) (number 1 ++ ((number c ++ counted power m) ++ []))
    ∙ ap (λ n. length (number line) + n) (length-append (number 1) ((number c ++ counted power m) ++ [])
    ∙ ap (λ n. length (number 1) + n) (ap length (append-nil (number c ++ counted power m)) ∙ length-append (number c) (counted power m))) in
    omega arith

-- a multiple by one term with few powers, in range
pub record IsShort (m : Multiple) : Type 0 where
  pub range : IsMultiple m
  pub short : length (multiple m) ≤ 512

pub one_short : (s : Summand) → IsMultiple (multiple_of s) → length s.1.1 ≤ 16 → IsShort (multiple_of s)
one_short s is low = record { range = is; short = multiple_short s.0 s.1.0 s.1.1 is low }

pub whole_short : (n : ℕ) → IsNarrow n → IsShort (whole_line n)
whole_short n narrow =
    let is : IsMultiple (whole_line n) = record { line = narrow; polynomial = record { few = omega arith; each = (record { coefficient = omega arith; monomial = record { counted = record { few = omega arith; each = tt }; increasing = tt } }, tt) } } in
    record { range = is; short = multiple_short n 1 [] is (omega arith) }

sum_short : (pending : List Multiple) → length pending < 2 ^ 32 → length (line_text (Combine pending)) ≤ 13 + length (flat_map multiple pending)
unfolding line_items
sum_short pending few =
    let count = number_short (length pending) few in
    let long = length-line (codes "c") (counted multiple pending) in
    let parts = length-counted multiple pending in
    omega arith

pub tree_short : (ms : List Multiple) (next : ℕ) (pending : List Multiple) → next + length ms < 2 ^ 32 → length pending ≤ 448 → AllByRecursion IsShort ms → length (flat_map line_text (sums_tree next pending ms)) ≤ 15 + length (flat_map multiple pending) + 1100 * length ms
unfolding line_items
tree_short [] next pending low few all =
    let one = sum_short pending (omega arith) in
    let long = length-append (line_text (Combine pending)) (line_text Close ++ []) in
    omega arith
tree_short (m ∷ ms) next pending low few all =
    elim (cases_lt (length pending) 448) as (λ _. length (flat_map line_text (sums_tree next pending (m ∷ ms))) ≤ 15 + length (flat_map multiple pending) + 1100 * length (m ∷ ms)) [
      | inl room ↦
          let pushed : flat_map multiple (pending ++ m ∷ []) ≡ flat_map multiple pending ++ (multiple m ++ []) = flat_map-append multiple pending (m ∷ []) in
          let long = length-append (flat_map multiple pending) (multiple m ++ []) in
          let last = length-append (multiple m) [] in
          let size = ap length pushed in
          let bound = all.0.short in
          let count = length_push pending m in
          let rest = tree_short ms next (pending ++ m ∷ []) (omega arith) (omega arith) all.1 in
          let tree : length (flat_map line_text (sums_tree next pending (m ∷ ms))) ≡ length (flat_map line_text (sums_tree next (pending ++ m ∷ []) ms)) = ap (λ ls. length (flat_map line_text ls)) (cond-true _ _ _ (lt-ltb (length pending) 448 room)) in
          omega arith
      | inr full ↦
          let bound = all.0.short in
          let whole = (whole_short next (omega arith)).short in
          let rest = tree_short ms (next + 1) (whole_line next ∷ m ∷ []) (omega arith) (omega arith) all.1 in
          let long = length-append (multiple (whole_line next)) (multiple m ++ []) in
          let last = length-append (multiple m) [] in
          let one = sum_short pending (omega arith) in
          let parts = length-append (line_text (Combine pending)) (flat_map line_text (sums_tree (next + 1) (whole_line next ∷ m ∷ []) ms)) in
          let tree : length (flat_map line_text (sums_tree next pending (m ∷ ms))) ≡ length (line_text (Combine pending) ++ flat_map line_text (sums_tree (next + 1) (whole_line next ∷ m ∷ []) ms)) = ap (λ ls. length (flat_map line_text ls)) (cond-false _ _ _ (le-ltb (length pending) 448 full)) in
          omega arith
    ]
