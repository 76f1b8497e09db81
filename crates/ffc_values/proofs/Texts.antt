-- How long the lines of sums are, and that their numbers are in range.
use Rattle.std.proofs.Common.{◌≡◌, ℕ, suc, ◌+◌, ◌*◌, ◌^◌, ◌<◌, ◌≤◌, List, [], ◌∷◌, ◌++◌, length, map, codes, refl, sym, ap, ◌∙◌, subst, inl, inr, arith, append-nil, length-append, mul-suc}
use Rattle.std.specs.List.{AllByRecursion, flat_map}
use Rattle.std.proofs.Math.Nat.{mul-le-mul_left}
use Rattle.std.proofs.lemmas.Bool.{cases_lt, cond-true, cond-false, lt-ltb, le-ltb}
use Rattle.std.proofs.lemmas.Fmt.{length-decimal-le}
use Rattle.std.proofs.lemmas.List.{length_push, length-map}
use Rattle.std.proofs.lemmas.List.Concat.{flat_map-append}
use Rattle.ffc_cert.specs.declared.entries.CertLine.{CertLine}
use Rattle.ffc_cert.specs.declared.entries.CertLine.TheVariants.{Combine, Close}
use Rattle.ffc_cert.specs.Ranges.{IsNarrow, IsWide, IsMultiple, IsLine}
use Rattle.ffc_cert.specs.Spelling.{number, counted, power, multiple, line_items, line_text}
use Rattle.ffc_ring.specs.Monomial.{Monomial, IsMonomial, degree}
use Rattle.ffc_trees.specs.TreeLines.{Multiple}
use Rattle.ffc_refutation.specs.declared.combination.Determined.{Determined}
use Rattle.ffc_refutation.specs.Combinations.{Summand}
use Rattle.ffc_refutation.specs.Written.{multiple_of, whole_line, sums_tree}
use Rattle.ffc_refutation.proofs.Sums.{all_last}
use Rattle.ffc_refutation.proofs.Texts.{number_short, number_long, whole_short}
use Rattle.ffc_refutation.proofs.Readable.{multiple_in_range}
use Rattle.ffc_lemmatree.proofs.Texts.{each_short, length-counted}
use Rattle.ffc_values.specs.Written.{sums_lines, known_sum, known_lines}

-- ---- multiples by one term

pub record IsText (bound : ℕ) (m : Multiple) : Type 0 where
  pub range : IsMultiple m
  pub short : length (multiple m) ≤ bound

summand_text : (w line c : ℕ) (m : Monomial) → IsNarrow line → IsWide c → length m ≤ 16 → AllByRecursion (λ f. length (power f) ≤ w) m → length (multiple (multiple_of (line, (c, m)))) ≤ 37 + w * length m
unfolding counted
summand_text w line c m narrow wide few all =
    let first = number_short line narrow in
    let one = length-decimal-le 1 1 (omega arith) (omega arith) (omega arith) in
    let coefficient = number_long c wide in
    let count = length-decimal-le 2 (length m) (omega arith) (omega arith) (omega arith) in
    let powers : length (flat_map power m) ≤ w * length m = each_short power w m all in
    let all_powers : length (counted power m) ≡ length (number (length m)) + length (flat_map power m) = length-counted power m in
    let long : length (number line ++ (number 1 ++ ((number c ++ counted power m) ++ []))) ≡ length (number line) + (length (number 1) + (length (number c) + length (counted power m))) =
    length-append (number line) (number 1 ++ ((number c ++ counted power m) ++ []))
    ∙ ap (λ n. length (number line) + n) (length-append (number 1) ((number c ++ counted power m) ++ [])
    ∙ ap (λ n. length (number 1) + n) (ap length (append-nil (number c ++ counted power m)) ∙ length-append (number c) (counted power m))) in
    omega arith

-- powers of variables with 32 bits, and of variables with few digits
wide_powers : (m : Monomial) → degree m ≤ 1024 → AllByRecursion (λ f. IsNarrow f.0) m → AllByRecursion (λ f. length (power f) ≤ 16) m
wide_powers [] low all = tt
wide_powers (f ∷ m) low all = (
  let x = number_short f.0 all.0 in
      let e = length-decimal-le 4 f.1 (omega arith) (omega arith) (omega arith) in
      let both = length-append (number f.0) (number f.1) in
      omega arith,
  wide_powers m (omega arith) all.1,
)

short_powers : (m : Monomial) → degree m ≤ 1024 → AllByRecursion (λ f. f.0 < 10000000) m → AllByRecursion (λ f. length (power f) ≤ 13) m
short_powers [] low all = tt
short_powers (f ∷ m) low all = (
  let x = length-decimal-le 7 f.0 (omega arith) all.0 (let h : f.0 < 10000000 = all.0 in omega arith) in
      let e = length-decimal-le 4 f.1 (omega arith) (omega arith) (omega arith) in
      let both = length-append (number f.0) (number f.1) in
      omega arith,
  short_powers m (omega arith) all.1,
)

narrow_powers : (m : Monomial) → AllByRecursion (λ f. f.0 < 10000000) m → AllByRecursion (λ f. IsNarrow f.0) m
narrow_powers [] all = tt
narrow_powers (f ∷ m) all = (let h : f.0 < 10000000 = all.0 in omega arith, narrow_powers m all.1)

pub wide_text : (s : Summand) → s.0 < 2 ^ 32 → IsWide s.1.0 → IsMonomial s.1.1 → length s.1.1 ≤ 16 → degree s.1.1 ≤ 1024 → AllByRecursion (λ f. IsNarrow f.0) s.1.1 → IsText (37 + 16 * length s.1.1) (multiple_of s)
wide_text s line coefficient is few low all = record {
  range = (multiple_in_range s line coefficient is few low all).range;
  short = summand_text 16 s.0 s.1.0 s.1.1 line coefficient few (wide_powers s.1.1 low all);
}

pub short_text : (s : Summand) → s.0 < 2 ^ 32 → IsWide s.1.0 → IsMonomial s.1.1 → length s.1.1 ≤ 16 → degree s.1.1 ≤ 1024 → AllByRecursion (λ f. f.0 < 10000000) s.1.1 → IsText (37 + 13 * length s.1.1) (multiple_of s)
short_text s line coefficient is few low all = record {
  range = (multiple_in_range s line coefficient is few low (narrow_powers s.1.1 all)).range;
  short = summand_text 13 s.0 s.1.0 s.1.1 line coefficient few (short_powers s.1.1 low all);
}

pub text_within : (b c : ℕ) (m : Multiple) → b ≤ c → IsText b m → IsText c m
text_within b c m less is = record { range = is.range; short = (let h = is.short in omega arith) }

-- ---- sums

sum_short : (pending : List Multiple) → length pending < 2 ^ 32 → length (line_text (Combine pending)) ≤ 13 + length (flat_map multiple pending)
unfolding line_items
sum_short pending few =
    let count = number_short (length pending) few in
    let long : length ((codes "c" ++ counted multiple pending) ++ 10 ∷ []) ≡ 1 + length (counted multiple pending) + 1 =
    length-append (codes "c" ++ counted multiple pending) (10 ∷ []) ∙ ap (λ n. n + 1) (length-append (codes "c") (counted multiple pending)) in
    let parts = length-counted multiple pending in
    omega arith

whole_text : (n : ℕ) → IsNarrow n → length (multiple (whole_line n)) ≤ 37
whole_text n narrow = let h = summand_text 0 n 1 [] narrow (omega arith) (omega arith) tt in omega arith

-- what lines that add up multiples are, over the cases of a sum that has room and one that has not
module _ (P : ℕ → List Multiple → List Multiple → List CertLine → Type 0)
    (ends : (next : ℕ) (pending : List Multiple) → P next pending [] (Combine pending ∷ []))
    (adds : (next : ℕ) (pending : List Multiple) (m : Multiple) (ms : List Multiple) (lines : List CertLine) → length pending < 448 → P next (pending ++ m ∷ []) ms lines → P next pending (m ∷ ms) lines)
    (writes : (next : ℕ) (pending : List Multiple) (m : Multiple) (ms : List Multiple) (lines : List CertLine) → 448 ≤ length pending → P (next + 1) (whole_line next ∷ m ∷ []) ms lines → P next pending (m ∷ ms) (Combine pending ∷ lines)) where
  pub lines_by_cases : (ms : List Multiple) (next : ℕ) (pending : List Multiple) → P next pending ms (sums_lines next pending ms)
  lines_by_cases [] next pending = ends next pending
  lines_by_cases (m ∷ ms) next pending =
      elim (cases_lt (length pending) 448) as (λ _. P next pending (m ∷ ms) (sums_lines next pending (m ∷ ms))) [
        | inl room ↦ subst (P next pending (m ∷ ms)) (sym (cond-true _ _ _ (lt-ltb (length pending) 448 room))) (adds next pending m ms (sums_lines next (pending ++ m ∷ []) ms) room (lines_by_cases ms next (pending ++ m ∷ [])))
        | inr full ↦ subst (P next pending (m ∷ ms)) (sym (cond-false _ _ _ (le-ltb (length pending) 448 full))) (writes next pending m ms (sums_lines (next + 1) (whole_line next ∷ m ∷ []) ms) full (lines_by_cases ms (next + 1) (whole_line next ∷ m ∷ [])))
      ]

pub few_lines : (ms : List Multiple) (next : ℕ) (pending : List Multiple) → length (sums_lines next pending ms) ≤ length ms + 1
few_lines =
    lines_by_cases (λ next pending ms lines. length lines ≤ length ms + 1)
    (λ next pending. omega arith)
    (λ next pending m ms lines room few. omega arith)
    (λ next pending m ms lines full few. omega arith)

-- with the end of the tree they are the tree of a combination
pub closed_lines : (ms : List Multiple) (next : ℕ) (pending : List Multiple) → sums_tree next pending ms ≡ sums_lines next pending ms ++ Close ∷ []
closed_lines [] next pending = refl
closed_lines (m ∷ ms) next pending =
    elim (cases_lt (length pending) 448) as (λ _. sums_tree next pending (m ∷ ms) ≡ sums_lines next pending (m ∷ ms) ++ Close ∷ []) [
      | inl room ↦
          let test = lt-ltb (length pending) 448 room in
          cond-true _ _ _ test ∙ closed_lines ms next (pending ++ m ∷ []) ∙ sym (ap (λ ls. ls ++ Close ∷ []) (cond-true _ _ _ test))
      | inr full ↦
          let test = le-ltb (length pending) 448 full in
          cond-false _ _ _ test ∙ ap (λ ls. Combine pending ∷ ls) (closed_lines ms (next + 1) (whole_line next ∷ m ∷ [])) ∙ sym (ap (λ ls. ls ++ Close ∷ []) (cond-false _ _ _ test))
    ]

-- lines in range, in so many bytes
pub record AreTexts (most : ℕ) (lines : List CertLine) : Type 0 where
  pub ranges : AllByRecursion IsLine lines
  pub short : length (flat_map line_text lines) ≤ most

module _ (bound : ℕ) where
  sums_in_range : (ms : List Multiple) (next : ℕ) (pending : List Multiple) → next + length ms < 2 ^ 32 → length pending ≤ 448 → AllByRecursion IsMultiple pending → AllByRecursion (IsText bound) ms → AllByRecursion IsLine (sums_lines next pending ms)
  sums_in_range =
      lines_by_cases (λ next pending ms lines. next + length ms < 2 ^ 32 → length pending ≤ 448 → AllByRecursion IsMultiple pending → AllByRecursion (IsText bound) ms → AllByRecursion IsLine lines)
      (λ next pending low few all each. (record { few = omega arith; each = all }, tt))
      (λ next pending m ms lines room is low few all each. is (omega arith) (let long = length_push pending m in omega arith) (all_last IsMultiple pending m all each.0.range) each.1)
      (λ next pending m ms lines full is low few all each. (record { few = omega arith; each = all }, is (omega arith) (omega arith) ((whole_short next (omega arith)).range, (each.0.range, tt)) each.1))

  sums_short : (ms : List Multiple) (next : ℕ) (pending : List Multiple) → next + length ms < 2 ^ 32 → length pending ≤ 448 → AllByRecursion (IsText bound) ms
      → length (flat_map line_text (sums_lines next pending ms)) ≤ 13 + length (flat_map multiple pending) + length pending + (bound + 1) * length ms
  sums_short =
      lines_by_cases (λ next pending ms lines. next + length ms < 2 ^ 32 → length pending ≤ 448 → AllByRecursion (IsText bound) ms
      → length (flat_map line_text lines) ≤ 13 + length (flat_map multiple pending) + length pending + (bound + 1) * length ms)
      (λ next pending low few each.
      let one = sum_short pending (omega arith) in
      let long = length-append (line_text (Combine pending)) [] in
      omega arith)
      (λ next pending m ms lines room is low few each.
      let pushed : flat_map multiple (pending ++ m ∷ []) ≡ flat_map multiple pending ++ (multiple m ++ []) = flat_map-append multiple pending (m ∷ []) in
      let long = length-append (flat_map multiple pending) (multiple m ++ []) in
      let last = length-append (multiple m) [] in
      let size = ap length pushed in
      let short = each.0.short in
      let count = length_push pending m in
      let rest = is (omega arith) (omega arith) each.1 in
      let times : (bound + 1) * suc (length ms) ≡ (bound + 1) * length ms + (bound + 1) = mul-suc (bound + 1) (length ms) in
      omega arith)
      (λ next pending m ms lines full is low few each.
      let short = each.0.short in
      let whole = whole_text next (omega arith) in
      let rest = is (omega arith) (omega arith) each.1 in
      let long = length-append (multiple (whole_line next)) (multiple m ++ []) in
      let last = length-append (multiple m) [] in
      let one = sum_short pending (omega arith) in
      let parts = length-append (line_text (Combine pending)) (flat_map line_text lines) in
      let times : (bound + 1) * suc (length ms) ≡ (bound + 1) * length ms + (bound + 1) = mul-suc (bound + 1) (length ms) in
      omega arith)

  pub sum_texts : (ms : List Multiple) (next : ℕ) → next + length ms < 2 ^ 32 → AllByRecursion (IsText bound) ms → AreTexts (13 + (bound + 1) * length ms) (sums_lines next [] ms)
  sum_texts ms next low all = record {
    ranges = sums_in_range ms next [] low (omega arith) tt all;
    short = (let h = sums_short ms next [] low (omega arith) all in omega arith);
  }

-- ---- sums one after another

all_append : {A : Type 0} (P : A → Type 0) (xs ys : List A) → AllByRecursion P xs → AllByRecursion P ys → AllByRecursion P (xs ++ ys)
all_append P [] ys all rest = rest
all_append P (x ∷ xs) ys all rest = (all.0, all_append P xs ys all.1 rest)

pub texts_append : (m n : ℕ) (a b : List CertLine) → AreTexts m a → AreTexts n b → AreTexts (m + n) (a ++ b)
texts_append m n a b x y = record {
  ranges = all_append IsLine a b x.ranges y.ranges;
  short = (let one = x.short in let other = y.short in let e = ap length (flat_map-append line_text a b) in let long = length-append (flat_map line_text a) (flat_map line_text b) in omega arith);
}

pub texts_within : (m n : ℕ) (lines : List CertLine) → m ≤ n → AreTexts m lines → AreTexts n lines
texts_within m n lines less is = record { ranges = is.ranges; short = (let h = is.short in omega arith) }

pub close_texts : AreTexts 2 (Close ∷ [])
unfolding line_items
close_texts = record { ranges = (tt, tt); short = omega arith }

-- few multiples by one term, each with a short text
pub record IsShortSum (bound : ℕ) (k : Determined) : Type 0 where
  pub few : length k.summands.items ≤ 4096
  pub each : AllByRecursion (IsText bound) (map multiple_of k.summands.items)

pub few_known_lines : (bound : ℕ) (ks : List Determined) (next : ℕ) → AllByRecursion (IsShortSum bound) ks → length (known_lines next ks) ≤ 4097 * length ks
few_known_lines bound [] next all = omega arith
few_known_lines bound (k ∷ ks) next all =
    let sum : List CertLine = known_sum next k in
    let rest = few_known_lines bound ks (next + length sum) all.1 in
    let few = all.0.few in
    let made = length-map k.summands.items multiple_of in
    let one = few_lines (map multiple_of k.summands.items) next [] in
    let long = length-append sum (known_lines (next + length sum) ks) in
    omega arith

pub known_texts : (bound : ℕ) (ks : List Determined) (next : ℕ) → next + 4097 * length ks < 2 ^ 32 → AllByRecursion (IsShortSum bound) ks → AreTexts ((13 + (bound + 1) * 4096) * length ks) (known_lines next ks)
known_texts bound [] next low all = record { ranges = tt; short = omega arith }
known_texts bound (k ∷ ks) next low all =
    let ms : List Multiple = map multiple_of k.summands.items in
    let sum : List CertLine = known_sum next k in
    let few = all.0.few in
    let made = length-map k.summands.items multiple_of in
    let one = few_lines ms next [] in
    let most : ℕ = 13 + (bound + 1) * 4096 in
    let less : (bound + 1) * length ms ≤ (bound + 1) * 4096 = mul-le-mul_left (bound + 1) (let h : length ms ≤ 4096 = omega arith in h) in
    let times : most * suc (length ks) ≡ most * length ks + most = mul-suc most (length ks) in
    texts_within (most + most * length ks) (most * suc (length ks)) (sum ++ known_lines (next + length sum) ks) (omega arith)
    (texts_append most (most * length ks) sum (known_lines (next + length sum) ks)
    (texts_within (13 + (bound + 1) * length ms) most sum (omega arith) (sum_texts bound ms next (omega arith) all.0.each))
    (known_texts bound ks (next + length sum) (omega arith) all.1))
