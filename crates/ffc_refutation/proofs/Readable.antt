-- The lines of refutations are those of an entry of version 2.
use Rattle.std.proofs.Common.{◌≡◌, ℕ, zero, suc, ◌+◌, ◌^◌, ◌<◌, ◌≤◌, List, [], ◌∷◌, ◌++◌, length, map, Some, codes, refl, sym, ap, ◌∙◌, subst, inl, inr, arith, length-append}
use Rattle.std.specs.List.{AllByRecursion, range_with_len, flat_map}
use Rattle.std.proofs.lemmas.Bool.{cases_lt, cond-true, cond-false, lt-ltb, le-ltb}
use Rattle.std.proofs.lemmas.List.{append-nil, length_push, length-map}
use Rattle.std.proofs.lemmas.List.Concat.{flat_map-append}
use Rattle.std.proofs.lemmas.List.FromFn.{length-range_with_len}
use Rattle.std.proofs.lemmas.List.Sums.{count_by-le-length}
use Rattle.ffc_cert.specs.declared.entries.CertLine.{CertLine}
use Rattle.ffc_cert.specs.declared.entries.CertLine.TheVariants.{Lemma, Combine, Close}
use Rattle.ffc_cert.specs.Grammar.{IsTree, AreClauses}
use Rattle.ffc_cert.specs.Grammar.IsTree.{combine, close}
use Rattle.ffc_cert.specs.Grammar.AreClauses.{no_clauses, assume, scheme, hinted, lemma}
use Rattle.ffc_cert.specs.Ranges.{IsNarrow, IsWide, IsLiteral, IsPower, VariablesIncrease, IsMultiple, IsLine}
use Rattle.ffc_cert.specs.Spelling.{number, line_text, is_clause, clauses, entry_text}
use Rattle.ffc_cert.specs.WellFormed.{LineFitsVersion}
use Rattle.ffc_ring.specs.Monomial.{Monomial, IsMonomial, IsMonomialFrom, degree}
use Rattle.ffc_clause.specs.Clauses.{Literal}
use Rattle.ffc_trees.specs.TreeLines.{Multiple}
use Rattle.ffc_refutation.specs.declared.reason.Reason.{Reason}
use Rattle.ffc_refutation.specs.declared.reason.Reason.TheVariants as reason
use Rattle.ffc_refutation.specs.Forcing.{line_of}
use Rattle.ffc_refutation.specs.Combinations.{Summand}
use Rattle.ffc_refutation.specs.Given.{AreReadable}
use Rattle.ffc_refutation.specs.Written.{empty_by, multiple_of, whole_line, sums_tree, conflict_lines, combination_lines}
use Rattle.ffc_refutation.proofs.Sums.{all_last}
use Rattle.ffc_refutation.proofs.Texts.{number_short, reasons_short, empty_short, lemma_short, IsShort, one_short, whole_short, tree_short}

all_append : {A : Type 0} (P : A → Type 0) (xs ys : List A) → AllByRecursion P xs → AllByRecursion P ys → AllByRecursion P (xs ++ ys)
all_append P [] ys all rest = rest
all_append P (x ∷ xs) ys all rest = (all.0, all_append P xs ys all.1 rest)

-- ---- reasons and the empty clause

reasons_are_clauses : (rs : List Reason) (rest : List CertLine) → AreClauses rest → AreClauses (map line_of rs ++ rest)
reasons_are_clauses [] rest are = are
reasons_are_clauses (reason.Assertion k ∷ rs) rest are = assume k (reasons_are_clauses rs rest are)
reasons_are_clauses (reason.Scheme node kind index ∷ rs) rest are = scheme node kind index (reasons_are_clauses rs rest are)

reasons_are_lines : (rs : List Reason) → AllByRecursion (λ r. IsLine (line_of r)) rs → AllByRecursion IsLine (map line_of rs)
reasons_are_lines [] all = tt
reasons_are_lines (r ∷ rs) all = (all.0, reasons_are_lines rs all.1)

reasons_fit : (rs : List Reason) → AllByRecursion (LineFitsVersion 2) (map line_of rs)
reasons_fit [] = tt
reasons_fit (reason.Assertion k ∷ rs) = (tt, reasons_fit rs)
reasons_fit (reason.Scheme node kind index ∷ rs) = (tt, reasons_fit rs)

hints_in_range : (a n : ℕ) → a + n < 2 ^ 32 → AllByRecursion IsNarrow (range_with_len a n)
hints_in_range a zero h = tt
hints_in_range a (suc n) h = (omega arith, hints_in_range (a + 1) n (omega arith))

empty_is_line : (n : ℕ) → n < 2 ^ 32 → IsLine (empty_by n)
empty_is_line n few =
    let size : length (range_with_len 0 n) ≡ n = length-range_with_len 0 n in
    (record { few = omega arith; each = tt }, record { few = omega arith; each = hints_in_range 0 n (omega arith) })

-- ---- sums

increase : (bound low : ℕ) (m : Monomial) → bound < low → IsMonomialFrom low m → AllByRecursion (λ f. bound < f.0) m
increase bound low [] h is = tt
increase bound low (f ∷ m) h is = (omega (arith, is.0), increase bound (suc f.0) m (omega (arith, is.0)) is.2)

variables_increase : (low : ℕ) (m : Monomial) → IsMonomialFrom low m → VariablesIncrease m
variables_increase low [] is = tt
variables_increase low (f ∷ m) is = (increase f.0 (suc f.0) m (omega arith) is.2, variables_increase (suc f.0) m is.2)

powers_in_range : (low : ℕ) (m : Monomial) → IsMonomialFrom low m → degree m ≤ 1024 → AllByRecursion (λ f. IsNarrow f.0) m → AllByRecursion IsPower m
powers_in_range low [] is small all = tt
powers_in_range low (f ∷ m) is small all =
    (record { variable = all.0; positive = omega (arith, is.1); exponent = omega arith }, powers_in_range (suc f.0) m is.2 (omega arith) all.1)

pub multiple_in_range : (s : Summand) → s.0 < 2 ^ 32 → IsWide s.1.0 → IsMonomial s.1.1 → length s.1.1 ≤ 16 → degree s.1.1 ≤ 1024 → AllByRecursion (λ f. IsNarrow f.0) s.1.1 → IsShort (multiple_of s)
multiple_in_range s line coefficient is few small numbered =
    one_short s (record {
      line = line;
      polynomial = record { few = omega arith; each = (record { coefficient = coefficient; monomial = record { counted = record { few = omega arith; each = powers_in_range 0 s.1.1 is small numbered }; increasing = variables_increase 0 s.1.1 is } }, tt) };
    }) few

-- what a tree that adds up multiples is, over the cases of a sum that has room and one that has not
module _ (P : ℕ → List Multiple → List Multiple → List CertLine → Type 0)
    (ends : (next : ℕ) (pending : List Multiple) → P next pending [] (Combine pending ∷ Close ∷ []))
    (adds : (next : ℕ) (pending : List Multiple) (m : Multiple) (ms : List Multiple) (lines : List CertLine) → length pending < 448 → P next (pending ++ m ∷ []) ms lines → P next pending (m ∷ ms) lines)
    (writes : (next : ℕ) (pending : List Multiple) (m : Multiple) (ms : List Multiple) (lines : List CertLine) → P (next + 1) (whole_line next ∷ m ∷ []) ms lines → P next pending (m ∷ ms) (Combine pending ∷ lines)) where
  pub tree_by_cases : (ms : List Multiple) (next : ℕ) (pending : List Multiple) → P next pending ms (sums_tree next pending ms)
  tree_by_cases [] next pending = ends next pending
  tree_by_cases (m ∷ ms) next pending =
      elim (cases_lt (length pending) 448) as (λ _. P next pending (m ∷ ms) (sums_tree next pending (m ∷ ms))) [
        | inl room ↦ subst (P next pending (m ∷ ms)) (sym (cond-true _ _ _ (lt-ltb (length pending) 448 room))) (adds next pending m ms (sums_tree next (pending ++ m ∷ []) ms) room (tree_by_cases ms next (pending ++ m ∷ [])))
        | inr full ↦ subst (P next pending (m ∷ ms)) (sym (cond-false _ _ _ (le-ltb (length pending) 448 full))) (writes next pending m ms (sums_tree (next + 1) (whole_line next ∷ m ∷ []) ms) (tree_by_cases ms (next + 1) (whole_line next ∷ m ∷ [])))
      ]

sums_are_tree : (rest : List CertLine) (ms : List Multiple) (next : ℕ) (pending : List Multiple) → IsTree (sums_tree next pending ms ++ rest) rest
sums_are_tree rest =
    tree_by_cases (λ next pending ms lines. IsTree (lines ++ rest) rest)
    (λ next pending. combine pending close)
    (λ next pending m ms lines room is. is)
    (λ next pending m ms lines is. combine pending is)

sums_fit : (ms : List Multiple) (next : ℕ) (pending : List Multiple) → AllByRecursion (LineFitsVersion 2) (sums_tree next pending ms)
sums_fit =
    tree_by_cases (λ next pending ms lines. AllByRecursion (LineFitsVersion 2) lines)
    (λ next pending. (tt, (tt, tt)))
    (λ next pending m ms lines room is. is)
    (λ next pending m ms lines is. (tt, is))

few_lines : (ms : List Multiple) (next : ℕ) (pending : List Multiple) → length (sums_tree next pending ms) ≤ length ms + 2
few_lines =
    tree_by_cases (λ next pending ms lines. length lines ≤ length ms + 2)
    (λ next pending. omega arith)
    (λ next pending m ms lines room few. omega arith)
    (λ next pending m ms lines few. omega arith)

sums_in_range : (ms : List Multiple) (next : ℕ) (pending : List Multiple) → next + length ms < 2 ^ 32 → length pending ≤ 448 → AllByRecursion IsMultiple pending → AllByRecursion IsShort ms → AllByRecursion IsLine (sums_tree next pending ms)
sums_in_range =
    tree_by_cases (λ next pending ms lines. next + length ms < 2 ^ 32 → length pending ≤ 448 → AllByRecursion IsMultiple pending → AllByRecursion IsShort ms → AllByRecursion IsLine lines)
    (λ next pending low few all each. (record { few = omega arith; each = all }, (tt, tt)))
    (λ next pending m ms lines room is low few all each. is (omega arith) (let long = length_push pending m in omega arith) (all_last IsMultiple pending m all each.0.range) each.1)
    (λ next pending m ms lines is low few all each. (record { few = omega arith; each = all }, is (omega arith) (omega arith) ((whole_short next (omega arith)).range, (each.0.range, tt)) each.1))

-- ---- refutations

-- lines in their order and in range are readable where they are few and their text is short
readable_by : (lines : List CertLine) (bound : ℕ) → length lines < 2 ^ 32 → AreClauses lines → AllByRecursion IsLine lines → AllByRecursion (LineFitsVersion 2) lines → length (flat_map line_text lines) ≤ bound → bound ≤ 67108847 → AreReadable lines
unfolding entry_text
readable_by lines bound few order ranges fits text low =
    let count : clauses lines ≤ length lines = count_by-le-length is_clause lines in
    let size = number_short (clauses lines) (omega arith) in
    let long : length (((codes "unsat" ++ number (clauses lines)) ++ 10 ∷ []) ++ flat_map line_text lines) ≡ 5 + length (number (clauses lines)) + 1 + length (flat_map line_text lines) =
    length-append ((codes "unsat" ++ number (clauses lines)) ++ 10 ∷ []) (flat_map line_text lines)
    ∙ ap (λ n. n + length (flat_map line_text lines)) (length-append (codes "unsat" ++ number (clauses lines)) (10 ∷ []) ∙ ap (λ n. n + 1) (length-append (codes "unsat") (number (clauses lines)))) in
    record { well_formed = record { few = omega arith; order = order; ranges = ranges; fits = fits }; short = omega arith }

pub conflict_readable : (rs : List Reason) → length rs ≤ 1048577 → AllByRecursion (λ r. IsLine (line_of r)) rs → AreReadable (conflict_lines rs)
conflict_readable rs few all =
    let last : List CertLine = empty_by (length rs) ∷ [] in
    let mapped : length (map line_of rs) ≡ length rs = length-map rs line_of in
    let size = length-append (map line_of rs) last in
    let parts = ap length (flat_map-append line_text (map line_of rs) last) in
    let texts = length-append (flat_map line_text (map line_of rs)) (line_text (empty_by (length rs)) ++ []) in
    let end = length-append (line_text (empty_by (length rs))) [] in
    let front = reasons_short rs all in
    let empty = empty_short (length rs) (omega arith) in
    readable_by (conflict_lines rs) 60000000 (omega arith)
    (reasons_are_clauses rs last (hinted [] (range_with_len 0 (length rs)) no_clauses))
    (all_append IsLine (map line_of rs) last (reasons_are_lines rs all) (empty_is_line (length rs) (omega arith), tt))
    (all_append (LineFitsVersion 2) (map line_of rs) last (reasons_fit rs) (tt, tt))
    (omega arith) (omega arith)

literals_in_range : (lits : List Literal) → AllByRecursion (λ l. IsNarrow l.1) lits → AllByRecursion IsLiteral lits
literals_in_range [] all = tt
literals_in_range (l ∷ lits) all = (all.0, literals_in_range lits all.1)

pub combination_readable : (rs : List Reason) (p : ℕ) (lits : List Literal) (ss : List Summand) → length rs ≤ 1048577 → length lits ≤ 8192 → length ss ≤ 8192 → IsWide p
    → AllByRecursion (λ r. IsLine (line_of r)) rs → AllByRecursion (λ l. IsNarrow l.1) lits → AllByRecursion IsShort (map multiple_of ss) → AreReadable (combination_lines rs p lits ss)
combination_readable rs p lits ss few few_lits few_terms wide all numbered each =
    let ms : List Multiple = map multiple_of ss in
    let n : ℕ = length rs + 1 in
    let sums : List CertLine = sums_tree (length lits) [] ms in
    let last : List CertLine = empty_by n ∷ [] in
    let rest : List CertLine = Lemma (Some p) lits ∷ (sums ++ last) in
    let mapped : length (map line_of rs) ≡ length rs = length-map rs line_of in
    let made : length ms ≡ length ss = length-map ss multiple_of in
    let size = length-append (map line_of rs) rest in
    let size_tree = length-append sums last in
    let most = few_lines ms (length lits) [] in
    let parts : length (flat_map line_text (map line_of rs ++ rest)) ≡ length (flat_map line_text (map line_of rs)) + (length (line_text (Lemma (Some p) lits)) + (length (flat_map line_text sums) + length (line_text (empty_by n)))) =
    ap length (flat_map-append line_text (map line_of rs) rest) ∙ length-append (flat_map line_text (map line_of rs)) (flat_map line_text rest)
    ∙ ap (λ k. length (flat_map line_text (map line_of rs)) + k) (length-append (line_text (Lemma (Some p) lits)) (flat_map line_text (sums ++ last))
    ∙ ap (λ k. length (line_text (Lemma (Some p) lits)) + k) (ap length (flat_map-append line_text sums last) ∙ length-append (flat_map line_text sums) (line_text (empty_by n) ++ []) ∙ ap (λ xs. length (flat_map line_text sums) + length xs) (append-nil (line_text (empty_by n))))) in
    let front = reasons_short rs all in
    let clause_text = lemma_short p lits wide (omega arith) numbered in
    let tree_text = tree_short ms (length lits) [] (omega arith) (omega arith) each in
    let empty = empty_short n (omega arith) in
    readable_by (combination_lines rs p lits ss) 60000000 (omega arith)
    (reasons_are_clauses rs rest (lemma (Some p) lits (sums_are_tree last ms (length lits) []) (hinted [] (range_with_len 0 n) no_clauses)))
    (all_append IsLine (map line_of rs) rest (reasons_are_lines rs all)
    ((wide, record { few = omega arith; each = literals_in_range lits numbered }), all_append IsLine sums last (sums_in_range ms (length lits) [] (omega arith) (omega arith) tt each) (empty_is_line n (omega arith), tt)))
    (all_append (LineFitsVersion 2) (map line_of rs) rest (reasons_fit rs) (inl refl, all_append (LineFitsVersion 2) sums last (sums_fit ms (length lits) []) (tt, tt)))
    (omega arith) (omega arith)
