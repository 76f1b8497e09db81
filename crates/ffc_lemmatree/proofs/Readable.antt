-- The lines of a refutation by a tree are those of an entry of version 2.
use Rattle.std.proofs.Common.{inl, ◌≡◌, ℕ, zero, suc, ◌+◌, ◌^◌, ◌<◌, ◌≤◌, List, [], ◌∷◌, ◌++◌, length, map, Some, codes, refl, ap, ◌∙◌, arith, length-append}
use Rattle.std.specs.List.{AllByRecursion, range_with_len, flat_map}
use Rattle.std.proofs.lemmas.List.{append-nil, length-map}
use Rattle.std.proofs.lemmas.List.Concat.{flat_map-append}
use Rattle.std.proofs.lemmas.List.FromFn.{length-range_with_len}
use Rattle.std.proofs.lemmas.List.Sums.{count_by-le-length}
use Rattle.ffc_cert.specs.declared.entries.CertLine.{CertLine}
use Rattle.ffc_cert.specs.declared.entries.CertLine.TheVariants.{Lemma}
use Rattle.ffc_cert.specs.Grammar.{IsTree, AreClauses}
use Rattle.ffc_cert.specs.Grammar.AreClauses.{no_clauses, assume, scheme, hinted, lemma}
use Rattle.ffc_cert.specs.Ranges.{IsNarrow, IsWide, IsLiteral, IsLine}
use Rattle.ffc_cert.specs.Spelling.{number, line_items, line_text, is_clause, clauses, entry_text}
use Rattle.ffc_cert.specs.WellFormed.{LineFitsVersion}
use Rattle.ffc_clause.specs.Clauses.{Literal}
use Rattle.ffc_refutation.specs.declared.reason.Reason.{Reason}
use Rattle.ffc_refutation.specs.declared.reason.Reason.TheVariants as reason
use Rattle.ffc_refutation.specs.Forcing.{line_of}
use Rattle.ffc_refutation.specs.Given.{AreReadable}
use Rattle.ffc_refutation.specs.Written.{empty_by}
use Rattle.ffc_refutation.proofs.Texts.{number_short, lemma_short}
use Rattle.ffc_lemmatree.specs.Written.{refutation_lines}
use Rattle.ffc_lemmatree.proofs.Schemes.{HasLowScheme, reasons_short, empty_short}

pub all_append : {A : Type 0} (P : A → Type 0) (xs ys : List A) → AllByRecursion P xs → AllByRecursion P ys → AllByRecursion P (xs ++ ys)
all_append P [] ys all rest = rest
all_append P (x ∷ xs) ys all rest = (all.0, all_append P xs ys all.1 rest)

-- ---- reasons and the empty clause

reasons_are_clauses : (rs : List Reason) (rest : List CertLine) → AreClauses rest → AreClauses (map line_of rs ++ rest)
reasons_are_clauses [] rest are = are
reasons_are_clauses (reason.Assertion k ∷ rs) rest are = assume k (reasons_are_clauses rs rest are)
reasons_are_clauses (reason.Scheme node kind index ∷ rs) rest are = scheme node kind index (reasons_are_clauses rs rest are)

reasons_are_lines : (rs : List Reason) → AllByRecursion (λ r. IsLine (line_of r)) rs → AllByRecursion IsLine (map line_of rs)
reasons_are_lines [] all = tt
reasons_are_lines (r ∷ rs) all = (all.0, reasons_are_lines rs all.1)

reasons_fit : (rs : List Reason) → AllByRecursion (LineFitsVersion 2) (map line_of rs)
reasons_fit [] = tt
reasons_fit (reason.Assertion k ∷ rs) = (tt, reasons_fit rs)
reasons_fit (reason.Scheme node kind index ∷ rs) = (tt, reasons_fit rs)

hints_in_range : (a n : ℕ) → a + n < 2 ^ 32 → AllByRecursion IsNarrow (range_with_len a n)
hints_in_range a zero h = tt
hints_in_range a (suc n) h = (omega arith, hints_in_range (a + 1) n (omega arith))

empty_is_line : (n : ℕ) → n < 2 ^ 32 → IsLine (empty_by n)
empty_is_line n few =
    let size : length (range_with_len 0 n) ≡ n = length-range_with_len 0 n in
    (record { few = omega arith; each = tt }, record { few = omega arith; each = hints_in_range 0 n (omega arith) })

literals_in_range : (lits : List Literal) → AllByRecursion (λ l. IsNarrow l.1) lits → AllByRecursion IsLiteral lits
literals_in_range [] all = tt
literals_in_range (l ∷ lits) all = (all.0, literals_in_range lits all.1)

-- ---- the text

-- each line has a byte at least
few_by_text : (lines : List CertLine) → length lines ≤ length (flat_map line_text lines)
few_by_text [] = omega arith
few_by_text (l ∷ lines) =
    let long = length-append (line_text l) (flat_map line_text lines) in
    let one = length-append (line_items l) (10 ∷ []) in
    let rest = few_by_text lines in
    omega arith

-- lines in their order and in range are readable where they are few and their text is short
readable_by : (lines : List CertLine) → length lines < 2 ^ 32 → AreClauses lines → AllByRecursion IsLine lines → AllByRecursion (LineFitsVersion 2) lines → length (flat_map line_text lines) ≤ 67108847 → AreReadable lines
unfolding entry_text
readable_by lines few order ranges fits text =
    let count : clauses lines ≤ length lines = count_by-le-length is_clause lines in
    let size = number_short (clauses lines) (omega arith) in
    let long : length (((codes "unsat" ++ number (clauses lines)) ++ 10 ∷ []) ++ flat_map line_text lines) ≡ 5 + length (number (clauses lines)) + 1 + length (flat_map line_text lines) =
    length-append ((codes "unsat" ++ number (clauses lines)) ++ 10 ∷ []) (flat_map line_text lines)
    ∙ ap (λ n. n + length (flat_map line_text lines)) (length-append (codes "unsat" ++ number (clauses lines)) (10 ∷ []) ∙ ap (λ n. n + 1) (length-append (codes "unsat") (number (clauses lines)))) in
    record { well_formed = record { few = omega arith; order = order; ranges = ranges; fits = fits }; short = omega arith }

pub tree_readable : (rs : List Reason) (p : ℕ) (lits : List Literal) (tree : List CertLine) → length rs ≤ 1048577 → length lits ≤ 8192 → IsWide p
    → AllByRecursion (λ r. IsLine (line_of r)) rs → AllByRecursion HasLowScheme rs → AllByRecursion (λ l. IsNarrow l.1) lits
    → ((rest : List CertLine) → IsTree (tree ++ rest) rest) → AllByRecursion IsLine tree → AllByRecursion (LineFitsVersion 2) tree → length (flat_map line_text tree) ≤ 31000000
    → AreReadable (refutation_lines rs p lits tree)
tree_readable rs p lits tree few few_lits wide all low numbered is ranges fits short =
    let n : ℕ = length rs + 1 in
    let last : List CertLine = empty_by n ∷ [] in
    let rest : List CertLine = Lemma (Some p) lits ∷ (tree ++ last) in
    let mapped : length (map line_of rs) ≡ length rs = length-map rs line_of in
    let size = length-append (map line_of rs) rest in
    let size_tree = length-append tree last in
    let most = few_by_text tree in
    let parts : length (flat_map line_text (map line_of rs ++ rest)) ≡ length (flat_map line_text (map line_of rs)) + (length (line_text (Lemma (Some p) lits)) + (length (flat_map line_text tree) + length (line_text (empty_by n)))) =
    ap length (flat_map-append line_text (map line_of rs) rest) ∙ length-append (flat_map line_text (map line_of rs)) (flat_map line_text rest)
    ∙ ap (λ k. length (flat_map line_text (map line_of rs)) + k) (length-append (line_text (Lemma (Some p) lits)) (flat_map line_text (tree ++ last))
    ∙ ap (λ k. length (line_text (Lemma (Some p) lits)) + k) (ap length (flat_map-append line_text tree last) ∙ length-append (flat_map line_text tree) (line_text (empty_by n) ++ []) ∙ ap (λ xs. length (flat_map line_text tree) + length xs) (append-nil (line_text (empty_by n))))) in
    let front = reasons_short rs all low in
    let clause_text = lemma_short p lits wide (omega arith) numbered in
    let empty = empty_short n (omega arith) in
    readable_by (refutation_lines rs p lits tree) (omega arith)
    (reasons_are_clauses rs rest (lemma (Some p) lits (is last) (hinted [] (range_with_len 0 n) no_clauses)))
    (all_append IsLine (map line_of rs) rest (reasons_are_lines rs all)
    ((wide, record { few = omega arith; each = literals_in_range lits numbered }), all_append IsLine tree last ranges (empty_is_line n (omega arith), tt)))
    (all_append (LineFitsVersion 2) (map line_of rs) rest (reasons_fit rs) (inl refl, all_append (LineFitsVersion 2) tree last fits (tt, tt)))
    (omega arith)
