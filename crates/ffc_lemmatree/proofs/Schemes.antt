-- How long the texts of reasons and of hints are: no node has more than four schemes, and the numbers of clauses are short.
use Rattle.std.proofs.Common.{◌≡◌, ℕ, zero, suc, ◌+◌, ◌*◌, ◌<◌, ◌≤◌, nat_lt, Bool, true, false, cond, List, [], ◌∷◌, ◌++◌, length, map, Option, Some, None, codes, sym, ap, ◌∙◌, inl, inr, arith, slice_get, length-append}
use Rattle.std.specs.List.{AllByRecursion, range_with_len, flat_map}
use Rattle.std.proofs.lemmas.Bool.{cases_lt}
use Rattle.std.proofs.lemmas.Fmt.{length-decimal-le}
use Rattle.std.proofs.lemmas.List.FromFn.{length-range_with_len}
use Rattle.std.proofs.lemmas.Option.{slice_get_past}
use Rattle.ffc_cert.specs.Ranges.{IsLine}
use Rattle.ffc_cert.specs.Spelling.{number, literal, counted, line_items, line_text}
use Rattle.ffc_clause.specs.Clauses.{Literal, Clause}
use Rattle.ffc_term.specs.declared.node.Node.{Node}
use Rattle.ffc_term.specs.declared.node.Node.TheVariants.{True, False, BoolConst, FieldConst, Num, Not, And, Or, Iff, Xor, IteBool, IteField, Eq, Add, Mul, Neg, Bitsum}
use Rattle.ffc_rules.specs.Entries.{NodeCheck}
use Rattle.ffc_rules.specs.Schemes.{schemes, schemes_at, scheme_clauses, scheme_clause}
use Rattle.ffc_refutation.specs.declared.reason.Reason.{Reason}
use Rattle.ffc_refutation.specs.declared.reason.Reason.TheVariants as reason
use Rattle.ffc_refutation.specs.Forcing.{line_of, reason_clause, Forces}
use Rattle.ffc_refutation.specs.Forcing.Forces.{nothing, next}
use Rattle.ffc_refutation.specs.Written.{empty_by}
use Rattle.ffc_refutation.proofs.Texts.{number_short}
use Rattle.ffc_lemmatree.proofs.Texts.{each_short, length-counted}

-- ---- schemes

few_schemes : (v : ℕ) (n : Node) → length (schemes v n) ≤ 4
few_schemes v True = omega arith
few_schemes v False = omega arith
few_schemes v (Not a) = omega arith
few_schemes v (And ids) = omega arith
few_schemes v (Or ids) = omega arith
few_schemes v (Iff a b) = omega arith
few_schemes v (Xor a b) = omega arith
few_schemes v (IteBool c a b) = omega arith
few_schemes v (IteField c a b) = omega arith
few_schemes v (BoolConst k) = omega arith
few_schemes v (FieldConst k p) = omega arith
few_schemes v (Num n p) = omega arith
few_schemes v (Eq a b) = omega arith
few_schemes v (Add ids) = omega arith
few_schemes v (Mul ids) = omega arith
few_schemes v (Neg a) = omega arith
few_schemes v (Bitsum ids) = omega arith

few_schemes_at : (nodes : List Node) (v : ℕ) → length (schemes_at nodes v) ≤ 4
few_schemes_at nodes v = by_node (slice_get nodes v)
  where
    by_node : (o : Option Node) → length (elim o as (λ _. List (List Clause)) [ None ↦ [] | Some n ↦ schemes v n ]) ≤ 4
    by_node None = omega arith
    by_node (Some n) = few_schemes v n

-- a clause that is there has a scheme of a low number
scheme_is_low : (nodes : List Node) (v scheme index : ℕ) (clause : Clause) → scheme_clause nodes v scheme index ≡ Some clause → scheme < 10
unfolding scheme_clause
scheme_is_low nodes v scheme index clause is =
    elim (cases_lt scheme 10) as (λ _. scheme < 10) [
      | inl low ↦ low
      | inr high ↦
          let past : slice_get (schemes_at nodes v) scheme ≡ None = slice_get_past (schemes_at nodes v) scheme (omega (arith, few_schemes_at nodes v)) in
          let none : scheme_clauses nodes v scheme ≡ [] = ap (λ (o : Option (List Clause)). elim o as (λ _. List Clause) [ None ↦ [] | Some clauses ↦ clauses ]) past in
          let missing : ◌≡◌ {A = Option Clause} None (Some clause) = sym (slice_get_past (scheme_clauses nodes v scheme) index (omega (arith, ap length none))) ∙ is in
          absurd (cc)
    ]

-- ---- reasons

abbrev pub HasLowScheme : Reason → Type 0
HasLowScheme (reason.Assertion k) = Unit {0}
HasLowScheme (reason.Scheme node scheme index) = scheme < 10

reason_is_low : (c : NodeCheck) (r : Reason) (clause : Clause) → reason_clause c r ≡ Some clause → HasLowScheme r
reason_is_low c (reason.Assertion k) clause is = tt
reason_is_low c (reason.Scheme node scheme index) clause is = by_node (nat_lt node (length c.nodes)) is
  where
    by_node : (b : Bool) → cond b (scheme_clause c.nodes node scheme index) None ≡ Some clause → scheme < 10
    by_node true given = scheme_is_low c.nodes node scheme index clause given
    by_node false given = absurd (cc)

pub forcing_is_low : (c : NodeCheck) {forced all : List Literal} {rs : List Reason} → Forces c forced rs all → AllByRecursion HasLowScheme rs
forcing_is_low c nothing = tt
forcing_is_low c (next x clause l given only later) = (reason_is_low c x clause given, forcing_is_low c later)

-- ---- texts

digit : (n : ℕ) → n < 10 → length (number n) ≤ 2
digit n low = let h = length-decimal-le 1 n (omega arith) (omega arith) (omega arith) in omega arith

reason_short : (r : Reason) → IsLine (line_of r) → HasLowScheme r → length (line_text (line_of r)) ≤ 26
unfolding line_items
reason_short (reason.Assertion k) is low =
    let one = number_short k is in
    let long : length ((codes "a" ++ number k) ++ 10 ∷ []) ≡ 1 + length (number k) + 1 = length-append (codes "a" ++ number k) (10 ∷ []) ∙ ap (λ n. n + 1) (length-append (codes "a") (number k)) in
    omega arith
reason_short (reason.Scheme node scheme index) is low =
    let one = number_short node is.0 in
    let two = digit scheme low in
    let three = number_short index is.1.1 in
    let long : length ((codes "n" ++ number node ++ number scheme ++ number index) ++ 10 ∷ []) ≡ 1 + length (number node) + length (number scheme) + length (number index) + 1 =
    length-append (codes "n" ++ number node ++ number scheme ++ number index) (10 ∷ [])
    ∙ ap (λ n. n + 1) (length-append (codes "n" ++ number node ++ number scheme) (number index)
    ∙ ap (λ n. n + length (number index)) (length-append (codes "n" ++ number node) (number scheme) ∙ ap (λ n. n + length (number scheme)) (length-append (codes "n") (number node)))) in
    omega arith

pub reasons_short : (rs : List Reason) → AllByRecursion (λ r. IsLine (line_of r)) rs → AllByRecursion HasLowScheme rs → length (flat_map line_text (map line_of rs)) ≤ 26 * length rs
reasons_short [] all low = omega arith
reasons_short (r ∷ rs) all low =
    let rest = reasons_short rs all.1 low.1 in
    let one = reason_short r all.0 low.0 in
    let long = length-append (line_text (line_of r)) (flat_map line_text (map line_of rs)) in
    omega arith

hints_short : (a n : ℕ) → a + n < 10000000 → AllByRecursion (λ h. length (number h) ≤ 8) (range_with_len a n)
hints_short a zero h = tt
hints_short a (suc n) h = (let one = length-decimal-le 7 a (omega arith) (omega arith) (omega arith) in omega arith, hints_short (a + 1) n (omega arith))

-- the empty clause, with few enough clauses as its hints
pub empty_short : (n : ℕ) → n < 10000000 → length (line_text (empty_by n)) ≤ 26 + 8 * n
unfolding line_items
empty_short n few =
    let hints : List ℕ = range_with_len 0 n in
    let size : length hints ≡ n = length-range_with_len 0 n in
    let none : length (counted literal []) ≡ length (number 0) + 0 = length-counted literal [] in
    let zero_short = number_short 0 (omega arith) in
    let all : length (counted number hints) ≡ length (number (length hints)) + length (flat_map number hints) = length-counted number hints in
    let count = number_short (length hints) (omega arith) in
    let each : length (flat_map number hints) ≤ 8 * length hints = each_short number 8 hints (hints_short 0 n (omega arith)) in
    let long : length (((codes "r" ++ counted literal []) ++ counted number hints) ++ 10 ∷ []) ≡ 1 + length (counted literal []) + length (counted number hints) + 1 =
    length-append ((codes "r" ++ counted literal []) ++ counted number hints) (10 ∷ [])
    ∙ ap (λ k. k + 1) (length-append (codes "r" ++ counted literal []) (counted number hints) ∙ ap (λ k. k + length (counted number hints)) (length-append (codes "r") (counted literal []))) in
    omega arith
