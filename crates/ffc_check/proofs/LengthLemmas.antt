-- How many literals a lemma of an entry has that is not too long.
use Rattle.std.proofs.Common.{ℕ, ◌+◌, ◌≤◌, List, [], ◌∷◌, ◌++◌, length, Option, arith, length-append, codes}
use Rattle.std.specs.List.{AllByRecursion, flat_map}
use Rattle.ffc_cert.specs.declared.TheConstants.{MAX_BYTES}
use Rattle.ffc_cert.specs.declared.entries.CertLine.{CertLine}
use Rattle.ffc_cert.specs.declared.entries.CertLine.TheVariants.{Assume, Scheme, Hinted, Lemma, Combine, Bits, Chain, Step, Split, Values, Close}
use Rattle.ffc_cert.specs.declared.entries.Entry.TheVariants.{UnsatSteps}
use Rattle.ffc_cert.specs.Spelling.{number, literal, counted, order_item, line_items, line_text, clauses, entry_text}
use Rattle.ffc_clause.specs.Clauses.{Literal}
use Rattle.ffc_check.specs.Lengths.{FewLiterals}

-- each literal has a byte at least
literals_long : (lits : List Literal) → length lits ≤ length (flat_map literal lits)
literals_long [] = omega arith
literals_long (l ∷ lits) = omega (arith, length-append (literal l) (flat_map literal lits), literals_long lits)

counted_long : (lits : List Literal) → length lits ≤ length (counted literal lits)
unfolding counted
counted_long lits = omega (arith, length-append (number (length lits)) (flat_map literal lits), literals_long lits)

line_long : (order : Option ℕ) (lits : List Literal) → length lits ≤ length (line_text (Lemma order lits))
unfolding line_items
line_long order lits =
    omega (arith, counted_long lits, length-append (line_items (Lemma order lits)) (10 ∷ []), length-append (codes "f" ++ order_item order) (counted literal lits))

few_in : (x : CertLine) → length (line_text x) ≤ 67108864 → FewLiterals x
few_in (Lemma order lits) short = omega (arith, line_long order lits, short)
few_in (Assume k) short = tt
few_in (Scheme v s i) short = tt
few_in (Hinted lits hints) short = tt
few_in (Combine multiples) short = tt
few_in (Bits known chosen polynomial bits) short = tt
few_in (Chain known variable steps) short = tt
few_in (Step quotient remainder) short = tt
few_in (Split known variable zeros) short = tt
few_in (Values variable trees) short = tt
few_in Close short = tt

few_each : (lines : List CertLine) → length (flat_map line_text lines) ≤ 67108864 → AllByRecursion FewLiterals lines
few_each [] short = tt
few_each (x ∷ lines) short =
    let parts : length (line_text x) + length (flat_map line_text lines) ≤ 67108864 = omega (arith, short, length-append (line_text x) (flat_map line_text lines)) in
    (few_in x (omega arith), few_each lines (omega arith))

-- in an entry that is not too long
pub few_literals : (lines : List CertLine) → length (entry_text (UnsatSteps lines)) ≤ MAX_BYTES → AllByRecursion FewLiterals lines
unfolding entry_text
few_literals lines short =
    few_each lines (omega (arith, short, length-append (codes "unsat" ++ number (clauses lines) ++ 10 ∷ []) (flat_map line_text lines)))
