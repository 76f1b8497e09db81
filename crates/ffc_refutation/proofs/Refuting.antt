-- The lines of refutations break no rule.
use Rattle.std.proofs.Common.{◌≡◌, ℕ, suc, ◌+◌, ◌^◌, ◌<◌, ◌≤◌, true, List, [], ◌∷◌, ◌++◌, length, map, All, Some, Result, Ok, refl, sym, ap, ◌∙◌, subst, arith}
use Rattle.std.specs.List.{AllByRecursion, range_with_len}
use Rattle.std.proofs.lemmas.Bool.{and_from, cond-true}
use Rattle.std.proofs.lemmas.List.{length_push}
use Rattle.std.proofs.lemmas.List.Elements.{recursion_from_All}
use Rattle.std.proofs.lemmas.List.Sums.{list_all-from_AllPass}
use Rattle.ffc_cert.specs.declared.entries.CertLine.{CertLine}
use Rattle.ffc_cert.specs.declared.entries.CertLine.TheVariants.{Lemma}
use Rattle.ffc_cert.specs.Ranges.{IsNarrow, IsLine}
use Rattle.ffc_smt.specs.Numbers.{is_order}
use Rattle.ffc_smt.proofs.SoundReading.{order_good}
use Rattle.ffc_clause.specs.Clauses.{Literal, Clause, negated, is_among}
use Rattle.ffc_clause.specs.Hints.{open_literals, is_contradiction}
use Rattle.ffc_term.specs.declared.node.Node.{Node}
use Rattle.ffc_trees.specs.FirstLines.{first_lines, first_lines_from}
use Rattle.ffc_trees.specs.TreeLines.{limits as tree_limits}
use Rattle.ffc_trees.specs.Trees.{Broken as BrokenInTree}
use Rattle.ffc_trees.specs.Closing.{Closes}
use Rattle.ffc_trees.proofs.ReadLemmas.{closes-tree_read}
use Rattle.ffc_trees.proofs.RefuteLemmas.{order_below}
use Rattle.ffc_rules.specs.Entries.{NodeCheck, limits, is_equality_at, is_within, tree_given, lemma_given, clause_given}
use Rattle.ffc_rules.specs.Refutations.{Refutes}
use Rattle.ffc_rules.specs.Refutations.Gives.{next as gives_next}
use Rattle.ffc_rules.proofs.KeptLemmas.{refutations_kept}
use Rattle.ffc_refutation.specs.declared.reason.Reason.{Reason}
use Rattle.ffc_refutation.specs.Forcing.{line_of, IsConflict}
use Rattle.ffc_refutation.specs.Combinations.{Summand, IsSummand, IsRefuted}
use Rattle.ffc_refutation.specs.Given.{AreReadable, AreRight}
use Rattle.ffc_refutation.specs.Written.{empty_by, conflict_lines, multiple_of, sums_tree, combination_lines, IsNumbered}
use Rattle.ffc_refutation.proofs.Forced.{clauses_of, forced_contradict, forced_given, given_last, length-given, none_open, ends_with_empty, AreGiven, reasons_give, ends_gives}
use Rattle.ffc_refutation.proofs.Sums.{tree_closes}
use Rattle.ffc_refutation.proofs.Texts.{IsShort}
use Rattle.ffc_refutation.proofs.Readable.{multiple_in_range, combination_readable}

refutes_right : (c : NodeCheck) (lines : List CertLine) → Refutes limits c lines → AreRight c lines
refutes_right c lines r line = (refutations_kept limits c lines line).1 r

-- ---- conflicts

pub conflict_right : (c : NodeCheck) (reasons : List Reason) → IsConflict c reasons → AreRight c (conflict_lines reasons)
conflict_right c reasons is =
    let before : List Reason = is.before in
    let front : List Clause = clauses_of c is.forces in
    let all : List Clause = front ++ is.clause ∷ [] in
    let given : AreGiven c (before ++ is.last ∷ []) all = given_last c before front is.last is.clause (forced_given c is.forces) is.given in
    let count : length (before ++ is.last ∷ []) ≡ suc (length before) = (let long = length_push before is.last in omega arith) in
    let long : length all ≡ length (before ++ is.last ∷ []) = length-given c (before ++ is.last ∷ []) all given in
    let last : is_contradiction all [] (range_with_len 0 (length (before ++ is.last ∷ []))) ≡ true = rw count (forced_contradict c is.forces [] is.clause is.false_of) in
    subst (λ rs. AreRight c (conflict_lines rs)) (sym is.parts)
    (refutes_right c (conflict_lines (before ++ is.last ∷ [])) (record {
      clauses = all ++ [] ∷ [];
      gives = reasons_give c limits (before ++ is.last ∷ []) all [] (all ++ [] ∷ []) (empty_by (length (before ++ is.last ∷ [])) ∷ []) given (ends_gives c limits all (length (before ++ is.last ∷ [])) (omega arith) last);
      empty = ends_with_empty all;
    }))

-- ---- lemmas by a combination

length-first_lines : (p : ℕ) (nodes : List Node) (w : ℕ) (lits : List Literal) → length (first_lines_from p nodes w lits) ≡ length lits
length-first_lines p nodes w [] = refl
length-first_lines p nodes w (l ∷ lits) = ap suc (length-first_lines p nodes (suc w) lits)

-- a lemma whose tree closes gives its clause
lemma_gives : (c : NodeCheck) (p : ℕ) (lits : List Literal) (line : ℕ) (tree rest : List CertLine) → is_order p ≡ true → All (λ x. is_equality_at c.nodes p x.1 ≡ true) lits → All (λ x. is_within limits c.nodes x.1 ≡ true) lits
    → Closes tree_limits p (first_lines c.nodes p lits) tree rest → lemma_given limits c p lits line tree ≡ Ok (record { clause = lits; rest = rest })
unfolding lemma_given
lemma_gives c p lits line tree rest order equalities within closes =
    cond-true _ _ _ (and_from (is_order p) _ order (list_all-from_AllPass (λ x. is_equality_at c.nodes p x.1) lits equalities))
    ∙ cond-true _ _ _ (list_all-from_AllPass (λ x. is_within limits c.nodes x.1) lits within)
    ∙ ap (λ (r : Result (List CertLine) BrokenInTree). tree_given lits line r) (closes-tree_read tree_limits p (first_lines c.nodes p lits) tree rest closes)

lemma_line_gives : (c : NodeCheck) (clauses : List Clause) (p : ℕ) (lits : List Literal) (line : ℕ) (tree rest : List CertLine) → lemma_given limits c p lits line tree ≡ Ok (record { clause = lits; rest = rest }) → clause_given limits c clauses line (Lemma (Some p) lits) tree ≡ Ok (record { clause = lits; rest = rest })
unfolding clause_given
lemma_line_gives c clauses p lits line tree rest is = is

module _ (c : NodeCheck) (reasons : List Reason) (p : ℕ) (lits : List Literal) (ss : List Summand) (is : IsRefuted c reasons p lits ss) where
  positive : 0 < p
  positive = omega (arith, is.combination.nonzero, is.combination.residue)

  closes : (rest : List CertLine) → Closes tree_limits p (first_lines c.nodes p lits) (sums_tree (length lits) [] (map multiple_of ss) ++ rest) rest
  closes rest =
      let k = is.combination in
      tree_closes p (first_lines c.nodes p lits) k.monomials k.few k.low k.value k.nonzero k.residue ss (length lits) rest (sym (length-first_lines p c.nodes (length c.nodes) lits))
      (recursion_from_All (IsSummand p (first_lines c.nodes p lits) k.monomials) ss k.each) k.sum

  pub combination_right : AreRight c (combination_lines reasons p lits ss)
  combination_right =
      let n : ℕ = length reasons + 1 in
      let front : List Clause = clauses_of c is.forces in
      let all : List Clause = front ++ lits ∷ [] in
      let last : List CertLine = empty_by n ∷ [] in
      let tree : List CertLine = sums_tree (length lits) [] (map multiple_of ss) ++ last in
      let long : length front ≡ length reasons = length-given c reasons front (forced_given c is.forces) in
      let count : n ≡ suc (length reasons) = omega arith in
      let more : length all ≡ length front + 1 = length_push front lits in
      let none : open_literals is.forced lits ≡ [] = none_open is.forced lits (recursion_from_All (λ x. is_among is.forced (negated x) ≡ true) lits is.lemma.false_of) in
      let contradict : is_contradiction all [] (range_with_len 0 n) ≡ true = rw count (forced_contradict c is.forces [] lits none) in
      let given : (line : ℕ) → clause_given limits c front line (Lemma (Some p) lits) tree ≡ Ok (record { clause = lits; rest = last }) =
      λ line. lemma_line_gives c front p lits line tree last (lemma_gives c p lits line tree last is.lemma.order is.lemma.equalities is.lemma.within (closes last)) in
      refutes_right c (combination_lines reasons p lits ss) (record {
        clauses = all ++ [] ∷ [];
        gives = reasons_give c limits reasons front [] (all ++ [] ∷ []) (Lemma (Some p) lits ∷ tree) (forced_given c is.forces)
            (gives_next (Lemma (Some p) lits) (record { clause = lits; rest = last }) given (ends_gives c limits all n (omega arith) contradict));
        empty = ends_with_empty all;
      })

  short_summands : (rest : List Summand) → length lits ≤ 8192 → AllByRecursion (IsSummand p (first_lines c.nodes p lits) is.combination.monomials) rest → AllByRecursion IsNumbered rest → AllByRecursion IsShort (map multiple_of rest)
  short_summands [] few each numbered = tt
  short_summands (s ∷ rest) few each numbered =
      let e = each.0 in
      let size = length-first_lines p c.nodes (length c.nodes) lits in
      let wide : p < 2 ^ 64 = order_below p (order_good p is.lemma.order) in
      let there : s.0 < length (first_lines c.nodes p lits) = e.there in
      let residue : s.1.0 < p = e.residue in
      (multiple_in_range s (omega arith) (omega arith) e.monomial e.powers e.low (recursion_from_All (λ f. IsNarrow f.0) s.1.1 numbered.0), short_summands rest few each.1 numbered.1)

  pub refuted_readable : length reasons ≤ 1048577 → length lits ≤ 8192 → length ss ≤ 8192 → AllByRecursion (λ r. IsLine (line_of r)) reasons → AllByRecursion (λ l. IsNarrow l.1) lits → AllByRecursion IsNumbered ss → AreReadable (combination_lines reasons p lits ss)
  refuted_readable few few_lits few_terms lines literals numbered =
      combination_readable reasons p lits ss few few_lits few_terms (order_below p (order_good p is.lemma.order)) lines literals
      (short_summands ss few_lits (recursion_from_All (IsSummand p (first_lines c.nodes p lits) is.combination.monomials) ss is.combination.each) numbered)
