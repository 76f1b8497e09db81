-- The lines of a refutation by a tree break no rule.
use Rattle.std.proofs.Common.{◌≡◌, ℕ, suc, ◌+◌, ◌≤◌, true, List, [], ◌∷◌, ◌++◌, length, All, Some, Result, Ok, ap, ◌∙◌, arith}
use Rattle.std.specs.List.{AllByRecursion, range_with_len}
use Rattle.std.proofs.lemmas.Bool.{and_from, cond-true}
use Rattle.std.proofs.lemmas.List.{length_push}
use Rattle.std.proofs.lemmas.List.Elements.{recursion_from_All}
use Rattle.std.proofs.lemmas.List.Sums.{list_all-from_AllPass}
use Rattle.ffc_cert.specs.declared.entries.CertLine.{CertLine}
use Rattle.ffc_cert.specs.declared.entries.CertLine.TheVariants.{Lemma}
use Rattle.ffc_cert.specs.Ranges.{IsNarrow, IsLine}
use Rattle.ffc_smt.specs.Numbers.{is_order}
use Rattle.ffc_smt.proofs.SoundReading.{order_good}
use Rattle.ffc_clause.specs.Clauses.{Literal, Clause, negated, is_among}
use Rattle.ffc_clause.specs.Hints.{open_literals, is_contradiction}
use Rattle.ffc_trees.specs.FirstLines.{first_lines}
use Rattle.ffc_trees.specs.TreeLines.{limits as tree_limits}
use Rattle.ffc_trees.specs.Trees.{Broken as BrokenInTree}
use Rattle.ffc_trees.specs.Closing.{Closes}
use Rattle.ffc_trees.proofs.ReadLemmas.{closes-tree_read}
use Rattle.ffc_trees.proofs.RefuteLemmas.{order_below}
use Rattle.ffc_rules.specs.Entries.{NodeCheck, limits, is_equality_at, is_within, tree_given, lemma_given, clause_given}
use Rattle.ffc_rules.specs.Refutations.{Refutes}
use Rattle.ffc_rules.specs.Refutations.Gives.{next as gives_next}
use Rattle.ffc_rules.proofs.KeptLemmas.{refutations_kept}
use Rattle.ffc_refutation.specs.declared.reason.Reason.{Reason}
use Rattle.ffc_refutation.specs.Forcing.{line_of}
use Rattle.ffc_refutation.specs.Given.{AreReadable, AreRight}
use Rattle.ffc_refutation.specs.Written.{empty_by}
use Rattle.ffc_refutation.proofs.Forced.{clauses_of, forced_contradict, forced_given, length-given, none_open, ends_with_empty, reasons_give, ends_gives}
use Rattle.ffc_lemmatree.specs.Trees.{IsRefutedByTree}
use Rattle.ffc_lemmatree.specs.Written.{refutation_lines}
use Rattle.ffc_cert.specs.WellFormed.{LineFitsVersion}
use Rattle.ffc_lemmatree.proofs.Grammar.{tree_by_closing}
use Rattle.ffc_lemmatree.proofs.Readable.{tree_readable}
use Rattle.ffc_lemmatree.proofs.Schemes.{forcing_is_low}

refutes_right : (c : NodeCheck) (lines : List CertLine) → Refutes limits c lines → AreRight c lines
refutes_right c lines r line = (refutations_kept limits c lines line).1 r

-- a lemma whose tree closes gives its clause
lemma_gives : (c : NodeCheck) (p : ℕ) (lits : List Literal) (line : ℕ) (tree rest : List CertLine) → is_order p ≡ true → All (λ x. is_equality_at c.nodes p x.1 ≡ true) lits → All (λ x. is_within limits c.nodes x.1 ≡ true) lits
    → Closes tree_limits p (first_lines c.nodes p lits) tree rest → lemma_given limits c p lits line tree ≡ Ok (record { clause = lits; rest = rest })
unfolding lemma_given
lemma_gives c p lits line tree rest order equalities within closes =
    cond-true _ _ _ (and_from (is_order p) _ order (list_all-from_AllPass (λ x. is_equality_at c.nodes p x.1) lits equalities))
    ∙ cond-true _ _ _ (list_all-from_AllPass (λ x. is_within limits c.nodes x.1) lits within)
    ∙ ap (λ (r : Result (List CertLine) BrokenInTree). tree_given lits line r) (closes-tree_read tree_limits p (first_lines c.nodes p lits) tree rest closes)

lemma_line_gives : (c : NodeCheck) (clauses : List Clause) (p : ℕ) (lits : List Literal) (line : ℕ) (tree rest : List CertLine) → lemma_given limits c p lits line tree ≡ Ok (record { clause = lits; rest = rest }) → clause_given limits c clauses line (Lemma (Some p) lits) tree ≡ Ok (record { clause = lits; rest = rest })
unfolding clause_given
lemma_line_gives c clauses p lits line tree rest is = is

module _ (c : NodeCheck) (reasons : List Reason) (p : ℕ) (lits : List Literal) (tree : List CertLine) (is : IsRefutedByTree c reasons p lits tree) where
  pub tree_right : AreRight c (refutation_lines reasons p lits tree)
  tree_right =
      let n : ℕ = length reasons + 1 in
      let front : List Clause = clauses_of c is.forces in
      let all : List Clause = front ++ lits ∷ [] in
      let last : List CertLine = empty_by n ∷ [] in
      let long : length front ≡ length reasons = length-given c reasons front (forced_given c is.forces) in
      let count : n ≡ suc (length reasons) = omega arith in
      let more : length all ≡ length front + 1 = length_push front lits in
      let none : open_literals is.forced lits ≡ [] = none_open is.forced lits (recursion_from_All (λ x. is_among is.forced (negated x) ≡ true) lits is.lemma.false_of) in
      let contradict : is_contradiction all [] (range_with_len 0 n) ≡ true = rw count (forced_contradict c is.forces [] lits none) in
      let given : (line : ℕ) → clause_given limits c front line (Lemma (Some p) lits) (tree ++ last) ≡ Ok (record { clause = lits; rest = last }) =
      λ line. lemma_line_gives c front p lits line (tree ++ last) last (lemma_gives c p lits line (tree ++ last) last is.lemma.order is.lemma.equalities is.lemma.within (is.closes last)) in
      refutes_right c (refutation_lines reasons p lits tree) (record {
        clauses = all ++ [] ∷ [];
        gives = reasons_give c limits reasons front [] (all ++ [] ∷ []) (Lemma (Some p) lits ∷ (tree ++ last)) (forced_given c is.forces)
            (gives_next (Lemma (Some p) lits) (record { clause = lits; rest = last }) given (ends_gives c limits all n (omega arith) contradict));
        empty = ends_with_empty all;
      })

  pub refuted_readable : length reasons ≤ 1048577 → length lits ≤ 8192 → AllByRecursion (λ r. IsLine (line_of r)) reasons → AllByRecursion (λ l. IsNarrow l.1) lits → AreReadable (refutation_lines reasons p lits tree)
  refuted_readable few few_lits lines literals =
      tree_readable reasons p lits tree few few_lits (order_below p (order_good p is.lemma.order)) lines (forcing_is_low c is.forces) literals
      (λ rest. tree_by_closing tree_limits p (first_lines c.nodes p lits) (tree ++ rest) rest (is.closes rest))
      (recursion_from_All IsLine tree is.ranges)
      (recursion_from_All (LineFitsVersion 2) tree is.plain)
      is.short
