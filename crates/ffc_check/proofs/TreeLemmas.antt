-- Lemmas with their trees.
use Rattle.std.proofs.Common.{◌≡◌, ℕ, ◌+◌, ◌≤◌, true, List, [], ◌∷◌, length, drop, All, Some, Result, Ok, Err, get_or, refl, ap, ◌∙◌, arith}
use Rattle.std.specs.List.{list_all}
use Rattle.std.proofs.lemmas.List.Sums.{AllPass-from_list_all}
use Rattle.ffc_cert.specs.declared.entries.CertLine.{CertLine}
use Rattle.ffc_cert.specs.declared.entries.CertLine.TheVariants.{Lemma}
use Rattle.ffc_cert.specs.declared.entries.Entry.TheVariants.{UnsatSteps}
use Rattle.ffc_smt.specs.Numbers.{is_order}
use Rattle.ffc_term.specs.declared.node.Node.{Node}
use Rattle.ffc_term.specs.Tables.{IsTable}
use Rattle.ffc_trees.specs.Laws.{IsOnEquality}
use Rattle.ffc_trees.specs.TreeLines.{limits as tree_limits}
use Rattle.ffc_trees.specs.Trees.{Broken as BrokenInTree, tree_read}
use Rattle.ffc_trees.specs.FirstLines.{first_lines}
use Rattle.ffc_clause.specs.Clauses.{Literal}
use Rattle.ffc_rules.specs.Entries.{NodeCheck, Given, limits, breaks, is_equality_at, is_within, tree_given, lemma_given, entry_fault_within}
use Rattle.ffc_rules.proofs.GivenLemmas.{equality_at}
use Rattle.ffc_rules.proofs.BoundLemmas.{fault_near}
use Rattle.ffc_check.specs.Giving.{IsTakenWith}
use Rattle.ffc_check.proofs.GivenLemmas.{lemma_is, by_tree}
use Rattle.ffc_check.proofs.WalkLemmas.{after, step}

-- the tests say that the literals are on equalities of the order
pub on_equalities : (ns : List Node) (p : ℕ) (lits : List Literal) → IsTable ns → list_all (λ x. is_equality_at ns p x.1) lits ≡ true → All (IsOnEquality ns p) lits
on_equalities ns p lits table e k d inside = equality_at ns p (get_or lits k d) table (AllPass-from_list_all (λ x. is_equality_at ns p x.1) lits e k d inside)

-- the tree is at the front of the lines
pub tree_taken : (lits : List Literal) (line n : ℕ) (rest : List CertLine) (read : Result (List CertLine) BrokenInTree) → read ≡ Ok (drop n rest) → n ≤ length rest
    → (given : Given) × (tree_given lits line read ≡ Ok given) × IsTakenWith lits rest n given
tree_taken lits line n rest read e few = (record { clause = lits; rest = drop n rest }, ap (tree_given lits line) e, record { taken = record { left = refl; few = few }; clause_is = refl })

-- a line of a tree that is broken is one of the entry's, or the one after it
module _ (ns : List Node) (p : ℕ) (lits : List Literal) (rest : List CertLine) (order : is_order p ≡ true) (equal : list_all (λ x. is_equality_at ns p x.1) lits ≡ true) (small : list_all (λ x. is_within limits ns x.1) lits ≡ true) where
  check : NodeCheck
  check = record { nodes = ns; declared = []; in_force = []; first_order = p }

  pub offset_near : (offset rule : ℕ) → tree_read tree_limits p (first_lines ns p lits) rest ≡ Err (record { offset = offset; rule = rule }) → offset ≤ length rest
  unfolding entry_fault_within after check
  offset_near offset rule e =
      let given : lemma_given limits check p lits 1 rest ≡ Err (breaks rule (1 + 1 + offset)) = by_tree check p lits 1 rest order equal small ∙ ap (tree_given lits 1) e in
      let fault : entry_fault_within limits check (UnsatSteps (Lemma (Some p) lits ∷ rest)) 0 ≡ Some (breaks rule (1 + 1 + offset)) =
      step limits check [] 1 (Lemma (Some p) lits) rest (Err (breaks rule (1 + 1 + offset))) (lemma_is check [] 1 rest (Some p) lits ∙ given) in
      let near = fault_near limits check (UnsatSteps (Lemma (Some p) lits ∷ rest)) 0 (breaks rule (1 + 1 + offset)) fault in
      omega (arith, near.1)
