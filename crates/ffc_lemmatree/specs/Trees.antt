-- Refutations by a lemma and its case tree (Ozdemir, Kremer, Tinelli and Barrett, "Satisfiability Modulo Finite Fields", 2023).
use Rattle.std.specs.Prelude.{ℕ, ◌≤◌, List, [], ◌++◌, All, length}
use Rattle.std.specs.List.{flat_map}
use Rattle.ffc_cert.specs.declared.entries.CertLine.{CertLine}
use Rattle.ffc_cert.specs.Ranges.{IsLine}
use Rattle.ffc_cert.specs.Spelling.{line_text}
use Rattle.ffc_cert.specs.WellFormed.{LineFitsVersion}
use Rattle.ffc_clause.specs.Clauses.{Literal}
use Rattle.ffc_trees.specs.TreeLines.{limits}
use Rattle.ffc_trees.specs.Closing.{Closes}
use Rattle.ffc_trees.specs.FirstLines.{first_lines}
use Rattle.ffc_rules.specs.Entries.{NodeCheck}
use Rattle.ffc_refutation.specs.declared.reason.Reason.{Reason}
use Rattle.ffc_refutation.specs.Forcing.{Forces}
use Rattle.ffc_refutation.specs.Combinations.{IsFalseLemma}

-- Reasons force literals under which a lemma is false whose tree closes. The tree is written with numbers in range, without lines of
-- bits, and in so few bytes that all lines fit an entry.
pub record IsRefutedByTree (c : NodeCheck) (reasons : List Reason) (p : ℕ) (lits : List Literal) (tree : List CertLine) : Type 0 where
  pub forced : List Literal
  pub forces : Forces c [] reasons forced
  pub lemma : IsFalseLemma c p forced lits
  pub closes : (rest : List CertLine) → Closes limits p (first_lines c.nodes p lits) (tree ++ rest) rest
  pub ranges : All IsLine tree
  pub plain : All (LineFitsVersion 2) tree
  pub short : length (flat_map line_text tree) ≤ 31000000
