-- Which line of an entry breaks a rule first, and which rule. The rules are local: each looks at one line and at what the lines
-- before it gave.
--
-- In one line rule 12 comes first, then 11, then the line's own, and rule 9 last. The numbers of rules are: 1 values, 2 assume,
-- 3 scheme, 4 hints, 5 combination, 6 chain, 7 split, 8 not closed, 9 not empty, 10 cases, 11 limit, 12 reference, 13 bits.
use Rattle.std.specs.Prelude.{◌≡◌, ℕ, zero, suc, ◌+◌, ◌-◌, Bool, true, false, ◌==◌, ◌&&◌, nat_lt, List, [], ◌∷◌, ◌++◌, length, Option, Some, None, Result, Ok, Err, slice_get, if◌then◌else◌}
use Rattle.std.specs.List.{list_all}
use Rattle.ffc_cert.specs.declared.entries.Entry.{Entry}
use Rattle.ffc_cert.specs.declared.entries.Entry.TheVariants.{Sat, UnsatCases, UnsatSteps, Unknown}
use Rattle.ffc_cert.specs.declared.entries.CertLine.{CertLine}
use Rattle.ffc_cert.specs.declared.entries.CertLine.TheVariants.{Assume, Scheme, Hinted, Lemma, Combine, Bits, Chain, Step, Split, Values, Close}
use Rattle.ffc_term.specs.declared.node.Node.{Node}
use Rattle.ffc_term.specs.declared.node.Node.TheVariants.{Eq}
use Rattle.ffc_term.specs.declared.node.Sort.{Sort}
use Rattle.ffc_term.specs.declared.node.Sort.TheVariants as sort
use Rattle.ffc_term.specs.Nodes.{node_at, sort_at, order_at}
use Rattle.ffc_term.specs.Measuring.{value_count, degree_at, length_at}
use Rattle.ffc_smt.specs.Numbers.{is_order}
use Rattle.ffc_trees.specs.TreeLines.{Limits as TreeLimits, limits as tree_limits}
use Rattle.ffc_trees.specs.Trees.{Broken as BrokenInTree, tree_read}
use Rattle.ffc_trees.specs.FirstLines.{first_lines}
use Rattle.ffc_clause.specs.Clauses.{Literal, Clause, plus}
use Rattle.ffc_rules.specs.Schemes.{scheme_clause}
use Rattle.ffc_clause.specs.Hints.{follows}
use Rattle.ffc_rules.specs.Cones.{span, work}
use Rattle.ffc_rules.specs.Assignments.{listed_assignment, are_true, has_model_below}

-- what an entry is judged by: all nodes so far, the constants in scope in order of declaration, the assertions and
-- active assumptions, and the order that the script named first
pub record NodeCheck : Type 0 where
  pub nodes : List Node
  pub declared : List ℕ
  pub in_force : List ℕ
  pub first_order : ℕ

-- what rule 11 limits: the work of a check by cases, degree and length of an equality in a lemma, and the lines of trees
pub record Limits : Type 0 where
  pub work : ℕ
  pub degree : ℕ
  pub length : ℕ
  pub trees : TreeLimits

abbrev pub limits : Limits
limits = record { work = 16777216; degree = 255; length = 65536; trees = tree_limits }

-- a line of the certificate, from 1, and the rule that it breaks
pub record Broken : Type 0 where
  pub line : ℕ
  pub rule : ℕ

abbrev pub breaks : ℕ → ℕ → Broken
breaks rule line = record { line = line; rule = rule }

-- Values

-- the first line, from one on, that does not name the next constant and one of its values
abbrev pub first_misfit : List Node → List ℕ → List (ℕ × ℕ) → ℕ → Option ℕ
first_misfit nodes [] pairs line = None
first_misfit nodes (id ∷ ids) [] line = None
first_misfit nodes (id ∷ ids) (p ∷ pairs) line =
    if p.0 == id && nat_lt p.1 (value_count (node_at nodes id)) then first_misfit nodes ids pairs (line + 1) else Some line

-- each constant has one of its values, and with these all that is active is true
unfoldable pub sat_fault : NodeCheck → List (ℕ × ℕ) → ℕ → Option Broken
sat_fault c pairs line =
    if length pairs == length c.declared then (
    elim (first_misfit c.nodes c.declared pairs (line + 1)) [
      | Some misfit ↦ Some (breaks 1 misfit)
      | None ↦ if are_true c.nodes c.in_force (listed_assignment c.nodes pairs) then None else Some (breaks 1 line)
    ]) else Some (breaks 1 line)

-- Cases

-- no assignment of the check's constants makes all that is active true
unfoldable pub cases_fault : Limits → NodeCheck → ℕ → Option Broken
cases_fault l c line =
    if nat_lt l.work (work c.nodes c.in_force) then Some (breaks 11 line) else
    if has_model_below c.nodes c.in_force (span c.nodes c.in_force) then Some (breaks 10 line) else None

-- Clauses

abbrev pub is_bool : Sort → Bool
is_bool sort.Bool = true
is_bool (sort.Field p) = false

-- id numbers a Boolean node
abbrev pub is_boolean : List Node → ℕ → Bool
is_boolean nodes id = nat_lt id (length nodes) && is_bool (sort_at nodes id)

abbrev pub is_equality_over : List Node → ℕ → Node → Bool
is_equality_over nodes p (Eq a b) = order_at nodes a == p
is_equality_over nodes p _ = false

-- id numbers an equality of order p
abbrev pub is_equality_at : List Node → ℕ → ℕ → Bool
is_equality_at nodes p id = is_equality_over nodes p (node_at nodes id)

-- degree and length of an equality are within the limits
abbrev pub is_within : Limits → List Node → ℕ → Bool
is_within l nodes id = if nat_lt l.degree (degree_at nodes id) then false else if nat_lt l.length (length_at nodes id) then false else true

-- the order of a lemma: the one that it names, or in version 1 the script's first
abbrev pub order_or : ℕ → Option ℕ → ℕ
order_or first None = first
order_or first (Some p) = p

-- a clause, and the lines that follow it with its tree
pub record Given : Type 0 where
  pub clause : Clause
  pub rest : List CertLine

-- the tree of a lemma, which begins at the line after it
abbrev pub tree_given : Clause → ℕ → Result (List CertLine) BrokenInTree → Result Given Broken
tree_given clause line (Ok rest) = Ok (record { clause = clause; rest = rest })
tree_given clause line (Err broken) = Err (breaks broken.rule (line + 1 + broken.offset))

-- a lemma over the order p
unfoldable pub lemma_given : Limits → NodeCheck → ℕ → List Literal → ℕ → List CertLine → Result Given Broken
lemma_given l c p lits line rest =
    if is_order p && list_all (λ x. is_equality_at c.nodes p x.1) lits then (
    if list_all (λ x. is_within l c.nodes x.1) lits
    then tree_given lits line (tree_read l.trees p (first_lines c.nodes p lits) rest)
    else Err (breaks 11 line)) else Err (breaks 12 line)

-- the clause of a line, after other clauses; no line of a tree takes a clause's place
unfoldable pub clause_given : Limits → NodeCheck → List Clause → ℕ → CertLine → List CertLine → Result Given Broken
clause_given l c clauses line (Assume k) rest =
    elim (slice_get c.in_force k) [
      | None ↦ Err (breaks 2 line)
      | Some id ↦ Ok (record { clause = plus id ∷ []; rest = rest })
    ]
clause_given l c clauses line (Scheme node scheme index) rest =
    if nat_lt node (length c.nodes) then (
    elim (scheme_clause c.nodes node scheme index) [
      | None ↦ Err (breaks 3 line)
      | Some clause ↦ Ok (record { clause = clause; rest = rest })
    ]) else Err (breaks 12 line)
clause_given l c clauses line (Hinted lits hints) rest =
    if list_all (λ x. is_boolean c.nodes x.1) lits && list_all (λ h. nat_lt h (length clauses)) hints then (
    if follows clauses lits hints then Ok (record { clause = lits; rest = rest }) else Err (breaks 4 line)
    ) else Err (breaks 12 line)
clause_given l c clauses line (Lemma order lits) rest = lemma_given l c (order_or c.first_order order) lits line rest
clause_given l c clauses line (Combine multiples) rest = Err (breaks 12 line)
clause_given l c clauses line (Bits known chosen polynomial bits) rest = Err (breaks 12 line)
clause_given l c clauses line (Chain known variable steps) rest = Err (breaks 12 line)
clause_given l c clauses line (Step quotient remainder) rest = Err (breaks 12 line)
clause_given l c clauses line (Split known variable zeros) rest = Err (breaks 12 line)
clause_given l c clauses line (Values variable trees) rest = Err (breaks 12 line)
clause_given l c clauses line Close rest = Err (breaks 12 line)

-- the last of some clauses is the empty one
abbrev pub ends_empty : List Clause → Bool
ends_empty [] = false
ends_empty ([] ∷ []) = true
ends_empty ((x ∷ xs) ∷ []) = false
ends_empty (clause ∷ d ∷ clauses) = ends_empty (d ∷ clauses)

-- The lines from one on, after other clauses, where so many of them belong to the tree of the last clause.
unfoldable pub lines_fault : Limits → NodeCheck → List Clause → ℕ → ℕ → List CertLine → Option Broken
lines_fault l c clauses line tree [] = if ends_empty clauses then None else Some (breaks 9 (line - 1))
lines_fault l c clauses line (suc tree) (x ∷ rest) = lines_fault l c clauses (line + 1) tree rest
lines_fault l c clauses line zero (x ∷ rest) =
    elim (clause_given l c clauses line x rest) [
      | Err broken ↦ Some broken
      | Ok given ↦ lines_fault l c (clauses ++ given.clause ∷ []) (line + 1) (length rest - length given.rest) rest
    ]

-- The first line that breaks a rule, and the rule, if there is one, where the entry begins at this line of the certificate.
unfoldable pub entry_fault_within : Limits → NodeCheck → Entry → ℕ → Option Broken
entry_fault_within l c (Sat pairs) line = sat_fault c pairs line
entry_fault_within l c UnsatCases line = cases_fault l c line
entry_fault_within l c (UnsatSteps lines) line = lines_fault l c [] (line + 1) 0 lines
entry_fault_within l c (Unknown cause) line = None

abbrev pub entry_fault : NodeCheck → Entry → ℕ → Option Broken
entry_fault c entry line = entry_fault_within limits c entry line

-- no line of the entry breaks a rule
abbrev pub EntryOk : NodeCheck → Entry → Type 0
EntryOk c entry = (line : ℕ) → entry_fault c entry line ≡ None
