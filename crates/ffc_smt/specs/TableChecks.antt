-- A check of a script together with the table of nodes at it: what a solver answers, and what an entry of a certificate is
-- judged by.
use Rattle.std.specs.Prelude.{ℕ, List, [], ◌∷◌, ◌++◌, map, Option, Some, None}
use Rattle.ffc_term.specs.declared.node.Node.{Node}
use Rattle.ffc_smt.specs.Terms.{Name, Term, Constant}
use Rattle.ffc_smt.specs.Making.{made}
use Rattle.ffc_smt.specs.Scopes.{Declared, declared_of}
use Rattle.ffc_smt.specs.Scripts.{Check, Step, in_force, after, check_of}

pub record TableCheck : Type 0 where
  -- what it sees: assertions, assumptions as written, and the first order
  pub check : Check
  -- all nodes so far, those of its own assumptions among them
  pub nodes : List Node
  -- the constants in scope, in order of their declaration
  pub declared : List Declared

-- the number of the node of a term that was made
abbrev pub node_of : List Node → Term → ℕ
node_of nodes t = (made [] nodes t).id

-- the nodes of the constants in scope
abbrev pub declared_nodes : TableCheck → List ℕ
declared_nodes c = map (λ d. node_of c.nodes (Constant d.number d.sort)) c.declared

-- the nodes of the active terms
abbrev pub nodes_in_force : TableCheck → List ℕ
nodes_in_force c = map (node_of c.nodes) (in_force c.check)

-- the names of the active terms: an assertion may have one, an assumption has none
abbrev pub names_in_force : TableCheck → List (Option Name)
names_in_force c = map (λ a. a.label) c.check.assertions ++ map (λ _. None) c.check.assumptions

-- the check that a command makes, after the nodes of its assumptions were made
abbrev pub table_check_of : Step → Option TableCheck
table_check_of x = elim (check_of x) [
  | None ↦ None
  | Some c ↦ Some (record { check = c; nodes = (after x.before x.tree x.command).nodes; declared = declared_of x.before })
]

-- all checks of a script
abbrev pub table_checks : List Step → List TableCheck
table_checks [] = []
table_checks (x ∷ xs) = elim (table_check_of x) [ None ↦ table_checks xs | Some c ↦ c ∷ table_checks xs ]
