-- What it means that an entry breaks no rule. Nothing is assumed of the entry.
use Rattle.std.specs.Prelude.{◌≡◌, ℕ, ◌<◌, ◌≤◌, ◌+◌, Bool, true, false, List, ◌↔◌, Some, None, Ok, Contains, IsSome, All, length, map, slice_get}
use Rattle.ffc_cert.specs.declared.entries.CertLine.{CertLine}
use Rattle.ffc_cert.specs.declared.entries.Entry.{Entry}
use Rattle.ffc_cert.specs.declared.entries.Entry.TheVariants.{Sat, UnsatCases, UnsatSteps, Unknown}
use Rattle.ffc_cert.specs.declared.entries.Numbered.{Numbered}
use Rattle.ffc_cert.specs.Laws.{line_count}
use Rattle.ffc_cert.specs.Reading.{reading_of}
use Rattle.ffc_term.specs.declared.node.Node.{Node}
use Rattle.ffc_term.specs.declared.value.Value.{Value}
use Rattle.ffc_term.specs.declared.value.Value.TheVariants as value
use Rattle.ffc_term.specs.Nodes.{node_at}
use Rattle.ffc_term.specs.Tables.{IsTable}
use Rattle.ffc_term.specs.Values.{value_at}
use Rattle.ffc_term.specs.Checks.{AreNodesOf, AreConstantsOf, IsValidCheck}
use Rattle.ffc_term.specs.Measuring.{value_count}
use Rattle.ffc_smt.specs.Scripts.{IsAssignment, Holds, IsUnsatisfiable, reads}
use Rattle.ffc_smt.specs.TableChecks.{TableCheck, declared_nodes, nodes_in_force, table_checks}
use Rattle.ffc_smt.specs.CheckLaws.{CannotHoldAt}
use Rattle.ffc_clause.specs.Clauses.{Clause}
use Rattle.ffc_rules.specs.Clauses.{IsTrueClause, AreTrue}
use Rattle.ffc_rules.specs.Schemes.{scheme_clause, all_schemes}
use Rattle.ffc_rules.specs.Cones.{cone, cone_constants, span, work}
use Rattle.ffc_rules.specs.Assignments.{value_of_constant, value_of_number, has_model_below}
use Rattle.ffc_rules.specs.Entries.{NodeCheck, Limits, Broken, Given, clause_given, entry_fault_within}
use Rattle.ffc_rules.specs.Refutations.{Refutes}
use Rattle.ffc_rules.specs.Judging.{node_check, Accepts, checks_in}
use Rattle.ffc_rules.specs.Cores.{AreClosedUnderHints, clause_lines, core, reached_clauses}

-- Clauses

-- the clause of each scheme is true under every assignment
abbrev pub SchemesAreTrue : Type 0
SchemesAreTrue = (nodes : List Node) (assignment : List Value) (v scheme index : ℕ) (clause : Clause) → IsTable nodes
    → scheme_clause nodes v scheme index ≡ Some clause → IsTrueClause nodes assignment clause

-- the listed schemes and indices of a node are those that have a clause
abbrev pub SchemesAreListed : Type 0
SchemesAreListed = (nodes : List Node) (v scheme index : ℕ)
    → Contains (all_schemes nodes v) (scheme, index) ↔ IsSome (scheme_clause nodes v scheme index)

-- Under an assignment that makes all that is active true, the clause of a line that breaks no rule is true where the clauses
-- before it are.
abbrev pub ClausesAreSound : Type 0
ClausesAreSound = (l : Limits) (c : NodeCheck) (clauses : List Clause) (line : ℕ) (x : CertLine) (rest : List CertLine) (given : Given) (assignment : List Value)
    → IsTable c.nodes → AreTrue c.nodes c.in_force assignment → All (IsTrueClause c.nodes assignment) clauses
    → clause_given l c clauses line x rest ≡ Ok given → IsTrueClause c.nodes assignment given.clause

-- Cases

-- the cone has the nodes of the check, and its constants are those of the check
abbrev pub ConesAreNodes : Type 0
ConesAreNodes = (nodes : List Node) (ids : List ℕ) → IsTable nodes → All (λ id. id < length nodes) ids
    → AreNodesOf nodes ids (cone nodes ids) × AreConstantsOf nodes ids (cone_constants nodes ids)

-- no assignment makes the listed nodes true
abbrev pub HasNoModel : List Node → List ℕ → Type 0
HasNoModel nodes ids = (assignment : List Value) → AreTrue nodes ids assignment → ⊥

-- none of the assignments that are numbered below the span makes all true exactly where no assignment does
abbrev pub CasesAreAll : Type 0
CasesAreAll = (nodes : List Node) (ids : List ℕ) → IsTable nodes → All (λ id. id < length nodes) ids
    → (has_model_below nodes ids (span nodes ids) ≡ false) ↔ HasNoModel nodes ids

-- Entries

-- each constant is given one of its values, in this order
pub record AreValues (nodes : List Node) (declared : List ℕ) (pairs : List (ℕ × ℕ)) : Type 0 where
  pub names : map (λ p. p.0) pairs ≡ declared
  pub fit : All (λ p. p.1 < value_count (node_at nodes p.0)) pairs

-- the assignment gives each constant the value that is listed for it
abbrev pub Agrees : List Node → List (ℕ × ℕ) → List Value → Type 0
Agrees nodes pairs assignment = All (λ p. value_of_constant nodes assignment p.0 ≡ value_of_number (node_at nodes p.0) p.1) pairs

-- some assignment has the listed values and makes all that is active true
pub record HasModel (c : NodeCheck) (pairs : List (ℕ × ℕ)) : Type 0 where
  pub assignment : List Value
  pub agrees : Agrees c.nodes pairs assignment
  pub all : AreTrue c.nodes c.in_force assignment

-- what an entry says of a check: listed values, which some assignment has, make all that is active true, or no assignment does
abbrev pub IsTrueOf : NodeCheck → Entry → Type 0
IsTrueOf c (Sat pairs) =
    AreValues c.nodes c.declared pairs
    × ((assignment : List Value) → Agrees c.nodes pairs assignment → AreTrue c.nodes c.in_force assignment)
    × HasModel c pairs
IsTrueOf c UnsatCases = HasNoModel c.nodes c.in_force
IsTrueOf c (UnsatSteps lines) = HasNoModel c.nodes c.in_force
IsTrueOf c (Unknown cause) = Unit {0}

abbrev pub IsValid : NodeCheck → Type 0
IsValid c = IsValidCheck c.nodes c.declared c.in_force c.first_order

-- an entry that breaks no rule is true of its check
abbrev pub EntriesAreTrue : Type 0
EntriesAreTrue = (l : Limits) (c : NodeCheck) (entry : Entry) (line : ℕ) → IsValid c → entry_fault_within l c entry line ≡ None → IsTrueOf c entry

-- Listed values break no rule where some assignment that agrees with them makes all that is active true.
abbrev pub ValuesAreKept : Type 0
ValuesAreKept = (l : Limits) (c : NodeCheck) (pairs : List (ℕ × ℕ)) (line : ℕ) (assignment : List Value) → IsValid c
    → AreValues c.nodes c.declared pairs → Agrees c.nodes pairs assignment → AreTrue c.nodes c.in_force assignment → entry_fault_within l c (Sat pairs) line ≡ None

-- An entry by cases breaks no rule where the work is within the limit and no assignment makes all that is active true.
abbrev pub CasesAreKept : Type 0
CasesAreKept = (l : Limits) (c : NodeCheck) (line : ℕ) → IsValid c → work c.nodes c.in_force ≤ l.work → HasNoModel c.nodes c.in_force
    → entry_fault_within l c UnsatCases line ≡ None

-- A list of lines breaks no rule exactly where its lines give clauses in turn that end with the empty one.
abbrev pub RefutationsAreKept : Type 0
RefutationsAreKept = (l : Limits) (c : NodeCheck) (lines : List CertLine) (line : ℕ)
    → (entry_fault_within l c (UnsatSteps lines) line ≡ None) ↔ Refutes l c lines

-- A broken line is one of the entry's, or the one after it where the entry ends within a tree.
abbrev pub BrokenLinesAreNear : Type 0
BrokenLinesAreNear = (l : Limits) (c : NodeCheck) (entry : Entry) (line : ℕ) (broken : Broken)
    → entry_fault_within l c entry line ≡ Some broken → (line ≤ broken.line) × (broken.line ≤ line + line_count entry)

-- Cores

-- an entry that says that a check has no model
abbrev pub IsUnsat : Entry → Type 0
IsUnsat (Sat pairs) = ⊥
IsUnsat UnsatCases = Unit {0}
IsUnsat (UnsatSteps lines) = Unit {0}
IsUnsat (Unknown cause) = ⊥

-- the active nodes at these numbers are true
abbrev pub AreTrueAt : NodeCheck → List ℕ → List Value → Type 0
AreTrueAt c numbers assignment = All (λ k. (id : ℕ) → slice_get c.in_force k ≡ Some id → value_at c.nodes assignment id ≡ value.Bool true) numbers

-- the least of the lists that have the last clause and, with each clause, its hints
pub record AreLeastReached (clauses : List CertLine) (numbers : List ℕ) : Type 0 where
  pub closed : AreClosedUnderHints clauses numbers
  pub least : (others : List ℕ) → AreClosedUnderHints clauses others → (k : ℕ) → Contains numbers k → Contains others k

-- Where no line breaks a rule, the clauses whose numbers the core takes are the least list that the last clause, which is
-- empty, reaches.
abbrev pub ReachedAreLeast : Type 0
ReachedAreLeast = (l : Limits) (c : NodeCheck) (lines : List CertLine) (line : ℕ)
    → entry_fault_within l c (UnsatSteps lines) line ≡ None → AreLeastReached (clause_lines lines) (reached_clauses 0 (clause_lines lines))

-- no assignment makes all true that is in the core of an entry that breaks no rule
abbrev pub CoresAreSound : Type 0
CoresAreSound = (l : Limits) (c : NodeCheck) (entry : Entry) (line : ℕ) (assignment : List Value) → IsValid c → IsUnsat entry
    → entry_fault_within l c entry line ≡ None → AreTrueAt c (core entry (length c.in_force)) assignment → ⊥

-- Scripts

-- some assignment gives each constant a value of its sort, has the listed values and makes all active terms true
pub record HasModelOfCheck (c : TableCheck) (pairs : List (ℕ × ℕ)) : Type 0 where
  pub assignment : List Value
  pub agrees : Agrees c.nodes pairs assignment
  pub holds : Holds c.check assignment

-- what an entry says of a check of a script: every assignment with the listed values makes all active terms true, and there is
-- one, or no assignment makes the terms of the core true, so none makes all true
abbrev pub IsTrueOfCheck : TableCheck → Entry → Type 0
IsTrueOfCheck c (Sat pairs) =
    AreValues c.nodes (declared_nodes c) pairs
    × ((assignment : List Value) → IsAssignment c.check.constants assignment → Agrees c.nodes pairs assignment → Holds c.check assignment)
    × HasModelOfCheck c pairs
IsTrueOfCheck c UnsatCases = IsUnsatisfiable c.check × CannotHoldAt c (core UnsatCases (length (nodes_in_force c)))
IsTrueOfCheck c (UnsatSteps lines) = IsUnsatisfiable c.check × CannotHoldAt c (core (UnsatSteps lines) (length (nodes_in_force c)))
IsTrueOfCheck c (Unknown cause) = Unit {0}

-- of any check of a script
abbrev pub EntriesAreTrueOfChecks : Type 0
EntriesAreTrueOfChecks = (l : Limits) (script : List ℕ) (k : ℕ) (c : TableCheck) (entry : Entry) (line : ℕ) → slice_get (table_checks (reads script).steps) k ≡ Some c
    → entry_fault_within l (node_check c) entry line ≡ None → IsTrueOfCheck c entry

-- the entry of the check at this place of a certificate
pub record HasEntry (bits : Bool) (script certificate : List ℕ) (k : ℕ) (c : TableCheck) : Type 0 where
  pub entry : Numbered
  pub at : slice_get (reading_of bits (length (checks_in script)) certificate).entries k ≡ Some entry
  pub true_of : IsTrueOfCheck c entry.entry

-- where a certificate is accepted for a script, each check of the script has an entry, which is true of it
abbrev pub AcceptanceIsSound : Type 0
AcceptanceIsSound = (bits : Bool) (script certificate : List ℕ) → Accepts bits script certificate
    → (k : ℕ) (c : TableCheck) → slice_get (table_checks (reads script).steps) k ≡ Some c → HasEntry bits script certificate k c
