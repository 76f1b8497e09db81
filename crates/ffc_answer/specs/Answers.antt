-- What a script is answered, with the entries of its checks: SMT-LIB 2.6, section 3.9.1 (responses) and 4.2. Every answer ends
-- with a line feed.
--
-- Models, values, cores and reasons are those of the last check.
use Rattle.std.specs.Prelude.{ℕ, ◌+◌, nat_le, Bool, true, false, if◌then◌else◌, List, [], ◌∷◌, ◌++◌, length, map, codes, decimal, Option, Some, None}
use Rattle.std.specs.List.{flat_map}
use Rattle.std.specs.Option.{option_map}
use Rattle.ffc_lex.specs.Names.{written_symbol}
use Rattle.ffc_cert.specs.declared.entries.Entry.{Entry}
use Rattle.ffc_cert.specs.declared.entries.Entry.TheVariants.{Sat, UnsatCases, UnsatSteps, Unknown}
use Rattle.ffc_cert.specs.declared.entries.Cause.{Cause}
use Rattle.ffc_cert.specs.declared.entries.Cause.TheVariants.{Degree, Terms, Steps, Memory}
use Rattle.ffc_term.specs.declared.node.Sort.{Sort}
use Rattle.ffc_term.specs.declared.node.Sort.TheVariants as sort
use Rattle.ffc_term.specs.declared.value.Value.{Value}
use Rattle.ffc_smt.specs.Terms.{Asked, Info, SolverName, Version, AssertionStackLevels, ReasonUnknown, Constant, Command, GetOption, GetInfo, Unsupported, Echo, CheckSat, CheckSatAssuming, GetModel, GetValue, GetUnsatCore, GetUnsatAssumptions, Exit}
use Rattle.ffc_smt.specs.Meaning.{Element, TruthValue, FieldValue, val}
use Rattle.ffc_smt.specs.Scopes.{State, Declared, declared_of, level_of, option_of}
use Rattle.ffc_smt.specs.Scripts.{Step, Script, End, Done, AtFault, after}
use Rattle.ffc_smt.specs.TableChecks.{TableCheck, nodes_in_force, names_in_force, table_check_of, table_checks}
use Rattle.ffc_smt.specs.Answering.{Effect, Keeps, EndsModel, Forgets, effect_of, asked_text}
use Rattle.ffc_rules.specs.Assignments.{listed_assignment}
use Rattle.ffc_rules.specs.Cores.{core, names_at}
use Rattle.ffc_elab.specs.Answers.{truth_text}

-- Texts

-- ended by a line feed
abbrev pub line : List ℕ → List ℕ
line text = text ++ 10 ∷ []

-- one after another, a space between two of them
abbrev pub spaced : List (List ℕ) → List ℕ
spaced [] = []
spaced (text ∷ texts) = text ++ flat_map (λ t. 32 ∷ t) texts

-- a line with a list
abbrev pub listed : List (List ℕ) → List ℕ
listed texts = line (codes "(" ++ spaced texts ++ codes ")")

abbrev pub error_answer : List ℕ → List ℕ
error_answer message = line (codes "(error \"" ++ message ++ codes "\")")

abbrev pub sort_text : Sort → List ℕ
sort_text sort.Bool = codes "Bool"
sort_text (sort.Field p) = codes "(_ FiniteField " ++ decimal p ++ codes ")"

-- a residue is written as a constant of its field
abbrev pub value_text : Element → List ℕ
value_text (TruthValue b) = truth_text b
value_text (FieldValue p n) = codes "(as ff" ++ decimal n ++ codes " " ++ sort_text (sort.Field p) ++ codes ")"

-- What is remembered of the last check

pub record Last : Type 0 where
  pub entry : Entry
  pub check : TableCheck
  -- the assumptions of a `check-sat-assuming`; a `check-sat` has none of them
  pub asked : Option (List Asked)
  -- no command since has ended its model
  pub fresh : Bool

abbrev pub assumptions_in : Command → Option (List Asked)
assumptions_in (CheckSatAssuming asked) = Some asked
assumptions_in _ = None

-- after a check
abbrev pub checked : Command → TableCheck → Entry → Last
checked command check entry = record { entry = entry; check = check; asked = assumptions_in command; fresh = true }

abbrev pub no_more_fresh : Last → Last
no_more_fresh l = record l { fresh = false }

abbrev pub after_effect : Effect → Option Last → Option Last
after_effect Keeps l = l
after_effect EndsModel l = option_map no_more_fresh l
after_effect Forgets l = None

-- after a command that is no check
abbrev pub last_after : Option Last → Command → Option Last
last_after l command = after_effect (effect_of command) l

-- Models

-- the assignment that an entry lists; all constants that it does not list are 0 or false
abbrev pub assignment_listed : TableCheck → Entry → Option (List Value)
assignment_listed check (Sat pairs) = Some (listed_assignment check.nodes pairs)
assignment_listed check UnsatCases = None
assignment_listed check (UnsatSteps lines) = None
assignment_listed check (Unknown cause) = None

-- the model, where there is one
abbrev pub model_of : Option Last → Option (List Value)
model_of None = None
model_of (Some l) = if l.fresh then assignment_listed l.check l.entry else None

abbrev pub no_model : List ℕ
no_model = error_answer (codes "no model")

abbrev pub definition_line : List Value → Declared → List ℕ
definition_line assignment d =
    line (codes "(define-fun " ++ written_symbol d.name ++ codes " () " ++ sort_text d.sort ++ codes " " ++ value_text (val [] assignment (Constant d.number d.sort)) ++ codes ")")

-- a definition for each constant in scope, in the order of declaration
abbrev pub model_answer : List Declared → Option (List Value) → List ℕ
model_answer declared None = no_model
model_answer declared (Some assignment) = line (codes "(") ++ flat_map (definition_line assignment) declared ++ line (codes ")")

-- a term as written, and its value
abbrev pub pair_text : List Value → Asked → List ℕ
pair_text assignment a = codes "(" ++ asked_text a ++ codes " " ++ value_text (val [] assignment a.term) ++ codes ")"

abbrev pub values_answer : List Asked → Option (List Value) → List ℕ
values_answer asked None = no_model
values_answer asked (Some assignment) = listed (map (pair_text assignment) asked)

-- Cores

-- the numbers of the active terms that an entry uses, where it says that there is no model
abbrev pub core_used : TableCheck → Entry → Option (List ℕ)
core_used check (Sat pairs) = None
core_used check UnsatCases = Some (core UnsatCases (length (nodes_in_force check)))
core_used check (UnsatSteps lines) = Some (core (UnsatSteps lines) (length (nodes_in_force check)))
core_used check (Unknown cause) = None

-- the core, where there is one: what ends a model ends a core
abbrev pub core_of : Last → Option (List ℕ)
core_of l = if l.fresh then core_used l.check l.entry else None

-- of the terms in the core those that have names, by their names
abbrev pub core_answer : Option Last → List ℕ
core_answer None = error_answer (codes "no core")
core_answer (Some l) =
    elim (core_of l) [
      | None ↦ error_answer (codes "no core")
      | Some numbers ↦ listed (map written_symbol (names_at (names_in_force l.check) numbers))
    ]

-- the text of each active term that is an assumption; assertions come before them
abbrev pub assumption_texts : TableCheck → List Asked → List (Option (List ℕ))
assumption_texts check asked = map (λ _. None) check.check.assertions ++ map (λ a. Some (asked_text a)) asked

abbrev pub no_assumptions : List ℕ
no_assumptions = error_answer (codes "no assumptions")

-- the assumptions in the core, as written, in their order
abbrev pub assumptions_answer : Option Last → List ℕ
assumptions_answer None = no_assumptions
assumptions_answer (Some l) =
    elim l.asked [
      | None ↦ no_assumptions
      | Some asked ↦
          elim (core_of l) [
            | None ↦ no_assumptions
            | Some numbers ↦ listed (names_at (assumption_texts l.check asked) numbers)
          ]
    ]

-- Reasons

-- the budget is the sum of what was spent
abbrev pub cause_text : Cause → List ℕ
cause_text Degree = codes "degree"
cause_text Terms = codes "terms"
cause_text (Steps trials reductions assignments chains) = codes "(steps " ++ decimal (trials + reductions + assignments + chains) ++ codes ")"
cause_text Memory = codes "memory"

abbrev pub no_reason : List ℕ
no_reason = error_answer (codes "no reason")

abbrev pub entry_reason : Entry → List ℕ
entry_reason (Sat pairs) = no_reason
entry_reason UnsatCases = no_reason
entry_reason (UnsatSteps lines) = no_reason
entry_reason (Unknown cause) = line (codes "(:reason-unknown " ++ cause_text cause ++ codes ")")

-- why the last check was not decided; what ends a model leaves it
abbrev pub reason_answer : Option Last → List ℕ
reason_answer None = no_reason
reason_answer (Some l) = entry_reason l.entry

-- Commands

abbrev pub verdict : Entry → List ℕ
verdict (Sat pairs) = line (codes "sat")
verdict UnsatCases = line (codes "unsat")
verdict (UnsatSteps lines) = line (codes "unsat")
verdict (Unknown cause) = line (codes "unknown")

abbrev pub verdict_answer : Option Last → List ℕ
verdict_answer None = []
verdict_answer (Some l) = verdict l.entry

abbrev pub info_answer : Option Last → State → Info → List ℕ
info_answer l s SolverName = line (codes "(:name \"ffsolve\")")
info_answer l s Version = line (codes "(:version \"1\")")
info_answer l s AssertionStackLevels = line (codes "(:assertion-stack-levels " ++ decimal (level_of s) ++ codes ")")
info_answer l s ReasonUnknown = reason_answer l

-- to a command that asks for nothing
abbrev pub success_answer : State → List ℕ
success_answer s = if s.options.print_success then line (codes "success") else []

-- the answer to a command that leaves this state, by what is remembered after it
abbrev pub answer_to : Option Last → State → Command → List ℕ
answer_to l s (GetOption o) = line (truth_text (option_of s.options o))
answer_to l s (GetInfo i) = info_answer l s i
answer_to l s Unsupported = line (codes "unsupported")
answer_to l s (Echo literal) = line literal
answer_to l s CheckSat = verdict_answer l
answer_to l s (CheckSatAssuming asked) = verdict_answer l
answer_to l s GetModel = model_answer (declared_of s) (model_of l)
answer_to l s (GetValue asked) = values_answer asked (model_of l)
answer_to l s GetUnsatCore = core_answer l
answer_to l s GetUnsatAssumptions = assumptions_answer l
answer_to l s Exit = []
answer_to l s command = success_answer s

abbrev pub answer_of : Option Last → Step → List ℕ
answer_of l x = answer_to l (after x.before x.tree x.command) x.command

-- Scripts

-- The answers to steps, with the entries of their checks in order, from what is remembered on. They end before the first check
-- that has no entry.
unfoldable pub answers_from : Option Last → List Step → List Entry → List ℕ
answers_from l [] entries = []
answers_from l (x ∷ xs) entries =
    elim (table_check_of x) [
      | None ↦ answer_of (last_after l x.command) x ++ answers_from (last_after l x.command) xs entries
      | Some check ↦
          elim entries [
            | [] ↦ []
            | entry ∷ rest ↦ answer_of (Some (checked x.command check entry)) x ++ answers_from (Some (checked x.command check entry)) xs rest
          ]
    ]

abbrev pub answers : List Step → List Entry → List ℕ
answers steps entries = answers_from None steps entries

-- what is remembered after these steps, where each check of them has an entry
unfoldable pub last_from : Option Last → List Step → List Entry → Option Last
last_from l [] entries = l
last_from l (x ∷ xs) entries =
    elim (table_check_of x) [
      | None ↦ last_from (last_after l x.command) xs entries
      | Some check ↦ elim entries [ [] ↦ l | entry ∷ rest ↦ last_from (Some (checked x.command check entry)) xs rest ]
    ]

abbrev pub has_all_entries : List Step → List Entry → Bool
has_all_entries steps entries = nat_le (length (table_checks steps)) (length entries)

-- the answer to a fault, by its line, column and code
abbrev pub fault_answer : ℕ → ℕ → ℕ → List ℕ
fault_answer at_line column code = error_answer (decimal at_line ++ codes ":" ++ decimal column ++ codes " " ++ decimal code)

abbrev pub end_answer : End → List ℕ
end_answer Done = []
end_answer (AtFault at_line column code) = fault_answer at_line column code

-- A fault is answered where every check before it has an entry.
abbrev pub script_answers : Script → List Entry → List ℕ
script_answers script entries = answers script.steps entries ++ (if has_all_entries script.steps entries then end_answer script.end else [])

-- A generated script

abbrev pub sat_count : List Entry → ℕ
sat_count [] = 0
sat_count (Sat pairs ∷ entries) = 1 + sat_count entries
sat_count (entry ∷ entries) = sat_count entries

abbrev pub unsat_count : List Entry → ℕ
unsat_count [] = 0
unsat_count (UnsatCases ∷ entries) = 1 + unsat_count entries
unsat_count (UnsatSteps lines ∷ entries) = 1 + unsat_count entries
unsat_count (entry ∷ entries) = unsat_count entries

abbrev pub unknown_count : List Entry → ℕ
unknown_count [] = 0
unknown_count (Unknown cause ∷ entries) = 1 + unknown_count entries
unknown_count (entry ∷ entries) = unknown_count entries

-- how large the script is, and how many of its checks got each verdict
abbrev pub made_answer : Option ℕ → List Entry → List ℕ
made_answer None entries = []
made_answer (Some size) entries =
    line (codes "made " ++ decimal size ++ codes " sat " ++ decimal (sat_count entries) ++ codes " unsat " ++ decimal (unsat_count entries) ++ codes " unknown " ++ decimal (unknown_count entries))

-- all answers of a run; of a script that was generated its size is given
abbrev pub run_answers : Option ℕ → Script → List Entry → List ℕ
run_answers make script entries = script_answers script entries ++ (if has_all_entries script.steps entries then made_answer make entries else [])
