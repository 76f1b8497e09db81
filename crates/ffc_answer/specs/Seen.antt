-- What is answered, said by what a view has: nodes in place of terms.
use Rattle.std.specs.Prelude.{◌≡◌, ℕ, ◌+◌, ◌<◌, ◌^◌, Bool, false, if◌then◌else◌, List, [], ◌++◌, length, map, replicate, codes, All, Option, Some, None, slice_get, option_and_then}
use Rattle.std.specs.List.{flat_map}
use Rattle.std.specs.Option.{option_copied}
use Rattle.ffc_lex.specs.Names.{written_symbol}
use Rattle.ffc_cert.specs.declared.entries.Entry.{Entry}
use Rattle.ffc_cert.specs.declared.entries.Entry.TheVariants.{Sat, UnsatCases, UnsatSteps, Unknown}
use Rattle.ffc_cert.specs.declared.entries.Cause.{Cause}
use Rattle.ffc_cert.specs.declared.entries.Cause.TheVariants.{Steps}
use Rattle.ffc_term.specs.declared.node.Node.{Node}
use Rattle.ffc_term.specs.declared.node.Sort.{Sort}
use Rattle.ffc_term.specs.declared.node.Sort.TheVariants as sort
use Rattle.ffc_term.specs.declared.value.Value.{Value}
use Rattle.ffc_term.specs.Nodes.{sort_at}
use Rattle.ffc_term.specs.Values.{residue, truth, value_at, value_in}
use Rattle.ffc_smt.specs.Terms.{Name}
use Rattle.ffc_smt.specs.Meaning.{FieldValue}
use Rattle.ffc_smt.specs.Scopes.{declared_of}
use Rattle.ffc_smt.specs.TableChecks.{names_in_force, nodes_in_force}
use Rattle.ffc_rules.specs.Assignments.{listed_assignment}
use Rattle.ffc_rules.specs.Cores.{names_at}
use Rattle.ffc_elab.specs.declared.answers.Asked.{Asked}
use Rattle.ffc_elab.specs.declared.answers.Declared.{Declared}
use Rattle.ffc_elab.specs.declared.answers.Command.{Command}
use Rattle.ffc_elab.specs.declared.answers.Command.TheVariants as command
use Rattle.ffc_elab.specs.Histories.{check_now, known_of, state_of}
use Rattle.ffc_elab.specs.Answers.{declared_as, truth_text}
use Rattle.ffc_elab.specs.Contexts.{asked_nodes}
use Rattle.ffc_answer.specs.declared.view.View.{View}
use Rattle.ffc_answer.specs.Answers.{line, listed, error_answer, sort_text, value_text, verdict, entry_reason, no_model, no_assumptions, no_reason}

-- a value as one of a sort
abbrev pub printed : Sort → Value → List ℕ
printed sort.Bool v = truth_text (truth v)
printed (sort.Field p) v = value_text (FieldValue p (residue v))

-- Models

abbrev pub pairs_of : Option Entry → Option (List (ℕ × ℕ))
pairs_of None = None
pairs_of (Some (Sat pairs)) = Some pairs
pairs_of (Some UnsatCases) = None
pairs_of (Some (UnsatSteps lines)) = None
pairs_of (Some (Unknown cause)) = None

-- the values that the last entry lists, where they are a model still
abbrev pub pairs_seen : View → Option (List (ℕ × ℕ))
pairs_seen v = if v.fresh then pairs_of (option_copied v.last) else None

abbrev pub nodes_seen : View → List Node
nodes_seen v = (state_of v.context.now).nodes

abbrev pub declared_seen : View → List Declared
declared_seen v = map (declared_as (nodes_seen v)) (declared_of (state_of v.context.now))

-- a sort, and a value of it
unfoldable pub typed_text : Sort → Value → List ℕ
typed_text s value = sort_text s ++ codes " " ++ printed s value

unfoldable pub definition_head : List ℕ → List ℕ
definition_head name = codes "(define-fun " ++ name ++ codes " () "

-- the definition of a symbol as a value
abbrev pub definition_text : List ℕ → Sort → Value → List ℕ
definition_text name s value = line (definition_head name ++ typed_text s value ++ codes ")")

-- where values of nodes are at their numbers
unfoldable pub definition_with : List Value → Declared → List ℕ
definition_with values d = definition_text (written_symbol d.name) d.sort (value_in values d.node)

unfoldable pub definition_at : List Node → List (ℕ × ℕ) → Declared → List ℕ
definition_at nodes pairs d = definition_text (written_symbol d.name) d.sort (value_at nodes (listed_assignment nodes pairs) d.node)

abbrev pub model_by : List Node → List Declared → Option (List (ℕ × ℕ)) → List ℕ
model_by nodes declared None = no_model
model_by nodes declared (Some pairs) = line (codes "(") ++ flat_map (definition_at nodes pairs) declared ++ line (codes ")")

abbrev pub model_seen : View → List ℕ
model_seen v = model_by (nodes_seen v) (declared_seen v) (pairs_seen v)

abbrev pub term_text : List Node → Asked → Value → List ℕ
term_text nodes a value = codes "(" ++ a.text ++ codes " " ++ printed (sort_at nodes a.node) value ++ codes ")"

abbrev pub pair_with : List Node → List Value → Asked → List ℕ
pair_with nodes values a = term_text nodes a (value_in values a.node)

abbrev pub pair_at : List Node → List (ℕ × ℕ) → Asked → List ℕ
pair_at nodes pairs a = term_text nodes a (value_at nodes (listed_assignment nodes pairs) a.node)

abbrev pub values_by : List Node → List Asked → Option (List (ℕ × ℕ)) → List ℕ
values_by nodes asked None = no_model
values_by nodes asked (Some pairs) = listed (map (pair_at nodes pairs) asked)

abbrev pub values_seen : View → List Asked → List ℕ
values_seen v asked = values_by (nodes_seen v) asked (pairs_seen v)

-- Cores

-- the name at a number, where there is one
abbrev pub name_at : List (Option Name) → ℕ → Option Name
name_at names k = option_and_then (λ name. name) (slice_get names k)

abbrev pub is_refutation : Option Entry → Bool → Bool
is_refutation None fresh = false
is_refutation (Some (Sat pairs)) fresh = false
is_refutation (Some UnsatCases) fresh = fresh
is_refutation (Some (UnsatSteps lines)) fresh = fresh
is_refutation (Some (Unknown cause)) fresh = false

-- whether there is a core
abbrev pub has_core : View → Bool
has_core v = is_refutation (option_copied v.last) v.fresh

abbrev pub core_seen : View → List ℕ
core_seen v =
    if has_core v
    then listed (map written_symbol (names_at (names_in_force (check_now (known_of v.context.now))) v.core.now))
    else error_answer (codes "no core")

-- so many assertions, which are no assumptions, and then these
abbrev pub assumed_texts : ℕ → List Asked → List (Option Name)
assumed_texts assertions asked = replicate assertions None ++ map (λ a. Some a.text) asked

-- where there is a core, and there are so many assertions
abbrev pub assumptions_by : Bool → ℕ → List ℕ → Option (List Asked) → List ℕ
assumptions_by there assertions numbers None = no_assumptions
assumptions_by there assertions numbers (Some asked) = if there then listed (names_at (assumed_texts assertions asked) numbers) else no_assumptions

abbrev pub assumptions_seen : View → List ℕ
assumptions_seen v = assumptions_by (has_core v) (length (nodes_in_force (check_now (known_of v.context.now)))) v.core.now (option_copied v.asked)

-- Others

abbrev pub reason_seen : Option Entry → List ℕ
reason_seen None = no_reason
reason_seen (Some entry) = entry_reason entry

abbrev pub verdict_seen : Option Entry → List ℕ
verdict_seen None = []
verdict_seen (Some entry) = verdict entry

abbrev pub success_seen : View → List ℕ
success_seen v = if (state_of v.context.now).options.print_success then line (codes "success") else []

abbrev pub answer_seen : View → Command → List ℕ
answer_seen v (command.Quiet effect) = success_seen v
answer_seen v command.Check = verdict_seen (option_copied v.last)
answer_seen v (command.CheckAssuming asked) = verdict_seen (option_copied v.last)
answer_seen v command.GetModel = model_seen v
answer_seen v (command.GetValue asked) = values_seen v asked.items
answer_seen v command.GetReason = reason_seen (option_copied v.last)
answer_seen v command.GetCore = core_seen v
answer_seen v command.GetAssumptions = assumptions_seen v
answer_seen v (command.Say text) = line text
answer_seen v command.Unsupported = line (codes "unsupported")
answer_seen v command.Exit = []

-- What an answer looks at is there

abbrev pub AreAskedWithin : View → List Asked → Type 0
AreAskedWithin v asked = All (λ a. a.node < length (nodes_seen v)) asked

-- where there is a model, the constants that it lists are in the table
abbrev pub FitsModel : View → Type 0
FitsModel v = (pairs : List (ℕ × ℕ)) → pairs_seen v ≡ Some pairs → All (λ p. p.0 < length (nodes_seen v)) pairs

-- the four counts are those of a budget
abbrev pub HasBudget : Cause → Type 0
HasBudget (Steps trials reductions assignments chains) = trials + reductions + assignments + chains < 2 ^ 64
HasBudget _ = Unit {0}

abbrev pub EntryHasBudget : Option Entry → Type 0
EntryHasBudget (Some (Unknown cause)) = HasBudget cause
EntryHasBudget _ = Unit {0}

-- A command can be answered from the view: the nodes that a model lists and those that are asked for are in the context's
-- table, and what was spent is a number of 64 bits.
pub record CanAnswer (v : View) (c : Command) : Type 0 where
  pub model : FitsModel v
  pub asked : All (λ id. id < length (nodes_seen v)) (asked_nodes c)
  pub budget : EntryHasBudget (option_copied v.last)
