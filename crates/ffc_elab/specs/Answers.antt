-- What the answer to a command says, and what taking a form does.
use Rattle.std.specs.Prelude.{◌≡◌, ℕ, Bool, List, ◌++◌, codes, if◌then◌else◌, map, Result, Ok, Err}
use Rattle.std.specs.Fmt.{decimal}
use Rattle.ffc_term.specs.declared.node.Node.{Node}
use Rattle.ffc_smt.specs.Trees.{Tree}
use Rattle.ffc_smt.specs.Faults.{Read, Sound, Faulty, first_fault}
use Rattle.ffc_smt.specs.Terms as smt
use Rattle.ffc_smt.specs.Scopes as scopes
use Rattle.ffc_smt.specs.Answering as answering
use Rattle.ffc_smt.specs.TableChecks.{node_of}
use Rattle.ffc_words.specs.declared.faults.TakeStop.{TakeStop}
use Rattle.ffc_words.specs.declared.faults.TakeStop.TheVariants as stop
use Rattle.ffc_words.specs.Words.{fault_of}
use Rattle.ffc_elab.specs.declared.answers.Asked.{Asked}
use Rattle.ffc_elab.specs.declared.answers.Declared.{Declared}
use Rattle.ffc_elab.specs.declared.answers.Effect.{Effect}
use Rattle.ffc_elab.specs.declared.answers.Effect.TheVariants as effect
use Rattle.ffc_elab.specs.declared.answers.Command.{Command}
use Rattle.ffc_elab.specs.declared.answers.Command.TheVariants as command
use Rattle.ffc_elab.specs.Histories.{Known, known_by}

-- a term as it was written, with its node
abbrev pub asked_as : List Node → smt.Asked → Asked
asked_as nodes a = record { node = node_of nodes a.term; text = answering.asked_text a }

-- a declared constant with its node
abbrev pub declared_as : List Node → scopes.Declared → Declared
declared_as nodes d = record { name = d.name; node = node_of nodes (smt.Constant d.number d.sort); sort = d.sort }

abbrev pub effect_as : answering.Effect → Effect
effect_as answering.Keeps = effect.Keeps
effect_as answering.EndsModel = effect.EndsModel
effect_as answering.Forgets = effect.Forgets

-- nothing is asked for
abbrev pub IsQuiet : Effect → Command → Type 0
IsQuiet e (command.Quiet f) = f ≡ e
IsQuiet e _ = ⊥

-- this is to be printed
abbrev pub Says : List ℕ → Command → Type 0
Says text (command.Say t) = t ≡ text
Says text _ = ⊥

-- a check with these assumptions
abbrev pub ChecksUnder : List Asked → Command → Type 0
ChecksUnder asked (command.CheckAssuming terms) = terms.items ≡ asked
ChecksUnder asked _ = ⊥

-- the values of these terms
abbrev pub AsksFor : List Asked → Command → Type 0
AsksFor asked (command.GetValue terms) = terms.items ≡ asked
AsksFor asked _ = ⊥

abbrev pub truth_text : Bool → List ℕ
truth_text b = if b then codes "true" else codes "false"

abbrev pub IsInfo : scopes.State → smt.Info → Command → Type 0
IsInfo s smt.SolverName r = Says (codes "(:name \"ffsolve\")") r
IsInfo s smt.Version r = Says (codes "(:version \"1\")") r
IsInfo s smt.AssertionStackLevels r = Says (codes "(:assertion-stack-levels " ++ decimal (scopes.level_of s) ++ codes ")") r
IsInfo s smt.ReasonUnknown r = r ≡ command.GetReason

-- the answer to a command that leaves this state
abbrev pub IsAnswered : scopes.State → smt.Command → Command → Type 0
IsAnswered s (smt.GetOption o) r = Says (truth_text (scopes.option_of s.options o)) r
IsAnswered s (smt.GetInfo i) r = IsInfo s i r
IsAnswered s smt.Unsupported r = r ≡ command.Unsupported
IsAnswered s (smt.Echo bytes) r = Says bytes r
IsAnswered s smt.CheckSat r = r ≡ command.Check
IsAnswered s (smt.CheckSatAssuming asked) r = ChecksUnder (map (asked_as s.nodes) asked) r
IsAnswered s smt.GetModel r = r ≡ command.GetModel
IsAnswered s (smt.GetValue asked) r = AsksFor (map (asked_as s.nodes) asked) r
IsAnswered s smt.GetUnsatCore r = r ≡ command.GetCore
IsAnswered s smt.GetUnsatAssumptions r = r ≡ command.GetAssumptions
IsAnswered s smt.Exit r = r ≡ command.Exit
IsAnswered s c r = IsQuiet (effect_as (answering.effect_of c)) r

-- What taking a form answers, whose tree is read so, and what is known then. Out of memory is the one free answer.
abbrev pub TakesAs : Known → Tree → Read smt.Command → Result Command TakeStop → Known → Type 0
TakesAs k tree (Sound c) (Ok r) new = (new ≡ known_by k tree c) × IsAnswered new.state c r
TakesAs k tree (Faulty f fs) (Ok r) new = ⊥
TakesAs k tree (Sound c) (Err (stop.Fault g)) new = ⊥
TakesAs k tree (Faulty f fs) (Err (stop.Fault g)) new = (fault_of g ≡ first_fault f fs) × (new ≡ k)
TakesAs k tree r (Err stop.Memory) new = new ≡ k
