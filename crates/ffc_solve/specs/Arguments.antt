-- The arguments of the solver, `ffsolve --cert FILE [--steps N] [--make N] [--bits]`: a simple command of `clap` without a help
-- flag. The numbers are integer options of `clap`, within their ranges.
use Rattle.std.specs.Prelude.{◌≡◌, ℕ, ◌≤◌, ◌<◌, Bool, true, false, [], List, codes, Option, Some, unwrap_or, option_map, IfSome, IsSome}
use Rattle.std.specs.Str.{bytes_eq}
use Rattle.std.specs.Str.Parse.{digits_value, without_leading_plus}
use Rattle.clap.specs.Words.{App, Rule, Text, fault_of, first_of, matches_of, new_app, new_rule, one_of, with_rule}
use Rattle.clap.specs.declared.builder.action.ArgAction.TheVariants.{Set, SetTrue}
use Rattle.clap.specs.declared.builder.value_parser.ValueParser.TheVariants.{Unsigned}
use Rattle.ffc_solve.specs.declared.arguments.Plan.{Plan}
use Rattle.ffc_solve.specs.declared.arguments.Task.{Task}

abbrev pub cert_rule : Rule
cert_rule = record (new_rule (codes "cert")) { long = Some (codes "cert"); action = Some Set; required = true }

-- a number of units of work
abbrev pub steps_rule : Rule
steps_rule = record (new_rule (codes "steps")) { long = Some (codes "steps"); action = Some Set; parser = Some (Unsigned 1 1000000000000) }

-- the size of a generated script
abbrev pub make_rule : Rule
make_rule = record (new_rule (codes "make")) { long = Some (codes "make"); action = Some Set; parser = Some (Unsigned 1 10000) }

-- the flag that asks for certificates of version 3
abbrev pub bits_rule : Rule
bits_rule = record (new_rule (codes "bits")) { long = Some (codes "bits"); action = Some SetTrue }

abbrev pub without_help : App → App
without_help a = record a { top = record a.top { disable_help_flag = true } }

abbrev pub solve_app : App
solve_app = with_rule (with_rule (with_rule (with_rule (without_help (new_app (codes "ffsolve"))) cert_rule) steps_rule) make_rule) bits_rule

-- `clap` takes the words, the program's name first
abbrev pub AreTaken : List Text → Type 0
AreTaken words = fault_of solve_app words ≡ []

-- `clap` refuses the words, be it for a number that is out of its range
abbrev pub AreRefused : List Text → Type 0
AreRefused words = AreTaken words → ⊥

-- the name of the certificate that the words give
abbrev pub cert_name : List Text → Text
cert_name words = unwrap_or (first_of (codes "cert") (matches_of solve_app words)) []

-- what a text is read as that `clap` takes for a number: decimal digits, after a plus sign or none
abbrev pub number_read : Text → ℕ
number_read text = digits_value 10 (without_leading_plus text)

-- the number that the words give
abbrev pub number_given : Text → List Text → Option ℕ
number_given id words = option_map number_read (one_of id (matches_of solve_app words))

-- the words ask for a generated script
abbrev pub AskToMake : List Text → Type 0
AskToMake words = IsSome (number_given (codes "make") words)

-- the value of a flag that is given
abbrev pub is_set : Text → Bool
is_set text = bytes_eq text (codes "true")

-- the words ask for certificates of version 3
abbrev pub wants_bits : List Text → Bool
wants_bits words = unwrap_or (option_map is_set (first_of (codes "bits") (matches_of solve_app words))) false

pub record IsInRange (most n : ℕ) : Type 0 where
  pub some : 0 < n
  pub few : n ≤ most

-- what each check is decided with, by a plan
abbrev pub task_of : Plan → Task
task_of plan = record { steps = plan.steps; bits = plan.bits }

-- what the words ask for
pub record HasPlan (words : List Text) (plan : Plan) : Type 0 where
  pub taken : AreTaken words
  pub cert : plan.cert_name ≡ cert_name words
  pub steps : plan.steps ≡ unwrap_or (number_given (codes "steps") words) 1000000
  pub make : plan.make ≡ number_given (codes "make") words
  pub bits : plan.bits ≡ wants_bits words
  pub steps_in : IsInRange 1000000000000 plan.steps
  pub make_in : IfSome plan.make (IsInRange 10000)
