-- What a script says: its commands and its end, what is active at each check, and when that can be met. SMT-LIB 2.6,
-- sections 3.9 and 4.
use Rattle.std.specs.Prelude.{◌≡◌, ℕ, true, List, [], ◌∷◌, ◌++◌, length, drop, map, replicate, Option, Some, None, All}
use Rattle.ffc_lex.specs.declared.tokens.TokenKind.{TokenKind}
use Rattle.ffc_lex.specs.declared.tokens.TokenKind.TheVariants.{Numeral, FieldLiteral}
use Rattle.ffc_lex.specs.declared.tokens.Token.{Token}
use Rattle.ffc_lex.specs.Reading.{End as TextEnd, Between, Within, Stopped, reading_of}
use Rattle.ffc_term.specs.declared.node.Sort.{Sort}
use Rattle.ffc_term.specs.declared.node.Sort.TheVariants as sort
use Rattle.ffc_term.specs.declared.value.Value.{Value}
use Rattle.ffc_term.specs.Laws.{IsOfSort}
use Rattle.ffc_smt.specs.Trees.{Tree, Leaf, Group, Trees, Empty, First, form_tree}
use Rattle.ffc_smt.specs.Terms.{Name, Term, Asked, Parameter, Command, SetLogic, SetOption, Declare, DefineSort, Define, Assert, CheckSat, CheckSatAssuming, GetValue, Push, Pop, ResetAssertions, Reset, Exit}
use Rattle.ffc_smt.specs.Meaning.{TruthValue, val}
use Rattle.ffc_smt.specs.Numbers.{number_of, literal_order}
use Rattle.ffc_smt.specs.Scopes.{Meant, AsConstant, AsTerm, AsMacro, Assertion, State, first_state, empty_level, assertions_of, with_option, with_name, with_sort, with_assertion, cleared, restarted}
use Rattle.ffc_smt.specs.Faults.{Fault, Sound, Faulty, first_fault}
use Rattle.ffc_smt.specs.CommandReading.{Limits, limits, command_read, nodes_after}

-- Orders. In a command with terms or sorts a numeral is only in a sort, as its order.

abbrev pub order_in : TokenKind → List ℕ → List ℕ
order_in Numeral bytes = number_of bytes ∷ []
order_in FieldLiteral bytes = literal_order bytes ∷ []
order_in _ bytes = []

unfoldable mutual
  pub orders_in : Tree → List ℕ
  orders_in (Leaf w) = order_in w.kind w.bytes
  orders_in (Group opening items closing) = orders_in_items items

  pub orders_in_items : Trees → List ℕ
  orders_in_items Empty = []
  orders_in_items (First t ts) = orders_in t ++ orders_in_items ts

-- the orders that a command names, in the order of the text
unfoldable pub named_orders : Command → Tree → List ℕ
named_orders (Declare name sort) t = orders_in t
named_orders (DefineSort name sort) t = orders_in t
named_orders (Define name parameters sort body) t = orders_in t
named_orders (Assert label term) t = orders_in t
named_orders (GetValue asked) t = orders_in t
named_orders _ t = []

abbrev pub first_named : Option ℕ → List ℕ → Option ℕ
first_named (Some p) orders = Some p
first_named None [] = None
first_named None (p ∷ ps) = Some p

-- What a command changes

abbrev pub meant_by : List Parameter → Sort → Term → Meant
meant_by [] s t = AsTerm s t
meant_by (p ∷ ps) s t = AsMacro (p ∷ ps) s t

-- the label of an assertion is a definition
abbrev pub labelled : Option Name → Term → State → State
labelled None t s = s
labelled (Some name) t s = with_name name (AsTerm sort.Bool t) s

-- of names, levels, assertions and options
abbrev pub changed : Command → State → State
changed SetLogic s = record s { logic = true }
changed (SetOption o b) s = record s { options = with_option s.options o b }
changed (Declare name sort) s = record (with_name name (AsConstant (length s.constants) sort) s) { constants = s.constants ++ sort ∷ [] }
changed (DefineSort name sort) s = with_sort name sort s
changed (Define name parameters sort t) s = with_name name (meant_by parameters sort t) s
changed (Assert label t) s = labelled label t (with_assertion (record { term = t; label = label }) s)
changed (Push n) s = record s { levels = replicate n empty_level ++ s.levels }
changed (Pop n) s = record s { levels = drop n s.levels }
changed ResetAssertions s = cleared s
changed Reset s = restarted s
changed _ s = s

-- after a command, which was read from a tree
unfoldable pub after : State → Tree → Command → State
after s t c = record (changed c s) { nodes = nodes_after s c; first_order = first_named s.first_order (named_orders c t) }

-- Checks

-- what a check sees: all constants of the script so far, the asserted terms, oldest first, and the assumptions
pub record Check : Type 0 where
  pub constants : List Sort
  pub assertions : List Assertion
  pub assumptions : List Asked
  -- the first order that the script named, or 2
  pub first_order : ℕ

abbrev pub in_force : Check → List Term
in_force c = map (λ a. a.term) c.assertions ++ map (λ a. a.term) c.assumptions

abbrev pub order_or_two : Option ℕ → ℕ
order_or_two None = 2
order_or_two (Some p) = p

abbrev pub check_at : State → List Asked → Check
check_at s assumptions = record { constants = s.constants; assertions = assertions_of s; assumptions = assumptions; first_order = order_or_two s.first_order }

-- one value of its sort for each constant
abbrev pub IsAssignment : List Sort → List Value → Type 0
IsAssignment [] [] = Unit {0}
IsAssignment [] (v ∷ vs) = ⊥
IsAssignment (s ∷ ss) [] = ⊥
IsAssignment (s ∷ ss) (v ∷ vs) = IsOfSort s v × IsAssignment ss vs

-- all that is active is true
abbrev pub Holds : Check → List Value → Type 0
Holds c assignment = IsAssignment c.constants assignment × All (λ t. val [] assignment t ≡ TruthValue true) (in_force c)

-- nothing makes all that is active true
abbrev pub IsUnsatisfiable : Check → Type 0
IsUnsatisfiable c = (assignment : List Value) → Holds c assignment → ⊥

-- Scripts

-- how a script ends: with the text or `exit`, or at a fault with its line, column and code
pub data End : Type 0 where
  Done : End
  AtFault : ℕ → ℕ → ℕ → End

-- a command, the tree that it was read from, and the state before it
pub record Step : Type 0 where
  pub before : State
  pub tree : Tree
  pub command : Command

pub record Script : Type 0 where
  pub steps : List Step
  pub end : End

abbrev pub ended : End → Script
ended e = record { steps = []; end = e }

abbrev pub with_step : Step → Script → Script
with_step x script = record { steps = x ∷ script.steps; end = script.end }

abbrev pub end_at : Fault → End
end_at f = AtFault f.line f.column f.code

-- what forms say from a state on, where the text ends so after them; what follows `exit` isn't looked at
unfoldable pub script_from : Limits → State → List Tree → End → Script
script_from l s [] end = ended end
script_from l s (t ∷ ts) end =
    elim (command_read l s t) [
      | Faulty f fs ↦ ended (end_at (first_fault f fs))
      | Sound Exit ↦ with_step (record { before = s; tree = t; command = Exit }) (ended Done)
      | Sound c ↦ with_step (record { before = s; tree = t; command = c }) (script_from l (after s t c) ts end)
    ]

-- the end of a text after its last form
abbrev pub end_of_text : TextEnd → End
end_of_text Between = Done
end_of_text (Within f) = AtFault f.line f.column f.code
end_of_text (Stopped f) = AtFault f.line f.column f.code

abbrev pub trees_of : List ℕ → List (List Token) → List Tree
trees_of text [] = []
trees_of text (form ∷ forms) = elim (form_tree text form) [ None ↦ trees_of text forms | Some t ↦ t ∷ trees_of text forms ]

-- what a text says, under these limits
unfoldable pub reads_within : Limits → List ℕ → Script
reads_within l text = script_from l first_state (trees_of text (reading_of text).forms) (end_of_text (reading_of text).end)

abbrev pub reads : List ℕ → Script
reads text = reads_within limits text

-- the check that a command makes
abbrev pub check_of : Step → Option Check
check_of x = elim x.command [ CheckSat ↦ Some (check_at x.before []) | CheckSatAssuming asked ↦ Some (check_at x.before asked) | _ ↦ None ]

abbrev pub checks_of : List Step → List Check
checks_of [] = []
checks_of (x ∷ xs) = elim (check_of x) [ None ↦ checks_of xs | Some c ↦ c ∷ checks_of xs ]
