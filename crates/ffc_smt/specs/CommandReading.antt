-- What a form reads as: one command, or its faults. SMT-LIB 2.6, section 3.9, with this project's limits.
use Rattle.std.specs.Prelude.{ℕ, ◌+◌, nat_lt, Bool, true, false, not, List, [], ◌∷◌, ◌++◌, length, drop, map, codes, if◌then◌else◌, Option, Some, None, is_some, sum_by}
use Rattle.std.specs.Str.{bytes_eq}
use Rattle.ffc_lex.specs.declared.tokens.TokenKind.{TokenKind}
use Rattle.ffc_lex.specs.declared.tokens.TokenKind.TheVariants.{Numeral, Symbol, Quoted, Keyword, Str}
use Rattle.ffc_lex.specs.Names.{is_theory_name}
use Rattle.ffc_term.specs.declared.node.Sort.{Sort}
use Rattle.ffc_term.specs.declared.node.Sort.TheVariants as sort
use Rattle.ffc_term.specs.declared.node.Node.{Node}
use Rattle.ffc_smt.specs.Trees.{Word, Tree, Leaf, Group, Empty, First, items_of, front, name_of}
use Rattle.ffc_smt.specs.Terms.{Name, Not, Term, Applied, NoTerm, AndTerm, weight, Asked, Parameter, Setting, PrintSuccess, ProduceModels, GlobalDeclarations, ProduceUnsatCores, ProduceUnsatAssumptions, Info, SolverName, Version, AssertionStackLevels, ReasonUnknown, Command, SetLogic, SetOption, GetOption, SetInfo, GetInfo, Unsupported, Echo, Declare, DefineSort, Define, Assert, CheckSat, CheckSatAssuming, GetModel, GetValue, GetUnsatCore, GetUnsatAssumptions, Push, Pop, ResetAssertions, Reset, Exit}
use Rattle.ffc_smt.specs.Meaning.{Env, found}
use Rattle.ffc_smt.specs.Making.{made, interned, constant_node}
use Rattle.ffc_smt.specs.Numbers.{number_of}
use Rattle.ffc_smt.specs.Scopes.{State, scope_of, level_of}
use Rattle.ffc_smt.specs.Faults.{Fault, word_fault, Read, Sound, Faulty, faults, faulty, unless, read_map, both, behind, no_more, last, item}
use Rattle.ffc_smt.specs.TermReading.{Sorted, Named, sort_read, term_read, term_named, exactly, is_named, is_word, is_sort, variable_read, twice, add_named}

pub record Limits : Type 0 where
  -- of a term
  pub height : ℕ
  pub levels : ℕ
  -- of all nodes of a script
  pub nodes : ℕ
  -- of a command
  pub weight : ℕ

abbrev pub limits : Limits
limits = record { height = 65536; levels = 65536; nodes = 1048576; weight = 16777216 }

-- Names

-- a name that is no theory's and not taken
abbrev pub fresh : Bool → Word → Name → Read Name
fresh taken w name = if taken then faulty 9 w else (if is_theory_name name then faulty 9 w else Sound name)

abbrev pub fresh_read : (Name → Bool) → Tree → Read Name
fresh_read is_taken (Leaf w) = elim (name_of w) [ None ↦ faulty 5 w | Some name ↦ fresh (is_taken name) w name ]
fresh_read is_taken (Group opening items closing) = faulty 5 opening

abbrev pub is_taken : State → Name → Bool
is_taken s name = is_some (found (scope_of s).names name)

abbrev pub is_taken_sort : State → Name → Bool
is_taken_sort s name = if bytes_eq name (codes "Bool") then true else is_some (found (scope_of s).sorts name)

-- `()`
abbrev pub nothing_in : List Tree → Read (Unit {0})
nothing_in [] = Sound tt
nothing_in (t ∷ ts) = faulty 5 (front t)

abbrev pub none_read : Tree → Read (Unit {0})
none_read (Leaf w) = faulty 5 w
none_read (Group opening items closing) = nothing_in (items_of items)

-- Terms

-- every one of a list
abbrev pub each : {A : Type 0} → (Tree → Read A) → List Tree → Read (List A)
each read [] = Sound []
each read (t ∷ ts) = read_map (λ p. p.0 ∷ p.1) (both (read t) (each read ts))

-- a term of a sort
abbrev pub of_sort : Sort → Word → Sorted → Read Term
of_sort s at t = if is_sort s t.sort then Sound t.term else faulty 10 at

abbrev pub term_of_sort : Limits → State → List Parameter → Sort → Tree → Read Term
term_of_sort l s parameters wanted t = behind (term_read l.height (scope_of s) (map (λ p. (p.name, p.sort)) parameters) t) (of_sort wanted (front t))

abbrev pub asked_read : Limits → State → Tree → Read Asked
asked_read l s t = read_map (λ x. record { tree = t; term = x.term }) (term_read l.height (scope_of s) [] t)

-- a list in parentheses, of one or more items, or also of none
abbrev pub some_item : Word → List Tree → List Fault
some_item closing [] = word_fault 5 closing ∷ []
some_item closing (t ∷ ts) = []

abbrev pub list_read : {A : Type 0} → Bool → (Tree → Read A) → Tree → Read (List A)
list_read empty read (Leaf w) = faulty 5 w
list_read empty read (Group opening items closing) = unless (if empty then [] else some_item closing (items_of items)) (each read (items_of items))

-- Assumptions: a name of Boolean sort without parameters, or `(not name)`

abbrev pub boolean_name : State → Word → Name → Read Term
boolean_name s w name = behind (term_named (scope_of s) [] w name) (of_sort sort.Bool w)

abbrev pub negated : Term → Term
negated t = Applied Not (AndTerm t NoTerm)

-- of another form, at this place
abbrev pub assumed : State → Word → Word → Option Name → Read Term
assumed s at w None = faulty 5 at
assumed s at w (Some name) = boolean_name s w name

abbrev pub assumption_of : State → Word → List Tree → Read Term
assumption_of s opening (Leaf head ∷ Leaf w ∷ []) = if is_named (codes "not") head then read_map negated (assumed s opening w (name_of w)) else faulty 5 opening
assumption_of s opening _ = faulty 5 opening

abbrev pub assumption_read : State → Tree → Read Term
assumption_read s (Leaf w) = assumed s w w (name_of w)
assumption_read s (Group opening items closing) = assumption_of s opening (items_of items)

abbrev pub assumption_asked : State → Tree → Read Asked
assumption_asked s t = read_map (λ x. record { tree = t; term = x }) (assumption_read s t)

-- Assertions

abbrev pub is_named_word : Word → Bool
is_named_word w = elim w.kind [ Keyword ↦ bytes_eq w.bytes (codes ":named") | _ ↦ false ]

-- after `(!`: a term, `:named` and a name
abbrev pub named_assertion : Limits → State → Word → List Tree → Read Command
named_assertion l s closing items =
    read_map (λ p. Assert (Some (p.1.1.0)) p.0)
    (item closing (term_of_sort l s [] sort.Bool) (item closing (exactly is_named_word) (item closing (fresh_read (is_taken s)) last)) items)

abbrev pub plain_assertion : Limits → State → Tree → Read Command
plain_assertion l s t = read_map (Assert None) (term_of_sort l s [] sort.Bool t)

abbrev pub assertion_read : Limits → State → Tree → Read Command
assertion_read l s (Group opening (First (Leaf w) rest) closing) =
    if is_word (codes "!") w then named_assertion l s closing (items_of rest) else plain_assertion l s (Group opening (First (Leaf w) rest) closing)
assertion_read l s t = plain_assertion l s t

-- Definitions

-- `(X S)`
pub record ReadParameter : Type 0 where
  pub name : Read Named
  pub sort : Read Sort

abbrev pub parameter_of : State → Word → List Tree → ReadParameter
parameter_of s closing [] = record { name = faulty 5 closing; sort = faulty 5 closing }
parameter_of s closing (x ∷ rest) = record { name = variable_read x; sort = read_map (λ p. p.0) (item closing (sort_read (scope_of s).sorts) last rest) }

abbrev pub parameter_read : State → Tree → ReadParameter
parameter_read s (Leaf w) = record { name = faulty 5 w; sort = faulty 5 w }
parameter_read s (Group opening items closing) = parameter_of s closing (items_of items)

abbrev pub parameter_faults : List ReadParameter → List Fault
parameter_faults [] = []
parameter_faults (p ∷ ps) = faults p.name ++ faults p.sort ++ parameter_faults ps

abbrev pub parameter_names : List ReadParameter → List Named
parameter_names [] = []
parameter_names (p ∷ ps) = add_named p.name (parameter_names ps)

abbrev pub sound_parameter : Read Named → Read Sort → List Parameter → List Parameter
sound_parameter (Sound n) (Sound s) ps = record { name = n.name; sort = s } ∷ ps
sound_parameter (Sound n) (Faulty f fs) ps = ps
sound_parameter (Faulty f fs) s ps = ps

abbrev pub sound_parameters : List ReadParameter → List Parameter
sound_parameters [] = []
sound_parameters (p ∷ ps) = sound_parameter p.name p.sort (sound_parameters ps)

abbrev pub parameters_of : List ReadParameter → Read (List Parameter)
parameters_of ps = unless (parameter_faults ps ++ twice [] (parameter_names ps)) (Sound (sound_parameters ps))

abbrev pub parameters_read : State → Tree → Read (List Parameter)
parameters_read s (Leaf w) = faulty 5 w
parameters_read s (Group opening items closing) = parameters_of (map (parameter_read s) (items_of items))

-- The body has the parameters' names, and the sort that comes before it.
abbrev pub body_read : Limits → State → Tree → Tree → Tree → Read Term
body_read l s ps r t = behind (both (parameters_read s ps) (sort_read (scope_of s).sorts r)) (λ head. term_of_sort l s head.0 head.1 t)

abbrev pub definition_of : Limits → State → Word → List Tree → Read (List Parameter × Sort × Term)
definition_of l s closing [] = faulty 5 closing
definition_of l s closing (ps ∷ []) = unless (faults (parameters_read s ps)) (faulty 5 closing)
definition_of l s closing (ps ∷ r ∷ rest) =
    read_map (λ d. (d.0, d.1.0, d.1.1.0))
    (both (parameters_read s ps) (both (sort_read (scope_of s).sorts r) (item closing (body_read l s ps r) last rest)))

-- Options and information

abbrev pub keyword_read : Tree → Read Word
keyword_read (Leaf w) = elim w.kind [ Keyword ↦ Sound w | _ ↦ faulty 5 w ]
keyword_read (Group opening items closing) = faulty 5 opening

abbrev pub options : Env Setting
options =
    (codes ":print-success", PrintSuccess) ∷ (codes ":produce-models", ProduceModels) ∷ (codes ":global-declarations", GlobalDeclarations)
    ∷ (codes ":produce-unsat-cores", ProduceUnsatCores) ∷ (codes ":produce-unsat-assumptions", ProduceUnsatAssumptions) ∷ []

abbrev pub infos : Env Info
infos =
    (codes ":name", SolverName) ∷ (codes ":version", Version) ∷ (codes ":assertion-stack-levels", AssertionStackLevels)
    ∷ (codes ":reason-unknown", ReasonUnknown) ∷ []

abbrev pub truth_named : Word → Name → Read Bool
truth_named w name = if bytes_eq name (codes "true") then Sound true else (if bytes_eq name (codes "false") then Sound false else faulty 5 w)

abbrev pub truth_read : Tree → Read Bool
truth_read (Leaf w) = elim (name_of w) [ None ↦ faulty 5 w | Some name ↦ truth_named w name ]
truth_read (Group opening items closing) = faulty 5 opening

-- global declarations are set before the logic is
abbrev pub is_too_late : State → Setting → Bool
is_too_late s GlobalDeclarations = s.logic
is_too_late s _ = false

abbrev pub setting_read : State → Word → Word → List Tree → Option Setting → Read Command
setting_read s closing w rest None = unless (no_more (drop 1 rest)) (Sound Unsupported)
setting_read s closing w rest (Some o) =
    if is_too_late s o then faulty 7 w else read_map (λ p. SetOption o p.0) (item closing truth_read last rest)

abbrev pub option_read : State → Word → List Tree → Read Command
option_read s closing [] = faulty 5 closing
option_read s closing (k ∷ rest) = behind (keyword_read k) (λ w. setting_read s closing w rest (found options w.bytes))

abbrev pub get_option : Option Setting → Command
get_option None = Unsupported
get_option (Some o) = GetOption o

abbrev pub get_info : Option Info → Command
get_info None = Unsupported
get_info (Some i) = GetInfo i

-- any one item, or none
abbrev pub at_most_one : List Tree → Read (Unit {0})
at_most_one ts = last (drop 1 ts)

-- Levels

-- a number of levels that may be opened or closed, and code 16 at another one
abbrev pub counted : (ℕ → Bool) → Word → ℕ → Read ℕ
counted test w n = if test n then Sound n else faulty 16 w

abbrev pub count_read : (ℕ → Bool) → Tree → Read ℕ
count_read test (Leaf w) = elim w.kind [ Numeral ↦ counted test w (number_of w.bytes) | _ ↦ faulty 5 w ]
count_read test (Group opening items closing) = faulty 5 opening

-- 1 where it is left out
abbrev pub levels_read : (ℕ → Bool) → Word → List Tree → Read ℕ
levels_read test closing [] = counted test closing 1
levels_read test closing (t ∷ ts) = unless (no_more ts) (count_read test t)

-- Commands

abbrev pub string_read : Tree → Read Command
string_read (Leaf w) = elim w.kind [ Str ↦ Sound (Echo w.bytes) | _ ↦ faulty 5 w ]
string_read (Group opening items closing) = faulty 5 opening

abbrev pub logic_named : Word → Name → Read Command
logic_named w name = if bytes_eq name (codes "QF_FF") then Sound SetLogic else faulty 6 w

abbrev pub logic_read : Tree → Read Command
logic_read (Leaf w) = elim (name_of w) [ None ↦ faulty 5 w | Some name ↦ logic_named w name ]
logic_read (Group opening items closing) = faulty 5 opening

-- when a command may come
pub data When : Type 0 where
  Always : When
  BehindLogic : When
  BeforeLogic : When

pub record Reader : Type 0 where
  pub moment : When
  -- from the parenthesis that closes the form, and the items after the head
  pub read : Word → List Tree → Read Command

abbrev pub alone : Command → Word → List Tree → Read Command
alone c closing items = read_map (λ _. c) (last items)

abbrev pub one : (Tree → Read Command) → Word → List Tree → Read Command
one read closing items = read_map (λ p. p.0) (item closing read last items)

abbrev pub readers : Limits → State → Env Reader
readers l s =
    (codes "set-logic", record { moment = BeforeLogic; read = one logic_read })
    ∷ (codes "set-option", record { moment = Always; read = option_read s })
    ∷ (codes "get-option", record { moment = Always; read = one (λ t. read_map (λ w. get_option (found options w.bytes)) (keyword_read t)) })
    ∷ (codes "set-info", record { moment = Always; read = λ closing items. read_map (λ _. SetInfo) (item closing keyword_read at_most_one items) })
    ∷ (codes "get-info", record { moment = Always; read = one (λ t. read_map (λ w. get_info (found infos w.bytes)) (keyword_read t)) })
    ∷ (codes "echo", record { moment = Always; read = one string_read })
    ∷ (
      codes "declare-const",
      record {
        moment = BehindLogic;
        read = λ closing items.
            read_map (λ p. Declare p.0 p.1.0) (item closing (fresh_read (is_taken s)) (item closing (sort_read (scope_of s).sorts) last) items);
      },
    )
    ∷ (
      codes "declare-fun",
      record {
        moment = BehindLogic;
        read = λ closing items.
            read_map (λ p. Declare p.0 p.1.1.0) (item closing (fresh_read (is_taken s)) (item closing none_read (item closing (sort_read (scope_of s).sorts) last)) items);
      },
    )
    ∷ (
      codes "define-sort",
      record {
        moment = BehindLogic;
        read = λ closing items.
            read_map (λ p. DefineSort p.0 p.1.1.0) (item closing (fresh_read (is_taken_sort s)) (item closing none_read (item closing (sort_read (scope_of s).sorts) last)) items);
      },
    )
    ∷ (
      codes "define-fun",
      record {
        moment = BehindLogic;
        read = λ closing items.
            read_map (λ p. Define p.0 p.1.0 p.1.1 p.1.2) (item closing (fresh_read (is_taken s)) (definition_of l s closing) items);
      },
    )
    ∷ (codes "assert", record { moment = BehindLogic; read = one (assertion_read l s) })
    ∷ (codes "check-sat", record { moment = BehindLogic; read = alone CheckSat })
    ∷ (codes "check-sat-assuming", record { moment = BehindLogic; read = one (λ t. read_map CheckSatAssuming (list_read true (assumption_asked s) t)) })
    ∷ (codes "get-unsat-core", record { moment = BehindLogic; read = alone GetUnsatCore })
    ∷ (codes "get-unsat-assumptions", record { moment = BehindLogic; read = alone GetUnsatAssumptions })
    ∷ (codes "get-model", record { moment = BehindLogic; read = alone GetModel })
    ∷ (codes "get-value", record { moment = BehindLogic; read = one (λ t. read_map GetValue (list_read false (asked_read l s) t)) })
    ∷ (codes "push", record { moment = BehindLogic; read = λ closing items. read_map Push (levels_read (λ n. not (nat_lt l.levels (level_of s + n))) closing items) })
    ∷ (codes "pop", record { moment = BehindLogic; read = λ closing items. read_map Pop (levels_read (λ n. not (nat_lt (level_of s) n)) closing items) })
    ∷ (codes "reset-assertions", record { moment = BehindLogic; read = alone ResetAssertions })
    ∷ (codes "reset", record { moment = Always; read = alone Reset })
    ∷ (codes "exit", record { moment = Always; read = alone Exit })
    ∷ []

-- code 7 at the head, whatever else is wrong
abbrev pub moment_faults : State → When → Word → List Fault
moment_faults s Always head = []
moment_faults s BehindLogic head = if s.logic then [] else word_fault 7 head ∷ []
moment_faults s BeforeLogic head = if s.logic then word_fault 7 head ∷ [] else []

abbrev pub read_by : State → Word → Word → List Tree → Option Reader → Read Command
read_by s head closing items None = faulty 4 head
read_by s head closing items (Some r) = unless (moment_faults s r.moment head) (r.read closing items)

abbrev pub by_head : Limits → State → TokenKind → Word → Word → List Tree → Read Command
by_head l s Symbol head closing items = read_by s head closing items (found (readers l s) head.bytes)
by_head l s Quoted head closing items = faulty 4 head
by_head l s _ head closing items = faulty 5 head

-- what a form says, or its faults but for those of code 15
unfoldable pub form_read : Limits → State → Tree → Read Command
form_read l s (Leaf w) = faulty 5 w
form_read l s (Group opening Empty closing) = faulty 5 closing
form_read l s (Group opening (First (Leaf head) rest) closing) = by_head l s head.kind head closing (items_of rest)
form_read l s (Group opening (First (Group o items c) rest) closing) = faulty 5 o

-- the nodes of terms, in order
unfoldable pub asked_made : List Node → List Asked → List Node
asked_made nodes [] = nodes
asked_made nodes (a ∷ rest) = asked_made (made [] nodes a.term).nodes rest

-- The nodes after a command. A macro with parameters makes none where it is defined.
unfoldable pub nodes_after : State → Command → List Node
nodes_after s (Declare name sort) = (interned s.nodes (constant_node (length s.constants) sort)).nodes
nodes_after s (Define name [] sort t) = (made [] s.nodes t).nodes
nodes_after s (Assert label t) = (made [] s.nodes t).nodes
nodes_after s (CheckSatAssuming asked) = asked_made s.nodes asked
nodes_after s (GetValue asked) = asked_made s.nodes asked
nodes_after s _ = s.nodes

unfoldable pub command_weight : Command → ℕ
command_weight (Define name parameters sort t) = weight t
command_weight (Assert label t) = weight t
command_weight (CheckSatAssuming asked) = sum_by (λ a. weight a.term) asked
command_weight (GetValue asked) = sum_by (λ a. weight a.term) asked
command_weight _ = 0

-- code 15 at the form's parenthesis
abbrev pub within : Limits → State → Word → Command → Read Command
within l s opening c =
    if nat_lt l.nodes (length (nodes_after s c)) then faulty 15 opening else
    (if nat_lt l.weight (command_weight c) then faulty 15 opening else Sound c)

-- what a form reads as after what was said before
unfoldable pub command_read : Limits → State → Tree → Read Command
command_read l s t = behind (form_read l s t) (within l s (front t))
