-- Terms of one word, and heads of terms, by what the names in scope are kept as.
use Rattle.std.specs.Prelude.{ℕ, Bool, true, false, codes, if◌then◌else◌, is_some, Option, Some, None, Result, Ok, Err}
use Rattle.std.specs.Str.{bytes_eq}
use Rattle.ffc_lex.specs.declared.tokens.TokenKind.{TokenKind}
use Rattle.ffc_lex.specs.declared.tokens.TokenKind.TheVariants as kinds
use Rattle.ffc_lex.specs.Names.{is_theory_name}
use Rattle.ffc_term.specs.declared.node.Sort.{Sort}
use Rattle.ffc_term.specs.declared.node.Sort.TheVariants as sort
use Rattle.ffc_parts.specs.declared.operators.Operator.{Operator}
use Rattle.ffc_parts.specs.declared.operators.Operator.TheVariants as function
use Rattle.ffc_parts.specs.declared.numbers.Signed.{Signed}
use Rattle.ffc_smt.specs.Trees.{Word, name_of}
use Rattle.ffc_smt.specs.Terms.{Name}
use Rattle.ffc_smt.specs.Terms as term
use Rattle.ffc_smt.specs.Meaning.{Env, found, residue_of_number}
use Rattle.ffc_smt.specs.Numbers as numbers
use Rattle.ffc_smt.specs.Faults.{Fault, word_fault}
use Rattle.ffc_smt.specs.TermReading.{is_word, operators}
use Rattle.ffc_terms.specs.declared.callees.Callee.TheVariants as callee
use Rattle.ffc_terms.specs.declared.codes.Op.TheVariants as op
use Rattle.ffc_terms.specs.declared.leaves.Leaf.{Leaf}
use Rattle.ffc_terms.specs.declared.leaves.Head.{Head}
use Rattle.ffc_terms.specs.declared.leaves.Head.TheVariants as heads
use Rattle.ffc_terms.specs.declared.scope.Meaning.{Meaning}
use Rattle.ffc_terms.specs.declared.scope.Meaning.TheVariants as meaning
use Rattle.ffc_terms.specs.declared.scope.Symbols.{Symbols}
use Rattle.ffc_terms.specs.Slots.{slot_of}

abbrev pub fault : {A : Type 0} → ℕ → Word → Result A Fault
fault code w = Err (word_fault code w)

-- Constants of fields

-- a number that can be written
abbrev pub small : Option numbers.Signed → Option numbers.Signed
small None = None
small (Some n) = if numbers.is_small n then Some n else None

abbrev pub number_leaf : Word → ℕ → Option numbers.Signed → Result Leaf Fault
number_leaf w p None = fault 13 w
number_leaf w p (Some n) = Ok (record { op = op.Number (residue_of_number n.negative n.size p) p; sort = sort.Field p })

abbrev pub literal : Word → Result Leaf Fault
literal w =
    if numbers.is_order (numbers.literal_order w.bytes) then number_leaf w (numbers.literal_order w.bytes) (small (numbers.literal_number w.bytes))
    else fault 11 w

abbrev pub kept : Word → Option numbers.Signed → Result Signed Fault
kept w None = fault 13 w
kept w (Some n) = Ok (record { negative = n.negative; size = n.size })

abbrev pub constant_named : Word → Option Name → Result Signed Fault
constant_named w None = fault 5 w
constant_named w (Some name) = kept w (small (numbers.constant_of name))

unfoldable pub constant : Word → Result Signed Fault
constant w = constant_named w (name_of w)

-- Names

abbrev pub meant : Word → Option Meaning → Result Leaf Fault
meant w None = fault 8 w
meant w (Some (meaning.Constant number s id)) = Ok (record { op = op.Known id; sort = s })
meant w (Some (meaning.Defined s id)) = Ok (record { op = op.Known id; sort = s })
meant w (Some (meaning.Macro m)) = fault 5 w

abbrev pub global : Symbols → Word → Name → Result Leaf Fault
global symbols w name = meant w (found symbols.terms name)

abbrev pub local : Result Leaf Fault → Option ℕ → Option Sort → Result Leaf Fault
local otherwise (Some slot) (Some s) = Ok (record { op = op.Local slot; sort = s })
local otherwise _ _ = otherwise

abbrev pub by_name : Symbols → Env Sort → Word → Option Name → Result Leaf Fault
by_name symbols locals w None = fault 5 w
by_name symbols locals w (Some name) =
    if bytes_eq name (codes "true") then Ok (record { op = op.Truth true; sort = sort.Bool }) else
    (if bytes_eq name (codes "false") then Ok (record { op = op.Truth false; sort = sort.Bool }) else
    (if is_theory_name name then fault 5 w else
    local (global symbols w name) (slot_of locals name) (found locals name)))

abbrev pub named : Symbols → Env Sort → Word → Result Leaf Fault
named symbols locals w = by_name symbols locals w (name_of w)

abbrev pub is_literal : TokenKind → Bool
is_literal kinds.FieldLiteral = true
is_literal _ = false

unfoldable pub leaf : Symbols → Env Sort → Word → Result Leaf Fault
leaf symbols locals w = if is_literal w.kind then literal w else named symbols locals w

-- Heads

abbrev pub head_meant : Word → Option ℕ → Option Meaning → Result Head Fault
head_meant w (Some place) (Some (meaning.Macro m)) = Ok (heads.Callee (callee.Macro place))
head_meant w (Some place) (Some (meaning.Constant number s id)) = fault 5 w
head_meant w (Some place) (Some (meaning.Defined s id)) = fault 5 w
head_meant w _ _ = fault 8 w

abbrev pub global_head : Symbols → Word → Name → Result Head Fault
global_head symbols w name = head_meant w (slot_of symbols.terms name) (found symbols.terms name)

-- the function as it is kept
abbrev pub kept_function : term.Operator → Operator
kept_function term.Not = function.Not
kept_function term.And = function.And
kept_function term.Or = function.Or
kept_function term.Xor = function.Xor
kept_function term.Implies = function.Implies
kept_function term.Equal = function.Equal
kept_function term.Distinct = function.Distinct
kept_function term.Ite = function.Ite
kept_function term.Add = function.Add
kept_function term.Mul = function.Mul
kept_function term.Neg = function.Neg
kept_function term.Bitsum = function.Bitsum

abbrev pub function_head : Result Head Fault → Option term.Operator → Result Head Fault
function_head otherwise (Some f) = Ok (heads.Callee (callee.Function (kept_function f)))
function_head otherwise None = otherwise

abbrev pub named_head : Symbols → Env Sort → Word → Name → Result Head Fault
named_head symbols locals w name =
    function_head
    (if is_theory_name name then fault 5 w else (if is_some (slot_of locals name) then fault 5 w else global_head symbols w name))
    (found operators name)

abbrev pub head_by_name : Symbols → Env Sort → Word → Option Name → Result Head Fault
head_by_name symbols locals w None = fault 5 w
head_by_name symbols locals w (Some name) = named_head symbols locals w name

unfoldable pub head : Symbols → Env Sort → Word → Result Head Fault
head symbols locals w =
    if is_word (codes "let") w then Ok heads.Let else
    (if is_word (codes "as") w then Ok heads.As else
    head_by_name symbols locals w (name_of w))
