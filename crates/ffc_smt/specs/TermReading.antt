-- What trees read as terms and sorts, and their faults: SMT-LIB 2.6, sections 3.5 (sorts) and 3.6 (terms).
use Rattle.std.specs.Prelude.{ℕ, ◌+◌, ◌==◌, nat_lt, Bool, true, false, ◌&&◌, List, [], ◌∷◌, ◌++◌, length, drop, map, zip, codes, if◌then◌else◌, Option, Some, None, unwrap_or}
use Rattle.std.specs.Str.{bytes_eq}
use Rattle.std.specs.List.{list_any, slice_get}
use Rattle.ffc_lex.specs.declared.tokens.TokenKind.{TokenKind}
use Rattle.ffc_lex.specs.declared.tokens.TokenKind.TheVariants.{Numeral, FieldLiteral}
use Rattle.ffc_lex.specs.Names.{is_theory_name}
use Rattle.ffc_term.specs.declared.node.Sort.{Sort}
use Rattle.ffc_term.specs.declared.node.Sort.TheVariants as sort
use Rattle.ffc_smt.specs.Trees.{Word, Tree, Leaf, Group, Trees, Empty, First, items_of, front, is_reserved, name_of}
use Rattle.ffc_smt.specs.Terms.{Name, Operator, Not, And, Or, Xor, Implies, Equal, Distinct, Ite, Add, Mul, Neg, Bitsum, Term, Truth, Number, Constant, Variable, Defined, Applied, Let, Called, Terms, NoTerm, AndTerm, height, Parameter}
use Rattle.ffc_smt.specs.Meaning.{Env, found}
use Rattle.ffc_smt.specs.Numbers.{number_of, is_order, Signed, is_small, constant_of, literal_number, literal_order}
use Rattle.ffc_smt.specs.Scopes.{Meant, AsConstant, AsTerm, AsMacro, Scope}
use Rattle.ffc_smt.specs.Faults.{Fault, word_fault, Read, Sound, Faulty, faults, faulty, unless, read_map, behind, no_more, last, item}

-- Sorts

abbrev pub is_numeral : TokenKind → Bool
is_numeral Numeral = true
is_numeral _ = false

-- a name, be it reserved or not: as a word, or between bars
abbrev pub is_named : List ℕ → Word → Bool
is_named name w = elim (name_of w) [ None ↦ false | Some n ↦ bytes_eq n name ]

abbrev pub is_word : List ℕ → Word → Bool
is_word bytes w = is_reserved w && bytes_eq w.bytes bytes

-- an item that has to be a word of some form
abbrev pub exactly : (Word → Bool) → Tree → Read (Unit {0})
exactly test (Leaf w) = if test w then Sound tt else faulty 5 w
exactly test (Group opening items closing) = faulty 5 opening

abbrev pub order_read : Tree → Read ℕ
order_read (Leaf w) =
    if is_numeral w.kind then (if is_order (number_of w.bytes) then Sound (number_of w.bytes) else faulty 11 w)
    else faulty 5 w
order_read (Group opening items closing) = faulty 5 opening

abbrev pub named_sort : Env Sort → Word → Name → Read Sort
named_sort sorts w name =
    if bytes_eq name (codes "Bool") then Sound sort.Bool
    else (elim (found sorts name) [ None ↦ faulty 8 w | Some s ↦ Sound s ])

-- `Bool`, the name of a sort, `(_ FiniteField N)`
unfoldable pub sort_read : Env Sort → Tree → Read Sort
sort_read sorts (Leaf w) = elim (name_of w) [ None ↦ faulty 5 w | Some name ↦ named_sort sorts w name ]
sort_read sorts (Group opening items closing) =
    read_map (λ parts. sort.Field parts.1.1.0)
    (item closing (exactly (is_word (codes "_"))) (item closing (exactly (is_named (codes "FiniteField"))) (item closing order_read last)) (items_of items))

-- Arguments of functions

-- a term with its sort
pub record Sorted : Type 0 where
  pub term : Term
  pub sort : Sort

pub record Argument : Type 0 where
  pub at : Word
  pub read : Read Sorted

-- the sort of a term, where it has no fault
abbrev pub sort_if_sound : Read Sorted → Option Sort
sort_if_sound (Sound t) = Some t.sort
sort_if_sound (Faulty f fs) = None

abbrev pub argument_sort : List Argument → ℕ → Option Sort
argument_sort arguments i = elim (slice_get arguments i) [ None ↦ None | Some a ↦ sort_if_sound a.read ]

-- which sort an argument may have
pub data Wanted : Type 0 where
  AnySort : Wanted
  AnyField : Wanted
  Only : Sort → Wanted

abbrev pub is_sort : Sort → Sort → Bool
is_sort sort.Bool sort.Bool = true
is_sort sort.Bool (sort.Field q) = false
is_sort (sort.Field p) sort.Bool = false
is_sort (sort.Field p) (sort.Field q) = p == q

abbrev pub is_field : Sort → Bool
is_field sort.Bool = false
is_field (sort.Field p) = true

abbrev pub is_wanted : Wanted → Sort → Bool
is_wanted AnySort s = true
is_wanted AnyField s = is_field s
is_wanted (Only t) s = is_sort t s

-- the sort of another argument, where that has one
abbrev pub same_as : Option Sort → Wanted
same_as None = AnySort
same_as (Some s) = Only s

-- how many arguments a function takes at least, and at most where that is bounded
abbrev pub least : Operator → ℕ
least Not = 1
least And = 1
least Or = 1
least Xor = 2
least Implies = 2
least Equal = 2
least Distinct = 2
least Ite = 3
least Add = 2
least Mul = 2
least Neg = 1
least Bitsum = 1

abbrev pub most : Operator → Option ℕ
most Not = Some 1
most Ite = Some 3
most Neg = Some 1
most _ = None

-- the sort that a function wants at a place, counted from 0, with those of its first and second argument
abbrev pub wanted : Operator → Option Sort → Option Sort → ℕ → Wanted
wanted Not first second i = Only sort.Bool
wanted And first second i = Only sort.Bool
wanted Or first second i = Only sort.Bool
wanted Xor first second i = Only sort.Bool
wanted Implies first second i = Only sort.Bool
wanted Equal first second i = if i == 0 then AnySort else same_as first
wanted Distinct first second i = if i == 0 then AnySort else same_as first
wanted Ite first second i = if i == 0 then Only sort.Bool else (if i == 1 then AnySort else same_as second)
wanted Add first second i = if i == 0 then AnyField else same_as first
wanted Mul first second i = if i == 0 then AnyField else same_as first
wanted Neg first second i = AnyField
wanted Bitsum first second i = if i == 0 then AnyField else same_as first

-- the sort of what it makes
abbrev pub result_sort : Operator → Option Sort → Option Sort → Sort
result_sort Ite first second = unwrap_or second sort.Bool
result_sort Add first second = unwrap_or first sort.Bool
result_sort Mul first second = unwrap_or first sort.Bool
result_sort Neg first second = unwrap_or first sort.Bool
result_sort Bitsum first second = unwrap_or first sort.Bool
result_sort _ first second = sort.Bool

-- code 10 where a term has a sort, and not one that is wanted
abbrev pub misfit : Wanted → Word → Read Sorted → List Fault
misfit w at (Sound t) = if is_wanted w t.sort then [] else word_fault 10 at ∷ []
misfit w at (Faulty f fs) = []

abbrev pub misfits : (ℕ → Wanted) → ℕ → List Argument → List Fault
misfits want i [] = []
misfits want i (a ∷ rest) = misfit (want i) a.at a.read ++ misfits want (i + 1) rest

abbrev pub own_faults : List Argument → List Fault
own_faults [] = []
own_faults (a ∷ rest) = faults a.read ++ own_faults rest

-- code 5 at the closing parenthesis where arguments are missing, and at the first that is too many
abbrev pub missing : ℕ → Word → List Argument → List Fault
missing n closing arguments = if nat_lt (length arguments) n then word_fault 5 closing ∷ [] else []

abbrev pub first_place : List Argument → List Fault
first_place [] = []
first_place (a ∷ rest) = word_fault 5 a.at ∷ []

abbrev pub surplus : Option ℕ → List Argument → List Fault
surplus None arguments = []
surplus (Some n) arguments = first_place (drop n arguments)

abbrev pub add_sound : Read Sorted → Terms → Terms
add_sound (Sound t) ts = AndTerm t.term ts
add_sound (Faulty f fs) ts = ts

abbrev pub terms_of : List Argument → Terms
terms_of [] = NoTerm
terms_of (a ∷ rest) = add_sound a.read (terms_of rest)

-- Names

abbrev pub operators : Env Operator
operators =
    (codes "not", Not) ∷ (codes "and", And) ∷ (codes "or", Or) ∷ (codes "xor", Xor) ∷ (codes "=>", Implies) ∷ (codes "=", Equal)
    ∷ (codes "distinct", Distinct) ∷ (codes "ite", Ite) ∷ (codes "ff.add", Add) ∷ (codes "ff.mul", Mul) ∷ (codes "ff.neg", Neg)
    ∷ (codes "ff.bitsum", Bitsum) ∷ []

-- what is at the head of an application
pub data Head : Type 0 where
  LetHead : Head
  AsHead : Head
  Function : Operator → Head
  Macro : List Parameter → Sort → Term → Head
  -- nothing that is allowed there: the code
  NoHead : ℕ → Head

-- a constant, a definition without parameters, a variable can't
abbrev pub head_meant : Option Meant → Head
head_meant None = NoHead 8
head_meant (Some (AsConstant k s)) = NoHead 5
head_meant (Some (AsTerm s t)) = NoHead 5
head_meant (Some (AsMacro parameters s t)) = Macro parameters s t

abbrev pub head_named : Scope → Env Sort → Name → Head
head_named scope locals name =
    elim (found operators name) [
      | Some op ↦ Function op
      | None ↦ if is_theory_name name then NoHead 5 else
          (elim (found locals name) [ Some s ↦ NoHead 5 | None ↦ head_meant (found scope.names name) ])
    ]

abbrev pub head_of : Scope → Env Sort → Word → Head
head_of scope locals w =
    if is_word (codes "let") w then LetHead else
    (if is_word (codes "as") w then AsHead else
    (elim (name_of w) [ None ↦ NoHead 5 | Some name ↦ head_named scope locals name ]))

-- a theory function, a macro with parameters is not allowed without arguments
abbrev pub term_meant : Word → Option Meant → Read Sorted
term_meant w None = faulty 8 w
term_meant w (Some (AsConstant k s)) = Sound (record { term = Constant k s; sort = s })
term_meant w (Some (AsTerm s t)) = Sound (record { term = Defined t; sort = s })
term_meant w (Some (AsMacro parameters s t)) = faulty 5 w

abbrev pub term_named : Scope → Env Sort → Word → Name → Read Sorted
term_named scope locals w name =
    if bytes_eq name (codes "true") then Sound (record { term = Truth true; sort = sort.Bool }) else
    (if bytes_eq name (codes "false") then Sound (record { term = Truth false; sort = sort.Bool }) else
    (if is_theory_name name then faulty 5 w else
    (elim (found locals name) [
      | Some s ↦ Sound (record { term = Variable name; sort = s })
      | None ↦ term_meant w (found scope.names name)
    ])))

-- Constants of fields

abbrev pub number_term : Signed → ℕ → Sorted
number_term n p = record { term = Number n.negative n.size p; sort = sort.Field p }

abbrev pub number_read : Word → Option Signed → Read Signed
number_read w None = faulty 13 w
number_read w (Some n) = if is_small n then Sound n else faulty 13 w

-- `#fNmP`
abbrev pub literal_read : Word → Read Sorted
literal_read w =
    unless (if is_order (literal_order w.bytes) then [] else word_fault 11 w ∷ [])
    (read_map (λ n. number_term n (literal_order w.bytes)) (number_read w (literal_number w.bytes)))

-- the W of `(as W S)`
abbrev pub constant_read : Tree → Read Signed
constant_read (Leaf w) = elim (name_of w) [ None ↦ faulty 5 w | Some name ↦ number_read w (constant_of name) ]
constant_read (Group opening items closing) = faulty 5 opening

abbrev pub order_of_sort : Word → Sort → Read ℕ
order_of_sort w sort.Bool = faulty 10 w
order_of_sort w (sort.Field p) = Sound p

-- the order of a field sort, and code 10 at another sort
abbrev pub field_read : Env Sort → Tree → Read ℕ
field_read sorts t = behind (sort_read sorts t) (order_of_sort (front t))

-- after `(as`
abbrev pub as_read : Scope → Word → List Tree → Read Sorted
as_read scope closing items =
    read_map (λ parts. number_term parts.0 parts.1.0) (item closing constant_read (item closing (field_read scope.sorts) last) items)

abbrev pub leaf_by_kind : Scope → Env Sort → TokenKind → Word → Read Sorted
leaf_by_kind scope locals FieldLiteral w = literal_read w
leaf_by_kind scope locals _ w = elim (name_of w) [ None ↦ faulty 5 w | Some name ↦ term_named scope locals w name ]

-- Variables and parameters

-- a name and where it is
pub record Named : Type 0 where
  pub at : Word
  pub name : Name

abbrev pub free_name : Word → Name → Read Named
free_name w name = if is_theory_name name then faulty 9 w else Sound (record { at = w; name = name })

-- a variable may have any name but a theory's
abbrev pub variable_read : Tree → Read Named
variable_read (Leaf w) = elim (name_of w) [ None ↦ faulty 5 w | Some name ↦ free_name w name ]
variable_read (Group opening items closing) = faulty 5 opening

abbrev pub is_among : Name → List Named → Bool
is_among name ns = list_any (λ n. bytes_eq n.name name) ns

-- code 9 at a name that is in the list before
abbrev pub twice : List Named → List Named → List Fault
twice before [] = []
twice before (n ∷ ns) = (if is_among n.name before then word_fault 9 n.at ∷ [] else []) ++ twice (n ∷ before) ns

-- a variable and its term
pub record Binding : Type 0 where
  pub variable : Read Named
  pub value : Read Sorted

abbrev pub add_named : Read Named → List Named → List Named
add_named (Sound n) ns = n ∷ ns
add_named (Faulty f fs) ns = ns

abbrev pub variables : List Binding → List Named
variables [] = []
variables (b ∷ bs) = add_named b.variable (variables bs)

abbrev pub binding_faults : List Binding → List Fault
binding_faults [] = []
binding_faults (b ∷ bs) = faults b.variable ++ faults b.value ++ binding_faults bs

abbrev pub values : List Binding → List Sorted
values [] = []
values (b ∷ bs) = elim b.value [ Sound t ↦ t ∷ values bs | Faulty f fs ↦ values bs ]

-- the variables with their terms, one or more
pub record Bound : Type 0 where
  pub names : List Name
  pub terms : List Sorted

abbrev pub some_binding : Word → List Binding → List Fault
some_binding closing [] = word_fault 5 closing ∷ []
some_binding closing (b ∷ bs) = []

abbrev pub bound_read : Word → List Binding → Read Bound
bound_read closing bs =
    unless (some_binding closing bs ++ binding_faults bs ++ twice [] (variables bs))
    (Sound (record { names = map (λ n. n.name) (variables bs); terms = values bs }))

abbrev pub locals_of : Bound → Env Sort
locals_of b = zip b.names (map (λ t. t.sort) b.terms)

abbrev pub terms_of_bound : List Sorted → Terms
terms_of_bound [] = NoTerm
terms_of_bound (t ∷ ts) = AndTerm t.term (terms_of_bound ts)

abbrev pub let_term : Bound → Sorted → Sorted
let_term b body = record { term = Let b.names (terms_of_bound b.terms) body.term; sort = body.sort }

-- Applications

-- code 14 at a term that is too high, which then has no sort
abbrev pub of_height : ℕ → Word → Sorted → Read Sorted
of_height limit opening t = if nat_lt limit (height t.term) then faulty 14 opening else Sound t

abbrev pub function_read : Operator → Word → List Argument → Read Sorted
function_read op closing arguments =
    let first = argument_sort arguments 0 in
    let second = argument_sort arguments 1 in
    unless (own_faults arguments ++ misfits (wanted op first second) 0 arguments ++ missing (least op) closing arguments ++ surplus (most op) arguments)
    (Sound (record { term = Applied op (terms_of arguments); sort = result_sort op first second }))

-- each argument has the sort of its parameter
abbrev pub parameter_misfits : List Parameter → List Argument → List Fault
parameter_misfits [] arguments = []
parameter_misfits (p ∷ ps) [] = []
parameter_misfits (p ∷ ps) (a ∷ rest) = misfit (Only p.sort) a.at a.read ++ parameter_misfits ps rest

abbrev pub macro_read : List Parameter → Sort → Term → Word → List Argument → Read Sorted
macro_read parameters s body closing arguments =
    unless
    (own_faults arguments ++ parameter_misfits parameters arguments ++ missing (length parameters) closing arguments
    ++ surplus (Some (length parameters)) arguments)
    (Sound (record { term = Called (map (λ p. p.name) parameters) body (terms_of arguments); sort = s }))

module _ (limit : ℕ) (scope : Scope) where
  unfoldable mutual
    -- what a tree reads as, where these variables are in scope
    pub term_read : Env Sort → Tree → Read Sorted
    term_read locals (Leaf w) = leaf_by_kind scope locals w.kind w
    term_read locals (Group opening Empty closing) = faulty 5 closing
    term_read locals (Group opening (First (Group o items c) rest) closing) = faulty 5 o
    term_read locals (Group opening (First (Leaf w) rest) closing) =
        elim (head_of scope locals w) [
          | LetHead ↦ behind (let_read locals closing rest) (of_height limit opening)
          | AsHead ↦ as_read scope closing (items_of rest)
          | Function op ↦ behind (function_read op closing (arguments_read locals rest)) (of_height limit opening)
          | Macro parameters s body ↦ behind (macro_read parameters s body closing (arguments_read locals rest)) (of_height limit opening)
          | NoHead code ↦ faulty code w
        ]

    pub arguments_read : Env Sort → Trees → List Argument
    arguments_read locals Empty = []
    arguments_read locals (First t ts) = record { at = front t; read = term_read locals t } ∷ arguments_read locals ts

    -- After `(let`. The terms are read outside, and the body with all variables. It has no sort where one of them has none.
    pub let_read : Env Sort → Word → Trees → Read Sorted
    let_read locals closing Empty = faulty 5 closing
    let_read locals closing (First (Leaf w) rest) = faulty 5 w
    let_read locals closing (First (Group o bindings c) Empty) = unless (faults (bound_read c (bindings_read locals bindings))) (faulty 5 closing)
    let_read locals closing (First (Group o bindings c) (First body rest)) =
        behind (bound_read c (bindings_read locals bindings))
        (λ b. read_map (let_term b) (unless (no_more (items_of rest)) (term_read (locals_of b ++ locals) body)))

    pub bindings_read : Env Sort → Trees → List Binding
    bindings_read locals Empty = []
    bindings_read locals (First t ts) = binding_read locals t ∷ bindings_read locals ts

    pub binding_read : Env Sort → Tree → Binding
    binding_read locals (Leaf w) = record { variable = faulty 5 w; value = faulty 5 w }
    binding_read locals (Group o Empty c) = record { variable = faulty 5 c; value = faulty 5 c }
    binding_read locals (Group o (First x Empty) c) = record { variable = variable_read x; value = faulty 5 c }
    binding_read locals (Group o (First x (First t rest)) c) = record { variable = variable_read x; value = unless (no_more (items_of rest)) (term_read locals t) }
