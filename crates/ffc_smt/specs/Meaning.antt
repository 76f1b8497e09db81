-- The value of a term: SMT-LIB 2.6, section 5.3 (well-sorted terms have values) and 3.7 (the core theory), and the theory
-- of finite fields of cvc5; `ff.bitsum` is this project's own.
--
-- A value is a truth value or an element of a field, which is the field's order and a residue. The values of variables
-- are in an environment. An assignment gives the declared constant of each number a value.
use Rattle.std.specs.Prelude.{ℕ, ◌%◌, ◌==◌, Bool, true, false, not, ◌&&◌, ◌||◌, List, [], ◌∷◌, ◌++◌, sum_by, zip, if◌then◌else◌, Option, Some, None, unwrap_or}
use Rattle.std.specs.List.{list_all, list_any}
use Rattle.std.specs.Str.{bytes_eq}
use Rattle.ffc_field.specs.Modular.{neg_mod}
use Rattle.ffc_term.specs.declared.node.Sort.{Sort}
use Rattle.ffc_term.specs.declared.node.Sort.TheVariants as sort
use Rattle.ffc_term.specs.declared.value.Value.{Value}
use Rattle.ffc_term.specs.declared.value.Value.TheVariants as value
use Rattle.ffc_term.specs.Values.{truth_in, constant_residue, product_by, bit_sum_from, is_same_truth}
use Rattle.ffc_smt.specs.Terms.{Name, Operator, Not, And, Or, Xor, Implies, Equal, Distinct, Ite, Add, Mul, Neg, Bitsum, Term, Truth, Number, Constant, Variable, Defined, Applied, Let, Called, Terms, NoTerm, AndTerm}

-- what names mean, the innermost first
abbrev pub Env : Type 0 → Type 0
Env A = List (Name × A)

abbrev pub found : {A : Type 0} → Env A → Name → Option A
found [] name = None
found (b ∷ bs) name = if bytes_eq b.0 name then Some b.1 else found bs name

pub data Element : Type 0 where
  TruthValue : Bool → Element
  -- of the field of this order, the residue
  FieldValue : ℕ → ℕ → Element

abbrev pub truth : Element → Bool
truth (TruthValue b) = b
truth (FieldValue p n) = false

abbrev pub residue : Element → ℕ
residue (TruthValue b) = 0
residue (FieldValue p n) = n

abbrev pub order : Element → ℕ
order (TruthValue b) = 0
order (FieldValue p n) = p

abbrev pub sort_of : Element → Sort
sort_of (TruthValue b) = sort.Bool
sort_of (FieldValue p n) = sort.Field p

-- an element without the order of its field
abbrev pub value_of : Element → Value
value_of (TruthValue b) = value.Bool b
value_of (FieldValue p n) = value.Field n

-- The value of the constant of this number and sort: its entry in the assignment. It is false, or 0, where the assignment
-- has no entry of that sort.
abbrev pub constant_value : List Value → ℕ → Sort → Element
constant_value assignment k sort.Bool = TruthValue (truth_in assignment k)
constant_value assignment k (sort.Field p) = FieldValue p (constant_residue assignment k p)

-- the residue of a number, which may be negative
abbrev pub residue_of_number : Bool → ℕ → ℕ → ℕ
residue_of_number negative size p = if negative then neg_mod p (size % p) else size % p

abbrev pub is_equal : Element → Element → Bool
is_equal (TruthValue a) (TruthValue b) = is_same_truth a b
is_equal (TruthValue a) (FieldValue q n) = false
is_equal (FieldValue p m) (TruthValue b) = false
is_equal (FieldValue p m) (FieldValue q n) = p == q && m == n

-- each one equals the next
abbrev pub are_neighbours_equal : List Element → Bool
are_neighbours_equal [] = true
are_neighbours_equal (x ∷ []) = true
are_neighbours_equal (x ∷ y ∷ rest) = is_equal x y && are_neighbours_equal (y ∷ rest)

-- no two are equal
abbrev pub are_distinct : List Element → Bool
are_distinct [] = true
are_distinct (x ∷ rest) = list_all (λ y. not (is_equal x y)) rest && are_distinct rest

abbrev pub exclusive_or : Bool → Bool → Bool
exclusive_or a b = not (is_same_truth a b)

-- `xor` associates to the left
abbrev pub xor_left : Bool → List Element → Bool
xor_left a [] = a
xor_left a (y ∷ rest) = xor_left (exclusive_or a (truth y)) rest

-- `=>` associates to the right
abbrev pub implied : Element → List Element → Bool
implied x [] = truth x
implied x (y ∷ rest) = not (truth x) || implied y rest

-- What a function makes of its arguments. It is false where it does not take so many, which no term that is read has.
abbrev pub applied : Operator → List Element → Element
applied Not (x ∷ []) = TruthValue (not (truth x))
applied And (x ∷ xs) = TruthValue (list_all truth (x ∷ xs))
applied Or (x ∷ xs) = TruthValue (list_any truth (x ∷ xs))
applied Xor (x ∷ y ∷ rest) = TruthValue (xor_left (truth x) (y ∷ rest))
applied Implies (x ∷ y ∷ rest) = TruthValue (implied x (y ∷ rest))
applied Equal (x ∷ y ∷ rest) = TruthValue (are_neighbours_equal (x ∷ y ∷ rest))
applied Distinct (x ∷ y ∷ rest) = TruthValue (are_distinct (x ∷ y ∷ rest))
applied Ite (c ∷ a ∷ b ∷ []) = if truth c then a else b
applied Add (x ∷ xs) = FieldValue (order x) (sum_by residue (x ∷ xs) % order x)
applied Mul (x ∷ xs) = FieldValue (order x) (product_by residue (x ∷ xs) % order x)
applied Neg (x ∷ []) = FieldValue (order x) (neg_mod (order x) (residue x))
applied Bitsum (x ∷ xs) = FieldValue (order x) (bit_sum_from 0 residue (x ∷ xs) % order x)
applied _ _ = TruthValue false

unfoldable mutual
  -- The value of a term in an environment, under an assignment. A `let` binds at once what its terms are outside, and a
  -- macro's body has its parameters alone.
  pub val : Env Element → List Value → Term → Element
  val env assignment (Truth b) = TruthValue b
  val env assignment (Number negative size p) = FieldValue p (residue_of_number negative size p)
  val env assignment (Constant k s) = constant_value assignment k s
  val env assignment (Variable name) = unwrap_or (found env name) (TruthValue false)
  val env assignment (Defined t) = val [] assignment t
  val env assignment (Applied op ts) = applied op (vals env assignment ts)
  val env assignment (Let names ts t) = val (zip names (vals env assignment ts) ++ env) assignment t
  val env assignment (Called names t ts) = val (zip names (vals env assignment ts)) assignment t

  pub vals : Env Element → List Value → Terms → List Element
  vals env assignment NoTerm = []
  vals env assignment (AndTerm t ts) = val env assignment t ∷ vals env assignment ts
