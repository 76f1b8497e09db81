-- What code is to a term: its operations make the term's node, its arguments' nodes first.
use Rattle.std.specs.Prelude.{◌≡◌, ℕ, ◌+◌, ◌-◌, ◌^◌, ◌<◌, min, List, [], ◌∷◌, ◌++◌, length, map, if◌then◌else◌, Option, Some, None}
use Rattle.std.specs.Str.{bytes_eq}
use Rattle.ffc_term.specs.declared.node.Node.{Node}
use Rattle.ffc_term.specs.declared.node.Sort.{Sort}
use Rattle.ffc_parts.specs.declared.operators.Operator.{Operator}
use Rattle.ffc_parts.specs.Operators.{operator_of}
use Rattle.ffc_terms.specs.declared.codes.Op.{Op}
use Rattle.ffc_terms.specs.declared.codes.Op.TheVariants as op
use Rattle.ffc_terms.specs.declared.scope.Macro.{Macro}
use Rattle.ffc_terms.specs.declared.scope.Meaning.{Meaning}
use Rattle.ffc_terms.specs.declared.scope.Meaning.TheVariants as meaning
use Rattle.ffc_terms.specs.declared.scope.Symbols.{Symbols}
use Rattle.ffc_terms.specs.Slots.{at_slot}
use Rattle.ffc_smt.specs.Meaning.{Env, residue_of_number}
use Rattle.ffc_smt.specs.Making.{made}
use Rattle.ffc_smt.specs.Scopes.{Meant, AsConstant, AsTerm, AsMacro, Scope}
use Rattle.ffc_smt.specs.Terms.{Name, Term, Truth, Number, Constant, Variable, Defined, Applied, Let, Called, Terms, NoTerm, AndTerm, Parameter, height, weight}

-- these nodes begin with those that were there when the term was made, and this is its node
pub record IsKnown (nodes : List Node) (t : Term) (id : ℕ) : Type 0 where
  pub before : List Node
  pub more : List Node
  pub made_then : nodes ≡ (made [] before t).nodes ++ more
  pub node : id ≡ (made [] before t).id

-- the place of a local variable
abbrev pub place_of : List Name → Name → Option ℕ
place_of [] name = None
place_of (n ∷ ns) name = if bytes_eq n name then Some (length ns) else place_of ns name

abbrev mutual
  -- The operations of a term in a table of these nodes, where these names are in scope and these local variables.
  pub IsCode : List Node → Env Meaning → List Name → Term → List Op → Type 0
  IsCode nodes symbols locals (Truth b) ops = ops ≡ op.Truth b ∷ []
  IsCode nodes symbols locals (Number negative size p) ops = (n : ℕ) × (ops ≡ op.Number n p ∷ []) × (0 < p → n ≡ residue_of_number negative size p)
  IsCode nodes symbols locals (Constant k s) ops = (id : ℕ) × (ops ≡ op.Known id ∷ []) × IsKnown nodes (Constant k s) id
  IsCode nodes symbols locals (Variable name) ops = (slot : ℕ) × (ops ≡ op.Local slot ∷ []) × (place_of locals name ≡ Some slot)
  IsCode nodes symbols locals (Defined t) ops = (id : ℕ) × (ops ≡ op.Known id ∷ []) × IsKnown nodes t id
  IsCode nodes symbols locals (Applied f ts) ops =
      (parts : List Op) × (n : ℕ) × (o : Operator) × AreCodes nodes symbols locals ts n parts × (operator_of o ≡ f) × (ops ≡ parts ++ op.Apply o n ∷ [])
  IsCode nodes symbols locals (Let names ts t) ops =
      (parts : List Op) × (body : List Op) × AreCodes nodes symbols locals ts (length names) parts × IsCode nodes symbols (names ++ locals) t body
      × (ops ≡ parts ++ op.Bind (length names) ∷ (body ++ op.Unbind (length names) ∷ []))
  IsCode nodes symbols locals (Called names t ts) ops =
      (parts : List Op) × (place : ℕ) × (m : Macro) × AreCodes nodes symbols locals ts (length names) parts
      × (at_slot (map (λ x. x.1) symbols) place ≡ Some (meaning.Macro m)) × IsCode nodes symbols names t m.code.items
      × (ops ≡ parts ++ op.Call place (length names) ∷ [])

  -- those of so many terms, one after another
  pub AreCodes : List Node → Env Meaning → List Name → Terms → ℕ → List Op → Type 0
  AreCodes nodes symbols locals NoTerm n ops = (n ≡ 0) × (ops ≡ [])
  AreCodes nodes symbols locals (AndTerm t ts) n ops =
      (first : List Op) × (rest : List Op) × (others : ℕ) × IsCode nodes symbols locals t first × AreCodes nodes symbols locals ts others rest
      × (n ≡ others + 1) × (ops ≡ first ++ rest)

-- a weight, or the greatest of 32 bits where it is greater
abbrev pub capped_weight : ℕ → ℕ
capped_weight n = min n (2 ^ 32 - 1)

-- a macro of these parameters, of a body of this sort, where these names came before it
pub record IsMacro (nodes : List Node) (earlier : Env Meaning) (m : Macro) (parameters : List Parameter) (s : Sort) (body : Term) : Type 0 where
  pub parameters_are : m.parameters.items ≡ map (λ p. p.sort) parameters
  pub sort_is : m.sort ≡ s
  pub code : IsCode nodes earlier (map (λ p. p.name) parameters) body m.code.items
  pub height_is : m.height ≡ height body
  pub weight_is : m.weight ≡ capped_weight (weight body)

-- what a name means, as it is kept
abbrev pub IsMeaning : List Node → Env Meaning → Meaning → Meant → Type 0
IsMeaning nodes earlier (meaning.Constant number sort id) (AsConstant k s) = (number ≡ k) × (sort ≡ s) × IsKnown nodes (Constant k s) id
IsMeaning nodes earlier (meaning.Defined sort id) (AsTerm s t) = (sort ≡ s) × IsKnown nodes t id
IsMeaning nodes earlier (meaning.Macro m) (AsMacro parameters s t) = IsMacro nodes earlier m parameters s t
IsMeaning nodes earlier _ _ = ⊥

-- the names in scope with what they mean, the last ones first
abbrev pub AreMeanings : List Node → Env Meaning → Env Meant → Type 0
AreMeanings nodes [] [] = Unit {0}
AreMeanings nodes [] (y ∷ ys) = ⊥
AreMeanings nodes (x ∷ xs) [] = ⊥
AreMeanings nodes (x ∷ xs) (y ∷ ys) = (x.0 ≡ y.0) × IsMeaning nodes xs x.1 y.1 × AreMeanings nodes xs ys

-- the names are those of this scope, with what they mean in a table of these nodes
pub record IsScope (nodes : List Node) (symbols : Symbols) (scope : Scope) : Type 0 where
  pub terms : AreMeanings nodes symbols.terms scope.names
  pub sorts : symbols.sorts ≡ scope.sorts
