-- Terms that a script can say: they are well-sorted, their constants are declared, and what their defined names mean
-- was made. SMT-LIB 2.6, section 5.2 (well-sorted terms), the core theory, and the theory of finite fields of cvc5.
use Rattle.std.specs.Prelude.{◌≡◌, List, [], ◌∷◌, ◌++◌, zip, Some, slice_get}
use Rattle.ffc_field.specs.Orders.{IsOrder}
use Rattle.ffc_term.specs.declared.node.Node.{Node}
use Rattle.ffc_term.specs.declared.node.Sort.{Sort}
use Rattle.ffc_term.specs.declared.node.Sort.TheVariants as sort
use Rattle.ffc_smt.specs.Terms.{Operator, Not, And, Or, Xor, Implies, Equal, Distinct, Ite, Add, Mul, Neg, Bitsum, Term, Truth, Number, Constant, Variable, Defined, Applied, Let, Called, Terms, NoTerm, AndTerm}
use Rattle.ffc_smt.specs.Meaning.{Env, found}
use Rattle.ffc_smt.specs.Bounds.{IsMade}

-- all are this sort
abbrev pub AreAll : Sort → List Sort → Type 0
AreAll s [] = Unit {0}
AreAll s (t ∷ ts) = (t ≡ s) × AreAll s ts

abbrev pub IsField : Sort → Type 0
IsField sort.Bool = ⊥
IsField (sort.Field p) = Unit {0}

-- the function takes arguments of these sorts, and makes one of this sort
abbrev pub Takes : Operator → List Sort → Sort → Type 0
Takes Not (a ∷ []) s = (a ≡ sort.Bool) × (s ≡ sort.Bool)
Takes And (a ∷ rest) s = AreAll sort.Bool (a ∷ rest) × (s ≡ sort.Bool)
Takes Or (a ∷ rest) s = AreAll sort.Bool (a ∷ rest) × (s ≡ sort.Bool)
Takes Xor (a ∷ b ∷ rest) s = AreAll sort.Bool (a ∷ b ∷ rest) × (s ≡ sort.Bool)
Takes Implies (a ∷ b ∷ rest) s = AreAll sort.Bool (a ∷ b ∷ rest) × (s ≡ sort.Bool)
Takes Equal (a ∷ b ∷ rest) s = AreAll a (b ∷ rest) × (s ≡ sort.Bool)
Takes Distinct (a ∷ b ∷ rest) s = AreAll a (b ∷ rest) × (s ≡ sort.Bool)
Takes Ite (c ∷ a ∷ b ∷ []) s = (c ≡ sort.Bool) × (b ≡ a) × (s ≡ a)
Takes Add (a ∷ b ∷ rest) s = IsField a × AreAll a (b ∷ rest) × (s ≡ a)
Takes Mul (a ∷ b ∷ rest) s = IsField a × AreAll a (b ∷ rest) × (s ≡ a)
Takes Neg (a ∷ []) s = IsField a × (s ≡ a)
Takes Bitsum (a ∷ rest) s = IsField a × AreAll a rest × (s ≡ a)
Takes _ _ _ = ⊥

abbrev mutual
  -- With constants of these sorts, after these nodes, and with variables of these sorts the term is of this one.
  pub IsSoundTerm : List Sort → List Node → Env Sort → Term → Sort → Type 0
  IsSoundTerm constants nodes locals (Truth b) s = s ≡ sort.Bool
  IsSoundTerm constants nodes locals (Number negative size p) s = (s ≡ sort.Field p) × IsOrder p
  IsSoundTerm constants nodes locals (Constant k t) s = (s ≡ t) × (slice_get constants k ≡ Some t)
  IsSoundTerm constants nodes locals (Variable name) s = found locals name ≡ Some s
  IsSoundTerm constants nodes locals (Defined t) s = IsSoundTerm constants nodes [] t s × IsMade nodes t
  IsSoundTerm constants nodes locals (Applied op ts) s = (sorts : List Sort) × AreSoundTerms constants nodes locals ts sorts × Takes op sorts s
  IsSoundTerm constants nodes locals (Let names ts t) s =
      (sorts : List Sort) × AreSoundTerms constants nodes locals ts sorts × IsSoundTerm constants nodes (zip names sorts ++ locals) t s
  IsSoundTerm constants nodes locals (Called names t ts) s =
      (sorts : List Sort) × AreSoundTerms constants nodes locals ts sorts × IsSoundTerm constants nodes (zip names sorts) t s

  pub AreSoundTerms : List Sort → List Node → Env Sort → Terms → List Sort → Type 0
  AreSoundTerms constants nodes locals NoTerm [] = Unit {0}
  AreSoundTerms constants nodes locals NoTerm (s ∷ ss) = ⊥
  AreSoundTerms constants nodes locals (AndTerm t ts) [] = ⊥
  AreSoundTerms constants nodes locals (AndTerm t ts) (s ∷ ss) = IsSoundTerm constants nodes locals t s × AreSoundTerms constants nodes locals ts ss
