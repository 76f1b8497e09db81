-- The least fault is answered, and the faults of the parts of a term are at their tokens.
use Rattle.std.proofs.Common.{◌≡◌, ℕ, false, List, ◌∷◌, All, Contains, refl, ap, ◌∙◌, arith}
use Rattle.std.proofs.lemmas.Bool.Decides.{nat_tests}
use Rattle.std.proofs.lemmas.List.Elements.{All-contains}
use Rattle.ffc_term.specs.declared.node.Sort.{Sort}
use Rattle.ffc_smt.specs.Trees.{Trees, tokens_of_items}
use Rattle.ffc_smt.specs.Terms.{Parameter}
use Rattle.ffc_smt.specs.Meaning.{Env}
use Rattle.ffc_smt.specs.Scopes.{Scope}
use Rattle.ffc_smt.specs.Faults.{Fault, is_before, first_fault}
use Rattle.ffc_smt.specs.FaultLaws.{IsAtOneOf}
use Rattle.ffc_smt.specs.TermReading.{Wanted, own_faults, misfits, parameter_misfits, binding_faults, arguments_read, bindings_read}
use Rattle.ffc_smt.proofs.ConstantLemmas.{meant_constants_any}
use Rattle.ffc_smt.proofs.FaultLemmas.{first_among, first_is_first}
use Rattle.ffc_smt.proofs.PlaceLemmas.{each_from_items}
use Rattle.ffc_smt.proofs.WalkLemmas.{EachTokens, MayFail}
use Rattle.ffc_smt.proofs.TermWalk.{ArgumentsAre, BindingsAre, reads_arguments, reads_bindings, own_at, misfits_at, parameter_misfits_at, bindings_at}

same_line : (f g : Fault) → is_before f g ≡ false → is_before g f ≡ false → f.line ≡ g.line
same_line f g a b = grind (arith, nat_tests)

same_column : (f g : Fault) → is_before f g ≡ false → is_before g f ≡ false → f.column ≡ g.column
same_column f g a b = grind (arith, nat_tests)

same_code : (f g : Fault) → is_before f g ≡ false → is_before g f ≡ false → f.code ≡ g.code
same_code f g a b = grind (arith, nat_tests)

abbrev fault_of : ℕ → ℕ → ℕ → Fault
fault_of column code line = record { line = line; column = column; code = code }

same_parts : (f g : Fault) → f.line ≡ g.line → f.column ≡ g.column → f.code ≡ g.code → f ≡ g
same_parts f g a b c =
    ap (fault_of f.column f.code) a ∙ ap (λ k. fault_of k f.code g.line) b ∙ ap (λ k. fault_of g.column k g.line) c

neither_before : (f g : Fault) → is_before f g ≡ false → is_before g f ≡ false → f ≡ g
neither_before f g a b = same_parts f g (same_line f g a b) (same_column f g a b) (same_code f g a b)

pub least_is_first : (f : Fault) (fs : List Fault) (g : Fault) → Contains (f ∷ fs) g → All (λ h. is_before h g ≡ false) (f ∷ fs) → first_fault f fs ≡ g
least_is_first f fs g has h =
    let m = first_fault f fs in
    neither_before m g (All-contains (λ x. is_before x g ≡ false) (f ∷ fs) m h (first_among f fs))
    (All-contains (λ x. is_before x m ≡ false) (f ∷ fs) g (first_is_first f fs) has)

module _ (items : Trees) where
  abbrev At : Fault → Type 0
  At f = IsAtOneOf (tokens_of_items items) f

  marked : EachTokens (MayFail At) items
  marked = each_from_items (MayFail At) items (λ w has code. record { word = w; among = has; line = refl; column = refl })

  abbrev AnyConstant : ℕ → Sort → Type 0
  AnyConstant k s = Unit {0}

  arguments : (limit : ℕ) (scope : Scope) (locals : Env Sort) → ArgumentsAre At AnyConstant limit scope (λ name m e. meant_constants_any AnyConstant (λ k s. tt) m) items (arguments_read limit scope locals items)
  arguments limit scope locals = reads_arguments At AnyConstant limit scope (λ name m e. meant_constants_any AnyConstant (λ k s. tt) m) items locals marked

  bindings : (limit : ℕ) (scope : Scope) (locals : Env Sort) → BindingsAre At AnyConstant limit scope (λ name m e. meant_constants_any AnyConstant (λ k s. tt) m) items (bindings_read limit scope locals items)
  bindings limit scope locals = reads_bindings At AnyConstant limit scope (λ name m e. meant_constants_any AnyConstant (λ k s. tt) m) items locals marked

  pub own_faults_at : (limit : ℕ) (scope : Scope) (locals : Env Sort) → All At (own_faults (arguments_read limit scope locals items))
  own_faults_at limit scope locals = own_at At AnyConstant (arguments_read limit scope locals items) (arguments limit scope locals).0

  pub misfits_at_items : (limit : ℕ) (scope : Scope) (locals : Env Sort) (want : ℕ → Wanted) (i : ℕ) → All At (misfits want i (arguments_read limit scope locals items))
  misfits_at_items limit scope locals want i = misfits_at At AnyConstant want i (arguments_read limit scope locals items) (arguments limit scope locals).0

  pub parameter_misfits_at_items : (limit : ℕ) (scope : Scope) (locals : Env Sort) (ps : List Parameter) → All At (parameter_misfits ps (arguments_read limit scope locals items))
  parameter_misfits_at_items limit scope locals ps = parameter_misfits_at At AnyConstant ps (arguments_read limit scope locals items) (arguments limit scope locals).0

  pub binding_faults_at : (limit : ℕ) (scope : Scope) (locals : Env Sort) → All At (binding_faults (bindings_read limit scope locals items))
  binding_faults_at limit scope locals = bindings_at At AnyConstant (bindings_read limit scope locals items) (bindings limit scope locals).0
