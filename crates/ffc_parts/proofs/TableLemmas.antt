-- Tables of names.
use Rattle.std.proofs.Common.{◌≡◌, Bool, true, false, [], ◌∷◌, map, if◌then◌else◌, Some, option_map, refl}
use Rattle.std.specs.Prelude.{codes}
use Rattle.std.specs.Str.{bytes_eq}
use Rattle.ffc_smt.specs.Terms.{Name}
use Rattle.ffc_smt.specs.Meaning.{Env, found}
use Rattle.ffc_parts.specs.declared.operators.Operator.{Operator}
use Rattle.ffc_parts.specs.declared.operators.Operator.TheVariants as code

-- what is found of entries that were turned one by one is what was found, turned
pub found_of_map : {A B : Type 0} (f : A → B) (xs : Env A) (name : Name) → option_map f (found xs name) ≡ found (map (λ e. (e.0, f e.1)) xs) name
found_of_map f [] name = refl
found_of_map {A} {B} f (x ∷ xs) name = by_test (bytes_eq x.0 name) (found_of_map f xs name)
  where
    by_test : (b : Bool) → option_map f (found xs name) ≡ found (map (λ e. (e.0, f e.1)) xs) name
        → option_map f (if b then Some x.1 else found xs name) ≡ (if b then Some (f x.1) else found (map (λ e. (e.0, f e.1)) xs) name)
    by_test true later = refl
    by_test false later = later

-- the functions by name, as the code has them
abbrev pub coded_operators : Env Operator
coded_operators =
    (codes "not", code.Not) ∷ (codes "and", code.And) ∷ (codes "or", code.Or) ∷ (codes "xor", code.Xor) ∷ (codes "=>", code.Implies)
    ∷ (codes "=", code.Equal) ∷ (codes "distinct", code.Distinct) ∷ (codes "ite", code.Ite) ∷ (codes "ff.add", code.Add)
    ∷ (codes "ff.mul", code.Mul) ∷ (codes "ff.neg", code.Neg) ∷ (codes "ff.bitsum", code.Bitsum) ∷ []
