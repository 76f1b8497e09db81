-- Code stays code where names come, and what a name means is found as it is kept.
use Rattle.std.proofs.Common.{◌≡◌, ℕ, ◌<◌, Bool, true, false, List, [], ◌∷◌, if◌then◌else◌, length, map, Option, Some, None, refl, sym, ap, ◌∙◌, ⊎_elim, arith}
use Rattle.std.specs.Bool.{◌==◌}
use Rattle.std.specs.Str.{bytes_eq}
use Rattle.std.proofs.lemmas.Bool.{cases_Bool, cond-false}
use Rattle.std.proofs.lemmas.Bool.Decides.{nat_tests}
use Rattle.std.proofs.lemmas.List.{length-map}
use Rattle.ffc_term.specs.declared.node.Node.{Node}
use Rattle.ffc_smt.specs.Meaning.{Env, found}
use Rattle.ffc_smt.specs.Scopes.{Meant, AsConstant, AsTerm, AsMacro}
use Rattle.ffc_smt.specs.Terms.{Name, Term, Truth, Number, Constant, Variable, Defined, Applied, Let, Called, Terms, NoTerm, AndTerm}
use Rattle.ffc_terms.specs.declared.codes.Op.{Op}
use Rattle.ffc_terms.specs.declared.scope.Meaning.{Meaning}
use Rattle.ffc_terms.specs.declared.scope.Meaning.TheVariants as meaning
use Rattle.ffc_terms.specs.Slots.{slot_of, at_slot}
use Rattle.ffc_terms.specs.Codes.{IsCode, AreCodes, IsMeaning, AreMeanings, place_of}

-- what is at a place of the one is there in the other
abbrev pub Extends : Env Meaning → Env Meaning → Type 0
Extends xs ys = (place : ℕ) (m : Meaning) → at_slot (map (λ x. x.1) xs) place ≡ Some m → at_slot (map (λ x. x.1) ys) place ≡ Some m

pub extends_itself : (xs : Env Meaning) → Extends xs xs
extends_itself xs place m e = e

at_slot_within : {A : Type 0} (xs : List A) (place : ℕ) (x : A) → at_slot xs place ≡ Some x → place < length xs
at_slot_within [] place x e = cc
at_slot_within (y ∷ ys) place x e = ⊎_elim
    (λ same. let p : place < length (y ∷ ys) = grind (arith, nat_tests, same) in p)
    (λ other. let p = at_slot_within ys place x (sym (cond-false (place == length ys) (Some y) (at_slot ys place) other) ∙ e) in omega arith)
    (cases_Bool (place == length ys))

other_place : (place n : ℕ) → place < n → (place == n) ≡ false
other_place place n h = grind (arith, nat_tests)

pub extends_more : (x : Name × Meaning) (xs ys : Env Meaning) → Extends (x ∷ xs) ys → Extends xs ys
extends_more x xs ys h place m e =
    let rest = map (λ (y : Name × Meaning). y.1) xs in
    let apart : (place == length rest) ≡ false = other_place place (length rest) (at_slot_within rest place m e) in
    h place m (cond-false (place == length rest) (Some x.1) (at_slot rest place) apart ∙ e)

mutual
  pub code_more : (t : Term) (nodes : List Node) (xs ys : Env Meaning) (locals : List Name) (ops : List Op) → Extends xs ys → IsCode nodes xs locals t ops → IsCode nodes ys locals t ops
  code_more (Truth b) nodes xs ys locals ops e h = h
  code_more (Number negative size p) nodes xs ys locals ops e h = h
  code_more (Constant k s) nodes xs ys locals ops e h = h
  code_more (Variable name) nodes xs ys locals ops e h = h
  code_more (Defined t) nodes xs ys locals ops e h = h
  code_more (Applied f ts) nodes xs ys locals ops e h = (h.0, h.1, h.2, codes_more ts nodes xs ys locals h.1 h.0 e h.3, h.4, h.5)
  code_more (Let names ts t) nodes xs ys locals ops e h = (h.0, h.1, codes_more ts nodes xs ys locals (length names) h.0 e h.2, code_more t nodes xs ys _ h.1 e h.3, h.4)
  code_more (Called names t ts) nodes xs ys locals ops e h =
      (h.0, h.1, h.2, codes_more ts nodes xs ys locals (length names) h.0 e h.3, e h.1 (meaning.Macro h.2) h.4, code_more t nodes xs ys names _ e h.5, h.6)

  pub codes_more : (ts : Terms) (nodes : List Node) (xs ys : Env Meaning) (locals : List Name) (n : ℕ) (ops : List Op) → Extends xs ys → AreCodes nodes xs locals ts n ops → AreCodes nodes ys locals ts n ops
  codes_more NoTerm nodes xs ys locals n ops e h = h
  codes_more (AndTerm t ts) nodes xs ys locals n ops e h = (h.0, h.1, h.2, code_more t nodes xs ys locals h.0 e h.3, codes_more ts nodes xs ys locals h.2 h.1 e h.4, h.5, h.6)

meaning_more : (nodes : List Node) (xs ys : Env Meaning) (m : Meaning) (x : Meant) → Extends xs ys → IsMeaning nodes xs m x → IsMeaning nodes ys m x
meaning_more nodes xs ys (meaning.Constant n s id) (AsConstant k t) e h = h
meaning_more nodes xs ys (meaning.Constant n s id) (AsTerm k t) e h = h
meaning_more nodes xs ys (meaning.Constant n s id) (AsMacro p k t) e h = h
meaning_more nodes xs ys (meaning.Defined s id) (AsConstant k t) e h = h
meaning_more nodes xs ys (meaning.Defined s id) (AsTerm k t) e h = h
meaning_more nodes xs ys (meaning.Defined s id) (AsMacro p k t) e h = h
meaning_more nodes xs ys (meaning.Macro m) (AsConstant k t) e h = h
meaning_more nodes xs ys (meaning.Macro m) (AsTerm k t) e h = h
meaning_more nodes xs ys (meaning.Macro m) (AsMacro ps s t) e h = record {
  parameters_are = h.parameters_are;
  sort_is = h.sort_is;
  code = code_more t nodes xs ys _ _ e h.code;
  height_is = h.height_is;
  weight_is = h.weight_is;
}

-- what a name means, as it is kept and as the definitions have it
abbrev pub FoundAs : List Node → Env Meaning → Option Meaning → Option Meant → Type 0
FoundAs nodes all None None = Unit {0}
FoundAs nodes all None (Some x) = ⊥
FoundAs nodes all (Some m) None = ⊥
FoundAs nodes all (Some m) (Some x) = IsMeaning nodes all m x

pub meanings_found : (nodes : List Node) (all xs : Env Meaning) (ys : Env Meant) (name : Name) → AreMeanings nodes xs ys → Extends xs all → FoundAs nodes all (found xs name) (found ys name)
meanings_found nodes all [] [] name h e = tt
meanings_found nodes all [] (y ∷ ys) name h e = absurd h
meanings_found nodes all (x ∷ xs) [] name h e = absurd h
meanings_found nodes all (x ∷ xs) (y ∷ ys) name h e =
    let named : bytes_eq x.0 name ≡ bytes_eq y.0 name = ap (λ n. bytes_eq n name) h.0 in
    by_test (meanings_found nodes all xs ys name h.2 (extends_more x xs all e)) (bytes_eq x.0 name) (bytes_eq y.0 name) named
  where
    by_test : FoundAs nodes all (found xs name) (found ys name) → (a b : Bool) → a ≡ b → FoundAs nodes all (if a then Some x.1 else found xs name) (if b then Some y.1 else found ys name)
    by_test rest true true same = meaning_more nodes xs all x.1 y.1 (extends_more x xs all e) h.1
    by_test rest true false same = cc
    by_test rest false true same = cc
    by_test rest false false same = rest

-- the place of a local variable by the names alone
pub slot_place : {A : Type 0} (env : Env A) (name : Name) → slot_of env name ≡ place_of (map (λ x. x.0) env) name
slot_place [] name = refl
slot_place (x ∷ xs) name = by_test (slot_place xs name) (bytes_eq x.0 name)
  where
    by_test : slot_of xs name ≡ place_of (map (λ y. y.0) xs) name → (b : Bool) → (if b then Some (length xs) else slot_of xs name) ≡ (if b then Some (length (map (λ y. y.0) xs)) else place_of (map (λ y. y.0) xs) name)
    by_test rest true = ap Some (sym (length-map xs (λ y. y.0)))
    by_test rest false = rest
