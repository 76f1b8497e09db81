-- What functions and macros want of their arguments, stated as the arguments come and of all of them.
use Rattle.std.proofs.Common.{◌≡◌, ℕ, ◌+◌, ◌-◌, ◌≤◌, ◌==◌, zero, suc, min, nat_le, Bool, true, false, List, [], ◌∷◌, ◌++◌, if◌then◌else◌, length, drop, map, Option, Some, None, refl, sym, ap, ◌∙◌, subst, arith, add-one}
use Rattle.std.specs.List.{slice_get}
use Rattle.std.proofs.lemmas.Bool.Decides.{nat_tests}
use Rattle.ffc_parts.specs.declared.operators.Operator.{Operator as Kept}
use Rattle.ffc_parts.specs.Operators.{operator_of}
use Rattle.ffc_term.specs.declared.node.Sort.{Sort}
use Rattle.ffc_term.specs.declared.node.Sort.TheVariants as sort
use Rattle.ffc_smt.specs.Trees.{Word}
use Rattle.ffc_smt.specs.Terms.{Operator, Not, And, Or, Xor, Implies, Equal, Distinct, Ite, Add, Mul, Neg, Bitsum, Parameter}
use Rattle.ffc_smt.specs.Faults.{Fault, word_fault, Read, Sound, Faulty}
use Rattle.ffc_smt.specs.TermReading as reading
use Rattle.ffc_smt.specs.TermReading.{Argument, Wanted, Sorted, AnySort, Only, argument_sort, sort_if_sound, misfit, misfits, parameter_misfits, first_place, surplus, same_as, is_wanted}
use Rattle.ffc_terms.specs.declared.callees.Callee.{Callee}
use Rattle.ffc_terms.specs.declared.callees.Callee.TheVariants as callee
use Rattle.ffc_terms.specs.declared.scope.Symbols.{Symbols}
use Rattle.ffc_terms.specs.Callees.{wanted, only, at_most}

-- The sorts of the first two arguments so far, and of these others, are the first two of all.
abbrev pub Agree : ℕ → Option Sort → Option Sort → Option Sort → Option Sort → List Argument → Type 0
Agree zero first second F S args = (first ≡ None) × (second ≡ None) × (F ≡ argument_sort args 0) × (S ≡ argument_sort args 1)
Agree (suc zero) first second F S args = (first ≡ F) × (second ≡ None) × (S ≡ argument_sort args 0)
Agree (suc (suc n)) first second F S args = (first ≡ F) × (second ≡ S)

-- where there is no other
pub agree_end : (n : ℕ) (first second F S : Option Sort) → Agree n first second F S [] → (first ≡ F) × (second ≡ S)
agree_end zero first second F S h = (h.0 ∙ sym h.2, h.1 ∙ sym h.3)
agree_end (suc zero) first second F S h = (h.0, h.1 ∙ sym h.2)
agree_end (suc (suc n)) first second F S h = h

not_zero : (n : ℕ) → (suc (suc n) == 0) ≡ false
not_zero n = grind (arith, nat_tests)

not_one : (n : ℕ) → (suc (suc n) == 1) ≡ false
not_one n = grind (arith, nat_tests)

-- one more argument
pub agree_next : (n : ℕ) (first second F S : Option Sort) (a : Argument) (args : List Argument) (s : Sorted) → a.read ≡ Sound s → Agree n first second F S (a ∷ args)
    → Agree (n + 1) (if n == 0 then Some s.sort else first) (if n == 1 then Some s.sort else second) F S args
agree_next zero first second F S a args s e h = (sym (ap sort_if_sound e) ∙ sym h.2, h.1, h.3)
agree_next (suc zero) first second F S a args s e h = (h.0, sym (h.2 ∙ ap sort_if_sound e))
agree_next (suc (suc n)) first second F S a args s e h =
    let count : suc (suc n) + 1 ≡ suc (suc (suc n)) = add-one (suc (suc n)) in
    subst (λ m. Agree m (if suc (suc n) == 0 then Some s.sort else first) (if suc (suc n) == 1 then Some s.sort else second) F S args) (sym count)
    (ap (λ b. if b then Some s.sort else first) (not_zero n) ∙ h.0, ap (λ b. if b then Some s.sort else second) (not_one n) ∙ h.1)

least_two : (n : ℕ) → min (suc (suc n)) 2 ≡ 2
least_two n = omega arith

first_any : (f : Operator) (a b c d : Option Sort) → reading.wanted f a b 0 ≡ reading.wanted f c d 0
first_any Not a b c d = refl
first_any And a b c d = refl
first_any Or a b c d = refl
first_any Xor a b c d = refl
first_any Implies a b c d = refl
first_any Equal a b c d = refl
first_any Distinct a b c d = refl
first_any Ite a b c d = refl
first_any Add a b c d = refl
first_any Mul a b c d = refl
first_any Neg a b c d = refl
first_any Bitsum a b c d = refl

second_any : (f : Operator) (a b d : Option Sort) → reading.wanted f a b 1 ≡ reading.wanted f a d 1
second_any Not a b d = refl
second_any And a b d = refl
second_any Or a b d = refl
second_any Xor a b d = refl
second_any Implies a b d = refl
second_any Equal a b d = refl
second_any Distinct a b d = refl
second_any Ite a b d = refl
second_any Add a b d = refl
second_any Mul a b d = refl
second_any Neg a b d = refl
second_any Bitsum a b d = refl

-- what is wanted next is what is wanted there of all
pub wanted_agrees : (symbols : Symbols) (c : Callee) (n : ℕ) (first second F S : Option Sort) (args : List Argument) → Agree n first second F S args
    → wanted symbols c first second n ≡ wanted symbols c F S n
wanted_agrees symbols (callee.Macro place) n first second F S args h = refl
wanted_agrees symbols (callee.Function f) zero first second F S args h = first_any (operator_of f) first second F S
wanted_agrees symbols (callee.Function f) (suc zero) first second F S args h =
    second_any (operator_of f) first second S ∙ ap (λ a. reading.wanted (operator_of f) a S 1) h.0
wanted_agrees symbols (callee.Function f) (suc (suc n)) first second F S args h =
    ap (λ a. reading.wanted (operator_of f) a second (min (suc (suc n)) 2)) h.0 ∙ ap (λ b. reading.wanted (operator_of f) F b (min (suc (suc n)) 2)) h.1

same_beyond : (n : ℕ) (x y z : Wanted) → (if 2 == 0 then x else (if 2 == 1 then y else z)) ≡ (if suc (suc n) == 0 then x else (if suc (suc n) == 1 then y else z))
same_beyond n x y z = sym (ap (λ b. if b then x else (if suc (suc n) == 1 then y else z)) (not_zero n) ∙ ap (λ b. if b then y else z) (not_one n))

same_after : (n : ℕ) (x z : Wanted) → (if 2 == 0 then x else z) ≡ (if suc (suc n) == 0 then x else z)
same_after n x z = sym (ap (λ b. if b then x else z) (not_zero n))

-- from the third on every place is as the third
beyond : (f : Operator) (F S : Option Sort) (n : ℕ) → reading.wanted f F S 2 ≡ reading.wanted f F S (suc (suc n))
beyond Not F S n = refl
beyond And F S n = refl
beyond Or F S n = refl
beyond Xor F S n = refl
beyond Implies F S n = refl
beyond Equal F S n = same_after n AnySort (same_as F)
beyond Distinct F S n = same_after n AnySort (same_as F)
beyond Ite F S n = same_beyond n (Only sort.Bool) AnySort (same_as S)
beyond Add F S n = same_after n reading.AnyField (same_as F)
beyond Mul F S n = same_after n reading.AnyField (same_as F)
beyond Neg F S n = refl
beyond Bitsum F S n = same_after n reading.AnyField (same_as F)

function_wanted : (f : Operator) (F S : Option Sort) (n : ℕ) → reading.wanted f F S (min n 2) ≡ reading.wanted f F S n
function_wanted f F S zero = refl
function_wanted f F S (suc zero) = refl
function_wanted f F S (suc (suc n)) = ap (reading.wanted f F S) (least_two n) ∙ beyond f F S n

pub misfits_same : (V W : ℕ → Wanted) (n : ℕ) (args : List Argument) → ((i : ℕ) → V i ≡ W i) → misfits V n args ≡ misfits W n args
misfits_same V W n [] h = refl
misfits_same V W n (a ∷ args) h = ap (λ w. misfit w a.at a.read ++ misfits V (n + 1) args) (h n) ∙ ap (λ fs. misfit (W n) a.at a.read ++ fs) (misfits_same V W (n + 1) args h)

pub function_misfits : (symbols : Symbols) (f : Kept) (F S : Option Sort) (args : List Argument)
    → misfits (λ i. wanted symbols (callee.Function f) F S i) 0 args ≡ misfits (reading.wanted (operator_of f) F S) 0 args
function_misfits symbols f F S args = misfits_same _ _ 0 args (function_wanted (operator_of f) F S)

any_fits : (r : Read Sorted) (w : Word) → misfit AnySort w r ≡ []
any_fits (Sound t) w = refl
any_fits (Faulty f fs) w = refl

none_misfit : (W : ℕ → Wanted) (n : ℕ) (args : List Argument) → ((k : ℕ) → W (n + k) ≡ AnySort) → misfits W n args ≡ []
none_misfit W n [] h = refl
none_misfit W n (a ∷ args) h =
    let here : W n ≡ AnySort = let e : n + 0 ≡ n = omega arith in ap W (sym e) ∙ h 0 in
    ap (λ w. misfit w a.at a.read ++ misfits W (n + 1) args) here ∙ ap (λ fs. fs ++ misfits W (n + 1) args) (any_fits a.read a.at)
    ∙ none_misfit W (n + 1) args (λ k. let e : n + 1 + k ≡ n + suc k = omega arith in ap W e ∙ h (suc k))

-- the parameters from a place on
pub parameters_misfit : (ps : List Parameter) (args : List Argument) (W : ℕ → Wanted) (n : ℕ) → ((k : ℕ) → W (n + k) ≡ only (slice_get (map (λ p. p.sort) ps) k)) → misfits W n args ≡ parameter_misfits ps args
parameters_misfit [] args W n h = none_misfit W n args h
parameters_misfit (p ∷ ps) [] W n h = refl
parameters_misfit (p ∷ ps) (a ∷ args) W n h =
    let here : W n ≡ Only p.sort = let e : n + 0 ≡ n = omega arith in ap W (sym e) ∙ h 0 in
    ap (λ w. misfit w a.at a.read ++ misfits W (n + 1) args) here
    ∙ ap (λ fs. misfit (Only p.sort) a.at a.read ++ fs) (parameters_misfit ps args W (n + 1) (λ k. let e : n + 1 + k ≡ n + suc k = omega arith in ap W e ∙ h (suc k)))

-- Arguments too many

-- the first that is one too many
abbrev pub extra : (ℕ → Bool) → ℕ → List Argument → List Fault
extra full n [] = []
extra full n (a ∷ args) = if full n then word_fault 5 a.at ∷ [] else extra full (n + 1) args

never_extra : (n : ℕ) (args : List Argument) → extra (λ i. false) n args ≡ []
never_extra n [] = refl
never_extra n (a ∷ args) = never_extra (n + 1) args

after_most : (m n : ℕ) (args : List Argument) → first_place (drop (m - n) args) ≡ extra (nat_le m) n args
after_most m n [] = none (m - n)
  where
    none : (k : ℕ) → first_place (drop k []) ≡ []
    none zero = refl
    none (suc k) = refl
after_most m n (a ∷ args) = by_test (nat_le m n) refl (after_most m (n + 1) args)
  where
    by_test : (b : Bool) → nat_le m n ≡ b → first_place (drop (m - (n + 1)) args) ≡ extra (nat_le m) (n + 1) args
        → first_place (drop (m - n) (a ∷ args)) ≡ (if b then word_fault 5 a.at ∷ [] else extra (nat_le m) (n + 1) args)
    by_test true e more = let z : m - n ≡ 0 = grind (arith, nat_tests, e) in ap (λ k. first_place (drop k (a ∷ args))) z
    by_test false e more = let z : m - n ≡ suc (m - (n + 1)) = grind (arith, nat_tests, e) in ap (λ k. first_place (drop k (a ∷ args))) z ∙ more

pub surplus_extra : (o : Option ℕ) (args : List Argument) → surplus o args ≡ extra (at_most o) 0 args
surplus_extra None args = sym (never_extra 0 args)
surplus_extra (Some m) args = let z : m - 0 ≡ m = omega arith in ap (λ k. first_place (drop k args)) (sym z) ∙ after_most m 0 args

-- none too many
pub none_extra : (m n : ℕ) (args : List Argument) → n ≤ m → extra (nat_le m) n args ≡ [] → n + length args ≤ m
none_extra m n [] le e = omega arith
none_extra m n (a ∷ args) le e = by_test (λ less h. none_extra m (n + 1) args less h) (nat_le m n) refl e
  where
    by_test : (n + 1 ≤ m → extra (nat_le m) (n + 1) args ≡ [] → n + 1 + length args ≤ m) → (b : Bool) → nat_le m n ≡ b → (if b then word_fault 5 a.at ∷ [] else extra (nat_le m) (n + 1) args) ≡ [] → n + length (a ∷ args) ≤ m
    by_test next true t h = cc
    by_test next false t h = let less : n + 1 ≤ m = grind (arith, nat_tests, t) in let more = next less h in omega arith
