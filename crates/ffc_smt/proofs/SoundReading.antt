-- A term that is read is sound.
use Rattle.std.proofs.Common.{◌≡◌, ℕ, ◌+◌, ◌≤◌, ◌==◌, ◌||◌, ◌⊎◌, inl, inr, ⊎_elim, nat_lt, if◌then◌else◌, Bool, true, false, List, [], ◌∷◌, ◌++◌, length, map, zip, Some, None, Option, refl, sym, ap, ◌∙◌, subst, arith}
use Rattle.std.proofs.lemmas.Bool.Decides.{nat_tests, Decides-eqb}
use Rattle.std.specs.Str.{bytes_eq}
use Rattle.std.specs.Prelude.{codes}
use Rattle.ffc_field.specs.declared.id.FieldId.TheVariants.{F2, F3, F5, F17, F65537, BabyBear, KoalaBear, Goldilocks}
use Rattle.ffc_field.specs.Orders.{IsOrder}
use Rattle.ffc_lex.specs.declared.tokens.TokenKind.{TokenKind}
use Rattle.ffc_lex.specs.declared.tokens.TokenKind.TheVariants as kinds
use Rattle.ffc_lex.specs.Names.{is_theory_name}
use Rattle.ffc_term.specs.declared.node.Node.{Node}
use Rattle.ffc_term.specs.declared.node.Sort.{Sort}
use Rattle.ffc_term.specs.declared.node.Sort.TheVariants as sort
use Rattle.ffc_smt.specs.Trees.{Word, Tree, Leaf, Group, Trees, Empty, First, items_of, front, name_of}
use Rattle.ffc_smt.specs.Terms.{Name, Operator, Not, And, Or, Xor, Implies, Equal, Distinct, Ite, Add, Mul, Neg, Bitsum, Term, Variable, Applied, Called, height, Parameter}
use Rattle.ffc_smt.specs.Meaning.{Env, found}
use Rattle.ffc_smt.specs.Numbers.{number_of, is_order, Signed, literal_order, literal_number}
use Rattle.ffc_smt.specs.Scopes.{Meant, AsConstant, AsTerm, AsMacro, Scope}
use Rattle.ffc_smt.specs.Faults.{Fault, word_fault, Read, Sound, Faulty, faults, faulty, unless, read_map, behind, no_more, last, item}
use Rattle.ffc_smt.specs.TermReading.{Sorted, Argument, Wanted, AnySort, AnyField, Only, is_wanted, same_as, misfit, misfits, own_faults, missing, surplus, terms_of, wanted, least, most, result_sort, argument_sort, operators, Head, LetHead, AsHead, Function, Macro, NoHead, head_meant, head_named, head_of, is_word, is_named, exactly, is_numeral, order_read, named_sort, sort_read, constant_read, order_of_sort, field_read, term_meant, term_named, number_term, number_read, literal_read, as_read, leaf_by_kind, Binding, binding_faults, variables, twice, values, Bound, some_binding, bound_read, locals_of, terms_of_bound, let_term, of_height, function_read, parameter_misfits, macro_read, term_read, arguments_read, let_read, bindings_read, binding_read}
use Rattle.ffc_smt.specs.Sorting.{sorts_of_parameters}
use Rattle.ffc_smt.specs.WellSorted.{AreAll, IsField, Takes, IsSoundTerm, AreSoundTerms}
use Rattle.ffc_smt.specs.States.{IsSoundSort, IsSoundScope}
use Rattle.ffc_smt.proofs.ReadLemmas.{IfSound, all_sound, unless_sound, map_sound, behind_sound, either_sound, both_none, item_first, item_second}
use Rattle.ffc_smt.proofs.SortLemmas.{same_sort, no_misfit, long_enough, short_enough}

-- Orders and sorts

order_cases : (p q : ℕ) (b : Bool) → (p == q || b) ≡ true → (p ≡ q) ⊎ (b ≡ true)
order_cases p q b e = by_test (p == q) refl e
  where
    by_test : (t : Bool) → (p == q) ≡ t → (t || b) ≡ true → (p ≡ q) ⊎ (b ≡ true)
    by_test true d e = inl ((Decides-eqb p q).0 d)
    by_test false d e = inr e

pub order_good : (p : ℕ) → is_order p ≡ true → IsOrder p
order_good p e =
    ⊎_elim (λ d. (F2, sym d)) (λ e.
    ⊎_elim (λ d. (F3, sym d)) (λ e.
    ⊎_elim (λ d. (F5, sym d)) (λ e.
    ⊎_elim (λ d. (F17, sym d)) (λ e.
    ⊎_elim (λ d. (F65537, sym d)) (λ e.
    ⊎_elim (λ d. (BabyBear, sym d)) (λ e.
    ⊎_elim (λ d. (KoalaBear, sym d)) (λ e.
    ⊎_elim (λ d. (Goldilocks, sym d)) (λ (d : false ≡ true). cc) (order_cases p 18446744069414584321 _ e))
    (order_cases p 2130706433 _ e)) (order_cases p 2013265921 _ e)) (order_cases p 65537 _ e)) (order_cases p 17 _ e)) (order_cases p 5 _ e)) (order_cases p 3 _ e)) (order_cases p 2 _ e)

numeral_order : (b : Bool) (p : ℕ) (w : Word) → is_order p ≡ b → IfSound (if b then Sound p else faulty 11 w) IsOrder
numeral_order true p w e = order_good p e
numeral_order false p w e = tt

order_read_good : (t : Tree) → IfSound (order_read t) IsOrder
order_read_good (Leaf w) =
    either_sound (is_numeral w.kind) (if is_order (number_of w.bytes) then Sound (number_of w.bytes) else faulty 11 w) (faulty 5 w) IsOrder
    (numeral_order (is_order (number_of w.bytes)) (number_of w.bytes) w refl) tt
order_read_good (Group opening items closing) = tt

abbrev pub AreSoundSorts : Env Sort → Type 0
AreSoundSorts sorts = (name : Name) (s : Sort) → found sorts name ≡ Some s → IsSoundSort s

found_sort_good : (sorts : Env Sort) (w : Word) (name : Name) (o : Option Sort) → AreSoundSorts sorts → found sorts name ≡ o → IfSound (elim o [ None ↦ faulty 8 w | Some s ↦ Sound s ]) IsSoundSort
found_sort_good sorts w name None h e = tt
found_sort_good sorts w name (Some s) h e = h name s e

sort_name_good : (sorts : Env Sort) (w : Word) (o : Option Name) → AreSoundSorts sorts → IfSound (elim o [ None ↦ faulty 5 w | Some name ↦ named_sort sorts w name ]) IsSoundSort
sort_name_good sorts w None h = tt
sort_name_good sorts w (Some name) h =
    either_sound (bytes_eq name (codes "Bool")) (Sound sort.Bool) _ IsSoundSort tt (found_sort_good sorts w name (found sorts name) h refl)

pub sort_read_good : (sorts : Env Sort) (t : Tree) → AreSoundSorts sorts → IfSound (sort_read sorts t) IsSoundSort
unfolding sort_read
sort_read_good sorts (Leaf w) h = sort_name_good sorts w (name_of w) h
sort_read_good sorts (Group opening items closing) h =
    map_sound (λ parts. sort.Field parts.1.1.0) _ IsSoundSort
    (item_second closing (exactly (is_word (codes "_"))) (item closing (exactly (is_named (codes "FiniteField"))) (item closing order_read last)) (items_of items) (λ p. IsOrder p.1.0)
    (λ ts. item_second closing (exactly (is_named (codes "FiniteField"))) (item closing order_read last) ts (λ p. IsOrder p.0)
    (λ us. item_first closing order_read last us IsOrder order_read_good)))

field_order : (w : Word) (s : Sort) → IsSoundSort s → IfSound (order_of_sort w s) IsOrder
field_order w sort.Bool h = tt
field_order w (sort.Field p) h = h

field_read_good : (sorts : Env Sort) (t : Tree) → AreSoundSorts sorts → IfSound (field_read sorts t) IsOrder
field_read_good sorts t h = behind_sound (sort_read sorts t) (order_of_sort (front t)) IsSoundSort IsOrder (sort_read_good sorts t h) (λ s g. field_order (front t) s g)

-- Arguments without faults

abbrev Placed : Type 0
Placed = Word × Sorted

abbrev argument : Placed → Argument
argument x = record { at = x.0; read = Sound x.1 }

abbrev arguments : List Placed → List Argument
arguments xs = map argument xs

abbrev sorts_at : List Placed → List Sort
sorts_at xs = map (λ x. x.1.sort) xs

abbrev Faultless : List Argument → Type 0
Faultless args = (xs : List Placed) × (args ≡ arguments xs)

faultless_first : (at : Word) (r : Read Sorted) (rest : List Argument) → faults r ≡ [] → Faultless rest → Faultless (record { at = at; read = r } ∷ rest)
faultless_first at (Sound t) rest e h = ((at, t) ∷ h.0, ap (λ args. record { at = at; read = Sound t } ∷ args) h.1)
faultless_first at (Faulty f fs) rest e h = cc

faultless : (args : List Argument) → own_faults args ≡ [] → Faultless args
faultless [] e = ([], refl)
faultless (a ∷ rest) e =
    let two = both_none (faults a.read) (own_faults rest) e in
    faultless_first a.at a.read rest two.0 (faultless rest two.1)

-- arguments from a place on, where one sort is wanted
all_only : (want : ℕ → Wanted) (s : Sort) (xs : List Placed) (i : ℕ) → ((j : ℕ) → i ≤ j → want j ≡ Only s) → misfits want i (arguments xs) ≡ [] → AreAll s (sorts_at xs)
all_only want s [] i h mis = tt
all_only want s (x ∷ rest) i h mis =
    let two = both_none (misfit (want i) x.0 (Sound x.1)) (misfits want (i + 1) (arguments rest)) mis in (
      same_sort s x.1.sort (subst (λ w. is_wanted w x.1.sort ≡ true) (h i (omega arith)) (no_misfit (want i) x.0 x.1 two.0)),
      all_only want s rest (i + 1) (λ j g. h j (omega arith)) two.1,
    )

later : (j : ℕ) → 1 ≤ j → (j == 0) ≡ false
later j h = grind (arith, nat_tests)

same_later : (s : Sort) (any : Wanted) (j : ℕ) → 1 ≤ j → (if j == 0 then any else same_as (Some s)) ≡ Only s
same_later s any j h = ap (λ b. if b then any else Only s) (later j h)

first_fits : (w : Wanted) (x : Placed) (rest : List Fault) → misfit w x.0 (Sound x.1) ++ rest ≡ [] → is_wanted w x.1.sort ≡ true
first_fits w x rest mis = no_misfit w x.0 x.1 ((both_none (misfit w x.0 (Sound x.1)) rest mis).0)

is_a_field : (s : Sort) → is_wanted AnyField s ≡ true → IsField s
is_a_field sort.Bool e = cc
is_a_field (sort.Field p) e = tt

abbrev TakesPlaced : Operator → List Placed → Type 0
TakesPlaced op xs = (closing : Word) → misfits (wanted op (argument_sort (arguments xs) 0) (argument_sort (arguments xs) 1)) 0 (arguments xs) ≡ [] → missing (least op) closing (arguments xs) ≡ []
    → surplus (most op) (arguments xs) ≡ [] → Takes op (sorts_at xs) (result_sort op (argument_sort (arguments xs) 0) (argument_sort (arguments xs) 1))

-- what follows the first argument
behind_first : (want : ℕ → Wanted) (x : Placed) (rest : List Placed) (s : Sort) → ((j : ℕ) → 1 ≤ j → want j ≡ Only s) → misfits want 0 (arguments (x ∷ rest)) ≡ [] → AreAll s (sorts_at rest)
behind_first want x rest s h mis = all_only want s rest 1 h ((both_none (misfit (want 0) x.0 (Sound x.1)) (misfits want 1 (arguments rest)) mis).1)

function_takes : (op : Operator) (xs : List Placed) → TakesPlaced op xs
function_takes Not [] closing mis miss more = cc
function_takes Not (x ∷ []) closing mis miss more = (same_sort sort.Bool x.1.sort (first_fits (Only sort.Bool) x [] mis), refl)
function_takes Not (x ∷ y ∷ rest) closing mis miss more = cc
function_takes And [] closing mis miss more = cc
function_takes And (x ∷ rest) closing mis miss more = (all_only (λ j. Only sort.Bool) sort.Bool (x ∷ rest) 0 (λ j g. refl) mis, refl)
function_takes Or [] closing mis miss more = cc
function_takes Or (x ∷ rest) closing mis miss more = (all_only (λ j. Only sort.Bool) sort.Bool (x ∷ rest) 0 (λ j g. refl) mis, refl)
function_takes Xor [] closing mis miss more = cc
function_takes Xor (x ∷ []) closing mis miss more = cc
function_takes Xor (x ∷ y ∷ rest) closing mis miss more = (all_only (λ j. Only sort.Bool) sort.Bool (x ∷ y ∷ rest) 0 (λ j g. refl) mis, refl)
function_takes Implies [] closing mis miss more = cc
function_takes Implies (x ∷ []) closing mis miss more = cc
function_takes Implies (x ∷ y ∷ rest) closing mis miss more = (all_only (λ j. Only sort.Bool) sort.Bool (x ∷ y ∷ rest) 0 (λ j g. refl) mis, refl)
function_takes Equal [] closing mis miss more = cc
function_takes Equal (x ∷ []) closing mis miss more = cc
function_takes Equal (x ∷ y ∷ rest) closing mis miss more =
    (behind_first (wanted Equal (Some x.1.sort) (Some y.1.sort)) x (y ∷ rest) x.1.sort (same_later x.1.sort AnySort) mis, refl)
function_takes Distinct [] closing mis miss more = cc
function_takes Distinct (x ∷ []) closing mis miss more = cc
function_takes Distinct (x ∷ y ∷ rest) closing mis miss more =
    (behind_first (wanted Distinct (Some x.1.sort) (Some y.1.sort)) x (y ∷ rest) x.1.sort (same_later x.1.sort AnySort) mis, refl)
function_takes Ite [] closing mis miss more = cc
function_takes Ite (c ∷ []) closing mis miss more = cc
function_takes Ite (c ∷ a ∷ []) closing mis miss more = cc
function_takes Ite (c ∷ a ∷ b ∷ []) closing mis miss more =
    let rest = (both_none (misfit (Only sort.Bool) c.0 (Sound c.1)) _ mis).1 in (
      same_sort sort.Bool c.1.sort (first_fits (Only sort.Bool) c _ mis),
      same_sort a.1.sort b.1.sort (first_fits (Only a.1.sort) b [] ((both_none (misfit AnySort a.0 (Sound a.1)) _ rest).1)),
      refl,
    )
function_takes Ite (c ∷ a ∷ b ∷ d ∷ rest) closing mis miss more = cc
function_takes Add [] closing mis miss more = cc
function_takes Add (x ∷ []) closing mis miss more = cc
function_takes Add (x ∷ y ∷ rest) closing mis miss more = (
  is_a_field x.1.sort (first_fits AnyField x _ mis),
  behind_first (wanted Add (Some x.1.sort) (Some y.1.sort)) x (y ∷ rest) x.1.sort (same_later x.1.sort AnyField) mis,
  refl,
)
function_takes Mul [] closing mis miss more = cc
function_takes Mul (x ∷ []) closing mis miss more = cc
function_takes Mul (x ∷ y ∷ rest) closing mis miss more = (
  is_a_field x.1.sort (first_fits AnyField x _ mis),
  behind_first (wanted Mul (Some x.1.sort) (Some y.1.sort)) x (y ∷ rest) x.1.sort (same_later x.1.sort AnyField) mis,
  refl,
)
function_takes Neg [] closing mis miss more = cc
function_takes Neg (x ∷ []) closing mis miss more = (is_a_field x.1.sort (first_fits AnyField x [] mis), refl)
function_takes Neg (x ∷ y ∷ rest) closing mis miss more = cc
function_takes Bitsum [] closing mis miss more = cc
function_takes Bitsum (x ∷ rest) closing mis miss more = (
  is_a_field x.1.sort (first_fits AnyField x _ mis),
  behind_first (wanted Bitsum (Some x.1.sort) (argument_sort (arguments (x ∷ rest)) 1)) x rest x.1.sort (same_later x.1.sort AnyField) mis,
  refl,
)

-- Parameters

parameters_take : (ps : List Parameter) (xs : List Placed) → parameter_misfits ps (arguments xs) ≡ [] → length ps ≤ length xs → length xs ≤ length ps
    → sorts_at xs ≡ map (λ p. p.sort) ps
parameters_take [] [] mis long short = refl
parameters_take [] (x ∷ xs) mis long short = absurd (omega arith)
parameters_take (p ∷ ps) [] mis long short = absurd (omega arith)
parameters_take (p ∷ ps) (x ∷ xs) mis long short =
    let two = both_none (misfit (Only p.sort) x.0 (Sound x.1)) (parameter_misfits ps (arguments xs)) mis in
    let one : x.1.sort ≡ p.sort = same_sort p.sort x.1.sort (no_misfit (Only p.sort) x.0 x.1 two.0) in
    let rest = parameters_take ps xs two.1 (omega arith) (omega arith) in
    ap (λ s. s ∷ sorts_at xs) one ∙ ap (λ ss. p.sort ∷ ss) rest

zip_parameters : (ps : List Parameter) → zip (map (λ p. p.name) ps) (map (λ p. p.sort) ps) ≡ sorts_of_parameters ps
zip_parameters [] = refl
zip_parameters (p ∷ ps) = ap (λ rest. (p.name, p.sort) ∷ rest) (zip_parameters ps)

arguments_length : (xs : List Placed) → length (arguments xs) ≡ length xs
arguments_length [] = refl
arguments_length (x ∷ xs) = let rest = arguments_length xs in omega (arith, rest)

module _ (cs : List Sort) (ns : List Node) where
  module _ (locals : Env Sort) where
    abbrev pub IsSound : Sorted → Type 0
    IsSound t = IsSoundTerm cs ns locals t.term t.sort

    abbrev pub IsSoundRead : Read Sorted → Type 0
    IsSoundRead r = IfSound r IsSound

    abbrev AreSound : List Argument → Type 0
    AreSound [] = Unit {0}
    AreSound (a ∷ rest) = IsSoundRead a.read × AreSound rest

    placed_sound : (xs : List Placed) → AreSound (arguments xs) → AreSoundTerms cs ns locals (terms_of (arguments xs)) (sorts_at xs)
    placed_sound [] h = tt
    placed_sound (x ∷ xs) h = (h.0, placed_sound xs h.1)

    function_placed : (op : Operator) (closing : Word) (xs : List Placed) → AreSound (arguments xs) → IsSoundRead (function_read op closing (arguments xs))
    function_placed op closing xs h =
        let args = arguments xs in
        let first = argument_sort args 0 in
        let second = argument_sort args 1 in
        unless_sound {A = Sorted} (own_faults args ++ misfits (wanted op first second) 0 args ++ missing (least op) closing args ++ surplus (most op) args)
        (Sound (record { term = Applied op (terms_of args); sort = result_sort op first second })) IsSound (λ e.
        let all = own_faults args ++ misfits (wanted op first second) 0 args in
        let three = both_none (all ++ missing (least op) closing args) (surplus (most op) args) e in
        let two = both_none all (missing (least op) closing args) three.0 in
        let one = both_none (own_faults args) (misfits (wanted op first second) 0 args) two.0 in
        (sorts_at xs, placed_sound xs h, function_takes op xs closing one.1 two.1 three.1))

    macro_placed : (ps : List Parameter) (s : Sort) (body : Term) (closing : Word) (xs : List Placed) → IsSoundTerm cs ns (sorts_of_parameters ps) body s → AreSound (arguments xs)
        → IsSoundRead (macro_read ps s body closing (arguments xs))
    macro_placed ps s body closing xs well h =
        let args = arguments xs in
        unless_sound {A = Sorted} (own_faults args ++ parameter_misfits ps args ++ missing (length ps) closing args ++ surplus (Some (length ps)) args)
        (Sound (record { term = Called (map (λ q. q.name) ps) body (terms_of args); sort = s })) IsSound (λ e.
        let all = own_faults args ++ parameter_misfits ps args in
        let three = both_none (all ++ missing (length ps) closing args) (surplus (Some (length ps)) args) e in
        let two = both_none all (missing (length ps) closing args) three.0 in
        let one = both_none (own_faults args) (parameter_misfits ps args) two.0 in
        let long = long_enough (word_fault 5 closing) (length args) (length ps) two.1 in
        let short = short_enough (length ps) args three.1 in
        let same = parameters_take ps xs one.1 (omega (arith, long, arguments_length xs)) (omega (arith, short, arguments_length xs)) in
        (sorts_at xs, placed_sound xs h, subst (λ env. IsSoundTerm cs ns env body s) (sym (ap (λ ss. zip (map (λ q. q.name) ps) ss) same ∙ zip_parameters ps)) well))

    -- a part that is judged where the arguments have no fault
    own_first : (fs a b c : List Fault) (r : Read Sorted) → (fs ≡ [] → IsSoundRead (unless (fs ++ a ++ b ++ c) r)) → IsSoundRead (unless (fs ++ a ++ b ++ c) r)
    own_first [] a b c r h = h refl
    own_first (f ∷ fs) a b c r h = tt

    function_sound : (op : Operator) (closing : Word) (args : List Argument) → AreSound args → IsSoundRead (function_read op closing args)
    function_sound op closing args h =
        let first = argument_sort args 0 in
        let second = argument_sort args 1 in
        own_first (own_faults args) (misfits (wanted op first second) 0 args) (missing (least op) closing args) (surplus (most op) args)
        (Sound (record { term = Applied op (terms_of args); sort = result_sort op first second })) (λ e.
        let placed = faultless args e in
        subst (λ args. IsSoundRead (function_read op closing args)) (sym placed.1) (function_placed op closing placed.0 (subst AreSound placed.1 h)))

    macro_sound : (ps : List Parameter) (s : Sort) (body : Term) (closing : Word) (args : List Argument) → IsSoundTerm cs ns (sorts_of_parameters ps) body s → AreSound args
        → IsSoundRead (macro_read ps s body closing args)
    macro_sound ps s body closing args well h =
        own_first (own_faults args) (parameter_misfits ps args) (missing (length ps) closing args) (surplus (Some (length ps)) args)
        (Sound (record { term = Called (map (λ q. q.name) ps) body (terms_of args); sort = s })) (λ e.
        let placed = faultless args e in
        subst (λ args. IsSoundRead (macro_read ps s body closing args)) (sym placed.1) (macro_placed ps s body closing placed.0 well (subst AreSound placed.1 h)))

    -- Variables

    abbrev AreBound : List Binding → Type 0
    AreBound [] = Unit {0}
    AreBound (b ∷ bs) = IsSoundRead b.value × AreBound bs

    abbrev AllSound : List Sorted → Type 0
    AllSound [] = Unit {0}
    AllSound (t ∷ ts) = IsSound t × AllSound ts

    value_first : (r : Read Sorted) (ts : List Sorted) → IsSoundRead r → AllSound ts → AllSound (elim r [ Sound t ↦ t ∷ ts | Faulty f fs ↦ ts ])
    value_first (Sound t) ts h g = (h, g)
    value_first (Faulty f fs) ts h g = g

    values_sound : (bs : List Binding) → AreBound bs → AllSound (values bs)
    values_sound [] h = tt
    values_sound (b ∷ bs) h = value_first b.value (values bs) h.0 (values_sound bs h.1)

    bound_sound : (closing : Word) (bs : List Binding) → AreBound bs → IfSound (bound_read closing bs) (λ b. AllSound b.terms)
    bound_sound closing bs h =
        unless_sound {A = Bound} (some_binding closing bs ++ binding_faults bs ++ twice [] (variables bs)) (Sound (record { names = map (λ n. n.name) (variables bs); terms = values bs }))
        (λ b. AllSound b.terms) (λ e. values_sound bs h)

    terms_sound : (ts : List Sorted) → AllSound ts → AreSoundTerms cs ns locals (terms_of_bound ts) (map (λ t. t.sort) ts)
    terms_sound [] h = tt
    terms_sound (t ∷ ts) h = (h.0, terms_sound ts h.1)

  body_sound : (locals : Env Sort) (b : Bound) (r : Read Sorted) → AllSound locals b.terms → IsSoundRead (locals_of b ++ locals) r → IsSoundRead locals (read_map (let_term b) r)
  body_sound locals b (Sound t) h g = (map (λ t. t.sort) b.terms, terms_sound locals b.terms h, g)
  body_sound locals b (Faulty f fs) h g = tt

  -- Names and constants

  module _ (limit : ℕ) (scope : Scope) (well : IsSoundScope cs ns scope) where
    meant_sound : (locals : Env Sort) (w : Word) (name : Name) (o : Option Meant) → found scope.names name ≡ o → IsSoundRead locals (term_meant w o)
    meant_sound locals w name None e = tt
    meant_sound locals w name (Some (AsConstant k s)) e = (refl, well.names name (AsConstant k s) e)
    meant_sound locals w name (Some (AsTerm s t)) e = well.names name (AsTerm s t) e
    meant_sound locals w name (Some (AsMacro ps s t)) e = tt

    variable_sound : (locals : Env Sort) (w : Word) (name : Name) (o : Option Sort) → found locals name ≡ o
        → IsSoundRead locals (elim o [ Some s ↦ Sound (record { term = Variable name; sort = s }) | None ↦ term_meant w (found scope.names name) ])
    variable_sound locals w name None e = meant_sound locals w name (found scope.names name) refl
    variable_sound locals w name (Some s) e = e

    pub named_sound : (locals : Env Sort) (w : Word) (name : Name) → IsSoundRead locals (term_named scope locals w name)
    named_sound locals w name =
        either_sound (bytes_eq name (codes "true")) _ _ (IsSound locals) refl
        (either_sound (bytes_eq name (codes "false")) _ _ (IsSound locals) refl
        (either_sound (is_theory_name name) _ _ (IsSound locals) tt (variable_sound locals w name (found locals name) refl)))

    word_sound : (locals : Env Sort) (w : Word) (o : Option Name) → IsSoundRead locals (elim o [ None ↦ faulty 5 w | Some name ↦ term_named scope locals w name ])
    word_sound locals w None = tt
    word_sound locals w (Some name) = named_sound locals w name

    literal_of : (locals : Env Sort) (w : Word) (p : ℕ) (r : Read Signed) (b : Bool) → is_order p ≡ b → IsSoundRead locals (unless (if b then [] else word_fault 11 w ∷ []) (read_map (λ n. number_term n p) r))
    literal_of locals w p r true e = map_sound (λ n. number_term n p) r (IsSound locals) (all_sound r (λ n. IsSound locals (number_term n p)) (λ n. (refl, order_good p e)))
    literal_of locals w p r false e = tt

    literal_sound : (locals : Env Sort) (w : Word) → IsSoundRead locals (literal_read w)
    literal_sound locals w = literal_of locals w (literal_order w.bytes) (number_read w (literal_number w.bytes)) (is_order (literal_order w.bytes)) refl

    leaf_sound : (locals : Env Sort) (k : TokenKind) (w : Word) → IsSoundRead locals (leaf_by_kind scope locals k w)
    leaf_sound locals kinds.FieldLiteral w = literal_sound locals w
    leaf_sound locals _ w = word_sound locals w (name_of w)

    as_sound : (locals : Env Sort) (closing : Word) (items : List Tree) → IsSoundRead locals (as_read scope closing items)
    as_sound locals closing items =
        map_sound (λ parts. number_term parts.0 parts.1.0) _ (IsSound locals)
        (as_items (item closing constant_read (item closing (field_read scope.sorts) last) items)
        (item_second closing constant_read (item closing (field_read scope.sorts) last) items (λ p. IsOrder p.0)
        (λ ts. item_first closing (field_read scope.sorts) last ts IsOrder (λ t. field_read_good scope.sorts t well.sorts))))
      where
        as_items : (r : Read (Signed × (ℕ × Unit {0}))) → IfSound r (λ parts. IsOrder parts.1.0) → IfSound r (λ parts. IsSound locals (number_term parts.0 parts.1.0))
        as_items (Sound parts) h = (refl, h)
        as_items (Faulty f fs) h = tt

    -- the head of an application
    abbrev HeadSound : Head → Type 0
    HeadSound LetHead = Unit {0}
    HeadSound AsHead = Unit {0}
    HeadSound (Function op) = Unit {0}
    HeadSound (Macro ps s t) = IsSoundTerm cs ns (sorts_of_parameters ps) t s
    HeadSound (NoHead code) = Unit {0}

    either_head : (b : Bool) (h g : Head) → HeadSound h → HeadSound g → HeadSound (if b then h else g)
    either_head true h g x y = x
    either_head false h g x y = y

    head_meant_sound : (name : Name) (o : Option Meant) → found scope.names name ≡ o → HeadSound (head_meant o)
    head_meant_sound name None e = tt
    head_meant_sound name (Some (AsConstant k s)) e = tt
    head_meant_sound name (Some (AsTerm s t)) e = tt
    head_meant_sound name (Some (AsMacro ps s t)) e = well.names name (AsMacro ps s t) e

    head_local_sound : (name : Name) (o : Option Sort) → HeadSound (elim o [ Some s ↦ NoHead 5 | None ↦ head_meant (found scope.names name) ])
    head_local_sound name None = head_meant_sound name (found scope.names name) refl
    head_local_sound name (Some s) = tt

    head_operator_sound : (locals : Env Sort) (name : Name) (o : Option Operator)
        → HeadSound (elim o [ Some op ↦ Function op | None ↦ if is_theory_name name then NoHead 5 else (elim (found locals name) [ Some s ↦ NoHead 5 | None ↦ head_meant (found scope.names name) ]) ])
    head_operator_sound locals name None = either_head (is_theory_name name) (NoHead 5) _ tt (head_local_sound name (found locals name))
    head_operator_sound locals name (Some op) = tt

    head_word_sound : (locals : Env Sort) (o : Option Name) → HeadSound (elim o [ None ↦ NoHead 5 | Some name ↦ head_named scope locals name ])
    head_word_sound locals None = tt
    head_word_sound locals (Some name) = head_operator_sound locals name (found operators name)

    head_sound : (locals : Env Sort) (w : Word) → HeadSound (head_of scope locals w)
    head_sound locals w = either_head (is_word (codes "let") w) LetHead _ tt (either_head (is_word (codes "as") w) AsHead _ tt (head_word_sound locals (name_of w)))

    height_sound : (locals : Env Sort) (opening : Word) (r : Read Sorted) → IsSoundRead locals r → IsSoundRead locals (behind r (of_height limit opening))
    height_sound locals opening r h =
        behind_sound r (of_height limit opening) (IsSound locals) (IsSound locals) h (λ t g. either_sound (nat_lt limit (height t.term)) _ _ (IsSound locals) tt g)

    application_sound : (locals : Env Sort) (opening w closing : Word) (rest : Trees) (h : Head) → HeadSound h
        → IsSoundRead locals (let_read limit scope locals closing rest) → AreSound locals (arguments_read limit scope locals rest)
        → IsSoundRead locals (elim h [
          | LetHead ↦ behind (let_read limit scope locals closing rest) (of_height limit opening)
          | AsHead ↦ as_read scope closing (items_of rest)
          | Function op ↦ behind (function_read op closing (arguments_read limit scope locals rest)) (of_height limit opening)
          | Macro parameters s body ↦ behind (macro_read parameters s body closing (arguments_read limit scope locals rest)) (of_height limit opening)
          | NoHead code ↦ faulty code w
        ])
    application_sound locals opening w closing rest LetHead g l a = height_sound locals opening _ l
    application_sound locals opening w closing rest AsHead g l a = as_sound locals closing (items_of rest)
    application_sound locals opening w closing rest (Function op) g l a = height_sound locals opening _ (function_sound locals op closing _ a)
    application_sound locals opening w closing rest (Macro ps s t) g l a = height_sound locals opening _ (macro_sound locals ps s t closing _ g a)
    application_sound locals opening w closing rest (NoHead code) g l a = tt

    mutual
      unfolding term_read

      pub term_sound : (t : Tree) (locals : Env Sort) → IsSoundRead locals (term_read limit scope locals t)
      term_sound (Leaf w) locals = leaf_sound locals w.kind w
      term_sound (Group opening Empty closing) locals = tt
      term_sound (Group opening (First (Group o items c) rest) closing) locals = tt
      term_sound (Group opening (First (Leaf w) rest) closing) locals =
          application_sound locals opening w closing rest (head_of scope locals w) (head_sound locals w) (let_sound rest locals closing) (arguments_sound rest locals)

      arguments_sound : (ts : Trees) (locals : Env Sort) → AreSound locals (arguments_read limit scope locals ts)
      arguments_sound Empty locals = tt
      arguments_sound (First t ts) locals = (term_sound t locals, arguments_sound ts locals)

      let_sound : (ts : Trees) (locals : Env Sort) (closing : Word) → IsSoundRead locals (let_read limit scope locals closing ts)
      let_sound Empty locals closing = tt
      let_sound (First (Leaf w) rest) locals closing = tt
      let_sound (First (Group o bindings c) Empty) locals closing = unless_sound (faults (bound_read c (bindings_read limit scope locals bindings))) (faulty {A = Sorted} 5 closing) (IsSound locals) (λ e. tt)
      let_sound (First (Group o bindings c) (First body rest)) locals closing =
          behind_sound (bound_read c (bindings_read limit scope locals bindings)) _ (λ b. AllSound locals b.terms) (IsSound locals)
          (bound_sound locals c (bindings_read limit scope locals bindings) (bindings_sound bindings locals))
          (λ b g. body_sound locals b _ g (unless_sound (no_more (items_of rest)) (term_read limit scope (locals_of b ++ locals) body) (IsSound (locals_of b ++ locals)) (λ e. term_sound body (locals_of b ++ locals))))

      bindings_sound : (ts : Trees) (locals : Env Sort) → AreBound locals (bindings_read limit scope locals ts)
      bindings_sound Empty locals = tt
      bindings_sound (First t ts) locals = (binding_sound t locals, bindings_sound ts locals)

      binding_sound : (t : Tree) (locals : Env Sort) → IsSoundRead locals ((binding_read limit scope locals t).value)
      binding_sound (Leaf w) locals = tt
      binding_sound (Group o Empty c) locals = tt
      binding_sound (Group o (First x Empty) c) locals = tt
      binding_sound (Group o (First x (First t rest)) c) locals = unless_sound (no_more (items_of rest)) (term_read limit scope locals t) (IsSound locals) (λ e. term_sound t locals)

pub read_terms_are_sound : (limit : ℕ) (scope : Scope) (locals : Env Sort) (tree : Tree) (t : Sorted) (cs : List Sort) (ns : List Node) → IsSoundScope cs ns scope
    → term_read limit scope locals tree ≡ Sound t → IsSoundTerm cs ns locals t.term t.sort
read_terms_are_sound limit scope locals tree t cs ns well e = subst (IsSoundRead cs ns locals) e (term_sound cs ns limit scope well tree locals)
