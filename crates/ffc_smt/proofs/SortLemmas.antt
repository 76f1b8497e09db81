-- A term that is read has the sort that it was read with.
use Rattle.std.proofs.Common.{◌≡◌, ℕ, ◌≤◌, nat_lt, if◌then◌else◌, Bool, true, false, List, [], ◌∷◌, ◌++◌, length, drop, map, zip, Some, None, Option, unwrap_or, refl, sym, ap, ◌∙◌, subst, arith, length-drop}
use Rattle.std.proofs.lemmas.Bool.Decides.{nat_tests, Decides-eqb}
use Rattle.std.specs.Str.{bytes_eq}
use Rattle.std.specs.Prelude.{codes}
use Rattle.ffc_lex.specs.declared.tokens.TokenKind.{TokenKind}
use Rattle.ffc_lex.specs.declared.tokens.TokenKind.TheVariants as kinds
use Rattle.ffc_lex.specs.Names.{is_theory_name}
use Rattle.ffc_term.specs.declared.node.Sort.{Sort}
use Rattle.ffc_term.specs.declared.node.Sort.TheVariants as sort
use Rattle.ffc_term.specs.declared.value.Value.{Value}
use Rattle.ffc_smt.specs.Trees.{Word, Tree, Leaf, Group, Trees, Empty, First, items_of, name_of}
use Rattle.ffc_smt.specs.Terms.{Name, Operator, Not, And, Or, Xor, Implies, Equal, Distinct, Ite, Add, Mul, Neg, Bitsum, Term, Variable, Applied, Called, height, Parameter}
use Rattle.ffc_smt.specs.Meaning.{Env, found, Element, TruthValue, FieldValue, order, truth, sort_of, applied, constant_value, val, vals}
use Rattle.ffc_smt.specs.Numbers.{Signed, literal_order, literal_number}
use Rattle.ffc_smt.specs.Scopes.{Meant, AsConstant, AsTerm, AsMacro, Scope}
use Rattle.ffc_smt.specs.Faults.{Fault, word_fault, Read, Sound, Faulty, faults, faulty, read_map, behind, no_more}
use Rattle.ffc_smt.specs.TermReading.{Sorted, Argument, Wanted, AnyField, Only, is_sort, is_field, is_wanted, same_as, misfit, misfits, own_faults, missing, surplus, first_place, terms_of, wanted, least, most, result_sort, argument_sort, operators, Head, LetHead, AsHead, Function, Macro, NoHead, head_meant, head_named, head_of, is_word, term_meant, term_named, number_term, number_read, literal_read, as_read, leaf_by_kind, Binding, binding_faults, variables, twice, values, Bound, some_binding, bound_read, locals_of, terms_of_bound, let_term, of_height, function_read, parameter_misfits, macro_read, term_read, arguments_read, let_read, bindings_read, binding_read}
use Rattle.ffc_smt.specs.Sorting.{AreOfSorts, HasSort, sorts_of_parameters, IsSortedScope}
use Rattle.ffc_smt.proofs.ReadLemmas.{IfSound, all_sound, unless_sound, map_sound, behind_sound, either_sound, both_none}

-- the sort of an operation on fields
field_sort : (x : Element) (p : ℕ) → sort_of x ≡ sort.Field p → sort.Field (order x) ≡ sort.Field p
field_sort (TruthValue b) p e = cc
field_sort (FieldValue q n) p e = e

abbrev IsBool : Operator → List Element → Type 0
IsBool op xs = sort_of (applied op xs) ≡ sort.Bool

not_bool : (xs : List Element) → IsBool Not xs
not_bool [] = refl
not_bool (x ∷ []) = refl
not_bool (x ∷ y ∷ xs) = refl

and_bool : (xs : List Element) → IsBool And xs
and_bool [] = refl
and_bool (x ∷ xs) = refl

or_bool : (xs : List Element) → IsBool Or xs
or_bool [] = refl
or_bool (x ∷ xs) = refl

xor_bool : (xs : List Element) → IsBool Xor xs
xor_bool [] = refl
xor_bool (x ∷ []) = refl
xor_bool (x ∷ y ∷ xs) = refl

implies_bool : (xs : List Element) → IsBool Implies xs
implies_bool [] = refl
implies_bool (x ∷ []) = refl
implies_bool (x ∷ y ∷ xs) = refl

equal_bool : (xs : List Element) → IsBool Equal xs
equal_bool [] = refl
equal_bool (x ∷ []) = refl
equal_bool (x ∷ y ∷ xs) = refl

distinct_bool : (xs : List Element) → IsBool Distinct xs
distinct_bool [] = refl
distinct_bool (x ∷ []) = refl
distinct_bool (x ∷ y ∷ xs) = refl

pub same_sort : (s t : Sort) → is_sort s t ≡ true → t ≡ s
same_sort sort.Bool sort.Bool e = refl
same_sort sort.Bool (sort.Field q) e = cc
same_sort (sort.Field p) sort.Bool e = cc
same_sort (sort.Field p) (sort.Field q) e = ap sort.Field (sym ((Decides-eqb p q).0 e))

a_field : (s : Sort) → is_field s ≡ true → (p : ℕ) × (s ≡ sort.Field p)
a_field sort.Bool e = cc
a_field (sort.Field p) e = (p, refl)

-- a term that is no misfit
pub no_misfit : (w : Wanted) (at : Word) (t : Sorted) → misfit w at (Sound t) ≡ [] → is_wanted w t.sort ≡ true
no_misfit w at t e = by_test (is_wanted w t.sort) e
  where
    by_test : (b : Bool) → (if b then [] else word_fault 10 at ∷ []) ≡ [] → b ≡ true
    by_test true e = refl
    by_test false e = cc

-- how many arguments there are

pub long_enough : (f : Fault) (len n : ℕ) → (if nat_lt len n then f ∷ [] else []) ≡ [] → n ≤ len
long_enough f len n e = by_test (nat_lt len n) refl e
  where
    by_test : (b : Bool) → nat_lt len n ≡ b → (if b then f ∷ [] else []) ≡ [] → n ≤ len
    by_test true e d = cc
    by_test false e d = grind (arith, nat_tests)

nothing_first : (args : List Argument) → first_place args ≡ [] → args ≡ []
nothing_first [] e = refl
nothing_first (a ∷ args) e = cc

pub short_enough : (n : ℕ) (args : List Argument) → surplus (Some n) args ≡ [] → length args ≤ n
short_enough n args e = let d = ap (length {A = Argument}) (nothing_first (drop n args) e) in omega (arith, d, length-drop n args)

module _ (locals : Env Sort) where
  abbrev pub IsTyped : Sorted → Type 0
  IsTyped t = HasSort locals t.term t.sort

  abbrev pub IsSortedRead : Read Sorted → Type 0
  IsSortedRead r = IfSound r IsTyped

  abbrev AreSorted : List Argument → Type 0
  AreSorted [] = Unit {0}
  AreSorted (a ∷ rest) = IsSortedRead a.read × AreSorted rest

  own_none : (a : Argument) (rest : List Argument) → own_faults (a ∷ rest) ≡ [] → (faults a.read ≡ []) × (own_faults rest ≡ [])
  own_none a rest e = both_none (faults a.read) (own_faults rest) e

  -- an operation on a field: its value is of the field of its first argument
  abbrev FieldOperator : Operator → Type 0
  FieldOperator op = (x : Element) (xs : List Element) → sort_of (applied op (x ∷ xs)) ≡ sort.Field (order x)

  field_first : (op : Operator) (at : Word) (r : Read Sorted) (rest : List Argument) → FieldOperator op → IsSortedRead r → faults r ≡ [] → misfit AnyField at r ≡ []
      → HasSort locals (Applied op (terms_of (record { at = at; read = r } ∷ rest))) (unwrap_or (argument_sort (record { at = at; read = r } ∷ rest) 0) sort.Bool)
  unfolding val
  field_first op at (Sound t) rest is h own mis env A agree =
      let field = a_field t.sort (no_misfit AnyField at t mis) in
      let x = val env A t.term in
      is x (vals env A (terms_of rest)) ∙ field_sort x field.0 (h env A agree ∙ field.1) ∙ sym field.1
  field_first op at (Faulty f fs) rest is h own mis env A agree = cc

  if_sort : (b : Bool) (x y : Element) (s : Sort) → sort_of x ≡ s → sort_of y ≡ s → sort_of (if b then x else y) ≡ s
  if_sort true x y s e f = e
  if_sort false x y s e f = f

  ite_three : (c a b : Word) (z x y : Read Sorted) → IsSortedRead x → IsSortedRead y → faults z ≡ [] → faults x ≡ [] → faults y ≡ []
      → misfit (same_as (argument_sort (record { at = c; read = z } ∷ record { at = a; read = x } ∷ record { at = b; read = y } ∷ []) 1)) b y ≡ []
      → HasSort locals (Applied Ite (terms_of (record { at = c; read = z } ∷ record { at = a; read = x } ∷ record { at = b; read = y } ∷ [])))
      (unwrap_or (argument_sort (record { at = c; read = z } ∷ record { at = a; read = x } ∷ record { at = b; read = y } ∷ []) 1) sort.Bool)
  unfolding val
  ite_three c a b (Sound z) (Sound x) (Sound y) g h e1 e2 e3 mis env A agree =
      if_sort (truth (val env A z.term)) (val env A x.term) (val env A y.term) x.sort (g env A agree)
      (h env A agree ∙ same_sort x.sort y.sort (no_misfit (Only x.sort) b y mis))
  ite_three c a b (Faulty f fs) x y g h e1 e2 e3 mis env A agree = cc
  ite_three c a b (Sound z) (Faulty f fs) y g h e1 e2 e3 mis env A agree = cc
  ite_three c a b (Sound z) (Sound x) (Faulty f fs) g h e1 e2 e3 mis env A agree = cc

  ite_case : (closing : Word) (args : List Argument) → AreSorted args → own_faults args ≡ [] → misfits (wanted Ite (argument_sort args 0) (argument_sort args 1)) 0 args ≡ []
      → missing 3 closing args ≡ [] → surplus (Some 3) args ≡ [] → HasSort locals (Applied Ite (terms_of args)) (unwrap_or (argument_sort args 1) sort.Bool)
  ite_case closing [] h own mis miss more = cc
  ite_case closing (c ∷ []) h own mis miss more = cc
  ite_case closing (c ∷ a ∷ []) h own mis miss more = cc
  ite_case closing (c ∷ a ∷ b ∷ []) h own mis miss more =
      let one = own_none c (a ∷ b ∷ []) own in
      let two = own_none a (b ∷ []) one.1 in
      let three = own_none b [] two.1 in
      let rest = (both_none _ _ mis).1 in
      ite_three c.at a.at b.at c.read a.read b.read h.1.0 h.1.1.0 one.0 two.0 three.0 (both_none _ [] ((both_none _ _ rest).1)).0
  ite_case closing (c ∷ a ∷ b ∷ d ∷ rest) h own mis miss more = cc

  neg_first : (at : Word) (r : Read Sorted) → IsSortedRead r → faults r ≡ [] → misfit AnyField at r ≡ []
      → HasSort locals (Applied Neg (terms_of (record { at = at; read = r } ∷ []))) (unwrap_or (argument_sort (record { at = at; read = r } ∷ []) 0) sort.Bool)
  unfolding val
  neg_first at (Sound t) h own mis env A agree =
      let field = a_field t.sort (no_misfit AnyField at t mis) in
      field_sort (val env A t.term) field.0 (h env A agree ∙ field.1) ∙ sym field.1
  neg_first at (Faulty f fs) h own mis env A agree = cc

  function_case : (op : Operator) (closing : Word) (args : List Argument) → AreSorted args → own_faults args ≡ []
      → misfits (wanted op (argument_sort args 0) (argument_sort args 1)) 0 args ≡ [] → missing (least op) closing args ≡ [] → surplus (most op) args ≡ []
      → HasSort locals (Applied op (terms_of args)) (result_sort op (argument_sort args 0) (argument_sort args 1))
  unfolding val
  function_case Not closing args h own mis miss more env A agree = not_bool (vals env A (terms_of args))
  function_case And closing args h own mis miss more env A agree = and_bool (vals env A (terms_of args))
  function_case Or closing args h own mis miss more env A agree = or_bool (vals env A (terms_of args))
  function_case Xor closing args h own mis miss more env A agree = xor_bool (vals env A (terms_of args))
  function_case Implies closing args h own mis miss more env A agree = implies_bool (vals env A (terms_of args))
  function_case Equal closing args h own mis miss more env A agree = equal_bool (vals env A (terms_of args))
  function_case Distinct closing args h own mis miss more env A agree = distinct_bool (vals env A (terms_of args))
  function_case Ite closing args h own mis miss more env A agree = ite_case closing args h own mis miss more env A agree
  function_case Add closing [] h own mis miss more env A agree = cc
  function_case Add closing (a ∷ rest) h own mis miss more env A agree = field_first Add a.at a.read rest (λ x xs. refl) h.0 (own_none a rest own).0 (both_none _ _ mis).0 env A agree
  function_case Mul closing [] h own mis miss more env A agree = cc
  function_case Mul closing (a ∷ rest) h own mis miss more env A agree = field_first Mul a.at a.read rest (λ x xs. refl) h.0 (own_none a rest own).0 (both_none _ _ mis).0 env A agree
  function_case Neg closing [] h own mis miss more env A agree = cc
  function_case Neg closing (a ∷ []) h own mis miss more env A agree = neg_first a.at a.read h.0 (own_none a [] own).0 (both_none _ _ mis).0 env A agree
  function_case Neg closing (a ∷ b ∷ rest) h own mis miss more env A agree = cc
  function_case Bitsum closing [] h own mis miss more env A agree = cc
  function_case Bitsum closing (a ∷ rest) h own mis miss more env A agree = field_first Bitsum a.at a.read rest (λ x xs. refl) h.0 (own_none a rest own).0 (both_none _ _ mis).0 env A agree

  function_sorted : (op : Operator) (closing : Word) (args : List Argument) → AreSorted args → IsSortedRead (function_read op closing args)
  function_sorted op closing args h =
      let first = argument_sort args 0 in
      let second = argument_sort args 1 in
      unless_sound {A = Sorted} (own_faults args ++ misfits (wanted op first second) 0 args ++ missing (least op) closing args ++ surplus (most op) args)
      (Sound (record { term = Applied op (terms_of args); sort = result_sort op first second })) IsTyped (λ e.
      let all = own_faults args ++ misfits (wanted op first second) 0 args in
      let three = both_none (all ++ missing (least op) closing args) (surplus (most op) args) e in
      let two = both_none all (missing (least op) closing args) three.0 in
      let one = both_none (own_faults args) (misfits (wanted op first second) 0 args) two.0 in
      function_case op closing args h one.0 one.1 two.1 three.1)

  -- Macros

  parameter_first : (p : Parameter) (at : Word) (r : Read Sorted) (rest : List Argument) (ps : List Parameter) (env : Env Element) (A : List Value)
      → IsSortedRead r → AreOfSorts locals env → faults r ≡ [] → misfit (Only p.sort) at r ≡ []
      → AreOfSorts (sorts_of_parameters ps) (zip (map (λ q. q.name) ps) (vals env A (terms_of rest)))
      → AreOfSorts (sorts_of_parameters (p ∷ ps)) (zip (map (λ q. q.name) (p ∷ ps)) (vals env A (terms_of (record { at = at; read = r } ∷ rest))))
  unfolding val
  parameter_first p at (Sound t) rest ps env A h agree own mis g = (refl, h env A agree ∙ same_sort p.sort t.sort (no_misfit (Only p.sort) at t mis), g)
  parameter_first p at (Faulty f fs) rest ps env A h agree own mis g = cc

  parameters_sorted : (ps : List Parameter) (args : List Argument) (env : Env Element) (A : List Value) → AreSorted args → AreOfSorts locals env → own_faults args ≡ []
      → parameter_misfits ps args ≡ [] → length ps ≤ length args → AreOfSorts (sorts_of_parameters ps) (zip (map (λ q. q.name) ps) (vals env A (terms_of args)))
  parameters_sorted [] args env A h agree own mis long = tt
  parameters_sorted (p ∷ ps) [] env A h agree own mis long = absurd (omega arith)
  parameters_sorted (p ∷ ps) (a ∷ rest) env A h agree own mis long =
      let one = own_none a rest own in
      let two = both_none (misfit (Only p.sort) a.at a.read) (parameter_misfits ps rest) mis in
      parameter_first p a.at a.read rest ps env A h.0 agree one.0 two.0 (parameters_sorted ps rest env A h.1 agree one.1 two.1 (omega arith))

  macro_sorted : (ps : List Parameter) (s : Sort) (body : Term) (closing : Word) (args : List Argument) → HasSort (sorts_of_parameters ps) body s → AreSorted args
      → IsSortedRead (macro_read ps s body closing args)
  unfolding val
  macro_sorted ps s body closing args well h =
      unless_sound {A = Sorted} (own_faults args ++ parameter_misfits ps args ++ missing (length ps) closing args ++ surplus (Some (length ps)) args)
      (Sound (record { term = Called (map (λ q. q.name) ps) body (terms_of args); sort = s })) IsTyped (λ e env A agree.
      let all = own_faults args ++ parameter_misfits ps args in
      let three = both_none (all ++ missing (length ps) closing args) (surplus (Some (length ps)) args) e in
      let two = both_none all (missing (length ps) closing args) three.0 in
      let one = both_none (own_faults args) (parameter_misfits ps args) two.0 in
      well (zip (map (λ q. q.name) ps) (vals env A (terms_of args))) A
      (parameters_sorted ps args env A h agree one.0 one.1 (long_enough (word_fault 5 closing) (length args) (length ps) two.1)))

  -- Variables

  abbrev AreBound : List Binding → Type 0
  AreBound [] = Unit {0}
  AreBound (b ∷ bs) = IsSortedRead b.value × AreBound bs

  abbrev AllTyped : List Sorted → Type 0
  AllTyped [] = Unit {0}
  AllTyped (t ∷ ts) = IsTyped t × AllTyped ts

  value_first : (r : Read Sorted) (ts : List Sorted) → IsSortedRead r → AllTyped ts → AllTyped (elim r [ Sound t ↦ t ∷ ts | Faulty f fs ↦ ts ])
  value_first (Sound t) ts h g = (h, g)
  value_first (Faulty f fs) ts h g = g

  values_typed : (bs : List Binding) → AreBound bs → AllTyped (values bs)
  values_typed [] h = tt
  values_typed (b ∷ bs) h = value_first b.value (values bs) h.0 (values_typed bs h.1)

  bound_typed : (closing : Word) (bs : List Binding) → AreBound bs → IfSound (bound_read closing bs) (λ b. AllTyped b.terms)
  bound_typed closing bs h =
      unless_sound {A = Bound} (some_binding closing bs ++ binding_faults bs ++ twice [] (variables bs)) (Sound (record { names = map (λ n. n.name) (variables bs); terms = values bs }))
      (λ b. AllTyped b.terms) (λ e. values_typed bs h)

  zip_typed : (names : List Name) (ts : List Sorted) (env : Env Element) (A : List Value) → AllTyped ts → AreOfSorts locals env
      → AreOfSorts (zip names (map (λ t. t.sort) ts) ++ locals) (zip names (vals env A (terms_of_bound ts)) ++ env)
  unfolding val
  zip_typed [] ts env A h agree = agree
  zip_typed (n ∷ names) [] env A h agree = agree
  zip_typed (n ∷ names) (t ∷ ts) env A h agree = (refl, h.0 env A agree, zip_typed names ts env A h.1 agree)

  -- Names

  abbrev FoundOfSort : Option Sort → Option Element → Type 0
  FoundOfSort None None = Unit {0}
  FoundOfSort None (Some y) = ⊥
  FoundOfSort (Some x) None = ⊥
  FoundOfSort (Some x) (Some y) = sort_of y ≡ x

  variable_sort : (s : Sort) (o : Option Sort) (p : Option Element) → o ≡ Some s → FoundOfSort o p → sort_of (unwrap_or p (TruthValue false)) ≡ s
  variable_sort s None p e h = cc
  variable_sort s (Some x) None e h = absurd h
  variable_sort s (Some x) (Some y) e h = let same : x ≡ s = cc in h ∙ same

found_test : (b : Bool) (x : Sort) (y : Element) (o : Option Sort) (p : Option Element) → sort_of y ≡ x → FoundOfSort [] o p → FoundOfSort [] (if b then Some x else o) (if b then Some y else p)
found_test true x y o p h g = h
found_test false x y o p h g = g

found_sort : (locals : Env Sort) (env : Env Element) (name : Name) → AreOfSorts locals env → FoundOfSort [] (found locals name) (found env name)
found_sort [] [] name h = tt
found_sort [] (y ∷ ys) name h = absurd h
found_sort (x ∷ xs) [] name h = absurd h
found_sort (x ∷ xs) (y ∷ ys) name h =
    subst (λ n. FoundOfSort [] (found (x ∷ xs) name) (if bytes_eq n name then Some y.1 else found ys name)) h.0
    (found_test (bytes_eq x.0 name) x.1 y.1 (found xs name) (found ys name) h.1 (found_sort xs ys name h.2))

constant_sort : (A : List Value) (k : ℕ) (s : Sort) → sort_of (constant_value A k s) ≡ s
constant_sort A k sort.Bool = refl
constant_sort A k (sort.Field p) = refl

module _ (limit : ℕ) (scope : Scope) (well : IsSortedScope scope) where
  meant_typed : (locals : Env Sort) (w : Word) (name : Name) (o : Option Meant) → found scope.names name ≡ o → IsSortedRead locals (term_meant w o)
  unfolding val
  meant_typed locals w name None e = tt
  meant_typed locals w name (Some (AsConstant k s)) e = λ env A agree. constant_sort A k s
  meant_typed locals w name (Some (AsTerm s t)) e = λ env A agree. well name (AsTerm s t) e [] A tt
  meant_typed locals w name (Some (AsMacro ps s t)) e = tt

  variable_typed : (locals : Env Sort) (w : Word) (name : Name) (o : Option Sort) → found locals name ≡ o
      → IsSortedRead locals (elim o [ Some s ↦ Sound (record { term = Variable name; sort = s }) | None ↦ term_meant w (found scope.names name) ])
  unfolding val
  variable_typed locals w name None e = meant_typed locals w name (found scope.names name) refl
  variable_typed locals w name (Some s) e = λ env A agree. variable_sort [] s (found locals name) (found env name) e (found_sort locals env name agree)

  pub named_typed : (locals : Env Sort) (w : Word) (name : Name) → IsSortedRead locals (term_named scope locals w name)
  unfolding val
  named_typed locals w name =
      either_sound (bytes_eq name (codes "true")) _ _ (IsTyped locals) (λ env A agree. refl)
      (either_sound (bytes_eq name (codes "false")) _ _ (IsTyped locals) (λ env A agree. refl)
      (either_sound (is_theory_name name) _ _ (IsTyped locals) tt (variable_typed locals w name (found locals name) refl)))

  word_typed : (locals : Env Sort) (w : Word) (o : Option Name) → IsSortedRead locals (elim o [ None ↦ faulty 5 w | Some name ↦ term_named scope locals w name ])
  word_typed locals w None = tt
  word_typed locals w (Some name) = named_typed locals w name

  number_typed : (locals : Env Sort) (n : Signed) (p : ℕ) → IsTyped locals (number_term n p)
  unfolding val
  number_typed locals n p env A agree = refl

  literal_typed : (locals : Env Sort) (w : Word) → IsSortedRead locals (literal_read w)
  literal_typed locals w =
      unless_sound {A = Sorted} _ _ (IsTyped locals) (λ e.
      map_sound (λ n. number_term n (literal_order w.bytes)) (number_read w (literal_number w.bytes)) (IsTyped locals)
      (all_sound (number_read w (literal_number w.bytes)) (λ n. IsTyped locals (number_term n (literal_order w.bytes))) (λ n. number_typed locals n (literal_order w.bytes))))

  leaf_typed : (locals : Env Sort) (k : TokenKind) (w : Word) → IsSortedRead locals (leaf_by_kind scope locals k w)
  leaf_typed locals kinds.FieldLiteral w = literal_typed locals w
  leaf_typed locals _ w = word_typed locals w (name_of w)

  as_typed : (locals : Env Sort) (closing : Word) (items : List Tree) → IsSortedRead locals (as_read scope closing items)
  as_typed locals closing items =
      map_sound (λ parts. number_term parts.0 parts.1.0) _ (IsTyped locals) (all_sound _ (λ parts. IsTyped locals (number_term parts.0 parts.1.0)) (λ parts. number_typed locals parts.0 parts.1.0))

  -- the head of an application
  abbrev HeadSorted : Head → Type 0
  HeadSorted LetHead = Unit {0}
  HeadSorted AsHead = Unit {0}
  HeadSorted (Function op) = Unit {0}
  HeadSorted (Macro ps s t) = HasSort (sorts_of_parameters ps) t s
  HeadSorted (NoHead code) = Unit {0}

  either_head : (b : Bool) (h g : Head) → HeadSorted h → HeadSorted g → HeadSorted (if b then h else g)
  either_head true h g x y = x
  either_head false h g x y = y

  head_meant_sorted : (name : Name) (o : Option Meant) → found scope.names name ≡ o → HeadSorted (head_meant o)
  head_meant_sorted name None e = tt
  head_meant_sorted name (Some (AsConstant k s)) e = tt
  head_meant_sorted name (Some (AsTerm s t)) e = tt
  head_meant_sorted name (Some (AsMacro ps s t)) e = well name (AsMacro ps s t) e

  head_local_sorted : (name : Name) (o : Option Sort) → HeadSorted (elim o [ Some s ↦ NoHead 5 | None ↦ head_meant (found scope.names name) ])
  head_local_sorted name None = head_meant_sorted name (found scope.names name) refl
  head_local_sorted name (Some s) = tt

  head_operator_sorted : (locals : Env Sort) (name : Name) (o : Option Operator)
      → HeadSorted (elim o [ Some op ↦ Function op | None ↦ if is_theory_name name then NoHead 5 else (elim (found locals name) [ Some s ↦ NoHead 5 | None ↦ head_meant (found scope.names name) ]) ])
  head_operator_sorted locals name None = either_head (is_theory_name name) (NoHead 5) _ tt (head_local_sorted name (found locals name))
  head_operator_sorted locals name (Some op) = tt

  head_word_sorted : (locals : Env Sort) (o : Option Name) → HeadSorted (elim o [ None ↦ NoHead 5 | Some name ↦ head_named scope locals name ])
  head_word_sorted locals None = tt
  head_word_sorted locals (Some name) = head_operator_sorted locals name (found operators name)

  head_sorted : (locals : Env Sort) (w : Word) → HeadSorted (head_of scope locals w)
  head_sorted locals w = either_head (is_word (codes "let") w) LetHead _ tt (either_head (is_word (codes "as") w) AsHead _ tt (head_word_sorted locals (name_of w)))

  height_typed : (locals : Env Sort) (opening : Word) (r : Read Sorted) → IsSortedRead locals r → IsSortedRead locals (behind r (of_height limit opening))
  height_typed locals opening r h =
      behind_sound r (of_height limit opening) (IsTyped locals) (IsTyped locals) h (λ t g. either_sound (nat_lt limit (height t.term)) _ _ (IsTyped locals) tt g)

  body_typed : (locals : Env Sort) (b : Bound) (r : Read Sorted) → AllTyped locals b.terms → IsSortedRead (locals_of b ++ locals) r → IsSortedRead locals (read_map (let_term b) r)
  unfolding val
  body_typed locals b (Sound t) h g = λ env A agree. g (zip b.names (vals env A (terms_of_bound b.terms)) ++ env) A (zip_typed locals b.names b.terms env A h agree)
  body_typed locals b (Faulty f fs) h g = tt

  application_typed : (locals : Env Sort) (opening w closing : Word) (rest : Trees) (h : Head) → HeadSorted h
      → IsSortedRead locals (let_read limit scope locals closing rest) → AreSorted locals (arguments_read limit scope locals rest)
      → IsSortedRead locals (elim h [
        | LetHead ↦ behind (let_read limit scope locals closing rest) (of_height limit opening)
        | AsHead ↦ as_read scope closing (items_of rest)
        | Function op ↦ behind (function_read op closing (arguments_read limit scope locals rest)) (of_height limit opening)
        | Macro parameters s body ↦ behind (macro_read parameters s body closing (arguments_read limit scope locals rest)) (of_height limit opening)
        | NoHead code ↦ faulty code w
      ])
  application_typed locals opening w closing rest LetHead g l a = height_typed locals opening _ l
  application_typed locals opening w closing rest AsHead g l a = as_typed locals closing (items_of rest)
  application_typed locals opening w closing rest (Function op) g l a = height_typed locals opening _ (function_sorted locals op closing _ a)
  application_typed locals opening w closing rest (Macro ps s t) g l a = height_typed locals opening _ (macro_sorted locals ps s t closing _ g a)
  application_typed locals opening w closing rest (NoHead code) g l a = tt

  mutual
    unfolding term_read

    pub term_typed : (t : Tree) (locals : Env Sort) → IsSortedRead locals (term_read limit scope locals t)
    term_typed (Leaf w) locals = leaf_typed locals w.kind w
    term_typed (Group opening Empty closing) locals = tt
    term_typed (Group opening (First (Group o items c) rest) closing) locals = tt
    term_typed (Group opening (First (Leaf w) rest) closing) locals =
        application_typed locals opening w closing rest (head_of scope locals w) (head_sorted locals w) (let_typed rest locals closing) (arguments_typed rest locals)

    arguments_typed : (ts : Trees) (locals : Env Sort) → AreSorted locals (arguments_read limit scope locals ts)
    arguments_typed Empty locals = tt
    arguments_typed (First t ts) locals = (term_typed t locals, arguments_typed ts locals)

    let_typed : (ts : Trees) (locals : Env Sort) (closing : Word) → IsSortedRead locals (let_read limit scope locals closing ts)
    let_typed Empty locals closing = tt
    let_typed (First (Leaf w) rest) locals closing = tt
    let_typed (First (Group o bindings c) Empty) locals closing = unless_sound (faults (bound_read c (bindings_read limit scope locals bindings))) (faulty {A = Sorted} 5 closing) (IsTyped locals) (λ e. tt)
    let_typed (First (Group o bindings c) (First body rest)) locals closing =
        behind_sound (bound_read c (bindings_read limit scope locals bindings)) _ (λ b. AllTyped locals b.terms) (IsTyped locals)
        (bound_typed locals c (bindings_read limit scope locals bindings) (bindings_typed bindings locals))
        (λ b g. body_typed locals b _ g (unless_sound (no_more (items_of rest)) (term_read limit scope (locals_of b ++ locals) body) (IsTyped (locals_of b ++ locals)) (λ e. term_typed body (locals_of b ++ locals))))

    bindings_typed : (ts : Trees) (locals : Env Sort) → AreBound locals (bindings_read limit scope locals ts)
    bindings_typed Empty locals = tt
    bindings_typed (First t ts) locals = (binding_typed t locals, bindings_typed ts locals)

    binding_typed : (t : Tree) (locals : Env Sort) → IsSortedRead locals ((binding_read limit scope locals t).value)
    binding_typed (Leaf w) locals = tt
    binding_typed (Group o Empty c) locals = tt
    binding_typed (Group o (First x Empty) c) locals = tt
    binding_typed (Group o (First x (First t rest)) c) locals = unless_sound (no_more (items_of rest)) (term_read limit scope locals t) (IsTyped locals) (λ e. term_typed t locals)

pub terms_have_sorts : (limit : ℕ) (scope : Scope) (locals : Env Sort) (tree : Tree) (t : Sorted) → IsSortedScope scope → term_read limit scope locals tree ≡ Sound t → HasSort locals t.term t.sort
terms_have_sorts limit scope locals tree t well e = subst (IsSortedRead locals) e (term_typed limit scope well tree locals)
