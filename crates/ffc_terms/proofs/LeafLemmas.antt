-- Terms of one word and heads, as they are kept and as the definitions have them.
use Rattle.std.proofs.Common.{◌≡◌, ℕ, ◌<◌, Bool, true, false, List, [], ◌∷◌, if◌then◌else◌, codes, length, map, is_some, Option, Some, None, option_map, Result, Ok, Err, refl, sym, ap, ◌∙◌, subst, ⊎_elim, arith}
use Rattle.std.specs.Str.{bytes_eq}
use Rattle.std.specs.Bool.{◌==◌}
use Rattle.std.proofs.lemmas.Bool.{cases_Bool, cond-true, cond-false}
use Rattle.std.proofs.lemmas.Bool.Decides.{nat_tests}
use Rattle.ffc_lex.specs.declared.tokens.TokenKind.{TokenKind}
use Rattle.ffc_lex.specs.declared.tokens.TokenKind.TheVariants as kinds
use Rattle.ffc_lex.specs.Names.{is_theory_name}
use Rattle.ffc_parts.specs.Operators.{operator_of}
use Rattle.ffc_term.specs.declared.node.Node.{Node}
use Rattle.ffc_term.specs.declared.node.Sort.{Sort}
use Rattle.ffc_term.specs.declared.node.Sort.TheVariants as sort
use Rattle.ffc_smt.specs.Trees.{Word, name_of}
use Rattle.ffc_smt.specs.Terms.{Name, Operator, Truth, Variable, height, weight}
use Rattle.ffc_smt.specs.Meaning.{Env, found}
use Rattle.ffc_smt.specs.Numbers.{Signed, is_small, is_order, literal_number, literal_order}
use Rattle.ffc_smt.specs.Scopes.{Meant, AsConstant, AsTerm, AsMacro, Scope}
use Rattle.ffc_smt.specs.Faults.{Fault, word_fault, is_before, Sound, faults, faulty, unless, read_map}
use Rattle.ffc_smt.specs.TermReading.{Sorted, Head, LetHead, AsHead, Function, Macro, NoHead, operators, head_meant, head_named, head_of, is_word, term_meant, term_named, number_term, number_read, literal_read, leaf_by_kind}
use Rattle.ffc_words.specs.Outcomes.{outcome}
use Rattle.ffc_terms.specs.declared.callees.Callee.TheVariants as callee
use Rattle.ffc_terms.specs.declared.codes.Op.TheVariants as op
use Rattle.ffc_terms.specs.declared.leaves.Leaf.{Leaf}
use Rattle.ffc_terms.specs.declared.leaves.Head.{Head as KeptHead}
use Rattle.ffc_terms.specs.declared.leaves.Head.TheVariants as heads
use Rattle.ffc_terms.specs.declared.scope.Macro.{Macro as KeptMacro}
use Rattle.ffc_terms.specs.declared.scope.Meaning.{Meaning}
use Rattle.ffc_terms.specs.declared.scope.Meaning.TheVariants as meaning
use Rattle.ffc_terms.specs.declared.scope.Symbols.{Symbols}
use Rattle.ffc_terms.specs.Slots.{slot_of, at_slot}
use Rattle.ffc_terms.specs.Codes.{IsCode, IsMacro, IsScope}
use Rattle.ffc_terms.specs.Callees.{as_macro, macro_at}
use Rattle.ffc_terms.specs.Leaves as leaves
use Rattle.ffc_terms.proofs.CodeLemmas.{FoundAs, meanings_found, extends_itself, slot_place}
use Rattle.ffc_terms.proofs.FirstLemmas.{NoneBefore, not_before_itself, outcome_unless, contains_first}
use Rattle.ffc_terms.proofs.HeadLemmas.{operator_back}
use Rattle.ffc_terms.proofs.SlotLemmas.{not_found, found_at, slot_within, at_slot_map}

-- Where a name is

pub data IsPlaced {A : Type 0} (env : Env A) (name : Name) : Type 0 where
  Nowhere : slot_of env name ≡ None → found env name ≡ None → IsPlaced env name
  At : (slot : ℕ) (x : Name × A) → slot_of env name ≡ Some slot → found env name ≡ Some x.1 → at_slot env slot ≡ Some x → IsPlaced env name

never : {A : Type 0} (xs : List A) (slot : ℕ) → slot < length xs → at_slot xs slot ≡ None → ⊥
never [] slot h e = omega arith
never (x ∷ xs) slot h e = ⊎_elim
    (λ y. let g = sym (cond-true (slot == length xs) (Some x) (at_slot xs slot) y) ∙ e in cc)
    (λ n. let less : slot < length xs = grind (arith, nat_tests, n) in never xs slot less (sym (cond-false (slot == length xs) (Some x) (at_slot xs slot) n) ∙ e))
    (cases_Bool (slot == length xs))

pub name_placed : {A : Type 0} (env : Env A) (name : Name) → IsPlaced env name
name_placed {A} env name = by_slot (slot_of env name) refl
  where
    by_value : (slot : ℕ) → slot_of env name ≡ Some slot → (o : Option (Name × A)) → at_slot env slot ≡ o → found env name ≡ option_map (λ x. x.1) o → IsPlaced env name
    by_value slot e None at is =
        let within = slot_within env name slot (sym e) in
        absurd (never env slot within at)
    by_value slot e (Some x) at is = At slot x e is at

    by_slot : (o : Option ℕ) → slot_of env name ≡ o → IsPlaced env name
    by_slot None e = Nowhere e (not_found env name (sym e))
    by_slot (Some slot) e = by_value slot e (at_slot env slot) refl (found_at env name slot (sym e))

err_is : {A : Type 0} {f g : Fault} → ◌≡◌ {A = Result A Fault} (Err f) (Err g) → f ≡ g
err_is e = cc

module _ (nodes : List Node) (symbols : Symbols) (scope : Scope) (is : IsScope nodes symbols scope) where
  abbrev pub names : Env Sort → List Name
  names locals = map (λ x. x.0) locals

  -- a term of one word
  abbrev pub LeafIs : Env Sort → Result Sorted Fault → Result Leaf Fault → Type 0
  LeafIs locals (Ok t) (Ok l) = (l.sort ≡ t.sort) × IsCode nodes symbols.terms (names locals) t.term (l.op ∷ []) × (height t.term ≡ 0) × (weight t.term ≡ 1)
  LeafIs locals (Ok t) (Err f) = ⊥
  LeafIs locals (Err g) (Ok l) = ⊥
  LeafIs locals (Err g) (Err f) = g ≡ f

  known : (name : Name) → FoundAs nodes symbols.terms (found symbols.terms name) (found scope.names name)
  known name = meanings_found nodes symbols.terms symbols.terms scope.names name is.terms (extends_itself symbols.terms)

  meant_is : (locals : Env Sort) (w : Word) (o : Option Meaning) (x : Option Meant) → FoundAs nodes symbols.terms o x → LeafIs locals (outcome (term_meant w x)) (leaves.meant w o)
  unfolding height weight
  meant_is locals w None None h = refl
  meant_is locals w None (Some x) h = absurd h
  meant_is locals w (Some m) None h = absurd h
  meant_is locals w (Some (meaning.Constant n s id)) (Some (AsConstant k t)) h = (h.1, (id, refl, h.2), refl, refl)
  meant_is locals w (Some (meaning.Constant n s id)) (Some (AsTerm t u)) h = absurd h
  meant_is locals w (Some (meaning.Constant n s id)) (Some (AsMacro p t u)) h = absurd h
  meant_is locals w (Some (meaning.Defined s id)) (Some (AsConstant k t)) h = absurd h
  meant_is locals w (Some (meaning.Defined s id)) (Some (AsTerm t u)) h = (h.0, (id, refl, h.1), refl, refl)
  meant_is locals w (Some (meaning.Defined s id)) (Some (AsMacro p t u)) h = absurd h
  meant_is locals w (Some (meaning.Macro m)) (Some (AsConstant k t)) h = absurd h
  meant_is locals w (Some (meaning.Macro m)) (Some (AsTerm t u)) h = absurd h
  meant_is locals w (Some (meaning.Macro m)) (Some (AsMacro p t u)) h = refl

  local_is : (locals : Env Sort) (w : Word) (name : Name) → IsPlaced locals name
      → LeafIs locals (outcome (elim (found locals name) [ Some s ↦ Sound (record { term = Variable name; sort = s }) | None ↦ term_meant w (found scope.names name) ]))
      (leaves.local (leaves.global symbols w name) (slot_of locals name) (found locals name))
  unfolding height weight
  local_is locals w name (Nowhere slot none) = rw (slot, none) (meant_is locals w (found symbols.terms name) (found scope.names name) (known name))
  local_is locals w name (At slot x placed value at) = rw (placed, value) (refl, (slot, refl, sym (slot_place locals name) ∙ placed), refl, refl)

  named_is : (locals : Env Sort) (w : Word) (o : Option Name)
      → LeafIs locals (outcome (elim o [ None ↦ faulty 5 w | Some name ↦ term_named scope locals w name ])) (leaves.by_name symbols locals w o)
  unfolding height weight
  named_is locals w None = refl
  named_is locals w (Some name) = by_test (bytes_eq name (codes "true")) (bytes_eq name (codes "false")) (is_theory_name name)
    where
      by_test : (a b c : Bool)
          → LeafIs locals
          (outcome (if a then Sound (record { term = Truth true; sort = sort.Bool }) else (if b then Sound (record { term = Truth false; sort = sort.Bool }) else (if c then faulty 5 w else
          (elim (found locals name) [ Some s ↦ Sound (record { term = Variable name; sort = s }) | None ↦ term_meant w (found scope.names name) ])))))
          (if a then Ok (record { op = op.Truth true; sort = sort.Bool }) else (if b then Ok (record { op = op.Truth false; sort = sort.Bool }) else (if c then leaves.fault 5 w else
          leaves.local (leaves.global symbols w name) (slot_of locals name) (found locals name))))
      by_test true b c = (refl, refl, refl, refl)
      by_test false true c = (refl, refl, refl, refl)
      by_test false false true = refl
      by_test false false false = local_is locals w name (name_placed locals name)

  lower_first : (w : Word) → is_before (word_fault 13 w) (word_fault 11 w) ≡ false
  lower_first w = grind (arith, nat_tests)

  literal_is : (locals : Env Sort) (w : Word) → LeafIs locals (outcome (literal_read w)) (leaves.literal w)
  unfolding height weight
  literal_is locals w = by_test (is_order (literal_order w.bytes)) (literal_number w.bytes)
    where
      number : (n : Signed) (c : Bool)
          → LeafIs locals (outcome (read_map (λ m. number_term m (literal_order w.bytes)) (if c then Sound n else faulty 13 w)))
          (leaves.number_leaf w (literal_order w.bytes) (if c then Some n else None))
      number n true = (refl, (_, refl, λ less. refl), refl, refl)
      number n false = refl

      none : (o : Option Signed) → NoneBefore (word_fault 11 w) (faults (read_map (λ n. number_term n (literal_order w.bytes)) (number_read w o)))
      none None = (lower_first w, tt)
      none (Some n) = small (is_small n)
        where
          small : (c : Bool) → NoneBefore (word_fault 11 w) (faults (read_map (λ m. number_term m (literal_order w.bytes)) (if c then Sound n else faulty 13 w)))
          small true = tt
          small false = (lower_first w, tt)

      by_test : (b : Bool) (o : Option Signed)
          → LeafIs locals (outcome (unless (if b then [] else word_fault 11 w ∷ []) (read_map (λ n. number_term n (literal_order w.bytes)) (number_read w o))))
          (if b then leaves.number_leaf w (literal_order w.bytes) (leaves.small o) else leaves.fault 11 w)
      by_test true None = refl
      by_test true (Some n) = number n (is_small n)
      by_test false o = err_is (outcome_unless (word_fault 11 w ∷ []) (read_map (λ n. number_term n (literal_order w.bytes)) (number_read w o)) (word_fault 11 w)
          (contains_first (word_fault 11 w) []) (not_before_itself (word_fault 11 w), tt) (none o))

  by_kind : (locals : Env Sort) (w : Word) (k : TokenKind) → w.kind ≡ k → LeafIs locals (outcome (leaf_by_kind scope locals k w)) (if leaves.is_literal k then leaves.literal w else leaves.named symbols locals w)
  by_kind locals w kinds.FieldLiteral e = literal_is locals w
  by_kind locals w kinds.LeftParen e = named_is locals w (name_of w)
  by_kind locals w kinds.RightParen e = named_is locals w (name_of w)
  by_kind locals w kinds.Numeral e = named_is locals w (name_of w)
  by_kind locals w kinds.Decimal e = named_is locals w (name_of w)
  by_kind locals w kinds.Symbol e = named_is locals w (name_of w)
  by_kind locals w kinds.Quoted e = named_is locals w (name_of w)
  by_kind locals w kinds.Keyword e = named_is locals w (name_of w)
  by_kind locals w kinds.Str e = named_is locals w (name_of w)

  pub leaf_is : (locals : Env Sort) (w : Word) → LeafIs locals (outcome (leaf_by_kind scope locals w.kind w)) (leaves.leaf symbols locals w)
  unfolding leaves.leaf
  leaf_is locals w = by_kind locals w w.kind refl

  -- Heads

  abbrev pub HeadIs : Word → Head → Result KeptHead Fault → Type 0
  HeadIs w LetHead (Ok heads.Let) = Unit {0}
  HeadIs w AsHead (Ok heads.As) = Unit {0}
  HeadIs w (Function f) (Ok (heads.Callee (callee.Function g))) = operator_of g ≡ f
  HeadIs w (Macro ps s body) (Ok (heads.Callee (callee.Macro place))) =
      (m : KeptMacro) × (macro_at symbols place ≡ Some m) × (at_slot (map (λ x. x.1) symbols.terms) place ≡ Some (meaning.Macro m)) × IsMacro nodes symbols.terms m ps s body
  HeadIs w (NoHead code) (Err f) = f ≡ word_fault code w
  HeadIs w _ _ = ⊥

  meaning_head : (w : Word) (slot : ℕ) (name : Name) (m : Meaning) (x : Option Meant) → at_slot symbols.terms slot ≡ Some (name, m) → FoundAs nodes symbols.terms (Some m) x
      → HeadIs w (head_meant x) (leaves.head_meant w (Some slot) (Some m))
  meaning_head w slot name m None at h = absurd h
  meaning_head w slot name (meaning.Constant n s id) (Some (AsConstant k t)) at h = refl
  meaning_head w slot name (meaning.Constant n s id) (Some (AsTerm t u)) at h = absurd h
  meaning_head w slot name (meaning.Constant n s id) (Some (AsMacro p t u)) at h = absurd h
  meaning_head w slot name (meaning.Defined s id) (Some (AsConstant k t)) at h = absurd h
  meaning_head w slot name (meaning.Defined s id) (Some (AsTerm t u)) at h = refl
  meaning_head w slot name (meaning.Defined s id) (Some (AsMacro p t u)) at h = absurd h
  meaning_head w slot name (meaning.Macro m) (Some (AsConstant k t)) at h = absurd h
  meaning_head w slot name (meaning.Macro m) (Some (AsTerm t u)) at h = absurd h
  meaning_head w slot name (meaning.Macro m) (Some (AsMacro p t u)) at h =
      (m, ap as_macro at, at_slot_map (λ x. x.1) symbols.terms slot ∙ ap (option_map (λ x. x.1)) at, h)

  nowhere_head : (w : Word) (o : Option Meaning) (x : Option Meant) → o ≡ None → FoundAs nodes symbols.terms o x → HeadIs w (head_meant x) (leaves.head_meant w None o)
  nowhere_head w None None e h = refl
  nowhere_head w None (Some x) e h = absurd h
  nowhere_head w (Some m) x e h = cc

  placed_head : (w : Word) (name : Name) → IsPlaced symbols.terms name → HeadIs w (head_meant (found scope.names name)) (leaves.global_head symbols w name)
  placed_head w name (Nowhere slot none) =
      subst (λ s. HeadIs w (head_meant (found scope.names name)) (leaves.head_meant w s (found symbols.terms name))) (sym slot)
      (nowhere_head w (found symbols.terms name) (found scope.names name) none (known name))
  placed_head w name (At slot x placed value at) =
      subst (λ s. HeadIs w (head_meant (found scope.names name)) (leaves.head_meant w s (found symbols.terms name))) (sym placed)
      (subst (λ o. HeadIs w (head_meant (found scope.names name)) (leaves.head_meant w (Some slot) o)) (sym value)
      (meaning_head w slot x.0 x.1 (found scope.names name) at (subst (λ o. FoundAs nodes symbols.terms o (found scope.names name)) value (known name))))

  -- a name that is no local variable
  abbrev unless_local : Option Sort → Head → Head
  unless_local o h = elim o [ Some s ↦ NoHead 5 | None ↦ h ]

  global_named : (locals : Env Sort) (w : Word) (name : Name) (c : Bool) → IsPlaced locals name
      → HeadIs w (if c then NoHead 5 else unless_local (found locals name) (head_meant (found scope.names name)))
      (if c then leaves.fault 5 w else (if is_some (slot_of locals name) then leaves.fault 5 w else leaves.global_head symbols w name))
  global_named locals w name true placed = refl
  global_named locals w name false (Nowhere slot none) = rw (slot, none) (placed_head w name (name_placed symbols.terms name))
  global_named locals w name false (At slot x placed value at) = rw (placed, value) refl

  function_named : (locals : Env Sort) (w : Word) (name : Name) (o : Option Operator)
      → HeadIs w (elim o [ Some f ↦ Function f | None ↦ if is_theory_name name then NoHead 5 else unless_local (found locals name) (head_meant (found scope.names name)) ])
      (leaves.function_head (if is_theory_name name then leaves.fault 5 w else (if is_some (slot_of locals name) then leaves.fault 5 w else leaves.global_head symbols w name)) o)
  function_named locals w name (Some f) = operator_back f
  function_named locals w name None = global_named locals w name (is_theory_name name) (name_placed locals name)

  head_by_name : (locals : Env Sort) (w : Word) (o : Option Name)
      → HeadIs w (elim o [ None ↦ NoHead 5 | Some name ↦ head_named scope locals name ]) (leaves.head_by_name symbols locals w o)
  head_by_name locals w None = refl
  head_by_name locals w (Some name) = function_named locals w name (found operators name)

  by_words : (locals : Env Sort) (w : Word) (a b : Bool)
      → HeadIs w (if a then LetHead else (if b then AsHead else (elim (name_of w) [ None ↦ NoHead 5 | Some name ↦ head_named scope locals name ])))
      (if a then Ok heads.Let else (if b then Ok heads.As else leaves.head_by_name symbols locals w (name_of w)))
  by_words locals w true b = tt
  by_words locals w false true = tt
  by_words locals w false false = head_by_name locals w (name_of w)

  pub head_is : (locals : Env Sort) (w : Word) → HeadIs w (head_of scope locals w) (leaves.head symbols locals w)
  unfolding leaves.head
  head_is locals w = by_words locals w (is_word (codes "let") w) (is_word (codes "as") w)
