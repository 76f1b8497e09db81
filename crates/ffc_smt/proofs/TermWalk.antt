-- What a term reads as: each fault is at one of its tokens; where there is none, its orders are the solver's, and its
-- constants are those of the names in scope.
use Rattle.std.proofs.Common.{◌≡◌, ℕ, ◌+◌, ◌&&◌, zero, suc, nat_lt, Bool, true, false, List, [], ◌∷◌, ◌++◌, All, length, drop, map, if◌then◌else◌, Some, None, Option, refl, sym, subst}
use Rattle.std.proofs.lemmas.List.Elements.{All-cons, All-nil, All-append}
use Rattle.std.specs.Str.{bytes_eq}
use Rattle.std.specs.Prelude.{codes}
use Rattle.ffc_field.specs.Orders.{IsOrder}
use Rattle.ffc_lex.specs.declared.tokens.TokenKind.{TokenKind}
use Rattle.ffc_lex.specs.declared.tokens.TokenKind.TheVariants as kinds
use Rattle.ffc_lex.specs.Names.{is_reserved_word, is_theory_name}
use Rattle.ffc_term.specs.declared.node.Sort.{Sort}
use Rattle.ffc_term.specs.declared.node.Sort.TheVariants as sort
use Rattle.ffc_smt.specs.Trees.{Word, Tree, Leaf, Group, Trees, Empty, First, items_of, front, is_symbol, is_reserved, name_by_kind, name_of}
use Rattle.ffc_smt.specs.Terms.{Name, Operator, Term, Terms, Variable, Applied, Called, height, Parameter}
use Rattle.ffc_smt.specs.Meaning.{Env, found}
use Rattle.ffc_smt.specs.Numbers.{number_of, is_order, is_small, Signed, literal_order, literal_number, constant_of}
use Rattle.ffc_smt.specs.Scopes.{Meant, AsConstant, AsTerm, AsMacro, Scope}
use Rattle.ffc_smt.specs.Faults.{Fault, word_fault, Read, Sound, Faulty, faults, faulty, unless, read_map, behind, no_more, last, item}
use Rattle.ffc_smt.specs.TermReading.{Sorted, Argument, Wanted, Only, misfit, misfits, own_faults, missing, surplus, first_place, add_sound, terms_of, wanted, least, most, result_sort, argument_sort, is_wanted, operators, Head, LetHead, AsHead, Function, Macro, NoHead, head_meant, head_named, head_of, is_word, is_named, exactly, is_numeral, order_read, named_sort, sort_read, constant_read, order_of_sort, field_read, term_meant, term_named, number_term, number_read, literal_read, as_read, leaf_by_kind, Named, free_name, variable_read, is_among, Binding, binding_faults, add_named, variables, twice, values, Bound, some_binding, bound_read, locals_of, terms_of_bound, let_term, of_height, function_read, parameter_misfits, macro_read, term_read, arguments_read, let_read, bindings_read, binding_read}
use Rattle.ffc_smt.specs.Scripts.{order_in}
use Rattle.ffc_smt.specs.Constants.{ConstantsAre, AllConstantsAre, MeantConstantsAre}
use Rattle.ffc_smt.proofs.ReadLemmas.{IfSound, both_none}
use Rattle.ffc_smt.proofs.SoundReading.{order_good}
use Rattle.ffc_smt.proofs.WalkLemmas.{EachToken, EachTokens, EachIn, each_in, each_front, EachLeaf, EachLeaves, LeavesIn, leaves_back, no_leaves, MayFail, one_fault, ReadsAs, reads_weaker, reads_map, reads_behind, reads_unless, reads_either, says, if_sound, ReadsTree, ReadsList, no_more_at, reads_last, reads_item}

-- the orders that a token names are the solver's
abbrev pub HasOrders : Word → Type 0
HasOrders w = All IsOrder (order_in w.kind w.bytes)

name_orders : (k : TokenKind) (bytes : List ℕ) (name : Name) → name_by_kind k bytes ≡ Some name → All IsOrder (order_in k bytes)
name_orders kinds.Symbol bytes name e = All-nil IsOrder
name_orders kinds.Quoted bytes name e = All-nil IsOrder
name_orders kinds.LeftParen bytes name e = cc
name_orders kinds.RightParen bytes name e = cc
name_orders kinds.Numeral bytes name e = cc
name_orders kinds.Decimal bytes name e = cc
name_orders kinds.Keyword bytes name e = cc
name_orders kinds.Str bytes name e = cc
name_orders kinds.FieldLiteral bytes name e = cc

pub named_orders_none : (w : Word) (name : Name) → name_of w ≡ Some name → HasOrders w
named_orders_none w name e = name_orders w.kind w.bytes name e

is_named_orders : (name : Name) (w : Word) → is_named name w ≡ true → HasOrders w
is_named_orders name w e = by_name (name_of w) refl e
  where
    by_name : (o : Option Name) → name_of w ≡ o → (elim o [ None ↦ false | Some n ↦ bytes_eq n name ]) ≡ true → HasOrders w
    by_name None d e = cc
    by_name (Some n) d e = named_orders_none w n d

pub symbol_orders : (k : TokenKind) (bytes : List ℕ) → is_symbol k ≡ true → All IsOrder (order_in k bytes)
symbol_orders kinds.Symbol bytes e = All-nil IsOrder
symbol_orders kinds.Quoted bytes e = cc
symbol_orders kinds.LeftParen bytes e = cc
symbol_orders kinds.RightParen bytes e = cc
symbol_orders kinds.Numeral bytes e = cc
symbol_orders kinds.Decimal bytes e = cc
symbol_orders kinds.Keyword bytes e = cc
symbol_orders kinds.Str bytes e = cc
symbol_orders kinds.FieldLiteral bytes e = cc

both_true : (a b : Bool) → (a && b) ≡ true → a ≡ true
both_true true b e = refl
both_true false b e = cc

pub is_word_orders : (bytes : List ℕ) (w : Word) → is_word bytes w ≡ true → HasOrders w
is_word_orders bytes w e =
    symbol_orders w.kind w.bytes (both_true (is_symbol w.kind) (is_reserved_word w.bytes) (both_true (is_reserved w) (bytes_eq w.bytes bytes) e))

numeral_orders : (k : TokenKind) (bytes : List ℕ) → is_numeral k ≡ true → is_order (number_of bytes) ≡ true → All IsOrder (order_in k bytes)
numeral_orders kinds.Numeral bytes e g = All-cons IsOrder (number_of bytes) [] (order_good (number_of bytes) g) (All-nil IsOrder)
numeral_orders kinds.Symbol bytes e g = cc
numeral_orders kinds.Quoted bytes e g = cc
numeral_orders kinds.LeftParen bytes e g = cc
numeral_orders kinds.RightParen bytes e g = cc
numeral_orders kinds.Decimal bytes e g = cc
numeral_orders kinds.Keyword bytes e g = cc
numeral_orders kinds.Str bytes e g = cc
numeral_orders kinds.FieldLiteral bytes e g = cc

literal_orders : (w : Word) → w.kind ≡ kinds.FieldLiteral → is_order (literal_order w.bytes) ≡ true → HasOrders w
literal_orders w k g = subst (λ c. All IsOrder (order_in c w.bytes)) (sym k) (All-cons IsOrder (literal_order w.bytes) [] (order_good (literal_order w.bytes) g) (All-nil IsOrder))

no_fault : (f : Fault) → f ∷ [] ≡ [] → ⊥
no_fault f e = cc

module _ (P : Fault → Type 0) where
  -- an item that is a name
  pub reads_named : {A : Type 0} (Q : A → Type 0) (w : Word) (next : Name → Read A) → MayFail P w → ((name : Name) → ReadsAs P Q (next name))
      → ReadsTree P HasOrders Q (Leaf w) (elim (name_of w) [ None ↦ faulty 5 w | Some name ↦ next name ])
  reads_named {A} Q w next m h = by_name (name_of w) refl
    where
      by_name : (o : Option Name) → name_of w ≡ o → ReadsTree P HasOrders Q (Leaf w) (elim o [ None ↦ faulty 5 w | Some name ↦ next name ])
      by_name None e = (one_fault P 5 w m, tt)
      by_name (Some name) e = reads_weaker P Q (λ a. HasOrders w × Q a) (next name) (λ a g. (named_orders_none w name e, g)) (h name)

  pub reads_exactly : (test : Word → Bool) → ((w : Word) → test w ≡ true → HasOrders w) → (t : Tree) → EachToken (MayFail P) t → ReadsTree P HasOrders (λ u. Unit {0}) t (exactly test t)
  reads_exactly test h (Leaf w) m =
      reads_either P (λ u. HasOrders w × Unit {0}) (test w) (Sound tt) (faulty 5 w) (λ e. (All-nil P, (h w e, tt))) (λ e. (one_fault P 5 w m, tt))
  reads_exactly test h (Group opening items closing) m = (one_fault P 5 opening m.0, tt)

  -- Sorts

  reads_order : (t : Tree) → EachToken (MayFail P) t → ReadsTree P HasOrders (λ p. Unit {0}) t (order_read t)
  reads_order (Leaf w) m =
      let Q : ℕ → Type 0 = λ p. HasOrders w × Unit {0} in
      reads_either P Q (is_numeral w.kind) (if is_order (number_of w.bytes) then Sound (number_of w.bytes) else faulty 11 w) (faulty 5 w)
      (λ e. reads_either P Q (is_order (number_of w.bytes)) (Sound (number_of w.bytes)) (faulty 11 w) (λ g. (All-nil P, (numeral_orders w.kind w.bytes e g, tt))) (λ g. (one_fault P 11 w m, tt)))
      (λ e. (one_fault P 5 w m, tt))
  reads_order (Group opening items closing) m = (one_fault P 5 opening m.0, tt)

  reads_sort_name : (sorts : Env Sort) (w : Word) (name : Name) → MayFail P w → ReadsAs P (λ s. Unit {0}) (named_sort sorts w name)
  reads_sort_name sorts w name m =
      reads_either P (λ s. Unit {0}) (bytes_eq name (codes "Bool")) (Sound sort.Bool) (elim (found sorts name) [ None ↦ faulty 8 w | Some s ↦ Sound s ]) (λ e. (All-nil P, tt)) (λ e. by_found (found sorts name))
    where
      by_found : (o : Option Sort) → ReadsAs P (λ (s : Sort). Unit {0}) (elim o [ None ↦ faulty 8 w | Some s ↦ Sound s ])
      by_found None = (one_fault P 8 w m, tt)
      by_found (Some s) = (All-nil P, tt)

  pub reads_sort : (sorts : Env Sort) (t : Tree) → EachToken (MayFail P) t → ReadsTree P HasOrders (λ s. Unit {0}) t (sort_read sorts t)
  unfolding sort_read
  reads_sort sorts (Leaf w) m = reads_named (λ s. Unit {0}) w (named_sort sorts w) m (λ name. reads_sort_name sorts w name m)
  reads_sort sorts (Group opening items closing) m =
      let inner = item closing (exactly (is_named (codes "FiniteField"))) (item closing order_read last) in
      reads_map P (λ parts. sort.Field parts.1.1.0) (λ s. EachLeaves HasOrders items × Unit {0}) (item closing (exactly (is_word (codes "_"))) inner (items_of items))
      (reads_weaker P (λ p. LeavesIn HasOrders (items_of items) × (Unit {0} × (Unit {0} × (Unit {0} × Unit {0})))) (λ p. EachLeaves HasOrders items × Unit {0}) (item closing (exactly (is_word (codes "_"))) inner (items_of items))
      (λ p h. (leaves_back HasOrders items h.0, tt))
      (reads_item P HasOrders (λ u. Unit {0}) (λ p. Unit {0} × (Unit {0} × Unit {0})) closing (exactly (is_word (codes "_"))) inner (items_of items) m.2 (each_in (MayFail P) items m.1)
      (reads_exactly (is_word (codes "_")) (is_word_orders (codes "_")))
      (λ ts n. reads_item P HasOrders (λ u. Unit {0}) (λ p. Unit {0} × Unit {0}) closing (exactly (is_named (codes "FiniteField"))) (item closing order_read last) ts m.2 n
      (reads_exactly (is_named (codes "FiniteField")) (is_named_orders (codes "FiniteField")))
      (λ us k. reads_item P HasOrders (λ p. Unit {0}) (λ u. Unit {0}) closing order_read last us m.2 k reads_order (reads_last P HasOrders)))))

  -- Numbers

  reads_number : (w : Word) (o : Option Signed) → MayFail P w → ReadsAs P (λ n. Unit {0}) (number_read w o)
  reads_number w None m = (one_fault P 13 w m, tt)
  reads_number w (Some n) m = reads_either P (λ n. Unit {0}) (is_small n) (Sound n) (faulty 13 w) (λ e. (All-nil P, tt)) (λ e. (one_fault P 13 w m, tt))

  reads_constant : (t : Tree) → EachToken (MayFail P) t → ReadsTree P HasOrders (λ n. Unit {0}) t (constant_read t)
  reads_constant (Leaf w) m = reads_named (λ n. Unit {0}) w (λ name. number_read w (constant_of name)) m (λ name. reads_number w (constant_of name) m)
  reads_constant (Group opening items closing) m = (one_fault P 5 opening m.0, tt)

  reads_field_order : (w : Word) (s : Sort) → MayFail P w → ReadsAs P (λ p. Unit {0}) (order_of_sort w s)
  reads_field_order w sort.Bool m = (one_fault P 10 w m, tt)
  reads_field_order w (sort.Field p) m = (All-nil P, tt)

  reads_field : (sorts : Env Sort) (t : Tree) → EachToken (MayFail P) t → ReadsTree P HasOrders (λ p. Unit {0}) t (field_read sorts t)
  reads_field sorts t m =
      reads_behind P (λ s. EachLeaf HasOrders t × Unit {0}) (λ p. EachLeaf HasOrders t × Unit {0}) (sort_read sorts t) (order_of_sort (front t)) (reads_sort sorts t m)
      (λ s h. reads_weaker P (λ p. Unit {0}) (λ p. EachLeaf HasOrders t × Unit {0}) (order_of_sort (front t) s) (λ p g. (h.0, tt)) (reads_field_order (front t) s (each_front (MayFail P) t m)))

  -- Variables

  free_at : (w : Word) (name : Name) → MayFail P w → ReadsAs P (λ n. MayFail P n.at) (free_name w name)
  free_at w name m = reads_either P (λ n. MayFail P n.at) (is_theory_name name) (faulty 9 w) (Sound (record { at = w; name = name })) (λ e. (one_fault P 9 w m, tt)) (λ e. (All-nil P, m))

  pub reads_variable : (t : Tree) → EachToken (MayFail P) t → ReadsTree P HasOrders (λ n. MayFail P n.at) t (variable_read t)
  reads_variable (Leaf w) m = reads_named (λ n. MayFail P n.at) w (free_name w) m (λ name. free_at w name m)
  reads_variable (Group opening items closing) m = (one_fault P 5 opening m.0, tt)

  abbrev pub AllNamed : List Named → Type 0
  AllNamed [] = Unit {0}
  AllNamed (n ∷ ns) = MayFail P n.at × AllNamed ns

  pub twice_at : (before ns : List Named) → AllNamed ns → All P (twice before ns)
  twice_at before [] m = All-nil P
  twice_at before (n ∷ ns) m = All-append P (if is_among n.name before then word_fault 9 n.at ∷ [] else []) (twice (n ∷ before) ns) (by_test (is_among n.name before)) (twice_at (n ∷ before) ns m.1)
    where
      by_test : (b : Bool) → All P (if b then word_fault 9 n.at ∷ [] else [])
      by_test true = one_fault P 9 n.at m.0
      by_test false = All-nil P

  pub add_named_at : (r : Read Named) (ns : List Named) → IfSound r (λ n. MayFail P n.at) → AllNamed ns → AllNamed (add_named r ns)
  add_named_at (Sound n) ns h g = (h, g)
  add_named_at (Faulty f fs) ns h g = g

  -- Terms, where the constants of the names in scope are these

  module _ (D : ℕ → Sort → Type 0) where
    abbrev pub SpeaksOf : Sorted → Type 0
    SpeaksOf t = ConstantsAre D t.term

    reads_literal : (w : Word) → w.kind ≡ kinds.FieldLiteral → MayFail P w → ReadsAs P (λ t. HasOrders w × SpeaksOf t) (literal_read w)
    reads_literal w k m = by_test (is_order (literal_order w.bytes)) refl
      where
        number : ReadsAs P (λ n. Unit {0}) (number_read w (literal_number w.bytes))
        number = reads_number w (literal_number w.bytes) m

        by_test : (b : Bool) → is_order (literal_order w.bytes) ≡ b
            → ReadsAs P (λ t. HasOrders w × SpeaksOf t) (unless (if b then [] else word_fault 11 w ∷ []) (read_map (λ n. number_term n (literal_order w.bytes)) (number_read w (literal_number w.bytes))))
        by_test true e =
            reads_map P (λ n. number_term n (literal_order w.bytes)) (λ t. HasOrders w × SpeaksOf t) (number_read w (literal_number w.bytes))
            (reads_weaker P (λ n. Unit {0}) (λ n. HasOrders w × Unit {0}) (number_read w (literal_number w.bytes)) (λ n u. (literal_orders w k e, tt)) number)
        by_test false e =
            reads_unless P (λ t. HasOrders w × SpeaksOf t) (word_fault 11 w ∷ []) (read_map (λ n. number_term n (literal_order w.bytes)) (number_read w (literal_number w.bytes))) (one_fault P 11 w m)
            (reads_map P (λ n. number_term n (literal_order w.bytes)) (λ t. Unit {0}) (number_read w (literal_number w.bytes)) number).0 (λ d. cc)

    -- Arguments

    abbrev pub AreArguments : List Argument → Type 0
    AreArguments [] = Unit {0}
    AreArguments (a ∷ rest) = MayFail P a.at × ReadsAs P SpeaksOf a.read × AreArguments rest

    pub own_at : (args : List Argument) → AreArguments args → All P (own_faults args)
    own_at [] h = All-nil P
    own_at (a ∷ rest) h = All-append P (faults a.read) (own_faults rest) h.1.0 (own_at rest h.2)

    misfit_at : (want : Wanted) (at : Word) (r : Read Sorted) → MayFail P at → All P (misfit want at r)
    misfit_at want at (Faulty f fs) m = All-nil P
    misfit_at want at (Sound t) m = by_test (is_wanted want t.sort)
      where
        by_test : (b : Bool) → All P (if b then [] else word_fault 10 at ∷ [])
        by_test true = All-nil P
        by_test false = one_fault P 10 at m

    pub misfits_at : (want : ℕ → Wanted) (i : ℕ) (args : List Argument) → AreArguments args → All P (misfits want i args)
    misfits_at want i [] h = All-nil P
    misfits_at want i (a ∷ rest) h = All-append P (misfit (want i) a.at a.read) (misfits want (i + 1) rest) (misfit_at (want i) a.at a.read h.0) (misfits_at want (i + 1) rest h.2)

    pub parameter_misfits_at : (ps : List Parameter) (args : List Argument) → AreArguments args → All P (parameter_misfits ps args)
    parameter_misfits_at [] args h = All-nil P
    parameter_misfits_at (p ∷ ps) [] h = All-nil P
    parameter_misfits_at (p ∷ ps) (a ∷ rest) h =
        All-append P (misfit (Only p.sort) a.at a.read) (parameter_misfits ps rest) (misfit_at (Only p.sort) a.at a.read h.0) (parameter_misfits_at ps rest h.2)

    missing_at : (n : ℕ) (closing : Word) (args : List Argument) → MayFail P closing → All P (missing n closing args)
    missing_at n closing args m = by_test (nat_lt (length args) n)
      where
        by_test : (b : Bool) → All P (if b then word_fault 5 closing ∷ [] else [])
        by_test true = one_fault P 5 closing m
        by_test false = All-nil P

    first_at : (args : List Argument) → AreArguments args → All P (first_place args)
    first_at [] h = All-nil P
    first_at (a ∷ rest) h = one_fault P 5 a.at h.0

    dropped : (n : ℕ) (args : List Argument) → AreArguments args → AreArguments (drop n args)
    dropped zero args h = h
    dropped (suc n) [] h = tt
    dropped (suc n) (a ∷ rest) h = dropped n rest h.2

    surplus_at : (n : Option ℕ) (args : List Argument) → AreArguments args → All P (surplus n args)
    surplus_at None args h = All-nil P
    surplus_at (Some n) args h = first_at (drop n args) (dropped n args h)

    add_speaks : (r : Read Sorted) (ts : Terms) → IfSound r SpeaksOf → AllConstantsAre D ts → AllConstantsAre D (add_sound r ts)
    add_speaks (Sound t) ts h g = (h, g)
    add_speaks (Faulty f fs) ts h g = g

    terms_speak : (args : List Argument) → AreArguments args → AllConstantsAre D (terms_of args)
    terms_speak [] h = tt
    terms_speak (a ∷ rest) h = add_speaks a.read (terms_of rest) h.1.1 (terms_speak rest h.2)

    -- of the arguments: W where none of them has a fault
    reads_function : (W : Type 0) (op : Operator) (closing : Word) (args : List Argument) → MayFail P closing → AreArguments args → (own_faults args ≡ [] → W)
        → ReadsAs P (λ t. W × SpeaksOf t) (function_read op closing args)
    reads_function W op closing args m h k =
        let first = argument_sort args 0 in
        let second = argument_sort args 1 in
        let fs = own_faults args ++ misfits (wanted op first second) 0 args ++ missing (least op) closing args ++ surplus (most op) args in
        let one = own_faults args ++ misfits (wanted op first second) 0 args in
        let two = one ++ missing (least op) closing args in
        let r : Read Sorted = Sound (record { term = Applied op (terms_of args); sort = result_sort op first second }) in
        reads_unless P (λ t. W × SpeaksOf t) fs r
        (All-append P two (surplus (most op) args)
        (All-append P one (missing (least op) closing args) (All-append P (own_faults args) (misfits (wanted op first second) 0 args) (own_at args h) (misfits_at (wanted op first second) 0 args h)) (missing_at (least op) closing args m))
        (surplus_at (most op) args h))
        (All-nil P)
        (λ e. (k (both_none (own_faults args) (misfits (wanted op first second) 0 args) (both_none one (missing (least op) closing args) (both_none two (surplus (most op) args) e).0).0).0, terms_speak args h))

    reads_macro : (W : Type 0) (ps : List Parameter) (s : Sort) (body : Term) (closing : Word) (args : List Argument) → MayFail P closing → ConstantsAre D body → AreArguments args → (own_faults args ≡ [] → W)
        → ReadsAs P (λ t. W × SpeaksOf t) (macro_read ps s body closing args)
    reads_macro W ps s body closing args m b h k =
        let one = own_faults args ++ parameter_misfits ps args in
        let two = one ++ missing (length ps) closing args in
        let fs = two ++ surplus (Some (length ps)) args in
        let r : Read Sorted = Sound (record { term = Called (map (λ p. p.name) ps) body (terms_of args); sort = s }) in
        reads_unless P (λ t. W × SpeaksOf t) fs r
        (All-append P two (surplus (Some (length ps)) args)
        (All-append P one (missing (length ps) closing args) (All-append P (own_faults args) (parameter_misfits ps args) (own_at args h) (parameter_misfits_at ps args h)) (missing_at (length ps) closing args m))
        (surplus_at (Some (length ps)) args h))
        (All-nil P)
        (λ e. (k (both_none (own_faults args) (parameter_misfits ps args) (both_none one (missing (length ps) closing args) (both_none two (surplus (Some (length ps)) args) e).0).0).0, (terms_speak args h, b)))

    -- Variables and their terms

    abbrev pub AreBindings : List Binding → Type 0
    AreBindings [] = Unit {0}
    AreBindings (b ∷ bs) = ReadsAs P (λ n. MayFail P n.at) b.variable × ReadsAs P SpeaksOf b.value × AreBindings bs

    pub bindings_at : (bs : List Binding) → AreBindings bs → All P (binding_faults bs)
    bindings_at [] h = All-nil P
    bindings_at (b ∷ bs) h =
        All-append P (faults b.variable ++ faults b.value) (binding_faults bs) (All-append P (faults b.variable) (faults b.value) h.0.0 h.1.0) (bindings_at bs h.2)

    variables_at : (bs : List Binding) → AreBindings bs → AllNamed (variables bs)
    variables_at [] h = tt
    variables_at (b ∷ bs) h = add_named_at b.variable (variables bs) h.0.1 (variables_at bs h.2)

    abbrev AllSpeak : List Sorted → Type 0
    AllSpeak [] = Unit {0}
    AllSpeak (t ∷ ts) = SpeaksOf t × AllSpeak ts

    value_first : (r : Read Sorted) (ts : List Sorted) → IfSound r SpeaksOf → AllSpeak ts → AllSpeak (elim r [ Sound t ↦ t ∷ ts | Faulty f fs ↦ ts ])
    value_first (Sound t) ts h g = (h, g)
    value_first (Faulty f fs) ts h g = g

    values_speak : (bs : List Binding) → AreBindings bs → AllSpeak (values bs)
    values_speak [] h = tt
    values_speak (b ∷ bs) h = value_first b.value (values bs) h.1.1 (values_speak bs h.2)

    bound_speak : (ts : List Sorted) → AllSpeak ts → AllConstantsAre D (terms_of_bound ts)
    bound_speak [] h = tt
    bound_speak (t ∷ ts) h = (h.0, bound_speak ts h.1)

    some_at : (closing : Word) (bs : List Binding) → MayFail P closing → All P (some_binding closing bs)
    some_at closing [] m = one_fault P 5 closing m
    some_at closing (b ∷ bs) m = All-nil P

    reads_bound : (W : Type 0) (closing : Word) (bs : List Binding) → MayFail P closing → AreBindings bs → (binding_faults bs ≡ [] → W) → ReadsAs P (λ b. W × AllSpeak b.terms) (bound_read closing bs)
    reads_bound W closing bs m h k =
        let one = some_binding closing bs ++ binding_faults bs in
        let r : Read Bound = Sound (record { names = map (λ n. n.name) (variables bs); terms = values bs }) in
        reads_unless P (λ b. W × AllSpeak b.terms) (one ++ twice [] (variables bs)) r
        (All-append P one (twice [] (variables bs)) (All-append P (some_binding closing bs) (binding_faults bs) (some_at closing bs m) (bindings_at bs h)) (twice_at [] (variables bs) (variables_at bs h)))
        (All-nil P)
        (λ e. (k (both_none (some_binding closing bs) (binding_faults bs) (both_none one (twice [] (variables bs)) e).0).1, values_speak bs h))

    body_speaks : (W V : Type 0) (b : Bound) (r : Read Sorted) → W → AllSpeak b.terms → ReadsAs P (λ t. V × SpeaksOf t) r → ReadsAs P (λ t. (W × V) × SpeaksOf t) (read_map (let_term b) r)
    body_speaks W V b r w h g = reads_map P (let_term b) (λ t. (W × V) × SpeaksOf t) r (reads_weaker P (λ t. V × SpeaksOf t) (λ t. (W × V) × SpeaksOf (let_term b t)) r (λ t k. ((w, k.0), (bound_speak b.terms h, k.1))) g)

    -- Names

    module _ (limit : ℕ) (scope : Scope) (well : (name : Name) (m : Meant) → found scope.names name ≡ Some m → MeantConstantsAre D m) where
      reads_meant : (w : Word) (name : Name) (o : Option Meant) → found scope.names name ≡ o → MayFail P w → ReadsAs P SpeaksOf (term_meant w o)
      reads_meant w name None e m = (one_fault P 8 w m, tt)
      reads_meant w name (Some (AsConstant k s)) e m = (All-nil P, well name (AsConstant k s) e)
      reads_meant w name (Some (AsTerm s t)) e m = (All-nil P, well name (AsTerm s t) e)
      reads_meant w name (Some (AsMacro ps s t)) e m = (one_fault P 5 w m, tt)

      reads_local : (w : Word) (name : Name) (o : Option Sort) → MayFail P w
          → ReadsAs P SpeaksOf (elim o [ Some s ↦ Sound (record { term = Variable name; sort = s }) | None ↦ term_meant w (found scope.names name) ])
      reads_local w name None m = reads_meant w name (found scope.names name) refl m
      reads_local w name (Some s) m = (All-nil P, tt)

      pub reads_term_named : (locals : Env Sort) (w : Word) (name : Name) → MayFail P w → ReadsAs P SpeaksOf (term_named scope locals w name)
      reads_term_named locals w name m =
          reads_either P SpeaksOf (bytes_eq name (codes "true")) _ _ (λ e. (All-nil P, tt)) (λ e.
          reads_either P SpeaksOf (bytes_eq name (codes "false")) _ _ (λ e. (All-nil P, tt)) (λ e.
          reads_either P SpeaksOf (is_theory_name name) _ _ (λ e. (one_fault P 5 w m, tt)) (λ e. reads_local w name (found locals name) m)))

      reads_leaf : (locals : Env Sort) (k : TokenKind) (w : Word) → w.kind ≡ k → MayFail P w → ReadsAs P (λ t. HasOrders w × SpeaksOf t) (leaf_by_kind scope locals k w)
      reads_leaf locals kinds.FieldLiteral w e m = reads_literal w e m
      reads_leaf locals _ w e m = reads_named SpeaksOf w (term_named scope locals w) m (λ name. reads_term_named locals w name m)

      reads_as_constant : (closing : Word) (ts : List Tree) → MayFail P closing → EachIn (MayFail P) ts → ReadsList P HasOrders SpeaksOf ts (as_read scope closing ts)
      reads_as_constant closing ts c m =
          let inner = item closing (field_read scope.sorts) last in
          reads_map P (λ parts. number_term parts.0 parts.1.0) (λ t. LeavesIn HasOrders ts × SpeaksOf t) (item closing constant_read inner ts)
          (reads_weaker P (λ p. LeavesIn HasOrders ts × (Unit {0} × (Unit {0} × Unit {0}))) (λ p. LeavesIn HasOrders ts × Unit {0}) (item closing constant_read inner ts) (λ p h. (h.0, tt))
          (reads_item P HasOrders (λ n. Unit {0}) (λ p. Unit {0} × Unit {0}) closing constant_read inner ts c m reads_constant
          (λ us k. reads_item P HasOrders (λ p. Unit {0}) (λ u. Unit {0}) closing (field_read scope.sorts) last us c k (reads_field scope.sorts) (reads_last P HasOrders))))

      -- the head of an application, and that it names no order
      abbrev HeadSpeaks : Word → Head → Type 0
      HeadSpeaks w LetHead = HasOrders w
      HeadSpeaks w AsHead = HasOrders w
      HeadSpeaks w (Function op) = HasOrders w
      HeadSpeaks w (Macro ps s t) = HasOrders w × ConstantsAre D t
      HeadSpeaks w (NoHead code) = Unit {0}

      either_head : (w : Word) (b : Bool) (h g : Head) → (b ≡ true → HeadSpeaks w h) → HeadSpeaks w g → HeadSpeaks w (if b then h else g)
      either_head w true h g x y = x refl
      either_head w false h g x y = y

      head_meant_speaks : (w : Word) (name : Name) (o : Option Meant) → HasOrders w → found scope.names name ≡ o → HeadSpeaks w (head_meant o)
      head_meant_speaks w name None g e = tt
      head_meant_speaks w name (Some (AsConstant k s)) g e = tt
      head_meant_speaks w name (Some (AsTerm s t)) g e = tt
      head_meant_speaks w name (Some (AsMacro ps s t)) g e = (g, well name (AsMacro ps s t) e)

      head_local_speaks : (w : Word) (name : Name) (o : Option Sort) → HasOrders w → HeadSpeaks w (elim o [ Some s ↦ NoHead 5 | None ↦ head_meant (found scope.names name) ])
      head_local_speaks w name None g = head_meant_speaks w name (found scope.names name) g refl
      head_local_speaks w name (Some s) g = tt

      head_operator_speaks : (w : Word) (locals : Env Sort) (name : Name) (o : Option Operator) → HasOrders w
          → HeadSpeaks w (elim o [ Some op ↦ Function op | None ↦ if is_theory_name name then NoHead 5 else (elim (found locals name) [ Some s ↦ NoHead 5 | None ↦ head_meant (found scope.names name) ]) ])
      head_operator_speaks w locals name None g = either_head w (is_theory_name name) (NoHead 5) _ (λ e. tt) (head_local_speaks w name (found locals name) g)
      head_operator_speaks w locals name (Some op) g = g

      head_name_speaks : (w : Word) (locals : Env Sort) (o : Option Name) → name_of w ≡ o → HeadSpeaks w (elim o [ None ↦ NoHead 5 | Some name ↦ head_named scope locals name ])
      head_name_speaks w locals None e = tt
      head_name_speaks w locals (Some name) e = head_operator_speaks w locals name (found operators name) (named_orders_none w name e)

      head_speaks : (w : Word) (locals : Env Sort) → HeadSpeaks w (head_of scope locals w)
      head_speaks w locals =
          either_head w (is_word (codes "let") w) LetHead _ (is_word_orders (codes "let") w)
          (either_head w (is_word (codes "as") w) AsHead _ (is_word_orders (codes "as") w) (head_name_speaks w locals (name_of w) refl))

      -- Applications

      reads_height : (W : Type 0) (opening : Word) (r : Read Sorted) → MayFail P opening → ReadsAs P (λ t. W × SpeaksOf t) r → ReadsAs P (λ t. W × SpeaksOf t) (behind r (of_height limit opening))
      reads_height W opening r m h =
          reads_behind P (λ t. W × SpeaksOf t) (λ t. W × SpeaksOf t) r (of_height limit opening) h
          (λ t g. reads_either P (λ u. W × SpeaksOf u) (nat_lt limit (height t.term)) (faulty 14 opening) (Sound t) (λ e. (one_fault P 14 opening m, tt)) (λ e. (All-nil P, g)))

      abbrev pub ArgumentsAre : Trees → List Argument → Type 0
      ArgumentsAre ts args = AreArguments args × (own_faults args ≡ [] → EachLeaves HasOrders ts)

      abbrev pub BindingsAre : Trees → List Binding → Type 0
      BindingsAre ts bs = AreBindings bs × (binding_faults bs ≡ [] → EachLeaves HasOrders ts)

      reads_application : (locals : Env Sort) (opening w closing : Word) (rest : Trees) (h : Head) → MayFail P opening → MayFail P w → MayFail P closing → EachIn (MayFail P) (items_of rest) → HeadSpeaks w h
          → ReadsAs P (λ t. EachLeaves HasOrders rest × SpeaksOf t) (let_read limit scope locals closing rest) → ArgumentsAre rest (arguments_read limit scope locals rest)
          → ReadsAs P (λ t. (HasOrders w × EachLeaves HasOrders rest) × SpeaksOf t) (elim h [
            | LetHead ↦ behind (let_read limit scope locals closing rest) (of_height limit opening)
            | AsHead ↦ as_read scope closing (items_of rest)
            | Function op ↦ behind (function_read op closing (arguments_read limit scope locals rest)) (of_height limit opening)
            | Macro parameters s body ↦ behind (macro_read parameters s body closing (arguments_read limit scope locals rest)) (of_height limit opening)
            | NoHead code ↦ faulty code w
          ])
      reads_application locals opening w closing rest LetHead o m c i g l a =
          reads_height (HasOrders w × EachLeaves HasOrders rest) opening (let_read limit scope locals closing rest) o
          (reads_weaker P (λ t. EachLeaves HasOrders rest × SpeaksOf t) (λ t. (HasOrders w × EachLeaves HasOrders rest) × SpeaksOf t) (let_read limit scope locals closing rest) (λ t h. ((g, h.0), h.1)) l)
      reads_application locals opening w closing rest AsHead o m c i g l a =
          reads_weaker P (λ t. LeavesIn HasOrders (items_of rest) × SpeaksOf t) (λ t. (HasOrders w × EachLeaves HasOrders rest) × SpeaksOf t) (as_read scope closing (items_of rest))
          (λ t h. ((g, leaves_back HasOrders rest h.0), h.1)) (reads_as_constant closing (items_of rest) c i)
      reads_application locals opening w closing rest (Function op) o m c i g l a =
          reads_height (HasOrders w × EachLeaves HasOrders rest) opening _ o (reads_function (HasOrders w × EachLeaves HasOrders rest) op closing (arguments_read limit scope locals rest) c a.0 (λ e. (g, a.1 e)))
      reads_application locals opening w closing rest (Macro ps s t) o m c i g l a =
          reads_height (HasOrders w × EachLeaves HasOrders rest) opening _ o (reads_macro (HasOrders w × EachLeaves HasOrders rest) ps s t closing (arguments_read limit scope locals rest) c g.1 a.0 (λ e. (g.0, a.1 e)))
      reads_application locals opening w closing rest (NoHead code) o m c i g l a = (one_fault P code w m, tt)

      then_no_more : (V : Type 0) (items : Trees) (r : Read Sorted) → EachTokens (MayFail P) items → ReadsAs P (λ t. V × SpeaksOf t) r
          → ReadsAs P (λ t. (V × EachLeaves HasOrders items) × SpeaksOf t) (unless (no_more (items_of items)) r)
      then_no_more V items r m h =
          reads_unless P (λ t. (V × EachLeaves HasOrders items) × SpeaksOf t) (no_more (items_of items)) r (no_more_at P HasOrders (items_of items) (each_in (MayFail P) items m)) h.0
          (λ e. if_sound P (λ t. V × SpeaksOf t) (λ t. (V × EachLeaves HasOrders items) × SpeaksOf t) r (λ t g. ((g.0, no_leaves HasOrders items e), g.1)) h.1)

      mutual
        unfolding term_read

        pub reads_term : (t : Tree) (locals : Env Sort) → EachToken (MayFail P) t → ReadsTree P HasOrders SpeaksOf t (term_read limit scope locals t)
        reads_term (Leaf w) locals m = reads_leaf locals w.kind w refl m
        reads_term (Group opening Empty closing) locals m = (one_fault P 5 closing m.2, tt)
        reads_term (Group opening (First (Group o items c) rest) closing) locals m = (one_fault P 5 o m.1.0.0, tt)
        reads_term (Group opening (First (Leaf w) rest) closing) locals m =
            reads_application locals opening w closing rest (head_of scope locals w) m.0 m.1.0 m.2 (each_in (MayFail P) rest m.1.1) (head_speaks w locals) (reads_let rest locals closing m.2 m.1.1) (reads_arguments rest locals m.1.1)

        pub reads_arguments : (ts : Trees) (locals : Env Sort) → EachTokens (MayFail P) ts → ArgumentsAre ts (arguments_read limit scope locals ts)
        reads_arguments Empty locals m = (tt, λ e. tt)
        reads_arguments (First t ts) locals m =
            let r = term_read limit scope locals t in
            let one = reads_term t locals m.0 in
            let others = reads_arguments ts locals m.1 in (
              (each_front (MayFail P) t m.0, reads_weaker P (λ x. EachLeaf HasOrders t × SpeaksOf x) SpeaksOf r (λ x h. h.1) one, others.0),
              λ e.
                  let two = both_none (faults r) (own_faults (arguments_read limit scope locals ts)) e in
                  (says P (EachLeaf HasOrders t) r two.0 (if_sound P (λ x. EachLeaf HasOrders t × SpeaksOf x) (λ x. EachLeaf HasOrders t) r (λ x h. h.0) one.1), others.1 two.1),
            )

        reads_let : (ts : Trees) (locals : Env Sort) (closing : Word) → MayFail P closing → EachTokens (MayFail P) ts → ReadsAs P (λ t. EachLeaves HasOrders ts × SpeaksOf t) (let_read limit scope locals closing ts)
        reads_let Empty locals closing c m = (one_fault P 5 closing c, tt)
        reads_let (First (Leaf w) rest) locals closing c m = (one_fault P 5 w m.0, tt)
        reads_let (First (Group o bindings k) Empty) locals closing c m =
            let bs = bindings_read limit scope locals bindings in
            let r : Read Sorted = faulty 5 closing in
            let bound = reads_bindings bindings locals m.0.1 in
            reads_unless P (λ t. EachLeaves HasOrders (First (Group o bindings k) Empty) × SpeaksOf t) (faults (bound_read k bs)) r (reads_bound (EachLeaves HasOrders bindings) k bs m.0.2 bound.0 bound.1).0 (one_fault P 5 closing c) (λ e. tt)
        reads_let (First (Group o bindings k) (First body rest)) locals closing c m =
            let bs = bindings_read limit scope locals bindings in
            let bound = reads_bindings bindings locals m.0.1 in
            let V : Type 0 = EachLeaf HasOrders body × EachLeaves HasOrders rest in
            reads_behind P (λ b. EachLeaves HasOrders bindings × AllSpeak b.terms) (λ t. (EachLeaves HasOrders bindings × V) × SpeaksOf t) (bound_read k bs) _
            (reads_bound (EachLeaves HasOrders bindings) k bs m.0.2 bound.0 bound.1)
            (λ b h. body_speaks (EachLeaves HasOrders bindings) V b (unless (no_more (items_of rest)) (term_read limit scope (locals_of b ++ locals) body)) h.0 h.1
            (then_no_more (EachLeaf HasOrders body) rest (term_read limit scope (locals_of b ++ locals) body) m.1.1 (reads_term body (locals_of b ++ locals) m.1.0)))

        pub reads_bindings : (ts : Trees) (locals : Env Sort) → EachTokens (MayFail P) ts → BindingsAre ts (bindings_read limit scope locals ts)
        reads_bindings Empty locals m = (tt, λ e. tt)
        reads_bindings (First t ts) locals m =
            let one = reads_binding t locals m.0 in
            let others = reads_bindings ts locals m.1 in
            let b = binding_read limit scope locals t in (
              (one.0, one.1, others.0),
              λ e.
                  let both = both_none (faults b.variable ++ faults b.value) (binding_faults (bindings_read limit scope locals ts)) e in
                  (one.2 both.0, others.1 both.1),
            )

        reads_binding : (t : Tree) (locals : Env Sort) → EachToken (MayFail P) t
            → ReadsAs P (λ n. MayFail P n.at) ((binding_read limit scope locals t).variable) × ReadsAs P SpeaksOf ((binding_read limit scope locals t).value)
            × (faults ((binding_read limit scope locals t).variable) ++ faults ((binding_read limit scope locals t).value) ≡ [] → EachLeaf HasOrders t)
        reads_binding (Leaf w) locals m = ((one_fault P 5 w m, tt), (one_fault P 5 w m, tt), λ e. cc)
        reads_binding (Group o Empty c) locals m = ((one_fault P 5 c m.2, tt), (one_fault P 5 c m.2, tt), λ e. cc)
        reads_binding (Group o (First x Empty) c) locals m = (
          reads_weaker P (λ n. EachLeaf HasOrders x × MayFail P n.at) (λ n. MayFail P n.at) (variable_read x) (λ n h. h.1) (reads_variable x m.1.0),
          (one_fault P 5 c m.2, tt),
          λ e.
              let two = both_none (faults (variable_read x)) (word_fault 5 c ∷ []) e in absurd (no_fault (word_fault 5 c) two.1),
        )
        reads_binding (Group o (First x (First t rest)) c) locals m =
            let name = reads_variable x m.1.0 in
            let r = unless (no_more (items_of rest)) (term_read limit scope locals t) in
            let value = then_no_more (EachLeaf HasOrders t) rest (term_read limit scope locals t) m.1.1.1 (reads_term t locals m.1.1.0) in (
              reads_weaker P (λ n. EachLeaf HasOrders x × MayFail P n.at) (λ n. MayFail P n.at) (variable_read x) (λ n h. h.1) name,
              reads_weaker P (λ u. (EachLeaf HasOrders t × EachLeaves HasOrders rest) × SpeaksOf u) SpeaksOf r (λ u h. h.1) value,
              λ e.
                  let two = both_none (faults (variable_read x)) (faults r) e in (
                    says P (EachLeaf HasOrders x) (variable_read x) two.0 (if_sound P (λ n. EachLeaf HasOrders x × MayFail P n.at) (λ n. EachLeaf HasOrders x) (variable_read x) (λ n h. h.0) name.1),
                    says P (EachLeaf HasOrders t × EachLeaves HasOrders rest) r two.1 (if_sound P (λ u. (EachLeaf HasOrders t × EachLeaves HasOrders rest) × SpeaksOf u) (λ u. EachLeaf HasOrders t × EachLeaves HasOrders rest) r (λ u h. h.0) value.1),
                  ),
            )
