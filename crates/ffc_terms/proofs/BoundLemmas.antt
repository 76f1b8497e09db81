-- All variables of a `let` with their terms.
use Rattle.std.proofs.Common.{◌≡◌, ℕ, ◌+◌, ◌≤◌, max, Bool, true, false, List, [], ◌∷◌, ◌++◌, if◌then◌else◌, length, map, Contains, Option, Some, None, Result, Ok, Err, refl, sym, ap, ◌∙◌, subst, inl, inr, ◌⊎◌, ⊎_elim, arith, append_assoc}
use Rattle.std.proofs.lemmas.List.{append-nil}
use Rattle.std.proofs.lemmas.List.Elements.{Contains-append_left, Contains-append_right}
use Rattle.ffc_lex.specs.declared.tokens.TokenKind.TheVariants as kinds
use Rattle.ffc_lex.specs.Names.{is_theory_name}
use Rattle.ffc_term.specs.declared.node.Node.{Node}
use Rattle.ffc_term.specs.declared.node.Sort.{Sort}
use Rattle.ffc_term.specs.declared.node.Sort.TheVariants as sort
use Rattle.ffc_smt.specs.Trees.{Word, Tree, Leaf, Group, Trees, Empty, First, tokens_of, tokens_of_items, items_of, front, name_of}
use Rattle.ffc_smt.specs.TreeShapes.{is_parenthesis, IsProper}
use Rattle.ffc_smt.specs.Terms.{Name, Terms, height, highest, weight, weights}
use Rattle.ffc_smt.specs.Meaning.{Env}
use Rattle.ffc_smt.specs.Scopes.{Scope}
use Rattle.ffc_smt.specs.Faults.{Fault, word_fault, is_before, Read, Sound, faults, faulty}
use Rattle.ffc_smt.specs.TermReading.{Sorted, Named, free_name, variable_read, is_among, twice, Binding, add_named, variables, binding_faults, values, terms_of_bound, bindings_read, binding_read}
use Rattle.ffc_smt.proofs.PartLemmas.{binding_faults_at}
use Rattle.ffc_words.specs.Outcomes.{outcome}
use Rattle.ffc_terms.specs.declared.callees.Parts.{Parts}
use Rattle.ffc_terms.specs.declared.codes.Op.{Op}
use Rattle.ffc_terms.specs.declared.frames.Frame.{Frame}
use Rattle.ffc_terms.specs.declared.frames.Frame.TheVariants as frame
use Rattle.ffc_terms.specs.declared.frames.Place.{Place}
use Rattle.ffc_terms.specs.declared.frames.Stage.TheVariants as stage
use Rattle.ffc_terms.specs.declared.scope.Symbols.{Symbols}
use Rattle.ffc_terms.specs.Callees.{capped, with_part}
use Rattle.ffc_terms.specs.Codes.{AreCodes, IsScope}
use Rattle.ffc_terms.specs.Slots.{slot_of}
use Rattle.ffc_terms.specs.Walking.{Walking, Going, refused, is_late, goes_on, run}
use Rattle.ffc_terms.proofs.ArgumentLemmas.{cap_sum, cap_small}
use Rattle.ffc_terms.proofs.BindingLemmas.{pending_of, bound_onto, at_bindings, late_among, bind_open, bind_leaf, variable_one, value_bound, one_at, variables_at, twice_at}
use Rattle.ffc_terms.proofs.FirstLemmas.{each_append, AreInOrder, order_left, IsAt, at_from, at_left, at_right, NoneBefore, none_later, not_before_itself, outcome_faulty, outcome_sound, contains_first}
use Rattle.ffc_terms.proofs.ItemLemmas.{each_has}
use Rattle.ffc_terms.proofs.OneTermLemmas.{one_read, OneRuns}
use Rattle.ffc_terms.proofs.RunLemmas.{at_term}
use Rattle.ffc_terms.proofs.SortTreeLemmas.{name_left, name_right}

module _ (limit : ℕ) (nodes : List Node) (symbols : Symbols) (scope : Scope) (is : IsScope nodes symbols scope) (locals : Env Sort) where
  abbrev pub bindings : Trees → List Binding
  bindings items = bindings_read limit scope locals items

  abbrev pub own : Trees → List Fault
  own items = binding_faults (bindings items)

  abbrev pub again : Trees → List (Named × Sort) → List Fault
  again items done = twice (map (λ x. x.0) done) (variables (bindings items))

  abbrev pub bind : Place → Parts → List Frame → List Op → List (Named × Sort) → Env Sort → Walking
  bind at p fs code done base = at_bindings at p fs code locals (pending_of done base)

  -- all are bound
  pub record AreBound (items : Trees) (p : Parts) (done : List (Named × Sort)) : Type 0 where
    pub own_none : own items ≡ []
    pub again_none : again items done ≡ []
    pub pairs : List (Named × Sorted)
    pub variables_are : variables (bindings items) ≡ map (λ x. x.0) pairs
    pub values_are : values (bindings items) ≡ map (λ x. x.1) pairs
    pub ops : List Op
    pub codes : AreCodes nodes symbols.terms (map (λ x. x.0) locals) (terms_of_bound (map (λ x. x.1) pairs)) (length pairs) ops
    pub after : Parts
    pub count : after.count ≡ p.count + length pairs
    pub height_is : after.height ≡ max p.height (highest (terms_of_bound (map (λ x. x.1) pairs)))
    pub weight_is : after.weight ≡ capped (p.weight + weights (terms_of_bound (map (λ x. x.1) pairs)))
    pub runs : (at : Place) (fs : List Frame) (code : List Op) (base : Env Sort) (rest : List Word)
        → run limit symbols (bind at p fs code done base) (tokens_of_items items ++ rest) ≡ run limit symbols (bind at after fs (code ++ ops) (bound_onto pairs done) base) rest

  -- one is not
  pub record IsUnbound (items : Trees) (p : Parts) (done : List (Named × Sort)) : Type 0 where
    pub first : Fault
    pub among : Contains (own items ++ again items done) first
    pub own_least : NoneBefore first (own items)
    pub again_least : NoneBefore first (again items done)
    pub at_items : IsAt (tokens_of_items items) first
    pub runs : (at : Place) (fs : List Frame) (code : List Op) (base : Env Sort) (rest : List Word)
        → run limit symbols (bind at p fs code done base) (tokens_of_items items ++ rest) ≡ Err first

  abbrev pub BindingsRun : Trees → Parts → List (Named × Sort) → Type 0
  BindingsRun items p done = AreBound items p done ⊎ IsUnbound items p done

  pub no_bindings : (p : Parts) (done : List (Named × Sort)) → p.weight ≤ 4294967295 → BindingsRun Empty p done
  unfolding bindings_read highest weights tokens_of_items
  no_bindings p done light = inl (record {
    own_none = refl;
    again_none = refl;
    pairs = [];
    variables_are = refl;
    values_are = refl;
    ops = [];
    codes = (refl, refl);
    after = p;
    count = omega arith;
    height_is = omega arith;
    weight_is = cap_small p.weight light;
    runs = λ at fs code base rest. ap (λ k. run limit symbols (bind at p fs k done base) rest) (sym (append-nil code));
  })

  abbrev Below : Fault → Fault → Type 0
  Below f h = is_before h f ≡ false

  later_own : (t : Tree) (ts : Trees) (f : Fault) → AreInOrder (tokens_of t ++ tokens_of_items ts) → IsAt (tokens_of t) f → NoneBefore f (own ts)
  later_own t ts f order a = none_later (tokens_of t) (tokens_of_items ts) f (own ts) order a (at_from (tokens_of_items ts) (own ts) (binding_faults_at ts limit scope locals))

  later_again : (t : Tree) (ts : Trees) (before : List Named) (f : Fault) → AreInOrder (tokens_of t ++ tokens_of_items ts) → IsAt (tokens_of t) f → NoneBefore f (twice before (variables (bindings ts)))
  later_again t ts before f order a =
      none_later (tokens_of t) (tokens_of_items ts) f (twice before (variables (bindings ts))) order a (twice_at limit nodes symbols scope is locals (tokens_of_items ts) before (variables (bindings ts)) (variables_at limit nodes symbols scope is locals ts))

  split : (t : Tree) (ts : Trees) (rest : List Word) → tokens_of_items (First t ts) ++ rest ≡ tokens_of t ++ (tokens_of_items ts ++ rest)
  unfolding tokens_of_items
  split t ts rest = append_assoc (tokens_of t) (tokens_of_items ts) rest

  items_split : (u : Tree) (us : Trees) → tokens_of_items (First u us) ≡ tokens_of u ++ tokens_of_items us
  unfolding tokens_of_items
  items_split u us = refl

  -- A binding that cannot be read: its own first fault is that of the list.
  unread : (t : Tree) (ts : Trees) (p : Parts) (done : List (Named × Sort)) (f : Fault) (v : Read Named) (s : Read Sorted) → (binding_read limit scope locals t) ≡ record { variable = v; value = s }
      → AreInOrder (tokens_of t ++ tokens_of_items ts) → IsAt (tokens_of t) f → Contains (faults v ++ faults s) f → NoneBefore f (faults v ++ faults s)
      → ((before : List Named) → NoneBefore f (twice before (add_named v (variables (bindings ts)))))
      → ((at : Place) (fs : List Frame) (code : List Op) (base : Env Sort) (rest : List Word) → run limit symbols (bind at p fs code done base) (tokens_of t ++ rest) ≡ Err f)
      → IsUnbound (First t ts) p done
  unfolding bindings_read
  unread t ts p done f v s e order a has none later runs =
      let list : own (First t ts) ≡ faults v ++ faults s ++ own ts = ap (λ b. faults b.variable ++ faults b.value ++ own ts) e in
      let names : again (First t ts) done ≡ twice (map (λ x. x.0) done) (add_named v (variables (bindings ts))) = ap (λ b. twice (map (λ x. x.0) done) (add_named b.variable (variables (bindings ts)))) e in
      record {
        first = f;
        among = Contains-append_left (own (First t ts)) (again (First t ts) done) f (subst (λ fs. Contains fs f) (sym list) (Contains-append_left (faults v ++ faults s) (own ts) f has));
        own_least = subst (NoneBefore f) (sym list) (each_append (Below f) (faults v ++ faults s) (own ts) none (later_own t ts f order a));
        again_least = subst (NoneBefore f) (sym names) (later (map (λ x. x.0) done));
        at_items = subst (λ ws. IsAt ws f) (sym (items_split t ts)) (at_left (tokens_of t) (tokens_of_items ts) f a);
        runs = λ at fs code base rest. ap (run limit symbols (bind at p fs code done base)) (split t ts rest) ∙ runs at fs code base (tokens_of_items ts ++ rest);
      }

  leaf_unread : (w : Word) (ts : Trees) (p : Parts) (done : List (Named × Sort)) → is_parenthesis w.kind ≡ false → AreInOrder (tokens_of (Leaf w) ++ tokens_of_items ts) → IsUnbound (First (Leaf w) ts) p done
  unfolding binding_read tokens_of
  leaf_unread w ts p done k order =
      let f = word_fault 5 w in
      unread (Leaf w) ts p done f (faulty 5 w) (faulty 5 w) refl order (inl (refl, refl)) (contains_first f (f ∷ [])) (not_before_itself f, (not_before_itself f, tt))
      (λ before. later_again (Leaf w) ts before f order (inl (refl, refl)))
      (λ at fs code base rest. bind_leaf limit nodes symbols scope is locals at p fs code (pending_of done base) w rest k)

  empty_unread : (o c : Word) (ts : Trees) (p : Parts) (done : List (Named × Sort)) → o.kind ≡ kinds.LeftParen → c.kind ≡ kinds.RightParen → AreInOrder (tokens_of (Group o Empty c) ++ tokens_of_items ts)
      → IsUnbound (First (Group o Empty c) ts) p done
  unfolding binding_read tokens_of tokens_of_items
  empty_unread o c ts p done left right order =
      let f = word_fault 5 c in
      unread (Group o Empty c) ts p done f (faulty 5 c) (faulty 5 c) refl order (inr (inl (refl, refl))) (contains_first f (f ∷ [])) (not_before_itself f, (not_before_itself f, tt))
      (λ before. later_again (Group o Empty c) ts before f order (inr (inl (refl, refl))))
      (λ at fs code base rest.
      bind_open limit nodes symbols scope is locals at p fs code (pending_of done base) o (c ∷ rest) left ∙ variable_one limit nodes symbols scope is locals at p fs code (pending_of done base) c rest None (name_right c right))

  -- a variable and what comes after it
  abbrev pair : Word → Tree → Trees → Word → Tree
  pair o x vs c = Group o (First x vs) c

  pair_read : (o : Word) (x : Tree) (vs : Trees) (c : Word) → binding_read limit scope locals (pair o x vs c) ≡ record { variable = variable_read x; value = one_read limit nodes symbols scope is locals vs c }
  unfolding binding_read items_of
  pair_read o x Empty c = refl
  pair_read o x (First t rest) c = refl

  pair_words : (o : Word) (x : Tree) (vs : Trees) (c : Word) (rest : List Word) → tokens_of (pair o x vs c) ++ rest ≡ o ∷ (tokens_of x ++ (tokens_of_items vs ++ c ∷ rest))
  unfolding tokens_of tokens_of_items
  pair_words o x vs c rest =
      ap (λ ws. o ∷ ws) (append_assoc (tokens_of x ++ tokens_of_items vs) (c ∷ []) rest ∙ append_assoc (tokens_of x) (tokens_of_items vs) (c ∷ rest))

  pair_tokens : (o : Word) (x : Tree) (vs : Trees) (c : Word) → tokens_of (pair o x vs c) ≡ o ∷ (tokens_of x ++ (tokens_of_items vs ++ c ∷ []))
  unfolding tokens_of tokens_of_items
  pair_tokens o x vs c = ap (λ ws. o ∷ ws) (append_assoc (tokens_of x) (tokens_of_items vs) (c ∷ []))

  at_variable : (o : Word) (x : Tree) (vs : Trees) (c : Word) (f : Fault) → IsAt (tokens_of x) f → IsAt (tokens_of (pair o x vs c)) f
  at_variable o x vs c f a = subst (λ ws. IsAt ws f) (sym (pair_tokens o x vs c)) (inr (at_left (tokens_of x) (tokens_of_items vs ++ c ∷ []) f a))

  at_value : (o : Word) (x : Tree) (vs : Trees) (c : Word) (f : Fault) → IsAt (tokens_of_items vs ++ c ∷ []) f → IsAt (tokens_of (pair o x vs c)) f
  at_value o x vs c f a = subst (λ ws. IsAt ws f) (sym (pair_tokens o x vs c)) (inr (at_right (tokens_of x) (tokens_of_items vs ++ c ∷ []) f a))

  inner_order : (o : Word) (x : Tree) (vs : Trees) (c : Word) (ws : List Word) → AreInOrder (tokens_of (pair o x vs c) ++ ws) → AreInOrder (tokens_of x ++ (tokens_of_items vs ++ c ∷ []))
  inner_order o x vs c ws order = (subst AreInOrder (pair_tokens o x vs c) (order_left (tokens_of (pair o x vs c)) ws order)).1

  -- the faults of what comes after a variable are after one at it
  later_value : (o : Word) (x : Tree) (vs : Trees) (c : Word) (ws : List Word) (f : Fault) → AreInOrder (tokens_of (pair o x vs c) ++ ws) → IsAt (tokens_of x) f
      → NoneBefore f (faults (one_read limit nodes symbols scope is locals vs c))
  later_value o x vs c ws f order a =
      none_later (tokens_of x) (tokens_of_items vs ++ c ∷ []) f (faults (one_read limit nodes symbols scope is locals vs c)) (inner_order o x vs c ws order) a (one_at limit nodes symbols scope is locals vs c)

  -- A variable that is none.
  no_variable : (o : Word) (x : Tree) (vs : Trees) (c : Word) (ts : Trees) (p : Parts) (done : List (Named × Sort)) (code : ℕ) → variable_read x ≡ faulty code (front x) → o.kind ≡ kinds.LeftParen
      → AreInOrder (tokens_of (pair o x vs c) ++ tokens_of_items ts) → IsAt (tokens_of x) (word_fault code (front x))
      → ((at : Place) (fs : List Frame) (ops : List Op) (base : Env Sort) (rest : List Word)
      → run limit symbols (record { stage = stage.Variable at p; frames = fs; code = ops; locals = locals; pending = pending_of done base }) (tokens_of x ++ rest) ≡ Err (word_fault code (front x)))
      → IsUnbound (First (pair o x vs c) ts) p done
  no_variable o x vs c ts p done code e left order a runs =
      let f = word_fault code (front x) in
      let v = one_read limit nodes symbols scope is locals vs c in
      let at = at_variable o x vs c f a in
      unread (pair o x vs c) ts p done f (faulty code (front x)) v (pair_read o x vs c ∙ ap (λ r. record { variable = r; value = v }) e) order at
      (contains_first f (faults v)) (not_before_itself f, later_value o x vs c (tokens_of_items ts) f order a) (λ before. later_again (pair o x vs c) ts before f order at)
      (λ place fs ops base rest.
      ap (run limit symbols (bind place p fs ops done base)) (pair_words o x vs c rest)
      ∙ bind_open limit nodes symbols scope is locals place p fs ops (pending_of done base) o (tokens_of x ++ (tokens_of_items vs ++ c ∷ rest)) left
      ∙ runs place fs ops base (tokens_of_items vs ++ c ∷ rest))

  group_variable : (o g : Word) (inner : Trees) (d : Word) (vs : Trees) (c : Word) (ts : Trees) (p : Parts) (done : List (Named × Sort)) → o.kind ≡ kinds.LeftParen → g.kind ≡ kinds.LeftParen
      → AreInOrder (tokens_of (pair o (Group g inner d) vs c) ++ tokens_of_items ts) → IsUnbound (First (pair o (Group g inner d) vs c) ts) p done
  unfolding tokens_of
  group_variable o g inner d vs c ts p done left opens order =
      no_variable o (Group g inner d) vs c ts p done 5 refl left order (inl (refl, refl))
      (λ at fs code base rest. variable_one limit nodes symbols scope is locals at p fs code (pending_of done base) g ((tokens_of_items inner ++ d ∷ []) ++ rest) None (name_left g opens))

  nameless : (o w : Word) (vs : Trees) (c : Word) (ts : Trees) (p : Parts) (done : List (Named × Sort)) → o.kind ≡ kinds.LeftParen → name_of w ≡ None
      → AreInOrder (tokens_of (pair o (Leaf w) vs c) ++ tokens_of_items ts) → IsUnbound (First (pair o (Leaf w) vs c) ts) p done
  unfolding tokens_of
  nameless o w vs c ts p done left none order =
      no_variable o (Leaf w) vs c ts p done 5 (ap (λ x. elim x as (λ y. Read Named) [ None ↦ faulty 5 w | Some m ↦ free_name w m ]) none) left order (inl (refl, refl))
      (λ at fs code base rest. variable_one limit nodes symbols scope is locals at p fs code (pending_of done base) w rest None none)

  theory_variable : (o w : Word) (name : Name) (vs : Trees) (c : Word) (ts : Trees) (p : Parts) (done : List (Named × Sort)) → o.kind ≡ kinds.LeftParen → name_of w ≡ Some name → is_theory_name name ≡ true
      → AreInOrder (tokens_of (pair o (Leaf w) vs c) ++ tokens_of_items ts) → IsUnbound (First (pair o (Leaf w) vs c) ts) p done
  unfolding tokens_of
  theory_variable o w name vs c ts p done left named taken order =
      no_variable o (Leaf w) vs c ts p done 9
      (ap (λ x. elim x as (λ y. Read Named) [ None ↦ faulty 5 w | Some m ↦ free_name w m ]) named ∙ ap (λ b. if b then faulty 9 w else Sound (record { at = w; name = name })) taken)
      left order (inl (refl, refl))
      (λ at fs code base rest.
      variable_one limit nodes symbols scope is locals at p fs code (pending_of done base) w rest (Some name) named
      ∙ ap (λ b. goes_on (λ x. run limit symbols x rest) rest (if b then refused 9 w else (if is_late p.count (pending_of done base) (slot_of (pending_of done base) name) then refused 9 w else Going (at_term (frame.Value at p ∷ fs) code locals ((name, sort.Bool) ∷ pending_of done base))))) taken)

  -- A variable of this name, and what comes after it.
  module _ (o w : Word) (name : Name) (vs : Trees) (c : Word) (ts : Trees) (p : Parts) (done : List (Named × Sort))
      (left : o.kind ≡ kinds.LeftParen) (right : c.kind ≡ kinds.RightParen) (named : name_of w ≡ Some name) (free : is_theory_name name ≡ false)
      (order : AreInOrder (tokens_of (pair o (Leaf w) vs c) ++ tokens_of_items ts)) (count : p.count ≡ length done) where
    abbrev n : Named
    n = record { at = w; name = name }

    abbrev t : Tree
    t = pair o (Leaf w) vs c

    abbrev value : Read Sorted
    value = one_read limit nodes symbols scope is locals vs c

    abbrev before : List Named
    before = map (λ x. x.0) done

    variable_is : variable_read (Leaf w) ≡ Sound n
    variable_is = ap (λ x. elim x as (λ y. Read Named) [ None ↦ faulty 5 w | Some m ↦ free_name w m ]) named ∙ ap (λ b. if b then faulty 9 w else Sound n) free

    read_is : binding_read limit scope locals t ≡ record { variable = Sound n; value = value }
    read_is = pair_read o (Leaf w) vs c ∙ ap (λ r. record { variable = r; value = value }) variable_is

    own_is : own (First t ts) ≡ faults value ++ own ts
    unfolding bindings_read
    own_is = ap (λ b. faults b.variable ++ faults b.value ++ own ts) read_is

    again_is : again (First t ts) done ≡ (if is_among name before then word_fault 9 w ∷ [] else []) ++ twice (n ∷ before) (variables (bindings ts))
    unfolding bindings_read
    again_is = ap (λ b. twice before (add_named b.variable (variables (bindings ts)))) read_is

    at_w : (f : Fault) → f.line ≡ w.line → f.column ≡ w.column → IsAt (tokens_of (Leaf w)) f
    unfolding tokens_of
    at_w f l k = inl (l, k)

    -- up to what comes after the variable
    up_to : (place : Place) (fs : List Frame) (code : List Op) (base : Env Sort) (rest : List Word)
        → run limit symbols (bind place p fs code done base) (tokens_of t ++ rest)
        ≡ goes_on (λ x. run limit symbols x (tokens_of_items vs ++ c ∷ rest)) (tokens_of_items vs ++ c ∷ rest)
        (if is_among name before then refused 9 w else Going (at_term (frame.Value place p ∷ fs) code locals ((name, sort.Bool) ∷ pending_of done base)))
    unfolding tokens_of
    up_to place fs code base rest =
        let more = tokens_of_items vs ++ c ∷ rest in
        ap (run limit symbols (bind place p fs code done base)) (pair_words o (Leaf w) vs c rest)
        ∙ bind_open limit nodes symbols scope is locals place p fs code (pending_of done base) o (w ∷ more) left
        ∙ variable_one limit nodes symbols scope is locals place p fs code (pending_of done base) w more (Some name) named
        ∙ ap (λ b. goes_on (λ x. run limit symbols x more) more (if b then refused 9 w else (if is_late p.count (pending_of done base) (slot_of (pending_of done base) name) then refused 9 w else Going (at_term (frame.Value place p ∷ fs) code locals ((name, sort.Bool) ∷ pending_of done base))))) free
        ∙ ap (λ b. goes_on (λ x. run limit symbols x more) more (if b then refused 9 w else Going (at_term (frame.Value place p ∷ fs) code locals ((name, sort.Bool) ∷ pending_of done base)))) (late_among done base name p.count count)

    bound_twice : is_among name before ≡ true → IsUnbound (First t ts) p done
    bound_twice is_twice =
        let f = word_fault 9 w in
        let at = at_variable o (Leaf w) vs c f (at_w f refl refl) in
        let list : again (First t ts) done ≡ f ∷ twice (n ∷ before) (variables (bindings ts)) = again_is ∙ ap (λ b. (if b then f ∷ [] else []) ++ twice (n ∷ before) (variables (bindings ts))) is_twice in
        record {
          first = f;
          among = Contains-append_right (own (First t ts)) (again (First t ts) done) f (subst (λ fs. Contains fs f) (sym list) (contains_first f (twice (n ∷ before) (variables (bindings ts)))));
          own_least = subst (NoneBefore f) (sym own_is)
              (each_append (Below f) (faults value) (own ts) (later_value o (Leaf w) vs c (tokens_of_items ts) f order (at_w f refl refl)) (later_own t ts f order at));
          again_least = subst (NoneBefore f) (sym list) (not_before_itself f, later_again t ts (n ∷ before) f order at);
          at_items = subst (λ ws. IsAt ws f) (sym (items_split t ts)) (at_left (tokens_of t) (tokens_of_items ts) f at);
          runs = λ place fs code base rest.
              ap (run limit symbols (bind place p fs code done base)) (split t ts rest) ∙ up_to place fs code base (tokens_of_items ts ++ rest)
              ∙ ap (λ b. goes_on (λ x. run limit symbols x (tokens_of_items vs ++ c ∷ (tokens_of_items ts ++ rest))) (tokens_of_items vs ++ c ∷ (tokens_of_items ts ++ rest))
              (if b then refused 9 w else Going (at_term (frame.Value place p ∷ fs) code locals ((name, sort.Bool) ∷ pending_of done base)))) is_twice;
        }

    -- up to the term, where the variable is new
    new_up_to : is_among name before ≡ false → (place : Place) (fs : List Frame) (code : List Op) (base : Env Sort) (rest : List Word)
        → run limit symbols (bind place p fs code done base) (tokens_of_items (First t ts) ++ rest)
        ≡ run limit symbols (at_term (frame.Value place p ∷ fs) code locals ((name, sort.Bool) ∷ pending_of done base)) (tokens_of_items vs ++ c ∷ (tokens_of_items ts ++ rest))
    new_up_to is_new place fs code base rest =
        ap (run limit symbols (bind place p fs code done base)) (split t ts rest) ∙ up_to place fs code base (tokens_of_items ts ++ rest)
        ∙ ap (λ b. goes_on (λ x. run limit symbols x (tokens_of_items vs ++ c ∷ (tokens_of_items ts ++ rest))) (tokens_of_items vs ++ c ∷ (tokens_of_items ts ++ rest))
        (if b then refused 9 w else Going (at_term (frame.Value place p ∷ fs) code locals ((name, sort.Bool) ∷ pending_of done base)))) is_new

    again_new : is_among name before ≡ false → again (First t ts) done ≡ twice (n ∷ before) (variables (bindings ts))
    again_new is_new = again_is ∙ ap (λ b. (if b then word_fault 9 w ∷ [] else []) ++ twice (n ∷ before) (variables (bindings ts))) is_new

    value_faulty : (e : Fault) → is_among name before ≡ false → outcome value ≡ Err e → OneRuns limit nodes symbols scope is locals vs c (Err e) → IsUnbound (First t ts) p done
    value_faulty e is_new is_err h =
        let first = outcome_faulty value e is_err in
        let inside = each_has (IsAt (tokens_of_items vs ++ c ∷ [])) (faults value) e (one_at limit nodes symbols scope is locals vs c) first.0 in
        let at = at_value o (Leaf w) vs c e inside in
        record {
          first = e;
          among = Contains-append_left (own (First t ts)) (again (First t ts) done) e (subst (λ fs. Contains fs e) (sym own_is) (Contains-append_left (faults value) (own ts) e first.0));
          own_least = subst (NoneBefore e) (sym own_is) (each_append (Below e) (faults value) (own ts) first.1 (later_own t ts e order at));
          again_least = subst (NoneBefore e) (sym (again_new is_new)) (later_again t ts (n ∷ before) e order at);
          at_items = subst (λ ws. IsAt ws e) (sym (items_split t ts)) (at_left (tokens_of t) (tokens_of_items ts) e at);
          runs = λ place fs code base rest.
              new_up_to is_new place fs code base rest ∙ h (frame.Value place p) fs code ((name, sort.Bool) ∷ pending_of done base) (tokens_of_items ts ++ rest) tt;
        }

    abbrev next_parts : Sorted → Parts
    next_parts s = with_part s.sort (height s.term) (capped (weight s.term)) p

    abbrev next_done : Sorted → List (Named × Sort)
    next_done s = (n, s.sort) ∷ done

    value_runs : (s : Sorted) → is_among name before ≡ false → (h : OneRuns limit nodes symbols scope is locals vs c (Ok s))
        → (place : Place) (fs : List Frame) (code : List Op) (base : Env Sort) (rest : List Word)
        → run limit symbols (bind place p fs code done base) (tokens_of_items (First t ts) ++ rest) ≡ run limit symbols (bind place (next_parts s) fs (code ++ h.1) (next_done s) base) (tokens_of_items ts ++ rest)
    value_runs s is_new h place fs code base rest =
        new_up_to is_new place fs code base rest
        ∙ h.3 (frame.Value place p) fs code ((name, sort.Bool) ∷ pending_of done base) (tokens_of_items ts ++ rest) tt
        ∙ value_bound limit nodes symbols scope is locals place p fs (code ++ h.1) (pending_of done base) name h.0 s c (tokens_of_items ts ++ rest) right

    own_sound : (s : Sorted) → value ≡ Sound s → own (First t ts) ≡ own ts
    own_sound s e = own_is ∙ ap (λ r. faults r ++ own ts) e

    variables_more : variables (bindings (First t ts)) ≡ n ∷ variables (bindings ts)
    unfolding bindings_read
    variables_more = ap (λ b. add_named b.variable (variables (bindings ts))) read_is

    values_more : (s : Sorted) → value ≡ Sound s → values (bindings (First t ts)) ≡ s ∷ values (bindings ts)
    unfolding bindings_read
    values_more s e = ap (λ b. values (b ∷ bindings ts)) read_is ∙ ap (λ r. values (record { variable = Sound n; value = r } ∷ bindings ts)) e

    bound_then : (s : Sorted) → is_among name before ≡ false → value ≡ Sound s → OneRuns limit nodes symbols scope is locals vs c (Ok s) → AreBound ts (next_parts s) (next_done s) → AreBound (First t ts) p done
    unfolding highest weights
    bound_then s is_new e h more =
        let terms : Terms = terms_of_bound (map (λ x. x.1) more.pairs) in
        record {
          own_none = own_sound s e ∙ more.own_none;
          again_none = again_new is_new ∙ more.again_none;
          pairs = (n, s) ∷ more.pairs;
          variables_are = variables_more ∙ ap (λ ns. n ∷ ns) more.variables_are;
          values_are = values_more s e ∙ ap (λ xs. s ∷ xs) more.values_are;
          ops = h.1 ++ more.ops;
          codes = (h.1, more.ops, length more.pairs, h.2, more.codes, (let long : length ((n, s) ∷ more.pairs) ≡ length more.pairs + 1 = omega arith in long), refl);
          after = more.after;
          count = more.count ∙ (let long : p.count + 1 + length more.pairs ≡ p.count + length ((n, s) ∷ more.pairs) = omega arith in long);
          height_is = more.height_is ∙ (let long : max (max p.height (height s.term)) (highest terms) ≡ max p.height (max (height s.term) (highest terms)) = omega arith in long);
          weight_is = more.weight_is ∙ cap_sum p.weight (weight s.term) (weights terms);
          runs = λ place fs code base rest.
              value_runs s is_new h place fs code base rest ∙ more.runs place fs (code ++ h.1) base rest
              ∙ ap (λ k. run limit symbols (bind place more.after fs k (bound_onto more.pairs (next_done s)) base) rest) (append_assoc code h.1 more.ops);
        }

    unbound_then : (s : Sorted) → is_among name before ≡ false → value ≡ Sound s → OneRuns limit nodes symbols scope is locals vs c (Ok s) → IsUnbound ts (next_parts s) (next_done s) → IsUnbound (First t ts) p done
    unbound_then s is_new e h more =
        let own_of = own_sound s e in
        let again_of = again_new is_new in
        record {
          first = more.first;
          among = subst (λ fs. Contains (own (First t ts) ++ fs) more.first) (sym again_of) (subst (λ fs. Contains (fs ++ again ts (next_done s)) more.first) (sym own_of) more.among);
          own_least = subst (NoneBefore more.first) (sym own_of) more.own_least;
          again_least = subst (NoneBefore more.first) (sym again_of) more.again_least;
          at_items = subst (λ ws. IsAt ws more.first) (sym (items_split t ts)) (at_right (tokens_of t) (tokens_of_items ts) more.first more.at_items);
          runs = λ place fs code base rest. value_runs s is_new h place fs code base rest ∙ more.runs place fs (code ++ h.1) base rest;
        }

    new_variable : OneRuns limit nodes symbols scope is locals vs c (outcome value)
        → ((q : Parts) (others : List (Named × Sort)) → q.weight ≤ 4294967295 → q.count ≡ length others → BindingsRun ts q others) → BindingsRun (First t ts) p done
    new_variable h more = by_twice (is_among name before) refl
      where
        by_value : (r : Result Sorted Fault) → outcome value ≡ r → OneRuns limit nodes symbols scope is locals vs c r → is_among name before ≡ false → BindingsRun (First t ts) p done
        by_value (Ok s) e g is_new =
            let sound = outcome_sound value s e in
            let small : (next_parts s).weight ≤ 4294967295 = omega arith in
            let long : (next_parts s).count ≡ length (next_done s) = omega (arith, count) in
            ⊎_elim (λ b. inl (bound_then s is_new sound g b)) (λ u. inr (unbound_then s is_new sound g u)) (more (next_parts s) (next_done s) small long)
        by_value (Err e) is_err g is_new = inr (value_faulty e is_new is_err g)

        by_twice : (b : Bool) → is_among name before ≡ b → BindingsRun (First t ts) p done
        by_twice true is_twice = inr (bound_twice is_twice)
        by_twice false is_new = by_value (outcome value) refl h is_new

  -- One variable with its term, and those after it.
  pub bindings_then : (t : Tree) (ts : Trees) (p : Parts) (done : List (Named × Sort)) → IsProper t → AreInOrder (tokens_of t ++ tokens_of_items ts) → p.count ≡ length done
      → ((o : Word) (x : Tree) (vs : Trees) (c : Word) → t ≡ pair o x vs c → OneRuns limit nodes symbols scope is locals vs c (outcome (one_read limit nodes symbols scope is locals vs c)))
      → ((q : Parts) (others : List (Named × Sort)) → q.weight ≤ 4294967295 → q.count ≡ length others → BindingsRun ts q others) → BindingsRun (First t ts) p done
  bindings_then (Leaf w) ts p done proper order count h more = inr (leaf_unread w ts p done proper order)
  bindings_then (Group o Empty c) ts p done proper order count h more = inr (empty_unread o c ts p done proper.0 proper.2 order)
  bindings_then (Group o (First (Group g inner d) vs) c) ts p done proper order count h more = inr (group_variable o g inner d vs c ts p done proper.0 proper.1.0.0 order)
  bindings_then (Group o (First (Leaf w) vs) c) ts p done proper order count h more = by_name (name_of w) refl
    where
      by_free : (name : Name) → name_of w ≡ Some name → (b : Bool) → is_theory_name name ≡ b → BindingsRun (First (Group o (First (Leaf w) vs) c) ts) p done
      by_free name e true taken = inr (theory_variable o w name vs c ts p done proper.0 e taken order)
      by_free name e false free = new_variable o w name vs c ts p done proper.0 proper.2 e free order count (h o (Leaf w) vs c refl) more

      by_name : (r : Option Name) → name_of w ≡ r → BindingsRun (First (Group o (First (Leaf w) vs) c) ts) p done
      by_name None e = inr (nameless o w vs c ts p done proper.0 e order)
      by_name (Some name) e = by_free name e (is_theory_name name) refl
