-- What a context keeps where a level is opened or closed.
use Rattle.std.proofs.Common.{◌≡◌, ℕ, zero, suc, replicate, ◌+◌, ◌-◌, ◌≤◌, List, [], ◌∷◌, ◌++◌, length, take, drop, get_or, set, map, reverse, filter_map, flat_map, option_map, Option, None, refl, sym, ap, ◌∙◌, subst, arith, append_assoc, append-nil, length-append}
use Rattle.std.specs.Prelude.{Vec}
use Rattle.std.specs.declared.alloc.Global.{Global}
use Rattle.std.proofs.lemmas.Grind.{flat_map-append}
use Rattle.std.proofs.lemmas.List.{reverse-append, map-append, length-map, length-reverse, length-replicate, take_all}
use Rattle.std.proofs.lemmas.List.Elements.{filter_map-append}
use Rattle.std.proofs.Math.Seq.{take-append_seam, drop-append_seam, set-append_seam, get_or-append_seam}
use Rattle.ffc_term.specs.declared.node.Node.{Node}
use Rattle.ffc_term.specs.declared.node.Sort.{Sort}
use Rattle.ffc_smt.specs.Meaning.{Env}
use Rattle.ffc_smt.specs.Terms.{Name, Constant}
use Rattle.ffc_smt.specs.Scopes.{Meant, Scope, Declared, Assertion, Level, State, scope_of, level_of, declared_of, as_declared, assertions_of, empty_level}
use Rattle.ffc_smt.specs.TableChecks.{node_of, nodes_in_force, names_in_force}
use Rattle.ffc_field.specs.Orders.{order_of_id}
use Rattle.ffc_parts.specs.Heads.{options_of}
use Rattle.ffc_terms.specs.declared.scope.Meaning.{Meaning}
use Rattle.ffc_terms.specs.Codes.{AreMeanings, IsScope}
use Rattle.ffc_elab.specs.declared.levels.Mark.{Mark}
use Rattle.ffc_elab.specs.declared.store.Store.{Store}
use Rattle.ffc_elab.specs.Histories.{Known, check_now}
use Rattle.ffc_elab.specs.Answers.{declared_as}
use Rattle.ffc_elab.specs.Kept.{mark_of, IsKept}
use Rattle.ffc_elab.specs.Changes.{in_state, popped, pushed, with_state}

-- Lists

pub take_front : {A : Type 0} (zs xs ys : List A) (n : ℕ) → zs ≡ xs ++ ys → n ≡ length ys → take (length zs - n) zs ≡ xs
take_front zs xs ys n e is =
    let long : length zs - n ≡ length xs = omega (arith, ap length e, length-append xs ys, is) in
    ap (λ k. take k zs) long ∙ ap (take (length xs)) e ∙ take-append_seam xs ys

pub reverse_cons : {A : Type 0} (x : A) (xs : List A) → reverse (x ∷ xs) ≡ reverse xs ++ x ∷ []
reverse_cons x xs = reverse-append (x ∷ []) xs

filter_reverse : {A B : Type 0} (h : A → Option B) (xs : List A) → length (filter_map h (reverse xs)) ≡ length (filter_map h xs)
filter_reverse h [] = refl
filter_reverse h (x ∷ xs) =
    let one = ap (λ l. length (filter_map h l)) (reverse_cons x xs) ∙ ap length (filter_map-append h (reverse xs) (x ∷ [])) ∙ length-append (filter_map h (reverse xs)) (filter_map h (x ∷ [])) in
    let two = ap length (filter_map-append h (x ∷ []) xs) ∙ length-append (filter_map h (x ∷ [])) (filter_map h xs) in
    omega (arith, one, two, filter_reverse h xs)

-- the last of two lists that are one
last_same : {A : Type 0} (xs ys : List A) (x y : A) → xs ++ x ∷ [] ≡ ys ++ y ∷ [] → (xs ≡ ys) × (x ≡ y)
last_same [] [] x y e = (refl, cc)
last_same [] (v ∷ ys) x y e = absurd (omega (arith, ap length e, length-append ys (y ∷ [])))
last_same (u ∷ xs) [] x y e = absurd (omega (arith, ap length e, length-append xs (x ∷ [])))
last_same (u ∷ xs) (v ∷ ys) x y e =
    let tails : xs ++ x ∷ [] ≡ ys ++ y ∷ [] = cc in
    let rest = last_same xs ys x y tails in
    let heads : u ≡ v = cc in
    (ap (λ w. w ∷ xs) heads ∙ ap (λ l. v ∷ l) rest.0, rest.1)

-- Names

pub meanings_long : (nodes : List Node) (ms : Env Meaning) (xs : Env Meant) → AreMeanings nodes ms xs → length ms ≡ length xs
meanings_long nodes [] [] h = refl
meanings_long nodes [] (x ∷ xs) h = absurd h
meanings_long nodes (m ∷ ms) [] h = absurd h
meanings_long nodes (m ∷ ms) (x ∷ xs) h = let e = meanings_long nodes ms xs h.2 in omega (arith, e)

meanings_drop : (nodes : List Node) (ms : Env Meaning) (xs ys : Env Meant) → AreMeanings nodes ms (xs ++ ys) → AreMeanings nodes (drop (length xs) ms) ys
meanings_drop nodes ms [] ys h = h
meanings_drop nodes [] (x ∷ xs) ys h = absurd h
meanings_drop nodes (m ∷ ms) (x ∷ xs) ys h = meanings_drop nodes ms xs ys h.2

-- What is active, without assumptions

pub map_twice : {A B C : Type 0} (f : B → C) (g : A → B) (xs : List A) → map f (map g xs) ≡ map (λ x. f (g x)) xs
map_twice f g [] = refl
map_twice f g (x ∷ xs) = ap (λ ys. f (g x) ∷ ys) (map_twice f g xs)

pub forced_plain : (s : State) → nodes_in_force (check_now (in_state s)) ≡ map (λ a. node_of s.nodes a.term) (assertions_of s)
forced_plain s = ap (map (node_of s.nodes)) (append-nil (map (λ a. a.term) (assertions_of s))) ∙ map_twice (node_of s.nodes) (λ (a : Assertion). a.term) (assertions_of s)

pub named_plain : (s : State) → names_in_force (check_now (in_state s)) ≡ map (λ a. a.label) (assertions_of s)
named_plain s = append-nil (map (λ a. a.label) (assertions_of s))

-- A level less

names_drop : {A : Type 0} (ms : List A) (n : ℕ) → n ≤ length ms → drop (length ms - (length ms - n)) ms ≡ drop n ms
names_drop ms n h = let e : length ms - (length ms - n) ≡ n = omega arith in ap (λ k. drop k ms) e

module _ (s : State) (l : Level) (ls : List Level) where
  abbrev before : State
  before = record s { levels = l ∷ ls }

  abbrev after : State
  after = record s { levels = ls }

  declared_less : declared_of before ≡ declared_of after ++ filter_map as_declared (reverse l.names)
  declared_less =
      let rest = (scope_of after).names in
      ap (filter_map as_declared) (reverse-append l.names rest) ∙ filter_map-append as_declared (reverse rest) (reverse l.names)

  pub assertions_less : assertions_of before ≡ assertions_of after ++ l.asserted
  assertions_less =
      ap (λ ks. s.base.asserted ++ flat_map (λ k. k.asserted) ks) (reverse_cons l ls)
      ∙ ap (λ xs. s.base.asserted ++ xs) (flat_map-append (λ k. k.asserted) (reverse ls) (l ∷ []) ∙ ap (λ xs. flat_map (λ k. k.asserted) (reverse ls) ++ xs) (append-nil l.asserted))
      ∙ sym (append_assoc s.base.asserted (flat_map (λ k. k.asserted) (reverse ls)) l.asserted)

  marks_less : map mark_of (reverse (l ∷ ls)) ≡ map mark_of (reverse ls) ++ mark_of l ∷ []
  marks_less = ap (map mark_of) (reverse_cons l ls) ∙ map-append mark_of (reverse ls) (l ∷ [])

  forced_less : nodes_in_force (check_now (in_state before)) ≡ nodes_in_force (check_now (in_state after)) ++ map (λ a. node_of s.nodes a.term) l.asserted
  forced_less =
      let f : Assertion → ℕ = λ a. node_of s.nodes a.term in
      forced_plain before ∙ ap (map f) assertions_less ∙ map-append f (assertions_of after) l.asserted ∙ ap (λ xs. xs ++ map f l.asserted) (sym (forced_plain after))

  named_less : names_in_force (check_now (in_state before)) ≡ names_in_force (check_now (in_state after)) ++ map (λ a. a.label) l.asserted
  named_less =
      let f : Assertion → Option Name = λ a. a.label in
      named_plain before ∙ ap (map f) assertions_less ∙ map-append f (assertions_of after) l.asserted ∙ ap (λ xs. xs ++ map f l.asserted) (sym (named_plain after))

  -- the fields of a context that keeps a level less
  module _ (x y : Store) (mark : Mark) (h : IsKept (in_state before) x) (marks : x.marks.items ≡ y.marks.items ++ mark ∷ []) where
    mark_is : (y.marks.items ≡ map mark_of (reverse ls)) × (mark ≡ mark_of l)
    mark_is = last_same y.marks.items (map mark_of (reverse ls)) mark (mark_of l) (sym marks ∙ h.marks ∙ marks_less)

    pub level_less : (y.logic ≡ x.logic) → (y.options ≡ x.options) → (y.table ≡ x.table) → (y.constants ≡ x.constants) → (y.first ≡ x.first) → (y.assumed ≡ x.assumed)
        → y.symbols.terms ≡ drop (length x.symbols.terms - (length x.symbols.terms - mark.names)) x.symbols.terms
        → y.symbols.sorts ≡ drop (length x.symbols.sorts - (length x.symbols.sorts - mark.sorts)) x.symbols.sorts
        → y.declared.items ≡ take (length x.declared.items - mark.declared) x.declared.items
        → y.declared_nodes.items ≡ take (length x.declared.items - mark.declared) x.declared_nodes.items
        → y.in_force.items ≡ take (length x.in_force.items - mark.asserted) x.in_force.items
        → y.names.items ≡ take (length x.in_force.items - mark.asserted) x.names.items
        → IsKept (in_state after) y
    level_less logic options table constants first assumed terms sorts declared nodes forced names = record {
      logic = logic ∙ h.logic;
      options = ap options_of options ∙ h.options;
      marks = mark_is.0;
      levels = omega (arith, h.levels);
      scope = record { terms = terms_less; sorts = sorts_less };
      nodes = table ∙ h.nodes;
      constants = constants ∙ h.constants;
      first = ap (option_map order_of_id) first ∙ h.first;
      in_force = forced ∙ take_front x.in_force.items _ (map (λ a. node_of s.nodes a.term) l.asserted) mark.asserted (h.in_force ∙ forced_less) (count_is ∙ sym (length-map l.asserted (λ a. node_of s.nodes a.term)));
      names = names ∙ ap (λ n. take (n - mark.asserted) x.names.items) as_long ∙ take_front x.names.items _ (map (λ a. a.label) l.asserted) mark.asserted (h.names ∙ named_less) (count_is ∙ sym (length-map l.asserted (λ a. a.label)));
      assumed = assumed ∙ h.assumed;
      declared = declared ∙ take_front x.declared.items _ (map (declared_as s.nodes) more) mark.declared (h.declared ∙ ap (map (declared_as s.nodes)) declared_less ∙ map-append (declared_as s.nodes) (declared_of after) more) (declared_is (declared_as s.nodes));
      declared_nodes = nodes ∙ ap (λ n. take (n - mark.declared) x.declared_nodes.items) declared_long
          ∙ take_front x.declared_nodes.items _ (map node more) mark.declared (h.declared_nodes ∙ ap (map node) declared_less ∙ map-append node (declared_of after) more) (declared_is node);
    }
      where
        more : List Declared
        more = filter_map as_declared (reverse l.names)

        node : Declared → ℕ
        node = λ d. node_of s.nodes (Constant d.number d.sort)

        count_is : mark.asserted ≡ length l.asserted
        count_is = ap (λ m. m.asserted) mark_is.1

        declared_is : {A : Type 0} (f : Declared → A) → mark.declared ≡ length (map f more)
        declared_is f = ap (λ m. m.declared) mark_is.1 ∙ sym (length-map more f ∙ filter_reverse as_declared l.names)

        as_long : length x.in_force.items ≡ length x.names.items
        as_long =
            ap length (h.in_force ∙ forced_plain before) ∙ length-map (assertions_of before) (λ a. node_of s.nodes a.term)
            ∙ sym (ap length (h.names ∙ named_plain before) ∙ length-map (assertions_of before) (λ a. a.label))

        declared_long : length x.declared.items ≡ length x.declared_nodes.items
        declared_long =
            ap length h.declared ∙ length-map (declared_of before) (declared_as s.nodes) ∙ sym (ap length h.declared_nodes ∙ length-map (declared_of before) node)

        terms_less : AreMeanings s.nodes y.symbols.terms (scope_of after).names
        terms_less =
            let rest = (scope_of after).names in
            let long = meanings_long s.nodes x.symbols.terms (l.names ++ rest) h.scope.terms in
            let few : length l.names ≤ length x.symbols.terms = omega (arith, long, length-append l.names rest) in
            let n : mark.names ≡ length l.names = ap (λ m. m.names) mark_is.1 in
            let e = terms ∙ ap (λ k. drop (length x.symbols.terms - (length x.symbols.terms - k)) x.symbols.terms) n ∙ names_drop x.symbols.terms (length l.names) few in
            subst (λ ms. AreMeanings s.nodes ms rest) (sym e) (meanings_drop s.nodes x.symbols.terms l.names rest h.scope.terms)

        sorts_less : y.symbols.sorts ≡ (scope_of after).sorts
        sorts_less =
            let rest = (scope_of after).sorts in
            let few : length l.sorts ≤ length x.symbols.sorts = omega (arith, ap length h.scope.sorts, length-append l.sorts rest) in
            let n : mark.sorts ≡ length l.sorts = ap (λ m. m.sorts) mark_is.1 in
            sorts ∙ ap (λ k. drop (length x.symbols.sorts - (length x.symbols.sorts - k)) x.symbols.sorts) n ∙ names_drop x.symbols.sorts (length l.sorts) few
            ∙ ap (drop (length l.sorts)) h.scope.sorts ∙ drop-append_seam l.sorts rest

-- a state whose innermost level is closed
pub level_closed : (s : State) (x y : Store) (mark : Mark) → IsKept (in_state s) x → x.marks.items ≡ y.marks.items ++ mark ∷ []
    → ((l : Level) (ls : List Level) → IsKept (in_state (record s { levels = l ∷ ls })) x → IsKept (in_state (record s { levels = ls })) y) → IsKept (in_state (popped 1 s)) y
level_closed s x y mark h marks next = by_levels s.levels refl
  where
    by_levels : (v : List Level) → s.levels ≡ v → IsKept (in_state (popped 1 s)) y
    by_levels [] e =
        absurd (omega (arith, ap length (h.marks ∙ ap (λ v. map mark_of (reverse v)) e), ap length marks, length-append y.marks.items (mark ∷ [])))
    by_levels (l ∷ ls) e =
        subst (λ v. IsKept (in_state (record s { levels = drop 1 v })) y) (sym e) (next l ls (subst (λ v. IsKept (in_state (record s { levels = v })) x) e h))

-- More levels

replicate_after : {A : Type 0} (n : ℕ) (x : A) → replicate n x ++ x ∷ [] ≡ x ∷ replicate n x
replicate_after zero x = refl
replicate_after (suc n) x = ap (λ xs. x ∷ xs) (replicate_after n x)

reverse_replicate : {A : Type 0} (n : ℕ) (x : A) → reverse (replicate n x) ≡ replicate n x
reverse_replicate zero x = refl
reverse_replicate (suc n) x = reverse_cons x (replicate n x) ∙ ap (λ xs. xs ++ x ∷ []) (reverse_replicate n x) ∙ replicate_after n x

map_replicate : {A B : Type 0} (f : A → B) (n : ℕ) (x : A) → map f (replicate n x) ≡ replicate n (f x)
map_replicate f zero x = refl
map_replicate f (suc n) x = ap (λ xs. f x ∷ xs) (map_replicate f n x)

flat_replicate : {A B : Type 0} (f : A → List B) (n : ℕ) (x : A) (rest : List A) → f x ≡ [] → flat_map f (replicate n x ++ rest) ≡ flat_map f rest
flat_replicate f zero x rest e = refl
flat_replicate f (suc n) x rest e = ap (λ xs. xs ++ flat_map f (replicate n x ++ rest)) e ∙ flat_replicate f n x rest e

module _ (k : Known) (n : ℕ) where
  abbrev s : State
  s = k.state

  marks_more : map mark_of (reverse (replicate n empty_level ++ s.levels)) ≡ map mark_of (reverse s.levels) ++ replicate n (mark_of empty_level)
  marks_more =
      ap (map mark_of) (reverse-append (replicate n empty_level) s.levels ∙ ap (λ xs. reverse s.levels ++ xs) (reverse_replicate n empty_level))
      ∙ map-append mark_of (reverse s.levels) (replicate n empty_level) ∙ ap (λ xs. map mark_of (reverse s.levels) ++ xs) (map_replicate mark_of n empty_level)

  scope_same : scope_of (pushed n s) ≡ scope_of s
  scope_same =
      let names = ap (flat_map (λ l. l.names)) (append_assoc (replicate n empty_level) s.levels (s.base ∷ [])) ∙ flat_replicate (λ l. l.names) n empty_level (s.levels ++ s.base ∷ []) refl in
      let sorts = ap (flat_map (λ l. l.sorts)) (append_assoc (replicate n empty_level) s.levels (s.base ∷ [])) ∙ flat_replicate (λ l. l.sorts) n empty_level (s.levels ++ s.base ∷ []) refl in
      ap (λ (v : Env Meant). two v (scope_of (pushed n s)).sorts) names ∙ ap (λ (v : Env Sort). two (scope_of s).names v) sorts
    where
      two : Env Meant → Env Sort → Scope
      two names sorts = record { names = names; sorts = sorts }

  assertions_same : assertions_of (pushed n s) ≡ assertions_of s
  assertions_same =
      ap (λ ls. s.base.asserted ++ flat_map (λ l. l.asserted) ls) (reverse-append (replicate n empty_level) s.levels ∙ ap (λ xs. reverse s.levels ++ xs) (reverse_replicate n empty_level))
      ∙ ap (λ xs. s.base.asserted ++ xs) (flat_map-append (λ l. l.asserted) (reverse s.levels) (replicate n empty_level)
      ∙ ap (λ xs. flat_map (λ l. l.asserted) (reverse s.levels) ++ xs) (none_asserted n) ∙ append-nil (flat_map (λ l. l.asserted) (reverse s.levels)))
    where
      none_asserted : (n : ℕ) → flat_map (λ l. l.asserted) (replicate n empty_level) ≡ []
      none_asserted zero = refl
      none_asserted (suc n) = none_asserted n

  pub levels_more : (x : Store) (marks : Vec Mark Global) → level_of s + n ≤ 65536 → IsKept k x → marks.items ≡ x.marks.items ++ replicate n (mark_of empty_level) → IsKept (with_state k (pushed n s)) (record x { marks = marks })
  levels_more x marks few h e = record {
    logic = h.logic;
    options = h.options;
    marks = e ∙ ap (λ ms. ms ++ replicate n (mark_of empty_level)) h.marks ∙ sym marks_more;
    levels = omega (arith, few, length-append (replicate n empty_level) s.levels, length-replicate n empty_level);
    scope = subst (IsScope s.nodes x.symbols) (sym scope_same) h.scope;
    nodes = h.nodes;
    constants = h.constants;
    first = h.first;
    in_force = h.in_force ∙ ap (λ v. map (node_of s.nodes) (map (λ a. a.term) v ++ map (λ a. a.term) k.assumptions)) (sym assertions_same);
    names = h.names ∙ ap (λ v. map (λ a. a.label) v ++ map (λ a. None) k.assumptions) (sym assertions_same);
    assumed = h.assumed;
    declared = h.declared ∙ ap (λ sc. map (declared_as s.nodes) (filter_map as_declared (reverse sc.names))) (sym scope_same);
    declared_nodes = h.declared_nodes ∙ ap (λ sc. map (λ d. node_of s.nodes (Constant d.number d.sort)) (filter_map as_declared (reverse sc.names))) (sym scope_same);
  }

pub level_count : (k : Known) (x : Store) → IsKept k x → length x.marks.items ≡ level_of k.state
level_count k x h = ap length h.marks ∙ length-map (reverse k.state.levels) mark_of ∙ length-reverse k.state.levels

-- marks that are filled up
pub filled_up : (old new : List Mark) (m : Mark) (n long levels : ℕ) → new ≡ take levels old ++ replicate (levels - long) m → long ≡ length old → levels ≡ long + n → new ≡ old ++ replicate n m
filled_up old new m n long levels e l is =
    let rest : levels - long ≡ n = omega arith in
    e ∙ ap (λ xs. xs ++ replicate (levels - long) m) (take_all levels old (omega arith)) ∙ ap (λ k. old ++ replicate k m) rest

-- The last mark

pub last_set : (old ms : List Mark) (m v w : Mark) (n : ℕ) → old ≡ ms ++ m ∷ [] → n ≡ length old → v ≡ w → set old (n - 1) v ≡ ms ++ w ∷ []
last_set old ms m v w n e is same =
    let at : n - 1 ≡ length ms = omega (arith, ap length e, length-append ms (m ∷ [])) in
    ap (λ xs. set xs (n - 1) v) e ∙ ap (λ i. set (ms ++ m ∷ []) i v) at ∙ set-append_seam ms m [] v ∙ ap (λ x. ms ++ x ∷ []) same

pub last_is : (old ms : List Mark) (m d : Mark) (n : ℕ) → old ≡ ms ++ m ∷ [] → n ≡ length old → get_or old (n - 1) d ≡ m
last_is old ms m d n e is =
    let at : n - 1 ≡ length ms = omega (arith, ap length e, length-append ms (m ∷ [])) in
    ap (λ xs. get_or xs (n - 1) d) e ∙ ap (λ i. get_or (ms ++ m ∷ []) i d) at ∙ get_or-append_seam ms m [] d

pub marks_same : (v w : Mark) → v.names ≡ w.names → v.sorts ≡ w.sorts → v.declared ≡ w.declared → v.asserted ≡ w.asserted → v ≡ w
marks_same v w names sorts declared asserted =
    ap (λ n. record v { names = n }) names ∙ ap (λ n. record w { names = w.names; sorts = n; declared = v.declared; asserted = v.asserted }) sorts
    ∙ ap (λ n. record w { declared = n; asserted = v.asserted }) declared ∙ ap (λ n. record w { asserted = n }) asserted
