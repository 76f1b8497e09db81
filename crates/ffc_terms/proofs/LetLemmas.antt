-- `let`, word by word and by its tree.
use Rattle.std.proofs.Common.{◌≡◌, ℕ, ◌+◌, ◌<◌, ◌==◌, max, nat_lt, Bool, true, false, List, [], ◌∷◌, ◌++◌, if◌then◌else◌, length, drop, map, zip, Ok, Err, refl, sym, ap, ◌∙◌, subst, inl, inr, ◌⊎◌, arith, append_assoc}
use Rattle.std.proofs.lemmas.Bool.Decides.{nat_tests}
use Rattle.std.proofs.lemmas.List.{length-map}
use Rattle.ffc_lex.specs.declared.tokens.TokenKind.TheVariants as kinds
use Rattle.ffc_term.specs.declared.node.Node.{Node}
use Rattle.ffc_term.specs.declared.node.Sort.{Sort}
use Rattle.ffc_smt.specs.Trees.{Word, Tree, Leaf, Group, Trees, Empty, First, tokens_of, tokens_of_items}
use Rattle.ffc_smt.specs.TreeShapes.{is_parenthesis}
use Rattle.ffc_smt.specs.Terms.{Name, Term, Terms, Let, height, highest, weight, weights}
use Rattle.ffc_smt.specs.Meaning.{Env}
use Rattle.ffc_smt.specs.Scopes.{Scope}
use Rattle.ffc_smt.specs.Faults.{Fault, word_fault, is_before, Read, Sound, Faulty, faults, faulty, unless, read_map, behind}
use Rattle.ffc_smt.specs.TermReading.{Sorted, Named, Binding, variables, binding_faults, values, twice, Bound, add_named, binding_read, some_binding, bound_read, locals_of, terms_of_bound, let_term, of_height, bindings_read, let_read}
use Rattle.ffc_words.specs.Outcomes.{outcome}
use Rattle.ffc_terms.specs.declared.callees.Parts.{Parts}
use Rattle.ffc_terms.specs.declared.codes.Op.{Op}
use Rattle.ffc_terms.specs.declared.codes.Op.TheVariants as op
use Rattle.ffc_terms.specs.declared.frames.Frame.{Frame}
use Rattle.ffc_terms.specs.declared.frames.Frame.TheVariants as frame
use Rattle.ffc_terms.specs.declared.frames.Place.{Place}
use Rattle.ffc_terms.specs.declared.frames.Stage.TheVariants as stage
use Rattle.ffc_terms.specs.declared.leaves.Head.TheVariants as heads
use Rattle.ffc_terms.specs.declared.scope.Symbols.{Symbols}
use Rattle.ffc_terms.specs.declared.values.Value.{Value}
use Rattle.ffc_terms.specs.Callees.{capped, no_parts, with_body}
use Rattle.ffc_terms.specs.Codes.{IsCode, AreCodes, IsScope}
use Rattle.ffc_terms.specs.Leaves as leaves
use Rattle.ffc_terms.specs.Places.{place_of, fault}
use Rattle.ffc_terms.specs.SortSteps.{opens, closes}
use Rattle.ffc_terms.specs.Walking.{Walking, Going, Failed, refused, at_stage, plus_one, moved, given, ended, open_step, bindings_step, bound, end_step, goes_on, run, takes_none}
use Rattle.ffc_terms.proofs.AsLemmas.{stage_given}
use Rattle.ffc_terms.proofs.BindingLemmas.{pending_of, bound_onto, at_bindings}
use Rattle.ffc_terms.proofs.BoundLemmas.{AreBound, IsUnbound, BindingsRun}
use Rattle.ffc_terms.proofs.CallLemmas.{behind_err}
use Rattle.ffc_terms.proofs.FirstLemmas.{each_append, AreInOrder, IsAt, NoneBefore, none_later, outcome_unless, outcome_faulty}
use Rattle.ffc_terms.proofs.ItemLemmas.{opens_leaf}
use Rattle.ffc_terms.proofs.OneTermLemmas.{one_read, OneRuns}
use Rattle.ffc_terms.proofs.RunLemmas.{at_term, value_of, then_given, one_is, head_runs, TermRuns}

-- variables with their sorts, the first one first
abbrev pub binds : List (Named × Sorted) → Env Sort
binds pairs = map (λ x. (x.0.name, x.1.sort)) pairs

-- Variables that begin to hold

abbrev onto : List (Named × Sort) → Env Sort → Env Sort
onto [] env = env
onto (x ∷ xs) env = onto xs ((x.0.name, x.1) ∷ env)

moved_all : (done : List (Named × Sort)) (base env : Env Sort) → moved (length done) (pending_of done base) env ≡ (base, onto done env)
moved_all [] base env = refl
moved_all (x ∷ done) base env = moved_all done base ((x.0.name, x.1) ∷ env)

onto_bound : (pairs : List (Named × Sorted)) (done : List (Named × Sort)) (env : Env Sort) → onto (bound_onto pairs done) env ≡ onto done (binds pairs ++ env)
onto_bound [] done env = refl
onto_bound (x ∷ pairs) done env = onto_bound pairs ((x.0, x.1.sort) ∷ done) env

bound_length : (pairs : List (Named × Sorted)) (done : List (Named × Sort)) → length (bound_onto pairs done) ≡ length pairs + length done
bound_length [] done = omega arith
bound_length (x ∷ pairs) done = let more = bound_length pairs ((x.0, x.1.sort) ∷ done) in omega arith

-- what is pending becomes local
moved_bound : (pairs : List (Named × Sorted)) (base env : Env Sort) (n : ℕ) → n ≡ length pairs → moved n (pending_of (bound_onto pairs []) base) env ≡ (base, binds pairs ++ env)
moved_bound pairs base env n e =
    let long : n ≡ length (bound_onto pairs []) = let l = bound_length pairs [] in omega arith in
    ap (λ k. moved k (pending_of (bound_onto pairs []) base) env) long ∙ moved_all (bound_onto pairs []) base env ∙ ap (λ v. (base, v)) (onto_bound pairs [] env)

zip_binds : (pairs : List (Named × Sorted)) → zip (map (λ n. n.name) (map (λ x. x.0) pairs)) (map (λ t. t.sort) (map (λ x. x.1) pairs)) ≡ binds pairs
zip_binds [] = refl
zip_binds (x ∷ pairs) = ap (λ xs. (x.0.name, x.1.sort) ∷ xs) (zip_binds pairs)

drop_binds : (pairs : List (Named × Sorted)) (env : Env Sort) (n : ℕ) → n ≡ length pairs → drop n (binds pairs ++ env) ≡ env
drop_binds pairs env n e = ap (λ k. drop k (binds pairs ++ env)) e ∙ all pairs
  where
    all : (xs : List (Named × Sorted)) → drop (length xs) (binds xs ++ env) ≡ env
    all [] = refl
    all (x ∷ xs) = all xs

names_binds : (pairs : List (Named × Sorted)) (env : Env Sort) → map (λ x. x.0) (binds pairs ++ env) ≡ map (λ n. n.name) (map (λ x. x.0) pairs) ++ map (λ x. x.0) env
names_binds [] env = refl
names_binds (x ∷ pairs) env = ap (λ ns. x.0.name ∷ ns) (names_binds pairs env)

let_height : (names : List Name) (ts : Terms) (t : Term) → height (Let names ts t) ≡ max (max 0 (highest ts)) (height t) + 1
unfolding height
let_height names ts t = omega arith

let_weight : (names : List Name) (ts : Terms) (t : Term) → capped (weight (Let names ts t)) ≡ plus_one (capped (capped (0 + weights ts) + capped (weight t)))
unfolding weight
let_weight names ts t = omega arith

module _ (limit : ℕ) (nodes : List Node) (symbols : Symbols) (scope : Scope) (is : IsScope nodes symbols scope) (locals : Env Sort) (opening word closing : Word)
    (left : opening.kind ≡ kinds.LeftParen) (right : closing.kind ≡ kinds.RightParen) (head : leaves.head symbols locals word ≡ Ok heads.Let) where
  abbrev of_let : Trees → Read Sorted
  of_let items = behind (let_read limit scope locals closing items) (of_height limit opening)

  -- up to what comes after `let`
  up_to : (items : Trees) (fs : List Frame) (code : List Op) (pending : Env Sort) (rest : List Word) → takes_none limit symbols fs ≡ false
      → run limit symbols (at_term fs code locals pending) (tokens_of (Group opening (First (Leaf word) items) closing) ++ rest)
      ≡ run limit symbols (at_stage (stage.Let (place_of opening)) (at_term fs code locals pending)) (tokens_of_items items ++ closing ∷ rest)
  unfolding tokens_of tokens_of_items
  up_to items fs code pending rest takes =
      head_runs limit nodes symbols scope is fs code locals pending opening word ((tokens_of_items items ++ closing ∷ []) ++ rest) _ takes left head
      ∙ ap (run limit symbols (at_stage (stage.Let (place_of opening)) (at_term fs code locals pending))) (append_assoc (tokens_of_items items) (closing ∷ []) rest)

  not_open : (w : Word) (fs : List Frame) (code : List Op) (pending : Env Sort) (ws : List Word) → opens w.kind ≡ false
      → run limit symbols (at_stage (stage.Let (place_of opening)) (at_term fs code locals pending)) (w ∷ ws) ≡ Err (word_fault 5 w)
  unfolding open_step
  not_open w fs code pending ws shut = one_is limit symbols (at_stage (stage.Let (place_of opening)) (at_term fs code locals pending)) w ws (refused 5 w) (rw shut refl)

  open_list : (o : Word) (fs : List Frame) (code : List Op) (pending : Env Sort) (ws : List Word) → o.kind ≡ kinds.LeftParen
      → run limit symbols (at_stage (stage.Let (place_of opening)) (at_term fs code locals pending)) (o ∷ ws) ≡ run limit symbols (at_bindings (place_of opening) no_parts fs code locals pending) ws
  unfolding open_step
  open_list o fs code pending ws k =
      one_is limit symbols (at_stage (stage.Let (place_of opening)) (at_term fs code locals pending)) o ws (Going (at_bindings (place_of opening) no_parts fs code locals pending)) (rw (ap opens k) refl)

  pub let_alone : TermRuns limit nodes symbols scope is locals (Group opening (First (Leaf word) Empty) closing) (outcome (of_let Empty))
  unfolding let_read tokens_of_items
  let_alone = λ fs code pending rest takes. up_to Empty fs code pending rest takes ∙ not_open closing fs code pending rest (ap opens right)

  pub let_leaf : (w : Word) (more : Trees) → is_parenthesis w.kind ≡ false → TermRuns limit nodes symbols scope is locals (Group opening (First (Leaf word) (First (Leaf w) more)) closing) (outcome (of_let (First (Leaf w) more)))
  unfolding let_read tokens_of tokens_of_items
  let_leaf w more k = λ fs code pending rest takes. up_to (First (Leaf w) more) fs code pending rest takes ∙ not_open w fs code pending (tokens_of_items more ++ closing ∷ rest) (opens_leaf w.kind k)

  -- The list of variables, and what comes after it.
  module _ (o c : Word) (bs vs : Trees) (open_is : o.kind ≡ kinds.LeftParen) (close_is : c.kind ≡ kinds.RightParen)
      (order : AreInOrder (tokens_of_items bs ++ (c ∷ (tokens_of_items vs ++ closing ∷ []))))
      (hv : (env : Env Sort) → OneRuns limit nodes symbols scope is env vs closing (outcome (one_read limit nodes symbols scope is env vs closing))) where
    abbrev items : Trees
    items = First (Group o bs c) vs

    abbrev tree : Tree
    tree = Group opening (First (Leaf word) items) closing

    abbrev list : List Binding
    list = bindings_read limit scope locals bs

    abbrev all : Read Bound
    all = bound_read c list

    up_to_bindings : (fs : List Frame) (code : List Op) (pending : Env Sort) (rest : List Word) → takes_none limit symbols fs ≡ false
        → run limit symbols (at_term fs code locals pending) (tokens_of tree ++ rest)
        ≡ run limit symbols (at_bindings (place_of opening) no_parts fs code locals pending) (tokens_of_items bs ++ (c ∷ (tokens_of_items vs ++ closing ∷ rest)))
    unfolding tokens_of tokens_of_items
    up_to_bindings fs code pending rest takes =
        let first = tokens_of_items bs ++ c ∷ [] in
        let more = tokens_of_items vs ++ closing ∷ rest in
        up_to items fs code pending rest takes
        ∙ open_list o fs code pending ((first ++ tokens_of_items vs) ++ closing ∷ rest) open_is
        ∙ ap (run limit symbols (at_bindings (place_of opening) no_parts fs code locals pending))
        (append_assoc first (tokens_of_items vs) (closing ∷ rest) ∙ append_assoc (tokens_of_items bs) (c ∷ []) more)

    -- a fault of the list of variables is the first, and where it has none
    let_faulty : (us : Trees) (f : Fault) → outcome all ≡ Err f → NoneBefore f (word_fault 5 closing ∷ []) → outcome (let_read limit scope locals closing (First (Group o bs c) us)) ≡ Err f
    unfolding let_read
    let_faulty Empty f e later = let first = outcome_faulty all f e in outcome_unless (faults all) (faulty 5 closing) f first.0 first.1 later
    let_faulty (First body more) f e later = behind_err all _ f e

    let_sound : (us : Trees) (b : Bound) → all ≡ Sound b → let_read limit scope locals closing (First (Group o bs c) us) ≡ read_map (let_term b) (one_read limit nodes symbols scope is (locals_of b ++ locals) us closing)
    unfolding let_read
    let_sound Empty b e = ap (λ r. unless (faults r) (faulty 5 closing)) e
    let_sound (First body more) b e = ap (λ r. behind r (λ x. read_map (let_term x) (one_read limit nodes symbols scope is (locals_of x ++ locals) (First body more) closing))) e

    -- The end of the list

    none_bound : (at : Place) (fs : List Frame) (code : List Op) (pending : Env Sort) (ws : List Word)
        → run limit symbols (at_bindings at no_parts fs code locals pending) (c ∷ ws) ≡ Err (word_fault 5 c)
    unfolding bindings_step
    none_bound at fs code pending ws = one_is limit symbols (at_bindings at no_parts fs code locals pending) c ws (refused 5 c) (rw (ap opens close_is, ap closes close_is) refl)

    body_begins : (at : Place) (p : Parts) (pairs : List (Named × Sorted)) (fs : List Frame) (code : List Op) (base : Env Sort) (ws : List Word) → p.count ≡ length pairs → 0 < p.count
        → run limit symbols (at_bindings at p fs code locals (pending_of (bound_onto pairs []) base)) (c ∷ ws)
        ≡ run limit symbols (at_term (frame.Body at p ∷ fs) (code ++ op.Bind p.count ∷ []) (binds pairs ++ locals) base) ws
    unfolding bindings_step bound
    body_begins at p pairs fs code base ws count some =
        let w = at_bindings at p fs code locals (pending_of (bound_onto pairs []) base) in
        let more : (p.count == 0) ≡ false = grind (arith, nat_tests) in
        let held = moved_bound pairs base locals p.count count in
        one_is limit symbols w c ws (Going (bound limit symbols at p w)) (rw (ap opens close_is, ap closes close_is, more) refl)
        ∙ ap (λ m. run limit symbols (record { stage = stage.Term; frames = frame.Body at p ∷ fs; code = code ++ op.Bind p.count ∷ []; locals = m.1; pending = m.0 }) ws) held

    -- The end of the body

    ended_value : Place → Parts → Sorted → Value
    ended_value at p s = record { place = at; sort = s.sort; height = max p.height (height s.term) + 1; weight = plus_one (capped (p.weight + capped (weight s.term))) }

    body_ends : (at : Place) (p : Parts) (v : Word) (s : Sorted) (fs : List Frame) (code : List Op) (env base : Env Sort) (ws : List Word)
        → then_given limit symbols (value_of v s) (at_term (frame.Body at p ∷ fs) code env base) (closing ∷ ws)
        ≡ goes_on (λ x. run limit symbols x ws) ws
        (if nat_lt limit (max p.height (height s.term) + 1) then Failed (fault 14 at) else given limit symbols (ended_value at p s) (at_term fs (code ++ op.Unbind p.count ∷ []) (drop p.count env) base))
    unfolding given end_step ended ended_value
    body_ends at p v s fs code env base ws =
        let w : Walking = record { stage = stage.End at (with_body (height s.term) (capped (weight s.term)) p) s.sort; frames = fs; code = code; locals = env; pending = base } in
        let high = nat_lt limit (max p.height (height s.term) + 1) in
        one_is limit symbols w closing ws
        (if high then Failed (fault 14 at) else given limit symbols (ended_value at p s) (record { stage = stage.End at (with_body (height s.term) (capped (weight s.term)) p) s.sort; frames = fs; code = code ++ op.Unbind p.count ∷ []; locals = drop p.count env; pending = base }))
        (rw (ap closes right) refl)
        ∙ ap (λ st. goes_on (λ x. run limit symbols x ws) ws (if high then Failed (fault 14 at) else st))
        (stage_given limit symbols (ended_value at p s) (stage.End at (with_body (height s.term) (capped (weight s.term)) p) s.sort) fs (code ++ op.Unbind p.count ∷ []) (drop p.count env) base)

    -- Where the list is at fault

    some_more : (us : Trees) → (f : Fault) → IsAt (tokens_of_items us) f → some_binding c (bindings_read limit scope locals us) ≡ []
    unfolding tokens_of_items bindings_read
    some_more Empty f at = absurd at
    some_more (First t ts) f at = refl

    unbound_is : (u : IsUnbound limit nodes symbols scope is locals bs no_parts []) → outcome all ≡ Err u.first
    unbound_is u =
        let P = λ (h : Fault). is_before h u.first ≡ false in
        let none = some_more bs u.first u.at_items in
        let r : Read Bound = Sound (record { names = map (λ n. n.name) (variables list); terms = values list }) in
        ap (λ fs. outcome (unless (fs ++ binding_faults list ++ twice [] (variables list)) r)) none
        ∙ outcome_unless (binding_faults list ++ twice [] (variables list)) r u.first u.among (each_append P (binding_faults list) (twice [] (variables list)) u.own_least u.again_least) tt

    unbound_runs : IsUnbound limit nodes symbols scope is locals bs no_parts [] → TermRuns limit nodes symbols scope is locals tree (outcome (of_let items))
    unbound_runs u =
        let later : NoneBefore u.first (word_fault 5 closing ∷ []) =
        none_later (tokens_of_items bs) (c ∷ (tokens_of_items vs ++ closing ∷ [])) u.first (word_fault 5 closing ∷ []) order u.at_items (inr (at_closing (tokens_of_items vs)), tt) in
        subst (TermRuns limit nodes symbols scope is locals tree) (sym (behind_err (let_read limit scope locals closing items) (of_height limit opening) u.first (let_faulty vs u.first (unbound_is u) later)))
        (λ fs code pending rest takes.
        up_to_bindings fs code pending rest takes ∙ u.runs (place_of opening) fs code pending (c ∷ (tokens_of_items vs ++ closing ∷ rest)))
      where
        at_closing : (ws : List Word) → IsAt (ws ++ closing ∷ []) (word_fault 5 closing)
        at_closing [] = inl (refl, refl)
        at_closing (w ∷ ws) = inr (at_closing ws)

    -- Where it is sound

    module _ (b : AreBound limit nodes symbols scope is locals bs no_parts []) (some : 0 < length b.pairs) (none : some_binding c list ≡ []) where
      abbrev held : Bound
      held = record { names = map (λ n. n.name) (map (λ x. x.0) b.pairs); terms = map (λ x. x.1) b.pairs }

      all_is : all ≡ Sound held
      all_is =
          ap (λ fs. unless (fs ++ binding_faults list ++ twice [] (variables list)) (Sound (record { names = map (λ n. n.name) (variables list); terms = values list }))) none
          ∙ ap (λ fs. unless (fs ++ twice [] (variables list)) (Sound (record { names = map (λ n. n.name) (variables list); terms = values list }))) b.own_none
          ∙ ap (λ fs. unless fs (Sound (record { names = map (λ n. n.name) (variables list); terms = values list }))) b.again_none
          ∙ ap (λ ns. Sound (record { names = map (λ n. n.name) ns; terms = values list })) b.variables_are ∙ ap (λ xs. Sound (record { names = map (λ n. n.name) (map (λ x. x.0) b.pairs); terms = xs })) b.values_are

      abbrev env : Env Sort
      env = binds b.pairs ++ locals

      env_is : locals_of held ++ locals ≡ env
      env_is = ap (λ xs. xs ++ locals) (zip_binds b.pairs)

      read_is : let_read limit scope locals closing items ≡ read_map (let_term held) (one_read limit nodes symbols scope is env vs closing)
      read_is = let_sound vs held all_is ∙ ap (λ e. read_map (let_term held) (one_read limit nodes symbols scope is e vs closing)) env_is

      count_is : b.after.count ≡ length b.pairs
      count_is = b.count ∙ (let z : 0 + length b.pairs ≡ length b.pairs = omega arith in z)

      begins : (fs : List Frame) (code : List Op) (pending : Env Sort) (rest : List Word) → takes_none limit symbols fs ≡ false
          → run limit symbols (at_term fs code locals pending) (tokens_of tree ++ rest)
          ≡ run limit symbols (at_term (frame.Body (place_of opening) b.after ∷ fs) ((code ++ b.ops) ++ op.Bind b.after.count ∷ []) env pending) (tokens_of_items vs ++ closing ∷ rest)
      begins fs code pending rest takes =
          let more : 0 < b.after.count = omega (arith, count_is) in
          up_to_bindings fs code pending rest takes ∙ b.runs (place_of opening) fs code pending (c ∷ (tokens_of_items vs ++ closing ∷ rest))
          ∙ body_begins (place_of opening) b.after b.pairs fs (code ++ b.ops) pending (tokens_of_items vs ++ closing ∷ rest) count_is more

      whole : Sorted → Sorted
      whole s = let_term held s

      high_is : (s : Sorted) → max b.after.height (height s.term) + 1 ≡ height (whole s).term
      unfolding whole
      high_is s = ap (λ h. max h (height s.term) + 1) b.height_is ∙ sym (let_height held.names (terms_of_bound held.terms) s.term)

      value_is : (s : Sorted) → ended_value (place_of opening) b.after s ≡ value_of opening (whole s)
      unfolding ended_value whole
      value_is s =
          ap (λ h. record { place = place_of opening; sort = s.sort; height = h; weight = plus_one (capped (b.after.weight + capped (weight s.term))) }) (high_is s)
          ∙ ap (λ w. record { place = place_of opening; sort = s.sort; height = height (whole s).term; weight = plus_one (capped (w + capped (weight s.term))) }) b.weight_is
          ∙ ap (λ w. record { place = place_of opening; sort = s.sort; height = height (whole s).term; weight = w }) (sym (let_weight held.names (terms_of_bound held.terms) s.term))

      names_count : length held.names ≡ b.after.count
      names_count = length-map (map (λ x. x.0) b.pairs) (λ n. n.name) ∙ length-map b.pairs (λ x. x.0) ∙ sym count_is

      whole_code : (s : Sorted) (ops : List Op) → IsCode nodes symbols.terms (map (λ x. x.0) env) s.term ops
          → IsCode nodes symbols.terms (map (λ x. x.0) locals) (whole s).term (b.ops ++ op.Bind b.after.count ∷ (ops ++ op.Unbind b.after.count ∷ []))
      unfolding whole
      whole_code s ops h = (
        b.ops,
        ops,
        subst (λ n. AreCodes nodes symbols.terms (map (λ x. x.0) locals) (terms_of_bound held.terms) n b.ops) (sym (names_count ∙ count_is)) b.codes,
        subst (λ ns. IsCode nodes symbols.terms ns s.term ops) (names_binds b.pairs locals) h,
        ap (λ n. b.ops ++ op.Bind n ∷ (ops ++ op.Unbind n ∷ [])) (sym names_count),
      )

      ends : (s : Sorted) (h : OneRuns limit nodes symbols scope is env vs closing (Ok s)) (fs : List Frame) (code : List Op) (pending : Env Sort) (rest : List Word) → takes_none limit symbols fs ≡ false
          → run limit symbols (at_term fs code locals pending) (tokens_of tree ++ rest)
          ≡ goes_on (λ x. run limit symbols x rest) rest
          (if nat_lt limit (height (whole s).term) then Failed (fault 14 (place_of opening))
          else given limit symbols (value_of opening (whole s)) (at_term fs (code ++ (b.ops ++ op.Bind b.after.count ∷ (h.1 ++ op.Unbind b.after.count ∷ []))) locals pending))
      ends s h fs code pending rest takes =
          let at = place_of opening in
          let bind_op = op.Bind b.after.count in
          let unbind_op = op.Unbind b.after.count in
          let before = ((code ++ b.ops) ++ bind_op ∷ []) ++ h.1 in
          begins fs code pending rest takes
          ∙ h.3 (frame.Body at b.after) fs ((code ++ b.ops) ++ bind_op ∷ []) pending rest tt
          ∙ body_ends at b.after h.0 s fs before env pending rest
          ∙ ap (λ n. goes_on (λ x. run limit symbols x rest) rest (if nat_lt limit n then Failed (fault 14 at) else given limit symbols (ended_value at b.after s) (at_term fs (before ++ unbind_op ∷ []) (drop b.after.count env) pending))) (high_is s)
          ∙ ap (λ v. goes_on (λ x. run limit symbols x rest) rest (if nat_lt limit (height (whole s).term) then Failed (fault 14 at) else given limit symbols v (at_term fs (before ++ unbind_op ∷ []) (drop b.after.count env) pending))) (value_is s)
          ∙ ap (λ e. goes_on (λ x. run limit symbols x rest) rest (if nat_lt limit (height (whole s).term) then Failed (fault 14 at) else given limit symbols (value_of opening (whole s)) (at_term fs (before ++ unbind_op ∷ []) e pending))) (drop_binds b.pairs locals b.after.count count_is)
          ∙ ap (λ k. goes_on (λ x. run limit symbols x rest) rest (if nat_lt limit (height (whole s).term) then Failed (fault 14 at) else given limit symbols (value_of opening (whole s)) (at_term fs k locals pending))) (joined code b.ops h.1 bind_op unbind_op)
        where
          joined : (xs ys zs : List Op) (x y : Op) → (((xs ++ ys) ++ x ∷ []) ++ zs) ++ y ∷ [] ≡ xs ++ (ys ++ x ∷ (zs ++ y ∷ []))
          joined xs ys zs x y = append_assoc ((xs ++ ys) ++ x ∷ []) zs (y ∷ []) ∙ append_assoc (xs ++ ys) (x ∷ []) (zs ++ y ∷ []) ∙ append_assoc xs ys (x ∷ (zs ++ y ∷ []))

      by_height : (s : Sorted) → OneRuns limit nodes symbols scope is env vs closing (Ok s) → (h : Bool) → nat_lt limit (height (whole s).term) ≡ h
          → TermRuns limit nodes symbols scope is locals tree (outcome (if h then faulty 14 opening else Sound (whole s)))
      by_height s g true high = λ fs code pending rest takes.
          ends s g fs code pending rest takes
          ∙ ap (λ x. goes_on (λ y. run limit symbols y rest) rest (if x then Failed (fault 14 (place_of opening)) else given limit symbols (value_of opening (whole s)) (at_term fs (code ++ (b.ops ++ op.Bind b.after.count ∷ (g.1 ++ op.Unbind b.after.count ∷ []))) locals pending))) high
      by_height s g false low = (
        b.ops ++ op.Bind b.after.count ∷ (g.1 ++ op.Unbind b.after.count ∷ []),
        whole_code s g.1 g.2,
        λ fs code pending rest takes.
            ends s g fs code pending rest takes
            ∙ ap (λ x. goes_on (λ y. run limit symbols y rest) rest (if x then Failed (fault 14 (place_of opening)) else given limit symbols (value_of opening (whole s)) (at_term fs (code ++ (b.ops ++ op.Bind b.after.count ∷ (g.1 ++ op.Unbind b.after.count ∷ []))) locals pending))) low,
      )

      by_body : (r : Read Sorted) → OneRuns limit nodes symbols scope is env vs closing (outcome r) → TermRuns limit nodes symbols scope is locals tree (outcome (behind (read_map (let_term held) r) (of_height limit opening)))
      unfolding whole
      by_body (Sound s) h = by_height s h (nat_lt limit (height (whole s).term)) refl
      by_body (Faulty f fs) h = λ gs code pending rest takes.
          begins gs code pending rest takes ∙ h (frame.Body (place_of opening) b.after) gs ((code ++ b.ops) ++ op.Bind b.after.count ∷ []) pending rest tt

      bound_runs : TermRuns limit nodes symbols scope is locals tree (outcome (of_let items))
      bound_runs =
          subst (λ r. TermRuns limit nodes symbols scope is locals tree (outcome (behind r (of_height limit opening)))) (sym read_is)
          (by_body (one_read limit nodes symbols scope is env vs closing) (hv env))

    no_list : bs ≡ Empty → TermRuns limit nodes symbols scope is locals tree (outcome (of_let items))
    unfolding tokens_of_items bindings_read
    no_list e =
        let f = word_fault 5 c in
        let of_none : outcome all ≡ Err f = ap (λ us. outcome (bound_read c (bindings_read limit scope locals us))) e in
        let ordered : AreInOrder (c ∷ (tokens_of_items vs ++ closing ∷ [])) = subst (λ us. AreInOrder (tokens_of_items us ++ (c ∷ (tokens_of_items vs ++ closing ∷ [])))) e order in
        let later : NoneBefore f (word_fault 5 closing ∷ []) = none_later (c ∷ []) (tokens_of_items vs ++ closing ∷ []) f (word_fault 5 closing ∷ []) ordered (inl (refl, refl)) (at_end (tokens_of_items vs), tt) in
        subst (TermRuns limit nodes symbols scope is locals tree) (sym (behind_err (let_read limit scope locals closing items) (of_height limit opening) f (let_faulty vs f of_none later)))
        (λ fs code pending rest takes.
        up_to_bindings fs code pending rest takes
        ∙ ap (λ us. run limit symbols (at_bindings (place_of opening) no_parts fs code locals pending) (tokens_of_items us ++ (c ∷ (tokens_of_items vs ++ closing ∷ rest)))) e
        ∙ none_bound (place_of opening) fs code pending (tokens_of_items vs ++ closing ∷ rest))
      where
        at_end : (ws : List Word) → IsAt (ws ++ closing ∷ []) (word_fault 5 closing)
        at_end [] = inl (refl, refl)
        at_end (w ∷ ws) = inr (at_end ws)

    some_pairs : (t : Tree) (ts : Trees) → bs ≡ First t ts → (b : AreBound limit nodes symbols scope is locals bs no_parts []) → (0 < length b.pairs) × (some_binding c list ≡ [])
    unfolding bindings_read
    some_pairs t ts e b =
        let none : binding_faults (bindings_read limit scope locals (First t ts)) ≡ [] = ap (λ us. binding_faults (bindings_read limit scope locals us)) (sym e) ∙ b.own_none in
        let named : variables (bindings_read limit scope locals (First t ts)) ≡ map (λ x. x.0) b.pairs = ap (λ us. variables (bindings_read limit scope locals us)) (sym e) ∙ b.variables_are in
        (by_variable (binding_read limit scope locals t).variable none named, ap (λ us. some_binding c (bindings_read limit scope locals us)) e)
      where
        by_variable : (v : Read Named) → faults v ++ faults (binding_read limit scope locals t).value ++ binding_faults (bindings_read limit scope locals ts) ≡ []
            → add_named v (variables (bindings_read limit scope locals ts)) ≡ map (λ x. x.0) b.pairs → 0 < length b.pairs
        by_variable (Sound n) none named = let l = ap length named ∙ length-map b.pairs (λ x. x.0) in omega arith
        by_variable (Faulty f fs) none named = cc

    pub let_runs : ((bs ≡ Empty) ⊎ ((t : Tree) × (ts : Trees) × (bs ≡ First t ts))) → BindingsRun limit nodes symbols scope is locals bs no_parts [] → TermRuns limit nodes symbols scope is locals tree (outcome (of_let items))
    let_runs (inl e) h = no_list e
    let_runs (inr (t, ts, e)) (inl b) = let some = some_pairs t ts e b in bound_runs b some.0 some.1
    let_runs (inr (t, ts, e)) (inr u) = unbound_runs u
