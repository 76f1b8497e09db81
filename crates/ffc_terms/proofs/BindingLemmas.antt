-- The variables of a `let` with their terms, word by word and by their trees.
use Rattle.std.proofs.Common.{◌≡◌, ℕ, ◌+◌, ◌<◌, nat_lt, Bool, true, false, ◌||◌, List, [], ◌∷◌, ◌++◌, if◌then◌else◌, length, map, Option, Some, None, Err, refl, sym, ap, ◌∙◌, subst, inl, inr, arith}
use Rattle.std.specs.Str.{bytes_eq}
use Rattle.std.specs.List.{list_any}
use Rattle.std.proofs.lemmas.Bool.Decides.{nat_tests}
use Rattle.ffc_lex.specs.declared.tokens.TokenKind.TheVariants as kinds
use Rattle.ffc_lex.specs.Names.{is_theory_name}
use Rattle.ffc_term.specs.declared.node.Node.{Node}
use Rattle.ffc_term.specs.declared.node.Sort.{Sort}
use Rattle.ffc_term.specs.declared.node.Sort.TheVariants as sort
use Rattle.ffc_smt.specs.Trees.{Word, Tree, Leaf, Group, Trees, Empty, First, tokens_of, tokens_of_items, items_of, front, name_of}
use Rattle.ffc_smt.specs.TreeShapes.{is_parenthesis}
use Rattle.ffc_smt.specs.Terms.{Name, height, weight}
use Rattle.ffc_smt.specs.Meaning.{Env}
use Rattle.ffc_smt.specs.Scopes.{Scope}
use Rattle.ffc_smt.specs.Faults.{word_fault, Read, Sound, Faulty, faults, faulty}
use Rattle.ffc_smt.specs.TermReading.{Sorted, Named, free_name, variable_read, is_among, twice, add_named, variables, term_read, bindings_read, binding_read}
use Rattle.ffc_smt.proofs.PlaceLemmas.{term_faults}
use Rattle.ffc_terms.specs.declared.callees.Parts.{Parts}
use Rattle.ffc_terms.specs.declared.codes.Op.{Op}
use Rattle.ffc_terms.specs.declared.frames.Frame.{Frame}
use Rattle.ffc_terms.specs.declared.frames.Frame.TheVariants as frame
use Rattle.ffc_terms.specs.declared.frames.Place.{Place}
use Rattle.ffc_terms.specs.declared.frames.Stage.TheVariants as stage
use Rattle.ffc_terms.specs.declared.scope.Symbols.{Symbols}
use Rattle.ffc_terms.specs.Callees.{capped, with_part}
use Rattle.ffc_terms.specs.Codes.{IsScope}
use Rattle.ffc_terms.specs.Slots.{slot_of}
use Rattle.ffc_terms.specs.SortSteps.{opens, closes}
use Rattle.ffc_terms.specs.Walking.{Walking, Going, refused, is_late, given, bindings_step, bound_step, variable_named, variable_step, goes_on, run}
use Rattle.ffc_terms.proofs.FirstLemmas.{Each, each_weaker, IsAt, at_from, at_left, at_right}
use Rattle.ffc_terms.proofs.ItemLemmas.{at_front, opens_leaf, closes_leaf}
use Rattle.ffc_terms.proofs.OneTermLemmas.{one_read}
use Rattle.ffc_terms.proofs.RunLemmas.{at_term, value_of, then_given, one_is}
use Rattle.ffc_terms.proofs.SlotLemmas.{slot_within}

-- variables with their sorts, the last one first, and others before them
abbrev pub pending_of : List (Named × Sort) → Env Sort → Env Sort
pending_of done base = map (λ x. (x.0.name, x.1)) done ++ base

-- more of them
abbrev pub bound_onto : List (Named × Sorted) → List (Named × Sort) → List (Named × Sort)
bound_onto [] done = done
bound_onto (x ∷ xs) done = bound_onto xs ((x.0, x.1.sort) ∷ done)

abbrev pub at_bindings : Place → Parts → List Frame → List Op → Env Sort → Env Sort → Walking
at_bindings at p fs code locals pending = record { stage = stage.Bindings at p; frames = fs; code = code; locals = locals; pending = pending }

-- Whether a name is among the last ones

late_from : (done : List (Named × Sort)) (base : Env Sort) (name : Name) (k total : ℕ) → total ≡ length (pending_of done base) + k
    → (o : Option ℕ) → slot_of (pending_of done base) name ≡ o
    → (elim o as (λ x. Bool) [ None ↦ false | Some slot ↦ nat_lt total (slot + (length done + k) + 1) ]) ≡ list_any (λ x. bytes_eq x.0.name name) done
late_from [] base name k total e None is = refl
late_from [] base name k total e (Some slot) is = let within = slot_within base name slot (sym is) in grind (arith, nat_tests)
late_from (x ∷ done) base name k total e o is = by_test (bytes_eq x.0.name name) (late_from done base name (k + 1) total (omega (arith, e))) is
  where
    by_test : (b : Bool)
        → ((p : Option ℕ) → slot_of (pending_of done base) name ≡ p
        → (elim p as (λ y. Bool) [ None ↦ false | Some slot ↦ nat_lt total (slot + (length done + (k + 1)) + 1) ]) ≡ list_any (λ y. bytes_eq y.0.name name) done)
        → (if b then Some (length (pending_of done base)) else slot_of (pending_of done base) name) ≡ o
        → (elim o as (λ y. Bool) [ None ↦ false | Some slot ↦ nat_lt total (slot + (length (x ∷ done) + k) + 1) ]) ≡ (b || list_any (λ y. bytes_eq y.0.name name) done)
    by_test true more same =
        subst (λ q. (elim q as (λ y. Bool) [ None ↦ false | Some slot ↦ nat_lt total (slot + (length (x ∷ done) + k) + 1) ]) ≡ true) same
        (let less : total < length (pending_of done base) + (length (x ∷ done) + k) + 1 = omega (arith, e) in grind (arith, nat_tests, less))
    by_test false more same =
        let m : length (x ∷ done) + k ≡ length done + (k + 1) = omega arith in
        ap (λ n. elim o as (λ y. Bool) [ None ↦ false | Some slot ↦ nat_lt total (slot + n + 1) ]) m ∙ more o same

is_late_is : (count : ℕ) (pending : Env Sort) (o : Option ℕ) → is_late count pending o ≡ (elim o as (λ x. Bool) [ None ↦ false | Some slot ↦ nat_lt (length pending) (slot + count + 1) ])
is_late_is count pending None = refl
is_late_is count pending (Some slot) = refl

among_map : (done : List (Named × Sort)) (name : Name) → list_any (λ x. bytes_eq x.0.name name) done ≡ is_among name (map (λ x. x.0) done)
among_map [] name = refl
among_map (x ∷ done) name = ap (λ b. bytes_eq x.0.name name || b) (among_map done name)

-- a variable that is bound twice is one of the last so many
pub late_among : (done : List (Named × Sort)) (base : Env Sort) (name : Name) (count : ℕ) → count ≡ length done
    → is_late count (pending_of done base) (slot_of (pending_of done base) name) ≡ is_among name (map (λ x. x.0) done)
late_among done base name count e =
    let z : length done + 0 ≡ count = omega arith in
    let t : length (pending_of done base) ≡ length (pending_of done base) + 0 = omega arith in
    is_late_is count (pending_of done base) (slot_of (pending_of done base) name)
    ∙ ap (λ n. elim (slot_of (pending_of done base) name) as (λ x. Bool) [ None ↦ false | Some slot ↦ nat_lt (length (pending_of done base)) (slot + n + 1) ]) (sym z)
    ∙ late_from done base name 0 (length (pending_of done base)) t (slot_of (pending_of done base) name) refl
    ∙ among_map done name

module _ (limit : ℕ) (nodes : List Node) (symbols : Symbols) (scope : Scope) (is : IsScope nodes symbols scope) (locals : Env Sort) where
  -- Steps

  pub bind_open : (at : Place) (p : Parts) (fs : List Frame) (code : List Op) (pending : Env Sort) (w : Word) (ws : List Word) → w.kind ≡ kinds.LeftParen
      → run limit symbols (at_bindings at p fs code locals pending) (w ∷ ws) ≡ run limit symbols (record { stage = stage.Variable at p; frames = fs; code = code; locals = locals; pending = pending }) ws
  unfolding bindings_step
  bind_open at p fs code pending w ws k = one_is limit symbols (at_bindings at p fs code locals pending) w ws (Going (record { stage = stage.Variable at p; frames = fs; code = code; locals = locals; pending = pending })) (rw (ap opens k) refl)

  pub bind_leaf : (at : Place) (p : Parts) (fs : List Frame) (code : List Op) (pending : Env Sort) (w : Word) (ws : List Word) → is_parenthesis w.kind ≡ false
      → run limit symbols (at_bindings at p fs code locals pending) (w ∷ ws) ≡ Err (word_fault 5 w)
  unfolding bindings_step
  bind_leaf at p fs code pending w ws k = one_is limit symbols (at_bindings at p fs code locals pending) w ws (refused 5 w) (rw (opens_leaf w.kind k, closes_leaf w.kind k) refl)

  pub variable_one : (at : Place) (p : Parts) (fs : List Frame) (code : List Op) (pending : Env Sort) (w : Word) (ws : List Word) (o : Option Name) → name_of w ≡ o
      → run limit symbols (record { stage = stage.Variable at p; frames = fs; code = code; locals = locals; pending = pending }) (w ∷ ws)
      ≡ goes_on (λ n. run limit symbols n ws) ws (variable_named limit symbols at p w (record { stage = stage.Variable at p; frames = fs; code = code; locals = locals; pending = pending }) o)
  unfolding variable_step
  variable_one at p fs code pending w ws o e =
      one_is limit symbols _ w ws _ (ap (variable_named limit symbols at p w (record { stage = stage.Variable at p; frames = fs; code = code; locals = locals; pending = pending })) e)

  pub value_bound : (at : Place) (p : Parts) (fs : List Frame) (code : List Op) (pending : Env Sort) (name : Name) (v : Word) (s : Sorted) (closing : Word) (ws : List Word) → closing.kind ≡ kinds.RightParen
      → then_given limit symbols (value_of v s) (at_term (frame.Value at p ∷ fs) code locals ((name, sort.Bool) ∷ pending)) (closing ∷ ws)
      ≡ run limit symbols (at_bindings at (with_part s.sort (height s.term) (capped (weight s.term)) p) fs code locals ((name, s.sort) ∷ pending)) ws
  unfolding given bound_step
  value_bound at p fs code pending name v s closing ws k =
      one_is limit symbols (record { stage = stage.Bound at (with_part s.sort (height s.term) (capped (weight s.term)) p); frames = fs; code = code; locals = locals; pending = (name, s.sort) ∷ pending }) closing ws
      (Going (at_bindings at (with_part s.sort (height s.term) (capped (weight s.term)) p) fs code locals ((name, s.sort) ∷ pending))) (rw (ap closes k) refl)

  -- Faults and variables of bindings are at their tokens

  pub one_at : (vs : Trees) (closing : Word) → Each (IsAt (tokens_of_items vs ++ closing ∷ [])) (faults (one_read limit nodes symbols scope is locals vs closing))
  unfolding tokens_of_items items_of
  one_at Empty closing = (inl (refl, refl), tt)
  one_at (First t Empty) closing =
      each_weaker (IsAt (tokens_of t)) (IsAt (tokens_of_items (First t Empty) ++ closing ∷ [])) (λ f a. at_left (tokens_of_items (First t Empty)) (closing ∷ []) f (at_left (tokens_of t) [] f a))
      (faults (term_read limit scope locals t)) (at_from (tokens_of t) (faults (term_read limit scope locals t)) (term_faults limit scope locals t))
  one_at (First t (First u us)) closing =
      let all = tokens_of_items (First t (First u us)) in (
        at_left all (closing ∷ []) (word_fault 5 (front u)) (at_right (tokens_of t) (tokens_of_items (First u us)) (word_fault 5 (front u)) (at_left (tokens_of u) (tokens_of_items us) (word_fault 5 (front u)) (at_front u (word_fault 5 (front u)) refl refl))),
        each_weaker (IsAt (tokens_of t)) (IsAt (all ++ closing ∷ [])) (λ f a. at_left all (closing ∷ []) f (at_left (tokens_of t) (tokens_of_items (First u us)) f a))
            (faults (term_read limit scope locals t)) (at_from (tokens_of t) (faults (term_read limit scope locals t)) (term_faults limit scope locals t)),
      )

  abbrev pub IsNamedAt : List Word → Named → Type 0
  IsNamedAt ws n = (code : ℕ) → IsAt ws (word_fault code n.at)

  variable_at : (x : Tree) → (n : Named) → variable_read x ≡ Sound n → IsNamedAt (tokens_of x) n
  unfolding tokens_of
  variable_at (Leaf w) n e = by_name (name_of w) e
    where
      by_free : (name : Name) (b : Bool) → (if b then faulty 9 w else Sound (record { at = w; name = name })) ≡ Sound n → IsNamedAt (w ∷ []) n
      by_free name true h = cc
      by_free name false h = let same : record { at = w; name = name } ≡ n = cc in λ code. inl (ap (λ m. m.at.line) (sym same), ap (λ m. m.at.column) (sym same))

      by_name : (o : Option Name) → (elim o [ None ↦ faulty 5 w | Some name ↦ free_name w name ]) ≡ Sound n → IsNamedAt (w ∷ []) n
      by_name None h = cc
      by_name (Some name) h = by_free name (is_theory_name name) h
  variable_at (Group opening items closing) n e = cc

  add_at : (ws : List Word) (r : Read Named) (ns : List Named) → ((n : Named) → r ≡ Sound n → IsNamedAt ws n) → Each (IsNamedAt ws) ns → Each (IsNamedAt ws) (add_named r ns)
  add_at ws (Sound n) ns h g = (h n refl, g)
  add_at ws (Faulty f fs) ns h g = g

  named_left : (xs ys : List Word) (n : Named) → IsNamedAt xs n → IsNamedAt (xs ++ ys) n
  named_left xs ys n h = λ code. at_left xs ys (word_fault code n.at) (h code)

  named_right : (xs ys : List Word) (n : Named) → IsNamedAt ys n → IsNamedAt (xs ++ ys) n
  named_right xs ys n h = λ code. at_right xs ys (word_fault code n.at) (h code)

  binding_at : (t : Tree) (n : Named) → (binding_read limit scope locals t).variable ≡ Sound n → IsNamedAt (tokens_of t) n
  unfolding tokens_of tokens_of_items binding_read
  binding_at (Leaf w) n e = cc
  binding_at (Group o Empty c) n e = cc
  binding_at (Group o (First x Empty) c) n e = λ code. inr (at_left (tokens_of x ++ []) (c ∷ []) (word_fault code n.at) (at_left (tokens_of x) [] (word_fault code n.at) (variable_at x n e code)))
  binding_at (Group o (First x (First t rest)) c) n e = λ code.
      inr (at_left (tokens_of x ++ tokens_of_items (First t rest)) (c ∷ []) (word_fault code n.at) (at_left (tokens_of x) (tokens_of_items (First t rest)) (word_fault code n.at) (variable_at x n e code)))

  pub variables_at : (items : Trees) → Each (IsNamedAt (tokens_of_items items)) (variables (bindings_read limit scope locals items))
  unfolding tokens_of_items bindings_read
  variables_at Empty = tt
  variables_at (First t ts) =
      add_at (tokens_of t ++ tokens_of_items ts) (binding_read limit scope locals t).variable (variables (bindings_read limit scope locals ts))
      (λ n e. named_left (tokens_of t) (tokens_of_items ts) n (binding_at t n e))
      (each_weaker (IsNamedAt (tokens_of_items ts)) (IsNamedAt (tokens_of t ++ tokens_of_items ts)) (λ n h. named_right (tokens_of t) (tokens_of_items ts) n h) _ (variables_at ts))

  pub twice_at : (ws : List Word) (before ns : List Named) → Each (IsNamedAt ws) ns → Each (IsAt ws) (twice before ns)
  twice_at ws before [] h = tt
  twice_at ws before (n ∷ ns) h = by_test (is_among n.name before) (twice_at ws (n ∷ before) ns h.1)
    where
      by_test : (b : Bool) → Each (IsAt ws) (twice (n ∷ before) ns) → Each (IsAt ws) ((if b then word_fault 9 n.at ∷ [] else []) ++ twice (n ∷ before) ns)
      by_test true more = (h.0 9, more)
      by_test false more = more
