-- One more node that a walk looks at.
use Rattle.std.proofs.Common.{inl, inr, ◌≡◌, ℕ, ◌+◌, ◌≤◌, Bool, true, false, cond, List, [], ◌∷◌, ◌++◌, length, reverse, filter, flat_map, count_by, All, refl, sym, ap, ap₂, ◌∙◌, subst, arith}
use Rattle.std.specs.List.{list_all}
use Rattle.std.proofs.lemmas.Bool.{cases_Bool, and_from, and_left, and_right}
use Rattle.std.proofs.lemmas.List.{reverse-append}
use Rattle.std.proofs.lemmas.List.Elements.{All-nil, All-cons, All-weaker, All-filter, filter-append, Contains-get_or}
use Rattle.std.proofs.lemmas.List.Sums.{count_by-le-length}
use Rattle.ffc_term.specs.declared.node.Node.{Node}
use Rattle.ffc_term.specs.declared.node.Node.TheVariants.{Not}
use Rattle.ffc_term.specs.Nodes.{node_at}
use Rattle.ffc_term.specs.Tables.{IsTable}
use Rattle.ffc_clause.specs.Clauses.{plus, minus, is_among}
use Rattle.ffc_rules.specs.Cones.{is_listed, is_equality, cone}
use Rattle.ffc_bounds.specs.Conjunctions.{conjuncts, is_plain, negated_node, asserted, is_conjunction}
use Rattle.ffc_rules.specs.Entries.{NodeCheck}
use Rattle.ffc_rules.proofs.ConeLemmas.{listed-from_Contains}
use Rattle.ffc_rules.proofs.StepLemmas.{listed_right}
use Rattle.ffc_conjunction.specs.declared.conjunction.Conjunction.{Conjunction}
use Rattle.ffc_conjunction.specs.declared.walk.Walk.{Walk}
use Rattle.ffc_refutation.specs.Forcing.{Forces, IsConflict}
use Rattle.ffc_conjunction.specs.Forced.{is_marked, IsForcing}
use Rattle.ffc_conjunction.specs.Literals.{AreLiteralsOf}
use Rattle.ffc_conjunction.specs.Walks.{found_from, kept_from, equations_from, disequations_from, equations_of, disequations_of, are_plain, IsVisit, Visits, IsWalk, Walks}
use Rattle.ffc_conjunction.proofs.AssertedLemmas.{found_more, found_same, kept_more, kept_same, found_none, kept_none, kept_asserted}

reversed_one : (b : Bool) (x : ℕ) → reverse (cond b (x ∷ []) []) ≡ cond b (x ∷ []) []
reversed_one true x = refl
reversed_one false x = refl

reversed_negated : (test : ℕ → Bool) (n : Node) → reverse (filter test (negated_node n)) ≡ filter test (negated_node n)
reversed_negated test (Not a) = reversed_one (test a) a
reversed_negated test _ = refl

-- one more at the end of a list that is reversed
reversed_more : (xs ys zs us vs : List ℕ) → us ≡ xs ++ ys → reverse ys ≡ ys → reverse xs ≡ zs → vs ≡ ys ++ zs → reverse us ≡ vs
reversed_more xs ys zs us vs is one so next = ap reverse is ∙ reverse-append xs ys ∙ ap₂ (λ a b. a ++ b) one so ∙ sym next

module _ (c : NodeCheck) (ids xs : List ℕ) (id : ℕ) where
  equations_more : is_listed (found_from c.nodes ids xs) id ≡ true → equations_from c.nodes ids (id ∷ xs) ≡ equations_of c.nodes id ++ equations_from c.nodes ids xs
  equations_more is = ap (filter (λ i. is_equality (node_at c.nodes i))) (kept_more c.nodes ids id xs is) ∙ one (is_equality (node_at c.nodes id))
    where
      one : (b : Bool) → cond b (id ∷ equations_from c.nodes ids xs) (equations_from c.nodes ids xs) ≡ cond b (id ∷ []) [] ++ equations_from c.nodes ids xs
      one true = refl
      one false = refl

  disequations_more : is_listed (found_from c.nodes ids xs) id ≡ true → disequations_from c.nodes ids (id ∷ xs) ≡ disequations_of c.nodes id ++ disequations_from c.nodes ids xs
  disequations_more is =
      ap (λ ks. filter (λ i. is_equality (node_at c.nodes i)) (flat_map (λ i. negated_node (node_at c.nodes i)) ks)) (kept_more c.nodes ids id xs is)
      ∙ filter-append (λ i. is_equality (node_at c.nodes i)) (negated_node (node_at c.nodes id)) (flat_map (λ i. negated_node (node_at c.nodes i)) (kept_from c.nodes ids xs))

  -- a node that is asserted and that a conjunction may have
  pub walk_more : (old new : Walk) → is_listed (found_from c.nodes ids xs) id ≡ true → IsWalk c ids xs old
      → IsVisit c (found_from c.nodes ids xs) (disequations_from c.nodes ids xs) id old new → IsWalk c ids (id ∷ xs) new
  walk_more old new is w v = record {
    forcing = subst (λ found. IsForcing c found (disequations_from c.nodes ids (id ∷ xs)) new.forcing) (sym (found_more c.nodes ids id xs is))
        (subst (λ denied. IsForcing c (conjuncts (node_at c.nodes id) ++ found_from c.nodes ids xs) denied new.forcing) (sym (disequations_more is)) v.forcing);
    equations = reversed_more old.equations.items (equations_of c.nodes id) (equations_from c.nodes ids xs) new.equations.items _ v.equations (reversed_one (is_equality (node_at c.nodes id)) id) w.equations (equations_more is);
    disequations = reversed_more old.disequations.items (disequations_of c.nodes id) (disequations_from c.nodes ids xs) new.disequations.items _ v.disequations
        (reversed_negated (λ i. is_equality (node_at c.nodes i)) (node_at c.nodes id)) w.disequations (disequations_more is);
    plain = ap (list_all (λ i. is_plain c.nodes (node_at c.nodes i))) (kept_more c.nodes ids id xs is) ∙ and_from _ _ v.plain w.plain;
  }

  -- one that a conjunction has not
  pub walk_stops : is_listed (found_from c.nodes ids xs) id ≡ true → is_plain c.nodes (node_at c.nodes id) ≡ false → are_plain c.nodes ids (id ∷ xs) ≡ false
  walk_stops is off = ap (list_all (λ i. is_plain c.nodes (node_at c.nodes i))) (kept_more c.nodes ids id xs is) ∙ and_left _ _ off

  -- one that is not asserted
  pub walk_same : (w : Walk) → is_listed (found_from c.nodes ids xs) id ≡ false → IsWalk c ids xs w → IsWalk c ids (id ∷ xs) w
  walk_same v is w =
      let same = kept_same c.nodes ids id xs is in
      record {
        forcing = subst (λ found. IsForcing c found (disequations_from c.nodes ids (id ∷ xs)) v.forcing) (sym (found_same c.nodes ids id xs is))
            (subst (λ ks. IsForcing c (found_from c.nodes ids xs) (filter (λ i. is_equality (node_at c.nodes i)) (flat_map (λ i. negated_node (node_at c.nodes i)) ks)) v.forcing) (sym same) w.forcing);
        equations = w.equations ∙ sym (ap (filter (λ i. is_equality (node_at c.nodes i))) same);
        disequations = w.disequations ∙ sym (ap (λ ks. filter (λ i. is_equality (node_at c.nodes i)) (flat_map (λ i. negated_node (node_at c.nodes i)) ks)) same);
        plain = ap (list_all (λ i. is_plain c.nodes (node_at c.nodes i))) same ∙ w.plain;
      }

-- earlier nodes do not change that a conjunction has not some node
pub stops_before : (ns : List Node) (ids front xs : List ℕ) → are_plain ns ids xs ≡ false → are_plain ns ids (front ++ xs) ≡ false
stops_before ns ids [] xs off = off
stops_before ns ids (y ∷ front) xs off =
    elim (cases_Bool (is_listed (found_from ns ids (front ++ xs)) y)) as (λ _. are_plain ns ids (y ∷ (front ++ xs)) ≡ false) [
      | inl is ↦
          ap (list_all (λ i. is_plain ns (node_at ns i))) (kept_more ns ids y (front ++ xs) is)
          ∙ and_right (is_plain ns (node_at ns y)) _ (stops_before ns ids front xs off)
      | inr is ↦ ap (list_all (λ i. is_plain ns (node_at ns i))) (kept_same ns ids y (front ++ xs) is) ∙ stops_before ns ids front xs off
    ]

-- before any node is looked at
pub walk_start : (c : NodeCheck) (ids : List ℕ) (w : Walk) → w.equations.items ≡ [] → w.disequations.items ≡ [] → IsForcing c ids [] w.forcing → IsWalk c ids [] w
walk_start c ids w one two f =
    let none = kept_none c.nodes ids in
    record {
      forcing = subst (λ found. IsForcing c found (disequations_from c.nodes ids []) w.forcing) (sym (found_none c.nodes ids))
          (subst (λ ks. IsForcing c ids (filter (λ i. is_equality (node_at c.nodes i)) (flat_map (λ i. negated_node (node_at c.nodes i)) ks)) w.forcing) (sym none) f);
      equations = ap reverse one ∙ sym (ap (filter (λ i. is_equality (node_at c.nodes i))) none);
      disequations = ap reverse two ∙ sym (ap (λ ks. filter (λ i. is_equality (node_at c.nodes i)) (flat_map (λ i. negated_node (node_at c.nodes i)) ks)) none);
      plain = ap (list_all (λ i. is_plain c.nodes (node_at c.nodes i))) none;
    }

-- what is kept is found
kept_found : (ns : List Node) (ids xs : List ℕ) → All (λ id. is_listed (found_from ns ids xs) id ≡ true) (kept_from ns ids xs)
kept_found ns ids [] = subst (All (λ id. is_listed (found_from ns ids []) id ≡ true)) (sym (kept_none ns ids)) (All-nil (λ id. is_listed (found_from ns ids []) id ≡ true))
kept_found ns ids (x ∷ xs) =
    elim (cases_Bool (is_listed (found_from ns ids xs) x)) as (λ _. All (λ id. is_listed (found_from ns ids (x ∷ xs)) id ≡ true) (kept_from ns ids (x ∷ xs))) [
      | inl is ↦
          let wide : (j : ℕ) → is_listed (found_from ns ids xs) j ≡ true → is_listed (found_from ns ids (x ∷ xs)) j ≡ true = λ j has.
          ap (λ ks. is_listed ks j) (found_more ns ids x xs is) ∙ listed_right (conjuncts (node_at ns x)) (found_from ns ids xs) j has in
          subst (All (λ id. is_listed (found_from ns ids (x ∷ xs)) id ≡ true)) (sym (kept_more ns ids x xs is))
          (All-cons (λ id. is_listed (found_from ns ids (x ∷ xs)) id ≡ true) x (kept_from ns ids xs) (wide x is)
          (All-weaker (λ id. is_listed (found_from ns ids xs) id ≡ true) (λ id. is_listed (found_from ns ids (x ∷ xs)) id ≡ true) wide (kept_from ns ids xs) (kept_found ns ids xs)))
      | inr is ↦
          subst (All (λ id. is_listed (found_from ns ids (x ∷ xs)) id ≡ true)) (sym (kept_same ns ids x xs is))
          (subst (λ ks. All (λ id. is_listed ks id ≡ true) (kept_from ns ids xs)) (sym (found_same ns ids x xs is)) (kept_found ns ids xs))
    ]

all_listed : (xs : List ℕ) → All (λ id. is_listed xs id ≡ true) xs
all_listed xs k d inside = listed-from_Contains xs _ (Contains-get_or xs k d inside)

module _ (c : NodeCheck) (table : IsTable c.nodes) where
  kept_is : kept_from c.nodes c.in_force (cone c.nodes c.in_force) ≡ asserted c.nodes c.in_force
  kept_is = kept_asserted c.nodes c.in_force table

  -- some asserted node is none that a conjunction has
  pub no_conjunction : are_plain c.nodes c.in_force (cone c.nodes c.in_force) ≡ false → is_conjunction c.nodes c.in_force ≡ false
  unfolding is_conjunction
  no_conjunction off = ap (list_all (λ i. is_plain c.nodes (node_at c.nodes i))) (sym kept_is) ∙ off

  -- what a walk over all nodes of the check has
  pub literals_of : (w : Walk) (v : Conjunction) → v.equations.items ≡ reverse w.equations.items → v.disequations.items ≡ reverse w.disequations.items
      → v.reasons.items ≡ w.forcing.reasons.items → v.clashes ≡ w.forcing.clashes → IsWalk c c.in_force (cone c.nodes c.in_force) w → AreLiteralsOf c v
  unfolding is_conjunction
  literals_of w v one two three four is =
      let ns = c.nodes in
      let ids = c.in_force in
      let xs = cone ns ids in
      let f = is.forcing in
      record {
        plain = ap (list_all (λ i. is_plain ns (node_at ns i))) (sym kept_is) ∙ is.plain;
        equations_are = one ∙ is.equations ∙ ap (filter (λ i. is_equality (node_at ns i))) kept_is;
        disequations_are = two ∙ is.disequations ∙ ap (λ ks. filter (λ i. is_equality (node_at ns i)) (flat_map (λ i. negated_node (node_at ns i)) ks)) kept_is;
        few = few_reasons w.forcing.clashes f.few;
        clash = λ e. subst (IsConflict c) (sym three) (f.clash (sym four ∙ e));
        forced = λ e.
            let r = f.free (sym four ∙ e) in
            record {
              forced = r.forced;
              forces = subst (λ rs. Forces c [] rs r.forced) (sym three) r.forces;
              equations_are = subst (All (λ id. is_among r.forced (plus id) ≡ true)) (sym (one ∙ is.equations))
                  (All-filter (λ i. is_equality (node_at ns i)) (λ id. is_among r.forced (plus id) ≡ true) (kept_from ns ids xs)
                  (All-weaker (λ id. is_listed (found_from ns ids xs) id ≡ true) (λ id. is_among r.forced (plus id) ≡ true) (λ id has. r.found_are id ∙ has) (kept_from ns ids xs) (kept_found ns ids xs)));
              disequations_are = subst (All (λ id. is_among r.forced (minus id) ≡ true)) (sym (two ∙ is.disequations))
                  (All-weaker (λ id. is_listed (disequations_from ns ids xs) id ≡ true) (λ id. is_among r.forced (minus id) ≡ true) (λ id has. r.denied_are id ∙ has) (disequations_from ns ids xs) (all_listed (disequations_from ns ids xs)));
            };
      }
    where
      few_reasons : (b : Bool) → length w.forcing.reasons.items ≤ count_by is_marked w.forcing.marks.items + cond b 1 0 → length v.reasons.items ≤ 1048577
      few_reasons true few = omega (arith, few, ap length three, count_by-le-length is_marked w.forcing.marks.items, is.forcing.long, table.well_formed.within)
      few_reasons false few = omega (arith, few, ap length three, count_by-le-length is_marked w.forcing.marks.items, is.forcing.long, table.well_formed.within)

-- after a visit
pub walk_after : (c : NodeCheck) (ids xs : List ℕ) (id : ℕ) (old new : Walk) → is_listed (found_from c.nodes ids xs) id ≡ true → IsWalk c ids xs old
    → (b : Bool) → Visits c (found_from c.nodes ids xs) (disequations_from c.nodes ids xs) id old new b → Walks c ids (id ∷ xs) new b
walk_after c ids xs id old new is w true v = walk_more c ids xs id old new is w v
walk_after c ids xs id old new is w false off = walk_stops c ids xs id is off
