-- Trails and the values that they give.
use Rattle.std.proofs.Common.{inl, inr, ◌≡◌, ◌≢◌, ℕ, zero, suc, ◌+◌, ◌<◌, Bool, cond, List, [], ◌∷◌, ◌++◌, length, get_or, set, replicate, Option, Some, None, slice_get, Contains, refl, sym, ap, ◌∙◌, subst, arith}
use Rattle.std.specs.Prelude.{is_none, count_by, IfSome}
use Rattle.std.proofs.lemmas.Bool.{cases_eq}
use Rattle.std.proofs.lemmas.List.{length-append, length-set, length-replicate, get_or-replicate, get_or_append_left}
use Rattle.std.proofs.lemmas.List.Elements.{All-weaker, All-push, All-contains, Contains-push, Contains-push_cases, Contains-append_left, Contains-get_or}
use Rattle.std.proofs.lemmas.List.Folds.{sum_by-replicate}
use Rattle.std.proofs.lemmas.List.Quantifiers.{all_pairs_push}
use Rattle.std.proofs.lemmas.List.Sums.{sum_by-set}
use Rattle.std.proofs.lemmas.Option.{none-some, same_Some, slice_get-get_or, slice_get_within, get_or_from_slice_get}
use Rattle.ffc_clause.specs.Clauses.{Literal}
use Rattle.ffc_cdcl.specs.Trails.{IsTrail, IsOpen}

get_set_same : {X : Type 0} (xs : List X) (n : ℕ) (x : X) → n < length xs → slice_get (set xs n x) n ≡ Some x
get_set_same [] n x inside = absurd (omega (arith, inside))
get_set_same (y ∷ xs) zero x inside = refl
get_set_same (y ∷ xs) (suc n) x inside = get_set_same xs n x (omega (arith, inside))

get_set_other : {X : Type 0} (xs : List X) (n m : ℕ) (x : X) → m ≢ n → slice_get (set xs n x) m ≡ slice_get xs m
get_set_other [] n m x other = refl
get_set_other (y ∷ xs) zero zero x other = absurd (other refl)
get_set_other (y ∷ xs) zero (suc m) x other = refl
get_set_other (y ∷ xs) (suc n) zero x other = refl
get_set_other (y ∷ xs) (suc n) (suc m) x other = get_set_other xs n m x (λ e. other (ap suc e))

-- a node with a value and with none
never_open : (b : Bool) (o : Option (Option Bool)) → o ≡ Some (Some b) → o ≡ Some None → ⊥
never_open b o some none = none-some b (same_Some None (Some b) (sym none ∙ some))

abbrev no_value : Option Bool
no_value = None

pub no_trail : (n : ℕ) → IsTrail (replicate n None) []
no_trail n = record {
  on = λ k d inside. absurd (omega (arith, inside));
  off = λ node b at.
      let inside = slice_get_within (replicate n None) node (Some b) at in
      absurd (none-some b (sym (get_or-replicate n node None None (omega (arith, inside, length-replicate n no_value))) ∙ get_or_from_slice_get (replicate n None) node (Some b) None at));
  distinct = λ i j d before inside. absurd (omega (arith, inside));
  count = count_is;
}
  where
    count_is : 0 + count_by is_none (replicate n no_value) ≡ length (replicate n no_value)
    count_is = omega (arith, sum_by-replicate (λ (o : Option Bool). cond (is_none o) 1 0) n None, length-replicate n no_value)

module _ (values : List (Option Bool)) (literals : List Literal) (trail : IsTrail values literals) where
  value_on : (b : Bool) (node : ℕ) → Contains literals (b, node) → slice_get values node ≡ Some (Some b)
  value_on b node has = All-contains (λ (l : Literal). slice_get values l.1 ≡ Some (Some l.0)) literals (b, node) trail.on has

  pub value_given : (node : ℕ) (v : Option Bool) → node < length values → v ≡ get_or values node v → IfSome v (λ b. Contains literals (b, node))
  value_given node None inside at = tt
  value_given node (Some b) inside at = trail.off node b (slice_get-get_or values node (Some b) inside ∙ ap Some (sym at))

  pub value_none : (node : ℕ) (v : Option Bool) → node < length values → v ≡ get_or values node v → v ≡ None → IsOpen (record { nodes = length values; literals = literals }) node
  value_none node v inside at none = record {
    below = inside;
    absent = λ b has. never_open b (slice_get values node) (value_on b node has) (slice_get-get_or values node v inside ∙ ap Some (sym at ∙ none));
  }

  is_open : (node : ℕ) → IsOpen (record { nodes = length values; literals = literals }) node → slice_get values node ≡ Some None
  is_open node o = by_value (get_or values node None) (slice_get-get_or values node None o.below)
    where
      by_value : (v : Option Bool) → slice_get values node ≡ Some v → slice_get values node ≡ Some None
      by_value None e = e
      by_value (Some b) e = absurd (o.absent b (trail.off node b e))

  module _ (l : Literal) (o : IsOpen (record { nodes = length values; literals = literals }) l.1) where
    open_now : slice_get values l.1 ≡ Some None
    open_now = is_open l.1 o

    -- the count of nodes without a value
    count_before : count_by is_none (set values l.1 (Some l.0)) + 1 ≡ count_by is_none values + 0
    count_before =
        let was = get_or_from_slice_get values l.1 None None open_now in
        ap (λ n. count_by is_none (set values l.1 (Some l.0)) + n) (sym (ap (λ (v : Option Bool). cond (is_none v) 1 0) was))
        ∙ sum_by-set (λ (v : Option Bool). cond (is_none v) 1 0) values l.1 (Some l.0) None o.below

    pub room : length literals < length values
    room = omega (arith, count_before, trail.count)

    kept : (m : Literal) → slice_get values m.1 ≡ Some (Some m.0) → slice_get (set values l.1 (Some l.0)) m.1 ≡ Some (Some m.0)
    kept m at =
        get_set_other values l.1 m.1 (Some l.0) (λ e. never_open m.0 (slice_get values m.1) at (ap (slice_get values) e ∙ open_now)) ∙ at

    off_after : (node : ℕ) (b : Bool) → slice_get (set values l.1 (Some l.0)) node ≡ Some (Some b) → Contains (literals ++ l ∷ []) (b, node)
    off_after node b at =
        elim (cases_eq node l.1) as (λ _. Contains (literals ++ l ∷ []) (b, node)) [
          | inl same ↦
              let value : l.0 ≡ b = same_Some l.0 b (same_Some (Some l.0) (Some b) (sym (get_set_same values l.1 (Some l.0) o.below) ∙ ap (slice_get (set values l.1 (Some l.0))) (sym same) ∙ at)) in
              let is : l ≡ (b, node) = λ i. (value i, sym same i) in
              subst (Contains (literals ++ l ∷ [])) is (Contains-push literals l)
          | inr other ↦ Contains-append_left literals (l ∷ []) (b, node) (trail.off node b (sym (get_set_other values l.1 node (Some l.0) other) ∙ at))
        ]

    pub trail_push : IsTrail (set values l.1 (Some l.0)) (literals ++ l ∷ [])
    trail_push = record {
      on = All-push (λ (m : Literal). slice_get (set values l.1 (Some l.0)) m.1 ≡ Some (Some m.0)) literals l
          (All-weaker (λ (m : Literal). slice_get values m.1 ≡ Some (Some m.0)) (λ (m : Literal). slice_get (set values l.1 (Some l.0)) m.1 ≡ Some (Some m.0)) kept literals trail.on)
          (get_set_same values l.1 (Some l.0) o.below);
      off = off_after;
      distinct = all_pairs_push (λ (a b : Literal). a.1 ≢ b.1) literals l trail.distinct
          (λ k d inside same. o.absent (get_or literals k d).0 (subst (λ n. Contains literals ((get_or literals k d).0, n)) same (Contains-get_or literals k d inside)));
      count = omega (arith, count_before, trail.count, length-append literals (l ∷ []), length-set values l.1 (Some l.0));
    }

-- the last literal goes
module _ (values : List (Option Bool)) (literals : List Literal) (l : Literal) (trail : IsTrail values (literals ++ l ∷ [])) where
  value_last : slice_get values l.1 ≡ Some (Some l.0)
  value_last = value_on values (literals ++ l ∷ []) trail l.0 l.1 (Contains-push literals l)

  inside_last : l.1 < length values
  inside_last = slice_get_within values l.1 (Some l.0) value_last

  other_node : (k : ℕ) (d : Literal) → k < length literals → (get_or literals k d).1 ≢ l.1
  other_node k d inside same =
      trail.distinct k (length literals) d inside (omega (arith, length-append literals (l ∷ [])))
      (ap (λ (m : Literal). m.1) (get_or_append_left literals (l ∷ []) d k inside) ∙ same ∙ sym (ap (λ (m : Literal). m.1) (last_is literals)))
    where
      last_is : (ls : List Literal) → get_or (ls ++ l ∷ []) (length ls) d ≡ l
      last_is [] = refl
      last_is (m ∷ ls) = last_is ls

  count_after : count_by is_none (set values l.1 None) + 0 ≡ count_by is_none values + 1
  count_after =
      let was = get_or_from_slice_get values l.1 (Some l.0) None value_last in
      ap (λ n. count_by is_none (set values l.1 None) + n) (sym (ap (λ (v : Option Bool). cond (is_none v) 1 0) was))
      ∙ sum_by-set (λ (v : Option Bool). cond (is_none v) 1 0) values l.1 None None inside_last

  off_before : (node : ℕ) (b : Bool) → slice_get (set values l.1 None) node ≡ Some (Some b) → Contains literals (b, node)
  off_before node b at =
      elim (cases_eq node l.1) as (λ _. Contains literals (b, node)) [
        | inl same ↦ absurd (never_open b (slice_get (set values l.1 None) node) at (ap (slice_get (set values l.1 None)) same ∙ get_set_same values l.1 None inside_last))
        | inr other ↦
            elim (Contains-push_cases literals l (b, node) (trail.off node b (sym (get_set_other values l.1 node None other) ∙ at))) as (λ _. Contains literals (b, node)) [
              | inl has ↦ has
              | inr is ↦ absurd (other (sym (ap (λ (m : Literal). m.1) is)))
            ]
      ]

  pub trail_pop : IsTrail (set values l.1 None) literals
  trail_pop = record {
    on = λ k d inside.
        get_set_other values l.1 (get_or literals k d).1 None (other_node k d inside)
        ∙ value_on values (literals ++ l ∷ []) trail (get_or literals k d).0 (get_or literals k d).1 (Contains-append_left literals (l ∷ []) (get_or literals k d) (Contains-get_or literals k d inside));
    off = off_before;
    distinct = λ i j d before inside same.
        trail.distinct i j d before (omega (arith, inside, length-append literals (l ∷ [])))
        (ap (λ (m : Literal). m.1) (get_or_append_left literals (l ∷ []) d i (omega (arith, before, inside))) ∙ same ∙ sym (ap (λ (m : Literal). m.1) (get_or_append_left literals (l ∷ []) d j inside)));
    count = omega (arith, count_after, trail.count, length-append literals (l ∷ []), length-set values l.1 None);
  }
