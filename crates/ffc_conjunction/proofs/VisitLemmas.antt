-- What a node forces that is asserted.
use Rattle.std.proofs.Common.{inl, inr, ◌≡◌, ℕ, nat_lt, true, false, cond, List, [], ◌∷◌, ◌++◌, length, filter, Option, Some, None, option_map, refl, sym, ap, ◌∙◌, subst, append-nil, slice_get}
use Rattle.std.proofs.lemmas.Bool.{lt-ltb}
use Rattle.std.proofs.lemmas.Option.{slice_get-map, slice_get_within}
use Rattle.ffc_term.specs.declared.node.Node.{Node}
use Rattle.ffc_term.specs.declared.node.Node.TheVariants.{True, And, Eq, Not}
use Rattle.ffc_term.specs.Nodes.{IsNodeAt, node_at}
use Rattle.ffc_clause.specs.Clauses.{Clause, plus, minus}
use Rattle.ffc_refutation.specs.declared.reason.Reason.TheVariants as reason
use Rattle.ffc_rules.specs.Cones.{is_listed, is_equality}
use Rattle.ffc_bounds.specs.Conjunctions.{conjuncts, is_plain, negated_node}
use Rattle.ffc_rules.specs.Entries.{NodeCheck}
use Rattle.ffc_rules.specs.Schemes.{schemes, scheme_clause}
use Rattle.ffc_conjunction.specs.declared.walk.Walk.{Walk}
use Rattle.ffc_conjunction.specs.Forced.{Gives, IsForcing}
use Rattle.ffc_conjunction.specs.Walks.{IsVisit}

-- the clause of a scheme, by the node
abbrev clause_by : Option Node → ℕ → ℕ → ℕ → Option Clause
clause_by o v scheme index =
    slice_get
    (elim (slice_get (elim o as (λ _. List (List Clause)) [ None ↦ [] | Some n ↦ schemes v n ]) scheme) as (λ _. List Clause) [
      | None ↦ []
      | Some clauses ↦ clauses
    ]) index

module _ (c : NodeCheck) (found : List ℕ) where
  -- an assertion gives its node
  pub active_gives : (k id : ℕ) → slice_get c.in_force k ≡ Some id → Gives c found (plus id) (reason.Assertion k)
  active_gives k id at = record {
    clause = plus id ∷ [];
    given = ap (option_map (λ i. plus i ∷ [])) at;
    others = inl refl;
  }

  module _ (node : ℕ) (has : is_listed found node ≡ true) where
    inside : (n : Node) → IsNodeAt c.nodes node n → nat_lt node (length c.nodes) ≡ true
    inside n at = lt-ltb node (length c.nodes) (slice_get_within c.nodes node n at)

    -- an `and` gives its parts
    pub and_gives : (ids : List ℕ) (k id : ℕ) → IsNodeAt c.nodes node (And ids) → slice_get ids k ≡ Some id → Gives c found (plus id) (reason.Scheme node 0 k)
    unfolding scheme_clause
    and_gives ids k id at part = record {
      clause = minus node ∷ plus id ∷ [];
      given = ap (λ b. cond b (clause_by (slice_get c.nodes node) node 0 k) None) (inside (And ids) at) ∙ ap (λ o. clause_by o node 0 k) at
          ∙ slice_get-map (λ a. minus node ∷ plus a ∷ []) ids k ∙ ap (option_map (λ a. minus node ∷ plus a ∷ [])) part;
      others = inr (node, has, refl);
    }

    -- a negation gives the negation of what it negates
    pub not_gives : (a : ℕ) → IsNodeAt c.nodes node (Not a) → Gives c found (minus a) (reason.Scheme node 1 0)
    unfolding scheme_clause
    not_gives a at = record {
      clause = minus node ∷ minus a ∷ [];
      given = ap (λ b. cond b (clause_by (slice_get c.nodes node) node 1 0) None) (inside (Not a) at) ∙ ap (λ o. clause_by o node 1 0) at;
      others = inr (node, has, refl);
    }

module _ (c : NodeCheck) (found denied : List ℕ) (id : ℕ) (old new : Walk) where
  visit_is : (n : Node) → node_at c.nodes id ≡ n → is_plain c.nodes n ≡ true
      → IsForcing c (conjuncts n ++ found) (filter (λ a. is_equality (node_at c.nodes a)) (negated_node n) ++ denied) new.forcing
      → new.equations.items ≡ old.equations.items ++ cond (is_equality n) (id ∷ []) []
      → new.disequations.items ≡ old.disequations.items ++ filter (λ a. is_equality (node_at c.nodes a)) (negated_node n) → IsVisit c found denied id old new
  visit_is n is plain f one two = record {
    plain = ap (is_plain c.nodes) is ∙ plain;
    forcing = subst (λ m. IsForcing c (conjuncts m ++ found) (filter (λ a. is_equality (node_at c.nodes a)) (negated_node m) ++ denied) new.forcing) (sym is) f;
    equations = one ∙ ap (λ m. old.equations.items ++ cond (is_equality m) (id ∷ []) []) (sym is);
    disequations = two ∙ ap (λ m. old.disequations.items ++ filter (λ a. is_equality (node_at c.nodes a)) (negated_node m)) (sym is);
  }

  pub visit_true : node_at c.nodes id ≡ True → IsForcing c found denied new.forcing → new.equations.items ≡ old.equations.items → new.disequations.items ≡ old.disequations.items → IsVisit c found denied id old new
  visit_true is f one two = visit_is True is refl f (one ∙ sym (append-nil old.equations.items)) (two ∙ sym (append-nil old.disequations.items))

  pub visit_and : (ids : List ℕ) → node_at c.nodes id ≡ And ids → IsForcing c (ids ++ found) denied new.forcing → new.equations.items ≡ old.equations.items → new.disequations.items ≡ old.disequations.items → IsVisit c found denied id old new
  visit_and ids is f one two = visit_is (And ids) is refl f (one ∙ sym (append-nil old.equations.items)) (two ∙ sym (append-nil old.disequations.items))

  pub visit_eq : (a b : ℕ) → node_at c.nodes id ≡ Eq a b → IsForcing c found denied new.forcing → new.equations.items ≡ old.equations.items ++ id ∷ [] → new.disequations.items ≡ old.disequations.items → IsVisit c found denied id old new
  visit_eq a b is f one two = visit_is (Eq a b) is refl f one (two ∙ sym (append-nil old.disequations.items))

  pub visit_not : (a x y : ℕ) → node_at c.nodes id ≡ Not a → node_at c.nodes a ≡ Eq x y → IsForcing c found (a ∷ denied) new.forcing → new.equations.items ≡ old.equations.items → new.disequations.items ≡ old.disequations.items ++ a ∷ []
      → IsVisit c found denied id old new
  visit_not a x y is eq f one two =
      let on : is_equality (node_at c.nodes a) ≡ true = ap is_equality eq in
      visit_is (Not a) is on
      (subst (λ b. IsForcing c found (cond b (a ∷ []) [] ++ denied) new.forcing) (sym on) f)
      (one ∙ sym (append-nil old.equations.items))
      (two ∙ ap (λ b. old.disequations.items ++ cond b (a ∷ []) []) (sym on))

-- a node that no conjunction has
pub other_node : (ns : List Node) (n : Node) → (n ≡ True → ⊥) → ((a : ℕ) → n ≡ Not a → ⊥) → ((ids : List ℕ) → n ≡ And ids → ⊥) → ((a b : ℕ) → n ≡ Eq a b → ⊥) → is_plain ns n ≡ false
other_node ns True a b c d = absurd (a refl)
other_node ns (Not x) a b c d = absurd (b x refl)
other_node ns (And ids) a b c d = absurd (c ids refl)
other_node ns (Eq x y) a b c d = absurd (d x y refl)
other_node ns _ a b c d = refl
