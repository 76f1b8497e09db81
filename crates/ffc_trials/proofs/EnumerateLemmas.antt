-- Going through the assignments of a check.
use Rattle.std.proofs.Common.{◌≡◌, ℕ, ◌+◌, ◌<◌, false, List, [], ◌∷◌, length, All, Contains, sym, ap, ◌∙◌, subst}
use Rattle.std.specs.List.{AllByRecursion}
use Rattle.std.proofs.lemmas.List.Elements.{All-from_recursion}
use Rattle.std.proofs.lemmas.Option.{slice_get_within}
use Rattle.ffc_term.specs.declared.value.Value.{Value}
use Rattle.ffc_term.specs.Nodes.{IsConstantAt}
use Rattle.ffc_term.specs.Checks.{AreNodesOf, AreConstantsOf}
use Rattle.ffc_term.proofs.RootLemmas.{roots_among}
use Rattle.ffc_rules.specs.Assignments.{are_true}
use Rattle.ffc_rules.specs.Cones.{cone_constants}
use Rattle.ffc_rules.specs.Entries.{NodeCheck}
use Rattle.ffc_rules.specs.Laws.{IsValid}
use Rattle.ffc_rules.proofs.ConeLemmas.{cone_nodes}
use Rattle.ffc_rules.proofs.CaseLemmas.{constants_of, increasing_apart}
use Rattle.ffc_check.specs.Assigning.{with_values}
use Rattle.ffc_check.proofs.AssignLemmas.{length-with_values}
use Rattle.ffc_check.proofs.CaseLemmas.{within, constants_each, no_model_yet, no_model_next}
use Rattle.ffc_trials.specs.declared.cone.Cone.{Cone}
use Rattle.ffc_trials.specs.declared.enumerate.Enumeration.{Enumeration}
use Rattle.ffc_trials.specs.Counting.{HasDigits, advanced}
use Rattle.ffc_trials.specs.Enumerating.{IsReached, with_zeros}
use Rattle.ffc_trials.specs.Parts.{IsConeOf}
use Rattle.ffc_trials.proofs.CountingLemmas.{AreDistinct-apart, length-advanced, advanced_digits, zero_digits}
use Rattle.ffc_trials.proofs.ModelLemmas.{digits_true}

module _ (c : NodeCheck) (valid : IsValid c) where
  constants_own : AreConstantsOf c.nodes c.in_force (cone_constants c.nodes c.in_force)
  constants_own = constants_of c.nodes c.in_force valid.table (within c valid)

  module _ (parts : Cone) (of : IsConeOf c parts) where
    pub assertions_among : All (Contains parts.nodes.items) parts.assertions.items
    assertions_among =
        roots_among c.nodes c.in_force parts.nodes.items parts.assertions.items
        (subst (AreNodesOf c.nodes c.in_force) (sym of.all) (cone_nodes c.nodes c.in_force valid.table (within c valid))) of.assertions

    pub constants_all : All (IsConstantAt c.nodes) parts.constants.items
    constants_all =
        subst (All (IsConstantAt c.nodes)) (sym of.constants)
        (All-from_recursion (IsConstantAt c.nodes) (cone_constants c.nodes c.in_force) (constants_each c.nodes c.in_force (cone_constants c.nodes c.in_force) valid.table (within c valid) constants_own))

    pub constants_within : All (λ id. id < length c.nodes) parts.constants.items
    constants_within k d inside = let (n, at, is) = constants_all k d inside in slice_get_within c.nodes _ n at

  -- each constant of the check beside 0 is a constant
  pub zeros_constant : All (λ (p : ℕ × ℕ). IsConstantAt c.nodes p.0) (with_zeros (cone_constants c.nodes c.in_force))
  zeros_constant =
      All-from_recursion (λ (p : ℕ × ℕ). IsConstantAt c.nodes p.0) (with_zeros (cone_constants c.nodes c.in_force))
      (zeros_each (cone_constants c.nodes c.in_force) (constants_each c.nodes c.in_force (cone_constants c.nodes c.in_force) valid.table (within c valid) constants_own))
    where
      zeros_each : (ids : List ℕ) → AllByRecursion (IsConstantAt c.nodes) ids → AllByRecursion (λ (p : ℕ × ℕ). IsConstantAt c.nodes p.0) (with_zeros ids)
      zeros_each [] all = tt
      zeros_each (id ∷ ids) all = (all.0, zeros_each ids all.1)

  -- before the first assignment, whatever the values were before the check's constants got 0
  pub first_reached : (e : Enumeration) (before : List Value) → length before ≡ length c.nodes
      → e.values.items ≡ with_values c.nodes before (with_zeros (cone_constants c.nodes c.in_force)) → length e.out.items ≡ length c.nodes
      → e.pairs.items ≡ with_zeros c.declared → IsReached c 0 e
  first_reached e before long values out pairs =
      let constants = cone_constants c.nodes c.in_force in
      let formed = valid.table.well_formed in
      record {
        values = ap length values ∙ length-with_values c.nodes before (with_zeros constants) ∙ long;
        out = out;
        pairs = pairs;
        digits = subst (λ vs. HasDigits c.nodes constants vs 0) (sym values)
            (zero_digits c.nodes formed constants before (constants_each c.nodes c.in_force constants valid.table (within c valid) constants_own)
            (AreDistinct-apart c.nodes constants (increasing_apart constants constants_own.increasing)) long);
        none = no_model_yet c.nodes c.in_force;
      }

  -- after one that is no model
  pub next_reached : (old new : Enumeration) (number next : ℕ) → IsReached c number old → next ≡ number + 1 → are_true c.nodes c.in_force old.values.items ≡ false
      → new.values.items ≡ advanced c.nodes (cone_constants c.nodes c.in_force) old.values.items → length new.out.items ≡ length old.out.items → new.pairs.items ≡ old.pairs.items → IsReached c next new
  next_reached old new number next r after no_model values out pairs =
      let ns = c.nodes in
      let ids = c.in_force in
      let constants = cone_constants ns ids in
      let formed = valid.table.well_formed in
      let each = constants_each ns ids constants valid.table (within c valid) constants_own in
      let truth = digits_true ns ids constants valid.table (within c valid) constants_own old.values.items number r.digits in
      let one : IsReached c (number + 1) new = record {
        values = ap length values ∙ length-advanced ns formed constants old.values.items ∙ r.values;
        out = out ∙ r.out;
        pairs = pairs ∙ r.pairs;
        digits = subst (λ vs. HasDigits ns constants vs (number + 1)) (sym values)
            (advanced_digits ns formed constants old.values.items number each (AreDistinct-apart ns constants (increasing_apart constants constants_own.increasing)) r.values r.digits);
        none = no_model_next ns ids number r.none (sym truth ∙ no_model);
      } in
      subst (λ k. IsReached c k new) (sym after) one
