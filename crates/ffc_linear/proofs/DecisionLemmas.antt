-- The steps that decide a linear check.
use Rattle.std.proofs.Common.{◌≡◌, ◌≢◌, ℕ, ◌+◌, ◌-◌, ◌*◌, ◌<◌, ◌≤◌, true, false, List, [], length, map, get_or, All, Result, Err, sym, ap, ◌∙◌, subst, arith, Contains}
use Rattle.std.specs.List.Sorted.{IsStrictlyIncreasing}
use Rattle.ffc_base.specs.declared.stop.Stop.{Stop}
use Rattle.ffc_base.specs.declared.stop.Stop.TheVariants.{Spent}
use Rattle.ffc_base.specs.Metering.{Spending, total}
use Rattle.ffc_bounds.specs.Conjunctions.{has_order, equations, disequations, field_constants}
use Rattle.ffc_bounds.specs.Linear.{is_linear_within, linear_units, equation_number, disequation_number}
use Rattle.ffc_cert.specs.declared.entries.CertLine.{CertLine}
use Rattle.ffc_clause.specs.Clauses.{Literal, minus, is_among}
use Rattle.ffc_conjunction.specs.declared.conjunction.Conjunction.{Conjunction}
use Rattle.ffc_conjunction.specs.Literals.{AreLiteralsOf, AreForced}
use Rattle.ffc_echelon.specs.Forms.{IsContradiction, IsCombination}
use Rattle.ffc_echelon.specs.Solving.{AreValues}
use Rattle.ffc_echelon.specs.Vectors.{Coordinates, AreCoordinates, IsBelow}
use Rattle.ffc_refutation.specs.Given.{AreReadable, AreRight}
use Rattle.ffc_rules.specs.Cones.{atoms}
use Rattle.ffc_rules.specs.Entries.{NodeCheck, limits}
use Rattle.ffc_rules.specs.Laws.{IsValid}
use Rattle.ffc_smt.proofs.SoundReading.{order_good}
use Rattle.ffc_smt.specs.Numbers.{is_order}
use Rattle.ffc_term.proofs.ValueLemmas.{IsOrder-positive}
use Rattle.ffc_term.specs.declared.node.Node.{Node}
use Rattle.ffc_trials.specs.Known.{AreModelValuesOf}
use Rattle.ffc_check.proofs.CaseLemmas.{within}
use Rattle.ffc_linear.specs.Affine.{IsAffineForm, AreAffineForms}
use Rattle.ffc_linear.specs.Decisions.{IsLinearSystem, HasCombined, Decides}
use Rattle.ffc_linear.specs.declared.deciding.LinearAnswer.TheVariants.{Refuted}
use Rattle.ffc_linear.specs.Forming.{IsAffineIn}
use Rattle.ffc_linear.specs.Refuting.{IsUsable, AreForcedForms}
use Rattle.ffc_linear.specs.Systems.{IsSystemOf, Solves}
use Rattle.ffc_linear.specs.Units.{TakesWithin}
use Rattle.ffc_linear.proofs.SystemLemmas.{each_equation, each_disequation, atom_usable, atom_in_constants, without_ite, affine_atoms, few_constants, few_literals, enough_units, enough_residues, constants_increase, length_forms, forms_below, form_at}

module _ (c : NodeCheck) (p : ℕ) (conjunction : Conjunction) (constants : List ℕ) (equal unequal : List Coordinates) (s : IsLinearSystem c p conjunction constants equal unequal) where
  pub known : AreForced c conjunction.reasons.items conjunction.equations.items conjunction.disequations.items
  known = s.literals.forced s.free

  pub forced_forms : AreForcedForms c p conjunction.reasons.items known.forced constants conjunction.equations.items equal
  forced_forms =
      let are = s.literals.equations_are in
      record {
        table = s.system.valid.table;
        order = s.system.order;
        few = s.few_constants;
        usable = subst (All (IsUsable c p)) (sym are) s.system.equal_usable;
        forms = subst (λ ids. AreAffineForms p c.nodes constants ids equal) (sym are) s.system.equal_forms;
        forces = known.forces;
        forced_are = known.equations_are;
      }

  pub equation_count : length conjunction.equations.items ≡ length equal
  equation_count = ap length s.literals.equations_are ∙ sym (length_forms p c.nodes constants (equations c.nodes c.in_force) equal s.system.equal_forms)

  pub few_equations : length conjunction.equations.items ≤ 4096
  few_equations = let few = s.few_forms in omega (arith, equation_count)

  pub equal_below : All (IsBelow (length constants + 1)) equal
  equal_below = forms_below p c.nodes constants (equations c.nodes c.in_force) equal s.system.equal_forms

  pub unequal_below : All (IsBelow (length constants + 1)) unequal
  unequal_below = forms_below p c.nodes constants (disequations c.nodes c.in_force) unequal s.system.unequal_forms

  -- a contradiction refutes
  pub contradiction_decides : (cs : List ℕ) (lines : List CertLine)
      → ((k : NodeCheck) (forced : List Literal) (names : List ℕ) (vectors : List Coordinates) → AreForcedForms k p conjunction.reasons.items forced names conjunction.equations.items vectors
      → IsContradiction p (length names) vectors cs → AreReadable lines × AreRight k lines)
      → IsContradiction p (length constants) equal cs → Decides c (Refuted lines)
  contradiction_decides cs lines refutes is units linear = let r = refutes c known.forced constants equal forced_forms is in (linear, r.0, r.1)

-- a disequation that is a combination of the equations refutes
module _ (c : NodeCheck) (p : ℕ) (conjunction : Conjunction) (place : ℕ) (cs : List ℕ) (h : HasCombined c p conjunction place cs) where
  linear_system : IsLinearSystem c p conjunction h.constants h.equal h.unequal
  linear_system = h.linear

  combination : IsCombination p h.equal h.combined.vector [] cs
  combination = h.combined.combination

  pub combined_coefficients : length cs ≡ length conjunction.equations.items
  combined_coefficients = combination.long ∙ sym (equation_count c p conjunction h.constants h.equal h.unequal linear_system)

  pub combined_equations : length conjunction.equations.items ≤ 4096
  combined_equations = few_equations c p conjunction h.constants h.equal h.unequal linear_system

  form_there : (d : ℕ) → (place < length (disequations c.nodes c.in_force)) × IsAffineForm p c.nodes h.constants (get_or (disequations c.nodes c.in_force) place d) h.combined.vector
  form_there d = form_at p c.nodes h.constants (disequations c.nodes c.in_force) h.unequal place d h.combined.vector linear_system.system.unequal_forms h.combined.at

  pub combined_inside : place < length conjunction.disequations.items
  combined_inside = subst (λ (ids : List ℕ). place < length ids) (sym linear_system.literals.disequations_are) (form_there 0).0

  pub combined_decides : (nodes d : ℕ) (lines : List CertLine) → nodes ≡ length c.nodes → d ≡ get_or conjunction.disequations.items place d
      → ((k : NodeCheck) (forced : List Literal) (names : List ℕ) (vectors : List Coordinates) (vector : Coordinates) → length k.nodes ≡ nodes
      → AreForcedForms k p conjunction.reasons.items forced names conjunction.equations.items vectors
      → IsUsable k p d → is_among forced (minus d) ≡ true → IsAffineForm p k.nodes names d vector → IsCombination p vectors vector [] cs → AreReadable lines × AreRight k lines)
      → Decides c (Refuted lines)
  combined_decides nodes d lines count is refutes units linear =
      let listed : d ≡ get_or (disequations c.nodes c.in_force) place d = is ∙ ap (λ ids. get_or ids place d) linear_system.literals.disequations_are in
      let forced = (known c p conjunction h.constants h.equal h.unequal linear_system) in
      let right = refutes c forced.forced h.constants h.equal h.combined.vector (sym count)
      (forced_forms c p conjunction h.constants h.equal h.unequal linear_system)
      (subst (IsUsable c p) (sym listed) (linear_system.system.unequal_usable place d (form_there d).0))
      (subst (λ id. is_among forced.forced (minus id) ≡ true) (sym is) (forced.disequations_are place d combined_inside))
      (subst (λ id. IsAffineForm p c.nodes h.constants id h.combined.vector) (sym listed) (form_there d).1)
      combination in
      (linear, right.0, right.1)

-- the answer of values
pub values_right : (c : NodeCheck) (p : ℕ) (conjunction : Conjunction) (constants : List ℕ) (equal unequal : List Coordinates) (values : List ℕ) (pairs : List (ℕ × ℕ)) → IsLinearSystem c p conjunction constants equal unequal
    → AreValues p (length constants) equal unequal values → map (λ (x : ℕ × ℕ). x.0) pairs ≡ constants
    → ((k : NodeCheck) (es us : List Coordinates) → IsSystemOf k p constants es us → Solves p es us values → AreModelValuesOf k pairs)
    → (map (λ (x : ℕ × ℕ). x.0) pairs ≡ field_constants c.nodes c.in_force) × AreModelValuesOf c pairs
values_right c p conjunction constants equal unequal values pairs linear are names model =
    (names ∙ linear.system.constants_are, model c equal unequal linear.system (record { zeros = are.zeros; apart = are.apart }))

-- A check that is linear within some units

module _ (c : NodeCheck) (p : ℕ) (conjunction : Conjunction) (constants : List ℕ) (units : ℕ) (valid : IsValid c) (field : has_order c.nodes c.in_force p ≡ true)
    (literals : AreLiteralsOf c conjunction) (named : constants ≡ field_constants c.nodes c.in_force) (linear : is_linear_within limits c units ≡ true) where
  pub constants_few : length constants ≤ 4096
  constants_few = subst (λ (ids : List ℕ). length ids ≤ 4096) (sym named) (few_constants c units linear)

  pub constants_in_order : IsStrictlyIncreasing constants
  constants_in_order = subst IsStrictlyIncreasing (sym named) (constants_increase c valid)

  affine_id : (id : ℕ) → Contains (atoms c.nodes c.in_force) id → IsAffineIn p c.nodes constants id
  affine_id id has =
      subst (λ ids. IsAffineIn p c.nodes ids id) (sym named)
      (atom_in_constants c p valid field (affine_atoms c units linear) (without_ite c units linear) id has)

  usable_id : (id : ℕ) → Contains (atoms c.nodes c.in_force) id → IsUsable c p id
  usable_id id has = atom_usable c p valid field (affine_atoms c units linear) id has

  pub equations_affine : All (IsAffineIn p c.nodes constants) conjunction.equations.items
  equations_affine = subst (All (IsAffineIn p c.nodes constants)) (sym literals.equations_are) (each_equation c.nodes c.in_force valid.table (within c valid) (IsAffineIn p c.nodes constants) affine_id)

  pub disequations_affine : All (IsAffineIn p c.nodes constants) conjunction.disequations.items
  disequations_affine = subst (All (IsAffineIn p c.nodes constants)) (sym literals.disequations_are) (each_disequation c.nodes c.in_force valid.table (within c valid) (IsAffineIn p c.nodes constants) affine_id)

  module _ (order : is_order p ≡ true) (free : conjunction.clashes ≡ false) (equal unequal : List Coordinates)
      (equal_forms : AreAffineForms p c.nodes constants conjunction.equations.items equal) (unequal_forms : AreAffineForms p c.nodes constants conjunction.disequations.items unequal) where
    equal_number : length equal ≡ equation_number c
    equal_number = length_forms p c.nodes constants conjunction.equations.items equal equal_forms ∙ ap length literals.equations_are

    unequal_number : length unequal ≡ disequation_number c
    unequal_number = length_forms p c.nodes constants conjunction.disequations.items unequal unequal_forms ∙ ap length literals.disequations_are

    pub is_system : All (AreCoordinates p) equal → All (AreCoordinates p) unequal → IsLinearSystem c p conjunction constants equal unequal
    is_system equal_valid unequal_valid = record {
      system = record {
        valid = valid;
        order = order;
        plain = literals.plain;
        field = field;
        constants_are = named;
        equal_usable = each_equation c.nodes c.in_force valid.table (within c valid) (IsUsable c p) usable_id;
        unequal_usable = each_disequation c.nodes c.in_force valid.table (within c valid) (IsUsable c p) usable_id;
        equal_forms = subst (λ ids. AreAffineForms p c.nodes constants ids equal) literals.equations_are equal_forms;
        unequal_forms = subst (λ ids. AreAffineForms p c.nodes constants ids unequal) literals.disequations_are unequal_forms;
        equal_valid = equal_valid;
        unequal_valid = unequal_valid;
      };
      literals = literals;
      free = free;
      few_constants = constants_few;
      few_forms = let few = few_literals c units linear in omega (arith, equal_number, unequal_number);
      enough_values =
          let less = enough_residues c p valid field units linear (IsOrder-positive p (order_good p order)) in
          omega (arith, unequal_number);
    }

    -- the units of the steps
    pub steps_within : (length equal + length unequal) * length constants + length constants * (length unequal + 1) ≤ units
    steps_within =
        let few = enough_units c units linear in
        let same : (length equal + length unequal) * length constants + length constants * (length unequal + 1) ≡ linear_units c =
        (λ i. (equal_number i + unequal_number i) * ap length named i + ap length named i * (unequal_number i + 1)) in
        subst (λ n. n ≤ units) (sym same) few

-- the forms of lists that are the same
pub forms_same : (p : ℕ) (ns : List Node) (constants ids names : List ℕ) (vs ws : List Coordinates) → ids ≡ names → ws ≡ vs → AreAffineForms p ns constants ids vs → AreAffineForms p ns constants names ws
forms_same p ns constants ids names vs ws one two are = subst (λ ws. AreAffineForms p ns constants names ws) (sym two) (subst (λ names. AreAffineForms p ns constants names vs) one are)

-- where a call is given enough units, it is stopped by memory alone
pub not_spent : {A : Type 0} (bound : ℕ) (result : Result A Stop) (stop : Stop) (old new : Spending) → TakesWithin bound Spent result old new → total old ≤ old.budget → bound ≤ old.budget - total old → result ≡ Err stop → stop ≢ Spent
not_spent bound result stop old new takes within enough is spent =
    let less : old.budget < total old + bound = takes.spent_only (is ∙ ap Err spent) in
    omega (arith, less)
