-- Refutations of flat checks in one constant by a common divisor of the equations.
use Rattle.std.proofs.Common.{◌≡◌, ℕ, ◌+◌, ◌<◌, ◌≤◌, true, List, [], ◌++◌, length, map, All, Contains, refl, sym, subst, arith}
use Rattle.std.proofs.lemmas.List.Elements.{All-nil, All-append, All-map, All-weaker}
use Rattle.std.proofs.lemmas.Option.{get_or_from_slice_get, slice_get_within}
use Rattle.ffc_bounds.specs.Conjunctions.{field_constants, is_field_constant}
use Rattle.ffc_check.proofs.CaseLemmas.{within}
use Rattle.ffc_clause.specs.Clauses.{Literal, plus, minus, negated, is_among}
use Rattle.ffc_conjunction.specs.declared.conjunction.Conjunction.{Conjunction}
use Rattle.ffc_conjunction.specs.Literals.{AreForced}
use Rattle.ffc_lemmatree.specs.declared.endings.Ending.{Ending}
use Rattle.ffc_lemmatree.specs.declared.endings.Ending.TheVariants as ending
use Rattle.ffc_lemmatree.specs.declared.endings.EuclidStep.{EuclidStep}
use Rattle.ffc_lemmatree.specs.Roots.{EndsIn, IsRefutedByRoots, ArePolynomialsOf}
use Rattle.ffc_refutation.specs.Combinations.{IsFalseLemma}
use Rattle.ffc_refutation.specs.declared.reason.Reason.{Reason}
use Rattle.ffc_roots.specs.declared.found.Roots.{Roots}
use Rattle.ffc_rules.proofs.ConeLemmas.{cone_nodes}
use Rattle.ffc_rules.specs.Cones.{cone}
use Rattle.ffc_rules.specs.Entries.{NodeCheck, limits, is_equality_at, is_within}
use Rattle.ffc_term.proofs.ListLemmas.{Contains-from_filter}
use Rattle.ffc_term.proofs.WalkLemmas.{IsNodeOf-within}
use Rattle.ffc_term.specs.Nodes.{node_at}
use Rattle.ffc_uni.specs.Univariate.{Coefficients}
use Rattle.ffc_single.specs.declared.divisor.Divisor.{Divisor}
use Rattle.ffc_single.specs.declared.trials.Cases.{Cases as FoundCases}
use Rattle.ffc_single.specs.Decisions.{IsFlatInOne, HasDivisor, HasRoots}
use Rattle.ffc_single.specs.Outcomes.{AreCasesAt}
use Rattle.ffc_single.proofs.CaseLemmas.{polynomials_of, picked_polynomials, picked_all}
use Rattle.ffc_single.proofs.CommonRootLemmas.{forms_within}
use Rattle.ffc_single.proofs.FlatLemmas.{equations_in, disequations_in, equations_usable, disequations_usable, is_known_order}

module _ {F : Type 0} (c : NodeCheck) (p x : ℕ) (conjunction : Conjunction) (divisor : Divisor F) (has : HasDivisor c p x conjunction divisor) where
  flat : IsFlatInOne c p x conjunction
  flat = has.flat

  pub known : AreForced c conjunction.reasons.items conjunction.equations.items conjunction.disequations.items
  known = flat.literals.forced flat.free

  abbrev pub IsUsable : ℕ → Type 0
  IsUsable id = (is_equality_at c.nodes p id ≡ true) × (is_within limits c.nodes id ≡ true)

  -- the lemma of the equations, and of some of the disequations
  false_lemma : (picked : List ℕ) → All IsUsable picked → All (λ id. is_among known.forced (minus id) ≡ true) picked
      → IsFalseLemma c p known.forced (map minus conjunction.equations.items ++ map plus picked)
  false_lemma picked usable are_forced =
      let ids = conjunction.equations.items in
      let both : (P : Literal → Type 0) → All (λ id. P (minus id)) ids → All (λ id. P (plus id)) picked → All P (map minus ids ++ map plus picked) =
      λ P one two. All-append P (map minus ids) (map plus picked) (All-map P minus ids one) (All-map P plus picked two) in
      let equal_usable = equations_usable c p x conjunction flat in
      record {
        order = is_known_order c p x conjunction flat;
        equalities = both (λ l. is_equality_at c.nodes p l.1 ≡ true)
            (All-weaker IsUsable (λ id. is_equality_at c.nodes p id ≡ true) (λ id is. is.0) ids equal_usable)
            (All-weaker IsUsable (λ id. is_equality_at c.nodes p id ≡ true) (λ id is. is.0) picked usable);
        within = both (λ l. is_within limits c.nodes l.1 ≡ true)
            (All-weaker IsUsable (λ id. is_within limits c.nodes id ≡ true) (λ id is. is.1) ids equal_usable)
            (All-weaker IsUsable (λ id. is_within limits c.nodes id ≡ true) (λ id is. is.1) picked usable);
        false_of = both (λ l. is_among known.forced (negated l) ≡ true) known.equations_are are_forced;
      }

  -- the constant is a node
  constant_there : x < length c.nodes
  constant_there =
      let listed : Contains (field_constants c.nodes c.in_force) x = subst (λ ids. Contains ids x) (sym flat.constant) (0, omega arith, refl) in
      let in_cone = (Contains-from_filter (λ id. is_field_constant (node_at c.nodes id)) (cone c.nodes c.in_force) x listed).0 in
      IsNodeOf-within c.nodes c.in_force x flat.valid.table (within c flat.valid) (((cone_nodes c.nodes c.in_force flat.valid.table (within c flat.valid)).each x).0 in_cone)

  equal_low : All (λ f. length f ≤ 256) has.equal
  equal_low = forms_within p c.nodes x conjunction.equations.items has.equal has.forms (equations_in c p x conjunction flat)

  pub divisor_short : length divisor.steps.items + length divisor.value ≤ 256
  divisor_short =
      let first_low : length has.is.first ≤ 256 =
      subst (λ (g : Coefficients). length g ≤ 256) (get_or_from_slice_get has.equal divisor.start has.is.first has.is.first has.is.at)
      (equal_low divisor.start has.is.first (slice_get_within has.equal divisor.start has.is.first has.is.at)) in
      let short = has.is.short in
      omega arith

  -- what refutes
  pub refuted_by : (nodes : ℕ) (picked : List ℕ) (others : List Coefficients) (end : Ending F) → nodes ≡ length c.nodes → All IsUsable picked → All (λ id. is_among known.forced (minus id) ≡ true) picked
      → ArePolynomialsOf c.nodes p x picked others → EndsIn p others divisor.value end
      → IsRefutedByRoots c p conjunction.reasons.items nodes x conjunction.equations.items picked divisor.start divisor.steps.items end
  refuted_by nodes picked others end size usable are_forced are ends = record {
    size = size;
    few_nodes = let few = flat.valid.table.well_formed.within in omega (arith, size);
    there = let inside = constant_there in omega (arith, size);
    forced = known.forced;
    forces = known.forces;
    lemma = false_lemma picked usable are_forced;
    polynomials = has.equal;
    equations_are = polynomials_of p c.nodes x conjunction.equations.items has.equal has.forms equal_low;
    others = others;
    disequations_are = are;
    first = has.is.first;
    first_at = has.is.at;
    few_steps = let short = divisor_short in omega arith;
    divisor = divisor.value;
    euclid = has.is.leads;
    end_is = ends;
  }

  -- a constant
  pub refuted_by_constant : (nodes : ℕ) (picked : List ℕ) → nodes ≡ length c.nodes → picked ≡ [] → length divisor.value ≡ 1
      → IsRefutedByRoots c p conjunction.reasons.items nodes x conjunction.equations.items picked divisor.start divisor.steps.items ending.Constant
  refuted_by_constant nodes picked size none constant =
      subst (λ ds. IsRefutedByRoots c p conjunction.reasons.items nodes x conjunction.equations.items ds divisor.start divisor.steps.items ending.Constant) (sym none)
      (refuted_by nodes [] [] ending.Constant size (All-nil IsUsable) (All-nil (λ id. is_among known.forced (minus id) ≡ true)) tt (has.is.normal, constant))

  -- roots at each of which a disequation is false
  pub refuted_by_roots : (nodes : ℕ) (roots : Roots F) (unequal : List Coefficients) (found : FoundCases F) → nodes ≡ length c.nodes → HasRoots c p x conjunction divisor roots unequal
      → AreCasesAt p roots.zeros conjunction.disequations.items unequal found
      → IsRefutedByRoots c p conjunction.reasons.items nodes x conjunction.equations.items found.disequations.items divisor.start divisor.steps.items (ending.Roots roots found.cases)
  refuted_by_roots nodes roots unequal found size are cases =
      let ids = conjunction.disequations.items in
      let unequal_low = forms_within p c.nodes x ids unequal are.forms (disequations_in c p x conjunction flat) in
      refuted_by nodes found.disequations.items cases.others (ending.Roots roots found.cases) size
      (picked_all ids unequal IsUsable found.disequations.items cases.others (disequations_usable c p x conjunction flat) cases.picked)
      (picked_all ids unequal (λ id. is_among known.forced (minus id) ≡ true) found.disequations.items cases.others known.disequations_are cases.picked)
      (picked_polynomials p c.nodes x ids unequal found.disequations.items cases.others are.forms unequal_low cases.picked)
      (record {
        some = are.some;
        chain = are.found.chain;
        lower = are.found.lower;
        identity = are.found.identity;
        short = are.found.short;
        few = are.found.few;
        each = cases.cases;
      })

  pub few_zeros : (roots : Roots F) (unequal : List Coefficients) → HasRoots c p x conjunction divisor roots unequal → length roots.zeros ≤ 255
  few_zeros roots unequal are = let few = are.found.few in let short = divisor_short in omega arith

-- the same of lists with these values
pub refuted_as : {F : Type 0} (c : NodeCheck) (p : ℕ) (reasons rs : List Reason) (nodes x : ℕ) (equations ids picked ds : List ℕ) (start : ℕ) (steps ss : List (EuclidStep F)) (end : Ending F)
    → rs ≡ reasons → ids ≡ equations → ds ≡ picked → ss ≡ steps → IsRefutedByRoots c p reasons nodes x equations picked start steps end → IsRefutedByRoots c p rs nodes x ids ds start ss end
refuted_as c p reasons rs nodes x equations ids picked ds start steps ss end one two three four is =
    subst (λ a. IsRefutedByRoots c p a nodes x ids ds start ss end) (sym one)
    (subst (λ a. IsRefutedByRoots c p reasons nodes x a ds start ss end) (sym two)
    (subst (λ a. IsRefutedByRoots c p reasons nodes x equations a start ss end) (sym three)
    (subst (λ a. IsRefutedByRoots c p reasons nodes x equations picked start a end) (sym four) is)))
