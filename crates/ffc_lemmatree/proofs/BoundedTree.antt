-- The tree over roots is in range, and its text is short.
use Rattle.std.proofs.Common.{◌≡◌, ℕ, ◌+◌, ◌-◌, ◌*◌, ◌^◌, ◌<◌, ◌≤◌, List, [], ◌∷◌, ◌++◌, length, map, Some, sym, subst, arith, slice_get}
use Rattle.std.specs.List.{AllByRecursion}
use Rattle.std.proofs.lemmas.List.Elements.{recursion_from_All}
use Rattle.ffc_cert.specs.declared.entries.CertLine.{CertLine}
use Rattle.ffc_cert.specs.declared.entries.CertLine.TheVariants.{Combine, Chain, Split, Close}
use Rattle.ffc_cert.specs.Ranges.{IsNarrow}
use Rattle.ffc_ring.specs.Polynomial.{Terms}
use Rattle.ffc_uni.specs.Univariate.{Coefficients, IsNormal, indeterminate}
use Rattle.ffc_uni.specs.Chains.{Pair, AreLower, digits_of, pair_count}
use Rattle.ffc_uni.proofs.DigitLemmas.{few_pairs}
use Rattle.ffc_roots.specs.declared.found.Roots.{Roots}
use Rattle.ffc_trees.specs.Closing.{written_step}
use Rattle.ffc_lemmatree.specs.declared.cases.CaseNumbers.{CaseNumbers}
use Rattle.ffc_lemmatree.specs.declared.endings.EuclidStep.{EuclidStep}
use Rattle.ffc_lemmatree.specs.declared.endings.RootCase.{RootCase}
use Rattle.ffc_lemmatree.specs.Roots.{LeadsTo, IsCase, AreCases, AreRefutedRoots}
use Rattle.ffc_lemmatree.specs.Roots.LeadsTo.{nothing, next as next_step}
use Rattle.ffc_lemmatree.specs.Written.{written_in, appended, sum_line, euclid_lines, root_case_lines, all_case_lines, split_lines, roots_lines, constant_lines, IsNormalStep, IsNormalPair, IsNormalCase, AreNormalRoots}
use Rattle.ffc_lemmatree.proofs.Grammar.{chain_is_long}
use Rattle.ffc_lemmatree.proofs.Lines.{IsAt}
use Rattle.ffc_lemmatree.proofs.Closing.{IsUnequal}
use Rattle.ffc_lemmatree.proofs.Texts.{polynomial_bounded, inverse_bounded, constant_bounded, IsBounded, two_bounded, one_bounded, close_bounded, chain_bounded, step_bounded, split_bounded, AreBounded, no_lines_bounded, first_bounded, both_bounded, more_bounded}

module _ (p x : ℕ) (wide : p ≤ 2 ^ 64) (narrow : IsNarrow x) where
  sum_bounded : (j k : ℕ) (a b : Coefficients) → IsNarrow j → IsNarrow k → IsNormal p a → IsNormal p b → length a ≤ 256 → length b ≤ 256 → IsBounded 38969 (sum_line x j a k b)
  sum_bounded j k a b one two normal_a normal_b short_a short_b =
      two_bounded 19478 19478 (j, written_in x a) (k, written_in x b) (polynomial_bounded p x j a wide narrow one normal_a short_a) (polynomial_bounded p x k b wide narrow two normal_b short_b)

  -- ---- the steps of Euclid's algorithm

  module _ (first : List Terms) (few : length first ≤ 8192) (polynomials : List Coefficients) (equal : (k : ℕ) (f : Coefficients) → slice_get polynomials k ≡ Some f → IsAt p x first f k) where
    pub euclid_bounded : {F : Type 0} {f g : Coefficients} {steps : List (EuclidStep F)} (last next : ℕ) → LeadsTo p polynomials f steps g → AllByRecursion (IsNormalStep p) steps → IsNarrow last → next + length steps < 2 ^ 32 → AreBounded (38969 * length steps) (euclid_lines x last next steps)
    euclid_bounded last next nothing normal narrow_last low = no_lines_bounded
    euclid_bounded last next (next_step {steps = steps} step g is leads) normal narrow_last low =
        let there : step.equation < length first = (equal step.equation is.polynomial is.at).there in
        more_bounded (38969 + 38969 * length steps) (38969 * length (step ∷ steps)) (sum_line x last step.a step.equation step.b ∷ euclid_lines x next (next + 1) steps) (omega arith)
        (first_bounded 38969 (38969 * length steps) (sum_line x last step.a step.equation step.b) (euclid_lines x next (next + 1) steps)
        (sum_bounded last step.equation step.a step.b narrow_last (omega arith) normal.0.0 normal.0.1 is.low_a is.low_b)
        (euclid_bounded next (next + 1) leads normal.1 (omega arith) (omega arith)))

  -- ---- a constant divisor

  pub constant_lines_bounded : (last : ℕ) → IsNarrow last → AreBounded 50000 (constant_lines last)
  constant_lines_bounded last narrow_last =
      more_bounded (13 + 98 + (2 + 0)) 50000 (constant_lines last) (omega arith)
      (first_bounded (13 + 98) (2 + 0) (Combine ((last, (1, []) ∷ []) ∷ [])) (Close ∷ []) (one_bounded 98 (last, (1, []) ∷ []) (constant_bounded last 1 narrow_last (omega arith))) (first_bounded 2 0 Close [] close_bounded no_lines_bounded))

  -- ---- the roots of a divisor

  steps_are_bounded : (f : Coefficients) (steps : List Pair) → length f ≤ 256 → AreLower f steps → AllByRecursion (IsNormalPair p) steps → AreBounded (10800 * length steps) (map written_step steps)
  steps_are_bounded f [] short lower normal = no_lines_bounded
  steps_are_bounded f (s ∷ steps) short lower normal =
      let low_remainder = lower.0 in
      let low_quotient = lower.1 in
      more_bounded (10800 + 10800 * length steps) (10800 * length (s ∷ steps)) (written_step s ∷ map written_step steps) (omega arith)
      (first_bounded 10800 (10800 * length steps) (written_step s) (map written_step steps) (step_bounded p s wide normal.0 (omega arith) (omega arith)) (steps_are_bounded f steps short lower.2 normal.1))

  module _ (first : List Terms) (few : length first ≤ 8192) (others : List Coefficients) (n : CaseNumbers) (same_variable : n.variable ≡ x) (above : x < n.first_inverse) (low_inverse : n.first_inverse ≤ 1048576 + n.first_line) (low_root : IsNarrow n.root_line) (some : 0 < p)
      (unequal : (k : ℕ) (h : Coefficients) → slice_get others k ≡ Some h → IsUnequal p x first h (n.first_line + k) (n.first_inverse + k)) where
    case_bounded : {F : Type 0} (root : ℕ) (case : RootCase F) → IsCase p others root case → IsNormalCase p case → AreBounded 19600 (root_case_lines p n case)
    case_bounded root case is normal =
        let w : ℕ = n.first_inverse + case.disequation in
        let other : ℕ = n.first_line + case.disequation in
        let there : other < length first = (unequal case.disequation is.polynomial is.at).there in
        subst (λ y. AreBounded 19600 (Combine ((n.root_line, appended ((w, 1) ∷ []) (written_in y case.quotient)) ∷ (other, (p - 1, []) ∷ []) ∷ []) ∷ Close ∷ [])) (sym same_variable)
        (more_bounded (13 + 19478 + 98 + (2 + 0)) 19600 (Combine ((n.root_line, appended ((w, 1) ∷ []) (written_in x case.quotient)) ∷ (other, (p - 1, []) ∷ []) ∷ []) ∷ Close ∷ []) (omega arith)
        (first_bounded (13 + 19478 + 98) (2 + 0) (Combine ((n.root_line, appended ((w, 1) ∷ []) (written_in x case.quotient)) ∷ (other, (p - 1, []) ∷ []) ∷ [])) (Close ∷ [])
        (two_bounded 19478 98 (n.root_line, appended ((w, 1) ∷ []) (written_in x case.quotient)) (other, (p - 1, []) ∷ []) (inverse_bounded p x w n.root_line case.quotient wide (omega arith) (omega arith) low_root normal is.low) (constant_bounded other (p - 1) (omega arith) (omega arith)))
        (first_bounded 2 0 Close [] close_bounded no_lines_bounded)))

    cases_bounded : {F : Type 0} (roots : List ℕ) (cases : List (RootCase F)) → AreCases p others roots cases → AllByRecursion (IsNormalCase p) cases → AreBounded (19600 * length roots) (all_case_lines p n cases)
    cases_bounded [] [] are normal = no_lines_bounded
    cases_bounded [] (c ∷ cs) are normal = absurd are
    cases_bounded (z ∷ zs) [] are normal = absurd are
    cases_bounded (z ∷ zs) (c ∷ cs) are normal =
        more_bounded (19600 + 19600 * length zs) (19600 * length (z ∷ zs)) (root_case_lines p n c ++ all_case_lines p n cs) (omega arith)
        (both_bounded 19600 (19600 * length zs) (root_case_lines p n c) (all_case_lines p n cs) (case_bounded z c are.0 normal.0) (cases_bounded zs cs are.1 normal.1))

    split_lines_bounded : {F : Type 0} (roots : List ℕ) (cases : List (RootCase F)) → length roots ≤ 255 → AllByRecursion (λ z. z < p) roots → AreCases p others roots cases → AllByRecursion (IsNormalCase p) cases → AreBounded 5003500 (split_lines p n roots cases)
    split_lines_bounded [] cases low below are normal = more_bounded (2 + 0) 5003500 (Close ∷ []) (omega arith) (first_bounded 2 0 Close [] close_bounded no_lines_bounded)
    split_lines_bounded (z ∷ zs) cases low below are normal =
        let roots : List ℕ = z ∷ zs in
        more_bounded (5500 + 19600 * length roots) 5003500 (Split (n.root_line - 1) n.variable roots ∷ all_case_lines p n cases) (omega arith)
        (first_bounded 5500 (19600 * length roots) (Split (n.root_line - 1) n.variable roots) (all_case_lines p n cases)
        (split_bounded p (n.root_line - 1) n.variable roots wide (omega arith) (subst IsNarrow (sym same_variable) narrow) below (omega arith))
        (cases_bounded roots cases are normal))

    pub roots_lines_bounded : {F : Type 0} (g : Coefficients) (last next : ℕ) (roots : Roots F) (cases : List (RootCase F)) → length g ≤ 256 → IsNarrow last → IsNarrow next → AreRefutedRoots p others g roots cases → AreNormalRoots p roots cases
        → AreBounded 6500000 (roots_lines p last next n roots cases)
    roots_lines_bounded g last next roots cases low narrow_last narrow_next are normal =
        let steps : List Pair = roots.chain.steps in
        let count : length steps ≡ pair_count p = chain_is_long p g indeterminate (digits_of p) steps are.chain in
        let few_steps = few_pairs p in
        let few_roots = are.few in
        let short = are.short in
        let short_a = short.0 in
        let short_b = short.1 in
        let product : CertLine = sum_line n.variable last roots.a next roots.b in
        let product_bounded : IsBounded 38969 product = subst (λ y. IsBounded 38969 (sum_line y last roots.a next roots.b)) (sym same_variable) (sum_bounded last next roots.a roots.b narrow_last narrow_next normal.a normal.b (omega arith) (omega arith)) in
        let ends : AreBounded 5003500 (split_lines p n roots.zeros cases) =
        split_lines_bounded roots.zeros cases (omega arith) (recursion_from_All (λ z. z < p) roots.zeros normal.residues) are.each (recursion_from_All (IsNormalCase p) cases normal.quotients) in
        more_bounded (35 + (10800 * length steps + (38969 + 5003500))) 6500000 (roots_lines p last next n roots cases) (omega arith)
        (first_bounded 35 (10800 * length steps + (38969 + 5003500)) (Chain last n.variable (length steps)) (map written_step steps ++ (product ∷ split_lines p n roots.zeros cases))
        (chain_bounded last n.variable (length steps) narrow_last (subst IsNarrow (sym same_variable) narrow) (omega arith))
        (both_bounded (10800 * length steps) (38969 + 5003500) (map written_step steps) (product ∷ split_lines p n roots.zeros cases)
        (steps_are_bounded g steps low are.lower (recursion_from_All (IsNormalPair p) steps normal.steps))
        (first_bounded 38969 5003500 product (split_lines p n roots.zeros cases) product_bounded ends)))
