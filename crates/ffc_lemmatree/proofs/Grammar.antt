-- Trees that close are trees of the grammar.
use Rattle.std.proofs.Common.{◌≡◌, ℕ, Bool, true, false, List, [], ◌∷◌, ◌++◌, length, map, None, Some, refl, sym, ap, ◌∙◌, subst, arith}
use Rattle.std.specs.List.{AllByRecursion, range_with_len}
use Rattle.std.proofs.lemmas.Bool.{false≢true}
use Rattle.std.proofs.lemmas.List.{append-nil, length-map}
use Rattle.std.proofs.lemmas.List.FromFn.{length-range_with_len}
use Rattle.std.proofs.lemmas.List.Elements.{recursion_from_All}
use Rattle.ffc_cert.specs.declared.entries.CertLine.{CertLine}
use Rattle.ffc_cert.specs.declared.entries.CertLine.TheVariants.{Assume, Scheme, Hinted, Lemma, Combine, Bits, Chain, Step, Split, Values, Close}
use Rattle.ffc_cert.specs.Grammar.{IsTree, AreTrees, AreSteps}
use Rattle.ffc_cert.specs.Grammar.IsTree.{combine as combine_tree, with_bits as bits_tree, chain as chain_tree, split as split_tree, values as values_tree, close as close_tree}
use Rattle.ffc_cert.specs.Grammar.AreTrees.{no_trees, tree as first_tree}
use Rattle.ffc_cert.specs.Grammar.AreSteps.{no_steps, step}
use Rattle.ffc_cert.specs.Spelling.{is_clause}
use Rattle.ffc_cert.specs.WellFormed.{LineFitsVersion}
use Rattle.ffc_ring.specs.Polynomial.{Terms}
use Rattle.ffc_uni.specs.Univariate.{Coefficients, indeterminate}
use Rattle.ffc_uni.specs.Chains.{Pair, IsChainFrom, pairs_over, digits_of}
use Rattle.ffc_trees.specs.TreeLines.{Limits, case_lines, root_line}
use Rattle.ffc_trees.specs.Closing.{written_step, Closes, CloseAll}
use Rattle.ffc_trees.specs.Closing.Closes.{combine, bits, chain, split, values, close}
use Rattle.ffc_trees.specs.Closing.CloseAll.{no_cases, each}
use Rattle.ffc_trees.specs.Laws.{IsTakenOff}
use Rattle.ffc_trees.proofs.RuleLemmas.{chain_from, split_from, values_from}
use Rattle.ffc_trees.proofs.ReadLemmas.{closes-tree_read}
use Rattle.ffc_trees.proofs.TakenLemmas.{tree_taken}

-- ---- the form of a tree

pub steps_are : (steps : List Pair) (after : List CertLine) → AreSteps (length steps) (map written_step steps ++ after) after
steps_are [] after = no_steps
steps_are (s ∷ steps) after = step s.0 s.1 (steps_are steps after)

pub chain_is_long : (p : ℕ) (f r : Coefficients) (ds : List Bool) (steps : List Pair) → IsChainFrom p f r ds steps → length steps ≡ pairs_over ds
chain_is_long p f r [] [] is = refl
chain_is_long p f r [] (s ∷ steps) is = absurd is
chain_is_long p f r (d ∷ ds) [] is = absurd is
chain_is_long p f r (false ∷ ds) (s ∷ steps) is = omega (arith, chain_is_long p f s.1 ds steps is.1)
chain_is_long p f r (true ∷ ds) (s ∷ []) is = absurd is
chain_is_long p f r (true ∷ ds) (s ∷ t ∷ steps) is = omega (arith, chain_is_long p f t.1 ds steps is.2)

cases_are_many : (p : ℕ) (lines : List Terms) (x : ℕ) (zeros : List ℕ) → length (case_lines p lines x zeros) ≡ length zeros
cases_are_many p lines x zeros = length-map zeros (λ a. lines ++ root_line p x a ∷ [])

module _ (l : Limits) (p : ℕ) where
  mutual
    closed_is_tree : (lines : List Terms) (all rest : List CertLine) → Closes l p lines all rest → IsTree all rest
    closed_is_tree lines _ rest (combine {tree = later} multiples line h more) = combine_tree multiples (closed_is_tree (lines ++ line ∷ []) later rest more)
    closed_is_tree lines _ rest (bits {tree = later} sum chosen written numbers line h more) = bits_tree sum chosen written numbers (closed_is_tree (lines ++ line ∷ []) later rest more)
    closed_is_tree lines _ rest (chain {tree = later} {after = after} k x count f steps h whole more) =
        let long : length steps ≡ count = chain_is_long p f indeterminate (digits_of p) steps whole.chain ∙ sym (chain_from p lines k x count f h).long in
        chain_tree k x count (subst (λ n. AreSteps n later after) long (subst (λ ls. AreSteps (length steps) ls after) (sym whole.front) (steps_are steps after))) (closed_is_tree _ after rest more)
    closed_is_tree lines _ rest (split {tree = later} k x zeros cases h all) =
        let many : length cases ≡ length zeros = ap length (sym (split_from p lines k x zeros cases h).each) ∙ cases_are_many p lines x zeros in
        split_tree k x zeros (subst (λ n. AreTrees n later rest) many (all_are_trees cases later rest all))
    closed_is_tree lines _ rest (values {tree = later} x count cases h all) =
        let are = values_from p lines x count cases h in
        let many : length cases ≡ count = ap length (sym are.each) ∙ cases_are_many p lines x (range_with_len 0 p) ∙ length-range_with_len 0 p ∙ sym are.all in
        values_tree x count (subst (λ n. AreTrees n later rest) many (all_are_trees cases later rest all))
    closed_is_tree lines _ rest (close is) = close_tree

    all_are_trees : (cases : List (List Terms)) (all rest : List CertLine) → CloseAll l p cases all rest → AreTrees (length cases) all rest
    all_are_trees [] _ rest no_cases = no_trees
    all_are_trees (lines ∷ cases) all rest (each {after = after} first others) = first_tree (closed_is_tree lines all after first) (all_are_trees cases after rest others)

  pub tree_by_closing : (lines : List Terms) (all rest : List CertLine) → Closes l p lines all rest → IsTree all rest
  tree_by_closing lines all rest is = closed_is_tree lines all rest is
