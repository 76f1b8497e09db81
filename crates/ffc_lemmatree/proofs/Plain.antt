-- The tree over roots has no lines of bits.
use Rattle.std.proofs.Common.{ℕ, ◌+◌, List, [], ◌∷◌, ◌++◌, map, length}
use Rattle.std.specs.List.{AllByRecursion}
use Rattle.ffc_cert.specs.declared.entries.CertLine.{CertLine}
use Rattle.ffc_cert.specs.WellFormed.{LineFitsVersion}
use Rattle.ffc_uni.specs.Chains.{Pair}
use Rattle.ffc_roots.specs.declared.found.Roots.{Roots}
use Rattle.ffc_trees.specs.Closing.{written_step}
use Rattle.ffc_lemmatree.specs.declared.cases.CaseNumbers.{CaseNumbers}
use Rattle.ffc_lemmatree.specs.declared.endings.EuclidStep.{EuclidStep}
use Rattle.ffc_lemmatree.specs.declared.endings.RootCase.{RootCase}
use Rattle.ffc_lemmatree.specs.declared.endings.Ending.{Ending}
use Rattle.ffc_lemmatree.specs.declared.endings.Ending.TheVariants as ending
use Rattle.ffc_lemmatree.specs.Written.{euclid_lines, all_case_lines, split_lines, ending_lines, last_divisor, case_numbers, single_tree}

abbrev pub ArePlain : List CertLine → Type 0
ArePlain lines = AllByRecursion (LineFitsVersion 2) lines

pub both_plain : (a b : List CertLine) → ArePlain a → ArePlain b → ArePlain (a ++ b)
both_plain [] b first other = other
both_plain (l ∷ a) b first other = (first.0, both_plain a b first.1 other)

euclid_plain : {F : Type 0} (x last next : ℕ) (steps : List (EuclidStep F)) → ArePlain (euclid_lines x last next steps)
euclid_plain x last next [] = tt
euclid_plain x last next (s ∷ steps) = (tt, euclid_plain x next (next + 1) steps)

steps_plain : (steps : List Pair) → ArePlain (map written_step steps)
steps_plain [] = tt
steps_plain (s ∷ steps) = (tt, steps_plain steps)

cases_plain : {F : Type 0} (p : ℕ) (n : CaseNumbers) (cases : List (RootCase F)) → ArePlain (all_case_lines p n cases)
cases_plain p n [] = tt
cases_plain p n (c ∷ cs) = (tt, (tt, cases_plain p n cs))

split_plain : {F : Type 0} (p : ℕ) (n : CaseNumbers) (roots : List ℕ) (cases : List (RootCase F)) → ArePlain (split_lines p n roots cases)
split_plain p n [] cases = (tt, tt)
split_plain p n (root ∷ roots) cases = (tt, cases_plain p n cases)

ending_plain : {F : Type 0} (p last next : ℕ) (n : CaseNumbers) (end : Ending F) → ArePlain (ending_lines p last next n end)
ending_plain p last next n ending.Constant = (tt, (tt, tt))
ending_plain p last next n (ending.Roots roots cases) =
    (tt, both_plain (map written_step roots.chain.steps) _ (steps_plain roots.chain.steps) (tt, split_plain p n roots.zeros cases.items))

pub single_plain : {F : Type 0} (p x nodes equations disequations start : ℕ) (steps : List (EuclidStep F)) (end : Ending F) → ArePlain (single_tree p x nodes equations disequations start steps end)
single_plain p x nodes equations disequations start steps end =
    both_plain (euclid_lines x start (equations + disequations) steps) _ (euclid_plain x start (equations + disequations) steps)
    (ending_plain p (last_divisor start (equations + disequations) (length steps)) (equations + disequations + length steps) (case_numbers x nodes equations (equations + disequations + length steps)) end)
