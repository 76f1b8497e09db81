-- Steps of writing lines, and of Euclid's algorithm.
use Rattle.std.proofs.Common.{◌≡◌, ℕ, ◌+◌, List, [], ◌∷◌, ◌++◌, length, map, Some, sym, ap, ◌∙◌, append_assoc, arith}
use Rattle.std.specs.List.{range_with_len}
use Rattle.std.proofs.lemmas.List.{map-id}
use Rattle.std.proofs.lemmas.List.FromFn.{map-range_with_len_more}
use Rattle.ffc_cert.specs.declared.entries.CertLine.{CertLine}
use Rattle.ffc_cert.specs.declared.entries.CertLine.TheVariants.{Lemma}
use Rattle.ffc_clause.specs.Clauses.{Literal}
use Rattle.ffc_uni.specs.Univariate.{Coefficients}
use Rattle.ffc_refutation.specs.declared.reason.Reason.{Reason}
use Rattle.ffc_refutation.specs.Forcing.{line_of}
use Rattle.ffc_refutation.specs.Written.{empty_by}
use Rattle.ffc_lemmatree.specs.declared.endings.EuclidStep.{EuclidStep}
use Rattle.ffc_lemmatree.specs.Roots.{IsEuclidStep, LeadsTo}
use Rattle.ffc_lemmatree.specs.Roots.LeadsTo.{nothing, next}
use Rattle.ffc_lemmatree.specs.Written.{refutation_lines}

-- one more step at the end
pub leads_further : {F : Type 0} (p : ℕ) (polynomials : List Coefficients) {f last : Coefficients} {steps : List (EuclidStep F)} (step : EuclidStep F) (g : Coefficients)
    → LeadsTo p polynomials f steps last → IsEuclidStep p polynomials last step g → LeadsTo p polynomials f (steps ++ step ∷ []) g
leads_further p polynomials step g nothing is = next step g is nothing
leads_further p polynomials step g (next first h one later) is = next first h one (leads_further p polynomials step g later is)

-- one more number of a range
pub range_next : (n : ℕ) → range_with_len 0 (n + 1) ≡ range_with_len 0 n ++ n ∷ []
range_next n = sym (map-id (range_with_len 0 (n + 1))) ∙ map-range_with_len_more (λ k. k) 0 n n (omega arith) ∙ ap (λ xs. xs ++ n ∷ []) (map-id (range_with_len 0 n))

-- the lines of a lemma with its tree, between those of reasons and the empty clause
pub refutation_written : (rs : List Reason) (order : ℕ) (lits : List Literal) (tree front with_lemma with_tree all : List CertLine) (moved : List Literal) (last : CertLine)
    → front ≡ map line_of rs → moved ≡ lits → with_lemma ≡ front ++ Lemma (Some order) moved ∷ [] → with_tree ≡ with_lemma ++ tree
    → last ≡ empty_by (length rs + 1) → all ≡ with_tree ++ last ∷ [] → all ≡ refutation_lines rs order lits tree
refutation_written rs order lits tree front with_lemma with_tree all moved last ef em el et eo ea =
    let end : List CertLine = empty_by (length rs + 1) ∷ [] in
    let line : List CertLine = Lemma (Some order) lits ∷ [] in
    let lemma_is : with_lemma ≡ map line_of rs ++ line = el ∙ ap (λ ls. ls ++ Lemma (Some order) moved ∷ []) ef ∙ ap (λ ls. map line_of rs ++ Lemma (Some order) ls ∷ []) em in
    let tree_is : with_tree ≡ (map line_of rs ++ line) ++ tree = et ∙ ap (λ ls. ls ++ tree) lemma_is in
    ea ∙ ap (λ ls. ls ++ last ∷ []) tree_is ∙ ap (λ x. ((map line_of rs ++ line) ++ tree) ++ x ∷ []) eo
    ∙ append_assoc (map line_of rs ++ line) tree end ∙ append_assoc (map line_of rs) line (tree ++ end)
