-- Steps of writing lines: what is left of the multiples, of the hints and of the lines.
use Rattle.std.proofs.Common.{◌≡◌, ℕ, ◌+◌, List, [], ◌∷◌, ◌++◌, length, map, reverse, All, Some, sym, ap, ◌∙◌, subst, append_assoc, arith}
use Rattle.std.specs.List.{range_with_len}
use Rattle.std.proofs.lemmas.List.{map-id, reverse-append}
use Rattle.std.proofs.lemmas.List.FromFn.{map-range_with_len_more}
use Rattle.std.proofs.lemmas.List.Elements.{All-cons}
use Rattle.ffc_cert.specs.declared.entries.CertLine.{CertLine}
use Rattle.ffc_cert.specs.declared.entries.CertLine.TheVariants.{Lemma}
use Rattle.ffc_clause.specs.Clauses.{Literal}
use Rattle.ffc_refutation.specs.declared.reason.Reason.{Reason}
use Rattle.ffc_refutation.specs.Forcing.{line_of}
use Rattle.ffc_refutation.specs.Combinations.{Summand}
use Rattle.ffc_refutation.specs.Written.{empty_by, multiple_of, sums_tree, combination_lines, IsNumbered}

-- what is popped comes next
pub popped : {A : Type 0} (xs ys : List A) (x : A) → xs ≡ ys ++ x ∷ [] → reverse xs ≡ x ∷ reverse ys
popped xs ys x e = ap reverse e ∙ reverse-append ys (x ∷ [])

pub numbered_popped : (xs ys : List Summand) (x : Summand) (whole : List Summand) → xs ≡ ys ++ x ∷ [] → IsNumbered x → (All IsNumbered (reverse xs) → All IsNumbered whole) → All IsNumbered (reverse ys) → All IsNumbered whole
numbered_popped xs ys x whole e one so_far rest = so_far (subst (All IsNumbered) (sym (popped xs ys x e)) (All-cons IsNumbered x (reverse ys) one rest))

-- one more number of a range
pub range_next : (n : ℕ) → range_with_len 0 (n + 1) ≡ range_with_len 0 n ++ n ∷ []
range_next n = sym (map-id (range_with_len 0 (n + 1))) ∙ map-range_with_len_more (λ k. k) 0 n n (omega arith) ∙ ap (λ xs. xs ++ n ∷ []) (map-id (range_with_len 0 n))

-- the lines of a lemma with its tree, between those of reasons and the empty clause
pub combination_written : (rs : List Reason) (order : ℕ) (lits : List Literal) (ss : List Summand) (front with_lemma with_tree all : List CertLine) (moved : List Literal) (last : CertLine) (first : ℕ)
    → front ≡ map line_of rs → moved ≡ lits → with_lemma ≡ front ++ Lemma (Some order) moved ∷ [] → first ≡ length lits → with_tree ≡ with_lemma ++ sums_tree first [] (map multiple_of ss)
    → last ≡ empty_by (length rs + 1) → all ≡ with_tree ++ last ∷ [] → all ≡ combination_lines rs order lits ss
combination_written rs order lits ss front with_lemma with_tree all moved last first ef em el en et eo ea =
    let tree : List CertLine = sums_tree (length lits) [] (map multiple_of ss) in
    let end : List CertLine = empty_by (length rs + 1) ∷ [] in
    let line : List CertLine = Lemma (Some order) lits ∷ [] in
    let lemma_is : with_lemma ≡ map line_of rs ++ line = el ∙ ap (λ ls. ls ++ Lemma (Some order) moved ∷ []) ef ∙ ap (λ ls. map line_of rs ++ Lemma (Some order) ls ∷ []) em in
    let tree_is : with_tree ≡ (map line_of rs ++ line) ++ tree = et ∙ ap (λ ls. ls ++ sums_tree first [] (map multiple_of ss)) lemma_is ∙ ap (λ n. (map line_of rs ++ line) ++ sums_tree n [] (map multiple_of ss)) en in
    ea ∙ ap (λ ls. ls ++ last ∷ []) tree_is ∙ ap (λ x. ((map line_of rs ++ line) ++ tree) ++ x ∷ []) eo
    ∙ append_assoc (map line_of rs ++ line) tree end ∙ append_assoc (map line_of rs) line (tree ++ end)
