-- Sums of the differences of equations, each times a coefficient and a monomial.
use Rattle.std.proofs.Common.{◌≡◌, ℕ, suc, ◌+◌, ◌*◌, ◌%◌, ◌==◌, Bool, true, false, cond, List, [], ◌∷◌, ◌++◌, length, refl, sym, ap, ap₂, ◌∙◌, arith, append_assoc, mul_comm, zero-mul}
use Rattle.std.proofs.lemmas.Bool.{eqb-true}
use Rattle.std.proofs.lemmas.List.{get_or_at, length_push}
use Rattle.ffc_clause.specs.Clauses.{Literal, minus}
use Rattle.ffc_refutation.specs.Combinations.{sum_of}
use Rattle.ffc_ring.specs.Monomial.{Monomial, mono_mul}
use Rattle.ffc_ring.specs.Polynomial.{Terms, term_product, scaled}
use Rattle.ffc_ring.proofs.PolynomialLemmas.{weighted, weighted-append, weighted-term_product, sum_alike, times_alike}
use Rattle.ffc_term.specs.declared.node.Node.{Node}
use Rattle.ffc_term.specs.Nodes.{node_at}
use Rattle.ffc_trees.specs.FirstLines.{difference_of, first_line, first_lines_from}
use Rattle.ffc_trees.specs.Normal.{normal}
use Rattle.ffc_trees.proofs.NormalLemmas.{weighted-normal}
use Rattle.ffc_linear.specs.Refuting.{literals_of, summands_from}

-- the difference of the sides of the equality of this number
abbrev pub difference_at : ℕ → List Node → ℕ → Terms
difference_at p nodes id = difference_of p nodes (node_at nodes id)

-- the sum of the differences, each times its coefficient
abbrev pub plain_sum : ℕ → List Node → List ℕ → List ℕ → Terms
plain_sum p nodes [] cs = []
plain_sum p nodes (id ∷ ids) [] = []
plain_sum p nodes (id ∷ ids) (c ∷ cs) = scaled c (difference_at p nodes id) ++ plain_sum p nodes ids cs

-- the lines of the equations with a coefficient other than 0
abbrev pub lines_of : ℕ → List Node → List ℕ → List ℕ → List Terms
lines_of p nodes [] cs = []
lines_of p nodes (id ∷ ids) [] = []
lines_of p nodes (id ∷ ids) (c ∷ cs) = cond (c == 0) (lines_of p nodes ids cs) (normal p (difference_at p nodes id) ∷ lines_of p nodes ids cs)

-- the sum of those lines, each times its coefficient and the monomial
abbrev pub line_sum : ℕ → List Node → Monomial → List ℕ → List ℕ → Terms
line_sum p nodes m [] cs = []
line_sum p nodes m (id ∷ ids) [] = []
line_sum p nodes m (id ∷ ids) (c ∷ cs) =
    cond (c == 0) (line_sum p nodes m ids cs) (term_product c m (normal p (difference_at p nodes id)) ++ line_sum p nodes m ids cs)

module _ (p : ℕ) (nodes : List Node) where
  -- the first lines of a lemma that begins with those equations
  pub first_lines_are : (w : ℕ) (ids cs : List ℕ) (more : List Literal)
      → first_lines_from p nodes w (literals_of ids cs ++ more) ≡ lines_of p nodes ids cs ++ first_lines_from p nodes (w + length (literals_of ids cs)) more
  unfolding first_line
  first_lines_are w [] cs more = let e : w ≡ w + 0 = omega arith in ap (λ k. first_lines_from p nodes k more) e
  first_lines_are w (id ∷ ids) [] more = let e : w ≡ w + 0 = omega arith in ap (λ k. first_lines_from p nodes k more) e
  first_lines_are w (id ∷ ids) (c ∷ cs) more = by_case (c == 0) (first_lines_are w ids cs more) (first_lines_are (suc w) ids cs more)
    where
      by_case : (b : Bool)
          → first_lines_from p nodes w (literals_of ids cs ++ more) ≡ lines_of p nodes ids cs ++ first_lines_from p nodes (w + length (literals_of ids cs)) more
          → first_lines_from p nodes (suc w) (literals_of ids cs ++ more) ≡ lines_of p nodes ids cs ++ first_lines_from p nodes (suc w + length (literals_of ids cs)) more
          → first_lines_from p nodes w (cond b (literals_of ids cs) (minus id ∷ literals_of ids cs) ++ more)
          ≡ cond b (lines_of p nodes ids cs) (normal p (difference_at p nodes id) ∷ lines_of p nodes ids cs)
          ++ first_lines_from p nodes (w + length (cond b (literals_of ids cs) (minus id ∷ literals_of ids cs))) more
      by_case true one two = one
      by_case false one two =
          let e : suc w + length (literals_of ids cs) ≡ w + suc (length (literals_of ids cs)) = omega arith in
          ap (λ ls. normal p (difference_at p nodes id) ∷ ls) (two ∙ ap (λ k. lines_of p nodes ids cs ++ first_lines_from p nodes k more) e)

  pub length-lines_of : (ids cs : List ℕ) → length (lines_of p nodes ids cs) ≡ length (literals_of ids cs)
  length-lines_of [] cs = refl
  length-lines_of (id ∷ ids) [] = refl
  length-lines_of (id ∷ ids) (c ∷ cs) = by_case (c == 0) (length-lines_of ids cs)
    where
      by_case : (b : Bool) → length (lines_of p nodes ids cs) ≡ length (literals_of ids cs)
          → length (cond b (lines_of p nodes ids cs) (normal p (difference_at p nodes id) ∷ lines_of p nodes ids cs)) ≡ length (cond b (literals_of ids cs) (minus id ∷ literals_of ids cs))
      by_case true e = e
      by_case false e = ap suc e

  -- the summands of those lines
  pub sum_is : (m : Monomial) (front back : List Terms) (k : ℕ) (ids cs : List ℕ) → k ≡ length front → length cs ≡ length ids
      → sum_of (front ++ (lines_of p nodes ids cs ++ back)) (summands_from k m cs) ≡ line_sum p nodes m ids cs
  sum_is m front back k [] [] at long = refl
  sum_is m front back k [] (c ∷ cs) at long = absurd (omega arith)
  sum_is m front back k (id ∷ ids) [] at long = refl
  sum_is m front back k (id ∷ ids) (c ∷ cs) at long =
      by_case (c == 0) (sum_is m front back k ids cs at (omega arith))
      (sum_is m (front ++ normal p (difference_at p nodes id) ∷ []) back (k + 1) ids cs
      (let e : k + 1 ≡ length (front ++ normal p (difference_at p nodes id) ∷ []) = omega (arith, length_push front (normal p (difference_at p nodes id))) in e) (omega arith))
    where
      by_case : (b : Bool)
          → sum_of (front ++ (lines_of p nodes ids cs ++ back)) (summands_from k m cs) ≡ line_sum p nodes m ids cs
          → sum_of ((front ++ normal p (difference_at p nodes id) ∷ []) ++ (lines_of p nodes ids cs ++ back)) (summands_from (k + 1) m cs) ≡ line_sum p nodes m ids cs
          → sum_of (front ++ (cond b (lines_of p nodes ids cs) (normal p (difference_at p nodes id) ∷ lines_of p nodes ids cs) ++ back)) (cond b (summands_from k m cs) ((k, (c, m)) ∷ summands_from (k + 1) m cs))
          ≡ cond b (line_sum p nodes m ids cs) (term_product c m (normal p (difference_at p nodes id)) ++ line_sum p nodes m ids cs)
      by_case true one two = one
      by_case false one two =
          ap₂ (λ f s. term_product c m f ++ s)
          (get_or_at front (normal p (difference_at p nodes id)) (lines_of p nodes ids cs ++ back) [] k (sym at))
          (ap (λ ls. sum_of ls (summands_from (k + 1) m cs)) (sym (append_assoc front (normal p (difference_at p nodes id) ∷ []) (lines_of p nodes ids cs ++ back))) ∙ two)

  -- the lines are the differences, as polynomials
  pub weighted-line_sum : (g : Monomial → ℕ) (m : Monomial) (ids cs : List ℕ) → weighted g (line_sum p nodes m ids cs) % p ≡ weighted (λ n. g (mono_mul m n)) (plain_sum p nodes ids cs) % p
  weighted-line_sum g m [] cs = refl
  weighted-line_sum g m (id ∷ ids) [] = refl
  weighted-line_sum g m (id ∷ ids) (c ∷ cs) = by_case (c == 0) refl (weighted-line_sum g m ids cs)
    where
      plain : weighted (λ n. g (mono_mul m n)) (scaled c (difference_at p nodes id) ++ plain_sum p nodes ids cs) ≡ c * weighted (λ n. g (mono_mul m n)) (difference_at p nodes id) + weighted (λ n. g (mono_mul m n)) (plain_sum p nodes ids cs)
      plain =
          weighted-append (λ n. g (mono_mul m n)) (scaled c (difference_at p nodes id)) (plain_sum p nodes ids cs)
          ∙ ap (λ x. x + weighted (λ n. g (mono_mul m n)) (plain_sum p nodes ids cs)) (weighted-term_product (λ n. g (mono_mul m n)) c [] (difference_at p nodes id))

      by_case : (b : Bool) → (c == 0) ≡ b → weighted g (line_sum p nodes m ids cs) % p ≡ weighted (λ n. g (mono_mul m n)) (plain_sum p nodes ids cs) % p
          → weighted g (cond b (line_sum p nodes m ids cs) (term_product c m (normal p (difference_at p nodes id)) ++ line_sum p nodes m ids cs)) % p
          ≡ weighted (λ n. g (mono_mul m n)) (scaled c (difference_at p nodes id) ++ plain_sum p nodes ids cs) % p
      by_case true e rest =
          let none : c * weighted (λ n. g (mono_mul m n)) (difference_at p nodes id) ≡ 0 = ap (λ x. x * weighted (λ n. g (mono_mul m n)) (difference_at p nodes id)) (eqb-true c 0 e) ∙ zero-mul _ in
          rest ∙ ap (λ x. x % p) (let same : weighted (λ n. g (mono_mul m n)) (plain_sum p nodes ids cs) ≡ c * weighted (λ n. g (mono_mul m n)) (difference_at p nodes id) + weighted (λ n. g (mono_mul m n)) (plain_sum p nodes ids cs) = omega arith in same)
          ∙ sym (ap (λ x. x % p) plain)
      by_case false e rest =
          ap (λ x. x % p) (weighted-append g (term_product c m (normal p (difference_at p nodes id))) (line_sum p nodes m ids cs)
          ∙ ap (λ x. x + weighted g (line_sum p nodes m ids cs)) (weighted-term_product g c m (normal p (difference_at p nodes id))))
          ∙ sum_alike p (c * weighted (λ n. g (mono_mul m n)) (normal p (difference_at p nodes id))) (c * weighted (λ n. g (mono_mul m n)) (difference_at p nodes id)) (weighted g (line_sum p nodes m ids cs)) (weighted (λ n. g (mono_mul m n)) (plain_sum p nodes ids cs))
          (ap (λ x. x % p) (mul_comm c _) ∙ times_alike p (weighted (λ n. g (mono_mul m n)) (normal p (difference_at p nodes id))) (weighted (λ n. g (mono_mul m n)) (difference_at p nodes id)) c (weighted-normal p (λ n. g (mono_mul m n)) (difference_at p nodes id)) ∙ ap (λ x. x % p) (mul_comm _ c))
          rest
          ∙ sym (ap (λ x. x % p) plain)
