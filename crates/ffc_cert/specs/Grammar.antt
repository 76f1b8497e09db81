-- The order of the lines of a refutation. `IsTree lines rest` says that a tree is at the front of the lines, and
-- the rest after it. A tree is lines `Combine`, lines `Bits` and lines `Chain`, each of these last with its lines `Step`, and
-- then one line that ends it: `Close`, or `Split` or `Values` with a tree for each case.
use Rattle.std.specs.Prelude.{ℕ, zero, suc, Bool, Option, List, [], ◌∷◌, length}
use Rattle.ffc_cert.specs.declared.entries.CertLine.{CertLine}
use Rattle.ffc_cert.specs.declared.entries.CertLine.TheVariants.{Assume, Scheme, Hinted, Lemma, Combine, Bits, Chain, Step, Split, Values, Close}

-- so many steps of a chain, and the rest
pub data AreSteps : ℕ → List CertLine → List CertLine → Type 0 where
  no_steps : {rest : List CertLine} → AreSteps zero rest rest
  step : {n : ℕ} {lines rest : List CertLine} (quotient remainder : List ℕ) → AreSteps n lines rest → AreSteps (suc n) (Step quotient remainder ∷ lines) rest

mutual
  -- a tree, and the rest
  pub data IsTree : List CertLine → List CertLine → Type 0 where
    combine : {lines rest : List CertLine} (multiples : List (ℕ × List (ℕ × List (ℕ × ℕ)))) → IsTree lines rest → IsTree (Combine multiples ∷ lines) rest
    with_bits : {lines rest : List CertLine} (line : ℕ) (chosen : List ℕ) (polynomial : List (ℕ × List (ℕ × ℕ))) (bits : List ℕ) → IsTree lines rest → IsTree (Bits line chosen polynomial bits ∷ lines) rest
    chain : {lines behind rest : List CertLine} (line variable steps : ℕ) → AreSteps steps lines behind → IsTree behind rest → IsTree (Chain line variable steps ∷ lines) rest
    split : {lines rest : List CertLine} (line variable : ℕ) (zeros : List ℕ) → AreTrees (length zeros) lines rest → IsTree (Split line variable zeros ∷ lines) rest
    values : {lines rest : List CertLine} (variable trees : ℕ) → AreTrees trees lines rest → IsTree (Values variable trees ∷ lines) rest
    close : {rest : List CertLine} → IsTree (Close ∷ rest) rest

  -- so many trees, and the rest
  pub data AreTrees : ℕ → List CertLine → List CertLine → Type 0 where
    no_trees : {rest : List CertLine} → AreTrees zero rest rest
    tree : {n : ℕ} {lines behind rest : List CertLine} → IsTree lines behind → AreTrees n behind rest → AreTrees (suc n) lines rest

-- clauses, each lemma with its tree
pub data AreClauses : List CertLine → Type 0 where
  no_clauses : AreClauses []
  assume : {lines : List CertLine} (k : ℕ) → AreClauses lines → AreClauses (Assume k ∷ lines)
  scheme : {lines : List CertLine} (node scheme index : ℕ) → AreClauses lines → AreClauses (Scheme node scheme index ∷ lines)
  hinted : {lines : List CertLine} (lits : List (Bool × ℕ)) (hints : List ℕ) → AreClauses lines → AreClauses (Hinted lits hints ∷ lines)
  lemma : {lines rest : List CertLine} (order : Option ℕ) (lits : List (Bool × ℕ)) → IsTree lines rest → AreClauses rest → AreClauses (Lemma order lits ∷ lines)
