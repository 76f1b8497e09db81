-- Which trees refute: the identities of the Nullstellensatz with cases. `Closes l p lines tree rest` says that a tree is at
-- the front of `tree`, with `rest` after it, that each of its lines keeps its rule from the lines before it in its branch,
-- and that each branch ends with a constant other than 0.
use Rattle.std.specs.Prelude.{◌≡◌, ℕ, ◌<◌, ◌≤◌, All, true, List, [], ◌∷◌, ◌++◌, length, map, Ok}
use Rattle.ffc_cert.specs.declared.entries.CertLine.{CertLine}
use Rattle.ffc_cert.specs.declared.entries.CertLine.TheVariants.{Combine, Bits, Chain, Step, Split, Values, Close}
use Rattle.ffc_ring.specs.Polynomial.{Terms}
use Rattle.ffc_uni.specs.Univariate.{Coefficients, indeterminate}
use Rattle.ffc_uni.specs.Chains.{Pair, IsChain, last_remainder}
use Rattle.ffc_trees.specs.TreeLines.{Limits, Multiple, combine_line, chain_line, fermat_line, split_line, values_line, closes}
use Rattle.ffc_trees.specs.BitLines.{bits_line}

-- a step as it is written
abbrev pub written_step : Pair → CertLine
written_step s = Step s.0 s.1

-- quotients and remainders are written within the limit, and with residues
abbrev pub AreWritten : Limits → ℕ → List Pair → Type 0
AreWritten l p [] = Unit {0}
AreWritten l p (s ∷ steps) = (length s.0 ≤ l.coefficients) × (length s.1 ≤ l.coefficients) × All (λ c. c < p) s.0 × All (λ c. c < p) s.1 × AreWritten l p steps

-- The steps are those of x^p modulo f, as they are written in front of the other lines.
pub record IsChainIn (l : Limits) (p : ℕ) (f : Coefficients) (steps : List Pair) (lines after : List CertLine) : Type 0 where
  pub chain : IsChain p f steps
  pub written : AreWritten l p steps
  pub front : lines ≡ map written_step steps ++ after

mutual
  pub data Closes (l : Limits) (p : ℕ) : List Terms → List CertLine → List CertLine → Type 0 where
    -- a sum of multiples is one more line
    combine : {lines : List Terms} {tree rest : List CertLine} (multiples : List Multiple) (line : Terms) → combine_line l p lines multiples ≡ Ok line → Closes l p (lines ++ line ∷ []) tree rest → Closes l p lines (Combine multiples ∷ tree) rest
    -- a polynomial that is 0 where a sum of bits is, is one more line
    bits : {lines : List Terms} {tree rest : List CertLine} (sum : ℕ) (chosen : List ℕ) (written : Terms) (numbers : List ℕ) (line : Terms) → bits_line l p lines sum chosen written numbers ≡ Ok line → Closes l p (lines ++ line ∷ []) tree rest → Closes l p lines (Bits sum chosen written numbers ∷ tree) rest
    -- x^p - x modulo a line is one more line
    chain : {lines : List Terms} {tree after rest : List CertLine} (k x count : ℕ) (f : Coefficients) (steps : List Pair) → chain_line p lines k x count ≡ Ok f → IsChainIn l p f steps tree after → Closes l p (lines ++ fermat_line p x (last_remainder indeterminate steps) ∷ []) after rest → Closes l p lines (Chain k x count ∷ tree) rest
    -- each root is a case, with its tree
    split : {lines : List Terms} {tree rest : List CertLine} (k x : ℕ) (zeros : List ℕ) (cases : List (List Terms)) → split_line p lines k x zeros ≡ Ok cases → CloseAll l p cases tree rest → Closes l p lines (Split k x zeros ∷ tree) rest
    -- each value is a case, with its tree
    values : {lines : List Terms} {tree rest : List CertLine} (x count : ℕ) (cases : List (List Terms)) → values_line p lines x count ≡ Ok cases → CloseAll l p cases tree rest → Closes l p lines (Values x count ∷ tree) rest
    -- the last line is a constant other than 0
    close : {lines : List Terms} {rest : List CertLine} → closes p lines ≡ true → Closes l p lines (Close ∷ rest) rest

  -- a tree for each of these cases, one after another
  pub data CloseAll (l : Limits) (p : ℕ) : List (List Terms) → List CertLine → List CertLine → Type 0 where
    no_cases : {rest : List CertLine} → CloseAll l p [] rest rest
    each : {lines : List Terms} {cases : List (List Terms)} {tree after rest : List CertLine} → Closes l p lines tree after → CloseAll l p cases after rest → CloseAll l p (lines ∷ cases) tree rest
