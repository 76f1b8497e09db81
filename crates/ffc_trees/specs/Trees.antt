-- A case tree is read off the front of the lines of a certificate, in their order, from the lines that hold at its root
-- (Ozdemir, Kremer, Tinelli and Barrett, "Satisfiability Modulo Finite Fields", 2023; cases by roots as in their search).
--
-- In a tree a case is a branch, and goes on from the lines before it. The first broken line is given by its number, from 0
-- at the tree's first line, and the number of the rule.
use Rattle.std.specs.Prelude.{ℕ, suc, List, [], ◌∷◌, ◌++◌, if◌then◌else◌, Result, Ok, Err}
use Rattle.ffc_cert.specs.declared.entries.CertLine.{CertLine}
use Rattle.ffc_cert.specs.declared.entries.CertLine.TheVariants.{Combine, Bits, Chain, Step, Split, Values, Close}
use Rattle.ffc_ring.specs.Polynomial.{Terms}
use Rattle.ffc_uni.specs.Univariate.{Coefficients, indeterminate}
use Rattle.ffc_uni.specs.Chains.{digits_of}
use Rattle.ffc_trees.specs.TreeLines.{Limits, Factor, factors_over, combine_line, chain_line, step_line, fermat_line, split_line, values_line, closes}
use Rattle.ffc_trees.specs.BitLines.{bits_line}

-- a chain that has begun
pub record Power : Type 0 where
  -- the variable x, and the line f that it is a chain modulo
  pub variable : ℕ
  pub modulus : Coefficients
  -- the power of x so far, modulo f
  pub power : Coefficients
  -- what it is multiplied by next, and then
  pub factor : Factor
  pub factors : List Factor

-- what is read next
pub data Stage : Type 0 where
  -- a line of a branch: the branches that are open have these lines, the present one first; with none the tree is closed
  Open : List (List Terms) → Stage
  -- a step of a chain of the present branch, and the other open branches
  Within : Power → List Terms → List (List Terms) → Stage

-- a branch goes on with one more line
abbrev pub with_line : List Terms → List (List Terms) → Terms → Stage
with_line lines others line = Open ((lines ++ line ∷ []) ∷ others)

-- a chain goes on with the power so far and the factors to come; with none its line is added
abbrev pub with_power : ℕ → ℕ → Coefficients → List Terms → List (List Terms) → List Factor → Coefficients → Stage
with_power p x f lines others [] r = with_line lines others (fermat_line p x r)
with_power p x f lines others (factor ∷ factors) r =
    Within (record { variable = x; modulus = f; power = r; factor = factor; factors = factors }) lines others

-- what follows where a rule was kept
abbrev pub kept : {A B : Type 0} → (A → B) → Result A ℕ → Result B ℕ
kept f (Ok x) = Ok (f x)
kept f (Err rule) = Err rule

-- one line of the present branch; a line of another form closes nothing
abbrev pub branch_read : Limits → ℕ → List Terms → List (List Terms) → CertLine → Result Stage ℕ
branch_read l p lines others (Combine multiples) = kept (with_line lines others) (combine_line l p lines multiples)
branch_read l p lines others (Bits line chosen polynomial bits) = kept (with_line lines others) (bits_line l p lines line chosen polynomial bits)
branch_read l p lines others (Chain k x steps) =
    kept (λ f. with_power p x f lines others (factors_over (digits_of p)) indeterminate) (chain_line p lines k x steps)
branch_read l p lines others (Split k x zeros) = kept (λ cases. Open (cases ++ others)) (split_line p lines k x zeros)
branch_read l p lines others (Values x count) = kept (λ cases. Open (cases ++ others)) (values_line p lines x count)
branch_read l p lines others Close = if closes p lines then Ok (Open others) else Err 8
branch_read l p lines others _ = Err 8

-- one step of a chain; a line of another form is none
abbrev pub step_read : Limits → ℕ → Power → List Terms → List (List Terms) → CertLine → Result Stage ℕ
step_read l p c lines others (Step quotient remainder) =
    kept (with_power p c.variable c.modulus lines others c.factors) (step_line l p c.modulus c.factor c.power quotient remainder)
step_read l p c lines others _ = Err 8

-- a broken rule, and the number of its line in the tree, from 0
pub record Broken : Type 0 where
  pub offset : ℕ
  pub rule : ℕ

-- reading goes on after a line, unless the line is broken
abbrev pub next_read : {A : Type 0} → ℕ → (Stage → Result A Broken) → Result Stage ℕ → Result A Broken
next_read at go (Ok stage) = go stage
next_read at go (Err rule) = Err (record { offset = at; rule = rule })

-- The lines from the number `at` on are read until no branch is open. Where they end before, the line that is not there
-- closes nothing.
unfoldable pub read_from : Limits → ℕ → Stage → ℕ → List CertLine → Result (List CertLine) Broken
read_from l p (Open []) at lines = Ok lines
read_from l p (Open (branch ∷ others)) at [] = Err (record { offset = at; rule = 8 })
read_from l p (Open (branch ∷ others)) at (line ∷ rest) =
    next_read at (λ stage. read_from l p stage (suc at) rest) (branch_read l p branch others line)
read_from l p (Within c branch others) at [] = Err (record { offset = at; rule = 8 })
read_from l p (Within c branch others) at (line ∷ rest) =
    next_read at (λ stage. read_from l p stage (suc at) rest) (step_read l p c branch others line)

-- One tree is taken off the front of the lines, over the order p, from the lines that hold at its root: what follows it,
-- or its first broken line.
abbrev pub tree_read : Limits → ℕ → List Terms → List CertLine → Result (List CertLine) Broken
tree_read l p first lines = read_from l p (Open (first ∷ [])) 0 lines
