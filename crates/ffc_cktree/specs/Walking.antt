-- How far the reading of a tree has come, as the rules have it.
use Rattle.std.specs.Prelude.{◌≡◌, ℕ, ◌≤◌, Bool, true, false, List, [], ◌∷◌, length, map, Option, Some, None, Result, Ok}
use Rattle.ffc_cert.specs.declared.entries.CertLine.{CertLine}
use Rattle.ffc_ring.specs.Polynomial.{Terms}
use Rattle.ffc_trees.specs.TreeLines.{Limits}
use Rattle.ffc_trees.specs.Trees.{Power, Stage, Open, Within, branch_read, step_read}
use Rattle.ffc_trees.specs.Same.{IsSameStage}
use Rattle.ffc_cktree.specs.declared.cases.Case.{Case}
use Rattle.ffc_cktree.specs.declared.chain.Running.{Running}
use Rattle.ffc_cktree.specs.declared.stop.LineStop.{LineStop}
use Rattle.ffc_cktree.specs.declared.stop.LineStop.TheVariants as line_stop
use Rattle.ffc_cktree.specs.declared.stop.TreeStop.{TreeStop}
use Rattle.ffc_cktree.specs.declared.stop.TreeStop.TheVariants as tree_stops
use Rattle.ffc_cktree.specs.Factors.{factor_of, factors_of}
use Rattle.ffc_cktree.specs.Waiting.{branches_of}

-- a chain that has begun
abbrev pub power_of : {F : Type 0} → (F → ℕ) → Running F → Power
power_of value r = record {
  variable = r.variable;
  modulus = map value r.modulus.items;
  power = map value r.power.items;
  factor = factor_of r.factor;
  factors = factors_of r.factors.items;
}

-- the rows of a chain are short enough for a line
abbrev pub IsShort : {F : Type 0} → Option (Running F) → Type 0
IsShort None = Unit {0}
IsShort (Some r) = (length r.modulus.items ≤ 1025) × (length r.power.items ≤ 1025)

-- what is read next, where a branch is open
abbrev pub open_stage : {F : Type 0} → ℕ → (F → ℕ) → List Terms → List Case → Option (Running F) → Stage
open_stage p value lines cases None = Open (lines ∷ branches_of p lines cases)
open_stage p value lines cases (Some r) = Within (power_of value r) lines (branches_of p lines cases)

abbrev pub stage_of : {F : Type 0} → ℕ → (F → ℕ) → Bool → List Terms → List Case → Option (Running F) → Stage
stage_of p value true lines cases chain = Open []
stage_of p value false lines cases chain = open_stage p value lines cases chain

-- a tree is closed where no branch is open
abbrev pub is_closed : Stage → Bool
is_closed (Open []) = true
is_closed (Open (branch ∷ others)) = false
is_closed (Within c branch others) = false

-- one line of a stage
abbrev pub stage_read : Limits → ℕ → Stage → CertLine → Result Stage ℕ
stage_read l p (Open []) line = Ok (Open [])
stage_read l p (Open (branch ∷ others)) line = branch_read l p branch others line
stage_read l p (Within c branch others) line = step_read l p c branch others line

-- the rule of a line is kept, and this stage follows, but for the order of the terms in lines
pub record Leads (p : ℕ) (rule : Result Stage ℕ) (s : Stage) : Type 0 where
  pub stage : Stage
  pub kept : rule ≡ Ok stage
  pub same : IsSameStage p s stage

-- why a tree stops at a line
abbrev pub tree_stop : LineStop → ℕ → TreeStop
tree_stop (line_stop.Rule rule) offset = tree_stops.Broken (record { offset = offset; rule = rule })
tree_stop line_stop.Memory offset = tree_stops.Memory
