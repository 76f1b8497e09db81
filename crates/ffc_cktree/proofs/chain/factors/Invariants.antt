use Rattle.std.proofs.Common.{◌≡◌, ◌++◌, ◌≤◌, map}
use Rattle.ffc_uni.specs.Chains.{binary, digits_of}
use Rattle.ffc_trees.specs.TreeLines.{factors_over}
use Rattle.ffc_cktree.specs.Factors.{factor_of}
use Rattle.ffc_cktree.proofs.ChainLemmas.{left_over}
use Rattle.ffc_cktree.proofs.chain.factors.Given as goal

abbrev pub invariant-loop-place : goal.invariant-loop-place
invariant-loop-place l = record {
  high : l.place ≤ 64;
  so_far : map factor_of l.factors.items ++ left_over l.begun (binary l.place l.p) ≡ factors_over (digits_of l.p);
}
