use Rattle.std.proofs.Common.{ℕ, ◌<◌, All, Contains, take}
use Rattle.ffc_basis.proofs.index.add_before.Given as goal

abbrev pub invariant-loop-line : goal.invariant-loop-line
invariant-loop-line l = record {
  kept : (i : ℕ) → Contains l.fn.found.keys i → Contains l.found.keys i;
  added : (i : ℕ) → Contains (take l.line-index l.lines) i → i < l.before → Contains l.found.keys i;
  only : All (λ i. i < l.before) l.fn.found.keys → All (λ i. i < l.before) l.found.keys;
}
