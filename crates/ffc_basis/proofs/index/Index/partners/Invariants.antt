use Rattle.std.proofs.Common.{ℕ, ◌<◌, All, Contains, get_or}
use Rattle.ffc_basis.specs.Indexing.{listed}
use Rattle.ffc_basis.proofs.index.Index.partners.Given as goal

abbrev pub invariant-loop-power : goal.invariant-loop-power
invariant-loop-power l = record {
  all : (k i : ℕ) → k < l.power-index → Contains (listed l.self.by_any (get_or l.power-items k (0, 0)).0) i → i < l.before → Contains l.found.keys i;
  only : All (λ i. i < l.before) l.found.keys;
}
