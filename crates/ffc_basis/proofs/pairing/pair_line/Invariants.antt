use Rattle.std.proofs.Common.{ℕ, ◌+◌, ◌<◌, ◌≤◌, All, length}
use Rattle.std.specs.BTreeSet.{btree_set_len}
use Rattle.ffc_line.specs.Lines.{polys_of}
use Rattle.ffc_basis.specs.PairTable.{ArePairs, IsPaired}
use Rattle.ffc_basis.proofs.PairTableLemmas.{IsOpenColumn}
use Rattle.ffc_basis.proofs.pairing.pair_line.Given as goal

abbrev pub invariant-loop-first : goal.invariant-loop-first
invariant-loop-first g l = record {
  pairs : ArePairs g.F.Field.ORDER g.O.MonoOrder.cmp (polys_of l.lines) l.records.items l.second;
  column : IsOpenColumn g.F.Field.ORDER g.O.MonoOrder.cmp (polys_of l.lines) l.records.items l.second l.partners.keys;
  below : All (λ i. i < l.second) l.partners.keys;
  most : (n : ℕ) × IsPaired l.second n l.fn.records.items l.records.items × (n + length l.partners.keys ≤ l.second);
}

abbrev pub decreases-loop-first : goal.decreases-loop-first
decreases-loop-first g l = btree_set_len l.partners
