use Rattle.std.proofs.Common.{◌≡◌, map, take}
use Rattle.ffc_combination.proofs.values.pairs_of.Given as goal

abbrev pub invariant-loop-place : goal.invariant-loop-place
invariant-loop-place l = record {
  constants : map (λ p. p.0) l.pairs.items ≡ take l.place l.constants;
  values : map (λ p. p.1) l.pairs.items ≡ map (λ d. d.value) (take l.place l.determined);
}
