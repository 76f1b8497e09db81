use Rattle.std.proofs.Common.{◌≡◌, ◌<◌, All, map, take}
use Rattle.ffc_linear.proofs.values.model_of.Given as goal

abbrev pub invariant-loop-place : goal.invariant-loop-place
invariant-loop-place g l = record {
  constants : map (λ p. p.0) l.pairs.items ≡ take l.place l.constants;
  numbers : map (λ p. p.1) l.pairs.items ≡ map g.F.Field.value (take l.place l.values);
  below : All (λ p. p.1 < g.F.Field.ORDER) l.pairs.items;
}
