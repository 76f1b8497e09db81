use Rattle.std.proofs.Common.{All, subst}
use Rattle.std.proofs.lemmas.List.{take_all}
use Rattle.std.proofs.lemmas.List.Elements.{All-more}
use Rattle.ffc_cert.specs.Ranges.{IsNarrow}
use Rattle.ffc_values.proofs.sums.have_numbers.Goals as goal

pub loop-power-preserved : goal.loop-power-preserved
loop-power-preserved c = All-more (λ f. IsNarrow f.0) c.args.powers.now c.loop-power.power-index _ c.loop-power-test.true c.loop-power.invariant c.is_narrow.ensures

pub returns : goal.returns
returns c = subst (All (λ f. IsNarrow f.0)) (take_all c.loop-power.power-index c.args.powers.now c.loop-power-test.false) c.loop-power.invariant
