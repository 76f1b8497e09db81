use Rattle.std.proofs.Common.{subst}
use Rattle.std.proofs.lemmas.List.{take_all}
use Rattle.std.proofs.lemmas.List.Elements.{All-more}
use Rattle.ffc_cert.specs.Ranges.{IsNarrow}
use Rattle.ffc_refutation.specs.Written.{AreNumbered}
use Rattle.ffc_lemmatree.proofs.tree.have_numbers.Goals as goal

pub loop-lit-preserved : goal.loop-lit-preserved
loop-lit-preserved c = All-more (λ l. IsNarrow l.1) c.args.lits.now c.loop-lit.lit-index _ c.loop-lit-test.true c.loop-lit.invariant c.is_narrow.ensures

pub returns : goal.returns
returns c = subst AreNumbered (take_all c.loop-lit.lit-index c.args.lits.now c.loop-lit-test.false) c.loop-lit.invariant
