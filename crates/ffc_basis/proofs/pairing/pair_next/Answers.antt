use Rattle.ffc_basis.proofs.FewLemmas.{few_paired, settled_paired}
use Rattle.ffc_basis.proofs.pairing.pair_next.Goals as goal

pub returns-in-Ok-clause-few : goal.returns-in-Ok-clause-few
returns-in-Ok-clause-few g c =
    few_paired c.args.pairing.now.records.items c.pair_line.new.records.items c.args.pairing.now.paired c.requires.few c.pair_line.ensures.more

pub returns-in-Ok-clause-settled : goal.returns-in-Ok-clause-settled
returns-in-Ok-clause-settled g c =
    settled_paired c.args.pairing.now.records.items c.pair_line.new.records.items c.args.pairing.now.paired c.args.pairing.now.paired c.pair_line.ensures.more
