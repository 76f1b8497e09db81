use Rattle.std.proofs.Common.{◌∙◌}
use Rattle.ffc_elab.proofs.MakingLemmas.{grown_cut, grown_front}
use Rattle.ffc_elab.proofs.store.Store.keep_nodes.Goals as goal

pub truncate-requires : goal.truncate-requires
truncate-requires c =
    let r = c.requires in
    grown_cut r.0 c.args.self.now.table c.args.count r.1 r.2 r.3

pub returns-clause-table : goal.returns-clause-table
returns-clause-table c = λ old grows e. c.truncate.ensures ∙ grown_front old c.args.self.now.table c.args.count grows e
