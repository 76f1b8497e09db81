use Rattle.ffc_term.proofs.NodeLemmas.{IsInserted-from_keys}
use Rattle.ffc_term.proofs.store.insert.Goals as goal

pub returns-clause-put : goal.returns-clause-put
returns-clause-put c =
    let known = c.in_ok-insert_full.ensures in
    (IsInserted-from_keys _ _ _ _ _ known.added known.keys known.stored).put

pub returns-clause-new : goal.returns-clause-new
returns-clause-new c =
    let known = c.in_ok-insert_full.ensures in
    (IsInserted-from_keys _ _ _ _ _ known.added known.keys known.stored).split
