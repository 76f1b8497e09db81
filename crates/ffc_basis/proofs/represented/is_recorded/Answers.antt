use Rattle.ffc_basis.specs.declared.pair.PairRecord.{PairRecord}
use Rattle.ffc_basis.specs.declared.pair.PairState.TheVariants.{Pending}
use Rattle.ffc_basis.proofs.PairTableLemmas.{represented_at}
use Rattle.ffc_basis.proofs.represented.is_recorded.Goals as goal

pub returns-then-pair-second : goal.returns-then-pair-second
returns-then-pair-second c = λ known.
    let rs = c.args.records.now in
    let place = c.place_of_pair-place.result in
    let d : PairRecord = record { first = 0; second = 0; state = Pending } in
    represented_at rs place c.args.first c.args.second d c.if-place-records.true c.if-pair-first.true c.if-pair-second.true (c.is_represented.ensures known)
