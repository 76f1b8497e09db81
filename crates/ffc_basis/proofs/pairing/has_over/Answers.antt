use Rattle.std.proofs.Common.{◌≡◌, ℕ, List, get_or, subst}
use Rattle.std.specs.Bool.{OnFalse}
use Rattle.ffc_basis.specs.PairTable.{with_over}
use Rattle.ffc_basis.specs.declared.pair.PairRecord.{PairRecord}
use Rattle.ffc_basis.specs.declared.pair.PairState.TheVariants.{Pending}
use Rattle.ffc_basis.proofs.Mapped.{over_next}
use Rattle.ffc_basis.proofs.pairing.has_over.Goals as goal

pub loop-r-preserved : goal.loop-r-preserved
loop-r-preserved c =
    let rs = c.args.records.now in
    let i = c.loop-r.r-index in
    let d : PairRecord = record { first = 0; second = 0; state = Pending } in
    over_next rs i d c.loop-r-test.true
    (subst (λ b. OnFalse b ((t : ℕ × ℕ) (ts : List (ℕ × ℕ)) → with_over (get_or rs i d).state t ts ≡ ts)) c.if-is_over.false c.is_over.ensures) c.loop-r.invariant
