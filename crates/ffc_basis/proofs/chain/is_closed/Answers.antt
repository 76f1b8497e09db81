use Rattle.std.proofs.Common.{Bool, true, false, not, IsTrue, get_or, subst, arith}
use Rattle.std.specs.Bool.{OnFalse}
use Rattle.ffc_ring.specs.Polynomial.{Terms}
use Rattle.ffc_line.specs.Lines.{polys_of}
use Rattle.ffc_basis.specs.PairTable.{AreBothClosed, AreNeedless}
use Rattle.ffc_basis.specs.declared.pair.PairRecord.{PairRecord}
use Rattle.ffc_basis.specs.declared.pair.PairState.TheVariants.{Pending}
use Rattle.ffc_basis.proofs.Lists.{any_default, poly_at, length-polys}
use Rattle.ffc_basis.proofs.PairTableLemmas.{closed_record}
use Rattle.ffc_basis.proofs.chain.is_closed.Goals as goal

if_not : (b : Bool) (P : Type 0) → OnFalse b P → IsTrue (not b) → P
if_not true P v is = absurd (cc is)
if_not false P v is = v

pub returns-then-pair-second : goal.returns-then-pair-second
returns-then-pair-second g c = λ closed.
    let p = g.F.Field.ORDER in
    let cmp = g.O.MonoOrder.cmp in
    let gs = polys_of c.args.lines.now in
    let rs = c.args.records.now in
    let place = c.place_of_pair-place.result in
    let pair : PairRecord = get_or rs place record { first = 0; second = 0; state = Pending } in
    let state = c.is_closed.ensures closed in
    let both : AreBothClosed p cmp gs pair.first pair.second = closed_record p cmp gs rs place pair state.0 c.requires.records c.if-place-records.true
    (any_default rs place pair record { first = 0; second = 0; state = Pending } c.if-place-records.true) state.1 in
    subst (λ i. AreBothClosed p cmp gs i c.args.second) c.if-pair-first.true (subst (λ j. AreBothClosed p cmp gs pair.first j) c.if-pair-second.true both)

pub returns : goal.returns
returns g c = λ is.
    let p = g.F.Field.ORDER in
    let cmp = g.O.MonoOrder.cmp in
    let ls = c.args.lines.now in
    let i = c.args.first in
    let j = c.args.second in
    let a : Terms = (get_or ls i c.index-lines-first.result).poly in
    let b : Terms = (get_or ls j c.index-lines-second.result).poly in
    let needless : AreNeedless p cmp a b = if_not c.is_needed.result (AreNeedless p cmp a b) c.is_needed.ensures is in
    let size = length-polys ls in
    needless (polys_of ls) i j (omega (arith, c.requires.ordered, c.requires.within, size)) (omega (arith, c.requires.within, size))
    (poly_at ls i c.index-lines-first.result (omega (arith, c.requires.ordered, c.requires.within))) (poly_at ls j c.index-lines-second.result c.requires.within)
