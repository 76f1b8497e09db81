use Rattle.std.proofs.Common.{Bool, true, false, not, IsTrue, get_or, arith}
use Rattle.std.specs.Bool.{OnFalse}
use Rattle.ffc_ring.specs.Polynomial.{Terms}
use Rattle.ffc_line.specs.Lines.{polys_of}
use Rattle.ffc_basis.specs.PairTable.{AreNeedless}
use Rattle.ffc_basis.proofs.Lists.{poly_at, length-polys}
use Rattle.ffc_basis.proofs.PairTableLemmas.{represented_record}
use Rattle.ffc_basis.proofs.RepresentedLemmas.{both_closed_are_represented}
use Rattle.ffc_basis.proofs.represented.is_represented.Goals as goal

if_not : (b : Bool) (P : Type 0) → OnFalse b P → IsTrue (not b) → P
if_not true P v is = absurd (cc is)
if_not false P v is = v

pub returns-then-is_recorded : goal.returns-then-is_recorded
returns-then-is_recorded g c = λ _.
    represented_record g.F.Field.ORDER g.O.MonoOrder.cmp g.met.F.Field.prime g.met.O.MonoOrder.laws (polys_of c.args.lines.now) c.requires.lists
    c.args.records.now c.args.first c.args.second c.requires.records (c.is_recorded.ensures c.if-is_recorded.true)

pub returns : goal.returns
returns g c = λ is.
    let p = g.F.Field.ORDER in
    let cmp = g.O.MonoOrder.cmp in
    let ls = c.args.lines.now in
    let i = c.args.first in
    let j = c.args.second in
    let a : Terms = (get_or ls i c.index-lines-first.result).poly in
    let b : Terms = (get_or ls j c.index-lines-second.result).poly in
    let needless : AreNeedless p cmp a b = if_not c.is_needed.result (AreNeedless p cmp a b) c.is_needed.ensures is in
    let size = length-polys ls in
    both_closed_are_represented p g.met.F.Field.prime cmp g.met.O.MonoOrder.laws (polys_of ls) c.requires.lists i j
    (needless (polys_of ls) i j (omega (arith, c.requires.ordered, c.requires.within, size)) (omega (arith, c.requires.within, size))
    (poly_at ls i c.index-lines-first.result (omega (arith, c.requires.ordered, c.requires.within))) (poly_at ls j c.index-lines-second.result c.requires.within))
