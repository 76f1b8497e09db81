use Rattle.ffc_cert.specs.Ranges.{IsLine}
use Rattle.ffc_casetree.proofs.RangeLemmas.{each_more}
use Rattle.ffc_casetree.proofs.fitting.are_lines.Goals as goal

pub loop-line-preserved : goal.loop-line-preserved
loop-line-preserved c =
    each_more IsLine c.args.lines.now c.loop-line.line-index c.line-item.result c.loop-line-test.true c.line-item.is c.loop-line.invariant
    (c.is_line.ensures c.if-not-is_line.false)
