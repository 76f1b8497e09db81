use Rattle.std.proofs.Common.{arith}
use Rattle.ffc_mono.specs.Orders.{graded_reverse_lex_cmp}
use Rattle.ffc_basis.proofs.OrderedTerms.{AreTerms-ordered}
use Rattle.ffc_ideal.proofs.Answering.{quotient_by_constant}
use Rattle.ffc_ideal.proofs.shown.quotient_by.Goals as goal

pub returns-in-Ok : goal.returns-in-Ok
returns-in-Ok g c =
    let p = g.F.Field.ORDER in
    quotient_by_constant p graded_reverse_lex_cmp (omega (arith, g.met.F.Field.prime.least)) c.args.poly.now c.in-Ok.quotient c.args.constant.now
    (AreTerms-ordered p graded_reverse_lex_cmp 1024 c.args.poly.now c.len-terms.ensures.ordered) c.requires.constant
    (g.F.Field.value c.in-Some.lead.0) c.in-Some.lead.1.powers.now c.in-Some.ensures.leading (g.F.Field.value c.in-Some-inv.inverse) c.in-Some-inv.ensures.inverse c.in-Ok.ensures.product
