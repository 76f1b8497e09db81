use Rattle.std.proofs.Common.{◌≢◌, [], sym, subst}
use Rattle.ffc_mono.specs.Orders.{graded_reverse_lex_cmp}
use Rattle.ffc_ideal.specs.Answers.{ShowMember, ShowSums}
use Rattle.ffc_ideal.proofs.Answering.{member_shown}
use Rattle.ffc_ideal.proofs.shown.with_member.Goals as goal

pub returns : goal.returns
returns g c = λ gens basis.
    let p = g.F.Field.ORDER in
    subst (λ ls. ShowMember p gens c.args.poly.now ls × (c.args.parts.items ≢ [] → ShowSums p gens ls)) (sym c.in_ok-push.ensures.items)
    (member_shown p graded_reverse_lex_cmp c.args.lines.items _ c.args.poly.now gens c.in_ok-clone.ensures.cases c.requires.before c.requires.sum basis)
