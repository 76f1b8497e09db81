use Rattle.std.proofs.Common.{◌≢◌, [], List}
use Rattle.ffc_mono.specs.Orders.{graded_reverse_lex_cmp}
use Rattle.ffc_ring.specs.Polynomial.{Terms}
use Rattle.ffc_basis.proofs.Lists.{if_ok}
use Rattle.ffc_ideal.specs.Answers.{AreBasisLines, ShowMember, ShowSums}
use Rattle.ffc_ideal.proofs.Answering.{pushed_is_some}
use Rattle.ffc_ideal.proofs.shown.with_multiple.Goals as goal

pub returns : goal.returns
returns g c =
    let p = g.F.Field.ORDER in
    let lines = c.args.lines.items in
    let poly = c.args.poly.now in
    let parts = c.push.new.self.items in
    let some : parts ≢ [] = pushed_is_some c.new-parts.result.items parts _ c.in_ok-push.ensures.items in
    if_ok c.with_member.result
    (λ r. (gens : List Terms) → AreBasisLines p graded_reverse_lex_cmp gens lines → ShowMember p gens poly r.items × (parts ≢ [] → ShowSums p gens r.items))
    (λ r. (gens : List Terms) → AreBasisLines p graded_reverse_lex_cmp gens lines → ShowMember p gens poly r.items × ShowSums p gens r.items)
    (λ r h gens basis. let both = h gens basis in (both.0, both.1 some)) c.with_member.ensures
