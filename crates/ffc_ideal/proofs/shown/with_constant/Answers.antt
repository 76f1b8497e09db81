use Rattle.std.proofs.Common.{◌≡◌, ◌≢◌, [], List, get_or, suc, length, sym, ◌∙◌, ap, subst, arith}
use Rattle.ffc_mono.specs.Orders.{graded_reverse_lex_cmp}
use Rattle.ffc_ring.specs.Polynomial.{Terms}
use Rattle.ffc_poly.specs.Ordered.{IsConstant}
use Rattle.ffc_line.specs.Lines.{polys_of}
use Rattle.ffc_basis.proofs.Lists.{if_ok, poly_at, length-polys}
use Rattle.ffc_ideal.specs.Answers.{AreBasisLines, ShowMember, ShowSums, ShowOne}
use Rattle.ffc_ideal.proofs.Answering.{last_is_constant, constant_is_shown}
use Rattle.ffc_ideal.proofs.shown.with_constant.Goals as goal

pub returns-then-place-len : goal.returns-then-place-len
returns-then-place-len g c = λ gens basis.
    last_is_constant g.F.Field.ORDER graded_reverse_lex_cmp c.args.lines.items c.args.constant gens c.requires
    (let at_end : suc c.args.constant ≡ length c.args.lines.items = omega (arith, c.if-place-len.true, c.len.ensures, c.args.lines.ok.0) in at_end) basis

pub returns : goal.returns
returns g c =
    let p = g.F.Field.ORDER in
    let lines = c.args.lines.items in
    let poly : Terms = c.in_ok-poly.poly in
    let line = c.index.result.now in
    let line_is : get_or lines c.args.constant line ≡ line = grind (arith, c.index.ensures) in
    let at : get_or (polys_of lines) c.args.constant [] ≡ poly =
    poly_at lines c.args.constant line (omega (arith, c.requires.0, length-polys lines)) ∙ ap (λ l. l.poly) line_is ∙ sym c.in_ok-poly.ensures.cases in
    if_ok c.with_multiple.result
    (λ r. (gens : List Terms) → AreBasisLines p graded_reverse_lex_cmp gens lines → ShowMember p gens poly r.items × ShowSums p gens r.items)
    (λ r. (gens : List Terms) → AreBasisLines p graded_reverse_lex_cmp gens lines → ShowOne p gens r.items)
    (λ r h gens basis. constant_is_shown p gens poly r.items (subst (λ ts. ts ≢ []) at c.requires.1) (subst (IsConstant p) at c.requires.2) (h gens basis)) c.with_multiple.ensures
