use Rattle.std.proofs.Common.{◌≡◌, ◌≢◌, [], sym, ◌∙◌, subst, arith}
use Rattle.std.proofs.lemmas.Bool.{false≢true}
use Rattle.ffc_mono.specs.Orders.{graded_reverse_lex_cmp}
use Rattle.ffc_mono.specs.OrderLaws.{graded_reverse_lex_laws}
use Rattle.ffc_ring.specs.Polynomial.{SamePolynomial}
use Rattle.ffc_line.specs.Lines.{polys_of, combination}
use Rattle.ffc_basis.specs.Reduction.{IsReduced, IsStopped}
use Rattle.ffc_basis.proofs.OrderedTerms.{lists_of_polynomials}
use Rattle.ffc_ideal.specs.Answers.{ArePairsOf}
use Rattle.ffc_ideal.proofs.Answering.{whole_combination, outside, over_named, not_over, rest_of, empty_list, full_list}
use Rattle.ffc_ideal.proofs.calls.membership_by.Goals as goal

pub with_member-requires-clause-sum : goal.with_member-requires-clause-sum
with_member-requires-clause-sum g c =
    let p = g.F.Field.ORDER in
    let gs = polys_of c.args.lines.items in
    subst (λ parts. SamePolynomial p c.args.poly.now (combination gs parts.items)) (sym c.replace-parts.ensures.value)
    (whole_combination p (omega (arith, g.met.F.Field.prime.least)) c.args.poly.now c.args.reduced.rest (combination gs c.args.reduced.parts.items) (c.is_zero.ensures.0 c.if-is_zero.true) c.requires.difference)

pub returns-then-is_zero : goal.returns-then-is_zero
returns-then-is_zero g c = λ gens basis. (c.in_ok-shown.ensures gens basis).0

pub returns-then-is_some : goal.returns-then-is_some
returns-then-is_some g c = λ gens basis.
    let p = g.F.Field.ORDER in
    let lines = c.args.lines.items in
    let r = c.args.reduced in
    let some : r.rest ≢ [] = λ none. false≢true (sym c.if-is_zero.false ∙ c.is_zero.ensures.1 none) in
    let (i, q, is, stopped) = over_named r.over (λ t. IsStopped p graded_reverse_lex_cmp (polys_of lines) r.rest r.parts.items t.0 t.1) (sym c.if-is_some.true ∙ c.is_some.ensures) c.requires.over in
    (basis, c.requires.pairs, (rest_of p graded_reverse_lex_cmp lines c.args.poly.now r.rest r.parts.items some c.requires.difference c.requires.before c.requires.at_most, i, q, is, stopped))

pub returns-then-is_empty : goal.returns-then-is_empty
returns-then-is_empty g c = λ gens basis.
    let p = g.F.Field.ORDER in
    let lines = c.args.lines.items in
    let gs = polys_of lines in
    let r = c.args.reduced in
    let some : r.rest ≢ [] = λ none. false≢true (sym c.if-is_zero.false ∙ c.is_zero.ensures.1 none) in
    let none : c.args.pairs ≡ [] = empty_list c.as_slice.result.now c.args.pairs c.is_empty.result c.is_empty.ensures c.if-is_empty.true c.as_slice.ensures in
    outside p g.met.F.Field.prime graded_reverse_lex_cmp graded_reverse_lex_laws 1024 gens lines basis c.requires.lists
    (subst (ArePairsOf p graded_reverse_lex_cmp gs) none c.requires.pairs) c.args.poly.now r.rest r.parts.items c.requires.difference c.requires.before
    (lists_of_polynomials p graded_reverse_lex_cmp r.parts.items c.requires.polynomials)
    (not_over r.over (IsReduced p graded_reverse_lex_cmp gs r.rest) (sym c.if-is_some.false ∙ c.is_some.ensures) c.requires.reduced) c.len-terms.ensures.ordered some

pub returns : goal.returns
returns g c = λ gens basis.
    let p = g.F.Field.ORDER in
    let lines = c.args.lines.items in
    let gs = polys_of lines in
    let r = c.args.reduced in
    let some : r.rest ≢ [] = λ none. false≢true (sym c.if-is_zero.false ∙ c.is_zero.ensures.1 none) in (
      basis,
      c.requires.pairs,
      (
        full_list c.as_slice.result.now c.args.pairs c.is_empty.result c.is_empty.ensures c.if-is_empty.false c.as_slice.ensures,
        r.rest,
        r.parts.items,
        rest_of p graded_reverse_lex_cmp lines c.args.poly.now r.rest r.parts.items some c.requires.difference c.requires.before c.requires.at_most,
        not_over r.over (IsReduced p graded_reverse_lex_cmp gs r.rest) (sym c.if-is_some.false ∙ c.is_some.ensures) c.requires.reduced,
      ),
    )
