use Rattle.std.proofs.Common.{◌∷◌, ◌++◌, [], ap, ◌∙◌, arith}
use Rattle.ffc_mono.specs.declared.row.Mark.{Mark}
use Rattle.ffc_mono.proofs.RowLemmas.{row-push, row-is, row-view, row-moved}
use Rattle.ffc_mono.proofs.row.MonoRow.push.Goals as goal

pub invariant_of-self-2 : goal.invariant_of-self-2
invariant_of-self-2 c =
    let ks = c.self.inside.marks.items in
    let ps = c.self.inside.powers.items in
    let m = c.args.m in
    let mark : Mark = record { end = c.len-end.result; total_degree = m.total_degree; mask = m.mask } in
    let step = row-push ps m.powers.now ks _ mark c.self.invariant m.is_monomial (omega (arith, m.degree_is, m.within))
    (omega (arith, c.len-end.ensures, c.in_ok-extend_from_slice.ensures.len, c.self.inside.powers.ok)) m.degree_is m.mask_is in
    row-is _ _ _ (row-moved _ _ _ _ _ c.in_ok-extend_from_slice.ensures.items (c.in_ok-push.ensures.items ∙ ap (λ k. k ++ mark ∷ []) c.in_ok-reserve.ensures.items) step)

pub returns-clause-pushed : goal.returns-clause-pushed
returns-clause-pushed c =
    let ks = c.self.inside.marks.items in
    let ps = c.self.inside.powers.items in
    let m = c.args.m in
    let mark : Mark = record { end = c.len-end.result; total_degree = m.total_degree; mask = m.mask } in
    let step = row-push ps m.powers.now ks _ mark c.self.invariant m.is_monomial (omega (arith, m.degree_is, m.within))
    (omega (arith, c.len-end.ensures, c.in_ok-extend_from_slice.ensures.len, c.self.inside.powers.ok)) m.degree_is m.mask_is in
    row-view _ _ _ (row-moved _ _ _ _ _ c.in_ok-extend_from_slice.ensures.items (c.in_ok-push.ensures.items ∙ ap (λ k. k ++ mark ∷ []) c.in_ok-reserve.ensures.items) step)
    ∙ ap (λ k. k ++ m.powers.now ∷ []) c.self.view_is
