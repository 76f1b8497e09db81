use Rattle.std.proofs.Common.{◌≡◌, ◌∷◌, ◌++◌, [], sym, ap, ◌∙◌}
use Rattle.std.specs.List.{list_all}
use Rattle.std.proofs.lemmas.Result.{IfOk-weaker}
use Rattle.ffc_trees.specs.BitLines.{choices_of, is_settled}
use Rattle.ffc_ckpoly.specs.Sorted.{residues}
use Rattle.ffc_cktree.proofs.BitLemmas.{choices_after}
use Rattle.ffc_cktree.proofs.bits.+are_settled.Goals as goal

pub returns : goal.returns
returns g t c =
    let p = g.F.Field.ORDER in
    let line = residues g.F.Field.value c.args.terms.now in
    let ones = c.args.ones.now in
    let x = c.in-Some.x.now in
    let rest = c.in-Some.rest.now in
    let items : c.as_slice.result.now ≡ ones ++ x ∷ [] =
    c.as_slice.ensures.value ∙ c.in_ok-push.ensures.items
    ∙ ap (λ l. l ++ x ∷ []) (c.in_ok-extend_from_slice.ensures.items ∙ ap (λ l. l ++ ones) c.new-with_x.ensures.items) in
    IfOk-weaker c.are_settled-2.result _ _
    (λ b h chosen left.
    h chosen left
    ∙ ap (λ os. list_all (λ more. is_settled p line chosen c.args.written.now (os ++ more)) (choices_of rest)) items
    ∙ choices_after (is_settled p line chosen c.args.written.now) ones x rest c.args.others.now c.in-Some.ensures.cases.0
    (sym c.if-not-branch.false ∙ c.in_ok-are_settled.ensures chosen left)) c.are_settled-2.ensures
