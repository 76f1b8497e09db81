use Rattle.std.proofs.Common.{◌≡◌, ◌+◌, ◌%◌, ◌++◌, ◌∷◌, [], map, drop, get_or, nat_lt, sym, ap, ◌∙◌, mod-eq_of_lt, append_assoc}
use Rattle.std.proofs.lemmas.List.{map-append}
use Rattle.std.proofs.lemmas.Bool.{ltb-true}
use Rattle.ffc_cktree.proofs.SumLemmas.{left_at, get_or-any, all_parts}
use Rattle.ffc_cktree.proofs.rows.elements.Goals as goal

pub loop-coef-preserved : goal.loop-coef-preserved
loop-coef-preserved g c =
    let value = g.F.Field.value in
    let p = g.F.Field.ORDER in
    let coefs = c.args.coefs.now in
    let i = c.loop-coef.coef-index in
    let inv = c.loop-coef.invariant in
    let x = get_or coefs i 0 in
    let here = get_or-any coefs i 0 x c.loop-coef-test.true in
    let parts = all_parts (λ k. nat_lt k p) coefs i x c.loop-coef-test.true here inv.below in
    let is : value c.of.result ≡ x = c.of.ensures ∙ ap (λ k. k % p) c.from.ensures ∙ mod-eq_of_lt (ltb-true x p parts.0) in
    record {
      below = parts.1;
      so_far =
          ap (λ l. map value l ++ drop (i + 1) coefs) c.in_ok-push.ensures.items
          ∙ ap (λ l. l ++ drop (i + 1) coefs) (map-append value c.loop-coef.row.items (c.of.result ∷ []))
          ∙ append_assoc (map value c.loop-coef.row.items) (value c.of.result ∷ []) (drop (i + 1) coefs)
          ∙ ap (λ k. map value c.loop-coef.row.items ++ (k ∷ drop (i + 1) coefs)) is
          ∙ ap (λ l. map value c.loop-coef.row.items ++ l) (sym (left_at coefs i x c.loop-coef-test.true here))
          ∙ inv.so_far;
    }
