use Rattle.std.proofs.Common.{◌≡◌, ◌+◌, ◌-◌, ◌<◌, ◌≤◌, ◌++◌, ℕ, suc, [], ◌∷◌, List, length, map, set, get_or, sym, ap, ap₂, ◌∙◌, subst, arith, rules}
use Rattle.std.proofs.lemmas.Bool.Decides.{nat_tests}
use Rattle.std.proofs.lemmas.List.{get_or-map, length-map, map-append, map-set}
use Rattle.ffc_propagation.specs.Rows.{row_at, rows_in, rows_of, list_at, IsIndex}
use Rattle.ffc_propagation.proofs.IndexLemmas.{row_is, any_default, begun_rows, changed_rows}
use Rattle.ffc_propagation.proofs.rows.Rows.begin.Goals as goal

pub returns : goal.returns
returns c =
    let i = c.self.inside in
    let ns = i.lists.items in
    let list : c.push.new.self.items ≡ c.args.clause ∷ [] = c.in_ok-push.ensures.items ∙ ap (λ xs. xs ++ c.args.clause ∷ []) c.new-list.ensures.items in
    let many : c.in-Ok.number ≡ length ns + 1 = search rules in
    let number : c.in-Ok.number ≡ length (rows_of ns) + 1 = many ∙ ap (λ k. k + 1) (sym (length-map ns (λ h. h.items))) in
    let lists : rows_of c.push-2.new.self.items ≡ rows_of ns ++ (c.args.clause ∷ []) ∷ [] =
    ap rows_of c.in_ok-push-2.ensures.items ∙ map-append (λ h. h.items) ns (c.push.new.self ∷ []) ∙ ap (λ l. rows_of ns ++ l ∷ []) list in
    let s : IsIndex (length (rows_of ns)) i.index.items = subst (λ k. IsIndex k i.index.items) (sym (length-map ns (λ h. h.items))) c.self.invariant in
    ap₂ (λ ls k. rows_in ls (set i.index.items c.args.place k)) lists number ∙ begun_rows (rows_of ns) i.index.items s c.args.place (c.args.clause ∷ [])
    ∙ ap (λ rows. set rows c.args.place (c.args.clause ∷ [])) c.self.view_is
