use Rattle.std.proofs.Common.{◌≡◌, ◌+◌, ◌-◌, ◌<◌, ◌≤◌, ◌++◌, ℕ, suc, [], ◌∷◌, List, length, map, set, get_or, sym, ap, ap₂, ◌∙◌, subst, arith, rules}
use Rattle.std.proofs.lemmas.Bool.Decides.{nat_tests}
use Rattle.std.proofs.lemmas.List.{get_or-map, length-map, map-append, map-set}
use Rattle.ffc_propagation.specs.Rows.{row_at, rows_in, rows_of, list_at, IsIndex}
use Rattle.ffc_propagation.proofs.IndexLemmas.{row_is, any_default, begun_rows, changed_rows}
use Rattle.ffc_propagation.proofs.rows.Rows.extend.Goals as goal

pub returns : goal.returns
returns c =
    let i = c.self.inside in
    let place = c.args.place in
    let ns = i.lists.items in
    let n = c.index.result.now in
    let long = length-map i.index.items (list_at (rows_of ns)) in
    let same = ap length c.self.view_is in
    let inside : place < length i.index.items = omega (arith, c.requires, long, same) in
    let number : get_or i.index.items place 0 ≡ n = any_default i.index.items place 0 n inside ∙ sym c.index.ensures in
    let some : n ≡ suc (n - 1) = grind (arith, nat_tests, c.if-number-eq0.false) in
    let few = c.self.invariant.within place in
    let short : n - 1 < length ns = omega (arith, few, number, some) in
    let list : get_or (rows_of ns) (n - 1) [] ≡ c.index_mut.result.now.items =
    get_or-map (λ h. h.items) ns (n - 1) c.index_mut.result.now [] short ∙ ap (λ h. h.items) (sym c.index_mut.ensures.value) in
    let row : row_at c.args.self.now place ≡ c.index_mut.result.now.items =
    ap (λ rows. row_at rows place) (sym c.self.view_is) ∙ row_is (rows_of ns) i.index.items place inside ∙ ap (list_at (rows_of ns)) (number ∙ some) ∙ list in
    let v = c.push.new.self.items in
    let s : IsIndex (length (rows_of ns)) i.index.items = subst (λ k. IsIndex k i.index.items) (sym (length-map ns (λ h. h.items))) c.self.invariant in
    ap (λ ls. rows_in ls i.index.items) (map-set (λ h. h.items) ns (n - 1) c.push.new.self)
    ∙ changed_rows (rows_of ns) i.index.items s place inside (n - 1) (number ∙ some) v
    ∙ ap₂ (λ rows l. set rows place l) c.self.view_is (c.in_ok-push.ensures.items ∙ ap (λ xs. xs ++ c.args.clause ∷ []) (sym row))
