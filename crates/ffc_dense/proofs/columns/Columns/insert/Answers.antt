use Rattle.std.proofs.Common.{◌≡◌, ◌++◌, cond, [], ◌∷◌, length, insert, sym, ap, ap₂, ◌∙◌, subst, arith, length-append}
use Rattle.std.specs.List.{list_any}
use Rattle.ffc_ring.specs.Monomial.{Monomial, same_monomial}
use Rattle.ffc_dense.specs.Columns.{AreColumns}
use Rattle.ffc_dense.proofs.ColumnLemmas.{inserted, key_added}
use Rattle.ffc_dense.proofs.columns.Columns.insert.Goals as goal

pub invariant_of-self-2 : goal.invariant_of-self-2
invariant_of-self-2 g c =
    let ms = c.args.self.now.0 in
    let keys : c.insert_full.new.self.keys ≡ ms ++ c.args.m ∷ [] = key_added ms c.insert_full.new.self.keys c.args.m c.requires.new
    (c.in_ok-insert_full.ensures.keys ∙ ap (λ ks. cond (list_any (same_monomial c.args.m) ks) ks (ks ++ c.args.m ∷ [])) (ap (λ v. v.0) c.self.view_is)) in
    let numbers : c.insert.new.self.items ≡ insert c.args.self.now.1 c.place_for-place.result (length ms) = c.in-Ok.ensures.items ∙ ap (λ ns. insert ns c.place_for-place.result c.len-number.result) (c.in_ok-reserve.ensures.items ∙ ap (λ v. v.1) c.self.view_is) ∙ ap (insert c.args.self.now.1 c.place_for-place.result) c.len-number.ensures.value in (
      subst (λ ks. AreColumns g.O.MonoOrder.cmp ks c.insert.new.self.items) (sym keys)
          (subst (AreColumns g.O.MonoOrder.cmp (ms ++ c.args.m ∷ [])) (sym numbers)
          (inserted g.O.MonoOrder.cmp g.met.O.MonoOrder.laws ms c.args.self.now.1 c.args.m c.place_for-place.result c.len-number.ensures.columns c.place_for-place.ensures)),
      omega (arith, ap length keys, length-append ms (c.args.m ∷ []), c.requires.room),
    )

pub returns-clause-inserted : goal.returns-clause-inserted
returns-clause-inserted g c =
    let ms = c.args.self.now.0 in
    let keys : c.insert_full.new.self.keys ≡ ms ++ c.args.m ∷ [] = key_added ms c.insert_full.new.self.keys c.args.m c.requires.new
    (c.in_ok-insert_full.ensures.keys ∙ ap (λ ks. cond (list_any (same_monomial c.args.m) ks) ks (ks ++ c.args.m ∷ [])) (ap (λ v. v.0) c.self.view_is)) in
    let numbers : c.insert.new.self.items ≡ insert c.args.self.now.1 c.place_for-place.result (length ms) = c.in-Ok.ensures.items ∙ ap (λ ns. insert ns c.place_for-place.result c.len-number.result) (c.in_ok-reserve.ensures.items ∙ ap (λ v. v.1) c.self.view_is) ∙ ap (insert c.args.self.now.1 c.place_for-place.result) c.len-number.ensures.value in
    ap₂ (λ x y. (x, y)) keys numbers
