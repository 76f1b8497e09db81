use Rattle.std.proofs.Common.{◌≡◌, ◌++◌, [], ◌∷◌, cond, refl, ap, ◌∙◌, rules}
use Rattle.std.specs.List.{list_any}
use Rattle.ffc_ring.specs.Monomial.{Monomial, same_monomial}
use Rattle.ffc_macaulay.proofs.ListLemmas.{adds_one}
use Rattle.ffc_macaulay.proofs.columns.insert.Goals as goal

pub returns : goal.returns
returns c =
    let keys = c.args.unknowns.now.keys in
    let m : Monomial = c.args.m.now in
    let same : c.in_ok-clone.field-0 ≡ m = search rules in
    adds_one keys c.insert_full.new.self.keys m (list_any (same_monomial m) keys) refl
    (c.in_ok-insert_full.ensures.keys ∙ ap (λ (k : Monomial). cond (list_any (same_monomial k) keys) keys (keys ++ k ∷ [])) same)
