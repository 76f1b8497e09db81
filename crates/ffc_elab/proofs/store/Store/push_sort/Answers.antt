use Rattle.std.proofs.Common.{◌∷◌, sym, ap, refl, ◌∙◌}
use Rattle.ffc_elab.proofs.SortNameLemmas.{sort_global}
use Rattle.ffc_elab.proofs.store.Store.push_sort.Goals as goal

pub returns-else-not-self-clause-ok : goal.returns-else-not-self-clause-ok
returns-else-not-self-clause-ok c = λ k known h.
    let x = c.args.self.now in
    sort_global k c.args.name.now c.args.sort x c.push.new.self x.marks h known (ap (λ o. o.global_declarations) (sym h.options) ∙ c.if-not-self.false) (c.in_ok-push.ensures.ok ∙ ap (λ n. (n, c.args.sort) ∷ x.symbols.sorts) c.in_ok-key.ensures.items) refl
