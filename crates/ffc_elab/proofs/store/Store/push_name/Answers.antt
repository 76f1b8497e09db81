use Rattle.std.proofs.Common.{◌≤◌, ◌+◌, ◌-◌, ◌^◌, ◌∷◌, length, sym, ap, subst, refl, ◌∙◌, arith}
use Rattle.ffc_elab.specs.Changes.{LastIsMore}
use Rattle.ffc_elab.proofs.NameLemmas.{defined_global, defined_local}
use Rattle.ffc_elab.proofs.store.Store.push_name.Goals as goal

pub returns-then-not-self-clause-ok : goal.returns-then-not-self-clause-ok
returns-then-not-self-clause-ok c = λ k m known plain meaning h.
    let x = c.args.self.now in
    let v = c.args.value in
    let terms = c.in_ok-push.ensures.ok ∙ ap (λ n. (n, v) ∷ x.symbols.terms) c.in_ok-key.ensures.items in
    let few : length x.symbols.terms + 1 ≤ 2 ^ 64 - 1 = omega (arith, c.len-count.ensures, ap length terms, c.len-count.type_inv) in
    let marks : LastIsMore (record { names = 1; sorts = 0; declared = 0; asserted = 0 }) x.marks.items c.count_more.new.marks.items = subst (λ m. LastIsMore m x.marks.items c.count_more.new.marks.items) c.of_name.ensures c.count_more.ensures in
    defined_local k c.args.name.now m x h v meaning plain c.push.new.self terms c.count_more.new.marks (ap (λ o. o.global_declarations) (sym h.options) ∙ c.if-not-self.true) few marks

pub returns-else-not-self-clause-ok : goal.returns-else-not-self-clause-ok
returns-else-not-self-clause-ok c = λ k m known plain meaning h.
    let x = c.args.self.now in
    let v = c.args.value in
    let terms = c.in_ok-push.ensures.ok ∙ ap (λ n. (n, v) ∷ x.symbols.terms) c.in_ok-key.ensures.items in
    defined_global k c.args.name.now m x h v meaning plain c.push.new.self terms x.marks known (ap (λ o. o.global_declarations) (sym h.options) ∙ c.if-not-self.false) refl
