use Rattle.std.proofs.Common.{◌≤◌, ◌+◌, ◌-◌, ◌^◌, ◌∷◌, [], ◌++◌, length, sym, ap, subst, refl, ◌∙◌, arith}
use Rattle.ffc_term.specs.Tables.{most_nodes}
use Rattle.ffc_terms.specs.declared.scope.Meaning.TheVariants as meaning
use Rattle.ffc_elab.specs.Changes.{LastIsMore}
use Rattle.ffc_elab.proofs.ConstantLemmas.{constant_global, constant_local}
use Rattle.ffc_elab.proofs.store.Store.push_constant.Goals as goal

pub returns-then-not-self-clause-ok : goal.returns-then-not-self-clause-ok
returns-then-not-self-clause-ok c = λ k known h.
    let x = c.args.self.now in
    let id = c.len-node.result in
    let terms = c.in_ok-push.ensures.ok ∙ ap (λ n. (n, meaning.Constant x.constants c.args.sort id) ∷ x.symbols.terms) c.in_ok-key.ensures.items in
    let declared = c.in_ok-push-2.ensures.items ∙ ap (λ v. v ++ record { name = c.in_ok-text.text; node = id; sort = c.args.sort } ∷ []) c.in_ok-reserve.ensures.items ∙ ap (λ n. x.declared.items ++ record { name = n; node = id; sort = c.args.sort } ∷ []) c.in_ok-text.ensures in
    let places = c.in_ok-push-3.ensures.items ∙ ap (λ v. v ++ id ∷ []) c.in_ok-reserve-2.ensures.items in
    let room : length k.state.nodes + 1 ≤ most_nodes = omega (arith, c.in-Ok.ensures.ok, ap length h.nodes) in
    let few : length x.symbols.terms + 1 ≤ 2 ^ 64 - 1 = omega (arith, c.len-count.ensures, ap length terms, c.len-count.type_inv) in
    let marks : LastIsMore (record { names = 1; sorts = 0; declared = 1; asserted = 0 }) x.marks.items c.count_more.new.marks.items = subst (λ m. LastIsMore m x.marks.items c.count_more.new.marks.items) c.of_constant.ensures c.count_more.ensures in (
      constant_local k c.args.name.now c.args.sort x known h c.push.new.self c.put_constant.new.table id c.saturating_add-self.result c.count_more.new.marks c.push-2.new.self c.push-3.new.self
          terms c.len-node.ensures.count c.in-Ok.ensures.ok.0 c.saturating_add-self.ensures declared places (ap (λ o. o.global_declarations) (sym h.options) ∙ c.if-not-self.true) few marks,
      room,
    )

pub returns-else-not-self-clause-ok : goal.returns-else-not-self-clause-ok
returns-else-not-self-clause-ok c = λ k known h.
    let x = c.args.self.now in
    let id = c.len-node.result in
    let terms = c.in_ok-push.ensures.ok ∙ ap (λ n. (n, meaning.Constant x.constants c.args.sort id) ∷ x.symbols.terms) c.in_ok-key.ensures.items in
    let declared = c.in_ok-push-2.ensures.items ∙ ap (λ v. v ++ record { name = c.in_ok-text.text; node = id; sort = c.args.sort } ∷ []) c.in_ok-reserve.ensures.items ∙ ap (λ n. x.declared.items ++ record { name = n; node = id; sort = c.args.sort } ∷ []) c.in_ok-text.ensures in
    let places = c.in_ok-push-3.ensures.items ∙ ap (λ v. v ++ id ∷ []) c.in_ok-reserve-2.ensures.items in
    let room : length k.state.nodes + 1 ≤ most_nodes = omega (arith, c.in-Ok.ensures.ok, ap length h.nodes) in (
      constant_global k c.args.name.now c.args.sort x known h c.push.new.self c.put_constant.new.table id c.saturating_add-self.result x.marks c.push-2.new.self c.push-3.new.self
          terms c.len-node.ensures.count c.in-Ok.ensures.ok.0 c.saturating_add-self.ensures declared places (ap (λ o. o.global_declarations) (sym h.options) ∙ c.if-not-self.false) refl,
      room,
    )
