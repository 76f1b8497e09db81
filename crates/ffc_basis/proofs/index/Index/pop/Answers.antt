use Rattle.std.proofs.Common.{◌≡◌, ◌<◌, [], cond, length, get_or, sym, ap, ◌∙◌, arith}
use Rattle.ffc_basis.specs.Indexing.{begins_with, has_variable, listed, without_last}
use Rattle.ffc_basis.proofs.IndexLemmas.{index_popped, index_without_zero, by_powers, begins_with-first}
use Rattle.ffc_basis.proofs.index.Index.pop.Goals as goal

pub returns-then-len-eq0 : goal.returns-then-len-eq0
returns-then-len-eq0 g c = λ gs e is.
    index_without_zero g.F.Field.ORDER g.O.MonoOrder.cmp gs c.args.self.now c.args.poly.now c.args.number e (omega (arith, c.len.ensures.value, c.if-len-eq0.true)) is

pub returns : goal.returns
returns g c = λ gs e is.
    let old = c.args.self.now in
    let poly = c.args.poly.now in
    let powers = c.pairs-powers.result.now in
    let some : 0 < length poly = omega (arith, c.len.ensures.value, c.if-len-eq0.false) in
    let same : powers ≡ (get_or poly 0 (0, [])).1 = c.pairs-powers.ensures.value ∙ c.term.ensures.monomial in
    index_popped g.F.Field.ORDER g.O.MonoOrder.cmp gs old _ poly c.args.number e
    (λ y.
    c.drop_from_all-2.ensures y
    ∙ ap (λ m. cond (has_variable y m) (without_last (listed old.by_first y)) (listed old.by_first y)) c.first_of.ensures
    ∙ ap (λ b. cond b (without_last (listed old.by_first y)) (listed old.by_first y)) (begins_with-first y powers ∙ sym (by_powers poly powers some same (begins_with y))))
    (λ y. c.drop_from_all.ensures y ∙ ap (λ b. cond b (without_last (listed old.by_any y)) (listed old.by_any y)) (sym (by_powers poly powers some same (has_variable y))))
    c.other_than-self.ensures
    is
