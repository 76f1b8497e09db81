use Rattle.std.proofs.Common.{◌≡◌, ◌<◌, ◌++◌, ◌∷◌, [], cond, length, get_or, sym, ap, ◌∙◌, arith}
use Rattle.ffc_basis.specs.Indexing.{is_one, begins_with, has_variable, listed, first_or}
use Rattle.ffc_basis.proofs.IndexLemmas.{index_pushed, index_of_zero, by_powers, begins_with-first}
use Rattle.ffc_basis.proofs.index.Index.push.Goals as goal

pub returns-then-len-eq0-clause-ok : goal.returns-then-len-eq0-clause-ok
returns-then-len-eq0-clause-ok g c = λ gs e is.
    index_of_zero g.F.Field.ORDER g.O.MonoOrder.cmp gs c.args.self.now c.args.poly.now c.args.number e (omega (arith, c.len.ensures.value, c.if-len-eq0.true)) is

pub returns-clause-ok : goal.returns-clause-ok
returns-clause-ok g c = λ gs e is.
    let old = c.args.self.now in
    let poly = c.args.poly.now in
    let number = c.args.number in
    let powers = c.pairs-powers.result.now in
    let some : 0 < length poly = omega (arith, c.len.ensures.value, c.if-len-eq0.false) in
    let same : powers ≡ (get_or poly 0 (0, [])).1 = c.pairs-powers.ensures.value ∙ c.term.ensures.monomial in
    index_pushed g.F.Field.ORDER g.O.MonoOrder.cmp gs old _ poly number e c.len.ensures.ordered
    (λ y.
    c.in-Ok.ensures.ok y
    ∙ ap (λ m. cond (has_variable y m) (listed old.by_first y ++ number ∷ []) (listed old.by_first y)) c.first_of.ensures
    ∙ ap (λ b. cond b (listed old.by_first y ++ number ∷ []) (listed old.by_first y)) (begins_with-first y powers ∙ sym (by_powers poly powers some same (begins_with y))))
    (λ y. c.in_ok-append_to_all.ensures.ok y ∙ ap (λ b. cond b (listed old.by_any y ++ number ∷ []) (listed old.by_any y)) (sym (by_powers poly powers some same (has_variable y))))
    (c.first_constant-self.ensures ∙ ap (λ b. cond b (first_or old.constant number) old.constant) (sym (by_powers poly powers some same is_one)))
    is
