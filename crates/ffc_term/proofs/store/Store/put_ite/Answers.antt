use Rattle.std.proofs.Common.{length, refl, arith}
use Rattle.ffc_term.proofs.IteLemmas.{IsIteInterned-new}
use Rattle.ffc_term.proofs.store.Store.put_ite.Goals as goal

pub returns-then-before-ite_size-clause-full : goal.returns-then-before-ite_size-clause-full
returns-then-before-ite_size-clause-full c =
    let size = c.ite_size.ensures.size (length c.args.self.now) c.args.c in
    ((λ _. (c.in_default.ensures.none, omega (arith, size, c.len-before.ensures.count, c.if-before-ite_size.true))), (λ _. refl))

pub put_new_ite-requires-clause-room : goal.put_new_ite-requires-clause-room
put_new_ite-requires-clause-room c =
    let size = c.ite_size.ensures.size (length c.args.self.now) c.args.c in
    let few = c.ite_size.ensures.few in
    omega (arith, size, few, c.len-before.ensures.count, c.if-before-ite_size.false)

pub returns-in-Ok-clause-ok : goal.returns-in-Ok-clause-ok
returns-in-Ok-clause-ok c = IsIteInterned-new _ _ _ _ _ _ c.in_default.ensures.none c.in-Ok.ensures.ok

pub returns-in-Ok-clause-full : goal.returns-in-Ok-clause-full
returns-in-Ok-clause-full c =
    let size = c.ite_size.ensures.size (length c.args.self.now) c.args.c in
    ((λ e. cc), (λ full. absurd (omega (arith, size, c.ite_size.ensures.few, full.1, c.len-before.ensures.count, c.if-before-ite_size.false))))

pub returns-in-Err-clause-full : goal.returns-in-Err-clause-full
returns-in-Err-clause-full c =
    let size = c.ite_size.ensures.size (length c.args.self.now) c.args.c in
    let memory = c.in-Err.ensures.memory in
    ((λ e. cc), (λ full. absurd (omega (arith, size, c.ite_size.ensures.few, full.1, c.len-before.ensures.count, c.if-before-ite_size.false))))
