use Rattle.std.proofs.Common.{◌≡◌, sym, ap, subst}
use Rattle.ffc_dense.specs.Tables.{AreMultiplesOf}
use Rattle.ffc_dense.proofs.TableLemmas.{kept_longer, multiples_longer}
use Rattle.ffc_dense.proofs.table.Table.load.Goals as goal

pub invariant_of-self : goal.invariant_of-self
invariant_of-self g c =
    kept_longer g.F.Field.value g.F.Field.ORDER g.O.MonoOrder.cmp c.self.inside.dense.0 c.replace.new.self.0 c.self.inside.kept.items c.replace.ensures.more c.self.invariant

pub returns-in_err-done-clause-multiples : goal.returns-in_err-done-clause-multiples
returns-in_err-done-clause-multiples g c gs all =
    multiples_longer g.F.Field.value g.F.Field.ORDER g.O.MonoOrder.cmp gs c.self.inside.dense.0 c.replace.new.self.0 c.self.inside.kept.items c.replace.ensures.more c.self.invariant
    (subst (AreMultiplesOf g.F.Field.ORDER gs) (ap (λ v. v.1) (sym c.self.view_is)) (c.renew.ensures gs all))

pub invariant_of-self-2 : goal.invariant_of-self-2
invariant_of-self-2 g c =
    kept_longer g.F.Field.value g.F.Field.ORDER g.O.MonoOrder.cmp c.self.inside.dense.0 c.replace.new.self.0 c.self.inside.kept.items c.replace.ensures.more c.self.invariant

pub returns-clause-multiples : goal.returns-clause-multiples
returns-clause-multiples g c gs all =
    multiples_longer g.F.Field.value g.F.Field.ORDER g.O.MonoOrder.cmp gs c.self.inside.dense.0 c.replace.new.self.0 c.self.inside.kept.items c.replace.ensures.more c.self.invariant
    (subst (AreMultiplesOf g.F.Field.ORDER gs) (ap (λ v. v.1) (sym c.self.view_is)) (c.renew.ensures gs all))
