use Rattle.std.proofs.Common.{◌≡◌, sym, ap, subst}
use Rattle.ffc_dense.specs.Tables.{AreMultiplesOf}
use Rattle.ffc_dense.proofs.TableLemmas.{multiples_before}
use Rattle.ffc_dense.proofs.table.Table.cut.Goals as goal

pub returns-clause-multiples : goal.returns-clause-multiples
returns-clause-multiples g c gs all =
    let p = g.F.Field.ORDER in
    multiples_before g.F.Field.value p c.self.inside.dense.0 gs c.args.len c.self.inside.kept.items c.drop_from.new.kept.items c.drop_from.ensures
    (subst (AreMultiplesOf p gs) (ap (λ v. v.1) (sym c.self.view_is)) all)
