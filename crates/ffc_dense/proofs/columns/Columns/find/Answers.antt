use Rattle.std.proofs.Common.{◌≡◌, ◌<◌, [], length, get_or, sym, ap, subst}
use Rattle.ffc_dense.specs.Columns.{IsNew}
use Rattle.ffc_dense.proofs.ColumnLemmas.{number_found, number_missed}
use Rattle.ffc_dense.proofs.columns.Columns.find.Goals as goal

pub returns-in-Some-clause-some : goal.returns-in-Some-clause-some
returns-in-Some-clause-some g c =
    subst (λ ms. (c.in-Some.number < length ms) × (get_or ms c.in-Some.number [] ≡ c.args.m.now)) (ap (λ v. v.0) c.self.view_is)
    (number_found c.self.inside.monomials.keys c.args.m.now c.in-Some.number (sym c.in-Some.ensures.index))

pub returns-in-None-clause-none : goal.returns-in-None-clause-none
returns-in-None-clause-none g c =
    subst (λ ms. IsNew ms c.args.m.now) (ap (λ v. v.0) c.self.view_is) (number_missed c.self.inside.monomials.keys c.args.m.now (sym c.in-None.ensures.found))
