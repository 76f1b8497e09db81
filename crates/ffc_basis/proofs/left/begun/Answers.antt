use Rattle.std.proofs.Common.{List, sym, ap, subst}
use Rattle.ffc_ring.specs.Polynomial.{Terms}
use Rattle.ffc_dense.specs.Tables.{AreMultiplesOf, Multiple}
use Rattle.ffc_basis.proofs.KeptLemmas.{no_multiples}
use Rattle.ffc_basis.proofs.left.begun.Goals as goal

pub returns-clause-multiples : goal.returns-clause-multiples
returns-clause-multiples g c = λ gs all.
    subst (λ (t : Terms × List Multiple). AreMultiplesOf g.F.Field.ORDER gs t.1) (sym c.taken-2.ensures.table) (c.is_loaded.ensures.multiples gs all)

pub returns-clause-rest : goal.returns-clause-rest
returns-clause-rest g c = λ gs all.
    no_multiples g.F.Field.ORDER gs c.taken-2.new.table.1 (ap (λ (t : Terms × List Multiple). t.1) c.taken-2.ensures.empty)
