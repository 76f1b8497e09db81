use Rattle.std.proofs.Common.{ℕ, length, ap, arith}
use Rattle.ffc_ring.specs.Polynomial.{Terms}
use Rattle.ffc_basis.proofs.RecordLemmas.{length-residues}
use Rattle.ffc_basis.proofs.record.Multiples.len.Goals as goal

pub returns : goal.returns
returns g c =
    omega (arith, c.len.ensures, length-residues g.F.Field.value c.self.inside.terms.items, ap (λ (t : ℕ × Terms). length t.1) c.self.view_is)
