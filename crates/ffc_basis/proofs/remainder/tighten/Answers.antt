use Rattle.std.proofs.Common.{◌≡◌, ◌+◌, ◌≤◌, ◌⊎◌, length, subst, arith}
use Rattle.ffc_basis.specs.Remainders.{front_of}
use Rattle.ffc_basis.proofs.RecordLemmas.{length-residues}
use Rattle.ffc_basis.proofs.SplitLemmas.{tightened}
use Rattle.ffc_basis.proofs.remainder.tighten.Goals as goal

pub returns-clause-split : goal.returns-clause-split
returns-clause-split g c =
    let value = g.F.Field.value in
    let old = c.args.rest.now in
    let n = c.bound-rest.result in
    let finished : c.len.result ≡ length (front_of value old) = omega (arith, c.len.ensures, length-residues value old.finished.items, old.finished.ok) in
    tightened g.F.Field.ORDER g.O.MonoOrder.cmp (front_of value old) old.left.0 old.most n c.requires
    (subst (λ f. (n ≡ old.most) ⊎ ((f + length old.left.0 ≤ n) × (n ≤ old.most))) finished c.bound-rest.ensures)
