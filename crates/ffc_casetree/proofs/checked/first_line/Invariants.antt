use Rattle.std.proofs.Common.{◌≡◌, take}
use Rattle.ffc_ckpoly.specs.Flat.{as_written}
use Rattle.ffc_casetree.proofs.checked.first_line.Given as goal

abbrev pub invariant-loop-i : goal.invariant-loop-i
invariant-loop-i g l = as_written g.F.Field.value l.terms.items (λ v. v.items) ≡ take l.i l.poly
