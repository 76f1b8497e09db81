use Rattle.std.proofs.Common.{◌≡◌, take}
use Rattle.ffc_lemmatree.specs.Written.{appended, written_in}
use Rattle.ffc_lemmatree.proofs.written.terms_before.Given as goal

abbrev pub invariant-loop-place : goal.invariant-loop-place
invariant-loop-place l = l.terms.items ≡ appended l.last (written_in l.x (take l.place l.coefficients))
