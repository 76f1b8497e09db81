-- The trees that are not begun are few against the bytes that were read.
use Rattle.std.proofs.Common.{ℕ, ◌+◌, ◌*◌, ◌^◌, ◌<◌, ◌≤◌, arith}
use Rattle.ffc_cert.specs.declared.entries.CertLine.{CertLine}
use Rattle.ffc_cert.specs.declared.entries.CertLine.TheVariants.{Assume, Scheme, Hinted, Lemma, Combine, Bits, Chain, Step, Split, Values, Close}
use Rattle.ffc_cert.specs.declared.forms.Awaited.{Awaited}
use Rattle.ffc_cert.specs.Trees.{new_trees}
use Rattle.ffc_cert.specs.Reading.{awaited_after}

pub trees_after : (line : CertLine) (a : Awaited) (bytes size : ℕ) → a.trees ≤ 2 ^ 32 * bytes → new_trees line < 2 ^ 32
    → (awaited_after line a).trees ≤ 2 ^ 32 * (bytes + (size + 1))
unfolding awaited_after
trees_after (Assume k) a bytes size few new = omega arith
trees_after (Scheme node scheme index) a bytes size few new = omega arith
trees_after (Hinted lits hints) a bytes size few new = omega arith
trees_after (Lemma order lits) a bytes size few new = omega arith
trees_after (Combine multiples) a bytes size few new = omega arith
trees_after (Bits line chosen polynomial bits) a bytes size few new = omega arith
trees_after (Chain line variable steps) a bytes size few new = omega arith
trees_after (Step quotient remainder) a bytes size few new = omega arith
trees_after (Split line variable zeros) a bytes size few new = omega arith
trees_after (Values variable trees) a bytes size few new = omega arith
trees_after Close a bytes size few new = omega arith
