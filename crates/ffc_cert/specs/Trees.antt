-- The trees that a line calls for.
use Rattle.std.specs.Prelude.{ℕ, length}
use Rattle.ffc_cert.specs.declared.entries.CertLine.{CertLine}
use Rattle.ffc_cert.specs.declared.entries.CertLine.TheVariants.{Assume, Scheme, Hinted, Lemma, Combine, Bits, Chain, Step, Split, Values, Close}

-- how many trees a line puts in the place of its own
abbrev pub new_trees : CertLine → ℕ
new_trees (Assume k) = 0
new_trees (Scheme node scheme index) = 0
new_trees (Hinted lits hints) = 0
new_trees (Lemma order lits) = 0
new_trees (Combine multiples) = 0
new_trees (Bits line chosen polynomial bits) = 0
new_trees (Chain line variable steps) = 0
new_trees (Step quotient remainder) = 0
new_trees (Split line variable zeros) = length zeros
new_trees (Values variable trees) = trees
new_trees Close = 0
