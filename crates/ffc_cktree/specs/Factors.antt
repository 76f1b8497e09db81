-- The factors of a chain, as the rules have them.
use Rattle.std.specs.Prelude.{List, map, reverse}
use Rattle.ffc_trees.specs.TreeLines.{Factor, Itself, Variable}
use Rattle.ffc_cktree.specs.declared.chain.Factor.{Factor as Written}
use Rattle.ffc_cktree.specs.declared.chain.Factor.TheVariants as written

abbrev pub factor_of : Written → Factor
factor_of written.Itself = Itself
factor_of written.Variable = Variable

-- kept from the last to the first
abbrev pub factors_of : List Written → List Factor
factors_of fs = map factor_of (reverse fs)
