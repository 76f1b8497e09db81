use Rattle.std.proofs.Common.{All, sym, ap, ◌∙◌, subst}
use Rattle.ffc_cert.specs.Ranges.{IsLine}
use Rattle.ffc_cert.specs.declared.entries.CertLine.TheVariants.{Combine, Bits}
use Rattle.ffc_ring.specs.Polynomial.{AreTerms}
use Rattle.ffc_trees.specs.TreeLines.{are_below, Multiple}
use Rattle.ffc_cktree.proofs.RangeLemmas.{terms_from, multiples_from, values_below}
use Rattle.ffc_cktree.proofs.walk.read_branch.Goals as goal

pub add_sum-requires-clause-terms_are : goal.add_sum-requires-clause-terms_are
add_sum-requires-clause-terms_are g c =
    let ranges : IsLine (Combine c.in-Combine.multiples) = subst IsLine c.in-Combine.is c.requires.ranges in
    subst (All (λ (m : Multiple). AreTerms m.1)) (sym c.as_slice.ensures) (multiples_from c.in-Combine.multiples ranges)

pub add_bits-requires-clause-terms_are : goal.add_bits-requires-clause-terms_are
add_bits-requires-clause-terms_are g c =
    let line = c.in-Bits in
    let ranges : IsLine (Bits line.k line.chosen line.written line.numbers) = subst IsLine line.is c.requires.ranges in
    subst AreTerms (sym c.as_slice-in-Bits-2.ensures) (terms_from line.written ranges.1.1.0.each)

pub branch_off-requires-in-Values-clause-residues : goal.branch_off-requires-in-Values-clause-residues
branch_off-requires-in-Values-clause-residues g c =
    ap (are_below g.F.Field.ORDER) (c.as_slice-in-Values.ensures.value ∙ c.in_ok-roots-in-Values.ensures.all) ∙ values_below g.F.Field.ORDER
