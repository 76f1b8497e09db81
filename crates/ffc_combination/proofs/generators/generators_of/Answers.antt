use Rattle.std.proofs.Common.{◌≡◌, ◌+◌, ◌<◌, ◌≤◌, false, length, take, get_or, ap, ◌∙◌, subst, arith, length-take}
use Rattle.ffc_ring.specs.Polynomial.{Terms}
use Rattle.ffc_trees.specs.FirstLines.{first_line}
use Rattle.ffc_combination.proofs.LineLemmas.{line_at_place, generators_more}
use Rattle.ffc_combination.proofs.generators.generators_of.Goals as goal

pub generator-requires-clause-short : goal.generator-requires-clause-short
generator-requires-clause-short g c =
    let p = g.F.Field.ORDER in
    let ns = c.args.table.now in
    let ls = c.args.literals.now in
    let i = c.loop-place.place in
    let inside : i < length ls = c.loop-place-test.true in
    let number : length ns + i ≡ c.len-nodes.result + i = omega (arith, c.len-nodes.ensures.count) in
    subst (λ (ts : Terms). length ts ≤ 131072) (line_at_place p ns (length ns) ls i (false, 0) inside ∙ ap (λ k. first_line p ns k (get_or ls i (false, 0))) number) (c.requires.short i inside)

pub loop-place-preserved : goal.loop-place-preserved
loop-place-preserved g c =
    let p = g.F.Field.ORDER in
    let ns = c.args.table.now in
    let ls = c.args.literals.now in
    let i = c.loop-place.place in
    let inside : i < length ls = c.loop-place-test.true in
    let long : length (take i ls) ≡ i = omega (arith, length-take i ls, inside) in
    let number : c.len-nodes.result + i ≡ length ns + i = omega (arith, c.len-nodes.ensures.count) in
    record {
      of_table = c.in_ok-generator.ensures.of_table ∙ c.loop-place.invariant.of_table;
      all = generators_more p ns ls i (c.len-nodes.result + i) c.loop-place.generators.items c.push.new.self.items c.in_ok-generator.field-0 inside long number c.loop-place.invariant.all c.in_ok-generator.ensures.line c.in_ok-push.ensures.items;
    }
