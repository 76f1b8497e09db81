use Rattle.std.proofs.Common.{◌≡◌, length, Ok, sym, ap, ◌∙◌, arith}
use Rattle.std.proofs.lemmas.Bool.{eqb-true}
use Rattle.ffc_ckpoly.proofs.SortedLemmas.{nothing_past}
use Rattle.ffc_trees.specs.TreeLines.{limits}
use Rattle.ffc_stack.specs.Stacks.{generators}
use Rattle.ffc_search.proofs.accepting.is_accepted.Goals as goal

pub returns-in-Ok : goal.returns-in-Ok
returns-in-Ok g c = λ yes.
    let tree = c.args.tree.now in
    let count : c.in-Ok.count ≡ length tree = eqb-true c.in-Ok.count (length tree) yes in
    sym (c.trees_read_alike.ensures.trees limits g.F.Field.ORDER c.in_ok-first.first.items (generators c.args.lines.now) tree (omega (arith, g.met.F.Field.prime.least)) c.in_ok-first.ensures.same)
    ∙ (c.in-Ok.ensures.read ∙ ap Ok (nothing_past c.in-Ok.count tree (omega (arith, count))))
