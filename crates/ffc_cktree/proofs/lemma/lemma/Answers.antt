use Rattle.std.proofs.Common.{◌≡◌, Ok, drop, sym, ◌∙◌, arith}
use Rattle.std.proofs.lemmas.Result.{IfOk-weaker}
use Rattle.ffc_trees.specs.TreeLines.{limits}
use Rattle.ffc_trees.specs.Trees.{tree_read}
use Rattle.ffc_trees.specs.FirstLines.{first_lines}
use Rattle.ffc_cktree.proofs.FirstLemmas.{read_alike}
use Rattle.ffc_cktree.proofs.lemma.lemma.Goals as goal

pub returns-clause-read : goal.returns-clause-read
returns-clause-read g c =
    let p = g.F.Field.ORDER in
    let lines = c.args.lines.now in
    let other = first_lines c.args.polys.now p c.args.lits.now in
    let same = read_alike limits p c.in_ok-first.first.items other lines (omega (arith, g.met.F.Field.prime.least)) c.in_ok-first.ensures.same in
    IfOk-weaker c.read_tree.result _ (λ n. tree_read limits p other lines ≡ Ok (drop n lines)) (λ n h. sym same ∙ h) c.read_tree.ensures.read

pub returns-clause-broken : goal.returns-clause-broken
returns-clause-broken g c b e =
    let p = g.F.Field.ORDER in
    let lines = c.args.lines.now in
    let other = first_lines c.args.polys.now p c.args.lits.now in
    sym (read_alike limits p c.in_ok-first.first.items other lines (omega (arith, g.met.F.Field.prime.least)) c.in_ok-first.ensures.same) ∙ c.read_tree.ensures.broken b e
