use Rattle.std.proofs.Common.{◌≡◌, ◌<◌, ◌+◌, ◌∷◌, [], length, drop, sym, ap, ◌∙◌, subst, arith, add-one, refl}
use Rattle.std.specs.List.{AllByRecursion}
use Rattle.std.proofs.lemmas.List.{drop_all}
use Rattle.ffc_cert.specs.Ranges.{IsLine}
use Rattle.ffc_trees.specs.TreeLines.{limits}
use Rattle.ffc_trees.specs.Trees.{read_from, tree_read}
use Rattle.ffc_cktree.specs.declared.stop.LineStop.TheVariants.{Rule}
use Rattle.ffc_cktree.proofs.SumLemmas.{left_at}
use Rattle.ffc_cktree.proofs.WalkLemmas.{read_led, read_broken, read_ended, read_closed, stop_is, broken_is, stop_of, rule_of, broken_in, ok_drop}
use Rattle.ffc_cktree.proofs.walk.read_tree.Goals as goal

pub returns-then-is_closed-clause-read : goal.returns-then-is_closed-clause-read
returns-then-is_closed-clause-read g c =
    let p = g.F.Field.ORDER in
    sym c.loop-at.invariant.so_far ∙ read_closed limits p c.loop-at.walk c.loop-at.at (drop c.loop-at.at c.args.lines.now) (sym c.if-is_closed.ensures)

pub returns-in-Err-clause-broken : goal.returns-in-Err-clause-broken
returns-in-Err-clause-broken g c b e =
    let p = g.F.Field.ORDER in
    let lines = c.args.lines.now in
    let at = c.loop-at.at in
    let line = c.index-lines-at.result in
    let left = left_at lines at line c.loop-at-test.true c.index-lines-at.is in
    stop_is c.in-Err.stop at b (tree_read limits p c.args.first.items lines)
    (λ rule is. sym c.loop-at.invariant.so_far ∙ ap (read_from limits p c.loop-at.walk at) left
    ∙ read_broken limits p c.loop-at.walk at rule line (drop (at + 1) lines) (sym c.if-is_closed.ensures) (c.in-Err.ensures.broken rule (broken_is _ c.in-Err.stop rule refl is)))
    (sym c.stopped.ensures ∙ stop_of _ c.stopped.result b refl e)

pub loop-at-preserved : goal.loop-at-preserved
loop-at-preserved g c =
    let p = g.F.Field.ORDER in
    let some : 0 < p = omega (arith, g.met.F.Field.prime.least) in
    let lines = c.args.lines.now in
    let at = c.loop-at.at in
    let line = c.index-lines-at.result in
    let rest = drop (at + 1) lines in
    let left = left_at lines at line c.loop-at-test.true c.index-lines-at.is in
    let ranges : AllByRecursion IsLine (line ∷ rest) = subst (AllByRecursion IsLine) left c.loop-at.invariant.ranges in
    record {
      ranges = ranges.1;
      so_far =
          ap (λ n. read_from limits p c.in-Ok.next n rest) (add-one at)
          ∙ sym (read_led limits p c.loop-at.walk c.in-Ok.next at line rest some (sym c.if-is_closed.ensures) c.in-Ok.ensures.kept)
          ∙ ap (read_from limits p c.loop-at.walk at) (sym left) ∙ c.loop-at.invariant.so_far;
    }

pub returns-then-is_closed-2-clause-read : goal.returns-then-is_closed-2-clause-read
returns-then-is_closed-2-clause-read g c =
    let p = g.F.Field.ORDER in
    let lines = c.args.lines.now in
    sym c.loop-at.invariant.so_far ∙ read_closed limits p c.loop-at.walk c.loop-at.at (drop c.loop-at.at lines) (sym c.if-is_closed-2.ensures)
    ∙ ap (λ n. ok_drop n lines) (let same : c.loop-at.at ≡ length lines = omega (arith, c.loop-at-test.false, c.loop-at.auto.at-end) in same)

pub returns-clause-broken : goal.returns-clause-broken
returns-clause-broken g c b e =
    let p = g.F.Field.ORDER in
    let lines = c.args.lines.now in
    let at : c.loop-at.at ≡ length lines = omega (arith, c.loop-at-test.false, c.loop-at.auto.at-end) in
    let none : drop c.loop-at.at lines ≡ [] = drop_all c.loop-at.at lines c.loop-at-test.false in
    stop_is (Rule 8) (length lines) b (tree_read limits p c.args.first.items lines)
    (λ rule is. sym c.loop-at.invariant.so_far ∙ ap (read_from limits p c.loop-at.walk c.loop-at.at) none ∙ read_ended limits p c.loop-at.walk c.loop-at.at (sym c.if-is_closed-2.ensures)
    ∙ ap (λ n. broken_in n 8) at ∙ ap (λ k. broken_in (length lines) k) (rule_of 8 rule is))
    (sym c.stopped-2.ensures ∙ stop_of _ c.stopped-2.result b refl e)
