use Rattle.std.proofs.Common.{◌≡◌, ◌-◌, length, drop, refl, sym, subst, arith}
use Rattle.std.proofs.lemmas.List.{drop_all}
use Rattle.ffc_answer.proofs.ConstantLemmas.{AreListed, given_more}
use Rattle.ffc_answer.proofs.constants.give_listed.Goals as goal

pub loop-i-init : goal.loop-i-init
loop-i-init c =
    let pairs = c.args.pairs.now in
    subst (λ ps. AreListed c.args.table.now ps (length c.args.values.now) c.args.values.now) (sym (drop_all (length pairs - 0) pairs (omega arith))) c.requires.clear

pub loop-i-preserved : goal.loop-i-preserved
loop-i-preserved c =
    let same : length c.give.new.values ≡ length c.loop-i.values = c.give.auto.values in
    λ k inside.
    given_more c.args.table.now c.args.pairs.now c.loop-i.i (length c.loop-i.values) c.node.result.now c.loop-i.values c.give.new.values c.loop-i-test.true c.node.ensures.at refl c.loop-i.invariant c.give.ensures
    k (omega arith)

pub returns : goal.returns
returns c =
    let pairs = c.args.pairs.now in
    let none : length pairs - c.loop-i.i ≡ 0 = omega (arith, c.loop-i-test.false) in
    let all : AreListed c.args.table.now (drop 0 pairs) (length c.loop-i.values) c.loop-i.values = subst (λ m. AreListed c.args.table.now (drop m pairs) (length c.loop-i.values) c.loop-i.values) none c.loop-i.invariant in
    let same : length c.loop-i.values ≡ length c.args.values.now = c.loop-i.auto.values in
    λ k inside. all k (omega arith)
