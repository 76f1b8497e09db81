use Rattle.std.proofs.Common.{◌≡◌, ◌<◌, ◌∷◌, [], map, reverse, refl, sym, ap, ◌∙◌, subst, arith}
use Rattle.std.proofs.lemmas.Result.{IfOk-weaker}
use Rattle.ffc_trees.specs.Trees.{Stage, Within, with_power}
use Rattle.ffc_trees.specs.TreeLines.{fermat_line}
use Rattle.ffc_trees.specs.Same.{IsSameLine, IsSameStage}
use Rattle.ffc_cktree.specs.Factors.{factor_of, factors_of}
use Rattle.ffc_cktree.specs.declared.chain.Running.{Running}
use Rattle.ffc_cktree.specs.Walking.{power_of}
use Rattle.ffc_cktree.specs.Waiting.{branches_of}
use Rattle.ffc_cktree.proofs.ChainLemmas.{factors-push}
use Rattle.ffc_cktree.proofs.WalkLemmas.{lines_alike, branches_alike, push_alike, none_pushed}
use Rattle.ffc_cktree.proofs.walk.with_power.Goals as goal

pub returns-in_default : goal.returns-in_default
returns-in_default g c =
    let value = g.F.Field.value in
    let p = g.F.Field.ORDER in
    let some : 0 < p = omega (arith, g.met.F.Field.prime.least) in
    let lines = c.args.lines.items in
    let others = branches_of p lines (reverse c.args.waiting.items) in
    let f = map value c.args.modulus.items in
    let r = map value c.args.power.items in
    let none : c.args.factors.items ≡ [] = none_pushed c.args.factors.items c.pop.result c.args.factors.len c.pop.new.self.len c.in_default.is (omega (arith, c.args.factors.ok)) c.pop.ensures.cases in
    let same : IsSameLine p c.in_ok-line.line (fermat_line p c.args.variable r) =
    subst (λ l. IsSameLine p c.in_ok-line.line (fermat_line p c.args.variable (map value l))) c.as_slice.ensures.value c.in_ok-line.ensures.same in
    IfOk-weaker c.with_line.result _ (λ w. IsSameStage p w (with_power p c.args.variable f lines others (factors_of c.args.factors.items) r))
    (λ w h. subst (λ fs. IsSameStage p w (with_power p c.args.variable f lines others (factors_of fs) r)) (sym none)
    (subst (λ (s : Stage). IsSameStage p s (with_power p c.args.variable f lines others [] r)) (sym h)
    (push_alike p lines c.in_ok-line.line (fermat_line p c.args.variable r) c.requires.lines same, branches_alike p lines (reverse c.args.waiting.items) some c.requires.lines))) c.with_line.ensures

pub returns : goal.returns
returns g c =
    let value = g.F.Field.value in
    let p = g.F.Field.ORDER in
    let some : 0 < p = omega (arith, g.met.F.Field.prime.least) in
    let lines = c.args.lines.items in
    let cases = reverse c.args.waiting.items in
    let others = branches_of p lines cases in
    let f = map value c.args.modulus.items in
    let r = map value c.args.power.items in
    let factors = ap factors_of c.in-Some.ensures.items ∙ factors-push c.pop.new.self.items c.in-Some.factor in
    let chain : Running g.row.F.Denot = record { variable = c.args.variable; modulus = c.args.modulus; power = c.args.power; factor = c.in-Some.factor; factors = c.pop.new.self } in
    let stage : Stage = Within (power_of value chain) lines others in
    let same : IsSameStage p stage (with_power p c.args.variable f lines others (factor_of c.in-Some.factor ∷ factors_of c.pop.new.self.items) r) =
    (refl, lines_alike p lines c.requires.lines, branches_alike p lines cases some c.requires.lines) in
    subst (λ fs. IsSameStage p stage (with_power p c.args.variable f lines others fs r)) (sym factors) same
