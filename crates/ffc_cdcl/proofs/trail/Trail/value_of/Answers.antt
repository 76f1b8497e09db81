use Rattle.std.proofs.Common.{◌<◌, Contains, IfSome, length, arith, subst}
use Rattle.ffc_cdcl.specs.Trails.{Assigned, IsOpen}
use Rattle.ffc_cdcl.proofs.TrailLemmas.{value_given, value_none}
use Rattle.ffc_cdcl.proofs.trail.Trail.value_of.Goals as goal

pub returns-then-node-len-clause-given : goal.returns-then-node-len-clause-given
returns-then-node-len-clause-given c =
    let s = c.self.inside in
    let inside : c.args.node < length s.values.items = omega (arith, c.if-node-len.true, c.len.ensures, s.values.ok.0) in
    subst (λ (t : Assigned). IfSome c.index.result.now (λ b. Contains t.literals (b, c.args.node))) c.self.view_is
    (value_given s.values.items s.literals.items c.self.invariant c.args.node c.index.result.now inside c.index.ensures)

pub returns-then-node-len-clause-none : goal.returns-then-node-len-clause-none
returns-then-node-len-clause-none c none below =
    let s = c.self.inside in
    let inside : c.args.node < length s.values.items = omega (arith, c.if-node-len.true, c.len.ensures, s.values.ok.0) in
    subst (λ (t : Assigned). IsOpen t c.args.node) c.self.view_is
    (value_none s.values.items s.literals.items c.self.invariant c.args.node c.index.result.now inside c.index.ensures none)
