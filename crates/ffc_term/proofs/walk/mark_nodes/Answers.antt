use Rattle.std.proofs.Common.{◌+◌, ◌<◌, refl, sym, subst, arith}
use Rattle.ffc_term.specs.Marking.{IsMarking}
use Rattle.ffc_term.proofs.WalkLemmas.{IsMarking-start, IsMarking-lower, IsMarking-visit, brought_within}
use Rattle.ffc_term.proofs.walk.mark_nodes.Goals as goal

pub loop-id-init : goal.loop-id-init
loop-id-init c = record {
  marking = subst (IsMarking c.args.table.now c.args.ids.now c.mark_all.new.marks) (sym c.len-end.ensures.count) (IsMarking-start _ _ _ _ c.requires.clear c.mark_all.ensures);
  within = omega arith;
}

pub visit-requires-clause-within : goal.visit-requires-clause-within
visit-requires-clause-within c = λ k brings.
    subst (λ n. k < n) (sym c.loop-id.invariant.marking.long) (brought_within c.args.table.now c.in-Some.id k c.node.result.now c.len-end.ensures.valid c.node.ensures.at brings)

pub loop-id-preserved : goal.loop-id-preserved
loop-id-preserved c =
    let id = c.in-Some.id in
    let found = c.in-Some.ensures.some in
    let i = c.loop-id.invariant in
    record {
      marking = IsMarking-visit _ _ _ _ id (id + 1) c.node.result.now refl c.len-end.ensures.valid
          (IsMarking-lower _ _ _ (id + 1) c.loop-id.end i.marking found.2) found.1 c.node.ensures.at c.visit.ensures;
      within = omega (arith, found.0, i.within);
    }

pub returns-clause-marking : goal.returns-clause-marking
returns-clause-marking c = IsMarking-lower _ _ _ 0 c.loop-id.end c.loop-id.invariant.marking c.in_default.ensures.none
