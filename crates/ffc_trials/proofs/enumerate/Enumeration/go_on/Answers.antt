use Rattle.std.proofs.Common.{ℕ, List, length, All, sym, ap, ◌∙◌, subst, arith}
use Rattle.ffc_base.specs.Metering.{total}
use Rattle.ffc_term.specs.Nodes.{IsConstantAt}
use Rattle.ffc_rules.specs.Cones.{cone_constants}
use Rattle.ffc_check.specs.Judged.{judged_check}
use Rattle.ffc_check.proofs.AnswerLemmas.{written_back}
use Rattle.ffc_trials.specs.Counting.{advanced}
use Rattle.ffc_trials.proofs.EnumerateLemmas.{constants_all, next_reached}
use Rattle.ffc_trials.proofs.enumerate.Enumeration.go_on.Goals as goal

pub advance-requires-clause-constants : goal.advance-requires-clause-constants
advance-requires-clause-constants c =
    subst (All (IsConstantAt c.args.check.now.table.now)) (sym c.as_slice.ensures.value) (constants_all (judged_check c.args.check.now) c.requires.valid c.args.cone.now c.requires.cone)

pub loop-preserved : goal.loop-preserved
loop-preserved c =
    let check = judged_check c.args.check.now in
    let ns = check.nodes in
    let constants = cone_constants ns check.in_force in
    let old = c.is_model.new.self.values in
    let back = written_back c.advance.new.values old.items old.len (c.advance.auto.values ∙ ap length c.as_mut_slice.ensures.value) old.ok.0 in
    let kept = back ∙ c.advance.ensures
    ∙ ap (λ (ids : List ℕ). advanced ns ids c.as_mut_slice.result.now) (c.as_slice.ensures.value ∙ c.requires.cone.constants)
    ∙ ap (advanced ns constants) (c.as_mut_slice.ensures.value ∙ c.is_model.ensures.values) in
    record {
      reached = next_reached check c.requires.valid c.loop.self _ (total c.loop.meter) (total c.take.new.self) c.loop.invariant.reached c.in-Ok.ensures.one_unit
          (sym c.is_model.ensures.model ∙ c.if-is_model.false) kept c.is_model.ensures.out c.is_model.ensures.pairs;
      spent = let one = c.in-Ok.ensures.one_unit in let before = c.loop.invariant.spent in omega arith;
      budget = c.in-Ok.ensures.same_budget ∙ c.loop.invariant.budget;
    }
