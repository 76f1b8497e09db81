use Rattle.std.proofs.Common.{◌+◌, ◌≤◌, subst, arith}
use Rattle.ffc_base.specs.Metering.{total}
use Rattle.ffc_basis.specs.Completed.{HasTaken}
use Rattle.ffc_basis.proofs.basis.Basis.complete.Goals as goal

pub returns-in-Ok-Left-clause-metered : goal.returns-in-Ok-Left-clause-metered
returns-in-Ok-Left-clause-metered g c = (
  c.complete_within.ensures.metered.0,
  λ _.
      let old = c.args.meter.now in
      let new = c.complete_within.new.meter in
      let taken : total old + 18446744073709551615 ≤ total new = subst (HasTaken old new 18446744073709551615) c.in-Ok-Left.field-0-is c.in-Ok-Left.ensures.left in
      omega (arith, c.budget-budget.type_inv, c.budget-budget.ensures.budget, c.budget-budget.ensures.within, taken),
)
