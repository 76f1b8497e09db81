-- The nodes of a check, and the assertions and the constants among them.
use Rattle.std.specs.Prelude.{◌≡◌}
use Rattle.std.specs.List.Sorted.{IsStrictlyIncreasing}
use Rattle.ffc_term.specs.Checks.{IsClosed}
use Rattle.ffc_term.specs.Lists.{HaveSameNumbers}
use Rattle.ffc_rules.specs.Cones.{cone, cone_constants}
use Rattle.ffc_rules.specs.Entries.{NodeCheck}
use Rattle.ffc_trials.specs.declared.cone.Cone.{Cone}

pub record IsConeOf (c : NodeCheck) (parts : Cone) : Type 0 where
  pub all : parts.nodes.items ≡ cone c.nodes c.in_force
  pub closed : IsClosed c.nodes parts.nodes.items
  pub increasing : IsStrictlyIncreasing parts.assertions.items
  pub assertions : HaveSameNumbers parts.assertions.items c.in_force
  pub constants : parts.constants.items ≡ cone_constants c.nodes c.in_force
