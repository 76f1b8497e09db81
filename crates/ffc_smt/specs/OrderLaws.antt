-- The orders of scripts are the eight of the solver's fields.
use Rattle.std.specs.Prelude.{◌≡◌, ℕ, ◌↔◌, true, All, Contains}
use Rattle.ffc_field.specs.Orders.{IsOrder}
use Rattle.ffc_smt.specs.Trees.{Tree}
use Rattle.ffc_smt.specs.Terms.{Command}
use Rattle.ffc_smt.specs.Numbers.{orders, is_order}
use Rattle.ffc_smt.specs.Scopes.{State}
use Rattle.ffc_smt.specs.Faults.{Sound}
use Rattle.ffc_smt.specs.CommandReading.{Limits, command_read}
use Rattle.ffc_smt.specs.Scripts.{named_orders}

pub record OrdersAreTheEight : Type 0 where
  pub listed : (p : ℕ) → Contains orders p ↔ IsOrder p
  pub tested : (p : ℕ) → (is_order p ≡ true) ↔ IsOrder p
  -- those that a command names
  pub named : (l : Limits) (s : State) (tree : Tree) (c : Command) → command_read l s tree ≡ Sound c → All IsOrder (named_orders c tree)
