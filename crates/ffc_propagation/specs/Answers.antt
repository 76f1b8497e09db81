-- What propagation answers of a check.
use Rattle.std.specs.Prelude.{◌≡◌, ℕ, ◌≤◌, Bool, true, false, List, [], length, reverse}
use Rattle.ffc_base.specs.Metering.{Spending, more}
use Rattle.ffc_base.specs.declared.meter.Unit.TheVariants.{Assignment}
use Rattle.ffc_bounds.specs.Forced.{IsForced}
use Rattle.ffc_clause.specs.Clauses.{Literal, negated, is_among}
use Rattle.ffc_refutation.specs.Forcing.{Forces, IsConflict}
use Rattle.ffc_refutation.specs.declared.reason.Reason.{Reason}
use Rattle.ffc_rules.specs.Cones.{cone}
use Rattle.ffc_rules.specs.Entries.{NodeCheck}
use Rattle.ffc_propagation.specs.declared.propagation.Propagated.{Propagated}
use Rattle.ffc_propagation.specs.declared.propagation.Propagated.TheVariants.{Forced, Refuted}
use Rattle.ffc_propagation.specs.declared.trail.Trail.{Trail}

-- The literals are just those that are forced, the reasons force them in turn, and none is there with its negation.
pub record AreAllForced (c : NodeCheck) (literals : List Literal) (reasons : List Reason) : Type 0 where
  pub forces : Forces c [] reasons (reverse literals)
  pub few : length reasons ≤ 1048576
  pub sound : (l : Literal) → is_among literals l ≡ true → IsForced c l
  pub complete : (l : Literal) → IsForced c l → is_among literals l ≡ true
  pub apart : (l : Literal) → is_among literals l ≡ true → is_among literals (negated l) ≡ false

-- the reasons are a conflict
pub record AreConflicting (c : NodeCheck) (reasons : List Reason) : Type 0 where
  pub conflict : IsConflict c reasons
  pub few : length reasons ≤ 1048577

abbrev pub IsPropagated : NodeCheck → Propagated → Type 0
IsPropagated c (Forced literals reasons) = AreAllForced c literals.items reasons.items
IsPropagated c (Refuted reasons) = AreConflicting c reasons.items

abbrev pub IsAnswer : NodeCheck → Trail → Bool → Type 0
IsAnswer c t true = AreConflicting c t.reasons.items
IsAnswer c t false = AreAllForced c t.literals.items t.reasons.items

-- the same of a trail, which has at most one literal for each node of the check
pub record IsFound (c : NodeCheck) (t : Trail) (clash : Bool) : Type 0 where
  pub answer : IsAnswer c t clash
  pub few : length t.literals.items ≤ length (cone c.nodes c.in_force)

-- only Assignments are taken, at most so many
pub record AssignsAtMost (most : ℕ) (old new : Spending) : Type 0 where
  pub count : ℕ
  pub few : count ≤ most
  pub is : new ≡ more old Assignment count
