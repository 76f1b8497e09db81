-- What the reasons of a trail force of a check.
use Rattle.std.specs.Prelude.{◌≡◌, Bool, true, false, List, [], Contains, Some, reverse}
use Rattle.ffc_bounds.specs.Forced.{check_clauses, IsForced}
use Rattle.ffc_clause.specs.Clauses.{Literal, Clause, is_among}
use Rattle.ffc_encode.specs.declared.clauses.NodeClause.{NodeClause}
use Rattle.ffc_refutation.specs.declared.reason.Reason.{Reason}
use Rattle.ffc_refutation.specs.declared.reason.Reason.TheVariants.{Scheme}
use Rattle.ffc_refutation.specs.Forcing.{reason_clause, Forces, IsConflict}
use Rattle.ffc_rules.specs.Entries.{NodeCheck}
use Rattle.ffc_propagation.specs.declared.trail.Trail.{Trail}

-- the reason gives this clause, which is one of the check's
pub record IsGiven (c : NodeCheck) (reason : Reason) (clause : Clause) : Type 0 where
  pub given : reason_clause c reason ≡ Some clause
  pub listed : Contains (check_clauses c) clause

-- the clause of a node is one of the check's
abbrev pub IsGivenClause : NodeCheck → NodeClause → Type 0
IsGivenClause c clause = IsGiven c (Scheme clause.node clause.scheme clause.index) clause.lits

abbrev pub AreForced : NodeCheck → Trail → Type 0
AreForced c t = (l : Literal) → is_among t.literals.items l ≡ true → IsForced c l

-- the reasons force the literals
pub record IsForcing (c : NodeCheck) (t : Trail) : Type 0 where
  pub forces : Forces c [] t.reasons.items (reverse t.literals.items)
  pub sound : AreForced c t

-- the reasons are a conflict
pub record IsRefuting (c : NodeCheck) (t : Trail) : Type 0 where
  pub conflict : IsConflict c t.reasons.items
  pub sound : AreForced c t

abbrev pub Forced : NodeCheck → Trail → Bool → Type 0
Forced c t true = IsRefuting c t
Forced c t false = IsForcing c t
