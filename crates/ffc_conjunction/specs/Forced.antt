-- What is forced of a check's nodes: a mark for each node, and the reasons in the order in which they force.
use Rattle.std.specs.Prelude.{◌≡◌, ℕ, ◌+◌, ◌≤◌, ◌⊎◌, Bool, true, false, List, [], ◌∷◌, length, count_by, slice_index_or, Some, if◌then◌else◌}
use Rattle.ffc_clause.specs.Clauses.{Literal, Clause, plus, minus, is_among}
use Rattle.ffc_refutation.specs.declared.reason.Reason.{Reason}
use Rattle.ffc_refutation.specs.Forcing.{reason_clause, Forces, IsConflict}
use Rattle.ffc_rules.specs.Cones.{is_listed}
use Rattle.ffc_rules.specs.Entries.{NodeCheck}
use Rattle.ffc_conjunction.specs.declared.forcing.Forcing.{Forcing}
use Rattle.ffc_conjunction.specs.declared.forcing.Mark.{Mark}
use Rattle.ffc_conjunction.specs.declared.forcing.Mark.TheVariants.{Unmarked, Asserted, Denied}

abbrev pub is_asserted : Mark → Bool
is_asserted Unmarked = false
is_asserted Asserted = true
is_asserted Denied = false

abbrev pub is_denied : Mark → Bool
is_denied Unmarked = false
is_denied Asserted = false
is_denied Denied = true

abbrev pub is_marked : Mark → Bool
is_marked Unmarked = false
is_marked Asserted = true
is_marked Denied = true

abbrev pub mark_at : List Mark → ℕ → Mark
mark_at marks id = slice_index_or marks id Unmarked

-- The reason's clause has this literal, and where it has another one that is the negation of a found node.
pub record Gives (c : NodeCheck) (found : List ℕ) (l : Literal) (x : Reason) : Type 0 where
  pub clause : Clause
  pub given : reason_clause c x ≡ Some clause
  pub others : (clause ≡ l ∷ []) ⊎ ((v : ℕ) × (is_listed found v ≡ true) × (clause ≡ minus v ∷ l ∷ []))

-- The reasons force just the found nodes and the negations of the denied ones.
pub record AreReasons (c : NodeCheck) (found denied : List ℕ) (marks : List Mark) (reasons : List Reason) : Type 0 where
  pub marked : (id : ℕ) → is_denied (mark_at marks id) ≡ is_listed denied id
  pub forced : List Literal
  pub forces : Forces c [] reasons forced
  pub found_are : (id : ℕ) → is_among forced (plus id) ≡ is_listed found id
  pub denied_are : (id : ℕ) → is_among forced (minus id) ≡ is_listed denied id

-- Just the found nodes are marked as asserted. The reasons force them and the negations of the denied nodes, or end with a clause
-- that is then false. There is at most one for each marked node, and one for the clash.
pub record IsForced (c : NodeCheck) (found denied : List ℕ) (marks : List Mark) (reasons : List Reason) (clashes : Bool) : Type 0 where
  pub long : length marks ≡ length c.nodes
  pub asserted : (id : ℕ) → is_asserted (mark_at marks id) ≡ is_listed found id
  pub few : length reasons ≤ count_by is_marked marks + (if clashes then 1 else 0)
  pub clash : clashes ≡ true → IsConflict c reasons
  pub free : clashes ≡ false → AreReasons c found denied marks reasons

abbrev pub IsForcing : NodeCheck → List ℕ → List ℕ → Forcing → Type 0
IsForcing c found denied f = IsForced c found denied f.marks.items f.reasons.items f.clashes
