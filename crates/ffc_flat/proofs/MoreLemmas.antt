-- What combinations decide within some units they decide within more, and nothing within fewer than the check has nodes.
use Rattle.std.proofs.Common.{ℕ, Bool, List, length, ◌<◌, ◌≤◌, arith}
use Rattle.ffc_bounds.specs.Combinations.{IsReached, IsRefutedByCombination, IsSolvedByCombination}
use Rattle.ffc_bounds.specs.Forced.{IsRefutedByForcing}
use Rattle.ffc_rules.specs.Cones.{cone}
use Rattle.ffc_rules.specs.Entries.{NodeCheck}
use Rattle.ffc_flat.specs.Answering.{IsBeyondFlat}

reached_by_more : (n m : ℕ) (c : NodeCheck) (equal unequal : List ℕ) (all : Bool) (degree : ℕ) → n ≤ m → IsReached n c equal unequal all degree → IsReached m c equal unequal all degree
reached_by_more n m c equal unequal all degree more r = record {
  one_field = r.one_field;
  low = r.low;
  short = r.short;
  forced = r.forced;
  least = r.least;
  most = r.most;
  generators_low = r.generators_low;
  unequal_low = r.unequal_low;
  some_variable = r.some_variable;
  few_columns = r.few_columns;
  few_rows = r.few_rows;
  enough = let enough = r.enough in omega arith;
}

refuted_by_more : (n m : ℕ) (c : NodeCheck) → n ≤ m → IsRefutedByCombination n c → IsRefutedByCombination m c
refuted_by_more n m c more f = record {
  equal = f.equal;
  unequal = f.unequal;
  all = f.all;
  degree = f.degree;
  reached = reached_by_more n m c f.equal f.unequal f.all f.degree more f.reached;
  summands = f.summands;
  each = f.each;
  sum = f.sum;
}

solved_by_more : (n m : ℕ) (c : NodeCheck) → n ≤ m → IsSolvedByCombination n c → IsSolvedByCombination m c
solved_by_more n m c more f = record {
  conjunction = f.conjunction;
  no_ite = f.no_ite;
  equal = f.equal;
  unequal = f.unequal;
  all = f.all;
  degree = f.degree;
  reached = reached_by_more n m c f.equal f.unequal f.all f.degree more f.reached;
  each = f.each;
}

-- beyond what more units decide
pub beyond_more : (n m : ℕ) (c : NodeCheck) → n ≤ m → (IsRefutedByForcing n c → ⊥) → (IsRefutedByCombination m c → ⊥) → (IsSolvedByCombination m c → ⊥) → IsBeyondFlat n c
beyond_more n m c more not_forced not_refuted not_solved = record {
  not_forced = not_forced;
  not_refuted = λ f. not_refuted (refuted_by_more n m c more f);
  not_solved = λ f. not_solved (solved_by_more n m c more f);
}

-- beyond fewer units than the check has nodes
pub beyond_few : (n : ℕ) (c : NodeCheck) → n < length (cone c.nodes c.in_force) → IsBeyondFlat n c
beyond_few n c few = record {
  not_forced = λ f. let enough = f.enough in omega arith;
  not_refuted = λ f. let enough = f.reached.enough in omega arith;
  not_solved = λ f. let enough = f.reached.enough in omega arith;
}
