-- Whether a conjunction is linear within a number of units, by its parts.
use Rattle.std.proofs.Common.{◌≡◌, ℕ, ◌+◌, ◌*◌, ◌<◌, ◌≤◌, ◌&&◌, nat_lt, nat_le, Bool, true, false, List, length, get_or, drop, sym, ap, ap₂, ◌∙◌}
use Rattle.std.specs.List.{list_all}
use Rattle.std.proofs.lemmas.Bool.{and_right, lt-ltb, le-ltb}
use Rattle.std.proofs.lemmas.List.{drop_more}
use Rattle.ffc_bounds.specs.Conjunctions.{is_conjunction, has_no_ite, has_one_order, field_order}
use Rattle.ffc_bounds.specs.Linear.{most_linear, is_affine, is_linear, is_linear_within, constant_number, equation_number, disequation_number, linear_units}
use Rattle.ffc_rules.specs.Entries.{NodeCheck, limits}
use Rattle.ffc_term.specs.declared.node.Node.{Node}
use Rattle.ffc_term.specs.Measuring.{degree_at, length_at}

-- one fails a test of all
pub one_failed : (test : ℕ → Bool) (xs : List ℕ) (i : ℕ) (all : Bool) → i < length xs → test (get_or xs i 0) ≡ false → list_all test (drop i xs) ≡ all → false ≡ all
one_failed test xs i all inside fails so_far =
    sym (ap (list_all test) (drop_more xs i 0 inside) ∙ ap (λ b. b && list_all test (drop (i + 1) xs)) fails) ∙ so_far

-- a node is affine, and has few terms
abbrev pub is_affine_at : List Node → ℕ → Bool
is_affine_at ns id = nat_le (degree_at ns id) 1 && nat_le (length_at ns id) 65536

module _ (c : NodeCheck) (units : ℕ) (plain : is_conjunction c.nodes c.in_force ≡ true) (one : has_one_order c.nodes c.in_force ≡ true) where
  -- the bounds on numbers
  abbrev pub are_few : Bool
  are_few =
      nat_lt (disequation_number c) (field_order c.nodes c.in_force)
      && (nat_le (constant_number c) most_linear
      && (nat_le (equation_number c + disequation_number c) most_linear
      && nat_le (linear_units c) units))

  by_parts : is_linear_within limits c units ≡ ((has_no_ite c.nodes c.in_force && is_affine limits c) && are_few)
  unfolding is_linear_within is_linear
  by_parts = ap₂ (λ a b. (a && (has_no_ite c.nodes c.in_force && (b && is_affine limits c))) && are_few) plain one

  pub with_ite : has_no_ite c.nodes c.in_force ≡ false → false ≡ is_linear_within limits c units
  with_ite some = sym (by_parts ∙ ap (λ b. (b && is_affine limits c) && are_few) some)

  pub not_affine : is_affine limits c ≡ false → false ≡ is_linear_within limits c units
  not_affine is = sym (by_parts ∙ ap (λ b. b && are_few) (and_right (has_no_ite c.nodes c.in_force) (is_affine limits c) is))

  pub by_numbers : has_no_ite c.nodes c.in_force ≡ true → is_affine limits c ≡ true → are_few ≡ is_linear_within limits c units
  by_numbers none is = sym (by_parts ∙ ap₂ (λ a b. (a && b) && are_few) none is)

  -- where there is no `ite` and all is affine, numbers decide
  module _ (none : has_no_ite c.nodes c.in_force ≡ true) (are : is_affine limits c ≡ true) (constants equal unequal order : ℕ)
      (p : constants ≡ constant_number c) (q : equal ≡ equation_number c) (r : unequal ≡ disequation_number c) (s : order ≡ field_order c.nodes c.in_force) where
    abbrev within_bounds : Bool
    within_bounds =
        nat_le constants 4096
        && (nat_le (equal + unequal) 4096
        && nat_le ((equal + unequal) * constants + constants * (unequal + 1)) units)

    by_counts : (nat_lt unequal order && within_bounds) ≡ is_linear_within limits c units
    by_counts =
        (λ i. nat_lt (r i) (s i) && (nat_le (p i) 4096 && (nat_le (q i + r i) 4096 && nat_le ((q i + r i) * p i + p i * (r i + 1)) units)))
        ∙ by_numbers none are

    pub enough_values : (within : Bool) → unequal < order → within ≡ within_bounds → within ≡ is_linear_within limits c units
    enough_values within below is = is ∙ sym (ap (λ b. b && within_bounds) (lt-ltb unequal order below)) ∙ by_counts

    pub too_few_values : order ≤ unequal → nat_lt unequal order ≡ is_linear_within limits c units
    too_few_values above = let few = le-ltb unequal order above in few ∙ sym (ap (λ b. b && within_bounds) few) ∙ by_counts
