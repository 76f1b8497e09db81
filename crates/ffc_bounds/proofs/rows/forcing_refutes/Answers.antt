use Rattle.std.proofs.Common.{◌≡◌, ℕ, ◌≤◌, true, false, List, [], ◌∷◌, length, refl, sym, ◌∙◌, arith, lit≤}
use Rattle.std.proofs.lemmas.Bool.{false≢true, true≢false}
use Rattle.ffc_clause.specs.Clauses.{Literal, plus, negated}
use Rattle.ffc_term.specs.Measuring.{degrees, lengths}
use Rattle.ffc_term.specs.Nodes.{sorts}
use Rattle.ffc_rules.specs.Cones.{reached, cone}
use Rattle.ffc_rules.specs.Entries.{NodeCheck}
use Rattle.ffc_bounds.specs.Forced.{check_clauses, IsRefutedByForcing}
use Rattle.ffc_bounds.specs.Rows.{boolean_check, implication_check, exclusive_check, false_in_two_fields_check, false_beside_power_check, false_beside_sum_check}
use Rattle.ffc_bounds.proofs.ForcedLemmas.{derived_forced, no_clash}
use Rattle.ffc_bounds.proofs.rows.forcing_refutes.Goals as goal

abbrev places : List (ℕ × ℕ)
places = (0, 0) ∷ (1, 0) ∷ (3, 1) ∷ []

abbrev last_two : List (ℕ × ℕ)
last_two = (1, 0) ∷ (2, 0) ∷ []

pub returns : goal.returns
unfolding degrees lengths sorts reached cone
returns c = record {
  negation =
      (let k = record boolean_check { in_force = 0 ∷ 1 ∷ [] } in
      record { one_field = refl; low = refl; short = refl; enough = lit≤ tt; literal = plus 0; forced = derived_forced (check_clauses k) places (plus 0) refl; denied = derived_forced (check_clauses k) places (negated (plus 0)) refl });
  negation_spent = λ r. let few : 2 ≤ 1 = r.enough in absurd (omega arith);
  false_node =
      (let k = record boolean_check { in_force = 2 ∷ [] } in
      record { one_field = refl; low = refl; short = refl; enough = lit≤ tt; literal = plus 2; forced = derived_forced (check_clauses k) ((0, 0) ∷ []) (plus 2) refl; denied = derived_forced (check_clauses k) ((1, 0) ∷ []) (negated (plus 2)) refl });
  implication =
      (let k = implication_check in
      let by = (0, 0) ∷ (1, 0) ∷ (2, 0) ∷ (4, 0) ∷ (7, 2) ∷ (9, 1) ∷ [] in
      record { one_field = refl; low = refl; short = refl; enough = lit≤ tt; literal = plus 1; forced = derived_forced (check_clauses k) by (plus 1) refl; denied = derived_forced (check_clauses k) by (negated (plus 1)) refl });
  implication_spent = λ r. let few : 5 ≤ 4 = r.enough in absurd (omega arith);
  exclusive = λ budget r.
      let known = plus 2 ∷ plus 3 ∷ [] in
      absurd (no_clash (check_clauses exclusive_check) known r.literal refl refl r.forced r.denied);
  satisfiable = λ budget r.
      let known = plus 1 ∷ negated (plus 0) ∷ [] in
      absurd (no_clash (check_clauses (record boolean_check { in_force = 1 ∷ [] })) known r.literal refl refl r.forced r.denied);
  two_fields = λ budget r. false≢true r.one_field;
  degree =
      (let k = false_beside_power_check 255 in
      record { one_field = refl; low = refl; short = refl; enough = lit≤ tt; literal = plus 3; forced = derived_forced (check_clauses k) last_two (plus 3) refl; denied = derived_forced (check_clauses k) last_two (negated (plus 3)) refl });
  high = λ budget r. true≢false r.low;
  length =
      (let k = false_beside_sum_check 16 in
      record { one_field = refl; low = refl; short = refl; enough = lit≤ tt; literal = plus 5; forced = derived_forced (check_clauses k) last_two (plus 5) refl; denied = derived_forced (check_clauses k) last_two (negated (plus 5)) refl });
  long = λ budget r. true≢false r.short;
}
