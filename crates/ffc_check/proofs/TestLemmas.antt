-- Checks with one constant or none, for tests.
use Rattle.std.proofs.Common.{◌≡◌, ℕ, ◌≤◌, ◌&&◌, nat_lt, Bool, true, false, List, [], ◌∷◌, length, get_or, All, Contains, IsTrue, refl, sym, ◌∙◌, arith}
use Rattle.std.specs.List.{list_all}
use Rattle.std.specs.List.Sorted.{IsStrictlyIncreasing}
use Rattle.std.proofs.lemmas.Bool.{false≢true, ltb-true}
use Rattle.std.proofs.lemmas.List.Sums.{AllPass-from_list_all}
use Rattle.ffc_field.specs.Orders.{IsOrder}
use Rattle.ffc_term.specs.declared.node.Node.{Node}
use Rattle.ffc_term.specs.declared.node.Sort.{Sort}
use Rattle.ffc_term.specs.declared.node.Sort.TheVariants as sort
use Rattle.ffc_term.specs.Nodes.{IsConstantAt, sort_at}
use Rattle.ffc_term.specs.Tables.{IsTable, IsBooleanAt, constant_count}
use Rattle.ffc_term.specs.Checks.{IsValidCheck}
use Rattle.ffc_rules.specs.Entries.{is_bool, is_boolean}
use Rattle.ffc_rules.proofs.AssignmentLemmas.{same_number, number_below}

both : (a b : Bool) → (a && b) ≡ true → (a ≡ true) × (b ≡ true)
both true b e = (refl, e)
both false b e = absurd (false≢true e)

boolean_sort : (s : Sort) → is_bool s ≡ true → s ≡ sort.Bool
boolean_sort sort.Bool e = refl
boolean_sort (sort.Field p) e = absurd (false≢true e)

boolean_at : (ns : List Node) (id : ℕ) → is_boolean ns id ≡ true → IsBooleanAt ns id
boolean_at ns id e = let parts = both (nat_lt id (length ns)) (is_bool (sort_at ns id)) e in (ltb-true id (length ns) parts.0, boolean_sort (sort_at ns id) parts.1)

-- a list of at most one number is in order
few_increase : (xs : List ℕ) → length xs ≤ 1 → IsStrictlyIncreasing xs
few_increase xs few = λ k inside. absurd (omega (arith, inside))

-- where there is at most one constant, the listed one is it
one_covers : (ns : List Node) (declared : List ℕ) → IsTable ns → length declared ≤ 1 → constant_count ns ≡ length declared → All (IsConstantAt ns) declared → (id : ℕ) → IsConstantAt ns id → Contains declared id
one_covers ns [] table few count all id (n, at, const) = let below = number_below ns table.well_formed id n at const in absurd (omega (arith, below, count))
one_covers ns (d ∷ []) table few count all id (n, at, const) =
    let listed : IsConstantAt ns d = all 0 0 (omega arith) in
    let below = number_below ns table.well_formed id n at const in
    let first = number_below ns table.well_formed d listed.0 listed.1 listed.2 in
    (0, omega arith, same_number ns table.well_formed d id listed.0 n listed.1 at listed.2 const (omega (arith, below, first, count)))
one_covers ns (d ∷ e ∷ more) table few count all id of = absurd (omega (arith, few))

pub valid_with_few : (ns : List Node) (declared ids : List ℕ) (order : ℕ) (all : Bool) → IsTable ns → length declared ≤ 1 → constant_count ns ≡ length declared → All (IsConstantAt ns) declared
    → IsOrder order → all ≡ list_all (is_boolean ns) ids → IsTrue all → IsValidCheck ns declared ids order
valid_with_few ns declared ids order all table few count constants known same good =
    record {
      table = table;
      order = known;
      increasing = few_increase declared few;
      constants = constants;
      boolean = λ k d inside. boolean_at ns (get_or ids k d) (AllPass-from_list_all (is_boolean ns) ids (sym same ∙ good) k d inside);
      covered = λ id of const. one_covers ns declared table few count constants id const;
    }
