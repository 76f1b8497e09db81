-- The size of the matrix, and the units that elimination in it takes.
use Rattle.std.proofs.Common.{◌≡◌, ℕ, suc, ◌+◌, ◌-◌, ◌*◌, ◌<◌, ◌≤◌, List, [], ◌∷◌, ◌++◌, length, get_or, All, Result, IsErrOf, sym, ap, ◌∙◌, subst, refl, arith, length-append}
use Rattle.std.specs.List.{AllByRecursion}
use Rattle.std.proofs.Math.Nat.{mul-le-mul_left, mul-le-mul_right}
use Rattle.std.specs.Result.{IsErrAnd}
use Rattle.std.proofs.lemmas.List.Elements.{All-from_recursion}
use Rattle.std.proofs.lemmas.Result.{err_from_is_err_and}
use Rattle.ffc_base.specs.declared.stop.Stop.{Stop}
use Rattle.ffc_base.specs.declared.stop.Stop.TheVariants.{Spent, Memory}
use Rattle.ffc_base.specs.Metering.{Spending, total, more}
use Rattle.ffc_base.specs.declared.meter.Unit.{Unit as Kind}
use Rattle.ffc_base.specs.declared.meter.Unit.TheVariants.{Trial, Reduction, Assignment, Chain}
use Rattle.ffc_echelon.specs.Units.{TakesAtMost}
use Rattle.ffc_echelon.proofs.TrialLemmas.{taken_of, takes_later}
use Rattle.ffc_echelon.specs.Vectors.{Coordinates, IsBelow}
use Rattle.ffc_ring.specs.Monomial.{Monomial}
use Rattle.ffc_ring.specs.Polynomial.{Terms}
use Rattle.ffc_bounds.specs.Monomials.{columns, rows}
use Rattle.ffc_macaulay.specs.Matrix.{AreRows, IsMatrix, IsRow}
use Rattle.ffc_macaulay.specs.Units.{TakesWithin}
use Rattle.ffc_macaulay.proofs.ListLemmas.{few_unknowns, length-multiples}

rows_below : (p : ℕ) (cols : List Monomial) (generators : List Terms) (n : ℕ) (ms : List (ℕ × Monomial)) (vs : List Coordinates) → length cols ≡ n → AreRows p cols generators ms vs → AllByRecursion (IsBelow n) vs
rows_below p cols generators n [] [] wide are = tt
rows_below p cols generators n [] (v ∷ vs) wide are = absurd are
rows_below p cols generators n (m ∷ ms) [] wide are = absurd are
rows_below p cols generators n (m ∷ ms) (v ∷ vs) wide are = (subst (λ k. IsBelow k v) wide are.0.below, rows_below p cols generators n ms vs wide are.1)

rows_long : (p : ℕ) (cols : List Monomial) (generators : List Terms) (ms : List (ℕ × Monomial)) (vs : List Coordinates) → AreRows p cols generators ms vs → length vs ≡ length ms
rows_long p cols generators [] [] are = refl
rows_long p cols generators [] (v ∷ vs) are = absurd are
rows_long p cols generators (m ∷ ms) [] are = absurd are
rows_long p cols generators (m ∷ ms) (v ∷ vs) are = ap suc (rows_long p cols generators ms vs are.1)

pub rows_push : (p : ℕ) (cols : List Monomial) (generators : List Terms) (ms : List (ℕ × Monomial)) (vs : List Coordinates) (m : ℕ × Monomial) (v : Coordinates) → AreRows p cols generators ms vs → IsRow p cols (get_or generators m.0 []) m.1 v
    → AreRows p cols generators (ms ++ m ∷ []) (vs ++ v ∷ [])
rows_push p cols generators [] [] m v are is = (is, tt)
rows_push p cols generators [] (w ∷ vs) m v are is = absurd are
rows_push p cols generators (n ∷ ms) [] m v are is = absurd are
rows_push p cols generators (n ∷ ms) (w ∷ vs) m v are is = (are.0, rows_push p cols generators ms vs m v are.1 is)

module _ (p d : ℕ) (xs degrees : List ℕ) (generators : List Terms) (unknowns : List Monomial) (ms : List (ℕ × Monomial)) (vs : List Coordinates) (matrix : IsMatrix p d xs degrees generators unknowns ms vs) where
  pub rows_within : All (IsBelow (length unknowns + 1)) vs
  rows_within =
      All-from_recursion (IsBelow (length unknowns + 1)) vs
      (rows_below p (unknowns ++ [] ∷ []) generators (length unknowns + 1) ms vs (length-append unknowns ([] ∷ [])) matrix.rows_are)

  pub few_columns : length unknowns + 1 ≤ columns d xs
  few_columns = few_unknowns d xs unknowns matrix.unknowns_are

  pub one_row_each : length vs ≡ length ms
  one_row_each = rows_long p (unknowns ++ [] ∷ []) generators ms vs matrix.rows_are

  pub row_count : length ms ≡ rows d xs degrees
  row_count = ap length matrix.multiples_are ∙ length-multiples d xs 0 degrees

  -- one unit for each row and each unknown
  pub elimination_within : (inputs : List Coordinates) (count : ℕ) → inputs ≡ vs → count ≡ length unknowns → length inputs * count ≤ rows d xs degrees * (columns d xs - 1)
  elimination_within inputs count are is =
      let long : length inputs ≡ rows d xs degrees = ap length are ∙ one_row_each ∙ row_count in
      subst (λ n. n * count ≤ rows d xs degrees * (columns d xs - 1)) (sym long)
      (mul-le-mul_left (rows d xs degrees) (let few = few_columns in omega (arith, few, is)))

-- ---- units

doubled : (m n : ℕ) → m * n + m * n ≡ 2 * m * n
doubled m n = omega arith

-- an elimination, and reductions that take no more units
pub both_within : (m n k : ℕ) → k ≤ m * n → m * n + k ≤ 2 * m * n
both_within m n k within = let same = doubled m n in omega (arith, within, same)

-- one unit for each row and each unknown is less than one for each entry and each column
pub fewer_units : (m n : ℕ) → m * (n - 1) ≤ m * n + n
fewer_units m n = let less : m * (n - 1) ≤ m * n = mul-le-mul_left m (let e : n - 1 ≤ n = omega arith in e) in omega (arith, less)

more_total : (s : Spending) (kind : Kind) (n : ℕ) → total (more s kind n) ≡ total s + n
more_total s Trial n = omega arith
more_total s Reduction n = omega arith
more_total s Assignment n = omega arith
more_total s Chain n = omega arith

more_budget : (s : Spending) (kind : Kind) (n : ℕ) → (more s kind n).budget ≡ s.budget
more_budget s Trial n = refl
more_budget s Reduction n = refl
more_budget s Assignment n = refl
more_budget s Chain n = refl

-- one turn more of so many
pub turn_within : (i n count : ℕ) → i < count → i * n + n ≤ count * n
turn_within i n count less =
    let more : (i + 1) * n ≤ count * n = mul-le-mul_right n (let e : i + 1 ≤ count = omega arith in e) in omega (arith, more)

-- a call that takes units of one kind
pub within_one : {A B E : Type 0} (kind : Kind) (a bound : ℕ) (spent : E) (part : Result A E) (result : Result B E) (old new : Spending) → a ≤ bound → (IsErrOf result spent → IsErrOf part spent)
    → TakesAtMost kind a spent part old new → TakesWithin bound spent result old new
within_one kind a bound spent part result old new few as_part t =
    let sum : total new ≡ total old + t.units = ap total t.taken ∙ more_total old kind t.units in
    record {
      takes = record { same_budget = ap (λ s. s.budget) t.taken ∙ more_budget old kind t.units; taken = omega (arith, sum) };
      within = omega (arith, sum, t.within);
      spent_only = λ e. (let less = t.spent_only (as_part e) in omega (arith, less));
    }

-- two calls that take Reductions, the second of which answers as the whole does
pub within_two : {A B C E : Type 0} (a b bound : ℕ) (spent : E) (first : Result A E) (part : Result B E) (result : Result C E) (old mid new : Spending) → a + b ≤ bound → (IsErrOf result spent → IsErrOf part spent)
    → TakesAtMost Reduction a spent first old mid → TakesAtMost Reduction b spent part mid new → TakesWithin bound spent result old new
within_two a b bound spent first part result old mid new within as_part one two =
    within_one Reduction bound bound spent result result old new (omega arith) (λ e. e)
    (takes_later Reduction a b bound spent part result old mid new within as_part (taken_of Reduction a spent first old mid one) two)

-- out of memory is not a budget that is spent
pub memory_not_spent : {A : Type 0} (result : Result A Stop) → IsErrAnd result (λ e. e ≡ Memory) → IsErrOf result Spent → ⊥
memory_not_spent result handed spent =
    let why = err_from_is_err_and result handed in
    let same = why.1 in
    let memory = why.2 in
    cc
