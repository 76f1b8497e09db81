-- One choice of generators at one degree.
use Rattle.std.proofs.Common.{inl, inr, ◌≡◌, ◌⊎◌, ℕ, zero, suc, ◌+◌, ◌-◌, ◌*◌, ◌%◌, ◌<◌, ◌≤◌, ◌&&◌, nat_le, nat_lt, Bool, true, false, cond, if◌then◌else◌, List, [], ◌∷◌, length, get_or, take, All, Contains, Option, Some, None, Result, Ok, Err, refl, sym, ap, ap₂, ◌∙◌, subst, arith}
use Rattle.std.specs.List.{AllZip}
use Rattle.std.specs.List.Sorted.{IsStrictlyIncreasing}
use Rattle.std.specs.Option.{IfNone, IfSome, IsSome}
use Rattle.std.specs.Result.{IfOk}
use Rattle.std.proofs.Math.Nat.{mul-le-mul_left, mod-eq_of_lt, zero-mod}
use Rattle.std.proofs.lemmas.Bool.{le-leb, le-ltb, lt-ltb, cases_lt, cases_eq, false≢true}
use Rattle.std.proofs.lemmas.List.Elements.{All-head, All-tail, All-weaker, All-get_or, All-from_recursion, recursion_from_All}
use Rattle.std.proofs.lemmas.List.Sums.{sum_by-cons}
use Rattle.ffc_base.specs.declared.stop.Stop.{Stop}
use Rattle.ffc_base.specs.declared.stop.Stop.TheVariants as stops
use Rattle.ffc_base.specs.Metering.{Spending, total}
use Rattle.ffc_bounds.specs.Combinations.{IsMultiple, row_count, degree_units}
use Rattle.ffc_bounds.specs.Monomials.{monomials, columns, rows}
use Rattle.ffc_macaulay.specs.Identities.{AreGenerators, AreLinesOf, HasNoIdentity}
use Rattle.ffc_macaulay.proofs.CountLemmas.{few_generators}
use Rattle.ffc_macaulay.proofs.LineLemmas.{line_among}
use Rattle.ffc_macaulay.proofs.MemberLemmas.{up_to_at, are_all}
use Rattle.ffc_macaulay.specs.declared.solving.Solution.{Solution}
use Rattle.ffc_macaulay.specs.declared.solving.Solution.TheVariants as found
use Rattle.ffc_macaulay.specs.Solutions.{Determines, IsSolvedBy}
use Rattle.ffc_macaulay.specs.Units.{TakesWithin}
use Rattle.ffc_refutation.specs.Combinations.{Summand, sum_of}
use Rattle.ffc_ring.specs.Monomial.{Monomial}
use Rattle.ffc_ring.specs.Polynomial.{Terms, SamePolynomial, coefficient, difference, written}
use Rattle.ffc_ring.proofs.PolynomialLemmas.{written-at}
use Rattle.ffc_term.specs.declared.node.Node.{Node}
use Rattle.ffc_trees.specs.FirstLines.{first_lines}
use Rattle.ffc_trees.specs.NodePolynomials.{constant, variable}
use Rattle.ffc_trees.specs.Normal.{IsNormal}
use Rattle.ffc_combination.specs.declared.choices.Choice.{Choice}
use Rattle.ffc_combination.specs.Attempts.{Defers, HasNoSolution, HasNoSum, HasSize, HasNoSize, IsLookedFor, IsSized, IsExcluded, IsUndetermined, LeavesOne, LooksWithin}
use Rattle.ffc_combination.specs.Choices.{IsChoice, constants_at}
use Rattle.ffc_combination.specs.Generators.{IsGenerator, AreGeneratorsOf}
use Rattle.ffc_combination.proofs.LineLemmas.{length-lines, line_at_place, line_normal}
use Rattle.ffc_combination.proofs.WithinLemmas.{line_few}

above_zero : (n : ℕ) → (n ≡ 0 → ⊥) → 0 < n
above_zero zero other = absurd (other refl)
above_zero (suc n) other = omega arith

-- ---- sizes

-- where no generator has a higher degree, the rows are those of the matrix
pub rows_low : (d : ℕ) (xs degrees : List ℕ) → All (λ e. e ≤ d) degrees → row_count d xs degrees ≡ rows d xs degrees
rows_low d xs [] low = refl
rows_low d xs (e ∷ degrees) low =
    let here : cond (nat_le e d) (columns (d - e) xs) 0 ≡ columns (d - e) xs = ap (λ b. cond b (columns (d - e) xs) 0) (le-leb e d (All-head (λ e. e ≤ d) e degrees low)) in
    sum_by-cons (λ e. if nat_le e d then columns (d - e) xs else 0) e degrees
    ∙ ap₂ (λ a b. a + b) here (rows_low d xs degrees (All-tail (λ e. e ≤ d) e degrees low))
    ∙ sym (sum_by-cons (λ e. columns (d - e) xs) e degrees)

-- a matrix that is too large
pub counted_none : (d : ℕ) (xs degrees vs es : List ℕ) (r : Option (ℕ × ℕ)) → vs ≡ xs → es ≡ degrees → ((columns d vs ≤ 4096) × (rows d vs es ≤ 4096) → IsSome r) → IfNone r (HasNoSize d xs degrees)
counted_none d xs degrees vs es None one two is =
    λ some low few_columns few_rows.
    let wide : columns d vs ≡ columns d xs = ap (columns d) one in
    let long : rows d vs es ≡ row_count d xs degrees = ap₂ (rows d) one two ∙ sym (rows_low d xs degrees low) in
    absurd (false≢true (is (omega (arith, wide, few_columns), omega (arith, long, few_rows))))
counted_none d xs degrees vs es (Some n) one two is = tt

-- the units of a degree whose matrix is not too large
pub units_are : (d : ℕ) (xs degrees : List ℕ) (m n : ℕ) → HasSize d xs degrees m n → degree_units d xs degrees ≡ 2 * n * m
units_are d xs degrees m n s =
    let rows_are : row_count d xs degrees ≡ n = rows_low d xs degrees s.low ∙ sym s.rows_is in
    let one : nat_le (columns d xs) 4096 ≡ true = le-leb (columns d xs) 4096 (omega (arith, s.columns_is, s.few_columns)) in
    let two : nat_le (row_count d xs degrees) 4096 ≡ true = le-leb (row_count d xs degrees) 4096 (omega (arith, rows_are, s.few_rows)) in
    ap₂ (λ a b. cond (a && b) (2 * row_count d xs degrees * columns d xs) 0) one two ∙ ap₂ (λ a b. 2 * a * b) rows_are (sym s.columns_is)

-- a size, with its units
pub sized : (d m n units : ℕ) (x : Choice) → HasSize d x.variables.items x.degrees.items m n → units ≡ 2 * n * m → IsSized d x units
sized d m n units x s is =
    let most : 2 * n * m ≤ 2 * n * 4096 = mul-le-mul_left (2 * n) s.few_columns in
    let rows = s.few_rows in
    record {
      low = s.low;
      few_columns = omega (arith, s.columns_is, s.few_columns);
      few_rows = omega (arith, rows_low d x.variables.items x.degrees.items s.low, s.rows_is, s.few_rows);
      units_are = is ∙ sym (units_are d x.variables.items x.degrees.items m n s);
      few_units = omega (arith, is, most, rows);
    }

-- there is a row
pub some_row : (d : ℕ) (xs degrees : List ℕ) (m n : ℕ) → HasSize d xs degrees m n → 0 < n
some_row d xs degrees m n s = omega (arith, s.some, few_generators d xs degrees, s.rows_is)

-- what is taken without the column of 1 leaves a unit
one_left : (m n : ℕ) → 0 < n → 0 < m → 2 * n * (m - 1) < 2 * n * m
one_left zero n some column = absurd (omega arith)
one_left (suc k) n some column =
    let same : suc k - 1 ≡ k = omega arith in
    let all : 2 * n * suc k ≡ 2 * n * k + 2 * n = omega arith in
    omega (arith, ap (λ i. 2 * n * i) same, all, some)

-- there is a column
pub some_column : (d : ℕ) (xs : List ℕ) → IsStrictlyIncreasing xs → 0 < columns d xs
some_column d xs rises =
    let has : Contains (monomials d xs) [] = are_all d xs rises [] (record { monomial = tt; variables = λ x some. absurd (some refl); low = omega arith }) in
    let below = has.1 in omega (arith, below)

-- what is taken where the constants are solved for
pub looks_for_solution : (d : ℕ) (x : Choice) (vs es : List ℕ) (old new : Spending) (r : Result Solution Stop) → vs ≡ x.variables.items → es ≡ x.degrees.items → IsStrictlyIncreasing x.variables.items → 0 < rows d x.variables.items x.degrees.items
    → TakesWithin (2 * rows d vs es * (columns d vs - 1)) stops.Spent r old new → LooksWithin (2 * rows d x.variables.items x.degrees.items * columns d x.variables.items) r old new
looks_for_solution d x vs es old new r one two rises some t =
    let m = columns d x.variables.items in
    let n = rows d x.variables.items x.degrees.items in
    let same : 2 * rows d vs es * (columns d vs - 1) ≡ 2 * n * (m - 1) = ap₂ (λ a b. 2 * a * (b - 1)) (ap₂ (rows d) one two) (ap (columns d) one) in
    let left : 2 * n * (m - 1) < 2 * n * m = one_left m n some (some_column d x.variables.items rises) in
    let less : total new < total old + 2 * n * m = (let w = t.within in omega (arith, w, same, left)) in
    record {
      units = record { takes = t.takes; within = omega (arith, less); spent_only = λ spent. let s = t.spent_only spent in omega (arith, s, same, left) };
      trial = leaves_one (2 * n * m) old new less r;
    }
  where
    leaves_one : (bound : ℕ) (a b : Spending) → total b < total a + bound → (q : Result Solution Stop) → IfOk q (LeavesOne bound a b)
    leaves_one bound a b less (Ok (found.Identity summands)) = tt
    leaves_one bound a b less (Ok (found.Values vs)) = less
    leaves_one bound a b less (Ok found.Neither) = tt
    leaves_one bound a b less (Err e) = tt

-- the constants that are solved for at a degree are those of the choice
pub some_at : (d : ℕ) (x : Choice) (P : ℕ → Type 0) → IfSome x.constants P → IfSome (constants_at d x) P
some_at d x P h = by_case (nat_lt d x.lowest)
  where
    by_case : (b : Bool) → IfSome (cond b None x.constants) P
    by_case true = tt
    by_case false = h

-- the constants to be solved for are some of the variables
pub within_variables : (o : Option ℕ) (n : ℕ) → IfSome o (λ count. (0 < count) × (count ≤ n)) → IfSome o (λ count. count ≤ n)
within_variables None n h = tt
within_variables (Some count) n h = h.1

-- the units of a degree
pub bound_is : (d : ℕ) (xs degrees : List ℕ) (m n : ℕ) → HasSize d xs degrees m n → 2 * rows d xs degrees * columns d xs ≡ degree_units d xs degrees
bound_is d xs degrees m n s = ap₂ (λ a b. 2 * a * b) (sym s.rows_is) (sym s.columns_is) ∙ sym (units_are d xs degrees m n s)

pub some_rows : (d : ℕ) (xs degrees : List ℕ) (m n : ℕ) → HasSize d xs degrees m n → 0 < rows d xs degrees
some_rows d xs degrees m n s = omega (arith, some_row d xs degrees m n s, s.rows_is)

-- ---- generators

zip_long : {A B : Type 0} (R : A → B → Type 0) (xs : List A) (ys : List B) → AllZip R xs ys → length ys ≡ length xs
zip_long R [] [] are = refl
zip_long R [] (y ∷ ys) are = absurd are
zip_long R (x ∷ xs) [] are = absurd are
zip_long R (x ∷ xs) (y ∷ ys) are = ap suc (zip_long R xs ys are.1)

zip_at : {A B : Type 0} (R : A → B → Type 0) (xs : List A) (ys : List B) (i : ℕ) (d : A) (e : B) → AllZip R xs ys → i < length xs → R (get_or xs i d) (get_or ys i e)
zip_at R [] ys i d e are inside = absurd (omega arith)
zip_at R (x ∷ xs) [] i d e are inside = absurd are
zip_at R (x ∷ xs) (y ∷ ys) zero d e are inside = are.0
zip_at R (x ∷ xs) (y ∷ ys) (suc i) d e are inside = zip_at R xs ys i d e are.1 (omega arith)

module _ (p : ℕ) (positive : 0 < p) (nodes : List Node) (x : Choice) (choice : IsChoice p nodes x) where
  lines_long : length (first_lines nodes p x.literals.items) ≡ length x.literals.items
  lines_long = length-lines p nodes (length nodes) x.literals.items

  normal_at : (i : ℕ) → i < length x.literals.items → IsNormal p (get_or (first_lines nodes p x.literals.items) i [])
  normal_at i inside =
      subst (IsNormal p) (sym (line_at_place p nodes (length nodes) x.literals.items i (false, 0) inside)) (line_normal p nodes (length nodes + i) (get_or x.literals.items i (false, 0)) positive)

  -- each line has few terms
  pub lines_short : (d m n : ℕ) → HasSize d x.variables.items x.degrees.items m n → (i : ℕ) → i < length x.literals.items → length (get_or (first_lines nodes p x.literals.items) i []) ≤ 131072
  lines_short d m n s i inside =
      let e = get_or x.degrees.items i 0 in
      let low : e ≤ d = All-get_or (λ k. k ≤ d) x.degrees.items i 0 (omega (arith, inside, choice.long)) s.low in
      let few = line_few p d e x.variables.items (get_or (first_lines nodes p x.literals.items) i []) (normal_at i inside) low
      (recursion_from_All (λ t. Contains (monomials e x.variables.items) t.1) (get_or (first_lines nodes p x.literals.items) i []) (choice.within i inside)) in
      omega (arith, few, s.columns_is, s.few_columns)

  pub few_literals : (d m n : ℕ) → HasSize d x.variables.items x.degrees.items m n → length x.literals.items ≤ 4096
  few_literals d m n s = omega (arith, choice.long, few_generators d x.variables.items x.degrees.items, s.rows_is, s.few_rows)

  module _ (generators : List Terms) (are : AreGeneratorsOf p (first_lines nodes p x.literals.items) generators) where
    long : length generators ≡ length x.literals.items
    long = zip_long (IsGenerator p) (first_lines nodes p x.literals.items) generators are ∙ lines_long

    generator_at : (i : ℕ) → i < length generators → IsGenerator p (get_or (first_lines nodes p x.literals.items) i []) (get_or generators i [])
    generator_at i inside = zip_at (IsGenerator p) (first_lines nodes p x.literals.items) generators i [] [] are (omega (arith, inside, long, lines_long))

    pub are_generators : (d m n : ℕ) → HasSize d x.variables.items x.degrees.items m n → AreGenerators d x.variables.items x.degrees.items generators
    are_generators d m n s = record {
      long = choice.long ∙ sym long;
      low = s.low;
      within = λ i inside.
          let g = generator_at i inside in
          let e = get_or x.degrees.items i 0 in
          All-from_recursion (λ t. Contains (monomials e x.variables.items) t.1) (get_or generators i [])
          (line_among (Contains (monomials e x.variables.items)) p (get_or generators i []) (get_or (first_lines nodes p x.literals.items) i []) g.normal g.same
          (recursion_from_All (λ t. Contains (monomials e x.variables.items) t.1) (get_or (first_lines nodes p x.literals.items) i []) (choice.within i (omega (arith, inside, long)))));
    }

    pub are_lines : AreLinesOf p generators (first_lines nodes p x.literals.items)
    are_lines = record {
      long = lines_long ∙ sym long;
      same = λ i inside m. sym ((generator_at i inside).same m);
      normal = λ i inside. normal_at i (omega (arith, inside, long));
    }

  -- what is looked for is not there
  pub neither : (d : ℕ) → HasNoIdentity p d x.variables.items x.degrees.items (first_lines nodes p x.literals.items)
      → IsUndetermined p d x.variables.items x.degrees.items (first_lines nodes p x.literals.items) (constants_at d x) → IsExcluded p nodes d x
  neither d none undetermined = (λ low few_columns few_rows. none, unsolved (constants_at d x) undetermined)
    where
      unsolved : (o : Option ℕ) → IsUndetermined p d x.variables.items x.degrees.items (first_lines nodes p x.literals.items) o → HasNoSolution p d x.variables.items x.degrees.items (first_lines nodes p x.literals.items) o
      unsolved None h = tt
      unsolved (Some count) h = λ low few_columns few_rows. h

  one_is_something : (ls : List Terms) (summands : List Summand) → 2 ≤ p → summands ≡ [] → SamePolynomial p (sum_of ls summands) (constant 1) → ⊥
  one_is_something ls summands least none sum =
      let same : 0 % p ≡ (1 + 0) % p = ap (λ ss. coefficient p (sum_of ls ss) []) (sym none) ∙ sum [] in
      let one : (1 + 0) % p ≡ 1 = mod-eq_of_lt (let less : 1 + 0 < p = omega (arith, least) in less) in
      omega (arith, same, one, zero-mod p)

  variable_is_something : (ls : List Terms) (summands : List Summand) (y v : ℕ) → 2 ≤ p → summands ≡ [] → SamePolynomial p (sum_of ls summands) (difference p (variable y) (constant v)) → ⊥
  variable_is_something ls summands y v least none sum =
      let m : Monomial = (y, 1) ∷ [] in
      let all : written (difference p (variable y) (constant v)) m ≡ 1 + 0 = written-at m (1, m) (((p - 1) * v, []) ∷ []) refl in
      let same : 0 % p ≡ (1 + 0) % p = ap (λ ss. coefficient p (sum_of ls ss) m) (sym none) ∙ sum m ∙ ap (λ n. n % p) all in
      let one : (1 + 0) % p ≡ 1 = mod-eq_of_lt (let less : 1 + 0 < p = omega (arith, least) in less) in
      omega (arith, same, one, zero-mod p)

  no_multiples : (d : ℕ) (summands : List Summand) → length x.degrees.items ≡ 0 → All (IsMultiple p d x.variables.items x.degrees.items) summands → summands ≡ []
  no_multiples d [] none each = refl
  no_multiples d (s ∷ summands) none each = absurd (omega (arith, none, (All-head (IsMultiple p d x.variables.items x.degrees.items) s summands each).there))

  -- no size, no sum
  no_sum_unsized : (d : ℕ) → 2 ≤ p → HasNoSize d x.variables.items x.degrees.items → HasNoSum p d x.variables.items x.degrees.items (first_lines nodes p x.literals.items)
  no_sum_unsized d least none low few_columns few_rows summands each sum =
      elim (cases_eq (length x.degrees.items) 0) as (λ _. ⊥) [
        | inl empty ↦ one_is_something (first_lines nodes p x.literals.items) summands least (no_multiples d summands empty each) sum
        | inr some ↦ none (above_zero (length x.degrees.items) some) low few_columns few_rows
      ]

  first_taken : (count : ℕ) (xs : List ℕ) → 0 < count → count ≤ length xs → 0 < length (take count xs)
  first_taken zero xs some within = absurd (omega arith)
  first_taken (suc n) [] some within = absurd (omega arith)
  first_taken (suc n) (y ∷ xs) some within = omega arith

  no_solution_unsized : (d : ℕ) → 2 ≤ p → HasNoSize d x.variables.items x.degrees.items → (o : Option ℕ) → IfSome o (λ count. (0 < count) × (count ≤ length x.variables.items))
      → HasNoSolution p d x.variables.items x.degrees.items (first_lines nodes p x.literals.items) o
  no_solution_unsized d least none None h = tt
  no_solution_unsized d least none (Some count) h = λ low few_columns few_rows each.
      elim (cases_eq (length x.degrees.items) 0) as (λ _. ⊥) [
        | inl empty ↦
            (let y = get_or (take count x.variables.items) 0 0 in
            let first : Determines p d x.variables.items x.degrees.items (first_lines nodes p x.literals.items) y = each 0 0 (first_taken count x.variables.items h.0 h.1) in
            variable_is_something (first_lines nodes p x.literals.items) first.summands y first.value least (no_multiples d first.summands empty first.each) first.sum)
        | inr some ↦ none (above_zero (length x.degrees.items) some) low few_columns few_rows
      ]

  pub unsized : (d : ℕ) → 2 ≤ p → HasNoSize d x.variables.items x.degrees.items → IsExcluded p nodes d x
  unsized d least none = (no_sum_unsized d least none, no_solution_unsized d least none (constants_at d x) (some_at d x (λ count. (0 < count) × (count ≤ length x.variables.items)) choice.constants))

-- a multiple is one of the next degree, too
next_multiple : (p d : ℕ) (xs degrees : List ℕ) → IsStrictlyIncreasing xs → (s : Summand) → IsMultiple p d xs degrees s → IsMultiple p (d + 1) xs degrees s
next_multiple p d xs degrees rises s is =
    let e = get_or degrees s.0 0 in
    let up = up_to_at (d - e) xs s.1.1 is.monomial in
    record {
      there = is.there;
      residue = is.residue;
      monomial = are_all (d + 1 - e) xs rises s.1.1 (record { monomial = up.monomial; variables = up.variables; low = omega (arith, up.low) });
    }

next_multiples : (p d : ℕ) (xs degrees : List ℕ) → IsStrictlyIncreasing xs → (summands : List Summand) → All (IsMultiple p d xs degrees) summands → All (IsMultiple p (d + 1) xs degrees) summands
next_multiples p d xs degrees rises summands each = All-weaker (IsMultiple p d xs degrees) (IsMultiple p (d + 1) xs degrees) (next_multiple p d xs degrees rises) summands each

-- so a degree is excluded where the next one is
solution_before : (p d units : ℕ) (x : Choice) (lines : List Terms) → IsStrictlyIncreasing x.variables.items → IsSized (d + 1) x units → (o : Option ℕ) → HasNoSolution p (d + 1) x.variables.items x.degrees.items lines o
    → HasNoSolution p d x.variables.items x.degrees.items lines o
solution_before p d units x lines rises s None none = tt
solution_before p d units x lines rises s (Some count) none = λ low few_columns few_rows each.
    none s.low s.few_columns s.few_rows
    (All-weaker (Determines p d x.variables.items x.degrees.items lines) (Determines p (d + 1) x.variables.items x.degrees.items lines)
    (λ y is. record { value = is.value; residue = is.residue; summands = is.summands; each = next_multiples p d x.variables.items x.degrees.items rises is.summands is.each; sum = is.sum })
    (take count x.variables.items) each)

-- the same at the degrees where constants are solved for
solution_at_before : (p d units : ℕ) (x : Choice) (lines : List Terms) → IsStrictlyIncreasing x.variables.items → IsSized (d + 1) x units → HasNoSolution p (d + 1) x.variables.items x.degrees.items lines (constants_at (d + 1) x)
    → HasNoSolution p d x.variables.items x.degrees.items lines (constants_at d x)
solution_at_before p d units x lines rises s next =
    elim (cases_lt d x.lowest) as (λ _. HasNoSolution p d x.variables.items x.degrees.items lines (constants_at d x)) [
      | inl below ↦
          subst (HasNoSolution p d x.variables.items x.degrees.items lines) (sym (ap (λ b. cond b None x.constants) (lt-ltb d x.lowest below))) tt
      | inr above ↦
          (let here : constants_at d x ≡ x.constants = ap (λ b. cond b None x.constants) (le-ltb d x.lowest above) in
          let there : constants_at (d + 1) x ≡ x.constants = ap (λ b. cond b None x.constants) (le-ltb (d + 1) x.lowest (omega (arith, above))) in
          subst (HasNoSolution p d x.variables.items x.degrees.items lines) (sym here)
          (solution_before p d units x lines rises s x.constants (subst (HasNoSolution p (d + 1) x.variables.items x.degrees.items lines) there next)))
    ]

sized_before : (p d units : ℕ) (nodes : List Node) (x : Choice) → IsChoice p nodes x → IsSized (d + 1) x units → IsExcluded p nodes (d + 1) x → IsExcluded p nodes d x
sized_before p d units nodes x choice s none = (
  λ low few_columns few_rows summands each sum. none.0 s.low s.few_columns s.few_rows summands (next_multiples p d x.variables.items x.degrees.items choice.rises summands each) sum,
  solution_at_before p d units x (first_lines nodes p x.literals.items) choice.rises s none.1,
)

pub excluded_before : (p d units : ℕ) (nodes : List Node) (x : Choice) → 2 ≤ p → IsChoice p nodes x → Defers d x units → IsExcluded p nodes (d + 1) x → IsExcluded p nodes d x
excluded_before p d units nodes x least choice s next = by_how s.how
  where
    by_how : IsSized (d + 1) x units ⊎ HasNoSize d x.variables.items x.degrees.items → IsExcluded p nodes d x
    by_how (inl is) = sized_before p d units nodes x choice is next
    by_how (inr none) = unsized p (omega (arith, least)) nodes x choice d least none

-- ---- what is found

-- what is found where the constants are solved for is what is looked for
solution_is : (p d : ℕ) (x : Choice) (lines : List Terms) (count : ℕ) → constants_at d x ≡ Some count → (s : Solution) → IsSolvedBy p d x.variables.items x.degrees.items lines count s → IsLookedFor p d x lines s
solution_is p d x lines count some (found.Identity summands) is = is
solution_is p d x lines count some (found.Values values) is = record { count = count; constants = some; each = is }
solution_is p d x lines count some found.Neither is = (is.0, subst (IsUndetermined p d x.variables.items x.degrees.items lines) (sym some) is.1)

pub solution_found : (p d : ℕ) (x : Choice) (lines : List Terms) (count : ℕ) → constants_at d x ≡ Some count → (vs es : List ℕ) → vs ≡ x.variables.items → es ≡ x.degrees.items → (s : Solution) → IsSolvedBy p d vs es lines count s → IsLookedFor p d x lines s
solution_found p d x lines count some vs es one two s is =
    solution_is p d x lines count some s (subst (λ (us : List ℕ). IsSolvedBy p d us x.degrees.items lines count s) one (subst (λ (us : List ℕ). IsSolvedBy p d vs us lines count s) two is))

-- where there is nothing to solve for, nothing is left open
pub none_found : (p d : ℕ) (x : Choice) (lines : List Terms) → constants_at d x ≡ None → (vs es : List ℕ) → vs ≡ x.variables.items → es ≡ x.degrees.items → HasNoIdentity p d vs es lines → IsLookedFor p d x lines found.Neither
none_found p d x lines none vs es one two is = (
  subst (λ (us : List ℕ). HasNoIdentity p d us x.degrees.items lines) one (subst (λ (us : List ℕ). HasNoIdentity p d vs us lines) two is),
  subst (IsUndetermined p d x.variables.items x.degrees.items lines) (sym none) tt,
)
