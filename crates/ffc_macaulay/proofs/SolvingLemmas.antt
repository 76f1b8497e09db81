-- What an echelon form of the matrix says of sums of multiples: none is 1, and which are a variable less a residue.
use Rattle.std.proofs.Common.{◌≡◌, ◌≢◌, ℕ, zero, suc, ◌+◌, ◌-◌, ◌*◌, ◌%◌, ◌<◌, ◌≤◌, ◌==◌, cond, List, [], ◌∷◌, ◌++◌, length, All, Some, get_or, inl, inr, refl, sym, ap, ap₂, ◌∙◌, subst, arith, length-append}
use Rattle.std.specs.List.{AllByRecursion, position_or_len}
use Rattle.std.proofs.Math.Nat.{mod-eq_of_lt, zero-mod, add-mul-mod_self_left}
use Rattle.std.proofs.lemmas.List.{get_or_at, get_or_append_left}
use Rattle.std.proofs.lemmas.List.Elements.{All-append, All-contains, All-from_recursion, All-head, All-tail, recursion_from_All}
use Rattle.std.proofs.lemmas.Option.{same_Some}
use Rattle.ffc_echelon.specs.Vectors.{Coordinates, AreCoordinates, IsBelow, coordinate, sum_in}
use Rattle.ffc_echelon.specs.Forms.{Form, Kept, AreLeading, IsFormOf, LeadsBelow, LeadsIn, leading_column, multiple_in}
use Rattle.ffc_echelon.proofs.Combining.{held}
use Rattle.ffc_echelon.proofs.Congruences.{sum_alike}
use Rattle.ffc_echelon.proofs.CoordinateLemmas.{coordinate-here, coordinate-there, coordinate-before}
use Rattle.ffc_echelon.proofs.Dots.{product_below-alike, product_below-sum}
use Rattle.ffc_echelon.proofs.Spanning.{sums_lead}
use Rattle.ffc_refutation.specs.Combinations.{Summand, sum_of, IsSummand}
use Rattle.ffc_refutation.specs.declared.combination.Determined.{Determined}
use Rattle.ffc_ring.specs.Monomial.{Monomial, same_monomial}
use Rattle.ffc_ring.specs.Polynomial.{Terms, SamePolynomial, difference}
use Rattle.ffc_ring.proofs.PolynomialLemmas.{weighted, one_weighted, SamePolynomial-from_weighted}
use Rattle.ffc_trees.specs.NodePolynomials.{constant, variable}
use Rattle.ffc_bounds.specs.Monomials.{monomials, columns, rows}
use Rattle.ffc_macaulay.specs.Matrix.{weight_of, IsMatrix}
use Rattle.ffc_macaulay.specs.Identities.{AreGenerators, AreLinesOf, IsMultiple, HasNoIdentity}
use Rattle.ffc_macaulay.specs.Refuting.{summands_of}
use Rattle.ffc_macaulay.specs.Solutions.{Determines, IsSolution}
use Rattle.ffc_macaulay.specs.Solving.{IsColumnOf, IsOpenIn, IsValueOf, HasOpen}
use Rattle.ffc_macaulay.proofs.MatrixLemmas.{one_row_each, row_count}
use Rattle.ffc_macaulay.proofs.RefutingLemmas.{are_multiples, are_summands, few_summands, low_monomials, summands_weight}
use Rattle.ffc_macaulay.proofs.SpanLemmas.{IsSpanOf, at_column, at_column-same, at_column-other, constant_place, multiple_in-append, multiple_in-times, span_at, sum_spanned, there-times, times, unknown_place}
use Rattle.ffc_macaulay.proofs.WeightLemmas.{one_inside}

-- ---- vectors

-- a row leads before the last column
led_below : (n c : ℕ) (v : Coordinates) → LeadsBelow n v → leading_column v ≡ Some c → c < n
led_below n c [] below leads = absurd below
led_below n c (e ∷ v) below leads = let same : e.0 ≡ c = same_Some e.0 c leads in omega (arith, same, below.0)

pub leads_below : (n c : ℕ) (kept : List Kept) → AreLeading n kept → LeadsIn kept c → c < n
leads_below n c kept leading found = led_below n c found.1.coordinates (held (λ r. LeadsBelow n r.coordinates) kept found.0 found.1 leading.each found.2) found.3

-- there is nothing before the first coordinate, which is not 0
pub record IsFirst (p : ℕ) (v : Coordinates) (c : ℕ) : Type 0 where
  pub before : (k : ℕ) → k < c → coordinate v k ≡ 0
  pub some : 0 < coordinate v c
  pub residue : coordinate v c < p

first_is : (p c : ℕ) (v : Coordinates) → AreCoordinates p v → leading_column v ≡ Some c → IsFirst p v c
first_is p c [] valid leads = cc
first_is p c (e ∷ v) valid leads =
    subst (IsFirst p (e ∷ v)) (same_Some e.0 c leads) (record {
      before = λ k less. coordinate-before p e.0 (e ∷ v) k (omega arith, valid.1, valid.2, valid.3) less;
      some = (let here = coordinate-here e v e.0 refl in omega (arith, here, valid.1));
      residue = (let here = coordinate-here e v e.0 refl in omega (arith, here, valid.2));
    })

-- a vector that has nothing before the last column has one coordinate
pub last_alone : (p n x : ℕ) (e : ℕ × ℕ) (v : Coordinates) → AreCoordinates p (e ∷ v) → IsBelow (n + 1) (e ∷ v) → n ≤ e.0 → x ≡ e.1 → (k : ℕ) → coordinate (e ∷ v) k ≡ coordinate ((n, x) ∷ []) k
last_alone p n x e [] valid below past is k =
    let inside : e.0 < n + 1 = All-head (λ f. f.0 < n + 1) e [] below in
    let same : e.0 ≡ n = omega (arith, inside, past) in
    ap₂ (λ a b. cond (a == k) b 0) same (sym is)
last_alone p n x e (f ∷ v) valid below past is k =
    let inside : f.0 < n + 1 = All-head (λ f. f.0 < n + 1) f v (All-tail (λ f. f.0 < n + 1) e (f ∷ v) below) in
    let after = valid.3.0 in
    absurd (omega (arith, inside, past, after))

-- ---- a variable less a residue

weighted_difference : (p x a : ℕ) (f : Monomial → ℕ) → weighted f (difference p (variable x) (constant a)) ≡ f ((x, 1) ∷ []) + (p - 1) * a * f []
weighted_difference p x a f = omega arith

-- what is added to, and the p-fold of something
less_again : (p x y : ℕ) → 1 ≤ p → (x + y + (p - 1) * y) % p ≡ x % p
less_again p x y least =
    ap (λ n. n % p) (let e : x + y + (p - 1) * y ≡ x + p * y = whole in e) ∙ add-mul-mod_self_left x p y
  where
    whole : x + y + (p - 1) * y ≡ x + p * y
    whole = part p least
      where
        part : (q : ℕ) → 1 ≤ q → x + y + (q - 1) * y ≡ x + q * y
        part zero low = absurd (omega arith)
        part (suc q) low = (let same : suc q - 1 ≡ q = omega arith in ap (λ k. x + y + k * y) same) ∙ omega arith

module _ (p d : ℕ) (xs degrees : List ℕ) (generators : List Terms) (are : AreGenerators d xs degrees generators) (unknowns : List Monomial) (ms : List (ℕ × Monomial)) (vs : List Coordinates) (matrix : IsMatrix p d xs degrees generators unknowns ms vs) (least : 2 ≤ p) (form : Form) (is : IsFormOf p (length unknowns) vs form) where
  abbrev last : ℕ
  last = length unknowns

  -- the place of a variable is its column
  variable_place : (x c : ℕ) → IsColumnOf unknowns x c → position_or_len (same_monomial ((x, 1) ∷ [])) unknowns ≡ c
  variable_place x c column = ap (λ m. position_or_len (same_monomial m) unknowns) (sym column.at) ∙ unknown_place (monomials d xs) unknowns matrix.unknowns_are c column.inside

  -- 1 is in none of the columns before the last
  no_constant : (k : ℕ) → k < last → at_column unknowns k [] ≡ 0
  no_constant k less = at_column-other unknowns k [] (λ e. let place = constant_place (monomials d xs) unknowns matrix.unknowns_are in omega (arith, place, e, less))

  -- a variable less a residue has the coordinates of its unit vector in the columns of unknowns
  difference_at : (x c a : ℕ) → IsColumnOf unknowns x c → (k : ℕ) → k < last → weighted (at_column unknowns k) (difference p (variable x) (constant a)) ≡ coordinate ((c, 1) ∷ []) k
  difference_at x c a column k less =
      let none = no_constant k less in
      let unit : at_column unknowns k ((x, 1) ∷ []) ≡ coordinate ((c, 1) ∷ []) k = ap (λ j. cond (j == k) 1 0) (variable_place x c column) in
      weighted_difference p x a (at_column unknowns k) ∙ ap₂ (λ y z. y + (p - 1) * a * z) unit none ∙ (let e : coordinate ((c, 1) ∷ []) k + (p - 1) * a * 0 ≡ coordinate ((c, 1) ∷ []) k = omega arith in e)

  module _ (lines : List Terms) (lines_are : AreLinesOf p generators lines) where
    span_of : (ss : List Summand) → All (IsMultiple p d xs degrees) ss → IsSpanOf p (unknowns ++ [] ∷ []) form.kept (sum_of lines ss)
    span_of ss each =
        sum_spanned p d xs degrees generators are unknowns ms vs matrix form.kept is.spans lines lines_are ss (recursion_from_All (IsMultiple p d xs degrees) ss each)

    -- no sum of multiples is 1: no row leads in the last column
    pub no_identity : HasNoIdentity p d xs degrees lines
    no_identity ss each same = (let inside = leads_below last last form.kept is.leading leads in omega (arith, inside))
      where
        span : IsSpanOf p (unknowns ++ [] ∷ []) form.kept (sum_of lines ss)
        span = span_of ss each

        at : (k : ℕ) → k ≤ last → multiple_in form.kept span.multipliers k % p ≡ (1 * at_column unknowns k [] + 0) % p
        at k inside =
            span_at (monomials d xs) unknowns matrix.unknowns_are p form.kept (sum_of lines ss) span k inside
            ∙ one_weighted p (at_column unknowns k) (sum_of lines ss) (constant 1) same

        before : (k : ℕ) → k < last → multiple_in form.kept span.multipliers k % p ≡ 0
        before k less = at k (omega (arith, less)) ∙ ap (λ x. (1 * x + 0) % p) (no_constant k less) ∙ zero-mod p

        some : multiple_in form.kept span.multipliers last % p ≢ 0
        some zero_is =
            (let here : at_column unknowns last [] ≡ 1 = at_column-same unknowns last [] (constant_place (monomials d xs) unknowns matrix.unknowns_are) in
            let one : (1 * 1 + 0) % p ≡ 0 = ap (λ x. (1 * x + 0) % p) (sym here) ∙ sym (at last (omega arith)) ∙ zero_is in
            let e : ◌≡◌ {A = ℕ} 1 0 = sym (mod-eq_of_lt (let two : 1 < p = omega (arith, least) in two)) ∙ one in
            omega (arith, e))

        leads : LeadsIn form.kept last
        leads = sums_lead p last form.kept span.multipliers last is.valid is.leading span.there before some

    module _ (x c : ℕ) (column : IsColumnOf unknowns x c) (known : Determines p d xs degrees lines x) where
      known_span : IsSpanOf p (unknowns ++ [] ∷ []) form.kept (sum_of lines known.summands)
      known_span = span_of known.summands known.each

      -- the multiples sum to the unit vector but for the last column
      known_at : (k : ℕ) → k < last → multiple_in form.kept known_span.multipliers k % p ≡ coordinate ((c, 1) ∷ []) k % p
      known_at k less =
          span_at (monomials d xs) unknowns matrix.unknowns_are p form.kept (sum_of lines known.summands) known_span k (omega (arith, less))
          ∙ one_weighted p (at_column unknowns k) (sum_of lines known.summands) (difference p (variable x) (constant known.value)) known.sum
          ∙ ap (λ y. y % p) (difference_at x c known.value column k less)

      -- a row leads in the column of a variable that is determined
      pub determined_led : LeadsIn form.kept c
      determined_led =
          sums_lead p last form.kept known_span.multipliers c is.valid is.leading known_span.there
          (λ k less. known_at k (omega (arith, less, column.inside)) ∙ ap (λ y. y % p) (coordinate-there (c, 1) [] k (λ e. omega (arith, e, less))) ∙ zero-mod p)
          (λ zero_is.
          (let one : 1 % p ≡ 0 = ap (λ y. y % p) (sym (coordinate-here (c, 1) [] c refl)) ∙ sym (known_at c column.inside) ∙ zero_is in
          let e : ◌≡◌ {A = ℕ} 1 0 = sym (mod-eq_of_lt (let two : 1 < p = omega (arith, least) in two)) ∙ one in
          omega (arith, e)))

      -- and its unit vector has no rest in the columns of unknowns
      pub determined_closed : IsOpenIn p last form.kept c → ⊥
      determined_closed o = (let none = o.reduced found.0 o.column found.1 found.2 found.3 in omega (arith, none, first.some))
        where
          first : IsFirst p o.rest o.column
          first = first_is p o.column o.rest o.valid o.leads

          others : List (ℕ × ℕ)
          others = times (p - 1) o.multipliers

          -- the multiples of the one sum less those of the other
          rest_at : (k : ℕ) → k < last → multiple_in form.kept (known_span.multipliers ++ others) k % p ≡ coordinate o.rest k % p
          rest_at k less =
              let a = multiple_in form.kept known_span.multipliers k in
              let b = multiple_in form.kept o.multipliers k in
              let r = coordinate o.rest k in
              ap (λ y. y % p) (multiple_in-append form.kept known_span.multipliers others k ∙ ap (λ y. a + y) (multiple_in-times form.kept (p - 1) o.multipliers k))
              ∙ sum_alike p a (r + b) ((p - 1) * b) ((p - 1) * b) (known_at k less ∙ sym (o.sum.sum k)) refl
              ∙ less_again p r b (omega (arith, least))

          found : LeadsIn form.kept o.column
          found =
              sums_lead p last form.kept (known_span.multipliers ++ others) o.column is.valid is.leading
              (All-append (λ m. m.0 < length form.kept) known_span.multipliers others known_span.there (there-times (length form.kept) (p - 1) o.multipliers o.sum.there))
              (λ k less. rest_at k (omega (arith, less, o.unknown)) ∙ ap (λ y. y % p) (first.before k less) ∙ zero-mod p)
              (λ zero_is. (let e : coordinate o.rest o.column ≡ 0 = sym (mod-eq_of_lt first.residue) ∙ sym (rest_at o.column o.unknown) ∙ zero_is in omega (arith, e, first.some)))

    -- not all variables are determined where one is open
    pub some_open : (constants : List ℕ) → HasOpen p unknowns form.kept constants → All (Determines p d xs degrees lines) constants → ⊥
    some_open constants o all =
        let known = All-contains (Determines p d xs degrees lines) constants o.variable all o.among in
        elim o.cause [
          | inl unled ↦ unled (determined_led o.variable o.column o.is known)
          | inr left ↦ determined_closed o.variable o.column o.is known left
        ]

    -- a value has its sum of multiples
    pub solution_of : d ≤ 1024 → columns d xs ≤ 4096 → rows d xs degrees ≤ 4096 → (x : ℕ) (v : Determined) → IsValueOf p unknowns ms vs x v → IsSolution p d xs degrees lines x v
    solution_of limit few_columns few_rows x v known = record {
      determined = record {
        monomials = monomials d xs;
        few = omega (arith, few_columns);
        low = low_monomials p d xs degrees generators are unknowns ms vs matrix limit;
        each = subst (All (IsSummand p lines (monomials d xs))) (sym known.value.summands_are) (are_summands p d xs degrees generators are unknowns ms vs matrix lines cs lines_are limit few_columns below);
        residue = known.value.value;
        sum = subst (λ ss. SamePolynomial p (sum_of lines ss) (difference p (variable x) (constant v.value))) (sym known.value.summands_are) same;
      };
      each = subst (All (IsMultiple p d xs degrees)) (sym known.value.summands_are) (All-from_recursion (IsMultiple p d xs degrees) (summands_of ms cs) (are_multiples p d xs degrees generators are unknowns ms vs matrix cs below));
      few = (let short = few_summands ms cs in let all = row_count p d xs degrees generators unknowns ms vs matrix in let long = ap length known.value.summands_are in omega (arith, short, all, long, few_rows));
    }
      where
        cs : List ℕ
        cs = known.value.coefficients

        below : AllByRecursion (λ y. y < p) cs
        below = recursion_from_All (λ y. y < p) cs known.value.residues

        long : length cs ≡ length ms
        long = known.value.sum.long ∙ one_row_each p d xs degrees generators unknowns ms vs matrix

        same : SamePolynomial p (sum_of lines (summands_of ms cs)) (difference p (variable x) (constant v.value))
        same = SamePolynomial-from_weighted p (sum_of lines (summands_of ms cs)) (difference p (variable x) (constant v.value)) at
          where
            at : (f : Monomial → ℕ) → weighted f (sum_of lines (summands_of ms cs)) % p ≡ weighted f (difference p (variable x) (constant v.value)) % p
            at f =
                let all = unknowns ++ [] ∷ [] in
                let g : ℕ → ℕ = λ k. f (get_or all k []) in
                let c = known.column in
                let r = v.value in
                let s = weighted f (sum_of lines (summands_of ms cs)) in
                let w = weight_of f all (sum_in cs vs) in
                let wide : length all ≡ last + 1 = wide_is in
                let unit : weight_of f all (coordinate ((c, 1) ∷ [])) ≡ 1 * f ((x, 1) ∷ []) =
                one_inside g c 1 (length all) (let inside = known.is.inside in omega (arith, inside, wide)) ∙ ap (λ m. 1 * f m) (get_or_append_left unknowns ([] ∷ []) [] c known.is.inside ∙ known.is.at) in
                let rest : weight_of f all (coordinate ((last, r) ∷ [])) ≡ r * f [] =
                one_inside g last r (length all) (omega (arith, wide)) ∙ ap (λ m. r * f m) (get_or_at unknowns [] [] [] last refl) in
                let parts : (w + r * f []) % p ≡ f ((x, 1) ∷ []) % p =
                ap (λ y. (w + y) % p) (sym rest)
                ∙ ap (λ y. y % p) (sym (product_below-sum g (sum_in cs vs) (coordinate ((last, r) ∷ [])) (length all)))
                ∙ product_below-alike p g (λ k. sum_in cs vs k + coordinate ((last, r) ∷ []) k) (coordinate ((c, 1) ∷ [])) (length all)
                (λ k. ap (λ y. y % p) (let e : sum_in cs vs k + coordinate ((last, r) ∷ []) k ≡ coordinate ((last, r) ∷ []) k + sum_in cs vs k = omega arith in e) ∙ known.value.sum.sum k)
                ∙ ap (λ y. y % p) (unit ∙ (let e : 1 * f ((x, 1) ∷ []) ≡ f ((x, 1) ∷ []) = omega arith in e)) in
                let first : s % p ≡ w % p = summands_weight p d xs degrees generators are unknowns ms vs matrix lines cs lines_are long f in
                first
                ∙ sym (less_again p w (r * f []) (omega (arith, least)))
                ∙ sum_alike p (w + r * f []) (f ((x, 1) ∷ [])) ((p - 1) * (r * f [])) ((p - 1) * (r * f [])) parts refl
                ∙ ap (λ y. (f ((x, 1) ∷ []) + y) % p) (let e : (p - 1) * (r * f []) ≡ (p - 1) * r * f [] = omega arith in e)
                ∙ ap (λ y. y % p) (sym (weighted_difference p x r f))
              where
                wide_is : length (unknowns ++ [] ∷ []) ≡ last + 1
                wide_is = length-append unknowns ([] ∷ [])
