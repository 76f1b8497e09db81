-- Entries that list what an assignment gives the declared constants.
use Rattle.std.proofs.Common.{◌≡◌, ℕ, zero, suc, ◌+◌, ◌*◌, ◌^◌, ◌<◌, ◌≤◌, true, List, [], ◌∷◌, ◌++◌, length, map, get_or, take, drop, All, Contains, codes, refl, sym, ap, ap₂, ◌∙◌, subst, arith, inl, inr, lit<}
use Rattle.std.specs.List.{AllByRecursion, flat_map}
use Rattle.std.specs.List.Sorted.{IsStrictlyIncreasing}
use Rattle.std.proofs.Math.ListN.{set}
use Rattle.std.proofs.lemmas.List.{length-append, length-map, get_or-drop, take_more_set, take_more, drop_more, drop-set-lt, map-append}
use Rattle.std.proofs.lemmas.List.Elements.{All-from_recursion, All-contains}
use Rattle.std.proofs.lemmas.Fmt.{length-decimal-le}
use Rattle.std.proofs.lemmas.Option.{slice_get_within}
use Rattle.ffc_cert.specs.declared.entries.Entry.TheVariants.{Sat}
use Rattle.ffc_cert.specs.Spelling.{number, value_line, entry_text}
use Rattle.ffc_cert.specs.Ranges.{IsValue}
use Rattle.ffc_cert.specs.WellFormed.{IsReadable}
use Rattle.ffc_field.specs.declared.id.FieldId.{FieldId}
use Rattle.ffc_field.specs.declared.id.FieldId.TheVariants.{F2, F3, F5, F17, F65537, BabyBear, KoalaBear, Goldilocks}
use Rattle.ffc_field.specs.Orders.{order_of_id}
use Rattle.ffc_term.specs.declared.node.Node.{Node}
use Rattle.ffc_term.specs.declared.node.Node.TheVariants.{FieldConst}
use Rattle.ffc_term.specs.declared.value.Value.{Value}
use Rattle.ffc_term.specs.Nodes.{IsConstantAt, node_at}
use Rattle.ffc_term.specs.Tables.{Fits, IsWellFormed}
use Rattle.ffc_term.specs.Measuring.{value_count}
use Rattle.ffc_rules.specs.Assignments.{value_of_constant, value_of_number, listed_assignment, are_true}
use Rattle.ffc_rules.specs.Cones.{cone_constants}
use Rattle.ffc_rules.specs.Entries.{NodeCheck, limits}
use Rattle.ffc_rules.specs.Laws.{IsValid}
use Rattle.ffc_rules.proofs.AssignmentLemmas.{AreConstants, AreDifferent, Among, node_at-is, constant_listed}
use Rattle.ffc_rules.proofs.CaseLemmas.{AreApart, each_contained, AreTrue-from_test, constants_of, named_each, named_apart, named_among, increasing_apart, ids_within, declared_each}
use Rattle.ffc_rules.proofs.KeptLemmas.{values_kept}
use Rattle.ffc_trials.specs.Counting.{GivesNumbers, numbers_listed}
use Rattle.ffc_trials.specs.Stops.{AreModelValues}
use Rattle.ffc_trials.proofs.CountingLemmas.{number_fits, count_positive}
use Rattle.ffc_trials.proofs.ModelLemmas.{same_model}

-- What is listed

pub listed-names : (ns : List Node) (values : List Value) (ids : List ℕ) → map (λ p. p.0) (numbers_listed ns values ids) ≡ ids
listed-names ns values [] = refl
listed-names ns values (id ∷ ids) = ap (λ xs. id ∷ xs) (listed-names ns values ids)

listed_fit : (ns : List Node) (formed : IsWellFormed ns) (values : List Value) (ids : List ℕ) → AllByRecursion (IsConstantAt ns) ids → AllByRecursion (λ p. p.1 < value_count (node_at ns p.0)) (numbers_listed ns values ids)
listed_fit ns formed values [] are = tt
listed_fit ns formed values (id ∷ ids) are = (number_fits (node_at ns id) _ (count_positive ns formed id are.0), listed_fit ns formed values ids are.1)

listed_given : (ns : List Node) (values : List Value) (ids : List ℕ) → GivesNumbers ns values (numbers_listed ns values ids)
listed_given ns values [] = tt
listed_given ns values (id ∷ ids) = (refl, listed_given ns values ids)

each_among : (P : ℕ × ℕ → Type 0) (pairs : List (ℕ × ℕ)) → ((p : ℕ × ℕ) → Among p pairs → P p) → AllByRecursion P pairs
each_among P [] all = tt
each_among P (q ∷ pairs) all = (all q (inl refl), each_among P pairs (λ p has. all p (inr has)))

-- Ranges

order_wide : (id : FieldId) → order_of_id id < 2 ^ 64
order_wide F2 = lit< tt
order_wide F3 = lit< tt
order_wide F5 = lit< tt
order_wide F17 = lit< tt
order_wide F65537 = lit< tt
order_wide BabyBear = lit< tt
order_wide KoalaBear = lit< tt
order_wide Goldilocks = lit< tt

fit_wide : (n : Node) (before : List Node) → Fits before n → value_count n < 2 ^ 64
fit_wide (FieldConst k p) before is = subst (λ q. q < 2 ^ 64) is.1 (order_wide is.0)
fit_wide _ before is = omega arith

count_wide : (ns : List Node) (id : ℕ) → IsWellFormed ns → IsConstantAt ns id → value_count (node_at ns id) < 2 ^ 64
count_wide ns id formed (n, at, const) = rw (node_at-is ns id n at) (fit_wide n _ (formed.fits id n at))

-- an increasing list of numbers below a bound is not longer than the bound
place_below : (xs : List ℕ) → IsStrictlyIncreasing xs → (i : ℕ) → i < length xs → i ≤ get_or xs i 0
place_below xs inc zero inside = omega arith
place_below xs inc (suc i) inside =
    let e : suc i ≡ i + 1 = omega arith in
    let before : i ≤ get_or xs i 0 = place_below xs inc i (omega arith) in
    let next : get_or xs i 0 < get_or xs (i + 1) 0 = inc i (omega arith) in
    rw e (omega arith)

increasing_short : (xs : List ℕ) (bound : ℕ) → IsStrictlyIncreasing xs → ((i : ℕ) → i < length xs → get_or xs i 0 < bound) → length xs ≤ bound
increasing_short [] bound inc below = omega arith
increasing_short (x ∷ xs) bound inc below =
    let last : length xs ≤ get_or (x ∷ xs) (length xs) 0 = place_below (x ∷ xs) inc (length xs) (omega arith) in
    let under = below (length xs) (omega arith) in
    omega arith

-- Texts

number-short : (n k : ℕ) → 0 < k → n < 10 ^ k → n < 2 ^ 64 → length (number n) ≤ k + 1
number-short n k some below wide = let h = length-decimal-le k n some below wide in omega arith

line-short : (p : ℕ × ℕ) → IsValue p → length (value_line p) ≤ 34
line-short p is =
    let first = number-short p.0 10 (omega arith) (omega (arith, is.0)) (omega (arith, is.0)) in
    let second = number-short p.1 20 (omega arith) (omega (arith, is.1)) is.1 in
    let long : length (value_line p) ≡ 1 + length (number p.0) + length (number p.1) + 1 =
    length-append (codes "=" ++ number p.0 ++ number p.1) (10 ∷ [])
    ∙ ap (λ n. n + 1) (length-append (codes "=" ++ number p.0) (number p.1) ∙ ap (λ n. n + length (number p.1)) (length-append (codes "=") (number p.0))) in
    omega arith

lines-short : (pairs : List (ℕ × ℕ)) → AllByRecursion IsValue pairs → length (flat_map value_line pairs) ≤ 34 * length pairs
lines-short [] all = omega arith
lines-short (p ∷ pairs) all =
    let first = line-short p all.0 in
    let rest = lines-short pairs all.1 in
    let long = length-append (value_line p) (flat_map value_line pairs) in
    omega arith

pub values_readable : (pairs : List (ℕ × ℕ)) → length pairs ≤ 1048576 → AllByRecursion IsValue pairs → IsReadable 2 (Sat pairs)
unfolding entry_text
values_readable pairs few all =
    let count = number-short (length pairs) 10 (omega arith) (omega arith) (omega arith) in
    let lines = lines-short pairs all in
    let long : length (entry_text (Sat pairs)) ≡ 3 + length (number (length pairs)) + 1 + length (flat_map value_line pairs) =
    length-append (codes "sat" ++ number (length pairs) ++ 10 ∷ []) (flat_map value_line pairs)
    ∙ ap (λ n. n + length (flat_map value_line pairs)) (length-append (codes "sat" ++ number (length pairs)) (10 ∷ []) ∙ ap (λ n. n + 1) (length-append (codes "sat") (number (length pairs)))) in
    record { well_formed = record { few = omega arith; each = all }; short = omega arith }

-- Together

module _ (c : NodeCheck) (valid : IsValid c) (values : List Value) where
  pairs : List (ℕ × ℕ)
  pairs = numbers_listed c.nodes values c.declared

  names : map (λ p. p.0) pairs ≡ c.declared
  unfolding pairs
  names = listed-names c.nodes values c.declared

  constants : AllByRecursion (IsConstantAt c.nodes) c.declared
  constants = declared_each c.nodes c.declared c.in_force c.first_order valid pairs names

  fit : AllByRecursion (λ p. p.1 < value_count (node_at c.nodes p.0)) pairs
  unfolding pairs
  fit = listed_fit c.nodes valid.table.well_formed values c.declared constants

  are : AreConstants c.nodes pairs
  are = named_each (IsConstantAt c.nodes) pairs (subst (AllByRecursion (IsConstantAt c.nodes)) (sym names) constants)

  differ : AreDifferent pairs
  differ = named_apart pairs (subst AreApart (sym names) (increasing_apart c.declared valid.increasing))

  inside : (id : ℕ) → IsConstantAt c.nodes id → id < length c.nodes
  inside id (n, at, const) = slice_get_within c.nodes id n at

  short : length pairs ≤ 1048576
  short =
      let same : length pairs ≡ length c.declared = sym (length-map pairs (λ p. p.0)) ∙ ap length names in
      let few : length c.declared ≤ length c.nodes =
      increasing_short c.declared (length c.nodes) valid.increasing (λ i at. inside (get_or c.declared i 0) (valid.constants i 0 at)) in
      omega (arith, valid.table.well_formed.within)

  wide : (ps : List (ℕ × ℕ)) → AreConstants c.nodes ps → AllByRecursion (λ p. p.1 < value_count (node_at c.nodes p.0)) ps → AllByRecursion IsValue ps
  wide [] of small = tt
  wide (p ∷ ps) of small =
      let here = inside p.0 of.0 in
      let count = count_wide c.nodes p.0 valid.table.well_formed of.0 in
      ((omega (arith, valid.table.well_formed.within), omega (arith, small.0)), wide ps of.1 small.1)

  pub model_values : are_true c.nodes c.in_force values ≡ true → AreModelValues c (numbers_listed c.nodes values c.declared)
  unfolding pairs
  model_values good =
      let listed = listed_assignment c.nodes pairs in
      let of = constants_of c.nodes c.in_force valid.table (ids_within c.nodes c.declared c.in_force c.first_order valid pairs names) in
      let same = same_model c.nodes c.in_force (cone_constants c.nodes c.in_force) pairs values valid.table of are differ fit (listed_given c.nodes values c.declared)
      (λ id has. let is = (of.each id).0 has in named_among c.declared pairs id names (valid.covered id is.0 is.1)) in
      let agrees = All-from_recursion (λ p. value_of_constant c.nodes listed p.0 ≡ value_of_number (node_at c.nodes p.0) p.1) pairs
      (each_among (λ p. value_of_constant c.nodes listed p.0 ≡ value_of_number (node_at c.nodes p.0) p.1) pairs (λ p has. constant_listed c.nodes pairs p valid.table.well_formed are differ has)) in
      record {
        readable = values_readable pairs short (wide pairs are fit);
        right = λ line. values_kept limits c pairs line listed valid (record { names = names; fit = All-from_recursion (λ p. p.1 < value_count (node_at c.nodes p.0)) pairs fit }) agrees
            (AreTrue-from_test c.nodes c.in_force listed (sym same ∙ good));
      }

-- Steps of the code

pub get_or-dropped : (xs ys : List (ℕ × ℕ)) (i : ℕ) (d : ℕ × ℕ) → drop i xs ≡ drop i ys → get_or xs i d ≡ get_or ys i d
get_or-dropped xs ys i d same =
    let e : i + 0 ≡ i = omega arith in
    subst (λ k. get_or xs k d ≡ get_or ys k d) e (sym (get_or-drop i xs 0 d) ∙ ap (λ zs. get_or zs 0 d) same ∙ get_or-drop i ys 0 d)

module _ (f : ℕ × ℕ → ℕ × ℕ) (xs ys : List (ℕ × ℕ)) (i : ℕ) (inside : i < length xs) (long : length xs ≡ length ys) where
  pub listed_more : (y : ℕ × ℕ) → y ≡ f (get_or ys i (0, 0)) → take i xs ≡ map f (take i ys) → take (i + 1) (set xs i y) ≡ map f (take (i + 1) ys)
  listed_more y is done =
      take_more_set xs i y inside ∙ ap₂ (λ a b. a ++ b ∷ []) done is
      ∙ sym (ap (map f) (take_more ys i (0, 0) (omega arith)) ∙ map-append f (take i ys) (get_or ys i (0, 0) ∷ []))

  pub rest_left : (y : ℕ × ℕ) → drop i xs ≡ drop i ys → drop (i + 1) (set xs i y) ≡ drop (i + 1) ys
  rest_left y same =
      let parts = sym (drop_more xs i (0, 0) inside) ∙ same ∙ drop_more ys i (0, 0) (omega arith) in
      drop-set-lt (i + 1) xs i y (omega arith) ∙ ap tail parts
    where
      tail : List (ℕ × ℕ) → List (ℕ × ℕ)
      tail [] = []
      tail (p ∷ ps) = ps

pub map-zeros : (f : ℕ → ℕ) (ids : List ℕ) → map {A = ℕ × ℕ} {B = ℕ × ℕ} (λ p. (p.0, f p.0)) (map {A = ℕ} {B = ℕ × ℕ} (λ id. (id, 0)) ids) ≡ map {A = ℕ} {B = ℕ × ℕ} (λ id. (id, f id)) ids
map-zeros f [] = refl
map-zeros f (id ∷ ids) = ap (λ (xs : List (ℕ × ℕ)). (id, f id) ∷ xs) (map-zeros f ids)

pub zeros_inside : (c : NodeCheck) → IsValid c → All (λ p. p.0 < length c.nodes) (map {A = ℕ} {B = ℕ × ℕ} (λ id. (id, 0)) c.declared)
zeros_inside c valid = All-from_recursion (λ p. p.0 < length c.nodes) _ (each c.declared (each_contained (λ id. id < length c.nodes) c.declared inside))
  where
    each : (ids : List ℕ) → AllByRecursion (λ id. id < length c.nodes) ids → AllByRecursion (λ (p : ℕ × ℕ). p.0 < length c.nodes) (map {A = ℕ} {B = ℕ × ℕ} (λ id. (id, 0)) ids)
    each [] all = tt
    each (id ∷ ids) all = (all.0, each ids all.1)

    inside : (id : ℕ) → Contains c.declared id → id < length c.nodes
    inside id has = let is = All-contains (IsConstantAt c.nodes) c.declared id valid.constants has in slice_get_within c.nodes id is.0 is.1
