-- The multiples of the last sum are multiples of lines that are there, and their products have few monomials.
use Rattle.std.proofs.Common.{◌≡◌, ◌⊎◌, inl, inr, ℕ, zero, suc, ◌+◌, ◌-◌, ◌*◌, ◌<◌, ◌≤◌, ◌||◌, Bool, true, List, [], ◌∷◌, ◌++◌, length, map, All, Contains, Option, Some, None, refl, sym, ap, ◌∙◌, subst, arith, append_assoc, length-append, mul-suc}
use Rattle.std.specs.List.{AllByRecursion, list_all}
use Rattle.std.specs.List.Sorted.{IsStrictlyIncreasing}
use Rattle.std.proofs.Math.Nat.{mod-lt}
use Rattle.std.proofs.lemmas.Bool.{and_from, or_cases, or_left, or_right}
use Rattle.std.proofs.lemmas.List.{length-map}
use Rattle.std.proofs.lemmas.List.Elements.{All-from_recursion, Contains-append_left, Contains-append_right}
use Rattle.ffc_cert.proofs.NumberLemmas.{both as both_true}
use Rattle.ffc_field.specs.Modular.{mul_mod, neg_mod}
use Rattle.ffc_ring.specs.Monomial.{Monomial, IsMonomial, IsMonomialFrom, degree, mono_mul, same_monomial}
use Rattle.ffc_ring.specs.Polynomial.{Terms, SamePolynomial, difference}
use Rattle.ffc_ring.specs.Counting.{IsAmong}
use Rattle.ffc_ring.proofs.MonomialLemmas.{mono_mul_one}
use Rattle.ffc_ring.proofs.PolynomialLemmas.{same_monomial-true, same_monomial-self}
use Rattle.ffc_trees.specs.Normal.{normal, IsNormal}
use Rattle.ffc_trees.specs.NodePolynomials.{variable, constant, EachMonomial}
use Rattle.ffc_trees.specs.TreeLines.{line_at}
use Rattle.ffc_trees.proofs.NormalLemmas.{normal_same, normal_is_normal}
use Rattle.ffc_trees.proofs.SameLemmas.{one_length, one_test}
use Rattle.ffc_bounds.specs.Monomials.{power, monomials}
use Rattle.ffc_refutation.specs.Combinations.{Summand, IsSummand}
use Rattle.ffc_refutation.proofs.Monomials.{each_normal}
use Rattle.ffc_lemmatree.proofs.Polynomials.{length-normal}
use Rattle.ffc_values.specs.declared.dividing.Known.{Known}
use Rattle.ffc_values.specs.Written.{known_of, power_summands, power_rest, term_summands, quotients}
use Rattle.ffc_values.proofs.Division.{IsLineOf, IsKnownAt, IsDivisible, one_power_more}
use Rattle.ffc_values.proofs.Within.{IsWithin, within_listed, within_tail, within_less, after_all, degree-append}

-- ---- tests of monomials

test_each : (b : Monomial → Bool) (ts : Terms) → EachMonomial (λ m. b m ≡ true) ts → list_all (λ (t : ℕ × Monomial). b t.1) ts ≡ true
test_each b [] each = refl
test_each b (t ∷ ts) each = and_from (b t.1) _ each.0 (test_each b ts each.1)

each_tested : (b : Monomial → Bool) (ts : Terms) → list_all (λ (t : ℕ × Monomial). b t.1) ts ≡ true → AllByRecursion (λ (t : ℕ × Monomial). b t.1 ≡ true) ts
each_tested b [] all = tt
each_tested b (t ∷ ts) all = let parts = both_true (b t.1) (list_all (λ (t : ℕ × Monomial). b t.1) ts) all in (parts.0, each_tested b ts parts.1)

-- a normal line has the monomials of each list of terms that is the same polynomial
pub same_tests : (b : Monomial → Bool) (p : ℕ) (line ts : Terms) → 0 < p → IsNormal p line → SamePolynomial p line ts → EachMonomial (λ m. b m ≡ true) ts → AllByRecursion (λ (t : ℕ × Monomial). b t.1 ≡ true) line
same_tests b p line ts positive is same each =
    each_tested b line
    (one_test (λ t. b t.1) p line (normal p ts) positive (record { one = is; other = normal_is_normal p ts positive; same = λ m. same m ∙ sym (normal_same p ts m) })
    ∙ test_each b (normal p ts) (each_normal (λ m. b m ≡ true) p ts each))

pub same_length : (p : ℕ) (line ts : Terms) → 0 < p → IsNormal p line → SamePolynomial p line ts → length line ≤ length ts
same_length p line ts positive is same =
    let e = one_length p line (normal p ts) positive (record { one = is; other = normal_is_normal p ts positive; same = λ m. same m ∙ sym (normal_same p ts m) }) in
    let h = length-normal p ts in
    omega arith

-- ---- the line of a variable less its value

-- one of two monomials
is_either : Monomial → Monomial → Bool
is_either n m = same_monomial m n || same_monomial m []

pub record IsLineAt (p : ℕ) (lines : List Terms) (k : Known) : Type 0 where
  pub there : k.line < length lines
  pub normal : IsNormal p (line_at lines k.line)
  pub same : IsLineOf p lines k

module _ (p : ℕ) (least : 2 ≤ p) (lines : List Terms) where
  positive : 0 < p
  positive = omega arith

  line_is_short : (k : Known) → IsLineAt p lines k → length (line_at lines k.line) ≤ 2
  line_is_short k is = same_length p (line_at lines k.line) (difference p (variable k.variable) (constant k.value)) positive is.normal is.same

  line_monomials : (k : Known) → IsLineAt p lines k → AllByRecursion (λ (t : ℕ × Monomial). (t.1 ≡ (k.variable, 1) ∷ []) ⊎ (t.1 ≡ [])) (line_at lines k.line)
  unfolding is_either
  line_monomials k is =
      let n : Monomial = (k.variable, 1) ∷ [] in
      each_of (line_at lines k.line) (same_tests (is_either n) p (line_at lines k.line) (difference p (variable k.variable) (constant k.value)) positive is.normal is.same
      (or_left (same_monomial n n) _ (same_monomial-self n), (or_right (same_monomial [] n) _ refl, tt)))
    where
      each_of : (ts : Terms) → AllByRecursion (λ (t : ℕ × Monomial). is_either ((k.variable, 1) ∷ []) t.1 ≡ true) ts → AllByRecursion (λ (t : ℕ × Monomial). (t.1 ≡ (k.variable, 1) ∷ []) ⊎ (t.1 ≡ [])) ts
      each_of [] all = tt
      each_of (t ∷ ts) all = (
        elim (or_cases (same_monomial t.1 ((k.variable, 1) ∷ [])) (same_monomial t.1 []) all.0) as (λ _. (t.1 ≡ (k.variable, 1) ∷ []) ⊎ (t.1 ≡ [])) [
          | inl first ↦ inl (same_monomial-true t.1 ((k.variable, 1) ∷ []) first)
          | inr other ↦ inr (same_monomial-true t.1 [] other)
        ],
        each_of ts all.1,
      )

-- ---- residues

pub power_rest_below : (p value c e : ℕ) → 0 < p → c < p → power_rest p value c e < p
power_rest_below p value c zero some below = below
power_rest_below p value c (suc e) some below = power_rest_below p value (mul_mod p c value) e some (mod-lt (c * value) some)

-- ---- how many multiples there are

length-power : (p : ℕ) (k : Known) (m : Monomial) (c e : ℕ) → length (power_summands p k m c e) ≡ e
length-power p k m c zero = refl
length-power p k m c (suc e) = ap suc (length-power p k m (mul_mod p c k.value) e)

length-term : (p : ℕ) (ks : List Known) (u : Monomial) (c : ℕ) (m : Monomial) → length (term_summands p ks u c m) ≤ degree m
length-term p ks u c [] = omega arith
length-term p ks u c (f ∷ m) = by_known (known_of ks f.0) (λ r. length-term p ks u r m)
  where
    by_known : (o : Option Known) → ((r : ℕ) → length (term_summands p ks u r m) ≤ degree m) → length (elim o as (λ _. List Summand) [ None ↦ [] | Some k ↦ power_summands p k (m ++ u) c f.1 ++ term_summands p ks u (power_rest p k.value c f.1) m ]) ≤ f.1 + degree m
    by_known None later = omega arith
    by_known (Some k) later =
        let r : ℕ = power_rest p k.value c f.1 in
        omega (arith, length-append (power_summands p k (m ++ u) c f.1) (term_summands p ks u r m), length-power p k (m ++ u) c f.1, later r)

pub length-quotients : (p : ℕ) (ks : List Known) (u : Monomial) (d : ℕ) (ts : Terms) → EachMonomial (λ m. degree m ≤ d) ts → length (quotients p ks u ts) ≤ d * length ts
length-quotients p ks u d [] each = omega arith
length-quotients p ks u d (t ∷ ts) each =
    let rest = length-quotients p ks u d ts each.1 in
    let one = length-term p ks u (neg_mod p t.0) t.1 in
    let low : degree t.1 ≤ d = each.0 in
    let long = length-append (term_summands p ks u (neg_mod p t.0) t.1) (quotients p ks u ts) in
    let times : d * suc (length ts) ≡ d * length ts + d = mul-suc d (length ts) in
    omega arith

-- ---- multiples of the last sum

-- a variable whose value is known, with its line, and numbered below the inverses
pub record IsFound (p : ℕ) (lines : List Terms) (ks : List Known) (point : ℕ → ℕ) (nodes x : ℕ) : Type 0 where
  pub at : IsKnownAt p lines ks point x
  pub line : IsLineAt p lines at.known
  pub below : x < nodes

-- a multiple in the last sum: with few powers, of variables with few digits
pub record IsLastSummand (p : ℕ) (lines : List Terms) (listed : List Monomial) (bound : ℕ) (s : Summand) : Type 0 where
  pub is : IsSummand p lines listed s
  pub small : AllByRecursion (λ f. f.0 < 10000000) s.1.1
  pub short : length s.1.1 ≤ bound

module _ (p : ℕ) (least : 2 ≤ p) (lines : List Terms) (ks : List Known) (point : ℕ → ℕ) (xs : List ℕ) (d nodes bound : ℕ) (u : Monomial)
    (low_degree : d ≤ 255) (few_nodes : nodes ≤ 1048576) (few_powers : bound ≤ 16) (up : IsStrictlyIncreasing xs)
    (found : (x : ℕ) → IsAmong xs x → IsFound p lines ks point nodes x)
    (short_powers : (m : Monomial) → IsWithin d xs m → length m + 1 ≤ bound)
    (u_after : IsMonomialFrom nodes u) (u_low : degree u ≤ 1) (u_short : length u ≤ 1) (u_small : AllByRecursion (λ f. f.0 < 10000000) u) where
  -- the monomials of all products
  abbrev pub listed : List Monomial
  listed = map (λ m. m ++ u) (monomials d xs) ++ [] ∷ []

  has_product : (m : Monomial) → IsWithin d xs m → Contains listed (m ++ u)
  has_product m is = Contains-append_left (map (λ m. m ++ u) (monomials d xs)) ([] ∷ []) (m ++ u) (mapped (monomials d xs) (within_listed d xs m up is))
    where
      mapped : (ms : List Monomial) → Contains ms m → Contains (map (λ m. m ++ u) ms) (m ++ u)
      mapped [] (k, inside, at) = absurd (omega arith)
      mapped (n ∷ ms) (zero, inside, at) = (0, omega arith, ap (λ m. m ++ u) at)
      mapped (n ∷ ms) (suc k, inside, at) = let rest = mapped ms (k, omega arith, at) in (suc rest.0, omega (arith, rest.1), rest.2)

  pub has_one : Contains listed []
  has_one = Contains-append_right (map (λ m. m ++ u) (monomials d xs)) ([] ∷ []) [] (0, omega arith, refl)

  pub few_listed : length (monomials d xs) ≤ 4096 → length listed ≤ 4097
  few_listed few = omega (arith, length-append (map (λ m. m ++ u) (monomials d xs)) ([] ∷ []), length-map (monomials d xs) (λ m. m ++ u))

  all_below : (m : Monomial) → AllByRecursion (λ f. IsAmong xs f.0) m → AllByRecursion (λ f. f.0 < nodes) m
  all_below [] all = tt
  all_below (f ∷ m) all = ((found f.0 all.0).below, all_below m all.1)

  all_small : (m : Monomial) → AllByRecursion (λ f. IsAmong xs f.0) m → AllByRecursion (λ f. f.0 < 10000000) (m ++ u)
  all_small [] all = u_small
  all_small (f ∷ m) all = (let below = (found f.0 all.0).below in omega arith, all_small m all.1)

  -- a monomial in the variables, times the inverse
  pub product_is : (m : Monomial) → IsWithin d xs m → IsMonomial (m ++ u)
  product_is m is = after_all nodes 0 m u (omega arith) is.monomial (all_below m is.among) u_after

  one_summand : (k : Known) (c e : ℕ) (m : Monomial) → c < p → IsLineAt p lines k → IsMonomialFrom (suc k.variable) m → IsWithin d xs (power k.variable (suc e) ++ m)
      → IsLastSummand p lines listed bound (k.line, (c, power k.variable e ++ (m ++ u)))
  one_summand k c e m below line from within =
      let x : ℕ = k.variable in
      let less : IsWithin d xs (power x e ++ m) = within_less d xs x e m within in
      let n : Monomial = power x e ++ (m ++ u) in
      let same : (power x e ++ m) ++ u ≡ n = append_assoc (power x e) m u in
      let monomial : IsMonomial n = subst IsMonomial same (product_is (power x e ++ m) less) in
      let rest : IsMonomialFrom (suc x) (m ++ u) = after_all nodes (suc x) m u (later within.among) from (all_below m (tail_among e within.among)) u_after in
      let long : length ((power x e ++ m) ++ u) ≡ length (power x e ++ m) + length u = length-append (power x e ++ m) u in
      let high : degree ((power x e ++ m) ++ u) ≡ degree (power x e ++ m) + degree u = degree-append (power x e ++ m) u in
      let size : length n ≤ bound = (let powers = short_powers (power x e ++ m) less in let e = ap length same in omega arith) in
      record {
        is = record {
          there = line.there;
          residue = below;
          monomial = monomial;
          powers = omega arith;
          low = (let low = less.low in let e = ap degree same in omega arith);
          short = (let h = line_is_short p least lines k line in omega arith);
          among = All-from_recursion (λ (t : ℕ × Monomial). Contains listed (mono_mul n t.1)) (line_at lines k.line) (each n (line_at lines k.line) (line_monomials p least lines k line)
              (subst (Contains listed) (append_assoc (power x (suc e)) m u ∙ sym (one_power_more x e (m ++ u) rest)) (has_product (power x (suc e) ++ m) within))
              (subst (Contains listed) (same ∙ sym (mono_mul_one n monomial)) (has_product (power x e ++ m) less)));
        };
        small = subst (AllByRecursion (λ (f : ℕ × ℕ). f.0 < 10000000)) same (all_small (power x e ++ m) less.among);
        short = size;
      }
    where
      later : AllByRecursion (λ (f : ℕ × ℕ). IsAmong xs f.0) (power k.variable (suc e) ++ m) → suc k.variable ≤ nodes
      later all = (found k.variable all.0).below

      tail_among : (i : ℕ) → AllByRecursion (λ (f : ℕ × ℕ). IsAmong xs f.0) (power k.variable (suc i) ++ m) → AllByRecursion (λ (f : ℕ × ℕ). IsAmong xs f.0) m
      tail_among i all = all.1

      each : (n : Monomial) (ts : Terms) → AllByRecursion (λ (t : ℕ × Monomial). (t.1 ≡ (k.variable, 1) ∷ []) ⊎ (t.1 ≡ [])) ts → Contains listed (mono_mul n ((k.variable, 1) ∷ [])) → Contains listed (mono_mul n [])
          → AllByRecursion (λ (t : ℕ × Monomial). Contains listed (mono_mul n t.1)) ts
      each n [] all first other = tt
      each n (t ∷ ts) all first other = (
        elim all.0 as (λ _. Contains listed (mono_mul n t.1)) [
          | inl at ↦ subst (λ m. Contains listed (mono_mul n m)) (sym at) first
          | inr at ↦ subst (λ m. Contains listed (mono_mul n m)) (sym at) other
        ],
        each n ts all.1 first other,
      )

  power_summands_are : (k : Known) (m : Monomial) (c e : ℕ) → c < p → IsLineAt p lines k → IsMonomialFrom (suc k.variable) m → IsWithin d xs (power k.variable e ++ m)
      → AllByRecursion (IsLastSummand p lines listed bound) (power_summands p k (m ++ u) c e)
  power_summands_are k m c zero below line from within = tt
  power_summands_are k m c (suc e) below line from within = (
    one_summand k c e m below line from within,
    power_summands_are k m (mul_mod p c k.value) e (mod-lt (c * k.value) (omega arith)) line from (within_less d xs k.variable e m within),
  )

  both : (ss rs : List Summand) → AllByRecursion (IsLastSummand p lines listed bound) ss → AllByRecursion (IsLastSummand p lines listed bound) rs → AllByRecursion (IsLastSummand p lines listed bound) (ss ++ rs)
  both [] rs all rest = rest
  both (s ∷ ss) rs all rest = (all.0, both ss rs all.1 rest)

  term_summands_are : (c : ℕ) (m : Monomial) → c < p → IsWithin d xs m → AllByRecursion (IsLastSummand p lines listed bound) (term_summands p ks u c m)
  term_summands_are c [] below within = tt
  term_summands_are c ((x, zero) ∷ m) below within = absurd (omega (arith, within.monomial.1))
  term_summands_are c ((x, suc e) ∷ m) below within =
      let is = found x within.among.0 in
      let k : Known = is.at.known in
      let r : ℕ = power_rest p k.value c (suc e) in
      let whole : term_summands p ks u c ((x, suc e) ∷ m) ≡ power_summands p k (m ++ u) c (suc e) ++ term_summands p ks u r m =
      ap (λ (o : Option Known). elim o as (λ _. List Summand) [ None ↦ [] | Some j ↦ power_summands p j (m ++ u) c (suc e) ++ term_summands p ks u (power_rest p j.value c (suc e)) m ]) is.at.found in
      subst (AllByRecursion (IsLastSummand p lines listed bound)) (sym whole)
      (both (power_summands p k (m ++ u) c (suc e)) (term_summands p ks u r m)
      (power_summands_are k m c (suc e) below is.line (subst (λ y. IsMonomialFrom (suc y) m) (sym is.at.variable) within.monomial.2) (subst (λ y. IsWithin d xs ((y, suc e) ∷ m)) (sym is.at.variable) within))
      (term_summands_are r m (power_rest_below p k.value c (suc e) (omega arith) below) (within_tail d xs (x, suc e) m within)))

  pub quotients_are : (ts : Terms) → EachMonomial (IsWithin d xs) ts → AllByRecursion (IsLastSummand p lines listed bound) (quotients p ks u ts)
  quotients_are [] each = tt
  quotients_are (t ∷ ts) each =
      both (term_summands p ks u (neg_mod p t.0) t.1) (quotients p ks u ts)
      (term_summands_are (neg_mod p t.0) t.1 (mod-lt (p - t.0) (omega arith)) each.0) (quotients_are ts each.1)

  -- the terms may be divided
  all_known : (m : Monomial) → AllByRecursion (λ f. IsAmong xs f.0) m → AllByRecursion (λ f. IsKnownAt p lines ks point f.0) m
  all_known [] all = tt
  all_known (f ∷ m) all = ((found f.0 all.0).at, all_known m all.1)

  pub all_divisible : (ts : Terms) → IsNormal p ts → EachMonomial (IsWithin d xs) ts → AllByRecursion (IsDivisible p lines ks point u) ts
  all_divisible [] is each = tt
  all_divisible (t ∷ ts) is each = (
    record { residue = is.1; monomial = product_is t.1 each.0; known = all_known t.1 each.0.among },
    all_divisible ts is.3 each.1,
  )

  -- all of them are low
  all_low : (ms : List Monomial) → AllByRecursion (λ m. degree m ≤ d) ms → AllByRecursion (λ m. degree m ≤ 1024) (map (λ m. m ++ u) ms ++ [] ∷ [])
  all_low [] all = (omega arith, tt)
  all_low (m ∷ ms) all = (let e = degree-append m u in let low : degree m ≤ d = all.0 in omega arith, all_low ms all.1)

  pub low_listed : AllByRecursion (λ m. degree m ≤ d) (monomials d xs) → All (λ m. degree m ≤ 1024) listed
  low_listed low = All-from_recursion (λ m. degree m ≤ 1024) listed (all_low (monomials d xs) low)

  -- a line whose monomials are products or 1
  pub whole_is : (line : ℕ) → line < length lines → length (line_at lines line) ≤ 8192 → AllByRecursion (λ (t : ℕ × Monomial). Contains listed t.1) (line_at lines line) → 1 ≤ bound
      → IsLastSummand p lines listed bound (line, (1, []))
  whole_is line there few all some = record {
    is = record { there = there; residue = omega arith; monomial = tt; powers = omega arith; low = omega arith; short = few; among = All-from_recursion (λ (t : ℕ × Monomial). Contains listed (mono_mul [] t.1)) (line_at lines line) all };
    small = tt;
    short = omega arith;
  }

  pub product_listed : (m : Monomial) → IsWithin d xs m → Contains listed (m ++ u)
  product_listed m is = has_product m is
