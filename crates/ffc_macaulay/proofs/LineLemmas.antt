-- Lines: the monomials of a normal list of terms, and how many there are.
use Rattle.std.proofs.Common.{◌≡◌, ◌≢◌, ◌⊎◌, ℕ, zero, suc, ◌+◌, ◌-◌, ◌%◌, ◌<◌, ◌≤◌, false, List, [], ◌∷◌, length, Contains, get_or, inl, inr, refl, sym, ap, ◌∙◌, subst, arith}
use Rattle.std.specs.List.{AllByRecursion, IsDistinct}
use Rattle.std.proofs.Math.Nat.{mod-eq_of_lt, zero-mod}
use Rattle.std.proofs.lemmas.List.Elements.{All-from_recursion, recursion_from_All, All-get_or}
use Rattle.std.proofs.lemmas.Map.Made.{length-le_from_is_member}
use Rattle.std.proofs.lemmas.Map.Views.{list_any-from_Contains, Contains-from_any}
use Rattle.ffc_field.specs.Binomial.{choose}
use Rattle.ffc_mono.specs.EqualityLaws.{same_monomial_equivalence}
use Rattle.ffc_refutation.specs.Combinations.{Summand, IsSummand}
use Rattle.ffc_ring.specs.Monomial.{Monomial, IsMonomialFrom, degree, mono_mul, same_monomial}
use Rattle.ffc_ring.specs.Polynomial.{Terms, written, coefficient, SamePolynomial, IsNoneOf}
use Rattle.ffc_ring.proofs.PolynomialLemmas.{same_monomial-true, same_monomial-other, written-at, written-off, cases_monomial}
use Rattle.ffc_trees.specs.Normal.{IsNormal, monomials_of}
use Rattle.ffc_trees.specs.TreeLines.{line_at}
use Rattle.ffc_bounds.specs.Monomials.{monomials, columns}
use Rattle.ffc_macaulay.specs.Identities.{AreGenerators, AreLinesOf, IsMultiple}
use Rattle.ffc_macaulay.proofs.CountLemmas.{length-monomials, many_products, grows_degree, short_monomials}
use Rattle.ffc_macaulay.proofs.MemberLemmas.{contained_each, contains_cases, contains_none, each_weaker, up_to_at}
use Rattle.ffc_macaulay.proofs.ListLemmas.{product_there}

none_written : (m : Monomial) (ts : Terms) → IsNoneOf (monomials_of ts) m → written ts m ≡ 0
none_written m [] none = refl
none_written m (t ∷ ts) none = written-off m t ts none.0 ∙ none_written m ts none.1

more_written : (n : ℕ × Monomial) (us ts : Terms) → IsNoneOf (monomials_of ts) n.1 → AllByRecursion (λ t. written us t.1 ≡ t.0) ts → AllByRecursion (λ t. written (n ∷ us) t.1 ≡ t.0) ts
more_written n us [] none are = tt
more_written n us (t ∷ ts) none are = (written-off t.1 n us (λ e. none.0 (sym e)) ∙ are.0, more_written n us ts none.1 are.1)

-- what is written for the monomial of a term is its coefficient
normal_written : (p : ℕ) (ts : Terms) → IsNormal p ts → AllByRecursion (λ t. written ts t.1 ≡ t.0) ts
normal_written p [] is = tt
normal_written p (t ∷ ts) is =
    let none : written ts t.1 ≡ 0 = none_written t.1 ts is.2 in
    (written-at t.1 t ts refl ∙ (let e : t.0 + written ts t.1 ≡ t.0 = omega arith in e), more_written t ts ts is.2 (normal_written p ts is.3))

residues_each : (p : ℕ) (ts : Terms) → IsNormal p ts → AllByRecursion (λ t. (0 < t.0) × (t.0 < p)) ts
residues_each p [] is = tt
residues_each p (t ∷ ts) is = ((is.0, is.1), residues_each p ts is.3)

nonzero_each : (p : ℕ) (us ts : Terms) → AllByRecursion (λ t. written us t.1 ≡ t.0) ts → AllByRecursion (λ t. (0 < t.0) × (t.0 < p)) ts → AllByRecursion (λ t. coefficient p us t.1 ≢ 0) ts
nonzero_each p us [] one two = tt
nonzero_each p us (t ∷ ts) one two = (
  (λ none. let e : t.0 ≡ 0 = sym (mod-eq_of_lt two.0.1) ∙ ap (λ x. x % p) (sym one.0) ∙ none in omega (arith, two.0.0, e)),
  nonzero_each p us ts one.1 two.1,
)

-- a monomial with a coefficient is one of those of the terms
coefficient_of : (P : Monomial → Type 0) (p : ℕ) (ts : Terms) (m : Monomial) → AllByRecursion (λ t. P t.1) ts → coefficient p ts m ≢ 0 → P m
coefficient_of P p [] m each some = absurd (some (zero-mod p))
coefficient_of P p (t ∷ ts) m each some = elim (cases_monomial t.1 m) as (λ _. P m) [
  | inl same ↦ subst P same each.0
  | inr other ↦ coefficient_of P p ts m each.1 (λ none. some (ap (λ x. x % p) (written-off m t ts other) ∙ none))
]

-- the monomials of a normal list are among those of any list that is the same polynomial
pub line_among : (P : Monomial → Type 0) (p : ℕ) (line terms : Terms) → IsNormal p line → SamePolynomial p line terms → AllByRecursion (λ t. P t.1) terms → AllByRecursion (λ t. P t.1) line
line_among P p line terms is same each =
    each_weaker (λ t. coefficient p line t.1 ≢ 0) (λ t. P t.1) (λ t some. coefficient_of P p terms t.1 each (λ none. some (same t.1 ∙ none)))
    line (nonzero_each p line line (normal_written p line is) (residues_each p line is))

-- ---- how many terms a line has

none_equal : (m : Monomial) (ms : List Monomial) → IsNoneOf ms m → AllByRecursion (λ n. same_monomial m n ≡ false) ms
none_equal m [] none = tt
none_equal m (n ∷ ms) none = (same_monomial-other m n (λ e. none.0 (sym e)), none_equal m ms none.1)

distinct_monomials : (p : ℕ) (ts : Terms) → IsNormal p ts → IsDistinct same_monomial (monomials_of ts)
unfolding IsDistinct
distinct_monomials p [] is = tt
distinct_monomials p (t ∷ ts) is = (none_equal t.1 (monomials_of ts) is.2, distinct_monomials p ts is.3)

length-monomials_of : (ts : Terms) → length (monomials_of ts) ≡ length ts
length-monomials_of [] = refl
length-monomials_of (t ∷ ts) = ap suc (length-monomials_of ts)

listed_monomial : (P : Monomial → Type 0) (ts : Terms) (m : Monomial) → AllByRecursion (λ t. P t.1) ts → Contains (monomials_of ts) m → P m
listed_monomial P [] m each has = absurd (contains_none m has)
listed_monomial P (t ∷ ts) m each has = elim (contains_cases t.1 (monomials_of ts) m has) as (λ _. P m) [
  | inl here ↦ subst P here each.0
  | inr later ↦ listed_monomial P ts m each.1 later
]

pub line_short : (p : ℕ) (line : Terms) (ms : List Monomial) → IsNormal p line → AllByRecursion (λ t. Contains ms t.1) line → length line ≤ length ms
line_short p line ms is each =
    let few = length-le_from_is_member same_monomial_equivalence (monomials_of line) ms (distinct_monomials p line is)
    (λ q listed. list_any-from_Contains same_monomial_equivalence q ms (listed_monomial (Contains ms) line q each (Contains-from_any same_monomial-true q (monomials_of line) listed))) in
    omega (arith, few, length-monomials_of line)

-- ---- multiples are summands

-- the degree is at least the number of powers
powers_low : (low : ℕ) (m : Monomial) → IsMonomialFrom low m → length m ≤ degree m
powers_low low [] is = omega arith
powers_low low (p ∷ m) is = let rest = powers_low (suc p.0) m is.2 in omega (arith, rest, is.1)

le_or_gt : (a b : ℕ) → (a ≤ b) ⊎ (b < a)
le_or_gt zero b = inl (omega arith)
le_or_gt (suc a) zero = inr (omega arith)
le_or_gt (suc a) (suc b) = elim (le_or_gt a b) [ inl small ↦ inl (omega arith) | inr large ↦ inr (omega arith) ]

module _ (p d : ℕ) (xs degrees : List ℕ) (generators lines : List Terms) (are : AreGenerators d xs degrees generators) (lines_are : AreLinesOf p generators lines) (limit : d ≤ 1024) (few : columns d xs ≤ 4096) where
  -- at most twelve powers, since with more there were more columns
  few_powers : (m : Monomial) → length m ≤ degree m → length m ≤ length xs → degree m ≤ d → length m ≤ 16
  few_powers m powers variables low = elim (le_or_gt (length m) 12) as (λ _. length m ≤ 16) [
    | inl small ↦ omega arith
    | inr large ↦
        absurd (
        let many : 8192 ≤ choose (d + length xs) (length xs) = many_products 13 d (length xs) (omega arith) (omega arith) in
        omega (arith, many, few, length-monomials d xs))
  ]

  pub is_summand : (s : Summand) → IsMultiple p d xs degrees s → IsSummand p lines (monomials d xs) s
  is_summand s is =
      let e = get_or degrees s.0 0 in
      let there : s.0 < length generators = omega (arith, is.there, are.long) in
      let line = line_at lines s.0 in
      let normal = lines_are.normal s.0 there in
      let up = up_to_at (d - e) xs s.1.1 is.monomial in
      let low : e ≤ d = All-get_or (λ e. e ≤ d) degrees s.0 0 is.there are.low in
      let each : AllByRecursion (λ t. Contains (monomials e xs) t.1) line =
      line_among (Contains (monomials e xs)) p line (get_or generators s.0 []) normal (lines_are.same s.0 there)
      (recursion_from_All (λ t. Contains (monomials e xs) t.1) (get_or generators s.0 []) (are.within s.0 there)) in
      let count : columns e xs ≤ columns d xs =
      (let more = grows_degree e (d - e) (length xs) in
      let same : choose (e + (d - e) + length xs) (length xs) ≡ choose (d + length xs) (length xs) = ap (λ k. choose (k + length xs) (length xs)) (let w : e + (d - e) ≡ d = omega arith in w) in
      omega (arith, more, same, length-monomials e xs, length-monomials d xs)) in
      let short = line_short p line (monomials e xs) normal each in
      record {
        there = omega (arith, there, lines_are.long);
        residue = is.residue;
        monomial = up.monomial;
        powers = few_powers s.1.1 (powers_low 0 s.1.1 up.monomial) (contained_each (λ m. length m ≤ length xs) (monomials (d - e) xs) s.1.1 (short_monomials (d - e) xs) is.monomial) (omega (arith, up.low));
        low = omega (arith, up.low);
        short = omega (arith, short, count, few);
        among = All-from_recursion (λ t. Contains (monomials d xs) (mono_mul s.1.1 t.1)) line
            (each_weaker (λ t. Contains (monomials e xs) t.1) (λ t. Contains (monomials d xs) (mono_mul s.1.1 t.1)) (λ t has.
            product_there d xs degrees generators are (s.0, s.1.1) (record { there = is.there; monomial = is.monomial }) t.1 has) line each);
      }
