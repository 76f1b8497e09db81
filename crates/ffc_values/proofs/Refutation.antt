-- The tree of the values refutes: its last sum is a constant other than 0, and it is written in range and in few bytes.
use Rattle.std.proofs.Common.{◌≡◌, inl, inr, ℕ, zero, suc, ◌+◌, ◌-◌, ◌*◌, ◌^◌, ◌<◌, ◌≤◌, min, Bool, true, false, cond, List, [], ◌∷◌, ◌++◌, length, map, take, All, Contains, Some, slice_get, refl, sym, ap, ap₂, ◌∙◌, subst, arith, append_assoc, append-nil, length-append, length-take, get_or, get_or-take}
use Rattle.std.specs.List.{AllByRecursion, list_any}
use Rattle.std.specs.List.Sorted.{IsStrictlyIncreasing}
use Rattle.std.proofs.Math.Nat.{mod-lt, mul-le-mul, mul-le-mul_left}
use Rattle.std.proofs.lemmas.Bool.{or_cases, or_left, or_right, false≢true}
use Rattle.std.proofs.lemmas.List.{get_or_append_left, length-map}
use Rattle.std.proofs.lemmas.List.Elements.{All-from_recursion, recursion_from_All}
use Rattle.ffc_cert.specs.declared.entries.CertLine.{CertLine}
use Rattle.ffc_cert.specs.declared.entries.CertLine.TheVariants.{Close}
use Rattle.ffc_cert.specs.Ranges.{IsNarrow, IsLine}
use Rattle.ffc_clause.specs.Clauses.{Literal}
use Rattle.ffc_field.specs.Binomial.{choose}
use Rattle.ffc_ring.specs.Monomial.{Monomial, IsMonomial, IsMonomialFrom, degree, same_monomial}
use Rattle.ffc_ring.specs.Polynomial.{Terms, SamePolynomial, coefficient, product, scaled, difference, poly_value, value_sum}
use Rattle.ffc_ring.specs.Counting.{IsAmong}
use Rattle.ffc_ring.proofs.PolynomialLemmas.{same_monomial-true, same_monomial-self, same_products, same_sums}
use Rattle.ffc_smt.proofs.SoundReading.{order_good}
use Rattle.ffc_term.specs.declared.node.Node.{Node}
use Rattle.ffc_term.specs.Nodes.{node_at}
use Rattle.ffc_trees.specs.FirstLines.{difference_of, first_line, first_lines, first_lines_from}
use Rattle.ffc_trees.specs.Normal.{normal, IsNormal}
use Rattle.ffc_trees.specs.NodePolynomials.{variable, constant, EachMonomial}
use Rattle.ffc_trees.specs.TreeLines.{limits, Multiple, line_at}
use Rattle.ffc_trees.specs.Closing.{Closes}
use Rattle.ffc_trees.proofs.NormalLemmas.{normal_same, normal_is_normal}
use Rattle.ffc_trees.proofs.RefuteLemmas.{order_below, order_prime}
use Rattle.ffc_trees.proofs.SameLemmas.{one_length}
use Rattle.ffc_rules.specs.Entries.{NodeCheck}
use Rattle.ffc_bounds.specs.Monomials.{monomials}
use Rattle.ffc_refutation.specs.declared.combination.Determined.{Determined}
use Rattle.ffc_refutation.specs.declared.reason.Reason.{Reason}
use Rattle.ffc_refutation.specs.Combinations.{Summand, IsSummand, sum_of}
use Rattle.ffc_refutation.specs.Written.{multiple_of, IsNumbered}
use Rattle.ffc_refutation.proofs.Monomials.{normal_few}
use Rattle.ffc_refutation.proofs.Sums.{tree_closes}
use Rattle.ffc_lemmatree.specs.Trees.{IsRefutedByTree}
use Rattle.ffc_lemmatree.proofs.Polynomials.{length-product}
use Rattle.ffc_macaulay.proofs.CountLemmas.{length-monomials, low_monomials, grows_degree, grows_variables}
use Rattle.ffc_values.specs.declared.dividing.Known.{Known}
use Rattle.ffc_values.specs.Values.{IsLow, AreKnown, IsRefutedByValues}
use Rattle.ffc_cert.specs.WellFormed.{LineFitsVersion}
use Rattle.ffc_values.proofs.Plain.{values_plain}
use Rattle.ffc_values.specs.Written.{sums_lines, known_lines, knowns_of, inverse_of, last_summands, values_tree}
use Rattle.ffc_values.proofs.Counts.{IsFew, bytes_are_few, variables_are_few, powers_are_few}
use Rattle.ffc_values.proofs.Division.{IsDivisible, equality_left, disequality_left, behind}
use Rattle.ffc_values.proofs.Knowns.{KnownsReach, knowns_reach, enough_variables, known_found}
use Rattle.ffc_values.proofs.Last.{IsFound, IsLastSummand, same_tests, same_length, length-quotients, has_one, few_listed, low_listed, product_is, product_listed, quotients_are, all_divisible, whole_is}
use Rattle.ffc_values.proofs.Texts.{IsText, IsShortSum, AreTexts, wide_text, short_text, text_within, texts_append, texts_within, close_texts, sum_texts, known_texts, few_known_lines, closed_lines}
use Rattle.ffc_values.proofs.Within.{IsWithin, listed_within, within_listed, within_lower, within_short, length_below_degree}

-- ---- lists

length-first_lines : (p : ℕ) (nodes : List Node) (w : ℕ) (lits : List Literal) → length (first_lines_from p nodes w lits) ≡ length lits
length-first_lines p nodes w [] = refl
length-first_lines p nodes w (l ∷ lits) = ap suc (length-first_lines p nodes (suc w) lits)

first_line_at : (p : ℕ) (nodes : List Node) (w : ℕ) (lits : List Literal) (i : ℕ) (l : Literal) → slice_get lits i ≡ Some l → line_at (first_lines_from p nodes w lits) i ≡ first_line p nodes (w + i) l
first_line_at p nodes w [] i l at = absurd (cc)
first_line_at p nodes w (m ∷ lits) zero l at =
    let same : m ≡ l = cc in
    ap₂ (first_line p nodes) (let e : w ≡ w + 0 = omega arith in e) same
first_line_at p nodes w (m ∷ lits) (suc i) l at = first_line_at p nodes (suc w) lits i l at ∙ ap (λ n. first_line p nodes n l) (let e : suc w + i ≡ w + suc i = omega arith in e)

-- the first of increasing numbers increase
taken_increase : (k : ℕ) (xs : List ℕ) → IsStrictlyIncreasing xs → IsStrictlyIncreasing (take k xs)
taken_increase k xs up i inside =
    let long = length-take k xs in
    let one : get_or (take k xs) i 0 ≡ get_or xs i 0 = get_or-take k xs i 0 (omega arith) in
    let other : get_or (take k xs) (i + 1) 0 ≡ get_or xs (i + 1) 0 = get_or-take k xs (i + 1) 0 (omega arith) in
    let less : get_or xs i 0 < get_or xs (i + 1) 0 = up i (omega arith) in
    let result : get_or (take k xs) i 0 < get_or (take k xs) (i + 1) 0 = omega arith in
    result

-- membership by a test
test_listed : (ms : List Monomial) (m : Monomial) → Contains ms m → list_any (same_monomial m) ms ≡ true
test_listed [] m (k, inside, at) = absurd (omega arith)
test_listed (n ∷ ms) m (zero, inside, at) = or_left (same_monomial m n) _ (ap (same_monomial m) at ∙ same_monomial-self m)
test_listed (n ∷ ms) m (suc k, inside, at) = or_right (same_monomial m n) _ (test_listed ms m (k, omega arith, at))

listed_by_test : (ms : List Monomial) (m : Monomial) → list_any (same_monomial m) ms ≡ true → Contains ms m
listed_by_test [] m is = absurd (false≢true is)
listed_by_test (n ∷ ms) m is =
    elim (or_cases (same_monomial m n) (list_any (same_monomial m) ms) is) as (λ _. Contains (n ∷ ms) m) [
      | inl here ↦ (0, omega arith, sym (same_monomial-true m n here))
      | inr later ↦ let found = listed_by_test ms m later in (suc found.0, omega (arith, found.1), found.2)
    ]

-- the monomials of a normal line are listed where those of another list of the same polynomial are
all_listed : (ms : List Monomial) (p : ℕ) (line ts : Terms) → 0 < p → IsNormal p line → SamePolynomial p line ts → EachMonomial (Contains ms) ts → AllByRecursion (λ (t : ℕ × Monomial). Contains ms t.1) line
all_listed ms p line ts positive is same each = back line (same_tests (λ m. list_any (same_monomial m) ms) p line ts positive is same (tested ts each))
  where
    tested : (us : Terms) → EachMonomial (Contains ms) us → EachMonomial (λ m. list_any (same_monomial m) ms ≡ true) us
    tested [] all = tt
    tested (t ∷ us) all = (test_listed ms t.1 all.0, tested us all.1)

    back : (us : Terms) → AllByRecursion (λ (t : ℕ × Monomial). list_any (same_monomial t.1) ms ≡ true) us → AllByRecursion (λ (t : ℕ × Monomial). Contains ms t.1) us
    back [] all = tt
    back (t ∷ us) all = (listed_by_test ms t.1 all.0, back us all.1)

-- ---- the powers of the inverse

inverse_after : (nodes line : ℕ) (b : Bool) → IsMonomialFrom nodes (inverse_of nodes line b)
inverse_after nodes line false = tt
inverse_after nodes line true = (omega arith, omega arith, tt)

inverse_low : (nodes line : ℕ) (b : Bool) → degree (inverse_of nodes line b) ≤ 1
inverse_low nodes line false = omega arith
inverse_low nodes line true = omega arith

inverse_short : (nodes line : ℕ) (b : Bool) → length (inverse_of nodes line b) ≤ 1
inverse_short nodes line false = omega arith
inverse_short nodes line true = omega arith

inverse_small : (nodes line : ℕ) (b : Bool) → nodes ≤ 1048576 → line < 4097 → AllByRecursion (λ f. f.0 < 10000000) (inverse_of nodes line b)
inverse_small nodes line false few less = tt
inverse_small nodes line true few less = (omega arith, tt)

-- what the tree is to be: it closes, and it is written in range and in few bytes
record IsGoodTree (c : NodeCheck) (p : ℕ) (lits : List Literal) (tree : List CertLine) : Type 0 where
  closes : (rest : List CertLine) → Closes limits p (first_lines c.nodes p lits) (tree ++ rest) rest
  texts : AreTexts 31000000 tree

module _ (c : NodeCheck) (reasons : List Reason) (p : ℕ) (lits : List Literal) (nodes : ℕ) (xs : List ℕ) (ds : List Determined) (line : ℕ) (sides : Terms) (is : IsRefutedByValues c reasons p lits nodes xs ds line sides)
    (few_nodes : nodes ≤ 1048576) (short : length lits ≤ 4097) (there : line < length lits)
    (terms : AllByRecursion (λ (k : Determined). length k.summands.items ≤ 4096) ds) (numbered : AllByRecursion (λ (k : Determined). All IsNumbered k.summands.items) ds) where
  abbrev base : List Terms
  base = first_lines c.nodes p lits

  abbrev k : ℕ
  k = length ds

  abbrev ys : List ℕ
  ys = take k xs

  abbrev low : ℕ
  low = min is.bound 255

  abbrev first : ℕ
  first = length lits

  enough : length ds ≤ length xs
  enough = enough_variables p base nodes is.bound is.point xs ds is.known

  base_long : length base ≡ first
  base_long = length-first_lines p c.nodes (length c.nodes) lits

  wide : p < 2 ^ 64
  wide = order_below p (order_good p is.lemma.order)

  least : 2 ≤ p
  least = (order_prime p (order_good p is.lemma.order)).least

  positive : 0 < p
  positive = let h = least in omega arith

  ys_long : length ys ≡ k
  ys_long = let h = length-take k xs in let more = enough in omega arith

  up : IsStrictlyIncreasing ys
  up = taken_increase k xs is.increase

  few : choose (is.bound + k) k ≤ 4096
  few =
      let long = enough in
      let count = length-monomials is.bound xs in
      let more = grows_variables is.bound k (length xs - k) in
      let same : choose (is.bound + (k + (length xs - k))) (k + (length xs - k)) ≡ choose (is.bound + length xs) (length xs) = ap (λ i. choose (is.bound + i) i) (let e : k + (length xs - k) ≡ length xs = omega arith in e) in
      let columns_few = is.few in
      omega arith

  count_low : length (monomials low ys) ≡ choose (low + k) k
  count_low = length-monomials low ys ∙ ap (λ i. choose (low + i) i) ys_long

  few_low : length (monomials low ys) ≤ 4096
  few_low =
      let more = grows_degree low (is.bound - low) k in
      let same : choose (low + (is.bound - low) + k) k ≡ choose (is.bound + k) k = ap (λ i. choose (i + k) k) (let e : low + (is.bound - low) ≡ is.bound = omega arith in e) in
      let h = few in
      let e = count_low in
      omega arith

  -- ---- the difference of the sides

  each_within : (ts : Terms) → EachMonomial (IsLow 255) ts → EachMonomial (Contains (monomials is.bound ys)) ts → EachMonomial (IsWithin low ys) ts
  each_within [] lows among = tt
  each_within (t ∷ ts) lows among = (
    let within = listed_within is.bound ys t.1 among.0 in
        within_lower is.bound low ys t.1 (let one = within.low in let other : degree t.1 ≤ 255 = lows.0 in omega arith) within,
    each_within ts lows.1 among.1,
  )

  sides_within : EachMonomial (IsWithin low ys) sides
  sides_within = each_within sides is.low is.among

  each_low : (ts : Terms) → EachMonomial (IsWithin low ys) ts → EachMonomial (λ m. degree m ≤ low) ts
  each_low [] each = tt
  each_low (t ∷ ts) each = (each.0.low, each_low ts each.1)

  each_listed : (ts : Terms) → EachMonomial (IsWithin low ys) ts → EachMonomial (Contains (monomials low ys)) ts
  each_listed [] each = tt
  each_listed (t ∷ ts) each = (within_listed low ys t.1 up each.0, each_listed ts each.1)

  sides_few : length sides ≤ choose (low + k) k
  sides_few =
      let e = one_length p sides (normal p sides) positive (record { one = is.normal; other = normal_is_normal p sides positive; same = λ m. sym (normal_same p sides m) }) in
      let h = normal_few p sides (monomials low ys) positive (each_listed sides sides_within) in
      let count = count_low in
      omega arith

  -- ---- how much there is

  abbrev q : ℕ
  q = min is.bound 16

  abbrev r : ℕ
  r = min low k + 1

  is_few : IsFew is.bound k low q r (low * length sides) (length sides)
  is_few = record {
    least = is.least;
    few = few;
    lower = omega arith;
    within = omega arith;
    q_degree = omega arith;
    q_most = omega arith;
    r_degree = omega arith;
    r_variables = omega arith;
    terms = omega arith;
    monomials = sides_few;
  }

  r_few : r ≤ 16
  r_few = powers_are_few is.bound k low q r (low * length sides) (length sides) is_few

  k_few : k ≤ 89
  k_few = variables_are_few is.bound k low q r (low * length sides) (length sides) is_few

  short_monomials : (m : Monomial) → IsWithin low ys m → length m + 1 ≤ r
  short_monomials m within =
      let one = length_below_degree m within.monomial in
      let degree_low = within.low in
      let other = within_short low ys m up within in
      let long = ys_long in
      omega arith

  -- ---- the sums of the variables

  one_short : (monomials : List Monomial) (s : Summand) → IsSummand p base monomials s → IsLow is.bound s.1.1 → IsNumbered s → IsText (37 + 16 * q) (multiple_of s)
  one_short ms s summand lower narrow =
      let number = summand.there in
      let long = base_long in
      let residue = summand.residue in
      let below = wide in
      let powers = summand.powers in
      let count = length_below_degree s.1.1 summand.monomial in
      let degree_low : degree s.1.1 ≤ is.bound = lower in
      text_within (37 + 16 * length s.1.1) (37 + 16 * q) (multiple_of s) (omega arith)
      (wide_text s (omega arith) (omega arith) summand.monomial powers summand.low (recursion_from_All (λ f. IsNarrow f.0) s.1.1 narrow))

  each_short : (monomials : List Monomial) (ss : List Summand) → AllByRecursion (IsSummand p base monomials) ss → AllByRecursion (λ s. IsLow is.bound s.1.1) ss → AllByRecursion IsNumbered ss → AllByRecursion (IsText (37 + 16 * q)) (map multiple_of ss)
  each_short ms [] each lower narrow = tt
  each_short ms (s ∷ ss) each lower narrow = (one_short ms s each.0 lower.0 narrow.0, each_short ms ss each.1 lower.1 narrow.1)

  short_sums : (zs : List ℕ) (es : List Determined) → AreKnown p base nodes is.bound is.point zs es → AllByRecursion (λ (e : Determined). length e.summands.items ≤ 4096) es → AllByRecursion (λ (e : Determined). All IsNumbered e.summands.items) es
      → AllByRecursion (IsShortSum (37 + 16 * q)) es
  short_sums zs [] known counts narrow = tt
  short_sums [] (e ∷ es) known counts narrow = absurd known
  short_sums (z ∷ zs) (e ∷ es) known counts narrow =
      let one = known.0.determined in
      let ss : List Summand = e.summands.items in (
        record {
          few = counts.0;
          each = each_short one.monomials ss (recursion_from_All (IsSummand p base one.monomials) ss one.each) (recursion_from_All (λ s. IsLow is.bound s.1.1) ss known.0.low) (recursion_from_All IsNumbered ss narrow.0);
        },
        short_sums zs es known.1 counts.1 narrow.1,
      )

  sums_are_short : AllByRecursion (IsShortSum (37 + 16 * q)) ds
  sums_are_short = short_sums xs ds is.known terms numbered

  abbrev next : ℕ
  next = first + length (known_lines first ds)

  next_few : next ≤ 4097 + 4097 * 89
  next_few = let lines = few_known_lines (37 + 16 * q) ds first sums_are_short in let h = k_few in omega arith

  abbrev ks : List Known
  ks = knowns_of first xs ds

  reach : KnownsReach p least base nodes is.bound is.point (base ++ []) first xs ds
  reach = knowns_reach p least base nodes is.bound is.point xs ds [] first (sym base_long ∙ ap length (sym (append-nil base))) is.known

  abbrev all : List Terms
  all = (base ++ []) ++ reach.more

  all_long : next ≡ length all
  all_long =
      let count = reach.count in
      let long = base_long in
      let one = length-append (base ++ []) reach.more in
      let other = ap length (append-nil base) in
      omega arith

  kept : line_at all line ≡ line_at base line
  kept =
      let long = base_long in
      let other = ap length (append-nil base) in
      get_or_append_left (base ++ []) reach.more [] line (omega arith) ∙ ap (λ ls. line_at ls line) (append-nil base)

  found : (x : ℕ) → IsAmong ys x → IsFound p all ks is.point nodes x
  found x among = known_found p base all nodes is.bound is.point xs ds first x is.known reach.facts among

  -- ---- the last sum

  module _ (u : Monomial) (u_after : IsMonomialFrom nodes u) (u_low : degree u ≤ 1) (u_short : length u ≤ 1) (u_small : AllByRecursion (λ f. f.0 < 10000000) u) where
    abbrev products : List Monomial
    products = map (λ m. m ++ u) (monomials low ys) ++ [] ∷ []

    abbrev last : List Summand
    last = last_summands p ks u line sides

    has_product : (m : Monomial) → IsWithin low ys m → Contains products (m ++ u)
    has_product = product_listed p least all ks is.point ys low nodes r u (omega arith) few_nodes r_few up found short_monomials u_after u_low u_short u_small

    has_no_product : Contains products []
    has_no_product = has_one p least all ks is.point ys low nodes r u (omega arith) few_nodes r_few up found short_monomials u_after u_low u_short u_small

    products_few : length products ≤ 4097
    products_few = few_listed p least all ks is.point ys low nodes r u (omega arith) few_nodes r_few up found short_monomials u_after u_low u_short u_small few_low

    products_low : All (λ m. degree m ≤ 1024) products
    products_low = low_listed p least all ks is.point ys low nodes r u (omega arith) few_nodes r_few up found short_monomials u_after u_low u_short u_small (low_monomials low ys)

    product_monomial : (m : Monomial) → IsWithin low ys m → IsMonomial (m ++ u)
    product_monomial = product_is p least all ks is.point ys low nodes r u (omega arith) few_nodes r_few up found short_monomials u_after u_low u_short u_small

    divisible : AllByRecursion (IsDivisible p all ks is.point u) sides
    divisible = all_divisible p least all ks is.point ys low nodes r u (omega arith) few_nodes r_few up found short_monomials u_after u_low u_short u_small sides is.normal sides_within

    multiples : length (line_at all line) ≤ 8192 → AllByRecursion (λ (t : ℕ × Monomial). Contains products t.1) (line_at all line) → AllByRecursion (IsLastSummand p all products r) last
    multiples short_line listed_line = (
      whole_is p least all ks is.point ys low nodes r u (omega arith) few_nodes r_few up found short_monomials u_after u_low u_short u_small line (let e = all_long in omega arith) short_line listed_line (omega arith),
      quotients_are p least all ks is.point ys low nodes r u (omega arith) few_nodes r_few up found short_monomials u_after u_low u_short u_small sides sides_within,
    )

    summands : (ss : List Summand) → AllByRecursion (IsLastSummand p all products r) ss → AllByRecursion (IsSummand p all products) ss
    summands [] each = tt
    summands (s ∷ ss) each = (each.0.is, summands ss each.1)

    texts : (ss : List Summand) → AllByRecursion (IsLastSummand p all products r) ss → AllByRecursion (IsText (37 + 13 * r)) (map multiple_of ss)
    texts [] each = tt
    texts (s ∷ ss) each = (
      let one = each.0.is in
          let number = one.there in
          let long = all_long in
          let lines = next_few in
          let residue = one.residue in
          let below = wide in
          let powers = each.0.short in
          text_within (37 + 13 * length s.1.1) (37 + 13 * r) (multiple_of s) (omega arith) (short_text s (omega arith) (omega arith) one.monomial one.powers one.low each.0.small),
      texts ss each.1,
    )

    last_few : length (map multiple_of last) ≤ low * length sides + 1
    last_few =
        let made = length-map last multiple_of in
        let count = length-quotients p ks u low sides (each_low sides sides_within) in
        omega arith

    many : low * length sides ≤ 255 * 4096
    many = mul-le-mul (let h : low ≤ 255 = omega arith in h) (let h = sides_few in let e = count_low in let f = few_low in let g : length sides ≤ 4096 = omega arith in g)

    tree_is_good : (value : ℕ) → 0 < value → value < p → length (line_at all line) ≤ 8192 → AllByRecursion (λ (t : ℕ × Monomial). Contains products t.1) (line_at all line) → SamePolynomial p (sum_of all last) (constant value)
        → IsGoodTree c p lits (values_tree p first xs ds line u sides)
    tree_is_good value some below short_line listed_line same =
        let each : AllByRecursion (IsLastSummand p all products r) last = multiples short_line listed_line in
        let ms : List Multiple = map multiple_of last in
        let sum : List CertLine = sums_lines next [] ms in
        let end : List CertLine = sum ++ Close ∷ [] in
        let front : List CertLine = known_lines first ds in
        let few_products : length products ≤ 65536 = (let h = products_few in omega arith) in
        let most : ℕ = 37 + 13 * r in
        let few_multiples = last_few in
        let room : next + length ms < 2 ^ 32 = (let h = next_few in let m = many in omega arith) in
        let less : (most + 1) * length ms ≤ (most + 1) * (low * length sides + 1) = mul-le-mul_left (most + 1) few_multiples in
        let bytes_few = bytes_are_few is.bound k low q r (low * length sides) (length sides) is_few in
        record {
          closes = λ rest.
              subst (λ tree. Closes limits p base tree rest) (sym (append_assoc front end rest))
              (subst (λ ls. Closes limits p ls (front ++ (end ++ rest)) rest) (append-nil base)
              (reach.closes (end ++ rest) rest
              (subst (λ tree. Closes limits p all (tree ++ rest) rest) (closed_lines ms next [])
              (tree_closes p all products few_products products_low value some below last next rest all_long (summands last each) same))));
          texts =
              texts_within ((13 + (37 + 16 * q + 1) * 4096) * k + (13 + (most + 1) * length ms + 2)) 31000000 (front ++ end) (omega arith)
              (texts_append ((13 + (37 + 16 * q + 1) * 4096) * k) (13 + (most + 1) * length ms + 2) front end
              (known_texts (37 + 16 * q) ds first (let h = k_few in omega arith) sums_are_short)
              (texts_append (13 + (most + 1) * length ms) 2 sum (Close ∷ []) (sum_texts most ms next room (texts last each)) close_texts));
        }

  -- ---- the line of the literal

  abbrev sides_of : Terms
  sides_of = difference_of p c.nodes (node_at c.nodes is.literal.1)

  line_is : line_at all line ≡ first_line p c.nodes (length c.nodes + line) is.literal
  line_is = kept ∙ first_line_at p c.nodes (length c.nodes) lits line is.literal is.at

  sides_short : length sides ≤ 4096
  sides_short = let h = sides_few in let e = count_low in let f = few_low in omega arith

  -- an equality that is false at the values
  equality_good : is.literal.0 ≡ false → IsGoodTree c p lits (values_tree p first xs ds line [] sides)
  unfolding first_line
  equality_good false_is =
      let f : Terms = line_at all line in
      let at : f ≡ normal p sides_of = line_is ∙ ap (λ b. cond b (normal p (difference p (product sides_of (variable (length c.nodes + line))) (constant 1))) (normal p sides_of)) false_is in
      let is_normal : IsNormal p f = subst (IsNormal p) (sym at) (normal_is_normal p sides_of positive) in
      let same : SamePolynomial p f sides = λ m. ap (λ ts. coefficient p ts m) at ∙ normal_same p sides_of m ∙ sym (is.same m) in
      let value : ℕ = poly_value p is.point sides in
      tree_is_good [] tt (omega arith) (omega arith) tt value (let h = is.unequal false_is in omega arith) (mod-lt (value_sum is.point sides) positive)
      (let h = same_length p f sides positive is_normal same in let few_sides = sides_short in omega arith)
      (all_listed (products [] tt (omega arith) (omega arith) tt) p f sides positive is_normal same (each_product sides sides_within))
      (equality_left p least all ks is.point line sides same (divisible [] tt (omega arith) (omega arith) tt))
    where
      each_product : (ts : Terms) → EachMonomial (IsWithin low ys) ts → EachMonomial (Contains (map (λ (m : Monomial). m ++ []) (monomials low ys) ++ [] ∷ [])) ts
      each_product [] each = tt
      each_product (t ∷ ts) each = (
        subst (Contains (map (λ (m : Monomial). m ++ []) (monomials low ys) ++ [] ∷ [])) (append-nil t.1) (has_product [] tt (omega arith) (omega arith) tt t.1 each.0),
        each_product ts each.1,
      )

  abbrev inverse : Monomial
  inverse = (nodes + line, 1) ∷ []

  inverse_is_after : IsMonomialFrom nodes inverse
  inverse_is_after = (omega arith, omega arith, tt)

  inverse_is_small : AllByRecursion (λ f. f.0 < 10000000) inverse
  inverse_is_small = (omega arith, tt)

  abbrev inverse_products : List Monomial
  inverse_products = map (λ m. m ++ inverse) (monomials low ys) ++ [] ∷ []

  each_inverse : (ts : Terms) → EachMonomial (IsWithin low ys) ts → EachMonomial (Contains inverse_products) (product ts (variable (nodes + line)) ++ scaled (p - 1) (constant 1))
  each_inverse [] each = (has_no_product inverse inverse_is_after (omega arith) (omega arith) inverse_is_small, tt)
  each_inverse (t ∷ ts) each = (
    subst (Contains inverse_products) (sym (behind (nodes + line) 0 t.1 (product_monomial inverse inverse_is_after (omega arith) (omega arith) inverse_is_small t.1 each.0)))
        (has_product inverse inverse_is_after (omega arith) (omega arith) inverse_is_small t.1 each.0),
    each_inverse ts each.1,
  )

  -- a disequality that is false at the values
  disequality_good : is.literal.0 ≡ true → IsGoodTree c p lits (values_tree p first xs ds line inverse sides)
  unfolding first_line
  disequality_good true_is =
      let f : Terms = line_at all line in
      let w : ℕ = nodes + line in
      let whole : Terms = difference p (product sides_of (variable w)) (constant 1) in
      let of_sides : Terms = difference p (product sides (variable w)) (constant 1) in
      let at : f ≡ normal p whole =
      line_is ∙ ap (λ b. cond b (normal p (difference p (product sides_of (variable (length c.nodes + line))) (constant 1))) (normal p sides_of)) true_is
      ∙ ap (λ n. normal p (difference p (product sides_of (variable (n + line))) (constant 1))) (sym is.size) in
      let is_normal : IsNormal p f = subst (IsNormal p) (sym at) (normal_is_normal p whole positive) in
      let same : SamePolynomial p f of_sides = λ m.
      ap (λ ts. coefficient p ts m) at ∙ normal_same p whole m
      ∙ same_sums p (product sides_of (variable w)) (product sides (variable w)) (scaled (p - 1) (constant 1)) (scaled (p - 1) (constant 1))
      (same_products p sides_of sides (variable w) (variable w) (λ n. sym (is.same n)) (λ n. refl)) (λ n. refl) m in
      let length_is : length of_sides ≡ length (product sides (variable w)) + 1 = length-append (product sides (variable w)) (scaled (p - 1) (constant 1)) in
      let length_product : length (product sides (variable w)) ≡ length sides * 1 = length-product sides (variable w) in
      let two = least in
      tree_is_good inverse inverse_is_after (omega arith) (omega arith) inverse_is_small (p - 1) (omega arith) (omega arith)
      (let h = same_length p f of_sides positive is_normal same in let few_sides = sides_short in omega arith)
      (all_listed (products inverse inverse_is_after (omega arith) (omega arith) inverse_is_small) p f of_sides positive is_normal same (each_inverse sides sides_within))
      (disequality_left p least all ks is.point line sides w same (divisible inverse inverse_is_after (omega arith) (omega arith) inverse_is_small) (is.equal true_is))

  tree_good : (b : Bool) → is.literal.0 ≡ b → IsGoodTree c p lits (values_tree p first xs ds line (inverse_of nodes line b) sides)
  tree_good false at = equality_good at
  tree_good true at = disequality_good at

  pub refuted_by_tree : (tree : List CertLine) (b : Bool) → is.literal.0 ≡ b → tree ≡ values_tree p first xs ds line (inverse_of nodes line b) sides → IsRefutedByTree c reasons p lits tree
  refuted_by_tree tree b at written =
      let good = tree_good b at in
      subst (IsRefutedByTree c reasons p lits) (sym written)
      (record {
        forced = is.forced;
        forces = is.forces;
        lemma = is.lemma;
        closes = good.closes;
        ranges = All-from_recursion IsLine (values_tree p first xs ds line (inverse_of nodes line b) sides) good.texts.ranges;
        plain = All-from_recursion (LineFitsVersion 2) (values_tree p first xs ds line (inverse_of nodes line b) sides) (values_plain p first xs ds line (inverse_of nodes line b) sides);
        short = good.texts.short;
      })
