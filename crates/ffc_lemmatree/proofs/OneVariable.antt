-- Polynomials in one variable that refute: their tree closes, is in range, and its text is short.
use Rattle.std.proofs.Common.{◌≡◌, ℕ, zero, suc, ◌+◌, ◌-◌, ◌*◌, ◌^◌, ◌<◌, ◌≤◌, List, [], ◌∷◌, ◌++◌, length, map, All, Some, refl, sym, ap, ◌∙◌, subst, arith, slice_get, append_assoc, eqb, length-append}
use Rattle.std.specs.List.{AllByRecursion}
use Rattle.std.proofs.lemmas.Bool.{cond-false, ne_eqb}
use Rattle.std.proofs.lemmas.List.{append-nil, length-map}
use Rattle.std.proofs.lemmas.List.Elements.{recursion_from_All, All-from_recursion}
use Rattle.ffc_cert.specs.declared.entries.CertLine.{CertLine}
use Rattle.ffc_cert.specs.Ranges.{IsNarrow, IsLine}
use Rattle.ffc_ring.specs.Polynomial.{Terms, product, difference}
use Rattle.ffc_uni.specs.Univariate.{Coefficients, indeterminate}
use Rattle.ffc_uni.specs.Chains.{digits_of, pair_count}
use Rattle.ffc_uni.proofs.DigitLemmas.{few_pairs}
use Rattle.ffc_smt.proofs.SoundReading.{order_good}
use Rattle.ffc_term.specs.declared.node.Node.{Node}
use Rattle.ffc_term.specs.Nodes.{node_at}
use Rattle.ffc_clause.specs.Clauses.{Literal, plus, minus}
use Rattle.ffc_trees.specs.Normal.{normal}
use Rattle.ffc_trees.specs.NodePolynomials.{variable, constant}
use Rattle.ffc_trees.specs.FirstLines.{difference_of, first_line, first_lines, first_lines_from}
use Rattle.ffc_trees.specs.TreeLines.{limits, line_at}
use Rattle.ffc_trees.specs.Closing.{Closes}
use Rattle.ffc_trees.proofs.NormalLemmas.{normal_same, normal_is_normal}
use Rattle.ffc_trees.proofs.RefuteLemmas.{order_below, order_prime}
use Rattle.ffc_rules.specs.Entries.{NodeCheck}
use Rattle.ffc_refutation.specs.declared.reason.Reason.{Reason}
use Rattle.ffc_lemmatree.specs.declared.cases.CaseNumbers.{CaseNumbers}
use Rattle.ffc_lemmatree.specs.declared.endings.EuclidStep.{EuclidStep}
use Rattle.ffc_lemmatree.specs.declared.endings.RootCase.{RootCase}
use Rattle.ffc_lemmatree.specs.declared.endings.Ending.{Ending}
use Rattle.ffc_lemmatree.specs.declared.endings.Ending.TheVariants as ending
use Rattle.ffc_lemmatree.specs.Trees.{IsRefutedByTree}
use Rattle.ffc_lemmatree.specs.Roots.{IsPolynomialOf, ArePolynomialsOf, LeadsTo, AreCases, EndsIn, IsRefutedByRoots}
use Rattle.ffc_lemmatree.specs.Roots.LeadsTo.{nothing, next as next_step}
use Rattle.ffc_cert.specs.WellFormed.{LineFitsVersion}
use Rattle.ffc_lemmatree.proofs.Plain.{single_plain}
use Rattle.ffc_lemmatree.specs.Written.{euclid_lines, last_divisor, case_numbers, ending_lines, single_tree, IsNormalStep, IsNormalEnding, IsLowStep, IsLowCase, IsLowEnding, IsLow}
use Rattle.ffc_lemmatree.proofs.Grammar.{chain_is_long}
use Rattle.ffc_lemmatree.proofs.Lines.{IsLineIn, IsAt}
use Rattle.ffc_lemmatree.proofs.Closing.{IsUnequal, euclid_closes, constant_ends, roots_end}
use Rattle.ffc_lemmatree.proofs.Texts.{AreBounded, both_bounded, more_bounded}
use Rattle.ffc_lemmatree.proofs.BoundedTree.{euclid_bounded, constant_lines_bounded, roots_lines_bounded}

-- ---- literals and their lines

literal_line : (p : ℕ) (nodes : List Node) (w : ℕ) (lits : List Literal) (k : ℕ) (lit : Literal) → slice_get lits k ≡ Some lit → (k < length lits) × (line_at (first_lines_from p nodes w lits) k ≡ first_line p nodes (w + k) lit)
literal_line p nodes w [] k lit at = absurd (cc)
literal_line p nodes w (l ∷ lits) zero lit at =
    let same : l ≡ lit = cc in
    (omega arith, ap (λ m. first_line p nodes w m) same ∙ ap (λ v. first_line p nodes v lit) (let e : w ≡ w + 0 = omega arith in e))
literal_line p nodes w (l ∷ lits) (suc k) lit at =
    let rest = literal_line p nodes (suc w) lits k lit at in
    let first = rest.0 in
    (omega arith, rest.1 ∙ ap (λ v. first_line p nodes v lit) (let e : suc w + k ≡ w + suc k = omega arith in e))

first_at : (ids : List ℕ) (others : List Literal) (k id : ℕ) → slice_get ids k ≡ Some id → slice_get (map minus ids ++ others) k ≡ Some (minus id)
first_at [] others k id at = absurd (cc)
first_at (i ∷ ids) others zero id at = (let same : i ≡ id = cc in ap (λ j. Some (minus j)) same)
first_at (i ∷ ids) others (suc k) id at = first_at ids others k id at

mapped_at : (ids : List ℕ) (k id : ℕ) → slice_get ids k ≡ Some id → slice_get (map plus ids) k ≡ Some (plus id)
mapped_at [] k id at = absurd (cc)
mapped_at (i ∷ ids) zero id at = (let same : i ≡ id = cc in ap (λ j. Some (plus j)) same)
mapped_at (i ∷ ids) (suc k) id at = mapped_at ids k id at

second_at : (ids others : List ℕ) (k id : ℕ) → slice_get others k ≡ Some id → slice_get (map minus ids ++ map plus others) (length ids + k) ≡ Some (plus id)
second_at [] others k id at = ap (slice_get (map plus others)) (let e : 0 + k ≡ k = omega arith in e) ∙ mapped_at others k id at
second_at (i ∷ ids) others k id at =
    ap (slice_get (minus i ∷ (map minus ids ++ map plus others))) (let e : suc (length ids) + k ≡ suc (length ids + k) = omega arith in e)
    ∙ second_at ids others k id at

polynomial_at : (nodes : List Node) (p x : ℕ) (ids : List ℕ) (fs : List Coefficients) (k : ℕ) (f : Coefficients) → ArePolynomialsOf nodes p x ids fs → slice_get fs k ≡ Some f → (id : ℕ) × (slice_get ids k ≡ Some id) × IsPolynomialOf nodes p x id f
polynomial_at nodes p x [] [] k f are at = absurd (cc)
polynomial_at nodes p x [] (g ∷ fs) k f are at = absurd are
polynomial_at nodes p x (id ∷ ids) [] k f are at = absurd are
polynomial_at nodes p x (id ∷ ids) (g ∷ fs) zero f are at = (let same : g ≡ f = cc in (id, refl, subst (IsPolynomialOf nodes p x id) same are.0))
polynomial_at nodes p x (id ∷ ids) (g ∷ fs) (suc k) f are at = polynomial_at nodes p x ids fs k f are.1 at

length-first_lines : (p : ℕ) (nodes : List Node) (w : ℕ) (lits : List Literal) → length (first_lines_from p nodes w lits) ≡ length lits
length-first_lines p nodes w [] = refl
length-first_lines p nodes w (l ∷ lits) = ap suc (length-first_lines p nodes (suc w) lits)

minus_line : (p : ℕ) (nodes : List Node) (w id : ℕ) → first_line p nodes w (minus id) ≡ normal p (difference_of p nodes (node_at nodes id))
unfolding first_line
minus_line p nodes w id = refl

plus_line : (p : ℕ) (nodes : List Node) (w id : ℕ) → first_line p nodes w (plus id) ≡ normal p (difference p (product (difference_of p nodes (node_at nodes id)) (variable w)) (constant 1))
unfolding first_line
plus_line p nodes w id = refl

-- the last divisor's number is in range
last_low : (start first count : ℕ) → start < 2 ^ 32 → first + count < 2 ^ 32 → last_divisor start first count < 2 ^ 32
last_low start first zero low room = low
last_low start first (suc n) low room =
    subst (λ k. k < 2 ^ 32) (sym (cond-false (eqb (suc n) 0) start (first + (suc n - 1)) (ne_eqb (suc n) 0 (λ e. absurd (omega (arith, e)))))) (omega arith)

-- ---- few enough to be written

place_inside : {A : Type 0} (xs : List A) (k : ℕ) (x : A) → slice_get xs k ≡ Some x → k < length xs
place_inside [] k x at = absurd (cc)
place_inside (y ∷ xs) zero x at = omega arith
place_inside (y ∷ xs) (suc k) x at = (let rest = place_inside xs k x at in omega arith)

as_many : (nodes : List Node) (p x : ℕ) (ids : List ℕ) (fs : List Coefficients) → ArePolynomialsOf nodes p x ids fs → length fs ≡ length ids
as_many nodes p x [] [] are = refl
as_many nodes p x [] (f ∷ fs) are = absurd are
as_many nodes p x (id ∷ ids) [] are = absurd are
as_many nodes p x (id ∷ ids) (f ∷ fs) are = ap suc (as_many nodes p x ids fs are.1)

low_steps : {F : Type 0} (p : ℕ) (polynomials : List Coefficients) {f g : Coefficients} {steps : List (EuclidStep F)} → LeadsTo p polynomials f steps g → AllByRecursion IsLowStep steps
low_steps p polynomials nothing = tt
low_steps p polynomials (next_step step g is leads) = ((is.low_a, is.low_b), low_steps p polynomials leads)

low_cases : {F : Type 0} (p : ℕ) (others : List Coefficients) (roots : List ℕ) (cases : List (RootCase F)) → AreCases p others roots cases → AllByRecursion (IsLowCase (length others)) cases
low_cases p others [] [] are = tt
low_cases p others [] (c ∷ cs) are = absurd are
low_cases p others (z ∷ zs) [] are = absurd are
low_cases p others (z ∷ zs) (c ∷ cs) are = ((place_inside others c.disequation are.0.polynomial are.0.at, are.0.low), low_cases p others zs cs are.1)

low_ending : {F : Type 0} (p : ℕ) (others : List Coefficients) (g : Coefficients) (end : Ending F) → length g ≤ 256 → EndsIn p others g end → IsLowEnding (length others) end
low_ending p others g ending.Constant low ends = tt
low_ending p others g (ending.Roots roots cases) low ends =
    let count : length roots.chain.steps ≡ pair_count p = chain_is_long p g indeterminate (digits_of p) roots.chain.steps ends.chain in
    let few = few_pairs p in
    let a = ends.short.0 in
    let b = ends.short.1 in
    record { few = omega arith; a = omega arith; b = omega arith; quotients = All-from_recursion (IsLowCase (length others)) cases.items (low_cases p others roots.zeros cases.items ends.each) }

-- the last divisor has few coefficients
last_is_low : {F : Type 0} (p : ℕ) (polynomials : List Coefficients) {f g : Coefficients} {steps : List (EuclidStep F)} → LeadsTo p polynomials f steps g → length f ≤ 256 → length g ≤ 256
last_is_low p polynomials nothing low = low
last_is_low p polynomials (next_step step g is leads) low = last_is_low p polynomials leads is.low

-- ---- the tree

module _ {F : Type 0} (c : NodeCheck) (p : ℕ) (reasons : List Reason) (nodes x : ℕ) (equations disequations : List ℕ) (start : ℕ) (steps : List (EuclidStep F)) (end : Ending F) (is : IsRefutedByRoots c p reasons nodes x equations disequations start steps end)
    (short : length equations + length disequations ≤ 8192) where
  abbrev lits : List Literal
  lits = map minus equations ++ map plus disequations

  abbrev first : List Terms
  first = first_lines c.nodes p (map minus equations ++ map plus disequations)

  abbrev next_number : ℕ
  next_number = length equations + length disequations + length steps

  abbrev numbers : CaseNumbers
  numbers = case_numbers x nodes (length equations) (length equations + length disequations + length steps)

  prime : 1 < p
  prime = (let least = (order_prime p (order_good p is.lemma.order)).least in omega arith)

  positive : 0 < p
  positive = (let more = prime in omega arith)

  wide : p ≤ 2 ^ 64
  wide = (let below = order_below p (order_good p is.lemma.order) in omega arith)

  size : length first ≡ length equations + length disequations
  size =
      let a = length-map equations minus in
      let b = length-map disequations plus in
      let all = length-append (map minus equations) (map plus disequations) in
      length-first_lines p c.nodes (length c.nodes) lits ∙ omega arith

  equal : (k : ℕ) (f : Coefficients) → slice_get is.polynomials k ≡ Some f → IsAt p x first f k
  equal k f at =
      let found = polynomial_at c.nodes p x equations is.polynomials k f is.equations_are at in
      let id : ℕ = found.0 in
      let d : Terms = difference_of p c.nodes (node_at c.nodes id) in
      let of_id : IsPolynomialOf c.nodes p x id f = found.2 in
      let line = literal_line p c.nodes (length c.nodes) lits k (minus id) (first_at equations (map plus disequations) k id found.1) in
      let there = line.0 in
      let long = length-first_lines p c.nodes (length c.nodes) lits in
      record {
        there = omega arith;
        low = of_id.low;
        line = subst (IsLineIn p x f) (sym (line.1 ∙ minus_line p c.nodes (length c.nodes + k) id)) (record { normal = normal_is_normal p d positive; same = λ m. normal_same p d m ∙ of_id.same m });
      }

  unequal : (k : ℕ) (h : Coefficients) → slice_get is.others k ≡ Some h → IsUnequal p x first h (length equations + k) (nodes + length equations + k)
  unequal k h at =
      let found = polynomial_at c.nodes p x disequations is.others k h is.disequations_are at in
      let id : ℕ = found.0 in
      let d : Terms = difference_of p c.nodes (node_at c.nodes id) in
      let of_id : IsPolynomialOf c.nodes p x id h = found.2 in
      let place : ℕ = length equations + k in
      let line = literal_line p c.nodes (length c.nodes) lits place (plus id) (second_at equations disequations k id found.1) in
      let there = line.0 in
      let long = length-first_lines p c.nodes (length c.nodes) lits in
      let inverse : length c.nodes + place ≡ nodes + length equations + k = (let table = is.size in omega arith) in
      record {
        there = omega arith;
        low = of_id.low;
        sides = d;
        same = of_id.same;
        line = line.1 ∙ plus_line p c.nodes (length c.nodes + place) id ∙ ap (λ w. normal p (difference p (product d (variable w)) (constant 1))) inverse;
      }

  above : x < nodes + length equations
  above = (let there = is.there in omega arith)

  pub few_enough : IsLow nodes (length disequations) steps end
  few_enough =
      let same : length is.others ≡ length disequations = as_many c.nodes p x disequations is.others is.disequations_are in
      let low : length is.divisor ≤ 256 = last_is_low p is.polynomials is.euclid (equal start is.first is.first_at).low in
      record { few_nodes = is.few_nodes; few_steps = is.few_steps; each = All-from_recursion IsLowStep steps (low_steps p is.polynomials is.euclid); ending = subst (λ n. IsLowEnding n end) same (low_ending p is.others is.divisor end low is.end_is) }

  module _ (normal_steps : All (IsNormalStep p) steps) (normal_end : IsNormalEnding p end) where
    -- ---- it closes

    ending_closes : (e : Ending F) (g : Coefficients) (later : List Terms) (last : ℕ) (rest : List CertLine) → EndsIn p is.others g e → IsNormalEnding p e → IsAt p x (first ++ later) g last → next_number ≡ length (first ++ later)
        → Closes limits p (first ++ later) (ending_lines p last next_number numbers e ++ rest) rest
    ending_closes ending.Constant g later last rest ends normal at number = constant_ends p x prime first (first ++ later) g last rest at ends.0 ends.1
    ending_closes (ending.Roots roots cases) g later last rest ends normal at number =
        roots_end p x prime first is.others numbers refl above unequal later g last next_number roots cases.items rest at number refl ends normal

    closes : (rest : List CertLine) → Closes limits p first (single_tree p x nodes (length equations) (length disequations) start steps end ++ rest) rest
    closes rest =
        let count : ℕ = length equations + length disequations in
        let last : ℕ = last_divisor start count (length steps) in
        let steps_lines : List CertLine = euclid_lines x start count steps in
        let end_lines : List CertLine = ending_lines p last next_number numbers end in
        let at : IsAt p x first is.first start = equal start is.first is.first_at in
        let none : first ++ [] ≡ first = append-nil first in
        let number : count ≡ length (first ++ []) = sym size ∙ ap length (sym none) in
        subst (λ ls. Closes limits p first ls rest) (sym (append_assoc steps_lines end_lines rest))
        (subst (λ ls. Closes limits p ls (steps_lines ++ (end_lines ++ rest)) rest) none
        (euclid_closes p x prime first is.polynomials equal [] start count (end_lines ++ rest) rest is.euclid (recursion_from_All (IsNormalStep p) steps normal_steps)
        (subst (λ ls. IsAt p x ls is.first start) (sym none) at) number
        (λ later there long. ending_closes end is.divisor later last rest is.end_is normal_end there long)))

    -- ---- it is in range

    ending_bounded : (e : Ending F) (g : Coefficients) (last : ℕ) → EndsIn p is.others g e → IsNormalEnding p e → length g ≤ 256 → IsNarrow last → AreBounded 6500000 (ending_lines p last next_number numbers e)
    ending_bounded ending.Constant g last ends normal low narrow = more_bounded 50000 6500000 (ending_lines {F = F} p last next_number numbers ending.Constant) (omega arith) (constant_lines_bounded p x wide (let there = is.there in let few = is.few_nodes in omega arith) last narrow)
    ending_bounded (ending.Roots roots cases) g last ends normal low narrow =
        let few = is.few_nodes in
        let there = is.there in
        let few_steps = is.few_steps in
        let all = size in
        roots_lines_bounded p x wide (omega arith) first (omega arith) is.others numbers refl above (omega arith) (omega arith) positive unequal g last next_number roots cases.items low narrow (omega arith) ends normal

    bounded : AreBounded 31000000 (single_tree p x nodes (length equations) (length disequations) start steps end)
    bounded =
        let count : ℕ = length equations + length disequations in
        let last : ℕ = last_divisor start count (length steps) in
        let few = is.few_nodes in
        let there = is.there in
        let few_steps = is.few_steps in
        let all = size in
        let start_there : start < length first = (equal start is.first is.first_at).there in
        let low : length is.divisor ≤ 256 = last_is_low p is.polynomials is.euclid (equal start is.first is.first_at).low in
        more_bounded (38969 * length steps + 6500000) 31000000 (single_tree p x nodes (length equations) (length disequations) start steps end) (omega arith)
        (both_bounded (38969 * length steps) 6500000 (euclid_lines x start count steps) (ending_lines p last next_number numbers end)
        (euclid_bounded p x wide (omega arith) first (omega arith) is.polynomials equal start count is.euclid (recursion_from_All (IsNormalStep p) steps normal_steps) (omega arith) (omega arith))
        (ending_bounded end is.divisor last is.end_is normal_end low (last_low start count (length steps) (omega arith) (omega arith))))

    pub refuted_by_tree : IsRefutedByTree c reasons p (map minus equations ++ map plus disequations) (single_tree p x nodes (length equations) (length disequations) start steps end)
    refuted_by_tree = record {
      forced = is.forced;
      forces = is.forces;
      lemma = is.lemma;
      closes = closes;
      ranges = All-from_recursion IsLine (single_tree p x nodes (length equations) (length disequations) start steps end) bounded.ranges;
      plain = All-from_recursion (LineFitsVersion 2) (single_tree p x nodes (length equations) (length disequations) start steps end) (single_plain p x nodes (length equations) (length disequations) start steps end);
      short = bounded.short;
    }

-- the same of other names
pub refuted_as : (c : NodeCheck) (reasons : List Reason) (p q : ℕ) (lits moved : List Literal) (tree written : List CertLine) → q ≡ p → moved ≡ lits → written ≡ tree → IsRefutedByTree c reasons p lits tree → IsRefutedByTree c reasons q moved written
refuted_as c reasons p q lits moved tree written same_order same_lits same_tree is =
    subst (λ n. IsRefutedByTree c reasons n moved written) (sym same_order)
    (subst (λ ls. IsRefutedByTree c reasons p ls written) (sym same_lits)
    (subst (λ t. IsRefutedByTree c reasons p lits t) (sym same_tree) is))
