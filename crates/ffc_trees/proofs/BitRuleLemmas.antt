-- Where the rule of a line of bits is kept: its tests, what they say, and that its polynomial is 0 where the lines are.
use Rattle.std.proofs.Common.{◌≡◌, ℕ, ◌+◌, ◌*◌, ◌%◌, ◌^◌, ◌<◌, ◌⊎◌, Bool, true, not, ◌&&◌, ◌||◌, ◌==◌, nat_lt, if◌then◌else◌, List, [], ◌∷◌, length, get_or, All, Result, Ok, Err, refl, sym, ap, ◌∙◌, inl, inr, ⊎_elim, arith, eqb-true, eq-eqb}
use Rattle.std.proofs.Math.Nat.{mod-eq-zero_of_dvd, dvd_of_mod-eq-zero}
use Rattle.std.proofs.lemmas.Bool.{and_parts, and_from, or_left, or_right, not-true, not_from_false, false_from_ne_true, false≢true, lt-ltb, ltb-true, ltb-false, le-ltb, not_from_true, or_cases}
use Rattle.std.proofs.lemmas.List.Sums.{AllPass-from_list_all, list_all-from_AllPass}
use Rattle.std.specs.List.{list_all, AllByRecursion}
use Rattle.ffc_field.specs.Modular.{IsPrime}
use Rattle.ffc_ring.specs.Monomial.{Monomial}
use Rattle.ffc_ring.specs.Polynomial.{Terms, value_sum, poly_value}
use Rattle.ffc_trees.specs.Laws.{AreZeroAt, IsPoint}
use Rattle.ffc_trees.specs.Normal.{normal, degree_of}
use Rattle.ffc_trees.specs.TreeLines.{Limits, line_at, is_there}
use Rattle.ffc_trees.specs.BitLines.{is_listed, is_among, is_linear, variables_of, are_variables, are_bits, sum_above, sum_below, terms_among, terms_besides, is_between, divisor_of, distance, is_impossible, choices_of, point_of, is_settled, is_written_in, is_of_bits, follows, are_choices_within, is_polynomial_within, bits_line}
use Rattle.ffc_trees.specs.Rules.{IsImpossible, IsOfBits}
use Rattle.ffc_trees.proofs.LineLemmas.{line_is_zero}
use Rattle.ffc_trees.proofs.NormalLemmas.{poly_value-normal}
use Rattle.ffc_trees.proofs.RuleLemmas.{passed, pass, same_ok, both_within, within_both}
use Rattle.ffc_trees.proofs.BitLemmas.{are_small, small_monomials, listed_holds, ones_at, choice_passes, one_value_sum, balanced, possible}

-- what each listed number passes
listed-all : (test : ℕ → Bool) (xs : List ℕ) (x : ℕ) → list_all test xs ≡ true → is_listed xs x ≡ true → test x ≡ true
listed-all test [] x all is = absurd (false≢true is)
listed-all test (y ∷ xs) x all is =
    let both = and_parts (test y) (list_all test xs) all in
    ⊎_elim (λ h. ap test (eqb-true x y h) ∙ both.0) (λ h. listed-all test xs x both.1 h) (or_cases (x == y) (is_listed xs x) is)

-- ---- what the tests say

written-from : (p : ℕ) (chosen : List ℕ) (ts : Terms) → is_written_in p chosen ts ≡ true → All (λ t. t.0 < p) ts × All (λ t. is_among chosen t.1 ≡ true) ts
written-from p chosen ts is =
    let at : (i : ℕ) (d : ℕ × Monomial) → i < length ts → (nat_lt (get_or ts i d).0 p ≡ true) × (is_among chosen (get_or ts i d).1 ≡ true) = λ i d inside.
    and_parts (nat_lt (get_or ts i d).0 p) (is_among chosen (get_or ts i d).1) (AllPass-from_list_all (λ (t : ℕ × Monomial). nat_lt t.0 p && is_among chosen t.1) ts is i d inside)
    in (λ i d inside. ltb-true (get_or ts i d).0 p (at i d inside).0, λ i d inside. (at i d inside).1)

written-to : (p : ℕ) (chosen : List ℕ) (ts : Terms) → All (λ t. t.0 < p) ts → All (λ t. is_among chosen t.1 ≡ true) ts → is_written_in p chosen ts ≡ true
written-to p chosen ts residues variables =
    list_all-from_AllPass (λ (t : ℕ × Monomial). nat_lt t.0 p && is_among chosen t.1) ts (λ i d inside.
    and_from (nat_lt (get_or ts i d).0 p) (is_among chosen (get_or ts i d).1) (lt-ltb (get_or ts i d).0 p (residues i d inside)) (variables i d inside))

impossible-from : (p : ℕ) (taken left : Terms) → is_impossible p taken left ≡ true → IsImpossible p taken left
impossible-from p taken left is =
    let over : Bool = nat_lt (sum_below p taken + sum_below p left) (sum_above p taken) in
    let under : Bool = nat_lt (sum_above p taken + sum_above p left) (sum_below p taken) in
    let whole : Bool = distance (sum_above p taken) (sum_below p taken) % divisor_of p left == 0 in
    ⊎_elim
    (λ h. ⊎_elim (λ one. inl (ltb-true _ _ one)) (λ other. inr (inl (ltb-true _ _ other))) (or_cases over under h))
    (λ h. inr (inr (λ divides. false≢true (sym (not_from_true whole (eq-eqb _ 0 (mod-eq-zero_of_dvd (divisor_of p left) divides))) ∙ h))))
    (or_cases (over || under) (not whole) is)

impossible-to : (p : ℕ) (taken left : Terms) → IsImpossible p taken left → is_impossible p taken left ≡ true
impossible-to p taken left is =
    let over : Bool = nat_lt (sum_below p taken + sum_below p left) (sum_above p taken) in
    let under : Bool = nat_lt (sum_above p taken + sum_above p left) (sum_below p taken) in
    let whole : Bool = distance (sum_above p taken) (sum_below p taken) % divisor_of p left == 0 in
    ⊎_elim
    (λ h. or_left (over || under) (not whole) (or_left over under (lt-ltb _ _ h)))
    (λ rest. ⊎_elim
    (λ h. or_left (over || under) (not whole) (or_right over under (lt-ltb _ _ h)))
    (λ none. or_right (over || under) (not whole) (not_from_false whole (false_from_ne_true whole (λ h. none (dvd_of_mod-eq-zero (divisor_of p left) (eqb-true _ 0 h)))))) rest) is

settled-from : (p : ℕ) (f : Terms) (chosen : List ℕ) (written : Terms) (ones : List ℕ) → is_settled p f chosen written ones ≡ true → (poly_value p (point_of ones) written ≡ 0) ⊎ IsImpossible p (terms_among ones f) (terms_besides chosen f)
settled-from p f chosen written ones is =
    ⊎_elim (λ h. inl (eqb-true _ 0 h)) (λ h. inr (impossible-from p (terms_among ones f) (terms_besides chosen f) h))
    (or_cases (poly_value p (point_of ones) written == 0) (is_impossible p (terms_among ones f) (terms_besides chosen f)) is)

settled-to : (p : ℕ) (f : Terms) (chosen : List ℕ) (written : Terms) (ones : List ℕ) → (poly_value p (point_of ones) written ≡ 0) ⊎ IsImpossible p (terms_among ones f) (terms_besides chosen f) → is_settled p f chosen written ones ≡ true
settled-to p f chosen written ones is =
    let zero : Bool = poly_value p (point_of ones) written == 0 in
    let impossible : Bool = is_impossible p (terms_among ones f) (terms_besides chosen f) in
    ⊎_elim (λ e. or_left zero impossible (eq-eqb _ 0 e)) (λ h. or_right zero impossible (impossible-to p (terms_among ones f) (terms_besides chosen f) h)) is

-- the tests, all passed
record Passes (l : Limits) (p : ℕ) (lines : List Terms) (sum : ℕ) (chosen : List ℕ) (written : Terms) (numbers : List ℕ) (line : Terms) : Type 0 where
  there : (is_there lines sum && list_all (is_there lines) numbers) ≡ true
  choices : are_choices_within l (line_at lines sum) chosen written ≡ true
  polynomial : is_polynomial_within l p written ≡ true
  residues : is_written_in p chosen written ≡ true
  bits : is_of_bits p lines (line_at lines sum) numbers ≡ true
  following : follows p (line_at lines sum) chosen written ≡ true
  line_is : normal p written ≡ line

module _ (l : Limits) (p : ℕ) (lines : List Terms) (sum : ℕ) (chosen : List ℕ) (written : Terms) (numbers : List ℕ) (line : Terms) where
  abbrev f : Terms
  f = line_at lines sum

  tests-from : bits_line l p lines sum chosen written numbers ≡ Ok line → Passes l p lines sum chosen written numbers line
  unfolding bits_line
  tests-from h =
      let six : Result Terms ℕ = Ok (normal p written) in
      let five : Result Terms ℕ = if not (follows p f chosen written) then Err 13 else six in
      let four : Result Terms ℕ = if not (is_of_bits p lines f numbers) then Err 13 else five in
      let three : Result Terms ℕ = if not (is_written_in p chosen written) then Err 13 else four in
      let two : Result Terms ℕ = if not (is_polynomial_within l p written) then Err 11 else three in
      let one : Result Terms ℕ = if not (are_choices_within l f chosen written) then Err 11 else two in
      let a = passed (is_there lines sum && list_all (is_there lines) numbers) 12 one line h in
      let b = passed (are_choices_within l f chosen written) 11 two line a.1 in
      let c = passed (is_polynomial_within l p written) 11 three line b.1 in
      let d = passed (is_written_in p chosen written) 13 four line c.1 in
      let e = passed (is_of_bits p lines f numbers) 13 five line d.1 in
      let g = passed (follows p f chosen written) 13 six line e.1 in
      record { there = a.0; choices = b.0; polynomial = c.0; residues = d.0; bits = e.0; following = g.0; line_is = same_ok six (normal p written) line refl g.1 }

  tests-to : Passes l p lines sum chosen written numbers line → bits_line l p lines sum chosen written numbers ≡ Ok line
  unfolding bits_line
  tests-to is =
      let six : Result Terms ℕ = Ok (normal p written) in
      let five : Result Terms ℕ = if not (follows p f chosen written) then Err 13 else six in
      let four : Result Terms ℕ = if not (is_of_bits p lines f numbers) then Err 13 else five in
      let three : Result Terms ℕ = if not (is_written_in p chosen written) then Err 13 else four in
      let two : Result Terms ℕ = if not (is_polynomial_within l p written) then Err 11 else three in
      let one : Result Terms ℕ = if not (are_choices_within l f chosen written) then Err 11 else two in
      pass (is_there lines sum && list_all (is_there lines) numbers) (Err 12) one is.there
      ∙ pass (are_choices_within l f chosen written) (Err 11) two is.choices
      ∙ pass (is_polynomial_within l p written) (Err 11) three is.polynomial
      ∙ pass (is_written_in p chosen written) (Err 13) four is.residues
      ∙ pass (is_of_bits p lines f numbers) (Err 13) five is.bits
      ∙ pass (follows p f chosen written) (Err 13) six is.following
      ∙ ap (λ (g : Terms). let r : Result Terms ℕ = Ok g in r) is.line_is

  -- ---- the polynomial is 0 where the lines are

  pub bits_are_zero : (point : ℕ → ℕ) → IsPrime p → IsPoint p point → AreZeroAt p point lines → bits_line l p lines sum chosen written numbers ≡ Ok line → poly_value p point line ≡ 0
  bits_are_zero point prime below zeros h =
      let is = tests-from h in
      let positive : 0 < p = omega (arith, prime.least) in
      let bits = and_parts (is_linear f) (are_bits p lines (variables_of f) numbers) is.bits in
      let follow = and_parts (are_variables f chosen && is_between p f) (list_all (is_settled p f chosen written) (choices_of chosen)) is.following in
      let inside = and_parts (are_variables f chosen) (is_between p f) follow.0 in
      let variables : AllByRecursion (λ x. point x < 2) (variables_of f) = are_small p point lines (variables_of f) numbers prime below zeros bits.1 in
      let small = small_monomials point f bits.0 variables in
      let balance = balanced point chosen p f positive bits.0 small inside.1 (line_is_zero p point lines sum zeros) in
      let chosen_small : (x : ℕ) → is_listed chosen x ≡ true → point x < 2 = λ x h. listed_holds (λ y. point y < 2) (variables_of f) x variables (listed-all (is_listed (variables_of f)) chosen x inside.0 h) in
      let one : value_sum point written ≡ value_sum (point_of (ones_at point chosen)) written = one_value_sum point chosen chosen_small p written is.residues in
      let settled = choice_passes (is_settled p f chosen written) point chosen follow.1 in
      ap (poly_value p point) (sym is.line_is) ∙ poly_value-normal p point written ∙ ap (λ n. n % p) one
      ∙ ⊎_elim (λ e. eqb-true _ 0 e) (λ e. absurd (possible point chosen p f positive bits.0 small balance e))
      (or_cases (poly_value p (point_of (ones_at point chosen)) written == 0) (is_impossible p (terms_among (ones_at point chosen) f) (terms_besides chosen f)) settled)

  -- ---- the rule in words

  pub bits_from : bits_line l p lines sum chosen written numbers ≡ Ok line → IsOfBits l p lines sum chosen written numbers line
  bits_from h =
      let is = tests-from h in
      let there = and_parts (is_there lines sum) (list_all (is_there lines) numbers) is.there in
      let few = and_parts (not (nat_lt l.choices (length chosen)) && not (nat_lt l.products (2 ^ length chosen * length f))) (not (nat_lt l.products (2 ^ length chosen * length written))) is.choices in
      let choices = both_within l.choices (length chosen) l.products (2 ^ length chosen * length f) few.0 in
      let polynomial = both_within l.degree (degree_of written) l.terms (length (normal p written)) is.polynomial in
      let residues = written-from p chosen written is.residues in
      let bits = and_parts (is_linear f) (are_bits p lines (variables_of f) numbers) is.bits in
      let follow = and_parts (are_variables f chosen && is_between p f) (list_all (is_settled p f chosen written) (choices_of chosen)) is.following in
      let inside = and_parts (are_variables f chosen) (is_between p f) follow.0 in
      let between = and_parts (nat_lt (sum_below p f) (sum_above p (terms_among [] f) + p)) (nat_lt (sum_above p f) (sum_below p (terms_among [] f) + p)) inside.1 in
      record {
        there = ltb-true sum (length lines) there.0;
        bits_there = λ i d within. ltb-true (get_or numbers i d) (length lines) (AllPass-from_list_all (is_there lines) numbers there.1 i d within);
        few = choices.0;
        products = choices.1;
        written_products = ltb-false l.products (2 ^ length chosen * length written) (not-true (nat_lt l.products (2 ^ length chosen * length written)) few.1);
        degree = polynomial.0;
        terms = polynomial.1;
        residues = residues.0;
        variables = residues.1;
        linear = bits.0;
        bits = bits.1;
        inside = inside.0;
        above_low = ltb-true _ _ between.0;
        below_high = ltb-true _ _ between.1;
        settled = λ i d within. settled-from p f chosen written (get_or (choices_of chosen) i d) (AllPass-from_list_all (is_settled p f chosen written) (choices_of chosen) follow.1 i d within);
        polynomial = is.line_is;
      }

  pub bits_to : IsOfBits l p lines sum chosen written numbers line → bits_line l p lines sum chosen written numbers ≡ Ok line
  bits_to is =
      let between : is_between p f ≡ true = and_from (nat_lt (sum_below p f) (sum_above p (terms_among [] f) + p)) (nat_lt (sum_above p f) (sum_below p (terms_among [] f) + p)) (lt-ltb _ _ is.above_low) (lt-ltb _ _ is.below_high) in
      let settled : list_all (is_settled p f chosen written) (choices_of chosen) ≡ true = list_all-from_AllPass (is_settled p f chosen written) (choices_of chosen) (λ i d within. settled-to p f chosen written (get_or (choices_of chosen) i d) (is.settled i d within)) in
      let few : (not (nat_lt l.choices (length chosen)) && not (nat_lt l.products (2 ^ length chosen * length f))) ≡ true = within_both l.choices (length chosen) l.products (2 ^ length chosen * length f) is.few is.products in
      tests-to (record {
        there = and_from (is_there lines sum) (list_all (is_there lines) numbers) (lt-ltb sum (length lines) is.there) (list_all-from_AllPass (is_there lines) numbers (λ i d within. lt-ltb (get_or numbers i d) (length lines) (is.bits_there i d within)));
        choices = and_from _ (not (nat_lt l.products (2 ^ length chosen * length written))) few (not_from_false (nat_lt l.products (2 ^ length chosen * length written)) (le-ltb l.products (2 ^ length chosen * length written) is.written_products));
        polynomial = within_both l.degree (degree_of written) l.terms (length (normal p written)) is.degree is.terms;
        residues = written-to p chosen written is.residues is.variables;
        bits = and_from (is_linear f) (are_bits p lines (variables_of f) numbers) is.linear is.bits;
        following = and_from _ (list_all (is_settled p f chosen written) (choices_of chosen)) (and_from (are_variables f chosen) (is_between p f) is.inside between) settled;
        line_is = is.polynomial;
      })
