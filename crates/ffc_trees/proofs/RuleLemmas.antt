-- Where each rule of a line is kept: the tests, and what they say.
use Rattle.std.proofs.Math.Nat.{zero-mod}
use Rattle.std.proofs.Common.{◌≡◌, ℕ, zero, suc, ◌<◌, ◌≤◌, Bool, true, false, not, ◌&&◌, ◌==◌, nat_lt, if◌then◌else◌, List, [], ◌∷◌, length, get_or, All, Result, Ok, Err, refl, sym, ap, ◌∙◌, eqb-true, eq-eqb, ◌%◌}
use Rattle.std.specs.List.{list_all, range_with_len}
use Rattle.std.proofs.lemmas.Bool.{and_parts, and_from, not-true, not_from_false, not_from_true, lt-ltb, ltb-true, ltb-false, le-ltb, cond-false}
use Rattle.std.proofs.lemmas.List.Sums.{AllPass-from_list_all, list_all-from_AllPass}
use Rattle.ffc_ring.specs.Polynomial.{Terms}
use Rattle.ffc_uni.specs.Univariate.{Coefficients, plus, times, product_of_roots, SameUnivariate}
use Rattle.ffc_uni.specs.Chains.{pair_count}
use Rattle.ffc_trees.specs.Normal.{degree_of}
use Rattle.ffc_trees.specs.TreeLines.{Limits, Multiple, Factor, line_at, is_there, are_there, products_in, written_degree, is_written_within, is_within, are_residues, combined, combine_line, is_in, coefficients_of, is_same, are_below, times_factor, chain_line, step_line, case_lines, is_root_product, split_line, values_line, is_zero}
use Rattle.ffc_trees.specs.Rules.{IsSum, IsChainOf, IsStep, IsSplit, AreValues}

-- ---- tests

-- what is left of a test that was passed
pub passed : {A : Type 0} (c : Bool) (e : ℕ) (r : Result A ℕ) (x : A) → (if not c then Err e else r) ≡ Ok x → (c ≡ true) × (r ≡ Ok x)
passed false e r x h = absurd (cc)
passed true e r x h = (refl, h)

passed_not : {A : Type 0} (c : Bool) (e : ℕ) (r : Result A ℕ) (x : A) → (if c then Err e else r) ≡ Ok x → (c ≡ false) × (r ≡ Ok x)
passed_not true e r x h = absurd (cc)
passed_not false e r x h = (refl, h)

pub same_ok : {A : Type 0} (r : Result A ℕ) (x y : A) → r ≡ Ok x → r ≡ Ok y → x ≡ y
same_ok r x y g h = cc

-- a test that is passed
pub pass : {A : Type 0} (c : Bool) (e : A) (r : A) → c ≡ true → (if not c then e else r) ≡ r
pass true e r is = refl
pass false e r is = cond-false _ _ _ (not_from_true false is)

-- ---- the test of two lists of coefficients

is_zero-same : (p : ℕ) (a : Coefficients) → is_zero p a ≡ true → SameUnivariate p a []
is_zero-same p [] is k = refl
is_zero-same p (c ∷ a) is zero = eqb-true (c % p) 0 (and_parts (c % p == 0) (is_zero p a) is).0 ∙ sym (zero-mod p)
is_zero-same p (c ∷ a) is (suc k) = is_zero-same p a (and_parts (c % p == 0) (is_zero p a) is).1 k

is_same-same : (p : ℕ) (a b : Coefficients) → is_same p a b ≡ true → SameUnivariate p a b
is_same-same p [] b is k = sym (is_zero-same p b is k)
is_same-same p (x ∷ a) [] is k = is_zero-same p (x ∷ a) is k
is_same-same p (x ∷ a) (y ∷ b) is zero = eqb-true (x % p) (y % p) (and_parts (x % p == y % p) (is_same p a b) is).0
is_same-same p (x ∷ a) (y ∷ b) is (suc k) = is_same-same p a b (and_parts (x % p == y % p) (is_same p a b) is).1 k

same-is_zero : (p : ℕ) (a : Coefficients) → SameUnivariate p a [] → is_zero p a ≡ true
same-is_zero p [] same = refl
same-is_zero p (c ∷ a) same = and_from (c % p == 0) (is_zero p a) (eq-eqb (c % p) 0 (same 0 ∙ zero-mod p)) (same-is_zero p a (λ k. same (suc k)))

same-is_same : (p : ℕ) (a b : Coefficients) → SameUnivariate p a b → is_same p a b ≡ true
same-is_same p [] b same = same-is_zero p b (λ k. sym (same k))
same-is_same p (x ∷ a) [] same = same-is_zero p (x ∷ a) same
same-is_same p (x ∷ a) (y ∷ b) same = and_from (x % p == y % p) (is_same p a b) (eq-eqb (x % p) (y % p) (same 0)) (same-is_same p a b (λ k. same (suc k)))

-- ---- tests of all elements

all_below-from : (p : ℕ) (xs : List ℕ) → are_below p xs ≡ true → All (λ c. c < p) xs
all_below-from p xs is i d inside = ltb-true (get_or xs i d) p (AllPass-from_list_all (λ c. nat_lt c p) xs is i d inside)

all_below-to : (p : ℕ) (xs : List ℕ) → All (λ c. c < p) xs → are_below p xs ≡ true
all_below-to p xs are = list_all-from_AllPass (λ c. nat_lt c p) xs (λ i d inside. lt-ltb (get_or xs i d) p (are i d inside))

there-from : (lines : List Terms) (ms : List Multiple) → are_there lines ms ≡ true → All (λ m. m.0 < length lines) ms
there-from lines ms is i d inside = ltb-true (get_or ms i d).0 (length lines) (AllPass-from_list_all (λ (m : Multiple). is_there lines m.0) ms is i d inside)

there-to : (lines : List Terms) (ms : List Multiple) → All (λ m. m.0 < length lines) ms → are_there lines ms ≡ true
there-to lines ms are = list_all-from_AllPass (λ (m : Multiple). is_there lines m.0) ms (λ i d inside. lt-ltb (get_or ms i d).0 (length lines) (are i d inside))

residues-from : (p : ℕ) (ms : List Multiple) → are_residues p ms ≡ true → All (λ m. All (λ t. t.0 < p) m.1) ms
residues-from p ms is i d inside j e within =
    let one : list_all (λ (t : ℕ × List (ℕ × ℕ)). nat_lt t.0 p) (get_or ms i d).1 ≡ true = AllPass-from_list_all (λ (m : Multiple). list_all (λ t. nat_lt t.0 p) m.1) ms is i d inside in
    ltb-true (get_or (get_or ms i d).1 j e).0 p (AllPass-from_list_all (λ (t : ℕ × List (ℕ × ℕ)). nat_lt t.0 p) (get_or ms i d).1 one j e within)

residues-to : (p : ℕ) (ms : List Multiple) → All (λ m. All (λ t. t.0 < p) m.1) ms → are_residues p ms ≡ true
residues-to p ms are =
    list_all-from_AllPass (λ (m : Multiple). list_all (λ t. nat_lt t.0 p) m.1) ms (λ i d inside.
    list_all-from_AllPass (λ (t : ℕ × List (ℕ × ℕ)). nat_lt t.0 p) (get_or ms i d).1 (λ j e within. lt-ltb (get_or (get_or ms i d).1 j e).0 p (are i d inside j e within)))

pub both_within : (a b c d : ℕ) → (not (nat_lt a b) && not (nat_lt c d)) ≡ true → (b ≤ a) × (d ≤ c)
both_within a b c d is =
    let both = and_parts (not (nat_lt a b)) (not (nat_lt c d)) is in
    (ltb-false a b (not-true (nat_lt a b) both.0), ltb-false c d (not-true (nat_lt c d) both.1))

pub within_both : (a b c d : ℕ) → b ≤ a → d ≤ c → (not (nat_lt a b) && not (nat_lt c d)) ≡ true
within_both a b c d x y = and_from (not (nat_lt a b)) (not (nat_lt c d)) (not_from_false (nat_lt a b) (le-ltb a b x)) (not_from_false (nat_lt c d) (le-ltb c d y))

-- ---- the rules

pub sum_from : (l : Limits) (p : ℕ) (lines : List Terms) (ms : List Multiple) (line : Terms) → combine_line l p lines ms ≡ Ok line → IsSum l p lines ms line
unfolding combine_line
sum_from l p lines ms line h =
    let four : Result Terms ℕ = Ok (combined p lines ms) in
    let three : Result Terms ℕ = if not (are_residues p ms) then Err 5 else four in
    let two : Result Terms ℕ = if not (is_within l (combined p lines ms)) then Err 11 else three in
    let one : Result Terms ℕ = if not (is_written_within l lines ms) then Err 11 else two in
    let there = passed (are_there lines ms) 12 one line h in
    let written = passed (is_written_within l lines ms) 11 two line there.1 in
    let within = passed (is_within l (combined p lines ms)) 11 three line written.1 in
    let residues = passed (are_residues p ms) 5 four line within.1 in
    let as_written = both_within l.products (products_in lines ms) l.degree (written_degree ms) written.0 in
    let as_sum = both_within l.degree (degree_of (combined p lines ms)) l.terms (length (combined p lines ms)) within.0 in
    record {
      there = there-from lines ms there.0;
      products = as_written.0;
      written = as_written.1;
      degree = as_sum.0;
      terms = as_sum.1;
      residues = residues-from p ms residues.0;
      sum = same_ok four (combined p lines ms) line refl residues.1;
    }

pub sum_to : (l : Limits) (p : ℕ) (lines : List Terms) (ms : List Multiple) (line : Terms) → IsSum l p lines ms line → combine_line l p lines ms ≡ Ok line
unfolding combine_line
sum_to l p lines ms line is =
    let four : Result Terms ℕ = Ok (combined p lines ms) in
    let three : Result Terms ℕ = if not (are_residues p ms) then Err 5 else four in
    let two : Result Terms ℕ = if not (is_within l (combined p lines ms)) then Err 11 else three in
    let one : Result Terms ℕ = if not (is_written_within l lines ms) then Err 11 else two in
    pass (are_there lines ms) (Err 12) one (there-to lines ms is.there)
    ∙ pass (is_written_within l lines ms) (Err 11) two (within_both l.products (products_in lines ms) l.degree (written_degree ms) is.products is.written)
    ∙ pass (is_within l (combined p lines ms)) (Err 11) three (within_both l.degree (degree_of (combined p lines ms)) l.terms (length (combined p lines ms)) is.degree is.terms)
    ∙ pass (are_residues p ms) (Err 5) four (residues-to p ms is.residues)
    ∙ ap (λ (f : Terms). let r : Result Terms ℕ = Ok f in r) is.sum

pub chain_from : (p : ℕ) (lines : List Terms) (k x count : ℕ) (f : Coefficients) → chain_line p lines k x count ≡ Ok f → IsChainOf p lines k x count f
unfolding chain_line
chain_from p lines k x count f h =
    let two : Result Coefficients ℕ = Ok (coefficients_of (line_at lines k)) in
    let one : Result Coefficients ℕ = if not (is_in x (line_at lines k) && (count == pair_count p)) then Err 6 else two in
    let there = passed (is_there lines k) 12 one f h in
    let fits = passed (is_in x (line_at lines k) && (count == pair_count p)) 6 two f there.1 in
    let both = and_parts (is_in x (line_at lines k)) (count == pair_count p) fits.0 in
    record { there = ltb-true k (length lines) there.0; alone = both.0; long = eqb-true count (pair_count p) both.1; line = same_ok two (coefficients_of (line_at lines k)) f refl fits.1 }

pub chain_to : (p : ℕ) (lines : List Terms) (k x count : ℕ) (f : Coefficients) → IsChainOf p lines k x count f → chain_line p lines k x count ≡ Ok f
unfolding chain_line
chain_to p lines k x count f is =
    let two : Result Coefficients ℕ = Ok (coefficients_of (line_at lines k)) in
    let one : Result Coefficients ℕ = if not (is_in x (line_at lines k) && (count == pair_count p)) then Err 6 else two in
    pass (is_there lines k) (Err 12) one (lt-ltb k (length lines) is.there)
    ∙ pass (is_in x (line_at lines k) && (count == pair_count p)) (Err 6) two (and_from (is_in x (line_at lines k)) (count == pair_count p) is.alone (eq-eqb count (pair_count p) is.long))
    ∙ ap (λ (g : Coefficients). let r : Result Coefficients ℕ = Ok g in r) is.line

-- what a step that keeps its rule answers is the remainder
pub step_gives : (l : Limits) (p : ℕ) (f : Coefficients) (factor : Factor) (r quotient remainder next : Coefficients) → step_line l p f factor r quotient remainder ≡ Ok next → IsStep l p f factor r quotient remainder × (remainder ≡ next)
unfolding step_line
step_gives l p f factor r quotient remainder next h =
    let four : Result Coefficients ℕ = Ok remainder in
    let three : Result Coefficients ℕ = if not (is_same p (times_factor factor r) (plus (times quotient f) remainder)) then Err 6 else four in
    let two : Result Coefficients ℕ = if not (are_below p quotient && are_below p remainder) then Err 6 else three in
    let one : Result Coefficients ℕ = if nat_lt l.coefficients (length remainder) then Err 11 else two in
    let first = passed_not (nat_lt l.coefficients (length quotient)) 11 one next h in
    let second = passed_not (nat_lt l.coefficients (length remainder)) 11 two next first.1 in
    let third = passed (are_below p quotient && are_below p remainder) 6 three next second.1 in
    let fourth = passed (is_same p (times_factor factor r) (plus (times quotient f) remainder)) 6 four next third.1 in
    let both = and_parts (are_below p quotient) (are_below p remainder) third.0 in (
      record {
        short = ltb-false l.coefficients (length quotient) first.0;
        small = ltb-false l.coefficients (length remainder) second.0;
        residues = all_below-from p quotient both.0;
        below = all_below-from p remainder both.1;
        identity = is_same-same p (times_factor factor r) (plus (times quotient f) remainder) fourth.0;
      },
      same_ok four remainder next refl fourth.1,
    )

pub step_from : (l : Limits) (p : ℕ) (f : Coefficients) (factor : Factor) (r quotient remainder : Coefficients) → step_line l p f factor r quotient remainder ≡ Ok remainder → IsStep l p f factor r quotient remainder
step_from l p f factor r quotient remainder h = (step_gives l p f factor r quotient remainder remainder h).0

pub step_to : (l : Limits) (p : ℕ) (f : Coefficients) (factor : Factor) (r quotient remainder : Coefficients) → IsStep l p f factor r quotient remainder → step_line l p f factor r quotient remainder ≡ Ok remainder
unfolding step_line
step_to l p f factor r quotient remainder is =
    let four : Result Coefficients ℕ = Ok remainder in
    let three : Result Coefficients ℕ = if not (is_same p (times_factor factor r) (plus (times quotient f) remainder)) then Err 6 else four in
    cond-false _ _ _ (le-ltb l.coefficients (length quotient) is.short)
    ∙ cond-false _ _ _ (le-ltb l.coefficients (length remainder) is.small)
    ∙ pass (are_below p quotient && are_below p remainder) (Err 6) three (and_from (are_below p quotient) (are_below p remainder) (all_below-to p quotient is.residues) (all_below-to p remainder is.below))
    ∙ pass (is_same p (times_factor factor r) (plus (times quotient f) remainder)) (Err 6) four (same-is_same p (times_factor factor r) (plus (times quotient f) remainder) is.identity)

pub split_from : (p : ℕ) (lines : List Terms) (k x : ℕ) (zeros : List ℕ) (cases : List (List Terms)) → split_line p lines k x zeros ≡ Ok cases → IsSplit p lines k x zeros cases
unfolding split_line
split_from p lines k x zeros cases h =
    let three : Result (List (List Terms)) ℕ = Ok (case_lines p lines x zeros) in
    let two : Result (List (List Terms)) ℕ = if not (is_root_product p (line_at lines k) x zeros) then Err 7 else three in
    let one : Result (List (List Terms)) ℕ = if not (nat_lt 0 (length zeros) && are_below p zeros) then Err 7 else two in
    let there = passed (is_there lines k) 12 one cases h in
    let below = passed (nat_lt 0 (length zeros) && are_below p zeros) 7 two cases there.1 in
    let product = passed (is_root_product p (line_at lines k) x zeros) 7 three cases below.1 in
    let parts = and_parts (nat_lt 0 (length zeros)) (are_below p zeros) below.0 in
    let both = and_parts (is_in x (line_at lines k)) (is_same p (coefficients_of (line_at lines k)) (product_of_roots p zeros)) product.0 in
    record {
      there = ltb-true k (length lines) there.0;
      some = ltb-true 0 (length zeros) parts.0;
      residues = all_below-from p zeros parts.1;
      alone = both.0;
      product = is_same-same p (coefficients_of (line_at lines k)) (product_of_roots p zeros) both.1;
      each = same_ok three (case_lines p lines x zeros) cases refl product.1;
    }

pub split_to : (p : ℕ) (lines : List Terms) (k x : ℕ) (zeros : List ℕ) (cases : List (List Terms)) → IsSplit p lines k x zeros cases → split_line p lines k x zeros ≡ Ok cases
unfolding split_line
split_to p lines k x zeros cases is =
    let three : Result (List (List Terms)) ℕ = Ok (case_lines p lines x zeros) in
    let two : Result (List (List Terms)) ℕ = if not (is_root_product p (line_at lines k) x zeros) then Err 7 else three in
    let one : Result (List (List Terms)) ℕ = if not (nat_lt 0 (length zeros) && are_below p zeros) then Err 7 else two in
    pass (is_there lines k) (Err 12) one (lt-ltb k (length lines) is.there)
    ∙ pass (nat_lt 0 (length zeros) && are_below p zeros) (Err 7) two (and_from (nat_lt 0 (length zeros)) (are_below p zeros) (lt-ltb 0 (length zeros) is.some) (all_below-to p zeros is.residues))
    ∙ pass (is_root_product p (line_at lines k) x zeros) (Err 7) three (and_from (is_in x (line_at lines k)) (is_same p (coefficients_of (line_at lines k)) (product_of_roots p zeros)) is.alone (same-is_same p (coefficients_of (line_at lines k)) (product_of_roots p zeros) is.product))
    ∙ ap (λ (c : List (List Terms)). let r : Result (List (List Terms)) ℕ = Ok c in r) is.each

pub values_from : (p : ℕ) (lines : List Terms) (x count : ℕ) (cases : List (List Terms)) → values_line p lines x count ≡ Ok cases → AreValues p lines x count cases
unfolding values_line
values_from p lines x count cases h =
    let two : Result (List (List Terms)) ℕ = Ok (case_lines p lines x (range_with_len 0 p)) in
    let one : Result (List (List Terms)) ℕ = if not (count == p) then Err 7 else two in
    let small = passed_not _ 7 one cases h in
    let all = passed (count == p) 7 two cases small.1 in
    record { few = ltb-false 17 p small.0; all = eqb-true count p all.0; each = same_ok two (case_lines p lines x (range_with_len 0 p)) cases refl all.1 }

pub values_to : (p : ℕ) (lines : List Terms) (x count : ℕ) (cases : List (List Terms)) → AreValues p lines x count cases → values_line p lines x count ≡ Ok cases
unfolding values_line
values_to p lines x count cases is =
    let two : Result (List (List Terms)) ℕ = Ok (case_lines p lines x (range_with_len 0 p)) in
    cond-false _ _ _ (le-ltb 17 p is.few)
    ∙ pass (count == p) (Err 7) two (eq-eqb count p is.all)
    ∙ ap (λ (c : List (List Terms)). let r : Result (List (List Terms)) ℕ = Ok c in r) is.each
