-- The rules of lines in words: each function of TreeLines and BitLines answers what its line adds exactly where this holds.
use Rattle.std.specs.Prelude.{◌≡◌, ℕ, ◌+◌, ◌*◌, ◌^◌, ◌<◌, ◌≤◌, ◌⊎◌, ◌↔◌, true, List, [], length, All, Ok}
use Rattle.std.specs.Int.{◌∣◌}
use Rattle.std.specs.List.{range_with_len}
use Rattle.ffc_ring.specs.Polynomial.{Terms, poly_value}
use Rattle.ffc_uni.specs.Univariate.{Coefficients, SameUnivariate, plus, times, product_of_roots}
use Rattle.ffc_uni.specs.Chains.{pair_count}
use Rattle.ffc_trees.specs.Normal.{normal, degree_of}
use Rattle.ffc_trees.specs.TreeLines.{Limits, Multiple, Factor, line_at, products_in, written_degree, combined, combine_line, is_in, coefficients_of, times_factor, chain_line, step_line, case_lines, split_line, values_line}
use Rattle.ffc_trees.specs.BitLines.{is_among, is_linear, variables_of, are_variables, are_bits, sum_above, sum_below, terms_among, terms_besides, divisor_of, distance, choices_of, point_of, bits_line}

-- a sum of multiples of lines that are there, with residues and within the limits
pub record IsSum (l : Limits) (p : ℕ) (lines : List Terms) (multiples : List Multiple) (line : Terms) : Type 0 where
  pub there : All (λ m. m.0 < length lines) multiples
  pub products : products_in lines multiples ≤ l.products
  pub written : written_degree multiples ≤ l.degree
  pub degree : degree_of (combined p lines multiples) ≤ l.degree
  pub terms : length (combined p lines multiples) ≤ l.terms
  pub residues : All (λ m. All (λ t. t.0 < p) m.1) multiples
  pub sum : combined p lines multiples ≡ line

-- no bits for the terms that are left give them and the terms that are taken the sum 0: it is above 0, or below 0, or no
-- multiple of what divides all that are left
abbrev pub IsImpossible : ℕ → Terms → Terms → Type 0
IsImpossible p taken left = (sum_below p taken + sum_below p left < sum_above p taken) ⊎ ((sum_above p taken + sum_above p left < sum_below p taken) ⊎ (divisor_of p left ∣ distance (sum_above p taken) (sum_below p taken) → ⊥))

-- a polynomial in some variables of a sum of bits that stays between -p and p: at each choice of values for them the
-- polynomial is 0, or the choice is impossible
pub record IsOfBits (l : Limits) (p : ℕ) (lines : List Terms) (sum : ℕ) (chosen : List ℕ) (written : Terms) (numbers : List ℕ) (line : Terms) : Type 0 where
  pub there : sum < length lines
  pub bits_there : All (λ k. k < length lines) numbers
  pub few : length chosen ≤ l.choices
  pub products : 2 ^ length chosen * length (line_at lines sum) ≤ l.products
  pub written_products : 2 ^ length chosen * length written ≤ l.products
  pub degree : degree_of written ≤ l.degree
  pub terms : length (normal p written) ≤ l.terms
  pub residues : All (λ t. t.0 < p) written
  pub variables : All (λ t. is_among chosen t.1 ≡ true) written
  pub linear : is_linear (line_at lines sum) ≡ true
  pub bits : are_bits p lines (variables_of (line_at lines sum)) numbers ≡ true
  pub inside : are_variables (line_at lines sum) chosen ≡ true
  pub above_low : sum_below p (line_at lines sum) < sum_above p (terms_among [] (line_at lines sum)) + p
  pub below_high : sum_above p (line_at lines sum) < sum_below p (terms_among [] (line_at lines sum)) + p
  pub settled : All (λ ones. (poly_value p (point_of ones) written ≡ 0) ⊎ IsImpossible p (terms_among ones (line_at lines sum)) (terms_besides chosen (line_at lines sum))) (choices_of chosen)
  pub polynomial : normal p written ≡ line

-- a chain of the right length over a line in x alone, whose coefficients are f
pub record IsChainOf (p : ℕ) (lines : List Terms) (k x count : ℕ) (f : Coefficients) : Type 0 where
  pub there : k < length lines
  pub alone : is_in x (line_at lines k) ≡ true
  pub long : count ≡ pair_count p
  pub line : coefficients_of (line_at lines k) ≡ f

-- a quotient and a remainder of residues, within the limit as they are written
pub record IsStep (l : Limits) (p : ℕ) (f : Coefficients) (factor : Factor) (r quotient remainder : Coefficients) : Type 0 where
  pub short : length quotient ≤ l.coefficients
  pub small : length remainder ≤ l.coefficients
  pub residues : All (λ c. c < p) quotient
  pub below : All (λ c. c < p) remainder
  pub identity : SameUnivariate p (times_factor factor r) (plus (times quotient f) remainder)

-- a line in x alone that is the product of the x - a, for residues a, one at least
pub record IsSplit (p : ℕ) (lines : List Terms) (k x : ℕ) (zeros : List ℕ) (cases : List (List Terms)) : Type 0 where
  pub there : k < length lines
  pub some : 0 < length zeros
  pub residues : All (λ a. a < p) zeros
  pub alone : is_in x (line_at lines k) ≡ true
  pub product : SameUnivariate p (coefficients_of (line_at lines k)) (product_of_roots p zeros)
  pub each : case_lines p lines x zeros ≡ cases

-- all values of a small field
pub record AreValues (p : ℕ) (lines : List Terms) (x count : ℕ) (cases : List (List Terms)) : Type 0 where
  pub few : p ≤ 17
  pub all : count ≡ p
  pub each : case_lines p lines x (range_with_len 0 p) ≡ cases

abbrev pub SumsAre : Type 0
SumsAre = (l : Limits) (p : ℕ) (lines : List Terms) (multiples : List Multiple) (line : Terms) → (combine_line l p lines multiples ≡ Ok line) ↔ IsSum l p lines multiples line

abbrev pub BitsAre : Type 0
BitsAre = (l : Limits) (p : ℕ) (lines : List Terms) (sum : ℕ) (chosen : List ℕ) (written : Terms) (numbers : List ℕ) (line : Terms) → (bits_line l p lines sum chosen written numbers ≡ Ok line) ↔ IsOfBits l p lines sum chosen written numbers line

abbrev pub ChainsAre : Type 0
ChainsAre = (p : ℕ) (lines : List Terms) (k x count : ℕ) (f : Coefficients) → (chain_line p lines k x count ≡ Ok f) ↔ IsChainOf p lines k x count f

abbrev pub StepsAre : Type 0
StepsAre = (l : Limits) (p : ℕ) (f : Coefficients) (factor : Factor) (r quotient remainder : Coefficients) → (step_line l p f factor r quotient remainder ≡ Ok remainder) ↔ IsStep l p f factor r quotient remainder

abbrev pub SplitsAre : Type 0
SplitsAre = (p : ℕ) (lines : List Terms) (k x : ℕ) (zeros : List ℕ) (cases : List (List Terms)) → (split_line p lines k x zeros ≡ Ok cases) ↔ IsSplit p lines k x zeros cases

abbrev pub ValuesAre : Type 0
ValuesAre = (p : ℕ) (lines : List Terms) (x count : ℕ) (cases : List (List Terms)) → (values_line p lines x count ≡ Ok cases) ↔ AreValues p lines x count cases
