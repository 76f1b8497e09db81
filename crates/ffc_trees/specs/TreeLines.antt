-- The rule of each line of a case tree, over the integers modulo p.
--
-- The lines so far are polynomials that are 0 at the point in question, numbered from 0. A line `Combine` adds a sum of
-- multiples of them, as in a certificate of Hilbert's Nullstellensatz; a line `Chain` adds x^p - x modulo a line in x
-- alone (Berlekamp, "Factoring polynomials over large finite fields", 1970); `Split` and `Values` part the cases by the
-- roots of a line in x alone, or by all values of x.
--
-- A function answers what the line adds, or the number of the first rule that it breaks: 12 where it refers to a line that
-- is not there, 11 where it passes a limit, 5 for a sum, 6 for a chain, 7 for cases, 8 for an end that closes nothing.
use Rattle.std.specs.Prelude.{ℕ, ◌-◌, ◌*◌, ◌%◌, Bool, true, false, not, ◌&&◌, ◌==◌, nat_lt, if◌then◌else◌, List, [], ◌∷◌, ◌++◌, length, map, sum_by, slice_index_or, Result, Ok, Err}
use Rattle.std.specs.List.{list_all, range_with_len}
use Rattle.ffc_term.specs.Measuring.{greatest_by}
use Rattle.ffc_ring.specs.Monomial.{Monomial, degree}
use Rattle.ffc_ring.specs.Polynomial.{Terms, product, difference}
use Rattle.ffc_uni.specs.Univariate.{Coefficients, indeterminate, plus, times, product_of_roots, terms_in}
use Rattle.ffc_uni.specs.Rows.{shifted}
use Rattle.ffc_uni.specs.Chains.{pair_count}
use Rattle.ffc_trees.specs.Normal.{normal, degree_of}

-- how large a line may be
pub record Limits : Type 0 where
  -- products of two terms of a sum
  pub products : ℕ
  -- the degree of a written term, and of a sum
  pub degree : ℕ
  -- the terms of a sum
  pub terms : ℕ
  -- the coefficients of a quotient or a remainder, as written
  pub coefficients : ℕ
  -- the variables that a line of bits goes through
  pub choices : ℕ

abbrev pub limits : Limits
limits = record { products = 4194304; degree = 1024; terms = 131072; coefficients = 1025; choices = 12 }

-- the line of this number
abbrev pub line_at : List Terms → ℕ → Terms
line_at lines k = slice_index_or lines k []

abbrev pub is_there : List Terms → ℕ → Bool
is_there lines k = nat_lt k (length lines)

-- Sums

-- a polynomial as written, and the number of the line that it multiplies
abbrev pub Multiple : Type 0
Multiple = ℕ × Terms

-- the sum of the multiples
abbrev pub sum_of_multiples : List Terms → List Multiple → Terms
sum_of_multiples lines [] = []
sum_of_multiples lines (m ∷ ms) = product m.1 (line_at lines m.0) ++ sum_of_multiples lines ms

-- how many products of two terms the sum has
abbrev pub products_in : List Terms → List Multiple → ℕ
products_in lines ms = sum_by (λ m. length m.1 * length (line_at lines m.0)) ms

-- the greatest degree of a written term
abbrev pub written_degree : List Multiple → ℕ
written_degree ms = greatest_by (λ m. degree_of m.1) ms

abbrev pub are_there : List Terms → List Multiple → Bool
are_there lines ms = list_all (λ m. is_there lines m.0) ms

-- all coefficients are written as residues
abbrev pub are_residues : ℕ → List Multiple → Bool
are_residues p ms = list_all (λ m. list_all (λ t. nat_lt t.0 p) m.1) ms

-- the written multiples are within the limits, and so is their sum
abbrev pub is_written_within : Limits → List Terms → List Multiple → Bool
is_written_within l lines ms = not (nat_lt l.products (products_in lines ms)) && not (nat_lt l.degree (written_degree ms))

abbrev pub is_within : Limits → Terms → Bool
is_within l line = not (nat_lt l.degree (degree_of line)) && not (nat_lt l.terms (length line))

-- the sum as a line
unfoldable pub combined : ℕ → List Terms → List Multiple → Terms
combined p lines ms = normal p (sum_of_multiples lines ms)

unfoldable pub combine_line : Limits → ℕ → List Terms → List Multiple → Result Terms ℕ
combine_line l p lines ms =
    if not (are_there lines ms) then Err 12 else
    if not (is_written_within l lines ms) then Err 11 else
    if not (is_within l (combined p lines ms)) then Err 11 else
    if not (are_residues p ms) then Err 5 else Ok (combined p lines ms)

-- Lines in one variable

-- a power of x
abbrev pub is_power : ℕ → Monomial → Bool
is_power x [] = true
is_power x (f ∷ []) = f.0 == x
is_power x (f ∷ g ∷ m) = false

-- there is no variable but x
abbrev pub is_in : ℕ → Terms → Bool
is_in x ts = list_all (λ t. is_power x t.1) ts

-- its coefficients from the lowest, where there is no variable but x
abbrev pub coefficients_of : Terms → Coefficients
coefficients_of [] = []
coefficients_of (t ∷ ts) = plus (shifted (degree t.1) (t.0 ∷ [])) (coefficients_of ts)

-- two lists of coefficients are the same polynomial modulo p
abbrev pub is_zero : ℕ → Coefficients → Bool
is_zero p a = list_all (λ c. c % p == 0) a

abbrev pub is_same : ℕ → Coefficients → Coefficients → Bool
is_same p [] b = is_zero p b
is_same p (x ∷ a) [] = is_zero p (x ∷ a)
is_same p (x ∷ a) (y ∷ b) = (x % p == y % p) && is_same p a b

abbrev pub are_below : ℕ → Coefficients → Bool
are_below p a = list_all (λ c. nat_lt c p) a

-- Chains: x^p modulo f by repeated squaring, for each binary digit of p after the first a square, and where the digit is
-- 1 a product with x

-- what the power so far is multiplied by
pub data Factor : Type 0 where
  Itself : Factor
  Variable : Factor

abbrev pub factors_over : List Bool → List Factor
factors_over [] = []
factors_over (false ∷ ds) = Itself ∷ factors_over ds
factors_over (true ∷ ds) = Itself ∷ Variable ∷ factors_over ds

abbrev pub times_factor : Factor → Coefficients → Coefficients
times_factor Itself r = times r r
times_factor Variable r = times indeterminate r

-- the power modulo f as a line: r - x
unfoldable pub fermat_line : ℕ → ℕ → Coefficients → Terms
fermat_line p x r = normal p (difference p (terms_in x r) (terms_in x indeterminate))

-- a chain over a line has so many steps; what it answers is the line f as coefficients
unfoldable pub chain_line : ℕ → List Terms → ℕ → ℕ → ℕ → Result Coefficients ℕ
chain_line p lines k x steps =
    if not (is_there lines k) then Err 12 else
    if not (is_in x (line_at lines k) && (steps == pair_count p)) then Err 6 else Ok (coefficients_of (line_at lines k))

-- a step: r times its factor is quotient times f and the remainder
unfoldable pub step_line : Limits → ℕ → Coefficients → Factor → Coefficients → Coefficients → Coefficients → Result Coefficients ℕ
step_line l p f factor r quotient remainder =
    if nat_lt l.coefficients (length quotient) then Err 11 else
    if nat_lt l.coefficients (length remainder) then Err 11 else
    if not (are_below p quotient && are_below p remainder) then Err 6 else
    if not (is_same p (times_factor factor r) (plus (times quotient f) remainder)) then Err 6 else Ok remainder

-- Cases

-- x - a as a line
unfoldable pub root_line : ℕ → ℕ → ℕ → Terms
root_line p x a = normal p (terms_in x ((p - a) ∷ 1 ∷ []))

-- the lines of each case
abbrev pub case_lines : ℕ → List Terms → ℕ → List ℕ → List (List Terms)
case_lines p lines x zeros = map (λ a. lines ++ root_line p x a ∷ []) zeros

-- the line is exactly the product of the x - a
abbrev pub is_root_product : ℕ → Terms → ℕ → List ℕ → Bool
is_root_product p line x zeros = is_in x line && is_same p (coefficients_of line) (product_of_roots p zeros)

-- cases by the roots of a line
unfoldable pub split_line : ℕ → List Terms → ℕ → ℕ → List ℕ → Result (List (List Terms)) ℕ
split_line p lines k x zeros =
    if not (is_there lines k) then Err 12 else
    if not (nat_lt 0 (length zeros) && are_below p zeros) then Err 7 else
    if not (is_root_product p (line_at lines k) x zeros) then Err 7 else Ok (case_lines p lines x zeros)

-- cases by all values of a variable
unfoldable pub values_line : ℕ → List Terms → ℕ → ℕ → Result (List (List Terms)) ℕ
values_line p lines x count =
    if nat_lt 17 p then Err 7 else
    if not (count == p) then Err 7 else Ok (case_lines p lines x (range_with_len 0 p))

-- The end of a case

-- a constant other than 0
abbrev pub is_nonzero_constant : ℕ → Terms → Bool
is_nonzero_constant p [] = false
is_nonzero_constant p ((c, []) ∷ []) = nat_lt 0 (c % p)
is_nonzero_constant p ((c, f ∷ m) ∷ []) = false
is_nonzero_constant p (t ∷ u ∷ ts) = false

-- the last line
abbrev pub last_line : List Terms → Terms
last_line [] = []
last_line (f ∷ []) = f
last_line (f ∷ g ∷ lines) = last_line (g ∷ lines)

unfoldable pub closes : ℕ → List Terms → Bool
closes p lines = is_nonzero_constant p (last_line lines)
