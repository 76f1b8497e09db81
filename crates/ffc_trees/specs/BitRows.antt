-- Lines of bits that the rule is tried on, and what it says of them.
use Rattle.std.specs.Prelude.{◌≡◌, ℕ, ◌-◌, List, [], ◌∷◌, Result, Ok, Err}
use Rattle.std.specs.List.{range_with_len}
use Rattle.ffc_cert.specs.declared.entries.CertLine.TheVariants.{Bits, Close}
use Rattle.ffc_ring.specs.Polynomial.{Terms}
use Rattle.ffc_trees.specs.TreeLines.{Limits, limits}
use Rattle.ffc_trees.specs.BitLines.{bits_line}
use Rattle.ffc_trees.specs.Trees.{tree_read}
use Rattle.ffc_trees.specs.Rows.{goldilocks, Accepts, Breaks}

-- x * x - x
abbrev pub bit_line : ℕ → ℕ → Terms
bit_line p x = (1, (x, 2) ∷ []) ∷ (p - 1, (x, 1) ∷ []) ∷ []

-- two bits, and the line x + 2 * y - c
abbrev pub two_bits : ℕ → ℕ → List Terms
two_bits p c = bit_line p 0 ∷ bit_line p 1 ∷ ((1, (0, 1) ∷ []) ∷ (2, (1, 1) ∷ []) ∷ (p - c, []) ∷ []) ∷ []

-- a polynomial in these variables from that line
abbrev pub sum_read : ℕ → ℕ → List ℕ → Terms → Result Terms ℕ
sum_read p c chosen written = bits_line limits p (two_bits p c) 2 chosen written (0 ∷ 1 ∷ [])

abbrev pub one : Terms
one = (1, []) ∷ []

abbrev pub x : Terms
x = (1, (0, 1) ∷ []) ∷ []

abbrev pub y : Terms
y = (1, (1, 1) ∷ []) ∷ []

abbrev pub x_times_y : Terms
x_times_y = (1, (0, 1) ∷ (1, 1) ∷ []) ∷ []

-- a line a * x + b * y + c, of which it is said that it is never 0
abbrev pub never_read : ℕ → ℕ → ℕ → ℕ → Result Terms ℕ
never_read p a b c =
    let line : Terms = (a, (0, 1) ∷ []) ∷ (b, (1, 1) ∷ []) ∷ (c, []) ∷ [] in
    bits_line limits p (bit_line p 0 ∷ bit_line p 1 ∷ line ∷ []) 2 [] one (0 ∷ 1 ∷ [])

pub record AreChoices : Type 0 where
  -- x + 2 * y is at most 3
  pub never_five : sum_read goldilocks 5 [] one ≡ Ok one
  pub perhaps_three : sum_read goldilocks 3 [] one ≡ Err 13
  -- where it is 2, x is 0, since 2 does not divide 1 - 2, and y is 1, since x - 2 is below 0
  pub even : sum_read goldilocks 2 (0 ∷ []) x ≡ Ok x
  pub high : sum_read goldilocks 2 (1 ∷ []) ((18446744069414584320, []) ∷ y) ≡ Ok ((1, (1, 1) ∷ []) ∷ (18446744069414584320, []) ∷ [])
  -- where it is 1, y is 0, since x + 2 - 1 is above 0
  pub low : sum_read goldilocks 1 (1 ∷ []) y ≡ Ok y
  pub perhaps_one : sum_read goldilocks 1 (0 ∷ []) x ≡ Err 13
  -- with both chosen nothing is left, so the sum itself is above 0, below 0 or 0
  pub both : sum_read goldilocks 2 (0 ∷ 1 ∷ []) x_times_y ≡ Ok x_times_y
  pub both_possible : sum_read goldilocks 2 (0 ∷ 1 ∷ []) y ≡ Err 13
  -- where it is 3, nothing is said of y; y * y * y - y is 0 at both bits
  pub nothing : sum_read goldilocks 3 (1 ∷ []) ((1, (1, 3) ∷ []) ∷ (18446744069414584320, (1, 1) ∷ []) ∷ []) ≡ Ok ((18446744069414584320, (1, 1) ∷ []) ∷ (1, (1, 3) ∷ []) ∷ [])
  pub something : sum_read goldilocks 3 (1 ∷ []) ((1, (1, 3) ∷ []) ∷ []) ≡ Err 13
  -- 4 * x + 6 * y is even, and 3 * x + 6 * y a multiple of 3; the constant is no part of the divisor
  pub odd : never_read 101 4 6 96 ≡ Ok one
  pub perhaps_six : never_read 101 4 6 95 ≡ Err 13
  pub perhaps_four : never_read 101 4 6 97 ≡ Err 13
  pub no_multiple : never_read 17 3 6 13 ≡ Ok one
  -- x - y is at most 1 and at least -1
  pub never_two : never_read 17 1 16 15 ≡ Ok one
  pub never_less : never_read 17 1 16 2 ≡ Ok one
  -- a whole tree
  pub tree : Accepts (tree_read limits goldilocks (two_bits goldilocks 5) (Bits 2 [] one (0 ∷ 1 ∷ []) ∷ Close ∷ [])) []
  pub tree_broken : Breaks (tree_read limits goldilocks (two_bits goldilocks 3) (Bits 2 [] one (0 ∷ 1 ∷ []) ∷ Close ∷ [])) 0 13

-- Each part of the rule, in the field of 5 elements

-- another line with its bits, and no variables chosen
abbrev pub line_read : Terms → List ℕ → Result Terms ℕ
line_read line numbers = bits_line limits 5 (bit_line 5 0 ∷ bit_line 5 1 ∷ line ∷ []) 2 [] [] numbers

-- another line for the bit y
abbrev pub bit_read : Terms → Result Terms ℕ
bit_read bit = bits_line limits 5 (bit_line 5 0 ∷ bit ∷ ((1, (0, 1) ∷ []) ∷ (2, (1, 1) ∷ []) ∷ []) ∷ []) 2 [] [] (0 ∷ 1 ∷ [])

-- three bits with the same coefficient, and a constant
abbrev pub three_read : ℕ → ℕ → Result Terms ℕ
three_read c constant =
    let line : Terms = (c, (0, 1) ∷ []) ∷ (c, (1, 1) ∷ []) ∷ (c, (2, 1) ∷ []) ∷ (constant, []) ∷ [] in
    bits_line limits 5 (bit_line 5 0 ∷ bit_line 5 1 ∷ bit_line 5 2 ∷ line ∷ []) 3 [] [] (0 ∷ 1 ∷ 2 ∷ [])

pub record AreParts : Type 0 where
  -- coefficients are residues, and the variables are those that are chosen
  pub residue : sum_read 5 4 [] ((4, []) ∷ (1, []) ∷ []) ≡ Ok []
  pub no_residue : sum_read 5 4 [] ((5, []) ∷ []) ≡ Err 13
  pub other_variable : sum_read 5 4 (0 ∷ []) ((0, (1, 1) ∷ []) ∷ []) ≡ Err 13
  pub not_in_line : sum_read 5 4 (2 ∷ []) [] ≡ Err 13
  -- the line is linear, and each of its variables is a bit by the line at its place
  pub linear : line_read ((1, (0, 1) ∷ []) ∷ (1, (1, 1) ∷ []) ∷ []) (0 ∷ 1 ∷ []) ≡ Ok []
  pub turned_line : line_read ((1, (1, 1) ∷ []) ∷ (1, (0, 1) ∷ []) ∷ []) (0 ∷ 1 ∷ []) ≡ Ok []
  pub constant_line : line_read ((1, []) ∷ []) [] ≡ Ok []
  pub product_line : line_read ((1, (0, 1) ∷ (1, 1) ∷ []) ∷ []) (0 ∷ []) ≡ Err 13
  pub square_line : line_read ((1, (0, 2) ∷ []) ∷ []) (0 ∷ []) ≡ Err 13
  pub turned : line_read ((1, (0, 1) ∷ []) ∷ (1, (1, 1) ∷ []) ∷ []) (1 ∷ 0 ∷ []) ≡ Err 13
  pub one_missing : line_read ((1, (0, 1) ∷ []) ∷ (1, (1, 1) ∷ []) ∷ []) (0 ∷ []) ≡ Err 13
  pub one_more : line_read ((1, (0, 1) ∷ []) ∷ []) (0 ∷ 1 ∷ []) ≡ Err 13
  -- a constant other than 0 times y * y - y, its terms in either order
  pub twice : bit_read ((3, (1, 1) ∷ []) ∷ (2, (1, 2) ∷ []) ∷ []) ≡ Ok []
  pub other_sign : bit_read ((1, (1, 2) ∷ []) ∷ (1, (1, 1) ∷ []) ∷ []) ≡ Err 13
  pub cube : bit_read ((1, (1, 3) ∷ []) ∷ (4, (1, 1) ∷ []) ∷ []) ≡ Err 13
  pub with_constant : bit_read ((1, (1, 2) ∷ []) ∷ (4, (1, 1) ∷ []) ∷ (1, []) ∷ []) ≡ Err 13
  pub no_square : bit_read y ≡ Err 13
  pub zero_line : bit_read [] ≡ Err 13
  -- x + 2 * y + 1 reaches 4, and x + 2 * y + 2 reaches 5
  pub below : line_read ((1, (0, 1) ∷ []) ∷ (2, (1, 1) ∷ []) ∷ (1, []) ∷ []) (0 ∷ 1 ∷ []) ≡ Ok []
  pub reaches : line_read ((1, (0, 1) ∷ []) ∷ (2, (1, 1) ∷ []) ∷ (2, []) ∷ []) (0 ∷ 1 ∷ []) ≡ Err 13
  -- the same below 0
  pub above : line_read ((4, (0, 1) ∷ []) ∷ (3, (1, 1) ∷ []) ∷ (4, []) ∷ []) (0 ∷ 1 ∷ []) ≡ Ok []
  pub reaches_down : line_read ((4, (0, 1) ∷ []) ∷ (3, (1, 1) ∷ []) ∷ (3, []) ∷ []) (0 ∷ 1 ∷ []) ≡ Err 13
  -- 2 * x + 2 * y + 2 * z + 1 reaches 7, and with the constant -2 it stays from -2 to 4; the same below 0
  pub too_wide : three_read 2 1 ≡ Err 13
  pub less : three_read 2 3 ≡ Ok []
  pub too_wide_down : three_read 3 4 ≡ Err 13
  pub more : three_read 3 2 ≡ Ok []
  -- 2 * x - 2 * y - 1 stays from -3 to 1
  pub across : line_read ((2, (0, 1) ∷ []) ∷ (3, (1, 1) ∷ []) ∷ (4, []) ∷ []) (0 ∷ 1 ∷ []) ≡ Ok []

-- Lines that are not there, and each limit at its last good value and one below

abbrev pub limits_with : ℕ → ℕ → ℕ → ℕ → Limits
limits_with products degree terms choices = record { products = products; degree = degree; terms = terms; coefficients = 0; choices = choices }

-- one variable is chosen, so the three terms of the line count twice; so do two terms that are written
abbrev pub limited_read : Limits → Result Terms ℕ
limited_read l = bits_line l 5 (two_bits 5 4) 2 (0 ∷ []) ((1, (0, 3) ∷ []) ∷ (4, (0, 1) ∷ []) ∷ []) (0 ∷ 1 ∷ [])

-- the same with four terms that are written, two of them 0
abbrev pub long_read : Limits → Result Terms ℕ
long_read l = bits_line l 5 (two_bits 5 4) 2 (0 ∷ []) ((1, (0, 3) ∷ []) ∷ (4, (0, 1) ∷ []) ∷ (0, []) ∷ (0, []) ∷ []) (0 ∷ 1 ∷ [])

abbrev pub cube_less_x : Terms
cube_less_x = (4, (0, 1) ∷ []) ∷ (1, (0, 3) ∷ []) ∷ []

-- both variables are chosen, so the three terms of the line count four times
abbrev pub twice_chosen_read : Limits → Result Terms ℕ
twice_chosen_read l = bits_line l 5 (two_bits 5 4) 2 (0 ∷ 1 ∷ []) x (0 ∷ 1 ∷ [])

pub record AreLimited : Type 0 where
  -- rule 12 comes before 11, and 11 before 13
  pub no_line : bits_line limits 5 (two_bits 5 4) 3 (range_with_len 0 13) [] (0 ∷ 1 ∷ []) ≡ Err 12
  pub no_bit : bits_line limits 5 (two_bits 5 4) 2 (range_with_len 0 13) [] (0 ∷ 3 ∷ []) ≡ Err 12
  pub many_choices : bits_line limits 5 (two_bits 5 4) 2 (range_with_len 0 13) [] [] ≡ Err 11
  pub twelve_choices : bits_line limits 5 (two_bits 5 4) 2 (range_with_len 0 12) [] [] ≡ Err 13
  pub too_high : bits_line limits 5 (two_bits 5 4) 2 [] ((7, (0, 1025) ∷ []) ∷ []) [] ≡ Err 11
  pub high : bits_line limits 5 (two_bits 5 4) 2 [] ((7, (0, 1024) ∷ []) ∷ []) [] ≡ Err 13
  -- a written term counts where its coefficient is 0
  pub zero_too_high : bits_line limits 5 (two_bits 5 4) 2 [] ((0, (0, 1025) ∷ []) ∷ []) [] ≡ Err 11
  pub within : limited_read (limits_with 6 3 2 1) ≡ Ok cube_less_x
  pub products : limited_read (limits_with 5 3 2 1) ≡ Err 11
  pub degree : limited_read (limits_with 6 2 2 1) ≡ Err 11
  pub terms : limited_read (limits_with 6 3 1 1) ≡ Err 11
  pub choices : limited_read (limits_with 6 3 2 0) ≡ Err 11
  pub long : long_read (limits_with 8 3 2 1) ≡ Ok cube_less_x
  pub too_long : long_read (limits_with 7 3 2 1) ≡ Err 11
  pub twice_chosen : twice_chosen_read (limits_with 12 3 2 2) ≡ Ok x
  pub too_often : twice_chosen_read (limits_with 11 3 2 2) ≡ Err 11
