-- The identity of a step of a chain, and how many coefficients its parts have.
use Rattle.std.specs.Prelude.{ℕ, zero, suc, ◌+◌, Bool, ◌&&◌, ◌||◌, nat_lt}
use Rattle.ffc_uni.specs.Univariate.{Coefficients, plus, times}
use Rattle.ffc_trees.specs.TreeLines.{Factor, Itself, Variable, times_factor, is_same}

-- the power times its factor is quotient times f and the rest
abbrev pub is_identity : ℕ → Coefficients → Factor → Coefficients → Coefficients → Coefficients → Bool
is_identity p f factor r quotient rest = is_same p (times_factor factor r) (plus (times quotient f) rest)

-- the length of a product of two lists, of which neither ends with a 0
abbrev pub product_length : ℕ → ℕ → ℕ
product_length zero n = 0
product_length (suc m) zero = 0
product_length (suc m) (suc n) = m + n + 1

abbrev pub multiplied_length : Factor → ℕ → ℕ
multiplied_length Itself n = product_length n n
multiplied_length Variable n = product_length 2 n

-- one of three numbers is greater than both others
abbrev pub is_one_longer : ℕ → ℕ → ℕ → Bool
is_one_longer a b c = (nat_lt b a && nat_lt c a) || (nat_lt a b && nat_lt c b) || (nat_lt a c && nat_lt b c)
