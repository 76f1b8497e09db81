-- The rule of bits: what a line shows as an equation over the integers.
--
-- Take each coefficient of a line c0 + c1*x1 + .. + cn*xn by its representative of least size, and let its variables be 0
-- or 1. Then the line is an integer, and a multiple of p where the line is 0; if it stays between -p and p, it is 0. So a
-- choice of 0 or 1 for some of the variables is impossible where what the others can add leaves the integer above 0, or
-- below 0, or no multiple of a number that divides all that they add. A polynomial in the chosen variables that is 0 at
-- each choice but impossible ones is 0 with the line. The binary value principle is of this kind (Alekseev, Grigoriev,
-- Hirsch and Tzameret, "Semi-algebraic proofs, IPS lower bounds and the tau-conjecture", 2020).
--
-- An integer is two natural numbers: how far it is above 0, and how far it is below 0.
use Rattle.std.specs.Prelude.{ℕ, zero, suc, ◌+◌, ◌-◌, ◌*◌, ◌^◌, ◌%◌, Bool, true, false, not, ◌&&◌, ◌||◌, ◌==◌, nat_lt, if◌then◌else◌, List, [], ◌∷◌, ◌++◌, length, map, sum_by, Result, Ok, Err}
use Rattle.std.specs.List.{filter, list_all, list_any}
use Rattle.ffc_ring.specs.Monomial.{Monomial, same_monomial}
use Rattle.ffc_ring.specs.Polynomial.{Terms, poly_value}
use Rattle.ffc_trees.specs.Normal.{normal, degree_of}
use Rattle.ffc_trees.specs.TreeLines.{Limits, line_at, is_there}

-- The variables of a line

abbrev pub is_listed : List ℕ → ℕ → Bool
is_listed xs x = list_any (λ y. x == y) xs

-- each variable of a monomial is one of these; so it is for the monomial 1
abbrev pub is_among : List ℕ → Monomial → Bool
is_among xs m = list_all (λ f. is_listed xs f.0) m

-- each monomial is 1 or a variable
abbrev pub is_linear_monomial : Monomial → Bool
is_linear_monomial [] = true
is_linear_monomial (f ∷ []) = f.1 == 1
is_linear_monomial (f ∷ g ∷ m) = false

abbrev pub is_linear : Terms → Bool
is_linear ts = list_all (λ t. is_linear_monomial t.1) ts

-- a number put into increasing ones
abbrev pub inserted : ℕ → List ℕ → List ℕ
inserted x [] = x ∷ []
inserted x (y ∷ ys) = if nat_lt x y then x ∷ y ∷ ys else y ∷ inserted x ys

-- the variables of a linear line, in increasing order
abbrev pub variables_of : Terms → List ℕ
variables_of [] = []
variables_of ((c, []) ∷ ts) = variables_of ts
variables_of ((c, f ∷ m) ∷ ts) = inserted f.0 (variables_of ts)

-- each of these is a variable of the line
abbrev pub are_variables : Terms → List ℕ → Bool
are_variables ts xs = list_all (is_listed (variables_of ts)) xs

-- Which variables are bits

-- x * x and x, in either order
abbrev pub are_square_and_root : ℕ → Monomial → Monomial → Bool
are_square_and_root x m n = (same_monomial m ((x, 2) ∷ []) && same_monomial n ((x, 1) ∷ [])) || (same_monomial m ((x, 1) ∷ []) && same_monomial n ((x, 2) ∷ []))

-- a constant other than 0 times x * x - x
abbrev pub is_bit : ℕ → ℕ → Terms → Bool
is_bit p x [] = false
is_bit p x (t ∷ []) = false
is_bit p x (t ∷ u ∷ []) = are_square_and_root x t.1 u.1 && nat_lt 0 (t.0 % p) && ((t.0 + u.0) % p == 0)
is_bit p x (t ∷ u ∷ v ∷ ts) = false

-- each variable is a bit by the line whose number is at its place
abbrev pub are_bits : ℕ → List Terms → List ℕ → List ℕ → Bool
are_bits p lines [] [] = true
are_bits p lines [] (k ∷ ks) = false
are_bits p lines (x ∷ xs) [] = false
are_bits p lines (x ∷ xs) (k ∷ ks) = is_bit p x (line_at lines k) && are_bits p lines xs ks

-- The integer that a line is

-- the representative of a coefficient with the least size: c where 2 * c is below p, else c - p
abbrev pub above : ℕ → ℕ → ℕ
above p c = if nat_lt (2 * (c % p)) p then c % p else 0

abbrev pub below : ℕ → ℕ → ℕ
below p c = if nat_lt (2 * (c % p)) p then 0 else p - c % p

abbrev pub size : ℕ → ℕ → ℕ
size p c = above p c + below p c

-- the sum of the representatives above 0, and of those below 0
abbrev pub sum_above : ℕ → Terms → ℕ
sum_above p ts = sum_by (λ t. above p t.0) ts

abbrev pub sum_below : ℕ → Terms → ℕ
sum_below p ts = sum_by (λ t. below p t.0) ts

-- the constant term and those of these variables; those of all others
abbrev pub terms_among : List ℕ → Terms → Terms
terms_among xs ts = filter (λ t. is_among xs t.1) ts

abbrev pub terms_besides : List ℕ → Terms → Terms
terms_besides xs ts = filter (λ t. not (is_among xs t.1)) ts

-- whatever bits the variables are, it is above -p and below p
abbrev pub is_between : ℕ → Terms → Bool
is_between p ts = nat_lt (sum_below p ts) (sum_above p (terms_among [] ts) + p) && nat_lt (sum_above p ts) (sum_below p (terms_among [] ts) + p)

-- What is impossible

-- the greatest common divisor by Euclid's algorithm: a remainder by b is below b, so b steps are enough
abbrev pub divisor_in : ℕ → ℕ → ℕ → ℕ
divisor_in zero a b = a
divisor_in (suc steps) a b = if b == 0 then a else divisor_in steps b (a % b)

unfoldable pub common_divisor : ℕ → ℕ → ℕ
common_divisor a b = divisor_in b a b

-- the greatest common divisor of the coefficients, and 0 where there are none
abbrev pub divisor_of : ℕ → Terms → ℕ
divisor_of p [] = 0
divisor_of p (t ∷ ts) = common_divisor (size p t.0) (divisor_of p ts)

-- how far one number is from another
abbrev pub distance : ℕ → ℕ → ℕ
distance a b = (a - b) + (b - a)

-- the terms that are taken and any of those that are left have no sum 0: it is above 0, or below 0, or no multiple of the
-- divisor of those left; 0 alone is a multiple of 0
abbrev pub is_impossible : ℕ → Terms → Terms → Bool
is_impossible p taken left = nat_lt (sum_below p taken + sum_below p left) (sum_above p taken) || nat_lt (sum_above p taken + sum_above p left) (sum_below p taken) || not (distance (sum_above p taken) (sum_below p taken) % divisor_of p left == 0)

-- all choices of 0 or 1 for these variables, each by those that are 1
abbrev pub choices_of : List ℕ → List (List ℕ)
choices_of [] = [] ∷ []
choices_of (x ∷ xs) = choices_of xs ++ map (λ ones. x ∷ ones) (choices_of xs)

-- the point where these variables are 1, and all others 0
abbrev pub point_of : List ℕ → ℕ → ℕ
point_of ones x = if is_listed ones x then 1 else 0

-- at a choice the polynomial is 0, or the choice is impossible
abbrev pub is_settled : ℕ → Terms → List ℕ → Terms → List ℕ → Bool
is_settled p line chosen written ones = (poly_value p (point_of ones) written == 0) || is_impossible p (terms_among ones line) (terms_besides chosen line)

-- The rule

-- the coefficients are written as residues, and the variables are these
abbrev pub is_written_in : ℕ → List ℕ → Terms → Bool
is_written_in p chosen written = list_all (λ t. nat_lt t.0 p && is_among chosen t.1) written

-- the variables of the line are bits by these lines
abbrev pub is_of_bits : ℕ → List Terms → Terms → List ℕ → Bool
is_of_bits p lines line bits = is_linear line && are_bits p lines (variables_of line) bits

-- the polynomial is 0 where the line is, with the variables gone through being variables of the line
abbrev pub follows : ℕ → Terms → List ℕ → Terms → Bool
follows p line chosen written = are_variables line chosen && is_between p line && list_all (is_settled p line chosen written) (choices_of chosen)

-- the choices are few; for each the terms of the line count, and by themselves those that are written, as products of a sum do
abbrev pub are_choices_within : Limits → Terms → List ℕ → Terms → Bool
are_choices_within l line chosen written = not (nat_lt l.choices (length chosen)) && not (nat_lt l.products (2 ^ length chosen * length line)) && not (nat_lt l.products (2 ^ length chosen * length written))

abbrev pub is_polynomial_within : Limits → ℕ → Terms → Bool
is_polynomial_within l p written = not (nat_lt l.degree (degree_of written)) && not (nat_lt l.terms (length (normal p written)))

-- a line of bits adds its polynomial; 13 is the rule's number
unfoldable pub bits_line : Limits → ℕ → List Terms → ℕ → List ℕ → Terms → List ℕ → Result Terms ℕ
bits_line l p lines line chosen written bits =
    if not (is_there lines line && list_all (is_there lines) bits) then Err 12 else
    if not (are_choices_within l (line_at lines line) chosen written) then Err 11 else
    if not (is_polynomial_within l p written) then Err 11 else
    if not (is_written_in p chosen written) then Err 13 else
    if not (is_of_bits p lines (line_at lines line) bits) then Err 13 else
    if not (follows p (line_at lines line) chosen written) then Err 13 else Ok (normal p written)
