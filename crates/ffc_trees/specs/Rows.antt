-- Trees and tables that the definitions are tried on, and what these say of them.
use Rattle.std.specs.Prelude.{◌≡◌, ℕ, zero, suc, true, false, List, [], ◌∷◌, ◌++◌, Result, Ok, Err}
use Rattle.ffc_cert.specs.declared.entries.CertLine.{CertLine}
use Rattle.ffc_cert.specs.declared.entries.CertLine.TheVariants.{Assume, Combine, Chain, Step, Split, Values, Close}
use Rattle.ffc_ring.specs.Polynomial.{Terms}
use Rattle.ffc_term.specs.declared.node.Node.{Node}
use Rattle.ffc_term.specs.declared.node.Node.TheVariants.{FieldConst, Num, IteField, BoolConst, Eq, Add, Mul, Neg, Bitsum}
use Rattle.ffc_trees.specs.NodePolynomials.{poly_at}
use Rattle.ffc_trees.specs.TreeLines.{Limits, limits}
use Rattle.ffc_trees.specs.Trees.{Broken, tree_read}
use Rattle.ffc_trees.specs.FirstLines.{Literal, first_lines}

-- a tree is read, and these lines follow it
abbrev pub Accepts : Result (List CertLine) Broken → List CertLine → Type 0
Accepts read rest = read ≡ Ok rest

-- the line of this number, from 0, breaks this rule
abbrev pub Breaks : Result (List CertLine) Broken → ℕ → ℕ → Type 0
Breaks read offset rule = read ≡ Err (record { offset = offset; rule = rule })

-- a tree of a lemma over nodes
abbrev pub lemma_read : List Node → ℕ → List Literal → List CertLine → Result (List CertLine) Broken
lemma_read nodes p lits tree = tree_read limits p (first_lines nodes p lits) tree

-- x * y = 1 and x = 0, with the order of Goldilocks
abbrev pub goldilocks : ℕ
goldilocks = 18446744069414584321

abbrev pub product_nodes : List Node
product_nodes = FieldConst 0 goldilocks ∷ FieldConst 1 goldilocks ∷ Mul (0 ∷ 1 ∷ []) ∷ Num 1 goldilocks ∷ Eq 2 3 ∷ Num 0 goldilocks ∷ Eq 0 5 ∷ []

-- c * (x * y - 1) + y * x, and the end
abbrev pub product_tree : ℕ → List CertLine
product_tree c = Combine ((0, (c, []) ∷ []) ∷ (1, (1, (1, 1) ∷ []) ∷ []) ∷ []) ∷ Close ∷ []

-- x * x = 3 in the field of 5 elements, where 3 is no square
abbrev pub square_nodes : List Node
square_nodes = FieldConst 0 5 ∷ Mul (0 ∷ 0 ∷ []) ∷ Num 3 5 ∷ Eq 1 2 ∷ []

abbrev pub chain_tree : List ℕ → List CertLine
chain_tree last =
    Chain 0 0 3 ∷ Step (1 ∷ []) (3 ∷ []) ∷ Step [] (4 ∷ []) ∷ Step [] last ∷ Combine ((0, (1, []) ∷ []) ∷ (1, (3, (0, 1) ∷ []) ∷ []) ∷ []) ∷ Close ∷ []

-- x = 0 and x = 1
abbrev pub two_values_nodes : List Node
two_values_nodes = FieldConst 0 5 ∷ Num 0 5 ∷ Eq 0 1 ∷ Num 1 5 ∷ Eq 0 3 ∷ []

abbrev pub two_values : List Literal
two_values = (false, 2) ∷ (false, 4) ∷ []

abbrev pub three_splits : List CertLine
three_splits = Split 0 0 (0 ∷ []) ∷ Split 0 0 (0 ∷ []) ∷ Split 0 0 (0 ∷ []) ∷ []

-- the first line and 4 times the second: x - (x - 1)
abbrev pub difference_line : CertLine
difference_line = Combine ((0, (1, []) ∷ []) ∷ (1, (4, []) ∷ []) ∷ [])

-- Worked trees

pub record AreWorked : Type 0 where
  pub product : Accepts (lemma_read product_nodes goldilocks ((false, 4) ∷ (false, 6) ∷ []) (product_tree 18446744069414584320)) []
  pub product_less : Breaks (lemma_read product_nodes goldilocks ((false, 4) ∷ (false, 6) ∷ []) (product_tree 18446744069414584319)) 1 8
  pub product_past : Breaks (lemma_read product_nodes goldilocks ((false, 4) ∷ (false, 6) ∷ []) (product_tree goldilocks)) 0 5
  pub chain : Accepts (lemma_read square_nodes 5 ((false, 3) ∷ []) (chain_tree (0 ∷ 4 ∷ []))) []
  pub chain_changed : Breaks (lemma_read square_nodes 5 ((false, 3) ∷ []) (chain_tree (0 ∷ 3 ∷ []))) 3 6
  pub splits : Accepts (lemma_read two_values_nodes 5 two_values (three_splits ++ difference_line ∷ Close ∷ Close ∷ [])) (Close ∷ [])
  pub splits_without_line : Breaks (lemma_read two_values_nodes 5 two_values (three_splits ++ Close ∷ [])) 3 8

-- Polynomials of nodes, and first lines

abbrev pub some_nodes : List Node
some_nodes = FieldConst 0 5 ∷ FieldConst 1 5 ∷ Bitsum (0 ∷ 1 ∷ 0 ∷ []) ∷ Neg 2 ∷ BoolConst 2 ∷ IteField 4 0 1 ∷ Eq 5 0 ∷ Eq 5 1 ∷ Mul (5 ∷ 3 ∷ []) ∷ Num 4 5 ∷ Add (8 ∷ 9 ∷ 9 ∷ []) ∷ []

pub record ArePolynomials : Type 0 where
  -- x + 2 * y + 4 * x, where 5 * x is 0
  pub bits : poly_at some_nodes 2 ≡ (2, (1, 1) ∷ []) ∷ []
  pub negated : poly_at some_nodes 3 ≡ (3, (1, 1) ∷ []) ∷ []
  pub chosen : poly_at some_nodes 5 ≡ (1, (5, 1) ∷ []) ∷ []
  pub boolean : poly_at some_nodes 6 ≡ []
  pub product : poly_at some_nodes 8 ≡ (3, (1, 1) ∷ (5, 1) ∷ []) ∷ []
  pub sum : poly_at some_nodes 10 ≡ (3, []) ∷ (3, (1, 1) ∷ (5, 1) ∷ []) ∷ []
  pub past : poly_at some_nodes 11 ≡ []
  -- x^2 - 3, and (x^2 - 3) * w - 1 with the second variable after the 4 nodes
  pub first : first_lines square_nodes 5 ((false, 3) ∷ (true, 3) ∷ []) ≡ ((2, []) ∷ (1, (0, 2) ∷ []) ∷ []) ∷ ((4, []) ∷ (2, (5, 1) ∷ []) ∷ (1, (0, 2) ∷ (5, 1) ∷ []) ∷ []) ∷ []

-- Each rule, in the field of 5 elements, from x - 1 and x * y + 2

abbrev pub known : List Terms
known = ((1, (0, 1) ∷ []) ∷ (4, []) ∷ []) ∷ ((1, (0, 1) ∷ (1, 1) ∷ []) ∷ (2, []) ∷ []) ∷ []

abbrev pub known_read : Limits → List CertLine → Result (List CertLine) Broken
known_read l tree = tree_read l 5 known tree

-- one multiple of the first line, and the end
abbrev pub one_sum : Terms → List CertLine
one_sum written = Combine ((0, written) ∷ []) ∷ Close ∷ []

-- a constant c as the only line
abbrev pub constant_read : ℕ → List CertLine → Result (List CertLine) Broken
constant_read p tree = tree_read limits p (((1, []) ∷ []) ∷ []) tree

-- a tree for each of so many cases, each with a copy of the first line
abbrev pub copies : ℕ → List CertLine
copies zero = []
copies (suc n) = Combine ((0, (1, []) ∷ []) ∷ []) ∷ Close ∷ copies n

pub record AreRules : Type 0 where
  -- rule 12 comes before 11, and 11 before 5
  pub missing_line : Breaks (known_read limits (Combine ((0, (7, (0, 1025) ∷ []) ∷ []) ∷ (2, []) ∷ []) ∷ Close ∷ [])) 0 12
  pub too_high : Breaks (known_read limits (one_sum ((7, (0, 1025) ∷ []) ∷ []))) 0 11
  pub no_residue : Breaks (known_read limits (one_sum ((5, []) ∷ []))) 0 5
  pub residue : Breaks (known_read limits (one_sum ((4, []) ∷ []))) 1 8
  -- chains
  pub chain_of_no_line : Breaks (known_read limits (Chain 2 0 1 ∷ Step [] [] ∷ Close ∷ [])) 0 12
  pub chain_in_two : Breaks (known_read limits (Chain 1 0 3 ∷ Step [] [] ∷ Step [] [] ∷ Step [] [] ∷ Close ∷ [])) 0 6
  pub chain_in_other : Breaks (known_read limits (Chain 0 1 3 ∷ Step [] [] ∷ Step [] [] ∷ Step [] [] ∷ Close ∷ [])) 0 6
  pub chain_too_short : Breaks (known_read limits (Chain 0 0 2 ∷ Step [] [] ∷ Step [] [] ∷ Close ∷ [])) 0 6
  -- x * x = (x + 1) * (x - 1) + 1, 1 * 1 = 1 and x * 1 = 1 * (x - 1) + 1, with zeros written past the highest coefficient
  pub chain : Breaks (known_read limits (Chain 0 0 3 ∷ Step (1 ∷ 1 ∷ 0 ∷ []) (1 ∷ 0 ∷ []) ∷ Step [] (1 ∷ []) ∷ Step (1 ∷ []) (1 ∷ []) ∷ Close ∷ [])) 4 8
  pub step_past_residue : Breaks (known_read limits (Chain 0 0 3 ∷ Step (6 ∷ 1 ∷ []) (1 ∷ []) ∷ Step [] (1 ∷ []) ∷ Step (1 ∷ []) (1 ∷ []) ∷ Close ∷ [])) 1 6
  -- cases
  pub split_of_no_line : Breaks (known_read limits (Split 2 0 [] ∷ [])) 0 12
  pub no_cases : Breaks (known_read limits (Split 0 0 [] ∷ [])) 0 7
  pub root_past_residue : Breaks (known_read limits (Split 0 0 (6 ∷ []) ∷ Close ∷ [])) 0 7
  pub other_root : Breaks (known_read limits (Split 0 0 (2 ∷ []) ∷ Close ∷ [])) 0 7
  pub other_variable : Breaks (known_read limits (Split 0 1 (1 ∷ []) ∷ Close ∷ [])) 0 7
  pub root_left_out : Breaks (tree_read limits 5 (((1, (0, 2) ∷ []) ∷ (4, []) ∷ []) ∷ []) (Split 0 0 (1 ∷ []) ∷ Close ∷ [])) 0 7
  pub not_monic : Breaks (tree_read limits 5 (((2, (0, 1) ∷ []) ∷ (3, []) ∷ []) ∷ []) (Split 0 0 (1 ∷ []) ∷ Close ∷ [])) 0 7
  -- x^2 - 1 with the roots 1 and 4: the second case is x - 4
  pub second_case : Breaks (tree_read limits 5 (((1, (0, 2) ∷ []) ∷ (4, []) ∷ []) ∷ ((1, []) ∷ []) ∷ []) (Split 0 0 (1 ∷ 4 ∷ []) ∷ Combine ((1, (1, []) ∷ []) ∷ []) ∷ Close ∷ Close ∷ [])) 3 8
  -- values
  pub all_values : Accepts (constant_read 17 (Values 0 17 ∷ copies 17)) []
  pub other_count : Breaks (constant_read 5 (Values 0 4 ∷ copies 4)) 0 7
  pub many_values : Breaks (constant_read 18 (Values 0 18 ∷ copies 18)) 0 7
  -- the end
  pub constant : Accepts (constant_read 5 (Close ∷ Assume 0 ∷ [])) (Assume 0 ∷ [])
  pub zero_line : Breaks (constant_read 5 (Combine [] ∷ Close ∷ [])) 1 8
  pub no_constant : Breaks (known_read limits (Close ∷ [])) 0 8
  pub no_line : Breaks (tree_read limits 5 [] (Close ∷ [])) 0 8
  -- lines that have no place, or are not there
  pub no_end : Breaks (constant_read 5 (Combine [] ∷ [])) 1 8
  pub clause : Breaks (constant_read 5 (Assume 0 ∷ Close ∷ [])) 0 8
  pub step_alone : Breaks (constant_read 5 (Step [] [] ∷ Close ∷ [])) 0 8
  pub chain_cut : Breaks (known_read limits (Chain 0 0 3 ∷ Close ∷ [])) 1 8

-- Each limit at its last good value, and one below

abbrev pub limits_of : ℕ → ℕ → ℕ → ℕ → Limits
limits_of products degree terms coefficients = record { products = products; degree = degree; terms = terms; coefficients = coefficients; choices = 12 }

-- (x + y) * (x - 1) has 4 products, the degree 2 and 4 terms
abbrev pub four_products : List CertLine
four_products = one_sum ((1, (0, 1) ∷ []) ∷ (1, (1, 1) ∷ []) ∷ [])

-- (x^3 + 4 * x^3) * (x - 1) is 0, of written degree 3
abbrev pub written_cube : List CertLine
written_cube = one_sum ((1, (0, 3) ∷ []) ∷ (4, (0, 3) ∷ []) ∷ [])

-- (x + 1) * (x - 1) is x^2 - 1: two terms, though three monomials are written
abbrev pub two_terms : List CertLine
two_terms = one_sum ((1, (0, 1) ∷ []) ∷ (1, []) ∷ [])

-- x * x = (x + 1) * (x - 1) + 1 modulo x - 1: two coefficients in the quotient
abbrev pub long_quotient : List CertLine
long_quotient = Chain 0 0 3 ∷ Step (1 ∷ 1 ∷ []) (1 ∷ []) ∷ Close ∷ []

-- x * x = x^2 modulo x^3 - 1: three coefficients in the remainder
abbrev pub cube_read : Limits → Result (List CertLine) Broken
cube_read l = tree_read l 5 (((1, (0, 3) ∷ []) ∷ (4, []) ∷ []) ∷ []) (Chain 0 0 3 ∷ Step [] (0 ∷ 0 ∷ 1 ∷ []) ∷ Close ∷ [])

pub record AreLimits : Type 0 where
  pub real : limits ≡ limits_of 4194304 1024 131072 1025
  pub products : Breaks (known_read (limits_of 4 2 4 9) four_products) 1 8
  pub products_passed : Breaks (known_read (limits_of 3 2 4 9) four_products) 0 11
  -- terms count as they are written, also where a coefficient is 0
  pub zero_counts : Breaks (known_read (limits_of 1 2 4 9) (one_sum ((0, []) ∷ []))) 0 11
  pub degree : Breaks (known_read (limits_of 4 2 4 9) four_products) 1 8
  pub degree_passed : Breaks (known_read (limits_of 4 1 4 9) four_products) 0 11
  pub terms_passed : Breaks (known_read (limits_of 4 2 3 9) four_products) 0 11
  pub written : Breaks (known_read (limits_of 4 3 0 9) written_cube) 1 8
  pub written_passed : Breaks (known_read (limits_of 4 2 0 9) written_cube) 0 11
  pub terms : Breaks (known_read (limits_of 4 2 2 9) two_terms) 1 8
  pub two_terms_passed : Breaks (known_read (limits_of 4 2 1 9) two_terms) 0 11
  pub quotient : Breaks (known_read (limits_of 4 2 2 2) long_quotient) 2 8
  pub quotient_passed : Breaks (known_read (limits_of 4 2 2 1) long_quotient) 1 11
  -- a step that is too long is judged so before its coefficients are looked at
  pub too_long_first : Breaks (known_read (limits_of 4 2 2 1) (Chain 0 0 3 ∷ Step (6 ∷ 1 ∷ []) (1 ∷ []) ∷ Close ∷ [])) 1 11
  pub remainder : Breaks (cube_read (limits_of 4 2 2 3)) 2 8
  pub remainder_passed : Breaks (cube_read (limits_of 4 2 2 2)) 1 11
