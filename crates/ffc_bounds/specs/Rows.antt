-- Checks that the definitions are tried on, and what these say of them.
use Rattle.std.specs.Prelude.{◌≡◌, ℕ, true, false, [], ◌∷◌, replicate, ◌+◌, length}
use Rattle.ffc_term.specs.declared.node.Node.TheVariants as node
use Rattle.ffc_rules.specs.Entries.{NodeCheck, limits}
use Rattle.ffc_rules.specs.Cones.{cone}
use Rattle.ffc_bounds.specs.Combinations.{literals_of, degrees_of, variables_of, row_count, combination_units}
use Rattle.ffc_bounds.specs.Conjunctions.{asserted, equations, disequations}
use Rattle.ffc_bounds.specs.Forced.{IsRefutedByForcing}
use Rattle.ffc_bounds.specs.Linear.{is_linear_within}
use Rattle.ffc_bounds.specs.Monomials.{columns}
use Rattle.ffc_clause.specs.Clauses.{plus, minus}

-- x * x = a number, over an order
abbrev pub square_check : ℕ → ℕ → NodeCheck
square_check number order = record {
  nodes = node.FieldConst 0 order ∷ node.Mul (0 ∷ 0 ∷ []) ∷ node.Num number order ∷ node.Eq 1 2 ∷ [];
  declared = 0 ∷ [];
  in_force = 3 ∷ [];
  first_order = order;
}

-- x = a number, over an order
abbrev pub value_check : ℕ → ℕ → NodeCheck
value_check number order = record {
  nodes = node.FieldConst 0 order ∷ node.Num number order ∷ node.Eq 0 1 ∷ [];
  declared = 0 ∷ [];
  in_force = 2 ∷ [];
  first_order = order;
}

-- x /= y, over an order
abbrev pub unequal_check : ℕ → NodeCheck
unequal_check order = record {
  nodes = node.FieldConst 0 order ∷ node.FieldConst 1 order ∷ node.Eq 0 1 ∷ node.Not 2 ∷ [];
  declared = 0 ∷ 1 ∷ [];
  in_force = 3 ∷ [];
  first_order = order;
}

-- x = 0 and x /= 1 and the two again, over an order
abbrev pub nested_check : ℕ → NodeCheck
nested_check order = record {
  nodes = node.FieldConst 0 order ∷ node.Num 0 order ∷ node.Eq 0 1 ∷ node.Num 1 order ∷ node.Eq 0 3 ∷ node.Not 4 ∷ node.And (2 ∷ 5 ∷ []) ∷ node.And (6 ∷ 5 ∷ []) ∷ node.Or (2 ∷ 4 ∷ []) ∷ [];
  declared = 0 ∷ [];
  in_force = 7 ∷ 2 ∷ [];
  first_order = order;
}

-- x /= 0 and x /= 1, over an order
abbrev pub two_unequal_check : ℕ → NodeCheck
two_unequal_check order = record {
  nodes = node.FieldConst 0 order ∷ node.Num 0 order ∷ node.Eq 0 1 ∷ node.Not 2 ∷ node.Num 1 order ∷ node.Eq 0 4 ∷ node.Not 5 ∷ [];
  declared = 0 ∷ [];
  in_force = 3 ∷ 6 ∷ [];
  first_order = order;
}

-- an equality of one order beside one of another
abbrev pub two_fields_check : NodeCheck
two_fields_check = record {
  nodes = node.FieldConst 0 5 ∷ node.Eq 0 0 ∷ node.FieldConst 1 3 ∷ node.Eq 2 2 ∷ [];
  declared = 0 ∷ 2 ∷ [];
  in_force = 1 ∷ 3 ∷ [];
  first_order = 5;
}

-- an `ite` of field sort that is one of its branches
abbrev pub ite_check : NodeCheck
ite_check = record {
  nodes = node.BoolConst 0 ∷ node.FieldConst 1 5 ∷ node.FieldConst 2 5 ∷ node.IteField 0 1 2 ∷ node.Eq 3 1 ∷ node.Eq 3 2 ∷ [];
  declared = 0 ∷ 1 ∷ 2 ∷ [];
  in_force = 4 ∷ [];
  first_order = 5;
}

-- x + y = 1, x = y and x /= 0, over an order
abbrev pub three_check : ℕ → NodeCheck
three_check order = record {
  nodes = node.FieldConst 0 order ∷ node.FieldConst 1 order ∷ node.Add (0 ∷ 1 ∷ []) ∷ node.Num 1 order ∷ node.Eq 2 3 ∷ node.Eq 0 1 ∷ node.Num 0 order ∷ node.Eq 0 6 ∷ node.Not 7 ∷ node.And (5 ∷ 8 ∷ 4 ∷ []) ∷ [];
  declared = 0 ∷ 1 ∷ [];
  in_force = 9 ∷ [];
  first_order = order;
}

-- x = 0 and its negation
abbrev pub clashing_check : NodeCheck
clashing_check = record {
  nodes = node.FieldConst 0 5 ∷ node.Num 0 5 ∷ node.Eq 0 1 ∷ node.Not 2 ∷ node.Not 3 ∷ [];
  declared = 0 ∷ [];
  in_force = 2 ∷ 3 ∷ [];
  first_order = 5;
}

-- b, not b and false
abbrev pub boolean_check : NodeCheck
boolean_check = record { nodes = node.BoolConst 0 ∷ node.Not 0 ∷ node.False ∷ []; declared = 0 ∷ []; in_force = 0 ∷ []; first_order = 2 }

abbrev pub true_check : NodeCheck
true_check = record { nodes = node.True ∷ []; declared = []; in_force = 0 ∷ []; first_order = 2 }

pub record AreLinear : Type 0 where
  -- one equation in one constant: a reduction and a trial
  pub equation : is_linear_within limits (value_check 3 5) 2 ≡ true
  pub equation_spent : is_linear_within limits (value_check 3 5) 1 ≡ false
  -- one disequation in two constants: a reduction by each, and two trials for each
  pub disequation : is_linear_within limits (unequal_check 5) 6 ≡ true
  pub disequation_spent : is_linear_within limits (unequal_check 5) 5 ≡ false
  -- parts of an `and` count once, however often they are asserted
  pub parts : asserted (nested_check 5).nodes (7 ∷ 2 ∷ []) ≡ 2 ∷ 5 ∷ 6 ∷ 7 ∷ []
  pub equal : equations (nested_check 5).nodes (7 ∷ 2 ∷ []) ≡ 2 ∷ []
  pub unequal : disequations (nested_check 5).nodes (7 ∷ 2 ∷ []) ≡ 4 ∷ []
  pub nested : is_linear_within limits (nested_check 5) 4 ≡ true
  pub nested_spent : is_linear_within limits (nested_check 5) 3 ≡ false
  pub or : is_linear_within limits (record (nested_check 5) { in_force = 8 ∷ [] }) 100 ≡ false
  -- two disequations exclude two values
  pub few_values : is_linear_within limits (two_unequal_check 2) 100 ≡ false
  pub three_values : is_linear_within limits (two_unequal_check 3) 5 ≡ true
  -- two equations and a disequation in two constants, in increasing order of their nodes
  pub three_equal : equations (three_check 17).nodes (9 ∷ []) ≡ 4 ∷ 5 ∷ []
  pub three : is_linear_within limits (three_check 17) 10 ≡ true
  pub three_spent : is_linear_within limits (three_check 17) 9 ≡ false
  -- an equality that is asserted and negated counts as both
  pub clashing : is_linear_within limits clashing_check 4 ≡ true
  pub clashing_spent : is_linear_within limits clashing_check 3 ≡ false
  -- a negation of another node than an equality, a Boolean constant and false are no equations
  pub twice_negated : is_linear_within limits (record clashing_check { in_force = 4 ∷ [] }) 100 ≡ false
  pub boolean : is_linear_within limits boolean_check 100 ≡ false
  pub not_boolean : is_linear_within limits (record boolean_check { in_force = 1 ∷ [] }) 100 ≡ false
  pub false_node : is_linear_within limits (record boolean_check { in_force = 2 ∷ [] }) 100 ≡ false
  pub square : is_linear_within limits (square_check 3 17) 100 ≡ false
  pub long : is_linear_within (record limits { length = 0 }) (value_check 3 5) 100 ≡ false
  pub short : is_linear_within (record limits { length = 1 }) (value_check 3 5) 2 ≡ true
  pub two_fields : is_linear_within limits two_fields_check 100 ≡ false
  pub ite : is_linear_within limits ite_check 100 ≡ false
  -- nothing to decide takes no unit
  pub nothing : is_linear_within limits true_check 0 ≡ true

-- a, not a or b, and not b
abbrev pub implication_check : NodeCheck
implication_check = record {
  nodes = node.BoolConst 0 ∷ node.BoolConst 1 ∷ node.Not 0 ∷ node.Or (2 ∷ 1 ∷ []) ∷ node.Not 1 ∷ [];
  declared = 0 ∷ 1 ∷ [];
  in_force = 0 ∷ 3 ∷ 4 ∷ [];
  first_order = 2;
}

-- two truth values are equal, and they are not
abbrev pub exclusive_check : NodeCheck
exclusive_check = record {
  nodes = node.BoolConst 0 ∷ node.BoolConst 1 ∷ node.Iff 0 1 ∷ node.Xor 0 1 ∷ [];
  declared = 0 ∷ 1 ∷ [];
  in_force = 2 ∷ 3 ∷ [];
  first_order = 2;
}

-- false beside equalities of two fields
abbrev pub false_in_two_fields_check : NodeCheck
false_in_two_fields_check = record {
  nodes = node.FieldConst 0 5 ∷ node.Eq 0 0 ∷ node.FieldConst 1 3 ∷ node.Eq 2 2 ∷ node.False ∷ [];
  declared = 0 ∷ 2 ∷ [];
  in_force = 1 ∷ 3 ∷ 4 ∷ [];
  first_order = 5;
}

-- false beside an equality of a power of x
abbrev pub false_beside_power_check : ℕ → NodeCheck
false_beside_power_check exponent = record {
  nodes = node.FieldConst 0 5 ∷ node.Mul (replicate exponent 0) ∷ node.Eq 1 0 ∷ node.False ∷ [];
  declared = 0 ∷ [];
  in_force = 2 ∷ 3 ∷ [];
  first_order = 5;
}

-- false beside an equality of a power of x + 1
abbrev pub false_beside_sum_check : ℕ → NodeCheck
false_beside_sum_check exponent = record {
  nodes = node.FieldConst 0 5 ∷ node.Num 1 5 ∷ node.Add (0 ∷ 1 ∷ []) ∷ node.Mul (replicate exponent 2) ∷ node.Eq 3 0 ∷ node.False ∷ [];
  declared = 0 ∷ [];
  in_force = 4 ∷ 5 ∷ [];
  first_order = 5;
}

pub record ForcingRefutes : Type 0 where
  -- b and its negation: two nodes
  pub negation : IsRefutedByForcing 2 (record boolean_check { in_force = 0 ∷ 1 ∷ [] })
  pub negation_spent : IsRefutedByForcing 1 (record boolean_check { in_force = 0 ∷ 1 ∷ [] }) → ⊥
  pub false_node : IsRefutedByForcing 1 (record boolean_check { in_force = 2 ∷ [] })
  -- through a clause of three literals
  pub implication : IsRefutedByForcing 5 implication_check
  pub implication_spent : IsRefutedByForcing 4 implication_check → ⊥
  -- an unsatisfiable check with no unit beyond its assertions
  pub exclusive : (budget : ℕ) → IsRefutedByForcing budget exclusive_check → ⊥
  -- a satisfiable one
  pub satisfiable : (budget : ℕ) → IsRefutedByForcing budget (record boolean_check { in_force = 1 ∷ [] }) → ⊥
  pub two_fields : (budget : ℕ) → IsRefutedByForcing budget false_in_two_fields_check → ⊥
  -- the limits on degree and length, and one above them
  pub degree : IsRefutedByForcing 4 (false_beside_power_check 255)
  pub high : (budget : ℕ) → IsRefutedByForcing budget (false_beside_power_check 256) → ⊥
  pub length : IsRefutedByForcing 6 (false_beside_sum_check 16)
  pub long : (budget : ℕ) → IsRefutedByForcing budget (false_beside_sum_check 17) → ⊥

-- x y = 1 and x = 0, over an order
abbrev pub product_check : ℕ → NodeCheck
product_check order = record {
  nodes = node.FieldConst 0 order ∷ node.FieldConst 1 order ∷ node.Mul (0 ∷ 1 ∷ []) ∷ node.Num 1 order ∷ node.Eq 2 3 ∷ node.Num 0 order ∷ node.Eq 0 5 ∷ [];
  declared = 0 ∷ 1 ∷ [];
  in_force = 4 ∷ 6 ∷ [];
  first_order = order;
}

-- z = 1 - x v, x z = 0, z /= 0 and z /= 1, over an order
abbrev pub gadget_check : ℕ → NodeCheck
gadget_check order = record {
  nodes = node.FieldConst 0 order ∷ node.FieldConst 1 order ∷ node.FieldConst 2 order ∷ node.Num 1 order ∷ node.Mul (0 ∷ 1 ∷ []) ∷ node.Neg 4 ∷ node.Add (3 ∷ 5 ∷ []) ∷ node.Eq 2 6 ∷ node.Mul (0 ∷ 2 ∷ []) ∷ node.Num 0 order ∷ node.Eq 8 9 ∷ node.Eq 2 9 ∷ node.Not 11 ∷ node.Eq 2 3 ∷ node.Not 13 ∷ [];
  declared = 0 ∷ 1 ∷ 2 ∷ [];
  in_force = 7 ∷ 10 ∷ 12 ∷ 14 ∷ [];
  first_order = order;
}

pub record AreCombined : Type 0 where
  -- the equalities x y = 1 and x = 0: 6 monomials in x and y, 1 multiple of the first and 3 of the second
  pub degrees : degrees_of (product_check 17).nodes (4 ∷ 6 ∷ []) [] ≡ 2 ∷ 1 ∷ []
  pub variables : variables_of (product_check 17) (4 ∷ 6 ∷ []) [] ≡ 0 ∷ 1 ∷ []
  pub columns_of_two : columns 2 (0 ∷ 1 ∷ []) ≡ 6
  pub rows_of_two : row_count 2 (0 ∷ 1 ∷ []) (2 ∷ 1 ∷ []) ≡ 4
  -- a generator of a higher degree has no multiples
  pub rows_of_one : row_count 1 (0 ∷ 1 ∷ []) (2 ∷ 1 ∷ []) ≡ 1
  pub product : length (cone (product_check 17).nodes (4 ∷ 6 ∷ [])) + combination_units 1 (product_check 17) (4 ∷ 6 ∷ []) [] ≡ 55
  -- disequations have variables of their own, and a degree more
  pub gadget_literals : literals_of (7 ∷ 10 ∷ []) (11 ∷ 13 ∷ []) ≡ minus 7 ∷ minus 10 ∷ plus 11 ∷ plus 13 ∷ []
  pub gadget_degrees : degrees_of (gadget_check 17).nodes (7 ∷ 10 ∷ []) (11 ∷ 13 ∷ []) ≡ 2 ∷ 2 ∷ 2 ∷ 2 ∷ []
  pub gadget_variables : variables_of (gadget_check 17) (7 ∷ 10 ∷ []) (11 ∷ 13 ∷ []) ≡ 0 ∷ 1 ∷ 2 ∷ 17 ∷ 18 ∷ []
  -- the degrees from 2 to 4, and to 5, both without and with the disequations
  pub gadget : length (cone (gadget_check 17).nodes (gadget_check 17).in_force) + combination_units 3 (gadget_check 17) (7 ∷ 10 ∷ []) (11 ∷ 13 ∷ []) ≡ 25799
  pub gadget_more : length (cone (gadget_check 17).nodes (gadget_check 17).in_force) + combination_units 4 (gadget_check 17) (7 ∷ 10 ∷ []) (11 ∷ 13 ∷ []) ≡ 143175
