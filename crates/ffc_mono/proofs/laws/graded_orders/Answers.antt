use Rattle.ffc_mono.proofs.LeadingLemmas.{graded_reverse_lex_is_graded, one_variable_is_graded, greater_is_no_lower, descent_is_short, descent_in_one_is_short}
use Rattle.ffc_mono.proofs.laws.graded_orders.Goals as goal

pub returns-clause-reverse_lex : goal.returns-clause-reverse_lex
returns-clause-reverse_lex c = graded_reverse_lex_is_graded

pub returns-clause-no_lower : goal.returns-clause-no_lower
returns-clause-no_lower c = greater_is_no_lower

pub returns-clause-descent : goal.returns-clause-descent
returns-clause-descent c = descent_is_short

pub returns-clause-one_variable : goal.returns-clause-one_variable
returns-clause-one_variable c = one_variable_is_graded

pub returns-clause-descent_in_one : goal.returns-clause-descent_in_one
returns-clause-descent_in_one c = descent_in_one_is_short
