use Rattle.std.proofs.Common.{refl}
use Rattle.ffc_cert.specs.Items.{item_at, ended, is_digits, is_canonical, number_of, number_in, sign_of, literal_in, number_at, literal_at, many_at, counted_at, variable_at, exponent_at, power_at, powers_at, term_at, multiple_at}
use Rattle.ffc_cert.specs.Lines.{assume_at, scheme_at, hinted_at, order_at, lemma_at, combine_at, chain_at, step_at, split_at, values_at, clause_form, tree_form, step_form, form_at, line_at, value_at, sat_at, unsat_at, steps_at, unknown_at, opening_form, opening_at}
use Rattle.ffc_cert.specs.Reading.{awaited_after, is_whole, entry_number, code_of, begun, with_value, with_line, limited, header_line, opening_line, assignment_line, refutation_line, next_in, next_at as next_line_at, cut_end, end_after, is_complete, end_at, read as certificate_read}
use Rattle.ffc_cert.specs.Spelling.{is_clause}
use Rattle.ffc_trees.specs.FirstLines.{first_line}
use Rattle.ffc_trees.specs.NodePolynomials.{node_polys}
use Rattle.ffc_trees.specs.Normal.{normal}
use Rattle.ffc_trees.specs.TreeLines.{combined, combine_line, fermat_line, chain_line, step_line, root_line, split_line, values_line, closes}
use Rattle.ffc_trees.specs.Trees.{read_from}
use Rattle.ffc_uni.specs.Chains.{digits_of}
use Rattle.ffc_term.specs.Measuring.{degrees, lengths}
use Rattle.ffc_term.specs.Nodes.{sorts}
use Rattle.ffc_term.specs.Values.{values}
use Rattle.ffc_clause.specs.Hints.{is_contradiction}
use Rattle.ffc_rules.specs.Assignments.{listed_assignment, numbered_assignment, has_model_below}
use Rattle.ffc_rules.specs.Causes.{is_small, first_count, is_cause_within}
use Rattle.ffc_rules.specs.Cones.{reached, cone}
use Rattle.ffc_rules.specs.Cores.{reached_clauses, core}
use Rattle.ffc_rules.specs.Entries.{sat_fault, cases_fault, lemma_given, clause_given, lines_fault, entry_fault_within}
use Rattle.ffc_rules.specs.Judging.{first_broken, judgement_of}
use Rattle.ffc_rules.specs.Schemes.{scheme_clause, all_schemes}
use Rattle.ffc_rules.proofs.rows.splits.Goals as goal

pub returns : goal.returns
unfolding item_at ended is_digits is_canonical number_of number_in sign_of literal_in number_at literal_at many_at counted_at variable_at exponent_at power_at powers_at term_at multiple_at assume_at scheme_at hinted_at order_at lemma_at combine_at chain_at step_at split_at values_at clause_form tree_form step_form form_at line_at value_at sat_at unsat_at steps_at unknown_at opening_form opening_at awaited_after is_whole entry_number code_of begun with_value with_line limited header_line opening_line assignment_line refutation_line next_in next_line_at cut_end end_after is_complete end_at certificate_read is_clause first_line node_polys normal combined combine_line fermat_line chain_line step_line root_line split_line values_line closes read_from digits_of degrees lengths sorts values is_contradiction listed_assignment numbered_assignment has_model_below is_small first_count is_cause_within reached cone reached_clauses core sat_fault cases_fault lemma_given clause_given lines_fault entry_fault_within first_broken judgement_of scheme_clause all_schemes
returns c = record { whole = refl; not_closed = refl }
