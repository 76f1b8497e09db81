use Rattle.std.proofs.Common.{refl}
use Rattle.ffc_lex.specs.Bytes.{is_word_byte, is_line_end, is_text_byte, is_quoted_byte, byte_class}
use Rattle.ffc_lex.specs.Lexeme.{word_at, comment_at, quoted_at, string_at, lexeme_at, size_of}
use Rattle.ffc_lex.specs.Reading.{after_lexeme, next_at, read, reading_of}
use Rattle.ffc_lex.specs.Words.{is_numeral, is_decimal, is_symbol_word, is_field_word, word_kind, keyword_kind, hash_kind}
use Rattle.ffc_smt.specs.CommandReading.{form_read, asked_made, nodes_after, command_weight, command_read}
use Rattle.ffc_smt.specs.Making.{interned, equality, neighbours, difference, differences_from, differences, exclusive, implication, implications, applied_made, made, all_made}
use Rattle.ffc_smt.specs.Scripts.{named_orders, after, script_from, reads_within, orders_in, orders_in_items}
use Rattle.ffc_smt.specs.TermReading.{sort_read, term_read}
use Rattle.ffc_smt.specs.Terms.{height, highest, weight, weights}
use Rattle.ffc_smt.specs.Trees.{items_of, inside_of, tree_of, tokens_of, tokens_of_items}
use Rattle.ffc_cert.specs.Items.{item_at, ended, is_digits, is_canonical, number_of, number_in, sign_of, literal_in, number_at, literal_at, many_at, counted_at, variable_at, exponent_at, power_at, powers_at, variables_at, chosen_at, term_at, multiple_at}
use Rattle.ffc_cert.specs.Lines.{assume_at, scheme_at, hinted_at, order_at, lemma_at, combine_at, bits_at, bits_in, chain_at, step_at, split_at, values_at, clause_form, tree_form, step_form, form_at, line_at, value_at, sat_at, unsat_at, steps_at, unknown_at, opening_form, opening_at}
use Rattle.ffc_cert.specs.Reading.{awaited_after, is_whole, entry_number, code_of, begun, with_value, with_line, limited, header_line, opening_line, assignment_line, refutation_line, next_in, next_at as next_line_at, cut_end, end_after, is_complete, end_at, read as certificate_read}
use Rattle.ffc_cert.specs.Spelling.{is_clause}
use Rattle.ffc_trees.specs.FirstLines.{first_line}
use Rattle.ffc_trees.specs.NodePolynomials.{node_polys}
use Rattle.ffc_trees.specs.Normal.{normal}
use Rattle.ffc_trees.specs.TreeLines.{combined, combine_line, fermat_line, chain_line, step_line, root_line, split_line, values_line, closes}
use Rattle.ffc_trees.specs.BitLines.{common_divisor, bits_line}
use Rattle.ffc_trees.specs.Trees.{read_from}
use Rattle.ffc_uni.specs.Chains.{digits_of}
use Rattle.ffc_term.specs.Measuring.{degrees, lengths}
use Rattle.ffc_term.specs.Nodes.{sorts}
use Rattle.ffc_term.specs.Values.{values}
use Rattle.ffc_clause.specs.Hints.{is_contradiction}
use Rattle.ffc_rules.specs.Assignments.{listed_assignment, numbered_assignment, has_model_below}
use Rattle.ffc_rules.specs.Causes.{is_small, first_count, is_cause_within}
use Rattle.ffc_rules.specs.Cones.{reached, cone}
use Rattle.ffc_rules.specs.Cores.{reached_clauses, core}
use Rattle.ffc_rules.specs.Entries.{sat_fault, cases_fault, lemma_given, clause_given, lines_fault, entry_fault_within}
use Rattle.ffc_rules.specs.Judging.{first_broken, judgement_of}
use Rattle.ffc_rules.specs.Schemes.{scheme_clause, all_schemes}
use Rattle.ffc_rules.proofs.rows.bits.Goals as goal

pub returns : goal.returns
unfolding is_word_byte is_line_end is_text_byte is_quoted_byte byte_class word_at comment_at quoted_at string_at lexeme_at size_of after_lexeme next_at read reading_of is_numeral is_decimal is_symbol_word is_field_word word_kind keyword_kind hash_kind form_read asked_made nodes_after command_weight command_read interned equality neighbours difference differences_from differences exclusive implication implications applied_made made all_made named_orders after script_from reads_within orders_in orders_in_items sort_read term_read height highest weight weights items_of inside_of tree_of tokens_of tokens_of_items item_at ended is_digits is_canonical number_of number_in sign_of literal_in number_at literal_at many_at counted_at variable_at exponent_at power_at powers_at variables_at chosen_at term_at multiple_at assume_at scheme_at hinted_at order_at lemma_at combine_at bits_at bits_in chain_at step_at split_at values_at clause_form tree_form step_form form_at line_at value_at sat_at unsat_at steps_at unknown_at opening_form opening_at awaited_after is_whole entry_number code_of begun with_value with_line limited header_line opening_line assignment_line refutation_line next_in next_line_at cut_end end_after is_complete end_at certificate_read is_clause first_line node_polys normal combined combine_line fermat_line chain_line step_line root_line split_line values_line closes common_divisor bits_line read_from digits_of degrees lengths sorts values is_contradiction listed_assignment numbered_assignment has_model_below is_small first_count is_cause_within reached cone reached_clauses core sat_fault cases_fault lemma_given clause_given lines_fault entry_fault_within first_broken judgement_of scheme_clause all_schemes
returns c = record { whole = refl; not_asked = refl; other_version = refl; possible = refl }
