use Rattle.std.proofs.Common.{refl}
use Rattle.ffc_lex.specs.Bytes.{is_word_byte, is_line_end, is_text_byte, is_quoted_byte, byte_class}
use Rattle.ffc_lex.specs.Words.{is_numeral, is_decimal, is_symbol_word, is_field_word, word_kind, keyword_kind, hash_kind}
use Rattle.ffc_lex.specs.Lexeme.{lexeme_at, size_of, word_at, comment_at, quoted_at, string_at}
use Rattle.ffc_lex.specs.Reading.{reading_of, read, next_at, after_lexeme}
use Rattle.ffc_cert.specs.Spelling.{is_clause}
use Rattle.ffc_term.specs.Nodes.{sorts}
use Rattle.ffc_smt.specs.Trees.{items_of, tokens_of, inside_of, tree_of}
use Rattle.ffc_smt.specs.Terms.{height, weight}
use Rattle.ffc_smt.specs.Meaning.{val}
use Rattle.ffc_smt.specs.Making.{interned, equality, neighbours, difference, differences_from, differences, exclusive, implication, implications, applied_made, made}
use Rattle.ffc_smt.specs.TermReading.{sort_read, term_read}
use Rattle.ffc_smt.specs.CommandReading.{form_read, command_read, nodes_after, asked_made, command_weight}
use Rattle.ffc_smt.specs.Scripts.{reads_within, script_from, after, named_orders, orders_in}
use Rattle.ffc_rules.specs.Assignments.{listed_assignment}
use Rattle.ffc_rules.specs.Cores.{core, reached_clauses}
use Rattle.ffc_answer.specs.Answers.{answers_from}
use Rattle.ffc_answer.proofs.RowLemmas.{zero_text, one_text, two_text, eight_text, nine_text, three_text, five_text}
use Rattle.ffc_answer.proofs.rows.answers.Goals as goal

pub returns : goal.returns
unfolding is_word_byte is_line_end is_text_byte is_quoted_byte byte_class is_numeral is_decimal is_symbol_word is_field_word word_kind keyword_kind hash_kind lexeme_at size_of word_at comment_at quoted_at string_at reading_of read next_at after_lexeme is_clause sorts items_of tokens_of inside_of tree_of height weight val interned equality neighbours difference differences_from differences exclusive implication implications applied_made made sort_read term_read form_read command_read nodes_after asked_made command_weight reads_within script_from after named_orders orders_in listed_assignment core reached_clauses answers_from
returns c = record {
  commands = refl;
  value = rw (three_text, five_text) refl;
  model_ends = refl;
  core = refl;
  reason = refl;
  budget = rw eight_text refl;
  ended = refl;
  fault = rw (two_text, nine_text, eight_text) refl;
  generated = rw (eight_text, two_text, one_text, zero_text) refl;
}
