use Rattle.ffc_cert.proofs.ItemTexts as texts
use Rattle.ffc_cert.proofs.laws.lines_are_items.Goals as goal

pub returns-clause-lines : goal.returns-clause-lines
returns-clause-lines c = texts.lines_are_items

pub returns-clause-values : goal.returns-clause-values
returns-clause-values c = texts.values_are_items

pub returns-clause-first : goal.returns-clause-first
returns-clause-first c = texts.first_lines_are_items
