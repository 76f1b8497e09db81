use Rattle.std.proofs.Common.{sym, ◌∙◌}
use Rattle.ffc_words.specs.Words.{word_at}
use Rattle.ffc_terms.proofs.WordLemmas.{named_as}
use Rattle.ffc_terms.proofs.named_words.is_named.Goals as goal

pub returns : goal.returns
returns c = c.is_named.ensures ∙ sym (named_as c.args.name.now (word_at c.args.words.now c.args.at) _ _ c.kind.ensures c.bytes.ensures)
