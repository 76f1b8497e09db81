use Rattle.ffc_script.proofs.LimitLemmas.{long_text_cut}
use Rattle.ffc_script.proofs.laws.long_texts_are_cut.Goals as goal

pub returns : goal.returns
returns c = λ text. long_text_cut text
