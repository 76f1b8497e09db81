use Rattle.std.proofs.Common.{[], sym, ◌∙◌}
use Rattle.ffc_elab.specs.Reading.{plain_of}
use Rattle.ffc_elab.proofs.PlainLemmas.{alone_outcome}
use Rattle.ffc_elab.proofs.plain.alone.Goals as goal

pub returns-clause-reads : goal.returns-clause-reads
returns-clause-reads c = λ items closing at. c.ended.ensures.reads ∙ sym (alone_outcome (plain_of c.args.command) c.args.words.now 2 items closing [] at)
