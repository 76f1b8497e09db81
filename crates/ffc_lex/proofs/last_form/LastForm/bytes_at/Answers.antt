use Rattle.std.proofs.Common.{◌-◌, take, drop, ap, ◌∙◌}
use Rattle.ffc_lex.proofs.ListLemmas.{part_of}
use Rattle.ffc_lex.proofs.last_form.LastForm.bytes_at.Goals as goal

pub returns-then-self-kept : goal.returns-then-self-kept
returns-then-self-kept c text window beside =
    c.part.ensures ∙ (ap (λ xs. take c.args.count (drop (c.args.start - c.args.self.now.start) xs)) c.deref.ensures.value
    ∙ part_of text c.args.self.now.bytes.items c.args.self.now.start c.args.self.now.end c.args.start c.args.count (beside c.if-self-kept.true) c.requires.from c.requires.to)
