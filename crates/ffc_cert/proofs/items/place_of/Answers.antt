use Rattle.std.proofs.Common.{◌∙◌}
use Rattle.ffc_cert.proofs.NumberLemmas.{place_is}
use Rattle.ffc_cert.proofs.items.place_of.Goals as goal

pub returns-clause-place : goal.returns-clause-place
returns-clause-place c = c.unwrap_or.ensures ∙ place_is c.args.byte c.args.bytes.now c.memchr.result c.memchr.ensures
