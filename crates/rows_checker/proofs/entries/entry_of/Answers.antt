use Rattle.ffc_cert.proofs.CallerLemmas.{read_is_readable}
use Rattle.rows_checker.proofs.entries.entry_of.Goals as goal

pub returns-in-Ok-Some : goal.returns-in-Ok-Some
returns-in-Ok-Some c = read_is_readable _ c.in-Ok-Some.field-0 c.in-Ok-Some.read c.in-Ok-Some.ensures.readable c.in-Ok-Some.field-0-is
