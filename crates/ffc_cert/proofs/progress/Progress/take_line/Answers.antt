use Rattle.ffc_cert.proofs.NextLemmas.{seen_is, next_header, next_opening, next_value, next_refutation}
use Rattle.ffc_cert.proofs.progress.Progress.take_line.Goals as goal

pub returns-in-Header-clause-taken : goal.returns-in-Header-clause-taken
returns-in-Header-clause-taken c =
    rw (next_header c.args.wanted c.args.self.now c.args.line.now _ (seen_is c.args.line.now 67108865 c.min-seen.result c.min-seen.ensures) c.in-Header.is) c.take_header.ensures.taken

pub returns-else-self-wanted-clause-taken : goal.returns-else-self-wanted-clause-taken
returns-else-self-wanted-clause-taken c =
    rw (next_opening c.args.wanted c.args.self.now c.args.line.now _ (seen_is c.args.line.now 67108865 c.min-seen.result c.min-seen.ensures) c.in-Between.is c.if-self-wanted.false) c.take_opening.ensures.taken

pub returns-in-Assignment-clause-taken : goal.returns-in-Assignment-clause-taken
returns-in-Assignment-clause-taken c =
    rw (next_value c.args.wanted c.args.self.now c.args.line.now _ (seen_is c.args.line.now 67108865 c.min-seen.result c.min-seen.ensures) c.in-Assignment.left c.in-Assignment.is) c.take_value.ensures.taken

pub returns-in-Refutation-clause-taken : goal.returns-in-Refutation-clause-taken
returns-in-Refutation-clause-taken c =
    rw (next_refutation c.args.wanted c.args.self.now c.args.line.now _ (seen_is c.args.line.now 67108865 c.min-seen.result c.min-seen.ensures) c.in-Refutation.awaited c.in-Refutation.is) c.take_refutation.ensures.taken
