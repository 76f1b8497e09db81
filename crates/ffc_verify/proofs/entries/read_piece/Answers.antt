use Rattle.std.proofs.Common.{arith}
use Rattle.std.proofs.lemmas.Grind.{common_steps}
use Rattle.ffc_verify.proofs.TakenLemmas.{piece_taken}
use Rattle.ffc_verify.proofs.entries.read_piece.Goals as goal

pub returns-in-Ok-feed-clause-taken : goal.returns-in-Ok-feed-clause-taken
returns-in-Ok-feed-clause-taken g c =
    piece_taken c.in-Ok.count c.read.new.buf (g.C.Source.left c.args.cert.now) (g.C.Source.left c.read.new.self) c.in-Ok.ensures.moved (first_of (omega (arith, c.in-Ok.ensures.within), grind (arith, common_steps, c.in-Ok.ensures.within)))

pub returns-in-Err-Memory-clause-taken : goal.returns-in-Err-Memory-clause-taken
returns-in-Err-Memory-clause-taken g c =
    piece_taken c.in-Ok.count c.read.new.buf (g.C.Source.left c.args.cert.now) (g.C.Source.left c.read.new.self) c.in-Ok.ensures.moved (first_of (omega (arith, c.in-Ok.ensures.within), grind (arith, common_steps, c.in-Ok.ensures.within)))
