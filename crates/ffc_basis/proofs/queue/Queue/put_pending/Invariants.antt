use Rattle.std.proofs.Common.{vec_len}
use Rattle.ffc_basis.proofs.queue.Queue.put_pending.Given as goal

abbrev pub decreases-loop-turn : goal.decreases-loop-turn
decreases-loop-turn l = vec_len l.self.taken
