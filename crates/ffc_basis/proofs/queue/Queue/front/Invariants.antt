use Rattle.std.specs.BinaryHeap.{heap_len}
use Rattle.ffc_basis.proofs.queue.Queue.front.Given as goal

abbrev pub decreases-loop-turn : goal.decreases-loop-turn
decreases-loop-turn g l = heap_len l.self.near
