use Rattle.std.specs.BinaryHeap.{heap_len}
use Rattle.ffc_basis.proofs.queue.Queue.next_late.Given as goal

abbrev pub decreases-loop-late : goal.decreases-loop-late
decreases-loop-late l = heap_len l.self.late
