use Rattle.std.proofs.Common.{◌≡◌, ℕ, List, ◌+◌, ◌-◌, ◌≤◌, drop, length}
use Rattle.ffc_lex.specs.Scan.{IsReady}
use Rattle.ffc_lex.proofs.scanning.Scanner.scan.Given as goal

abbrev pub invariant-loop-self : goal.invariant-loop-self
invariant-loop-self l = record {
  kept : l.self.kept ≡ l.fn.self.kept;
  within : l.self.at.index ≤ l.self.kept + length l.window;
  read : (n : ℕ) (text : List ℕ) → l.window ≡ drop l.fn.self.kept text → IsReady n text l.fn.self → IsReady n text l.self;
}

abbrev pub decreases-loop-self : goal.decreases-loop-self
decreases-loop-self l = l.self.kept + length l.window - l.self.at.index
