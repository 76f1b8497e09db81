use Rattle.std.proofs.Common.{◌≡◌, ◌≤◌, ◌+◌, length, take}
use Rattle.ffc_dense.specs.Columns.{AreNumbers, Grows, terms_of}
use Rattle.ffc_dense.proofs.dense.Dense.numbered.Given as goal

abbrev pub invariant-loop-place : goal.invariant-loop-place
invariant-loop-place g l =
    (length l.self.0 ≤ length l.initial.self.0 + l.place) × (terms_of g.F.Field.value l.self.0 l.terms.items ≡ take l.place l.p)
    × AreNumbers (length l.self.0) l.terms.items × Grows g.F.Field.ORDER l.initial.self l.self
