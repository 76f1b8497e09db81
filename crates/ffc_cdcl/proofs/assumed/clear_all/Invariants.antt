use Rattle.std.proofs.Common.{◌≡◌, ◌==◌, ◌&&◌, not, ℕ, drop}
use Rattle.std.specs.List.{list_any}
use Rattle.ffc_clause.specs.Marks.{place_of, mark_at}
use Rattle.ffc_cdcl.proofs.assumed.clear_all.Given as goal

abbrev pub invariant-loop-literal : goal.invariant-loop-literal
invariant-loop-literal l = (k : ℕ) → (mark_at l.marks k && not (list_any (λ x. place_of x == k) (drop l.literal-index l.literals))) ≡ (mark_at l.initial.marks k && not (list_any (λ x. place_of x == k) l.literals))
