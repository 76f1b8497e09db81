use Rattle.std.proofs.Common.{◌≡◌, ℕ, ◌<◌, ◌||◌, false, length, drop, get_or}
use Rattle.ffc_rules.specs.Cones.{is_listed}
use Rattle.ffc_core.proofs.checking.mark_listed.Given as goal

abbrev pub invariant-loop-number : goal.invariant-loop-number
invariant-loop-number l = record {
  len : length l.marks ≡ length l.fn.marks;
  so_far : (h : ℕ) → h < length l.fn.marks → (get_or l.marks h false || is_listed (drop l.number-index l.numbers) h) ≡ (is_listed l.numbers h || get_or l.fn.marks h false);
}
