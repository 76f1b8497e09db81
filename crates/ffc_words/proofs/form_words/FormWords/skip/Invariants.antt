use Rattle.std.proofs.Common.{◌≡◌, ◌+◌, ◌≤◌, drop}
use Rattle.ffc_words.specs.Skipping.{size_from}
use Rattle.ffc_words.proofs.form_words.FormWords.skip.Given as goal

abbrev pub invariant-loop-i : goal.invariant-loop-i
invariant-loop-i l = record {
  few : l.depth + l.at ≤ l.i;
  going : size_from l.depth (drop l.i l.self) + l.i ≡ size_from 0 (drop l.at l.self) + l.at;
}
