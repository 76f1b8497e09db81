use Rattle.std.proofs.Common.{ℕ, ◌<◌, length, All, sym, subst}
use Rattle.ffc_answer.proofs.models.append_values.Goals as goal

pub append_listed_values-requires-clause-pairs : goal.append_listed_values-requires-clause-pairs
append_listed_values-requires-clause-pairs c =
    let pairs = c.in-Some.pairs.now in
    subst (λ ns. All (λ (p : ℕ × ℕ). p.0 < length ns) pairs) (sym c.table.ensures) (c.requires.model pairs (sym c.in-Some.ensures))
