use Rattle.std.proofs.Common.{ℕ, ◌<◌, length, All, sym, subst}
use Rattle.ffc_answer.proofs.models.append_model.Goals as goal

pub append_listed_model-requires-clause-pairs : goal.append_listed_model-requires-clause-pairs
append_listed_model-requires-clause-pairs c =
    let pairs = c.in-Some.pairs.now in
    subst (λ ns. All (λ (p : ℕ × ℕ). p.0 < length ns) pairs) (sym c.table.ensures) (c.requires pairs (sym c.in-Some.ensures))
