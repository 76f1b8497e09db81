use Rattle.std.proofs.Common.{[], ◌∷◌}
use Rattle.std.proofs.lemmas.Bool.Decides.{Decides-eqb}
use Rattle.std.proofs.lemmas.Slice.Eq.{ends_is}
use Rattle.ffc_report.proofs.judging.verdict_by.Goals as goal

pub returns-then-ends_with : goal.returns-then-ends_with
returns-then-ends_with c = λ _. (_, (ends_is Decides-eqb c.args.line.now (32 ∷ 48 ∷ 10 ∷ []) c.ends_with.result c.ends_with.ensures.value).0 c.if-ends_with.true)
