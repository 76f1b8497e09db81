use Rattle.std.proofs.Common.{◌≤◌, ap, arith}
use Rattle.ffc_lex.proofs.HeldLemmas.{kept_le_at}
use Rattle.ffc_lex.proofs.scanning.Scanner.kept.Goals as goal

pub returns-clause-within : goal.returns-clause-within
returns-clause-within c =
    let low : c.self.inside.kept ≤ c.self.inside.at.index = kept_le_at c.self.inside.kept c.self.inside.at c.self.inside.start c.self.inside.mode c.self.inside.depth c.self.inside.tokens.items c.self.invariant in
    omega (arith, low, ap (λ v. v.at.index) c.self.view_is)
