use Rattle.std.proofs.Common.{◌≡◌, ◌≤◌, ap, arith}
use Rattle.ffc_lex.specs.Scan.{reach}
use Rattle.ffc_lex.proofs.HeldLemmas.{kept_le_reach}
use Rattle.ffc_lex.proofs.scanning.Scanner.kind_so_far.Goals as goal

pub so_far-requires-clause-held : goal.so_far-requires-clause-held
so_far-requires-clause-held c =
    let low : c.self.inside.kept ≤ reach c.self.inside.mode c.self.inside.at c.self.inside.start = kept_le_reach c.self.inside.kept c.self.inside.at c.self.inside.start c.self.inside.mode c.self.inside.depth c.self.inside.tokens.items c.self.invariant in
    let here : reach c.self.inside.mode c.self.inside.at c.self.inside.start ≡ c.self.inside.start.index = ap (λ m. reach m c.self.inside.at c.self.inside.start) c.in-Word.is in
    omega (arith, low, here, ap (λ v. v.kept) c.self.view_is, ap (λ v. v.start.index) c.self.view_is)

pub so_far-requires-in-Keyword-clause-held : goal.so_far-requires-in-Keyword-clause-held
so_far-requires-in-Keyword-clause-held c =
    let low : c.self.inside.kept ≤ reach c.self.inside.mode c.self.inside.at c.self.inside.start = kept_le_reach c.self.inside.kept c.self.inside.at c.self.inside.start c.self.inside.mode c.self.inside.depth c.self.inside.tokens.items c.self.invariant in
    let here : reach c.self.inside.mode c.self.inside.at c.self.inside.start ≡ c.self.inside.start.index = ap (λ m. reach m c.self.inside.at c.self.inside.start) c.in-Keyword.is in
    omega (arith, low, here, ap (λ v. v.kept) c.self.view_is, ap (λ v. v.start.index) c.self.view_is)

pub so_far-requires-in-FieldLiteral-clause-held : goal.so_far-requires-in-FieldLiteral-clause-held
so_far-requires-in-FieldLiteral-clause-held c =
    let low : c.self.inside.kept ≤ reach c.self.inside.mode c.self.inside.at c.self.inside.start = kept_le_reach c.self.inside.kept c.self.inside.at c.self.inside.start c.self.inside.mode c.self.inside.depth c.self.inside.tokens.items c.self.invariant in
    let here : reach c.self.inside.mode c.self.inside.at c.self.inside.start ≡ c.self.inside.start.index = ap (λ m. reach m c.self.inside.at c.self.inside.start) c.in-FieldLiteral.is in
    omega (arith, low, here, ap (λ v. v.kept) c.self.view_is, ap (λ v. v.start.index) c.self.view_is)
