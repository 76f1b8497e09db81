use Rattle.std.proofs.Common.{◌≡◌, ◌≤◌, sym, ap, ◌∙◌, arith}
use Rattle.ffc_lex.specs.Scan.{first_start, reach}
use Rattle.ffc_lex.proofs.HeldLemmas.{first_le, le_reach, reach_le}
use Rattle.ffc_lex.proofs.scanning.Scanner.floor.Goals as goal

pub returns-clause-within : goal.returns-clause-within
returns-clause-within c =
    let next : c.reach.result ≡ reach c.self.inside.mode c.self.inside.at c.self.inside.start = c.reach.ensures ∙ sym (ap (λ v. reach v.mode v.at v.start) c.self.view_is) in
    let first : first_start c.self.inside.tokens.items (reach c.self.inside.mode c.self.inside.at c.self.inside.start) ≤ reach c.self.inside.mode c.self.inside.at c.self.inside.start =
    first_le c.self.inside.kept (reach c.self.inside.mode c.self.inside.at c.self.inside.start) c.self.inside.start.index c.self.inside.tokens.items
    (le_reach c.self.inside.mode c.self.inside.at c.self.inside.start c.self.invariant.order) c.self.invariant.held in
    let last : reach c.self.inside.mode c.self.inside.at c.self.inside.start ≤ c.self.inside.at.index = reach_le c.self.inside.mode c.self.inside.at c.self.inside.start c.self.invariant.order in
    let is : c.first_start_of.result ≡ first_start c.self.inside.tokens.items (reach c.self.inside.mode c.self.inside.at c.self.inside.start) =
    c.first_start_of.ensures ∙ (ap (λ ts. first_start ts c.reach.result) c.deref.ensures.value ∙ ap (λ k. first_start c.self.inside.tokens.items k) next) in
    omega (arith, is, first, last, ap (λ v. v.at.index) c.self.view_is)
