use Rattle.std.proofs.Common.{◌≡◌, [], sym, ap, ◌∙◌, subst}
use Rattle.ffc_lex.specs.Scan.{IsInRange, reach}
use Rattle.ffc_lex.proofs.HeldLemmas.{held_none, kept_le_reach}
use Rattle.ffc_lex.proofs.scanning.Scanner.take_form.Goals as goal

pub invariant_of-self : goal.invariant_of-self
invariant_of-self c =
    let none : c.replace-tokens.new.dest.items ≡ [] = ap (λ v. v.items) c.replace-tokens.ensures.after ∙ c.new.ensures.items in
    subst (λ ts. IsInRange c.self.inside.kept c.self.inside.at c.self.inside.start c.self.inside.mode c.self.inside.depth ts) (sym none) (record {
      index = c.self.invariant.index;
      line = c.self.invariant.line;
      column = c.self.invariant.column;
      order = c.self.invariant.order;
      depth = c.self.invariant.depth;
      held = held_none c.self.inside.kept (reach c.self.inside.mode c.self.inside.at c.self.inside.start) c.self.inside.start.index (kept_le_reach c.self.inside.kept c.self.inside.at c.self.inside.start c.self.inside.mode c.self.inside.depth c.self.inside.tokens.items c.self.invariant);
    })
