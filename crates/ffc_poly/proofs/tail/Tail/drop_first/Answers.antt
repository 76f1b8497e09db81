use Rattle.std.proofs.Common.{length, drop, sym, ap, ◌∙◌, arith, length-drop}
use Rattle.ffc_poly.proofs.TermLemmas.{drop_after}
use Rattle.ffc_poly.proofs.tail.Tail.drop_first.Goals as goal

pub overflow_add-self : goal.overflow_add-self
overflow_add-self g c =
    omega (arith, c.len-end.ensures, c.len-end.type_inv, ap length c.self.view_is, length-drop c.self.inside.from c.self.inside.terms, c.requires)

pub returns : goal.returns
returns g c = sym (drop_after 1 c.self.inside.from c.self.inside.terms) ∙ ap (drop 1) c.self.view_is
