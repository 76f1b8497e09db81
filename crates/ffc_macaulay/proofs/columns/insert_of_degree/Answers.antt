use Rattle.std.proofs.Common.{◌≡◌, get_or, [], sym, ◌∙◌}
use Rattle.std.proofs.lemmas.List.{get_or_default}
use Rattle.ffc_ring.specs.Monomial.{Monomial}
use Rattle.ffc_macaulay.proofs.ListLemmas.{adds_none, adds_more, adds_other}
use Rattle.ffc_macaulay.proofs.columns.insert_of_degree.Goals as goal
use Rattle.ffc_macaulay.proofs.columns.insert_of_degree.Goals.{then-degree-wanted+in_ok-insert, else-degree-wanted}

pub loop-m-init : goal.loop-m-init
loop-m-init c = adds_none c.args.wanted c.args.unknowns.now.keys

pub loop-m-preserved : goal.loop-m-preserved
loop-m-preserved c =
    let d = c.args.wanted in
    let ms = c.args.monomials.now in
    let i = c.loop-m.m-index in
    let m : Monomial = c.m-item.result in
    let old = c.args.unknowns.now.keys in
    let at : m ≡ get_or ms i [] = c.m-item.is ∙ get_or_default ms i m [] c.loop-m-test.true in
    elim c.if-degree-wanted.branch [
      | then-degree-wanted+in_ok-insert w ↦
          rw w.unknowns-is
          (adds_more d i ms old c.loop-m.unknowns.keys w.insert.new.unknowns.keys m c.loop-m-test.true at (sym c.degree.ensures.value ∙ w.if-degree-wanted.true) c.loop-m.invariant w.in_ok-insert.ensures)
      | else-degree-wanted w ↦
          rw w.unknowns-is
          (adds_other d i ms old c.loop-m.unknowns.keys m c.loop-m-test.true at (λ e. w.if-degree-wanted.false (c.degree.ensures.value ∙ e)) c.loop-m.invariant)
    ]
