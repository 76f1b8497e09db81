use Rattle.std.proofs.Common.{◌≡◌, ◌+◌, [], ◌∷◌, reverse, sym, ap, ◌∙◌, subst, arith}
use Rattle.std.proofs.lemmas.List.{reverse-append}
use Rattle.ffc_term.specs.Marking.{AreMarkedFrom}
use Rattle.ffc_term.proofs.WalkLemmas.{AreMarkedFrom-none, AreMarkedFrom-lower, AreMarkedFrom-more}
use Rattle.ffc_term.proofs.walk.marked.Goals as goal

pub loop-id-init : goal.loop-id-init
loop-id-init c = record {
  found = subst (λ xs. AreMarkedFrom c.args.marks.now c.args.bound (reverse xs)) (sym c.new-found.ensures.items) (AreMarkedFrom-none c.args.marks.now c.args.bound c.requires);
  within = omega arith;
}

pub loop-id-preserved : goal.loop-id-preserved
loop-id-preserved c =
    let marks = c.args.marks.now in
    let id = c.in-Some.id in
    let is = c.in-Some.ensures.some in
    let i = c.loop-id.invariant in
    let now : reverse c.push.new.self.items ≡ id ∷ reverse c.loop-id.found.items = ap reverse c.in_ok-push.ensures.items ∙ reverse-append c.loop-id.found.items (id ∷ []) in
    record {
      found = subst (AreMarkedFrom marks id) (sym now) (AreMarkedFrom-more marks id _ (AreMarkedFrom-lower marks (id + 1) c.loop-id.end _ i.found is.2 (omega (arith, is.0))) is.1);
      within = omega (arith, is.0, i.within);
    }

pub returns : goal.returns
returns c =
    subst (AreMarkedFrom c.args.marks.now 0) (sym c.reverse.ensures.items)
    (AreMarkedFrom-lower c.args.marks.now 0 c.loop-id.end (reverse c.loop-id.found.items) c.loop-id.invariant.found c.in_default.ensures.none (omega arith))
