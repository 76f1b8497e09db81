use Rattle.std.proofs.Common.{◌<◌, ◌≡◌, ◌++◌, ◌∷◌, [], Some, set, length, arith, sym, ap, ◌∙◌, subst, refl}
use Rattle.std.proofs.lemmas.Grind.{common_steps}
use Rattle.ffc_clause.specs.Clauses.{Literal}
use Rattle.ffc_cdcl.specs.Trails.{Assigned, IsTrail, IsOpen}
use Rattle.ffc_cdcl.proofs.TrailLemmas.{room, trail_push}
use Rattle.ffc_cdcl.proofs.trail.Trail.assign.Goals as goal

pub returns-in-Err-take-clause-room : goal.returns-in-Err-take-clause-room
returns-in-Err-take-clause-room c = λ _.
    let s = c.self.inside in
    let o = subst (λ (t : Assigned). IsOpen t c.literal.inside.node) (sym c.self.view_is) (c.if-not-is_open.ensures refl) in
    let l : Literal = (c.literal.inside.positive, c.literal.inside.node) in
    let before : length s.literals.items < length s.values.items = room s.values.items s.literals.items c.self.invariant l o in
    let pushed = c.in_default.ensures.items in
    grind (arith, common_steps)

pub invariant_of-self-2 : goal.invariant_of-self-2
invariant_of-self-2 c =
    let s = c.self.inside in
    let o = subst (λ (t : Assigned). IsOpen t c.literal.inside.node) (sym c.self.view_is) (c.if-not-is_open.ensures refl) in
    let l : Literal = (c.literal.inside.positive, c.literal.inside.node) in
    let m : Literal = (c.literal-2.inside.positive, c.literal-2.inside.node) in
    let same : l ≡ m = c.literal.view_is ∙ sym c.literal-2.view_is in
    let values = c.write_at.ensures ∙ ap (λ (k : Literal). set s.values.items k.1 (Some k.0)) (sym same) in
    let literals : c.push.new.self.items ≡ s.literals.items ++ l ∷ [] = c.in_default.ensures.items ∙ ap (λ k. s.literals.items ++ k ∷ []) (sym c.literal.view_is) in
    subst (λ vs. IsTrail vs c.push.new.self.items) (sym values)
    (subst (IsTrail (set s.values.items l.1 (Some l.0))) (sym literals) (trail_push s.values.items s.literals.items c.self.invariant l o))
