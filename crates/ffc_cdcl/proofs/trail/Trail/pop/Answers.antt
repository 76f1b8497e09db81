use Rattle.std.proofs.Common.{◌≡◌, ◌++◌, ◌∷◌, [], sym, ap, ◌∙◌, subst}
use Rattle.ffc_clause.specs.Clauses.{Literal}
use Rattle.ffc_cdcl.specs.Trails.{IsTrail}
use Rattle.ffc_cdcl.proofs.TrailLemmas.{trail_pop}
use Rattle.ffc_cdcl.proofs.trail.Trail.pop.Goals as goal

pub invariant_of-self-2 : goal.invariant_of-self-2
invariant_of-self-2 c =
    let s = c.self.inside in
    let l : Literal = (c.literal.inside.positive, c.literal.inside.node) in
    let was : s.literals.items ≡ c.pop.new.self.items ++ l ∷ [] = c.in_ok-literal.ensures.items ∙ ap (λ m. c.pop.new.self.items ++ m ∷ []) (sym c.literal.view_is) in
    subst (λ values. IsTrail values c.pop.new.self.items) (sym c.write_at.ensures)
    (trail_pop s.values.items c.pop.new.self.items l (subst (IsTrail s.values.items) was c.self.invariant))
