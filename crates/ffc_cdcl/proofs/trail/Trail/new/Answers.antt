use Rattle.std.proofs.Common.{◌≡◌, sym, subst, replicate, None, rules}
use Rattle.ffc_cdcl.specs.Trails.{IsTrail}
use Rattle.ffc_cdcl.proofs.TrailLemmas.{no_trail}
use Rattle.ffc_cdcl.proofs.trail.Trail.new.Goals as goal

pub invariant_of-result : goal.invariant_of-result
invariant_of-result c =
    let values : c.in_ok-vec.field-0.items ≡ replicate c.args.nodes None = c.in_ok-vec.ensures.items_if_clones_equal (λ y h. search rules) in
    let literals = c.new.ensures.items in
    subst (λ vs. IsTrail vs c.new.result.items) (sym values) (subst (IsTrail (replicate c.args.nodes None)) (sym literals) (no_trail c.args.nodes))
