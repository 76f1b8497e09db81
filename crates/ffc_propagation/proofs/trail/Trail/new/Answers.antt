use Rattle.std.proofs.Common.{◌≡◌, None, replicate, ap, ◌∙◌, length, rules}
use Rattle.std.proofs.lemmas.List.{length-replicate}
use Rattle.ffc_propagation.proofs.TrailLemmas.{trail_none, forcing_none}
use Rattle.ffc_propagation.proofs.trail.Trail.new.Goals as goal

pub returns-clause-long : goal.returns-clause-long
returns-clause-long c =
    let marks : c.in_ok-vec.field-0.items ≡ replicate c.args.nodes None = c.in_ok-vec.ensures.items_if_clones_equal (λ y h. search rules) in
    ap length marks ∙ length-replicate c.args.nodes None

pub returns-clause-trail : goal.returns-clause-trail
returns-clause-trail c =
    let marks : c.in_ok-vec.field-0.items ≡ replicate c.args.nodes None = c.in_ok-vec.ensures.items_if_clones_equal (λ y h. search rules) in
    trail_none _ c.args.nodes marks c.new.ensures.items c.new-2.ensures.items

pub returns-clause-forced : goal.returns-clause-forced
returns-clause-forced c = λ k. forcing_none _ k c.new.ensures.items c.new-2.ensures.items
