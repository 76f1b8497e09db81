use Rattle.std.proofs.Common.{◌≡◌, List, [], get_or, ap, ap₂, ◌∙◌}
use Rattle.ffc_field.specs.Modular.{add_mod}
use Rattle.ffc_mono.specs.declared.mono.TheConstants.{DEGREE_LIMIT}
use Rattle.ffc_ring.specs.Polynomial.{Terms}
use Rattle.ffc_poly.proofs.LeadLemmas.{firsts_merged_are}
use Rattle.ffc_poly.proofs.tails.merge_firsts.Goals as goal

pub returns : goal.returns
returns g c =
    let p = g.F.Field.ORDER in
    let xs = c.args.tails.now.items in
    let i = c.args.i in
    let j = c.args.j in
    let r = c.requires in
    let sum : g.F.Field.value c.add.result ≡ add_mod p (get_or (get_or xs i []) 0 (0, [])).0 (get_or (get_or xs j []) 0 (0, [])).0 =
    c.add.ensures
    ∙ ap₂ (add_mod p)
    (c.coefficient_of-c.ensures ∙ ap (λ (ts : List Terms). (get_or (get_or ts i []) 0 (0, [])).0) c.as_slice.ensures.value)
    (c.coefficient_of-d.ensures ∙ ap (λ (ts : List Terms). (get_or (get_or ts j []) 0 (0, [])).0) c.as_slice-2.ensures.value) in
    let are =
    firsts_merged_are p g.O.MonoOrder.cmp DEGREE_LIMIT xs i j (g.F.Field.value c.add.result) c.drop_first_of.new.tails.items c.replace_first_of.new.tails.items
    r.ordered r.place r.some r.rival (g.met.F.Field.below c.add.result) sum c.drop_first_of.ensures c.replace_first_of.ensures in
    record { ordered = are.0; same = are.1; shorter = are.2 }
