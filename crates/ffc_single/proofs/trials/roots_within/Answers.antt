use Rattle.std.proofs.Common.{◌≡◌, ◌-◌, length, sym, ap, ◌∙◌, arith}
use Rattle.std.proofs.lemmas.List.{length-map}
use Rattle.ffc_roots.proofs.Cases.{part_was_spent}
use Rattle.ffc_single.proofs.RootLemmas.{few_roots, too_few_to_find, own_chains, left_to_try}
use Rattle.ffc_single.proofs.trials.roots_within.Goals as goal

pub returns-in_err-found-clause-few : goal.returns-in_err-found-clause-few
returns-in_err-found-clause-few g c = λ spent bound separated.
    (let coefs = c.coefs.result.now in
    let long : length coefs ≡ length c.args.g.now = sym (length-map coefs g.F.Field.value) ∙ ap length c.coefs.ensures.value in
    let enough = c.if-left-degree.false in
    too_few_to_find (length c.args.g.now - 1) c.left-left.result (c.left-left.result - (length coefs - 1)) bound c.args.meter.now c.new-own.result c.left-left.ensures
    (omega (arith, long)) (omega (arith, long, enough)) c.new-own.ensures
    (c.in_err-found.ensures.many (part_was_spent _ _ c.from_residual-in_err-found.result c.in_err-found.field-0.0 c.from_residual-in_err-found.ensures.1 spent) bound separated))

pub returns-clause-found : goal.returns-clause-found
returns-clause-found g c =
    let found = c.in_ok-found.ensures in
    let requires = c.requires in
    record {
      roots = found.roots;
      few = few_roots g.F.Field.ORDER g.met.F.Field.prime c.args.g.now c.in_ok-found.found.zeros c.coefs.ensures.normal (omega (arith, requires)) found.roots found.increasing;
      chain = found.chain;
      lower = found.lower;
      short = found.short;
      identity = found.identity;
    }

pub returns-clause-left : goal.returns-clause-left
returns-clause-left g c =
    let coefs = c.coefs.result.now in
    let long : length coefs ≡ length c.args.g.now = sym (length-map coefs g.F.Field.value) ∙ ap length c.coefs.ensures.value in
    let found = c.in_ok-found.ensures in
    let requires = c.requires in
    let enough = c.if-left-degree.false in
    let few = few_roots g.F.Field.ORDER g.met.F.Field.prime c.args.g.now c.in_ok-found.found.zeros c.coefs.ensures.normal (omega (arith, requires)) found.roots found.increasing in
    left_to_try (length c.args.g.now - 1) c.left-left.result (c.left-left.result - (length coefs - 1)) (length c.in_ok-found.found.zeros) c.count.result c.args.meter.now c.roots-found.new.meter c.charge.new.self
    c.in_ok-charge.ensures.charged c.count.ensures.count (own_chains (c.left-left.result - (length coefs - 1)) c.new-own.result c.roots-found.new.meter c.new-own.ensures c.roots-found.ensures.chained)
    (c.roots-found.ensures.metered.0.same_budget ∙ ap (λ s. s.budget) c.new-own.ensures) c.count.ensures.within (omega (arith, long)) (omega (arith, long, enough)) c.left-left.ensures (omega (arith, few))
