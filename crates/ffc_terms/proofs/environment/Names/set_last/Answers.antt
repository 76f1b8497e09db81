use Rattle.std.proofs.Common.{◌≡◌, ◌-◌, length, suc, arith, rules}
use Rattle.ffc_terms.proofs.PushLemmas.{index_set_last, env_set_last}
use Rattle.ffc_terms.proofs.environment.Names.set_last.Goals as goal

pub invariant_of-self : goal.invariant_of-self
invariant_of-self g c =
    let l : length c.self.inside.entries.items ≡ suc (c.len-count.result - 1) = omega (arith, c.len-count.ensures) in
    index_set_last c.self.inside.entries.items (c.len-count.result - 1) c.index_mut.result.now c.args.value c.self.inside.index l (search rules) c.self.invariant

pub returns-then-count-gt0 : goal.returns-then-count-gt0
returns-then-count-gt0 g c =
    let l : length c.self.inside.entries.items ≡ suc (c.len-count.result - 1) = omega (arith, c.len-count.ensures) in
    env_set_last c.self.inside.entries.items (c.len-count.result - 1) c.index_mut.result.now c.args.value c.args.self.now l (search rules) c.self.view_is
