use Rattle.std.proofs.Common.{arith}
use Rattle.std.proofs.lemmas.List.{drop_all}
use Rattle.ffc_elab.specs.Changes.{in_state, popped}
use Rattle.ffc_elab.proofs.LevelLemmas.{level_count}
use Rattle.ffc_elab.proofs.store.Store.reset_assertions.Goals as goal

pub returns : goal.returns
returns c = λ s h.
    let n = c.len-levels.result in
    let count = level_count (in_state s) c.args.self.now h in
    c.clear_base.ensures (popped n s) (drop_all n s.levels (omega (arith, count, c.len-levels.ensures, c.args.self.now.marks.ok.0))) (c.pop.ensures s h)
