use Rattle.std.proofs.Common.{sym, subst, eqb}
use Rattle.std.specs.List.Sorted.{IsStrictlyIncreasing}
use Rattle.std.proofs.lemmas.List.Filters.{dedup_is}
use Rattle.std.proofs.lemmas.Map.Keys.{IsStrictlyIncreasing-dedup}
use Rattle.ffc_term.proofs.RootLemmas.{sorted_once}
use Rattle.ffc_term.proofs.list.distinct.Goals as goal

pub returns-clause-increasing : goal.returns-clause-increasing
returns-clause-increasing c =
    let sorted = c.sort_unstable.new.self.items in
    let once = c.dedup.new.self.items in
    subst IsStrictlyIncreasing (sym (dedup_is eqb sorted once c.dedup.ensures.filtered)) (IsStrictlyIncreasing-dedup sorted c.sort_unstable.ensures.sorted)

pub returns-clause-same : goal.returns-clause-same
returns-clause-same c =
    sorted_once c.args.ids.now c.in_ok-sorted.sorted.items c.sort_unstable.new.self.items c.dedup.new.self.items (c.in_ok-sorted.ensures.items_if_clones_equal (λ x y e. e)) c.sort_unstable.ensures.permutation
    (dedup_is eqb c.sort_unstable.new.self.items c.dedup.new.self.items c.dedup.ensures.filtered)
