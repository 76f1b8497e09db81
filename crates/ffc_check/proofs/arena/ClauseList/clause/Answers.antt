use Rattle.std.proofs.Common.{◌<◌, length, get_or, Some, slice_get, slice_range, sym, ap, ap₂, ◌∙◌, arith}
use Rattle.ffc_check.specs.Arena.{start_of}
use Rattle.ffc_check.proofs.ArenaLemmas.{length-clauses_in, clause_at}
use Rattle.ffc_check.proofs.arena.ClauseList.clause.Goals as goal

pub bounds-start-requires-clause-inside : goal.bounds-start-requires-clause-inside
bounds-start-requires-clause-inside c =
    let inside = c.self.inside in
    omega (arith, c.requires, ap length c.self.view_is, length-clauses_in inside.literals.items 0 inside.ends.items, ap length c.as_slice.ensures.value)

pub returns : goal.returns
returns c =
    let literals = c.self.inside.literals.items in
    let ends = c.self.inside.ends.items in
    let k = c.args.k in
    let start = c.bounds-start.ensures.start ∙ ap (λ es. start_of 0 es k) c.as_slice.ensures.value in
    let end = c.bounds-start.ensures.end ∙ ap (λ es. get_or es k 0) c.as_slice.ensures.value in
    let inside : k < length ends = omega (arith, c.requires, ap length c.self.view_is, length-clauses_in literals 0 ends) in
    sym (ap (λ all. slice_get all k) c.self.view_is) ∙ clause_at literals 0 ends k inside
    ∙ ap Some (ap₂ (λ s e. slice_range literals s e) (sym start) (sym end) ∙ ap (λ xs. slice_range xs c.bounds-start.result.0 c.bounds-start.result.1) (sym c.deref.ensures.value))
