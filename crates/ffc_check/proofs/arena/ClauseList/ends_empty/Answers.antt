use Rattle.std.proofs.Common.{◌≡◌, ◌-◌, length, slice_get, sym, ap, ◌∙◌, arith}
use Rattle.ffc_check.proofs.ArenaLemmas.{length-clauses_in, ends_empty-last}
use Rattle.ffc_check.proofs.arena.ClauseList.ends_empty.Goals as goal

pub clause-requires : goal.clause-requires
clause-requires c =
    let inside = c.self.inside in
    omega (arith, c.if-count-eq0.false, ap length c.self.view_is, length-clauses_in inside.literals.items 0 inside.ends.items, c.len-count.ensures, inside.ends.ok.0)

pub returns : goal.returns
returns c =
    let inside = c.self.inside in
    let all = c.args.self.now in
    let count : c.len-count.result ≡ length all = c.len-count.ensures ∙ inside.ends.ok.0 ∙ sym (length-clauses_in inside.literals.items 0 inside.ends.items) ∙ ap length c.self.view_is in
    c.is_empty.ensures ∙ sym (ends_empty-last all c.clause.result.now (omega (arith, c.if-count-eq0.false)) (ap (λ n. slice_get all (n - 1)) (sym count) ∙ c.clause.ensures))
