use Rattle.std.proofs.Common.{◌≡◌, ◌<◌, nat_lt, true, length, slice_index_or, sym, ◌∙◌, subst, arith, rules}
use Rattle.std.proofs.lemmas.Bool.Decides.{nat_tests}
use Rattle.std.proofs.lemmas.List.{length-map}
use Rattle.ffc_propagation.specs.Rows.{clause_at}
use Rattle.ffc_propagation.specs.Settling.{clauses_of}
use Rattle.ffc_propagation.specs.Trails.{HasOneOpen}
use Rattle.ffc_propagation.proofs.SettlingLemmas.{one_open, clause_is}
use Rattle.ffc_propagation.proofs.settling.take_unit.Goals as goal

pub take-requires-clause-unit : goal.take-requires-clause-unit
take-requires-clause-unit c =
    let clauses = clauses_of c.args.clauses.now in
    let k = c.args.number in
    let on : nat_lt (slice_index_or c.args.occurrences.now.counts.items k 0) 2 ≡ true = sym c.is_unit.ensures ∙ c.if-not-is_unit.false in
    let few : slice_index_or c.args.occurrences.now.counts.items k 0 < 2 = grind (arith, nat_tests, on) in
    let long = length-map c.args.clauses.now (λ x. x.lits) in
    let inside : k < length clauses = omega (arith, long, c.requires.within) in
    let is : c.as_slice.result.now ≡ c.index-clauses-number.result.lits = search rules in
    let same : clause_at clauses k ≡ c.as_slice.result.now = clause_is c.args.clauses.now k c.index-clauses-number.result c.requires.within c.index-clauses-number.is ∙ sym is in
    subst (HasOneOpen c.args.trail.now.marks.items) same (one_open clauses c.requires.state.looked c.args.trail.now c.args.occurrences.now c.requires.state.state k inside few)
