use Rattle.std.proofs.Common.{◌≡◌, ◌<◌, ◌*◌, ◌+◌, ◌++◌, ◌∷◌, ℕ, [], false, length, get_or, slice_index_or, sym, ap, ◌∙◌, subst, arith, rules}
use Rattle.std.proofs.lemmas.List.{length-map, length_push}
use Rattle.ffc_propagation.specs.Counts.{IsCounted}
use Rattle.ffc_propagation.specs.Rows.{clause_at, AreRows}
use Rattle.ffc_propagation.specs.Settling.{clauses_of}
use Rattle.ffc_propagation.specs.Trails.{IsWithin}
use Rattle.ffc_propagation.proofs.RowLemmas.{rows_next}
use Rattle.ffc_propagation.proofs.SettlingLemmas.{clause_is, counted_more, place_within}
use Rattle.ffc_propagation.proofs.occurrences.Occurrences.of.Goals as goal

pub append_all-requires : goal.append_all-requires
append_all-requires c = λ k d inside.
    let i = c.loop-number.number in
    let is : c.as_slice.result.now ≡ c.index-clauses-number.result.lits = search rules in
    let same : clause_at (clauses_of c.args.clauses.now) i ≡ c.as_slice.result.now = clause_is c.args.clauses.now i c.index-clauses-number.result c.loop-number-test.true c.index-clauses-number.is ∙ sym is in
    let count = length-map c.args.clauses.now (λ x. x.lits) in
    let room : i < length (clauses_of c.args.clauses.now) = omega (arith, count, c.loop-number-test.true) in
    let within : IsWithin c.args.nodes c.as_slice.result.now = subst (IsWithin c.args.nodes) same (c.requires i [] room) in
    let place = place_within (get_or c.as_slice.result.now k d) c.args.nodes (within k d inside) in
    let wide = c.loop-number.invariant.wide in
    omega (arith, place, wide)

pub loop-number-preserved : goal.loop-number-preserved
loop-number-preserved c =
    let i = c.loop-number.number in
    let clauses = clauses_of c.args.clauses.now in
    let is : c.as_slice.result.now ≡ c.index-clauses-number.result.lits = search rules in
    let same : clause_at clauses i ≡ c.as_slice.result.now = clause_is c.args.clauses.now i c.index-clauses-number.result c.loop-number-test.true c.index-clauses-number.is ∙ sym is in
    let number : c.in-Ok.number ≡ i = search rules in
    let before : AreRows clauses c.in-Ok.number [] c.loop-number.rows = subst (λ n. AreRows clauses n [] c.loop-number.rows) (sym number) c.loop-number.invariant.rows in
    let now : AreRows clauses i (clause_at clauses i) c.append_all.new.rows =
    subst (λ n. AreRows clauses n (clause_at clauses i) c.append_all.new.rows) number
    (subst (λ ls. AreRows clauses c.in-Ok.number ls c.append_all.new.rows) (sym same) (c.in_ok-count.ensures.rows clauses before)) in
    let counted : IsCounted (λ m. false) (clause_at clauses i) c.in_ok-count.count = subst (λ ls. IsCounted (λ m. false) ls c.in_ok-count.count) (sym same) (c.in_ok-count.ensures.counted clauses before) in
    record {
      wide = c.in_ok-count.ensures.long ∙ c.loop-number.invariant.wide;
      long = ap length c.in_ok-push.ensures.items ∙ length_push c.loop-number.counts.items c.in_ok-count.count ∙ ap (λ n. n + 1) c.loop-number.invariant.long;
      rows = rows_next clauses i c.append_all.new.rows now;
      counted =
          subst (λ ns. (j : ℕ) → j < i + 1 → IsCounted (λ m. false) (clause_at clauses j) (slice_index_or ns j 0)) (sym c.in_ok-push.ensures.items)
          (counted_more clauses i c.loop-number.counts.items c.in_ok-count.count c.loop-number.invariant.long c.loop-number.invariant.counted counted);
    }
