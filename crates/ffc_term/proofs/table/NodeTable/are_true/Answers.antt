use Rattle.std.proofs.Common.{◌≡◌, ◌+◌, ℕ, false, get_or, drop, sym, ap, ◌∙◌, subst, arith}
use Rattle.std.specs.List.{list_all}
use Rattle.std.proofs.lemmas.List.Folds.{list_all_at}
use Rattle.ffc_term.specs.Values.{truth, value_at}
use Rattle.ffc_term.proofs.ValueLemmas.{closed_children_within, next_value, eval_step}
use Rattle.ffc_term.proofs.RootLemmas.{AreBefore, before_one_more, before_same, none_left, one_passed, all_passed}
use Rattle.ffc_term.proofs.table.NodeTable.are_true.Goals as goal
use Rattle.ffc_term.proofs.table.NodeTable.are_true.Goals.{then-next-roots+then-roots-next+else-not-truth, else-next-roots, else-next-roots-via-then-next-roots+else-roots-next, else-next-roots-via-else-next-roots}

pub value_at-value-requires-clause-within : goal.value_at-value-requires-clause-within
value_at-value-requires-clause-within c = λ n at.
    closed_children_within c.args.self.now c.args.nodes.now c.loop-id.id-index _ n c.requires.closed c.loop-id-test.true (c.loop-id.invariant.held.long ∙ c.requires.long) at

pub returns-then-not-truth : goal.returns-then-not-truth
returns-then-not-truth c =
    let ns = c.args.self.now in
    let A = c.args.values.now in
    let value = next_value ns A c.args.nodes.now c.loop-id.id-index _ _ _ c.requires.closed c.value_at-value.ensures.valid c.loop-id-test.true c.loop-id.invariant.held c.value_at-value.ensures.value in
    let off : truth (value_at ns A (get_or c.args.roots.now c.loop-id.next 0)) ≡ false =
    ap (λ id. truth (value_at ns A id)) c.if-roots-next.true ∙ sym (ap truth value) ∙ sym c.truth.ensures ∙ c.if-not-truth.true in
    sym (list_all_at (λ id. truth (value_at ns A id)) c.args.roots.now c.loop-id.next 0 c.if-next-roots.true off)

pub loop-id-preserved : goal.loop-id-preserved
loop-id-preserved c =
    let ns = c.args.self.now in
    let A = c.args.values.now in
    let nodes = c.args.nodes.now in
    let roots = c.args.roots.now in
    let i = c.loop-id.id-index in
    let next = c.loop-id.next in
    let f = λ (id : ℕ). truth (value_at ns A id) in
    let known = c.loop-id.invariant in
    let value = next_value ns A nodes i _ _ _ c.requires.closed c.value_at-value.ensures.valid c.loop-id-test.true known.held c.value_at-value.ensures.value in
    record {
      held = eval_step ns A nodes i _ _ _ c.requires.closed c.value_at-value.ensures.valid c.requires.long c.loop-id-test.true known.held c.value_at-value.ensures.value;
      before = elim c.if-next-roots.branch [
        | then-next-roots+then-roots-next+else-not-truth w ↦ subst (λ k. AreBefore nodes roots (i + 1) k) (sym w.next-is) (before_one_more nodes roots i next c.requires.increasing w.if-roots-next.true known.before)
        | else-next-roots w ↦ subst (λ k. AreBefore nodes roots (i + 1) k) (sym w.next-is) (elim w.else-next-roots.branch [
          | else-next-roots-via-then-next-roots+else-roots-next w' ↦ before_same nodes roots i next c.requires.closed.increasing c.requires.among w'.if-roots-next.false known.before
          | else-next-roots-via-else-next-roots w' ↦ λ j early inside. absurd (omega (arith, w'.if-next-roots.false))
        ])
      ];
      rest = elim c.if-next-roots.branch [
        | then-next-roots+then-roots-next+else-not-truth w ↦ subst (λ k. list_all f (drop k roots) ≡ list_all f roots) (sym w.next-is)
            (one_passed f roots next (list_all f roots) w.if-next-roots.true (ap f w.if-roots-next.true ∙ sym (ap truth value) ∙ sym w.truth.ensures ∙ w.if-not-truth.false) known.rest)
        | else-next-roots w ↦ subst (λ k. list_all f (drop k roots) ≡ list_all f roots) (sym w.next-is) known.rest
      ];
    }

pub returns : goal.returns
returns c =
    let before = c.loop-id.invariant.before in
    all_passed (λ id. truth (value_at c.args.self.now c.args.values.now id)) c.args.roots.now c.loop-id.next _
    (none_left c.args.nodes.now c.args.roots.now c.loop-id.id-index c.loop-id.next c.loop-id-test.false c.requires.among before) c.loop-id.invariant.rest
