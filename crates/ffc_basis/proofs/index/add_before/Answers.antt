use Rattle.std.proofs.Common.{ℕ, ◌+◌, ◌<◌, All, Contains, subst, sym, arith}
use Rattle.std.specs.BTreeSet.{BTreeSet}
use Rattle.ffc_basis.proofs.PartnerLemmas.{HasBefore, has_inserted, has_passed, keys_inserted, below_inserted, has_all}
use Rattle.ffc_basis.proofs.index.add_before.Goals as goal
use Rattle.ffc_basis.proofs.index.add_before.Goals.{then-line-before+in_ok-insert, else-line-before}

pub loop-line-preserved : goal.loop-line-preserved
loop-line-preserved c =
    let before = c.args.before in
    let lines = c.args.lines.now in
    let k = c.loop-line.line-index in
    let old = c.loop-line.found.keys in
    elim c.if-line-before.branch [
      | then-line-before+in_ok-insert w ↦
          let new = w.insert.new.self.keys in
          record {
            kept = λ i has. subst (λ (s : BTreeSet ℕ). Contains s.keys i) (sym w.found-is) (keys_inserted old new _ i w.in_ok-insert.ensures.keys (c.loop-line.invariant.kept i has));
            added = subst (λ (s : BTreeSet ℕ). HasBefore before lines (k + 1) s.keys) (sym w.found-is)
                (has_inserted before lines k _ c.loop-line-test.true old new w.in_ok-insert.ensures.keys c.loop-line.invariant.added);
            only = λ all.
                subst (λ (s : BTreeSet ℕ). All (λ i. i < before) s.keys) (sym w.found-is)
                (below_inserted before old new _ w.in_ok-insert.ensures.keys w.if-line-before.true (c.loop-line.invariant.only all));
          }
      | else-line-before w ↦
          record {
            kept = λ i has. subst (λ (s : BTreeSet ℕ). Contains s.keys i) (sym w.found-is) (c.loop-line.invariant.kept i has);
            added = subst (λ (s : BTreeSet ℕ). HasBefore before lines (k + 1) s.keys) (sym w.found-is)
                (has_passed before lines k _ c.loop-line-test.true old w.if-line-before.false c.loop-line.invariant.added);
            only = λ all. subst (λ (s : BTreeSet ℕ). All (λ i. i < before) s.keys) (sym w.found-is) (c.loop-line.invariant.only all);
          }
    ]

pub returns-clause-added : goal.returns-clause-added
returns-clause-added c =
    has_all c.args.before c.loop-line.line-index c.args.lines.now c.loop-line.found.keys (omega (arith, c.loop-line-test.false)) c.loop-line.invariant.added
