use Rattle.std.proofs.Common.{◌≡◌, ◌-◌, ◌≤◌, ◌∷◌, length, drop, ap, ◌∙◌, sym, arith}
use Rattle.ffc_rules.specs.Cores.{clause_lines}
use Rattle.ffc_core.proofs.MarkLemmas.{left_before, clause_first, fewer_left, reached_more}
use Rattle.ffc_core.proofs.cores.reach_all.Goals as goal

pub overflow_sub-k : goal.overflow_sub-k
overflow_sub-k c =
    let i = c.loop-i.i in
    let x = c.index-lines-i.result in
    let left = left_before c.args.lines.now i x (omega (arith, c.loop-i-test.true)) c.loop-i.invariant.inside c.index-lines-i.is in
    let first = ap clause_lines left ∙ clause_first x (drop i c.args.lines.now) (sym c.is_clause.ensures ∙ c.if-is_clause.true) in
    omega (arith, ap length first, fewer_left (i - 1) c.args.lines.now, c.loop-i.invariant.left)

pub loop-i-preserved-then-is_clause : goal.loop-i-preserved-then-is_clause
loop-i-preserved-then-is_clause c =
    let i = c.loop-i.i in
    let k = c.loop-i.k in
    let x = c.index-lines-i.result in
    let lines = c.args.lines.now in
    let inv = c.loop-i.invariant in
    let left = left_before lines i x (omega (arith, c.loop-i-test.true)) inv.inside c.index-lines-i.is in
    let first : clause_lines (drop (i - 1) lines) ≡ x ∷ clause_lines (drop i lines) = ap clause_lines left ∙ clause_first x (drop i lines) (sym c.is_clause.ensures ∙ c.if-is_clause.true) in
    let some : 1 ≤ k = omega (arith, ap length first, fewer_left (i - 1) lines, inv.left) in
    record {
      inside = omega (arith, inv.inside);
      left = omega (arith, ap length first, inv.left, some);
      len = c.mark_hints.ensures.len ∙ inv.len;
      so_far = λ h inside.
          reached_more k x (clause_lines (drop i lines)) (clause_lines (drop (i - 1) lines)) h _ _ _ some first
          (inv.so_far (k - 1) (omega (arith, some, inv.left, c.requires.len))) (inv.so_far h inside) (c.mark_hints.ensures.marked h (omega (arith, inside, inv.len)));
    }

pub mark_hints-requires : goal.mark_hints-requires
mark_hints-requires c =
    let i = c.loop-i.i in
    let x = c.index-lines-i.result in
    let left = left_before c.args.lines.now i x (omega (arith, c.loop-i-test.true)) c.loop-i.invariant.inside c.index-lines-i.is in
    let first = ap clause_lines left ∙ clause_first x (drop i c.args.lines.now) (sym c.is_clause.ensures ∙ c.if-is_clause.true) in
    omega (arith, ap length first, fewer_left (i - 1) c.args.lines.now, c.loop-i.invariant.left, c.loop-i.invariant.len, c.requires.len)
