use Rattle.std.proofs.Common.{◌≡◌, ◌+◌, ◌<◌, ◌≤◌, [], ◌∷◌, ◌++◌, All, length, drop, get_or, reverse, refl, sym, ap, ap₂, ◌∙◌, subst, arith, length-append}
use Rattle.std.proofs.lemmas.List.{length-reverse, reverse-reverse}
use Rattle.std.proofs.lemmas.List.Elements.{All-cons, All-head, All-tail}
use Rattle.ffc_refutation.specs.declared.combination.Determined.{Determined}
use Rattle.ffc_refutation.specs.Written.{IsNumbered}
use Rattle.ffc_values.specs.Written.{next_line, known_sum, known_lines, knowns_of}
use Rattle.ffc_values.proofs.Steps.{popped, knowns_next, knowns_more, lines_next}
use Rattle.ffc_values.proofs.tree.write_knowns.Goals as goal

pub loop-value-init : goal.loop-value-init
loop-value-init c =
    let ds = c.args.determined.items in
    let old = c.args.sums.now in
    let e : reverse c.reverse.new.self.items ≡ ds = ap reverse c.reverse.ensures.items ∙ reverse-reverse ds in
    record {
      knowns = ap₂ (λ a b. a ++ knowns_of (next_line old) c.args.variables.now b) c.new-knowns.ensures.items e;
      first = refl;
      lines = ap (λ b. old.lines.items ++ known_lines (next_line old) b) e;
      pending = c.requires.none;
      numbered = λ all. subst (All (λ (d : Determined). All IsNumbered d.summands.items)) e all;
      terms = subst (All (λ (d : Determined). length d.summands.items ≤ 4096)) (sym e) c.requires.terms;
      place = omega (arith, ap length c.reverse.ensures.items, length-reverse ds);
      few = omega (arith, ap length c.reverse.ensures.items, length-reverse ds);
    }

pub loop-value-preserved : goal.loop-value-preserved
loop-value-preserved c =
    let old = c.loop-value.sums in
    let new = c.write_sum.new.self in
    let i = c.loop-value.invariant in
    let d : Determined = c.in-Some.field-0 in
    let left = c.pop.new.self.items in
    let xs = c.args.variables.now in
    let place = c.loop-value.place in
    let e : c.loop-value.left.items ≡ left ++ d ∷ [] = c.in-Some.ensures.items in
    let next : reverse c.loop-value.left.items ≡ d ∷ reverse left = popped c.loop-value.left.items left d e in
    let first : new.first ≡ old.first = c.in_ok-line.ensures.first in
    let lines : new.lines.items ≡ old.lines.items ++ known_sum (next_line old) d =
    c.in_ok-line.ensures.lines in
    let long = ap length e in
    let more = length-append left (d ∷ []) in
    let inside : place < length xs = omega (arith, i.place, long, more, c.requires.within) in
    record {
      knowns =
          knowns_more c.loop-value.knowns.items c.push.new.self.items (record { variable = get_or xs place 0; line = c.in_ok-line.line; value = d.value }) (knowns_of (next_line old) (drop place xs) (d ∷ reverse left))
          (knowns_of (next_line new) (drop (place + 1) xs) (reverse left)) (knowns_of (next_line c.args.sums.now) xs c.args.determined.items) c.in_ok-push.ensures.items
          (knowns_next old new d xs place (get_or xs place 0) c.in_ok-line.line (reverse left) first lines c.in_ok-line.ensures.number inside refl)
          (subst (λ ds. c.loop-value.knowns.items ++ knowns_of (next_line old) (drop place xs) ds ≡ knowns_of (next_line c.args.sums.now) xs c.args.determined.items) next i.knowns);
      first = first ∙ i.first;
      lines = lines_next old new d (reverse left) first lines ∙ subst (λ ds. old.lines.items ++ known_lines (next_line old) ds ≡ c.args.sums.now.lines.items ++ known_lines (next_line c.args.sums.now) c.args.determined.items) next i.lines;
      pending = c.in_ok-line.ensures.pending;
      numbered = λ rest. i.numbered (subst (All (λ (d : Determined). All IsNumbered d.summands.items)) (sym next) (All-cons (λ (d : Determined). All IsNumbered d.summands.items) d (reverse left) c.in_ok-line.ensures.numbered rest));
      terms = All-tail (λ (d : Determined). length d.summands.items ≤ 4096) d (reverse left) (subst (All (λ (d : Determined). length d.summands.items ≤ 4096)) next i.terms);
      place = omega (arith, i.place, long, more);
      few = omega (arith, i.few, long, more, c.in_ok-line.ensures.few, first, All-head (λ (d : Determined). length d.summands.items ≤ 4096) d (reverse left) (subst (All (λ (d : Determined). length d.summands.items ≤ 4096)) next i.terms));
    }

pub write_sum-requires-clause-room : goal.write_sum-requires-clause-room
write_sum-requires-clause-room c =
    let d : Determined = c.in-Some.field-0 in
    let left = c.pop.new.self.items in
    let e : c.loop-value.left.items ≡ left ++ d ∷ [] = c.in-Some.ensures.items in
    let next : reverse c.loop-value.left.items ≡ d ∷ reverse left = popped c.loop-value.left.items left d e in
    omega (
      arith,
      c.loop-value.invariant.few,
      ap length e,
      length-append left (d ∷ []),
      c.requires.room,
      All-head (λ (d : Determined). length d.summands.items ≤ 4096) d (reverse left) (subst (All (λ (d : Determined). length d.summands.items ≤ 4096)) next c.loop-value.invariant.terms),
    )
