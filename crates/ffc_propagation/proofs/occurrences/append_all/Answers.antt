use Rattle.std.proofs.Common.{◌≡◌, ◌+◌, ◌<◌, ◌≤◌, false, cond, ◌||◌, length, take, get_or, sym, ap, ◌∙◌, subst, arith}
use Rattle.std.proofs.lemmas.List.{take_more}
use Rattle.ffc_clause.specs.Clauses.{Literal, same_literal, is_among}
use Rattle.ffc_clause.specs.Marks.{place_of}
use Rattle.ffc_propagation.proofs.IndexLemmas.{kept_long}
use Rattle.ffc_propagation.proofs.RowLemmas.{among_push, append_rows, append_counted}
use Rattle.ffc_propagation.proofs.occurrences.append_all.Goals as goal
use Rattle.ffc_propagation.proofs.occurrences.append_all.Goals.{then-branch, else-branch}

pub loop-literal-preserved : goal.loop-literal-preserved
loop-literal-preserved c =
    let i = c.loop-literal.literal-index in
    let lits = c.args.literals.now in
    let x = get_or lits i (false, 0) in
    let n = c.loop-literal.count in
    let inside : i < length lits = c.loop-literal-test.true in
    let long : length c.append.new.self ≡ length c.loop-literal.rows = ap length c.in_ok-append.ensures.rows ∙ kept_long c.in_ok-append.field-0 c.loop-literal.rows c.place.result _ in
    let is = λ (m : Literal). ap (λ ls. is_among ls m) (take_more lits i (false, 0) inside) ∙ among_push (take i lits) x m in
    let within : place_of x < length c.args.rows.now = c.requires i (false, 0) inside in
    let room : c.place.result < length c.loop-literal.rows = omega (arith, within, c.place.ensures, c.loop-literal.invariant.long) in
    let count : c.if-branch.count ≡ cond c.in_ok-append.field-0 (n + 1) n = elim c.if-branch.branch as (λ _. c.if-branch.count ≡ cond c.in_ok-append.field-0 (n + 1) n) [
      | then-branch w ↦ w.count-is ∙ sym (ap (λ b. cond b (n + 1) n) w.if-branch.true)
      | else-branch w ↦ w.count-is ∙ sym (ap (λ b. cond b (n + 1) n) w.if-branch.false)
    ] in
    record {
      long = long ∙ c.loop-literal.invariant.long;
      few = elim c.if-branch.branch as (λ _. c.if-branch.count ≤ i + 1) [
        | then-branch w ↦ omega (arith, w.count-is, c.loop-literal.invariant.few)
        | else-branch w ↦ omega (arith, w.count-is, c.loop-literal.invariant.few)
      ];
      rows = λ clauses s. append_rows clauses c.args.clause (take i lits) (take (i + 1) lits) x is c.loop-literal.rows c.append.new.self c.in_ok-append.field-0 c.place.result c.place.ensures room
          c.in_ok-append.ensures.added c.in_ok-append.ensures.rows (c.loop-literal.invariant.rows clauses s);
      counted = λ clauses s. append_counted clauses c.args.clause (take i lits) (take (i + 1) lits) x is c.loop-literal.rows c.append.new.self c.in_ok-append.field-0 c.place.result c.place.ensures room
          c.in_ok-append.ensures.added c.in_ok-append.ensures.rows (c.loop-literal.invariant.rows clauses s) n c.if-branch.count count (c.loop-literal.invariant.counted clauses s);
    }
