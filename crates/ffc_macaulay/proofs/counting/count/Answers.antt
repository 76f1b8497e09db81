use Rattle.std.proofs.Common.{◌≡◌, ◌+◌, ◌-◌, ◌*◌, ◌/◌, sym, ap, ◌∙◌, arith}
use Rattle.ffc_field.specs.Binomial.{choose, choose-none}
use Rattle.ffc_macaulay.proofs.CountLemmas.{grows_variables, more_than_variables, next_count, one_constant, product_fits}
use Rattle.ffc_macaulay.proofs.counting.count.Goals as goal

pub returns-then-degree-eq0 : goal.returns-then-degree-eq0
returns-then-degree-eq0 c = (sym (ap (λ d. choose (d + c.args.variables) c.args.variables) c.if-degree-eq0.true ∙ one_constant c.args.variables), omega arith)

pub loop-k-init : goal.loop-k-init
loop-k-init c = record { count_is = sym (choose-none (c.args.degree + 0)); small = omega arith }

pub overflow_add-count : goal.overflow_add-count
overflow_add-count c =
    let below = more_than_variables c.args.degree c.loop-k.k (omega (arith, c.if-degree-eq0.false)) in
    omega (arith, below, c.from.ensures, c.loop-k.invariant.count_is, c.loop-k.invariant.small, c.requires)

pub overflow_mul-count : goal.overflow_mul-count
overflow_mul-count c =
    let below = more_than_variables c.args.degree c.loop-k.k (omega (arith, c.if-degree-eq0.false)) in
    let fits = product_fits c.loop-k.count (c.from.result + (c.loop-k.k + 1)) c.loop-k.invariant.small
    (omega (arith, below, c.from.ensures, c.loop-k.invariant.count_is, c.loop-k.invariant.small, c.requires)) in
    omega (arith, fits)

pub returns-then-count-from : goal.returns-then-count-from
returns-then-count-from c =
    let d = c.args.degree in
    let k = c.loop-k.k in
    let n = c.args.variables in
    let next = next_count d k c.loop-k.count c.loop-k.invariant.count_is in
    let same : c.loop-k.count * (c.from.result + (k + 1)) / (k + 1) ≡ choose (d + (k + 1)) (k + 1) = ap (λ f. c.loop-k.count * (f + (k + 1)) / (k + 1)) c.from.ensures ∙ next in
    let grows = grows_variables d (k + 1) (n - (k + 1)) in
    let all : choose (d + (k + 1 + (n - (k + 1)))) (k + 1 + (n - (k + 1))) ≡ choose (d + n) n = ap (λ i. choose (d + i) i) (let e : k + 1 + (n - (k + 1)) ≡ n = omega (arith, c.loop-k-test.true) in e) in
    omega (arith, same, grows, all, c.if-count-from.true, c.from-in-loop-k.ensures)

pub loop-k-preserved : goal.loop-k-preserved
loop-k-preserved c =
    let k = c.loop-k.k in
    record {
      count_is = ap (λ f. c.loop-k.count * (f + (k + 1)) / (k + 1)) c.from.ensures ∙ next_count c.args.degree k c.loop-k.count c.loop-k.invariant.count_is;
      small = omega (arith, c.if-count-from.false, c.from-in-loop-k.ensures);
    }
