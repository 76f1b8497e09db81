use Rattle.std.proofs.Common.{◌≡◌, ◌+◌, ◌*◌, ◌<◌, [], length, drop, sym, ap, ap₂, ◌∙◌, arith}
use Rattle.std.proofs.lemmas.Bool.{ltb-true}
use Rattle.std.proofs.lemmas.List.Sums.{sum_by-cons}
use Rattle.ffc_trees.specs.TreeLines.{Multiple, line_at, is_there, products_in}
use Rattle.ffc_cktree.proofs.SumLemmas.{left_at, get_or-any, all_parts, over_limit}
use Rattle.ffc_cktree.proofs.sums.are_few.Goals as goal

pub returns-then-products-gt-MOST_PRODUCTS : goal.returns-then-products-gt-MOST_PRODUCTS
returns-then-products-gt-MOST_PRODUCTS g c =
    let lines = c.args.lines.now in
    let x = c.multiple-item.result in
    let i = c.loop-multiple.multiple-index in
    let inv = c.loop-multiple.invariant in
    let left = left_at c.args.multiples.now i x c.loop-multiple-test.true c.multiple-item.is in
    let parts = all_parts (λ (m : Multiple). is_there lines m.0) c.args.multiples.now i x c.loop-multiple-test.true c.multiple-item.is inv.there in
    let within : x.0 < length lines = ltb-true x.0 (length lines) parts.0 in
    let line : c.index-lines-multiple.result ≡ line_at lines x.0 = c.index-lines-multiple.is ∙ get_or-any lines x.0 _ [] within in
    let size : length c.as_slice.result.now * c.terms.result ≡ length x.1 * length (line_at lines x.0) =
    ap₂ (λ a b. a * b) (ap length c.as_slice.ensures) (c.terms.ensures.count ∙ ap length line) in
    let rest = products_in lines (drop (i + 1) c.args.multiples.now) in
    let all : c.loop-multiple.products + (length x.1 * length (line_at lines x.0) + rest) ≡ products_in lines c.args.multiples.now =
    ap (λ k. c.loop-multiple.products + k) (sym (sum_by-cons (λ (m : Multiple). length m.1 * length (line_at lines m.0)) x (drop (i + 1) c.args.multiples.now)))
    ∙ ap (λ ms. c.loop-multiple.products + products_in lines ms) (sym left) ∙ inv.so_far in
    over_limit 4194304 (products_in lines c.args.multiples.now) (omega (arith, size, all, c.if-products-gt-MOST_PRODUCTS.true))

pub loop-multiple-preserved : goal.loop-multiple-preserved
loop-multiple-preserved g c =
    let lines = c.args.lines.now in
    let x = c.multiple-item.result in
    let i = c.loop-multiple.multiple-index in
    let inv = c.loop-multiple.invariant in
    let left = left_at c.args.multiples.now i x c.loop-multiple-test.true c.multiple-item.is in
    let parts = all_parts (λ (m : Multiple). is_there lines m.0) c.args.multiples.now i x c.loop-multiple-test.true c.multiple-item.is inv.there in
    let within : x.0 < length lines = ltb-true x.0 (length lines) parts.0 in
    let line : c.index-lines-multiple.result ≡ line_at lines x.0 = c.index-lines-multiple.is ∙ get_or-any lines x.0 _ [] within in
    let size : length c.as_slice.result.now * c.terms.result ≡ length x.1 * length (line_at lines x.0) =
    ap₂ (λ a b. a * b) (ap length c.as_slice.ensures) (c.terms.ensures.count ∙ ap length line) in
    let rest = products_in lines (drop (i + 1) c.args.multiples.now) in
    let all : c.loop-multiple.products + (length x.1 * length (line_at lines x.0) + rest) ≡ products_in lines c.args.multiples.now =
    ap (λ k. c.loop-multiple.products + k) (sym (sum_by-cons (λ (m : Multiple). length m.1 * length (line_at lines m.0)) x (drop (i + 1) c.args.multiples.now)))
    ∙ ap (λ ms. c.loop-multiple.products + products_in lines ms) (sym left) ∙ inv.so_far in
    record {
      few = c.if-products-gt-MOST_PRODUCTS.false;
      there = parts.1;
      so_far = omega (arith, size, all);
    }
