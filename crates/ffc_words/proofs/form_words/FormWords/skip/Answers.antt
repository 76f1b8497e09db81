use Rattle.std.proofs.Common.{◌≡◌, sym, ap, ◌∙◌, arith}
use Rattle.ffc_words.specs.Words.{word_at}
use Rattle.ffc_words.specs.Skipping.{depth_after}
use Rattle.ffc_words.proofs.SkipLemmas.{size_at, some_word, one_deeper, word_goes_on, word_ends, none_left, place_within}
use Rattle.ffc_words.proofs.form_words.FormWords.skip.Goals as goal

pub returns-then-depth-eq0 : goal.returns-then-depth-eq0
returns-then-depth-eq0 c = λ tree rest h.
    let words = c.args.self.now in
    let e : depth_after (word_at words c.loop-i.i).kind c.loop-i.depth ≡ c.depth_after-depth.result = sym (c.depth_after-depth.ensures ∙ ap (λ k. depth_after k c.loop-i.depth) c.kind.ensures) in
    let whole = size_at words c.args.at tree rest h in
    let last = word_ends c.loop-i.depth c.depth_after-depth.result words c.loop-i.i (omega arith) e c.if-depth-eq0.true in
    omega (arith, whole, last, c.loop-i.invariant.going)

pub loop-i-preserved : goal.loop-i-preserved
loop-i-preserved c =
    let words = c.args.self.now in
    let e : depth_after (word_at words c.loop-i.i).kind c.loop-i.depth ≡ c.depth_after-depth.result = sym (c.depth_after-depth.ensures ∙ ap (λ k. depth_after k c.loop-i.depth) c.kind.ensures) in
    let next = word_goes_on c.loop-i.depth c.depth_after-depth.result words c.loop-i.i (omega arith) e (omega arith) in
    record { few = omega (arith, e, one_deeper (word_at words c.loop-i.i).kind c.loop-i.depth, c.loop-i.invariant.few); going = omega (arith, next, c.loop-i.invariant.going) }

pub returns : goal.returns
returns c = λ tree rest h.
    let whole = size_at c.args.self.now c.args.at tree rest h in
    let none = none_left c.loop-i.depth c.args.self.now c.loop-i.i (omega arith) in
    omega (arith, whole, none, some_word tree, place_within c.args.self.now c.args.at tree rest h, c.loop-i.invariant.going)
