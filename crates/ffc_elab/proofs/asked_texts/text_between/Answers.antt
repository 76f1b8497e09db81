use Rattle.std.proofs.Common.{◌≡◌, ◌++◌, ◌+◌, ap, sym, ◌∙◌, subst, arith}
use Rattle.ffc_lex.specs.declared.tokens.TokenKind.{TokenKind}
use Rattle.ffc_smt.specs.Answering.{space_between, text_of}
use Rattle.ffc_words.specs.Words.{word_at}
use Rattle.ffc_elab.proofs.TextLemmas.{coming, spelled, text_goes_on, text_ends}
use Rattle.ffc_elab.proofs.asked_texts.text_between.Goals as goal

pub loop-i-preserved : goal.loop-i-preserved
loop-i-preserved c = λ few.
    let words = c.args.words.now in
    let w = word_at words c.loop-i.i in
    let before = c.loop-i.before in
    let old = c.loop-i.bytes.items in
    let put : c.push_word.new.bytes.items ≡ old ++ (space_between before w.kind ++ w.bytes) =
    c.in_ok-push_word.ensures ∙ ap (λ k. old ++ (space_between before k ++ c.bytes.result.now)) c.kind-kind.ensures ∙ ap (λ b. old ++ (space_between before w.kind ++ b)) c.bytes.ensures in
    subst (λ (k : TokenKind). c.push_word.new.bytes.items ++ spelled k (coming words (c.loop-i.i + 1) c.args.end) ≡ text_of (coming words c.args.start c.args.end)) (sym c.kind-kind.ensures)
    (text_goes_on words c.loop-i.i c.args.end before old c.push_word.new.bytes.items c.loop-i-test.true few put ∙ c.loop-i.invariant few)

pub returns : goal.returns
returns c = λ tree rest at long.
    let words = c.args.words.now in
    let last : c.loop-i.i ≡ c.args.end = omega (arith, long, c.loop-i.auto.i, c.loop-i.auto.i-end, c.loop-i-test.false) in
    c.from_vec.ensures
    ∙ text_ends words c.args.start c.args.end c.loop-i.before c.loop-i.bytes.items tree rest at long (λ few.
    subst (λ i. c.loop-i.bytes.items ++ spelled c.loop-i.before (coming words i c.args.end) ≡ text_of (coming words c.args.start c.args.end)) last (c.loop-i.invariant few))
