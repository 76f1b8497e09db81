use Rattle.std.proofs.Common.{Bool, List, ℕ, ◌≡◌, suc, ◌-◌, ◌^◌, ◌≤◌, min, length, is_some, ap, ◌∙◌, arith}
use Rattle.ffc_smt.specs.Meaning.{found}
use Rattle.ffc_words.specs.Words.{word_at}
use Rattle.ffc_elab.specs.Reading.{label_of}
use Rattle.ffc_elab.proofs.AssertReading.{word_capped}
use Rattle.ffc_elab.proofs.asserting.label_at.Goals as goal

pub returns : goal.returns
returns c =
    let words = c.args.words.now in
    let i = c.args.at in
    let test : List ℕ → Bool = λ n. is_some (found c.args.terms.now n) in
    let few : length words ≤ 2 ^ 64 - 1 = omega (arith, c.len-count.ensures, c.len-count.type_inv) in
    let one : c.saturating_add-name.result ≡ min (suc i) (2 ^ 64 - 1) = omega (arith, c.saturating_add-name.ensures) in
    let two : c.saturating_add-end.result ≡ min (suc (suc i)) (2 ^ 64 - 1) = omega (arith, c.saturating_add-end.ensures) in
    let three : c.saturating_add-last.result ≡ min (suc (suc (suc i))) (2 ^ 64 - 1) = omega (arith, c.saturating_add-last.ensures) in
    c.label_between.ensures
    ∙ ap (λ w. label_of test (word_at words i) w (word_at words c.saturating_add-end.result) (word_at words c.saturating_add-last.result)) (word_capped words (suc i) c.saturating_add-name.result few one)
    ∙ ap (λ w. label_of test (word_at words i) (word_at words (suc i)) w (word_at words c.saturating_add-last.result)) (word_capped words (suc (suc i)) c.saturating_add-end.result few two)
    ∙ ap (λ w. label_of test (word_at words i) (word_at words (suc i)) (word_at words (suc (suc i))) w) (word_capped words (suc (suc (suc i))) c.saturating_add-last.result few three)
