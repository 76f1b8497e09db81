use Rattle.std.proofs.Common.{◌+◌, ◌∷◌, [], Err, sym, ap, ◌∙◌, subst}
use Rattle.ffc_term.specs.declared.node.Sort.TheVariants as sort
use Rattle.ffc_smt.specs.Trees.{Leaf, name_of}
use Rattle.ffc_smt.specs.CommandReading.{assumed}
use Rattle.ffc_words.specs.Words.{word_at}
use Rattle.ffc_elab.specs.SortedTerms.{ReadsOfSort}
use Rattle.ffc_elab.specs.Asked.{IsNegation}
use Rattle.ffc_elab.proofs.AskedLemmas.{no_negation, name_there, negation_stops, negation_reads}
use Rattle.ffc_elab.proofs.assumptions.negation_at.Goals as goal

pub returns-then-not-is_negation : goal.returns-then-not-is_negation
returns-then-not-is_negation c = λ nodes s opening closing items rest scope at.
    let is = subst (IsNegation items) c.if-not-is_negation.true (c.is_negation.ensures.is opening closing items rest at) in
    no_negation nodes c.args.symbols.now c.args.words.now s opening closing items rest c.args.at at is ∙ ap Err (sym c.fault.ensures)

pub returns-in-Err : goal.returns-in-Err
returns-in-Err c = λ nodes s opening closing items rest scope at.
    let symbols = c.args.symbols.now in
    let words = c.args.words.now in
    let is = subst (IsNegation items) c.if-not-is_negation.false (c.is_negation.ensures.is opening closing items rest at) in
    negation_stops nodes symbols words s opening closing items rest c.args.at at is c.in-Err.stop
    (subst (ReadsOfSort nodes symbols [] sort.Bool (assumed s (word_at words c.args.at) is.1 (name_of is.1)) (Leaf is.1) (c.args.at + 2)) c.in-Err.is
    (c.boolean_name.ensures nodes s is.1 (closing ∷ rest) scope (name_there nodes symbols words s opening closing items rest c.args.at at is)))

pub returns-in-Ok-negated : goal.returns-in-Ok-negated
returns-in-Ok-negated c = λ nodes s opening closing items rest scope at.
    let symbols = c.args.symbols.now in
    let words = c.args.words.now in
    let is = subst (IsNegation items) c.if-not-is_negation.false (c.is_negation.ensures.is opening closing items rest at) in
    negation_reads nodes symbols words s opening closing items rest c.args.at at is c.in-Ok.term c.in-Ok-negated.term
    (subst (ReadsOfSort nodes symbols [] sort.Bool (assumed s (word_at words c.args.at) is.1 (name_of is.1)) (Leaf is.1) (c.args.at + 2)) c.in-Ok.is
    (c.boolean_name.ensures nodes s is.1 (closing ∷ rest) scope (name_there nodes symbols words s opening closing items rest c.args.at at is)))
    c.in-Ok-negated.ensures
