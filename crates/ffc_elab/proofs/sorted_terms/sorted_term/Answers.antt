use Rattle.std.proofs.Common.{sym, ap, subst, ◌∙◌, Err}
use Rattle.ffc_smt.specs.Faults.{word_fault}
use Rattle.ffc_smt.specs.Scopes.{scope_of}
use Rattle.ffc_smt.specs.TermReading.{term_read}
use Rattle.ffc_terms.specs.TermAnswers.{ReadsTerm}
use Rattle.ffc_elab.proofs.SortedTermLemmas.{front_at, sorted_stop, sorted_right, sorted_wrong}
use Rattle.ffc_elab.proofs.sorted_terms.sorted_term.Goals as goal

pub returns-in-Err : goal.returns-in-Err
returns-in-Err c = λ nodes s parameters tree rest same scope at.
    let symbols = c.args.symbols.now in
    sorted_stop nodes symbols c.args.locals s parameters c.args.wanted tree c.args.at same c.in-Err.stop
    (subst (ReadsTerm nodes symbols c.args.locals (term_read 65536 (scope_of s) c.args.locals tree) tree c.args.at) c.in-Err.is (c.term_at.ensures nodes (scope_of s) tree rest scope at))

pub returns-then-same_sort : goal.returns-then-same_sort
returns-then-same_sort c = λ nodes s parameters tree rest same scope at.
    let symbols = c.args.symbols.now in
    sorted_right nodes symbols c.args.locals s parameters c.args.wanted tree c.args.at same c.in-Ok.term
    (subst (ReadsTerm nodes symbols c.args.locals (term_read 65536 (scope_of s) c.args.locals tree) tree c.args.at) c.in-Ok.is (c.term_at.ensures nodes (scope_of s) tree rest scope at))
    (sym c.same_sort.ensures ∙ c.if-same_sort.true)

pub returns-else-same_sort : goal.returns-else-same_sort
returns-else-same_sort c = λ nodes s parameters tree rest same scope at.
    let symbols = c.args.symbols.now in
    sorted_wrong nodes symbols c.args.locals s parameters c.args.wanted tree c.args.at same c.in-Ok.term
    (subst (ReadsTerm nodes symbols c.args.locals (term_read 65536 (scope_of s) c.args.locals tree) tree c.args.at) c.in-Ok.is (c.term_at.ensures nodes (scope_of s) tree rest scope at))
    (sym c.same_sort.ensures ∙ c.if-same_sort.false)
    ∙ ap (λ w. Err (word_fault 10 w)) (sym (front_at c.args.words.now c.args.at tree rest at)) ∙ ap Err (sym c.fault.ensures)
