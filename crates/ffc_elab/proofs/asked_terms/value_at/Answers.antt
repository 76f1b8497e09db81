use Rattle.std.proofs.Common.{[], subst}
use Rattle.ffc_term.specs.declared.node.Sort.{Sort}
use Rattle.ffc_smt.specs.Meaning.{Env}
use Rattle.ffc_smt.specs.Scopes.{scope_of}
use Rattle.ffc_smt.specs.TermReading.{term_read}
use Rattle.ffc_terms.specs.TermAnswers.{ReadsTerm}
use Rattle.ffc_elab.proofs.AskedLemmas.{value_stops, value_reads}
use Rattle.ffc_elab.proofs.asked_terms.value_at.Goals as goal

pub returns-in-Err : goal.returns-in-Err
returns-in-Err c = λ nodes s tree rest scope at.
    let symbols = c.args.symbols.now in
    value_stops nodes symbols c.args.words.now s tree rest c.args.at at c.in-Err.stop
    (subst (ReadsTerm nodes symbols [] (term_read 65536 (scope_of s) [] tree) tree c.args.at) c.in-Err.is
    (subst (λ (v : Env Sort). ReadsTerm nodes symbols v (term_read 65536 (scope_of s) v tree) tree c.args.at c.term_at.result) c.new.ensures
    (c.term_at.ensures nodes (scope_of s) tree rest scope at)))

pub returns-in-Ok : goal.returns-in-Ok
returns-in-Ok c = λ nodes s tree rest scope at.
    let symbols = c.args.symbols.now in
    value_reads nodes symbols c.args.words.now s tree rest c.args.at at c.in-Ok.term c.new-in-Ok.result
    (subst (ReadsTerm nodes symbols [] (term_read 65536 (scope_of s) [] tree) tree c.args.at) c.in-Ok.is
    (subst (λ (v : Env Sort). ReadsTerm nodes symbols v (term_read 65536 (scope_of s) v tree) tree c.args.at c.term_at.result) c.new.ensures
    (c.term_at.ensures nodes (scope_of s) tree rest scope at)))
    c.new-in-Ok.ensures
