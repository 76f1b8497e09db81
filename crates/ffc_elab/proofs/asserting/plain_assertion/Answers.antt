use Rattle.std.proofs.Common.{[], None, refl, subst, Ok, Err}
use Rattle.ffc_term.specs.declared.node.Sort.{Sort}
use Rattle.ffc_smt.specs.Meaning.{Env}
use Rattle.ffc_elab.specs.SortedTerms.{ReadsAsTerm}
use Rattle.ffc_elab.proofs.AssertReading.{plain_stop, plain_read, Inner}
use Rattle.ffc_elab.proofs.asserting.plain_assertion.Goals as goal

pub returns-in-Err : goal.returns-in-Err
returns-in-Err c = λ s items closing scope at order n.
    let words = c.args.words.now in
    let symbols = c.args.symbols.now in
    plain_stop s words closing n s.nodes symbols items at c.in-Err.stop
    (subst (λ (v : Env Sort). ReadsAsTerm s.nodes symbols v (Inner s words closing n s.nodes symbols items at) (Err c.in-Err.stop)) c.new.ensures (c.in-Err.ensures s.nodes s [] items closing [] c.new.ensures scope at order))

pub returns-in-Ok : goal.returns-in-Ok
returns-in-Ok c = λ s items closing scope at order n.
    let words = c.args.words.now in
    let symbols = c.args.symbols.now in
    plain_read s words closing n s.nodes symbols items at (record { term = c.in-Ok.term; name = None }) refl
    (subst (λ (v : Env Sort). ReadsAsTerm s.nodes symbols v (Inner s words closing n s.nodes symbols items at) (Ok c.in-Ok.term)) c.new.ensures (c.in-Ok.ensures s.nodes s [] items closing [] c.new.ensures scope at order))
