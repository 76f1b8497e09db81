use Rattle.std.proofs.Common.{◌≡◌, [], is_some, Some, refl, sym, ap, ◌∙◌, subst, Ok, Err}
use Rattle.ffc_term.specs.declared.node.Sort.{Sort}
use Rattle.ffc_term.specs.declared.node.Sort.TheVariants as sort
use Rattle.ffc_smt.specs.Meaning.{Env, found}
use Rattle.ffc_smt.specs.Scopes.{scope_of}
use Rattle.ffc_smt.specs.CommandReading.{is_taken, limits, term_of_sort}
use Rattle.ffc_words.specs.declared.faults.TakeStop.TheVariants as stop
use Rattle.ffc_words.specs.Words.{fault_of}
use Rattle.ffc_elab.specs.Reading.{label_at, result_as}
use Rattle.ffc_elab.specs.SortedTerms.{ReadsOfSort}
use Rattle.ffc_elab.specs.Asserting.{IsAssertion, ReadsAssertion}
use Rattle.ffc_elab.proofs.NamingLemmas.{meanings_taken}
use Rattle.ffc_elab.proofs.AssertReading.{labelled_shape, labelled_missing, labelled_stop, labelled_wrong, labelled_read, label_same, Read_as}
use Rattle.ffc_elab.proofs.asserting.named_assertion.Goals as goal

pub returns-in-RightParen : goal.returns-in-RightParen
returns-in-RightParen c = λ s items closing scope at order opens bang.
    let words = c.args.words.now in
    let h = labelled_shape words closing opens bang items at in
    subst (λ v. ReadsAssertion s.nodes c.args.symbols.now (Read_as s closing v) (Err (stop.Fault c.fault.result))) (sym h.shape)
    (labelled_missing s words h.opening h.mark h.close closing h.others h.marked h.proper at.closed order h.inside h.whole h.at (sym c.kind.ensures ∙ c.in-RightParen.is) ∙ ap Err (sym c.fault.ensures))

pub returns-in-Err : goal.returns-in-Err
returns-in-Err c = λ s items closing scope at order opens bang.
    let words = c.args.words.now in
    let symbols = c.args.symbols.now in
    let h = labelled_shape words closing opens bang items at in
    subst (λ v. ReadsAssertion s.nodes symbols (Read_as s closing v) (Err c.in-Err.stop)) (sym h.shape)
    (labelled_stop s words h.opening h.mark h.close closing h.others h.marked h.proper at.closed order s.nodes symbols (λ e. c.in_default.not-RightParen (c.kind.ensures ∙ e)) h.inside c.in-Err.stop h.whole h.at
    (λ t more tree.
    subst (λ (v : Env Sort). ReadsOfSort s.nodes symbols v sort.Bool (term_of_sort limits s [] sort.Bool t) t 4 (Err c.in-Err.stop)) c.new.ensures (c.in-Err.ensures s.nodes s [] t more c.new.ensures scope tree)))

pub returns-in-Err-label_at : goal.returns-in-Err-label_at
returns-in-Err-label_at c = λ s items closing scope at order opens bang.
    let words = c.args.words.now in
    let symbols = c.args.symbols.now in
    let x = c.in-Ok.term in
    let h = labelled_shape words closing opens bang items at in
    let f = fault_of c.in-Err-label_at.fault in
    let label : label_at (is_taken s) words x.next ≡ Err f =
    label_same (is_taken s) (λ n. is_some (found symbols.terms n)) (λ name. sym (meanings_taken s.nodes symbols.terms (scope_of s).names name scope.terms)) words x.next ∙ sym c.label_at.ensures ∙ ap (result_as (λ b. b.now)) c.in-Err-label_at.is in
    subst (λ v. ReadsAssertion s.nodes symbols (Read_as s closing v) (Err (stop.Fault c.in-Err-label_at.fault))) (sym h.shape)
    (labelled_wrong s words h.opening h.mark h.close closing h.others h.marked h.proper at.closed order s.nodes symbols (λ e. c.in_default.not-RightParen (c.kind.ensures ∙ e)) h.inside x f h.whole h.at
    (λ t more tree.
    subst (λ (v : Env Sort). ReadsOfSort s.nodes symbols v sort.Bool (term_of_sort limits s [] sort.Bool t) t 4 (Ok x)) c.new.ensures (c.in-Ok.ensures s.nodes s [] t more c.new.ensures scope tree)) label)

pub returns-in-Ok-label_at : goal.returns-in-Ok-label_at
returns-in-Ok-label_at c = λ s items closing scope at order opens bang.
    let words = c.args.words.now in
    let symbols = c.args.symbols.now in
    let x = c.in-Ok.term in
    let h = labelled_shape words closing opens bang items at in
    let label : label_at (is_taken s) words x.next ≡ Ok c.in-Ok-label_at.name.now =
    label_same (is_taken s) (λ n. is_some (found symbols.terms n)) (λ name. sym (meanings_taken s.nodes symbols.terms (scope_of s).names name scope.terms)) words x.next ∙ sym c.label_at.ensures ∙ ap (result_as (λ b. b.now)) c.in-Ok-label_at.is in
    subst (λ v. IsAssertion s.nodes symbols (Read_as s closing v) (record { term = x; name = Some c.in-Ok-label_at.name })) (sym h.shape)
    (labelled_read s words h.opening h.mark h.close closing h.others h.marked h.proper at.closed order s.nodes symbols (λ e. c.in_default.not-RightParen (c.kind.ensures ∙ e)) h.inside (record { term = x; name = Some c.in-Ok-label_at.name }) c.in-Ok-label_at.name.now h.whole h.at
    (λ t more tree.
    subst (λ (v : Env Sort). ReadsOfSort s.nodes symbols v sort.Bool (term_of_sort limits s [] sort.Bool t) t 4 (Ok x)) c.new.ensures (c.in-Ok.ensures s.nodes s [] t more c.new.ensures scope tree)) refl label)
