use Rattle.std.proofs.Common.{◌≡◌, [], None, Some, Err, sym, ap, ◌∙◌, subst}
use Rattle.std.specs.Option.{option_copied}
use Rattle.ffc_term.specs.declared.node.Sort.{Sort}
use Rattle.ffc_term.specs.declared.node.Sort.TheVariants as sort
use Rattle.ffc_smt.specs.Trees.{Leaf, name_of}
use Rattle.ffc_smt.specs.Faults.{Read}
use Rattle.ffc_smt.specs.Terms.{Term}
use Rattle.ffc_smt.specs.Meaning.{Env}
use Rattle.ffc_smt.specs.CommandReading.{limits, term_of_sort}
use Rattle.ffc_words.specs.Words.{word_at}
use Rattle.ffc_elab.specs.SortedTerms.{ReadsOfSort}
use Rattle.ffc_elab.proofs.AskedLemmas.{leaf_word, name_reads, no_name_reads}
use Rattle.ffc_elab.proofs.assumptions.boolean_name.Goals as goal

pub returns-in-None : goal.returns-in-None
returns-in-None c = λ nodes s w rest scope at.
    let none : name_of w ≡ None = ap name_of (sym (leaf_word c.args.words.now c.args.at w rest at)) ∙ sym c.name_at.ensures ∙ ap option_copied c.in-None.is in
    no_name_reads s (word_at c.args.words.now c.args.opening) w none ∙ ap Err (sym c.fault.ensures)

pub returns-in-Some : goal.returns-in-Some
returns-in-Some c = λ nodes s w rest scope at.
    let symbols = c.args.symbols.now in
    let name = c.in-Some.field-0.now in
    let some : name_of w ≡ Some name = ap name_of (sym (leaf_word c.args.words.now c.args.at w rest at)) ∙ sym c.name_at.ensures ∙ ap option_copied c.in-Some.is in
    let empty : c.new.result ≡ [] = c.new.ensures in
    let read = subst (λ (v : Env Sort). ReadsOfSort nodes symbols v sort.Bool (term_of_sort limits s [] sort.Bool (Leaf w)) (Leaf w) c.args.at c.sorted_term.result) empty
    (c.sorted_term.ensures nodes s [] (Leaf w) rest empty scope at) in
    subst (λ (r : Read Term). ReadsOfSort nodes symbols [] sort.Bool r (Leaf w) c.args.at c.sorted_term.result) (name_reads s (word_at c.args.words.now c.args.opening) w name some) read
