use Rattle.std.proofs.Common.{[], subst}
use Rattle.ffc_term.specs.declared.node.Sort.TheVariants as sort
use Rattle.ffc_smt.specs.Trees.{Leaf, Word, name_of}
use Rattle.ffc_smt.specs.CommandReading.{assumed}
use Rattle.ffc_elab.specs.SortedTerms.{ReadsOfSort}
use Rattle.ffc_elab.proofs.AskedLemmas.{leaf_word, name_stops, name_is}
use Rattle.ffc_elab.proofs.assumptions.name_alone.Goals as goal

pub returns-in-Err : goal.returns-in-Err
returns-in-Err c = λ nodes s w rest scope at.
    let symbols = c.args.symbols.now in
    name_stops nodes symbols c.args.words.now s w rest c.args.at at c.in-Err.stop
    (subst (ReadsOfSort nodes symbols [] sort.Bool (assumed s w w (name_of w)) (Leaf w) c.args.at) c.in-Err.is
    (subst (λ (v : Word). ReadsOfSort nodes symbols [] sort.Bool (assumed s v w (name_of w)) (Leaf w) c.args.at c.boolean_name.result) (leaf_word c.args.words.now c.args.at w rest at)
    (c.boolean_name.ensures nodes s w rest scope at)))

pub returns-in-Ok : goal.returns-in-Ok
returns-in-Ok c = λ nodes s w rest scope at.
    let symbols = c.args.symbols.now in
    name_is nodes symbols c.args.words.now s w rest c.args.at at c.in-Ok.term c.new.result
    (subst (ReadsOfSort nodes symbols [] sort.Bool (assumed s w w (name_of w)) (Leaf w) c.args.at) c.in-Ok.is
    (subst (λ (v : Word). ReadsOfSort nodes symbols [] sort.Bool (assumed s v w (name_of w)) (Leaf w) c.args.at c.boolean_name.result) (leaf_word c.args.words.now c.args.at w rest at)
    (c.boolean_name.ensures nodes s w rest scope at)))
    c.new.ensures
