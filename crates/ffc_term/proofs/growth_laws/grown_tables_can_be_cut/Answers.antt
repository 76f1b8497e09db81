use Rattle.std.proofs.lemmas.Option.{slice_get_within}
use Rattle.ffc_term.specs.declared.node.Node.TheVariants.{IteField, Eq}
use Rattle.ffc_term.specs.Tables.{second_equality}
use Rattle.ffc_term.proofs.NodeLemmas.{IsNodeAt-append_left}
use Rattle.ffc_term.proofs.growth_laws.grown_tables_can_be_cut.Goals as goal

pub returns : goal.returns
returns c = λ nodes more table t x a b at below.
    slice_get_within nodes (second_equality t a b) (Eq t b) (table.equalities t x a b (IsNodeAt-append_left nodes more t (IteField x a b) below at)).1
