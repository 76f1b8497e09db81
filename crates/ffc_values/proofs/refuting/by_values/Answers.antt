use Rattle.std.proofs.Common.{rules, ◌≡◌, ◌≤◌, All, length, sym, ap, ap₂, ◌∙◌, subst}
use Rattle.std.specs.Option.{unwrap_or}
use Rattle.std.proofs.lemmas.Option.{unwrap_or-slice_get}
use Rattle.std.proofs.lemmas.List.{take_all}
use Rattle.std.proofs.lemmas.List.Elements.{recursion_from_All}
use Rattle.ffc_rules.specs.Entries.{NodeCheck}
use Rattle.ffc_trees.specs.FirstLines.{first_lines}
use Rattle.ffc_lemmatree.specs.Trees.{IsRefutedByTree}
use Rattle.ffc_refutation.specs.declared.combination.Determined.{Determined}
use Rattle.ffc_refutation.specs.Written.{IsNumbered}
use Rattle.ffc_values.specs.Values.{IsRefutedByValues}
use Rattle.ffc_values.specs.Written.{values_tree}
use Rattle.ffc_values.proofs.Knowns.{enough_variables}
use Rattle.ffc_values.proofs.Refutation.{refuted_by_tree}
use Rattle.ffc_values.proofs.refuting.by_values.Goals as goal
use Rattle.ffc_values.proofs.refuting.by_values.Given.{Over}
use Rattle.ffc_values.proofs.refuting.by_values.Goals.{After-drop-inverse-2}

by_tree_of : (g : Over) (c : After-drop-inverse-2 g) (check : NodeCheck) → IsRefutedByValues check c.args.reasons.now g.F.Field.ORDER c.args.lits.items c.args.nodes c.args.variables.now c.args.determined.items c.args.line c.args.sides.now
    → IsRefutedByTree check c.args.reasons.now g.F.Field.ORDER c.args.lits.items c.in_ok-tree.tree.items
by_tree_of g c check is =
    let lits = c.args.lits.items in
    let ds = c.args.determined.items in
    let truth = c.index.result.now.0 in
    let at : is.literal.0 ≡ truth = ap (λ l. l.0) (sym (sym (unwrap_or-slice_get lits c.args.line c.index.result.now) ∙ ap (λ o. unwrap_or o c.index.result.now) is.at) ∙ sym c.index.ensures) in
    let enough : length ds ≤ length c.args.variables.now = enough_variables g.F.Field.ORDER (first_lines check.nodes g.F.Field.ORDER lits) c.args.nodes is.bound is.point c.args.variables.now ds is.known in
    let same : c.truncate.new.self.items ≡ ds = c.truncate.ensures.items ∙ take_all (length c.args.variables.now) ds enough in
    let count : c.len-first.result ≡ length lits = search rules in
    refuted_by_tree check c.args.reasons.now g.F.Field.ORDER lits c.args.nodes c.args.variables.now ds c.args.line c.args.sides.now is c.requires.nodes c.requires.short c.requires.there
    (recursion_from_All (λ (k : Determined). length k.summands.items ≤ 4096) ds c.requires.terms) (recursion_from_All (λ (k : Determined). All IsNumbered k.summands.items) ds (subst (All (λ (k : Determined). All IsNumbered k.summands.items)) same c.in_ok-tree.ensures.numbered))
    c.in_ok-tree.tree.items truth at
    (c.in_ok-tree.ensures.lines ∙ ap (λ es. values_tree g.F.Field.ORDER c.len-first.result c.args.variables.now es c.args.line c.as_slice.result.now c.args.sides.now) same ∙ ap₂ (λ n u. values_tree g.F.Field.ORDER n c.args.variables.now ds c.args.line u c.args.sides.now) count (c.as_slice.ensures.value ∙ c.in_ok-inverse.ensures))

pub returns-clause-readable : goal.returns-clause-readable
returns-clause-readable g c check is = c.in_ok-lines.ensures.readable check (subst (λ p. IsRefutedByTree check c.args.reasons.now p c.args.lits.items c.in_ok-tree.tree.items) (sym c.ORDER.ensures) (by_tree_of g c check is))

pub returns-clause-right : goal.returns-clause-right
returns-clause-right g c check is = c.in_ok-lines.ensures.right check (subst (λ p. IsRefutedByTree check c.args.reasons.now p c.args.lits.items c.in_ok-tree.tree.items) (sym c.ORDER.ensures) (by_tree_of g c check is))
