use Rattle.std.proofs.Common.{◌%◌, ap, ◌∙◌, subst}
use Rattle.ffc_term.specs.declared.node.Node.TheVariants.{FieldConst, Num, IteField}
use Rattle.ffc_term.specs.Nodes.{IsNodeAt}
use Rattle.ffc_encode.proofs.ExpandLemmas.{constant_scaled, ite_scaled, number_scaled}
use Rattle.ffc_encode.proofs.OpeningLemmas.{no_leaf, not_leaf}
use Rattle.ffc_encode.proofs.leaves.leaf.Goals as goal

pub returns-in_ok-term-in-FieldConst-clause-same : goal.returns-in_ok-term-in-FieldConst-clause-same
returns-in_ok-term-in-FieldConst-clause-same g c =
    let nodes = c.args.table.now in
    let id = c.args.id in
    let k = c.in-FieldConst.field-0 in
    let q = c.in-FieldConst.field-1 in
    let at : IsNodeAt nodes id (FieldConst k q) = subst (IsNodeAt nodes id) c.in-FieldConst.is c.node.ensures.at in
    constant_scaled nodes g.F.Field.ORDER id c.requires k q (g.F.Field.value c.args.weight) c.in_ok-term-in-FieldConst.field-0 at c.in_ok-term-in-FieldConst.ensures

pub returns-in_ok-term-in-IteField-clause-same : goal.returns-in_ok-term-in-IteField-clause-same
returns-in_ok-term-in-IteField-clause-same g c =
    let nodes = c.args.table.now in
    let id = c.args.id in
    let k = c.in-IteField.field-0 in
    let a = c.in-IteField.field-1 in
    let b = c.in-IteField.field-2 in
    let at : IsNodeAt nodes id (IteField k a b) = subst (IsNodeAt nodes id) c.in-IteField.is c.node.ensures.at in
    ite_scaled nodes g.F.Field.ORDER id c.requires k a b (g.F.Field.value c.args.weight) c.in_ok-term-in-IteField.field-0 at c.in_ok-term-in-IteField.ensures

pub returns-in_ok-term-in-Num-clause-same : goal.returns-in_ok-term-in-Num-clause-same
returns-in_ok-term-in-Num-clause-same g c =
    let p = g.F.Field.ORDER in
    let nodes = c.args.table.now in
    let id = c.args.id in
    let n = c.in-Num.n in
    let q = c.in-Num.field-1 in
    let at : IsNodeAt nodes id (Num n q) = subst (IsNodeAt nodes id) c.in-Num.is c.node.ensures.at in
    number_scaled nodes p id c.requires n q (g.F.Field.value c.args.weight) (g.F.Field.value c.mul.result) (g.F.Field.value c.of.result) c.in_ok-term-in-Num.field-0 at
    (c.of.ensures ∙ ap (λ k. k % p) c.from.ensures) c.mul.ensures c.in_ok-term-in-Num.ensures

pub returns-in_default-clause-none : goal.returns-in_default-clause-none
returns-in_default-clause-none g c is =
    let n = c.node.result.now in
    not_leaf c.args.table.now c.args.id n c.node.ensures.at (no_leaf n c.in_default.not-FieldConst c.in_default.not-Num c.in_default.not-IteField) is
