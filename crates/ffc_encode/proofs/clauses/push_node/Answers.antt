use Rattle.std.proofs.Common.{◌≡◌, ◌++◌, ◌∷◌, [], true, false, OnOk, sym, ap, ap₂, ◌∙◌, subst, append-nil}
use Rattle.ffc_term.specs.declared.node.Node.TheVariants.{True, False, Not, And, Or, Iff, Xor, IteBool, IteField}
use Rattle.ffc_term.specs.Nodes.{IsNodeAt}
use Rattle.ffc_rules.specs.Schemes.{one, schemes}
use Rattle.ffc_encode.specs.Clauses.{clauses_at}
use Rattle.ffc_encode.specs.Listing.{numbered, gate}
use Rattle.ffc_encode.proofs.PartLemmas.{on_ok}
use Rattle.ffc_encode.proofs.ListingLemmas.{node_listed, other_schemes, first_equality, other_equality}
use Rattle.ffc_encode.proofs.clauses.push_node.Goals as goal

pub returns-in-True : goal.returns-in-True
returns-in-True c =
    let ns = c.args.table.now in
    let v = c.args.v in
    let old = c.args.clauses.now.items in
    let new = c.push_rows.new.clauses.items in
    let n = True in
    let at : IsNodeAt ns v n = subst (IsNodeAt ns v) c.in-True.is c.node.ensures.at in
    on_ok c.push_rows.result (new ≡ old ++ numbered v 0 (schemes v n)) (new ≡ old ++ clauses_at ns v) (node_listed ns v n old new at) c.push_rows.ensures

pub returns-in-False : goal.returns-in-False
returns-in-False c =
    let ns = c.args.table.now in
    let v = c.args.v in
    let old = c.args.clauses.now.items in
    let new = c.push_rows-in-False.new.clauses.items in
    let n = False in
    let at : IsNodeAt ns v n = subst (IsNodeAt ns v) c.in-False.is c.node.ensures.at in
    on_ok c.push_rows-in-False.result (new ≡ old ++ numbered v 0 (schemes v n)) (new ≡ old ++ clauses_at ns v) (node_listed ns v n old new at) c.push_rows-in-False.ensures

pub returns-in-Not : goal.returns-in-Not
returns-in-Not c =
    let ns = c.args.table.now in
    let v = c.args.v in
    let old = c.args.clauses.now.items in
    let new = c.push_rows-in-Not.new.clauses.items in
    let n = Not c.in-Not.a in
    let at : IsNodeAt ns v n = subst (IsNodeAt ns v) c.in-Not.is c.node.ensures.at in
    on_ok c.push_rows-in-Not.result (new ≡ old ++ numbered v 0 (schemes v n)) (new ≡ old ++ clauses_at ns v) (node_listed ns v n old new at) c.push_rows-in-Not.ensures

pub returns-in-And : goal.returns-in-And
returns-in-And c =
    let ns = c.args.table.now in
    let v = c.args.v in
    let old = c.args.clauses.now.items in
    let new = c.push_gate.new.clauses.items in
    let n = And c.in-And.ids in
    let at : IsNodeAt ns v n = subst (IsNodeAt ns v) c.in-And.is c.node.ensures.at in
    on_ok c.push_gate.result (new ≡ old ++ numbered v 0 (schemes v n)) (new ≡ old ++ clauses_at ns v) (node_listed ns v n old new at) (subst (λ l. OnOk c.push_gate.result (new ≡ old ++ numbered v 0 (gate v true l))) c.as_slice.ensures c.push_gate.ensures)

pub returns-in-Or : goal.returns-in-Or
returns-in-Or c =
    let ns = c.args.table.now in
    let v = c.args.v in
    let old = c.args.clauses.now.items in
    let new = c.push_gate-in-Or.new.clauses.items in
    let n = Or c.in-Or.ids in
    let at : IsNodeAt ns v n = subst (IsNodeAt ns v) c.in-Or.is c.node.ensures.at in
    on_ok c.push_gate-in-Or.result (new ≡ old ++ numbered v 0 (schemes v n)) (new ≡ old ++ clauses_at ns v) (node_listed ns v n old new at) (subst (λ l. OnOk c.push_gate-in-Or.result (new ≡ old ++ numbered v 0 (gate v false l))) c.as_slice-in-Or.ensures c.push_gate-in-Or.ensures)

pub returns-in-Iff : goal.returns-in-Iff
returns-in-Iff c =
    let ns = c.args.table.now in
    let v = c.args.v in
    let old = c.args.clauses.now.items in
    let new = c.push_iff.new.clauses.items in
    let n = Iff c.in-Iff.a c.in-Iff.b in
    let at : IsNodeAt ns v n = subst (IsNodeAt ns v) c.in-Iff.is c.node.ensures.at in
    on_ok c.push_iff.result (new ≡ old ++ numbered v 0 (schemes v n)) (new ≡ old ++ clauses_at ns v) (node_listed ns v n old new at) c.push_iff.ensures

pub returns-in-Xor : goal.returns-in-Xor
returns-in-Xor c =
    let ns = c.args.table.now in
    let v = c.args.v in
    let old = c.args.clauses.now.items in
    let new = c.push_xor.new.clauses.items in
    let n = Xor c.in-Xor.a c.in-Xor.b in
    let at : IsNodeAt ns v n = subst (IsNodeAt ns v) c.in-Xor.is c.node.ensures.at in
    on_ok c.push_xor.result (new ≡ old ++ numbered v 0 (schemes v n)) (new ≡ old ++ clauses_at ns v) (node_listed ns v n old new at) c.push_xor.ensures

pub returns-in-IteBool : goal.returns-in-IteBool
returns-in-IteBool c =
    let ns = c.args.table.now in
    let v = c.args.v in
    let old = c.args.clauses.now.items in
    let new = c.push_ite.new.clauses.items in
    let n = IteBool c.in-IteBool.c c.in-IteBool.a c.in-IteBool.b in
    let at : IsNodeAt ns v n = subst (IsNodeAt ns v) c.in-IteBool.is c.node.ensures.at in
    on_ok c.push_ite.result (new ≡ old ++ numbered v 0 (schemes v n)) (new ≡ old ++ clauses_at ns v) (node_listed ns v n old new at) c.push_ite.ensures

pub returns-in-IteField : goal.returns-in-IteField
returns-in-IteField c =
    let ns = c.args.table.now in
    let v = c.args.v in
    let old = c.args.clauses.now.items in
    let new = c.push_rows-in-IteField.new.clauses.items in
    let k = c.in-IteField.c in
    let a = c.in-IteField.field-1 in
    let b = c.in-IteField.field-2 in
    let x = c.branches-first.result.0 in
    let y = c.branches-first.result.1 in
    let at : IsNodeAt ns v (IteField k a b) = subst (IsNodeAt ns v) c.in-IteField.is c.node.ensures.at in
    let table = c.node.ensures.valid in
    let first = first_equality ns v k a b x table at (c.branches-first.ensures.first k a b at) in
    let second = other_equality ns v k a b y table at (c.branches-first.ensures.second k a b at) in
    on_ok c.push_rows-in-IteField.result (new ≡ old ++ numbered v 0 (one ((false, k) ∷ (true, x) ∷ []) ∷ one ((true, k) ∷ (true, y) ∷ []) ∷ [])) (new ≡ old ++ clauses_at ns v)
    (λ e. node_listed ns v (IteField k a b) old new at (e ∙ ap₂ (λ s t. old ++ numbered v 0 (one ((false, k) ∷ (true, s) ∷ []) ∷ one ((true, k) ∷ (true, t) ∷ []) ∷ [])) first second))
    c.push_rows-in-IteField.ensures

pub returns-in_default : goal.returns-in_default
returns-in_default c =
    let ns = c.args.table.now in
    let v = c.args.v in
    let old = c.args.clauses.now.items in
    let n = c.node.result.now in
    let d = c.in_default in
    node_listed ns v n old old c.node.ensures.at
    (sym (append-nil old) ∙ ap (λ s. old ++ numbered v 0 s) (sym (other_schemes v n d.not-True d.not-False d.not-Not d.not-And d.not-Or d.not-Iff d.not-Xor d.not-IteBool d.not-IteField)))
