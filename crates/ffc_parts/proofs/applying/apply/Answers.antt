use Rattle.std.proofs.Common.{◌≡◌, ℕ, List, get_or, sym, ap, ◌∙◌, subst, arith}
use Rattle.ffc_term.specs.declared.node.Node.{Node}
use Rattle.ffc_term.specs.declared.node.Node.TheVariants as node
use Rattle.ffc_term.specs.declared.node.Sort.TheVariants as sort
use Rattle.ffc_term.specs.Tables.{AreOfOneField}
use Rattle.ffc_smt.specs.Making.{interned, applied_made}
use Rattle.ffc_parts.specs.declared.operators.Operator.{Operator}
use Rattle.ffc_parts.specs.declared.operators.Operator.TheVariants as code
use Rattle.ffc_parts.specs.Operators.{operator_of}
use Rattle.ffc_parts.specs.Growing.{AreTaken}
use Rattle.ffc_parts.proofs.ApplyingLemmas as lemma
use Rattle.ffc_parts.proofs.applying.apply.Goals as goal

-- what the function takes, where it is known
taken : (op known : Operator) (ns : List Node) (ids : List ℕ) → op ≡ known → AreTaken (operator_of op) ns ids → AreTaken (operator_of known) ns ids
taken op known ns ids e t = subst (λ o. AreTaken (operator_of o) ns ids) e t

pub put-requires-in-And-clause-fits : goal.put-requires-in-And-clause-fits
put-requires-in-And-clause-fits c =
    let ns = c.args.table.now in
    let ids = c.args.ids.now in
    let t = taken c.args.op code.And ns ids c.in-And.is c.requires in
    let h = lemma.and_takes ns t.sorts ids t.sort t.takes t.each in
    rw c.in_ok-list-in-And.ensures (lemma.booleans_of ns 1 ids (omega arith) h)

pub returns-in_ok-list-in-And : goal.returns-in_ok-list-in-And
returns-in_ok-list-in-And c =
    let ns = c.args.table.now in
    let ids = c.args.ids.now in
    let is = c.in_ok-list-in-And.ensures in
    let t = taken c.args.op code.And ns ids c.in-And.is c.requires in
    let h = lemma.and_takes ns t.sorts ids t.sort t.takes t.each in
    let long = h.long in
    rw c.in-And.is
    (lemma.as_made ns c.put-in-And.new.table (applied_made (operator_of code.And) ns ids) (interned ns (node.And c.in_ok-list-in-And.field-0)) c.put-in-And.result
    (lemma.and_made ids ns long ∙ ap (λ l. interned ns (node.And l)) (sym is)) c.put-in-And.ensures)

pub put-requires-in-Or-clause-fits : goal.put-requires-in-Or-clause-fits
put-requires-in-Or-clause-fits c =
    let ns = c.args.table.now in
    let ids = c.args.ids.now in
    let t = taken c.args.op code.Or ns ids c.in-Or.is c.requires in
    let h = lemma.or_takes ns t.sorts ids t.sort t.takes t.each in
    rw c.in_ok-list-in-Or.ensures (lemma.booleans_of ns 1 ids (omega arith) h)

pub returns-in_ok-list-in-Or : goal.returns-in_ok-list-in-Or
returns-in_ok-list-in-Or c =
    let ns = c.args.table.now in
    let ids = c.args.ids.now in
    let is = c.in_ok-list-in-Or.ensures in
    let t = taken c.args.op code.Or ns ids c.in-Or.is c.requires in
    let h = lemma.or_takes ns t.sorts ids t.sort t.takes t.each in
    let long = h.long in
    rw c.in-Or.is
    (lemma.as_made ns c.put-in-Or.new.table (applied_made (operator_of code.Or) ns ids) (interned ns (node.Or c.in_ok-list-in-Or.field-0)) c.put-in-Or.result
    (lemma.or_made ids ns long ∙ ap (λ l. interned ns (node.Or l)) (sym is)) c.put-in-Or.ensures)

pub put-requires-in-Add-clause-fits : goal.put-requires-in-Add-clause-fits
put-requires-in-Add-clause-fits c =
    let ns = c.args.table.now in
    let ids = c.args.ids.now in
    let t = taken c.args.op code.Add ns ids c.in-Add.is c.requires in
    let h = lemma.add_takes ns t.sorts ids t.sort t.takes t.each in
    rw c.in_ok-list-in-Add.ensures (lemma.field_of ns 1 ids (omega arith) h)

pub returns-in_ok-list-in-Add : goal.returns-in_ok-list-in-Add
returns-in_ok-list-in-Add c =
    let ns = c.args.table.now in
    let ids = c.args.ids.now in
    let is = c.in_ok-list-in-Add.ensures in
    let t = taken c.args.op code.Add ns ids c.in-Add.is c.requires in
    let h = lemma.add_takes ns t.sorts ids t.sort t.takes t.each in
    let long = h.1.long in
    rw c.in-Add.is
    (lemma.as_made ns c.put-in-Add.new.table (applied_made (operator_of code.Add) ns ids) (interned ns (node.Add c.in_ok-list-in-Add.field-0)) c.put-in-Add.result
    (lemma.add_made ids ns long ∙ ap (λ l. interned ns (node.Add l)) (sym is)) c.put-in-Add.ensures)

pub put-requires-in-Mul-clause-fits : goal.put-requires-in-Mul-clause-fits
put-requires-in-Mul-clause-fits c =
    let ns = c.args.table.now in
    let ids = c.args.ids.now in
    let t = taken c.args.op code.Mul ns ids c.in-Mul.is c.requires in
    let h = lemma.mul_takes ns t.sorts ids t.sort t.takes t.each in
    rw c.in_ok-list-in-Mul.ensures (lemma.field_of ns 1 ids (omega arith) h)

pub returns-in_ok-list-in-Mul : goal.returns-in_ok-list-in-Mul
returns-in_ok-list-in-Mul c =
    let ns = c.args.table.now in
    let ids = c.args.ids.now in
    let is = c.in_ok-list-in-Mul.ensures in
    let t = taken c.args.op code.Mul ns ids c.in-Mul.is c.requires in
    let h = lemma.mul_takes ns t.sorts ids t.sort t.takes t.each in
    let long = h.1.long in
    rw c.in-Mul.is
    (lemma.as_made ns c.put-in-Mul.new.table (applied_made (operator_of code.Mul) ns ids) (interned ns (node.Mul c.in_ok-list-in-Mul.field-0)) c.put-in-Mul.result
    (lemma.mul_made ids ns long ∙ ap (λ l. interned ns (node.Mul l)) (sym is)) c.put-in-Mul.ensures)

pub put-requires-in-Bitsum-clause-fits : goal.put-requires-in-Bitsum-clause-fits
put-requires-in-Bitsum-clause-fits c =
    let ns = c.args.table.now in
    let ids = c.args.ids.now in
    let t = taken c.args.op code.Bitsum ns ids c.in-Bitsum.is c.requires in
    let h = lemma.bitsum_takes ns t.sorts ids t.sort t.takes t.each in
    rw c.in_ok-list-in-Bitsum.ensures (lemma.field_of ns 1 ids (omega arith) h)

pub returns-in_ok-list-in-Bitsum : goal.returns-in_ok-list-in-Bitsum
returns-in_ok-list-in-Bitsum c =
    let ns = c.args.table.now in
    let ids = c.args.ids.now in
    let is = c.in_ok-list-in-Bitsum.ensures in
    let t = taken c.args.op code.Bitsum ns ids c.in-Bitsum.is c.requires in
    let h = lemma.bitsum_takes ns t.sorts ids t.sort t.takes t.each in
    let long = h.1.long in
    rw c.in-Bitsum.is
    (lemma.as_made ns c.put-in-Bitsum.new.table (applied_made (operator_of code.Bitsum) ns ids) (interned ns (node.Bitsum c.in_ok-list-in-Bitsum.field-0)) c.put-in-Bitsum.result
    (lemma.bitsum_made ids ns long ∙ ap (λ l. interned ns (node.Bitsum l)) (sym is)) c.put-in-Bitsum.ensures)

pub exclusive-requires-clause-rest : goal.exclusive-requires-clause-rest
exclusive-requires-clause-rest c =
    let ns = c.args.table.now in
    let ids = c.args.ids.now in
    let t = taken c.args.op code.Xor ns ids c.in-Xor.is c.requires in
    let h = lemma.xor_takes ns t.sorts ids t.sort t.takes t.each in
    rw (lemma.up_to_end ids 1) (lemma.others_all ns sort.Bool ids h.each)

pub implications-requires-clause-each : goal.implications-requires-clause-each
implications-requires-clause-each c =
    let ns = c.args.table.now in
    let ids = c.args.ids.now in
    let t = taken c.args.op code.Implies ns ids c.in-Implies.is c.requires in
    let h = lemma.implies_takes ns t.sorts ids t.sort t.takes t.each in
    h.each

pub all_equal-requires-clause-alike : goal.all_equal-requires-clause-alike
all_equal-requires-clause-alike c =
    let ns = c.args.table.now in
    let ids = c.args.ids.now in
    let t = taken c.args.op code.Equal ns ids c.in-Equal.is c.requires in
    let h = lemma.equal_takes ns t.sorts ids t.sort t.takes t.each in
    record { sort = h.0; each = h.1.each }

pub all_distinct-requires-clause-alike : goal.all_distinct-requires-clause-alike
all_distinct-requires-clause-alike c =
    let ns = c.args.table.now in
    let ids = c.args.ids.now in
    let t = taken c.args.op code.Distinct ns ids c.in-Distinct.is c.requires in
    let h = lemma.distinct_takes ns t.sorts ids t.sort t.takes t.each in
    record { sort = h.0; each = h.1.each }

pub put-requires-in-Neg-clause-fits : goal.put-requires-in-Neg-clause-fits
put-requires-in-Neg-clause-fits c =
    let ns = c.args.table.now in
    let ids = c.args.ids.now in
    let t = taken c.args.op code.Neg ns ids c.in-Neg.is c.requires in
    let h = lemma.neg_takes ns t.sorts ids t.sort t.takes t.each in
    subst (AreOfOneField ns) (lemma.one_of ids h.0) (lemma.field_of ns 1 ids (omega arith) h.1)

pub returns-in-Not : goal.returns-in-Not
returns-in-Not c =
    let ns = c.args.table.now in
    let ids = c.args.ids.now in
    let t = taken c.args.op code.Not ns ids c.in-Not.is c.requires in
    let h = lemma.not_takes ns t.sorts ids t.sort t.takes t.each in
    rw c.in-Not.is (lemma.as_made ns c.put.new.table (applied_made (operator_of code.Not) ns ids) (interned ns (node.Not (get_or ids 0 0))) c.put.result (lemma.not_made ids ns h.0) c.put.ensures)

pub returns-in-Neg : goal.returns-in-Neg
returns-in-Neg c =
    let ns = c.args.table.now in
    let ids = c.args.ids.now in
    let t = taken c.args.op code.Neg ns ids c.in-Neg.is c.requires in
    let h = lemma.neg_takes ns t.sorts ids t.sort t.takes t.each in
    rw c.in-Neg.is (lemma.as_made ns c.put-in-Neg.new.table (applied_made (operator_of code.Neg) ns ids) (interned ns (node.Neg (get_or ids 0 0))) c.put-in-Neg.result (lemma.neg_made ids ns h.0) c.put-in-Neg.ensures)

pub returns-in-Xor : goal.returns-in-Xor
returns-in-Xor c =
    let ns = c.args.table.now in
    let ids = c.args.ids.now in
    let t = taken c.args.op code.Xor ns ids c.in-Xor.is c.requires in
    let h = lemma.xor_takes ns t.sorts ids t.sort t.takes t.each in
    rw c.in-Xor.is (rw (lemma.xor_made ids ns h.long, sym (lemma.up_to_end ids 1)) c.exclusive.ensures)

pub returns-in-Implies : goal.returns-in-Implies
returns-in-Implies c =
    let ns = c.args.table.now in
    let ids = c.args.ids.now in
    let t = taken c.args.op code.Implies ns ids c.in-Implies.is c.requires in
    let h = lemma.implies_takes ns t.sorts ids t.sort t.takes t.each in
    rw c.in-Implies.is (rw (lemma.implies_made ids ns h.long) c.implications.ensures)

pub returns-in-Ite : goal.returns-in-Ite
returns-in-Ite c =
    let ns = c.args.table.now in
    let ids = c.args.ids.now in
    let t = taken c.args.op code.Ite ns ids c.in-Ite.is c.requires in
    let h = lemma.ite_takes ns t.sorts ids t.sort t.takes t.each in
    rw c.in-Ite.is (rw (lemma.ite_made ids ns h.long) c.choice.ensures)
