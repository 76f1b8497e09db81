use Rattle.std.proofs.Common.{ℕ, Contains, length, sym, ap, ◌∙◌, subst}
use Rattle.std.specs.List.{AllByRecursion}
use Rattle.std.proofs.lemmas.List.Elements.{All-from_recursion}
use Rattle.ffc_term.specs.Nodes.{IsConstantAt}
use Rattle.ffc_rules.specs.Cones.{cone_constants}
use Rattle.ffc_rules.specs.Assignments.{are_true}
use Rattle.ffc_rules.proofs.AssignmentLemmas.{AreConstants, AreDifferent}
use Rattle.ffc_rules.proofs.CaseLemmas.{AreApart, increasing_apart, named_among, named_each, named_apart, ids_within, declared_each, constants_of}
use Rattle.ffc_check.proofs.AnswerLemmas.{written_back}
use Rattle.ffc_check.proofs.ValueLemmas.{same_model}
use Rattle.ffc_check.proofs.values.makes_true.Goals as goal

pub give_listed-requires : goal.give_listed-requires
give_listed-requires c =
    let check = c.args.check.now in
    All-from_recursion (λ p. IsConstantAt check.table.now p.0) c.args.pairs.now
    (named_each (IsConstantAt check.table.now) c.args.pairs.now (subst (AllByRecursion (IsConstantAt check.table.now)) (sym c.requires.values.names)
    (declared_each check.table.now check.declared.now check.in_force.now check.first_order c.requires.valid c.args.pairs.now c.requires.values.names)))

pub returns : goal.returns
returns c =
    let check = c.args.check.now in
    let ns = check.table.now in
    let ids = check.in_force.now in
    let pairs = c.args.pairs.now in
    let names = c.requires.values.names in
    let declared = declared_each ns check.declared.now ids check.first_order c.requires.valid pairs names in
    let are : AreConstants ns pairs = named_each (IsConstantAt ns) pairs (subst (AllByRecursion (IsConstantAt ns)) (sym names) declared) in
    let differ : AreDifferent pairs = named_apart pairs (subst AreApart (sym names) (increasing_apart check.declared.now c.requires.valid.increasing)) in
    let of = constants_of ns ids c.requires.valid.table (ids_within ns check.declared.now ids check.first_order c.requires.valid pairs names) in
    let named = λ (id : ℕ) (has : Contains (cone_constants ns ids) id).
    let is = (of.each id).0 has in named_among check.declared.now pairs id names (c.requires.valid.covered id is.0 is.1) in
    let back = written_back c.give_listed.new.values c.in_ok-values.values.items c.in_ok-values.values.len (c.give_listed.auto.values ∙ ap length c.as_mut_slice.ensures.value) c.in_ok-values.values.ok.0 in
    let kept = c.new-assignment.ensures ∙ back ∙ c.give_listed.ensures in
    c.is_model.ensures ∙ ap (are_true ns ids) kept
    ∙ same_model ns ids (cone_constants ns ids) pairs c.as_mut_slice.result.now c.requires.valid.table of (ap length c.as_mut_slice.ensures.value ∙ c.in_ok-values.ensures) are differ named
