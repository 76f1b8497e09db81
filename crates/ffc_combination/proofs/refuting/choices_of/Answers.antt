use Rattle.std.proofs.Common.{◌≡◌, ◌<◌, Bool, true, false, List, [], ℕ, zero, suc, length, filter, refl, sym, ap, ◌∙◌, subst, arith}
use Rattle.std.proofs.lemmas.Bool.{eqb-true, eqb-false}
use Rattle.std.proofs.lemmas.List.{nil_from_length}
use Rattle.ffc_bounds.specs.Combinations.{node_variables}
use Rattle.ffc_check.specs.Judged.{judged_check}
use Rattle.ffc_rules.specs.Cones.{cone}
use Rattle.ffc_combination.specs.Choices.{HasParts}
use Rattle.ffc_combination.specs.Forced.{is_forced_equality}
use Rattle.ffc_combination.proofs.ChoiceLemmas.{equal_low, unequal_low, few, only_equations, both_choices}
use Rattle.ffc_combination.proofs.refuting.choices_of.Goals as goal

positive_from : (n : ℕ) → (n ≡ 0 → ⊥) → 0 < n
positive_from zero other = absurd (other refl)
positive_from (suc n) other = omega arith

-- what is found among the nodes of a check
found_is : (test : ℕ → Bool) (slice items nodes listed all : List ℕ) → slice ≡ items → items ≡ filter test nodes → nodes ≡ listed → listed ≡ all → slice ≡ filter test all
found_is test slice items nodes listed all one two three four = one ∙ two ∙ ap (filter test) (three ∙ four)

pub greatest_degree-lowest-requires : goal.greatest_degree-lowest-requires
greatest_degree-lowest-requires g c =
    let p = g.F.Field.ORDER in
    let check = judged_check c.args.check.now in
    let literals = c.args.literals.now in
    let reasons = c.args.reasons.now in
    let positive : 0 < p = omega (arith, g.met.F.Field.prime.least) in
    let equal_is = found_is (is_forced_equality check.nodes literals true) c.as_slice-equal.result.now c.in_ok-equal.equal.items c.as_slice-nodes.result.now c.args.cone.now.nodes.items (cone check.nodes check.in_force) c.as_slice-equal.ensures.value c.in_ok-equal.ensures c.as_slice-nodes.ensures.value c.requires.cone.all in
    let unequal_is = found_is (is_forced_equality check.nodes literals false) c.as_slice-unequal.result.now c.in_ok-unequal.unequal.items c.as_slice-nodes.result.now c.args.cone.now.nodes.items (cone check.nodes check.in_force) c.as_slice-unequal.ensures.value c.in_ok-unequal.ensures c.as_slice-nodes.ensures.value c.requires.cone.all in
    let equal = c.as_slice-equal.result.now in
    let unequal = c.as_slice-unequal.result.now in
    unequal_low check c.requires.valid p positive c.requires.field c.requires.within literals reasons c.requires.forced equal unequal equal_is unequal_is

pub of-requires-clause-equal : goal.of-requires-clause-equal
of-requires-clause-equal g c =
    let p = g.F.Field.ORDER in
    let check = judged_check c.args.check.now in
    let literals = c.args.literals.now in
    let reasons = c.args.reasons.now in
    let positive : 0 < p = omega (arith, g.met.F.Field.prime.least) in
    let equal_is = found_is (is_forced_equality check.nodes literals true) c.as_slice-equal.result.now c.in_ok-equal.equal.items c.as_slice-nodes.result.now c.args.cone.now.nodes.items (cone check.nodes check.in_force) c.as_slice-equal.ensures.value c.in_ok-equal.ensures c.as_slice-nodes.ensures.value c.requires.cone.all in
    let unequal_is = found_is (is_forced_equality check.nodes literals false) c.as_slice-unequal.result.now c.in_ok-unequal.unequal.items c.as_slice-nodes.result.now c.args.cone.now.nodes.items (cone check.nodes check.in_force) c.as_slice-unequal.ensures.value c.in_ok-unequal.ensures c.as_slice-nodes.ensures.value c.requires.cone.all in
    let equal = c.as_slice-equal.result.now in
    let unequal = c.as_slice-unequal.result.now in
    equal_low check c.requires.valid p positive c.requires.field c.requires.within literals reasons c.requires.forced equal unequal equal_is unequal_is

pub of-requires-clause-few : goal.of-requires-clause-few
of-requires-clause-few g c =
    let p = g.F.Field.ORDER in
    let check = judged_check c.args.check.now in
    let literals = c.args.literals.now in
    let reasons = c.args.reasons.now in
    let positive : 0 < p = omega (arith, g.met.F.Field.prime.least) in
    let equal_is = found_is (is_forced_equality check.nodes literals true) c.as_slice-equal.result.now c.in_ok-equal.equal.items c.as_slice-nodes.result.now c.args.cone.now.nodes.items (cone check.nodes check.in_force) c.as_slice-equal.ensures.value c.in_ok-equal.ensures c.as_slice-nodes.ensures.value c.requires.cone.all in
    let unequal_is = found_is (is_forced_equality check.nodes literals false) c.as_slice-unequal.result.now c.in_ok-unequal.unequal.items c.as_slice-nodes.result.now c.args.cone.now.nodes.items (cone check.nodes check.in_force) c.as_slice-unequal.ensures.value c.in_ok-unequal.ensures c.as_slice-nodes.ensures.value c.requires.cone.all in
    let equal = c.as_slice-equal.result.now in
    let unequal = c.as_slice-unequal.result.now in
    let most = few check c.requires.valid p positive c.requires.field c.requires.within literals reasons c.requires.forced equal unequal equal_is unequal_is in omega (arith, most)

pub returns-then-is_empty : goal.returns-then-is_empty
returns-then-is_empty g c =
    let p = g.F.Field.ORDER in
    let check = judged_check c.args.check.now in
    let literals = c.args.literals.now in
    let reasons = c.args.reasons.now in
    let positive : 0 < p = omega (arith, g.met.F.Field.prime.least) in
    let equal_is = found_is (is_forced_equality check.nodes literals true) c.as_slice-equal.result.now c.in_ok-equal.equal.items c.as_slice-nodes.result.now c.args.cone.now.nodes.items (cone check.nodes check.in_force) c.as_slice-equal.ensures.value c.in_ok-equal.ensures c.as_slice-nodes.ensures.value c.requires.cone.all in
    let unequal_is = found_is (is_forced_equality check.nodes literals false) c.as_slice-unequal.result.now c.in_ok-unequal.unequal.items c.as_slice-nodes.result.now c.args.cone.now.nodes.items (cone check.nodes check.in_force) c.as_slice-unequal.ensures.value c.in_ok-unequal.ensures c.as_slice-nodes.ensures.value c.requires.cone.all in
    let equal = c.as_slice-equal.result.now in
    let unequal = c.as_slice-unequal.result.now in
    let some : 0 < length (node_variables check.nodes check.in_force) = omega (arith, c.requires.some, ap length c.requires.variables) in
    let first : HasParts check.nodes (node_variables check.nodes check.in_force) equal [] c.args.flat c.greatest_degree-lowest.result c.in_ok-equations.equations =
    subst (λ (vs : List ℕ). HasParts check.nodes vs equal [] c.args.flat c.greatest_degree-lowest.result c.in_ok-equations.equations) c.requires.variables c.in_ok-equations.ensures in
    only_equations check c.requires.valid p positive c.requires.field c.requires.within literals reasons c.requires.forced equal unequal equal_is unequal_is some c.args.flat c.requires.flat c.greatest_degree-lowest.result c.greatest_degree-lowest.ensures c.in_ok-equations.equations first (nil_from_length unequal (eqb-true (length unequal) 0 (sym c.is_empty.ensures ∙ c.if-is_empty.true)))

pub of-requires-2-clause-equal : goal.of-requires-2-clause-equal
of-requires-2-clause-equal g c =
    let p = g.F.Field.ORDER in
    let check = judged_check c.args.check.now in
    let literals = c.args.literals.now in
    let reasons = c.args.reasons.now in
    let positive : 0 < p = omega (arith, g.met.F.Field.prime.least) in
    let equal_is = found_is (is_forced_equality check.nodes literals true) c.as_slice-equal.result.now c.in_ok-equal.equal.items c.as_slice-nodes.result.now c.args.cone.now.nodes.items (cone check.nodes check.in_force) c.as_slice-equal.ensures.value c.in_ok-equal.ensures c.as_slice-nodes.ensures.value c.requires.cone.all in
    let unequal_is = found_is (is_forced_equality check.nodes literals false) c.as_slice-unequal.result.now c.in_ok-unequal.unequal.items c.as_slice-nodes.result.now c.args.cone.now.nodes.items (cone check.nodes check.in_force) c.as_slice-unequal.ensures.value c.in_ok-unequal.ensures c.as_slice-nodes.ensures.value c.requires.cone.all in
    let equal = c.as_slice-equal.result.now in
    let unequal = c.as_slice-unequal.result.now in
    equal_low check c.requires.valid p positive c.requires.field c.requires.within literals reasons c.requires.forced equal unequal equal_is unequal_is

pub of-requires-2-clause-unequal : goal.of-requires-2-clause-unequal
of-requires-2-clause-unequal g c =
    let p = g.F.Field.ORDER in
    let check = judged_check c.args.check.now in
    let literals = c.args.literals.now in
    let reasons = c.args.reasons.now in
    let positive : 0 < p = omega (arith, g.met.F.Field.prime.least) in
    let equal_is = found_is (is_forced_equality check.nodes literals true) c.as_slice-equal.result.now c.in_ok-equal.equal.items c.as_slice-nodes.result.now c.args.cone.now.nodes.items (cone check.nodes check.in_force) c.as_slice-equal.ensures.value c.in_ok-equal.ensures c.as_slice-nodes.ensures.value c.requires.cone.all in
    let unequal_is = found_is (is_forced_equality check.nodes literals false) c.as_slice-unequal.result.now c.in_ok-unequal.unequal.items c.as_slice-nodes.result.now c.args.cone.now.nodes.items (cone check.nodes check.in_force) c.as_slice-unequal.ensures.value c.in_ok-unequal.ensures c.as_slice-nodes.ensures.value c.requires.cone.all in
    let equal = c.as_slice-equal.result.now in
    let unequal = c.as_slice-unequal.result.now in
    unequal_low check c.requires.valid p positive c.requires.field c.requires.within literals reasons c.requires.forced equal unequal equal_is unequal_is

pub of-requires-2-clause-few : goal.of-requires-2-clause-few
of-requires-2-clause-few g c =
    let p = g.F.Field.ORDER in
    let check = judged_check c.args.check.now in
    let literals = c.args.literals.now in
    let reasons = c.args.reasons.now in
    let positive : 0 < p = omega (arith, g.met.F.Field.prime.least) in
    let equal_is = found_is (is_forced_equality check.nodes literals true) c.as_slice-equal.result.now c.in_ok-equal.equal.items c.as_slice-nodes.result.now c.args.cone.now.nodes.items (cone check.nodes check.in_force) c.as_slice-equal.ensures.value c.in_ok-equal.ensures c.as_slice-nodes.ensures.value c.requires.cone.all in
    let unequal_is = found_is (is_forced_equality check.nodes literals false) c.as_slice-unequal.result.now c.in_ok-unequal.unequal.items c.as_slice-nodes.result.now c.args.cone.now.nodes.items (cone check.nodes check.in_force) c.as_slice-unequal.ensures.value c.in_ok-unequal.ensures c.as_slice-nodes.ensures.value c.requires.cone.all in
    let equal = c.as_slice-equal.result.now in
    let unequal = c.as_slice-unequal.result.now in
    few check c.requires.valid p positive c.requires.field c.requires.within literals reasons c.requires.forced equal unequal equal_is unequal_is

pub returns : goal.returns
returns g c =
    let p = g.F.Field.ORDER in
    let check = judged_check c.args.check.now in
    let literals = c.args.literals.now in
    let reasons = c.args.reasons.now in
    let positive : 0 < p = omega (arith, g.met.F.Field.prime.least) in
    let equal_is = found_is (is_forced_equality check.nodes literals true) c.as_slice-equal.result.now c.in_ok-equal.equal.items c.as_slice-nodes.result.now c.args.cone.now.nodes.items (cone check.nodes check.in_force) c.as_slice-equal.ensures.value c.in_ok-equal.ensures c.as_slice-nodes.ensures.value c.requires.cone.all in
    let unequal_is = found_is (is_forced_equality check.nodes literals false) c.as_slice-unequal.result.now c.in_ok-unequal.unequal.items c.as_slice-nodes.result.now c.args.cone.now.nodes.items (cone check.nodes check.in_force) c.as_slice-unequal.ensures.value c.in_ok-unequal.ensures c.as_slice-nodes.ensures.value c.requires.cone.all in
    let equal = c.as_slice-equal.result.now in
    let unequal = c.as_slice-unequal.result.now in
    let some : 0 < length (node_variables check.nodes check.in_force) = omega (arith, c.requires.some, ap length c.requires.variables) in
    let first : HasParts check.nodes (node_variables check.nodes check.in_force) equal [] c.args.flat c.greatest_degree-lowest.result c.in_ok-equations.equations =
    subst (λ (vs : List ℕ). HasParts check.nodes vs equal [] c.args.flat c.greatest_degree-lowest.result c.in_ok-equations.equations) c.requires.variables c.in_ok-equations.ensures in
    let second : HasParts check.nodes (node_variables check.nodes check.in_force) equal unequal c.args.flat c.greatest_degree-lowest.result c.in_ok-all.all =
    subst (λ (vs : List ℕ). HasParts check.nodes vs equal unequal c.args.flat c.greatest_degree-lowest.result c.in_ok-all.all) c.requires.variables c.in_ok-all.ensures in
    both_choices check c.requires.valid p positive c.requires.field c.requires.within literals reasons c.requires.forced equal unequal equal_is unequal_is some c.args.flat c.requires.flat c.greatest_degree-lowest.result c.greatest_degree-lowest.ensures c.in_ok-equations.equations c.in_ok-all.all first second (positive_from (length unequal) (eqb-false (length unequal) 0 (sym c.is_empty.ensures ∙ c.if-is_empty.false)))
