use Rattle.std.proofs.Common.{sym, ap, ◌∙◌}
use Rattle.ffc_field.specs.Orders.{order_of_id}
use Rattle.ffc_cktree.proofs.FirstLemmas.{equalities_moved}
use Rattle.ffc_cktree.proofs.lemma.lemma_tree.Goals as goal

pub lemma-requires-clause-equalities : goal.lemma-requires-clause-equalities
lemma-requires-clause-equalities c =
    equalities_moved c.args.kept.now c.kept.inside.f2 c.args.order _ c.args.lits.now (sym c.kept.view_is)
    (sym c.from.ensures ∙ sym c.in-Some-F2.ensures.found ∙ ap order_of_id c.in-Some-F2.field-0-is) c.requires.equalities

pub lemma-requires-in-Some-F3-clause-equalities : goal.lemma-requires-in-Some-F3-clause-equalities
lemma-requires-in-Some-F3-clause-equalities c =
    equalities_moved c.args.kept.now c.kept.inside.f3 c.args.order _ c.args.lits.now (sym c.kept.view_is ∙ sym c.kept.invariant.0)
    (sym c.from.ensures ∙ sym c.in-Some-F3.ensures.found ∙ ap order_of_id c.in-Some-F3.field-0-is) c.requires.equalities

pub lemma-requires-in-Some-F5-clause-equalities : goal.lemma-requires-in-Some-F5-clause-equalities
lemma-requires-in-Some-F5-clause-equalities c =
    equalities_moved c.args.kept.now c.kept.inside.f5 c.args.order _ c.args.lits.now (sym c.kept.view_is ∙ sym c.kept.invariant.1)
    (sym c.from.ensures ∙ sym c.in-Some-F5.ensures.found ∙ ap order_of_id c.in-Some-F5.field-0-is) c.requires.equalities

pub lemma-requires-in-Some-F17-clause-equalities : goal.lemma-requires-in-Some-F17-clause-equalities
lemma-requires-in-Some-F17-clause-equalities c =
    equalities_moved c.args.kept.now c.kept.inside.f17 c.args.order _ c.args.lits.now (sym c.kept.view_is ∙ sym c.kept.invariant.2)
    (sym c.from.ensures ∙ sym c.in-Some-F17.ensures.found ∙ ap order_of_id c.in-Some-F17.field-0-is) c.requires.equalities

pub lemma-requires-in-Some-F65537-clause-equalities : goal.lemma-requires-in-Some-F65537-clause-equalities
lemma-requires-in-Some-F65537-clause-equalities c =
    equalities_moved c.args.kept.now c.kept.inside.f65537 c.args.order _ c.args.lits.now (sym c.kept.view_is ∙ sym c.kept.invariant.3)
    (sym c.from.ensures ∙ sym c.in-Some-F65537.ensures.found ∙ ap order_of_id c.in-Some-F65537.field-0-is) c.requires.equalities

pub lemma-requires-in-Some-BabyBear-clause-equalities : goal.lemma-requires-in-Some-BabyBear-clause-equalities
lemma-requires-in-Some-BabyBear-clause-equalities c =
    equalities_moved c.args.kept.now c.kept.inside.baby_bear c.args.order _ c.args.lits.now (sym c.kept.view_is ∙ sym c.kept.invariant.4)
    (sym c.from.ensures ∙ sym c.in-Some-BabyBear.ensures.found ∙ ap order_of_id c.in-Some-BabyBear.field-0-is) c.requires.equalities

pub lemma-requires-in-Some-KoalaBear-clause-equalities : goal.lemma-requires-in-Some-KoalaBear-clause-equalities
lemma-requires-in-Some-KoalaBear-clause-equalities c =
    equalities_moved c.args.kept.now c.kept.inside.koala_bear c.args.order _ c.args.lits.now (sym c.kept.view_is ∙ sym c.kept.invariant.5)
    (sym c.from.ensures ∙ sym c.in-Some-KoalaBear.ensures.found ∙ ap order_of_id c.in-Some-KoalaBear.field-0-is) c.requires.equalities

pub lemma-requires-in-Some-Goldilocks-clause-equalities : goal.lemma-requires-in-Some-Goldilocks-clause-equalities
lemma-requires-in-Some-Goldilocks-clause-equalities c =
    equalities_moved c.args.kept.now c.kept.inside.goldilocks c.args.order _ c.args.lits.now (sym c.kept.view_is ∙ sym c.kept.invariant.6)
    (sym c.from.ensures ∙ sym c.in-Some-Goldilocks.ensures.found ∙ ap order_of_id c.in-Some-Goldilocks.field-0-is) c.requires.equalities
