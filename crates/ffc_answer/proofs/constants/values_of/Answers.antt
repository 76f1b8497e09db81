use Rattle.std.proofs.Common.{◌≡◌, false, length, get_or, Contains, sym, ap, ◌∙◌, subst, arith}
use Rattle.std.proofs.lemmas.Option.{get_or_from_slice_get}
use Rattle.ffc_term.specs.declared.value.Value.TheVariants as value
use Rattle.ffc_term.specs.Values.{value_at, value_in}
use Rattle.ffc_term.specs.Checks.{IsNodeOf}
use Rattle.ffc_answer.proofs.ListLemmas.{all_written, get_or_default}
use Rattle.ffc_answer.proofs.constants.values_of.Goals as goal

pub returns-clause-at : goal.returns-clause-at
returns-clause-at c k d inside =
    let items = c.in_ok-values.values.items in
    let new = c.eval_into.new.out in
    let ids = c.args.ids.now in
    let id = get_or ids k d in
    let same : length new ≡ length items = c.eval_into.ensures.long ∙ ap length c.as_mut_slice.ensures.value in
    let has : Contains ids id = (k, inside, get_or_default ids k id d inside) in
    let listed : Contains c.as_slice.result.now id = subst (λ xs. Contains xs id) (sym c.as_slice.ensures.value) ((c.in_ok-cone.ensures.nodes.each id).1 (IsNodeOf.listed has)) in
    ap (λ vs. value_in vs id) (all_written new items c.in_ok-values.values.len same (omega (arith, c.in_ok-values.values.ok.0)))
    ∙ get_or_from_slice_get new id _ (value.Bool false) (c.eval_into.ensures.written id listed)
    ∙ ap (λ assignment. value_at c.args.table.now assignment id) c.in_ok-assignment.ensures
