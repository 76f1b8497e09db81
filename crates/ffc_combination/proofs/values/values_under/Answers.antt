use Rattle.std.proofs.Common.{◌≡◌, ◌≤◌, List, length, Contains, sym, ap, ◌∙◌, subst, arith}
use Rattle.ffc_check.specs.Assigning.{with_values}
use Rattle.ffc_check.specs.Judged.{judged_check}
use Rattle.ffc_check.proofs.AnswerLemmas.{written_back}
use Rattle.ffc_rules.specs.Laws.{Agrees}
use Rattle.ffc_term.specs.declared.value.Value.{Value}
use Rattle.ffc_term.specs.Values.{value_at}
use Rattle.ffc_combination.specs.Values.{AreValuesUnder}
use Rattle.ffc_combination.proofs.ValueLemmas.{given_agree, read_value}
use Rattle.ffc_combination.proofs.values.values_under.Goals as goal

pub returns : goal.returns
returns c =
    let check = judged_check c.args.check.now in
    let ns = c.args.check.now.table.now in
    let pairs = c.args.pairs.now in
    let blank = c.in_ok-given.given in
    let room = c.in_ok-values.values in
    let out = c.eval_into.new.out in
    let A : List Value = c.new-assignment.result in
    let given = written_back c.give.new.values blank.items blank.len (c.give.auto.values ∙ ap length c.as_mut_slice.ensures.value) blank.ok.0 in
    let A_is : A ≡ with_values ns blank.items pairs = c.new-assignment.ensures ∙ given ∙ c.give.ensures ∙ ap (λ vs. with_values ns vs pairs) c.as_mut_slice.ensures.value in
    let count = c.len-count.ensures.count in
    let wide : length ns ≤ length blank.items = omega (arith, count, c.in_ok-given.ensures.len, blank.ok.0) in
    let agrees : Agrees ns pairs A = subst (Agrees ns pairs) (sym A_is) (given_agree ns c.requires.valid.table.well_formed pairs blank.items c.requires.constants c.requires.increasing wide) in
    let back = written_back out room.items room.len (c.eval_into.ensures.long ∙ ap length c.as_mut_slice-2.ensures.value) room.ok.0 in
    subst (AreValuesUnder check pairs) (sym back) (record {
      long = c.eval_into.ensures.long ∙ ap length c.as_mut_slice-2.ensures.value ∙ omega (arith, count, c.in_ok-values.ensures.len, room.ok.0);
      assignment = A;
      agrees = agrees;
      each = λ id has. read_value out id (value_at ns A id) (c.eval_into.ensures.written id (subst (λ ids. Contains ids id) (sym (c.as_slice.ensures.value ∙ c.requires.cone.all)) has));
    })
