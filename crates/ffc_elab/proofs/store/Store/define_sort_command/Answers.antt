use Rattle.std.proofs.Common.{◌≡◌, sym, ap, ◌∙◌, Ok, Err}
use Rattle.ffc_smt.specs.Trees.{items_of}
use Rattle.ffc_smt.specs.Terms as smt
use Rattle.ffc_smt.specs.CommandReading.{limits}
use Rattle.ffc_parts.specs.declared.heads.Head.TheVariants as head
use Rattle.ffc_words.specs.Words.{fault_of}
use Rattle.ffc_words.specs.Outcomes.{outcome}
use Rattle.ffc_elab.specs.Reading.{read_by_head, result_as}
use Rattle.ffc_elab.proofs.ChangeLemmas.{plain_fault}
use Rattle.ffc_elab.proofs.SortNameLemmas.{sort_orders, sort_taken}
use Rattle.ffc_elab.proofs.store.Store.define_sort_command.Goals as goal

pub returns-in-Err : goal.returns-in-Err
returns-in-Err c = λ k tree h known whole form.
    let e : Err (fault_of c.in-Err.fault) ≡ outcome (read_by_head limits k.state head.DefineSort form.closing (items_of form.items)) =
    sym (ap (result_as (λ d. smt.DefineSort d.0.now d.1)) c.in-Err.is) ∙ c.define_sort.ensures k.state form.items form.closing h.scope form.at form.order in
    (plain_fault k tree c.args.words.now head.DefineSort known form (fault_of c.in-Err.fault) e, h)

pub returns-in-Ok-name_sort : goal.returns-in-Ok-name_sort
returns-in-Ok-name_sort c = λ k tree h known whole form.
    let words = c.args.words.now in
    let name = c.in-Ok.name.now in
    let sort = c.in-Ok.sort in
    let e : Ok (smt.DefineSort name sort) ≡ outcome (read_by_head limits k.state head.DefineSort form.closing (items_of form.items)) =
    sym (ap (result_as (λ d. smt.DefineSort d.0.now d.1)) c.in-Ok.is) ∙ c.define_sort.ensures k.state form.items form.closing h.scope form.at form.order in
    sort_taken k tree words known whole form name sort e c.name_sort.new.self (c.in-Ok-name_sort.ensures.ok k known (sort_orders k tree words known whole form name sort e) h)
