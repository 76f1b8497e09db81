use Rattle.std.proofs.Common.{◌≡◌, sym, ap, ◌∙◌, Ok, Err}
use Rattle.ffc_smt.specs.Trees.{items_of}
use Rattle.ffc_smt.specs.Terms as smt
use Rattle.ffc_smt.specs.CommandReading.{limits, form_read}
use Rattle.ffc_parts.specs.declared.heads.Head.TheVariants as head
use Rattle.ffc_words.specs.Words.{fault_of}
use Rattle.ffc_words.specs.Outcomes.{outcome}
use Rattle.ffc_elab.specs.Reading.{read_by_head, result_as}
use Rattle.ffc_elab.proofs.ChangeLemmas.{plain_fault, sound_of}
use Rattle.ffc_elab.proofs.DeclareLemmas.{sound_sort}
use Rattle.ffc_elab.proofs.store.Store.declare_const_command.Goals as goal

pub declare-requires-clause-sound : goal.declare-requires-clause-sound
declare-requires-clause-sound c =
    let ready = c.requires in
    let s = ready.known.state in
    let form = ready.form in
    let e : Ok (smt.Declare c.in-Ok.name.now c.in-Ok.sort) ≡ outcome (read_by_head limits s head.DeclareConst form.closing (items_of form.items)) =
    sym (ap (result_as (λ d. smt.Declare d.0.now d.1)) c.in-Ok.is) ∙ c.declare_const.ensures s form.items form.closing ready.kept.scope form.at form.order in
    sound_sort s ready.tree c.in-Ok.name.now c.in-Ok.sort ready.sound.sound (sound_of (form_read limits s ready.tree) (smt.Declare c.in-Ok.name.now c.in-Ok.sort) (form.read ∙ sym e))

pub returns-in-Err : goal.returns-in-Err
returns-in-Err c = λ k tree h known whole form.
    let e : Err (fault_of c.in-Err.fault) ≡ outcome (read_by_head limits k.state head.DeclareConst form.closing (items_of form.items)) =
    sym (ap (result_as (λ d. smt.Declare d.0.now d.1)) c.in-Err.is) ∙ c.declare_const.ensures k.state form.items form.closing h.scope form.at form.order in
    (plain_fault k tree c.args.words.now head.DeclareConst known form (fault_of c.in-Err.fault) e, h)

pub returns-in-Ok : goal.returns-in-Ok
returns-in-Ok c = λ k tree h known whole form.
    let e : Ok (smt.Declare c.in-Ok.name.now c.in-Ok.sort) ≡ outcome (read_by_head limits k.state head.DeclareConst form.closing (items_of form.items)) =
    sym (ap (result_as (λ d. smt.Declare d.0.now d.1)) c.in-Ok.is) ∙ c.declare_const.ensures k.state form.items form.closing h.scope form.at form.order in
    c.declare.ensures k tree head.DeclareConst h known whole form e
