use Rattle.std.proofs.Common.{◌≡◌, ℕ, min, Ok, Err, sym, ap, ◌∙◌, subst, arith}
use Rattle.ffc_smt.specs.Trees.{items_of}
use Rattle.ffc_smt.specs.Scopes.{level_of}
use Rattle.ffc_smt.specs.CommandReading.{limits}
use Rattle.ffc_words.specs.Words.{fault_of}
use Rattle.ffc_words.specs.Outcomes.{outcome}
use Rattle.ffc_elab.specs.declared.store.Store.{Store}
use Rattle.ffc_elab.specs.Histories.{Known}
use Rattle.ffc_elab.specs.Kept.{IsKept}
use Rattle.ffc_elab.specs.Reading.{IsWithin, plain_of, result_as, read_by_head}
use Rattle.ffc_elab.proofs.LevelLemmas.{level_count}
use Rattle.ffc_elab.proofs.ChangeLemmas.{plain_fault, plain_taken}
use Rattle.ffc_elab.proofs.store.Store.plain_command.Goals as goal

-- the level that the marks count
level_is : (k : Known) (x : Store) (n m : ℕ) → IsKept k x → n ≡ x.marks.len → m ≡ min n 65536 → level_of k.state ≡ m
level_is k x n m h e is =
    let count = level_count k x h in
    let few = h.levels in
    omega (arith, count, few, x.marks.ok.0)

pub returns-in-Err : goal.returns-in-Err
returns-in-Err c = λ k tree h known form.
    let level = level_is k c.args.self.now c.len.result c.min-level.result h c.len.ensures c.min-level.ensures in
    let e : Err (fault_of c.in-Err.fault) ≡ outcome (read_by_head limits k.state c.args.head form.closing (items_of form.items)) =
    sym (ap (result_as plain_of) c.in-Err.is) ∙ c.read_plain.ensures.reads k.state form.items form.closing (sym h.logic) level form.at form.order in
    (plain_fault k tree c.args.words.now c.args.head known form (fault_of c.in-Err.fault) e, h)

pub returns-in-Ok-take_plain : goal.returns-in-Ok-take_plain
returns-in-Ok-take_plain c = λ k tree h known form.
    let level = level_is k c.args.self.now c.len.result c.min-level.result h c.len.ensures c.min-level.ensures in
    let e : Ok (plain_of c.in-Ok.plain) ≡ outcome (read_by_head limits k.state c.args.head form.closing (items_of form.items)) =
    sym (ap (result_as plain_of) c.in-Ok.is) ∙ c.read_plain.ensures.reads k.state form.items form.closing (sym h.logic) level form.at form.order in
    let within : IsWithin (level_of k.state) c.in-Ok.plain = subst (λ n. IsWithin n c.in-Ok.plain) (sym level) (c.in-Ok.ensures.within) in
    let taken = c.in-Ok-take_plain.ensures.ok k within h in
    plain_taken k tree c.args.words.now c.args.head known form c.in-Ok.plain c.take_plain.new.self c.in-Ok-take_plain.answer e taken.0 taken.1
