use Rattle.std.proofs.Common.{◌≡◌, ℕ, ◌+◌, ◌-◌, List, length, take, drop, arith, get_or, sym, ◌∙◌, subst}
use Rattle.std.proofs.lemmas.List.{take_all, length-drop}
use Rattle.std.proofs.lemmas.Result.{err_from_is_err_and}
use Rattle.ffc_smt.specs.Making.{AllMade, differences_from, differences}
use Rattle.ffc_smt.proofs.Extends.{Extends}
use Rattle.ffc_parts.specs.Growing.{IsGoing}
use Rattle.ffc_parts.proofs.GrowingLemmas.{all_at_stays, going_more, going_ends, going_left_all, differences_then, differences_begins, differences_goes, differences_ends}
use Rattle.ffc_parts.proofs.applying.differences.Goals as goal

-- a slice up to the end
up_to_end : (ids : List ℕ) (k : ℕ) → take (length ids - k) (drop k ids) ≡ drop k ids
up_to_end ids k = take_all (length ids - k) (drop k ids) (omega (arith, length-drop k ids))

pub returns-in_err-differences_from : goal.returns-in_err-differences_from
returns-in_err-differences_from c =
    let p = err_from_is_err_and c.from_residual.result c.from_residual.ensures.1 in
    let mid = c.loop-i.table in
    let ids = c.args.ids.now in
    let i = c.loop-i.i in
    let a = get_or ids i 0 in
    let rest = drop (i + 1) ids in
    let now = differences mid (drop i ids) in
    let part = differences_from mid a rest in
    rw (p.1, p.2)
    (going_left_all c.args.table.now mid c.differences_from.new.table (differences c.args.table.now ids) now part c.args.parts.now.items c.loop-i.parts.items c.in_err-differences_from.field-0.0 c.loop-i.invariant.going
    (subst (λ (m : AllMade). Extends part.nodes m.nodes) (sym (differences_goes mid ids i c.loop-i-test.true)) (differences_begins mid a rest))
    (rw (up_to_end ids (i + 1)) at c.in_err-differences_from.ensures))

pub loop-i-preserved : goal.loop-i-preserved
loop-i-preserved c =
    let mid = c.loop-i.table in
    let new = c.differences_from.new.table in
    let ids = c.args.ids.now in
    let i = c.loop-i.i in
    let a = get_or ids i 0 in
    let rest = drop (i + 1) ids in
    let done = rw (up_to_end ids (i + 1)) at c.in_ok-differences_from.ensures in
    let alike = c.loop-i.invariant.alike in
    record {
      going =
          going_more c.args.table.now mid new (differences c.args.table.now ids) (differences mid (drop i ids)) (differences new rest) c.args.parts.now.items c.loop-i.parts.items c.differences_from.new.parts.items done.ids
          c.loop-i.invariant.going done.grows (differences_goes mid ids i c.loop-i-test.true ∙ differences_then mid new a rest done.ids done.made) done.listed;
      alike = record { sort = alike.sort; each = all_at_stays mid new alike.sort ids done.grows alike.each };
    }

pub returns : goal.returns
returns c =
    let now = c.loop-i.table in
    going_ends c.args.table.now now (differences c.args.table.now c.args.ids.now) c.args.parts.now.items c.loop-i.parts.items
    (subst (λ (m : AllMade). IsGoing c.args.table.now now (differences c.args.table.now c.args.ids.now) m c.args.parts.now.items c.loop-i.parts.items) (differences_ends now c.args.ids.now c.loop-i.i c.loop-i-test.false) c.loop-i.invariant.going)
