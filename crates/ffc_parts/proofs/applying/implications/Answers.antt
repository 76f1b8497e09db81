use Rattle.std.proofs.Common.{◌≡◌, ℕ, ◌+◌, ◌-◌, ◌<◌, List, [], ◌∷◌, length, drop, get_or, ap, ◌∙◌, subst, arith}
use Rattle.std.proofs.lemmas.List.{drop_more, drop_all, length-drop}
use Rattle.std.proofs.lemmas.Result.{err_from_is_err_and}
use Rattle.ffc_term.specs.declared.node.Sort.TheVariants as sort
use Rattle.ffc_smt.specs.Making.{Made, implication}
use Rattle.ffc_smt.proofs.Extends.{Extends}
use Rattle.ffc_parts.specs.Growing.{implied}
use Rattle.ffc_parts.proofs.GrowingLemmas.{left_wider, grows_same, grows_further, all_at_stays, implication_at, implied_last, implied_then, implied_front}
use Rattle.ffc_parts.proofs.applying.implications.Goals as goal

-- the last of a list, and nothing after it
last_alone : (ids : List ℕ) → 0 < length ids → drop (length ids - 1) ids ≡ get_or ids (length ids - 1) 0 ∷ []
last_alone ids h = drop_more ids (length ids - 1) 0 (omega arith) ∙ ap (λ t. get_or ids (length ids - 1) 0 ∷ t) (drop_all (length ids - 1 + 1) ids (omega arith))

-- one more before
before : (ids : List ℕ) (at : ℕ) → 0 < at → at < length ids → drop (at - 1) ids ≡ get_or ids (at - 1) 0 ∷ drop at ids
before ids at h g = drop_more ids (at - 1) 0 (omega arith) ∙ ap (λ k. get_or ids (at - 1) 0 ∷ drop k ids) (let e : at - 1 + 1 ≡ at = omega arith in e)

pub loop-at-init : goal.loop-at-init
loop-at-init c =
    let ns = c.args.table.now in
    let ids = c.args.ids.now in
    let a = get_or ids (length ids - 1) 0 in
    record {
      within = omega (arith, c.requires.some);
      whole = ap (implied ns) (last_alone ids c.requires.some) ∙ implied_last ns a;
      grows = grows_same ns c.len-before.ensures.valid;
      here = c.requires.each (length ids - 1) 0 (omega (arith, c.requires.some));
      each = c.requires.each;
    }

pub returns-in_err-made : goal.returns-in_err-made
returns-in_err-made c =
    let p = err_from_is_err_and c.from_residual.result c.from_residual.ensures.1 in
    let old = c.args.table.now in
    let mid = c.loop-at.table in
    let ids = c.args.ids.now in
    let at = c.loop-at.at in
    let a = get_or ids (at - 1) 0 in
    let inv = c.loop-at.invariant in
    let some : 0 < length (drop at ids) = omega (arith, length-drop at ids, inv.within) in
    let e = ap (implied old) (before ids at c.loop-at-test.true inv.within) ∙ implied_then old mid a c.loop-at.made (drop at ids) some inv.whole in
    let part = implication mid a c.loop-at.made in
    rw (p.1, p.2)
    (left_wider old mid c.implication.new.table part (implied old ids) c.in_err-made.field-0.0 inv.grows
    (subst (λ (m : Made). Extends m.nodes (implied old ids).nodes) e (implied_front old ids (at - 1) (omega (arith, inv.within)))) c.in_err-made.ensures)

pub loop-at-preserved : goal.loop-at-preserved
loop-at-preserved c =
    let old = c.args.table.now in
    let mid = c.loop-at.table in
    let new = c.implication.new.table in
    let ids = c.args.ids.now in
    let at = c.loop-at.at in
    let a = get_or ids (at - 1) 0 in
    let inv = c.loop-at.invariant in
    let some : 0 < length (drop at ids) = omega (arith, length-drop at ids, inv.within) in
    let done = c.in_ok-made.ensures in
    record {
      within = omega (arith, inv.within);
      whole = ap (implied old) (before ids at c.loop-at-test.true inv.within) ∙ implied_then old mid a c.loop-at.made (drop at ids) some inv.whole ∙ done.made;
      grows = grows_further old mid new inv.grows done.grows;
      here = implication_at mid new a c.loop-at.made c.in_ok-made.made done.made;
      each = all_at_stays mid new sort.Bool ids done.grows inv.each;
    }
