use Rattle.std.proofs.Common.{◌≡◌, ◌≤◌, ◌+◌, ◌-◌, ◌++◌, get_or, map, length, ap, ap₂, ◌∙◌, arith}
use Rattle.std.specs.Prelude.{slice_range}
use Rattle.std.specs.Vec.{vec_len}
use Rattle.ffc_mono.specs.Rows.{flat, marks_from, cut_at, start_at, moved}
use Rattle.ffc_mono.proofs.RowLemmas.{length-cut, row-append, row-is, row-view, row-moved, part_is, marks_between, monomials_between, starts_rise, start_within, ends_within, length-between-places}
use Rattle.ffc_mono.proofs.row.MonoRow.extend_from.Goals as goal

pub start_of-start-requires : goal.start_of-start-requires
start_of-start-requires c =
    omega (arith, length-cut 0 c.other.inside.marks.items c.other.inside.powers.items, ap length c.other.view_is, c.requires.ordered, c.requires.within, ap length c.as_slice-marks.ensures.value)

pub start_of-end-requires : goal.start_of-end-requires
start_of-end-requires c =
    omega (arith, length-cut 0 c.other.inside.marks.items c.other.inside.powers.items, ap length c.other.view_is, c.requires.within, ap length c.as_slice-marks.ensures.value)

pub part-requires-clause-ordered : goal.part-requires-clause-ordered
part-requires-clause-ordered c =
    let js = c.other.inside.marks.items in
    let qs = c.other.inside.powers.items in
    let size = ap length c.other.view_is in
    let low : c.args.to ≤ length (cut_at 0 js qs) = omega (arith, size, c.requires.within) in
    let start : c.start_of-start.result ≡ start_at js c.args.from = c.start_of-start.ensures ∙ ap (λ k. start_at k c.args.from) c.as_slice-marks.ensures.value in
    let end : c.start_of-end.result ≡ start_at js c.args.to = c.start_of-end.ensures ∙ ap (λ k. start_at k c.args.to) c.as_slice-marks.ensures.value in
    omega (arith, start, end, starts_rise qs js _ c.other.invariant c.args.from c.args.to c.requires.ordered low)

pub part-requires-clause-within : goal.part-requires-clause-within
part-requires-clause-within c =
    let js = c.other.inside.marks.items in
    let qs = c.other.inside.powers.items in
    let size = ap length c.other.view_is in
    let low : c.args.to ≤ length (cut_at 0 js qs) = omega (arith, size, c.requires.within) in
    let end : c.start_of-end.result ≡ start_at js c.args.to = c.start_of-end.ensures ∙ ap (λ k. start_at k c.args.to) c.as_slice-marks.ensures.value in
    omega (arith, end, start_within qs js _ c.other.invariant c.args.to low, ap length c.as_slice.ensures.value)

pub marks_between-requires-clause-within : goal.marks_between-requires-clause-within
marks_between-requires-clause-within c =
    omega (arith, length-cut 0 c.other.inside.marks.items c.other.inside.powers.items, ap length c.other.view_is, c.requires.within, ap length c.as_slice-marks.ensures.value)

pub append_moved-requires-clause-after : goal.append_moved-requires-clause-after
append_moved-requires-clause-after c = λ k d below.
    let js = c.other.inside.marks.items in
    let qs = c.other.inside.powers.items in
    let size = ap length c.other.view_is in
    let low : c.args.to ≤ length (cut_at 0 js qs) = omega (arith, size, c.requires.within) in
    let start : c.start_of-start.result ≡ start_at js c.args.from = c.start_of-start.ensures ∙ ap (λ k. start_at k c.args.from) c.as_slice-marks.ensures.value in
    let end : c.start_of-end.result ≡ start_at js c.args.to = c.start_of-end.ensures ∙ ap (λ k. start_at k c.args.to) c.as_slice-marks.ensures.value in
    let marks : c.marks_between.result.now ≡ slice_range js c.args.from c.args.to =
    c.marks_between.ensures ∙ ap (λ v. slice_range v c.args.from c.args.to) c.as_slice-marks.ensures.value in
    let inside = ends_within qs js _ c.other.invariant c.args.from c.args.to k d c.requires.ordered low (omega (arith, ap length marks, below)) in
    let same : (get_or c.marks_between.result.now k d).end ≡ (get_or (slice_range js c.args.from c.args.to) k d).end = ap (λ v. (get_or v k d).end) marks in
    let size' : length c.part.result.now ≡ c.start_of-end.result - c.start_of-start.result =
    ap length c.part.ensures ∙ length-between-places c.as_slice.result.now _ _ (omega (arith, end, start_within qs js _ c.other.invariant c.args.to low, ap length c.as_slice.ensures.value)) in
    let more : vec_len c.extend_from_slice.new.self ≡ vec_len c.self.inside.powers + length c.part.result.now = c.in_ok-extend_from_slice.ensures.len in (
      omega (arith, start, same, inside.0),
      omega (arith, start, end, same, inside.0, inside.1, size', more, c.len-place.ensures, c.extend_from_slice.new.self.ok, c.extend_from_slice.new.self.small),
    )

pub invariant_of-self-2 : goal.invariant_of-self-2
invariant_of-self-2 c =
    let js = c.other.inside.marks.items in
    let qs = c.other.inside.powers.items in
    let size = ap length c.other.view_is in
    let low : c.args.to ≤ length (cut_at 0 js qs) = omega (arith, size, c.requires.within) in
    let start : c.start_of-start.result ≡ start_at js c.args.from = c.start_of-start.ensures ∙ ap (λ k. start_at k c.args.from) c.as_slice-marks.ensures.value in
    let end : c.start_of-end.result ≡ start_at js c.args.to = c.start_of-end.ensures ∙ ap (λ k. start_at k c.args.to) c.as_slice-marks.ensures.value in
    let ks = c.self.inside.marks.items in
    let ps = c.self.inside.powers.items in
    let more = slice_range (cut_at 0 js qs) c.args.from c.args.to in
    let powers : c.extend_from_slice.new.self.items ≡ ps ++ c.part.result.now = c.in_ok-extend_from_slice.ensures.items in
    let part : c.part.result.now ≡ flat more =
    c.part.ensures ∙ ap (λ v. slice_range v c.start_of-start.result c.start_of-end.result) c.as_slice.ensures.value
    ∙ ap₂ (slice_range qs) start end ∙ part_is qs js _ c.other.invariant c.args.from c.args.to c.requires.ordered low in
    let place : c.len-place.result ≡ length ps = omega (arith, c.len-place.ensures, c.self.inside.powers.ok) in
    let moved_marks : map (moved c.start_of-start.result c.len-place.result) c.marks_between.result.now ≡ marks_from (length ps) more =
    ap (map (moved c.start_of-start.result c.len-place.result)) (c.marks_between.ensures ∙ ap (λ v. slice_range v c.args.from c.args.to) c.as_slice-marks.ensures.value)
    ∙ ap (λ s. map (moved s c.len-place.result) (slice_range js c.args.from c.args.to)) start
    ∙ marks_between qs js _ c.other.invariant c.len-place.result c.args.from c.args.to c.requires.ordered low
    ∙ ap (λ k. marks_from k more) place in
    let marks : c.append_moved.new.out.items ≡ ks ++ map (moved c.start_of-start.result c.len-place.result) c.marks_between.result.now =
    c.append_moved.ensures ∙ ap (λ k. k ++ map (moved c.start_of-start.result c.len-place.result) c.marks_between.result.now) c.in_ok-reserve.ensures.items in
    let step = row-append ps c.part.result.now ks _ _ more c.self.invariant part moved_marks (monomials_between qs js _ c.other.invariant c.args.from c.args.to) in
    row-is _ _ _ (row-moved _ _ _ _ _ powers marks step)

pub returns-clause-appended : goal.returns-clause-appended
returns-clause-appended c =
    let js = c.other.inside.marks.items in
    let qs = c.other.inside.powers.items in
    let size = ap length c.other.view_is in
    let low : c.args.to ≤ length (cut_at 0 js qs) = omega (arith, size, c.requires.within) in
    let start : c.start_of-start.result ≡ start_at js c.args.from = c.start_of-start.ensures ∙ ap (λ k. start_at k c.args.from) c.as_slice-marks.ensures.value in
    let end : c.start_of-end.result ≡ start_at js c.args.to = c.start_of-end.ensures ∙ ap (λ k. start_at k c.args.to) c.as_slice-marks.ensures.value in
    let ks = c.self.inside.marks.items in
    let ps = c.self.inside.powers.items in
    let more = slice_range (cut_at 0 js qs) c.args.from c.args.to in
    let powers : c.extend_from_slice.new.self.items ≡ ps ++ c.part.result.now = c.in_ok-extend_from_slice.ensures.items in
    let part : c.part.result.now ≡ flat more =
    c.part.ensures ∙ ap (λ v. slice_range v c.start_of-start.result c.start_of-end.result) c.as_slice.ensures.value
    ∙ ap₂ (slice_range qs) start end ∙ part_is qs js _ c.other.invariant c.args.from c.args.to c.requires.ordered low in
    let place : c.len-place.result ≡ length ps = omega (arith, c.len-place.ensures, c.self.inside.powers.ok) in
    let moved_marks : map (moved c.start_of-start.result c.len-place.result) c.marks_between.result.now ≡ marks_from (length ps) more =
    ap (map (moved c.start_of-start.result c.len-place.result)) (c.marks_between.ensures ∙ ap (λ v. slice_range v c.args.from c.args.to) c.as_slice-marks.ensures.value)
    ∙ ap (λ s. map (moved s c.len-place.result) (slice_range js c.args.from c.args.to)) start
    ∙ marks_between qs js _ c.other.invariant c.len-place.result c.args.from c.args.to c.requires.ordered low
    ∙ ap (λ k. marks_from k more) place in
    let marks : c.append_moved.new.out.items ≡ ks ++ map (moved c.start_of-start.result c.len-place.result) c.marks_between.result.now =
    c.append_moved.ensures ∙ ap (λ k. k ++ map (moved c.start_of-start.result c.len-place.result) c.marks_between.result.now) c.in_ok-reserve.ensures.items in
    let step = row-append ps c.part.result.now ks _ _ more c.self.invariant part moved_marks (monomials_between qs js _ c.other.invariant c.args.from c.args.to) in
    row-view _ _ _ (row-moved _ _ _ _ _ powers marks step)
    ∙ ap₂ (λ x y. x ++ slice_range y c.args.from c.args.to) c.self.view_is c.other.view_is
