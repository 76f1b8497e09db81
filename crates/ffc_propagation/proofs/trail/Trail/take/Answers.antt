use Rattle.std.proofs.Common.{◌≡◌, ◌<◌, ◌++◌, ◌∷◌, [], length, filter, slice_get, Some, None, refl, sym, ◌∙◌, arith, rules}
use Rattle.ffc_propagation.specs.Trails.{is_open_at}
use Rattle.ffc_propagation.proofs.TrailLemmas.{open_within, taken_refuting, taken_again, taken_more, taken_forcing}
use Rattle.ffc_propagation.proofs.trail.Trail.take.Goals as goal

pub returns-in_default-clause-forced : goal.returns-in_default-clause-forced
returns-in_default-clause-forced c = λ k g f.
    let none : slice_get (filter (is_open_at c.args.self.now.marks.items) c.args.literals.now) 0 ≡ None = search rules in
    taken_refuting c.args.self.now c.requires.trail c.args.literals.now c.requires.unit _ c.args.reason none refl refl c.in_ok-push.ensures.items k g f

pub is_true-requires : goal.is_true-requires
is_true-requires c =
    let first : slice_get (filter (is_open_at c.args.self.now.marks.items) c.args.literals.now) 0 ≡ Some c.in-Some.literal = search rules in
    open_within c.args.self.now.marks.items c.args.literals.now c.in-Some.literal (length c.args.self.now.marks.items) c.requires.within first

pub index_mut-requires : goal.index_mut-requires
index_mut-requires c =
    let first : slice_get (filter (is_open_at c.args.self.now.marks.items) c.args.literals.now) 0 ≡ Some c.in-Some.literal = search rules in
    let inside : c.in-Some.literal.1 < length c.args.self.now.marks.items = open_within c.args.self.now.marks.items c.args.literals.now c.in-Some.literal (length c.args.self.now.marks.items) c.requires.within first in
    let long = c.args.self.now.marks.ok.0 in
    omega (arith, inside, long)

pub returns-in_ok-push-3-clause-taken : goal.returns-in_ok-push-3-clause-taken
returns-in_ok-push-3-clause-taken c =
    let first : slice_get (filter (is_open_at c.args.self.now.marks.items) c.args.literals.now) 0 ≡ Some c.in-Some.literal = search rules in
    let inside = open_within c.args.self.now.marks.items c.args.literals.now c.in-Some.literal (length c.args.self.now.marks.items) c.requires.within first in
    taken_more c.args.self.now c.requires.trail c.args.literals.now c.requires.unit c.in-Some.literal first _ c.args.reason inside (sym c.is_true.ensures ∙ c.if-not-is_true.true) refl c.in_ok-push-3.ensures.items c.in_ok-push-2.ensures.items

pub returns-in_ok-push-3-clause-forced : goal.returns-in_ok-push-3-clause-forced
returns-in_ok-push-3-clause-forced c =
    let first : slice_get (filter (is_open_at c.args.self.now.marks.items) c.args.literals.now) 0 ≡ Some c.in-Some.literal = search rules in
    let inside = open_within c.args.self.now.marks.items c.args.literals.now c.in-Some.literal (length c.args.self.now.marks.items) c.requires.within first in
    taken_forcing c.args.self.now c.requires.trail c.args.literals.now c.requires.unit c.in-Some.literal first _ c.args.reason inside (sym c.is_true.ensures ∙ c.if-not-is_true.true) refl c.in_ok-push-3.ensures.items c.in_ok-push-2.ensures.items

pub returns-else-not-is_true-clause-taken : goal.returns-else-not-is_true-clause-taken
returns-else-not-is_true-clause-taken c =
    let first : slice_get (filter (is_open_at c.args.self.now.marks.items) c.args.literals.now) 0 ≡ Some c.in-Some.literal = search rules in
    taken_again c.args.self.now c.requires.trail c.args.literals.now c.requires.unit c.in-Some.literal first (sym c.is_true.ensures ∙ c.if-not-is_true.false)
