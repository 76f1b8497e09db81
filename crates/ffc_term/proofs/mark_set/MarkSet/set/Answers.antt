use Rattle.std.proofs.Common.{◌/◌, ◌*◌, ◌%◌, ◌^◌, ◌<◌, length, set, true, sym, ap, ◌∙◌, subst, arith}
use Rattle.std.specs.Int.Bits.{bit_or}
use Rattle.ffc_term.proofs.MarkLemmas.{length-marks_in, marks_in-set, word_read}
use Rattle.ffc_term.proofs.mark_set.MarkSet.set.Goals as goal

pub index_mut-requires : goal.index_mut-requires
index_mut-requires c =
    let words = c.self.inside.words in
    let inside : c.args.id < c.self.inside.bound =
    subst (λ n. c.args.id < n) (sym (ap length c.self.view_is) ∙ length-marks_in words.items c.self.inside.bound) c.requires in
    omega (arith, c.self.invariant, words.ok)

pub returns : goal.returns
returns c =
    let words = c.self.inside.words in
    let bound = c.self.inside.bound in
    let id = c.args.id in
    let inside : id < bound = subst (λ n. id < n) (sym (ap length c.self.view_is) ∙ length-marks_in words.items bound) c.requires in
    let has : id / 64 < length words.items = omega (arith, c.self.invariant) in
    let word = word_read words.items (id / 64) c.index_mut.result.now has c.index_mut.ensures.value in
    marks_in-set words.items bound id _ inside c.self.invariant (ap (λ w. bit_or w (1 * 2 ^ (id % 64) % 2 ^ 64)) word) ∙ ap (λ m. set m id true) c.self.view_is
