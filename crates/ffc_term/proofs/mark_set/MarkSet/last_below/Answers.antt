use Rattle.std.proofs.Common.{◌≡◌, ◌+◌, ◌-◌, ◌*◌, ◌/◌, ◌%◌, ◌<◌, ◌≤◌, length, get_or, sym, ap, ◌∙◌, subst, arith}
use Rattle.std.specs.Int.{bit_at}
use Rattle.ffc_term.specs.Marking.{IsMarked, IsNoneMarked, marks_in}
use Rattle.ffc_term.proofs.MarkLemmas.{length-marks_in, word_read, none_from, marked_at, IsNoneMarked-join}
use Rattle.ffc_term.proofs.mark_set.MarkSet.last_below.Goals as goal

pub index-requires : goal.index-requires
index-requires c =
    let words = c.self.inside.words in
    let bound = c.self.inside.bound in
    let few : c.args.end ≤ bound = subst (λ n. c.args.end ≤ n) (sym (ap length c.self.view_is) ∙ length-marks_in words.items bound) c.requires in
    omega (arith, c.self.invariant, words.ok)

pub returns-in-Some-clause-some : goal.returns-in-Some-clause-some
returns-in-Some-clause-some c =
    let words = c.self.inside.words.items in
    let bound = c.self.inside.bound in
    let past = c.loop-past.past in
    let at = (past - 1) / 64 in
    let last = (past - 1) % 64 in
    let bit = c.in-Some.bit in
    let found = c.in-Some.ensures.some in
    let few : c.args.end ≤ bound = subst (λ n. c.args.end ≤ n) (sym (ap length c.self.view_is) ∙ length-marks_in words bound) c.requires in
    let some : 0 < past = omega (arith, c.loop-past-test.true) in
    let within : past ≤ bound = omega (arith, c.loop-past.invariant.within) in
    let word : c.index.result.now ≡ get_or words at 0 = word_read words at c.index.result.now (omega (arith, c.self.invariant)) c.index.ensures in
    let after : IsNoneMarked (marks_in words bound) (64 * at + bit + 1) past =
    none_from words bound past some within (64 * at + bit + 1) (bit + 1) (omega arith) (λ j least low. sym (ap (λ w. bit_at w j) word) ∙ found.2 j (omega arith) low) in (
      omega (arith, found.0, c.loop-past.invariant.within),
      subst (λ m. IsMarked m (64 * at + bit)) c.self.view_is (marked_at words bound past some within bit found.0 (sym (ap (λ w. bit_at w bit) word) ∙ found.1)),
      subst (λ m. IsNoneMarked m (64 * at + bit + 1) c.args.end) c.self.view_is (IsNoneMarked-join (marks_in words bound) (64 * at + bit + 1) past c.args.end after c.loop-past.invariant.none),
    )

pub loop-past-preserved : goal.loop-past-preserved
loop-past-preserved c =
    let words = c.self.inside.words.items in
    let bound = c.self.inside.bound in
    let past = c.loop-past.past in
    let at = (past - 1) / 64 in
    let last = (past - 1) % 64 in
    let few : c.args.end ≤ bound = subst (λ n. c.args.end ≤ n) (sym (ap length c.self.view_is) ∙ length-marks_in words bound) c.requires in
    let some : 0 < past = omega (arith, c.loop-past-test.true) in
    let within : past ≤ bound = omega (arith, c.loop-past.invariant.within) in
    let word : c.index.result.now ≡ get_or words at 0 = word_read words at c.index.result.now (omega (arith, c.self.invariant)) c.index.ensures in
    record {
      within = omega (arith, c.loop-past.invariant.within);
      none = IsNoneMarked-join (marks_in words bound) (64 * at) past c.args.end
          (none_from words bound past some within (64 * at) 0 (omega arith) (λ j least low. sym (ap (λ w. bit_at w j) word) ∙ c.in_default.ensures.none j low))
          c.loop-past.invariant.none;
    }
