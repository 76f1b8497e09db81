use Rattle.std.proofs.Common.{◌≡◌, ◌-◌, ◌/◌, ◌%◌, ◌^◌, ◌++◌, ◌==◌, ◌∷◌, Bool, true, false, map, List, sym, ap, ap₂, ◌∙◌, arith, append-nil}
use Rattle.ffc_uni.specs.Chains.{binary, digits_of}
use Rattle.ffc_trees.specs.TreeLines.{Factor, factors_over}
use Rattle.ffc_cktree.specs.Factors.{factor_of, factors_of}
use Rattle.ffc_cktree.proofs.ChainLemmas.{left_over, left-nothing, digit_waits, all_digits, factors-reverse, binary_at, digit_after}
use Rattle.ffc_cktree.proofs.chain.factors.Goals as goal
use Rattle.ffc_cktree.proofs.chain.factors.Goals.{then-begun+in_ok-push_digit, else-begun}

pub loop-place-init : goal.loop-place-init
loop-place-init c = record {
  high = omega arith;
  so_far = ap (λ fs. map factor_of fs ++ left_over false (binary 64 c.args.p)) c.new-factors.ensures.items ∙ all_digits c.args.p;
}

pub loop-place-preserved-then-begun-2 : goal.loop-place-preserved-then-begun-2
loop-place-preserved-then-begun-2 c =
    let p = c.args.p in
    let n = c.loop-place.place in
    let inv = c.loop-place.invariant in
    let d : Bool = p / 2 ^ (n - 1) % 2 == 1 in
    let ds : List Bool = binary (n - 1) p in
    let old : List Factor = map factor_of c.loop-place.factors.items in
    let all : List Factor = factors_over (digits_of p) in
    let so_far : old ++ left_over true (d ∷ ds) ≡ all =
    ap (λ l. old ++ left_over true l) (sym (binary_at n p c.loop-place-test.true)) ∙ ap (λ b. old ++ left_over b (binary n p)) (sym c.if-begun-2.true) ∙ inv.so_far in
    record {
      high = omega (arith, inv.high);
      so_far =
          elim c.if-begun.branch [
            | then-begun+in_ok-push_digit w ↦
                ap₂ (λ v b. map factor_of v.items ++ left_over b ds) w.factors-is c.if-begun-2.true
                ∙ digit_after d ds old (map factor_of w.push_digit.new.factors.items) all w.in_ok-push_digit.ensures so_far
            | else-begun w ↦ let wrong : true ≡ false = sym c.if-begun-2.true ∙ w.if-begun.false in absurd (cc wrong)
          ];
    }

pub loop-place-preserved : goal.loop-place-preserved
loop-place-preserved c =
    let p = c.args.p in
    let n = c.loop-place.place in
    let inv = c.loop-place.invariant in
    let d : Bool = p / 2 ^ (n - 1) % 2 == 1 in
    let ds : List Bool = binary (n - 1) p in
    let old : List Factor = map factor_of c.loop-place.factors.items in
    let all : List Factor = factors_over (digits_of p) in
    let so_far : old ++ left_over d ds ≡ all =
    ap (λ l. old ++ l) (sym (digit_waits d ds)) ∙ ap (λ l. old ++ left_over false l) (sym (binary_at n p c.loop-place-test.true)) ∙ ap (λ b. old ++ left_over b (binary n p)) (sym c.if-begun-2.false) ∙ inv.so_far in
    record {
      high = omega (arith, inv.high);
      so_far =
          elim c.if-begun.branch [
            | then-begun+in_ok-push_digit w ↦ let wrong : true ≡ false = sym w.if-begun.true ∙ c.if-begun-2.false in absurd (cc wrong)
            | else-begun w ↦ ap (λ v. map factor_of v.items ++ left_over d ds) w.factors-is ∙ so_far
          ];
    }

pub returns : goal.returns
returns c =
    let p = c.args.p in
    let items = c.loop-place.factors.items in
    let none : c.loop-place.place ≡ 0 = omega (arith, c.loop-place-test.false) in
    ap factors_of c.reverse.ensures.items ∙ factors-reverse items
    ∙ sym (append-nil (map factor_of items)) ∙ ap (λ l. map factor_of items ++ l) (sym (left-nothing c.loop-place.begun))
    ∙ ap (λ n. map factor_of items ++ left_over c.loop-place.begun (binary n p)) (sym none)
    ∙ c.loop-place.invariant.so_far
