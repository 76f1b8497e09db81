use Rattle.std.proofs.Common.{◌≤◌, sym, subst₂, true≢false}
use Rattle.std.specs.Int.{bit_at}
use Rattle.ffc_mono.proofs.MaskLemmas.{mask-divisor}
use Rattle.ffc_mono.proofs.borrowed.MonoRef.divides.Goals as goal

pub returns-else-may_divide : goal.returns-else-may_divide
returns-else-may_divide c = (
  λ h. absurd (true≢false (sym h)),
  λ d.
      absurd (
      true≢false
      (sym (c.if-may_divide.ensures (λ i. subst₂ (λ x y. bit_at x i ≤ bit_at y i) (sym c.args.self.mask_is) (sym c.args.other.mask_is) (mask-divisor _ _ c.args.self.is_monomial d i))))
      ),
)
