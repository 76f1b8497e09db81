-- What the comparisons need of the two orders.
use Rattle.std.proofs.Common.{◌≡◌, ℕ, false, refl, sym, ap, ap₂, ◌∙◌, true≢false}
use Rattle.std.specs.Ordering.{nat_cmp, ordering_then, is_ne}
use Rattle.std.specs.declared.cmp.Ordering.{Ordering}
use Rattle.std.specs.declared.cmp.Ordering.TheVariants.{Less, Equal, Greater}
use Rattle.ffc_ring.specs.Monomial.{Monomial, degree}
use Rattle.ffc_mono.specs.Orders.{graded_reverse_lex_cmp, reverse_lex_cmp}

pub equal_from_is_ne : (o : Ordering) → is_ne o ≡ false → o ≡ Equal
equal_from_is_ne Less h = absurd (true≢false h)
equal_from_is_ne Equal h = refl
equal_from_is_ne Greater h = absurd (true≢false h)

-- at equal degrees the graded order is the reverse lexicographic one
pub graded_when_level : (a b : Monomial) (m n : ℕ) (o : Ordering) → o ≡ nat_cmp m n → is_ne o ≡ false → m ≡ degree a → n ≡ degree b → graded_reverse_lex_cmp a b ≡ reverse_lex_cmp a b
graded_when_level a b m n o is h da db =
    ap (λ r. ordering_then r (reverse_lex_cmp a b)) (ap₂ nat_cmp (sym da) (sym db) ∙ sym is ∙ equal_from_is_ne o h)
