-- Units taken one after another.
use Rattle.std.proofs.Common.{◌≡◌, ℕ, ◌+◌, ◌≤◌, sym, ap, ◌∙◌, subst, arith, add_assoc, add-zero}
use Rattle.ffc_base.specs.Metering.{Spending, total}
use Rattle.ffc_base.specs.declared.stop.Stop.{Stop}
use Rattle.ffc_base.specs.declared.stop.Stop.TheVariants.{Spent, Memory}
use Rattle.ffc_uni.specs.Units.{chained, IsStopped, IsAtMost}

pub chained-chained : (s : Spending) (k n : ℕ) → chained (chained s k) n ≡ chained s (k + n)
chained-chained s k n = ap (λ m. record s { chains = m }) (add_assoc s.chains k n)

pub chained-none : (s : Spending) → s ≡ chained s 0
chained-none s = ap (λ m. record s { chains = m }) (sym (add-zero s.chains))

pub chained_later : (a b c : Spending) (k n : ℕ) → b ≡ chained a k → c ≡ chained b n → c ≡ chained a (k + n)
chained_later a b c k n first second = second ∙ ap (λ s. chained s n) first ∙ chained-chained a k n

-- what stops later than some units has taken these too
pub stopped_later : (needed k m : ℕ) (a b c : Spending) (stop : Stop) → k + m ≤ needed → b ≡ chained a k → IsStopped m b c stop → IsStopped needed a c stop
stopped_later needed k m a b c Spent within first later =
    (k + later.0, omega (arith, later.1), chained_later a b c k later.0 first later.2, later.3)
stopped_later needed k m a b c Memory within first later =
    (k + later.0, omega (arith, later.1), chained_later a b c k later.0 first later.2)

-- some units, and then some more
pub at_most_later : (j k : ℕ) (a b c : Spending) → IsAtMost j a b → IsAtMost k b c → IsAtMost (j + k) a c
at_most_later j k a b c first second =
    (first.0 + second.0, omega (arith, first.1, second.1), chained_later a b c first.0 second.0 first.2 second.2)

pub at_most_more : (j k : ℕ) (a b : Spending) → j ≤ k → IsAtMost j a b → IsAtMost k a b
at_most_more j k a b more some = (some.0, omega (arith, some.1), some.2)

pub stopped_at_most : (k : ℕ) (a b : Spending) (stop : Stop) → IsStopped k a b stop → IsAtMost k a b
stopped_at_most k a b Spent stopped = (stopped.0, omega (arith, stopped.1), stopped.2)
stopped_at_most k a b Memory stopped = (stopped.0, stopped.1, stopped.2)

pub at_most_total : (k : ℕ) (a b : Spending) → IsAtMost k a b → total a ≤ total b
at_most_total k a b some = subst (λ s. total a ≤ total s) (sym some.2) (omega arith)
