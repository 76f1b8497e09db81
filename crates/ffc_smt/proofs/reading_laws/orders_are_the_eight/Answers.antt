use Rattle.ffc_smt.proofs.SoundReading.{order_good}
use Rattle.ffc_smt.proofs.OrderLemmas.{order_tested, order_listed, listed_order, named_are_orders}
use Rattle.ffc_smt.proofs.reading_laws.orders_are_the_eight.Goals as goal

pub returns : goal.returns
returns c = record { listed = λ p. ((λ h. listed_order p h), (λ h. order_listed p h)); tested = λ p. ((λ h. order_good p h), (λ h. order_tested p h)); named = λ l s t d e. named_are_orders l s t d e }
