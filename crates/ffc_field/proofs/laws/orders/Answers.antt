use Rattle.ffc_field.proofs.OrderLemmas.{order_is_prime, same_from_order}
use Rattle.ffc_field.proofs.laws.orders.Goals as goal

pub returns-clause-prime : goal.returns-clause-prime
returns-clause-prime c = order_is_prime

pub returns-clause-apart : goal.returns-clause-apart
returns-clause-apart c = same_from_order
