-- The orders of scripts are the eight.
use Rattle.std.proofs.Common.{◌≡◌, ℕ, true, All, Contains, refl, subst, arith}
use Rattle.std.proofs.lemmas.List.Elements.{All-from_recursion, All-contains}
use Rattle.ffc_field.specs.declared.id.FieldId.TheVariants.{F2, F3, F5, F17, F65537, BabyBear, KoalaBear, Goldilocks}
use Rattle.ffc_field.specs.Orders.{IsOrder}
use Rattle.ffc_smt.specs.Trees.{Tree}
use Rattle.ffc_smt.specs.Terms.{Command}
use Rattle.ffc_smt.specs.Numbers.{orders, is_order}
use Rattle.ffc_smt.specs.Scopes.{State}
use Rattle.ffc_smt.specs.Faults.{Fault, Sound}
use Rattle.ffc_smt.specs.CommandReading.{Limits, command_read}
use Rattle.ffc_smt.specs.Scripts.{named_orders}
use Rattle.ffc_smt.proofs.ReadLemmas.{IfSound}
use Rattle.ffc_smt.proofs.WalkLemmas.{MayFail, each_any}
use Rattle.ffc_smt.proofs.CommandWalk.{IsTold, reads_command}

pub order_tested : (p : ℕ) → IsOrder p → is_order p ≡ true
order_tested p (F2, e) = subst (λ q. is_order q ≡ true) e refl
order_tested p (F3, e) = subst (λ q. is_order q ≡ true) e refl
order_tested p (F5, e) = subst (λ q. is_order q ≡ true) e refl
order_tested p (F17, e) = subst (λ q. is_order q ≡ true) e refl
order_tested p (F65537, e) = subst (λ q. is_order q ≡ true) e refl
order_tested p (BabyBear, e) = subst (λ q. is_order q ≡ true) e refl
order_tested p (KoalaBear, e) = subst (λ q. is_order q ≡ true) e refl
order_tested p (Goldilocks, e) = subst (λ q. is_order q ≡ true) e refl

pub order_listed : (p : ℕ) → IsOrder p → Contains orders p
order_listed p (F2, e) = subst (Contains orders) e (0, omega arith, refl)
order_listed p (F3, e) = subst (Contains orders) e (1, omega arith, refl)
order_listed p (F5, e) = subst (Contains orders) e (2, omega arith, refl)
order_listed p (F17, e) = subst (Contains orders) e (3, omega arith, refl)
order_listed p (F65537, e) = subst (Contains orders) e (4, omega arith, refl)
order_listed p (BabyBear, e) = subst (Contains orders) e (5, omega arith, refl)
order_listed p (KoalaBear, e) = subst (Contains orders) e (6, omega arith, refl)
order_listed p (Goldilocks, e) = subst (Contains orders) e (7, omega arith, refl)

all_orders : All IsOrder orders
all_orders =
    All-from_recursion IsOrder orders
    ((F2, refl), ((F3, refl), ((F5, refl), ((F17, refl), ((F65537, refl), ((BabyBear, refl), ((KoalaBear, refl), ((Goldilocks, refl), tt))))))))

pub listed_order : (p : ℕ) → Contains orders p → IsOrder p
listed_order p has = All-contains IsOrder orders p all_orders has

abbrev Anywhere : Fault → Type 0
Anywhere f = Unit {0}

pub named_are_orders : (l : Limits) (s : State) (t : Tree) (c : Command) → command_read l s t ≡ Sound c → All IsOrder (named_orders c t)
named_are_orders l s t c e = (subst (λ r. IfSound r (IsTold Anywhere l s t)) e (reads_command Anywhere l s t (each_any (MayFail Anywhere) (λ w code. tt) t)).1).0
