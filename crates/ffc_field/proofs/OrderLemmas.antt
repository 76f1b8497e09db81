-- Facts on the eight orders that other crates cite.
use Rattle.std.proofs.Common.{◌≡◌, ℕ, ◌^◌, ◌<◌, ◌==◌, Option, Some, None, if◌then◌else◌, refl, sym, ap, ◌∙◌, lit<}
use Rattle.ffc_field.specs.declared.id.FieldId.{FieldId}
use Rattle.ffc_field.specs.declared.id.FieldId.TheVariants.{F2, F3, F5, F17, F65537, BabyBear, KoalaBear, Goldilocks}
use Rattle.ffc_field.specs.Modular.{IsPrime}
use Rattle.ffc_field.specs.Orders.{order_of_id}
use Rattle.ffc_field.specs.Primality.{two_is_prime, three_is_prime, five_is_prime, seventeen_is_prime, fermat_four_is_prime, baby_bear_is_prime, koala_bear_is_prime, goldilocks_is_prime}

pub order_is_prime : (id : FieldId) → IsPrime (order_of_id id)
order_is_prime F2 = two_is_prime
order_is_prime F3 = three_is_prime
order_is_prime F5 = five_is_prime
order_is_prime F17 = seventeen_is_prime
order_is_prime F65537 = fermat_four_is_prime
order_is_prime BabyBear = baby_bear_is_prime
order_is_prime KoalaBear = koala_bear_is_prime
order_is_prime Goldilocks = goldilocks_is_prime

pub order_fits : (id : FieldId) → order_of_id id < 2 ^ 64
order_fits F2 = lit< tt
order_fits F3 = lit< tt
order_fits F5 = lit< tt
order_fits F17 = lit< tt
order_fits F65537 = lit< tt
order_fits BabyBear = lit< tt
order_fits KoalaBear = lit< tt
order_fits Goldilocks = lit< tt

-- the name of an order
abbrev id_of : ℕ → Option FieldId
id_of n =
    if n == 2 then Some F2 else
    if n == 3 then Some F3 else
    if n == 5 then Some F5 else
    if n == 17 then Some F17 else
    if n == 65537 then Some F65537 else
    if n == 2013265921 then Some BabyBear else
    if n == 2130706433 then Some KoalaBear else
    if n == 18446744069414584321 then Some Goldilocks else None

id_of-order : (id : FieldId) → id_of (order_of_id id) ≡ Some id
id_of-order F2 = refl
id_of-order F3 = refl
id_of-order F5 = refl
id_of-order F17 = refl
id_of-order F65537 = refl
id_of-order BabyBear = refl
id_of-order KoalaBear = refl
id_of-order Goldilocks = refl

-- two names of one order are one name
pub same_from_order : (a b : FieldId) → order_of_id a ≡ order_of_id b → a ≡ b
same_from_order a b same =
    let named : Some a ≡ Some b = sym (id_of-order a) ∙ ap id_of same ∙ id_of-order b in cc
