-- The eight orders.
use Rattle.std.specs.Prelude.{◌≡◌, ℕ}
use Rattle.ffc_field.specs.declared.id.FieldId.{FieldId}
use Rattle.ffc_field.specs.declared.id.FieldId.TheVariants.{F2, F3, F5, F17, F65537, BabyBear, KoalaBear, Goldilocks}

-- the order of a field
abbrev pub order_of_id : FieldId → ℕ
order_of_id F2 = 2
order_of_id F3 = 3
order_of_id F5 = 5
order_of_id F17 = 17
order_of_id F65537 = 65537
order_of_id BabyBear = 2013265921
order_of_id KoalaBear = 2130706433
order_of_id Goldilocks = 18446744069414584321

-- the order of one of the eight fields
abbrev pub IsOrder : ℕ → Type 0
IsOrder n = (id : FieldId) × (order_of_id id ≡ n)
