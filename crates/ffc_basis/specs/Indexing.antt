-- Lines by the variables of their leading monomials.
use Rattle.std.specs.Prelude.{◌≡◌, ℕ, suc, ◌-◌, Bool, true, false, ◌==◌, ◌||◌, List, [], ◌∷◌, length, take, All, Option, Some, None, Vec, if◌then◌else◌}
use Rattle.std.specs.declared.alloc.Global.{Global}
use Rattle.std.specs.declared.cmp.Ordering.{Ordering}
use Rattle.std.specs.Ordering.{nat_cmp}
use Rattle.std.specs.BTreeMap.{BTreeMap, get}
use Rattle.ffc_ring.specs.Monomial.{Monomial}
use Rattle.ffc_ring.specs.Polynomial.{Terms}
use Rattle.ffc_poly.specs.Ordered.{IsOrdered}
use Rattle.ffc_basis.specs.declared.index.Index.{Index}

-- a monomial is 1, has a variable as that of the lowest number, or has it
abbrev pub is_one : Monomial → Bool
is_one [] = true
is_one (f ∷ m) = false

abbrev pub begins_with : ℕ → Monomial → Bool
begins_with x [] = false
begins_with x (f ∷ m) = x == f.0

abbrev pub has_variable : ℕ → Monomial → Bool
has_variable x [] = false
has_variable x (f ∷ m) = x == f.0 || has_variable x m

-- the first monomial passes a test; where terms are in order, it is the leading one
abbrev pub is_led : (Monomial → Bool) → Terms → Bool
is_led test [] = false
is_led test (t ∷ ts) = test t.1

-- the numbers of the polynomials of which that holds, the first of which has the number k
abbrev pub led_from : (Monomial → Bool) → ℕ → List Terms → List ℕ
led_from test k [] = []
led_from test k (g ∷ gs) = if is_led test g then k ∷ led_from test (suc k) gs else led_from test (suc k) gs

abbrev pub led_by : (Monomial → Bool) → List Terms → List ℕ
led_by test gs = led_from test 0 gs

abbrev pub first_of : List ℕ → Option ℕ
first_of [] = None
first_of (k ∷ ks) = Some k

-- what is listed for a variable
abbrev pub items_of : Option (Vec ℕ Global) → List ℕ
items_of None = []
items_of (Some v) = v.items

abbrev pub listed : BTreeMap ℕ (Vec ℕ Global) → ℕ → List ℕ
listed lists x = items_of (get nat_cmp lists x)

-- The index of polynomials. That their terms are in order is said here, so that it is known of all of them without reading them.
pub record IsIndexOf (p : ℕ) (cmp : Monomial → Monomial → Ordering) (gs : List Terms) (index : Index) : Type 0 where
  pub ordered : All (IsOrdered p cmp 1024) gs
  pub by_first : (x : ℕ) → listed index.by_first x ≡ led_by (begins_with x) gs
  pub by_any : (x : ℕ) → listed index.by_any x ≡ led_by (has_variable x) gs
  pub constant : index.constant ≡ first_of (led_by is_one gs)

-- without its last element
abbrev pub without_last : List ℕ → List ℕ
without_last ks = take (length ks - 1) ks

-- a number, or this one where there is none
abbrev pub first_or : Option ℕ → ℕ → Option ℕ
first_or None k = Some k
first_or (Some i) k = Some i

-- a number, if it is not this one
abbrev pub other_than : ℕ → Option ℕ → Option ℕ
other_than k None = None
other_than k (Some i) = if i == k then None else Some i
