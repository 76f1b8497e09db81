-- Which nodes under a node have polynomials made by themselves, and what is noted of those that were not looked at yet.
use Rattle.std.specs.Prelude.{◌≡◌, ℕ, Bool, true, false, List, ◌⊎◌, IsTrue, All, Contains, Some, IsSome}
use Rattle.std.specs.Ordering.{nat_cmp}
use Rattle.std.specs.BTreeMap.{BTreeMap, get}
use Rattle.std.specs.BTreeSet as set
use Rattle.std.specs.BTreeSet.{BTreeSet}
use Rattle.ffc_ring.specs.Polynomial.{Terms}
use Rattle.ffc_term.specs.declared.node.Node.{Node}
use Rattle.ffc_term.specs.Nodes.{IsNodeAt}
use Rattle.ffc_ckpoly.specs.declared.uses.Use.{Use}
use Rattle.ffc_ckpoly.specs.Parts.{IsWithin}
use Rattle.ffc_ckpoly.specs.Multiples.{is_product}
use Rattle.ffc_ckpoly.specs.Opening.{OpensAlone, CanMake}

-- the set has the number
abbrev pub HasId : BTreeSet ℕ → ℕ → Type 0
HasId ids id = IsTrue (set.contains nat_cmp ids id)

-- a node waits, and where `factor` is true it is noted as a factor
pub record IsWaiting (waiting : BTreeMap ℕ Use) (factor : Bool) (id : ℕ) : Type 0 where
  pub uses : Use
  pub at : get nat_cmp waiting id ≡ Some uses
  pub noted : factor ≡ true → uses.factor ≡ true

-- a node that is no factor, and opens without any polynomial that is there
pub record IsLight (nodes : List Node) (factor : Bool) (id : ℕ) : Type 0 where
  pub no_factor : factor ≡ false
  pub opens : OpensAlone nodes id

abbrev pub IsNoted : List Node → BTreeMap ℕ Terms → BTreeMap ℕ Use → Bool → ℕ → Type 0
IsNoted nodes known waiting factor id = IsSome (get nat_cmp known id) ⊎ (IsWaiting waiting factor id ⊎ IsLight nodes factor id)

-- each of these nodes is known, waits now or is light, and no other node was added to those that wait
pub record AreNoted (nodes : List Node) (known : BTreeMap ℕ Terms) (old new : BTreeMap ℕ Use) (factor : Bool) (ids : List ℕ) : Type 0 where
  pub each : All (IsNoted nodes known new factor) ids
  pub kept : (id : ℕ) (b : Bool) → IsWaiting old b id → IsWaiting new b id
  pub only : (id : ℕ) → IsSome (get nat_cmp new id) → IsSome (get nat_cmp old id) ⊎ Contains ids id

-- the node is listed now, where it is a product or a factor, and no other was added
pub record IsNowListed (nodes : List Node) (old new : BTreeSet ℕ) (id : ℕ) (uses : Use) : Type 0 where
  pub kept : (q : ℕ) → HasId old q → HasId new q
  pub only : (q : ℕ) → HasId new q → HasId old q ⊎ (q ≡ id)
  pub listed : (n : Node) → IsNodeAt nodes id n → HasId new id ⊎ ((uses.factor ≡ false) × (is_product nodes n ≡ false))

-- The listed nodes can be made in increasing order: from what is known, and what is made of the listed ones.
pub record CanBeMadeInOrder (nodes : List Node) (p : ℕ) (known : BTreeMap ℕ Terms) (ids : BTreeSet ℕ) : Type 0 where
  pub within : (id : ℕ) → HasId ids id → IsWithin nodes p id
  pub made : (id : ℕ) → HasId ids id → CanMake nodes (λ q. IsSome (get nat_cmp known q) ⊎ HasId ids q) (λ q. IsSome (get nat_cmp known q) ⊎ HasId ids q) id
