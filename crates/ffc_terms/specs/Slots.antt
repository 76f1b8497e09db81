-- Names in scope by their places: how many came before them.
use Rattle.std.specs.Prelude.{◌≡◌, ℕ, ◌==◌, List, [], ◌∷◌, length, reverse, map, Option, Some, None, if◌then◌else◌}
use Rattle.std.specs.Str.{bytes_eq}
use Rattle.std.specs.BTreeMap.{BTreeMap, get_by}
use Rattle.std.specs.Cmp.Lexicographic.{slice_cmp}
use Rattle.std.specs.Ordering.{nat_cmp}
use Rattle.std.specs.declared.alloc.Global.{Global}
use Rattle.std.specs.Prelude.{Vec}
use Rattle.ffc_smt.specs.Meaning.{Env}
use Rattle.ffc_smt.specs.Terms.{Name}
use Rattle.ffc_terms.specs.declared.environment.Entry.{Entry}

-- the place of a name: of the last one, where it occurs more than once
abbrev pub slot_of : {A : Type 0} → Env A → Name → Option ℕ
slot_of [] name = None
slot_of (x ∷ xs) name = if bytes_eq x.0 name then Some (length xs) else slot_of xs name

-- what is at a place
abbrev pub at_slot : {A : Type 0} → List A → ℕ → Option A
at_slot [] slot = None
at_slot (x ∷ xs) slot = if slot == length xs then Some x else at_slot xs slot

-- another value for the last name
abbrev pub with_last : {V : Type 0} → V → Env V → Env V
with_last v [] = []
with_last v (x ∷ xs) = (x.0, v) ∷ xs

-- a name with its value
abbrev pub pair_of : {V : Type 0} → Entry V → Name × V
pair_of e = (e.name.items, e.value)

-- the names with their values, the last ones first
abbrev pub env_of : {V : Type 0} → List (Entry V) → Env V
env_of entries = map pair_of (reverse entries)

-- each entry, from the last one on, has the place of the name that it hides
abbrev pub AreHidden : {V : Type 0} → List (Entry V) → Type 0
AreHidden [] = Unit {0}
AreHidden (e ∷ es) = (e.hidden ≡ slot_of (map pair_of es) e.name.items) × AreHidden es

-- what an index has for a name
abbrev pub indexed : BTreeMap (Vec ℕ Global) ℕ → Name → Option ℕ
indexed index name = get_by (λ k. slice_cmp nat_cmp name k.items) index

-- the index has the place of each name
pub record IsIndex {V : Type 0} (entries : List (Entry V)) (index : BTreeMap (Vec ℕ Global) ℕ) : Type 0 where
  pub each : (name : Name) → indexed index name ≡ slot_of (env_of entries) name
  pub hidden : AreHidden (reverse entries)
