-- Walks over the field nodes of a list, and the order of a check's field.
use Rattle.std.proofs.Common.{◌≡◌, ℕ, ◌+◌, ◌<◌, ◌&&◌, nat_lt, Bool, true, false, cond, List, [], ◌∷◌, length, filter, get_or, drop, All, subst, refl, Option, Some, None, IfNone, IsNone}
use Rattle.std.specs.List.{AllByRecursion, list_all}
use Rattle.std.proofs.lemmas.Bool.{false≢true}
use Rattle.std.proofs.lemmas.List.{drop_more}
use Rattle.std.proofs.lemmas.List.Elements.{recursion_from_All}
use Rattle.ffc_field.specs.Orders.{IsOrder}
use Rattle.ffc_field.specs.declared.id.FieldId.TheVariants.{F2}
use Rattle.ffc_term.specs.declared.node.Node.{Node}
use Rattle.ffc_term.specs.declared.node.Sort.{Sort}
use Rattle.ffc_term.specs.declared.node.Sort.TheVariants as sort
use Rattle.ffc_term.specs.Nodes.{sort_at, order_at, order_of_sort}
use Rattle.ffc_term.specs.Tables.{IsWellFormed}
use Rattle.ffc_term.proofs.ValueLemmas.{IsOrder-order_at}
use Rattle.ffc_bounds.specs.Conjunctions.{first_order_of}

-- Testing each element that is of a kind

module _ (kind test : ℕ → Bool) (xs : List ℕ) (i : ℕ) (inside : i < length xs) (whole : Bool) where
  kept_parts : list_all test (filter kind (drop i xs)) ≡ whole
      → list_all test (cond (kind (get_or xs i 0)) (get_or xs i 0 ∷ filter kind (drop (i + 1) xs)) (filter kind (drop (i + 1) xs))) ≡ whole
  kept_parts so_far = subst (λ ys. list_all test (filter kind ys) ≡ whole) (drop_more xs i 0 inside) so_far

  pub kind_fails : kind (get_or xs i 0) ≡ true → test (get_or xs i 0) ≡ false → list_all test (filter kind (drop i xs)) ≡ whole → false ≡ whole
  kind_fails is fails so_far =
      let x = get_or xs i 0 in
      let taken = subst (λ b. list_all test (cond b (x ∷ filter kind (drop (i + 1) xs)) (filter kind (drop (i + 1) xs))) ≡ whole) is (kept_parts so_far) in
      subst (λ b. (b && list_all test (filter kind (drop (i + 1) xs))) ≡ whole) fails taken

  pub kind_other : kind (get_or xs i 0) ≡ false → list_all test (filter kind (drop i xs)) ≡ whole → list_all test (filter kind (drop (i + 1) xs)) ≡ whole
  kind_other is so_far =
      let x = get_or xs i 0 in
      subst (λ b. list_all test (cond b (x ∷ filter kind (drop (i + 1) xs)) (filter kind (drop (i + 1) xs))) ≡ whole) is (kept_parts so_far)

  pub kind_holds : test (get_or xs i 0) ≡ true → list_all test (filter kind (drop i xs)) ≡ whole → list_all test (filter kind (drop (i + 1) xs)) ≡ whole
  kind_holds holds so_far = by_kind (kind (get_or xs i 0)) (kept_parts so_far)
    where
      by_kind : (b : Bool) → list_all test (cond b (get_or xs i 0 ∷ filter kind (drop (i + 1) xs)) (filter kind (drop (i + 1) xs))) ≡ whole → list_all test (filter kind (drop (i + 1) xs)) ≡ whole
      by_kind false here = here
      by_kind true here = subst (λ b. (b && list_all test (filter kind (drop (i + 1) xs))) ≡ whole) holds here

-- The order of the first field node

-- whether a node is of field sort
abbrev pub is_field : List Node → ℕ → Bool
is_field ns id = nat_lt 0 (order_at ns id)

module _ (ns : List Node) (xs : List ℕ) (i : ℕ) (inside : i < length xs) (whole : ℕ) where
  first_parts : first_order_of ns (filter (is_field ns) (drop i xs)) ≡ whole
      → first_order_of ns (cond (is_field ns (get_or xs i 0)) (get_or xs i 0 ∷ filter (is_field ns) (drop (i + 1) xs)) (filter (is_field ns) (drop (i + 1) xs))) ≡ whole
  first_parts so_far = subst (λ ys. first_order_of ns (filter (is_field ns) ys) ≡ whole) (drop_more xs i 0 inside) so_far

  pub first_here : is_field ns (get_or xs i 0) ≡ true → first_order_of ns (filter (is_field ns) (drop i xs)) ≡ whole → order_at ns (get_or xs i 0) ≡ whole
  first_here is so_far =
      let x = get_or xs i 0 in
      subst (λ b. first_order_of ns (cond b (x ∷ filter (is_field ns) (drop (i + 1) xs)) (filter (is_field ns) (drop (i + 1) xs))) ≡ whole) is (first_parts so_far)

  pub first_later : is_field ns (get_or xs i 0) ≡ false → first_order_of ns (filter (is_field ns) (drop i xs)) ≡ whole → first_order_of ns (filter (is_field ns) (drop (i + 1) xs)) ≡ whole
  first_later is so_far =
      let x = get_or xs i 0 in
      subst (λ b. first_order_of ns (cond b (x ∷ filter (is_field ns) (drop (i + 1) xs)) (filter (is_field ns) (drop (i + 1) xs))) ≡ whole) is (first_parts so_far)

field_sort : (s : Sort) → nat_lt 0 (order_of_sort s) ≡ true → s ≡ sort.Field (order_of_sort s)
field_sort sort.Bool is = absurd (false≢true is)
field_sort (sort.Field p) is = refl

-- the order of the first field node is one of the eight
pub first_known : (ns : List Node) (ids : List ℕ) → IsWellFormed ns → AllByRecursion (λ id. id < length ns) ids → IsOrder (first_order_of ns (filter (is_field ns) ids))
first_known ns [] formed within = (F2, refl)
first_known ns (id ∷ ids) formed within = by_kind (first_known ns ids formed within.1) (is_field ns id) refl
  where
    by_kind : IsOrder (first_order_of ns (filter (is_field ns) ids)) → (b : Bool) → is_field ns id ≡ b → IsOrder (first_order_of ns (cond b (id ∷ filter (is_field ns) ids) (filter (is_field ns) ids)))
    by_kind others true is = IsOrder-order_at ns id (order_at ns id) formed (within.0, field_sort (sort_at ns id) is)
    by_kind others false is = others

pub one_of_eight : (ns : List Node) (ids : List ℕ) → IsWellFormed ns → All (λ id. id < length ns) ids → IsOrder (first_order_of ns (filter (is_field ns) ids))
one_of_eight ns ids formed within = first_known ns ids formed (recursion_from_All (λ id. id < length ns) ids within)

-- where there is some value, anything holds if there is none
pub none_where_some : {T : Type 0} (P : Type 0) (o : Option T) → (IsNone o → ⊥) → IfNone o P
none_where_some P (Some x) some = tt
none_where_some P None some = absurd (some refl)
