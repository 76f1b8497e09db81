-- Nodes whose polynomials are made by themselves: what is noted of those under them.
use Rattle.std.proofs.Common.{◌≡◌, ℕ, suc, ◌<◌, ◌≤◌, max, Bool, true, false, cond, List, [], ◌∷◌, ◌++◌, length, get_or, All, Contains, Option, Some, None, is_some, IsSome, IfSome, ◌⊎◌, inl, inr, ⊎_elim, refl, sym, ap, ◌∙◌, subst, arith}
use Rattle.std.specs.Ordering.{nat_cmp, is_lt}
use Rattle.std.specs.BTreeMap.{BTreeMap, get, is_at, IsUpperBound, Updates}
use Rattle.std.specs.Map.{lookup}
use Rattle.std.specs.BTreeSet.{BTreeSet}
use Rattle.std.proofs.lemmas.Bool.{cases_eq}
use Rattle.std.proofs.lemmas.Bool.Decides.{nat_tests}
use Rattle.std.proofs.lemmas.Option.{same_Some}
use Rattle.std.proofs.lemmas.List.Elements.{All-append, Contains-append_left, Contains-append_right}
use Rattle.ffc_ring.specs.Polynomial.{Terms}
use Rattle.ffc_term.specs.declared.node.Node.{Node}
use Rattle.ffc_term.specs.Nodes.{IsNodeAt}
use Rattle.ffc_term.specs.Tables.{IsFieldAt, IsTable}
use Rattle.ffc_ckpoly.specs.declared.uses.Use.{Use}
use Rattle.ffc_ckpoly.specs.Parts.{IsWithin}
use Rattle.ffc_ckpoly.specs.Multiples.{is_product, operands}
use Rattle.ffc_ckpoly.specs.Opening.{CanOpen, CanMake}
use Rattle.ffc_ckpoly.specs.Opening.CanOpen.{There, Opened}
use Rattle.ffc_ckpoly.specs.Uses.{HasId, IsWaiting, IsLight, IsNoted, AreNoted, IsNowListed, CanBeMadeInOrder}
use Rattle.ffc_ckpoly.proofs.MultipleLemmas.{operands_all, operands_are}
use Rattle.ffc_ckpoly.proofs.PartLemmas.{all_one, at_some, parts_within}
use Rattle.ffc_ckpoly.proofs.OpeningLemmas.{nothing_waits}

pub apart : (x y : ℕ) → (x ≡ y → ⊥) → is_at (nat_cmp x) y ≡ false
apart x y ne = grind (arith, nat_tests, ne)

pub at_other : {X : Type 0} (old new : BTreeMap ℕ X) (id : ℕ) (w : Option X) → Updates nat_cmp old new id w → (q : ℕ) → (id ≡ q → ⊥) → get nat_cmp new q ≡ get nat_cmp old q
at_other old new id w u q ne = u.2 q (apart id q ne)

-- ---- what is noted

pub noted_known : (ns : List Node) (known : BTreeMap ℕ Terms) (w : BTreeMap ℕ Use) (factor : Bool) (id : ℕ) → IsSome (get nat_cmp known id) → AreNoted ns known w w factor (id ∷ [])
noted_known ns known w factor id is = record {
  each = all_one (IsNoted ns known w factor) id (inl is);
  kept = λ q b h. h;
  only = λ q h. inl h;
}

pub noted_light : (ns : List Node) (known : BTreeMap ℕ Terms) (w : BTreeMap ℕ Use) (factor : Bool) (id : ℕ) → IsLight ns factor id → AreNoted ns known w w factor (id ∷ [])
noted_light ns known w factor id light = record {
  each = all_one (IsNoted ns known w factor) id (inr (inr light));
  kept = λ q b h. h;
  only = λ q h. inl h;
}

pub one_noted : (ns : List Node) (known : BTreeMap ℕ Terms) (old new : BTreeMap ℕ Use) (factor : Bool) (id : ℕ) (uses : Use) → Updates nat_cmp old new id (Some uses) → (factor ≡ true → uses.factor ≡ true)
    → IfSome (get nat_cmp old id) (λ u. u.factor ≡ true → uses.factor ≡ true) → AreNoted ns known old new factor (id ∷ [])
one_noted ns known old new factor id uses u noted before = record {
  each = all_one (IsNoted ns known new factor) id (inr (inl (record { uses = uses; at = u.1; noted = noted })));
  kept = λ q b w. ⊎_elim
      (λ e. record { uses = uses; at = subst (λ k. get nat_cmp new k ≡ Some uses) e u.1; noted = λ t. at_some (λ (v : Use). v.factor ≡ true → uses.factor ≡ true) (get nat_cmp old id) w.uses (ap (get nat_cmp old) e ∙ w.at) before (w.noted t) })
      (λ ne. record { uses = w.uses; at = at_other old new id (Some uses) u q ne ∙ w.at; noted = w.noted })
      (cases_eq id q);
  only = λ q is. ⊎_elim (λ e. inr (0, omega arith, e)) (λ ne. inl (subst (λ o. IsSome o) (at_other old new id (Some uses) u q ne) is)) (cases_eq id q);
}

pub more_noted : (ns : List Node) (known : BTreeMap ℕ Terms) (a b c : BTreeMap ℕ Use) (factor : Bool) (xs ys : List ℕ) → AreNoted ns known a b factor xs → AreNoted ns known b c factor ys → AreNoted ns known a c factor (xs ++ ys)
more_noted ns known a b c factor xs ys first second = record {
  each = All-append (IsNoted ns known c factor) xs ys
      (λ k d h. ⊎_elim (λ i. inl i) (λ o. inr (⊎_elim (λ w. inl (second.kept (get_or xs k d) factor w)) (λ l. inr l) o)) (first.each k d h)) second.each;
  kept = λ q f w. second.kept q f (first.kept q f w);
  only = λ q is. ⊎_elim
      (λ i. ⊎_elim (λ j. inl j) (λ h. inr (Contains-append_left xs ys q h)) (first.only q i))
      (λ h. inr (Contains-append_right xs ys q h)) (second.only q is);
}

-- ---- what can be opened

pub open_through : (ns : List Node) (F G : ℕ → Type 0) → ((q : ℕ) → F q → CanOpen ns G q) → (id : ℕ) → CanOpen ns F id → CanOpen ns G id
open_through ns F G f _ (There id h) = f id h
open_through ns F G f _ (Opened id n at plain parts) = Opened id n at plain (λ k d inside. open_through ns F G f (get_or (operands ns n) k d) (parts k d inside))

pub make_through : (ns : List Node) (F G H K : ℕ → Type 0) → ((q : ℕ) → F q → H q) → ((q : ℕ) → G q → CanOpen ns K q) → (id : ℕ) → CanMake ns F G id → CanMake ns H K id
make_through ns F G H K f g id m = record {
  factors = λ n at is k d inside. f (get_or (operands ns n) k d) (m.factors n at is k d inside);
  parts = λ n at plain k d inside. open_through ns G K g (get_or (operands ns n) k d) (m.parts n at plain k d inside);
}

-- what is there of smaller numbers is enough
pub open_before : (ns : List Node) (p bound : ℕ) (F G : ℕ → Type 0) → IsTable ns → ((q : ℕ) → q < bound → F q → G q) → (id : ℕ) → IsFieldAt ns p id → id < bound → CanOpen ns F id → CanOpen ns G id
open_before ns p bound F G table f _ is below (There id h) = There id (f id below h)
open_before ns p bound F G table f _ is below (Opened id n at plain parts) = Opened id n at plain (λ k d inside.
    let part = operands_are ns p id table is n at k d inside in
    open_before ns p bound F G table f (get_or (operands ns n) k d) part.0 (omega (arith, part.1, below)) (parts k d inside))

pub make_before : (ns : List Node) (p id : ℕ) (F G : ℕ → Type 0) → IsTable ns → IsFieldAt ns p id → ((q : ℕ) → q < id → F q → G q) → CanMake ns F F id → CanMake ns G G id
make_before ns p id F G table is f m = record {
  factors = λ n at product k d inside. f (get_or (operands ns n) k d) (operands_are ns p id table is n at k d inside).1 (m.factors n at product k d inside);
  parts = λ n at plain k d inside.
      let part = operands_are ns p id table is n at k d inside in
      open_before ns p id F G table f (get_or (operands ns n) k d) part.0 part.1 (m.parts n at plain k d inside);
}

-- ---- the greatest number that waits

abbrev pub top : {X : Type 0} → List (ℕ × X) → ℕ
top [] = 0
top (e ∷ es) = max (suc e.0) (top es)

top-push : {X : Type 0} (es : List (ℕ × X)) (e : ℕ × X) → e.0 < top (es ++ e ∷ [])
top-push [] e = omega arith
top-push (x ∷ es) e = omega (arith, top-push es e)

here : {X : Type 0} (k : ℕ) (x : X) (es : List (ℕ × X)) → IsSome (lookup (is_at (nat_cmp k)) ((k, x) ∷ es))
here k x es = grind (arith, nat_tests)

further : {X : Type 0} (e : ℕ × X) (es : List (ℕ × X)) (q : ℕ) → IsSome (lookup (is_at (nat_cmp q)) (es)) → IsSome (lookup (is_at (nat_cmp q)) (e ∷ es))
further e es q is = by_case (is_at (nat_cmp q) e.0)
  where
    by_case : (b : Bool) → IsSome (cond b (Some e.1) (lookup (is_at (nat_cmp q)) (es)))
    by_case true = refl
    by_case false = is

top_below : {X : Type 0} (es : List (ℕ × X)) (n : ℕ) → ((q : ℕ) → IsSome (lookup (is_at (nat_cmp q)) (es)) → q < n) → top es ≤ n
top_below [] n h = omega arith
top_below (e ∷ es) n h = omega (arith, h e.0 (here e.0 e.1 es), top_below es n (λ q is. h q (further e es q is)))

-- ---- the nodes that were looked at

-- a node is known, or listed, or waits, or is light
abbrev pub IsFound : List Node → BTreeMap ℕ Terms → BTreeSet ℕ → BTreeMap ℕ Use → Bool → ℕ → Type 0
IsFound ns known ids waiting factor q = IsSome (get nat_cmp known q) ⊎ (HasId ids q ⊎ (IsWaiting waiting factor q ⊎ IsLight ns factor q))

no_light_factor : (ns : List Node) (q : ℕ) → IsLight ns true q → ⊥
no_light_factor ns q l = let never : true ≡ false = l.no_factor in cc

-- The nodes under `root` that were looked at: those that are listed can be made once those that wait were looked at too.
pub record IsUnderway (ns : List Node) (p : ℕ) (known : BTreeMap ℕ Terms) (root : ℕ) (ids : BTreeSet ℕ) (waiting : BTreeMap ℕ Use) : Type 0 where
  pub listed : (q : ℕ) → HasId ids q → IsWithin ns p q
  pub waits : (q : ℕ) → IsSome (get nat_cmp waiting q) → IsWithin ns p q
  pub made : (q : ℕ) → HasId ids q → CanMake ns (IsFound ns known ids waiting true) (IsFound ns known ids waiting false) q
  pub itself : HasId ids root ⊎ IsWaiting waiting true root

none_there : {X : Type 0} (m : BTreeMap ℕ X) (q : ℕ) → get nat_cmp m q ≡ None → IsSome (get nat_cmp m q) → ⊥
none_there m q e is = let h = sym (ap is_some e) ∙ is in cc

module _ (ns : List Node) (p : ℕ) (known : BTreeMap ℕ Terms) (root : ℕ) (ids listed_ids : BTreeSet ℕ) (w v w' : BTreeMap ℕ Use) (next : ℕ) (uses : Use) (n : Node)
    (table : IsTable ns) (at : IsNodeAt ns next n) (was : get nat_cmp w next ≡ Some uses) (popped : Updates nat_cmp w v next None)
    (listed : IsNowListed ns ids listed_ids next uses) (noted : AreNoted ns known v w' (is_product ns n) (operands ns n)) (before : IsUnderway ns p known root ids w) where
  abbrev Now : Bool → ℕ → Type 0
  Now b = IsFound ns known listed_ids w' b

  next_within : IsWithin ns p next
  next_within = before.waits next (ap is_some was)

  -- what was noted of the node
  as_noted : (b : Bool) → IsWaiting w b next → b ≡ true → uses.factor ≡ true
  as_noted b h t = let same : h.uses ≡ uses = same_Some h.uses uses (sym h.at ∙ was) in sym (ap (λ (u : Use). u.factor) same) ∙ h.noted t

  still_waits : (q : ℕ) (b : Bool) → (next ≡ q → ⊥) → IsWaiting w b q → IsWaiting w' b q
  still_waits q b ne h = noted.kept q b (record { uses = h.uses; at = at_other w v next None popped q ne ∙ h.at; noted = h.noted })

  factor_stays : (q : ℕ) → IsWaiting w true q → HasId listed_ids q ⊎ IsWaiting w' true q
  factor_stays q h = ⊎_elim
      (λ e. ⊎_elim (λ l. inl (subst (HasId listed_ids) e l))
      (λ no. let factor = as_noted true (subst (IsWaiting w true) (sym e) h) refl in let never = sym factor ∙ no.0 in cc)
      (listed.listed n at))
      (λ ne. inr (still_waits q true ne h)) (cases_eq next q)

  factors_stay : (q : ℕ) → IsFound ns known ids w true q → Now true q
  factors_stay q (inl i) = inl i
  factors_stay q (inr (inl h)) = inr (inl (listed.kept q h))
  factors_stay q (inr (inr (inl h))) = inr (⊎_elim (λ l. inl l) (λ v. inr (inl v)) (factor_stays q h))
  factors_stay q (inr (inr (inr l))) = absurd (no_light_factor ns q l)

  parts_found : All (Now (is_product ns n)) (operands ns n)
  parts_found k d inside = ⊎_elim (λ i. inl i) (λ h. inr (inr h)) (noted.each k d inside)

  next_opens : CanOpen ns (Now false) next
  next_opens = ⊎_elim (λ l. There next (inr (inl l)))
      (λ no. Opened next n at no.1 (λ k d inside. There (get_or (operands ns n) k d) (subst (λ b. Now b (get_or (operands ns n) k d)) no.1 (parts_found k d inside))))
      (listed.listed n at)

  stays_open : (q : ℕ) → IsFound ns known ids w false q → CanOpen ns (Now false) q
  stays_open q (inl i) = There q (inl i)
  stays_open q (inr (inl h)) = There q (inr (inl (listed.kept q h)))
  stays_open q (inr (inr (inl h))) =
      ⊎_elim (λ e. subst (CanOpen ns (Now false)) e next_opens) (λ ne. There q (inr (inr (inl (still_waits q false ne h))))) (cases_eq next q)
  stays_open q (inr (inr (inr l))) = There q (inr (inr (inr l)))

  next_parts : (m : Node) → IsNodeAt ns next m → All (Now (is_product ns m)) (operands ns m)
  next_parts m there = subst (λ k. All (Now (is_product ns k)) (operands ns k)) (same_Some n m (sym at ∙ there)) parts_found

  next_made : CanMake ns (Now true) (Now false) next
  next_made = record {
    factors = λ m there product k d inside. subst (λ b. Now b (get_or (operands ns m) k d)) product (next_parts m there k d inside);
    parts = λ m there plain k d inside. There (get_or (operands ns m) k d) (subst (λ b. Now b (get_or (operands ns m) k d)) plain (next_parts m there k d inside));
  }

  -- what waits now waited before, or is an operand of the node
  origin : (q : ℕ) → IsSome (get nat_cmp w' q) → ((next ≡ q → ⊥) × IsSome (get nat_cmp w q)) ⊎ Contains (operands ns n) q
  origin q is = ⊎_elim
      (λ h. ⊎_elim (λ e. absurd (none_there v q (subst (λ k. get nat_cmp v k ≡ None) e popped.1) h)) (λ ne. inl (ne, subst (λ o. IsSome o) (at_other w v next None popped q ne) h)) (cases_eq next q))
      (λ h. inr h) (noted.only q is)

  pub looked_at : IsUnderway ns p known root listed_ids w'
  looked_at = record {
    listed = λ q h. ⊎_elim (λ old. before.listed q old) (λ e. subst (IsWithin ns p) (sym e) next_within) (listed.only q h);
    waits = λ q is. ⊎_elim (λ o. before.waits q o.1)
        (λ h. subst (IsWithin ns p) h.2 (operands_all (IsWithin ns p) ns n (parts_within ns p next n table at next_within) h.0 q h.1)) (origin q is);
    made = λ q h. ⊎_elim
        (λ old. make_through ns (IsFound ns known ids w true) (IsFound ns known ids w false) (Now true) (Now false) factors_stay stays_open q (before.made q old))
        (λ e. subst (CanMake ns (Now true) (Now false)) (sym e) next_made) (listed.only q h);
    itself = ⊎_elim (λ h. inl (listed.kept root h)) (λ h. factor_stays root h) before.itself;
  }

  pub smaller : IsUpperBound nat_cmp w next → w.entries ≡ v.entries ++ (next, uses) ∷ [] → top w'.entries < top w.entries
  smaller greatest removed =
      let low : top w'.entries ≤ next = top_below w'.entries next (λ q is. ⊎_elim
      (λ o. below next q o.0 (greatest q o.1))
      (λ h. subst (λ k. k < next) h.2 (operands_are ns p next table next_within.field n at h.0 q h.1).1) (origin q is)) in
      let high : next < top w.entries = subst (λ es. next < top es) (sym removed) (top-push v.entries (next, uses)) in
      omega (arith, low, high)
    where
      below : (x y : ℕ) → (x ≡ y → ⊥) → is_lt (nat_cmp x y) ≡ false → y < x
      below x y ne h = grind (arith, nat_tests, ne, h)

-- nothing waits any more
pub all_listed : (ns : List Node) (p : ℕ) (known : BTreeMap ℕ Terms) (root : ℕ) (ids : BTreeSet ℕ) (w : BTreeMap ℕ Use) → IsUnderway ns p known root ids w → ((q : ℕ) → get nat_cmp w q ≡ None) → CanBeMadeInOrder ns p known ids
all_listed ns p known root ids w before none = record {
  within = before.listed;
  made = λ q h. make_through ns (IsFound ns known ids w true) (IsFound ns known ids w false) Then Then found opens q (before.made q h);
}
  where
    Then : ℕ → Type 0
    Then q = IsSome (get nat_cmp known q) ⊎ HasId ids q

    found : (q : ℕ) → IsFound ns known ids w true q → Then q
    found q (inl i) = inl i
    found q (inr (inl h)) = inr h
    found q (inr (inr (inl h))) = absurd (none_there w q (none q) (ap is_some h.at))
    found q (inr (inr (inr l))) = absurd (no_light_factor ns q l)

    opens : (q : ℕ) → IsFound ns known ids w false q → CanOpen ns Then q
    opens q (inl i) = There q (inl i)
    opens q (inr (inl h)) = There q (inr h)
    opens q (inr (inr (inl h))) = absurd (none_there w q (none q) (ap is_some h.at))
    opens q (inr (inr (inr l))) = open_through ns (λ k. ⊥) Then (λ k f. absurd f) q l.opens

pub none_in_empty : {X : Type 0} (m : BTreeMap ℕ X) (q : ℕ) → length m.entries ≡ 0 → get nat_cmp m q ≡ None
none_in_empty m q e = ap (lookup (is_at (nat_cmp q))) (nothing_waits m.entries e)
