-- Values for unknowns, placed one after another.
use Rattle.std.proofs.Common.{◌≡◌, ◌≢◌, ◌⊎◌, inl, inr, ℕ, zero, suc, ◌+◌, ◌-◌, ◌*◌, ◌%◌, ◌<◌, ◌≤◌, Bool, true, false, not, cond, Vec, Global, List, [], ◌∷◌, ◌++◌, All, Option, Some, None, length, map, take, drop, get_or, set, replicate, slice_get, count_by, is_none, is_some, refl, sym, ap, ap₂, ◌∙◌, subst, arith, mod-eq_of_lt, zero-add, add_comm}
use Rattle.std.proofs.lemmas.Bool.{cases_eq}
use Rattle.std.proofs.lemmas.List.{get_or-set_same, get_or-map, length-map, map-set, map_more, take_more, take_all, length-take-le, get_or_default}
use Rattle.std.proofs.lemmas.List.Sums.{sum_by-cons, sum_by-set, sum_by-take-le, sum_by-take-drop, count_by_more_yes, count_by_more_no, sum_by-drop_more}
use Rattle.std.proofs.lemmas.Option.{slice_get-get_or, get_or_from_slice_get, slice_get_within}
use Rattle.std.proofs.Math.Nat.{mul-le-mul_right}
use Rattle.ffc_echelon.specs.Vectors.{Coordinates, AreCoordinates, IsBelow, coordinate, dot}
use Rattle.ffc_echelon.specs.Forms.{Form, Kept, AreLeading, LeadsBelow, IsReduced, IsAvoided, IsSolution, leading_column}
use Rattle.ffc_echelon.specs.Placing.{form_of, IsRootIn, EndsBefore, IsFree, HasNumber, AreGroups, group_at, vector_at, AreApart, DiffersAt, is_marked}
use Rattle.ffc_echelon.specs.Progress.{AreLeads}
use Rattle.ffc_echelon.proofs.PointLemmas.{coordinate_before, coordinate_here, coordinate_there, dot_elsewhere, products, product}

-- ---- marks

pub apart_pushed : {F : Type 0} (p : ℕ) (point : List ℕ) (vs : List Coordinates) (ms : List (ℕ × F)) (m : ℕ × F) → AreApart p point vs ms → dot p point (vector_at vs m.0) ≢ 0 → AreApart p point vs (ms ++ m ∷ [])
apart_pushed p point vs [] m apart other = (other, tt)
apart_pushed p point vs (k ∷ ms) m apart other = (apart.0, apart_pushed p point vs ms m apart.1 other)

pub apart_more : {F : Type 0} (p : ℕ) (point : List ℕ) (vs : List Coordinates) (ms : List (ℕ × F)) (i : ℕ) (m : ℕ × F) → i < length ms → m ≡ get_or ms i m → AreApart p point vs (take i ms) → dot p point (vector_at vs m.0) ≢ 0
    → AreApart p point vs (take (i + 1) ms)
apart_more p point vs ms i m within at apart other =
    let longer : take (i + 1) ms ≡ take i ms ++ m ∷ [] = take_more ms i m within ∙ ap (λ k. take i ms ++ k ∷ []) (sym at) in
    subst (AreApart p point vs) (sym longer) (apart_pushed p point vs (take i ms) m apart other)

pub apart_at : {F : Type 0} (p j : ℕ) (point : List ℕ) (vs : List Coordinates) (ms : List (ℕ × F)) → AreApart p point vs ms → HasNumber j ms → dot p point (vector_at vs j) ≢ 0
apart_at p j point vs [] apart has = absurd has
apart_at p j point vs (m ∷ ms) apart (inl here) = subst (λ k. dot p point (vector_at vs k) ≢ 0) here apart.0
apart_at p j point vs (m ∷ ms) apart (inr there) = apart_at p j point vs ms apart.1 there

unmarked_set : (marks : List Bool) (i y : ℕ) → slice_get (set marks i true) y ≡ Some false → slice_get marks y ≡ Some false
unmarked_set [] i y at = at
unmarked_set (b ∷ marks) zero zero at = cc
unmarked_set (b ∷ marks) zero (suc y) at = at
unmarked_set (b ∷ marks) (suc i) zero at = at
unmarked_set (b ∷ marks) (suc i) (suc y) at = unmarked_set marks i y at

marked_set : (marks : List Bool) (i : ℕ) → slice_get (set marks i true) i ≡ Some false → ⊥
marked_set [] i at = cc
marked_set (b ∷ marks) zero at = cc
marked_set (b ∷ marks) (suc i) at = marked_set marks i at

-- a mark more leaves apart what was, and the vector with the root
pub mark_apart : {F : Type 0} (p k r i : ℕ) (point : List ℕ) (vs : List Coordinates) (ms : List (ℕ × F)) (m : ℕ × F) (marks : List Bool) → i < length ms → m ≡ get_or ms i m → length marks ≤ p
    → IsRootIn p point (vector_at vs m.0) k r → ((y : ℕ) → slice_get marks y ≡ Some false → AreApart p (set point k y) vs (take i ms))
    → (y : ℕ) → slice_get (set marks r true) y ≡ Some false → AreApart p (set point k y) vs (take (i + 1) ms)
mark_apart p k r i point vs ms m marks within at few root apart y unmarked =
    let before = unmarked_set marks r y unmarked in
    let inside : y < length marks = slice_get_within marks y false before in
    apart_more p (set point k y) vs ms i m within at (apart y before)
    (λ vanishes. (let same = root.only y (omega arith) vanishes in marked_set marks r (subst (λ n. slice_get (set marks r true) n ≡ Some false) same unmarked)))

-- the same where the root is past the marks
pub unmarked_apart : {F : Type 0} (p k r i : ℕ) (point : List ℕ) (vs : List Coordinates) (ms : List (ℕ × F)) (m : ℕ × F) (marks : List Bool) → i < length ms → m ≡ get_or ms i m → length marks ≤ p → length marks ≤ r
    → IsRootIn p point (vector_at vs m.0) k r → ((y : ℕ) → slice_get marks y ≡ Some false → AreApart p (set point k y) vs (take i ms))
    → (y : ℕ) → slice_get marks y ≡ Some false → AreApart p (set point k y) vs (take (i + 1) ms)
unmarked_apart p k r i point vs ms m marks within at few past root apart y unmarked =
    let inside : y < length marks = slice_get_within marks y false unmarked in
    apart_more p (set point k y) vs ms i m within at (apart y unmarked)
    (λ vanishes. (let same = root.only y (omega arith) vanishes in let e : y ≡ r = same in absurd (omega arith)))

mark_value : (b : Bool) → cond (is_marked b) 1 0 ≤ 1
mark_value true = omega arith
mark_value false = omega arith

-- a mark more raises their number by at most one
pub count_set : (marks : List Bool) (r : ℕ) → r < length marks → count_by is_marked (set marks r true) ≤ count_by is_marked marks + 1
count_set marks r inside = omega (arith, sum_by-set (λ b. cond (is_marked b) 1 0) marks r true false inside)

pub no_marks_count : (n : ℕ) → count_by is_marked (replicate n false) ≡ 0
no_marks_count zero = refl
no_marks_count (suc n) = sum_by-cons (λ b. cond (is_marked b) 1 0) false (replicate n false) ∙ (let rest = no_marks_count n in omega arith)

-- a point with one value placed
pub placed_differs : {F : Type 0} (value : F → ℕ) (k : ℕ) (x : F) (old : List F) → k < length old → DiffersAt (map value old) (map value (set old k x)) k
placed_differs value k x old inside =
    let within : k < length (map value old) = omega (arith, length-map old value) in
    let here : get_or (map value (set old k x)) k 0 ≡ value x = ap (λ (l : List ℕ). get_or l k 0) (map-set value old k x) ∙ get_or-set_same (map value old) k (value x) 0 within in
    map-set value old k x ∙ ap (set (map value old) k) (sym here)

pub placed_is : {F : Type 0} (value : F → ℕ) (k r : ℕ) (x : F) (old : List F) → value x ≡ r → set (map value old) k r ≡ map value (set old k x)
placed_is value k r x old is = ap (set (map value old) k) (sym is) ∙ sym (map-set value old k x)

-- ---- free unknowns

-- a vector of the constant alone is not 0 where the constant's value is 1
pub constant_apart : (p n : ℕ) (point : List ℕ) (v : Coordinates) → AreCoordinates p v → IsBelow (n + 1) v → v ≢ [] → EndsBefore n 0 v → get_or point n 0 ≡ 1 → dot p point v ≢ 0
constant_apart p n point [] valid within some ends one vanishes = some refl
constant_apart p n point (e ∷ []) valid within some ends one vanishes = at_column (cases_eq e.0 n)
  where
    at_column : (e.0 ≡ n) ⊎ (e.0 ≡ n → ⊥) → ⊥
    at_column (inl same) =
        let value : get_or point e.0 0 ≡ 1 = ap (λ c. get_or point c 0) same ∙ one in
        let own : products point (e ∷ []) ≡ e.1 = sum_by-cons (product point) e [] ∙ (let times : e.1 * get_or point e.0 0 ≡ e.1 * 1 = ap (λ c. e.1 * c) value in omega arith) in
        let is_zero : e.1 ≡ 0 = sym (mod-eq_of_lt valid.2) ∙ ap (λ c. c % p) (sym own) ∙ vanishes in
        let positive : 0 < e.1 = valid.1 in
        omega arith
    at_column (inr other) =
        let low : e.0 < n + 1 = within 0 e (omega arith) in
        let here : coordinate (e ∷ []) e.0 ≡ 0 = ends e.0 (omega arith) (omega arith) in
        let positive : 0 < e.1 = valid.1 in
        let own = coordinate_here e [] e.0 refl in
        omega arith
constant_apart p n point (e ∷ f ∷ v) valid within some ends one vanishes =
    let next : suc e.0 ≤ f.0 = valid.3.0 in
    let low : f.0 < n + 1 = within 1 f (omega arith) in
    let here : coordinate (e ∷ f ∷ v) e.0 ≡ 0 = ends e.0 (omega arith) (omega arith) in
    let positive : 0 < e.1 = valid.1 in
    let own = coordinate_here e (f ∷ v) e.0 refl in
    absurd (omega arith)

-- the values of all vectors that end before a column are settled
pub record AreSettled (p n : ℕ) (point : List ℕ) (vs : List Coordinates) (k : ℕ) : Type 0 where
  pub each : (j : ℕ) → j < length vs → EndsBefore n k (vector_at vs j) → dot p point (vector_at vs j) ≢ 0

module _ {F : Type 0} (p : ℕ) (value : F → ℕ) (leads : List (Option ℕ)) (vs : List Coordinates) (groups : List (List (ℕ × F))) (free : All (IsFree p leads) vs)
    (are : AreGroups p value (length leads) vs (length vs) groups) where
  free_at : (j : ℕ) → j < length vs → IsFree p leads (vector_at vs j)
  free_at j inside = free j [] inside

  -- a column in which a row leads
  pub settled_leading : (k i : ℕ) (point : List ℕ) → slice_get leads k ≡ Some (Some i) → AreSettled p (length leads) point vs k → AreSettled p (length leads) point vs (k + 1)
  settled_leading k i point found settled = record { each = λ j inside ends. settled.each j inside (λ c above below. by_column j inside ends c above below (cases_eq c k)) }
    where
      by_column : (j : ℕ) → j < length vs → EndsBefore (length leads) (k + 1) (vector_at vs j) → (c : ℕ) → k ≤ c → c < length leads → (c ≡ k) ⊎ (c ≡ k → ⊥) → coordinate (vector_at vs j) c ≡ 0
      by_column j inside ends c above below (inl same) = ap (coordinate (vector_at vs j)) same ∙ (free_at j inside).reduced k i found
      by_column j inside ends c above below (inr other) = ends c (omega arith) below

  -- a column whose value is placed
  pub settled_free : (k y : ℕ) (point new : List ℕ) → k < length leads → length point ≡ length leads + 1 → new ≡ set point k y → AreApart p new vs (group_at groups k)
      → AreSettled p (length leads) point vs k → AreSettled p (length leads) new vs (k + 1)
  settled_free k y point new inside long placed apart settled = record { each = λ j there ends. by_coordinate j there ends (cases_eq (coordinate (vector_at vs j) k) 0) }
    where
      by_column : (j : ℕ) → EndsBefore (length leads) (k + 1) (vector_at vs j) → coordinate (vector_at vs j) k ≡ 0 → (c : ℕ) → k ≤ c → c < length leads → (c ≡ k) ⊎ (c ≡ k → ⊥) → coordinate (vector_at vs j) c ≡ 0
      by_column j ends none c above below (inl same) = ap (coordinate (vector_at vs j)) same ∙ none
      by_column j ends none c above below (inr other) = ends c (omega arith) below

      by_coordinate : (j : ℕ) → j < length vs → EndsBefore (length leads) (k + 1) (vector_at vs j) → (coordinate (vector_at vs j) k ≡ 0) ⊎ (coordinate (vector_at vs j) k ≡ 0 → ⊥) → dot p new (vector_at vs j) ≢ 0
      by_coordinate j there ends (inl none) =
          let before : dot p point (vector_at vs j) ≢ 0 = settled.each j there (λ c above below. by_column j ends none c above below (cases_eq c k)) in
          λ vanishes. before (sym (dot_elsewhere p k y point (vector_at vs j) (free_at j there).valid (omega arith) none) ∙ ap (λ (q : List ℕ). dot p q (vector_at vs j)) (sym placed) ∙ vanishes)
      by_coordinate j there ends (inr some) =
          apart_at p j new vs (group_at groups k) apart
          (are.covered j k there inside some (λ c above below. ends c (omega arith) below))

  pub settled_first : (point : List ℕ) → get_or point (length leads) 0 ≡ 1 → AreSettled p (length leads) point vs 0
  settled_first point one = record { each = λ j inside ends. (let f = free_at j inside in constant_apart p (length leads) point (vector_at vs j) f.valid f.within f.nonzero ends one) }

  pub settled_all : (point : List ℕ) (k : ℕ) → length leads ≤ k → AreSettled p (length leads) point vs k → All (λ v. dot p point v ≢ 0) vs
  settled_all point k ended settled j d inside =
      subst (λ (v : Coordinates). dot p point v ≢ 0) (get_or_default vs j [] d inside) (settled.each j inside (λ c above below. absurd (omega arith)))

-- the group of a column as it is read
pub group_is : {F : Type 0} (groups : List (Vec (ℕ × F) Global)) (k : ℕ) (v : Vec (ℕ × F) Global) (shown : List (ℕ × F)) → k < length groups → v ≡ get_or groups k v → shown ≡ v.items → group_at (map (λ h. h.items) groups) k ≡ shown
group_is groups k v shown inside at show = get_or-map (λ h. h.items) groups k v [] inside ∙ ap (λ h. h.items) (sym at) ∙ sym show

-- the row that leads in a column, or none
some_or_none : (o : Option ℕ) → (is_some o ≡ false → o ≡ None) × (is_some o ≡ true → (i : ℕ) × (o ≡ Some i))
some_or_none None = ((λ e. refl), (λ e. absurd (cc)))
some_or_none (Some i) = ((λ e. cc), (λ e. (i, refl)))

pub no_lead : (leads : List (Option ℕ)) (k : ℕ) → k < length leads → is_some (get_or leads k None) ≡ false → slice_get leads k ≡ Some None
no_lead leads k inside none = slice_get-get_or leads k None inside ∙ ap Some ((some_or_none (get_or leads k None)).0 none)

pub some_lead : (leads : List (Option ℕ)) (k : ℕ) → k < length leads → is_some (get_or leads k None) ≡ true → (i : ℕ) × (slice_get leads k ≡ Some (Some i))
some_lead leads k inside some =
    let lead = (some_or_none (get_or leads k None)).1 some in
    (lead.0, slice_get-get_or leads k None inside ∙ ap Some lead.1)

-- the units of the unknowns in which no row leads
pub free_more : (leads : List (Option ℕ)) (k d f : ℕ) → k < length leads → is_some (get_or leads k None) ≡ false → d ≤ f → count_by is_none (take k leads) * (f + 1) + (d + 1) ≤ count_by is_none (take (k + 1) leads) * (f + 1)
free_more leads k d f inside none few =
    let more = count_by_more_yes is_none leads k None inside (ap not none) in
    let product = ap (λ n. n * (f + 1)) more in
    omega arith

pub free_same : (leads : List (Option ℕ)) (k f : ℕ) → k < length leads → is_some (get_or leads k None) ≡ true → count_by is_none (take k leads) * (f + 1) ≡ count_by is_none (take (k + 1) leads) * (f + 1)
free_same leads k f inside some = ap (λ n. n * (f + 1)) (sym (count_by_more_no is_none leads k None inside (ap not some)))

pub free_within : (leads : List (Option ℕ)) (k f : ℕ) → count_by is_none (take k leads) * (f + 1) ≤ count_by is_none leads * (f + 1)
free_within leads k f = mul-le-mul_right (f + 1) (sum_by-take-le (λ o. cond (is_none o) 1 0) leads k)

-- and of those in which one leads
pub leading_more : (leads : List (Option ℕ)) (k i : ℕ) → 0 < k → k ≤ length leads → slice_get leads (k - 1) ≡ Some (Some i) → count_by is_some (drop (k - 1) leads) ≡ count_by is_some (drop k leads) + 1
leading_more leads k i some within lead =
    let e : k - 1 + 1 ≡ k = omega arith in
    let here : get_or leads (k - 1) None ≡ Some i = get_or_from_slice_get leads (k - 1) (Some i) None lead in
    let value : cond (is_some (get_or leads (k - 1) None)) 1 0 ≡ 1 = ap (λ (o : Option ℕ). cond (is_some o) 1 0) here in
    let step = sum_by-drop_more (λ o. cond (is_some o) 1 0) leads (k - 1) None (omega arith) in
    let same = ap (λ j. count_by is_some (drop j leads)) e in
    step ∙ ap₂ ◌+◌ value same ∙ add_comm 1 (count_by is_some (drop k leads))

pub leading_same : (leads : List (Option ℕ)) (k : ℕ) → 0 < k → k ≤ length leads → slice_get leads (k - 1) ≡ Some None → count_by is_some (drop (k - 1) leads) ≡ count_by is_some (drop k leads)
leading_same leads k some within none =
    let e : k - 1 + 1 ≡ k = omega arith in
    let here : get_or leads (k - 1) None ≡ None = get_or_from_slice_get leads (k - 1) None None none in
    let value : cond (is_some (get_or leads (k - 1) None)) 1 0 ≡ 0 = ap (λ (o : Option ℕ). cond (is_some o) 1 0) here in
    let step = sum_by-drop_more (λ o. cond (is_some o) 1 0) leads (k - 1) None (omega arith) in
    let same = ap (λ j. count_by is_some (drop j leads)) e in
    step ∙ ap₂ ◌+◌ value same ∙ zero-add (count_by is_some (drop k leads))

pub leading_within : (leads : List (Option ℕ)) (k : ℕ) → count_by is_some (drop k leads) ≤ count_by is_some leads
leading_within leads k = omega (arith, sum_by-take-drop (λ o. cond (is_some o) 1 0) leads k)

-- all of them together
pub free_and_leading : (leads : List (Option ℕ)) → count_by is_none leads + count_by is_some leads ≡ length leads
free_and_leading [] = refl
free_and_leading (o ∷ leads) = by_lead o (free_and_leading leads)
  where
    none_first : (p : Option ℕ) → count_by is_none (p ∷ leads) ≡ cond (is_none p) 1 0 + count_by is_none leads
    none_first p = sum_by-cons (λ q. cond (is_none q) 1 0) p leads

    some_first : (p : Option ℕ) → count_by is_some (p ∷ leads) ≡ cond (is_some p) 1 0 + count_by is_some leads
    some_first p = sum_by-cons (λ q. cond (is_some q) 1 0) p leads

    by_lead : (p : Option ℕ) → count_by is_none leads + count_by is_some leads ≡ length leads → count_by is_none (p ∷ leads) + count_by is_some (p ∷ leads) ≡ suc (length leads)
    by_lead None rest = omega (arith, none_first None, some_first None)
    by_lead (Some i) rest = omega (arith, none_first (Some i), some_first (Some i))

pub all_units : (leads : List (Option ℕ)) (n f : ℕ) → length leads ≡ n → count_by is_none leads * (f + 1) + count_by is_some leads ≤ n * (f + 1)
all_units leads n f long =
    let sum = ap (λ m. m * (f + 1)) (free_and_leading leads ∙ long) in
    let more : count_by is_some leads ≤ count_by is_some leads * (f + 1) = grind arith in
    omega arith

-- ---- unknowns in which a row leads

-- the rows that lead from a column on are 0
pub record AreZeros (p : ℕ) (point : List ℕ) (kept : List Kept) (k : ℕ) : Type 0 where
  pub each : (j c : ℕ) (r : Kept) → slice_get kept j ≡ Some r → leading_column r.coordinates ≡ Some c → k ≤ c → AreCoordinates p r.coordinates × (dot p point r.coordinates ≡ 0)

before_leading : (p k c : ℕ) (v : Coordinates) → AreCoordinates p v → leading_column v ≡ Some c → k < c → coordinate v k ≡ 0
before_leading p k c [] valid leads before = refl
before_leading p k c (e ∷ v) valid leads before =
    let same : e.0 ≡ c = cc in
    coordinate_there e v k (λ equal. omega arith) ∙ coordinate_before p (suc e.0) k v valid.3 (omega arith)

module _ (p n : ℕ) (kept : List Kept) (leads : List (Option ℕ)) (are : AreLeads n kept leads) where
  pub zeros_none : (k : ℕ) (point : List ℕ) → slice_get leads k ≡ Some None → AreZeros p point kept (suc k) → AreZeros p point kept k
  zeros_none k point none zeros = record { each = λ j c r at leading from. by_column j c r at leading from (cases_eq c k) }
    where
      by_column : (j c : ℕ) (r : Kept) → slice_get kept j ≡ Some r → leading_column r.coordinates ≡ Some c → k ≤ c → (c ≡ k) ⊎ (c ≡ k → ⊥) → AreCoordinates p r.coordinates × (dot p point r.coordinates ≡ 0)
      by_column j c r at leading from (inl same) =
          let found = are.lead j c r at leading in
          let other = ap (slice_get leads) same in
          absurd (cc)
      by_column j c r at leading from (inr other) = zeros.each j c r at leading (omega arith)

  pub zeros_placed : (k i y : ℕ) (row : Kept) (point : List ℕ) → slice_get leads k ≡ Some (Some i) → slice_get kept i ≡ Some row → k < length point → AreCoordinates p row.coordinates → IsRootIn p point row.coordinates k y
      → AreZeros p point kept (suc k) → AreZeros p (set point k y) kept k
  zeros_placed k i y row point lead row_at inside valid root zeros = record { each = λ j c r at leading from. by_column j c r at leading from (cases_eq c k) }
    where
      by_column : (j c : ℕ) (r : Kept) → slice_get kept j ≡ Some r → leading_column r.coordinates ≡ Some c → k ≤ c → (c ≡ k) ⊎ (c ≡ k → ⊥) → AreCoordinates p r.coordinates × (dot p (set point k y) r.coordinates ≡ 0)
      by_column j c r at leading from (inl same) =
          let found = are.lead j c r at leading in
          let column = ap (slice_get leads) same in
          let number : j ≡ i = cc in
          let rows = ap (slice_get kept) number in
          let one : row ≡ r = cc in
          subst (λ (s : Kept). AreCoordinates p s.coordinates × (dot p (set point k y) s.coordinates ≡ 0)) one (valid, root.zero)
      by_column j c r at leading from (inr other) =
          let before = zeros.each j c r at leading (omega arith) in
          (before.0, dot_elsewhere p k y point r.coordinates before.0 inside (before_leading p k c r.coordinates before.0 leading (omega arith)) ∙ before.1)

  pub no_zeros_yet : (point : List ℕ) (k : ℕ) → ((j c : ℕ) (r : Kept) → slice_get kept j ≡ Some r → leading_column r.coordinates ≡ Some c → c < k) → AreZeros p point kept k
  no_zeros_yet point k inside = record { each = λ j c r at leading from. absurd (let less = inside j c r at leading in omega arith) }

  -- a reduced vector keeps its value
  pub reduced_kept : (k i y : ℕ) (point : List ℕ) (v : Coordinates) → slice_get leads k ≡ Some (Some i) → k < length point → AreCoordinates p v → IsReduced kept v → dot p (set point k y) v ≡ dot p point v
  reduced_kept k i y point v lead inside v_valid reduced =
      let row = are.row k i lead in
      dot_elsewhere p k y point v v_valid inside (reduced i k row.0 row.1 row.2)

-- each row leads in the column of an unknown
pub leads_somewhere : (n : ℕ) (v : Coordinates) → LeadsBelow n v → (c : ℕ) × (leading_column v ≡ Some c) × (c < n)
leads_somewhere n [] leads = absurd leads
leads_somewhere n (e ∷ v) leads = (e.0, refl, leads.0)

pub leads_inside : (n c : ℕ) (v : Coordinates) → LeadsBelow n v → leading_column v ≡ Some c → c < n
leads_inside n c [] leads at = absurd leads
leads_inside n c (e ∷ v) leads at = let same : e.0 ≡ c = cc in subst (λ k. k < n) same leads.0

-- the coordinate with which a row leads is 1
pub leads_by_one : (n c : ℕ) (v : Coordinates) → LeadsBelow n v → leading_column v ≡ Some c → coordinate v c ≡ 1
leads_by_one n c [] leads at = absurd leads
leads_by_one n c (e ∷ v) leads at = let same : e.0 ≡ c = cc in coordinate_here e v c same ∙ leads.1

-- where all rows are 0
pub zeros_all : (p n : ℕ) (point : List ℕ) (kept : List Kept) → AreLeading n kept → AreZeros p point kept 0 → All (λ r. dot p point r.coordinates ≡ 0) kept
zeros_all p n point kept leading zeros k d inside =
    let lead = leads_somewhere n (get_or kept k d).coordinates (leading.each k d inside) in
    (zeros.each k lead.0 (get_or kept k d) (slice_get-get_or kept k d inside) lead.1 (omega arith)).1

-- the row that leads in a column
pub record IsLeadingRow (n k i : ℕ) (kept : List Kept) (row : Kept) : Type 0 where
  pub at : slice_get kept i ≡ Some row
  pub leads : leading_column row.coordinates ≡ Some k
  pub below : IsBelow (n + 1) row.coordinates
  pub one : coordinate row.coordinates k ≡ 1

pub row_inside : (n k i : ℕ) (kept : List Kept) (leads : List (Option ℕ)) → AreLeads n kept leads → slice_get leads k ≡ Some (Some i) → i < length kept
row_inside n k i kept leads are lead = let row = are.row k i lead in slice_get_within kept i row.0 row.1

pub leading_row : (n k i : ℕ) (kept : List Kept) (leads : List (Option ℕ)) (row : Kept) → AreLeading n kept → AreLeads n kept leads → slice_get leads k ≡ Some (Some i) → row ≡ get_or kept i row → IsLeadingRow n k i kept row
leading_row n k i kept leads row leading are lead read =
    let there = are.row k i lead in
    let inside = slice_get_within kept i there.0 there.1 in
    let same : there.0 ≡ row = sym (get_or_from_slice_get kept i there.0 row there.1) ∙ sym read in
    let leads_there : leading_column row.coordinates ≡ Some k = ap (λ (r : Kept). leading_column r.coordinates) (sym same) ∙ there.2 in
    record {
      at = there.1 ∙ ap Some same;
      leads = leads_there;
      below = subst (λ (r : Kept). IsBelow (n + 1) r.coordinates) (sym read) (leading.within i row inside);
      one = leads_by_one n k row.coordinates (subst (λ (r : Kept). LeadsBelow n r.coordinates) (sym read) (leading.each i row inside)) leads_there;
    }

pub rows_inside : (n j c : ℕ) (kept : List Kept) (r : Kept) → AreLeading n kept → slice_get kept j ≡ Some r → leading_column r.coordinates ≡ Some c → c < n
rows_inside n j c kept r leading at leads =
    leads_inside n c r.coordinates (subst (λ (s : Kept). LeadsBelow n s.coordinates) (get_or_from_slice_get kept j r r at) (leading.each j r (slice_get_within kept j r at))) leads

pub none_since : (o : Option ℕ) → ((i : ℕ) → o ≡ Some i → ⊥) → o ≡ None
none_since None other = refl
none_since (Some i) other = absurd (other i refl)

-- forms that are to be avoided are free of the columns in which rows lead
pub free_from_avoided : (p n : ℕ) (kept : List Kept) (leads : List (Option ℕ)) (v : Coordinates) → AreLeads n kept leads → AreCoordinates p v → IsAvoided (form_of n kept) v → IsFree p leads v
free_from_avoided p n kept leads v are valid avoided = record {
  valid = valid;
  within = subst (λ m. IsBelow (m + 1) v) (sym are.long) avoided.within;
  reduced = λ c j found. (let row = are.row c j found in avoided.reduced j c row.0 row.1 row.2);
  nonzero = avoided.nonzero;
}

-- values with 1 after them
pub with_one : {F : Type 0} (value : F → ℕ) (n : ℕ) (point : List F) → length point ≡ n + 1 → get_or (map value point) n 0 ≡ 1 → map value (take n point) ++ 1 ∷ [] ≡ map value point
with_one value n [] long one = absurd (omega arith)
with_one value n (x ∷ xs) long one =
    let inside : n < length (x ∷ xs) = omega arith in
    let last : value (get_or (x ∷ xs) n x) ≡ 1 = sym (get_or-map value (x ∷ xs) n x 0 inside) ∙ one in
    ap (λ (m : ℕ). map value (take n (x ∷ xs)) ++ m ∷ []) (sym last) ∙ sym (map_more value (x ∷ xs) n x inside)
    ∙ ap (map value) (take_all (n + 1) (x ∷ xs) (omega arith))

-- a point at which the rows are 0 and the forms are not
pub is_solution : {F : Type 0} (p n : ℕ) (value : F → ℕ) (kept : List Kept) (forms : List Coordinates) (before point : List F) → length point ≡ n + 1 → get_or (map value point) n 0 ≡ 1
    → All (λ r. dot p (map value point) r.coordinates ≡ 0) kept → All (IsAvoided (form_of n kept)) forms → All (AreCoordinates p) forms
    → ((v : Coordinates) → AreCoordinates p v → IsReduced kept v → dot p (map value point) v ≡ dot p (map value before) v) → All (λ v. dot p (map value before) v ≢ 0) forms
    → IsSolution p (form_of n kept) forms (map value (take n point))
is_solution p n value kept forms before point long one zeros avoided valid same apart =
    let whole = with_one value n point long one in
    record {
      long = length-map (take n point) value ∙ length-take-le n point (omega arith);
      zeros = subst (λ (q : List ℕ). All (λ r. dot p q r.coordinates ≡ 0) kept) (sym whole) zeros;
      apart = λ k d inside vanishes.
          apart k d inside (sym (same (get_or forms k d) (valid k d inside) (avoided k d inside).reduced) ∙ ap (λ (q : List ℕ). dot p q (get_or forms k d)) (sym whole) ∙ vanishes);
    }

-- only the unknowns and the rows of a form matter
pub avoided_by_rows : (n : ℕ) (kept : List Kept) (form : Form) (v : Coordinates) → form.unknowns ≡ n → form.kept ≡ kept → IsAvoided form v → IsAvoided (form_of n kept) v
avoided_by_rows n kept form v unknowns rows avoided = record {
  within = subst (λ m. IsBelow (m + 1) v) unknowns avoided.within;
  reduced = subst (λ (r : List Kept). IsReduced r v) rows avoided.reduced;
  nonzero = avoided.nonzero;
}

pub solution_by_rows : (p n : ℕ) (kept : List Kept) (form : Form) (forms : List Coordinates) (values : List ℕ) → form.unknowns ≡ n → form.kept ≡ kept → IsSolution p (form_of n kept) forms values → IsSolution p form forms values
solution_by_rows p n kept form forms values unknowns rows solution = record {
  long = solution.long ∙ sym unknowns;
  zeros = subst (λ (r : List Kept). All (λ s. dot p (values ++ 1 ∷ []) s.coordinates ≡ 0) r) (sym rows) solution.zeros;
  apart = solution.apart;
}
