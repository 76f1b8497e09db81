-- What the node of each variant means, from what its children mean.
use Rattle.std.proofs.Common.{◌≡◌, ℕ, ◌+◌, ◌*◌, ◌%◌, ◌^◌, ◌<◌, ◌==◌, ◌&&◌, ◌||◌, not, if◌then◌else◌, Bool, true, false, List, [], ◌∷◌, length, take, fold, sum_by, refl, sym, ap, ap₂, ◌∙◌, subst, arith, length-take}
use Rattle.std.specs.List.{list_all, list_any}
use Rattle.std.proofs.lemmas.List.Elements.{All-head, All-tail}
use Rattle.std.proofs.lemmas.Option.{slice_get_within}
use Rattle.ffc_field.specs.Modular.{neg_mod}
use Rattle.ffc_term.specs.declared.node.Node.{Node}
use Rattle.ffc_term.specs.declared.node.Node.TheVariants as node
use Rattle.ffc_term.specs.declared.node.Sort.{Sort}
use Rattle.ffc_term.specs.declared.node.Sort.TheVariants as sort
use Rattle.ffc_term.specs.declared.value.Value.{Value}
use Rattle.ffc_term.specs.declared.value.Value.TheVariants as value
use Rattle.ffc_term.specs.Nodes.{IsNodeAt, sort_at, sorts, sort_of_node, order_at, order_of_sort}
use Rattle.ffc_term.specs.Values.{values, value_of_node, truth_in, residue_in, is_same_truth, product_by, bit_sum_from}
use Rattle.ffc_term.specs.Values.{truth as value_truth, residue as value_residue}
use Rattle.ffc_term.specs.Tables.{IsWellFormed, IsFieldAt, AreOfOneField}
use Rattle.ffc_term.proofs.TableLemmas.{sort_at-is, sort_at-take}
use Rattle.ffc_term.proofs.ValueLemmas.{value_at-is}
use Rattle.ffc_smt.specs.Meaning.{Element, TruthValue, FieldValue, truth, residue, order, sort_of, value_of, is_equal}
use Rattle.ffc_smt.specs.Making.{equality_of}
use Rattle.ffc_smt.specs.Law.{Means}

pub truth_of_value : (x : Element) → value_truth (value_of x) ≡ truth x
truth_of_value (TruthValue b) = refl
truth_of_value (FieldValue p n) = refl

pub residue_of_value : (x : Element) → value_residue (value_of x) ≡ residue x
residue_of_value (TruthValue b) = refl
residue_of_value (FieldValue p n) = refl

-- an element of a field
pub field_element : (x : Element) (q : ℕ) → sort_of x ≡ sort.Field q → sort.Field (order x) ≡ sort_of x
field_element (TruthValue b) q e = cc
field_element (FieldValue p n) q e = refl

-- a truth value
pub truth_element : (x : Element) → sort_of x ≡ sort.Bool → x ≡ TruthValue (truth x)
truth_element (TruthValue b) e = refl
truth_element (FieldValue p n) e = cc

field_value : (x : Element) (q : ℕ) → sort_of x ≡ sort.Field q → x ≡ FieldValue q (residue x)
field_value (TruthValue b) q e = cc
field_value (FieldValue p n) q e = cc

-- nodes mean the elements of a list
abbrev pub AllMean : List Node → List Value → List ℕ → List Element → Type 0
AllMean ns A [] [] = Unit {0}
AllMean ns A [] (x ∷ xs) = ⊥
AllMean ns A (a ∷ ids) [] = ⊥
AllMean ns A (a ∷ ids) (x ∷ xs) = Means ns A a x × AllMean ns A ids xs

module _ (ns : List Node) (A : List Value) where
  pub truth_at : (a : ℕ) (x : Element) → Means ns A a x → truth_in (values ns A) a ≡ truth x
  truth_at a x h = ap value_truth h.value ∙ truth_of_value x

  pub residue_at : (a : ℕ) (x : Element) → Means ns A a x → residue_in (values ns A) a ≡ residue x
  residue_at a x h = ap value_residue h.value ∙ residue_of_value x

  all_truths : (ids : List ℕ) (xs : List Element) → AllMean ns A ids xs → list_all (truth_in (values ns A)) ids ≡ list_all truth xs
  all_truths [] [] h = refl
  all_truths [] (x ∷ xs) h = absurd h
  all_truths (a ∷ ids) [] h = absurd h
  all_truths (a ∷ ids) (x ∷ xs) h = ap₂ (λ b c. b && c) (truth_at a x h.0) (all_truths ids xs h.1)

  any_truths : (ids : List ℕ) (xs : List Element) → AllMean ns A ids xs → list_any (truth_in (values ns A)) ids ≡ list_any truth xs
  any_truths [] [] h = refl
  any_truths [] (x ∷ xs) h = absurd h
  any_truths (a ∷ ids) [] h = absurd h
  any_truths (a ∷ ids) (x ∷ xs) h = ap₂ (λ b c. b || c) (truth_at a x h.0) (any_truths ids xs h.1)

  folded : (f : ℕ → ℕ → ℕ) (k : ℕ) (ids : List ℕ) (xs : List Element) → AllMean ns A ids xs
      → fold (λ b a. f b (residue_in (values ns A) a)) k ids ≡ fold (λ b x. f b (residue x)) k xs
  folded f k [] [] h = refl
  folded f k [] (x ∷ xs) h = absurd h
  folded f k (a ∷ ids) [] h = absurd h
  folded f k (a ∷ ids) (x ∷ xs) h =
      folded f (f k (residue_in (values ns A) a)) ids xs h.1 ∙ ap (λ r. fold (λ b y. f b (residue y)) (f k r) xs) (residue_at a x h.0)

  bit_sums : (i : ℕ) (ids : List ℕ) (xs : List Element) → AllMean ns A ids xs → bit_sum_from i (residue_in (values ns A)) ids ≡ bit_sum_from i residue xs
  bit_sums i [] [] h = refl
  bit_sums i [] (x ∷ xs) h = absurd h
  bit_sums i (a ∷ ids) [] h = absurd h
  bit_sums i (a ∷ ids) (x ∷ xs) h = ap₂ (λ r s. 2 ^ i * r + s) (residue_at a x h.0) (bit_sums (i + 1) ids xs h.1)

  module _ (formed : IsWellFormed ns) where
    -- a Boolean node's meaning
    truth_means : (id : ℕ) (n : Node) (b : Bool) → IsNodeAt ns id n → sort_of_node (sorts (take id ns)) n ≡ sort.Bool
        → value_of_node (order_at ns id) A (values ns A) n ≡ value.Bool b → Means ns A id (TruthValue b)
    truth_means id n b at s v = record {
      within = slice_get_within ns id n at;
      sort = sort_at-is ns id n at ∙ s;
      value = value_at-is ns A id n formed at ∙ v;
    }

    -- a field node's
    field_means : (id : ℕ) (n : Node) (p r : ℕ) → IsNodeAt ns id n → sort_at ns id ≡ sort.Field p
        → value_of_node p A (values ns A) n ≡ value.Field r → Means ns A id (FieldValue p r)
    field_means id n p r at s v = record {
      within = slice_get_within ns id n at;
      sort = s;
      value = value_at-is ns A id n formed at ∙ ap (λ k. value_of_node (order_of_sort k) A (values ns A) n) s ∙ v;
    }

    pub true_means : (id : ℕ) → IsNodeAt ns id node.True → Means ns A id (TruthValue true)
    true_means id at = truth_means id _ true at refl refl

    pub false_means : (id : ℕ) → IsNodeAt ns id node.False → Means ns A id (TruthValue false)
    false_means id at = truth_means id _ false at refl refl

    pub bool_constant_means : (id k : ℕ) → IsNodeAt ns id (node.BoolConst k) → Means ns A id (TruthValue (truth_in A k))
    bool_constant_means id k at = truth_means id _ _ at refl refl

    pub field_constant_means : (id k p : ℕ) (r : ℕ) → IsNodeAt ns id (node.FieldConst k p) → value_of_node p A (values ns A) (node.FieldConst k p) ≡ value.Field r → Means ns A id (FieldValue p r)
    field_constant_means id k p r at v = field_means id _ p r at (sort_at-is ns id _ at) v

    pub number_means : (id n p : ℕ) → IsNodeAt ns id (node.Num n p) → Means ns A id (FieldValue p n)
    number_means id n p at = field_means id _ p n at (sort_at-is ns id _ at) refl

    pub not_means : (id a : ℕ) (x : Element) → IsNodeAt ns id (node.Not a) → Means ns A a x → Means ns A id (TruthValue (not (truth x)))
    not_means id a x at h = truth_means id _ _ at refl (ap (λ b. value.Bool (not b)) (truth_at a x h))

    pub and_means : (id : ℕ) (ids : List ℕ) (xs : List Element) → IsNodeAt ns id (node.And ids) → AllMean ns A ids xs → Means ns A id (TruthValue (list_all truth xs))
    and_means id ids xs at h = truth_means id _ _ at refl (ap value.Bool (all_truths ids xs h))

    pub or_means : (id : ℕ) (ids : List ℕ) (xs : List Element) → IsNodeAt ns id (node.Or ids) → AllMean ns A ids xs → Means ns A id (TruthValue (list_any truth xs))
    or_means id ids xs at h = truth_means id _ _ at refl (ap value.Bool (any_truths ids xs h))

    pub xor_means : (id a b : ℕ) (x y : Element) → IsNodeAt ns id (node.Xor a b) → Means ns A a x → Means ns A b y → Means ns A id (TruthValue (not (is_same_truth (truth x) (truth y))))
    xor_means id a b x y at g h = truth_means id _ _ at refl (ap₂ (λ t u. value.Bool (not (is_same_truth t u))) (truth_at a x g) (truth_at b y h))

    -- a child that is among the nodes before has there the sort of what it means
    child_sort : (id a : ℕ) (x : Element) (s : Sort) → Means ns A a x → a < length (take id ns) → sort_at (take id ns) a ≡ s → sort_of x ≡ s
    child_sort id a x s h short is =
        let before : a < id = omega (arith, length-take id ns) in
        sym h.sort ∙ sym (sort_at-take id ns a before) ∙ is

    iff_value : (x y : Element) → sort_of x ≡ sort.Bool → sort_of y ≡ sort.Bool → is_same_truth (truth x) (truth y) ≡ is_equal x y
    iff_value (TruthValue a) (TruthValue b) e f = refl
    iff_value (TruthValue a) (FieldValue q n) e f = cc
    iff_value (FieldValue p m) y e f = cc

    same_number : (p : ℕ) (b : Bool) → b ≡ (p == p && b)
    same_number p b = grind arith

    eq_value : (x y : Element) (q : ℕ) → sort_of x ≡ sort.Field q → sort_of y ≡ sort.Field q → (residue x == residue y) ≡ is_equal x y
    eq_value x y q e f =
        let u : x ≡ FieldValue q (residue x) = field_value x q e in
        let v : y ≡ FieldValue q (residue y) = field_value y q f in
        same_number q (residue x == residue y) ∙ sym (ap₂ is_equal u v)

    iff_means : (id a b : ℕ) (x y : Element) → IsNodeAt ns id (node.Iff a b) → Means ns A a x → Means ns A b y → Means ns A id (TruthValue (is_equal x y))
    iff_means id a b x y at g h =
        let fits = formed.fits id (node.Iff a b) at in
        truth_means id _ _ at refl (ap₂ (λ t u. value.Bool (is_same_truth t u)) (truth_at a x g) (truth_at b y h)
        ∙ ap value.Bool (iff_value x y (child_sort id a x sort.Bool g fits.0.0 fits.0.1) (child_sort id b y sort.Bool h fits.1.0 fits.1.1)))

    eq_means : (id a b : ℕ) (x y : Element) → IsNodeAt ns id (node.Eq a b) → Means ns A a x → Means ns A b y → Means ns A id (TruthValue (is_equal x y))
    eq_means id a b x y at g h =
        let fits = formed.fits id (node.Eq a b) at in
        let one = All-head (IsFieldAt (take id ns) fits.order) a (b ∷ []) fits.each in
        let two = All-head (IsFieldAt (take id ns) fits.order) b [] (All-tail (IsFieldAt (take id ns) fits.order) a (b ∷ []) fits.each) in
        truth_means id _ _ at refl (ap₂ (λ t u. value.Bool (t == u)) (residue_at a x g) (residue_at b y h)
        ∙ ap value.Bool (eq_value x y fits.order (child_sort id a x _ g one.0 one.1) (child_sort id b y _ h two.0 two.1)))

    pub equality_means : (id a b : ℕ) (x y : Element) → IsNodeAt ns id (equality_of (sort_of x) a b) → Means ns A a x → Means ns A b y → Means ns A id (TruthValue (is_equal x y))
    equality_means id a b (TruthValue t) y at g h = iff_means id a b (TruthValue t) y at g h
    equality_means id a b (FieldValue p m) y at g h = eq_means id a b (FieldValue p m) y at g h

    ite_value : (c : Bool) (x y : Element) → sort_of x ≡ sort.Bool → sort_of y ≡ sort.Bool → TruthValue (if c then truth x else truth y) ≡ (if c then x else y)
    ite_value true x y e f = sym (truth_element x e)
    ite_value false x y e f = sym (truth_element y f)

    pub bool_ite_means : (id c a b : ℕ) (z x y : Element) → IsNodeAt ns id (node.IteBool c a b) → Means ns A c z → Means ns A a x → Means ns A b y → Means ns A id (if truth z then x else y)
    bool_ite_means id c a b z x y at f g h =
        let fits = formed.fits id (node.IteBool c a b) at in
        subst (Means ns A id) (ite_value (truth z) x y (child_sort id a x sort.Bool g fits.1.0 fits.1.1) (child_sort id b y sort.Bool h fits.2.0 fits.2.1))
        (truth_means id _ _ at refl
        (ap₂ (λ t u. value.Bool (if t then u else truth_in (values ns A) b)) (truth_at c z f) (truth_at a x g)
        ∙ ap (λ u. value.Bool (if truth z then truth x else u)) (truth_at b y h)))

    field_ite_value : (c : Bool) (x y : Element) (q : ℕ) → sort_of x ≡ sort.Field q → sort_of y ≡ sort.Field q → FieldValue q (if c then residue x else residue y) ≡ (if c then x else y)
    field_ite_value true x y q e f = sym (field_value x q e)
    field_ite_value false x y q e f = sym (field_value y q f)

    pub field_ite_means : (id c a b : ℕ) (z x y : Element) → IsNodeAt ns id (node.IteField c a b) → Means ns A c z → Means ns A a x → Means ns A b y → Means ns A id (if truth z then x else y)
    field_ite_means id c a b z x y at f g h =
        let fits = formed.fits id (node.IteField c a b) at in
        let q = fits.1.order in
        let one = All-head (IsFieldAt (take id ns) q) a (b ∷ []) fits.1.each in
        let two = All-head (IsFieldAt (take id ns) q) b [] (All-tail (IsFieldAt (take id ns) q) a (b ∷ []) fits.1.each) in
        subst (Means ns A id) (field_ite_value (truth z) x y q (child_sort id a x _ g one.0 one.1) (child_sort id b y _ h two.0 two.1))
        (field_means id _ q _ at (sort_at-is ns id _ at ∙ one.1)
        (ap₂ (λ t u. value.Field (if t then u else residue_in (values ns A) b)) (truth_at c z f) (residue_at a x g)
        ∙ ap (λ u. value.Field (if truth z then residue x else u)) (residue_at b y h)))

    -- the sort of a node that has the sort of its first child
    first_sort : (id a : ℕ) (rest : List ℕ) (n : Node) (x : Element) → IsNodeAt ns id n → AreOfOneField (take id ns) (a ∷ rest)
        → sort_of_node (sorts (take id ns)) n ≡ sort_at (take id ns) a → Means ns A a x → sort_at ns id ≡ sort.Field (order x)
    first_sort id a rest n x at fits is h =
        let one = All-head (IsFieldAt (take id ns) fits.order) a rest fits.each in
        let e : sort_of x ≡ sort.Field fits.order = child_sort id a x _ h one.0 one.1 in
        sort_at-is ns id n at ∙ is ∙ one.1 ∙ sym e ∙ sym (field_element x fits.order e)

    pub add_means : (id a : ℕ) (ids : List ℕ) (x : Element) (xs : List Element) → IsNodeAt ns id (node.Add (a ∷ ids)) → AllMean ns A (a ∷ ids) (x ∷ xs)
        → Means ns A id (FieldValue (order x) (sum_by residue (x ∷ xs) % order x))
    add_means id a ids x xs at h =
        field_means id _ _ _ at (first_sort id a ids _ x at (formed.fits id (node.Add (a ∷ ids)) at) refl h.0)
        (ap (λ s. value.Field (s % order x)) (folded (λ b r. b + r) 0 (a ∷ ids) (x ∷ xs) h))

    pub mul_means : (id a : ℕ) (ids : List ℕ) (x : Element) (xs : List Element) → IsNodeAt ns id (node.Mul (a ∷ ids)) → AllMean ns A (a ∷ ids) (x ∷ xs)
        → Means ns A id (FieldValue (order x) (product_by residue (x ∷ xs) % order x))
    mul_means id a ids x xs at h =
        field_means id _ _ _ at (first_sort id a ids _ x at (formed.fits id (node.Mul (a ∷ ids)) at) refl h.0)
        (ap (λ s. value.Field (s % order x)) (folded (λ b r. b * r) 1 (a ∷ ids) (x ∷ xs) h))

    pub neg_means : (id a : ℕ) (x : Element) → IsNodeAt ns id (node.Neg a) → Means ns A a x → Means ns A id (FieldValue (order x) (neg_mod (order x) (residue x)))
    neg_means id a x at h =
        field_means id _ _ _ at (first_sort id a [] _ x at (formed.fits id (node.Neg a) at) refl h)
        (ap (λ r. value.Field (neg_mod (order x) r)) (residue_at a x h))

    pub bitsum_means : (id a : ℕ) (ids : List ℕ) (x : Element) (xs : List Element) → IsNodeAt ns id (node.Bitsum (a ∷ ids)) → AllMean ns A (a ∷ ids) (x ∷ xs)
        → Means ns A id (FieldValue (order x) (bit_sum_from 0 residue (x ∷ xs) % order x))
    bitsum_means id a ids x xs at h =
        field_means id _ _ _ at (first_sort id a ids _ x at (formed.fits id (node.Bitsum (a ∷ ids)) at) refl h.0)
        (ap (λ s. value.Field (s % order x)) (bit_sums 0 (a ∷ ids) (x ∷ xs) h))
