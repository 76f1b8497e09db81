-- The degree and the number of terms of a node's polynomial are at most the node's measures.
use Rattle.std.proofs.Common.{◌≡◌, ℕ, zero, suc, ◌+◌, ◌-◌, ◌*◌, ◌^◌, ◌%◌, ◌<◌, ◌≤◌, max, List, [], ◌∷◌, ◌++◌, length, take, get_or, fold, sum_by, All, refl, sym, ap, ◌∙◌, subst, inl, inr, arith, length-take, length-append, get_or-take}
use Rattle.std.proofs.Math.Nat.{mul-le-mul}
use Rattle.std.proofs.lemmas.Bool.{cases_eq}
use Rattle.std.proofs.lemmas.List.Elements.{All-head, All-tail}
use Rattle.std.proofs.lemmas.List.Sums.{sum_by-cons}
use Rattle.ffc_ring.specs.Monomial.{Monomial, degree, mono_mul}
use Rattle.ffc_ring.specs.Polynomial.{Terms, term_product, product, scaled}
use Rattle.ffc_ring.proofs.MonomialLemmas.{degree-mono_mul}
use Rattle.ffc_ring.proofs.PolynomialLemmas.{cases_monomial}
use Rattle.ffc_term.specs.declared.node.Node.{Node}
use Rattle.ffc_term.specs.declared.node.Node.TheVariants.{True, FieldConst, Num, IteField, Add, Mul, Neg, Bitsum}
use Rattle.ffc_term.specs.declared.node.Sort.TheVariants as sort
use Rattle.ffc_term.specs.Nodes.{IsNodeAt, sorts, sort_of_node, order_at, order_of_sort}
use Rattle.ffc_term.specs.Values.{product_by}
use Rattle.ffc_term.specs.Tables.{Fits, IsFieldAt, IsTable}
use Rattle.ffc_term.specs.Measuring.{greatest_by, number_in, degree_of_node, length_of_node, degrees, lengths, degree_at, length_at}
use Rattle.ffc_term.proofs.InTurn.{get_or-in_turn}
use Rattle.ffc_term.proofs.NodeLemmas.{IsNodeAt-get_or}
use Rattle.ffc_term.proofs.TableLemmas.{sort_at-is, sort_at-take}
use Rattle.ffc_trees.specs.Normal.{term_before, with_term, normal, degree_of}
use Rattle.ffc_trees.specs.NodePolynomials.{poly_in, sum_of, product_of, bit_sum_of, expanded, poly_of_node, node_polys, poly_at}
use Rattle.ffc_trees.proofs.NormalLemmas.{none_before, some_before, met, passed_by}
use Rattle.ffc_trees.proofs.NodePolyLemmas.{poly_at-is, boolean_field, first_order, of_order, product_by-cons}

-- ---- the greatest of some numbers

greatest_from : {X : Type 0} (f : X → ℕ) (a : ℕ) (xs : List X) → fold (λ b x. max b (f x)) a xs ≡ max a (greatest_by f xs)
greatest_from f a [] = omega arith
greatest_from f a (x ∷ xs) =
    let here : fold (λ b y. max b (f y)) (max a (f x)) xs ≡ max (max a (f x)) (greatest_by f xs) = greatest_from f (max a (f x)) xs in
    let there : greatest_by f (x ∷ xs) ≡ max (max 0 (f x)) (greatest_by f xs) = greatest_from f (max 0 (f x)) xs in
    here ∙ (let same : max (max a (f x)) (greatest_by f xs) ≡ max a (max (max 0 (f x)) (greatest_by f xs)) = omega arith in same) ∙ ap (max a) (sym there)

greatest_by-cons : {X : Type 0} (f : X → ℕ) (x : X) (xs : List X) → greatest_by f (x ∷ xs) ≡ max (f x) (greatest_by f xs)
greatest_by-cons f x xs = greatest_from f (max 0 (f x)) xs ∙ (let same : max (max 0 (f x)) (greatest_by f xs) ≡ max (f x) (greatest_by f xs) = omega arith in same)

-- ---- bounds of lists of terms

-- each monomial is of this degree at most, and there are so many at most
record IsWithin (d n : ℕ) (ts : Terms) : Type 0 where
  low : degree_of ts ≤ d
  few : length ts ≤ n

degree-cons : (t : ℕ × Monomial) (ts : Terms) → degree_of (t ∷ ts) ≡ max (degree t.1) (degree_of ts)
degree-cons t ts = greatest_by-cons (λ (u : ℕ × Monomial). degree u.1) t ts

within_more : (d n e m : ℕ) (ts : Terms) → d ≤ e → n ≤ m → IsWithin d n ts → IsWithin e m ts
within_more d n e m ts low few is = record { low = omega (arith, is.low); few = omega (arith, is.few) }

degree-append : (d : ℕ) (a b : Terms) → degree_of a ≤ d → degree_of b ≤ d → degree_of (a ++ b) ≤ d
degree-append d [] b x y = y
degree-append d (t ∷ a) b x y =
    let rest : degree_of (a ++ b) ≤ d = degree-append d a b (omega (arith, degree-cons t a)) y in
    omega (arith, degree-cons t a, degree-cons t (a ++ b))

within-append : (d n m : ℕ) (a b : Terms) → IsWithin d n a → IsWithin d m b → IsWithin d (n + m) (a ++ b)
within-append d n m a b x y = record { low = degree-append d a b x.low y.low; few = omega (arith, length-append a b, x.few, y.few) }

length-term_product : (c : ℕ) (m : Monomial) (ts : Terms) → length (term_product c m ts) ≡ length ts
length-term_product c m [] = refl
length-term_product c m (t ∷ ts) = ap suc (length-term_product c m ts)

degree-term_product : (e c : ℕ) (m : Monomial) (ts : Terms) → degree_of ts ≤ e → degree_of (term_product c m ts) ≤ degree m + e
degree-term_product e c m [] y = omega arith
degree-term_product e c m (t ∷ ts) y =
    let rest : degree_of (term_product c m ts) ≤ degree m + e = degree-term_product e c m ts (omega (arith, degree-cons t ts)) in
    let here : degree (mono_mul m t.1) ≡ degree m + degree t.1 = degree-mono_mul m t.1 in
    omega (arith, degree-cons t ts, degree-cons (c * t.0, mono_mul m t.1) (term_product c m ts))

degree-product : (d e : ℕ) (a b : Terms) → degree_of a ≤ d → degree_of b ≤ e → degree_of (product a b) ≤ d + e
degree-product d e [] b x y = omega arith
degree-product d e (t ∷ a) b x y =
    let first : degree_of (term_product t.0 t.1 b) ≤ degree t.1 + e = degree-term_product e t.0 t.1 b y in
    degree-append (d + e) (term_product t.0 t.1 b) (product a b) (omega (arith, degree-cons t a)) (degree-product d e a b (omega (arith, degree-cons t a)) y)

length-product : (a b : Terms) → length (product a b) ≡ length a * length b
length-product [] b = omega arith
length-product (t ∷ a) b =
    let rest : length (product a b) ≡ length a * length b = length-product a b in
    let step : suc (length a) * length b ≡ length b + length a * length b = omega arith in
    omega (arith, length-append (term_product t.0 t.1 b) (product a b), length-term_product t.0 t.1 b)

within-product : (d n e m : ℕ) (a b : Terms) → IsWithin d n a → IsWithin e m b → IsWithin (d + e) (n * m) (product a b)
within-product d n e m a b x y = record {
  low = degree-product d e a b x.low y.low;
  few = omega (arith, length-product a b, mul-le-mul x.few y.few);
}

within-scaled : (d n c : ℕ) (ts : Terms) → IsWithin d n ts → IsWithin d n (scaled c ts)
within-scaled d n c ts is = record { low = omega (arith, degree-term_product d c [] ts is.low); few = omega (arith, length-term_product c [] ts, is.few) }

within-term_before : (d n p c : ℕ) (m : Monomial) (ts : Terms) → degree m ≤ d → IsWithin d n ts → IsWithin d (suc n) (term_before p c m ts)
within-term_before d n p c m ts x y =
    elim (cases_eq (c % p) 0) as (λ _. IsWithin d (suc n) (term_before p c m ts)) [
      | inl none ↦ rw (none_before p c m ts none) (within_more d n d (suc n) ts (omega arith) (omega arith) y)
      | inr some ↦ rw (some_before p c m ts some) (record { low = omega (arith, degree-cons (c % p, m) ts, y.low); few = omega (arith, y.few) })
    ]

within-with_term : (d p c : ℕ) (m : Monomial) (ts : Terms) → degree m ≤ d → degree_of ts ≤ d → IsWithin d (suc (length ts)) (with_term p c m ts)
within-with_term d p c m [] x y = within-term_before d 0 p c m [] x (record { low = omega arith; few = omega arith })
within-with_term d p c m (t ∷ ts) x y =
    let tail : degree_of ts ≤ d = omega (arith, degree-cons t ts) in
    elim (cases_monomial m t.1) as (λ _. IsWithin d (suc (length (t ∷ ts))) (with_term p c m (t ∷ ts))) [
      | inl e ↦ rw (met p c m t ts e) (within-term_before d (suc (length ts)) p (c + t.0) m ts x (record { low = tail; few = omega arith }))
      | inr other ↦
          let rest : IsWithin d (suc (length ts)) (with_term p c m ts) = within-with_term d p c m ts x tail in
          rw (passed_by p c m t ts other) (record { low = omega (arith, degree-cons t ts, degree-cons t (with_term p c m ts), rest.low); few = omega (arith, rest.few) })
    ]

within-normal : (d n p : ℕ) (ts : Terms) → IsWithin d n ts → IsWithin d n (normal p ts)
unfolding normal
within-normal d n p [] is = is
within-normal d zero p (t ∷ ts) is = absurd (omega (arith, is.few))
within-normal d (suc n) p (t ∷ ts) is =
    let rest : IsWithin d n (normal p ts) = within-normal d n p ts (record { low = omega (arith, degree-cons t ts, is.low); few = omega (arith, is.few) }) in
    within_more d (suc (length (normal p ts))) d (suc n) (with_term p t.0 t.1 (normal p ts)) (omega arith) (omega (arith, rest.few))
    (within-with_term d p t.0 t.1 (normal p ts) (omega (arith, degree-cons t ts, is.low)) rest.low)

-- ---- one node

module _ (before : List Node) (polys : List Terms) (ds ls : List ℕ) (p id : ℕ) (within : (c : ℕ) → IsFieldAt before p c → IsWithin (number_in ds c) (number_in ls c) (poly_in polys c)) where
  sum_within : (ids : List ℕ) → All (IsFieldAt before p) ids → IsWithin (greatest_by (number_in ds) ids) (sum_by (number_in ls) ids) (sum_of polys ids)
  sum_within [] are = record { low = omega arith; few = omega arith }
  sum_within (c ∷ ids) are =
      let d : ℕ = greatest_by (number_in ds) (c ∷ ids) in
      let top : d ≡ max (number_in ds c) (greatest_by (number_in ds) ids) = greatest_by-cons (number_in ds) c ids in
      let all : sum_by (number_in ls) (c ∷ ids) ≡ number_in ls c + sum_by (number_in ls) ids = sum_by-cons (number_in ls) c ids in
      let first : IsWithin d (number_in ls c) (poly_in polys c) = within_more (number_in ds c) (number_in ls c) d (number_in ls c) (poly_in polys c) (omega arith) (omega arith) (within c (All-head (IsFieldAt before p) c ids are)) in
      let rest : IsWithin d (sum_by (number_in ls) ids) (sum_of polys ids) = within_more (greatest_by (number_in ds) ids) (sum_by (number_in ls) ids) d (sum_by (number_in ls) ids) (sum_of polys ids) (omega arith) (omega arith) (sum_within ids (All-tail (IsFieldAt before p) c ids are)) in
      subst (λ n. IsWithin d n (sum_of polys (c ∷ ids))) (sym all) (within-append d (number_in ls c) (sum_by (number_in ls) ids) (poly_in polys c) (sum_of polys ids) first rest)

  bits_within : (i : ℕ) (ids : List ℕ) → All (IsFieldAt before p) ids → IsWithin (greatest_by (number_in ds) ids) (sum_by (number_in ls) ids) (bit_sum_of i polys ids)
  bits_within i [] are = record { low = omega arith; few = omega arith }
  bits_within i (c ∷ ids) are =
      let d : ℕ = greatest_by (number_in ds) (c ∷ ids) in
      let top : d ≡ max (number_in ds c) (greatest_by (number_in ds) ids) = greatest_by-cons (number_in ds) c ids in
      let all : sum_by (number_in ls) (c ∷ ids) ≡ number_in ls c + sum_by (number_in ls) ids = sum_by-cons (number_in ls) c ids in
      let first : IsWithin d (number_in ls c) (scaled (2 ^ i) (poly_in polys c)) = within_more (number_in ds c) (number_in ls c) d (number_in ls c) (scaled (2 ^ i) (poly_in polys c)) (omega arith) (omega arith) (within-scaled (number_in ds c) (number_in ls c) (2 ^ i) (poly_in polys c) (within c (All-head (IsFieldAt before p) c ids are))) in
      let rest : IsWithin d (sum_by (number_in ls) ids) (bit_sum_of (i + 1) polys ids) = within_more (greatest_by (number_in ds) ids) (sum_by (number_in ls) ids) d (sum_by (number_in ls) ids) (bit_sum_of (i + 1) polys ids) (omega arith) (omega arith) (bits_within (i + 1) ids (All-tail (IsFieldAt before p) c ids are)) in
      subst (λ n. IsWithin d n (bit_sum_of i polys (c ∷ ids))) (sym all) (within-append d (number_in ls c) (sum_by (number_in ls) ids) (scaled (2 ^ i) (poly_in polys c)) (bit_sum_of (i + 1) polys ids) first rest)

  product_within : (ids : List ℕ) → All (IsFieldAt before p) ids → IsWithin (sum_by (number_in ds) ids) (product_by (number_in ls) ids) (product_of polys ids)
  product_within [] are = record { low = omega arith; few = omega arith }
  product_within (c ∷ ids) are =
      subst (λ n. IsWithin (sum_by (number_in ds) (c ∷ ids)) n (product_of polys (c ∷ ids))) (sym (product_by-cons (number_in ls) c ids))
      (subst (λ d. IsWithin d (number_in ls c * product_by (number_in ls) ids) (product_of polys (c ∷ ids))) (sym (sum_by-cons (number_in ds) c ids))
      (within-product (number_in ds c) (number_in ls c) (sum_by (number_in ds) ids) (product_by (number_in ls) ids) (poly_in polys c) (product_of polys ids) (within c (All-head (IsFieldAt before p) c ids are)) (product_within ids (All-tail (IsFieldAt before p) c ids are))))

  node_within : (n : Node) → Fits before n → sort_of_node (sorts before) n ≡ sort.Field p → IsWithin (degree_of_node ds n) (length_of_node ls n) (expanded p id polys n)
  node_within (FieldConst k q) fits is = record { low = omega arith; few = omega arith }
  node_within (Num n q) fits is = record { low = omega arith; few = omega arith }
  node_within (IteField c a b) fits is = record { low = omega arith; few = omega arith }
  node_within (Add ids) fits is = sum_within ids (of_order before p ids fits (first_order before p ids fits is))
  node_within (Mul ids) fits is = product_within ids (of_order before p ids fits (first_order before p ids fits is))
  node_within (Neg a) fits is = within-scaled (number_in ds a) (number_in ls a) (p - 1) (poly_in polys a) (within a (of_order before p (a ∷ []) fits (first_order before p (a ∷ []) fits is) 0 0 (omega arith)))
  node_within (Bitsum ids) fits is = bits_within 0 ids (of_order before p ids fits (first_order before p ids fits is))
  node_within _ fits is = absurd (boolean_field p is)

-- ---- all nodes

degree_at-is : (ns : List Node) (id : ℕ) (n : Node) → IsNodeAt ns id n → degree_at ns id ≡ degree_of_node (take id (degrees ns)) n
unfolding degrees
degree_at-is ns id n at = get_or-in_turn degree_of_node ns id n 0 at

length_at-is : (ns : List Node) (id : ℕ) (n : Node) → IsNodeAt ns id n → length_at ns id ≡ length_of_node (take id (lengths ns)) n
unfolding lengths
length_at-is ns id n at = get_or-in_turn length_of_node ns id n 0 at

bounded_below : (k : ℕ) (ns : List Node) (p id : ℕ) → id < k → IsTable ns → IsFieldAt ns p id → IsWithin (degree_at ns id) (length_at ns id) (poly_at ns id)
bounded_below zero ns p id below table is = absurd (omega arith)
bounded_below (suc k) ns p id below table is =
    let n : Node = get_or ns id True in
    let at : IsNodeAt ns id n = IsNodeAt-get_or ns id True is.0 in
    let before : List Node = take id ns in
    let polys : List Terms = take id (node_polys ns) in
    let ds : List ℕ = take id (degrees ns) in
    let ls : List ℕ = take id (lengths ns) in
    let short : length before ≡ id = omega (arith, length-take id ns, is.0) in
    let order : order_at ns id ≡ p = ap order_of_sort is.1 in
    let within = λ (c : ℕ) (there : IsFieldAt before p c).
    let early : c < id = omega (arith, there.0, short) in
    let inside : IsFieldAt ns p c = (omega (arith, is.0), sym (sort_at-take id ns c early) ∙ there.1) in
    let is_within : IsWithin (degree_at ns c) (length_at ns c) (poly_at ns c) = bounded_below k ns p c (omega arith) table inside in
    subst (λ ts. IsWithin (number_in ds c) (number_in ls c) ts) (sym (get_or-take id (node_polys ns) c [] early))
    (subst (λ m. IsWithin (number_in ds c) m (poly_at ns c)) (sym (get_or-take id (lengths ns) c 0 early))
    (subst (λ d. IsWithin d (length_at ns c) (poly_at ns c)) (sym (get_or-take id (degrees ns) c 0 early)) is_within)) in
    let here : IsWithin (degree_of_node ds n) (length_of_node ls n) (poly_of_node p id polys n) =
    within-normal (degree_of_node ds n) (length_of_node ls n) p (expanded p id polys n) (node_within before polys ds ls p id within n (table.well_formed.fits id n at) (sym (sort_at-is ns id n at) ∙ is.1))
    in subst (λ ts. IsWithin (degree_at ns id) (length_at ns id) ts) (sym (poly_at-is ns id n at ∙ ap (λ q. poly_of_node q id polys n) order))
    (subst (λ m. IsWithin (degree_at ns id) m (poly_of_node p id polys n)) (sym (length_at-is ns id n at))
    (subst (λ d. IsWithin d (length_of_node ls n) (poly_of_node p id polys n)) (sym (degree_at-is ns id n at)) here))

pub poly_at-bounded : (ns : List Node) (p id : ℕ) → IsTable ns → IsFieldAt ns p id → (degree_of (poly_at ns id) ≤ degree_at ns id) × (length (poly_at ns id) ≤ length_at ns id)
poly_at-bounded ns p id table is =
    let all : IsWithin (degree_at ns id) (length_at ns id) (poly_at ns id) = bounded_below (suc id) ns p id (omega arith) table is in
    (all.low, all.few)
