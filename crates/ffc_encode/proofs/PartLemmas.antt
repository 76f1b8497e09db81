-- The parts of a node within the limits are field nodes within the limits, and so are the products of some of its factors.
use Rattle.std.proofs.Common.{Bool, true, false, cond, map, ◌≡◌, ℕ, zero, suc, ◌+◌, ◌*◌, ◌<◌, ◌≤◌, List, [], ◌∷◌, ◌++◌, length, take, get_or, sum_by, All, Option, Some, None, IfSome, Result, Ok, Err, IfOk, OnOk, refl, sym, ap, ap₂, ◌∙◌, subst, arith, get_or-take, mul_assoc, one-mul}
use Rattle.std.proofs.Math.Nat.{mul-le-mul}
use Rattle.std.proofs.lemmas.List.Elements.{All-head, All-tail, All-append, All-map, All-nil}
use Rattle.std.specs.List.Sorted.{IsPermutation}
use Rattle.std.specs.declared.cmp.Ordering.{Ordering}
use Rattle.std.specs.declared.cmp.Ordering.TheVariants.{Less, Equal, Greater}
use Rattle.std.specs.Ordering.{nat_cmp, is_eq, MatchOrdering}
use Rattle.std.specs.BTreeMap.{BTreeMap, get, is_at}
use Rattle.std.proofs.lemmas.Cmp.{ranked}
use Rattle.std.proofs.lemmas.List.Sorted.{All-permutation}
use Rattle.std.proofs.lemmas.List.Sums.{sum_by-cons, sum_by-append}
use Rattle.ffc_ring.specs.Polynomial.{Terms, SamePolynomial}
use Rattle.ffc_term.specs.declared.node.Node.{Node}
use Rattle.ffc_term.specs.declared.node.Node.TheVariants.{True, FieldConst, Num, IteField, Add, Mul, Neg, Bitsum}
use Rattle.ffc_term.specs.declared.node.Sort.TheVariants as sort
use Rattle.ffc_term.specs.Nodes.{IsNodeAt, node_at, sorts, sort_of_node}
use Rattle.ffc_term.specs.Values.{product_by}
use Rattle.ffc_term.specs.Tables.{Fits, IsFieldAt, IsTable}
use Rattle.ffc_term.specs.Measuring.{number_in, length_of_node, degrees, lengths, degree_at, length_at}
use Rattle.ffc_term.proofs.InTurn.{get_or-in_turn}
use Rattle.ffc_term.proofs.NodeLemmas.{IsNodeAt-get_or}
use Rattle.ffc_term.proofs.TableLemmas.{sort_at-is}
use Rattle.ffc_trees.specs.NodePolynomials.{product_of, node_polys, poly_at}
use Rattle.ffc_trees.proofs.NodePolyLemmas.{boolean_field, product_by-cons}
use Rattle.ffc_trees.proofs.BoundLemmas.{poly_at-bounded}
use Rattle.ffc_poly.specs.Ordered.{AreWithin}
use Rattle.ffc_trees.specs.Parts.{parts_of}
use Rattle.ffc_trees.proofs.PartLemmas.{parts_are, sum_at, degree_at-is, part_low}
use Rattle.ffc_encode.specs.Parts.{IsWithin, AreFactors, AreKnown}
use Rattle.ffc_encode.proofs.LimitLemmas.{within_degree, within-product, length-product}

-- ---- measures

length_at-is : (ns : List Node) (id : ℕ) (n : Node) → IsNodeAt ns id n → length_at ns id ≡ length_of_node (take id (lengths ns)) n
unfolding lengths
length_at-is ns id n at = get_or-in_turn length_of_node ns id n 0 at

-- ---- numbers of which each is at least 1

one_by_one : (a b : ℕ) → 1 ≤ a → 1 ≤ b → (1 ≤ a * b) × (a ≤ a * b) × (b ≤ a * b)
one_by_one a b h k =
    let low : 1 * 1 ≤ a * b = mul-le-mul h k in
    let left : a * 1 ≤ a * b = mul-le-mul (let same : a ≤ a = omega arith in same) k in
    let right : 1 * b ≤ a * b = mul-le-mul h (let same : b ≤ b = omega arith in same) in
    (omega arith, omega arith, omega arith)

product_some : (f : ℕ → ℕ) (ids : List ℕ) → All (λ c. 1 ≤ f c) ids → 1 ≤ product_by f ids
product_some f [] are = omega arith
product_some f (c ∷ ids) are =
    omega (arith, product_by-cons f c ids, (one_by_one (f c) (product_by f ids) (All-head (λ k. 1 ≤ f k) c ids are) (product_some f ids (All-tail (λ k. 1 ≤ f k) c ids are))).0)

product_at : (f : ℕ → ℕ) (ids : List ℕ) → All (λ c. 1 ≤ f c) ids → (i d : ℕ) → i < length ids → f (get_or ids i d) ≤ product_by f ids
product_at f [] are i d h = absurd (omega arith)
product_at f (c ∷ ids) are zero d h =
    omega (arith, product_by-cons f c ids, (one_by_one (f c) (product_by f ids) (All-head (λ k. 1 ≤ f k) c ids are) (product_some f ids (All-tail (λ k. 1 ≤ f k) c ids are))).1)
product_at f (c ∷ ids) are (suc i) d h =
    let rest : All (λ k. 1 ≤ f k) ids = All-tail (λ k. 1 ≤ f k) c ids are in
    omega (arith, product_at f ids rest i d (omega arith), product_by-cons f c ids, (one_by_one (f c) (product_by f ids) (All-head (λ k. 1 ≤ f k) c ids are) (product_some f ids rest)).2)

product_by-append : (f : ℕ → ℕ) (a b : List ℕ) → product_by f (a ++ b) ≡ product_by f a * product_by f b
product_by-append f [] b = sym (one-mul (product_by f b))
product_by-append f (c ∷ a) b =
    product_by-cons f c (a ++ b) ∙ ap (λ n. f c * n) (product_by-append f a b) ∙ sym (mul_assoc (f c) (product_by f a) (product_by f b))
    ∙ ap (λ n. n * product_by f b) (sym (product_by-cons f c a))

-- ---- each field node has a length of at least 1

node_some : (before : List Node) (ls : List ℕ) (p : ℕ) (n : Node) → Fits before n → sort_of_node (sorts before) n ≡ sort.Field p → All (λ c. 1 ≤ number_in ls c) (parts_of n) → 1 ≤ length_of_node ls n
node_some before ls p (FieldConst k q) fit srt are = omega arith
node_some before ls p (Num k q) fit srt are = omega arith
node_some before ls p (IteField c a b) fit srt are = omega arith
node_some before ls p (Add ids) fit srt are = omega (arith, sum_at (number_in ls) ids 0 0 fit.some, are 0 0 fit.some)
node_some before ls p (Mul ids) fit srt are = product_some (number_in ls) ids are
node_some before ls p (Neg a) fit srt are = are 0 0 (omega arith)
node_some before ls p (Bitsum ids) fit srt are = omega (arith, sum_at (number_in ls) ids 0 0 fit.some, are 0 0 fit.some)
node_some before ls p _ fit srt are = absurd (boolean_field p srt)

length_some_below : (k : ℕ) (ns : List Node) (p id : ℕ) → id < k → IsTable ns → IsFieldAt ns p id → 1 ≤ length_at ns id
length_some_below zero ns p id below table is = absurd (omega arith)
length_some_below (suc k) ns p id below table is =
    let n : Node = get_or ns id True in
    let at : IsNodeAt ns id n = IsNodeAt-get_or ns id True is.0 in
    let parts = parts_are ns p id table is n at in
    let some : All (λ c. 1 ≤ number_in (take id (lengths ns)) c) (parts_of n) = λ i d inside.
    let there = parts i d inside in
    let c : ℕ = get_or (parts_of n) i d in
    omega (arith, length_some_below k ns p c (omega (arith, there.1, below)) table there.0, get_or-take id (lengths ns) c 0 there.1) in
    omega (arith, length_at-is ns id n at, node_some (take id ns) (take id (lengths ns)) p n (table.well_formed.fits id n at) (sym (sort_at-is ns id n at) ∙ is.1) some)

pub length_some : (ns : List Node) (p id : ℕ) → IsTable ns → IsFieldAt ns p id → 1 ≤ length_at ns id
length_some ns p id table is = length_some_below (suc id) ns p id (omega arith) table is

-- ---- parts within the limits

part_short : (ls : List ℕ) (n : Node) → All (λ c. 1 ≤ number_in ls c) (parts_of n) → (i d : ℕ) → i < length (parts_of n) → number_in ls (get_or (parts_of n) i d) ≤ length_of_node ls n
part_short ls (Add ids) are i d h = sum_at (number_in ls) ids i d h
part_short ls (Mul ids) are i d h = product_at (number_in ls) ids are i d h
part_short ls (Neg a) are zero d h = omega arith
part_short ls (Neg a) are (suc i) d h = absurd (omega arith)
part_short ls (Bitsum ids) are i d h = sum_at (number_in ls) ids i d h
part_short ls _ are i d h = absurd (omega arith)

module _ (ns : List Node) (p id : ℕ) (table : IsTable ns) (n : Node) (at : IsNodeAt ns id n) (within : IsWithin ns p id) where
  lengths_some : All (λ c. 1 ≤ number_in (take id (lengths ns)) c) (parts_of n)
  lengths_some i d inside =
      let there = parts_are ns p id table within.field n at i d inside in
      let c : ℕ = get_or (parts_of n) i d in
      omega (arith, length_some ns p c table there.0, get_or-take id (lengths ns) c 0 there.1)

  pub parts_within : All (IsWithin ns p) (parts_of n)
  parts_within i d inside =
      let there = parts_are ns p id table within.field n at i d inside in
      let c : ℕ = get_or (parts_of n) i d in
      record {
        field = there.0;
        low = omega (arith, within.low, degree_at-is ns id n at, part_low (take id (degrees ns)) n i d inside, get_or-take id (degrees ns) c 0 there.1);
        short = omega (arith, within.short, length_at-is ns id n at, part_short (take id (lengths ns)) n lengths_some i d inside, get_or-take id (lengths ns) c 0 there.1);
      }

-- ---- factors

sums_alike : (f g : ℕ → ℕ) (ids : List ℕ) → All (λ c. f c ≡ g c) ids → sum_by f ids ≡ sum_by g ids
sums_alike f g [] are = refl
sums_alike f g (c ∷ ids) are =
    sum_by-cons f c ids ∙ ap₂ (λ a b. a + b) (All-head (λ k. f k ≡ g k) c ids are) (sums_alike f g ids (All-tail (λ k. f k ≡ g k) c ids are)) ∙ sym (sum_by-cons g c ids)

products_alike : (f g : ℕ → ℕ) (ids : List ℕ) → All (λ c. f c ≡ g c) ids → product_by f ids ≡ product_by g ids
products_alike f g [] are = refl
products_alike f g (c ∷ ids) are =
    product_by-cons f c ids ∙ ap₂ (λ a b. a * b) (All-head (λ k. f k ≡ g k) c ids are) (products_alike f g ids (All-tail (λ k. f k ≡ g k) c ids are)) ∙ sym (product_by-cons g c ids)

pub factors_are : (ns : List Node) (p id : ℕ) (ids : List ℕ) → IsTable ns → IsNodeAt ns id (Mul ids) → IsWithin ns p id → AreFactors ns p ids
factors_are ns p id ids table at within =
    let parts = parts_are ns p id table within.field (Mul ids) at in
    let ds : All (λ c. number_in (take id (degrees ns)) c ≡ degree_at ns c) ids = λ i d inside. get_or-take id (degrees ns) (get_or ids i d) 0 (parts i d inside).1 in
    let ls : All (λ c. number_in (take id (lengths ns)) c ≡ length_at ns c) ids = λ i d inside. get_or-take id (lengths ns) (get_or ids i d) 0 (parts i d inside).1 in
    record {
      fields = λ i d inside. (parts i d inside).0;
      low = omega (arith, within.low, degree_at-is ns id (Mul ids) at, sums_alike (number_in (take id (degrees ns))) (degree_at ns) ids ds);
      short = omega (arith, within.short, length_at-is ns id (Mul ids) at, products_alike (number_in (take id (lengths ns))) (length_at ns) ids ls);
    }

module _ (ns : List Node) (p : ℕ) (table : IsTable ns) (front back ids : List ℕ) (whole : front ++ back ≡ ids) (are : AreFactors ns p ids) (first : All (IsFieldAt ns p) front) (second : All (IsFieldAt ns p) back) where
  lengths_of : (cs : List ℕ) → All (IsFieldAt ns p) cs → All (λ c. 1 ≤ length_at ns c) cs
  lengths_of cs fields i d inside = length_some ns p (get_or cs i d) table (fields i d inside)

  pub degrees_split : sum_by (degree_at ns) front + sum_by (degree_at ns) back ≤ 255
  degrees_split = omega (arith, are.low, sum_by-append (degree_at ns) front back, ap (sum_by (degree_at ns)) whole)

  pub lengths_split : product_by (length_at ns) front * product_by (length_at ns) back ≤ 65536
  lengths_split = omega (arith, are.short, product_by-append (length_at ns) front back, ap (product_by (length_at ns)) whole)

  both_some : (1 ≤ product_by (length_at ns) front * product_by (length_at ns) back) × (product_by (length_at ns) front ≤ product_by (length_at ns) front * product_by (length_at ns) back) × (product_by (length_at ns) back ≤ product_by (length_at ns) front * product_by (length_at ns) back)
  both_some =
      one_by_one (product_by (length_at ns) front) (product_by (length_at ns) back) (product_some (length_at ns) front (lengths_of front first)) (product_some (length_at ns) back (lengths_of back second))

  pub front_factors : AreFactors ns p front
  front_factors = record { fields = first; low = omega (arith, degrees_split); short = omega (arith, lengths_split, both_some.1) }

  pub back_factors : AreFactors ns p back
  back_factors = record { fields = second; low = omega (arith, degrees_split); short = omega (arith, lengths_split, both_some.2) }

-- the polynomial of a product is within its factors' measures
module _ (ns : List Node) (p : ℕ) (table : IsTable ns) where
  pub product_low : (ids : List ℕ) → All (IsFieldAt ns p) ids → AreWithin (sum_by (degree_at ns) ids) (product_of (node_polys ns) ids)
  product_low [] are = (omega arith, tt)
  product_low (c ∷ ids) are =
      let bound = poly_at-bounded ns p c table (All-head (IsFieldAt ns p) c ids are) in
      subst (λ d. AreWithin d (product_of (node_polys ns) (c ∷ ids))) (sym (sum_by-cons (degree_at ns) c ids))
      (within-product (degree_at ns c) (sum_by (degree_at ns) ids) (poly_at ns c) (product_of (node_polys ns) ids) (within_degree (degree_at ns c) (poly_at ns c) bound.0) (product_low ids (All-tail (IsFieldAt ns p) c ids are)))

  pub product_short : (ids : List ℕ) → All (IsFieldAt ns p) ids → length (product_of (node_polys ns) ids) ≤ product_by (length_at ns) ids
  product_short [] are = omega arith
  product_short (c ∷ ids) are =
      let bound = poly_at-bounded ns p c table (All-head (IsFieldAt ns p) c ids are) in
      let rest : length (product_of (node_polys ns) ids) ≤ product_by (length_at ns) ids = product_short ids (All-tail (IsFieldAt ns p) c ids are) in
      omega (arith, length-product (poly_at ns c) (product_of (node_polys ns) ids), product_by-cons (length_at ns) c ids, mul-le-mul bound.1 rest)

-- ---- answers that may be there

pub at_some : {A : Type 0} (P : A → Type 0) (o : Option A) (x : A) → o ≡ Some x → IfSome o P → P x
at_some P o x e h = subst (λ q. IfSome q P) e h

pub if_some : {A E : Type 0} (P R : A → Type 0) (r : Result (Option A) E) → ((x : A) → P x → R x) → IfOk r (λ o. IfSome o P) → IfOk r (λ o. IfSome o R)
if_some P R (Ok None) f p = tt
if_some P R (Ok (Some x)) f p = f x p
if_some P R (Err e) f p = tt

-- ---- results

pub on_ok : {T E : Type 0} (r : Result T E) (P Q : Type 0) → (P → Q) → OnOk r P → OnOk r Q
on_ok (Ok x) P Q f h = f h
on_ok (Err e) P Q f h = tt

pub on_ok_always : {T E : Type 0} (r : Result T E) (P : Type 0) → P → OnOk r P
on_ok_always (Ok x) P h = h
on_ok_always (Err e) P h = tt

-- ---- polynomials that are kept

same_by : (x y : ℕ) (r : Ordering) → MatchOrdering r (x < y) (x ≡ y) (y < x) → is_eq r ≡ true → x ≡ y
same_by x y Less h e = cc
same_by x y Equal h e = h
same_by x y Greater h e = cc

-- one more polynomial is kept
pub keeps_known : (p : ℕ) (ns : List Node) (old new : BTreeMap ℕ Terms) (id : ℕ) (f : Terms) → AreKnown p ns old → SamePolynomial p f (poly_at ns id) → ((q : ℕ) → get nat_cmp new q ≡ cond (is_at (nat_cmp id) q) (Some f) (get nat_cmp old q)) → AreKnown p ns new
keeps_known p ns old new id f are same is q =
    subst (λ (o : Option Terms). IfSome o (λ g. SamePolynomial p g (poly_at ns q))) (sym (is q)) (by_case (is_at (nat_cmp id) q) refl)
  where
    by_case : (b : Bool) → is_at (nat_cmp id) q ≡ b → IfSome (cond b (Some f) (get nat_cmp old q)) (λ g. SamePolynomial p g (poly_at ns q))
    by_case true e = subst (λ k. SamePolynomial p f (poly_at ns k)) (same_by id q (nat_cmp id q) (ranked id q (nat_cmp id q) refl) e) same
    by_case false e = are q
