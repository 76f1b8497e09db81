-- Polynomials of nodes from those of their parts.
use Rattle.std.proofs.Common.{◌≡◌, ℕ, zero, suc, ◌+◌, ◌-◌, ◌*◌, ◌^◌, ◌%◌, ◌<◌, ◌≤◌, List, [], ◌∷◌, ◌++◌, length, take, get_or, sum_by, All, Option, Some, None, IfSome, Result, Ok, Err, IfOk, OnOk, refl, sym, ap, ap₂, ◌∙◌, subst, arith, length-take, get_or-take, append_assoc, append-nil, one-mul}
use Rattle.std.proofs.Math.Nat.{pow-suc, pow-zero, mod-mod}
use Rattle.std.proofs.lemmas.List.Elements.{All-head, All-tail}
use Rattle.std.proofs.lemmas.List.Sums.{sum_by-cons}
use Rattle.std.specs.Ordering.{nat_cmp}
use Rattle.std.specs.BTreeMap.{BTreeMap, get}
use Rattle.ffc_ring.specs.Monomial.{Monomial, degree}
use Rattle.ffc_ring.specs.Polynomial.{Terms, SamePolynomial, written, term_product, product, scaled, difference}
use Rattle.ffc_ring.proofs.MonomialLemmas.{degree-mono_mul}
use Rattle.ffc_ring.proofs.PolynomialLemmas.{written-scaled, times_alike, same_sums, same_term_products}
use Rattle.ffc_term.specs.declared.node.Node.{Node}
use Rattle.ffc_term.specs.declared.node.Node.TheVariants.{Eq, Mul}
use Rattle.ffc_term.specs.Nodes.{IsNodeAt, order_at, order_of_sort}
use Rattle.ffc_term.specs.Tables.{AreOfOneField, IsFieldAt, IsTable}
use Rattle.ffc_term.specs.Measuring.{number_in, degrees, degree_at}
use Rattle.std.proofs.lemmas.Option.{slice_get_within}
use Rattle.ffc_term.proofs.TableLemmas.{sort_at-take}
use Rattle.ffc_trees.specs.Normal.{IsNormal, degree_of, normal}
use Rattle.ffc_trees.specs.NodePolynomials.{poly_in, sum_of, product_of, bit_sum_of, expanded, poly_of_node, node_polys, poly_at}
use Rattle.ffc_trees.specs.Same.{IsSameLine}
use Rattle.ffc_trees.proofs.NormalLemmas.{normal_same, normal_is_normal}
use Rattle.ffc_trees.proofs.NodePolyLemmas.{poly_at-is, first_order, of_order}
use Rattle.ffc_trees.proofs.BoundLemmas.{poly_at-bounded}
use Rattle.ffc_trees.proofs.SameLemmas.{one_degree}
use Rattle.ffc_trees.specs.Parts.{parts_of}
use Rattle.ffc_trees.proofs.PartLemmas.{parts_are, degree_at-is, part_low}
use Rattle.ffc_trees.proofs.ProductLemmas.{poly_before, product_before}
use Rattle.ffc_ckpoly.specs.Parts.{weighted, IsWithin, AreKnown}
use Rattle.ffc_ckpoly.specs.Multiples.{this_or}
use Rattle.ffc_ckpoly.specs.Opening.{part_at}
use Rattle.ffc_ckpoly.proofs.DegreeLemmas.{AreWithin, within-append}

-- ---- weights

products_mod : (p a b c d : ℕ) → a % p ≡ b % p → c % p ≡ d % p → (a * c) % p ≡ (b * d) % p
products_mod p a b c d e f =
    times_alike p a b c e
    ∙ ap (λ k. k % p) (let turned : b * c ≡ c * b = omega arith in turned) ∙ times_alike p c d b f
    ∙ ap (λ k. k % p) (let turned : d * b ≡ b * d = omega arith in turned)

pub scaled_alike : (p a b : ℕ) (f : Terms) → a % p ≡ b % p → SamePolynomial p (scaled a f) (scaled b f)
scaled_alike p a b f e m = ap (λ k. k % p) (written-scaled a f m) ∙ times_alike p a b (written f m) e ∙ ap (λ k. k % p) (sym (written-scaled b f m))

-- weights that are the same modulo p
pub weights_alike : (p a r b s : ℕ) (polys : List Terms) (ids : List ℕ) → a % p ≡ b % p → r % p ≡ s % p → SamePolynomial p (weighted a r polys ids) (weighted b s polys ids)
weights_alike p a r b s polys [] e f = λ m. refl
weights_alike p a r b s polys (id ∷ ids) e f =
    same_sums p (scaled a (poly_in polys id)) (scaled b (poly_in polys id)) (weighted (a * r) r polys ids) (weighted (b * s) s polys ids)
    (scaled_alike p a b (poly_in polys id) e) (weights_alike p (a * r) r (b * s) s polys ids (products_mod p a b r s e f) f)

-- one part more is added to what is summed
pub part_added : (p w v r : ℕ) (polys : List Terms) (id : ℕ) (ids : List ℕ) (new old f all : Terms) → v % p ≡ w * r % p
    → SamePolynomial p new (old ++ scaled w f) → SamePolynomial p f (poly_in polys id) → SamePolynomial p (old ++ weighted w r polys (id ∷ ids)) all → SamePolynomial p (new ++ weighted v r polys ids) all
part_added p w v r polys id ids new old f all e h g so_far m =
    let g_all = poly_in polys id in
    let rest = weighted (w * r) r polys ids in
    same_sums p new (old ++ scaled w f) (weighted v r polys ids) rest h (weights_alike p v r (w * r) r polys ids e refl) m
    ∙ same_sums p (old ++ scaled w f) (old ++ scaled w g_all) rest rest (same_sums p old old (scaled w f) (scaled w g_all) (λ n. refl) (same_term_products p w [] f g_all g)) (λ n. refl) m
    ∙ ap (λ ts. written ts m % p) (append_assoc old (scaled w g_all) rest)
    ∙ so_far m

-- ---- sums as they are written

abbrev AreBefore : ℕ → List ℕ → Type 0
AreBefore id ids = All (λ c. c < id) ids

module _ (ns : List Node) (id : ℕ) where
  abbrev before : List Terms
  before = take id (node_polys ns)

  sum_is : (p : ℕ) (ids : List ℕ) → AreBefore id ids → SamePolynomial p (weighted 1 1 (node_polys ns) ids) (sum_of before ids)
  sum_is p [] are m = refl
  sum_is p (c ∷ ids) are m =
      let f = poly_in (node_polys ns) c in
      let g = poly_in before c in
      let same : SamePolynomial p (scaled 1 f) g = λ n. ap (λ k. k % p) (written-scaled 1 f n ∙ one-mul (written f n)) ∙ ap (λ ts. written ts n % p) (sym (poly_before ns id c (All-head (λ k. k < id) c ids are))) in
      same_sums p (scaled 1 f) g (weighted (1 * 1) 1 (node_polys ns) ids) (sum_of before ids) same (sum_is p ids (All-tail (λ k. k < id) c ids are)) m

  bits_are : (i : ℕ) (ids : List ℕ) → AreBefore id ids → weighted (2 ^ i) 2 (node_polys ns) ids ≡ bit_sum_of i before ids
  bits_are i [] are = refl
  bits_are i (c ∷ ids) are =
      ap₂ (λ (f rest : Terms). scaled (2 ^ i) f ++ rest) (sym (poly_before ns id c (All-head (λ k. k < id) c ids are)))
      (ap (λ w. weighted w 2 (node_polys ns) ids) (sym (pow-suc 2 i) ∙ ap (λ n. 2 ^ n) (let same : suc i ≡ i + 1 = omega arith in same)) ∙ bits_are (i + 1) ids (All-tail (λ k. k < id) c ids are))

  pub as_sum : (p a r : ℕ) (ids : List ℕ) (t : Terms) → AreBefore id ids → a % p ≡ 1 % p → r % p ≡ 1 % p → SamePolynomial p t (weighted a r (node_polys ns) ids) → SamePolynomial p t (sum_of before ids)
  as_sum p a r ids t are e f same m = same m ∙ weights_alike p a r 1 1 (node_polys ns) ids e f m ∙ sum_is p ids are m

  pub as_bits : (p a r : ℕ) (ids : List ℕ) (t : Terms) → AreBefore id ids → a % p ≡ 1 % p → r % p ≡ 2 % p → SamePolynomial p t (weighted a r (node_polys ns) ids) → SamePolynomial p t (bit_sum_of 0 before ids)
  as_bits p a r ids t are e f same m =
      same m ∙ weights_alike p a r (2 ^ 0) 2 (node_polys ns) ids (e ∙ ap (λ k. k % p) (sym (pow-zero 2))) f m
      ∙ ap (λ ts. written ts m % p) (bits_are 0 ids are)

  pub as_negation : (p a r c : ℕ) (t : Terms) → c < id → a ≡ p - 1 → SamePolynomial p t (weighted a r (node_polys ns) (c ∷ [])) → SamePolynomial p t (scaled (p - 1) (poly_in before c))
  as_negation p a r c t are e same m =
      same m ∙ ap (λ ts. written ts m % p) (append-nil (scaled a (poly_in (node_polys ns) c)) ∙ ap₂ scaled e (sym (poly_before ns id c are)))

  pub as_product : (p : ℕ) (ids : List ℕ) (t : Terms) → AreBefore id ids → SamePolynomial p t (product_of (node_polys ns) ids) → SamePolynomial p t (product_of before ids)
  as_product p ids t are same m = same m ∙ ap (λ ts. written ts m % p) (product_before ns id ids are)

-- ---- the polynomial of a node

pub node_line : (ns : List Node) (p id : ℕ) (n : Node) (r : Terms) → 0 < p → IsFieldAt ns p id → IsNodeAt ns id n → IsNormal p r → SamePolynomial p r (expanded p id (take id (node_polys ns)) n) → IsSameLine p r (poly_at ns id)
node_line ns p id n r some is at normal_r same =
    let made = expanded p id (take id (node_polys ns)) n in
    let order : order_at ns id ≡ p = ap order_of_sort is.1 in
    let line : IsSameLine p r (normal p made) = record { one = normal_r; other = normal_is_normal p made some; same = λ m. same m ∙ sym (normal_same p made m) } in
    subst (IsSameLine p r) (sym (poly_at-is ns id n at ∙ ap (λ q. poly_of_node q id (take id (node_polys ns)) n) order)) line

-- the parts of a node within the limit are
pub parts_within : (ns : List Node) (p id : ℕ) (n : Node) → IsTable ns → IsNodeAt ns id n → IsWithin ns p id → All (IsWithin ns p) (parts_of n)
parts_within ns p id n table at within = λ k d inside.
    let there = parts_are ns p id table within.field n at k d inside in
    let c : ℕ = get_or (parts_of n) k d in
    let same : number_in (take id (degrees ns)) c ≡ degree_at ns c = get_or-take id (degrees ns) c 0 there.1 in
    record { field = there.0; low = omega (arith, within.low, degree_at-is ns id n at, part_low (take id (degrees ns)) n k d inside, same) }

pub sums_alike : {X : Type 0} (f g : X → ℕ) (xs : List X) → ((i : ℕ) (d : X) → i < length xs → f (get_or xs i d) ≡ g (get_or xs i d)) → sum_by f xs ≡ sum_by g xs
sums_alike f g [] h = refl
sums_alike f g (x ∷ xs) h =
    sum_by-cons f x xs ∙ ap₂ (λ a b. a + b) (h 0 x (omega arith)) (sums_alike f g xs (λ i d inside. h (suc i) d (omega (arith, inside)))) ∙ sym (sum_by-cons g x xs)

-- the degrees of factors
pub factors_low : (ns : List Node) (p id : ℕ) (ids : List ℕ) → IsTable ns → IsNodeAt ns id (Mul ids) → IsWithin ns p id → sum_by (degree_at ns) ids ≤ 255
factors_low ns p id ids table at within =
    let parts = parts_are ns p id table within.field (Mul ids) at in
    let same : sum_by (number_in (take id (degrees ns))) ids ≡ sum_by (degree_at ns) ids =
    sums_alike (number_in (take id (degrees ns))) (degree_at ns) ids (λ i d inside. get_or-take id (degrees ns) (get_or ids i d) 0 (parts i d inside).1) in
    omega (arith, within.low, degree_at-is ns id (Mul ids) at, same)

-- the degree of a product
within-term_product : (d e c : ℕ) (m : Monomial) (ts : Terms) → degree m ≤ d → AreWithin e ts → AreWithin (d + e) (term_product c m ts)
within-term_product d e c m [] h w = tt
within-term_product d e c m (t ∷ ts) h w = (omega (arith, degree-mono_mul m t.1, h, w.0), within-term_product d e c m ts h w.1)

pub within-product : (d e : ℕ) (a b : Terms) → AreWithin d a → AreWithin e b → AreWithin (d + e) (product a b)
within-product d e [] b w v = tt
within-product d e (t ∷ a) b w v = within-append (d + e) (term_product t.0 t.1 b) (product a b) (within-term_product d e t.0 t.1 b w.0 v) (within-product d e a b w.1 v)

-- ---- what holds of an answer that is known

pub at_some : {A : Type 0} (P : A → Type 0) (o : Option A) (x : A) → o ≡ Some x → IfSome o P → P x
at_some P o x e h = subst (λ q. IfSome q P) e h

pub reduced : (p c k : ℕ) → k ≡ c % p → k % p ≡ c % p
reduced p c k e = ap (λ j. j % p) e ∙ mod-mod c p

pub all_one : (P : ℕ → Type 0) (x : ℕ) → P x → All P (x ∷ [])
all_one P x h zero d inside = h
all_one P x h (suc i) d inside = absurd (omega arith)

pub difference_alike : (p : ℕ) (a b c d : Terms) → SamePolynomial p a c → SamePolynomial p b d → SamePolynomial p (difference p a b) (difference p c d)
difference_alike p a b c d f g = same_sums p a c (scaled (p - 1) b) (scaled (p - 1) d) f (same_term_products p (p - 1) [] b d g)

pub known_low : (ns : List Node) (p id : ℕ) (f : Terms) → 0 < p → IsTable ns → IsWithin ns p id → IsSameLine p f (poly_at ns id) → degree_of f ≤ 255
known_low ns p id f some table within line = omega (arith, one_degree p f (poly_at ns id) some line, (poly_at-bounded ns p id table within.field).0, within.low)

pub if_both : {T E : Type 0} (P Q R : T → Type 0) (r : Result T E) → ((x : T) → P x → Q x → R x) → IfOk r P → IfOk r Q → IfOk r R
if_both P Q R (Ok x) f p q = f x p q
if_both P Q R (Err e) f p q = tt

pub on_ok_always : {T E : Type 0} (r : Result T E) (P : Type 0) → P → OnOk r P
on_ok_always (Ok x) P h = h
on_ok_always (Err e) P h = tt

-- ---- polynomials that are kept, or were made besides

pub part_is : (p : ℕ) (ns : List Node) (known made : BTreeMap ℕ Terms) (id : ℕ) → AreKnown p ns known → AreKnown p ns made → IfSome (part_at known made id) (λ f. IsSameLine p f (poly_at ns id))
part_is p ns known made id are are_made = by_case (get nat_cmp known id) (are id)
  where
    by_case : (o : Option Terms) → IfSome o (λ f. IsSameLine p f (poly_at ns id)) → IfSome (this_or o (get nat_cmp made id)) (λ f. IsSameLine p f (poly_at ns id))
    by_case None h = are_made id
    by_case (Some f) h = h

-- the polynomial that was found is that of the node
pub found_line : (p : ℕ) (ns : List Node) (known made : BTreeMap ℕ Terms) (id : ℕ) (f : Terms) → AreKnown p ns known → AreKnown p ns made → Some f ≡ part_at known made id → IsSameLine p f (poly_at ns id)
found_line p ns known made id f are are_made e = at_some (λ k. IsSameLine p k (poly_at ns id)) (part_at known made id) f (sym e) (part_is p ns known made id are are_made)

-- ---- the sides of an equality

pub sides_within : (ns : List Node) (p e s t : ℕ) → IsTable ns → IsNodeAt ns e (Eq s t) → IsFieldAt ns p s → degree_at ns e ≤ 255 → IsWithin ns p s × IsWithin ns p t
sides_within ns p e s t table at is low =
    let inside : e < length ns = slice_get_within ns e (Eq s t) at in
    let before : List Node = take e ns in
    let ds : List ℕ = take e (degrees ns) in
    let short : length before ≡ e = omega (arith, length-take e ns, inside) in
    let fits : AreOfOneField before (s ∷ t ∷ []) = table.well_formed.fits e (Eq s t) at in
    let left : s < e = omega (arith, (fits.each 0 0 (omega arith)).0, short) in
    let order : fits.order ≡ p = first_order before p (s ∷ t ∷ []) fits (sort_at-take e ns s left ∙ is.1) in
    let other : IsFieldAt before p t = of_order before p (s ∷ t ∷ []) fits order 1 0 (omega arith) in
    let right : t < e = omega (arith, other.0, short) in
    let degree_is = degree_at-is ns e (Eq s t) at in
    let first : number_in ds s ≡ degree_at ns s = get_or-take e (degrees ns) s 0 left in
    let second : number_in ds t ≡ degree_at ns t = get_or-take e (degrees ns) t 0 right in (
      record { field = is; low = omega (arith, low, degree_is, first) },
      record { field = (omega (arith, inside, right), sym (sort_at-take e ns t right) ∙ other.1); low = omega (arith, low, degree_is, second) },
    )
