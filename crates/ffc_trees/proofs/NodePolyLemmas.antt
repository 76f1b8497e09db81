-- The value of a node's polynomial is the node's, and further nodes change no polynomial.
use Rattle.std.proofs.Common.{◌≡◌, ℕ, zero, suc, ◌+◌, ◌-◌, ◌*◌, ◌^◌, ◌%◌, ◌<◌, List, [], ◌∷◌, ◌++◌, length, take, get_or, fold, sum_by, All, refl, sym, ap, ap₂, ◌∙◌, subst, arith, length-take, get_or-take, take_at, mul_assoc, one-mul, mul-one}
use Rattle.std.proofs.Math.Nat.{mod-mod, mod-eq_of_lt, pow-suc, pow-zero}
use Rattle.std.proofs.lemmas.Nat.{mul-mod_first, mul-mod_second}
use Rattle.std.proofs.lemmas.List.Elements.{All-head, All-tail}
use Rattle.std.proofs.lemmas.List.Sums.{sum_by-cons}
use Rattle.std.proofs.lemmas.Option.{slice_get_within}
use Rattle.ffc_field.specs.Modular.{neg_mod}
use Rattle.ffc_ring.specs.Polynomial.{Terms, scaled, value_sum, poly_value}
use Rattle.ffc_ring.proofs.PolynomialLemmas.{sum_alike, negated_mod, value_sum-append, value_sum-product, value_sum-term_product}
use Rattle.ffc_term.specs.declared.node.Node.{Node}
use Rattle.ffc_term.specs.declared.node.Node.TheVariants.{True, FieldConst, Num, IteField, Add, Mul, Neg, Bitsum}
use Rattle.ffc_term.specs.declared.node.Sort.TheVariants as sort
use Rattle.ffc_term.specs.declared.value.Value.{Value}
use Rattle.ffc_term.specs.declared.value.Value.TheVariants as value
use Rattle.ffc_term.specs.Nodes.{IsNodeAt, in_turn, sorts, sort_at, sort_of_node, order_at, order_of_sort}
use Rattle.ffc_term.specs.Values.{values, value_at, residue_in, residue, value_of_node, product_by, bit_sum_from}
use Rattle.ffc_term.specs.Tables.{Fits, IsFieldAt, IsTable, AreOfOneField}
use Rattle.ffc_term.specs.Laws.{IsOfSort}
use Rattle.ffc_term.proofs.InTurn.{get_or-in_turn, length-in_turn, in_turn-take, in_turn_from-agree}
use Rattle.ffc_term.proofs.NodeLemmas.{IsNodeAt-get_or}
use Rattle.ffc_term.proofs.TableLemmas.{sort_at-is, sort_at-take, sort_at-append}
use Rattle.ffc_term.proofs.ValueLemmas.{value_at-is, IsOrder-from_IsFieldAt, IsOrder-positive}
use Rattle.ffc_term.proofs.LawLemmas.{value_at-of_sort}
use Rattle.ffc_trees.specs.NodePolynomials.{variable, poly_in, sum_of, product_of, bit_sum_of, expanded, poly_of_node, node_polys, poly_at}
use Rattle.ffc_trees.specs.Laws.{IsPointOf}
use Rattle.ffc_trees.proofs.NormalLemmas.{poly_value-normal}

pub boolean_field : (p : ℕ) → ¬ (sort.Bool ≡ sort.Field p)
boolean_field p e = cc

same_field : (p q : ℕ) → sort.Field q ≡ sort.Field p → q ≡ p
same_field p q e = cc

-- the children of a node are of its order
pub of_order : (before : List Node) (p : ℕ) (ids : List ℕ) → (fits : AreOfOneField before ids) → fits.order ≡ p → All (IsFieldAt before p) ids
of_order before p ids fits e = subst (λ q. All (IsFieldAt before q) ids) e fits.each

pub first_order : (before : List Node) (p : ℕ) (ids : List ℕ) (fits : AreOfOneField before ids) → sort_at before (get_or ids 0 0) ≡ sort.Field p → fits.order ≡ p
first_order before p ids fits is = same_field p fits.order (sym (fits.each 0 0 fits.some).1 ∙ is)

-- ---- one node

product_from : (f : ℕ → ℕ) (a : ℕ) (ids : List ℕ) → fold (λ b x. b * f x) a ids ≡ a * product_by f ids
product_from f a [] = sym (mul-one a)
product_from f a (id ∷ ids) =
    product_from f (a * f id) ids ∙ mul_assoc a (f id) (product_by f ids)
    ∙ ap (λ n. a * n) (sym (product_from f (1 * f id) ids ∙ ap (λ n. n * product_by f ids) (one-mul (f id))))

pub product_by-cons : (f : ℕ → ℕ) (id : ℕ) (ids : List ℕ) → product_by f (id ∷ ids) ≡ f id * product_by f ids
product_by-cons f id ids = product_from f (1 * f id) ids ∙ ap (λ n. n * product_by f ids) (one-mul (f id))

products_alike : (p a b c d : ℕ) → a % p ≡ b % p → c % p ≡ d % p → (a * c) % p ≡ (b * d) % p
products_alike p a b c d e f =
    sym (mul-mod_first a c p) ∙ sym (mul-mod_second (a % p) c p) ∙ ap₂ (λ x y. x * y % p) e f ∙ mul-mod_second (b % p) d p ∙ mul-mod_first b d p

pub variable_value : (p : ℕ) (point : ℕ → ℕ) (x : ℕ) → point x < p → poly_value p point (variable x) ≡ point x
variable_value p point x below =
    let one : point x ^ 1 ≡ point x = pow-suc (point x) 0 ∙ ap (λ n. n * point x) (pow-zero (point x)) ∙ one-mul (point x) in
    ap (λ n. (1 * (n * 1) + 0) % p) one ∙ ap (λ n. n % p) (let same : 1 * (point x * 1) + 0 ≡ point x = omega arith in same) ∙ mod-eq_of_lt below

module _ (before : List Node) (A vs : List Value) (polys : List Terms) (p id : ℕ) (point : ℕ → ℕ) (positive : 0 < p) (bounded : (c : ℕ) → IsFieldAt before p c → poly_value p point (poly_in polys c) ≡ residue_in vs c) where
  here_alike : (c : ℕ) → IsFieldAt before p c → value_sum point (poly_in polys c) % p ≡ residue_in vs c % p
  here_alike c is = sym (mod-mod (value_sum point (poly_in polys c)) p) ∙ ap (λ n. n % p) (bounded c is)

  sum_value : (ids : List ℕ) → All (IsFieldAt before p) ids → value_sum point (sum_of polys ids) % p ≡ sum_by (residue_in vs) ids % p
  sum_value [] are = refl
  sum_value (c ∷ ids) are =
      ap (λ n. n % p) (value_sum-append point (poly_in polys c) (sum_of polys ids))
      ∙ sum_alike p (value_sum point (poly_in polys c)) (residue_in vs c) (value_sum point (sum_of polys ids)) (sum_by (residue_in vs) ids)
      (here_alike c (All-head (IsFieldAt before p) c ids are)) (sum_value ids (All-tail (IsFieldAt before p) c ids are))
      ∙ ap (λ n. n % p) (sym (sum_by-cons (residue_in vs) c ids))

  product_value : (ids : List ℕ) → All (IsFieldAt before p) ids → value_sum point (product_of polys ids) % p ≡ product_by (residue_in vs) ids % p
  product_value [] are = refl
  product_value (c ∷ ids) are =
      ap (λ n. n % p) (value_sum-product point (poly_in polys c) (product_of polys ids))
      ∙ products_alike p (value_sum point (poly_in polys c)) (residue_in vs c) (value_sum point (product_of polys ids)) (product_by (residue_in vs) ids)
      (here_alike c (All-head (IsFieldAt before p) c ids are)) (product_value ids (All-tail (IsFieldAt before p) c ids are))
      ∙ ap (λ n. n % p) (sym (product_by-cons (residue_in vs) c ids))

  scaled_value : (k : ℕ) (ts : Terms) → value_sum point (scaled k ts) ≡ k * value_sum point ts
  scaled_value k ts = value_sum-term_product point k [] ts ∙ ap (λ n. n * value_sum point ts) (mul-one k)

  bit_sum_value : (i : ℕ) (ids : List ℕ) → All (IsFieldAt before p) ids → value_sum point (bit_sum_of i polys ids) % p ≡ bit_sum_from i (residue_in vs) ids % p
  bit_sum_value i [] are = refl
  bit_sum_value i (c ∷ ids) are =
      ap (λ n. n % p) (value_sum-append point (scaled (2 ^ i) (poly_in polys c)) (bit_sum_of (i + 1) polys ids))
      ∙ sum_alike p (value_sum point (scaled (2 ^ i) (poly_in polys c))) (2 ^ i * residue_in vs c) (value_sum point (bit_sum_of (i + 1) polys ids)) (bit_sum_from (i + 1) (residue_in vs) ids)
      (ap (λ n. n % p) (scaled_value (2 ^ i) (poly_in polys c)) ∙ products_alike p (2 ^ i) (2 ^ i) (value_sum point (poly_in polys c)) (residue_in vs c) refl (here_alike c (All-head (IsFieldAt before p) c ids are)))
      (bit_sum_value (i + 1) ids (All-tail (IsFieldAt before p) c ids are))

  negated_value : (c : ℕ) → IsFieldAt before p c → poly_value p point (scaled (p - 1) (poly_in polys c)) ≡ neg_mod p (residue_in vs c)
  negated_value c is =
      ap (λ n. n % p) (scaled_value (p - 1) (poly_in polys c)) ∙ negated_mod p (value_sum point (poly_in polys c)) positive ∙ ap (λ n. (p - n) % p) (bounded c is)

  node_value : (n : Node) → Fits before n → sort_of_node (sorts before) n ≡ sort.Field p → point id ≡ residue (value_of_node p A vs n) → point id < p → poly_value p point (expanded p id polys n) ≡ residue (value_of_node p A vs n)
  node_value (FieldConst k q) fits is here below = variable_value p point id below ∙ here
  node_value (Num n q) fits is here below =
      let small : n < p = subst (λ r. n < r) (same_field p q is) fits.1 in
      ap (λ m. m % p) (let same : n * 1 + 0 ≡ n = omega arith in same) ∙ mod-eq_of_lt small
  node_value (IteField c a b) fits is here below = variable_value p point id below ∙ here
  node_value (Add ids) fits is here below = sum_value ids (of_order before p ids fits (first_order before p ids fits is))
  node_value (Mul ids) fits is here below = product_value ids (of_order before p ids fits (first_order before p ids fits is))
  node_value (Neg a) fits is here below = negated_value a (of_order before p (a ∷ []) fits (first_order before p (a ∷ []) fits is) 0 0 (omega arith))
  node_value (Bitsum ids) fits is here below = bit_sum_value 0 ids (of_order before p ids fits (first_order before p ids fits is))
  node_value _ fits is here below = absurd (boolean_field p is)

-- ---- all nodes

length-node_polys : (ns : List Node) → length (node_polys ns) ≡ length ns
unfolding node_polys
length-node_polys ns = length-in_turn (λ polys n. poly_of_node (order_at ns (length polys)) (length polys) polys n) ns

poly_at_turn : (ns : List Node) (id : ℕ) (n : Node) → IsNodeAt ns id n → poly_at ns id ≡ poly_of_node (order_at ns (length (take id (node_polys ns)))) (length (take id (node_polys ns))) (take id (node_polys ns)) n
unfolding node_polys
poly_at_turn ns id n at = get_or-in_turn (λ polys m. poly_of_node (order_at ns (length polys)) (length polys) polys m) ns id n [] at

-- the polynomial of a node from those of the nodes before it
pub poly_at-is : (ns : List Node) (id : ℕ) (n : Node) → IsNodeAt ns id n → poly_at ns id ≡ poly_of_node (order_at ns id) id (take id (node_polys ns)) n
poly_at-is ns id n at =
    let inside : id < length ns = slice_get_within ns id n at in
    let long : length (take id (node_polys ns)) ≡ id = omega (arith, length-take id (node_polys ns), length-node_polys ns) in
    poly_at_turn ns id n at ∙ ap (λ k. poly_of_node (order_at ns k) k (take id (node_polys ns)) n) long

residue_below : (p : ℕ) (v : Value) → IsOfSort (sort.Field p) v → residue v < p
residue_below p (value.Bool b) is = absurd is
residue_below p (value.Field n) is = is

-- the residue of a field node is one of its order
pub node_below : (ns : List Node) (A : List Value) (p id : ℕ) → IsTable ns → IsFieldAt ns p id → residue (value_at ns A id) < p
node_below ns A p id table is = residue_below p (value_at ns A id) (subst (λ s. IsOfSort s (value_at ns A id)) is.1 (value_at-of_sort ns A id table is.0))

value_below : (k : ℕ) (ns : List Node) (A : List Value) (p : ℕ) (point : ℕ → ℕ) (id : ℕ) → id < k → IsTable ns → IsPointOf ns A p point → IsFieldAt ns p id → poly_value p point (poly_at ns id) ≡ residue (value_at ns A id)
value_below zero ns A p point id below table points is = absurd (omega arith)
value_below (suc k) ns A p point id below table points is =
    let n : Node = get_or ns id True in
    let at : IsNodeAt ns id n = IsNodeAt-get_or ns id True is.0 in
    let before : List Node = take id ns in
    let polys : List Terms = take id (node_polys ns) in
    let short : length before ≡ id = omega (arith, length-take id ns, is.0) in
    let order : order_at ns id ≡ p = ap order_of_sort is.1 in
    let value : value_at ns A id ≡ value_of_node p A (values ns A) n = value_at-is ns A id n table.well_formed at ∙ ap (λ q. value_of_node q A (values ns A) n) order in
    let here : point id ≡ residue (value_of_node p A (values ns A) n) = points id is ∙ ap residue value in
    let small : point id < p = subst (λ m. m < p) (sym (points id is)) (node_below ns A p id table is) in
    let bounded = λ (c : ℕ) (there : IsFieldAt before p c).
    let early : c < id = omega (arith, there.0, short) in
    let inside : IsFieldAt ns p c = (omega (arith, is.0), sym (sort_at-take id ns c early) ∙ there.1) in
    ap (poly_value p point) (get_or-take id (node_polys ns) c [] early) ∙ value_below k ns A p point c (omega arith) table points inside in
    ap (poly_value p point) (poly_at-is ns id n at)
    ∙ ap (λ q. poly_value p point (poly_of_node q id polys n)) order
    ∙ poly_value-normal p point (expanded p id polys n)
    ∙ node_value before A (values ns A) polys p id point (IsOrder-positive p (IsOrder-from_IsFieldAt ns id p table.well_formed is)) bounded n (table.well_formed.fits id n at) (sym (sort_at-is ns id n at) ∙ is.1) here small
    ∙ ap residue (sym value)

-- the polynomial of a node has the node's residue at a point that gives each node its own
pub poly_at-value : (ns : List Node) (A : List Value) (p : ℕ) (point : ℕ → ℕ) (id : ℕ) → IsTable ns → IsPointOf ns A p point → IsFieldAt ns p id → poly_value p point (poly_at ns id) ≡ residue (value_at ns A id)
poly_at-value ns A p point id table points is = value_below (suc id) ns A p point id (omega arith) table points is

-- ---- longer tables

order_at-append : (ns ms : List Node) (id : ℕ) → id < length ns → order_at (ns ++ ms) id ≡ order_at ns id
order_at-append ns ms id inside = ap order_of_sort (sort_at-append ns ms id inside)

node_polys_front : (ns ms : List Node) → take (length ns) (node_polys (ns ++ ms)) ≡ node_polys ns
unfolding node_polys
node_polys_front ns ms =
    let long = λ (polys : List Terms) (n : Node). poly_of_node (order_at (ns ++ ms) (length polys)) (length polys) polys n in
    let short = λ (polys : List Terms) (n : Node). poly_of_node (order_at ns (length polys)) (length polys) polys n in
    sym (in_turn-take long (length ns) (ns ++ ms)) ∙ ap (in_turn long) (take_at ns ms (length ns) refl)
    ∙ in_turn_from-agree long short [] ns (λ xs n within. ap (λ q. poly_of_node q (length xs) xs n) (order_at-append ns ms (length xs) (omega arith)))

-- further nodes change no polynomial
pub poly_at-append : (ns ms : List Node) (id : ℕ) → id < length ns → poly_at (ns ++ ms) id ≡ poly_at ns id
poly_at-append ns ms id inside =
    sym (get_or-take (length ns) (node_polys (ns ++ ms)) id [] inside) ∙ ap (λ xs. get_or xs id []) (node_polys_front ns ms)
