-- What the monomials of a node's polynomial are made of.
use Rattle.std.proofs.Common.{◌≡◌, ℕ, zero, suc, ◌+◌, ◌-◌, ◌^◌, ◌%◌, ◌<◌, true, List, [], ◌∷◌, ◌++◌, length, take, get_or, All, Contains, refl, sym, ap, ◌∙◌, subst, inl, inr, ⊎_elim, arith, length-take, get_or-take}
use Rattle.std.proofs.lemmas.Bool.{cases_eq, cases_lt}
use Rattle.std.proofs.lemmas.List.Elements.{All-head, All-tail, Contains-get_or, Contains-push_cases}
use Rattle.ffc_ring.specs.Monomial.{Monomial, IsMonomial, with_power, joined, mono_mul}
use Rattle.ffc_ring.specs.Polynomial.{Terms, term_product, product, scaled}
use Rattle.ffc_ring.proofs.MonomialLemmas.{IsMonomial-mono_mul, with_power-less, with_power-same, with_power-more}
use Rattle.ffc_ring.proofs.PolynomialLemmas.{cases_monomial}
use Rattle.ffc_term.specs.declared.node.Node.{Node}
use Rattle.ffc_term.specs.declared.node.Node.TheVariants.{True, FieldConst, Num, IteField, Add, Mul, Neg, Bitsum}
use Rattle.ffc_term.specs.declared.node.Sort.TheVariants as sort
use Rattle.ffc_term.specs.Nodes.{IsNodeAt, children, sorts, sort_of_node, order_at, order_of_sort}
use Rattle.ffc_term.specs.Tables.{Fits, IsFieldAt, IsTable}
use Rattle.ffc_term.specs.Checks.{IsNodeOf}
use Rattle.ffc_term.specs.Checks.IsNodeOf.{listed, child, first, second}
use Rattle.ffc_term.proofs.ListLemmas.{nothing_in}
use Rattle.ffc_term.proofs.NodeLemmas.{IsNodeAt-get_or}
use Rattle.ffc_term.proofs.TableLemmas.{sort_at-is, sort_at-take}
use Rattle.ffc_trees.specs.Normal.{term_before, with_term, normal}
use Rattle.ffc_trees.specs.NodePolynomials.{poly_in, sum_of, product_of, bit_sum_of, expanded, poly_of_node, node_polys, poly_at, EachMonomial, HasVariables, is_variable, IsVariableAt}
use Rattle.ffc_trees.proofs.NormalLemmas.{none_before, some_before, met, passed_by}
use Rattle.ffc_trees.proofs.NodePolyLemmas.{poly_at-is, boolean_field, first_order, of_order}

-- ---- what products keep

module _ (P : Monomial → Type 0) (one : P []) (products : (m n : Monomial) → P m → P n → P (mono_mul m n)) where
  each-append : (a b : Terms) → EachMonomial P a → EachMonomial P b → EachMonomial P (a ++ b)
  each-append [] b x y = y
  each-append (t ∷ a) b x y = (x.0, each-append a b x.1 y)

  each-term_product : (c : ℕ) (m : Monomial) (ts : Terms) → P m → EachMonomial P ts → EachMonomial P (term_product c m ts)
  each-term_product c m [] x y = tt
  each-term_product c m (t ∷ ts) x y = (products m t.1 x y.0, each-term_product c m ts x y.1)

  each-product : (a b : Terms) → EachMonomial P a → EachMonomial P b → EachMonomial P (product a b)
  each-product [] b x y = tt
  each-product (t ∷ a) b x y = each-append (term_product t.0 t.1 b) (product a b) (each-term_product t.0 t.1 b x.0 y) (each-product a b x.1 y)

  each-term_before : (p c : ℕ) (m : Monomial) (ts : Terms) → P m → EachMonomial P ts → EachMonomial P (term_before p c m ts)
  each-term_before p c m ts x y =
      elim (cases_eq (c % p) 0) as (λ _. EachMonomial P (term_before p c m ts)) [
        | inl none ↦ rw (none_before p c m ts none) y
        | inr some ↦ rw (some_before p c m ts some) (x, y)
      ]

  each-with_term : (p c : ℕ) (m : Monomial) (ts : Terms) → P m → EachMonomial P ts → EachMonomial P (with_term p c m ts)
  each-with_term p c m [] x y = each-term_before p c m [] x tt
  each-with_term p c m (t ∷ ts) x y =
      elim (cases_monomial m t.1) as (λ _. EachMonomial P (with_term p c m (t ∷ ts))) [
        | inl e ↦ rw (met p c m t ts e) (each-term_before p (c + t.0) m ts x y.1)
        | inr other ↦ rw (passed_by p c m t ts other) (y.0, each-with_term p c m ts x y.1)
      ]

  each-normal : (p : ℕ) (ts : Terms) → EachMonomial P ts → EachMonomial P (normal p ts)
  unfolding normal
  each-normal p [] y = tt
  each-normal p (t ∷ ts) y = each-with_term p t.0 t.1 (normal p ts) y.0 (each-normal p ts y.1)

  module _ (polys : List Terms) where
    abbrev Those : ℕ → Type 0
    Those c = EachMonomial P (poly_in polys c)

    each-sum : (ids : List ℕ) → All Those ids → EachMonomial P (sum_of polys ids)
    each-sum [] those = tt
    each-sum (c ∷ ids) those = each-append (poly_in polys c) (sum_of polys ids) (All-head Those c ids those) (each-sum ids (All-tail Those c ids those))

    each-product_of : (ids : List ℕ) → All Those ids → EachMonomial P (product_of polys ids)
    each-product_of [] those = (one, tt)
    each-product_of (c ∷ ids) those = each-product (poly_in polys c) (product_of polys ids) (All-head Those c ids those) (each-product_of ids (All-tail Those c ids those))

    each-bit_sum : (i : ℕ) (ids : List ℕ) → All Those ids → EachMonomial P (bit_sum_of i polys ids)
    each-bit_sum i [] those = tt
    each-bit_sum i (c ∷ ids) those = each-append (scaled (2 ^ i) (poly_in polys c)) (bit_sum_of (i + 1) polys ids) (each-term_product (2 ^ i) [] (poly_in polys c) one (All-head Those c ids those)) (each-bit_sum (i + 1) ids (All-tail Those c ids those))

-- ---- monomials in some variables

module _ (P : ℕ → Type 0) where
  has-with_power : (f : ℕ → ℕ → ℕ) (x e : ℕ) (m : Monomial) → P x → HasVariables P m → HasVariables P (with_power f x e m)
  has-with_power f x e [] here has = (here, tt)
  has-with_power f x e (q ∷ m) here has =
      elim (cases_lt x q.0) as (λ _. HasVariables P (with_power f x e (q ∷ m))) [
        | inl less ↦ rw (with_power-less f x e q m less) (here, has)
        | inr least ↦ elim (cases_eq x q.0) as (λ _. HasVariables P (with_power f x e (q ∷ m))) [
          | inl same ↦ rw (with_power-same f x e q m same) (here, has.1)
          | inr other ↦ rw (with_power-more f x e q m (omega arith)) (has.0, has-with_power f x e m here has.1)
        ]
      ]

  has-joined : (f : ℕ → ℕ → ℕ) (m n : Monomial) → HasVariables P m → HasVariables P n → HasVariables P (joined f m n)
  has-joined f [] n x y = y
  has-joined f (q ∷ m) n x y = has-with_power f q.0 q.1 (joined f m n) x.0 (has-joined f m n x.1 y)

  abbrev Good : Monomial → Type 0
  Good m = IsMonomial m × HasVariables P m

  good-product : (m n : Monomial) → Good m → Good n → Good (mono_mul m n)
  good-product m n x y = (IsMonomial-mono_mul m n x.0 y.0, has-joined ◌+◌ m n x.1 y.1)

has_more : (P Q : ℕ → Type 0) → ((x : ℕ) → P x → Q x) → (m : Monomial) → HasVariables P m → HasVariables Q m
has_more P Q more [] has = tt
has_more P Q more (f ∷ m) has = (more f.0 has.0, has_more P Q more m has.1)

each_more : (P Q : ℕ → Type 0) → ((x : ℕ) → P x → Q x) → (ts : Terms) → EachMonomial (Good P) ts → EachMonomial (Good Q) ts
each_more P Q more [] each = tt
each_more P Q more (t ∷ ts) each = ((each.0.0, has_more P Q more t.1 each.0.1), each_more P Q more ts each.1)

-- ---- one node

module _ (before : List Node) (polys : List Terms) (p id : ℕ) (P : ℕ → Type 0) where
  node_variables : (n : Node) → Fits before n → sort_of_node (sorts before) n ≡ sort.Field p → ((c : ℕ) → Contains (children n) c → IsFieldAt before p c → EachMonomial (Good P) (poly_in polys c)) → (is_variable n ≡ true → P id) → EachMonomial (Good P) (expanded p id polys n)
  node_variables (FieldConst k q) fits is within here = (((omega arith, omega arith, tt), (here refl, tt)), tt)
  node_variables (Num n q) fits is within here = ((tt, tt), tt)
  node_variables (IteField c a b) fits is within here = (((omega arith, omega arith, tt), (here refl, tt)), tt)
  node_variables (Add ids) fits is within here =
      let those = of_order before p ids fits (first_order before p ids fits is) in
      each-sum (Good P) (tt, tt) (good-product P) polys ids (λ i d inside. within (get_or ids i d) (Contains-get_or ids i d inside) (those i d inside))
  node_variables (Mul ids) fits is within here =
      let those = of_order before p ids fits (first_order before p ids fits is) in
      each-product_of (Good P) (tt, tt) (good-product P) polys ids (λ i d inside. within (get_or ids i d) (Contains-get_or ids i d inside) (those i d inside))
  node_variables (Neg a) fits is within here =
      let those = of_order before p (a ∷ []) fits (first_order before p (a ∷ []) fits is) in
      each-term_product (Good P) (tt, tt) (good-product P) (p - 1) [] (poly_in polys a) (tt, tt) (within a (0, omega arith, refl) (those 0 0 (omega arith)))
  node_variables (Bitsum ids) fits is within here =
      let those = of_order before p ids fits (first_order before p ids fits is) in
      each-bit_sum (Good P) (tt, tt) (good-product P) polys 0 ids (λ i d inside. within (get_or ids i d) (Contains-get_or ids i d inside) (those i d inside))
  node_variables _ fits is within here = absurd (boolean_field p is)

-- ---- all nodes

only_one : (c x : ℕ) → Contains (c ∷ []) x → c ≡ x
only_one c x has = ⊎_elim (λ none. absurd (nothing_in x none)) (λ e. e) (Contains-push_cases [] c x has)

-- the nodes of the cone of a child are in the cone
cone_of_child : (ns : List Node) (id c x : ℕ) (n : Node) → IsNodeAt ns id n → Contains (children n) c → IsNodeOf ns (c ∷ []) x → IsNodeOf ns (id ∷ []) x
cone_of_child ns id c x n at has (listed is) = subst (IsNodeOf ns (id ∷ [])) (only_one c x is) (child n (listed (0, omega arith, refl)) at has)
cone_of_child ns id c x n at has (child m of there is) = child m (cone_of_child ns id c _ n at has of) there is
cone_of_child ns id c x n at has (first d a b of there e) = first d a b (cone_of_child ns id c _ n at has of) there e
cone_of_child ns id c x n at has (second d a b of there e) = second d a b (cone_of_child ns id c _ n at has of) there e

abbrev IsInCone : List Node → ℕ → ℕ → ℕ → Type 0
IsInCone ns p id x = IsVariableAt ns p x × IsNodeOf ns (id ∷ []) x

variables_below : (k : ℕ) (ns : List Node) (p id : ℕ) → id < k → IsTable ns → IsFieldAt ns p id → EachMonomial (Good (IsInCone ns p id)) (poly_at ns id)
variables_below zero ns p id below table is = absurd (omega arith)
variables_below (suc k) ns p id below table is =
    let n : Node = get_or ns id True in
    let at : IsNodeAt ns id n = IsNodeAt-get_or ns id True is.0 in
    let before : List Node = take id ns in
    let polys : List Terms = take id (node_polys ns) in
    let short : length before ≡ id = omega (arith, length-take id ns, is.0) in
    let order : order_at ns id ≡ p = ap order_of_sort is.1 in
    let within = λ (c : ℕ) (has : Contains (children n) c) (there : IsFieldAt before p c).
    let early : c < id = omega (arith, there.0, short) in
    let inside : IsFieldAt ns p c = (omega (arith, is.0), sym (sort_at-take id ns c early) ∙ there.1) in
    let below_it : EachMonomial (Good (IsInCone ns p c)) (poly_at ns c) = variables_below k ns p c (omega arith) table inside in
    subst (EachMonomial (Good (IsInCone ns p id))) (sym (get_or-take id (node_polys ns) c [] early))
    (each_more (IsInCone ns p c) (IsInCone ns p id) (λ x in_cone. (in_cone.0, cone_of_child ns id c x n at has in_cone.1)) (poly_at ns c) below_it) in
    let here : EachMonomial (Good (IsInCone ns p id)) (poly_of_node p id polys n) =
    each-normal (Good (IsInCone ns p id)) (tt, tt) (good-product (IsInCone ns p id)) p (expanded p id polys n)
    (node_variables before polys p id (IsInCone ns p id) n (table.well_formed.fits id n at) (sym (sort_at-is ns id n at) ∙ is.1) within (λ var. ((is, var), listed (0, omega arith, refl))))
    in subst (EachMonomial (Good (IsInCone ns p id))) (sym (poly_at-is ns id n at ∙ ap (λ q. poly_of_node q id polys n) order)) here

pub poly_at-variables : (ns : List Node) (p id : ℕ) → IsTable ns → IsFieldAt ns p id → EachMonomial (Good (IsInCone ns p id)) (poly_at ns id)
poly_at-variables ns p id table is = variables_below (suc id) ns p id (omega arith) table is
