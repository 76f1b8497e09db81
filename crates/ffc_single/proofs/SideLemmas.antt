-- The sides of an equality under which one variable occurs at most, as polynomials in it.
use Rattle.std.proofs.Common.{inl, inr, ◌≡◌, ◌≢◌, ℕ, zero, suc, ◌+◌, ◌-◌, ◌*◌, ◌%◌, ◌<◌, ◌≤◌, max, true, List, [], ◌∷◌, ◌++◌, length, take, fold, Contains, refl, sym, ap, ◌∙◌, subst, arith, mod-eq_of_lt, mul-zero, length-take, get_or-take}
use Rattle.std.proofs.lemmas.Option.{same_Some, slice_get_within}
use Rattle.std.proofs.Math.Nat.{zero-mod}
use Rattle.std.proofs.lemmas.Cmp.{tied_itself}
use Rattle.std.specs.declared.cmp.Ordering.{Ordering}
use Rattle.std.specs.declared.cmp.Ordering.TheVariants.{Equal, Greater}
use Rattle.ffc_mono.specs.MonomialOrder.{IsMonomialOrder}
use Rattle.ffc_poly.specs.Ordered.{IsAbove, IsOrdered}
use Rattle.ffc_ring.specs.Monomial.{Monomial, IsMonomial, degree}
use Rattle.ffc_ring.specs.Polynomial.{Terms, written, coefficient, SamePolynomial, scaled, difference}
use Rattle.ffc_ring.proofs.PolynomialLemmas.{cases_monomial, written-at, written-off, written-scaled, same_sums, same_term_products}
use Rattle.ffc_roots.specs.Sparse.{IsPowerOf, IsInOne}
use Rattle.ffc_roots.proofs.Degrees.{HasDegree, degree_of_normal}
use Rattle.ffc_rules.proofs.AssignmentLemmas.{node_at-is}
use Rattle.ffc_rules.proofs.GivenLemmas.{equality_at}
use Rattle.ffc_smt.proofs.ConeLemmas.{cone_through}
use Rattle.ffc_term.specs.declared.node.Node.{Node}
use Rattle.ffc_term.specs.declared.node.Node.TheVariants.{Eq}
use Rattle.ffc_term.specs.Nodes.{IsNodeAt}
use Rattle.ffc_term.specs.Tables.{IsFieldAt, IsTable, AreOfOneField}
use Rattle.ffc_term.specs.Checks.{IsNodeOf}
use Rattle.ffc_term.specs.Checks.IsNodeOf.{listed, child}
use Rattle.ffc_term.specs.Measuring.{number_in, length_of_node, degrees, lengths, degree_at, length_at}
use Rattle.ffc_term.proofs.InTurn.{get_or-in_turn}
use Rattle.ffc_term.proofs.TableLemmas.{sort_at-take}
use Rattle.ffc_trees.specs.FirstLines.{difference_of}
use Rattle.ffc_trees.specs.Normal.{degree_of}
use Rattle.ffc_trees.specs.NodePolynomials.{poly_at, EachMonomial, HasVariables, IsVariableAt}
use Rattle.ffc_trees.proofs.BoundLemmas.{poly_at-bounded}
use Rattle.ffc_trees.proofs.NodePolyLemmas.{first_order, of_order}
use Rattle.ffc_trees.proofs.PartLemmas.{degree_at-is}
use Rattle.ffc_trees.proofs.VariableLemmas.{poly_at-variables}
use Rattle.ffc_uni.specs.Univariate.{Coefficients, coefficient_at, SameUnivariate, IsNormal, minus, multiple, power_of, terms_from, terms_in}
use Rattle.ffc_uni.proofs.RingLemmas.{same_in_ring, sum_in_ring}
use Rattle.ffc_single.specs.Univariate.{IsSideIn, IsEqualityIn, IsFormOf, AreFormsOf}

-- ---- the monomials of terms

coefficient-none : (p : ℕ) (m : Monomial) → coefficient p [] m ≡ 0
coefficient-none p m = zero-mod p

coefficient-other : (p : ℕ) (t : ℕ × Monomial) (ts : Terms) (m : Monomial) → t.1 ≢ m → coefficient p (t ∷ ts) m ≡ coefficient p ts m
coefficient-other p t ts m off = ap (λ k. k % p) (written-off m t ts off)

-- where each monomial of some terms has a property, each with a coefficient has it
each_with_coefficient : (P : Monomial → Type 0) (p : ℕ) (ts : Terms) (m : Monomial) → EachMonomial P ts → coefficient p ts m ≢ 0 → P m
each_with_coefficient P p [] m each some = absurd (some (coefficient-none p m))
each_with_coefficient P p (t ∷ ts) m each some =
    elim (cases_monomial t.1 m) as (λ _. P m) [
      | inl here ↦ subst P here each.0
      | inr off ↦ each_with_coefficient P p ts m each.1 (λ e. some (coefficient-other p t ts m off ∙ e))
    ]

each-append : (P : Monomial → Type 0) (a b : Terms) → EachMonomial P a → EachMonomial P b → EachMonomial P (a ++ b)
each-append P [] b one two = two
each-append P (t ∷ a) b one two = (one.0, each-append P a b one.1 two)

each-scaled : (P : Monomial → Type 0) (c : ℕ) (ts : Terms) → EachMonomial P ts → EachMonomial P (scaled c ts)
each-scaled P c [] each = tt
each-scaled P c (t ∷ ts) each = (each.0, each-scaled P c ts each.1)

greatest_from : (a : ℕ) (ts : Terms) → a ≤ fold (λ b t. max b (degree t.1)) a ts
greatest_from a [] = omega arith
greatest_from a (t ∷ ts) = let rest : max a (degree t.1) ≤ fold (λ b u. max b (degree u.1)) (max a (degree t.1)) ts = greatest_from (max a (degree t.1)) ts in omega arith

low_from : (n a : ℕ) (ts : Terms) → fold (λ b t. max b (degree t.1)) a ts ≤ n → EachMonomial (λ m. degree m ≤ n) ts
low_from n a [] low = tt
low_from n a (t ∷ ts) low =
    let most : max a (degree t.1) ≤ fold (λ b u. max b (degree u.1)) (max a (degree t.1)) ts = greatest_from (max a (degree t.1)) ts in
    (omega arith, low_from n (max a (degree t.1)) ts low)

-- ---- one variable

module _ (p : ℕ) (cmp : Monomial → Monomial → Ordering) (laws : IsMonomialOrder cmp) (limit v : ℕ) where
  not_itself : (m n : Monomial) → cmp m n ≡ Greater → m ≢ n
  not_itself m n e same =
      let tied : Equal ≡ Greater = sym (tied_itself laws.total m) ∙ ap (cmp m) same ∙ e in absurd (cc tied)

  -- nothing is written for a monomial above all terms
  written-above : (m : Monomial) (ts : Terms) → IsAbove cmp m ts → written ts m ≡ 0
  written-above m [] above = refl
  written-above m (t ∷ ts) above = written-off m t ts (λ e. not_itself m t.1 above.0 (sym e)) ∙ written-above m ts above.1

  first_nonzero : (t : ℕ × Monomial) (ts : Terms) → IsOrdered p cmp limit (t ∷ ts) → coefficient p (t ∷ ts) t.1 ≢ 0
  first_nonzero t ts ordered none =
      let first : coefficient p (t ∷ ts) t.1 ≡ t.0 =
      ap (λ k. k % p) (written-at t.1 t ts refl ∙ ap (λ k. t.0 + k) (written-above t.1 ts ordered.4) ∙ omega arith) ∙ mod-eq_of_lt ordered.1 in
      omega (arith, first, none, ordered.0)

  -- what has a coefficient after the first term has it in the whole
  nonzero_after : (t : ℕ × Monomial) (ts : Terms) → IsOrdered p cmp limit (t ∷ ts) → (m : Monomial) → coefficient p ts m ≢ 0 → coefficient p (t ∷ ts) m ≢ 0
  nonzero_after t ts ordered m some none =
      elim (cases_monomial t.1 m) [
        | inl here ↦ some (ap (coefficient p ts) (sym here) ∙ ap (λ k. k % p) (written-above t.1 ts ordered.4) ∙ zero-mod p)
        | inr off ↦ some (sym (coefficient-other p t ts m off) ∙ none)
      ]

  in_one_from : (ts : Terms) → IsOrdered p cmp limit ts → ((m : Monomial) → coefficient p ts m ≢ 0 → IsPowerOf v m) → IsInOne v ts
  in_one_from [] ordered powers = tt
  in_one_from (t ∷ ts) ordered powers = (
    powers t.1 (first_nonzero t ts ordered),
    in_one_from ts ordered.5 (λ m some. powers m (nonzero_after t ts ordered m some)),
  )

-- a monomial with one variable at most is a power of it
power_from : (P : ℕ → Type 0) (x : ℕ) (m : Monomial) → ((y : ℕ) → P y → y ≡ x) → IsMonomial m → HasVariables P m → IsPowerOf x m
power_from P x [] only is has = tt
power_from P x (f ∷ []) only is has = only f.0 has.0
power_from P x (f ∷ g ∷ m) only is has =
    let one : f.0 ≡ x = only f.0 has.0 in
    let two : g.0 ≡ x = only g.0 has.1.0 in
    absurd (omega (arith, is.2.0))

-- the polynomial of such a side is one in the variable
pub side_in_one : (p : ℕ) (cmp : Monomial → Monomial → Ordering) (limit : ℕ) (ns : List Node) (x id : ℕ) (f : Terms) → IsMonomialOrder cmp → IsSideIn p ns x id
    → IsOrdered p cmp limit f → SamePolynomial p f (poly_at ns id) → IsInOne x f
side_in_one p cmp limit ns x id f laws side ordered same =
    let P : ℕ → Type 0 = λ y. IsVariableAt ns p y × IsNodeOf ns (id ∷ []) y in
    in_one_from p cmp laws limit x f ordered
    (λ m some.
    let good = each_with_coefficient (λ n. IsMonomial n × HasVariables P n) p (poly_at ns id) m (poly_at-variables ns p id side.table side.field) (λ e. some (same m ∙ e)) in
    power_from P x m (λ y there. side.variables y there.1 there.0) good.0 good.1)

-- ---- the sides of an equality

-- both sides, of no higher degree
pub record HasSides (p : ℕ) (ns : List Node) (x id s t : ℕ) : Type 0 where
  pub first : IsSideIn p ns x s
  pub second : IsSideIn p ns x t
  pub first_low : degree_at ns s ≤ degree_at ns id
  pub second_low : degree_at ns t ≤ degree_at ns id

length_at-is : (ns : List Node) (id : ℕ) (n : Node) → IsNodeAt ns id n → length_at ns id ≡ length_of_node (take id (lengths ns)) n
unfolding lengths
length_at-is ns id n at = get_or-in_turn length_of_node ns id n 0 at

module _ (p : ℕ) (ns : List Node) (x id : ℕ) (table : IsTable ns) (is : IsEqualityIn p ns x id) (s t : ℕ) (at : IsNodeAt ns id (Eq s t)) where
  first_side : IsFieldAt ns p s
  first_side =
      let (u, v, there, field) = equality_at ns p (true, id) table is.equality in
      let same : Eq u v ≡ Eq s t = same_Some (Eq u v) (Eq s t) (sym there ∙ at) in
      let e : u ≡ s = cc in
      subst (IsFieldAt ns p) e field

  side_in : (c : ℕ) → Contains (s ∷ t ∷ []) c → IsFieldAt ns p c → degree_at ns c ≤ 255 → length_at ns c ≤ 65536 → IsSideIn p ns x c
  side_in c has field low short = record {
    table = table;
    field = field;
    low = low;
    short = short;
    variables = λ y of variable. is.variables y (cone_through ns (id ∷ []) c (child (Eq s t) (listed (0, omega arith, refl)) at has) y of) variable;
  }

  pub sides_in : HasSides p ns x id s t
  sides_in =
      let inside : id < length ns = slice_get_within ns id (Eq s t) at in
      let before : List Node = take id ns in
      let long : length before ≡ id = omega (arith, length-take id ns, inside) in
      let fits : AreOfOneField before (s ∷ t ∷ []) = table.well_formed.fits id (Eq s t) at in
      let left : s < id = omega (arith, (fits.each 0 0 (omega arith)).0, long) in
      let order : fits.order ≡ p = first_order before p (s ∷ t ∷ []) fits (sort_at-take id ns s left ∙ first_side.1) in
      let other : IsFieldAt before p t = of_order before p (s ∷ t ∷ []) fits order 1 0 (omega arith) in
      let right : t < id = omega (arith, other.0, long) in
      let second_side : IsFieldAt ns p t = (omega (arith, inside, right), sym (sort_at-take id ns t right) ∙ other.1) in
      let degree_is : degree_at ns id ≡ max (number_in (take id (degrees ns)) s) (number_in (take id (degrees ns)) t) = degree_at-is ns id (Eq s t) at in
      let length_is : length_at ns id ≡ max (number_in (take id (lengths ns)) s) (number_in (take id (lengths ns)) t) = length_at-is ns id (Eq s t) at in
      let degree_s : number_in (take id (degrees ns)) s ≡ degree_at ns s = get_or-take id (degrees ns) s 0 left in
      let degree_t : number_in (take id (degrees ns)) t ≡ degree_at ns t = get_or-take id (degrees ns) t 0 right in
      let length_s : number_in (take id (lengths ns)) s ≡ length_at ns s = get_or-take id (lengths ns) s 0 left in
      let length_t : number_in (take id (lengths ns)) t ≡ length_at ns t = get_or-take id (lengths ns) t 0 right in
      let low = is.low in
      let short = is.short in
      record {
        first = side_in s (0, omega arith, refl) first_side (omega arith) (omega arith);
        second = side_in t (1, omega arith, refl) second_side (omega arith) (omega arith);
        first_low = omega arith;
        second_low = omega arith;
      }

-- ---- the difference

written-multiple : (c v k : ℕ) (b : Coefficients) (m : Monomial) → written (terms_from v k (multiple c b)) m ≡ c * written (terms_from v k b) m
written-multiple c v k [] m = sym (mul-zero c)
written-multiple c v k (d ∷ b) m =
    let rest = written-multiple c v (suc k) b m in
    elim (cases_monomial (power_of v k) m) as (λ _. written (terms_from v k (multiple c (d ∷ b))) m ≡ c * written (terms_from v k (d ∷ b)) m) [
      | inl here ↦
          written-at m (c * d, power_of v k) (terms_from v (suc k) (multiple c b)) here
          ∙ (let both : c * d + written (terms_from v (suc k) (multiple c b)) m ≡ c * (d + written (terms_from v (suc k) b) m) = omega (arith, rest) in both)
          ∙ sym (ap (λ n. c * n) (written-at m (d, power_of v k) (terms_from v (suc k) b) here))
      | inr off ↦
          written-off m (c * d, power_of v k) (terms_from v (suc k) (multiple c b)) off
          ∙ rest
          ∙ sym (ap (λ n. c * n) (written-off m (d, power_of v k) (terms_from v (suc k) b) off))
    ]

multiple_in_ring : (p c v : ℕ) (b : Coefficients) → SamePolynomial p (terms_in v (multiple c b)) (scaled c (terms_in v b))
multiple_in_ring p c v b m = ap (λ n. n % p) (written-multiple c v 0 b m ∙ sym (written-scaled c (terms_in v b) m))

difference_in_one : (p x : ℕ) (a b f : Coefficients) (left right : Terms) → SameUnivariate p f (minus p a b) → SamePolynomial p (terms_in x a) left → SamePolynomial p (terms_in x b) right
    → SamePolynomial p (terms_in x f) (difference p left right)
difference_in_one p x a b f left right is one two m =
    same_in_ring p x f (minus p a b) is m
    ∙ sum_in_ring p x a (multiple (p - 1) b) m
    ∙ same_sums p (terms_in x a) left (terms_in x (multiple (p - 1) b)) (scaled (p - 1) right) one
    (λ n. multiple_in_ring p (p - 1) x b n ∙ same_term_products p (p - 1) [] (terms_in x b) right two n) m

-- ---- the degree

degree-power_of : (v k : ℕ) → degree (power_of v k) ≡ k
degree-power_of v zero = refl
degree-power_of v (suc k) = omega arith

power_of_other : (v i j : ℕ) → i ≢ j → power_of v i ≢ power_of v j
power_of_other v i j other same = other (sym (degree-power_of v i) ∙ ap degree same ∙ degree-power_of v j)

written-below : (v i j : ℕ) (a : Coefficients) → i < j → written (terms_from v j a) (power_of v i) ≡ 0
written-below v i j [] below = refl
written-below v i j (c ∷ a) below =
    written-off (power_of v i) (c, power_of v j) (terms_from v (suc j) a) (power_of_other v j i (omega arith))
    ∙ written-below v i (suc j) a (omega arith)

-- what is written for a power is its coefficient
written-power : (v i j k : ℕ) (a : Coefficients) → j ≡ i + k → written (terms_from v i a) (power_of v j) ≡ coefficient_at a k
written-power v i j k [] is = refl
written-power v i j zero (c ∷ a) is =
    written-at (power_of v j) (c, power_of v i) (terms_from v (suc i) a) (ap (power_of v) (let same : i ≡ j = omega arith in same))
    ∙ omega (arith, written-below v j (suc i) a (omega arith))
written-power v i j (suc k) (c ∷ a) is =
    written-off (power_of v j) (c, power_of v i) (terms_from v (suc i) a) (power_of_other v i j (omega arith))
    ∙ written-power v (suc i) j k a (omega arith)

-- a polynomial in one variable has no more coefficients than the degrees of what it is the difference of allow
form_low : (p x n : ℕ) (f : Coefficients) (left right : Terms) → IsNormal p f → SamePolynomial p (terms_in x f) (difference p left right) → degree_of left ≤ n → degree_of right ≤ n → length f ≤ n + 1
form_low p x n [] left right normal same one two = omega arith
form_low p x n (c ∷ cs) left right normal same one two =
    let f : Coefficients = c ∷ cs in
    let k : ℕ = length cs in
    let leads : HasDegree p k f = degree_of_normal p f k normal refl in
    let Low : Monomial → Type 0 = λ m. degree m ≤ n in
    let each : EachMonomial Low (difference p left right) =
    each-append Low left (scaled (p - 1) right) (low_from n 0 left one) (each-scaled Low (p - 1) right (low_from n 0 right two)) in
    let there : coefficient p (terms_in x f) (power_of x k) ≡ coefficient_at f k % p = ap (λ w. w % p) (written-power x 0 k k f (omega arith)) in
    let low : degree (power_of x k) ≤ n = each_with_coefficient Low p (difference p left right) (power_of x k) each (λ e. leads.leads (sym there ∙ same (power_of x k) ∙ e)) in
    omega (arith, low, degree-power_of x k)

-- the difference of the sides' polynomials is the equality's
pub form_of_sides : (p : ℕ) (ns : List Node) (x id s t : ℕ) (a b f : Coefficients) → IsNodeAt ns id (Eq s t) → HasSides p ns x id s t
    → SamePolynomial p (terms_in x a) (poly_at ns s) → SamePolynomial p (terms_in x b) (poly_at ns t) → SameUnivariate p f (minus p a b) → IsNormal p f → IsFormOf p ns x id f
form_of_sides p ns x id s t a b f at sides one two is normal =
    let same : SamePolynomial p (terms_in x f) (difference p (poly_at ns s) (poly_at ns t)) = difference_in_one p x a b f (poly_at ns s) (poly_at ns t) is one two in
    let left = (poly_at-bounded ns p s sides.first.table sides.first.field).0 in
    let right = (poly_at-bounded ns p t sides.second.table sides.second.field).0 in
    let first_low = sides.first_low in
    let second_low = sides.second_low in
    record {
      same = subst (λ n. SamePolynomial p (terms_in x f) (difference_of p ns n)) (sym (node_at-is ns id (Eq s t) at)) same;
      normal = normal;
      low = form_low p x (degree_at ns id) f (poly_at ns s) (poly_at ns t) normal same (omega (arith, left, first_low)) (omega (arith, right, second_low));
    }

-- ---- lists

-- one more form
pub forms_push : (p : ℕ) (ns : List Node) (x : ℕ) (ids : List ℕ) (fs : List Coefficients) (id : ℕ) (f : Coefficients) → AreFormsOf p ns x ids fs → IsFormOf p ns x id f
    → AreFormsOf p ns x (ids ++ id ∷ []) (fs ++ f ∷ [])
forms_push p ns x [] [] id f are is = (is, tt)
forms_push p ns x [] (g ∷ fs) id f are is = absurd are
forms_push p ns x (i ∷ ids) [] id f are is = absurd are
forms_push p ns x (i ∷ ids) (g ∷ fs) id f are is = (are.0, forms_push p ns x ids fs id f are.1 is)
