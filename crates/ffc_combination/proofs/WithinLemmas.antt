-- The monomials of the lines of literals are among those in the variables up to the lines' degrees.
use Rattle.std.proofs.Common.{◌≡◌, ℕ, ◌+◌, ◌-◌, ◌<◌, ◌≤◌, true, false, List, [], ◌∷◌, length, Contains, inl, inr, refl, sym, ap, ◌∙◌, subst, arith}
use Rattle.std.specs.List.{AllByRecursion}
use Rattle.std.specs.List.Sorted.{IsStrictlyIncreasing}
use Rattle.std.proofs.lemmas.Bool.{cases_eq}
use Rattle.ffc_bounds.specs.Monomials.{monomials, columns}
use Rattle.ffc_encode.proofs.LimitLemmas.{within_degree}
use Rattle.ffc_macaulay.proofs.CountLemmas.{each-append, length-monomials, grows_degree}
use Rattle.ffc_macaulay.proofs.LineLemmas.{line_among, line_short}
use Rattle.ffc_macaulay.proofs.MemberLemmas.{contains_cases, contains_none, product_listed, are_all}
use Rattle.ffc_poly.specs.Ordered.{AreWithin}
use Rattle.ffc_field.specs.Binomial.{choose}
use Rattle.ffc_ring.specs.Counting.{IsAmong, IsIn}
use Rattle.ffc_ring.specs.Monomial.{Monomial, IsMonomial}
use Rattle.ffc_ring.specs.Polynomial.{Terms, scaled, product}
use Rattle.ffc_ring.proofs.CountingLemmas.{variable_is}
use Rattle.ffc_ring.proofs.MonomialLemmas.{exponent-there}
use Rattle.ffc_rules.specs.Entries.{is_equality_at}
use Rattle.ffc_term.specs.Checks.{IsNodeOf}
use Rattle.ffc_term.specs.Checks.IsNodeOf.{listed, child, first, second}
use Rattle.ffc_term.specs.declared.node.Node.{Node}
use Rattle.ffc_term.specs.declared.node.Node.TheVariants.{Eq}
use Rattle.ffc_term.specs.Measuring.{degree_at}
use Rattle.ffc_term.specs.Nodes.{IsNodeAt, children, node_at}
use Rattle.ffc_term.specs.Tables.{IsTable, IsFieldAt}
use Rattle.ffc_trees.specs.FirstLines.{difference_of, first_line}
use Rattle.ffc_trees.specs.NodePolynomials.{variable, constant, poly_at, EachMonomial, HasVariables, IsVariableAt}
use Rattle.ffc_trees.specs.Normal.{IsNormal}
use Rattle.ffc_trees.proofs.BoundLemmas.{poly_at-bounded}
use Rattle.ffc_trees.proofs.VariableLemmas.{poly_at-variables}
use Rattle.ffc_combination.proofs.SideLemmas.{has_sides, difference_is}
use Rattle.ffc_combination.proofs.LineLemmas.{line_terms, line_same, line_normal}

-- ---- variables

among_from : (xs : List ℕ) (x : ℕ) → Contains xs x → IsAmong xs x
among_from [] x has = absurd (contains_none x has)
among_from (y ∷ xs) x has = elim (contains_cases y xs x has) as (λ _. IsAmong (y ∷ xs) x) [
  | inl here ↦ inl (sym here)
  | inr later ↦ inr (among_from xs x later)
]

variables_in : (P : ℕ → Type 0) (xs : List ℕ) → ((x : ℕ) → P x → Contains xs x) → (m : Monomial) → HasVariables P m → IsIn xs m
variables_in P xs f [] has x some = absurd (some refl)
variables_in P xs f (q ∷ m) has x some = elim (cases_eq x q.0) as (λ _. IsAmong xs x) [
  | inl here ↦ subst (IsAmong xs) (sym here) (among_from xs q.0 (f q.0 has.0))
  | inr there ↦ variables_in P xs f m has.1 x (λ none. some (exponent-there q m x there ∙ none))
]

-- the nodes of the check over a child are among those of the check over its parent
only_one : (c x : ℕ) → Contains (c ∷ []) x → c ≡ x
only_one c x has = elim (contains_cases c [] x has) as (λ _. c ≡ x) [ inl here ↦ here | inr later ↦ absurd (contains_none x later) ]

pub nodes_of_child : (ns : List Node) (id c x : ℕ) (n : Node) → IsNodeAt ns id n → Contains (children n) c → IsNodeOf ns (c ∷ []) x → IsNodeOf ns (id ∷ []) x
nodes_of_child ns id c x n at has (listed is) = subst (IsNodeOf ns (id ∷ [])) (only_one c x is) (child n (listed (0, omega arith, refl)) at has)
nodes_of_child ns id c x n at has (child m of there is) = child m (nodes_of_child ns id c _ n at has of) there is
nodes_of_child ns id c x n at has (first d a b of there e) = first d a b (nodes_of_child ns id c _ n at has of) there e
nodes_of_child ns id c x n at has (second d a b of there e) = second d a b (nodes_of_child ns id c _ n at has of) there e

-- ---- monomials

abbrev pub Listed : ℕ → List ℕ → Terms → Type 0
Listed d xs ts = AllByRecursion (λ t. Contains (monomials d xs) t.1) ts

terms_listed : (P : ℕ → Type 0) (d : ℕ) (xs : List ℕ) → IsStrictlyIncreasing xs → ((x : ℕ) → P x → Contains xs x) → (ts : Terms)
    → EachMonomial (λ m. IsMonomial m × HasVariables P m) ts → AreWithin d ts → Listed d xs ts
terms_listed P d xs rises f [] each low = tt
terms_listed P d xs rises f (t ∷ ts) each low = (
  are_all d xs rises t.1 (record { monomial = each.0.0; variables = variables_in P xs f t.1 each.0.1; low = low.0 }),
  terms_listed P d xs rises f ts each.1 low.1,
)

listed-scaled : (d c : ℕ) (xs : List ℕ) (ts : Terms) → Listed d xs ts → Listed d xs (scaled c ts)
listed-scaled d c xs [] each = tt
listed-scaled d c xs (t ∷ ts) each = (each.0, listed-scaled d c xs ts each.1)

low_more : (d e : ℕ) (ts : Terms) → d ≤ e → AreWithin d ts → AreWithin e ts
low_more d e [] less h = tt
low_more d e (t ∷ ts) less h = (omega (arith, less, h.0), low_more d e ts less h.1)

one_listed : (d : ℕ) (xs : List ℕ) → IsStrictlyIncreasing xs → Contains (monomials d xs) []
one_listed d xs rises = are_all d xs rises [] (record { monomial = tt; variables = λ x some. absurd (some refl); low = omega arith })

variable_listed : (w : ℕ) (xs : List ℕ) → IsStrictlyIncreasing xs → Contains xs w → Contains (monomials 1 xs) ((w, 1) ∷ [])
variable_listed w xs rises has = are_all 1 xs rises ((w, 1) ∷ []) (record {
  monomial = variable_is w;
  variables = λ x some. elim (cases_eq x w) as (λ _. IsAmong xs x) [
    | inl here ↦ subst (IsAmong xs) (sym here) (among_from xs w has)
    | inr there ↦ absurd (some (exponent-there (w, 1) [] x there))
  ];
  low = omega arith;
})

-- the product with a variable
product_terms_listed : (d w : ℕ) (xs : List ℕ) → IsStrictlyIncreasing xs → Contains xs w → (ts : Terms) → Listed d xs ts → Listed (d + 1) xs (product ts (variable w))
product_terms_listed d w xs rises has [] each = tt
product_terms_listed d w xs rises has (t ∷ ts) each = (
  product_listed (d + 1) d 1 xs t.1 ((w, 1) ∷ []) (omega arith) each.0 (variable_listed w xs rises has),
  product_terms_listed d w xs rises has ts each.1,
)

module _ (p : ℕ) (nodes : List Node) (table : IsTable nodes) (xs : List ℕ) (rises : IsStrictlyIncreasing xs) (id : ℕ) (is : is_equality_at nodes p id ≡ true)
    (variables : (x : ℕ) → IsNodeOf nodes (id ∷ []) x → IsVariableAt nodes p x → Contains xs x) where
  side_listed : (c s t : ℕ) → IsNodeAt nodes id (Eq s t) → Contains (s ∷ t ∷ []) c → IsFieldAt nodes p c → degree_at nodes c ≤ degree_at nodes id → Listed (degree_at nodes id) xs (poly_at nodes c)
  side_listed c s t at has field low =
      terms_listed (λ x. IsVariableAt nodes p x × IsNodeOf nodes (c ∷ []) x) (degree_at nodes id) xs rises (λ x there. variables x (nodes_of_child nodes id c x (Eq s t) at has there.1) there.0)
      (poly_at nodes c) (poly_at-variables nodes p c table field)
      (low_more (degree_at nodes c) (degree_at nodes id) (poly_at nodes c) low (within_degree (degree_at nodes c) (poly_at nodes c) (poly_at-bounded nodes p c table field).0))

  pub difference_listed : Listed (degree_at nodes id) xs (difference_of p nodes (node_at nodes id))
  difference_listed =
      let h = has_sides p nodes id table is in
      subst (Listed (degree_at nodes id) xs) (sym (difference_is p nodes id h.left h.right table h.at h.sides))
      (each-append (λ t. Contains (monomials (degree_at nodes id) xs) t.1) (poly_at nodes h.left) (scaled (p - 1) (poly_at nodes h.right))
      (side_listed h.left h.left h.right h.at (0, omega arith, refl) h.sides.first h.sides.first_low)
      (listed-scaled (degree_at nodes id) (p - 1) xs (poly_at nodes h.right) (side_listed h.right h.left h.right h.at (1, omega arith, refl) h.sides.second h.sides.second_low)))

  pub equation_listed : (w : ℕ) → 0 < p → Listed (degree_at nodes id) xs (first_line p nodes w (false, id))
  equation_listed w positive =
      line_among (Contains (monomials (degree_at nodes id) xs)) p (first_line p nodes w (false, id)) (line_terms p nodes w (false, id)) (line_normal p nodes w (false, id) positive)
      (line_same p nodes w (false, id)) difference_listed

  pub disequation_listed : (w : ℕ) → 0 < p → Contains xs w → Listed (degree_at nodes id + 1) xs (first_line p nodes w (true, id))
  disequation_listed w positive has =
      line_among (Contains (monomials (degree_at nodes id + 1) xs)) p (first_line p nodes w (true, id)) (line_terms p nodes w (true, id)) (line_normal p nodes w (true, id) positive)
      (line_same p nodes w (true, id))
      (each-append (λ t. Contains (monomials (degree_at nodes id + 1) xs) t.1) (product (difference_of p nodes (node_at nodes id)) (variable w)) (scaled (p - 1) (constant 1))
      (product_terms_listed (degree_at nodes id) w xs rises has (difference_of p nodes (node_at nodes id)) difference_listed)
      (one_listed (degree_at nodes id + 1) xs rises, tt))

-- a line has no more terms than there are monomials
pub line_few : (p d e : ℕ) (xs : List ℕ) (line : Terms) → IsNormal p line → e ≤ d → AllByRecursion (λ t. Contains (monomials e xs) t.1) line → length line ≤ columns d xs
line_few p d e xs line normal less each =
    let short = line_short p line (monomials e xs) normal each in
    let more = grows_degree e (d - e) (length xs) in
    let same : choose (e + (d - e) + length xs) (length xs) ≡ choose (d + length xs) (length xs) = ap (λ k. choose (k + length xs) (length xs)) (let s : e + (d - e) ≡ d = omega arith in s) in
    omega (arith, short, more, same, length-monomials e xs, length-monomials d xs)
