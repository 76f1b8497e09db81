-- The polynomials of equations at a point, and their lengths.
use Rattle.std.proofs.Common.{◌≡◌, ℕ, suc, ◌+◌, ◌<◌, ◌≤◌, List, [], ◌∷◌, length, All, Contains, refl, sym, ap, ◌∙◌, subst, arith}
use Rattle.std.proofs.lemmas.List.Elements.{All-nil, All-cons, All-head, All-tail, All-contains}
use Rattle.ffc_bounds.specs.Conjunctions.{equations}
use Rattle.ffc_conjunction.specs.declared.conjunction.Conjunction.{Conjunction}
use Rattle.ffc_ring.specs.Polynomial.{coefficient, SamePolynomial, poly_value}
use Rattle.ffc_ring.proofs.PolynomialLemmas.{one_value}
use Rattle.ffc_roots.specs.Separation.{Separates, AreSeparated}
use Rattle.ffc_rules.specs.Entries.{NodeCheck}
use Rattle.ffc_term.specs.declared.node.Node.{Node}
use Rattle.ffc_term.specs.Measuring.{degree_at, greatest_by}
use Rattle.ffc_term.specs.Nodes.{node_at}
use Rattle.ffc_trees.specs.FirstLines.{difference_of}
use Rattle.ffc_trees.proofs.PartLemmas.{greatest_at}
use Rattle.ffc_uni.specs.Univariate.{Coefficients, value_of, terms_in}
use Rattle.ffc_uni.proofs.RingLemmas.{value_in_ring}
use Rattle.ffc_single.specs.Bounds.{order_of, IsCommonRoot, AreCommonRootsSeparated, greatest_degree}
use Rattle.ffc_single.specs.Decisions.{IsFlatInOne}
use Rattle.ffc_single.specs.Univariate.{IsFormOf, AreFormsOf, IsEqualityIn}
use Rattle.ffc_single.proofs.FlatLemmas.{order_is}

module _ (p : ℕ) (ns : List Node) (x : ℕ) where
  -- the value of an equality's difference is its polynomial's
  pub form_value : (id : ℕ) (f : Coefficients) (point : ℕ → ℕ) → IsFormOf p ns x id f → poly_value p point (difference_of p ns (node_at ns id)) ≡ value_of p (point x) f
  form_value id f point form =
      sym (one_value p point (terms_in x f) (difference_of p ns (node_at ns id)) form.same) ∙ value_in_ring p x point f

  pub forms_long : (ids : List ℕ) (fs : List Coefficients) → AreFormsOf p ns x ids fs → length fs ≡ length ids
  forms_long [] [] are = refl
  forms_long [] (f ∷ fs) are = absurd are
  forms_long (id ∷ ids) [] are = absurd are
  forms_long (id ∷ ids) (f ∷ fs) are = ap suc (forms_long ids fs are.1)

  pub forms_as : (ids names : List ℕ) (fs gs : List Coefficients) → names ≡ ids → gs ≡ fs → AreFormsOf p ns x names fs → AreFormsOf p ns x ids gs
  forms_as ids names fs gs one two are = subst (λ hs. AreFormsOf p ns x ids hs) (sym two) (subst (λ is. AreFormsOf p ns x is fs) one are)

  -- what holds of each equality's difference
  pub each_difference : (P : Coefficients → Type 0) (Q : ℕ → Type 0) (ids : List ℕ) (fs : List Coefficients) → ((id : ℕ) (f : Coefficients) → IsFormOf p ns x id f → P f → Q id)
      → AreFormsOf p ns x ids fs → All P fs → All Q ids
  each_difference P Q [] [] step are each = All-nil Q
  each_difference P Q [] (f ∷ fs) step are each = absurd are
  each_difference P Q (id ∷ ids) [] step are each = absurd are
  each_difference P Q (id ∷ ids) (f ∷ fs) step are each =
      All-cons Q id ids (step id f are.0 (All-head P f fs each)) (each_difference P Q ids fs step are.1 (All-tail P f fs each))

  pub each_form : (Q : ℕ → Type 0) (P : Coefficients → Type 0) (ids : List ℕ) (fs : List Coefficients) → ((id : ℕ) (f : Coefficients) → IsFormOf p ns x id f → Q id → P f)
      → AreFormsOf p ns x ids fs → All Q ids → All P fs
  each_form Q P [] [] step are each = All-nil P
  each_form Q P [] (f ∷ fs) step are each = absurd are
  each_form Q P (id ∷ ids) [] step are each = absurd are
  each_form Q P (id ∷ ids) (f ∷ fs) step are each =
      All-cons P f fs (step id f are.0 (All-head Q id ids each)) (each_form Q P ids fs step are.1 (All-tail Q id ids each))

  -- no polynomial has more coefficients than the degrees allow
  pub forms_short : (n : ℕ) (ids : List ℕ) (fs : List Coefficients) → AreFormsOf p ns x ids fs → All (λ id. degree_at ns id ≤ n) ids → All (λ f. length f ≤ n + 1) fs
  forms_short n ids fs are low = each_form (λ id. degree_at ns id ≤ n) (λ f. length f ≤ n + 1) ids fs (λ id f form few. let most = form.low in omega arith) are low

  pub forms_within : (ids : List ℕ) (fs : List Coefficients) → AreFormsOf p ns x ids fs → All (IsEqualityIn p ns x) ids → All (λ f. length f ≤ 256) fs
  forms_within ids fs are usable = each_form (IsEqualityIn p ns x) (λ f. length f ≤ 256) ids fs (λ id f form is. let most = form.low in let few = is.low in omega arith) are usable

-- a residue modulo q at which the difference of each equation is 0
abbrev IsRootAt : NodeCheck → ℕ → ℕ → Type 0
IsRootAt c q r = (r < q) × All (λ id. poly_value q (λ _. r) (difference_of q c.nodes (node_at c.nodes id)) ≡ 0) (equations c.nodes c.in_force)

greatest_is_most : (ns : List Node) (ids : List ℕ) → All (λ id. degree_at ns id ≤ greatest_by (degree_at ns) ids) ids
greatest_is_most ns ids k d inside = greatest_at (degree_at ns) 0 ids k d inside

module _ (c : NodeCheck) (p x : ℕ) (conjunction : Conjunction) (flat : IsFlatInOne c p x conjunction) (equal : List Coefficients) (forms : AreFormsOf p c.nodes x conjunction.equations.items equal) where
  forms_of_equations : AreFormsOf p c.nodes x (equations c.nodes c.in_force) equal
  forms_of_equations = subst (λ ids. AreFormsOf p c.nodes x ids equal) flat.literals.equations_are forms

  pub number_of_forms : length equal ≡ length (equations c.nodes c.in_force)
  number_of_forms = forms_long p c.nodes x (equations c.nodes c.in_force) equal forms_of_equations

  pub forms_low : All (λ f. length f ≤ greatest_degree c + 1) equal
  forms_low = forms_short p c.nodes x (greatest_degree c) (equations c.nodes c.in_force) equal forms_of_equations (greatest_is_most c.nodes (equations c.nodes c.in_force))

  -- a residue at which all polynomials are 0 is a common root
  pub common_root : (s : ℕ) → s < p → All (λ f. value_of p s f ≡ 0) equal → IsCommonRoot c s
  common_root s below zeros =
      let own : IsRootAt c p s = (
        below,
        each_difference p c.nodes x (λ f. value_of p s f ≡ 0) (λ id. poly_value p (λ _. s) (difference_of p c.nodes (node_at c.nodes id)) ≡ 0) (equations c.nodes c.in_force) equal
            (λ id f form zero. form_value p c.nodes x id f (λ _. s) form ∙ zero) forms_of_equations zeros,
      ) in
      subst (λ q. IsRootAt c q s) (sym (order_is c p x conjunction flat)) own

  -- so the roots of a polynomial whose roots are common roots are separated where these are
  pub roots_separated : (g : Coefficients) (bound : ℕ) → ((s : ℕ) → value_of p s g ≡ 0 → All (λ f. value_of p s f ≡ 0) equal) → AreCommonRootsSeparated c bound → AreSeparated p g bound
  roots_separated g bound zeros separated s t first second apart =
      let found = separated s t (common_root s first.0 (zeros s first.1)) (common_root t second.0 (zeros t second.1)) apart in
      (found.0, found.1, subst (λ q. Separates q found.0 s t) (order_is c p x conjunction flat) found.2)

  -- where all polynomials are 0, so is the difference of each equation
  pub all_zero : All (λ f. f ≡ []) equal → (id : ℕ) → Contains (equations c.nodes c.in_force) id → SamePolynomial (order_of c) (difference_of (order_of c) c.nodes (node_at c.nodes id)) []
  all_zero none id has =
      let zero : SamePolynomial p (difference_of p c.nodes (node_at c.nodes id)) [] =
      All-contains (λ i. SamePolynomial p (difference_of p c.nodes (node_at c.nodes i)) []) (equations c.nodes c.in_force) id
      (each_difference p c.nodes x (λ f. f ≡ []) (λ i. SamePolynomial p (difference_of p c.nodes (node_at c.nodes i)) []) (equations c.nodes c.in_force) equal
      (λ i f form empty. λ m. sym (form.same m) ∙ ap (λ g. coefficient p (terms_in x g) m) empty) forms_of_equations none) has in
      subst (λ q. SamePolynomial q (difference_of q c.nodes (node_at c.nodes id)) []) (sym (order_is c p x conjunction flat)) zero
