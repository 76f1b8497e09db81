-- Values of affine forms, and equalities that are true or false by them.
use Rattle.std.proofs.Common.{◌≡◌, ◌≢◌, inl, inr, ℕ, zero, suc, ◌+◌, ◌*◌, ◌^◌, ◌%◌, ◌<◌, ◌==◌, nat_lt, Bool, true, false, cond, List, [], ◌∷◌, ◌++◌, length, map, get_or, sum_by, Option, Some, None, option_map, refl, sym, ap, ap₂, ◌∙◌, subst, arith, eq-eqb, ne_eqb, eqb-true, one-mul, mul-one}
use Rattle.std.specs.List.{AllByRecursion, AllPairs}
use Rattle.std.specs.List.Sorted.{IsStrictlyIncreasing}
use Rattle.std.proofs.Math.Nat.{mod-mod, pow-suc, pow-zero}
use Rattle.std.proofs.lemmas.Bool.{lt-ltb}
use Rattle.std.proofs.lemmas.List.Elements.{All-head, All-tail, recursion_from_All}
use Rattle.std.proofs.lemmas.List.Kept.{AllPairs-from_increasing}
use Rattle.std.proofs.lemmas.List.Sums.{sum_by-cons}
use Rattle.std.proofs.lemmas.Option.{none-some, same_Some}
use Rattle.ffc_echelon.specs.Vectors.{Coordinates, AreCoordinates, AreCoordinatesFrom, IsBelow, dot}
use Rattle.ffc_echelon.proofs.CoordinateLemmas.{coordinate-here, coordinate-there, coordinate-before}
use Rattle.ffc_field.specs.Modular.{sub_mod}
use Rattle.ffc_field.proofs.ModularLaws.{sub_mod-self, same_from_sub_mod}
use Rattle.ffc_ring.specs.Monomial.{Monomial, IsMonomial, mono_value}
use Rattle.ffc_ring.specs.Polynomial.{Terms, AreTerms, written, SamePolynomial, value_sum, poly_value}
use Rattle.ffc_ring.proofs.PolynomialLemmas.{cases_monomial, written-at, written-off, one_value, poly_value-difference}
use Rattle.ffc_rules.specs.Assignments.{number_of_constant, value_of_constant, value_of_number}
use Rattle.ffc_rules.specs.Entries.{is_equality_at}
use Rattle.ffc_rules.proofs.AssignmentLemmas.{node_at-is}
use Rattle.ffc_rules.proofs.GivenLemmas.{equality_at}
use Rattle.ffc_term.specs.declared.node.Node.{Node}
use Rattle.ffc_term.specs.declared.node.Node.TheVariants.{FieldConst, Eq}
use Rattle.ffc_term.specs.declared.value.Value.{Value}
use Rattle.ffc_term.specs.declared.value.Value.TheVariants as value
use Rattle.ffc_term.specs.Nodes.{IsNodeAt, node_at}
use Rattle.ffc_term.specs.Tables.{IsTable, IsFieldAt}
use Rattle.ffc_term.specs.Values.{value_at, value_in, residue, residue_in}
use Rattle.ffc_term.proofs.ValueLemmas.{value_at-is, IsOrder-positive, IsOrder-from_IsFieldAt}
use Rattle.ffc_trees.specs.FirstLines.{difference_of}
use Rattle.ffc_trees.specs.Laws.{IsPointOf}
use Rattle.ffc_trees.specs.NodePolynomials.{poly_at}
use Rattle.ffc_trees.proofs.NodePolyLemmas.{poly_at-value, node_below}
use Rattle.ffc_linear.specs.Affine.{column_of, monomial_column, coordinate_if, IsAffineForm, AreAffineForms}
use Rattle.ffc_linear.proofs.FormLemmas.{same_at_monomials}
use Rattle.ffc_linear.proofs.SumLemmas.{difference_at}
use Rattle.ffc_linear.proofs.TermLemmas.{other_side, difference_terms}

-- Columns and monomials

-- no constant is listed twice
abbrev pub AreDistinct : List ℕ → Type 0
AreDistinct [] = Unit {0}
AreDistinct (id ∷ ids) = AllByRecursion (λ other. id ≢ other) ids × AreDistinct ids

distinct_from_pairs : (ids : List ℕ) → AllPairs (λ a b. a < b) ids → AreDistinct ids
distinct_from_pairs [] increase = tt
distinct_from_pairs (id ∷ ids) increase = (
  recursion_from_All (λ other. id ≢ other) ids
      (λ k d inside. λ same. let less : id < get_or ids k d = increase 0 (suc k) d (omega arith) (omega arith) in omega (arith, less, same)),
  distinct_from_pairs ids (λ i j d less inside. increase (suc i) (suc j) d (omega arith) (omega arith)),
)

pub distinct_from_increasing : (ids : List ℕ) → IsStrictlyIncreasing ids → AreDistinct ids
distinct_from_increasing ids increase = distinct_from_pairs ids (AllPairs-from_increasing ids increase)

-- the monomial of a column: the constant there, and 1 after the constants
abbrev column_monomial : List ℕ → ℕ → Monomial
column_monomial [] k = []
column_monomial (id ∷ ids) zero = (id, 1) ∷ []
column_monomial (id ∷ ids) (suc k) = column_monomial ids k

column_monomial-valid : (constants : List ℕ) (k : ℕ) → IsMonomial (column_monomial constants k)
column_monomial-valid [] k = tt
column_monomial-valid (id ∷ ids) zero = (omega arith, omega arith, tt)
column_monomial-valid (id ∷ ids) (suc k) = column_monomial-valid ids k

column_monomial-last : (constants : List ℕ) → column_monomial constants (length constants) ≡ []
column_monomial-last [] = refl
column_monomial-last (id ∷ ids) = column_monomial-last ids

column_monomial-constant : (constants : List ℕ) (x k : ℕ) → column_of constants x ≡ Some k → column_monomial constants k ≡ (x, 1) ∷ []
column_monomial-constant [] x k is = absurd (none-some k is)
column_monomial-constant (id ∷ ids) x k is = by_case (id == x) refl (λ j at. column_monomial-constant ids x j at) is
  where
    by_rest : (o : Option ℕ) → ((j : ℕ) → o ≡ Some j → column_monomial ids j ≡ (x, 1) ∷ []) → option_map suc o ≡ Some k → column_monomial (id ∷ ids) k ≡ (x, 1) ∷ []
    by_rest None at e = absurd (none-some k e)
    by_rest (Some j) at e = subst (λ i. column_monomial (id ∷ ids) i ≡ (x, 1) ∷ []) (same_Some (suc j) k e) (at j refl)

    by_case : (b : Bool) → (id == x) ≡ b → ((j : ℕ) → column_of ids x ≡ Some j → column_monomial ids j ≡ (x, 1) ∷ [])
        → cond b (Some 0) (option_map suc (column_of ids x)) ≡ Some k → column_monomial (id ∷ ids) k ≡ (x, 1) ∷ []
    by_case true same at e =
        subst (λ i. column_monomial (id ∷ ids) i ≡ (x, 1) ∷ []) (same_Some 0 k e) (ap (λ i. (i, 1) ∷ []) (eqb-true id x same))
    by_case false other at e = by_rest (column_of ids x) at e

-- a monomial with a column is the column's
column_monomial-of : (constants : List ℕ) (m : Monomial) (k : ℕ) → monomial_column constants m ≡ Some k → column_monomial constants k ≡ m
column_monomial-of constants [] k is =
    subst (λ i. column_monomial constants i ≡ []) (same_Some (length constants) k is) (column_monomial-last constants)
column_monomial-of constants ((x, e) ∷ []) k is = by_case (e == 1) refl is
  where
    by_case : (b : Bool) → (e == 1) ≡ b → cond b (column_of constants x) None ≡ Some k → column_monomial constants k ≡ (x, e) ∷ []
    by_case true one at = column_monomial-constant constants x k at ∙ ap (λ n. (x, n) ∷ []) (sym (eqb-true e 1 one))
    by_case false other at = absurd (none-some k at)
column_monomial-of constants (f ∷ g ∷ m) k is = absurd (none-some k is)

-- a number that differs from all constants is none that has a column
column_differs : (id x k : ℕ) (ids : List ℕ) → AllByRecursion (λ y. id ≢ y) ids → column_of ids x ≡ Some k → id ≢ x
column_differs id x k [] apart at = absurd (none-some k at)
column_differs id x k (y ∷ ids) apart at = by_case (y == x) refl (λ j there. column_differs id x j ids apart.1 there) at
  where
    by_rest : (o : Option ℕ) → ((j : ℕ) → o ≡ Some j → id ≢ x) → option_map suc o ≡ Some k → id ≢ x
    by_rest None rest e = absurd (none-some k e)
    by_rest (Some j) rest e = rest j refl

    by_case : (b : Bool) → (y == x) ≡ b → ((j : ℕ) → column_of ids x ≡ Some j → id ≢ x) → cond b (Some 0) (option_map suc (column_of ids x)) ≡ Some k → id ≢ x
    by_case true same rest e = λ one. apart.0 (one ∙ sym (eqb-true y x same))
    by_case false other rest e = by_rest (column_of ids x) rest e

-- one more constant in front of the others moves their columns by one
column-next : (id : ℕ) (ids : List ℕ) (m : Monomial) (k : ℕ) → AllByRecursion (λ y. id ≢ y) ids → monomial_column ids m ≡ Some k → monomial_column (id ∷ ids) m ≡ Some (suc k)
column-next id ids [] k apart is = ap (option_map suc) is
column-next id ids ((x, e) ∷ []) k apart is = by_case (e == 1) is
  where
    by_case : (b : Bool) → cond b (column_of ids x) None ≡ Some k → cond b (cond (id == x) (Some 0) (option_map suc (column_of ids x))) None ≡ Some (suc k)
    by_case true at =
        ap (λ c. cond c (Some 0) (option_map suc (column_of ids x))) (ne_eqb id x (column_differs id x k ids apart at))
        ∙ ap (option_map suc) at
    by_case false at = absurd (none-some k at)
column-next id ids (f ∷ g ∷ m) k apart is = absurd (none-some k is)

-- a column is that of its monomial
column-is : (constants : List ℕ) (k : ℕ) → AreDistinct constants → k < length constants + 1 → monomial_column constants (column_monomial constants k) ≡ Some k
column-is [] k distinct within = let e : 0 ≡ k = omega arith in ap Some e
column-is (id ∷ ids) zero distinct within = ap (λ b. cond b (Some 0) (option_map suc (column_of ids id))) (eq-eqb id id refl)
column-is (id ∷ ids) (suc k) distinct within =
    column-next id ids (column_monomial ids k) k distinct.0 (column-is ids k distinct.1 (omega arith))

-- Forms as polynomials

-- an affine form as a polynomial
abbrev terms_of_form : List ℕ → Coordinates → Terms
terms_of_form constants [] = []
terms_of_form constants (e ∷ v) = (e.1, column_monomial constants e.0) ∷ terms_of_form constants v

form_terms : (constants : List ℕ) (v : Coordinates) → AreTerms (terms_of_form constants v)
form_terms constants [] = tt
form_terms constants (e ∷ v) = (column_monomial-valid constants e.0, form_terms constants v)

coordinate_if-nil : (column : Option ℕ) → 0 ≡ coordinate_if [] column
coordinate_if-nil None = refl
coordinate_if-nil (Some k) = refl

coordinate_if-other : (e : ℕ × ℕ) (v : Coordinates) (column : Option ℕ) → (column ≡ Some e.0 → ⊥) → coordinate_if v column ≡ coordinate_if (e ∷ v) column
coordinate_if-other e v None other = refl
coordinate_if-other e v (Some k) other = sym (coordinate-there e v k (λ same. other (ap Some (sym same))))

-- what is written for a monomial is the coordinate in its column
written-form : (p low : ℕ) (constants : List ℕ) (v : Coordinates) (m : Monomial) → AreDistinct constants → AreCoordinatesFrom p low v → IsBelow (length constants + 1) v
    → written (terms_of_form constants v) m ≡ coordinate_if v (monomial_column constants m)
written-form p low constants [] m distinct valid below = coordinate_if-nil (monomial_column constants m)
written-form p low constants (e ∷ v) m distinct valid below =
    let Inside : ℕ × ℕ → Type 0 = λ f. f.0 < length constants + 1 in
    let t : ℕ × Monomial = (e.1, column_monomial constants e.0) in
    let rest = written-form p (suc e.0) constants v m distinct valid.3 (All-tail Inside e v below) in
    elim (cases_monomial (column_monomial constants e.0) m) as (λ _. written (terms_of_form constants (e ∷ v)) m ≡ coordinate_if (e ∷ v) (monomial_column constants m)) [
      | inl here ↦
          let at : monomial_column constants m ≡ Some e.0 = ap (monomial_column constants) (sym here) ∙ column-is constants e.0 distinct (All-head Inside e v below) in
          let none : written (terms_of_form constants v) m ≡ 0 = rest ∙ ap (coordinate_if v) at ∙ coordinate-before p (suc e.0) v e.0 valid.3 (omega arith) in
          written-at m t (terms_of_form constants v) here
          ∙ (let whole : e.1 + written (terms_of_form constants v) m ≡ e.1 = omega (arith, none) in whole)
          ∙ sym (ap (coordinate_if (e ∷ v)) at ∙ coordinate-here e v e.0 refl)
      | inr there ↦
          written-off m t (terms_of_form constants v) there ∙ rest
          ∙ coordinate_if-other e v (monomial_column constants m) (λ at. there (column_monomial-of constants m e.0 at))
    ]

-- the value of a column's monomial is that of the constant, or 1
column_value : (point : ℕ → ℕ) (constants : List ℕ) (k : ℕ) → k < length constants + 1 → mono_value point (column_monomial constants k) ≡ get_or (map point constants ++ 1 ∷ []) k 0
column_value point [] k within = let e : 0 ≡ k = omega arith in ap (λ i. get_or (1 ∷ []) i 0) e
column_value point (id ∷ ids) zero within =
    mul-one (point id ^ 1) ∙ pow-suc (point id) 0 ∙ ap (λ n. n * point id) (pow-zero (point id)) ∙ one-mul (point id)
column_value point (id ∷ ids) (suc k) within = column_value point ids k (omega arith)

value_sum-form : (point : ℕ → ℕ) (constants : List ℕ) (v : Coordinates) → IsBelow (length constants + 1) v
    → value_sum point (terms_of_form constants v) ≡ sum_by (λ e. e.1 * get_or (map point constants ++ 1 ∷ []) e.0 0) v
value_sum-form point constants [] below = refl
value_sum-form point constants (e ∷ v) below =
    let Inside : ℕ × ℕ → Type 0 = λ f. f.0 < length constants + 1 in
    ap₂ (λ a b. e.1 * a + b) (column_value point constants e.0 (All-head Inside e v below)) (value_sum-form point constants v (All-tail Inside e v below))
    ∙ sym (sum_by-cons (λ f. f.1 * get_or (map point constants ++ 1 ∷ []) f.0 0) e v)

module _ (p : ℕ) (nodes : List Node) (constants : List ℕ) (table : IsTable nodes) (distinct : AreDistinct constants) where
  difference-is_form : (id : ℕ) (v : Coordinates) → is_equality_at nodes p id ≡ true → AreCoordinates p v → IsAffineForm p nodes constants id v
      → SamePolynomial p (difference_at p nodes id) (terms_of_form constants v)
  difference-is_form id v equal valid form =
      same_at_monomials p nodes constants table (difference_at p nodes id) (terms_of_form constants v) (difference_terms nodes p id table equal) (form_terms constants v)
      (λ m mono.
      sym (mod-mod (written (difference_at p nodes id) m) p)
      ∙ ap (λ x. x % p) (form.same m mono ∙ sym (written-form p 0 constants v m distinct valid form.below)))

  -- the value of the difference of an equality's sides is the product of its form with the values of the constants and 1
  difference_value : (point : ℕ → ℕ) (id : ℕ) (v : Coordinates) → is_equality_at nodes p id ≡ true → AreCoordinates p v → IsAffineForm p nodes constants id v
      → poly_value p point (difference_at p nodes id) ≡ dot p (map point constants ++ 1 ∷ []) v
  difference_value point id v equal valid form =
      one_value p point (difference_at p nodes id) (terms_of_form constants v) (difference-is_form id v equal valid form)
      ∙ ap (λ x. x % p) (value_sum-form point constants v form.below)

-- Under an assignment

-- the residue of a node
abbrev pub residue_at : List Node → List Value → ℕ → ℕ
residue_at nodes A id = residue (value_at nodes A id)

-- a constant of the field of order p
abbrev pub IsFieldConstantAt : List Node → ℕ → ℕ → Type 0
IsFieldConstantAt nodes p id = (k : ℕ) × IsNodeAt nodes id (FieldConst k p)

module _ (nodes : List Node) (A : List Value) (p : ℕ) (table : IsTable nodes) where
  -- what an equality says of its sides
  record HasSides (id : ℕ) : Type 0 where
    left : ℕ
    right : ℕ
    left_below : residue_at nodes A left < p
    right_below : residue_at nodes A right < p
    difference : poly_value p (residue_at nodes A) (difference_at p nodes id) ≡ sub_mod p (residue_at nodes A left) (residue_at nodes A right)
    value_is : value_at nodes A id ≡ value.Bool (residue_at nodes A left == residue_at nodes A right)

  sides_of : (id : ℕ) → is_equality_at nodes p id ≡ true → HasSides id
  sides_of id is =
      let (s, t, at, side) = equality_at nodes p (true, id) table is in
      let other : IsFieldAt nodes p t = other_side nodes id p s t table at side in
      let points : IsPointOf nodes A p (residue_at nodes A) = λ x there. refl in
      record {
        left = s;
        right = t;
        left_below = node_below nodes A p s table side;
        right_below = node_below nodes A p t table other;
        difference =
            ap (λ n. poly_value p (residue_at nodes A) (difference_of p nodes n)) (node_at-is nodes id (Eq s t) at)
            ∙ poly_value-difference p (IsOrder-positive p (IsOrder-from_IsFieldAt nodes s p table.well_formed side)) (residue_at nodes A) (poly_at nodes s) (poly_at nodes t)
            ∙ ap₂ (sub_mod p) (poly_at-value nodes A p (residue_at nodes A) s table points side) (poly_at-value nodes A p (residue_at nodes A) t table points other);
        value_is = value_at-is nodes A id (Eq s t) table.well_formed at;
      }

  -- an equality is true where the difference of its sides is 0, and else false
  equality_true : (id : ℕ) → is_equality_at nodes p id ≡ true → poly_value p (residue_at nodes A) (difference_at p nodes id) ≡ 0 → value_at nodes A id ≡ value.Bool true
  equality_true id is none =
      let h = sides_of id is in
      let same = same_from_sub_mod p (residue_at nodes A h.left) (residue_at nodes A h.right) h.left_below h.right_below (sym h.difference ∙ none) in
      h.value_is ∙ ap value.Bool (eq-eqb (residue_at nodes A h.left) (residue_at nodes A h.right) same)

  equality_false : (id : ℕ) → is_equality_at nodes p id ≡ true → poly_value p (residue_at nodes A) (difference_at p nodes id) ≢ 0 → value_at nodes A id ≡ value.Bool false
  equality_false id is some =
      let h = sides_of id is in
      let below = h.right_below in
      let self : sub_mod p (residue_at nodes A h.right) (residue_at nodes A h.right) ≡ 0 = sub_mod-self p (residue_at nodes A h.right) (omega arith) in
      h.value_is
      ∙ ap value.Bool (ne_eqb (residue_at nodes A h.left) (residue_at nodes A h.right) (λ same. some (h.difference ∙ ap (λ r. sub_mod p r (residue_at nodes A h.right)) same ∙ self)))

  module _ (constants : List ℕ) (distinct : AreDistinct constants) where
    -- where all forms are 0, the equalities are true
    pub equalities_true : (ids : List ℕ) (vs : List Coordinates) → AllByRecursion (λ id. is_equality_at nodes p id ≡ true) ids → AreAffineForms p nodes constants ids vs
        → AllByRecursion (AreCoordinates p) vs → AllByRecursion (λ v. dot p (map (residue_at nodes A) constants ++ 1 ∷ []) v ≡ 0) vs → AllByRecursion (λ id. value_at nodes A id ≡ value.Bool true) ids
    equalities_true [] [] are forms valid zeros = tt
    equalities_true [] (v ∷ vs) are forms valid zeros = absurd forms
    equalities_true (id ∷ ids) [] are forms valid zeros = absurd forms
    equalities_true (id ∷ ids) (v ∷ vs) are forms valid zeros = (
      equality_true id are.0 (difference_value p nodes constants table distinct (residue_at nodes A) id v are.0 valid.0 forms.0 ∙ zeros.0),
      equalities_true ids vs are.1 forms.1 valid.1 zeros.1,
    )

    -- where no form is 0, they are false
    pub equalities_false : (ids : List ℕ) (vs : List Coordinates) → AllByRecursion (λ id. is_equality_at nodes p id ≡ true) ids → AreAffineForms p nodes constants ids vs
        → AllByRecursion (AreCoordinates p) vs → AllByRecursion (λ v. dot p (map (residue_at nodes A) constants ++ 1 ∷ []) v ≢ 0) vs → AllByRecursion (λ id. value_at nodes A id ≡ value.Bool false) ids
    equalities_false [] [] are forms valid some = tt
    equalities_false [] (v ∷ vs) are forms valid some = absurd forms
    equalities_false (id ∷ ids) [] are forms valid some = absurd forms
    equalities_false (id ∷ ids) (v ∷ vs) are forms valid some = (
      equality_false id are.0 (λ none. some.0 (sym (difference_value p nodes constants table distinct (residue_at nodes A) id v are.0 valid.0 forms.0) ∙ none)),
      equalities_false ids vs are.1 forms.1 valid.1 some.1,
    )

  -- a constant that is given a residue has it
  given_residue : (id n : ℕ) → IsFieldConstantAt nodes p id → n < p → value_of_constant nodes A id ≡ value_of_number (node_at nodes id) n → residue_at nodes A id ≡ n
  given_residue id n (k, at) below given =
      let node = node_at-is nodes id (FieldConst k p) at in
      let here : value_in A k ≡ value.Field n = ap (λ m. value_in A (number_of_constant m)) (sym node) ∙ given ∙ ap (λ m. value_of_number m n) node in
      let is : residue_in A k ≡ n = ap residue here in
      ap residue (value_at-is nodes A id (FieldConst k p) table.well_formed at) ∙ ap (λ r. cond (nat_lt r p) r 0) is
      ∙ ap (λ b. cond b n 0) (lt-ltb n p below)

  pub given_residues : (pairs : List (ℕ × ℕ)) → AllByRecursion (λ q. IsFieldConstantAt nodes p q.0) pairs → AllByRecursion (λ q. q.1 < p) pairs
      → AllByRecursion (λ q. value_of_constant nodes A q.0 ≡ value_of_number (node_at nodes q.0) q.1) pairs → map (residue_at nodes A) (map (λ q. q.0) pairs) ≡ map (λ q. q.1) pairs
  given_residues [] are below given = refl
  given_residues (q ∷ pairs) are below given = ap₂ ◌∷◌ (given_residue q.0 q.1 are.0 below.0 given.0) (given_residues pairs are.1 below.1 given.1)
