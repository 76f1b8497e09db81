-- Combinations of equations refute.
use Rattle.std.proofs.Common.{◌≡◌, ℕ, ◌+◌, ◌-◌, ◌*◌, ◌%◌, ◌<◌, ◌≤◌, ◌==◌, Bool, true, false, cond, List, [], ◌∷◌, ◌++◌, length, map, All, Contains, refl, sym, ap, ap₂, ◌∙◌, subst, arith, length-append, append-nil, append_assoc, mul_comm}
use Rattle.std.specs.List.{AllByRecursion}
use Rattle.std.proofs.Math.Nat.{mod-lt, add-mul-mod_self_left}
use Rattle.std.proofs.lemmas.List.{get_or_at, length-map}
use Rattle.std.proofs.lemmas.List.Elements.{All-from_recursion, recursion_from_All, All-push, All-weaker, Contains-append_right}
use Rattle.ffc_clause.specs.Clauses.{Literal, plus, minus, negated, is_among}
use Rattle.ffc_echelon.specs.Vectors.{Coordinates, sum_in}
use Rattle.ffc_echelon.specs.Forms.{IsContradiction, IsCombination}
use Rattle.ffc_refutation.specs.declared.reason.Reason.{Reason}
use Rattle.ffc_refutation.specs.Combinations.{Summand, sum_of, IsAmong, IsSummand, IsNonzeroConstant, IsRefuted}
use Rattle.ffc_ring.specs.Monomial.{Monomial, degree, mono_mul}
use Rattle.ffc_ring.specs.Polynomial.{Terms, coefficient, SamePolynomial, product, difference, scaled, term_product}
use Rattle.ffc_ring.proofs.MonomialLemmas.{degree-mono_mul}
use Rattle.ffc_ring.proofs.PolynomialLemmas.{weighted, weighted-append, weighted-term_product, one_weighted, product_commutes, SamePolynomial-from_weighted, sum_alike, times_alike}
use Rattle.ffc_rules.specs.Entries.{NodeCheck, limits, is_equality_at, is_within}
use Rattle.ffc_smt.specs.Numbers.{is_order}
use Rattle.ffc_smt.proofs.SoundReading.{order_good}
use Rattle.ffc_term.specs.declared.node.Node.{Node}
use Rattle.ffc_term.specs.Tables.{IsTable}
use Rattle.ffc_trees.specs.Normal.{normal}
use Rattle.ffc_trees.specs.NodePolynomials.{variable, constant}
use Rattle.ffc_trees.specs.TreeLines.{line_at}
use Rattle.ffc_trees.specs.FirstLines.{first_line, first_lines_from, first_lines}
use Rattle.ffc_trees.proofs.NormalLemmas.{weighted-normal}
use Rattle.ffc_trees.proofs.RefuteLemmas.{order_prime}
use Rattle.ffc_linear.specs.Affine.{IsAffineForm, AreAffineForms}
use Rattle.ffc_linear.specs.Refuting.{literals_of, summands_from, IsUsable, AreForcedForms}
use Rattle.ffc_linear.proofs.TermLemmas.{difference_terms}
use Rattle.ffc_linear.proofs.SumLemmas.{difference_at, plain_sum, lines_of, line_sum, first_lines_are, length-lines_of, sum_is, weighted-line_sum}
use Rattle.ffc_linear.proofs.FormLemmas.{sum_is_constant, sum_is_form}
use Rattle.ffc_linear.proofs.LineLemmas.{affine_monomials, length-affine_monomials, is_in, is_in-contains, is_in-times, inverse_monomials, IsLineFor, equation_among, equation_short, disequation_among, disequation_short, each_summand, contained}

positive_order : (p : ℕ) → is_order p ≡ true → 0 < p
positive_order p is = let prime = order_prime p (order_good p is) in omega (arith, prime.least)

least_order : (p : ℕ) → is_order p ≡ true → 2 ≤ p
least_order p is = let prime = order_prime p (order_good p is) in prime.least

-- what holds of each equation's negation holds of the literals
each_literal : (P : Literal → Type 0) (ids cs : List ℕ) → AllByRecursion (λ id. P (minus id)) ids → AllByRecursion P (literals_of ids cs)
each_literal P [] cs each = tt
each_literal P (id ∷ ids) [] each = tt
each_literal P (id ∷ ids) (c ∷ cs) each = by_case (c == 0) (each_literal P ids cs each.1)
  where
    by_case : (b : Bool) → AllByRecursion P (literals_of ids cs) → AllByRecursion P (cond b (literals_of ids cs) (minus id ∷ literals_of ids cs))
    by_case true rest = rest
    by_case false rest = (each.0, rest)

literals_all : (P : Literal → Type 0) (ids cs : List ℕ) → All (λ id. P (minus id)) ids → All P (literals_of ids cs)
literals_all P ids cs each = All-from_recursion P (literals_of ids cs) (each_literal P ids cs (recursion_from_All (λ id. P (minus id)) ids each))

-- each line may be multiplied by a monomial
each_line : (p : ℕ) (nodes : List Node) (constants : List ℕ) (m : Monomial) (others : List Monomial) → IsTable nodes → 0 < p → length constants ≤ 4096
    → ((n : Monomial) → is_in (affine_monomials constants) n ≡ true → Contains others (mono_mul m n))
    → (ids : List ℕ) (vs : List Coordinates) → AreAffineForms p nodes constants ids vs → AllByRecursion (λ id. is_equality_at nodes p id ≡ true) ids
    → AllByRecursion (λ id. IsLineFor m others (normal p (difference_at p nodes id))) ids
each_line p nodes constants m others table positive few inside [] vs forms equal = tt
each_line p nodes constants m others table positive few inside (id ∷ ids) [] forms equal = absurd forms
each_line p nodes constants m others table positive few inside (id ∷ ids) (v ∷ vs) forms equal =
    let short = equation_short p nodes table positive constants id v equal.0 forms.0 in (
      record {
        short = omega (arith, short, length-affine_monomials constants);
        among = All-from_recursion (λ t. Contains others (mono_mul m t.1)) (normal p (difference_at p nodes id))
            (contained (affine_monomials constants) m others (normal p (difference_at p nodes id)) inside (equation_among p nodes table positive constants id v equal.0 forms.0));
      },
      each_line p nodes constants m others table positive few inside ids vs forms.1 equal.1,
    )

-- the degrees of the affine monomials
low_variables : (constants : List ℕ) → AllByRecursion (λ m. degree m ≤ 1) (map (λ x. (x, 1) ∷ []) constants)
low_variables [] = tt
low_variables (x ∷ constants) = (omega arith, low_variables constants)

low_products : (m : Monomial) (ms : List Monomial) → degree m ≤ 1 → AllByRecursion (λ n. degree n ≤ 1) ms → AllByRecursion (λ n. degree n ≤ 2) (map (mono_mul m) ms)
low_products m [] low each = tt
low_products m (n ∷ ms) low each = (omega (arith, degree-mono_mul m n, each.0), low_products m ms low each.1)

low_affine : (constants : List ℕ) → AllByRecursion (λ m. degree m ≤ 1) (affine_monomials constants)
low_affine constants = (omega arith, low_variables constants)

-- a multiple less itself and its negation's
multiplied_out : (q r b e : ℕ) → q ≡ r + 2 → b + (q - 1) * (b + (q - 1) * e) ≡ e + q * (b + r * e)
multiplied_out q r b e is =
    let less : q - 1 ≡ r + 1 = omega arith in
    ap (λ x. b + x * (b + x * e)) less ∙ (let same : b + (r + 1) * (b + (r + 1) * e) ≡ e + (r + 2) * (b + r * e) = omega arith in same) ∙ ap (λ x. e + x * (b + r * e)) (sym is)

cancels : (q a b x e : ℕ) → 2 ≤ q → a % q ≡ b % q → x % q ≡ (b + (q - 1) * e) % q → (a + (q - 1) * x) % q ≡ e % q
cancels q a b x e least one two =
    sum_alike q a b ((q - 1) * x) ((q - 1) * (b + (q - 1) * e)) one
    (ap (λ n. n % q) (mul_comm (q - 1) x) ∙ times_alike q x (b + (q - 1) * e) (q - 1) two ∙ ap (λ n. n % q) (mul_comm (b + (q - 1) * e) (q - 1)))
    ∙ ap (λ n. n % q) (multiplied_out q (q - 2) b e (let s : q ≡ q - 2 + 2 = omega arith in s)) ∙ add-mul-mod_self_left e q (b + (q - 2) * e)

module _ (c : NodeCheck) (p : ℕ) (reasons : List Reason) (forced : List Literal) (constants equations : List ℕ) (vectors : List Coordinates) (are : AreForcedForms c p reasons forced constants equations vectors)
    (cs : List ℕ) (below : All (λ x. x < p) cs) (long : length cs ≡ length equations) where
  equal : All (λ id. is_equality_at c.nodes p id ≡ true) equations
  equal = All-weaker (IsUsable c p) (λ id. is_equality_at c.nodes p id ≡ true) (λ id u. u.equality) equations are.usable

  inside : All (λ id. is_within limits c.nodes id ≡ true) equations
  inside = All-weaker (IsUsable c p) (λ id. is_within limits c.nodes id ≡ true) (λ id u. u.within) equations are.usable

  lines_for : (m : Monomial) (others : List Monomial) → ((n : Monomial) → is_in (affine_monomials constants) n ≡ true → Contains others (mono_mul m n))
      → AllByRecursion (λ id. IsLineFor m others (normal p (difference_at p c.nodes id))) equations
  lines_for m others f =
      each_line p c.nodes constants m others are.table (positive_order p are.order) are.few f equations vectors are.forms
      (recursion_from_All (λ id. is_equality_at c.nodes p id ≡ true) equations equal)

  small : AllByRecursion (λ x. x < p) cs
  small = recursion_from_All (λ x. x < p) cs below

  count_affine : length (affine_monomials constants) ≤ 4097
  count_affine = let few = are.few in omega (arith, length-affine_monomials constants)

  -- Equations

  equation_lines : first_lines c.nodes p (literals_of equations cs) ≡ lines_of p c.nodes equations cs ++ []
  equation_lines =
      ap (first_lines_from p c.nodes (length c.nodes)) (sym (append-nil (literals_of equations cs)))
      ∙ first_lines_are p c.nodes (length c.nodes) equations cs []

  equation_sum : SamePolynomial p (sum_of (lines_of p c.nodes equations cs ++ []) (summands_from 0 [] cs)) (plain_sum p c.nodes equations cs)
  equation_sum m =
      ap (λ ts. coefficient p ts m) (sum_is p c.nodes [] [] [] 0 equations cs refl long)
      ∙ SamePolynomial-from_weighted p (line_sum p c.nodes [] equations cs) (plain_sum p c.nodes equations cs) (λ g. weighted-line_sum p c.nodes g [] equations cs) m

  pub equations_refuted : IsContradiction p (length constants) vectors cs → IsRefuted c reasons p (literals_of equations cs) (summands_from 0 [] cs)
  equations_refuted is =
      let positive = positive_order p are.order in
      record {
        forced = forced;
        forces = are.forces;
        lemma = record {
          order = are.order;
          equalities = literals_all (λ x. is_equality_at c.nodes p x.1 ≡ true) equations cs equal;
          within = literals_all (λ x. is_within limits c.nodes x.1 ≡ true) equations cs inside;
          false_of = literals_all (λ x. is_among forced (negated x) ≡ true) equations cs are.forced_are;
        };
        combination = subst (λ ls. IsNonzeroConstant p ls (summands_from 0 [] cs)) (sym equation_lines) (record {
          monomials = affine_monomials constants;
          few = omega (arith, count_affine);
          low = All-weaker (λ m. degree m ≤ 1) (λ m. degree m ≤ 1024) (λ m low. omega arith) (affine_monomials constants) (All-from_recursion (λ m. degree m ≤ 1) (affine_monomials constants) (low_affine constants));
          each = All-from_recursion (IsSummand p (lines_of p c.nodes equations cs ++ []) (affine_monomials constants)) (summands_from 0 [] cs)
              (each_summand p c.nodes [] (affine_monomials constants) tt (omega arith) (omega arith) [] [] 0 equations cs refl long
              (lines_for [] (affine_monomials constants) (is_in-contains (affine_monomials constants))) small);
          value = sum_in cs vectors (length constants) % p;
          nonzero = let some = is.constant in omega arith;
          residue = mod-lt (sum_in cs vectors (length constants)) positive;
          sum = λ m. equation_sum m ∙ sum_is_constant p c.nodes constants are.table equations cs vectors equal are.forms is m;
        });
      }

  -- A disequation

  module _ (id : ℕ) (v : Coordinates) (usable : IsUsable c p id) (denied : is_among forced (minus id) ≡ true) (form : IsAffineForm p c.nodes constants id v) where
    abbrev place : ℕ
    place = length (literals_of equations cs)

    abbrev inverse : ℕ
    inverse = length c.nodes + length (literals_of equations cs)

    abbrev power : Monomial
    power = (length c.nodes + length (literals_of equations cs), 1) ∷ []

    abbrev last_line : Terms
    last_line = normal p (difference p (product (difference_at p c.nodes id) (variable inverse)) (constant 1))

    abbrev all_lines : List Terms
    all_lines = lines_of p c.nodes equations cs ++ (last_line ∷ [])

    disequation_lines : first_lines c.nodes p (literals_of equations cs ++ plus id ∷ []) ≡ all_lines
    unfolding first_line
    disequation_lines = first_lines_are p c.nodes (length c.nodes) equations cs (plus id ∷ [])

    last_at : line_at all_lines place ≡ last_line
    last_at = get_or_at (lines_of p c.nodes equations cs) last_line [] [] place (length-lines_of p c.nodes equations cs)

    sum_of-append : (lines : List Terms) (a b : List Summand) → sum_of lines (a ++ b) ≡ sum_of lines a ++ sum_of lines b
    sum_of-append lines [] b = refl
    sum_of-append lines (s ∷ a) b =
        ap (λ ts. term_product s.1.0 s.1.1 (line_at lines s.0) ++ ts) (sum_of-append lines a b)
        ∙ sym (append_assoc (term_product s.1.0 s.1.1 (line_at lines s.0)) (sum_of lines a) (sum_of lines b))

    whole_sum : sum_of all_lines (summands_from 0 power cs ++ (place, (p - 1, [])) ∷ []) ≡ line_sum p c.nodes power equations cs ++ scaled (p - 1) last_line
    whole_sum =
        sum_of-append all_lines (summands_from 0 power cs) ((place, (p - 1, [])) ∷ [])
        ∙ ap₂ (λ a b. a ++ b) (sum_is p c.nodes power [] (last_line ∷ []) 0 equations cs refl long)
        (append-nil (term_product (p - 1) [] (line_at all_lines place)) ∙ ap (scaled (p - 1)) last_at)

    disequation_sum : IsCombination p vectors v [] cs → SamePolynomial p (line_sum p c.nodes power equations cs ++ scaled (p - 1) last_line) (constant 1)
    disequation_sum is =
        SamePolynomial-from_weighted p (line_sum p c.nodes power equations cs ++ scaled (p - 1) last_line) (constant 1) (λ g.
        let d = difference_at p c.nodes id in
        let h : Monomial → ℕ = λ n. g (mono_mul power n) in
        let same = sum_is_form p c.nodes constants are.table equations cs vectors id v equal are.forms usable.equality form is in
        let one : weighted g (line_sum p c.nodes power equations cs) % p ≡ weighted h d % p =
        weighted-line_sum p c.nodes g power equations cs ∙ one_weighted p h (plain_sum p c.nodes equations cs) d same in
        let swapped : weighted g (product d (variable inverse)) % p ≡ weighted h d % p =
        one_weighted p g (product d (variable inverse)) (product (variable inverse) d) (product_commutes p d (variable inverse) (difference_terms c.nodes p id are.table usable.equality) ((omega arith, omega arith, tt), tt))
        ∙ ap (λ x. x % p) (ap (weighted g) (append-nil (term_product 1 power d)) ∙ weighted-term_product g 1 power d ∙ (let e : 1 * weighted h d ≡ weighted h d = omega arith in e)) in
        let two : weighted g last_line % p ≡ (weighted h d + (p - 1) * weighted g (constant 1)) % p =
        weighted-normal p g (difference p (product d (variable inverse)) (constant 1))
        ∙ ap (λ x. x % p) (weighted-append g (product d (variable inverse)) (scaled (p - 1) (constant 1)) ∙ ap (λ x. weighted g (product d (variable inverse)) + x) (weighted-term_product g (p - 1) [] (constant 1)))
        ∙ sum_alike p (weighted g (product d (variable inverse))) (weighted h d) ((p - 1) * weighted g (constant 1)) ((p - 1) * weighted g (constant 1)) swapped refl in
        ap (λ x. x % p) (weighted-append g (line_sum p c.nodes power equations cs) (scaled (p - 1) last_line) ∙ ap (λ x. weighted g (line_sum p c.nodes power equations cs) + x) (weighted-term_product g (p - 1) [] last_line))
        ∙ cancels p (weighted g (line_sum p c.nodes power equations cs)) (weighted h d) (weighted g last_line) (weighted g (constant 1)) (least_order p are.order) one two)

    abbrev others : List Monomial
    others = inverse_monomials constants inverse

    count_inverse : length others ≤ 4098
    count_inverse = let few = count_affine in omega (arith, length-map (affine_monomials constants) (mono_mul power))

    -- the multiples of the equations' lines, and of the last one
    equation_multiples : All (IsSummand p all_lines others) (summands_from 0 power cs)
    equation_multiples =
        All-from_recursion (IsSummand p all_lines others) (summands_from 0 power cs)
        (each_summand p c.nodes power others (omega arith, omega arith, tt) (omega arith) (omega arith) [] (last_line ∷ []) 0 equations cs refl long
        (lines_for power others (λ n is.
        Contains-append_right ([] ∷ []) (map (mono_mul power) (affine_monomials constants)) (mono_mul power n)
        (is_in-contains (map (mono_mul power) (affine_monomials constants)) (mono_mul power n) (is_in-times power (affine_monomials constants) n is))))
        small)

    last_multiple : IsSummand p all_lines others (place, (p - 1, []))
    last_multiple =
        let positive = positive_order p are.order in
        let short = disequation_short p c.nodes are.table positive constants id v usable.equality form inverse in
        record {
          there = omega (arith, length-append (lines_of p c.nodes equations cs) (last_line ∷ []), length-lines_of p c.nodes equations cs);
          residue = omega arith;
          monomial = tt;
          powers = omega arith;
          low = omega arith;
          short = subst (λ ts. length ts ≤ 8192) (sym last_at) (omega (arith, short, count_inverse));
          among = subst (IsAmong others []) (sym last_at)
              (All-from_recursion (λ t. Contains others (mono_mul [] t.1)) last_line
              (contained others [] others last_line (is_in-contains others) (disequation_among p c.nodes are.table positive constants id v usable.equality form inverse)));
        }

    pub disequation_refuted : IsCombination p vectors v [] cs → IsRefuted c reasons p (literals_of equations cs ++ plus id ∷ []) (summands_from 0 power cs ++ (place, (p - 1, [])) ∷ [])
    disequation_refuted is =
        let lits = literals_of equations cs in
        record {
          forced = forced;
          forces = are.forces;
          lemma = record {
            order = are.order;
            equalities = All-push (λ x. is_equality_at c.nodes p x.1 ≡ true) lits (plus id) (literals_all (λ x. is_equality_at c.nodes p x.1 ≡ true) equations cs equal) usable.equality;
            within = All-push (λ x. is_within limits c.nodes x.1 ≡ true) lits (plus id) (literals_all (λ x. is_within limits c.nodes x.1 ≡ true) equations cs inside) usable.within;
            false_of = All-push (λ x. is_among forced (negated x) ≡ true) lits (plus id) (literals_all (λ x. is_among forced (negated x) ≡ true) equations cs are.forced_are) denied;
          };
          combination = subst (λ ls. IsNonzeroConstant p ls (summands_from 0 power cs ++ (place, (p - 1, [])) ∷ [])) (sym disequation_lines) (record {
            monomials = others;
            few = omega (arith, count_inverse);
            low = All-weaker (λ m. degree m ≤ 2) (λ m. degree m ≤ 1024) (λ m low. omega arith) others
                (All-from_recursion (λ m. degree m ≤ 2) others (omega arith, low_products power (affine_monomials constants) (omega arith) (low_affine constants)));
            each = All-push (IsSummand p all_lines others) (summands_from 0 power cs) (place, (p - 1, [])) equation_multiples last_multiple;
            value = 1;
            nonzero = omega arith;
            residue = let least = least_order p are.order in omega arith;
            sum = λ m. ap (λ ts. coefficient p ts m) whole_sum ∙ disequation_sum is m;
          });
        }
