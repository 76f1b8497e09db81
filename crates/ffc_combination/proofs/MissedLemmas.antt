-- Values of the constants at which a literal of what is forced is false refute the check.
use Rattle.std.proofs.Common.{inl, inr, ◌≡◌, ℕ, ◌+◌, ◌-◌, ◌<◌, ◌≤◌, Bool, true, false, List, [], ◌∷◌, ◌++◌, length, map, take, drop, get_or, All, Contains, Some, refl, sym, ap, ap₂, ◌∙◌, subst, arith, length-append}
use Rattle.std.specs.List.{AllByRecursion, AllZip}
use Rattle.std.proofs.lemmas.Bool.{false≢true}
use Rattle.std.proofs.lemmas.List.{get_or_append_left, take-append-drop}
use Rattle.std.proofs.lemmas.List.Elements.{All-contains, All-get_or, All-weaker, Contains-append_left, Contains-append_cases, Contains-get_or, recursion_from_All}
use Rattle.std.proofs.lemmas.Option.{slice_get-get_or}
use Rattle.ffc_bounds.specs.Combinations.{IsMultiple, node_variables}
use Rattle.ffc_bounds.specs.Monomials.{monomials}
use Rattle.ffc_clause.specs.Clauses.{Literal, negated, is_among}
use Rattle.ffc_macaulay.proofs.LineLemmas.{line_among}
use Rattle.ffc_macaulay.proofs.MemberLemmas.{contains_cases, contains_none, up_to_at, are_all}
use Rattle.ffc_refutation.specs.Combinations.{Summand, sum_of, IsDetermined, IsFalseLemma, IsSummand}
use Rattle.ffc_refutation.specs.declared.combination.Determined.{Determined}
use Rattle.ffc_refutation.specs.declared.reason.Reason.{Reason}
use Rattle.ffc_ring.specs.Monomial.{Monomial, mono_mul}
use Rattle.ffc_ring.specs.Polynomial.{Terms, SamePolynomial, difference, term_product}
use Rattle.ffc_rules.specs.Entries.{NodeCheck, limits, is_equality_at, is_within}
use Rattle.ffc_term.specs.Measuring.{degree_at}
use Rattle.ffc_term.specs.Nodes.{node_at}
use Rattle.ffc_term.specs.Values.{is_same_truth, truth, value_at}
use Rattle.ffc_trees.specs.FirstLines.{difference_of, first_line, first_lines}
use Rattle.ffc_trees.specs.NodePolynomials.{EachMonomial, constant, variable}
use Rattle.ffc_trees.specs.Normal.{IsNormal}
use Rattle.ffc_trees.specs.TreeLines.{line_at}
use Rattle.ffc_values.specs.Values.{AreKnown, IsLow, IsRefutedByValues}
use Rattle.ffc_macaulay.specs.Solutions.{IsSolution}
use Rattle.ffc_combination.specs.declared.choices.Choice.{Choice}
use Rattle.ffc_combination.specs.Solving.{IsMissed, residue_at}
use Rattle.ffc_combination.specs.Values.{IsLemmaWith, literal_at}
use Rattle.ffc_combination.specs.Forced.{IsUsable}
use Rattle.ffc_combination.proofs.ForcedLemmas.{atom_usable, variable_listed, variables_inside, variables_rise}
use Rattle.ffc_combination.proofs.DenialLemmas.{IsTested, chosen_prefix, each_of, tested_each}
use Rattle.ffc_combination.proofs.LineLemmas.{lines-push}
use Rattle.ffc_combination.proofs.SolutionLemmas.{own_are, values_counted}
use Rattle.ffc_combination.proofs.ModelLemmas.{IsFlatFor, flat_for, solved_at}
use Rattle.ffc_combination.proofs.TruthLemmas.{zero_by_truth, nonzero_by_falsehood}
use Rattle.ffc_combination.proofs.WithinLemmas.{difference_listed}

-- ---- more lines

module _ (p : ℕ) (lines more : List Terms) where
  line_kept : (k : ℕ) → k < length lines → line_at (lines ++ more) k ≡ line_at lines k
  line_kept k there = get_or_append_left lines more [] k there

  summand_kept : (ms : List Monomial) (s : Summand) → IsSummand p lines ms s → IsSummand p (lines ++ more) ms s
  summand_kept ms s is =
      let there = is.there in
      record {
        there = omega (arith, there, length-append lines more);
        residue = is.residue;
        monomial = is.monomial;
        powers = is.powers;
        low = is.low;
        short = subst (λ (t : Terms). length t ≤ 8192) (sym (line_kept s.0 is.there)) is.short;
        among = subst (λ (t : Terms). All (λ u. Contains ms (mono_mul s.1.1 u.1)) t) (sym (line_kept s.0 is.there)) is.among;
      }

  sum_kept : (ms : List Monomial) (summands : List Summand) → AllByRecursion (IsSummand p lines ms) summands → sum_of (lines ++ more) summands ≡ sum_of lines summands
  sum_kept ms [] each = refl
  sum_kept ms (s ∷ summands) each = ap₂ (λ (t us : Terms). term_product s.1.0 s.1.1 t ++ us) (line_kept s.0 each.0.there) (sum_kept ms summands each.1)

  -- what lines determine they determine with others after them
  determined_kept : (x value : ℕ) (summands : List Summand) → IsDetermined p lines x value summands → IsDetermined p (lines ++ more) x value summands
  determined_kept x value summands is = record {
    monomials = is.monomials;
    few = is.few;
    low = is.low;
    each = All-weaker (IsSummand p lines is.monomials) (IsSummand p (lines ++ more) is.monomials) (summand_kept is.monomials) summands is.each;
    residue = is.residue;
    sum = subst (λ (t : Terms). SamePolynomial p t (difference p (variable x) (constant value))) (sym (sum_kept is.monomials summands (recursion_from_All (IsSummand p lines is.monomials) summands is.each))) is.sum;
  }

-- ---- the values

known_from : (p : ℕ) (lines : List Terms) (nodes d : ℕ) (xs degrees : List ℕ) (f : ℕ → ℕ) (old : List Terms) → ((x value : ℕ) (summands : List Summand) → IsDetermined p old x value summands → IsDetermined p lines x value summands)
    → (ys : List ℕ) (values : List Determined) → AllZip (IsSolution p d xs degrees old) ys values → map f ys ≡ map (λ v. v.value) values → AllByRecursion (λ y. y < nodes) ys → AreKnown p lines nodes d f ys values
known_from p lines nodes d xs degrees f old kept [] [] each same below = tt
known_from p lines nodes d xs degrees f old kept [] (v ∷ values) each same below = absurd each
known_from p lines nodes d xs degrees f old kept (y ∷ ys) [] each same below = absurd each
known_from p lines nodes d xs degrees f old kept (y ∷ ys) (v ∷ values) each same below = (
  record {
    below = below.0;
    value = (let e : f y ≡ v.value = cc in e);
    determined = kept y v.value v.summands.items each.0.determined;
    low = All-weaker (IsMultiple p d xs degrees) (λ s. IsLow d s.1.1) (λ s is. let up = up_to_at (d - get_or degrees s.0 0) xs s.1.1 is.monomial in let low = up.low in omega (arith, low)) v.summands.items each.0.each;
  },
  known_from p lines nodes d xs degrees f old kept ys values each.1 (let e : map f ys ≡ map (λ u. u.value) values = cc in e) below.1,
)

known_append : (p : ℕ) (lines : List Terms) (nodes d : ℕ) (f : ℕ → ℕ) (ys rest : List ℕ) (values : List Determined) → AreKnown p lines nodes d f ys values → AreKnown p lines nodes d f (ys ++ rest) values
known_append p lines nodes d f ys rest [] known = tt
known_append p lines nodes d f [] rest (v ∷ values) known = absurd known
known_append p lines nodes d f (y ∷ ys) rest (v ∷ values) known = (known.0, known_append p lines nodes d f ys rest values known.1)

-- ---- the sides

monomials_of_sides : (P : Monomial → Type 0) (ts : Terms) → AllByRecursion (λ t. P t.1) ts → EachMonomial P ts
monomials_of_sides P [] each = tt
monomials_of_sides P (t ∷ ts) each = (each.0, monomials_of_sides P ts each.1)

each_weaker : (P Q : Monomial → Type 0) → ((m : Monomial) → P m → Q m) → (ts : Terms) → EachMonomial P ts → EachMonomial Q ts
each_weaker P Q f [] each = tt
each_weaker P Q f (t ∷ ts) each = (f t.1 each.0, each_weaker P Q f ts each.1)

is_false : (b : Bool) (v : Bool) → b ≡ false → is_same_truth b v ≡ true → v ≡ false
is_false false true denied is = absurd (false≢true is)
is_false false false denied is = refl
is_false true v denied is = absurd (false≢true (sym denied))

is_true : (b : Bool) (v : Bool) → b ≡ true → is_same_truth b v ≡ true → v ≡ true
is_true true v claimed is = is
is_true false v claimed is = absurd (false≢true claimed)

module _ (c : NodeCheck) (p : ℕ) (reasons : List Reason) (x : Choice) (tested : List Literal) (values : List Determined) (place : ℕ) (missed : IsMissed c p reasons x tested values place) where
  here : IsTested c missed.solved.degree (literal_at tested place)
  here = All-get_or (IsTested c missed.solved.degree) tested place (false, 0) missed.there (tested_each c p missed.solved.degree reasons x tested missed.solved.chosen missed.solved.solved.low (solved_at missed.solved.degree x missed.solved.solved.determined.count missed.solved.solved.determined.constants).1)

  pub usable : IsUsable p c.nodes (literal_at tested place).1
  usable =
      let check = missed.solved.chosen.check in
      atom_usable c check.valid p check.field check.limit (literal_at tested place).1 here.atom

  module _ (sides : Terms) (same : SamePolynomial p sides (difference_of p c.nodes (node_at c.nodes (literal_at tested place).1))) (normal : IsNormal p sides) where
    abbrev degree_here : ℕ
    degree_here = degree_at c.nodes (literal_at tested place).1

    among : EachMonomial (Contains (monomials (degree_at c.nodes (literal_at tested place).1) (node_variables c.nodes c.in_force))) sides
    among =
        let check = missed.solved.chosen.check in
        let id = (literal_at tested place).1 in
        let P : Monomial → Type 0 = Contains (monomials (degree_at c.nodes id) (node_variables c.nodes c.in_force)) in
        monomials_of_sides P sides
        (line_among P p sides (difference_of p c.nodes (node_at c.nodes id)) normal same
        (difference_listed p c.nodes check.valid.table (node_variables c.nodes c.in_force) (variables_rise c check.valid) id usable.equality (variable_listed c check.valid p check.field id here.atom)))

    low : EachMonomial (IsLow 255) sides
    low =
        let id = (literal_at tested place).1 in
        let u = usable in
        let most = u.low in
        each_weaker (Contains (monomials (degree_at c.nodes id) (node_variables c.nodes c.in_force))) (IsLow 255)
        (λ m has. let up = up_to_at (degree_at c.nodes id) (node_variables c.nodes c.in_force) m has in let below = up.low in omega (arith, below, most)) sides among

    within : EachMonomial (Contains (monomials missed.solved.degree (take (length values) x.variables.items))) sides
    within =
        let check = missed.solved.chosen.check in
        let id = (literal_at tested place).1 in
        let most = here.low in
        each_weaker (Contains (monomials (degree_at c.nodes id) (node_variables c.nodes c.in_force))) (Contains (monomials missed.solved.degree (take (length values) x.variables.items)))
        (λ m has.
        let up = up_to_at (degree_at c.nodes id) (node_variables c.nodes c.in_force) m has in
        let below = up.low in
        subst (λ ys. Contains (monomials missed.solved.degree ys) m) (sym (own_are c p reasons x tested values missed.solved))
        (are_all missed.solved.degree (node_variables c.nodes c.in_force) (variables_rise c check.valid) m (record { monomial = up.monomial; variables = up.variables; low = omega (arith, below, most) })))
        sides among

    module _ (literals : List Literal) (line : ℕ) (lemma : IsLemmaWith x.literals.items tested place literals line) where
      literals_among : (l : Literal) → Contains literals l → Contains tested l
      literals_among l has =
          let found = chosen_prefix c p missed.solved.degree reasons x tested missed.solved.chosen in
          let in_own : Contains x.literals.items l → Contains tested l = λ mine. subst (λ ls. Contains ls l) (sym found.parts) (Contains-append_left x.literals.items found.rest l mine) in
          elim lemma.literals_are as (λ _. Contains tested l) [
            | inl is ↦ in_own (subst (λ ls. Contains ls l) is has)
            | inr is ↦
                elim (Contains-append_cases x.literals.items (literal_at tested place ∷ []) l (subst (λ ls. Contains ls l) is has)) as (λ _. Contains tested l) [
                  | inl mine ↦ in_own mine
                  | inr last ↦
                      elim (contains_cases (literal_at tested place) [] l last) as (λ _. Contains tested l) [
                        | inl same_one ↦ subst (Contains tested) same_one (Contains-get_or tested place (false, 0) missed.there)
                        | inr none ↦ absurd (contains_none l none)
                      ]
                ]
          ]

      each_literal : (P : Literal → Type 0) → All P tested → All P literals
      each_literal P all = each_of P literals (λ l has. All-contains P tested l all (literals_among l has))

      false_lemma : IsFalseLemma c p missed.solved.chosen.tested_denied.forced literals
      false_lemma =
          let of = missed.solved.chosen.tested_denied.lemma in
          record { order = of.order; equalities = each_literal (λ l. is_equality_at c.nodes p l.1 ≡ true) of.equalities; within = each_literal (λ l. is_within limits c.nodes l.1 ≡ true) of.within; false_of = each_literal (λ l. is_among missed.solved.chosen.tested_denied.forced (negated l) ≡ true) of.false_of }

      lines_kept : (y value : ℕ) (summands : List Summand) → IsDetermined p (first_lines c.nodes p x.literals.items) y value summands → IsDetermined p (first_lines c.nodes p literals) y value summands
      lines_kept y value summands is = elim lemma.literals_are as (λ _. IsDetermined p (first_lines c.nodes p literals) y value summands) [
        | inl own_only ↦ subst (λ (ls : List Literal). IsDetermined p (first_lines c.nodes p ls) y value summands) (sym own_only) is
        | inr one_more ↦
            (let l = literal_at tested place in
            let last = first_line p c.nodes (length c.nodes + length x.literals.items) l ∷ [] in
            subst (λ (ls : List Literal). IsDetermined p (first_lines c.nodes p ls) y value summands) (sym one_more)
            (subst (λ (ts : List Terms). IsDetermined p ts y value summands) (sym (lines-push p c.nodes (length c.nodes) x.literals.items l))
            (determined_kept p (first_lines c.nodes p x.literals.items) last y value summands is)))
      ]

      known : AreKnown p (first_lines c.nodes p literals) (length c.nodes) missed.solved.degree (residue_at c missed.assignment) x.variables.items values
      known =
          let n = missed.solved.solved.determined.count in
          let flat : IsFlatFor c x.variables.items n = flat_for c p missed.solved.degree reasons x tested n missed.solved.chosen missed.solved.solved.determined.constants in
          let xs = x.variables.items in
          let below : AllByRecursion (λ y. y < length c.nodes) (take n xs) =
          subst (AllByRecursion (λ y. y < length c.nodes)) (sym flat.first_are)
          (recursion_from_All (λ y. y < length c.nodes) (node_variables c.nodes c.in_force) (each_of (λ y. y < length c.nodes) (node_variables c.nodes c.in_force) (λ y has. variables_inside c missed.solved.chosen.check.valid y has))) in
          let given : map (residue_at c missed.assignment) (take n xs) ≡ map (λ v. v.value) values = ap (λ k. map (residue_at c missed.assignment) (take k xs)) (sym (values_counted c p reasons x tested values missed.solved)) ∙ missed.given in
          subst (λ ys. AreKnown p (first_lines c.nodes p literals) (length c.nodes) missed.solved.degree (residue_at c missed.assignment) ys values) (take-append-drop n xs)
          (known_append p (first_lines c.nodes p literals) (length c.nodes) missed.solved.degree (residue_at c missed.assignment) (take n xs) (drop n xs) values
          (known_from p (first_lines c.nodes p literals) (length c.nodes) missed.solved.degree xs x.degrees.items (residue_at c missed.assignment) (first_lines c.nodes p x.literals.items) lines_kept (take n xs) values missed.solved.solved.determined.each given below))

      pub refuted_by_values : IsRefutedByValues c reasons p literals (length c.nodes) x.variables.items values line sides
      refuted_by_values =
          let check = missed.solved.chosen.check in
          let l = literal_at tested place in
          record {
            size = refl;
            forced = missed.solved.chosen.tested_denied.forced;
            forces = missed.solved.chosen.tested_denied.forces;
            lemma = false_lemma;
            bound = missed.solved.degree;
            least = missed.solved.chosen.least;
            most = missed.solved.chosen.most;
            increase = missed.solved.chosen.denied.choice.rises;
            few = missed.solved.solved.few_columns;
            point = residue_at c missed.assignment;
            known = known;
            literal = l;
            at = slice_get-get_or literals line (false, 0) lemma.there ∙ ap Some lemma.at;
            same = same;
            normal = normal;
            low = low;
            among = within;
            unequal = λ denied. nonzero_by_falsehood p c.nodes check.valid.table l.1 usable.equality missed.assignment sides same (is_false l.0 (truth (value_at c.nodes missed.assignment l.1)) denied missed.true_at);
            equal = λ claimed. zero_by_truth p c.nodes check.valid.table l.1 usable.equality missed.assignment sides same (is_true l.0 (truth (value_at c.nodes missed.assignment l.1)) claimed missed.true_at);
          }

-- the lemma has few literals
pub lemma_short : (own tested : List Literal) (place : ℕ) (literals : List Literal) (line : ℕ) → IsLemmaWith own tested place literals line → length own ≤ 4096 → length literals ≤ 4097
lemma_short own tested place literals line lemma few = elim lemma.literals_are as (λ _. length literals ≤ 4097) [
  | inl is ↦ omega (arith, ap length is, few)
  | inr is ↦ omega (arith, ap length is, length-append own (literal_at tested place ∷ []), few)
]
