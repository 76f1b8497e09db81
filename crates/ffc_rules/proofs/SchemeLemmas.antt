-- The clause of each scheme is true under every assignment.
use Rattle.std.proofs.Common.{inl, inr, ◌≡◌, ℕ, zero, suc, ◌+◌, Bool, true, false, not, cond, ◌||◌, ◌&&◌, List, [], ◌∷◌, map, Option, Some, None, refl, sym, ap, ◌∙◌, subst, slice_get}
use Rattle.std.specs.List.{AllByRecursion, list_any, list_all}
use Rattle.std.proofs.lemmas.Bool.{true≢false, eq-eqb, and_parts, cases_Bool, or_left, or_right, or_parts}
use Rattle.std.proofs.lemmas.Option.{none-some, same_Some}
use Rattle.ffc_term.specs.declared.node.Node.{Node}
use Rattle.ffc_term.specs.declared.node.Node.TheVariants.{True, False, BoolConst, FieldConst, Num, Not, And, Or, Iff, Xor, IteBool, IteField, Eq, Add, Mul, Neg, Bitsum}
use Rattle.ffc_term.specs.declared.value.Value.{Value}
use Rattle.ffc_term.specs.Nodes.{IsNodeAt, order_at}
use Rattle.ffc_term.specs.Values.{is_same_truth, truth, residue, values, value_of_node, residue_in}
use Rattle.ffc_term.specs.Tables.{IsTable, second_equality}
use Rattle.ffc_term.proofs.ValueLemmas.{value_at-is}
use Rattle.ffc_clause.specs.Clauses.{Clause, plus, minus, clause_holds}
use Rattle.ffc_rules.specs.Clauses.{truth_at, IsTrueClause}
use Rattle.ffc_rules.specs.Schemes.{schemes, scheme_clause}

-- each clause of each scheme is true
abbrev AreHeld : (ℕ → Bool) → List (List Clause) → Type 0
AreHeld t lists = AllByRecursion (AllByRecursion (λ clause. clause_holds t clause ≡ true)) lists

-- Each truth table below is that of one variant: w is the truth of the node, the others that of its children.

abbrev NotTable : Bool → Bool → Type 0
NotTable w a = (((w || (a || false)) ≡ true) × Unit {0}) × ((((not w || (not a || false)) ≡ true) × Unit {0}) × Unit {0})

not_table : (a : Bool) → NotTable (not a) a
not_table true = ((refl, tt), ((refl, tt), tt))
not_table false = ((refl, tt), ((refl, tt), tt))

abbrev Four : Type 0 → Type 0 → Type 0 → Type 0 → Type 0
Four P Q R S = (P × Unit {0}) × ((Q × Unit {0}) × ((R × Unit {0}) × ((S × Unit {0}) × Unit {0})))

four : {P Q R S : Type 0} → P → Q → R → S → Four P Q R S
four p q r s = ((p, tt), ((q, tt), ((r, tt), ((s, tt), tt))))

abbrev IffTable : Bool → Bool → Bool → Type 0
IffTable w a b =
    Four ((not w || (not a || (b || false))) ≡ true) ((not w || (a || (not b || false))) ≡ true)
    ((w || (a || (b || false))) ≡ true) ((w || (not a || (not b || false))) ≡ true)

iff_table : (a b : Bool) → IffTable (is_same_truth a b) a b
iff_table true true = four refl refl refl refl
iff_table true false = four refl refl refl refl
iff_table false true = four refl refl refl refl
iff_table false false = four refl refl refl refl

abbrev XorTable : Bool → Bool → Bool → Type 0
XorTable w a b =
    Four ((not w || (a || (b || false))) ≡ true) ((not w || (not a || (not b || false))) ≡ true)
    ((w || (not a || (b || false))) ≡ true) ((w || (a || (not b || false))) ≡ true)

xor_table : (a b : Bool) → XorTable (not (is_same_truth a b)) a b
xor_table true true = four refl refl refl refl
xor_table true false = four refl refl refl refl
xor_table false true = four refl refl refl refl
xor_table false false = four refl refl refl refl

abbrev IteTable : Bool → Bool → Bool → Bool → Type 0
IteTable w c a b =
    Four ((not w || (not c || (a || false))) ≡ true) ((not w || (c || (b || false))) ≡ true)
    ((w || (not c || (not a || false))) ≡ true) ((w || (c || (not b || false))) ≡ true)

ite_table : (c a b : Bool) → IteTable (cond c a b) c a b
ite_table true true b = four refl refl refl refl
ite_table true false b = four refl refl refl refl
ite_table false a true = four refl refl refl refl
ite_table false a false = four refl refl refl refl

-- `and`: where the node is true, each child is; where it is false, some child is
and_each : (t : ℕ → Bool) (v : ℕ) (ids : List ℕ) → (t v ≡ true → list_all t ids ≡ true) → AllByRecursion (λ clause. clause_holds t clause ≡ true) (map (λ a. minus v ∷ plus a ∷ []) ids)
and_each t v [] all = tt
and_each t v (a ∷ ids) all = (
  by_truth (t v) (λ e. (and_parts (t a) (list_all t ids) (all e)).0),
  and_each t v ids (λ e. (and_parts (t a) (list_all t ids) (all e)).1),
)
  where
    by_truth : (w : Bool) → (w ≡ true → t a ≡ true) → (not w || (t a || false)) ≡ true
    by_truth true on = or_left (t a) false (on refl)
    by_truth false on = refl

some_false : (t : ℕ → Bool) (ids : List ℕ) → list_all t ids ≡ false → clause_holds t (map minus ids) ≡ true
some_false t [] off = absurd (true≢false off)
some_false t (a ∷ ids) off = by_truth (t a) (list_all t ids) off (some_false t ids)
  where
    by_truth : (x y : Bool) → (x && y) ≡ false → (y ≡ false → clause_holds t (map minus ids) ≡ true) → (not x || clause_holds t (map minus ids)) ≡ true
    by_truth true y e rest = rest e
    by_truth false y e rest = refl

and_whole : (t : ℕ → Bool) (v : ℕ) (ids : List ℕ) → t v ≡ list_all t ids → (t v || clause_holds t (map minus ids)) ≡ true
and_whole t v ids e =
    elim (cases_Bool (t v)) as (λ _. (t v || clause_holds t (map minus ids)) ≡ true) [
      | inl on ↦ or_left (t v) _ on
      | inr off ↦ or_right (t v) _ (some_false t ids (sym e ∙ off))
    ]

-- `or`: where some child is true, the node is; where it is true, some child is
or_each : (t : ℕ → Bool) (v : ℕ) (ids : List ℕ) → (t v ≡ false → list_any t ids ≡ false) → AllByRecursion (λ clause. clause_holds t clause ≡ true) (map (λ a. plus v ∷ minus a ∷ []) ids)
or_each t v [] all = tt
or_each t v (a ∷ ids) all = (
  by_truth (t v) (λ e. (or_parts (t a) (list_any t ids) (all e)).0),
  or_each t v ids (λ e. (or_parts (t a) (list_any t ids) (all e)).1),
)
  where
    by_truth : (w : Bool) → (w ≡ false → t a ≡ false) → (w || (not (t a) || false)) ≡ true
    by_truth true off = refl
    by_truth false off = ap (λ b. not b || false) (off refl)

some_true : (t : ℕ → Bool) (ids : List ℕ) → clause_holds t (map plus ids) ≡ list_any t ids
some_true t [] = refl
some_true t (a ∷ ids) = ap (λ b. t a || b) (some_true t ids)

or_whole : (t : ℕ → Bool) (v : ℕ) (ids : List ℕ) → t v ≡ list_any t ids → (not (t v) || clause_holds t (map plus ids)) ≡ true
or_whole t v ids e =
    elim (cases_Bool (t v)) as (λ _. (not (t v) || clause_holds t (map plus ids)) ≡ true) [
      | inl on ↦ or_right (not (t v)) _ (some_true t ids ∙ sym e ∙ on)
      | inr off ↦ or_left (not (t v)) _ (ap not off)
    ]

module _ (nodes : List Node) (assignment : List Value) (table : IsTable nodes) where
  -- the truth of a node is that of its variant
  truth_is : (v : ℕ) (n : Node) → IsNodeAt nodes v n → truth_at nodes assignment v ≡ truth (value_of_node (order_at nodes v) assignment (values nodes assignment) n)
  truth_is v n at = ap truth (value_at-is nodes assignment v n table.well_formed at)

  residue_is : (v : ℕ) (n : Node) → IsNodeAt nodes v n → residue_in (values nodes assignment) v ≡ residue (value_of_node (order_at nodes v) assignment (values nodes assignment) n)
  residue_is v n at = ap residue (value_at-is nodes assignment v n table.well_formed at)

  choice_table : (v c a b e f : ℕ) → IsNodeAt nodes v (IteField c a b) → IsNodeAt nodes e (Eq v a) → IsNodeAt nodes f (Eq v b)
      → ((truth_at nodes assignment c ≡ true → truth_at nodes assignment e ≡ true) × (truth_at nodes assignment c ≡ false → truth_at nodes assignment f ≡ true))
  choice_table v c a b e f at first second = (
    (λ on. truth_is e (Eq v a) first ∙ eq-eqb _ _ (residue_is v (IteField c a b) at ∙ ap (λ t. cond t (residue_in (values nodes assignment) a) (residue_in (values nodes assignment) b)) on)),
    (λ off. truth_is f (Eq v b) second ∙ eq-eqb _ _ (residue_is v (IteField c a b) at ∙ ap (λ t. cond t (residue_in (values nodes assignment) a) (residue_in (values nodes assignment) b)) off)),
  )

  schemes_true : (v : ℕ) (n : Node) → IsNodeAt nodes v n → AreHeld (truth_at nodes assignment) (schemes v n)
  schemes_true v True at = ((or_left (truth_at nodes assignment v) false (truth_is v True at), tt), tt)
  schemes_true v False at = ((or_left (not (truth_at nodes assignment v)) false (ap not (truth_is v False at)), tt), tt)
  schemes_true v (Not a) at = subst (λ w. NotTable w (truth_at nodes assignment a)) (sym (truth_is v (Not a) at)) (not_table (truth_at nodes assignment a))
  schemes_true v (And ids) at =
      let e : truth_at nodes assignment v ≡ list_all (truth_at nodes assignment) ids = truth_is v (And ids) at in
      (and_each (truth_at nodes assignment) v ids (λ on. sym e ∙ on), ((and_whole (truth_at nodes assignment) v ids e, tt), tt))
  schemes_true v (Or ids) at =
      let e : truth_at nodes assignment v ≡ list_any (truth_at nodes assignment) ids = truth_is v (Or ids) at in
      (or_each (truth_at nodes assignment) v ids (λ off. sym e ∙ off), ((or_whole (truth_at nodes assignment) v ids e, tt), tt))
  schemes_true v (Iff a b) at =
      subst (λ w. IffTable w (truth_at nodes assignment a) (truth_at nodes assignment b)) (sym (truth_is v (Iff a b) at)) (iff_table (truth_at nodes assignment a) (truth_at nodes assignment b))
  schemes_true v (Xor a b) at =
      subst (λ w. XorTable w (truth_at nodes assignment a) (truth_at nodes assignment b)) (sym (truth_is v (Xor a b) at)) (xor_table (truth_at nodes assignment a) (truth_at nodes assignment b))
  schemes_true v (IteBool c a b) at =
      subst (λ w. IteTable w (truth_at nodes assignment c) (truth_at nodes assignment a) (truth_at nodes assignment b)) (sym (truth_is v (IteBool c a b) at))
      (ite_table (truth_at nodes assignment c) (truth_at nodes assignment a) (truth_at nodes assignment b))
  schemes_true v (IteField c a b) at =
      let after = table.equalities v c a b at in
      let both = choice_table v c a b (v + 1) (second_equality v a b) at after.0 after.1 in
      elim (cases_Bool (truth_at nodes assignment c)) as (λ _. AreHeld (truth_at nodes assignment) (schemes v (IteField c a b))) [
        | inl on ↦ ((or_right (not (truth_at nodes assignment c)) _ (or_left _ false (both.0 on)), tt), ((or_left (truth_at nodes assignment c) _ on, tt), tt))
        | inr off ↦ ((or_left (not (truth_at nodes assignment c)) _ (ap not off), tt), ((or_right (truth_at nodes assignment c) _ (or_left _ false (both.1 off)), tt), tt))
      ]
  schemes_true v (BoolConst k) at = tt
  schemes_true v (FieldConst k p) at = tt
  schemes_true v (Num n p) at = tt
  schemes_true v (Eq a b) at = tt
  schemes_true v (Add ids) at = tt
  schemes_true v (Mul ids) at = tt
  schemes_true v (Neg a) at = tt
  schemes_true v (Bitsum ids) at = tt

-- P holds of an element by its place, where it holds of each
pub at_place : {X : Type 0} (P : X → Type 0) (xs : List X) (k : ℕ) (x : X) → AllByRecursion P xs → slice_get xs k ≡ Some x → P x
at_place P [] k x all at = absurd (none-some x at)
at_place P (y ∷ xs) zero x all at = subst P (same_Some y x at) all.0
at_place P (y ∷ xs) (suc k) x all at = at_place P xs k x all.1 at

pub scheme_true : (nodes : List Node) (assignment : List Value) (v scheme index : ℕ) (clause : Clause) → IsTable nodes → scheme_clause nodes v scheme index ≡ Some clause → IsTrueClause nodes assignment clause
unfolding scheme_clause
scheme_true nodes assignment v scheme index clause table is = by_node (slice_get nodes v) refl is
  where
    by_scheme : (lists : List (List Clause)) (o : Option (List Clause)) → slice_get lists scheme ≡ o → AreHeld (truth_at nodes assignment) lists → slice_get (elim o [ None ↦ [] | Some clauses ↦ clauses ]) index ≡ Some clause → IsTrueClause nodes assignment clause
    by_scheme lists None e all at = absurd (none-some clause at)
    by_scheme lists (Some clauses) e all at =
        at_place (λ c. clause_holds (truth_at nodes assignment) c ≡ true) clauses index clause
        (at_place (AllByRecursion (λ c. clause_holds (truth_at nodes assignment) c ≡ true)) lists scheme clauses all e) at

    by_node : (o : Option Node) → slice_get nodes v ≡ o → slice_get (elim (slice_get (elim o [ None ↦ [] | Some n ↦ schemes v n ]) scheme) [ None ↦ [] | Some clauses ↦ clauses ]) index ≡ Some clause → IsTrueClause nodes assignment clause
    by_node None e at = absurd (none-some clause at)
    by_node (Some n) e at = by_scheme (schemes v n) (slice_get (schemes v n) scheme) refl (schemes_true nodes assignment table v n e) at
