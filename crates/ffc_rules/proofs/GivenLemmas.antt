-- The clause of a line that breaks no rule is true, where those clauses are that its hints name, and what it takes from the active
-- list is true.
use Rattle.std.proofs.Common.{inl, inr, ◌≡◌, ℕ, ◌<◌, ◌≤◌, nat_lt, Bool, true, false, cond, ◌&&◌, List, [], ◌∷◌, length, take, get_or, length-take, arith, All, Option, Some, None, Result, Ok, Err, refl, sym, ap, ◌∙◌, slice_get}
use Rattle.std.specs.List.{AllByRecursion, list_all}
use Rattle.std.proofs.lemmas.Bool.{false≢true, and_parts, cases_lt, or_left, eqb-true}
use Rattle.std.proofs.lemmas.List.{get_or_past}
use Rattle.std.proofs.lemmas.List.Sums.{AllPass-from_list_all}
use Rattle.std.proofs.lemmas.Option.{slice_get-get_or}
use Rattle.ffc_cert.specs.declared.entries.CertLine.{CertLine}
use Rattle.ffc_cert.specs.declared.entries.CertLine.TheVariants.{Assume, Scheme, Hinted, Lemma, Combine, Bits, Chain, Step, Split, Values, Close}
use Rattle.ffc_term.specs.declared.node.Node.{Node}
use Rattle.ffc_term.specs.declared.node.Node.TheVariants.{True, Eq}
use Rattle.ffc_term.specs.declared.node.Sort.TheVariants as sort
use Rattle.ffc_term.specs.declared.value.Value.{Value}
use Rattle.ffc_term.specs.Nodes.{IsNodeAt, node_at, sort_at, order_at, order_of_sort}
use Rattle.ffc_term.specs.Tables.{IsTable, IsFieldAt, AreOfOneField}
use Rattle.ffc_term.proofs.TableLemmas.{sort_at-take}
use Rattle.ffc_smt.proofs.SoundReading.{order_good}
use Rattle.ffc_trees.specs.FirstLines.{first_lines}
use Rattle.ffc_trees.specs.Trees.{Broken as BrokenInTree, tree_read}
use Rattle.ffc_trees.specs.Laws.{IsOnEquality, LemmasAreSound}
use Rattle.ffc_clause.specs.Clauses.{Literal, Clause, plus, clause_holds}
use Rattle.ffc_clause.specs.Hints.{follows}
use Rattle.ffc_clause.proofs.HintLemmas.{IsHintTrue, follows_true}
use Rattle.ffc_rules.specs.Clauses.{truth_at}
use Rattle.ffc_rules.specs.Schemes.{scheme_clause}
use Rattle.ffc_rules.specs.Entries.{NodeCheck, Limits, Broken, breaks, Given, is_boolean, is_equality_at, is_equality_over, is_within, order_or, tree_given, lemma_given, clause_given}
use Rattle.ffc_rules.specs.Cores.{hints_of, taken_by}
use Rattle.ffc_smt.specs.Numbers.{is_order}
use Rattle.ffc_rules.proofs.SchemeLemmas.{scheme_true}

pub same_Ok : {A E : Type 0} (x y : A) → ◌≡◌ {A = Result A E} (Ok x) (Ok y) → x ≡ y
same_Ok {A} {E} x y e = ap (λ (r : Result A E). elim r as (λ _. A) [ Ok z ↦ z | Err d ↦ x ]) e

pub err≢ok : {A E : Type 0} (d : E) (y : A) → ◌≡◌ {A = Result A E} (Err d) (Ok y) → ⊥
err≢ok {A} {E} d y e = false≢true (ap (λ (r : Result A E). elim r as (λ _. Bool) [ Ok z ↦ true | Err d ↦ false ]) e)

-- a choice between an answer and an error is the answer where its test holds
pub chosen_ok : {A E : Type 0} (b : Bool) (r : Result A E) (d : E) (y : A) → cond b r (Err d) ≡ Ok y → (b ≡ true) × (r ≡ Ok y)
chosen_ok true r d y e = (refl, e)
chosen_ok false r d y e = absurd (err≢ok d y e)

-- a node that passes the test is an equality of order p
equality_on : (ns : List Node) (p id : ℕ) (n : Node) → IsTable ns → IsNodeAt ns id n → is_equality_over ns p n ≡ true → (s : ℕ) × (t : ℕ) × IsNodeAt ns id (Eq s t) × IsFieldAt ns p s
equality_on ns p id (Eq a b) table at e =
    let fits : AreOfOneField (take id ns) (a ∷ b ∷ []) = table.well_formed.fits id (Eq a b) at in
    let first : IsFieldAt (take id ns) fits.order a = fits.each 0 a (omega arith) in
    let short : length (take id ns) ≤ id = omega (arith, length-take id ns) in
    let within : length (take id ns) ≤ length ns = omega (arith, length-take id ns) in
    let below : a < id = omega (arith, first.0) in
    let of : sort_at ns a ≡ sort.Field fits.order = sym (sort_at-take id ns a below) ∙ first.1 in
    let order : fits.order ≡ p = sym (ap order_of_sort of) ∙ eqb-true (order_at ns a) p e in
    (a, b, at, (omega (arith, first.0), of ∙ ap sort.Field order))
equality_on ns p id _ table at e = absurd (false≢true e)

pub equality_at : (ns : List Node) (p : ℕ) (lit : Literal) → IsTable ns → is_equality_at ns p lit.1 ≡ true → IsOnEquality ns p lit
equality_at ns p lit table e =
    elim (cases_lt lit.1 (length ns)) as (λ _. IsOnEquality ns p lit) [
      | inl inside ↦ equality_on ns p lit.1 (node_at ns lit.1) table (slice_get-get_or ns lit.1 True inside) e
      | inr past ↦ absurd (false≢true (ap (is_equality_over ns p) (sym (get_or_past ns lit.1 True past)) ∙ e))
    ]

-- what a number of the active list names is true
abbrev pub IsNumberTrue : (ℕ → Bool) → List ℕ → ℕ → Type 0
IsNumberTrue t in_force k = (id : ℕ) → slice_get in_force k ≡ Some id → t id ≡ true

module _ (c : NodeCheck) (assignment : List Value) (table : IsTable c.nodes) where
  abbrev t : ℕ → Bool
  t = truth_at c.nodes assignment

  assume_true : (k : ℕ) (line : ℕ) (rest : List CertLine) (given : Given) (o : Option ℕ) → slice_get c.in_force k ≡ o → IsNumberTrue t c.in_force k
      → elim o as (λ _. Result Given Broken) [ None ↦ Err (breaks 2 line) | Some id ↦ Ok (record { clause = plus id ∷ []; rest = rest }) ] ≡ Ok given → clause_holds t given.clause ≡ true
  assume_true k line rest given None at all e = absurd (err≢ok _ _ e)
  assume_true k line rest given (Some id) at all e = ap (λ g. clause_holds t g.clause) (sym (same_Ok _ _ e)) ∙ or_left (t id) false (all id at)

  scheme_given : (n s i line : ℕ) (rest : List CertLine) (given : Given) (o : Option Clause) → scheme_clause c.nodes n s i ≡ o
      → elim o as (λ _. Result Given Broken) [ None ↦ Err (breaks 3 line) | Some clause ↦ Ok (record { clause = clause; rest = rest }) ] ≡ Ok given → clause_holds t given.clause ≡ true
  scheme_given n s i line rest given None at e = absurd (err≢ok _ _ e)
  scheme_given n s i line rest given (Some clause) at e = ap (λ g. clause_holds t g.clause) (sym (same_Ok _ _ e)) ∙ scheme_true c.nodes assignment n s i clause table at

  pub lemma_true : LemmasAreSound → (l : Limits) (p : ℕ) (lits : List Literal) (line : ℕ) (rest : List CertLine) (given : Given) → lemma_given l c p lits line rest ≡ Ok given → clause_holds t given.clause ≡ true
  unfolding lemma_given
  lemma_true sound l p lits line rest given e =
      let first = chosen_ok (is_order p && list_all (λ x. is_equality_at c.nodes p x.1) lits) _ _ given e in
      let parts = and_parts (is_order p) (list_all (λ x. is_equality_at c.nodes p x.1) lits) first.0 in
      let second = chosen_ok (list_all (λ x. is_within l c.nodes x.1) lits) _ _ given first.1 in
      let on : All (IsOnEquality c.nodes p) lits = λ k d inside. equality_at c.nodes p (get_or lits k d) table (AllPass-from_list_all (λ x. is_equality_at c.nodes p x.1) lits parts.1 k d inside) in
      by_tree (tree_read l.trees p (first_lines c.nodes p lits) rest) refl second.1 (λ after read. sound l.trees c.nodes assignment p lits rest after table (order_good p parts.0) on read)
    where
      by_tree : (r : Result (List CertLine) BrokenInTree) → tree_read l.trees p (first_lines c.nodes p lits) rest ≡ r → tree_given lits line r ≡ Ok given → ((after : List CertLine) → tree_read l.trees p (first_lines c.nodes p lits) rest ≡ Ok after → clause_holds t lits ≡ true) → clause_holds t given.clause ≡ true
      by_tree (Ok after) read is holds = ap (λ g. clause_holds t g.clause) (sym (same_Ok _ _ is)) ∙ holds after read
      by_tree (Err broken) read is holds = absurd (err≢ok _ _ is)

  pub given_true : LemmasAreSound → (l : Limits) (clauses : List Clause) (line : ℕ) (x : CertLine) (rest : List CertLine) (given : Given)
      → AllByRecursion (IsHintTrue t clauses) (hints_of x) → AllByRecursion (IsNumberTrue t c.in_force) (taken_by x) → clause_given l c clauses line x rest ≡ Ok given → clause_holds t given.clause ≡ true
  unfolding clause_given
  given_true sound l clauses line (Assume k) rest given hinted taken e = assume_true k line rest given (slice_get c.in_force k) refl taken.0 e
  given_true sound l clauses line (Scheme n s i) rest given hinted taken e =
      scheme_given n s i line rest given (scheme_clause c.nodes n s i) refl (chosen_ok (nat_lt n (length c.nodes)) _ _ given e).1
  given_true sound l clauses line (Hinted lits hints) rest given hinted taken e =
      let first = chosen_ok (list_all (λ x. is_boolean c.nodes x.1) lits && list_all (λ h. nat_lt h (length clauses)) hints) _ _ given e in
      let second = chosen_ok (follows clauses lits hints) _ _ given first.1 in
      ap (λ g. clause_holds t g.clause) (sym (same_Ok _ _ second.1)) ∙ follows_true t clauses lits hints hinted second.0
  given_true sound l clauses line (Lemma order lits) rest given hinted taken e = lemma_true sound l (order_or c.first_order order) lits line rest given e
  given_true sound l clauses line (Combine multiples) rest given hinted taken e = absurd (err≢ok _ _ e)
  given_true sound l clauses line (Bits known chosen polynomial bits) rest given hinted taken e = absurd (err≢ok _ _ e)
  given_true sound l clauses line (Chain known variable steps) rest given hinted taken e = absurd (err≢ok _ _ e)
  given_true sound l clauses line (Step quotient remainder) rest given hinted taken e = absurd (err≢ok _ _ e)
  given_true sound l clauses line (Split known variable zeros) rest given hinted taken e = absurd (err≢ok _ _ e)
  given_true sound l clauses line (Values variable trees) rest given hinted taken e = absurd (err≢ok _ _ e)
  given_true sound l clauses line Close rest given hinted taken e = absurd (err≢ok _ _ e)
