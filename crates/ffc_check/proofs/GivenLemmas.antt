-- What each line of a refutation gives, or breaks.
use Rattle.std.proofs.Common.{◌≡◌, ℕ, ◌<◌, ◌≤◌, ◌&&◌, nat_lt, Bool, true, false, cond, List, [], ◌∷◌, ◌++◌, length, Option, Some, None, Result, Ok, Err, unwrap_or, slice_get, refl, sym, ap, ap₂, ◌∙◌, subst, arith}
use Rattle.std.specs.List.{list_all}
use Rattle.std.proofs.lemmas.Bool.{lt-ltb, le-ltb}
use Rattle.ffc_cert.specs.declared.entries.CertLine.{CertLine}
use Rattle.ffc_cert.specs.declared.entries.CertLine.TheVariants.{Assume, Scheme, Hinted, Lemma, Combine, Bits, Chain, Step, Split, Values, Close}
use Rattle.ffc_clause.specs.Clauses.{Literal, Clause, plus}
use Rattle.ffc_clause.specs.Hints.{follows}
use Rattle.ffc_rules.specs.Schemes.{scheme_clause}
use Rattle.ffc_smt.specs.Numbers.{is_order}
use Rattle.ffc_term.specs.declared.node.Node.{Node}
use Rattle.ffc_term.specs.declared.node.Node.TheVariants.{True, False, BoolConst, FieldConst, Num, Not, And, Or, Iff, Xor, IteBool, IteField, Eq, Add, Mul, Neg, Bitsum}
use Rattle.ffc_trees.specs.TreeLines.{limits as tree_limits}
use Rattle.ffc_trees.specs.Trees.{tree_read}
use Rattle.ffc_trees.specs.FirstLines.{first_lines}
use Rattle.ffc_rules.specs.Entries.{NodeCheck, Broken, Given, limits, breaks, is_boolean, is_equality_over, is_equality_at, is_within, order_or, tree_given, lemma_given, clause_given}
use Rattle.ffc_check.specs.declared.stop.CheckStop.{CheckStop}
use Rattle.ffc_check.specs.Answers.{Refuses}
use Rattle.ffc_check.specs.Giving.{HasTreeLines, IsTakenWith, IsGiven}

-- a clause without a tree
pub HasTreeLines-none : (rest : List CertLine) (clause : Clause) → HasTreeLines rest 0 (record { clause = clause; rest = rest })
HasTreeLines-none rest clause = record { left = refl; few = omega arith }

-- it is given, and is one more
pub given_alone : (old new : List Clause) (rest : List CertLine) (clause : Clause) (given : Result Given Broken) → given ≡ Ok (record { clause = clause; rest = rest }) → new ≡ old ++ clause ∷ []
    → (x : Given) × (given ≡ Ok x) × IsGiven old new rest 0 x
given_alone old new rest clause given e grown = (record { clause = clause; rest = rest }, e, record { taken = HasTreeLines-none rest clause; grown = grown })

module _ (c : NodeCheck) (clauses : List Clause) (line : ℕ) (rest : List CertLine) where
  pub no_number : (k : ℕ) → slice_get c.in_force k ≡ None → clause_given limits c clauses line (Assume k) rest ≡ Err (breaks 2 line)
  unfolding clause_given
  no_number k e =
      ap (λ (o : Option ℕ). elim o as (λ _. Result Given Broken) [
        | None ↦ Err (breaks 2 line)
        | Some id ↦ Ok (record { clause = plus id ∷ []; rest = rest })
      ]) e

  pub number_given : (k id : ℕ) → slice_get c.in_force k ≡ Some id → clause_given limits c clauses line (Assume k) rest ≡ Ok (record { clause = plus id ∷ []; rest = rest })
  unfolding clause_given
  number_given k id e =
      ap (λ (o : Option ℕ). elim o as (λ _. Result Given Broken) [
        | None ↦ Err (breaks 2 line)
        | Some id ↦ Ok (record { clause = plus id ∷ []; rest = rest })
      ]) e

  of_scheme : Option Clause → Result Given Broken
  of_scheme found =
      elim found [
        | None ↦ Err (breaks 3 line)
        | Some clause ↦ Ok (record { clause = clause; rest = rest })
      ]

  pub no_node : (v scheme index : ℕ) → length c.nodes ≤ v → clause_given limits c clauses line (Scheme v scheme index) rest ≡ Err (breaks 12 line)
  unfolding clause_given of_scheme
  no_node v scheme index past = ap (λ b. cond b (of_scheme (scheme_clause c.nodes v scheme index)) (Err (breaks 12 line))) (le-ltb v (length c.nodes) past)

  of_node : (v scheme index : ℕ) (found : Option Clause) → v < length c.nodes → scheme_clause c.nodes v scheme index ≡ found → clause_given limits c clauses line (Scheme v scheme index) rest ≡ of_scheme found
  unfolding clause_given of_scheme
  of_node v scheme index found inside e = ap₂ (λ b o. cond b (of_scheme o) (Err (breaks 12 line))) (lt-ltb v (length c.nodes) inside) e

  pub no_scheme : (v scheme index : ℕ) → v < length c.nodes → scheme_clause c.nodes v scheme index ≡ None → clause_given limits c clauses line (Scheme v scheme index) rest ≡ Err (breaks 3 line)
  unfolding of_scheme
  no_scheme v scheme index inside e = of_node v scheme index None inside e

  pub scheme_given : (v scheme index : ℕ) (clause : Clause) → v < length c.nodes → scheme_clause c.nodes v scheme index ≡ Some clause
      → clause_given limits c clauses line (Scheme v scheme index) rest ≡ Ok (record { clause = clause; rest = rest })
  unfolding of_scheme
  scheme_given v scheme index clause inside e = of_node v scheme index (Some clause) inside e

  module _ (lits : List Literal) (hints : List ℕ) where
    by_tests : Bool → Bool → Bool → Result Given Broken
    by_tests boolean earlier good = cond (boolean && earlier) (cond good (Ok (record { clause = lits; rest = rest })) (Err (breaks 4 line))) (Err (breaks 12 line))

    tested : (boolean earlier : Bool) → list_all (λ x. is_boolean c.nodes x.1) lits ≡ boolean → list_all (λ h. nat_lt h (length clauses)) hints ≡ earlier
        → clause_given limits c clauses line (Hinted lits hints) rest ≡ by_tests boolean earlier (follows clauses lits hints)
    unfolding clause_given by_tests
    tested boolean earlier e f = ap₂ (λ a b. by_tests a b (follows clauses lits hints)) e f

    pub not_boolean : list_all (λ x. is_boolean c.nodes x.1) lits ≡ false → clause_given limits c clauses line (Hinted lits hints) rest ≡ Err (breaks 12 line)
    unfolding by_tests
    not_boolean e = tested false (list_all (λ h. nat_lt h (length clauses)) hints) e refl

    pub not_earlier : list_all (λ x. is_boolean c.nodes x.1) lits ≡ true → list_all (λ h. nat_lt h (length clauses)) hints ≡ false → clause_given limits c clauses line (Hinted lits hints) rest ≡ Err (breaks 12 line)
    unfolding by_tests
    not_earlier e f = tested true false e f

    pub not_followed : list_all (λ x. is_boolean c.nodes x.1) lits ≡ true → list_all (λ h. nat_lt h (length clauses)) hints ≡ true → follows clauses lits hints ≡ false
        → clause_given limits c clauses line (Hinted lits hints) rest ≡ Err (breaks 4 line)
    unfolding by_tests
    not_followed e f good = tested true true e f ∙ ap (by_tests true true) good

    pub hinted_given : list_all (λ x. is_boolean c.nodes x.1) lits ≡ true → list_all (λ h. nat_lt h (length clauses)) hints ≡ true → follows clauses lits hints ≡ true
        → clause_given limits c clauses line (Hinted lits hints) rest ≡ Ok (record { clause = lits; rest = rest })
    unfolding by_tests
    hinted_given e f good = tested true true e f ∙ ap (by_tests true true) good

  pub lemma_is : (order : Option ℕ) (lits : List Literal) → clause_given limits c clauses line (Lemma order lits) rest ≡ lemma_given limits c (order_or c.first_order order) lits line rest
  unfolding clause_given
  lemma_is order lits = refl

  -- the clause of a lemma is one more
  pub lemma_taken : (new : List Clause) (x : CertLine) (order : Option ℕ) (lits held other : List Literal) (used : ℕ) → x ≡ Lemma order lits → held ≡ lits → other ≡ lits
      → (given : Given) × (lemma_given limits c (order_or c.first_order order) held line rest ≡ Ok given) × IsTakenWith held rest used given → new ≡ clauses ++ other ∷ []
      → (given : Given) × (clause_given limits c clauses line x rest ≡ Ok given) × IsGiven clauses new rest used given
  lemma_taken new x order lits held other used is same same_too given grown = (
    given.0,
    ap (λ y. clause_given limits c clauses line y rest) is ∙ lemma_is order lits ∙ ap (λ ls. lemma_given limits c (order_or c.first_order order) ls line rest) (sym same) ∙ given.1,
    record { taken = given.2.taken; grown = grown ∙ ap (λ y. clauses ++ y ∷ []) (same_too ∙ sym same ∙ sym given.2.clause_is) },
  )

  pub lemma_refused : (stop : CheckStop) (x : CertLine) (order : Option ℕ) (lits held : List Literal) → x ≡ Lemma order lits → held ≡ lits
      → Refuses stop (lemma_given limits c (order_or c.first_order order) held line rest) → Refuses stop (clause_given limits c clauses line x rest)
  lemma_refused stop x order lits held is same refused =
      subst (Refuses stop) (sym (ap (λ y. clause_given limits c clauses line y rest) is ∙ lemma_is order lits ∙ ap (λ ls. lemma_given limits c (order_or c.first_order order) ls line rest) (sym same))) refused

  -- no line of a tree gives a clause
  pub tree_line : (x : CertLine) → ((k : ℕ) → x ≡ Assume k → ⊥) → ((v s i : ℕ) → x ≡ Scheme v s i → ⊥) → ((lits : List Literal) (hints : List ℕ) → x ≡ Hinted lits hints → ⊥) → ((order : Option ℕ) (lits : List Literal) → x ≡ Lemma order lits → ⊥)
      → clause_given limits c clauses line x rest ≡ Err (breaks 12 line)
  unfolding clause_given
  tree_line (Assume k) a b d e = absurd (a k refl)
  tree_line (Scheme v s i) a b d e = absurd (b v s i refl)
  tree_line (Hinted lits hints) a b d e = absurd (d lits hints refl)
  tree_line (Lemma order lits) a b d e = absurd (e order lits refl)
  tree_line (Combine multiples) a b d e = refl
  tree_line (Bits known chosen polynomial bits) a b d e = refl
  tree_line (Chain known variable steps) a b d e = refl
  tree_line (Step quotient remainder) a b d e = refl
  tree_line (Split known variable zeros) a b d e = refl
  tree_line (Values variable trees) a b d e = refl
  tree_line Close a b d e = refl

-- Lemmas

-- a node that is no equality
pub no_equality : (ns : List Node) (p : ℕ) (n : Node) → ((a b : ℕ) → n ≡ Eq a b → ⊥) → is_equality_over ns p n ≡ false
no_equality ns p True h = refl
no_equality ns p False h = refl
no_equality ns p (BoolConst k) h = refl
no_equality ns p (FieldConst k q) h = refl
no_equality ns p (Num n q) h = refl
no_equality ns p (Not a) h = refl
no_equality ns p (And ids) h = refl
no_equality ns p (Or ids) h = refl
no_equality ns p (Iff a b) h = refl
no_equality ns p (Xor a b) h = refl
no_equality ns p (IteBool c a b) h = refl
no_equality ns p (IteField c a b) h = refl
no_equality ns p (Eq a b) h = absurd (h a b refl)
no_equality ns p (Add ids) h = refl
no_equality ns p (Mul ids) h = refl
no_equality ns p (Neg a) h = refl
no_equality ns p (Bitsum ids) h = refl

-- the order that a lemma names, or the first one
pub order_named : (first : ℕ) (order : Option ℕ) → unwrap_or order first ≡ order_or first order
order_named first None = refl
order_named first (Some p) = refl

module _ (c : NodeCheck) (p : ℕ) (lits : List Literal) (line : ℕ) (rest : List CertLine) where
  by_limits : Bool → Bool → Bool → Result Given Broken
  by_limits order equal inside = cond (order && equal) (cond inside (tree_given lits line (tree_read tree_limits p (first_lines c.nodes p lits) rest)) (Err (breaks 11 line))) (Err (breaks 12 line))

  limited : (order equal inside : Bool) → is_order p ≡ order → list_all (λ x. is_equality_at c.nodes p x.1) lits ≡ equal → list_all (λ x. is_within limits c.nodes x.1) lits ≡ inside
      → lemma_given limits c p lits line rest ≡ by_limits order equal inside
  unfolding lemma_given by_limits
  limited order equal inside e f g = ap₂ (λ a b. by_limits a b (list_all (λ x. is_within limits c.nodes x.1) lits)) e f ∙ ap (by_limits order equal) g

  pub no_order : is_order p ≡ false → lemma_given limits c p lits line rest ≡ Err (breaks 12 line)
  unfolding by_limits
  no_order e = limited false (list_all (λ x. is_equality_at c.nodes p x.1) lits) (list_all (λ x. is_within limits c.nodes x.1) lits) e refl refl

  pub other_nodes : is_order p ≡ true → list_all (λ x. is_equality_at c.nodes p x.1) lits ≡ false → lemma_given limits c p lits line rest ≡ Err (breaks 12 line)
  unfolding by_limits
  other_nodes e f = limited true false (list_all (λ x. is_within limits c.nodes x.1) lits) e f refl

  pub too_large : is_order p ≡ true → list_all (λ x. is_equality_at c.nodes p x.1) lits ≡ true → list_all (λ x. is_within limits c.nodes x.1) lits ≡ false → lemma_given limits c p lits line rest ≡ Err (breaks 11 line)
  unfolding by_limits
  too_large e f g = limited true true false e f g

  pub by_tree : is_order p ≡ true → list_all (λ x. is_equality_at c.nodes p x.1) lits ≡ true → list_all (λ x. is_within limits c.nodes x.1) lits ≡ true
      → lemma_given limits c p lits line rest ≡ tree_given lits line (tree_read tree_limits p (first_lines c.nodes p lits) rest)
  unfolding by_limits
  by_tree e f g = limited true true true e f g
