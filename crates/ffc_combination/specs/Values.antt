-- Values of a check's constants, and what is true under them.
use Rattle.std.specs.Prelude.{◌≡◌, ℕ, ◌<◌, Bool, true, false, List, [], ◌∷◌, ◌++◌, ◌⊎◌, length, map, slice_index_or, Contains}
use Rattle.ffc_bounds.specs.Conjunctions.{field_constants, is_field_constant}
use Rattle.ffc_clause.specs.Clauses.{Literal}
use Rattle.ffc_combination.specs.declared.combined.Combined.{Combined}
use Rattle.ffc_combination.specs.declared.combined.Combined.TheVariants.{Refuted, Values}
use Rattle.ffc_refutation.specs.Given.{AreReadable, AreRight}
use Rattle.ffc_rules.specs.Cones.{cone}
use Rattle.ffc_rules.specs.Entries.{NodeCheck}
use Rattle.ffc_rules.specs.Laws.{Agrees}
use Rattle.ffc_term.specs.declared.node.Node.{Node}
use Rattle.ffc_term.specs.declared.value.Value.{Value}
use Rattle.ffc_term.specs.Nodes.{node_at}
use Rattle.ffc_term.specs.Values.{is_same_truth, truth_in, value_at, value_in}
use Rattle.ffc_trials.specs.Known.{AreModelValuesOf}

-- a refutation that may be given, or values of the field constants that make all assertions true
abbrev pub IsRightCombined : NodeCheck → Combined → Type 0
IsRightCombined c (Refuted lines) = AreReadable lines × AreRight c lines
IsRightCombined c (Values pairs) = (map (λ p. p.0) pairs.items ≡ field_constants c.nodes c.in_force) × AreModelValuesOf c pairs.items

-- a field constant
pub record IsFieldConstant (nodes : List Node) (id : ℕ) : Type 0 where
  pub inside : id < length nodes
  pub constant : is_field_constant (node_at nodes id) ≡ true

-- the values of a check's nodes under some assignment that gives constants these values
pub record AreValuesUnder (c : NodeCheck) (pairs : List (ℕ × ℕ)) (values : List Value) : Type 0 where
  pub long : length values ≡ length c.nodes
  pub assignment : List Value
  pub agrees : Agrees c.nodes pairs assignment
  pub each : (id : ℕ) → Contains (cone c.nodes c.in_force) id → value_in values id ≡ value_at c.nodes assignment id

-- the truth of a literal by the values of nodes
abbrev pub truth_by : List Value → Literal → Bool
truth_by values l = is_same_truth l.0 (truth_in values l.1)

abbrev pub literal_at : List Literal → ℕ → Literal
literal_at literals place = slice_index_or literals place (false, 0)

-- the place of a literal that is true by these values
pub record IsTrueAt (values : List Value) (literals : List Literal) (place : ℕ) : Type 0 where
  pub there : place < length literals
  pub true_by : truth_by values (literal_at literals place) ≡ true

-- the lemma of a choice's literals, with the literal of this place after them where it is none of them; that literal's place there
pub record IsLemmaWith (own tested : List Literal) (place : ℕ) (literals : List Literal) (line : ℕ) : Type 0 where
  pub there : line < length literals
  pub at : literal_at literals line ≡ literal_at tested place
  pub literals_are : (literals ≡ own) ⊎ (literals ≡ own ++ literal_at tested place ∷ [])
