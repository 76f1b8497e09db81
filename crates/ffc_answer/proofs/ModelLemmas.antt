-- Texts of models, by the values of nodes.
use Rattle.std.proofs.Common.{◌≡◌, ℕ, List, [], ◌∷◌, ◌++◌, map, All, refl, ap, ap₂, ◌∙◌, append_assoc}
use Rattle.std.specs.List.{flat_map}
use Rattle.std.proofs.lemmas.List.Elements.{All-head, All-tail}
use Rattle.ffc_term.specs.declared.node.Node.{Node}
use Rattle.ffc_term.specs.declared.value.Value.{Value}
use Rattle.ffc_term.specs.Values.{value_at, value_in}
use Rattle.ffc_lex.specs.Names.{written_symbol}
use Rattle.ffc_rules.specs.Assignments.{listed_assignment}
use Rattle.ffc_elab.specs.declared.answers.Asked.{Asked}
use Rattle.ffc_elab.specs.declared.answers.Declared.{Declared}
use Rattle.ffc_answer.specs.Seen.{definition_at, definition_text, definition_with, pair_at, pair_with, term_text}

-- the values at the listed nodes are theirs
abbrev pub AreValuesAt : List Node → List (ℕ × ℕ) → List Value → List ℕ → Type 0
AreValuesAt nodes pairs values ids = All (λ id. value_in values id ≡ value_at nodes (listed_assignment nodes pairs) id) ids

pub definitions_same : (nodes : List Node) (pairs : List (ℕ × ℕ)) (values : List Value) (declared : List Declared) → AreValuesAt nodes pairs values (map (λ d. d.node) declared)
    → flat_map (definition_with values) declared ≡ flat_map (definition_at nodes pairs) declared
unfolding definition_with definition_at
definitions_same nodes pairs values [] are = refl
definitions_same nodes pairs values (d ∷ ds) are =
    let P : ℕ → Type 0 = λ id. value_in values id ≡ value_at nodes (listed_assignment nodes pairs) id in
    ap₂ (λ (t u : List ℕ). t ++ u) (ap (λ v. definition_text (written_symbol d.name) d.sort v) (All-head P d.node (map (λ x. x.node) ds) are)) (definitions_same nodes pairs values ds (All-tail P d.node (map (λ x. x.node) ds) are))

pub pairs_same : (nodes : List Node) (pairs : List (ℕ × ℕ)) (values : List Value) (asked : List Asked) → AreValuesAt nodes pairs values (map (λ a. a.node) asked)
    → map (pair_with nodes values) asked ≡ map (pair_at nodes pairs) asked
pairs_same nodes pairs values [] are = refl
pairs_same nodes pairs values (a ∷ rest) are =
    let P : ℕ → Type 0 = λ id. value_in values id ≡ value_at nodes (listed_assignment nodes pairs) id in
    ap₂ (λ t ts. t ∷ ts) (ap (λ v. term_text nodes a v) (All-head P a.node (map (λ x. x.node) rest) are)) (pairs_same nodes pairs values rest (All-tail P a.node (map (λ x. x.node) rest) are))

-- three texts that were appended
pub appended_three : (out one two new first second third : List ℕ) → one ≡ out ++ first → two ≡ one ++ second → new ≡ two ++ third → new ≡ out ++ (first ++ second ++ third)
appended_three out one two new first second third e f g =
    g ∙ ap (λ t. t ++ third) (f ∙ ap (λ t. t ++ second) e ∙ append_assoc out first second) ∙ append_assoc out (first ++ second) third
