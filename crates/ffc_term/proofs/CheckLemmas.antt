-- The constants among the nodes of a check.
use Rattle.std.proofs.Common.{◌≡◌, ℕ, true, List, length, inl, inr, filter, subst, sym, ap, ◌∙◌}
use Rattle.std.proofs.lemmas.List.Kept.{IsStrictlyIncreasing-filter}
use Rattle.std.proofs.lemmas.Option.{get_or_from_slice_get, slice_get-get_or}
use Rattle.std.proofs.lemmas.Bool.{false≢true, cases_lt}
use Rattle.std.proofs.lemmas.List.{get_or_past}
use Rattle.ffc_term.specs.declared.node.Node.{Node}
use Rattle.ffc_term.specs.declared.node.Node.TheVariants.{True}
use Rattle.ffc_term.specs.Nodes.{IsConstantAt, is_constant, node_at}
use Rattle.ffc_term.specs.Checks.{AreNodesOf, AreConstantsOf}
use Rattle.ffc_term.proofs.ListLemmas.{Contains-filter, Contains-from_filter}

-- a number whose node is a constant is in the table
pub IsConstantAt-from_node_at : (ns : List Node) (id : ℕ) → is_constant (node_at ns id) ≡ true → IsConstantAt ns id
IsConstantAt-from_node_at ns id is =
    elim (cases_lt id (length ns)) as (λ _. IsConstantAt ns id) [
      | inl inside ↦ (node_at ns id, slice_get-get_or ns id True inside, is)
      | inr past ↦ absurd (false≢true (ap is_constant (sym (get_or_past ns id True past)) ∙ is))
    ]

pub node_at-from_IsConstantAt : (ns : List Node) (id : ℕ) → IsConstantAt ns id → is_constant (node_at ns id) ≡ true
node_at-from_IsConstantAt ns id is = ap is_constant (get_or_from_slice_get ns id is.0 True is.1) ∙ is.2

pub AreConstantsOf-filter : (ns : List Node) (ids among : List ℕ) → AreNodesOf ns ids among → AreConstantsOf ns ids (filter (λ id. is_constant (node_at ns id)) among)
AreConstantsOf-filter ns ids among are = record {
  increasing = IsStrictlyIncreasing-filter (λ id. is_constant (node_at ns id)) among are.increasing;
  each = λ id. (
    (λ has. let was = Contains-from_filter (λ k. is_constant (node_at ns k)) among id has in ((are.each id).0 was.0, IsConstantAt-from_node_at ns id was.1)),
    (λ is. Contains-filter (λ k. is_constant (node_at ns k)) among id ((are.each id).1 is.0) (node_at-from_IsConstantAt ns id is.1)),
  );
}

pub AreConstantsOf-same : (ns : List Node) (ids among nodes constants : List ℕ) → AreNodesOf ns ids among → nodes ≡ among → constants ≡ filter (λ id. is_constant (node_at ns id)) nodes → AreConstantsOf ns ids constants
AreConstantsOf-same ns ids among nodes constants are same is =
    subst (AreConstantsOf ns ids) (sym (is ∙ ap (filter (λ id. is_constant (node_at ns id))) same)) (AreConstantsOf-filter ns ids among are)
