-- Where a table may be cut: only the last two nodes before the cut may have equalities after it.
use Rattle.std.proofs.Common.{arith, subst, ◌≡◌, sym, ⊎_elim, inl, inr, ◌⊎◌, ℕ, zero, suc, ◌+◌, ◌-◌, ◌<◌, ◌≤◌, ◌==◌, Bool, true, false, List, length, if◌then◌else◌}
use Rattle.ffc_mirror.specs.Cutting.{EndsBefore}
use Rattle.ffc_term.specs.Nodes.{IsNodeAt}
use Rattle.ffc_term.specs.Tables.{CanCut, second_equality}
use Rattle.ffc_term.specs.declared.node.Node.{Node}
use Rattle.ffc_term.specs.declared.node.Node.TheVariants.{IteField}

le_or_gt : (a b : ℕ) → (a ≤ b) ⊎ (b < a)
le_or_gt zero b = inl (omega arith)
le_or_gt (suc a) zero = inr (omega arith)
le_or_gt (suc a) (suc b) = elim (le_or_gt a b) [ inl small ↦ inl (omega arith) | inr large ↦ inr (omega arith) ]

second_within_two : (t a b : ℕ) → second_equality t a b ≤ t + 2
second_within_two t a b = elim (a == b) as (λ (same : Bool). (if same then t + 1 else t + 2) ≤ t + 2) [ true ↦ omega arith | false ↦ omega arith ]

pub cut_where_last_two_end : (nodes : List Node) (len : ℕ) → (1 ≤ len → EndsBefore nodes len (len - 1)) → (2 ≤ len → EndsBefore nodes len (len - 2)) → CanCut nodes len
cut_where_last_two_end nodes len one two t c a b at below =
    elim (le_or_gt (t + 3) len) as (λ _. second_equality t a b < len) [
      | inl far ↦ omega (arith, second_within_two t a b)
      | inr near ↦ elim (le_or_gt (t + 2) len) as (λ _. second_equality t a b < len) [
        | inl second ↦ subst (λ k. second_equality k a b < len) (omega arith) (two (omega arith) c a b (subst (λ k. IsNodeAt nodes k (IteField c a b)) (omega arith) at))
        | inr last ↦ subst (λ k. second_equality k a b < len) (omega arith) (one (omega arith) c a b (subst (λ k. IsNodeAt nodes k (IteField c a b)) (omega arith) at))
      ]
    ]
