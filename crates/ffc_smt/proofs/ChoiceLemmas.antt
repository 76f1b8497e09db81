-- What an `ite` of field sort puts into a table, however many nodes that has.
use Rattle.std.proofs.Common.{◌≡◌, ℕ, ⊎_elim, Bool, List, [], ◌∷◌, ◌++◌, length, Contains, sym, ap, ◌∙◌, subst, arith}
use Rattle.std.proofs.lemmas.Bool.{cases_eq}
use Rattle.std.proofs.lemmas.List.Elements.{Contains-push_cases}
use Rattle.ffc_field.specs.Orders.{IsOrder}
use Rattle.ffc_term.specs.declared.node.Node.{Node}
use Rattle.ffc_term.specs.declared.node.Node.TheVariants.{IteField, Eq, Num}
use Rattle.ffc_term.specs.declared.node.Sort.TheVariants as sort
use Rattle.ffc_term.specs.Nodes.{IsNodeAt}
use Rattle.ffc_term.specs.Tables.{IsWellFormed, Fits, ite_nodes}
use Rattle.ffc_term.proofs.IteLemmas.{no_equality}
use Rattle.ffc_term.proofs.NodeLemmas.{IsNodeAt-last}
use Rattle.ffc_smt.specs.Meaning.{residue_of_number}
use Rattle.ffc_smt.specs.Making.{choice}
use Rattle.ffc_smt.proofs.Again.{interned_present, with_second, with_equalities}
use Rattle.ffc_smt.proofs.InterningLemmas.{with_table, interned_absent, nodes_same, nodes_other, two_behind, three_behind}
use Rattle.ffc_smt.proofs.SoundTerms.{order_positive, residue_below}

equal_branches : (t a b : ℕ) → Eq t a ≡ Eq t b → a ≡ b
equal_branches t a b e = cc

module _ (ns : List Node) (p c a b : ℕ) (formed : IsWellFormed ns) (absent : Contains ns (IteField c a b) → ⊥) where
  no_first : (d : ℕ) → Contains (ns ++ IteField c a b ∷ []) (Eq (length ns) d) → ⊥
  no_first d has =
      ⊎_elim (λ old. no_equality ns (length ns) d formed (omega arith) old) (λ same. apart same) (Contains-push_cases ns (IteField c a b) (Eq (length ns) d) has)
    where
      apart : IteField c a b ≡ Eq (length ns) d → ⊥
      apart e = cc

  pub chosen : choice (sort.Field p) ns c a b ≡ record { nodes = ns ++ ite_nodes (length ns) c a b; id = length ns }
  chosen =
      let k = length ns in
      let x = IteField c a b in
      let one = ns ++ x ∷ [] in
      let two = one ++ Eq k a ∷ [] in
      let is_first = interned_absent one (Eq k a) (no_first a) in
      ap (with_equalities a b) (interned_absent ns x absent) ∙ ap (with_second k b) is_first
      ∙ ⊎_elim
      (λ same.
      let whole : two ≡ ns ++ ite_nodes k c a b = two_behind ns x (Eq k a) ∙ ap (λ r. ns ++ r) (sym (nodes_same k c a b same)) in
      let at : IsNodeAt two (length one) (Eq k b) = subst (λ d. IsNodeAt two (length one) (Eq k d)) same (IsNodeAt-last one (Eq k a)) in
      ap (with_table k) (interned_present two (Eq k b) (length one) at ∙ whole))
      (λ other.
      let three = two ++ Eq k b ∷ [] in
      let whole : three ≡ ns ++ ite_nodes k c a b = three_behind ns x (Eq k a) (Eq k b) ∙ ap (λ r. ns ++ r) (sym (nodes_other k c a b other)) in
      let no_second : Contains two (Eq k b) → ⊥ = λ has. ⊎_elim (λ old. no_first b old) (λ same. other (equal_branches k a b same)) (Contains-push_cases one (Eq k a) (Eq k b) has) in
      ap (λ m. with_table k m.nodes) (interned_absent two (Eq k b) no_second) ∙ ap (with_table k) whole)
      (cases_eq a b)

pub number_fits : (ns : List Node) (negative : Bool) (size p : ℕ) → IsOrder p → Fits ns (Num (residue_of_number negative size p) p)
number_fits ns negative size p is = (is, residue_below negative size p (order_positive p is))
