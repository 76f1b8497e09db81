-- An `ite` of field sort is put into a table with its equalities.
use Rattle.std.proofs.Common.{◌≡◌, ℕ, ◌+◌, ◌<◌, ◌↔◌, ◌⊎◌, inl, inr, List, [], ◌++◌, length, Result, Ok, Err, IfOk, OnErr, IsErrOf, Contains, sym, ap, ◌∙◌, arith, append-nil, length-append}
use Rattle.ffc_term.specs.declared.node.Node.{Node}
use Rattle.ffc_term.specs.declared.node.Node.TheVariants.{IteField}
use Rattle.ffc_term.specs.declared.node.Sort.TheVariants as sort
use Rattle.ffc_term.specs.declared.table.TermStop.{TermStop}
use Rattle.ffc_term.specs.declared.table.TermStop.TheVariants as stop
use Rattle.ffc_term.specs.Tables.{IsTable, IsIteInterned, ite_nodes, most_nodes}
use Rattle.ffc_smt.specs.Making.{choice}
use Rattle.ffc_smt.proofs.InterningLemmas.{choosing_is_one}
use Rattle.ffc_smt.proofs.ChoiceLemmas.{chosen}
use Rattle.ffc_parts.specs.Growing.{Grows, Makes}

ite_grows : (old new : List Node) (c a b id : ℕ) → IsTable new → IsIteInterned old new c a b id → Grows old new
ite_grows old new c a b id table h = by_added h.added
  where
    by_added : (Contains old (IteField c a b) × (new ≡ old)) ⊎ (¬ (Contains old (IteField c a b)) × (new ≡ old ++ ite_nodes id c a b) × (id ≡ length old)) → Grows old new
    by_added (inl there) = record { more = []; put = there.1 ∙ sym (append-nil old); table = table }
    by_added (inr put) = record { more = ite_nodes id c a b; put = put.1; table = table }

pub ite_makes : (old new : List Node) (p c a b : ℕ) (r : Result ℕ TermStop) → IsTable old → IsTable new → IfOk r (IsIteInterned old new c a b)
    → (IsErrOf r stop.Nodes ↔ (¬ (Contains old (IteField c a b)) × (most_nodes < length old + length (ite_nodes (length old) c a b)))) → OnErr r (new ≡ old)
    → Makes old new (choice (sort.Field p) old c a b) r
ite_makes old new p c a b (Ok id) before after ok full err = record { made = choosing_is_one old new p c a b id after ok; grows = ite_grows old new c a b id after ok }
ite_makes old new p c a b (Err cause) before after ok full err = record {
  full = λ e.
      let h = full.0 (ap Err e) in
      let is = chosen old p c a b before.well_formed h.0 in
      let long : length (choice (sort.Field p) old c a b).nodes ≡ length old + length (ite_nodes (length old) c a b) = ap (λ m. length m.nodes) is ∙ length-append old (ite_nodes (length old) c a b) in
      omega (arith, long, h.1);
  grows = record { more = []; put = err ∙ sym (append-nil old); table = after };
}
