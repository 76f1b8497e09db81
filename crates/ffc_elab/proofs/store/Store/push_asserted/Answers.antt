use Rattle.std.proofs.Common.{◌≡◌, List, ℕ, Option, Some, None, Bor, sym, subst}
use Rattle.std.specs.Prelude.{option_map}
use Rattle.ffc_smt.specs.Scopes.{State, with_assertion}
use Rattle.ffc_smt.specs.Scripts.{labelled}
use Rattle.ffc_smt.specs.Terms.{Term}
use Rattle.ffc_elab.specs.declared.store.Store.{Store}
use Rattle.ffc_elab.specs.Kept.{IsKept}
use Rattle.ffc_elab.specs.Changes.{in_state}
use Rattle.ffc_elab.proofs.AssertCommand.{an_assertion}
use Rattle.ffc_elab.proofs.store.Store.push_asserted.Goals as goal
use Rattle.ffc_elab.proofs.store.Store.push_asserted.Goals.{in-None+in_ok-push_assertion-in-None, in-Some+in_ok-push_labelled-in-Some}

-- the state with an assertion of this name
abbrev named_as : Option (Bor (List ℕ)) → Term → State → State
named_as name t s = let label = option_map (λ (b : Bor (List ℕ)). b.now) name in labelled label t (with_assertion (an_assertion label t) s)

by_name : (name other : Option (Bor (List ℕ))) (t : Term) (s : State) (x y : Store) → name ≡ other → y ≡ x → IsKept (in_state (named_as other t s)) x → IsKept (in_state (named_as name t s)) y
by_name name other t s x y e same h = subst (λ o. IsKept (in_state (named_as o t s)) y) (sym e) (subst (IsKept (in_state (named_as other t s))) (sym same) h)

pub returns-clause-ok : goal.returns-clause-ok
returns-clause-ok c = λ k t global known is orders h.
    let s = k.state in
    let name = c.args.name in
    let named : IsKept (in_state (named_as name t s)) c.match-name.self =
    elim c.match-name.branch [
      | in-None+in_ok-push_assertion-in-None w ↦ by_name name None t s w.push_assertion.new.self c.match-name.self w.in-None.is w.self-is (w.in_ok-push_assertion-in-None.ensures.ok k t is h)
      | in-Some+in_ok-push_labelled-in-Some w ↦ by_name name (Some w.in-Some.name) t s w.push_labelled.new.self c.match-name.self w.in-Some.is w.self-is (w.in_ok-push_labelled-in-Some.ensures.ok k t global known is h)
    ] in
    c.name_orders.ensures (named_as name t s) orders named
