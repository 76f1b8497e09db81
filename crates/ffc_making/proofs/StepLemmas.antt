-- What a step of the machine leaves.
use Rattle.std.proofs.Common.{◌≡◌, ℕ, zero, suc, ◌+◌, ◌≤◌, ⊎_elim, List, [], ◌∷◌, ◌++◌, length, map, Option, Some, None, Result, Ok, Err, OnOk, option_map, sym, ap, ◌∙◌, subst, arith, append_assoc, append-nil}
use Rattle.ffc_term.specs.declared.node.Node.{Node}
use Rattle.ffc_term.specs.declared.node.Node.TheVariants as node
use Rattle.ffc_term.specs.declared.table.TermStop.{TermStop}
use Rattle.ffc_term.specs.Tables.{IsTable}
use Rattle.ffc_smt.specs.Meaning.{Env}
use Rattle.ffc_smt.specs.Making.{Made, truth_node}
use Rattle.ffc_smt.proofs.Extends.{longer, interned_extends, applied_extends}
use Rattle.ffc_parts.specs.Growing.{Grows, IsDone, IsLeft}
use Rattle.ffc_parts.specs.Operators.{operator_of}
use Rattle.ffc_terms.specs.declared.codes.Op.{Op}
use Rattle.ffc_terms.specs.declared.codes.Op.TheVariants as op
use Rattle.ffc_terms.specs.declared.scope.Meaning.{Meaning}
use Rattle.ffc_terms.specs.declared.scope.Meaning.TheVariants as meaning
use Rattle.ffc_terms.specs.declared.scope.Macro.{Macro}
use Rattle.ffc_terms.specs.declared.scope.Symbols.{Symbols}
use Rattle.ffc_terms.specs.Callees.{macro_at, as_macro}
use Rattle.ffc_terms.specs.Slots.{at_slot}
use Rattle.ffc_terms.proofs.SlotLemmas.{at_slot_map}
use Rattle.ffc_smt.specs.Terms.{Name}
use Rattle.ffc_making.specs.Machine.{Saved, Making, making, Goes, GoesOn, Puts, Acts, CanGo, IsMacroAt}

module _ (symbols : Env Meaning) (wanted : Made) where
  goes_more : (Next : List Node → Making → Type 0) (nodes : List Node) (w : Making) (ops : List Op) → ((ns : List Node) (v : Making) → Next ns v → length ns ≤ length wanted.nodes)
      → Goes Next symbols wanted nodes w ops → length nodes ≤ length wanted.nodes
  goes_more Next nodes w [] k h = ⊎_elim (λ e. let l : length wanted.nodes ≡ length nodes = ap (λ (m : Made). length m.nodes) e.is in omega (arith, l)) (λ r. k _ _ r.next) h
  goes_more Next nodes w (op.Truth b ∷ rest) k h =
      let l = k _ _ h in let e = longer nodes _ (interned_extends nodes (truth_node b)) in omega (arith, l, e)
  goes_more Next nodes w (op.Number n p ∷ rest) k h =
      let l = k _ _ h.1 in let e = longer nodes _ (interned_extends nodes (node.Num n p)) in omega (arith, l, e)
  goes_more Next nodes w (op.Known id ∷ rest) k h = k _ _ h
  goes_more Next nodes w (op.Local slot ∷ rest) k h = k _ _ h.next
  goes_more Next nodes w (op.Apply f count ∷ rest) k h =
      let l = k _ _ h.next in let e = longer nodes _ (applied_extends (operator_of f) h.ids nodes) in omega (arith, l, e)
  goes_more Next nodes w (op.Bind count ∷ rest) k h = k _ _ h.next
  goes_more Next nodes w (op.Unbind count ∷ rest) k h = k _ _ h.next
  goes_more Next nodes w (op.Call place count ∷ rest) k h = k _ _ h.next

  -- the present nodes are among those that are wanted
  pub goes_longer : (n : ℕ) (nodes : List Node) (w : Making) → GoesOn n symbols wanted nodes w → length nodes ≤ length wanted.nodes
  goes_longer zero nodes w h = absurd h
  goes_longer (suc n) nodes w h = goes_more (GoesOn n symbols wanted) nodes w w.rest (goes_longer n) h

  pub put_acts : (n : ℕ) (old new : List Node) (m : Made) (w v : Making) (result : Result (Unit {0}) TermStop) → GoesOn n symbols wanted m.nodes w → Puts old new m w v result
      → Acts n symbols wanted old new v result
  put_acts n old new m w v (Ok u) goes put = (subst (λ x. GoesOn n symbols wanted new x) put.2 (subst (λ ns. GoesOn n symbols wanted ns w) put.0 goes), put.1)
  put_acts n old new m w v (Err cause) goes left =
      let l = goes_longer n m.nodes w goes in
      record { full = (λ e. let f = left.full e in omega (arith, f, l)); grows = left.grows }

  -- an operation that puts no node
  pub stay_acts : (n : ℕ) (nodes : List Node) (w v : Making) → IsTable nodes → GoesOn n symbols wanted nodes w → v ≡ w → GoesOn n symbols wanted nodes v × Grows nodes nodes
  stay_acts n nodes w v table goes e = (subst (λ x. GoesOn n symbols wanted nodes x) (sym e) goes, record { more = []; put = sym (append-nil nodes); table = table })

  pub same_goes : (Next : List Node → Making → Type 0) (nodes : List Node) (w : Making) (r : List Op) (o : Op) (rest : List Op)
      → Goes Next symbols wanted nodes (making r w.base w.calls w.stack w.locals) (o ∷ rest) → Goes Next symbols wanted nodes w (o ∷ rest)
  same_goes Next nodes w r (op.Truth b) rest h = h
  same_goes Next nodes w r (op.Number n p) rest h = h
  same_goes Next nodes w r (op.Known id) rest h = h
  same_goes Next nodes w r (op.Local slot) rest h = record { id = h.id; there = h.there; next = h.next }
  same_goes Next nodes w r (op.Apply f count) rest h = record { kept = h.kept; ids = h.ids; last = h.last; taken = h.taken; next = h.next }
  same_goes Next nodes w r (op.Bind count) rest h = record { kept = h.kept; ids = h.ids; last = h.last; next = h.next }
  same_goes Next nodes w r (op.Unbind count) rest h = record { kept = h.kept; gone = h.gone; last = h.last; next = h.next }
  same_goes Next nodes w r (op.Call place count) rest h = record { callee = h.callee; there = h.there; kept = h.kept; ids = h.ids; last = h.last; next = h.next }

  -- the first operation is taken
  pub taken_goes : (n : ℕ) (nodes : List Node) (old new : Making) (o : Op) → old.rest ≡ o ∷ new.rest → making old.rest new.base new.calls new.stack new.locals ≡ old
      → GoesOn (suc n) symbols wanted nodes old → Goes (GoesOn n symbols wanted) symbols wanted nodes new (o ∷ new.rest)
  taken_goes n nodes old new o first same goes =
      same_goes (GoesOn n symbols wanted) nodes new old.rest o new.rest
      (subst (λ w. Goes (GoesOn n symbols wanted) symbols wanted nodes w (o ∷ new.rest)) (sym same)
      (subst (λ ops. Goes (GoesOn n symbols wanted) symbols wanted nodes old ops) first goes))

  -- what was put before
  pub later_grows : (a b c : List Node) → Grows a b → Grows b c → Grows a c
  later_grows a b c x y = record { more = x.more ++ y.more; put = y.put ∙ ap (λ t. t ++ y.more) x.put ∙ append_assoc a x.more y.more; table = y.table }

  pub can_go : (n : ℕ) (nodes : List Node) (w : Making) → GoesOn n symbols wanted nodes w → CanGo symbols nodes w
  can_go zero nodes w h = absurd h
  can_go (suc n) nodes w h = record { steps = n; wanted = wanted; goes = h }

  pub step_done : (n : ℕ) (first old new : List Node) (w : Making) (id : ℕ) → GoesOn n symbols wanted old w → Grows first old
      → ((k : ℕ) → GoesOn (suc k) symbols wanted old w → IsDone old new wanted id) → IsDone first new wanted id
  step_done zero first old new w id h g next = absurd h
  step_done (suc n) first old new w id h g next = let d = next n h in record { made = d.made; grows = later_grows first old new g d.grows }

  pub step_left : (n : ℕ) (first old new : List Node) (w : Making) (cause : TermStop) → GoesOn n symbols wanted old w → Grows first old
      → ((k : ℕ) → GoesOn (suc k) symbols wanted old w → IsLeft old new wanted cause) → IsLeft first new wanted cause
  step_left zero first old new w cause h g next = absurd h
  step_left (suc n) first old new w cause h g next = let d = next n h in record { full = d.full; grows = later_grows first old new g d.grows }

  pub step_on : (n counter limit : ℕ) (first old new : List Node) (w v : Making) → n + counter ≤ limit → GoesOn n symbols wanted old w → Grows first old
      → ((k : ℕ) → GoesOn (suc k) symbols wanted old w → GoesOn k symbols wanted new v × Grows old new) → (k : ℕ) × (k + (counter + 1) ≤ limit) × GoesOn k symbols wanted new v × Grows first new
  step_on zero counter limit first old new w v few h g next = absurd h
  step_on (suc n) counter limit first old new w v few h g next = let d = next n h in (n, omega (arith, few), d.0, later_grows first old new g d.1)

  pub none_left : (n counter limit : ℕ) (nodes : List Node) (w : Making) → n + counter ≤ limit → limit ≤ counter → GoesOn n symbols wanted nodes w → ⊥
  none_left zero counter limit nodes w few past h = h
  none_left (suc n) counter limit nodes w few past h = absurd (omega (arith, few, past))

pub starts : (nodes : List Node) → IsTable nodes → Grows nodes nodes
starts nodes table = record { more = []; put = sym (append-nil nodes); table = table }

-- a macro that is called is found
pub macro_found : (symbols : Symbols) (place : ℕ) → IsMacroAt symbols.terms place → macro_at symbols place ≡ None → ⊥
macro_found symbols place is none = by_entry (at_slot symbols.terms place) none (sym (at_slot_map (λ (x : Name × Meaning). x.1) symbols.terms place) ∙ is.1)
  where
    by_entry : (o : Option (Name × Meaning)) → as_macro o ≡ None → option_map (λ x. x.1) o ≡ Some (meaning.Macro is.0) → ⊥
    by_entry None f g = cc
    by_entry (Some (name, meaning.Constant n s id)) f g = cc
    by_entry (Some (name, meaning.Defined s id)) f g = cc
    by_entry (Some (name, meaning.Macro k)) f g = cc

-- the macro that is found is the one that is there
pub callee_found : (symbols : Symbols) (place : ℕ) (m callee : Macro) → Some m ≡ macro_at symbols place → at_slot (map (λ x. x.1) symbols.terms) place ≡ Some (meaning.Macro callee) → m ≡ callee
callee_found symbols place m callee e there = by_entry (at_slot symbols.terms place) e (sym (at_slot_map (λ (x : Name × Meaning). x.1) symbols.terms place) ∙ there)
  where
    by_entry : (o : Option (Name × Meaning)) → Some m ≡ as_macro o → option_map (λ x. x.1) o ≡ Some (meaning.Macro callee) → m ≡ callee
    by_entry None f g = cc
    by_entry (Some (name, meaning.Constant n s id)) f g = cc
    by_entry (Some (name, meaning.Defined s id)) f g = cc
    by_entry (Some (name, meaning.Macro k)) f g = cc

pub on_ok : {A B : Type 0} {P Q : Type 0} (r : Result A B) → OnOk r P → (P → Q) → OnOk r Q
on_ok (Ok a) h k = k h
on_ok (Err b) h k = tt

pub same_making : (rest rest' : List Op) (base base' : ℕ) (calls calls' : List Saved) (stack stack' locals locals' : List ℕ) → rest ≡ rest' → base ≡ base' → calls ≡ calls' → stack ≡ stack' → locals ≡ locals'
    → making rest base calls stack locals ≡ making rest' base' calls' stack' locals'
same_making rest rest' base base' calls calls' stack stack' locals locals' e f g h i = cc
