-- An `ite` of field sort and its equalities, put after the other nodes.
use Rattle.std.proofs.Common.{◌≡◌, ℕ, ◌+◌, ◌<◌, ◌≤◌, ◌⊎◌, inl, inr, ⊎_elim, Result, Ok, Err, IfOk, OnErr, ◌==◌, if◌then◌else◌, Bool, eq-eqb, ne_eqb, List, [], ◌∷◌, ◌++◌, length, take, Contains, refl, sym, ap, ◌∙◌, subst, arith, length-append, append_assoc, take_at}
use Rattle.std.proofs.lemmas.Bool.{cases_eq}
use Rattle.std.proofs.lemmas.List.{length_push}
use Rattle.std.proofs.lemmas.Option.{slice_get_within}
use Rattle.ffc_term.specs.declared.node.Node.{Node}
use Rattle.ffc_term.specs.declared.node.Node.TheVariants.{IteField, Eq}
use Rattle.ffc_term.specs.declared.table.TermStop.{TermStop}
use Rattle.ffc_term.specs.Nodes.{IsNodeAt}
use Rattle.ffc_term.specs.Tables.{Fits, IsFieldAt, AreOfOneField, IsWellFormed, IsInterned, IsIteInterned, HasEqualities, second_equality, ite_nodes, most_nodes}
use Rattle.ffc_term.proofs.NodeLemmas.{IsNodeAt-from_Contains, IsNodeAt-append, IsNodeAt-last, IsNodeAt-push, IsNodeAt-unique}
use Rattle.ffc_term.proofs.TableLemmas.{sort_at-append, sort_at-last, IsWellFormed-push}
use Rattle.ffc_term.proofs.WalkLemmas.{child_below, All-two}

-- what was asked for and was not there comes after the others
pub new_from_IsInterned : (old new : List Node) (n : Node) (id : ℕ) → IsInterned old new n id → ¬ (Contains old n) → (new ≡ old ++ n ∷ []) × (id ≡ length old)
new_from_IsInterned old new n id known none = ⊎_elim (λ was. absurd (none was.0)) (λ is. (is.1, is.2)) known.added

-- an equality of a node with itself or a later one is nowhere
pub no_equality : (ns : List Node) (t x : ℕ) → IsWellFormed ns → length ns ≤ t + 1 → ¬ (Contains ns (Eq t x))
no_equality ns t x formed short has =
    let there = IsNodeAt-from_Contains ns (Eq t x) has in
    let inside : there.0 < length ns = slice_get_within ns there.0 (Eq t x) there.1 in
    let below : t < there.0 = child_below ns there.0 t (Eq t x) formed there.1 (0, omega arith, refl) in
    absurd (omega arith)

pub no_second_equality : (ns : List Node) (t a b : ℕ) → IsWellFormed (ns ++ Eq t a ∷ []) → length ns ≡ t + 1 → ¬ (a ≡ b) → ¬ (Contains (ns ++ Eq t a ∷ []) (Eq t b))
no_second_equality ns t a b formed long other has =
    let new : List Node = ns ++ Eq t a ∷ [] in
    let there = IsNodeAt-from_Contains new (Eq t b) has in
    let inside : there.0 < length new = slice_get_within new there.0 (Eq t b) there.1 in
    let below : t < there.0 = child_below new there.0 t (Eq t b) formed there.1 (0, omega arith, refl) in
    let here : there.0 ≡ length ns = omega (arith, length-append ns (Eq t a ∷ [])) in
    let same : Eq t b ≡ Eq t a = IsNodeAt-unique new there.0 (Eq t b) (Eq t a) there.1 (subst (λ k. IsNodeAt new k (Eq t a)) (sym here) (IsNodeAt-last ns (Eq t a))) in
    other (cc)

IsFieldAt-append : (ns ms : List Node) (p id : ℕ) → IsFieldAt ns p id → IsFieldAt (ns ++ ms) p id
IsFieldAt-append ns ms p id is =
    let inside : id < length ns = is.0 in
    (omega (arith, length-append ns ms), sort_at-append ns ms id is.0 ∙ is.1)

-- the equality of a new `ite` with a node of its field fits
ite_field_at : (ns : List Node) (c a b p : ℕ) → IsFieldAt ns p a → IsFieldAt (ns ++ IteField c a b ∷ []) p (length ns)
ite_field_at ns c a b p is = (omega (arith, length-append ns (IteField c a b ∷ [])), sort_at-last ns (IteField c a b) ∙ is.1)

one_field : (ns : List Node) (p x y : ℕ) → IsFieldAt ns p x → IsFieldAt ns p y → AreOfOneField ns (x ∷ y ∷ [])
one_field ns p x y one two = record { some = omega arith; order = p; each = All-two (IsFieldAt ns p) x y one two }

pub fits_first : (ns : List Node) (c a b : ℕ) → Fits ns (IteField c a b) → Fits (ns ++ IteField c a b ∷ []) (Eq (length ns) a)
fits_first ns c a b fits =
    let p : ℕ = fits.1.order in
    let left : IsFieldAt ns p a = fits.1.each 0 0 (omega arith) in
    one_field (ns ++ IteField c a b ∷ []) p (length ns) a (ite_field_at ns c a b p left) (IsFieldAt-append ns (IteField c a b ∷ []) p a left)

pub fits_second : (ns : List Node) (c a b : ℕ) → Fits ns (IteField c a b) → Fits ((ns ++ IteField c a b ∷ []) ++ Eq (length ns) a ∷ []) (Eq (length ns) b)
fits_second ns c a b fits =
    let p : ℕ = fits.1.order in
    let new : List Node = ns ++ IteField c a b ∷ [] in
    let left : IsFieldAt ns p a = fits.1.each 0 0 (omega arith) in
    let right : IsFieldAt ns p b = fits.1.each 1 0 (omega arith) in
    one_field (new ++ Eq (length ns) a ∷ []) p (length ns) b (IsFieldAt-append new (Eq (length ns) a ∷ []) p (length ns) (ite_field_at ns c a b p left)) (IsFieldAt-append new (Eq (length ns) a ∷ []) p b (IsFieldAt-append ns (IteField c a b ∷ []) p b right))

-- the nodes that an `ite` adds, where its branches are one node, and where they are two
pub ite_nodes-same : (t c a b : ℕ) → a ≡ b → ite_nodes t c a b ≡ IteField c a b ∷ Eq t a ∷ []
ite_nodes-same t c a b same = ap (λ (x : Bool). IteField c a b ∷ Eq t a ∷ (if x then [] else Eq t b ∷ [])) (eq-eqb a b same)

pub ite_nodes-other : (t c a b : ℕ) → ¬ (a ≡ b) → ite_nodes t c a b ≡ IteField c a b ∷ Eq t a ∷ Eq t b ∷ []
ite_nodes-other t c a b other = ap (λ (x : Bool). IteField c a b ∷ Eq t a ∷ (if x then [] else Eq t b ∷ [])) (ne_eqb a b other)

module _ (ns : List Node) (c a b : ℕ) (formed : IsWellFormed ns) (fits : Fits ns (IteField c a b)) (new : ¬ (Contains ns (IteField c a b))) (room : length ns + length (ite_nodes (length ns) c a b) ≤ most_nodes) where
  two_more : length ns + 2 ≤ most_nodes
  two_more = omega (arith, room)

  ite_formed : IsWellFormed (ns ++ IteField c a b ∷ [])
  ite_formed = IsWellFormed-push ns (IteField c a b) formed fits tt new (omega (arith, two_more))

  first_new : ¬ (Contains (ns ++ IteField c a b ∷ []) (Eq (length ns) a))
  first_new = no_equality (ns ++ IteField c a b ∷ []) (length ns) a ite_formed (omega (arith, length-append ns (IteField c a b ∷ [])))

  first_formed : IsWellFormed ((ns ++ IteField c a b ∷ []) ++ Eq (length ns) a ∷ [])
  first_formed = IsWellFormed-push (ns ++ IteField c a b ∷ []) (Eq (length ns) a) ite_formed (fits_first ns c a b fits) tt first_new (omega (arith, two_more, length-append ns (IteField c a b ∷ [])))

  -- the table and the number after the `ite` was put
  pub ite_put : (one : List Node) (t : ℕ) → IsInterned ns one (IteField c a b) t → (one ≡ ns ++ IteField c a b ∷ []) × (t ≡ length ns)
  ite_put one t known = new_from_IsInterned ns one (IteField c a b) t known new

  pub first_fits : (one : List Node) (t : ℕ) → IsInterned ns one (IteField c a b) t → Fits one (Eq t a)
  first_fits one t known =
      let p = ite_put one t known in
      rw (p.0, p.1) (fits_first ns c a b fits)

  -- the table after its first equality was put
  pub first_put : (one two : List Node) (t k : ℕ) → IsInterned ns one (IteField c a b) t → IsInterned one two (Eq t a) k → two ≡ (ns ++ IteField c a b ∷ []) ++ Eq (length ns) a ∷ []
  first_put one two t k known next =
      let p = ite_put one t known in
      let here : IsInterned (ns ++ IteField c a b ∷ []) two (Eq (length ns) a) k = subst (λ i. IsInterned (ns ++ IteField c a b ∷ []) two (Eq i a) k) p.1 (subst (λ xs. IsInterned xs two (Eq t a) k) p.0 next) in
      (new_from_IsInterned (ns ++ IteField c a b ∷ []) two (Eq (length ns) a) k here first_new).0

  pub second_fits : (one two : List Node) (t k : ℕ) → IsInterned ns one (IteField c a b) t → IsInterned one two (Eq t a) k → Fits two (Eq t b)
  second_fits one two t k known next =
      rw (first_put one two t k known next, (ite_put one t known).1) (fits_second ns c a b fits)

  -- the table after its second equality was put
  pub second_put : (one two three : List Node) (t k l : ℕ) → ¬ (a ≡ b) → IsInterned ns one (IteField c a b) t → IsInterned one two (Eq t a) k → IsInterned two three (Eq t b) l → three ≡ ((ns ++ IteField c a b ∷ []) ++ Eq (length ns) a ∷ []) ++ Eq (length ns) b ∷ []
  second_put one two three t k l other known next last =
      let both : List Node = (ns ++ IteField c a b ∷ []) ++ Eq (length ns) a ∷ [] in
      let here : IsInterned both three (Eq (length ns) b) l = subst (λ i. IsInterned both three (Eq i b) l) (ite_put one t known).1 (subst (λ xs. IsInterned xs three (Eq t b) l) (first_put one two t k known next) last) in
      let none : ¬ (Contains both (Eq (length ns) b)) = no_second_equality (ns ++ IteField c a b ∷ []) (length ns) a b first_formed (omega (arith, length-append ns (IteField c a b ∷ []))) other in
      (new_from_IsInterned both three (Eq (length ns) b) l here none).0

  pub same_ok : (one two : List Node) (t k : ℕ) → a ≡ b → IsInterned ns one (IteField c a b) t → IsInterned one two (Eq t a) k → (two ≡ ns ++ ite_nodes t c a b) × (t ≡ length ns)
  same_ok one two t k same known next =
      let p = ite_put one t known in
      (first_put one two t k known next ∙ append_assoc ns (IteField c a b ∷ []) (Eq (length ns) a ∷ []) ∙ ap (λ xs. ns ++ xs) (sym (ite_nodes-same (length ns) c a b same)) ∙ ap (λ i. ns ++ ite_nodes i c a b) (sym p.1), p.1)

  pub other_ok : (one two three : List Node) (t k l : ℕ) → ¬ (a ≡ b) → IsInterned ns one (IteField c a b) t → IsInterned one two (Eq t a) k → IsInterned two three (Eq t b) l → (three ≡ ns ++ ite_nodes t c a b) × (t ≡ length ns)
  other_ok one two three t k l other known next last =
      let p = ite_put one t known in
      (second_put one two three t k l other known next last ∙ append_assoc (ns ++ IteField c a b ∷ []) (Eq (length ns) a ∷ []) (Eq (length ns) b ∷ []) ∙ append_assoc ns (IteField c a b ∷ []) (Eq (length ns) a ∷ Eq (length ns) b ∷ []) ∙ ap (λ xs. ns ++ xs) (sym (ite_nodes-other (length ns) c a b other)) ∙ ap (λ i. ns ++ ite_nodes i c a b) (sym p.1), p.1)

-- the nodes before stay at the front
pub take_front : (ns new ms : List Node) → new ≡ ns ++ ms → take (length ns) new ≡ ns
take_front ns new ms is = ap (take (length ns)) is ∙ take_at ns ms (length ns) refl

-- the equalities of the `ite` k with the branches a and b come after it
abbrev pub EqualitiesAt : List Node → ℕ → ℕ → ℕ → Type 0
EqualitiesAt ns k a b = IsNodeAt ns (k + 1) (Eq k a) × IsNodeAt ns (second_equality k a b) (Eq k b)

second_equality-same : (t a b : ℕ) → a ≡ b → second_equality t a b ≡ t + 1
second_equality-same t a b same = ap (λ (x : Bool). if x then t + 1 else t + 2) (eq-eqb a b same)

second_equality-other : (t a b : ℕ) → ¬ (a ≡ b) → second_equality t a b ≡ t + 2
second_equality-other t a b other = ap (λ (x : Bool). if x then t + 1 else t + 2) (ne_eqb a b other)

EqualitiesAt-append : (ns ms : List Node) (k a b : ℕ) → EqualitiesAt ns k a b → EqualitiesAt (ns ++ ms) k a b
EqualitiesAt-append ns ms k a b are = (IsNodeAt-append ns ms (k + 1) (Eq k a) are.0, IsNodeAt-append ns ms (second_equality k a b) (Eq k b) are.1)

ite_not_eq : (c a b x y : ℕ) → ¬ (IteField c a b ≡ Eq x y)
ite_not_eq c a b x y e = cc

ite_parts : (c a b d e f : ℕ) → IteField c a b ≡ IteField d e f → (a ≡ e) × (b ≡ f)
ite_parts c a b d e f same = (cc, cc)

module _ (ns : List Node) (c a b : ℕ) where
  behind_same : a ≡ b → EqualitiesAt ((ns ++ IteField c a b ∷ []) ++ Eq (length ns) a ∷ []) (length ns) a b
  behind_same same =
      let at : IsNodeAt ((ns ++ IteField c a b ∷ []) ++ Eq (length ns) a ∷ []) (length ns + 1) (Eq (length ns) a) = subst (λ k. IsNodeAt ((ns ++ IteField c a b ∷ []) ++ Eq (length ns) a ∷ []) k (Eq (length ns) a)) (length_push ns (IteField c a b)) (IsNodeAt-last (ns ++ IteField c a b ∷ []) (Eq (length ns) a)) in
      (at, rw (second_equality-same (length ns) a b same) (subst (λ x. IsNodeAt ((ns ++ IteField c a b ∷ []) ++ Eq (length ns) a ∷ []) (length ns + 1) (Eq (length ns) x)) same at))

  behind_other : ¬ (a ≡ b) → EqualitiesAt (((ns ++ IteField c a b ∷ []) ++ Eq (length ns) a ∷ []) ++ Eq (length ns) b ∷ []) (length ns) a b
  behind_other other =
      let both : List Node = (ns ++ IteField c a b ∷ []) ++ Eq (length ns) a ∷ [] in
      let at : IsNodeAt both (length ns + 1) (Eq (length ns) a) = subst (λ k. IsNodeAt both k (Eq (length ns) a)) (length_push ns (IteField c a b)) (IsNodeAt-last (ns ++ IteField c a b ∷ []) (Eq (length ns) a)) in
      let long : length both ≡ length ns + 2 = omega (arith, length_push (ns ++ IteField c a b ∷ []) (Eq (length ns) a), length_push ns (IteField c a b)) in
      (IsNodeAt-append both (Eq (length ns) b ∷ []) (length ns + 1) (Eq (length ns) a) at, rw (second_equality-other (length ns) a b other) (subst (λ k. IsNodeAt (both ++ Eq (length ns) b ∷ []) k (Eq (length ns) b)) long (IsNodeAt-last both (Eq (length ns) b))))

  -- an `ite` of the longer table is an old one or the new one
  which_ite : (k d e f : ℕ) → IsNodeAt (ns ++ IteField c a b ∷ []) k (IteField d e f) → IsNodeAt ns k (IteField d e f) ⊎ ((k ≡ length ns) × (e ≡ a) × (f ≡ b))
  which_ite k d e f at =
      ⊎_elim (λ before. inl before) (λ last. inr (last.0, (ite_parts d e f c a b last.1).0, (ite_parts d e f c a b last.1).1)) (IsNodeAt-push ns (IteField c a b) k (IteField d e f) at)

  which_same : (k d e f : ℕ) → IsNodeAt ((ns ++ IteField c a b ∷ []) ++ Eq (length ns) a ∷ []) k (IteField d e f) → IsNodeAt ns k (IteField d e f) ⊎ ((k ≡ length ns) × (e ≡ a) × (f ≡ b))
  which_same k d e f at =
      ⊎_elim (λ before. which_ite k d e f before) (λ last. absurd (ite_not_eq d e f (length ns) a last.1)) (IsNodeAt-push (ns ++ IteField c a b ∷ []) (Eq (length ns) a) k (IteField d e f) at)

  which_other : (k d e f : ℕ) → IsNodeAt (((ns ++ IteField c a b ∷ []) ++ Eq (length ns) a ∷ []) ++ Eq (length ns) b ∷ []) k (IteField d e f) → IsNodeAt ns k (IteField d e f) ⊎ ((k ≡ length ns) × (e ≡ a) × (f ≡ b))
  which_other k d e f at =
      ⊎_elim (λ before. which_same k d e f before) (λ last. absurd (ite_not_eq d e f (length ns) b last.1)) (IsNodeAt-push ((ns ++ IteField c a b ∷ []) ++ Eq (length ns) a ∷ []) (Eq (length ns) b) k (IteField d e f) at)

  moved : (new : List Node) (k e f : ℕ) → EqualitiesAt new (length ns) a b → (k ≡ length ns) × (e ≡ a) × (f ≡ b) → EqualitiesAt new k e f
  moved new k e f beyond is =
      subst (λ i. EqualitiesAt new i e f) (sym is.0) (subst (λ x. EqualitiesAt new (length ns) x f) (sym is.1) (subst (λ y. EqualitiesAt new (length ns) a y) (sym is.2) beyond))

  with_same : a ≡ b → HasEqualities ns → HasEqualities ((ns ++ IteField c a b ∷ []) ++ Eq (length ns) a ∷ [])
  with_same same old k d e f at =
      let new : List Node = (ns ++ IteField c a b ∷ []) ++ Eq (length ns) a ∷ [] in
      ⊎_elim (λ before. EqualitiesAt-append (ns ++ IteField c a b ∷ []) (Eq (length ns) a ∷ []) k e f (EqualitiesAt-append ns (IteField c a b ∷ []) k e f (old k d e f before))) (λ is. moved new k e f (behind_same same) is) (which_same k d e f at)

  with_other : ¬ (a ≡ b) → HasEqualities ns → HasEqualities (((ns ++ IteField c a b ∷ []) ++ Eq (length ns) a ∷ []) ++ Eq (length ns) b ∷ [])
  with_other other old k d e f at =
      let both : List Node = (ns ++ IteField c a b ∷ []) ++ Eq (length ns) a ∷ [] in
      ⊎_elim (λ before. EqualitiesAt-append both (Eq (length ns) b ∷ []) k e f (EqualitiesAt-append (ns ++ IteField c a b ∷ []) (Eq (length ns) a ∷ []) k e f (EqualitiesAt-append ns (IteField c a b ∷ []) k e f (old k d e f before)))) (λ is. moved (both ++ Eq (length ns) b ∷ []) k e f (behind_other other) is) (which_other k d e f at)

  -- a new `ite` comes with its equalities
  pub HasEqualities-ite : (new : List Node) (t : ℕ) → HasEqualities ns → (new ≡ ns ++ ite_nodes t c a b) × (t ≡ length ns) → HasEqualities new
  HasEqualities-ite new t old is =
      let named : new ≡ ns ++ ite_nodes (length ns) c a b = is.0 ∙ ap (λ i. ns ++ ite_nodes i c a b) is.1 in
      elim (cases_eq a b) as (λ _. HasEqualities new) [
        | inl same ↦ subst HasEqualities (sym (named ∙ ap (λ xs. ns ++ xs) (ite_nodes-same (length ns) c a b same) ∙ sym (append_assoc ns (IteField c a b ∷ []) (Eq (length ns) a ∷ [])))) (with_same same old)
        | inr other ↦ subst HasEqualities (sym (named ∙ ap (λ xs. ns ++ xs) (ite_nodes-other (length ns) c a b other) ∙ sym (append_assoc ns (IteField c a b ∷ []) (Eq (length ns) a ∷ Eq (length ns) b ∷ [])) ∙ sym (append_assoc (ns ++ IteField c a b ∷ []) (Eq (length ns) a ∷ []) (Eq (length ns) b ∷ [])))) (with_other other old)
      ]

-- the same for what the call answers
pub HasEqualities-ite_result : (r : Result ℕ TermStop) (old new : List Node) (c a b : ℕ) → HasEqualities old → IfOk r (IsIteInterned old new c a b) → OnErr r (new ≡ old) → HasEqualities new
HasEqualities-ite_result (Ok id) old new c a b known interned same =
    ⊎_elim (λ was. subst HasEqualities (sym was.1) known) (λ is. HasEqualities-ite old c a b new id known (is.1, is.2)) interned.added
HasEqualities-ite_result (Err e) old new c a b known interned same = subst HasEqualities (sym same) known

pub IsIteInterned-new : (ns new : List Node) (c a b id : ℕ) → ¬ (Contains ns (IteField c a b)) → (new ≡ ns ++ ite_nodes id c a b) × (id ≡ length ns) → IsIteInterned ns new c a b id
IsIteInterned-new ns new c a b id none is =
    let rest : List Node = Eq id a ∷ (if a == b then [] else Eq id b ∷ []) in
    let split : ns ++ ite_nodes id c a b ≡ (ns ++ IteField c a b ∷ []) ++ rest = sym (append_assoc ns (IteField c a b ∷ []) rest) in
    let at : IsNodeAt (ns ++ IteField c a b ∷ []) id (IteField c a b) = subst (λ k. IsNodeAt (ns ++ IteField c a b ∷ []) k (IteField c a b)) (sym is.1) (IsNodeAt-last ns (IteField c a b)) in
    record {
      at = subst (λ xs. IsNodeAt xs id (IteField c a b)) (sym (is.0 ∙ split)) (IsNodeAt-append (ns ++ IteField c a b ∷ []) rest id (IteField c a b) at);
      added = inr (none, is.0, is.1);
    }
