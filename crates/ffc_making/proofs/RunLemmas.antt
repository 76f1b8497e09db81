-- Code makes the nodes of its term.
use Rattle.std.proofs.Common.{◌≡◌, ℕ, zero, suc, ◌+◌, ◌*◌, ◌≤◌, inl, inr, Bool, true, false, if◌then◌else◌, List, [], ◌∷◌, ◌++◌, length, map, reverse, zip, Some, slice_get, refl, sym, ap, ◌∙◌, subst, arith, append_assoc, append-nil}
use Rattle.std.specs.Str.{bytes_eq}
use Rattle.std.proofs.lemmas.List.{reverse-append, length-reverse}
use Rattle.ffc_term.specs.declared.node.Node.{Node}
use Rattle.ffc_term.specs.declared.node.Sort.{Sort}
use Rattle.ffc_term.specs.Tables.{most_nodes}
use Rattle.ffc_smt.specs.Asking.{AreSortsAt}
use Rattle.ffc_smt.specs.Terms.{Name, Term, Truth, Number, Constant, Variable, Defined, Applied, Let, Called, Terms, NoTerm, AndTerm, weight, weights}
use Rattle.ffc_smt.specs.Meaning.{Env, found, residue_of_number}
use Rattle.ffc_smt.specs.Making.{Made, made, all_made, applied_made, variable_made}
use Rattle.ffc_smt.specs.WellSorted.{Takes, IsSoundTerm, AreSoundTerms}
use Rattle.ffc_smt.proofs.Again.{made_anew}
use Rattle.ffc_smt.proofs.Extends.{Extends, extends_same, extends_further, made_extends, all_made_extends}
use Rattle.ffc_smt.proofs.SoundTerms.{AreAt, made_good, order_positive, residue_below}
use Rattle.ffc_smt.proofs.TableMaking.{EachAt, at_stays, room_before, Good}
use Rattle.ffc_terms.specs.declared.codes.Op.{Op}
use Rattle.ffc_terms.specs.declared.codes.Op.TheVariants as op
use Rattle.ffc_terms.specs.declared.scope.Meaning.{Meaning}
use Rattle.ffc_terms.specs.Codes.{IsCode, AreCodes, IsKnown, place_of}
use Rattle.ffc_making.specs.Machine.{Saved, Making, making, saved, HasEnded, GoesOn, IsCodeOf}

-- Sorts of what is made (as in ffc_smt's SoundTerms)

are_stay : (locals : Env Sort) (ids : Env ℕ) (old new : List Node) → Extends old new → AreAt old locals ids → AreAt new locals ids
are_stay [] [] old new further h = tt
are_stay [] (y ∷ ys) old new further h = absurd h
are_stay (x ∷ xs) [] old new further h = absurd h
are_stay (x ∷ xs) (y ∷ ys) old new further h = (h.0, at_stays old new x.1 y.1 further h.1, are_stay xs ys old new further h.2)

zip_at : (names : List Name) (ss : List Sort) (ids : List ℕ) (locals : Env Sort) (more : Env ℕ) (ns : List Node) → EachAt ns ss ids → AreAt ns locals more
    → AreAt ns (zip names ss ++ locals) (zip names ids ++ more)
zip_at [] ss ids locals more ns h g = g
zip_at (n ∷ names) [] [] locals more ns h g = g
zip_at (n ∷ names) [] (a ∷ ids) locals more ns h g = absurd h
zip_at (n ∷ names) (s ∷ ss) [] locals more ns h g = absurd h
zip_at (n ∷ names) (s ∷ ss) (a ∷ ids) locals more ns h g = (refl, h.0, zip_at names ss ids locals more ns h.1 g)

zip_alone_at : (names : List Name) (ss : List Sort) (ids : List ℕ) (ns : List Node) → EachAt ns ss ids → AreAt ns (zip names ss) (zip names ids)
zip_alone_at [] ss ids ns h = tt
zip_alone_at (n ∷ names) [] [] ns h = tt
zip_alone_at (n ∷ names) [] (a ∷ ids) ns h = absurd h
zip_alone_at (n ∷ names) (s ∷ ss) [] ns h = absurd h
zip_alone_at (n ∷ names) (s ∷ ss) (a ∷ ids) ns h = (refl, h.0, zip_alone_at names ss ids ns h.1)

sorts_from : (ns : List Node) (ss : List Sort) (ids : List ℕ) → EachAt ns ss ids → AreSortsAt ns ss ids
sorts_from ns [] [] h = tt
sorts_from ns [] (a ∷ ids) h = absurd h
sorts_from ns (s ∷ ss) [] h = absurd h
sorts_from ns (s ∷ ss) (a ∷ ids) h = (h.0, sorts_from ns ss ids h.1)

-- Local variables and their places

abbrev names_in : Env ℕ → List Name
names_in env = map (λ x. x.0) env

abbrev ids_in : Env ℕ → List ℕ
ids_in env = map (λ x. x.1) env

slot_in : (xs more : List ℕ) (y : ℕ) → slice_get (xs ++ y ∷ more) (length xs) ≡ Some y
slot_in [] more y = refl
slot_in (x ∷ xs) more y = slot_in xs more y

slot_before : (xs more : List ℕ) (k y : ℕ) → slice_get xs k ≡ Some y → slice_get (xs ++ more) k ≡ Some y
slot_before [] more k y e = cc
slot_before (x ∷ xs) more zero y e = e
slot_before (x ∷ xs) more (suc k) y e = slot_before xs more k y e

slot_behind : (before xs : List ℕ) (k : ℕ) → slice_get (before ++ xs) (length before + k) ≡ slice_get xs k
slot_behind [] xs k = let e : zero + k ≡ k = omega arith in ap (slice_get xs) e
slot_behind (b ∷ before) xs k = let e : suc (length before) + k ≡ suc (length before + k) = omega arith in ap (slice_get (b ∷ before ++ xs)) e ∙ slot_behind before xs k

fetched : (env : Env ℕ) (name : Name) (slot : ℕ) → place_of (names_in env) name ≡ Some slot → (id : ℕ) × (found env name ≡ Some id) × (slice_get (reverse (ids_in env)) slot ≡ Some id)
fetched [] name slot e = cc
fetched (x ∷ xs) name slot e = by_test (bytes_eq x.0 name) e (λ h. fetched xs name slot h)
  where
    whole : reverse (ids_in (x ∷ xs)) ≡ reverse (ids_in xs) ++ x.1 ∷ []
    whole = reverse-append (x.1 ∷ []) (ids_in xs)

    by_test : (b : Bool) → (if b then Some (length (names_in xs)) else place_of (names_in xs) name) ≡ Some slot
        → (place_of (names_in xs) name ≡ Some slot → (id : ℕ) × (found xs name ≡ Some id) × (slice_get (reverse (ids_in xs)) slot ≡ Some id))
        → (id : ℕ) × ((if b then Some x.1 else found xs name) ≡ Some id) × (slice_get (reverse (ids_in (x ∷ xs))) slot ≡ Some id)
    by_test true h k =
        let long : length (reverse (ids_in xs)) ≡ slot = length-reverse (ids_in xs) ∙ same_length xs ∙ option_same h in
        (x.1, refl, ap (λ l. slice_get l slot) whole ∙ ap (slice_get (reverse (ids_in xs) ++ x.1 ∷ [])) (sym long) ∙ slot_in (reverse (ids_in xs)) [] x.1)
      where
        same_length : (ys : Env ℕ) → length (ids_in ys) ≡ length (names_in ys)
        same_length [] = refl
        same_length (y ∷ ys) = ap suc (same_length ys)

        option_same : {a b : ℕ} → Some a ≡ Some b → a ≡ b
        option_same p = cc
    by_test false h k =
        let r = k h in
        (r.0, r.1, ap (λ l. slice_get l slot) whole ∙ slot_before (reverse (ids_in xs)) (x.1 ∷ []) slot r.0 r.2)

zip_names : (names : List Name) (ids : List ℕ) (env : Env ℕ) → length ids ≡ length names → names_in (zip names ids ++ env) ≡ names ++ names_in env
zip_names [] [] env e = refl
zip_names [] (a ∷ ids) env e = absurd (omega (arith, e))
zip_names (n ∷ names) [] env e = absurd (omega (arith, e))
zip_names (n ∷ names) (a ∷ ids) env e = ap (λ xs. n ∷ xs) (zip_names names ids env (omega (arith, e)))

zip_ids : (names : List Name) (ids : List ℕ) (env : Env ℕ) → length ids ≡ length names → ids_in (zip names ids ++ env) ≡ ids ++ ids_in env
zip_ids [] [] env e = refl
zip_ids [] (a ∷ ids) env e = absurd (omega (arith, e))
zip_ids (n ∷ names) [] env e = absurd (omega (arith, e))
zip_ids (n ∷ names) (a ∷ ids) env e = ap (λ xs. a ∷ xs) (zip_ids names ids env (omega (arith, e)))

-- the local variables of a let after the others
bound_locals : (names : List Name) (ids before : List ℕ) (env : Env ℕ) → length ids ≡ length names
    → (before ++ reverse (ids_in env)) ++ reverse ids ≡ before ++ reverse (ids_in (zip names ids ++ env))
bound_locals names ids before env e =
    append_assoc before (reverse (ids_in env)) (reverse ids) ∙ ap (λ xs. before ++ xs) (sym (reverse-append ids (ids_in env)) ∙ ap reverse (sym (zip_ids names ids env e)))

module _ (first : List Node) (symbols : Env Meaning) (cs : List Sort) (count : ℕ) (wanted : Made) where
  -- what is known of a table and of the local variables' nodes, where it is not too full
  abbrev Fine : List Node → Env Sort → Env ℕ → Type 0
  Fine nodes locals env = length nodes ≤ most_nodes → Good cs count nodes × AreAt nodes locals env

  -- it goes on in at most so many steps
  record GoesFrom (k : ℕ) (nodes : List Node) (w : Making) : Type 0 where
    steps : ℕ
    few : steps ≤ k
    goes : GoesOn steps symbols wanted nodes w

  -- one step more
  stepped : (k : ℕ) (nodes : List Node) (w : Making) (n : ℕ) → n ≤ k → GoesOn (suc n) symbols wanted nodes w → GoesFrom (k + 1) nodes w
  stepped k nodes w n few h = record { steps = suc n; few = omega (arith, few); goes = h }

  loosen : (k more : ℕ) (nodes : List Node) (w : Making) → k ≤ more → GoesFrom k nodes w → GoesFrom more nodes w
  loosen k more nodes w less g = let f = g.few in record { steps = g.steps; few = omega (arith, f, less); goes = g.goes }

  fine_one : (t : Term) (locals : Env Sort) (s : Sort) (env : Env ℕ) (nodes : List Node) → IsSoundTerm cs first locals t s → Fine nodes locals env → Fine (made env nodes t).nodes locals env
  fine_one t locals s env nodes sound fine room =
      let more = made_extends t env nodes in
      let before = fine (room_before nodes (made env nodes t).nodes more room) in
      let after = made_good cs count first t locals s env nodes sound before.1 before.0 room in
      (after.0, are_stay locals env nodes (made env nodes t).nodes more before.1)

  all_good : (ts : Terms) (locals : Env Sort) (ss : List Sort) (env : Env ℕ) (nodes : List Node) → AreSoundTerms cs first locals ts ss → Fine nodes locals env
      → length (all_made env nodes ts).nodes ≤ most_nodes → Good cs count (all_made env nodes ts).nodes × EachAt (all_made env nodes ts).nodes ss (all_made env nodes ts).ids × AreAt (all_made env nodes ts).nodes locals env
  unfolding made
  all_good NoTerm locals [] env nodes h fine room = let f = fine room in (f.0, tt, f.1)
  all_good NoTerm locals (s ∷ ss) env nodes h fine room = absurd h
  all_good (AndTerm t ts) locals [] env nodes h fine room = absurd h
  all_good (AndTerm t ts) locals (s ∷ ss) env nodes h fine room =
      let m = made env nodes t in
      let rest = all_made env m.nodes ts in
      let more = all_made_extends ts env m.nodes in
      let short = room_before m.nodes rest.nodes more room in
      let start = fine (room_before nodes m.nodes (made_extends t env nodes) short) in
      let one = made_good cs count first t locals s env nodes h.0 start.1 start.0 short in
      let others = all_good ts locals ss env m.nodes h.1 (fine_one t locals s env nodes h.0 fine) room in
      (others.0, (at_stays m.nodes rest.nodes s m.id more one.1, others.1), others.2)

  counted : (ts : Terms) (names : List Name) (n : ℕ) (ops : List Op) (env : Env ℕ) (nodes : List Node) → AreCodes first symbols names ts n ops → length (all_made env nodes ts).ids ≡ n
  unfolding made
  counted NoTerm names n ops env nodes h = sym h.0
  counted (AndTerm t ts) names n ops env nodes h =
      let rest = counted ts names h.2 h.1 env (made env nodes t).nodes h.4 in
      let k = h.5 in
      omega (arith, rest, k)

  known_made : (t : Term) (id : ℕ) (nodes : List Node) → IsKnown first t id → Extends first nodes → made [] nodes t ≡ record { nodes = nodes; id = id }
  known_made t id nodes known further =
      made_anew t [] known.before nodes tt (extends_further (made [] known.before t).nodes first nodes (known.more, known.made_then) further)
      ∙ ap (λ i. record { nodes = nodes; id = i }) (sym known.node)

  -- a node that is there already waits
  known_goes : {k : ℕ} (m : Made) (id base : ℕ) (nodes : List Node) (calls : List Saved) (stack locals : List ℕ) (rest : List Op) → m ≡ record { nodes = nodes; id = id }
      → GoesFrom k m.nodes (making rest base calls (stack ++ m.id ∷ []) locals) → GoesFrom k nodes (making rest base calls (stack ++ id ∷ []) locals)
  known_goes {k} m id base nodes calls stack locals rest e g = subst (λ x. GoesFrom k x.nodes (making rest base calls (stack ++ x.id ∷ []) locals)) e g

  -- the same operations
  by_ops : {k : ℕ} (ops others : List Op) (base : ℕ) (nodes : List Node) (calls : List Saved) (stack locals : List ℕ) → ops ≡ others → GoesFrom k nodes (making others base calls stack locals) → GoesFrom k nodes (making ops base calls stack locals)
  by_ops {k} ops others base nodes calls stack locals e g = subst (λ o. GoesFrom k nodes (making o base calls stack locals)) (sym e) g

  by_stack : {k : ℕ} (xs ys : List ℕ) (ops : List Op) (base : ℕ) (nodes : List Node) (calls : List Saved) (locals : List ℕ) → xs ≡ ys → GoesFrom k nodes (making ops base calls xs locals) → GoesFrom k nodes (making ops base calls ys locals)
  by_stack {k} xs ys ops base nodes calls locals e g = subst (λ o. GoesFrom k nodes (making ops base calls o locals)) e g

  by_locals : {k : ℕ} (xs ys : List ℕ) (ops : List Op) (base : ℕ) (nodes : List Node) (calls : List Saved) (stack : List ℕ) → xs ≡ ys → GoesFrom k nodes (making ops base calls stack xs) → GoesFrom k nodes (making ops base calls stack ys)
  by_locals {k} xs ys ops base nodes calls stack e g = subst (λ o. GoesFrom k nodes (making ops base calls stack o)) e g

  mutual
    unfolding made weight

    run_term : (k : ℕ) (t : Term) (locals : Env Sort) (s : Sort) (env : Env ℕ) (nodes : List Node) (before stack : List ℕ) (base : ℕ) (calls : List Saved) (ops rest : List Op)
        → IsCode first symbols (names_in env) t ops → IsSoundTerm cs first locals t s → Fine nodes locals env → Extends first nodes → length before ≡ base
        → GoesFrom k (made env nodes t).nodes (making rest base calls (stack ++ (made env nodes t).id ∷ []) (before ++ reverse (ids_in env)))
        → GoesFrom (k + 2 * weight t) nodes (making (ops ++ rest) base calls stack (before ++ reverse (ids_in env)))
    run_term k (Truth b) locals s env nodes before stack base calls ops rest is sound fine further low g =
        let one : weight (Truth b) ≡ 1 = refl in
        loosen (k + 1) (k + 2 * weight (Truth b)) _ _ (omega (arith, one)) (by_ops (ops ++ rest) (op.Truth b ∷ rest) base nodes calls stack _ (ap (λ o. o ++ rest) is) (stepped k _ _ g.steps g.few g.goes))
    run_term k (Number negative size p) locals s env nodes before stack base calls ops rest is sound fine further low g =
        let some = order_positive p sound.1 in
        let one : weight (Number negative size p) ≡ 1 = refl in
        loosen (k + 1) (k + 2 * weight (Number negative size p)) _ _ (omega (arith, one)) (by_ops (ops ++ rest) (op.Number (residue_of_number negative size p) p ∷ rest) base nodes calls stack _
        (ap (λ o. o ++ rest) (is.1 ∙ ap (λ r. op.Number r p ∷ []) (is.2 some)))
        (stepped k _ _ g.steps g.few ((sound.1, residue_below negative size p some), g.goes)))
    run_term k (Constant c u) locals s env nodes before stack base calls ops rest is sound fine further low g =
        let m = made env nodes (Constant c u) in
        let next = known_goes m is.0 base nodes calls stack (before ++ reverse (ids_in env)) rest (known_made (Constant c u) is.0 nodes is.2 further) g in
        let one : weight (Constant c u) ≡ 1 = refl in
        loosen (k + 1) (k + 2 * weight (Constant c u)) _ _ (omega (arith, one)) (by_ops (ops ++ rest) (op.Known is.0 ∷ rest) base nodes calls stack _ (ap (λ o. o ++ rest) is.1) (stepped k _ _ next.steps next.few next.goes))
    run_term k (Variable name) locals s env nodes before stack base calls ops rest is sound fine further low g =
        let m = made env nodes (Variable name) in
        let there = fetched env name is.0 is.2 in
        let next = known_goes m there.0 base nodes calls stack (before ++ reverse (ids_in env)) rest (ap (variable_made nodes) there.1) g in
        let at : slice_get (before ++ reverse (ids_in env)) (base + is.0) ≡ Some there.0 =
        ap (λ b. slice_get (before ++ reverse (ids_in env)) (b + is.0)) (sym low) ∙ slot_behind before (reverse (ids_in env)) is.0 ∙ there.2 in
        let one : weight (Variable name) ≡ 1 = refl in
        loosen (k + 1) (k + 2 * weight (Variable name)) _ _ (omega (arith, one)) (by_ops (ops ++ rest) (op.Local is.0 ∷ rest) base nodes calls stack _ (ap (λ o. o ++ rest) is.1) (stepped k _ _ next.steps next.few (record { id = there.0; there = at; next = next.goes })))
    run_term k (Defined t) locals s env nodes before stack base calls ops rest is sound fine further low g =
        let m = made [] nodes t in
        let next = known_goes m is.0 base nodes calls stack (before ++ reverse (ids_in env)) rest (known_made t is.0 nodes is.2 further) g in
        let one : weight (Defined t) ≡ 1 = refl in
        loosen (k + 1) (k + 2 * weight (Defined t)) _ _ (omega (arith, one)) (by_ops (ops ++ rest) (op.Known is.0 ∷ rest) base nodes calls stack _ (ap (λ o. o ++ rest) is.1) (stepped k _ _ next.steps next.few next.goes))
    run_term k (Applied f ts) locals s env nodes before stack base calls ops rest is sound fine further low g =
        let parts = is.0 in
        let n = is.1 in
        let o = is.2 in
        let m = all_made env nodes ts in
        let next = subst (λ h. GoesFrom k (applied_made h m.nodes m.ids).nodes (making rest base calls (stack ++ (applied_made h m.nodes m.ids).id ∷ []) (before ++ reverse (ids_in env)))) (sym is.4) g in
        let here : GoesFrom (k + 1) m.nodes (making (op.Apply o n ∷ rest) base calls (stack ++ m.ids) (before ++ reverse (ids_in env))) = stepped k _ _ next.steps next.few (record {
          kept = stack;
          ids = m.ids;
          last = record { whole = refl; many = counted ts (names_in env) n parts env nodes is.3 };
          taken = λ table. record {
            sorts = sound.0;
            sort = s;
            takes = subst (λ h. Takes h sound.0 s) (sym is.4) sound.2;
            each = sorts_from m.nodes sound.0 m.ids (all_good ts locals sound.0 env nodes sound.1 fine table.well_formed.within).1;
          };
          next = next.goes;
        }) in
        let heavy : weight (Applied f ts) ≡ 1 + weights ts = refl in
        loosen (k + 1 + 2 * weights ts) (k + 2 * weight (Applied f ts)) _ _ (omega (arith, heavy)) (by_ops (ops ++ rest) (parts ++ op.Apply o n ∷ rest) base nodes calls stack _ (ap (λ x. x ++ rest) is.5 ∙ append_assoc parts (op.Apply o n ∷ []) rest)
        (run_terms (k + 1) ts locals sound.0 env nodes before stack base calls n parts (op.Apply o n ∷ rest) is.3 sound.1 fine further low here))
    run_term k (Let names ts t) locals s env nodes before stack base calls ops rest is sound fine further low g =
        let parts = is.0 in
        let body = is.1 in
        let n = length names in
        let m = all_made env nodes ts in
        let inner = zip names m.ids ++ env in
        let many : length m.ids ≡ n = counted ts (names_in env) n parts env nodes is.2 in
        let result = made inner m.nodes t in
        let outside = before ++ reverse (ids_in env) in
        let whole : outside ++ reverse m.ids ≡ before ++ reverse (ids_in inner) = bound_locals names m.ids before env many in
        let unbinds : GoesFrom (k + 1) result.nodes (making (op.Unbind n ∷ rest) base calls (stack ++ result.id ∷ []) (before ++ reverse (ids_in inner))) = stepped k _ _ g.steps g.few (record {
          kept = outside;
          gone = reverse m.ids;
          last = record { whole = sym whole; many = length-reverse m.ids ∙ many };
          next = g.goes;
        }) in
        let code : IsCode first symbols (names_in inner) t body = subst (λ l. IsCode first symbols l t body) (sym (zip_names names m.ids env many)) is.3 in
        let known : Fine m.nodes (zip names sound.0 ++ locals) inner = λ room.
        let a = all_good ts locals sound.0 env nodes sound.1 fine room in (a.0, zip_at names sound.0 m.ids locals env m.nodes a.1 a.2) in
        let runs = run_term (k + 1) t (zip names sound.0 ++ locals) s inner m.nodes before stack base calls body (op.Unbind n ∷ rest) code sound.2 known
        (extends_further first nodes m.nodes further (all_made_extends ts env nodes)) low unbinds in
        let next = by_locals _ _ (body ++ op.Unbind n ∷ rest) base m.nodes calls stack (sym whole) runs in
        let binds : GoesFrom (k + 1 + 2 * weight t + 1) m.nodes (making (op.Bind n ∷ (body ++ op.Unbind n ∷ rest)) base calls (stack ++ m.ids) outside) = stepped (k + 1 + 2 * weight t) _ _ next.steps next.few (record {
          kept = stack;
          ids = m.ids;
          last = record { whole = refl; many = many };
          next = next.goes;
        }) in
        let heavy : weight (Let names ts t) ≡ 1 + weights ts + weight t = refl in
        loosen (k + 1 + 2 * weight t + 1 + 2 * weights ts) (k + 2 * weight (Let names ts t)) _ _ (omega (arith, heavy)) (by_ops (ops ++ rest) (parts ++ op.Bind n ∷ (body ++ op.Unbind n ∷ rest)) base nodes calls stack _
        (ap (λ x. x ++ rest) is.4 ∙ append_assoc parts (op.Bind n ∷ (body ++ op.Unbind n ∷ [])) rest ∙ ap (λ x. parts ++ op.Bind n ∷ x) (append_assoc body (op.Unbind n ∷ []) rest))
        (run_terms (k + 1 + 2 * weight t + 1) ts locals sound.0 env nodes before stack base calls n parts (op.Bind n ∷ (body ++ op.Unbind n ∷ rest)) is.2 sound.1 fine further low binds))
    run_term k (Called names t ts) locals s env nodes before stack base calls ops rest is sound fine further low g =
        let parts = is.0 in
        let place = is.1 in
        let callee = is.2 in
        let n = length names in
        let m = all_made env nodes ts in
        let inner = zip names m.ids in
        let many : length m.ids ≡ n = counted ts (names_in env) n parts env nodes is.3 in
        let result = made inner m.nodes t in
        let outside = before ++ reverse (ids_in env) in
        let back : List Saved = calls ++ saved rest base ∷ [] in
        let names_same : names_in inner ≡ names = ap names_in (sym (append-nil inner)) ∙ zip_names names m.ids [] many ∙ append-nil names in
        let ids_same : m.ids ≡ ids_in inner = sym (ap ids_in (sym (append-nil inner)) ∙ zip_ids names m.ids [] many ∙ append-nil m.ids) in
        let returns : GoesFrom (k + 1) result.nodes (making [] (length outside) back (stack ++ result.id ∷ []) (outside ++ reverse (ids_in inner))) = stepped k _ _ g.steps g.few (inr (record {
          earlier = calls;
          last = saved rest base;
          inside = refl;
          kept = outside;
          gone = reverse (ids_in inner);
          below = refl;
          many = refl;
          next = g.goes;
        })) in
        let code : IsCode first symbols (names_in inner) t callee.code.items = subst (λ l. IsCode first symbols l t callee.code.items) (sym names_same) is.5 in
        let known : Fine m.nodes (zip names sound.0) inner = λ room.
        let a = all_good ts locals sound.0 env nodes sound.1 fine room in (a.0, zip_alone_at names sound.0 m.ids m.nodes a.1) in
        let runs = run_term (k + 1) t (zip names sound.0) s inner m.nodes outside stack (length outside) back callee.code.items [] code sound.2 known
        (extends_further first nodes m.nodes further (all_made_extends ts env nodes)) refl returns in
        let whole = by_ops callee.code.items (callee.code.items ++ []) (length outside) m.nodes back stack _ (sym (append-nil callee.code.items)) runs in
        let next = by_locals _ _ callee.code.items (length outside) m.nodes back stack (ap (λ x. outside ++ reverse x) (sym ids_same)) whole in
        let goes : GoesFrom (k + 1 + 2 * weight t + 1) m.nodes (making (op.Call place n ∷ rest) base calls (stack ++ m.ids) outside) = stepped (k + 1 + 2 * weight t) _ _ next.steps next.few (record {
          callee = callee;
          there = is.4;
          kept = stack;
          ids = m.ids;
          last = record { whole = refl; many = many };
          next = next.goes;
        }) in
        let heavy : weight (Called names t ts) ≡ 1 + weights ts + weight t = refl in
        loosen (k + 1 + 2 * weight t + 1 + 2 * weights ts) (k + 2 * weight (Called names t ts)) _ _ (omega (arith, heavy)) (by_ops (ops ++ rest) (parts ++ op.Call place n ∷ rest) base nodes calls stack _ (ap (λ x. x ++ rest) is.6 ∙ append_assoc parts (op.Call place n ∷ []) rest)
        (run_terms (k + 1 + 2 * weight t + 1) ts locals sound.0 env nodes before stack base calls n parts (op.Call place n ∷ rest) is.3 sound.1 fine further low goes))

    run_terms : (k : ℕ) (ts : Terms) (locals : Env Sort) (ss : List Sort) (env : Env ℕ) (nodes : List Node) (before stack : List ℕ) (base : ℕ) (calls : List Saved) (n : ℕ) (ops rest : List Op)
        → AreCodes first symbols (names_in env) ts n ops → AreSoundTerms cs first locals ts ss → Fine nodes locals env → Extends first nodes → length before ≡ base
        → GoesFrom k (all_made env nodes ts).nodes (making rest base calls (stack ++ (all_made env nodes ts).ids) (before ++ reverse (ids_in env)))
        → GoesFrom (k + 2 * weights ts) nodes (making (ops ++ rest) base calls stack (before ++ reverse (ids_in env)))
    run_terms k NoTerm locals ss env nodes before stack base calls n ops rest are sounds fine further low g =
        loosen k (k + 2 * weights NoTerm) _ _ (omega arith) (by_ops (ops ++ rest) rest base nodes calls stack _ (ap (λ o. o ++ rest) are.1) (by_stack (stack ++ []) stack rest base nodes calls _ (append-nil stack) g))
    run_terms k (AndTerm t ts) locals [] env nodes before stack base calls n ops rest are sounds fine further low g = absurd sounds
    run_terms k (AndTerm t ts) locals (s ∷ ss) env nodes before stack base calls n ops rest are sounds fine further low g =
        let m = made env nodes t in
        let others = all_made env m.nodes ts in
        let later = by_stack (stack ++ m.id ∷ others.ids) ((stack ++ m.id ∷ []) ++ others.ids) rest base others.nodes calls _ (sym (append_assoc stack (m.id ∷ []) others.ids)) g in
        let runs = run_terms k ts locals ss env m.nodes before (stack ++ m.id ∷ []) base calls are.2 are.1 rest are.4 sounds.1 (fine_one t locals s env nodes sounds.0 fine)
        (extends_further first nodes m.nodes further (made_extends t env nodes)) low later in
        let heavy : weights (AndTerm t ts) ≡ weight t + weights ts = refl in
        loosen (k + 2 * weights ts + 2 * weight t) (k + 2 * weights (AndTerm t ts)) _ _ (omega (arith, heavy)) (by_ops (ops ++ rest) (are.0 ++ (are.1 ++ rest)) base nodes calls stack _ (ap (λ o. o ++ rest) are.6 ∙ append_assoc are.0 are.1 rest)
        (run_term (k + 2 * weights ts) t locals s env nodes before stack base calls are.0 (are.1 ++ rest) are.3 sounds.0 fine further low runs))

-- the code of a term goes on to the term's node, in less than twice as many steps as the term weighs, and one
pub code_goes : (nodes : List Node) (symbols : Env Meaning) (t : Term) (limit : ℕ) (code : List Op) → IsCodeOf nodes symbols t limit code
    → (n : ℕ) × (n ≤ 2 * limit + 1) × GoesOn n symbols (made [] nodes t) nodes (making code 0 [] [] [])
code_goes nodes symbols t limit code is =
    let m = made [] nodes t in
    let ended : HasEnded m m.nodes (making [] 0 [] (m.id ∷ []) []) = record { outside = refl; kept = []; id = m.id; last = refl; is = refl } in
    let runs = run_term nodes symbols is.constants is.count m 1 t [] is.sort [] nodes [] [] 0 [] code [] is.is is.sound (λ room. (is.table, tt)) (extends_same nodes) refl
    (record { steps = 1; few = omega arith; goes = inl ended }) in
    let whole = by_ops nodes symbols is.constants is.count m code (code ++ []) 0 nodes [] [] [] (sym (append-nil code)) runs in
    let few = whole.few in
    let light = is.light in
    (whole.steps, omega (arith, few, light), whole.goes)
