-- What is stated of the nodes in turn: one more node, a front of the nodes, and the node at a place.
use Rattle.std.proofs.Common.{◌≡◌, ℕ, ◌+◌, ◌<◌, ◌≤◌, min, List, [], ◌∷◌, ◌++◌, length, get_or, take, drop, refl, sym, ap, ◌∙◌, arith, length-append, take-append-drop, take-take, take_at, get_or-take, length-take, take_all}
use Rattle.std.proofs.lemmas.List.{take_more, get_or_push, take_min}
use Rattle.std.proofs.lemmas.Option.{slice_get_within, get_or_from_slice_get}
use Rattle.ffc_term.specs.declared.node.Node.{Node}
use Rattle.ffc_term.specs.Nodes.{IsNodeAt, in_turn, in_turn_from}

module _ {X : Type 0} (tell : List X → Node → X) where
  pub in_turn_from-append : (known : List X) (ns ms : List Node) → in_turn_from tell known (ns ++ ms) ≡ in_turn_from tell (in_turn_from tell known ns) ms
  in_turn_from-append known [] ms = refl
  in_turn_from-append known (n ∷ ns) ms = in_turn_from-append (known ++ tell known n ∷ []) ns ms

  pub length-in_turn_from : (known : List X) (ns : List Node) → length (in_turn_from tell known ns) ≡ length known + length ns
  length-in_turn_from known [] = omega arith
  length-in_turn_from known (n ∷ ns) =
      omega (arith, length-in_turn_from (known ++ tell known n ∷ []) ns, length-append known (tell known n ∷ []))

  -- as many as there are nodes
  pub length-in_turn : (ns : List Node) → length (in_turn tell ns) ≡ length ns
  length-in_turn ns = omega (arith, length-in_turn_from [] ns)

  -- one more node
  pub in_turn-push : (ns : List Node) (n : Node) → in_turn tell (ns ++ n ∷ []) ≡ in_turn tell ns ++ tell (in_turn tell ns) n ∷ []
  in_turn-push ns n = in_turn_from-append [] ns (n ∷ [])

  take-in_turn_from : (known : List X) (ns : List Node) → take (length known) (in_turn_from tell known ns) ≡ known
  take-in_turn_from known [] = take_all (length known) known (omega arith)
  take-in_turn_from known (n ∷ ns) =
      let longer : List X = known ++ tell known n ∷ [] in
      let all : List X = in_turn_from tell longer ns in
      let fits : length known ≤ length longer = omega (arith, length-append known (tell known n ∷ [])) in
      sym (take-take (length known) (length longer) all fits) ∙ ap (take (length known)) (take-in_turn_from longer ns) ∙ take_at known (tell known n ∷ []) (length known) refl

  -- further nodes change nothing
  pub take-in_turn-append : (ns ms : List Node) → take (length ns) (in_turn tell (ns ++ ms)) ≡ in_turn tell ns
  take-in_turn-append ns ms =
      let all : List X = in_turn_from tell (in_turn tell ns) ms in
      ap (take (length ns)) (in_turn_from-append [] ns ms) ∙ ap (λ k. take k all) (sym (length-in_turn ns)) ∙ take-in_turn_from (in_turn tell ns) ms

  -- the first k nodes
  pub in_turn-take : (k : ℕ) (ns : List Node) → in_turn tell (take k ns) ≡ take k (in_turn tell ns)
  in_turn-take k ns =
      let all : List X = in_turn tell ns in
      let front : take (length (take k ns)) (in_turn tell (take k ns ++ drop k ns)) ≡ in_turn tell (take k ns) = take-in_turn-append (take k ns) (drop k ns) in
      let whole : take k ns ++ drop k ns ≡ ns = take-append-drop k ns in
      let short : length (take k ns) ≡ min k (length all) = length-take k ns ∙ ap (min k) (sym (length-in_turn ns)) in
      sym front ∙ ap (λ xs. take (length (take k ns)) (in_turn tell xs)) whole ∙ ap (λ j. take j all) short ∙ take_min k all

  -- the node at a place, from what is stated of those before it
  pub get_or-in_turn : (ns : List Node) (id : ℕ) (n : Node) (d : X) → IsNodeAt ns id n → get_or (in_turn tell ns) id d ≡ tell (take id (in_turn tell ns)) n
  get_or-in_turn ns id n d at =
      let all : List X = in_turn tell ns in
      let inside : id < length ns = slice_get_within ns id n at in
      let front : take (id + 1) ns ≡ take id ns ++ n ∷ [] = take_more ns id n inside ∙ ap (λ x. take id ns ++ x ∷ []) (get_or_from_slice_get ns id n n at) in
      let known : take (id + 1) all ≡ in_turn tell (take id ns) ++ tell (in_turn tell (take id ns)) n ∷ [] = sym (in_turn-take (id + 1) ns) ∙ ap (in_turn tell) front ∙ in_turn-push (take id ns) n in
      let before : length (in_turn tell (take id ns)) ≡ id = omega (arith, length-in_turn (take id ns), length-take id ns) in
      sym (get_or-take (id + 1) all id d (omega arith)) ∙ ap (λ xs. get_or xs id d) known ∙ get_or_push (in_turn tell (take id ns)) (tell (in_turn tell (take id ns)) n) d id before ∙ ap (λ xs. tell xs n) (in_turn-take id ns)

  -- what is stated depends on `tell` only at the places of the nodes
  pub in_turn_from-agree : (other : List X → Node → X) (known : List X) (ns : List Node) → ((xs : List X) (n : Node) → length xs < length known + length ns → tell xs n ≡ other xs n) → in_turn_from tell known ns ≡ in_turn_from other known ns
  in_turn_from-agree other known [] agree = refl
  in_turn_from-agree other known (n ∷ ns) agree =
      let longer : List X = known ++ tell known n ∷ [] in
      let one : tell known n ≡ other known n = agree known n (omega arith) in
      let rest : in_turn_from tell longer ns ≡ in_turn_from other longer ns = in_turn_from-agree other longer ns (λ xs m short. agree xs m (omega (arith, length-append known (tell known n ∷ [])))) in
      rest ∙ ap (λ x. in_turn_from other (known ++ x ∷ []) ns) one
