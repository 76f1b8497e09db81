-- A term word by word is the term of its tree.
use Rattle.std.proofs.Common.{◌≡◌, ℕ, ◌≤◌, List, [], ◌∷◌, ◌++◌, length, Option, Result, Ok, Err, refl, ap, ◌∙◌, subst, inl, inr, ◌⊎◌, arith, append_assoc}
use Rattle.ffc_lex.specs.declared.tokens.TokenKind.TheVariants as kinds
use Rattle.ffc_term.specs.declared.node.Node.{Node}
use Rattle.ffc_term.specs.declared.node.Sort.{Sort}
use Rattle.ffc_smt.specs.Trees.{Word, Tree, Leaf, Group, Trees, Empty, First, tokens_of, tokens_of_items, items_of}
use Rattle.ffc_smt.specs.TreeShapes.{IsProper, AreProper}
use Rattle.ffc_smt.specs.Meaning.{Env}
use Rattle.ffc_smt.specs.Scopes.{Scope}
use Rattle.ffc_smt.specs.Faults.{Fault, word_fault, Read, faulty, behind}
use Rattle.ffc_smt.specs.TermReading as reading
use Rattle.ffc_smt.specs.TermReading.{Sorted, Named, Argument, Head, LetHead, AsHead, Function, NoHead, argument_sort, function_read, macro_read, as_read, of_height, head_of, term_read, arguments_read, let_read, bindings_read}
use Rattle.ffc_words.specs.Outcomes.{outcome}
use Rattle.ffc_terms.specs.declared.callees.Callee.{Callee}
use Rattle.ffc_terms.specs.declared.callees.Callee.TheVariants as callee
use Rattle.ffc_terms.specs.declared.callees.Parts.{Parts}
use Rattle.ffc_terms.specs.declared.leaves.Head.{Head as KeptHead}
use Rattle.ffc_terms.specs.declared.leaves.Head.TheVariants as heads
use Rattle.ffc_terms.specs.declared.scope.Symbols.{Symbols}
use Rattle.ffc_terms.specs.Callees.{no_parts}
use Rattle.ffc_terms.specs.Codes.{IsScope}
use Rattle.ffc_terms.specs.Leaves as leaves
use Rattle.ffc_terms.specs.Walking.{run}
use Rattle.ffc_terms.proofs.AppliedLemmas.{function_runs, macro_runs}
use Rattle.ffc_terms.proofs.ArgumentLemmas.{ArgumentsRun, no_arguments, arguments_then}
use Rattle.ffc_terms.proofs.AsLemmas.{as_runs}
use Rattle.ffc_terms.proofs.BoundLemmas.{BindingsRun, no_bindings, bindings_then}
use Rattle.ffc_terms.proofs.FirstLemmas.{AreInOrder, order_left, order_right}
use Rattle.ffc_terms.proofs.LeafLemmas.{HeadIs, head_is}
use Rattle.ffc_terms.proofs.LetLemmas.{let_alone, let_leaf, let_runs}
use Rattle.ffc_terms.proofs.OneTermLemmas.{one_read, OneRuns, one_runs}
use Rattle.ffc_terms.proofs.RunLemmas.{at_term, head_left, head_right, head_runs, leaf_runs, TermRuns}
use Rattle.ffc_terms.proofs.WantedLemmas.{Agree}

module _ (limit : ℕ) (nodes : List Node) (symbols : Symbols) (scope : Scope) (is : IsScope nodes symbols scope) where
  abbrev Runs : Env Sort → Tree → Result Sorted Fault → Type 0
  Runs locals t o = TermRuns limit nodes symbols scope is locals t o

  abbrev of_let : Env Sort → Word → Word → Trees → Read Sorted
  of_let locals opening closing items = behind (let_read limit scope locals closing items) (of_height limit opening)

  -- a term whose head is none
  headless : (locals : Env Sort) (opening word : Word) (t : Tree) (f : Fault) → opening.kind ≡ kinds.LeftParen → leaves.head symbols locals word ≡ Err f
      → (words : List Word) → tokens_of t ≡ opening ∷ word ∷ words → Runs locals t (Err f)
  headless locals opening word t f left head words e = λ fs code pending rest takes.
      ap (λ ws. run limit symbols (at_term fs code locals pending) (ws ++ rest)) e
      ∙ head_runs limit nodes symbols scope is fs code locals pending opening word (words ++ rest) (Err f) takes left head

  empty_runs : (opening closing : Word) (locals : Env Sort) → IsProper (Group opening Empty closing) → Runs locals (Group opening Empty closing) (Err (word_fault 5 closing))
  unfolding tokens_of tokens_of_items
  empty_runs opening closing locals proper =
      headless locals opening closing (Group opening Empty closing) (word_fault 5 closing) proper.0 (head_right limit symbols locals closing proper.2) [] refl

  group_runs : (opening o c closing : Word) (inner rest : Trees) (locals : Env Sort) → IsProper (Group opening (First (Group o inner c) rest) closing)
      → Runs locals (Group opening (First (Group o inner c) rest) closing) (Err (word_fault 5 o))
  unfolding tokens_of tokens_of_items
  group_runs opening o c closing inner rest locals proper =
      headless locals opening o (Group opening (First (Group o inner c) rest) closing) (word_fault 5 o) proper.0 (head_left limit symbols locals o proper.1.0.0) _ refl

  nothing_first : (t : Tree) (rest : Trees) (locals : Env Sort) → Empty ≡ First t rest → Runs locals t (outcome (term_read limit scope locals t))
  nothing_first t rest locals e = cc

  same_first : (t : Tree) (ts : Trees) (u : Tree) (us : Trees) (locals : Env Sort) → First t ts ≡ First u us → Runs locals t (outcome (term_read limit scope locals t)) → Runs locals u (outcome (term_read limit scope locals u))
  same_first t ts u us locals e h = let same : t ≡ u = cc in subst (λ x. Runs locals x (outcome (term_read limit scope locals x))) same h

  same_pair : (us : Trees) (d : Word) (vs : Trees) (c : Word) (locals : Env Sort) → us ≡ vs → d ≡ c → OneRuns limit nodes symbols scope is locals us d (outcome (one_read limit nodes symbols scope is locals us d))
      → OneRuns limit nodes symbols scope is locals vs c (outcome (one_read limit nodes symbols scope is locals vs c))
  same_pair us d vs c locals e f h =
      subst (λ w. OneRuns limit nodes symbols scope is locals vs w (outcome (one_read limit nodes symbols scope is locals vs w))) f
      (subst (λ ts. OneRuns limit nodes symbols scope is locals ts d (outcome (one_read limit nodes symbols scope is locals ts d))) e h)

  -- by the head
  by_head : (locals : Env Sort) (opening word closing : Word) (items : Trees) → opening.kind ≡ kinds.LeftParen → closing.kind ≡ kinds.RightParen → AreProper items → AreInOrder (tokens_of_items items ++ closing ∷ [])
      → ((c : Callee) → ArgumentsRun limit nodes symbols scope is c (argument_sort (arguments_read limit scope locals items) 0) (argument_sort (arguments_read limit scope locals items) 1) locals items no_parts)
      → (leaves.head symbols locals word ≡ Ok heads.Let → Runs locals (Group opening (First (Leaf word) items) closing) (outcome (of_let locals opening closing items)))
      → (h : Head) (k : Result KeptHead Fault) → leaves.head symbols locals word ≡ k → HeadIs nodes symbols scope is word h k
      → Runs locals (Group opening (First (Leaf word) items) closing)
      (outcome (elim h as (λ x. Read Sorted) [
        | LetHead ↦ of_let locals opening closing items
        | AsHead ↦ as_read scope closing (items_of items)
        | Function f ↦ behind (function_read f closing (arguments_read limit scope locals items)) (of_height limit opening)
        | reading.Macro ps s body ↦ behind (macro_read ps s body closing (arguments_read limit scope locals items)) (of_height limit opening)
        | NoHead code ↦ faulty code word
      ]))
  unfolding tokens_of tokens_of_items
  by_head locals opening word closing items left right proper order args lets LetHead (Ok heads.Let) e is_head = lets e
  by_head locals opening word closing items left right proper order args lets LetHead (Ok heads.As) e is_head = absurd is_head
  by_head locals opening word closing items left right proper order args lets LetHead (Ok (heads.Callee c)) e is_head = absurd is_head
  by_head locals opening word closing items left right proper order args lets LetHead (Err f) e is_head = absurd is_head
  by_head locals opening word closing items left right proper order args lets AsHead (Ok heads.As) e is_head =
      as_runs limit nodes symbols scope is locals opening word closing items left right e proper order
  by_head locals opening word closing items left right proper order args lets AsHead (Ok heads.Let) e is_head = absurd is_head
  by_head locals opening word closing items left right proper order args lets AsHead (Ok (heads.Callee c)) e is_head = absurd is_head
  by_head locals opening word closing items left right proper order args lets AsHead (Err f) e is_head = absurd is_head
  by_head locals opening word closing items left right proper order args lets (Function f) (Ok (heads.Callee (callee.Function g))) e is_head =
      function_runs limit nodes symbols scope is locals opening word closing items left right order f g is_head e (args (callee.Function g))
  by_head locals opening word closing items left right proper order args lets (Function f) (Ok (heads.Callee (callee.Macro place))) e is_head = absurd is_head
  by_head locals opening word closing items left right proper order args lets (Function f) (Ok heads.Let) e is_head = absurd is_head
  by_head locals opening word closing items left right proper order args lets (Function f) (Ok heads.As) e is_head = absurd is_head
  by_head locals opening word closing items left right proper order args lets (Function f) (Err g) e is_head = absurd is_head
  by_head locals opening word closing items left right proper order args lets (reading.Macro ps s body) (Ok (heads.Callee (callee.Macro place))) e is_head =
      macro_runs limit nodes symbols scope is locals opening word closing items left right order ps s body place is_head.0 is_head.1 is_head.2 is_head.3 e (args (callee.Macro place))
  by_head locals opening word closing items left right proper order args lets (reading.Macro ps s body) (Ok (heads.Callee (callee.Function g))) e is_head = absurd is_head
  by_head locals opening word closing items left right proper order args lets (reading.Macro ps s body) (Ok heads.Let) e is_head = absurd is_head
  by_head locals opening word closing items left right proper order args lets (reading.Macro ps s body) (Ok heads.As) e is_head = absurd is_head
  by_head locals opening word closing items left right proper order args lets (reading.Macro ps s body) (Err g) e is_head = absurd is_head
  by_head locals opening word closing items left right proper order args lets (NoHead code) (Err f) e is_head =
      subst (λ g. Runs locals (Group opening (First (Leaf word) items) closing) (Err g)) is_head
      (headless locals opening word (Group opening (First (Leaf word) items) closing) f left e (tokens_of_items items ++ closing ∷ []) refl)
  by_head locals opening word closing items left right proper order args lets (NoHead code) (Ok heads.Let) e is_head = absurd is_head
  by_head locals opening word closing items left right proper order args lets (NoHead code) (Ok heads.As) e is_head = absurd is_head
  by_head locals opening word closing items left right proper order args lets (NoHead code) (Ok (heads.Callee c)) e is_head = absurd is_head

  split_first : (t : Tree) (ts : Trees) (ws : List Word) → AreInOrder (tokens_of_items (First t ts) ++ ws) → AreInOrder (tokens_of t ++ (tokens_of_items ts ++ ws))
  unfolding tokens_of_items
  split_first t ts ws order = subst AreInOrder (append_assoc (tokens_of t) (tokens_of_items ts) ws) order

  items_first : (t : Tree) (ts : Trees) → AreInOrder (tokens_of_items (First t ts)) → AreInOrder (tokens_of t ++ tokens_of_items ts)
  unfolding tokens_of_items
  items_first t ts order = order

  -- the order inside a term in parentheses
  inside_order : (opening word closing : Word) (items : Trees) → AreInOrder (tokens_of (Group opening (First (Leaf word) items) closing)) → AreInOrder (tokens_of_items items ++ closing ∷ [])
  unfolding tokens_of tokens_of_items
  inside_order opening word closing items order = order.1.1

  -- the order inside a `let`
  list_order : (o c closing : Word) (bs vs : Trees) → AreInOrder (tokens_of_items (First (Group o bs c) vs) ++ closing ∷ []) → AreInOrder (tokens_of_items bs ++ (c ∷ (tokens_of_items vs ++ closing ∷ [])))
  unfolding tokens_of tokens_of_items
  list_order o c closing bs vs order =
      let first = tokens_of_items bs ++ c ∷ [] in
      subst AreInOrder (append_assoc first (tokens_of_items vs) (closing ∷ []) ∙ append_assoc (tokens_of_items bs) (c ∷ []) (tokens_of_items vs ++ closing ∷ [])) order.1

  after_order : (c closing : Word) (bs vs : Trees) → AreInOrder (tokens_of_items bs ++ (c ∷ (tokens_of_items vs ++ closing ∷ []))) → AreInOrder (tokens_of_items vs)
  after_order c closing bs vs order = order_left (tokens_of_items vs) (closing ∷ []) (order_right (tokens_of_items bs) (c ∷ (tokens_of_items vs ++ closing ∷ [])) order).1

  -- the order inside a variable's pair
  pair_order : (o c : Word) (x : Tree) (vs : Trees) → AreInOrder (tokens_of (Group o (First x vs) c)) → AreInOrder (tokens_of_items vs)
  unfolding tokens_of tokens_of_items
  pair_order o c x vs order = order_right (tokens_of x) (tokens_of_items vs) (order_left (tokens_of x ++ tokens_of_items vs) (c ∷ []) order.1)

  abbrev args_of : Env Sort → Trees → List Argument
  args_of locals items = arguments_read limit scope locals items

  case_of : (items : Trees) → (items ≡ Empty) ⊎ ((t : Tree) × (ts : Trees) × (items ≡ First t ts))
  case_of Empty = inl refl
  case_of (First t ts) = inr (t, ts, refl)

  mutual
    unfolding term_read

    pub term_runs : (t : Tree) (locals : Env Sort) → IsProper t → AreInOrder (tokens_of t) → Runs locals t (outcome (term_read limit scope locals t))
    term_runs (Leaf w) locals proper order = leaf_runs limit nodes symbols scope is locals w proper
    term_runs (Group opening Empty closing) locals proper order = empty_runs opening closing locals proper
    term_runs (Group opening (First (Group o inner c) rest) closing) locals proper order = group_runs opening o c closing inner rest locals proper
    term_runs (Group opening (First (Leaf w) rest) closing) locals proper order =
        by_head locals opening w closing rest proper.0 proper.2 proper.1.1 (inside_order opening w closing rest order)
        (λ c. arguments_run rest c _ _ locals no_parts proper.1.1 (order_left (tokens_of_items rest) (closing ∷ []) (inside_order opening w closing rest order)) (omega arith) (refl, refl, refl, refl))
        (λ head. let_run rest opening w closing locals proper.0 proper.2 head proper.1.1 (inside_order opening w closing rest order))
        (head_of scope locals w) (leaves.head symbols locals w) refl (head_is nodes symbols scope is locals w)

    arguments_run : (items : Trees) (c : Callee) (F S : Option Sort) (locals : Env Sort) (p : Parts) → AreProper items → AreInOrder (tokens_of_items items) → p.weight ≤ 4294967295
        → Agree p.count p.first p.second F S (args_of locals items) → ArgumentsRun limit nodes symbols scope is c F S locals items p
    arguments_run Empty c F S locals p proper order light agree = no_arguments limit nodes symbols scope is c F S locals p light agree
    arguments_run (First t ts) c F S locals p proper order light agree =
        let ordered = items_first t ts order in
        arguments_then limit nodes symbols scope is c F S locals t ts p proper.0 ordered (order_left (tokens_of t) (tokens_of_items ts) ordered) light agree
        (term_runs t locals proper.0 (order_left (tokens_of t) (tokens_of_items ts) ordered))
        (λ q small agreed. arguments_run ts c F S locals q proper.1 (order_right (tokens_of t) (tokens_of_items ts) ordered) small agreed)

    let_run : (items : Trees) (opening word closing : Word) (locals : Env Sort) → opening.kind ≡ kinds.LeftParen → closing.kind ≡ kinds.RightParen → leaves.head symbols locals word ≡ Ok heads.Let
        → AreProper items → AreInOrder (tokens_of_items items ++ closing ∷ []) → Runs locals (Group opening (First (Leaf word) items) closing) (outcome (of_let locals opening closing items))
    let_run Empty opening word closing locals left right head proper order = let_alone limit nodes symbols scope is locals opening word closing left right head
    let_run (First (Leaf w) more) opening word closing locals left right head proper order = let_leaf limit nodes symbols scope is locals opening word closing left right head w more proper.0
    let_run (First (Group o bs c) vs) opening word closing locals left right head proper order =
        let ordered = list_order o c closing bs vs order in
        let_runs limit nodes symbols scope is locals opening word closing left right head o c bs vs proper.0.0 proper.0.2 ordered
        (λ env. one_run vs closing env right proper.1 (after_order c closing bs vs ordered))
        (case_of bs)
        (bindings_run bs locals no_parts [] proper.0.1 (order_left (tokens_of_items bs) (c ∷ (tokens_of_items vs ++ closing ∷ [])) ordered) (omega arith) refl)

    one_run : (items : Trees) (closing : Word) (locals : Env Sort) → closing.kind ≡ kinds.RightParen → AreProper items → AreInOrder (tokens_of_items items)
        → OneRuns limit nodes symbols scope is locals items closing (outcome (one_read limit nodes symbols scope is locals items closing))
    one_run Empty closing locals right proper order = one_runs limit nodes symbols scope is locals Empty closing right proper order (λ t rest e. nothing_first t rest locals e)
    one_run (First t ts) closing locals right proper order =
        let ordered = items_first t ts order in
        let h = term_runs t locals proper.0 (order_left (tokens_of t) (tokens_of_items ts) ordered) in
        one_runs limit nodes symbols scope is locals (First t ts) closing right proper order (λ u rest e. same_first t ts u rest locals e h)

    bindings_run : (items : Trees) (locals : Env Sort) (p : Parts) (done : List (Named × Sort)) → AreProper items → AreInOrder (tokens_of_items items) → p.weight ≤ 4294967295 → p.count ≡ length done
        → BindingsRun limit nodes symbols scope is locals items p done
    bindings_run Empty locals p done proper order light count = no_bindings limit nodes symbols scope is locals p done light
    bindings_run (First t ts) locals p done proper order light count =
        let ordered = items_first t ts order in
        bindings_then limit nodes symbols scope is locals t ts p done proper.0 ordered count
        (pair_run t locals proper.0 (order_left (tokens_of t) (tokens_of_items ts) ordered))
        (λ q others small long. bindings_run ts locals q others proper.1 (order_right (tokens_of t) (tokens_of_items ts) ordered) small long)

    pair_run : (t : Tree) (locals : Env Sort) → IsProper t → AreInOrder (tokens_of t) → (o : Word) (x : Tree) (vs : Trees) (c : Word) → t ≡ Group o (First x vs) c
        → OneRuns limit nodes symbols scope is locals vs c (outcome (one_read limit nodes symbols scope is locals vs c))
    pair_run (Leaf w) locals proper order o x vs c e = cc
    pair_run (Group g Empty d) locals proper order o x vs c e = cc
    pair_run (Group g (First y us) d) locals proper order o x vs c e =
        let items_are : us ≡ vs = cc in
        let closing_is : d ≡ c = cc in
        same_pair us d vs c locals items_are closing_is (one_run us d locals proper.2 proper.1.1 (pair_order g d y us order))
