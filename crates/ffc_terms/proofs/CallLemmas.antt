-- Calls of functions and macros, word by word and by their trees.
use Rattle.std.proofs.Common.{◌≡◌, ℕ, ◌+◌, max, nat_lt, Bool, true, false, List, [], ◌∷◌, ◌++◌, if◌then◌else◌, length, map, Contains, Option, Result, Ok, Err, refl, sym, ap, ◌∙◌, subst, inl, inr, ⊎_elim, arith, append_assoc}
use Rattle.std.proofs.lemmas.List.{append-nil}
use Rattle.std.proofs.lemmas.List.Elements.{Contains-append_left, Contains-append_right, Contains-append_cases}
use Rattle.ffc_lex.specs.declared.tokens.TokenKind.TheVariants as kinds
use Rattle.ffc_term.specs.declared.node.Node.{Node}
use Rattle.ffc_term.specs.declared.node.Sort.{Sort}
use Rattle.ffc_smt.specs.Trees.{Word, Tree, Leaf, Group, Trees, First, tokens_of, tokens_of_items}
use Rattle.ffc_smt.specs.Terms.{height, highest, weight, weights}
use Rattle.ffc_smt.specs.Meaning.{Env}
use Rattle.ffc_smt.specs.Scopes.{Scope}
use Rattle.ffc_smt.specs.Faults.{Fault, word_fault, is_before, Read, Sound, Faulty, faulty, unless, behind}
use Rattle.ffc_smt.specs.TermReading.{Sorted, Argument, own_faults, missing, terms_of, argument_sort, arguments_read, of_height}
use Rattle.ffc_words.specs.Outcomes.{outcome}
use Rattle.ffc_terms.specs.declared.callees.Callee.{Callee}
use Rattle.ffc_terms.specs.declared.callees.Parts.{Parts}
use Rattle.ffc_terms.specs.declared.codes.Op.{Op}
use Rattle.ffc_terms.specs.declared.frames.Frame.{Frame}
use Rattle.ffc_terms.specs.declared.frames.Place.{Place}
use Rattle.ffc_terms.specs.declared.leaves.Head.TheVariants as heads
use Rattle.ffc_terms.specs.declared.scope.Symbols.{Symbols}
use Rattle.ffc_terms.specs.declared.values.Value.{Value}
use Rattle.ffc_terms.specs.Callees.{capped, no_parts, least, result_sort, body, op_of}
use Rattle.ffc_terms.specs.Codes.{IsCode, AreCodes, IsScope}
use Rattle.ffc_terms.specs.Leaves as leaves
use Rattle.ffc_terms.specs.Places.{place_of, fault}
use Rattle.ffc_terms.specs.SortSteps.{closes}
use Rattle.ffc_terms.specs.Walking.{Stepped, Failed, refused, plus_one, given, ended, call_ended, closed, term_step, goes_on, run, takes_none, step}
use Rattle.ffc_terms.proofs.ArgumentLemmas.{unfit, beyond, call, AreTaken, IsRefused, ArgumentsRun}
use Rattle.ffc_terms.proofs.FirstLemmas.{Each, each_append, AreInOrder, IsAt, NoneBefore, none_later, outcome_unless}
use Rattle.ffc_terms.proofs.RunLemmas.{at_term, value_of, one_is, head_runs, TermRuns}
use Rattle.ffc_terms.proofs.WantedLemmas.{agree_end}

err_is : {A : Type 0} {f g : Fault} → ◌≡◌ {A = Result A Fault} (Err f) (Err g) → f ≡ g
err_is e = cc

pub behind_err : {A B : Type 0} (r : Read A) (next : A → Read B) (f : Fault) → outcome r ≡ Err f → outcome (behind r next) ≡ Err f
behind_err (Sound a) next f e = cc
behind_err {A} {B} (Faulty g gs) next f e = let same : ◌≡◌ {A = Result A Fault} (outcome {A = A} (Faulty g gs)) (Err f) = e in ap (λ x. Err x) (err_is same)

pub none_of : {A : Type 0} (fs : List Fault) (r : Read A) → fs ≡ [] → unless fs r ≡ r
none_of fs r e = ap (λ x. unless x r) e

module _ (limit : ℕ) (nodes : List Node) (symbols : Symbols) (scope : Scope) (is : IsScope nodes symbols scope) (c : Callee) (locals : Env Sort) (opening word closing : Word) (items : Trees)
    (left : opening.kind ≡ kinds.LeftParen) (right : closing.kind ≡ kinds.RightParen) (head : leaves.head symbols locals word ≡ Ok (heads.Callee c))
    (order : AreInOrder (tokens_of_items items ++ closing ∷ [])) where
  abbrev args : List Argument
  args = arguments_read limit scope locals items

  abbrev F : Option Sort
  F = argument_sort args 0

  abbrev S : Option Sort
  S = argument_sort args 1

  abbrev tree : Tree
  tree = Group opening (First (Leaf word) items) closing

  -- up to the arguments
  up_to : (fs : List Frame) (code : List Op) (pending : Env Sort) (rest : List Word) → takes_none limit symbols fs ≡ false
      → run limit symbols (at_term fs code locals pending) (tokens_of tree ++ rest)
      ≡ run limit symbols (call limit nodes symbols scope is c F S locals (place_of opening) no_parts fs code pending) (tokens_of_items items ++ closing ∷ rest)
  unfolding tokens_of tokens_of_items
  up_to fs code pending rest takes =
      head_runs limit nodes symbols scope is fs code locals pending opening word ((tokens_of_items items ++ closing ∷ []) ++ rest) _ takes left head
      ∙ ap (run limit symbols (call limit nodes symbols scope is c F S locals (place_of opening) no_parts fs code pending)) (append_assoc (tokens_of_items items) (closing ∷ []) rest)

  step_close : (at : Place) (p : Parts) (fs : List Frame) (code : List Op) (pending : Env Sort)
      → step limit symbols closing (call limit nodes symbols scope is c F S locals at p fs code pending)
      ≡ (if nat_lt p.count (least symbols c) then refused 5 closing else call_ended limit symbols at c p (at_term fs code locals pending))
  unfolding term_step closed
  step_close at p fs code pending = rw (ap closes right) refl

  step_ended : (at : Place) (s : Sort) (h w : ℕ) (o : Op) (fs : List Frame) (code : List Op) (pending : Env Sort)
      → ended limit symbols at s h w o (at_term fs code locals pending)
      ≡ (if nat_lt limit h then Failed (fault 14 at) else given limit symbols (record { place = at; sort = s; height = h; weight = w }) (at_term fs (code ++ o ∷ []) locals pending))
  unfolding ended
  step_ended at s h w o fs code pending = refl

  module _ (n : ℕ) (unfits surpluses : List Fault) (t : Sorted)
      (n_is : n ≡ least symbols c) (unfits_are : unfits ≡ unfit limit nodes symbols scope is c F S locals items 0) (surpluses_are : surpluses ≡ beyond limit nodes symbols scope is c F S locals items 0)
      (sort_is : t.sort ≡ result_sort symbols c F S) (height_is : height t.term ≡ max (max 0 (highest (terms_of args))) (body symbols c).0 + 1)
      (weight_is : capped (weight t.term) ≡ plus_one (capped (capped (0 + weights (terms_of args)) + (body symbols c).1)))
      (code_is : (ops : List Op) → AreCodes nodes symbols.terms (map (λ x. x.0) locals) (terms_of args) (length args) ops → beyond limit nodes symbols scope is c F S locals items 0 ≡ []
      → nat_lt (length args) n ≡ false → IsCode nodes symbols.terms (map (λ x. x.0) locals) t.term (ops ++ op_of c (length args) ∷ [])) where
    abbrev wrong : List Fault
    wrong = own_faults args ++ unfits ++ missing n closing args ++ surpluses

    missing_later : (f : Fault) → IsAt (tokens_of_items items) f → NoneBefore f (missing n closing args)
    missing_later f at = none_later (tokens_of_items items) (closing ∷ []) f (missing n closing args) order at (by_test (nat_lt (length args) n))
      where
        by_test : (b : Bool) → Each (IsAt (closing ∷ [])) (if b then word_fault 5 closing ∷ [] else [])
        by_test true = (inl (refl, refl), tt)
        by_test false = tt

    refused_is : (r : IsRefused limit nodes symbols scope is c F S locals items no_parts) → outcome (behind (unless wrong (Sound t)) (of_height limit opening)) ≡ Err r.first
    refused_is r =
        let P = λ (x : Fault). is_before x r.first ≡ false in
        let u : NoneBefore r.first unfits = subst (NoneBefore r.first) (sym unfits_are) r.unfit_least in
        let s : NoneBefore r.first surpluses = subst (NoneBefore r.first) (sym surpluses_are) r.beyond_least in
        let m = missing_later r.first r.at_items in
        let has : Contains wrong r.first = ⊎_elim
        (λ o. Contains-append_left (own_faults args ++ unfits ++ missing n closing args) surpluses r.first (Contains-append_left (own_faults args ++ unfits) (missing n closing args) r.first (Contains-append_left (own_faults args) unfits r.first o)))
        (λ other. ⊎_elim
        (λ x. Contains-append_left (own_faults args ++ unfits ++ missing n closing args) surpluses r.first (Contains-append_left (own_faults args ++ unfits) (missing n closing args) r.first
        (Contains-append_right (own_faults args) unfits r.first (subst (λ fs. Contains fs r.first) (sym unfits_are) x))))
        (λ y. Contains-append_right (own_faults args ++ unfits ++ missing n closing args) surpluses r.first (subst (λ fs. Contains fs r.first) (sym surpluses_are) y))
        (Contains-append_cases (unfit limit nodes symbols scope is c F S locals items 0) (beyond limit nodes symbols scope is c F S locals items 0) r.first other))
        (Contains-append_cases (own_faults args) (unfit limit nodes symbols scope is c F S locals items 0 ++ beyond limit nodes symbols scope is c F S locals items 0) r.first r.among) in
        behind_err (unless wrong (Sound t)) (of_height limit opening) r.first
        (outcome_unless wrong (Sound t) r.first has
        (each_append P (own_faults args ++ unfits ++ missing n closing args) surpluses (each_append P (own_faults args ++ unfits) (missing n closing args) (each_append P (own_faults args) unfits r.own_least u) m) s) tt)

    refused_runs : IsRefused limit nodes symbols scope is c F S locals items no_parts
        → TermRuns limit nodes symbols scope is locals tree (outcome (behind (unless wrong (Sound t)) (of_height limit opening)))
    refused_runs r =
        subst (TermRuns limit nodes symbols scope is locals tree) (sym (refused_is r))
        (λ fs code pending rest takes. up_to fs code pending rest takes ∙ r.runs (place_of opening) fs code pending (closing ∷ rest))

    abbrev built : AreTaken limit nodes symbols scope is c F S locals items no_parts → Value
    built a = record {
      place = place_of opening;
      sort = result_sort symbols c a.after.first a.after.second;
      height = max a.after.height (body symbols c).0 + 1;
      weight = plus_one (capped (a.after.weight + (body symbols c).1));
    }

    value_is : (a : AreTaken limit nodes symbols scope is c F S locals items no_parts) (v : Value)
        → v ≡ record {
          place = place_of opening;
          sort = result_sort symbols c a.after.first a.after.second;
          height = max a.after.height (body symbols c).0 + 1;
          weight = plus_one (capped (a.after.weight + (body symbols c).1));
        } → v ≡ value_of opening t
    value_is a v e =
        let ends = agree_end a.after.count a.after.first a.after.second F S a.agree in
        let s : result_sort symbols c a.after.first a.after.second ≡ t.sort = ap (λ x. result_sort symbols c x a.after.second) ends.0 ∙ ap (result_sort symbols c F) ends.1 ∙ sym sort_is in
        let h : max a.after.height (body symbols c).0 + 1 ≡ height t.term = ap (λ x. max x (body symbols c).0 + 1) a.height_is ∙ sym height_is in
        let w : plus_one (capped (a.after.weight + (body symbols c).1)) ≡ capped (weight t.term) = ap (λ x. plus_one (capped (x + (body symbols c).1))) a.weight_is ∙ sym weight_is in
        e ∙ ap (λ x. record { place = place_of opening; sort = x; height = max a.after.height (body symbols c).0 + 1; weight = plus_one (capped (a.after.weight + (body symbols c).1)) }) s
        ∙ ap (λ x. record { place = place_of opening; sort = t.sort; height = x; weight = plus_one (capped (a.after.weight + (body symbols c).1)) }) h
        ∙ ap (λ x. record { place = place_of opening; sort = t.sort; height = height t.term; weight = x }) w

    -- what is left is what is missing
    only_missing : AreTaken limit nodes symbols scope is c F S locals items no_parts → wrong ≡ missing n closing args
    only_missing a =
        ap (λ fs. fs ++ unfits ++ missing n closing args ++ surpluses) a.own_none ∙ ap (λ fs. fs ++ missing n closing args ++ surpluses) (unfits_are ∙ a.unfit_none)
        ∙ ap (λ fs. missing n closing args ++ fs) (surpluses_are ∙ a.beyond_none) ∙ append-nil (missing n closing args)

    closing_runs : (a : AreTaken limit nodes symbols scope is c F S locals items no_parts) (fs : List Frame) (code : List Op) (pending : Env Sort) (rest : List Word) (s : Stepped)
        → takes_none limit symbols fs ≡ false
        → (if nat_lt a.after.count (least symbols c) then refused 5 closing else call_ended limit symbols (place_of opening) c a.after (at_term fs (code ++ a.ops) locals pending)) ≡ s
        → run limit symbols (at_term fs code locals pending) (tokens_of tree ++ rest) ≡ goes_on (λ x. run limit symbols x rest) rest s
    closing_runs a fs code pending rest s takes e =
        up_to fs code pending rest takes ∙ a.runs (place_of opening) fs code pending (closing ∷ rest)
        ∙ one_is limit symbols (call limit nodes symbols scope is c F S locals (place_of opening) a.after fs (code ++ a.ops) pending) closing rest s (step_close (place_of opening) a.after fs (code ++ a.ops) pending ∙ e)

    taken_runs : AreTaken limit nodes symbols scope is c F S locals items no_parts
        → TermRuns limit nodes symbols scope is locals tree (outcome (behind (unless wrong (Sound t)) (of_height limit opening)))
    taken_runs a =
        subst (λ fs. TermRuns limit nodes symbols scope is locals tree (outcome (behind (unless fs (Sound t)) (of_height limit opening)))) (sym (only_missing a)) (by_missing (nat_lt (length args) n) refl)
      where
        count : nat_lt a.after.count (least symbols c) ≡ nat_lt (length args) n
        count = ap (λ x. nat_lt x (least symbols c)) (a.count ∙ (let z : 0 + length args ≡ length args = omega arith in z)) ∙ ap (nat_lt (length args)) (sym n_is)

        enough : (b : Bool) → nat_lt (length args) n ≡ false → nat_lt limit (height t.term) ≡ b → TermRuns limit nodes symbols scope is locals tree (outcome (if b then faulty 14 opening else Sound t))
        enough true fits high = λ fs code pending rest takes.
            closing_runs a fs code pending rest (Failed (fault 14 (place_of opening))) takes
            (ap (λ b. if b then refused 5 closing else call_ended limit symbols (place_of opening) c a.after (at_term fs (code ++ a.ops) locals pending)) (count ∙ fits)
            ∙ step_ended (place_of opening) _ _ _ _ fs (code ++ a.ops) pending
            ∙ ap (λ b. if b then Failed (fault 14 (place_of opening)) else given limit symbols (built a) (at_term fs ((code ++ a.ops) ++ op_of c a.after.count ∷ []) locals pending))
            (ap (nat_lt limit) (ap (λ x. max x (body symbols c).0 + 1) a.height_is ∙ sym height_is) ∙ high))
        enough false fits low = (
          a.ops ++ op_of c (length args) ∷ [],
          code_is a.ops a.codes a.beyond_none fits,
          λ fs code pending rest takes.
              closing_runs a fs code pending rest (given limit symbols (value_of opening t) (at_term fs (code ++ (a.ops ++ op_of c (length args) ∷ [])) locals pending)) takes
              (ap (λ b. if b then refused 5 closing else call_ended limit symbols (place_of opening) c a.after (at_term fs (code ++ a.ops) locals pending)) (count ∙ fits)
              ∙ step_ended (place_of opening) _ _ _ _ fs (code ++ a.ops) pending
              ∙ ap (λ b. if b then Failed (fault 14 (place_of opening)) else given limit symbols (built a) (at_term fs ((code ++ a.ops) ++ op_of c a.after.count ∷ []) locals pending))
              (ap (nat_lt limit) (ap (λ x. max x (body symbols c).0 + 1) a.height_is ∙ sym height_is) ∙ low)
              ∙ ap (λ v. given limit symbols v (at_term fs ((code ++ a.ops) ++ op_of c a.after.count ∷ []) locals pending)) (value_is a _ refl)
              ∙ ap (λ k. given limit symbols (value_of opening t) (at_term fs k locals pending))
              (append_assoc code a.ops (op_of c a.after.count ∷ []) ∙ ap (λ x. code ++ (a.ops ++ op_of c x ∷ [])) (a.count ∙ (let z : 0 + length args ≡ length args = omega arith in z)))),
        )

        by_missing : (b : Bool) → nat_lt (length args) n ≡ b → TermRuns limit nodes symbols scope is locals tree (outcome (behind (unless (if b then word_fault 5 closing ∷ [] else []) (Sound t)) (of_height limit opening)))
        by_missing true few = λ fs code pending rest takes.
            closing_runs a fs code pending rest (refused 5 closing) takes
            (ap (λ b. if b then refused 5 closing else call_ended limit symbols (place_of opening) c a.after (at_term fs (code ++ a.ops) locals pending)) (count ∙ few))
        by_missing false fits = enough (nat_lt limit (height t.term)) fits refl

    pub call_runs : ArgumentsRun limit nodes symbols scope is c F S locals items no_parts
        → TermRuns limit nodes symbols scope is locals tree (outcome (behind (unless wrong (Sound t)) (of_height limit opening)))
    call_runs (inl a) = taken_runs a
    call_runs (inr r) = refused_runs r
