-- Functions and macros with their arguments.
use Rattle.std.proofs.Common.{◌≡◌, ℕ, ◌+◌, ◌≤◌, max, nat_lt, nat_le, false, List, [], ◌∷◌, ◌++◌, length, map, Option, Some, Ok, refl, sym, ap, ◌∙◌, subst, arith}
use Rattle.std.specs.List.{slice_get}
use Rattle.std.proofs.lemmas.Bool.Decides.{nat_tests}
use Rattle.std.proofs.lemmas.List.{length-map}
use Rattle.ffc_lex.specs.declared.tokens.TokenKind.TheVariants as kinds
use Rattle.ffc_parts.specs.declared.operators.Operator.{Operator as Kept}
use Rattle.ffc_parts.specs.Operators.{operator_of}
use Rattle.ffc_term.specs.declared.node.Node.{Node}
use Rattle.ffc_term.specs.declared.node.Sort.{Sort}
use Rattle.ffc_smt.specs.Trees.{Word, Tree, Leaf, Group, Trees, First, tokens_of_items}
use Rattle.ffc_smt.specs.Terms.{Operator, Term, Terms, Applied, Called, height, highest, weight, weights, Parameter}
use Rattle.ffc_smt.specs.Meaning.{Env}
use Rattle.ffc_smt.specs.Scopes.{Scope}
use Rattle.ffc_smt.specs.Faults.{behind}
use Rattle.ffc_smt.specs.TermReading as reading
use Rattle.ffc_smt.specs.TermReading.{Sorted, Argument, Wanted, misfits, parameter_misfits, surplus, terms_of, argument_sort, arguments_read, function_read, macro_read, of_height}
use Rattle.ffc_words.specs.Outcomes.{outcome}
use Rattle.ffc_terms.specs.declared.callees.Callee.TheVariants as callee
use Rattle.ffc_terms.specs.declared.leaves.Head.TheVariants as heads
use Rattle.ffc_terms.specs.declared.scope.Macro.{Macro}
use Rattle.ffc_terms.specs.declared.scope.Meaning.TheVariants as meaning
use Rattle.ffc_terms.specs.declared.scope.Symbols.{Symbols}
use Rattle.ffc_terms.specs.Slots.{at_slot}
use Rattle.ffc_terms.specs.Callees.{capped, no_parts, is_full, wanted, body, op_of, macro_at, only, macro_sort, macro_body, macro_least, macro_full, macro_wanted}
use Rattle.ffc_terms.specs.Codes.{AreCodes, IsMacro, IsScope}
use Rattle.ffc_terms.specs.Leaves as leaves
use Rattle.ffc_terms.specs.Walking.{plus_one}
use Rattle.ffc_terms.proofs.ArgumentLemmas.{ArgumentsRun, beyond}
use Rattle.ffc_terms.proofs.CallLemmas.{call_runs}
use Rattle.ffc_terms.proofs.FirstLemmas.{AreInOrder}
use Rattle.ffc_terms.proofs.RunLemmas.{TermRuns}
use Rattle.ffc_terms.proofs.WantedLemmas.{extra, function_misfits, parameters_misfit, surplus_extra, none_extra}

applied_height : (f : Operator) (ts : Terms) → height (Applied f ts) ≡ max (max 0 (highest ts)) 0 + 1
unfolding height
applied_height f ts = omega arith

applied_weight : (f : Operator) (ts : Terms) → capped (weight (Applied f ts)) ≡ plus_one (capped (capped (0 + weights ts) + 0))
unfolding weight
applied_weight f ts = omega arith

called_height : (names : List (List ℕ)) (t : Term) (ts : Terms) (h : ℕ) → h ≡ height t → height (Called names t ts) ≡ max (max 0 (highest ts)) h + 1
unfolding height
called_height names t ts h e = omega arith

called_weight : (names : List (List ℕ)) (t : Term) (ts : Terms) (w : ℕ) → w ≡ capped (weight t) → capped (weight (Called names t ts)) ≡ plus_one (capped (capped (0 + weights ts) + w))
unfolding weight
called_weight names t ts w e = omega arith

module _ (limit : ℕ) (nodes : List Node) (symbols : Symbols) (scope : Scope) (is : IsScope nodes symbols scope) (locals : Env Sort) (opening word closing : Word) (items : Trees)
    (left : opening.kind ≡ kinds.LeftParen) (right : closing.kind ≡ kinds.RightParen) (order : AreInOrder (tokens_of_items items ++ closing ∷ [])) where
  abbrev args : List Argument
  args = arguments_read limit scope locals items

  abbrev F : Option Sort
  F = argument_sort args 0

  abbrev S : Option Sort
  S = argument_sort args 1

  abbrev tree : Tree
  tree = Group opening (First (Leaf word) items) closing

  pub function_runs : (f : Operator) (g : Kept) → operator_of g ≡ f → leaves.head symbols locals word ≡ Ok (heads.Callee (callee.Function g))
      → ArgumentsRun limit nodes symbols scope is (callee.Function g) F S locals items no_parts
      → TermRuns limit nodes symbols scope is locals tree (outcome (behind (function_read f closing args) (of_height limit opening)))
  function_runs f g same head h =
      subst (λ x. TermRuns limit nodes symbols scope is locals tree (outcome (behind (function_read x closing args) (of_height limit opening)))) same
      (call_runs limit nodes symbols scope is (callee.Function g) locals opening word closing items left right head order
      (reading.least (operator_of g)) (misfits (reading.wanted (operator_of g) F S) 0 args) (surplus (reading.most (operator_of g)) args)
      (record { term = Applied (operator_of g) (terms_of args); sort = reading.result_sort (operator_of g) F S })
      refl (sym (function_misfits symbols g F S args)) (surplus_extra (reading.most (operator_of g)) args) refl (applied_height (operator_of g) (terms_of args)) (applied_weight (operator_of g) (terms_of args))
      (λ ops codes none enough. (ops, length args, g, codes, refl, refl)) h)

  module _ (ps : List Parameter) (s : Sort) (t : Term) (place : ℕ) (m : Macro) (at : macro_at symbols place ≡ Some m) (stands : at_slot (map (λ x. x.1) symbols.terms) place ≡ Some (meaning.Macro m))
      (kept : IsMacro nodes symbols.terms m ps s t) where
    count_is : length m.parameters.items ≡ length ps
    count_is = ap length kept.parameters_are ∙ length-map ps (λ p. p.sort)

    wants : (k : ℕ) → wanted symbols (callee.Macro place) F S (0 + k) ≡ only (slice_get (map (λ p. p.sort) ps) k)
    wants k =
        let z : 0 + k ≡ k = omega arith in
        ap (wanted symbols (callee.Macro place) F S) z ∙ ap (λ o. macro_wanted o k) at ∙ ap (λ xs. only (slice_get xs k)) kept.parameters_are

    surplus_is : surplus (Some (length ps)) args ≡ extra (is_full symbols (callee.Macro place)) 0 args
    surplus_is = surplus_extra (Some (length ps)) args ∙ ap (λ n. extra (nat_le n) 0 args) (sym count_is) ∙ ap (λ o. extra (macro_full o) 0 args) (sym at)

    as_many : beyond limit nodes symbols scope is (callee.Macro place) F S locals items 0 ≡ [] → nat_lt (length args) (length ps) ≡ false → length args ≡ length (map (λ p. p.name) ps)
    as_many none enough =
        let few : extra (nat_le (length ps)) 0 args ≡ [] = sym (surplus_extra (Some (length ps)) args) ∙ surplus_is ∙ none in
        let most = none_extra (length ps) 0 args (omega arith) few in
        let long : length (map (λ p. p.name) ps) ≡ length ps = length-map ps (λ p. p.name) in
        let some : length ps ≤ length args = grind (arith, nat_tests, enough) in
        omega arith

    pub macro_runs : leaves.head symbols locals word ≡ Ok (heads.Callee (callee.Macro place)) → ArgumentsRun limit nodes symbols scope is (callee.Macro place) F S locals items no_parts
        → TermRuns limit nodes symbols scope is locals tree (outcome (behind (macro_read ps s t closing args) (of_height limit opening)))
    macro_runs head h =
        let b : body symbols (callee.Macro place) ≡ (m.height, m.weight) = ap macro_body at in
        call_runs limit nodes symbols scope is (callee.Macro place) locals opening word closing items left right head order
        (length ps) (parameter_misfits ps args) (surplus (Some (length ps)) args) (record { term = Called (map (λ p. p.name) ps) t (terms_of args); sort = s })
        (sym count_is ∙ ap macro_least (sym at)) (sym (parameters_misfit ps args (wanted symbols (callee.Macro place) F S) 0 wants)) surplus_is
        (sym kept.sort_is ∙ ap macro_sort (sym at))
        (called_height (map (λ p. p.name) ps) t (terms_of args) (body symbols (callee.Macro place)).0 (ap (λ x. x.0) b ∙ kept.height_is))
        (called_weight (map (λ p. p.name) ps) t (terms_of args) (body symbols (callee.Macro place)).1 (ap (λ x. x.1) b ∙ kept.weight_is))
        (λ ops codes none enough.
        let n = as_many none enough in
        (ops, place, m, subst (λ k. AreCodes nodes symbols.terms (map (λ x. x.0) locals) (terms_of args) k ops) n codes, stands, kept.code, ap (λ k. ops ++ op_of (callee.Macro place) k ∷ []) n))
        h
