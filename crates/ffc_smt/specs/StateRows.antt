-- More scripts that the definitions are tried on: names, levels, options, orders, nodes, heights and weights. Each tells
-- the definition from a wrong one that no law refuses.
use Rattle.std.specs.Prelude.{◌≡◌, ℕ, true, false, List, [], ◌∷◌, ◌++◌, map, flat_map, codes, Some, None}
use Rattle.ffc_term.specs.declared.node.Node.TheVariants as node
use Rattle.ffc_term.specs.declared.value.Value.TheVariants as value
use Rattle.ffc_smt.specs.Terms.{Name, Asked, Command, SetLogic, SetOption, GetOption, GetInfo, SetInfo, Unsupported, Echo, CheckSatAssuming, GetModel, GetUnsatCore, GetUnsatAssumptions, Exit, PrintSuccess, ProduceModels, GlobalDeclarations, ProduceUnsatCores, ProduceUnsatAssumptions, SolverName, Version, AssertionStackLevels, ReasonUnknown}
use Rattle.ffc_smt.specs.Meaning.{TruthValue}
use Rattle.ffc_smt.specs.CommandReading.{limits}
use Rattle.ffc_smt.specs.Scopes.{Declared}
use Rattle.ffc_smt.specs.Scripts.{Done, AtFault, reads}
use Rattle.ffc_smt.specs.TableChecks.{declared_nodes, nodes_in_force, names_in_force, table_checks}
use Rattle.ffc_smt.specs.Answering.{Keeps, EndsModel, Forgets, effect_of, asked_text}
use Rattle.ffc_smt.specs.Rows.{Ends, EndsWithin, values_in_force, asked_by, first_orders_of, final_nodes, logic}

-- two Boolean constants
abbrev pub two : List ℕ → List ℕ
two text = logic (codes "(declare-const b Bool)(declare-const c Bool)" ++ text)

-- global declarations, and then these
abbrev pub globally : List ℕ → List ℕ
globally text = codes "(set-option :global-declarations true)" ++ text

-- Names, levels and options

pub record AreScopes : Type 0 where
  -- names are dropped, and levels
  pub names_dropped : Ends (two (codes "(reset-assertions)(assert b)")) (AtFault 1 88 8)
  pub levels_dropped : Ends (logic (codes "(declare-const x Bool)(push)(reset-assertions)(pop)")) (AtFault 1 68 16)
  -- assertions go, also with global declarations
  pub assertions_dropped : values_in_force (globally (two (codes "(assert b)(push)(assert c)(reset-assertions)(check-sat)"))) [] ≡ [] ∷ []
  pub assertions_popped : values_in_force (globally (two (codes "(push)(assert c)(pop)(check-sat)"))) [] ≡ [] ∷ []
  -- oldest first, level 0 first
  pub oldest_first : values_in_force (two (codes "(assert b)(push)(assert c)(push)(assert (not b))(check-sat)")) (value.Bool true ∷ value.Bool true ∷ [])
      ≡ (TruthValue true ∷ TruthValue true ∷ TruthValue false ∷ []) ∷ []
  pub two_levels : values_in_force (two (codes "(assert b)(push 2)(assert c)(push)(assert (not b))(check-sat)(pop)(check-sat)(pop)(check-sat)")) (value.Bool true ∷ value.Bool true ∷ [])
      ≡ (TruthValue true ∷ TruthValue true ∷ TruthValue false ∷ []) ∷ (TruthValue true ∷ TruthValue true ∷ []) ∷ (TruthValue true ∷ []) ∷ []
  pub one_level : Ends (two (codes "(assert b)(push 2)(assert c)(push)(assert (not b))(check-sat)(pop)(check-sat)(pop)(check-sat)(pop)(pop)")) (AtFault 1 164 16)
  pub so_many_levels : Ends (logic (codes "(push 3)(pop 2)(pop 2)")) (AtFault 1 38 16)
  pub options_forgotten : Ends (globally (codes "(reset)(set-logic QF_FF)(push)(declare-const b Bool)(pop)(assert b)")) (AtFault 1 104 8)
  -- which commands need a logic
  pub no_logic_needed : Ends (codes "(reset)(echo \"\")(get-info :name)(get-option :x)") Done
  pub logic_needed : Ends (codes "(get-model)") (AtFault 1 2 7)
  pub cores_by_name : Ends (codes "(set-option :produce-unsat-cores 1)") (AtFault 1 34 5)
  pub models_by_name : Ends (codes "(set-option :produce-models 1)") (AtFault 1 29 5)
  pub assumptions_by_name : Ends (codes "(set-option :produce-unsat-assumptions 1)") (AtFault 1 40 5)
  pub name_taken : Ends (two (codes "(define-fun b () Bool true)")) (AtFault 1 74 9)
  pub sort_taken : Ends (logic (codes "(define-sort F () Bool)(define-sort F () Bool)")) (AtFault 1 54 9)
  pub theory_bound : Ends (logic (codes "(assert (let ((and true)) true))")) (AtFault 1 33 9)
  pub twice_apart : Ends (logic (codes "(assert (let ((u true) (v true) (u true)) u))")) (AtFault 1 51 9)
  pub definition_head : Ends (logic (codes "(define-fun d () Bool true)(assert (d true))")) (AtFault 1 54 5)
  pub surplus_argument : Ends (logic (codes "(define-fun g ((p Bool)) Bool p)(assert (g true true))")) (AtFault 1 66 5)
  pub surplus_count : Ends (logic (codes "(push 1 1)")) (AtFault 1 26 5)

-- Checks with their tables

abbrev pub declared_text : List ℕ
declared_text = logic (codes "(declare-const a Bool)(declare-const x (_ FiniteField 3))(push)(declare-const y Bool)(pop)(declare-const y Bool)(assert (! a :named n))(check-sat-assuming (y (not a)))")

abbrev pub name_and_number : Declared → Name × ℕ
name_and_number d = (d.name, d.number)

pub record AreTables : Type 0 where
  -- in order of declaration, the dropped one left out, the one declared again with its new number
  pub declared : map (λ c. map name_and_number c.declared) (table_checks (reads declared_text).steps) ≡ ((codes "a", 0) ∷ (codes "x", 1) ∷ (codes "y", 3) ∷ []) ∷ []
  pub nodes : map declared_nodes (table_checks (reads declared_text).steps) ≡ (0 ∷ 1 ∷ 3 ∷ []) ∷ []
  pub in_force : map nodes_in_force (table_checks (reads declared_text).steps) ≡ (0 ∷ 3 ∷ 4 ∷ []) ∷ []
  pub names : map names_in_force (table_checks (reads declared_text).steps) ≡ (Some (codes "n") ∷ None ∷ None ∷ []) ∷ []

-- Orders

abbrev pub logic_check : List ℕ → List ℕ
logic_check text = logic (text ++ codes "(check-sat)")

pub record AreOrders : Type 0 where
  pub asked : first_orders_of (logic_check (codes "(get-value (#f1m3))")) ≡ 3 ∷ []
  pub asserted : first_orders_of (logic_check (codes "(assert (= #f1m3 #f1m3))")) ≡ 3 ∷ []
  pub in_sort : first_orders_of (logic_check (codes "(define-sort F () (_ FiniteField 3))")) ≡ 3 ∷ []
  pub in_parameter : first_orders_of (logic_check (codes "(define-fun g ((p (_ FiniteField 3))) (_ FiniteField 5) #f1m5)")) ≡ 3 ∷ []
  pub first_of_two : first_orders_of (logic_check (codes "(get-value (#f1m3 #f1m5))")) ≡ 3 ∷ []
  pub earlier : first_orders_of (logic_check (codes "(define-sort S () (_ FiniteField 5))(assert (= #f1m3 #f2m3))")) ≡ 5 ∷ []
  pub unused : first_orders_of (logic_check (codes "(define-fun f ((x (_ FiniteField 17))) (_ FiniteField 5) #f1m5)")) ≡ 17 ∷ []
  pub great : Ends (logic (codes "(get-value (#f1m65537 #f1m2013265921 #f1m2130706433 #f1m18446744069414584321))")) Done

-- Nodes, in the order in which they are interned

pub record AreMade : Type 0 where
  pub equal : final_nodes (logic (codes "(declare-const a Bool)(declare-const b Bool)(declare-const c Bool)(assert (= a b c))"))
      ≡ node.BoolConst 0 ∷ node.BoolConst 1 ∷ node.BoolConst 2 ∷ node.Iff 0 1 ∷ node.Iff 1 2 ∷ node.And (3 ∷ 4 ∷ []) ∷ []
  pub exclusive : final_nodes (logic (codes "(declare-const a Bool)(declare-const b Bool)(declare-const c Bool)(assert (xor a b c))"))
      ≡ node.BoolConst 0 ∷ node.BoolConst 1 ∷ node.BoolConst 2 ∷ node.Xor 0 1 ∷ node.Xor 3 2 ∷ []
  pub core : final_nodes (logic (codes "(declare-const a Bool)(declare-const b Bool)(assert (distinct a b))(assert (and (or (ite a b a))))(assert (and a b))"))
      ≡ node.BoolConst 0 ∷ node.BoolConst 1 ∷ node.Iff 0 1 ∷ node.Not 2 ∷ node.IteBool 0 1 0 ∷ node.Or (4 ∷ []) ∷ node.And (5 ∷ []) ∷ node.And (0 ∷ 1 ∷ []) ∷ []
  pub field : final_nodes (logic (codes "(declare-const a Bool)(define-fun f ((p (_ FiniteField 3)) (q Bool)) (_ FiniteField 3) (ff.neg p))(define-fun d () Bool (not a))(assert (let ((u (f #f1m3 d)) (v (ff.bitsum #f2m3))) (= (ff.add u v #f0m3) u)))"))
      ≡ node.BoolConst 0 ∷ node.Not 0 ∷ node.Num 1 3 ∷ node.Neg 2 ∷ node.Num 2 3 ∷ node.Bitsum (4 ∷ []) ∷ node.Num 0 3 ∷ node.Add (3 ∷ 5 ∷ 6 ∷ []) ∷ node.Eq 7 3 ∷ []
  pub assumed : final_nodes (logic (codes "(declare-const a Bool)(check-sat-assuming ((not a)))(get-value ((or a)))")) ≡ node.BoolConst 0 ∷ node.Not 0 ∷ node.Or (0 ∷ []) ∷ []
  -- one argument is enough
  pub one_argument : Ends (logic (codes "(assert (and (or true)))(get-value ((ff.bitsum #f1m3)))")) Done
  -- the inner variable
  pub inner : values_in_force (logic (codes "(assert (let ((x true)) (let ((x false)) x)))(check-sat)")) [] ≡ (TruthValue false ∷ []) ∷ []

-- Heights and weights

pub record AreLimits : Type 0 where
  pub let_height : EndsWithin (record limits { height = 1 }) (logic (codes "(assert (let ((u true)) (and u)))")) (AtFault 1 26 14)
  pub bound_height : EndsWithin (record limits { height = 1 }) (logic (codes "(assert (let ((x (not true))) x))")) (AtFault 1 26 14)
  pub call_height : EndsWithin (record limits { height = 1 }) (logic (codes "(define-fun g ((p Bool)) Bool (not p))(assert (g true))")) (AtFault 1 64 14)
  pub argument_height : EndsWithin (record limits { height = 2 }) (logic (codes "(define-fun f ((x Bool)) Bool (not x))(assert (f (not true)))")) Done
  pub call_weight : EndsWithin (record limits { weight = 7 }) (logic (codes "(declare-const b Bool)(define-fun f ((x Bool)) Bool (and x b))(assert (let ((y b)) (f y)))")) Done
  pub call_too_heavy : EndsWithin (record limits { weight = 6 }) (logic (codes "(declare-const b Bool)(define-fun f ((x Bool)) Bool (and x b))(assert (let ((y b)) (f y)))")) (AtFault 1 80 15)
  pub let_too_heavy : EndsWithin (record limits { weight = 3 }) (logic (codes "(assert (let ((u true)) (and u)))")) (AtFault 1 18 15)
  pub macro_too_heavy : EndsWithin (record limits { weight = 1 }) (logic (codes "(define-fun g ((p Bool)) Bool (not p))")) (AtFault 1 18 15)
  pub asked_too_heavy : EndsWithin (record limits { weight = 1 }) (logic (codes "(get-value (true true))")) (AtFault 1 18 15)
  pub constants_too_many : EndsWithin (record limits { nodes = 1 }) (two []) (AtFault 1 40 15)

-- Commands, what they do to the last model, and the text of what they ask for

abbrev pub commands_of : List ℕ → List Command
commands_of text = map (λ x. x.command) (reads text).steps

abbrev pub asked_texts : List ℕ → List (List ℕ)
asked_texts text = flat_map (λ c. map asked_text (asked_by c)) (commands_of text)

abbrev pub assumed_by : Command → List Asked
assumed_by (CheckSatAssuming asked) = asked
assumed_by _ = []

abbrev pub assumed_texts : List ℕ → List (List ℕ)
assumed_texts text = flat_map (λ c. map asked_text (assumed_by c)) (commands_of text)

pub record AreCommands : Type 0 where
  pub options : commands_of (codes "(set-option :print-success true)(set-option :produce-models false)(set-option :global-declarations true)(set-option :produce-unsat-cores false)(set-option :produce-unsat-assumptions false)(set-option :verbosity 3)")
      ≡ SetOption PrintSuccess true ∷ SetOption ProduceModels false ∷ SetOption GlobalDeclarations true ∷ SetOption ProduceUnsatCores false ∷ SetOption ProduceUnsatAssumptions false ∷ Unsupported ∷ []
  pub values : commands_of (codes "(get-option :print-success)(get-option :produce-models)(get-option :global-declarations)(get-option :produce-unsat-cores)(get-option :produce-unsat-assumptions)(get-option :verbosity)")
      ≡ GetOption PrintSuccess ∷ GetOption ProduceModels ∷ GetOption GlobalDeclarations ∷ GetOption ProduceUnsatCores ∷ GetOption ProduceUnsatAssumptions ∷ Unsupported ∷ []
  pub information : commands_of (codes "(get-info :name)(get-info :version)(get-info :assertion-stack-levels)(get-info :reason-unknown)(get-info :authors)(set-info :name)(echo \"a\"\"\")")
      ≡ GetInfo SolverName ∷ GetInfo Version ∷ GetInfo AssertionStackLevels ∷ GetInfo ReasonUnknown ∷ Unsupported ∷ SetInfo ∷ Echo (codes "\"a\"\"\"") ∷ []
  pub answers : commands_of (logic (codes "(get-model)(get-unsat-core)(get-unsat-assumptions)(exit)")) ≡ SetLogic ∷ GetModel ∷ GetUnsatCore ∷ GetUnsatAssumptions ∷ Exit ∷ []
  pub effects : map effect_of (commands_of (logic (codes "(set-option :print-success true)(echo \"\")(check-sat)(get-model)(get-value (true))(declare-const a Bool)(declare-fun b () Bool)(define-sort F () Bool)(define-fun d () F a)(assert d)(push)(pop)(reset-assertions)(reset)")))
      ≡ Keeps ∷ Keeps ∷ Keeps ∷ Keeps ∷ Keeps ∷ Keeps ∷ EndsModel ∷ EndsModel ∷ EndsModel ∷ EndsModel ∷ EndsModel ∷ EndsModel ∷ EndsModel ∷ EndsModel ∷ Forgets ∷ []
  pub asked : asked_texts (two (codes "(get-value (b ( and\n b ;x\n |c| ) #f1m5 (as  ff-1 (_ FiniteField 3))))"))
      ≡ codes "b" ∷ codes "(and b |c|)" ∷ codes "#f1m5" ∷ codes "(as ff-1 (_ FiniteField 3))" ∷ []
  pub assumed : assumed_texts (two (codes "(check-sat-assuming (b ( not  |c| ) ))")) ≡ codes "b" ∷ codes "(not |c|)" ∷ []
