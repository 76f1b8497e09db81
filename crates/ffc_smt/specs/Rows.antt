-- Scripts that the definitions are tried on, and what these say of them.
use Rattle.std.specs.Prelude.{◌≡◌, ℕ, true, false, List, [], ◌∷◌, ◌++◌, map, codes}
use Rattle.ffc_term.specs.declared.node.Node.{Node}
use Rattle.ffc_term.specs.declared.node.Node.TheVariants as node
use Rattle.ffc_term.specs.declared.value.Value.{Value}
use Rattle.ffc_term.specs.declared.value.Value.TheVariants as value
use Rattle.ffc_smt.specs.Terms.{Command, GetValue, Asked}
use Rattle.ffc_smt.specs.Meaning.{Element, TruthValue, FieldValue, val}
use Rattle.ffc_smt.specs.CommandReading.{Limits, limits}
use Rattle.ffc_smt.specs.Scripts.{Step, End, Done, AtFault, reads, reads_within, after, checks_of, in_force}

-- how a script ends
abbrev pub Ends : List ℕ → End → Type 0
Ends text end = (reads text).end ≡ end

-- the same under other limits
abbrev pub EndsWithin : Limits → List ℕ → End → Type 0
EndsWithin l text end = (reads_within l text).end ≡ end

-- the values of what is active at each check, under an assignment
abbrev pub values_in_force : List ℕ → List Value → List (List Element)
values_in_force text assignment = map (λ c. map (λ t. val [] assignment t) (in_force c)) (checks_of (reads text).steps)

abbrev pub asked_by : Command → List Asked
asked_by (GetValue asked) = asked
asked_by _ = []

-- the values of the terms of each `get-value`
abbrev pub asked_values : List Value → List Step → List Element
asked_values assignment [] = []
asked_values assignment (x ∷ xs) = map (λ a. val [] assignment a.term) (asked_by x.command) ++ asked_values assignment xs

-- the first order that was named, at each check
abbrev pub first_orders_of : List ℕ → List ℕ
first_orders_of text = map (λ c. c.first_order) (checks_of (reads text).steps)

-- the nodes after the last command
abbrev pub nodes_behind : List Node → List Step → List Node
nodes_behind nodes [] = nodes
nodes_behind nodes (x ∷ xs) = nodes_behind (after x.before x.tree x.command).nodes xs

abbrev pub final_nodes : List ℕ → List Node
final_nodes text = nodes_behind [] (reads text).steps

-- after the logic and a name for the field of order 17, 5
abbrev pub over_17 : List ℕ → List ℕ
over_17 text = codes "(set-logic QF_FF)(define-sort F () (_ FiniteField 17))" ++ text

abbrev pub logic : List ℕ → List ℕ
logic text = codes "(set-logic QF_FF)" ++ text

-- Texts

pub record AreTexts : Type 0 where
  pub empty : Ends [] Done
  pub close : Ends (codes ")") (AtFault 1 1 3)
  pub word : Ends (logic (codes "(push 007)")) (AtFault 1 24 1)
  pub unended : Ends (logic (codes "(assert (and true")) (AtFault 1 18 2)
  pub behind_exit : Ends (codes "(exit) )") Done
  pub answers : Ends (codes "(set-option :print-success true)\n(set-option :verbosity 1)\n(set-logic QF_FF)\n(echo \"a\"\"b\")\n(get-info :name)\n(get-model)\n(declare-const |a b| Bool)\n(assert |a b|)\n(check-sat)\n(get-model)\n(exit)\n)\n") Done
  pub information : Ends (codes "(set-info :smt-lib-version 2.6)(set-info :category \"crafted\")(set-info :status sat)(set-info :x ())(set-info :y)") Done

-- One script for each code

pub record AreCodes : Type 0 where
  pub command : Ends (codes "(foo)") (AtFault 1 2 4)
  pub quoted_command : Ends (logic (codes "(|assert| true)")) (AtFault 1 19 4)
  pub missing : Ends (logic (codes "(assert)")) (AtFault 1 25 5)
  pub surplus : Ends (logic (codes "(assert true true)")) (AtFault 1 31 5)
  pub no_head : Ends (codes "(1)") (AtFault 1 2 5)
  pub logic_name : Ends (codes "(set-logic ALL)") (AtFault 1 12 6)
  pub no_logic : Ends (codes "(check-sat)") (AtFault 1 2 7)
  pub no_logic_to_clear : Ends (codes "(reset-assertions)") (AtFault 1 2 7)
  pub logic_twice : Ends (logic (codes "(set-logic QF_FF)")) (AtFault 1 19 7)
  pub option_too_late : Ends (logic (codes "(set-option :global-declarations maybe)")) (AtFault 1 30 7)
  pub name : Ends (logic (codes "(assert x)")) (AtFault 1 26 8)
  pub sort_name : Ends (logic (codes "(declare-const x F)")) (AtFault 1 35 8)
  pub theory_name : Ends (logic (codes "(declare-const true Bool)")) (AtFault 1 33 9)
  pub taken : Ends (logic (codes "(declare-const x Bool)(declare-const x Bool)")) (AtFault 1 55 9)
  pub twice : Ends (logic (codes "(define-fun f ((x Bool) (x Bool)) Bool x)")) (AtFault 1 43 9)
  pub sort : Ends (logic (codes "(assert (not #f1m3))")) (AtFault 1 31 10)
  pub order : Ends (logic (codes "(declare-const x (_ FiniteField 7))")) (AtFault 1 50 11)
  pub literal_order : Ends (logic (codes "(assert (= #f1m7 #f1m7))")) (AtFault 1 29 11)
  pub number : Ends (logic (codes "(assert (= (as ffx (_ FiniteField 5)) #f1m5))")) (AtFault 1 33 13)
  pub height : EndsWithin (record limits { height = 1 }) (logic (codes "(assert (or (not (not true)) (not (not true))))")) (AtFault 1 30 14)
  pub nodes : EndsWithin (record limits { nodes = 1 }) (logic (codes "(assert (not true))")) (AtFault 1 18 15)
  pub weight : EndsWithin (record limits { weight = 1 }) (logic (codes "(assert (not true))")) (AtFault 1 18 15)
  pub assumed_weight : EndsWithin (record limits { weight = 2 }) (logic (codes "(check-sat-assuming (true (not true)))")) (AtFault 1 18 15)
  pub at_the_limits : EndsWithin (record { height = 1; levels = 1; nodes = 2; weight = 2 }) (logic (codes "(push)(assert (not true))")) Done
  pub too_many_levels : Ends (logic (codes "(push 65537)")) (AtFault 1 24 16)
  pub levels_left_out : EndsWithin (record limits { levels = 0 }) (logic (codes "(push)")) (AtFault 1 23 16)
  pub below : Ends (logic (codes "(pop 1)")) (AtFault 1 23 16)

-- Commands with two faults: the leftmost counts, and at one place the lower code

pub record AreFirstFaults : Type 0 where
  pub sort_before_name : Ends (logic (codes "(assert (and #f1m3 nope))")) (AtFault 1 31 10)
  pub name_before_sort : Ends (logic (codes "(assert (and nope #f1m3))")) (AtFault 1 31 8)
  pub theory_name_before_order : Ends (logic (codes "(declare-const true (_ FiniteField 7))")) (AtFault 1 33 9)
  pub name_before_twice : Ends (logic (codes "(assert (let ((x nope) (x true)) x))")) (AtFault 1 35 8)
  pub twice_before_name : Ends (logic (codes "(assert (let ((x true) (x nope)) x))")) (AtFault 1 42 9)
  pub body_before_surplus : Ends (logic (codes "(assert (let ((x true)) nope x))")) (AtFault 1 42 8)
  pub argument_before_missing : Ends (logic (codes "(assert (= #f1m3))")) (AtFault 1 34 5)
  pub lower_code : Ends (logic (codes "(assert #f340282366920938463463374607431768211456m7)")) (AtFault 1 26 11)
  pub number_before_order : Ends (logic (codes "(assert (as ffx (_ FiniteField 7)))")) (AtFault 1 30 13)
  pub no_logic_before_all : Ends (codes "(assert (foo))") (AtFault 1 2 7)
  pub all_before_nodes : EndsWithin (record limits { nodes = 0 }) (logic (codes "(assert (and true nope))")) (AtFault 1 36 8)
  -- a term with a fault has no sort, so it raises no second one
  pub one_fault : Ends (logic (codes "(assert (not (as ffx (_ FiniteField 5))))")) (AtFault 1 35 13)
  -- nor does one that is too high
  pub too_high : EndsWithin (record limits { height = 0 }) (logic (codes "(assert (ff.neg #f1m3))")) (AtFault 1 26 14)
  pub text_before_all : Ends (logic (codes "(assert (and nope 007))")) (AtFault 1 36 1)

-- What fits at a place, and what doesn't

pub record ArePlaces : Type 0 where
  -- names and heads
  pub bare_function : Ends (logic (codes "(assert (and not true))")) (AtFault 1 31 5)
  pub no_argument : Ends (logic (codes "(assert (not))")) (AtFault 1 30 5)
  pub constant_head : Ends (logic (codes "(declare-const b Bool)(assert (b b))")) (AtFault 1 49 5)
  pub variable_head : Ends (logic (codes "(assert (let ((x true)) (x x)))")) (AtFault 1 43 5)
  pub true_head : Ends (logic (codes "(assert (true))")) (AtFault 1 27 5)
  pub unknown_head : Ends (logic (codes "(assert (f true))")) (AtFault 1 27 8)
  pub quoted_name : Ends (logic (codes "(assert |let|)")) (AtFault 1 26 8)
  pub reserved_name : Ends (logic (codes "(assert (= let true))")) (AtFault 1 29 5)
  pub macro_alone : Ends (logic (codes "(define-fun f ((x Bool)) Bool x)(assert f)")) (AtFault 1 58 5)
  pub macro_without_arguments : Ends (logic (codes "(define-fun f ((x Bool)) Bool x)(assert (f))")) (AtFault 1 60 5)
  pub macro_sort : Ends (logic (codes "(define-fun f ((x Bool)) Bool x)(assert (f #f1m3))")) (AtFault 1 61 10)
  pub parameter_sort : Ends (logic (codes "(define-fun f ((x G)) Bool true)")) (AtFault 1 36 8)
  pub body_sort : Ends (logic (codes "(define-fun f () Bool #f1m3)")) (AtFault 1 40 10)
  -- constants
  pub ff_alone : Ends (logic (codes "(assert (= (as ff (_ FiniteField 5)) #f1m5))")) (AtFault 1 33 13)
  pub ff_minus : Ends (logic (codes "(assert (= (as ff- (_ FiniteField 5)) #f1m5))")) (AtFault 1 33 13)
  pub as_bool : Ends (logic (codes "(assert (= (as ff1 Bool) #f1m5))")) (AtFault 1 37 10)
  pub as_numeral : Ends (logic (codes "(assert (= (as 1 Bool) #f1m5))")) (AtFault 1 33 5)
  -- sorts
  pub array : Ends (logic (codes "(declare-const x (Array Bool Bool))")) (AtFault 1 36 5)
  pub bit_vector : Ends (logic (codes "(declare-const x (_ BitVec 8))")) (AtFault 1 38 5)
  pub function_with_sorts : Ends (logic (codes "(declare-fun f (Bool) Bool)")) (AtFault 1 34 5)
  pub theory_sort : Ends (logic (codes "(define-sort and () Bool)")) (AtFault 1 31 9)
  pub bool_sort : Ends (logic (codes "(define-sort Bool () Bool)")) (AtFault 1 31 9)
  -- lists
  pub empty_let : Ends (logic (codes "(assert (let () true))")) (AtFault 1 32 5)
  pub no_values : Ends (logic (codes "(get-value ())")) (AtFault 1 30 5)
  pub assumed_form : Ends (logic (codes "(check-sat-assuming (true (not (not true))))")) (AtFault 1 44 5)
  pub assumed_number : Ends (logic (codes "(check-sat-assuming ((not 5)))")) (AtFault 1 39 5)
  pub assumed_function : Ends (logic (codes "(check-sat-assuming ((not ff.add)))")) (AtFault 1 44 5)
  pub assumed_unknown : Ends (logic (codes "(check-sat-assuming ((not nope)))")) (AtFault 1 44 8)
  pub assumed_field : Ends (logic (codes "(declare-const x (_ FiniteField 5))(check-sat-assuming ((not x)))")) (AtFault 1 79 10)
  -- labels
  pub no_label : Ends (logic (codes "(assert (! true))")) (AtFault 1 33 5)
  pub other_label : Ends (logic (codes "(assert (! true :name n))")) (AtFault 1 34 5)
  pub name_elsewhere : Ends (logic (codes "(assert (not (! true :named n)))")) (AtFault 1 32 5)
  pub label_taken : Ends (logic (codes "(declare-const b Bool)(assert (! b :named b))")) (AtFault 1 60 9)
  pub label_itself : Ends (logic (codes "(assert (! n :named n))")) (AtFault 1 29 8)
  pub labelled_sort : Ends (logic (codes "(assert (! #f1m3 :named n))")) (AtFault 1 29 10)
  -- options and levels
  pub option_value : Ends (logic (codes "(set-option :print-success yes)")) (AtFault 1 45 5)
  pub option_too_long : Ends (logic (codes "(set-option :other a b)")) (AtFault 1 39 5)
  pub push_symbol : Ends (logic (codes "(push x)")) (AtFault 1 24 5)
  pub push_past : Ends (logic (codes "(push 65537 1)")) (AtFault 1 24 16)
  pub fine_1 : Ends (logic (codes "(check-sat-assuming ())")) Done
  pub fine_2 : Ends (logic (codes "(check-sat-assuming ((|not| true) false))")) Done
  pub fine_3 : Ends (logic (codes "(define-sort FiniteField () Bool)(declare-const x (_ |FiniteField| 5))")) Done
  pub fine_4 : Ends (logic (codes "(assert (= (as |ff007| (_ FiniteField 5)) #f2m5))")) Done
  pub fine_5 : Ends (logic (codes "(set-info :x ())(set-option :print-success |true|)")) Done
  pub fine_6 : Ends (logic (codes "(define-fun f ((and2 Bool) (x Bool)) Bool (and and2 x))(assert (let ((f true)) f))")) Done
  pub fine_7 : Ends (logic (codes "(declare-const || Bool)(assert ||)")) Done
  pub fine_8 : EndsWithin (record { height = 1; levels = 0; nodes = 3; weight = 3 }) (logic (codes "(define-fun d () Bool (not true))(assert (! (not d) :named n))(check-sat-assuming (n (not d)))")) Done

-- Levels and scopes

abbrev pub levels_text : List ℕ
levels_text = codes "(set-logic QF_FF)\n(define-sort F () (_ FiniteField 5))\n(declare-const x F)\n(push 1)\n(declare-const y F)\n(assert (distinct x x))\n(check-sat)\n(pop 1)\n(check-sat)\n(assert (= y x))\n(check-sat)\n"

pub record AreLevels : Type 0 where
  pub opened : Ends (logic (codes "(push 1)")) Done
  pub end : Ends levels_text (AtFault 10 12 8)
  pub checks : values_in_force levels_text (value.Field 1 ∷ value.Field 2 ∷ []) ≡ (TruthValue false ∷ []) ∷ [] ∷ []
  -- a name that was dropped and is declared again is a new constant
  pub anew : final_nodes (logic (codes "(push)(declare-const x Bool)(pop)(declare-const x Bool)(assert x)")) ≡ node.BoolConst 0 ∷ node.BoolConst 1 ∷ []
  pub global : Ends (codes "(set-option :global-declarations true)(set-logic QF_FF)(push)(declare-const x Bool)(pop)(assert x)(reset-assertions)(assert x)") Done
  pub assumed : values_in_force (logic (codes "(declare-const b Bool)(declare-const c Bool)(assert (=> b c))(check-sat-assuming (b (not c)))(check-sat)")) (value.Bool true ∷ value.Bool false ∷ [])
      ≡ (TruthValue false ∷ TruthValue true ∷ TruthValue true ∷ []) ∷ (TruthValue false ∷ []) ∷ []
  pub named : Ends (logic (codes "(push)(assert (! true :named n))(assert (not n))(pop)(assert n)")) (AtFault 1 79 8)
  pub named_globally : Ends (codes "(set-option :global-declarations true)(set-logic QF_FF)(push)(assert (! true :named n))(pop)(assert n)") Done
  pub set_again : Ends (logic (codes "(reset)(set-option :global-declarations true)")) Done
  -- the first order that is named stays, and what information holds names none
  pub first_orders : first_orders_of (codes "(set-info :x #f1m3)(set-logic QF_FF)(check-sat)(declare-const x (_ FiniteField 5))(check-sat)(reset)(set-logic QF_FF)(declare-const x (_ FiniteField 3))(check-sat)") ≡ 2 ∷ 5 ∷ 5 ∷ []
  pub forgotten : Ends (logic (codes "(declare-const x Bool)(reset)(set-logic QF_FF)(assert x)")) (AtFault 1 72 8)

-- Values

abbrev pub macro_text : List ℕ
macro_text = over_17 (codes "(declare-const x F)(declare-const y F)(define-fun f ((x F)) F (ff.add x y))(define-fun h ((y F)) F (f y))(assert (= x (as ff3 F)))(assert (= y (as ff5 F)))(check-sat)(get-value ((f (f x)) (h x)))")

abbrev pub two_orders : List ℕ → List ℕ
two_orders text = logic (codes "(declare-const x (_ FiniteField 5))(declare-const y (_ FiniteField 3))" ++ text)

pub record AreValues : Type 0 where
  -- bound one after the other, the last would be true
  pub let_at_once : values_in_force (over_17 (codes "(declare-const x F)(declare-const y F)(assert (= x (as ff1 F)))(assert (= y (as ff2 F)))(assert (let ((x y) (y x)) (= x y)))(assert (let ((x y) (y x)) (= x (as ff2 F))))(check-sat)")) (value.Field 1 ∷ value.Field 2 ∷ [])
      ≡ (TruthValue true ∷ TruthValue true ∷ TruthValue false ∷ TruthValue true ∷ []) ∷ []
  -- the macro's y is the declared one
  pub macro_scope : asked_values (value.Field 3 ∷ value.Field 5 ∷ []) (reads macro_text).steps ≡ FieldValue 17 13 ∷ FieldValue 17 8 ∷ []
  pub two_sorts : Ends (two_orders []) Done
  pub other_order : Ends (two_orders (codes "(assert (= x y))")) (AtFault 1 101 10)
  pub side_by_side : values_in_force (two_orders (codes "(assert (= x #f4m5))(assert (= y #f2m3))(check-sat)")) (value.Field 4 ∷ value.Field 2 ∷ [])
      ≡ (TruthValue true ∷ TruthValue true ∷ []) ∷ []
  pub widest : values_in_force (logic (codes "(assert (= (as ff340282366920938463463374607431768211455 (_ FiniteField 2)) #f1m2))(check-sat)")) [] ≡ (TruthValue true ∷ []) ∷ []
  pub too_wide : Ends (logic (codes "(assert (= (as ff340282366920938463463374607431768211456 (_ FiniteField 2)) #f1m2))(check-sat)")) (AtFault 1 33 13)
  pub too_wide_below : Ends (logic (codes "(assert (= (as ff-340282366920938463463374607431768211456 (_ FiniteField 2)) #f1m2))")) (AtFault 1 33 13)
  -- 1 + 2*2 + 4*3, -(3*5), 16 where a sum wraps
  pub field : asked_values [] (reads (over_17 (codes "(get-value ((ff.bitsum #f1m17 #f2m17 #f3m17) (ff.neg (ff.mul #f3m17 #f5m17)) (ff.add #f16m17 #f16m17 #f1m17) (as ff-1 F) #f-18m17))"))).steps
      ≡ FieldValue 17 0 ∷ FieldValue 17 2 ∷ FieldValue 17 16 ∷ FieldValue 17 16 ∷ FieldValue 17 16 ∷ []
  -- neighbours are equal; all pairs differ; to the left; to the right
  pub core : asked_values [] (reads (logic (codes "(get-value ((= #f1m5 #f1m5 #f2m5) (distinct #f1m5 #f2m5 #f1m5) (xor true true true) (=> false true false) (=> true false) (ite false #f1m5 #f2m5)))"))).steps
      ≡ TruthValue false ∷ TruthValue false ∷ TruthValue true ∷ TruthValue true ∷ TruthValue false ∷ FieldValue 5 2 ∷ []

-- Nodes

pub record AreNodes : Type 0 where
  pub product : final_nodes (logic (codes "(define-sort F () (_ FiniteField 5))(declare-const x F)(declare-const y F)(assert (= (ff.mul x y) (as ff1 F)))(assert (= x (as ff0 F)))(check-sat)"))
      ≡ node.FieldConst 0 5 ∷ node.FieldConst 1 5 ∷ node.Mul (0 ∷ 1 ∷ []) ∷ node.Num 1 5 ∷ node.Eq 2 3 ∷ node.Num 0 5 ∷ node.Eq 0 5 ∷ []
  pub implication : final_nodes (logic (codes "(declare-const a Bool)(declare-const b Bool)(declare-const c Bool)(assert (=> a b c))"))
      ≡ node.BoolConst 0 ∷ node.BoolConst 1 ∷ node.BoolConst 2 ∷ node.Not 1 ∷ node.Or (3 ∷ 2 ∷ []) ∷ node.Not 0 ∷ node.Or (5 ∷ 4 ∷ []) ∷ []
  pub distinct : final_nodes (logic (codes "(declare-const a Bool)(declare-const b Bool)(declare-const c Bool)(assert (distinct a b c))"))
      ≡ node.BoolConst 0 ∷ node.BoolConst 1 ∷ node.BoolConst 2 ∷ node.Iff 0 1 ∷ node.Not 3 ∷ node.Iff 0 2 ∷ node.Not 5 ∷ node.Iff 1 2 ∷ node.Not 7 ∷ node.And (4 ∷ 6 ∷ 8 ∷ []) ∷ []
  pub choice : final_nodes (logic (codes "(declare-const a Bool)(assert (= (ite a #f1m3 #f2m3) #f1m3))"))
      ≡ node.BoolConst 0 ∷ node.Num 1 3 ∷ node.Num 2 3 ∷ node.IteField 0 1 2 ∷ node.Eq 3 1 ∷ node.Eq 3 2 ∷ []
