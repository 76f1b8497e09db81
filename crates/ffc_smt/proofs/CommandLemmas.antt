-- What a form reads as, where what its terms and its sorts read as is known.
use Rattle.std.proofs.Common.{◌≡◌, ℕ, ◌+◌, if◌then◌else◌, Bool, true, false, List, [], ◌∷◌, length, drop, Some, None, Option, All, nat_lt, not, refl, subst}
use Rattle.std.proofs.lemmas.List.Elements.{All-cons, All-nil}
use Rattle.std.specs.Str.{bytes_eq}
use Rattle.std.specs.Prelude.{codes}
use Rattle.ffc_lex.specs.declared.tokens.TokenKind.{TokenKind}
use Rattle.ffc_lex.specs.declared.tokens.TokenKind.TheVariants as kinds
use Rattle.ffc_term.specs.declared.node.Sort.{Sort}
use Rattle.ffc_term.specs.declared.node.Sort.TheVariants as sort
use Rattle.ffc_smt.specs.Trees.{Word, Tree, Leaf, Group, Empty, First, items_of, front, name_of}
use Rattle.ffc_smt.specs.Terms.{Name, Term, Parameter, Command, Setting, Info, SetLogic, SetOption, SetInfo, Unsupported, Echo, CheckSat, CheckSatAssuming, GetModel, GetValue, GetUnsatCore, GetUnsatAssumptions, Exit, Declare, DefineSort, Define, Assert, Push, Pop, ResetAssertions, Reset}
use Rattle.ffc_smt.specs.Meaning.{Env, found}
use Rattle.ffc_smt.specs.Scopes.{first_state, State, scope_of, level_of}
use Rattle.ffc_smt.specs.Faults.{first_fault, Read, Sound, Faulty, faulty, read_map, both, behind, no_more, last, item}
use Rattle.ffc_smt.specs.TermReading.{Sorted, term_read, term_named, is_sort, is_word, is_named, sort_read}
use Rattle.ffc_smt.specs.CommandReading.{Limits, of_sort, term_of_sort, named_assertion, plain_assertion, assertion_read, truth_read, fresh_read, is_taken, is_taken_sort, none_read, at_most_one, each, some_item, list_read, negated, assumed, assumption_of, assumption_read, assumption_asked, asked_read, levels_read, string_read, logic_named, logic_read, setting_read, option_read, is_too_late, keyword_read, options, infos, get_option, get_info, parameters_read, definition_of, Reader, one, alone, readers, read_by, moment_faults, by_head, form_read, nodes_after, command_weight, within, command_read}
use Rattle.ffc_lex.specs.Reading.{reading_of}
use Rattle.ffc_smt.specs.Scripts.{Step, Script, End, Done, after, ended, with_step, end_at, end_of_text, trees_of, script_from, reads_within}
use Rattle.ffc_smt.specs.Sorting.{sorts_of_parameters}
use Rattle.ffc_smt.proofs.ReadLemmas.{IfSound, all_sound, weaker_sound, map_sound, behind_sound, either_sound, unless_sound, both_sound, item_first, item_second}
use Rattle.ffc_smt.proofs.SortLemmas.{same_sort}

-- What holds of a command where P holds of its terms, in the sorts of their variables and of their sort, and Q of its sorts.
abbrev pub IsCommandOf : (Env Sort → Term → Sort → Type 0) → (Sort → Type 0) → Command → Type 0
IsCommandOf P Q (Declare name s) = Q s
IsCommandOf P Q (DefineSort name s) = Q s
IsCommandOf P Q (Define name ps s t) = P (sorts_of_parameters ps) t s
IsCommandOf P Q (Assert label t) = P [] t sort.Bool
IsCommandOf P Q (CheckSatAssuming asked) = All (λ a. P [] a.term sort.Bool) asked
IsCommandOf P Q (GetValue asked) = All (λ a. (s : Sort) × P [] a.term s) asked
IsCommandOf P Q _ = Unit {0}

module _
    (l : Limits) (s : State) (P : Env Sort → Term → Sort → Type 0) (Q : Sort → Type 0)
    (terms : (locals : Env Sort) (t : Tree) → IfSound (term_read l.height (scope_of s) locals t) (λ x. P locals x.term x.sort))
    (sorts : (t : Tree) → IfSound (sort_read (scope_of s).sorts t) Q)
    (names : (w : Word) (name : Name) → IfSound (term_named (scope_of s) [] w name) (λ x. P [] x.term x.sort))
    (negation : (t : Term) → P [] t sort.Bool → P [] (negated t) sort.Bool)
  where
    abbrev IsCommand : Command → Type 0
    IsCommand c = IsCommandOf P Q c

    of_sort_sorted : (locals : Env Sort) (w : Sort) (at : Word) (t : Sorted) → P locals t.term t.sort → IfSound (of_sort w at t) (λ x. P locals x w)
    of_sort_sorted locals w at t g = by_test (is_sort w t.sort) refl
      where
        by_test : (b : Bool) → is_sort w t.sort ≡ b → IfSound (if b then Sound t.term else faulty 10 at) (λ x. P locals x w)
        by_test true e = subst (P locals t.term) (same_sort w t.sort e) g
        by_test false e = tt

    term_sorted : (ps : List Parameter) (w : Sort) (t : Tree) → IfSound (term_of_sort l s ps w t) (λ x. P (sorts_of_parameters ps) x w)
    term_sorted ps w t =
        behind_sound (term_read l.height (scope_of s) (sorts_of_parameters ps) t) (of_sort w (front t)) (λ x. P (sorts_of_parameters ps) x.term x.sort) (λ x. P (sorts_of_parameters ps) x w)
        (terms (sorts_of_parameters ps) t) (λ x g. of_sort_sorted (sorts_of_parameters ps) w (front t) x g)

    -- lists of terms, and assumptions

    each_sound : {A : Type 0} (read : Tree → Read A) (R : A → Type 0) → ((t : Tree) → IfSound (read t) R) → (ts : List Tree) → IfSound (each read ts) (All R)
    each_sound read R h [] = All-nil R
    each_sound read R h (t ∷ ts) =
        map_sound (λ p. p.0 ∷ p.1) (both (read t) (each read ts)) (All R)
        (weaker_sound (both (read t) (each read ts)) (λ p. R p.0 × All R p.1) (λ p. All R (p.0 ∷ p.1)) (λ p g. All-cons R p.0 p.1 g.0 g.1) (both_sound (read t) (each read ts) R (All R) (h t) (each_sound read R h ts)))

    list_sound : {A : Type 0} (empty : Bool) (read : Tree → Read A) (R : A → Type 0) → ((t : Tree) → IfSound (read t) R) → (t : Tree) → IfSound (list_read empty read t) (All R)
    list_sound empty read R h (Leaf w) = tt
    list_sound empty read R h (Group opening items closing) =
        unless_sound (if empty then [] else some_item closing (items_of items)) (each read (items_of items)) (All R) (λ e. each_sound read R h (items_of items))

    abbrev IsAssumption : Term → Type 0
    IsAssumption t = P [] t sort.Bool

    assumed_sound : (at w : Word) (o : Option Name) → IfSound (assumed s at w o) IsAssumption
    assumed_sound at w None = tt
    assumed_sound at w (Some name) =
        behind_sound (term_named (scope_of s) [] w name) (of_sort sort.Bool w) (λ x. P [] x.term x.sort) IsAssumption (names w name) (λ x g. of_sort_sorted [] sort.Bool w x g)

    assumption_of_sound : (opening : Word) (items : List Tree) → IfSound (assumption_of s opening items) IsAssumption
    assumption_of_sound opening [] = tt
    assumption_of_sound opening (Group o items c ∷ rest) = tt
    assumption_of_sound opening (Leaf head ∷ []) = tt
    assumption_of_sound opening (Leaf head ∷ Group o items c ∷ rest) = tt
    assumption_of_sound opening (Leaf head ∷ Leaf w ∷ t ∷ rest) = tt
    assumption_of_sound opening (Leaf head ∷ Leaf w ∷ []) =
        either_sound (is_named (codes "not") head) (read_map negated (assumed s opening w (name_of w))) (faulty 5 opening) IsAssumption
        (map_sound negated (assumed s opening w (name_of w)) IsAssumption (weaker_sound (assumed s opening w (name_of w)) IsAssumption (λ t. IsAssumption (negated t)) negation (assumed_sound opening w (name_of w)))) tt

    assumption_sound : (t : Tree) → IfSound (assumption_read s t) IsAssumption
    assumption_sound (Leaf w) = assumed_sound w w (name_of w)
    assumption_sound (Group opening items closing) = assumption_of_sound opening (items_of items)

    assumption_asked_sound : (t : Tree) → IfSound (assumption_asked s t) (λ a. P [] a.term sort.Bool)
    assumption_asked_sound t = map_sound (λ x. record { tree = t; term = x }) (assumption_read s t) (λ a. P [] a.term sort.Bool) (assumption_sound t)

    asked_sound : (t : Tree) → IfSound (asked_read l s t) (λ a. (u : Sort) × P [] a.term u)
    asked_sound t =
        map_sound (λ x. record { tree = t; term = x.term }) (term_read l.height (scope_of s) [] t) (λ a. (u : Sort) × P [] a.term u)
        (weaker_sound (term_read l.height (scope_of s) [] t) (λ x. P [] x.term x.sort) (λ x. (u : Sort) × P [] x.term u) (λ x g. (x.sort, g)) (terms [] t))

    -- declarations

    sort_behind : (closing : Word) (ts : List Tree) → IfSound (item closing (sort_read (scope_of s).sorts) last ts) (λ p. Q p.0)
    sort_behind closing ts = item_first closing (sort_read (scope_of s).sorts) last ts Q sorts

    none_behind : (closing : Word) (ts : List Tree) → IfSound (item closing none_read (item closing (sort_read (scope_of s).sorts) last) ts) (λ p. Q p.1.0)
    none_behind closing ts = item_second closing none_read (item closing (sort_read (scope_of s).sorts) last) ts (λ p. Q p.0) (sort_behind closing)

    plain_sorted : (t : Tree) → IfSound (plain_assertion l s t) IsCommand
    plain_sorted t = map_sound (Assert None) (term_of_sort l s [] sort.Bool t) IsCommand (term_sorted [] sort.Bool t)

    named_sorted : (closing : Word) (items : List Tree) → IfSound (named_assertion l s closing items) IsCommand
    named_sorted closing items =
        map_sound (λ p. Assert (Some (p.1.1.0)) p.0) _ IsCommand
        (item_first closing (term_of_sort l s [] sort.Bool) _ items (λ x. P [] x sort.Bool) (term_sorted [] sort.Bool))

    assertion_read_sorted : (t : Tree) → IfSound (assertion_read l s t) IsCommand
    assertion_read_sorted (Leaf w) = plain_sorted (Leaf w)
    assertion_read_sorted (Group opening Empty closing) = plain_sorted (Group opening Empty closing)
    assertion_read_sorted (Group opening (First (Group o items c) rest) closing) = plain_sorted (Group opening (First (Group o items c) rest) closing)
    assertion_read_sorted (Group opening (First (Leaf w) rest) closing) =
        either_sound (is_word (codes "!") w) _ _ IsCommand (named_sorted closing (items_of rest)) (plain_sorted (Group opening (First (Leaf w) rest) closing))

    abbrev IsDefinition : List Parameter × Sort × Term → Type 0
    IsDefinition d = P (sorts_of_parameters d.0) d.2 d.1

    body_item : (ps : List Parameter) (w : Sort) (r : Read Term) (q : Read (Unit {0})) → IfSound r (λ x. P (sorts_of_parameters ps) x w)
        → IfSound (both (Sound ps) (both (Sound w) (both r q))) (λ d. P (sorts_of_parameters d.0) d.1.1.0 d.1.0)
    body_item ps w (Sound x) (Sound u) g = g
    body_item ps w (Sound x) (Faulty f fs) g = tt
    body_item ps w (Faulty f fs) q g = tt

    body_sorted : (closing : Word) (rp : Read (List Parameter)) (rs : Read Sort) (rest : List Tree)
        → IfSound (both rp (both rs (item closing (λ t. behind (both rp rs) (λ head. term_of_sort l s head.0 head.1 t)) last rest))) (λ d. P (sorts_of_parameters d.0) d.1.1.0 d.1.0)
    body_sorted closing (Faulty f fs) rs rest = tt
    body_sorted closing (Sound ps) (Faulty f fs) rest = tt
    body_sorted closing (Sound ps) (Sound w) [] = tt
    body_sorted closing (Sound ps) (Sound w) (t ∷ ts) = body_item ps w (term_of_sort l s ps w t) (last ts) (term_sorted ps w t)

    definition_sorted : (closing : Word) (items : List Tree) → IfSound (definition_of l s closing items) IsDefinition
    definition_sorted closing [] = tt
    definition_sorted closing (ps ∷ []) = unless_sound _ (faulty {A = List Parameter × Sort × Term} 5 closing) IsDefinition (λ e. tt)
    definition_sorted closing (ps ∷ r ∷ rest) =
        map_sound _ _ IsDefinition (body_sorted closing (parameters_read s ps) (sort_read (scope_of s).sorts r) rest)

    abbrev ReadsSorted : (Word → List Tree → Read Command) → Type 0
    ReadsSorted read = (closing : Word) (items : List Tree) → IfSound (read closing items) IsCommand

    one_sorted : (read : Tree → Read Command) → ((t : Tree) → IfSound (read t) IsCommand) → ReadsSorted (one read)
    one_sorted read g closing items = map_sound (λ p. p.0) (item closing read last items) IsCommand (item_first closing read last items IsCommand g)

    -- a command that defines nothing
    plainly : {A : Type 0} (f : A → Command) (r : Read A) → ((a : A) → IsCommand (f a)) → IfSound (read_map f r) IsCommand
    plainly f r g = map_sound f r IsCommand (all_sound r (λ a. IsCommand (f a)) g)

    define_sorted : (closing : Word) (fresh : Tree → Read Name) (items : List Tree)
        → IfSound (read_map (λ p. Define p.0 p.1.0 p.1.1 p.1.2) (item closing fresh (definition_of l s closing) items)) IsCommand
    define_sorted closing fresh items =
        map_sound _ (item closing fresh (definition_of l s closing) items) IsCommand (item_second closing fresh (definition_of l s closing) items IsDefinition (definition_sorted closing))

    abbrev AllReaders : Env Reader → Type 0
    AllReaders [] = Unit {0}
    AllReaders (x ∷ xs) = ReadsSorted (x.1).read × AllReaders xs

    logic_name_sorted : (w : Word) (o : Option Name) → IfSound (elim o [ None ↦ faulty 5 w | Some name ↦ logic_named w name ]) IsCommand
    logic_name_sorted w None = tt
    logic_name_sorted w (Some name) = either_sound (bytes_eq name (codes "QF_FF")) (Sound SetLogic) (faulty 6 w) IsCommand tt tt

    logic_read_sorted : (t : Tree) → IfSound (logic_read t) IsCommand
    logic_read_sorted (Leaf w) = logic_name_sorted w (name_of w)
    logic_read_sorted (Group opening items closing) = tt

    logic_sorted : ReadsSorted (one logic_read)
    logic_sorted = one_sorted logic_read logic_read_sorted

    option_of_sorted : (closing w : Word) (rest : List Tree) (o : Option Setting) → IfSound (setting_read s closing w rest o) IsCommand
    option_of_sorted closing w rest None = unless_sound (no_more (drop 1 rest)) (Sound Unsupported) IsCommand (λ e. tt)
    option_of_sorted closing w rest (Some o) = either_sound (is_too_late s o) (faulty 7 w) _ IsCommand tt (plainly (λ p. SetOption o p.0) (item closing truth_read last rest) (λ a. tt))

    option_sorted : ReadsSorted (option_read s)
    option_sorted closing [] = tt
    option_sorted closing (k ∷ rest) =
        behind_sound (keyword_read k) (λ w. setting_read s closing w rest (found options w.bytes)) (λ w. Unit {0}) IsCommand (all_sound (keyword_read k) (λ w. Unit {0}) (λ w. tt))
        (λ w g. option_of_sorted closing w rest (found options w.bytes))

    key_plain : (o : Option Setting) → IsCommand (get_option o)
    key_plain None = tt
    key_plain (Some o) = tt

    info_plain : (o : Option Info) → IsCommand (get_info o)
    info_plain None = tt
    info_plain (Some o) = tt

    string_by_kind : (k : TokenKind) (w : Word) → IfSound (elim k [ kinds.Str ↦ Sound (Echo w.bytes) | _ ↦ faulty 5 w ]) IsCommand
    string_by_kind kinds.Str w = tt
    string_by_kind _ w = tt

    string_sorted : (t : Tree) → IfSound (string_read t) IsCommand
    string_sorted (Leaf w) = string_by_kind w.kind w
    string_sorted (Group opening items closing) = tt

    alone_sorted : (c : Command) → IsCommand c → ReadsSorted (alone c)
    alone_sorted c g closing items = plainly (λ u. c) (last items) (λ u. g)

    readers_sorted : AllReaders (readers l s)
    readers_sorted = (
      logic_sorted,
      (
        option_sorted,
        (
          one_sorted (λ t. read_map (λ w. get_option (found options w.bytes)) (keyword_read t)) (λ t. plainly (λ w. get_option (found options w.bytes)) (keyword_read t) (λ w. key_plain (found options w.bytes))),
          (
            (λ closing items. plainly (λ p. SetInfo) (item closing keyword_read at_most_one items) (λ a. tt)),
            (
              one_sorted (λ t. read_map (λ w. get_info (found infos w.bytes)) (keyword_read t)) (λ t. plainly (λ w. get_info (found infos w.bytes)) (keyword_read t) (λ w. info_plain (found infos w.bytes))),
              (
                one_sorted string_read string_sorted,
                (
                  (λ closing items.
                      map_sound (λ p. Declare p.0 p.1.0) _ IsCommand (item_second closing (fresh_read (is_taken s)) (item closing (sort_read (scope_of s).sorts) last) items (λ p. Q p.0) (sort_behind closing))),
                  (
                    (λ closing items.
                        map_sound (λ p. Declare p.0 p.1.1.0) _ IsCommand
                        (item_second closing (fresh_read (is_taken s)) (item closing none_read (item closing (sort_read (scope_of s).sorts) last)) items (λ p. Q p.1.0) (none_behind closing))),
                    (
                      (λ closing items.
                          map_sound (λ p. DefineSort p.0 p.1.1.0) _ IsCommand
                          (item_second closing (fresh_read (is_taken_sort s)) (item closing none_read (item closing (sort_read (scope_of s).sorts) last)) items (λ p. Q p.1.0) (none_behind closing))),
                      (
                        (λ closing items. define_sorted closing (fresh_read (is_taken s)) items),
                        (
                          one_sorted (assertion_read l s) assertion_read_sorted,
                          (
                            alone_sorted CheckSat tt,
                            (
                              one_sorted (λ t. read_map CheckSatAssuming (list_read true (assumption_asked s) t)) (λ t. map_sound CheckSatAssuming (list_read true (assumption_asked s) t) IsCommand (list_sound true (assumption_asked s) (λ a. P [] a.term sort.Bool) assumption_asked_sound t)),
                              (
                                alone_sorted GetUnsatCore tt,
                                (
                                  alone_sorted GetUnsatAssumptions tt,
                                  (
                                    alone_sorted GetModel tt,
                                    (
                                      one_sorted (λ t. read_map GetValue (list_read false (asked_read l s) t)) (λ t. map_sound GetValue (list_read false (asked_read l s) t) IsCommand (list_sound false (asked_read l s) (λ a. (u : Sort) × P [] a.term u) asked_sound t)),
                                      (
                                        (λ closing items. plainly Push (levels_read (λ n. not (nat_lt l.levels (level_of s + n))) closing items) (λ a. tt)),
                                        (
                                          (λ closing items. plainly Pop (levels_read (λ n. not (nat_lt (level_of s) n)) closing items) (λ a. tt)),
                                          (
                                            alone_sorted ResetAssertions tt,
                                            (
                                              alone_sorted Reset tt,
                                              (
                                                alone_sorted Exit tt,
                                                tt,
                                              ),
                                            ),
                                          ),
                                        ),
                                      ),
                                    ),
                                  ),
                                ),
                              ),
                            ),
                          ),
                        ),
                      ),
                    ),
                  ),
                ),
              ),
            ),
          ),
        ),
      ),
    )

    reader_first : (b : Bool) (r q : Reader) (o : Option Reader) → (if b then Some r else o) ≡ Some q → ReadsSorted r.read → (o ≡ Some q → ReadsSorted q.read) → ReadsSorted q.read
    reader_first true r q o e g k = let same : r ≡ q = cc in subst (λ x. ReadsSorted x.read) same g
    reader_first false r q o e g k = k e

    reader_found : (rs : Env Reader) (name : Name) (r : Reader) → AllReaders rs → found rs name ≡ Some r → ReadsSorted r.read
    reader_found [] name r g e = cc
    reader_found (x ∷ xs) name r g e = reader_first (bytes_eq x.0 name) x.1 r (found xs name) e g.0 (reader_found xs name r g.1)

    read_by_sorted : (head closing : Word) (items : List Tree) (o : Option Reader) → found (readers l s) head.bytes ≡ o → IfSound (read_by s head closing items o) IsCommand
    read_by_sorted head closing items None e = tt
    read_by_sorted head closing items (Some r) e =
        unless_sound (moment_faults s r.moment head) (r.read closing items) IsCommand (λ d. reader_found (readers l s) head.bytes r readers_sorted e closing items)

    head_sorted : (k : TokenKind) (head closing : Word) (items : List Tree) → IfSound (by_head l s k head closing items) IsCommand
    head_sorted kinds.Symbol head closing items = read_by_sorted head closing items (found (readers l s) head.bytes) refl
    head_sorted kinds.Quoted head closing items = tt
    head_sorted _ head closing items = tt

    pub form_sorted : (t : Tree) → IfSound (form_read l s t) IsCommand
    unfolding form_read
    form_sorted (Leaf w) = tt
    form_sorted (Group opening Empty closing) = tt
    form_sorted (Group opening (First (Leaf head) rest) closing) = head_sorted head.kind head closing (items_of rest)
    form_sorted (Group opening (First (Group o items c) rest) closing) = tt

    within_sorted : (opening : Word) (c : Command) → IsCommand c → IfSound (within l s opening c) IsCommand
    within_sorted opening c g =
        either_sound (nat_lt l.nodes (length (nodes_after s c))) (faulty 15 opening) (if nat_lt l.weight (command_weight c) then faulty 15 opening else Sound c) IsCommand tt
        (either_sound (nat_lt l.weight (command_weight c)) (faulty 15 opening) (Sound c) IsCommand tt g)

    pub command_is : (t : Tree) → IfSound (command_read l s t) IsCommand
    unfolding command_read
    command_is t = behind_sound (form_read l s t) (within l s (front t)) IsCommand IsCommand (form_sorted t) (within_sorted (front t))

-- Scripts: what holds of the first state and what each command keeps, and with it of each step

module _
    (l : Limits) (Holds : State → Type 0) (R : Step → Type 0)
    (next : (s : State) (t : Tree) (c : Command) → Holds s → command_read l s t ≡ Sound c → Holds (after s t c) × R (record { before = s; tree = t; command = c }))
  where
    abbrev AllSteps : Script → Type 0
    AllSteps script = All R script.steps

    step_first : (s : State) (t : Tree) (c : Command) (rest : Script) → R (record { before = s; tree = t; command = c }) → AllSteps rest → AllSteps (with_step (record { before = s; tree = t; command = c }) rest)
    step_first s t c rest h g = All-cons R (record { before = s; tree = t; command = c }) rest.steps h g

    script_next : (s : State) (t : Tree) (ts : List Tree) (end : End) (r : Read Command) → ((c : Command) → r ≡ Sound c → R (record { before = s; tree = t; command = c }))
        → ((c : Command) → r ≡ Sound c → AllSteps (script_from l (after s t c) ts end))
        → AllSteps (elim r [
          | Faulty f fs ↦ ended (end_at (first_fault f fs))
          | Sound Exit ↦ with_step (record { before = s; tree = t; command = Exit }) (ended Done)
          | Sound c ↦ with_step (record { before = s; tree = t; command = c }) (script_from l (after s t c) ts end)
        ])
    script_next s t ts end (Faulty f fs) h k = All-nil R
    script_next s t ts end (Sound Exit) h k = step_first s t Exit (ended Done) (h Exit refl) (All-nil R)
    script_next s t ts end (Sound c) h k = step_first s t c (script_from l (after s t c) ts end) (h c refl) (k c refl)

    script_steps : (ts : List Tree) (s : State) (end : End) → Holds s → AllSteps (script_from l s ts end)
    unfolding script_from
    script_steps [] s end h = All-nil R
    script_steps (t ∷ ts) s end h =
        script_next s t ts end (command_read l s t) (λ c e. (next s t c h e).1) (λ c e. script_steps ts (after s t c) end ((next s t c h e).0))

    pub all_steps : (text : List ℕ) → Holds first_state → AllSteps (reads_within l text)
    unfolding reads_within
    all_steps text h = script_steps (trees_of text (reading_of text).forms) first_state (end_of_text (reading_of text).end) h
