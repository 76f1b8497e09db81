-- What is active at a check has a node that means it.
use Rattle.std.proofs.Common.{◌≡◌, ℕ, ◌≤◌, true, List, [], length, map, flat_map, reverse, Some, All, sym, ap, ◌∙◌, subst, append-nil}
use Rattle.std.proofs.lemmas.List.Elements.{All-nil, All-append, All-weaker, All-map}
use Rattle.ffc_term.specs.declared.node.Node.{Node}
use Rattle.ffc_term.specs.declared.node.Sort.{Sort}
use Rattle.ffc_term.specs.declared.node.Sort.TheVariants as sort
use Rattle.ffc_term.specs.declared.value.Value.{Value}
use Rattle.ffc_term.specs.declared.value.Value.TheVariants as value
use Rattle.ffc_term.specs.Nodes.{sort_at}
use Rattle.ffc_term.specs.Tables.{most_nodes}
use Rattle.ffc_smt.specs.Trees.{Tree}
use Rattle.ffc_smt.specs.Terms.{Term, Asked, Command, CheckSat, CheckSatAssuming, GetValue}
use Rattle.ffc_smt.specs.Meaning.{Env, Element, TruthValue, FieldValue, sort_of, value_of, val}
use Rattle.ffc_smt.specs.Making.{made}
use Rattle.ffc_smt.specs.Law.{Means}
use Rattle.ffc_smt.specs.Bounds.{AreDefined}
use Rattle.ffc_smt.specs.Scopes.{State, scope_of, assertions_of}
use Rattle.ffc_smt.specs.Faults.{Sound}
use Rattle.ffc_smt.specs.TermReading.{Sorted, term_read}
use Rattle.ffc_smt.specs.CommandReading.{Limits, nodes_after, asked_made, command_read}
use Rattle.ffc_smt.specs.Scripts.{Check, check_at, check_of, in_force, after, reads_within}
use Rattle.ffc_smt.specs.WellSorted.{IsSoundTerm}
use Rattle.ffc_smt.specs.States.{IsTableWith, IsMadeTerm, IsSoundAssertion, IsSoundLevel, IsSoundState}
use Rattle.ffc_smt.specs.ScriptLaw.{HasNode, IsTrueAt, KeepsValues, ReadsTerms}
use Rattle.ffc_smt.proofs.CommandLemmas.{all_steps}
use Rattle.ffc_smt.proofs.Extends.{Extends, extends_same}
use Rattle.ffc_smt.proofs.Bounds.{made_stays, made_nothing, made_bound}
use Rattle.ffc_smt.proofs.Keeping.{made_kept}
use Rattle.ffc_smt.proofs.SoundTerms.{made_good, sound_stays, sound_defined}
use Rattle.ffc_smt.proofs.SoundReading.{read_terms_are_sound}
use Rattle.ffc_smt.proofs.SoundStates.{Fine, flat_all, all_reverse, first_is_sound, scope_is_sound, asked_extends, asked_good, some_sort, fine_command, next_is_sound}

pub read_terms_are_defined : (limit : ℕ) (s : State) (locals : Env Sort) (tree : Tree) (t : Sorted) → IsSoundState s → term_read limit (scope_of s) locals tree ≡ Sound t → AreDefined s.nodes t.term
read_terms_are_defined limit s locals tree t h e =
    sound_defined s.constants s.nodes t.term locals t.sort (read_terms_are_sound limit (scope_of s) locals tree t s.constants s.nodes (scope_is_sound s h) e)

-- a term that was made has its node
abbrev pub HasNodeOf : List Node → Term → Sort → Type 0
HasNodeOf ns t u = HasNode ns t × (sort_at ns (made [] ns t).id ≡ u)

pub has_node : (cs : List Sort) (count : ℕ) (ns : List Node) (t : Term) (u : Sort) → IsTableWith cs count ns → IsMadeTerm cs ns t u → HasNodeOf ns t u
has_node cs count ns t u table h =
    let formed = table.table.well_formed in
    let same = made_nothing t ns h.1 in
    let new = made_good cs count ns t [] u [] ns h.0 tt table (subst (λ ms. length ms ≤ most_nodes) (sym same) formed.within) in (
      record {
        there = same;
        means = λ A. subst (λ ms. Means ms A (made [] ns t).id (val [] A t)) same (made_kept A t [] [] ns tt new.0.table.well_formed);
        defined = sound_defined cs ns t [] u h.0;
      },
      subst (λ ms. sort_at ms (made [] ns t).id ≡ u) same new.1.1,
    )

-- What is active is true exactly where its nodes are

true_element : (e : Element) → sort_of e ≡ sort.Bool → value_of e ≡ value.Bool true → e ≡ TruthValue true
true_element (TruthValue b) s v = let same : b ≡ true = cc in ap TruthValue same
true_element (FieldValue p n) s v = cc

pub true_there : (ns : List Node) (t : Term) (A : List Value) → HasNodeOf ns t sort.Bool → val [] A t ≡ TruthValue true → IsTrueAt ns A t
true_there ns t A h e = (h.0.means A).value ∙ ap value_of e

pub true_term : (ns : List Node) (t : Term) (A : List Value) → HasNodeOf ns t sort.Bool → IsTrueAt ns A t → val [] A t ≡ TruthValue true
true_term ns t A h e =
    let means = h.0.means A in
    true_element (val [] A t) (sym means.sort ∙ h.1) (sym means.value ∙ e)

module _ (s : State) (h : IsSoundState s) where
  abbrev IsNow : List Node → Term → Sort → Type 0
  IsNow ns t u = IsMadeTerm s.constants ns t u

  pub grows : (ns : List Node) (t : Term) (u : Sort) → Extends s.nodes ns → IsSoundTerm s.constants s.nodes [] t u → IsSoundTerm s.constants ns [] t u
  grows ns t u further g = subst (λ cs. IsSoundTerm cs ns [] t u) (append-nil s.constants) (sound_stays s.constants [] s.nodes ns further t [] u g)

  asserted_now : (ns : List Node) → Extends s.nodes ns → All (λ a. IsNow ns a.term sort.Bool) (assertions_of s)
  asserted_now ns further =
      let P = IsSoundAssertion s.constants s.nodes in
      All-weaker P (λ a. IsNow ns a.term sort.Bool) (λ a g. (grows ns a.term sort.Bool further g.0, made_stays a.term s.nodes ns further g.1)) (assertions_of s)
      (All-append P s.base.asserted (flat_map (λ l. l.asserted) (reverse s.levels)) h.base.asserted
      (flat_all (λ l. l.asserted) P (reverse s.levels)
      (all_reverse (λ l. All P l.asserted) s.levels (All-weaker (IsSoundLevel s.constants s.nodes) (λ l. All P l.asserted) (λ l g. g.asserted) s.levels h.levels))))

  forced_now : (ns : List Node) (asked : List Asked) → Extends s.nodes ns → All (λ a. IsNow ns a.term sort.Bool) asked → All (λ t. IsNow ns t sort.Bool) (in_force (check_at s asked))
  forced_now ns asked further g =
      let P = λ (t : Term). IsNow ns t sort.Bool in
      All-append P (map (λ a. a.term) (assertions_of s)) (map (λ a. a.term) asked)
      (All-map P (λ a. a.term) (assertions_of s) (asserted_now ns further)) (All-map P (λ a. a.term) asked g)

  -- what was made has nodes
  with_nodes : (ns : List Node) (asked : List Asked) → Extends s.nodes ns → IsTableWith s.constants (length s.constants) ns → All (λ a. IsNow ns a.term sort.Bool) asked
      → All (λ t. HasNodeOf ns t sort.Bool) (in_force (check_at s asked))
  with_nodes ns asked further table g =
      All-weaker (λ t. IsNow ns t sort.Bool) (λ t. HasNodeOf ns t sort.Bool) (λ t k. has_node s.constants (length s.constants) ns t sort.Bool table k) (in_force (check_at s asked)) (forced_now ns asked further g)

  checked_now : (tree : Tree) (c : Command) → Fine s h c → length (nodes_after s c) ≤ most_nodes → (k : Check) → check_of (record { before = s; tree = tree; command = c }) ≡ Some k
      → All (λ t. HasNodeOf (nodes_after s c) t sort.Bool) (in_force k)
  unfolding nodes_after
  checked_now tree CheckSat g room k e =
      let same : check_at s [] ≡ k = cc in
      subst (λ d. All (λ t. HasNodeOf s.nodes t sort.Bool) (in_force d)) same (with_nodes s.nodes [] (extends_same s.nodes) h.nodes (All-nil (λ a. IsNow s.nodes a.term sort.Bool)))
  checked_now tree (CheckSatAssuming asked) g room k e =
      let ns = asked_made s.nodes asked in
      let same : check_at s asked ≡ k = cc in
      let further = asked_extends asked s.nodes in
      let all = asked_good s h asked s.nodes (some_sort s h asked g) h.nodes room in
      subst (λ d. All (λ t. HasNodeOf ns t sort.Bool) (in_force d)) same
      (with_nodes ns asked further all.0 (λ i d inside. (grows ns _ sort.Bool further (g i d inside), all.1 i d inside)))
  checked_now tree _ g room k e = cc

  asked_now : (c : Command) → Fine s h c → length (nodes_after s c) ≤ most_nodes → (asked : List Asked) → c ≡ GetValue asked → All (λ a. HasNode (nodes_after s c) a.term) asked
  unfolding nodes_after
  asked_now (GetValue asked) g room other e =
      let ns = asked_made s.nodes asked in
      let same : asked ≡ other = cc in
      let all = asked_good s h asked s.nodes g h.nodes room in
      subst (λ xs. All (λ a. HasNode ns a.term) xs) same
      (λ i d inside.
      let one = g i d inside in
      (has_node s.constants (length s.constants) ns _ one.0 all.0 (grows ns _ one.0 (asked_extends asked s.nodes) one.1, all.1 i d inside)).0)
  asked_now _ g room other e = cc

pub keeps_values : (l : Limits) (s : State) (t : Tree) (c : Command) → l.nodes ≤ most_nodes → IsSoundState s → command_read l s t ≡ Sound c → KeepsValues (record { before = s; tree = t; command = c })
unfolding after
keeps_values l s t c small h e =
    let fine = fine_command l s h t c small e in
    let ns = nodes_after s c in
    let checked = checked_now s h t c fine.0 fine.1 in
    record {
      table = (next_is_sound l s t c small h e).nodes.table;
      checked = checked;
      forced = λ k is A g i d inside. true_there ns _ A (checked k is i d inside) (g.1 i d inside);
      holds = λ k is A assigned g. (assigned, λ i d inside. true_term ns _ A (checked k is i d inside) (g i d inside));
      asked = λ asked is. asked_now s h c fine.0 fine.1 asked is;
    }

pub scripts_keep_states : (l : Limits) (text : List ℕ) → l.nodes ≤ most_nodes → All (λ x. IsSoundState x.before × IsSoundState (after x.before x.tree x.command)) (reads_within l text).steps
scripts_keep_states l text small =
    all_steps l IsSoundState (λ x. IsSoundState x.before × IsSoundState (after x.before x.tree x.command))
    (λ s t c h e. let next = next_is_sound l s t c small h e in (next, (h, next))) text first_is_sound

pub scripts_keep_values : (l : Limits) (text : List ℕ) → l.nodes ≤ most_nodes → All KeepsValues (reads_within l text).steps
scripts_keep_values l text small = all_steps l IsSoundState KeepsValues (λ s t c h e. (next_is_sound l s t c small h e, keeps_values l s t c small h e)) text first_is_sound

pub reads_terms : (s : State) (tree : Tree) (c : Command) → IsSoundState s → ReadsTerms (record { before = s; tree = tree; command = c })
reads_terms s tree c h limit from t e =
    let sound = read_terms_are_sound limit (scope_of s) [] from t s.constants s.nodes (scope_is_sound s h) e in
    let defined = sound_defined s.constants s.nodes t.term [] t.sort sound in (
      defined,
      λ room.
          let new = made_good s.constants (length s.constants) s.nodes t.term [] t.sort [] s.nodes sound tt h.nodes room in
          let formed = new.0.table.well_formed in
          record {
            table = new.0.table;
            sort = new.1.1;
            means = λ A. made_kept A t.term [] [] s.nodes tt formed;
            bound = made_bound t.term [] s.nodes defined;
          },
    )

pub scripts_read_terms : (l : Limits) (text : List ℕ) → l.nodes ≤ most_nodes → All ReadsTerms (reads_within l text).steps
scripts_read_terms l text small = all_steps l IsSoundState ReadsTerms (λ s t c h e. (next_is_sound l s t c small h e, reads_terms s t c h)) text first_is_sound
