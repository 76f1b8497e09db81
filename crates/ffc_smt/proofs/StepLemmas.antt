-- What one command makes that is read at a sound state.
use Rattle.std.proofs.Common.{◌≡◌, ◌≤◌, Option, [], ◌∷◌, ◌++◌, length, refl, sym, ap, ◌∙◌, subst}
use Rattle.ffc_term.specs.declared.node.Sort.{Sort}
use Rattle.ffc_term.specs.declared.node.Sort.TheVariants as sort
use Rattle.ffc_term.specs.Nodes.{sort_at}
use Rattle.ffc_term.specs.Tables.{most_nodes}
use Rattle.ffc_smt.specs.TableChecks.{node_of}
use Rattle.ffc_smt.specs.Trees.{Tree}
use Rattle.ffc_smt.specs.Terms.{Name, Term, Command, Declare, Define, Assert}
use Rattle.ffc_smt.specs.Making.{constant_node, made}
use Rattle.ffc_smt.specs.Scopes.{State}
use Rattle.ffc_smt.specs.Faults.{Sound}
use Rattle.ffc_smt.specs.CommandReading.{Limits, nodes_after, command_read}
use Rattle.ffc_smt.specs.Scripts.{Step, after}
use Rattle.ffc_smt.specs.ScriptLaw.{HasNode, nodes_at, KeepsValues, ReadsTerms}
use Rattle.ffc_smt.specs.WellSorted.{IsSoundTerm}
use Rattle.ffc_smt.specs.States.{IsSoundState}
use Rattle.ffc_smt.specs.StepLaws.{MakesTerm, MakesItsOwn}
use Rattle.ffc_smt.proofs.Extends.{extends_same, made_extends}
use Rattle.ffc_smt.proofs.Again.{made_again}
use Rattle.ffc_smt.proofs.InterningLemmas.{interned_absent}
use Rattle.ffc_smt.proofs.SoundTerms.{made_good}
use Rattle.ffc_smt.proofs.SoundStates.{Fine, constant_new, made_here, fine_command}
use Rattle.ffc_smt.proofs.ScriptLemmas.{grows, has_node, keeps_values, reads_terms}

module _ (s : State) (h : IsSoundState s) (tree : Tree) where
  abbrev At : Command → Step
  At c = record { before = s; tree = tree; command = c }

  nodes_are : (c : Command) → nodes_at (At c) ≡ nodes_after s c
  unfolding after
  nodes_are c = refl

  -- a term that was made just now
  makes_term : (c : Command) (t : Term) (u : Sort) → nodes_at (At c) ≡ (made [] s.nodes t).nodes → IsSoundTerm s.constants s.nodes [] t u → length (made [] s.nodes t).nodes ≤ most_nodes → MakesTerm (At c) t u
  makes_term c t u e sound room =
      let m = made [] s.nodes t in
      let new = made_good s.constants (length s.constants) s.nodes t [] u [] s.nodes sound tt h.nodes room in
      let here = has_node s.constants (length s.constants) m.nodes t u new.0 (grows s h m.nodes t u (made_extends t [] s.nodes) sound, made_here t s.nodes) in
      let again : made [] m.nodes t ≡ record { nodes = m.nodes; id = m.id } = made_again [] t [] [] s.nodes m.nodes tt (extends_same m.nodes) new.0.table.well_formed in
      let all = subst (λ ns. (node_of ns t ≡ m.id) × HasNode ns t × (sort_at ns (node_of ns t) ≡ u)) (sym e) (ap (λ k. k.id) again, here.0, here.1) in
      record { nodes = e; node = all.0; has = all.1; sort = all.2 }

  assert_nodes : (label : Option Name) (t : Term) → nodes_after s (Assert label t) ≡ (made [] s.nodes t).nodes
  unfolding nodes_after
  assert_nodes label t = refl

  define_nodes : (name : Name) (u : Sort) (t : Term) → nodes_after s (Define name [] u t) ≡ (made [] s.nodes t).nodes
  unfolding nodes_after
  define_nodes name u t = refl

  declare_nodes : (name : Name) (u : Sort) → nodes_after s (Declare name u) ≡ s.nodes ++ constant_node (length s.constants) u ∷ []
  unfolding nodes_after
  declare_nodes name u = ap (λ m. m.nodes) (interned_absent s.nodes (constant_node (length s.constants) u) (constant_new s.nodes s.constants u h.nodes))

  own : (l : Limits) (c : Command) → Fine s h c → length (nodes_after s c) ≤ most_nodes → MakesItsOwn (At c)
  own l c fine room = record {
    asserted = λ label t e.
        let now : length (nodes_after s (Assert label t)) ≤ most_nodes = subst (λ d. length (nodes_after s d) ≤ most_nodes) e room in
        makes_term c t sort.Bool (nodes_are c ∙ ap (nodes_after s) e ∙ assert_nodes label t) (subst (Fine s h) e fine) (subst (λ ns. length ns ≤ most_nodes) (assert_nodes label t) now);
    defined = λ name u t e.
        let now : length (nodes_after s (Define name [] u t)) ≤ most_nodes = subst (λ d. length (nodes_after s d) ≤ most_nodes) e room in
        makes_term c t u (nodes_are c ∙ ap (nodes_after s) e ∙ define_nodes name u t) (subst (Fine s h) e fine) (subst (λ ns. length ns ≤ most_nodes) (define_nodes name u t) now);
    declared = λ name u e. nodes_are c ∙ ap (nodes_after s) e ∙ declare_nodes name u;
  }

pub steps_keep_values : (l : Limits) (s : State) (tree : Tree) (c : Command) → l.nodes ≤ most_nodes → IsSoundState s → command_read l s tree ≡ Sound c
    → KeepsValues (record { before = s; tree = tree; command = c }) × ReadsTerms (record { before = s; tree = tree; command = c }) × MakesItsOwn (record { before = s; tree = tree; command = c })
steps_keep_values l s tree c small h e =
    let fine = fine_command l s h tree c small e in
    (keeps_values l s tree c small h e, reads_terms s tree c h, own s h tree l c fine.0 fine.1)
