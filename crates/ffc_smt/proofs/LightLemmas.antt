-- A light command is not refused for its nodes.
use Rattle.std.proofs.Common.{◌≡◌, ℕ, sym, ◌+◌, ◌*◌, ◌≤◌, if◌then◌else◌, nat_lt, List, [], ◌∷◌, length, All, sum_by, ap, ◌∙◌, subst, arith}
use Rattle.std.proofs.lemmas.Bool.{le-ltb}
use Rattle.std.proofs.lemmas.List.Elements.{All-head, All-tail, All-weaker}
use Rattle.ffc_term.specs.declared.node.Node.{Node}
use Rattle.std.proofs.lemmas.List.Sums.{sum_by-cons}
use Rattle.ffc_term.specs.declared.node.Sort.{Sort}
use Rattle.ffc_term.specs.declared.node.Sort.TheVariants as sort
use Rattle.ffc_smt.specs.Trees.{Word, Tree, front}
use Rattle.ffc_smt.specs.Terms.{Term, Asked, Command, Declare, Define, Assert, CheckSatAssuming, GetValue, weight}
use Rattle.ffc_smt.specs.Making.{constant_node, made}
use Rattle.ffc_smt.specs.Bounds.{AreDefined}
use Rattle.ffc_smt.specs.Scopes.{State, scope_of}
use Rattle.ffc_smt.specs.Faults.{Sound, faulty, behind}
use Rattle.ffc_smt.specs.CommandReading.{Limits, form_read, nodes_after, asked_made, command_weight, within, command_read}
use Rattle.ffc_smt.specs.States.{IsSoundState}
use Rattle.ffc_smt.proofs.ReadLemmas.{IfSound}
use Rattle.ffc_smt.proofs.CommandLemmas.{form_sorted}
use Rattle.ffc_smt.proofs.Extends.{Extends, extends_same, extends_further, made_extends}
use Rattle.ffc_smt.proofs.Bounds.{interned_bound, made_bound, defined_stays}
use Rattle.ffc_smt.proofs.SoundTerms.{sound_defined}
use Rattle.ffc_smt.proofs.SoundReading.{term_sound, named_sound, sort_read_good}
use Rattle.ffc_smt.proofs.SoundStates.{IsSoundHere, Fine, scope_is_sound, negation_sound}
use Rattle.ffc_smt.specs.States.{IsSoundSort}

squares : (n m k w v : ℕ) → m ≤ n + w * w → k ≤ m + v * v → k ≤ n + (w + v) * (w + v)
squares n m k w v one two = omega arith

asked_bound : (asked : List Asked) (start ns : List Node) → Extends start ns → All (λ a. AreDefined start a.term) asked
    → length (asked_made ns asked) ≤ length ns + sum_by (λ a. weight a.term) asked * sum_by (λ a. weight a.term) asked
unfolding asked_made
asked_bound [] start ns further h = omega arith
asked_bound (a ∷ rest) start ns further h =
    let m = made [] ns a.term in
    let P = λ (b : Asked). AreDefined start b.term in
    let f = λ (b : Asked). weight b.term in
    let mid = extends_further start ns m.nodes further (made_extends a.term [] ns) in
    subst (λ k. length (asked_made m.nodes rest) ≤ length ns + k * k) (sym (sum_by-cons f a rest))
    (squares (length ns) (length m.nodes) (length (asked_made m.nodes rest)) (weight a.term) (sum_by f rest)
    (made_bound a.term [] ns (defined_stays a.term start ns further (All-head P a rest h))) (asked_bound rest start m.nodes mid (All-tail P a rest h)))

one_less : (a n w : ℕ) → a ≤ n + w → a ≤ n + w + 1
one_less a n w h = omega arith

module _ (s : State) (h : IsSoundState s) where
  defined_here : (t : Term) (u : Sort) → IsSoundHere s h [] t u → AreDefined s.nodes t
  defined_here t u g = sound_defined s.constants s.nodes t [] u g

  nodes_bound : (c : Command) → Fine s h c → length (nodes_after s c) ≤ length s.nodes + command_weight c * command_weight c + 1
  unfolding nodes_after command_weight
  nodes_bound (Declare name u) g = let one = interned_bound s.nodes (constant_node (length s.constants) u) in omega arith
  nodes_bound (Define name [] u t) g = one_less _ (length s.nodes) _ (made_bound t [] s.nodes (defined_here t u g))
  nodes_bound (Define name (p ∷ ps) u t) g = omega arith
  nodes_bound (Assert label t) g = one_less _ (length s.nodes) _ (made_bound t [] s.nodes (defined_here t sort.Bool g))
  nodes_bound (CheckSatAssuming asked) g =
      one_less _ (length s.nodes) _
      (asked_bound asked s.nodes s.nodes (extends_same s.nodes) (All-weaker (λ a. IsSoundHere s h [] a.term sort.Bool) (λ a. AreDefined s.nodes a.term) (λ a k. defined_here a.term sort.Bool k) asked g))
  nodes_bound (GetValue asked) g =
      one_less _ (length s.nodes) _
      (asked_bound asked s.nodes s.nodes (extends_same s.nodes) (All-weaker (λ a. (u : Sort) × IsSoundHere s h [] a.term u) (λ a. AreDefined s.nodes a.term) (λ a k. defined_here a.term k.0 k.1) asked g))
  nodes_bound _ g = omega arith

  form_fine : (l : Limits) (t : Tree) → IfSound (form_read l s t) (Fine s h)
  form_fine l t =
      let well = scope_is_sound s h in
      form_sorted l s (IsSoundHere s h) IsSoundSort (λ locals tree. term_sound s.constants s.nodes l.height (scope_of s) well tree locals)
      (λ tree. sort_read_good (scope_of s).sorts tree well.sorts) (λ w name. named_sound s.constants s.nodes l.height (scope_of s) well [] w name) (negation_sound s h) t

no_fault : (l : Limits) (s : State) (w : Word) (c : Command) → length (nodes_after s c) ≤ l.nodes → command_weight c ≤ l.weight → within l s w c ≡ Sound c
no_fault l s w c nodes heavy =
    ap (λ b. if b then faulty 15 w else (if nat_lt l.weight (command_weight c) then faulty 15 w else Sound c)) (le-ltb l.nodes (length (nodes_after s c)) nodes)
    ∙ ap (λ b. if b then faulty 15 w else Sound c) (le-ltb l.weight (command_weight c) heavy)

pub light_fits : (l : Limits) (s : State) (t : Tree) (c : Command) → IsSoundState s → form_read l s t ≡ Sound c → length s.nodes + command_weight c * command_weight c + 1 ≤ l.nodes → command_weight c ≤ l.weight
    → command_read l s t ≡ Sound c
unfolding command_read
light_fits l s t c h e room heavy =
    let fine = subst (λ r. IfSound r (Fine s h)) e (form_fine s h l t) in
    let bound = nodes_bound s h c fine in
    ap (λ r. behind r (within l s (front t))) e ∙ no_fault l s (front t) c (omega arith) heavy
