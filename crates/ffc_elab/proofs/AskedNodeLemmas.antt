-- The nodes of terms that are asked for, term by term.
use Rattle.std.proofs.Common.{◌≡◌, ℕ, suc, ◌+◌, ◌<◌, ◌≤◌, List, [], ◌∷◌, ◌++◌, All, length, map, drop, refl, sym, ap, ◌∙◌, subst, arith, append_assoc, append-nil, length-append}
use Rattle.std.proofs.lemmas.List.{map-append}
use Rattle.std.proofs.lemmas.List.Elements.{All-head, All-tail, All-contains, Contains-append_right}
use Rattle.ffc_term.specs.declared.node.Node.{Node}
use Rattle.ffc_term.specs.declared.node.Sort.{Sort}
use Rattle.ffc_term.specs.declared.table.TermStop.{TermStop}
use Rattle.ffc_term.specs.Tables.{most_nodes}
use Rattle.ffc_smt.specs.Trees.{Word}
use Rattle.ffc_smt.specs.Terms as smt
use Rattle.ffc_smt.specs.Making.{made}
use Rattle.ffc_smt.specs.Bounds.{IsMade}
use Rattle.ffc_smt.specs.CommandReading.{limits, asked_made}
use Rattle.ffc_smt.specs.Scopes.{State}
use Rattle.ffc_smt.specs.States.{IsTableWith}
use Rattle.ffc_smt.specs.TableChecks.{node_of}
use Rattle.ffc_smt.specs.WellSorted.{IsSoundTerm}
use Rattle.ffc_smt.proofs.Again.{made_anew}
use Rattle.ffc_smt.proofs.Extends.{Extends, extends_same, longer}
use Rattle.ffc_smt.proofs.SoundStates.{asked_extends, asked_good}
use Rattle.ffc_smt.proofs.SoundTerms.{sound_stays}
use Rattle.ffc_parts.specs.Growing.{Grows, IsLeft}
use Rattle.ffc_terms.specs.declared.scope.Symbols.{Symbols}
use Rattle.ffc_making.specs.Machine.{IsCodeOf}
use Rattle.ffc_elab.specs.declared.answers.Asked.{Asked}
use Rattle.ffc_elab.specs.declared.asked_terms.AskedTerm.{AskedTerm}
use Rattle.ffc_elab.specs.Answers.{asked_as}
use Rattle.ffc_elab.specs.Asked.{IsReadAs}
use Rattle.ffc_elab.specs.AskedLists.{AreReadAs}
use Rattle.ffc_elab.specs.AskedNodes.{IsNextMade, IsMadeAfter, AreToMake, AreMade, AreNotMade}
use Rattle.ffc_elab.proofs.GrowthLemmas.{node_stays, code_stays}

-- One term

pub code_of_next : (words : List Word) (table : List Node) (symbols : Symbols) (a : smt.Asked) (t : AskedTerm) → IsNextMade words table symbols a t → IsCodeOf table symbols.terms a.term 16777216 t.code.items
code_of_next words table symbols a t h = record { constants = h.constants; count = h.count; sort = h.sort; table = h.nodes; sound = h.sound; is = h.read.code; light = h.light }

-- the node of a term that was made last
pub node_is : (old new : List Node) (t : smt.Term) (id : ℕ) → made [] old t ≡ record { nodes = new; id = id } → node_of new t ≡ id
node_is old new t id e =
    ap (λ m. m.id) (made_anew t [] old new tt (subst (λ ns. Extends ns new) (sym (ap (λ m. m.nodes) e)) (extends_same new))) ∙ ap (λ m. m.id) e

-- Some of the terms

append_made : (done : List smt.Asked) (a : smt.Asked) (ns : List Node) → asked_made ns (done ++ a ∷ []) ≡ (made [] (asked_made ns done) a.term).nodes
unfolding asked_made
append_made [] a ns = refl
append_made (b ∷ rest) a ns = append_made rest a (made [] ns b.term).nodes

two_made : (done more : List smt.Asked) (ns : List Node) → asked_made ns (done ++ more) ≡ asked_made (asked_made ns done) more
unfolding asked_made
two_made [] more ns = refl
two_made (b ∷ rest) more ns = two_made rest more (made [] ns b.term).nodes

-- the first terms were made, and these are left
pub record IsMakingSoFar (words : List Word) (old now : List Node) (symbols : Symbols) (asked : List smt.Asked) (left : List AskedTerm) (out : List Asked) : Type 0 where
  pub done : List smt.Asked
  pub others : List smt.Asked
  pub whole : asked ≡ done ++ others
  pub read : AreReadAs old symbols words others left
  pub nodes : now ≡ asked_made old done
  pub listed : out ≡ map (asked_as now) done
  pub grows : Grows old now

module _ (words : List Word) (old : List Node) (symbols : Symbols) (asked : List smt.Asked) (terms : List AskedTerm) (h : AreToMake words old symbols asked terms) where
  abbrev s : State
  s = h.state

  abbrev SoFar : List Node → List AskedTerm → List Asked → Type 0
  SoFar now left out = IsMakingSoFar words old now symbols asked left out

  abbrev IsSound : smt.Asked → Type 0
  IsSound a = (u : Sort) × IsSoundTerm s.constants s.nodes [] a.term u

  abbrev IsLight : smt.Asked → Type 0
  IsLight a = smt.weight a.term ≤ limits.weight

  pub making_starts : SoFar old terms []
  unfolding asked_made
  making_starts = record {
    done = [];
    others = asked;
    whole = refl;
    read = h.read;
    nodes = refl;
    listed = refl;
    grows = record { more = []; put = sym (append-nil old); table = subst (λ ns. Rattle.ffc_term.specs.Tables.IsTable ns) (sym h.nodes) h.good.nodes.table };
  }

  front_all : (P : smt.Asked → Type 0) (xs ys : List smt.Asked) → All P (xs ++ ys) → All P xs
  front_all P [] ys g = Rattle.std.proofs.lemmas.List.Elements.All-nil P
  front_all P (x ∷ xs) ys g = Rattle.std.proofs.lemmas.List.Elements.All-cons P x xs (All-head P x (xs ++ ys) g) (front_all P xs ys (All-tail P x (xs ++ ys) g))

  back_all : (P : smt.Asked → Type 0) (xs ys : List smt.Asked) → All P (xs ++ ys) → All P ys
  back_all P [] ys g = g
  back_all P (x ∷ xs) ys g = back_all P xs ys (All-tail P x (xs ++ ys) g)

  module _ (now : List Node) (left : List AskedTerm) (out : List Asked) (g : SoFar now left out) where
    further : Extends old now
    further = (g.grows.more, g.grows.put)

    from_state : now ≡ asked_made s.nodes g.done
    from_state = g.nodes ∙ ap (λ ns. asked_made ns g.done) h.nodes

    made_so_far : IsTableWith s.constants (length s.constants) now × All (λ a. IsMade now a.term) g.done
    made_so_far =
        let good = asked_good s h.good g.done s.nodes (front_all IsSound g.done g.others (subst (All IsSound) g.whole h.sound)) h.good.nodes
        (subst (λ ns. length ns ≤ most_nodes) from_state g.grows.table.well_formed.within) in
        (subst (IsTableWith s.constants (length s.constants)) (sym from_state) good.0, subst (λ ns. All (λ a. IsMade ns a.term) g.done) (sym from_state) good.1)

    module _ (term : AskedTerm) (later : List AskedTerm) (split : left ≡ term ∷ later) where
      first_left : (v : List smt.Asked) → AreReadAs old symbols words v (term ∷ later) → (a : smt.Asked) × (rest : List smt.Asked) × (v ≡ a ∷ rest) × IsReadAs old symbols words a term × AreReadAs old symbols words rest later
      first_left [] r = absurd r
      first_left (a ∷ rest) r = (a, rest, refl, r.0, r.1)

      pub found : (a : smt.Asked) × (rest : List smt.Asked) × (g.others ≡ a ∷ rest) × IsReadAs old symbols words a term × AreReadAs old symbols words rest later
      found = first_left g.others (subst (AreReadAs old symbols words g.others) split g.read)

      abbrev pub a : smt.Asked
      a = found.0

      abbrev rest : List smt.Asked
      rest = found.1

      split_so : asked ≡ g.done ++ a ∷ rest
      split_so = g.whole ∙ ap (λ v. g.done ++ v) found.2

      read_now : IsReadAs now symbols words a term
      read_now = record {
        code = code_stays a.term old now symbols.terms [] term.code.items further found.3.code;
        weight_is = found.3.weight_is;
        rest = found.3.rest;
        written = found.3.written;
        next = found.3.next;
      }

      pub next_now : IsNextMade words now symbols a term
      next_now =
          let one = All-head IsSound a rest (back_all IsSound g.done (a ∷ rest) (subst (All IsSound) split_so h.sound)) in
          record {
            constants = s.constants;
            count = length s.constants;
            sort = one.0;
            nodes = made_so_far.0;
            sound = subst (λ cs. IsSoundTerm cs now [] a.term one.0) (append-nil s.constants) (sound_stays s.constants [] s.nodes now (subst (λ ns. Extends ns now) h.nodes further) a.term [] one.0 one.1);
            light = All-head IsLight a rest (back_all IsLight g.done (a ∷ rest) (subst (All IsLight) split_so h.light));
            read = read_now;
          }

      entries_stay : (new : List Node) → Extends now new → (xs : List smt.Asked) → All (λ b. IsMade now b.term) xs → map (asked_as now) xs ≡ map (asked_as new) xs
      entries_stay new more [] all = refl
      entries_stay new more (x ∷ xs) all =
          let P : smt.Asked → Type 0 = λ b. IsMade now b.term in
          ap (λ n. record { node = n; text = Rattle.ffc_smt.specs.Answering.asked_text x } ∷ map (asked_as now) xs) (sym (node_stays now new x.term more (All-head P x xs all)))
          ∙ ap (λ v. asked_as new x ∷ v) (entries_stay new more xs (All-tail P x xs all))

      pub making_goes_on : (new : List Node) (after : List Asked) → IsMadeAfter now new out after a → SoFar new later after
      making_goes_on new after m = record {
        done = g.done ++ a ∷ [];
        others = rest;
        whole = split_so ∙ sym (append_assoc g.done (a ∷ []) rest);
        read = found.4;
        nodes = sym m.nodes ∙ ap (λ ns. (made [] ns a.term).nodes) g.nodes ∙ sym (append_made g.done a old);
        listed = m.put ∙ ap (λ v. v ++ asked_as new a ∷ []) (g.listed ∙ entries_stay new (m.grows.more, m.grows.put) g.done made_so_far.1) ∙ sym (map-append (asked_as new) g.done (a ∷ []));
        grows = record {
          more = g.grows.more ++ m.grows.more;
          put = m.grows.put ∙ ap (λ ns. ns ++ m.grows.more) g.grows.put ∙ append_assoc old g.grows.more m.grows.more;
          table = m.grows.table;
        };
      }

      pub making_stops : (new : List Node) (cause : TermStop) → IsLeft now new (made [] now a.term) cause → AreNotMade old new asked cause
      unfolding asked_made
      making_stops new cause m = record {
        full = λ e.
            let all : asked_made old asked ≡ asked_made (made [] now a.term).nodes rest =
            ap (asked_made old) split_so ∙ two_made g.done (a ∷ rest) old ∙ ap (λ ns. asked_made (made [] ns a.term).nodes rest) (sym g.nodes) in
            let long = longer (made [] now a.term).nodes (asked_made (made [] now a.term).nodes rest) (asked_extends rest (made [] now a.term).nodes) in
            omega (arith, m.full e, long, ap length all);
        grows = record {
          more = g.grows.more ++ m.grows.more;
          put = m.grows.put ∙ ap (λ ns. ns ++ m.grows.more) g.grows.put ∙ append_assoc old g.grows.more m.grows.more;
          table = m.grows.table;
        };
      }

    pub making_ends : left ≡ [] → AreMade old now asked out
    making_ends none = by_others g.others refl
      where
        by_others : (v : List smt.Asked) → g.others ≡ v → AreMade old now asked out
        by_others [] e =
            let all : asked ≡ g.done = g.whole ∙ ap (λ v. g.done ++ v) e ∙ append-nil g.done in
            record { nodes = g.nodes ∙ ap (asked_made old) (sym all); listed = g.listed ∙ ap (map (asked_as now)) (sym all); grows = g.grows }
        by_others (x ∷ xs) e = absurd (subst (AreReadAs old symbols words (x ∷ xs)) none (subst (λ v. AreReadAs old symbols words v left) e g.read))

-- the item at a place of a list, and those after it
pub drop_here : (xs : List AskedTerm) (i : ℕ) (x : AskedTerm) → i < length xs → x ≡ Rattle.std.proofs.Common.get_or xs i x → drop i xs ≡ x ∷ drop (i + 1) xs
drop_here xs i x inside e =
    let next : suc i ≡ i + 1 = omega arith in
    Rattle.std.proofs.Common.drop-cons xs i x inside ∙ ap (λ v. v ∷ drop (suc i) xs) (sym e) ∙ ap (λ n. x ∷ drop n xs) next
