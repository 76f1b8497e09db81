-- Entries judged one by one beside the checks, and the judgement of the whole certificate.
use Rattle.std.proofs.Common.{◌≡◌, ◌⊎◌, inl, inr, ℕ, zero, suc, ◌+◌, ◌<◌, ◌≤◌, Bool, true, false, List, [], ◌∷◌, ◌++◌, length, take, drop, map, Some, None, Option, slice_get, refl, sym, ap, ◌∙◌, subst, arith, append-nil, append_assoc}
use Rattle.std.proofs.lemmas.List.{length-append, length-map, map-append, take-append-le, take-append-drop, take_more, take_all, drop_more, length-take-le, length_push}
use Rattle.std.proofs.lemmas.Option.{slice_get_within, get_or_from_slice_get}
use Rattle.ffc_cert.specs.declared.entries.CertFault.{CertFault}
use Rattle.ffc_cert.specs.declared.entries.Numbered.{Numbered}
use Rattle.ffc_cert.specs.Certificate.{Certificate}
use Rattle.ffc_cert.specs.Reading.{Reading, Complete, Open, Stopped, reading_of}
use Rattle.ffc_check.specs.Judged as shown
use Rattle.ffc_smt.specs.TableChecks.{TableCheck, declared_nodes, nodes_in_force, names_in_force, table_checks}
use Rattle.ffc_smt.specs.Trees.{Word}
use Rattle.ffc_elab.specs.Histories.{Known, known_of, check_now}
use Rattle.ffc_script.specs.Progress.{Progress, steps_of, known_at, steps_from}
use Rattle.ffc_rules.specs.Entries.{NodeCheck, Broken, limits, entry_fault_within}
use Rattle.ffc_rules.specs.Judging.{Judgement, Accepted, Refused, Rule, counted, counts_of, first_broken, refused_for, end_judgement, judgement_of, node_check}
use Rattle.ffc_verify.specs.declared.judge.Beside.{Beside}
use Rattle.ffc_verify.specs.declared.verdicts.Tally.{Tally}
use Rattle.ffc_verify.specs.Due.{cores_text}
use Rattle.ffc_verify.specs.Reading.{MovesOn, IsOpen, Grows}
use Rattle.ffc_verify.specs.Judged.{counts_in, entries_given, AreJudged, cores_after, TakesUp, IsTakenUp}
use Rattle.ffc_verify.specs.Walking.{GivesCheck}
use Rattle.ffc_verify.proofs.CertLemmas.{reading_front}
use Rattle.ffc_verify.proofs.BrokenLemmas.{broken_none, broken_more, broken_there, counts_more, cores_more}

-- arithmetic

one_less : (n m : ℕ) → m ≤ n → suc m ≤ suc n
one_less n m h = omega arith

grown_by : (n a r b : ℕ) → n ≤ a → b ≡ a + r → n ≤ b
grown_by n a r b h e = omega arith

inside_next : (d c a b : ℕ) → d ≡ c + 1 → c < a → b ≡ a → d ≤ b
inside_next d c a b e lt f = omega arith

all_next : (u s g d : ℕ) → u ≡ s + 1 → s ≡ g → d ≡ g + 1 → u ≡ d
all_next u s g d a b e = omega arith

abbrev pub E : Bool → ℕ → List ℕ → List Numbered
E bits wanted text = (reading_of bits wanted text).entries

pub no_entry : (es : List Numbered) (n : ℕ) → slice_get es n ≡ None → length es ≤ n
no_entry [] n e = omega arith
no_entry (x ∷ es) zero e = cc
no_entry (x ∷ es) (suc n) e = one_less n (length es) (no_entry es n e)

entry_at : (es : List Numbered) (n : ℕ) (e : Numbered) → slice_get es n ≡ Some e → take (n + 1) es ≡ take n es ++ e ∷ []
entry_at es n e h = take_more es n e (slice_get_within es n e h) ∙ ap (λ x. take n es ++ x ∷ []) (get_or_from_slice_get es n e e h)

split_at : (es : List Numbered) (n : ℕ) (e : Numbered) → slice_get es n ≡ Some e → es ≡ take n es ++ e ∷ drop (n + 1) es
split_at es n e h =
    sym (take-append-drop n es) ∙ ap (λ rest. take n es ++ rest) (drop_more es n e (slice_get_within es n e h))
    ∙ ap (λ x. take n es ++ x ∷ drop (n + 1) es) (get_or_from_slice_get es n e e h)

abbrev By : Option Judgement → Judgement → Judgement
By o later = elim o as (λ _. Judgement) [ Some refused ↦ refused | None ↦ later ]

by_some : (o : Option Judgement) (later j : Judgement) → o ≡ Some j → By o later ≡ j
by_some o later j e = ap (λ x. By x later) e

judged_broken : (checks : List NodeCheck) (r : Reading) (j : Judgement) → first_broken limits checks r.entries ≡ Some j → judgement_of limits checks r ≡ j
unfolding judgement_of
judged_broken checks r j e = by_some (first_broken limits checks r.entries) (end_judgement r.entries r.end) j e

by_none : (o : Option Judgement) (later : Judgement) → o ≡ None → By o later ≡ later
by_none o later e = ap (λ x. By x later) e

judged_end : (checks : List NodeCheck) (r : Reading) → first_broken limits checks r.entries ≡ None → judgement_of limits checks r ≡ end_judgement r.entries r.end
unfolding judgement_of
judged_end checks r e = by_none (first_broken limits checks r.entries) (end_judgement r.entries r.end) e

-- Of a text that went on, where the entries of the first checks break no rule.

module _ (v : Bool) (w : ℕ) (cs : List NodeCheck) (old new more : List ℕ) (grows : new ≡ old ++ more) (n : ℕ) (within : n ≤ length (E v w old)) where
  pub first_stay : take n (E v w new) ≡ take n (E v w old)
  first_stay =
      let front = reading_front v w old more in
      ap (λ t. take n (E v w t)) grows ∙ ap (take n) front.entries ∙ take-append-le n (E v w old) front.rest within

  pub given_more : (e : Numbered) → slice_get (E v w new) n ≡ Some e → take (n + 1) (E v w new) ≡ take n (E v w old) ++ e ∷ []
  given_more e at = entry_at (E v w new) n e at ∙ ap (λ xs. xs ++ e ∷ []) first_stay

  pub within_stays : n ≤ length (E v w new)
  within_stays =
      let front = reading_front v w old more in
      let same : length (E v w new) ≡ length (E v w old ++ front.rest) = ap (λ t. length (E v w t)) grows ∙ ap length front.entries in
      grown_by n (length (E v w old)) (length front.rest) (length (E v w new)) within (same ∙ length-append (E v w old) front.rest)

  module _ (long : length cs ≡ n) (kept : first_broken limits cs (take n (E v w old)) ≡ None) where
    as_long : length cs ≡ length (take n (E v w old))
    as_long = long ∙ sym (length-take-le n (E v w old) within)

    pub rule_refused : (W rest : List ℕ) → W ≡ new ++ rest → (c : NodeCheck) (ds : List NodeCheck) (e : Numbered) (b : Broken) → slice_get (E v w new) n ≡ Some e
        → entry_fault_within limits c e.entry e.first_line ≡ Some b → judgement_of limits (cs ++ c ∷ ds) (reading_of v w W) ≡ Refused e.number b.line (Rule b.rule)
    rule_refused W rest whole c ds e b at is =
        let front = reading_front v w new rest in
        let fs = drop (n + 1) (E v w new) ++ front.rest in
        let all : E v w W ≡ take n (E v w old) ++ e ∷ fs =
        ap (E v w) whole ∙ front.entries ∙ ap (λ es. es ++ front.rest) (split_at (E v w new) n e at) ∙ append_assoc (take n (E v w new)) (e ∷ drop (n + 1) (E v w new)) front.rest ∙ ap (λ es. es ++ e ∷ fs) first_stay in
        judged_broken (cs ++ c ∷ ds) (reading_of v w W) (Refused e.number b.line (Rule b.rule))
        (ap (first_broken limits (cs ++ c ∷ ds)) all ∙ broken_there limits cs c ds (take n (E v w old)) e fs b as_long kept is)

    module _ (none : slice_get (E v w new) n ≡ None) where
      all_here : E v w new ≡ take n (E v w old)
      all_here = sym (take_all n (E v w new) (no_entry (E v w new) n none)) ∙ first_stay

      pub none_broken : (ds : List NodeCheck) → first_broken limits (cs ++ ds) (E v w new) ≡ None
      none_broken ds = ap (first_broken limits (cs ++ ds)) all_here ∙ broken_none limits cs ds (take n (E v w old)) as_long kept

      pub form_refused : (W : List ℕ) (ds : List NodeCheck) (f : CertFault) → reading_of v w W ≡ reading_of v w new → ((reading_of v w new).end ≡ Stopped f) ⊎ ((reading_of v w new).end ≡ Open f)
          → judgement_of limits (cs ++ ds) (reading_of v w W) ≡ refused_for f
      form_refused W ds f same end =
          ap (judgement_of limits (cs ++ ds)) same ∙ judged_end (cs ++ ds) (reading_of v w new) (none_broken ds)
          ∙ (elim end [ inl h ↦ ap (end_judgement (E v w new)) h | inr h ↦ ap (end_judgement (E v w new)) h ])

      pub accepted_here : (W : List ℕ) → (reading_of v w new).end ≡ Complete → W ≡ new → (judgement_of limits cs (reading_of v w W) ≡ Accepted (counts_of (take n (E v w old)))) × (E v w W ≡ take n (E v w old))
      accepted_here W end whole =
          let none_left : first_broken limits cs (E v w new) ≡ None = ap (λ xs. first_broken limits xs (E v w new)) (sym (append-nil cs)) ∙ none_broken [] in (
            ap (λ t. judgement_of limits cs (reading_of v w t)) whole ∙ judged_end cs (reading_of v w new) none_left ∙ ap (end_judgement (E v w new)) end ∙ ap (λ es. Accepted (counts_of es)) all_here,
            ap (E v w) whole ∙ all_here,
          )

-- What is known between two checks

pub record IsUnderway (script : List ℕ) (checks : ℕ) (bits cores : Bool) (left : Option (List ℕ)) (p : Progress) (c : Certificate) (now : Option (List ℕ)) (t : Tally) : Type 0 where
  pub text : p.text ≡ script
  pub over : p.over ≡ false
  pub wanted : c.wanted ≡ checks
  pub version : c.bits ≡ bits
  pub judged : AreJudged cores (table_checks (steps_of p)) c t
  pub moves : MovesOn [] left c.text now

nothing_le : (n : ℕ) → 0 ≤ n
nothing_le n = omega arith

no_cores : (cores : Bool) → [] ≡ cores_text cores [] []
no_cores true = refl
no_cores false = refl

pub underway_first : (script : List ℕ) (checks : ℕ) (bits cores : Bool) (left : Option (List ℕ)) (p : Progress) (c : Certificate) (t : Tally) → p ≡ record { text = script; forms = []; over = false }
    → c ≡ record { bits = bits; wanted = checks; text = []; given = 0; fault = None; finished = false } → counts_in t ≡ record { sat = 0; unsat = 0; unknown = 0 } → t.sat + t.unsat + t.unknown ≡ 0 → t.cores.items ≡ []
    → IsUnderway script checks bits cores left p c left t
unfolding steps_from first_broken
underway_first script checks bits cores left p c t ep ec counts all lines =
    subst (λ p. IsUnderway script checks bits cores left p c left t) (sym ep)
    (subst (λ c. IsUnderway script checks bits cores left (record { text = script; forms = []; over = false }) c left t) (sym ec) (record {
      text = refl;
      over = refl;
      wanted = refl;
      version = refl;
      judged = record { ready = record { fault = refl; unfinished = refl }; count = refl; within = nothing_le (length (E bits checks [])); kept = refl; all = all; counts = sym counts; lines = lines ∙ no_cores cores };
      moves = λ rest e. (rest, e, refl);
    }))

cores_then : (cores : Bool) (cs : List TableCheck) (c : TableCheck) (es : List Numbered) (e : Numbered) → length cs ≡ length es
    → cores_text cores (cs ++ c ∷ []) (es ++ e ∷ []) ≡ cores_text cores cs es ++ cores_after cores (names_in_force c) (length (nodes_in_force c)) e
cores_then false cs c es e long = refl
cores_then true cs c es e long = cores_more cs c es e long

-- the check of a reader, as its entry is judged by it
pub record IsShown (b : Beside) (cores : Bool) (c : TableCheck) : Type 0 where
  pub nodes : shown.judged_check b.check ≡ node_check c
  pub names : b.names.now ≡ names_in_force c
  pub cores_is : b.cores ≡ cores

pub shown_is : (b : Beside) (q : Progress) (forms : List (List Word)) → b.check.table.now ≡ (check_now (known_at q)).nodes → b.check.declared.now ≡ declared_nodes (check_now (known_at q)) → b.check.in_force.now ≡ nodes_in_force (check_now (known_at q))
    → b.check.first_order ≡ (check_now (known_at q)).check.first_order → known_of forms ≡ known_at q → b.names.now ≡ names_in_force (check_now (known_of forms)) → IsShown b b.cores (check_now (known_at q))
shown_is b q forms table declared in_force order same names = record {
  nodes =
      ap (λ x. record { nodes = x; declared = b.check.declared.now; in_force = b.check.in_force.now; first_order = b.check.first_order }) table
      ∙ ap (λ x. record { nodes = (check_now (known_at q)).nodes; declared = x; in_force = b.check.in_force.now; first_order = b.check.first_order }) declared
      ∙ ap (λ x. record { nodes = (check_now (known_at q)).nodes; declared = declared_nodes (check_now (known_at q)); in_force = x; first_order = b.check.first_order }) in_force
      ∙ ap (λ x. record { nodes = (check_now (known_at q)).nodes; declared = declared_nodes (check_now (known_at q)); in_force = nodes_in_force (check_now (known_at q)); first_order = x }) order;
  names = names ∙ ap (λ (k : Known). names_in_force (check_now k)) same;
  cores_is = refl;
}

-- one more check and entry
module _ (cores : Bool) (P : List TableCheck) (here : TableCheck) (es : List Numbered) (e : Numbered) (t u : Tally) (b : Beside) (s : IsShown b cores here) (long : length P ≡ length es) (k : TakesUp b e t u) where
  kept_more : first_broken limits (map node_check P) es ≡ None → first_broken limits (map node_check (P ++ here ∷ [])) (es ++ e ∷ []) ≡ None
  kept_more kept =
      subst (λ xs. first_broken limits xs (es ++ e ∷ []) ≡ None) (sym (map-append node_check P (here ∷ [])))
      (broken_more limits (map node_check P) (node_check here) es e (length-map P node_check ∙ long) kept
      (subst (λ x. entry_fault_within limits x e.entry e.first_line ≡ None) s.nodes k.kept))

  counts_then : counts_of es ≡ counts_in t → counts_of (es ++ e ∷ []) ≡ counts_in u
  counts_then counts = counts_more es e ∙ ap (counted e.entry) counts ∙ sym k.counts

  after_is : cores_after b.cores b.names.now (length b.check.in_force.now) e ≡ cores_after cores (names_in_force here) (length (nodes_in_force here)) e
  after_is =
      ap (λ x. cores_after x b.names.now (length b.check.in_force.now) e) s.cores_is ∙ ap (λ x. cores_after cores x (length b.check.in_force.now) e) s.names
      ∙ ap (λ (x : NodeCheck). cores_after cores (names_in_force here) (length x.in_force) e) s.nodes

  lines_then : t.cores.items ≡ cores_text cores P es → u.cores.items ≡ cores_text cores (P ++ here ∷ []) (es ++ e ∷ [])
  lines_then lines =
      k.lines ∙ ap (λ xs. xs ++ cores_after b.cores b.names.now (length b.check.in_force.now) e) lines ∙ ap (λ xs. cores_text cores P es ++ xs) after_is
      ∙ sym (cores_then cores P here es e long)

module _ (script : List ℕ) (checks : ℕ) (bits cores : Bool) (left : Option (List ℕ)) (p : Progress) (c : Certificate) (now : Option (List ℕ)) (t : Tally) (h : IsUnderway script checks bits cores left p c now t)
    (q : Progress) (g : GivesCheck p q) (d : Certificate) (grows : Grows c d) (later : Option (List ℕ)) (moves : MovesOn c.text now d.text later)
    (b : Beside) (s : IsShown b cores (check_now (known_at q))) (u : Tally) (k : IsTakenUp b c d t u) where
  abbrev P : List TableCheck
  P = table_checks (steps_of p)

  abbrev here : TableCheck
  here = check_now (known_at q)

  abbrev es : List Numbered
  es = entries_given c

  given : d.given ≡ c.given + 1
  given = ap (λ (x : Certificate). x.given) k.given

  wanted : d.wanted ≡ c.wanted
  wanted = ap (λ (x : Certificate). x.wanted) k.given

  version : d.bits ≡ c.bits
  version = ap (λ (x : Certificate). x.bits) k.given

  entries : entries_given d ≡ es ++ k.entry ∷ []
  entries =
      ap (λ m. take m (E d.bits d.wanted d.text)) given ∙ ap (λ w. take (c.given + 1) (E d.bits w d.text)) wanted ∙ ap (λ v. take (c.given + 1) (E v c.wanted d.text)) version
      ∙ given_more c.bits c.wanted [] c.text d.text grows.0 grows.1 c.given h.judged.within k.entry k.due

  given_long : length P ≡ length es
  given_long = sym h.judged.count ∙ sym (length-take-le c.given (E c.bits c.wanted c.text) h.judged.within)

  within : d.given ≤ length (E d.bits d.wanted d.text)
  within =
      inside_next d.given c.given (length (E c.bits c.wanted d.text)) (length (E d.bits d.wanted d.text)) given (slice_get_within (E c.bits c.wanted d.text) c.given k.entry k.due)
      (ap (λ w. length (E d.bits w d.text)) wanted ∙ ap (λ v. length (E v c.wanted d.text)) version)

  kept : first_broken limits (map node_check (table_checks (steps_of q))) (entries_given d) ≡ None
  kept =
      subst (λ xs. first_broken limits (map node_check xs) (entries_given d) ≡ None) (sym g.checks)
      (subst (λ ys. first_broken limits (map node_check (P ++ here ∷ [])) ys ≡ None) (sym entries) (kept_more cores P here es k.entry t u b s given_long k.takes h.judged.kept))

  counts : counts_of (entries_given d) ≡ counts_in u
  counts = subst (λ ys. counts_of ys ≡ counts_in u) (sym entries) (counts_then cores P here es k.entry t u b s given_long k.takes h.judged.counts)

  lines : u.cores.items ≡ cores_text cores (table_checks (steps_of q)) (entries_given d)
  lines =
      subst (λ xs. u.cores.items ≡ cores_text cores xs (entries_given d)) (sym g.checks)
      (subst (λ ys. u.cores.items ≡ cores_text cores (P ++ here ∷ []) ys) (sym entries) (lines_then cores P here es k.entry t u b s given_long k.takes h.judged.lines))

  judged : AreJudged cores (table_checks (steps_of q)) d u
  judged = record {
    ready = subst IsOpen (sym k.given) (record { fault = h.judged.ready.fault; unfinished = h.judged.ready.unfinished });
    count = given ∙ ap (λ m. m + 1) h.judged.count ∙ sym (length_push P here) ∙ sym (ap length g.checks);
    within = within;
    kept = kept;
    all = all_next (u.sat + u.unsat + u.unknown) (t.sat + t.unsat + t.unknown) c.given d.given k.takes.all h.judged.all given;
    counts = counts;
    lines = lines;
  }

  pub underway_more : IsUnderway script checks bits cores left q d later u
  underway_more = record {
    text = g.text ∙ h.text;
    over = g.over;
    wanted = wanted ∙ h.wanted;
    version = version ∙ h.version;
    judged = judged;
    moves = λ rest e. let one = h.moves rest e in let two = moves one.0 one.1 in (two.0, two.1, one.2 ∙ two.2);
  }
