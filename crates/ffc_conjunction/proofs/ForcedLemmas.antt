-- One more node that is asserted or denied.
use Rattle.std.proofs.Common.{inl, inr, ◌⊎◌, ◌≡◌, ℕ, ◌+◌, ◌<◌, ◌==◌, Bool, true, false, not, cond, ◌||◌, List, [], ◌∷◌, ◌++◌, length, set, replicate, count_by, slice_index_or, Some, Result, Ok, Err, OnOk, refl, sym, ap, ◌∙◌, subst, arith, length-set, get_or-set_same, get_or-set_other}
use Rattle.std.proofs.lemmas.Bool.{false≢true, true≢false, cases_eq, cases_lt, eq-eqb, ne_eqb}
use Rattle.std.proofs.lemmas.List.{length_push, get_or_read, length-replicate, get_or_past, get_or-replicate}
use Rattle.std.proofs.lemmas.List.Sums.{sum_by-set}
use Rattle.ffc_clause.specs.Clauses.{Literal, Clause, plus, minus, negated, is_among}
use Rattle.ffc_clause.specs.Hints.{open_literals, only_literal}
use Rattle.ffc_refutation.specs.declared.reason.Reason.{Reason}
use Rattle.ffc_refutation.specs.Forcing.{reason_clause, Forces}
use Rattle.ffc_refutation.specs.Forcing.Forces.{nothing, next}
use Rattle.ffc_rules.specs.Cones.{is_listed}
use Rattle.ffc_rules.specs.Entries.{NodeCheck}
use Rattle.ffc_conjunction.specs.declared.forcing.Mark.{Mark}
use Rattle.ffc_conjunction.specs.declared.forcing.Mark.TheVariants.{Unmarked, Asserted, Denied}
use Rattle.ffc_conjunction.specs.Forced.{is_asserted, is_denied, is_marked, mark_at, Gives, IsForced}
use Rattle.ffc_conjunction.proofs.ListedLemmas.{is_listed-again}

-- one more reason, at the end
Forces-push : {c : NodeCheck} {start forced : List Literal} {reasons : List Reason} → Forces c start reasons forced → (x : Reason) (clause : Clause) (l : Literal) → reason_clause c x ≡ Some clause → only_literal (open_literals forced clause) ≡ Some l
    → Forces c start (reasons ++ x ∷ []) (l ∷ forced)
Forces-push nothing x clause l given one = next x clause l given one nothing
Forces-push (next y d m e f more) x clause l given one = next y d m e f (Forces-push more x clause l given one)

-- the literal is open where its negation is not forced, and no other is
open_is : (found : List ℕ) (forced : List Literal) → ((id : ℕ) → is_among forced (plus id) ≡ is_listed found id) → (l : Literal) (clause : Clause)
    → (clause ≡ l ∷ []) ⊎ ((v : ℕ) × (is_listed found v ≡ true) × (clause ≡ minus v ∷ l ∷ [])) → open_literals forced clause ≡ cond (not (is_among forced (negated l))) (l ∷ []) []
open_is found forced are l clause (inl e) = ap (open_literals forced) e
open_is found forced are l clause (inr (v, on, e)) =
    let rest : List Literal = cond (not (is_among forced (negated l))) (l ∷ []) [] in
    ap (open_literals forced) e ∙ ap (λ b. cond (not b) (minus v ∷ rest) rest) (are v ∙ on)

or_is : (b x : Bool) → cond b true x ≡ (b || x)
or_is true x = refl
or_is false x = refl

unmarked_at : (n j : ℕ) → mark_at (replicate n Unmarked) j ≡ Unmarked
unmarked_at n j =
    elim (cases_lt j n) as (λ _. mark_at (replicate n Unmarked) j ≡ Unmarked) [
      | inl inside ↦ get_or-replicate n j Unmarked Unmarked inside
      | inr past ↦ get_or_past (replicate n Unmarked) j Unmarked (omega (arith, length-replicate n Unmarked))
    ]

-- nothing is forced
pub IsForced-start : (c : NodeCheck) (n : ℕ) → length c.nodes ≡ n → IsForced c [] [] (replicate n Unmarked) [] false
IsForced-start c n long = record {
  long = length-replicate n Unmarked ∙ sym long;
  asserted = λ id. ap is_asserted (unmarked_at n id);
  few = omega arith;
  clash = λ e. absurd (false≢true e);
  free = λ _. record {
    marked = λ id. ap is_denied (unmarked_at n id);
    forced = [];
    forces = nothing;
    found_are = λ id. refl;
    denied_are = λ id. refl;
  };
}

-- lists of the same numbers
pub IsForced-same : (c : NodeCheck) (found more denied others : List ℕ) (marks : List Mark) (reasons : List Reason) (clashes : Bool)
    → ((j : ℕ) → is_listed found j ≡ is_listed more j) → ((j : ℕ) → is_listed denied j ≡ is_listed others j) → IsForced c found denied marks reasons clashes → IsForced c more others marks reasons clashes
IsForced-same c found more denied others marks reasons clashes one two s = record {
  long = s.long;
  asserted = λ j. s.asserted j ∙ one j;
  few = s.few;
  clash = s.clash;
  free = λ e.
      let r = s.free e in
      record {
        marked = λ j. r.marked j ∙ two j;
        forced = r.forced;
        forces = r.forces;
        found_are = λ j. r.found_are j ∙ one j;
        denied_are = λ j. r.denied_are j ∙ two j;
      };
}

module _ (marks : List Mark) (id : ℕ) (m : Mark) (inside : id < length marks) where
  -- what a test says of the marks after a mark was set
  test_set : (test : Mark → Bool) (j : ℕ) → test (mark_at (set marks id m) j) ≡ cond (j == id) (test m) (test (mark_at marks j))
  test_set test j =
      elim (cases_eq j id) as (λ _. test (mark_at (set marks id m) j) ≡ cond (j == id) (test m) (test (mark_at marks j))) [
        | inl same ↦
            ap (λ i. test (mark_at (set marks id m) i)) same ∙ ap test (get_or-set_same marks id m Unmarked inside)
            ∙ sym (ap (λ b. cond b (test m) (test (mark_at marks j))) (eq-eqb j id same))
        | inr other ↦
            ap test (get_or-set_other marks id j m Unmarked other) ∙ sym (ap (λ b. cond b (test m) (test (mark_at marks j))) (ne_eqb j id other))
      ]

  test_kept : (test : Mark → Bool) → test (mark_at marks id) ≡ test m → (j : ℕ) → test (mark_at (set marks id m) j) ≡ test (mark_at marks j)
  test_kept test same j =
      elim (cases_eq j id) as (λ _. test (mark_at (set marks id m) j) ≡ test (mark_at marks j)) [
        | inl here ↦
            ap (λ i. test (mark_at (set marks id m) i)) here ∙ ap test (get_or-set_same marks id m Unmarked inside)
            ∙ sym same ∙ sym (ap (λ i. test (mark_at marks i)) here)
        | inr other ↦ ap test (get_or-set_other marks id j m Unmarked other)
      ]

  -- a test that the mark passes says of one more number that it is listed
  test_more : (test : Mark → Bool) (found : List ℕ) → test m ≡ true → ((j : ℕ) → test (mark_at marks j) ≡ is_listed found j) → (j : ℕ) → test (mark_at (set marks id m) j) ≡ is_listed (id ∷ found) j
  test_more test found on are j =
      test_set test j ∙ ap (λ b. cond (j == id) b (test (mark_at marks j))) on ∙ ap (cond (j == id) true) (are j)
      ∙ or_is (j == id) (is_listed found j)

  count_set : (old : Mark) → mark_at marks id ≡ old → count_by is_marked (set marks id m) + cond (is_marked old) 1 0 ≡ count_by is_marked marks + cond (is_marked m) 1 0
  count_set old is =
      ap (λ x. count_by is_marked (set marks id m) + cond (is_marked x) 1 0) (sym is)
      ∙ sum_by-set (λ x. cond (is_marked x) 1 0) marks id m Unmarked inside

module _ (c : NodeCheck) (found denied : List ℕ) (marks : List Mark) (reasons : List Reason) (id : ℕ) (x : Reason) where
  -- a node that was asserted
  pub assert_asserted : (clashes : Bool) → mark_at marks id ≡ Asserted → IsForced c found denied marks reasons clashes → IsForced c (id ∷ found) denied marks reasons clashes
  assert_asserted clashes is s =
      IsForced-same c found (id ∷ found) denied denied marks reasons clashes
      (λ j. is_listed-again found id j (sym (s.asserted id) ∙ ap is_asserted is)) (λ j. refl) s

  -- a node that was denied
  pub deny_denied : (clashes : Bool) → mark_at marks id ≡ Denied → IsForced c found denied marks reasons clashes → IsForced c found (id ∷ denied) marks reasons clashes
  deny_denied true is s = record {
    long = s.long;
    asserted = s.asserted;
    few = s.few;
    clash = s.clash;
    free = λ e. absurd (true≢false e);
  }
  deny_denied false is s =
      IsForced-same c found found denied (id ∷ denied) marks reasons false (λ j. refl)
      (λ j. is_listed-again denied id j (sym ((s.free refl).marked id) ∙ ap is_denied is)) s

  -- a node of which nothing was forced
  pub assert_unmarked : (clashes : Bool) → id < length marks → mark_at marks id ≡ Unmarked → Gives c found (plus id) x → IsForced c found denied marks reasons clashes
      → IsForced c (id ∷ found) denied (set marks id Asserted) (cond clashes reasons (reasons ++ x ∷ [])) (cond clashes true false)
  assert_unmarked true inside is g s = record {
    long = length-set marks id Asserted ∙ s.long;
    asserted = test_more marks id Asserted inside is_asserted found refl s.asserted;
    few = omega (arith, s.few, count_set marks id Asserted inside Unmarked is);
    clash = λ _. s.clash refl;
    free = λ e. absurd (true≢false e);
  }
  assert_unmarked false inside is g s =
      let r = s.free refl in
      let none : is_among r.forced (minus id) ≡ false = r.denied_are id ∙ sym (r.marked id) ∙ ap is_denied is in
      let one : open_literals r.forced g.clause ≡ plus id ∷ [] =
      open_is found r.forced r.found_are (plus id) g.clause g.others ∙ ap (λ b. cond (not b) (plus id ∷ []) []) none in
      record {
        long = length-set marks id Asserted ∙ s.long;
        asserted = test_more marks id Asserted inside is_asserted found refl s.asserted;
        few = omega (arith, s.few, count_set marks id Asserted inside Unmarked is, length_push reasons x);
        clash = λ e. absurd (false≢true e);
        free = λ _. record {
          marked = λ j. test_kept marks id Asserted inside is_denied (ap is_denied is) j ∙ r.marked j;
          forced = plus id ∷ r.forced;
          forces = Forces-push r.forces x g.clause (plus id) g.given (ap only_literal one);
          found_are = λ j. ap (λ b. (j == id) || b) (r.found_are j);
          denied_are = λ j. r.denied_are j;
        };
      }

  pub deny_unmarked : (clashes : Bool) → id < length marks → mark_at marks id ≡ Unmarked → Gives c found (minus id) x → IsForced c found denied marks reasons clashes
      → IsForced c found (id ∷ denied) (set marks id Denied) (cond clashes reasons (reasons ++ x ∷ [])) (cond clashes true false)
  deny_unmarked true inside is g s = record {
    long = length-set marks id Denied ∙ s.long;
    asserted = λ j. test_kept marks id Denied inside is_asserted (ap is_asserted is) j ∙ s.asserted j;
    few = omega (arith, s.few, count_set marks id Denied inside Unmarked is);
    clash = λ _. s.clash refl;
    free = λ e. absurd (true≢false e);
  }
  deny_unmarked false inside is g s =
      let r = s.free refl in
      let none : is_among r.forced (plus id) ≡ false = r.found_are id ∙ sym (s.asserted id) ∙ ap is_asserted is in
      let one : open_literals r.forced g.clause ≡ minus id ∷ [] =
      open_is found r.forced r.found_are (minus id) g.clause g.others ∙ ap (λ b. cond (not b) (minus id ∷ []) []) none in
      record {
        long = length-set marks id Denied ∙ s.long;
        asserted = λ j. test_kept marks id Denied inside is_asserted (ap is_asserted is) j ∙ s.asserted j;
        few = omega (arith, s.few, count_set marks id Denied inside Unmarked is, length_push reasons x);
        clash = λ e. absurd (false≢true e);
        free = λ _. record {
          marked = test_more marks id Denied inside is_denied denied refl r.marked;
          forced = minus id ∷ r.forced;
          forces = Forces-push r.forces x g.clause (minus id) g.given (ap only_literal one);
          found_are = λ j. r.found_are j;
          denied_are = λ j. ap (λ b. (j == id) || b) (r.denied_are j);
        };
      }

  -- a node that is forced both ways
  pub assert_denied : (clashes : Bool) → id < length marks → mark_at marks id ≡ Denied → Gives c found (plus id) x → IsForced c found denied marks reasons clashes
      → IsForced c (id ∷ found) denied (set marks id Asserted) (cond clashes reasons (reasons ++ x ∷ [])) (cond clashes true true)
  assert_denied true inside is g s = record {
    long = length-set marks id Asserted ∙ s.long;
    asserted = test_more marks id Asserted inside is_asserted found refl s.asserted;
    few = omega (arith, s.few, count_set marks id Asserted inside Denied is);
    clash = λ _. s.clash refl;
    free = λ e. absurd (true≢false e);
  }
  assert_denied false inside is g s =
      let r = s.free refl in
      let other : is_among r.forced (minus id) ≡ true = r.denied_are id ∙ sym (r.marked id) ∙ ap is_denied is in
      record {
        long = length-set marks id Asserted ∙ s.long;
        asserted = test_more marks id Asserted inside is_asserted found refl s.asserted;
        few = omega (arith, s.few, count_set marks id Asserted inside Denied is, length_push reasons x);
        clash = λ _. record {
          before = reasons;
          last = x;
          parts = refl;
          forced = r.forced;
          forces = r.forces;
          clause = g.clause;
          given = g.given;
          false_of = open_is found r.forced r.found_are (plus id) g.clause g.others ∙ ap (λ b. cond (not b) (plus id ∷ []) []) other;
        };
        free = λ e. absurd (true≢false e);
      }

  pub deny_asserted : (clashes : Bool) → mark_at marks id ≡ Asserted → Gives c found (minus id) x → IsForced c found denied marks reasons clashes
      → IsForced c found (id ∷ denied) marks (cond clashes reasons (reasons ++ x ∷ [])) (cond clashes true true)
  deny_asserted true is g s = record {
    long = s.long;
    asserted = s.asserted;
    few = s.few;
    clash = λ _. s.clash refl;
    free = λ e. absurd (true≢false e);
  }
  deny_asserted false is g s =
      let r = s.free refl in
      let other : is_among r.forced (plus id) ≡ true = r.found_are id ∙ sym (s.asserted id) ∙ ap is_asserted is in
      record {
        long = s.long;
        asserted = s.asserted;
        few = omega (arith, s.few, length_push reasons x);
        clash = λ _. record {
          before = reasons;
          last = x;
          parts = refl;
          forced = r.forced;
          forces = r.forces;
          clause = g.clause;
          given = g.given;
          false_of = open_is found r.forced r.found_are (minus id) g.clause g.others ∙ ap (λ b. cond (not b) (minus id ∷ []) []) other;
        };
        free = λ e. absurd (true≢false e);
      }

-- what holds of the marks, reasons and clashes that a call leaves
pub on_step : {T E : Type 0} (r : Result T E) (P : List Mark → List Reason → Bool → Type 0) (marks marks' : List Mark) (reasons reasons' : List Reason) (clashes clashes' : Bool)
    → marks' ≡ marks → OnOk r (reasons' ≡ reasons) → OnOk r (clashes' ≡ clashes) → P marks reasons clashes → OnOk r (P marks' reasons' clashes')
on_step (Ok u) P marks marks' reasons reasons' clashes clashes' one two three is =
    subst (λ m. P m reasons' clashes') (sym one) (subst (λ r. P marks r clashes') (sym two) (subst (P marks reasons) (sym three) is))
on_step (Err e) P marks marks' reasons reasons' clashes clashes' one two three is = tt

-- a mark that was read
pub mark_read : (marks : List Mark) (id : ℕ) (x m : Mark) → id < length marks → x ≡ slice_index_or marks id x → x ≡ m → mark_at marks id ≡ m
mark_read marks id x m inside is one = sym (get_or_read marks id x inside is Unmarked) ∙ one
