-- What follows from a solver's clauses as they change.
use Rattle.std.proofs.Common.{◌≡◌, ℕ, ◌<◌, ◌≤◌, Bool, true, List, [], ◌∷◌, ◌++◌, length, get_or, take, All, Some, slice_get, option_map, sym, ap, ◌∙◌, subst, arith}
use Rattle.std.specs.List.{AllByRecursion, range_with_len}
use Rattle.std.proofs.lemmas.List.{map-append, take-map, length-append, length-take, take-take, take-append-le, get_or_append_left}
use Rattle.std.proofs.lemmas.List.Elements.{All-weaker, All-take, All-map, All-push}
use Rattle.std.proofs.lemmas.Option.{slice_get-map, slice_get-get_or, slice_get_within, get_or_from_slice_get}
use Rattle.ffc_clause.specs.Clauses.{Clause, clause_holds}
use Rattle.ffc_clause.specs.Hints.{follows}
use Rattle.ffc_clause.specs.Laws.{HintsAreSound}
use Rattle.ffc_cdcl.specs.declared.solver.Learned.{Learned}
use Rattle.ffc_cdcl.specs.State.{Kept, AllBelow, AllHold, Implies, kept_clauses}
use Rattle.ffc_cdcl.specs.Resting.{RestsOn, IsResting, learned_clauses}

pub all_at : {X : Type 0} (P : X → Type 0) (xs : List X) (k : ℕ) (x : X) → All P xs → slice_get xs k ≡ Some x → P x
all_at P xs k x all at = subst P (get_or_from_slice_get xs k x x at) (all k x (slice_get_within xs k x at))

all_left : {X : Type 0} (P : X → Type 0) (xs ys : List X) → All P (xs ++ ys) → All P xs
all_left P xs ys all = λ k d inside. subst P (get_or_append_left xs ys d k inside) (all k d (omega (arith, inside, length-append xs ys)))

-- from more added clauses
pub implies_more : (added lemmas : List Clause) (m n : ℕ) (clause : Clause) → m ≤ n → Implies (take m added) lemmas clause → Implies (take n added) lemmas clause
implies_more added lemmas m n clause le implied truth holds =
    implied truth (subst (AllHold truth) (take-take m n added le) (All-take (λ c. clause_holds truth c ≡ true) m (take n added) holds))

pub implies_all : (added lemmas : List Clause) (m : ℕ) (clause : Clause) → Implies (take m added) lemmas clause → Implies added lemmas clause
implies_all added lemmas m clause implied truth holds = implied truth (All-take (λ c. clause_holds truth c ≡ true) m added holds)

-- a kept lemma is among the lemmas
lemma_implied : (kept : List Kept) (k : ℕ) (lemma : Kept) → slice_get kept k ≡ Some lemma → Implies [] (kept_clauses kept) lemma.1
lemma_implied kept k lemma at truth holds all =
    all_at (λ c. clause_holds truth c ≡ true) (kept_clauses kept) k lemma.1 all (slice_get-map (λ (l : Kept). l.1) kept k ∙ ap (option_map (λ (l : Kept). l.1)) at)

pub lemma_at : (kept : List Kept) (k : ℕ) (lemma : Kept) (clause : Clause) → k < length kept → lemma ≡ get_or kept k lemma → clause ≡ lemma.1 → Implies [] (kept_clauses kept) clause
lemma_at kept k lemma clause inside at is = subst (Implies [] (kept_clauses kept)) (sym is) (lemma_implied kept k lemma (slice_get-get_or kept k lemma inside ∙ ap Some (sym at)))

rests_more : (added : List Clause) (kept : List Kept) (clause : Clause) (x : Learned) → RestsOn added kept x → RestsOn (added ++ clause ∷ []) kept x
rests_more added kept clause x rests = record {
  base = omega (arith, rests.base, length-append added (clause ∷ []));
  implied = subst (λ cs. Implies cs (kept_clauses kept) x.clause) (sym (take-append-le x.base added (clause ∷ []) rests.base)) rests.implied;
}

rests_lemma : (added : List Clause) (kept : List Kept) (lemma : Kept) (x : Learned) → RestsOn added kept x → RestsOn added (kept ++ lemma ∷ []) x
rests_lemma added kept lemma x rests = record {
  base = rests.base;
  implied = λ truth holds all. rests.implied truth holds (all_left (λ c. clause_holds truth c ≡ true) (kept_clauses kept) (lemma.1 ∷ []) (subst (AllHold truth) (map-append (λ (l : Kept). l.1) kept (lemma ∷ [])) all));
}

rests_cut : (added : List Clause) (kept : List Kept) (n : ℕ) (x : Learned) → x.base ≤ n → RestsOn added kept x → RestsOn (take n added) kept x
rests_cut added kept n x le rests = record {
  base = omega (arith, rests.base, length-take n added);
  implied = subst (λ cs. Implies cs (kept_clauses kept) x.clause) (sym (take-take x.base n added le)) rests.implied;
}

module _ (nodes : ℕ) (added : List Clause) (kept : List Kept) (learned : List Learned) (resting : IsResting nodes added kept learned) where
  pub resting_more : (clause : Clause) → AllBelow nodes clause → IsResting nodes (added ++ clause ∷ []) kept learned
  resting_more clause below = record {
    named = All-push (AllBelow nodes) added clause resting.named below;
    rest = All-weaker (RestsOn added kept) (RestsOn (added ++ clause ∷ []) kept) (rests_more added kept clause) learned resting.rest;
  }

  pub resting_lemma : (lemma : Kept) → IsResting nodes added (kept ++ lemma ∷ []) learned
  resting_lemma lemma = record {
    named = resting.named;
    rest = All-weaker (RestsOn added kept) (RestsOn added (kept ++ lemma ∷ [])) (rests_lemma added kept lemma) learned resting.rest;
  }

  pub resting_cut : (n m : ℕ) → All (λ (x : Learned). x.base ≤ n) (take m learned) → IsResting nodes (take n added) kept (take m learned)
  resting_cut n m low = record {
    named = All-take (AllBelow nodes) n added resting.named;
    rest = λ k d inside. rests_cut added kept n _ (low k d inside) (All-take (RestsOn added kept) m learned resting.rest k d inside);
  }

  pub resting_learned : (x : Learned) → RestsOn added kept x → IsResting nodes added kept (learned ++ x ∷ [])
  resting_learned x rests = record { named = resting.named; rest = All-push (RestsOn added kept) learned x resting.rest rests }

  pub learned_implied : All (Implies added (kept_clauses kept)) (learned_clauses learned)
  learned_implied =
      All-map (Implies added (kept_clauses kept)) (λ (x : Learned). x.clause) learned
      (All-weaker (RestsOn added kept) (λ (x : Learned). Implies added (kept_clauses kept) x.clause) (λ x rests. implies_all added (kept_clauses kept) x.base x.clause rests.implied) learned resting.rest)

pub hints_true : (truth : ℕ → Bool) (taken : List Clause) → AllHold truth taken → (hints : List ℕ) → AllByRecursion (λ hint. (hinted : Clause) → slice_get taken hint ≡ Some hinted → clause_holds truth hinted ≡ true) hints
hints_true truth taken all [] = tt
hints_true truth taken all (h ∷ hints) = (λ hinted at. all_at (λ c. clause_holds truth c ≡ true) taken h hinted all at, hints_true truth taken all hints)

-- a clause that follows by implied clauses
pub follows_implied : HintsAreSound → (added lemmas taken : List Clause) (clause : Clause) → All (Implies added lemmas) taken → follows taken clause (range_with_len 0 (length taken)) ≡ true → Implies added lemmas clause
follows_implied sound added lemmas taken clause implied is truth holds all =
    sound truth taken clause (range_with_len 0 (length taken)) (hints_true truth taken (All-weaker (Implies added lemmas) (λ c. clause_holds truth c ≡ true) (λ c i. i truth holds all) taken implied) (range_with_len 0 (length taken))) is

pub implied_push : (added lemmas taken : List Clause) (m n : ℕ) (clause : Clause) → m ≤ n → All (Implies (take m added) lemmas) taken → Implies (take n added) lemmas clause → All (Implies (take n added) lemmas) (taken ++ clause ∷ [])
implied_push added lemmas taken m n clause le all implied =
    All-push (Implies (take n added) lemmas) taken clause (All-weaker (Implies (take m added) lemmas) (Implies (take n added) lemmas) (λ c. implies_more added lemmas m n c le) taken all) implied

pub learned_cut : (learned : List Learned) (n : ℕ) → learned_clauses (take n learned) ≡ take n (learned_clauses learned)
learned_cut learned n = sym (take-map (λ (x : Learned). x.clause) n learned)
