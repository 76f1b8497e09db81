-- Lines that are marked one after another, and the paths that lead to them.
use Rattle.std.proofs.Common.{◌≡◌, ◌⊎◌, ℕ, zero, suc, ◌+◌, ◌<◌, ◌≤◌, Bool, true, false, List, [], ◌∷◌, ◌++◌, length, get_or, take, refl, sym, ap, ◌∙◌, subst, inl, inr, arith, Result, Ok, Err, IfOk}
use Rattle.std.proofs.lemmas.Bool.{cases_eq, false≢true}
use Rattle.std.proofs.lemmas.List.{take_more}
use Rattle.ffc_ring.specs.Polynomial.{Terms}
use Rattle.ffc_line.specs.declared.line.Line.{Line}
use Rattle.ffc_line.specs.Lines.{Parts, polys_of, AreBefore, AreLinesFrom, AreLines}
use Rattle.ffc_stack.specs.Generators.{parts_at, Names, IsPath, LeadsTo}
use Rattle.ffc_stack.specs.Marks.{IsMarked, IsMarkedBy, IsMarkedFrom, IsReachedTo}

-- marks

pub marked_within : (marks : List Bool) (n : ℕ) → get_or marks n false ≡ true → n < length marks
marked_within [] n e = absurd (false≢true e)
marked_within (b ∷ marks) zero e = omega arith
marked_within (b ∷ marks) (suc n) e = omega (arith, marked_within marks n e)

-- parts

names_push : (ps : Parts) (t : ℕ × Terms) (k : ℕ) → Names (ps ++ t ∷ []) k → Names ps k ⊎ (t.0 ≡ k)
names_push [] t k (inl e) = inr e
names_push [] t k (inr none) = absurd none
names_push (p ∷ ps) t k (inl e) = inl (inl e)
names_push (p ∷ ps) t k (inr rest) = elim (names_push ps t k rest) [ inl found ↦ inl (inr found) | inr e ↦ inr e ]

names_first : (ps : Parts) (t : ℕ × Terms) (k : ℕ) → Names ps k → Names (ps ++ t ∷ []) k
names_first [] t k none = absurd none
names_first (p ∷ ps) t k (inl e) = inl e
names_first (p ∷ ps) t k (inr rest) = inr (names_first ps t k rest)

names_last : (ps : Parts) (t : ℕ × Terms) (k : ℕ) → t.0 ≡ k → Names (ps ++ t ∷ []) k
names_last [] t k e = inl e
names_last (p ∷ ps) t k e = inr (names_last ps t k e)

marked_by_push : (ps : Parts) (t : ℕ × Terms) (old mid new : List Bool) → IsMarkedBy ps old mid → IsMarked t.0 mid new → IsMarkedBy (ps ++ t ∷ []) old new
marked_by_push ps t old mid new v w =
    let still : (h : ℕ) → get_or mid h false ≡ true → get_or new h false ≡ true = λ h e.
    elim (cases_eq h t.0) [
      | inl here ↦ ap (λ k. get_or new k false) here ∙ w.here (subst (λ k. k < length mid) here (marked_within mid h e))
      | inr other ↦ w.others h other ∙ e
    ] in
    record {
      len = w.len ∙ v.len;
      kept = λ h e. still h (v.kept h e);
      named = λ h within found.
          elim (names_push ps t h found) [
            | inl before ↦ still h (v.named h within before)
            | inr e ↦ ap (λ k. get_or new k false) (sym e) ∙ w.here (omega (arith, e, within, v.len))
          ];
      only = λ h e.
          elim (cases_eq h t.0) [
            | inl here ↦ inr (names_last ps t h (sym here))
            | inr other ↦ elim (v.only h (sym (w.others h other) ∙ e)) [ inl before ↦ inl before | inr found ↦ inr (names_first ps t h found) ]
          ];
    }

pub marked_by_more : (ps : Parts) (i : ℕ) (t : ℕ × Terms) (old mid new : List Bool) → i < length ps → IsMarkedBy (take i ps) old mid → IsMarked (get_or ps i t).0 mid new → IsMarkedBy (take (i + 1) ps) old new
marked_by_more ps i t old mid new h v w =
    subst (λ (ks : Parts). IsMarkedBy ks old new) (sym (take_more ps i t h)) (marked_by_push (take i ps) (get_or ps i t) old mid new v w)

-- parts name earlier lines

pub parts_there : {F O : Type 0} (ls : List (Line F O)) (i : ℕ) (l : Line F O) → i < length ls → parts_at ls i ≡ (get_or ls i l).parts.items
parts_there [] i l h = absurd (omega arith)
parts_there (k ∷ ls) zero l h = refl
parts_there (k ∷ ls) (suc i) l h = parts_there ls i l (omega arith)

parts_past : {F O : Type 0} (ls : List (Line F O)) (i : ℕ) → length ls ≤ i → parts_at ls i ≡ []
parts_past [] i h = refl
parts_past (l ∷ ls) zero h = absurd (omega arith)
parts_past (l ∷ ls) (suc i) h = parts_past ls i (omega arith)

named_before : (n : ℕ) (ps : Parts) (k : ℕ) → AreBefore n ps → Names ps k → k < n
named_before n [] k v none = absurd none
named_before n (t ∷ ps) k v (inl e) = omega (arith, v.0, e)
named_before n (t ∷ ps) k v (inr rest) = named_before n ps k v.1 rest

parts_before : {F O : Type 0} (p : ℕ) (gs : List Terms) (n : ℕ) (ls : List (Line F O)) (i : ℕ) → AreLinesFrom p gs n ls → AreBefore (n + i) (parts_at ls i)
parts_before p gs n [] i v = tt
parts_before p gs n (l ∷ ls) zero v = subst (λ m. AreBefore m l.parts.items) (omega arith) v.0.0
parts_before p gs n (l ∷ ls) (suc i) v = subst (λ m. AreBefore m (parts_at ls i)) (omega arith) (parts_before p gs (suc n) ls i v.1)

pub names_below : {F O : Type 0} (p : ℕ) (ls : List (Line F O)) (i k : ℕ) → AreLines p ls → Names (parts_at ls i) k → k < i
names_below p ls i k v found = omega (arith, named_before (0 + i) (parts_at ls i) k (parts_before p (polys_of ls) 0 ls i v) found)

-- paths

path_push : {F O : Type 0} (ls : List (Line F O)) (i : ℕ) (ks : List ℕ) (j k : ℕ) → IsPath ls i ks j → Names (parts_at ls j) k → IsPath ls i (ks ++ k ∷ []) k
path_push ls i [] j k e found = (subst (λ n. Names (parts_at ls n) k) (sym e) found, refl)
path_push ls i (n ∷ ks) j k v found = (v.0, path_push ls n ks j k v.1 found)

leads_further : {F O : Type 0} (ls : List (Line F O)) (i j k : ℕ) → LeadsTo ls i j → Names (parts_at ls j) k → LeadsTo ls i k
leads_further ls i j k (ks, path) found = (ks ++ k ∷ [], path_push ls i ks j k path found)

-- the marks that are reached

pub reached_first : {F O : Type 0} (ls : List (Line F O)) (i : ℕ) (none marks : List Bool) → length none ≡ length ls → ((h : ℕ) → get_or none h false ≡ false) → IsMarked i none marks → IsReachedTo ls i (length ls) marks
reached_first ls i none marks long empty v = record {
  len = v.len ∙ long;
  first = λ h. v.here (omega (arith, h, long));
  leads = λ h e.
      elim (cases_eq h i) [
        | inl here ↦ ([], sym here)
        | inr other ↦ absurd (false≢true (sym (empty h) ∙ sym (v.others h other) ∙ e))
      ];
  closed = λ h k past e. absurd (omega (arith, past, marked_within marks h e, v.len, long));
}

cases_bool : (b : Bool) → (b ≡ true) ⊎ (b ≡ false)
cases_bool true = inl refl
cases_bool false = inr refl

passed_step : {F O : Type 0} (ls : List (Line F O)) (i place top : ℕ) (old : List Bool) → top ≡ place + 1 → IsReachedTo ls i top old → get_or old place false ≡ false → IsReachedTo ls i place old
passed_step ls i place top old next v unmarked = record {
  len = v.len;
  first = v.first;
  leads = v.leads;
  closed = λ h k past e found.
      elim (cases_eq h place) [
        | inl here ↦ absurd (false≢true (sym unmarked ∙ ap (λ n. get_or old n false) (sym here) ∙ e))
        | inr other ↦ v.closed h k (omega arith) e found
      ];
}

marked_step : {F O : Type 0} (p : ℕ) (ls : List (Line F O)) (i place top : ℕ) (old new : List Bool) → AreLines p ls → place < length ls → top ≡ place + 1 → IsReachedTo ls i top old → get_or old place false ≡ true → IsMarkedBy (parts_at ls place) old new → IsReachedTo ls i place new
marked_step p ls i place top old new lines within next v marked by = record {
  len = by.len ∙ v.len;
  first = λ h. by.kept i (v.first h);
  leads = λ h e. elim (by.only h e) [ inl before ↦ v.leads h before | inr found ↦ leads_further ls i place h (v.leads place marked) found ];
  closed = λ h k past e found.
      elim (by.only h e) [
        | inl before ↦
            elim (cases_eq h place) [
              | inl here ↦
                  by.named k (omega (arith, v.len, within, here, names_below p ls h k lines found)) (subst (λ n. Names (parts_at ls n) k) here found)
              | inr other ↦ by.kept k (v.closed h k (omega arith) before found)
            ]
        | inr named ↦ absurd (omega (arith, past, names_below p ls place h lines named))
      ];
}

pub reached_step : {F O : Type 0} (p : ℕ) (ls : List (Line F O)) (i place top : ℕ) (old new : List Bool) → AreLines p ls → place < length ls → top ≡ place + 1 → IsReachedTo ls i top old → IsMarkedFrom ls place old new → IsReachedTo ls i place new
reached_step p ls i place top old new lines within next v w =
    elim (cases_bool (get_or old place false)) [
      | inl marked ↦ marked_step p ls i place top old new lines within next v marked (w.marked marked)
      | inr not ↦ subst (IsReachedTo ls i place) (sym (w.unmarked not)) (passed_step ls i place top old next v not)
    ]

reached_path : {F O : Type 0} (ls : List (Line F O)) (i : ℕ) (marks : List Bool) → IsReachedTo ls i 0 marks → (j : ℕ) (ks : List ℕ) (n : ℕ) → get_or marks j false ≡ true → IsPath ls j ks n → get_or marks n false ≡ true
reached_path ls i marks v j [] n marked e = ap (λ k. get_or marks k false) (sym e) ∙ marked
reached_path ls i marks v j (k ∷ ks) n marked path =
    reached_path ls i marks v k ks n (v.closed j k (omega arith) marked path.0) path.1

nowhere : {F O : Type 0} (ls : List (Line F O)) (i n : ℕ) → length ls ≤ i → n < length ls → (ks : List ℕ) → IsPath ls i ks n → ⊥
nowhere ls i n past within [] e = omega (arith, past, within, e)
nowhere ls i n past within (k ∷ ks) path = subst (λ (ps : Parts). Names ps k) (parts_past ls i past) path.0

below_or_past : (a b : ℕ) → (a < b) ⊎ (b ≤ a)
below_or_past a zero = inr (omega arith)
below_or_past zero (suc b) = inl (omega arith)
below_or_past (suc a) (suc b) = elim (below_or_past a b) [ inl h ↦ inl (omega arith) | inr h ↦ inr (omega arith) ]

pub reached_all : {F O : Type 0} (ls : List (Line F O)) (i : ℕ) (marks : List Bool) → IsReachedTo ls i 0 marks → (n : ℕ) → n < length ls → LeadsTo ls i n → get_or marks n false ≡ true
reached_all ls i marks v n within (ks, path) =
    elim (below_or_past i (length ls)) [
      | inl inside ↦ reached_path ls i marks v i ks n (v.first inside) path
      | inr past ↦ absurd (nowhere ls i n past within ks path)
    ]

-- a claim of what is answered, if anything

pub if_ok : {T E : Type 0} (r : Result T E) (P Q : T → Type 0) → ((x : T) → P x → Q x) → IfOk r P → IfOk r Q
if_ok (Ok x) P Q f h = f x h
if_ok (Err e) P Q f h = tt
