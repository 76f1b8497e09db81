-- What is known of pairs, where lines are appended and dropped, and where no pair is pending.
use Rattle.std.proofs.Common.{◌≡◌, ◌≢◌, ℕ, zero, suc, ◌+◌, ◌<◌, ◌≤◌, ◌⊎◌, List, [], ◌∷◌, ◌++◌, length, get_or, set, take, drop, map, min, Bool, true, false, cond, refl, sym, ap, ◌∙◌, subst, inl, inr, arith, nat_lt, nat_le, filter, length-append, if◌then◌else◌, Contains}
use Rattle.std.proofs.Math.ListN.{get_or-append}
use Rattle.std.proofs.lemmas.Bool.{cases_eq, cases_order}
use Rattle.std.proofs.lemmas.Bool.Decides.{nat_tests}
use Rattle.std.proofs.lemmas.List.{take-append-le, take-append-drop, length-take-le}
use Rattle.std.specs.List.{AllByRecursion}
use Rattle.std.specs.declared.cmp.Ordering.{Ordering}
use Rattle.ffc_field.specs.Modular.{IsPrime}
use Rattle.ffc_ring.specs.Monomial.{Monomial}
use Rattle.ffc_ring.specs.Polynomial.{Terms}
use Rattle.ffc_mono.specs.MonomialOrder.{IsMonomialOrder}
use Rattle.ffc_basis.specs.declared.pair.PairRecord.{PairRecord}
use Rattle.ffc_basis.specs.declared.pair.PairState.{PairState}
use Rattle.ffc_basis.specs.declared.pair.PairState.TheVariants.{Pending, Closed, Represented, Over}
use Rattle.ffc_basis.specs.Completion.{IsPairClosed, IsPairOver, AreOver, IsListed}
use Rattle.ffc_basis.specs.Completed.{IsCompletion}
use Rattle.ffc_line.specs.Lines.{AreLists}
use Rattle.ffc_basis.specs.PairTable.{AreBothClosed, AreNeedless, IsState, IsRecord, AreRecords, HasRecord, ArePairs, AreSettled, AreKnown, AreDone, IsRepresentedState, HasRepresented, settled_one, known_by, forgotten, with_over, over_of, answer_of}
use Rattle.ffc_basis.proofs.LineLemmas.{taken_more}
use Rattle.ffc_basis.proofs.Lists.{any_default, lists_take}
use Rattle.ffc_basis.specs.Representations.{IsPairRepresented, AreBothRepresented, AreAllRepresented}
use Rattle.ffc_basis.proofs.PairLemmas.{grown_pairs_close, same_line_closes}
use Rattle.ffc_basis.proofs.RepresentedLemmas.{grown_pairs_represented, closed_is_represented, both_closed_are_represented}
use Rattle.ffc_basis.proofs.StandardLemmas.{all_closed}
use Rattle.ffc_basis.proofs.PartnerLemmas.{cases_in}

-- ---- lists

get_or-take : {A : Type 0} (n : ℕ) (xs : List A) (i : ℕ) (d : A) → i < n → get_or (take n xs) i d ≡ get_or xs i d
get_or-take zero xs i d h = absurd (omega arith)
get_or-take (suc n) [] i d h = refl
get_or-take (suc n) (x ∷ xs) zero d h = refl
get_or-take (suc n) (x ∷ xs) (suc i) d h = get_or-take n xs i d (omega arith)

take-take : {A : Type 0} (n m : ℕ) (xs : List A) → n ≤ m → take n (take m xs) ≡ take n xs
take-take zero m xs h = refl
take-take (suc n) zero xs h = absurd (omega arith)
take-take (suc n) (suc m) [] h = refl
take-take (suc n) (suc m) (x ∷ xs) h = ap (λ ys. x ∷ ys) (take-take n m xs (omega arith))

take_all : {A : Type 0} (xs : List A) → take (length xs) xs ≡ xs
take_all [] = refl
take_all (x ∷ xs) = ap (λ ys. x ∷ ys) (take_all xs)

no_list : {A : Type 0} (x : A) (xs : List A) → x ∷ xs ≢ []
no_list x xs e = let same : suc (length xs) ≡ 0 = ap length e in omega arith

last_or_before : (i n : ℕ) → i < n + 1 → (i ≡ n) ⊎ (i < n)
last_or_before i n h =
    elim (cases_eq i n) [ inl same ↦ inl same | inr other ↦ inr (omega arith) ]

less_of_test : (a b : ℕ) → nat_lt a b ≡ true → a < b
less_of_test a b h = grind (arith, nat_tests)

not_less_of_test : (a b : ℕ) → nat_lt a b ≡ false → b ≤ a
not_less_of_test a b h = grind (arith, nat_tests)

at_most_of_test : (a b : ℕ) → nat_le a b ≡ true → a ≤ b
at_most_of_test a b h = grind (arith, nat_tests)

module _ (p : ℕ) (cmp : Monomial → Monomial → Ordering) where
  -- ---- lines are appended

  state_grown : (gs more : List Terms) (i j : ℕ) (s : PairState) → IsState p cmp gs i j s → IsState p cmp (gs ++ more) i j s
  state_grown gs more i j Pending v = tt
  state_grown gs more i j (Closed n) (within, after, both) = (
    omega (arith, within, length-append gs more),
    after,
    subst (λ hs. AreBothClosed p cmp hs i j) (sym (take-append-le n gs more within)) both,
  )
  state_grown gs more i j (Represented n) (within, after, both) = (
    omega (arith, within, length-append gs more),
    after,
    subst (λ hs. AreBothRepresented p cmp hs i j) (sym (take-append-le n gs more within)) both,
  )
  state_grown gs more i j (Over n) (within, after, over) = (
    omega (arith, within, length-append gs more),
    after,
    subst (λ hs. IsPairOver p cmp hs i j) (sym (take-append-le n gs more within)) over,
  )

  records_grown : (gs more : List Terms) (rs : List PairRecord) → AreRecords p cmp gs rs → AreRecords p cmp (gs ++ more) rs
  records_grown gs more [] v = tt
  records_grown gs more (r ∷ rs) v = (
    record {
      ordered = v.0.ordered;
      within = omega (arith, v.0.within, length-append gs more);
      state = state_grown gs more r.first r.second r.state v.0.state;
    },
    records_grown gs more rs v.1,
  )

  needless_alike : (a b c d : Terms) → a ≡ c → b ≡ d → AreNeedless p cmp a b → AreNeedless p cmp c d
  needless_alike a b c d e f v = subst (λ x. AreNeedless p cmp x d) e (subst (AreNeedless p cmp a) f v)

  pub pairs_grown : (gs more : List Terms) (rs : List PairRecord) (paired : ℕ) → AreLists (gs ++ more) → ArePairs p cmp gs rs paired → ArePairs p cmp (gs ++ more) rs paired
  pairs_grown gs more rs paired lists v = record {
    lists = lists;
    paired_within = omega (arith, v.paired_within, length-append gs more);
    records = records_grown gs more rs v.records;
    covered = λ i j h g.
        elim (v.covered i j h g) [
          | inl there ↦ inl there
          | inr needless ↦
              let within = v.paired_within in
              inr (needless_alike (get_or gs i []) (get_or gs j []) (get_or (gs ++ more) i []) (get_or (gs ++ more) j [])
              (sym (get_or-append gs more [] i (omega arith))) (sym (get_or-append gs more [] j (omega arith))) needless)
        ];
  }

  -- ---- lines are dropped

  closed_cut : (gs : List Terms) (len i j n : ℕ) (b : Bool) → len ≤ length gs → nat_le n len ≡ b → n ≤ length gs → j < n → AreBothClosed p cmp (take n gs) i j → IsState p cmp (take len gs) i j (if b then Closed n else Pending)
  closed_cut gs len i j n true h is within after both = (
    omega (arith, at_most_of_test n len is, length-take-le len gs h),
    after,
    subst (λ hs. AreBothClosed p cmp hs i j) (sym (take-take n len gs (at_most_of_test n len is))) both,
  )
  closed_cut gs len i j n false h is within after both = tt

  represented_cut : (gs : List Terms) (len i j n : ℕ) (b : Bool) → len ≤ length gs → nat_le n len ≡ b → n ≤ length gs → j < n → AreBothRepresented p cmp (take n gs) i j → IsState p cmp (take len gs) i j (if b then Represented n else Pending)
  represented_cut gs len i j n true h is within after both = (
    omega (arith, at_most_of_test n len is, length-take-le len gs h),
    after,
    subst (λ hs. AreBothRepresented p cmp hs i j) (sym (take-take n len gs (at_most_of_test n len is))) both,
  )
  represented_cut gs len i j n false h is within after both = tt

  over_cut : (gs : List Terms) (len i j n : ℕ) (b : Bool) → len ≤ length gs → nat_le n len ≡ b → n ≤ length gs → j < n → IsPairOver p cmp (take n gs) i j → IsState p cmp (take len gs) i j (if b then Over n else Pending)
  over_cut gs len i j n true h is within after over = (
    omega (arith, at_most_of_test n len is, length-take-le len gs h),
    after,
    subst (λ hs. IsPairOver p cmp hs i j) (sym (take-take n len gs (at_most_of_test n len is))) over,
  )
  over_cut gs len i j n false h is within after over = tt

  state_cut : (gs : List Terms) (len i j : ℕ) (s : PairState) → len ≤ length gs → IsState p cmp gs i j s → IsState p cmp (take len gs) i j (known_by len s)
  state_cut gs len i j Pending h v = tt
  state_cut gs len i j (Closed n) h (within, after, both) = closed_cut gs len i j n (nat_le n len) h refl within after both
  state_cut gs len i j (Represented n) h (within, after, both) = represented_cut gs len i j n (nat_le n len) h refl within after both
  state_cut gs len i j (Over n) h (within, after, over) = over_cut gs len i j n (nat_le n len) h refl within after over

  abbrev left : ℕ → List PairRecord → List PairRecord
  left len rs = map (forgotten len) (filter (λ r. nat_lt r.second len) rs)

  records_cut_first : (gs : List Terms) (len : ℕ) (r : PairRecord) (rs : List PairRecord) (b : Bool) → len ≤ length gs → nat_lt r.second len ≡ b → IsRecord p cmp gs r → AreRecords p cmp (take len gs) (left len rs)
      → AreRecords p cmp (take len gs) (map (forgotten len) (cond b (r ∷ filter (λ x. nat_lt x.second len) rs) (filter (λ x. nat_lt x.second len) rs)))
  records_cut_first gs len r rs true h is v rest = (
    record {
      ordered = v.ordered;
      within = omega (arith, less_of_test r.second len is, length-take-le len gs h);
      state = state_cut gs len r.first r.second r.state h v.state;
    },
    rest,
  )
  records_cut_first gs len r rs false h is v rest = rest

  records_cut : (gs : List Terms) (len : ℕ) (rs : List PairRecord) → len ≤ length gs → AreRecords p cmp gs rs → AreRecords p cmp (take len gs) (left len rs)
  records_cut gs len [] h v = tt
  records_cut gs len (r ∷ rs) h v = records_cut_first gs len r rs (nat_lt r.second len) h refl v.0 (records_cut gs len rs h v.1)

  has_cut_first : (len : ℕ) (r : PairRecord) (rs : List PairRecord) (i j : ℕ) (b : Bool) → nat_lt r.second len ≡ b → j < len → ((r.first ≡ i) × (r.second ≡ j)) ⊎ HasRecord (left len rs) i j
      → HasRecord (map (forgotten len) (cond b (r ∷ filter (λ x. nat_lt x.second len) rs) (filter (λ x. nat_lt x.second len) rs))) i j
  has_cut_first len r rs i j true is low (inl here) = inl here
  has_cut_first len r rs i j true is low (inr there) = inr there
  has_cut_first len r rs i j false is low (inl here) = absurd (omega (arith, here.1, not_less_of_test r.second len is))
  has_cut_first len r rs i j false is low (inr there) = there

  has_cut : (len : ℕ) (rs : List PairRecord) (i j : ℕ) → j < len → HasRecord rs i j → HasRecord (left len rs) i j
  has_cut len [] i j low has = absurd has
  has_cut len (r ∷ rs) i j low (inl here) = has_cut_first len r rs i j (nat_lt r.second len) refl low (inl here)
  has_cut len (r ∷ rs) i j low (inr there) = has_cut_first len r rs i j (nat_lt r.second len) refl low (inr (has_cut len rs i j low there))

  pub pairs_cut : (gs : List Terms) (rs : List PairRecord) (paired len : ℕ) → len ≤ length gs → ArePairs p cmp gs rs paired → ArePairs p cmp (take len gs) (map (forgotten len) (filter (λ r. nat_lt r.second len) rs)) (min paired len)
  pairs_cut gs rs paired len h v = record {
    paired_within = omega (arith, length-take-le len gs h);
    lists = lists_take len gs v.lists;
    records = records_cut gs len rs h v.records;
    covered = λ i j low below.
        elim (v.covered i j low (omega arith)) [
          | inl there ↦ inl (has_cut len rs i j (omega arith) there)
          | inr needless ↦
              inr (needless_alike (get_or gs i []) (get_or gs j []) (get_or (take len gs) i []) (get_or (take len gs) j [])
              (sym (get_or-take len gs i [] (omega arith))) (sym (get_or-take len gs j [] (omega arith))) needless)
        ];
  }

  -- ---- records are appended and changed

  has_push : (rs : List PairRecord) (r : PairRecord) (i j : ℕ) → HasRecord rs i j → HasRecord (rs ++ r ∷ []) i j
  has_push [] r i j has = absurd has
  has_push (x ∷ rs) r i j (inl here) = inl here
  has_push (x ∷ rs) r i j (inr there) = inr (has_push rs r i j there)

  pub has_pushed : (rs : List PairRecord) (r : PairRecord) → HasRecord (rs ++ r ∷ []) r.first r.second
  has_pushed [] r = inl (refl, refl)
  has_pushed (x ∷ rs) r = inr (has_pushed rs r)

  records_push : (gs : List Terms) (rs : List PairRecord) (r : PairRecord) → AreRecords p cmp gs rs → IsRecord p cmp gs r → AreRecords p cmp gs (rs ++ r ∷ [])
  records_push gs [] r v w = (w, tt)
  records_push gs (x ∷ rs) r v w = (v.0, records_push gs rs r v.1 w)

  -- a pending pair more
  pub pairs_push : (gs : List Terms) (rs : List PairRecord) (paired : ℕ) (r : PairRecord) → r.first < r.second → r.second < length gs → r.state ≡ Pending → ArePairs p cmp gs rs paired → ArePairs p cmp gs (rs ++ r ∷ []) paired
  pairs_push gs rs paired r h g is v = record {
    lists = v.lists;
    paired_within = v.paired_within;
    records = records_push gs rs r v.records record { ordered = h; within = g; state = subst (IsState p cmp gs r.first r.second) (sym is) tt };
    covered = λ i j low below.
        elim (v.covered i j low below) [ inl there ↦ inl (has_push rs r i j there) | inr needless ↦ inr needless ];
  }

  -- the pairs of the line with this number and the first i lines are there or needless
  abbrev pub IsColumn : List Terms → List PairRecord → ℕ → ℕ → Type 0
  IsColumn gs rs second first =
      (i : ℕ) → i < first → HasRecord rs i second ⊎ AreNeedless p cmp (get_or gs i []) (get_or gs second [])

  -- each is, or its first line is still among some
  abbrev pub IsOpenColumn : List Terms → List PairRecord → ℕ → List ℕ → Type 0
  IsOpenColumn gs rs second keys =
      (i : ℕ) → i < second → (HasRecord rs i second ⊎ AreNeedless p cmp (get_or gs i []) (get_or gs second [])) ⊎ Contains keys i

  pub open_pushed : (gs : List Terms) (rs : List PairRecord) (second first : ℕ) (rest : List ℕ) (r : PairRecord) → r.first ≡ first → r.second ≡ second
      → IsOpenColumn gs rs second (first ∷ rest) → IsOpenColumn gs (rs ++ r ∷ []) second rest
  open_pushed gs rs second first rest r e f v i h =
      elim (v i h) as (λ _. (HasRecord (rs ++ r ∷ []) i second ⊎ AreNeedless p cmp (get_or gs i []) (get_or gs second [])) ⊎ Contains rest i) [
        | inl (inl there) ↦ inl (inl (has_push rs r i second there))
        | inl (inr needless) ↦ inl (inr needless)
        | inr listed ↦ elim (cases_in first i rest listed) as (λ _. (HasRecord (rs ++ r ∷ []) i second ⊎ AreNeedless p cmp (get_or gs i []) (get_or gs second [])) ⊎ Contains rest i) [
          | inl here ↦ inl (inl (subst (λ x. HasRecord (rs ++ r ∷ []) x second) (e ∙ here) (subst (HasRecord (rs ++ r ∷ []) r.first) f (has_pushed rs r))))
          | inr later ↦ inr later
        ]
      ]

  pub open_ended : (gs : List Terms) (rs : List PairRecord) (second : ℕ) (keys : List ℕ) → length keys ≡ 0 → IsOpenColumn gs rs second keys → IsColumn gs rs second second
  open_ended gs rs second keys none v i h =
      elim (v i h) as (λ _. HasRecord rs i second ⊎ AreNeedless p cmp (get_or gs i []) (get_or gs second [])) [
        | inl known ↦ known
        | inr (k, below, at) ↦ absurd (omega (arith, below, none))
      ]

  -- so each pair of one line more is
  pub pairs_paired : (gs : List Terms) (rs : List PairRecord) (second : ℕ) → second < length gs → ArePairs p cmp gs rs second → IsColumn gs rs second second → ArePairs p cmp gs rs (second + 1)
  pairs_paired gs rs second h v column = record {
    lists = v.lists;
    paired_within = omega (arith, h);
    records = v.records;
    covered = λ i j low below.
        elim (last_or_before j second below) [
          | inl here ↦
              subst (λ x. HasRecord rs i x ⊎ AreNeedless p cmp (get_or gs i []) (get_or gs x [])) (sym here) (column i (subst (λ x. i < x) here low))
          | inr before ↦ v.covered i j low before
        ];
  }

  records_set : (gs : List Terms) (rs : List PairRecord) (place : ℕ) (r : PairRecord) → AreRecords p cmp gs rs → IsRecord p cmp gs r → AreRecords p cmp gs (set rs place r)
  records_set gs [] place r v w = tt
  records_set gs (x ∷ rs) zero r v w = (w, v.1)
  records_set gs (x ∷ rs) (suc place) r v w = (v.0, records_set gs rs place r v.1 w)

  has_set : (rs : List PairRecord) (place : ℕ) (r x : PairRecord) (i j : ℕ) → place < length rs → get_or rs place x ≡ x → r.first ≡ x.first → r.second ≡ x.second → HasRecord rs i j → HasRecord (set rs place r) i j
  has_set [] place r x i j h is e f has = absurd has
  has_set (y ∷ rs) zero r x i j h is e f (inl here) = inl (e ∙ sym (ap (λ z. z.first) is) ∙ here.0, f ∙ sym (ap (λ z. z.second) is) ∙ here.1)
  has_set (y ∷ rs) zero r x i j h is e f (inr there) = inr there
  has_set (y ∷ rs) (suc place) r x i j h is e f (inl here) = inl here
  has_set (y ∷ rs) (suc place) r x i j h is e f (inr there) = inr (has_set rs place r x i j (omega arith) is e f there)

  pub record_at : (gs : List Terms) (rs : List PairRecord) (place : ℕ) (x : PairRecord) → AreRecords p cmp gs rs → place < length rs → IsRecord p cmp gs (get_or rs place x)
  record_at gs [] place x v h = absurd (omega arith)
  record_at gs (r ∷ rs) zero x v h = v.0
  record_at gs (r ∷ rs) (suc place) x v h = record_at gs rs place x v.1 (omega arith)

  pub record_is : (gs : List Terms) (rs : List PairRecord) (paired place : ℕ) (x : PairRecord) → ArePairs p cmp gs rs paired → place < length rs → get_or rs place x ≡ x → IsRecord p cmp gs x
  record_is gs rs paired place x v h is = subst (IsRecord p cmp gs) is (record_at gs rs place x v.records h)

  -- more is known of a pair
  pub pairs_set : (gs : List Terms) (rs : List PairRecord) (paired place : ℕ) (x r : PairRecord) → place < length rs → get_or rs place x ≡ x → r.first ≡ x.first → r.second ≡ x.second
      → IsState p cmp gs x.first x.second r.state → ArePairs p cmp gs rs paired → ArePairs p cmp gs (set rs place r) paired
  pairs_set gs rs paired place x r h is e f state v =
      let old = record_is gs rs paired place x v h is in
      record {
        lists = v.lists;
        paired_within = v.paired_within;
        records = records_set gs rs place r v.records record {
          ordered = omega (arith, old.ordered, e, f);
          within = omega (arith, old.within, f);
          state = subst (λ i. IsState p cmp gs i r.second r.state) (sym e) (subst (λ j. IsState p cmp gs x.first j r.state) (sym f) state);
        };
        covered = λ i j low below.
            elim (v.covered i j low below) [ inl there ↦ inl (has_set rs place r x i j h is e f there) | inr needless ↦ inr needless ];
      }

  -- all lines
  pub state_by_all : (gs : List Terms) (i j : ℕ) → j < length gs → AreBothClosed p cmp gs i j → IsState p cmp gs i j (Closed (length gs))
  state_by_all gs i j h both = (omega arith, h, subst (λ hs. AreBothClosed p cmp hs i j) (sym (take_all gs)) both)

  pub represented_by_all : (gs : List Terms) (i j : ℕ) → j < length gs → AreBothRepresented p cmp gs i j → IsState p cmp gs i j (Represented (length gs))
  represented_by_all gs i j h both = (omega arith, h, subst (λ hs. AreBothRepresented p cmp hs i j) (sym (take_all gs)) both)

  pub over_by_all : (gs : List Terms) (i j : ℕ) → j < length gs → IsPairOver p cmp gs i j → IsState p cmp gs i j (Over (length gs))
  over_by_all gs i j h over = (omega arith, h, subst (λ hs. IsPairOver p cmp hs i j) (sym (take_all gs)) over)

  -- ---- nothing is left to do

  pub closed_by_first : (gs : List Terms) (n i j : ℕ) → n ≤ length gs → i < n → j < n → IsPairClosed p cmp (take n gs) i j → IsPairClosed p cmp gs i j
  closed_by_first gs n i j within low after closed =
      subst (λ hs. IsPairClosed p cmp hs i j) (take-append-drop n gs)
      (grown_pairs_close p cmp (take n gs) (drop n gs) i j (omega (arith, length-take-le n gs within)) (omega (arith, length-take-le n gs within)) closed)

  -- what is closed by the first lines is so by all
  closed_state : (gs : List Terms) (i j : ℕ) (s : PairState) (n : ℕ) → i < j → s ≡ Closed n → IsState p cmp gs i j s → AreBothClosed p cmp gs i j
  closed_state gs i j s n low is v =
      let w : IsState p cmp gs i j (Closed n) = subst (IsState p cmp gs i j) is v in (
        closed_by_first gs n i j w.0 (omega (arith, w.1)) w.1 w.2.0,
        closed_by_first gs n j i w.0 w.1 (omega (arith, w.1)) w.2.1,
      )

  -- a record says so of its pair
  pub closed_record : (gs : List Terms) (rs : List PairRecord) (place : ℕ) (x : PairRecord) (n : ℕ) → AreRecords p cmp gs rs → place < length rs → get_or rs place x ≡ x → x.state ≡ Closed n → AreBothClosed p cmp gs x.first x.second
  closed_record gs rs place x n v h is closed =
      let r : IsRecord p cmp gs x = subst (IsRecord p cmp gs) is (record_at gs rs place x v h) in
      closed_state gs x.first x.second x.state n r.ordered closed r.state

  listed_later : (s : PairState) (t : ℕ × ℕ) (ts : List (ℕ × ℕ)) (i j : ℕ) → IsListed ts i j → IsListed (with_over s t ts) i j
  listed_later Pending t ts i j v = v
  listed_later (Closed n) t ts i j v = v
  listed_later (Represented n) t ts i j v = v
  listed_later (Over n) t ts i j v = inr (inr v)

  settled_first : (gs : List Terms) (s : PairState) (i j : ℕ) (ts : List (ℕ × ℕ)) → settled_one s ≡ 1 → i < j → IsState p cmp gs i j s → IsListed (with_over s (i, j) ts) i j ⊎ AreBothClosed p cmp gs i j
  settled_first gs Pending i j ts done low v = absurd (omega (arith, done))
  settled_first gs (Represented n) i j ts done low v = absurd (omega (arith, done))
  settled_first gs (Closed n) i j ts done low (within, after, both) =
      inr (closed_by_first gs n i j within (omega arith) after both.0, closed_by_first gs n j i within after (omega arith) both.1)
  settled_first gs (Over n) i j ts done low v = inl (inl (refl, refl))

  settled_pair : (gs : List Terms) (rs : List PairRecord) (i j : ℕ) → i < j → AreSettled rs → AreRecords p cmp gs rs → HasRecord rs i j → IsListed (over_of rs) i j ⊎ AreBothClosed p cmp gs i j
  settled_pair gs [] i j low done v has = absurd has
  settled_pair gs (r ∷ rs) i j low done v (inl here) =
      subst (λ x. IsListed (over_of (r ∷ rs)) x j ⊎ AreBothClosed p cmp gs x j) here.0
      (subst (λ x. IsListed (over_of (r ∷ rs)) r.first x ⊎ AreBothClosed p cmp gs r.first x) here.1
      (settled_first gs r.state r.first r.second (over_of rs) done.0 v.0.ordered v.0.state))
  settled_pair gs (r ∷ rs) i j low done v (inr there) =
      elim (settled_pair gs rs i j low done.1 v.1 there) [
        | inl listed ↦ inl (listed_later r.state (r.first, r.second) (over_of rs) i j listed)
        | inr both ↦ inr both
      ]

  listed_turned : (ts : List (ℕ × ℕ)) (i j : ℕ) → IsListed ts i j → IsListed ts j i
  listed_turned [] i j v = absurd v
  listed_turned (t ∷ ts) i j (inl here) = inr (inl here)
  listed_turned (t ∷ ts) i j (inr (inl turned)) = inl turned
  listed_turned (t ∷ ts) i j (inr (inr there)) = inr (inr (listed_turned ts i j there))

  are_over_with : (gs : List Terms) (s : PairState) (i j : ℕ) (ts : List (ℕ × ℕ)) → i < j → IsState p cmp gs i j s → AreOver p cmp gs ts → AreOver p cmp gs (with_over s (i, j) ts)
  are_over_with gs Pending i j ts low v rest = rest
  are_over_with gs (Closed n) i j ts low v rest = rest
  are_over_with gs (Represented n) i j ts low v rest = rest
  are_over_with gs (Over n) i j ts low (within, after, over) rest = ((n, within, omega arith, after, over), rest)

  are_over : (gs : List Terms) (rs : List PairRecord) → AreRecords p cmp gs rs → AreOver p cmp gs (over_of rs)
  are_over gs [] v = tt
  are_over gs (r ∷ rs) v = are_over_with gs r.state r.first r.second (over_of rs) v.0.ordered v.0.state (are_over gs rs v.1)

  module _ (laws : IsMonomialOrder cmp) (positive : 0 < p) where
    each_pair : (gs : List Terms) (rs : List PairRecord) → AreSettled rs → ArePairs p cmp gs rs (length gs) → (i j : ℕ) → i < j → j < length gs → IsListed (over_of rs) i j ⊎ AreBothClosed p cmp gs i j
    each_pair gs rs done v i j low below =
        elim (v.covered i j low below) [
          | inl there ↦ settled_pair gs rs i j low done v.records there
          | inr needless ↦ inr (needless gs i j (omega arith) below refl refl)
        ]

    others : (gs : List Terms) (rs : List PairRecord) → AreSettled rs → ArePairs p cmp gs rs (length gs) → (i j : ℕ) → i < length gs → j < length gs → IsListed (over_of rs) i j ⊎ IsPairClosed p cmp gs i j
    others gs rs done v i j h g =
        elim (cases_order i j) [
          | inr (inl less) ↦ elim (each_pair gs rs done v i j less g) [ inl listed ↦ inl listed | inr both ↦ inr both.0 ]
          | inl same ↦ inr (subst (IsPairClosed p cmp gs i) same (same_line_closes p cmp laws positive gs i))
          | inr (inr more) ↦
              elim (each_pair gs rs done v j i more h) [ inl listed ↦ inl (listed_turned (over_of rs) j i listed) | inr both ↦ inr both.1 ]
        ]

    answer_is : (gs : List Terms) (ts : List (ℕ × ℕ)) → AreOver p cmp gs ts → ((i j : ℕ) → i < length gs → j < length gs → IsListed ts i j ⊎ IsPairClosed p cmp gs i j) → IsCompletion p cmp gs (answer_of ts)
    answer_is gs [] over v = λ i j h g. elim (v i j h g) [ inl none ↦ absurd none | inr closed ↦ closed ]
    answer_is gs (t ∷ ts) over v = record { some = λ none. absurd (no_list t ts none); over = over; others = v }

  -- ---- pairs that are represented

  represented_by_first : (gs : List Terms) (n i j : ℕ) → n ≤ length gs → i < n → j < n → IsPairRepresented p cmp (take n gs) i j → IsPairRepresented p cmp gs i j
  represented_by_first gs n i j within low after known =
      subst (λ hs. IsPairRepresented p cmp hs i j) (take-append-drop n gs)
      (grown_pairs_represented p cmp (take n gs) (drop n gs) i j (omega (arith, length-take-le n gs within)) (omega (arith, length-take-le n gs within)) known)

  no_over_before : (s : PairState) (t : ℕ × ℕ) (ts : List (ℕ × ℕ)) → with_over s t ts ≡ [] → ts ≡ []
  no_over_before Pending t ts none = none
  no_over_before (Closed n) t ts none = none
  no_over_before (Represented n) t ts none = none
  no_over_before (Over n) t ts none = absurd (no_list t ts none)

  module _ (prime : IsPrime p) (laws : IsMonomialOrder cmp) (gs : List Terms) (lists : AreLists gs) where
    represented_state : (s : PairState) (i j : ℕ) → i < j → IsState p cmp gs i j s → IsRepresentedState s → AreBothRepresented p cmp gs i j
    represented_state Pending i j low v known = absurd known
    represented_state (Closed n) i j low (within, after, both) known =
        both_closed_are_represented p prime cmp laws gs lists i j
        (closed_by_first gs n i j within (omega arith) after both.0, closed_by_first gs n j i within after (omega arith) both.1)
    represented_state (Represented n) i j low (within, after, both) known =
        (represented_by_first gs n i j within (omega arith) after both.0, represented_by_first gs n j i within after (omega arith) both.1)
    represented_state (Over n) i j low v known = absurd known

    pub represented_record : (rs : List PairRecord) (i j : ℕ) → AreRecords p cmp gs rs → HasRepresented rs i j → AreBothRepresented p cmp gs i j
    represented_record [] i j v has = absurd has
    represented_record (r ∷ rs) i j v (inl (first, second, known)) =
        subst (λ x. AreBothRepresented p cmp gs x j) first
        (subst (λ x. AreBothRepresented p cmp gs r.first x) second (represented_state r.state r.first r.second v.0.ordered v.0.state known))
    represented_record (r ∷ rs) i j v (inr there) = represented_record rs i j v.1 there

    -- where no limit was passed at a pair, what is known of it is that
    known_state : (s : PairState) (t : ℕ × ℕ) (ts : List (ℕ × ℕ)) → s ≢ Pending → with_over s t ts ≡ [] → IsRepresentedState s
    known_state Pending t ts known none = absurd (known refl)
    known_state (Closed n) t ts known none = tt
    known_state (Represented n) t ts known none = tt
    known_state (Over n) t ts known none = absurd (no_list t ts none)

    known_pair : (rs : List PairRecord) (i j : ℕ) → AreKnown rs → over_of rs ≡ [] → HasRecord rs i j → HasRepresented rs i j
    known_pair [] i j known none has = absurd has
    known_pair (r ∷ rs) i j known none (inl here) =
        inl (here.0, here.1, known_state r.state (r.first, r.second) (over_of rs) known.0 none)
    known_pair (r ∷ rs) i j known none (inr there) =
        inr (known_pair rs i j known.1 (no_over_before r.state (r.first, r.second) (over_of rs) none) there)

    both_represented : (rs : List PairRecord) → AreKnown rs → over_of rs ≡ [] → ArePairs p cmp gs rs (length gs) → (i j : ℕ) → i < j → j < length gs → AreBothRepresented p cmp gs i j
    both_represented rs known none v i j low below =
        elim (v.covered i j low below) [
          | inl there ↦ represented_record rs i j v.records (known_pair rs i j known none there)
          | inr needless ↦ both_closed_are_represented p prime cmp laws gs lists i j (needless gs i j (omega arith) below refl refl)
        ]

    all_represented : (rs : List PairRecord) → AreKnown rs → over_of rs ≡ [] → ArePairs p cmp gs rs (length gs) → AreAllRepresented p cmp gs
    all_represented rs known none v i j h g =
        elim (cases_order i j) [
          | inr (inl less) ↦ (both_represented rs known none v i j less g).0
          | inl same ↦
              closed_is_represented p prime cmp laws gs lists i j
              (subst (IsPairClosed p cmp gs i) same (same_line_closes p cmp laws (omega (arith, prime.least)) gs i))
          | inr (inr more) ↦ (both_represented rs known none v j i more h).1
        ]

  -- then the answer is right
  pub settled_answer_is : (prime : IsPrime p) → (laws : IsMonomialOrder cmp) → (gs : List Terms) (rs : List PairRecord) (paired : ℕ) → paired ≡ length gs → AreDone rs → ArePairs p cmp gs rs paired → IsCompletion p cmp gs (answer_of (over_of rs))
  settled_answer_is prime laws gs rs paired all (inl (known, none)) v =
      let w = subst (ArePairs p cmp gs rs) all v in
      subst (λ ts. IsCompletion p cmp gs (answer_of ts)) (sym none) (all_closed p prime cmp laws gs w.lists (all_represented prime laws gs w.lists rs known none w))
  settled_answer_is prime laws gs rs paired all (inr done) v =
      let w = subst (ArePairs p cmp gs rs) all v in
      answer_is laws (omega (arith, prime.least)) gs (over_of rs) (are_over gs rs v.records) (others laws (omega (arith, prime.least)) gs rs done w)

-- ---- pairs one after another

each_push : (P : PairRecord → Type 0) (rs : List PairRecord) (r : PairRecord) → AllByRecursion P rs → P r → AllByRecursion P (rs ++ r ∷ [])
each_push P [] r v h = (h, tt)
each_push P (x ∷ rs) r v h = (v.0, each_push P rs r v.1 h)

pub each_next : (P : PairRecord → Type 0) (rs : List PairRecord) (i : ℕ) (d : PairRecord) → i < length rs → AllByRecursion P (take i rs) → P (get_or rs i d) → AllByRecursion P (take (i + 1) rs)
each_next P rs i d h v at =
    subst (AllByRecursion P) (sym (taken_more rs i (get_or rs i d) h (any_default rs i d (get_or rs i d) h))) (each_push P (take i rs) (get_or rs i d) v at)

pub not_so : (b : Bool) → b ≡ false → b ≡ true → ⊥
not_so b e f = subst (λ x. cond x (Unit {0}) ⊥) (sym f ∙ e) tt

-- the record at a place says what is known of its pair
pub represented_at : (rs : List PairRecord) (place i j : ℕ) (d : PairRecord) → place < length rs → (get_or rs place d).first ≡ i → (get_or rs place d).second ≡ j → IsRepresentedState (get_or rs place d).state → HasRepresented rs i j
represented_at [] place i j d h first second known = absurd (omega arith)
represented_at (r ∷ rs) zero i j d h first second known = inl (first, second, known)
represented_at (r ∷ rs) (suc place) i j d h first second known = inr (represented_at rs place i j d (omega arith) first second known)
